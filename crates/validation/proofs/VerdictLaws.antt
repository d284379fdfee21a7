-- Which refusal the verdict is, and the answer that it makes.
use Rattle.rows.proofs.Kit.{◌≡◌, refl, sym, ◌∙◌, Bool, true, false, List, ℕ, ◌≤◌, length}
use Rattle.igvm_defs.{specs.declared.Fault.Fault, specs.declared.Refusal.Refusal, specs.Refusals.{no_fault, no_refusal, is_fault, is_refusal, in_row}, proofs.RefusalLaws.{no_fault_lem, row_refusal_lem, no_fault_row, or_else_first, or_else_later}}
use Rattle.sheet.{specs.declared.SheetHead.SheetHead, specs.Head.{Limits, limits, head_of, bodies_at, start_fault, page_size_fault}, specs.Read.{Readable, rows_refusal, sheet_refusal}, proofs.Readable.{start_says, started_bounds, sheet_says, readable_bounds}, proofs.ReadLaws.{start_stop, sheet_stop, sheet_end}}
use Rattle.sheet_headers.specs.Headers.{sheet_headers}
use Rattle.rules.{specs.Accepted.NotRefused, specs.Headers.Headers, specs.Verdict.{platforms_refusal, initializations_refusal, directives_refusal, headers_refusal}, proofs.VerdictLaws.{headers_platforms, headers_initializations, headers_directives, headers_none}}
use Rattle.answers.{specs.declared.Verdict.Verdict, specs.Verdict.{verdict_refusal, verdict_of}, proofs.AnswerLaws.accepted_readable}

-- ---- the refusal of a check of the whole sheet, or of a row

pub row_none : (row : ℕ) (f : Fault) → f ≡ no_fault → in_row row f ≡ no_refusal
row_none row f e = no_fault_row row f (rw e no_fault_lem)

pub row_refuses : (row : ℕ) (f : Fault) → is_fault f ≡ true → is_refusal (in_row row f) ≡ true
row_refuses row f t = rw row_refusal_lem t

pub none_refuses : (r : Refusal) → r ≡ no_refusal → is_refusal r ≡ false
unfolding is_refusal
none_refuses r e = rw e refl

-- the answer to a file that is refused
abbrev pub refused_verdict : Refusal → Verdict
refused_verdict r = record { refusal = r; platforms = 0; initializations = 0; directives = 0 }

module _ (l : Limits) (s : List ℕ) where
  pub started : start_fault l s ≡ no_fault → is_fault (start_fault l s) ≡ false
  started e = rw e no_fault_lem

  -- no more initialization rows than there is room for
  pub started_rows : is_fault (start_fault limits s) ≡ false → (head_of s).initializations ≤ 64
  started_rows e = (started_bounds s ((start_says limits s).0 e)).initializations

  -- the table lies in the sheet
  pub started_table : (h : SheetHead) → h ≡ head_of s → is_fault (start_fault l s) ≡ false → bodies_at h ≤ length s
  started_table h q e = rw q ((start_says l s).0 e).table

  -- ---- the refusal

  -- the head, or the table
  pub verdict_start : is_fault (start_fault l s) ≡ true → verdict_refusal l s ≡ in_row 0 (start_fault l s)
  unfolding verdict_refusal
  verdict_start e =
      let q = start_stop l s e in let r : is_refusal (sheet_refusal l s) ≡ true = rw (q, row_refusal_lem) e in
      or_else_first (sheet_refusal l s) _ r ∙ q

  -- the rows
  pub verdict_rows : is_fault (start_fault l s) ≡ false → is_refusal (rows_refusal s) ≡ true → verdict_refusal l s ≡ rows_refusal s
  unfolding verdict_refusal
  verdict_rows e t =
      let q = sheet_stop l s e t in let r : is_refusal (sheet_refusal l s) ≡ true = rw q t in
      or_else_first (sheet_refusal l s) _ r ∙ q

  -- the page size
  pub verdict_size : is_fault (start_fault l s) ≡ false → is_refusal (rows_refusal s) ≡ false → is_refusal (in_row 0 (page_size_fault (head_of s))) ≡ true
      → verdict_refusal l s ≡ in_row 0 (page_size_fault (head_of s))
  unfolding verdict_refusal
  verdict_size e r t =
      let q = sheet_end l s e r in let u : is_refusal (sheet_refusal l s) ≡ true = rw q t in
      or_else_first (sheet_refusal l s) _ u ∙ q

  -- none of these
  pub sheet_none : is_fault (start_fault l s) ≡ false → is_refusal (rows_refusal s) ≡ false → is_refusal (in_row 0 (page_size_fault (head_of s))) ≡ false
      → is_refusal (sheet_refusal l s) ≡ false
  sheet_none e r t = rw (sheet_end l s e r) t

  pub sheet_unrefused : is_fault (start_fault l s) ≡ false → is_refusal (rows_refusal s) ≡ false → in_row 0 (page_size_fault (head_of s)) ≡ no_refusal
      → is_refusal (sheet_refusal l s) ≡ false
  sheet_unrefused e r z = none_refuses (sheet_refusal l s) (sheet_end l s e r ∙ z)

  -- the headers
  pub verdict_headers : is_refusal (sheet_refusal l s) ≡ false → verdict_refusal l s ≡ headers_refusal (sheet_headers s)
  unfolding verdict_refusal
  verdict_headers e = or_else_later (sheet_refusal l s) _ e

  -- where none but 7 may apply
  pub verdict_last : is_fault (start_fault l s) ≡ false → is_refusal (rows_refusal s) ≡ false → NotRefused (sheet_headers s)
      → verdict_refusal l s ≡ in_row 0 (page_size_fault (head_of s))
  verdict_last e r h = go (is_fault (page_size_fault (head_of s))) refl
    where
      go : (b : Bool) → is_fault (page_size_fault (head_of s)) ≡ b → verdict_refusal l s ≡ in_row 0 (page_size_fault (head_of s))
      go true t = verdict_size e r (row_refuses 0 (page_size_fault (head_of s)) t)
      go false t =
          let z = no_fault_row 0 (page_size_fault (head_of s)) t in
          verdict_headers (sheet_unrefused e r z) ∙ headers_none (sheet_headers s) h ∙ sym z

  -- ---- the answer

  pub verdict_refused : is_refusal (verdict_refusal l s) ≡ true → verdict_of l s ≡ refused_verdict (verdict_refusal l s)
  unfolding verdict_of
  verdict_refused t = rw t

  pub verdict_accepted : verdict_refusal l s ≡ no_refusal
      → verdict_of l s ≡ record { refusal = no_refusal; platforms = (head_of s).platforms; initializations = (head_of s).initializations; directives = (head_of s).directives }
  unfolding verdict_of is_refusal
  verdict_accepted e = rw e

  -- none of 1 to 6 refuses an accepted sheet
  pub accepted_reads : verdict_refusal l s ≡ no_refusal → Readable l s
  accepted_reads e = accepted_readable l s (none_refuses (verdict_refusal l s) e)

  -- nor a sheet that none of 1 to 7 refuses
  pub sheet_reads : is_refusal (sheet_refusal l s) ≡ false → Readable l s
  sheet_reads e = ((sheet_says l s).0 e).0

-- no more initialization rows of a readable sheet than there is room for
pub readable_rows : (s : List ℕ) → Readable limits s → (head_of s).initializations ≤ 64
readable_rows s ok = (readable_bounds s ok).initializations

-- ---- the lists

module _ (h : Headers) where
  pub headers_first : is_refusal (platforms_refusal h) ≡ true → headers_refusal h ≡ platforms_refusal h
  headers_first t = headers_platforms h t

  pub headers_second : platforms_refusal h ≡ no_refusal → is_refusal (initializations_refusal h) ≡ true → headers_refusal h ≡ initializations_refusal h
  headers_second p t = headers_initializations h (none_refuses (platforms_refusal h) p) t

  pub headers_third : platforms_refusal h ≡ no_refusal → initializations_refusal h ≡ no_refusal → headers_refusal h ≡ directives_refusal h
  headers_third p i = headers_directives h (none_refuses (platforms_refusal h) p) (none_refuses (initializations_refusal h) i)

pub ruleset verdicts = (started, started_rows, started_table, none_refuses, row_none, row_refuses, verdict_start, verdict_rows, verdict_size, sheet_unrefused, verdict_headers)

pub ruleset answers = (verdict_refused, verdict_accepted)

pub ruleset headers = (readable_rows, headers_first, headers_second, headers_third)

pub ruleset accepted = (accepted_reads, started_rows)

pub ruleset rows = (row_none, row_refuses)
