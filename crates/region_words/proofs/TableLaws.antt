-- The row of a mask's page table, one row at a time.
use Rattle.std.specs.Prelude.{Some, None, is_none, MatchOption, ⊤}
use Rattle.std.specs.Prelude as rust
use Rattle.rows.{proofs.Kit.{◌≡◌, refl, ◌∙◌, Bool, true, false, not, cond, ◌&&◌, Option, List, ℕ, ◌+◌, ◌≤◌, ◌<◌, arith}, specs.Below.{sum_below, nth_below}, specs.Rows.before, specs.Answered.option_of}
use Rattle.sheet.{specs.Head.head_of, specs.Table.{row_kind, body_of}}
use Rattle.initialization_header.{specs.declared.IgvmInitializationHeader.IgvmInitializationHeader, specs.Initializations.initialization_of}
use Rattle.rules.specs.{declared.PageTableRegion.PageTableRegion, Options.then, Relocations.{is_page_table, page_table_of, page_table_at}}
use Rattle.answers.specs.Relocations.{sheet_initializations}
use Rattle.regions.proofs.FoundLaws.{is_there, table_is_found, table_more}

-- the header of a row
abbrev pub header_at : List ℕ → ℕ → IgvmInitializationHeader
header_at s row = initialization_of (row_kind s row) (body_of s row)

-- the mask's page table among the first i rows
abbrev pub table_to : List ℕ → ℕ → ℕ → Option PageTableRegion
table_to s given i = page_table_at (before i (sheet_initializations s)) given

-- a row, where one is there, is one of the first n initialization rows
abbrev pub RowWithin : List ℕ → ℕ → rust.Option ℕ → Type 0
RowWithin s n t = MatchOption t ⊤ (λ row. ((head_of s).platforms ≤ row) × (row < (head_of s).platforms + n))

-- t is the row of the mask's page table among the first i rows, none where there is none
pub record TableRow (s : List ℕ) (given i : ℕ) (t : rust.Option ℕ) : Type 0 where
  pub within : RowWithin s i t
  pub missing : is_none t ≡ not (is_there (table_to s given i))
  pub table : then (option_of t) (λ row. page_table_of (header_at s row)) ≡ table_to s given i

pub table_none : (s : List ℕ) (given : ℕ) → TableRow s given 0 None
unfolding page_table_at sum_below nth_below
table_none s given = record { within = tt; missing = refl; table = refl }

wider : (s : List ℕ) (i : ℕ) (t : rust.Option ℕ) → RowWithin s i t → RowWithin s (i + 1) t
wider s i None w = tt
wider s i (Some row) (low, high) = (low, omega arith)

module _ (s : List ℕ) (given i row : ℕ) where
  so_far : (t : rust.Option ℕ) (is : Bool) → is_page_table given ((sheet_initializations s).row i) ≡ is → TableRow s given i t
      → table_to s given (i + 1) ≡ cond (is && is_none t) (page_table_of ((sheet_initializations s).row i)) (table_to s given i)
  so_far t is p old = table_more (sheet_initializations s) given i ∙ rw (← old.missing, p)

  kept : (t : rust.Option ℕ) → TableRow s given i t → table_to s given (i + 1) ≡ table_to s given i → TableRow s given (i + 1) t
  kept t old m = record { within = wider s i t old.within; missing = rw m old.missing; table = rw m old.table }

  pub table_next : (t : rust.Option ℕ) → TableRow s given i t → row ≡ (head_of s).platforms + i → header_at s row ≡ (sheet_initializations s).row i
      → TableRow s given (i + 1) (cond (is_none t && is_page_table given (header_at s row)) (Some row) t)
  table_next t old at e = rw e (go t (is_page_table given ((sheet_initializations s).row i)) refl old)
    where
      go : (t : rust.Option ℕ) (is : Bool) → is_page_table given ((sheet_initializations s).row i) ≡ is → TableRow s given i t
          → TableRow s given (i + 1) (cond (is_none t && is) (Some row) t)
      go None true p old =
          let m = so_far None true p old in
          record {
            within = (omega arith, omega arith);
            missing = rw (m, table_is_found given ((sheet_initializations s).row i) p) refl;
            table = rw (m, e) refl;
          }
      go None false p old = kept None old (so_far None false p old)
      go (Some u) true p old = kept (Some u) old (so_far (Some u) true p old)
      go (Some u) false p old = kept (Some u) old (so_far (Some u) false p old)
