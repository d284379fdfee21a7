-- Where the limits decide: of every answer only the verdict's refusal depends on them, and of that only what the head and the length show.
use Rattle.rows.{proofs.Kit.{◌≡◌, refl, Bool, true, false, cond, List, ◌⊎◌, inl, inr, ℕ, ◌≤◌, arith, leb, ltb, length, le-leb, leb-true}, proofs.Bools.{which, and_parts}}
use Rattle.igvm_defs.specs.Refusals.{fault, is_fault, is_refusal, in_row, or_else}
use Rattle.lent.proofs.LentLaws.{rows_none}
use Rattle.sheet.{specs.Head.{Limits, head_of, layout_ok, within_limits, start_fault}, specs.Read.{read_refusal, sheet_refusal}}
use Rattle.answers.{specs.Verdict.{verdict_refusal, verdict_of}, specs.Relocations.{relocations_refusal, relocations_of, words_after, check_refusal, check_of, answer_of}}
use Rattle.admission.specs.Admission.{admit_of}
use Rattle.former_limits.specs.Former.{Within, Over, SameAnswers, over_limit, RefusedBy3}

-- ---- from the start to the answers

-- where the starts show the same fault, the verdicts have the same refusal
pub same_refusal : (l k : Limits) (s : List ℕ) → start_fault l s ≡ start_fault k s → verdict_refusal l s ≡ verdict_refusal k s
unfolding verdict_refusal sheet_refusal read_refusal
same_refusal l k s e = rw e

-- and then every answer is the same
pub same_answers : (l k : Limits) (s : List ℕ) → verdict_refusal l s ≡ verdict_refusal k s → SameAnswers l k s
unfolding verdict_of relocations_refusal relocations_of words_after check_refusal check_of answer_of admit_of
same_answers l k s e =
    record {
      verdict = rw e;
      relocations = λ given bytes. rw e;
      words = λ given b. rw e;
      base = λ given region base. rw e;
      contains = λ given region gpa. rw e;
      line = rw e;
    }

-- where the start shows fault 3, that is the verdict's refusal
pub refusal_3 : (l : Limits) (s : List ℕ) → start_fault l s ≡ fault 3 0 → verdict_refusal l s ≡ over_limit
unfolding verdict_refusal sheet_refusal read_refusal is_fault is_refusal in_row or_else
refusal_3 l s e = rw e

-- both cases are the same
cond_both : {X : Type 0} (t : Bool) (x : X) → cond t x x ≡ x
cond_both true x = refl
cond_both false x = refl

-- and then every call is refused by it, and no row is put into the lent bytes
pub refused_by_3 : (l : Limits) (s : List ℕ) → verdict_refusal l s ≡ over_limit → RefusedBy3 l s
unfolding is_refusal or_else verdict_of relocations_refusal relocations_of words_after check_refusal check_of answer_of admit_of
refused_by_3 l s e =
    record {
      verdict = rw e;
      relocations = λ given bytes. rw e;
      words = λ given b. rw e (rows_none _ b);
      base = λ given region base. rw e;
      contains = λ given region gpa. rw e;
      line = rw (e, cond_both);
    }

-- ---- what the start shows

-- no limit of l is over that of k
pub record AtMost (l k : Limits) : Type 0 where
  pub platforms : l.platforms ≤ k.platforms
  pub initializations : l.initializations ≤ k.initializations
  pub directives : l.directives ≤ k.directives
  pub bytes : l.bytes ≤ k.bytes

-- a number that is at most the lower limit is at most the higher one
leb_more : (n a b : ℕ) → a ≤ b → leb n a ≡ true → leb n b ≡ true
leb_more n a b l e = le-leb n b (omega (arith, leb-true n a e))

-- what is within the lower limits is within the higher ones
within_more : (l k : Limits) (s : List ℕ) → AtMost l k → Within l s → Within k s
unfolding within_limits
within_more l k s m w =
    let (x, bytes) = and_parts _ (leb (length s) l.bytes) w in
    let (y, directives) = and_parts _ (leb (head_of s).directives l.directives) x in
    let (platforms, initializations) = and_parts (leb (head_of s).platforms l.platforms) _ y in
    rw (
      leb_more _ _ _ m.platforms platforms,
      leb_more _ _ _ m.initializations initializations,
      leb_more _ _ _ m.directives directives,
      leb_more _ _ _ m.bytes bytes,
    )

-- within the lower limits, both show the same fault
pub start_within : (l k : Limits) (s : List ℕ) → AtMost l k → Within l s → start_fault k s ≡ start_fault l s
unfolding start_fault
start_within l k s m w = rw (w, within_more l k s m w)

-- a whole head of the right layout, and a list or the bytes over their limit: fault 3
pub start_over : (l : Limits) (s : List ℕ) → ltb (length s) 16 ≡ false → layout_ok (head_of s) ≡ true → Over l s → start_fault l s ≡ fault 3 0
unfolding start_fault
start_over l s head layout over = rw (head, layout, over)

-- whatever the bytes are: the lower limits show the fault of the higher ones, or 3
pub start_either : (l k : Limits) (s : List ℕ) → AtMost l k → (start_fault k s ≡ start_fault l s) ⊎ (start_fault l s ≡ fault 3 0)
unfolding start_fault
start_either l k s m =
    elim (which (ltb (length s) 16)) [
      | inl short ↦ inl (rw short)
      | inr head ↦
          elim (which (layout_ok (head_of s))) [
            | inl layout ↦
                elim (which (within_limits l (head_of s) (length s))) [
                  | inl within ↦ inl (start_within l k s m within)
                  | inr over ↦ inr (start_over l s head layout over)
                ]
            | inr bad ↦ inl (rw (head, bad))
          ]
    ]
