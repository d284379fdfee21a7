-- The verdict on a sheet whose rows are in order: 7, or none.
use Rattle.rows.proofs.Kit.{◌≡◌, sym, ◌∙◌, false, List, ℕ}
use Rattle.std.specs.Prelude.{Result, Ok, Err, ⊤}
use Rattle.igvm_defs.{specs.declared.Refusal.Refusal, specs.Refusals.{is_fault, in_row, Passes}}
use Rattle.sheet.specs.Head.{limits, head_of, start_fault, page_size_fault}
use Rattle.reloc_regions.specs.declared.RelocRegions.{RelocRegions}
use Rattle.answers.specs.Verdict.{verdict_refusal}
use Rattle.keep.specs.Kept.{Kept}
use Rattle.acceptance.specs.Accepted.{RowsAccepted}
use Rattle.validation.proofs.VerdictLaws.{verdict_last}

-- what a check for 7 answers is the verdict, and all is kept
pub in_order : (s : List ℕ) {N : ℕ} {held : RelocRegions N} {numbers next contexts : List ℕ} → RowsAccepted s held numbers next contexts → is_fault (start_fault limits s) ≡ false
    → (r : Result ⊤ Refusal) → Passes r (in_row 0 (page_size_fault (head_of s))) (λ _. ⊤) → Passes r (verdict_refusal limits s) (λ _. Kept s held numbers next contexts)
in_order s rows start (Ok x) (e, _) = (verdict_last limits s start rows.read rows.headers ∙ e, rows.kept)
in_order s rows start (Err r) (e, t) = let q = verdict_last limits s start rows.read rows.headers in (e ∙ sym q, rw q t)
