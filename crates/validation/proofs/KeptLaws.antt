-- How many regions are kept of an accepted sheet.
use Rattle.rows.proofs.Kit.{◌≡◌, false, List, ℕ, ◌≤◌, arith}
use Rattle.igvm_defs.specs.Refusals.{is_refusal}
use Rattle.sheet.{specs.Head.{limits, head_of}, proofs.Readable.readable_bounds}
use Rattle.sheet_headers.specs.Headers.{sheet_headers}
use Rattle.answers.{proofs.AnswerLaws.accepted_readable, specs.Verdict.verdict_refusal}
use Rattle.reloc_regions.specs.declared.RelocRegions.{RelocRegions}
use Rattle.keep.specs.Kept.{Kept}

-- no more than the sheet has initialization rows, which are 64 at most
pub kept_few : (s : List ℕ) {N : ℕ} {held : RelocRegions N} {numbers next contexts : List ℕ} → is_refusal (verdict_refusal limits s) ≡ false → Kept s held numbers next contexts
    → (held.count ≤ (head_of s).initializations) × ((head_of s).initializations ≤ 64)
unfolding sheet_headers
kept_few s h k = let b = readable_bounds s (accepted_readable limits s h) in (omega (arith, k.regions.count), b.initializations)
