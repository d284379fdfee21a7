use Rattle.rows.proofs.Kit.{◌≡◌, refl, false, ℕ, eqb}
use Rattle.initialization_header.{specs.declared.IgvmInitializationHeader.IgvmInitializationHeader, specs.declared.IgvmInitializationHeader.TheVariants.{GuestPolicy, CcaPolicy, RelocatableRegion, PageTableRelocationRegion}, specs.Fields.kind_number}
use Rattle.igvm_defs.{specs.Refusals.is_fault, proofs.AnswerLaws.thrown}
use Rattle.initialization_check.specs.Record.{policy_fault}
use Rattle.initialization_check.proofs.FaultLaws.{no_policy, holds_bit}
use Rattle.initialization_check.proofs.policy_fault.Goals as goal

-- a header that is no CcaPolicy is of another kind than 17
another_kind : (h : IgvmInitializationHeader) → ((a b c : ℕ) → h ≡ CcaPolicy a b c → ⊥) → eqb (kind_number h) 17 ≡ false
another_kind (GuestPolicy a b) n = refl
another_kind (CcaPolicy a b c) n = absurd (n a b c refl)
another_kind (RelocatableRegion a b c d e f g h i j k) n = refl
another_kind (PageTableRelocationRegion a b c d e f) n = refl

pub returns-in_default : goal.returns-in_default
returns-in_default c ps held = let a = c.args in no_policy a.arch ps a.h (another_kind a.h c.in_default.not-CcaPolicy)

pub returns-in_err-refuse_if-in-CcaPolicy : goal.returns-in_err-refuse_if-in-CcaPolicy
unfolding policy_fault is_fault
returns-in_err-refuse_if-in-CcaPolicy c ps held =
    let e = c.in_err-refuse_if-in-CcaPolicy.ensures in
    thrown c.from_residual.result _ _ _ c.from_residual.ensures.1 (rw (c.in-CcaPolicy.is, e.1, ← c.is_aarch64.ensures, e.0) (refl, refl))

pub returns-in_ok-refuse_if-in-CcaPolicy : goal.returns-in_ok-refuse_if-in-CcaPolicy
unfolding policy_fault
returns-in_ok-refuse_if-in-CcaPolicy c ps held =
    let a = c.args in
    rw (c.in-CcaPolicy.is, ← c.is_aarch64.ensures, c.in_ok-refuse_if-in-CcaPolicy.ensures, ← holds_bit a.platforms.now ps c.in-CcaPolicy.compatibility_mask held) c.without_cca.ensures
