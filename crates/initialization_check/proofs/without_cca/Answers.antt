use Rattle.rows.proofs.Kit.{get_or, true, false, ◌<◌, ◌≡◌, refl, sym, ap, ◌∙◌, Option, ℕ, arith, rules, length}
use Rattle.igvm_defs.{specs.declared.Fault.Fault, specs.Refusals.{no_fault, is_fault}}
use Rattle.masks.{specs.Masks.first_mask, proofs.MaskLaws.{first_mask_more, first_mask_stop}}
use Rattle.rules.specs.Initializations.{refuse_bit}
use Rattle.initialization_check.proofs.without_cca.Invariants.{without}
use Rattle.initialization_check.proofs.without_cca.Goals as goal

-- 25 where a bit was found
abbrev fault25 : Option ℕ → Fault
fault25 o = refuse_bit o no_fault

pub loop-i-init : goal.loop-i-init
unfolding first_mask
loop-i-init c = refl

pub returns-then-not-last_is_cca : goal.returns-then-not-last_is_cca
unfolding first_mask is_fault
returns-then-not-last_is_cca c =
    let bits = c.extract_individual_masks-bits.result in
    let p = without c.args.platforms.now in
    let found : p (get_or bits.masks c.loop-i.i 0) ≡ true = rw (← c.last_is_cca.ensures, c.if-not-last_is_cca.true) in
    let l : length bits.masks ≡ 32 = search rules in
    let below : c.loop-i.i < bits.count = omega arith in
    let first = first_mask_stop p bits.masks bits.count c.loop-i.i (search rules) (omega arith) c.loop-i.invariant found in
    let e = ap fault25 (ap (first_mask p) (sym c.extract_individual_masks-bits.ensures.0) ∙ first) in
    (sym e, ap is_fault e)

pub loop-i-preserved : goal.loop-i-preserved
unfolding first_mask
loop-i-preserved c =
    let bits = c.extract_individual_masks-bits.result in
    let p = without c.args.platforms.now in
    let i = c.loop-i.i in
    let none_here : p (get_or bits.masks i 0) ≡ false = rw (← c.last_is_cca.ensures, c.if-not-last_is_cca.false) in
    let l : length bits.masks ≡ 32 = search rules in
    rw (first_mask_more p bits.masks i (omega arith), c.loop-i.invariant, none_here)
