use Rattle.rows.proofs.Kit.{inl, inr, refl}
use Rattle.area_table.proofs.AreaTableLaws.{holds_same}
use Rattle.directive_check.specs.declared.AreaName.TheVariants.{Uses, NoArea}
use Rattle.directive_report.specs.Reported.{state_next}
use Rattle.directive_report.proofs.{AreaLaws.{changed, unchanged}}
use Rattle.directive_report.proofs.keep_area.Goals as goal

pub returns-in-Allocates : goal.returns-in-Allocates
unfolding state_next
returns-in-Allocates g c f known H =
    let change = c.change in
    rw c.in-Allocates.is (changed _ _ _ _ f _ _ _ change.result _ _ _ _ (rw c.in-Allocates.is at known) change.ensures.value change.ensures.by_index H)

pub returns-in-Inserts : goal.returns-in-Inserts
unfolding state_next
returns-in-Inserts g c f known H =
    let change = c.change-in-Inserts in
    rw c.in-Inserts.is (changed _ _ _ _ f _ _ _ change.result _ _ _ _ (rw c.in-Inserts.is at known) change.ensures.value change.ensures.by_index H)

pub returns-in-Uses : goal.returns-in-Uses
returns-in-Uses g c f known H =
    elim c.in-Uses.is [
      | inl e ↦ holds_same H (λ x. rw e.1 (unchanged (Uses e.0) f refl x))
      | inr e ↦ holds_same H (λ x. rw e (unchanged NoArea f refl x))
    ]
