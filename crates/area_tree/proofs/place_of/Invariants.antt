use Rattle.rows.proofs.Kit.{◌<◌, ◌-◌, ◌≡◌}
use Rattle.area_tree.specs.AreaTree.{find_from, place_of}
use Rattle.area_tree.proofs.place_of.Given as goal

abbrev pub invariant-loop-looked : goal.invariant-loop-looked
invariant-loop-looked l = (place_of l.nodes l.area ≡ find_from l.nodes l.area (33 - l._looked) l.rest l.p) × (l.p < 5124)
