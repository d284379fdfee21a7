use Rattle.rows.proofs.Kit.{◌-◌, ◌≡◌, get_or}
use Rattle.area_table.specs.AreaTable.{find_from, place_of}
use Rattle.area_table.proofs.{AreaTableLaws.Child}
use Rattle.area_table.proofs.AreaTable.place_of.Given as goal

abbrev pub invariant-loop-looked : goal.invariant-loop-looked
invariant-loop-looked g l = (place_of l.self.links l.self.areas l.area ≡ find_from l.self.links l.self.areas l.area (33 - l._looked) l.rest l.p) × Child (get_or l.self.links 1024 0) l.p
