use Rattle.rows.proofs.Kit.{refl, sym, rules}
use Rattle.by_start.proofs.LinkLaws.{placed_within}
use Rattle.keep.proofs.KeepLaws.{kept_without, kept_behind}
use Rattle.keep.proofs.keep_row.Goals as goal

pub link-requires : goal.link-requires
link-requires g c = let (count, small, room) = c.requires.room in let w = placed_within c.requires.by_start c.place-at.ensures in search rules

pub returns-in-Some : goal.returns-in-Some
returns-in-Some g c first xs i h number held =
    let (count, small, room) = c.requires.room in
    kept_behind first _ _ xs i _ _ count room (rw (← h) (sym c.in-Some.ensures)) c.place-at.ensures c.push.ensures.pushed (rw number refl) c.link.ensures.next
    (c.push.ensures.lengths, search rules, c.link.ensures.lengths)
    held

pub returns-in_default : goal.returns-in_default
returns-in_default g c first xs i h number held = kept_without first _ xs i (rw (← h) (sym c.in_default.ensures)) held
