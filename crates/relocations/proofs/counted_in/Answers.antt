use Rattle.rows.proofs.Kit.{◌∙◌, arith}
use Rattle.regions.proofs.CountLaws.{count_kept}
use Rattle.relocations.proofs.counted_in.Goals as goal

pub new-kept-requires : goal.new-kept-requires
new-kept-requires g c = let (a, b, n, m) = c.requires.places in omega arith

pub keep_for-requires : goal.keep_for-requires
keep_for-requires g c = let (a, b, n, m) = c.requires.places in (omega arith, (c.requires.s_value, (a, b)))

pub count_within-requires : goal.count_within-requires
count_within-requires g c =
    let (a, b, n, m) = c.requires.places in
    let (passed, stands) = c.in_ok-keep_for.ensures in
    (omega arith, (stands.kept_for.few, stands.kept_for.most))

-- the regions kept are those of the rows
pub returns : goal.returns
returns g c =
    let (passed, stands) = c.in_ok-keep_for.ensures in
    let k = c.count_within.ensures in
    let kept = count_kept c.args.given stands.kept_for.regions.rows in
    (passed, (k.upper_bound, rw (← kept) k.lower_bound, λ h. k.value h ∙ kept))
