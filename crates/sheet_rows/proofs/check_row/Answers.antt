use Rattle.rows.proofs.Kit.{sym, ◌∙◌, arith, length-take, length-drop, ltb-false, not-false}
use Rattle.igvm_defs.{specs.Kinds.kind_says, proofs.LengthLaws.length_least}
use Rattle.sheet_rows.proofs.check_row.Goals as goal

pub codes_ok-requires : goal.codes_ok-requires
codes_ok-requires c =
    let least = length_least (kind_says c.args.t) c.length_at-len.result (sym c.length_ok.ensures ∙ not-false _ c.in_ok-refuse_if-2.ensures) in
    let short = ltb-false _ _ c.in_ok-refuse_if-3.ensures in
    rw (c.part.ensures, c.kind_at-kind.ensures, ← c.requires.t_value) (simp (length-take, length-drop) (omega arith))
