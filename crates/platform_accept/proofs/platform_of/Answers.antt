use Rattle.rows.{proofs.Kit.{◌≡◌, ℕ, false, not, ◌||◌, eqb, length, not-false, eqb-true, arith}, proofs.Bools.or_false_parts}
use Rattle.igvm_defs.specs.Kinds.{kind_of, spans}
use Rattle.platform_header.specs.Platforms.{platform_of}
use Rattle.platform_accept.proofs.platform_of.Goals as goal

-- the tests passed: the kind and the length of the body
passed : (k l : ℕ) → (not (eqb k 1) || not (eqb l 16)) ≡ false → (k ≡ 1) × (l ≡ 16)
passed k l e = let (p, q) = or_false_parts (not (eqb k 1)) _ e in (eqb-true k 1 (not-false _ p), eqb-true l 16 (not-false _ q))

pub decode-h-requires-clause-kind_value : goal.decode-h-requires-clause-kind_value
unfolding kind_of spans
decode-h-requires-clause-kind_value c = let k : c.args.kind ≡ 1 = (passed _ _ c.if-kind-b.false).0 in rw k

pub decode-h-requires-clause-kind_in_bounds : goal.decode-h-requires-clause-kind_in_bounds
unfolding kind_of spans
decode-h-requires-clause-kind_in_bounds c = let k : c.args.kind ≡ 1 = (passed _ _ c.if-kind-b.false).0 in let l : length c.args.b.now ≡ 16 = (passed _ _ c.if-kind-b.false).1 in rw k (omega arith)

pub returns-then-is_in_order : goal.returns-then-is_in_order
unfolding platform_of
returns-then-is_in_order c a e =
    let (k, l) = passed _ _ c.if-kind-b.false in
    record { kind_is = k; length_is = l; says = c.decode-h.ensures; sound = c.is_in_order.ensures a e c.if-is_in_order.true }
