-- The kit's names that proofs use, passed on, so that a proof brings them in by one line.
pub use Prim.Native.Nat.{ℕ, zero, suc, ◌+◌, ◌-◌, ◌*◌, ◌/◌, ◌%◌, ◌^◌, ◌<◌, ◌≤◌, suc-le-suc, zero-le}
pub use mathlib.Core.Path.{◌≡◌, refl, sym, ◌∙◌, ap, ap₂, subst}
pub use mathlib.Core.Bool.{Bool, true, false, not, cond, ◌&&◌, ◌||◌, and-false, and-true, or-false, false≢true, true≢false}
pub use mathlib.Core.List.{List, [], ◌∷◌, ◌++◌, append_assoc, append-nil}
pub use mathlib.Core.Logic.{◌↔◌, ◌≢◌, ◌⊎◌, inl, inr}
pub use mathlib.Core.Option.{Option, none, some}
pub use native.Mathlib.Decide.{dec_lt, ℕ_discrete}
pub use native.Mathlib.Nat.{add_assoc, add-suc, add-zero, eq-or-lt_of_le, le_antisymm, le_of_eq, le_of_suc-le-suc, not-suc-le-zero, pow-suc, pow-succ', zero-add}
pub use native.Mathlib.Numerals.{add-one}
pub use native.Mathlib.Omega.{arith}
pub use lib.Bits.{bit_and, bit_or, and_shr, and_step}
pub use lib.Dec.{T, eqb, leb, ltb}
pub use lib.ListN.{length, get_or, set, take, drop, replicate, get_or-eq_default, length-append, length-drop, length-set, length-take}
pub use lib.Seq.{get_or-set_other, get_or-set_same, get_or-take, take-suc, take-suc-set}
pub use denote.Enum.Declared.{tag_of}
pub use borrow.Author.Rules.{rules}
pub use borrow.Author.Tests.{eq-eqb, eqb-false, eqb-true, le-leb, le-ltb, leb-true, lt-leb, lt-ltb, ltb-false, ltb-true, ne_eqb, not-false, not-true}
