-- The check of a proposed base: each answer is given exactly where it is true, the numbers tell the answers apart, and valid is what it was.
use native.Mathlib.Nat.{add_comm}
use Rattle.rows.proofs.Kit.{ℕ, ◌+◌, ◌≡◌, refl, sym, ap, ◌∙◌, ◌↔◌, Bool, true, false, cond, not, ◌&&◌, eqb, leb, ltb, dec_lt, arith, lt-ltb, ltb-true, ltb-false, le-ltb, le-leb, lt-leb}
use Rattle.addresses.specs.{declared.BaseCheck.BaseCheck, declared.BaseCheck.TheVariants.{Valid, Unaligned, BelowMinimum, AboveMaximum}, Addresses.{is_multiple, base_valid}, BaseChecks.{base_check, check_number, is_valid, Says}}

-- one number is at most the other, or above it
leb_not : (a b : ℕ) → leb a b ≡ not (ltb b a)
leb_not a b =
    elim (dec_lt b a) [
      | yes l ↦ rw (lt-leb a b l, lt-ltb b a l)
      | no l ↦ rw (le-leb a b (omega arith), le-ltb b a (omega arith))
    ]

-- ---- the numbers

-- the answer of a number
abbrev named : ℕ → BaseCheck
named n = cond (eqb n 1) Valid (cond (eqb n 2) Unaligned (cond (eqb n 3) BelowMinimum AboveMaximum))

named_number : (k : BaseCheck) → named (check_number k) ≡ k
named_number Valid = refl
named_number Unaligned = refl
named_number BelowMinimum = refl
named_number AboveMaximum = refl

-- two answers of one number are the same
pub one_number : (x y : BaseCheck) → check_number x ≡ check_number y → x ≡ y
one_number x y e = sym (named_number x) ∙ ap named e ∙ named_number y

-- 1 is the number of valid
pub valid_number : (k : BaseCheck) → eqb (check_number k) 1 ≡ is_valid k
valid_number Valid = refl
valid_number Unaligned = refl
valid_number BelowMinimum = refl
valid_number AboveMaximum = refl

-- and 0 is that of none
pub no_number_zero : (k : BaseCheck) → eqb (check_number k) 0 ≡ false
no_number_zero Valid = refl
no_number_zero Unaligned = refl
no_number_zero BelowMinimum = refl
no_number_zero AboveMaximum = refl

-- ---- the check

module _ (alignment size minimum maximum base : ℕ) where
  says : Says alignment size minimum maximum base (base_check alignment size minimum maximum base)
  unfolding base_check
  says = go _ _ _ refl refl refl
    where
      go : (p q r : Bool) → is_multiple base alignment ≡ p → ltb base minimum ≡ q → ltb maximum (base + size) ≡ r
          → Says alignment size minimum maximum base (cond (not p) Unaligned (cond q BelowMinimum (cond r AboveMaximum Valid)))
      go false q r e f g = e
      go true true r e f g = (e, ltb-true base minimum f)
      go true false true e f g = (e, ltb-false base minimum f, ltb-true maximum (base + size) g)
      go true false false e f g = (e, ltb-false base minimum f, ltb-false maximum (base + size) g)

  told : (k : BaseCheck) → Says alignment size minimum maximum base k → base_check alignment size minimum maximum base ≡ k
  unfolding base_check
  told Valid (e, f, g) = rw (e, le-ltb base minimum f, le-ltb maximum (base + size) g)
  told Unaligned e = rw e
  told BelowMinimum (e, f) = rw (e, lt-ltb base minimum f)
  told AboveMaximum (e, f, g) = rw (e, le-ltb base minimum f, lt-ltb maximum (base + size) g)

  -- an answer is given exactly where what it says is true
  pub exactly : (k : BaseCheck) → (base_check alignment size minimum maximum base ≡ k) ↔ Says alignment size minimum maximum base k
  exactly k = (λ e. rw e at says, told k)

  -- VALID IS WHAT IT WAS: a multiple of the alignment, not below the minimum, and with an end not above the maximum
  pub valid_same : is_valid (base_check alignment size minimum maximum base) ≡ base_valid alignment size minimum maximum base
  unfolding base_check base_valid
  valid_same = rw (leb_not minimum base, leb_not (base + size) maximum) (cases (is_multiple base alignment) (ltb base minimum) (ltb maximum (base + size)))
    where
      cases : (p q r : Bool) → is_valid (cond (not p) Unaligned (cond q BelowMinimum (cond r AboveMaximum Valid))) ≡ (p && not q && not r)
      cases true true r = refl
      cases true false true = refl
      cases true false false = refl
      cases false true r = refl
      cases false false r = refl

  -- the answers chosen one inside the other are the check
  pub in_order : {multiple over : Bool} {above below first : BaseCheck} → over ≡ ltb maximum (size + base) → multiple ≡ is_multiple base alignment
      → above ≡ cond over AboveMaximum Valid → below ≡ cond (ltb base minimum) BelowMinimum above → first ≡ cond (not multiple) Unaligned below
      → first ≡ base_check alignment size minimum maximum base
  unfolding base_check
  in_order o m a b f = rw (f, b, a, m, o, add_comm size base)
