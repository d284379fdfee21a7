-- Of what may be there or not.
use mathlib.Core.{Bool.{Bool, false}, Option.{Option, none, some}}

-- it is there, and it passes
abbrev pub passes : {A : Type 0} → (A → Bool) → Option A → Bool
passes p none = false
passes p (some a) = p a

-- what it gives, where it is there
abbrev pub then : {A B : Type 0} → Option A → (A → Option B) → Option B
then none f = none
then (some a) f = f a
