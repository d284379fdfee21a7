-- Laws of the table of kinds: which kinds a list has, and that a body's fields lie within its least length.
use Rattle.rows.{proofs.Kit.{inl, inr, ◌≡◌, refl, Bool, true, false, not, ◌&&◌, ◌||◌, false≢true, List, [], ◌∷◌, ℕ, suc, ◌<◌, ◌≤◌, arith, leb, eqb, length, take, leb-true, eq-eqb}, proofs.Bools.{which, and_parts}}
use Rattle.igvm_defs.specs.Kinds.{Span, lookup, spans, kind_of, fields, platform_list, initialization_list, directive_list}

-- ---- the kinds of a list

-- where the span's kinds are of list l, they lie from lo to hi
abbrev pub span_within : ℕ → ℕ → ℕ → Span → Bool
span_within l lo hi x = not (eqb x.kind.list l) || (leb lo x.first && leb x.last hi)

-- every kind of list l lies from lo to hi
abbrev pub list_within : ℕ → ℕ → ℕ → List Span → Bool
list_within l lo hi [] = true
list_within l lo hi (x ∷ xs) = span_within l lo hi x && list_within l lo hi xs

or_not : (t u : Bool) → (not t || u) ≡ true → t ≡ true → u ≡ true
or_not true u h e = h
or_not false u h e = absurd (false≢true e)

pub within : (l lo hi k : ℕ) (xs : List Span) → list_within (suc l) lo hi xs ≡ true → (lookup xs k).list ≡ suc l → (lo ≤ k) × (k ≤ hi)
within l lo hi k [] t e = absurd (omega arith)
within l lo hi k (x ∷ xs) t e =
    let (s, rest) = and_parts (span_within (suc l) lo hi x) (list_within (suc l) lo hi xs) t in
    elim (which (leb x.first k && leb k x.last)) [
      | inl c ↦
          let (p, q) = and_parts (leb x.first k) (leb k x.last) c in
          let own = or_not (eqb x.kind.list (suc l)) _ s (eq-eqb x.kind.list (suc l) (rw c at e)) in
          let (y, z) = and_parts (leb lo x.first) (leb x.last hi) own in
          (omega (arith, leb-true x.first k p, leb-true lo x.first y), omega (arith, leb-true k x.last q, leb-true x.last hi z))
      | inr c ↦ within l lo hi k xs rest (rw c at e)
    ]

pub platform_kind : (k : ℕ) → (kind_of k).list ≡ platform_list → k ≡ 1
unfolding kind_of spans
platform_kind k e = let (l, h) = within 0 1 1 k spans refl e in omega arith

pub initialization_kind : (k : ℕ) → (kind_of k).list ≡ initialization_list → (16 ≤ k) × (k < 20)
unfolding kind_of spans
initialization_kind k e = let (l, h) = within 1 16 19 k spans refl e in (l, omega arith)

pub directive_kind_lem : (k : ℕ) → (kind_of k).list ≡ directive_list → (32 ≤ k) × (k < 54)
unfolding kind_of spans
directive_kind_lem k e = let (l, h) = within 2 32 53 k spans refl e in (l, omega arith)

-- ---- fields

-- a decoder of a list's rows sees the kind, the body's length and its fields
abbrev pub Local : {H : Type 0} → ℕ → (ℕ → List ℕ → H) → Type 0
Local list decode =
    (kind : ℕ) (x y : List ℕ) → (kind_of kind).list ≡ list → length x ≡ length y → take (fields kind) x ≡ take (fields kind) y
    → decode kind x ≡ decode kind y

-- the same at one kind
abbrev pub LocalAt : {H : Type 0} → (ℕ → List ℕ → H) → ℕ → Type 0
LocalAt decode kind = (x y : List ℕ) → length x ≡ length y → take (fields kind) x ≡ take (fields kind) y → decode kind x ≡ decode kind y
