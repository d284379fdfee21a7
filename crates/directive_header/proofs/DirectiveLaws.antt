-- Laws of directive headers.
use Rattle.rows.proofs.Kit.{◌≡◌, refl, List, ℕ}
use Rattle.le.proofs.LeLaws.{le_read, byte_read}
use Rattle.igvm_defs.{specs.Kinds.{directive_list, kind_of, spans, fields}, proofs.KindLaws.{Local, LocalAt, directive_kind_lem}, proofs.Runs.{each, ◌⨾◌}}
use Rattle.directive_header.specs.{Directives.directive_of, Fields.{kind_number, area_of, area_named}}

-- a header says no more than the kind, the body's length and its fields
pub directive_local : Local directive_list directive_of
unfolding directive_of fields kind_of spans
directive_local kind x y l n h =
    let (p, q) = directive_kind_lem kind l in
    each (LocalAt directive_of) 32 22 (
    (λ x y n h. simp (le_read (fields 32) x y h, n)) ⨾ (λ x y n h. simp (le_read (fields 33) x y h, n)) ⨾
    (λ x y n h. simp (le_read (fields 34) x y h)) ⨾ (λ x y n h. simp (le_read (fields 35) x y h)) ⨾
    (λ x y n h. simp (le_read (fields 36) x y h)) ⨾ (λ x y n h. simp (le_read (fields 37) x y h)) ⨾
    (λ x y n h. simp (le_read (fields 38) x y h)) ⨾ (λ x y n h. simp (le_read (fields 39) x y h)) ⨾
    (λ x y n h. simp (le_read (fields 40) x y h)) ⨾ (λ x y n h. simp (le_read (fields 41) x y h)) ⨾
    (λ x y n h. simp (le_read (fields 42) x y h)) ⨾ (λ x y n h. simp (le_read (fields 43) x y h)) ⨾
    (λ x y n h. simp (le_read (fields 44) x y h, byte_read (fields 44) x y h)) ⨾ (λ x y n h. simp (le_read (fields 45) x y h, n)) ⨾
    (λ x y n h. simp (le_read (fields 46) x y h, n)) ⨾ (λ x y n h. simp (le_read (fields 47) x y h, byte_read (fields 47) x y h, n)) ⨾
    (λ x y n h. simp (le_read (fields 48) x y h, byte_read (fields 48) x y h, n)) ⨾ (λ x y n h. simp (le_read (fields 49) x y h, n)) ⨾
    (λ x y n h. simp (le_read (fields 50) x y h)) ⨾ (λ x y n h. simp (le_read (fields 51) x y h)) ⨾
    (λ x y n h. simp (le_read (fields 52) x y h, n)) ⨾ (λ x y n h. simp (le_read (fields 53) x y h, n)) ⨾ tt) kind p q x y n h

-- decoding keeps the kind
pub kind_directive : (kind : ℕ) → (kind_of kind).list ≡ directive_list → (b : List ℕ) → kind_number (directive_of kind b) ≡ kind
unfolding directive_of
kind_directive kind l =
    let (p, q) = directive_kind_lem kind l in
    each (λ k. (b : List ℕ) → kind_number (directive_of k b) ≡ k) 32 22 (
    (λ b. refl) ⨾ (λ b. refl) ⨾ (λ b. refl) ⨾ (λ b. refl) ⨾ (λ b. refl) ⨾ (λ b. refl) ⨾ (λ b. refl) ⨾ (λ b. refl) ⨾ (λ b. refl) ⨾ (λ b. refl) ⨾ (λ b. refl) ⨾
    (λ b. refl) ⨾ (λ b. refl) ⨾ (λ b. refl) ⨾ (λ b. refl) ⨾ (λ b. refl) ⨾ (λ b. refl) ⨾ (λ b. refl) ⨾ (λ b. refl) ⨾ (λ b. refl) ⨾ (λ b. refl) ⨾ (λ b. refl) ⨾ tt) kind p q

-- the area that a header names is the one that its row names
pub area_directive : (kind : ℕ) → (kind_of kind).list ≡ directive_list → (b : List ℕ) → area_of (directive_of kind b) ≡ area_named kind b
unfolding directive_of area_named
area_directive kind l =
    let (p, q) = directive_kind_lem kind l in
    each (λ k. (b : List ℕ) → area_of (directive_of k b) ≡ area_named k b) 32 22 (
    (λ b. refl) ⨾ (λ b. refl) ⨾ (λ b. refl) ⨾ (λ b. refl) ⨾ (λ b. refl) ⨾ (λ b. refl) ⨾ (λ b. refl) ⨾ (λ b. refl) ⨾ (λ b. refl) ⨾ (λ b. refl) ⨾ (λ b. refl) ⨾
    (λ b. refl) ⨾ (λ b. refl) ⨾ (λ b. refl) ⨾ (λ b. refl) ⨾ (λ b. refl) ⨾ (λ b. refl) ⨾ (λ b. refl) ⨾ (λ b. refl) ⨾ (λ b. refl) ⨾ (λ b. refl) ⨾ (λ b. refl) ⨾ tt) kind p q
