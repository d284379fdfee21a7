-- Laws of initialization headers.
use Rattle.rows.proofs.Kit.{◌≡◌, refl, List, ℕ}
use Rattle.le.proofs.LeLaws.{le_read, byte_read}
use Rattle.igvm_defs.{specs.Kinds.{initialization_list, kind_of, spans, fields}, proofs.KindLaws.{Local, LocalAt, initialization_kind}, proofs.Runs.{each, ◌⨾◌}}
use Rattle.initialization_header.specs.{Initializations.initialization_of, Fields.kind_number}

-- a header says no more than the kind, the body's length and its fields
pub initialization_local : Local initialization_list initialization_of
unfolding initialization_of fields kind_of spans
initialization_local kind x y l n h =
    let (p, q) = initialization_kind kind l in
    each (LocalAt initialization_of) 16 4 (
    (λ x y n h. simp (le_read (fields 16) x y h)) ⨾
    (λ x y n h. simp (le_read (fields 17) x y h)) ⨾
    (λ x y n h. simp (le_read (fields 18) x y h, byte_read (fields 18) x y h)) ⨾
    (λ x y n h. simp (le_read (fields 19) x y h, byte_read (fields 19) x y h)) ⨾
    tt) kind p q x y n h

-- decoding keeps the kind
pub kind_initialization : (kind : ℕ) → (kind_of kind).list ≡ initialization_list → (b : List ℕ) → kind_number (initialization_of kind b) ≡ kind
unfolding initialization_of
kind_initialization kind l =
    let (p, q) = initialization_kind kind l in
    each (λ k. (b : List ℕ) → kind_number (initialization_of k b) ≡ k) 16 4 ((λ b. refl) ⨾ (λ b. refl) ⨾ (λ b. refl) ⨾ (λ b. refl) ⨾ tt) kind p q
