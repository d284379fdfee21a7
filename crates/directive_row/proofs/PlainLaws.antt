-- What the tests of a row that names no area give, kind by kind.
use Rattle.rows.proofs.Kit.{ℕ, ◌≤◌, arith, ◌≡◌, refl, sym, ap, ◌∙◌, Bool, true, false, not, or-false, false≢true, List, bit_or, leb, length, get_or, set, le-leb}
use Rattle.le.specs.Le.{byte_at, le_at}
use Rattle.igvm_defs.{specs.declared.Arch.Arch, specs.declared.Arch.TheVariants.{X64, AArch64}, specs.Kinds.{kind_of, spans, length_ok}, specs.Revision.{is_x64, is_aarch64}, specs.Refusals.is_fault, proofs.VtlLaws.vtl_number_lem}
use Rattle.masks.specs.Masks.{shares}
use Rattle.sheet.specs.Read.{codes_ok}
use Rattle.directive_header.specs.Directives.{directive_of}
use Rattle.rules.specs.Directives.{own_directive_fault, wrong_context_arch, is_context}
use Rattle.directive_check.{specs.Record.names_area, proofs.DirectiveRecordLaws.context_set}
use Rattle.directive_body.specs.Body.{BodyInOrder}
use Rattle.directive_row.specs.Row.{VbsContext, PlainRow}

-- a header that is no context leaves the masks as they are
pub plain : (arch : Arch) (kind n : ℕ) (b contexts : List ℕ) → kind ≡ n → names_area n ≡ false → ((level bits : ℕ) → is_context level bits (directive_of n b) ≡ false)
    → BodyInOrder arch n b → PlainRow arch kind b contexts contexts
plain arch kind n b contexts e names other alone =
    rw e
    (record {
      alone = alone;
      unnamed = names;
      context = λ level bits. rw (other level bits) (sym (or-false (shares (get_or contexts level 0) bits)));
    })

module _ (arch : Arch) (kind : ℕ) (b contexts : List ℕ) where
  pub page_plain : kind ≡ 32 → BodyInOrder arch 32 b → PlainRow arch kind b contexts contexts
  unfolding directive_of names_area
  page_plain e = plain arch kind 32 b contexts e refl (λ level bits. refl)

  pub memory_plain : kind ≡ 44 → BodyInOrder arch 44 b → PlainRow arch kind b contexts contexts
  unfolding directive_of names_area
  memory_plain e = plain arch kind 44 b contexts e refl (λ level bits. refl)

  pub snp_plain : kind ≡ 45 → BodyInOrder arch 45 b → PlainRow arch kind b contexts contexts
  unfolding directive_of names_area
  snp_plain e = plain arch kind 45 b contexts e refl (λ level bits. refl)

  pub range_plain : kind ≡ 51 → BodyInOrder arch 51 b → PlainRow arch kind b contexts contexts
  unfolding directive_of names_area
  range_plain e = plain arch kind 51 b contexts e refl (λ level bits. refl)

  pub native_plain : kind ≡ 46 → is_x64 arch ≡ true → leb 6 (length b) ≡ true → PlainRow arch kind b contexts contexts
  unfolding kind_of spans length_ok codes_ok own_directive_fault directive_of wrong_context_arch is_fault names_area
  native_plain e x l = plain arch kind 46 b contexts e refl (λ level bits. refl) (record { list = refl; long = l; codes = refl; own = rw x })

  pub cca_plain : kind ≡ 49 → is_aarch64 arch ≡ true → leb 6 (length b) ≡ true → PlainRow arch kind b contexts contexts
  unfolding kind_of spans length_ok codes_ok own_directive_fault directive_of wrong_context_arch is_fault names_area
  cca_plain e x l = plain arch kind 49 b contexts e refl (λ level bits. refl) (record { list = refl; long = l; codes = refl; own = rw x })

  pub block_plain : kind ≡ 52 → leb 4 (length b) ≡ true → PlainRow arch kind b contexts contexts
  unfolding kind_of spans length_ok codes_ok own_directive_fault directive_of wrong_context_arch is_fault names_area
  block_plain e l = plain arch kind 52 b contexts e refl (λ level bits. refl) (record { list = refl; long = l; codes = refl; own = refl })

  pub measurement_plain : kind ≡ 53 → leb 4 (length b) ≡ true → PlainRow arch kind b contexts contexts
  unfolding kind_of spans length_ok codes_ok own_directive_fault directive_of wrong_context_arch is_fault names_area
  measurement_plain e l = plain arch kind 53 b contexts e refl (λ level bits. refl) (record { list = refl; long = l; codes = refl; own = refl })

  pub x64_plain : (next : List ℕ) → kind ≡ 47 → is_x64 arch ≡ true → VbsContext b contexts next → PlainRow arch kind b contexts next
  unfolding kind_of spans length_ok codes_ok own_directive_fault directive_of wrong_context_arch is_fault names_area
  x64_plain next e x v =
      rw e
      (record {
        alone = record { list = refl; long = le-leb 5 (length b) v.long; codes = le-leb (byte_at b 4) 2 v.level; own = rw x };
        unnamed = refl;
        context = λ level bits. rw (vtl_number_lem (byte_at b 4) v.level) (v.more level bits);
      })

  pub aarch64_plain : (next : List ℕ) → kind ≡ 48 → is_aarch64 arch ≡ true → VbsContext b contexts next → PlainRow arch kind b contexts next
  unfolding kind_of spans length_ok codes_ok own_directive_fault directive_of wrong_context_arch is_fault names_area
  aarch64_plain next e x v =
      rw e
      (record {
        alone = record { list = refl; long = le-leb 5 (length b) v.long; codes = le-leb (byte_at b 4) 2 v.level; own = rw x };
        unnamed = refl;
        context = λ level bits. rw (vtl_number_lem (byte_at b 4) v.level) (v.more level bits);
      })

-- an architecture that is not X64
pub is_aarch64_lem : (arch : Arch) (x64 : Bool) → x64 ≡ is_x64 arch → not x64 ≡ true → is_aarch64 arch ≡ true
is_aarch64_lem X64 x64 e t = absurd (false≢true (sym (ap not e) ∙ t))
is_aarch64_lem AArch64 x64 e t = refl

-- the mask of a context's VTL with its bits
pub vbs_more : (b contexts : List ℕ) (v mask : ℕ) → v ≡ byte_at b 4 → mask ≡ le_at 4 b 0 → 5 ≤ length b → v ≤ 2 → length contexts ≡ 3
    → VbsContext b contexts (set contexts v (bit_or (get_or contexts v 0) mask))
vbs_more b contexts v mask e m l h n =
    record { long = l; level = omega arith; more = rw (← e, ← m) (context_set contexts v mask (omega arith)) }
