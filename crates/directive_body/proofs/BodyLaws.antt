-- What the tests of a row's body give: the row is in order by itself, kind by kind.
use Rattle.rows.proofs.Kit.{ℕ, ◌+◌, ◌-◌, ◌/◌, ◌%◌, ◌≤◌, arith, ◌≡◌, refl, true, List, leb, length, le-leb, le-ltb}
use Rattle.le.specs.Le.{byte_at, le_at}
use Rattle.igvm_defs.{specs.declared.Arch.Arch, specs.Kinds.{kind_of, spans, length_ok}, specs.Refusals.is_fault}
use Rattle.addresses.specs.Addresses.{is_multiple, on_page}
use Rattle.sheet.specs.Read.{codes_ok}
use Rattle.directive_header.specs.Directives.{directive_of}
use Rattle.rules.specs.Directives.{own_directive_fault, wrong_context_arch}
use Rattle.directive_body.specs.Body.{BodyInOrder}

module _ (arch : Arch) (b : List ℕ) where
  pub page_in_order : 18 ≤ length b → length b ≤ 4114 → le_at 8 b 0 % 4096 + le_at 2 b 16 / 4 ≡ 0 → BodyInOrder arch 32 b
  unfolding kind_of spans length_ok codes_ok own_directive_fault directive_of wrong_context_arch is_fault is_multiple
  page_in_order l h e =
      let p : le_at 8 b 0 % 4096 ≡ 0 = omega arith in
      let t : le_at 2 b 16 ≤ 3 = omega arith in
      record {
        list = refl;
        long = le-leb 18 (length b) l;
        codes = refl;
        own = rw (p, le-ltb 3 (le_at 2 b 16) t, le-ltb 4096 (length b - 18) (omega arith));
      }

  pub area_in_order : 12 ≤ length b → on_page (le_at 8 b 0) ≡ true → length b - 12 ≤ le_at 8 b 0 → BodyInOrder arch 33 b
  unfolding kind_of spans length_ok codes_ok own_directive_fault directive_of wrong_context_arch is_fault
  area_in_order l p h =
      record { list = refl; long = le-leb 12 (length b) l; codes = refl; own = rw (p, le-ltb (le_at 8 b 0) (length b - 12) h) }

  pub memory_in_order : length b ≡ 17 → leb (byte_at b 16) 1 ≡ true → on_page (le_at 8 b 0) ≡ true → on_page (le_at 4 b 12) ≡ true → BodyInOrder arch 44 b
  unfolding kind_of spans length_ok codes_ok own_directive_fault directive_of wrong_context_arch is_fault
  memory_in_order l c p q = record { list = refl; long = rw l; codes = c; own = rw (p, q) }

  pub snp_in_order : 14 ≤ length b → on_page (le_at 8 b 0) ≡ true → BodyInOrder arch 45 b
  unfolding kind_of spans length_ok codes_ok own_directive_fault directive_of wrong_context_arch is_fault
  snp_in_order l p = record { list = refl; long = le-leb 14 (length b) l; codes = refl; own = rw p }

  pub range_in_order : length b ≡ 16 → on_page (le_at 8 b 0) ≡ true → BodyInOrder arch 51 b
  unfolding kind_of spans length_ok codes_ok own_directive_fault directive_of wrong_context_arch is_fault
  range_in_order l p = record { list = refl; long = rw l; codes = refl; own = rw p }
