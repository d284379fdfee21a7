-- An initialization row whose body passes the tests of its kind has no fault but one that an earlier row may give it.
use Rattle.rows.{proofs.Kit.{◌≡◌, refl, sym, ◌∙◌, Bool, true, false, not, ◌&&◌, List, none, ℕ, ◌/◌, ◌%◌, ◌^◌, arith, bit_and, and_shr, and_step, eqb, leb, length, eqb-true, eq-eqb, leb-true, not-true}, specs.Rows.Rows, proofs.Bools.and_parts}
use Rattle.le.specs.Le.{byte_at, le_at}
use Rattle.igvm_defs.{specs.declared.Arch.Arch, specs.declared.Arch.TheVariants.{X64, AArch64}, specs.Kinds.{kind_of, spans, length_ok}, specs.Refusals.{is_fault}, specs.Revision.{is_x64, is_aarch64}, proofs.RefusalLaws.no_fault_lem, proofs.VtlLaws.vtl_number_lem}
use Rattle.masks.{specs.Masks.{shares, matches, has_bit}, proofs.MaskLaws.has_bit_lem}
use Rattle.addresses.specs.Addresses.{ends_beyond}
use Rattle.sheet.specs.Read.{codes_ok}
use Rattle.platform_header.specs.declared.IgvmPlatformHeader.{IgvmPlatformHeader}
use Rattle.initialization_header.specs.Initializations.{cca_policy_of, initialization_of}
use Rattle.rules.{specs.Regions.region_passes, specs.Initializations.{validate_region, validate_table, without_cca, own_initialization_fault}, proofs.Acceptance.without_cca_lem}
use Rattle.platform_accept.specs.Accepted.{HoldsCca}
use Rattle.initialization_row.specs.{declared.Row.TheVariants.Policy, Row.InOrder}
use Rattle.initialization_row.specs.declared.Row.TheVariants as row

-- ---- masks

-- a mask that holds every bit of the mask given has its bit k
pub matches_bit : (given m k : ℕ) → matches given m ≡ true → has_bit given k ≡ true → has_bit m k ≡ true
unfolding matches
matches_bit given m k e h =
    let all : bit_and m given ≡ given = eqb-true (bit_and m given) given e in
    let high : given / 2 ^ k ≡ bit_and (m / 2 ^ k) (given / 2 ^ k) = rw all at (and_shr m given k) in
    let step = and_step (m / 2 ^ k) (given / 2 ^ k) in
    let digit = eqb-true (given / 2 ^ k % 2) 1 (sym (has_bit_lem given k) ∙ h) in
    has_bit_lem m k ∙ eq-eqb (m / 2 ^ k % 2) 1 (omega arith)

-- ---- by kind

is_aarch64_lem : (arch : Arch) → is_x64 arch ≡ false → is_aarch64 arch ≡ true
is_aarch64_lem X64 e = sym e
is_aarch64_lem AArch64 e = refl

module _ (arch : Arch) (ps : Rows IgvmPlatformHeader) (b : List ℕ) where
  -- 16
  pub guest_in_order : length b ≡ 12 → InOrder arch ps 16 b Policy
  unfolding kind_of spans length_ok codes_ok initialization_of own_initialization_fault region_passes is_fault
  guest_in_order long =
      record { list = refl; long = eq-eqb (length b) 12 long; codes = refl; own = refl; cca = refl; region = refl }

  -- 17
  policy_cca : (cca : ℕ) → HoldsCca cca ps → matches (le_at 4 b 0) cca ≡ true → without_cca ps (cca_policy_of b) ≡ none
  policy_cca cca holds e = (without_cca_lem ps (cca_policy_of b)).1 (λ _ k l h. holds k l (matches_bit (le_at 4 b 0) cca k e h))

  pub policy_in_order : (x64 : Bool) (cca mask zeroes ones : ℕ) (shared held : Bool) → x64 ≡ is_x64 arch → HoldsCca cca ps → length b ≡ 22
      → mask ≡ le_at 4 b 0 → zeroes ≡ le_at 8 b 4 → ones ≡ le_at 8 b 12 → shared ≡ shares zeroes ones → held ≡ matches mask cca
      → (not shared && not x64 && held) ≡ true → InOrder arch ps 17 b Policy
  unfolding kind_of spans length_ok codes_ok initialization_of own_initialization_fault region_passes is_fault
  policy_in_order x64 cca mask zeroes ones shared held ex holds long em ez eo es eh e =
      let (x, matched) = and_parts (not shared && not x64) held e in
      let (y, aarch64) = and_parts (not shared) (not x64) x in
      let apart : shares (le_at 8 b 4) (le_at 8 b 12) ≡ false = rw (← ez, ← eo, ← es) (not-true shared y) in
      let a : is_aarch64 arch ≡ true = is_aarch64_lem arch (sym ex ∙ not-true x64 aarch64) in
      record {
        list = refl;
        long = eq-eqb (length b) 22 long;
        codes = refl;
        own = rw (apart, a) no_fault_lem;
        cca = policy_cca cca holds (rw (← em, ← eh) matched);
        region = refl;
      }

  -- 18
  pub region_in_order : (mask alignment gpa size minimum maximum vp : ℕ) (own room : Bool) → length b ≡ 48
      → mask ≡ le_at 4 b 0 → alignment ≡ le_at 8 b 4 → gpa ≡ le_at 8 b 12 → size ≡ le_at 8 b 20 → minimum ≡ le_at 8 b 28 → maximum ≡ le_at 8 b 36 → vp ≡ le_at 2 b 45
      → own ≡ not (is_fault (validate_region alignment gpa size minimum maximum)) → room ≡ (not (eqb size 0) && not (ends_beyond gpa size))
      → (leb (byte_at b 47) 2 && leb (byte_at b 44) 7 && own && room) ≡ true
      → InOrder arch ps 18 b (row.Region (record { mask = mask; gpa = gpa; size = size; vp_index = vp; vtl = byte_at b 47; page_table = false }))
  unfolding kind_of spans length_ok codes_ok initialization_of own_initialization_fault region_passes ends_beyond
  region_in_order mask alignment gpa size minimum maximum vp own room long em ea eg es en ex ev eo er e =
      let (x, roomy) = and_parts (leb (byte_at b 47) 2 && leb (byte_at b 44) 7 && own) room e in
      let (codes, sound) = and_parts (leb (byte_at b 47) 2 && leb (byte_at b 44) 7) own x in
      let (level, _) = and_parts (leb (byte_at b 47) 2) (leb (byte_at b 44) 7) codes in
      let (some_size, below) = and_parts (not (eqb size 0)) (not (ends_beyond gpa size)) (sym er ∙ roomy) in
      let r17 : is_fault (validate_region (le_at 8 b 4) (le_at 8 b 12) (le_at 8 b 20) (le_at 8 b 28) (le_at 8 b 36)) ≡ false =
      rw (← ea, ← eg, ← es, ← en, ← ex) (not-true (is_fault (validate_region alignment gpa size minimum maximum)) (sym eo ∙ sound)) in
      let r27 : eqb (le_at 8 b 20) 0 ≡ false = rw (← es) (not-true (eqb size 0) some_size) in
      let r28 : ends_beyond gpa size ≡ false = not-true (ends_beyond gpa size) below in
      let high : ends_beyond (le_at 8 b 12) (le_at 8 b 20) ≡ false = rw (← eg, ← es) r28 in
      record {
        list = refl;
        long = eq-eqb (length b) 48 long;
        codes = codes;
        own = rw (r17, r27, high) no_fault_lem;
        cca = refl;
        region = rw (em, eg, es, ev, vtl_number_lem (byte_at b 47) (leb-true (byte_at b 47) 2 level));
      }

  -- 19
  pub table_in_order : (mask gpa size used vp : ℕ) (own room : Bool) → length b ≡ 31
      → mask ≡ le_at 4 b 0 → gpa ≡ le_at 8 b 4 → size ≡ le_at 8 b 12 → used ≡ le_at 8 b 20 → vp ≡ le_at 2 b 28
      → own ≡ not (is_fault (validate_table gpa size used)) → room ≡ (not (eqb size 0) && not (ends_beyond gpa size))
      → (leb (byte_at b 30) 2 && own && room) ≡ true
      → InOrder arch ps 19 b (row.Region (record { mask = mask; gpa = gpa; size = size; vp_index = vp; vtl = byte_at b 30; page_table = true }))
  unfolding kind_of spans length_ok codes_ok initialization_of own_initialization_fault region_passes ends_beyond
  table_in_order mask gpa size used vp own room long em eg es eu ev eo er e =
      let (x, roomy) = and_parts (leb (byte_at b 30) 2 && own) room e in
      let (codes, sound) = and_parts (leb (byte_at b 30) 2) own x in
      let (some_size, below) = and_parts (not (eqb size 0)) (not (ends_beyond gpa size)) (sym er ∙ roomy) in
      let r21 : is_fault (validate_table (le_at 8 b 4) (le_at 8 b 12) (le_at 8 b 20)) ≡ false =
      rw (← eg, ← es, ← eu) (not-true (is_fault (validate_table gpa size used)) (sym eo ∙ sound)) in
      let r27 : eqb (le_at 8 b 12) 0 ≡ false = rw (← es) (not-true (eqb size 0) some_size) in
      let r28 : ends_beyond gpa size ≡ false = not-true (ends_beyond gpa size) below in
      let high : ends_beyond (le_at 8 b 4) (le_at 8 b 12) ≡ false = rw (← eg, ← es) r28 in
      record {
        list = refl;
        long = eq-eqb (length b) 31 long;
        codes = codes;
        own = rw (r21, r27, high) no_fault_lem;
        cca = refl;
        region = rw (em, eg, es, ev, vtl_number_lem (byte_at b 30) (leb-true (byte_at b 30) 2 codes));
      }
