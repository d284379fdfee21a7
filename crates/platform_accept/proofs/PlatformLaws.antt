-- Laws of the rows that are passed: a body that passes has no fault by itself, and what is kept of the rows before tells of the rest.
use mathlib.Core.Bool.{beq}
use Rattle.rows.{proofs.Kit.{◌≡◌, refl, sym, ap, ◌∙◌, Bool, true, false, cond, not, ◌&&◌, ◌||◌, List, ◌⊎◌, inl, inr, Option, none, some, ℕ, ◌+◌, ◌^◌, ◌≤◌, ◌<◌, zero-add, add-one, arith, bit_or, eqb, leb, ltb, length, take, drop, eqb-true, eqb-false, leb-true, ltb-true, lt-ltb, not-false, length-take, length-drop}, specs.Below.{any_below, last_below}, specs.Rows.{Rows, any, before, row_at}, proofs.Bools.{not_both, is_false, or_left, or_right, or_cases, or_false_parts, and_parts}, proofs.BelowLaws.{top, none_any, any_more, last_more}}
use Rattle.igvm_defs.{specs.declared.Arch.Arch, specs.declared.Arch.TheVariants.{X64, AArch64}, specs.Kinds.{kind_of, spans, length_ok}, specs.Refusals.is_fault, specs.Revision.is_x64, specs.Platforms.{platform_type, platform_types, is_platform_type, platform_type_of}, proofs.Runs.{◌⨾◌, each}, proofs.RefusalLaws.no_fault_lem}
use Rattle.masks.{specs.Masks.{shares, is_one_bit, has_bit}, proofs.MaskLaws.{shares_or, one_bit_alone, bit_set}}
use Rattle.sheet.{specs.declared.Cursor.Cursor, specs.Head.head_of, specs.Table.{row_kind, row_length, offset_of, body_of}, specs.Read.codes_ok, specs.Walk.ReadTo, proofs.Readable.{RowOk, platform_list_lem}}
use Rattle.sheet_reader.{specs.declared.SheetRow.SheetRow, specs.Reading.cursor_after, proofs.ReaderLaws.{Found, room_row, body_found, read_after}}
use Rattle.platform_header.{specs.declared.IgvmPlatformHeader.IgvmPlatformHeader, specs.Platforms.{supported_platform_of, platform_of}}
use Rattle.sheet_headers.{specs.Headers.sheet_headers, proofs.ListLaws.platform_header}
use Rattle.rules.{specs.Options.passes, specs.Platforms.{validate_platform, stands_with, same_type, is_cca, last_is_cca, own_platform_fault}, specs.Verdict.platform_faults, proofs.FaultLaws.{refuse_none, or_none}, proofs.Acceptance.platform_says}
use Rattle.platform_accept.specs.Accepted.{HoldsCca, InOrder, PlatformsAccepted}

-- ---- a body by itself

-- a type of the table stands with an architecture
abbrev stands : ℕ → Bool → Bool
stands type x64 = eqb type 1 || beq x64 (not (eqb type 6))

-- the table of platform types, by tests of the type
type_row : (type : ℕ) → type < 7 → platform_type_of type ≡ platform_type 1 (not (ltb 1 type)) (stands type true) (stands type false)
unfolding platform_type_of platform_types
type_row type l =
    each (λ (t : ℕ). platform_type_of t ≡ platform_type 1 (not (ltb 1 t)) (stands t true) (stands t false)) 0 7
    (refl ⨾ refl ⨾ refl ⨾ refl ⨾ refl ⨾ refl ⨾ refl ⨾ tt) type (omega arith) l

stands_with_lem : (a : Arch) (x64 : Bool) (type : ℕ) → x64 ≡ is_x64 a → type < 7 → stands type x64 ≡ true → stands_with a (platform_type_of type) ≡ true
stands_with_lem X64 x64 type e l h = rw (type_row type l) (rw e at h)
stands_with_lem AArch64 x64 type e l h = rw (type_row type l) (rw e at h)

-- a boundary that must be 0 is 0
unshared : (type boundary : ℕ) → type < 7 → (ltb 1 type || eqb boundary 0) ≡ true → ((platform_type_of type).unshared && not (eqb boundary 0)) ≡ false
unshared type boundary l h = rw (type_row type l) (go (ltb 1 type) (eqb boundary 0) h)
  where
    go : (p : Bool) → (q : Bool) → (p || q) ≡ true → (not p && not q) ≡ false
    go true q h = refl
    go false q h = rw h

-- what the test of a body asks
abbrev pub sound : Bool → IgvmPlatformHeader → Bool
sound x64 h =
    is_one_bit h.compatibility_mask && (eqb h.highest_vtl 0 || eqb h.highest_vtl 2) && leb h.platform_type 6 && eqb h.platform_version 1
    && (ltb 1 h.platform_type || eqb h.shared_gpa_boundary 0) && stands h.platform_type x64

pub in_order_says : (a : Arch) (x64 : Bool) (h : IgvmPlatformHeader) → x64 ≡ is_x64 a → sound x64 h ≡ true → is_fault (own_platform_fault a h) ≡ false
unfolding own_platform_fault validate_platform is_platform_type platform_types
in_order_says a x64 h e t =
    let (t5, st) = and_parts _ (stands h.platform_type x64) t in
    let (t4, bound) = and_parts _ (ltb 1 h.platform_type || eqb h.shared_gpa_boundary 0) t5 in
    let (t3, version) = and_parts _ (eqb h.platform_version 1) t4 in let (t2, low) = and_parts _ (leb h.platform_type 6) t3 in
    let (one, vtl) = and_parts (is_one_bit h.compatibility_mask) (eqb h.highest_vtl 0 || eqb h.highest_vtl 2) t2 in
    let six = leb-true h.platform_type 6 low in let l : h.platform_type < 7 = omega arith in
    let v : eqb h.platform_version (platform_type_of h.platform_type).version ≡ true = rw (type_row h.platform_type l) version in
    rw (
      one,
      vtl,
      lt-ltb h.platform_type 7 l,
      v,
      unshared h.platform_type h.shared_gpa_boundary l bound,
      no_fault_lem,
      stands_with_lem a x64 h.platform_type e l st,
    ) no_fault_lem

-- a row has no fault by itself: its mask is one bit and its type in the table
pub own_says : (a : Arch) (h : IgvmPlatformHeader) → is_fault (own_platform_fault a h) ≡ false → (is_one_bit h.compatibility_mask ≡ true) × (h.platform_type < 7)
unfolding own_platform_fault validate_platform is_platform_type platform_types
own_says a h e =
    let (v, _) = (or_none (validate_platform h) _).0 e in
    let (c8, r8) = (refuse_none (not (is_one_bit h.compatibility_mask)) 7 0 _).0 v in
    let (c9, r9) = (refuse_none (not (eqb h.highest_vtl 0 || eqb h.highest_vtl 2)) 8 0 _).0 r8 in
    let (c12, _) = (refuse_none (not (is_platform_type h.platform_type)) 11 0 _).0 r9 in
    (not-false _ c8, ltb-true _ _ (not-false _ c12))

-- ---- the types of the rows before

-- the bit of each row's type is set
abbrev pub HoldsTypes : ℕ → Rows IgvmPlatformHeader → Type 0
HoldsTypes seen xs = (i : ℕ) → i < xs.count → has_bit seen (xs.row i).platform_type ≡ true

pub types_none : (seen : ℕ) (xs : Rows IgvmPlatformHeader) → HoldsTypes seen (before 0 xs)
types_none seen xs i l = absurd (omega arith)

-- a type whose bit is not set is new
type_new : (seen : ℕ) (xs : Rows IgvmPlatformHeader) (h : IgvmPlatformHeader) → HoldsTypes seen xs → has_bit seen h.platform_type ≡ false → any (same_type h) xs ≡ false
unfolding same_type
type_new seen xs h types new =
    (none_any xs.count (λ i. same_type h (xs.row i))).1
    (λ i l. is_false (same_type h (xs.row i)) (λ e. not_both (rw (eqb-true h.platform_type (xs.row i).platform_type e) at new) (types i l)))

types_more : (seen : ℕ) (xs : Rows IgvmPlatformHeader) (i : ℕ) → HoldsTypes seen (before i xs) → HoldsTypes (bit_or seen (2 ^ (xs.row i).platform_type)) (before (i + 1) xs)
unfolding has_bit
types_more seen xs i types j l = rw (shares_or seen bit (2 ^ (xs.row j).platform_type)) (go (top (rw add-one at l)))
  where
    bit : ℕ
    bit = 2 ^ (xs.row i).platform_type

    old : ℕ → Bool
    old j = shares seen (2 ^ (xs.row j).platform_type)

    new : ℕ → Bool
    new j = shares bit (2 ^ (xs.row j).platform_type)

    go : (j ≡ i) ⊎ (j < i) → (old j || new j) ≡ true
    go (inl e) = or_right (old j) (new j) (rw e (bit_set (xs.row i).platform_type))
    go (inr m) = or_left (old j) (new j) (types j m)

-- ---- the bits of CCA

at_same : (xs : Rows IgvmPlatformHeader) (n : ℕ) (o : Option ℕ) → passes is_cca (row_at (before n xs) o) ≡ passes is_cca (row_at xs o)
at_same xs n none = refl
at_same xs n (some i) = refl

-- after one row more
last_cca : (xs : Rows IgvmPlatformHeader) (i m : ℕ)
    → last_is_cca (before (i + 1) xs) m ≡ cond (eqb (xs.row i).compatibility_mask m) (eqb (xs.row i).platform_type 6) (last_is_cca (before i xs) m)
unfolding last_is_cca
last_cca xs i m =
    let p : ℕ → Bool = λ j. eqb (xs.row j).compatibility_mask m in
    rw (at_same xs (i + 1) (last_below (i + 1) p), at_same xs i (last_below i p)) (last_more (λ o. passes is_cca (row_at xs o)) i p)

pub cca_none : (xs : Rows IgvmPlatformHeader) → HoldsCca 0 xs
unfolding has_bit shares
cca_none xs k l e = not_both refl e

cca_more : (cca : ℕ) (xs : Rows IgvmPlatformHeader) (i : ℕ) → is_one_bit (xs.row i).compatibility_mask ≡ true → HoldsCca cca (before i xs)
    → (not (eqb (xs.row i).platform_type 6) && shares cca (xs.row i).compatibility_mask) ≡ false
    → HoldsCca (cond (eqb (xs.row i).platform_type 6) (bit_or cca (xs.row i).compatibility_mask) cca) (before (i + 1) xs)
unfolding has_bit
cca_more cca xs i one holds free k l = go (eqb (xs.row i).platform_type 6) (eqb (xs.row i).compatibility_mask (2 ^ k)) free refl refl
  where
    mask : ℕ
    mask = (xs.row i).compatibility_mask

    -- by whether the row is CCA, and whether its mask is the bit
    go : (c : Bool) → (d : Bool) → (not c && shares cca mask) ≡ false → eqb (xs.row i).platform_type 6 ≡ c → eqb mask (2 ^ k) ≡ d
        → shares (cond c (bit_or cca mask) cca) (2 ^ k) ≡ true → last_is_cca (before (i + 1) xs) (2 ^ k) ≡ true
    go true true f t e h = rw (last_cca xs i (2 ^ k), e, t)
    go true false f t e h = rw (last_cca xs i (2 ^ k), e) (old (or_cases (shares cca (2 ^ k)) (shares mask (2 ^ k)) (rw (shares_or cca mask (2 ^ k)) at h)))
      where
        old : (shares cca (2 ^ k) ≡ true) ⊎ (shares mask (2 ^ k) ≡ true) → last_is_cca (before i xs) (2 ^ k) ≡ true
        old (inl g) = holds k l g
        old (inr g) = absurd (eqb-false mask (2 ^ k) e (one_bit_alone k mask one g))
    go false true f t e h = not_both f (rw (eqb-true mask (2 ^ k) e) h)
    go false false f t e h = rw (last_cca xs i (2 ^ k), e) (holds k l h)

-- ---- one row more

header_is : (s : List ℕ) (k : ℕ) → supported_platform_of (body_of s k) ≡ (sheet_headers s).platforms.row k
unfolding platform_of
header_is s k = platform_header s k k (sym (zero-add k))

-- a platform of 16 bytes in the sheet can be read
row_reads : (s : List ℕ) (k : ℕ) → k < (head_of s).platforms → row_kind s k ≡ 1 → row_length s k ≡ 16 → offset_of s k + row_length s k ≤ length s → RowOk s k
unfolding kind_of spans length_ok codes_ok
row_reads s k l kind len room =
    record { list = rw (kind, platform_list_lem (head_of s) k l); long = rw (kind, len); room = room; codes = rw kind }

-- at the head of the loop
pub record Reached (s : List ℕ) (c : Cursor) (seen cca : ℕ) : Type 0 where
  pub accepted : PlatformsAccepted s c cca
  pub types : HoldsTypes seen (before c.row (sheet_headers s).platforms)

pub reached_none : (s : List ℕ) (c : Cursor) → ReadTo s c → c.row ≡ 0 → Reached s c 0 0
unfolding any_below
reached_none s c r e =
    record {
      accepted = record { read = r; high = omega arith; good = rw e; holds = cca_none (before c.row (sheet_headers s).platforms) };
      types = rw e (types_none 0 (sheet_headers s).platforms);
    }

-- the row at the cursor passes
pub reached_more : (s : List ℕ) (c : Cursor) (seen cca : ℕ) (b : List ℕ) (h : IgvmPlatformHeader) (r : SheetRow) → Reached s c seen cca → c.row < (head_of s).platforms
    → Found s c.row c.at r → b ≡ take r.length (drop c.at s) → InOrder (sheet_headers s).arch r.kind b h
    → (shares seen (2 ^ h.platform_type) || (not (eqb h.platform_type 6) && shares cca h.compatibility_mask)) ≡ false
    → Reached s (cursor_after c r) (bit_or seen (2 ^ h.platform_type)) (cond (eqb h.platform_type 6) (bit_or cca h.compatibility_mask) cca)
unfolding has_bit
reached_more s c seen cca b h r was l f part fit free =
    let k = c.row in let xs = (sheet_headers s).platforms in let read = was.accepted.read in
    let row : h ≡ xs.row k = fit.says ∙ ap supported_platform_of (part ∙ body_found s c read r f) ∙ header_is s k in
    let (new, cca-free) = or_false_parts (shares seen (2 ^ h.platform_type)) _ free in
    let len : length (take r.length (drop c.at s)) ≡ 16 = rw (← part) fit.length_is in
    let long : r.length ≡ 16 = let m = simp (length-take, length-drop) at len in let q = f.room in omega arith in
    let reads = row_reads s k l (rw (← f.kind) fit.kind_is) (rw (← f.size) long) (room_row s c read r f) in
    let (one, _) = own_says (sheet_headers s).arch h fit.sound in
    let good : is_fault (platform_faults (sheet_headers s) k) ≡ false =
    rw (← row) ((platform_says (sheet_headers s).arch (before k xs) h).1 (fit.sound, type_new seen (before k xs) h was.types new)) in
    record {
      accepted = record {
        read = read_after s c read r f (omega arith) reads;
        high = omega arith;
        good = rw (any_more, was.accepted.good, good);
        holds = rw row (cca_more cca xs k (rw row at one) was.accepted.holds (rw row at cca-free));
      };
      types = rw row (types_more seen xs k was.types);
    }
