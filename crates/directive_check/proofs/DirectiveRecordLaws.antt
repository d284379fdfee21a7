-- Laws of the contexts' masks, and of the area rule over numbers.
use Rattle.rows.{proofs.Kit.{ℕ, leb-true, ◌+◌, ◌<◌, arith, ◌≡◌, refl, sym, ap, ◌∙◌, Bool, true, false, cond, not, ◌&&◌, ◌||◌, or-false, List, [], ◌∷◌, none, bit_or, eqb, length, get_or, set, get_or-set_same, get_or-set_other, eqb-true, eqb-false}, specs.Below.any_below, specs.Rows.{Rows, any, before}, proofs.BelowLaws.{zeros, any_more}, proofs.Bools.{or_false_parts, and_parts}}
use Rattle.igvm_defs.{specs.{Kinds.{kind_of, directive_list, spans}, declared.Arch.Arch, declared.Vtl.Vtl}, proofs.Runs.{each, ◌⨾◌}}
use Rattle.masks.{specs.Masks.shares, proofs.MaskLaws.{shares_zero_left, shares_or}}
use Rattle.directive_header.{specs.declared.IgvmDirectiveHeader.IgvmDirectiveHeader, specs.declared.IgvmDirectiveHeader.TheVariants.{PageData, ParameterArea, VpCount, EnvironmentInfo, Srat, Madt, Slit, Pptt, MmioRanges, MemoryMap, CommandLine, DeviceTree, RequiredMemory, SnpVpContext, X64NativeVpContext, X64VbsVpContext, AArch64VbsVpContext, AArch64CcaVpContext, ParameterInsert, ErrorRange, SnpIdBlock, VbsMeasurement}, specs.Directives.directive_of, proofs.DirectiveLaws.kind_directive, specs.Fields.{kind_number, area_of, is_parameter, area_named}}
use Rattle.rules.{specs.declared.Region.Region, specs.Options.passes, specs.Directives.{wrong_context_arch, allocates, inserts, is_allocated, bad_area, is_context, no_context}}
use Rattle.directive_check.specs.Record.{HoldsContexts, lacks_context, how_of, how_named, names_area, area_number}

-- ---- contexts

pub holds_no_contexts : (xs : Rows IgvmDirectiveHeader) → HoldsContexts (0 ∷ 0 ∷ 0 ∷ []) (before 0 xs)
unfolding any_below
holds_no_contexts xs level bits = rw (zeros 3 level) (shares_zero_left bits)

-- the mask of one VTL with more bits
pub context_set : (contexts : List ℕ) (v mask : ℕ) → v < length contexts → (level bits : ℕ)
    → shares (get_or (set contexts v (bit_or (get_or contexts v 0) mask)) level 0) bits ≡ (shares (get_or contexts level 0) bits || (eqb v level && shares mask bits))
context_set contexts v mask l level bits = go (eqb v level) refl
  where
    new : ℕ
    new = bit_or (get_or contexts v 0) mask

    go : (b : Bool) → eqb v level ≡ b → shares (get_or (set contexts v new) level 0) bits ≡ (shares (get_or contexts level 0) bits || (b && shares mask bits))
    go true e =
        let q : level ≡ v = sym (eqb-true v level e) in
        rw (q, get_or-set_same contexts v new 0 l) (shares_or (get_or contexts v 0) mask bits)
    go false e =
        rw (get_or-set_other contexts v level new 0 (λ q. eqb-false v level e (sym q)))
        (sym (or-false (shares (get_or contexts level 0) bits)))

three : (xs : List ℕ) → length xs ≡ 3 → xs ≡ (get_or xs 0 0 ∷ get_or xs 1 0 ∷ get_or xs 2 0 ∷ [])
three [] e = absurd (omega arith)
three (a ∷ []) e = absurd (omega arith)
three (a ∷ b ∷ []) e = absurd (omega arith)
three (a ∷ b ∷ c ∷ []) e = refl
three (a ∷ b ∷ c ∷ d ∷ xs) e = absurd (omega arith)

-- the same, item by item
pub context_items : (xs : List ℕ) → length xs ≡ 3 → (v mask : ℕ) → v < 3 → (level bits : ℕ)
    → shares (get_or (set (get_or xs 0 0 ∷ get_or xs 1 0 ∷ get_or xs 2 0 ∷ []) v (bit_or (get_or xs v 0) mask)) level 0) bits
    ≡ (shares (get_or xs level 0) bits || (eqb v level && shares mask bits))
context_items xs n v mask l level bits =
    ap (λ (ys : List ℕ). shares (get_or (set ys v (bit_or (get_or xs v 0) mask)) level 0) bits) (sym (three xs n)) ∙ context_set xs v mask (omega arith) level bits

-- masks that share a bit where those of the rows before i do, or where row i's context does
pub holds_next : (contexts next : List ℕ) (xs : Rows IgvmDirectiveHeader) (i : ℕ)
    → ((level bits : ℕ) → shares (get_or next level 0) bits ≡ (shares (get_or contexts level 0) bits || is_context level bits (xs.row i)))
    → HoldsContexts contexts (before i xs) → HoldsContexts next (before (i + 1) xs)
holds_next contexts next xs i more holds level bits = rw (any_more i (λ j. is_context level bits (xs.row j)), more level bits, holds level bits)

pub lacks_says : (contexts : List ℕ) (ds : Rows IgvmDirectiveHeader) (r : Region) → HoldsContexts contexts ds → lacks_context contexts r ≡ no_context ds r
unfolding lacks_context no_context
lacks_says contexts ds r h = rw (h r.vtl r.mask)

-- a header of a kind other than 47 and 48 is no VBS context
pub no_vbs_context : (level bits : ℕ) (h : IgvmDirectiveHeader)
    → ((v : Vtl) (a b : ℕ) → h ≡ X64VbsVpContext v a b → ⊥) → ((v : Vtl) (a b : ℕ) → h ≡ AArch64VbsVpContext v a b → ⊥)
    → is_context level bits h ≡ false
no_vbs_context level bits (PageData a b c d e) n0 n1 = refl
no_vbs_context level bits (ParameterArea a b c) n0 n1 = refl
no_vbs_context level bits (VpCount a) n0 n1 = refl
no_vbs_context level bits (EnvironmentInfo a) n0 n1 = refl
no_vbs_context level bits (Srat a) n0 n1 = refl
no_vbs_context level bits (Madt a) n0 n1 = refl
no_vbs_context level bits (Slit a) n0 n1 = refl
no_vbs_context level bits (Pptt a) n0 n1 = refl
no_vbs_context level bits (MmioRanges a) n0 n1 = refl
no_vbs_context level bits (MemoryMap a) n0 n1 = refl
no_vbs_context level bits (CommandLine a) n0 n1 = refl
no_vbs_context level bits (DeviceTree a) n0 n1 = refl
no_vbs_context level bits (RequiredMemory a b c d) n0 n1 = refl
no_vbs_context level bits (SnpVpContext a b c d) n0 n1 = refl
no_vbs_context level bits (X64NativeVpContext a b c) n0 n1 = refl
no_vbs_context level bits (X64VbsVpContext a b c) n0 n1 = absurd (n0 a b c refl)
no_vbs_context level bits (AArch64VbsVpContext a b c) n0 n1 = absurd (n1 a b c refl)
no_vbs_context level bits (AArch64CcaVpContext a b c) n0 n1 = refl
no_vbs_context level bits (ParameterInsert a) n0 n1 = refl
no_vbs_context level bits (ErrorRange a b c) n0 n1 = refl
no_vbs_context level bits (SnpIdBlock a b) n0 n1 = refl
no_vbs_context level bits (VbsMeasurement a b) n0 n1 = refl

-- ---- the architecture

-- a header of a kind other than 46 to 49 stands with any architecture
pub right_arch : (arch : Arch) (h : IgvmDirectiveHeader)
    → ((a b d : ℕ) → h ≡ X64NativeVpContext a b d → ⊥) → ((v : Vtl) (a b : ℕ) → h ≡ X64VbsVpContext v a b → ⊥)
    → ((v : Vtl) (a b : ℕ) → h ≡ AArch64VbsVpContext v a b → ⊥) → ((a b d : ℕ) → h ≡ AArch64CcaVpContext a b d → ⊥)
    → wrong_context_arch arch (kind_number h) ≡ false
unfolding wrong_context_arch
right_arch arch (PageData a b c d e) n0 n1 n2 n3 = refl
right_arch arch (ParameterArea a b c) n0 n1 n2 n3 = refl
right_arch arch (VpCount a) n0 n1 n2 n3 = refl
right_arch arch (EnvironmentInfo a) n0 n1 n2 n3 = refl
right_arch arch (Srat a) n0 n1 n2 n3 = refl
right_arch arch (Madt a) n0 n1 n2 n3 = refl
right_arch arch (Slit a) n0 n1 n2 n3 = refl
right_arch arch (Pptt a) n0 n1 n2 n3 = refl
right_arch arch (MmioRanges a) n0 n1 n2 n3 = refl
right_arch arch (MemoryMap a) n0 n1 n2 n3 = refl
right_arch arch (CommandLine a) n0 n1 n2 n3 = refl
right_arch arch (DeviceTree a) n0 n1 n2 n3 = refl
right_arch arch (RequiredMemory a b c d) n0 n1 n2 n3 = refl
right_arch arch (SnpVpContext a b c d) n0 n1 n2 n3 = refl
right_arch arch (X64NativeVpContext a b c) n0 n1 n2 n3 = absurd (n0 a b c refl)
right_arch arch (X64VbsVpContext a b c) n0 n1 n2 n3 = absurd (n1 a b c refl)
right_arch arch (AArch64VbsVpContext a b c) n0 n1 n2 n3 = absurd (n2 a b c refl)
right_arch arch (AArch64CcaVpContext a b c) n0 n1 n2 n3 = absurd (n3 a b c refl)
right_arch arch (ParameterInsert a) n0 n1 n2 n3 = refl
right_arch arch (ErrorRange a b c) n0 n1 n2 n3 = refl
right_arch arch (SnpIdBlock a b) n0 n1 n2 n3 = refl
right_arch arch (VbsMeasurement a b) n0 n1 n2 n3 = refl

-- ---- areas

-- a parameter's body has eight bytes at least
pub parameter_least : (kind : ℕ) → is_parameter kind ≡ true → (kind_of kind).least ≡ 8
unfolding kind_of spans
parameter_least kind t =
    let (a, b) = and_parts _ _ t in
    let l = leb-true 34 kind a in
    let u = leb-true kind 43 b in
    each (λ k. (kind_of k).least ≡ 8) 34 10 (refl ⨾ refl ⨾ refl ⨾ refl ⨾ refl ⨾ refl ⨾ refl ⨾ refl ⨾ refl ⨾ refl ⨾ tt) kind l (omega arith)

-- what is asked of a header's kind and area, asked of how it names an area, and which
record SaysHow (h : IgvmDirectiveHeader) : Type 0 where
  allocated : (x : ℕ) → allocates x h ≡ (eqb (how_of h) 0 && eqb x (area_number (area_of h)))
  inserted : (x : ℕ) → inserts x h ≡ (eqb (how_of h) 2 && eqb x (area_number (area_of h)))
  tested : (p q : ℕ → Bool) → passes (λ x. cond (eqb (kind_number h) 33) (p x) (q x)) (area_of h)
      ≡ cond (eqb (how_of h) 3) false (cond (eqb (how_of h) 0) (p (area_number (area_of h))) (q (area_number (area_of h))))

says_how : (h : IgvmDirectiveHeader) → SaysHow h
unfolding allocates inserts how_named
says_how (PageData a b c d e) = record { allocated = λ x. refl; inserted = λ x. refl; tested = λ p q. refl }
says_how (ParameterArea a b c) = record { allocated = λ x. refl; inserted = λ x. refl; tested = λ p q. refl }
says_how (VpCount a) = record { allocated = λ x. refl; inserted = λ x. refl; tested = λ p q. refl }
says_how (EnvironmentInfo a) = record { allocated = λ x. refl; inserted = λ x. refl; tested = λ p q. refl }
says_how (Srat a) = record { allocated = λ x. refl; inserted = λ x. refl; tested = λ p q. refl }
says_how (Madt a) = record { allocated = λ x. refl; inserted = λ x. refl; tested = λ p q. refl }
says_how (Slit a) = record { allocated = λ x. refl; inserted = λ x. refl; tested = λ p q. refl }
says_how (Pptt a) = record { allocated = λ x. refl; inserted = λ x. refl; tested = λ p q. refl }
says_how (MmioRanges a) = record { allocated = λ x. refl; inserted = λ x. refl; tested = λ p q. refl }
says_how (MemoryMap a) = record { allocated = λ x. refl; inserted = λ x. refl; tested = λ p q. refl }
says_how (CommandLine a) = record { allocated = λ x. refl; inserted = λ x. refl; tested = λ p q. refl }
says_how (DeviceTree a) = record { allocated = λ x. refl; inserted = λ x. refl; tested = λ p q. refl }
says_how (RequiredMemory a b c d) = record { allocated = λ x. refl; inserted = λ x. refl; tested = λ p q. refl }
says_how (SnpVpContext a b c d) = record { allocated = λ x. refl; inserted = λ x. refl; tested = λ p q. refl }
says_how (X64NativeVpContext a b c) = record { allocated = λ x. refl; inserted = λ x. refl; tested = λ p q. refl }
says_how (X64VbsVpContext a b c) = record { allocated = λ x. refl; inserted = λ x. refl; tested = λ p q. refl }
says_how (AArch64VbsVpContext a b c) = record { allocated = λ x. refl; inserted = λ x. refl; tested = λ p q. refl }
says_how (AArch64CcaVpContext a b c) = record { allocated = λ x. refl; inserted = λ x. refl; tested = λ p q. refl }
says_how (ParameterInsert a) = record { allocated = λ x. refl; inserted = λ x. refl; tested = λ p q. refl }
says_how (ErrorRange a b c) = record { allocated = λ x. refl; inserted = λ x. refl; tested = λ p q. refl }
says_how (SnpIdBlock a b) = record { allocated = λ x. refl; inserted = λ x. refl; tested = λ p q. refl }
says_how (VbsMeasurement a b) = record { allocated = λ x. refl; inserted = λ x. refl; tested = λ p q. refl }

-- a header names an area as its row does
pub how_directive : (kind : ℕ) → (kind_of kind).list ≡ directive_list → (b : List ℕ) → how_of (directive_of kind b) ≡ how_named kind
how_directive kind l b = ap how_named (kind_directive kind l b)

-- a row of any other kind names none
pub names_no_area : (kind : ℕ) → names_area kind ≡ false → (b : List ℕ) → area_named kind b ≡ none
unfolding names_area area_named
names_no_area kind n b =
    let (m, f) = or_false_parts (eqb kind 33 || is_parameter kind) (eqb kind 50) n in
    let (e, p) = or_false_parts (eqb kind 33) (is_parameter kind) m in
    rw (e, p, f)

-- a header allocates or inserts an area as its way of naming one says
pub allocates_says : (x : ℕ) (h : IgvmDirectiveHeader) → allocates x h ≡ (eqb (how_of h) 0 && eqb x (area_number (area_of h)))
allocates_says x h = (says_how h).allocated x

pub inserts_says : (x : ℕ) (h : IgvmDirectiveHeader) → inserts x h ≡ (eqb (how_of h) 2 && eqb x (area_number (area_of h)))
inserts_says x h = (says_how h).inserted x

-- the area of a header is bad by how it names it, and by the headers before it that allocate or insert it
pub bad_area_says : (earlier : Rows IgvmDirectiveHeader) (h : IgvmDirectiveHeader) → bad_area earlier h
    ≡ cond (eqb (how_of h) 3) false (cond (eqb (how_of h) 0) (any (allocates (area_number (area_of h))) earlier) (not (any (allocates (area_number (area_of h))) earlier && not (any (inserts (area_number (area_of h))) earlier))))
unfolding bad_area is_allocated
bad_area_says earlier h = (says_how h).tested _ _
