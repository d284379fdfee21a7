-- What is wrong with a directive header, given the initialization headers and the directive headers before it: refusals 21, 22, 24 and 30 to 33;
-- and which region has no VP context: 34.
use Rattle.std.specs.Prelude.{ℕ, Bool, cond, not, ◌&&◌, ◌||◌, eqb, ltb}
use Rattle.rows.specs.Rows.{Rows, any}
use Rattle.igvm_defs.specs.{declared.Arch.Arch, declared.Fault.Fault, Refusals.{fault, no_fault, refuse, or_fault}, Revision.{page_size, is_x64, is_aarch64}}
use Rattle.initialization_header.specs.declared.IgvmInitializationHeader.{IgvmInitializationHeader}
use Rattle.directive_header.specs.{declared.IgvmDirectiveHeader.IgvmDirectiveHeader, Fields.{DirectiveFields, directive_fields, kind_number, area_of}}
use Rattle.masks.specs.Masks.{shares}
use Rattle.addresses.specs.Addresses.{on_page}
use Rattle.rules.specs.{declared.Region.Region, Options.passes, Regions.{region_passes, table_holds}}

-- kinds that stand at an address
abbrev pub has_address : ℕ → Bool
has_address kind = eqb kind 32 || eqb kind 44 || eqb kind 45 || eqb kind 50 || eqb kind 51

-- kinds whose bytes are whole pages
abbrev pub has_pages : ℕ → Bool
has_pages kind = eqb kind 33 || eqb kind 44

-- more data than a page holds, or than the area's bytes
abbrev pub too_long : DirectiveFields → Bool
too_long d = cond (eqb d.kind 32) (ltb page_size d.tail) (eqb d.kind 33 && ltb d.bytes d.tail)

-- the header alone
abbrev pub validate_directive : IgvmDirectiveHeader → Fault
validate_directive h =
    let d = directive_fields h in
    refuse (has_address d.kind && not (on_page d.gpa)) (fault 21 d.gpa)
    (refuse (eqb d.kind 32 && ltb 3 d.type) (fault 30 0)
    (refuse (has_pages d.kind && not (on_page d.bytes)) (fault 22 d.bytes)
    (refuse (too_long d) (fault 31 0)
    no_fault)))

-- kinds 46 and 47 stand with X64 alone, 48 and 49 with AArch64
unfoldable pub wrong_context_arch : Arch → ℕ → Bool
wrong_context_arch arch kind = cond (eqb kind 46 || eqb kind 47) (not (is_x64 arch)) ((eqb kind 48 || eqb kind 49) && not (is_aarch64 arch))

-- and by the architecture
unfoldable pub own_directive_fault : Arch → IgvmDirectiveHeader → Fault
own_directive_fault arch h = or_fault (validate_directive h) (refuse (wrong_context_arch arch (kind_number h)) (fault 24 (kind_number h)) no_fault)

-- ---- parameter areas

-- the header allocates the area: kind 33
unfoldable pub allocates : ℕ → IgvmDirectiveHeader → Bool
allocates area h = eqb (kind_number h) 33 && passes (eqb area) (area_of h)

-- the header inserts the area: kind 50
unfoldable pub inserts : ℕ → IgvmDirectiveHeader → Bool
inserts area h = eqb (kind_number h) 50 && passes (eqb area) (area_of h)

-- the area is allocated by an earlier header, and inserted by none
unfoldable pub is_allocated : Rows IgvmDirectiveHeader → ℕ → Bool
is_allocated earlier area = any (allocates area) earlier && not (any (inserts area) earlier)

-- 32: an area index may be allocated once, named while allocated, inserted once
unfoldable pub bad_area : Rows IgvmDirectiveHeader → IgvmDirectiveHeader → Bool
bad_area earlier h =
    passes (λ area. cond (eqb (kind_number h) 33) (any (allocates area) earlier) (not (is_allocated earlier area))) (area_of h)

-- 33: an insert at an address in a page table, under a shared bit
abbrev pub inside_table : Rows IgvmInitializationHeader → IgvmDirectiveHeader → Bool
inside_table initializations h =
    eqb (kind_number h) 50 && any (region_passes (table_holds (directive_fields h).mask (directive_fields h).gpa)) initializations

unfoldable pub directive_fault : Arch → Rows IgvmInitializationHeader → Rows IgvmDirectiveHeader → IgvmDirectiveHeader → Fault
directive_fault arch initializations earlier h =
    or_fault (own_directive_fault arch h)
    (refuse (bad_area earlier h) (fault 32 0)
    (refuse (inside_table initializations h) (fault 33 0)
    no_fault))

-- ---- VP contexts

-- the header is a VBS context (47, 48) of this VTL, and its mask shares a bit with this one
abbrev pub is_context : ℕ → ℕ → IgvmDirectiveHeader → Bool
is_context level bits h =
    let d = directive_fields h in
    (eqb d.kind 47 || eqb d.kind 48) && eqb d.vtl level && shares d.mask bits

-- 34: a region whose VP index is not 0, or for which no VBS context of its VTL shares a bit with its mask
unfoldable pub no_context : Rows IgvmDirectiveHeader → Region → Bool
no_context directives r = not (eqb r.vp_index 0 && any (is_context r.vtl r.mask) directives)
