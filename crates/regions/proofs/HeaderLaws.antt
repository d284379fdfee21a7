-- A header of another kind is no region.
use Rattle.rows.proofs.Kit.{◌≡◌, refl, sym, false, false≢true, none, ℕ, eqb}
use Rattle.initialization_header.{specs.declared.IgvmInitializationHeader.IgvmInitializationHeader, specs.declared.IgvmInitializationHeader.TheVariants.{GuestPolicy, CcaPolicy, RelocatableRegion, PageTableRelocationRegion}, specs.Fields.kind_number}
use Rattle.rules.specs.Relocations.{is_relocatable, is_page_table, relocatable_of, page_table_of}

pub not_relocatable : (h : IgvmInitializationHeader) → eqb (kind_number h) 18 ≡ false
    → ((given : ℕ) → is_relocatable given h ≡ false) × (relocatable_of h ≡ none)
not_relocatable (GuestPolicy a b) e = (λ given. refl, refl)
not_relocatable (CcaPolicy a b c) e = (λ given. refl, refl)
not_relocatable (RelocatableRegion a b c d e f g h i j k) n = absurd (false≢true (sym n))
not_relocatable (PageTableRelocationRegion a b c d e f) n = (λ given. refl, refl)

pub not_page_table : (h : IgvmInitializationHeader) → eqb (kind_number h) 19 ≡ false
    → ((given : ℕ) → is_page_table given h ≡ false) × (page_table_of h ≡ none)
not_page_table (GuestPolicy a b) e = (λ given. refl, refl)
not_page_table (CcaPolicy a b c) e = (λ given. refl, refl)
not_page_table (RelocatableRegion a b c d e f g h i j k) n = (λ given. refl, refl)
not_page_table (PageTableRelocationRegion a b c d e f) n = absurd (false≢true (sym n))
