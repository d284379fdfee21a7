-- Laws of a sheet's headers.
use Rattle.rows.proofs.Kit.{ℕ, List, ◌≡◌, refl}
use Rattle.igvm_defs.specs.Revision.{arch_of}
use Rattle.sheet.specs.Head.{head_of, revision_of}
use Rattle.sheet_headers.specs.Headers.{sheet_headers}

-- the architecture and the lists' lengths, as the head has them
pub record SheetCounts (s : List ℕ) : Type 0 where
  pub arch : arch_of (revision_of (head_of s)) ≡ (sheet_headers s).arch
  pub platforms : (sheet_headers s).platforms.count ≡ (head_of s).platforms
  pub initializations : (sheet_headers s).initializations.count ≡ (head_of s).initializations
  pub directives : (sheet_headers s).directives.count ≡ (head_of s).directives

pub sheet_counts : (s : List ℕ) → SheetCounts s
unfolding sheet_headers
sheet_counts s = record { arch = refl; platforms = refl; initializations = refl; directives = refl }
