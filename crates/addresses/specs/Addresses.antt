-- Alignments and ranges of guest physical addresses, in exact arithmetic.
use Rattle.std.specs.Prelude.{ℕ, ◌+◌, ◌%◌, Bool, ◌&&◌, eqb, leb, ltb}
use Rattle.igvm_defs.specs.Revision.{page_size}

-- x is a multiple of a; of 0 only 0 is
unfoldable pub is_multiple : ℕ → ℕ → Bool
is_multiple x a = eqb (x % a) 0

-- on a page boundary
abbrev pub on_page : ℕ → Bool
on_page x = is_multiple x page_size

-- an address is contained from base up to, not including, base + size
unfoldable pub contains : ℕ → ℕ → ℕ → Bool
contains base size gpa = leb base gpa && ltb gpa (base + size)

-- two ranges have an address in common, neither being empty
unfoldable pub meets : ℕ → ℕ → ℕ → ℕ → Bool
meets base size base2 size2 = ltb base (base2 + size2) && ltb base2 (base + size)

-- the range ends above 2^64 - 1
unfoldable pub ends_beyond : ℕ → ℕ → Bool
ends_beyond base size = ltb 18446744073709551615 (base + size)

-- a base that a region may be moved to: a multiple of the alignment, not below the minimum, and with an end not above the maximum
unfoldable pub base_valid : ℕ → ℕ → ℕ → ℕ → ℕ → Bool
base_valid alignment size minimum maximum base = is_multiple base alignment && leb minimum base && leb (base + size) maximum
