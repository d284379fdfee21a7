-- Image B of document 01, as the bytes of its sheet.
use Rattle.std.specs.Prelude.{ℕ, List, [], ◌∷◌}

unfoldable pub image_b : List ℕ
image_b =
    1 ∷ 0 ∷ 0 ∷ 0 ∷ 0 ∷ 0 ∷ 0 ∷ 0  -- revision 1, X64, page size 0
    ∷ 1 ∷ 0 ∷ 1 ∷ 0 ∷ 1 ∷ 0 ∷ 0 ∷ 0  -- one row in each list
    ∷ 1 ∷ 0 ∷ 0 ∷ 0 ∷ 16 ∷ 0 ∷ 0 ∷ 0  -- row 1: kind 1, 16 bytes
    ∷ 18 ∷ 0 ∷ 0 ∷ 0 ∷ 48 ∷ 0 ∷ 0 ∷ 0  -- row 2: kind 18, 48 bytes
    ∷ 47 ∷ 0 ∷ 0 ∷ 0 ∷ 5 ∷ 0 ∷ 0 ∷ 0  -- row 3: kind 47, 5 bytes
    ∷ 1 ∷ 0 ∷ 0 ∷ 0 ∷ 0 ∷ 0 ∷ 1 ∷ 0  -- row 1: mask 1, highest VTL 0, NATIVE, version 1
    ∷ 0 ∷ 0 ∷ 0 ∷ 0 ∷ 0 ∷ 0 ∷ 0 ∷ 0  -- shared GPA boundary 0
    ∷ 1 ∷ 0 ∷ 0 ∷ 0  -- row 2: mask 1
    ∷ 0 ∷ 16 ∷ 0 ∷ 0 ∷ 0 ∷ 0 ∷ 0 ∷ 0  -- alignment 0x1000
    ∷ 0 ∷ 0 ∷ 16 ∷ 0 ∷ 0 ∷ 0 ∷ 0 ∷ 0  -- gpa 0x100000
    ∷ 0 ∷ 32 ∷ 0 ∷ 0 ∷ 0 ∷ 0 ∷ 0 ∷ 0  -- size 0x2000
    ∷ 0 ∷ 0 ∷ 0 ∷ 0 ∷ 0 ∷ 0 ∷ 0 ∷ 0  -- minimum 0
    ∷ 0 ∷ 0 ∷ 32 ∷ 0 ∷ 0 ∷ 0 ∷ 0 ∷ 0  -- maximum 0x200000
    ∷ 0 ∷ 0 ∷ 0 ∷ 0  -- flags, VP index, VTL 0
    ∷ 1 ∷ 0 ∷ 0 ∷ 0 ∷ 0  -- row 3: mask 1, VTL 0
    ∷ []
