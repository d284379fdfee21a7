use Rattle.rows.proofs.Kit.{◌≡◌, not, Bool, none, ℕ, take}
use Rattle.masks.specs.Masks.{first_mask}
use Rattle.platform_check.{specs.declared.Platforms.Platforms, specs.Record.last_type_is_cca}
use Rattle.initialization_check.proofs.without_cca.Given as goal

-- the bit's last platform is not CCA
abbrev pub without : Platforms → ℕ → Bool
without platforms bit = not (last_type_is_cca platforms bit)

abbrev pub invariant-loop-i : goal.invariant-loop-i
invariant-loop-i l = first_mask (without l.platforms) (take l.i l.bits.masks) ≡ none
