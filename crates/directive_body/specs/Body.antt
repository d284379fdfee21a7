-- When a directive row, from its kind and body, is in order by itself.
use Rattle.std.specs.Prelude.{ℕ, true, false, List, ◌≡◌, length}
use Rattle.igvm_defs.specs.declared.Arch.{Arch}
use Rattle.igvm_defs.specs.Kinds.{kind_of, length_ok, directive_list}
use Rattle.igvm_defs.specs.Refusals.{is_fault}
use Rattle.sheet.specs.Read.{codes_ok}
use Rattle.directive_header.specs.Directives.{directive_of}
use Rattle.rules.specs.Directives.{own_directive_fault}

-- by itself: length, codes, and what the rules ask of the header alone
pub record BodyInOrder (arch : Arch) (kind : ℕ) (b : List ℕ) : Type 0 where
  pub list : (kind_of kind).list ≡ directive_list
  pub long : length_ok (kind_of kind) (length b) ≡ true
  pub codes : codes_ok kind b ≡ true
  pub own : is_fault (own_directive_fault arch (directive_of kind b)) ≡ false
