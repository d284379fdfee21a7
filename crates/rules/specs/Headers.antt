-- A file as the rules see it: its architecture and its three lists of headers.
use Rattle.rows.specs.Rows.{Rows}
use Rattle.igvm_defs.specs.declared.Arch.{Arch}
use Rattle.platform_header.specs.declared.IgvmPlatformHeader.{IgvmPlatformHeader}
use Rattle.initialization_header.specs.declared.IgvmInitializationHeader.{IgvmInitializationHeader}
use Rattle.directive_header.specs.declared.IgvmDirectiveHeader.{IgvmDirectiveHeader}

pub record Headers : Type 0 where
  pub arch : Arch
  pub platforms : Rows IgvmPlatformHeader
  pub initializations : Rows IgvmInitializationHeader
  pub directives : Rows IgvmDirectiveHeader
