-- The report on a file's headers: for each row the refusal that it meets when every earlier faulty row is skipped, and 15 and 34 over the rows that are kept.
use Rattle.std.specs.Prelude.{ℕ, ◌+◌, ◌-◌, Bool, cond, ltb}
use Rattle.rows.specs.{Below.count_below, Rows.Rows}
use Rattle.igvm_defs.specs.{declared.Fault.Fault, Refusals.is_fault}
use Rattle.platform_header.specs.declared.IgvmPlatformHeader.{IgvmPlatformHeader}
use Rattle.initialization_header.specs.declared.IgvmInitializationHeader.{IgvmInitializationHeader}
use Rattle.directive_header.specs.declared.IgvmDirectiveHeader.{IgvmDirectiveHeader}
use Rattle.rules.specs.{Headers.Headers, Platforms.platform_fault, Initializations.initialization_fault, Directives.directive_fault, Verdict.{no_platform, no_matching_vp_context}, Kept.{fault_of, kept}}

module _ (f : Headers) where
  -- 8 to 14
  abbrev pub platform_report : ℕ → Fault
  platform_report i = fault_of (platform_fault f.arch) f.platforms i

  abbrev pub kept_platforms : Rows IgvmPlatformHeader
  kept_platforms = kept (platform_fault f.arch) f.platforms

  abbrev pub faulty_platforms : ℕ
  faulty_platforms = count_below f.platforms.count (λ i. is_fault (platform_report i))

  -- 16 to 29, where 25 looks at the kept platforms, 26 and 29 at the kept regions
  abbrev pub initialization_report : ℕ → Fault
  initialization_report i = fault_of (initialization_fault f.arch kept_platforms) f.initializations i

  abbrev pub kept_initializations : Rows IgvmInitializationHeader
  kept_initializations = kept (initialization_fault f.arch kept_platforms) f.initializations

  abbrev pub faulty_initializations : ℕ
  faulty_initializations = count_below f.initializations.count (λ i. is_fault (initialization_report i))

  -- 21, 22, 24 and 30 to 33, where 32 looks at the kept directives, 33 at the kept page tables
  abbrev pub directive_report : ℕ → Fault
  directive_report i = fault_of (directive_fault f.arch kept_initializations) f.directives i

  abbrev pub kept_directives : Rows IgvmDirectiveHeader
  kept_directives = kept (directive_fault f.arch kept_initializations) f.directives

  abbrev pub faulty_directives : ℕ
  faulty_directives = count_below f.directives.count (λ i. is_fault (directive_report i))

  -- the file without the skipped rows
  abbrev pub kept_headers : Headers
  kept_headers = record { arch = f.arch; platforms = kept_platforms; initializations = kept_initializations; directives = kept_directives }

  -- ---- the rows of the three lists, one list after the other

  abbrev pub rows_of : ℕ
  rows_of = f.platforms.count + f.initializations.count + f.directives.count

  -- what the report says of row k, from 0
  unfoldable pub report_fault : ℕ → Fault
  report_fault k =
      cond (ltb k f.platforms.count) (platform_report k)
      (cond (ltb k (f.platforms.count + f.initializations.count)) (initialization_report (k - f.platforms.count))
      (directive_report (k - (f.platforms.count + f.initializations.count))))

  -- its word: the refusal's number, or 0
  abbrev pub report_word : ℕ → ℕ
  report_word k = (report_fault k).number

  -- how many rows are faulty
  unfoldable pub faulty_rows : ℕ
  faulty_rows = count_below rows_of (λ k. is_fault (report_fault k))

  -- 15 and 34, told separately, over the kept rows
  abbrev pub report_no_platform : Bool
  report_no_platform = is_fault (no_platform kept_headers)

  abbrev pub report_no_context : Bool
  report_no_context = is_fault (no_matching_vp_context kept_headers)
