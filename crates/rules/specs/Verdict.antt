-- The first refusal of a file's headers, 8 to 34: list after list, row after row.
use Rattle.std.specs.Prelude.{ℕ, ◌+◌, eqb}
use Rattle.rows.specs.Rows.{any, before}
use Rattle.igvm_defs.specs.{declared.Fault.Fault, declared.Refusal.Refusal, Refusals.{fault, no_fault, refuse, in_row, or_else, first_fault}}
use Rattle.rules.specs.{Headers.Headers, Platforms.platform_fault, Regions.region_passes, Initializations.initialization_fault, Directives.{directive_fault, no_context}}

-- ---- the fault of each row, given the headers before it

abbrev pub platform_faults : Headers → ℕ → Fault
platform_faults f i = platform_fault f.arch (before i f.platforms) (f.platforms.row i)

abbrev pub initialization_faults : Headers → ℕ → Fault
initialization_faults f i = initialization_fault f.arch f.platforms (before i f.initializations) (f.initializations.row i)

abbrev pub directive_faults : Headers → ℕ → Fault
directive_faults f i = directive_fault f.arch f.initializations (before i f.directives) (f.directives.row i)

-- 15: no platform
unfoldable pub no_platform : Headers → Fault
no_platform f = refuse (eqb f.platforms.count 0) (fault 15 0) no_fault

-- 34: a region of either kind without a VP context
unfoldable pub no_matching_vp_context : Headers → Fault
no_matching_vp_context f = refuse (any (region_passes (no_context f.directives)) f.initializations) (fault 34 0) no_fault

-- ---- the lists

-- 8 to 14, then 15
unfoldable pub platforms_refusal : Headers → Refusal
platforms_refusal f = or_else (first_fault 0 f.platforms.count (platform_faults f)) (in_row 0 (no_platform f))

-- 16 to 29
unfoldable pub initializations_refusal : Headers → Refusal
initializations_refusal f = first_fault f.platforms.count f.initializations.count (initialization_faults f)

-- 21, 22, 24, 30 to 33, then 34
unfoldable pub directives_refusal : Headers → Refusal
directives_refusal f =
    or_else (first_fault (f.platforms.count + f.initializations.count) f.directives.count (directive_faults f))
    (in_row 0 (no_matching_vp_context f))

unfoldable pub headers_refusal : Headers → Refusal
headers_refusal f = or_else (platforms_refusal f) (or_else (initializations_refusal f) (directives_refusal f))
