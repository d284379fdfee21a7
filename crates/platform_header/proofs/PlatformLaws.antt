-- Laws of platform headers.
use Rattle.le.proofs.LeLaws.{le_read, byte_read}
use Rattle.igvm_defs.{specs.Kinds.{platform_list, kind_of, spans, fields}, proofs.KindLaws.{Local, platform_kind}}
use Rattle.platform_header.specs.Platforms.{platform_of}

-- a header says no more than the kind, the body's length and its fields
pub platform_local : Local platform_list platform_of
unfolding platform_of fields kind_of spans
platform_local kind x y l n h = let g = rw (platform_kind kind l) at h in simp (le_read (fields 1) x y g, byte_read (fields 1) x y g)
