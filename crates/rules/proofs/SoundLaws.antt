-- The regions of an accepted file are sound.
use Rattle.rows.{proofs.Kit.{◌≡◌, false}, proofs.Bools.not_both, proofs.BelowLaws.some_below}
use Rattle.igvm_defs.specs.Refusals.{is_refusal}
use Rattle.masks.proofs.MaskLaws.{matches_shares}
use Rattle.rules.specs.{Regions.overlap, Directives.is_context, Headers.Headers, Verdict.headers_refusal, Accepted.Accepted, Sound.Sound}
use Rattle.rules.proofs.{RegionLaws.{contains_meets, overlap_says, regions_clash_lem}, Acceptance.accepted_says}

sound : (f : Headers) → Accepted f → Sound f
sound f a =
    record {
      apart = λ given n i j r q x y d gpa c e.
          not_both (a.regions i j x.below y.below d)
          ((regions_clash_lem overlap (f.initializations.row i) (f.initializations.row j)).1 (
            r,
            q,
            x.region,
            y.region,
            (overlap_says r q).1 (matches_shares given r.mask q.mask n x.matching y.matching, contains_meets r.gpa r.size q.gpa q.size gpa c e),
          ));
      vp = λ given n i r x. a.vp i r x.below x.region;
      context = λ given n i r x.
          some_below f.directives.count (λ j. is_context r.vtl r.mask (f.directives.row j)) (a.context i r x.below x.region);
    }

-- demand 3: in an accepted file no address lies in two regions of a mask, and each has VP index 0 and a VBS context
pub accepted_sound : (f : Headers) → is_refusal (headers_refusal f) ≡ false → Sound f
accepted_sound f h = sound f ((accepted_says f).0 h)
