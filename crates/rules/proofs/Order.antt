-- Files whose rows pair off answer alike.
use Rattle.rows.{proofs.Kit.{◌≡◌, sym, false, ◌↔◌}, specs.Paired.Free, proofs.PairedLaws.{forth, flip}}
use Rattle.igvm_defs.specs.Refusals.{is_refusal}
use Rattle.initialization_header.specs.declared.IgvmInitializationHeader.{IgvmInitializationHeader}
use Rattle.rules.specs.{Headers.Headers, Verdict.headers_refusal, Accepted.Accepted, Reordered.{Reordered, SameAnswers}}
use Rattle.rules.proofs.{Acceptance.accepted_says, Within.{Within, mask_sym, area_sym, within_accepted}, QueryLaws.{region_there, region_count_same, page_table_same}}

free_sym : (x y : IgvmInitializationHeader) → Free x y → Free y x
free_sym x y e = e

pub reordered_sym : {f g : Headers} → Reordered f g → Reordered g f
reordered_sym R =
    record {
      arch = sym R.arch;
      platforms = flip mask_sym R.platforms;
      initializations = flip free_sym R.initializations;
      directives = flip area_sym R.directives;
    }

-- the rows of f all stand in g
pub reordered_within : {f g : Headers} → Reordered f g → Within f g
reordered_within R =
    record {
      arch = R.arch;
      platforms = R.platforms;
      initializations = forth R.initializations;
      directives = forth R.directives;
      contexts = λ level bits j l h. (R.directives.from j, R.directives.from_below j l, R.directives.to_from j l);
      areas = λ area i j l o k h. (R.directives.from j, R.directives.from_below j k, R.directives.to_from j k);
    }

carries : (f g : Headers) → Reordered f g → Accepted g → Accepted f
carries f g R = within_accepted f g (reordered_within R)

-- demand 3: the order of the rows does not decide whether a file is accepted
pub same_accepted : (f g : Headers) → Reordered f g → (is_refusal (headers_refusal f) ≡ false) ↔ (is_refusal (headers_refusal g) ≡ false)
same_accepted f g R = (
  λ h. (accepted_says g).1 (carries g f (reordered_sym R) ((accepted_says f).0 h)),
  λ h. (accepted_says f).1 (carries f g R ((accepted_says g).0 h)),
)

-- nor what a query answers, each region by its number in its own file
pub same_answers : (f g : Headers) (R : Reordered f g) → SameAnswers f g R
same_answers f g R =
    record {
      accepted = same_accepted f g R;
      count = region_count_same R.initializations;
      region = region_there (forth R.initializations);
      table = λ h. page_table_same R.initializations ((accepted_says f).0 h).tables;
    }
