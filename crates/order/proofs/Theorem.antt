-- Demand 3: the theorem.
use Rattle.rows.proofs.Kit.{◌≡◌, sym, List, ℕ, ◌<◌}
use Rattle.sheet.{specs.Head.{Limits, head_of}, specs.Read.{Readable, sheet_refusal}, proofs.Readable.sheet_says}
use Rattle.sheet_headers.specs.Headers.{sheet_headers}
use Rattle.rules.{specs.Accepted.NotRefused, specs.Relocations.region_at, proofs.FaultLaws.else_none, proofs.Order.{reordered_sym, same_answers}, proofs.QueryLaws.number_below, proofs.SoundLaws.accepted_sound, proofs.StrictLaws.same_bits}
use Rattle.answers.{proofs.AnswerLaws.{regions_of, accepted_headers}, proofs.SameRegion.{answer_same, range_same}, proofs.StrictLaws.strictly_accepted, specs.Verdict.verdict_refusal, specs.Relocations.{sheet_initializations, base_number}}
use Rattle.order.specs.{Reordered.Reordered, Demand.{Accepted, IsRegion, number_in, SameAnswers}, Ranges.SameRanges, Owners.SameOwners, Strict.SameStrict}
use Rattle.order.proofs.{ReadableToo.{heads, readable_too}, Lists.{paired_in, headers_reordered}, Answers.{list_same, words_same}, Owners.{refusal_same, owner_partner, no_owner_too, index_same, places_same}}
use Rattle.rules.specs.Reordered as rules

-- of readable sheets with one head, whether 8 to 34 apply decides
accepted_there : (l : Limits) (a b : List ℕ) → Readable l b → head_of b ≡ head_of a → (NotRefused (sheet_headers a) → NotRefused (sheet_headers b))
    → Accepted l a → Accepted l b
unfolding verdict_refusal
accepted_there l a b ok e f v =
    let (p, n) = (else_none (sheet_refusal l a) _).0 v in
    (else_none (sheet_refusal l b) _).1 ((sheet_says l b).1 (ok, rw e ((sheet_says l a).0 p).1), f n)

-- a region's number is one of the mask's
number_in_lem : (s : List ℕ) (given i : ℕ) → IsRegion s given i → number_in s given i < regions_of s given
number_in_lem s given i r = number_below (sheet_initializations s) given i r.below r.relocatable

module _ (l : Limits) (a b : List ℕ) (ok : Readable l a) (R : Reordered a b) where
  H : rules.Reordered (sheet_headers a) (sheet_headers b)
  H = headers_reordered l ok R

  S : rules.SameAnswers (sheet_headers a) (sheet_headers b) H
  S = same_answers (sheet_headers a) (sheet_headers b) H

  there : Accepted l a → Accepted l b
  there = accepted_there l a b (readable_too l ok R) (heads R) S.accepted.0

  back : Accepted l b → Accepted l a
  back = accepted_there l b a ok (sym (heads R)) S.accepted.1

  region : (given i : ℕ) → IsRegion a given i → IsRegion b given (R.initializations.to i)
  unfolding paired_in headers_reordered H
  region given i r = record { below = H.initializations.to_below i r.below; relocatable = rw (H.initializations.same i r.below) r.relocatable }

  found : (given i : ℕ) → IsRegion a given i
      → region_at (sheet_initializations a) given (number_in a given i) ≡ region_at (sheet_initializations b) given (number_in b given (R.initializations.to i))
  unfolding paired_in headers_reordered H S
  found given i r = S.region given i r.below r.relocatable

  -- DEMAND 3
  pub demand_3 : SameAnswers l a b R
  demand_3 =
      record {
        readable = readable_too l ok R;
        accepted = (there, back);
        region = region;
        relocations = λ v given bytes bytes' e.
            list_same l a b v (there v) given (S.count given) (S.table (accepted_headers l a v) given) bytes bytes' e;
        words = λ v given i r.
            words_same l a b v (there v) given (S.count given) _ _ (number_in_lem a given i r) (number_in_lem b given _ (region given i r)) (found given i r);
        base = λ v given i r base.
            answer_same l a b v (there v) given _ _ (number_in_lem a given i r) (number_in_lem b given _ (region given i r)) (found given i r) (base_number base);
        sound = λ v. (accepted_sound (sheet_headers a) (accepted_headers l a v), accepted_sound (sheet_headers b) (accepted_headers l b (there v)));
      }

  -- and ranges of bases beside it
  pub same_ranges : SameRanges l a b R
  same_ranges v given i r lowest highest =
      range_same l a b v (there v) given _ _ (number_in_lem a given i r) (number_in_lem b given _ (region given i r)) (found given i r) lowest highest

  -- and the owner of an address, and the index of a mask's regions
  pub same_owners : SameOwners l a b R
  unfolding paired_in headers_reordered H
  same_owners =
      record {
        refusal = λ v given. refusal_same l a b H v (there v) given;
        owner = λ v given. owner_partner l a b H v (there v) given;
        none = λ v given gpa. (no_owner_too l a b H v (there v) given gpa, no_owner_too l b a (reordered_sym H) (there v) v given gpa);
        index = λ v given. index_same l a b H v (there v) given;
        words = λ v given. places_same l a b H v (there v) given;
      }

  -- and the strict verdict
  pub same_strict : SameStrict l a b
  same_strict =
      let bits = same_bits (sheet_headers a) (sheet_headers b) H in (
        λ h. let (v, e) = (strictly_accepted l a).0 h in (strictly_accepted l b).1 (there v, bits.0 e),
        λ h. let (v, e) = (strictly_accepted l b).0 h in (strictly_accepted l a).1 (back v, bits.1 e),
      )
