-- The strict rule by indexes: when 38 does not apply, and which region and bit it names. Files whose rows pair off keep it, and so does one whose rows all stand in
-- another, where its VBS contexts remain.
use Rattle.rows.{proofs.Kit.{◌≡◌, refl, sym, ap, ◌∙◌, Bool, true, false, not, ◌&&◌, false≢true, ◌↔◌, Option, none, some, ℕ, ◌+◌, ◌^◌, ◌<◌, not-false, not-true}, specs.Below.first_below, specs.Rows.{Rows, any}, proofs.Bools.{not_both, and_parts}, proofs.BelowLaws.{any_below_lem, some_below, first_says}}
use Rattle.igvm_defs.{specs.declared.Fault.Fault, specs.Refusals.{refusal, no_refusal, is_fault, is_refusal, refusal_at, first_fault}, proofs.RefusalLaws.{no_fault_lem, fault_end, faults_any}}
use Rattle.masks.{specs.Masks.has_bit, proofs.MaskLaws.{bit_at, first_mask_bits, first_mask_none}}
use Rattle.initialization_header.specs.declared.IgvmInitializationHeader.{IgvmInitializationHeader}
use Rattle.directive_header.specs.declared.IgvmDirectiveHeader.{IgvmDirectiveHeader}
use Rattle.rules.specs.{declared.Region.Region, Options.then, Headers.Headers, Regions.region_of, Directives.is_context, Reordered.Reordered, Strict.{bit_without_context, bit_fault, strict_fault, contexts_refusal, HasContext, EveryBit, Named}}
use Rattle.rules.proofs.{FaultLaws.rows_none, Within.Within, Order.{reordered_sym, reordered_within}}

-- ---- a region

module _ (directives : Rows IgvmDirectiveHeader) (r : Region) where
  -- bit k has a context
  abbrev has : ℕ → Bool
  has k = any (is_context r.vtl (2 ^ k)) directives

  abbrev lacks : ℕ → Bool
  lacks bit = not (any (is_context r.vtl bit) directives)

  bit_none : (bit_without_context directives r ≡ none) ↔ ((k : ℕ) → k < 32 → has_bit r.mask k ≡ true → has k ≡ true)
  unfolding bit_without_context
  bit_none = (
    λ e k l b. not-false (has k) ((first_mask_none lacks 32 r.mask).0 e k l b),
    λ e. (first_mask_none lacks 32 r.mask).1 (λ k l b. rw (e k l b)),
  )

  bit_some : (bit : ℕ) → bit_without_context directives r ≡ some bit
      → (k : ℕ) × (2 ^ k ≡ bit) × (k < 32) × (has_bit r.mask k ≡ true) × (has k ≡ false) × ((m : ℕ) → m < k → has_bit r.mask m ≡ true → has m ≡ true)
  unfolding bit_without_context
  bit_some bit e = go (first_below 32 without) refl (sym (first_mask_bits lacks 32 r.mask) ∙ e)
    where
      without : ℕ → Bool
      without k = has_bit r.mask k && lacks (2 ^ k)

      go : (o : Option ℕ) → first_below 32 without ≡ o → bit_at o ≡ some bit
          → (k : ℕ) × (2 ^ k ≡ bit) × (k < 32) × (has_bit r.mask k ≡ true) × (has k ≡ false) × ((m : ℕ) → m < k → has_bit r.mask m ≡ true → has m ≡ true)
      go none f h = absurd (false≢true (cc))
      go (some k) f h =
          let (l, t, lower) = first_says 32 without k f in
          let (b, n) = and_parts (has_bit r.mask k) (lacks (2 ^ k)) t in
          (k, cc, l, b, not-true (has k) n, λ m g c. not-false (has m) (rw c at (lower m g)))

-- ---- a row

fault_none : (o : Option ℕ) → (is_fault (bit_fault o) ≡ false) ↔ (o ≡ none)
unfolding is_fault
fault_none none = (λ _. refl, λ _. refl)
fault_none (some bit) = (λ h. absurd (false≢true (sym h)), λ h. absurd (false≢true (cc)))

-- no region, or one without such a bit
strict_none : (directives : Rows IgvmDirectiveHeader) (h : IgvmInitializationHeader)
    → (is_fault (strict_fault directives h) ≡ false) ↔ ((r : Region) → region_of h ≡ some r → bit_without_context directives r ≡ none)
unfolding strict_fault
strict_none directives h = (λ e r o. (fault_none (bit_without_context directives r)).0 (rw o at e), λ f. go (region_of h) refl f)
  where
    go : (o : Option Region) → region_of h ≡ o → ((r : Region) → region_of h ≡ some r → bit_without_context directives r ≡ none)
        → is_fault (bit_fault (then o (bit_without_context directives))) ≡ false
    go none q f = no_fault_lem
    go (some r) q f = (fault_none (bit_without_context directives r)).1 (f r q)

-- a region with one
strict_some : (directives : Rows IgvmDirectiveHeader) (h : IgvmInitializationHeader) → is_fault (strict_fault directives h) ≡ true
    → (r : Region) × (bit : ℕ) × (region_of h ≡ some r) × (bit_without_context directives r ≡ some bit) × (strict_fault directives h ≡ record { number = 38; detail = bit })
unfolding strict_fault
strict_some directives h e = region (region_of h) refl e
  where
    bits : (r : Region) → region_of h ≡ some r → (o : Option ℕ) → bit_without_context directives r ≡ o → is_fault (bit_fault o) ≡ true
        → (q : Region) × (bit : ℕ) × (region_of h ≡ some q) × (bit_without_context directives q ≡ some bit)
        × (bit_fault (then (region_of h) (bit_without_context directives)) ≡ record { number = 38; detail = bit })
    bits r q none w t = not_both no_fault_lem t
    bits r q (some bit) w t = (r, bit, q, w, rw (q, w))

    region : (o : Option Region) → region_of h ≡ o → is_fault (bit_fault (then o (bit_without_context directives))) ≡ true
        → (q : Region) × (bit : ℕ) × (region_of h ≡ some q) × (bit_without_context directives q ≡ some bit)
        × (bit_fault (then (region_of h) (bit_without_context directives)) ≡ record { number = 38; detail = bit })
    region none q t = not_both no_fault_lem t
    region (some r) q t = bits r q (bit_without_context directives r) refl t

-- ---- a file

module _ (f : Headers) where
  abbrev faults : ℕ → Fault
  faults i = strict_fault f.directives (f.initializations.row i)

  -- a row is found
  context_there : (r : Region) (k : ℕ) → has f.directives r k ≡ true → HasContext f r k
  context_there r k h = some_below f.directives.count (λ j. is_context r.vtl (2 ^ k) (f.directives.row j)) h

  there_context : (r : Region) (k : ℕ) → HasContext f r k → has f.directives r k ≡ true
  there_context r k (j, l, h) = any_below_lem f.directives.count (λ j. is_context r.vtl (2 ^ k) (f.directives.row j)) j l h

  -- a row without fault: each bit of its region has its context
  row_bits : (i : ℕ) (r : Region) → is_fault (faults i) ≡ false → region_of (f.initializations.row i) ≡ some r
      → (k : ℕ) → k < 32 → has_bit r.mask k ≡ true → HasContext f r k
  row_bits i r e o k l b = context_there r k ((bit_none f.directives r).0 ((strict_none f.directives (f.initializations.row i)).0 e r o) k l b)

  -- 38 DOES NOT APPLY EXACTLY WHEN EVERY BIT HAS ITS CONTEXT
  pub contexts_say : (is_refusal (contexts_refusal f) ≡ false) ↔ EveryBit f
  unfolding contexts_refusal
  contexts_say = (
    λ h i r l o. row_bits i r ((rows_none f.platforms.count f.initializations.count faults).0 h i l) o,
    λ h. (rows_none f.platforms.count f.initializations.count faults).1 (λ i l.
        (strict_none f.directives (f.initializations.row i)).1 (λ r o.
        (bit_none f.directives r).1 (λ k b g. there_context r k (h i r l o k b g)))),
  )

  -- and then it has no row and no detail
  pub contexts_none : is_refusal (contexts_refusal f) ≡ false → contexts_refusal f ≡ no_refusal
  unfolding contexts_refusal
  contexts_none h = fault_end first n faults (sym (faults_any first n faults) ∙ h)
    where
      first : ℕ
      first = f.platforms.count

      n : ℕ
      n = f.initializations.count

  -- WHERE IT APPLIES IT NAMES THE FIRST REGION WITH SUCH A BIT, AND THE LOWEST OF THESE
  pub contexts_name : is_refusal (contexts_refusal f) ≡ true
      → (i : ℕ) × (r : Region) × (k : ℕ) × Named f i r k × (contexts_refusal f ≡ refusal 38 (f.platforms.count + i + 1) (2 ^ k))
  unfolding contexts_refusal first_fault is_refusal
  contexts_name h = go (first_below f.initializations.count (λ i. is_fault (faults i))) refl h
    where
      go : (o : Option ℕ) → first_below f.initializations.count (λ i. is_fault (faults i)) ≡ o → is_refusal (refusal_at f.platforms.count faults o) ≡ true
          → (i : ℕ) × (r : Region) × (k : ℕ) × Named f i r k
          × (refusal_at f.platforms.count faults (first_below f.initializations.count (λ i. is_fault (faults i))) ≡ refusal 38 (f.platforms.count + i + 1) (2 ^ k))
      go none e t = absurd (false≢true t)
      go (some i) e t =
          let (l, w, earlier) = first_says f.initializations.count (λ i. is_fault (faults i)) i e in
          let (r, bit, o, b, q) = strict_some f.directives (f.initializations.row i) w in
          let (k, p, m, g, n, lower) = bit_some f.directives r bit b in (
            i,
            r,
            k,
            record {
              below = l;
              region = o;
              bit = (m, g);
              lacking = λ c. not_both n (there_context r k c);
              lower = λ j a c. context_there r j (lower j a c);
              earlier = λ j z a c. row_bits j z (earlier j a) c;
            },
            rw (e, q, p),
          )

-- ---- other files

-- rows that all stand in a file that keeps the rule keep it, where its VBS contexts stand there too
pub within_bits : (g f : Headers) → Within g f → EveryBit f → EveryBit g
within_bits g f W e i r l o k b h =
    let (j, m, c) = e (W.initializations.to i) r (W.initializations.to_below i l) (ap region_of (W.initializations.same i l) ∙ o) k b h in
    let (n, q, t) = W.contexts r.vtl (2 ^ k) j m c in
    (n, q, rw (← W.directives.same n q, t) c)

-- files whose rows pair off keep it alike
pub same_bits : (f g : Headers) → Reordered f g → EveryBit f ↔ EveryBit g
same_bits f g R = (within_bits g f (reordered_within (reordered_sym R)), within_bits f g (reordered_within R))
