-- The owner of an address and the index of a mask's regions, of files whose rows pair off.
use Rattle.rows.{proofs.Kit.{◌≡◌, sym, ap, ◌∙◌, ◌&&◌, ◌≢◌, some, ℕ, ◌+◌, ◌*◌, ◌<◌, ltb}, proofs.PairedLaws.{count_same, same_back}}
use Rattle.rules.specs.{Headers.Headers, Regions.{region_of, region_passes}, Accepted.NotRefused, Reordered.Reordered, Owner.{is_of_mask, number_of_row, owner_of, index_count, starts_below, by_start, index_word}}
use Rattle.rules.proofs.{Order.same_accepted, SoundLaws.accepted_sound, OwnerLaws.{owner_once, owner_is, owner_none, owner_says, none_owns, by_start_says, by_start_is, by_start_some, start_word, size_word}}

-- ---- the owner

module _ (f g : Headers) (R : Reordered f g) (accepted : NotRefused f) (given gpa : ℕ) (nonzero : given ≢ 0) where
  accepted_too : NotRefused g
  accepted_too = (same_accepted f g R).0 accepted

  -- the owner in the one is the partner of the owner in the other
  pub owner_there : (i : ℕ) → owner_of f given gpa ≡ number_of_row f (some i) → owner_of g given gpa ≡ number_of_row g (some (R.initializations.to i))
  owner_there i e =
      let (l, t) = owner_says f given gpa i e in
      owner_is g given gpa (owner_once g (accepted_sound g accepted_too) given nonzero gpa) (R.initializations.to i) (R.initializations.to_below i l)
      (rw (R.initializations.same i l) t)

  -- and where there is none in the one, there is none in the other
  pub no_owner_there : owner_of f given gpa ≡ 0 → owner_of g given gpa ≡ 0
  no_owner_there e =
      owner_none g given gpa (λ j l.
      rw (← same_back R.initializations j l) (none_owns f given gpa e (R.initializations.from j) (R.initializations.from_below j l)))

-- ---- the index

module _ (f g : Headers) (R : Reordered f g) (given : ℕ) where
  pub index_count_same : index_count f.initializations given ≡ index_count g.initializations given
  unfolding index_count
  index_count_same = count_same R.initializations (region_passes (is_of_mask given))

  starts_same : (gpa : ℕ) → starts_below f.initializations given gpa ≡ starts_below g.initializations given gpa
  unfolding starts_below
  starts_same gpa = count_same R.initializations (region_passes (λ r. is_of_mask given r && ltb r.gpa gpa))

  module _ (accepted : NotRefused f) (nonzero : given ≢ 0) where
    -- partners stand at one place
    pub by_start_there : (k i : ℕ) → by_start f.initializations given k ≡ some i → by_start g.initializations given k ≡ some (R.initializations.to i)
    by_start_there k i e =
        let (r, l, o, m, s) = by_start_says f.initializations given k i e in
        by_start_is g ((same_accepted f g R).0 accepted) given nonzero (R.initializations.to i) r (R.initializations.to_below i l)
        (ap region_of (R.initializations.same i l) ∙ o) m k (sym (starts_same r.gpa) ∙ s)

    -- the same start and size at each place
    pub place_same : (k : ℕ) → k < index_count f.initializations given
        → (index_word f given (3 * k) ≡ index_word g given (3 * k)) × (index_word f given (3 * k + 1) ≡ index_word g given (3 * k + 1))
    place_same k l =
        let (i, r, e, m, _) = by_start_some f accepted given nonzero k l in
        let o : region_of (g.initializations.row (R.initializations.to i)) ≡ some r = ap region_of (R.initializations.same i m.below) ∙ m.region in
        let h = by_start_there k i e in (
          start_word f given k i r e m.region ∙ sym (start_word g given k (R.initializations.to i) r h o),
          size_word f given k i r e m.region ∙ sym (size_word g given k (R.initializations.to i) r h o),
        )
