-- Where a choice among the parsers of a list is sound, so is each of them.
use Rattle.std.specs.Prelude.{ℕ, ◌+◌, List, [], ◌∷◌}
use Rattle.std.proofs.Common.{subst, zero, suc}
use Rattle.nom_internal.specs.Prelude.{Errors, Meaning, or_meaning}
use Rattle.nom_choose.specs.Lists.{branch_meaning, others_meaning, any_branch_meaning, list_meaning, IsElementAt}

-- a premise of a choice is that of both of its parsers
module _ {S I V E : Type 0} (e : Errors I E) (part : S → Meaning I V E) (Whole : Meaning I (ℕ × V) E → Type 0) (Part : Meaning I V E → Type 0)
    (both : (a b : Meaning I (ℕ × V) E) → Whole (or_meaning e.joined e.grows a b) → Whole a × Whole b)
    (labelled : (k : ℕ) (m : Meaning I V E) → Whole (branch_meaning k m) → Part m) where
  -- where it holds of all, it holds of the first parsers
  before : (m : Meaning I (ℕ × V) E) (k : ℕ) (ss : List S) → Whole (others_meaning e part m k ss) → Whole m
  before m k [] h = h
  before m k (s ∷ ss) h =
      let more = or_meaning e.joined e.grows m (branch_meaning k (part s)) in
      (both m (branch_meaning k (part s)) (before more (k + 1) ss h)).0

  after : (m : Meaning I (ℕ × V) E) (k : ℕ) (ss : List S) (j : ℕ) (s : S) → IsElementAt ss j s → Whole (others_meaning e part m k ss) → Part (part s)
  after m k [] j s l h = absurd l
  after m k (x ∷ xs) zero s l h =
      let more = or_meaning e.joined e.grows m (branch_meaning k (part x)) in
      subst (λ z. Part (part z)) l (labelled k (part x) (both m (branch_meaning k (part x)) (before more (k + 1) xs h)).1)
  after m k (x ∷ xs) (suc j) s l h = after (or_meaning e.joined e.grows m (branch_meaning k (part x))) (k + 1) xs j s l h

  -- and of each of its parsers
  at : (ss : List S) (j : ℕ) (s : S) → IsElementAt ss j s → Whole (any_branch_meaning e part ss) → Part (part s)
  at [] j s l h = absurd l
  at (x ∷ xs) zero s l h = subst (λ z. Part (part z)) l (labelled 0 (part x) (before (branch_meaning 0 (part x)) 1 xs h))
  at (x ∷ xs) (suc j) s l h = after (branch_meaning 0 (part x)) 1 xs j s l h

module _ {S I V E : Type 0} (e : Errors I E) (part : S → Meaning I V E) where
  -- where a choice is sound, so are its first parsers, and so is each of them
  pub sound_before : (m : Meaning I (ℕ × V) E) (k : ℕ) (ss : List S) → (others_meaning e part m k ss).IsSound → m.IsSound
  sound_before = before e part (λ m. m.IsSound) (λ m. m.IsSound) (λ a b h. h) (λ k m h. h)

  pub sound_at : (ss : List S) (j : ℕ) (s : S) → IsElementAt ss j s → (list_meaning e part ss).IsSound → (part s).IsSound
  sound_at [] j s l h = absurd l
  sound_at (x ∷ xs) j s l h = at e part (λ m. m.IsSound) (λ m. m.IsSound) (λ a b h. h) (λ k m h. h) (x ∷ xs) j s l h

  -- where it runs, so does each of its parsers
  pub runs_at : (ss : List S) (j : ℕ) (s : S) → IsElementAt ss j s → (list_meaning e part ss).Runs → (part s).Runs
  runs_at [] j s l h = absurd l
  runs_at (x ∷ xs) j s l h = at e part (λ m. m.Runs) (λ m. m.Runs) (λ a b h. h) (λ k m h. h) (x ∷ xs) j s l h
