-- Lemmas on what is held of a first value and of pairs after it.
use Rattle.std.proofs.Common.{◌≡◌, ℕ, Bool, true, false, Option, Some, None, List, [], ◌∷◌, ◌++◌, refl, subst}
use Rattle.std.specs.Prelude.{IfSome, IsSome}
use Rattle.nom.specs.Prelude.{Built, BuiltFrom, BuiltFromBoth}
use Rattle.nom.proofs.Accumulating.{zip_push}
use Rattle.nom_operators.specs.Steps.{HasOutermost, Joined, Made, Pushed, Runs, waiting}
use Rattle.nom_operators.proofs.StepsShown.{none_waits}
use Rattle.nom_operators.proofs.Runs.{runs_more}
use Rattle.nom_precedence.specs.Readings.{OfPairs}
use Rattle.nom_precedence.proofs.ReadShown.{built_from, built_from_both}

none_nested : {E : Type 0} (innermost : Option E) (outer : List E) → innermost ≡ None → outer ≡ [] → HasOutermost innermost outer
none_nested (Some e) outer i o = absurd (cc (i))
none_nested None outer i o = o

-- what is held is built where something is
pub held_built : {K : Type 0} (P : K → Type 0) (builds : Bool) (held : Option K) → Built builds P held → IsSome held → builds ≡ true
held_built P true held b s = refl
held_built {K} P false held b s = let no : IsSome {T = K} None = subst IsSome b s in absurd (cc (no))

module _ {X C V K : Type 0} (left : ℕ → Bool) (of : C → ℕ) (Gives : X → C → X → X → Type 0) (IsPair : V → C × X → Type 0)
    (innermost : K → Option (X × C)) (value : K → X) where
  -- the outputs of pairs came in turn after the first value
  pub record HasRun (before : Option X) (outer : List (X × C)) (vs : List V) (k : K) : Type 0 where
    pub run : OfPairs IsPair before vs (λ x os. Runs left of Gives [] x os (waiting (innermost k) outer) (value k))
    pub nested : HasOutermost (innermost k) outer

  module _ (before : Option X) (builds : Bool) (outer : List (X × C)) (held : Option K) where
    -- none yet
    pub run_none : outer ≡ [] → Built builds (λ _. Unit {0}) before → BuiltFrom true (λ x k. (value k ≡ x) × (innermost k ≡ None)) before held →
        Built builds (HasRun before outer []) held
    run_none o = built_from builds held (λ x k is _ c.
        let nested = none_nested (innermost k) outer c.1 o in
        record {
          run = record { first = x; first_is = is; outputs = []; are_outputs = tt; fact = (none_waits (innermost k) outer c.1 nested, c.0) };
          nested = nested;
        })

    module _ (vs : List V) where
      -- one more
      pub run_more : (rest : List (X × C)) (v : V) (new : Option K) (item : Option (C × X)) →
          BuiltFromBoth true (λ k p n. Pushed left of Gives (waiting (innermost k) outer) (value k) p.0 p.1 (waiting (innermost n) rest) (value n)
          × HasOutermost (innermost n) rest) held item new → Built builds (HasRun before outer vs) held → Built builds (IsPair v) item →
          Built builds (HasRun before rest (vs ++ v ∷ [])) new
      run_more rest v new item g b c = built_from_both builds held item new (λ k p n h i s.
          let r = h.run in
          record {
            run = record {
              first = r.first;
              first_is = r.first_is;
              outputs = r.outputs ++ p ∷ [];
              are_outputs = zip_push IsPair vs r.outputs v p r.are_outputs i;
              fact = runs_more left of Gives [] r.first r.outputs (waiting (innermost k) outer) (value k) p (waiting (innermost n) rest) (value n) r.fact s.0;
            };
            nested = s.1;
          }) b c g

      pub run_nested : Built builds (HasRun before outer vs) held → IfSome held (λ k. HasOutermost (innermost k) outer)
      run_nested h = by builds held h
        where
          by : (b : Bool) (k : Option K) → Built b (HasRun before outer vs) k → IfSome k (λ k. HasOutermost (innermost k) outer)
          by true k h = rw h.1 h.2.nested
          by false k h = rw h tt

      -- at the end all that wait are joined
      pub run_made : (y : Option X) → BuiltFrom true (λ k z. Joined Gives (λ _. Unit {0}) (waiting (innermost k) outer) (value k) [] z) held y →
          Built builds (HasRun before outer vs) held → Built builds (λ z. OfPairs IsPair before vs (λ x os. Made left of Gives x os z)) y
      run_made y g b = built_from builds y (λ k z _ h j.
          let r = h.run in
          record {
            first = r.first;
            first_is = r.first_is;
            outputs = r.outputs;
            are_outputs = r.are_outputs;
            fact = record { stack = waiting (innermost k) outer; after = value k; runs = r.fact; joined = j };
          }) b g
