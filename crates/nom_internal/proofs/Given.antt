-- Lemmas on the parser that a closure gives.
use Rattle.std.proofs.Common.{◌≡◌, true, Option, Some, refl}
use Rattle.nom_internal.specs.Prelude.{PResult, Built, Modes, Model, RanOut, Shown, Meaning, ShowsMeaning, Family, of_value}
use Rattle.nom_internal.specs.FlatMap.{Maker, GivesState, IsGiven, states_family, given_family}
use Rattle.nom_internal.proofs.Cased.{labelled_shown}
use Rattle.nom_internal.proofs.Choices.{built_fact, shows_map}

-- what is shown of the value that a tree stands for is shown of the tree
module _ {P V I A Q X E : Type 0} (w : Model I A) (IsValue : P → V → Type 0) (f : Family V I Q E) (IsResult : Q → X → Type 0) (mode : Modes) (i : I)
    (u : P) (v : V) (is : IsValue u v) where
  pub of_value_shown : (r : PResult I X E) → ShowsMeaning w IsResult (f.at v) mode i r →
      ShowsMeaning w IsResult ((of_value IsValue f).at u) mode i r
  of_value_shown r (RanOut e h) = RanOut e (record { value = v; is_value = is; fact = h })
  of_value_shown r (Shown o a h) =
      Shown o (record { value = v; is_value = is; fact = a })
      (shows_map w IsResult mode i ((f.at v).blames mode.streaming i)
      (((of_value IsValue f).at u).blames mode.streaming i) o r (λ e b. record { value = v; is_value = is; fact = b }) h)

module _ {I A P O H S Q X E : Type 0} (w : Model I A) (IsOutput : P → O → Type 0) (g : Maker O H S) (IsResult : S → Q → X → Type 0)
    (m : S → Meaning I Q E) (mode : Modes) (i : I) (u : P) where
  pub given_shown : (x : Option O) (o : O) (h : H) (r : PResult I X E) → Built true (IsOutput u) x →
      x ≡ Some o → g.Gives o h → ShowsMeaning w (IsResult (g.state h)) (m (g.state h)) mode i r →
      ShowsMeaning w (IsGiven IsOutput g IsResult) ((given_family IsOutput g m).at u) mode i r
  given_shown x o h r b e k s =
      let given : GivesState IsOutput g u (g.state h) =
      record { output = o; is_output = built_fact true (IsOutput u) x o b e; parser = h; given = k; state_is = refl } in
      of_value_shown w (GivesState IsOutput g) (states_family IsOutput g m) (IsGiven IsOutput g IsResult) mode i u (g.state h) given r
      (labelled_shown w (λ q. (g.state h, q)) (IsResult (g.state h)) (IsGiven IsOutput g IsResult)
      (λ q y p. record { key = u; given = given; is_output = p }) (m (g.state h)) mode i r s)
