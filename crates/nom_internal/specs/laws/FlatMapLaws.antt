-- The laws of a part and the parser that a closure gives for its output.
use Rattle.std.proofs.Common.{sym, ◌∙◌, subst}
use Rattle.nom_internal.specs.Prelude.{Model, InputLaws, View, Meaning, IsLawful, IsSteady, IsOne, IsLawfulFamily, AnyKey, of_value_lawful, of_value_steady}
use Rattle.nom_internal.specs.Prelude.{IsPinned}
use Rattle.nom_internal.specs.laws.CaseLaws.{labelled_lawful, labelled_steady}
use Rattle.nom_internal.specs.laws.SequenceLaws.{then_lawful, then_steady}
use Rattle.nom_internal.specs.FlatMap.{Maker, GivesState, MakesOne, OfEachGiven, IsGiven, states_family, given_family, flat_map_meaning}

module _ {P O H S : Type 0} (IsOutput : P → O → Type 0) (g : Maker O H S) (IsSound : S → Type 0) (k : MakesOne IsOutput g IsSound) where
  one_state : IsOne (GivesState IsOutput g)
  one_state t u x a b = sym a.state_is ∙ (k.fixed t a.output b.output a.parser b.parser a.is_output b.is_output a.given b.given ∙ b.state_is)

  state_sound : (t : P) (u : S) → GivesState IsOutput g t u → IsSound u
  state_sound t u a = subst IsSound a.state_is (k.sound t a.output a.parser a.is_output a.given)

module _ {I A P O H S Q E : Type 0} {w : Model I A} {IsOutput : P → O → Type 0} {g : Maker O H S} {m : S → Meaning I Q E}
    (k : MakesOne IsOutput g (λ u. (m u).IsSound)) where
  module _ (l : (u : S) → (m u).IsSound → IsLawful w (m u)) where
    states_lawful : IsLawfulFamily w (λ u. (t : P) × GivesState IsOutput g t u) (states_family IsOutput g m)
    states_lawful = record {
      lawful = λ u key. labelled_lawful (l u (state_sound IsOutput g (λ u. (m u).IsSound) k key.0 u key.1));
      frugal = λ mode h u key. h key.0 u key.1;
      settles = λ h u key. h key.0 u key.1;
      never_fails = λ cause h u key. h key.0 u key.1;
    }

    given_lawful : IsLawfulFamily w AnyKey (given_family IsOutput g m)
    given_lawful =
        let f = of_value_lawful w (GivesState IsOutput g) (states_family IsOutput g m) (one_state IsOutput g (λ u. (m u).IsSound) k) states_lawful in
        record { lawful = f.lawful; frugal = f.frugal; settles = f.settles; never_fails = f.never_fails }

    pub flat_map_lawful : InputLaws w → {a : Meaning I P E} → IsLawful w a → IsLawful w (flat_map_meaning w IsOutput g a m)
    flat_map_lawful i p = then_lawful i (given_family IsOutput g m) p given_lawful

  module _ (l : (u : S) → (m u).IsSound → IsSteady w (m u)) where
    given_steady : (t : P) → IsSteady w ((given_family IsOutput g m).at t)
    given_steady = of_value_steady w (GivesState IsOutput g) (states_family IsOutput g m) (one_state IsOutput g (λ u. (m u).IsSound) k)
        (λ u key. labelled_steady (l u (state_sound IsOutput g (λ u. (m u).IsSound) k key.0 u key.1)))

    pub flat_map_steady : InputLaws w → {a : Meaning I P E} → IsSteady w a → IsSteady w (flat_map_meaning w IsOutput g a m)
    flat_map_steady i p = then_steady i (given_family IsOutput g m) p given_steady

-- the outputs of one tree are one, where those of each parser are
module _ {P O H S Q X : Type 0} {IsOutput : P → O → Type 0} {g : Maker O H S} {IsSound : S → Type 0} {Pins : H → Type 0} {view : View X}
    {IsResult : S → Q → X → Type 0} where
  pub given_pinned : MakesOne IsOutput g IsSound → OfEachGiven IsOutput g Pins →
      ((h : H) → IsSound (g.state h) → Pins h → IsPinned view (IsResult (g.state h))) → IsPinned view (IsGiven IsOutput g IsResult)
  given_pinned k e f = record {
    one_view = λ t a b p q.
        let made = p.given in
        let sound = k.sound p.key made.output made.parser made.is_output made.given in
        let pinned = f made.parser sound (e p.key made.output made.parser made.is_output made.given) in
        (subst (λ u. IsPinned view (IsResult u)) made.state_is pinned).one_view t.1 a b p.is_output q.is_output;
  }
