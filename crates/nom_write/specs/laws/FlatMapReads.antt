-- Laws of reading back a first value, and then one by the parser that is given for the first.
use Rattle.std.specs.Prelude.{ℕ, Bool, true, List, ◌++◌, Option, refl}
use Rattle.std.proofs.Common.{sym, ◌∙◌}
use Rattle.nom_error.specs.Modes.{with_outputs}
use Rattle.nom_internal.specs.Prelude.{Model, InputLaws, Grammar, labelled}
use Rattle.nom_internal.specs.FlatMap.{GivesState, IsGiven, Maker, MakesOne, flat_map_by, given_family, states_family}
use Rattle.nom_sink.specs.Parts.{Meets}
use Rattle.nom_write.specs.FlatMaps.{FlatMapForm, OfEachSecond}
use Rattle.nom_write.specs.FirstSets.{HasFirst, CodeWords}
use Rattle.nom_write.specs.Reads.{Reads, ReadsBefore}
use Rattle.nom_write.specs.laws.ChoiceReads.{become_reads}
use Rattle.nom_write.specs.laws.FirstSetLaws.{begins_as, begins_before, then_refuses}
use Rattle.nom_write.specs.laws.LengthReads.{of_value_reads}
use Rattle.nom_write.specs.laws.SequenceReads.{as_whole, then_reads}

module _ {I A P O H S Q R E : Type 0} {w : Model I A} (give : Maker O H S) {g : Grammar I P O E} (h : S → Grammar I Q R E)
    (Back : R → Option O → Type 0) {FirstForm : O → List A → Type 0} (SecondForm : H → R → List A → Type 0) where
  -- The parsers that can be given for outputs of one tree have one state. So what follows a form of the first value is read as the parser
  -- reads it that wrote it.
  module _ (l : InputLaws w) (k : MakesOne g.IsOutput give (λ u. (h u).meaning.IsSound)) {First : List A → Type 0} (Second : H → List A → Type 0)
      (Can : H → Type 0) where
    pub flat_map_reads :
        OfEachSecond Back give.Gives (λ v p. Can p × Meets First (SecondForm p v) (λ rest. OfEachSecond Back give.Gives (λ _ q. Second q rest))) →
        Reads w g FirstForm First →
        ((p : H) → (h (give.state p)).meaning.IsSound → Can p → Reads w (h (give.state p)) (SecondForm p) (Second p)) →
        Reads w (flat_map_by w give g h) (FlatMapForm Back give.Gives FirstForm SecondForm)
        (λ rest. OfEachSecond Back give.Gives (λ _ q. Second q rest))
    flat_map_reads can p q = record { reads = reads }
      where
        Follow : List A → Type 0
        Follow rest = OfEachSecond Back give.Gives (λ _ q. Second q rest)

        IsTree : R → S × Q → Type 0
        IsTree v t = IsGiven g.IsOutput give (λ u. (h u).IsOutput) t v

        reads : (v : R) (xs : List A) → FlatMapForm Back give.Gives FirstForm SecondForm v xs → (s : Bool) →
            ReadsBefore w ((flat_map_by w give g h).meaning.answers s) (IsTree v) Follow xs
        reads v xs f s =
            let x = f.0 in
            let parts = f.2 in
            let parser = parts.second.0 in
            let given = parts.second.1 in
            let state = give.state parser in
            let owed = can v x parser f.1 given in
            as_whole w parts.whole (then_reads w l (λ u t. t) (g.meaning.answers s)
            (λ u. ((given_family g.IsOutput give (λ z. (h z).meaning)).at u).answers s) (λ u. g.IsOutput u x) (IsTree v) (IsTree v) (λ u t a b. b)
            First Follow parts.front parts.back (λ rest n. owed.1 parts.back rest parts.second.2 n) (p.reads x parts.front parts.first s)
            (λ u is. of_value_reads w (GivesState g.IsOutput give u) (λ z. ((states_family g.IsOutput give (λ y. (h y).meaning)).at z).answers s) state
            (λ z a. sym a.state_is ∙ k.fixed u a.output x a.parser parser a.is_output is a.given given) (IsTree v) Follow parts.back
            (become_reads w (labelled (λ t. (state, t))) (λ t. (state, t)) (λ n t. refl) ((h state).meaning.answers s) (λ t. (h state).IsOutput t v)
            (IsTree v) (Second parser) Follow parts.back (λ rest n. n v x parser f.1 given) (λ t a. record {
              key = u;
              given = record { output = x; is_output = is; parser = parser; given = given; state_is = refl };
              is_output = a;
            }) ((q parser (k.sound u x parser is given) owed.0).reads v parts.back parts.second.2 s))))

  -- it begins as the first value does
  pub flat_map_begins : (code : A → ℕ) {words : Option CodeWords} → HasFirst w code g FirstForm words →
      HasFirst w code (flat_map_by w give g h) (FlatMapForm Back give.Gives FirstForm SecondForm) words
  flat_map_begins code {words} p = record {
    begins = λ bs e v xs f.
        let parts = f.2 in
        begins_as code bs xs (parts.front ++ parts.back) parts.whole (begins_before code bs parts.front parts.back (p.begins bs e f.0 parts.front parts.first));
    others = then_refuses w code (λ u t. t) (with_outputs true) (λ o. o) g.meaning (given_family g.IsOutput give (λ z. (h z).meaning)) words p.others;
  }
