-- Lemmas on reading back what is written.
use Rattle.std.proofs.Common.{◌≡◌, Bool, List, ◌++◌, subst, inl, inr}
use Rattle.nom_internal.specs.Prelude.{IResult, Model, InputLaws, items_len, View, IsPinned, Grammar, Outcome, Accept, ParseRanOut, Parsed}
use Rattle.nom_internal.specs.Prelude.{ParsesOutcome, ParsesMeaning}
use Rattle.nom_write.specs.Reads.{IsReadBack, IsTaken, ReadsBefore}
use Rattle.nom_write.specs.laws.SequenceReads.{rest_follows}

module _ {I A V O E : Type 0} (w : Model I A) (l : InputLaws w) (view : View O) (Pins : Type 0) (g : Grammar I V O E)
    (pinned : Pins → IsPinned view g.IsOutput) where
  read_outcome : (v : O) (xs rest : List A) (i : I) → w.elements i ≡ xs ++ rest → (Blames : E → Type 0) (o : Outcome V) (r : IResult I O E) →
      IsTaken w (λ t. g.IsOutput t v) (items_len w.item_len xs) o → ParsesOutcome w g.IsOutput i Blames o r → IsReadBack w view Pins g v xs rest i r
  read_outcome v xs rest i whole Blames o r a h =
      let s : ParsesOutcome w g.IsOutput i Blames (Accept (items_len w.item_len xs) a.0) r = subst (λ z. ParsesOutcome w g.IsOutput i Blames z r) a.1 h in
      inr (s.0, s.1, s.2, rest_follows w l i s.0 xs rest whole s.2, (λ p. (pinned p).one_view a.0 s.1 v s.3 a.2), s.4)

  pub reads_back : (Follow : List A → Type 0) (streaming : Bool) (v : O) (xs rest : List A) (i : I) (r : IResult I O E) → ReadsBefore w
      (g.meaning.answers streaming) (λ t. g.IsOutput t v) Follow xs →
      w.IsKnown i → w.elements i ≡ xs ++ rest → Follow rest → ParsesMeaning w g.IsOutput g.meaning streaming i r → IsReadBack w view Pins g v xs rest i r
  reads_back Follow streaming v xs rest i r p known e f (ParseRanOut h k) = inl h
  reads_back Follow streaming v xs rest i r p known e f (Parsed o a h) =
      read_outcome v xs rest i e (g.meaning.blames streaming i) o r (p.read i rest o known e f a) h
