-- The promises of combinators, on what they mean and on what they answer.
use Rattle.std.specs.Prelude.{◌≡◌, ℕ, Bool, ◌++◌, Option, Ok}
use Rattle.nom_internal.specs.Prelude.{Model, Slice, IsModelledBy, Accept, Refuse, Stop, Needs, Meaning, ParsesMeaning}

module _ {I A V E : Type 0} (w : Model I A) (m : Meaning I V E) where
  -- it never refuses
  abbrev pub NeverRefuses : Type 0
  NeverRefuses = (s : Bool) (i : I) → w.IsKnown i → m.answers s i Refuse → ⊥

  -- it never asks for more
  abbrev pub NeverWaits : Type 0
  NeverWaits = (s : Bool) (i : I) (k : Option ℕ) → w.IsKnown i → m.answers s i (Stop (Needs k)) → ⊥

  -- what it accepts is of no length
  abbrev pub ConsumesNothing : Type 0
  ConsumesNothing = (s : Bool) (i : I) (n : ℕ) (v : V) → w.IsKnown i → m.answers s i (Accept n v) → n ≡ 0

-- the front, followed by the rest, is the whole
pub record AreParts {I A : Type 0} (w : Model I A) (whole front rest : I) : Type 0 where
  pub items : w.elements whole ≡ w.elements front ++ w.elements rest
  pub front_mark : w.mark front ≡ w.mark whole
  pub rest_mark : w.mark rest ≡ w.mark_after (w.mark whole) (w.elements front)

-- of what is answered the output, followed by the rest, is the input
abbrev pub GivesFront : {I A E : Type 0} → (w : Model I A) → Meaning I (Slice w) E → Type 0
GivesFront {I} w whole = (s : Bool) (i j o : I) → w.IsKnown i → ParsesMeaning w (IsModelledBy w) whole s i (Ok (j, o)) → AreParts w i o j

-- the same of the first of a pair of outputs, whose second the part answers with the same rest
abbrev pub GivesFrontAndOutput : {I A V O E : Type 0} → (w : Model I A) → (V → O → Type 0) → Meaning I V E → Meaning I (Slice w × V) E → Type 0
GivesFrontAndOutput {I} {O = O} w IsOutput part whole =
    (s : Bool) (i j o : I) (v : O) → w.IsKnown i →
    ParsesMeaning {O = I × O} w (λ t p. IsModelledBy w t.0 p.0 × IsOutput t.1 p.1) whole s i (Ok (j, (o, v))) →
    AreParts w i o j × ParsesMeaning w IsOutput part s i (Ok (j, v))
