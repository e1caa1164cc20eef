-- Lemmas on inverted bounds, which don't fit each other.
use Rattle.std.proofs.Common.{◌≡◌, Bool, true, false, Err, Option, inl, inr, refl, ap}
use Rattle.nom_internal.specs.Prelude.{Errors, PResult, Modes, ErrorKind, Needed, Model, Stop, Fails, Outright, RanOut, Shown, Meaning}
use Rattle.nom_internal.specs.Prelude.{ShowsMeaning}
use Rattle.nom_error.specs.declared.answer.Err as Answer
use Rattle.nom_repeat.specs.Inverted.{error_if, GivesFailure}

module _ {I A V O E : Type 0} {w : Model I A} {IsOutput : V → O → Type 0} {mode : Modes} {i : I} (errs : Errors I E) (kind : ErrorKind) (m : Meaning I V E)
  where
    -- they fail
    pub inverted_fails : (test : Bool) → test ≡ true → {f : Answer.Err E (Option E) Needed} → GivesFailure (errs.of_kind i kind) errs.grows f →
        ShowsMeaning w IsOutput (error_if errs kind true test m) mode i (Err f)
    inverted_fails true t (inl g) = RanOut (ap Err g.0) (tt, g.1)
    inverted_fails true t (inr g) = Shown (Stop (Fails Outright)) refl (g.0, g.1, ap Err g.2)
    inverted_fails false t g = absurd (cc (t))

    -- they fit, and the part answers
    pub not_inverted : (fails test : Bool) → test ≡ false → {r : PResult I O E} →
        ShowsMeaning w IsOutput m mode i r → ShowsMeaning w IsOutput (error_if errs kind fails test m) mode i r
    not_inverted fails true t h = absurd (cc (t))
    not_inverted fails false t h = h
