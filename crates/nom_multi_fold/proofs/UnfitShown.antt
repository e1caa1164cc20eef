-- Lemmas on bounds that don't fit each other.
use Rattle.std.proofs.Common.{Bool, true, false, Err, Option, inl, inr, refl, ap}
use Rattle.nom_internal.specs.Prelude.{Errors, PResult, Refuses, Modes, ErrorKind, Needed, Model, Outcome, Accept, Refuse, Stop, Fails, Needs, Outright}
use Rattle.nom_internal.specs.Prelude.{ShowsOutcome}
use Rattle.nom_internal.specs.Prelude.{RanOut, Shown, Meaning, ShowsMeaning}
use Rattle.nom_error.specs.declared.answer.Err as Answer
use Rattle.nom_internal.proofs.Shown.{built_error}
use Rattle.nom_repeat.specs.Inverted.{GivesFailure}
use Rattle.nom_multi_fold.specs.Unfit.{unfit}

module _ {I A V O E : Type 0} {w : Model I A} {IsOutput : V → O → Type 0} {mode : Modes} {i : I} (errs : Errors I E) (kind : ErrorKind)
    (IsUnfit : Type 0) (m : Meaning I V E) where
  -- they fail
  pub unfit_fails : IsUnfit → {f : Answer.Err E (Option E) Needed} → GivesFailure (errs.of_kind i kind) errs.grows f →
      ShowsMeaning w IsOutput (unfit errs kind true IsUnfit m) mode i (Err f)
  unfit_fails u (inl g) = RanOut (ap Err g.0) (inl (u, (tt, g.1)))
  unfit_fails u (inr g) = Shown (Stop (Fails Outright)) (inl (u, refl)) (g.0, inl (u, g.1), ap Err g.2)

  -- they refuse
  pub unfit_refuses : IsUnfit → {f : Answer.Err E (Option E) Needed} → Refuses (errs.of_kind i kind) errs.grows mode.errors f →
      ShowsMeaning w IsOutput (unfit errs kind false IsUnfit m) mode i (Err f)
  unfit_refuses u (inl g) = RanOut (ap Err g.0) (inl (u, (g.1, g.2)))
  unfit_refuses u (inr g) = Shown Refuse (inl (u, refl)) (g.0, built_error mode.errors _ _ g.0 (λ e h. inl (u, h)) g.1, ap Err g.2)

module _ {I A V O E : Type 0} (w : Model I A) (IsOutput : V → O → Type 0) (mode : Modes) (i : I) (errs : Errors I E) (kind : ErrorKind) (fails : Bool)
    (IsUnfit : Type 0) (m : Meaning I V E) (fit : IsUnfit → ⊥) where
  fit_of : (o : Outcome V) (r : PResult I O E) → ShowsOutcome w IsOutput mode i (m.blames mode.streaming i) o r →
      ShowsOutcome w IsOutput mode i ((unfit errs kind fails IsUnfit m).blames mode.streaming i) o r
  fit_of (Accept n v) r s = s
  fit_of Refuse r s = (s.0, built_error mode.errors _ _ s.0 (λ e h. inr (fit, h)) s.1, s.2)
  fit_of (Stop (Fails cause)) r s = (s.0, inr (fit, s.1), s.2)
  fit_of (Stop (Needs k)) r s = s

-- they fit, and the part answers
pub fit_shown : {I A V O E : Type 0} {w : Model I A} {IsOutput : V → O → Type 0} {mode : Modes} {i : I} (errs : Errors I E) (kind : ErrorKind)
    (fails : Bool) (IsUnfit : Type 0) (m : Meaning I V E) → (IsUnfit → ⊥) → {r : PResult I O E} →
    ShowsMeaning w IsOutput m mode i r → ShowsMeaning w IsOutput (unfit errs kind fails IsUnfit m) mode i r
fit_shown errs kind fails IsUnfit m fit (RanOut e h) = RanOut e (inr (fit, h))
fit_shown {w = w} {IsOutput} {mode} {i} errs kind fails IsUnfit m fit {r} (Shown o a s) =
    Shown o (inr (fit, a)) (fit_of w IsOutput mode i errs kind fails IsUnfit m fit o r s)
