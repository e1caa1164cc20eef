-- Lemmas on a part whose errors are made into others.
use Rattle.std.proofs.Common.{◌≡◌, Bool, true, false, Ok, Err, Option, Some, None, refl, sym, subst, ap, inl, inr}
use Rattle.nom_internal.specs.Prelude.{PResult, Needed, Incomplete, Error, Failure, OutOfMemory, Built, Modes, Model, Outcome, Accept, Refuse, Stop, Fails}
use Rattle.nom_internal.specs.Prelude.{Needs, IsFault, ShowsOutcome, RanOut, Shown, Meaning, ShowsMeaning, RunsOutInPart, RunsOutBeside, BuildsError}
use Rattle.nom_internal.specs.Prelude.{renamed_meaning}
use Rattle.nom_error.specs.declared.answer.Err as Answer
use Rattle.nom_internal.proofs.Cased.{here}
use Rattle.nom_internal.proofs.Shown.{accepts}
use Rattle.nom_combinator.specs.Contexts.{Makes, IsRenamed}

module _ {I A P O E : Type 0} (w : Model I A) (IsOutput : P → O → Type 0) (Named : I → E → E → Type 0) (Grows : Type 0) (m : Meaning I P E)
    (mode : Modes) (i : I) where
  abbrev RenamedShown : PResult I O E → Type 0
  RenamedShown = ShowsMeaning w IsOutput (renamed_meaning Named Grows m) mode i

  pub renamed_ok : (p : I × Option O) → ShowsMeaning w IsOutput m mode i (Ok p) → RenamedShown (Ok p)
  renamed_ok p h = let a = accepts h in Shown (Accept a.length a.tree) (here (Accept a.length a.tree) a.answered refl) (p.0, p.1, a.rest_is, a.built_is, refl)

  -- an outcome whose error was to be made into another
  module _ (o : Outcome P) (a : m.answers mode.streaming i o) (fault : IsFault o) (x : E) (b : m.blames mode.streaming i x) where
    blamed : (e : E) → Named i x e → (renamed_meaning Named Grows m).blames mode.streaming i e
    blamed e k = here o a (x, fault, b, k)

    ran_out : BuildsError mode.errors o → (r : Answer.Err E (Option E) Needed) → (r ≡ OutOfMemory) × Grows → RenamedShown (Err r)
    ran_out built r h = RanOut (ap Err h.0) (RunsOutBeside (here o a (built, h.1)))

  refusal_of : (b : Bool) → mode.errors ≡ b → m.answers mode.streaming i Refuse → (x : Option E) → Built b (m.blames mode.streaming i) x →
      (r : Answer.Err E (Option E) Needed) → IsRenamed (Named i) Grows (Error x) r → RenamedShown (Err r)
  refusal_of true q a x h r k = refused (subst (λ z. IsRenamed (Named i) Grows (Error z) r) h.1 k)
    where
      refused : Makes (Named i) Grows (λ e. Error (Some e)) h.0 r → RenamedShown (Err r)
      refused (inl g) = ran_out Refuse a tt h.0 h.2 q r g
      refused (inr g) = Shown Refuse (here Refuse a refl) (
        Some g.0,
        subst (λ z. Built z ((renamed_meaning Named Grows m).blames mode.streaming i) (Some g.0)) (sym q)
            (g.0, refl, blamed Refuse a tt h.0 h.2 g.0 g.1),
        ap Err g.2,
      )
  refusal_of false q a x h r k =
      Shown Refuse (here Refuse a refl) (
        None,
        subst (λ z. Built z ((renamed_meaning Named Grows m).blames mode.streaming i) None) (sym q) refl,
        ap Err (subst (λ z. IsRenamed (Named i) Grows (Error z) r) h k),
      )

  failure_of : (o : Outcome P) → m.answers mode.streaming i o → IsFault o → BuildsError mode.errors o →
      ((e : E) (r : Answer.Err E (Option E) Needed) → (renamed_meaning Named Grows m).blames mode.streaming i e → r ≡ Failure e → RenamedShown (Err r)) →
      (x : E) → m.blames mode.streaming i x → (r : Answer.Err E (Option E) Needed) → Makes (Named i) Grows (λ e. Failure e) x r → RenamedShown (Err r)
  failure_of o a fault built shown x h r (inl g) = ran_out o a fault x h built r g
  failure_of o a fault built shown x h r (inr g) = shown g.0 r (blamed o a fault x h g.0 g.1) g.2

  renamed_of : (f r : Answer.Err E (Option E) Needed) → IsRenamed (Named i) Grows f r → (o : Outcome P) → m.answers mode.streaming i o →
      ShowsOutcome w IsOutput mode i (m.blames mode.streaming i) o (Err f) → RenamedShown (Err r)
  renamed_of f r k (Accept n v) a h = absurd (cc (h.4))
  renamed_of f r k Refuse a h = let is : f ≡ Error h.0 = cc (h.2) in refusal_of mode.errors refl a h.0 h.1 r (subst (λ z. IsRenamed (Named i) Grows z r) is k)
  renamed_of f r k (Stop (Fails cause)) a h = let is : f ≡ Failure h.0 =
      cc (h.2) in failure_of (Stop (Fails cause)) a tt tt (λ e z b q. Shown (Stop (Fails cause)) (here (Stop (Fails cause)) a refl) (e, b, ap Err q)) h.0 h.1 r
      (subst (λ z. IsRenamed (Named i) Grows z r) is k)
  renamed_of f r k (Stop (Needs d)) a h = let is : f ≡ Incomplete h.0 =
      cc (h.2) in Shown (Stop (Needs d)) (here (Stop (Needs d)) a refl) (h.0, h.1, ap Err (subst (λ z. IsRenamed (Named i) Grows z r) is k))

  pub renamed_err : (f r : Answer.Err E (Option E) Needed) → ShowsMeaning w IsOutput m mode i (Err f) → IsRenamed (Named i) Grows f r → RenamedShown (Err r)
  renamed_err f r (RanOut e h) k = let is : f ≡ OutOfMemory =
      cc (e) in RanOut (ap Err (subst (λ z. IsRenamed (Named i) Grows z r) is k)) (RunsOutInPart i refl h)
  renamed_err f r (Shown o a h) k = renamed_of f r k o a h
