-- Lemmas on a parser that runs on what another one gives.
use Rattle.std.proofs.Common.{◌≡◌, sym, subst, true, Ok, Err, Option, Some, refl}
use Rattle.nom_internal.specs.Prelude.{PResult, Needed, Built, Modes, Model, InputLaws, Outcome, Accept, Refuse, Stop, Fails, Needs, ShowsOutcome, RanOut}
use Rattle.nom_internal.specs.Prelude.{Shown}
use Rattle.nom_internal.specs.Prelude.{Meaning, ShowsMeaning, RunsOutInPart}
use Rattle.nom_error.specs.declared.answer.Err as Answer
use Rattle.nom_internal.specs.Bounded.{IsBound, bounded_family}
use Rattle.nom_internal.proofs.Choices.{built_fact}
use Rattle.nom_internal.proofs.Consumed.{rest_self}
use Rattle.nom_internal.proofs.Shown.{accepts, built_error}

-- the output that was built
pub bound_of : {J B P : Type 0} (v : Model J B) (IsOutput : P → J → Type 0) (u : P) (x : Option J) (j : J) → Built true (IsOutput u) x → x ≡ Some j →
    v.IsKnown j → IsBound v IsOutput u j
bound_of v IsOutput u x j b e known = record { is_output = built_fact true (IsOutput u) x j b e; known = known }

module _ {I A J B P Q O E : Type 0} (w : Model I A) (v : Model J B) (IsOutput : P → J → Type 0) (IsResult : Q → O → Type 0) (m : Meaning J Q E)
    (mode : Modes) (i : I) (u : P) (j : J) (b : IsBound v IsOutput u j) where
  abbrev BoundShown : PResult I O E → Type 0
  BoundShown = ShowsMeaning w IsResult ((bounded_family v IsOutput m).at u) mode i

  blamed : (a : Outcome Q) → m.answers mode.streaming j a → (e : E) → m.blames mode.streaming j e →
      ((bounded_family v IsOutput m).at u).blames mode.streaming i e
  blamed a p e h = record { at = j; at_is = b; outcome = a; answered = p; fact = h }

  err_of : (f : Answer.Err E (Option E) Needed) (o : Outcome Q) → m.answers mode.streaming j o →
      ShowsOutcome v IsResult mode j (m.blames mode.streaming j) o (Err f) → BoundShown (Err f)
  err_of f (Accept n t) a h = absurd (cc (h.4))
  err_of f Refuse a h = Shown Refuse (record { at = j; at_is = b; outcome = Refuse; answered = a; fact = refl })
      (h.0, built_error mode.errors _ _ h.0 (blamed Refuse a) h.1, cc (h.2))
  err_of f (Stop (Fails cause)) a h = Shown (Stop (Fails cause)) (record { at = j; at_is = b; outcome = Stop (Fails cause); answered = a; fact = refl })
      (h.0, blamed (Stop (Fails cause)) a h.0 h.1, cc (h.2))
  err_of f (Stop (Needs k)) a h =
      Shown (Stop (Needs k)) (record { at = j; at_is = b; outcome = Stop (Needs k); answered = a; fact = refl }) (h.0, h.1, cc (h.2))

  err_shown : (f : Answer.Err E (Option E) Needed) → ShowsMeaning v IsResult m mode j (Err f) → BoundShown (Err f)
  err_shown f (RanOut e h) = RanOut (cc (e)) (RunsOutInPart j b h)
  err_shown f (Shown o a h) = err_of f o a h

  pub bounded_err : (f : Answer.Err E (Option E) Needed) (r : PResult I O E) → r ≡ Err f →
      ShowsMeaning v IsResult m mode j (Err f) → BoundShown r
  bounded_err f r e h = subst (λ z. BoundShown z) (sym e) (err_shown f h)

  pub bounded_ok : InputLaws w → w.IsKnown i → (k : J) (x : Option O) → ShowsMeaning v IsResult m mode j (Ok (k, x)) → BoundShown (Ok (i, x))
  bounded_ok l known k x h =
      let a = accepts h in
      Shown (Accept 0 a.tree) (record { at = j; at_is = b; outcome = Accept a.length a.tree; answered = a.answered; fact = refl })
      (i, x, rest_self w l i known, a.built_is, refl)
