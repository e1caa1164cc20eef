-- Lemmas on a part whose outputs are mapped by a closure that may take memory.
use Rattle.std.proofs.Common.{◌≡◌, Bool, true, false, Result, Ok, Err, Option, Some, None, refl, sym, subst}
use Rattle.nom_internal.specs.Prelude.{PResult, Needed, Built, Modes, Model, Accept, RanOut, Shown, Meaning, ShowsMeaning, RunsOutBeside, GivesFor, IsCallable}
use Rattle.nom_error.specs.declared.answer.OutOfMemory.{OutOfMemory}
use Rattle.nom_error.specs.declared.answer.Err as Answer
use Rattle.nom_internal.proofs.Shown.{accepts}
use Rattle.nom_internal.proofs.Cased.{here, passing_err}
use Rattle.nom_combinator.specs.MapAlloc.{map_alloc_case, map_alloc_meaning}

-- an output that is built is given to the closure, and none elsewhere
module _ {V P R : Type 0} (IsOutput : V → P → Type 0) (Gives : P → R → Type 0) (t : V) where
  some_given : (built : Bool) (x : Option P) (p : P) (r : R) → x ≡ Some p → Gives p r → Built built (IsOutput t) x →
      Built built (GivesFor IsOutput Gives t) (Some r)
  some_given true x p r e g h = let same : h.0 ≡ p = cc (h.1, e) in (r, refl, record { output = p; is_output = subst (IsOutput t) same h.2; given = g })
  some_given false x p r e g h = absurd (cc (h, e))

  none_given : (built : Bool) (x : Option P) → x ≡ None → Built built (IsOutput t) x → Built built (GivesFor IsOutput Gives t) None
  none_given true x e h = absurd (cc (h.1, e))
  none_given false x e h = refl

-- an output that is there was built
was_built : {V P : Type 0} (IsOutput : V → P → Type 0) (t : V) (built : Bool) (x : Option P) (p : P) → x ≡ Some p → Built built (IsOutput t) x →
    (built ≡ true) × IsOutput t p
was_built IsOutput t true x p e h = let same : h.0 ≡ p = cc (h.1, e) in (refl, subst (IsOutput t) same h.2)
was_built IsOutput t false x p e h = absurd (cc (h, e))

abbrev MapAllocShown : {I A V P R E : Type 0} (w : Model I A) (IsOutput : V → P → Type 0) (Takes : P → Type 0)
    (Gives : P → Result R OutOfMemory → Type 0) (m : Meaning I V E) (mode : Modes) (i : I) → PResult I R E → Type 0
MapAllocShown w IsOutput Takes Gives m mode i = ShowsMeaning w (GivesFor IsOutput (λ p r. Gives p (Ok r))) (map_alloc_meaning IsOutput Takes Gives m) mode i

-- The premise that a closure takes the outputs tells which closure it is.
module _ {I A V P R E : Type 0} {w : Model I A} {IsOutput : V → P → Type 0} {Takes : P → Type 0} (Gives : P → Result R OutOfMemory → Type 0)
    (m : Meaning I V E) {mode : Modes} {i : I} where
  -- whatever isn't an acceptance passes
  pub map_err : {f : Answer.Err E (Option E) Needed} {r : PResult I R E} → IsCallable IsOutput Takes →
      ShowsMeaning w IsOutput m mode i (Err f) → r ≡ Err f → MapAllocShown w IsOutput Takes Gives m mode i r
  map_err k h e =
      subst (MapAllocShown w IsOutput Takes Gives m mode i) (sym e)
      (passing_err w IsOutput (GivesFor IsOutput (λ p r. Gives p (Ok r)))
      (map_alloc_case IsOutput Takes Gives) m mode i
      (record {
        at_is = refl;
        refuses = λ b q. (refl, refl, λ z h. h);
        undecided = λ n q d. refl;
        fails = λ _. refl;
        blames_failure = λ _ z h. h;
      }) refl h)

  -- an output that was built is mapped, and none elsewhere
  pub map_some : {j : I} {x : Option P} {p : P} {q : Result R OutOfMemory} {r : R} → IsCallable IsOutput Takes → x ≡ Some p → q ≡ Ok r → Gives p q →
      ShowsMeaning w IsOutput m mode i (Ok (j, x)) → MapAllocShown w IsOutput Takes Gives m mode i (Ok (j, Some r))
  map_some {j = j} {x = x} {p = p} {r = r} k e q g h =
      let a = accepts h in
      Shown (Accept a.length a.tree) (here (Accept a.length a.tree) a.answered refl)
      (j, Some r, a.rest_is, some_given IsOutput (λ p r. Gives p (Ok r)) a.tree mode.outputs x p r e (subst (Gives p) q g) a.built_is, refl)

  pub map_none : {j : I} {x : Option P} → IsCallable IsOutput Takes → x ≡ None → ShowsMeaning w IsOutput m mode i (Ok (j, x)) →
      MapAllocShown w IsOutput Takes Gives m mode i (Ok (j, None))
  map_none {j = j} {x = x} k e h =
      let a = accepts h in
      Shown (Accept a.length a.tree) (here (Accept a.length a.tree) a.answered refl)
      (j, None, a.rest_is, none_given IsOutput (λ p r. Gives p (Ok r)) a.tree mode.outputs x e a.built_is, refl)

  -- the closure found no memory for an output
  pub map_ran_out : {j : I} {x : Option P} {p : P} {q : Result R OutOfMemory} {e : OutOfMemory} → IsCallable IsOutput Takes → x ≡ Some p →
      q ≡ Err e → Gives p q →
      ShowsMeaning w IsOutput m mode i (Ok (j, x)) → MapAllocShown w IsOutput Takes Gives m mode i (Err Answer.Err.OutOfMemory)
  map_ran_out {x = x} {p = p} {e = e} k s q g h =
      let a = accepts h in
      let b = was_built IsOutput a.tree mode.outputs x p s a.built_is in
      RanOut refl (RunsOutBeside (record {
        at = i;
        at_is = refl;
        outcome = Accept a.length a.tree;
        answered = a.answered;
        fact =
            (b.0, (p, e, b.1, subst (Gives p) q g));
      }))
