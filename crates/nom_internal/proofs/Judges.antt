-- Lemmas on parts whose acceptances are judged by closures.
use Rattle.std.proofs.Common.{◌≡◌, ℕ, Bool, true, false, Ok, Err, Option, Some, refl, sym, ap, subst, inl, inr}
use Rattle.nom_internal.specs.Prelude.{Needed, PResult, Refuses, Built, Modes, with_outputs, Model, Outcome, Accept, Refuse, RanOut, Shown, Meaning}
use Rattle.nom_internal.specs.Prelude.{ShowsMeaning, RunsOutBeside, GivesFor, IsAsked, kept_if, judged_case, judged_meaning}
use Rattle.nom_error.specs.declared.answer.Err as Answer
use Rattle.nom_internal.proofs.Shown.{Accepts, accepts, built_error}
use Rattle.nom_internal.proofs.Cased.{here, passing_err}

abbrev JudgedShown : {I A V P R O E : Type 0} (w : Model I A) (IsOutput : V → P → Type 0) (Takes : P → Type 0) (Gives : P → R → Type 0) (fits : R → Bool)
    (Makes : I → R → E → Type 0) (Grows : Type 0) (IsResult : V → O → Type 0) (m : Meaning I V E) (mode : Modes) (i : I) →
    PResult I O E → Type 0
JudgedShown w IsOutput Takes Gives fits Makes Grows IsResult m mode i = ShowsMeaning w IsResult (judged_meaning IsOutput Takes Gives fits Makes Grows m) mode i

module _ {I A V P R O E : Type 0} (w : Model I A) (IsOutput : V → P → Type 0) (Takes : P → Type 0) (Gives : P → R → Type 0) (fits : R → Bool)
    (Makes : I → R → E → Type 0) (Grows : Type 0) (IsResult : V → O → Type 0) (m : Meaning I V E) (mode : Modes) (i : I) where
  abbrev Goal : PResult I O E → Type 0
  Goal = JudgedShown w IsOutput Takes Gives fits Makes Grows IsResult m mode i

  err_shown : (f : Answer.Err E (Option E) Needed) → ShowsMeaning w IsOutput m (with_outputs true mode) i (Err f) → Goal (Err f)
  err_shown f = passing_err w IsOutput IsResult (judged_case IsOutput Takes Gives fits Makes Grows) m mode i
      (record {
        at_is = refl;
        refuses = λ b e. (refl, refl, λ z h. h);
        undecided = λ n e d. refl;
        fails = λ _. refl;
        blames_failure = λ _ z h. h;
      }) refl

  refusal_shown : (n : ℕ) (t : V) (r : R) → m.answers mode.streaming i (Accept n t) → GivesFor IsOutput Gives t r → fits r ≡ false →
      (k : Answer.Err E (Option E) Needed) → Refuses (Makes i r) Grows mode.errors k → Goal (Err k)
  refusal_shown n t r a g f k (inl q) = RanOut (ap Err q.0) (RunsOutBeside (here (Accept n t) a (r, g, f, (q.1, q.2))))
  refusal_shown n t r a g f k (inr q) =
      Shown Refuse (here (Accept n t) a (r, g, sym (ap (λ z. kept_if z (Accept n t)) f)))
      (q.0, built_error mode.errors _ _ q.0 (λ z c. here (Accept n t) a (r, g, f, c)) q.1, ap Err q.2)

-- the output that was built is one of the tree
output_is : {I A V P : Type 0} {w : Model I A} {IsOutput : V → P → Type 0} {i j : I} {Answers : Outcome V → Type 0} {x : Option P} {p : P} → x ≡ Some p →
    (a : Accepts w IsOutput true i Answers j x) → IsOutput a.tree p
output_is {IsOutput = IsOutput} {p = p} e a = let same : a.built_is.0 ≡ p = cc (a.built_is.1, e) in subst (IsOutput a.tree) same a.built_is.2

-- The premise that a closure judges the part tells which closure it is.
module _ {I A V P R O E : Type 0} {w : Model I A} {IsOutput : V → P → Type 0} {Takes : P → Type 0} {Gives : P → R → Type 0} {fits : R → Bool}
    (Makes : I → R → E → Type 0) {Grows : Type 0} {IsResult : V → O → Type 0} (m : Meaning I V E) {mode : Modes} {i : I} where
  -- whatever isn't an acceptance passes
  pub judged_err : {f : Answer.Err E (Option E) Needed} {r : PResult I O E} →
      IsAsked IsOutput Takes Gives fits → ShowsMeaning w IsOutput m (with_outputs true mode) i (Err f) → r ≡ Err f →
      JudgedShown w IsOutput Takes Gives fits Makes Grows IsResult m mode i r
  judged_err {f = f} k h e = subst (λ z. JudgedShown w IsOutput Takes Gives fits Makes Grows IsResult m mode i z) (sym e)
      (err_shown w IsOutput Takes Gives fits Makes Grows IsResult m mode i f h)

  -- an acceptance that fits stays
  pub judged_fit : {j : I} {x : Option P} {p : P} {r : R} {b : Option O} → IsAsked IsOutput Takes Gives fits → x ≡ Some p → Gives p r → fits r ≡ true →
      ShowsMeaning w IsOutput m (with_outputs true mode) i (Ok (j, x)) → ((t : V) → IsOutput t p → Built mode.outputs (IsResult t) b) →
      JudgedShown w IsOutput Takes Gives fits Makes Grows IsResult m mode i (Ok (j, b))
  judged_fit {j = j} {p = p} {r = r} {b = b} k e g f h made =
      let a = accepts h in
      let is = output_is e a in
      Shown (Accept a.length a.tree)
      (here (Accept a.length a.tree) a.answered (
        r,
        record { output = p; is_output = is; given = g },
        sym (ap (λ z. kept_if z (Accept a.length a.tree)) f),
      )) (j, b, a.rest_is, made a.tree is, refl)

  -- and one that doesn't is refused
  pub judged_unfit : {j : I} {x : Option P} {p : P} {r : R} {k : Answer.Err E (Option E) Needed} → IsAsked IsOutput Takes Gives fits → x ≡ Some p →
      Gives p r → fits r ≡ false → ShowsMeaning w IsOutput m (with_outputs true mode) i (Ok (j, x)) → Refuses (Makes i r) Grows mode.errors k →
      JudgedShown w IsOutput Takes Gives fits Makes Grows IsResult m mode i (Err k)
  judged_unfit {p = p} {r = r} {k = k} l e g f h q =
      let a = accepts h in
      refusal_shown w IsOutput Takes Gives fits Makes Grows IsResult m mode i a.length a.tree r a.answered
      (record { output = p; is_output = output_is e a; given = g }) f k q

-- what is made of an output that is built
pub kept_given : {V P O : Type 0} (IsOutput : V → P → Type 0) (Gives : P → O → Type 0) (built : Bool) (p : P) (o : O) (b : Option O) → Gives p o →
    Built built (λ x. x ≡ o) b → (t : V) → IsOutput t p → Built built (GivesFor IsOutput Gives t) b
kept_given IsOutput Gives true p o b g h t k = (h.0, h.1, record { output = p; is_output = k; given = subst (λ z. Gives p z) (sym h.2) g })
kept_given IsOutput Gives false p o b g h t k = h

-- an output itself, of which more is known
pub kept_output : {V O : Type 0} (IsOutput : V → O → Type 0) (Fact : O → Type 0) (built : Bool) (o : O) (b : Option O) → Fact o →
    Built built (λ x. x ≡ o) b → (t : V) → IsOutput t o → Built built (λ x. IsOutput t x × Fact x) b
kept_output IsOutput Fact true o b f h t k = (h.0, h.1, subst (λ z. IsOutput t z × Fact z) (sym h.2) (k, f))
kept_output IsOutput Fact false o b f h t k = h
