-- Lemmas on the answers of operators with levels, and on what is stuck or closed.
use Rattle.std.proofs.Common.{◌≡◌, ℕ, ◌<◌, ◌≤◌, ltb, lt-ltb, le-ltb, Bool, true, false, Ok, Err, Option, Some, inl, inr, refl, sym, ap, subst}
use Rattle.std.specs.Result.{IsErrAnd, IsErr}
use Rattle.nom.specs.Prelude.{PResult, Refuses, Errors, Modes, modes, Needed, Model, IsSuffixOf, Outcome}
use Rattle.nom.specs.Prelude.{Accept, Refuse, Stop, Fails, Outright, OfValue, ShowsAnswer, ShowsMeaning}
use Rattle.nom.specs.Prelude.{RanOut, Shown, closed_meaning, RunsOutBeside, ClosesResult}
use Rattle.nom.specs.Err as Answer
use Rattle.nom.specs.ErrorKind.TheVariants as Kind
use Rattle.nom.proofs.Cased.{here, passing_err}
use Rattle.nom.proofs.Choices.{closed_shown}
use Rattle.nom.proofs.Shown.{accepts, output_err, err_from_residual, built_error}
use Rattle.nom.specs.Inverted.{GivesFailure}
use Rattle.nom_precedence.specs.Operators.{HasLevel, if_level, operator_case, operator_meaning}
use Rattle.nom_precedence.specs.Stuck.{freed_case, freed_meaning}
use Rattle.nom_precedence.specs.Readings.{IsRead, ShowsBuilt}
use Rattle.nom_precedence.specs.Values.{IsOwn}
use Rattle.nom_precedence.specs.declared.read.Read.{Read}
use Rattle.nom_precedence.specs.declared.read.Read.TheVariants.{Whole, Stuck}
use Rattle.nom_precedence.proofs.ReadShown.{item_of, of_answers, stuck_of}

-- the level of an output
level_of : {P H : Type 0} {IsBinary : P → ℕ × H → Type 0} {u : P} (own : ℕ × H) {Fact : ℕ → Type 0} → IsBinary u own → Fact own.0 →
    OfValue (HasLevel IsBinary (λ o. o.0) u) Fact
level_of own is fact = record { value = own.0; is_value = record { output = own; is_output = is; level_is = refl }; fact = fact }

-- what an operator shows, by what the part answers
abbrev pub ShowsOwn : {I A P H E : Type 0} (w : Model I A) (errs : Errors I E) (levels : ℕ) (IsBinary : P → ℕ × H → Type 0) (mode : Modes)
    (Answers : I → Outcome P → Type 0) (Blames : I → E → Type 0) (RunsOut : I → Type 0) (i : I) → PResult I (ℕ × H) E → Type 0
ShowsOwn w errs levels IsBinary mode Answers Blames RunsOut i r = ShowsBuilt w (IsOwn IsBinary)
    (operator_meaning errs (HasLevel IsBinary (λ o. o.0)) levels (of_answers Answers Blames RunsOut)) mode i r

module _ {I A P H E : Type 0} {w : Model I A} (errs : Errors I E) (levels : ℕ) {IsBinary : P → ℕ × H → Type 0} {errors streaming : Bool} {i : I}
    {Answers : I → Outcome P → Type 0} {Blames : I → E → Type 0} {RunsOut : I → Type 0} where
  -- an operator of a level that is there
  pub own_ok : {j : I} {x : Option (ℕ × H)} {own : ℕ × H} → x ≡ Some own → own.0 < levels →
      ShowsAnswer w IsBinary (modes true errors streaming) i (Answers i) (Blames i) (RunsOut i) (Ok (j, x)) →
      ShowsOwn w errs levels IsBinary (modes true errors streaming) Answers Blames RunsOut i (Ok (j, Some own))
  own_ok {j} {x} {own} e lt h =
      let a = accepts h in
      let same : a.built_is.0 ≡ own = cc (a.built_is.1, e) in
      let is : IsBinary a.tree own = subst (IsBinary a.tree) same a.built_is.2 in
      Shown (Accept a.length (own.0, a.tree)) (here (Accept a.length a.tree) a.answered
      (level_of own is (ap (λ b. if_level b a.length own.0 a.tree) (sym (lt-ltb own.0 levels lt))))) (j, Some own, a.rest_is, (own, refl, (is, refl)), refl)

  -- and of one that isn't
  pub own_no_level : {j : I} {x : Option (ℕ × H)} {own : ℕ × H} {f : Answer.Err E (Option E) Needed} → x ≡ Some own → levels ≤ own.0 →
      ShowsAnswer w IsBinary (modes true errors streaming) i (Answers i) (Blames i) (RunsOut i) (Ok (j, x)) →
      GivesFailure (errs.of_kind i Kind.Precedence) errs.grows f →
      ShowsOwn w errs levels IsBinary (modes true errors streaming) Answers Blames RunsOut i (Err f)
  own_no_level {j} {x} {own} {f} e le h g =
      let a = accepts h in
      let same : a.built_is.0 ≡ own = cc (a.built_is.1, e) in
      by a.length a.tree a.answered (subst (IsBinary a.tree) same a.built_is.2) (le-ltb own.0 levels le) g
    where
      by : (n : ℕ) (u : P) → Answers i (Accept n u) → IsBinary u own → ltb own.0 levels ≡ false → GivesFailure (errs.of_kind i Kind.Precedence) errs.grows f →
          ShowsOwn w errs levels IsBinary (modes true errors streaming) Answers Blames RunsOut i (Err f)
      by n u a is away (inl g) = RanOut (ap Err g.0) (RunsOutBeside (here (Accept n u) a (level_of own is (away, g.1))))
      by n u a is away (inr g) = Shown (Stop (Fails Outright)) (here (Accept n u) a (level_of own is (ap (λ b. if_level b n own.0 u) (sym away))))
          (g.0, here (Accept n u) a (inl (level_of own is (away, g.1))), ap Err g.2)

  -- no operator
  pub own_err : {f : Answer.Err E (Option E) Needed} {r : PResult I (ℕ × H) E} →
      ShowsAnswer w IsBinary (modes true errors streaming) i (Answers i) (Blames i) (RunsOut i) (Err f) → IsErr r × IsErrAnd r (λ y. y ≡ f) →
      ShowsOwn w errs levels IsBinary (modes true errors streaming) Answers Blames RunsOut i r
  own_err {f} {r} h q = output_err (passing_err w IsBinary (λ _ (_ : ℕ × H). Unit {0}) (operator_case errs (HasLevel IsBinary (λ o. o.0)) levels)
      (of_answers Answers Blames RunsOut) (modes true errors streaming) i (record {
        at_is = refl;
        refuses = λ b e. (refl, refl, λ z h. inr (tt, h));
        undecided = λ n e d. refl;
        fails = λ _. refl;
        blames_failure = λ _ z h. inr (tt, h);
      }) refl h) q

module _ {I A V X E : Type 0} {w : Model I A} (errs : Errors I E) {IsOutput : V → X → Type 0} {outputs errors streaming : Bool} {i : I}
    {Answers : I → Outcome (Read V) → Type 0} {Blames : I → E → Type 0} {RunsOut : I → Type 0} where
  -- a part that is told, closed
  pub closed_read : {before r : PResult I (Read (Option X)) E} →
      ShowsAnswer w (IsRead outputs IsOutput) (modes true errors streaming) i (Answers i) (Blames i) (RunsOut i) before →
      ClosesResult (errs.appended i Kind.Precedence) errs.grows before r → ShowsBuilt w (IsRead outputs IsOutput)
      (closed_meaning (λ i. errs.appended i Kind.Precedence) errs.grows (of_answers Answers Blames RunsOut)) (modes outputs errors streaming) i r
  closed_read {before} {r} h g = closed_shown w (IsRead outputs IsOutput) (modes true errors streaming) i (of_answers Answers Blames RunsOut)
      (λ i. errs.appended i Kind.Precedence) errs.grows before r h g

  -- all was read whole
  pub freed_ok : {j : I} {x : Option X} →
      ShowsAnswer w (IsRead outputs IsOutput) (modes true errors streaming) i (Answers i) (Blames i) (RunsOut i) (Ok (j, Some (Whole x))) →
      ShowsMeaning w IsOutput (freed_meaning w errs (of_answers Answers Blames RunsOut)) (modes outputs errors streaming) i (Ok (j, x))
  freed_ok {j} {x} h =
      let a = item_of h in
      Shown (Accept a.length a.tree) (here (Accept a.length (Whole a.tree)) a.answered refl) (j, x, a.rest_is, a.built_is, refl)

  -- it is stuck
  pub freed_stuck : {j : I} {f : Answer.Err E (Option E) Needed} →
      ShowsAnswer w (IsRead outputs IsOutput) (modes true errors streaming) i (Answers i) (Blames i) (RunsOut i) (Ok (j, Some Stuck)) →
      Refuses (errs.of_kind j Kind.Precedence) errs.grows errors f →
      ShowsMeaning w IsOutput (freed_meaning w errs (of_answers Answers Blames RunsOut)) (modes outputs errors streaming) i (Err f)
  freed_stuck {j} {f} h g = let a = stuck_of h in by a.0 a.2 a.1 g
    where
      by : (n : ℕ) → IsSuffixOf w i n j → Answers i (Accept n Stuck) → Refuses (errs.of_kind j Kind.Precedence) errs.grows errors f →
          ShowsMeaning w IsOutput (freed_meaning w errs (of_answers Answers Blames RunsOut)) (modes outputs errors streaming) i (Err f)
      by n q a (inl g) = RanOut (ap Err g.0) (RunsOutBeside (here (Accept n Stuck) a (g.1, g.2)))
      by n q a (inr g) = Shown Refuse (here (Accept n Stuck) a refl) (
        g.0,
        built_error errors _ _ g.0 (λ e p. here (Accept n Stuck) a (inl (record { rest = j; rest_is = q; error_is = p }))) g.1,
        ap Err g.2,
      )

  pub freed_err : {f : Answer.Err E (Option E) Needed} {r : PResult I X E} →
      ShowsAnswer w (IsRead outputs IsOutput) (modes true errors streaming) i (Answers i) (Blames i) (RunsOut i) (Err f) → IsErr r × IsErrAnd r (λ y. y ≡ f) →
      ShowsMeaning w IsOutput (freed_meaning w errs (of_answers Answers Blames RunsOut)) (modes outputs errors streaming) i r
  freed_err {f} {r} h q = rw (err_from_residual q) (passing_err w (λ _ (_ : Unit {0}). Unit {0}) IsOutput (freed_case w errs)
      (of_answers Answers Blames RunsOut) (modes outputs errors streaming) i (record {
        at_is = refl;
        refuses = λ b e. (refl, refl, λ z h. inr (tt, h));
        undecided = λ n e d. refl;
        fails = λ _. refl;
        blames_failure = λ _ z h. inr (tt, h);
      }) refl (output_err {r = Err f} h (refl, refl)))
