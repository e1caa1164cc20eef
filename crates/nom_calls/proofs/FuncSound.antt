-- Functions that answer as a meaning says are parsers.
use Rattle.std.proofs.Common.{◌≡◌, ℕ, Bool, true, false, List, [], ◌++◌, Ok, Err, ◌⊎◌, refl, sym, ◌∙◌, subst, ap, inl, inr}
use Rattle.nom_internal.specs.Prelude.{Incomplete, Error, Failure, OutOfMemory, Errors, IResult, size_of, modes, Model, InputLaws, IsSuffixOf, Related}
use Rattle.nom_internal.specs.Prelude.{View, Outcome, Accept, Refuse, Stop, Fails, Needs, Outright, TooLarge, IsDecided, ParsesOutcome}
use Rattle.nom_internal.specs.Prelude.{ParsesAnswer}
use Rattle.nom_internal.specs.Prelude.{ParseRanOut, Parsed, Meaning, IsLawful, IsSteady, NeverTooLarge, Agree, Keeps, ParsesMeaning, IsPinned}
use Rattle.nom_traits.specs.Cuts.{CutsAs, CutsNowhere, suffix_at, suffix_somewhere}
use Rattle.nom_calls.specs.Func.{HasOutcome, TakenAs, TellOne, TellsItems, FuncRunsOut, IsParser, IsStreamParser, Answers, AnswersBy}
use Rattle.nom_calls.specs.Func.{StreamsBy}
use Rattle.nom_calls.specs.Func.FuncRunsOut.{RunsOutInside, RunsOutNoRest}

module _ {I A O E : Type 0} (w : Model I A) (view : View O) where
  -- an acceptance that leaves a rest is taken with that rest
  taken_there : (i : I) (n : ℕ) (j : I) (v : O) (o : Outcome view.Value) → IsSuffixOf w i n j → (r : IResult I O E) → r ≡ Ok (j, v) →
      ((k : ℕ) × CutsAs w i k j × (o ≡ Accept k (view.value v))) ⊎ (CutsNowhere w i j × (o ≡ Stop (Fails Outright))) → o ≡ Accept n (view.value v)
  taken_there i n j v o s r e (inl h) = h.2 ∙ ap (λ m. Accept m (view.value v)) (sym (suffix_at w i n h.0 j s h.1))
  taken_there i n j v o s r e (inr h) = absurd (suffix_somewhere w i n j s h.0)

  pub taken_rest : (i : I) (n : ℕ) (j : I) (v : O) (r : IResult I O E) (o : Outcome view.Value) → IsSuffixOf w i n j → r ≡ Ok (j, v) →
      TakenAs w view i r o → o ≡ Accept n (view.value v)
  taken_rest i n j v r o s e t = taken_there i n j v o s r e (subst (λ x. TakenAs w view i x o) e t)

  -- and as that alone
  pub taken_once : (i : I) (r : IResult I O E) (o p : Outcome view.Value) → HasOutcome w view i r o → TakenAs w view i r p → p ≡ o
  taken_once i (Ok (j, v)) o p h k = taken_rest i h.0 j v (Ok (j, v)) p h.1 refl k ∙ sym h.2
  taken_once i (Err (Incomplete d)) o p h k = k ∙ sym h
  taken_once i (Err (Error e)) o p h k = k ∙ sym h
  taken_once i (Err (Failure e)) o p h k = k ∙ sym h
  taken_once i (Err OutOfMemory) o p h k = absurd h

-- of a function that leaves rests
module _ {I A O E : Type 0} {w : Model I A} {Gives : I → IResult I O E → Type 0}
    (rests : (i j : I) (v : O) → w.IsKnown i → Gives i (Ok (j, v)) → (n : ℕ) × IsSuffixOf w i n j) where
  -- where it never runs out of memory, its parser doesn't
  pub never_runs_out : {errs : Errors I E} → ((i : I) → w.IsKnown i → Gives i (Err OutOfMemory) → ⊥) → (i : I) → w.IsKnown i →
      FuncRunsOut w errs Gives i → ⊥
  never_runs_out inside i k (RunsOutInside g) = inside i k g
  never_runs_out inside i k (RunsOutNoRest j v g none grows) = let r = rests i j v k g in suffix_somewhere w i r.0 j r.1 none

module _ {V O : Type 0} (view : View O) (IsOutput : V → O → Type 0) where
  -- an outcome as a function's answer tells it: by the view of an output, and with a failure that is one of its own
  abbrev Retold : Outcome V → Outcome view.Value → Type 0
  Retold (Accept n t) o = (b : O) × IsOutput t b × (o ≡ Accept n (view.value b))
  Retold Refuse o = o ≡ Refuse
  Retold (Stop (Fails cause)) o = o ≡ Stop (Fails Outright)
  Retold (Stop (Needs k)) o = o ≡ Stop (Needs k)

  retold_once : IsPinned view IsOutput → (a : Outcome V) (o p : Outcome view.Value) → Retold a o → Retold a p → o ≡ p
  retold_once one (Accept n t) o p h k = h.2 ∙ (ap (λ v. Accept n v) (one.one_view t h.0 k.0 h.1 k.1) ∙ sym k.2)
  retold_once one Refuse o p h k = h ∙ sym k
  retold_once one (Stop (Fails cause)) o p h k = h ∙ sym k
  retold_once one (Stop (Needs d)) o p h k = h ∙ sym k

  retold_decided : (a : Outcome V) (o : Outcome view.Value) → (a ≡ Stop (Fails TooLarge) → ⊥) → Retold a o → Keeps true o → Keeps true a
  retold_decided (Accept n t) o never h k = tt
  retold_decided Refuse o never h k = tt
  retold_decided (Stop (Fails Outright)) o never h k = tt
  retold_decided (Stop (Fails TooLarge)) o never h k = absurd (never refl)
  retold_decided (Stop (Needs d)) o never h k = subst (Keeps true) h k

  module _ {I A E : Type 0} (w : Model I A) (i : I) (IsError : E → Type 0) where
    retold_of : (a : Outcome V) (r : IResult I O E) (o : Outcome view.Value) → ParsesOutcome w IsOutput i IsError a r →
        TakenAs w view i r o → Retold a o
    retold_of (Accept n t) r o p h = (p.1, p.3, taken_rest w view i n p.0 p.1 r o p.2 p.4 h)
    retold_of Refuse r o p h = subst (λ x. TakenAs w view i x o) p.2 h
    retold_of (Stop (Fails cause)) r o p h = subst (λ x. TakenAs w view i x o) p.2 h
    retold_of (Stop (Needs k)) r o p h =
        (let told : o ≡ Stop (Needs (size_of p.0)) = subst (λ x. TakenAs w view i x o) p.2 h in told ∙ ap (λ d. Stop (Needs d)) p.1)

-- the outcome of a meaning that an answer of the function retells
record Meant {V O : Type 0} (view : View O) (IsOutput : V → O → Type 0) (Answers : Outcome V → Type 0) (o : Outcome view.Value) : Type 0 where
  outcome : Outcome V
  answered : Answers outcome
  retold : Retold view IsOutput outcome o

module _ {I A V O E : Type 0} (w : Model I A) (view : View O) (IsOutput : V → O → Type 0) (i : I) (Answers : Outcome V → Type 0) (IsError : E → Type 0)
    (RunsOut : Type 0) where
  meant_by : (r : IResult I O E) (o : Outcome view.Value) → ParsesAnswer w IsOutput i Answers IsError RunsOut r →
      TakenAs w view i r o → Meant view IsOutput Answers o
  meant_by r o (ParseRanOut e h) t = absurd (subst (λ x. TakenAs w view i x o) e t)
  meant_by r o (Parsed a h p) t = record { outcome = a; answered = h; retold = retold_of view IsOutput w i IsError a r o p t }

-- The function answers as a relation of inputs to outcomes says, under which inputs that are equal as models have one outcome; and one
-- tree stands for one output.
module _ {I A V O E : Type 0} {w : Model I A} {view : View O} {IsOutput : V → O → Type 0} {Answers : I → Outcome V → Type 0} {IsError : I → E → Type 0}
    {RunsOut : I → Type 0} {Gives : I → IResult I O E → Type 0} (one : Agree w false Answers Answers) (pinned : IsPinned view IsOutput)
    (shows : (i : I) (r : IResult I O E) → w.IsKnown i → Gives i r →
    ParsesAnswer w IsOutput i (Answers i) (IsError i) (RunsOut i) r) where
  meant : (i : I) (r : IResult I O E) (o : Outcome view.Value) → w.IsKnown i → Gives i r → TakenAs w view i r o →
      Meant view IsOutput (Answers i) o
  meant i r o h g t = meant_by w view IsOutput i (Answers i) (IsError i) (RunsOut i) r o (shows i r h g) t

  parser_by : IsParser w view Gives
  unfolding TellOne
  parser_by = record {
    consistent = λ x y f g record { from_known = kx; to_known = ky; related = r } a b. (λ o p t k u.
        let c = meant x f o kx a t in
        let d = meant y g p ky b u in
        let same = one x y c.outcome d.outcome kx ky r c.answered tt d.answered in
        retold_once view IsOutput pinned d.outcome o p (subst (λ z. Retold view IsOutput z o) same c.retold) d.retold);
  }

  stream_parser_by : Agree w true Answers Answers → ((i : I) → w.IsKnown i → Answers i (Stop (Fails TooLarge)) → ⊥) → IsStreamParser w view Gives
  unfolding TellOne
  stream_parser_by steady never = record {
    parser = parser_by;
    stays = λ x y f g record { from_known = kx; to_known = ky; related = r } a b. (λ o p t k u.
        let c = meant x f o kx a t in
        let d = meant y g p ky b u in
        let large : c.outcome ≡ Stop (Fails TooLarge) → ⊥ = λ e. never x kx (subst (λ z. Answers x z) e c.answered) in
        let same = steady x y c.outcome d.outcome kx ky r c.answered (retold_decided view IsOutput c.outcome o large c.retold k) d.answered in
        retold_once view IsOutput pinned d.outcome o p (subst (λ z. Retold view IsOutput z o) same c.retold) d.retold);
  }

module _ {I A V O E : Type 0} {w : Model I A} {view : View O} {IsOutput : V → O → Type 0} {m : Meaning I V E}
    {Gives : I → IResult I O E → Type 0} where
  -- a function that answers as a lawful meaning says in one mode is a parser, where one tree stands for one output
  pub func_sound : (s : Bool) → IsLawful w m → IsPinned view IsOutput →
      ((i : I) (r : IResult I O E) → w.IsKnown i → Gives i r → ParsesMeaning w IsOutput m s i r) → IsParser w view Gives
  func_sound s lawful pinned shows =
      parser_by {IsError = λ i. m.blames s i} {RunsOut = λ i. m.may_run_out (modes true true s) i} (lawful.one_outcome s) pinned shows

  -- and a stream parser where that mode is the streaming one, the meaning is steady, and what it lacks is never too large
  pub stream_func_sound : IsLawful w m → IsSteady w m → NeverTooLarge m → IsPinned view IsOutput →
      ((i : I) (r : IResult I O E) → w.IsKnown i → Gives i r → ParsesMeaning w IsOutput m true i r) → IsStreamParser w view Gives
  stream_func_sound lawful steady never pinned shows =
      stream_parser_by {IsError = λ i. m.blames true i} {RunsOut = λ i. m.may_run_out (modes true true true) i}
      (lawful.one_outcome true) pinned shows steady.stays (λ i h a. lawful.never_fails TooLarge never true i h a)

module _ {I A O E : Type 0} (w : Model I A) (view : View O) (outcome : List A → Outcome view.Value) where
  items_outcome : (i : I) (r : IResult I O E) (o : Outcome view.Value) → TellsItems w view outcome i r → TakenAs w view i r o →
      o ≡ outcome (w.elements i)
  items_outcome i r o g t = taken_once w view i r (outcome (w.elements i)) o g t

-- Of a function whose contract says the outcome by the items.
module _ {I A O E : Type 0} {w : Model I A} {view : View O} (outcome : List A → Outcome view.Value) where
  pub items_func : IsParser {E = E} w view (TellsItems w view outcome)
  unfolding TellOne
  items_func = record {
    consistent = λ x y f g record { from_known = kx; to_known = ky; related = r } a b. (λ o p t k u.
        items_outcome w view outcome x f o a t ∙ (ap outcome r.elements_are ∙ sym (items_outcome w view outcome y g p b u)));
  }

  -- where what is decided stays as items are added
  pub items_stream_func : ((xs more : List A) → IsDecided (outcome xs) → outcome (xs ++ more) ≡ outcome xs) →
      IsStreamParser {E = E} w view (TellsItems w view outcome)
  unfolding TellOne
  items_stream_func steady = record {
    parser = items_func;
    stays = λ x y f g record { from_known = kx; to_known = ky; related = r } a b. (λ o p t k u.
        let kept = steady (w.elements x) r.more (subst IsDecided (items_outcome w view outcome x f o a t) k) in
        items_outcome w view outcome x f o a t ∙ (sym kept ∙ (ap outcome (sym r.whole) ∙ sym (items_outcome w view outcome y g p b u))));
  }

module _ {I A : Type 0} (w : Model I A) (l : InputLaws w) where
  all_left : (i : I) → w.IsKnown i → IsSuffixOf w i 0 i
  all_left i k = record { known = k; front = []; whole = refl; length_is = refl; mark_is = sym (l.mark_none (w.mark i)) }

  taken_with : {O E : Type 0} (view : View O) (i : I) (x : O) (r : IResult I O E) (o : Outcome view.Value) → w.IsKnown i →
      r ≡ Ok (i, x) → TakenAs w view i r o → o ≡ Accept 0 (view.value x)
  taken_with view i x r o k e t = taken_rest w view i 0 i x r o (all_left i k) e t

-- Of a function that tells its answer outright: it leaves all of its input, with an output of it.
module _ {I A O E : Type 0} {w : Model I A} (l : InputLaws w) {view : View O} {Gives : I → IResult I O E → Type 0} (value : I → O)
    (outright : (i : I) (r : IResult I O E) → Gives i r → r ≡ Ok (i, value i)) where
  -- the outputs of inputs that are equal as models are
  pub outright_func : ((i j : I) → Related w false i j → view.value (value i) ≡ view.value (value j)) → IsParser w view Gives
  unfolding TellOne
  outright_func consistent = record {
    consistent = λ i j r q h a b. (λ o p t k u. taken_with w l view i (value i) r o h.from_known (outright i r a) t ∙
        (ap (λ v. Accept 0 v) (consistent i j h.related) ∙ sym (taken_with w l view j (value j) q p h.to_known (outright j q b) u)));
  }

  -- and that of a longer input is
  pub outright_stream_func : ((longer : Bool) (i j : I) → Related w longer i j → view.value (value i) ≡ view.value (value j)) →
      IsStreamParser w view Gives
  unfolding TellOne
  outright_stream_func consistent = record {
    parser = outright_func (consistent false);
    stays = λ i j r q h a b. (λ o p t k u. taken_with w l view i (value i) r o h.from_known (outright i r a) t ∙
        (ap (λ v. Accept 0 v) (consistent true i j h.related) ∙ sym (taken_with w l view j (value j) q p h.to_known (outright j q b) u)));
  }

-- What answers by a lawful meaning, whose trees stand for one output each, answers so alike.
module _ {I A V O E : Type 0} {w : Model I A} {view : View O} {IsOutput : V → O → Type 0} {m : Meaning I V E} {i : I}
    {r : IResult I O E} where
  pub answers_by : {s : Bool} → IsLawful w m → IsPinned view IsOutput → ParsesMeaning w IsOutput m s i r → AnswersBy w view IsOutput m s i r
  unfolding TellOne Answers
  answers_by {s} lawful pinned shown = record {
    shown = shown;
    consistent = λ j q record { from_known = ki; to_known = kj; related = same } by. (λ o p t k u.
        let a = meant_by w view IsOutput i (m.answers s i) (m.blames s i) (m.may_run_out (modes true true s) i) r o shown t in
        let b = meant_by w view IsOutput j (m.answers s j) (m.blames s j) (m.may_run_out (modes true true s) j) q p by u in
        let one = lawful.one_outcome s i j a.outcome b.outcome ki kj same a.answered tt b.answered in
        retold_once view IsOutput pinned b.outcome o p (subst (λ z. Retold view IsOutput z o) one a.retold) b.retold);
  }

  pub streams_by : IsLawful w m → IsSteady w m → NeverTooLarge m → IsPinned view IsOutput → ParsesMeaning w IsOutput m true i r →
      StreamsBy w view IsOutput m true i r
  unfolding TellOne Answers
  streams_by lawful steady never pinned shown = record {
    answer = answers_by lawful pinned shown;
    stays = λ j q record { from_known = ki; to_known = kj; related = longer } by. (λ o p t k u.
        let a = meant_by w view IsOutput i (m.answers true i) (m.blames true i) (m.may_run_out (modes true true true) i) r o shown t in
        let b = meant_by w view IsOutput j (m.answers true j) (m.blames true j) (m.may_run_out (modes true true true) j) q p by u in
        let large : a.outcome ≡ Stop (Fails TooLarge) → ⊥ = λ e. lawful.never_fails TooLarge never true i ki (subst (λ z. m.answers true i z) e a.answered) in
        let one = steady.stays i j a.outcome b.outcome ki kj longer a.answered (retold_decided view IsOutput a.outcome o large a.retold k) b.answered in
        retold_once view IsOutput pinned b.outcome o p (subst (λ z. Retold view IsOutput z o) one a.retold) b.retold);
  }
