-- Lemmas on the evaluation of terms, as they are read.
use Rattle.std.specs.Prelude.{◌≡◌, ◌<◌, ◌⊎◌, Bool, true, List, [], ◌∷◌, ◌++◌, length, Option, Some, None, IsSome, Result, refl}
use Rattle.std.proofs.Common.{sym, ◌∙◌, ap, subst, inl, append_assoc, append-nil}
use Rattle.nom_internal.specs.Prelude.{PResult, Built, Modes, Model, Outcome, Accept, ShowsAnswer, RanOut, Shown, Meaning, closed_meaning}
use Rattle.nom_internal.proofs.Shown.{Accepts}
use Rattle.nom_repeat.specs.Accumulated.{Adds, Accumulated}
use Rattle.nom_operators.specs.Evaluations.{IsValueOf, term_symbols}
use Rattle.nom_operators.specs.OperatorTrees.{Symbol}
use Rattle.nom_operators.specs.Prefixes.{prefixes_in}
use Rattle.nom_operators.specs.OperatorTrees.Symbol.{OfBinary}
use Rattle.nom_operators.specs.declared.operation.Operation.{Operation}
use Rattle.nom_operators.specs.declared.pending.Partial.{Partial}
use Rattle.nom_operators.specs.declared.pending.Pending.{Pending}
use Rattle.nom_operators.specs.declared.precedences.Unary.{Unary}
use Rattle.nom_operators.specs.declared.precedences.Binary.{Binary}
use Rattle.nom_language.specs.Evaluated.{TermOutput, symbols_of_term, symbols_of_pairs, IsEvaluated}
use Rattle.nom_language.specs.helpers.Accumulated.{OfThat, HasReadInto, PairPushes}
use Rattle.nom_language.specs.Precedences.{LacksAt, PrefixesWait}
use Rattle.nom_language.proofs.LeftShown.{some_same}

-- memory may run out for another cause too
pub runs_out_beside : {I A V O E : Type 0} {w : Model I A} {IsOutput : V → O → Type 0} {mode : Modes} {i : I} {Answers : Outcome V → Type 0}
    {IsError : E → Type 0} {RunsOut Other : Type 0} {r : PResult I O E} → ShowsAnswer w IsOutput mode i Answers IsError RunsOut r →
    ShowsAnswer w IsOutput mode i Answers IsError (RunsOut ⊎ Other) r
runs_out_beside (RanOut e h) = RanOut e (inl h)
runs_out_beside (Shown o a s) = Shown o a s

-- what is accepted of a part that is closed is accepted of the part
pub closed_lacks : {I A V O E : Type 0} {w : Model I A} {IsOutput : V → O → Type 0} {built streaming : Bool} {i j : I} {x : Option O}
    (Closes : I → E → E → Type 0) (Grows : Type 0) (Lacks : V → Type 0) (m : Meaning I V E)
    (a : Accepts w IsOutput built i ((closed_meaning Closes Grows m).answers streaming i) j x) → Lacks a.tree → LacksAt Lacks m streaming i
closed_lacks {streaming = streaming} Closes Grows Lacks m a h =
    let p = a.answered in
    record {
      accepts = record {
        length = a.length;
        tree = a.tree;
        accepted = subst (λ k. m.answers streaming k (Accept a.length a.tree)) (sym p.at_is)
            (subst (λ o. m.answers streaming p.at o) (sym p.fact) p.answered);
      };
      lacks = h;
    }

-- the prefixes of a term that was built wait
pub term_waits : {T P O Q M : Type 0} (IsTerm : T → TermOutput P O Q M → Type 0) (t : T) (built : Option (TermOutput P O Q M)) (term : TermOutput P O Q M) →
    built ≡ Some term → Built true (IsTerm t) built → 1 < length (prefixes_in term.0) → PrefixesWait IsTerm t
term_waits IsTerm t built term e b h =
    let same : term ≡ b.0 = some_same term b.0 (sym e ∙ b.1) in
    (term, subst (IsTerm t) (sym same) b.2, h)

pub that_some : {X : Type 0} (Fact : X → Type 0) (x : Option X) → OfThat x Fact → IsSome x
that_some Fact (Some y) h = refl
that_some Fact None h = absurd h

-- the fact holds of what is built
pub of_built : {X : Type 0} (P : X → Type 0) (x : Option X) (y : X) → x ≡ Some y → Built true P x → P y
of_built P x y e h = subst P (sym (some_same y h.0 (sym e ∙ h.1))) h.2

module _ {K L P Q B O X M : Type 0} (partial : K → Option (Partial P B (Result O X))) (outer : K → List (Pending P B (Result O X))) (fold : K → L)
    (Gives : L → Operation P Q B O → Result O X → Type 0) where
  -- pairs are read in their order
  eval_adds : (ss : List (Symbol (Unary P) O (Unary Q) (Binary B))) (k : K) (ps : List (Binary B × TermOutput P O Q M)) (new : K) →
      HasReadInto partial outer fold Gives (fold k) ss k → Adds (PairPushes partial outer fold Gives) k ps new →
      (fold new ≡ fold k) × HasReadInto partial outer fold Gives (fold k) (ss ++ symbols_of_pairs ps) new
  eval_adds ss k [] new h a = (
    ap fold a,
    subst (λ z. HasReadInto partial outer fold Gives (fold k) (ss ++ []) z) (sym a)
        (subst (λ z. HasReadInto partial outer fold Gives (fold k) z k) (sym (append-nil ss)) h),
  )
  eval_adds ss k (p ∷ ps) new h a =
      let push = a.1 in
      let item = OfBinary p.0 ∷ symbols_of_term p.1 in
      let more = eval_adds (ss ++ item) a.0 ps new
      (subst (λ f. HasReadInto partial outer fold Gives f (ss ++ item) a.0) (sym push.fold_is) (push.reads ss h)) a.2 in (
        more.0 ∙ push.fold_is,
        subst (λ z. HasReadInto partial outer fold Gives (fold k) z new) (append_assoc ss item (symbols_of_pairs ps))
            (subst (λ f. HasReadInto partial outer fold Gives f ((ss ++ item) ++ symbols_of_pairs ps) new) push.fold_is more.1),
      )

  module _ {T C : Type 0} (IsTerm : T → TermOutput P O Q M → Type 0) (IsBinary : C → Binary B → Type 0) (CanPush : K → Type 0) where
    evaluated_one : (t : T) (us : List (C × T)) (f : L) (term : TermOutput P O Q M) (begun k : K) (r : Result O X) → IsTerm t term →
        HasReadInto partial outer fold Gives f (symbols_of_term term) begun → fold begun ≡ f →
        Accumulated (PairPushes partial outer fold Gives) CanPush (λ u o. IsBinary u.0 o.0 × IsTerm u.1 o.1) (Some begun) us k →
        ((ss : List (Symbol (Unary P) O (Unary Q) (Binary B))) → HasReadInto partial outer fold Gives (fold k) ss k → IsValueOf (Gives (fold k)) ss r) →
        IsEvaluated IsTerm IsBinary (Gives f) (t, us) r
    evaluated_one t us f term begun k r is h e acc v =
        let same : begun ≡ acc.first = some_same begun acc.first acc.first_is in
        let first = subst (λ z. HasReadInto partial outer fold Gives (fold z) (symbols_of_term term) z) same
        (subst (λ z. HasReadInto partial outer fold Gives z (symbols_of_term term) begun) (sym e) h) in
        let all = eval_adds (symbols_of_term term) acc.first acc.outputs k first acc.added in
        let fold_is : fold k ≡ f = all.0 ∙ (ap fold (sym same) ∙ e) in
        record {
          first = term;
          is_first = is;
          pairs = acc.outputs;
          are_pairs = acc.are_outputs;
          is_value = subst (λ z. IsValueOf (Gives z) (symbols_of_term term ++ symbols_of_pairs acc.outputs) r) fold_is
              (v (symbols_of_term term ++ symbols_of_pairs acc.outputs)
              (subst (λ z. HasReadInto partial outer fold Gives z (symbols_of_term term ++ symbols_of_pairs acc.outputs) k) (sym all.0) all.1));
        }

    -- the value of a first term and of pairs
    pub evaluated_built : (t : T) (us : List (C × T)) (f : L) (first : Option (TermOutput P O Q M)) (term : TermOutput P O Q M) (begun k : K)
        (all : Option K) (r : Result O X) → first ≡ Some term → Built true (IsTerm t) first →
        HasReadInto partial outer fold Gives f (symbols_of_term term) begun → fold begun ≡ f → all ≡ Some k →
        Built true (Accumulated (PairPushes partial outer fold Gives) CanPush (λ u o. IsBinary u.0 o.0 × IsTerm u.1 o.1) (Some begun) us) all →
        ((ss : List (Symbol (Unary P) O (Unary Q) (Binary B))) → HasReadInto partial outer fold Gives (fold k) ss k → IsValueOf (Gives (fold k)) ss r) →
        Built true (IsEvaluated IsTerm IsBinary (Gives f) (t, us)) (Some r)
    evaluated_built t us f first term begun k all r e b h o q a v =
        let same : term ≡ b.0 = some_same term b.0 (sym e ∙ b.1) in
        let at : a.0 ≡ k = some_same a.0 k (sym a.1 ∙ q) in (
          r,
          refl,
          evaluated_one t us f term begun k r (subst (IsTerm t) (sym same) b.2) h o
              (subst (λ z. Accumulated (PairPushes partial outer fold Gives) CanPush (λ u x. IsBinary u.0 x.0 × IsTerm u.1 x.1) (Some begun) us z) at a.2) v,
        )

-- what is there is known
pub that_is : {X : Type 0} (Fact : X → Type 0) (x : Option X) (y : X) → x ≡ Some y → OfThat x Fact → Fact y
that_is Fact x y e h = subst (λ z. OfThat z Fact) e h

-- the same term
pub as_term : {P O Q B : Type 0} (Fact : List (Symbol P O Q B) → Type 0) {ps qs : List P} {o p : O} {xs ys : List Q} → ps ≡ qs → o ≡ p → xs ≡ ys →
    Fact (term_symbols ps o xs) → Fact (term_symbols qs p ys)
as_term Fact {ps} {qs} {o} {p} {xs} {ys} e f g h = subst (λ z. Fact (term_symbols qs p z)) g (subst (λ z. Fact (term_symbols qs z xs)) f
    (subst (λ z. Fact (term_symbols z o xs)) e h))
