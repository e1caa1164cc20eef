-- Lemmas on the steps over a term and pairs: they keep the spine, and at the end leave the value of the tree.
use Rattle.std.specs.Prelude.{◌≡◌, ℕ, Bool, List, [], ◌∷◌, ◌++◌, refl}
use Rattle.std.specs.List.{AllZip}
use Rattle.std.proofs.Common.{sym, subst, append_assoc, append-nil}
use Rattle.nom_operators.specs.Closes.{Closes, UnderInnermost}
use Rattle.nom_operators.proofs.Spine.{Joins, Reads, Holds, Closing, reads_first, reads_more, closing_none, closing_more, holds_none, holds_joined, holds_all}
use Rattle.nom_operators.specs.Steps.{Joined, Pushed, Runs, Made}
use Rattle.nom_operators.specs.Steps.Joined.{NoneJoined, OneJoined}

module _ {T B X C : Type 0} (level : B → ℕ) (left : ℕ → Bool) (StandsFor : T → List (B × T) → X → Type 0) (IsOperator : B → C → Type 0)
    (Gives : X → C → X → X → Type 0) (j : Joins level left StandsFor IsOperator Gives) where
  -- joins keep what is held
  joined_holds : (Fact : C → Type 0) (t : T) (ps : List (B × T)) (s : List (X × C)) (x : X) (r : List (X × C)) (y : X) →
      Holds level left StandsFor IsOperator t ps s x → Joined Gives Fact s x r y → Holds level left StandsFor IsOperator t ps r y
  joined_holds Fact t ps s x _ _ h (NoneJoined r y e f) = subst (λ z. Holds level left StandsFor IsOperator t ps r z) f
      (subst (λ z. Holds level left StandsFor IsOperator t ps z x) e h)
  joined_holds Fact t ps s x _ _ h (OneJoined r l y z c p f g) = holds_joined level left StandsFor IsOperator Gives j t ps r l c y z
      (joined_holds Fact t ps s x ((l, c) ∷ r) y h p) g

  -- at the end, with all operators joined, the value stands for all that was read
  pub reads_all : (Fact : C → Type 0) (t : T) (ps : List (B × T)) (s : List (X × C)) (x y : X) → Reads level left StandsFor IsOperator t ps s x →
      Joined Gives Fact s x [] y → StandsFor t ps y
  reads_all Fact t ps s x y h p = holds_all level left StandsFor IsOperator t ps y
      (joined_holds Fact t ps s x [] y (holds_none level left StandsFor IsOperator t ps s x h) p)

  module _ (of : C → ℕ) (says : (o : B) (c : C) → IsOperator o c → of c ≡ level o) where
    joined_closing : (k : ℕ) (t : T) (ps : List (B × T)) (s : List (X × C)) (x : X) (r : List (X × C)) (y : X) →
        Closing level left StandsFor IsOperator k t ps s x → Joined Gives (λ d. Closes left k (of d)) s x r y →
        Closing level left StandsFor IsOperator k t ps r y
    joined_closing k t ps s x _ _ h (NoneJoined r y e f) = subst (λ z. Closing level left StandsFor IsOperator k t ps r z) f
        (subst (λ z. Closing level left StandsFor IsOperator k t ps z x) e h)
    joined_closing k t ps s x _ _ h (OneJoined r l y z c p f g) = closing_more level left StandsFor IsOperator Gives j of says k t ps r l c y z
        (joined_closing k t ps s x ((l, c) ∷ r) y h p) f g

    -- a step
    pub reads_pushed : (t : T) (ps : List (B × T)) (s : List (X × C)) (x : X) (q : B) (u : T) (c : C) (y : X) (r : List (X × C)) (z : X) →
        Reads level left StandsFor IsOperator t ps s x → IsOperator q c → StandsFor u [] y → Pushed left of Gives s x c y r z →
        Reads level left StandsFor IsOperator t (ps ++ (q, u) ∷ []) r z
    reads_pushed t ps s x q u c y r z h is v p =
        let same : of c ≡ level q = says q c is in
        let closing = joined_closing (of c) t ps s x p.below p.joined (closing_none level left StandsFor IsOperator (of c) t ps s x h) p.joins in
        let more = reads_more level left StandsFor IsOperator of says q u c t ps p.below p.joined y
        (subst (λ k. Closing level left StandsFor IsOperator k t ps p.below p.joined) same closing)
        (subst (λ k. UnderInnermost left of k p.below) same p.under) is v in
        subst (λ k. Reads level left StandsFor IsOperator t (ps ++ (q, u) ∷ []) r k) (sym p.value_is)
        (subst (λ k. Reads level left StandsFor IsOperator t (ps ++ (q, u) ∷ []) k y) (sym p.stack_is) more)

    -- an output of a pair: the operator's with its level, and a value of the term
    abbrev pub IsPair : B × T → C × X → Type 0
    IsPair p o = IsOperator p.0 o.0 × StandsFor p.1 [] o.1

    -- and all pairs in turn
    reads_runs : (t : T) (ps vs : List (B × T)) (s : List (X × C)) (x : X) (items : List (C × X)) (r : List (X × C)) (y : X) →
        Reads level left StandsFor IsOperator t ps s x → AllZip IsPair vs items → Runs left of Gives s x items r y →
        Reads level left StandsFor IsOperator t (ps ++ vs) r y
    reads_runs t ps [] s x [] r y h z a = subst (λ q. Reads level left StandsFor IsOperator t q r y) (sym (append-nil ps))
        (subst (λ q. Reads level left StandsFor IsOperator t ps q y) (sym a.0) (subst (λ q. Reads level left StandsFor IsOperator t ps s q) (sym a.1) h))
    reads_runs t ps [] s x (i ∷ is) r y h z a = absurd z
    reads_runs t ps (v ∷ vs) s x [] r y h z a = absurd z
    reads_runs t ps (v ∷ vs) s x (i ∷ is) r y h z a = subst (λ q. Reads level left StandsFor IsOperator t q r y) (append_assoc ps (v ∷ []) vs)
        (reads_runs t (ps ++ v ∷ []) vs a.0 a.1 is r y (reads_pushed t ps s x v.0 v.1 i.0 i.1 a.0 a.1 h (z.0).0 (z.0).1 a.2) z.1 a.3)

    -- the value at the end stands for the first term and all pairs
    pub made_stands : (t : T) (vs : List (B × T)) (items : List (C × X)) (x y : X) → StandsFor t [] x → AllZip IsPair vs items →
        Made left of Gives x items y → StandsFor t vs y
    made_stands t vs items x y h z m = reads_all (λ _. Unit {0}) t vs m.stack m.after y
        (reads_runs t [] vs [] x items m.stack m.after (reads_first level left StandsFor IsOperator t x h) z m.runs) m.joined

-- one step more
pub runs_more : {X C : Type 0} (left : ℕ → Bool) (of : C → ℕ) (Gives : X → C → X → X → Type 0) (s : List (X × C)) (x : X) (ps : List (C × X))
    (r : List (X × C)) (y : X) (p : C × X) (q : List (X × C)) (z : X) → Runs left of Gives s x ps r y → Pushed left of Gives r y p.0 p.1 q z →
    Runs left of Gives s x (ps ++ p ∷ []) q z
runs_more left of Gives s x [] r y p q z a h = (
  q,
  z,
  subst (λ u. Pushed left of Gives u x p.0 p.1 q z) a.0
      (subst (λ u. Pushed left of Gives r u p.0 p.1 q z) a.1 h),
  (refl, refl),
)
runs_more left of Gives s x (i ∷ is) r y p q z a h = (a.0, a.1, a.2, runs_more left of Gives a.0 a.1 is r y p q z a.3 h)
