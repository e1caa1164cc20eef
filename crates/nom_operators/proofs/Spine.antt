-- The machine of operators: a stack of those whose right side isn't read to its end, each with what stands on its left, the innermost
-- first; and the value of what was read after the innermost.
--
-- The stack is the right spine of the tree of what was read: that is the invariant. A new operator closes the innermost ones whose
-- right side ends before it, each of which joins the values on its sides; then it is put on the stack, and the value is that of its
-- term. At the end all are closed.
use Rattle.std.specs.Prelude.{◌≡◌, ℕ, ◌<◌, ◌≤◌, ◌⊎◌, Bool, true, false, List, [], ◌∷◌, ◌++◌, refl}
use Rattle.std.proofs.Common.{arith, sym, ◌∙◌, ap, subst, append_assoc, inl, inr}
use Rattle.std.proofs.Math.Nat.{eq-or-lt_of_le}
use Rattle.nom_operators.specs.Trees.{Levels, Parts, IsRoot}
use Rattle.nom_operators.specs.Closes.{Closes, GoesUnder, UnderInnermost}
use Rattle.nom_operators.specs.laws.TreeLaws.{level_of, levels_append, levels_map}

-- What values stand for: a term and pairs. Values of both sides of a root, joined by it, give one of the whole.
pub record Joins {T B X C : Type 0} (level : B → ℕ) (left : ℕ → Bool) (StandsFor : T → List (B × T) → X → Type 0) (IsOperator : B → C → Type 0)
    (Gives : X → C → X → X → Type 0) : Type 0 where
  pub joins : (t : T) (before : List (B × T)) (o : B) (u : T) (after : List (B × T)) (x : X) (c : C) (y z : X) → IsRoot level left before o after →
      StandsFor t before x → IsOperator o c → StandsFor u after y → Gives x c y z → StandsFor t (before ++ (o, u) ∷ after) z

module _ {T B X C : Type 0} (level : B → ℕ) (left : ℕ → Bool) (StandsFor : T → List (B × T) → X → Type 0) (IsOperator : B → C → Type 0) where
  -- Of the term t and the pairs ps that were read, those after the innermost operator of the stack are the term v and the pairs qs.
  abbrev pub IsSpine : T → List (B × T) → List (X × C) → T → List (B × T) → Type 0
  IsSpine t ps [] v qs = (v ≡ t) × (ps ≡ qs)
  IsSpine t ps (e ∷ s) v qs = (u : T) × (before : List (B × T)) × (o : B) × IsSpine t ps s u (before ++ (o, v) ∷ qs) × IsRoot level left before o qs ×
      StandsFor u before e.0 × IsOperator o e.1

  -- Between two pairs: after the innermost operator stands the last term alone.
  pub record Reads (t : T) (ps : List (B × T)) (s : List (X × C)) (x : X) : Type 0 where
    pub term : T
    pub spine : IsSpine t ps s term []
    pub value : StandsFor term [] x

  -- while operators are closed: the value is that of all that stands after the innermost
  pub record Holds (t : T) (ps : List (B × T)) (s : List (X × C)) (x : X) : Type 0 where
    pub term : T
    pub pairs : List (B × T)
    pub spine : IsSpine t ps s term pairs
    pub value : StandsFor term pairs x

  -- while an operator of the level k is put in, those after the innermost on the stack are closed by it
  pub record Closing (k : ℕ) (t : T) (ps : List (B × T)) (s : List (X × C)) (x : X) : Type 0 where
    pub held : Holds t ps s x
    pub closed : Parts level (left k) k held.pairs []

module _ {T B X C : Type 0} (level : B → ℕ) (left : ℕ → Bool) (StandsFor : T → List (B × T) → X → Type 0) (IsOperator : B → C → Type 0) where
  -- a first term
  pub reads_first : (t : T) (x : X) → StandsFor t [] x → Reads level left StandsFor IsOperator t [] [] x
  reads_first t x h = record { term = t; spine = (refl, refl); value = h }

  -- the end: nothing is closed yet
  pub holds_none : (t : T) (ps : List (B × T)) (s : List (X × C)) (x : X) → Reads level left StandsFor IsOperator t ps s x →
      Holds level left StandsFor IsOperator t ps s x
  holds_none t ps s x h = record { term = h.term; pairs = []; spine = h.spine; value = h.value }

  -- the innermost operator joins the values on its sides
  pub holds_joined : (Gives : X → C → X → X → Type 0) → Joins level left StandsFor IsOperator Gives →
      (t : T) (ps : List (B × T)) (s : List (X × C)) (l : X) (c : C) (x y : X) → Holds level left StandsFor IsOperator t ps ((l, c) ∷ s) x →
      Gives l c x y → Holds level left StandsFor IsOperator t ps s y
  holds_joined Gives j t ps s l c x y h g =
      let z = h.spine in
      record {
        term = z.0;
        pairs = z.1 ++ (z.2, h.term) ∷ h.pairs;
        spine = z.3;
        value = j.joins z.0 z.1 z.2 h.term h.pairs l c x y z.4 z.5 z.6 h.value g;
      }

  -- at the end, with nothing on the stack, the value is that of all
  pub holds_all : (t : T) (ps : List (B × T)) (x : X) → Holds level left StandsFor IsOperator t ps [] x → StandsFor t ps x
  holds_all t ps x h = subst (λ z. StandsFor z ps x) (h.spine).0 (subst (λ z. StandsFor h.term z x) (sym (h.spine).1) h.value)

  parts_none : (b : Bool) (k : ℕ) → Parts {T = T} level b k [] []
  parts_none true k = (tt, tt)
  parts_none false k = (tt, tt)

  -- no operator has a greater level than the root
  root_greatest : (b : Bool) (j : ℕ) (o : B) (u : T) (before after : List (B × T)) → level o ≡ j → Parts level b j before after →
      Levels level (λ i. i ≤ j) (before ++ (o, u) ∷ after)
  root_greatest true j o u before after e h = levels_append level (λ i. i ≤ j) before ((o, u) ∷ after) h.0
      (omega (arith, e), levels_map level (λ i. i < j) (λ i. i ≤ j) (λ i z. omega (arith, z)) after h.1)
  root_greatest false j o u before after e h = levels_append level (λ i. i ≤ j) before ((o, u) ∷ after)
      (levels_map level (λ i. i < j) (λ i. i ≤ j) (λ i z. omega (arith, z)) before h.0) (omega (arith, e), h.1)

  -- after all those that it closes an operator is a root
  closes_parts : (b : Bool) (k j : ℕ) (ps : List (B × T)) → left k ≡ b → Closes left k j → Levels level (λ i. i ≤ j) ps → Parts level b k ps []
  closes_parts true k j ps p (inl c) h = (levels_map level (λ i. i ≤ j) (λ i. i ≤ k) (λ i z. omega (arith, c, z)) ps h, tt)
  closes_parts true k j ps p (inr c) h = (levels_map level (λ i. i ≤ j) (λ i. i ≤ k) (λ i z. omega (arith, c.0, z)) ps h, tt)
  closes_parts false k j ps p (inl c) h = (levels_map level (λ i. i ≤ j) (λ i. i < k) (λ i z. omega (arith, c, z)) ps h, tt)
  closes_parts false k j ps p (inr c) h = let no : false ≡ true = sym p ∙ c.1 in absurd (cc)

  -- a root stays it, where another operator goes under it
  under_parts : (b : Bool) (k j : ℕ) (q : B) (u : T) (before after : List (B × T)) → level q ≡ k → left j ≡ b → GoesUnder left k j →
      Parts level b j before after → Parts level b j before (after ++ (q, u) ∷ [])
  under_parts true k j q u before after e p (inl c) h = (h.0, levels_append level (λ i. i < j) after ((q, u) ∷ []) h.1 (omega (arith, e, c), tt))
  under_parts true k j q u before after e p (inr c) h = let no : true ≡ false = sym p ∙ (ap left c.0 ∙ c.1) in absurd (cc)
  under_parts false k j q u before after e p (inl c) h = (h.0, levels_append level (λ i. i ≤ j) after ((q, u) ∷ []) h.1 (omega (arith, e, c), tt))
  under_parts false k j q u before after e p (inr c) h = (h.0, levels_append level (λ i. i ≤ j) after ((q, u) ∷ []) h.1 (omega (arith, e, c.0), tt))

  -- what goes under an operator goes under the one outside it too
  under_outer : (b : Bool) (k i j : ℕ) (o : B) (v : T) (before m d : List (B × T)) → level o ≡ j → left i ≡ b → GoesUnder left k j →
      Parts level b i before (m ++ (o, v) ∷ d) → GoesUnder left k i
  under_outer true k i j o v before m d e p (inl c) h = inl (omega (arith, c, e, level_of level (λ n. n < i) m (o, v) d h.1))
  under_outer true k i j o v before m d e p (inr c) h = inl (omega (arith, c.0, e, level_of level (λ n. n < i) m (o, v) d h.1))
  under_outer false k i j o v before m d e p (inl c) h = inl (omega (arith, c, e, level_of level (λ n. n ≤ i) m (o, v) d h.1))
  under_outer false k i j o v before m d e p (inr c) h = by (eq-or-lt_of_le (level_of level (λ n. n ≤ i) m (o, v) d h.1))
    where
      by : (level o ≡ i) ⊎ (level o < i) → GoesUnder left k i
      by (inl f) = let same : i ≡ k = omega (arith, f, e, c.0) in inr (same, ap left (sym same) ∙ p)
      by (inr f) = inl (omega (arith, f, e, c.0))

  -- the spine goes on after it
  spine_more : (of : C → ℕ) → ((o : B) (c : C) → IsOperator o c → of c ≡ level o) → (k : ℕ) (q : B) (u : T) → level q ≡ k →
      (t : T) (ps : List (B × T)) (s : List (X × C)) (v : T) (qs : List (B × T)) → IsSpine level left StandsFor IsOperator t ps s v qs →
      UnderInnermost left of k s → IsSpine level left StandsFor IsOperator t (ps ++ (q, u) ∷ []) s v (qs ++ (q, u) ∷ [])
  spine_more of says k q u is t ps [] v qs h n = (h.0, ap (λ z. z ++ (q, u) ∷ []) h.1)
  spine_more of says k q u is t ps (e ∷ s) v qs h n =
      let o = h.2 in
      let under : GoesUnder left k (level o) = subst (λ z. GoesUnder left k z) (says o e.1 h.6) n in
      let outer = spine_more of says k q u is t ps s h.0 (h.1 ++ (o, v) ∷ qs) h.3 (next o under h.0 h.1 v qs s h.3) in (
        h.0,
        h.1,
        o,
        subst (λ z. IsSpine level left StandsFor IsOperator t (ps ++ (q, u) ∷ []) s h.0 z) (append_assoc h.1 ((o, v) ∷ qs) ((q, u) ∷ []))
            outer,
        under_parts (left (level o)) k (level o) q u h.1 qs is refl under h.4,
        h.5,
        h.6,
      )
    where
      next : (o : B) → GoesUnder left k (level o) → (w : T) (before : List (B × T)) (v' : T) (qs' : List (B × T)) (s' : List (X × C)) →
          IsSpine level left StandsFor IsOperator t ps s' w (before ++ (o, v') ∷ qs') → UnderInnermost left of k s'
      next o under w before v' qs' [] z = tt
      next o under w before v' qs' (f ∷ s') z = subst (λ y. GoesUnder left k y) (sym (says z.2 f.1 z.6))
          (under_outer (left (level z.2)) k (level z.2) (level o) o v' z.1 before qs' refl refl under z.4)

  -- a new operator comes: nothing is closed yet
  pub closing_none : (k : ℕ) (t : T) (ps : List (B × T)) (s : List (X × C)) (x : X) → Reads level left StandsFor IsOperator t ps s x →
      Closing level left StandsFor IsOperator k t ps s x
  unfolding holds_none
  closing_none k t ps s x h = record { held = holds_none t ps s x h; closed = parts_none (left k) k }

  -- it closes the innermost
  pub closing_more : (Gives : X → C → X → X → Type 0) → Joins level left StandsFor IsOperator Gives → (of : C → ℕ) →
      ((o : B) (c : C) → IsOperator o c → of c ≡ level o) → (k : ℕ) (t : T) (ps : List (B × T)) (s : List (X × C)) (l : X) (c : C) (x y : X) →
      Closing level left StandsFor IsOperator k t ps ((l, c) ∷ s) x → Closes left k (of c) → Gives l c x y → Closing level left StandsFor IsOperator k t ps s y
  unfolding holds_joined
  closing_more Gives j of says k t ps s l c x y h z g =
      let held = h.held in
      let r = held.spine in
      record {
        held = holds_joined Gives j t ps s l c x y held g;
        closed = closes_parts (left k) k (level r.2) (r.1 ++ (r.2, held.term) ∷ held.pairs) refl (subst (λ n. Closes left k n) (says r.2 c r.6) z)
            (root_greatest (left (level r.2)) (level r.2) r.2 held.term r.1 held.pairs refl r.4);
      }

  -- It goes under the innermost that is left: then it is put on the stack with what was joined, and its term stands after it.
  pub reads_more : (of : C → ℕ) → ((o : B) (c : C) → IsOperator o c → of c ≡ level o) →
      (q : B) (u : T) (c : C) (t : T) (ps : List (B × T)) (s : List (X × C)) (x y : X) → Closing level left StandsFor IsOperator (level q) t ps s x →
      UnderInnermost left of (level q) s → IsOperator q c → StandsFor u [] y → Reads level left StandsFor IsOperator t (ps ++ (q, u) ∷ []) ((x, c) ∷ s) y
  reads_more of says q u c t ps s x y h n is z =
      let held = h.held in
      record {
        term = u;
        spine = (held.term, held.pairs, q, spine_more of says (level q) q u refl t ps s held.term held.pairs held.spine n, h.closed, held.value, is);
        value = z;
      }
