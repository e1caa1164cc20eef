-- A term and pairs have one tree.
use Rattle.std.specs.Prelude.{◌≡◌, ℕ, ◌<◌, ◌≤◌, Bool, true, false, List, [], ◌∷◌, ◌++◌, refl}
use Rattle.std.proofs.Common.{arith, sym, ◌∙◌, ap, subst}
use Rattle.nom_operators.specs.Trees.{Tree, Levels, Parts, IsRoot, IsTree}
use Rattle.nom_operators.specs.Trees.Tree.{Leaf, Node}

-- two places in a list: the same, or the second after the first, or before it
pub data TwoPlaces {A : Type 0} (b c : List A) (x y : A) (a d : List A) : Type 0 where
  Same : b ≡ c → x ≡ y → a ≡ d → TwoPlaces b c x y a d
  After : (m : List A) → c ≡ b ++ x ∷ m → a ≡ m ++ y ∷ d → TwoPlaces b c x y a d
  Before : (m : List A) → b ≡ c ++ y ∷ m → d ≡ m ++ x ∷ a → TwoPlaces b c x y a d

one_place_more : {A : Type 0} (z z' : A) (b c : List A) (x y : A) (a d : List A) → z ≡ z' → TwoPlaces b c x y a d → TwoPlaces (z ∷ b) (z' ∷ c) x y a d
one_place_more z z' b c x y a d e (Same p q r) = Same (cc (e, p)) q r
one_place_more z z' b c x y a d e (After m p q) = After m (cc (e, p)) q
one_place_more z z' b c x y a d e (Before m p q) = Before m (cc (e, p)) q

pub two_places : {A : Type 0} (b c : List A) (x y : A) (a d : List A) → b ++ x ∷ a ≡ c ++ y ∷ d → TwoPlaces b c x y a d
two_places [] [] x y a d e = Same refl (cc) (cc)
two_places [] (z ∷ c) x y a d e = After c (cc) (cc)
two_places (z ∷ b) [] x y a d e = Before b (cc) (cc)
two_places (z ∷ b) (z' ∷ c) x y a d e =
    let heads : z ≡ z' = cc in
    let tails : b ++ x ∷ a ≡ c ++ y ∷ d = cc in
    one_place_more z z' b c x y a d heads (two_places b c x y a d tails)

module _ {T B : Type 0} (level : B → ℕ) where
  -- what holds of all holds of one, and of those on either side
  pub level_of : (Fact : ℕ → Type 0) (b : List (B × T)) (p : B × T) (a : List (B × T)) → Levels level Fact (b ++ p ∷ a) → Fact (level p.0)
  level_of Fact [] p a h = h.0
  level_of Fact (x ∷ b) p a h = level_of Fact b p a h.1

  pub levels_append : (Fact : ℕ → Type 0) (b a : List (B × T)) → Levels level Fact b → Levels level Fact a → Levels level Fact (b ++ a)
  levels_append Fact [] a h k = k
  levels_append Fact (x ∷ b) a h k = (h.0, levels_append Fact b a h.1 k)

  pub levels_map : (Fact Said : ℕ → Type 0) → ((k : ℕ) → Fact k → Said k) → (b : List (B × T)) → Levels level Fact b → Levels level Said b
  levels_map Fact Said f [] h = tt
  levels_map Fact Said f (x ∷ b) h = (f (level x.0) h.0, levels_map Fact Said f b h.1)

  -- of two roots, the second after the first: there are none
  clash : (x y : Bool) (j k : ℕ) (b m d : List (B × T)) (o q : B × T) → level o.0 ≡ j → level q.0 ≡ k → (j ≡ k → x ≡ y) →
      Parts level x j b (m ++ q ∷ d) → Parts level y k (b ++ o ∷ m) d → ⊥
  clash true true j k b m d o q e f s g h = omega (arith, e, f, level_of (λ i. i < j) m q d g.1, level_of (λ i. i ≤ k) b o m h.0)
  clash true false j k b m d o q e f s g h = omega (arith, e, f, level_of (λ i. i < j) m q d g.1, level_of (λ i. i < k) b o m h.0)
  clash false false j k b m d o q e f s g h = omega (arith, e, f, level_of (λ i. i ≤ j) m q d g.1, level_of (λ i. i < k) b o m h.0)
  clash false true j k b m d o q e f s g h =
      let same : j ≡ k = omega (arith, e, f, level_of (λ i. i ≤ j) m q d g.1, level_of (λ i. i ≤ k) b o m h.0) in
      let no : false ≡ true = s same in cc

module _ {T B : Type 0} (level : B → ℕ) (left : ℕ → Bool) where
  root_clash : (b m d : List (B × T)) (o q : B × T) → IsRoot level left b o.0 (m ++ q ∷ d) → IsRoot level left (b ++ o ∷ m) q.0 d → ⊥
  root_clash b m d o q g h = clash level (left (level o.0)) (left (level q.0)) (level o.0) (level q.0) b m d o q refl refl (λ e. ap left e) g h

  -- two roots of one list of pairs stand at one place
  pub one_root : (b c : List (B × T)) (x y : B × T) (a d : List (B × T)) → b ++ x ∷ a ≡ c ++ y ∷ d → IsRoot level left b x.0 a →
      IsRoot level left c y.0 d → (b ≡ c) × (x ≡ y) × (a ≡ d)
  one_root b c x y a d e g h = by (two_places b c x y a d e)
    where
      by : TwoPlaces b c x y a d → (b ≡ c) × (x ≡ y) × (a ≡ d)
      by (Same p q r) = (p, q, r)
      by (After m p q) = absurd (root_clash b m d x y (subst (λ z. IsRoot level left b x.0 z) q g) (subst (λ z. IsRoot level left z y.0 d) p h))
      by (Before m p q) = absurd (root_clash c m a y x (subst (λ z. IsRoot level left c y.0 z) q h) (subst (λ z. IsRoot level left z x.0 a) p g))

  not_empty : (b : List (B × T)) (x : B × T) (a : List (B × T)) → [] ≡ b ++ x ∷ a → ⊥
  not_empty [] x a e = cc
  not_empty (y ∷ b) x a e = cc

  pub one_tree : (t : T) (ps : List (B × T)) (x y : Tree T B) → IsTree level left t ps x → IsTree level left t ps y → x ≡ y
  one_tree t ps (Leaf u) (Leaf v) g h = ap Leaf (g.1 ∙ sym h.1)
  one_tree t ps (Leaf u) (Node l o r) g h = absurd (not_empty h.0 (o, h.1) h.2 (sym g.0 ∙ h.3))
  one_tree t ps (Node l o r) (Leaf u) g h = absurd (not_empty g.0 (o, g.1) g.2 (sym h.0 ∙ g.3))
  one_tree t ps (Node l o r) (Node l' o' r') g h =
      let e = one_root g.0 h.0 (o, g.1) (o', h.1) g.2 h.2 (sym g.3 ∙ h.3) g.4 h.4 in
      let ops : o ≡ o' = ap (λ p. p.0) e.1 in
      let terms : h.1 ≡ g.1 = sym (ap (λ p. p.1) e.1) in
      let lefts : l ≡ l' = one_tree t g.0 l l' g.5 (subst (λ z. IsTree level left t z l') (sym e.0) h.5) in
      let rights : r ≡ r' = one_tree g.1 g.2 r r' g.6 (subst (λ z. IsTree level left g.1 z r') (sym e.2) (subst (λ z. IsTree level left z h.2 r') terms h.6)) in
      cc (ops, lefts, rights)
