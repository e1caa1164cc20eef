-- The machine on trees: what it makes of a term and pairs is their tree.
use Rattle.std.specs.Prelude.{◌≡◌, ℕ, ◌<◌, ◌⊎◌, Bool, true, false, List, [], ◌∷◌, ◌++◌, refl}
use Rattle.std.proofs.Common.{sym, subst, inl, inr, append_assoc, append-nil}
use Rattle.std.proofs.lemmas.Bool.{cases_Bool, cases_order}
use Rattle.nom_operators.specs.Trees.{Tree, IsTree}
use Rattle.nom_operators.specs.Trees.Tree.{Leaf, Node}
use Rattle.nom_operators.specs.laws.TreeLaws.{one_tree}
use Rattle.nom_operators.specs.Closes.{Closes, GoesUnder, UnderInnermost}
use Rattle.nom_operators.proofs.Spine.{Joins, Reads, Holds, Closing, reads_first, reads_more, holds_none, holds_joined, holds_all, closing_none, closing_more}

abbrev IsSame : {B : Type 0} → B → B → Type 0
IsSame o c = o ≡ c

abbrev IsJoined : {T B : Type 0} → Tree T B → B → Tree T B → Tree T B → Type 0
IsJoined l c r y = y ≡ Node l c r

says : {B : Type 0} (level : B → ℕ) (o c : B) → IsSame o c → level c ≡ level o
says level o c e = subst (λ z. level z ≡ level o) e refl

pub closes_or_under : (left : ℕ → Bool) (k j : ℕ) → Closes left k j ⊎ GoesUnder left k j
closes_or_under left k j = by (cases_order j k) (cases_Bool (left k))
  where
    by : (j ≡ k) ⊎ ((j < k) ⊎ (k < j)) → (left k ≡ true) ⊎ (left k ≡ false) → Closes left k j ⊎ GoesUnder left k j
    by (inl e) (inl b) = inl (inr (e, b))
    by (inl e) (inr b) = inr (inr (e, b))
    by (inr (inl c)) b = inl (inl c)
    by (inr (inr c)) b = inr (inl c)

module _ {T B : Type 0} (level : B → ℕ) (left : ℕ → Bool) where
  -- the innermost operator of a stack is closed, or stays
  close_by : (k : ℕ) (c : B) → List (Tree T B × B) × Tree T B → List (Tree T B × B) × Tree T B → Closes left k (level c) ⊎ GoesUnder left k (level c) →
      List (Tree T B × B) × Tree T B
  close_by k c closed stays (inl z) = closed
  close_by k c closed stays (inr z) = stays

  -- an operator of the level k closes what it ends
  close : ℕ → List (Tree T B × B) → Tree T B → List (Tree T B × B) × Tree T B
  close k [] x = ([], x)
  close k (e ∷ s) x = close_by k e.1 (close k s (Node e.0 e.1 x)) (e ∷ s, x) (closes_or_under left k (level e.1))

  close_all : List (Tree T B × B) → Tree T B → Tree T B
  close_all [] x = x
  close_all (e ∷ s) x = close_all s (Node e.0 e.1 x)

  run : List (Tree T B × B) → Tree T B → List (B × T) → Tree T B
  run s x [] = close_all s x
  run s x (p ∷ ps) = let c = close (level p.0) s x in run ((c.1, p.0) ∷ c.0) (Leaf p.1) ps

  pub tree_of : T → List (B × T) → Tree T B
  tree_of t ps = run [] (Leaf t) ps

  -- trees stand for a term and pairs, and a root joins the trees on its sides
  pub trees_join : Joins {T = T} {B = B} {X = Tree T B} {C = B} level left (IsTree level left) IsSame IsJoined
  trees_join = record {
    joins = λ t before o u after x c y z root l is r e. subst (λ n. IsTree level left t (before ++ (o, u) ∷ after) n) (sym e)
        (subst (λ n. IsTree level left t (before ++ (o, u) ∷ after) (Node x n y)) is (before, u, after, refl, root, l, r));
  }

  -- closing leaves the spine, with nothing that is closed
  Closed : ℕ → T → List (B × T) → List (Tree T B × B) × Tree T B → Type 0
  Closed k t ps c = Closing level left (IsTree level left) IsSame k t ps c.0 c.1 × UnderInnermost left level k c.0

  close_closes : (k : ℕ) (t : T) (ps : List (B × T)) (s : List (Tree T B × B)) (x : Tree T B) →
      Closing level left (IsTree level left) IsSame k t ps s x → Closed k t ps (close k s x)
  unfolding Closed close close_by
  close_closes k t ps [] x h = (h, tt)
  close_closes k t ps (e ∷ s) x h = by (closes_or_under left k (level e.1))
      (λ z. close_closes k t ps s (Node e.0 e.1 x) (closing_more level left (IsTree level left) IsSame IsJoined trees_join
      level (says level) k t ps s e.0 e.1 x (Node e.0 e.1 x) h z refl))
    where
      by : (d : Closes left k (level e.1) ⊎ GoesUnder left k (level e.1)) → (Closes left k (level e.1) → Closed k t ps (close k s (Node e.0 e.1 x))) →
          Closed k t ps (close_by k e.1 (close k s (Node e.0 e.1 x)) (e ∷ s, x) d)
      by (inl z) f = f z
      by (inr z) f = (h, z)

  all_closed : (t : T) (ps : List (B × T)) (s : List (Tree T B × B)) (x : Tree T B) → Holds level left (IsTree level left) IsSame t ps s x →
      IsTree level left t ps (close_all s x)
  unfolding close_all
  all_closed t ps [] x h = holds_all level left (IsTree level left) IsSame t ps x h
  all_closed t ps (e ∷ s) x h = all_closed t ps s (Node e.0 e.1 x) (holds_joined level left (IsTree level left) IsSame IsJoined trees_join
      t ps s e.0 e.1 x (Node e.0 e.1 x) h refl)

  runs_on : (t : T) (qs ps : List (B × T)) (s : List (Tree T B × B)) (x : Tree T B) → Reads level left (IsTree level left) IsSame t qs s x →
      IsTree level left t (qs ++ ps) (run s x ps)
  unfolding run Closed
  runs_on t qs [] s x h = subst (λ z. IsTree level left t z (close_all s x)) (sym (append-nil qs))
      (all_closed t qs s x (holds_none level left (IsTree level left) IsSame t qs s x h))
  runs_on t qs (p ∷ ps) s x h =
      let c = close (level p.0) s x in
      let closed = close_closes (level p.0) t qs s x (closing_none level left (IsTree level left) IsSame (level p.0) t qs s x h) in
      let more = reads_more level left (IsTree level left) IsSame level (says level) p.0 p.1 p.0 t qs c.0 c.1 (Leaf p.1) closed.0 closed.1 refl (refl, refl) in
      subst (λ z. IsTree level left t z (run ((c.1, p.0) ∷ c.0) (Leaf p.1) ps)) (append_assoc qs (p ∷ []) ps)
      (runs_on t (qs ++ p ∷ []) ps ((c.1, p.0) ∷ c.0) (Leaf p.1) more)

  -- what the machine makes of a term and pairs is their tree, and their only one
  pub tree_is : (t : T) (ps : List (B × T)) → IsTree level left t ps (tree_of t ps)
  unfolding tree_of
  tree_is t ps = runs_on t [] ps [] (Leaf t) (reads_first level left (IsTree level left) IsSame t (Leaf t) (refl, refl))

  pub tree_only : (t : T) (ps : List (B × T)) (x : Tree T B) → IsTree level left t ps x → x ≡ tree_of t ps
  tree_only t ps x h = one_tree level left t ps x (tree_of t ps) h (tree_is t ps)
