-- Runs: the first items of a list, as many as meet a test.
use Rattle.std.specs.Prelude.{◌≡◌, ℕ, Option, Some, None, List, [], ◌∷◌, ◌++◌, refl}
use Rattle.std.specs.List.{All}
use Rattle.std.proofs.Common.{sym, ◌∙◌, ap, subst}
use Rattle.std.proofs.lemmas.List.Elements.{All-head, All-tail}
use Rattle.nom_traits.specs.Input.{Model, items_len}

-- nothing, or a first item that ends a run
abbrev pub Stops : {A : Type 0} → (A → Type 0) → List A → Type 0
Stops Ends [] = Unit {0}
Stops Ends (x ∷ xs) = Ends x

module _ {A : Type 0} (Meets Ends : A → Type 0) where
  -- The run of xs is its longest front whose items all meet the test: what follows is nothing, or begins with an item that doesn't.
  pub record IsRun (xs run rest : List A) : Type 0 where
    pub whole : xs ≡ run ++ rest
    pub meets : All Meets run
    pub stops : Stops Ends rest

module _ {A : Type 0} (Meets Ends : A → Type 0) (apart : (x : A) → Meets x → Ends x → ⊥) where
  same_parts : (xs ys xs' ys' : List A) → xs ++ ys ≡ xs' ++ ys' → All Meets xs → All Meets xs' → Stops Ends ys → Stops Ends ys' → (xs ≡ xs') × (ys ≡ ys')
  same_parts [] ys [] ys' e h h' s s' = (refl, e)
  same_parts [] [] (x ∷ xs') ys' e h h' s s' = cc (e)
  same_parts [] (y ∷ ys) (x ∷ xs') ys' e h h' s s' =
      let heads : x ≡ y = cc in
      absurd (apart y (subst Meets heads (All-head Meets x xs' h')) s)
  same_parts (x ∷ xs) ys [] [] e h h' s s' = cc (e)
  same_parts (x ∷ xs) ys [] (y ∷ ys') e h h' s s' =
      let heads : x ≡ y = cc in
      absurd (apart y (subst Meets heads (All-head Meets x xs h)) s')
  same_parts (x ∷ xs) ys (x' ∷ xs') ys' e h h' s s' =
      let heads : x ≡ x' = cc in
      let tails : xs ++ ys ≡ xs' ++ ys' = cc in
      let r = same_parts xs ys xs' ys' tails (All-tail Meets x xs h) (All-tail Meets x' xs' h') s s' in
      let front : x ∷ xs ≡ x' ∷ xs' = ap (λ z. z ∷ xs) heads ∙ ap (λ zs. x' ∷ zs) r.0 in
      (front, r.1)

  -- a list has one run
  pub one_run : (xs run rest run' rest' : List A) → IsRun Meets Ends xs run rest → IsRun Meets Ends xs run' rest' → (run ≡ run') × (rest ≡ rest')
  one_run xs run rest run' rest' r r' = same_parts run rest run' rest' (sym r.whole ∙ r'.whole) r.meets r'.meets r.stops r'.stops

module _ {I A : Type 0} (w : Model I A) (Meets Ends : A → Type 0) where
  -- the run of an input, of length n, with an item after it
  pub record EndsAt (i : I) (n : ℕ) : Type 0 where
    pub run : List A
    pub item : A
    pub rest : List A
    pub is_run : IsRun Meets Ends (w.elements i) run (item ∷ rest)
    pub length_is : items_len w.item_len run ≡ n

  -- where the first item stands that ends the run; none: all items meet the test
  abbrev pub IsPosition : I → Option ℕ → Type 0
  IsPosition i (Some n) = EndsAt i n
  IsPosition i None = All Meets (w.elements i)
