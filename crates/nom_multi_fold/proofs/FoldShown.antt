-- Lemmas on the answers of folds, by what is accumulated of items.
use Rattle.std.proofs.Common.{◌≡◌, Bool, true, false, Option, Some, None, List, [], ◌∷◌, ◌++◌, sym, ◌∙◌, ap, subst}
use Rattle.std.specs.List.{FoldsTo}
use Rattle.nom_internal.specs.Prelude.{PResult, Built, Modes, Model, Errors, ShowsMeaning, Grammar}
use Rattle.nom_internal.proofs.Shown.{built_error}
use Rattle.nom_repeat.proofs.Accumulating.{kept_both}
use Rattle.nom_repeat.specs.Items.{items_meaning}
use Rattle.nom_repeat.specs.declared.items.Limits.{Limits}
use Rattle.nom_repeat.specs.Accumulated.{Adds, Accumulated}
use Rattle.nom_multi_fold.specs.Folded.{FoldPushes, CanFold, IsStart, IsCarried}
use Rattle.nom_multi_fold.specs.Folds.{Folds}

none_some : {X : Type 0} (x : X) → None ≡ Some x → ⊥
none_some x e = absurd (cc (e))

some_same : {X : Type 0} (x y : X) → Some x ≡ Some y → x ≡ y
some_same x y e = cc (e)

module _ {K B R T : Type 0} (value : K → Option R) (fold : K → B) (Gives : B → R → T → R → Type 0) (f : B) where
  folds_added : (k : K) (xs : List T) (new : K) (a b : R) → value k ≡ Some a → value new ≡ Some b → fold k ≡ f →
      Adds (FoldPushes value fold Gives) k xs new → FoldsTo (Gives f) a xs b
  folds_added k [] new a b p q e h = some_same a b (sym p ∙ (ap value (sym h) ∙ q))
  folds_added k (x ∷ xs) new a b p q e h =
      let g = h.1 in
      let from = subst (λ r. Gives (fold k) r x g.1) (some_same g.0 a (sym g.2 ∙ p)) g.4 in
      (g.1, subst (λ c. Gives c a x g.1) e from, folds_added h.0 xs new g.1 b g.3 q (g.5 ∙ e) h.2)

  module _ {V : Type 0} (Takes : B → R → T → Type 0) (IsOutput : V → T → Type 0) (Inits : R → Type 0) (before : Option K) where
    folds_kept : (builds : Bool) → Built builds (IsStart value fold Inits f) before → (vs : List V) (k : K) (r : R) → value k ≡ Some r →
        Accumulated (FoldPushes value fold Gives) (CanFold value fold Takes) IsOutput before vs k → Folds IsOutput Inits (Gives f) vs r
    folds_kept true b vs k r e h =
        let same : h.first ≡ b.0 = some_same h.first b.0 (sym h.first_is ∙ b.1) in
        let start = subst (λ z. IsStart value fold Inits f z) (sym same) b.2 in
        record {
          first = start.first;
          is_first = start.is_first;
          outputs = h.outputs;
          are_outputs = h.are_outputs;
          folded = folds_added h.first h.outputs k start.first r start.carries e start.fold_is h.added;
        }
    folds_kept false b vs k r e h = absurd (none_some h.first (sym b ∙ h.first_is))

    -- the value that is carried at the end is the fold's
    pub carried_built : (builds : Bool) → Built builds (IsStart value fold Inits f) before → (vs : List V) (x : Option K) (y : Option R) →
        IsCarried value x y → Built builds (Accumulated (FoldPushes value fold Gives) (CanFold value fold Takes) IsOutput before vs) x →
        Built builds (Folds IsOutput Inits (Gives f) vs) y
    carried_built true b vs x y c h =
        let is : y ≡ value h.0 = subst (λ z. IsCarried value z y) h.1 c in
        let ready = (h.2).ready in
        (ready.carried, is ∙ ready.is_carried, folds_kept true b vs h.0 ready.carried ready.is_carried h.2)
    carried_built false b vs x y c h = subst (λ z. IsCarried value z y) h c

  -- and so of items in two runs
  module _ {V : Type 0} (Takes : B → R → T → Type 0) (IsOutput : V → T → Type 0) (Inits : R → Type 0) (before mid : Option K) where
    pub carried_both : (builds : Bool) → Built builds (IsStart value fold Inits f) before → (vs us : List V) →
        Built builds (Accumulated (FoldPushes value fold Gives) (CanFold value fold Takes) IsOutput before vs) mid → (x : Option K) (y : Option R) →
        IsCarried value x y → Built builds (Accumulated (FoldPushes value fold Gives) (CanFold value fold Takes) IsOutput mid us) x →
        Built builds (Folds IsOutput Inits (Gives f) (vs ++ us)) y
    carried_both builds b vs us a x y c h =
        carried_built Takes IsOutput Inits before builds b (vs ++ us) x y c
        (built_error builds _ _ x (λ k z. kept_both (FoldPushes value fold Gives) (CanFold value fold Takes) IsOutput builds before mid vs us k a z) h)

-- what items show, at an equal state of their part
pub items_at : {S I A V T K E : Type 0} {w : Model I A} {Pushes : K → T → K → Type 0} {CanPush : K → Type 0} {before : Option K}
    (grammar : S → Grammar I V T E) (errs : Errors I E) (limits : Limits) {mode : Modes} {i : I}
    {r : PResult I K E} {a b : S} → a ≡ b →
    ShowsMeaning w (Accumulated Pushes CanPush (grammar a).IsOutput before) (items_meaning w errs limits ⊥ (grammar a).meaning) mode i r →
    ShowsMeaning w (Accumulated Pushes CanPush (grammar b).IsOutput before) (items_meaning w errs limits ⊥ (grammar b).meaning) mode i r
items_at {w = w} {Pushes} {CanPush} {before} grammar errs limits {mode} {i} {r} e h =
    subst (λ z. ShowsMeaning w (Accumulated Pushes CanPush (grammar z).IsOutput before) (items_meaning w errs limits ⊥ (grammar z).meaning) mode i r) e h
