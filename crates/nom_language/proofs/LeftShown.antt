-- Lemmas on outputs that are built, and on the fold of pairs from the left.
use Rattle.std.specs.Prelude.{◌≡◌, Bool, true, false, List, [], ◌∷◌, Option, Some, None, MatchOption, refl}
use Rattle.std.specs.List.{FoldsTo}
use Rattle.std.proofs.Common.{sym, ◌∙◌, ap, subst}
use Rattle.nom_internal.specs.Prelude.{Built, BuiltFrom}
use Rattle.nom_repeat.specs.Accumulated.{Adds, Accumulated}
use Rattle.nom_language.specs.LeftFolds.{IsFolded}
use Rattle.nom_language.specs.helpers.Accumulated.{LeftPushes}

none_some : {X : Type 0} (x : X) → None ≡ Some x → ⊥
none_some x e = absurd (cc (e))

pub some_same : {X : Type 0} (x y : X) → Some x ≡ Some y → x ≡ y
some_same x y e = cc (e)

-- what is made of an output that is built, and of none
pub given_built : {X Y : Type 0} (builds : Bool) (P : X → Type 0) (Gives : X → Y → Type 0) (Q : Y → Type 0) (x : Option X) (y : Option Y) →
    ((a : X) (c : Y) → P a → Gives a c → Q c) → BuiltFrom true Gives x y → Built builds P x → Built builds Q y
given_built true P Gives Q (Some a) y f g h = (g.0, g.1, f a g.0 (subst P (sym (some_same a h.0 h.1)) h.2) g.2)
given_built true P Gives Q None y f g h = absurd (none_some h.0 h.1)
given_built false P Gives Q (Some a) y f g h = absurd (none_some a (sym h))
given_built false P Gives Q None y f g h = g

module _ {K L H O : Type 0} (value : K → Option O) (builder : K → L) (Gives : L → O → H → O → O → Type 0) where
  -- pairs are folded in their order
  fold_adds : (k : K) (ps : List (H × O)) (new : K) (x : O) → value k ≡ Some x → Adds (LeftPushes value builder Gives) k ps new →
      (y : O) × (value new ≡ Some y) × FoldsTo (λ a p c. Gives (builder k) a p.0 p.1 c) x ps y
  fold_adds k [] new x h a = (x, ap value a ∙ h, refl)
  fold_adds k (p ∷ ps) new x h a =
      let push = a.1 in
      let same : push.before ≡ x = some_same push.before x (sym push.before_is ∙ h) in
      let more = fold_adds a.0 ps new push.rest push.after_is a.2 in (
        more.0,
        more.1,
        (
          push.rest,
          subst (λ z. Gives (builder k) z p.0 p.1 push.rest) same push.given,
          subst (λ b. FoldsTo (λ c q d. Gives b c q.0 q.1 d) push.rest ps more.0) push.builder_is more.2,
        ),
      )

  module _ {T C : Type 0} (IsItem : T → O → Type 0) (IsOperator : C → H → Type 0) (CanPush : K → Type 0) where
    -- the value of a first item and of pairs
    pub left_built : (builds : Bool) (t : T) (us : List (C × T)) (b : L) (first : Option O) (begun folded : Option K) (result : Option O) →
        BuiltFrom true (λ x k. (value k ≡ Some x) × (builder k ≡ b)) first begun → MatchOption folded (result ≡ None) (λ k. result ≡ value k) →
        Built builds (IsItem t) first →
        Built builds (Accumulated (LeftPushes value builder Gives) CanPush (λ u o. IsOperator u.0 o.0 × IsItem u.1 o.1) begun us) folded →
        Built builds (IsFolded IsItem IsOperator (Gives b) (t, us)) result
    left_built true t us b (Some x) begun (Some n) result g m h a =
        let acc = a.2 in
        let end : n ≡ a.0 = some_same n a.0 a.1 in
        let same : acc.first ≡ g.0 = some_same acc.first g.0 (sym acc.first_is ∙ g.1) in
        let at : value acc.first ≡ Some x = ap value same ∙ (g.2).0 in
        let of : builder acc.first ≡ b = ap builder same ∙ (g.2).1 in
        let done = fold_adds acc.first acc.outputs a.0 x at acc.added in (
          done.0,
          m ∙ (ap value end ∙ done.1),
          record {
            first = x;
            is_first = subst (IsItem t) (sym (some_same x h.0 h.1)) h.2;
            pairs = acc.outputs;
            are_pairs = acc.are_outputs;
            folded = subst (λ z. FoldsTo (λ c q d. Gives z c q.0 q.1 d) x acc.outputs done.0) of done.2;
          },
        )
    left_built true t us b (Some x) begun None result g m h a = absurd (none_some a.0 a.1)
    left_built true t us b None begun folded result g m h a = absurd (none_some h.0 h.1)
    left_built false t us b first begun (Some n) result g m h a = absurd (none_some n (sym a))
    left_built false t us b first begun None result g m h a = m
