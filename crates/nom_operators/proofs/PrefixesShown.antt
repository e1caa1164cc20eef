-- Lemmas on items that are kept in their order.
use Rattle.std.proofs.Common.{◌≡◌, ◌++◌, Bool, true, false, Option, Some, List, [], ◌∷◌, append_assoc, sym, ◌∙◌, ap, subst}
use Rattle.std.proofs.lemmas.List.{append-nil}
use Rattle.std.specs.List.{AllZip}
use Rattle.nom_internal.specs.Prelude.{Built}
use Rattle.nom_repeat.specs.Accumulated.{Adds, Accumulated}

module _ {T K : Type 0} (items : K → List T) where
  -- one more stands behind all
  abbrev pub ListPushes : K → T → K → Type 0
  ListPushes old x new = items new ≡ items old ++ x ∷ []

  list_adds : (k : K) (xs : List T) (new : K) → Adds ListPushes k xs new → items new ≡ items k ++ xs
  list_adds k [] new a = ap items a ∙ sym (append-nil (items k))
  list_adds k (x ∷ xs) new a = list_adds a.0 xs new a.2 ∙ (ap (λ zs. zs ++ xs) a.1 ∙ append_assoc (items k) (x ∷ []) xs)

  module _ {V : Type 0} (CanPush : K → Type 0) (IsItem : V → T → Type 0) where
    none_first : (builds : Bool) (before : Option K) (first : K) → Built builds (λ k. items k ≡ []) before → before ≡ Some first → items first ≡ []
    none_first true before first b e = let same : first ≡ b.0 = cc (b.1, e) in ap items same ∙ b.2
    none_first false before first b e = absurd (cc (b, e))

    -- of none at first, the outputs of the trees
    pub list_of_none : (builds : Bool) (before : Option K) (vs : List V) (k : K) → Built builds (λ k. items k ≡ []) before →
        Accumulated ListPushes CanPush IsItem before vs k → AllZip IsItem vs (items k)
    list_of_none builds before vs k b h =
        let none = none_first builds before h.first b h.first_is in
        let all : items k ≡ h.outputs = list_adds h.first h.outputs k h.added ∙ ap (λ zs. zs ++ h.outputs) none in
        subst (AllZip IsItem vs) (sym all) h.are_outputs
