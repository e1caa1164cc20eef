-- Lemmas on the values of a list that are added, one after another.
use Rattle.std.proofs.Common.{◌≡◌, ℕ, ◌+◌, ◌<◌, ◌≤◌, List, [], ◌∷◌, ◌++◌, length, drop, get_or, refl, sym, ◌∙◌, ap, subst}
use Rattle.std.proofs.Common.{append_assoc, append-nil, length-append, inl, inr}
use Rattle.std.proofs.Common.{take}
use Rattle.std.proofs.Math.Seq.{take-append_seam}
use Rattle.std.proofs.lemmas.List.{drop_all, drop_more}
use Rattle.nom_sink.specs.declared.error.WriteError.{WriteError}
use Rattle.nom_sink.specs.Lists.{EachForm, EachFail}
use Rattle.nom_sink.specs.Written.{Lack, Space, space_at}

module _ {O A : Type 0} (Form : O → List A → Type 0) (Fails : O → Space → WriteError → Type 0) (lack : Lack) (vs : List O) where
  -- what was added of the first k values: with forms of those that are left it is one of all, and where one of those fails, so do all
  pub record SoFar (k : ℕ) (old new : List A) : Type 0 where
    pub added : List A
    pub whole : new ≡ old ++ added
    pub forms : (ys : List A) → EachForm Form (drop k vs) ys → EachForm Form vs (added ++ ys)
    pub fails : (room : ℕ) (e : WriteError) → EachFail Form Fails (drop k vs) (space_at lack room new) e → EachFail Form Fails vs (space_at lack room old) e

  pub none_added : (old : List A) → SoFar 0 old old
  none_added old = record { added = []; whole = sym (append-nil old); forms = λ ys h. h; fails = λ room e h. h }

  -- one more
  module _ (k : ℕ) (v : O) (below : k < length vs) (is : v ≡ get_or vs k v) where
    here : drop k vs ≡ v ∷ drop (k + 1) vs
    here = drop_more vs k v below ∙ ap (λ x. x ∷ drop (k + 1) vs) (sym is)

    pub one_added : (old mid new : List A) → SoFar k old mid → (zs : List A) × (new ≡ mid ++ zs) × Form v zs → SoFar (k + 1) old new
    one_added old mid new a b =
        let longer : length new ≡ length mid + length b.0 = ap length b.1 ∙ length-append mid b.0 in
        record {
          added = a.added ++ b.0;
          whole = b.1 ∙ (ap (λ zs. zs ++ b.0) a.whole ∙ append_assoc old a.added b.0);
          forms = λ ys h.
              let next : EachForm Form (v ∷ drop (k + 1) vs) (b.0 ++ ys) = record { front = b.0; back = ys; whole = refl; first = b.2; second = h } in
              subst (λ zs. EachForm Form vs zs) (sym (append_assoc a.added b.0 ys))
              (a.forms (b.0 ++ ys) (subst (λ us. EachForm Form us (b.0 ++ ys)) (sym here) next));
          fails = λ room e h.
              a.fails room e (subst (λ us. EachFail Form Fails us (space_at lack room mid) e) (sym here)
              (inr (b.0, b.2, subst (λ n. EachFail Form Fails (drop (k + 1) vs) (record { lack = lack; room = room; start = n }) e) longer h)));
        }

    pub one_fails : (old mid : List A) → SoFar k old mid → (room : ℕ) (e : WriteError) → Fails v (space_at lack room mid) e →
        EachFail Form Fails vs (space_at lack room old) e
    one_fails old mid a room e h = a.fails room e (subst (λ us. EachFail Form Fails us (space_at lack room mid) e) (sym here) (inl h))

  pub all_added : (k : ℕ) → length vs ≤ k → (old new : List A) → SoFar k old new → (xs : List A) × (new ≡ old ++ xs) × EachForm Form vs xs
  all_added k end old new a = (
    a.added,
    a.whole,
    subst (λ zs. EachForm Form vs zs) (append-nil a.added) (a.forms [] (subst (λ us. EachForm Form us []) (sym (drop_all k vs end)) refl)),
  )

-- what was added is taken back
pub undone : {A : Type 0} (n : ℕ) (old xs mid new last : List A) → n ≡ length old → mid ≡ old ++ xs → new ≡ mid → last ≡ take n new → last ≡ old
undone n old xs mid new last e m s t = t ∙ (ap (λ zs. take n zs) (s ∙ m) ∙ (ap (λ k. take k (old ++ xs)) e ∙ take-append_seam old xs))
