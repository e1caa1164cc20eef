-- The laws of `tag`.
use Rattle.std.specs.Prelude.{◌≡◌, ℕ, ◌-◌, Bool, true, false, ◌⊎◌, List, Some}
use Rattle.std.proofs.Common.{sym, ◌∙◌, subst, inl, inr}
use Rattle.nom_internal.specs.Prelude.{Errors, CompareResult, Model, InputLaws, Related, items_len, first_place, first_related, same_length, CompareLaws}
use Rattle.nom_internal.specs.Prelude.{IsLawful, IsSteady, LeafLaws, leaf_lawful, leaf_steady}
use Rattle.nom_traits.specs.declared.compare.CompareResult.TheVariants as Compared
use Rattle.nom_bytes.specs.Stays.{closed_stays, open_stays}
use Rattle.nom_bytes.specs.Tags.{tags, tag_meaning}

module _ {I A T : Type 0} (w : Model I A) (size : T → ℕ) (Compares : T → List A → CompareResult → Type 0) (c : CompareLaws w size Compares) (tag : T) where
  abbrev Finds : CompareResult → I → Type 0
  Finds r i = Compares tag (w.elements i) r

  ok_or_error : (i : I) → w.IsKnown i → Finds Compared.Ok i → Finds Compared.Error i → ⊥
  ok_or_error i h a b = let same : ◌≡◌ {A = CompareResult} Compared.Ok Compared.Error = c.one tag i _ _ h a b in cc (same)

  ok_or_incomplete : (i : I) → w.IsKnown i → Finds Compared.Ok i → Finds Compared.Incomplete i → ⊥
  ok_or_incomplete i h a b = let same : ◌≡◌ {A = CompareResult} Compared.Ok Compared.Incomplete = c.one tag i _ _ h a b in cc (same)

  error_or_incomplete : (i : I) → w.IsKnown i → Finds Compared.Error i → Finds Compared.Incomplete i → ⊥
  error_or_incomplete i h a b = let same : ◌≡◌ {A = CompareResult} Compared.Error Compared.Incomplete = c.one tag i _ _ h a b in cc (same)

  abbrev Refused : Bool → I → Type 0
  Refused s i = Finds Compared.Error i ⊎ ((s ≡ false) × Finds Compared.Incomplete i)

  found_refused : (s : Bool) (i : I) → w.IsKnown i → Finds Compared.Ok i → Refused s i → ⊥
  found_refused s i h a (inl b) = ok_or_error i h a b
  found_refused s i h a (inr b) = ok_or_incomplete i h a b.1

  refused_lacks : (i : I) → w.IsKnown i → Refused true i → Finds Compared.Incomplete i → ⊥
  refused_lacks i h (inl a) b = error_or_incomplete i h a b
  refused_lacks i h (inr a) b = absurd (cc (a.0))

  refused_stays : (longer s : Bool) → (longer ≡ true → s ≡ true) → (x y : I) → w.IsKnown x → w.IsKnown y → Related w longer x y → Refused s x → Refused s y
  refused_stays longer s only x y kx ky r (inl a) = inl (open_stays w (λ xs. Compares tag xs Compared.Error) (c.error_stays tag) longer x y kx ky r a)
  refused_stays longer s only x y kx ky r (inr a) = inr (a.0, closed_stays w (λ xs. Compares tag xs Compared.Incomplete) longer s only x y r a.0 a.1)

  refused_settles : (i : I) → Refused true i → Refused false i
  refused_settles i (inl a) = inl a
  refused_settles i (inr a) = absurd (cc (a.0))

  pub tag_laws : InputLaws w → LeafLaws w (tags w size Compares tag)
  tag_laws l = record {
    place = λ s i n t h a. first_place w i n t a.1;
    one_accepted = λ s i n m t u h a b. let e = a.0 ∙ sym b.0 in (e, same_length w l i n m t u a.1 b.1 e);
    one_lack = λ i j k h a b. a.1 ∙ sym b.1;
    accepted_refused = λ s i n t h a b. found_refused s i h a.2 b;
    accepted_lacks = λ i n t k h a b. ok_or_incomplete i h a.2 b.0;
    refused_lacks = λ i k h a b. refused_lacks i h a b.0;
    accepted_stays = λ longer s only x y n t kx ky r a. (
      a.0,
      first_related w longer x y n t r a.1,
      open_stays w (λ xs. Compares tag xs Compared.Ok) (c.ok_stays tag) longer x y kx ky r a.2,
    );
    refused_stays = refused_stays;
    lack_consistent = λ x y k kx ky r a. subst (λ xs. Compares tag xs Compared.Incomplete × (k ≡ Some (size tag - items_len w.item_len xs))) r.elements_are a;
    accepted_settles = λ i n t h a. a;
    refused_settles = λ i h a. refused_settles i a;
  }

module _ {I A T E : Type 0} (w : Model I A) (l : InputLaws w) (errs : Errors I E) (size : T → ℕ) (Compares : T → List A → CompareResult → Type 0)
    (c : CompareLaws w size Compares) (tag : T) where
  pub tag_lawful : IsLawful w (tag_meaning w errs size Compares tag)
  tag_lawful = leaf_lawful (tag_laws w size Compares c tag l)

  pub tag_steady : IsSteady w (tag_meaning w errs size Compares tag)
  tag_steady = leaf_steady (tag_laws w size Compares c tag l)
