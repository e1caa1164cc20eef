-- The parts that are shown for what was read.
use Rattle.std.proofs.Common.{◌≡◌, ℕ, Bool, true, false, Option, Some, None, refl, ◌∙◌, ap, subst, inl, inr}
use Rattle.std.specs.Prelude.{◌⊎◌, ℤ}
use Rattle.nom_internal.specs.Prelude.{Built, Model, Slice, IsModelledBy, EitherOutput}
use Rattle.nom_combinator.specs.Verdicts.{OptOutput}
use Rattle.nom_number_text.specs.Parts.{Both, before_of, after_of, either_of, integer_slice, fraction_slice, is_plus, sign_read, power_read, IsParts, IsRaw}

sign_same : (t : Option (ℕ ⊎ ℕ)) (o : Option ℕ) → OptOutput (EitherOutput (λ c x. x ≡ c) (λ c x. x ≡ c)) t o → is_plus o ≡ is_plus (sign_read t)
sign_same None o h = ap is_plus h
sign_same (Some (inl c)) o h = ap is_plus (h.1 ∙ ap (λ x. Some x) h.2)
sign_same (Some (inr c)) o h = ap is_plus (h.1 ∙ ap (λ x. Some x) h.2)

power_same : (t : Option ℤ) (o : Option ℤ) → OptOutput (λ z x. x ≡ z) t o → power_read o ≡ power_read t
power_same None o h = ap power_read h
power_same (Some z) o h = ap power_read h.1 ∙ h.2

module _ {I A : Type 0} (w : Model I A) where
  either_seen : (t : Slice w ⊎ Slice w) (x : I) → EitherOutput (IsModelledBy w) (IsModelledBy w) t x → IsModelledBy w (either_of w t) x
  either_seen (inl t) x h = h
  either_seen (inr t) x h = h

  both_seen : (t : Both w) (x : I × I) → EitherOutput (λ u x. IsModelledBy w u.0 x.0 × EitherOutput (IsModelledBy w) (IsModelledBy w) u.1 x.1)
      (λ u x. IsModelledBy w u.0 x.0 × IsModelledBy w u.1 x.1) t x → IsModelledBy w (before_of w t) x.0 × IsModelledBy w (after_of w t) x.1
  both_seen (inl t) x h = (h.0, either_seen t.1 x.1 h.1)
  both_seen (inr t) x h = h

  -- each part by its digits
  pub parts_made : (code : A → ℕ) (o : (Option ℕ × (I × I)) × Option ℤ) (plus : Bool) (integer fraction : I) (number : ℤ) → plus ≡ is_plus o.0.0 →
      ((t : Slice w) → IsModelledBy w t o.0.1.0 → IsModelledBy w (integer_slice w code t) integer) →
      ((t : Slice w) → IsModelledBy w t o.0.1.1 → IsModelledBy w (fraction_slice w code t) fraction) → number ≡ power_read o.1 →
      (t : (Option (ℕ ⊎ ℕ) × Both w) × Option ℤ) → IsRaw w t o → IsParts w code t (plus, integer, fraction, number)
  parts_made code o plus integer fraction number p f g n t r =
      let both = both_seen t.0.1 o.0.1 r.0.1 in
      (p ∙ sign_same t.0.0 o.0.0 r.0.0, f (before_of w t.0.1) both.0, g (after_of w t.0.1) both.1, n ∙ power_same t.1 o.1 r.1)

-- an output in another form, where outputs are built
pub some_built : {O X : Type 0} (IsRead : O → Type 0) (IsMade : X → Type 0) (built : Bool) (x : Option O) (o : O) (y : X) → x ≡ Some o →
    (IsRead o → IsMade y) → Built built IsRead x → Built built IsMade (Some y)
some_built IsRead IsMade true x o y e f b = let same : b.0 ≡ o = cc (b.1, e) in (y, refl, f (subst IsRead same b.2))
some_built IsRead IsMade false x o y e f b = absurd (cc (b, e))

pub none_built : {O X : Type 0} (IsRead : O → Type 0) (IsMade : X → Type 0) (built : Bool) (x : Option O) → x ≡ None → Built built IsRead x →
    Built built IsMade None
none_built IsRead IsMade true x e b = absurd (cc (b.1, e))
none_built IsRead IsMade false x e b = refl
