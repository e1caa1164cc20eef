-- The laws of bounds that don't fit each other.
use Rattle.std.specs.Prelude.{◌≡◌, ℕ, Bool, true, false, not}
use Rattle.std.proofs.Common.{sym, ◌∙◌, inl, inr}
use Rattle.nom_internal.specs.Prelude.{Errors, Modes, ErrorKind, Model, IsBoundary, Outcome, Cause, Accept, Stop, Fails, Meaning, IsLawful, IsSteady, Agree}
use Rattle.nom_internal.specs.Prelude.{Carries, SameBlame}
use Rattle.nom_repeat.specs.Inverted.{error_outcome}
use Rattle.nom_repeat.specs.laws.InvertedLaws.{no_accept}
use Rattle.nom_multi_fold.specs.Unfit.{Where, unfit}

module _ {I A : Type 0} (w : Model I A) {V : Type 0} (IsUnfit : Type 0) (fails : Bool) where
  where_agree : (longer : Bool) (P : I → Outcome V → Type 0) → Agree w longer P P →
      Agree w longer (λ i o. Where IsUnfit (o ≡ error_outcome fails) (P i o)) (λ i o. Where IsUnfit (o ≡ error_outcome fails) (P i o))
  where_agree longer P f x y o p kx ky r (inl a) k (inl b) = a.1 ∙ sym b.1
  where_agree longer P f x y o p kx ky r (inl a) k (inr b) = absurd (b.0 a.0)
  where_agree longer P f x y o p kx ky r (inr a) k (inl b) = absurd (a.0 b.0)
  where_agree longer P f x y o p kx ky r (inr a) k (inr b) = f x y o p kx ky r a.1 k b.1

  where_carries : (decided : Bool) (P Q : I → Outcome V → Type 0) → Carries w decided P Q →
      Carries w decided (λ i o. Where IsUnfit (o ≡ error_outcome fails) (P i o)) (λ i o. Where IsUnfit (o ≡ error_outcome fails) (Q i o))
  where_carries decided P Q f x y o kx ky r (inl a) k = inl a
  where_carries decided P Q f x y o kx ky r (inr a) k = inr (a.0, f x y o kx ky r a.1 k)

module _ {I A V E : Type 0} {w : Model I A} (errs : Errors I E) (kind : ErrorKind) (fails : Bool) {IsUnfit : Type 0} {m : Meaning I V E} where
  pub unfit_lawful : IsLawful w m → IsLawful w (unfit errs kind fails IsUnfit m)
  unfit_lawful p = record {
    within = within;
    one_outcome = λ s. where_agree w IsUnfit fails false (m.answers s) (p.one_outcome s);
    consistent = λ s. where_carries w IsUnfit fails false (m.answers s) (m.answers s) (p.consistent s);
    frugal = frugal;
    settles = λ t. where_carries w IsUnfit fails true (m.answers true) (m.answers false) (p.settles t);
    blames_consistent = blames;
    never_fails = never;
  }
    where
      within : (s : Bool) (i : I) (n : ℕ) (v : V) → w.IsKnown i → (unfit errs kind fails IsUnfit m).answers s i (Accept n v) → IsBoundary w i n
      within s i n v h (inl a) = absurd (no_accept fails n v a.1)
      within s i n v h (inr a) = p.within s i n v h a.1

      frugal : (mode : Modes) (i : I) → w.IsKnown i → (unfit errs kind fails IsUnfit m).IsFrugal mode → (unfit errs kind fails IsUnfit m).may_run_out mode i → ⊥
      frugal mode i h f (inl a) = f.0 a.0 (a.1).0 (a.1).1
      frugal mode i h f (inr a) = p.frugal mode i h (f.1 a.0) a.1

      blames : m.Settles → (s : Bool) → SameBlame w ((unfit errs kind fails IsUnfit m).answers s) ((unfit errs kind fails IsUnfit m).answers (not s))
          ((unfit errs kind fails IsUnfit m).blames s) ((unfit errs kind fails IsUnfit m).blames (not s))
      blames t s i o e h a b d (inl z) = inl z
      blames t s i o e h (inl a) b d (inr z) = absurd (z.0 a.0)
      blames t s i o e h (inr a) (inl b) d (inr z) = absurd (z.0 b.0)
      blames t s i o e h (inr a) (inr b) d (inr z) = inr (z.0, p.blames_consistent t s i o e h a.1 b.1 d z.1)

      never : (cause : Cause) → (unfit errs kind fails IsUnfit m).NeverFails cause → (s : Bool) (i : I) → w.IsKnown i →
          (unfit errs kind fails IsUnfit m).answers s i (Stop (Fails cause)) → ⊥
      never cause g s i h (inl a) = g.0 a.0 (sym a.1)
      never cause g s i h (inr a) = p.never_fails cause (g.1 a.0) s i h a.1

  pub unfit_steady : IsSteady w m → IsSteady w (unfit errs kind fails IsUnfit m)
  unfit_steady p = record { stays = where_agree w IsUnfit fails true (m.answers true) p.stays }
