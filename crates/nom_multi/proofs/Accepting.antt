-- Lemmas on the acceptances of lists.
use Rattle.std.specs.Prelude.{ltb}
use Rattle.std.proofs.lemmas.Bool.{le-ltb, ltb-false}
use Rattle.std.proofs.Common.{◌≡◌, Bool, true, false, ℕ, ◌<◌, ◌≤◌, Some, None, refl}
use Rattle.nom_internal.specs.Prelude.{Errors, Model, Accept, Meaning}
use Rattle.nom_error.specs.declared.kind.ErrorKind.TheVariants as Kind
use Rattle.nom_repeat.specs.Inverted.{IfThenElse, error_outcome}
use Rattle.nom_repeat.specs.laws.InvertedLaws.{no_accept}
use Rattle.nom_repeat.specs.Items.{items_meaning}
use Rattle.nom_repeat.specs.Accepted.{InTurn, AcceptsItems, AcceptsOneAndMore}
use Rattle.nom_repeat.specs.declared.items.TooFew.TheVariants.{Added}
use Rattle.nom_repeat.proofs.AcceptedItems.{items_accept, accepted_in_turn, in_turn_accepted}
use Rattle.nom_repeat.proofs.AcceptedMore.{one_and_more_accept}
use Rattle.nom_multi.specs.Bounded.{count_meaning, many_m_n_meaning}
use Rattle.nom_multi.specs.Many.{many0_meaning, many1_meaning}
use Rattle.nom_repeat.specs.Bounds.{any_limits, exact_limits, bounded_limits}

module _ {I A V E : Type 0} (w : Model I A) (errs : Errors I E) (m : Meaning I V E) where
  pub many0_accepts_items : AcceptsItems w (Unit {0}) (λ a. 0 < a) 0 None m (many0_meaning w errs m)
  many0_accepts_items = items_accept w errs (any_limits Kind.Many0) (Unit {0}) m

  pub many1_accepts_more : AcceptsOneAndMore w m m (many1_meaning w errs m)
  many1_accepts_more = one_and_more_accept w errs (Added Kind.Many1) true Kind.Many0 (Unit {0}) (Unit {0}) m m

  pub count_accepts_items : (n : ℕ) → AcceptsItems w (Unit {0}) (λ _. Unit {0}) n (Some n) m (count_meaning w errs n m)
  count_accepts_items n = items_accept w errs (exact_limits n) (Unit {0}) m

  pub many_m_n_accepts_items : (least most : ℕ) → AcceptsItems w (least ≤ most) (λ a. 0 < a) least (Some most) m (many_m_n_meaning w errs least most m)
  many_m_n_accepts_items least most s i n vs = ((λ a. forward (ltb most least) refl a), (λ h. backward (ltb most least) refl h))
    where
      forward : (test : Bool) → ltb most least ≡ test →
          IfThenElse test (Accept n vs ≡ error_outcome true)
          ((items_meaning w errs (bounded_limits Kind.ManyMN least most) (Unit {0}) m).answers s i (Accept n vs)) → (least ≤ most) ×
          InTurn w (m.answers s) (λ a. 0 < a) least (Some most) i n vs
      forward true e a = absurd (no_accept true n vs a)
      forward false e a = (ltb-false most least e, accepted_in_turn w errs (bounded_limits Kind.ManyMN least most) (Unit {0}) m s i n vs a)

      backward : (test : Bool) → ltb most least ≡ test → (least ≤ most) × InTurn w (m.answers s) (λ a. 0 < a) least (Some most) i n vs →
          IfThenElse test (Accept n vs ≡ error_outcome true)
          ((items_meaning w errs (bounded_limits Kind.ManyMN least most) (Unit {0}) m).answers s i (Accept n vs))
      backward true e h = let z : ltb most least ≡ false = le-ltb most least h.0 in absurd (cc (e, z))
      backward false e h = in_turn_accepted w errs (bounded_limits Kind.ManyMN least most) (Unit {0}) m s i n vs h.1
