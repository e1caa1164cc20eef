-- Lemmas on the acceptances of a list after its length.
use Rattle.std.proofs.Common.{ℕ, Some, ap, sym, subst}
use Rattle.nom_internal.specs.Prelude.{Errors, Model, Accept, Meaning, of_value}
use Rattle.nom_repeat.specs.Accepted.{InTurn}
use Rattle.nom_repeat.specs.Bounds.{exact_limits}
use Rattle.nom_repeat.proofs.AcceptedItems.{accepted_in_turn, in_turn_accepted}
use Rattle.nom_repeat.proofs.AcceptedMore.{first_accepts}
use Rattle.nom_multi.specs.Lengths.{items_by_count, length_count_meaning}
use Rattle.nom_multi.specs.LengthPromises.{CountedItems, AcceptsCounted}

module _ {I A P V E : Type 0} (w : Model I A) (errs : Errors I E) (IsCount : P → ℕ → Type 0) (a : Meaning I P E) (m : Meaning I V E) where
  pub length_count_accepts_items : AcceptsCounted w IsCount a m (length_count_meaning w errs IsCount a m)
  length_count_accepts_items s i n vs = (forward, backward)
    where
      forward : (length_count_meaning w errs IsCount a m).answers s i (Accept n vs) → CountedItems w (a.answers s) IsCount (m.answers s) i n vs
      forward t =
          let f = first_accepts w (λ u us. us) (a.answers s) (λ u. ((of_value IsCount (items_by_count w errs m)).at u).answers s) i n vs t in
          let after = f.7 in
          record {
            first_length = f.0;
            tree = f.2;
            count = after.value;
            rest = f.3;
            items_length = f.1;
            accepted = f.5;
            count_is = after.is_value;
            rest_is = f.6;
            items = subst (λ us. InTurn w (m.answers s) (λ _. Unit {0}) after.value (Some after.value) f.3 f.1 us) (sym f.9)
                (accepted_in_turn w errs (exact_limits after.value) (Unit {0}) m s f.3 f.1 f.4 after.fact);
            length_is = f.8;
          }

      backward : CountedItems w (a.answers s) IsCount (m.answers s) i n vs → (length_count_meaning w errs IsCount a m).answers s i (Accept n vs)
      backward h = record {
        first = Accept h.first_length h.tree;
        answered = h.accepted;
        goes_on = (
          h.rest,
          Accept h.items_length vs,
          h.rest_is,
          record {
            value = h.count;
            is_value = h.count_is;
            fact =
                in_turn_accepted w errs (exact_limits h.count) (Unit {0}) m s h.rest h.items_length vs h.items;
          },
          ap (λ k. Accept k vs) h.length_is,
        );
      }
