-- The laws of parsers on what another one gives.
use Rattle.std.specs.Prelude.{◌≡◌, ℕ, Bool, true, false, refl}
use Rattle.std.proofs.Common.{sym, ◌∙◌, ap, subst}
use Rattle.nom_internal.specs.Prelude.{Model, InputLaws, IsBoundary, IsSame, Related, Outcome, Accept, Refuse, Stop, IsDecided, Meaning, IsLawful, IsSteady}
use Rattle.nom_internal.specs.Prelude.{IsLawfulFamily, AnyKey}
use Rattle.nom_internal.specs.laws.PartLaws.{keeps_mapped, failure_mapped}
use Rattle.nom_internal.specs.laws.SequenceLaws.{then_lawful, then_steady}
use Rattle.nom_internal.specs.laws.CaseLaws.{CaseLaws, no_place, case_lawful}
use Rattle.nom_internal.specs.Bounded.{IsBound, AreConsistent, held, bounded_case, bounded_family, and_then_meaning}

-- inputs that are equal as models are related, where no longer ones are asked for
consistent_related : {J B : Type 0} (v : Model J B) (longer : Bool) → (longer ≡ true → false ≡ true) → (j k : J) → IsSame v j k → Related v longer j k
consistent_related v true stays j k r = absurd (cc (stays refl))
consistent_related v false stays j k r = r

held_place : {I A V : Type 0} (w : Model I A) (i : I) (a : Outcome V) (n : ℕ) (t : V) → Accept n t ≡ held a → IsBoundary w i n
held_place w i (Accept m u) n t e = let none : n ≡ 0 = cc in subst (λ k. IsBoundary w i k) (sym none) (no_place w i)
held_place w i Refuse n t e = cc
held_place w i (Stop why) n t e = cc

module _ {I A J B P Q E : Type 0} (w : Model I A) (v : Model J B) (IsOutput : P → J → Type 0) (same : AreConsistent v IsOutput) (m : Meaning J Q E)
    (l : IsLawful v m) where
  bounded_laws : (u : P) → CaseLaws {I = I} {P = Q} {E = E} false w v (bounded_case (IsBound v IsOutput u))
  bounded_laws u = record {
    at_known = λ i j h b. b.known;
    at_related = λ longer stays x y j k r b c. consistent_related v longer stays j k (same u j k b.is_output c.is_output);
    at_consistent = λ x y j r b. (j, b);
    keeps = λ only i a o b d. keeps_mapped true (λ _. 0) (λ t. t) a (subst (λ z. IsDecided z) b d);
    same = λ longer stays x y a o p kx ky r s k t. s ∙ sym t;
    consistent = λ x y a o kx ky r b. b;
    place = λ i j a n t h b place e. held_place w i a n t e;
    never_fails = λ Part cause i a g e. (g, failure_mapped cause (λ _. 0) (λ t. t) a e);
    blames = λ i a X Y e f. f e;
    part_frugal = λ Part mode h. h;
    asks_none = λ Part mode i a h g. g;
  }

  family_lawful : IsLawfulFamily w AnyKey (bounded_family v IsOutput m)
  family_lawful = record {
    lawful = λ u _. case_lawful (bounded_laws u) l;
    frugal = λ mode h _ _. h;
    settles = λ h _ _. h;
    never_fails = λ cause h _ _. h;
  }

  -- whether or not the parser is steady itself: what it answers doesn't depend on the rest
  family_steady : (u : P) → IsSteady w ((bounded_family v IsOutput m).at u)
  family_steady u = record {
    stays = λ x y o p kx ky r a k b.
        let e = l.one_outcome true a.at b.at a.outcome b.outcome a.at_is.known b.at_is.known (same u a.at b.at a.at_is.is_output b.at_is.is_output)
        a.answered tt b.answered in
        a.fact ∙ (ap (λ z. held z) e ∙ sym b.fact);
  }

module _ {I A J B P Q E : Type 0} {w : Model I A} {v : Model J B} {IsOutput : P → J → Type 0} (same : AreConsistent v IsOutput) {m : Meaning J Q E}
    (l : IsLawful v m) (i : InputLaws w) {a : Meaning I P E} where
  pub and_then_lawful : IsLawful w a → IsLawful w (and_then_meaning w v IsOutput a m)
  and_then_lawful k = then_lawful i (bounded_family v IsOutput m) k (family_lawful w v IsOutput same m l)

  pub and_then_steady : IsSteady w a → IsSteady w (and_then_meaning w v IsOutput a m)
  and_then_steady k = then_steady i (bounded_family v IsOutput m) k (family_steady w v IsOutput same m l)
