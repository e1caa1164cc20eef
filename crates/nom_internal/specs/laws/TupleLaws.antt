-- The laws of tuples, by those of pairs.
use Rattle.std.specs.Prelude.{◌≡◌, true}
use Rattle.std.proofs.Common.{sym, ◌∙◌, ap}
use Rattle.nom_internal.specs.Prelude.{with_outputs, Model, InputLaws, View, single_view, Meaning, IsLawful, IsSteady, IsPinned, pair_meaning}
use Rattle.nom_internal.specs.Tuples.{built_meaning}
use Rattle.nom_internal.specs.laws.SequenceLaws.{sequence_lawful, sequence_steady}

-- what is built changes no outcome
module _ {I A V E : Type 0} {w : Model I A} {m : Meaning I V E} where
  pub built_lawful : IsLawful w m → IsLawful w (built_meaning m)
  built_lawful l = record {
    within = l.within;
    one_outcome = l.one_outcome;
    consistent = l.consistent;
    frugal = λ mode. l.frugal (with_outputs true mode);
    settles = l.settles;
    blames_consistent = l.blames_consistent;
    never_fails = l.never_fails;
  }

  pub built_steady : IsSteady w m → IsSteady w (built_meaning m)
  built_steady l = record { stays = l.stays }

-- a pair is lawful and steady where its members are
module _ {I A P Q E : Type 0} {w : Model I A} (l : InputLaws w) {a : Meaning I P E} {b : Meaning I Q E} where
  pub pair_lawful : IsLawful w a → IsLawful w b → IsLawful w (pair_meaning w a b)
  pair_lawful p q = sequence_lawful l p q

  pub pair_steady : IsSteady w a → IsSteady w b → IsSteady w (pair_meaning w a b)
  pair_steady p q = sequence_steady l p q

-- the tuple that nested pairs are: its view is a form of theirs
pub flat_pinned : {V O F : Type 0} {view : View O} {IsOutput : V → O → Type 0} {flat : View F} (form : view.Value → flat.Value) (pairs : F → O) →
    ((o : F) → form (view.value (pairs o)) ≡ flat.value o) → IsPinned view IsOutput → IsPinned flat (λ t o. IsOutput t (pairs o))
flat_pinned form pairs same h = record {
  one_view = λ t x y p q. sym (same x) ∙ (ap form (h.one_view t (pairs x) (pairs y) p q) ∙ same y);
}

pub single_pinned : {P A : Type 0} {a : View A} {IsA : P → A → Type 0} → IsPinned a IsA → IsPinned (single_view a) (λ t o. IsA t o.0)
single_pinned p = record { one_view = λ t o n i k. p.one_view t o.0 n.0 i k }
