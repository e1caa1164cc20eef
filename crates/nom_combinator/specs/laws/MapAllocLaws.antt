-- The laws of a part whose outputs a closure maps, which may take memory.
use Rattle.std.specs.Prelude.{true, refl, Result}
use Rattle.nom_error.specs.declared.answer.OutOfMemory.{OutOfMemory}
use Rattle.nom_internal.specs.Prelude.{Model, Outcome, Accept, Refuse, Stop, Meaning, IsLawful, IsSteady}
use Rattle.nom_internal.specs.laws.CaseLaws.{CaseLaws, fixed_laws, case_lawful, case_steady}
use Rattle.nom_combinator.specs.MapAlloc.{LacksMemory, TakesNoMemory, map_alloc_case, map_alloc_meaning}

never_lacks : {V P R : Type 0} (IsOutput : V → P → Type 0) (Gives : P → Result R OutOfMemory → Type 0) (a : Outcome V) → TakesNoMemory Gives →
    LacksMemory IsOutput Gives a → ⊥
never_lacks IsOutput Gives (Accept n v) f h = f h.0 h.1 h.3
never_lacks IsOutput Gives Refuse f h = h
never_lacks IsOutput Gives (Stop why) f h = h

module _ {I A V P R : Type 0} (w : Model I A) (IsOutput : V → P → Type 0) (Takes : P → Type 0) (Gives : P → Result R OutOfMemory → Type 0) where
  map_alloc_laws : {E : Type 0} → CaseLaws {E = E} true w w (map_alloc_case IsOutput Takes Gives)
  map_alloc_laws {E} =
      let l = fixed_laws {P = V} w {E = E} true in
      record {
        at_known = l.at_known;
        at_related = l.at_related;
        at_consistent = l.at_consistent;
        keeps = l.keeps;
        same = l.same;
        consistent = l.consistent;
        place = l.place;
        never_fails = l.never_fails;
        blames = l.blames;
        part_frugal = λ Part mode h. h.0;
        asks_none = λ Part mode i a h g. never_lacks IsOutput Gives a (h.1 g.0) g.1;
      }

module _ {I A V P R E : Type 0} {w : Model I A} {IsOutput : V → P → Type 0} {Takes : P → Type 0} (Gives : P → Result R OutOfMemory → Type 0)
    {m : Meaning I V E} where
  pub map_alloc_lawful : IsLawful w m → IsLawful w (map_alloc_meaning IsOutput Takes Gives m)
  map_alloc_lawful l = case_lawful (map_alloc_laws w IsOutput Takes Gives) l

  pub map_alloc_steady : IsSteady w m → IsSteady w (map_alloc_meaning IsOutput Takes Gives m)
  map_alloc_steady l = case_steady (map_alloc_laws w IsOutput Takes Gives) refl l
