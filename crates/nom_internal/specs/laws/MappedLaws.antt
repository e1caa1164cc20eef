-- The laws of parts whose outputs or errors become others.
use Rattle.std.specs.Prelude.{true, refl}
use Rattle.nom_internal.specs.Prelude.{Model, View, Meaning, IsLawful, IsSteady, GivesFor}
use Rattle.nom_internal.specs.Prelude.{SeesConsistently, map_case, map_meaning, renamed_case, renamed_meaning}
use Rattle.nom_internal.specs.Prelude.{IsPinned}
use Rattle.nom_internal.specs.laws.CaseLaws.{CaseLaws, fixed_laws, case_lawful, case_steady}

-- what a closure gives for the outputs of one tree is equal as viewed, where they are
pub given_pinned : {V P R : Type 0} {argument : View P} {result : View R} {IsOutput : V → P → Type 0} {Gives : P → R → Type 0} →
    IsPinned argument IsOutput → SeesConsistently argument result Gives → IsPinned result (GivesFor IsOutput Gives)
given_pinned f s = record {
  one_view = λ t a b g h. s.consistent g.output h.output a b (f.one_view t g.output h.output g.is_output h.is_output) g.given h.given;
}

module _ {I A V P : Type 0} {w : Model I A} {IsOutput : V → P → Type 0} {Takes : P → Type 0} where
  map_laws : {E : Type 0} → CaseLaws {E = E} true w w (map_case IsOutput Takes)
  map_laws {E} =
      let l = fixed_laws {P = V} w {E = E} true in
      record {
        at_known = l.at_known;
        at_related = l.at_related;
        at_consistent = l.at_consistent;
        keeps = l.keeps;
        same = l.same;
        consistent = l.consistent;
        place = l.place;
        never_fails = l.never_fails;
        blames = l.blames;
        part_frugal = λ Part mode h. h;
        asks_none = λ Part mode i a h g. g;
      }

  module _ {E : Type 0} {m : Meaning I V E} where
    pub map_lawful : IsLawful w m → IsLawful w (map_meaning IsOutput Takes m)
    map_lawful l = case_lawful map_laws l

    pub map_steady : IsSteady w m → IsSteady w (map_meaning IsOutput Takes m)
    map_steady l = case_steady map_laws refl l

module _ {I A V E F : Type 0} {w : Model I A} {Makes : I → E → F → Type 0} {Grows : Type 0} where
  renamed_laws : CaseLaws true w w (renamed_case {V = V} Makes Grows)
  renamed_laws =
      let l = fixed_laws {P = V} w {E = E} true in
      record {
        at_known = l.at_known;
        at_related = l.at_related;
        at_consistent = l.at_consistent;
        keeps = l.keeps;
        same = l.same;
        consistent = l.consistent;
        place = l.place;
        never_fails = l.never_fails;
        blames = λ i a X Y e f h. (h.0, h.1, f h.0 h.2, h.3);
        part_frugal = λ Part mode h. h.0;
        asks_none = λ Part mode i a h g. h.1 g.1;
      }

  module _ {m : Meaning I V E} where
    pub renamed_lawful : IsLawful w m → IsLawful w (renamed_meaning Makes Grows m)
    renamed_lawful l = case_lawful renamed_laws l

    pub renamed_steady : IsSteady w m → IsSteady w (renamed_meaning Makes Grows m)
    renamed_steady l = case_steady renamed_laws refl l
