use Rattle.nom_internal.specs.Prelude.{Refuses, IsInside, IsOutside}
use Rattle.nom_bytes.proofs.RunShown.{split_shown}
use Rattle.nom_character.specs.ClassRuns.{IsOf, is_wanted, wanted_error, wanted_grows}
use Rattle.nom_character.proofs.class.class_run.Goals as goal

pub returns : goal.returns
returns g c = split_shown g.I.Items.model g.met.I.Items.lawful (λ x. IsInside c.args.class (g.I.Item.Value.code x))
    (λ x. IsOutside c.args.class (g.I.Item.Value.code x)) (IsOf g.I.Item.Value.code c.args.class) (λ x p. p) (λ x p. p)
    (is_wanted c.args.wanted) (wanted_error g.E.ParseError.errors c.args.wanted) (wanted_grows g.E.ParseError.errors c.args.wanted) _ _
    (Refuses (wanted_error g.E.ParseError.errors c.args.wanted c.args.input) (wanted_grows g.E.ParseError.errors c.args.wanted) g.OM.Error.Mode.BUILDS)
    (λ e h. h) c.class_split.result c.class_split.ensures
