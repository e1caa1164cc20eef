use Rattle.std.proofs.Common.{◌≡◌, true, arith}
use Rattle.nom_error.specs.declared.kind.ErrorKind.TheVariants as Kind
use Rattle.nom_character_first.specs.declared.first.Blame.TheVariants.{OfKind}
use Rattle.nom_character_first.proofs.Firsts.{head_lacking}
use Rattle.nom_character.proofs.one.AnyCharParser.process.Goals as goal

pub returns-clause-shown : goal.returns-clause-shown
returns-clause-shown g c =
    head_lacking g.I.Item.Value.code (λ x b. b ≡ true) g.E.ParseError.errors (OfKind Kind.Eof)
    (c.new-lack.ensures.some (omega arith)) c.first_where.ensures
