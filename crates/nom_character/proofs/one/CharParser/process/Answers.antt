use Rattle.std.proofs.Common.{◌≡◌, ◌==◌, arith, ◌∙◌, ap, Some}
use Rattle.std.proofs.lemmas.Str.{len_utf8_bounds}
use Rattle.nom_character_first.specs.declared.first.Blame.TheVariants.{OfChar}
use Rattle.nom_character_first.proofs.Firsts.{head_lacking}
use Rattle.nom_character.proofs.one.CharParser.process.Goals as goal

pub returns-clause-shown : goal.returns-clause-shown
returns-clause-shown g c =
    let wanted = c.args.self.now.wanted in
    let bounds = len_utf8_bounds wanted in
    let lack = c.new-lack.ensures.some (omega (arith, c.len_utf8.ensures.value, bounds.0)) ∙ ap Some c.len_utf8.ensures.value in
    head_lacking g.I.Item.Value.code (λ x b. b ≡ (g.I.Item.Value.code x == wanted)) g.E.ParseError.errors (OfChar wanted) lack c.first_where.ensures
