use Rattle.nom_repeat.proofs.Parts.{shown_as}
use Rattle.nom_operators.specs.Prefixes.{prefixes_in}
use Rattle.nom_operators.proofs.PrefixesShown.{list_of_none}
use Rattle.nom_language.proofs.prefixes.PrefixListParser.process.Goals as goal

pub returns-clause-shown : goal.returns-clause-shown
returns-clause-shown g c = shown_as (λ vs k. list_of_none prefixes_in _ (g.F.Parser.grammar (g.F.Parser.state c.args.self.now.parser)).IsOutput _ _ vs k
    c.no_prefixes-none.ensures.empty) c.any_items.ensures.shown
