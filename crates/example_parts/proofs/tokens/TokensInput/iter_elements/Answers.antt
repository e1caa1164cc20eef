use Rattle.std.proofs.lemmas.Iterator.Consumers.{YieldsList-from_copied}
use Rattle.example_parts.proofs.TokenItems.{items_given}
use Rattle.example_parts.proofs.tokens.TokensInput.iter_elements.Goals as goal

pub returns-clause-gives : goal.returns-clause-gives
returns-clause-gives c = (YieldsList-from_copied (items_given _ _ c.args.self.now.tokens.now c.copied.ensures.source c.iter.ensures.rest)).runs
