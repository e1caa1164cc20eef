use Rattle.std.proofs.Common.{◌∙◌, ap}
use Rattle.example_formats.proofs.NamedValues.{named_answer}
use Rattle.example_formats.proofs.named.named_value.Goals as goal

pub returns-clause-named : goal.returns-clause-named
returns-clause-named g c = named_answer _ _ _ (ap (λ p. p.wanted) c.separated_pair.ensures.sep ∙ c.char.ensures) (λ k b h. h) (λ k b h. h)
    c.args.input _ c.parse_complete.ensures.shown
