use Rattle.example_parts.specs.Tokens.{tokens_count}
use Rattle.example_parts.proofs.tokens.TokensInput.slice_index.Goals as goal

pub returns-then-self-count : goal.returns-then-self-count
returns-then-self-count c = tokens_count (λ t. t.tokens) (λ t. t.offset) c.args.self.now c.args.count c.if-self-count.true
