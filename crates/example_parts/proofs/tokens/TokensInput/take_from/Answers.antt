use Rattle.std.proofs.Common.{rules, ◌≤◌, length, arith, length-drop}
use Rattle.std.proofs.lemmas.List.{take_all}
use Rattle.example_parts.specs.Tokens.{place_within, tokens_rest}
use Rattle.example_parts.proofs.tokens.TokensInput.take_from.Goals as goal

pub slice_bounds-result-count : goal.slice_bounds-result-count
slice_bounds-result-count c = place_within (λ t. t.tokens) (λ t. t.offset) c.args.self.now c.args.index c.requires

pub slice_bounds-result-start : goal.slice_bounds-result-start
slice_bounds-result-start c =
    let h : c.args.index ≤ length c.args.self.now.tokens.now = place_within (λ t. t.tokens) (λ t. t.offset) c.args.self.now c.args.index c.requires in
    search rules

pub returns : goal.returns
returns c =
    tokens_rest (λ t. t.tokens) (λ t. t.offset) c.args.self.now _ c.args.index c.requires c.known.ensures
    (take_all _ _ (omega (arith, length-drop c.args.index c.args.self.now.tokens.now))) c.saturating_add.ensures
