use Rattle.std.proofs.Common.{◌≤◌, length, refl, arith, length-take}
use Rattle.example_parts.specs.Tokens.{place_within, tokens_front}
use Rattle.example_parts.proofs.tokens.TokensInput.take.Goals as goal

pub slice_bounds-result-end : goal.slice_bounds-result-end
slice_bounds-result-end c =
    let h : c.args.index ≤ length c.args.self.now.tokens.now = place_within (λ t. t.tokens) (λ t. t.offset) c.args.self.now c.args.index c.requires in
    omega (arith, length-take c.args.index c.args.self.now.tokens.now)

pub returns : goal.returns
returns c = tokens_front (λ t. t.tokens) (λ t. t.offset) c.args.self.now _ c.args.index c.requires c.known.ensures refl refl
