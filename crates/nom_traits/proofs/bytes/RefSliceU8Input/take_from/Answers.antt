use Rattle.std.proofs.Common.{rules, ◌≤◌, length, arith, length-drop}
use Rattle.std.proofs.lemmas.List.{take_all}
use Rattle.nom_traits.proofs.ByteCuts.{place_within, bytes_rest}
use Rattle.nom_traits.proofs.bytes.RefSliceU8Input.take_from.Goals as goal

pub slice_bounds-result-count : goal.slice_bounds-result-count
slice_bounds-result-count c = place_within c.args.self.now c.args.index c.requires

pub slice_bounds-result-start : goal.slice_bounds-result-start
slice_bounds-result-start c =
    let h : c.args.index ≤ length c.args.self.now.now = place_within c.args.self.now c.args.index c.requires in
    search rules

pub returns : goal.returns
returns c =
    bytes_rest c.args.self.now _ c.args.index c.known.ensures c.requires (take_all _ _ (omega (arith, length-drop c.args.index c.args.self.now.now)))
