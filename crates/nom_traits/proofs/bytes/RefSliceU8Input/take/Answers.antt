use Rattle.std.proofs.Common.{◌≤◌, length, refl, arith, length-take}
use Rattle.nom_traits.proofs.ByteCuts.{place_within, bytes_front}
use Rattle.nom_traits.proofs.bytes.RefSliceU8Input.take.Goals as goal

pub slice_bounds-result-end : goal.slice_bounds-result-end
slice_bounds-result-end c =
    let h : c.args.index ≤ length c.args.self.now.now = place_within c.args.self.now c.args.index c.requires in
    omega (arith, length-take c.args.index c.args.self.now.now)

pub returns : goal.returns
returns c = bytes_front c.args.self.now _ c.args.index c.known.ensures c.requires refl
