use Rattle.std.proofs.Common.{◌<◌, length, arith}
use Rattle.nom_traits.proofs.RestCuts.{bytes_cut, bytes_nowhere}
use Rattle.nom_traits.proofs.rests.RefSliceU8CutRest.cut_rest.Goals as goal

pub take_from-requires : goal.take_from-requires
take_from-requires c = (bytes_cut c.args.self c.args.left c.if-rest-whole.true).place

pub returns-then-rest-whole : goal.returns-then-rest-whole
returns-then-rest-whole c = (_, bytes_cut c.args.self c.args.left c.if-rest-whole.true, c.take_from.ensures)

pub returns-else-rest-whole : goal.returns-else-rest-whole
returns-else-rest-whole c =
    let h : length c.args.self.now < length c.args.left.now = omega (arith, c.if-rest-whole.false) in
    bytes_nowhere c.args.self c.args.left h
