use Rattle.std.proofs.Common.{arith, ap, length}
use Rattle.nom_search.specs.Reads.{bytes_length}
use Rattle.nom_located.proofs.located.Located.new_extra.Goals as goal

pub invariant_of-result : goal.invariant_of-result
invariant_of-result g c =
    let n = bytes_length g.I.Items.model g.I.AsBytes.bytes g.I.ByteItems.read g.met.I.ByteItems.reading c.args.fragment c.known.ensures in
    let m = ap length c.as_bytes-length.ensures in
    record {
      fits = record {
        fits = omega (arith, n, m, c.as_bytes-length.type_inv);
        line_from = omega arith;
        line_to = omega arith;
        column_from =
            omega arith;
        column_to = omega arith;
      };
    }
