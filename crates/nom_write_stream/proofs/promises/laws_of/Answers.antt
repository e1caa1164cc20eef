use Rattle.nom_write_stream.proofs.promises.laws_of.Goals as goal

pub returns : goal.returns
returns g c =
    let writer = c.args._writer.now in
    record {
      lawful = g.met.P.Parser.lawful (g.P.Parser.state writer) c.requires.sound;
      steady = g.met.P.StreamParser.steady (g.P.Parser.state writer) c.requires.sound;
      pinned = g.met.P.StreamParser.pinned writer c.requires.sound;
      reads = g.met.P.Writer.reads writer c.requires.sound c.requires.can;
    }
