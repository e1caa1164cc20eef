use Rattle.std.proofs.Common.{true, subst, ◌<◌}
use Rattle.nom_internal.specs.Prelude.{AreBytes}
use Rattle.nom_write_canonical.specs.laws.SequenceForms.{values_apart}
use Rattle.nom_write_canonical.proofs.Back.{writes_back}
use Rattle.nom_write_canonical.proofs.again.write_back.Goals as goal

pub returns-in-Ok-clause-written : goal.returns-in-Ok-clause-written
returns-in-Ok-clause-written g c =
    let parser = c.args.parser.now in
    let added = c.in-Ok.ensures.written in
    let all = subst AreBytes c.as_bytes.ensures (c.known-in-Ok.ensures).0 in
    let bytes = (values_apart (λ b. b < 256) (g.S.Sink.model.items c.args.out.now) added.0 (subst AreBytes added.1 all)).1 in (
      added.0,
      added.1,
      writes_back g.I.Items.model (λ b. b < 256) g.met.I.Items.lawful (g.P.Parser.grammar (g.P.Parser.state parser)) (g.P.Writer.Form parser)
          g.met.I.Items.values (g.met.P.Canonical.accepts_forms parser c.requires.canonical) (g.met.P.Canonical.one_form parser c.requires.canonical) true
          c.args.input c.args.rest c.args.value.now added.0 c.known.ensures c.requires.read bytes added.2,
    )
