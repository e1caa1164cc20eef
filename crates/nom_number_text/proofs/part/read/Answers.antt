use Rattle.std.proofs.Common.{◌≡◌, refl}
use Rattle.nom_number_text.proofs.Shapes.{part_wants, parts_want, parts_shown}
use Rattle.nom_number_text.proofs.part.read.Goals as goal

pub returns : goal.returns
returns g c =
    let mantissa = c.pair-shape.result.first.parser in
    let sign = mantissa.first.parser in
    let both = mantissa.second in
    let after = both.parsers.0.second in
    let alone = both.parsers.1 in
    let power = c.pair-shape.result.second.parser in
    let found = part_wants sign.parsers.0.wanted sign.parsers.1.wanted after.parsers.0.first.wanted alone.second.first.wanted power.first.parsers.0.wanted
    power.first.parsers.1.wanted after.parsers.0.second.class after.parsers.0.second.wanted after.parsers.1.class after.parsers.1.wanted
    alone.first.class alone.first.wanted
    power.second.parser.signed in
    let same : found ≡ parts_want =
    rw (
      c.pair-shape.ensures.first,
      c.pair-shape.ensures.second,
      c.pair-2.ensures.first,
      c.pair-2.ensures.second,
      c.opt.ensures,
      c.either.ensures.first,
      c.either.ensures.second,
      c.alt-both.ensures,
      c.pair.ensures.second,
      c.pair-alone.ensures.first,
      c.pair-alone.ensures.second,
      c.preceded-2.ensures.first,
      c.char-2.ensures,
      c.digit0-3.ensures.class,
      c.digit0-3.ensures.wanted,
      c.alt-after.ensures,
      c.preceded.ensures.first,
      c.preceded.ensures.second,
      c.char.ensures,
      c.digit0.ensures.class,
      c.digit0.ensures.wanted,
      c.digit0-2.ensures.class,
      c.digit0-2.ensures.wanted,
      c.opt-power.ensures,
      c.preceded-3.ensures.first,
      c.preceded-3.ensures.second,
      c.either-2.ensures.first,
      c.either-2.ensures.second,
      c.cut.ensures,
    ) refl in
    parts_shown g.I.Items.model g.I.Item.Value.code g.E.ParseError.errors found _ c.args.input _ same c.process.ensures.shown
