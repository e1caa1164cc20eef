use Rattle.std.proofs.Common.{◌≡◌, refl}
use Rattle.nom_number_text.proofs.Shapes.{wants, fraction_wants, shape_shown}
use Rattle.nom_number_text.proofs.float.RecognizeFloatParser.process.Goals as goal

pub returns-clause-shown : goal.returns-clause-shown
returns-clause-shown g c =
    let shape = c.recognize-shape.result.parser in
    let sign = shape.first.parser in
    let whole = shape.second.first.parsers.0.parser in
    let part = shape.second.first.parsers.1.parser in
    let exponent = shape.second.second.parser.parser in
    let after = exponent.second.first.parser in
    let found = wants sign.parsers.0.wanted sign.parsers.1.wanted whole.second.parser.first.wanted part.first.wanted exponent.first.parsers.0.wanted
    exponent.first.parsers.1.wanted after.parsers.0.wanted after.parsers.1.wanted in
    let same : found ≡ fraction_wants =
    rw (
      c.recognize-shape.ensures,
      c.pair-5.ensures.first,
      c.pair-5.ensures.second,
      c.pair-4.ensures.first,
      c.pair-4.ensures.second,
      c.opt-4.ensures,
      c.either-3.ensures.first,
      c.either-3.ensures.second,
      c.alt-decimal.ensures,
      c.recognize.ensures,
      c.recognize-2.ensures,
      c.pair-whole.ensures.second,
      c.opt-2.ensures,
      c.pair.ensures.first,
      c.char.ensures,
      c.pair-2.ensures.first,
      c.char-2.ensures,
      c.opt-5.ensures,
      c.recognize-exponent.ensures,
      c.pair-3.ensures.first,
      c.pair-3.ensures.second,
      c.either-2.ensures.first,
      c.either-2.ensures.second,
      c.pair-digits.ensures.first,
      c.opt-3.ensures,
      c.either.ensures.first,
      c.either.ensures.second,
    ) refl in
    shape_shown g.I.Items.model g.I.Item.Value.code g.E.ParseError.errors found _ c.args.input _ same c.process.ensures.shown
