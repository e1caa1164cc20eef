use Rattle.std.proofs.Common.{Bool, sym, subst}
use Rattle.nom_internal.specs.Prelude.{bytes_model, ParsesMeaning}
use Rattle.nom_stream.proofs.item_parser.parse_item.Goals as goal

pub returns-then-more : goal.returns-then-more
returns-then-more g c =
    let m = (g.P.Parser.grammar (g.P.Parser.state c.args.parser)).meaning in
    record {
      parses = record {
        shown = subst (λ (b : Bool). ParsesMeaning bytes_model (g.P.Parser.grammar (g.P.Parser.state c.args.parser)).IsOutput m b c.args.input
            c.parse.result) (sym c.if-more.true) c.parse.ensures.shown;
        lawful = c.laws_of.ensures.lawful;
        steady = c.laws_of.ensures.steady;
      };
    }

pub returns : goal.returns
returns g c =
    let m = (g.P.Parser.grammar (g.P.Parser.state c.args.parser)).meaning in
    record {
      parses = record {
        shown = subst (λ (b : Bool). ParsesMeaning bytes_model (g.P.Parser.grammar (g.P.Parser.state c.args.parser)).IsOutput m b c.args.input
            c.parse_complete.result) (sym c.if-more.false) c.parse_complete.ensures.shown;
        lawful = c.laws_of.ensures.lawful;
        steady = c.laws_of.ensures.steady;
      };
    }
