use Rattle.std.proofs.Common.{false, sym, ◌∙◌, inl}
use Rattle.nom_internal.proofs.Shown.{refused}
use Rattle.nom_bytes.proofs.UntilShown.{until_found, until_open, not_one}
use Rattle.nom_bytes.proofs.until.TakeUntilParser.process.Goals as goal

pub returns-in-Some-clause-shown : goal.returns-in-Some-clause-shown
returns-in-Some-clause-shown g c =
    until_found g.E.ParseError.errors g.met.I.FindSubstring.finding c.known.ensures c.in-Some.ensures (not_one _) c.take_from.ensures c.front.ensures

pub returns-in-None-clause-shown : goal.returns-in-None-clause-shown
returns-in-None-clause-shown g c = until_open g.E.ParseError.errors g.I.FindSubstring.finds false (g.I.FindSubstring.needle_model c.args.self.now.tag)
    (sym c.STREAMING.ensures ∙ c.if-STREAMING.true) c.in-None.ensures

pub returns-in-None-2-clause-shown : goal.returns-in-None-2-clause-shown
returns-in-None-2-clause-shown g c =
    refused c.refusal.ensures (inl (sym c.STREAMING.ensures ∙ c.if-STREAMING.false, c.in-None-2.ensures))
