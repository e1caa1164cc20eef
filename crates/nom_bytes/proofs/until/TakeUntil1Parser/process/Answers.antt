use Rattle.std.proofs.Common.{true, Some, sym, ◌∙◌, inl, inr, subst, refl}
use Rattle.nom_internal.proofs.Shown.{refused}
use Rattle.nom_bytes.proofs.UntilShown.{until_found, until_open, not_none}
use Rattle.nom_bytes.proofs.until.TakeUntil1Parser.process.Goals as goal

pub returns-in-Some-eq0-clause-shown : goal.returns-in-Some-eq0-clause-shown
returns-in-Some-eq0-clause-shown g c =
    let found = g.I.FindSubstring.finds (g.I.FindSubstring.needle_model c.args.self.now.tag) (g.I.Items.model.elements c.args.input) in
    refused c.refusal.ensures (inr (refl, subst (λ n. found (Some n)) c.in-Some-eq0.field-0-test c.in-Some-eq0.ensures))

pub returns-in-Some-clause-shown : goal.returns-in-Some-clause-shown
returns-in-Some-clause-shown g c =
    until_found g.E.ParseError.errors g.met.I.FindSubstring.finding c.known.ensures c.in-Some.ensures (λ e. not_none _ c.in-Some.n-test.1)
    c.take_from.ensures c.front.ensures

pub returns-in-None-clause-shown : goal.returns-in-None-clause-shown
returns-in-None-clause-shown g c = until_open g.E.ParseError.errors g.I.FindSubstring.finds true (g.I.FindSubstring.needle_model c.args.self.now.tag)
    (sym c.STREAMING.ensures ∙ c.if-STREAMING.true) c.in-None.ensures

pub returns-in-None-2-clause-shown : goal.returns-in-None-2-clause-shown
returns-in-None-2-clause-shown g c =
    refused c.refusal-in-None-2.ensures (inl (sym c.STREAMING.ensures ∙ c.if-STREAMING.false, c.in-None-2.ensures))
