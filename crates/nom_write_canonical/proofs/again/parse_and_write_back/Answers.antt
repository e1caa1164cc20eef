use Rattle.std.proofs.Common.{Ok, true, refl, sym, subst}
use Rattle.nom_internal.specs.Prelude.{Parses}
use Rattle.nom_write_canonical.proofs.again.parse_and_write_back.Goals as goal

pub write_back-written-requires-clause-read : goal.write_back-written-requires-clause-read
write_back-written-requires-clause-read g c =
    subst (λ s. Parses g.I.Items.model (g.P.Parser.grammar s) true c.args.input (Ok c.in-Ok.accepted)) (sym c.in-Ok.ensures.kept) c.in-Ok.ensures.shown

pub returns-in-Ok-clause-shown : goal.returns-in-Ok-clause-shown
returns-in-Ok-clause-shown g c =
    (Ok c.in-Ok.accepted, c.in-Ok.ensures.shown, (c.write_back-written.result, refl, c.write_back-written.ensures.written))
