use Rattle.std.proofs.Common.{true}
use Rattle.nom_bytes.proofs.RunShown.{split_shown}
use Rattle.nom_bytes.proofs.run_of_one.SplitPosition1Parser.process.Goals as goal

pub returns-clause-shown : goal.returns-clause-shown
returns-clause-shown g c =
    split_shown _ g.met.I.Items.lawful _ _ _ (λ x p. p)
    (λ x p. p) true (λ i. g.E.ParseError.errors.of_kind i c.args.self.now.kind) g.E.ParseError.errors.grows _ _ _ (λ e h. h)
    c.split1.result c.split1.ensures
