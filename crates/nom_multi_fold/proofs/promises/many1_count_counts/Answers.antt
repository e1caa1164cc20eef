use Rattle.nom_multi_fold.proofs.CountShown.{few}
use Rattle.nom_multi_fold.proofs.promises.many1_count_counts.Goals as goal

pub returns : goal.returns
returns g c s i n vs known fits a =
    few g.I.Items.model g.met.I.Items.lawful g.F.Error.ParseError.errors _ (g.met.F.Parser.lawful _ c.requires) s i n vs known fits a
