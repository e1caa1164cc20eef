use Rattle.std.proofs.Common.{subst}
use Rattle.nom_internal.specs.Prelude.{IsSuffixOf}
use Rattle.nom_character_first.specs.laws.FirstItemLaws.{head_place}
use Rattle.nom_character_first.proofs.first.after.Goals as goal

pub take_from-requires : goal.take_from-requires
take_from-requires g c = head_place g.I.Items.model c.args.input c.args.item _ c.requires c.item_len.ensures

pub returns : goal.returns
returns g c = subst (λ n. IsSuffixOf g.I.Items.model c.args.input n c.take_from.result) c.item_len.ensures c.take_from.ensures
