use Rattle.std.proofs.Common.{refl}
use Rattle.nom_calls.specs.laws.FuncLaws.{stream_func_lawful, stream_func_steady}
use Rattle.nom_internal.specs.Prelude.{bytes_model}
use Rattle.nom_stream.proofs.Functions.{item_cut, item_stopped}
use Rattle.nom_stream.proofs.function.ItemFuncItemParser.item.Goals as goal

pub returns-in-Ok-clause-parses : goal.returns-in-Ok-clause-parses
returns-in-Ok-clause-parses g c = record {
  shown = item_cut (λ j. refl) c.known.ensures c.in-Ok.ensures c.cut.ensures;
  lawful = stream_func_lawful bytes_model g.O.Viewed.view _ _ _;
  steady = stream_func_steady bytes_model g.O.Viewed.view _ _ _;
}

pub returns-in-Err-clause-parses : goal.returns-in-Err-clause-parses
returns-in-Err-clause-parses g c = record {
  shown = item_stopped _ c.known.ensures c.in-Err.ensures;
  lawful = stream_func_lawful bytes_model g.O.Viewed.view _ _ _;
  steady = stream_func_steady bytes_model g.O.Viewed.view _ _ _;
}
