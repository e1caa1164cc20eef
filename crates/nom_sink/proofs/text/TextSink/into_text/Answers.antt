use Rattle.std.proofs.lemmas.Str.{IsUtf8-from_is_utf8}
use Rattle.nom_sink.proofs.text.TextSink.into_text.Goals as goal

pub unreachable-requires : goal.unreachable-requires
unreachable-requires g c = absurd (cc (c.in-Err.ensures.succeeds (IsUtf8-from_is_utf8 c.args.self.bytes.items c.args.self.valid)))
