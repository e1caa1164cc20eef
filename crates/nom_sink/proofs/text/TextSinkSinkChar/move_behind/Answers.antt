use Rattle.std.proofs.lemmas.Str.{IsUtf8-from_is_utf8, is_utf8-from_IsUtf8}
use Rattle.nom_sink.proofs.Texts.{moved_count}
use Rattle.nom_sink.proofs.text.TextSinkSinkChar.move_behind.Goals as goal

pub move_chars-requires : goal.move_chars-requires
move_chars-requires g c = record {
  valid = IsUtf8-from_is_utf8 c.args.self.now.bytes.items c.args.self.now.valid;
  start = c.requires.start;
}

pub invariant_of-sink : goal.invariant_of-sink
invariant_of-sink g c = record {
  valid = is_utf8-from_IsUtf8 c.move_chars.new.bytes.items c.move_chars.ensures.valid;
  counted = moved_count c.args.start c.args.middle c.args.self.now.bytes.items c.move_chars.new.bytes.items c.args.self.now.count
      c.args.self.now.counted c.move_chars.ensures.chars;
}
