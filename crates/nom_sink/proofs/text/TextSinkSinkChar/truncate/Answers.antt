use Rattle.std.proofs.Common.{arith, ap, sym, ◌∙◌, length}
use Rattle.std.specs.Prelude.{chars}
use Rattle.std.proofs.lemmas.List.{length-take-le}
use Rattle.std.proofs.lemmas.Str.{IsUtf8-from_is_utf8, is_utf8-from_IsUtf8}
use Rattle.nom_sink.proofs.text.TextSinkSinkChar.truncate.Goals as goal

pub keep_chars-requires : goal.keep_chars-requires
keep_chars-requires g c = IsUtf8-from_is_utf8 c.args.self.now.bytes.items c.args.self.now.valid

pub invariant_of-sink : goal.invariant_of-sink
invariant_of-sink g c = record {
  valid = is_utf8-from_IsUtf8 c.keep_chars.new.bytes.items c.keep_chars.ensures.valid;
  counted = sym (ap length c.keep_chars.ensures.chars ∙ length-take-le c.args.len (chars c.args.self.now.bytes.items)
      (omega (arith, c.if-len-sink.true, c.args.self.now.counted)));
}
