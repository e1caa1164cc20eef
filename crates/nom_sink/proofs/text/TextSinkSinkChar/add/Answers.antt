use Rattle.std.proofs.Common.{arith, ap, length, length-append}
use Rattle.std.specs.Prelude.{chars}
use Rattle.std.proofs.lemmas.Str.{IsUtf8-from_is_utf8, is_utf8-from_IsUtf8}
use Rattle.nom_sink.proofs.Texts.{few_chars}
use Rattle.nom_sink.proofs.text.TextSinkSinkChar.add.Goals as goal

pub add_chars-requires : goal.add_chars-requires
add_chars-requires g c = IsUtf8-from_is_utf8 c.args.self.now.bytes.items c.args.self.now.valid

pub overflow_add-sink : goal.overflow_add-sink
overflow_add-sink g c = omega (
  arith,
  c.args.self.now.counted,
  ap length c.in-Ok.ensures.ok,
  length-append (chars c.args.self.now.bytes.items) c.args.items.now,
  few_chars c.add_chars.new.bytes.items c.in-Ok.ensures.valid,
  c.add_chars.new.bytes.ok,
  c.add_chars.new.bytes.small,
)

pub invariant_of-sink : goal.invariant_of-sink
invariant_of-sink g c = record {
  valid = is_utf8-from_IsUtf8 c.add_chars.new.bytes.items c.in-Ok.ensures.valid;
  counted = omega (
    arith,
    c.args.self.now.counted,
    ap length c.in-Ok.ensures.ok,
    length-append (chars c.args.self.now.bytes.items) c.args.items.now,
  );
}
