use Rattle.std.proofs.Common.{sym, ◌∙◌}
use Rattle.std.proofs.lemmas.List.Elements.{All-more}
use Rattle.nom_traits.specs.Classes.{IsIn, IsNotIn}
use Rattle.nom_traits.proofs.ByteRuns.{byte_ends, bytes_meet}
use Rattle.nom_traits.proofs.lanes.rest_outside.Goals as goal

pub returns-then-not-has_byte : goal.returns-then-not-has_byte
returns-then-not-has_byte c = byte_ends (IsIn c.args.set) (IsNotIn c.args.set) c.args.bytes c.loop-place.place c.loop-place-test.true
    c.loop-place.invariant (sym c.has_byte.ensures ∙ c.if-not-has_byte.true)

pub loop-place-preserved : goal.loop-place-preserved
loop-place-preserved c = All-more (IsIn c.args.set) c.args.bytes.now c.loop-place.place 0 c.loop-place-test.true c.loop-place.invariant
    (sym c.has_byte.ensures ∙ c.if-not-has_byte.false)

pub returns : goal.returns
returns c = bytes_meet (IsIn c.args.set) (IsNotIn c.args.set) c.args.bytes c.loop-place.place c.loop-place-test.false c.loop-place.invariant
