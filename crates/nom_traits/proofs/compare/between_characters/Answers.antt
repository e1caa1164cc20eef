use Rattle.std.proofs.Common.{rules}
use Rattle.nom_traits.proofs.TextCompared.{text_ok, text_inside, text_incomplete, text_error}
use Rattle.nom_traits.proofs.compare.between_characters.Goals as goal

pub returns-in-Ok : goal.returns-in-Ok
returns-in-Ok c form f h =
    text_ok form f c.args.text c.known.ensures c.args.tag.now (rw c.in-Ok.is at h) ((c.if-is_char_boundary.ensures.test).0 (search rules))

pub returns-in-Ok-2 : goal.returns-in-Ok-2
returns-in-Ok-2 c form f h =
    text_inside form f c.args.text c.known.ensures c.args.tag.now (rw c.in-Ok-2.is at h)
    (λ p. let t = (c.if-is_char_boundary.ensures.test).1 p in search rules)

pub returns-in-Incomplete : goal.returns-in-Incomplete
returns-in-Incomplete c form f h = text_incomplete form f c.args.text c.known.ensures c.args.tag.now (rw c.in-Incomplete.is at h)

pub returns-in-Error : goal.returns-in-Error
returns-in-Error c form f h = text_error form f c.args.text c.known.ensures c.args.tag.now (rw c.in-Error.is at h)
