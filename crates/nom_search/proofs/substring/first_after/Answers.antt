use Rattle.std.proofs.Common.{subst, Some, None}
use Rattle.memchr.specs.Find.{OccursAt, FindsNeedle}
use Rattle.nom_search.proofs.BytePlaces.{rest_is, found_there, found_after, none_after}
use Rattle.nom_search.proofs.substring.first_after.Goals as goal

pub returns-then-is_prefix : goal.returns-then-is_prefix
returns-then-is_prefix c =
    let bs = c.args.bytes.now in
    let t = c.args.needle.now in
    found_there bs t c.args.start c.requires.room c.requires.none
    (subst (λ rest. OccursAt rest t 0) (rest_is bs c.args.start) (c.is_prefix.ensures.0 c.if-is_prefix.true))

pub returns-in-Some : goal.returns-in-Some
returns-in-Some c =
    let bs = c.args.bytes.now in
    let t = c.args.needle.now in
    let n = c.in-Some.place in
    found_after bs t c.args.start c.requires.room c.requires.none n (subst (λ rest. FindsNeedle rest t 0 (Some n)) (rest_is bs c.args.start) c.in-Some.ensures)

pub returns-in-None : goal.returns-in-None
returns-in-None c =
    let bs = c.args.bytes.now in
    let t = c.args.needle.now in
    none_after bs t c.args.start c.requires.room c.requires.none (subst (λ rest. FindsNeedle rest t 0 None) (rest_is bs c.args.start) c.in-None.ensures)
