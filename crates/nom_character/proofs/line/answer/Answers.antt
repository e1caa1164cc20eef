use Rattle.std.proofs.Common.{refl, subst}
use Rattle.nom_internal.specs.Prelude.{Slice, IsFirst}
use Rattle.nom_internal.proofs.Shown.{accepted, undecided, refused}
use Rattle.nom_character.specs.LineMatches.{IsMatched}
use Rattle.nom_character.proofs.line.answer.Goals as goal

pub returns-in-Full : goal.returns-in-Full
returns-in-Full g c pattern h =
    let w = g.I.Items.model in
    let found = subst (IsMatched w pattern g.OM.Incomplete.IsStreaming.STREAMING c.args.input) c.in-Full.is h in
    let slice : Slice w = record { items = found.1.front; mark = w.mark c.args.input } in
    let first : IsFirst w c.args.input found.0 slice =
    record { rest = w.elements c.in-Full.rest; whole = found.1.whole; length_is = found.1.length_is; mark_is = refl } in
    accepted slice found.1 (first, found.2) (c.before-in-Full.ensures found.0 slice found.1 first)

pub returns-in-Absent : goal.returns-in-Absent
returns-in-Absent g c pattern h =
    let found = subst (IsMatched g.I.Items.model pattern g.OM.Incomplete.IsStreaming.STREAMING c.args.input) c.in-Absent.is h in
    refused c.refusal.ensures found

pub returns-in-Partial : goal.returns-in-Partial
returns-in-Partial g c pattern h =
    let found = subst (IsMatched g.I.Items.model pattern g.OM.Incomplete.IsStreaming.STREAMING c.args.input) c.in-Partial.is h in
    undecided refl found
