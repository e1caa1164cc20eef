use Rattle.std.proofs.Common.{arith, ◌<◌, length, true, ◌∙◌, ap, subst}
use Rattle.nom_stream.specs.Held.{held_of}
use Rattle.nom_stream.specs.Items.{Takes}
use Rattle.nom_stream.specs.Wanted.{wanted_of}
use Rattle.nom_stream.proofs.Telling.{decides_end, decides_fault, decides_full, decides_item, decides_lack, ends_by, goes_further, goes_short, stands_there}
use Rattle.nom_stream.proofs.stream.Stream.next_item.Goals as goal
use Rattle.nom_stream.proofs.stream.Stream.next_item.Goals.{in-Ok, in-Err-OutOfMemory}

pub returns-in-None-clause-decides : goal.returns-in-None-clause-decides
returns-in-None-clause-decides g c =
    let i = c.parses.invariant in
    let takes = subst (λ z. Takes (g.G.ItemParser.grammar z) true (held_of c.parses.self.held) (held_of c.take-taken.new.held) c.take-taken.result) i.kept
    c.take-taken.ensures.takes in
    decides_item g.R.Read.remaining _ _ _ _ i.so_far _ _ c.take-taken.result _ c.in-None.ensures takes c.take-taken.ensures.last c.tell.ensures.tells
    c.tell.ensures.offset c.tell.ensures.others

pub returns-then-self-clause-decides : goal.returns-then-self-clause-decides
returns-then-self-clause-decides g c =
    let i = c.parses.invariant in
    let there =
    stands_there g.R.Read.remaining g.G.ItemParser.grammar _ _ i.kept _ c.parses.self _ i.so_far c.take-taken.new.held _ _
    c.in-Some.ensures c.take-taken.ensures.stays c.take-taken.ensures.takes _ in
    let ends = ends_by g.G.ItemParser.grammar _ _ (c.take-taken.ensures.kept ∙ i.kept) c.end.ensures.ends in
    decides_end there _ _ c.if-self.true ends c.end.ensures.others

pub returns-then-lacks-clause-decides : goal.returns-then-lacks-clause-decides
returns-then-lacks-clause-decides g c =
    let i = c.parses.invariant in
    let there =
    stands_there g.R.Read.remaining g.G.ItemParser.grammar _ _ i.kept _ c.parses.self _ i.so_far c.take-taken.new.held _ _
    c.in-Some.ensures c.take-taken.ensures.stays c.take-taken.ensures.takes _ in
    decides_lack there c.if-lacks.true

pub returns-then-self-held-clause-decides : goal.returns-then-self-held-clause-decides
returns-then-self-held-clause-decides g c =
    let i = c.parses.invariant in
    let there =
    stands_there g.R.Read.remaining g.G.ItemParser.grammar _ _ i.kept _ c.parses.self _ i.so_far c.take-taken.new.held _ _
    c.in-Some.ensures c.take-taken.ensures.stays c.take-taken.ensures.takes _ in
    decides_full there c.if-self.false (omega (arith, c.len-held.ensures, c.if-self-held.true))

pub returns-in-Err-Fault-clause-decides : goal.returns-in-Err-Fault-clause-decides
returns-in-Err-Fault-clause-decides g c =
    let i = c.parses.invariant in
    let there =
    stands_there g.R.Read.remaining g.G.ItemParser.grammar _ _ i.kept _ c.parses.self _ i.so_far c.take-taken.new.held _ _
    c.in-Some.ensures c.take-taken.ensures.stays c.take-taken.ensures.takes _ in
    decides_fault there c.if-self.false _ _ _ _ c.in-Err-Fault.field-0-is c.in-Err-Fault.ensures

pub parses-preserved : goal.parses-preserved
parses-preserved g c =
    let i = c.parses.invariant in
    let few : length (held_of c.take-taken.new.held) < c.parses.self.settings.most = omega (arith, c.len-held.ensures, c.if-self-held.false) in
    let there =
    stands_there g.R.Read.remaining g.G.ItemParser.grammar _ _ i.kept _ c.parses.self _ i.so_far c.take-taken.new.held _ _
    c.in-Some.ensures c.take-taken.ensures.stays c.take-taken.ensures.takes _ in
    let as_many = c.wanted-wanted.ensures.wanted ∙ ap (wanted_of c.parses.self.settings c.in-Some.needed) c.len-held.ensures in
    record {
      kept = c.take-taken.ensures.kept ∙ i.kept;
      so_far = elim c.match-fill.branch [
        | in-Ok w ↦ goes_further there c.if-self.false few c.if-lacks.false _ as_many c.fill.new.self _ w.in-Ok.ensures c.match-fill.lacks
            w.lacks-is
        | in-Err-OutOfMemory w ↦ goes_short there c.if-self.false few c.if-lacks.false _ as_many c.fill.new.self _ w.in-Err-OutOfMemory.field-0-is
            w.in-Err-OutOfMemory.ensures c.match-fill.lacks w.lacks-is
      ];
    }
