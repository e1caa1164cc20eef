use Rattle.std.proofs.Common.{length, sym, subst, ◌≡◌}
use Rattle.nom_sink.specs.Written.{LacksRoom, Written}
use Rattle.nom_write.specs.laws.TextReads.{valid_items}
use Rattle.nom_write.proofs.texts.write_tag.Goals as goal

pub returns-clause-written : goal.returns-clause-written
returns-clause-written g c = subst (λ z. Written (λ xs. xs ≡ z) (LacksRoom (length z)) g.S.Sink.model c.args.out.now c.add_text.new.out c.add_text.result)
    (sym (valid_items c.args.tag.now c.utf8.tag)) c.add_text.ensures.written
