use Rattle.std.proofs.Common.{get_or, refl, sym, ◌∙◌, ap, arith}
use Rattle.std.specs.Char.{to_ascii_lowercase}
use Rattle.nom_character_first.specs.laws.FirstItemLaws.{head_place}
use Rattle.nom_number_text.proofs.WordShown.{found_none, found_all, found_lacks, found_more}
use Rattle.nom_number_text.proofs.word.word_at.Goals as goal

pub loop-k-init : goal.loop-k-init
loop-k-init g c = found_none g.I.Items.model g.I.Item.Value.code c.args.word.now c.args.input g.met.I.Items.lawful c.known.ensures

pub take_from-rest-requires : goal.take_from-rest-requires
take_from-rest-requires g c = head_place g.I.Items.model c.loop-k.rest c.in-Some.item c.item_len.result c.in-Some.ensures c.item_len.ensures

pub returns-in-None : goal.returns-in-None
returns-in-None g c = found_lacks g.I.Items.model g.I.Item.Value.code c.args.word.now c.args.input c.loop-k.k c.loop-k.rest c.loop-k.invariant
    (get_or c.args.word.now c.loop-k.k 0) 0 c.loop-k-test.true refl _ refl c.in-None.ensures

pub loop-k-preserved : goal.loop-k-preserved
loop-k-preserved g c =
    let letter = sym (c.to_ascii_lowercase.ensures.value ∙ ap to_ascii_lowercase c.as_char.ensures) in
    found_more g.I.Items.model g.I.Item.Value.code c.args.word.now c.args.input c.loop-k.k c.loop-k.rest c.loop-k.invariant c.to_ascii_lowercase.result 0
    c.loop-k-test.true c.if-to_ascii_lowercase-word.true c.in-Some.item c.in-Some.ensures g.met.I.Items.lawful c.item_len.result
    c.take_from-rest.result c.item_len.ensures c.take_from-rest.ensures letter

pub returns : goal.returns
returns g c = found_all g.I.Items.model g.I.Item.Value.code c.args.word.now c.args.input c.loop-k.k c.loop-k.rest c.loop-k.invariant
    (omega (arith, c.loop-k-test.false))
