use Rattle.std.proofs.Common.{sym, ◌∙◌}
use Rattle.nom_number_text.specs.Exceptions.{letters_of}
use Rattle.nom_number_text.proofs.WordShown.{word_stands, word_absent, word_lacks, word_ends}
use Rattle.nom_number_text.proofs.word.WordParser.process.Goals as goal

pub returns-in-Stands-clause-shown : goal.returns-in-Stands-clause-shown
returns-in-Stands-clause-shown g c =
    word_stands g.I.Items.model g.I.Item.Value.code g.E.ParseError.errors _ c.args.input (letters_of c.args.self.now.word) c.letters.result.now
    c.letters.ensures _ _ c.in-Stands.ensures c.before-in-Stands.ensures

pub returns-in-Lacks-clause-shown : goal.returns-in-Lacks-clause-shown
returns-in-Lacks-clause-shown g c =
    word_lacks g.I.Items.model g.I.Item.Value.code g.E.ParseError.errors _ c.args.input (letters_of c.args.self.now.word) c.letters.result.now
    c.letters.ensures c.in-Lacks.letters c.in-Lacks.ensures _ (sym c.STREAMING.ensures ∙ c.if-STREAMING.true) (c.new.ensures.some c.in-Lacks.ensures.0)

pub returns-in-Lacks-2-clause-shown : goal.returns-in-Lacks-2-clause-shown
returns-in-Lacks-2-clause-shown g c =
    word_ends g.I.Items.model g.I.Item.Value.code g.E.ParseError.errors _ c.args.input (letters_of c.args.self.now.word) c.letters.result.now
    c.letters.ensures c.in-Lacks-2.field-0 c.in-Lacks-2.ensures _ (sym c.STREAMING.ensures ∙ c.if-STREAMING.false) c.refusal.ensures

pub returns-in-Differs-clause-shown : goal.returns-in-Differs-clause-shown
returns-in-Differs-clause-shown g c =
    word_absent g.I.Items.model g.I.Item.Value.code g.E.ParseError.errors _ c.args.input (letters_of c.args.self.now.word) c.letters.result.now
    c.letters.ensures _ c.in-Differs.ensures c.refusal-in-Differs.ensures
