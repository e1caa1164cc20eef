use Rattle.std.proofs.Common.{false, ◌≡◌, [], refl, sym, ◌∙◌, append-nil}
use Rattle.nom_combinator.specs.Ends.{all_consuming_of}
use Rattle.nom_write.specs.laws.WholeReads.{whole_ends}
use Rattle.nom_write.proofs.Reading.{reads_back}
use Rattle.nom_write.proofs.whole.parse_end_back.Goals as goal

pub returns-clause-back : goal.returns-clause-back
returns-clause-back g c v xs form e =
    let p = c.args.parser.now.parser in
    let errs = g.P.Error.ParseError.errors in
    let h = g.P.Parser.grammar (g.P.Parser.state p) in
    reads_back g.I.Items.model g.met.I.Items.lawful g.P.Output.Viewed.view (g.P.StreamParser.Pins p) (all_consuming_of g.I.Items.model errs h)
    (g.met.P.StreamParser.pinned p c.requires.sound) (λ rest. rest ≡ []) false v xs [] c.args.input c.parse_complete.result
    (whole_ends g.met.I.Items.lawful errs (g.met.P.Ending.ends p c.requires.sound c.requires.can c.requires.may) v xs form) c.known.ensures
    (e ∙ sym (append-nil xs)) refl c.parse_complete.ensures.shown
