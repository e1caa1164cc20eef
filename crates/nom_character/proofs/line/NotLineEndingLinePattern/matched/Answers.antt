use Rattle.std.proofs.Common.{◌≡◌, false, rules, sym, ◌∙◌, subst}
use Rattle.nom_internal.specs.Prelude.{IsSuffixOf}
use Rattle.nom_character.specs.LineMatches.{is_line_code}
use Rattle.nom_character.proofs.LineMatching.{end_head, line_shown, all_stands, all_begins}
use Rattle.nom_character.proofs.line.NotLineEndingLinePattern.matched.Goals as goal

pub line_end_at-requires : goal.line_end_at-requires
line_end_at-requires g c =
    let ends = c.in-Some.ensures in
    let stops = ends.is_run.stops in (
      ends.item,
      end_head g.I.Items.model g.met.I.Items.lawful g.I.Item.Value.code g.S.IsStreaming.STREAMING _ _ (λ x p. search rules) c.args.input
          c.take_from.result c.in-Some.n ends c.take_from.ensures,
      search rules,
    )

pub returns-in-Some : goal.returns-in-Some
returns-in-Some g c =
    line_shown g.I.Items.model g.met.I.Items.lawful g.I.Item.Value.code g.S.IsStreaming.STREAMING _ _ (λ x p. search rules) c.args.input
    c.take_from.result c.in-Some.n c.in-Some.ensures c.take_from.ensures c.line_end_at.result c.line_end_at.ensures

pub returns-in-None : goal.returns-in-None
returns-in-None g c =
    all_begins g.I.Items.model g.met.I.Items.lawful g.I.Item.Value.code g.S.IsStreaming.STREAMING (λ x. is_line_code (g.I.Item.Value.code x) ≡ false)
    (λ x. Unit {0}) (λ x p. p) c.args.input (λ k d p. let h = c.in-None.ensures k d p in search rules) (sym c.STREAMING.ensures ∙ c.if-STREAMING.true)

pub returns-in-None-2 : goal.returns-in-None-2
returns-in-None-2 g c =
    let rest = subst (λ n. IsSuffixOf g.I.Items.model c.args.input n c.take_from-in-None-2.result) c.input_len.ensures c.take_from-in-None-2.ensures in
    all_stands g.I.Items.model g.met.I.Items.lawful g.I.Item.Value.code g.S.IsStreaming.STREAMING (λ x. is_line_code (g.I.Item.Value.code x) ≡ false)
    (λ x. Unit {0}) (λ x p. p) c.args.input (λ k d p. let h = c.in-None-2.ensures k d p in search rules) c.take_from-in-None-2.result rest
    (sym c.STREAMING.ensures ∙ c.if-STREAMING.false)
