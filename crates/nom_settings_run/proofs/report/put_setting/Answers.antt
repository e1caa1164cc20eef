use Rattle.std.proofs.Common.{sym, ◌∙◌, ap, chars}
use Rattle.std.specs.Prelude.{encode_utf8_all}
use Rattle.std.proofs.lemmas.Str.{encodes-chars}
use Rattle.nom_run.proofs.Piecewise.{puts_same}
use Rattle.nom_settings_run.proofs.Reported.{same_line}
use Rattle.nom_settings_run.proofs.report.put_setting.Goals as goal

pub returns-clause-puts : goal.returns-clause-puts
returns-clause-puts g c =
    let title = sym (encodes-chars c.fragment-title.result.now c.fragment-title.utf8) ∙ ap (λ x. encode_utf8_all (chars x.now)) c.fragment-title.ensures in
    let key = sym (encodes-chars c.fragment-key.result.now c.fragment-key.utf8) ∙ ap (λ x. encode_utf8_all (chars x.now)) c.fragment-key.ensures in
    let held = sym (encodes-chars c.fragment-held.result.now c.fragment-held.utf8) ∙ ap (λ x. encode_utf8_all (chars x.now)) c.fragment-held.ensures in
    puts_same (same_line _ _ _ _ _ _ _ _ _ _ c.line.ensures c.column.ensures title key held) c.put_line.ensures.puts
