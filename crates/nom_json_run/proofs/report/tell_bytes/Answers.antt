use Rattle.std.proofs.Common.{◌++◌, ◌∙◌, ap, refl}
use Rattle.nom_report.specs.Octets.{octets_report}
use Rattle.nom_json_run.proofs.Wanted.{all_after}
use Rattle.nom_json_run.proofs.report.tell_bytes.Goals as goal

pub returns : goal.returns
returns g c = record {
  source = c.args.bytes;
  source_is = refl;
  place = _;
  place_is = all_after c.args.bytes.now c.args.at;
  error = c.in_ok-error.error;
  wants = c.in_ok-error.ensures;
  text_is = c.in_ok-render_bytes.ensures ∙ ap (λ xs. xs ++ octets_report c.args.name.now c.args.bytes c.in_ok-error.error) c.new-out.ensures.bytes;
}
