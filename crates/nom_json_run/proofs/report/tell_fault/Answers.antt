use Rattle.std.proofs.Common.{◌-◌, ◌^◌, ◌++◌, ◌∙◌, ap, length, subst, sym}
use Rattle.nom_report.specs.Left.{slice_place}
use Rattle.nom_report.specs.Rendered.{IsRendered}
use Rattle.nom_json_run.specs.Report.{TellsFault}
use Rattle.nom_json_run.proofs.report.tell_fault.Goals as goal

pub returns : goal.returns
returns g c =
    let name = c.args.name.now in
    let text = c.args.text.now in
    let error = c.in_ok-error.error in
    let same = c.as_bytes-bytes.ensures.value in
    let t = c.in_ok-render_from.ensures in
    record {
      error = error;
      tells = subst (λ b. TellsFault b c.args.fault error) same c.in_ok-error.ensures;
      rendered = subst (λ x. IsRendered slice_place name text (2 ^ 63 - length text) error x) (sym (t.2 ∙ ap (λ z. z ++ t.0) c.new-out.ensures.bytes))
          (subst (λ k. IsRendered slice_place name text k error t.0) (c.place.ensures ∙ ap (λ b. 2 ^ 63 - length b) same) t.1);
    }
