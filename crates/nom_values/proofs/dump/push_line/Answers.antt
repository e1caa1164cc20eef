use Rattle.std.proofs.Common.{◌-◌, ◌*◌, ◌++◌, ap, ◌∙◌, false, length}
use Rattle.std.specs.Prelude.{replicate, flat_map, map}
use Rattle.std.specs.Fmt.{digits, padded_integral, shown_prefix, radix_prefix}
use Rattle.nom_values.specs.Dumps.{hex_byte, shown_byte, offset_digits}
use Rattle.nom_values.proofs.DumpLines.{offset_written, line_joined}
use Rattle.nom_values.proofs.dump.push_line.Goals as goal

pub returns : goal.returns
returns g c =
    let bs = c.args.bytes.now in
    let written = c.as_bytes.ensures.value ∙
    offset_written _ _ _ c.args.offset c.in_radix.ensures
    (ap (λ s. padded_integral s false (shown_prefix s (radix_prefix c.in_radix.result.base)) (digits 16 false c.args.offset)) c.laid_out.ensures)
    c.in_ok-digits.ensures.ok in
    line_joined c.args.dump.now.items (offset_digits c.args.offset) (flat_map hex_byte bs) (replicate (3 * (c.args.chunk - length bs)) 32) (map shown_byte bs)
    (c.in_ok-extend_from_slice.ensures.items ∙ ap (λ l. c.args.dump.now.items ++ l) written) c.in_ok-extend_from_slice-2.ensures.items
    c.in_ok-push_digits.ensures c.in_ok-push_blanks.ensures
    c.in_ok-extend_from_slice-3.ensures.items c.in_ok-push_shown.ensures c.in_ok-extend_from_slice-4.ensures.items
