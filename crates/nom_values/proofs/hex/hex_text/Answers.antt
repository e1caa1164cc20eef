use Rattle.std.proofs.Common.{◌∙◌, ap}
use Rattle.std.specs.Prelude.{encode_utf8_all}
use Rattle.std.proofs.lemmas.Result.{IfOk-weaker}
use Rattle.bstr.specs.Utf8.{lossy_chars}
use Rattle.nom_values.proofs.AsciiDumps.{ascii_text}
use Rattle.nom_values.proofs.hex.hex_text.Goals as goal

pub returns-clause-ascii : goal.returns-clause-ascii
returns-clause-ascii g c h =
    let dumped = ap (λ l. encode_utf8_all (lossy_chars l)) (c.as_slice.ensures.value ∙ c.in_ok-dump.ensures.dump) ∙
    ascii_text c.args.chunk_size c.args.from c.args.bytes.now h in
    IfOk-weaker c.lossy_text.result _ _ (λ text e. e ∙ dumped) c.lossy_text.ensures.text
