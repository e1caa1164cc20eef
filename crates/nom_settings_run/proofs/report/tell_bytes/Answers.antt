use Rattle.std.proofs.Common.{[], ◌∷◌, ap, arith, length}
use Rattle.nom_internal.specs.Prelude.{bytes_model}
use Rattle.nom_calls.specs.ByteCuts.{byte_cuts}
use Rattle.nom_located.specs.Located.{located, place}
use Rattle.nom_located.specs.laws.MovingLaws.{place_moving}
use Rattle.nom_settings_run.proofs.report.tell_bytes.Goals as goal

pub take_from-there-requires : goal.take_from-there-requires
take_from-there-requires g c =
    let e = ap (λ s. length s.now) c.new-start.ensures.0 in
    place_moving (located (λ x. x.fragment) (λ x. place x.offset x.line x.column) (λ x. x.extra) (λ b. b ∷ [])) bytes_model c.new-start.result c.args.count
    (byte_cuts c.new-start.result.fragment (c.args.count ∷ []) (omega (arith, e, c.requires), tt) 0 (omega arith))
