use Rattle.std.proofs.Common.{refl}
use Rattle.nom_internal.specs.Prelude.{bytes_model}
use Rattle.nom_internal.specs.laws.CaseLaws.{labelled_lawful}
use Rattle.nom_bytes.specs.laws.TakeLaws.{take_lawful}
use Rattle.nom_number.specs.Numbers.{bytes_lack}
use Rattle.nom.specs.grammars.Bytes.{plain_errors}
use Rattle.nom_write_stream.proofs.Members.{length_count_outcome, number_outcome}
use Rattle.example_streams.proofs.PipeForms.{of_frames}
use Rattle.example_streams.proofs.pipes.frames_of_pipe.Goals as goal

pub items_of_pipe-requires : goal.items_of_pipe-requires
items_of_pipe-requires g c k =
    let size = labelled_lawful (take_lawful bytes_model plain_errors (bytes_lack bytes_model) 2) in
    let item = labelled_lawful (take_lawful bytes_model plain_errors (bytes_lack bytes_model) 1) in (
      (refl, tt),
      (
        (tt, (tt, λ u m n p q. cc (p.size_is, q.size_is, p.is_output, q.is_output))),
        (
          ((tt, tt), (λ _. tt), (λ _. tt)),
          (
            (λ _. tt),
            (
              (tt, tt),
              length_count_outcome plain_errors _ _ size (λ u. (u, refl)) (number_outcome plain_errors _ 2) _ item
                  (number_outcome plain_errors _ 1),
            ),
          ),
        ),
      ),
    )

pub returns : goal.returns
returns g c = of_frames _ _ _ _ _ c.frame.ensures c.items_of_pipe.ensures
