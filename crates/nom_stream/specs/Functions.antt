-- Functions as the parsers of items.
use Rattle.std.specs.Prelude.{◌≡◌, ℕ, Ok, Err}
use Rattle.nom_internal.specs.Prelude.{Failure, bytes_model, IsSuffixOf}
use Rattle.nom_traits.specs.Cuts.{CutsAs, CutsNowhere}
use Rattle.nom_error.specs.declared.kind.ErrorKind.TheVariants as Kind
use Rattle.nom_stream.specs.Items.{Answered, Bytes}

-- What is answered at i for an acceptance of v that left some bytes: the rest that is as long, or the failure where none is.
pub data CutsRest {O : Type 0} (i left : Bytes) (v : O) (r : Answered O) : Type 0 where
  AtRest : (n : ℕ) (j : Bytes) → CutsAs bytes_model i n left → IsSuffixOf bytes_model i n j → r ≡ Ok (j, v) → CutsRest i left v r
  AtNone : CutsNowhere bytes_model i left → r ≡ Err (Failure (record { input = i; code = Kind.Fail })) → CutsRest i left v r
