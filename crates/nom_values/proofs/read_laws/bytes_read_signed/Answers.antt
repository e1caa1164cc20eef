use Rattle.std.specs.Int.{w8, w16, w32, w64, w128}
use Rattle.std.specs.contracts.prelude.I8FromStr.TheImpl as I8
use Rattle.std.specs.contracts.prelude.I16FromStr.TheImpl as I16
use Rattle.std.specs.contracts.prelude.I32FromStr.TheImpl as I32
use Rattle.std.specs.contracts.prelude.I64FromStr.TheImpl as I64
use Rattle.std.specs.contracts.prelude.I128FromStr.TheImpl as I128
use Rattle.std.specs.contracts.prelude.IsizeFromStr.TheImpl as Isize
use Rattle.nom_values.proofs.ReadBytes.{bytes_read_signed}
use Rattle.nom_values.proofs.read_laws.bytes_read_signed.Goals as goal

pub returns-clause-i8 : goal.returns-clause-i8
returns-clause-i8 c = λ s o h. bytes_read_signed I8.ghosts.from_str_gives w8 s.now o h (λ _ r. r.0)

pub returns-clause-i16 : goal.returns-clause-i16
returns-clause-i16 c = λ s o h. bytes_read_signed I16.ghosts.from_str_gives w16 s.now o h (λ _ r. r.0)

pub returns-clause-i32 : goal.returns-clause-i32
returns-clause-i32 c = λ s o h. bytes_read_signed I32.ghosts.from_str_gives w32 s.now o h (λ _ r. r.0)

pub returns-clause-i64 : goal.returns-clause-i64
returns-clause-i64 c = λ s o h. bytes_read_signed I64.ghosts.from_str_gives w64 s.now o h (λ _ r. r.0)

pub returns-clause-i128 : goal.returns-clause-i128
returns-clause-i128 c = λ s o h. bytes_read_signed I128.ghosts.from_str_gives w128 s.now o h (λ _ r. r.0)

pub returns-clause-isize : goal.returns-clause-isize
returns-clause-isize c = λ s o h. bytes_read_signed Isize.ghosts.from_str_gives w64 s.now o h (λ _ r. r.0)
