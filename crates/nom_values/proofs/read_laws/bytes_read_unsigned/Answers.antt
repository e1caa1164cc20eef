use Rattle.std.specs.contracts.prelude.U8FromStr.TheImpl as U8
use Rattle.std.specs.contracts.prelude.U16FromStr.TheImpl as U16
use Rattle.std.specs.contracts.prelude.U32FromStr.TheImpl as U32
use Rattle.std.specs.contracts.prelude.U64FromStr.TheImpl as U64
use Rattle.std.specs.contracts.prelude.U128FromStr.TheImpl as U128
use Rattle.std.specs.contracts.prelude.UsizeFromStr.TheImpl as Usize
use Rattle.nom_values.proofs.ReadBytes.{bytes_read_unsigned}
use Rattle.nom_values.proofs.read_laws.bytes_read_unsigned.Goals as goal

pub returns-clause-u8 : goal.returns-clause-u8
returns-clause-u8 c = λ s o h. bytes_read_unsigned U8.ghosts.from_str_gives 8 s.now o h (λ _ r. r.0)

pub returns-clause-u16 : goal.returns-clause-u16
returns-clause-u16 c = λ s o h. bytes_read_unsigned U16.ghosts.from_str_gives 16 s.now o h (λ _ r. r.0)

pub returns-clause-u32 : goal.returns-clause-u32
returns-clause-u32 c = λ s o h. bytes_read_unsigned U32.ghosts.from_str_gives 32 s.now o h (λ _ r. r.0)

pub returns-clause-u64 : goal.returns-clause-u64
returns-clause-u64 c = λ s o h. bytes_read_unsigned U64.ghosts.from_str_gives 64 s.now o h (λ _ r. r.0)

pub returns-clause-u128 : goal.returns-clause-u128
returns-clause-u128 c = λ s o h. bytes_read_unsigned U128.ghosts.from_str_gives 128 s.now o h (λ _ r. r.0)

pub returns-clause-usize : goal.returns-clause-usize
returns-clause-usize c = λ s o h. bytes_read_unsigned Usize.ghosts.from_str_gives 64 s.now o h (λ _ r. r.0)
