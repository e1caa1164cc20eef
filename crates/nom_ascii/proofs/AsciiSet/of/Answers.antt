use Rattle.std.proofs.Common.{◌≡◌, ◌≤◌, ap, fold, length, take_all}
use Rattle.nom_ascii.specs.Sets.{set_of, with_code}
use Rattle.nom_ascii.proofs.Bits.{set_has}
use Rattle.nom_ascii.proofs.AsciiSet.of.Goals as goal

pub returns-clause-set : goal.returns-clause-set
unfolding set_of
returns-clause-set c =
    let within : length c.args.text.now ≤ c.loop-byte.byte-index = rw c.as_bytes-byte-items.ensures.value at c.loop-byte-test.false in
    let all : c.loop-byte.mask ≡ fold with_code 0 c.args.text.now = rw (take_all _ _ within) at c.loop-byte.invariant in
    ap (λ m. record { mask = m }) all

pub returns-clause-has : goal.returns-clause-has
returns-clause-has c = set_has c.args.text.now _ (returns-clause-set c)
