-- Bytes are read as whole numbers, truth values and characters from the same as texts.
use Rattle.std.specs.Prelude.{ℕ, ◌<◌, Bool, true, false, cond, ◌==◌, ℤ, List, [], ◌∷◌, drop, Result, Ok, Err, Option, Some, None, IsTrue, refl, codes}
use Rattle.std.specs.Char.{encode_utf8}
use Rattle.std.specs.Str.{IsAscii, IsUtf8}
use Rattle.std.specs.Str.Parse.{AllDigits, ParsesBool, ParsesChar, ParsesSigned, ParsesUnsigned, without_leading_plus, without_leading_sign}
use Rattle.std.proofs.Common.{arith, zero, suc, sym, subst, eqb-true}
use Rattle.std.proofs.lemmas.Str.{IsUtf8-encode, IsUtf8-from_ascii}
use Rattle.std.proofs.lemmas.Str.Parse.{digit_from_value}
use Rattle.nom_values.specs.Parses.{ParsesBytes, ReadsBool, ReadsChar, ReadsSigned, ReadsUnsigned}
use mir.Syntax.{Width}

digits_are_ascii : (ds : List ℕ) → AllDigits 10 ds → IsAscii ds
digits_are_ascii [] h i = omega arith
digits_are_ascii (d ∷ ds) h zero = let digit = digit_from_value d h.0 in omega arith
digits_are_ascii (d ∷ ds) h (suc i) = digits_are_ascii ds h.1 i

first_is_ascii : (b : ℕ) (bs : List ℕ) → b < 128 → IsAscii bs → IsAscii (b ∷ bs)
first_is_ascii b bs f h zero = f
first_is_ascii b bs f h (suc i) = h i

-- digits, where t says that a sign stands before them
signed_is_ascii : (t : Bool) (b : ℕ) (bs : List ℕ) → (IsTrue t → b < 128) → AllDigits 10 (drop (cond t 1 0) (b ∷ bs)) → IsAscii (b ∷ bs)
signed_is_ascii true b bs f h = first_is_ascii b bs (f refl) (digits_are_ascii bs h)
signed_is_ascii false b bs f h = digits_are_ascii (b ∷ bs) h

plus_is_ascii : (bs : List ℕ) → AllDigits 10 (without_leading_plus bs) → IsAscii bs
plus_is_ascii [] h = digits_are_ascii [] h
plus_is_ascii (b ∷ bs) h = signed_is_ascii (b == 43) b bs (λ t. let e = eqb-true b 43 t in omega arith) h

sign_is_ascii : (t : Bool) (b : ℕ) (bs : List ℕ) → (IsTrue t → b < 128) → AllDigits 10 (cond t bs (without_leading_plus (b ∷ bs))) → IsAscii (b ∷ bs)
sign_is_ascii true b bs f h = first_is_ascii b bs (f refl) (digits_are_ascii bs h)
sign_is_ascii false b bs f h = plus_is_ascii (b ∷ bs) h

either_is_ascii : (bs : List ℕ) → AllDigits 10 (without_leading_sign bs) → IsAscii bs
either_is_ascii [] h = digits_are_ascii [] h
either_is_ascii (b ∷ bs) h = sign_is_ascii (b == 45) b bs (λ t. let e = eqb-true b 45 t in omega arith) h

true_is_utf8 : IsUtf8 (codes "true")
unfolding encode_utf8
true_is_utf8 = (codes "true", (refl, refl))

false_is_utf8 : IsUtf8 (codes "false")
unfolding encode_utf8
false_is_utf8 = (codes "false", (refl, refl))

pub bytes_read_unsigned : {E : Type 0} (Gives : List ℕ → Result ℕ E → Type 0) (k : ℕ) (bs : List ℕ) (o : Option ℕ) → ParsesBytes Gives bs o →
    ((r : Result ℕ E) → Gives bs r → ParsesUnsigned k 10 bs r) → ReadsUnsigned k bs o
bytes_read_unsigned Gives k bs (Some n) h tells = tells (Ok n) h.1
bytes_read_unsigned Gives k bs None h tells = λ p. let e = h (IsUtf8-from_ascii bs (plus_is_ascii bs p.0.1)) in tells (Err e.0) e.1 p

pub bytes_read_signed : {E : Type 0} (Gives : List ℕ → Result ℤ E → Type 0) (w : Width) (bs : List ℕ) (o : Option ℤ) → ParsesBytes Gives bs o →
    ((r : Result ℤ E) → Gives bs r → ParsesSigned w 10 bs r) → ReadsSigned w bs o
bytes_read_signed Gives w bs (Some n) h tells = tells (Ok n) h.1
bytes_read_signed Gives w bs None h tells = λ p. let e = h (IsUtf8-from_ascii bs (either_is_ascii bs p.0.1)) in tells (Err e.0) e.1 p

pub bytes_read_bool : {E : Type 0} (Gives : List ℕ → Result Bool E → Type 0) (bs : List ℕ) (o : Option Bool) → ParsesBytes Gives bs o →
    ((r : Result Bool E) → Gives bs r → ParsesBool bs r) → ReadsBool bs o
bytes_read_bool Gives bs (Some b) h tells = tells (Ok b) h.1
bytes_read_bool Gives bs None h tells = (
  λ e. let none = h (subst IsUtf8 (sym e) true_is_utf8) in (tells (Err none.0) none.1).0 e,
  λ e. let none = h (subst IsUtf8 (sym e) false_is_utf8) in (tells (Err none.0) none.1).1 e,
)

pub bytes_read_char : {E : Type 0} (Gives : List ℕ → Result ℕ E → Type 0) (bs : List ℕ) (o : Option ℕ) → ParsesBytes Gives bs o →
    ((r : Result ℕ E) → Gives bs r → ParsesChar bs r) → ReadsChar bs o
bytes_read_char Gives bs (Some c) h tells = tells (Ok c) h.1
bytes_read_char Gives bs None h tells = λ c s e. let none = h (subst IsUtf8 (sym e) (IsUtf8-encode c s)) in tells (Err none.0) none.1 c s e
