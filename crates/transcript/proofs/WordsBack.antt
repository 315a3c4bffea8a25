-- Each word is read back, and no blank nor newline is in it.
use Rattle.std.proofs.Common.{◌≡◌, ℕ, ◌/◌, ◌%◌, ◌<◌, ◌^◌, Bool, true, false, ◌&&◌, ltb, leb, eqb, List, [], ◌∷◌, length, Some, refl, ap, arith}
use Rattle.std.specs.Prelude.{decimal}
use Rattle.std.specs.List.{AllByRecursion}
use Rattle.std.specs.Str.{all_ascii_digits, bytes_eq}
use Rattle.std.specs.Char.{is_ascii_digit}
use Rattle.std.proofs.lemmas.Bool.Decides.{nat_tests}
use Rattle.std.proofs.lemmas.Bool.{and_from, and_parts, leb-true, lt-ltb, eq-eqb}
use Rattle.std.proofs.lemmas.Fmt.{digits_decimal}
use Rattle.std.proofs.lemmas.List.Elements.{recursion_from_All}
use Rattle.grammar.specs.Hexadecimal.{hex, hex_digit, unhex}
use Rattle.grammar.proofs.WordLaws.{keep_again}
use Rattle.grammar.proofs.NumeralLaws.{own, numbers_below}
use Rattle.grammar.proofs.HexadecimalLaws.{unhex_again}
use Rattle.transcript.specs.Words.{bytes_text, byte_text}
use Rattle.transcript.specs.Ranges.{AreLineBytes, IsPrint}
use Rattle.transcript.specs.Reading.{number_8, number_16, number_32, number_64, only, byte_in, print_in, bytes_in}

-- ---- a word is read back

pub back_8 : (n : ℕ) → n < 2 ^ 8 → number_8 (decimal n) ≡ Some n
back_8 n fits = (numbers_below 256 255 refl (omega arith)).again n (omega arith)

pub back_16 : (n : ℕ) → n < 2 ^ 16 → number_16 (decimal n) ≡ Some n
back_16 n fits = (numbers_below 65536 65535 refl (omega arith)).again n (omega arith)

pub back_32 : (n : ℕ) → n < 2 ^ 32 → number_32 (decimal n) ≡ Some n
back_32 n fits = (numbers_below 4294967296 4294967295 refl (omega arith)).again n (omega arith)

pub back_64 : (n : ℕ) → n < 2 ^ 64 → number_64 (decimal n) ≡ Some n
back_64 n fits = (numbers_below 18446744073709551616 18446744073709551615 refl (omega arith)).again n (omega arith)

by_recursion : (bytes : List ℕ) → AreLineBytes bytes → AllByRecursion (λ b. b < 256) bytes
by_recursion bytes fits = recursion_from_All _ _ fits

pub back_byte : (byte : ℕ) → byte < 2 ^ 8 → byte_in (byte_text byte) ≡ Some byte
unfolding byte_in
back_byte byte fits = ap only (unhex_again (byte ∷ []) (omega arith, tt))

pub back_print : (bytes : List ℕ) → IsPrint bytes → print_in (hex bytes) ≡ Some bytes
unfolding print_in
back_print bytes fits = keep_again (λ bytes. eqb (length bytes) 32) (unhex (hex bytes)) bytes (unhex_again bytes (by_recursion bytes fits.1)) (eq-eqb _ _ fits.0)

pub no_dash : (d : ℕ) → eqb (hex_digit d) 45 ≡ false
no_dash d = grind (arith, nat_tests)

pub not_dash : (c : ℕ) (text : List ℕ) → eqb c 45 ≡ false → bytes_eq (c ∷ text) (45 ∷ []) ≡ false
not_dash c text e = rw e refl

pub hex_begins : (b : ℕ) (bs : List ℕ) → bytes_eq (hex (b ∷ bs)) (45 ∷ []) ≡ false
unfolding hex
hex_begins b bs = not_dash (hex_digit (b / 16)) (hex_digit (b % 16) ∷ hex bs) (no_dash (b / 16))

pub back_bytes : (bytes : List ℕ) → AreLineBytes bytes → bytes_in (bytes_text bytes) ≡ Some bytes
unfolding bytes_in
back_bytes [] fits = refl
back_bytes (b ∷ bs) fits = rw (hex_begins b bs) (unhex_again (b ∷ bs) (by_recursion (b ∷ bs) fits))

-- ---- no byte of a word is a blank, nor less

abbrev pub solid : List ℕ → Bool
solid [] = true
solid (b ∷ bs) = ltb 32 b && solid bs

abbrev pub all_solid : List (List ℕ) → Bool
all_solid [] = true
all_solid (word ∷ words) = solid word && all_solid words

solid_digits : (text : List ℕ) → all_ascii_digits text ≡ true → solid text ≡ true
solid_digits [] e = refl
solid_digits (b ∷ bs) e =
    let p = and_parts (is_ascii_digit b) _ e in
    let low = leb-true _ _ (and_parts (leb 48 b) (leb b 57) p.0).0 in
    and_from (ltb 32 b) (solid bs) (lt-ltb 32 b (omega arith)) (solid_digits bs p.1)

pub solid_64 : (n : ℕ) → n < 2 ^ 64 → solid (decimal n) ≡ true
solid_64 n fits = solid_digits (decimal n) (digits_decimal own n fits)

pub solid_32 : (n : ℕ) → n < 2 ^ 32 → solid (decimal n) ≡ true
solid_32 n fits = solid_64 n (omega arith)

pub solid_16 : (n : ℕ) → n < 2 ^ 16 → solid (decimal n) ≡ true
solid_16 n fits = solid_64 n (omega arith)

pub solid_8 : (n : ℕ) → n < 2 ^ 8 → solid (decimal n) ≡ true
solid_8 n fits = solid_64 n (omega arith)

digit_solid : (d : ℕ) → ltb 32 (hex_digit d) ≡ true
digit_solid d = grind (arith, nat_tests)

pub solid_hex : (bytes : List ℕ) → solid (hex bytes) ≡ true
unfolding hex
solid_hex [] = refl
solid_hex (b ∷ bs) = rw (digit_solid (b / 16), digit_solid (b % 16)) (solid_hex bs)

pub solid_bytes : (bytes : List ℕ) → solid (bytes_text bytes) ≡ true
solid_bytes [] = refl
solid_bytes (b ∷ bs) = solid_hex (b ∷ bs)
