-- Fields of bytes that are read are those that were written, and what was written is read again.
use Rattle.std.proofs.Common.{◌≡◌, ℕ, ◌+◌, ◌^◌, ◌<◌, ◌≤◌, Bool, true, false, cond, ltb, List, ◌++◌, length, take, drop, get_or, Result, Ok, Err, IsTrue, refl, sym, ap, subst, arith, inl, inr}
use Rattle.std.specs.Int.{Width, w16, w32, w64, byte_len, from_be_bytes, to_be_bytes}
use Rattle.std.proofs.lemmas.Bool.{cases_lt, ltb-false, le-ltb}
use Rattle.std.proofs.lemmas.List.{take_at, drop_at, take-append-drop, length-append, length-take, get_or-drop, get_or-take, get_or_past}
use Rattle.std.proofs.lemmas.Nat.{be_bytes_2, be_bytes_4, be_bytes_8, from_be_bytes-to_be_bytes_2, from_be_bytes-to_be_bytes_4, from_be_bytes-to_be_bytes_8}
use Rattle.grammar.specs.Fields.{number_at, bytes_at, checked}
use Rattle.grammar.proofs.Laws.{Lawful, Takes, bind_ok, bind_err}

-- each of them is a byte
abbrev pub IsBytes : List ℕ → Type 0
IsBytes bytes = (i : ℕ) → get_or bytes i 0 < 256

IsBytes-drop : (n : ℕ) (bytes : List ℕ) → IsBytes bytes → IsBytes (drop n bytes)
IsBytes-drop n bytes h i = rw get_or-drop (h (n + i))

IsBytes-take : (n : ℕ) (bytes : List ℕ) → IsBytes bytes → IsBytes (take n bytes)
IsBytes-take n bytes h i =
    elim (cases_lt i n) [
      | inl lt ↦ rw (get_or-take n bytes i 0 lt) (h i)
      | inr le ↦ rw (get_or_past (take n bytes) i 0 (omega (arith, length-take n bytes))) (omega arith)
    ]

-- any bytes may follow a field of bytes
abbrev pub Anything : List ℕ → Type 0
Anything rest = Unit {0}

-- a reader of fields of bytes
abbrev pub LawfulBytes : {A : Type 0} → (List ℕ → Result (A × List ℕ) ℕ) → (A → List ℕ) → (A → Type 0) → Type 0
LawfulBytes f spell Fits = Lawful IsBytes Anything f spell Fits

pub guard_ok : {A : Type 0} (b : Bool) (d : ℕ) (x y : A) → cond b (Err d) (Ok x) ≡ Ok y → (b ≡ false) × (x ≡ y)
guard_ok true d x y e = absurd cc
guard_ok false d x y e = (refl, cc)

pub guard_err : {A : Type 0} (b : Bool) (x : A) (e : ℕ) → cond b (Err 0) (Ok x) ≡ Err e → e ≡ 0
guard_err true x e h = cc
guard_err false x e h = absurd cc

pub test_ok : {A : Type 0} (b : Bool) (d : ℕ) (x y : A) → cond b (Ok x) (Err d) ≡ Ok y → (b ≡ true) × (x ≡ y)
test_ok true d x y e = (refl, cc)
test_ok false d x y e = absurd cc

pub test_err : {A : Type 0} (b : Bool) (d e : ℕ) (x : A) → cond b (Ok x) (Err d) ≡ Err e → e ≡ d
test_err true d e x h = absurd cc
test_err false d e x h = cc

-- ---- bytes

bytes_takes : (n : ℕ) (bytes x rest : List ℕ) → IsBytes bytes → bytes_at n bytes ≡ Ok (x, rest) → Takes IsBytes bytes x rest × (length x ≡ n)
bytes_takes n bytes x rest fits e =
    let g = guard_ok (ltb (length bytes) n) 0 (take n bytes, drop n bytes) (x, rest) e in
    let long : n ≤ length bytes = ltb-false _ _ g.0 in
    subst (λ (p : List ℕ × List ℕ). Takes IsBytes bytes p.0 p.1 × (length p.0 ≡ n)) g.1
    (record { parts = sym (take-append-drop n bytes); known = IsBytes-drop n bytes fits }, omega (arith, length-take n bytes))

bytes_again : (n : ℕ) (x rest : List ℕ) → length x ≡ n → bytes_at n (x ++ rest) ≡ Ok (x, rest)
bytes_again n x rest e =
    let long : ltb (length (x ++ rest)) n ≡ false = le-ltb _ _ (omega (arith, length-append x rest)) in
    rw (long, take_at x rest n e, drop_at x rest n e) refl

bytes_fails : (n : ℕ) (bytes : List ℕ) (left : ℕ) → bytes_at n bytes ≡ Err left → left ≤ length bytes
bytes_fails n bytes left e = let z = guard_err (ltb (length bytes) n) (take n bytes, drop n bytes) left e in omega arith

pub lawful_bytes : (n : ℕ) → LawfulBytes (bytes_at n) (λ x. x) (λ x. length x ≡ n)
lawful_bytes n = record { takes = bytes_takes n; again = λ x rest fits _. bytes_again n x rest fits; begins = λ x rest _. tt; fails = λ bytes left _ e. bytes_fails n bytes left e }

-- ---- numbers

pub record IsWide (w : Width) (limit : ℕ) : Type 0 where
  pub len : (n : ℕ) → length (to_be_bytes w n) ≡ byte_len w
  pub back : (bytes : List ℕ) → length bytes ≡ byte_len w → IsBytes bytes → to_be_bytes w (from_be_bytes w bytes) ≡ bytes
  pub again : (n : ℕ) → n < limit → from_be_bytes w (to_be_bytes w n) ≡ n

pub wide16 : IsWide w16 (2 ^ 16)
wide16 = record { len = λ n. refl; back = λ bytes len fits. be_bytes_2 bytes _ len fits refl; again = λ n lt. from_be_bytes-to_be_bytes_2 n lt }

pub wide32 : IsWide w32 (2 ^ 32)
wide32 = record { len = λ n. refl; back = λ bytes len fits. be_bytes_4 bytes _ len fits refl; again = λ n lt. from_be_bytes-to_be_bytes_4 n lt }

pub wide64 : IsWide w64 (2 ^ 64)
wide64 = record { len = λ n. refl; back = λ bytes len fits. be_bytes_8 bytes _ len fits refl; again = λ n lt. from_be_bytes-to_be_bytes_8 n lt }

number_takes : (w : Width) (limit : ℕ) (wide : IsWide w limit) (bytes : List ℕ) (n : ℕ) (rest : List ℕ) → IsBytes bytes → number_at w bytes ≡ Ok (n, rest) → Takes IsBytes bytes (to_be_bytes w n) rest
number_takes w limit wide bytes n rest fits e =
    let g = guard_ok (ltb (length bytes) (byte_len w)) 0 (from_be_bytes w (take (byte_len w) bytes), drop (byte_len w) bytes) (n, rest) e in
    let long : byte_len w ≤ length bytes = ltb-false _ _ g.0 in
    let n-is : from_be_bytes w (take (byte_len w) bytes) ≡ n = ap (λ (p : ℕ × List ℕ). p.0) g.1 in
    let rest-is : drop (byte_len w) bytes ≡ rest = ap (λ (p : ℕ × List ℕ). p.1) g.1 in
    let front : to_be_bytes w n ≡ take (byte_len w) bytes = rw (← n-is) (wide.back (take (byte_len w) bytes) (omega (arith, length-take (byte_len w) bytes)) (IsBytes-take (byte_len w) bytes fits)) in
    record { parts = rw (front, ← rest-is) (sym (take-append-drop (byte_len w) bytes)); known = rw (← rest-is) (IsBytes-drop (byte_len w) bytes fits) }

pub number_again : (w : Width) (limit : ℕ) (wide : IsWide w limit) (n : ℕ) (rest : List ℕ) → n < limit → number_at w (to_be_bytes w n ++ rest) ≡ Ok (n, rest)
number_again w limit wide n rest lt =
    let len = wide.len n in
    let long : ltb (length (to_be_bytes w n ++ rest)) (byte_len w) ≡ false = le-ltb _ _ (omega (arith, length-append (to_be_bytes w n) rest)) in
    rw (long, take_at (to_be_bytes w n) rest (byte_len w) len, drop_at (to_be_bytes w n) rest (byte_len w) len, wide.again n lt) refl

pub number_fails : (w : Width) (bytes : List ℕ) (left : ℕ) → number_at w bytes ≡ Err left → left ≤ length bytes
number_fails w bytes left e = let z = guard_err (ltb (length bytes) (byte_len w)) (from_be_bytes w (take (byte_len w) bytes), drop (byte_len w) bytes) left e in omega arith

-- a number that passes a test
checked_takes : (ok : ℕ → Bool) (w : Width) (limit : ℕ) (wide : IsWide w limit) (bytes : List ℕ) (n : ℕ) (rest : List ℕ) → IsBytes bytes → checked ok (number_at w) bytes ≡ Ok (n, rest) → Takes IsBytes bytes (to_be_bytes w n) rest × IsTrue (ok n)
checked_takes ok w limit wide bytes n rest fits e =
    let a = bind_ok (number_at w bytes) (λ x. cond (ok x.0) (Ok x) (Err (length bytes))) (n, rest) e in
    let g = test_ok (ok a.0.0) (length bytes) a.0 (n, rest) a.2 in
    subst (λ (p : ℕ × List ℕ). Takes IsBytes bytes (to_be_bytes w p.0) p.1 × IsTrue (ok p.0)) g.1 (number_takes w limit wide bytes a.0.0 a.0.1 fits a.1, g.0)

checked_again : (ok : ℕ → Bool) (w : Width) (limit : ℕ) (wide : IsWide w limit) → ((n : ℕ) → ok n ≡ true → n < limit) → (n : ℕ) (rest : List ℕ) → IsTrue (ok n) → checked ok (number_at w) (to_be_bytes w n ++ rest) ≡ Ok (n, rest)
checked_again ok w limit wide small n rest h = rw (number_again w limit wide n rest (small n h), h) refl

checked_fails : (ok : ℕ → Bool) (w : Width) (bytes : List ℕ) (left : ℕ) → checked ok (number_at w) bytes ≡ Err left → left ≤ length bytes
checked_fails ok w bytes left e =
    elim (bind_err (number_at w bytes) (λ x. cond (ok x.0) (Ok x) (Err (length bytes))) left e) [
      | inl h ↦ number_fails w bytes left h
      | inr a ↦ let z = test_err (ok a.0.0) (length bytes) left a.0 a.2 in omega arith
    ]

pub lawful_checked : (ok : ℕ → Bool) {w : Width} {limit : ℕ} → IsWide w limit → ((n : ℕ) → ok n ≡ true → n < limit) → LawfulBytes (checked ok (number_at w)) (λ n. to_be_bytes w n) (λ n. IsTrue (ok n))
lawful_checked ok {w} {limit} wide small = record { takes = checked_takes ok w limit wide; again = λ n rest fits _. checked_again ok w limit wide small n rest fits; begins = λ n rest _. tt; fails = λ bytes left _ e. checked_fails ok w bytes left e }
