-- Shares in bytes.
use Rattle.std.proofs.Common.{◌≡◌, ℕ, zero, suc, ◌+◌, ◌-◌, ◌^◌, ◌<◌, ◌≤◌, leb, ltb, cond, Bool, true, false, List, [], ◌∷◌, ◌++◌, length, take, drop, Some, None, Result, Ok, Err, refl, sym, ap, subst, ◌∙◌, arith}
use Rattle.std.specs.Prelude.{All, IsTrue}
use Rattle.std.specs.List.{flat_map}
use Rattle.std.proofs.lemmas.Bool.{and_parts, leb-true, le-leb, ltb-false}
use Rattle.std.proofs.lemmas.List.{take_at, length-append, length-take, append-nil, map-id}
use Rattle.std.proofs.lemmas.List.Concat.{flat_map_single}
use Rattle.std.specs.Int.{w16, w32}
use Rattle.grammar.specs.Readers.{◌>>=◌, ◌▷▷◌}
use Rattle.grammar.specs.Fields.{number_at, bytes_at, checked}
use Rattle.grammar.proofs.Laws.{Takes, bind_ok, ok_is, rest_fits, lawful_given}
use Rattle.grammar.proofs.FieldLaws.{IsBytes, Anything, LawfulBytes, lawful_bytes, lawful_checked, wide16, wide32, guard_ok, test_ok}
use Rattle.message_fields.specs.Parts.{byte_as, times, behind}
use Rattle.message_fields.specs.Fingerprints.{is_batch}
use Rattle.message_fields.specs.Shares.{is_share_len, IsShare, share_bytes, shares_bytes, AreShares, share_at, shares_at, shares_in, is_whole}
use Rattle.message_fields.specs.Flags.{flag_of, flags_bytes, AreFlags, flags_at}
use Rattle.message_fields.proofs.PartLaws.{lawful_made, lawful_byte, lawful_times, lawful_counted}
use Rattle.message_fields.proofs.FpLaws.{batch_from, batch_to, small_batch}
use Rattle.message_fields.proofs.Loops.{behind_ok}

pub share_from : (n : ℕ) → IsTrue (is_share_len n) → (1 ≤ n) × (n ≤ 8208)
share_from n e = let p = and_parts (leb 1 n) _ e in (leb-true _ _ p.0, leb-true _ _ p.1)

pub share_to : (n : ℕ) → 1 ≤ n → n ≤ 8208 → IsTrue (is_share_len n)
share_to n low high = rw (le-leb 1 n low, le-leb n 8208 high) refl

pub small_share : (n : ℕ) → is_share_len n ≡ true → n < 2 ^ 32
small_share n e = let p = share_from n e in omega arith

pub lawful_share : LawfulBytes share_at share_bytes IsShare
unfolding share_at
lawful_share =
    lawful_made (lawful_given IsBytes Anything (lawful_checked is_share_len wide32 small_share) lawful_bytes) (λ x. x.1) (λ s. (length s, s)) IsShare
    (λ x fits. let b = share_from x.0 fits.0 in let e : length x.1 ≡ x.0 = fits.1 in (ap (λ (n : ℕ). (n, x.1)) e, (omega arith, omega arith)))
    (λ s fits. ((share_to (length s) fits.0 fits.1, refl), refl))

pub lawful_shares : LawfulBytes shares_at shares_bytes AreShares
unfolding shares_at
lawful_shares =
    lawful_counted is_batch small_batch (lawful_times lawful_share)
    (λ shares ok all. let b = batch_from (length shares) ok in ((b.0, b.1), all))
    (λ shares are. (batch_to (length shares) are.0.0 are.0.1, are.1))

-- ---- the bytes of the shares alone

-- the values that were read are read from the bytes that they took
cut_front : {A : Type 0} (f : List ℕ → Result (A × List ℕ) ℕ) (spell : A → List ℕ) (Fits : A → Type 0) → LawfulBytes f spell Fits → (n : ℕ) (bytes rest : List ℕ) (k : ℕ) → IsBytes bytes
    → behind (times f n bytes) ≡ Ok rest → k + length rest ≡ length bytes → (xs : List A) × (times f n bytes ≡ Ok (xs, rest)) × (times f n (take k bytes) ≡ Ok (xs, [])) × (take k bytes ≡ flat_map spell xs)
cut_front {A} f spell Fits laws n bytes rest k known e len =
    let b = behind_ok (times f n bytes) rest e in
    let all = lawful_times laws n in
    let t = all.takes bytes b.0 rest known b.1 in
    let spelled_len : length (flat_map spell b.0) ≡ k = omega (arith, ap length t.0.parts, length-append (flat_map spell b.0) rest) in
    let front : take k bytes ≡ flat_map spell b.0 = ap (take k) t.0.parts ∙ take_at (flat_map spell b.0) rest k spelled_len in
    let again : times f n (take k bytes) ≡ Ok (b.0, []) = ap (times f n) (front ∙ sym (append-nil (flat_map spell b.0))) ∙ all.again b.0 [] t.1 tt in
    (b.0, b.1, again, front)

-- the bytes that the values took are known, and what follows is no longer
values_end : {A : Type 0} (f : List ℕ → Result (A × List ℕ) ℕ) (spell : A → List ℕ) (Fits : A → Type 0) → LawfulBytes f spell Fits → (n : ℕ) (bytes rest : List ℕ) → IsBytes bytes
    → behind (times f n bytes) ≡ Ok rest → length rest ≤ length bytes
values_end f spell Fits laws n bytes rest known e =
    let b = behind_ok (times f n bytes) rest e in
    let t = (lawful_times laws n).takes bytes b.0 rest known b.1 in
    rest_fits bytes (flat_map spell b.0) rest t.0.parts

-- a batch and the bytes of its items
pub shares_whole : (bytes items rest front : List ℕ) (n k : ℕ) → IsBytes bytes → checked is_batch (number_at w16) bytes ≡ Ok (n, items) → behind (times share_at n items) ≡ Ok rest
    → k ≡ length items - length rest → front ≡ take k items → IsTrue (is_whole (times share_at n front)) × (shares_at bytes ≡ Ok (shares_in (times share_at n front), rest))
unfolding shares_at
shares_whole bytes items rest front n k known count e len is_front =
    let t = (lawful_checked is_batch wide16 small_batch).takes bytes n items known count in
    let le = values_end share_at share_bytes IsShare lawful_share n items rest t.0.known e in
    let c = cut_front share_at share_bytes IsShare lawful_share n items rest k t.0.known e (omega arith) in
    let again : times share_at n front ≡ Ok (c.0, []) = ap (times share_at n) is_front ∙ c.2 in
    (ap is_whole again, rw (count, c.1, again) refl)

-- ---- the first share

step : (x : List ℕ) (r : Result (List (List ℕ) × List ℕ) ℕ) → IsTrue (is_whole (r >>= λ others. Ok (x ∷ others.0, others.1))) → IsTrue (is_whole r) × (shares_in (r >>= λ others. Ok (x ∷ others.0, others.1)) ≡ x ∷ shares_in r)
step x (Ok (xs, [])) h = (refl, refl)
step x (Ok (xs, b ∷ bytes)) h = absurd (let no : false ≡ true = h in cc)
step x (Err d) h = absurd (let no : false ≡ true = h in cc)

pub first_share : (n m : ℕ) (bytes x rest : List ℕ) → n ≡ suc m → IsTrue (is_whole (times share_at n bytes)) → share_at bytes ≡ Ok (x, rest)
    → IsTrue (is_whole (times share_at m rest)) × (shares_in (times share_at n bytes) ≡ x ∷ shares_in (times share_at m rest))
unfolding times
first_share n m bytes x rest count whole e =
    let one : times share_at n bytes ≡ (times share_at m rest >>= λ others. Ok (x ∷ others.0, others.1)) = rw (count, e) refl in
    let s = step x (times share_at m rest) (subst (λ (r : Result (List (List ℕ) × List ℕ) ℕ). IsTrue (is_whole r)) one whole) in
    (s.0, ap shares_in one ∙ s.1)

pub no_share : (n m : ℕ) (bytes : List ℕ) (left : ℕ) → n ≡ suc m → IsTrue (is_whole (times share_at n bytes)) → share_at bytes ≡ Err left → ⊥
unfolding times
no_share n m bytes left count whole e =
    let one : times share_at n bytes ≡ Err left = rw (count, e) refl in
    let no : false ≡ true = subst (λ (r : Result (List (List ℕ) × List ℕ) ℕ). IsTrue (is_whole r)) one whole in cc

pub share_range : (bytes x rest : List ℕ) → share_at bytes ≡ Ok (x, rest) → IsShare x
unfolding share_at
share_range bytes x rest e =
    let a = bind_ok ((checked is_share_len (number_at w32) ▷▷ bytes_at) bytes) (λ p. Ok (p.0.1, p.1)) (x, rest) e in
    let b = bind_ok (checked is_share_len (number_at w32) bytes) (λ p. bytes_at p.0 p.1 >>= λ q. Ok ((p.0, q.0), q.1)) a.0 a.1 in
    let c = bind_ok (bytes_at b.0.0 b.0.1) (λ q. Ok ((b.0.0, q.0), q.1)) a.0 b.2 in
    let d = bind_ok (number_at w32 bytes) (λ p. cond (is_share_len p.0) (Ok p) (Err (length bytes))) b.0 b.1 in
    let t = test_ok (is_share_len d.0.0) (length bytes) d.0 b.0 d.2 in
    let ok : IsTrue (is_share_len b.0.0) = subst (λ (p : ℕ × List ℕ). IsTrue (is_share_len p.0)) t.1 t.0 in
    let g = guard_ok (ltb (length b.0.1) b.0.0) 0 (take b.0.0 b.0.1, drop b.0.0 b.0.1) c.0 c.1 in
    let long : b.0.0 ≤ length b.0.1 = ltb-false _ _ g.0 in
    let front : take b.0.0 b.0.1 ≡ c.0.0 = ap (λ (p : List ℕ × List ℕ). p.0) g.1 in
    let made : (ℕ × List ℕ) × List ℕ = ((b.0.0, c.0.0), c.0.1) in
    let one : c.0.0 ≡ a.0.0.1 = ap (λ (p : (ℕ × List ℕ) × List ℕ). p.0.1) (ok_is made a.0 c.2) in
    let two : a.0.0.1 ≡ x = ap (λ (p : List ℕ × List ℕ). p.0) (ok_is (a.0.0.1, a.0.1) (x, rest) a.2) in
    let len : length x ≡ b.0.0 = omega (arith, ap length (front ∙ one ∙ two), length-take b.0.0 b.0.1) in
    let r = share_from b.0.0 ok in
    (omega arith, omega arith)

times_length : {A : Type 0} (f : List ℕ → Result (A × List ℕ) ℕ) (n : ℕ) (bytes : List ℕ) (xs : List A) (rest : List ℕ) → times f n bytes ≡ Ok (xs, rest) → length xs ≡ n
unfolding times
times_length {A} f zero bytes xs rest e = ap (λ (y : List A × List ℕ). length y.0) (sym (ok_is ([], bytes) (xs, rest) e))
times_length {A} f (suc n) bytes xs rest e =
    let a = bind_ok (f bytes) (λ first. times f n first.1 >>= λ others. Ok (first.0 ∷ others.0, others.1)) (xs, rest) e in
    let b = bind_ok (times f n a.0.1) (λ others. Ok (a.0.0 ∷ others.0, others.1)) (xs, rest) a.2 in
    let made : List A × List ℕ = (a.0.0 ∷ b.0.0, b.0.1) in
    ap (λ (y : List A × List ℕ). length y.0) (sym (ok_is made (xs, rest) b.2)) ∙ ap suc (times_length f n a.0.1 b.0.0 b.0.1 b.1)

whole_ok : (r : Result (List (List ℕ) × List ℕ) ℕ) → IsTrue (is_whole r) → r ≡ Ok (shares_in r, [])
whole_ok (Ok (xs, [])) h = refl
whole_ok (Ok (xs, b ∷ bytes)) h = absurd (let no : false ≡ true = h in cc)
whole_ok (Err d) h = absurd (let no : false ≡ true = h in cc)

pub length-shares : (n : ℕ) (bytes : List ℕ) → IsTrue (is_whole (times share_at n bytes)) → length (shares_in (times share_at n bytes)) ≡ n
length-shares n bytes whole = times_length share_at n bytes (shares_in (times share_at n bytes)) [] (whole_ok (times share_at n bytes) whole)

-- ---- flags

flag_cases : (b x : ℕ) (t : Bool) → leb b 1 ≡ t → flag_of b ≡ Some x → (x ≡ b) × (x ≤ 1)
flag_cases b x true t e = let same : Some b ≡ Some x = rw t at e in let le = leb-true b 1 t in let is : x ≡ b = cc in (is, omega arith)
flag_cases b x false t e = absurd (let no : None ≡ Some x = rw t at e in cc)

lawful_flag : LawfulBytes (byte_as flag_of) (λ x. x ∷ []) (λ x. x ≤ 1)
lawful_flag = lawful_byte flag_of (λ x. x) (λ x. x ≤ 1) (λ b x _ e. flag_cases b x (leb b 1) refl e) (λ x le. rw (le-leb x 1 le) refl)

one_each : (xs : List ℕ) → flat_map (λ (x : ℕ). x ∷ []) xs ≡ xs
one_each xs = flat_map_single (λ (x : ℕ). x) xs ∙ map-id xs

pub lawful_same : {A : Type 0} {f : List ℕ → Result (A × List ℕ) ℕ} {spell : A → List ℕ} {Fits : A → Type 0} → LawfulBytes f spell Fits → (other : A → List ℕ) → ((x : A) → spell x ≡ other x) → LawfulBytes f other Fits
lawful_same {A} {f} {spell} {Fits} laws other same = record {
  takes = λ bytes x rest known e. let t = laws.takes bytes x rest known e in (subst (λ (s : List ℕ). Takes IsBytes bytes s rest) (same x) t.0, t.1);
  again = λ x rest fits follows. ap (λ (s : List ℕ). f (s ++ rest)) (sym (same x)) ∙ laws.again x rest fits follows;
  begins = λ x rest _. tt;
  fails = laws.fails;
}

lawful_some_flags : (n : ℕ) → LawfulBytes (times (byte_as flag_of) n) (λ xs. xs) (λ xs. (length xs ≡ n) × All (λ x. x ≤ 1) xs)
lawful_some_flags n = lawful_same (lawful_times lawful_flag n) (λ xs. xs) one_each

pub lawful_flags : LawfulBytes flags_at flags_bytes AreFlags
unfolding flags_at
lawful_flags =
    lawful_counted is_batch small_batch lawful_some_flags
    (λ flags ok all. let b = batch_from (length flags) ok in ((b.0, b.1), all))
    (λ flags are. (batch_to (length flags) are.0.0 are.0.1, are.1))

pub flags_whole : (bytes items rest front : List ℕ) (n k : ℕ) → IsBytes bytes → checked is_batch (number_at w16) bytes ≡ Ok (n, items) → behind (times (byte_as flag_of) n items) ≡ Ok rest
    → k ≡ length items - length rest → front ≡ take k items → flags_at bytes ≡ Ok (front, rest)
unfolding flags_at
flags_whole bytes items rest front n k known count e len is_front =
    let t = (lawful_checked is_batch wide16 small_batch).takes bytes n items known count in
    let le = values_end (byte_as flag_of) (λ x. x ∷ []) (λ x. x ≤ 1) lawful_flag n items rest t.0.known e in
    let c = cut_front (byte_as flag_of) (λ x. x ∷ []) (λ x. x ≤ 1) lawful_flag n items rest k t.0.known e (omega arith) in
    let same : c.0 ≡ front = sym (is_front ∙ c.3 ∙ one_each c.0) in
    rw (count, c.1, same) refl

pub no_shares : (n : ℕ) (bytes : List ℕ) → n ≡ 0 → shares_in (times share_at n bytes) ≡ []
unfolding times
no_shares n bytes none = rw none refl
