-- Keys in bytes, rising.
use Rattle.std.proofs.Common.{◌≡◌, ℕ, zero, suc, ◌+◌, ◌-◌, ◌<◌, ◌≤◌, true, false, List, [], ◌∷◌, ◌++◌, length, Option, Some, None, Result, Ok, Err, refl, sym, ap, subst, ◌∙◌, append_assoc, arith, inl, inr}
use Rattle.std.specs.Prelude.{IsTrue}
use Rattle.std.specs.List.{flat_map}
use Rattle.std.specs.Ordering.{nat_cmp, ordering_then, is_lt, is_le}
use Rattle.std.specs.Cmp.Lexicographic.{slice_cmp}
use Rattle.std.specs.declared.cmp.Ordering.{Ordering}
use Rattle.std.specs.declared.cmp.Ordering.TheVariants.{Less, Equal, Greater}
use Rattle.std.proofs.lemmas.Bool.{leb-true, le-leb}
use Rattle.std.proofs.lemmas.List.{append-nil}
use Rattle.std.proofs.lemmas.List.Concat.{flat_map-cons}
use Rattle.grammar.specs.CdBase.ids.Tag.{Tag}
use Rattle.grammar.specs.CdBase.ids.Version.{Version}
use Rattle.grammar.specs.Readers.{◌>>=◌}
use Rattle.grammar.proofs.Laws.{Takes, bind_ok, bind_err, ok_is, takes_both, rest_fits, lawful_given}
use Rattle.grammar.proofs.FieldLaws.{IsBytes, Anything, LawfulBytes, lawful_bytes}
use Rattle.message_fields.specs.Keys.{is_above, IsKey, key_bytes, AreKeys, is_from, make_key, key_above_at, key_at, keys_above_at, is_key_count, entries_at, entries_bytes, AreEntryKeys}
use Rattle.message_fields.proofs.PartLaws.{lawful_made, lawful_kept, lawful_counted, lawful_u64}

-- a key is above another only where its tag is not below the other's
not_below : (o p : Ordering) → IsTrue (is_lt (ordering_then o p)) → IsTrue (is_le o)
not_below Less p e = refl
not_below Equal p e = refl
not_below Greater p e = absurd (let no : false ≡ true = e in cc)

above_from : (last : Option (Tag × Version)) (key : Tag × Version) → IsTrue (is_above last key) → IsTrue (is_from last key.0.0)
above_from None key e = refl
above_from (Some least) key e = not_below (slice_cmp nat_cmp least.0.0 key.0.0) (nat_cmp least.1.0 key.1.0) e

pub lawful_key_above : (last : Option (Tag × Version)) → LawfulBytes (key_above_at last) key_bytes (λ key. IsKey key × IsTrue (is_above last key))
unfolding key_above_at
lawful_key_above last =
    lawful_made (lawful_given IsBytes Anything (lawful_kept (is_from last) (lawful_bytes 32)) (λ tag. lawful_kept (λ version. is_above last (make_key (tag, version))) lawful_u64))
    make_key (λ key. (key.0.0, key.1.0)) (λ key. IsKey key × IsTrue (is_above last key))
    (λ x fits. (refl, ((fits.0.0, fits.1.0), fits.1.1)))
    (λ key fits. (((fits.0.0, above_from last key fits.1), (fits.0.1, fits.1)), refl))

pub lawful_key : LawfulBytes key_at key_bytes IsKey
lawful_key =
    let one = lawful_key_above None in
    record {
      takes = λ bytes x rest known e. let t = one.takes bytes x rest known e in (t.0, t.1.0);
      again = λ x rest fits follows. one.again x rest (fits, refl) follows;
      begins = λ x rest _. tt;
      fails = one.fails;
    }

-- ---- keys, rising

abbrev add : Tag × Version → List (Tag × Version) × List ℕ → Result (List (Tag × Version) × List ℕ) ℕ
add first others = Ok (first ∷ others.0, others.1)

keys_take : (last : Option (Tag × Version)) (n : ℕ) (bytes : List ℕ) (xs : List (Tag × Version)) (rest : List ℕ) → IsBytes bytes → keys_above_at last n bytes ≡ Ok (xs, rest)
    → Takes IsBytes bytes (flat_map key_bytes xs) rest × ((length xs ≡ n) × AreKeys last xs)
unfolding keys_above_at
keys_take last zero bytes xs rest known e =
    subst (λ (y : List (Tag × Version) × List ℕ). Takes IsBytes bytes (flat_map key_bytes y.0) y.1 × ((length y.0 ≡ 0) × AreKeys last y.0)) (ok_is ([], bytes) (xs, rest) e) (record { parts = refl; known = known }, (refl, tt))
keys_take last (suc n) bytes xs rest known e =
    let a = bind_ok (key_above_at last bytes) (λ first. keys_above_at (Some first.0) n first.1 >>= λ others. add first.0 others) (xs, rest) e in
    let b = bind_ok (keys_above_at (Some a.0.0) n a.0.1) (λ others. add a.0.0 others) (xs, rest) a.2 in
    let first = (lawful_key_above last).takes bytes a.0.0 a.0.1 known a.1 in
    let second = keys_take (Some a.0.0) n a.0.1 b.0.0 b.0.1 first.0.known b.1 in
    let both = takes_both IsBytes bytes (key_bytes a.0.0) a.0.1 (flat_map key_bytes b.0.0) b.0.1 first.0 second.0 in
    let all : List (Tag × Version) × List ℕ = (a.0.0 ∷ b.0.0, b.0.1) in
    subst (λ (y : List (Tag × Version) × List ℕ). Takes IsBytes bytes (flat_map key_bytes y.0) y.1 × ((length y.0 ≡ suc n) × AreKeys last y.0)) (ok_is all (xs, rest) b.2)
    (rw flat_map-cons both, (ap suc second.1.0, (first.1, second.1.1)))

keys_again : (last : Option (Tag × Version)) (xs : List (Tag × Version)) (rest : List ℕ) → AreKeys last xs → keys_above_at last (length xs) (flat_map key_bytes xs ++ rest) ≡ Ok (xs, rest)
unfolding keys_above_at
keys_again last [] rest fits = refl
keys_again last (x ∷ xs) rest fits =
    let regrouped : flat_map key_bytes (x ∷ xs) ++ rest ≡ key_bytes x ++ (flat_map key_bytes xs ++ rest) = ap (λ (t : List ℕ). t ++ rest) (flat_map-cons key_bytes x xs) ∙ append_assoc (key_bytes x) (flat_map key_bytes xs) rest in
    ap (keys_above_at last (suc (length xs))) regrouped ∙ rw ((lawful_key_above last).again x (flat_map key_bytes xs ++ rest) fits.0 tt, keys_again (Some x) xs rest fits.1) refl

keys_fail : (last : Option (Tag × Version)) (n : ℕ) (bytes : List ℕ) (left : ℕ) → IsBytes bytes → keys_above_at last n bytes ≡ Err left → left ≤ length bytes
unfolding keys_above_at
keys_fail last zero bytes left known e = absurd cc
keys_fail last (suc n) bytes left known e =
    elim (bind_err (key_above_at last bytes) (λ first. keys_above_at (Some first.0) n first.1 >>= λ others. add first.0 others) left e) [
      | inl h ↦ (lawful_key_above last).fails bytes left known h
      | inr a ↦
          let first = ((lawful_key_above last).takes bytes a.0.0 a.0.1 known a.1).0 in
          let short = rest_fits bytes (key_bytes a.0.0) a.0.1 first.parts in
          elim (bind_err (keys_above_at (Some a.0.0) n a.0.1) (λ others. add a.0.0 others) left a.2) [
            | inl h ↦ let le = keys_fail (Some a.0.0) n a.0.1 left first.known h in omega arith
            | inr b ↦ absurd (let k = b.2 in cc)
          ]
    ]

lawful_keys : (last : Option (Tag × Version)) (n : ℕ) → LawfulBytes (keys_above_at last n) (λ xs. flat_map key_bytes xs) (λ xs. (length xs ≡ n) × AreKeys last xs)
lawful_keys last n = record {
  takes = keys_take last n;
  again = λ xs rest h _. ap (λ (m : ℕ). keys_above_at last m (flat_map key_bytes xs ++ rest)) (sym h.0) ∙ keys_again last xs rest h.1;
  begins = λ xs rest _. tt;
  fails = keys_fail last n;
}

pub lawful_entries : LawfulBytes entries_at entries_bytes AreEntryKeys
unfolding entries_at
lawful_entries =
    lawful_counted is_key_count (λ n e. let le = leb-true n 256 e in omega arith) (lawful_keys None)
    (λ keys ok all. (leb-true (length keys) 256 ok, all))
    (λ keys are. (le-leb (length keys) 256 are.0, are.1))

-- ---- as a loop reads them

-- what was read before, and what is still read
abbrev pub with_front : List (Tag × Version) → Result (List (Tag × Version) × List ℕ) ℕ → Result (List (Tag × Version) × List ℕ) ℕ
with_front front read = read >>= λ x. Ok (front ++ x.0, x.1)

regroup : (front : List (Tag × Version)) (key : Tag × Version) (read : Result (List (Tag × Version) × List ℕ) ℕ) → with_front front (read >>= λ others. add key others) ≡ with_front (front ++ key ∷ []) read
regroup front key (Ok x) = ap (λ (keys : List (Tag × Version)). Ok (keys, x.1)) (simp append_assoc)
regroup front key (Err d) = refl

pub keys_go_on : (front : List (Tag × Version)) (last : Option (Tag × Version)) (count i : ℕ) (bytes : List ℕ) (key : Tag × Version) (after : List ℕ) (total : Result (List (Tag × Version) × List ℕ) ℕ) → i < count
    → key_above_at last bytes ≡ Ok (key, after) → with_front front (keys_above_at last (count - i) bytes) ≡ total → with_front (front ++ key ∷ []) (keys_above_at (Some key) (count - (i + 1)) after) ≡ total
unfolding keys_above_at
keys_go_on front last count i bytes key after total lt h so_far =
    let k : count - i ≡ suc (count - (i + 1)) = omega arith in
    let one : with_front front (keys_above_at last (count - i) bytes) ≡ with_front (front ++ key ∷ []) (keys_above_at (Some key) (count - (i + 1)) after) = rw (k, h) (regroup front key (keys_above_at (Some key) (count - (i + 1)) after)) in
    sym one ∙ so_far

pub keys_stop : (left : ℕ) (front : List (Tag × Version)) (last : Option (Tag × Version)) (count i : ℕ) (bytes : List ℕ) (total : Result (List (Tag × Version) × List ℕ) ℕ) → i < count
    → key_above_at last bytes ≡ Err left → with_front front (keys_above_at last (count - i) bytes) ≡ total → total ≡ Err left
unfolding keys_above_at
keys_stop left front last count i bytes total lt h so_far =
    let k : count - i ≡ suc (count - (i + 1)) = omega arith in
    let one : with_front front (keys_above_at last (count - i) bytes) ≡ Err left = rw (k, h) refl in
    sym so_far ∙ one

pub keys_end : (front : List (Tag × Version)) (last : Option (Tag × Version)) (count i : ℕ) (bytes : List ℕ) (total : Result (List (Tag × Version) × List ℕ) ℕ) → count ≤ i
    → with_front front (keys_above_at last (count - i) bytes) ≡ total → total ≡ Ok (front, bytes)
unfolding keys_above_at
keys_end front last count i bytes total le so_far =
    let k : count - i ≡ 0 = omega arith in
    let one : with_front front (keys_above_at last (count - i) bytes) ≡ Ok (front, bytes) = rw k (ap (λ (keys : List (Tag × Version)). Ok (keys, bytes)) (append-nil front)) in
    sym so_far ∙ one
