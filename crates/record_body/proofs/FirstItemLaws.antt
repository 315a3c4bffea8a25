-- Places, flags and items are read as they are spelled.
use Rattle.std.proofs.Common.{◌≡◌, ℕ, suc, ◌≤◌, eqb, cond, List, [], ◌∷◌, ◌++◌, length, Option, Some, None, Result, Ok, Err, refl, sym, ap, subst, arith, inl, inr, eqb-true}
use Rattle.std.specs.Prelude.{All}
use Rattle.std.specs.List.{flat_map}
use Rattle.std.specs.Int.{w16, to_be_bytes}
use Rattle.message_fields.specs.CdBase.place.Place.{Place}
use Rattle.message_fields.proofs.Grammar.Laws.{Takes, bind_ok, bind_err, ok_is, err_is, lawful_then}
use Rattle.message_fields.proofs.Grammar.FieldLaws.{IsBytes, Anything, LawfulBytes, lawful_bytes, lawful_checked, wide32}
use Rattle.message_fields.specs.Parts.{made}
use Rattle.message_fields.specs.Fingerprints.{IsBatch, is_batch}
use Rattle.message_fields.specs.Shares.{is_share_len}
use Rattle.message_fields.proofs.PartLaws.{bytes_tail, lawful_made, lawful_times, lawful_counted, lawful_u64, picked}
use Rattle.message_fields.proofs.FpLaws.{batch_from, batch_to, small_batch}
use Rattle.message_fields.proofs.ShareLaws.{share_from, share_to, small_share}
use Rattle.record_body.specs.declared.body.PutItem.{PutItem}
use Rattle.record_body.specs.FirstSpelling.{place_bytes, placed_bytes, item_bytes, FitsPlace, FitsPlaced, FitsItem}
use Rattle.record_body.specs.FirstReading.{place_at, placed_at, item_at, items_at}

-- ---- places

pub lawful_place : LawfulBytes place_at place_bytes FitsPlace
unfolding place_at
lawful_place =
    lawful_made (lawful_then IsBytes Anything lawful_u64 (lawful_checked is_share_len wide32 small_share)) (λ x. record { at = x.0; len = x.1 }) (λ p. (p.at, p.len)) FitsPlace
    (λ x fits. (refl, (fits.0, share_from x.1 fits.1)))
    (λ p fits. ((fits.0, share_to p.len fits.1.0 fits.1.1), refl))

-- ---- a flag, and the place behind flag 1

abbrev Took : ℕ → List ℕ → Option Place → List ℕ → Type 0
Took flag bytes o rest = Takes IsBytes (flag ∷ bytes) (placed_bytes o) rest × FitsPlaced o

abbrev read_as : Option Place → List ℕ → Result (Option Place × List ℕ) ℕ
read_as o rest = Ok (o, rest)

with_place : (bytes : List ℕ) (o : Option Place) (rest : List ℕ) → IsBytes bytes → made Some place_at bytes ≡ Ok (o, rest) → Took 1 bytes o rest
with_place bytes o rest known e =
    let a = bind_ok (place_at bytes) (λ x. Ok (Some x.0, x.1)) (o, rest) e in
    let t = lawful_place.takes bytes a.0.0 a.0.1 known a.1 in
    let made : Option Place × List ℕ = (Some a.0.0, a.0.1) in
    subst (λ (p : Option Place × List ℕ). Took 1 bytes p.0 p.1) (ok_is made (o, rest) a.2) (record { parts = ap (λ (x : List ℕ). 1 ∷ x) t.0.parts; known = t.0.known }, t.1)

without_place : (bytes : List ℕ) (o : Option Place) (rest : List ℕ) → IsBytes bytes → read_as None bytes ≡ read_as o rest → Took 0 bytes o rest
without_place bytes o rest known e =
    let made : Option Place × List ℕ = (None, bytes) in
    subst (λ (p : Option Place × List ℕ). Took 0 bytes p.0 p.1) (ok_is made (o, rest) e) (record { parts = refl; known = known }, tt)

placed_takes : (bytes : List ℕ) (o : Option Place) (rest : List ℕ) → IsBytes bytes → placed_at bytes ≡ Ok (o, rest) → Takes IsBytes bytes (placed_bytes o) rest × FitsPlaced o
unfolding placed_at
placed_takes [] o rest known e = absurd cc
placed_takes (flag ∷ bytes) o rest known e =
    elim (picked (eqb flag 0) (read_as None bytes) (cond (eqb flag 1) (made Some place_at bytes) (Err (suc (length bytes)))) (read_as o rest) e) [
      | inl h ↦ subst (λ (f : ℕ). Took f bytes o rest) (sym (eqb-true flag 0 h.0)) (without_place bytes o rest (bytes_tail flag bytes known) h.1)
      | inr t ↦
          elim (picked (eqb flag 1) (made Some place_at bytes) (Err (suc (length bytes))) (read_as o rest) t.1) [
            | inl h ↦ subst (λ (f : ℕ). Took f bytes o rest) (sym (eqb-true flag 1 h.0)) (with_place bytes o rest (bytes_tail flag bytes known) h.1)
            | inr h ↦ absurd (let k = h.1 in cc)
          ]
    ]

placed_again : (o : Option Place) (rest : List ℕ) → FitsPlaced o → placed_at (placed_bytes o ++ rest) ≡ Ok (o, rest)
unfolding placed_at
placed_again None rest fits = refl
placed_again (Some place) rest fits = rw (lawful_place.again place rest fits tt) refl

placed_fails : (bytes : List ℕ) (left : ℕ) → IsBytes bytes → placed_at bytes ≡ Err left → left ≤ length bytes
unfolding placed_at
placed_fails [] left known e = let z : left ≡ 0 = err_is {A = Option Place × List ℕ} left 0 e in omega arith
placed_fails (flag ∷ bytes) left known e =
    elim (picked (eqb flag 0) (read_as None bytes) (cond (eqb flag 1) (made Some place_at bytes) (Err (suc (length bytes)))) (Err left) e) [
      | inl h ↦ absurd (let k = h.1 in cc)
      | inr t ↦
          elim (picked (eqb flag 1) (made Some place_at bytes) (Err (suc (length bytes))) (Err left) t.1) [
            | inl h ↦
                elim (bind_err (place_at bytes) (λ x. Ok (Some x.0, x.1)) left h.1) [
                  | inl k ↦ let le = lawful_place.fails bytes left (bytes_tail flag bytes known) k in omega arith
                  | inr a ↦ absurd (let k = a.2 in cc)
                ]
            | inr h ↦ let same : left ≡ suc (length bytes) = err_is {A = Option Place × List ℕ} left (suc (length bytes)) h.1 in omega arith
          ]
    ]

lawful_placed : LawfulBytes placed_at placed_bytes FitsPlaced
lawful_placed = record { takes = placed_takes; again = λ o rest fits _. placed_again o rest fits; begins = λ o rest _. tt; fails = placed_fails }

-- ---- items

pub lawful_item : LawfulBytes item_at item_bytes FitsItem
unfolding item_at
lawful_item =
    lawful_made (lawful_then IsBytes Anything (lawful_bytes 32) lawful_placed) (λ x. record { fp = record { 0 = x.0 }; place = x.1 }) (λ item. (item.fp.0, item.place)) FitsItem
    (λ x fits. (refl, fits))
    (λ item fits. (fits, refl))

abbrev pub items_bytes : List PutItem → List ℕ
items_bytes items = to_be_bytes w16 (length items) ++ flat_map item_bytes items

abbrev pub AreItems : List PutItem → Type 0
AreItems items = IsBatch items × All FitsItem items

pub lawful_items : LawfulBytes items_at items_bytes AreItems
unfolding items_at
lawful_items =
    lawful_counted is_batch small_batch (lawful_times lawful_item)
    (λ items ok all. let b = batch_from (length items) ok in ((b.0, b.1), all))
    (λ items are. (batch_to (length items) are.0.0 are.0.1, are.1))
