-- Items of a Put in the bytes of a body, one after another.
use Rattle.std.proofs.Common.{◌≡◌, ℕ, zero, suc, ◌+◌, ◌-◌, ◌≤◌, ltb, cond, true, false, List, [], ◌∷◌, ◌++◌, length, take, drop, Option, Some, None, Result, Ok, Err, IsTrue, refl, sym, ap, subst, ◌∙◌, arith}
use Rattle.std.specs.Prelude.{IsErr, IfSome}
use Rattle.std.specs.Int.{w16, w32, from_be_bytes}
use Rattle.std.proofs.lemmas.Bool.{ltb-false}
use Rattle.std.proofs.lemmas.List.{drop_at, drop-drop, length-append, length-drop}
use Rattle.message_fields.specs.Grammar.Readers.{◌>>=◌}
use Rattle.message_fields.specs.Grammar.Fields.{number_at, checked}
use Rattle.message_fields.proofs.Grammar.Laws.{bind_ok, ok_is}
use Rattle.message_fields.proofs.Grammar.FieldLaws.{IsBytes, guard_ok, test_ok}
use Rattle.message_fields.specs.Parts.{times, behind}
use Rattle.message_fields.specs.Fingerprints.{is_batch}
use Rattle.message_fields.proofs.PartLaws.{bytes_drop}
use Rattle.message_fields.proofs.Loops.{behind_ok}
use Rattle.message_fields.specs.CdBase.place.Place.{Place}
use Rattle.record_body.specs.declared.body.PutItem.{PutItem}
use Rattle.record_body.specs.declared.body.FoundItem.{FoundItem}
use Rattle.record_body.specs.FirstSpelling.{placed_bytes, item_bytes, FitsItem}
use Rattle.record_body.specs.FirstReading.{item_at, items_at}
use Rattle.record_body.specs.FirstInPlace.{read_items, is_read, FirstWalk, AreFirstItemsIn, IsFirstItemAt, IsFirstStepOver}
use Rattle.record_body.proofs.FirstItemLaws.{lawful_item}

-- ---- how many there are

counted : (n : ℕ) (bytes : List ℕ) (items : List PutItem) (rest : List ℕ) → times item_at n bytes ≡ Ok (items, rest) → length items ≡ n
unfolding times
counted zero bytes items rest e = ap (λ (y : List PutItem × List ℕ). length y.0) (sym (ok_is ([], bytes) (items, rest) e))
counted (suc n) bytes items rest e =
    let a = bind_ok (item_at bytes) (λ first. times item_at n first.1 >>= λ others. Ok (first.0 ∷ others.0, others.1)) (items, rest) e in
    let b = bind_ok (times item_at n a.0.1) (λ others. Ok (a.0.0 ∷ others.0, others.1)) (items, rest) a.2 in
    let all : List PutItem × List ℕ = (a.0.0 ∷ b.0.0, b.0.1) in
    ap (λ (y : List PutItem × List ℕ). length y.0) (sym (ok_is all (items, rest) b.2)) ∙ ap suc (counted n a.0.1 b.0.0 b.0.1 b.1)

read_ok : (r : Result (List PutItem × List ℕ) ℕ) → IsTrue (is_read r) → (rest : List ℕ) × (r ≡ Ok (read_items r, rest))
read_ok (Ok x) h = (x.1, refl)
read_ok (Err left) h = absurd (let no : false ≡ true = h in cc)

pub length-read : (body : List ℕ) (at count : ℕ) → AreFirstItemsIn body at count → length (read_items (times item_at count (drop at body))) ≡ count
length-read body at count lies =
    let r = read_ok (times item_at count (drop at body)) lies.read in
    counted count (drop at body) (read_items (times item_at count (drop at body))) r.0 r.1

pub none_left : (body : List ℕ) (at count : ℕ) → count ≡ 0 → read_items (times item_at count (drop at body)) ≡ []
unfolding times
none_left body at count none = rw none refl

-- ---- a step

abbrev before : PutItem → Result (List PutItem × List ℕ) ℕ → Result (List PutItem × List ℕ) ℕ
before item r = r >>= λ others. Ok (item ∷ others.0, others.1)

read_before : (item : PutItem) (r : Result (List PutItem × List ℕ) ℕ) → IsTrue (is_read (before item r)) → IsTrue (is_read r) × (read_items (before item r) ≡ item ∷ read_items r)
read_before item (Ok x) h = (refl, refl)
read_before item (Err left) h = absurd (let no : false ≡ true = h in cc)

first_item : (m : ℕ) (bytes : List ℕ) (item : PutItem) (rest : List ℕ) → item_at bytes ≡ Ok (item, rest) → times item_at (suc m) bytes ≡ before item (times item_at m rest)
unfolding times
first_item m bytes item rest e = rw e refl

no_first : (m : ℕ) (bytes : List ℕ) (left : ℕ) → item_at bytes ≡ Err left → times item_at (suc m) bytes ≡ Err left
unfolding times
no_first m bytes left e = rw e refl

pub not_read : (body : List ℕ) (at left : ℕ) → item_at (drop at body) ≡ Err left → IsErr (item_at (drop at body))
not_read body at left e = rw e refl

-- there is one while items are to come
pub item_there : (body : List ℕ) (at count m : ℕ) → AreFirstItemsIn body at count → count ≡ suc m → IsErr (item_at (drop at body)) → ⊥
item_there body at count m lies some none = fails (item_at (drop at body)) refl none
  where
    fails : (r : Result (PutItem × List ℕ) ℕ) → item_at (drop at body) ≡ r → IsErr r → ⊥
    fails (Ok x) e err = let no : false ≡ true = err in cc
    fails (Err left) e err =
        let stop : times item_at count (drop at body) ≡ Err left = ap (λ (n : ℕ). times item_at n (drop at body)) some ∙ no_first m (drop at body) left e in
        let no : false ≡ true = subst (λ (r : Result (List PutItem × List ℕ) ℕ). IsTrue (is_read r)) stop lies.read in
        cc

flag_there : (o : Option Place) → 1 ≤ length (placed_bytes o)
flag_there None = omega arith
flag_there (Some place) = omega arith

some_bytes : (item : PutItem) → FitsItem item → 33 ≤ length (item_bytes item)
some_bytes item fits = omega (arith, fits.0, flag_there item.place, length-append item.fp.0 (placed_bytes item.place))

pub item_ends : (body : List ℕ) (at : ℕ) (item : PutItem) (rest : List ℕ) (next : ℕ) → IsBytes body → at ≤ length body → item_at (drop at body) ≡ Ok (item, rest) → next ≡ length body - length rest → IsFirstItemAt body at item next
item_ends body at item rest next known within e is_next =
    let t = lawful_item.takes (drop at body) item rest (bytes_drop at body known) e in
    let parts : drop at body ≡ item_bytes item ++ rest = t.0.parts in
    let all : length body ≡ (at + length (item_bytes item)) + length rest = omega (arith, ap length parts, length-drop at body, length-append (item_bytes item) rest) in
    let here : next ≡ at + length (item_bytes item) = omega arith in
    let moved : drop (length (item_bytes item)) (drop at body) ≡ drop (at + length (item_bytes item)) body = drop-drop (length (item_bytes item)) at body in
    let left : drop next body ≡ rest = ap (λ (n : ℕ). drop n body) here ∙ sym moved ∙ ap (drop (length (item_bytes item))) parts ∙ drop_at (item_bytes item) rest (length (item_bytes item)) refl in
    record {
      read = e ∙ ap (λ (r : List ℕ). Ok (item, r)) (sym left);
      fits = t.1;
      ends = here;
      within = omega arith;
    }

place_there : (o : Option Place) (at len : ℕ) → (at + 32) + length (placed_bytes o) ≤ len → IfSome o (λ _. (at + 33) + 12 ≤ len)
place_there None at len le = tt
place_there (Some place) at len le = omega arith

placed_within : (item : PutItem) (at len : ℕ) → FitsItem item → at + length (item_bytes item) ≤ len → IfSome item.place (λ _. (at + 33) + 12 ≤ len)
placed_within item at len fits le =
    place_there item.place at len (omega (arith, fits.0, length-append item.fp.0 (placed_bytes item.place)))

abbrev walk_at : List ℕ → ℕ → ℕ → FirstWalk
walk_at body at count = record { body = body; at = at; items = read_items (times item_at count (drop at body)) }

abbrev found_at : PutItem → ℕ → FoundItem
found_at item at = record { item = item; fp_at = at; flag_at = at + 32; place_at = at + 33 }

pub record Steps (body : List ℕ) (at count next m : ℕ) (item : PutItem) : Type 0 where
  pub lies : AreFirstItemsIn body next m
  pub over : IsFirstStepOver (walk_at body at count) (found_at item at) (walk_at body next m)

pub steps : (body : List ℕ) (at count next m : ℕ) (item : PutItem) → AreFirstItemsIn body at count → count ≡ suc m → IsFirstItemAt body at item next → Steps body at count next m item
steps body at count next m item lies some is =
    let all : times item_at count (drop at body) ≡ before item (times item_at m (drop next body)) =
    ap (λ (n : ℕ). times item_at n (drop at body)) some ∙ first_item m (drop at body) item (drop next body) is.read in
    let both = read_before item (times item_at m (drop next body)) (subst (λ (r : Result (List PutItem × List ℕ) ℕ). IsTrue (is_read r)) all lies.read) in
    record {
      lies = record { within = is.within; read = both.0 };
      over = record {
        items = ap read_items all ∙ both.1;
        fits = is.fits;
        fp_at = refl;
        flag_at = refl;
        place_at = refl;
        flag_within = omega (arith, is.ends, is.within, some_bytes item is.fits);
        place_within = placed_within item at (length body) is.fits (omega (arith, is.ends, is.within));
        body = refl;
        at = is.ends;
        within = is.within;
      };
    }

-- ---- the first item

number_rest : (bytes : List ℕ) (n : ℕ) (rest : List ℕ) → number_at w32 bytes ≡ Ok (n, rest) → (rest ≡ drop 4 bytes) × (4 ≤ length bytes)
number_rest bytes n rest e =
    let g = guard_ok (ltb (length bytes) 4) 0 (from_be_bytes w32 (take 4 bytes), drop 4 bytes) (n, rest) e in
    (sym (ap (λ (p : ℕ × List ℕ). p.1) g.1), ltb-false _ _ g.0)

pub count_rest : (bytes : List ℕ) (n : ℕ) (rest : List ℕ) → checked is_batch (number_at w16) bytes ≡ Ok (n, rest) → (rest ≡ drop 2 bytes) × (2 ≤ length bytes)
count_rest bytes n rest e =
    let a = bind_ok (number_at w16 bytes) (λ x. cond (is_batch x.0) (Ok x) (Err (length bytes))) (n, rest) e in
    let t = test_ok (is_batch a.0.0) (length bytes) a.0 (n, rest) a.2 in
    let g = guard_ok (ltb (length bytes) 2) 0 (from_be_bytes w16 (take 2 bytes), drop 2 bytes) a.0 a.1 in
    (sym (ap (λ (p : ℕ × List ℕ). p.1) (g.1 ∙ t.1)), ltb-false _ _ g.0)

-- the items of a Put lie in its body, from place 7 on
pub record Begins (body : List ℕ) (count : ℕ) (items rest : List ℕ) (fields : List ℕ) : Type 0 where
  pub lies : AreFirstItemsIn body 7 count
  pub read : items_at fields ≡ Ok (read_items (times item_at count (drop 7 body)), rest)

pub begins : (body fields : List ℕ) (user : ℕ) (behind_user : List ℕ) (count : ℕ) (items rest : List ℕ) → body ≡ 1 ∷ fields → number_at w32 fields ≡ Ok (user, behind_user)
    → checked is_batch (number_at w16) behind_user ≡ Ok (count, items) → behind (times item_at count items) ≡ Ok rest → Begins body count items rest behind_user
unfolding items_at
begins body fields user behind_user count items rest is one two three =
    let a = number_rest fields user behind_user one in
    let b = count_rest behind_user count items two in
    let all = behind_ok (times item_at count items) rest three in
    let skipped : drop 2 (drop 4 fields) ≡ drop 6 fields = drop-drop 2 4 fields in
    let here : drop 7 body ≡ items = ap (drop 7) is ∙ sym skipped ∙ ap (drop 2) (sym a.0) ∙ sym b.0 in
    let read : times item_at count (drop 7 body) ≡ Ok (all.0, rest) = ap (times item_at count) here ∙ all.1 in
    record {
      lies = record {
        within = omega (arith, ap length is, ap length a.0, length-drop 4 fields, a.1, b.1);
        read = subst (λ (r : Result (List PutItem × List ℕ) ℕ). IsTrue (is_read r)) (sym read) refl;
      };
      read = rw (two, all.1, read) refl;
    }
