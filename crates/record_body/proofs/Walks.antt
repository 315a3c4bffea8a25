-- Items of a Kept in the bytes of a body, one after another.
use Rattle.std.proofs.Common.{◌≡◌, ℕ, zero, suc, ◌+◌, ◌-◌, ◌≤◌, true, false, List, [], ◌∷◌, ◌++◌, length, drop, Result, Ok, Err, IsTrue, refl, sym, ap, subst, ◌∙◌, arith}
use Rattle.std.specs.Prelude.{IsErr}
use Rattle.std.specs.Int.{w16}
use Rattle.std.proofs.lemmas.List.{drop_at, drop-drop, length-append, length-drop}
use Rattle.message_fields.specs.Grammar.Readers.{◌>>=◌}
use Rattle.message_fields.specs.Grammar.Fields.{number_at, checked}
use Rattle.message_fields.proofs.Grammar.Laws.{bind_ok, ok_is}
use Rattle.message_fields.proofs.Grammar.FieldLaws.{IsBytes}
use Rattle.message_fields.specs.Parts.{times, behind}
use Rattle.message_fields.specs.Fingerprints.{is_batch}
use Rattle.message_fields.proofs.PartLaws.{bytes_drop}
use Rattle.message_fields.proofs.Loops.{behind_ok}
use Rattle.record_body.specs.declared.body.KeptItem.{KeptItem}
use Rattle.record_body.specs.declared.body.FoundKept.{FoundKept}
use Rattle.record_body.specs.Spelling.{kept_bytes}
use Rattle.record_body.specs.Reading.{item_at, items_at}
use Rattle.record_body.specs.InPlace.{read_items, is_read, Walk, AreItemsIn, IsItemAt, StepsOver}
use Rattle.record_body.proofs.FirstWalks.{count_rest}
use Rattle.record_body.proofs.ItemLaws.{lawful_item}
use Rattle.record_body.proofs.Spelled.{length-item}

-- ---- how many there are

counted : (n : ℕ) (bytes : List ℕ) (items : List KeptItem) (rest : List ℕ) → times item_at n bytes ≡ Ok (items, rest) → length items ≡ n
unfolding times
counted zero bytes items rest e = ap (λ (y : List KeptItem × List ℕ). length y.0) (sym (ok_is ([], bytes) (items, rest) e))
counted (suc n) bytes items rest e =
    let a = bind_ok (item_at bytes) (λ first. times item_at n first.1 >>= λ others. Ok (first.0 ∷ others.0, others.1)) (items, rest) e in
    let b = bind_ok (times item_at n a.0.1) (λ others. Ok (a.0.0 ∷ others.0, others.1)) (items, rest) a.2 in
    let all : List KeptItem × List ℕ = (a.0.0 ∷ b.0.0, b.0.1) in
    ap (λ (y : List KeptItem × List ℕ). length y.0) (sym (ok_is all (items, rest) b.2)) ∙ ap suc (counted n a.0.1 b.0.0 b.0.1 b.1)

read_ok : (r : Result (List KeptItem × List ℕ) ℕ) → IsTrue (is_read r) → (rest : List ℕ) × (r ≡ Ok (read_items r, rest))
read_ok (Ok x) h = (x.1, refl)
read_ok (Err left) h = absurd (let no : false ≡ true = h in cc)

pub length-read : (body : List ℕ) (at count : ℕ) → AreItemsIn body at count → length (read_items (times item_at count (drop at body))) ≡ count
length-read body at count lies =
    let r = read_ok (times item_at count (drop at body)) lies.read in
    counted count (drop at body) (read_items (times item_at count (drop at body))) r.0 r.1

pub none_left : (body : List ℕ) (at count : ℕ) → count ≡ 0 → read_items (times item_at count (drop at body)) ≡ []
unfolding times
none_left body at count none = rw none refl

-- ---- a step

abbrev pub before : KeptItem → Result (List KeptItem × List ℕ) ℕ → Result (List KeptItem × List ℕ) ℕ
before item r = r >>= λ others. Ok (item ∷ others.0, others.1)

read_before : (item : KeptItem) (r : Result (List KeptItem × List ℕ) ℕ) → IsTrue (is_read (before item r)) → IsTrue (is_read r) × (read_items (before item r) ≡ item ∷ read_items r)
read_before item (Ok x) h = (refl, refl)
read_before item (Err left) h = absurd (let no : false ≡ true = h in cc)

first_item : (m : ℕ) (bytes : List ℕ) (item : KeptItem) (rest : List ℕ) → item_at bytes ≡ Ok (item, rest) → times item_at (suc m) bytes ≡ before item (times item_at m rest)
unfolding times
first_item m bytes item rest e = rw e refl

no_first : (m : ℕ) (bytes : List ℕ) (left : ℕ) → item_at bytes ≡ Err left → times item_at (suc m) bytes ≡ Err left
unfolding times
no_first m bytes left e = rw e refl

pub not_read : (body : List ℕ) (at left : ℕ) → item_at (drop at body) ≡ Err left → IsErr (item_at (drop at body))
not_read body at left e = rw e refl

-- there is one while items are to come
pub item_there : (body : List ℕ) (at count m : ℕ) → AreItemsIn body at count → count ≡ suc m → IsErr (item_at (drop at body)) → ⊥
item_there body at count m lies some none = fails (item_at (drop at body)) refl none
  where
    fails : (r : Result (KeptItem × List ℕ) ℕ) → item_at (drop at body) ≡ r → IsErr r → ⊥
    fails (Ok x) e err = let no : false ≡ true = err in cc
    fails (Err left) e err =
        let stop : times item_at count (drop at body) ≡ Err left = ap (λ (n : ℕ). times item_at n (drop at body)) some ∙ no_first m (drop at body) left e in
        let no : false ≡ true = subst (λ (r : Result (List KeptItem × List ℕ) ℕ). IsTrue (is_read r)) stop lies.read in
        cc

pub item_ends : (body : List ℕ) (at : ℕ) (item : KeptItem) (rest : List ℕ) (next : ℕ) → IsBytes body → at ≤ length body → item_at (drop at body) ≡ Ok (item, rest) → next ≡ length body - length rest → IsItemAt body at item next
item_ends body at item rest next known within e is_next =
    let t = lawful_item.takes (drop at body) item rest (bytes_drop at body known) e in
    let parts : drop at body ≡ kept_bytes item ++ rest = t.0.parts in
    let all : length body ≡ (at + length (kept_bytes item)) + length rest = omega (arith, ap length parts, length-drop at body, length-append (kept_bytes item) rest) in
    let here : next ≡ at + length (kept_bytes item) = omega arith in
    let moved : drop (length (kept_bytes item)) (drop at body) ≡ drop (at + length (kept_bytes item)) body = drop-drop (length (kept_bytes item)) at body in
    let left : drop next body ≡ rest = ap (λ (n : ℕ). drop n body) here ∙ sym moved ∙ ap (drop (length (kept_bytes item))) parts ∙ drop_at (kept_bytes item) rest (length (kept_bytes item)) refl in
    record {
      read = e ∙ ap (λ (r : List ℕ). Ok (item, r)) (sym left);
      fits = t.1;
      ends = here ∙ ap (λ (n : ℕ). at + n) (length-item item t.1);
      within = omega arith;
    }

abbrev walk_at : List ℕ → ℕ → ℕ → Walk
walk_at body at count = record { body = body; at = at; items = read_items (times item_at count (drop at body)) }

abbrev found_at : KeptItem → ℕ → FoundKept
found_at item at = record { item = item; fp_at = at; place_at = at + 32 }

pub record Steps (body : List ℕ) (at count next m : ℕ) (item : KeptItem) : Type 0 where
  pub lies : AreItemsIn body next m
  pub over : StepsOver (walk_at body at count) (found_at item at) (walk_at body next m)

pub steps : (body : List ℕ) (at count next m : ℕ) (item : KeptItem) → AreItemsIn body at count → count ≡ suc m → IsItemAt body at item next → Steps body at count next m item
steps body at count next m item lies some is =
    let all : times item_at count (drop at body) ≡ before item (times item_at m (drop next body)) =
    ap (λ (n : ℕ). times item_at n (drop at body)) some ∙ first_item m (drop at body) item (drop next body) is.read in
    let both = read_before item (times item_at m (drop next body)) (subst (λ (r : Result (List KeptItem × List ℕ) ℕ). IsTrue (is_read r)) all lies.read) in
    record {
      lies = record { within = is.within; read = both.0 };
      over = record {
        items = ap read_items all ∙ both.1;
        fits = is.fits;
        fp_at = refl;
        place_at = refl;
        body = refl;
        at = is.ends;
        within = is.within;
      };
    }

-- ---- the first item

-- the items of a Kept lie in its body, from place 3 on
pub record Begins (body fields : List ℕ) (count : ℕ) (rest : List ℕ) : Type 0 where
  pub lies : AreItemsIn body 3 count
  pub read : items_at fields ≡ Ok (read_items (times item_at count (drop 3 body)), rest)

pub begins : (body fields : List ℕ) (count : ℕ) (items rest : List ℕ) → body ≡ 4 ∷ fields
    → checked is_batch (number_at w16) fields ≡ Ok (count, items) → behind (times item_at count items) ≡ Ok rest → Begins body fields count rest
unfolding items_at
begins body fields count items rest is two three =
    let b = count_rest fields count items two in
    let all = behind_ok (times item_at count items) rest three in
    let here : drop 3 body ≡ items = ap (drop 3) is ∙ sym b.0 in
    let read : times item_at count (drop 3 body) ≡ Ok (all.0, rest) = ap (times item_at count) here ∙ all.1 in
    record {
      lies = record {
        within = omega (arith, ap length is, b.1);
        read = subst (λ (r : Result (List KeptItem × List ℕ) ℕ). IsTrue (is_read r)) (sym read) refl;
      };
      read = rw (two, all.1, read) refl;
    }
