-- What is read is spelled so, and what is spelled so is read.
use Rattle.std.proofs.Common.{◌≡◌, ℕ, zero, suc, ◌^◌, ◌<◌, ◌≤◌, Bool, true, leb, eqb, List, [], ◌∷◌, ◌++◌, length, Result, Ok, Err, refl, sym, ap, subst, ◌∙◌, append_assoc, arith, inl, inr}
use Rattle.std.specs.Prelude.{IsTrue}
use Rattle.std.specs.List.{flat_map}
use Rattle.std.specs.Int.{w16, w32, w64, to_be_bytes}
use Rattle.std.proofs.lemmas.Bool.{and_parts, leb-true, eqb-true, eq-eqb}
use Rattle.std.proofs.lemmas.List.{append-nil}
use Rattle.std.proofs.lemmas.List.Concat.{flat_map-cons}
use Rattle.grammar.specs.CdBase.Lengths.{share_len_of}
use Rattle.grammar.specs.CdBase.shape.Shape.{Shape}
use Rattle.grammar.specs.Readers.{◌>>=◌, ◌▷▷◌}
use Rattle.grammar.specs.Fields.{number_at, bytes_at, checked}
use Rattle.grammar.proofs.Laws.{Takes, bind_ok, bind_err, ok_is, takes_both, rest_fits, lawful_given}
use Rattle.grammar.proofs.FieldLaws.{IsBytes, Anything, LawfulBytes, test_ok, lawful_bytes, lawful_checked, wide16, wide32, wide64}
use Rattle.recipe.specs.declared.recipe.Recipe.{Recipe}
use Rattle.recipe.specs.declared.items.Item.{Item}
use Rattle.recipe.specs.Spelling.{item, spelling, is_name_len, is_file_len, is_count, is_len, AreRecipeItems, total, Fits, IsRecipe}
use Rattle.recipe.specs.Reading.{make_item, item_at, items_at, file_at, ended, tail_at, recipe_left, placed, recipe_at}

small_name : (n : ℕ) → is_name_len n ≡ true → n < 2 ^ 16
small_name n e = let p = and_parts (leb 1 n) _ e in let h = leb-true _ _ p.1 in omega arith

small_file : (n : ℕ) → is_file_len n ≡ true → n < 2 ^ 64
small_file n e = let h = leb-true _ _ e in omega arith

small_count : (file n : ℕ) → is_count file n ≡ true → n < 2 ^ 32
small_count file n e = let p = and_parts (leb n 32768) _ e in let h = leb-true _ _ p.0 in omega arith

small_len : (last : Bool) (n : ℕ) → is_len last n ≡ true → n < 2 ^ 32
small_len last n e = let p = and_parts _ (leb n 16384) e in let h = leb-true _ _ p.1 in omega arith

abbrev made : Result ((List ℕ × ℕ) × List ℕ) ℕ → Result (Item × List ℕ) ℕ
made r = r >>= λ p. Ok (make_item p.0, p.1)

lawful_pair : (last : Bool) → LawfulBytes (bytes_at 32 ▷▷ λ _. checked (is_len last) (number_at w32)) (λ x. x.0 ++ to_be_bytes w32 x.1) (λ x. (length x.0 ≡ 32) × IsTrue (is_len last x.1))
lawful_pair last = lawful_given IsBytes Anything (lawful_bytes 32) (λ _. lawful_checked (is_len last) wide32 (small_len last))

abbrev FitsItem : Bool → Item → Type 0
FitsItem last i = (length i.fp.0 ≡ 32) × IsTrue (is_len last i.secret_len)

lawful_item : (last : Bool) → LawfulBytes (item_at last) item (FitsItem last)
unfolding item_at
lawful_item last =
    let pair = lawful_pair last in
    let read : List ℕ → Result ((List ℕ × ℕ) × List ℕ) ℕ = bytes_at 32 ▷▷ λ _. checked (is_len last) (number_at w32) in
    record {
      takes = λ bytes x rest known e.
          let a = bind_ok (read bytes) (λ p. Ok (make_item p.0, p.1)) (x, rest) e in
          let t = pair.takes bytes a.0.0 a.0.1 known a.1 in
          subst (λ (y : Item × List ℕ). Takes IsBytes bytes (item y.0) y.1 × FitsItem last y.0) (ok_is (make_item a.0.0, a.0.1) (x, rest) a.2) t;
      again = λ x rest fits follows. ap (made) (pair.again (x.fp.0, x.secret_len) rest fits follows);
      begins = λ x rest follows. tt;
      fails = λ bytes left known e.
          elim (bind_err (read bytes) (λ p. Ok (make_item p.0, p.1)) left e) [
            | inl h ↦ pair.fails bytes left known h
            | inr a ↦ absurd (let k = a.2 in cc)
          ];
    }

items_take : (n : ℕ) (bytes : List ℕ) (x : List Item) (rest : List ℕ) → IsBytes bytes → items_at n bytes ≡ Ok (x, rest) → Takes IsBytes bytes (flat_map item x) rest × ((length x ≡ n) × AreRecipeItems x)
unfolding items_at
items_take zero bytes x rest fits e =
    subst (λ (y : List Item × List ℕ). Takes IsBytes bytes (flat_map item y.0) y.1 × ((length y.0 ≡ 0) × AreRecipeItems y.0)) (ok_is ([], bytes) (x, rest) e) (record { parts = refl; known = fits }, (refl, tt))
items_take (suc n) bytes x rest fits e =
    let a = bind_ok (item_at (eqb n 0) bytes) (λ first. items_at n first.1 >>= λ others. Ok (first.0 ∷ others.0, others.1)) (x, rest) e in
    let b = bind_ok (items_at n a.0.1) (λ others. Ok (a.0.0 ∷ others.0, others.1)) (x, rest) a.2 in
    let first = (lawful_item (eqb n 0)).takes bytes a.0.0 a.0.1 fits a.1 in
    let second = items_take n a.0.1 b.0.0 b.0.1 first.0.known b.1 in
    let both = takes_both IsBytes bytes (item a.0.0) a.0.1 (flat_map item b.0.0) b.0.1 first.0 second.0 in
    let last : IsTrue (is_len (eqb (length b.0.0) 0) a.0.0.secret_len) = subst (λ (m : ℕ). IsTrue (is_len (eqb m 0) a.0.0.secret_len)) (sym second.1.0) first.1.1 in
    let made : List Item × List ℕ = (a.0.0 ∷ b.0.0, b.0.1) in
    subst (λ (y : List Item × List ℕ). Takes IsBytes bytes (flat_map item y.0) y.1 × ((length y.0 ≡ suc n) × AreRecipeItems y.0)) (ok_is made (x, rest) b.2) (rw flat_map-cons both, (ap suc second.1.0, ((first.1.0, last), second.1.1)))

items_again : (xs : List Item) (rest : List ℕ) → AreRecipeItems xs → items_at (length xs) (flat_map item xs ++ rest) ≡ Ok (xs, rest)
unfolding items_at
items_again [] rest fits = refl
items_again (x ∷ xs) rest fits =
    let regrouped : flat_map item (x ∷ xs) ++ rest ≡ item x ++ (flat_map item xs ++ rest) = ap (λ (t : List ℕ). t ++ rest) (flat_map-cons item x xs) ∙ append_assoc (item x) (flat_map item xs) rest in
    ap (items_at (suc (length xs))) regrouped ∙ rw ((lawful_item (eqb (length xs) 0)).again x (flat_map item xs ++ rest) fits.0 tt, items_again xs rest fits.1) refl

items_fail : (n : ℕ) (bytes : List ℕ) (left : ℕ) → IsBytes bytes → items_at n bytes ≡ Err left → left ≤ length bytes
unfolding items_at
items_fail zero bytes left fits e = absurd cc
items_fail (suc n) bytes left fits e =
    elim (bind_err (item_at (eqb n 0) bytes) (λ first. items_at n first.1 >>= λ others. Ok (first.0 ∷ others.0, others.1)) left e) [
      | inl h ↦ (lawful_item (eqb n 0)).fails bytes left fits h
      | inr a ↦
          let first = ((lawful_item (eqb n 0)).takes bytes a.0.0 a.0.1 fits a.1).0 in
          let short = rest_fits bytes (item a.0.0) a.0.1 first.parts in
          elim (bind_err (items_at n a.0.1) (λ others. Ok (a.0.0 ∷ others.0, others.1)) left a.2) [
            | inl h ↦ let le = items_fail n a.0.1 left first.known h in omega arith
            | inr b ↦ absurd (let k = b.2 in cc)
          ]
    ]

lawful_items : (n : ℕ) → LawfulBytes (items_at n) (λ x. flat_map item x) (λ x. (length x ≡ n) × AreRecipeItems x)
lawful_items n = record {
  takes = items_take n;
  again = λ x rest h _. ap (λ (m : ℕ). items_at m (flat_map item x ++ rest)) (sym h.0) ∙ items_again x rest h.1;
  begins = λ x rest _. tt;
  fails = items_fail n;
}

abbrev spell_file : ℕ × (ℕ × List Item) → List ℕ
spell_file x = to_be_bytes w64 x.0 ++ (to_be_bytes w32 x.1.0 ++ flat_map item x.1.1)

abbrev FitsFile : ℕ × (ℕ × List Item) → Type 0
FitsFile x = IsTrue (is_file_len x.0) × (IsTrue (is_count x.0 x.1.0) × ((length x.1.1 ≡ x.1.0) × AreRecipeItems x.1.1))

lawful_file : LawfulBytes file_at spell_file FitsFile
unfolding file_at
lawful_file = lawful_given IsBytes Anything (lawful_checked is_file_len wide64 small_file) (λ file. lawful_given IsBytes Anything (lawful_checked (is_count file) wide32 (small_count file)) lawful_items)

-- ---- the tail of a recipe, to the end of the bytes

ended_ok : (left : ℕ) (x : ℕ × (ℕ × List Item)) (rest : List ℕ) (y : ℕ × List Item) → ended left (x, rest) ≡ Ok y → (rest ≡ []) × (total x.1.1 ≡ x.0) × ((x.0, x.1.1) ≡ y)
ended_ok left x [] y e = let g = test_ok (eqb (total x.1.1) x.0) left (x.0, x.1.1) y e in (refl, eqb-true _ _ g.0, g.1)
ended_ok left x (b ∷ bytes) y e = absurd cc

abbrev spell_tail : ℕ × List Item → List ℕ
spell_tail y = to_be_bytes w64 y.0 ++ (to_be_bytes w32 (length y.1) ++ flat_map item y.1)

abbrev FitsTail : ℕ × List Item → Type 0
FitsTail y = IsTrue (is_file_len y.0) × (IsTrue (is_count y.0 (length y.1)) × (AreRecipeItems y.1 × (total y.1 ≡ y.0)))

tail_takes : (bytes : List ℕ) (y : ℕ × List Item) → IsBytes bytes → tail_at bytes ≡ Ok y → (bytes ≡ spell_tail y) × FitsTail y
unfolding tail_at
tail_takes bytes y fits e =
    let a = bind_ok (file_at bytes) (ended (length bytes)) y e in
    let d = ended_ok (length bytes) a.0.0 a.0.1 y a.2 in
    let t = lawful_file.takes bytes a.0.0 a.0.1 fits a.1 in
    let all : bytes ≡ spell_file a.0.0 = t.0.parts ∙ ap (λ (r : List ℕ). spell_file a.0.0 ++ r) d.0 ∙ append-nil (spell_file a.0.0) in
    let counted : bytes ≡ spell_tail (a.0.0.0, a.0.0.1.1) = all ∙ ap (λ (m : ℕ). spell_file (a.0.0.0, (m, a.0.0.1.1))) (sym t.1.1.1.0) in
    let count : IsTrue (is_count a.0.0.0 (length a.0.0.1.1)) = subst (λ (m : ℕ). IsTrue (is_count a.0.0.0 m)) (sym t.1.1.1.0) t.1.1.0 in
    subst (λ (y : ℕ × List Item). (bytes ≡ spell_tail y) × FitsTail y) d.2 (counted, (t.1.0, (count, (t.1.1.1.1, d.1))))

tail_again : (y : ℕ × List Item) → FitsTail y → tail_at (spell_tail y) ≡ Ok y
unfolding tail_at
tail_again y fits =
    let x : ℕ × (ℕ × List Item) = (y.0, (length y.1, y.1)) in
    let read : file_at (spell_tail y) ≡ Ok (x, []) = ap file_at (sym (append-nil (spell_tail y))) ∙ lawful_file.again (y.0, (length y.1, y.1)) [] (fits.0, (fits.1.0, (refl, fits.1.1.0))) tt in
    let same : eqb (total y.1) y.0 ≡ true = eq-eqb _ _ fits.1.1.1 in
    ap (λ (r : Result ((ℕ × (ℕ × List Item)) × List ℕ) ℕ). r >>= ended (length (spell_tail y))) read ∙ rw same refl

-- ---- recipes

name_len : LawfulBytes (checked is_name_len (number_at w16)) (λ n. to_be_bytes w16 n) (λ n. IsTrue (is_name_len n))
name_len = lawful_checked is_name_len wide16 small_name

abbrev after_share : ℕ → List ℕ × List ℕ → Result Recipe ℕ
after_share n share = tail_at share.1 >>= λ rest. Ok (record { name_len = n; name_share = share.0; file_len = rest.0; items = rest.1 })

abbrev after_name : Shape → ℕ × List ℕ → Result Recipe ℕ
after_name shape len = bytes_at (share_len_of shape.k len.0) len.1 >>= after_share len.0

pub recipe_takes : (shape : Shape) (bytes : List ℕ) (s : Recipe) → IsBytes bytes → recipe_left shape bytes ≡ Ok s → Fits shape s × (bytes ≡ spelling s)
unfolding recipe_left
recipe_takes shape bytes s fits e =
    let a = bind_ok (checked is_name_len (number_at w16) bytes) (after_name shape) s e in
    let b = bind_ok (bytes_at (share_len_of shape.k a.0.0) a.0.1) (after_share a.0.0) s a.2 in
    let c = bind_ok (tail_at b.0.1) (λ rest. Ok (record { name_len = a.0.0; name_share = b.0.0; file_len = rest.0; items = rest.1 })) s b.2 in
    let t = name_len.takes bytes a.0.0 a.0.1 fits a.1 in
    let u = (lawful_bytes (share_len_of shape.k a.0.0)).takes a.0.1 b.0.0 b.0.1 t.0.known b.1 in
    let v = tail_takes b.0.1 c.0 u.0.known c.1 in
    let whole_recipe : Recipe = record { name_len = a.0.0; name_share = b.0.0; file_len = c.0.0; items = c.0.1 } in
    let all : bytes ≡ spelling whole_recipe = t.0.parts ∙ ap (λ (r : List ℕ). to_be_bytes w16 a.0.0 ++ r) (u.0.parts ∙ ap (λ (r : List ℕ). b.0.0 ++ r) v.0) in
    subst (λ (s : Recipe). Fits shape s × (bytes ≡ spelling s)) (ok_is whole_recipe s c.2)
    (record { name_len = t.1; name_share = u.1; file_len = v.1.0; count = v.1.1.0; items = v.1.1.1.0; whole = v.1.1.1.1 }, all)

pub recipe_again : (shape : Shape) (s : Recipe) → Fits shape s → recipe_left shape (spelling s) ≡ Ok s
unfolding recipe_left
recipe_again shape s fits =
    let tail = spell_tail (s.file_len, s.items) in
    rw (
      name_len.again s.name_len (s.name_share ++ tail) fits.name_len tt,
      (lawful_bytes (share_len_of shape.k s.name_len)).again s.name_share tail fits.name_share tt,
      tail_again (s.file_len, s.items) (fits.file_len, (fits.count, (fits.items, fits.whole))),
    ) refl

pub placed_ok : {A : Type 0} (bytes : List ℕ) (r : Result A ℕ) (x : A) → placed bytes r ≡ Ok x → r ≡ Ok x
placed_ok bytes (Ok y) x e = cc
placed_ok bytes (Err left) x e = absurd cc

-- bytes are a recipe exactly where they are its spelling
pub recipe_law : (shape : Shape) (bytes : List ℕ) (r : Recipe) → IsBytes bytes → (recipe_at shape bytes ≡ Ok r → IsRecipe shape bytes r) × (IsRecipe shape bytes r → recipe_at shape bytes ≡ Ok r)
unfolding recipe_at
recipe_law shape bytes r known = (
  λ e. let t = recipe_takes shape bytes r known (placed_ok bytes (recipe_left shape bytes) r e) in record { fits = t.0; spelled = t.1 },
  λ h. ap (placed bytes) (ap (recipe_left shape) h.spelled ∙ recipe_again shape r h.fits),
)
