-- A proper beginning of a body of format 1 is too short: the first field that fails lacks bytes.
use Rattle.std.proofs.Common.{◌≡◌, ◌⊎◌, ℕ, suc, ◌^◌, ◌<◌, Bool, true, ltb, List, [], ◌∷◌, ◌++◌, length, Option, Some, None, Result, Err, IsTrue, refl, sym, ap, ◌∙◌, arith, inl, inr}
use Rattle.std.specs.Prelude.{All}
use Rattle.std.specs.List.{flat_map}
use Rattle.std.specs.Int.{Width, w32, byte_len, to_be_bytes}
use Rattle.std.proofs.lemmas.Bool.{lt-ltb}
use Rattle.std.proofs.lemmas.List.{length-append}
use Rattle.std.proofs.lemmas.List.Concat.{flat_map-cons}
use Rattle.std.proofs.lemmas.List.Elements.{All-head, All-tail}
use Rattle.message_fields.specs.CdBase.place.Place.{Place}
use Rattle.message_fields.specs.Grammar.Readers.{◌▷◌, ◌▷▷◌}
use Rattle.message_fields.specs.Grammar.Fields.{number_at, bytes_at, checked}
use Rattle.message_fields.proofs.Grammar.FieldLaws.{LawfulBytes, IsWide, lawful_bytes, lawful_checked, wide16, wide32, wide64}
use Rattle.message_fields.specs.Parts.{made, times}
use Rattle.message_fields.specs.Fingerprints.{is_batch}
use Rattle.message_fields.specs.Shares.{is_share_len}
use Rattle.message_fields.proofs.PartLaws.{lawful_u32, lawful_u64, lawful_kept}
use Rattle.message_fields.proofs.FpLaws.{batch_to, small_batch}
use Rattle.message_fields.proofs.ShareLaws.{share_to}
use Rattle.record_body.specs.declared.body.BodyErr.TheVariants as errors
use Rattle.record_body.specs.FirstSpelling.{FirstBody, Put, Commit, place_bytes, placed_bytes, item_bytes, body_bytes, FitsPlace, FitsPlaced, FitsItem, FitsFirstBody}
use Rattle.record_body.specs.FirstReading.{place_at, behind_flag, placed_at, item_at, items_at, put_at, is_recipe_len, commit_at, fields_at, front_at, judged, body_at}
use Rattle.record_body.proofs.FirstItemLaws.{lawful_item, items_bytes, AreItems}
use Rattle.record_body.proofs.FirstBodyLaws.{make_put, commit_of, fields_of, commit_back, spell_commit, FitsFields, read_commit, made_of}

-- ---- two ways to part one list

pub peeled : (x y : ℕ) (xs ys : List ℕ) → x ∷ xs ≡ y ∷ ys → (x ≡ y) × (xs ≡ ys)
peeled x y xs ys e = (cc, cc)

nothing_cut : (front : List ℕ) (b : ℕ) (rest : List ℕ) → [] ≡ front ++ b ∷ rest → ⊥
nothing_cut front b rest e = omega (arith, ap length e, length-append front (b ∷ rest))

parted : (s t front : List ℕ) (b : ℕ) (rest : List ℕ) → s ++ t ≡ front ++ b ∷ rest
    → ((c : ℕ) × (u : List ℕ) × (s ≡ front ++ c ∷ u)) ⊎ ((m : List ℕ) × (front ≡ s ++ m) × (t ≡ m ++ b ∷ rest))
parted [] t front b rest e = inr (front, refl, e)
parted (x ∷ s) t [] b rest e = inl (x, s, refl)
parted (x ∷ s) t (y ∷ front) b rest e =
    let p = peeled x y (s ++ t) (front ++ b ∷ rest) e in
    elim (parted s t front b rest p.1) [
      | inl h ↦ inl (h.0, h.1, let same = p.0 in let more = h.2 in cc)
      | inr h ↦ inr (h.0, let same = p.0 in let more = h.1 in cc, h.2)
    ]

-- ---- readers

-- where bytes of a value are missing, a field lacks bytes
pub record Cuts {A : Type 0} (f : List ℕ → Result (A × List ℕ) ℕ) (spell : A → List ℕ) (Fits : A → Type 0) : Type 0 where
  pub cut : (x : A) (front : List ℕ) (b : ℕ) (rest : List ℕ) → Fits x → spell x ≡ front ++ b ∷ rest → f front ≡ Err 0

is_less : (x front : List ℕ) (b : ℕ) (rest : List ℕ) (n : ℕ) → length x ≡ n → x ≡ front ++ b ∷ rest → ltb (length front) n ≡ true
is_less x front b rest n len e = lt-ltb _ _ (omega (arith, ap length e, length-append front (b ∷ rest)))

pub cut_bytes : (n : ℕ) → Cuts (bytes_at n) (λ x. x) (λ x. length x ≡ n)
cut_bytes n = record { cut = λ x front b rest len e. rw (is_less x front b rest n len e) refl }

pub cut_number : {w : Width} {limit : ℕ} → IsWide w limit → (Fits : ℕ → Type 0) → Cuts (number_at w) (λ n. to_be_bytes w n) Fits
cut_number {w} wide Fits = record { cut = λ n front b rest fits e. rw (is_less (to_be_bytes w n) front b rest (byte_len w) (wide.len n) e) refl }

pub cut_checked : (ok : ℕ → Bool) {f : List ℕ → Result (ℕ × List ℕ) ℕ} {spell : ℕ → List ℕ} {Fits : ℕ → Type 0} → Cuts f spell Fits → Cuts (checked ok f) spell Fits
cut_checked ok cuts = record { cut = λ x front b rest fits e. rw (cuts.cut x front b rest fits e) refl }

pub cut_made : {A B : Type 0} {f : List ℕ → Result (A × List ℕ) ℕ} {spell : A → List ℕ} {Fits : A → Type 0} → Cuts f spell Fits → (make : A → B) (unmake : B → A) (MadeFits : B → Type 0) → ((y : B) → MadeFits y → Fits (unmake y))
    → Cuts (made make f) (λ y. spell (unmake y)) MadeFits
cut_made cuts make unmake MadeFits here = record { cut = λ y front b rest fits e. rw (cuts.cut (unmake y) front b rest (here y fits) e) refl }

given_cut : {A B : Type 0} (f : List ℕ → Result (A × List ℕ) ℕ) (sf : A → List ℕ) (Ff : A → Type 0) (g : A → List ℕ → Result (B × List ℕ) ℕ) (sg : B → List ℕ) (Fg : A → B → Type 0) → LawfulBytes f sf Ff → Cuts f sf Ff → ((a : A) → Cuts (g a) sg (Fg a))
    → (x : A × B) (front : List ℕ) (b : ℕ) (rest : List ℕ) → Ff x.0 × Fg x.0 x.1 → sf x.0 ++ sg x.1 ≡ front ++ b ∷ rest → (f ▷▷ g) front ≡ Err 0
given_cut f sf Ff g sg Fg laws first second x front b rest fits e =
    elim (parted (sf x.0) (sg x.1) front b rest e) [
      | inl h ↦ rw (first.cut x.0 front h.0 h.1 fits.0 h.2) refl
      | inr h ↦ ap (f ▷▷ g) h.1 ∙ rw (laws.again x.0 h.0 fits.0 tt, (second x.0).cut x.1 h.0 b rest fits.1 h.2) refl
    ]

pub cut_given : {A B : Type 0} {f : List ℕ → Result (A × List ℕ) ℕ} {sf : A → List ℕ} {Ff : A → Type 0} {g : A → List ℕ → Result (B × List ℕ) ℕ} {sg : B → List ℕ} {Fg : A → B → Type 0} → LawfulBytes f sf Ff → Cuts f sf Ff → ((a : A) → Cuts (g a) sg (Fg a))
    → Cuts (f ▷▷ g) (λ x. sf x.0 ++ sg x.1) (λ x. Ff x.0 × Fg x.0 x.1)
cut_given {A} {B} {f} {sf} {Ff} {g} {sg} {Fg} laws first second = record { cut = given_cut f sf Ff g sg Fg laws first second }

pub cut_then : {A B : Type 0} {f : List ℕ → Result (A × List ℕ) ℕ} {sf : A → List ℕ} {Ff : A → Type 0} {g : List ℕ → Result (B × List ℕ) ℕ} {sg : B → List ℕ} {Fg : B → Type 0} → LawfulBytes f sf Ff → Cuts f sf Ff → Cuts g sg Fg
    → Cuts (f ▷ g) (λ x. sf x.0 ++ sg x.1) (λ x. Ff x.0 × Fg x.1)
cut_then {A} {B} {f} {sf} {Ff} {g} {sg} {Fg} laws first second = cut_given {f = f} {g = λ _. g} {Fg = λ _. Fg} laws first (λ _. second)

each_cut : {A : Type 0} (f : List ℕ → Result (A × List ℕ) ℕ) (spell : A → List ℕ) (Fits : A → Type 0) → LawfulBytes f spell Fits → Cuts f spell Fits
    → (xs : List A) (front : List ℕ) (b : ℕ) (rest : List ℕ) → All Fits xs → flat_map spell xs ≡ front ++ b ∷ rest → times f (length xs) front ≡ Err 0
unfolding times
each_cut f spell Fits laws cuts [] front b rest all e = absurd (nothing_cut front b rest e)
each_cut f spell Fits laws cuts (x ∷ xs) front b rest all e =
    elim (parted (spell x) (flat_map spell xs) front b rest (sym (flat_map-cons spell x xs) ∙ e)) [
      | inl h ↦ rw (cuts.cut x front h.0 h.1 (All-head Fits x xs all) h.2) refl
      | inr h ↦ ap (times f (suc (length xs))) h.1 ∙ rw (laws.again x h.0 (All-head Fits x xs all) tt, each_cut f spell Fits laws cuts xs h.0 b rest (All-tail Fits x xs all) h.2) refl
    ]

pub cut_times : {A : Type 0} {f : List ℕ → Result (A × List ℕ) ℕ} {spell : A → List ℕ} {Fits : A → Type 0} → LawfulBytes f spell Fits → Cuts f spell Fits → (n : ℕ)
    → Cuts (times f n) (λ xs. flat_map spell xs) (λ xs. (length xs ≡ n) × All Fits xs)
cut_times {A} {f} {spell} {Fits} laws cuts n = record { cut = λ xs front b rest fits e. ap (λ (m : ℕ). times f m front) (sym fits.0) ∙ each_cut f spell Fits laws cuts xs front b rest fits.1 e }

-- ---- items

pub cut_place : Cuts place_at place_bytes FitsPlace
unfolding place_at
cut_place =
    cut_made (cut_then lawful_u64 (cut_number wide64 (λ n. n < 2 ^ 64)) (cut_checked is_share_len (cut_number wide32 (λ n. IsTrue (is_share_len n))))) (λ x. record { at = x.0; len = x.1 }) (λ p. (p.at, p.len)) FitsPlace
    (λ p fits. (fits.0, share_to p.len fits.1.0 fits.1.1))

placed_cut : (o : Option Place) (front : List ℕ) (b : ℕ) (rest : List ℕ) → FitsPlaced o → placed_bytes o ≡ front ++ b ∷ rest → placed_at front ≡ Err 0
unfolding placed_at
placed_cut None [] b rest fits e = refl
placed_cut None (y ∷ front) b rest fits e = absurd (nothing_cut front b rest (peeled 0 y [] (front ++ b ∷ rest) e).1)
placed_cut (Some place) [] b rest fits e = refl
placed_cut (Some place) (y ∷ front) b rest fits e =
    let p = peeled 1 y (place_bytes place) (front ++ b ∷ rest) e in
    ap (λ (flag : ℕ). behind_flag flag front) (sym p.0) ∙ rw (cut_place.cut place front b rest fits p.1) refl

cut_placed : Cuts placed_at placed_bytes FitsPlaced
cut_placed = record { cut = placed_cut }

cut_item : Cuts item_at item_bytes FitsItem
unfolding item_at
cut_item = cut_made (cut_then (lawful_bytes 32) (cut_bytes 32) cut_placed) (λ x. record { fp = record { 0 = x.0 }; place = x.1 }) (λ item. (item.fp.0, item.place)) FitsItem (λ item fits. fits)

cut_items : Cuts items_at items_bytes AreItems
unfolding items_at
cut_items =
    cut_made (cut_given (lawful_checked is_batch wide16 small_batch) (cut_checked is_batch (cut_number wide16 (λ n. IsTrue (is_batch n)))) (cut_times lawful_item cut_item)) (λ x. x.1) (λ items. (length items, items)) AreItems
    (λ items are. (batch_to (length items) are.0.0 are.0.1, (refl, are.1)))

-- ---- bodies

cut_put : Cuts (number_at w32 ▷ items_at) (λ x. to_be_bytes w32 x.0 ++ items_bytes x.1) (λ x. (x.0 < 2 ^ 32) × AreItems x.1)
cut_put = cut_then lawful_u32 (cut_number wide32 (λ n. n < 2 ^ 32)) cut_items

cut_commit : Cuts read_commit spell_commit FitsFields
cut_commit =
    cut_then lawful_u32 (cut_number wide32 (λ n. n < 2 ^ 32)) (cut_then (lawful_bytes 32) (cut_bytes 32) (cut_then lawful_u64 (cut_number wide64 (λ n. n < 2 ^ 64)) (cut_then lawful_u64 (cut_number wide64 (λ n. n < 2 ^ 64))
    (cut_then (lawful_kept is_recipe_len lawful_u32) (cut_checked is_recipe_len (cut_number wide32 (λ n. (n < 2 ^ 32) × IsTrue (is_recipe_len n)))) (cut_bytes 32)))))

front_cut : (b : FirstBody) (front : List ℕ) (x : ℕ) (rest : List ℕ) → FitsFirstBody b → body_bytes b ≡ front ++ x ∷ rest → front_at front ≡ Err 0
unfolding front_at fields_at put_at commit_at
front_cut (Put user items) [] x rest fits e = refl
front_cut (Put user items) (kind ∷ front) x rest fits e =
    let p = peeled 1 kind (to_be_bytes w32 user.0 ++ items_bytes items) (front ++ x ∷ rest) e in
    ap (λ (k : ℕ). fields_at k front) (sym p.0) ∙ ap (made_of make_put) (cut_put.cut (user.0, items) front x rest fits p.1)
front_cut (Commit c) [] x rest fits e = refl
front_cut (Commit c) (kind ∷ front) x rest fits e =
    let p = peeled 2 kind (spell_commit (fields_of c)) (front ++ x ∷ rest) e in
    ap (λ (k : ℕ). fields_at k front) (sym p.0) ∙ ap (made_of commit_of) (cut_commit.cut (fields_of c) front x rest (commit_back c fits) p.1)

pub short : (b : FirstBody) (front : List ℕ) (x : ℕ) (rest : List ℕ) → FitsFirstBody b → body_bytes b ≡ front ++ x ∷ rest → body_at front ≡ Err errors.Short
unfolding body_at
short b front x rest fits e = ap (judged (length front)) (front_cut b front x rest fits e)
