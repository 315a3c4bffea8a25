-- A proper beginning of a body is too short: the first field that fails lacks bytes.
use Rattle.std.proofs.Common.{◌≡◌, ℕ, ◌^◌, ◌<◌, true, false, List, [], ◌∷◌, ◌++◌, length, Err, IsTrue, refl, sym, ap, ◌∙◌}
use Rattle.std.specs.Int.{w32, w64, to_be_bytes}
use Rattle.message_fields.specs.Grammar.Fields.{number_at}
use Rattle.message_fields.proofs.Grammar.FieldLaws.{lawful_bytes, lawful_checked, wide16, wide32, wide64}
use Rattle.message_fields.specs.Fingerprints.{is_batch}
use Rattle.message_fields.proofs.PartLaws.{lawful_u32, lawful_u64}
use Rattle.message_fields.proofs.FpLaws.{batch_to, small_batch}
use Rattle.record_body.specs.declared.body.BodyErr.TheVariants as errors
use Rattle.record_body.specs.FirstSpelling as first
use Rattle.record_body.specs.FirstReading as first_reading
use Rattle.record_body.proofs.FirstCuts.{Cuts, peeled, cut_bytes, cut_number, cut_checked, cut_made, cut_given, cut_then, cut_times, cut_place}
use Rattle.record_body.proofs.FirstCuts as first_cuts
use Rattle.record_body.specs.Spelling.{Body, Put, Commit, Delete, Kept, Spent, kept_bytes, kept_fields, body_bytes, FitsKept, FitsBody}
use Rattle.record_body.specs.Reading.{item_at, items_at, delete_at, kept_at, spent_at, fields_at, front_at, judged, is_later, lifted_answer, body_at}
use Rattle.record_body.proofs.ItemLaws.{lawful_item, AreItems}
use Rattle.record_body.proofs.BodyLaws.{read_delete, spell_delete, FitsDeleteFields, delete_of, delete_parts, delete_back, read_spent, spell_spent, FitsSpentFields, spent_of, spent_parts, spent_back, made_of, IsLater, later_at, first_at}

-- ---- items

cut_item : Cuts item_at kept_bytes FitsKept
unfolding item_at
cut_item = cut_made (cut_then (lawful_bytes 32) (cut_bytes 32) cut_place) (λ x. record { fp = record { 0 = x.0 }; place = x.1 }) (λ item. (item.fp.0, item.place)) FitsKept (λ item fits. fits)

cut_items : Cuts items_at kept_fields AreItems
unfolding items_at
cut_items =
    cut_made (cut_given (lawful_checked is_batch wide16 small_batch) (cut_checked is_batch (cut_number wide16 (λ n. IsTrue (is_batch n)))) (cut_times lawful_item cut_item)) (λ x. x.1) (λ items. (length items, items)) AreItems
    (λ items are. (batch_to (length items) are.0.0 are.0.1, (refl, are.1)))

-- ---- bodies

cut_user : Cuts (number_at w32) (λ n. to_be_bytes w32 n) (λ n. n < 2 ^ 32)
cut_user = cut_number wide32 (λ n. n < 2 ^ 32)

cut_long : Cuts (number_at w64) (λ n. to_be_bytes w64 n) (λ n. n < 2 ^ 64)
cut_long = cut_number wide64 (λ n. n < 2 ^ 64)

cut_delete : Cuts read_delete spell_delete FitsDeleteFields
cut_delete = cut_then lawful_u32 cut_user (cut_then (lawful_bytes 32) (cut_bytes 32) cut_long)

cut_spent : Cuts read_spent spell_spent FitsSpentFields
cut_spent = cut_then lawful_u32 cut_user (cut_then lawful_u32 cut_user (cut_then lawful_u64 cut_long cut_long))

front_cut : (b : Body) (front : List ℕ) (x : ℕ) (rest : List ℕ) → IsLater b → FitsBody b → body_bytes b ≡ front ++ x ∷ rest → front_at front ≡ Err 0
unfolding front_at fields_at delete_at kept_at spent_at
front_cut (Put user items) front x rest later fits e = absurd later
front_cut (Commit c) front x rest later fits e = absurd later
front_cut (Delete d) [] x rest later fits e = refl
front_cut (Delete d) (kind ∷ front) x rest later fits e =
    let p = peeled 3 kind (spell_delete (delete_parts d)) (front ++ x ∷ rest) e in
    ap (λ (k : ℕ). fields_at k front) (sym p.0) ∙ ap (made_of delete_of) (cut_delete.cut (delete_parts d) front x rest (delete_back d fits) p.1)
front_cut (Kept items) [] x rest later fits e = refl
front_cut (Kept items) (kind ∷ front) x rest later fits e =
    let p = peeled 4 kind (kept_fields items) (front ++ x ∷ rest) e in
    ap (λ (k : ℕ). fields_at k front) (sym p.0) ∙ ap (made_of Kept) (cut_items.cut items front x rest fits p.1)
front_cut (Spent s) [] x rest later fits e = refl
front_cut (Spent s) (kind ∷ front) x rest later fits e =
    let p = peeled 5 kind (spell_spent (spent_parts s)) (front ++ x ∷ rest) e in
    ap (λ (k : ℕ). fields_at k front) (sym p.0) ∙ ap (made_of spent_of) (cut_spent.cut (spent_parts s) front x rest (spent_back s fits) p.1)

-- ---- all the bytes

none_short : body_at [] ≡ Err errors.Short
unfolding first_reading.body_at first_reading.front_at
none_short = first_at [] refl

-- the first byte of a beginning is the body's
later_front : (b : Body) (front : List ℕ) (kind x : ℕ) (rest : List ℕ) → IsLater b → body_bytes b ≡ kind ∷ front ++ x ∷ rest → is_later (kind ∷ front) ≡ true
later_front (Put user items) front kind x rest later e = absurd later
later_front (Commit c) front kind x rest later e = absurd later
later_front (Delete d) front kind x rest later e = ap (λ (k : ℕ). is_later (k ∷ front)) (sym (peeled 3 kind (spell_delete (delete_parts d)) (front ++ x ∷ rest) e).0)
later_front (Kept items) front kind x rest later e = ap (λ (k : ℕ). is_later (k ∷ front)) (sym (peeled 4 kind (kept_fields items) (front ++ x ∷ rest) e).0)
later_front (Spent s) front kind x rest later e = ap (λ (k : ℕ). is_later (k ∷ front)) (sym (peeled 5 kind (spell_spent (spent_parts s)) (front ++ x ∷ rest) e).0)

later_short : (b : Body) (front : List ℕ) (x : ℕ) (rest : List ℕ) → IsLater b → FitsBody b → body_bytes b ≡ front ++ x ∷ rest → body_at front ≡ Err errors.Short
later_short b [] x rest later fits e = none_short
later_short b (kind ∷ front) x rest later fits e =
    later_at (kind ∷ front) (later_front b front kind x rest later e) ∙ ap (judged (length (kind ∷ front))) (front_cut b (kind ∷ front) x rest later fits e)

first_front : (b : first.FirstBody) (front : List ℕ) (kind x : ℕ) (rest : List ℕ) → first.body_bytes b ≡ kind ∷ front ++ x ∷ rest → is_later (kind ∷ front) ≡ false
first_front (first.Put user items) front kind x rest e =
    ap (λ (k : ℕ). is_later (k ∷ front)) (sym (peeled 1 kind _ (front ++ x ∷ rest) e).0)
first_front (first.Commit c) front kind x rest e = ap (λ (k : ℕ). is_later (k ∷ front)) (sym (peeled 2 kind _ (front ++ x ∷ rest) e).0)

first_short : (b : first.FirstBody) (front : List ℕ) (x : ℕ) (rest : List ℕ) → first.FitsFirstBody b → first.body_bytes b ≡ front ++ x ∷ rest → body_at front ≡ Err errors.Short
first_short b [] x rest fits e = none_short
first_short b (kind ∷ front) x rest fits e =
    first_at (kind ∷ front) (first_front b front kind x rest e) ∙ ap lifted_answer (first_cuts.short b (kind ∷ front) x rest fits e)

pub short : (b : Body) (front : List ℕ) (x : ℕ) (rest : List ℕ) → FitsBody b → body_bytes b ≡ front ++ x ∷ rest → body_at front ≡ Err errors.Short
short (Put user items) front x rest fits e = first_short (first.Put user items) front x rest fits e
short (Commit c) front x rest fits e = first_short (first.Commit c) front x rest fits e
short (Delete d) front x rest fits e = later_short (Delete d) front x rest tt fits e
short (Kept items) front x rest fits e = later_short (Kept items) front x rest tt fits e
short (Spent s) front x rest fits e = later_short (Spent s) front x rest tt fits e
