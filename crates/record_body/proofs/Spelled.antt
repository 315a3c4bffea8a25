-- What is written, and how long it is.
use Rattle.std.proofs.Common.{◌≡◌, ℕ, ◌+◌, ◌*◌, ◌<◌, ◌≤◌, List, [], ◌∷◌, ◌++◌, length, Option, Some, refl, ap, ◌∙◌, append_assoc, arith}
use Rattle.std.specs.Prelude.{All}
use Rattle.std.specs.List.{flat_map}
use Rattle.std.specs.Int.{w32, w64, to_be_bytes}
use Rattle.std.proofs.lemmas.List.{length-append}
use Rattle.std.proofs.lemmas.List.Concat.{flat_map-cons}
use Rattle.std.proofs.lemmas.List.Elements.{All-head, All-tail}
use Rattle.message_fields.specs.CdBase.place.Place.{Place}
use Rattle.record_body.specs.FirstSpelling.{place_bytes, placed_bytes}
use Rattle.record_body.specs.FirstSpelling as first
use Rattle.record_body.proofs.FirstSpelled as first_spelled
use Rattle.record_body.specs.declared.body.DeleteBody.{DeleteBody}
use Rattle.record_body.specs.declared.body.KeptItem.{KeptItem}
use Rattle.record_body.specs.declared.body.SpentBody.{SpentBody}
use Rattle.record_body.specs.Spelling.{Body, Put, Commit, Delete, Kept, Spent, kept_bytes, kept_front, body_bytes, FitsDelete, FitsKept, FitsBody}

-- ---- lengths

pub length-item : (item : KeptItem) → FitsKept item → length (kept_bytes item) ≡ 44
length-item item fits = omega (arith, length-append item.fp.0 (place_bytes item.place), fits.0)

pub length-items : (items : List KeptItem) → All FitsKept items → length (flat_map kept_bytes items) ≡ 44 * length items
length-items [] all = refl
length-items (item ∷ items) all =
    let rest = length-items items (All-tail FitsKept item items all) in
    omega (arith, ap length (flat_map-cons kept_bytes item items), length-append (kept_bytes item) (flat_map kept_bytes items), length-item item (All-head FitsKept item items all))

pub length-kept : (items : List KeptItem) → All FitsKept items → length (body_bytes (Kept items)) ≡ 3 + 44 * length items
length-kept items all = omega (arith, length-items items all)

pub length-delete : (d : DeleteBody) → FitsDelete d → length (body_bytes (Delete d)) ≡ 45
length-delete d fits = omega (arith, length-append d.tag.0 (to_be_bytes w64 d.version.0), fits.tag)

pub length-spent : (s : SpentBody) → length (body_bytes (Spent s)) ≡ 25
length-spent s = refl

pub longest : (b : Body) → FitsBody b → length (body_bytes b) ≤ 11527
longest (Put user items) fits = first_spelled.longest (first.Put user items) fits
longest (Commit c) fits = first_spelled.longest (first.Commit c) fits
longest (Delete d) fits = omega (arith, length-delete d fits)
longest (Kept items) fits = omega (arith, length-kept items fits.1, fits.0.1)
longest (Spent s) fits = omega (arith, length-spent s)

pub room : (count : ℕ) (items : List KeptItem) → All FitsKept items → length items < 256 → length (kept_front count ++ flat_map kept_bytes items) + 44 ≤ 65535
room count items all few = omega (arith, length-items items all)

-- ---- writing

pub place_written : (old a b x y : List ℕ) (place : Place) → x ≡ to_be_bytes w64 place.at → a ≡ old ++ x → y ≡ to_be_bytes w32 place.len → b ≡ a ++ y
    → b ≡ old ++ place_bytes place
place_written old a b x y place is_x one is_y two = two ∙ rw (one, is_x, is_y) (simp append_assoc)

pub placed_written : (old a b : List ℕ) (o : Option Place) (place : Place) → o ≡ Some place → a ≡ old ++ 1 ∷ [] → b ≡ a ++ place_bytes place
    → b ≡ old ++ placed_bytes o
placed_written old a b o place is one two = two ∙ rw (one, is) (simp append_assoc)
