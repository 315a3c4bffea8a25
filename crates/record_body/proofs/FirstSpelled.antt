-- What is written of a Put and a Commit, and how long it is.
use Rattle.std.proofs.Common.{◌≡◌, ℕ, ◌+◌, ◌*◌, ◌<◌, ◌≤◌, Bool, true, false, cond, List, [], ◌∷◌, ◌++◌, length, Option, Some, None, refl, ap, ◌∙◌, append_assoc, arith}
use Rattle.std.specs.Prelude.{All, is_some}
use Rattle.std.specs.List.{flat_map, count_by}
use Rattle.std.specs.Int.{w32, w64, to_be_bytes}
use Rattle.std.proofs.lemmas.List.{length-append}
use Rattle.std.proofs.lemmas.List.Concat.{flat_map-cons}
use Rattle.std.proofs.lemmas.List.Elements.{All-head, All-tail}
use Rattle.std.proofs.lemmas.List.Sums.{count_by-le-length, sum_by-cons}
use Rattle.message_fields.specs.CdBase.place.Place.{Place}
use Rattle.message_fields.specs.CdBase.ids.UserId.{UserId}
use Rattle.record_body.specs.declared.body.PutItem.{PutItem}
use Rattle.record_body.specs.declared.body.CommitBody.{CommitBody}
use Rattle.record_body.specs.FirstSpelling.{FirstBody, Put, Commit, placed_bytes, item_bytes, put_front, body_bytes, FitsItem, FitsFirstBody, FitsCommit}

-- ---- lengths

abbrev pub has_place : PutItem → Bool
has_place item = is_some item.place

length-placed : (o : Option Place) → length (placed_bytes o) ≡ 1 + cond (is_some o) 12 0
length-placed None = refl
length-placed (Some place) = refl

counts : (item : PutItem) (items : List PutItem) → 12 * count_by has_place (item ∷ items) ≡ cond (has_place item) 12 0 + 12 * count_by has_place items
counts item items =
    let more : count_by has_place (item ∷ items) ≡ cond (has_place item) 1 0 + count_by has_place items = sum_by-cons (λ (y : PutItem). cond (has_place y) 1 0) item items in
    ap (λ (n : ℕ). 12 * n) more ∙ twelve (has_place item) (count_by has_place items)
  where
    twelve : (b : Bool) (n : ℕ) → 12 * (cond b 1 0 + n) ≡ cond b 12 0 + 12 * n
    twelve true n = omega arith
    twelve false n = omega arith

pub length-items : (items : List PutItem) → All FitsItem items → length (flat_map item_bytes items) ≡ 33 * length items + 12 * count_by has_place items
length-items [] all = refl
length-items (item ∷ items) all =
    let fits = All-head FitsItem item items all in
    let rest = length-items items (All-tail FitsItem item items all) in
    omega (arith, ap length (flat_map-cons item_bytes item items), length-append (item_bytes item) (flat_map item_bytes items), length-append item.fp.0 (placed_bytes item.place), length-placed item.place, counts item items, fits.0)

pub length-put : (user : UserId) (items : List PutItem) → All FitsItem items → length (body_bytes (Put user items)) ≡ 7 + 33 * length items + 12 * count_by has_place items
length-put user items all = omega (arith, length-items items all)

pub length-commit : (c : CommitBody) → FitsCommit c → length (body_bytes (Commit c)) ≡ 89
length-commit c fits =
    let tail : List ℕ = to_be_bytes w64 c.version.0 ++ (to_be_bytes w64 c.at ++ (to_be_bytes w32 c.len ++ c.fp.0)) in
    omega (arith, length-append c.tag.0 tail, fits.tag, fits.fp)

pub longest : (b : FirstBody) → FitsFirstBody b → length (body_bytes b) ≤ 11527
longest (Put user items) fits = omega (arith, length-put user items fits.1.1, count_by-le-length has_place items, fits.1.0.1)
longest (Commit c) fits = omega (arith, length-commit c fits)

pub room : (user : UserId) (count : ℕ) (items : List PutItem) → All FitsItem items → length items < 256 → length (put_front user count ++ flat_map item_bytes items) + 45 ≤ 65535
room user count items all few = omega (arith, length-items items all, count_by-le-length has_place items)

-- ---- writing

pub placed_written : (old a b c x y : List ℕ) (o : Option Place) (place : Place) → o ≡ Some place → a ≡ old ++ 1 ∷ [] → x ≡ to_be_bytes w64 place.at → b ≡ a ++ x → y ≡ to_be_bytes w32 place.len → c ≡ b ++ y
    → c ≡ old ++ placed_bytes o
placed_written old a b c x y o place is one is_x two is_y three = three ∙ rw (two, one, is_x, is_y, is) (simp append_assoc)

regroup : (a b c d e f g : List ℕ) → (((((a ++ b) ++ c) ++ d) ++ e) ++ f) ++ g ≡ a ++ (b ++ (c ++ (d ++ (e ++ (f ++ g)))))
regroup a b c d e f g = simp append_assoc

pub commit_written : (commit : CommitBody) (a b c d e f g user version at len : List ℕ) → a ≡ 2 ∷ [] → user ≡ to_be_bytes w32 commit.user.0 → b ≡ a ++ user → c ≡ b ++ commit.tag.0
    → version ≡ to_be_bytes w64 commit.version.0 → d ≡ c ++ version → at ≡ to_be_bytes w64 commit.at → e ≡ d ++ at → len ≡ to_be_bytes w32 commit.len → f ≡ e ++ len → g ≡ f ++ commit.fp.0
    → g ≡ body_bytes (Commit commit)
commit_written commit a b c d e f g user version at len ea eu eb ec ev ed et ee el ef eg =
    eg ∙ rw (ef, ee, ed, ec, eb, ea, eu, ev, et, el) (regroup (2 ∷ []) (to_be_bytes w32 commit.user.0) commit.tag.0 (to_be_bytes w64 commit.version.0) (to_be_bytes w64 commit.at) (to_be_bytes w32 commit.len) commit.fp.0)
