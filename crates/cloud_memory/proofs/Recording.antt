-- What a Put and a Commit write is the record of the command.
use Rattle.std.proofs.Common.{◌≡◌, ℕ, ◌+◌, ◌*◌, ◌/◌, ◌%◌, ◌≤◌, Bool, true, false, cond, List, [], ◌∷◌, ◌++◌, length, map, Option, Some, None, refl, sym, ap, ◌∙◌, subst, arith}
use Rattle.std.specs.Prelude.{max, nat_le, is_some}
use Rattle.std.specs.FinMap.{get}
use Rattle.std.proofs.lemmas.List.{map-append}
use Rattle.spent_table.specs.CdBase.ids.Fp.{Fp}
use Rattle.spent_table.specs.CdBase.ids.Tag.{Tag}
use Rattle.spent_table.specs.CdBase.ids.UserId.{UserId}
use Rattle.spent_table.specs.CdBase.ids.Version.{Version}
use Rattle.spent_table.specs.CdBase.shape.Shape.{Shape}
use Rattle.cloud_areas.specs.ContainerLog.Laying.{lengths}
use Rattle.cloud_areas.specs.ContainerLog.Places.{container_len, place_of}
use Rattle.cloud_areas.specs.RecordBody.Spelling as bodies
use Rattle.cloud_areas.specs.RecordBody.Spelling.{Body}
use Rattle.spent_table.specs.CdBase.place.Place.{Place}
use Rattle.cloud_areas.specs.UserDedup.Cloud.{fingerprint}
use Rattle.cloud_areas.specs.UserDedup.Owning.{is_among}
use Rattle.cloud_areas.specs.UserDedup.command.Command.{Command}
use Rattle.cloud_areas.specs.UserDedup.command.Command.TheVariants as commands
use Rattle.cloud_areas.specs.UserDedup.Cloud.{strings_in}
use Rattle.cloud_areas.specs.Chains.{PlacedNew, AreItems, IsRecord, commit_of}
use Rattle.cloud_areas.specs.Laid.{AreLaid}
use Rattle.cloud_areas.specs.Placing.{places_given, places_of, end_of, AreBehind}
use Rattle.cloud_memory.specs.declared.rooms.New.{New}
use Rattle.cloud_memory.specs.Memory.{Memory, Remembers, HasEnds}
use Rattle.cloud_memory.specs.News.{AreOf}
use Rattle.cloud_memory.specs.Steps.{end_with, with_item, part_in, parts_of}
use Rattle.cloud_memory.proofs.Lists.{among_found, both_some, are_placed}
use Rattle.cloud_memory.proofs.Puts.{ArePlaced, place_for, fps_new, lens_new, one_placed}

-- ---- the parts of a Put

placed_now : (among : Bool) (s : List ℕ) (m : Memory) (n : New) → is_some (get m.places n.fp.0) ≡ among → n.len ≡ length s → PlacedNew among s (part_in m n).place
placed_now among s m n is long = subst (λ (b : Bool). PlacedNew b s (part_in m n).place) is (by_test (is_some (get m.places n.fp.0)))
  where
    by_test : (b : Bool) → PlacedNew b s (cond b None (Some (place_for m n)))
    by_test true = tt
    by_test false = long

items_are : (before strings : List (List ℕ)) (m : Memory) (user : UserId) (news : List New) → fps_new news ≡ map fingerprint strings → lens_new news ≡ lengths strings
    → ArePlaced before m.places → AreItems (map fingerprint before) strings (parts_of user m news)
items_are before [] m user [] fps lens placed = tt
items_are before [] m user (n ∷ news) fps lens placed = absurd (let no : n.fp ∷ fps_new news ≡ [] = fps in cc)
items_are before (s ∷ strings) m user [] fps lens placed = absurd (let no : [] ≡ fingerprint s ∷ map fingerprint strings = fps in cc)
items_are before (s ∷ strings) m user (n ∷ news) fps lens placed =
    let all_fps : n.fp ∷ fps_new news ≡ fingerprint s ∷ map fingerprint strings = fps in
    let all_lens : n.len ∷ lens_new news ≡ length s ∷ lengths strings = lens in
    let fp : n.fp ≡ fingerprint s = cc in
    let fps_later : fps_new news ≡ map fingerprint strings = cc in
    let len : n.len ≡ length s = cc in
    let lens_later : lens_new news ≡ lengths strings = cc in
    let there : is_some (get m.places n.fp.0) ≡ is_among (map fingerprint before) (fingerprint s) =
    ap (λ (f : Fp). is_some (get m.places f.0)) fp ∙ both_some _ _ (placed (fingerprint s)) ∙ sym (among_found before (fingerprint s)) in
    let next = with_item user m (part_in m n) in (
      fp,
      placed_now (is_among (map fingerprint before) (fingerprint s)) s m n there len,
      subst (λ (l : List Fp). AreItems l strings (parts_of user next news)) (map-append fingerprint before (s ∷ []))
          (items_are (before ++ s ∷ []) strings next user news fps_later lens_later (one_placed before s m user n fp len placed)),
    )

-- a blob lies behind the end
place_further : (end len : ℕ) → end ≤ place_of end len
place_further end len = by_test (nat_le (end % container_len + len) container_len)
  where
    by_test : (b : Bool) → end ≤ cond b end ((end / container_len + 1) * container_len)
    by_test true = omega arith
    by_test false = omega arith

-- the parts lie one behind another, behind the end of the shares
pub parts_laid : (user : UserId) (m : Memory) (news : List New) → AreLaid m.shares_end (places_of (places_given (parts_of user m news)))
parts_laid user m [] = tt
parts_laid user m (n ∷ news) = by_test (is_some (get m.places n.fp.0)) refl (parts_laid user (with_item user m (part_in m n)) news)
  where
    rest : Option Place → List Place
    rest o = places_of (places_given (parts_of user (with_item user m (record { fp = n.fp; place = o })) news))

    by_test : (b : Bool) → is_some (get m.places n.fp.0) ≡ b → AreLaid (end_with m.shares_end (part_in m n).place) (rest (part_in m n).place)
        → AreLaid m.shares_end (places_of (places_given (part_in m n ∷ parts_of user (with_item user m (part_in m n)) news)))
    by_test true is later =
        let none : (part_in m n).place ≡ None = ap (λ (b : Bool). cond b None (Some (place_for m n))) is in
        subst (λ (o : Option Place). AreLaid (end_with m.shares_end o) (rest o) → AreLaid m.shares_end (places_of (places_given (record { fp = n.fp; place = o } ∷ parts_of user (with_item user m (record { fp = n.fp; place = o })) news))))
        (sym none) (λ l. l) later
    by_test false is later =
        let some : (part_in m n).place ≡ Some (place_for m n) = ap (λ (b : Bool). cond b None (Some (place_for m n))) is in
        let further = place_further m.shares_end n.len in
        let end : max m.shares_end (end_of (place_for m n)) ≡ end_of (place_for m n) = omega (arith, further) in
        subst (λ (o : Option Place). AreLaid (end_with m.shares_end o) (rest o) → AreLaid m.shares_end (places_of (places_given (record { fp = n.fp; place = o } ∷ parts_of user (with_item user m (record { fp = n.fp; place = o })) news))))
        (sym some) (λ l. (refl, subst (λ (e : ℕ). AreLaid e (rest (Some (place_for m n)))) end l)) later

-- what is laid behind an end lies behind all that ends in front of it
behind_laid : (least end : ℕ) (ps : List Place) → AreLaid end ps → least ≤ end → AreBehind least ps
behind_laid least end [] laid le = tt
behind_laid least end (p ∷ ps) laid le =
    (let further = place_further end p.len in let at = laid.0 in omega (arith, le, further, at), behind_laid (end_of p) (end_of p) ps laid.1 (omega arith))

-- ---- records

pub put_record : (shape : Shape) (list : List Command) (user : UserId) (strings : List (List ℕ)) (news : List New) (m : Memory) (region : ℕ) (records : List Body)
    → Remembers shape list m → AreOf news strings → HasEnds region list records m
    → IsRecord region records list (commands.Put user strings) (bodies.Put user (parts_of user m news)) []
put_record shape list user strings news m region records r of ends = (
  record {
    items = parts_of user m news;
    body_is = refl;
    each = items_are (strings_in list) strings m user news of.fps of.lens (are_placed (strings_in list) m.places r.placed r.lens);
    behind = behind_laid _ m.shares_end (places_of (places_given (parts_of user m news))) (parts_laid user m news) ends.shares;
  },
  refl,
)

pub commit_record : (list : List Command) (user : UserId) (tag : Tag) (version : Version) (recipe : List ℕ) (m : Memory) (region : ℕ) (records : List Body)
    → HasEnds region list records m
    → IsRecord region records list (commands.Commit user tag version recipe) (bodies.Commit (commit_of user tag version recipe (place_of m.recipes_end (length recipe))))
    (record { place = place_of m.recipes_end (length recipe); blob = recipe } ∷ [])
commit_record list user tag version recipe m region records ends = record {
  at = place_of m.recipes_end (length recipe);
  body_is = refl;
  behind = let further = place_further m.recipes_end (length recipe) in let had = ends.recipes in omega (arith, further, had);
  laid_is = refl;
}
