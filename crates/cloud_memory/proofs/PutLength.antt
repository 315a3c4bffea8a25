-- How long the body of a Put's record is.
use Rattle.std.proofs.Common.{◌≡◌, ℕ, ◌+◌, Bool, true, false, cond, List, [], ◌∷◌, length, Option, Some, None, refl, sym, ap, ◌∙◌, length-append, arith}
use Rattle.std.specs.Prelude.{is_some, sum_by}
use Rattle.std.specs.List.{flat_map}
use Rattle.std.specs.FinMap.{FinMap, get}
use Rattle.std.proofs.lemmas.List.Concat.{flat_map-cons}
use Rattle.std.proofs.lemmas.List.Sums.{sum_by-cons}
use Rattle.spent_table.specs.CdBase.ids.UserId.{UserId}
use Rattle.cloud_areas.specs.RecordBody.FirstSpelling.{placed_bytes, item_bytes}
use Rattle.cloud_areas.specs.RecordBody.Spelling as bodies
use Rattle.cloud_areas.specs.RecordBody.Spelling.{body_bytes}
use Rattle.spent_table.specs.CdBase.place.Place.{Place}
use Rattle.spent_table.specs.CdBase.Order.{fp_cmp}
use Rattle.cloud_memory.specs.declared.rooms.New.{New}
use Rattle.cloud_memory.specs.Memory.{Memory}
use Rattle.cloud_memory.specs.News.{AreFingerprintsApart}
use Rattle.cloud_memory.specs.Inner.{part_len}
use Rattle.cloud_memory.specs.Steps.{with_item, part_in, parts_of}
use Rattle.cloud_memory.proofs.Adding.{others, rest_apart, same_read}
use Rattle.cloud_memory.proofs.Puts.{place_for}

-- the bytes of a share's part, by the places
abbrev pub bytes_of : FinMap fp_cmp Place → New → ℕ
bytes_of places n = part_len (get places n.fp.0) n

pub known_len : (o : Option Place) (n : New) → length n.fp.0 ≡ 32 → (found : Option Place) (place : Place) → found ≡ o → found ≡ Some place → 33 ≡ part_len o n
known_len o n long found place is some = let here : part_len o n ≡ length n.fp.0 + 1 = ap (λ (q : Option Place). part_len q n) (sym is ∙ some) in omega (arith, long, here)

pub fresh_len : (o : Option Place) (n : New) → length n.fp.0 ≡ 32 → (found : Option Place) → found ≡ o → found ≡ None → 45 ≡ part_len o n
fresh_len o n long found is none = let here : part_len o n ≡ length n.fp.0 + 13 = ap (λ (q : Option Place). part_len q n) (sym is ∙ none) in omega (arith, long, here)

part_long : (m : Memory) (n : New) → length (item_bytes (part_in m n)) ≡ bytes_of m.places n
part_long m n = length-append n.fp.0 (placed_bytes (part_in m n).place) ∙ ap (λ (k : ℕ). length n.fp.0 + k) (by_test (is_some (get m.places n.fp.0)))
  where
    by_test : (b : Bool) → length (placed_bytes (cond b None (Some (place_for m n)))) ≡ cond b 1 13
    by_test true = refl
    by_test false = refl

parts_long : (m : Memory) (user : UserId) (news : List New) → AreFingerprintsApart news → length (flat_map item_bytes (parts_of user m news)) ≡ sum_by (bytes_of m.places) news
parts_long m user [] apart = refl
parts_long m user (n ∷ ns) apart =
    let mid = with_item user m (part_in m n) in
    let first = part_long m n in
    let rest = parts_long mid user ns (rest_apart n ns apart) ∙ same_read part_len m user n ns (others n ns apart) in
    ap (λ (l : List ℕ). length l) (flat_map-cons item_bytes (part_in m n) (parts_of user mid ns))
    ∙ length-append (item_bytes (part_in m n)) (flat_map item_bytes (parts_of user mid ns))
    ∙ (λ i. first i + rest i) ∙ sym (sum_by-cons (bytes_of m.places) n ns)

pub put_long : (m : Memory) (user : UserId) (news : List New) → AreFingerprintsApart news → length (body_bytes (bodies.Put user (parts_of user m news))) ≡ 7 + sum_by (bytes_of m.places) news
put_long m user news apart = omega (arith, parts_long m user news apart)
