-- Where a memory places what the records place, with one record more.
use Rattle.std.proofs.Common.{◌≡◌, Bool, true, false, cond, List, [], ◌∷◌, ◌++◌, Option, Some, None, refl, sym, ap, ◌∙◌, subst, inl, inr, append-nil, append_assoc}
use Rattle.std.specs.Prelude.{◌&&◌, ◌==◌, ◌↔◌, bytes_eq, is_some}
use Rattle.std.specs.List.{Contains}
use Rattle.std.specs.Option.{option_or}
use Rattle.std.specs.FinMap.{FinMap, get}
use Rattle.std.proofs.lemmas.Bool.{and_parts, eqb-true}
use Rattle.std.proofs.lemmas.List.Elements.{Contains-append_left, Contains-append_right, Contains-append_cases}
use Rattle.std.proofs.lemmas.Slice.Eq.{bytes_eq-Decides}
use Rattle.spent_table.specs.CdBase.ids.Fp.{Fp}
use Rattle.spent_table.specs.CdBase.ids.Tag.{Tag}
use Rattle.spent_table.specs.CdBase.ids.UserId.{UserId}
use Rattle.spent_table.specs.CdBase.ids.Version.{Version}
use Rattle.file_index.specs.declared.key.Entry.{Entry}
use Rattle.file_index.specs.Files.{key_of}
use Rattle.cloud_areas.specs.RecordBody.body.CommitBody.{CommitBody}
use Rattle.cloud_areas.specs.RecordBody.body.PutItem.{PutItem}
use Rattle.cloud_areas.specs.RecordBody.body.DeleteBody.{DeleteBody}
use Rattle.cloud_areas.specs.RecordBody.Spelling as bodies
use Rattle.cloud_areas.specs.RecordBody.Spelling.{Body}
use Rattle.spent_table.specs.CdBase.place.Place.{Place}
use Rattle.spent_table.specs.CdBase.Order.{fp_cmp}
use Rattle.cloud_areas.proofs.UserDedup.Owned.{fp_same, contains_here, contains_nothing, contains_cases}
use Rattle.cloud_areas.proofs.Placed.{shares_more}
use Rattle.cloud_areas.specs.Placing.{shares_in, places_given}
use Rattle.cloud_memory.specs.declared.rooms.New.{New}
use Rattle.cloud_memory.specs.Memory.{Memory, IsPlacedBy, commit_of}
use Rattle.cloud_memory.specs.Steps.{with_item, with_items, part_in, parts_of, with_put, with_commit, without_entry}
use Rattle.cloud_memory.proofs.Keys.{entry_in, entry_out}
use Rattle.cloud_memory.proofs.Puts.{place_for, placed_more, files_stay}

-- ---- shares

-- the pairs are those of the map
abbrev pub Gives : List (Fp × Place) → FinMap fp_cmp Place → Type 0
Gives pairs places = (fp : Fp) (place : Place) → get places fp.0 ≡ Some place ↔ Contains pairs (fp, place)

-- the pair of a share, where it is placed now
abbrev pair_of : Memory → New → List (Fp × Place)
pair_of m n = places_given (part_in m n ∷ [])

one_given : (pairs : List (Fp × Place)) (user : UserId) (m : Memory) (n : New) → Gives pairs m.places → Gives (pairs ++ pair_of m n) (with_item user m (part_in m n)).places
one_given pairs user m n gives fp place = by_place (get m.places n.fp.0) refl
  where
    or_none : (o : Option Place) → option_or o None ≡ o
    or_none None = refl
    or_none (Some p) = refl

    last : Fp × Place
    last = (n.fp, place_for m n)

    pairs_with : Option Place → List (Fp × Place)
    pairs_with o = places_given (record { fp = n.fp; place = cond (is_some o) None (Some (place_for m n)) } ∷ [])

    by_place : (o : Option Place) → get m.places n.fp.0 ≡ o → get (with_item user m (part_in m n)).places fp.0 ≡ Some place ↔ Contains (pairs ++ pairs_with (get m.places n.fp.0)) (fp, place)
    by_place (Some p) is =
        subst (λ (o : Option Place). get (with_item user m (part_in m n)).places fp.0 ≡ Some place ↔ Contains (pairs ++ pairs_with o) (fp, place)) (sym is)
        (subst (λ (l : List (Fp × Place)). get (with_item user m (part_in m n)).places fp.0 ≡ Some place ↔ Contains l (fp, place)) (sym (append-nil pairs))
        (subst (λ (o : Option Place). o ≡ Some place ↔ Contains pairs (fp, place)) (sym (placed_more m user n fp ∙ still (bytes_eq n.fp.0 fp.0) refl)) (gives fp place)))
      where
        still : (b : Bool) → bytes_eq n.fp.0 fp.0 ≡ b → option_or (get m.places fp.0) (cond b (Some (place_for m n)) None) ≡ get m.places fp.0
        still true t =
            let has : get m.places fp.0 ≡ Some p = ap (λ (q : Fp). get m.places q.0) (sym ((fp_same n.fp fp).0 t)) ∙ is in
            ap (λ (o : Option Place). option_or o (Some (place_for m n))) has ∙ sym has
        still false t = or_none (get m.places fp.0)
    by_place None is =
        subst (λ (o : Option Place). get (with_item user m (part_in m n)).places fp.0 ≡ Some place ↔ Contains (pairs ++ pairs_with o) (fp, place)) (sym is)
        (subst (λ (o : Option Place). o ≡ Some place ↔ Contains (pairs ++ last ∷ []) (fp, place)) (sym (placed_more m user n fp)) (by_test (bytes_eq n.fp.0 fp.0) refl))
      where
        by_test : (b : Bool) → bytes_eq n.fp.0 fp.0 ≡ b → option_or (get m.places fp.0) (cond b (Some (place_for m n)) None) ≡ Some place ↔ Contains (pairs ++ last ∷ []) (fp, place)
        by_test true t =
            let same : n.fp ≡ fp = (fp_same n.fp fp).0 t in
            let none : get m.places fp.0 ≡ None = ap (λ (q : Fp). get m.places q.0) (sym same) ∙ is in
            subst (λ (o : Option Place). option_or o (Some (place_for m n)) ≡ Some place ↔ Contains (pairs ++ last ∷ []) (fp, place)) (sym none) (
              λ e. let here : place_for m n ≡ place = cc in
                  Contains-append_right pairs (last ∷ []) (fp, place) (subst (λ (x : Fp × Place). Contains (last ∷ []) x) (λ i. (same i, here i)) (contains_here last [])),
              λ c. elim (Contains-append_cases pairs (last ∷ []) (fp, place) c) [
                | inl old ↦ absurd (let never : None ≡ Some place = sym none ∙ (gives fp place).1 old in cc)
                | inr new ↦ elim (contains_cases last [] (fp, place) new) [
                  | inl e ↦ ap (λ (x : Fp × Place). Some x.1) e
                  | inr later ↦ absurd (contains_nothing (fp, place) later)
                ]
              ],
            )
        by_test false t =
            subst (λ (o : Option Place). o ≡ Some place ↔ Contains (pairs ++ last ∷ []) (fp, place)) (sym (or_none (get m.places fp.0))) (
              λ e. Contains-append_left pairs (last ∷ []) (fp, place) ((gives fp place).0 e),
              λ c. elim (Contains-append_cases pairs (last ∷ []) (fp, place) c) [
                | inl old ↦ (gives fp place).1 old
                | inr new ↦ elim (contains_cases last [] (fp, place) new) [
                  | inl e ↦ absurd (let other : false ≡ true = sym t ∙ (fp_same n.fp fp).1 (ap (λ (x : Fp × Place). x.0) e) in cc)
                  | inr later ↦ absurd (contains_nothing (fp, place) later)
                ]
              ],
            )

pub given_more : (item : PutItem) (items : List PutItem) → places_given (item ∷ items) ≡ places_given (item ∷ []) ++ places_given items
given_more item items = by_place item.place refl
  where
    by_place : (o : Option Place) → item.place ≡ o → places_given (item ∷ items) ≡ places_given (item ∷ []) ++ places_given items
    by_place None is = rw is refl
    by_place (Some p) is = rw is refl

all_given : (pairs : List (Fp × Place)) (user : UserId) (m : Memory) (news : List New) → Gives pairs m.places
    → Gives (pairs ++ places_given (parts_of user m news)) (with_items user m (parts_of user m news)).places
all_given pairs user m [] gives = subst (λ (l : List (Fp × Place)). Gives l m.places) (sym (append-nil pairs)) gives
all_given pairs user m (n ∷ news) gives =
    let next = with_item user m (part_in m n) in
    subst (λ (l : List (Fp × Place)). Gives l (with_items user next (parts_of user next news)).places)
    (append_assoc pairs (pair_of m n) (places_given (parts_of user next news)) ∙ ap (λ (l : List (Fp × Place)). pairs ++ l) (sym (given_more (part_in m n) (parts_of user next news))))
    (all_given (pairs ++ pair_of m n) user next news (one_given pairs user m n gives))

-- ---- records

pub put_placed : (records : List Body) (user : UserId) (news : List New) (m : Memory) → IsPlacedBy records m
    → IsPlacedBy (records ++ bodies.Put user (parts_of user m news) ∷ []) (with_put user (parts_of user m news) m)
put_placed records user news m placed = record {
  shares =
      subst (λ (l : List (Fp × Place)). Gives l (with_items user m (parts_of user m news)).places) (sym (shares_more records (bodies.Put user (parts_of user m news))))
      (all_given (shares_in records) user m news placed.shares);
  recipes = λ q tag version e is.
      Contains-append_left records (bodies.Put user (parts_of user m news) ∷ []) (bodies.Commit (commit_of q tag version e))
      (placed.recipes q tag version e (ap (λ mm. get mm (key_of q.0 tag.0 version.0)) (sym (files_stay user m (parts_of user m news))) ∙ is));
}

abbrev entry_of : CommitBody → Entry
entry_of c = record { at = c.at; len = c.len; fp = c.fp }

pub commit_placed : (records : List Body) (names : List Fp) (c : CommitBody) (m : Memory) → IsPlacedBy records m → IsPlacedBy (records ++ bodies.Commit c ∷ []) (with_commit names c m)
commit_placed records names c m placed = record {
  shares = subst (λ (l : List (Fp × Place)). Gives l m.places) (sym (shares_more records (bodies.Commit c) ∙ append-nil (shares_in records))) placed.shares;
  recipes = λ q tag version e is.
      by_test q tag version e ((c.user.0 == q.0) && (bytes_eq c.tag.0 tag.0 && (c.version.0 == version.0))) refl
      (sym (entry_in m.files c.user.0 c.tag.0 c.version.0 (entry_of c) q.0 tag.0 version.0) ∙ is);
}
  where
    by_test : (q : UserId) (tag : Tag) (version : Version) (e : Entry) (b : Bool) → ((c.user.0 == q.0) && (bytes_eq c.tag.0 tag.0 && (c.version.0 == version.0))) ≡ b
        → cond b (Some (entry_of c)) (get m.files (key_of q.0 tag.0 version.0)) ≡ Some e → Contains (records ++ bodies.Commit c ∷ []) (bodies.Commit (commit_of q tag version e))
    by_test q tag version e true t is =
        let p = and_parts (c.user.0 == q.0) (bytes_eq c.tag.0 tag.0 && (c.version.0 == version.0)) t in
        let s = and_parts (bytes_eq c.tag.0 tag.0) (c.version.0 == version.0) p.1 in
        let users : c.user.0 ≡ q.0 = eqb-true c.user.0 q.0 p.0 in
        let tags : c.tag.0 ≡ tag.0 = (bytes_eq-Decides c.tag.0 tag.0).0 s.0 in
        let versions : c.version.0 ≡ version.0 = eqb-true c.version.0 version.0 s.1 in
        let entry : Some (entry_of c) ≡ Some e = is in
        let entries : entry_of c ≡ e = cc in
        let same : c ≡ commit_of q tag version e = λ i. record {
          user = record { 0 = users i };
          tag = record { 0 = tags i };
          version = record { 0 = versions i };
          at = (entries i).at;
          len = (entries i).len;
          fp = (entries i).fp;
        } in
        Contains-append_right records (bodies.Commit c ∷ []) (bodies.Commit (commit_of q tag version e))
        (subst (λ (x : CommitBody). Contains (bodies.Commit c ∷ []) (bodies.Commit x)) same (contains_here (bodies.Commit c) []))
    by_test q tag version e false t is =
        Contains-append_left records (bodies.Commit c ∷ []) (bodies.Commit (commit_of q tag version e)) (placed.recipes q tag version e is)

pub delete_placed : (records : List Body) (names : List Fp) (d : DeleteBody) (m : Memory) → IsPlacedBy records m
    → IsPlacedBy (records ++ bodies.Delete d ∷ []) (without_entry names d.user (key_of d.user.0 d.tag.0 d.version.0) m)
delete_placed records names d m placed = record {
  shares = subst (λ (l : List (Fp × Place)). Gives l m.places) (sym (shares_more records (bodies.Delete d) ∙ append-nil (shares_in records))) placed.shares;
  recipes = λ q tag version e is.
      Contains-append_left records (bodies.Delete d ∷ []) (bodies.Commit (commit_of q tag version e))
      (placed.recipes q tag version e
      (by_test q tag version e ((d.user.0 == q.0) && (bytes_eq d.tag.0 tag.0 && (d.version.0 == version.0)))
      (sym (entry_out m.files d.user.0 d.tag.0 d.version.0 q.0 tag.0 version.0) ∙ is)));
}
  where
    by_test : (q : UserId) (tag : Tag) (version : Version) (e : Entry) (b : Bool) → cond b None (get m.files (key_of q.0 tag.0 version.0)) ≡ Some e
        → get m.files (key_of q.0 tag.0 version.0) ≡ Some e
    by_test q tag version e true is = absurd (let never : None ≡ Some e = is in cc)
    by_test q tag version e false is = is
