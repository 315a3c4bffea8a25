-- A Put's memory is that of the list with the Put.
use Rattle.std.proofs.Common.{◌≡◌, ◌≢◌, ℕ, zero, suc, ◌+◌, ◌<◌, lt-ltb, Bool, true, false, cond, List, [], ◌∷◌, ◌++◌, length, map, Option, Some, None, refl, sym, ap, ◌∙◌, subst, arith, inl, inr, append-nil, eq-eqb}
use Rattle.std.specs.Prelude.{◌&&◌, ◌||◌, bytes_eq, find, option_map, unwrap_or}
use Rattle.std.specs.List.{Contains, sum_by}
use Rattle.std.specs.FinMap.{get}
use Rattle.std.proofs.lemmas.Bool.{cases_eq, ne_eqb}
use Rattle.std.proofs.lemmas.List.Sums.{sum_by-cons}
use Rattle.std.proofs.lemmas.List.Elements.{All-contains}
use Rattle.std.proofs.lemmas.List.Folds.{list_any-append}
use Rattle.spent_table.specs.CdBase.ids.Fp.{Fp}
use Rattle.spent_table.specs.CdBase.ids.Tag.{Tag}
use Rattle.spent_table.specs.CdBase.ids.UserId.{UserId}
use Rattle.spent_table.specs.CdBase.ids.Version.{Version}
use Rattle.spent_table.specs.CdBase.shape.Shape.{Shape}
use Rattle.file_index.specs.Files.{key_of}
use Rattle.cloud_areas.specs.RecordBody.body.PutItem.{PutItem}
use Rattle.spent_table.specs.CdBase.place.Place.{Place}
use Rattle.share_index.specs.Order.{owner_of}
use Rattle.spent_table.specs.declared.Spent.{Spent as Row}
use Rattle.spent_table.specs.Spending.{spent_by, both}
use Rattle.cloud_areas.specs.UserDedup.file_list.FileEntry.{FileEntry}
use Rattle.cloud_areas.specs.UserDedup.view.View.{View}
use Rattle.cloud_areas.specs.UserDedup.Cloud.{fingerprint, has_fingerprint}
use Rattle.cloud_areas.specs.UserDedup.Owning.{is_among}
use Rattle.cloud_areas.specs.UserDedup.Pages.{entry_at}
use Rattle.cloud_areas.specs.UserDedup.Requests.{fps_of}
use Rattle.cloud_areas.proofs.UserDedup.Owned.{among_contains, contains_among}
use Rattle.cloud_areas.specs.UserDedup.command.Command.{Command}
use Rattle.cloud_areas.specs.UserDedup.command.Command.TheVariants as commands
use Rattle.cloud_areas.specs.UserDedup.Dedup.{IsSound}
use Rattle.cloud_areas.specs.UserDedup.Cloud.{user_view, named_in, strings_in}
use Rattle.cloud_areas.specs.UserDedup.Spending.{SpentByUser, held_len, spent_of}
use Rattle.cloud_areas.proofs.UserDedup.Filtered.{from_flat}
use Rattle.cloud_areas.proofs.UserDedup.Sound.{entries_owned}
use Rattle.cloud_areas.proofs.UserDedup.Views.{own_adds, others_stay}
use Rattle.cloud_memory.specs.declared.rooms.New.{New}
use Rattle.cloud_memory.specs.Memory.{Memory, Remembers, as_spent, uses_of, summary, summary_of}
use Rattle.cloud_memory.specs.News.{AreOf, AreNewTo}
use Rattle.cloud_memory.specs.Steps.{with_item, with_items, part_in, parts_of, placed_len, spent_on, with_put}
use Rattle.cloud_memory.proofs.Puts.{ArePlaced, len_at, all_placed, owners_more, all_lack, fps_new, files_stay, spent_stays}
use Rattle.cloud_memory.proofs.Naming.{among_times}
use Rattle.cloud_memory.proofs.Lists.{strings_more, is_placed, placed_len_is, are_placed, and_more, spent_next, row_here, row_there}

-- what isn't owned no entry names
pub unnamed : (shape : Shape) (cloud : ℕ) (list : List Command) (user : UserId) (f : Fp) → IsSound shape cloud list
    → is_among (user_view shape list user).own f ≡ false → uses_of shape (user_view shape list user).files f ≡ 0
unnamed shape cloud list user f sound off = by_count (uses_of shape files f) refl
  where
    files : List FileEntry
    files = (user_view shape list user).files

    by_count : (n : ℕ) → uses_of shape files f ≡ n → n ≡ 0
    by_count zero is = refl
    by_count (suc n) is =
        let among : is_among (named_in shape files) f ≡ true = among_times (named_in shape files) f (suc n) is ∙ lt-ltb 0 (suc n) (omega arith) in
        let named = from_flat (λ (e : FileEntry). fps_of shape e.recipe) files f (among_contains (named_in shape files) f among) in
        let owned = All-contains (Contains (user_view shape list user).own) (fps_of shape named.0.recipe) f (entries_owned shape cloud list user named.0 sound named.1) named.2 in
        absurd (let no : false ≡ true = sym off ∙ contains_among (user_view shape list user).own f owned in cc)

-- a user's view, in another list in which it is the same
pub same_owners : (shape : Shape) (list after : List Command) (q : UserId) (f : Fp) (o : Option ℕ) → user_view shape after q ≡ user_view shape list q
    → o ≡ cond (is_among (user_view shape list q).own f) (Some (uses_of shape (user_view shape list q).files f)) None
    → o ≡ cond (is_among (user_view shape after q).own f) (Some (uses_of shape (user_view shape after q).files f)) None
same_owners shape list after q f o same is = is ∙ ap (λ (v : View). cond (is_among v.own f) (Some (uses_of shape v.files f)) None) (sym same)

pub named_user : (a b : UserId) → a.0 ≡ b.0 → a ≡ b
named_user a b e = λ i. record { 0 = e i }

module _ (shape : Shape) (cloud : ℕ) (list : List Command) (user : UserId) (strings : List (List ℕ)) (news : List New) (m : Memory)
    (sound : IsSound shape cloud list) (r : Remembers shape list m) (of : AreOf news strings) (new : AreNewTo m user news) where
  abbrev after_list : List Command
  after_list = list ++ commands.Put user strings ∷ []

  abbrev filled : Memory
  filled = with_items user m (parts_of user m news)

  abbrev before_view : View
  before_view = user_view shape list user

  strings_are : strings_in after_list ≡ strings_in list ++ strings
  strings_are = strings_more list (commands.Put user strings)

  placed_before : ArePlaced (strings_in list) m.places
  placed_before = are_placed (strings_in list) m.places r.placed r.lens

  pub placed_after : ArePlaced (strings_in after_list) filled.places
  placed_after =
      subst (λ (l : List (List ℕ)). ArePlaced l filled.places) (sym strings_are)
      (all_placed (strings_in list) strings m user news of.fps of.lens placed_before)

  -- ---- what is owned

  own_is : (f : Fp) → is_among (user_view shape after_list user).own f ≡ (is_among before_view.own f || is_among (fps_new news) f)
  own_is f =
      ap (λ (v : View). is_among v.own f) (own_adds shape list (commands.Put user strings) user refl)
      ∙ list_any-append (λ (other : Fp). bytes_eq other.0 f.0) before_view.own (map fingerprint strings)
      ∙ ap (λ (fps : List Fp). is_among before_view.own f || is_among fps f) (sym of.fps)

  files_are : (user_view shape after_list user).files ≡ before_view.files
  files_are = ap (λ (v : View). v.files) (own_adds shape list (commands.Put user strings) user refl)

  -- new shares are nobody's own before, so that no entry names them
  not_owned : (f : Fp) → is_among (fps_new news) f ≡ true → is_among before_view.own f ≡ false
  not_owned f e = by_test (is_among before_view.own f) (sym (all_lack m.owners user news f new.new e) ∙ r.owners user f)
    where
      by_test : (b : Bool) → None ≡ cond b (Some (uses_of shape before_view.files f)) None → b ≡ false
      by_test true e = absurd (let never : None ≡ Some (uses_of shape before_view.files f) = e in cc)
      by_test false e = refl

  owners_user : (f : Fp) → get filled.owners (owner_of user.0 f.0)
      ≡ cond (is_among (user_view shape after_list user).own f) (Some (uses_of shape (user_view shape after_list user).files f)) None
  owners_user f =
      owners_more user m news user f
      ∙ ap (λ (b : Bool). cond (b && is_among (fps_new news) f) (Some 0) (get m.owners (owner_of user.0 f.0))) (eq-eqb user.0 user.0 refl)
      ∙ by_test (is_among (fps_new news) f) refl
      ∙ sym (λ i. cond (own_is f i) (Some (uses_of shape (files_are i) f)) None)
    where
      by_test : (b : Bool) → is_among (fps_new news) f ≡ b
          → cond b (Some 0) (get m.owners (owner_of user.0 f.0)) ≡ cond (is_among before_view.own f || b) (Some (uses_of shape before_view.files f)) None
      by_test true e =
          let off = not_owned f e in
          ap Some (sym (unnamed shape cloud list user f sound off)) ∙ sym (ap (λ (b : Bool). cond (b || true) (Some (uses_of shape before_view.files f)) None) off)
      by_test false e = r.owners user f ∙ or_none (is_among before_view.own f)
        where
          or_none : (a : Bool) → cond a (Some (uses_of shape before_view.files f)) None ≡ cond (a || false) (Some (uses_of shape before_view.files f)) None
          or_none true = refl
          or_none false = refl

  owners_other : (q : UserId) (f : Fp) → user.0 ≢ q.0 → get filled.owners (owner_of q.0 f.0)
      ≡ cond (is_among (user_view shape after_list q).own f) (Some (uses_of shape (user_view shape after_list q).files f)) None
  owners_other q f other =
      same_owners shape list after_list q f (get filled.owners (owner_of q.0 f.0)) (others_stay shape list (commands.Put user strings) q other)
      (owners_more user m news q f
      ∙ ap (λ (b : Bool). cond (b && is_among (fps_new news) f) (Some 0) (get m.owners (owner_of q.0 f.0))) (ne_eqb user.0 q.0 other)
      ∙ r.owners q f)

  owners_after : (q : UserId) (f : Fp) → get filled.owners (owner_of q.0 f.0)
      ≡ cond (is_among (user_view shape after_list q).own f) (Some (uses_of shape (user_view shape after_list q).files f)) None
  owners_after q f = elim (cases_eq user.0 q.0) [
    | inl same ↦ subst (λ (u : UserId). get filled.owners (owner_of u.0 f.0) ≡ cond (is_among (user_view shape after_list u).own f) (Some (uses_of shape (user_view shape after_list u).files f)) None)
        (named_user user q same) (owners_user f)
    | inr other ↦ owners_other q f other
  ]

  -- ---- entries

  abbrev AreFiles : UserId → Tag → Version → Type 0
  AreFiles q tag version = option_map summary (get filled.files (key_of q.0 tag.0 version.0)) ≡ option_map summary_of (entry_at (user_view shape after_list q).files (tag, version))

  files_from : (q : UserId) (tag : Tag) (version : Version) → (user_view shape after_list q).files ≡ (user_view shape list q).files → AreFiles q tag version
  files_from q tag version same =
      let kept = files_stay user m (parts_of user m news) in
      ap (λ mm. option_map summary (get mm (key_of q.0 tag.0 version.0))) kept ∙ r.files q tag version
      ∙ ap (λ (l : List FileEntry). option_map summary_of (entry_at l (tag, version))) (sym same)

  files_after : (q : UserId) (tag : Tag) (version : Version) → AreFiles q tag version
  files_after q tag version = elim (cases_eq user.0 q.0) [
    | inl same ↦ subst (λ (u : UserId). AreFiles u tag version) (named_user user q same) (files_from user tag version files_are)
    | inr other ↦ files_from q tag version (ap (λ (v : View). v.files) (others_stay shape list (commands.Put user strings) q other))
  ]

  -- ---- what is spent

  len_held : (o : Option Place) (w : Option (List ℕ)) → len_at o ≡ option_map (λ (s : List ℕ). length s) w → placed_len o ≡ length (unwrap_or w [])
  len_held None None e = refl
  len_held None (Some s) e = absurd (let no : None ≡ Some (length s) = e in cc)
  len_held (Some p) None e = absurd (let no : Some p.len ≡ None = e in cc)
  len_held (Some p) (Some s) e = let same : Some p.len ≡ Some (length s) = e in cc

  -- each share counts with what is held under its fingerprint
  shares_sum : (mm : Memory) (ns : List New) (ss : List (List ℕ)) → fps_new ns ≡ map fingerprint ss
      → sum_by (λ (item : PutItem). placed_len (get filled.places item.fp.0)) (parts_of user mm ns) ≡ sum_by (held_len after_list) ss
  shares_sum mm [] [] fps = refl
  shares_sum mm [] (s ∷ ss) fps = absurd (let no : [] ≡ fingerprint s ∷ map fingerprint ss = fps in cc)
  shares_sum mm (n ∷ ns) [] fps = absurd (let no : n.fp ∷ fps_new ns ≡ [] = fps in cc)
  shares_sum mm (n ∷ ns) (s ∷ ss) fps =
      let all_fps : n.fp ∷ fps_new ns ≡ fingerprint s ∷ map fingerprint ss = fps in
      let fp : n.fp ≡ fingerprint s = cc in
      let later : fps_new ns ≡ map fingerprint ss = cc in
      let one : placed_len (get filled.places n.fp.0) ≡ held_len after_list s =
      ap (λ (f : Fp). placed_len (get filled.places f.0)) fp
      ∙ len_held (get filled.places (fingerprint s).0) (find (has_fingerprint (fingerprint s)) (strings_in after_list)) (placed_after (fingerprint s)) in
      let rest = shares_sum (with_item user mm (part_in mm n)) ns ss later in
      sum_by-cons (λ (item : PutItem). placed_len (get filled.places item.fp.0)) (part_in mm n) (parts_of user (with_item user mm (part_in mm n)) ns)
      ∙ (λ i. one i + rest i) ∙ sym (sum_by-cons (held_len after_list) s ss)

  parts_long : (mm : Memory) (ns : List New) (ss : List (List ℕ)) → fps_new ns ≡ map fingerprint ss → length (parts_of user mm ns) ≡ length ss
  parts_long mm [] [] fps = refl
  parts_long mm [] (s ∷ ss) fps = absurd (let no : [] ≡ fingerprint s ∷ map fingerprint ss = fps in cc)
  parts_long mm (n ∷ ns) [] fps = absurd (let no : n.fp ∷ fps_new ns ≡ [] = fps in cc)
  parts_long mm (n ∷ ns) (s ∷ ss) fps =
      let all_fps : n.fp ∷ fps_new ns ≡ fingerprint s ∷ map fingerprint ss = fps in
      let later : fps_new ns ≡ map fingerprint ss = cc in
      ap suc (parts_long (with_item user mm (part_in mm n)) ns ss later)

  -- what the Put spends
  pub cost_is : (spent_on filled (parts_of user m news)).shares ≡ sum_by (held_len after_list) strings
  cost_is = shares_sum m news strings of.fps

  abbrev more : Row
  more = spent_on filled (parts_of user m news)

  spent_user : user.0 < length m.spent → as_spent (spent_by (with_put user (parts_of user m news) m).spent user) ≡ spent_of after_list user
  spent_user place =
      let rows = spent_stays user m (parts_of user m news) in
      let row : spent_by (with_put user (parts_of user m news) m).spent user ≡ both (spent_by filled.spent user) more =
      row_here filled.spent user (both (spent_by filled.spent user) more) (subst (λ (l : List Row). user.0 < length l) (sym rows) place) in
      let had : as_spent (spent_by filled.spent user) ≡ spent_of list user = ap (λ (l : List Row). as_spent (spent_by l user)) rows ∙ r.spent user in
      let long = parts_long m news strings of.fps in
      let cost = cost_is in
      ap as_spent row
      ∙ (λ i. record { owners = (had i).owners + long i; shares = (had i).shares + cost i; recipes = (had i).recipes + 0 })
      ∙ sym (spent_next list (commands.Put user strings) user
      ∙ ap (λ (b : Bool). and_more after_list (cond b (commands.Put user strings ∷ []) []) (spent_of list user)) (eq-eqb user.0 user.0 refl)
      ∙ ap (λ (l : List (List ℕ)). record { owners = (spent_of list user).owners + length l; shares = (spent_of list user).shares + sum_by (held_len after_list) l; recipes = (spent_of list user).recipes + 0 }) (append-nil strings))

  spent_other : (q : UserId) → user.0 ≢ q.0 → as_spent (spent_by (with_put user (parts_of user m news) m).spent q) ≡ spent_of after_list q
  spent_other q other =
      let rows = spent_stays user m (parts_of user m news) in
      let none : (s : SpentByUser) → and_more after_list [] s ≡ s = λ s. let zero_more : (n : ℕ) → n + 0 ≡ n = λ n. omega arith in
      λ i. record { owners = zero_more s.owners i; shares = zero_more s.shares i; recipes = zero_more s.recipes i } in
      ap as_spent (row_there filled.spent user q (both (spent_by filled.spent user) more) (λ e. other (sym e)))
      ∙ ap (λ (l : List Row). as_spent (spent_by l q)) rows ∙ r.spent q
      ∙ sym (spent_next list (commands.Put user strings) q
      ∙ ap (λ (b : Bool). and_more after_list (cond b (commands.Put user strings ∷ []) []) (spent_of list q)) (ne_eqb user.0 q.0 other)
      ∙ none (spent_of list q))

  pub put_remembered : user.0 < length m.spent → Remembers shape after_list (with_put user (parts_of user m news) m)
  put_remembered place = record {
    placed = is_placed (strings_in after_list) filled.places placed_after;
    lens = placed_len_is (strings_in after_list) filled.places placed_after;
    owners = owners_after;
    files = files_after;
    spent = λ q. elim (cases_eq user.0 q.0) [
      | inl same ↦ subst (λ (u : UserId). as_spent (spent_by (with_put user (parts_of user m news) m).spent u) ≡ spent_of after_list u) (named_user user q same) (spent_user place)
      | inr other ↦ spent_other q other
    ];
  }
