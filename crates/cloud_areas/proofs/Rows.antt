-- Worked rows: how long chains are, and what the definitions take and refuse.
use Rattle.std.proofs.Common.{◌≡◌, inl, inr, ℕ, zero, suc, ◌+◌, ◌*◌, ◌<◌, ◌≤◌, false, true, List, [], ◌∷◌, ◌++◌, length, Some, None, refl, sym, ap, ◌∙◌, subst, arith, length-append, length-drop}
use Rattle.std.specs.Prelude.{All, replicate, bytes_eq}
use Rattle.std.proofs.lemmas.List.Elements.{All-nil, All-cons}
use Rattle.std.proofs.lemmas.List.Sums.{sum_by-cons}
use Rattle.sha2.specs.Sha256.{sha256 as sha256_of}
use Rattle.sha2.proofs.Facts256.{length-sha256}
use Rattle.user_dedup.specs.CdBase.ids.Fp.{Fp}
use Rattle.user_dedup.specs.CdBase.ids.Tag.{Tag}
use Rattle.user_dedup.specs.CdBase.rooms.Room.TheVariants as names
use Rattle.user_dedup.specs.CdBase.shape.Shape.{Shape}
use Rattle.journal_halves.specs.CdEdges.area.Area.TheVariants.{Journal, Shares, Recipes}
use Rattle.journal_halves.specs.CdEdges.Disk.{Image}
use Rattle.journal_halves.specs.Records.{IsJournalBody, chain, is_begun}
use Rattle.container_log.specs.Laying.{IsAt}
use Rattle.journal_halves.specs.Beginnings.{new_of}
use Rattle.journal_halves.specs.Halves.{half_len, half_of, half_limit, is_half_begun}
use Rattle.journal_halves.specs.Journals.{all_bodies, used_by}
use Rattle.journal_halves.proofs.Laying.{starts}
use Rattle.journal_halves.specs.JournalStart.rooms.UserRooms.{UserRooms}
use Rattle.journal_halves.specs.JournalStart.start.Header.{Header}
use Rattle.journal_halves.specs.JournalStart.Ranges.{AreRooms, usual_rooms, IsHeader}
use Rattle.journal_halves.specs.JournalStart.Spelling.{start_bytes}
use Rattle.user_dedup.specs.MessageFields.Shares.{IsShare}
use Rattle.user_dedup.specs.Messages.request.Request.TheVariants as requests
use Rattle.record_body.specs.declared.body.PutItem.{PutItem}
use Rattle.record_body.specs.FirstSpelling.{FitsPlace, FitsItem}
use Rattle.record_body.proofs.FirstSpelled.{length-put}
use Rattle.record_body.specs.Spelling as bodies
use Rattle.record_body.specs.Spelling.{Body, body_bytes, FitsBody}
use Rattle.user_dedup.specs.CdBase.place.Place.{Place}
use Rattle.user_dedup.specs.Cloud.{fingerprint}
use Rattle.user_dedup.specs.Owning.{is_among}
use Rattle.user_dedup.specs.declared.command.Command.{Command}
use Rattle.user_dedup.specs.declared.command.Command.TheVariants as commands
use Rattle.user_dedup.specs.Dedup.{IsSound, Begun, Added}
use Rattle.user_dedup.specs.Cloud.{held_bytes}
use Rattle.user_dedup.specs.Compact.{compact}
use Rattle.user_dedup.specs.Spending.{files_of, spent_of}
use Rattle.user_dedup.proofs.CompactRows.{same, user, tag, tag2, at, s11, rooms_of, r61}
use Rattle.cloud_areas.specs.Placing.{AreBehind}
use Rattle.cloud_areas.specs.Checkpoints.{AreDistinct, AreFull, AreFlagged}
use Rattle.cloud_areas.specs.Chains.{PlacedNew, AreItems, LiesIn, DontOverlap}
use Rattle.cloud_areas.specs.Standing.{Chain, where_of, new_chain, IsChain, StandsFor}
use Rattle.cloud_areas.specs.Adding.{with_record, Adds}
use Rattle.cloud_areas.specs.FormatOne.{place_in, laid_end, laid_entries, passed_room, too_large_for}
use Rattle.cloud_areas.proofs.Begun.{no_room, new_holds, has_stands}
use Rattle.cloud_areas.proofs.OneMore.{holds_more}
use Rattle.cloud_areas.proofs.Room.{chain_len}

-- ---- how long chains are

abbrev fp_at : ℕ → Fp
fp_at n = record { 0 = replicate 32 n }

abbrev put_record : ℕ → ℕ → ℕ → Body
put_record u n place = bodies.Put (user u) (record { fp = fp_at n; place = Some (record { at = place; len = 11 }) } ∷ [])

abbrev commit_record : ℕ → Tag → ℕ → ℕ → ℕ → Body
commit_record u t version place len = bodies.Commit (record { user = user u; tag = t; version = at version; at = place; len = len; fp = fp_at 9 })

abbrev delete_record : ℕ → Tag → ℕ → Body
delete_record u t version = bodies.Delete (record { user = user u; tag = t; version = at version })

abbrev spent_record : ℕ → ℕ → ℕ → ℕ → Body
spent_record u owners shares recipes = bodies.Spent (record { user = user u; owners = owners; shares = shares; recipes = recipes })

abbrev header : Shape → Header
header shape = record { format = 2; shape = shape; cloud = record { 0 = 0 }; rooms = usual_rooms }

abbrev plain : Shape → List Body → Chain
plain shape records = record { half = 0; start = record { header = header shape; checkpoint = None }; records = records; recipes = [] }

abbrev summed : Shape → ℕ → List Body → Chain
summed shape count records = record {
  half = 1;
  start = record { header = header shape; checkpoint = Some (record { epoch = 1; commands = count; records = length records; region = 0; recipes_end = 0 }) };
  records = records;
  recipes = [];
}

-- a begun journal
begun_bytes : (shape : Shape) → chain (all_bodies (new_of (header shape))) ++ 0 ∷ []
    ≡ 1 ∷ 0 ∷ 0 ∷ 0 ∷ 36 ∷ 0x43 ∷ 0x44 ∷ 0x53 ∷ 0x54 ∷ 2 ∷ shape.n ∷ shape.k ∷ 0
    ∷ 0 ∷ 0 ∷ 0 ∷ 16 ∷ 0 ∷ 0 ∷ 0 ∷ 0 ∷ 32 ∷ 0 ∷ 0 ∷ 0 ∷ 0 ∷ 0 ∷ 0 ∷ 0 ∷ 4 ∷ 0 ∷ 0 ∷ 0 ∷ 0 ∷ 0 ∷ 128 ∷ 0 ∷ 0 ∷ 0 ∷ 4 ∷ 0 ∷ 0 ∷ []
begun_bytes shape = refl

begun : (shape : Shape) → used_by (where_of (plain shape [])) ≡ 42
begun shape = refl

-- an empty file
empty_file : (shape : Shape) → used_by (where_of (plain shape (commit_record 7 tag 1 0 25 ∷ []))) ≡ 136
empty_file shape = refl

-- a file of one byte
one_byte : (shape : Shape) → used_by (where_of (plain shape (put_record 7 1 0 ∷ commit_record 7 tag 1 0 61 ∷ []))) ≡ 193
one_byte shape = refl

-- the same of another user
another_user : (shape : Shape) → used_by (where_of (plain shape (put_record 7 1 0 ∷ commit_record 7 tag 1 0 61
    ∷ bodies.Put (user 8) (record { fp = fp_at 1; place = None } ∷ []) ∷ commit_record 8 tag 1 61 61 ∷ []))) ≡ 332
another_user shape = refl

-- a version is deleted, and its share is sent again
sent_again : (shape : Shape) → used_by (where_of (plain shape (put_record 7 1 0 ∷ commit_record 7 tag 1 0 61 ∷ delete_record 7 tag 1
    ∷ bodies.Put (user 7) (record { fp = fp_at 1; place = None } ∷ []) ∷ commit_record 7 tag2 1 61 61 ∷ []))) ≡ 382
sent_again shape = refl

-- what a migration of a file of one byte writes: a checkpoint in the other half, of two commands and what they spent
migrated : (shape : Shape) → half_len + used_by (where_of (summed shape 2 (put_record 7 1 0 ∷ commit_record 7 tag 1 0 61 ∷ spent_record 7 1 11 61 ∷ []))) ≡ 134217972
migrated shape = refl

-- One checkpoint in 600 commands: 214 versions of an empty file are entered and deleted, and one more is entered. Its deletion doesn't fit; it
-- and 85 versions more, entered and deleted, stand behind a checkpoint.
small_limit : half_limit (rooms_of 10 1000 10000 10 10) ≡ 30995
small_limit = refl

before_turn : 42 + 214 * (94 + 50) + 94 ≡ 30952
before_turn = refl

turned : (shape : Shape) → used_by (where_of (summed shape 429 (commit_record 7 tag 1 0 25 ∷ spent_record 7 0 0 5375 ∷ []))) + 50 + 85 * (94 + 50) ≡ 12477
turned shape = refl

-- the greatest limit, of the most users with the most of everything
greatest_rooms : AreRooms (rooms_of 256 33554432 4194304 2048 64)
greatest_rooms = record { some = omega arith; few = omega arith; shares = omega arith; recipes = omega arith; owners = omega arith; files = omega arith }

greatest_limit : half_limit (rooms_of 256 33554432 4194304 2048 64) ≡ 52415307
greatest_limit = refl

below_half : 52415307 < half_len
below_half = omega arith

-- ---- what is refused

abbrev place_at : ℕ → ℕ → Place
place_at from len = record { at = from; len = len }

-- a string that came before has no new place, and one that is new has one of its own length
known_is_refused : (place : Place) → PlacedNew (is_among (fingerprint s11 ∷ []) (fingerprint s11)) s11 (Some place) → ⊥
known_is_refused place = rw (same (sha256_of s11)) (λ is. is)

new_is_asked : PlacedNew (is_among [] (fingerprint s11)) s11 None → ⊥
new_is_asked is = is

short_is_refused : PlacedNew (is_among [] (fingerprint s11)) s11 (Some (place_at 0 10)) → ⊥
short_is_refused is = let no : 10 ≡ 11 = is in absurd (omega (arith, no))

-- a string that comes twice in a Put is placed once
abbrev twice : List PutItem
twice = record { fp = fingerprint s11; place = Some (place_at 0 11) } ∷ record { fp = fingerprint s11; place = None } ∷ []

twice_is_taken : AreItems [] (s11 ∷ s11 ∷ []) twice
twice_is_taken =
    let second : PlacedNew (is_among (fingerprint s11 ∷ []) (fingerprint s11)) s11 None = rw (same (sha256_of s11)) tt in
    let rest : AreItems (fingerprint s11 ∷ []) (s11 ∷ []) (record { fp = fingerprint s11; place = None } ∷ []) = (refl, second, tt) in
    (refl, refl, rest)

-- one item less or more, or another order
one_less_is_refused : AreItems [] (s11 ∷ s11 ∷ []) (record { fp = fingerprint s11; place = Some (place_at 0 11) } ∷ []) → ⊥
one_less_is_refused is = is.2

order_is_asked : (other : List ℕ) (place : Place) → bytes_eq (sha256_of s11) (sha256_of other) ≡ false
    → AreItems [] (s11 ∷ other ∷ []) (record { fp = fingerprint other; place = Some place } ∷ record { fp = fingerprint s11; place = Some place } ∷ []) → ⊥
order_is_asked other place apart is =
    let bytes : sha256_of other ≡ sha256_of s11 = ap (λ (fp : Fp). fp.0) is.0 in
    let no : true ≡ false = sym (same (sha256_of s11)) ∙ subst (λ (l : List ℕ). bytes_eq (sha256_of s11) l ≡ false) bytes apart in cc

-- a place in front of what lies there, and two that overlap
front_is_refused : AreBehind 100 (place_at 50 11 ∷ []) → ⊥
front_is_refused is = absurd (let at = is.0 in omega (arith, at))

overlap_is_refused : DontOverlap (place_at 0 11 ∷ place_at 5 11 ∷ []) → ⊥
overlap_is_refused apart = elim (apart 0 1 (place_at 0 11) (place_at 5 11) refl refl) [
  | inl one ↦ omega (arith, one)
  | inr other ↦ elim other [ inl first ↦ omega (arith, first) | inr second ↦ omega (arith, second) ]
]

-- a place that reaches into the next container, and one in front of its region
across_is_refused : LiesIn 0 (place_at 4194300 11) → ⊥
across_is_refused lies = (let in_one = lies.1 in omega (arith, in_one.from, in_one.to))

region_is_asked : LiesIn 1 (place_at 0 11) → ⊥
region_is_asked lies = (let from = lies.0 in omega (arith, from))

-- a checkpoint that lists a share twice, one with a record that isn't full before the last, and one that places a share where it is listed again
twice_listed_is_refused : (fp : Fp) → AreDistinct (fp ∷ fp ∷ []) → ⊥
twice_listed_is_refused fp apart = (let one = apart 0 1 fp refl refl in omega (arith, one))

half_full_is_refused : AreFull (255 ∷ 1 ∷ []) → ⊥
half_full_is_refused is = (let full = is.0 in omega (arith, full))

placed_again_is_refused : (place : Place) → AreFlagged [] (record { fp = fingerprint s11; place = Some place } ∷ record { fp = fingerprint s11; place = Some place } ∷ []) → ⊥
placed_again_is_refused place is =
    let second : is_among (fingerprint s11 ∷ []) (fingerprint s11) ≡ false = is.1.0.0 refl in
    let known : is_among (fingerprint s11 ∷ []) (fingerprint s11) ≡ true = rw (same (sha256_of s11)) refl in
    let no : false ≡ true = sym second ∙ known in cc

-- ---- areas with one Put

module _ (shape : Shape) (some : 0 < shape.n) where
  abbrev put : Command
  put = commands.Put (user 7) (s11 ∷ [])

  abbrev item : PutItem
  item = record { fp = fingerprint s11; place = Some (place_at 0 11) }

  abbrev record_of : Body
  record_of = bodies.Put (user 7) (item ∷ [])

  abbrev one : Chain
  one = with_record (new_chain (header shape)) record_of []

  abbrev one_image : Image
  one_image Journal = chain (all_bodies (where_of one)) ++ 0 ∷ []
  one_image Shares = s11
  one_image Recipes = []

  fits_place : FitsPlace (place_at 0 11)
  fits_place = (omega arith, (omega arith, omega arith))

  fits_items : All FitsItem (item ∷ [])
  fits_items = All-cons FitsItem item [] (length-sha256 s11, fits_place) (All-nil FitsItem)

  fits : FitsBody record_of
  fits = (omega arith, ((omega arith, omega arith), fits_items))

  record_len : length (body_bytes record_of) ≡ 52
  record_len = omega (arith, length-put (user 7) (item ∷ []) fits_items)

  held : held_bytes (put ∷ []) (fingerprint s11) ≡ s11
  held = rw (same (sha256_of s11)) refl

  sound : IsSound shape 0 (put ∷ [])
  sound = Added [] (requests.Put (user 7) (s11 ∷ [])) put Begun
      (omega arith, ((omega arith, omega arith), All-cons IsShare s11 [] (omega arith, omega arith) (All-nil IsShare))) tt refl

  one_apart : DontOverlap (place_at 0 11 ∷ [])
  one_apart zero zero p q first second = inl refl
  one_apart zero (suc j) p q first second = absurd (let no : None ≡ Some q = second in cc)
  one_apart (suc i) j p q first second = absurd (let no : None ≡ Some p = first in cc)

  adds : Adds (header shape) one_image [] (new_chain (header shape)) put record_of []
  adds = record {
    is_record = (record { items = item ∷ []; body_is = refl; each = (refl, refl, tt); behind = (omega arith, tt) }, refl);
    sound = sound;
    fits = fits;
    shares = subst (λ (l : List ℕ). All (IsAt s11) (record { place = 0; blob = l } ∷ [])) (sym held)
        (All-cons (IsAt s11) (record { place = 0; blob = s11 }) [] refl (All-nil (IsAt s11)));
    recipes = All-nil (IsAt []);
    rooms = record {
      shares = record {
        each = All-cons (LiesIn 0) (place_at 0 11) [] (omega arith, record { container = 0; from = omega arith; to = omega arith }) (All-nil (LiesIn 0));
        apart = one_apart;
        bound = omega arith;
      };
      recipes = no_room _ _;
    };
  }

  usual : AreRooms usual_rooms
  usual = record { some = omega arith; few = omega arith; shares = omega arith; recipes = omega arith; owners = omega arith; files = omega arith }

  is_header : IsHeader (header shape)
  is_header = record { format = inr refl; cloud = some; rooms = usual; usual = λ e. let no : 2 ≡ 1 = e in absurd (omega (arith, no)) }

  start_body : IsJournalBody (start_bytes one.start)
  start_body = record { some = omega arith; few = omega arith }

  put_body : IsJournalBody (body_bytes record_of)
  put_body = record { some = omega (arith, record_len); few = omega (arith, record_len) }

  used : length (chain (all_bodies (where_of one))) ≡ 98
  used =
      omega (
        arith,
        chain_len (all_bodies (where_of one)),
        record_len,
        sum_by-cons (λ (b : List ℕ). length b + 5) (start_bytes one.start) (body_bytes record_of ∷ []),
        sum_by-cons (λ (b : List ℕ). length b + 5) (body_bytes record_of) [],
      )

  nothing_begun : (xs : List ℕ) → length xs ≡ 0 → is_begun xs ≡ false
  nothing_begun [] e = refl
  nothing_begun (x ∷ xs) e = absurd (omega (arith, e))

  still_unbegun : (bytes : List ℕ) → length bytes ≤ 1000 → is_half_begun 1 bytes ≡ false
  still_unbegun bytes few = nothing_begun (half_of 1 bytes) (omega (arith, length-drop (1 * half_len) bytes, few))

  whole_len : length (one_image Journal) ≤ 1000
  whole_len = omega (arith, length-append (chain (all_bodies (where_of one))) (0 ∷ []), used)

  is_one : IsChain (header shape) (half_limit usual_rooms) (one_image Journal) one
  is_one = record {
    there = record {
      current = record {
        is_half = inl refl;
        begun = record { is_start = record { header = is_header; behind = refl }; record_is = starts (start_bytes one.start) (body_bytes record_of ∷ []) 0 [] start_body };
        other = inl (still_unbegun (one_image Journal) whole_len);
      };
      chain_is = record { gate = 0; behind = []; sizes = (start_body, (put_body, tt)); shut = λ e. let no : 0 ≡ 1 = e in absurd (omega (arith, no)); spelled = refl };
    };
    header_is = refl;
    within = omega (arith, used);
    fit = All-cons FitsBody record_of [] fits (All-nil FitsBody);
  }

  -- They stand for that Put: what the law of one record more asks can be met.
  one_stands : StandsFor one_image (header shape) (put ∷ [])
  one_stands =
      has_stands one_image (header shape) (put ∷ []) one sound is_one
      (holds_more (header shape) one_image [] (new_chain (header shape)) (new_holds (header shape) one_image) put record_of [] adds)

-- ---- format 1: the list says where recipes lie, deleted ones too

abbrev written_again : List Command
written_again = commands.Commit (user 7) tag (at 1) r61 ∷ commands.Delete (user 7) tag (at 1) ∷ commands.Commit (user 7) tag2 (at 1) r61 ∷ []

recipe_laid : laid_entries written_again ≡ record { user = user 7; tag = tag2; version = at 1; recipe = record { place = 61; blob = r61 } } ∷ []
recipe_laid = refl

both_laid : laid_end written_again ≡ 122
both_laid = refl

share_laid : place_in (commands.Put (user 7) (s11 ∷ []) ∷ []) (fingerprint s11) ≡ Some (place_at 0 11)
share_laid = rw (same (sha256_of s11)) refl

-- a file of one byte is too large for rooms of 10 bytes of shares, and for those of 7 users, where user 7 has none
abbrev stored : List Command
stored = commands.Put (user 7) (s11 ∷ []) ∷ commands.Commit (user 7) tag (at 1) r61 ∷ []

kept_whole : (shape : Shape) → compact shape stored ≡ stored
unfolding compact
kept_whole shape = rw (same (sha256_of s11)) refl

of_kept : (shape : Shape) (rooms : UserRooms)
    → too_large_for shape rooms stored (user 7) ≡ passed_room rooms (user 7) (spent_of stored (user 7)) (files_of shape stored (user 7))
of_kept shape rooms = ap (λ (list : List Command). passed_room rooms (user 7) (spent_of list (user 7)) (files_of shape list (user 7))) (kept_whole shape)

too_large : (shape : Shape) → too_large_for shape (rooms_of 16 10 1000 10 10) stored (user 7) ≡ Some (record { room = names.Shares; used = 11; need = 0; limit = 10 })
too_large shape = of_kept shape (rooms_of 16 10 1000 10 10) ∙ rw (same (sha256_of s11)) refl

no_room_of_its_own : (shape : Shape) → too_large_for shape (rooms_of 7 1000 1000 10 10) stored (user 7) ≡ Some (record { room = names.Owners; used = 1; need = 0; limit = 0 })
no_room_of_its_own shape = of_kept shape (rooms_of 7 1000 1000 10 10) ∙ refl

large_enough : (shape : Shape) → too_large_for shape (rooms_of 16 1000 1000 10 10) stored (user 7) ≡ None
large_enough shape = of_kept shape (rooms_of 16 1000 1000 10 10) ∙ rw (same (sha256_of s11)) refl
