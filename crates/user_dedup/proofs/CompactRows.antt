-- Worked rows: rooms of a user, and deletions.
use Rattle.std.specs.Prelude.{false, true, ◌≡◌, ℕ, ◌+◌, Bool, not, ◌||◌, List, [], ◌∷◌, ◌++◌, length, map, filter, replicate, refl, Some, None, bytes_eq}
use Rattle.std.specs.List.{flat_map, list_any}
use Rattle.std.proofs.Common.{ap, ◌∙◌, arith}
use Rattle.std.specs.Cmp.Lexicographic.{nat_list_eq_equiv}
use Rattle.sha2.specs.Sha256.{sha256 as sha256_of}
use Rattle.journal_start.specs.CdBase.ids.Fp.{Fp}
use Rattle.journal_start.specs.CdBase.ids.Tag.{Tag}
use Rattle.journal_start.specs.CdBase.ids.UserId.{UserId}
use Rattle.journal_start.specs.CdBase.ids.Version.{Version}
use Rattle.journal_start.specs.CdBase.shape.Shape.{Shape}
use Rattle.journal_start.specs.CdBase.rooms.Room.TheVariants as names
use Rattle.journal_start.specs.declared.rooms.UserRooms.{UserRooms}
use Rattle.journal_start.specs.Ranges.{usual_rooms}
use Rattle.messages.specs.declared.request.Request.TheVariants as requests
use Rattle.messages.specs.declared.reply.Reply.TheVariants as replies
use Rattle.user_dedup.specs.declared.view.View.{View}
use Rattle.user_dedup.specs.Cloud.{fingerprint}
use Rattle.user_dedup.specs.Owning.{is_among, new_strings}
use Rattle.user_dedup.specs.Pages.{key_of, entry_at, sorted_keys}
use Rattle.user_dedup.specs.Requests.{fps_of}
use Rattle.user_dedup.specs.declared.command.Command.{Command}
use Rattle.user_dedup.specs.declared.command.Command.TheVariants as commands
use Rattle.user_dedup.specs.Cloud.{view_after, user_view, strings_in, held_string, held_bytes, counted}
use Rattle.user_dedup.specs.Dedup.{answer_by_view, answer_over}
use Rattle.user_dedup.specs.Spending.{SpentByUser, nothing, full_for, files_of, spent_of, spent_by_all, UsesWithin}
use Rattle.user_dedup.specs.Compact.{users_in, sorted_fps, in_parts, user_at, commit_at, compact}
use Rattle.user_dedup.proofs.Views.{own_adds}

pub same : (xs : List ℕ) → bytes_eq xs xs ≡ true
same xs = nat_list_eq_equiv.refl xs

abbrev pub user : ℕ → UserId
user n = record { 0 = n }

abbrev pub tag : Tag
tag = record { 0 = replicate 32 3 }

abbrev pub tag2 : Tag
tag2 = record { 0 = replicate 32 4 }

abbrev pub at : ℕ → Version
at n = record { 0 = n }

abbrev pub s11 : List ℕ
s11 = replicate 11 7

-- ---- rooms of a user

abbrev pub rooms_of : ℕ → ℕ → ℕ → ℕ → ℕ → UserRooms
rooms_of users shares recipes owners files = record { users = users; shares = shares; recipes = recipes; owners = owners; files = files }

-- room for 10 bytes of shares, and for 11
full_shares : (shape : Shape) → full_for shape (rooms_of 10 10 1000 10 10) [] (commands.Put (user 7) (s11 ∷ [])) ≡ Some (record { room = names.Shares; used = 0; need = 11; limit = 10 })
unfolding full_for
full_shares shape = rw (same (sha256_of s11)) refl

not_full : (shape : Shape) → full_for shape (rooms_of 10 11 1000 10 10) [] (commands.Put (user 7) (s11 ∷ [])) ≡ None
unfolding full_for
not_full shape = rw (same (sha256_of s11)) refl

-- a user without a room: an empty file of user 16, where there are 16 users
no_room : (shape : Shape) → full_for shape usual_rooms [] (commands.Commit (user 16) tag (at 1) (replicate 25 9)) ≡ Some (record { room = names.Files; used = 0; need = 1; limit = 0 })
unfolding full_for
no_room shape = refl

no_room_put : (shape : Shape) → full_for shape usual_rooms [] (commands.Put (user 16) (s11 ∷ [])) ≡ Some (record { room = names.Owners; used = 0; need = 1; limit = 0 })
unfolding full_for
no_room_put shape = refl

-- the other rooms: strings, recipes and files
full_owners : (shape : Shape) (other : List ℕ)
    → full_for shape (rooms_of 10 1000 1000 1 10) (commands.Put (user 7) (s11 ∷ []) ∷ []) (commands.Put (user 7) (other ∷ [])) ≡ Some (record { room = names.Owners; used = 1; need = 1; limit = 1 })
unfolding full_for
full_owners shape other = refl

abbrev pub r61 : List ℕ
r61 = replicate 61 9

full_recipes : (shape : Shape) → full_for shape (rooms_of 10 1000 60 10 10) [] (commands.Commit (user 7) tag (at 1) r61) ≡ Some (record { room = names.Recipes; used = 0; need = 61; limit = 60 })
unfolding full_for
full_recipes shape = refl

abbrev entered_once : List Command
entered_once = commands.Commit (user 7) tag (at 1) r61 ∷ []

full_files : (shape : Shape) → full_for shape (rooms_of 10 1000 1000 10 1) entered_once (commands.Commit (user 7) tag2 (at 1) r61) ≡ Some (record { room = names.Files; used = 1; need = 1; limit = 1 })
unfolding full_for
full_files shape = refl

-- a deletion makes room for a file, and none for its recipe
abbrev taken_out : List Command
taken_out = entered_once ++ commands.Delete (user 7) tag (at 1) ∷ []

room_again : (shape : Shape) → full_for shape (rooms_of 10 1000 1000 10 1) taken_out (commands.Commit (user 7) tag2 (at 1) r61) ≡ None
unfolding full_for
room_again shape = refl

spent_still : (shape : Shape) → full_for shape (rooms_of 10 1000 121 10 1) taken_out (commands.Commit (user 7) tag2 (at 1) r61) ≡ Some (record { room = names.Recipes; used = 61; need = 61; limit = 121 })
unfolding full_for
spent_still shape = refl

-- a room that one user has filled is another user's still
room_of_another : (shape : Shape) → full_for shape (rooms_of 10 11 1000 1 10) (commands.Put (user 7) (s11 ∷ []) ∷ []) (commands.Put (user 8) (s11 ∷ [])) ≡ None
unfolding full_for
room_of_another shape = rw (same (sha256_of s11)) refl

-- ---- what a compact list leaves out

-- some user owns the fingerprint
abbrev is_owned : Shape → List Command → Fp → Bool
is_owned shape list fp = list_any (λ (n : ℕ). is_among (user_view shape list (user_at n)).own fp) (users_in list)

-- the strings that are held and that no user owns, the first of each fingerprint
abbrev ownerless : Shape → List Command → List (List ℕ)
ownerless shape list = filter (λ (s : List ℕ). not (is_owned shape list (fingerprint s))) (new_strings [] (strings_in list))

-- ---- a file of one byte, taken out, and its share sent again with another

module _ (shape : Shape) (r q : List ℕ) (names_r : fps_of shape r ≡ fingerprint s11 ∷ []) (names_q : fps_of shape q ≡ fingerprint s11 ∷ []) where
  abbrev stored : List Command
  stored = commands.Put (user 7) (s11 ∷ []) ∷ commands.Commit (user 7) tag (at 1) r ∷ []

  kept_whole : compact shape stored ≡ stored
  unfolding compact
  kept_whole = rw (same (sha256_of s11)) refl

  -- what is kept is within rooms of 1000 bytes of shares, too large for those of 10, and for those of 7 users, where user 7 has none
  spent_kept : spent_of (compact shape stored) (user 7) ≡ record { owners = 1; shares = 11; recipes = 0 + length r }
  spent_kept = ap (λ (list : List Command). spent_of list (user 7)) kept_whole ∙ rw (same (sha256_of s11)) refl

  files_kept : files_of shape (compact shape stored) (user 7) ≡ 1
  files_kept = ap (λ (list : List Command). files_of shape list (user 7)) kept_whole

  large_enough : length r ≡ 61 → UsesWithin shape (rooms_of 16 1000 1000 10 10) (compact shape stored) (user 7)
  large_enough long = record {
    owners = let n = ap (λ (x : SpentByUser). x.owners) spent_kept in omega (arith, n);
    shares = let n = ap (λ (x : SpentByUser). x.shares) spent_kept in omega (arith, n);
    recipes = let n = ap (λ (x : SpentByUser). x.recipes) spent_kept in omega (arith, n, long);
    files = omega (arith, files_kept);
  }

  too_large : UsesWithin shape (rooms_of 16 10 1000 10 10) (compact shape stored) (user 7) → ⊥
  too_large within = let n = ap (λ (x : SpentByUser). x.shares) spent_kept in let few = within.shares in omega (arith, n, few)

  without_room : UsesWithin shape (rooms_of 7 1000 1000 10 10) (compact shape stored) (user 7) → ⊥
  without_room within = let n = ap (λ (x : SpentByUser). x.owners) spent_kept in let few = within.owners in omega (arith, n, few)

  -- the second file's share is there
  known_first : (answer_over shape 0 stored (requests.Query (user 7) (fingerprint s11 ∷ []))).reply ≡ (replies.Known (1 ∷ []))
  known_first = rw (same (sha256_of s11)) refl

  deletes : answer_over shape 0 stored (requests.Delete (user 7) tag (at 1)) ≡ record { reply = replies.Deleted; adds = Some (commands.Delete (user 7) tag (at 1)) }
  deletes = refl

  abbrev deleted : List Command
  deleted = stored ++ commands.Delete (user 7) tag (at 1) ∷ []

  -- nothing is left of it
  owns_nothing : user_view shape deleted (user 7) ≡ record { own = []; files = [] }
  owns_nothing = rw (names_r, same (sha256_of s11)) refl

  -- it isn't there to be deleted again
  missing : answer_over shape 0 deleted (requests.Delete (user 7) tag (at 1)) ≡ record { reply = replies.Missing; adds = None }
  missing = refl

  -- the string is held still, and spent
  holds : held_bytes deleted (fingerprint s11) ≡ s11
  holds = rw (same (sha256_of s11)) refl

  spent_once : spent_of deleted (user 7) ≡ record { owners = 1; shares = 11; recipes = 0 + length r }
  spent_once = rw (same (sha256_of s11)) refl

  three_commands : counted deleted ≡ 3
  three_commands = refl

  -- nothing of it is kept
  gone : compact shape deleted ≡ []
  unfolding compact
  gone = rw (names_r, same (sha256_of s11)) refl

  -- the second file can't be entered, its share is new, it is sent again, and then the file is entered
  lacking : (answer_over shape 0 deleted (requests.Commit (user 7) tag2 (at 1) q)).reply ≡ (replies.Lacking 0)
  lacking = rw (names_r, names_q, same (sha256_of s11)) refl

  known_then : (answer_over shape 0 deleted (requests.Query (user 7) (fingerprint s11 ∷ []))).reply ≡ (replies.Known (0 ∷ []))
  known_then = rw (names_r, same (sha256_of s11)) refl

  sent_again : answer_over shape 0 deleted (requests.Put (user 7) (s11 ∷ [])) ≡ record { reply = (replies.Stored 1); adds = Some (commands.Put (user 7) (s11 ∷ [])) }
  sent_again = rw (names_r, same (sha256_of s11)) refl

  abbrev sent : List Command
  sent = deleted ++ commands.Put (user 7) (s11 ∷ []) ∷ []

  owns_again : user_view shape sent (user 7) ≡ record { own = fingerprint s11 ∷ []; files = [] }
  owns_again = own_adds shape deleted (commands.Put (user 7) (s11 ∷ [])) (user 7) refl ∙ ap (λ (v : View). view_after shape v (commands.Put (user 7) (s11 ∷ []))) owns_nothing

  entered : answer_over shape 0 sent (requests.Commit (user 7) tag2 (at 1) q) ≡ record { reply = replies.Committed; adds = Some (commands.Commit (user 7) tag2 (at 1) q) }
  entered =
      ap (λ (v : View). answer_by_view shape 0 v (held_string sent) (requests.Commit (user 7) tag2 (at 1) q)) owns_again
      ∙ rw (names_q, same (sha256_of s11)) refl

  -- what was sent twice is spent twice
  spent_twice : spent_of sent (user 7) ≡ record { owners = 2; shares = 22; recipes = 0 + length r }
  spent_twice = rw (same (sha256_of s11)) refl

-- ---- two files of one byte, of which the first is deleted

module _ (shape : Shape) (a b r q : List ℕ) (names_a : fps_of shape r ≡ fingerprint a ∷ []) (names_b : fps_of shape q ≡ fingerprint b ∷ [])
    (apart : bytes_eq (sha256_of a) (sha256_of b) ≡ false) (apart_too : bytes_eq (sha256_of b) (sha256_of a) ≡ false) where
  abbrev one_left : List Command
  one_left = commands.Put (user 7) (a ∷ []) ∷ commands.Commit (user 7) tag (at 1) r ∷ commands.Put (user 7) (b ∷ []) ∷ commands.Commit (user 7) tag2 (at 1) q
      ∷ commands.Delete (user 7) tag (at 1) ∷ []

  owns_one : user_view shape one_left (user 7) ≡ record { own = fingerprint b ∷ []; files = record { tag = tag2; version = at 1; recipe = q } ∷ [] }
  owns_one = rw (names_a, names_b, same (sha256_of a), same (sha256_of b), apart, apart_too) refl

  holds_b : held_bytes one_left (fingerprint b) ≡ b
  holds_b = rw (apart, same (sha256_of b)) refl

  kept_one : compact shape one_left ≡ commands.Put (user 7) (b ∷ []) ∷ commands.Commit (user 7) tag2 (at 1) q ∷ []
  unfolding compact
  kept_one = rw (names_a, names_b, same (sha256_of a), same (sha256_of b), apart, apart_too)
      (ap (λ (s : List ℕ). commands.Put (user 7) (s ∷ []) ∷ commands.Commit (user 7) tag2 (at 1) q ∷ []) holds_b)

  -- both were spent
  spent_both : (spent_of one_left (user 7)).owners ≡ 2
  spent_both = refl

  -- what a compact list has of them: 11 bytes of shares and 61 of recipes, and one string is left out
  abbrev second : List Command
  second = commands.Put (user 7) (b ∷ []) ∷ commands.Commit (user 7) tag2 (at 1) q ∷ []

  spent_second : length b ≡ 11 → length q ≡ 61 → spent_by_all second ≡ record { owners = 1; shares = 11; recipes = 61 }
  spent_second long_b long_q =
      let lengths : spent_by_all second ≡ record { owners = 1; shares = 0 + length b; recipes = 0 + length q } = rw (same (sha256_of b)) refl in
      lengths ∙ (λ i. record { owners = 1; shares = 0 + long_b i; recipes = 0 + long_q i })

  spent_one : length b ≡ 11 → length q ≡ 61 → spent_by_all (compact shape one_left) ≡ record { owners = 1; shares = 11; recipes = 61 }
  spent_one long_b long_q = ap spent_by_all kept_one ∙ spent_second long_b long_q

  -- of the two strings those that a user with this view doesn't own
  abbrev unowned : View → List (List ℕ)
  unowned v = filter (λ (s : List ℕ). not (is_among v.own (fingerprint s) || false)) (new_strings [] (a ∷ b ∷ []))

  dropped_one : ownerless shape one_left ≡ a ∷ []
  dropped_one = ap unowned owns_one ∙ rw (apart, apart_too, same (sha256_of b)) refl

  -- once more: the same, and none is left out
  kept_again : compact shape (compact shape one_left) ≡ second
  unfolding compact
  kept_again = ap (compact shape) kept_one ∙ rw (same (sha256_of b)) refl

  dropped_none : ownerless shape (compact shape one_left) ≡ []
  dropped_none = ap (ownerless shape) kept_one ∙ rw (same (sha256_of b)) refl

  -- both are deleted: nothing is kept, and both strings are left out
  abbrev none_left : List Command
  none_left = one_left ++ commands.Delete (user 7) tag2 (at 1) ∷ []

  owns_none : user_view shape none_left (user 7) ≡ record { own = []; files = [] }
  owns_none =
      own_adds shape one_left (commands.Delete (user 7) tag2 (at 1)) (user 7) refl
      ∙ ap (λ (v : View). view_after shape v (commands.Delete (user 7) tag2 (at 1))) owns_one ∙ rw (names_b, same (sha256_of b)) refl

  kept_none : compact shape none_left ≡ []
  unfolding compact
  kept_none =
      ap (λ (v : View). (map (λ (fps : List Fp). commands.Put (user 7) (map (held_bytes none_left) fps)) (in_parts (sorted_fps v.own)) ++ [])
      ++ (flat_map (λ (key : Tag × Version). commit_at (user 7) (entry_at v.files key)) (sorted_keys (map key_of v.files)) ++ [])) owns_none

  spent_none : spent_by_all (compact shape none_left) ≡ nothing
  spent_none = ap spent_by_all kept_none

  dropped_both : ownerless shape none_left ≡ a ∷ b ∷ []
  dropped_both = ap unowned owns_none ∙ rw apart refl

  -- a share that another entry names stays owned
  abbrev shared : List Command
  shared = commands.Put (user 7) (a ∷ []) ∷ commands.Commit (user 7) tag (at 1) r ∷ commands.Commit (user 7) tag2 (at 1) r ∷ commands.Delete (user 7) tag (at 1) ∷ []

  owns_still : user_view shape shared (user 7) ≡ record { own = fingerprint a ∷ []; files = record { tag = tag2; version = at 1; recipe = r } ∷ [] }
  owns_still = rw (names_a, same (sha256_of a)) refl

-- ---- a share that two users own, of whom one deletes its file

module _ (shape : Shape) (r : List ℕ) (names_r : fps_of shape r ≡ fingerprint s11 ∷ []) where
  abbrev of_two : List Command
  of_two = commands.Put (user 7) (s11 ∷ []) ∷ commands.Commit (user 7) tag (at 1) r ∷ commands.Put (user 8) (s11 ∷ []) ∷ commands.Commit (user 8) tag (at 1) r
      ∷ commands.Delete (user 7) tag (at 1) ∷ []

  first_owns_nothing : user_view shape of_two (user 7) ≡ record { own = []; files = [] }
  first_owns_nothing = rw (names_r, same (sha256_of s11)) refl

  second_keeps : user_view shape of_two (user 8) ≡ record { own = fingerprint s11 ∷ []; files = record { tag = tag; version = at 1; recipe = r } ∷ [] }
  second_keeps = refl

  kept_of_two : compact shape of_two ≡ commands.Put (user 8) (s11 ∷ []) ∷ commands.Commit (user 8) tag (at 1) r ∷ []
  unfolding compact
  kept_of_two = rw (names_r, same (sha256_of s11)) refl

  dropped_of_two : ownerless shape of_two ≡ []
  dropped_of_two = rw (names_r, same (sha256_of s11)) refl
