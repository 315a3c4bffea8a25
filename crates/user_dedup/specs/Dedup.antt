-- What a cloud answers to a request, by the asking user's own view. Only GetShares looks at the strings held for all.
use Rattle.std.specs.Prelude.{◌≡◌, ℕ, List, [], ◌∷◌, ◌++◌, length, map, bytes_eq, Option, Some, None, unwrap_or, if◌then◌else◌}
use Rattle.std.specs.List.{Contains}
use Rattle.journal_start.specs.CdBase.ids.Fp.{Fp}
use Rattle.journal_start.specs.CdBase.ids.UserId.{UserId}
use Rattle.journal_start.specs.CdBase.rooms.Room.{Room}
use Rattle.journal_start.specs.CdBase.shape.Shape.{Shape}
use Rattle.messages.specs.declared.request.Request.{Request}
use Rattle.messages.specs.declared.request.Request.TheVariants as requests
use Rattle.messages.specs.declared.reply.Reply.{Reply}
use Rattle.messages.specs.declared.reply.Reply.TheVariants as replies
use Rattle.messages.specs.Requests.{FitsRequest}
use Rattle.user_dedup.specs.declared.command.Command.{Command}
use Rattle.user_dedup.specs.declared.command.Command.TheVariants as commands
use Rattle.user_dedup.specs.declared.file_list.FileEntry.{FileEntry}
use Rattle.user_dedup.specs.declared.view.View.{View}
use Rattle.journal_start.specs.CdBase.ids.Tag.{Tag}
use Rattle.journal_start.specs.CdBase.ids.Version.{Version}
use Rattle.user_dedup.specs.Cloud.{user_view, held_string}
use Rattle.user_dedup.specs.Owning.{flags, first_lacking, new_strings}
use Rattle.user_dedup.specs.Pages.{entry_at, page_of}
use Rattle.user_dedup.specs.Requests.{HasRecipe, fps_of, asker}

-- a reply, and the command that it adds to the list
pub record Outcome : Type 0 where
  pub reply : Reply
  pub adds : Option Command

-- a reply that adds nothing
abbrev pub only : Reply → Outcome
only reply = record { reply = reply; adds = None }

-- by the strings that are new to the user
abbrev pub put_outcome : UserId → List (List ℕ) → Outcome
put_outcome user [] = only (replies.Stored 0)
put_outcome user (s ∷ ss) = record { reply = replies.Stored (length (s ∷ ss)); adds = Some (commands.Put user (s ∷ ss)) }

-- by the first item that is lacking, and by the entry that is there
abbrev pub commit_outcome : Option ℕ → Option FileEntry → Command → List ℕ → Outcome
commit_outcome (Some place) entry command recipe = only (replies.Lacking place)
commit_outcome None (Some entry) command recipe = only (if bytes_eq entry.recipe recipe then replies.Committed else replies.Exists)
commit_outcome None None command recipe = record { reply = replies.Committed; adds = Some command }

-- by the entry that is there
abbrev pub delete_outcome : Option FileEntry → Command → Outcome
delete_outcome None command = only replies.Missing
delete_outcome (Some entry) command = record { reply = replies.Deleted; adds = Some command }

abbrev pub recipe_reply : Option FileEntry → Reply
recipe_reply (Some entry) = replies.Recipe entry.recipe
recipe_reply None = replies.Missing

-- by the first that the user doesn't own, and by the strings held
abbrev pub shares_reply : Option ℕ → List (List ℕ) → Reply
shares_reply (Some place) strings = replies.NotYours place
shares_reply None strings = replies.Shares strings

-- the reply of a cloud of this number in a store of this shape, by a user's view and by the string held for each fingerprint
abbrev pub answer_by_view : Shape → ℕ → View → (Fp → Option (List ℕ)) → Request → Outcome
answer_by_view shape cloud v held requests.Hello = only (replies.Hello shape.n shape.k cloud 1)
answer_by_view shape cloud v held (requests.Query user fps) = only (replies.Known (flags v.own fps))
answer_by_view shape cloud v held (requests.Put user shares) = put_outcome user (new_strings v.own shares)
answer_by_view shape cloud v held (requests.Commit user tag version recipe) =
    commit_outcome (first_lacking v.own (fps_of shape recipe)) (entry_at v.files (tag, version)) (commands.Commit user tag version recipe) recipe
answer_by_view shape cloud v held (requests.GetRecipe user tag version) = only (recipe_reply (entry_at v.files (tag, version)))
answer_by_view shape cloud v held (requests.GetShares user fps) =
    only (shares_reply (first_lacking v.own fps) (map (λ fp. unwrap_or (held fp) []) fps))
answer_by_view shape cloud v held (requests.List user after) = only (replies.Entries (page_of v.files after))
answer_by_view shape cloud v held (requests.Delete user tag version) =
    delete_outcome (entry_at v.files (tag, version)) (commands.Delete user tag version)

-- the reply of a cloud with this list
abbrev pub answer_over : Shape → ℕ → List Command → Request → Outcome
answer_over shape cloud list request = answer_by_view shape cloud (user_view shape list (asker request)) (held_string list) request

-- With GetShares the same strings are held for the asked fingerprints that the user owns; no other request looks at them.
abbrev pub HeldAlike : View → (Fp → Option (List ℕ)) → (Fp → Option (List ℕ)) → Request → Type 0
HeldAlike v one two requests.Hello = Unit {0}
HeldAlike v one two (requests.Query user fps) = Unit {0}
HeldAlike v one two (requests.Put user shares) = Unit {0}
HeldAlike v one two (requests.Commit user tag version recipe) = Unit {0}
HeldAlike v one two (requests.GetRecipe user tag version) = Unit {0}
HeldAlike v one two (requests.GetShares user fps) = (fp : Fp) → Contains fps fp → Contains v.own fp → one fp ≡ two fp
HeldAlike v one two (requests.List user after) = Unit {0}
HeldAlike v one two (requests.Delete user tag version) = Unit {0}

-- Each command is one that the cloud adds for some request after those before it.
pub data IsSound (shape : Shape) (cloud : ℕ) : List Command → Type 0 where
  Begun : IsSound shape cloud []
  Added : (list : List Command) (request : Request) (command : Command) → IsSound shape cloud list
      → FitsRequest request → HasRecipe shape request
      → (answer_over shape cloud list request).adds ≡ Some command
      → IsSound shape cloud (list ++ command ∷ [])

-- The command is one that the cloud adds for some request after a sound list.
pub record IsAddedCommand (shape : Shape) (cloud : ℕ) (list : List Command) (command : Command) : Type 0 where
  pub sound : IsSound shape cloud list
  pub request : Request
  pub fits : FitsRequest request
  pub recipe : HasRecipe shape request
  pub adds : (answer_over shape cloud list request).adds ≡ Some command

-- the command takes the version of the user's file out
abbrev pub TakesVersionOut : UserId → Tag × Version → Command → Type 0
TakesVersionOut user key (commands.Put u shares) = ⊥
TakesVersionOut user key (commands.Commit u tag version recipe) = ⊥
TakesVersionOut user key (commands.Delete u tag version) = (u ≡ user) × (◌≡◌ {A = Tag × Version} (tag, version) key)

-- a room that a command would pass: how much of it is used, how much more the command needs, and its limit
pub record FullRoom : Type 0 where
  pub room : Room
  pub used : ℕ
  pub need : ℕ
  pub limit : ℕ

abbrev pub room_for : (Command → Option FullRoom) → Option Command → Option FullRoom
room_for full None = None
room_for full (Some command) = full command

abbrev pub by_room : Outcome → Option FullRoom → Outcome
by_room outcome None = outcome
by_room outcome (Some full) = only (replies.Full full.room full.used full.need full.limit)

-- Full where the request adds a command for which a room has no place
abbrev pub unless_full : (Command → Option FullRoom) → Outcome → Outcome
unless_full full outcome = by_room outcome (room_for full outcome.adds)
