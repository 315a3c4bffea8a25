-- Worked rows: what a server of cloud 2 in a store of shape 4 3 is asked and answers, in turn, from the bytes of the requests to
-- those of the replies. The strings are "A", and 32 zeros stand for tags and for a fingerprint that no string has.
use Rattle.std.proofs.Common.{◌≡◌, ℕ, List, [], ◌∷◌, ◌++◌, replicate, refl, arith, Some, None, Err}
use Rattle.journal_start.specs.CdBase.ids.Fp.{Fp}
use Rattle.journal_start.specs.CdBase.ids.Tag.{Tag}
use Rattle.journal_start.specs.CdBase.shape.Shape.{Shape}
use Rattle.messages.specs.declared.request.Request.{Request}
use Rattle.messages.specs.declared.request.Request.TheVariants as requests
use Rattle.messages.specs.declared.reply.Reply.TheVariants as replies
use Rattle.messages.specs.Requests.{request_bytes}
use Rattle.messages.specs.Replies.{reply_bytes}
use Rattle.messages.specs.RequestReading.{fields_left, request_left, request_at}
use Rattle.user_dedup.specs.declared.command.Command.{Command}
use Rattle.user_dedup.specs.declared.command.Command.TheVariants as commands
use Rattle.user_dedup.specs.Cloud.{fingerprint, user_view}
use Rattle.user_dedup.specs.Requests.{asked_at}
use Rattle.user_dedup.specs.Dedup.{Outcome, only, answer_over, commit_outcome}
use Rattle.user_dedup.proofs.CompactRows.{same, user, at}

abbrev pub shape : Shape
shape = record { n = 4; k = 3; several = omega arith; spare = omega arith; few = omega arith }

abbrev zeros : List ℕ
zeros = replicate 32 0

abbrev tag : Tag
tag = record { 0 = zeros }

abbrev no_such : Fp
no_such = record { 0 = zeros }

abbrev string_A : List ℕ
string_A = 65 ∷ []

abbrev put_A : Command
put_A = commands.Put (user 7) (string_A ∷ [])

-- content and the reply to it
record Row (list : List Command) (content : List ℕ) (request : Request) (reply : List ℕ) (outcome : Outcome) : Type 0 where
  pub spelled : content ≡ request_bytes request
  pub answered : answer_over shape 2 list request ≡ outcome
  pub written : reply ≡ reply_bytes outcome.reply

query : Row [] (2 ∷ 0 ∷ 0 ∷ 0 ∷ 7 ∷ 0 ∷ 1 ∷ zeros) (requests.Query (user 7) (no_such ∷ [])) (0x82 ∷ 0 ∷ 1 ∷ 0 ∷ []) (only (replies.Known (0 ∷ [])))
query = record { spelled = refl; answered = refl; written = refl }

get_shares : Row [] (6 ∷ 0 ∷ 0 ∷ 0 ∷ 7 ∷ 0 ∷ 1 ∷ zeros) (requests.GetShares (user 7) (no_such ∷ [])) (0x8A ∷ 0 ∷ 0 ∷ []) (only (replies.NotYours 0))
get_shares = record { spelled = refl; answered = refl; written = refl }

get_recipe : Row [] (5 ∷ 0 ∷ 0 ∷ 0 ∷ 7 ∷ (zeros ++ replicate 8 0)) (requests.GetRecipe (user 7) tag (at 0)) (0x88 ∷ []) (only replies.Missing)
get_recipe = record { spelled = refl; answered = refl; written = refl }

list_files : Row [] (7 ∷ 0 ∷ 0 ∷ 0 ∷ 7 ∷ 0 ∷ []) (requests.List (user 7) None) (0x8B ∷ 0 ∷ 0 ∷ []) (only (replies.Entries []))
list_files = record { spelled = refl; answered = refl; written = refl }

-- no request has kind 9
unknown : asked_at shape (9 ∷ []) ≡ Err 0
unfolding request_at request_left fields_left
unknown = refl

malformed : reply_bytes (replies.Malformed 0) ≡ 0x90 ∷ 0 ∷ 0 ∷ 0 ∷ 0 ∷ []
malformed = refl

put : Row [] (3 ∷ 0 ∷ 0 ∷ 0 ∷ 7 ∷ 0 ∷ 1 ∷ 0 ∷ 0 ∷ 0 ∷ 1 ∷ 65 ∷ []) (requests.Put (user 7) (string_A ∷ [])) (0x83 ∷ 0 ∷ 1 ∷ []) (record { reply = replies.Stored 1; adds = Some put_A })
put = record { spelled = refl; answered = refl; written = refl }

-- the same again adds nothing
put_again : Row (put_A ∷ []) (3 ∷ 0 ∷ 0 ∷ 0 ∷ 7 ∷ 0 ∷ 1 ∷ 0 ∷ 0 ∷ 0 ∷ 1 ∷ 65 ∷ []) (requests.Put (user 7) (string_A ∷ [])) (0x83 ∷ 0 ∷ 0 ∷ []) (only (replies.Stored 0))
put_again = record { spelled = refl; answered = rw same refl; written = refl }

-- ---- the same user again, and another user

known_again : answer_over shape 2 (put_A ∷ []) (requests.Query (user 7) (fingerprint string_A ∷ [])) ≡ only (replies.Known (1 ∷ []))
known_again = rw same refl

not_by_another : answer_over shape 2 (put_A ∷ []) (requests.Query (user 8) (fingerprint string_A ∷ [])) ≡ only (replies.Known (0 ∷ []))
not_by_another = refl

-- another user that sends the same string owns it too
views : (user_view shape (put_A ∷ commands.Put (user 8) (string_A ∷ []) ∷ []) (user 8)).own ≡ fingerprint string_A ∷ []
views = refl

-- of two equal strings in one Put the first is new
put_twice : answer_over shape 2 [] (requests.Put (user 7) (string_A ∷ string_A ∷ [])) ≡ record { reply = replies.Stored 1; adds = Some put_A }
put_twice = rw same refl

-- a string is given to one that owns it, whoever sent it first
given : answer_over shape 2 (commands.Put (user 8) (string_A ∷ []) ∷ put_A ∷ []) (requests.GetShares (user 7) (fingerprint string_A ∷ [])) ≡ only (replies.Shares (string_A ∷ []))
given = rw same refl

-- ---- two jobs for one version

-- the version stands with one recipe: a Commit with the same one is answered Committed, with another one Exists, and neither adds
abbrev entered : Command
entered = commands.Commit (user 7) tag (at 1) (1 ∷ [])

found : answer_over shape 2 (entered ∷ []) (requests.GetRecipe (user 7) tag (at 1)) ≡ only (replies.Recipe (1 ∷ []))
found = refl

again : commit_outcome None (Some (record { tag = tag; version = at 1; recipe = 1 ∷ [] })) entered (1 ∷ []) ≡ only replies.Committed
again = refl

another : commit_outcome None (Some (record { tag = tag; version = at 1; recipe = 1 ∷ [] })) entered (2 ∷ []) ≡ only replies.Exists
another = refl

-- keys rise by version under one tag, each user's alone
rises : answer_over shape 2 (commands.Commit (user 7) tag (at 3) [] ∷ commands.Commit (user 7) tag (at 1) [] ∷ commands.Commit (user 8) tag (at 2) [] ∷ []) (requests.List (user 7) None)
    ≡ only (replies.Entries ((tag, at 1) ∷ (tag, at 3) ∷ []))
rises = refl

above : answer_over shape 2 (commands.Commit (user 7) tag (at 3) [] ∷ commands.Commit (user 7) tag (at 1) [] ∷ commands.Commit (user 8) tag (at 2) [] ∷ []) (requests.List (user 7) (Some (tag, at 1)))
    ≡ only (replies.Entries ((tag, at 3) ∷ []))
above = refl
