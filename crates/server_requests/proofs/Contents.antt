-- What is said of contents.
use Rattle.std.proofs.Common.{◌≡◌, ℕ, List, ◌++◌, length, drop, map, Option, Some, None, Result, Ok, Err, refl, sym, ap, ◌∙◌, arith}
use Rattle.std.proofs.lemmas.List.{length-map}
use Rattle.std.proofs.Math.Seq.{drop-append_seam}
use Rattle.std.specs.Int.{w16, to_be_bytes}
use Rattle.std.specs.Prelude.{OnOk}
use Rattle.server_commands.specs.CdBase.ids.Fp.{Fp}
use Rattle.server_commands.specs.CdBase.ids.UserId.{UserId}
use Rattle.server_commands.specs.CdBase.shape.Shape.{Shape}
use Rattle.server_commands.specs.CdEdges.Disk.{Cloud}
use Rattle.server_commands.specs.FileIndex.key.FileKey.{FileKey}
use Rattle.server_commands.specs.JournalStart.start.Header.{Header}
use Rattle.server_commands.specs.JournalStart.Ranges.{IsHeader}
use Rattle.server_commands.specs.Messages.request.Request.{Request}
use Rattle.server_commands.specs.Messages.request.Request.TheVariants as requests
use Rattle.server_commands.specs.Messages.reply.Reply.{Reply}
use Rattle.server_commands.specs.Messages.reply.Reply.TheVariants as replies
use Rattle.server_commands.specs.Messages.Replies.{IsReply, reply_bytes}
use Rattle.server_commands.specs.UserDedup.Cloud.{fingerprint}
use Rattle.server_commands.specs.UserDedup.Exec.{items_of}
use Rattle.server_commands.specs.ServerReads.CloudMemory.Memory.{Memory}
use Rattle.server_commands.specs.ServerReads.Allowed.{Replies, IsPlain, KnownReply, RecipeReply, SharesReply}
use Rattle.server_commands.specs.ServerReads.Found.{AreEntryBytes, HasNone, IsFoundRecipe}
use Rattle.server_commands.specs.ServerReads.Owned.{first_unowned, owned_flag, owned_flags}
use Rattle.server_commands.proofs.ServerReads.Calling.{kinds}
use Rattle.server_commands.specs.Entering.{KnownBy, RecipeBy, SharesBy}
use Rattle.server_commands.specs.Leaving.{FindsNone, FindsForeign}
use Rattle.server_commands.specs.Serving.{GivesReply}
use Rattle.server_requests.specs.Hashed.{AreAsked, IsOfEntry}

-- ---- replies for the request

-- a reply that may come is one for the request
pub gives_plain : (shape : Shape) (request : Request) (content : List ℕ) (P : Reply → Type 0) → Replies content P → ((reply : Reply) → P reply → IsPlain request reply)
    → GivesReply shape request content
gives_plain shape request content P s plain =
    let p = plain s.reply s.said in
    record { reply = s.reply; is = s.is; given = record { kind = p.kind (items_of shape request); memory = p.memory; fault = p.fault; damaged = p.damaged } }

pub greets : (header : Header) (content : List ℕ) → IsHeader header → content ≡ reply_bytes (replies.Hello header.shape.n header.shape.k header.cloud.0 1)
    → GivesReply header.shape requests.Hello content
greets header content is_header is = record {
  reply = replies.Hello header.shape.n header.shape.k header.cloud.0 1;
  is = record {
    fits = (
      omega (arith, header.shape.few),
      (omega (arith, header.shape.few, header.shape.spare), (omega (arith, header.shape.few, is_header.cloud), refl)),
    );
    spelled = is;
  };
  given = record { kind = tt; memory = λ e. cc; fault = λ e. cc; damaged = λ at byte e. cc };
}

-- what is said of each reply is said of the one that is given
pub says : (shape : Shape) (request : Request) (content : List ℕ) (P : Reply → Type 0) → GivesReply shape request content → ((reply : Reply) → P reply) → Replies content P
says shape request content P gives said = record { reply = gives.reply; is = gives.is; said = said gives.reply }

-- ---- replies that leave all

pub foreign_leaves : (content : List ℕ) (Left : Type 0) → ((place : ℕ) → IsReply content (replies.NotYours place) → Left) → (answer : Reply) → FindsForeign answer
    → IsReply content answer → Left
foreign_leaves content Left f (replies.NotYours place) leaves is = f place is
foreign_leaves content Left f reply leaves is = elim leaves [ ]

pub missing_leaves : (content : List ℕ) (Left : Type 0) → (IsReply content replies.Missing → Left) → (answer : Reply) → FindsNone answer → IsReply content answer → Left
missing_leaves content Left f replies.Missing leaves is = f is
missing_leaves content Left f reply leaves is = elim leaves [ ]

-- ---- fingerprints

pub are_asked : (content : List ℕ) (fps : List Fp) → ((shares : List (List ℕ)) → IsReply content (replies.Shares shares) → map fingerprint shares ≡ fps) → (answer : Reply)
    → IsReply content answer → AreAsked fps answer
are_asked content fps f (replies.Shares shares) is = f shares is
are_asked content fps f reply is = tt

pub is_of_entry : (content : List ℕ) (m : Memory) (key : FileKey) → ((bytes : List ℕ) → IsReply content (replies.Recipe bytes) → AreEntryBytes m key bytes) → (answer : Reply)
    → IsReply content answer → IsOfEntry m key answer
is_of_entry content m key f (replies.Recipe bytes) is = f bytes is
is_of_entry content m key f reply is = tt

-- ---- what the memory has

-- a byte in front, a length of two bytes, and as many more: alike where they are as many
alike : (a b : List ℕ) → length a ≡ length b → to_be_bytes w16 (length a) ++ a ≡ to_be_bytes w16 (length b) ++ b → a ≡ b
alike a b long same =
    let fronts : length (to_be_bytes w16 (length a)) ≡ length (to_be_bytes w16 (length b)) = ap (λ (n : ℕ). length (to_be_bytes w16 n)) long in
    sym (drop-append_seam (to_be_bytes w16 (length a)) a)
    ∙ ap (drop (length (to_be_bytes w16 (length a)))) same
    ∙ ap (λ (n : ℕ). drop n (to_be_bytes w16 (length b) ++ b)) fronts
    ∙ drop-append_seam (to_be_bytes w16 (length b)) b

flags_by : (m : Memory) (user : UserId) (fps : List Fp) (content : List ℕ) → content ≡ reply_bytes (replies.Known (owned_flags m user fps)) → (reply : Reply)
    → IsReply content reply → KnownReply fps reply → KnownBy m user fps reply
flags_by m user fps content kept (replies.Known flags) is few =
    alike flags (owned_flags m user fps) (few ∙ sym (length-map fps (owned_flag m user))) (ap (drop 1) (sym is.spelled ∙ kept))
flags_by m user fps content kept reply is few = elim few [ ]

pub known_by : (m : Memory) (user : UserId) (fps : List Fp) (content : List ℕ) → content ≡ reply_bytes (replies.Known (owned_flags m user fps))
    → Replies content (KnownReply fps) → Replies content (KnownBy m user fps)
known_by m user fps content kept r = record { reply = r.reply; is = r.is; said = flags_by m user fps content kept r.reply r.is r.said }

bytes_by : (cloud : Cloud) (m : Memory) (key : FileKey) (reply : Reply) → RecipeReply (AreEntryBytes m key) (HasNone m key) (IsFoundRecipe cloud m key) reply → RecipeBy m key reply
bytes_by cloud m key (replies.Recipe bytes) said = said
bytes_by cloud m key replies.Missing said = said
bytes_by cloud m key (replies.Rotten named found) said = (said.entry, said.kept, said.named_is)
bytes_by cloud m key reply said = elim said [ ]

pub recipe_by : (cloud : Cloud) (m : Memory) (key : FileKey) (content : List ℕ) → Replies content (RecipeReply (AreEntryBytes m key) (HasNone m key) (IsFoundRecipe cloud m key))
    → Replies content (RecipeBy m key)
recipe_by cloud m key content r = record { reply = r.reply; is = r.is; said = bytes_by cloud m key r.reply r.said }

-- where it isn't NotYours, no fingerprint is another's
none_foreign : (m : Memory) (user : UserId) (fps : List Fp) (content : List ℕ) → ((place : ℕ) → first_unowned m user fps ≡ Some place → content ≡ reply_bytes (replies.NotYours place))
    → ((place : ℕ) → content ≡ reply_bytes (replies.NotYours place) → ⊥) → first_unowned m user fps ≡ None
none_foreign m user fps content foreign other = by_first (first_unowned m user fps) refl
  where
    by_first : (first : Option ℕ) → first_unowned m user fps ≡ first → first_unowned m user fps ≡ None
    by_first None is = is
    by_first (Some place) is = absurd (other place (foreign place is))

strings_by : (m : Memory) (user : UserId) (fps : List Fp) (Found : Fp → Fp → Type 0) (content : List ℕ)
    → ((place : ℕ) → first_unowned m user fps ≡ Some place → content ≡ reply_bytes (replies.NotYours place))
    → ((place : ℕ) → IsReply content (replies.NotYours place) → first_unowned m user fps ≡ Some place)
    → (reply : Reply) → IsReply content reply → SharesReply fps Found reply → SharesBy m user fps reply
strings_by m user fps Found content foreign first (replies.Shares shares) is said =
    (none_foreign m user fps content foreign (λ place other. omega (arith, kinds content 137 138 _ _ is.spelled other)), said)
strings_by m user fps Found content foreign first (replies.NotYours place) is said = first place is
strings_by m user fps Found content foreign first (replies.Rotten named found) is said =
    (none_foreign m user fps content foreign (λ place other. omega (arith, kinds content 143 138 _ _ is.spelled other)), said.0)
strings_by m user fps Found content foreign first reply is said = elim said [ ]

shares_by : (m : Memory) (user : UserId) (fps : List Fp) (Found : Fp → Fp → Type 0) (content : List ℕ)
    → ((place : ℕ) → first_unowned m user fps ≡ Some place → content ≡ reply_bytes (replies.NotYours place))
    → ((place : ℕ) → IsReply content (replies.NotYours place) → first_unowned m user fps ≡ Some place)
    → Replies content (SharesReply fps Found) → Replies content (SharesBy m user fps)
shares_by m user fps Found content foreign first r = record { reply = r.reply; is = r.is; said = strings_by m user fps Found content foreign first r.reply r.is r.said }

-- of the result of a call
pub shares_by_on : {T E : Type 0} (result : Result T E) (m : Memory) (user : UserId) (fps : List Fp) (Found : Fp → Fp → Type 0) (content : List ℕ) (A B : Type 0)
    → ((place : ℕ) → first_unowned m user fps ≡ Some place → content ≡ reply_bytes (replies.NotYours place))
    → ((place : ℕ) → OnOk result (IsReply content (replies.NotYours place) → (first_unowned m user fps ≡ Some place) × A × B))
    → OnOk result (Replies content (SharesReply fps Found)) → OnOk result (Replies content (SharesBy m user fps))
shares_by_on (Ok x) m user fps Found content A B foreign first r = shares_by m user fps Found content foreign (λ place is. (first place is).0) r
shares_by_on (Err e) m user fps Found content A B foreign first r = tt

-- the memory stays beside it
pub enters_by : (Said : Reply → Type 0) (content : List ℕ) (m new : Memory) → new ≡ m → Replies content Said → Replies content (λ reply. (new ≡ m) × Said reply)
enters_by Said content m new same r = record { reply = r.reply; is = r.is; said = (same, r.said) }

pub enters_by_on : {T E : Type 0} (result : Result T E) (Said : Reply → Type 0) (content : List ℕ) (m new : Memory) → new ≡ m → OnOk result (Replies content Said)
    → OnOk result (Replies content (λ reply. (new ≡ m) × Said reply))
enters_by_on (Ok x) Said content m new same r = enters_by Said content m new same r
enters_by_on (Err e) Said content m new same r = tt
