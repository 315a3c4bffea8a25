-- What the replies to a Commit and to a Delete say of the memory.
use Rattle.std.proofs.Common.{◌≡◌, ℕ, Bool, true, false, cond, List, length, Option, Some, None, Result, Ok, Err, refl, sym, ap, ◌∙◌, subst}
use Rattle.std.specs.Prelude.{OnOk, IsSome, bytes_eq}
use Rattle.std.proofs.lemmas.Slice.Eq.{bytes_eq-Decides}
use Rattle.std.specs.FinMap.{get}
use Rattle.server_reads.specs.CdBase.ids.Fp.{Fp}
use Rattle.server_reads.specs.CdBase.ids.Tag.{Tag}
use Rattle.server_reads.specs.CdBase.ids.UserId.{UserId}
use Rattle.server_reads.specs.CdBase.ids.Version.{Version}
use Rattle.server_reads.specs.CdBase.rooms.Room.TheVariants as names
use Rattle.server_reads.specs.CdBase.shape.Shape.{Shape}
use Rattle.server_reads.specs.ContainerLog.Places.{place_of}
use Rattle.server_reads.specs.FileIndex.key.Entry.{Entry}
use Rattle.server_reads.specs.FileIndex.key.FileKey.{FileKey}
use Rattle.server_reads.specs.FileIndex.Files.{key_of}
use Rattle.cloud_store.specs.JournalStart.rooms.UserRooms.{UserRooms}
use Rattle.cloud_store.specs.JournalStart.start.Header.{Header}
use Rattle.server_reads.specs.Messages.reply.Reply.{Reply}
use Rattle.server_reads.specs.Messages.reply.Reply.TheVariants as replies
use Rattle.server_reads.specs.Messages.Replies.{IsReply}
use Rattle.server_reads.specs.Recipe.recipe.Recipe.{Recipe}
use Rattle.server_reads.specs.Recipe.Spelling.{IsRecipe, spelling}
use Rattle.server_reads.specs.UserDedup.Cloud.{fingerprint}
use Rattle.server_reads.specs.UserDedup.Dedup.{FullRoom}
use Rattle.server_reads.specs.UserDedup.Owning.{fps_in}
use Rattle.server_reads.specs.UserDedup.Requests.{fps_of}
use Rattle.server_reads.specs.CloudMemory.Memory.{Memory}
use Rattle.server_reads.specs.CloudMemory.Rooms.{memory_of, full_commit}
use Rattle.server_reads.specs.CloudMemory.Sharing.{AreOwned, IsFirstUnowned}
use Rattle.server_reads.specs.CloudMemory.Steps.{with_commit}
use Rattle.cloud_store.specs.declared.store.CloudStore.{CloudStore}
use Rattle.server_reads.specs.Allowed.{Replies}
use Rattle.server_commands.specs.Entering.{entering, Committed, Commits, Deletes}
use Rattle.server_commands.specs.Steps.{Forgets, by_recipe}
use Rattle.server_commands.proofs.Commits.{fps_spelled}
use Rattle.server_commands.proofs.Doing.{full_reply}

there : (o : Option Entry) (entry : Entry) → o ≡ Some entry → IsSome o
there o entry is = subst (λ (x : Option Entry). IsSome x) (sym is) refl

-- ---- a Delete

pub full_forgets : (shape : Shape) (m new : Memory) (user : UserId) (key : FileKey) (recipe content : List ℕ) (used need limit : ℕ) → new ≡ m
    → IsReply content (replies.Full names.Journal used need limit) → Replies content (Forgets shape m new user key recipe)
full_forgets shape m new user key recipe content used need limit same is = record { reply = replies.Full names.Journal used need limit; is = is; said = (refl, same) }

forgotten_said : (shape : Shape) (m new : Memory) (user : UserId) (key : FileKey) (recipe : List ℕ) (entry : Entry) → get m.files key ≡ Some entry → length recipe ≡ entry.len → fingerprint recipe ≡ entry.fp
    → (reply : Reply) → Forgets shape m new user key recipe reply → Deletes shape m new user key reply
forgotten_said shape m new user key recipe entry has long named replies.Deleted said = record { entry = entry; there = has; recipe = recipe; long = long; named = named; taken = said }
forgotten_said shape m new user key recipe entry has long named (replies.Full room used need limit) said = (said.0, there (get m.files key) entry has, said.1)
forgotten_said shape m new user key recipe entry has long named reply said = elim said [ ]

deletes_by : {T E : Type 0} (r : Result T E) (shape : Shape) (m new : Memory) (user : UserId) (key : FileKey) (recipe content : List ℕ) (entry : Entry) → get m.files key ≡ Some entry → length recipe ≡ entry.len
    → fingerprint recipe ≡ entry.fp → OnOk r (Replies content (Forgets shape m new user key recipe)) → OnOk r (Replies content (Deletes shape m new user key))
deletes_by (Err e) shape m new user key recipe content entry has long named s = tt
deletes_by (Ok v) shape m new user key recipe content entry has long named s = record { reply = s.reply; is = s.is; said = forgotten_said shape m new user key recipe entry has long named s.reply s.said }

-- behind the read, whose memory is the one before
pub forgotten : {T E : Type 0} (r : Result T E) (old mid : CloudStore) (new : Memory) (user : UserId) (key : FileKey) (recipe content : List ℕ) (entry : Entry) → mid.header ≡ old.header → memory_of mid.memory ≡ memory_of old.memory
    → get (memory_of old.memory).files key ≡ Some entry → length recipe ≡ entry.len → fingerprint recipe ≡ entry.fp
    → OnOk r (Replies content (Forgets mid.header.shape (memory_of mid.memory) new user key recipe)) → OnOk r (Replies content (Deletes old.header.shape (memory_of old.memory) new user key))
forgotten r old mid new user key recipe content entry header memory has long named s =
    deletes_by r old.header.shape (memory_of old.memory) new user key recipe content entry has long named
    (subst (λ (h : Header). OnOk r (Replies content (Forgets h.shape (memory_of old.memory) new user key recipe))) header
    (subst (λ (m : Memory). OnOk r (Replies content (Forgets mid.header.shape m new user key recipe))) memory s))

-- ---- a Commit

module _ (rooms : UserRooms) (m new : Memory) (user : UserId) (tag : Tag) (version : Version) where
  abbrev key : FileKey
  key = key_of user.0 tag.0 version.0

  -- of a version that has an entry
  pub compared_commits : (fps : List Fp) (recipe bytes content : List ℕ) (entry : Entry) → get m.files (key_of user.0 tag.0 version.0) ≡ Some entry → AreOwned m.owners user fps → new ≡ m → fingerprint bytes ≡ entry.fp
      → IsReply content (by_recipe bytes recipe)
      → Replies content (Commits rooms m new user tag version fps recipe)
  compared_commits fps recipe bytes content entry has owned same hashed is = by (bytes_eq bytes recipe) (bytes_eq-Decides bytes recipe).0 is
    where
      by : (b : Bool) → (b ≡ true → bytes ≡ recipe) → IsReply content (cond b replies.Committed replies.Exists) → Replies content (Commits rooms m new user tag version fps recipe)
      by true one w = record {
        reply = replies.Committed;
        is = w;
        said = (owned, subst (λ (o : Option Entry). Committed rooms m new user tag version fps recipe o) (sym has) (same, ap fingerprint (sym (one refl)) ∙ hashed));
      }
      by false one w = record { reply = replies.Exists; is = w; said = (owned, there (get m.files key) entry has, same) }

  pub rotten_commits : (fps : List Fp) (recipe content : List ℕ) (entry : Entry) (named found : Fp) → get m.files (key_of user.0 tag.0 version.0) ≡ Some entry → AreOwned m.owners user fps → new ≡ m
      → IsReply content (replies.Rotten named found) → Replies content (Commits rooms m new user tag version fps recipe)
  rotten_commits fps recipe content entry named found has owned same is = record { reply = replies.Rotten named found; is = is; said = (owned, there (get m.files key) entry has, same) }

  -- of one that has none
  module _ (fps : List Fp) (recipe : List ℕ) (fp : Fp) (len : ℕ) (fp_is : fingerprint recipe ≡ fp) (len_is : length recipe ≡ len) (none : get m.files (key_of user.0 tag.0 version.0) ≡ None)
      (owned : AreOwned m.owners user fps) (content : List ℕ) where
    entered_is : with_commit fps (record { user = user; tag = tag; version = version; at = place_of m.recipes_end len; len = len; fp = fp }) m ≡ entering m user tag version fps recipe
    entered_is = λ i. with_commit fps (record { user = user; tag = tag; version = version; at = place_of m.recipes_end (sym len_is i); len = sym len_is i; fp = sym fp_is i }) m

    pub new_commits : new ≡ with_commit fps (record { user = user; tag = tag; version = version; at = place_of m.recipes_end len; len = len; fp = fp }) m → full_commit rooms user m len ≡ None
        → IsReply content replies.Committed → Replies content (Commits rooms m new user tag version fps recipe)
    new_commits taken full is = record {
      reply = replies.Committed;
      is = is;
      said = (
        owned,
        subst (λ (o : Option Entry). Committed rooms m new user tag version fps recipe o) (sym none) (taken ∙ entered_is, subst (λ (n : ℕ). full_commit rooms user m n ≡ None) (sym len_is) full),
      );
    }

    pub full_commits : (room : FullRoom) → new ≡ m → full_commit rooms user m len ≡ Some room → IsReply content (full_reply room) → Replies content (Commits rooms m new user tag version fps recipe)
    full_commits room same full is = record {
      reply = full_reply room;
      is = is;
      said = (owned, none, same, λ other. subst (λ (n : ℕ). full_commit rooms user m n ≡ Some room) (sym len_is) full);
    }

    pub long_commits : (used need limit : ℕ) → new ≡ m → IsReply content (replies.Full names.Journal used need limit) → Replies content (Commits rooms m new user tag version fps recipe)
    long_commits used need limit same is = record { reply = replies.Full names.Journal used need limit; is = is; said = (owned, none, same, λ other. absurd (other refl)) }

-- the items of a recipe as its spelling has them
pub owned_spelled : (shape : Shape) (m : Memory) (user : UserId) (r : Recipe) (bytes : List ℕ) → IsRecipe shape (spelling r) r → bytes ≡ spelling r → AreOwned m.owners user (fps_in r.items)
    → AreOwned m.owners user (fps_of shape bytes)
owned_spelled shape m user r bytes is e owned = subst (AreOwned m.owners user) (sym (ap (fps_of shape) e ∙ fps_spelled shape r is)) owned

pub lacking_commits : (rooms : UserRooms) (shape : Shape) (m : Memory) (user : UserId) (tag : Tag) (version : Version) (r : Recipe) (content : List ℕ) (place : ℕ) → IsRecipe shape (spelling r) r
    → IsFirstUnowned m.owners user (fps_in r.items) place → IsReply content (replies.Lacking place) → Replies content (Commits rooms m m user tag version (fps_of shape (spelling r)) (spelling r))
lacking_commits rooms shape m user tag version r content place is first reply = record {
  reply = replies.Lacking place;
  is = reply;
  said = (subst (λ (fps : List Fp). IsFirstUnowned m.owners user fps place) (sym (fps_spelled shape r is)) first, refl);
}

-- behind the staging of the recipe, whose memory is the one before
pub staged_commits : {T E : Type 0} (q : Result T E) (old mid : CloudStore) (new : Memory) (user : UserId) (tag : Tag) (version : Version) (r : Recipe) (content : List ℕ) → IsRecipe old.header.shape (spelling r) r
    → mid.header ≡ old.header → memory_of mid.memory ≡ memory_of old.memory → OnOk q (Replies content (Commits mid.header.rooms (memory_of mid.memory) new user tag version (fps_in r.items) (spelling r)))
    → OnOk q (Replies content (Commits old.header.rooms (memory_of old.memory) new user tag version (fps_of old.header.shape (spelling r)) (spelling r)))
staged_commits q old mid new user tag version r content is header memory s =
    subst (λ (fps : List Fp). OnOk q (Replies content (Commits old.header.rooms (memory_of old.memory) new user tag version fps (spelling r)))) (sym (fps_spelled old.header.shape r is))
    (subst (λ (h : Header). OnOk q (Replies content (Commits h.rooms (memory_of old.memory) new user tag version (fps_in r.items) (spelling r)))) header
    (subst (λ (m : Memory). OnOk q (Replies content (Commits mid.header.rooms m new user tag version (fps_in r.items) (spelling r)))) memory s))
