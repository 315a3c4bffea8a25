-- What the steps of a reply leave. No public clause cites this module.
use Rattle.std.specs.Prelude.{◌≡◌, ℕ, List, ◌++◌, length, map, All, Result, OnOk, OnErr}
use Rattle.std.specs.List.{flat_map}
use Rattle.cloud_memory.specs.CdBase.ids.Fp.{Fp}
use Rattle.cloud_memory.specs.CdBase.shape.Shape.{Shape}
use Rattle.cd_edges.specs.declared.area.Area.TheVariants.{Shares, Recipes}
use Rattle.cd_edges.specs.Disk.{Cloud, Image}
use Rattle.cd_edges.specs.Shelf.{IsCall, HasFailed, KeepsCounts, Stays}
use Rattle.messages.specs.MessageFields.Shares.{IsShare, share_bytes}
use Rattle.messages.specs.declared.reply.Reply.TheVariants as replies
use Rattle.messages.specs.Replies.{IsReply}
use Rattle.cloud_memory.specs.UserDedup.command.Command.{Command}
use Rattle.cloud_memory.specs.UserDedup.Cloud.{fingerprint}
use Rattle.cloud_memory.specs.UserDedup.Dedup.{IsSound}
use Rattle.cloud_memory.specs.Memory.{Memory, Remembers, Stand}

-- ---- a list

-- The areas have what a sound list holds where the memory says, and the memory remembers the list.
pub record KeepsRemembered (image : Image) (shape : Shape) (number : ℕ) (list : List Command)
    (m : Memory) : Type 0 where
  pub sound : IsSound shape number list
  pub remembers : Remembers shape list m
  pub stands : Stand shape (image Shares) (image Recipes) list m

-- ---- reading

-- One cloud was read alone, and each call answered.
pub record OnlyRead (old new : ℕ → Cloud) (number before now : ℕ) : Type 0 where
  pub stays : Stays (old number) (new number)
  pub call : IsCall old new number before now
  pub counts : KeepsCounts (old number) (new number) before now

-- One cloud was read alone. The counts rose where a call failed, and else stayed.
pub record HasTried {A E : Type 0} (old new : ℕ → Cloud) (number before now : ℕ) (result : Result A E) : Type 0 where
  pub stays : Stays (old number) (new number)
  pub call : IsCall old new number before now
  pub failed : OnErr result (HasFailed (old number) (new number) before now)
  pub counts : OnOk result (KeepsCounts (old number) (new number) before now)

-- ---- shares

-- The bytes end in one share.
pub record PutOne (old new : List ℕ) : Type 0 where
  pub share : List ℕ
  pub bytes : new ≡ old ++ share_bytes share
  pub range : IsShare share

-- The bytes end in so many shares.
pub record HasPut (count : ℕ) (old new : List ℕ) : Type 0 where
  pub shares : List (List ℕ)
  pub bytes : new ≡ old ++ flat_map share_bytes shares
  pub ranges : All IsShare shares
  pub many : length shares ≡ count

-- The content is the reply of so many shares.
pub record PutAll (count : ℕ) (content : List ℕ) : Type 0 where
  pub shares : List (List ℕ)
  pub is : IsReply content (replies.Shares shares)
  pub many : length shares ≡ count

-- The bytes end in one share of this fingerprint.
pub record SentOne (fp : Fp) (old new : List ℕ) : Type 0 where
  pub share : List ℕ
  pub bytes : new ≡ old ++ share_bytes share
  pub range : IsShare share
  pub named : fingerprint share ≡ fp

-- The bytes end in shares of these fingerprints.
pub record HasSentShares (fps : List Fp) (old new : List ℕ) : Type 0 where
  pub shares : List (List ℕ)
  pub bytes : new ≡ old ++ flat_map share_bytes shares
  pub ranges : All IsShare shares
  pub named : map fingerprint shares ≡ fps

-- The content is the reply of shares of these fingerprints.
pub record SentAll (fps : List Fp) (content : List ℕ) : Type 0 where
  pub shares : List (List ℕ)
  pub is : IsReply content (replies.Shares shares)
  pub named : map fingerprint shares ≡ fps
