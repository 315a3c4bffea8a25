-- What one answer of a server says.
use Rattle.std.proofs.Common.{◌≡◌, inl, inr, ℕ, ◌≤◌, List, length, Result, Ok, Err, refl, sym, subst, arith}
use Rattle.ports_link.specs.CdBase.shape.Shape.{Shape}
use Rattle.share_server.specs.CdEdges.Disk.{Cloud}
use Rattle.share_server.specs.Messages.request.Request.{Request}
use Rattle.share_server.specs.Messages.reply.Reply.{Reply}
use Rattle.share_server.specs.Messages.reply.Reply.TheVariants as replies
use Rattle.share_server.specs.Messages.Replies.{reply_bytes}
use Rattle.share_server.specs.UserDedup.Requests.{asked_at}
use Rattle.share_server.specs.CloudStore.store.CloudStore.{CloudStore}
use Rattle.share_server.specs.Serving.{IsAnsweredContent}
use Rattle.serve_command.specs.Serving.{HeldStore, RepliesOne, RepliesTo, held_of}

-- each reply has its kind in front
pub some_bytes : (r : Reply) → 1 ≤ length (reply_bytes r)
some_bytes (replies.Hello n k cloud format) = omega arith
some_bytes (replies.Known flags) = omega arith
some_bytes (replies.Stored new) = omega arith
some_bytes replies.Committed = omega arith
some_bytes replies.Exists = omega arith
some_bytes (replies.Lacking place) = omega arith
some_bytes (replies.Recipe bytes) = omega arith
some_bytes replies.Missing = omega arith
some_bytes (replies.Shares shares) = omega arith
some_bytes (replies.NotYours place) = omega arith
some_bytes (replies.Entries entries) = omega arith
some_bytes replies.Deleted = omega arith
some_bytes (replies.Full room used need limit) = omega arith
some_bytes replies.Fault = omega arith
some_bytes (replies.Damaged at byte) = omega arith
some_bytes (replies.Rotten named found) = omega arith
some_bytes (replies.Malformed at) = omega arith
some_bytes replies.NoMemory = omega arith

module _ (before after : HeldStore) (content reply : List ℕ) where
  -- content that is a request is replied to, and other content by the place that is wrong
  pub replied : ((r : Request) → asked_at before.store.header.shape content ≡ Ok r → RepliesTo before after r reply)
      → ((at : ℕ) → asked_at before.store.header.shape content ≡ Err at
      → (reply ≡ reply_bytes (replies.Malformed at)) × (after ≡ before))
      → RepliesOne before content reply after
  replied answered malformed = by_read (asked_at before.store.header.shape content) refl
    where
      by_read : (read : Result Request ℕ) → asked_at before.store.header.shape content ≡ read
          → RepliesOne before content reply after
      by_read (Ok r) e = inl (r, e, answered r e)
      by_read (Err at) e = let m = malformed at e in inr ((at, e, m.0), m.1)

-- each reply has some bytes
pub some_content : (shape : Shape) (content reply : List ℕ) (store : CloudStore) (old new : Cloud) (before now : ℕ)
    → ((r : Request) → asked_at shape content ≡ Ok r → IsAnsweredContent shape r store old new before now reply)
    → ((at : ℕ) → asked_at shape content ≡ Err at → reply ≡ reply_bytes (replies.Malformed at)) → 1 ≤ length reply
some_content shape content reply store old new before now answered malformed = by_read (asked_at shape content) refl
  where
    by_read : (read : Result Request ℕ) → asked_at shape content ≡ read → 1 ≤ length reply
    by_read (Ok r) e = let a = answered r e in subst (λ (l : List ℕ). 1 ≤ length l) (sym a.1.spelled) (some_bytes a.0)
    by_read (Err at) e = subst (λ (l : List ℕ). 1 ≤ length l) (sym (malformed at e)) (some_bytes (replies.Malformed at))

-- the parts of what is held are the same
pub same_held : (s t : CloudStore) (c d : Cloud) (m n : ℕ) → t ≡ s → d ≡ c → n ≡ m → held_of t d n ≡ held_of s c m
same_held s t c d m n stores clouds totals = λ i. record { store = stores i; cloud = clouds i; total = totals i }
