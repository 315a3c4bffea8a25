-- What the replies aren't that say that a server isn't opened, or that a device failed.
use Rattle.std.proofs.Common.{◌≡◌, ℕ, List, ◌∷◌, refl, sym, ap, ◌∙◌, subst, arith}
use Rattle.std.specs.Prelude.{◌≢◌}
use Rattle.server_requests.specs.CdBase.ids.Fp.{Fp}
use Rattle.server_requests.specs.CdBase.shape.Shape.{Shape}
use Rattle.server_requests.specs.CdEdges.Causes.{Rose}
use Rattle.server_requests.specs.CdEdges.Disk.{Cloud}
use Rattle.server_requests.specs.CdEdges.Shelf.{HasFailed, KeepsCounts}
use Rattle.server_requests.specs.CommitJournal.errors.OpenErr.{OpenErr}
use Rattle.server_requests.specs.CommitJournal.errors.OpenErr.TheVariants as errors
use Rattle.server_requests.specs.CommitJournal.Openings.{OnFault}
use Rattle.server_requests.specs.Messages.request.Request.{Request}
use Rattle.server_requests.specs.Messages.request.Request.TheVariants as requests
use Rattle.server_requests.specs.Messages.reply.Reply.{Reply}
use Rattle.server_requests.specs.Messages.reply.Reply.TheVariants as replies
use Rattle.server_requests.specs.Messages.Replies.{IsReply, reply_bytes}
use Rattle.server_requests.specs.ServerCommands.Leaving.{StoresNothing, EntersNothing, FindsNone, FindsForeign, LeavesAll}
use Rattle.server_requests.specs.FileIndex.Files.{key_of}
use Rattle.server_requests.specs.Hashed.{AreAsked, IsHashed, IsOfEntry}
use Rattle.server_requests.specs.JournalStart.start.Header.{Header}
use Rattle.server_requests.specs.ServerCommands.Entering.{Enters}
use Rattle.blob_copy.specs.CloudOpening.CloudMemory.Memory.{Memory}
use Rattle.server_requests.specs.CloudStore.store.CloudStore.{CloudStore}
use Rattle.server_requests.specs.CloudStore.Store.{IsOpen}
use Rattle.server_requests.proofs.ServerReads.Calling.{kinds}
use Rattle.share_server.specs.Refusals.{IsRefusal, IsErrorReply, MayCome}
use Rattle.share_server.specs.Serving.{IsAnsweredContent, an_error}

rotten_or : (content : List ℕ) (reply : Reply) (same : Reply) (named found : Fp) → IsReply content reply → reply ≡ same → IsReply content (replies.Rotten named found)
    → content ≡ reply_bytes same
rotten_or content reply same named found is e rotten = is.spelled ∙ ap reply_bytes e

-- a refusal isn't Rotten
refusal_kind : (error : OpenErr) (content : List ℕ) (reply : Reply) (named found : Fp) → IsReply content reply → IsRefusal error reply → IsReply content (replies.Rotten named found) → ⊥
refusal_kind errors.Fault content reply named found is e rotten =
    omega (arith, kinds content 141 143 _ _ (rotten_or content reply replies.Fault named found is e rotten) rotten.spelled)
refusal_kind (errors.Damaged at byte) content reply named found is e rotten =
    omega (arith, kinds content 142 143 _ _ (rotten_or content reply (replies.Damaged at byte) named found is e rotten) rotten.spelled)
refusal_kind (errors.OtherStore other asked at) content reply named found is e rotten =
    omega (arith, kinds content 142 143 _ _ (rotten_or content reply (replies.Damaged e.0 e.1) named found is e.2 rotten) rotten.spelled)
refusal_kind (errors.NotBegun len) content reply named found is e rotten = e

pub not_rotten : (error : OpenErr) (content : List ℕ) (named found : Fp) → IsErrorReply error content → IsReply content (replies.Rotten named found) → ⊥
not_rotten error content named found refuses rotten = refusal_kind error content refuses.reply named found refuses.is refuses.refusal rotten

-- Fault isn't Damaged
pub fault_not_damaged : (content : List ℕ) (at byte : ℕ) → IsReply content replies.Fault → IsReply content (replies.Damaged at byte) → ⊥
fault_not_damaged content at byte fault damaged = omega (arith, kinds content 141 142 _ _ fault.spelled damaged.spelled)

pub fault_not_rotten : (content : List ℕ) (named found : Fp) → IsReply content replies.Fault → IsReply content (replies.Rotten named found) → ⊥
fault_not_rotten content named found fault rotten = omega (arith, kinds content 141 143 _ _ fault.spelled rotten.spelled)

-- nor a reply that leaves all as it was
stores : (content : List ℕ) (answer : Reply) → StoresNothing answer → content ≡ reply_bytes replies.Fault → content ≡ reply_bytes answer → ⊥
stores content (replies.Stored new) leaves fault is = omega (arith, kinds content 141 131 _ _ fault is)
stores content (replies.Full room used need limit) leaves fault is = omega (arith, kinds content 141 140 _ _ fault is)
stores content answer leaves fault is = elim leaves [ ]

enters : (content : List ℕ) (answer : Reply) → EntersNothing answer → content ≡ reply_bytes replies.Fault → content ≡ reply_bytes answer → ⊥
enters content (replies.Lacking place) leaves fault is = omega (arith, kinds content 141 134 _ _ fault is)
enters content (replies.Full room used need limit) leaves fault is = omega (arith, kinds content 141 140 _ _ fault is)
enters content answer leaves fault is = elim leaves [ ]

finds_none : (content : List ℕ) (answer : Reply) → FindsNone answer → content ≡ reply_bytes replies.Fault → content ≡ reply_bytes answer → ⊥
finds_none content replies.Missing leaves fault is = omega (arith, kinds content 141 136 _ _ fault is)
finds_none content answer leaves fault is = elim leaves [ ]

finds_foreign : (content : List ℕ) (answer : Reply) → FindsForeign answer → content ≡ reply_bytes replies.Fault → content ≡ reply_bytes answer → ⊥
finds_foreign content (replies.NotYours place) leaves fault is = omega (arith, kinds content 141 138 _ _ fault is)
finds_foreign content answer leaves fault is = elim leaves [ ]

pub fault_leaves : (content : List ℕ) (request : Request) (answer : Reply) → LeavesAll request answer → IsReply content replies.Fault → IsReply content answer → ⊥
fault_leaves content requests.Hello answer leaves fault is = leaves
fault_leaves content (requests.Query user fps) answer leaves fault is = leaves
fault_leaves content (requests.Put user shares) answer leaves fault is = stores content answer leaves fault.spelled is.spelled
fault_leaves content (requests.Commit user tag version recipe) answer leaves fault is = enters content answer leaves fault.spelled is.spelled
fault_leaves content (requests.GetRecipe user tag version) answer leaves fault is = finds_none content answer leaves fault.spelled is.spelled
fault_leaves content (requests.GetShares user fps) answer leaves fault is = finds_foreign content answer leaves fault.spelled is.spelled
fault_leaves content (requests.List user after) answer leaves fault is = leaves
fault_leaves content (requests.Delete user tag version) answer leaves fault is = finds_none content answer leaves fault.spelled is.spelled

-- a reply that isn't Damaged has another content
pub not_damaged : (content : List ℕ) (reply : Reply) (at byte : ℕ) → ((a b : ℕ) → reply ≢ replies.Damaged a b) → content ≡ reply_bytes reply → content ≡ reply_bytes (replies.Damaged at byte) → ⊥
not_damaged content (replies.Hello n k cloud format) at byte never is damaged = omega (arith, kinds content 129 142 _ _ is damaged)
not_damaged content (replies.Known flags) at byte never is damaged = omega (arith, kinds content 130 142 _ _ is damaged)
not_damaged content (replies.Stored new) at byte never is damaged = omega (arith, kinds content 131 142 _ _ is damaged)
not_damaged content replies.Committed at byte never is damaged = omega (arith, kinds content 132 142 _ _ is damaged)
not_damaged content replies.Exists at byte never is damaged = omega (arith, kinds content 133 142 _ _ is damaged)
not_damaged content (replies.Lacking place) at byte never is damaged = omega (arith, kinds content 134 142 _ _ is damaged)
not_damaged content (replies.Recipe bytes) at byte never is damaged = omega (arith, kinds content 135 142 _ _ is damaged)
not_damaged content replies.Missing at byte never is damaged = omega (arith, kinds content 136 142 _ _ is damaged)
not_damaged content (replies.Shares shares) at byte never is damaged = omega (arith, kinds content 137 142 _ _ is damaged)
not_damaged content (replies.NotYours place) at byte never is damaged = omega (arith, kinds content 138 142 _ _ is damaged)
not_damaged content (replies.Entries keys) at byte never is damaged = omega (arith, kinds content 139 142 _ _ is damaged)
not_damaged content (replies.Full room used need limit) at byte never is damaged = omega (arith, kinds content 140 142 _ _ is damaged)
not_damaged content replies.Fault at byte never is damaged = omega (arith, kinds content 141 142 _ _ is damaged)
not_damaged content (replies.Damaged a b) at byte never is damaged = never a b refl
not_damaged content (replies.Rotten named found) at byte never is damaged = omega (arith, kinds content 143 142 _ _ is damaged)
not_damaged content (replies.Malformed wrong) at byte never is damaged = omega (arith, kinds content 144 142 _ _ is damaged)
not_damaged content replies.NoMemory at byte never is damaged = omega (arith, kinds content 145 142 _ _ is damaged)
not_damaged content replies.Deleted at byte never is damaged = omega (arith, kinds content 146 142 _ _ is damaged)

-- ---- what is given

module _ (content : List ℕ) (kind : ℕ) (rest : List ℕ) (begins : content ≡ kind ∷ rest) where
  of_entry : kind ≢ 135 → (m : Memory) (user : ℕ) (tag : List ℕ) (version : ℕ) (answer : Reply) → IsReply content answer → IsOfEntry m (key_of user tag version) answer
  of_entry other m user tag version (replies.Recipe bytes) is = absurd (other (kinds content kind 135 _ _ begins is.spelled))
  of_entry other m user tag version answer is = tt

  are_asked : kind ≢ 137 → (fps : List Fp) (answer : Reply) → IsReply content answer → AreAsked fps answer
  are_asked other fps (replies.Shares shares) is = absurd (other (kinds content kind 137 _ _ begins is.spelled))
  are_asked other fps answer is = tt

  -- what gives neither a recipe nor shares has no hash to keep
  gives_none : kind ≢ 135 → kind ≢ 137 → (m : Memory) (r : Request) (answer : Reply) → IsReply content answer → IsHashed m r answer
  gives_none one two m requests.Hello answer is = tt
  gives_none one two m (requests.Query user fps) answer is = tt
  gives_none one two m (requests.Put user shares) answer is = tt
  gives_none one two m (requests.Commit user tag version recipe) answer is = tt
  gives_none one two m (requests.GetRecipe user tag version) answer is = of_entry one m user.0 tag.0 version.0 answer is
  gives_none one two m (requests.GetShares user fps) answer is = are_asked two fps answer is
  gives_none one two m (requests.List user after) answer is = tt
  gives_none one two m (requests.Delete user tag version) answer is = tt

spelled_as : (content : List ℕ) (reply same : Reply) → IsReply content reply → reply ≡ same → content ≡ reply_bytes same
spelled_as content reply same is e = is.spelled ∙ ap reply_bytes e

pub fault_hashed : (m : Memory) (r : Request) (content : List ℕ) (answer : Reply) → IsReply content replies.Fault → IsReply content answer → IsHashed m r answer
fault_hashed m r content answer fault is = gives_none content 141 _ fault.spelled (λ e. omega (arith, e)) (λ e. omega (arith, e)) m r answer is

refusal_hashed : (m : Memory) (r : Request) (error : OpenErr) (content : List ℕ) (reply answer : Reply) → IsReply content reply → IsRefusal error reply → IsReply content answer
    → IsHashed m r answer
refusal_hashed m r errors.Fault content reply answer one e is =
    gives_none content 141 _ (spelled_as content reply replies.Fault one e) (λ n. omega (arith, n)) (λ n. omega (arith, n)) m r answer is
refusal_hashed m r (errors.Damaged at byte) content reply answer one e is =
    gives_none content 142 _ (spelled_as content reply (replies.Damaged at byte) one e) (λ n. omega (arith, n)) (λ n. omega (arith, n)) m r answer is
refusal_hashed m r (errors.OtherStore other asked at) content reply answer one e is =
    gives_none content 142 _ (spelled_as content reply (replies.Damaged e.0 e.1) one e.2) (λ n. omega (arith, n)) (λ n. omega (arith, n)) m r answer is
refusal_hashed m r (errors.NotBegun len) content reply answer one e is = absurd e

pub refused_hashed : (m : Memory) (r : Request) (error : OpenErr) (content : List ℕ) (answer : Reply) → IsErrorReply error content → IsReply content answer → IsHashed m r answer
refused_hashed m r error content answer refuses is = refusal_hashed m r error content refuses.reply answer refuses.is refuses.refusal is

-- what only asks leaves the memory
pub hashed_now : (h : Header) (m new : Memory) (r : Request) (answer said : Reply) → Enters h m new r said → IsHashed m r answer → IsHashed new r answer
hashed_now h m new requests.Hello answer said e is = tt
hashed_now h m new (requests.Query user fps) answer said e is = tt
hashed_now h m new (requests.Put user shares) answer said e is = tt
hashed_now h m new (requests.Commit user tag version recipe) answer said e is = tt
hashed_now h m new (requests.GetRecipe user tag version) answer said e is =
    subst (λ (x : Memory). IsOfEntry x (key_of user.0 tag.0 version.0) answer) (sym e.0) is
hashed_now h m new (requests.GetShares user fps) answer said e is = is
hashed_now h m new (requests.List user after) answer said e is = tt
hashed_now h m new (requests.Delete user tag version) answer said e is = tt

-- ---- the reply to an error

pub fault_answered : (shape : Shape) (r : Request) (s : CloudStore) (old new : Cloud) (before now : ℕ) (content : List ℕ) → IsReply content replies.Fault → HasFailed old new before now
    → ¬ (IsOpen s) → IsAnsweredContent shape r s old new before now content
fault_answered shape r s old new before now content is failed shut = (
  replies.Fault,
  is,
  tt,
  λ e. (let f : replies.Fault ≡ replies.NoMemory = e in cc),
  λ fault. (failed, shut),
  λ other. absurd (other refl),
)

pub refused_answered : (shape : Shape) (r : Request) (error : OpenErr) (s : CloudStore) (old new : Cloud) (before now : ℕ) (content : List ℕ) → MayCome error → ¬ (IsOpen s)
    → OnFault (an_error error) (HasFailed old new before now) (KeepsCounts old new before now) → IsErrorReply error content → IsAnsweredContent shape r s old new before now content
refused_answered shape r errors.Fault s old new before now content may shut counts refuses =
    fault_answered shape r s old new before now content (subst (IsReply content) refuses.refusal refuses.is) counts shut
refused_answered shape r (errors.Damaged at byte) s old new before now content may shut counts refuses = (
  replies.Damaged at byte,
  subst (IsReply content) refuses.refusal refuses.is,
  tt,
  λ e. (let f : replies.Damaged at byte ≡ replies.NoMemory = e in cc),
  λ fault. absurd (let f : replies.Damaged at byte ≡ replies.Fault = fault in cc),
  λ other. counts,
)
refused_answered shape r (errors.OtherStore found asked at) s old new before now content may shut counts refuses =
    let place = refuses.refusal.0 in let byte = refuses.refusal.1 in (
      replies.Damaged place byte,
      subst (IsReply content) refuses.refusal.2 refuses.is,
      tt,
      λ e. (let f : replies.Damaged place byte ≡ replies.NoMemory = e in cc),
      λ fault. absurd (let f : replies.Damaged place byte ≡ replies.Fault = fault in cc),
      λ other. counts,
    )
refused_answered shape r (errors.NotBegun len) s old new before now content may shut counts refuses = absurd may

-- ---- behind an opening that kept the counts

pub answered_behind : (shape : Shape) (r : Request) (s : CloudStore) (old mid new : Cloud) (first second third : ℕ) (content : List ℕ) → KeepsCounts old mid first second
    → IsAnsweredContent shape r s mid new second third content → IsAnsweredContent shape r s old new first third content
answered_behind shape r s old mid new first second third content keeps a = (
  a.0,
  a.1,
  a.2,
  a.3,
  λ fault.
      let f = a.4 fault in
      (record { cloud = subst (λ (n : ℕ). Rose n new.faults) keeps.cloud f.0.cloud; total = subst (λ (n : ℕ). Rose n third) keeps.total f.0.total }, f.1),
  λ other. (let k = a.5 other in record { cloud = k.cloud ∙ keeps.cloud; total = k.total ∙ keeps.total }),
)
