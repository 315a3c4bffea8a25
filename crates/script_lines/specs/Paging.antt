-- A listing over the servers of this process, page by page.
use Rattle.std.specs.Prelude.{◌≡◌, ◌⊎◌, ℕ, ◌+◌, ◌-◌, ◌≤◌, ◌==◌, Bool, List, [], ◌∷◌, ◌++◌, length, map, slice_get, Option, Some, None, Result, Ok, Err}
use Rattle.recipe.specs.CdBase.ids.Tag.{Tag}
use Rattle.recipe.specs.CdBase.ids.UserId.{UserId}
use Rattle.recipe.specs.CdBase.ids.Version.{Version}
use Rattle.session_model.specs.CdEdges.Disk.{Cloud}
use Rattle.session_model.specs.MessageFields.Keys.{key_limit}
use Rattle.deletions.specs.Messages.request.Request.TheVariants as requests
use Rattle.deletions.specs.Messages.reply.Reply.{Reply}
use Rattle.deletions.specs.Messages.reply.Reply.TheVariants as replies
use Rattle.session_model.specs.UserDedup.Exec.{Peer}
use Rattle.session_model.specs.UploadJob.Lanes.{LaneView}
use Rattle.session_jobs.specs.LaneSteps.Runs.{LaneTurn}
use Rattle.session_model.specs.LocalLink.link.LocalLink.{LocalLink}
use Rattle.session_model.specs.Session.event.Event.TheVariants as events
use Rattle.session_model.specs.Transcript.refusal.Refusal.{Refusal}
use Rattle.session_model.specs.Transcript.line.Line.TheVariants as lines
use Rattle.session_model.specs.Vault.{Setting, Vault, HasVaultExecuted}
use Rattle.session_model.specs.Steps.{cloud_no, executed, moment_of, list_refusal, ListRun, entry_line}
use Rattle.session_model.specs.Session.Texts.{text_of}
use Rattle.script_lines.specs.declared.listing.Listing.{Listing}
use Rattle.script_lines.specs.declared.listing.NoPage.{NoPage}
use Rattle.script_lines.specs.declared.listing.NoPage.TheVariants as no_pages
use Rattle.script_lines.specs.At.{LinkAt, IsAtVault}
use Rattle.script_lines.specs.Does.{Images, IsCutOff}

-- one of the replies that a server gives to the request for a page
abbrev pub IsListReply : ℕ → Reply → Type 0
IsListReply cloud reply =
    ((page : List (Tag × Version)) × (reply ≡ replies.Entries page) × (length page ≤ key_limit))
    ⊎ ((why : Refusal) × (list_refusal cloud reply ≡ Some why))

-- the refusal that the reply is, if it is one of those
abbrev pub RefusesAs : ℕ → Reply → Refusal → Type 0
RefusesAs cloud reply why = (other : Refusal) → list_refusal cloud reply ≡ Some other → why ≡ other

-- what the reply was taken for
abbrev pub TakesPage : ℕ → Reply → Result (List (Tag × Version)) NoPage → Type 0
TakesPage cloud reply (Ok page) = reply ≡ replies.Entries page
TakesPage cloud reply (Err (no_pages.Refused why)) = list_refusal cloud reply ≡ Some why
TakesPage cloud reply (Err no_pages.NoMemory) = Unit {0}

-- A page stands behind those so far.
pub record HasAddedPage (before : Listing) (page : List (Tag × Version)) (after : Listing) : Type 0 where
  pub above : after.above ≡ slice_get page (length page - 1)
  pub count : after.count ≡ before.count + length page
  pub lines : after.lines ≡ before.lines ++ text_of (map entry_line page)

-- The cloud executed the request for the user's entries above this one, and its reply is so.
pub record PageAsked {V : Type 0} (clouds : V → ℕ → Cloud) (s : Setting) (user : UserId) (cloud : ℕ)
    (above : Option (Tag × Version)) (old new : LocalLink V) (peers : ℕ → Peer) (IsSo : Reply → Type 0) : Type 0 where
  pub left : ℕ → Peer
  pub reply : Reply
  pub exec : HasVaultExecuted s cloud peers (requests.List user above) reply left
  pub link_at : LinkAt clouds s new left
  pub images : (last : ℕ → Peer)
      → Images clouds s old new (executed peers cloud (requests.List user above) reply ∷ []) last
  pub kind : IsListReply cloud reply
  pub so : IsSo reply

-- Of each setting and peers at which the link is: the cloud wasn't asked, for want of memory, or its reply was taken so.
abbrev pub PageComes : {V : Type 0} → (V → ℕ → Cloud) → UserId → ℕ → Option (Tag × Version) → LocalLink V → LocalLink V
    → Result (List (Tag × Version)) NoPage → Type 0
PageComes clouds user cloud above old new came =
    (s : Setting) (peers : ℕ → Peer) → LinkAt clouds s old peers
    → ((came ≡ Err no_pages.NoMemory) × (new ≡ old))
    ⊎ PageAsked clouds s user cloud above old new peers (λ reply. TakesPage cloud reply came)

-- what a listing came to by a reply: a page more, and whether it is full
abbrev pub ListsByReply : ℕ → Listing → Listing → Result Bool NoPage → Reply → Type 0
ListsByReply cloud before after (Ok more) reply =
    (page : List (Tag × Version)) × (reply ≡ replies.Entries page) × (length page ≤ key_limit)
    × (more ≡ (length page == key_limit)) × HasAddedPage before page after
ListsByReply cloud before after (Err (no_pages.Refused why)) reply = list_refusal cloud reply ≡ Some why
ListsByReply cloud before after (Err no_pages.NoMemory) reply = Unit {0}

abbrev pub PageTurns : {V : Type 0} → (V → ℕ → Cloud) → UserId → ℕ → LocalLink V → Listing → LocalLink V → Listing
    → Result Bool NoPage → Type 0
PageTurns clouds user cloud old before new after came =
    (s : Setting) (peers : ℕ → Peer) → LinkAt clouds s old peers
    → ((came ≡ Err no_pages.NoMemory) × (new ≡ old))
    ⊎ PageAsked clouds s user cloud before.above old new peers (ListsByReply cloud before after came)

-- The listing went on to its end, or to a refusal.
pub record Listed {V : Type 0} (clouds : V → ℕ → Cloud) (s : Setting) (user : UserId) (cloud : ℕ)
    (old new : LocalLink V) (peers : ℕ → Peer) (listed : Result (List (Tag × Version)) Refusal) : Type 0 where
  pub turns : List (LaneTurn (ℕ → Peer))
  pub after : ℕ → Peer
  pub run : ListRun s user cloud None peers turns listed after
  pub link_at : LinkAt clouds s new after
  pub images : Images clouds s old new (map (moment_of cloud) turns) after

-- Of each setting and vault at which link and jobs are: all entries were listed, or the listing was refused, or cut.
abbrev pub ListsEntries : {V : Type 0} → (V → ℕ → Cloud) → UserId → ℕ → LocalLink V → List (List LaneView) → LocalLink V
    → Result Listing NoPage → Type 0
ListsEntries clouds user cloud old jobs new (Ok listing) =
    (s : Setting) (v : Vault) → IsAtVault clouds s old jobs v
    → (entries : List (Tag × Version)) × Listed clouds s user cloud old new v.peers (Ok entries)
    × (listing.count ≡ length entries) × (listing.lines ≡ text_of (map entry_line entries))
ListsEntries clouds user cloud old jobs new (Err (no_pages.Refused why)) =
    (s : Setting) (v : Vault) → IsAtVault clouds s old jobs v → Listed clouds s user cloud old new v.peers (Err why)
ListsEntries clouds user cloud old jobs new (Err no_pages.NoMemory) =
    IsCutOff clouds (events.List user (cloud_no cloud)) old jobs new

-- the text of the refusal stands behind what was there; a want of memory has no line
abbrev pub SaysNoPage : NoPage → List ℕ → List ℕ → Type 0
SaysNoPage (no_pages.Refused why) before text = text ≡ before ++ text_of (lines.Refused why ∷ [])
SaysNoPage no_pages.NoMemory before text = ⊥
