-- Images that stand for a list, as those of a cloud that users ask.
use Rattle.std.proofs.Common.{◌≡◌, ◌⊎◌, inl, inr, ◌↔◌, List, [], ◌∷◌, ◌++◌, Option, Some, None, refl, sym, subst}
use Rattle.std.specs.Prelude.{IsSomeAnd}
use Rattle.std.specs.List.{Contains}
use Rattle.journal_halves.specs.CdEdges.area.Area.{Area}
use Rattle.journal_halves.specs.CdEdges.Disk.{Store, Areas, Cloud, Image, IsImage, MayLeave, LeavesOnly, reads}
use Rattle.journal_halves.specs.CdEdges.Shelf.{stable}
use Rattle.journal_halves.proofs.CdEdges.Moments.{weaker}
use Rattle.journal_halves.proofs.CdEdges.Torn.{only}
use Rattle.journal_halves.specs.JournalStart.start.Header.{Header}
use Rattle.user_dedup.specs.Messages.request.Request.{Request}
use Rattle.user_dedup.specs.declared.command.Command.{Command}
use Rattle.user_dedup.specs.Dedup.{Outcome}
use Rattle.user_dedup.specs.Exec.{Peer, MaySettleAs}
use Rattle.user_dedup.proofs.Owned.{contains_here, contains_later, contains_nothing, contains_cases}
use Rattle.cloud_areas.specs.Standing.{StandsFor}
use Rattle.cloud_areas.specs.Peers.{StandsForSome, ImagesNow, ImagesSince, MayBecome}

-- ---- the lists that a peer may settle as

abbrev lists_of : List Command → Option Command → List (List Command)
lists_of list None = list ∷ []
lists_of list (Some command) = list ∷ (list ++ command ∷ []) ∷ []

among : (list other : List Command) (pending : Option Command) → (other ≡ list) ⊎ IsSomeAnd pending (λ command. other ≡ list ++ command ∷ [])
    → Contains (lists_of list pending) other
among list other None may =
    elim may [
      | inl same ↦ subst (λ (l : List Command). Contains (list ∷ []) l) (sym same) (contains_here list [])
      | inr more ↦ absurd more
    ]
among list other (Some command) may =
    let all = list ∷ (list ++ command ∷ []) ∷ [] in
    elim may [
      | inl same ↦ subst (λ (l : List Command). Contains all l) (sym same) (contains_here list ((list ++ command ∷ []) ∷ []))
      | inr more ↦ subst (λ (l : List Command). Contains all l) (sym more) (contains_later list ((list ++ command ∷ []) ∷ []) (list ++ command ∷ []) (contains_here (list ++ command ∷ []) []))
    ]

from_among : (list other : List Command) (pending : Option Command) → Contains (lists_of list pending) other
    → (other ≡ list) ⊎ IsSomeAnd pending (λ command. other ≡ list ++ command ∷ [])
from_among list other None there =
    elim (contains_cases list [] other there) [
      | inl same ↦ inl (sym same)
      | inr later ↦ absurd (contains_nothing other later)
    ]
from_among list other (Some command) there =
    elim (contains_cases list ((list ++ command ∷ []) ∷ []) other there) [
      | inl same ↦ inl (sym same)
      | inr later ↦ elim (contains_cases (list ++ command ∷ []) [] other later) [
        | inl same ↦ inr (sym same)
        | inr never ↦ absurd (contains_nothing other never)
      ]
    ]

-- ---- images

pub kept : (header : Header) (old new : Cloud) (p : Peer) (list : List Command) → MaySettleAs p list
    → LeavesOnly old new (λ image. StandsFor image header list) → ImagesSince old new header (MaySettleAs p)
kept header old new p list may run = weaker old new _ _ run (λ image stands. (list, may, stands))

pub added : (serve : List Command → Request → Outcome) (header : Header) (old new : Cloud) (p : Peer) (request : Request) (list : List Command) (command : Command)
    → MaySettleAs p list → (serve list request).adds ≡ Some command
    → LeavesOnly old new (λ image. StandsFor image header list ⊎ StandsFor image header (list ++ command ∷ []))
    → ImagesSince old new header (MayBecome serve p request)
added serve header old new p request list command may adds run =
    weaker old new _ _ run (λ image either. elim either [
      | inl stands ↦ (list, inl may, stands)
      | inr stands ↦ (list ++ command ∷ [], inr (list, command, may, adds, refl), stands)
    ])

pub listed : (header : Header) (old new : Cloud) (p : Peer) → ImagesNow old header (MaySettleAs p)
    → ((lists : List (List Command)) → ((image : Image) → IsImage old.now image → StandsForSome header (Contains lists) image)
    → LeavesOnly old new (StandsForSome header (Contains lists)))
    → ImagesSince old new header (MaySettleAs p)
listed header old new p images keeps =
    let lists = lists_of p.list p.pending in
    weaker old new _ _ (keeps lists (λ image is. let s = images image is in (s.0, among p.list s.0 p.pending s.1, s.2)))
    (λ image s. (s.0, from_among p.list s.0 p.pending s.1, s.2))

-- ---- areas that a crash leaves as they read

left_alike : (now : Areas) (image : Image) (area : Area) → now area ≡ stable (now area).read → MayLeave (now area) (image area) → image area ≡ reads now area
left_alike now image area synced may = only (now area).read (image area) (subst (λ (s : Store). MayLeave s (image area)) synced may)

pub alike : (header : Header) (cloud : Cloud) (image : Image) (list : List Command) → ((area : Area) → cloud.now area ≡ stable (cloud.now area).read)
    → IsImage cloud.now image → StandsFor image header list ↔ StandsFor (reads cloud.now) header list
alike header cloud image list synced is =
    let same : image ≡ reads cloud.now = λ i area. left_alike cloud.now image area (synced area) (is area) i in
    (subst (λ (im : Image). StandsFor im header list) same, subst (λ (im : Image). StandsFor im header list) (sym same))
