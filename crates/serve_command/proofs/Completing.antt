-- Where nothing fails, all connections are served or memory runs out: each other status has a cause that isn't there.
use Rattle.std.proofs.Common.{◌≡◌, ◌⊎◌, ⊎_elim, inl, inr, ℕ, ◌-◌, ◌^◌, ◌≤◌, min, List, [], refl, sym, ◌∙◌, ap, subst, arith}
use Rattle.share_server.specs.CdEdges.Causes.{Rose}
use Rattle.share_server.specs.CdEdges.area.Area.TheVariants.{Journal}
use Rattle.share_server.specs.CdEdges.Disk.{Image, reads}
use Rattle.share_server.specs.CdEdges.Shelf.{HasFailed, KeepsCounts}
use Rattle.share_server.specs.CommitJournal.errors.OpenErr.{OpenErr}
use Rattle.share_server.specs.CommitJournal.errors.OpenErr.TheVariants as errors
use Rattle.share_server.specs.CommitJournal.Openings.{OnFault}
use Rattle.share_server.specs.JournalStart.rooms.UserRooms.{UserRooms}
use Rattle.share_server.specs.JournalStart.start.Header.{Header}
use Rattle.share_server.specs.JournalStart.start.Start.{Start}
use Rattle.share_server.specs.JournalHalves.Beginnings.{IsUnbegun}
use Rattle.share_server.specs.JournalHalves.Findings.{IsFoundDamage}
use Rattle.share_server.specs.JournalHalves.Halves.{IsCurrent}
use Rattle.share_server.specs.CloudOpening.Spared.{IsOkOrFault}
use Rattle.share_server.proofs.CloudOpening.OneStart.{current_whole, unbegun_whole}
use Rattle.share_server.specs.UserDedup.command.Command.{Command}
use Rattle.share_server.specs.UserDedup.Spending.{IsWithin}
use Rattle.share_server.proofs.UserDedup.Spending.{none_within}
use Rattle.share_server.proofs.CommitJournal.Opening.{not_unbegun}
use Rattle.share_server.proofs.Openings.{NoneStands}
use Rattle.share_server.specs.CloudAreas.Standing.{StandsFor}
use Rattle.share_server.specs.Serving.{an_error}
use Rattle.serve_command.specs.Serving.{RepliesOne}
use Rattle.serve_command.specs.Complete.{IsStill, HasListWithinRooms, IsStoreUnbegun, IsServeUnhindered}
use Rattle.serve_command.specs.Served.{ServeCall, old_cloud, own_header, IsOpeningRefused, HasJournalRooms, IsUnreadable, IsUnfound, IsUnopenedToServe, IsOpenedToServe, HasServingEnded, IsServed}
use Rattle.serve_command.specs.Served.{IsUnopenedOrServed}
use Rattle.serve_command.proofs.Running.{run_later}

pub not_risen : (before now : ℕ) → IsStill before now → Rose before now → ⊥
not_risen before now still rose = omega (arith, still.0, still.1, rose)

-- nor did it rise in between
not_risen_since : (before after now : ℕ) → IsStill before now → min before (2 ^ 64 - 1) ≤ after → Rose after now → ⊥
not_risen_since before after now still later rose = omega (arith, still.0, still.1, later, rose)

-- ---- the list that is served

-- areas that stand for a list by a header have it in the start of their current half
abbrev pub OneHeader : Type 0
OneHeader = (image : Image) (header : Header) (list : List Command) (half : ℕ) (start : Start) → StandsFor image header list
    → ¬ IsUnbegun (image Journal) → IsCurrent (image Journal) half start → start.header ≡ header

-- The areas stand for a list within these rooms.
abbrev HasIn : ServeCall → UserRooms → Type 0
HasIn call rooms = (list : List Command) × StandsFor (reads (old_cloud call).now) (own_header rooms call) list
    × IsWithin call.shape rooms list

-- the starts of areas that stand for a list aren't damaged
not_damaged : (image : Image) (header : Header) (list : List Command) (at byte : ℕ) → StandsFor image header list
    → IsFoundDamage (image Journal) at byte → ⊥
unfolding StandsFor
not_damaged image header list at byte stands damage = elim stands.1 [
  | inl has ↦ current_whole (image Journal) has.chain_of.half has.chain_of.start has.is_chain.there.current at byte damage
  | inr none ↦ unbegun_whole (image Journal) at byte none.0 damage
]

module _ (none : NoneStands) (one : OneHeader) where
  has_in : (call : ServeCall) (rooms : UserRooms) → HasListWithinRooms call ⊎ IsStoreUnbegun call → HasJournalRooms ((old_cloud call).now Journal).read rooms
      → HasIn call rooms
  has_in call rooms holds (inl unbegun) = (
    [],
    none (reads (old_cloud call).now) (own_header rooms call) unbegun.0,
    none_within call.shape rooms,
  )
  has_in call rooms (inr new) (inr found) =
      absurd (not_unbegun ((old_cloud call).now Journal).read found.0 found.1 found.2 new)
  has_in call rooms (inl has) (inr found) =
      let header_is : found.1.header ≡ own_header has.0 call = one (reads (old_cloud call).now) (own_header has.0 call) has.1
      found.0 found.1 has.2 (not_unbegun ((old_cloud call).now Journal).read found.0 found.1 found.2) found.2 in
      let rooms_are : has.0 ≡ rooms = sym (found.3 ∙ ap (λ (h : Header). h.rooms) header_is) in
      subst (λ (r : UserRooms). HasIn call r) rooms_are (has.1, has.2, has.3)

  -- ---- no other status

  not_unread : (call : ServeCall) (error : OpenErr) → IsUnreadable (old_cloud call) error → OnFault (an_error error)
      (HasFailed (old_cloud call) (call.new call.cloud.0) call.total_before call.total_after)
      (KeepsCounts (old_cloud call) (call.new call.cloud.0) call.total_before call.total_after)
      → IsServeUnhindered call → ⊥
  not_unread call errors.Fault unreadable counts well = not_risen _ _ well.cloud counts.cloud
  not_unread call (errors.NotBegun len) unreadable counts well = unreadable
  not_unread call (errors.OtherStore found asked at) unreadable counts well = unreadable
  not_unread call (errors.Damaged at byte) unreadable counts well = elim well.holds [
    | inl has ↦ not_damaged (reads (old_cloud call).now) (own_header has.0 call) has.1 at byte has.2 (unreadable well.told)
    | inr new ↦ unbegun_whole ((old_cloud call).now Journal).read at byte new (unreadable well.told)
  ]

  not_refused : (call : ServeCall) (rooms : UserRooms) (error : OpenErr) → IsOpeningRefused rooms call error → IsOkOrFault (an_error error)
      → IsStill (old_cloud call).faults (call.new call.cloud.0).faults → ⊥
  not_refused call rooms errors.Fault refuses may still = not_risen _ _ still refuses.counts.cloud
  not_refused call rooms (errors.NotBegun len) refuses may still = may
  not_refused call rooms (errors.Damaged at byte) refuses may still = may
  not_refused call rooms (errors.OtherStore found asked at) refuses may still = may

  ends_well : (rooms : UserRooms) (status : ℕ) (call : ServeCall) (is : IsOpenedToServe rooms status call) → IsServeUnhindered call
      → HasServingEnded status call.address call.count call.out is.all is.after call.ports_after → (status ≡ 0) ⊎ (status ≡ 6)
  ends_well rooms status call is well (inl done) = inl done.status_is
  ends_well rooms status call is well (inr (inl stopped)) =
      ⊎_elim (λ cut. absurd (not_risen _ _ well.sink cut.sink)) (λ left. inr left.status_is) stopped.ends
  ends_well rooms status call is well (inr (inr refused)) =
      absurd (not_risen_since _ is.after _ well.ports
      (run_later RepliesOne _ _ is.opened is.last call.ports_before is.after is.all is.replied) refused.ports)

  in_rooms_well : (rooms : UserRooms) (status : ℕ) (call : ServeCall) → HasIn call rooms → IsUnopenedOrServed rooms status call
      → IsServeUnhindered call → (status ≡ 0) ⊎ (status ≡ 6)
  in_rooms_well rooms status call has (inl is) well = absurd (not_refused call rooms is.error is.refuses
      (is.refuses.whole well.told has.0 has.1 has.2) well.cloud)
  in_rooms_well rooms status call has (inr opened) well = ends_well rooms status call opened well opened.ends

  pub completes : (status : ℕ) (call : ServeCall) → IsServed status call → IsServeUnhindered call → (status ≡ 0) ⊎ (status ≡ 6)
  completes status call (inl unmade) well = inr unmade.status_is
  completes status call (inr (inl unfound)) well =
      absurd (not_unread call unfound.error unfound.unreadable unfound.counts well)
  completes status call (inr (inr within)) well =
      in_rooms_well within.rooms status call (has_in call within.rooms well.holds (within.found well.told)) within.served well
