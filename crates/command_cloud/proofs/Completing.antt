-- Where nothing fails, the cloud is opened unless memory runs out, and what is due is written: each other way has a cause that isn't there.
use Rattle.std.proofs.Common.{◌≡◌, ◌⊎◌, inl, inr, ℕ, ◌-◌, ◌^◌, ◌+◌, ◌≤◌, List, Ok, ◌∙◌}
use Rattle.backup_command.specs.Writing.{Output, HasWrittenOrCause, InFull, InPart, NotAtAll}
use Rattle.backup_command.specs.CdEdges.area.Area.TheVariants.{Journal}
use Rattle.backup_command.specs.CdEdges.Disk.{Image, reads}
use Rattle.backup_command.specs.CdEdges.Shelf.{HasFailed, KeepsCounts}
use Rattle.cloud_opening.specs.CloudAreas.Standing.{StandsFor}
use Rattle.serve_command.specs.ShareServer.Serving.{an_error}
use Rattle.serve_command.specs.CloudOpening.Spared.{IsOkOrFault}
use Rattle.serve_command.proofs.CloudOpening.OneStart.{current_whole}
use Rattle.serve_command.proofs.Completing.{not_risen}
use Rattle.cloud_opening.specs.CommitJournal.errors.OpenErr.{OpenErr}
use Rattle.cloud_opening.specs.CommitJournal.errors.OpenErr.TheVariants as errors
use Rattle.cloud_opening.specs.CommitJournal.Openings.{OnFault}
use Rattle.cloud_opening.specs.JournalHalves.Beginnings.{IsUnbegun}
use Rattle.cloud_opening.specs.JournalHalves.Findings.{IsFoundDamage}
use Rattle.cloud_opening.specs.JournalStart.start.Header.{Header}
use Rattle.serve_command.specs.Complete.{IsStill}
use Rattle.cloud_opening.specs.UserDedup.command.Command.{Command}
use Rattle.command_cloud.specs.Opened.{CloudCall, IsNotOpened, NoRooms, InRooms, header_within}
use Rattle.command_cloud.specs.Unhindered.{IsOpeningUnhindered}

-- the starts of areas that stand for a list and are begun aren't damaged
not_damaged : (image : Image) (header : Header) (list : List Command) (at byte : ℕ) → StandsFor image header list
    → ¬ IsUnbegun (image Journal) → IsFoundDamage (image Journal) at byte → ⊥
unfolding StandsFor
not_damaged image header list at byte stands begun damage = elim stands.1 [
  | inl has ↦ current_whole (image Journal) has.chain_of.half has.chain_of.start has.is_chain.there.current at byte damage
  | inr none ↦ begun none.0
]

-- an opening that answers Ok or Fault answers no other error
not_other : (call : CloudCall) (error : OpenErr) → IsOkOrFault (an_error error)
    → OnFault (an_error error) (HasFailed call.old call.new call.total_before call.total_after)
    (KeepsCounts call.old call.new call.total_before call.total_after)
    → IsStill call.old.faults call.new.faults → ⊥
not_other call errors.Fault may counts still = not_risen call.old.faults call.new.faults still counts.cloud
not_other call (errors.NotBegun len) may counts still = may
not_other call (errors.Damaged at byte) may counts still = may
not_other call (errors.OtherStore found asked at) may counts still = may

module _ (call : CloudCall) (out : Output) (well : IsOpeningUnhindered call out) where
  pub opens : (error : OpenErr) → IsNotOpened call error → ⊥
  opens errors.Fault (NoRooms unreadable stays counts) =
      not_risen call.old.faults call.new.faults well.cloud counts.cloud
  opens (errors.NotBegun len) (NoRooms unreadable stays counts) = unreadable
  opens (errors.OtherStore found asked at) (NoRooms unreadable stays counts) = unreadable
  opens (errors.Damaged at byte) (NoRooms unreadable stays counts) = not_damaged (reads call.old.now) (header_within well.rooms call)
      well.list at byte well.stands.stands well.stands.begun (unreadable well.stands.told)
  opens error (InRooms rooms shut) =
      not_other call error (shut.whole well.rooms well.list well.stands) shut.counts well.cloud

  -- a text that is due with 0 or 6
  pub status_of : (text : List ℕ) (due status : ℕ) → (due ≡ 0) ⊎ (due ≡ 6) → HasWrittenOrCause text due out status → (status ≡ 0) ⊎ (status ≡ 6)
  status_of text due status (inl is) (InFull same appends still) = inl (same ∙ is)
  status_of text due status (inr is) (InFull same appends still) = inr (same ∙ is)
  status_of text due status is (InPart front rest same parts appends rose) =
      absurd (not_risen out.faults_before out.faults_after well.sink rose)
  status_of text due status is (NotAtAll same silent) = inr same
