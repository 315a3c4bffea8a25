-- The ways out of a record's checks.
use Rattle.std.proofs.Common.{◌≡◌, ℕ, Bool, List, Some, None, Ok, Err, sym, ◌∙◌, subst}
use Rattle.std.specs.Prelude.{Result, MatchResult}
use Rattle.message_fields.specs.CdBase.rooms.Room.{Room}
use Rattle.record_checks.specs.RecordBody.Spelling.{Body, Commit}
use Rattle.record_checks.specs.RecordBody.body.CommitBody.{CommitBody}
use Rattle.record_checks.specs.CloudMemory.Memory.{Memory}
use Rattle.record_checks.specs.declared.ground.Ground.{Ground}
use Rattle.record_checks.specs.Steps.{CommitFault, PlaceFails, TagFails}
use Rattle.first_records.specs.declared.errors.Fault.{Fault}
use Rattle.first_records.specs.declared.errors.Fault.TheVariants.{Passes}
use Rattle.first_records.specs.Limits.{if_past, crowded, overfull}
use Rattle.first_records.specs.Judging.{Faulty, Unplaced, Entered, Leaves, JudgesSaid, Overfull, Fits}
use Rattle.first_records.specs.Steps.{FirstJudgedAs}

module _ (g : Ground) (inside : Bool) (read : List ℕ) where
  -- its checks pass, and then comes its room by bytes
  pub ends : (old new left : Memory) (b : Body) (room : Room) (used : ℕ) (result : Result Unit Fault) → crowded old b ≡ None → Leaves g inside read old b left → new ≡ left
      → overfull b new ≡ if_past room used
      → MatchResult result (λ u. if_past room used ≡ None) (λ fault. (fault ≡ Passes room) × (if_past room used ≡ Some room))
      → FirstJudgedAs g inside read old b result new
  ends old new left b room used (Ok u) none leaves is over fits = Fits new none (subst (Leaves g inside read old b) (sym is) leaves) (over ∙ fits)
  ends old new left b room used (Err fault) none leaves is over past =
      subst (λ (f : Fault). JudgesSaid g inside read old b (Err f)) (sym past.0) (Overfull new room none (subst (Leaves g inside read old b) (sym is) leaves) (over ∙ past.1))

  -- a fault of a Commit's place or tag
  pub commit_faulty : (old : Memory) (c : CommitBody) (place : ℕ) → CommitFault g inside old c place → Faulty g inside read old (Commit c) place
  commit_faulty old c place (PlaceFails lies) = Unplaced c lies
  commit_faulty old c place (TagFails lies has) = Entered c lies has
