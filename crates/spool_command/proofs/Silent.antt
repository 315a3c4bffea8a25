-- Clouds that were greeted, of which nothing was asked.
use Rattle.std.proofs.Common.{◌≡◌, ℕ, ◌≤◌, List, [], ◌∷◌, drop, length, Err, IsTrue, refl, sym, ap, ◌∙◌, subst}
use Rattle.std.specs.Prelude.{All}
use Rattle.std.specs.List.{Contains}
use Rattle.std.proofs.lemmas.List.Elements.{All-nil, All-cons, All-head, All-tail}
use Rattle.backup_command.proofs.UserDedup.Owned.{contains_here, contains_later}
use Rattle.upload_spool.specs.CdBase.ids.CloudNo.{CloudNo}
use Rattle.upload_spool.specs.CdEdges.Ports.{Telling}
use Rattle.backup_command.specs.PortsLink.lines.CloudLine.{CloudLine}
use Rattle.backup_command.specs.PortsLink.greeting.Greeted.{Greeted}
use Rattle.backup_command.specs.PortsLink.Hellos.{HaveTalks, clouds_of, hello}
use Rattle.backup_command.specs.PortsLink.Lines.{line_of, lines_for}
use Rattle.backup_command.specs.PortsLink.Tells.{BringsReplies, HasAsked, HasComing, HasTalk}
use Rattle.upload_spool.specs.UploadJob.Lanes.{LaneView}
use Rattle.backup_command.specs.Said.{SaidOn, SaysNothing, greeted}
use Rattle.backup_command.specs.Lanes.{Tells, numbered}
use Rattle.backup_command.specs.Steps.{AreGreetedOn, IsNumbered}
use Rattle.backup_command.proofs.Ordering.{few_dialled, lines_reach, open_coming}
use Rattle.backup_command.proofs.PortsLinkLaws.CloudLists.{line_on}
use Rattle.backup_command.proofs.PortsLinkLaws.Talks.{some_same}
use Rattle.spool_command.specs.declared.interruption.Interruption.TheVariants.{Memory}
use Rattle.spool_command.specs.Noted.{LanesNoted, MemoryLacked}

abbrev Talked : Telling → List CloudLine → ℕ → Type 0
Talked behind lines cloud = (coming : List (List ℕ)) × HasTalk behind lines cloud (record { asked = hello ∷ []; coming = coming })

abbrev Silent : Telling → CloudNo × ℕ → Type 0
Silent behind line = Tells behind behind line.1 SaysNothing

one_silent : (behind : Telling) (lines : List CloudLine) (line : CloudNo × ℕ) → line_of lines line.0.0 ≡ line_on line.1 → Talked behind lines line.0.0 → SaidOn behind behind line.1 SaysNothing
one_silent behind lines line reach t =
    let same : t.1.port ≡ line.1 = some_same t.1.port line.1 (sym t.1.reached ∙ ap (λ (l : CloudLine). l.port) reach) in
    record {
      coming = t.0;
      brings = subst (λ (n : ℕ). BringsReplies (behind.port n).to_come t.0) same
          (open_coming (line_of lines line.0.0).ended (behind.port t.1.port).to_come t.0 (ap (λ (l : CloudLine). l.ended) reach) t.1.coming);
      after = greeted t.0;
      says = refl;
      sent = subst (λ (n : ℕ). HasAsked (behind.port n).sent (hello ∷ [])) same t.1.asked;
      ended = (line_of lines line.0.0).ended;
      left = subst (λ (n : ℕ). HasComing (line_of lines line.0.0).ended (behind.port n).to_come t.0) same t.1.coming;
    }

all_silent : (behind : Telling) (lines : List CloudLine) (part : List (CloudNo × ℕ)) → All (λ (line : CloudNo × ℕ). line_of lines line.0.0 ≡ line_on line.1) part
    → (IsTrue behind.told → (cloud : ℕ) → Contains (clouds_of part) cloud → Talked behind lines cloud) → All (Silent behind) part
all_silent behind lines [] reach talks = All-nil _
all_silent behind lines (line ∷ part) reach talks =
    let Is : CloudNo × ℕ → Type 0 = λ l. line_of lines l.0.0 ≡ line_on l.1 in
    All-cons (Silent behind) line part
    (λ told. one_silent behind lines line (All-head Is line part reach) (talks told line.0.0 (contains_here line.0.0 (clouds_of part))))
    (all_silent behind lines part (All-tail Is line part reach) (λ told cloud c. talks told cloud (contains_later line.0.0 (clouds_of part) cloud c)))

later_silent : (behind : Telling) (lines : List (CloudNo × ℕ)) → All (Silent behind) lines → All (Silent behind) (drop 1 lines)
later_silent behind [] all = All-nil _
later_silent behind (line ∷ lines) all = All-tail (Silent behind) line lines all

-- memory ran out in front of the lanes
pub lacked_lanes : (behind : Telling) (it : Greeted) (dialled : List ℕ) (views : List LaneView) (noted : List CloudNo) → IsNumbered it → AreGreetedOn behind dialled it.lines.items
    → LanesNoted behind behind it.lines.items views noted (Err Memory) [] views noted
lacked_lanes behind it dialled views noted n on =
    let few : length dialled ≤ 256 = few_dialled dialled n.0 it.shape.n (sym on.lines_are ∙ n.1) n.2 it.shape.few in
    MemoryLacked it.lines.items views views noted
    (later_silent behind it.lines.items
    (subst (All (Silent behind)) (sym on.lines_are)
    (all_silent behind (lines_for (numbered 0 dialled)) (numbered 0 dialled) (lines_reach dialled few) (λ told cloud c. (subst (HaveTalks behind) on.lines_are (on.talks told)) cloud c))))
