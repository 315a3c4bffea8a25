-- What is promised of a session behind its openings.
use Rattle.std.proofs.Common.{◌≡◌, ℕ, ◌<◌, ◌≤◌, true, false, List, sym, ap, ◌∙◌, inl, inr, eqb, eq-eqb}
use Rattle.std.specs.Prelude.{Option, IsTrue}
use Rattle.std.proofs.lemmas.Bool.{cases_lt}
use Rattle.share_server.specs.CdEdges.Disk.{Cloud, IsImage, reads}
use Rattle.share_server.proofs.CdEdges.Moments.{each_since}
use Rattle.share_server.specs.UserDedup.Exec.{Peer}
use Rattle.script_lines.specs.SessionModel.Vault.{Setting, Vault}
use Rattle.script_lines.specs.SessionModel.Run.{Answered}
use Rattle.script_lines.specs.SessionModel.Headline.{Session, Begun, IsRun, GivesAcknowledged, GivesFromMore, DisksKeep, AnswersPrivately}
use Rattle.script_lines.proofs.SessionModel.Armings.{only_arms}
use Rattle.script_lines.proofs.SessionModel.Faults.{faults_rose}
use Rattle.two_worlds.proofs.Two.{two_worlds}
use Rattle.replay_core.specs.Replayed.{ArmsByLines, Replayed}
use Rattle.replay_core.specs.Going.{ReplayStart}
use Rattle.replay_core.proofs.Sessions.{Holds, answered}

-- ---- what follows of every run

abbrev pub Given : Type 0
Given = (clouds : ℕ → Cloud) (run : Session) → IsRun clouds run → GivesAcknowledged run

abbrev pub More : Type 0
More = (clouds : ℕ → Cloud) (run : Session) → IsRun clouds run → GivesFromMore run

abbrev pub Kept : Type 0
Kept = (clouds new : ℕ → Cloud) (run : Session) → IsRun clouds run → DisksKeep run new

abbrev pub Private : Type 0
Private = (clouds : ℕ → Cloud) (run : Session) → IsRun clouds run → AnswersPrivately run

pub record Laws : Type 0 where
  pub given : Given
  pub more : More
  pub kept : Kept
  pub private : Private

-- ---- the session behind the openings

abbrev pub session_of : Setting → List Answered → Vault → Option Begun → (ℕ → Peer) → Session
session_of s history at begun last =
    record { setting = s; opened = true; history = history; between = at; begun = begun; last = last }

never : {A : Type 0} → true ≡ false → A
never e = absurd (let f : true ≡ false = e in cc)

-- only an arm line arms
pub arms_by : (old new : ℕ → Cloud) (run : Session) → IsRun old run → ((cloud : ℕ) → cloud < run.setting.shape.n → (run.last cloud).armings ≡ (new cloud).armings)
    → ((cloud : ℕ) → run.setting.shape.n ≤ cloud → new cloud ≡ old cloud) → ArmsByLines old new run
arms_by old new run is here others cloud none = elim (cases_lt cloud run.setting.shape.n) [
  | inl lt ↦ sym (here cloud lt) ∙ only_arms old run cloud is none
  | inr le ↦ ap (λ (c : Cloud). c.armings) (others cloud le)
]

pub replayed : Laws → (status : ℕ) (start : ReplayStart) (s : Setting) (new : ℕ → Cloud) (history : List Answered) (at : Vault) (begun : Option Begun) (last : ℕ → Peer)
    → Holds start s new history at begun last
    → (status ≡ 0 → (cloud : ℕ) → cloud < s.shape.n → (last cloud).faults ≡ (new cloud).faults)
    → ((cloud : ℕ) → IsTrue (new cloud).told → IsImage (new cloud).now (reads (new cloud).now))
    → ((cloud : ℕ) → (new cloud).told ≡ (start.old cloud).told)
    → Replayed status start.old new (session_of s history at begun last)
replayed laws status start s new history at begun last h same image told = record {
  told_so = h.told;
  carried = run;
  counts = λ cloud lt. record { faults = h.faults cloud lt; armings = h.armings cloud lt; same = λ e. same e cloud lt };
  arms = arms_by start.old new (session_of s history at begun last) run h.armings h.others;
  others = h.others;
  given = laws.given start.old (session_of s history at begun last) run;
  more = laws.more start.old (session_of s history at begun last) run;
  kept = laws.kept start.old new (session_of s history at begun last) run;
  disks = λ empty cloud lt t. record {
    now = h.now cloud lt t;
    each = each_since (start.old cloud) (new cloud) _ (h.images empty cloud lt t);
  };
  reads_so = λ e cloud lt t. h.now cloud lt (h.told cloud ∙ t) (reads (new cloud).now) (image cloud (told cloud ∙ t));
  private = laws.private start.old (session_of s history at begun last) run;
  faults = faults_rose start.old (session_of s history at begun last) run;
  worlds = two_worlds start.old (session_of s history at begun last);
}
  where
    run : IsRun start.old (session_of s history at begun last)
    run = record { unopened = λ e. never e; lines = h.are_lines; answered = h.turns; begun = h.begun_is }

-- two numbers that are apart aren't the same
pub apart : {A : Type 0} (a b : ℕ) → eqb a b ≡ false → a ≡ b → A
apart a b differ same = never (sym (eq-eqb a b same) ∙ differ)
