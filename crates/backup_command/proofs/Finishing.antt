-- What became of a file, by what became of it at the clouds that were greeted.
use Rattle.std.proofs.Common.{◌≡◌, inl, inr, ℕ, Bool, List, [], length, Ok, Err, IsTrue, sym, ◌∙◌, ap, subst}
use Rattle.std.specs.List.{Contains}
use Rattle.std.specs.Prelude.{Result}
use Rattle.transcript.specs.CdBase.ids.UserId.{UserId}
use Rattle.transcript.specs.CdBase.ids.Version.{Version}
use Rattle.transcript.specs.CdBase.shape.Shape.{Shape}
use Rattle.transcript.specs.CdEdges.Causes.{Rose}
use Rattle.transcript.specs.CdEdges.Ports.{Telling}
use Rattle.ports_link.specs.declared.judging.AskedClouds.TheVariants.{Backup}
use Rattle.ports_link.specs.declared.greeting.Greeted.{Greeted}
use Rattle.ports_link.specs.Dialled.{AreDialled}
use Rattle.ports_link.specs.Hellos.{HaveTalks}
use Rattle.ports_link.specs.Meeting.{MeetsAll}
use Rattle.ports_link.proofs.Chains.{are_dialled}
use Rattle.ports_link.proofs.CloudLists.{through}
use Rattle.ports_link.proofs.Opening.{next_apart}
use Rattle.backup_command.specs.declared.carrying.BackupErr.{BackupErr}
use Rattle.backup_command.specs.declared.carrying.BackupErr.TheVariants as errors
use Rattle.backup_command.specs.Lanes.{numbered}
use Rattle.lane_steps.specs.UploadJob.Lanes.{LaneView, lanes_begun}
use Rattle.backup_command.specs.BackedUp.{BackupCall, Met, version_of}
use Rattle.backup_command.specs.Steps.{AreGreetedOn, BringsFile, Carries, IsCarryLost, IsNumbered}
use Rattle.backup_command.specs.Reading.{Input, IsFileRead}
use Rattle.backup_command.specs.Sends.{IsAskOn, SendsOn, SendsOwn, HasSentOwn}
use Rattle.backup_command.proofs.Ordering.{numbered_by, long_numbered}

-- the lanes of the version that a call is about
pub at_call : (call : BackupCall) (user : UserId) (path : List ℕ) (version : Version) (file : List ℕ) (shape : Shape)
    → call.user ≡ user → call.path ≡ path → call.version ≡ version → (P : List LaneView → Type 0)
    → P (lanes_begun shape (record { user = user; path = path; number = version; file = file }))
    → P (lanes_begun shape (version_of call file))
at_call call user path version file shape u p v P has =
    subst (λ (x : UserId). P (lanes_begun shape
    (record { user = x; path = call.path; number = call.version; file = file }))) (sym u)
    (subst (λ (x : List ℕ). P (lanes_begun shape
    (record { user = user; path = x; number = call.version; file = file }))) (sym p)
    (subst (λ (x : Version). P (lanes_begun shape
    (record { user = user; path = path; number = x; file = file }))) (sym v) has))

-- the requests of the lanes of that version
pub sent_at_call : (call : BackupCall) (user : UserId) (path : List ℕ) (version : Version) (file : List ℕ) (shape : Shape)
    (dialled : List ℕ) (job : List LaneView) (old new : Telling) → call.user ≡ user → call.path ≡ path → call.version ≡ version
    → job ≡ lanes_begun shape (record { user = user; path = path; number = version; file = file })
    → SendsOn (IsAskOn (numbered 0 dialled) job) old new
    → SendsOn (IsAskOn (numbered 0 dialled) (lanes_begun shape (version_of call file))) old new
sent_at_call call user path version file shape dialled job old new u p v begun sends =
    at_call call user path version file shape u p v (λ views. SendsOn (IsAskOn (numbered 0 dialled) views) old new)
    (subst (λ (views : List LaneView). SendsOn (IsAskOn (numbered 0 dialled) views) old new) begun sends)

-- of the file that was read
pub sent_of_file : (call : BackupCall) (input : Input) (file : List ℕ) → IsFileRead input file → SendsOwn call file → HasSentOwn call input
sent_of_file call input file reads (inl hellos) = inl hellos
sent_of_file call input file reads (inr lanes) = inr (file, reads, lanes)

pub carried : (call : BackupCall) (file : List ℕ) (dialled : List ℕ) (shape : Shape) (behind : Telling)
    (result : Result Bool BackupErr) (text : List ℕ) → Met call dialled shape behind
    → BringsFile call file shape behind dialled result text
    → (IsCarryLost result → Rose call.faults_before call.faults_after)
    → (IsTrue behind.told → (port : ℕ) → ¬ (Contains dialled port) → call.after.port port ≡ behind.port port)
    → Carries call file result text
carried call file dialled shape behind (Ok stored) text met brings rose others = (
  brings.0,
  brings.1,
  record { dialled = dialled; shape = shape; behind = behind; met = met; lanes = brings.2; others = others },
  brings.3,
  brings.4,
)
carried call file dialled shape behind (Err errors.Lost) text met brings rose others = (
  record {
    steps = brings.0;
    after = brings.1;
    came = record { dialled = dialled; shape = shape; behind = behind; met = met; lanes = brings.2; others = others };
    text_is = brings.3;
  },
  rose tt,
)
carried call file dialled shape behind (Err errors.NoMemory) text met brings rose others = tt
carried call file dialled shape behind (Err errors.Undialled) text met brings rose others = absurd brings
carried call file dialled shape behind (Err errors.Unheard) text met brings rose others = absurd brings
carried call file dialled shape behind (Err (errors.Refused why)) text met brings rose others = absurd brings

module _ (count : ℕ) (old behind : Telling) (greeted : Greeted)
    (meets : MeetsAll Backup count old behind (Ok greeted)) where
  lines_are : greeted.lines.items ≡ numbered 0 meets.0
  lines_are =
      let w = through Backup count old behind meets.0 meets.1 meets.2 in
      meets.3.lines ∙ numbered_by (length meets.0) [] meets.1 meets.0 w.as_asked w.long

  pub all_are : length meets.0 ≡ greeted.shape.n
  all_are = sym (long_numbered 0 meets.0) ∙ sym (ap length lines_are) ∙ meets.3.clouds.0

  pub are_numbered : IsNumbered greeted
  are_numbered = (meets.0, lines_are, all_are)

  pub only_dialled : IsTrue old.told → AreDialled old behind meets.0
  only_dialled = are_dialled Backup count [] old behind meets.0 (Ok meets.1) meets.2

  pub greeted_on : behind.told ≡ old.told → (IsTrue old.told → HaveTalks behind greeted.lines.items)
      → AreGreetedOn behind meets.0 greeted.lines.items
  greeted_on told talks = record {
    lines_are = lines_are;
    apart = λ t. next_apart old.opened meets.0 (only_dialled (subst IsTrue told t)).next;
    talks = λ t. talks (subst IsTrue told t);
  }

pub have_met : (call : BackupCall) (behind : Telling) (greeted : Greeted)
    (meets : MeetsAll Backup call.addresses call.before behind (Ok greeted)) → behind.told ≡ call.before.told
    → Met call meets.0 greeted.shape behind
have_met call behind greeted meets told = record {
  many = (through Backup call.addresses call.before behind meets.0 meets.1 meets.2).many;
  greetings = meets.1;
  meets = meets.2;
  shape_is = meets.3.shape;
  all = all_are call.addresses call.before behind greeted meets;
  told = told;
}
