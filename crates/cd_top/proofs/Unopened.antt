-- A session whose clouds were never opened, since the place of the clouds couldn't be made or found.
use Rattle.std.proofs.Common.{◌≡◌, ℕ, true, false, List, [], ◌∷◌, ◌++◌, Option, Some, None, Result, Ok, Err, inl, inr, refl, sym, ap, ◌∙◌, subst, subst₂, append-nil, arith}
use Rattle.std.specs.Prelude.{IfSome}
use Rattle.std.specs.Io.KnownBytes.{Appends}
use Rattle.command_words.specs.JournalStart.Ranges.{usual_rooms}
use Rattle.command_words.specs.JournalStart.rooms.UserRooms.{UserRooms}
use Rattle.command_words.specs.CdBase.shape.Shape.{Shape}
use Rattle.delete_command.specs.CdEdges.Causes.{Rose}
use Rattle.delete_command.specs.CdEdges.Disk.{Cloud, Image, IsImage}
use Rattle.delete_command.specs.CdEdges.Shelf.{Stays}
use Rattle.delete_command.proofs.CdEdges.Moments.{left_alone, each_since}
use Rattle.migrate_command.specs.ServeCommand.CloudAreas.Peers.{StandsForSome}
use Rattle.migrate_command.proofs.ServeCommand.ShareServer.NoCommands.{empty_stands}
use Rattle.read_command.specs.LocalLink.Calls.{header_of}
use Rattle.two_worlds.specs.Session.Fault.{Fault}
use Rattle.two_worlds.specs.Session.Lines.{next_line}
use Rattle.two_worlds.specs.Session.Reading.{header_at}
use Rattle.two_worlds.specs.Session.Scripts.{ScriptPlace, Begins}
use Rattle.generated_session.specs.SessionModel.Vault.{Setting, opening}
use Rattle.generated_session.specs.SessionModel.Run.{Answered}
use Rattle.generated_session.specs.SessionModel.Headline.{Session, IsRun, DisksStand}
use Rattle.script_replay.specs.Endings.{ReplayCall, NoEnding, HasStatusCause}
use Rattle.generated_session.specs.ReplayCore.Replayed.{Replayed, BeginsEmpty}
use Rattle.two_worlds.proofs.Two.{two_worlds}
use Rattle.cd_top.specs.Replay.{IsReplayed}

-- ---- the setting that a script's first line says, and any setting where there is none

abbrev some_shape : Shape
some_shape = record { n = 4; k = 3; several = omega arith; spare = omega arith; few = omega arith }

abbrev said : Result (Shape × UserRooms) Fault → Shape × UserRooms
said (Ok header) = header
said (Err fault) = (some_shape, usual_rooms)

abbrev said_by : Result (Option (List ℕ)) Fault → Shape × UserRooms
said_by (Ok (Some line)) = said (header_at line)
said_by (Ok None) = (some_shape, usual_rooms)
said_by (Err fault) = (some_shape, usual_rooms)

abbrev head_of : Option (List ℕ) → Shape × UserRooms
head_of None = (some_shape, usual_rooms)
head_of (Some script) = said_by (next_line 0 script)

head_is : (script : List ℕ) (shape : Shape) (rooms : UserRooms) (place : ScriptPlace) → Begins script shape rooms place → head_of (Some script) ≡ (shape, rooms)
head_is script shape rooms place begins = ap said_by begins.here ∙ ap said begins.says

says_header : (script : Option (List ℕ)) → IfSome script (λ bytes. (shape : Shape) (rooms : UserRooms) (place : ScriptPlace) → Begins bytes shape rooms place → ((head_of script).0 ≡ shape) × ((head_of script).1 ≡ rooms))
says_header None = tt
says_header (Some bytes) = λ shape rooms place begins. let e = head_is bytes shape rooms place begins in (ap (λ (h : Shape × UserRooms). h.0) e, ap (λ (h : Shape × UserRooms). h.1) e)

-- ---- the session

abbrev setting_of : ReplayCall → Setting
setting_of call = record { shape = (head_of call.script).0; rooms = (head_of call.script).1; told = λ cloud. (call.old cloud).told }

abbrev session_of : ReplayCall → Session
session_of call = record {
  setting = setting_of call;
  opened = false;
  history = [];
  between = opening call.old;
  begun = None;
  last = (opening call.old).peers;
}

no_line : {A : Type 0} (earlier later : List Answered) (a : Answered) → [] ≡ earlier ++ a ∷ later → A
no_line [] later a e = absurd (let f : [] ≡ a ∷ later = e in cc)
no_line (b ∷ earlier) later a e = absurd (let f : [] ≡ b ∷ (earlier ++ a ∷ later) = e in cc)

module _ (call : ReplayCall) (same : (cloud : ℕ) → call.new cloud ≡ call.old cloud) where
  abbrev run : Session
  run = session_of call

  carried : IsRun call.old run
  carried = record { unopened = λ e. (refl, refl); lines = tt; answered = refl; begun = refl }

  disks : BeginsEmpty call.old → DisksStand run call.old call.new
  disks empty cloud lt told =
      let here : (image : Image) → IsImage (call.old cloud).now image → StandsForSome (header_of run.setting.shape run.setting.rooms cloud) (λ list. list ≡ []) image =
      λ image now. ([], refl, empty_stands image (header_of run.setting.shape run.setting.rooms cloud) (λ area. empty cloud image area told now)) in record {
        now = λ image now. ([], inl refl, empty_stands image (header_of run.setting.shape run.setting.rooms cloud) (λ area. empty cloud image area told (subst (λ (c : Cloud). IsImage c.now image) (same cloud) now)));
        each = λ image since.
            let some = each_since (call.old cloud) (call.new cloud) (StandsForSome (header_of run.setting.shape run.setting.rooms cloud) (λ list. list ≡ []))
            (left_alone (call.old cloud) (call.new cloud) _ (same cloud) here) image since in
            (some.0, inl (inl some.1), some.2);
      }

  replayed : Replayed 5 call.old call.new run
  replayed = record {
    told_so = λ cloud. refl;
    carried = carried;
    counts = λ cloud lt. record {
      faults = let e : (call.new cloud).faults ≡ (call.old cloud).faults = ap (λ (c : Cloud). c.faults) (same cloud) in omega (arith, e);
      armings = sym (ap (λ (c : Cloud). c.armings) (same cloud));
      same = λ zero. absurd (omega (arith, zero));
    };
    arms = λ cloud none. ap (λ (c : Cloud). c.armings) (same cloud);
    others = λ cloud le. same cloud;
    given = λ earlier later a clouds v history get kept clashes. no_line earlier later a history;
    more = λ earlier later a clouds v history get each clashes. no_line earlier later a history;
    kept = λ cloud v image list lt kept clashes now settles stands. absurd kept.kept;
    disks = disks;
    reads_so = λ zero. absurd (omega (arith, zero));
    private = λ m contains. absurd (omega (arith, contains.1));
    faults = λ a line cloud among. absurd (omega (arith, among.1));
    worlds = two_worlds call.old run;
  }

  cause : Rose call.total_before call.total_after → call.sink_after ≡ call.sink_before → HasStatusCause 5 call run NoEnding
  cause rose still = record {
    known = (omega arith, λ e. omega (arith, e));
    header = says_header call.script;
    read = λ opened. absurd (let e : false ≡ true = opened in cc);
    began = λ opened. absurd (let e : false ≡ true = opened in cc);
    spared = inr (λ cloud. subst (Stays (call.old cloud)) (sym (same cloud)) (record { armed = refl; past = refl; now = refl }));
    due = tt;
    done = λ e. absurd (omega (arith, e));
    wrong = λ e. absurd (omega (arith, e));
    source = λ e. absurd (omega (arith, e));
    sink = λ e. absurd (omega (arith, e));
    sink_still = λ other more. still;
    shelf = λ e. inr (refl, refl, rose, same);
    store = λ e. absurd (omega (arith, e));
  }

pub rootless : (call : ReplayCall) (before : Option (List ℕ)) → ((cloud : ℕ) → call.new cloud ≡ call.old cloud) → Rose call.total_before call.total_after → call.sink_after ≡ call.sink_before → IsReplayed 5 call before before
rootless call before same rose still = record {
  run = session_of call;
  line = NoEnding;
  replayed = replayed call same;
  text = record { text = []; more = []; front = refl; whole = λ is. refl; written = nothing before };
  cause = cause call same rose still;
}
  where
    nothing : (o : Option (List ℕ)) → Appends o o []
    nothing None = tt
    nothing (Some xs) = sym (append-nil xs)

-- the naming of the place changed no cloud and no count
pub from_root : (status : ℕ) (middle old : ℕ → Cloud) (count total : ℕ) (script left : Option (List ℕ)) (source_before source_after sink_before sink_after total_after : ℕ) (new : ℕ → Cloud)
    (before after : Option (List ℕ)) → ((cloud : ℕ) → middle cloud ≡ old cloud) → count ≡ total
    → IsReplayed status (record {
      script = script;
      left = left;
      source_before = source_before;
      source_after = source_after;
      sink_before = sink_before;
      sink_after = sink_after;
      total_before = count;
      total_after = total_after;
      old = middle;
      new = new;
    }) before after
    → IsReplayed status (record {
      script = script;
      left = left;
      source_before = source_before;
      source_after = source_after;
      sink_before = sink_before;
      sink_after = sink_after;
      total_before = total;
      total_after = total_after;
      old = old;
      new = new;
    }) before after
from_root status middle old count total script left source_before source_after sink_before sink_after total_after new before after same still replayed =
    subst₂ (λ (o : ℕ → Cloud) (n : ℕ). IsReplayed status (record {
      script = script;
      left = left;
      source_before = source_before;
      source_after = source_after;
      sink_before = sink_before;
      sink_after = sink_after;
      total_before = n;
      total_after = total_after;
      old = o;
      new = new;
    }) before after) (λ i cloud. same cloud i) still replayed
