-- What a replay promises at each of its ends.
use Rattle.std.proofs.Common.{◌≡◌, ℕ, ◌+◌, ◌<◌, ◌≤◌, true, false, List, [], ◌∷◌, ◌++◌, length, refl, sym, ap, ◌∙◌, subst, inl, inr, ◌⊎◌, arith, append-nil, append_assoc}
use Rattle.std.specs.Prelude.{Option, Some, None, Ok, IfSome, IsTrue}
use Rattle.std.specs.Io.KnownBytes.{Appends}
use Rattle.share_server.specs.JournalStart.rooms.UserRooms.{UserRooms}
use Rattle.share_server.specs.CdBase.shape.Shape.{Shape}
use Rattle.share_server.specs.CdEdges.Causes.{Rose}
use Rattle.share_server.specs.CdEdges.Disk.{Cloud, IsImage, reads}
use Rattle.share_server.specs.UserDedup.Exec.{Peer}
use Rattle.two_worlds.specs.UploadJob.Lanes.{LaneView}
use Rattle.script_lines.specs.LocalLink.link.LocalLink.{LocalLink}
use Rattle.two_worlds.specs.Session.Fault.{Fault}
use Rattle.two_worlds.specs.Session.Lines.{ReaderState}
use Rattle.two_worlds.specs.Session.Reading.{header_at}
use Rattle.two_worlds.specs.Session.event.Event.{Event}
use Rattle.two_worlds.specs.Session.event.Event.TheVariants as kinds
use Rattle.two_worlds.specs.Session.Spelling.{FitsEvent}
use Rattle.two_worlds.specs.Transcript.line.Line.TheVariants as lines
use Rattle.two_worlds.specs.Transcript.Transcript.{line_text}
use Rattle.two_worlds.specs.Session.Scripts.{jobs_after, ScriptPlace, Begins, Reaches, IsEnd, IsWrong, IsWrongFirst}
use Rattle.two_worlds.specs.Session.Texts.{text_of}
use Rattle.script_lines.specs.SessionModel.Vault.{Setting, Vault}
use Rattle.script_lines.specs.SessionModel.Run.{Answered, script_of, answers_of}
use Rattle.script_lines.specs.SessionModel.Headline.{Session, Begun, due, event_of}
use Rattle.script_lines.specs.At.{KeepsOtherClouds}
use Rattle.replay_core.specs.declared.end.ReplayEnd.{ReplayEnd}
use Rattle.replay_core.specs.declared.end.ReplayEnd.TheVariants as ends
use Rattle.replay_core.specs.Opening.{AreEmptyBelow, AreSpared, IsThere}
use Rattle.script_replay.specs.Endings.{ReplayCall, HasReadSome, HasHeaderLine, IsDue, HasStatusCause, ending_of, call_of}
use Rattle.replay_core.specs.Replayed.{status_of}
use Rattle.script_replay.specs.Written.{HasReplayed, IsTextCut, IsPrinted}
use Rattle.replay_core.specs.Going.{ReplayStart, HasCome, SaysNext, CanBe, AppendsFront}
use Rattle.script_replay.specs.Answering.{EndsReading, EndsWriting, AnswersLine, EndsAnswering}
use Rattle.replay_core.proofs.Sessions.{map_told, Holds, Later, Here, Part, answered, holds_between, holds_cut, holds_answered, come_on, text_more, appends_on}
use Rattle.replay_core.proofs.Whole.{Laws, session_of, replayed, apart}

-- ---- causes

-- what an end owes beside its line
abbrev pub CausedBy : ReplayCall → Session → ReplayEnd → Type 0
CausedBy call run ends.SourceFault =
    (run.begun ≡ None) × Rose call.source_before call.source_after × (call.sink_after ≡ call.sink_before)
CausedBy call run ends.SinkFault = Rose call.sink_before call.sink_after
CausedBy call run ends.NoMemory = Unit {0}
CausedBy call run end = call.sink_after ≡ call.sink_before

pub cause_of : (end : ReplayEnd) (call : ReplayCall) (run : Session) → HasHeaderLine call run → (IsTrue run.opened → HasReadSome call run)
    → (IsTrue run.opened → AreEmptyBelow call.old run.setting.shape.n) → AreSpared run.setting.shape.n call.old call.new
    → IsDue call run (ending_of end) → CausedBy call run end → HasStatusCause (status_of end) call run (ending_of end)
cause_of (ends.Done events) call run header read began spared due by = record {
  known = (omega arith, λ e. apart 0 1 refl e);
  header = header;
  read = read;
  began = began;
  spared = spared;
  due = due;
  done = λ e. tt;
  wrong = λ e. apart 0 2 refl e;
  source = λ e. apart 0 3 refl e;
  sink = λ e. apart 0 4 refl e;
  sink_still = λ other more. by;
  shelf = λ e. apart 0 5 refl e;
  store = λ e. apart 0 7 refl e;
}
cause_of (ends.Script line at found) call run header read began spared due by = record {
  known = (omega arith, λ e. apart 2 1 refl e);
  header = header;
  read = read;
  began = began;
  spared = spared;
  due = due;
  done = λ e. apart 2 0 refl e;
  wrong = λ e. tt;
  source = λ e. apart 2 3 refl e;
  sink = λ e. apart 2 4 refl e;
  sink_still = λ other more. by;
  shelf = λ e. apart 2 5 refl e;
  store = λ e. apart 2 7 refl e;
}
cause_of ends.SourceFault call run header read began spared due by = record {
  known = (omega arith, λ e. apart 3 1 refl e);
  header = header;
  read = read;
  began = began;
  spared = spared;
  due = due;
  done = λ e. apart 3 0 refl e;
  wrong = λ e. apart 3 2 refl e;
  source = λ e. (refl, by.0, by.1);
  sink = λ e. apart 3 4 refl e;
  sink_still = λ other more. by.2;
  shelf = λ e. apart 3 5 refl e;
  store = λ e. apart 3 7 refl e;
}
cause_of ends.SinkFault call run header read began spared due by = record {
  known = (omega arith, λ e. apart 4 1 refl e);
  header = header;
  read = read;
  began = began;
  spared = spared;
  due = due;
  done = λ e. apart 4 0 refl e;
  wrong = λ e. apart 4 2 refl e;
  source = λ e. apart 4 3 refl e;
  sink = λ e. by;
  sink_still = λ other more. absurd (other refl);
  shelf = λ e. apart 4 5 refl e;
  store = λ e. apart 4 7 refl e;
}
cause_of (ends.ShelfFault cloud) call run header read began spared due by = record {
  known = (omega arith, λ e. apart 5 1 refl e);
  header = header;
  read = read;
  began = began;
  spared = spared;
  due = due;
  done = λ e. apart 5 0 refl e;
  wrong = λ e. apart 5 2 refl e;
  source = λ e. apart 5 3 refl e;
  sink = λ e. apart 5 4 refl e;
  sink_still = λ other more. by;
  shelf = λ e. inl tt;
  store = λ e. apart 5 7 refl e;
}
cause_of ends.NoMemory call run header read began spared due by = record {
  known = (omega arith, λ e. apart 6 1 refl e);
  header = header;
  read = read;
  began = began;
  spared = spared;
  due = due;
  done = λ e. apart 6 0 refl e;
  wrong = λ e. apart 6 2 refl e;
  source = λ e. apart 6 3 refl e;
  sink = λ e. apart 6 4 refl e;
  sink_still = λ other more. absurd (more refl);
  shelf = λ e. apart 6 5 refl e;
  store = λ e. apart 6 7 refl e;
}
cause_of (ends.NotEmpty cloud area len) call run header read began spared due by = record {
  known = (omega arith, λ e. apart 7 1 refl e);
  header = header;
  read = read;
  began = began;
  spared = spared;
  due = due;
  done = λ e. apart 7 0 refl e;
  wrong = λ e. apart 7 2 refl e;
  source = λ e. apart 7 3 refl e;
  sink = λ e. apart 7 4 refl e;
  sink_still = λ other more. by;
  shelf = λ e. apart 7 5 refl e;
  store = λ e. tt;
}
cause_of (ends.Damaged cloud at byte) call run header read began spared due by = record {
  known = (omega arith, λ e. apart 7 1 refl e);
  header = header;
  read = read;
  began = began;
  spared = spared;
  due = due;
  done = λ e. apart 7 0 refl e;
  wrong = λ e. apart 7 2 refl e;
  source = λ e. apart 7 3 refl e;
  sink = λ e. apart 7 4 refl e;
  sink_still = λ other more. by;
  shelf = λ e. apart 7 5 refl e;
  store = λ e. tt;
}

-- a script has one first line at most
pub one_header : (script : List ℕ) (shape other : Shape) (rooms others : UserRooms) (place there : ScriptPlace) → Begins script shape rooms place → Begins script other others there
    → (shape ≡ other) × (rooms ≡ others)
one_header script shape other rooms others place there one two =
    let same_line : Ok (Some one.line) ≡ Ok (Some two.line) = sym one.here ∙ two.here in
    let line : one.line ≡ two.line = cc in
    let header : Ok (shape, rooms) ≡ Ok (other, others) = sym one.says ∙ ap header_at line ∙ two.says in
    let both : (shape, rooms) ≡ (other, others) = cc in
    (ap (λ (h : Shape × UserRooms). h.0) both, ap (λ (h : Shape × UserRooms). h.1) both)

any_place : ScriptPlace
any_place = record { jobs = 0; taken = 0; rest = [] }

pub read_some : (script : Option (List ℕ)) (P : List ℕ → ScriptPlace → Type 0) → IfSome script (λ bytes. (place : ScriptPlace) × P bytes place)
    → (place : ScriptPlace) × IfSome script (λ bytes. P bytes place)
read_some None P x = (any_place, tt)
read_some (Some bytes) P x = x

-- the session's header, where its script was read
pub header_read : (call : ReplayCall) (run : Session) (events : List Event)
    → IfSome call.script (λ script. (place : ScriptPlace) × Reaches script run.setting.shape run.setting.rooms events place) → HasHeaderLine call run
header_read call run events read =
    map_told call.script (λ (script : List ℕ). (place : ScriptPlace) × Reaches script run.setting.shape run.setting.rooms events place)
    (λ (script : List ℕ). (shape : Shape) (rooms : UserRooms) (place : ScriptPlace) → Begins script shape rooms place → (run.setting.shape ≡ shape) × (run.setting.rooms ≡ rooms))
    (λ script x shape rooms place begins. one_header script run.setting.shape shape run.setting.rooms rooms x.1.0 place x.1.1 begins) read

-- ---- what is written

-- the text of the lines that were answered, and `done`
abbrev pub text_so_far : Setting → List Answered → List ℕ
text_so_far s history = text_of (lines.Opened s.shape ∷ answers_of history)

abbrev pub done_text : List Answered → List ℕ
done_text history = line_text (lines.Done (length history))

-- a front of what follows a text
front_on : (before mid now : Option (List ℕ)) (text bytes : List ℕ) → Appends before mid text → AppendsFront bytes mid now
    → (front : List ℕ) × (more : List ℕ) × (front ++ more ≡ text ++ bytes) × Appends before now front
front_on before mid now text bytes wrote w = (
  text ++ w.0,
  w.1,
  append_assoc text w.0 w.1 ∙ ap (λ (l : List ℕ). text ++ l) w.2,
  appends_on before mid now text w.0 wrote w.3,
)

-- a front of the lines that were answered
pub cut_lines : (call : ReplayCall) (run : Session) (before after : Option (List ℕ)) (text more : List ℕ) → text ++ more ≡ text_of (due run)
    → Appends before after text → IsTextCut call run before after
cut_lines call run before after text more front written = record {
  last = [];
  last_is = inl refl;
  text = text;
  more = more;
  front = front ∙ sym (append-nil (text_of (due run)));
  written = written;
}

-- just those lines
pub cut_none : (call : ReplayCall) (run : Session) (before after : Option (List ℕ)) → Appends before after (text_of (due run)) → IsTextCut call run before after
cut_none call run before after written = cut_lines call run before after (text_of (due run)) [] (append-nil (text_of (due run))) written

-- ---- the ends behind the openings

module _ (laws : Laws) (start : ReplayStart) (s : Setting) (left : Option (List ℕ)) (source sink total : ℕ) (new : ℕ → Cloud)
    (image : (cloud : ℕ) → IsTrue (new cloud).told → IsImage (new cloud).now (reads (new cloud).now))
    (told : (cloud : ℕ) → (new cloud).told ≡ (start.old cloud).told) where
  -- the promise of an end, from what holds of its session, the line that is due, its cause, and what is written
  pub ends_so : (end : ReplayEnd) (now : Option (List ℕ)) (history : List Answered) (at : Vault) (begun : Option Begun) (last : ℕ → Peer) → Holds start s new history at begun last
      → (status_of end ≡ 0 → (cloud : ℕ) → cloud < s.shape.n → (last cloud).faults ≡ (new cloud).faults)
      → IsDue (call_of start left source sink total new) (session_of s history at begun last) (ending_of end)
      → CausedBy (call_of start left source sink total new) (session_of s history at begun last) end
      → IsPrinted end (call_of start left source sink total new) (session_of s history at begun last) start.written now
      → HasReplayed end (call_of start left source sink total new) start.written now
  ends_so end now history at begun last h same is_due by printed = record {
    run = session_of s history at begun last;
    replayed = replayed laws (status_of end) start s new history at begun last h same image told;
    cause = cause_of end (call_of start left source sink total new) (session_of s history at begun last)
        (header_read (call_of start left source sink total new) (session_of s history at begun last) (script_of history ++ event_of begun) h.read)
        (λ o. read_some start.script (λ (script : List ℕ) (place : ScriptPlace). Reaches script s.shape s.rooms (script_of history ++ event_of begun) place) h.read)
        (λ o. h.began) (inl h.began) is_due by;
    printed = printed;
  }

module _ {V : Type 0} (clouds : V → ℕ → Cloud) (laws : Laws) (start : ReplayStart) (s : Setting) (link : LocalLink V) (jobs : List (List LaneView)) (reader : ReaderState) (left : Option (List ℕ))
    (source : ℕ) (written : Option (List ℕ)) (sink : ℕ) (events : ℕ) (come : HasCome clouds start s link jobs reader left source written sink events) where
  -- the shelf tells of the same clouds
  told_still : (cloud : ℕ) → cloud < s.shape.n → (clouds link.shelf.now cloud).told ≡ (start.old cloud).told
  told_still cloud lt = come.is_at.link_at.told cloud ∙ come.told cloud

  module _ (total : ℕ) (image : (cloud : ℕ) → IsTrue (clouds link.shelf.now cloud).told → IsImage (clouds link.shelf.now cloud).now (reads (clouds link.shelf.now cloud).now)) where
    told_all : (cloud : ℕ) → (clouds link.shelf.now cloud).told ≡ (start.old cloud).told
    told_all cloud = come.is_at.link_at.told cloud ∙ come.told cloud

    -- the line behind is wrong
    wrong_here : (script : Option (List ℕ)) (fault : Fault)
        → IfSome script (λ bytes. (place : ScriptPlace) × Reaches bytes s.shape s.rooms (script_of come.history) place × IsThere reader left (length jobs) place)
        → ((place : ScriptPlace) → IsThere reader left (length jobs) place → IsWrong s.shape place fault)
        → IfSome script (λ bytes. ((true ≡ false) × IsWrongFirst bytes fault)
        ⊎ (IsTrue true × ((place : ScriptPlace) × IfSome script (λ all. Reaches all s.shape s.rooms (script_of come.history ++ []) place) × IsWrong s.shape place fault)))
    wrong_here None fault read wrong = tt
    wrong_here (Some bytes) fault read wrong = inr (
      refl,
      (
        read.0,
        subst (λ (l : List Event). Reaches bytes s.shape s.rooms l read.0) (sym (append-nil (script_of come.history))) read.1,
        wrong read.0 read.2,
      ),
    )

    -- as a further line is read
    pub ends_reading : (end : ReplayEnd) (left_now : Option (List ℕ)) (source_now : ℕ) → EndsReading s.shape (length jobs) events reader left source source_now end
        → HasReplayed end (call_of start left_now source_now sink total (clouds link.shelf.now)) start.written written
    ends_reading (ends.Script line at found) left_now source_now x =
        ends_so laws start s left_now source_now sink total (clouds link.shelf.now) image told_all (ends.Script line at found) written come.history come.at None come.at.peers
        (holds_between clouds start s link jobs reader left source written sink events come) (λ e. apart 2 0 refl e)
        (refl, x.0 ∙ ap (λ (n : ℕ). n + 2) (sym come.count), wrong_here start.script (record { at = at; found = found }) come.read x.1) come.sink_is come.printed
    ends_reading ends.SourceFault left_now source_now x =
        ends_so laws start s left_now source_now sink total (clouds link.shelf.now) image told_all ends.SourceFault written come.history come.at None come.at.peers
        (holds_between clouds start s link jobs reader left source written sink events come) (λ e. apart 3 0 refl e)
        tt (refl, subst (λ (n : ℕ). Rose n source_now) come.source_is x, come.sink_is) come.printed
    ends_reading ends.NoMemory left_now source_now x =
        ends_so laws start s left_now source_now sink total (clouds link.shelf.now) image told_all ends.NoMemory written come.history come.at None come.at.peers
        (holds_between clouds start s link jobs reader left source written sink events come) (λ e. apart 6 0 refl e)
        tt tt (cut_none (call_of start left_now source_now sink total (clouds link.shelf.now)) (session_of s come.history come.at None come.at.peers) start.written written come.printed)
    ends_reading (ends.Done number) left_now source_now x = absurd x
    ends_reading ends.SinkFault left_now source_now x = absurd x
    ends_reading (ends.ShelfFault cloud) left_now source_now x = absurd x
    ends_reading (ends.NotEmpty cloud area len) left_now source_now x = absurd x
    ends_reading (ends.Damaged cloud at byte) left_now source_now x = absurd x

    -- the script ends here
    end_here : (script : Option (List ℕ)) (left_now : Option (List ℕ))
        → IfSome script (λ bytes. (place : ScriptPlace) × Reaches bytes s.shape s.rooms (script_of come.history) place × IsThere reader left (length jobs) place)
        → ((place : ScriptPlace) → IsThere reader left (length jobs) place → IsEnd place × (left_now ≡ Some []))
        → (place : ScriptPlace) × IfSome script (λ all. Reaches all s.shape s.rooms (script_of come.history ++ []) place) × IfSome script (λ bytes. IsEnd place × (left_now ≡ Some []))
    end_here None left_now read over = (record { jobs = 0; taken = 0; rest = [] }, tt, tt)
    end_here (Some bytes) left_now read over = (
      read.0,
      subst (λ (l : List Event). Reaches bytes s.shape s.rooms l read.0) (sym (append-nil (script_of come.history))) read.1,
      over read.0 read.2,
    )

    -- as `done` is written
    pub ends_writing : (end : ReplayEnd) (left_now : Option (List ℕ)) (source_now : ℕ) (now : Option (List ℕ)) (sink_now : ℕ)
        → ((place : ScriptPlace) → IsThere reader left (length jobs) place → IsEnd place × (left_now ≡ Some []))
        → EndsWriting (line_text (lines.Done events)) written now sink sink_now end
        → HasReplayed end (call_of start left_now source_now sink_now total (clouds link.shelf.now)) start.written now
    ends_writing ends.SinkFault left_now source_now now sink_now over x =
        ends_so laws start s left_now source_now sink_now total (clouds link.shelf.now) image told_all ends.SinkFault now come.history come.at None come.at.peers
        (holds_between clouds start s link jobs reader left source written sink events come) (λ e. apart 4 0 refl e)
        tt (subst (λ (n : ℕ). Rose n sink_now) come.sink_is x.1) (
          refl,
          record {
            last = done_text come.history;
            last_is = inr (refl, (refl, refl, refl, end_here start.script left_now come.read over));
            text = text_so_far s come.history ++ x.0.0;
            more = x.0.1;
            front = append_assoc (text_so_far s come.history) x.0.0 x.0.1
                ∙ ap (λ (l : List ℕ). text_so_far s come.history ++ l) (x.0.2 ∙ ap (λ (n : ℕ). line_text (lines.Done n)) (sym come.count));
            written = appends_on start.written written now (text_so_far s come.history) x.0.0 come.printed x.0.3;
          },
        )
    ends_writing ends.NoMemory left_now source_now now sink_now over x =
        ends_so laws start s left_now source_now sink_now total (clouds link.shelf.now) image told_all ends.NoMemory now come.history come.at None come.at.peers
        (holds_between clouds start s link jobs reader left source written sink events come) (λ e. apart 6 0 refl e)
        tt tt (cut_none (call_of start left_now source_now sink_now total (clouds link.shelf.now)) (session_of s come.history come.at None come.at.peers) start.written now
        (subst (λ (o : Option (List ℕ)). Appends start.written o (text_so_far s come.history)) (sym x) come.printed))
    ends_writing (ends.Done number) left_now source_now now sink_now over x = absurd x
    ends_writing (ends.Script line at found) left_now source_now now sink_now over x = absurd x
    ends_writing ends.SourceFault left_now source_now now sink_now over x = absurd x
    ends_writing (ends.ShelfFault cloud) left_now source_now now sink_now over x = absurd x
    ends_writing (ends.NotEmpty cloud area len) left_now source_now now sink_now over x = absurd x
    ends_writing (ends.Damaged cloud at byte) left_now source_now now sink_now over x = absurd x

    pub ends_done : (left_now : Option (List ℕ)) (source_now : ℕ) (now : Option (List ℕ)) (sink_now : ℕ)
        → ((place : ScriptPlace) → IsThere reader left (length jobs) place → IsEnd place × (left_now ≡ Some []))
        → sink_now ≡ sink → Appends written now (line_text (lines.Done events))
        → HasReplayed (ends.Done events) (call_of start left_now source_now sink_now total (clouds link.shelf.now)) start.written now
    ends_done left_now source_now now sink_now over same wrote =
        ends_so laws start s left_now source_now sink_now total (clouds link.shelf.now) image told_all (ends.Done events) now come.history come.at None come.at.peers
        (holds_between clouds start s link jobs reader left source written sink events come) (λ e cloud lt. (come.is_at.link_at.stands cloud lt).faults)
        (refl, refl, sym come.count, end_here start.script left_now come.read over) (same ∙ come.sink_is)
        (appends_on start.written written now (text_so_far s come.history) (line_text (lines.Done events)) come.printed wrote)

  -- as a line is answered
  module _ (new : LocalLink V) (event : Event) (reader_now : ReaderState) (left_now : Option (List ℕ)) (source_now : ℕ) (can : CanBe s.shape (length jobs) event)
      (says : SaysNext s.shape (length jobs) reader left (Some event) reader_now left_now) (leaves : KeepsOtherClouds clouds link new) (jobs_now : List (List LaneView))
      (later : Later) (here : Here) (part : Part) (total : ℕ)
      (image : (cloud : ℕ) → IsTrue (clouds new.shelf.now cloud).told → IsImage (clouds new.shelf.now cloud).now (reads (clouds new.shelf.now cloud).now)) where
    told_new : (cloud : ℕ) → (clouds new.shelf.now cloud).told ≡ (start.old cloud).told
    told_new cloud = leaves.told cloud ∙ come.is_at.link_at.told cloud ∙ come.told cloud

    pub ends_answered : (end : ReplayEnd) (now : Option (List ℕ)) (sink_now : ℕ) → EndsAnswering clouds event link jobs new jobs_now written now sink sink_now end
        → HasReplayed end (call_of start left_now source_now sink_now total (clouds new.shelf.now)) start.written now
    ends_answered ends.SinkFault now sink_now x =
        let a = x.0 s come.at come.is_at in
        let one : Answered = answered come.at event a.0 a.1.moments a.1.after in
        let w = front_on start.written written now (text_so_far s come.history) (text_of a.0) come.printed a.2 in
        ends_so laws start s left_now source_now sink_now total (clouds new.shelf.now) image told_new ends.SinkFault now (come.history ++ one ∷ []) a.1.after None a.1.after.peers
        (holds_answered clouds start s link jobs reader left source written sink events come new event reader_now left_now can says leaves later here jobs_now a.0 a.1) (λ e. apart 4 0 refl e)
        tt (subst (λ (n : ℕ). Rose n sink_now) come.sink_is x.1) (
          refl,
          cut_lines (call_of start left_now source_now sink_now total (clouds new.shelf.now)) (session_of s (come.history ++ one ∷ []) a.1.after None a.1.after.peers) start.written now
              w.0 w.1 (w.2 ∙ sym (text_more (lines.Opened s.shape) come.history one)) w.3,
        )
    ends_answered ends.NoMemory now sink_now x =
        let cut = x.0 s come.at come.is_at in
        ends_so laws start s left_now source_now sink_now total (clouds new.shelf.now) image told_new ends.NoMemory now come.history come.at (Some (record { event = event; moments = cut.moments })) cut.last
        (holds_cut clouds start s link jobs reader left source written sink events come new event reader_now left_now can says leaves part here cut) (λ e. apart 6 0 refl e)
        tt tt (cut_none (call_of start left_now source_now sink_now total (clouds new.shelf.now))
        (session_of s come.history come.at (Some (record { event = event; moments = cut.moments })) cut.last) start.written now
        (subst (λ (o : Option (List ℕ)). Appends start.written o (text_so_far s come.history)) (sym x.1) come.printed))
    ends_answered (ends.Done number) now sink_now x = absurd x
    ends_answered (ends.Script line at found) now sink_now x = absurd x
    ends_answered ends.SourceFault now sink_now x = absurd x
    ends_answered (ends.ShelfFault cloud) now sink_now x =
        let fault = x.0.1 s come.at come.is_at in
        let cut = fault.cut in
        let begun : Option Begun = Some (record { event = event; moments = cut.moments }) in
        let h = holds_cut clouds start s link jobs reader left source written sink events come new event reader_now left_now can says leaves part here cut in
        ends_so laws start s left_now source_now sink_now total (clouds new.shelf.now) image told_new (ends.ShelfFault cloud) now come.history come.at begun cut.last h (λ e. apart 5 0 refl e) (
          subst (λ (e : Event). FitsEvent s.shape (length jobs) e) x.0.0 can.fits,
          read_some start.script (λ (script : List ℕ) (place : ScriptPlace). Reaches script s.shape s.rooms (script_of come.history ++ event_of begun) place) h.read,
          fault.rose,
          inr (x.0.0, fault.last_is),
        ) (x.2 ∙ come.sink_is) (subst (λ (o : Option (List ℕ)). Appends start.written o (text_so_far s come.history)) (sym x.1) come.printed)
    ends_answered (ends.NotEmpty cloud area len) now sink_now x = absurd x
    ends_answered (ends.Damaged cloud at byte) now sink_now x = absurd x

-- ---- one line more

-- what is said of a shape and a count that are others' too
pub over : (P : Shape → ℕ → Type 0) (shape other : Shape) (count more : ℕ) → shape ≡ other → count ≡ more → P shape count → P other more
over P shape other count more e f p = subst (λ (n : ℕ). P other n) f (subst (λ (sh : Shape). P sh count) e p)

pub goes_on : {V : Type 0} (clouds : V → ℕ → Cloud) (start : ReplayStart) (s : Setting) (link new : LocalLink V) (jobs jobs_now : List (List LaneView)) (reader reader_now : ReaderState)
    (left left_now : Option (List ℕ)) (source source_now : ℕ) (written written_now : Option (List ℕ)) (sink sink_now : ℕ) (events : ℕ) (event : Event) → Later → Here
    → HasCome clouds start s link jobs reader left source written sink events → CanBe s.shape (length jobs) event
    → SaysNext s.shape (length jobs) reader left (Some event) reader_now left_now → source_now ≡ source → sink_now ≡ sink
    → AnswersLine clouds event link jobs new jobs_now (Appends written written_now) → KeepsOtherClouds clouds link new → length jobs_now ≡ jobs_after (length jobs) event
    → HasCome clouds start s new jobs_now reader_now left_now source_now written_now sink_now (events + 1)
goes_on clouds start s link new jobs jobs_now reader reader_now left left_now source source_now written written_now sink sink_now events event later here come can says same_source same_sink answers leaves count =
    let a = answers s come.at come.is_at in
    come_on clouds start s link jobs reader left source written sink events come new event reader_now left_now can says leaves later here jobs_now a.0 a.1
    source_now written_now sink_now same_source same_sink a.2 count

pub few_after : (shape : Shape) (count : ℕ) (event : Event) → FitsEvent shape count event → count ≤ 1000 → jobs_after count event ≤ 1000
few_after shape count (kinds.Upload user path version bytes) fits few = let a = fits.allowed in omega arith
few_after shape count (kinds.Step job lane) fits few = few
few_after shape count (kinds.Lose job lane) fits few = few
few_after shape count (kinds.Drop job lane) fits few = few
few_after shape count (kinds.Finish job) fits few = few
few_after shape count (kinds.Get user path version clouds) fits few = few
few_after shape count (kinds.List user cloud) fits few = few
few_after shape count (kinds.Arm cloud calls keep) fits few = few
few_after shape count (kinds.Restart cloud) fits few = few
few_after shape count (kinds.Replace cloud) fits few = few
few_after shape count (kinds.Rebuild user target from) fits few = few
few_after shape count (kinds.Delete user path version cloud) fits few = few

pub can_at : (shape other : Shape) (count more : ℕ) (o : Option Event) (event : Event) → shape ≡ other → count ≡ more → o ≡ Some event
    → IfSome o (CanBe shape count) → CanBe other more event
can_at shape other count more o event e f is can =
    over (λ (sh : Shape) (n : ℕ). CanBe sh n event) shape other count more e f (subst (λ (x : Option Event). IfSome x (CanBe shape count)) is can)

pub says_at : (shape other : Shape) (count more : ℕ) (o next : Option Event) (reader reader_now : ReaderState) (left left_now : Option (List ℕ)) → shape ≡ other → count ≡ more → o ≡ next
    → SaysNext shape count reader left o reader_now left_now → SaysNext other more reader left next reader_now left_now
says_at shape other count more o next reader reader_now left left_now e f is says =
    over (λ (sh : Shape) (n : ℕ). SaysNext sh n reader left next reader_now left_now) shape other count more e f
    (subst (λ (x : Option Event). SaysNext shape count reader left x reader_now left_now) is says)

pub said_some : (o : Option Event) (event : Event) (A : Type 0) → o ≡ Some event → IfSome o (λ one. A) → A
said_some o event A is x = subst (λ (p : Option Event). IfSome p (λ one. A)) is x
