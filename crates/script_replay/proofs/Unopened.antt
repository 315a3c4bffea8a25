-- A replay whose clouds are not opened, and one as they are.
use Rattle.std.proofs.Common.{◌≡◌, ℕ, true, false, List, [], ◌∷◌, refl, sym, ap, ◌∙◌, subst, inl, ◌⊎◌, arith, append-nil}
use Rattle.std.specs.Prelude.{Option, Some, None, Result, Ok, Err, IfSome, IsTrue}
use Rattle.std.specs.Io.KnownBytes.{Appends}
use Rattle.std.proofs.lemmas.Bool.{cases_lt}
use Rattle.share_server.specs.JournalStart.rooms.UserRooms.{UserRooms}
use Rattle.share_server.specs.CdBase.shape.Shape.{Shape}
use Rattle.share_server.specs.JournalStart.Ranges.{usual_rooms}
use Rattle.share_server.specs.CdEdges.Causes.{Rose}
use Rattle.share_server.specs.CdEdges.Disk.{Cloud, IsImage, reads}
use Rattle.script_lines.specs.LocalLink.link.LocalLink.{LocalLink}
use Rattle.script_lines.specs.LocalLink.Tells as tells
use Rattle.two_worlds.specs.Session.Fault.{Fault}
use Rattle.two_worlds.specs.Session.Lines.{ReaderState, next_line}
use Rattle.two_worlds.specs.Session.Reading.{header_at}
use Rattle.two_worlds.specs.Transcript.line.Line.TheVariants as lines
use Rattle.two_worlds.specs.Transcript.Transcript.{line_text}
use Rattle.two_worlds.specs.Session.Scripts.{ScriptPlace, Begins, Reaches, IsWrongFirst}
use Rattle.two_worlds.specs.Session.Texts.{text_of}
use Rattle.script_lines.specs.SessionModel.Vault.{Setting, opening}
use Rattle.script_lines.specs.At.{header_in}
use Rattle.replay_core.specs.declared.end.ReplayEnd.{ReplayEnd}
use Rattle.replay_core.specs.declared.end.ReplayEnd.TheVariants as ends
use Rattle.replay_core.specs.Opening.{AreSpared, AreSame, IsThere, IsHead, PreparesAll, EndsUnopened, OpensClouds}
use Rattle.script_replay.specs.Endings.{HasReadSome, HasHeaderLine, IsDue, ending_of, call_of}
use Rattle.replay_core.specs.Replayed.{status_of}
use Rattle.script_replay.specs.Written.{HasReplayed, IsPrinted}
use Rattle.script_replay.specs.First.{EndsFirst}
use Rattle.replay_core.specs.Going.{ReplayStart, IsReplayReady, HasCome}
use Rattle.script_replay.specs.Answering.{EndsWriting}
use Rattle.replay_core.proofs.Clouds.{EmptyStands, all_same, spared_by, spared_same}
use Rattle.replay_core.proofs.Sessions.{map_told, appends_none, grown, appends_grown, holds_between}
use Rattle.replay_core.proofs.Whole.{Laws, session_of, apart}
use Rattle.script_replay.proofs.Ends.{CausedBy, cause_of, read_some, header_read, ends_so, cut_lines, cut_none}
use Rattle.replay_core.proofs.Begins.{unopened_of, replayed_unopened, same_all, all_ready, told_at, come_first}

-- the promise of such an end, which isn't Done
unopened_so : (end : ReplayEnd) → Laws → (start : ReplayStart) (s : Setting) (left : Option (List ℕ)) (source sink total : ℕ) (new : ℕ → Cloud) (now : Option (List ℕ))
    → (status_of end ≡ 0 → ⊥) → ((cloud : ℕ) → s.told cloud ≡ (start.old cloud).told) → PreparesAll (header_in s) s.shape start.old new → AreSpared s.shape.n start.old new
    → HasHeaderLine (call_of start left source sink total new) (unopened_of s start.old)
    → IsDue (call_of start left source sink total new) (unopened_of s start.old) (ending_of end)
    → CausedBy (call_of start left source sink total new) (unopened_of s start.old) end
    → IsPrinted end (call_of start left source sink total new) (unopened_of s start.old) start.written now
    → HasReplayed end (call_of start left source sink total new) start.written now
unopened_so end laws start s left source sink total new now some told prepares spared header is_due by printed = record {
  run = unopened_of s start.old;
  replayed = replayed_unopened laws (status_of end) start s new some told prepares;
  cause = cause_of end (call_of start left source sink total new) (unopened_of s start.old) header (λ o. absurd (let f : false ≡ true = o in cc))
      (λ o. absurd (let f : false ≡ true = o in cc)) spared is_due by;
  printed = printed;
}

-- ---- at the first line

abbrev pub three : Shape
three = record { n = 3; k = 2; several = omega arith; spare = omega arith; few = omega arith }

abbrev pub by_header : Result (Shape × UserRooms) Fault → Shape × UserRooms
by_header (Ok header) = header
by_header (Err fault) = (three, usual_rooms)

abbrev pub by_first : Result (Option (List ℕ)) Fault → Shape × UserRooms
by_first (Ok (Some line)) = by_header (header_at line)
by_first (Ok None) = (three, usual_rooms)
by_first (Err fault) = (three, usual_rooms)

-- what the first line says, where there is one
abbrev pub by_script : Option (List ℕ) → Shape × UserRooms
by_script None = (three, usual_rooms)
by_script (Some script) = by_first (next_line 0 script)

abbrev pub setting_of : ReplayStart → Setting
setting_of start = record { shape = (by_script start.script).0; rooms = (by_script start.script).1; told = λ cloud. (start.old cloud).told }

says_header : (script : Option (List ℕ)) → IfSome script (λ bytes. (shape : Shape) (rooms : UserRooms) (place : ScriptPlace)
    → Begins bytes shape rooms place → ((by_script script).0 ≡ shape) × ((by_script script).1 ≡ rooms))
says_header None = tt
says_header (Some bytes) = λ shape rooms place begins.
    let e : by_first (next_line 0 bytes) ≡ (shape, rooms) = ap by_first begins.here ∙ ap by_header begins.says in
    (ap (λ (h : Shape × UserRooms). h.0) e, ap (λ (h : Shape × UserRooms). h.1) e)

wrong_first : (script : Option (List ℕ)) (P : List ℕ → Type 0) (fault : Fault) → IfSome script (λ bytes. IsWrongFirst bytes fault)
    → IfSome script (λ bytes. ((false ≡ false) × IsWrongFirst bytes fault) ⊎ P bytes)
wrong_first None P fault x = tt
wrong_first (Some bytes) P fault x = inl (refl, x)

pub ends_first : EmptyStands → (end : ReplayEnd) → Laws → (start : ReplayStart) (left : Option (List ℕ)) (source sink total : ℕ) (new : ℕ → Cloud) (now : Option (List ℕ))
    → ((cloud : ℕ) → new cloud ≡ start.old cloud) → now ≡ start.written → sink ≡ start.sink → EndsFirst start.script start.source source end
    → HasReplayed end (call_of start left source sink total new) start.written now
ends_first law (ends.Script line at found) laws start left source sink total new now same still sank x =
    unopened_so (ends.Script line at found) laws start (setting_of start) left source sink total new now (λ e. apart 2 0 refl e) (λ cloud. refl)
    (all_same law (header_in (setting_of start)) (setting_of start).shape start.old new same) (spared_same (setting_of start).shape.n start.old new same) (says_header start.script)
    (refl, x.0, wrong_first start.script _ (record { at = at; found = found }) x.1) sank (appends_none start.written now still)
ends_first law ends.SourceFault laws start left source sink total new now same still sank x =
    unopened_so ends.SourceFault laws start (setting_of start) left source sink total new now (λ e. apart 3 0 refl e) (λ cloud. refl)
    (all_same law (header_in (setting_of start)) (setting_of start).shape start.old new same) (spared_same (setting_of start).shape.n start.old new same) (says_header start.script) tt (refl, x, sank) (appends_none start.written now still)
ends_first law ends.NoMemory laws start left source sink total new now same still sank x =
    unopened_so ends.NoMemory laws start (setting_of start) left source sink total new now (λ e. apart 6 0 refl e) (λ cloud. refl)
    (all_same law (header_in (setting_of start)) (setting_of start).shape start.old new same) (spared_same (setting_of start).shape.n start.old new same) (says_header start.script) tt tt
    (cut_none (call_of start left source sink total new) (unopened_of (setting_of start) start.old) start.written now (appends_none start.written now still))
ends_first law (ends.Done events) laws start left source sink total new now same still sank x = absurd x
ends_first law ends.SinkFault laws start left source sink total new now same still sank x = absurd x
ends_first law (ends.ShelfFault cloud) laws start left source sink total new now same still sank x = absurd x
ends_first law (ends.NotEmpty cloud area len) laws start left source sink total new now same still sank x = absurd x
ends_first law (ends.Damaged cloud at byte) laws start left source sink total new now same still sank x = absurd x

-- ---- behind the first line

module _ (laws : Laws) (start : ReplayStart) (s : Setting) (reader : ReaderState) (left : Option (List ℕ)) (source sink total : ℕ) (new : ℕ → Cloud) (now : Option (List ℕ))
    (told : (cloud : ℕ) → s.told cloud ≡ (start.old cloud).told) (head : IsHead start.script s.shape s.rooms reader left)
    (prepares : PreparesAll (header_in s) s.shape start.old new) (still : now ≡ start.written) (sank : sink ≡ start.sink) where
  reached : IfSome start.script (λ script. (place : ScriptPlace) × Reaches script s.shape s.rooms [] place)
  reached = map_told start.script (λ (script : List ℕ). (place : ScriptPlace) × Begins script s.shape s.rooms place × IsThere reader left 0 place)
      (λ (script : List ℕ). (place : ScriptPlace) × Reaches script s.shape s.rooms [] place) (λ script x. (x.0, (x.0, x.1, refl))) head

  read : HasReadSome (call_of start left source sink total new) (unopened_of s start.old)
  read = read_some start.script (λ (script : List ℕ) (place : ScriptPlace). Reaches script s.shape s.rooms [] place) reached

  header : HasHeaderLine (call_of start left source sink total new) (unopened_of s start.old)
  header = header_read (call_of start left source sink total new) (unopened_of s start.old) [] reached

  pub ends_unmade : AreSame start.old new → HasReplayed ends.NoMemory (call_of start left source sink total new) start.written now
  ends_unmade same = unopened_so ends.NoMemory laws start s left source sink total new now (λ e. apart 6 0 refl e) told prepares
      (spared_same s.shape.n start.old new same) header tt tt
      (cut_none (call_of start left source sink total new) (unopened_of s start.old) start.written now (appends_none start.written now still))

  pub ends_closed : (end : ReplayEnd) → EndsUnopened s.shape start.old new end → HasReplayed end (call_of start left source sink total new) start.written now
  ends_closed (ends.NotEmpty cloud area len) x =
      unopened_so (ends.NotEmpty cloud area len) laws start s left source sink total new now (λ e. apart 7 0 refl e) told prepares
      (spared_by s.shape start.old new (ends.NotEmpty cloud area len) x) header
      (refl, x.0, read, x.1, x.2) sank (appends_none start.written now still)
  ends_closed (ends.ShelfFault cloud) x =
      unopened_so (ends.ShelfFault cloud) laws start s left source sink total new now (λ e. apart 5 0 refl e) told prepares
      (spared_by s.shape start.old new (ends.ShelfFault cloud) x) header
      (x.0, read, x.1, inl (refl, x.2)) sank (appends_none start.written now still)
  ends_closed (ends.Damaged cloud at byte) x =
      unopened_so (ends.Damaged cloud at byte) laws start s left source sink total new now (λ e. apart 7 0 refl e) told prepares
      (spared_by s.shape start.old new (ends.Damaged cloud at byte) x) header
      (refl, x.0, read, x.1, x.2) sank (appends_none start.written now still)
  ends_closed (ends.Done events) x = absurd x
  ends_closed (ends.Script line at found) x = absurd x
  ends_closed ends.SourceFault x = absurd x
  ends_closed ends.SinkFault x = absurd x
  ends_closed ends.NoMemory x = absurd x

-- ---- behind the openings

module _ {V : Type 0} (clouds : V → ℕ → Cloud) (laws : Laws) (start : ReplayStart) (s : Setting) (old : LocalLink V) (reader : ReaderState) (left : Option (List ℕ)) (source : ℕ)
    (written : Option (List ℕ)) (sink : ℕ) (ready : IsReplayReady clouds start s old reader left source written sink) where
  pub ends_ready : (end : ReplayEnd) (new : LocalLink V) (total : ℕ) → PreparesAll (tells.header_at old.servers) old.servers.shape (clouds old.shelf.now) (clouds new.shelf.now)
      → EndsUnopened old.servers.shape (clouds old.shelf.now) (clouds new.shelf.now) end
      → HasReplayed end (call_of start left source sink total (clouds new.shelf.now)) start.written written
  ends_ready end new total prepares x =
      ends_closed laws start s reader left source sink total (clouds new.shelf.now) written ready.told ready.read
      (all_ready clouds laws start s old reader left source written sink ready (clouds new.shelf.now) prepares)
      ready.written_is ready.sink_is end
      (subst (λ (sh : Shape). EndsUnopened sh start.old (clouds new.shelf.now) end) ready.shape (subst (λ (f : ℕ → Cloud). EndsUnopened old.servers.shape f (clouds new.shelf.now) end) (same_all clouds laws start s old reader left source written sink ready) x))

  pub ends_unready : EmptyStands → (total : ℕ) → HasReplayed ends.NoMemory (call_of start left source sink total (clouds old.shelf.now)) start.written written
  ends_unready law total =
      ends_unmade laws start s reader left source sink total (clouds old.shelf.now) written ready.told ready.read (all_same law (header_in s) s.shape start.old (clouds old.shelf.now) ready.same) ready.written_is ready.sink_is
      ready.same

  module _ (new : LocalLink V) (to : OpensClouds clouds old new old.servers.shape.n) where
    -- as `open` is written
    pub ends_first_line : (total : ℕ) (image : (cloud : ℕ) → IsTrue (clouds new.shelf.now cloud).told → IsImage (clouds new.shelf.now cloud).now (reads (clouds new.shelf.now cloud).now))
        (end : ReplayEnd) (now : Option (List ℕ)) (sink_now : ℕ) → EndsWriting (line_text (lines.Opened s.shape)) written now sink sink_now end
        → HasReplayed end (call_of start left source sink_now total (clouds new.shelf.now)) start.written now
    ends_first_line total image ends.SinkFault now sink_now x =
        let come = come_first clouds laws start s old reader left source written sink ready new to (grown written (text_of (lines.Opened s.shape ∷ []))) sink refl (appends_grown written (text_of (lines.Opened s.shape ∷ []))) in
        ends_so laws start s left source sink_now total (clouds new.shelf.now) image (λ cloud. told_at clouds laws start s old reader left source written sink ready new to cloud (cases_lt cloud s.shape.n)) ends.SinkFault now [] (opening start.old) None (opening start.old).peers
        (holds_between clouds start s new [] reader left source (grown written (text_of (lines.Opened s.shape ∷ []))) sink 0 come) (λ e. apart 4 0 refl e)
        tt (subst (λ (n : ℕ). Rose n sink_now) ready.sink_is x.1) (
          refl,
          cut_lines (call_of start left source sink_now total (clouds new.shelf.now)) (session_of s [] (opening start.old) None (opening start.old).peers) start.written now x.0.0 x.0.1
              (x.0.2 ∙ sym (append-nil (line_text (lines.Opened s.shape)))) (subst (λ (o : Option (List ℕ)). Appends o now x.0.0) ready.written_is x.0.3),
        )
    ends_first_line total image ends.NoMemory now sink_now x =
        let come = come_first clouds laws start s old reader left source written sink ready new to (grown written (text_of (lines.Opened s.shape ∷ []))) sink refl (appends_grown written (text_of (lines.Opened s.shape ∷ []))) in
        ends_so laws start s left source sink_now total (clouds new.shelf.now) image (λ cloud. told_at clouds laws start s old reader left source written sink ready new to cloud (cases_lt cloud s.shape.n)) ends.NoMemory now [] (opening start.old) None (opening start.old).peers
        (holds_between clouds start s new [] reader left source (grown written (text_of (lines.Opened s.shape ∷ []))) sink 0 come) (λ e. apart 6 0 refl e)
        tt tt (cut_lines (call_of start left source sink_now total (clouds new.shelf.now)) (session_of s [] (opening start.old) None (opening start.old).peers) start.written now []
        (text_of (lines.Opened s.shape ∷ [])) refl (appends_none start.written now (x ∙ ready.written_is)))
    ends_first_line total image (ends.Done number) now sink_now x = absurd x
    ends_first_line total image (ends.Script line at found) now sink_now x = absurd x
    ends_first_line total image ends.SourceFault now sink_now x = absurd x
    ends_first_line total image (ends.ShelfFault cloud) now sink_now x = absurd x
    ends_first_line total image (ends.NotEmpty cloud area len) now sink_now x = absurd x
    ends_first_line total image (ends.Damaged cloud at byte) now sink_now x = absurd x

    -- with the link's own shape
    pub come_open : (shape : Shape) (written_now : Option (List ℕ)) (sink_now : ℕ) → shape ≡ new.servers.shape → sink_now ≡ sink → Appends written written_now (line_text (lines.Opened shape))
        → HasCome clouds start s new [] reader left source written_now sink_now 0
    come_open shape written_now sink_now is same wrote = come_first clouds laws start s old reader left source written sink ready new to written_now sink_now same
        (subst (Appends written written_now) (sym (append-nil (line_text (lines.Opened s.shape))))
        (subst (λ (sh : Shape). Appends written written_now (line_text (lines.Opened sh))) (is ∙ to.shape ∙ ready.shape) wrote))

    pub ends_open : (shape : Shape) (total : ℕ) (image : (cloud : ℕ) → IsTrue (clouds new.shelf.now cloud).told → IsImage (clouds new.shelf.now cloud).now (reads (clouds new.shelf.now cloud).now))
        (end : ReplayEnd) (now : Option (List ℕ)) (sink_now : ℕ) → shape ≡ new.servers.shape → EndsWriting (line_text (lines.Opened shape)) written now sink sink_now end
        → HasReplayed end (call_of start left source sink_now total (clouds new.shelf.now)) start.written now
    ends_open shape total image end now sink_now is x = ends_first_line total image end now sink_now
        (subst (λ (sh : Shape). EndsWriting (line_text (lines.Opened sh)) written now sink sink_now end) (is ∙ to.shape ∙ ready.shape) x)
