-- What the generator promises at each of its ends.
use Rattle.std.proofs.Common.{◌≡◌, ℕ, ◌+◌, ◌*◌, ◌<◌, ◌≤◌, true, false, List, [], ◌∷◌, ◌++◌, length, refl, sym, ap, ◌∙◌, subst, inl, inr, ◌⊎◌, arith, append-nil, append_assoc}
use Rattle.std.specs.Prelude.{Option, Some, None, IsTrue, MatchOption}
use Rattle.std.specs.Io.KnownBytes.{Appends}
use Rattle.std.proofs.lemmas.List.{length-map}
use Rattle.replay_core.specs.JournalStart.Ranges.{usual_rooms}
use Rattle.lane_steps.specs.CdBase.shape.Shape.{Shape}
use Rattle.replay_core.specs.JournalStart.rooms.UserRooms.{UserRooms}
use Rattle.lane_steps.specs.CdEdges.area.Area.{Area}
use Rattle.lane_steps.specs.CdEdges.Causes.{Rose}
use Rattle.lane_steps.specs.CdEdges.Disk.{Cloud, IsImage, reads}
use Rattle.subset_restore.specs.UserDedup.Exec.{Peer}
use Rattle.replay_core.specs.LocalLink.link.LocalLink.{LocalLink}
use Rattle.replay_core.specs.LocalLink.Calls.{no_commands}
use Rattle.replay_core.specs.Session.event.Event.{Event}
use Rattle.replay_core.specs.SessionModel.Vault.{Setting, Vault, opening}
use Rattle.replay_core.specs.SessionModel.Kept.{uploads}
use Rattle.replay_core.specs.SessionModel.Run.{Answered, Turns, script_of}
use Rattle.replay_core.specs.SessionModel.Headline.{Session, Begun, IsRun, IsPartOf, event_of}
use Rattle.replay_core.specs.ScriptLines.At.{header_in}
use Rattle.replay_core.specs.declared.end.ReplayEnd.{ReplayEnd}
use Rattle.replay_core.specs.declared.end.ReplayEnd.TheVariants as ends
use Rattle.replay_core.specs.Replayed.{Replayed, status_of}
use Rattle.replay_core.specs.Opening.{IsEmptyAt, AreEmptyBelow, AreSpared, AreSame, PreparesAll, EndsUnopened, OpensClouds, before_first}
use Rattle.replay_core.specs.Going.{AppendsFront, EndsSink, IsReplayReady}
use Rattle.replay_core.proofs.Clouds.{spared_by, spared_same}
use Rattle.replay_core.proofs.Sessions.{Later, Here, Part, Holds, holds_between, holds_cut, appends_none}
use Rattle.replay_core.proofs.Whole.{Laws, session_of, replayed, apart}
use Rattle.replay_core.proofs.Begins.{unopened_of, replayed_unopened, come_first}
use Rattle.generated_session.specs.declared.numbers.Numbers.{Numbers}
use Rattle.generated_session.specs.Lines.{generated_lines}
use Rattle.generated_session.specs.Numbers.{HasNumbers, summary_text}
use Rattle.generated_session.specs.Generates.{Order, Passing, IsSessionWhole, IsSessionUnopened, IsCaused, WritesSummary, IsSummaryWritten, Generates, HasNotRisen, GoesWell, IsDone}
use Rattle.generated_session.specs.Progress.{start_of, no_numbers, HasMade, IsStopped}
use Rattle.generated_session.proofs.Tallies.{numbers_none}
use Rattle.generated_session.proofs.Script.{lines_len}
use Rattle.generated_session.proofs.Along.{says_none}
use Rattle.generated_session.proofs.Unarmed.{never_armed}

-- the lines of an order, and the files that they upload
abbrev pub lines_of : Order → List Event
lines_of order = generated_lines order.seed order.files order.pieces

-- ---- before the clouds are opened

abbrev pub Opens : Setting → Type 0
Opens s = (s.shape.n ≡ 4) × (s.shape.k ≡ 3) × (s.rooms ≡ usual_rooms)

module _ (laws : Laws) (order : Order) (call : Passing) (s : Setting) (four : Opens s) (told : (cloud : ℕ) → s.told cloud ≡ (call.old cloud).told)
    (prepares : PreparesAll (header_in s) s.shape call.old call.new) (sank : call.sink_after ≡ call.sink_before) (still : call.after ≡ call.before) where
  unopened : (end : ReplayEnd) → (status_of end ≡ 0 → ⊥) → AreSpared s.shape.n call.old call.new → IsCaused end order call (unopened_of s call.old) → IsSummaryWritten end order call (unopened_of s call.old) → Generates end order call
  unopened end some spared cause summed = record {
    run = unopened_of s call.old;
    replayed = replayed_unopened laws (status_of end) (start_of call.old) s call.new some told prepares;
    shape = (four.0, four.1);
    rooms = four.2;
    lines = (lines_of order, refl);
    unarmed = never_armed call.old call.new (unopened_of s call.old) order.seed order.files order.pieces (lines_of order) refl
        (replayed_unopened laws (status_of end) (start_of call.old) s call.new some told prepares).arms;
    began = λ o. absurd (let f : false ≡ true = o in cc);
    spared = subst (λ (n : ℕ). AreSpared n call.old call.new) four.0 spared;
    cause = cause;
    summed = summed;
  }

  nothing : Appends call.before call.after []
  nothing = appends_none call.before call.after still

  below : (cloud : ℕ) → cloud < s.shape.n → cloud < 4
  below cloud lt = subst (λ (n : ℕ). cloud < n) four.0 lt

  pub ends_unmade : AreSame call.old call.new → Generates ends.NoMemory order call
  ends_unmade same = unopened ends.NoMemory (λ e. apart 6 0 refl e) (spared_same s.shape.n call.old call.new same) sank nothing

  pub ends_unopened : (end : ReplayEnd) → EndsUnopened s.shape call.old call.new end → Generates end order call
  ends_unopened (ends.NotEmpty cloud area len) x =
      unopened (ends.NotEmpty cloud area len) (λ e. apart 7 0 refl e) (spared_by s.shape call.old call.new (ends.NotEmpty cloud area len) x)
      (record { opened = refl; below = below cloud.0 x.0; sink = sank }, x.1, x.2) nothing
  ends_unopened (ends.ShelfFault cloud) x =
      unopened (ends.ShelfFault cloud) (λ e. apart 5 0 refl e) (spared_by s.shape call.old call.new (ends.ShelfFault cloud) x)
      (record { opened = refl; below = below cloud.0 x.0; sink = sank }, x.1, x.2) nothing
  ends_unopened (ends.Damaged cloud at byte) x =
      unopened (ends.Damaged cloud at byte) (λ e. apart 7 0 refl e) (spared_by s.shape call.old call.new (ends.Damaged cloud at byte) x)
      (record { opened = refl; below = below cloud.0 x.0; sink = sank }, x.1, subst (λ (n : ℕ). AreEmptyBelow call.old n) four.0 x.2) nothing
  ends_unopened (ends.Done events) x = absurd x
  ends_unopened (ends.Script line at found) x = absurd x
  ends_unopened ends.SourceFault x = absurd x
  ends_unopened ends.SinkFault x = absurd x
  ends_unopened ends.NoMemory x = absurd x

-- ---- behind the openings

-- the clouds are opened, and no line was carried out
pub made_first : {V : Type 0} (clouds : V → ℕ → Cloud) (laws : Laws) (begun : ℕ → Cloud) (s : Setting) (old new : LocalLink V)
    → IsReplayReady clouds (start_of begun) s old before_first None 0 None 0 → OpensClouds clouds old new old.servers.shape.n → (order : Order) → HasMade clouds begun s new (uploads (lines_of order)) [] 0 no_numbers
made_first clouds laws begun s old new ready to order = record {
  jobs = [];
  lines = 0;
  come = come_first clouds laws (start_of begun) s old before_first None 0 None 0 ready new to None 0 refl tt;
  script_is = refl;
  count_is = refl;
  numbers = numbers_none (uploads (lines_of order));
}

module _ {V : Type 0} (clouds : V → ℕ → Cloud) (laws : Laws) (order : Order) (call : Passing) (s : Setting) (four : Opens s) (link : LocalLink V) (now : clouds link.shelf.now ≡ call.new)
    (image : (cloud : ℕ) → IsTrue (clouds link.shelf.now cloud).told → IsImage (clouds link.shelf.now cloud).now (reads (clouds link.shelf.now cloud).now)) where
  opened : (end : ReplayEnd) (history : List Answered) (at : Vault) (begun : Option Begun) (last : ℕ → Peer) → Holds (start_of call.old) s (clouds link.shelf.now) history at begun last
      → (status_of end ≡ 0 → (cloud : ℕ) → cloud < s.shape.n → (last cloud).faults ≡ (clouds link.shelf.now cloud).faults) → ((cloud : ℕ) → (clouds link.shelf.now cloud).told ≡ (call.old cloud).told)
      → (rest : List Event) → script_of history ++ event_of begun ++ rest ≡ lines_of order
      → IsCaused end order call (session_of s history at begun last) → IsSummaryWritten end order call (session_of s history at begun last) → Generates end order call
  opened end history at begun last holds same told rest lines cause summed = record {
    run = session_of s history at begun last;
    replayed = all;
    shape = (four.0, four.1);
    rooms = four.2;
    lines = (rest, lines);
    unarmed = never_armed call.old call.new (session_of s history at begun last) order.seed order.files order.pieces rest lines all.arms;
    began = λ o. subst (λ (n : ℕ). AreEmptyBelow call.old n) four.0 holds.began;
    spared = inl (subst (λ (n : ℕ). AreEmptyBelow call.old n) four.0 holds.began);
    cause = cause;
    summed = summed;
  }
    where
      all : Replayed (status_of end) call.old call.new (session_of s history at begun last)
      all = subst (λ (f : ℕ → Cloud). Replayed (status_of end) call.old f (session_of s history at begun last)) now
          (replayed laws (status_of end) (start_of call.old) s (clouds link.shelf.now) history at begun last holds same image told)

  -- want of memory stopped it
  pub ends_stopped : Part → Here → IsStopped clouds call.old s link (lines_of order) → call.sink_after ≡ call.sink_before → call.after ≡ call.before → Generates ends.NoMemory order call
  ends_stopped part here (inl p) sank still =
      opened ends.NoMemory p.come.history p.come.at None p.come.at.peers
      (holds_between clouds (start_of call.old) s link p.jobs before_first None 0 None 0 p.lines p.come) (λ e. apart 6 0 refl e)
      (λ cloud. p.come.is_at.link_at.told cloud ∙ p.come.told cloud) p.rest
      (ap (λ (l : List Event). l ++ p.rest) (append-nil (script_of p.come.history)) ∙ p.script_is) sank (appends_none call.before call.after still)
  ends_stopped part here (inr b) sank still =
      opened ends.NoMemory b.come.history b.come.at (Some (record { event = b.event; moments = b.cut.moments })) b.cut.last
      (holds_cut clouds (start_of call.old) s b.before b.jobs before_first None 0 None 0 b.lines b.come link b.event before_first None b.can (says_none s.shape (length b.jobs) b.event) b.leaves part here b.cut)
      (λ e. apart 6 0 refl e) (λ cloud. b.leaves.told cloud ∙ b.come.is_at.link_at.told cloud ∙ b.come.told cloud) b.rest
      (append_assoc (script_of b.come.history) (b.event ∷ []) b.rest ∙ b.script_is) sank (appends_none call.before call.after still)

  module _ (n : Numbers) (made : HasMade clouds call.old s link (uploads (lines_of order)) (lines_of order) order.files n) where
    run : Session
    run = session_of s made.come.history made.come.at None made.come.at.peers

    whole : IsSessionWhole order (session_of s made.come.history made.come.at None made.come.at.peers)
    whole = record { opened = refl; begun = refl; lines = made.script_is }

    numbers : HasNumbers (uploads (script_of made.come.history)) made.come.history n
    numbers = subst (λ (l : List Event). HasNumbers (uploads l) made.come.history n) (sym made.script_is) made.numbers

    all_lines : script_of made.come.history ++ [] ++ [] ≡ lines_of order
    all_lines = append-nil (script_of made.come.history ++ []) ∙ append-nil (script_of made.come.history) ∙ made.script_is

    count : (events : ℕ) → events ≡ 3 * order.files → events ≡ length made.come.history
    count events e = e ∙ sym (lines_len order.seed order.files order.pieces) ∙ sym (ap length made.script_is) ∙ length-map made.come.history (λ (a : Answered). a.event)

    pub ends_done : (events : ℕ) (text : List ℕ) → events ≡ 3 * order.files → text ≡ summary_text order.files n → Appends call.before call.after text → call.sink_after ≡ call.sink_before → Generates (ends.Done events) order call
    ends_done events text e is wrote sank =
        opened (ends.Done events) made.come.history made.come.at None made.come.at.peers
        (holds_between clouds (start_of call.old) s link made.jobs before_first None 0 None 0 made.lines made.come) (λ e cloud lt. (made.come.is_at.link_at.stands cloud lt).faults)
        (λ cloud. made.come.is_at.link_at.told cloud ∙ made.come.told cloud) [] all_lines (whole, count events e, sank)
        (record { numbers = n; are = numbers; text = text; front = append-nil text ∙ is; written = wrote })

    pub ends_sink : (text : List ℕ) (end : ReplayEnd) → text ≡ summary_text order.files n → EndsSink text call.before call.after call.sink_before call.sink_after end → Generates end order call
    ends_sink text ends.SinkFault is x =
        opened ends.SinkFault made.come.history made.come.at None made.come.at.peers
        (holds_between clouds (start_of call.old) s link made.jobs before_first None 0 None 0 made.lines made.come) (λ e. apart 4 0 refl e)
        (λ cloud. made.come.is_at.link_at.told cloud ∙ made.come.told cloud) [] all_lines (whole, x.1)
        (x.0.1, record { numbers = n; are = numbers; text = x.0.0; front = x.0.2 ∙ is; written = x.0.3 })
    ends_sink text (ends.Done events) is x = absurd x
    ends_sink text (ends.Script line at found) is x = absurd x
    ends_sink text ends.SourceFault is x = absurd x
    ends_sink text (ends.ShelfFault cloud) is x = absurd x
    ends_sink text (ends.NotEmpty cloud area len) is x = absurd x
    ends_sink text (ends.Damaged cloud at byte) is x = absurd x
    ends_sink text ends.NoMemory is x = absurd x

-- ---- where nothing fails

none_rose : (before now : ℕ) → HasNotRisen before now → Rose before now → ⊥
none_rose before now still rose = let same = still.0 in let few = still.1 in omega arith

pub goes_well : (end : ReplayEnd) (order : Order) (call : Passing) → Generates end order call → GoesWell call → IsDone end
goes_well (ends.Done events) order call g well = tt
goes_well ends.NoMemory order call g well = tt
goes_well (ends.Script line at found) order call g well = absurd g.cause
goes_well ends.SourceFault order call g well = absurd g.cause
goes_well ends.SinkFault order call g well = absurd (none_rose call.sink_before call.sink_after well.sink g.cause.1)
goes_well (ends.NotEmpty cloud area len) order call g well =
    let lt = g.cause.0.below in
    absurd (g.cause.1.some (g.cause.1.len_is (well.told cloud.0 lt) ∙ ap length (well.empty cloud.0 area lt)))
goes_well (ends.Damaged cloud at byte) order call g well =
    let told = well.told cloud.0 g.cause.0.below in absurd (let e : true ≡ false = sym told ∙ g.cause.1 in cc)
goes_well (ends.ShelfFault cloud) order call g well =
    absurd (none_rose (call.old cloud.0).faults (call.new cloud.0).faults (well.counts cloud.0 g.cause.0.below)
    (subst (λ (p : Peer). Rose p.faults (call.new cloud.0).faults) last_is g.cause.1))
  where
    last_is : g.run.last cloud.0 ≡ no_commands (call.old cloud.0)
    last_is = unmoved g.run g.cause.0.opened g.replayed.carried
      where
        unmoved : (run : Session) → run.opened ≡ false → IsRun call.old run → run.last cloud.0 ≡ no_commands (call.old cloud.0)
        unmoved run closed is =
            let u = is.unopened closed in
            let last = subst (λ (b : Option Begun). MatchOption b (run.last ≡ run.between.peers) (λ b. IsPartOf run.setting run.between b run.last)) u.1 is.begun in
            let turns = subst (λ (h : List Answered). Turns run.setting (opening call.old) h run.between) u.0 is.answered in
            ap (λ (f : ℕ → Peer). f cloud.0) (last ∙ ap (λ (v : Vault). v.peers) turns)
