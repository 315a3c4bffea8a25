-- From a replay's end to the end of the program: the last line, and what its failure changes.
use Rattle.std.proofs.Common.{◌≡◌, ℕ, List, [], ◌++◌, length, Option, inl, inr, refl, sym, ap, ◌∙◌, subst, subst₂, append_assoc, append-nil, arith}
use Rattle.std.specs.Prelude.{◌≢◌, ◌⊎◌}
use Rattle.std.specs.Io.KnownBytes.{Appends}
use Rattle.delete_command.specs.CdEdges.Causes.{Rose}
use Rattle.delete_command.specs.CdEdges.Disk.{Cloud}
use Rattle.two_worlds.specs.Session.Texts.{text_of}
use Rattle.generated_session.specs.SessionModel.Headline.{Session, due}
use Rattle.generated_session.specs.ReplayCore.end.ReplayEnd.{ReplayEnd}
use Rattle.generated_session.specs.ReplayCore.end.ReplayEnd.TheVariants as ends
use Rattle.script_replay.specs.Endings.{ReplayCall, EndingLine, HasStatusCause, IsDue, ending_of}
use Rattle.script_replay.specs.Endings as due_lines
use Rattle.generated_session.specs.ReplayCore.Replayed.{Replayed, status_of}
use Rattle.script_replay.specs.Written.{HasReplayed, IsPrinted, IsTextCut, IsLast}
use Rattle.cd_top.specs.Ends.{WantsLast, WantsNone, HasLastLine, Silent, Said, CutShort, Unsaid}
use Rattle.cd_top.specs.Replay.{ending_text, due_text, IsReplayWritten, IsReplayed, until, WritesFront}
use Rattle.cd_top.proofs.Texts.{appends_both}

-- ---- what another count of the sink leaves

due_until : (call : ReplayCall) (faults : ℕ) (run : Session) (line : EndingLine) → IsDue call run line → IsDue (until call faults) run line
due_until call faults run due_lines.NoEnding is = is
due_until call faults run (due_lines.DoneEnding events) is = is
due_until call faults run (due_lines.ScriptEnding line fault) is = is
due_until call faults run (due_lines.ShelfEnding cloud) is = is
due_until call faults run (due_lines.StoreEnding cloud area len) is = is
due_until call faults run (due_lines.DamagedEnding cloud at byte) is = is

-- the same status
same_cause : (status : ℕ) (call : ReplayCall) (faults : ℕ) (run : Session) (line : EndingLine) → faults ≡ call.sink_after → HasStatusCause status call run line → HasStatusCause status (until call faults) run line
same_cause status call faults run line same cause = record {
  known = cause.known;
  header = cause.header;
  read = cause.read;
  began = cause.began;
  spared = cause.spared;
  due = due_until call faults run line cause.due;
  done = cause.done;
  wrong = cause.wrong;
  source = cause.source;
  sink = λ four. subst (λ n. Rose call.sink_before n) (sym same) (cause.sink four);
  sink_still = λ other more. same ∙ cause.sink_still other more;
  shelf = cause.shelf;
  store = cause.store;
}

-- the sink failed, where this line was due
sink_cause : (status : ℕ) (call : ReplayCall) (faults : ℕ) (run : Session) (line last : EndingLine) → HasStatusCause status call run line → IsDue call run last → Rose call.sink_before faults → HasStatusCause 4 (until call faults) run last
sink_cause status call faults run line last cause is rose = record {
  known = (omega arith, λ e. omega (arith, e));
  header = cause.header;
  read = cause.read;
  began = cause.began;
  spared = cause.spared;
  due = due_until call faults run last is;
  done = λ e. absurd (omega (arith, e));
  wrong = λ e. absurd (omega (arith, e));
  source = λ e. absurd (omega (arith, e));
  sink = λ e. rose;
  sink_still = λ other more. absurd (other refl);
  shelf = λ e. absurd (omega (arith, e));
  store = λ e. absurd (omega (arith, e));
}

-- memory ran out, where this line was due
memory_cause : (status : ℕ) (call : ReplayCall) (faults : ℕ) (run : Session) (line last : EndingLine) → HasStatusCause status call run line → IsDue call run last → HasStatusCause 6 (until call faults) run last
memory_cause status call faults run line last cause is = record {
  known = (omega arith, λ e. omega (arith, e));
  header = cause.header;
  read = cause.read;
  began = cause.began;
  spared = cause.spared;
  due = due_until call faults run last is;
  done = λ e. absurd (omega (arith, e));
  wrong = λ e. absurd (omega (arith, e));
  source = λ e. absurd (omega (arith, e));
  sink = λ e. absurd (omega (arith, e));
  sink_still = λ other more. absurd (more refl);
  shelf = λ e. absurd (omega (arith, e));
  store = λ e. absurd (omega (arith, e));
}

-- another status than 0 promises no more
pub other_status : (status now : ℕ) (old new : ℕ → Cloud) (run : Session) → now ≢ 0 → Replayed status old new run → Replayed now old new run
other_status status now old new run other r = record {
  told_so = r.told_so;
  carried = r.carried;
  counts = λ cloud lt. record { faults = (r.counts cloud lt).faults; armings = (r.counts cloud lt).armings; same = λ zero. absurd (other zero) };
  arms = r.arms;
  others = r.others;
  given = r.given;
  more = r.more;
  kept = r.kept;
  disks = r.disks;
  reads_so = λ zero. absurd (other zero);
  private = r.private;
  faults = r.faults;
  worlds = r.worlds;
}

pub rose_since : (before middle now : ℕ) → middle ≡ before → Rose middle now → Rose before now
rose_since before middle now same rose = subst (λ n. Rose n now) same rose

four_is_cut : {A : Type 0} → (◌≡◌ {A = ℕ} 4 0) ⊎ ((◌≡◌ {A = ℕ} 4 2) ⊎ ((◌≡◌ {A = ℕ} 4 5) ⊎ (◌≡◌ {A = ℕ} 4 7))) → A
four_is_cut (inl e) = absurd (omega (arith, e))
four_is_cut (inr (inl e)) = absurd (omega (arith, e))
four_is_cut (inr (inr (inl e))) = absurd (omega (arith, e))
four_is_cut (inr (inr (inr e))) = absurd (omega (arith, e))

six_is_cut : {A : Type 0} → (◌≡◌ {A = ℕ} 6 0) ⊎ ((◌≡◌ {A = ℕ} 6 2) ⊎ ((◌≡◌ {A = ℕ} 6 5) ⊎ (◌≡◌ {A = ℕ} 6 7))) → A
six_is_cut (inl e) = absurd (omega (arith, e))
six_is_cut (inr (inl e)) = absurd (omega (arith, e))
six_is_cut (inr (inr (inl e))) = absurd (omega (arith, e))
six_is_cut (inr (inr (inr e))) = absurd (omega (arith, e))

-- ---- ends whose last line is written, or that have none

-- the line whose front may stand at the end of a text that was cut
cut_line : (call : ReplayCall) (run : Session) (last : List ℕ) → IsLast call run last → (line : EndingLine) × (ending_text line ≡ last) × IsDue call run line
cut_line call run last (inl none) = (due_lines.NoEnding, sym none, tt)
cut_line call run last (inr done) = (due_lines.DoneEnding (length run.history), sym done.0, done.1)

sink_cut : (call : ReplayCall) (faults : ℕ) (before after : Option (List ℕ)) (run : Session) (line : EndingLine) → faults ≡ call.sink_after
    → Replayed 4 call.old call.new run → HasStatusCause 4 call run line → IsTextCut call run before after → IsReplayed 4 (until call faults) before after
sink_cut call faults before after run line same r cause cut =
    let last = cut_line call run cut.last cut.last_is in record {
      run = run;
      line = last.0;
      replayed = r;
      text = record {
        text = cut.text;
        more = cut.more;
        front = cut.front ∙ ap (λ l. text_of (due run) ++ l) (sym last.1);
        whole = four_is_cut;
        written = cut.written;
      };
      cause = sink_cause 4 call faults run line last.0 cause last.2 (subst (λ n. Rose call.sink_before n) (sym same) (cause.sink refl));
    }

memory_cut : (call : ReplayCall) (faults : ℕ) (before after : Option (List ℕ)) (run : Session) (line : EndingLine)
    → Replayed 6 call.old call.new run → HasStatusCause 6 call run line → IsTextCut call run before after → IsReplayed 6 (until call faults) before after
memory_cut call faults before after run line r cause cut =
    let last = cut_line call run cut.last cut.last_is in record {
      run = run;
      line = last.0;
      replayed = r;
      text = record {
        text = cut.text;
        more = cut.more;
        front = cut.front ∙ ap (λ l. text_of (due run) ++ l) (sym last.1);
        whole = six_is_cut;
        written = cut.written;
      };
      cause = memory_cause 6 call faults run line last.0 cause last.2;
    }

-- a text that is whole
written_whole : (status : ℕ) (before after : Option (List ℕ)) (run : Session) (line : EndingLine) → Appends before after (due_text run line) → IsReplayWritten status before after run line
written_whole status before after run line written = record {
  text = due_text run line;
  more = [];
  front = append-nil (due_text run line);
  whole = λ is. refl;
  written = written;
}

closes : (end : ReplayEnd) (call : ReplayCall) (faults : ℕ) (before after : Option (List ℕ)) → WantsNone end → faults ≡ call.sink_after → HasReplayed end call before after → IsReplayed (status_of end) (until call faults) before after
closes (ends.Done events) call faults before after none same r = record {
  run = r.run;
  line = due_lines.DoneEnding events;
  replayed = r.replayed;
  text = written_whole 0 before after r.run (due_lines.DoneEnding events) r.printed;
  cause = same_cause 0 call faults r.run (due_lines.DoneEnding events) same r.cause;
}
closes (ends.Script line at found) call faults before after none same r = absurd none
closes ends.SourceFault call faults before after none same r = record {
  run = r.run;
  line = due_lines.NoEnding;
  replayed = r.replayed;
  text = written_whole 3 before after r.run due_lines.NoEnding (subst (λ l. Appends before after l) (sym (append-nil (text_of (due r.run)))) r.printed);
  cause = same_cause 3 call faults r.run due_lines.NoEnding same r.cause;
}
closes ends.SinkFault call faults before after none same r = sink_cut call faults before after r.run due_lines.NoEnding same r.replayed r.cause r.printed.1
closes (ends.ShelfFault cloud) call faults before after none same r = absurd none
closes ends.NoMemory call faults before after none same r = memory_cut call faults before after r.run due_lines.NoEnding r.replayed r.cause r.printed
closes (ends.NotEmpty cloud area len) call faults before after none same r = absurd none
closes (ends.Damaged cloud at byte) call faults before after none same r = absurd none

-- ---- ends whose last line is still to be written

lines_printed : (end : ReplayEnd) (call : ReplayCall) (run : Session) (before after : Option (List ℕ)) → WantsLast end → IsPrinted end call run before after → Appends before after (text_of (due run))
lines_printed (ends.Done events) call run before after wants printed = absurd wants
lines_printed (ends.Script line at found) call run before after wants printed = printed
lines_printed ends.SourceFault call run before after wants printed = absurd wants
lines_printed ends.SinkFault call run before after wants printed = absurd wants
lines_printed (ends.ShelfFault cloud) call run before after wants printed = printed
lines_printed ends.NoMemory call run before after wants printed = absurd wants
lines_printed (ends.NotEmpty cloud area len) call run before after wants printed = printed
lines_printed (ends.Damaged cloud at byte) call run before after wants printed = printed

no_sink_fault : (end : ReplayEnd) → WantsLast end → status_of end ≢ 4
no_sink_fault (ends.Done events) wants = absurd wants
no_sink_fault (ends.Script line at found) wants = λ e. omega (arith, e)
no_sink_fault ends.SourceFault wants = absurd wants
no_sink_fault ends.SinkFault wants = absurd wants
no_sink_fault (ends.ShelfFault cloud) wants = λ e. omega (arith, e)
no_sink_fault ends.NoMemory wants = absurd wants
no_sink_fault (ends.NotEmpty cloud area len) wants = λ e. omega (arith, e)
no_sink_fault (ends.Damaged cloud at byte) wants = λ e. omega (arith, e)

no_want_of_memory : (end : ReplayEnd) → WantsLast end → status_of end ≢ 6
no_want_of_memory (ends.Done events) wants = absurd wants
no_want_of_memory (ends.Script line at found) wants = λ e. omega (arith, e)
no_want_of_memory ends.SourceFault wants = absurd wants
no_want_of_memory ends.SinkFault wants = absurd wants
no_want_of_memory (ends.ShelfFault cloud) wants = λ e. omega (arith, e)
no_want_of_memory ends.NoMemory wants = absurd wants
no_want_of_memory (ends.NotEmpty cloud area len) wants = λ e. omega (arith, e)
no_want_of_memory (ends.Damaged cloud at byte) wants = λ e. omega (arith, e)

module _ (end : ReplayEnd) (call : ReplayCall) (before middle after : Option (List ℕ)) (faults now : ℕ) (last : List ℕ) (wants : WantsLast end)
    (same : faults ≡ call.sink_after) (named : ending_text (ending_of end) ≡ last) (r : HasReplayed end call before middle) where
  printed : Appends before middle (text_of (due r.run))
  printed = lines_printed end call r.run before middle wants r.printed

  whole : due_text r.run (ending_of end) ≡ text_of (due r.run) ++ last
  whole = ap (λ l. text_of (due r.run) ++ l) named

  -- the sink's count is still that of the start
  still : faults ≡ call.sink_before
  still = same ∙ r.cause.sink_still (no_sink_fault end wants) (no_want_of_memory end wants)

  pub says : Appends middle after last → now ≡ faults → IsReplayed (status_of end) (until call now) before after
  says appends kept = record {
    run = r.run;
    line = ending_of end;
    replayed = r.replayed;
    text = written_whole (status_of end) before after r.run (ending_of end) (subst (λ l. Appends before after l) (sym whole) (appends_both before middle after (text_of (due r.run)) last printed appends));
    cause = same_cause (status_of end) call now r.run (ending_of end) (kept ∙ same) r.cause;
  }

  pub fails_saying : WritesFront last middle after → Rose faults now → IsReplayed 4 (until call now) before after
  fails_saying front rose = record {
    run = r.run;
    line = ending_of end;
    replayed = other_status (status_of end) 4 call.old call.new r.run (λ e. omega (arith, e)) r.replayed;
    text = record {
      text = text_of (due r.run) ++ front.text;
      more = front.more;
      front = append_assoc (text_of (due r.run)) front.text front.more ∙ ap (λ l. text_of (due r.run) ++ l) front.front ∙ sym whole;
      whole = four_is_cut;
      written = appends_both before middle after (text_of (due r.run)) front.text printed front.written;
    };
    cause = sink_cause (status_of end) call now r.run (ending_of end) (ending_of end) r.cause r.cause.due (rose_since call.sink_before faults now still rose);
  }

  pub forgets : after ≡ middle → IsReplayed 6 (until call now) before after
  forgets nothing = record {
    run = r.run;
    line = ending_of end;
    replayed = other_status (status_of end) 6 call.old call.new r.run (λ e. omega (arith, e)) r.replayed;
    text = record {
      text = text_of (due r.run);
      more = last;
      front = sym whole;
      whole = six_is_cut;
      written = subst (λ o. Appends before o (text_of (due r.run))) (sym nothing) printed;
    };
    cause = memory_cause (status_of end) call now r.run (ending_of end) (ending_of end) r.cause r.cause.due;
  }

-- ---- the last line, whatever stands before it

module _ (end : ReplayEnd) (status : ℕ) (before after : Option (List ℕ)) (faults now : ℕ) (last : List ℕ) (wants : WantsLast end)
    (named : ending_text (ending_of end) ≡ last) where
  pub said_as : status ≡ status_of end → Appends before after last → now ≡ faults → HasLastLine end status before after faults now
  said_as is wrote still = Said wants is (subst (λ (l : List ℕ). Appends before after l) (sym named) wrote) still

  pub cut_as : status ≡ 4 → WritesFront last before after → Rose faults now → HasLastLine end status before after faults now
  cut_as is front rose = CutShort wants is (subst (λ (l : List ℕ). WritesFront l before after) (sym named) front) rose

-- ---- what that makes of a replay

-- what is promised at another status, of another sink
same_promise : (status other : ℕ) (call : ReplayCall) (before after changed : Option (List ℕ)) (faults now : ℕ) → other ≡ status → changed ≡ after → now ≡ faults
    → IsReplayed status (until call faults) before after → IsReplayed other (until call now) before changed
same_promise status other call before after changed faults now is same still r =
    subst (λ (n : ℕ). IsReplayed n (until call now) before changed) (sym is)
    (subst₂ (λ (o : Option (List ℕ)) (n : ℕ). IsReplayed status (until call n) before o) (sym same) (sym still) r)

pub replayed_by : (end : ReplayEnd) (status : ℕ) (call : ReplayCall) (before middle after : Option (List ℕ)) (faults now : ℕ) → HasLastLine end status middle after faults now
    → faults ≡ call.sink_after → HasReplayed end call before middle → IsReplayed status (until call now) before after
replayed_by end status call before middle after faults now (Silent none is same still) at r =
    same_promise (status_of end) status call before middle after faults now is same still (closes end call faults before middle none at r)
replayed_by end status call before middle after faults now (Said wants is wrote still) at r =
    subst (λ (n : ℕ). IsReplayed n (until call now) before after) (sym is)
    (says end call before middle after faults now (ending_text (ending_of end)) wants at refl r wrote still)
replayed_by end status call before middle after faults now (CutShort wants is front rose) at r =
    subst (λ (n : ℕ). IsReplayed n (until call now) before after) (sym is)
    (fails_saying end call before middle after faults now (ending_text (ending_of end)) wants at refl r front rose)
replayed_by end status call before middle after faults now (Unsaid wants is same still) at r =
    subst (λ (n : ℕ). IsReplayed n (until call now) before after) (sym is)
    (forgets end call before middle after faults now (ending_text (ending_of end)) wants at refl r same)
