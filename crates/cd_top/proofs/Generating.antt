-- From the end of a generated session to the end of the program, and where nothing fails.
use Rattle.std.proofs.Common.{◌≡◌, ℕ, true, false, List, [], length, Option, inl, inr, refl, sym, ap, ◌∙◌, subst, subst₂, append-nil, arith}
use Rattle.std.specs.Prelude.{◌⊎◌}
use Rattle.std.specs.Io.KnownBytes.{Appends}
use Rattle.delete_command.specs.CdEdges.Causes.{Rose}
use Rattle.delete_command.specs.CdEdges.Disk.{Cloud}
use Rattle.generated_session.specs.SessionModel.Headline.{Session, IsRun}
use Rattle.generated_session.specs.ReplayCore.end.ReplayEnd.{ReplayEnd}
use Rattle.generated_session.specs.ReplayCore.end.ReplayEnd.TheVariants as ends
use Rattle.generated_session.specs.ReplayCore.Replayed.{Replayed, status_of}
use Rattle.script_replay.specs.Endings.{ending_of}
use Rattle.generated_session.specs.Numbers.{summary_text}
use Rattle.generated_session.specs.Generates as generator
use Rattle.generated_session.specs.Generates.{Order, Passing, Generates, WritesSummary, IsSummaryWritten}
use Rattle.command_words.specs.Asked.{AskedSession}
use Rattle.migrate_command.proofs.ServeCommand.Texts.{appends_nothing}
use Rattle.migrate_command.proofs.ServeCommand.Completing.{not_risen}
use Rattle.cd_top.specs.Ends.{WantsLast, WantsNone, HasLastLine, Silent, Said, CutShort, Unsaid}
use Rattle.cd_top.specs.Generate.{IsSessionCaused, IsTextDue, IsSessionClosed, Whole, Short, HasMadeOrCause, NoPlace, MadeTo, NothingFails, IsGenerated, order_of}
use Rattle.cd_top.specs.Read.{Around}
use Rattle.cd_top.specs.Replay.{ending_text}
use Rattle.cd_top.proofs.Closing.{other_status, rose_since}
use Rattle.cd_top.proofs.Completing.{counts_unopened}
use Rattle.cd_top.proofs.Texts.{appends_both}

-- ---- the end of the session, and its text

-- the call of the program around the making of the session
abbrev around_of : Passing → ℕ → ℕ → ℕ → Around
around_of call total total_after now = record {
  sink_before = call.sink_before;
  sink_after = now;
  total_before = total;
  total_after = total_after;
  old = call.old;
  new = call.new;
}

module _ (order : Order) (call : Passing) (total total_after now : ℕ) (after : Option (List ℕ)) where
  abbrev around : Around
  around = around_of call total total_after now

  -- the same session, which is said to have come to this end
  made_as : (end said : ReplayEnd) (status : ℕ) (g : Generates end order call) → Replayed status call.old call.new g.run
      → IsSessionCaused said order around g.run → (text : List ℕ) → IsTextDue said order g.run text
      → IsSessionClosed status said text around call.before after → HasMadeOrCause status around order call.before after
  made_as end said status g replayed cause text due closed = MadeTo said (record {
    run = g.run;
    replayed = replayed;
    ordered = record { shape = g.shape; rooms = g.rooms; lines = g.lines };
    unarmed = g.unarmed;
    began = g.began;
    spared = g.spared;
    cause = cause;
    text = text;
    due = due;
    closed = closed;
  })

  at_status : (end : ReplayEnd) (status : ℕ) (g : Generates end order call) → status ≡ status_of end → Replayed status call.old call.new g.run
  at_status end status g is = subst (λ (n : ℕ). Replayed n call.old call.new g.run) (sym is) g.replayed

  -- what was appended before nothing more was written
  still_appended : (text : List ℕ) → after ≡ call.after → Appends call.before call.after text → Appends call.before after text
  still_appended text same wrote = subst (λ (o : Option (List ℕ)). Appends call.before o text) (sym same) wrote

  whole_summary : (events status : ℕ) (g : Generates (ends.Done events) order call) → WritesSummary order call g.run [] → status ≡ 0 → after ≡ call.after → now ≡ call.sink_after
      → HasMadeOrCause status around order call.before after
  whole_summary events status g w is same still =
      made_as (ends.Done events) (ends.Done events) status g (at_status (ends.Done events) status g is) (g.cause.0, g.cause.1)
      w.text (w.numbers, w.are, sym (append-nil w.text) ∙ w.front) (Whole is (still_appended w.text same w.written) (still ∙ g.cause.2))

  short_summary : (status : ℕ) (g : Generates ends.SinkFault order call) (rest : List ℕ) → WritesSummary order call g.run rest → status ≡ 4 → after ≡ call.after → now ≡ call.sink_after
      → HasMadeOrCause status around order call.before after
  short_summary status g rest w is same still =
      made_as ends.SinkFault (ends.Done (length g.run.history)) status g (at_status ends.SinkFault status g is) (g.cause.0, refl)
      (summary_text order.files w.numbers) (w.numbers, w.are, refl)
      (Short is (record { text = w.text; more = rest; front = w.front; written = still_appended w.text same w.written })
      (subst (λ (n : ℕ). Rose call.sink_before n) (sym still) g.cause.1))

  no_summary : (status : ℕ) (g : Generates ends.NoMemory order call) → status ≡ 6 → after ≡ call.after → now ≡ call.sink_after → HasMadeOrCause status around order call.before after
  no_summary status g is same still =
      made_as ends.NoMemory ends.NoMemory status g (at_status ends.NoMemory status g is) tt [] refl (Whole is (still_appended [] same g.summed) (still ∙ g.cause))

  silent : (end : ReplayEnd) (status : ℕ) → Generates end order call → WantsNone end → status ≡ status_of end → after ≡ call.after → now ≡ call.sink_after → HasMadeOrCause status around order call.before after
  silent (ends.Done events) status g none is same still = whole_summary events status g g.summed is same still
  silent ends.SinkFault status g none is same still = short_summary status g g.summed.0 g.summed.1 is same still
  silent ends.NoMemory status g none is same still = no_summary status g is same still
  silent ends.SourceFault status g none is same still = absurd g.cause
  silent (ends.Script line at found) status g none is same still = absurd none
  silent (ends.ShelfFault cloud) status g none is same still = absurd none
  silent (ends.NotEmpty cloud area len) status g none is same still = absurd none
  silent (ends.Damaged cloud at byte) status g none is same still = absurd none

  -- an end before the clouds are opened: its cause, the sink, and what was written
  cause_unopened : (end : ReplayEnd) (run : Session) → WantsLast end → generator.IsCaused end order call run → IsSessionCaused end order around run
  cause_unopened (ends.ShelfFault cloud) run wants x = (x.0.opened, x.0.below, x.1, x.2)
  cause_unopened (ends.NotEmpty cloud area len) run wants x = (x.0.opened, x.0.below, x.1, x.2)
  cause_unopened (ends.Damaged cloud at byte) run wants x = (x.0.opened, x.0.below, x.1, x.2)
  cause_unopened (ends.Script line at found) run wants x = absurd x
  cause_unopened (ends.Done events) run wants x = absurd wants
  cause_unopened ends.SourceFault run wants x = absurd wants
  cause_unopened ends.SinkFault run wants x = absurd wants
  cause_unopened ends.NoMemory run wants x = absurd wants

  sink_unopened : (end : ReplayEnd) (run : Session) → WantsLast end → generator.IsCaused end order call run → call.sink_after ≡ call.sink_before
  sink_unopened (ends.ShelfFault cloud) run wants x = x.0.sink
  sink_unopened (ends.NotEmpty cloud area len) run wants x = x.0.sink
  sink_unopened (ends.Damaged cloud at byte) run wants x = x.0.sink
  sink_unopened (ends.Script line at found) run wants x = absurd x
  sink_unopened (ends.Done events) run wants x = absurd wants
  sink_unopened ends.SourceFault run wants x = absurd wants
  sink_unopened ends.SinkFault run wants x = absurd wants
  sink_unopened ends.NoMemory run wants x = absurd wants

  nothing_summed : (end : ReplayEnd) (run : Session) → WantsLast end → IsSummaryWritten end order call run → Appends call.before call.after []
  nothing_summed (ends.ShelfFault cloud) run wants summed = summed
  nothing_summed (ends.NotEmpty cloud area len) run wants summed = summed
  nothing_summed (ends.Damaged cloud at byte) run wants summed = summed
  nothing_summed (ends.Script line at found) run wants summed = summed
  nothing_summed (ends.Done events) run wants summed = absurd wants
  nothing_summed ends.SourceFault run wants summed = absurd wants
  nothing_summed ends.SinkFault run wants summed = absurd wants
  nothing_summed ends.NoMemory run wants summed = absurd wants

  line_due : (end : ReplayEnd) (run : Session) → WantsLast end → IsTextDue end order run (ending_text (ending_of end))
  line_due (ends.ShelfFault cloud) run wants = refl
  line_due (ends.NotEmpty cloud area len) run wants = refl
  line_due (ends.Damaged cloud at byte) run wants = refl
  line_due (ends.Script line at found) run wants = refl
  line_due (ends.Done events) run wants = absurd wants
  line_due ends.SourceFault run wants = absurd wants
  line_due ends.SinkFault run wants = absurd wants
  line_due ends.NoMemory run wants = absurd wants

  pub makes : (end : ReplayEnd) (status : ℕ) → Generates end order call → HasLastLine end status call.after after call.sink_after now → HasMadeOrCause status around order call.before after
  makes end status g (Silent none is same still) = silent end status g none is same still
  makes end status g (Said wants is wrote still) =
      made_as end end status g (at_status end status g is) (cause_unopened end g.run wants g.cause) (ending_text (ending_of end)) (line_due end g.run wants)
      (Whole is (appends_both call.before call.after after [] (ending_text (ending_of end)) (nothing_summed end g.run wants g.summed) wrote) (still ∙ sink_unopened end g.run wants g.cause))
  makes end status g (CutShort wants is front rose) =
      made_as end end status g
      (subst (λ (n : ℕ). Replayed n call.old call.new g.run) (sym is) (other_status (status_of end) 4 call.old call.new g.run (λ e. omega (arith, e)) g.replayed))
      (cause_unopened end g.run wants g.cause) (ending_text (ending_of end)) (line_due end g.run wants)
      (Short is (record {
        text = front.text;
        more = front.more;
        front = front.front;
        written = appends_both call.before call.after after [] front.text (nothing_summed end g.run wants g.summed) front.written;
      }) (rose_since call.sink_before call.sink_after now (sink_unopened end g.run wants g.cause) rose))
  makes end status g (Unsaid wants is same still) =
      made_as end ends.NoMemory status g
      (subst (λ (n : ℕ). Replayed n call.old call.new g.run) (sym is) (other_status (status_of end) 6 call.old call.new g.run (λ e. omega (arith, e)) g.replayed))
      tt [] refl (Whole is (still_appended [] same (nothing_summed end g.run wants g.summed)) (still ∙ sink_unopened end g.run wants g.cause))

-- ---- where nothing fails

module _ (c : Around) (order : Order) (well : NothingFails c) where
  written_whole : (status : ℕ) (end : ReplayEnd) (text : List ℕ) (before after : Option (List ℕ)) → IsSessionClosed status end text c before after → status ≡ status_of end
  written_whole status end text before after (Whole is wrote still) = is
  written_whole status end text before after (Short is front rose) = absurd (not_risen c.sink_before c.sink_after well.sink rose)

  no_other_end : (end : ReplayEnd) (run : Session) → IsRun c.old run → IsSessionCaused end order c run → (status_of end ≡ 0) ⊎ (status_of end ≡ 6)
  no_other_end (ends.Done events) run carried cause = inl refl
  no_other_end ends.NoMemory run carried cause = inr refl
  no_other_end (ends.ShelfFault cloud) run carried cause =
      absurd (not_risen (c.old cloud.0).faults (c.new cloud.0).faults (well.counts cloud.0 cause.1)
      (subst (λ (n : ℕ). Rose n (c.new cloud.0).faults) (counts_unopened c.old run carried cause.0 cloud.0) cause.2))
  no_other_end (ends.NotEmpty cloud area len) run carried cause =
      let new = well.clouds cloud.0 cause.1 in absurd (cause.2.some (cause.2.len_is new.0 ∙ ap (λ (l : List ℕ). length l) (new.1 area)))
  no_other_end (ends.Damaged cloud at byte) run carried cause =
      let new = well.clouds cloud.0 cause.1 in absurd (let e : false ≡ true = sym cause.2 ∙ new.0 in cc)
  no_other_end (ends.Script line at found) run carried cause = absurd cause
  no_other_end ends.SourceFault run carried cause = absurd cause
  no_other_end ends.SinkFault run carried cause = absurd cause

  completes_session : (status : ℕ) (before after : Option (List ℕ)) → HasMadeOrCause status c order before after → (status ≡ 0) ⊎ (status ≡ 6)
  completes_session status before after (NoPlace five untouched rose) = absurd (not_risen c.total_before c.total_after well.total rose)
  completes_session status before after (MadeTo end m) =
      let is = written_whole status end m.text before after m.closed in elim (no_other_end end m.run m.replayed.carried m.cause) [
        | inl zero ↦ inl (is ∙ zero)
        | inr six ↦ inr (is ∙ six)
      ]

-- ---- the place of the clouds

pub unplaced_session : (c : Around) (g : AskedSession) (before : Option (List ℕ)) → ((cloud : ℕ) → c.new cloud ≡ c.old cloud) → c.sink_after ≡ c.sink_before → Rose c.total_before c.total_after
    → IsGenerated 5 c g before before
unplaced_session c g before same still rose = record {
  made = NoPlace refl (record { written = appends_nothing before; clouds = same; sink = still }) rose;
  complete = λ well. absurd (not_risen c.total_before c.total_after well.total rose);
}

made_there : (status : ℕ) (g : AskedSession) (end : ReplayEnd) (call : Passing) (total total_after now : ℕ) (after : Option (List ℕ)) → Generates end (order_of g) call
    → HasLastLine end status call.after after call.sink_after now → IsGenerated status (around_of call total total_after now) g call.before after
made_there status g end call total total_after now after generates closes =
    let made = makes (order_of g) call total total_after now after end status generates closes in record {
      made = made;
      complete = λ well. completes_session (around_of call total total_after now) (order_of g) well status call.before after made;
    }

-- the naming of the place changed no cloud and no count
pub made_in : (status : ℕ) (g : AskedSession) (end : ReplayEnd) (middle old new : ℕ → Cloud) (count total total_after sink_before sink_made now : ℕ) (before made after : Option (List ℕ))
    → ((cloud : ℕ) → middle cloud ≡ old cloud) → count ≡ total
    → Generates end (order_of g) (record {
      sink_before = sink_before;
      sink_after = sink_made;
      before = before;
      after = made;
      old = middle;
      new = new;
    })
    → HasLastLine end status made after sink_made now
    → IsGenerated status (record {
      sink_before = sink_before;
      sink_after = now;
      total_before = total;
      total_after = total_after;
      old = old;
      new = new;
    }) g before after
made_in status g end middle old new count total total_after sink_before sink_made now before made after same still generates closes =
    subst₂ (λ (o : ℕ → Cloud) (n : ℕ). IsGenerated status (record {
      sink_before = sink_before;
      sink_after = now;
      total_before = n;
      total_after = total_after;
      old = o;
      new = new;
    }) g before after) (λ i cloud. same cloud i) still (made_there status g end (record {
      sink_before = sink_before;
      sink_after = sink_made;
      before = before;
      after = made;
      old = middle;
      new = new;
    }) count total_after now after generates closes)
