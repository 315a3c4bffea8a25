-- Where nothing fails, a replay answers 0 or runs out of memory: each other status has a cause that isn't there.
use Rattle.std.proofs.Common.{◌≡◌, ◌<◌, ◌≤◌, ◌-◌, ◌^◌, ℕ, zero, suc, ◌+◌, true, false, List, [], ◌∷◌, length, Option, Some, None, Result, Ok, Err, inl, inr, refl, sym, ap, ◌∙◌, subst, arith}
use Rattle.std.specs.Prelude.{◌≢◌, ◌⊎◌, IfSome, MatchOption, IsTrue}
use Rattle.command_words.specs.JournalStart.rooms.UserRooms.{UserRooms}
use Rattle.command_words.specs.CdBase.shape.Shape.{Shape}
use Rattle.delete_command.specs.CdEdges.area.Area.{Area}
use Rattle.delete_command.specs.CdEdges.Causes.{Rose}
use Rattle.delete_command.specs.CdEdges.Disk.{Cloud}
use Rattle.delete_command.specs.UserDedup.Exec.{Peer}
use Rattle.two_worlds.specs.Session.Fault.{Fault}
use Rattle.two_worlds.specs.Session.Lines.{after_line}
use Rattle.two_worlds.specs.Session.Reading.{event_at}
use Rattle.two_worlds.specs.Session.event.Event.{Event}
use Rattle.two_worlds.specs.Session.Scripts.{ScriptPlace, Begins, LeadsThrough, Reaches, Says, IsEnd, IsWrong, IsWrongFirst, FailsIn, FailsFirst, behind}
use Rattle.generated_session.specs.SessionModel.Steps.{cloud_no}
use Rattle.generated_session.specs.SessionModel.Vault.{Vault, opening}
use Rattle.generated_session.specs.SessionModel.Run.{Answered, Turns}
use Rattle.generated_session.specs.SessionModel.Headline.{Session, Begun, IsRun, IsPartOf, script_in}
use Rattle.generated_session.proofs.SessionModel.Counts.{counts_last}
use Rattle.generated_session.specs.ReplayCore.Opening.{IsFirstFilled}
use Rattle.script_replay.specs.Endings.{ReplayCall, EndingLine, HasStatusCause, HasReadLines, HasReadSome, IsDue, IsOfScript, IsOfShelf, IsOfStore, IsLineWrongAt, MayFailIn}
use Rattle.script_replay.specs.Endings as due_lines
use Rattle.migrate_command.proofs.ServeCommand.Completing.{not_risen}
use Rattle.cd_top.specs.Complete.{IsStill, IsReplayUnhindered}
use Rattle.cd_top.specs.Replay.{IsReplayed}

-- ---- a script that is read to its end has no wrong line

same_line : (r : Result (Option (List ℕ)) Fault) (one other : List ℕ) → r ≡ Ok (Some one) → r ≡ Ok (Some other) → one ≡ other
same_line r one other first second = let e : Ok (Some one) ≡ Ok (Some other) = sym first ∙ second in cc

same_event : (r : Result Event Fault) (one other : Event) → r ≡ Ok one → r ≡ Ok other → one ≡ other
same_event r one other first second = let e : Ok one ≡ Ok other = sym first ∙ second in cc

not_ended : (r : Result (Option (List ℕ)) Fault) (line : List ℕ) → r ≡ Ok None → r ≡ Ok (Some line) → ⊥
not_ended r line first second = let e : Ok None ≡ Ok (Some line) = sym first ∙ second in cc

not_failed : {A : Type 0} (r : Result A Fault) (value : A) (fault : Fault) → r ≡ Ok value → r ≡ Err fault → ⊥
not_failed r value fault first second = let e : Ok value ≡ Err fault = sym first ∙ second in cc

same_next : (shape : Shape) (place : ScriptPlace) (one other : Event) (after behind_it : ScriptPlace) → Says shape place one after → Says shape place other behind_it → after ≡ behind_it
same_next shape place one other after behind_it first second =
    let line = same_line _ first.line second.line first.here second.here in
    let event = same_event _ one other first.says (ap (λ (l : List ℕ). event_at shape place.jobs l) line ∙ second.says) in
    first.next_is ∙ ap (λ (l : List ℕ). behind place l one) line ∙ ap (λ (e : Event). behind place second.line e) event ∙ sym second.next_is

never_wrong : (shape : Shape) (place other last : ScriptPlace) (some all : List Event) (fault : Fault) → LeadsThrough shape place some other → LeadsThrough shape place all last → IsEnd last → IsWrong shape other fault → ⊥
never_wrong shape place other last [] [] fault here there ends wrong =
    subst (λ (r : Result (Option (List ℕ)) Fault). FailsIn shape place.jobs r fault) (subst (λ (p : ScriptPlace). IsEnd p) there ends) (subst (λ (p : ScriptPlace). IsWrong shape p fault) here wrong)
never_wrong shape place other last [] (y ∷ all) fault here there ends wrong =
    let says = there.1 in
    not_failed _ y fault says.says (subst (λ (r : Result (Option (List ℕ)) Fault). FailsIn shape place.jobs r fault) says.here (subst (λ (p : ScriptPlace). IsWrong shape p fault) here wrong))
never_wrong shape place other last (x ∷ some) [] fault here there ends wrong =
    let says = here.1 in not_ended _ says.line (subst (λ (p : ScriptPlace). IsEnd p) there ends) says.here
never_wrong shape place other last (x ∷ some) (y ∷ all) fault here there ends wrong =
    never_wrong shape there.0 other last some all fault (subst (λ (p : ScriptPlace). LeadsThrough shape p some other) (same_next shape place x y here.0 there.0 here.1 there.1) here.2) there.2 ends wrong

-- the place behind a first line
abbrev place_behind : List ℕ → List ℕ → ScriptPlace
place_behind script line = record { jobs = 0; taken = length line + 1; rest = after_line script }

-- before the clouds are opened, their counts are those of the start
pub counts_unopened : (old : ℕ → Cloud) (run : Session) → IsRun old run → run.opened ≡ false → (cloud : ℕ) → (run.last cloud).faults ≡ (old cloud).faults
counts_unopened old run carried closed cloud =
    let none = carried.unopened closed in
    let last : run.last ≡ run.between.peers = subst (λ (o : Option Begun). MatchOption o (run.last ≡ run.between.peers) (λ b. IsPartOf run.setting run.between b run.last)) none.1 carried.begun in
    let between : run.between ≡ opening old = subst (λ (h : List Answered). Turns run.setting (opening old) h run.between) none.0 carried.answered in
    ap (λ (p : ℕ → Peer). (p cloud).faults) last ∙ ap (λ (v : Vault). (v.peers cloud).faults) between

-- ---- each cause

module _ (call : ReplayCall) (run : Session) (well : IsReplayUnhindered call) where
  script : List ℕ
  script = well.script

  -- the shape is that of the script
  shape_is : (status : ℕ) (line : EndingLine) → HasStatusCause status call run line → run.setting.shape ≡ well.shape
  shape_is status line cause =
      let begins = well.is_script.reaches.1 in
      let header = subst (λ (o : Option (List ℕ)). IfSome o (λ s. (shape : Shape) (rooms : UserRooms) (place : ScriptPlace) → Begins s shape rooms place
      → (run.setting.shape ≡ shape) × (run.setting.rooms ≡ rooms))) well.has cause.header in
      (header well.shape well.is_script.rooms well.is_script.reaches.0 begins).0

  not_wrong : run.setting.shape ≡ well.shape → (fault : Fault) → IsLineWrongAt call run fault → ⊥
  not_wrong same fault wrong =
      let reaches = well.is_script.reaches in
      let at = subst (λ (o : Option (List ℕ)). IfSome o (λ s. ((run.opened ≡ false) × IsWrongFirst s fault)
      ⊎ (IsTrue run.opened × ((place : ScriptPlace) × HasReadLines call run place × IsWrong run.setting.shape place fault)))) well.has wrong in
      elim at [
        | inl first ↦ not_failed _ (well.shape, well.is_script.rooms) fault reaches.1.says
            (subst (λ (r : Result (Option (List ℕ)) Fault). FailsFirst r fault) reaches.1.here first.1)
        | inr later ↦
            let read = subst (λ (o : Option (List ℕ)). IfSome o (λ s. Reaches s run.setting.shape run.setting.rooms (script_in run) later.1.0)) well.has later.1.1 in
            let firsts : read.0 ≡ reaches.0 = read.1.next_is
            ∙ ap (λ (l : List ℕ). place_behind well.script l) (same_line _ read.1.line reaches.1.line read.1.here reaches.1.here) ∙ sym reaches.1.next_is in
            let leads = subst (λ (s : Shape). LeadsThrough s reaches.0 (script_in run) later.1.0) same
            (subst (λ (p : ScriptPlace). LeadsThrough run.setting.shape p (script_in run) later.1.0) firsts read.2) in
            never_wrong well.shape reaches.0 later.1.0 well.is_script.place (script_in run) well.is_script.events fault leads reaches.2 well.is_script.ends
            (subst (λ (s : Shape). IsWrong s later.1.0 fault) same later.1.2)
      ]

  not_of_script : (line : EndingLine) → run.setting.shape ≡ well.shape → IsDue call run line → IsOfScript line → ⊥
  not_of_script due_lines.NoEnding same is of = of
  not_of_script (due_lines.DoneEnding events) same is of = of
  not_of_script (due_lines.ScriptEnding number fault) same is of = not_wrong same fault is.2
  not_of_script (due_lines.ShelfEnding cloud) same is of = of
  not_of_script (due_lines.StoreEnding cloud area len) same is of = of
  not_of_script (due_lines.DamagedEnding cloud at byte) same is of = of

  below : run.setting.shape ≡ well.shape → (cloud : ℕ) → cloud < run.setting.shape.n → cloud < well.shape.n
  below same cloud lt = subst (λ (s : Shape). cloud < s.n) same lt

  -- a replacement whose areas couldn't be made empty left a count that rose
  not_replaced : IsRun call.old run → (cloud : ℕ) → cloud < well.shape.n → (begun : Option Begun) → run.begun ≡ begun → MayFailIn begun cloud → Rose (run.last cloud).faults (call.new cloud).faults → ⊥
  not_replaced carried cloud lt None has may rose = may
  not_replaced carried cloud lt (Some b) has may rose =
      let still = well.counts cloud lt in
      past (call.old cloud).faults (run.last cloud).faults (call.new cloud).faults still
      (counts_last (call.old cloud).faults (below_top (call.old cloud).faults still.1) run.setting cloud call.old run carried refl (same_le (call.old cloud).faults)) rose
    where
      below_top : (n : ℕ) → n < 2 ^ 64 - 1 → n < 2 ^ 64
      below_top n lt = omega (arith, lt)

      same_le : (n : ℕ) → n ≤ n
      same_le n = omega arith

      past : (before last now : ℕ) → IsStill before now → before ≤ last → Rose last now → ⊥
      past before last now still le rose = omega (arith, still.0, still.1, le, rose)

  not_of_shelf : (line : EndingLine) → IsRun call.old run → run.setting.shape ≡ well.shape → IsDue call run line → IsOfShelf line → ⊥
  not_of_shelf due_lines.NoEnding carried same is of = of
  not_of_shelf (due_lines.DoneEnding events) carried same is of = of
  not_of_shelf (due_lines.ScriptEnding number fault) carried same is of = of
  not_of_shelf (due_lines.ShelfEnding cloud) carried same is of = elim is.3 [
    | inl closed ↦ not_risen (call.old cloud).faults (call.new cloud).faults (well.counts cloud (below same cloud is.0))
        (subst (λ (n : ℕ). Rose n (call.new cloud).faults) (counts_unopened call.old run carried closed.0 cloud) is.2)
    | inr may ↦ not_replaced carried cloud (below same cloud is.0) run.begun refl may.0 is.2
  ]
  not_of_shelf (due_lines.StoreEnding cloud area len) carried same is of = of
  not_of_shelf (due_lines.DamagedEnding cloud at byte) carried same is of = of

  not_filled : (cloud : ℕ) (area : Area) (len : ℕ) → cloud < well.shape.n → IsFirstFilled call.old cloud area len → ⊥
  not_filled cloud area len lt filled =
      let new = well.clouds cloud lt in filled.some (filled.len_is new.0 ∙ ap (λ (l : List ℕ). length l) (new.1 area))

  not_untold : (cloud : ℕ) → cloud < well.shape.n → (call.old cloud).told ≡ false → ⊥
  not_untold cloud lt untold = let e : false ≡ true = sym untold ∙ (well.clouds cloud lt).0 in cc

  not_of_store : (line : EndingLine) → run.setting.shape ≡ well.shape → IsDue call run line → IsOfStore line → ⊥
  not_of_store due_lines.NoEnding same is of = of
  not_of_store (due_lines.DoneEnding events) same is of = of
  not_of_store (due_lines.ScriptEnding number fault) same is of = of
  not_of_store (due_lines.ShelfEnding cloud) same is of = of
  not_of_store (due_lines.StoreEnding cloud area len) same is of = not_filled cloud area len (below same cloud is.1) is.3
  not_of_store (due_lines.DamagedEnding cloud at byte) same is of = not_untold cloud (below same cloud is.1) is.3

-- what is left
one_of_both : (status : ℕ) → status ≤ 7 → status ≢ 1 → status ≢ 2 → status ≢ 3 → status ≢ 4 → status ≢ 5 → status ≢ 7 → (status ≡ 0) ⊎ (status ≡ 6)
one_of_both zero le no1 no2 no3 no4 no5 no7 = inl refl
one_of_both (suc zero) le no1 no2 no3 no4 no5 no7 = absurd (no1 refl)
one_of_both (suc (suc zero)) le no1 no2 no3 no4 no5 no7 = absurd (no2 refl)
one_of_both (suc (suc (suc zero))) le no1 no2 no3 no4 no5 no7 = absurd (no3 refl)
one_of_both (suc (suc (suc (suc zero)))) le no1 no2 no3 no4 no5 no7 = absurd (no4 refl)
one_of_both (suc (suc (suc (suc (suc zero))))) le no1 no2 no3 no4 no5 no7 = absurd (no5 refl)
one_of_both (suc (suc (suc (suc (suc (suc zero)))))) le no1 no2 no3 no4 no5 no7 = inr refl
one_of_both (suc (suc (suc (suc (suc (suc (suc zero))))))) le no1 no2 no3 no4 no5 no7 = absurd (no7 refl)
one_of_both (suc (suc (suc (suc (suc (suc (suc (suc n)))))))) le no1 no2 no3 no4 no5 no7 = absurd (omega (arith, le))

pub completes : (status : ℕ) (call : ReplayCall) (before after : Option (List ℕ)) → IsReplayed status call before after → IsReplayUnhindered call → (status ≡ 0) ⊎ (status ≡ 6)
completes status call before after r well =
    let cause = r.cause in
    let same = shape_is call r.run well status r.line cause in
    one_of_both status cause.known.0 cause.known.1
    (λ two. not_of_script call r.run well r.line same cause.due (cause.wrong two))
    (λ three. not_risen call.source_before call.source_after well.source (cause.source three).2)
    (λ four. not_risen call.sink_before call.sink_after well.sink (cause.sink four))
    (λ five. elim (cause.shelf five) [
      | inl of ↦ not_of_shelf call r.run well r.line r.replayed.carried same cause.due of
      | inr rootless ↦ not_risen call.total_before call.total_after well.total rootless.2
    ])
    (λ seven. not_of_store call r.run well r.line same cause.due (cause.store seven))
