-- The first line.
use Rattle.std.proofs.Common.{◌≡◌, ℕ, ◌+◌, Bool, true, false, List, length, refl, sym, ap, ◌∙◌, subst, arith}
use Rattle.std.specs.Prelude.{Option, Some, None, Result, Ok, Err, IfSome, IfOk, IfErr, nat_lt, ◌==◌, if◌then◌else◌, take}
use Rattle.share_server.specs.JournalStart.rooms.UserRooms.{UserRooms}
use Rattle.share_server.specs.CdBase.shape.Shape.{Shape}
use Rattle.share_server.specs.CdEdges.Causes.{Rose}
use Rattle.two_worlds.specs.Session.Fault.{Fault}
use Rattle.two_worlds.specs.Session.Lines.{ReaderState, NextLine, TakesLine, next_line, after_line, line_length, room_after, script_limit, fault_at}
use Rattle.two_worlds.specs.Session.Reading.{header_at}
use Rattle.two_worlds.specs.Session.lines.LineErr.{LineErr}
use Rattle.two_worlds.specs.Session.lines.LineErr.TheVariants as line_errors
use Rattle.two_worlds.specs.Session.Scripts.{ScriptPlace, Begins, FailsFirst, IsWrongFirst}
use Rattle.replay_core.specs.declared.end.ReplayEnd.{ReplayEnd}
use Rattle.replay_core.specs.declared.end.ReplayEnd.TheVariants as ends
use Rattle.replay_core.specs.Opening.{before_first, IsThere, IsHead}
use Rattle.script_replay.specs.First.{EndsFirst, SaysHeader, end_without}

pub if_told : (o : Option (List ℕ)) (P : List ℕ → Type 0) → ((bytes : List ℕ) → o ≡ Some bytes → P bytes) → IfSome o P
if_told None P f = tt
if_told (Some bytes) P f = f bytes refl

-- what was read of the first line
pub head_here : (script : Option (List ℕ)) (old new : ReaderState) (left : Option (List ℕ)) (more : Bool) (line : List ℕ) (result : Result (Shape × UserRooms) ReplayEnd)
    → more ≡ true → old ≡ before_first → ((bytes : List ℕ) → script ≡ Some bytes → NextLine old bytes (Ok more) new left) → line ≡ new.line
    → SaysHeader (header_at line) result → IfOk result (λ (h : Shape × UserRooms). IsHead script h.0 h.1 new left)
head_here script old new left more line (Err end) so first told is says = tt
head_here script old new left more line (Ok header) so first told is says = if_told script
    (λ (bytes : List ℕ). (place : ScriptPlace) × Begins bytes header.0 header.1 place × IsThere new left 0 place)
    (λ bytes e.
    let n : TakesLine before_first bytes new left = subst (λ (b : Bool). NextLine before_first bytes (Ok b) new left) so (subst (λ (o : ReaderState). NextLine o bytes (Ok more) new left) first (told bytes e)) in
    let at : ScriptPlace = record { jobs = 0; taken = length new.line + 1; rest = after_line bytes } in (
      at,
      record { line = new.line; here = n.line; says = ap header_at (sym is) ∙ says; next_is = refl },
      record { jobs_are = refl; taken = (let e = n.taken in omega arith); unread = n.unread; left_is = n.left_is; rest = n.follows },
    ))

pub end_here : (script : Option (List ℕ)) (old new : ReaderState) (left : Option (List ℕ)) (more : Bool) (line : List ℕ) (result : Result (Shape × UserRooms) ReplayEnd) (before now : ℕ)
    → more ≡ true → old ≡ before_first → ((bytes : List ℕ) → script ≡ Some bytes → NextLine old bytes (Ok more) new left) → line ≡ new.line
    → SaysHeader (header_at line) result → IfErr result (EndsFirst script before now)
end_here script old new left more line (Ok header) before now so first told is says = tt
end_here script old new left more line (Err (ends.Script number at found)) before now so first told is says = (
  says.0,
  if_told script
      (λ (bytes : List ℕ). IsWrongFirst bytes (record { at = at; found = found }))
      (λ bytes e.
      let n : TakesLine before_first bytes new left = subst (λ (b : Bool). NextLine before_first bytes (Ok b) new left) so (subst (λ (o : ReaderState). NextLine o bytes (Ok more) new left) first (told bytes e)) in
      subst (λ (r : Result (Option (List ℕ)) Fault). FailsFirst r (record { at = at; found = found })) (sym n.line)
      (ap header_at (sym is) ∙ says.1)),
)
end_here script old new left more line (Err ends.NoMemory) before now so first told is says = tt
end_here script old new left more line (Err (ends.Done events)) before now so first told is says = absurd says
end_here script old new left more line (Err ends.SourceFault) before now so first told is says = absurd says
end_here script old new left more line (Err ends.SinkFault) before now so first told is says = absurd says
end_here script old new left more line (Err (ends.ShelfFault cloud)) before now so first told is says = absurd says
end_here script old new left more line (Err (ends.NotEmpty cloud area len)) before now so first told is says = absurd says
end_here script old new left more line (Err (ends.Damaged cloud at byte)) before now so first told is says = absurd says

-- an input has a first line, or is wrong there
never_over : (rest : List ℕ) → next_line 0 rest ≡ Ok None → ⊥
never_over rest e =
    by_tests (nat_lt (room_after 0) (line_length rest)) (line_length rest == length rest) (0 + line_length rest == script_limit)
    (fault_at rest (room_after 0)) (fault_at rest (line_length rest)) (fault_at rest (line_length rest)) (take (line_length rest) rest) e
  where
    by_tests : (a b c : Bool) (f g h : Fault) (line : List ℕ)
        → (if a then Err f else if b then Err g else if c then Err h else Ok (Some line)) ≡ Ok None → ⊥
    by_tests true b c f g h line e = cc
    by_tests false true c f g h line e = cc
    by_tests false false true f g h line e = cc
    by_tests false false false f g h line e = cc

pub no_end_first : (script : Option (List ℕ)) (old new : ReaderState) (left : Option (List ℕ)) (more : Bool) (before now : ℕ) → more ≡ false → old ≡ before_first
    → ((bytes : List ℕ) → script ≡ Some bytes → NextLine old bytes (Ok more) new left) → EndsFirst script before now (ends.Script 1 0 None)
no_end_first script old new left true before now over first told = absurd (let f : true ≡ false = over in cc)
no_end_first script old new left false before now over first told = (
  refl,
  if_told script
      (λ (bytes : List ℕ). IsWrongFirst bytes (record { at = 0; found = None }))
      (λ bytes e. absurd (never_over bytes (subst (λ (o : ReaderState). NextLine o bytes (Ok false) new left) first (told bytes e)).none)),
)

-- the reader's error
abbrev pub failed_line : LineErr → Result Bool LineErr
failed_line error = Err error

pub end_told : (script : Option (List ℕ)) (old new : ReaderState) (left : Option (List ℕ)) (error : LineErr) (end : ReplayEnd) (before now : ℕ) → old ≡ before_first
    → ((bytes : List ℕ) → script ≡ Some bytes → NextLine old bytes (failed_line error) new left)
    → (failed_line error ≡ Err line_errors.Fault → Rose before now) → end ≡ end_without 1 error → EndsFirst script before now end
end_told script old new left line_errors.Fault end before now first told cause e = subst (EndsFirst script before now) (sym e) (cause refl)
end_told script old new left line_errors.NoMemory end before now first told cause e = subst (EndsFirst script before now) (sym e) tt
end_told script old new left (line_errors.At at found) end before now first told cause e = subst (EndsFirst script before now) (sym e) (
  refl,
  if_told script
      (λ (bytes : List ℕ). IsWrongFirst bytes (record { at = at; found = found }))
      (λ bytes s.
      subst (λ (r : Result (Option (List ℕ)) Fault). FailsFirst r (record { at = at; found = found }))
      (sym (subst (λ (o : ReaderState). NextLine o bytes (failed_line (line_errors.At at found)) new left) first (told bytes s))) refl),
)
