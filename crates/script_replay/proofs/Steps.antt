-- One line: what is read of it, and what is written.
use Rattle.std.proofs.Common.{◌≡◌, ℕ, ◌+◌, Bool, true, false, List, [], ◌++◌, length, refl, sym, ap, ◌∙◌, subst}
use Rattle.std.specs.Prelude.{Option, Some, None, Result, Ok, Err, IfErr, OnOk}
use Rattle.std.specs.Io.KnownBytes.{Appends}
use Rattle.share_server.specs.CdBase.shape.Shape.{Shape}
use Rattle.share_server.specs.CdEdges.Causes.{Rose}
use Rattle.share_server.specs.CdEdges.Disk.{Cloud}
use Rattle.two_worlds.specs.UploadJob.Lanes.{LaneView}
use Rattle.script_lines.specs.LocalLink.link.LocalLink.{LocalLink}
use Rattle.two_worlds.specs.Session.Fault.{Fault}
use Rattle.two_worlds.specs.Session.Lines.{ReaderState, NextLine, TakesLine, IsAtEnd, next_line, after_line}
use Rattle.two_worlds.specs.Session.event.Event.{Event}
use Rattle.two_worlds.specs.Session.lines.LineErr.{LineErr}
use Rattle.two_worlds.specs.Session.lines.LineErr.TheVariants as line_errors
use Rattle.two_worlds.specs.Session.reading.ScriptErr.{ScriptErr}
use Rattle.two_worlds.specs.Session.reading.ScriptErr.TheVariants as script_errors
use Rattle.two_worlds.specs.Session.Reading.{event_at}
use Rattle.two_worlds.specs.Session.Scripts.{jobs_after, ScriptPlace, Says, behind, FailsIn, IsEnd, IsWrong}
use Rattle.two_worlds.specs.Session.Texts.{text_of}
use Rattle.script_lines.specs.declared.error.CarryErr.{CarryErr}
use Rattle.script_lines.specs.declared.error.CarryErr.TheVariants as carry_errors
use Rattle.script_lines.specs.Does.{CarriesOut, IsCutOff}
use Rattle.script_lines.specs.Replacing.{IsShelfFault}
use Rattle.replay_core.specs.declared.end.ReplayEnd.{ReplayEnd}
use Rattle.replay_core.specs.declared.end.ReplayEnd.TheVariants as ends
use Rattle.replay_core.specs.Opening.{IsThere}
use Rattle.script_replay.specs.First.{end_of_script, end_without}
use Rattle.replay_core.specs.Going.{AppendsFront, EndsSink}
use Rattle.script_replay.specs.Answering.{SaysEvent, EndsReading, EndsWriting, AnswersLine, EndsAnswering, end_of_carry}

-- ---- what is read

-- the next line, as it is found in a script
pub line_here : (jobs : ℕ) (old : ReaderState) (left : Option (List ℕ)) (place : ScriptPlace) (there : IsThere old left jobs place) (reading : Result (Option (List ℕ)) Fault)
    → next_line old.taken (old.ahead ++ there.unread) ≡ reading → next_line place.taken place.rest ≡ reading
line_here jobs old left place there reading e =
    ap (λ (n : ℕ). next_line n place.rest) (sym there.taken) ∙ ap (next_line old.taken) (sym there.rest) ∙ e

pub says_line : (shape : Shape) (jobs : ℕ) (old new behind_it : ReaderState) (left left_now : Option (List ℕ)) (more : Bool) (event : Event)
    → more ≡ true → ((bytes : List ℕ) → left ≡ Some bytes → NextLine old bytes (Ok more) new left_now) → event_at shape jobs new.line ≡ Ok event
    → behind_it.ahead ≡ new.ahead → behind_it.taken ≡ new.taken
    → (place : ScriptPlace) → IsThere old left jobs place
    → (next : ScriptPlace) × Says shape place event next × IsThere behind_it left_now (jobs_after jobs event) next
says_line shape jobs old new behind_it left left_now more event so told said ahead taken place there =
    let n : TakesLine old (old.ahead ++ there.unread) new left_now =
    subst (λ (b : Bool). NextLine old there.unread (Ok b) new left_now) so (told there.unread there.left_is) in (
      behind place new.line event,
      record {
        line = new.line;
        here = line_here jobs old left place there (Ok (Some new.line)) n.line;
        says = ap (λ (j : ℕ). event_at shape j new.line) there.jobs_are ∙ said;
        next_is = refl;
      },
      record {
        jobs_are = ap (λ (j : ℕ). jobs_after j event) there.jobs_are;
        taken = taken ∙ n.taken ∙ ap (λ (t : ℕ). t + length new.line + 1) there.taken;
        unread = n.unread;
        left_is = n.left_is;
        rest = ap (λ (x : List ℕ). x ++ n.unread) ahead ∙ n.follows ∙ ap after_line there.rest;
      },
    )

pub wrong_line : (shape : Shape) (jobs : ℕ) (old new : ReaderState) (left left_now : Option (List ℕ)) (more : Bool) (line : List ℕ) (fault : Fault)
    → more ≡ true → ((bytes : List ℕ) → left ≡ Some bytes → NextLine old bytes (Ok more) new left_now) → line ≡ new.line → event_at shape jobs line ≡ Err fault
    → (place : ScriptPlace) → IsThere old left jobs place → IsWrong shape place fault
wrong_line shape jobs old new left left_now more line fault so told is said place there =
    let n : TakesLine old (old.ahead ++ there.unread) new left_now =
    subst (λ (b : Bool). NextLine old there.unread (Ok b) new left_now) so (told there.unread there.left_is) in
    subst (λ (r : Result (Option (List ℕ)) Fault). FailsIn shape place.jobs r fault) (sym (line_here jobs old left place there (Ok (Some new.line)) n.line))
    (ap (λ (j : ℕ). event_at shape j new.line) there.jobs_are ∙ ap (event_at shape jobs) (sym is) ∙ said)

-- the line's error, and the reader's
abbrev pub no_event : ScriptErr → Result Event ScriptErr
no_event error = Err error

abbrev pub no_line : LineErr → Result Bool LineErr
no_line error = Err error

pub ends_script : (shape : Shape) (jobs events number : ℕ) (old new : ReaderState) (left left_now : Option (List ℕ)) (more : Bool) (line : List ℕ) (error : ScriptErr) (end : ReplayEnd) (before now : ℕ)
    → number ≡ events + 2 → end ≡ end_of_script number error
    → more ≡ true → ((bytes : List ℕ) → left ≡ Some bytes → NextLine old bytes (Ok more) new left_now)
    → line ≡ new.line → SaysEvent (event_at shape jobs line) (no_event error) → EndsReading shape jobs events old left before now end
ends_script shape jobs events number old new left left_now more line (script_errors.At at found) end before now is e so told same says =
    subst (EndsReading shape jobs events old left before now) (sym e)
    (is, wrong_line shape jobs old new left left_now more line (record { at = at; found = found }) so told same says)
ends_script shape jobs events number old new left left_now more line script_errors.NoMemory end before now is e so told same says =
    subst (EndsReading shape jobs events old left before now) (sym e) tt

pub ends_reader : (shape : Shape) (jobs events number : ℕ) (old new : ReaderState) (left left_now : Option (List ℕ)) (error : LineErr) (end : ReplayEnd) (before now : ℕ)
    → number ≡ events + 2 → end ≡ end_without number error
    → ((bytes : List ℕ) → left ≡ Some bytes → NextLine old bytes (no_line error) new left_now)
    → (no_line error ≡ Err line_errors.Fault → Rose before now) → EndsReading shape jobs events old left before now end
ends_reader shape jobs events number old new left left_now line_errors.Fault end before now is e told cause =
    subst (EndsReading shape jobs events old left before now) (sym e) (cause refl)
ends_reader shape jobs events number old new left left_now line_errors.NoMemory end before now is e told cause =
    subst (EndsReading shape jobs events old left before now) (sym e) tt
ends_reader shape jobs events number old new left left_now (line_errors.At at found) end before now is e told cause =
    subst (EndsReading shape jobs events old left before now) (sym e) (
      is,
      λ place there. subst (λ (r : Result (Option (List ℕ)) Fault). FailsIn shape place.jobs r (record { at = at; found = found }))
          (sym (line_here jobs old left place there (Err (record { at = at; found = found })) (told there.unread there.left_is))) refl,
    )

pub ends_there : (jobs : ℕ) (old new : ReaderState) (left left_now : Option (List ℕ)) (more : Bool)
    → more ≡ false → ((bytes : List ℕ) → left ≡ Some bytes → NextLine old bytes (Ok more) new left_now)
    → (place : ScriptPlace) → IsThere old left jobs place → IsEnd place × (left_now ≡ Some [])
ends_there jobs old new left left_now more over told place there =
    let n : IsAtEnd old (old.ahead ++ there.unread) left_now =
    subst (λ (b : Bool). NextLine old there.unread (Ok b) new left_now) over (told there.unread there.left_is) in (line_here jobs old left place there (Ok None) n.none, n.left_is)

-- ---- what is written

pub writes_line : (bytes line : List ℕ) (before now : Option (List ℕ)) (was is : ℕ) (result : Result (Unit {0}) ReplayEnd) → bytes ≡ line
    → IfErr result (EndsSink bytes before now was is) → IfErr result (EndsWriting line before now was is)
writes_line bytes line before now was is (Ok u) e x = tt
writes_line bytes line before now was is (Err ends.SinkFault) e x = (subst (λ (l : List ℕ). AppendsFront l before now) e x.0, x.1)
writes_line bytes line before now was is (Err (ends.Done events)) e x = absurd x
writes_line bytes line before now was is (Err (ends.Script number at found)) e x = absurd x
writes_line bytes line before now was is (Err ends.SourceFault) e x = absurd x
writes_line bytes line before now was is (Err (ends.ShelfFault cloud)) e x = absurd x
writes_line bytes line before now was is (Err (ends.NotEmpty cloud area len)) e x = absurd x
writes_line bytes line before now was is (Err (ends.Damaged cloud at byte)) e x = absurd x
writes_line bytes line before now was is (Err ends.NoMemory) e x = absurd x

module _ {V : Type 0} (clouds : V → ℕ → Cloud) (event : Event) (old : LocalLink V) (jobs : List (List LaneView)) (new : LocalLink V) (jobs_now : List (List LaneView)) where
  -- the text that was written is that of the answers
  pub answers_so : (front text bytes : List ℕ) (OfText : List ℕ → Type 0) → front ≡ [] → bytes ≡ text
      → CarriesOut clouds event old jobs new jobs_now front text → OfText bytes → AnswersLine clouds event old jobs new jobs_now OfText
  answers_so front text bytes OfText none same does of = λ s v is.
      let d = does s v is in
      (d.0, d.1, subst OfText (same ∙ d.2 ∙ ap (λ (l : List ℕ). l ++ text_of d.0) none) of)

  pub answers_on : (front text bytes : List ℕ) (before now : Option (List ℕ)) (result : Result (Unit {0}) ReplayEnd) → front ≡ [] → bytes ≡ text
      → CarriesOut clouds event old jobs new jobs_now front text → OnOk result (Appends before now bytes)
      → OnOk result (AnswersLine clouds event old jobs new jobs_now (Appends before now))
  answers_on front text bytes before now (Ok u) none same does of = answers_so front text bytes (Appends before now) none same does of
  answers_on front text bytes before now (Err end) none same does of = tt

  pub ends_answering : (front text bytes : List ℕ) (before now : Option (List ℕ)) (was is : ℕ) (result : Result (Unit {0}) ReplayEnd) → front ≡ [] → bytes ≡ text
      → CarriesOut clouds event old jobs new jobs_now front text → IfErr result (EndsSink bytes before now was is)
      → IfErr result (EndsAnswering clouds event old jobs new jobs_now before now was is)
  ends_answering front text bytes before now was is (Ok u) none same does x = tt
  ends_answering front text bytes before now was is (Err ends.SinkFault) none same does x =
      (answers_so front text bytes (λ (l : List ℕ). AppendsFront l before now) none same does x.0, x.1)
  ends_answering front text bytes before now was is (Err (ends.Done events)) none same does x = absurd x
  ends_answering front text bytes before now was is (Err (ends.Script number at found)) none same does x = absurd x
  ends_answering front text bytes before now was is (Err ends.SourceFault) none same does x = absurd x
  ends_answering front text bytes before now was is (Err (ends.ShelfFault cloud)) none same does x = absurd x
  ends_answering front text bytes before now was is (Err (ends.NotEmpty cloud area len)) none same does x = absurd x
  ends_answering front text bytes before now was is (Err (ends.Damaged cloud at byte)) none same does x = absurd x
  ends_answering front text bytes before now was is (Err ends.NoMemory) none same does x = absurd x

  -- a line that was cut
  pub ends_carry : (error : CarryErr) (end : ReplayEnd) (before now : Option (List ℕ)) (was is : ℕ) → end ≡ end_of_carry error → IsCutOff clouds event old jobs new → IsShelfFault clouds event old jobs new error
      → now ≡ before → is ≡ was → EndsAnswering clouds event old jobs new jobs_now before now was is end
  ends_carry (carry_errors.ShelfFault cloud) end before now was is e cut fault same still =
      subst (EndsAnswering clouds event old jobs new jobs_now before now was is) (sym e) (fault, same, still)
  ends_carry carry_errors.NoMemory end before now was is e cut fault same still =
      subst (EndsAnswering clouds event old jobs new jobs_now before now was is) (sym e) (cut, same)
