-- Which answers say that a cloud's device failed, and what such an answer says of the cloud's count.
use Rattle.std.specs.Prelude.{◌≡◌, ℕ}
use Rattle.std.specs.List.{Contains}
use Rattle.session.specs.CdEdges.Causes.{Rose}
use Rattle.session.specs.CdEdges.Disk.{Cloud}
use Rattle.session.specs.declared.event.Event.{Event}
use Rattle.session.specs.declared.event.Event.TheVariants as events
use Rattle.session.specs.Transcript.news.News.TheVariants as news
use Rattle.session.specs.Transcript.refusal.Refusal.TheVariants as refusals
use Rattle.session.specs.Transcript.refusal.TargetWhy.TheVariants as target_whys
use Rattle.session.specs.Transcript.line.Line.{Line}
use Rattle.session.specs.Transcript.line.Line.TheVariants as lines
use Rattle.session_model.specs.Run.{Answered}
use Rattle.session_model.specs.Headline.{Session}

-- the line fills this cloud anew
abbrev pub IsTarget : Event → ℕ → Type 0
IsTarget (events.Rebuild user target from) cloud = target.0 ≡ cloud
IsTarget event cloud = ⊥

-- the answer to this line says `fault` of this cloud
abbrev pub SaysFault : Line → Event → ℕ → Type 0
SaysFault (lines.Step job lane news.Fault) event cloud = lane.0 ≡ cloud
SaysFault (lines.Fault at) event cloud = at.0 ≡ cloud
SaysFault (lines.Refused (refusals.Fault at)) event cloud = at.0 ≡ cloud
SaysFault (lines.Refused (refusals.Target target_whys.Fault)) event cloud = IsTarget event cloud
SaysFault line event cloud = ⊥

-- No answer of the session says `fault` of a cloud whose count of faults didn't rise.
abbrev pub FaultsRose : (ℕ → Cloud) → Session → Type 0
FaultsRose clouds run =
    (a : Answered) (line : Line) (cloud : ℕ) → Contains run.history a → Contains a.answers line → SaysFault line a.event cloud
    → Rose (clouds cloud).faults (run.last cloud).faults
