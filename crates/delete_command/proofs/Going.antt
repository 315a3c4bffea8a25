-- One cloud, and the clouds behind it.
use Rattle.std.proofs.Common.{◌≡◌, ℕ, Bool, true, false, List, [], ◌∷◌, ◌++◌, Ok, Err, IsTrue, refl, sym, ap, ◌∙◌}
use Rattle.std.proofs.Common.{append_assoc, append-nil}
use Rattle.std.specs.Prelude.{All, Result, ◌↔◌, ◌&&◌}
use Rattle.std.proofs.lemmas.List.Elements.{All-nil, All-cons, All-head, All-tail}
use Rattle.deletions.specs.CdBase.ids.CloudNo.{CloudNo}
use Rattle.ports_link.specs.CdEdges.Ports.{Telling}
use Rattle.deletions.specs.Transcript.Transcript.{line_text}
use Rattle.deletions.specs.Transcript.line.Line.{Line}
use Rattle.delete_command.specs.declared.asking.AskHalt.{AskHalt}
use Rattle.delete_command.specs.declared.asking.AskHalt.TheVariants as halts
use Rattle.delete_command.specs.Asks.{NoneLeft, Next, Fails}
use Rattle.delete_command.specs.Lines.{IsGone, text_of}
use Rattle.delete_command.specs.Steps.{OneWent, Went, both}

-- no cloud
pub went_none : (request : List ℕ) (t : Telling) (text : List ℕ) → Went request t [] (Ok true) text text t
went_none request t text = ([], NoneLeft t, (λ _. All-nil IsGone, λ _. refl), sym (append-nil text))

-- a cloud with which it stopped
pub went_stopped : (request : List ℕ) (t u : Telling) (at : CloudNo × ℕ) (behind : List (CloudNo × ℕ)) (halt : AskHalt)
    (before text : List ℕ) → OneWent request t at (Err halt) before text u
    → Went request t (at ∷ behind) (Err halt) before text u
went_stopped request t u at behind halts.Lost before text one =
    ([], Fails t u at behind one.0, one.1 ∙ sym (append-nil before))
went_stopped request t u at behind halts.NoMemory before text one = tt

joined : (before mid text : List ℕ) (line : Line) (more : List Line) → mid ≡ before ++ line_text line
    → text ≡ mid ++ text_of more → text ≡ before ++ text_of (line ∷ more)
joined before mid text line more a b =
    b ∙ ap (λ (l : List ℕ). l ++ text_of more) a ∙ append_assoc before (line_text line) (text_of more)

-- gone at the first and at the others
all_gone : (one more : Bool) (line : Line) (answers : List Line) → (IsTrue one ↔ IsGone line)
    → (IsTrue more ↔ All IsGone answers) → IsTrue (one && more) ↔ All IsGone (line ∷ answers)
all_gone true more line answers first rest = (
  λ yes. All-cons IsGone line answers (first.0 refl) (rest.0 yes),
  λ all. rest.1 (All-tail IsGone line answers all),
)
all_gone false more line answers first rest =
    (λ yes. absurd cc, λ all. absurd (let no = first.1 (All-head IsGone line answers all) in cc))

-- a cloud, and what came of those behind it
pub went_more : (request : List ℕ) (t mid u : Telling) (at : CloudNo × ℕ) (behind : List (CloudNo × ℕ)) (one : Bool)
    (result : Result Bool AskHalt) (before between text : List ℕ) → OneWent request t at (Ok one) before between mid
    → Went request mid behind result between text u → Went request t (at ∷ behind) (both one result) before text u
went_more request t mid u at behind one (Ok more) before between text first rest = (
  first.0 ∷ rest.0,
  Next t mid u at behind true first.0 rest.0 first.1 rest.1,
  all_gone one more first.0 rest.0 first.2 rest.2,
  joined before between text first.0 rest.0 first.3 rest.3,
)
went_more request t mid u at behind one (Err halts.Lost) before between text first rest = (
  first.0 ∷ rest.0,
  Next t mid u at behind false first.0 rest.0 first.1 rest.1,
  joined before between text first.0 rest.0 first.3 rest.2,
)
went_more request t mid u at behind one (Err halts.NoMemory) before between text first rest = tt
