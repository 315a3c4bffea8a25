-- A whole session: what is answered to each line, and each state that the clouds go through.
use Rattle.std.specs.Prelude.{◌≡◌, ℕ, ◌⊎◌, List, [], ◌∷◌, map, IsSomeAnd}
use Rattle.std.specs.List.{Contains, flat_map}
use Rattle.subset_restore.specs.UserDedup.command.Command.{Command}
use Rattle.subset_restore.specs.UserDedup.Exec.{Peer, MaySettleAs}
use Rattle.local_link.specs.CloudAreas.Peers.{MayBecome}
use Rattle.session.specs.declared.event.Event.{Event}
use Rattle.session.specs.Transcript.line.Line.{Line}
use Rattle.session_model.specs.Vault.{Setting, Vault, served_at}
use Rattle.session_model.specs.Steps.{Moment, VStep}

-- a script line, its answer, the states around it and the moments within it
pub record Answered : Type 0 where
  pub before : Vault
  pub event : Event
  pub answers : List Line
  pub moments : List Moment
  pub after : Vault

-- the lines in turn, from old to new
abbrev pub Turns : Setting → Vault → List Answered → Vault → Type 0
Turns s old [] new = new ≡ old
Turns s old (a ∷ more) new =
    (a.before ≡ old) × VStep s old a.event a.answers a.moments a.after × Turns s a.after more new

abbrev pub script_of : List Answered → List Event
script_of history = map (λ (a : Answered). a.event) history

abbrev pub moments_of : List Answered → List Moment
moments_of history = flat_map (λ (a : Answered). a.moments) history

-- the lines that are due after these
abbrev pub answers_of : List Answered → List Line
answers_of history = flat_map (λ (a : Answered). a.answers) history

-- ---- what images stand for

-- the cloud's list at a moment, that list with its pending command, or one of these with the command of the moment's
-- event
abbrev pub IsListAt : Setting → ℕ → Moment → List Command → Type 0
IsListAt s cloud m list =
    MaySettleAs (m.peers cloud) list
    ⊎ IsSomeAnd m.event (λ e. (e.cloud ≡ cloud) × MayBecome (served_at s cloud) (m.peers cloud) e.request list)

-- so in some state of the run
abbrev pub IsListIn : Setting → ℕ → List Moment → (ℕ → Peer) → List Command → Type 0
IsListIn s cloud moments last list =
    MaySettleAs (last cloud) list ⊎ ((m : Moment) × Contains moments m × IsListAt s cloud m list)
