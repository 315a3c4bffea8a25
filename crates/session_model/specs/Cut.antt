-- A finish that was cut between two requests.
use Rattle.std.specs.Prelude.{◌≡◌, ◌⊎◌, ℕ, List, [], ◌∷◌, ◌++◌, map}
use Rattle.subset_restore.specs.UserDedup.Exec.{Peer}
use Rattle.rebuild.specs.UploadJob.news.LaneNews.{LaneNews}
use Rattle.rebuild.specs.UploadJob.Lanes.{with_state}
use Rattle.rebuild.specs.LaneSteps.Runs.{LaneTurn, Progress, starting, LaneRun, LaneAlong, Tell, lane_at}
use Rattle.session_model.specs.Vault.{Setting, Vault, HasVaultExecuted, lanes_of, with_lanes}
use Rattle.session_model.specs.Steps.{Moment, moment_of}

-- some lanes have gone on to their ends, and the next one for a while
abbrev pub FinishCut : Setting → ℕ → List ℕ → Vault → List Moment → (ℕ → Peer) → Type 0
FinishCut s job [] old moments last = (moments ≡ []) × (last ≡ old.peers)
FinishCut s job (cloud ∷ clouds) old moments last =
    let views = lanes_of old.jobs job in
    (turns : List (LaneTurn (ℕ → Peer))) × (at : Progress) × (told : List LaneNews) × (mid : ℕ → Peer)
    × Tell (lane_at views cloud) turns told
    × (((LaneAlong (HasVaultExecuted s cloud) (starting (lane_at views cloud)) old.peers turns at mid)
    × (moments ≡ map (moment_of cloud) turns) × (last ≡ mid))
    ⊎ ((LaneRun (HasVaultExecuted s cloud) (starting (lane_at views cloud)) old.peers turns at mid)
    × ((rest : List Moment) × (moments ≡ map (moment_of cloud) turns ++ rest)
    × FinishCut s job clouds
    (record { peers = mid; jobs = with_lanes old.jobs job (with_state views cloud at.lane.state) }) rest last)))
