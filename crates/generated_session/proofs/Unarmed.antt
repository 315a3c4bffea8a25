-- No line of the generated session arms a cloud.
use Rattle.std.proofs.Common.{◌≡◌, ℕ, List, [], ◌∷◌, ◌++◌, map, sym, subst, inl, inr}
use Rattle.std.specs.List.{flat_map, range_with_len, Contains}
use Rattle.std.proofs.lemmas.List.Elements.{Contains-append_left, Contains-append_cases}
use Rattle.lane_steps.specs.CdBase.ids.CloudNo.{CloudNo}
use Rattle.lane_steps.specs.CdEdges.Disk.{Cloud}
use Rattle.subset_restore.proofs.UserDedup.Owned.{contains_cases, contains_nothing}
use Rattle.replay_core.specs.Session.event.Event.{Event}
use Rattle.replay_core.specs.Session.event.Event.TheVariants as events
use Rattle.replay_core.specs.SessionModel.Steps.{cloud_no}
use Rattle.replay_core.specs.SessionModel.Headline.{Session, script_in}
use Rattle.replay_core.specs.Replayed.{ArmsByLines}
use Rattle.generated_session.specs.Lines.{upload_lines, get_line, generated_lines}

uploads_arm : (seed pieces : ℕ) (numbers : List ℕ) (cloud : CloudNo) (calls keep : ℕ) → Contains (flat_map (upload_lines seed pieces) numbers) (events.Arm cloud calls keep) → ⊥
uploads_arm seed pieces [] cloud calls keep has = contains_nothing (events.Arm cloud calls keep) has
uploads_arm seed pieces (n ∷ numbers) cloud calls keep has =
    elim (Contains-append_cases (upload_lines seed pieces n) (flat_map (upload_lines seed pieces) numbers) (events.Arm cloud calls keep) has) [
      | inl here ↦ elim (contains_cases (events.Upload _ _ _ _) (events.Finish n ∷ []) (events.Arm cloud calls keep) here) [
        | inl same ↦ cc
        | inr later ↦ elim (contains_cases (events.Finish n) [] (events.Arm cloud calls keep) later) [
          | inl same ↦ cc
          | inr none ↦ contains_nothing (events.Arm cloud calls keep) none
        ]
      ]
      | inr later ↦ uploads_arm seed pieces numbers cloud calls keep later
    ]

gets_arm : (numbers : List ℕ) (cloud : CloudNo) (calls keep : ℕ) → Contains (map get_line numbers) (events.Arm cloud calls keep) → ⊥
gets_arm [] cloud calls keep has = contains_nothing (events.Arm cloud calls keep) has
gets_arm (n ∷ numbers) cloud calls keep has = elim (contains_cases (get_line n) (map get_line numbers) (events.Arm cloud calls keep) has) [
  | inl same ↦ cc
  | inr later ↦ gets_arm numbers cloud calls keep later
]

-- a session of a front of these lines arms none
pub never_armed : (old new : ℕ → Cloud) (run : Session) (seed files pieces : ℕ) (rest : List Event) → script_in run ++ rest ≡ generated_lines seed files pieces → ArmsByLines old new run
    → (cloud : ℕ) → (new cloud).armings ≡ (old cloud).armings
never_armed old new run seed files pieces rest lines arms cloud = arms cloud (λ calls keep has. not_there calls keep
    (subst (λ (l : List Event). Contains l (events.Arm (cloud_no cloud) calls keep)) lines (Contains-append_left (script_in run) rest (events.Arm (cloud_no cloud) calls keep) has)))
  where
    not_there : (calls keep : ℕ) → Contains (generated_lines seed files pieces) (events.Arm (cloud_no cloud) calls keep) → ⊥
    not_there calls keep has =
        elim (Contains-append_cases (flat_map (upload_lines seed pieces) (range_with_len 1 files)) (map get_line (range_with_len 1 files)) (events.Arm (cloud_no cloud) calls keep) has) [
          | inl up ↦ uploads_arm seed pieces (range_with_len 1 files) (cloud_no cloud) calls keep up
          | inr get ↦ gets_arm (range_with_len 1 files) (cloud_no cloud) calls keep get
        ]
