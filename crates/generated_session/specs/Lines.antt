-- The lines of the generated session.
use Rattle.std.specs.Prelude.{ℕ, ◌+◌, ◌-◌, ◌/◌, ◌%◌, ◌==◌, not, List, [], ◌∷◌, ◌++◌, map, filter, codes}
use Rattle.std.specs.List.{flat_map, range_with_len}
use Rattle.lane_steps.specs.CdBase.ids.UserId.{UserId}
use Rattle.lane_steps.specs.CdBase.ids.Version.{Version}
use Rattle.replay_core.specs.Session.event.Event.{Event}
use Rattle.replay_core.specs.Session.event.Event.TheVariants as events
use Rattle.generated_session.specs.Drawn.{file_of}

-- Files are numbered from 1. Three users take turns, and each file is a user's next version of one path.
abbrev pub user_at : ℕ → UserId
user_at number = record { 0 = 1 + (number - 1) % 3 }

abbrev pub version_at : ℕ → Version
version_at number = record { 0 = 1 + (number - 1) / 3 }

abbrev pub file_path : List ℕ
file_path = codes "file"

-- the three clouds of four that a file is read back from
abbrev pub clouds_at : ℕ → List ℕ
clouds_at number = filter (λ cloud. not (cloud == number % 4)) (range_with_len 0 4)

-- the file is uploaded, and its job, which has the file's number, is brought to its end
abbrev pub upload_lines : ℕ → ℕ → ℕ → List Event
upload_lines seed pieces number =
    events.Upload (user_at number) file_path (version_at number) (file_of seed pieces (version_at number).0)
    ∷ events.Finish number ∷ []

-- and it is read
abbrev pub get_line : ℕ → Event
get_line number = events.Get (user_at number) file_path (version_at number) (clouds_at number)

-- all files are uploaded, one after another, and then all are read
abbrev pub generated_lines : ℕ → ℕ → ℕ → List Event
generated_lines seed files pieces =
    flat_map (upload_lines seed pieces) (range_with_len 1 files) ++ map get_line (range_with_len 1 files)
