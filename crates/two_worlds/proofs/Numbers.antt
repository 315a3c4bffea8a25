-- The jobs of one user among those of all: their places, their numbers, and their lanes.
use Rattle.std.proofs.Common.{◌≡◌, ℕ, zero, suc, ◌+◌, ◌-◌, ◌<◌, ◌≤◌, Bool, true, false, cond, List, [], ◌∷◌, length, map, filter, take, refl, sym, ap, ◌∙◌, subst, arith}
use Rattle.recipe.specs.CdBase.ids.UserId.{UserId}
use Rattle.session_model.specs.UploadJob.Upload.{FileVersion}
use Rattle.session_model.specs.UploadJob.Lanes.{LaneView}
use Rattle.session_model.specs.Transcript.line.Line.{Line}
use Rattle.session_model.specs.Transcript.line.Line.TheVariants as lines
use Rattle.session_model.specs.Vault.{JobState, lanes_at, with_lanes_at, lanes_of, with_lanes}
use Rattle.two_worlds.specs.Worlds.{is_version_of, own_versions, is_own_place, own_place, is_own_job, own_job, own_line}
use Rattle.session_model.proofs.Jobs.{versions}

-- the user's jobs
abbrev pub is_job_of : UserId → JobState → Bool
is_job_of u j = is_version_of u j.version

abbrev pub own_jobs : UserId → List JobState → List JobState
own_jobs u jobs = filter (is_job_of u) jobs

module _ (u : UserId) where
  -- the versions of the user's jobs
  pub own_brought : (jobs : List JobState) → versions (own_jobs u jobs) ≡ own_versions u (versions jobs)
  own_brought [] = refl
  own_brought (j ∷ jobs) = by_test (is_job_of u j) (own_brought jobs)
    where
      by_test : (b : Bool) → versions (own_jobs u jobs) ≡ own_versions u (versions jobs)
          → versions (cond b (j ∷ own_jobs u jobs) (own_jobs u jobs)) ≡ cond b (j.version ∷ own_versions u (versions jobs)) (own_versions u (versions jobs))
      by_test true rest = ap (λ (l : List FileVersion). j.version ∷ l) rest
      by_test false rest = rest

  -- the lanes of a job of the user's
  own_lanes_at : (jobs : List JobState) (place : ℕ) → is_own_place u (versions jobs) place ≡ true → lanes_at (own_jobs u jobs) (own_place u (versions jobs) place) ≡ lanes_at jobs place
  own_lanes_at [] place own = cc
  own_lanes_at (j ∷ jobs) zero own = rw own refl
  own_lanes_at (j ∷ jobs) (suc place) own = by_test (is_job_of u j) (own_lanes_at jobs place own)
    where
      by_test : (b : Bool) → lanes_at (own_jobs u jobs) (own_place u (versions jobs) place) ≡ lanes_at jobs place
          → lanes_at (cond b (j ∷ own_jobs u jobs) (own_jobs u jobs)) (length (cond b (j.version ∷ own_versions u (take place (versions jobs))) (own_versions u (take place (versions jobs))))) ≡ lanes_at jobs place
      by_test true rest = rest
      by_test false rest = rest

  -- the job with other lanes
  own_with_at : (jobs : List JobState) (place : ℕ) (views : List LaneView) → is_own_place u (versions jobs) place ≡ true
      → own_jobs u (with_lanes_at jobs place views) ≡ with_lanes_at (own_jobs u jobs) (own_place u (versions jobs) place) views
  own_with_at [] place views own = cc
  own_with_at (j ∷ jobs) zero views own = rw own refl
  own_with_at (j ∷ jobs) (suc place) views own = by_test (is_job_of u j) (own_with_at jobs place views own)
    where
      by_test : (b : Bool) → own_jobs u (with_lanes_at jobs place views) ≡ with_lanes_at (own_jobs u jobs) (own_place u (versions jobs) place) views
          → cond b (j ∷ own_jobs u (with_lanes_at jobs place views)) (own_jobs u (with_lanes_at jobs place views))
          ≡ with_lanes_at (cond b (j ∷ own_jobs u jobs) (own_jobs u jobs)) (length (cond b (j.version ∷ own_versions u (take place (versions jobs))) (own_versions u (take place (versions jobs))))) views
      by_test true rest = ap (λ (l : List JobState). j ∷ l) rest
      by_test false rest = rest

  -- a job of another user with other lanes is nothing to the user's
  other_with_at : (jobs : List JobState) (place : ℕ) (views : List LaneView) → is_own_place u (versions jobs) place ≡ false
      → own_jobs u (with_lanes_at jobs place views) ≡ own_jobs u jobs
  other_with_at [] place views other = refl
  other_with_at (j ∷ jobs) zero views other = rw other refl
  other_with_at (j ∷ jobs) (suc place) views other = by_test (is_job_of u j) (other_with_at jobs place views other)
    where
      by_test : (b : Bool) → own_jobs u (with_lanes_at jobs place views) ≡ own_jobs u jobs
          → cond b (j ∷ own_jobs u (with_lanes_at jobs place views)) (own_jobs u (with_lanes_at jobs place views)) ≡ cond b (j ∷ own_jobs u jobs) (own_jobs u jobs)
      by_test true rest = ap (λ (l : List JobState). j ∷ l) rest
      by_test false rest = rest

  less_one : (n : ℕ) → n + 1 - 1 ≡ n
  less_one n = omega arith

  pub own_lanes : (jobs : List JobState) (job : ℕ) → is_own_job u (versions jobs) job ≡ true → lanes_of (own_jobs u jobs) (own_job u (versions jobs) job) ≡ lanes_of jobs job
  own_lanes jobs job own =
      ap (lanes_at (own_jobs u jobs)) (less_one (own_place u (versions jobs) (job - 1))) ∙ own_lanes_at jobs (job - 1) own

  pub own_with : (jobs : List JobState) (job : ℕ) (views : List LaneView) → is_own_job u (versions jobs) job ≡ true
      → own_jobs u (with_lanes jobs job views) ≡ with_lanes (own_jobs u jobs) (own_job u (versions jobs) job) views
  own_with jobs job views own =
      own_with_at jobs (job - 1) views own
      ∙ ap (λ (place : ℕ). with_lanes_at (own_jobs u jobs) place views) (sym (less_one (own_place u (versions jobs) (job - 1))))

  pub other_with : (jobs : List JobState) (job : ℕ) (views : List LaneView) → is_own_job u (versions jobs) job ≡ false → own_jobs u (with_lanes jobs job views) ≡ own_jobs u jobs
  other_with jobs job views other = other_with_at jobs (job - 1) views other

  -- ---- numbers anew, once more

  -- the user's own versions in front of a place that is counted among them
  again_at : (vs : List FileVersion) (place : ℕ) → own_place u (own_versions u vs) (own_place u vs place) ≡ own_place u vs place
  again_at [] zero = refl
  again_at [] (suc place) = refl
  again_at (v ∷ vs) zero = refl
  again_at (v ∷ vs) (suc place) = by_test (is_version_of u v) refl (again_at vs place)
    where
      by_test : (b : Bool) → is_version_of u v ≡ b → own_place u (own_versions u vs) (own_place u vs place) ≡ own_place u vs place
          → own_place u (cond b (v ∷ own_versions u vs) (own_versions u vs)) (length (cond b (v ∷ own_versions u (take place vs)) (own_versions u (take place vs))))
          ≡ length (cond b (v ∷ own_versions u (take place vs)) (own_versions u (take place vs)))
      by_test true h rest = rw h (ap (λ (n : ℕ). suc n) rest)
      by_test false h rest = rest

  -- a job that has its number among the user's keeps it
  pub number_again : (vs : List FileVersion) (job : ℕ) → own_job u (own_versions u vs) (own_job u vs job) ≡ own_job u vs job
  number_again vs job =
      ap (λ (place : ℕ). own_place u (own_versions u vs) place + 1) (less_one (own_place u vs (job - 1))) ∙ ap (λ (n : ℕ). n + 1) (again_at vs (job - 1))

  pub line_again : (vs : List FileVersion) (line : Line) → own_line u (own_versions u vs) (own_line u vs line) ≡ own_line u vs line
  line_again vs (lines.Opened shape) = refl
  line_again vs (lines.Done count) = refl
  line_again vs (lines.Job job) = ap (λ (n : ℕ). lines.Job n) (number_again vs job)
  line_again vs (lines.Step job lane news) = ap (λ (n : ℕ). lines.Step n lane news) (number_again vs job)
  line_again vs (lines.JobStored job) = ap (λ (n : ℕ). lines.JobStored n) (number_again vs job)
  line_again vs (lines.Lost job lane) = ap (λ (n : ℕ). lines.Lost n lane) (number_again vs job)
  line_again vs (lines.End job stored) = ap (λ (n : ℕ). lines.End n stored) (number_again vs job)
  line_again vs (lines.Got bytes) = refl
  line_again vs (lines.Refused why) = refl
  line_again vs (lines.Entries user cloud count) = refl
  line_again vs (lines.Entry tag version) = refl
  line_again vs (lines.Armed cloud) = refl
  line_again vs (lines.Restarted cloud commands) = refl
  line_again vs (lines.Replaced cloud) = refl
  line_again vs (lines.Fault cloud) = refl
  line_again vs (lines.Damaged cloud at byte) = refl
  line_again vs (lines.Rebuilt user cloud files skipped) = refl
  line_again vs (lines.Skipped tag version why) = refl
  line_again vs (lines.Deleted cloud) = refl
  line_again vs (lines.Missing cloud) = refl
  line_again vs (lines.Full cloud room used need limit) = refl
  line_again vs (lines.Rotten cloud named found) = refl
  line_again vs (lines.NoMemory cloud) = refl
  line_again vs (lines.Strange cloud kind) = refl

  pub lines_again : (vs : List FileVersion) (ls : List Line) → map (own_line u (own_versions u vs)) (map (own_line u vs) ls) ≡ map (own_line u vs) ls
  lines_again vs [] = refl
  lines_again vs (line ∷ ls) = let h = line_again vs line in let t = lines_again vs ls in λ j. h j ∷ t j

  -- the user's job is among the user's own versions
  own_place_here : (vs : List FileVersion) (place : ℕ) → is_own_place u vs place ≡ true → is_own_place u (own_versions u vs) (own_place u vs place) ≡ true
  own_place_here [] place own = cc
  own_place_here (v ∷ vs) zero own = rw own own
  own_place_here (v ∷ vs) (suc place) own = by_test (is_version_of u v) (own_place_here vs place own)
    where
      by_test : (b : Bool) → is_own_place u (own_versions u vs) (own_place u vs place) ≡ true
          → is_own_place u (cond b (v ∷ own_versions u vs) (own_versions u vs)) (length (cond b (v ∷ own_versions u (take place vs)) (own_versions u (take place vs)))) ≡ true
      by_test true rest = rest
      by_test false rest = rest

  pub job_again : (vs : List FileVersion) (job : ℕ) → is_own_job u vs job ≡ true → is_own_job u (own_versions u vs) (own_job u vs job) ≡ true
  job_again vs job own =
      subst (λ (place : ℕ). is_own_place u (own_versions u vs) place ≡ true) (sym (less_one (own_place u vs (job - 1)))) (own_place_here vs (job - 1) own)

  -- and its number is in the range
  place_below : (vs : List FileVersion) (place : ℕ) → is_own_place u vs place ≡ true → own_place u vs place < length (own_versions u vs)
  place_below [] place own = cc
  place_below (v ∷ vs) zero own = rw own (omega arith)
  place_below (v ∷ vs) (suc place) own = by_test (is_version_of u v) (place_below vs place own)
    where
      by_test : (b : Bool) → own_place u vs place < length (own_versions u vs)
          → length (cond b (v ∷ own_versions u (take place vs)) (own_versions u (take place vs))) < length (cond b (v ∷ own_versions u vs) (own_versions u vs))
      by_test true rest = omega (arith, rest)
      by_test false rest = rest

  pub job_below : (vs : List FileVersion) (job : ℕ) → is_own_job u vs job ≡ true → own_job u vs job ≤ length (own_versions u vs)
  job_below vs job own = let h = place_below vs (job - 1) own in omega (arith, h)

  pub own_job_some : (vs : List FileVersion) (job : ℕ) → 1 ≤ own_job u vs job
  own_job_some vs job = omega arith

  -- no more versions than there are
  pub own_few : (vs : List FileVersion) → length (own_versions u vs) ≤ length vs
  own_few [] = omega arith
  own_few (v ∷ vs) = by_test (is_version_of u v) (own_few vs)
    where
      by_test : (b : Bool) → length (own_versions u vs) ≤ length vs → length (cond b (v ∷ own_versions u vs) (own_versions u vs)) ≤ length (v ∷ vs)
      by_test true rest = omega (arith, rest)
      by_test false rest = omega (arith, rest)
