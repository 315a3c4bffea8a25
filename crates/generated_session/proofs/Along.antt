-- How a generated session goes on by a line, and where it stops.
use Rattle.std.proofs.Common.{◌≡◌, ℕ, ◌+◌, ◌-◌, ◌^◌, ◌<◌, ◌≤◌, Bool, true, false, List, [], ◌∷◌, ◌++◌, map, length, Some, None, refl, sym, ap, ◌∙◌, subst, inl, inr, ◌⊎◌, arith, append-nil, append_assoc}
use Rattle.std.specs.Prelude.{◌≢◌, Option, Result, Ok, Err, IsSome, IfErr, All, sum_by, slice_index_or, if◌then◌else◌}
use Rattle.std.specs.List.{Contains, range_with_len}
use Rattle.std.proofs.lemmas.List.{length-append}
use Rattle.std.proofs.lemmas.List.Elements.{All-from_recursion}
use Rattle.generated_session.specs.Drawn.{file_of}
use Rattle.generated_session.specs.Lines.{user_at, version_at, file_path, upload_lines}
use Rattle.generated_session.proofs.Pieces.{file_len, file_bytes}
use Rattle.lane_steps.specs.Reached.{IsReached, Begun}
use Rattle.lane_steps.specs.CdBase.Limits.{IsPath}
use Rattle.lane_steps.specs.CdBase.ids.UserId.{UserId}
use Rattle.lane_steps.specs.CdBase.ids.Version.{Version}
use Rattle.lane_steps.specs.CdBase.shape.Shape.{Shape}
use Rattle.lane_steps.specs.CdEdges.Disk.{Cloud}
use Rattle.subset_restore.specs.UserDedup.Exec.{Peer}
use Rattle.lane_steps.specs.UploadJob.Upload.{FileVersion}
use Rattle.lane_steps.specs.UploadJob.Lanes.{LaneView, lanes_begun}
use Rattle.subset_restore.specs.RestoreJob.error.RestoreErr.{RestoreErr}
use Rattle.replay_core.specs.LocalLink.link.LocalLink.{LocalLink}
use Rattle.replay_core.specs.Session.Spelling.{AreLineBytes, IsJob}
use Rattle.replay_core.specs.Session.event.Event.{Event}
use Rattle.replay_core.specs.Session.event.Event.TheVariants as events
use Rattle.subset_restore.specs.Transcript.line.Line.{Line}
use Rattle.subset_restore.specs.Transcript.line.Line.TheVariants as lines
use Rattle.subset_restore.specs.Transcript.refusal.Refusal.{Refusal}
use Rattle.replay_core.specs.Session.Scripts.{jobs_after}
use Rattle.replay_core.specs.SessionModel.Vault.{Setting, Vault, lanes_of}
use Rattle.replay_core.specs.SessionModel.Steps.{version_of, all_done, IsGetLine}
use Rattle.replay_core.specs.SessionModel.Kept.{upload_of}
use Rattle.replay_core.specs.SessionModel.Run.{Answered, script_of}
use Rattle.replay_core.specs.SessionModel.Headline.{IsPartOf}
use Rattle.replay_core.specs.ScriptLines.At.{IsAtVault, KeepsOtherClouds}
use Rattle.replay_core.specs.ScriptLines.Does.{Goes, IsLineCut}
use Rattle.replay_core.specs.ScriptLines.Finishing.{FinishedPart}
use Rattle.replay_core.specs.ScriptLines.Jobs.{job_lanes}
use Rattle.replay_core.proofs.ScriptLines.Going.{leaves_all}
use Rattle.replay_core.proofs.ScriptLines.Others.{upload_goes}
use Rattle.replay_core.proofs.ScriptLines.Bringing.{finish_cut}
use Rattle.replay_core.specs.Opening.{IsThere, before_first}
use Rattle.replay_core.specs.Going.{SaysNext, CanBe}
use Rattle.replay_core.proofs.Sessions.{Later, Here, answered, come_on, script_more}
use Rattle.generated_session.specs.declared.numbers.Numbers.{Numbers}
use Rattle.generated_session.specs.Numbers.{stored_in, sent_in, known_in, bytes_in, HasNumbers, GivesUploaded}
use Rattle.generated_session.specs.Progress.{start_of, HasMade, HasLastJob, IsFileOf, IsStopped, Brings, HasAddedAnswers, CountsGot}
use Rattle.generated_session.proofs.Tallies.{Gives, numbers_more, adds_end}

-- nothing is read, so nothing is said
pub says_none : (shape : Shape) (jobs : ℕ) (event : Event) → SaysNext shape jobs before_first None (Some event) before_first None
says_none shape jobs event place there = absurd (let e : None ≡ Some there.unread = there.left_is in cc)

-- what a line more adds to the numbers
pub record Counted (files : List FileVersion) (a : Answered) (n m : Numbers) : Type 0 where
  pub bytes : m.bytes ≡ n.bytes + bytes_in (upload_of a.event)
  pub stored : m.stored ≡ n.stored + sum_by stored_in a.answers
  pub sent : m.sent ≡ n.sent + sum_by sent_in a.answers
  pub known : m.known ≡ n.known + sum_by known_in a.answers
  pub equal : (Gives files a × (m.equal ≡ n.equal + 1)) ⊎ ((¬ Gives files a) × (m.equal ≡ n.equal))

module _ {V : Type 0} (clouds : V → ℕ → Cloud) (begun : ℕ → Cloud) (s : Setting) (files : List FileVersion) (script : List Event) (count : ℕ) (n : Numbers) (old : LocalLink V)
    (made : HasMade clouds begun s old files script count n) where
  -- a line was answered
  abbrev pub made_on : Later → Here → (new : LocalLink V) (event : Event) (jobs_now : List (List LaneView)) (answers : List Line) (count_now : ℕ) (m : Numbers) (can : CanBe s.shape (length made.jobs) event) (leaves : KeepsOtherClouds clouds old new)
      (goes : Goes clouds s event old new jobs_now made.come.at answers) → length jobs_now ≡ jobs_after (length made.jobs) event → length jobs_now ≡ count_now
      → Counted files (answered made.come.at event answers goes.moments goes.after) n m → HasMade clouds begun s new files (script ++ event ∷ []) count_now m
  made_on later here new event jobs_now answers count_now m can leaves goes after now counted = record {
    jobs = jobs_now;
    lines = made.lines + 1;
    come = come_on clouds (start_of begun) s old made.jobs before_first None 0 None 0 made.lines made.come new event before_first None can (says_none s.shape (length made.jobs) event) leaves
        later here jobs_now answers goes 0 None 0 refl refl tt after;
    script_is = script_more made.come.history (answered made.come.at event answers goes.moments goes.after) ∙ ap (λ (l : List Event). l ++ event ∷ []) made.script_is;
    count_is = now;
    numbers = numbers_more files made.come.history (answered made.come.at event answers goes.moments goes.after) n m made.numbers counted.bytes counted.stored counted.sent counted.known counted.equal;
  }

  -- it stopped before any of these lines
  pub paused : (rest : List Event) → IsStopped clouds begun s old (script ++ rest)
  paused rest = inl (record { jobs = made.jobs; lines = made.lines; come = made.come; rest = rest; script_is = ap (λ (l : List Event). l ++ rest) made.script_is })

  -- it stopped within this line
  pub broken : (new : LocalLink V) (event : Event) (rest : List Event) → CanBe s.shape (length made.jobs) event → KeepsOtherClouds clouds old new → IsLineCut clouds s event old new made.come.at
      → IsStopped clouds begun s new (script ++ event ∷ rest)
  broken new event rest can leaves cut = inr (record {
    before = old;
    jobs = made.jobs;
    lines = made.lines;
    come = made.come;
    event = event;
    rest = rest;
    script_is = ap (λ (l : List Event). l ++ event ∷ rest) made.script_is;
    can = can;
    leaves = leaves;
    cut = cut;
  })

  -- a job was begun
  pub job_made : Later → Here → (user : UserId) (path : List ℕ) (version : Version) (bytes : List ℕ) (lanes : List LaneView) (shape : Shape) (number : ℕ) (m : Numbers) → number ≡ count + 1 → number ≤ 1000 → IsPath path → length bytes ≤ 67108864
      → user.0 < 2 ^ 32 → AreLineBytes path → version.0 < 2 ^ 64 → AreLineBytes bytes → shape ≡ old.servers.shape → lanes ≡ lanes_begun shape (version_of user path version bytes)
      → m ≡ record n { bytes = n.bytes + length bytes } → HasLastJob clouds begun s old files (script ++ events.Upload user path version bytes ∷ []) number m lanes
  job_made later here user path version bytes lanes shape number m next few named short user_few path_bytes version_few bytes_bytes same_shape begun_so added =
      let goes = upload_goes clouds s old made.jobs made.come.at user path version bytes lanes (length made.jobs + 1) made.come.is_at (begun_so ∙ ap (λ (sh : Shape). lanes_begun sh (version_of user path version bytes)) same_shape) refl in
      let len : length (made.jobs ++ lanes ∷ []) ≡ length made.jobs + 1 = length-append made.jobs (lanes ∷ []) in
      let number_is : length made.jobs + 1 ≡ number = ap (λ (k : ℕ). k + 1) made.count_is ∙ sym next in
      let allowed : length made.jobs < 1000 = omega arith in
      let place : number - 1 ≡ length made.jobs = omega arith in
      record {
        some = omega arith;
        made = made_on later here old (events.Upload user path version bytes) (made.jobs ++ lanes ∷ []) (lines.Job (length made.jobs + 1) ∷ []) number m
            (record { fits = record { allowed = allowed; named = named; few = short }; typed = (user_few, path_bytes, version_few, bytes_bytes) })
            (leaves_all clouds old old refl) goes len (len ∙ number_is) (record {
              bytes = ap (λ (x : Numbers). x.bytes) added ∙ ap (λ (k : ℕ). n.bytes + k) (one_file (version_of user path version bytes));
              stored = ap (λ (x : Numbers). x.stored) added ∙ no_more n.stored;
              sent = ap (λ (x : Numbers). x.sent) added ∙ no_more n.sent;
              known = ap (λ (x : Numbers). x.known) added ∙ no_more n.known;
              equal = inr ((λ g. g), ap (λ (x : Numbers). x.equal) added);
            });
        views_are = ap (λ (k : ℕ). slice_index_or (made.jobs ++ lanes ∷ []) k []) place ∙ last_of made.jobs lanes;
      }
    where
      one_file : (v : FileVersion) → length v.file ≡ bytes_in (v ∷ [])
      one_file v = omega arith

      no_more : (k : ℕ) → k ≡ k + 0
      no_more k = omega arith

      last_of : (jobs : List (List LaneView)) (lanes : List LaneView) → slice_index_or (jobs ++ lanes ∷ []) (length jobs) [] ≡ lanes
      last_of [] lanes = refl
      last_of (j ∷ jobs) lanes = last_of jobs lanes

module _ {V : Type 0} (clouds : V → ℕ → Cloud) (begun : ℕ → Cloud) (s : Setting) (files : List FileVersion) (script : List Event) (count : ℕ) (n : Numbers) (views : List LaneView) (old : LocalLink V)
    (job : HasLastJob clouds begun s old files script count n views) where
  abbrev pub is_job : IsJob (length job.made.jobs) count
  is_job = (job.some, subst (λ (k : ℕ). count ≤ k) (sym job.made.count_is) (same_le count))
    where
      same_le : (k : ℕ) → k ≤ k
      same_le k = omega arith

  can_finish : CanBe s.shape (length job.made.jobs) (events.Finish count)
  can_finish = record { fits = is_job; typed = tt }

  -- its lanes came to their ends
  pub job_finished : Later → Here → (new : LocalLink V) (m : Numbers) → KeepsOtherClouds clouds old new
      → (later : List (List LaneView)) × (length later ≡ length job.made.jobs) × Brings clouds s count (range_with_len 0 s.shape.n) old new later job.made.come.at n m
      → HasMade clouds begun s new files (script ++ events.Finish count ∷ []) count m
  job_finished later here new m leaves came =
      let b = came.2 in
      let end = lines.End count (all_done (lanes_of b.after.jobs count)) in
      let adds = adds_end b.answers count (all_done (lanes_of b.after.jobs count)) n m b.adds in
      made_on clouds begun s files script count n old job.made later here new (events.Finish count) came.0 (b.answers ++ end ∷ []) count m can_finish leaves
      (record { moments = b.moments; after = b.after; is_at = b.is_at; step = (b.answers, b.lanes_run, refl); images = b.images })
      came.1 (came.1 ∙ job.made.count_is)
      (record { bytes = adds.bytes ∙ no_more n.bytes; stored = adds.stored; sent = adds.sent; known = adds.known; equal = inr ((λ g. g), adds.equal) })
    where
      no_more : (k : ℕ) → k ≡ k + 0
      no_more k = omega arith

  -- want of memory cut them
  pub job_cut : (new : LocalLink V) → KeepsOtherClouds clouds old new → (part : FinishedPart clouds s count (range_with_len 0 s.shape.n) old new job.made.come.at)
      → IsPartOf s job.made.come.at (record { event = events.Finish count; moments = part.moments }) part.last → IsStopped clouds begun s new (script ++ events.Finish count ∷ [])
  job_cut new leaves part is =
      broken clouds begun s files script count n old job.made new (events.Finish count) [] can_finish leaves (finish_cut clouds s count old new job.made.come.at part is)

-- ---- equal lines

pub get_same : (user other : UserId) (path : List ℕ) (version number : Version) (named clouds : List ℕ) → user ≡ other → version ≡ number → named ≡ clouds
    → events.Get user path version named ≡ events.Get other path number clouds
get_same user other path version number named clouds u v f =
    ap (λ (x : UserId). events.Get x path version named) u ∙ ap (λ (x : Version). events.Get other path x named) v ∙ ap (λ (x : List ℕ). events.Get other path number x) f

-- the path of all files
pub path_named : IsPath file_path
path_named = record {
  some = omega arith;
  few = omega arith;
  no_zero = All-from_recursion (λ byte. byte ≢ 0) file_path ((λ e. omega (arith, e)), ((λ e. omega (arith, e)), ((λ e. omega (arith, e)), ((λ e. omega (arith, e)), tt))));
}

pub path_bytes : AreLineBytes file_path
path_bytes = All-from_recursion (λ byte. byte < 256) file_path (omega arith, (omega arith, (omega arith, (omega arith, tt))))

-- the job of a file was begun
module _ {V : Type 0} (clouds : V → ℕ → Cloud) (seed pieces number : ℕ) where
  file_here : FileVersion
  file_here = version_of (user_at number) file_path (version_at number) (file_of seed pieces (version_at number).0)

  abbrev pub upload_here : Event
  upload_here = events.Upload (user_at number) file_path (version_at number) (file_of seed pieces (version_at number).0)

  pub same_file : (user : UserId) (version : ℕ) (bytes : List ℕ) → user ≡ user_at number → version ≡ (version_at number).0 → bytes ≡ file_of seed pieces version
      → version_of user file_path (record { 0 = version }) bytes ≡ version_of (user_at number) file_path (version_at number) (file_of seed pieces (version_at number).0)
  same_file user version bytes u v f =
      ap (λ (x : UserId). version_of x file_path (record { 0 = version }) bytes) u
      ∙ ap (λ (x : List ℕ). version_of (user_at number) file_path (record { 0 = version }) x) f
      ∙ ap (λ (x : ℕ). version_of (user_at number) file_path (record { 0 = x }) (file_of seed pieces x)) v

  short_here : pieces ≤ 8192 → length (file_of seed pieces (version_at number).0) ≤ 67108864
  short_here few = omega (arith, file_len seed pieces (version_at number).0, few)

  few_user : (user_at number).0 < 2 ^ 32
  few_user = omega arith

  few_version : number ≤ 1000 → (version_at number).0 < 2 ^ 64
  few_version few = omega arith

  pub job_reached : (shape : Shape) (user : UserId) (version : ℕ) (bytes : List ℕ) (own : Shape) (lanes : List LaneView) → number ≤ 1000 → pieces ≤ 8192 → user ≡ user_at number → version ≡ (version_at number).0 → bytes ≡ file_of seed pieces version
      → own ≡ shape → lanes ≡ lanes_begun own (version_of user file_path (record { 0 = version }) bytes) → IsReached shape lanes
  job_reached shape user version bytes own lanes few few_pieces u v f same made =
      subst (IsReached shape) (sym (made ∙ ap (lanes_begun own) (same_file user version bytes u v f) ∙ ap (λ (sh : Shape). lanes_begun sh (version_of (user_at number) file_path (version_at number) (file_of seed pieces (version_at number).0))) same))
      (Begun (version_of (user_at number) file_path (version_at number) (file_of seed pieces (version_at number).0)) path_named (short_here few_pieces) few_user (few_version few))

  pub job_of_file : (begun : ℕ → Cloud) (s : Setting) (files : List FileVersion) (script : List Event) (n : Numbers) (old : LocalLink V) → HasMade clouds begun s old files script (number - 1) n → Later → Here
      → (user : UserId) (version : ℕ) (bytes : List ℕ) (own : Shape) (lanes : List LaneView) (len : ℕ) → 1 ≤ number → number ≤ 1000 → pieces ≤ 8192 → user ≡ user_at number → version ≡ (version_at number).0 → bytes ≡ file_of seed pieces version
      → own ≡ old.servers.shape → lanes ≡ lanes_begun own (version_of user file_path (record { 0 = version }) bytes) → len ≡ length bytes
      → HasLastJob clouds begun s old files (script ++ upload_here ∷ []) number (record n { bytes = n.bytes + len }) lanes
  job_of_file begun s files script n old made later here user version bytes own lanes len some few few_pieces u v f same made_so long =
      job_made clouds begun s files script (number - 1) n old made later here (user_at number) file_path (version_at number) (file_of seed pieces (version_at number).0) lanes own number (record n { bytes = n.bytes + len })
      (omega arith) few path_named (short_here few_pieces) few_user path_bytes (few_version few) (file_bytes seed pieces (version_at number).0) same
      (made_so ∙ ap (lanes_begun own) (same_file user version bytes u v f))
      (ap (λ (k : ℕ). let x : Numbers = record n { bytes = n.bytes + k } in x) (long ∙ ap length f ∙ ap (λ (x : ℕ). length (file_of seed pieces x)) v))

  pub upload_whole : (script : List Event) → script ++ upload_here ∷ [] ++ events.Finish number ∷ [] ≡ script ++ upload_lines seed pieces number
  upload_whole script = append_assoc script (upload_here ∷ []) (events.Finish number ∷ [])

pub user_within : (user : UserId) (number : ℕ) → user ≡ user_at number → user.0 < 2 ^ 32
user_within user number e = omega (arith, ap (λ (x : UserId). x.0) e)

pub version_within : (version number : ℕ) → number ≤ 1000 → version ≡ (version_at number).0 → version < 2 ^ 64
version_within version number few e = omega arith
