-- A get, and whether it gave the file that was uploaded.
use Rattle.std.proofs.Common.{◌≡◌, ℕ, ◌+◌, ◌^◌, ◌<◌, ◌≤◌, Bool, true, false, List, [], ◌∷◌, ◌++◌, length, Some, None, refl, sym, ap, ◌∙◌, subst, inl, inr, ◌⊎◌, arith}
use Rattle.std.specs.Prelude.{◌↔◌, Option, Result, Ok, Err, IsSome, IsTrue, sum_by, if◌then◌else◌}
use Rattle.std.specs.List.{Contains}
use Rattle.lane_steps.specs.CdBase.Limits.{IsPath}
use Rattle.lane_steps.specs.CdBase.ids.UserId.{UserId}
use Rattle.lane_steps.specs.CdBase.ids.Version.{Version}
use Rattle.lane_steps.specs.CdBase.shape.Shape.{Shape}
use Rattle.lane_steps.specs.CdEdges.Disk.{Cloud}
use Rattle.lane_steps.specs.UploadJob.Upload.{FileVersion}
use Rattle.subset_restore.specs.RestoreJob.error.RestoreErr.{RestoreErr}
use Rattle.replay_core.specs.LocalLink.link.LocalLink.{LocalLink}
use Rattle.replay_core.specs.Session.Spelling.{AreLineBytes, AreSources}
use Rattle.replay_core.specs.Session.event.Event.{Event}
use Rattle.replay_core.specs.Session.event.Event.TheVariants as events
use Rattle.subset_restore.specs.Transcript.line.Line.{Line}
use Rattle.subset_restore.specs.Transcript.line.Line.TheVariants as lines
use Rattle.subset_restore.specs.Transcript.refusal.Refusal.{Refusal}
use Rattle.replay_core.specs.SessionModel.Vault.{Setting}
use Rattle.subset_restore.specs.Refusals.{refusal_of}
use Rattle.replay_core.specs.SessionModel.Steps.{version_of, IsGetLine}
use Rattle.replay_core.specs.SessionModel.Headline.{IsPartOf}
use Rattle.replay_core.specs.ScriptLines.At.{KeepsOtherClouds}
use Rattle.replay_core.specs.ScriptLines.Does.{Goes}
use Rattle.replay_core.proofs.ScriptLines.Others.{Read, get_goes, get_cut}
use Rattle.replay_core.specs.Going.{CanBe}
use Rattle.replay_core.proofs.Sessions.{Later, Here}
use Rattle.generated_session.specs.declared.numbers.Numbers.{Numbers}
use Rattle.generated_session.specs.Numbers.{stored_in, sent_in, known_in, GivesUploaded}
use Rattle.generated_session.specs.Progress.{HasMade, IsFileOf, IsStopped, CountsGot}
use Rattle.generated_session.proofs.Along.{made_on, broken}

-- the line of a get, and what it counts
pub record GotLine (files : List FileVersion) (event : Event) (result : Result (Unit {0}) RestoreErr) (file : List ℕ) (n m : Numbers) : Type 0 where
  pub line : Line
  pub line_is : IsGetLine result file line
  pub bytes : m.bytes ≡ n.bytes
  pub stored : m.stored ≡ n.stored + sum_by stored_in (line ∷ [])
  pub sent : m.sent ≡ n.sent + sum_by sent_in (line ∷ [])
  pub known : m.known ≡ n.known + sum_by known_in (line ∷ [])
  pub equal : (GivesUploaded files event (line ∷ []) × (m.equal ≡ n.equal + 1)) ⊎ ((¬ GivesUploaded files event (line ∷ [])) × (m.equal ≡ n.equal))

no_more : (k : ℕ) → k ≡ k + 0
no_more k = omega arith

module _ (files : List FileVersion) (user : UserId) (path : List ℕ) (version : Version) (clouds : List ℕ) (file made : List ℕ) (known : IsFileOf files (version_of user path version made)) where
  abbrev event : Event
  event = events.Get user path version clouds

  gave : (same : Bool) → IsTrue same ↔ (file ≡ made) → (k : ℕ) → (e : ℕ) → e ≡ k + (if same then 1 else 0)
      → (Contains files (version_of user path version file) × (e ≡ k + 1)) ⊎ ((¬ Contains files (version_of user path version file)) × (e ≡ k))
  gave true both k e is = inl (subst (λ (l : List ℕ). Contains files (version_of user path version l)) (sym (both.0 refl)) known.here, is)
  gave false both k e is = inr ((λ has. absurd (let f : false ≡ true = both.1 (known.same (version_of user path version file) has refl) in cc)), is ∙ sym (no_more k))

  refused : (why : Refusal) (n m : Numbers) (e : RestoreErr) → refusal_of e ≡ Some why → m ≡ n → GotLine files event (Err e) file n m
  refused why n m e is same = record {
    line = lines.Refused why;
    line_is = (why, is, refl);
    bytes = ap (λ (x : Numbers). x.bytes) same;
    stored = ap (λ (x : Numbers). x.stored) same ∙ no_more n.stored;
    sent = ap (λ (x : Numbers). x.sent) same ∙ no_more n.sent;
    known = ap (λ (x : Numbers). x.known) same ∙ no_more n.known;
    equal = inr ((λ g. g), ap (λ (x : Numbers). x.equal) same);
  }

  by_some : (o : Option Refusal) (n m : Numbers) (e : RestoreErr) → refusal_of e ≡ o → IsSome o → m ≡ n → GotLine files event (Err e) file n m
  by_some None n m e is some same = absurd (let f : false ≡ true = some in cc)
  by_some (Some why) n m e is some same = refused why n m e is same

  pub got_line : (result : Result (Unit {0}) RestoreErr) (same : Bool) (n m : Numbers) → IsTrue same ↔ (file ≡ made) → CountsGot result same n m → GotLine files event result file n m
  got_line (Ok u) same n m both counts = record {
    line = lines.Got file;
    line_is = refl;
    bytes = ap (λ (x : Numbers). x.bytes) counts;
    stored = ap (λ (x : Numbers). x.stored) counts ∙ no_more n.stored;
    sent = ap (λ (x : Numbers). x.sent) counts ∙ no_more n.sent;
    known = ap (λ (x : Numbers). x.known) counts ∙ no_more n.known;
    equal = gave same both n.equal m.equal (ap (λ (x : Numbers). x.equal) counts);
  }
  got_line (Err e) same n m both counts = by_some (refusal_of e) n m e refl counts.0 counts.1

module _ {V : Type 0} (clouds : V → ℕ → Cloud) (begun : ℕ → Cloud) (s : Setting) (files : List FileVersion) (script : List Event) (count : ℕ) (n : Numbers) (old : LocalLink V)
    (made : HasMade clouds begun s old files script count n) (new : LocalLink V) (user : UserId) (path : List ℕ) (version : Version) (named : List ℕ)
    (is_path : IsPath path) (user_few : user.0 < 2 ^ 32) (path_bytes : AreLineBytes path) (version_few : version.0 < 2 ^ 64) (are : AreSources old.servers.shape named)
    (result : Result (Unit {0}) RestoreErr) (file : List ℕ) (r : Read clouds s old new named result user path version file) (leaves : KeepsOtherClouds clouds old new) where
  can_get : CanBe s.shape (length made.jobs) (events.Get user path version named)
  can_get = record {
    fits = (is_path, subst (λ (sh : Shape). AreSources sh named) made.come.is_at.link_at.shape are);
    typed = (user_few, path_bytes, version_few);
  }

  pub got_made : Later → Here → (m : Numbers) → GotLine files (events.Get user path version named) result file n m
      → HasMade clouds begun s new files (script ++ events.Get user path version named ∷ []) count m
  got_made later here m got =
      made_on clouds begun s files script count n old made later here new (events.Get user path version named) made.jobs (got.line ∷ []) count m can_get leaves
      (get_goes clouds s old new named result user path version file r made.come.at made.come.is_at.link_at made.jobs got.line are made.come.is_at.jobs_are got.line_is)
      refl made.count_is (record { bytes = got.bytes ∙ no_more n.bytes; stored = got.stored; sent = got.sent; known = got.known; equal = got.equal })

  pub got_cut : IsPartOf s made.come.at (record { event = events.Get user path version named; moments = [] }) made.come.at.peers
      → IsStopped clouds begun s new (script ++ events.Get user path version named ∷ [])
  got_cut part =
      broken clouds begun s files script count n old made new (events.Get user path version named) [] can_get leaves
      (get_cut clouds s old new named result user path version file r made.come.at made.come.is_at.link_at are part)

pub counted_few : (result : Result (Unit {0}) RestoreErr) (same : Bool) (n m : Numbers) → CountsGot result same n m → m.equal ≤ n.equal + 1
counted_few (Ok u) true n m counts = omega (arith, ap (λ (x : Numbers). x.equal) counts)
counted_few (Ok u) false n m counts = omega (arith, ap (λ (x : Numbers). x.equal) counts)
counted_few (Err e) same n m counts = omega (arith, ap (λ (x : Numbers). x.equal) counts.1)
