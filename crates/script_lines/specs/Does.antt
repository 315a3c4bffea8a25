-- What a line of a script does to the servers of this process and to the jobs.
use Rattle.std.specs.Prelude.{◌≡◌, ℕ, ◌<◌, ◌≤◌, IsTrue, List, ◌++◌}
use Rattle.session_model.specs.CdEdges.Disk.{Cloud}
use Rattle.session_model.specs.UserDedup.Exec.{Peer, MaySettleAs}
use Rattle.session_model.specs.CloudAreas.Peers.{ImagesNow, ImagesSince}
use Rattle.session_model.specs.UploadJob.Lanes.{LaneView}
use Rattle.session_model.specs.LocalLink.link.LocalLink.{LocalLink}
use Rattle.session_model.specs.Session.event.Event.{Event}
use Rattle.session_model.specs.Transcript.line.Line.{Line}
use Rattle.session_model.specs.Vault.{Setting, Vault}
use Rattle.session_model.specs.Steps.{Moment, VStep}
use Rattle.session_model.specs.Run.{IsListIn}
use Rattle.session_model.specs.Headline.{IsPartOf}
use Rattle.session_model.specs.Session.Texts.{text_of}
use Rattle.script_lines.specs.At.{IsAtVault, header_in}

-- Each image of a told cloud since then stands for a list that the cloud had at one of these moments, or has now.
abbrev pub Images : {V : Type 0} → (V → ℕ → Cloud) → Setting → LocalLink V → LocalLink V → List Moment → (ℕ → Peer)
    → Type 0
Images clouds s old new moments last =
    (cloud : ℕ) → cloud < s.shape.n → IsTrue (s.told cloud)
    → ImagesSince (clouds old.shelf.now cloud) (clouds new.shelf.now cloud) (header_in s cloud)
    (IsListIn s cloud moments last)

-- The line was carried out: the vault has gone on by it, with these answers, and the link and the jobs are at the vault
-- that it comes to.
pub record Goes {V : Type 0} (clouds : V → ℕ → Cloud) (s : Setting) (event : Event) (old new : LocalLink V)
    (jobs : List (List LaneView)) (v : Vault) (answers : List Line) : Type 0 where
  pub moments : List Moment
  pub after : Vault
  pub is_at : IsAtVault clouds s new jobs after
  pub step : VStep s v event answers moments after
  pub images : Images clouds s old new moments after.peers

-- The line was carried out, and the text of its answers stands behind what was there.
abbrev pub DoesLine : {V : Type 0} → (V → ℕ → Cloud) → Setting → Event → LocalLink V → LocalLink V
    → List (List LaneView)
    → Vault → List ℕ → List ℕ → Type 0
DoesLine clouds s event old new jobs v before text =
    (answers : List Line) × Goes clouds s event old new jobs v answers × (text ≡ before ++ text_of answers)

-- What a cut leaves: no count of a cloud is above the link's, its armings are the link's, and each image of a told cloud
-- stands for a list that the peer may settle as.
pub record IsLeftByCut {V : Type 0} (clouds : V → ℕ → Cloud) (s : Setting) (link : LocalLink V) (last : ℕ → Peer)
    : Type 0 where
  pub faults : (cloud : ℕ) → cloud < s.shape.n → (last cloud).faults ≤ (clouds link.shelf.now cloud).faults
  pub armings : (cloud : ℕ) → cloud < s.shape.n → (last cloud).armings ≡ (clouds link.shelf.now cloud).armings
  pub images : (cloud : ℕ) → cloud < s.shape.n → IsTrue (s.told cloud)
      → ImagesNow (clouds link.shelf.now cloud) (header_in s cloud) (MaySettleAs (last cloud))

-- Want of memory cut the line: a part of it was carried out, which leaves the clouds so.
pub record IsLineCut {V : Type 0} (clouds : V → ℕ → Cloud) (s : Setting) (event : Event) (old new : LocalLink V)
    (v : Vault)
    : Type 0 where
  pub moments : List Moment
  pub last : ℕ → Peer
  pub part : IsPartOf s v (record { event = event; moments = moments }) last
  pub left : IsLeftByCut clouds s new last
  pub images : Images clouds s old new moments last

-- Of each setting and vault at which link and jobs are: the line was carried out.
abbrev pub CarriesOut : {V : Type 0} → (V → ℕ → Cloud) → Event → LocalLink V → List (List LaneView)
    → LocalLink V → List (List LaneView) → List ℕ → List ℕ → Type 0
CarriesOut clouds event old old_jobs new new_jobs before text =
    (s : Setting) (v : Vault) → IsAtVault clouds s old old_jobs v
    → DoesLine clouds s event old new new_jobs v before text

-- Of each of those: want of memory cut it.
abbrev pub IsCutOff : {V : Type 0} → (V → ℕ → Cloud) → Event → LocalLink V → List (List LaneView) → LocalLink V → Type 0
IsCutOff clouds event old old_jobs new =
    (s : Setting) (v : Vault) → IsAtVault clouds s old old_jobs v → IsLineCut clouds s event old new v
