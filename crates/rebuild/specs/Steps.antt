-- What the steps of a rebuild leave.
use Rattle.std.specs.Prelude.{◌≡◌, ◌⊎◌, ℕ, ◌≤◌, List, [], ◌∷◌, length, Option, Some, None, Result, Ok, Err}
use Rattle.std.specs.List.{Contains, flat_map}
use Rattle.lane_steps.specs.CdEdges.Causes.{Rose}
use Rattle.lane_steps.specs.CdBase.Limits.{IsPath}
use Rattle.lane_steps.specs.CdBase.ids.CloudNo.{CloudNo}
use Rattle.lane_steps.specs.CdBase.ids.Tag.{Tag}
use Rattle.lane_steps.specs.CdBase.ids.UserId.{UserId}
use Rattle.lane_steps.specs.CdBase.ids.Version.{Version}
use Rattle.lane_steps.specs.CdBase.shape.Shape.{Shape}
use Rattle.lane_steps.specs.CaontRs.Opening.{opened}
use Rattle.lane_steps.specs.CaontRs.opening.RecoverErr.{RecoverErr}
use Rattle.lane_steps.specs.CaontRs.opening.RecoverErr.TheVariants as opening
use Rattle.lane_steps.specs.Messages.reply.Reply.{Reply}
use Rattle.lane_steps.specs.Messages.reply.Reply.TheVariants as replies
use Rattle.lane_steps.specs.Recipe.recipe.Recipe.{Recipe}
use Rattle.lane_steps.specs.Recipe.Spelling.{file_limit}
use Rattle.lane_steps.specs.UserDedup.Cloud.{user_view}
use Rattle.lane_steps.specs.UserDedup.Pages.{page_of}
use Rattle.lane_steps.specs.UserDedup.Exec.{Peer}
use Rattle.lane_steps.specs.UserDedup.Link.{LinkTelling}
use Rattle.lane_steps.specs.UploadJob.Upload.{FileVersion}
use Rattle.kept_files.specs.RestoreJob.Asking.{Reads, AreRead}
use Rattle.kept_files.specs.RestoreJob.Restored
use Rattle.kept_files.specs.RestoreJob.Restored.{Unrestored, agreed, differing, missing}
use Rattle.kept_files.specs.RestoreJob.Steps.{Ready, ReadyWhere, givens}
use Rattle.kept_files.specs.RestoreJob.error.RestoreErr.{RestoreErr}
use Rattle.kept_files.specs.RestoreJob.error.RestoreErr.TheVariants as refusals
use Rattle.rebuild.specs.declared.error.SkipWhy.{SkipWhy}
use Rattle.rebuild.specs.declared.error.SkipWhy.TheVariants as whys
use Rattle.rebuild.specs.declared.naming.NameErr.{NameErr}
use Rattle.rebuild.specs.declared.naming.NameErr.TheVariants as name_errors
use Rattle.rebuild.specs.declared.versions.FoundVersion.{FoundVersion as FoundThere}
use Rattle.rebuild.specs.declared.versions.FoundVersion.TheVariants as founds
use Rattle.rebuild.specs.Found.{cloud_no, skip_of, name_judged, version_named, version_under}
use Rattle.rebuild.specs.Rebuilding.{up_to}
use Rattle.rebuild.specs.Over.{ReadCaused}

-- ---- what a cloud that is read says

-- an error has its cause, told or not
abbrev pub ReadCauses : {L A : Type 0} → LinkTelling L → L → Result A RestoreErr → (ℕ → Peer) → (ℕ → Peer) → Type 0
ReadCauses t link (Ok x) before after = Unit {0}
ReadCauses t link (Err e) before after = ReadCaused t link e before after

-- told clouds stop a rebuild only where a device failed, whose count rose, or an ask was lost, or memory ran out
abbrev pub ReadEnds : List ℕ → RestoreErr → (ℕ → Peer) → (ℕ → Peer) → Type 0
ReadEnds clouds (refusals.CloudFault c) before after = Contains clouds c.0 × Rose (before c.0).faults (after c.0).faults
ReadEnds clouds (refusals.Lost c) before after = Contains clouds c.0
ReadEnds clouds refusals.NoMemory before after = Unit {0}
ReadEnds clouds e before after = ⊥

-- ---- a page

-- a reply that is no page is this refusal
abbrev pub RefusesPage : CloudNo → Reply → RestoreErr → Type 0
RefusesPage cloud replies.Fault e = e ≡ refusals.CloudFault cloud
RefusesPage cloud (replies.Damaged at byte) e = e ≡ refusals.CloudDamaged cloud at byte
RefusesPage cloud (replies.Rotten named found) e = e ≡ refusals.CloudRotten cloud named found
RefusesPage cloud replies.NoMemory e = e ≡ refusals.CloudNoMemory cloud
RefusesPage cloud reply e = (kind : ℕ) × (e ≡ refusals.Strange cloud kind)

-- the page in a reply, or the refusal that it is
abbrev pub PageIs : CloudNo → Result Reply ℕ → Result (List (Tag × Version)) RestoreErr → Type 0
PageIs cloud (Ok (replies.Entries entries)) result = result ≡ Ok entries
PageIs cloud (Ok reply) result = (e : RestoreErr) × (result ≡ Err e) × RefusesPage cloud reply e
PageIs cloud (Err at) result = (kind : ℕ) × (result ≡ Err (refusals.Strange cloud kind))

abbrev pub PageFrom : CloudNo → Result Reply ℕ → Result (List (Tag × Version)) RestoreErr → Type 0
PageFrom cloud read result = (result ≡ Err refusals.NoMemory) ⊎ PageIs cloud read result

-- a told cloud was asked for a page
abbrev pub PageTold : Shape → UserId → CloudNo → Option (Tag × Version) → Result (List (Tag × Version)) RestoreErr → (ℕ → Peer) → (ℕ → Peer) → Type 0
PageTold shape user cloud above (Ok page) before after =
    Reads (before cloud.0) (after cloud.0) × (page ≡ page_of (user_view shape (after cloud.0).list user).files above)
PageTold shape user cloud above (Err e) before after = ReadEnds (cloud.0 ∷ []) e before after

-- ---- the path

-- the shares of a name open to this, or this is wrong in it
abbrev pub NameOpens : Result (List ℕ) RecoverErr → Result (List ℕ) NameErr → Type 0
NameOpens due (Ok path) = due ≡ Ok path
NameOpens due (Err (name_errors.Wrong (whys.BadName named found))) = due ≡ Err (opening.BadSecret named found)
NameOpens due (Err (name_errors.Wrong (whys.BadNamePad at byte))) = due ≡ Err (opening.BadPad at byte)
NameOpens due (Err (name_errors.Wrong why)) = ⊥
NameOpens due (Err name_errors.NoMemory) = Unit {0}

-- a path is due, or why there is none; or memory ran out
abbrev pub NameIs : {A : Type 0} → Result A SkipWhy → Result A NameErr → Type 0
NameIs due (Ok path) = due ≡ Ok path
NameIs due (Err (name_errors.Wrong why)) = due ≡ Err why
NameIs due (Err name_errors.NoMemory) = Unit {0}

-- a path that the tests leave
abbrev pub tested : List ℕ → Result (Unit {0}) NameErr → Result (List ℕ) NameErr
tested path (Ok u) = Ok path
tested path (Err e) = Err e

-- what comparing recipes with the first one says
abbrev pub ComparesAs : Option Unrestored → Result (Unit {0}) NameErr → Type 0
ComparesAs differs (Ok u) = differs ≡ None
ComparesAs differs (Err (name_errors.Wrong why)) = (w : Unrestored) × (differs ≡ Some w) × (why ≡ skip_of w)
ComparesAs differs (Err name_errors.NoMemory) = Unit {0}

abbrev pub unless_differs : {A : Type 0} → Option Unrestored → Result A SkipWhy → Result A SkipWhy
unless_differs None due = due
unless_differs (Some why) due = Err (skip_of why)

-- the path by these recipes, one of each of these clouds: the first that differs, and then what the name shares give
abbrev pub judged_by : Shape → Tag × Version → List ℕ → List Recipe → Result (List ℕ) SkipWhy
judged_by shape key [] recipes = Ok []
judged_by shape key (c ∷ clouds) [] = Ok []
judged_by shape key (c ∷ clouds) (r ∷ recipes) =
    unless_differs (differing c r clouds recipes)
    (name_judged shape key (opened shape r.name_len (c ∷ clouds) (flat_map (λ recipe. recipe.name_share) (r ∷ recipes))))

-- ---- a version

-- what the code found, as a version or why none
abbrev pub found_of : UserId → Tag × Version → FoundThere → Result FileVersion SkipWhy
found_of user key (founds.Version path file) = Ok (record { user = user; path = path; number = key.1; file = file })
found_of user key (founds.Skipped why) = Err why

-- a restore's error as a reason to skip
abbrev pub skip_as : RestoreErr → Option SkipWhy
skip_as (refusals.Missing cloud) = Some (whys.Missing cloud)
skip_as (refusals.RecipesDiffer a b place) = Some (whys.RecipesDiffer a b place)
skip_as (refusals.ShareLength cloud secret found wanted) = Some (whys.ShareLength cloud secret found wanted)
skip_as (refusals.BadSecret secret named found) = Some (whys.BadSecret secret named found)
skip_as (refusals.BadPad secret at byte) = Some (whys.BadPad secret at byte)
skip_as (refusals.Lost cloud) = None
skip_as (refusals.CloudFault cloud) = None
skip_as (refusals.CloudDamaged cloud at byte) = None
skip_as (refusals.CloudRotten cloud named found) = None
skip_as (refusals.CloudNoMemory cloud) = None
skip_as (refusals.Strange cloud kind) = None
skip_as (refusals.BadShare cloud secret named found) = None
skip_as refusals.NoMemory = None

-- it is one, or else it is handed on
abbrev pub RefusedAs : RestoreErr → Result FoundThere RestoreErr → Type 0
RefusedAs e (Ok (founds.Version path file)) = ⊥
RefusedAs e (Ok (founds.Skipped why)) = skip_as e ≡ Some why
RefusedAs e (Err f) = (f ≡ e) × (skip_as e ≡ None)

-- why there is no path: a reason to skip, or want of memory
abbrev pub UnnamedAs : NameErr → Result FoundThere RestoreErr → Type 0
UnnamedAs e (Ok (founds.Version path file)) = ⊥
UnnamedAs e (Ok (founds.Skipped why)) = e ≡ name_errors.Wrong why
UnnamedAs e (Err f) = (e ≡ name_errors.NoMemory) × (f ≡ refusals.NoMemory)

-- what a job can be made of
abbrev pub VersionFits : FoundThere → Type 0
VersionFits (founds.Version path file) = IsPath path × (length file ≤ file_limit)
VersionFits (founds.Skipped why) = Unit {0}

-- a version is due, or why none; or a cloud that is read stopped it
abbrev pub VersionEnds : UserId → Tag × Version → List ℕ → Result FileVersion SkipWhy → Result FoundThere RestoreErr → (ℕ → Peer) → (ℕ → Peer) → Type 0
VersionEnds user key clouds due (Ok f) before after = due ≡ found_of user key f
VersionEnds user key clouds due (Err e) before after = ReadEnds clouds e before after

-- told clouds that stand settled, and whose recipes these are, were asked for the file, where this is due as the path
abbrev pub OpensTold : Shape → UserId → Tag × Version → List ℕ → List Recipe → Result (List ℕ) SkipWhy → Result FoundThere RestoreErr → (ℕ → Peer) → (ℕ → Peer) → Type 0
OpensTold shape user key clouds recipes judged result before after =
    Ready shape user key clouds recipes before
    → VersionEnds user key clouds (version_named user key judged (agreed shape (givens before clouds recipes))) result before after

abbrev pub OpensCaused : {L : Type 0} → LinkTelling L → L → Shape → UserId → Tag × Version → List ℕ → List Recipe → Result FoundThere RestoreErr → (ℕ → Peer) → (ℕ → Peer) → Type 0
OpensCaused t link shape user key clouds recipes result before after =
    ReadyWhere t link shape user key clouds recipes before → ReadCauses t link result before after

-- This is found under the key by the lists that the clouds have afterwards. All were read, or those up to one that is missing it.
abbrev pub IsVersionFound : Shape → UserId → List ℕ → Tag × Version → Result FileVersion SkipWhy → (ℕ → Peer) → (ℕ → Peer) → Type 0
IsVersionFound shape user from key found before after =
    ((c : ℕ) × (found ≡ Err (whys.Missing (cloud_no c))) × (missing shape (λ cloud. (after cloud).list) user key from ≡ Some (Restored.Missing c)) × AreRead (up_to c from) before after)
    ⊎ ((version_under shape (λ cloud. (after cloud).list) from user key ≡ found) × AreRead from before after)

-- told clouds were asked for the version
abbrev pub FindsTold : Shape → UserId → Tag × Version → List ℕ → Result FoundThere RestoreErr → (ℕ → Peer) → (ℕ → Peer) → Type 0
FindsTold shape user key from (Ok f) before after = IsVersionFound shape user from key
    (found_of user key f) before after
FindsTold shape user key from (Err e) before after = ReadEnds from e before after
