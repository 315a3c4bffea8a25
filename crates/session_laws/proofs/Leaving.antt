-- The disks of clouds that keep a version give it.
use Rattle.std.proofs.Common.{◌≡◌, ℕ, List, [], subst, inl, inr, ◌⊎◌}
use Rattle.std.specs.List.{Contains}
use Rattle.session_model.specs.CdEdges.area.Area.TheVariants.{Journal}
use Rattle.session_model.specs.CdEdges.Disk.{Cloud, Image, reads}
use Rattle.session_model.specs.JournalStart.start.Header.{Header}
use Rattle.read_command.specs.JournalHalves.Beginnings.{IsUnbegun}
use Rattle.read_command.specs.CloudAreas.Standing.{StandsFor, where_of}
use Rattle.lane_steps.specs.UserDedup.command.Command.{Command}
use Rattle.lane_steps.specs.UploadJob.Upload.{FileVersion}
use Rattle.read_command.specs.KeptFiles.Kept.{Keeps, key_of}
use Rattle.read_command.proofs.KeptFiles.Giving.{kept_is_given}
use Rattle.read_command.proofs.CloudAreas.Numbers.{not_unbegun}
use Rattle.read_command.specs.LocalLink.Calls.{header_of}
use Rattle.read_command.specs.Disks.{IsReadable}
use Rattle.session_model.proofs.RebuildLaws.Cut.{is_in}
use Rattle.session_model.specs.Headline.{Session, Clashes, DisksStand, IsRun}
use Rattle.session_model.proofs.Acknowledged.{disks_keep, named_some, still_known}
use Rattle.session_model.proofs.Ranged.{IsRanged, chosen_below}
use Rattle.session_model.proofs.Roomy.{rooms_kept}
use Rattle.session_laws.specs.Left.{AreLeft, GiveFile}

-- ---- a list for each of some clouds

-- where each of these clouds has such a list, one function gives them
pub record Chosen (named : List ℕ) (P : ℕ → List Command → Type 0) : Type 0 where
  pub lists : ℕ → List Command
  pub holds : (cloud : ℕ) → Contains named cloud → P cloud (lists cloud)

module _ (named : List ℕ) (P : ℕ → List Command → Type 0) (each : (cloud : ℕ) → Contains named cloud → (list : List Command) × P cloud list) where
  abbrev pick : (cloud : ℕ) → Contains named cloud ⊎ (Contains named cloud → ⊥) → List Command
  pick cloud (inl has) = (each cloud has).0
  pick cloud (inr none) = []

  picked : (cloud : ℕ) (o : Contains named cloud ⊎ (Contains named cloud → ⊥)) → Contains named cloud → P cloud (pick cloud o)
  picked cloud (inl here) has = (each cloud here).1
  picked cloud (inr none) has = absurd (none has)

  chosen : Chosen named P
  chosen = record { lists = λ cloud. pick cloud (is_in named cloud); holds = λ cloud has. picked cloud (is_in named cloud) has }

-- ---- one disk

-- a list that keeps a version isn't empty, so its store is begun
begun : (image : Image) (header : Header) (list : List Command) (cloud : ℕ) (v : FileVersion) → StandsFor image header list → Keeps header.shape cloud list v.user v.path v.number v.file → ¬ IsUnbegun (image Journal)
unfolding StandsFor
begun image header list cloud v stands keeps none = elim stands.1 [
  | inl has ↦ not_unbegun (image Journal) (where_of has.chain_of) has.is_chain.there none
  | inr empty ↦ by_list list empty.1 keeps
]
  where
    by_list : (l : List Command) → l ≡ [] → Keeps header.shape cloud l v.user v.path v.number v.file → ⊥
    by_list l e k = let f = (subst (λ (x : List Command). Keeps header.shape cloud x v.user v.path v.number v.file) e k).entry in cc

-- ---- all

module _ (clouds new disks : ℕ → Cloud) (run : Session) (named : List ℕ) (v : FileVersion) (is : IsRun clouds run) (stand : DisksStand run clouds new) (apart : ¬ Clashes run) (left : AreLeft run new disks named v) where
  abbrev Found : ℕ → List Command → Type 0
  Found cloud list = IsReadable (header_of run.setting.shape run.setting.rooms cloud) (disks cloud) list × Keeps run.setting.shape cloud list v.user v.path v.number v.file

  found : (cloud : ℕ) → Contains named cloud → (list : List Command) × Found cloud list
  found cloud has =
      let below = chosen_below run.setting.shape named left.choice cloud has in
      let still = left.kept cloud has in
      let known = still_known clouds run is apart cloud v still in
      let image = left.images cloud has in
      let at = (stand cloud below known.0).now (reads (disks cloud).now) image in
      let keeps = disks_keep clouds new run is cloud v (reads (disks cloud).now) at.0 below still apart image at.1 at.2 in (
        at.0,
        (
          record {
            told = left.told cloud has;
            begun = begun (reads (disks cloud).now) (header_of run.setting.shape run.setting.rooms cloud) at.0 cloud v at.2 keeps;
            stands = at.2;
            within = rooms_kept clouds run cloud at.0 is known.0 at.1;
          },
          keeps,
        ),
      )

  pub gives : GiveFile run disks named v
  gives =
      let all = chosen named Found found in
      let one = named_some run.setting.shape named left.choice in
      let ranged : IsRanged v = (still_known clouds run is apart one.0 v (left.kept one.0 one.1)).1 in
      record {
        lists = all.lists;
        readable = λ cloud has. (all.holds cloud has).0;
        file = kept_is_given run.setting.shape all.lists v.user v.path v.number v.file named ranged.path ranged.bytes ranged.few left.choice (λ cloud has. (all.holds cloud has).1);
      }
