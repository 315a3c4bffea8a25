-- Copies of a store whose logs end where the memory says between two steps.
use Rattle.std.proofs.Common.{◌≡◌, Bool, true, false, List, [], Result, Ok, Err, refl, sym, ap, ◌∙◌, subst, append-nil}
use Rattle.std.specs.Prelude.{OnOk}
use Rattle.std.proofs.lemmas.List.Elements.{All-nil}
use Rattle.server_requests.specs.CdEdges.area.Area.TheVariants.{Shares, Recipes}
use Rattle.server_requests.specs.CdEdges.Disk.{Cloud, Image}
use Rattle.server_requests.specs.ContainerLog.Caches.{Kept, container_of}
use Rattle.server_requests.specs.ContainerLog.Laying.{IsAt}
use Rattle.server_requests.specs.CommitJournal.States.{JournalState}
use Rattle.server_requests.specs.UserDedup.command.Command.{Command}
use Rattle.blob_copy.specs.CloudAreas.Standing.{Chain}
use Rattle.blob_copy.specs.CloudDisk.Disk.{IsRead}
use Rattle.blob_copy.specs.declared.copying.Copying.{Copying}
use Rattle.blob_copy.specs.declared.copying.CopyErr.{CopyErr}
use Rattle.blob_copy.specs.declared.copying.CopyErr.TheVariants as copy
use Rattle.blob_copy.specs.Answers.{MatchStep, IfCopyRotten, MatchFault, NeverWrong}
use Rattle.blob_copy.specs.Copies.{IsRight, HasCopied}
use Rattle.blob_copy.specs.Copying.{IsCopyLaid, IsCopying, shares_so_far, entries_so_far}
use Rattle.server_requests.specs.CloudStore.store.CloudStore.{CloudStore}
use Rattle.server_requests.specs.CloudStore.Store.{ServesSome}
use Rattle.share_server.specs.declared.copies.Copies.{Copies}
use Rattle.share_server.specs.declared.copies.ReclaimErr.{ReclaimErr}
use Rattle.share_server.specs.Serving.{ServesAs, settled_with}
use Rattle.share_server.proofs.Peers.{open_serves}
use Rattle.share_server.specs.Copies.{reclaim_error, OnReclaimFault, IfRottenThere, IsDoneOrFault, at_copies, KeepsAllBut, MatchCopied}

-- the copies, with their ends where both logs end
abbrev pub ended : CloudStore → Copying → Copies
ended store copying = record { copying = copying; shares_end = store.disk.shares.end; recipes_end = store.disk.recipes.end }

-- the same store but for its disk
abbrev pub moved_to : CloudStore → CloudStore → CloudStore
moved_to old new = record old { disk = new.disk }

module _ (list : List Command) (c : Chain) (old new : CloudStore) (copying : Copying) (cloud : Cloud) (is : IsCopying list c old copying cloud)
    (shares : new.disk.shares.area ≡ Shares) (recipes : new.disk.recipes.area ≡ Recipes) where
  laid_again : IsCopyLaid (at_copies (moved_to old new) (ended old copying)) copying
  laid_again = record {
    shares_end = is.laid.shares_end;
    recipes_end = is.laid.recipes_end;
    shares_none = record { fit = is.laid.shares_none.fit; bytes = refl };
    recipes_none = record { fit = is.laid.recipes_none.fit; bytes = refl };
  }

  copies_again : new.disk.journal ≡ old.disk.journal → IsCopying list c (at_copies (moved_to old new) (ended old copying)) copying cloud
  copies_again journal = record {
    knows = record {
      read = subst (λ (j : JournalState). IsRead old.header list c j cloud) (sym journal) is.knows.read;
      remembers = is.knows.remembers;
      placed = is.knows.placed;
      stand = is.knows.stand;
      within = is.knows.within;
      ends = is.knows.ends;
      number = is.knows.number;
      region_is = is.knows.region_is;
    };
    laid = laid_again;
    shares_area = shares;
    recipes_area = recipes;
    shares_agree = All-nil (λ (k : Kept). k.1 ≡ container_of (cloud.now Shares).read k.0);
    recipes_agree = All-nil (λ (k : Kept). k.1 ≡ container_of (cloud.now Recipes).read k.0);
    shares_lie = is.shares_lie;
    recipes_lie = is.recipes_lie;
  }

  pub still_copied : new.disk.journal ≡ old.disk.journal → KeepsAllBut old new → (copies : Copies) → copies ≡ ended old copying
      → IsCopying list c (at_copies new copies) copies.copying cloud
  still_copied journal same copies is_ended =
      subst (λ (k : Copies). IsCopying list c (at_copies new k) k.copying cloud) (sym is_ended)
      (subst (λ (s : CloudStore). IsCopying list c (at_copies s (ended old copying)) copying cloud) (sym same) (copies_again journal))

-- what a step answers, where nothing is left
pub stepped : (more : Bool) (M D R L N E : Type 0) → MatchStep (Ok more) M D R L → (D → N) → MatchCopied (Ok more) M N E
stepped true M D R L N E copied done = copied
stepped false M D R L N E left done = done left

-- what is read right up to the last one, and where nothing is left
pub read_right : (more : Bool) (H N D R L : Type 0) → MatchStep (Ok more) H (Unit {0}) (Unit {0}) (Unit {0}) → MatchStep (Ok more) N D R L → (D → H) → H
read_right true H N D R L copied step done = copied
read_right false H N D R L nothing left done = done left

-- no slot was gone over
pub nothing_copied : (store : CloudStore) (from to : Copying) (old new : Image) → to ≡ from → HasCopied store from to old new
nothing_copied store from to old new same = record {
  shares = [];
  entries = [];
  shares_more = ap (shares_so_far store) same ∙ sym (append-nil (shares_so_far store from));
  entries_more = ap (entries_so_far store) same ∙ sym (append-nil (entries_so_far store from));
  shares_right = All-nil (IsRight (old Shares));
  entries_right = All-nil (IsRight (old Recipes));
  shares_lie = All-nil (IsAt (new Shares));
  entries_lie = All-nil (IsAt (new Recipes));
}

-- a store that serves a list stands as the peer with it
pub served_after : (r : Result (Unit {0}) ReclaimErr) (new : CloudStore) (after : Cloud) (list : List Command) → OnOk r (ServesSome list new after)
    → OnOk r (ServesAs new after (settled_with list after))
served_after (Ok v) new after list some = open_serves new after list some
served_after (Err e) new after list some = tt

-- ---- an error of a copy, as the server says it

pub wrong_never : (T : Type 0) (e : CopyErr) → NeverWrong {T = T} (Err e) → IsDoneOrFault {T = T} (Err (reclaim_error e))
wrong_never T copy.Fault is = tt
wrong_never T (copy.Rotten named found) is = is
wrong_never T copy.Long is = is

pub rotten_never : (T : Type 0) (e : CopyErr) → IfCopyRotten {T = T} (Err e) (λ named found. ⊥) → IfRottenThere {T = T} (Err (reclaim_error e)) (λ named found. ⊥)
rotten_never T copy.Fault is = tt
rotten_never T (copy.Rotten named found) is = is
rotten_never T copy.Long is = tt

pub fault_as : (T : Type 0) (e : CopyErr) (F K : Type 0) → MatchFault {T = T} (Err e) F K → OnReclaimFault {T = T} (Err (reclaim_error e)) F K
fault_as T copy.Fault F K is = is
fault_as T (copy.Rotten named found) F K is = is
fault_as T copy.Long F K is = is
