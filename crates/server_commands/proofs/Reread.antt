-- A store whose entry was read, and what is done behind the read.
use Rattle.std.proofs.Common.{◌≡◌, ℕ, List, Result, Ok, Err, refl, sym, ap, ◌∙◌, subst}
use Rattle.std.specs.Prelude.{OnOk}
use Rattle.server_reads.specs.CdBase.ids.Fp.{Fp}
use Rattle.server_reads.specs.CdEdges.area.Area.TheVariants.{Journal, Shares, Recipes}
use Rattle.server_reads.specs.CdEdges.Disk.{Areas, Cloud}
use Rattle.server_reads.specs.CdEdges.Shelf.{Stays}
use Rattle.cloud_store.specs.CloudAreas.Peers.{StandsForSome}
use Rattle.server_reads.specs.ContainerLog.Caches.{Kept}
use Rattle.server_reads.specs.ContainerLog.Kept.{KeepsBelow}
use Rattle.server_reads.specs.Messages.request.Request.{Request}
use Rattle.server_reads.specs.UserDedup.command.Command.{Command}
use Rattle.cloud_store.specs.declared.store.CloudStore.{CloudStore}
use Rattle.cloud_store.specs.Adding.{NoneStaged, IsOneOf, KeepsOrGrows}
use Rattle.cloud_store.specs.Store.{IsSettled, IsOpen, closed}
use Rattle.server_reads.specs.declared.blobs.BlobStop.{BlobStop}
use Rattle.server_reads.specs.declared.blobs.BlobStop.TheVariants as stops
use Rattle.server_reads.specs.Reading.{UnlessReadFailed}
use Rattle.server_commands.specs.Executing.{IsStoreReady, LeavesBoth}
use Rattle.server_commands.specs.Serving.{IsServedByList, IsServedOrNot}
use Rattle.server_commands.specs.Steps.{IsLeftSettled, DoesByList, HasOnlyReadRecipes}
use Rattle.server_commands.proofs.Calls.{failed_result, ok_result, since_read, stays_twice, grows_read}
use Rattle.server_commands.proofs.EntryLaws.{keeping, kept_ready}

pub ready_read : (old mid : CloudStore) (a b : Cloud) → HasOnlyReadRecipes old mid a b → IsStoreReady old → IsStoreReady mid
ready_read old mid a b o ready = subst IsStoreReady (sym o.same) (kept_ready old mid.disk.recipes.kept ready)

pub both_read : (old mid : CloudStore) (a b : Cloud) → HasOnlyReadRecipes old mid a b → Stays a b → LeavesBoth old mid a b
both_read old mid a b o stays = record { cloud = stays; memory = ap (λ (s : CloudStore). s.memory) o.same }

-- ---- a command is added behind the read

module _ (old : CloudStore) (kept : List Kept) (new : CloudStore) (a b c : Cloud) (stays : Stays a b) where
  leaves_read : {T E : Type 0} (r : Result T E) → IsLeftSettled (keeping old kept) new r → IsLeftSettled old new r
  leaves_read r l = record { ready = l.ready; settled = l.settled; none = l.none; shut = l.shut; header = l.header }

  both_then : LeavesBoth (keeping old kept) new b c → LeavesBoth old new a c
  both_then l = record { cloud = stays_twice a b c stays l.cloud; memory = l.memory }

  pub does_read : {T E : Type 0} (r : Result T E) (list : List Command) (request : Request) (content : List ℕ) → DoesByList (keeping old kept) new b c list request content r
      → DoesByList old new a c list request content r
  does_read r list request content d = record {
    any_moment = since_read a b c (StandsForSome old.header (IsServedOrNot old list request)) stays d.any_moment;
    served = by r d.served;
    stays = λ none. both_then (d.stays none);
  }
    where
      by : {T E : Type 0} (r : Result T E) → OnOk r (IsServedByList (keeping old kept) new c list request content) → OnOk r (IsServedByList old new c list request content)
      by (Err e) s = tt
      by (Ok v) s = record { reply = s.reply; next = s.next }

  pub behind_read : (body : List ℕ) → b.told ≡ a.told → KeepsOrGrows (keeping old kept) body b c → KeepsOrGrows old body a c
  behind_read body told grows =
      grows_read old (keeping old kept) body a b c refl
      (λ w image left. subst (λ (s : Areas). IsOneOf old w body (image Journal) × KeepsBelow old.disk.shares.end (s Shares) (image Shares) × KeepsBelow old.disk.recipes.end (s Recipes) (image Recipes)) stays.now left)
      stays told grows

-- ---- the read failed

pub leaves_failed : (old mid new : CloudStore) (a b : Cloud) → HasOnlyReadRecipes old mid a b → IsStoreReady old → new ≡ closed mid → IsSettled new → ¬ (IsOpen new) → IsLeftSettled old new failed_result
leaves_failed old mid new a b o ready is settled shut =
    let m = ready_read old mid a b o ready in
    record {
      ready = tt;
      settled = settled;
      none = subst NoneStaged (sym is) (record { shares = m.none.shares; recipes = m.none.recipes });
      shut = shut;
      header = ap (λ (s : CloudStore). s.header) is ∙ ap (λ (s : CloudStore). s.header) o.same;
    }

pub both_failed : (old mid new : CloudStore) (a b : Cloud) → HasOnlyReadRecipes old mid a b → new ≡ closed mid → Stays a b → LeavesBoth old new a b
both_failed old mid new a b o is stays = record { cloud = stays; memory = ap (λ (s : CloudStore). s.memory) is ∙ ap (λ (s : CloudStore). s.memory) o.same }

-- ---- something else was read

pub leaves_rotten : (old mid : CloudStore) (a b : Cloud) → HasOnlyReadRecipes old mid a b → IsStoreReady old → IsLeftSettled old mid ok_result
leaves_rotten old mid a b o ready =
    let m = ready_read old mid a b o ready in
    record { ready = m; settled = m.settled; none = m.none; shut = tt; header = ap (λ (s : CloudStore). s.header) o.same }

pub counts_at : (stop : BlobStop) (named found : Fp) (P : Type 0) → stop ≡ stops.Rotten named found → UnlessReadFailed {A = Unit {0}} (Err stop) P → P
counts_at stop named found P is counts = subst (λ (x : BlobStop). UnlessReadFailed {A = Unit {0}} (Err x) P) is counts
