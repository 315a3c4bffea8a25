-- A cloud that is served in a place, and clients whose addresses are counted.
use Rattle.std.proofs.Common.{◌≡◌, ℕ, IsTrue, ◌⊎◌, List, Option, length, refl, subst, subst₂}
use Rattle.delete_command.specs.CdEdges.Causes.{Rose}
use Rattle.delete_command.specs.CdEdges.Disk.{Cloud}
use Rattle.delete_command.specs.CdEdges.Ports.{Telling}
use Rattle.delete_command.specs.CdEdges.Shelf.{IsCall}
use Rattle.command_words.specs.Asked.{AskedFile, AskedServe}
use Rattle.migrate_command.specs.ServeCommand.Complete.{IsServeUnhindered}
use Rattle.migrate_command.specs.ServeCommand.Served.{IsServed, ServeOutput}
use Rattle.restore_command.specs.Calls.{RestoreDialsOnly, OnlyReads}
use Rattle.restore_command.specs.Ends.{IsFetched}
use Rattle.cd_top.specs.Serve.{HasServedCloud, HasServedOrCause, NoPlace, InPlace, serving}
use Rattle.delete_command.specs.Deleted.{IsDeleted, OnlyDeletes}
use Rattle.delete_command.specs.Writing as deletions
use Rattle.delete_command.specs.PortsLink.Dialled.{OnlyDialled as OnlyThose}
use Rattle.cd_top.specs.Clients.{PortsAround, HasDeletedOrCause, HasRestoredOrCause}

-- the place couldn't be made or found
pub unplaced : (s : AskedServe) (out : ServeOutput) (old new : ℕ → Cloud) (total total_after : ℕ) (tells : Telling) (ports : ℕ)
    → out.written_after ≡ out.written_before → out.faults_after ≡ out.faults_before
    → ((cloud : ℕ) → new cloud ≡ old cloud) → Rose total total_after
    → HasServedOrCause 5 (serving s out old new total total_after tells tells ports ports)
unplaced s out old new total total_after tells ports silent still same rose = NoPlace refl (record {
  written = silent;
  sink = still;
  clouds = same;
  tells = refl;
  ports = refl;
}) rose

-- the naming of the place changed no cloud and no count
pub served_in : (status : ℕ) (s : AskedServe) (out : ServeOutput) (old middle new : ℕ → Cloud) (total count total_after : ℕ)
    (tells tells_after : Telling) (ports ports_after : ℕ)
    → ((cloud : ℕ) → middle cloud ≡ old cloud) → count ≡ total
    → IsServed status (serving s out middle new count total_after tells tells_after ports ports_after)
    → IsCall middle new s.cloud.0 count total_after
    → (IsServeUnhindered (serving s out middle new count total_after tells tells_after ports ports_after)
    → (status ≡ 0) ⊎ (status ≡ 6))
    → HasServedOrCause status (serving s out old new total total_after tells tells_after ports ports_after)
served_in status s out old middle new total count total_after tells tells_after ports ports_after same kept served
    alone complete =
    InPlace (subst₂ (λ (o : ℕ → Cloud) (n : ℕ).
    HasServedCloud status (serving s out o new n total_after tells tells_after ports ports_after))
    (λ i cloud. same cloud i) kept (record { served = served; alone = alone; complete = complete }))

-- the addresses are as many as the words that they were
pub restored_by : (status : ℕ) (f : AskedFile) (l : PortsAround) (many : ℕ) (before after : Option (List ℕ)) (faults now : ℕ)
    → many ≡ length f.addresses
    → IsFetched status (record {
      user = f.user;
      path = f.path;
      version = f.version;
      addresses = many;
      before = l.before;
      after = l.after;
      faults_before = l.faults_before;
      faults_after = l.faults_after;
    }) before after faults now
    → (IsTrue l.before.told → RestoreDialsOnly l.before l.after) → (IsTrue l.before.told → OnlyReads l.before l.after) → l.after.told ≡ l.before.told
    → HasRestoredOrCause status f l before after faults now
restored_by status f l many before after faults now same fetched others sends told = record {
  fetched = subst (λ (n : ℕ). IsFetched status (record {
    user = f.user;
    path = f.path;
    version = f.version;
    addresses = n;
    before = l.before;
    after = l.after;
    faults_before = l.faults_before;
    faults_after = l.faults_after;
  }) before after faults now) same fetched;
  others = others;
  sends = sends;
  told = told;
}

pub deleted_by : (status : ℕ) (f : AskedFile) (l : PortsAround) (many : ℕ) (out : deletions.DeleteOutput) → many ≡ length f.addresses
    → IsDeleted status (record {
      user = f.user;
      path = f.path;
      version = f.version;
      addresses = many;
      before = l.before;
      after = l.after;
      faults_before = l.faults_before;
      faults_after = l.faults_after;
    }) out
    → (IsTrue l.before.told → OnlyThose l.before l.after) → (IsTrue l.before.told → OnlyDeletes f.user f.path f.version l.before l.after)
    → l.after.told ≡ l.before.told
    → HasDeletedOrCause status f l out
deleted_by status f l many out same deleted others sends told = record {
  deleted = subst (λ (n : ℕ). IsDeleted status (record {
    user = f.user;
    path = f.path;
    version = f.version;
    addresses = n;
    before = l.before;
    after = l.after;
    faults_before = l.faults_before;
    faults_after = l.faults_after;
  }) out) same deleted;
  others = others;
  sends = sends;
  told = told;
}
