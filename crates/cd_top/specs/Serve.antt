-- What the words `serve DIR CLOUD N K ADDR COUNT` promise.
use Rattle.std.specs.Prelude.{◌≡◌, ◌⊎◌, ℕ}
use Rattle.delete_command.specs.CdEdges.Causes.{Rose}
use Rattle.delete_command.specs.CdEdges.Disk.{Cloud}
use Rattle.delete_command.specs.CdEdges.Ports.{Telling}
use Rattle.delete_command.specs.CdEdges.Shelf.{IsCall}
use Rattle.command_words.specs.Asked.{AskedServe}
use Rattle.migrate_command.specs.ServeCommand.Complete.{IsServeUnhindered}
use Rattle.migrate_command.specs.ServeCommand.Served.{ServeCall, IsServed, ServeOutput}

-- what is asked for, amid what the outside tells: the sink, the clouds and their count of faults in all, and the ports
-- with theirs
abbrev pub serving : AskedServe → ServeOutput → (ℕ → Cloud) → (ℕ → Cloud) → ℕ → ℕ → Telling → Telling → ℕ → ℕ
    → ServeCall
serving s out old new total total_after tells tells_after ports ports_after = record {
  shape = s.shape;
  cloud = s.cloud;
  address = s.address;
  count = s.count;
  out = out;
  old = old;
  new = new;
  total_before = total;
  total_after = total_after;
  tells_before = tells;
  tells_after = tells_after;
  ports_before = ports;
  ports_after = ports_after;
}

-- Nothing was written, no cloud changed, and no port was touched.
pub record IsServeUnbegun (call : ServeCall) : Type 0 where
  pub written : call.out.written_after ≡ call.out.written_before
  pub sink : call.out.faults_after ≡ call.out.faults_before
  pub clouds : (cloud : ℕ) → call.new cloud ≡ call.old cloud
  pub tells : call.tells_after ≡ call.tells_before
  pub ports : call.ports_after ≡ call.ports_before

-- The cloud was served: its connections, its list, what was written, and the cause of the status. No other cloud was
-- touched. Where nothing fails, all connections were served, or memory ran out.
pub record HasServedCloud (status : ℕ) (call : ServeCall) : Type 0 where
  pub served : IsServed status call
  pub alone : IsCall call.old call.new call.cloud.0 call.total_before call.total_after
  pub complete : IsServeUnhindered call → (status ≡ 0) ⊎ (status ≡ 6)

-- The whole promise: DIR failed, or the cloud was served.
pub data HasServedOrCause (status : ℕ) (call : ServeCall) : Type 0 where
  NoPlace : status ≡ 5 → IsServeUnbegun call → Rose call.total_before call.total_after → HasServedOrCause status call
  InPlace : HasServedCloud status call → HasServedOrCause status call
