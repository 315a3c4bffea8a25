-- A reading that is tried one way, and then another.
use Rattle.std.proofs.Common.{◌≡◌, ℕ, List, Result, Ok, IsTrue, sym, subst}
use Rattle.cd_edges.specs.Disk.{Cloud, Areas, reads}
use Rattle.cloud_memory.specs.CdBase.ids.Fp.{Fp}
use Rattle.cloud_memory.specs.UserDedup.command.Command.{Command}
use Rattle.cloud_memory.specs.Memory.{Memory}
use Rattle.server_reads.specs.Steps.{KeepsRemembered, OnlyRead, HasTried}
use Rattle.server_reads.proofs.Along.{WhenHeld}

pub tried_only : {A E : Type 0} (a b : ℕ → Cloud) (number before now : ℕ) (x : A) → HasTried {A = A} {E = E} a b number before now (Ok x) → OnlyRead a b number before now
tried_only a b number before now x t = record { stays = t.stays; call = t.call; counts = t.counts }

-- ---- what is said of the cloud then is said of it before

-- the cloud keeps what is told of its areas
pub record Keeps (a b : Cloud) : Type 0 where
  pub told : b.told ≡ a.told
  pub now : b.now ≡ a.now

pub tried_keeps : {A E : Type 0} (a b : ℕ → Cloud) (number before now : ℕ) (result : Result A E) → HasTried a b number before now result → Keeps (a number) (b number)
tried_keeps a b number before now result t = record { told = t.call.told; now = t.stays.now }

pub held_before : (a b : Cloud) (m : Memory) (all : List Fp) (P : List Command → Type 0) → Keeps a b → WhenHeld b m all P → WhenHeld a m all P
held_before a b m all P keeps step told shape cloud list user k own =
    step (subst IsTrue (sym keeps.told) told) shape cloud list user (subst (λ (areas : Areas). KeepsRemembered (reads areas) shape cloud list m) (sym keeps.now) k) own
