-- What a command to be added needs of a store that serves a list.
use Rattle.std.proofs.Common.{ℕ, ◌≤◌, List, [], ◌∷◌, ◌++◌, sym, subst, arith}
use Rattle.checkpoints.specs.CdEdges.Disk.{Cloud}
use Rattle.checkpoints.specs.ContainerLog.Laying.{Placed}
use Rattle.checkpoints.specs.JournalStart.start.Header.{Header}
use Rattle.checkpoints.specs.JournalStart.Ranges.{AreRooms}
use Rattle.checkpoints.specs.RecordBody.Spelling.{Body, IsBody}
use Rattle.checkpoints.specs.UserDedup.command.Command.{Command}
use Rattle.checkpoints.specs.UserDedup.Dedup.{IsSound}
use Rattle.checkpoints.specs.CloudAreas.Chains.{IsRecord, BothHaveRoom}
use Rattle.checkpoints.specs.CloudAreas.Laid.{IsLaidBehind, HaveEnds}
use Rattle.checkpoints.specs.CloudAreas.Standing.{Chain, region_in}
use Rattle.checkpoints.proofs.CloudAreas.Room.{shares_few, recipes_few}
use Rattle.checkpoints.specs.CloudDisk.Disk.{Disk, Stages, shares_laid, IsPrepared, regions_end}
use Rattle.checkpoints.specs.CloudMemory.cloud.CloudMemory.{CloudMemory}
use Rattle.cloud_store.specs.Store.{ServesBy}

module _ (header : Header) (list : List Command) (c : Chain) (commands region : ℕ) (memory : CloudMemory) (disk : Disk) (cloud : Cloud)
    (s : ServesBy header list c commands region memory disk cloud) where
  -- the ends of what the chain places
  have_ends : HaveEnds (region_in c) list c.records memory.shares_end memory.recipes_end
  have_ends = subst (λ (r : ℕ). HaveEnds r list c.records memory.shares_end memory.recipes_end) (sym s.known.region_is) (record {
    shares_behind = s.ends.shares;
    shares_bound = s.ends.shares_bound;
    recipes_behind = s.ends.recipes;
    recipes_bound = s.ends.recipes_bound;
  })

  module _ (room : (region : ℕ) (records : List Body) (list : List Command) (command : Command) (body : Body) (laid : List Placed) (shares recipes : ℕ)
      → IsRecord region records list command body laid → BothHaveRoom region list records → HaveEnds region list records shares recipes
      → IsLaidBehind shares recipes body → BothHaveRoom region (list ++ command ∷ []) (records ++ body ∷ []))
      (command : Command) (body : Body) (laid : List Placed) (is : IsRecord region c.records list command body laid)
      (behind : IsLaidBehind memory.shares_end memory.recipes_end body) where
    in_chain : IsRecord (region_in c) c.records list command body laid
    in_chain = subst (λ (r : ℕ). IsRecord r c.records list command body laid) (sym s.known.region_is) is

    pub rooms_more : BothHaveRoom (region_in c) (list ++ command ∷ []) (c.records ++ body ∷ [])
    rooms_more = room (region_in c) c.records list command body laid memory.shares_end memory.recipes_end in_chain s.known.on.read.holds.rooms have_ends behind

    pub prepared : (bytes : List ℕ) → IsSound header.shape header.cloud.0 (list ++ command ∷ []) → IsBody bytes body
        → Stages disk.shares (shares_laid list command body) → Stages disk.recipes laid → IsPrepared header list c command body laid disk bytes cloud
    prepared bytes sound is_body shares recipes = record {
      on = s.known.on;
      sound = sound;
      is_record = in_chain;
      is_body = is_body;
      shares = shares;
      recipes = recipes;
      rooms = rooms_more;
    }

  -- the ends lie in front of the end of the last region
  pub ends_near : AreRooms header.rooms → region ≤ 1 → (memory.shares_end ≤ regions_end) × (memory.recipes_end ≤ regions_end)
  ends_near are small =
      let shares = shares_few header.shape header.rooms list s.known.within in
      let recipes = recipes_few header.shape header.rooms list s.known.within in
      (omega (arith, s.ends.shares_bound, shares, are.shares, small), omega (arith, s.ends.recipes_bound, recipes, are.recipes, small))
