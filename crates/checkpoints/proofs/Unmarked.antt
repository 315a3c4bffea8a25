-- Marks that are taken away.
use Rattle.std.proofs.Common.{◌≡◌, ℕ, zero, suc, Bool, false, List, length, get_or, replicate, refl, sym, ap, ◌∙◌, subst, arith}
use Rattle.std.proofs.Common.{◌≤◌}
use Rattle.cloud_memory.specs.FileIndex.Files.{Files}
use Rattle.cloud_memory.specs.PoolMap.Slots.{IsListed}
use Rattle.cloud_memory.specs.ShareIndex.Shares.{Shares}
use Rattle.cloud_memory.specs.SpentTable.Spent.{Spent as Row}
use Rattle.checkpoints.specs.Marked.{slots_limit, AreAllUnmarked}
use Rattle.checkpoints.specs.Chained.{HasChains}
use Rattle.checkpoints.specs.declared.chains.OwnerChains.{OwnerChains}
use Rattle.checkpoints.specs.Records.{first_of}
use Rattle.cloud_memory.specs.Fitting.{AreSharePlaces, AreRecipes}
use Rattle.checkpoints.specs.Ready.{IsReadyToWrite}
use Rattle.checkpoints.specs.declared.position.Position.{Position}

none_in : (n slot : ℕ) → get_or (replicate n false) slot false ≡ false
none_in zero slot = refl
none_in (suc n) zero = refl
none_in (suc n) (suc slot) = none_in n slot

long_of : (n : ℕ) → length (replicate n false) ≡ n
long_of zero = refl
long_of (suc n) = ap suc (long_of n)

pub unmarked : (marks : List Bool) (n : ℕ) → marks ≡ replicate n false → n ≡ slots_limit → AreAllUnmarked marks
unmarked marks n is limit = record {
  long = ap length is ∙ long_of n ∙ limit;
  none = λ slot. ap (λ (m : List Bool). get_or m slot false) is ∙ none_in n slot;
}

-- Before the first record nothing is listed.
pub ready_first : (shares : Shares) (files : Files) (rows : List Row) (chains : OwnerChains) (marks : List Bool) (p : Position) → HasChains shares.owner_slots chains → AreSharePlaces shares.places → AreRecipes files.files → length rows ≤ 256
    → length shares.place_slots ≤ 524288 → AreAllUnmarked marks → IsListed shares.places shares.place_slots → IsListed files.files files.slots → p ≡ first_of (length rows) → IsReadyToWrite shares files rows chains marks p
ready_first shares files rows chains marks p chained fit recipes few slots unmarked stand entries is =
    subst (IsReadyToWrite shares files rows chains marks) (sym is) (record {
      chained = chained;
      puts = record {
        fit = fit;
        stand = stand;
        listing = record { long = omega (arith, slots, unmarked.long); marked = λ s fp place at. unmarked.none s };
        few = omega (arith, few);
      };
      recipes = recipes;
      entries = entries;
      few = few;
    })
