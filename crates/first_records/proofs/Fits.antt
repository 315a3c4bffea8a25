-- What a record leaves fits records, by what its bytes say; and nothing is spent by it.
use Rattle.std.proofs.Common.{◌≡◌, ℕ, Bool, List, [], ◌∷◌, refl}
use Rattle.std.specs.Prelude.{Result, IfOk}
use Rattle.record_checks.specs.FileIndex.Files.{key_of}
use Rattle.record_checks.specs.RecordBody.body.KeptItem.{KeptItem}
use Rattle.record_checks.specs.RecordBody.Spelling.{Body, FitsBody}
use Rattle.record_checks.specs.UserDedup.Requests.{fps_of}
use Rattle.record_checks.specs.CloudMemory.Fitting.{FitsRecords}
use Rattle.record_checks.specs.CloudMemory.Memory.{Memory}
use Rattle.record_checks.specs.CloudMemory.Steps.{with_kept, with_kepts}
use Rattle.record_checks.proofs.CloudMemoryLaws.Fitting.{filled_fits, kepts_fit, entry_fits, delete_fits}
use Rattle.record_checks.proofs.CloudMemoryLaws.Puts.{spent_stays}
use Rattle.record_checks.proofs.FittingItems.{parts_fit, right_placed}
use Rattle.record_checks.specs.declared.ground.Ground.{Ground}
use Rattle.first_records.specs.declared.errors.Fault.{Fault}
use Rattle.first_records.specs.Judging.{Leaves, PutLeaves, CommitLeaves, DeleteLeaves, KeptLeaves, JudgesSaid, Crowded, Fails, Overfull, Fits}

kepts_unspent : (m : Memory) (items : List KeptItem) → (with_kepts m items).spent ≡ m.spent
kepts_unspent m [] = refl
kepts_unspent m (item ∷ items) = kepts_unspent (with_kept m item) items

module _ (g : Ground) (inside : Bool) (read : List ℕ) (old : Memory) where
  leaves_fit : (b : Body) (m : Memory) → Leaves g inside read old b m → FitsBody b → FitsRecords old → FitsRecords m
  leaves_fit b m (PutLeaves user items right) fits fit = filled_fits user items old (parts_fit items fits.1.1) (right_placed g inside user items old right) fit
  leaves_fit b m (CommitLeaves c lies new whole) fits fit = entry_fits (fps_of g.shape read) c old fits.some lies.0 whole.1 fit
  leaves_fit b m (DeleteLeaves d e there named) fits fit = delete_fits (fps_of g.shape read) d.user (key_of d.user.0 d.tag.0 d.version.0) old fit
  leaves_fit b m (KeptLeaves items right) fits fit = kepts_fit items old fits.1 fit

  pub said_fits : (b : Body) (r : Result Memory Fault) → JudgesSaid g inside read old b r → FitsBody b → FitsRecords old → IfOk r FitsRecords
  said_fits b r (Crowded room some) fits fit = tt
  said_fits b r (Fails place none faulty) fits fit = tt
  said_fits b r (Overfull m room none leaves over) fits fit = tt
  said_fits b r (Fits m none leaves over) fits fit = leaves_fit b m leaves fits fit

  leaves_unspent : (b : Body) (m : Memory) → Leaves g inside read old b m → m.spent ≡ old.spent
  leaves_unspent b m (PutLeaves user items right) = spent_stays user old items
  leaves_unspent b m (CommitLeaves c lies new whole) = refl
  leaves_unspent b m (DeleteLeaves d e there named) = refl
  leaves_unspent b m (KeptLeaves items right) = kepts_unspent old items

  pub said_unspent : (b : Body) (r : Result Memory Fault) → JudgesSaid g inside read old b r → IfOk r (λ (m : Memory). m.spent ≡ old.spent)
  said_unspent b r (Crowded room some) = tt
  said_unspent b r (Fails place none faulty) = tt
  said_unspent b r (Overfull m room none leaves over) = tt
  said_unspent b r (Fits m none leaves over) = leaves_unspent b m leaves
