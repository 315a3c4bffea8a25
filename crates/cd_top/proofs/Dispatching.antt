-- From what one command promises to what the words promise.
use Rattle.std.proofs.Common.{◌≡◌, ℕ, List, sym, subst}
use Rattle.command_words.specs.Asked.{AskedRead, AskedServe, AskedFile, AskedSpool, AskedResume, AskedCloud, AskedMigrate, AskedSession, Asked}
use Rattle.command_words.specs.Asked.{ForReplay, ForRead, ForServe, ForBackup, ForRestore, ForDelete, ForSpool, ForResume}
use Rattle.command_words.specs.Asked.{ForAudit, ForCheck, ForReclaim, ForMigrate, ForGenerate}
use Rattle.command_words.specs.Commands.{IsCommand}
use Rattle.cd_top.specs.Dispatch.{EachCommand, Promises}
use Rattle.cd_top.specs.Replay.{IsReplay}

abbrev pub Law : Type 0
Law = (words : List (List ℕ)) (a b : Asked) → IsCommand words a → IsCommand words b → a ≡ b

module _ (one : Law) (words : List (List ℕ)) (asked : Asked) (is : IsCommand words asked)
    (each : EachCommand) (promises : Promises asked each) where
  promised : (other : Asked) → IsCommand words other → Promises other each
  promised other has = subst (λ a. Promises a each) (one words asked other is has) promises

  pub is_replayed : IsReplay words → each.replayed
  is_replayed replay = promised (ForReplay replay.0) replay.1

  pub is_read : (r : AskedRead) → IsCommand words (ForRead r) → each.read r
  is_read r other = promised (ForRead r) other

  pub is_served : (s : AskedServe) → IsCommand words (ForServe s) → each.served s
  is_served s other = promised (ForServe s) other

  pub is_backed_up : (f : AskedFile) → IsCommand words (ForBackup f) → each.backed_up f
  is_backed_up f other = promised (ForBackup f) other

  pub is_restored : (f : AskedFile) → IsCommand words (ForRestore f) → each.restored f
  is_restored f other = promised (ForRestore f) other

  pub is_deleted : (f : AskedFile) → IsCommand words (ForDelete f) → each.deleted f
  is_deleted f other = promised (ForDelete f) other

  pub is_spooled : (s : AskedSpool) → IsCommand words (ForSpool s) → each.spooled s
  is_spooled s other = promised (ForSpool s) other

  pub is_resumed : (r : AskedResume) → IsCommand words (ForResume r) → each.resumed r
  is_resumed r other = promised (ForResume r) other

  pub is_audited : (c : AskedCloud) → IsCommand words (ForAudit c) → each.audited c
  is_audited c other = promised (ForAudit c) other

  pub is_checked : (c : AskedCloud) → IsCommand words (ForCheck c) → each.checked c
  is_checked c other = promised (ForCheck c) other

  pub is_reclaimed : (c : AskedCloud) → IsCommand words (ForReclaim c) → each.reclaimed c
  is_reclaimed c other = promised (ForReclaim c) other

  pub is_migrated : (m : AskedMigrate) → IsCommand words (ForMigrate m) → each.migrated m
  is_migrated m other = promised (ForMigrate m) other

  pub is_generated : (g : AskedSession) → IsCommand words (ForGenerate g) → each.generated g
  is_generated g other = promised (ForGenerate g) other

pub promised_as : (asked other : Asked) → asked ≡ other → (each : EachCommand) → Promises other each → Promises asked each
promised_as asked other is each promised = subst (λ a. Promises a each) (sym is) promised
