use Rattle.std.proofs.Common.{ℕ, ◌+◌, ◌≤◌, List, length, sym, ap, ◌∙◌, subst, arith}
use Rattle.std.specs.Prelude.{All}
use Rattle.cloud_memory.specs.RecordBody.Spelling.{Body, FitsBody, body_bytes}
use Rattle.cloud_disk.specs.CdEdges.area.Area.TheVariants.{Journal}
use Rattle.cloud_disk.specs.CommitJournal.States as journals
use Rattle.checkpoints.specs.Laying.{records_len, longest_record, checkpoint_behind, KeepsOrSettles}
use Rattle.checkpoints.specs.Records.{coming, records_of}
use Rattle.checkpoints.specs.Known.{recipes_of}
use Rattle.checkpoints.proofs.Summed.{listed_of, short, roomy, is_summed, next_holds, placed_by, summed_as, on_as}
use Rattle.checkpoints.proofs.InPlace.{ended_still}
use Rattle.checkpoints.proofs.RoomLaw.{records_short}
use Rattle.checkpoints.proofs.whole.checkpoint_of_memory.Goals as goal

pub returns-in-None-clause-short : goal.returns-in-None-clause-short
returns-in-None-clause-short g c list chain k =
    let header = c.args.header.now in let memory = c.args.memory.now in let disk = c.args.disk.now in
    let c0 = g.V.Shelf.cloud_at c.args.shelf.now c.args.cloud.0 in
    let listed = listed_of memory c.shares.result.now c.shares-2.result.now c.files.result.now c.shares.ensures c.shares-2.ensures c.files.ensures c.place_at.ensures.each c.owner_at.ensures.each c.entry_at.ensures.each in
    let fit : All FitsBody (records_of memory) = subst (All FitsBody) c.of-records.ensures.records c.count_within.ensures.fit in
    let is = short header list chain c.args.commands c.args.region memory disk c0 k listed c.requires.format c.law_of_checkpoints.ensures.room fit in
    subst (λ (n : ℕ). 63 + records_len (records_of memory) ≤ n) (sym c.requires.limit) is

pub returns-in-None-clause-roomy : goal.returns-in-None-clause-roomy
returns-in-None-clause-roomy g c list chain body k fits =
    let header = c.args.header.now in let memory = c.args.memory.now in let disk = c.args.disk.now in
    let c0 = g.V.Shelf.cloud_at c.args.shelf.now c.args.cloud.0 in
    let listed = listed_of memory c.shares.result.now c.shares-2.result.now c.files.result.now c.shares.ensures c.shares-2.ensures c.files.ensures c.place_at.ensures.each c.owner_at.ensures.each c.entry_at.ensures.each in
    let fit : All FitsBody (records_of memory) = subst (All FitsBody) c.of-records.ensures.records c.count_within.ensures.fit in
    let is = roomy header list chain c.args.commands c.args.region memory disk c0 k listed c.requires.format c.law_of_checkpoints.ensures.room fit body fits in
    subst (λ (n : ℕ). 63 + records_len (records_of memory) + (length (body_bytes body) + 5) ≤ n) (sym c.requires.limit) is

pub returns-clause-roomy : goal.returns-clause-roomy
returns-clause-roomy g c list chain body k fits =
    let header = c.args.header.now in let memory = c.args.memory.now in let disk = c.args.disk.now in
    let c0 = g.V.Shelf.cloud_at c.args.shelf.now c.args.cloud.0 in
    let listed = listed_of memory c.shares.result.now c.shares-2.result.now c.files.result.now c.shares.ensures c.shares-2.ensures c.files.ensures c.place_at.ensures.each c.owner_at.ensures.each c.entry_at.ensures.each in
    let fit : All FitsBody (records_of memory) = subst (All FitsBody) c.of-records.ensures.records c.count_within.ensures.fit in
    let is = roomy header list chain c.args.commands c.args.region memory disk c0 k listed c.requires.format c.law_of_checkpoints.ensures.room fit body fits in
    subst (λ (n : ℕ). 63 + records_len (records_of memory) + (length (body_bytes body) + 5) ≤ n) (sym c.requires.limit) is

pub returns-in-Err-clause-roomy : goal.returns-in-Err-clause-roomy
returns-in-Err-clause-roomy g c list chain body k fits =
    let header = c.args.header.now in let memory = c.args.memory.now in let disk = c.args.disk.now in
    let c0 = g.V.Shelf.cloud_at c.args.shelf.now c.args.cloud.0 in
    let listed = listed_of memory c.shares.result.now c.shares-2.result.now c.files.result.now c.shares.ensures c.shares-2.ensures c.files.ensures c.place_at.ensures.each c.owner_at.ensures.each c.entry_at.ensures.each in
    let fit : All FitsBody (records_of memory) = subst (All FitsBody) c.of-records.ensures.records c.count_within.ensures.fit in
    let is = roomy header list chain c.args.commands c.args.region memory disk c0 k listed c.requires.format c.law_of_checkpoints.ensures.room fit body fits in
    subst (λ (n : ℕ). 63 + records_len (records_of memory) + (length (body_bytes body) + 5) ≤ n) (sym c.requires.limit) is

pub returns-in-None-clause-any_moment : goal.returns-in-None-clause-any_moment
returns-in-None-clause-any_moment g c list chain k =
    let header = c.args.header.now in let memory = c.args.memory.now in let disk = c.args.disk.now in
    let c0 = g.V.Shelf.cloud_at c.args.shelf.now c.args.cloud.0 in
    let listed = listed_of memory c.shares.result.now c.shares-2.result.now c.files.result.now c.shares.ensures c.shares-2.ensures c.files.ensures c.place_at.ensures.each c.owner_at.ensures.each c.entry_at.ensures.each in
    let fit : All FitsBody (records_of memory) = subst (All FitsBody) c.of-records.ensures.records c.count_within.ensures.fit in
    let is = short header list chain c.args.commands c.args.region memory disk c0 k listed c.requires.format c.law_of_checkpoints.ensures.room fit in
    let beyond = c.in-None.ensures.count in
    let same = ap records_len c.of-records.ensures.records in
    let limit = c.limit-limit.ensures ∙ ap (λ s. s.limit) c.journal.ensures ∙ c.requires.limit in
    absurd (omega (arith, is, beyond, same, limit))

pub returns-in-None-clause-only_journal : goal.returns-in-None-clause-only_journal
returns-in-None-clause-only_journal g c list chain k =
    let header = c.args.header.now in let memory = c.args.memory.now in let disk = c.args.disk.now in
    let c0 = g.V.Shelf.cloud_at c.args.shelf.now c.args.cloud.0 in
    let listed = listed_of memory c.shares.result.now c.shares-2.result.now c.files.result.now c.shares.ensures c.shares-2.ensures c.files.ensures c.place_at.ensures.each c.owner_at.ensures.each c.entry_at.ensures.each in
    let fit : All FitsBody (records_of memory) = subst (All FitsBody) c.of-records.ensures.records c.count_within.ensures.fit in
    let is = short header list chain c.args.commands c.args.region memory disk c0 k listed c.requires.format c.law_of_checkpoints.ensures.room fit in
    let beyond = c.in-None.ensures.count in
    let same = ap records_len c.of-records.ensures.records in
    let limit = c.limit-limit.ensures ∙ ap (λ s. s.limit) c.journal.ensures ∙ c.requires.limit in
    absurd (omega (arith, is, beyond, same, limit))

pub returns-clause-any_moment : goal.returns-clause-any_moment
returns-clause-any_moment g c list chain k =
    let header = c.args.header.now in let memory = c.args.memory.now in let disk = c.args.disk.now in
    let c0 = g.V.Shelf.cloud_at c.args.shelf.now c.args.cloud.0 in
    let listed = listed_of memory c.shares.result.now c.shares-2.result.now c.files.result.now c.shares.ensures c.shares-2.ensures c.files.ensures c.place_at.ensures.each c.owner_at.ensures.each c.entry_at.ensures.each in
    let fit : All FitsBody (records_of memory) = subst (All FitsBody) c.of-records.ensures.records c.count_within.ensures.fit in
    let summed = is_summed header list chain c.args.commands c.args.region memory disk c0 k listed c.requires.format c.law_of_checkpoints.ensures.room fit c.law_of_checkpoints.ensures.holds in
    let counted = c.in-Some.ensures.count.0 ∙ ap (λ (r : List Body). length r) c.of-records.ensures.records in
    let made = c.of-records-2.result in
    let bodies = coming made.shares.now made.files.now made.spent.now made.at in
    let recipes = recipes_of header.shape list memory in
    let known = summed_as header list chain c.args.commands c.args.region memory c.in-Some.count bodies counted c.of-records-2.ensures.records disk c0 summed in
    c.checkpoint-laid.ensures.any_moment list chain recipes known

pub returns-clause-only_journal : goal.returns-clause-only_journal
returns-clause-only_journal g c list chain k =
    let header = c.args.header.now in let memory = c.args.memory.now in let disk = c.args.disk.now in
    let c0 = g.V.Shelf.cloud_at c.args.shelf.now c.args.cloud.0 in
    let listed = listed_of memory c.shares.result.now c.shares-2.result.now c.files.result.now c.shares.ensures c.shares-2.ensures c.files.ensures c.place_at.ensures.each c.owner_at.ensures.each c.entry_at.ensures.each in
    let fit : All FitsBody (records_of memory) = subst (All FitsBody) c.of-records.ensures.records c.count_within.ensures.fit in
    let summed = is_summed header list chain c.args.commands c.args.region memory disk c0 k listed c.requires.format c.law_of_checkpoints.ensures.room fit c.law_of_checkpoints.ensures.holds in
    let counted = c.in-Some.ensures.count.0 ∙ ap (λ (r : List Body). length r) c.of-records.ensures.records in
    let made = c.of-records-2.result in
    let bodies = coming made.shares.now made.files.now made.spent.now made.at in
    let recipes = recipes_of header.shape list memory in
    let known = summed_as header list chain c.args.commands c.args.region memory c.in-Some.count bodies counted c.of-records-2.ensures.records disk c0 summed in
    c.checkpoint-laid.ensures.only_journal list chain recipes known

pub returns-clause-settled : goal.returns-clause-settled
returns-clause-settled g c list chain k =
    let header = c.args.header.now in let memory = c.args.memory.now in let disk = c.args.disk.now in
    let c0 = g.V.Shelf.cloud_at c.args.shelf.now c.args.cloud.0 in
    let listed = listed_of memory c.shares.result.now c.shares-2.result.now c.files.result.now c.shares.ensures c.shares-2.ensures c.files.ensures c.place_at.ensures.each c.owner_at.ensures.each c.entry_at.ensures.each in
    let fit : All FitsBody (records_of memory) = subst (All FitsBody) c.of-records.ensures.records c.count_within.ensures.fit in
    let summed = is_summed header list chain c.args.commands c.args.region memory disk c0 k listed c.requires.format c.law_of_checkpoints.ensures.room fit c.law_of_checkpoints.ensures.holds in
    let counted = c.in-Some.ensures.count.0 ∙ ap (λ (r : List Body). length r) c.of-records.ensures.records in
    let made = c.of-records-2.result in
    let bodies = coming made.shares.now made.files.now made.spent.now made.at in
    let recipes = recipes_of header.shape list memory in
    let known = summed_as header list chain c.args.commands c.args.region memory c.in-Some.count bodies counted c.of-records-2.ensures.records disk c0 summed in
    let law = c.law_of_checkpoints.ensures in
    let holds = next_holds header list chain c.args.commands c.args.region memory disk c0 k listed c.requires.format law.room fit law.holds in
    record {
      on =
          on_as header list chain c.args.commands c.args.region memory c.in-Some.count bodies counted c.of-records-2.ensures.records c.checkpoint-laid.new.disk
          (g.V.Shelf.cloud_at c.checkpoint-laid.new.shelf c.args.cloud.0) (c.in-Ok.ensures.settled list chain recipes known);
      placed =
          placed_by header list chain c.args.commands c.args.region memory disk c0 k listed c.requires.format law.room fit law.holds
          (λ fp. c.law_of_places.ensures.placed header _ list _ fp holds);
    }

pub returns-in-Err-clause-any_moment : goal.returns-in-Err-clause-any_moment
returns-in-Err-clause-any_moment g c list chain k =
    let header = c.args.header.now in let memory = c.args.memory.now in let disk = c.args.disk.now in
    let c0 = g.V.Shelf.cloud_at c.args.shelf.now c.args.cloud.0 in
    let listed = listed_of memory c.shares.result.now c.shares-2.result.now c.files.result.now c.shares.ensures c.shares-2.ensures c.files.ensures c.place_at.ensures.each c.owner_at.ensures.each c.entry_at.ensures.each in
    let fit : All FitsBody (records_of memory) = subst (All FitsBody) c.of-records.ensures.records c.count_within.ensures.fit in
    let summed = is_summed header list chain c.args.commands c.args.region memory disk c0 k listed c.requires.format c.law_of_checkpoints.ensures.room fit c.law_of_checkpoints.ensures.holds in
    let counted = c.in-Some.ensures.count.0 ∙ ap (λ (r : List Body). length r) c.of-records.ensures.records in
    let made = c.of-records-2.result in
    let bodies = coming made.shares.now made.files.now made.spent.now made.at in
    let recipes = recipes_of header.shape list memory in
    let known = summed_as header list chain c.args.commands c.args.region memory c.in-Some.count bodies counted c.of-records-2.ensures.records disk c0 summed in
    c.checkpoint-laid.ensures.any_moment list chain recipes known

pub returns-in-Err-clause-only_journal : goal.returns-in-Err-clause-only_journal
returns-in-Err-clause-only_journal g c list chain k =
    let header = c.args.header.now in let memory = c.args.memory.now in let disk = c.args.disk.now in
    let c0 = g.V.Shelf.cloud_at c.args.shelf.now c.args.cloud.0 in
    let listed = listed_of memory c.shares.result.now c.shares-2.result.now c.files.result.now c.shares.ensures c.shares-2.ensures c.files.ensures c.place_at.ensures.each c.owner_at.ensures.each c.entry_at.ensures.each in
    let fit : All FitsBody (records_of memory) = subst (All FitsBody) c.of-records.ensures.records c.count_within.ensures.fit in
    let summed = is_summed header list chain c.args.commands c.args.region memory disk c0 k listed c.requires.format c.law_of_checkpoints.ensures.room fit c.law_of_checkpoints.ensures.holds in
    let counted = c.in-Some.ensures.count.0 ∙ ap (λ (r : List Body). length r) c.of-records.ensures.records in
    let made = c.of-records-2.result in
    let bodies = coming made.shares.now made.files.now made.spent.now made.at in
    let recipes = recipes_of header.shape list memory in
    let known = summed_as header list chain c.args.commands c.args.region memory c.in-Some.count bodies counted c.of-records-2.ensures.records disk c0 summed in
    c.checkpoint-laid.ensures.only_journal list chain recipes known

pub returns-clause-chain : goal.returns-clause-chain
returns-clause-chain g c =
    let number = c.args.cloud.0 in let header = c.args.header.now in let memory = c.args.memory.now in
    let c0 = g.V.Shelf.cloud_at c.args.shelf.now number in let c1 = g.V.Shelf.cloud_at c.checkpoint-laid.new.shelf number in
    let counted = c.in-Some.ensures.count.0 ∙ ap (λ (r : List Body). length r) c.of-records.ensures.records in
    subst (λ (n : ℕ). KeepsOrSettles c.args.disk.now.journal header c.args.commands n c.args.region (records_of memory) c0 c1) counted
    (subst (λ (b : List Body). KeepsOrSettles c.args.disk.now.journal header c.args.commands c.in-Some.count c.args.region b c0 c1) c.of-records-2.ensures.records c.checkpoint-laid.ensures.chain)

pub returns-in-Err-clause-chain : goal.returns-in-Err-clause-chain
returns-in-Err-clause-chain g c =
    let number = c.args.cloud.0 in let header = c.args.header.now in let memory = c.args.memory.now in
    let c0 = g.V.Shelf.cloud_at c.args.shelf.now number in let c1 = g.V.Shelf.cloud_at c.checkpoint-laid.new.shelf number in
    let counted = c.in-Some.ensures.count.0 ∙ ap (λ (r : List Body). length r) c.of-records.ensures.records in
    subst (λ (n : ℕ). KeepsOrSettles c.args.disk.now.journal header c.args.commands n c.args.region (records_of memory) c0 c1) counted
    (subst (λ (b : List Body). KeepsOrSettles c.args.disk.now.journal header c.args.commands c.in-Some.count c.args.region b c0 c1) c.of-records-2.ensures.records c.checkpoint-laid.ensures.chain)

pub returns-in-None-clause-chain : goal.returns-in-None-clause-chain
returns-in-None-clause-chain g c told w ended =
    let c0 = g.V.Shelf.cloud_at c.args.shelf.now c.args.cloud.0 in
    ended_still c.args.disk.now.journal c0 w _ ended

pub returns-clause-taken : goal.returns-clause-taken
returns-clause-taken g c told w ended =
    let number = c.args.cloud.0 in let header = c.args.header.now in let memory = c.args.memory.now in
    let c1 = g.V.Shelf.cloud_at c.checkpoint-laid.new.shelf number in
    let counted = c.in-Some.ensures.count.0 ∙ ap (λ (r : List Body). length r) c.of-records.ensures.records in
    subst (λ (n : ℕ). journals.IsJournalEnded c.checkpoint-laid.new.disk.journal (c1.now Journal) (checkpoint_behind w header c.args.commands n c.args.region (records_of memory))) counted
    (subst (λ (b : List Body). journals.IsJournalEnded c.checkpoint-laid.new.disk.journal (c1.now Journal) (checkpoint_behind w header c.args.commands c.in-Some.count c.args.region b)) c.of-records-2.ensures.records
    (c.in-Ok.ensures.taken told w ended))

-- ---- with rooms, whatever list it is

pub returns-in-None-clause-never_long : goal.returns-in-None-clause-never_long
returns-in-None-clause-never_long g c has =
    let memory = c.args.memory.now in let rooms = c.args.header.now.rooms in
    let listed = listed_of memory c.shares.result.now c.shares-2.result.now c.files.result.now c.shares.ensures c.shares-2.ensures c.files.ensures c.place_at.ensures.each c.owner_at.ensures.each c.entry_at.ensures.each in
    let fit : All FitsBody (records_of memory) = subst (All FitsBody) c.of-records.ensures.records c.count_within.ensures.fit in
    let is = records_short rooms memory has c.requires.fit listed fit in
    let beyond = c.in-None.ensures.count in
    let same = ap records_len c.of-records.ensures.records in
    let limit = c.limit-limit.ensures ∙ ap (λ s. s.limit) c.journal.ensures ∙ c.requires.limit in
    omega (arith, is, beyond, same, limit)

pub returns-in-None-clause-room : goal.returns-in-None-clause-room
returns-in-None-clause-room g c has =
    let memory = c.args.memory.now in
    let listed = listed_of memory c.shares.result.now c.shares-2.result.now c.files.result.now c.shares.ensures c.shares-2.ensures c.files.ensures c.place_at.ensures.each c.owner_at.ensures.each c.entry_at.ensures.each in
    let fit : All FitsBody (records_of memory) = subst (All FitsBody) c.of-records.ensures.records c.count_within.ensures.fit in
    let is = records_short c.args.header.now.rooms memory has c.requires.fit listed fit in
    subst (λ (n : ℕ). 63 + records_len (records_of memory) + longest_record ≤ n) (sym c.requires.limit) is

pub returns-clause-room : goal.returns-clause-room
returns-clause-room g c has =
    let memory = c.args.memory.now in
    let listed = listed_of memory c.shares.result.now c.shares-2.result.now c.files.result.now c.shares.ensures c.shares-2.ensures c.files.ensures c.place_at.ensures.each c.owner_at.ensures.each c.entry_at.ensures.each in
    let fit : All FitsBody (records_of memory) = subst (All FitsBody) c.of-records.ensures.records c.count_within.ensures.fit in
    let is = records_short c.args.header.now.rooms memory has c.requires.fit listed fit in
    subst (λ (n : ℕ). 63 + records_len (records_of memory) + longest_record ≤ n) (sym c.requires.limit) is

pub returns-in-Err-clause-room : goal.returns-in-Err-clause-room
returns-in-Err-clause-room g c has =
    let memory = c.args.memory.now in
    let listed = listed_of memory c.shares.result.now c.shares-2.result.now c.files.result.now c.shares.ensures c.shares-2.ensures c.files.ensures c.place_at.ensures.each c.owner_at.ensures.each c.entry_at.ensures.each in
    let fit : All FitsBody (records_of memory) = subst (All FitsBody) c.of-records.ensures.records c.count_within.ensures.fit in
    let is = records_short c.args.header.now.rooms memory has c.requires.fit listed fit in
    subst (λ (n : ℕ). 63 + records_len (records_of memory) + longest_record ≤ n) (sym c.requires.limit) is
