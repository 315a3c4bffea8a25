use Rattle.std.proofs.Common.{ℕ, ◌+◌, ◌≤◌, List, length, sym, ap, ◌∙◌, subst, arith}
use Rattle.std.specs.Prelude.{All}
use Rattle.cloud_disk.specs.RecordBody.Spelling.{Body, FitsBody}
use Rattle.cloud_disk.proofs.CdEdges.Moments.{told_on}
use Rattle.cloud_disk.specs.CommitJournal.States as journals
use Rattle.compact_memories.specs.Checkpoints.Laying.{records_len}
use Rattle.compact_memories.specs.Checkpoints.Records.{coming, records_of}
use Rattle.compact_memories.proofs.Checkpoints.InPlace.{ended_still}
use Rattle.compact_memories.proofs.Checkpoints.RoomLaw.{records_short}
use Rattle.compact_memories.proofs.Checkpoints.Summed.{listed_of}
use Rattle.fresh_checkpoints.proofs.Next.{no_chain, short, switching, migrating, switched_to, migrated_to, kept_as, ended_as}
use Rattle.fresh_checkpoints.proofs.laying.lay_fresh.Goals as goal

pub returns-in-None-clause-short : goal.returns-in-None-clause-short
returns-in-None-clause-short g c other n =
    let two = c.args.header.now in let memory = c.args.memory.now in let commands = c.args.next.commands in let region = c.args.next.region in
    let c0 = g.V.Shelf.cloud_at c.args.shelf.now c.args.cloud.0 in
    let fit : All FitsBody (records_of memory) = subst (All FitsBody) c.of-records.ensures.records c.fresh_count.ensures.fit in
    let law = c.law_of_checkpoints.ensures.room in
    let is = short law two other commands region memory c0 n fit (no_chain two) in
    subst (λ (n : ℕ). 63 + records_len (records_of memory) ≤ n) (sym c.requires.limit) is

pub returns-clause-short : goal.returns-clause-short
returns-clause-short g c other n =
    let two = c.args.header.now in let memory = c.args.memory.now in let commands = c.args.next.commands in let region = c.args.next.region in
    let c0 = g.V.Shelf.cloud_at c.args.shelf.now c.args.cloud.0 in
    let fit : All FitsBody (records_of memory) = subst (All FitsBody) c.of-records.ensures.records c.fresh_count.ensures.fit in
    let law = c.law_of_checkpoints.ensures.room in
    let is = short law two other commands region memory c0 n fit (no_chain two) in
    subst (λ (n : ℕ). 63 + records_len (records_of memory) ≤ n) (sym c.requires.limit) is

pub returns-in-Err-clause-short : goal.returns-in-Err-clause-short
returns-in-Err-clause-short g c other n =
    let two = c.args.header.now in let memory = c.args.memory.now in let commands = c.args.next.commands in let region = c.args.next.region in
    let c0 = g.V.Shelf.cloud_at c.args.shelf.now c.args.cloud.0 in
    let fit : All FitsBody (records_of memory) = subst (All FitsBody) c.of-records.ensures.records c.fresh_count.ensures.fit in
    let law = c.law_of_checkpoints.ensures.room in
    let is = short law two other commands region memory c0 n fit (no_chain two) in
    subst (λ (n : ℕ). 63 + records_len (records_of memory) ≤ n) (sym c.requires.limit) is

pub returns-in-None-clause-any_moment : goal.returns-in-None-clause-any_moment
returns-in-None-clause-any_moment g c one list other chain read n =
    let two = c.args.header.now in let memory = c.args.memory.now in let commands = c.args.next.commands in let region = c.args.next.region in
    let c0 = g.V.Shelf.cloud_at c.args.shelf.now c.args.cloud.0 in
    let fit : All FitsBody (records_of memory) = subst (All FitsBody) c.of-records.ensures.records c.fresh_count.ensures.fit in
    let law = c.law_of_checkpoints.ensures.room in
    let is = short law two other commands region memory c0 n fit chain in
    let beyond = c.in-None.ensures.count in
    let same = ap records_len c.of-records.ensures.records in
    let limit = c.limit-limit.ensures ∙ c.requires.limit in
    absurd (omega (arith, is, beyond, same, limit))

pub returns-in-None-clause-migrating : goal.returns-in-None-clause-migrating
returns-in-None-clause-migrating g c one list other chain read n =
    let two = c.args.header.now in let memory = c.args.memory.now in let commands = c.args.next.commands in let region = c.args.next.region in
    let c0 = g.V.Shelf.cloud_at c.args.shelf.now c.args.cloud.0 in
    let fit : All FitsBody (records_of memory) = subst (All FitsBody) c.of-records.ensures.records c.fresh_count.ensures.fit in
    let law = c.law_of_checkpoints.ensures.room in
    let is = short law two other commands region memory c0 n fit chain in
    let beyond = c.in-None.ensures.count in
    let same = ap records_len c.of-records.ensures.records in
    let limit = c.limit-limit.ensures ∙ c.requires.limit in
    absurd (omega (arith, is, beyond, same, limit))

pub returns-clause-any_moment : goal.returns-clause-any_moment
returns-clause-any_moment g c one list other chain read n =
    let two = c.args.header.now in let memory = c.args.memory.now in let commands = c.args.next.commands in let region = c.args.next.region in
    let c0 = g.V.Shelf.cloud_at c.args.shelf.now c.args.cloud.0 in
    let fit : All FitsBody (records_of memory) = subst (All FitsBody) c.of-records.ensures.records c.fresh_count.ensures.fit in
    let law = c.law_of_checkpoints.ensures.room in
    let c1 = g.V.Shelf.cloud_at c.lay_checkpoint-laid.new.shelf c.args.cloud.0 in
    let journal = journals.state_of c.args.journal.now in
    let number = c.in-Some.ensures.count.0 ∙ ap (λ (r : List Body). length r) c.of-records.ensures.records in
    let made = c.of-records-2.result in
    let bodies = coming made.shares.now made.files.now made.spent.now made.at in
    switching law two other commands region memory c0 n fit chain one list journal c1
    (kept_as two commands region c.in-Some.count bodies (records_of memory) number c.of-records-2.ensures.records journal c0 c1 c.lay_checkpoint-laid.ensures.any_moment) read

pub returns-clause-migrating : goal.returns-clause-migrating
returns-clause-migrating g c one list other chain read n =
    let two = c.args.header.now in let memory = c.args.memory.now in let commands = c.args.next.commands in let region = c.args.next.region in
    let c0 = g.V.Shelf.cloud_at c.args.shelf.now c.args.cloud.0 in
    let fit : All FitsBody (records_of memory) = subst (All FitsBody) c.of-records.ensures.records c.fresh_count.ensures.fit in
    let law = c.law_of_checkpoints.ensures.room in
    let c1 = g.V.Shelf.cloud_at c.lay_checkpoint-laid.new.shelf c.args.cloud.0 in
    let journal = journals.state_of c.args.journal.now in
    let number = c.in-Some.ensures.count.0 ∙ ap (λ (r : List Body). length r) c.of-records.ensures.records in
    let made = c.of-records-2.result in
    let bodies = coming made.shares.now made.files.now made.spent.now made.at in
    migrating law two other commands region memory c0 n fit chain one list journal c1
    (kept_as two commands region c.in-Some.count bodies (records_of memory) number c.of-records-2.ensures.records journal c0 c1 c.lay_checkpoint-laid.ensures.any_moment) read

pub returns-in-Err-clause-any_moment : goal.returns-in-Err-clause-any_moment
returns-in-Err-clause-any_moment g c one list other chain read n =
    let two = c.args.header.now in let memory = c.args.memory.now in let commands = c.args.next.commands in let region = c.args.next.region in
    let c0 = g.V.Shelf.cloud_at c.args.shelf.now c.args.cloud.0 in
    let fit : All FitsBody (records_of memory) = subst (All FitsBody) c.of-records.ensures.records c.fresh_count.ensures.fit in
    let law = c.law_of_checkpoints.ensures.room in
    let c1 = g.V.Shelf.cloud_at c.lay_checkpoint-laid.new.shelf c.args.cloud.0 in
    let journal = journals.state_of c.args.journal.now in
    let number = c.in-Some.ensures.count.0 ∙ ap (λ (r : List Body). length r) c.of-records.ensures.records in
    let made = c.of-records-2.result in
    let bodies = coming made.shares.now made.files.now made.spent.now made.at in
    switching law two other commands region memory c0 n fit chain one list journal c1
    (kept_as two commands region c.in-Some.count bodies (records_of memory) number c.of-records-2.ensures.records journal c0 c1 c.lay_checkpoint-laid.ensures.any_moment) read

pub returns-in-Err-clause-migrating : goal.returns-in-Err-clause-migrating
returns-in-Err-clause-migrating g c one list other chain read n =
    let two = c.args.header.now in let memory = c.args.memory.now in let commands = c.args.next.commands in let region = c.args.next.region in
    let c0 = g.V.Shelf.cloud_at c.args.shelf.now c.args.cloud.0 in
    let fit : All FitsBody (records_of memory) = subst (All FitsBody) c.of-records.ensures.records c.fresh_count.ensures.fit in
    let law = c.law_of_checkpoints.ensures.room in
    let c1 = g.V.Shelf.cloud_at c.lay_checkpoint-laid.new.shelf c.args.cloud.0 in
    let journal = journals.state_of c.args.journal.now in
    let number = c.in-Some.ensures.count.0 ∙ ap (λ (r : List Body). length r) c.of-records.ensures.records in
    let made = c.of-records-2.result in
    let bodies = coming made.shares.now made.files.now made.spent.now made.at in
    migrating law two other commands region memory c0 n fit chain one list journal c1
    (kept_as two commands region c.in-Some.count bodies (records_of memory) number c.of-records-2.ensures.records journal c0 c1 c.lay_checkpoint-laid.ensures.any_moment) read

pub returns-clause-settled : goal.returns-clause-settled
returns-clause-settled g c one list other chain read n =
    let two = c.args.header.now in let memory = c.args.memory.now in let commands = c.args.next.commands in let region = c.args.next.region in
    let c0 = g.V.Shelf.cloud_at c.args.shelf.now c.args.cloud.0 in
    let fit : All FitsBody (records_of memory) = subst (All FitsBody) c.of-records.ensures.records c.fresh_count.ensures.fit in
    let law = c.law_of_checkpoints.ensures.room in
    let c1 = g.V.Shelf.cloud_at c.lay_checkpoint-laid.new.shelf c.args.cloud.0 in
    let journal = journals.state_of c.args.journal.now in
    let number = c.in-Some.ensures.count.0 ∙ ap (λ (r : List Body). length r) c.of-records.ensures.records in
    let made = c.of-records-2.result in
    let bodies = coming made.shares.now made.files.now made.spent.now made.at in
    let after = journals.state_of c.lay_checkpoint-laid.new.journal in
    switched_to law two other commands region memory c0 n fit chain one list journal after c1
    (λ told. told_on c0 c1 c.lay_checkpoint-laid.ensures.call.told told)
    (c.lay_checkpoint-laid.ensures.limit ∙ c.requires.limit)
    (λ told w ended. ended_as two commands region c.in-Some.count bodies (records_of memory) number c.of-records-2.ensures.records after c1 w (c.in-Ok.ensures.settled told w ended))
    c.in-Ok.ensures.others read

pub returns-clause-migrated : goal.returns-clause-migrated
returns-clause-migrated g c one list other chain read n =
    let two = c.args.header.now in let memory = c.args.memory.now in let commands = c.args.next.commands in let region = c.args.next.region in
    let c0 = g.V.Shelf.cloud_at c.args.shelf.now c.args.cloud.0 in
    let fit : All FitsBody (records_of memory) = subst (All FitsBody) c.of-records.ensures.records c.fresh_count.ensures.fit in
    let law = c.law_of_checkpoints.ensures.room in
    let c1 = g.V.Shelf.cloud_at c.lay_checkpoint-laid.new.shelf c.args.cloud.0 in
    let journal = journals.state_of c.args.journal.now in
    let number = c.in-Some.ensures.count.0 ∙ ap (λ (r : List Body). length r) c.of-records.ensures.records in
    let made = c.of-records-2.result in
    let bodies = coming made.shares.now made.files.now made.spent.now made.at in
    let after = journals.state_of c.lay_checkpoint-laid.new.journal in
    migrated_to law two other commands region memory c0 n fit chain one list journal after c1
    (λ told. told_on c0 c1 c.lay_checkpoint-laid.ensures.call.told told)
    (c.lay_checkpoint-laid.ensures.limit ∙ c.requires.limit)
    (λ told w ended. ended_as two commands region c.in-Some.count bodies (records_of memory) number c.of-records-2.ensures.records after c1 w (c.in-Ok.ensures.settled told w ended))
    c.in-Ok.ensures.others read

pub returns-clause-chain : goal.returns-clause-chain
returns-clause-chain g c =
    let two = c.args.header.now in let memory = c.args.memory.now in let commands = c.args.next.commands in let region = c.args.next.region in
    let c0 = g.V.Shelf.cloud_at c.args.shelf.now c.args.cloud.0 in
    let c1 = g.V.Shelf.cloud_at c.lay_checkpoint-laid.new.shelf c.args.cloud.0 in
    let journal = journals.state_of c.args.journal.now in
    let number = c.in-Some.ensures.count.0 ∙ ap (λ (r : List Body). length r) c.of-records.ensures.records in
    let made = c.of-records-2.result in
    let bodies = coming made.shares.now made.files.now made.spent.now made.at in
    kept_as two commands region c.in-Some.count bodies (records_of memory) number c.of-records-2.ensures.records journal c0 c1 c.lay_checkpoint-laid.ensures.any_moment

pub returns-in-Err-clause-chain : goal.returns-in-Err-clause-chain
returns-in-Err-clause-chain g c =
    let two = c.args.header.now in let memory = c.args.memory.now in let commands = c.args.next.commands in let region = c.args.next.region in
    let c0 = g.V.Shelf.cloud_at c.args.shelf.now c.args.cloud.0 in
    let c1 = g.V.Shelf.cloud_at c.lay_checkpoint-laid.new.shelf c.args.cloud.0 in
    let journal = journals.state_of c.args.journal.now in
    let number = c.in-Some.ensures.count.0 ∙ ap (λ (r : List Body). length r) c.of-records.ensures.records in
    let made = c.of-records-2.result in
    let bodies = coming made.shares.now made.files.now made.spent.now made.at in
    kept_as two commands region c.in-Some.count bodies (records_of memory) number c.of-records-2.ensures.records journal c0 c1 c.lay_checkpoint-laid.ensures.any_moment

pub returns-in-None-clause-chain : goal.returns-in-None-clause-chain
returns-in-None-clause-chain g c told w ended =
    ended_still (journals.state_of c.args.journal.now) (g.V.Shelf.cloud_at c.args.shelf.now c.args.cloud.0) w _ ended

pub returns-clause-taken : goal.returns-clause-taken
returns-clause-taken g c told w ended =
    let two = c.args.header.now in let memory = c.args.memory.now in let commands = c.args.next.commands in let region = c.args.next.region in
    let c0 = g.V.Shelf.cloud_at c.args.shelf.now c.args.cloud.0 in
    let c1 = g.V.Shelf.cloud_at c.lay_checkpoint-laid.new.shelf c.args.cloud.0 in
    let journal = journals.state_of c.args.journal.now in
    let number = c.in-Some.ensures.count.0 ∙ ap (λ (r : List Body). length r) c.of-records.ensures.records in
    let made = c.of-records-2.result in
    let bodies = coming made.shares.now made.files.now made.spent.now made.at in
    ended_as two commands region c.in-Some.count bodies (records_of memory) number c.of-records-2.ensures.records (journals.state_of c.lay_checkpoint-laid.new.journal) c1 w (c.in-Ok.ensures.settled told w ended)

pub returns-in-None-clause-never_long : goal.returns-in-None-clause-never_long
returns-in-None-clause-never_long g c has =
    let memory = c.args.memory.now in
    let listed = listed_of memory c.shares.result.now c.shares-2.result.now c.files.result.now c.shares.ensures c.shares-2.ensures c.files.ensures c.place_at.ensures.each c.owner_at.ensures.each c.entry_at.ensures.each in
    let fit : All FitsBody (records_of memory) = subst (All FitsBody) c.of-records.ensures.records c.fresh_count.ensures.fit in
    let is = records_short c.args.header.now.rooms memory has c.requires.fit listed fit in
    let beyond = c.in-None.ensures.count in
    let same = ap records_len c.of-records.ensures.records in
    let limit = c.limit-limit.ensures ∙ c.requires.limit in
    omega (arith, is, beyond, same, limit)
