use Rattle.std.proofs.Common.{ℕ, refl, sym, ◌∙◌, subst}
use Rattle.message_fields.specs.CdBase.rooms.Room.TheVariants.{Shares}
use Rattle.record_checks.specs.RecordBody.Spelling.{Kept}
use Rattle.record_checks.specs.CloudMemory.Rooms.{memory_of}
use Rattle.record_checks.specs.CloudMemory.Steps.{with_kepts}
use Rattle.record_checks.specs.Checks.{KeptsFault}
use Rattle.first_records.specs.Judging.{KeptFaulty, KeptLeaves, Crowded, Fails}
use Rattle.first_records.proofs.Judged.{ends}
use Rattle.first_records.proofs.Rooms.{kepts_room}
use Rattle.first_records.proofs.kepts.take_kept.Goals as goal

pub returns-in-Some-clause-judged : goal.returns-in-Some-clause-judged
returns-in-Some-clause-judged c = λ read. Crowded c.in-Some.room (sym c.crowded_by.ensures ∙ c.in-Some.is)

pub take_items-requires : goal.take_items-requires
take_items-requires c = kepts_room c.args.memory.now c.args.items.items c.requires.rooms (sym c.crowded_by.ensures ∙ c.in-None.is)

pub returns-in-Ok-clause-judged : goal.returns-in-Ok-clause-judged
returns-in-Ok-clause-judged c = λ read.
    let old = memory_of c.args.memory.now in
    let new = memory_of c.take_items.new.memory in
    let items = c.args.items.items in
    ends c.args.ground.now c.args.inside read old new (with_kepts old items) (Kept items) Shares new.shares_end c.shares_within.result
    (sym c.crowded_by.ensures ∙ c.in-None.is) (KeptLeaves items c.in-Ok.ensures.right) c.in-Ok.ensures.taken refl c.shares_within.ensures.room

pub returns-in-Err-clause-judged : goal.returns-in-Err-clause-judged
returns-in-Err-clause-judged c = λ read.
    let items = c.args.items.items in
    Fails c.in-Err.place (sym c.crowded_by.ensures ∙ c.in-None.is)
    (KeptFaulty items c.in-Err.place
    (subst (λ (n : ℕ). KeptsFault c.args.ground.now c.args.inside (memory_of c.args.memory.now) n items c.in-Err.place) c.requires.from c.in-Err.ensures.right))
