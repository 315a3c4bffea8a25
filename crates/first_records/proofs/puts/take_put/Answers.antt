use Rattle.std.proofs.Common.{ℕ, refl, sym, ◌∙◌, subst}
use Rattle.message_fields.specs.CdBase.rooms.Room.TheVariants.{Shares}
use Rattle.record_checks.specs.RecordBody.Spelling.{Put}
use Rattle.record_checks.specs.CloudMemory.Rooms.{memory_of}
use Rattle.record_checks.specs.CloudMemory.Steps.{with_items}
use Rattle.record_checks.specs.Checks.{ItemsFault}
use Rattle.first_records.specs.Judging.{PutFaulty, PutLeaves, Crowded, Fails}
use Rattle.first_records.proofs.Judged.{ends}
use Rattle.first_records.proofs.Rooms.{items_room}
use Rattle.first_records.proofs.puts.take_put.Goals as goal

pub returns-in-Some-clause-judged : goal.returns-in-Some-clause-judged
returns-in-Some-clause-judged c = λ read. Crowded c.in-Some.room (sym (c.crowded_by.ensures c.args.user) ∙ c.in-Some.is)

pub take_items-requires : goal.take_items-requires
take_items-requires c = items_room c.args.memory.now c.args.user c.args.items.items c.requires.rooms (sym (c.crowded_by.ensures c.args.user) ∙ c.in-None.is)

pub returns-in-Ok-clause-judged : goal.returns-in-Ok-clause-judged
returns-in-Ok-clause-judged c = λ read.
    let old = memory_of c.args.memory.now in
    let new = memory_of c.take_items.new.memory in
    let user = c.args.user in
    let items = c.args.items.items in
    ends c.args.ground.now c.args.inside read old new (with_items user old items) (Put user items) Shares new.shares_end c.shares_within.result
    (sym (c.crowded_by.ensures user) ∙ c.in-None.is) (PutLeaves user items c.in-Ok.ensures.right) c.in-Ok.ensures.taken refl c.shares_within.ensures.room

pub returns-in-Err-clause-judged : goal.returns-in-Err-clause-judged
returns-in-Err-clause-judged c = λ read.
    let items = c.args.items.items in
    Fails c.in-Err.place (sym (c.crowded_by.ensures c.args.user) ∙ c.in-None.is)
    (PutFaulty c.args.user items c.in-Err.place
    (subst (λ (n : ℕ). ItemsFault c.args.ground.now c.args.inside c.args.user (memory_of c.args.memory.now) n items c.in-Err.place) c.requires.from c.in-Err.ensures.right))
