use Rattle.std.proofs.Common.{rules, ◌+◌, ◌<◌, ℕ, sym, subst}
use Rattle.compact_memories.specs.FileIndex.Files.{key_of}
use Rattle.large_users.specs.Counting.{IsCountOf}
use Rattle.large_users.proofs.Counts.{count_one, count_other, count_none}
use Rattle.large_users.proofs.large.with_slot.Goals as goal

pub returns-then-owner-user : goal.returns-then-owner-user
returns-then-owner-user c =
    let short : c.in-Some.entry.len < 4294967296 = search rules in
    subst (λ (n : ℕ). IsCountOf c.args.user.0 c.args.files.now.slots (c.args.slot + 1) (record { count = c.args.so_far.count + 1; bytes = c.args.so_far.bytes + n })) (sym c.from.ensures)
    (count_one c.args.user.0 c.args.files.now.slots c.args.slot c.requires.inside c.args.so_far c.requires.so_far
    (key_of c.in-Some.owner.0 c.in-Some.field-0-1.0 c.in-Some.field-0-2.0) c.in-Some.entry (sym c.in-Some.ensures.entry) c.if-owner-user.true short)

pub returns-else-owner-user : goal.returns-else-owner-user
returns-else-owner-user c =
    count_other c.args.user.0 c.args.files.now.slots c.args.slot c.requires.inside c.args.so_far c.requires.so_far
    (key_of c.in-Some.owner.0 c.in-Some.field-0-1.0 c.in-Some.field-0-2.0) c.in-Some.entry (sym c.in-Some.ensures.entry) c.if-owner-user.false

pub returns-in-None : goal.returns-in-None
returns-in-None c = count_none c.args.user.0 c.args.files.now.slots c.args.slot c.requires.inside c.args.so_far c.requires.so_far (sym c.in-None.ensures.entry)
