use Rattle.std.proofs.Common.{◌+◌, ◌<◌, ◌^◌, ℕ, Some, sym, ap, ◌∙◌, subst}
use Rattle.std.specs.Prelude.{is_some}
use Rattle.checkpoints.specs.FileIndex.Files.{key_of}
use Rattle.compact_memories.specs.Relaid.{itself, entry_len, entry_lying, EntriesSoFar}
use Rattle.compact_memories.proofs.Relaying.{ends_within}
use Rattle.compact_memories.proofs.Carrying.{entry_kept, entry_moved}
use Rattle.compact_memories.proofs.copied.move_entry.Goals as goal

pub place_behind-at-requires : goal.place_behind-at-requires
place_behind-at-requires c =
    let m = c.args.memory.now in
    let key = key_of c.in-Some.user.0 c.in-Some.tag.0 c.in-Some.version.0 in
    ends_within itself entry_len entry_lying m.files.slots c.args.slot c.args.end (2 ^ 64) (key, c.in-Some.entry) c.requires.inside (sym c.in-Some.ensures.value) c.requires.within

pub move_recipe-requires : goal.move_recipe-requires
move_recipe-requires c =
    let key = key_of c.in-Some.user.0 c.in-Some.tag.0 c.in-Some.version.0 in
    record { there = ap is_some (c.in-Some.ensures.each.listed c.args.slot key c.in-Some.entry (sym c.in-Some.ensures.value)) }

pub returns-in-Some-clause-so_far : goal.returns-in-Some-clause-so_far
returns-in-Some-clause-so_far c start first p =
    let at_is = c.place_behind-at.ensures in
    let key = key_of c.in-Some.user.0 c.in-Some.tag.0 c.in-Some.version.0 in
    let here = sym c.in-Some.ensures.value in
    let got = c.in-Some.ensures.each.listed c.args.slot key c.in-Some.entry here in
    subst (λ (n : ℕ). EntriesSoFar start first c.move_recipe.new.self (c.args.slot + 1) n) (sym (c.end_behind-next.ensures ∙ ap (λ (n : ℕ). n + c.in-Some.entry.len) at_is))
    (entry_moved start first c.args.memory.now c.args.slot c.args.end p c.requires.inside key c.in-Some.entry here c.in-Some.ensures.each
    c.move_recipe.new.self c.place_behind-at.result at_is c.move_recipe.ensures.taken (c.move_recipe.ensures.moved c.in-Some.entry got) c.move_recipe.ensures.shares)

pub returns-in-None-clause-so_far : goal.returns-in-None-clause-so_far
returns-in-None-clause-so_far c start first p = entry_kept start first c.args.memory.now c.args.slot c.args.end p c.requires.inside (sym c.in-None.ensures.value)

pub end_behind-next-requires : goal.end_behind-next-requires
end_behind-next-requires c =
    subst (λ (n : ℕ). n + c.in-Some.entry.len < 2 ^ 64) (sym c.place_behind-at.ensures)
    (let m = c.args.memory.now in
    let key = key_of c.in-Some.user.0 c.in-Some.tag.0 c.in-Some.version.0 in
    ends_within itself entry_len entry_lying m.files.slots c.args.slot c.args.end (2 ^ 64) (key, c.in-Some.entry) c.requires.inside (sym c.in-Some.ensures.value) c.requires.within)
