use Rattle.std.proofs.Common.{ℕ, cond, ap, ◌∙◌}
use Rattle.std.specs.Prelude.{nat_lt, option_map}
use Rattle.std.specs.Option.{option_or}
use Rattle.record_body.specs.CdBase.rooms.Room.TheVariants as names
use Rattle.compact_memories.specs.UserDedup.Spending.{refusal}
use Rattle.compact_memories.specs.CloudMemory.Memory.{as_spent}
use Rattle.large_users.specs.Large.{full_of}
use Rattle.large_users.proofs.Passed.{rooms_are}
use Rattle.large_users.proofs.large.passed_by.Goals as goal

pub returns-clause-full : goal.returns-clause-full
returns-clause-full c =
    let o = option_map full_of c.passed-owners.result in
    let s = option_map full_of c.passed-shares.result in
    c.first_of.ensures.full
    ∙ ap (option_or o) (c.first_of-behind.ensures.full ∙ ap (option_or s) c.first_of-last.ensures.full)
    ∙ rooms_are c.args.rooms.now c.args.user (as_spent c.args.used.now) c.args.files o s (option_map full_of c.passed-recipes.result) (option_map full_of c.passed-files.result)
    (c.passed-owners.ensures.full ∙ (λ i. refusal names.Owners (c.from-3.ensures i) 0 ((c.limit_for-most_owners.ensures ∙ ap (λ (n : ℕ). cond (nat_lt c.args.user.0 c.args.rooms.now.users) n 0) c.from.ensures) i)))
    (c.passed-shares.ensures.full ∙ ap (λ (n : ℕ). refusal names.Shares c.args.used.now.shares 0 n) c.limit_for-most_shares.ensures)
    (c.passed-recipes.ensures.full ∙ ap (λ (n : ℕ). refusal names.Recipes c.args.used.now.recipes 0 n) c.limit_for-most_recipes.ensures)
    (c.passed-files.ensures.full ∙ (λ i. refusal names.Files (c.from-4.ensures i) 0 ((c.limit_for-most_files.ensures ∙ ap (λ (n : ℕ). cond (nat_lt c.args.user.0 c.args.rooms.now.users) n 0) c.from-2.ensures) i)))

pub returns-clause-user : goal.returns-clause-user
returns-clause-user c =
    c.first_of.ensures.user c.args.user c.passed-owners.ensures.user
    (c.first_of-behind.ensures.user c.args.user c.passed-shares.ensures.user (c.first_of-last.ensures.user c.args.user c.passed-recipes.ensures.user c.passed-files.ensures.user))
