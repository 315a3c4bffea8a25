use Rattle.std.proofs.Common.{◌≡◌, true, false, sym, ◌∙◌}
use Rattle.cloud_memory.specs.UserDedup.Cloud.{user_view}
use Rattle.server_reads.proofs.Keys.{next_is_above}
use Rattle.server_reads.proofs.listing.next_key.Goals as goal

pub returns-else-is_key_above-clause-value : goal.returns-else-is_key_above-clause-value
returns-else-is_key_above-clause-value c = λ shape list is.
    let yes = next_is_above (user_view shape list c.args.user).files c.args.last c.in-Some.key (sym (c.after.ensures shape list is) ∙ c.in-Some.is) in
    absurd (let no : false ≡ true = sym c.if-is_key_above.false ∙ c.is_key_above.ensures ∙ yes in cc)
