use Rattle.std.proofs.Common.{length, ap, sym, subst, arith}
use Rattle.user_dedup.specs.Messages.reply.Reply.TheVariants as replies
use Rattle.user_dedup.specs.Messages.ReplyReading.{reply_at}
use Rattle.restore_job.specs.Steps.{RecipeRefused}
use Rattle.restore_job.proofs.Refused.{recipe_refused}
use Rattle.restore_job.proofs.reply.recipe_from.Goals as goal

pub recipe_of-requires : goal.recipe_of-requires
recipe_of-requires c =
    let read = rw c.in-Ok-Recipe.field-0-is at c.in-Ok-Recipe.ensures.reads in
    let is = (c.in-Ok-Recipe.ensures.grammar (replies.Recipe c.in-Ok-Recipe.bytes.now)).0 read in
    record { few = omega (arith, ap length is.spelled) }

pub returns-in-Ok-Other-clause-from : goal.returns-in-Ok-Other-clause-from
returns-in-Ok-Other-clause-from c =
    let read = rw c.in-Ok-Other.field-0-is at c.in-Ok-Other.ensures.reads in
    let small = rw c.in-Ok-Other.field-0-is at c.in-Ok-Other.ensures.in_place in
    subst (RecipeRefused c.args.shape c.args.cloud (reply_at c.args.content.now)) (sym c.refusal_of.ensures.is)
    (recipe_refused c.args.shape c.args.cloud c.kind_of-kind.result (reply_at c.args.content.now) c.in-Ok-Other.reply read small)
