-- The refusal that a reply is.
use Rattle.std.proofs.Common.{◌≡◌, ℕ, Result, Ok, refl, subst}
use Rattle.user_dedup.specs.CdBase.ids.CloudNo.{CloudNo}
use Rattle.user_dedup.specs.CdBase.shape.Shape.{Shape}
use Rattle.user_dedup.specs.Messages.reply.Reply.{Reply}
use Rattle.user_dedup.specs.Messages.reply.Reply.TheVariants as replies
use Rattle.user_dedup.specs.Messages.ReplyViews.{IsSmall}
use Rattle.restore_job.specs.Steps.{NoRecipe, NoShares, Refuses, RecipeRefused, refusal}
use Rattle.restore_job.specs.declared.error.RestoreErr.TheVariants as errors

one_reply : (read : Result Reply ℕ) (a b : Reply) → read ≡ Ok a → read ≡ Ok b → a ≡ b
one_reply read a b is other = cc

odd : (Odd : Reply → Type 0) (read : Result Reply ℕ) (reply : Reply) → read ≡ Ok reply → Odd reply → (other : Reply) → read ≡ Ok other → Odd other
odd Odd read reply is so other there = subst Odd (one_reply read reply other is there) so

pub recipe_refused : (shape : Shape) (cloud : CloudNo) (kind : ℕ) (read : Result Reply ℕ) (reply : Reply) → read ≡ Ok reply → IsSmall reply
    → RecipeRefused shape cloud read (refusal cloud kind (errors.Missing cloud) reply)
recipe_refused shape cloud kind read (replies.Hello n k c format) is small = (refl, odd (NoRecipe shape) read _ is tt)
recipe_refused shape cloud kind read (replies.Known flags) is small = (refl, odd (NoRecipe shape) read _ is tt)
recipe_refused shape cloud kind read (replies.Stored new) is small = (refl, odd (NoRecipe shape) read _ is tt)
recipe_refused shape cloud kind read replies.Committed is small = (refl, odd (NoRecipe shape) read _ is tt)
recipe_refused shape cloud kind read replies.Exists is small = (refl, odd (NoRecipe shape) read _ is tt)
recipe_refused shape cloud kind read (replies.Lacking place) is small = (refl, odd (NoRecipe shape) read _ is tt)
recipe_refused shape cloud kind read (replies.Recipe bytes) is small = absurd small
recipe_refused shape cloud kind read replies.Missing is small = (refl, is)
recipe_refused shape cloud kind read (replies.Shares shares) is small = absurd small
recipe_refused shape cloud kind read (replies.NotYours place) is small = (refl, odd (NoRecipe shape) read _ is tt)
recipe_refused shape cloud kind read (replies.Entries entries) is small = (refl, odd (NoRecipe shape) read _ is tt)
recipe_refused shape cloud kind read replies.Deleted is small = (refl, odd (NoRecipe shape) read _ is tt)
recipe_refused shape cloud kind read (replies.Full room used need limit) is small = (refl, odd (NoRecipe shape) read _ is tt)
recipe_refused shape cloud kind read replies.Fault is small = (refl, is)
recipe_refused shape cloud kind read (replies.Damaged at byte) is small = (refl, is)
recipe_refused shape cloud kind read (replies.Rotten named found) is small = (refl, is)
recipe_refused shape cloud kind read (replies.Malformed at) is small = (refl, odd (NoRecipe shape) read _ is tt)
recipe_refused shape cloud kind read replies.NoMemory is small = (refl, is)

pub shares_refused_by : (n : ℕ) (cloud : CloudNo) (kind : ℕ) (read : Result Reply ℕ) (reply : Reply) → read ≡ Ok reply → IsSmall reply
    → Refuses cloud read (NoShares n) (refusal cloud kind (errors.Strange cloud kind) reply)
shares_refused_by n cloud kind read (replies.Hello m k c format) is small = (refl, odd (NoShares n) read _ is tt)
shares_refused_by n cloud kind read (replies.Known flags) is small = (refl, odd (NoShares n) read _ is tt)
shares_refused_by n cloud kind read (replies.Stored new) is small = (refl, odd (NoShares n) read _ is tt)
shares_refused_by n cloud kind read replies.Committed is small = (refl, odd (NoShares n) read _ is tt)
shares_refused_by n cloud kind read replies.Exists is small = (refl, odd (NoShares n) read _ is tt)
shares_refused_by n cloud kind read (replies.Lacking place) is small = (refl, odd (NoShares n) read _ is tt)
shares_refused_by n cloud kind read (replies.Recipe bytes) is small = absurd small
shares_refused_by n cloud kind read replies.Missing is small = (refl, odd (NoShares n) read _ is tt)
shares_refused_by n cloud kind read (replies.Shares shares) is small = absurd small
shares_refused_by n cloud kind read (replies.NotYours place) is small = (refl, odd (NoShares n) read _ is tt)
shares_refused_by n cloud kind read (replies.Entries entries) is small = (refl, odd (NoShares n) read _ is tt)
shares_refused_by n cloud kind read replies.Deleted is small = (refl, odd (NoShares n) read _ is tt)
shares_refused_by n cloud kind read (replies.Full room used need limit) is small = (refl, odd (NoShares n) read _ is tt)
shares_refused_by n cloud kind read replies.Fault is small = (refl, is)
shares_refused_by n cloud kind read (replies.Damaged at byte) is small = (refl, is)
shares_refused_by n cloud kind read (replies.Rotten named found) is small = (refl, is)
shares_refused_by n cloud kind read (replies.Malformed at) is small = (refl, odd (NoShares n) read _ is tt)
shares_refused_by n cloud kind read replies.NoMemory is small = (refl, is)
