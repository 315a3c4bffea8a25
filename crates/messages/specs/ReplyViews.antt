-- The reply that a view in the bytes is of, and what reading returns.
use Rattle.std.specs.Prelude.{◌≡◌, ℕ, List, [], ◌∷◌, Result, Ok, Err}
use Rattle.messages.specs.declared.fault.MsgErr.{MsgErr}
use Rattle.messages.specs.declared.fault.MsgErr.TheVariants as errors
use Rattle.messages.specs.declared.reply.Reply.{Reply}
use Rattle.messages.specs.declared.reply.Reply.TheVariants as replies
use Rattle.messages.specs.declared.reply_view.ReplyView.{ReplyView}
use Rattle.messages.specs.declared.reply_view.ReplyView.TheVariants as views

abbrev pub seen_reply : ReplyView → Reply
seen_reply (views.Recipe bytes) = replies.Recipe bytes.now
seen_reply (views.Shares shares) = replies.Shares shares
seen_reply (views.Other reply) = reply

-- neither a recipe nor shares
abbrev pub IsSmall : Reply → Type 0
IsSmall (replies.Recipe bytes) = ⊥
IsSmall (replies.Shares shares) = ⊥
IsSmall reply = Unit {0}

-- what a recipe and shares are is seen in the view
abbrev pub IsInPlace : ReplyView → Type 0
IsInPlace (views.Recipe bytes) = Unit {0}
IsInPlace (views.Shares shares) = Unit {0}
IsInPlace (views.Other reply) = IsSmall reply

-- What a function returned is what reading gives, unless memory ran out.
abbrev pub IsViewed : Result ReplyView MsgErr → Result Reply ℕ → Type 0
IsViewed (Ok view) reading = reading ≡ Ok (seen_reply view)
IsViewed (Err errors.NoMemory) reading = Unit {0}
IsViewed (Err (errors.Malformed at)) reading = reading ≡ Err at

-- the kind of a reply, or 0 of an empty one
abbrev pub kind_in : List ℕ → ℕ
kind_in [] = 0
kind_in (kind ∷ fields) = kind
