-- Replies that can be read, one ask after another.
use Rattle.std.proofs.Common.{◌≡◌, ◌⊎◌, ℕ, List, [], ◌∷◌, None, Some, Result, Ok, Err, refl, sym, subst, inl, inr}
use Rattle.user_dedup.specs.CdBase.ids.CloudNo.{CloudNo}
use Rattle.user_dedup.specs.CdBase.shape.Shape.{Shape}
use Rattle.user_dedup.specs.Messages.reply.Reply.{Reply}
use Rattle.user_dedup.specs.Messages.reply.Reply.TheVariants as replies
use Rattle.user_dedup.specs.Recipe.recipe.Recipe.{Recipe}
use Rattle.user_dedup.specs.Link.{Exchange, LinkTelling, Passes}
use Rattle.user_dedup.specs.Messages.ReplyReading.{reply_at}
use Rattle.restore_job.specs.Asking.{IsReplyReadable, IsUnread, Readable, UnreadIn}
use Rattle.restore_job.specs.Steps.{NoRecipe, NoShares, RecipeFrom, Refuses, SharesFrom}
use Rattle.restore_job.specs.declared.error.RestoreErr.{RestoreErr}
use Rattle.restore_job.specs.declared.error.RestoreErr.TheVariants as errors

-- a readable reply, where the content that came is one
came : (cloud : ℕ) (request content : List ℕ) (answer : Reply) → reply_at content ≡ Ok answer
    → IsReplyReadable (record { cloud = cloud; content = request; reply = Some content })
came cloud request content answer is = (content, answer, refl, is)

-- what a refusal says of the reply by which it came
refused : (cloud : CloudNo) (request content : List ℕ) (IsStrange : Reply → Type 0) (e : RestoreErr)
    → Refuses cloud (reply_at content) IsStrange e
    → IsUnread e cloud.0 ⊎ IsReplyReadable (record { cloud = cloud.0; content = request; reply = Some content })
refused cloud request content IsStrange (errors.Missing c) is = absurd is
refused cloud request content IsStrange (errors.Lost c) is = absurd is
refused cloud request content IsStrange (errors.CloudFault c) is =
    inr (came cloud.0 request content replies.Fault is.1)
refused cloud request content IsStrange (errors.CloudDamaged c at byte) is =
    inr (came cloud.0 request content (replies.Damaged at byte) is.1)
refused cloud request content IsStrange (errors.CloudRotten c named found) is =
    inr (came cloud.0 request content (replies.Rotten named found) is.1)
refused cloud request content IsStrange (errors.CloudNoMemory c) is =
    inr (came cloud.0 request content replies.NoMemory is.1)
refused cloud request content IsStrange (errors.Strange c kind) is =
    inl (subst (λ (x : CloudNo). cloud.0 ≡ x.0) (sym is.0) refl)
refused cloud request content IsStrange (errors.RecipesDiffer a b place) is = absurd is
refused cloud request content IsStrange (errors.ShareLength c secret found wanted) is = absurd is
refused cloud request content IsStrange (errors.BadShare c secret named found) is = absurd is
refused cloud request content IsStrange (errors.BadSecret secret named found) is = absurd is
refused cloud request content IsStrange (errors.BadPad secret at byte) is = absurd is
refused cloud request content IsStrange errors.NoMemory is = inl tt

recipe_came : (shape : Shape) (cloud : CloudNo) (request content : List ℕ) (result : Result Recipe RestoreErr)
    → RecipeFrom shape cloud (reply_at content) result
    → UnreadIn result cloud.0 ⊎ IsReplyReadable (record { cloud = cloud.0; content = request; reply = Some content })
recipe_came shape cloud request content (Ok recipe) from =
    inr (came cloud.0 request content (replies.Recipe from.0) from.1)
recipe_came shape cloud request content (Err (errors.Missing c)) from =
    inr (came cloud.0 request content replies.Missing from.1)
recipe_came shape cloud request content (Err (errors.Lost c)) from = absurd from
recipe_came shape cloud request content (Err (errors.CloudFault c)) from =
    refused cloud request content (NoRecipe shape) (errors.CloudFault c) from
recipe_came shape cloud request content (Err (errors.CloudDamaged c at byte)) from =
    refused cloud request content (NoRecipe shape) (errors.CloudDamaged c at byte) from
recipe_came shape cloud request content (Err (errors.CloudRotten c named found)) from =
    refused cloud request content (NoRecipe shape) (errors.CloudRotten c named found) from
recipe_came shape cloud request content (Err (errors.CloudNoMemory c)) from =
    refused cloud request content (NoRecipe shape) (errors.CloudNoMemory c) from
recipe_came shape cloud request content (Err (errors.Strange c kind)) from =
    refused cloud request content (NoRecipe shape) (errors.Strange c kind) from
recipe_came shape cloud request content (Err (errors.RecipesDiffer a b place)) from = absurd from
recipe_came shape cloud request content (Err (errors.ShareLength c secret found wanted)) from = absurd from
recipe_came shape cloud request content (Err (errors.BadShare c secret named found)) from = absurd from
recipe_came shape cloud request content (Err (errors.BadSecret secret named found)) from = absurd from
recipe_came shape cloud request content (Err (errors.BadPad secret at byte)) from = absurd from
recipe_came shape cloud request content (Err errors.NoMemory) from = inl tt

-- ---- one ask

module _ {L : Type 0} (t : LinkTelling L) (old new : L) (cloud : CloudNo) (request content : List ℕ) where
  abbrev brought : Exchange
  brought = record { cloud = cloud.0; content = request; reply = Some content }

  once : {A : Type 0} (e : Exchange) (result : Result A RestoreErr) → UnreadIn result e.cloud ⊎ IsReplyReadable e
      → t.passes old e new → Readable t old new result
  once e result is passes = (e ∷ [], (is, (new, passes, refl)))

  pub readable_recipe : (shape : Shape) (result : Result Recipe RestoreErr) → RecipeFrom shape cloud (reply_at content) result
      → t.passes old brought new → Readable t old new result
  readable_recipe shape result from passes =
      once brought result (recipe_came shape cloud request content result from) passes

  -- shares came, whatever becomes of them
  pub readable_shares : (n : ℕ) (shares : List (List ℕ)) (result : Result (Unit {0}) RestoreErr)
      → SharesFrom cloud n (reply_at content) (Ok shares) → t.passes old brought new → Readable t old new result
  readable_shares n shares result from passes =
      once brought result (inr (came cloud.0 request content (replies.Shares shares) from.0)) passes

  pub readable_refusal : (n : ℕ) (e : RestoreErr) → Refuses cloud (reply_at content) (NoShares n) e
      → t.passes old brought new → Readable {A = Unit {0}} t old new (Err e)
  readable_refusal n e is passes = once {A = Unit {0}} brought (Err e) (refused cloud request content (NoShares n) e is) passes

  -- it was lost
  pub readable_lost : (e : RestoreErr) → e ≡ errors.Lost cloud
      → t.passes old (record { cloud = cloud.0; content = request; reply = None }) new
      → Readable {A = Unit {0}} t old new (Err e)
  readable_lost e lost passes =
      once {A = Unit {0}} (record { cloud = cloud.0; content = request; reply = None }) (Err e)
      (inl (subst (λ (x : RestoreErr). IsUnread x cloud.0) (sym lost) refl)) passes

-- ---- one after another

-- Of a result that is fine or an error alone, as what it holds says nothing here.
module _ {L : Type 0} (t : LinkTelling L) where
  abbrev pub AllReadable : L → L → Type 0
  AllReadable old new = Readable {A = Unit {0}} t old new (Ok tt)

  abbrev pub ReadableTo : L → L → RestoreErr → Type 0
  ReadableTo old new e = Readable {A = Unit {0}} t old new (Err e)

  pub none_asked : (link : L) → AllReadable link link
  none_asked link = ([], refl)

  pub none_asked_to : (link : L) (e : RestoreErr) → ReadableTo link link e
  none_asked_to link e = ([], refl)

  -- asks whose replies all can be read, and more
  along : (Is : Exchange → Type 0) (old mid new : L) → ((e : Exchange) → IsReplyReadable e → Is e)
      → (es : List Exchange) → Passes t (λ e. ⊥ ⊎ IsReplyReadable e) old es mid
      → ((fs : List Exchange) × Passes t Is mid fs new) → (fs : List Exchange) × Passes t Is old fs new
  along Is old mid new weaker [] same two =
      (two.0, subst (λ (l : L). Passes t Is l two.0 new) same two.1)
  along Is old mid new weaker (e ∷ es) chain two =
      let more = along Is chain.1.0 mid new weaker es chain.1.2 two in
      (e ∷ more.0, (of_one e chain.0, (chain.1.0, chain.1.1, more.1)))
    where
      of_one : (e : Exchange) → ⊥ ⊎ IsReplyReadable e → Is e
      of_one e (inl none) = absurd none
      of_one e (inr is) = weaker e is

  pub readable_on : (old mid new : L) → AllReadable old mid → AllReadable mid new → AllReadable old new
  readable_on old mid new one two =
      along (λ e. ⊥ ⊎ IsReplyReadable e) old mid new (λ e is. inr is) one.0 one.1 two

  pub readable_stop : (old mid new : L) (e : RestoreErr) → AllReadable old mid → ReadableTo mid new e
      → ReadableTo old new e
  readable_stop old mid new e one two =
      along (λ x. IsUnread e x.cloud ⊎ IsReplyReadable x) old mid new (λ x is. inr is) one.0 one.1 two

  -- an error behind them
  pub readable_end : (old new : L) (e : RestoreErr) → AllReadable old new → ReadableTo old new e
  readable_end old new e one = readable_stop old new new e one (none_asked_to new e)
