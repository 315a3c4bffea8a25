-- Which reply a content is.
use Rattle.std.proofs.Common.{◌≡◌, ℕ, List, ◌∷◌, ◌++◌, get_or, drop, Result, Ok, Err, sym, ap, ◌∙◌, subst, arith}
use Rattle.std.specs.Prelude.{OnOk, ◌≢◌}
use Rattle.server_reads.specs.CdBase.ids.Fp.{Fp}
use Rattle.server_reads.specs.CdBase.ids.Tag.{Tag}
use Rattle.server_reads.specs.CdBase.ids.UserId.{UserId}
use Rattle.server_reads.specs.CdBase.ids.Version.{Version}
use Rattle.server_reads.specs.CdBase.shape.Shape.{Shape}
use Rattle.server_reads.specs.Messages.request.Request.TheVariants as requests
use Rattle.server_reads.specs.Messages.reply.Reply.{Reply}
use Rattle.server_reads.specs.Messages.reply.Reply.TheVariants as replies
use Rattle.server_reads.specs.Messages.Replies.{IsReply}
use Rattle.server_reads.specs.Allowed.{Replies}
use Rattle.server_reads.proofs.Rotting.{fronts, rests}
use Rattle.server_commands.specs.Leaving.{FindsNone}
use Rattle.server_commands.specs.Serving.{IsGiven, GivesReply}
use Rattle.server_commands.specs.Steps.{IsOfDelete}

-- the first byte of a content names its kind
pub one_kind : (content : List ℕ) (a b : ℕ) (more less : List ℕ) → content ≡ a ∷ more → content ≡ b ∷ less → a ≡ b
one_kind content a b more less one two = ap (λ (l : List ℕ). get_or l 0 0) (sym one ∙ two)

-- ---- Rotten

-- what is said of two fingerprints is said of those that the content has
pub rotten_said : (content : List ℕ) (P : Fp → Fp → Type 0) (a b c d : Fp) → IsReply content (replies.Rotten a b) → IsReply content (replies.Rotten c d) → P a b → P c d
rotten_said content P a b c d one two p =
    let e : a.0 ++ b.0 ≡ c.0 ++ d.0 = ap (drop 1) (sym one.spelled ∙ two.spelled) in
    let first = fronts a.0 b.0 c.0 d.0 e (one.fits.0 ∙ sym two.fits.0) in
    let second = rests a.0 b.0 c.0 d.0 e (one.fits.0 ∙ sym two.fits.0) in
    subst (λ (x : List ℕ). P c (record { 0 = x })) second (subst (λ (x : List ℕ). P (record { 0 = x }) b) first p)

-- ---- a Delete

delete_not : (content : List ℕ) (reply : Reply) (a : ℕ) (rest : List ℕ) → (146 ≢ a) → (140 ≢ a) → IsReply content reply → IsOfDelete reply → content ≡ a ∷ rest → ⊥
delete_not content replies.Deleted a rest one two is of other = one (one_kind content 146 a _ rest is.spelled other)
delete_not content (replies.Full room used need limit) a rest one two is of other = two (one_kind content 140 a _ rest is.spelled other)
delete_not content reply a rest one two is of other = elim of [ ]

delete_given : (shape : Shape) (user : UserId) (tag : Tag) (version : Version) (reply : Reply) → IsOfDelete reply → IsGiven shape (requests.Delete user tag version) reply
delete_given shape user tag version replies.Deleted of = record {
  kind = tt;
  memory = λ e. let no : replies.Deleted ≡ replies.NoMemory = e in cc;
  fault = λ e. let no : replies.Deleted ≡ replies.Fault = e in cc;
  damaged = λ at byte e. let no : replies.Deleted ≡ replies.Damaged at byte = e in cc;
}
delete_given shape user tag version (replies.Full room used need limit) of = record {
  kind = tt;
  memory = λ e. let no : replies.Full room used need limit ≡ replies.NoMemory = e in cc;
  fault = λ e. let no : replies.Full room used need limit ≡ replies.Fault = e in cc;
  damaged = λ at byte e. let no : replies.Full room used need limit ≡ replies.Damaged at byte = e in cc;
}
delete_given shape user tag version reply of = elim of [ ]

module _ {T E : Type 0} (content : List ℕ) where
  pub delete_never_rotten : (r : Result T E) → OnOk r (Replies content IsOfDelete) → (named found : Fp) → OnOk r (IsReply content (replies.Rotten named found) → ⊥)
  delete_never_rotten (Err e) s named found = tt
  delete_never_rotten (Ok v) s named found = λ other. delete_not content s.reply 143 _ (λ e. omega (arith, e)) (λ e. omega (arith, e)) s.is s.said other.spelled

  pub delete_adds : (r : Result T E) (Left : Type 0) → OnOk r (Replies content IsOfDelete) → (answer : Reply) → FindsNone answer → OnOk r (IsReply content answer → Left)
  delete_adds (Err e) Left s answer none = tt
  delete_adds (Ok v) Left s replies.Missing none = λ other. absurd (delete_not content s.reply 136 _ (λ e. omega (arith, e)) (λ e. omega (arith, e)) s.is s.said other.spelled)
  delete_adds (Ok v) Left s answer none = elim none [ ]

  pub delete_gives : (r : Result T E) (shape : Shape) (user : UserId) (tag : Tag) (version : Version) → OnOk r (Replies content IsOfDelete) → OnOk r (GivesReply shape (requests.Delete user tag version) content)
  delete_gives (Err e) shape user tag version s = tt
  delete_gives (Ok v) shape user tag version s = record { reply = s.reply; is = s.is; given = delete_given shape user tag version s.reply s.said }

pub missing_given : (shape : Shape) (user : UserId) (tag : Tag) (version : Version) (content : List ℕ) → IsReply content replies.Missing → GivesReply shape (requests.Delete user tag version) content
missing_given shape user tag version content is = record {
  reply = replies.Missing;
  is = is;
  given = record {
    kind = tt;
    memory = λ e. let no : replies.Missing ≡ replies.NoMemory = e in cc;
    fault = λ e. let no : replies.Missing ≡ replies.Fault = e in cc;
    damaged = λ at byte e. let no : replies.Missing ≡ replies.Damaged at byte = e in cc;
  };
}

pub rotten_of_delete : (shape : Shape) (user : UserId) (tag : Tag) (version : Version) (named found : Fp) → IsGiven shape (requests.Delete user tag version) (replies.Rotten named found)
rotten_of_delete shape user tag version named found = record {
  kind = tt;
  memory = λ e. let no : replies.Rotten named found ≡ replies.NoMemory = e in cc;
  fault = λ e. let no : replies.Rotten named found ≡ replies.Fault = e in cc;
  damaged = λ at byte e. let no : replies.Rotten named found ≡ replies.Damaged at byte = e in cc;
}

pub rotten_leaves : (content : List ℕ) (named found : Fp) (Left : Type 0) → IsReply content (replies.Rotten named found) → (answer : Reply) → FindsNone answer → IsReply content answer → Left
rotten_leaves content named found Left is replies.Missing none other = absurd (omega (arith, one_kind content 143 136 _ _ is.spelled other.spelled))
rotten_leaves content named found Left is answer none other = elim none [ ]
