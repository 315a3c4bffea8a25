-- What a content is that is a reply.
use Rattle.std.proofs.Common.{◌≡◌, ℕ, List, [], ◌++◌, map, drop, Result, Ok, sym, ap, ◌∙◌, subst, arith}
use Rattle.std.specs.Int.{w16, from_be_bytes}
use Rattle.std.proofs.lemmas.Nat.{from_be_bytes-to_be_bytes_2}
use Rattle.cloud_memory.specs.CdBase.ids.Fp.{Fp}
use Rattle.messages.specs.MessageFields.Shares.{shares_bytes, shares_at, AreShares}
use Rattle.messages.proofs.MessageFields.ShareLaws.{lawful_shares}
use Rattle.messages.specs.declared.reply.Reply.TheVariants as replies
use Rattle.messages.specs.Replies.{IsReply}
use Rattle.cloud_memory.specs.UserDedup.Cloud.{fingerprint}
use Rattle.server_reads.specs.Steps.{SentAll}
use Rattle.server_reads.proofs.Calling.{kinds}

abbrev read_shares : List (List ℕ) → Result (List (List ℕ) × List ℕ) ℕ
read_shares shares = Ok (shares, [])

-- two batches of shares with one spelling are one
one_batch : (one two : List (List ℕ)) → AreShares one → AreShares two → shares_bytes one ≡ shares_bytes two → one ≡ two
one_batch one two fits other same =
    let e : read_shares one ≡ read_shares two = sym (lawful_shares.again one [] fits tt) ∙ ap (λ (l : List ℕ). shares_at (l ++ [])) same ∙ lawful_shares.again two [] other tt in
    let pair : (one, []) ≡ (two, []) = cc in
    ap (λ (p : List (List ℕ) × List ℕ). p.0) pair

pub all_hashed : (fps : List Fp) (content : List ℕ) (shares : List (List ℕ)) → SentAll fps content → IsReply content (replies.Shares shares) → map fingerprint shares ≡ fps
all_hashed fps content shares sent is =
    let same : shares ≡ sent.shares = one_batch shares sent.shares is.fits sent.is.fits (ap (drop 1) (sym is.spelled ∙ sent.is.spelled)) in
    ap (map fingerprint) same ∙ sent.named

pub one_place : (content : List ℕ) (one two : ℕ) → IsReply content (replies.NotYours one) → IsReply content (replies.NotYours two) → one ≡ two
one_place content one two is other =
    sym (from_be_bytes-to_be_bytes_2 one is.fits) ∙ ap (from_be_bytes w16) (ap (drop 1) (sym is.spelled ∙ other.spelled)) ∙ from_be_bytes-to_be_bytes_2 two other.fits

pub one_recipe : (content one two : List ℕ) → IsReply content (replies.Recipe one) → IsReply content (replies.Recipe two) → one ≡ two
one_recipe content one two is other = ap (drop 1) (sym is.spelled ∙ other.spelled)

pub not_yours_or_shares : (content : List ℕ) (place : ℕ) (shares : List (List ℕ)) → IsReply content (replies.NotYours place) → IsReply content (replies.Shares shares) → ⊥
not_yours_or_shares content place shares is other = omega (arith, kinds content 138 137 _ _ is.spelled other.spelled)

pub rotten_or_shares : (content : List ℕ) (named found : Fp) (shares : List (List ℕ)) → IsReply content (replies.Rotten named found) → IsReply content (replies.Shares shares) → ⊥
rotten_or_shares content named found shares is other = omega (arith, kinds content 143 137 _ _ is.spelled other.spelled)

pub missing_or_recipe : (content recipe : List ℕ) → IsReply content replies.Missing → IsReply content (replies.Recipe recipe) → ⊥
missing_or_recipe content recipe is other = omega (arith, kinds content 136 135 _ _ is.spelled other.spelled)

pub rotten_or_recipe : (content : List ℕ) (named found : Fp) (recipe : List ℕ) → IsReply content (replies.Rotten named found) → IsReply content (replies.Recipe recipe) → ⊥
rotten_or_recipe content named found recipe is other = omega (arith, kinds content 143 135 _ _ is.spelled other.spelled)

pub rotten_is : (content : List ℕ) (named found other another : Fp) → IsReply content (replies.Rotten named found) → named ≡ other → found ≡ another → IsReply content (replies.Rotten other another)
rotten_is content named found other another is one two = subst (λ (f : Fp). IsReply content (replies.Rotten other f)) two (subst (λ (n : Fp). IsReply content (replies.Rotten n found)) one is)
