-- What a reply says that is Rotten.
use Rattle.std.proofs.Common.{◌≡◌, ℕ, List, ◌++◌, length, take, drop, sym, ap, ◌∙◌, subst, arith}
use Rattle.std.specs.List.{Contains}
use Rattle.std.proofs.Math.Seq.{take-append_seam, drop-append_seam}
use Rattle.cloud_memory.specs.CdBase.ids.Fp.{Fp}
use Rattle.messages.specs.declared.reply.Reply.{Reply}
use Rattle.messages.specs.declared.reply.Reply.TheVariants as replies
use Rattle.messages.specs.Replies.{IsReply}
use Rattle.server_reads.specs.Allowed.{Replies, SharesReply, RecipeReply}
use Rattle.server_reads.proofs.Calling.{kinds}

-- two lists alike, with fronts of one length, have the same fronts and rests
pub fronts : (a b c d : List ℕ) → a ++ b ≡ c ++ d → length a ≡ length c → a ≡ c
fronts a b c d e long = sym (take-append_seam a b) ∙ ap (take (length a)) e ∙ ap (λ n. take n (c ++ d)) long ∙ take-append_seam c d

pub rests : (a b c d : List ℕ) → a ++ b ≡ c ++ d → length a ≡ length c → b ≡ d
rests a b c d e long = sym (drop-append_seam a b) ∙ ap (drop (length a)) e ∙ ap (λ n. drop n (c ++ d)) long ∙ drop-append_seam c d

same_named : (content : List ℕ) (a b c d : Fp) → IsReply content (replies.Rotten a b) → IsReply content (replies.Rotten c d) → c ≡ a
same_named content a b c d one two =
    let e : a.0 ++ b.0 ≡ c.0 ++ d.0 = ap (drop 1) (sym one.spelled ∙ two.spelled) in
    ap (λ (x : List ℕ). let fp : Fp = record { 0 = x } in fp) (sym (fronts a.0 b.0 c.0 d.0 e (one.fits.0 ∙ sym two.fits.0)))

same_found : (content : List ℕ) (a b c d : Fp) → IsReply content (replies.Rotten a b) → IsReply content (replies.Rotten c d) → d ≡ b
same_found content a b c d one two =
    let e : a.0 ++ b.0 ≡ c.0 ++ d.0 = ap (drop 1) (sym one.spelled ∙ two.spelled) in
    ap (λ (x : List ℕ). let fp : Fp = record { 0 = x } in fp) (sym (rests a.0 b.0 c.0 d.0 e (one.fits.0 ∙ sym two.fits.0)))

-- what is said of two fingerprints is said of those that the content has
at_same : (content : List ℕ) (P : Fp → Fp → Type 0) (a b c d : Fp) → IsReply content (replies.Rotten a b) → IsReply content (replies.Rotten c d) → P a b → P c d
at_same content P a b c d one two p =
    subst (λ (x : Fp). P c x) (sym (same_found content a b c d one two)) (subst (λ (x : Fp). P x b) (sym (same_named content a b c d one two)) p)

shares_said : (fps : List Fp) (Found : Fp → Fp → Type 0) (content : List ℕ) (reply : Reply) (named found : Fp) → IsReply content reply → SharesReply fps Found reply
    → IsReply content (replies.Rotten named found) → Contains fps named × Found named found
shares_said fps Found content (replies.Shares shares) named found is said rot = absurd (omega (arith, kinds content 0x89 0x8F _ _ is.spelled rot.spelled))
shares_said fps Found content (replies.NotYours place) named found is said rot = absurd (omega (arith, kinds content 0x8A 0x8F _ _ is.spelled rot.spelled))
shares_said fps Found content (replies.Rotten a b) named found is said rot = at_same content (λ (x y : Fp). Contains fps x × Found x y) a b named found is rot said
shares_said fps Found content reply named found is said rot = elim said [ ]

recipe_said : (Is : List ℕ → Type 0) (Absent : Type 0) (Found : Fp → Fp → Type 0) (content : List ℕ) (reply : Reply) (named found : Fp) → IsReply content reply
    → RecipeReply Is Absent Found reply → IsReply content (replies.Rotten named found) → Found named found
recipe_said Is Absent Found content (replies.Recipe bytes) named found is said rot = absurd (omega (arith, kinds content 0x87 0x8F _ _ is.spelled rot.spelled))
recipe_said Is Absent Found content replies.Missing named found is said rot = absurd (omega (arith, kinds content 0x88 0x8F _ _ is.spelled rot.spelled))
recipe_said Is Absent Found content (replies.Rotten a b) named found is said rot = at_same content Found a b named found is rot said
recipe_said Is Absent Found content reply named found is said rot = elim said [ ]

pub shares_rotten : (fps : List Fp) (Found : Fp → Fp → Type 0) (content : List ℕ) (named found : Fp) → Replies content (SharesReply fps Found)
    → IsReply content (replies.Rotten named found) → Contains fps named × Found named found
shares_rotten fps Found content named found r rot = shares_said fps Found content r.reply named found r.is r.said rot

pub recipe_rotten : (Is : List ℕ → Type 0) (Absent : Type 0) (Found : Fp → Fp → Type 0) (content : List ℕ) (named found : Fp) → Replies content (RecipeReply Is Absent Found)
    → IsReply content (replies.Rotten named found) → Found named found
recipe_rotten Is Absent Found content named found r rot = recipe_said Is Absent Found content r.reply named found r.is r.said rot
