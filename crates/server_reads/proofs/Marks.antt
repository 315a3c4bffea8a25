-- Flags, one for each fingerprint, and the first fingerprint that lacks.
use Rattle.std.proofs.Common.{◌≡◌, ℕ, suc, ◌+◌, Bool, ◌≤◌, true, false, cond, List, [], ◌∷◌, ◌++◌, length, take, drop, Some, sym, ap, ◌∙◌, arith, add-one}
use Rattle.std.specs.Prelude.{All, slice_get}
use Rattle.std.proofs.lemmas.List.{take_more, drop_all, length-map}
use Rattle.std.proofs.lemmas.List.Elements.{All-nil, All-cons}
use Rattle.std.proofs.lemmas.Option.{slice_get_within, get_or_from_slice_get}
use Rattle.cloud_memory.specs.CdBase.ids.Fp.{Fp}
use Rattle.cloud_memory.specs.CdBase.ids.UserId.{UserId}
use Rattle.cloud_memory.specs.UserDedup.Owning.{is_among, lacking_from}
use Rattle.cloud_memory.specs.Memory.{Memory}
use Rattle.std.specs.Int.{w16, to_be_bytes}
use Rattle.messages.specs.MessageFields.Fingerprints.{IsBatch}
use Rattle.messages.specs.declared.reply.Reply.TheVariants as replies
use Rattle.messages.specs.Replies.{reply_bytes}
use Rattle.server_reads.specs.Allowed.{Replies, KnownReply}
use Rattle.server_reads.specs.Owned.{is_owned, owned_flag, owned_flags}

pub one_more : {A : Type 0} (xs : List A) (i : ℕ) (x : A) → slice_get xs i ≡ Some x → take (i + 1) xs ≡ take i xs ++ x ∷ []
one_more xs i x e = take_more xs i x (slice_get_within xs i x e) ∙ ap (λ y. take i xs ++ y ∷ []) (get_or_from_slice_get xs i x x e)

pub lacks_here : (own : List Fp) (i : ℕ) (fp : Fp) (fps : List Fp) → is_among own fp ≡ false → lacking_from own i (fp ∷ fps) ≡ Some i
lacks_here own i fp fps e = ap (λ b. cond b (lacking_from own (suc i) fps) (Some i)) e

pub lacks_later : (own : List Fp) (i : ℕ) (fp : Fp) (fps : List Fp) → is_among own fp ≡ true → lacking_from own i (fp ∷ fps) ≡ lacking_from own (i + 1) fps
lacks_later own i fp fps e = rw add-one (ap (λ b. cond b (lacking_from own (suc i) fps) (Some i)) e)

pub none_behind : {A : Type 0} (xs : List A) (i : ℕ) → length xs ≤ i → drop i xs ≡ []
none_behind xs i past = drop_all i xs past

small_flag : (b : Bool) → cond b 1 0 ≤ 1
small_flag true = omega arith
small_flag false = omega arith

small_flags : (m : Memory) (user : UserId) (fps : List Fp) → All (λ (mark : ℕ). mark ≤ 1) (owned_flags m user fps)
small_flags m user [] = All-nil (λ (mark : ℕ). mark ≤ 1)
small_flags m user (fp ∷ fps) = All-cons (λ (mark : ℕ). mark ≤ 1) (owned_flag m user fp) (owned_flags m user fps) (small_flag (is_owned m user fp)) (small_flags m user fps)

pub known_bytes : (m : Memory) (user : UserId) (fps : List Fp) (head out : List ℕ) (n : ℕ) → out ≡ head ++ owned_flags m user fps → head ≡ 130 ∷ to_be_bytes w16 n → n ≡ length fps
    → out ≡ reply_bytes (replies.Known (owned_flags m user fps))
known_bytes m user fps head out n out_is head_is n_is =
    out_is ∙ ap (λ (h : List ℕ). h ++ owned_flags m user fps) (head_is ∙ ap (λ (k : ℕ). 130 ∷ to_be_bytes w16 k) (n_is ∙ sym (length-map fps (owned_flag m user))))

pub known_kind : (m : Memory) (user : UserId) (fps : List Fp) (out : List ℕ) → out ≡ reply_bytes (replies.Known (owned_flags m user fps)) → IsBatch fps → Replies out (KnownReply fps)
known_kind m user fps out is batch =
    let long = length-map fps (owned_flag m user) in
    let some : 1 ≤ length fps = batch.0 in
    let few : length fps ≤ 256 = batch.1 in
    record {
      reply = replies.Known (owned_flags m user fps);
      is = record { fits = ((omega arith, omega arith), small_flags m user fps); spelled = is };
      said = long;
    }
