-- Reading calls, one after another, and what they found.
use Rattle.std.proofs.Common.{◌≡◌, ◌⊎◌, inl, inr, ℕ, ◌+◌, ◌<◌, List, ◌∷◌, length, get_or, take, drop, Result, Ok, Err, OnOk, IfErr, refl, sym, ap, ◌∙◌, subst, arith, length-take, length-drop, get_or-take}
use Rattle.std.specs.Prelude.{◌≢◌}
use Rattle.std.proofs.lemmas.Bool.{cases_eq}
use Rattle.std.proofs.lemmas.List.{ext_get_or}
use Rattle.cloud_memory.specs.CdBase.ids.Fp.{Fp}
use Rattle.cd_edges.specs.Disk.{Cloud}
use Rattle.cd_edges.specs.Shelf.{IsCall, HasFailed, KeepsCounts, Stays, ReadsFrom}
use Rattle.cd_edges.proofs.Calls.{called_twice, failed_after}
use Rattle.server_reads.specs.declared.blobs.BlobStop.{BlobStop}
use Rattle.server_reads.specs.declared.blobs.BlobStop.TheVariants as stops
use Rattle.messages.specs.declared.reply.Reply.TheVariants as replies
use Rattle.messages.specs.Replies.{IsReply}
use Rattle.cloud_memory.specs.UserDedup.Cloud.{fingerprint}
use Rattle.server_reads.specs.Found.{IsOther}
use Rattle.server_reads.specs.Reading.{IfRotten, IfReadFailed, UnlessReadFailed, HasReadCloud}
use Rattle.server_reads.specs.Steps.{OnlyRead}

-- what a step answers
abbrev pub Answer : Type 0
Answer = Result (Unit {0}) BlobStop

-- that nothing stopped it
abbrev pub ok_answer : Answer
ok_answer = Ok tt

-- that something else was found
abbrev rotten_answer : Fp → Fp → Answer
rotten_answer n f = Err (stops.Rotten n f)

not_ok : (n f : Fp) → rotten_answer n f ≡ ok_answer → ⊥
not_ok n f e = cc

-- ---- calls

pub nothing_read : (a : ℕ → Cloud) (number now : ℕ) → OnlyRead a a number now now
nothing_read a number now = record {
  stays = record { armed = refl; past = refl; now = refl };
  call = record { others = λ other ne. refl; told = refl; armings = refl; later = omega arith; total_later = omega arith };
  counts = record { cloud = refl; total = refl };
}

pub read_then : (a b c : ℕ → Cloud) (number before mid now : ℕ) (result : Answer) → OnlyRead a b number before mid → HasReadCloud b c number mid now result
    → HasReadCloud a c number before now result
read_then a b c number before mid now result first second = record {
  stays = record { armed = second.stays.armed ∙ first.stays.armed; past = second.stays.past ∙ first.stays.past; now = second.stays.now ∙ first.stays.now };
  call = called_twice a b c number before mid now first.call second.call;
  failed = fails result second.failed;
  counts = counted result second.counts;
}
  where
    fails : (r : Answer) → IfReadFailed r (HasFailed (b number) (c number) mid now) → IfReadFailed r (HasFailed (a number) (c number) before now)
    fails (Ok x) f = tt
    fails (Err stops.Failed) f = failed_after a b c number before mid now first.call f
    fails (Err (stops.Rotten named found)) f = tt

    both : KeepsCounts (b number) (c number) mid now → KeepsCounts (a number) (c number) before now
    both k = record { cloud = k.cloud ∙ first.counts.cloud; total = k.total ∙ first.counts.total }

    counted : (r : Answer) → UnlessReadFailed r (KeepsCounts (b number) (c number) mid now) → UnlessReadFailed r (KeepsCounts (a number) (c number) before now)
    counted (Ok x) k = both k
    counted (Err stops.Failed) k = tt
    counted (Err (stops.Rotten named found)) k = both k

pub ok_read : (a b : ℕ → Cloud) (number before now : ℕ) → HasReadCloud a b number before now ok_answer → OnlyRead a b number before now
ok_read a b number before now r = record { stays = r.stays; call = r.call; counts = r.counts }

pub only_then : (a b c : ℕ → Cloud) (number before mid now : ℕ) → OnlyRead a b number before mid → OnlyRead b c number mid now → OnlyRead a c number before now
only_then a b c number before mid now first second = record {
  stays = record { armed = second.stays.armed ∙ first.stays.armed; past = second.stays.past ∙ first.stays.past; now = second.stays.now ∙ first.stays.now };
  call = called_twice a b c number before mid now first.call second.call;
  counts = record { cloud = second.counts.cloud ∙ first.counts.cloud; total = second.counts.total ∙ first.counts.total };
}

pub only_ok : (a b : ℕ → Cloud) (number before now : ℕ) → OnlyRead a b number before now → HasReadCloud a b number before now ok_answer
only_ok a b number before now r = record { stays = r.stays; call = r.call; failed = tt; counts = r.counts }

-- ---- a comparison behind a call

pub rotten_as : (r : Answer) (fp found : Fp) (P : Fp → Fp → Type 0) → IfErr r (λ stop. stop ≡ stops.Rotten fp found) → P fp found → IfRotten r P
rotten_as (Ok x) fp found P e p = tt
rotten_as (Err stops.Failed) fp found P e p = tt
rotten_as (Err (stops.Rotten n f)) fp found P e p =
    let same : stops.Rotten n f ≡ stops.Rotten fp found = e in
    let n_is : fp ≡ n = cc in
    let f_is : found ≡ f = cc in
    subst (λ x. P n x) f_is (subst (λ x. P x found) n_is p)

pub not_rotten : (r : Answer) (P : Fp → Fp → Type 0) → r ≡ Ok tt → IfRotten r P
not_rotten r P e = let Q : Answer → Type 0 = λ x. IfRotten x P in subst Q (sym e) tt

-- what is said of a stop that is Rotten
pub rotten_at : (stop : BlobStop) (named found : Fp) (P : Fp → Fp → Type 0) → stop ≡ stops.Rotten named found → IfRotten {A = Unit {0}} (Err stop) P → P named found
rotten_at stop named found P e h = let Q : BlobStop → Type 0 = λ x. IfRotten {A = Unit {0}} (Err x) P in subst Q e h

pub when_ok : (r : Answer) (P : Type 0) → P → OnOk r P
when_ok (Ok x) P p = p
when_ok (Err e) P p = tt

pub ok_both : (r : Answer) (P Q R : Type 0) → OnOk r P → OnOk r Q → (P → Q → R) → OnOk r R
ok_both (Ok x) P Q R p q f = f p q
ok_both (Err e) P Q R p q f = tt

pub compared : (a b : ℕ → Cloud) (number before now : ℕ) (r : Answer) (fp found : Fp) → IfErr r (λ stop. stop ≡ stops.Rotten fp found)
    → Stays (a number) (b number) → IsCall a b number before now → KeepsCounts (a number) (b number) before now → HasReadCloud a b number before now r
compared a b number before now r fp found e stays call counts = record { stays = stays; call = call; failed = fails r e; counts = counted r }
  where
    fails : (r : Answer) → IfErr r (λ stop. stop ≡ stops.Rotten fp found) → IfReadFailed r (HasFailed (a number) (b number) before now)
    fails (Ok x) e = tt
    fails (Err stops.Failed) e = absurd (let no : stops.Failed ≡ stops.Rotten fp found = e in cc)
    fails (Err (stops.Rotten n f)) e = tt

    counted : (r : Answer) → UnlessReadFailed r (KeepsCounts (a number) (b number) before now)
    counted (Ok x) = counts
    counted (Err stops.Failed) = tt
    counted (Err (stops.Rotten n f)) = counts

-- ---- what a content is

-- contents with one kind
pub kinds : (content : List ℕ) (a b : ℕ) (xs ys : List ℕ) → content ≡ a ∷ xs → content ≡ b ∷ ys → a ≡ b
kinds content a b xs ys one two = ap (λ (l : List ℕ). get_or l 0 0) (sym one ∙ two)

pub shares_or_not_yours : (content : List ℕ) (shares : List (List ℕ)) (place : ℕ) → IsReply content (replies.Shares shares) → IsReply content (replies.NotYours place) → ⊥
shares_or_not_yours content shares place is other = omega (arith, kinds content 137 138 _ _ is.spelled other.spelled)

pub rotten_or_not_yours : (content : List ℕ) (named found : Fp) (place : ℕ) → IsReply content (replies.Rotten named found) → IsReply content (replies.NotYours place) → ⊥
rotten_or_not_yours content named found place is other = omega (arith, kinds content 143 138 _ _ is.spelled other.spelled)

pub recipe_or_missing : (content recipe : List ℕ) → IsReply content (replies.Recipe recipe) → IsReply content replies.Missing → ⊥
recipe_or_missing content recipe is other = omega (arith, kinds content 135 136 _ _ is.spelled other.spelled)

pub rotten_or_missing : (content : List ℕ) (named found : Fp) → IsReply content (replies.Rotten named found) → IsReply content replies.Missing → ⊥
rotten_or_missing content named found is other = omega (arith, kinds content 143 136 _ _ is.spelled other.spelled)

-- ---- what was found

pub there_is : (held : List ℕ) (place count : ℕ) (out : List ℕ) → ReadsFrom held place count out → take count out ≡ take (length out) (drop place held)
there_is held place count out r =
    r.bytes ∙ ext_get_or 0 _ _
    (omega (arith, r.lesser, length-take count (drop place held), length-take (length out) (drop place held), length-drop place held))
    (λ k lt.
    let within : k < count = omega (arith, lt, length-take count (drop place held)) in
    let inside : k < length out = omega (arith, within, r.lesser) in
    get_or-take count (drop place held) k 0 within ∙ sym (get_or-take (length out) (drop place held) k 0 inside))

-- what was found is another, or fewer bytes lie there
pub other_there : (r : Answer) (held : List ℕ) (place count : ℕ) (out : List ℕ) (fp : Fp) → ReadsFrom held place count out
    → IfErr r (λ stop. stop ≡ stops.Rotten fp (fingerprint (take count out))) → (length (take count out) ≡ length out → fingerprint (take count out) ≡ fp → r ≡ Ok tt)
    → IfRotten r (λ named found. IsOther held place (length out) named found)
other_there (Ok x) held place count out fp reads e whole = tt
other_there (Err stops.Failed) held place count out fp reads e whole = tt
other_there (Err (stops.Rotten n f)) held place count out fp reads e whole =
    let same : stops.Rotten n f ≡ stops.Rotten fp (fingerprint (take count out)) = e in
    let n_is : n ≡ fp = cc in
    let f_is : f ≡ fingerprint (take count out) = cc in
    record { found_is = f_is ∙ ap fingerprint (there_is held place count out reads); other = by_length n_is f_is (cases_eq (length (take count out)) (length out)) }
  where
    by_length : n ≡ fp → f ≡ fingerprint (take count out) → (length (take count out) ≡ length out) ⊎ (length (take count out) ≡ length out → ⊥)
        → (n ≢ f) ⊎ (length held < place + length out)
    by_length n_is f_is (inl long) = inl (λ alike. not_ok n f (whole long (sym f_is ∙ sym alike ∙ n_is)))
    by_length n_is f_is (inr short) = inr (omega (arith, short, reads.lesser, length-take count out))

-- where the blob lies, it is what is there
pub blob_there : (held : List ℕ) (place count len : ℕ) (out blob : List ℕ) → ReadsFrom held place count out → length out ≡ len → length blob ≡ len
    → take (length blob) (drop place held) ≡ blob → take count out ≡ blob
blob_there held place count len out blob r long same at =
    there_is held place count out r ∙ ap (λ n. take n (drop place held)) (long ∙ sym same) ∙ at
