-- Shares that are put one after another, and whose fingerprints are looked at when all are there.
use Rattle.std.proofs.Common.{◌≡◌, ℕ, ◌+◌, ◌*◌, ◌≤◌, ◌<◌, List, [], ◌∷◌, ◌++◌, length, map, take, drop, Option, Some, Result, Ok, refl, sym, ap, ◌∙◌, arith, append-nil, length-append}
use Rattle.std.specs.Prelude.{slice_get, slice_index_or}
use Rattle.std.specs.List.{Contains}
use Rattle.std.proofs.lemmas.List.{map_push, take_all, take_more}
use Rattle.std.proofs.lemmas.List.Elements.{All-nil, All-push}
use Rattle.std.specs.Int.{w16, to_be_bytes}
use Rattle.cloud_memory.specs.CdBase.ids.Fp.{Fp}
use Rattle.cloud_memory.specs.CdBase.place.Place.{Place}
use Rattle.cd_edges.specs.declared.area.Area.TheVariants.{Shares}
use Rattle.cd_edges.specs.Disk.{Cloud}
use Rattle.cloud_memory.specs.ContainerLog.States.{State}
use Rattle.messages.specs.MessageFields.Shares.{IsShare, share_bytes, shares_bytes, shares_at}
use Rattle.messages.proofs.MessageFields.ShareLaws.{lawful_shares}
use Rattle.cloud_memory.specs.UserDedup.Cloud.{fingerprint}
use Rattle.cloud_memory.specs.Memory.{Memory}
use Rattle.server_reads.specs.Found.{ReadsLog}
use Rattle.server_reads.specs.Steps.{OnlyRead, SentOne, PutOne, HasPut, PutAll, SentAll}
use Rattle.server_reads.proofs.Marks.{one_more}
use Rattle.server_reads.proofs.Logs.{log_still, log_twice}
use Rattle.server_reads.proofs.Calling.{nothing_read, only_then}
use Rattle.server_reads.proofs.Along.{IsHeldSoFar, IsPlaceOf, StepHolds, held_more, one_behind, few_more, shares_spelled}

-- what lies at the first n places stands there
pub record Copied (a b : ℕ → Cloud) (number before mid : ℕ) (log0 log : State) (m : Memory) (all : List Fp) (n : ℕ) (old out : List ℕ) : Type 0 where
  pub only : OnlyRead a b number before mid
  pub log_is : ReadsLog log0 log (a number) (b number)
  pub put : HasPut n old out
  pub held : IsHeldSoFar (a number) log0 m all n old out
  pub few : length out ≤ length old + n * 8212

pub none_copied : (a : ℕ → Cloud) (number now : ℕ) (log : State) (m : Memory) (all : List Fp) (out : List ℕ) → Copied a a number now now log log m all 0 out out
none_copied a number now log m all out = record {
  only = nothing_read a number now;
  log_is = log_still log log (a number) (a number) (record { armed = refl; past = refl; now = refl }) refl;
  put = record { shares = []; bytes = sym (append-nil out); ranges = All-nil IsShare; many = refl };
  held = λ t agreed told shape cloud list user k own. sym (append-nil out);
  few = omega arith;
}

-- one share, whatever its fingerprint is
one_sent : (old out : List ℕ) (one : PutOne old out) → SentOne (fingerprint one.share) old out
one_sent old out one = record { share = one.share; bytes = one.bytes; range = one.range; named = refl }

put_more : (n : ℕ) (old out out' : List ℕ) → HasPut n old out → PutOne out out' → HasPut (n + 1) old out'
put_more n old out out' put one = record {
  shares = put.shares ++ one.share ∷ [];
  bytes = one_behind old out out' put.shares one.share put.bytes one.bytes;
  ranges = All-push IsShare put.shares one.share put.ranges one.range;
  many = omega (arith, length-append put.shares (one.share ∷ []), put.many);
}

pub one_copied : (a b c : ℕ → Cloud) (number before mid now : ℕ) (log0 log log' : State) (m : Memory) (all : List Fp) (n : ℕ) (old out out' : List ℕ) (fp : Fp) (at : Option Place)
    → log0.area ≡ Shares → slice_get all n ≡ Some fp → Contains all fp → IsPlaceOf m fp at
    → Copied a b number before mid log0 log m all n old out
    → OnlyRead b c number mid now → ReadsLog log log' (b number) (c number) → PutOne out out'
    → StepHolds (b number) log at fp (λ blob. out' ≡ out ++ share_bytes blob.blob)
    → Copied a c number before now log0 log' m all (n + 1) old out'
one_copied a b c number before mid now log0 log log' m all n old out out' fp at area get among place copied only log_same one step = record {
  only = only_then a b c number before mid now copied.only only;
  log_is = log_twice log0 log log' (a number) (b number) (c number) copied.only.call.told copied.log_is log_same;
  put = put_more n old out out' copied.put one;
  held = held_more a b number before mid log0 log m all n old out out' fp at area get among place copied.only copied.log_is copied.held step;
  few = few_more old out out' (fingerprint one.share) n copied.few (one_sent out out' one);
}

-- ---- their fingerprints

pub put_all : (count n : ℕ) (head out : List ℕ) → HasPut count head out → head ≡ 137 ∷ to_be_bytes w16 n → n ≡ count → 1 ≤ count → count ≤ 256 → PutAll count out
put_all count n head out put head_is n_is some few = record {
  shares = put.shares;
  is = record {
    fits = ((omega (arith, put.many), omega (arith, put.many)), put.ranges);
    spelled = shares_spelled put.shares head out n put.bytes head_is (n_is ∙ sym put.many);
  };
  many = put.many;
}

-- what reading gives of the content behind its kind
pub fields_read : (count : ℕ) (content fields : List ℕ) (put : PutAll count content) → fields ≡ drop 1 content → shares_at fields ≡ Ok (put.shares, [])
fields_read count content fields put is =
    ap shares_at (is ∙ ap (drop 1) put.is.spelled ∙ sym (append-nil (shares_bytes put.shares))) ∙ lawful_shares.again put.shares [] put.is.fits tt

abbrev read_as : List (List ℕ) → List ℕ → Result (List (List ℕ) × List ℕ) ℕ
read_as shares rest = Ok (shares, rest)

read_one : (one two : List (List ℕ)) (rest behind : List ℕ) → read_as one rest ≡ read_as two behind → one ≡ two
read_one one two rest behind e = let pair : (one, rest) ≡ (two, behind) = cc in ap (λ (p : List (List ℕ) × List ℕ). p.0) pair

pub seen_is : (count : ℕ) (content fields rest : List ℕ) (shares : List (List ℕ)) (put : PutAll count content) → fields ≡ drop 1 content → shares_at fields ≡ Ok (shares, rest) → shares ≡ put.shares
seen_is count content fields rest shares put is read =
    read_one shares put.shares rest [] (sym read ∙ fields_read count content fields put is)

pub all_named : (fps : List Fp) (content : List ℕ) (put : PutAll (length fps) content) (shares : List (List ℕ)) → shares ≡ put.shares → map fingerprint shares ≡ fps → SentAll fps content
all_named fps content put shares same named = record { shares = put.shares; is = put.is; named = ap (map fingerprint) (sym same) ∙ named }

pub named_more : (shares : List (List ℕ)) (fps : List Fp) (place : ℕ) (named : Fp) → place < length shares → slice_get fps place ≡ Some named
    → fingerprint (slice_index_or shares place []) ≡ named → map fingerprint (take place shares) ≡ take place fps → map fingerprint (take (place + 1) shares) ≡ take (place + 1) fps
named_more shares fps place named less get same so =
    ap (map fingerprint) (take_more shares place [] less) ∙ map_push fingerprint (take place shares) (slice_index_or shares place [])
    ∙ ap (λ (l : List Fp). l ++ fingerprint (slice_index_or shares place []) ∷ []) so
    ∙ ap (λ (f : Fp). take place fps ++ f ∷ []) same ∙ sym (one_more fps place named get)

pub named_all : (shares : List (List ℕ)) (fps : List Fp) (place : ℕ) → length shares ≤ place → length fps ≤ place → map fingerprint (take place shares) ≡ take place fps → map fingerprint shares ≡ fps
named_all shares fps place one two so = ap (map fingerprint) (sym (take_all place shares one)) ∙ so ∙ take_all place fps two
