-- Shares that are put one after another.
use Rattle.std.proofs.Common.{◌≡◌, ◌⊎◌, ℕ, ◌+◌, ◌*◌, ◌≤◌, ◌<◌, List, [], ◌∷◌, ◌++◌, length, map, take, Option, Some, None, Ok, Err, IsTrue, refl, sym, ap, ◌∙◌, subst, arith, append-nil, append_assoc, length-append}
use Rattle.std.specs.Prelude.{All, unwrap_or, slice_get}
use Rattle.std.specs.List.{Contains, flat_map}
use Rattle.std.specs.FinMap.{get}
use Rattle.std.proofs.lemmas.List.{map_push, length-map, take_all}
use Rattle.std.proofs.lemmas.Option.{slice_get_within, get_or_from_slice_get}
use Rattle.std.proofs.lemmas.List.Elements.{All-nil, All-push, All-contains, Contains-get_or}
use Rattle.std.proofs.lemmas.Grind.{flat_map-append}
use Rattle.std.specs.Int.{w16, w32, to_be_bytes}
use Rattle.cloud_memory.specs.CdBase.ids.Fp.{Fp}
use Rattle.cloud_memory.specs.CdBase.ids.UserId.{UserId}
use Rattle.cd_edges.specs.declared.area.Area.{Area}
use Rattle.cd_edges.specs.declared.area.Area.TheVariants.{Shares}
use Rattle.cd_edges.specs.Disk.{Cloud, Areas, reads}
use Rattle.cloud_memory.specs.ContainerLog.Laying.{Placed, IsAt}
use Rattle.cloud_memory.specs.ContainerLog.States.{State, Agrees}
use Rattle.messages.specs.MessageFields.Shares.{IsShare, share_bytes}
use Rattle.messages.specs.MessageFields.Fingerprints.{IsBatch}
use Rattle.messages.specs.declared.reply.Reply.TheVariants as replies
use Rattle.messages.specs.Replies.{reply_bytes}
use Rattle.cloud_memory.specs.UserDedup.Owning.{first_lacking, FindsLacking}
use Rattle.cloud_memory.proofs.UserDedup.Owned.{finds}
use Rattle.cloud_memory.specs.CdBase.place.Place.{Place}
use Rattle.cloud_memory.specs.UserDedup.command.Command.{Command}
use Rattle.cloud_memory.specs.UserDedup.Cloud.{fingerprint, user_view, held_string}
use Rattle.cloud_memory.specs.CdBase.shape.Shape.{Shape}
use Rattle.cloud_memory.specs.Memory.{Memory}
use Rattle.server_reads.specs.declared.blobs.BlobStop.TheVariants as stops
use Rattle.server_reads.specs.Found.{IsOther, IsFoundShare, ReadsLog}
use Rattle.server_reads.specs.Reading.{IfRotten, HasReadCloud}
use Rattle.server_reads.specs.Steps.{KeepsRemembered, OnlyRead, SentOne, HasSentShares, SentAll}
use Rattle.server_reads.proofs.Marks.{one_more}
use Rattle.server_reads.proofs.Held.{held_at}
use Rattle.server_reads.proofs.Logs.{log_still, log_twice}
use Rattle.server_reads.proofs.Calling.{Answer, ok_answer, nothing_read, only_then, ok_read}

-- the strings held for some fingerprints
abbrev pub strings_for : List Command → List Fp → List (List ℕ)
strings_for list fps = map (λ (fp : Fp). unwrap_or (held_string list fp) []) fps

-- a told cloud keeps the list in which the user owns each
abbrev pub WhenHeld : (a : Cloud) (m : Memory) (all : List Fp) (P : List Command → Type 0) → Type 0
WhenHeld a m all P = IsTrue a.told → (shape : Shape) (cloud : ℕ) (list : List Command) (user : UserId) → KeepsRemembered (reads a.now) shape cloud list m
    → All (Contains (user_view shape list user).own) all → P list

-- what a log keeps is what the told cloud's area has
abbrev pub WhenAgreed : (a : Cloud) (log : State) (P : Type 0) → Type 0
WhenAgreed a log P = IsTrue a.told → Agrees log (a.now log.area).read → P

-- of a told cloud that keeps the list they are the first n shares of the list
abbrev pub IsHeldSoFar : (a : Cloud) (log : State) (m : Memory) (all : List Fp) (n : ℕ) (old out : List ℕ) → Type 0
IsHeldSoFar a log m all n old out = WhenAgreed a log (WhenHeld a m all (λ list. out ≡ old ++ flat_map share_bytes (strings_for list (take n all))))

-- the first n shares stand there
pub record Along (a b : ℕ → Cloud) (number before mid : ℕ) (log0 log : State) (m : Memory) (all : List Fp) (n : ℕ) (old out : List ℕ) : Type 0 where
  pub only : OnlyRead a b number before mid
  pub log_is : ReadsLog log0 log (a number) (b number)
  pub sent : HasSentShares (take n all) old out
  pub held : IsHeldSoFar (a number) log0 m all n old out
  pub few : length out ≤ length old + n * 8212

pub begun : (a : ℕ → Cloud) (number now : ℕ) (log : State) (m : Memory) (all : List Fp) (out : List ℕ) → Along a a number now now log log m all 0 out out
begun a number now log m all out = record {
  only = nothing_read a number now;
  log_is = log_still log log (a number) (a number) (record { armed = refl; past = refl; now = refl }) refl;
  sent = record { shares = []; bytes = sym (append-nil out); ranges = All-nil IsShare; named = refl };
  held = λ t agreed told shape cloud list user k own. sym (append-nil out);
  few = omega arith;
}

flat_push : (ss : List (List ℕ)) (s : List ℕ) → flat_map share_bytes (ss ++ s ∷ []) ≡ flat_map share_bytes ss ++ share_bytes s
flat_push ss s = flat_map-append share_bytes ss (s ∷ []) ∙ ap (λ l. flat_map share_bytes ss ++ l) (append-nil (share_bytes s))

pub one_behind : (old out out' : List ℕ) (ss : List (List ℕ)) (s : List ℕ) → out ≡ old ++ flat_map share_bytes ss → out' ≡ out ++ share_bytes s → out' ≡ old ++ flat_map share_bytes (ss ++ s ∷ [])
one_behind old out out' ss s first next =
    next ∙ ap (λ l. l ++ share_bytes s) first ∙ append_assoc old (flat_map share_bytes ss) (share_bytes s) ∙ ap (λ l. old ++ l) (sym (flat_push ss s))

sent_more : (fps : List Fp) (fp : Fp) (old out out' : List ℕ) → HasSentShares fps old out → SentOne fp out out' → HasSentShares (fps ++ fp ∷ []) old out'
sent_more fps fp old out out' sent one = record {
  shares = sent.shares ++ one.share ∷ [];
  bytes = one_behind old out out' sent.shares one.share sent.bytes one.bytes;
  ranges = All-push IsShare sent.shares one.share sent.ranges one.range;
  named = map_push fingerprint sent.shares one.share ∙ ap (λ l. l ++ fingerprint one.share ∷ []) sent.named ∙ ap (λ f. fps ++ f ∷ []) one.named;
}

-- the area that is read is that of the beginning
pub same_area : (a b : ℕ → Cloud) (number before mid : ℕ) (log0 log : State) → OnlyRead a b number before mid → ReadsLog log0 log (a number) (b number) → log0.area ≡ Shares
    → ((b number).now log.area).read ≡ reads (a number).now Shares
same_area a b number before mid log0 log only log_is area =
    ap (λ (x : Area). ((b number).now x).read) (ap (λ (s : State). s.area) log_is.rest ∙ area) ∙ ap (λ (f : Areas). (f Shares).read) only.stays.now

-- what one step says of a blob that lies at its place in these bytes
abbrev pub AtStep : Option Place → Fp → List ℕ → (Placed → Type 0) → Type 0
AtStep at fp bytes P = (p : Place) → at ≡ Some p → (blob : Placed) → blob.place ≡ p.at → length blob.blob ≡ p.len → IsShare blob.blob → fingerprint blob.blob ≡ fp → IsAt bytes blob → P blob

-- the same of those of a told cloud
abbrev pub AtPlace : Cloud → State → Option Place → Fp → (Placed → Type 0) → Type 0
AtPlace b log at fp P = IsTrue b.told → AtStep at fp (b.now log.area).read P

-- the memory has this place
abbrev pub IsPlaceOf : Memory → Fp → Option Place → Type 0
IsPlaceOf m fp at = at ≡ get m.places fp.0

held_by_step : (a b : ℕ → Cloud) (number before mid : ℕ) (log0 log : State) (m : Memory) (all : List Fp) (n : ℕ) (fp : Fp) (at : Option Place) (P : List ℕ → Type 0)
    → OnlyRead a b number before mid → ReadsLog log0 log (a number) (b number) → log0.area ≡ Shares → Contains all fp → IsPlaceOf m fp at
    → AtPlace (b number) log at fp (λ blob. P blob.blob)
    → WhenHeld (a number) m all (λ list. (s : List ℕ) × (held_string list fp ≡ Some s) × P s)
held_by_step a b number before mid log0 log m all n fp at P only log_is area among place step told shape cloud list user k own =
    let h = held_at (reads (a number).now) shape cloud list m user fp k (All-contains (Contains (user_view shape list user).own) all fp own among) in (
      h.string,
      h.held,
      step
          (subst IsTrue (sym only.call.told) told) h.place (place ∙ h.found) (record { place = h.place.at; blob = h.string }) refl h.long h.share h.named
          (subst (λ (l : List ℕ). IsAt l (record { place = h.place.at; blob = h.string })) (sym (same_area a b number before mid log0 log only log_is area)) h.lies),
    )

pub few_more : (old out out' : List ℕ) (fp : Fp) (n : ℕ) → length out ≤ length old + n * 8212 → SentOne fp out out' → length out' ≤ length old + (n + 1) * 8212
few_more old out out' fp n few one =
    let head : List ℕ = to_be_bytes w32 (length one.share) in
    let four : length head ≡ 4 = refl in
    let most : length one.share ≤ 8208 = one.range.1 in
    omega (arith, ap length one.bytes, length-append out (share_bytes one.share), length-append head one.share)

pub sent_one : (fp : Fp) (old out share : List ℕ) (len : ℕ) → out ≡ old ++ share_bytes share → length share ≡ len → 1 ≤ len → len ≤ 8208 → fingerprint share ≡ fp → SentOne fp old out
sent_one fp old out share len bytes long some few named = record { share = share; bytes = bytes; range = (omega arith, omega arith); named = named }

-- what a step says of a blob that lies at its place, where the log agrees with the told cloud's area
abbrev pub StepHolds : Cloud → State → Option Place → Fp → (Placed → Type 0) → Type 0
StepHolds b log at fp P = IsTrue b.told → Agrees log (b.now log.area).read → AtStep at fp (b.now log.area).read P

pub held_more : (a b : ℕ → Cloud) (number before mid : ℕ) (log0 log : State) (m : Memory) (all : List Fp) (n : ℕ) (old out out' : List ℕ) (fp : Fp) (at : Option Place)
    → log0.area ≡ Shares → slice_get all n ≡ Some fp → Contains all fp → IsPlaceOf m fp at
    → OnlyRead a b number before mid → ReadsLog log0 log (a number) (b number)
    → IsHeldSoFar (a number) log0 m all n old out → StepHolds (b number) log at fp (λ blob. out' ≡ out ++ share_bytes blob.blob)
    → IsHeldSoFar (a number) log0 m all (n + 1) old out'
held_more a b number before mid log0 log m all n old out out' fp at area get among place only log_is held step t agreed told shape cloud list user k own =
    let kept = log_is.agrees t agreed in
    let h = held_by_step a b number before mid log0 log m all n fp at (λ s. out' ≡ out ++ share_bytes s) only log_is area among place (λ is_told. step is_told kept) told shape cloud list user k own in
    let strings = strings_for list (take n all) in
    one_behind old out out' strings h.0 (held t agreed told shape cloud list user k own) h.2
    ∙ ap (λ s. old ++ flat_map share_bytes (strings ++ s ∷ [])) (sym (ap (λ (o : Option (List ℕ)). unwrap_or o []) h.1))
    ∙ ap (λ l. old ++ flat_map share_bytes l) (sym (map_push (λ (f : Fp). unwrap_or (held_string list f) []) (take n all) fp) ∙ ap (strings_for list) (sym (one_more all n fp get)))

pub more : (a b c : ℕ → Cloud) (number before mid now : ℕ) (log0 log log' : State) (m : Memory) (all : List Fp) (n : ℕ) (old out out' : List ℕ) (fp : Fp) (at : Option Place)
    → log0.area ≡ Shares → slice_get all n ≡ Some fp → Contains all fp → IsPlaceOf m fp at
    → Along a b number before mid log0 log m all n old out
    → HasReadCloud b c number mid now ok_answer → ReadsLog log log' (b number) (c number) → SentOne fp out out'
    → StepHolds (b number) log at fp (λ blob. out' ≡ out ++ share_bytes blob.blob)
    → Along a c number before now log0 log' m all (n + 1) old out'
more a b c number before mid now log0 log log' m all n old out out' fp at area get among place along read log_same one step = record {
  only = only_then a b c number before mid now along.only (ok_read b c number mid now read);
  log_is = log_twice log0 log log' (a number) (b number) (c number) along.only.call.told along.log_is log_same;
  sent = subst (λ l. HasSentShares l old out') (sym (one_more all n fp get)) (sent_more (take n all) fp old out out' along.sent one);
  held = held_more a b number before mid log0 log m all n old out out' fp at area get among place along.only along.log_is along.held step;
  few = few_more old out out' fp n along.few one;
}

-- ---- the exits

pub rotten_exit : (a b : ℕ → Cloud) (number before mid : ℕ) (log0 log : State) (m : Memory) (all : List Fp) (fp : Fp) (at : Option Place) (r : Answer)
    → log0.area ≡ Shares → OnlyRead a b number before mid → ReadsLog log0 log (a number) (b number) → Contains all fp → at ≡ get m.places fp.0
    → IfRotten r (λ named found. named ≡ fp)
    → (IsTrue (b number).told → (p : Place) → at ≡ Some p → 1 ≤ p.len → p.len ≤ 8208 → IfRotten r (λ named found. IsOther ((b number).now log.area).read p.at p.len named found))
    → (at ≡ None → IfRotten r (λ named found. found ≡ fingerprint []))
    → ((p : Place) → at ≡ Some p → (p.len < 1) ⊎ (8208 < p.len) → IfRotten r (λ named found. found ≡ fingerprint []))
    → IfRotten r (λ named found. Contains all named × IsFoundShare (a number) m named found)
rotten_exit a b number before mid log0 log m all fp at (Ok x) area only log_is among place named found none unfit = tt
rotten_exit a b number before mid log0 log m all fp at (Err stops.Failed) area only log_is among place named found none unfit = tt
rotten_exit a b number before mid log0 log m all fp at (Err (stops.Rotten n f)) area only log_is among place named found none unfit =
    let here : at ≡ get m.places n.0 = place ∙ ap (λ (x : Fp). get m.places x.0) (sym named) in (
      subst (Contains all) (sym named) among,
      record {
        lies = λ told p e some few.
            subst (λ (l : List ℕ). IsOther l p.at p.len n f) (same_area a b number before mid log0 log only log_is area)
            (found (subst IsTrue (sym only.call.told) told) p (here ∙ e) some few);
        none = λ e. none (here ∙ e);
        unfit = λ p e out. unfit p (here ∙ e) out;
      },
    )

pub whole_exit : (a b : ℕ → Cloud) (number before mid : ℕ) (log0 log : State) (m : Memory) (all : List Fp) (n : ℕ) (fp : Fp) (at : Option Place) (r : Answer)
    → log0.area ≡ Shares → OnlyRead a b number before mid → ReadsLog log0 log (a number) (b number) → Contains all fp → IsPlaceOf m fp at
    → AtPlace (b number) log at fp (λ blob. IfRotten r (λ named found. ⊥))
    → WhenHeld (a number) m all (λ list. IfRotten r (λ named found. ⊥))
whole_exit a b number before mid log0 log m all n fp at r area only log_is among place step told shape cloud list user k own =
    (held_by_step a b number before mid log0 log m all n fp at (λ s. IfRotten r (λ named found. ⊥)) only log_is area among place step told shape cloud list user k own).2

-- ---- the reply

pub among_at : (xs : List Fp) (i : ℕ) (x : Fp) → slice_get xs i ≡ Some x → Contains xs x
among_at xs i x e = subst (Contains xs) (get_or_from_slice_get xs i x x e) (Contains-get_or xs i x (slice_get_within xs i x e))

pub shares_spelled : (strings : List (List ℕ)) (head out : List ℕ) (n : ℕ) → out ≡ head ++ flat_map share_bytes strings → head ≡ 137 ∷ to_be_bytes w16 n → n ≡ length strings
    → out ≡ reply_bytes (replies.Shares strings)
shares_spelled strings head out n out_is head_is n_is =
    out_is ∙ ap (λ (h : List ℕ). h ++ flat_map share_bytes strings) (head_is ∙ ap (λ (k : ℕ). 137 ∷ to_be_bytes w16 k) n_is)

pub shares_kind : (fps : List Fp) (head out : List ℕ) (n : ℕ) → HasSentShares fps head out → head ≡ 137 ∷ to_be_bytes w16 n → n ≡ length fps → IsBatch fps → SentAll fps out
shares_kind fps head out n sent head_is n_is batch =
    let same : length sent.shares ≡ length fps = sym (length-map sent.shares fingerprint) ∙ ap length sent.named in
    let some : 1 ≤ length fps = batch.0 in
    let few : length fps ≤ 256 = batch.1 in
    record {
      shares = sent.shares;
      is = record { fits = ((omega arith, omega arith), sent.ranges); spelled = shares_spelled sent.shares head out n sent.bytes head_is (n_is ∙ sym same) };
      named = sent.named;
    }

pub held_spelled : (list : List Command) (fps : List Fp) (head out : List ℕ) (n : ℕ) → out ≡ head ++ flat_map share_bytes (strings_for list fps) → head ≡ 137 ∷ to_be_bytes w16 n → n ≡ length fps
    → out ≡ reply_bytes (replies.Shares (strings_for list fps))
held_spelled list fps head out n out_is head_is n_is =
    shares_spelled (strings_for list fps) head out n out_is head_is (n_is ∙ sym (length-map fps (λ (fp : Fp). unwrap_or (held_string list fp) [])))

-- all that was sent, once each was
pub held_whole : (list : List Command) (fps : List Fp) (n : ℕ) (old out : List ℕ) → length fps ≤ n → out ≡ old ++ flat_map share_bytes (strings_for list (take n fps))
    → out ≡ old ++ flat_map share_bytes (strings_for list fps)
held_whole list fps n old out past sent = sent ∙ ap (λ (l : List Fp). old ++ flat_map share_bytes (strings_for list l)) (take_all n fps past)

-- where nothing is lacking all are owned
pub all_owned : (own fps : List Fp) → None ≡ first_lacking own fps → All (Contains own) fps
all_owned own fps e = subst (FindsLacking own fps) (sym e) (finds own fps)
