-- A kept spool is found: no other answer comes of it.
use Rattle.std.proofs.Common.{◌≡◌, ◌≢◌, inl, inr, ℕ, ◌+◌, ◌-◌, ◌<◌, ◌≤◌, ◌^◌, true, false, eqb, Option, Some, None, Result, Ok, Err, List, [], ◌∷◌, ◌++◌, length, map, take, drop, refl, sym, ap, ◌∙◌, subst, arith, append_assoc, append-nil, length-append}
use Rattle.std.specs.Prelude.{◌⊎◌, All, min}
use Rattle.std.proofs.Math.Seq.{take-append-add}
use Rattle.std.specs.List.{IsDistinct, list_any, AllByRecursion}
use Rattle.std.specs.Int.{w32, from_be_bytes}
use Rattle.std.proofs.lemmas.Bool.{false≢true, lt-ltb}
use Rattle.std.proofs.lemmas.List.{take_at, drop_at, length-take}
use Rattle.std.proofs.lemmas.List.Elements.{All-head, All-tail}
use Rattle.std.proofs.lemmas.Nat.{from_be_bytes-to_be_bytes_4}
use Rattle.sha2.specs.Sha256.{sha256 as sha256_of}
use Rattle.grammar.specs.CdBase.Numbers.{numbers_of}
use Rattle.grammar.specs.CdBase.ids.CloudNo.{CloudNo}
use Rattle.grammar.specs.CdBase.ids.Fp.{Fp}
use Rattle.grammar.specs.CdBase.shape.Shape.{Shape}
use Rattle.commit_journal.specs.CdEdges.area.Area.TheVariants.{Journal}
use Rattle.commit_journal.specs.CdEdges.Disk.{Image}
use Rattle.commit_journal.specs.JournalHalves.Records.{IsDamage, LastGate, BadLength, AreBodies, IsJournal, chain, sized}
use Rattle.commit_journal.proofs.JournalHalves.Headed.{one_record}
use Rattle.commit_journal.proofs.JournalHalves.Unique.{undamaged, whole_record, head_of, tail_of}
use Rattle.commit_journal.specs.JournalStart.fault.StartFault.{StartFault}
use Rattle.commit_journal.specs.JournalStart.start.Start.{Start}
use Rattle.commit_journal.specs.JournalStart.Reading.{Fields, start_at, fields_of}
use Rattle.commit_journal.specs.JournalStart.Spelling.{start_bytes, records_of}
use Rattle.commit_journal.proofs.JournalStart.Whole.{again}
use Rattle.commit_journal.specs.JournalHalves.Beginnings.{IsUnbegun}
use Rattle.commit_journal.specs.JournalHalves.Findings.{part_of, IsStartDamage, IsFoundDamage, InFirst, InSecond, Epochs}
use Rattle.commit_journal.specs.JournalHalves.Halves.{half_len, half_of, is_half_begun, HasStart, IsCurrent}
use Rattle.commit_journal.specs.JournalHalves.Journals.{Where, all_bodies, with_body}
use Rattle.commit_journal.proofs.JournalHalves.Current.{begun_half, one_chain, one_current}
use Rattle.commit_journal.proofs.Kept.{record_off}
use Rattle.upload_job.specs.Lanes.{LaneView, lanes_resumed}
use Rattle.upload_job.specs.Upload.{FileVersion}
use Rattle.upload_spool.specs.Opens.{Notes, Say, HasReadSpool, HasAllNotes, IsChainDamage, IsWrongNext, IsDamagedAt, OpensSpoolIs, FindsAgain, gate_of, rest_behind, with_record, kept_file, version_in, rising, first_notes, more_notes}
use Rattle.upload_spool.specs.Reading.{JobFields, fields_for, is_lane}
use Rattle.upload_spool.specs.Spools.{AreJobLanes, FitsFileVersion, SpoolFor, spool_chain, spool_start, lane_bytes, job_bytes}
use Rattle.upload_spool.specs.States.{SpoolState, IsOf}
use Rattle.upload_spool.specs.declared.error.SpoolErr.{SpoolErr}
use Rattle.upload_spool.specs.declared.error.SpoolErr.TheVariants as errors
use Rattle.upload_spool.specs.declared.records.RecordFault.{RecordFault}
use Rattle.upload_spool.proofs.Begins.{current_begun}
use Rattle.upload_spool.proofs.Chains.{one_more}
use Rattle.upload_spool.proofs.Opened.{all_said, good, same_good}
use Rattle.upload_spool.proofs.Readings.{job_read, lane_read}

-- ---- what its records say

apart_from : (number : ℕ) (noted : List CloudNo) (lane : CloudNo) (more : List CloudNo) → AllByRecursion (λ other. eqb number other ≡ false) (numbers_of (noted ++ lane ∷ more)) → eqb number lane.0 ≡ false
apart_from number [] lane more all = all.0
apart_from number (first ∷ noted) lane more all = apart_from number noted lane more all.1

not_noted : (noted : List CloudNo) (lane : CloudNo) (more : List CloudNo) → IsDistinct eqb (numbers_of (noted ++ lane ∷ more)) → list_any (λ (other : CloudNo). eqb other.0 lane.0) noted ≡ false
unfolding IsDistinct
not_noted [] lane more distinct = refl
not_noted (first ∷ noted) lane more distinct = rw (apart_from first.0 noted lane more distinct.0) (not_noted noted lane more distinct.1)

lane_below : (n : ℕ) (noted : List CloudNo) (lane : CloudNo) (more : List CloudNo) → All (λ cloud. cloud < n) (numbers_of (noted ++ lane ∷ more)) → lane.0 < n
lane_below n [] lane more all = All-head (λ cloud. cloud < n) lane.0 (numbers_of more) all
lane_below n (first ∷ noted) lane more all = lane_below n noted lane more (All-tail (λ cloud. cloud < n) first.0 (numbers_of (noted ++ lane ∷ more)) all)

new_lane : (shape : Shape) (noted : List CloudNo) (lane : CloudNo) (more : List CloudNo) → AreJobLanes shape (noted ++ lane ∷ more) → is_lane shape noted lane.0 ≡ true
new_lane shape noted lane more are = rw (lt-ltb lane.0 shape.n (lane_below shape.n noted lane more are.below), not_noted noted lane more are.distinct) refl

lanes_say : (shape : Shape) (job : JobFields) (noted lanes : List CloudNo) → AreJobLanes shape (noted ++ lanes) → Say shape (Some (record { job = job; lanes = noted })) (map lane_bytes lanes) (Some (record { job = job; lanes = noted ++ lanes }))
lanes_say shape job noted [] are = ap (λ (l : List CloudNo). Some (record { job = job; lanes = l })) (sym (append-nil noted))
lanes_say shape job noted (lane ∷ lanes) are =
    let longer : List CloudNo = noted ++ lane ∷ [] in
    let same : longer ++ lanes ≡ noted ++ lane ∷ lanes = append_assoc noted (lane ∷ []) lanes in
    let first : Notes = record { job = job; lanes = noted } in (
      record { job = job; lanes = longer },
      ap (more_notes first) (lane_read shape noted lane (new_lane shape noted lane lanes are)),
      subst (λ (l : List CloudNo). Say shape (Some (record { job = job; lanes = longer })) (map lane_bytes lanes) (Some (record { job = job; lanes = l }))) same
          (lanes_say shape job longer lanes (subst (AreJobLanes shape) (sym same) are)),
    )

abbrev notes_for : FileVersion → List CloudNo → Notes
notes_for v lanes = record { job = fields_for v; lanes = lanes }

abbrev bodies_for : FileVersion → List CloudNo → List (List ℕ)
bodies_for v lanes = job_bytes v ∷ map lane_bytes lanes

spool_says : (shape : Shape) (v : FileVersion) (lanes : List CloudNo) → FitsFileVersion v → AreJobLanes shape lanes → Say shape None (bodies_for v lanes) (Some (notes_for v lanes))
spool_says shape v lanes fits are = (notes_for v [], ap first_notes (job_read v fits), lanes_say shape (fields_for v) [] lanes are)

-- what records say of a front, and of the others behind it
say_parts : (shape : Shape) (front back : List (List ℕ)) (before last : Option Notes) → Say shape before (front ++ back) last → (mid : Option Notes) × Say shape before front mid × Say shape mid back last
say_parts shape [] back before last say = (before, refl, say)
say_parts shape (body ∷ front) back before last say = let parts = say_parts shape front back (Some say.0) last say.2 in (parts.0, (say.0, say.1, parts.1), parts.2)

good_or_not : (notes : Notes) (fault : RecordFault) → good notes ≡ Err fault → ⊥
good_or_not notes fault e = cc

some_or_none : (notes : Notes) → Some notes ≡ None → ⊥
some_or_none notes e = cc

one_said : (shape : Shape) (bodies : List (List ℕ)) (before one two : Option Notes) → Say shape before bodies one → Say shape before bodies two → one ≡ two
one_said shape [] before one two s t = sym s ∙ t
one_said shape (body ∷ bodies) before one two s t =
    one_said shape bodies (Some s.0) one two s.2 (subst (λ (n : Notes). Say shape (Some n) bodies two) (sym (same_good s.0 t.0 (sym s.1 ∙ t.1))) t.2)

-- no record of a spool is wrong
record_right : (shape : Shape) (v : FileVersion) (lanes : List CloudNo) → FitsFileVersion v → AreJobLanes shape lanes → (front : List (List ℕ)) (body : List ℕ) (more : List (List ℕ)) → front ++ body ∷ more ≡ bodies_for v lanes → (notes : Option Notes)
    → Say shape None front notes → (fault : RecordFault) → with_record shape notes body ≡ Err fault → ⊥
record_right shape v lanes fits are front body more same notes say fault e =
    let all = subst (λ (l : List (List ℕ)). Say shape None l (Some (notes_for v lanes))) (sym same) (spool_says shape v lanes fits are) in
    let parts = say_parts shape front (body ∷ more) None (Some (notes_for v lanes)) all in
    let mid : parts.0 ≡ notes = one_said shape front None parts.0 notes parts.1 say in
    good_or_not parts.2.0 fault (sym parts.2.1 ∙ ap (λ (o : Option Notes). with_record shape o body) mid ∙ e)

-- ---- open records before a chain's end

tail_lists : (x y : List ℕ) (xs ys : List (List ℕ)) → x ∷ xs ≡ y ∷ ys → xs ≡ ys
tail_lists x y xs ys e = cc

both_lists : (a b : List ℕ) (one two : List (List ℕ)) → a ≡ b → one ≡ two → a ∷ one ≡ b ∷ two
both_lists a b one two e f = cc

same_length : (a b one two : List ℕ) → length a < 2 ^ 32 → length b < 2 ^ 32 → sized a ++ one ≡ sized b ++ two → length a ≡ length b
same_length a b one two la lb e = sym (from_be_bytes-to_be_bytes_4 (length a) la) ∙ ap (λ (l : List ℕ). from_be_bytes w32 (take 4 l)) e ∙ from_be_bytes-to_be_bytes_4 (length b) lb

same_body : (a b one two : List ℕ) → length a < 2 ^ 32 → length b < 2 ^ 32 → sized a ++ one ≡ sized b ++ two → a ≡ b
same_body a b one two la lb e =
    sym (take_at a one (length a) refl) ∙ ap (λ (l : List ℕ). take (length a) (drop 4 l)) e ∙ ap (λ (n : ℕ). take n (b ++ two)) (same_length a b one two la lb e) ∙ take_at b two (length b) refl

same_rest : (a b one two : List ℕ) → length a < 2 ^ 32 → length b < 2 ^ 32 → sized a ++ one ≡ sized b ++ two → one ≡ two
same_rest a b one two la lb e =
    sym (drop_at a one (length a) refl) ∙ ap (λ (l : List ℕ). drop (length a) (drop 4 l)) e ∙ ap (λ (n : ℕ). drop n (b ++ two)) (same_length a b one two la lb e) ∙ drop_at b two (length b) refl

-- They are the first of these bodies, and behind them stand the others, with the closed gate.
record IsFront (one two : List (List ℕ)) (rest : List ℕ) (gate : ℕ) (behind : List ℕ) : Type 0 where
  pub more : List (List ℕ)
  pub joined : one ++ more ≡ two
  pub sizes : AreBodies more
  pub rest_is : rest ≡ chain more ++ gate ∷ behind

first_small : (whole body more : ℕ) → whole ≡ 5 + body + more → whole < 2 ^ 32 → body < 2 ^ 32
first_small whole body more is few = omega (arith, is, few)

others_small : (whole body more : ℕ) → whole ≡ 5 + body + more → whole < 2 ^ 32 → more < 2 ^ 32
others_small whole body more is few = omega (arith, is, few)

few_small : (len : ℕ) → len ≤ 65535 → len < 2 ^ 32
few_small len few = omega (arith, few)

front_of : (one two : List (List ℕ)) (rest : List ℕ) (gate : ℕ) (behind : List ℕ) → length (chain one) < 2 ^ 32 → AreBodies two → gate ≢ 1 → chain one ++ rest ≡ chain two ++ gate ∷ behind → IsFront one two rest gate behind
front_of [] two rest gate behind few sizes shut e = record { more = two; joined = refl; sizes = sizes; rest_is = e }
front_of (a ∷ one) [] rest gate behind few sizes shut e = absurd (shut (sym (head_of 1 gate _ behind e)))
front_of (a ∷ one) (b ∷ two) rest gate behind few sizes shut e =
    let tails = tail_of 1 1 (sized a ++ chain one ++ rest) (sized b ++ chain two ++ gate ∷ behind) e in
    let spelled : sized a ++ (chain one ++ rest) ≡ sized b ++ (chain two ++ gate ∷ behind) = sym (append_assoc (sized a) (chain one) rest) ∙ tails ∙ append_assoc (sized b) (chain two) (gate ∷ behind) in
    let la = first_small (length (chain (a ∷ one))) (length a) (length (chain one)) (one_more a one) few in
    let lb = few_small (length b) sizes.0.few in
    let further = front_of one two rest gate behind (others_small (length (chain (a ∷ one))) (length a) (length (chain one)) (one_more a one) few) sizes.1 shut (same_rest a b _ _ la lb spelled) in
    record { more = further.more; joined = both_lists a b (one ++ further.more) two (same_body a b _ _ la lb spelled) further.joined; sizes = further.sizes; rest_is = further.rest_is }

-- where whole records stand, and then a closed gate, nothing is damaged
rest_whole : (more : List (List ℕ)) (gate place at byte : ℕ) (behind rest : List ℕ) → AreBodies more → gate ≢ 1 → rest ≡ chain more ++ gate ∷ behind → IsDamage rest place at byte → ⊥
rest_whole [] gate place at byte behind rest sizes shut e (LastGate is here same) = shut (head_of gate 1 behind [] (sym e ∙ is))
rest_whole [] gate place at byte behind rest sizes shut e (BadLength tail is none here) = shut (head_of gate 1 behind (byte ∷ tail) (sym e ∙ is))
rest_whole (body ∷ more) gate place at byte behind rest sizes shut e damage = undamaged rest body place at byte (whole_record body more gate behind rest sizes.0 e) damage

-- ---- starts

ok_or_not : (fields : Fields) (fault : StartFault) (a b : Result Fields StartFault) → a ≡ Ok fields → b ≡ Err fault → a ≡ b → ⊥
ok_or_not fields fault a b x y e = let never : Ok fields ≡ Err fault = sym x ∙ e ∙ y in cc

-- a half that has a start isn't damaged there
whole_start : (journal : List ℕ) (half at byte : ℕ) (start : Start) → HasStart journal half start → IsStartDamage half (part_of half journal) at byte → ⊥
whole_start journal half at byte start has (inl d) = undamaged (part_of half journal) (start_bytes start) 0 at byte (record_off (half_of half journal) (start_bytes start) has.record_is) d
whole_start journal half at byte start has (inr d) =
    let same = one_record (part_of half journal) (start_bytes start) d.body (record_off (half_of half journal) (start_bytes start) has.record_is) d.record_is in
    ok_or_not (fields_of start) d.fault (start_at half (start_bytes start)) (start_at half d.body) (again half start has.is_start) d.no_start (ap (start_at half) same)

-- nor is half 0 where half 1 isn't begun
alone_whole : (journal : List ℕ) (start : Start) (at byte : ℕ) → HasStart journal 0 start → is_half_begun 1 journal ≡ false → IsFoundDamage journal at byte → ⊥
alone_whole journal start at byte has alone (InFirst begun d) = whole_start journal 0 at byte start has d
alone_whole journal start at byte has alone (InSecond place sound begun d is) = false≢true (sym alone ∙ begun)
alone_whole journal start at byte has alone (Epochs e) = false≢true (sym alone ∙ begun_half journal 1 e.second e.has_second)

-- the current half is the one that is begun
half_alone : (journal : List ℕ) (half : ℕ) (start : Start) → is_half_begun 1 journal ≡ false → IsCurrent journal half start → half ≡ 0
half_alone journal half start alone current = elim current.is_half [
  | inl zero_is ↦ zero_is
  | inr one_is ↦ absurd (false≢true (sym alone ∙ begun_half journal 1 start (subst (λ (h : ℕ). HasStart journal h start) one_is current.begun)))
]

-- a chain within its half
part_journal : (bodies : List (List ℕ)) (half : ℕ) (journal : List ℕ) → IsJournal bodies (half_of half journal) → length (chain bodies) + 1 ≤ half_len → IsJournal bodies (part_of half journal)
part_journal bodies half journal j within =
    let front = chain bodies ++ j.gate ∷ [] in
    let long : length front ≡ length (chain bodies) + 1 = omega (arith, length-append (chain bodies) (j.gate ∷ [])) in
    let m = half_len - length front in
    let sum : half_len ≡ length front + m = omega (arith, long, within) in
    let whole : half_of half journal ≡ front ++ j.behind = j.spelled ∙ sym (append_assoc (chain bodies) (j.gate ∷ []) j.behind) in
    record {
      gate = j.gate;
      behind = take m j.behind;
      sizes = j.sizes;
      shut = j.shut;
      spelled = ap (take half_len) whole ∙ ap (λ (n : ℕ). take n (front ++ j.behind)) sum ∙ take-append-add front j.behind m ∙ append_assoc (chain bodies) (j.gate ∷ []) (take m j.behind);
    }

-- ---- a spool's image

far_within : (used : ℕ) → used + 1 ≤ 65536 → used + 1 ≤ half_len
far_within used within = omega (arith, within)

front_small : (part front rest : ℕ) → part ≡ front + rest → part ≤ half_len → front < 2 ^ 32
front_small part front rest is few = omega (arith, is, few)

shorter_part : (half : ℕ) (journal : List ℕ) → length (part_of half journal) ≤ half_len
shorter_part half journal = at_most (length (part_of half journal)) (length (half_of half journal)) (length-take half_len (half_of half journal))
  where
    at_most : (part all : ℕ) → part ≡ min half_len all → part ≤ half_len
    at_most part all is = omega (arith, is)

module _ (image : Image) (shape : Shape) (v : FileVersion) (lanes : List CloudNo) (fits : FitsFileVersion v) (spool : SpoolFor image shape v lanes) where
  abbrev journal : List ℕ
  journal = image Journal

  abbrev w : Where
  w = spool_chain shape v lanes

  start_here : HasStart journal 0 (spool_start shape)
  start_here = spool.has.current.begun

  none_begun : IsUnbegun journal → ⊥
  none_begun none = current_begun journal 0 (spool_start shape) spool.has.current none

  -- what all records say
  said_all : (notes : Option Notes) → HasAllNotes shape journal notes → Say shape None (bodies_for v lanes) notes
  said_all notes all = subst (λ (x : Where). Say shape None x.bodies notes) (one_chain journal all.w w all.has spool.has) all.say

  not_none : HasAllNotes shape journal None → ⊥
  not_none all = some_or_none (notes_for v lanes) (one_said shape (bodies_for v lanes) None (Some (notes_for v lanes)) None (spool_says shape v lanes fits spool.apart) (said_all None all))

  notes_are : (notes : Notes) → HasAllNotes shape journal (Some notes) → notes ≡ notes_for v lanes
  notes_are notes all = all_said shape v lanes notes fits (said_all (Some notes) all)

  -- open records are the first of the spool's, with the others behind them
  fronts_are : (half : ℕ) (bodies : List (List ℕ)) (rest : List ℕ) → half ≡ 0 → part_of half journal ≡ chain bodies ++ rest → (gate : ℕ) × (behind : List ℕ) × (gate ≢ 1) × IsFront bodies (all_bodies w) rest gate behind
  fronts_are half bodies rest zero_is spelled =
      let whole = part_journal (all_bodies w) 0 journal spool.has.chain_is (far_within (length (chain (all_bodies w))) spool.within) in
      let here : part_of 0 journal ≡ chain bodies ++ rest = subst (λ (h : ℕ). part_of h journal ≡ chain bodies ++ rest) zero_is spelled in
      let few = front_small (length (part_of 0 journal)) (length (chain bodies)) (length rest) (ap length here ∙ length-append (chain bodies) rest) (shorter_part 0 journal) in
      (whole.gate, whole.behind, whole.shut, front_of bodies (all_bodies w) rest whole.gate whole.behind few whole.sizes whole.shut (sym here ∙ whole.spelled))

  no_chain_damage : (x : Where) (notes : Option Notes) (at byte : ℕ) → HasReadSpool shape journal x notes → IsChainDamage journal x at byte → ⊥
  no_chain_damage x notes at byte read (inl damage) =
      let f = fronts_are x.half (all_bodies x) read.rest (half_alone journal x.half x.start spool.alone read.current) read.spelled in
      let rest : rest_behind journal x ≡ read.rest = ap (drop (length (chain (all_bodies x)))) read.spelled ∙ drop_at (chain (all_bodies x)) read.rest (length (chain (all_bodies x))) refl in
      rest_whole f.3.more f.0 (gate_of x) at byte f.1 (rest_behind journal x) f.3.sizes f.2 (rest ∙ f.3.rest_is) damage
  no_chain_damage x notes at byte read (inr early) =
      let same : x.start ≡ spool_start shape = one_current journal x.half 0 x.start (spool_start shape) read.current spool.has.current in
      never (length x.bodies) (records_of x.start.checkpoint) (ap (λ (s : Start). records_of s.checkpoint) same) early.1
    where
      never : (some all : ℕ) → all ≡ 0 → some < all → ⊥
      never some all none less = omega (arith, none, less)

  no_wrong_next : (x : Where) (notes : Option Notes) (at byte : ℕ) → HasReadSpool shape journal x notes → IsWrongNext shape journal x notes at byte → ⊥
  no_wrong_next x notes at byte read wrong =
      let body = wrong.0 in
      let f = fronts_are x.half (all_bodies (with_body x body)) wrong.3 (half_alone journal x.half x.start spool.alone read.current) wrong.4 in
      let joined : (x.bodies ++ body ∷ []) ++ f.3.more ≡ bodies_for v lanes = tail_lists (start_bytes x.start) (start_bytes (spool_start shape)) ((x.bodies ++ body ∷ []) ++ f.3.more) (bodies_for v lanes) f.3.joined in
      record_right shape v lanes fits spool.apart x.bodies body f.3.more (sym (append_assoc x.bodies (body ∷ []) f.3.more) ∙ joined) notes read.say wrong.1 wrong.2

  undamaged_spool : (at byte : ℕ) → IsDamagedAt shape journal at byte → ⊥
  undamaged_spool at byte d = elim d.3 [
    | inl damage ↦ no_chain_damage d.0 d.1 at byte d.2 damage
    | inr wrong ↦ no_wrong_next d.0 d.1 at byte d.2 wrong
  ]

  file_is : (notes : Notes) → HasAllNotes shape journal (Some notes) → kept_file image notes ≡ v.file
  file_is notes all = ap (λ (n : Notes). kept_file image n) (notes_are notes all) ∙ spool.file

  version_is : (notes : Notes) → HasAllNotes shape journal (Some notes) → version_in image notes ≡ v
  version_is notes all = λ i. record {
    user = record { 0 = (notes_are notes all i).job.user };
    path = (notes_are notes all i).job.path;
    number = record { 0 = (notes_are notes all i).job.number };
    file = file_is notes all i;
  }

  same_print : (a b : Fp) → a.0 ≡ b.0 → a ≡ b
  same_print a b e = λ i. record { 0 = e i }

  not_rotten : (notes : Notes) (named found : Fp) → HasAllNotes shape journal (Some notes) → named.0 ≡ notes.job.digest → found.0 ≡ sha256_of (kept_file image notes) → (length (kept_file image notes) ≢ notes.job.len) ⊎ (found ≢ named) → ⊥
  not_rotten notes named found all named_is found_is (inl other) = other (ap (λ (l : List ℕ). length l) (file_is notes all) ∙ ap (λ (n : Notes). n.job.len) (sym (notes_are notes all)))
  not_rotten notes named found all named_is found_is (inr other) =
      other (same_print found named (found_is ∙ ap sha256_of (file_is notes all) ∙ ap (λ (n : Notes). n.job.digest) (sym (notes_are notes all)) ∙ sym named_is))

  pub found_here : (answer : Result (Option (SpoolState × List LaneView)) SpoolErr) → OpensSpoolIs shape image answer → FindsAgain shape v lanes answer
  found_here (Ok None) (inl none) = none_begun none
  found_here (Ok None) (inr all) = not_none all
  found_here (Ok (Some x)) is =
      let notes = is.0 in let all = is.1 in
      let noted : notes.lanes ≡ lanes = ap (λ (n : Notes). n.lanes) (notes_are notes all) in (
        is.4,
        is.5 ∙ noted,
        subst (IsOf x.0) (version_is notes all) is.6,
        is.7 ∙ (λ i. lanes_resumed shape (version_is notes all i) (rising shape (noted i))),
      )
  found_here (Err errors.Fault) is = tt
  found_here (Err errors.NoMemory) is = tt
  found_here (Err (errors.NotEmpty area len)) is = is
  found_here (Err (errors.Damaged at byte)) (inl damage) = alone_whole journal (spool_start shape) at byte start_here spool.alone damage
  found_here (Err (errors.Damaged at byte)) (inr damage) = undamaged_spool at byte damage
  found_here (Err (errors.OtherStore found asked)) is =
      is.2 (sym is.1.header_is ∙ ap (λ (s : Start). s.header) (one_current journal is.0 0 is.1.start (spool_start shape) is.1.is_current spool.has.current))
  found_here (Err (errors.Rotten named found)) is = not_rotten is.0 named found is.1 is.2 is.3 is.4

pub found_again : (image : Image) (shape : Shape) (v : FileVersion) (lanes : List CloudNo) → FitsFileVersion v → SpoolFor image shape v lanes → (answer : Result (Option (SpoolState × List LaneView)) SpoolErr) → OpensSpoolIs shape image answer
    → FindsAgain shape v lanes answer
found_again image shape v lanes fits spool = found_here image shape v lanes fits spool
