-- Each record of a chain that says a list is taken, and the memory that is left is the list's.
use Rattle.std.proofs.Common.{◌≡◌, ◌⊎◌, inl, inr, ℕ, ◌+◌, ◌-◌, ◌*◌, ◌≤◌, Bool, List, [], ◌∷◌, ◌++◌, length, map, take, drop, nat_lt, Result, Ok, Err, refl, sym, ◌∙◌, ap, subst, arith, append_assoc, append-nil, length-append}
use Rattle.std.specs.Prelude.{All}
use Rattle.std.proofs.Math.Seq.{take-append-add}
use Rattle.std.proofs.lemmas.Bool.{ne_eqb}
use Rattle.std.proofs.lemmas.List.{drop_at}
use Rattle.std.proofs.lemmas.List.Elements.{All-head, All-tail}
use Rattle.cloud_disk.specs.CdEdges.area.Area.TheVariants.{Journal, Recipes}
use Rattle.cloud_disk.specs.CdEdges.Disk.{Image}
use Rattle.cloud_disk.specs.JournalHalves.Records.{sized, chain, IsJournal}
use Rattle.cloud_disk.specs.JournalHalves.Frames.{IsClosed, IsRecordAhead}
use Rattle.cloud_disk.proofs.JournalHalves.Headed.{one_record}
use Rattle.cloud_disk.proofs.JournalHalves.Unique.{undamaged, whole_record}
use Rattle.cloud_disk.specs.JournalStart.start.Header.{Header}
use Rattle.cloud_disk.specs.JournalStart.start.Start.{Start}
use Rattle.cloud_disk.specs.JournalStart.Spelling.{start_bytes, records_of, commands_of}
use Rattle.cloud_disk.specs.JournalHalves.Halves.{half_len, half_of, half_limit}
use Rattle.cloud_disk.specs.JournalHalves.Findings.{part_of}
use Rattle.cloud_disk.specs.CommitJournal.errors.OpenErr.{OpenErr}
use Rattle.cloud_disk.specs.RecordBody.Spelling.{Body, body_bytes, FitsBody}
use Rattle.cloud_disk.specs.UserDedup.command.Command.{Command}
use Rattle.cloud_disk.specs.CloudAreas.Standing.{Chain, region_in, IsChain, Holds}
use Rattle.cloud_disk.proofs.CloudAreas.Room.{half_is_enough}
use Rattle.record_laws.specs.RecordChecks.CloudMemory.Memory.{Memory}
use Rattle.record_laws.specs.RecordChecks.damage.Damage.{Damage}
use Rattle.record_laws.specs.RecordChecks.ground.Ground.{Ground}
use Rattle.record_laws.specs.RecordChecks.taking.Taking.{Taking}
use Rattle.record_laws.specs.RecordChecks.Judging.{Judges}
use Rattle.record_laws.specs.RecordChecks.Noting.{nothing_noted, IsNoted}
use Rattle.record_laws.proofs.RecordChecks.OneAnswer.{one_answer}
use Rattle.record_laws.specs.Leaving.{MayHold, front_left, IsLeftIn, EndsWithinRows}
use Rattle.record_laws.proofs.Chain.{all_left, left_bounds}
use Rattle.record_laws.specs.Fronts.{is_inside, marks_of, IsNextRecord, PassesWith}
use Rattle.cloud_opening.specs.Exact.{ground_of, number_behind, ReadsFor, Recipe, Nothing, Closes, Within, SharesPast, RecipesPast, shares_bound, recipes_bound, Replays, Ended, Early, Taken, Refused, Broken, ReplaysAll}
use Rattle.cloud_opening.proofs.Stated.{Laws}
use Rattle.cloud_opening.proofs.Opened.{not_open, not_broken}

-- ---- what stands at a gate decides how the records go on

-- a record was taken, and the rest follows
pub record Further (g : Ground) (half : ℕ) (start : Start) (recipes : List ℕ) (new : Memory) (rest body : List ℕ) (gate records : ℕ) (old : Memory) (t : Taking) (answer : Result ℕ OpenErr) : Type 0 where
  pub read : List ℕ
  pub mid : Memory
  pub after : Taking
  pub reads_for : ReadsFor g (nat_lt records (records_of start.checkpoint)) old body recipes read
  pub judged : Judges g (nat_lt records (records_of start.checkpoint)) read t.spent old (gate + 5) body (Ok mid)
  pub noted : IsNoted (gate + 5) body old t after
  pub replays : Replays g half start recipes new (drop (5 + length body) rest) (gate + 5 + length body) (records + 1) mid after answer

-- or it was refused
pub record IsStopped (g : Ground) (start : Start) (recipes body : List ℕ) (gate records : ℕ) (old : Memory) (t : Taking) : Type 0 where
  pub read : List ℕ
  pub damage : Damage
  pub reads_for : ReadsFor g (nat_lt records (records_of start.checkpoint)) old body recipes read
  pub judged : Judges g (nat_lt records (records_of start.checkpoint)) read t.spent old (gate + 5) body (Err damage)

-- the last check decides
pub record IsLast (g : Ground) (start : Start) (new old : Memory) (t : Taking) (records : ℕ) (answer : Result ℕ OpenErr) : Type 0 where
  pub memory_is : new ≡ old
  pub closes : Closes g old t (number_behind start records) answer

module _ (g : Ground) (half : ℕ) (start : Start) (recipes : List ℕ) (new : Memory) where
  by_record : (rest body : List ℕ) (gate records : ℕ) (old : Memory) (t : Taking) (answer : Result ℕ OpenErr) → IsRecordAhead rest body → Replays g half start recipes new rest gate records old t answer
      → Further g half start recipes new rest body gate records old t answer ⊎ IsStopped g start recipes body gate records old t
  by_record rest body gate records old t answer r (Ended l k n u a c full closes) = absurd (not_open rest body c r)
  by_record rest body gate records old t answer r (Early l k n o u c few) = absurd (not_open rest body c r)
  by_record rest body gate records old t answer r (Taken l body2 read k n o mid u v a is reads j noted more) =
      inl (subst (λ (x : List ℕ). Further g half start recipes new rest x gate records old t answer) (one_record rest body2 body is r)
      (record { read = read; mid = mid; after = v; reads_for = reads; judged = j; noted = noted; replays = more }))
  by_record rest body gate records old t answer r (Refused l body2 read k n o u d is reads j) =
      inr (subst (λ (x : List ℕ). IsStopped g start recipes x gate records old t) (one_record rest body2 body is r)
      (record { read = read; damage = d; reads_for = reads; judged = j }))
  by_record rest body gate records old t answer r (Broken l k n at byte o u damage) = absurd (undamaged rest body gate at byte r damage)

  by_end : (rest : List ℕ) (gate records : ℕ) (old : Memory) (t : Taking) (answer : Result ℕ OpenErr) → IsClosed rest → records_of start.checkpoint ≤ records
      → Replays g half start recipes new rest gate records old t answer → IsLast g start new old t records answer
  by_end rest gate records old t answer c full (Ended l k n u a c2 full2 closes) = record { memory_is = refl; closes = closes }
  by_end rest gate records old t answer c full (Early l k n o u c2 few) = absurd (omega (arith, full, few))
  by_end rest gate records old t answer c full (Taken l body read k n o mid u v a is reads j noted more) = absurd (not_open rest body c is)
  by_end rest gate records old t answer c full (Refused l body read k n o u d is reads j) = absurd (not_open rest body c is)
  by_end rest gate records old t answer c full (Broken l k n at byte o u damage) = absurd (not_broken rest gate at byte c damage)

closes_within : (g : Ground) (m : Memory) (t : Taking) (number : ℕ) (answer : Result ℕ OpenErr) → m.shares_end ≤ shares_bound g m → m.recipes_end ≤ recipes_bound g m → Closes g m t number answer → answer ≡ Ok number
closes_within g m t number answer s r (Within s2 r2) = refl
closes_within g m t number answer s r (SharesPast field past noted) = absurd (omega (arith, s, past))
closes_within g m t number answer s r (RecipesPast field fit past noted) = absurd (omega (arith, r, past))

-- ---- records by their bytes

-- the rest behind the first record
pub rest_after : (b : List ℕ) (bodies : List (List ℕ)) (rest : List ℕ) → IsJournal (b ∷ bodies) rest → IsJournal bodies (drop (5 + length b) rest)
rest_after b bodies rest j =
    let front = 1 ∷ sized b in let behind = chain bodies ++ j.gate ∷ j.behind in
    let long : 5 + length b ≡ length front = omega (arith) in
    let whole : rest ≡ front ++ behind = j.spelled ∙ append_assoc front (chain bodies) (j.gate ∷ j.behind) in
    record {
      gate = j.gate;
      behind = j.behind;
      sizes = j.sizes.1;
      shut = j.shut;
      spelled = ap (λ (l : List ℕ). drop (5 + length b) l) whole ∙ ap (λ (n : ℕ). drop n (front ++ behind)) long ∙ drop_at front behind (length front) refl;
    }

pub record_first : (b : List ℕ) (bodies : List (List ℕ)) (rest : List ℕ) → IsJournal (b ∷ bodies) rest → IsRecordAhead rest b
record_first b bodies rest j = whole_record b bodies j.gate j.behind rest j.sizes.0 j.spelled

pub closed_end : (rest : List ℕ) → IsJournal [] rest → IsClosed rest
closed_end rest j = record { gate = j.gate; behind = j.behind; shut = j.shut; spelled = j.spelled }

-- a chain within its half
pub part_journal : (bodies : List (List ℕ)) (half : ℕ) (journal : List ℕ) → IsJournal bodies (half_of half journal) → length (chain bodies) + 1 ≤ half_len → IsJournal bodies (part_of half journal)
part_journal bodies half journal j within =
    let front = chain bodies ++ j.gate ∷ [] in
    let long : length front ≡ length (chain bodies) + 1 = omega (arith, length-append (chain bodies) (j.gate ∷ [])) in
    let m = half_len - length front in
    let sum : half_len ≡ length front + m = omega (arith, long, within) in
    let whole : half_of half journal ≡ front ++ j.behind = j.spelled ∙ sym (append_assoc (chain bodies) (j.gate ∷ []) j.behind) in
    record {
      gate = j.gate;
      behind = take m j.behind;
      sizes = j.sizes;
      shut = j.shut;
      spelled = ap (take half_len) whole ∙ ap (λ (n : ℕ). take n (front ++ j.behind)) sum ∙ take-append-add front j.behind m ∙ append_assoc (chain bodies) (j.gate ∷ []) (take m j.behind);
    }

-- ---- a chain that says a list

-- the answer is the number of its commands, and the memory is what its records leave
pub record IsAll (header : Header) (image : Image) (c : Chain) (new : Memory) (answer : Result ℕ OpenErr) : Type 0 where
  pub answer_is : answer ≡ Ok (number_behind c.start (length c.records))
  pub memory_is : new ≡ front_left header image c c.records

never_both : (m : Memory) (d : Damage) (x y : Result Memory Damage) → x ≡ Ok m → y ≡ Err d → x ≡ y → ⊥
never_both m d x y a b e = let never : Ok m ≡ Err d = sym a ∙ e ∙ b in cc

same_memory : (m n : Memory) (x y : Result Memory Damage) → x ≡ Ok m → y ≡ Ok n → x ≡ y → m ≡ n
same_memory m n x y a b e = let same : Ok m ≡ Ok n = sym a ∙ e ∙ b in cc

module _ (laws : Laws) (header : Header) (image : Image) (list : List Command) (c : Chain) (may : MayHold header list) (holds : Holds header image list c) where
  abbrev ground : Ground
  ground = ground_of header c.start image

  -- with what is read for it a record passes
  passes : (before : List Body) (body : Body) (read : List ℕ) → IsNextRecord header image list c before body → FitsBody body
      → ReadsFor ground (is_inside c before) (front_left header image c before) (body_bytes body) (image Recipes) read → PassesWith header image c before body read
  passes before body read next fits (Recipe place asks) = laws.there header image list c before body place next fits asks
  passes before body read next fits (Nothing none) = laws.nowhere header image list c before body next fits none

  pub all_is_left : IsLeftIn header image (region_in c) list c.records (front_left header image c c.records)
  all_is_left =
      all_left header.format header.shape header.cloud.0 header.rooms (region_in c) (records_of c.start.checkpoint) (commands_of c.start.checkpoint) (image Recipes)
      (ne_eqb header.format 1 may.format) may.rooms c.records list c.recipes holds.says may.sound may.within holds.long holds.recipes

  lawful : (after before : List Body) → c.records ≡ before ++ after → All FitsBody after → (rest : List ℕ) (gate : ℕ) (t : Taking) (new : Memory) (answer : Result ℕ OpenErr) → t.spent ≡ marks_of before
      → IsJournal (map body_bytes after) rest → Replays ground c.half c.start (image Recipes) new rest gate (length before) (front_left header image c before) t answer → IsAll header image c new answer
  lawful [] before whole fits rest gate t new answer marks journal replays =
      let all : c.records ≡ before = whole ∙ append-nil before in
      let full : records_of c.start.checkpoint ≤ length before = omega (arith, laws.whole header image list c holds, ap (λ (l : List Body). length l) all) in
      let last = by_end ground c.half c.start (image Recipes) new rest gate (length before) (front_left header image c before) t answer (closed_end rest journal) full replays in
      let bounds : EndsWithinRows (region_in c) (front_left header image c before) =
      subst (λ (l : List Body). EndsWithinRows (region_in c) (front_left header image c l)) all (left_bounds header image list c may.within holds (front_left header image c c.records) all_is_left) in
      record {
        answer_is = closes_within ground (front_left header image c before) t (number_behind c.start (length before)) answer bounds.shares bounds.recipes last.closes
            ∙ ap (λ (l : List Body). Ok (number_behind c.start (length l))) (sym all);
        memory_is = last.memory_is ∙ ap (front_left header image c) (sym all);
      }
  lawful (body ∷ after) before whole fits rest gate t new answer marks journal replays =
      let next : IsNextRecord header image list c before body = record { may = may; holds = holds; after = after; whole = whole } in
      let fit = All-head FitsBody body after fits in
      let inside = is_inside c before in let old = front_left header image c before in let left = front_left header image c (before ++ body ∷ []) in
      elim (by_record ground c.half c.start (image Recipes) new rest (body_bytes body) gate (length before) old t answer (record_first (body_bytes body) (map body_bytes after) rest journal) replays) [
        | inl f ↦
            let pass = subst (λ (l : List Bool). Judges ground inside f.read l old (gate + 5) (body_bytes body) (Ok left)) (sym marks) (passes before body f.read next fit f.reads_for (gate + 5)) in
            let mid : f.mid ≡ left = same_memory f.mid left (Ok f.mid) (Ok left) refl refl (one_answer ground inside f.read t.spent old (gate + 5) (body_bytes body) (Ok f.mid) (Ok left) f.judged pass) in
            let more : length before + 1 ≡ length (before ++ body ∷ []) = omega (arith, length-append before (body ∷ [])) in
            lawful after (before ++ body ∷ []) (whole ∙ sym (append_assoc before (body ∷ []) after)) (All-tail FitsBody body after fits)
            (drop (5 + length (body_bytes body)) rest) (gate + 5 + length (body_bytes body)) f.after new answer
            (laws.marked (gate + 5) old t f.after before body fit marks f.noted)
            (rest_after (body_bytes body) (map body_bytes after) rest journal)
            (subst (λ (n : ℕ). Replays ground c.half c.start (image Recipes) new (drop (5 + length (body_bytes body)) rest) (gate + 5 + length (body_bytes body)) n left f.after answer) more
            (subst (λ (m : Memory). Replays ground c.half c.start (image Recipes) new (drop (5 + length (body_bytes body)) rest) (gate + 5 + length (body_bytes body)) (length before + 1) m f.after answer) mid f.replays))
        | inr s ↦
            let pass = subst (λ (l : List Bool). Judges ground inside s.read l old (gate + 5) (body_bytes body) (Ok left)) (sym marks) (passes before body s.read next fit s.reads_for (gate + 5)) in
            absurd (never_both left s.damage (Ok left) (Err s.damage) refl refl (one_answer ground inside s.read t.spent old (gate + 5) (body_bytes body) (Ok left) (Err s.damage) pass s.judged))
      ]

  -- all records of a chain
  pub all_lawful : (new : Memory) (answer : Result ℕ OpenErr) → IsChain header (half_limit header.rooms) (image Journal) c → ReplaysAll header c.half c.start image new answer → IsAll header image c new answer
  all_lawful new answer is replays =
      let body = start_bytes c.start in let bodies = map body_bytes c.records in let journal = image Journal in
      let short : length (chain (body ∷ bodies)) + 1 ≤ half_len = omega (arith, is.within, half_is_enough header.rooms may.rooms) in
      let part = part_journal (body ∷ bodies) c.half journal is.there.chain_is short in
      let behind = rest_after body bodies (part_of c.half journal) part in
      let place : 5 + length body ≡ length body + 5 = omega arith in
      lawful c.records [] refl is.fit (drop (length body + 5) (part_of c.half journal)) (c.half * half_len + (length body + 5)) nothing_noted new answer refl
      (subst (λ (n : ℕ). IsJournal bodies (drop n (part_of c.half journal))) place behind)
      (subst (λ (m : Memory). Replays ground c.half c.start (image Recipes) new (drop (length body + 5) (part_of c.half journal)) (c.half * half_len + (length body + 5)) 0 m nothing_noted answer) (sym (laws.begun_is header image c)) replays)
