-- Each record of a chain of format 1 that lays a list is taken, and the memory that is left is what they leave.
use Rattle.std.proofs.Common.{◌≡◌, ◌⊎◌, inl, inr, ℕ, ◌+◌, ◌-◌, ◌*◌, ◌≤◌, List, [], ◌∷◌, ◌++◌, length, map, drop, nat_lt, Option, Some, None, Result, Ok, Err, refl, sym, ◌∙◌, ap, subst, arith, append_assoc, append-nil, length-append}
use Rattle.std.specs.Prelude.{All}
use Rattle.std.proofs.lemmas.List.Elements.{All-head, All-tail}
use Rattle.fresh_checkpoints.specs.CdEdges.area.Area.TheVariants.{Journal, Shares, Recipes}
use Rattle.fresh_checkpoints.specs.CdEdges.Disk.{Image}
use Rattle.cloud_opening.specs.JournalHalves.Records.{IsJournal}
use Rattle.cloud_opening.specs.JournalHalves.Frames.{IsClosed, IsRecordAhead}
use Rattle.cloud_opening.proofs.JournalHalves.Headed.{one_record}
use Rattle.cloud_opening.proofs.JournalHalves.Unique.{undamaged}
use Rattle.cloud_opening.specs.JournalStart.start.Checkpoint.{Checkpoint}
use Rattle.cloud_opening.specs.JournalStart.start.Header.{Header}
use Rattle.cloud_opening.specs.JournalStart.start.Start.{Start}
use Rattle.cloud_opening.specs.JournalStart.Ranges.{IsBehind}
use Rattle.cloud_opening.specs.JournalStart.Spelling.{start_bytes, records_of, commands_of, region_of, recipes_end_of}
use Rattle.fresh_checkpoints.specs.JournalHalves.Halves.{half_len}
use Rattle.fresh_checkpoints.specs.JournalHalves.Findings.{part_of}
use Rattle.cloud_opening.specs.RecordBody.Spelling.{Body, body_bytes, FitsBody}
use Rattle.cloud_opening.specs.UserDedup.command.Command.{Command}
use Rattle.fresh_checkpoints.specs.CloudAreas.FormatOne.{Lays}
use Rattle.fresh_checkpoints.specs.CloudAreas.Standing.{Chain, IsChain}
use Rattle.fresh_checkpoints.specs.CloudMemory.Memory.{Memory, Remembers, Stand}
use Rattle.fresh_checkpoints.specs.CompactMemories.Moved.{PlacesLie}
use Rattle.fresh_checkpoints.specs.CompactMemories.Tables.{with_table}
use Rattle.cloud_opening.specs.RecordChecks.ground.Ground.{Ground}
use Rattle.cloud_opening.specs.RecordLaws.Fronts.{is_inside}
use Rattle.cloud_opening.proofs.RecordLaws.Chain.{checkpoint_within}
use Rattle.cloud_opening.specs.Exact.{ground_of, ReadsFor, Recipe, Nothing}
use Rattle.cloud_opening.proofs.Opened.{not_open, not_broken}
use Rattle.cloud_opening.proofs.Lawful.{rest_after, record_first, closed_end, part_journal}
use Rattle.first_laws.specs.FirstRecords.errors.FirstErr.{FirstErr}
use Rattle.first_laws.specs.FirstRecords.Judging.{JudgesFirst}
use Rattle.first_laws.proofs.FirstRecords.OneAnswer.{one_answer}
use Rattle.first_laws.specs.Holding.{MayHoldOne, front_left_one}
use Rattle.first_laws.specs.Lawful.{ground_one, IsNextOne, PassesOne}
use Rattle.first_laws.specs.Leaving.{IsLeftOne, begun_behind}
use Rattle.first_laws.proofs.Chained.{says_one, chain_left_one, chain_stands}
use Rattle.first_laws.proofs.Lying.{places_lie}
use Rattle.first_laws.proofs.RecordTaken.{there_taken, none_taken}
use Rattle.store_migration.specs.declared.errors.OldErr.{OldErr}
use Rattle.store_migration.specs.Exact.{users_most, ReplaysFirst, Ended, Early, Taken, Refused, Broken, ReplaysAllFirst}

-- ---- what stands at a gate decides how the records go on

-- a record was taken, and the rest follows
pub record Further (g : Ground) (half : ℕ) (start : Start) (recipes : List ℕ) (new : Memory) (rest body : List ℕ) (gate records : ℕ) (old : Memory) (answer : Result (Unit {0}) OldErr) : Type 0 where
  pub read : List ℕ
  pub mid : Memory
  pub reads_for : ReadsFor g (nat_lt records (records_of start.checkpoint)) old body recipes read
  pub judged : JudgesFirst g (nat_lt records (records_of start.checkpoint)) read old (gate + 5) body (Ok mid)
  pub replays : ReplaysFirst g half start recipes new (drop (5 + length body) rest) (gate + 5 + length body) (records + 1) mid answer

-- or it was refused
pub record IsStopped (g : Ground) (start : Start) (recipes body : List ℕ) (gate records : ℕ) (old : Memory) : Type 0 where
  pub read : List ℕ
  pub error : FirstErr
  pub reads_for : ReadsFor g (nat_lt records (records_of start.checkpoint)) old body recipes read
  pub judged : JudgesFirst g (nat_lt records (records_of start.checkpoint)) read old (gate + 5) body (Err error)

-- or there was none
pub record IsLast (new old : Memory) (answer : Result (Unit {0}) OldErr) : Type 0 where
  pub memory_is : new ≡ old
  pub answer_is : answer ≡ Ok tt

module _ (g : Ground) (half : ℕ) (start : Start) (recipes : List ℕ) (new : Memory) where
  by_record : (rest body : List ℕ) (gate records : ℕ) (old : Memory) (answer : Result (Unit {0}) OldErr) → IsRecordAhead rest body → ReplaysFirst g half start recipes new rest gate records old answer
      → Further g half start recipes new rest body gate records old answer ⊎ IsStopped g start recipes body gate records old
  by_record rest body gate records old answer r (Ended l k n c full) = absurd (not_open rest body c r)
  by_record rest body gate records old answer r (Early l k n o c few) = absurd (not_open rest body c r)
  by_record rest body gate records old answer r (Taken l body2 read k n o mid a is reads j more) =
      inl (subst (λ (x : List ℕ). Further g half start recipes new rest x gate records old answer) (one_record rest body2 body is r)
      (record { read = read; mid = mid; reads_for = reads; judged = j; replays = more }))
  by_record rest body gate records old answer r (Refused l body2 read k n o e is reads j) =
      inr (subst (λ (x : List ℕ). IsStopped g start recipes x gate records old) (one_record rest body2 body is r)
      (record { read = read; error = e; reads_for = reads; judged = j }))
  by_record rest body gate records old answer r (Broken l k n at byte o damage) = absurd (undamaged rest body gate at byte r damage)

  by_end : (rest : List ℕ) (gate records : ℕ) (old : Memory) (answer : Result (Unit {0}) OldErr) → IsClosed rest → records_of start.checkpoint ≤ records
      → ReplaysFirst g half start recipes new rest gate records old answer → IsLast new old answer
  by_end rest gate records old answer c full (Ended l k n c2 full2) = record { memory_is = refl; answer_is = refl }
  by_end rest gate records old answer c full (Early l k n o c2 few) = absurd (omega (arith, full, few))
  by_end rest gate records old answer c full (Taken l body read k n o mid a is reads j more) = absurd (not_open rest body c is)
  by_end rest gate records old answer c full (Refused l body read k n o e is reads j) = absurd (not_open rest body c is)
  by_end rest gate records old answer c full (Broken l k n at byte o damage) = absurd (not_broken rest gate at byte c damage)

-- ---- records by their bytes

-- a start of format 1 names no region
no_region : (half : ℕ) (o : Option Checkpoint) → IsBehind half 1 o → region_of o ≡ 0
no_region half None behind = refl
no_region half (Some c) behind = behind.without_region refl

-- ---- a chain that lays a list

-- the answer is Ok, and the memory is what its records leave
pub record IsAllOne (header : Header) (image : Image) (c : Chain) (new : Memory) (answer : Result (Unit {0}) OldErr) : Type 0 where
  pub answer_is : answer ≡ Ok tt
  pub memory_is : new ≡ front_left_one header image users_most c c.records

never_both : (m : Memory) (e : FirstErr) (x y : Result Memory FirstErr) → x ≡ Ok m → y ≡ Err e → x ≡ y → ⊥
never_both m e x y a b same = let never : Ok m ≡ Err e = sym a ∙ same ∙ b in cc

same_memory : (m n : Memory) (x y : Result Memory FirstErr) → x ≡ Ok m → y ≡ Ok n → x ≡ y → m ≡ n
same_memory m n x y a b e = let same : Ok m ≡ Ok n = sym a ∙ e ∙ b in cc

module _ (header : Header) (image : Image) (list : List Command) (c : Chain) (may : MayHoldOne header list) (lays : Lays header image list c) where
  abbrev ground : Ground
  ground = ground_one header image

  -- what some records leave, the first ones of the chain
  abbrev front : List Body → Memory
  front before = front_left_one header image users_most c before

  -- with what is read for it a record passes
  passes : (before : List Body) (body : Body) (read : List ℕ) → IsNextOne header image list c before body → FitsBody body
      → ReadsFor ground (is_inside c before) (front before) (body_bytes body) (image Recipes) read → PassesOne header image users_most c before body read
  passes before body read next fits (Recipe place asks) = λ at. there_taken header image users_most list c before body next at fits place asks
  passes before body read next fits (Nothing none) = λ at. none_taken header image users_most list c before body next at fits none

  -- the chain has all records of its checkpoint
  full_chain : records_of c.start.checkpoint ≤ length c.records
  full_chain =
      checkpoint_within 1 header.shape 0 (records_of c.start.checkpoint) (commands_of c.start.checkpoint) c.records list c.recipes (says_one header image list c may lays)

  lawful : (after before : List Body) → c.records ≡ before ++ after → All FitsBody after → (rest : List ℕ) (gate : ℕ) (new : Memory) (answer : Result (Unit {0}) OldErr)
      → IsJournal (map body_bytes after) rest → ReplaysFirst ground c.half c.start (image Recipes) new rest gate (length before) (front before) answer → IsAllOne header image c new answer
  lawful [] before whole fits rest gate new answer journal replays =
      let all : c.records ≡ before = whole ∙ append-nil before in
      let full : records_of c.start.checkpoint ≤ length before = omega (arith, full_chain, ap (λ (l : List Body). length l) all) in
      let last = by_end ground c.half c.start (image Recipes) new rest gate (length before) (front before) answer (closed_end rest journal) full replays in
      record { answer_is = last.answer_is; memory_is = last.memory_is ∙ ap front (sym all) }
  lawful (body ∷ after) before whole fits rest gate new answer journal replays =
      let next : IsNextOne header image list c before body = record { may = may; lays = lays; after = after; whole = whole } in
      let fit = All-head FitsBody body after fits in
      let inside = is_inside c before in let old = front before in let left = front (before ++ body ∷ []) in
      elim (by_record ground c.half c.start (image Recipes) new rest (body_bytes body) gate (length before) old answer (record_first (body_bytes body) (map body_bytes after) rest journal) replays) [
        | inl f ↦
            let pass = passes before body f.read next fit f.reads_for (gate + 5) in
            let mid : f.mid ≡ left = same_memory f.mid left (Ok f.mid) (Ok left) refl refl (one_answer ground inside f.read old (gate + 5) (body_bytes body) (Ok f.mid) (Ok left) f.judged pass) in
            let more : length before + 1 ≡ length (before ++ body ∷ []) = omega (arith, length-append before (body ∷ [])) in
            lawful after (before ++ body ∷ []) (whole ∙ sym (append_assoc before (body ∷ []) after)) (All-tail FitsBody body after fits)
            (drop (5 + length (body_bytes body)) rest) (gate + 5 + length (body_bytes body)) new answer
            (rest_after (body_bytes body) (map body_bytes after) rest journal)
            (subst (λ (n : ℕ). ReplaysFirst ground c.half c.start (image Recipes) new (drop (5 + length (body_bytes body)) rest) (gate + 5 + length (body_bytes body)) n left answer) more
            (subst (λ (m : Memory). ReplaysFirst ground c.half c.start (image Recipes) new (drop (5 + length (body_bytes body)) rest) (gate + 5 + length (body_bytes body)) (length before + 1) m answer) mid f.replays))
        | inr s ↦
            let pass = passes before body s.read next fit s.reads_for (gate + 5) in
            absurd (never_both left s.error (Ok left) (Err s.error) refl refl (one_answer ground inside s.read old (gate + 5) (body_bytes body) (Ok left) (Err s.error) pass s.judged))
      ]

  -- the reader's ground is that of the laws
  abbrev ground_at : ℕ → Ground
  ground_at region = record { shape = header.shape; rooms = header.rooms; region = region; shares_len = length (image Shares); recipes_len = length (image Recipes) }

  same_ground : IsChain header half_len (image Journal) c → ground_of header c.start image ≡ ground
  same_ground is =
      let behind : IsBehind c.half header.format c.start.checkpoint =
      subst (λ (h : Header). IsBehind c.half h.format c.start.checkpoint) is.header_is is.there.current.begun.is_start.behind in
      ap ground_at (no_region c.half c.start.checkpoint (subst (λ (n : ℕ). IsBehind c.half n c.start.checkpoint) may.format behind))

  -- all records of a chain
  pub all_lawful : (new : Memory) (answer : Result (Unit {0}) OldErr) → IsChain header half_len (image Journal) c → ReplaysAllFirst header c.half c.start image new answer → IsAllOne header image c new answer
  all_lawful new answer is replays =
      let body = start_bytes c.start in let bodies = map body_bytes c.records in let journal = image Journal in
      let rest = drop (length body + 5) (part_of c.half journal) in let gate = c.half * half_len + (length body + 5) in
      let part = part_journal (body ∷ bodies) c.half journal is.there.chain_is is.within in
      let behind = rest_after body bodies (part_of c.half journal) part in
      let place : 5 + length body ≡ length body + 5 = omega arith in
      lawful c.records [] refl is.fit rest gate new answer
      (subst (λ (n : ℕ). IsJournal bodies (drop n (part_of c.half journal))) place behind)
      (subst (λ (g : Ground). ReplaysFirst g c.half c.start (image Recipes) new rest gate 0 (begun_behind users_most (recipes_end_of c.start.checkpoint)) answer) (same_ground is) replays)

  -- ---- the memory of the list

  module _ (m : Memory) (is : m ≡ front c.records) where
    pub left_one : IsLeftOne header.shape (image Recipes) (recipes_end_of c.start.checkpoint) list c.records m
    left_one = subst (IsLeftOne header.shape (image Recipes) (recipes_end_of c.start.checkpoint) list c.records) (sym is) (chain_left_one header image list c may lays users_most)

    pub remembers_one : Remembers header.shape list (with_table left_one.table m)
    remembers_one =
        let r = left_one.left.remembers in
        record { placed = r.placed; lens = r.lens; owners = r.owners; files = r.files; spent = r.spent }

    pub stand_one : Stand header.shape (image Shares) (image Recipes) list m
    stand_one = chain_stands header image list c may lays m left_one

    pub lie_one : PlacesLie 0 8589934592 1073741824 m
    lie_one = places_lie header image list c may lays m left_one
