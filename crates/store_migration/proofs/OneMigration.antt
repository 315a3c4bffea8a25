-- One answer alone comes of a migration, whatever the bytes of the areas are.
use Rattle.std.proofs.Common.{◌≡◌, ◌≢◌, ◌⊎◌, ℕ, ◌+◌, ◌*◌, ◌<◌, ◌≤◌, Bool, List, length, drop, nat_lt, Option, Some, None, Result, Ok, Err, OnOk, refl, sym, ◌∙◌, ap, subst, arith, inl, inr}
use Rattle.std.proofs.lemmas.Bool.{cases_lt}
use Rattle.std.specs.Prelude.{slice_index}
use Rattle.std.specs.Int.{w64, to_be_bytes}
use Rattle.fresh_checkpoints.specs.CdBase.ids.CloudNo.{CloudNo}
use Rattle.fresh_checkpoints.specs.CdBase.ids.UserId.{UserId}
use Rattle.fresh_checkpoints.specs.CdBase.shape.Shape.{Shape}
use Rattle.fresh_checkpoints.specs.CdEdges.area.Area.TheVariants.{Journal, Recipes}
use Rattle.fresh_checkpoints.specs.CdEdges.Disk.{Image}
use Rattle.cloud_opening.specs.JournalHalves.Frames.{IsRecordAhead}
use Rattle.cloud_opening.proofs.JournalHalves.Headed.{one_record}
use Rattle.cloud_opening.proofs.JournalHalves.Unique.{undamaged}
use Rattle.cloud_opening.specs.JournalStart.rooms.UserRooms.{UserRooms}
use Rattle.cloud_opening.specs.JournalStart.start.Header.{Header}
use Rattle.cloud_opening.specs.JournalStart.start.Start.{Start}
use Rattle.cloud_opening.specs.JournalStart.Spelling.{records_of, recipes_end_of}
use Rattle.fresh_checkpoints.specs.JournalHalves.Halves.{half_len, IsCurrent}
use Rattle.cloud_opening.specs.UserDedup.Dedup.{FullRoom}
use Rattle.fresh_checkpoints.specs.CloudMemory.Memory.{Memory}
use Rattle.cloud_opening.specs.RecordChecks.ground.Ground.{Ground}
use Rattle.first_laws.specs.FirstRecords.errors.FirstErr.{FirstErr}
use Rattle.first_laws.specs.FirstRecords.Judging.{JudgesFirst}
use Rattle.first_laws.proofs.FirstRecords.OneAnswer.{one_answer}
use Rattle.fresh_checkpoints.specs.CompactMemories.Kept.{commands_in}
use Rattle.fresh_checkpoints.proofs.CommitJournal.Opening.{not_unbegun}
use Rattle.cloud_opening.specs.Exact.{ReadsFor}
use Rattle.cloud_opening.proofs.Current.{same_half, same_start}
use Rattle.cloud_opening.proofs.Opened.{not_open, not_broken}
use Rattle.cloud_opening.proofs.OneStart.{one_damage, one_found, unbegun_whole, current_whole}
use Rattle.cloud_opening.proofs.OneOpening.{one_read}
use Rattle.large_users.specs.Large.{passed_in, IsFirstPassed, IsNonePassed}
use Rattle.large_users.specs.MigrationModel.Migrating.{header_one}
use Rattle.store_migration.specs.declared.errors.OldErr.{OldErr}
use Rattle.store_migration.specs.declared.errors.OldErr.TheVariants.{Damaged, OtherStore}
use Rattle.store_migration.specs.declared.errors.MigrateErr.{MigrateErr}
use Rattle.store_migration.specs.declared.errors.MigrateErr.TheVariants as why
use Rattle.store_migration.specs.Exact.{IsNewHeader, end_place, old_err, ReplaysFirst, Ended, Early, Taken, Refused, Broken, ReplaysAllFirst}
use Rattle.store_migration.specs.Exact as exact
use Rattle.store_migration.specs.Exact.{ReadsOld, Migrates}

-- ---- a record

abbrev the_memory : Memory → Result Memory FirstErr
the_memory m = Ok m

abbrev the_error : FirstErr → Result Memory FirstErr
the_error e = Err e

memory_of_ok : (m n : Memory) → the_memory m ≡ the_memory n → m ≡ n
memory_of_ok m n e = cc

never_both : (m : Memory) (e : FirstErr) → the_memory m ≡ the_error e → ⊥
never_both m e same = cc

error_of : (d e : FirstErr) → the_error d ≡ the_error e → d ≡ e
error_of d e same = cc

-- The two answers are one, and after Ok the two memories are.
pub record IsOne {E : Type 0} (m n : Memory) (one two : Result (Unit {0}) E) : Type 0 where
  pub answers : one ≡ two
  pub memories : OnOk one (m ≡ n)

ended_one : {E : Type 0} (m n : Memory) → m ≡ n → IsOne {E = E} m n (Ok tt) (Ok tt)
ended_one m n same = record { answers = refl; memories = same }

failed_one : {E : Type 0} (m n : Memory) (e f : E) → e ≡ f → IsOne {E = E} m n (Err e) (Err f)
failed_one m n e f same = record { answers = ap Err same; memories = tt }

-- ---- the records

module _ (g : Ground) (half : ℕ) (start : Start) (recipes : List ℕ) where
  abbrev inside_at : ℕ → Bool
  inside_at records = nat_lt records (records_of start.checkpoint)

  -- the answers to what stands at one gate
  judged_alike : (rest body body2 read read2 : List ℕ) (gate records : ℕ) (old : Memory) (x y : Result Memory FirstErr) → IsRecordAhead rest body → IsRecordAhead rest body2
      → ReadsFor g (inside_at records) old body recipes read → ReadsFor g (inside_at records) old body2 recipes read2
      → JudgesFirst g (inside_at records) read old (gate + 5) body x → JudgesFirst g (inside_at records) read2 old (gate + 5) body2 y → x ≡ y
  judged_alike rest body body2 read read2 gate records old x y r r2 reads reads2 j j2 =
      let same : body2 ≡ body = one_record rest body2 body r2 r in
      let reads_here = subst (λ (l : List ℕ). ReadsFor g (inside_at records) old l recipes read2) same reads2 in
      let bytes : read2 ≡ read = one_read g (inside_at records) old body recipes read2 read reads_here reads in
      one_answer g (inside_at records) read old (gate + 5) body x y j
      (subst (λ (l : List ℕ). JudgesFirst g (inside_at records) l old (gate + 5) body y) bytes (subst (λ (l : List ℕ). JudgesFirst g (inside_at records) read2 old (gate + 5) l y) same j2))

  pub replays_agree : (m n : Memory) (rest : List ℕ) (gate records : ℕ) (old : Memory) (one two : Result (Unit {0}) OldErr) → ReplaysFirst g half start recipes m rest gate records old one
      → ReplaysFirst g half start recipes n rest gate records old two → IsOne m n one two
  replays_agree m n rest gate records old one two (Ended l k r c full) (Ended l2 k2 r2 c2 full2) = ended_one m n refl
  replays_agree m n rest gate records old one two (Ended l k r c full) (Early l2 k2 r2 o2 c2 few) = absurd (omega (arith, full, few))
  replays_agree m n rest gate records old one two (Ended l k r c full) (Taken l2 body read k2 r2 o2 mid a2 is reads j more) = absurd (not_open rest body c is)
  replays_agree m n rest gate records old one two (Ended l k r c full) (Refused l2 body read k2 r2 o2 e is reads j) = absurd (not_open rest body c is)
  replays_agree m n rest gate records old one two (Ended l k r c full) (Broken l2 k2 r2 at byte o2 damage) = absurd (not_broken rest gate at byte c damage)
  replays_agree m n rest gate records old one two (Early l k r o c few) (Ended l2 k2 r2 c2 full) = absurd (omega (arith, full, few))
  replays_agree m n rest gate records old one two (Early l k r o c few) (Early l2 k2 r2 o2 c2 few2) = failed_one m n _ _ refl
  replays_agree m n rest gate records old one two (Early l k r o c few) (Taken l2 body read k2 r2 o2 mid a2 is reads j more) = absurd (not_open rest body c is)
  replays_agree m n rest gate records old one two (Early l k r o c few) (Refused l2 body read k2 r2 o2 e is reads j) = absurd (not_open rest body c is)
  replays_agree m n rest gate records old one two (Early l k r o c few) (Broken l2 k2 r2 at byte o2 damage) = absurd (not_broken rest gate at byte c damage)
  replays_agree m n rest gate records old one two (Taken l body read k r o mid a is reads j more) (Ended l2 k2 r2 c full) = absurd (not_open rest body c is)
  replays_agree m n rest gate records old one two (Taken l body read k r o mid a is reads j more) (Early l2 k2 r2 o2 c few) = absurd (not_open rest body c is)
  replays_agree m n rest gate records old one two (Taken l body read k r o mid a is reads j more) (Taken l2 body2 read2 k2 r2 o2 mid2 a2 is2 reads2 j2 more2) =
      let same : body2 ≡ body = one_record rest body2 body is2 is in
      let memory : mid2 ≡ mid = sym (memory_of_ok mid mid2 (judged_alike rest body body2 read read2 gate records old (Ok mid) (Ok mid2) is is2 reads reads2 j j2)) in
      replays_agree m n (drop (5 + length body) rest) (gate + 5 + length body) (records + 1) mid one two more
      (subst (λ (w : Memory). ReplaysFirst g half start recipes n (drop (5 + length body) rest) (gate + 5 + length body) (records + 1) w two) memory
      (subst (λ (w : List ℕ). ReplaysFirst g half start recipes n (drop (5 + length w) rest) (gate + 5 + length w) (records + 1) mid2 two) same more2))
  replays_agree m n rest gate records old one two (Taken l body read k r o mid a is reads j more) (Refused l2 body2 read2 k2 r2 o2 e is2 reads2 j2) =
      absurd (never_both mid e (judged_alike rest body body2 read read2 gate records old (Ok mid) (Err e) is is2 reads reads2 j j2))
  replays_agree m n rest gate records old one two (Taken l body read k r o mid a is reads j more) (Broken l2 k2 r2 at byte o2 damage) = absurd (undamaged rest body gate at byte is damage)
  replays_agree m n rest gate records old one two (Refused l body read k r o e is reads j) (Ended l2 k2 r2 c full) = absurd (not_open rest body c is)
  replays_agree m n rest gate records old one two (Refused l body read k r o e is reads j) (Early l2 k2 r2 o2 c few) = absurd (not_open rest body c is)
  replays_agree m n rest gate records old one two (Refused l body read k r o e is reads j) (Taken l2 body2 read2 k2 r2 o2 mid a2 is2 reads2 j2 more) =
      absurd (never_both mid e (sym (judged_alike rest body body2 read read2 gate records old (Err e) (Ok mid) is is2 reads reads2 j j2)))
  replays_agree m n rest gate records old one two (Refused l body read k r o e is reads j) (Refused l2 body2 read2 k2 r2 o2 e2 is2 reads2 j2) =
      failed_one m n _ _ (ap old_err (error_of e e2 (judged_alike rest body body2 read read2 gate records old (Err e) (Err e2) is is2 reads reads2 j j2)))
  replays_agree m n rest gate records old one two (Refused l body read k r o e is reads j) (Broken l2 k2 r2 at byte o2 damage) = absurd (undamaged rest body gate at byte is damage)
  replays_agree m n rest gate records old one two (Broken l k r at byte o damage) (Ended l2 k2 r2 c full) = absurd (not_broken rest gate at byte c damage)
  replays_agree m n rest gate records old one two (Broken l k r at byte o damage) (Early l2 k2 r2 o2 c few) = absurd (not_broken rest gate at byte c damage)
  replays_agree m n rest gate records old one two (Broken l k r at byte o damage) (Taken l2 body read k2 r2 o2 mid a2 is reads j more) = absurd (undamaged rest body gate at byte is damage)
  replays_agree m n rest gate records old one two (Broken l k r at byte o damage) (Refused l2 body read k2 r2 o2 e is reads j) = absurd (undamaged rest body gate at byte is damage)
  replays_agree m n rest gate records old one two (Broken l k r at byte o damage) (Broken l2 k2 r2 at2 byte2 o2 damage2) =
      let same = one_damage rest gate at byte at2 byte2 damage damage2 in failed_one m n _ _ (λ i. Damaged (same.places i) (same.bytes i))

-- ---- a reading

abbrev an_error : OldErr → Result (Unit {0}) OldErr
an_error e = Err e

old_of : (e f : OldErr) → an_error e ≡ an_error f → e ≡ f
old_of e f same = cc

not_ok : (e : OldErr) → an_error e ≡ Ok tt → ⊥
not_ok e same = cc

module _ (shape : Shape) (cloud : CloudNo) (image : Image) where
  abbrev bytes : List ℕ
  bytes = image Journal

  abbrev first : Header
  first = header_one shape cloud

  -- the starts that two readings find are one
  module _ (half half2 : ℕ) (start start2 : Start) (c : IsCurrent bytes half start) (c2 : IsCurrent bytes half2 start2) where
    start_is : start ≡ start2
    start_is = same_start bytes half half2 start start2 c c2

    half_is : half ≡ half2
    half_is = same_half bytes half half2 start start2 c c2

    header_is : start.header ≡ start2.header
    header_is = ap (λ (s : Start). s.header) start_is

    end_is : recipes_end_of start.checkpoint ≡ recipes_end_of start2.checkpoint
    end_is = ap (λ (s : Start). recipes_end_of s.checkpoint) start_is

    -- what comes of the records behind the second is what comes of them behind the first
    pub replays_here : (n : Memory) (answer : Result (Unit {0}) OldErr) → ReplaysAllFirst first half2 start2 image n answer → ReplaysAllFirst first half start image n answer
    replays_here n answer r =
        subst (λ (s : Start). ReplaysAllFirst first half s image n answer) (sym start_is) (subst (λ (h : ℕ). ReplaysAllFirst first h start2 image n answer) (sym half_is) r)

    pub all_agree : (m n : Memory) (one two : Result (Unit {0}) OldErr) → ReplaysAllFirst first half start image m one → ReplaysAllFirst first half2 start2 image n two → IsOne m n one two
    all_agree m n one two r r2 = replays_agree _ half start (image Recipes) m n _ _ 0 _ one two r (replays_here n two r2)

    pub not_new : ¬ (IsNewHeader shape cloud start.header) → IsNewHeader shape cloud start2.header → ⊥
    not_new none is = none (subst (IsNewHeader shape cloud) (sym header_is) is)

    -- a header of format 1 isn't one of format 2
    pub not_first : IsNewHeader shape cloud start.header → start2.header ≡ first → ⊥
    not_first is same = let format : 2 ≡ 1 = sym is.format ∙ ap (λ (h : Header). h.format) (header_is ∙ same) in omega (arith, format)

    pub not_other : start.header ≢ first → start2.header ≡ first → ⊥
    not_other other same = other (header_is ∙ same)

    pub not_past : length (image Recipes) < recipes_end_of start.checkpoint → recipes_end_of start2.checkpoint ≤ length (image Recipes) → ⊥
    not_past past within = omega (arith, past, within, end_is)

  -- what comes of the records, as the reading's answer
  opened : (m n : Memory) (e f : OldErr) → IsOne m n (Err e) (Err f) → IsOne m n (Err (why.Open e)) (Err (why.Open f))
  opened m n e f one = failed_one m n _ _ (ap why.Open (old_of e f one.answers))

  loaded : (m n : Memory) → IsOne {E = OldErr} m n (Ok tt) (Ok tt) → IsOne {E = MigrateErr} m n (Ok tt) (Ok tt)
  loaded m n one = ended_one m n one.memories

  module _ (m n : Memory) where
    pub one_reading : (one two : Result (Unit {0}) MigrateErr) → ReadsOld shape cloud image m one → ReadsOld shape cloud image n two → IsOne m n one two
    one_reading one two (exact.Unbegun none) (exact.Unbegun none2) = failed_one m n _ _ refl
    one_reading one two (exact.Unbegun none) (exact.NoStart at2 byte2 damage2) = absurd (unbegun_whole bytes at2 byte2 none damage2)
    one_reading one two (exact.Unbegun none) (exact.New half2 start2 c2 new2) = absurd (not_unbegun bytes half2 start2 c2 none)
    one_reading one two (exact.Unbegun none) (exact.Other half2 start2 c2 old2 other2) = absurd (not_unbegun bytes half2 start2 c2 none)
    one_reading one two (exact.Unbegun none) (exact.PastEnd half2 start2 c2 same2 past2) = absurd (not_unbegun bytes half2 start2 c2 none)
    one_reading one two (exact.Unbegun none) (exact.Unread half2 start2 error2 c2 same2 within2 replays2) = absurd (not_unbegun bytes half2 start2 c2 none)
    one_reading one two (exact.Unbegun none) (exact.Read half2 start2 c2 same2 within2 replays2) = absurd (not_unbegun bytes half2 start2 c2 none)
    one_reading one two (exact.NoStart at byte damage) (exact.Unbegun none2) = absurd (unbegun_whole bytes at byte none2 damage)
    one_reading one two (exact.NoStart at byte damage) (exact.NoStart at2 byte2 damage2) =
        (let same = one_found bytes at byte at2 byte2 damage damage2 in failed_one m n _ _ (λ i. why.Open (Damaged (same.places i) (same.bytes i))))
    one_reading one two (exact.NoStart at byte damage) (exact.New half2 start2 c2 new2) = absurd (current_whole bytes half2 start2 c2 at byte damage)
    one_reading one two (exact.NoStart at byte damage) (exact.Other half2 start2 c2 old2 other2) = absurd (current_whole bytes half2 start2 c2 at byte damage)
    one_reading one two (exact.NoStart at byte damage) (exact.PastEnd half2 start2 c2 same2 past2) = absurd (current_whole bytes half2 start2 c2 at byte damage)
    one_reading one two (exact.NoStart at byte damage) (exact.Unread half2 start2 error2 c2 same2 within2 replays2) = absurd (current_whole bytes half2 start2 c2 at byte damage)
    one_reading one two (exact.NoStart at byte damage) (exact.Read half2 start2 c2 same2 within2 replays2) = absurd (current_whole bytes half2 start2 c2 at byte damage)
    one_reading one two (exact.New half start c new) (exact.Unbegun none2) = absurd (not_unbegun bytes half start c none2)
    one_reading one two (exact.New half start c new) (exact.NoStart at2 byte2 damage2) = absurd (current_whole bytes half start c at2 byte2 damage2)
    one_reading one two (exact.New half start c new) (exact.New half2 start2 c2 new2) = failed_one m n _ _ refl
    one_reading one two (exact.New half start c new) (exact.Other half2 start2 c2 old2 other2) = absurd (not_new half2 half start2 start c2 c old2 new)
    one_reading one two (exact.New half start c new) (exact.PastEnd half2 start2 c2 same2 past2) = absurd (not_first half half2 start start2 c c2 new same2)
    one_reading one two (exact.New half start c new) (exact.Unread half2 start2 error2 c2 same2 within2 replays2) = absurd (not_first half half2 start start2 c c2 new same2)
    one_reading one two (exact.New half start c new) (exact.Read half2 start2 c2 same2 within2 replays2) = absurd (not_first half half2 start start2 c c2 new same2)
    one_reading one two (exact.Other half start c old other) (exact.Unbegun none2) = absurd (not_unbegun bytes half start c none2)
    one_reading one two (exact.Other half start c old other) (exact.NoStart at2 byte2 damage2) = absurd (current_whole bytes half start c at2 byte2 damage2)
    one_reading one two (exact.Other half start c old other) (exact.New half2 start2 c2 new2) = absurd (not_new half half2 start start2 c c2 old new2)
    one_reading one two (exact.Other half start c old other) (exact.Other half2 start2 c2 old2 other2) =
        failed_one m n _ _ (λ i. why.Open (OtherStore (header_is half half2 start start2 c c2 i) first (half_is half half2 start start2 c c2 i * half_len + 5)))
    one_reading one two (exact.Other half start c old other) (exact.PastEnd half2 start2 c2 same2 past2) = absurd (not_other half half2 start start2 c c2 other same2)
    one_reading one two (exact.Other half start c old other) (exact.Unread half2 start2 error2 c2 same2 within2 replays2) = absurd (not_other half half2 start start2 c c2 other same2)
    one_reading one two (exact.Other half start c old other) (exact.Read half2 start2 c2 same2 within2 replays2) = absurd (not_other half half2 start start2 c c2 other same2)
    one_reading one two (exact.PastEnd half start c same past) (exact.Unbegun none2) = absurd (not_unbegun bytes half start c none2)
    one_reading one two (exact.PastEnd half start c same past) (exact.NoStart at2 byte2 damage2) = absurd (current_whole bytes half start c at2 byte2 damage2)
    one_reading one two (exact.PastEnd half start c same past) (exact.New half2 start2 c2 new2) = absurd (not_first half2 half start2 start c2 c new2 same)
    one_reading one two (exact.PastEnd half start c same past) (exact.Other half2 start2 c2 old2 other2) = absurd (not_other half2 half start2 start c2 c other2 same)
    one_reading one two (exact.PastEnd half start c same past) (exact.PastEnd half2 start2 c2 same2 past2) =
        failed_one m n _ _ (λ i. why.Open (Damaged (half_is half half2 start start2 c c2 i * half_len + end_place) (slice_index (to_be_bytes w64 (end_is half half2 start start2 c c2 i)) 0)))
    one_reading one two (exact.PastEnd half start c same past) (exact.Unread half2 start2 error2 c2 same2 within2 replays2) = absurd (not_past half half2 start start2 c c2 past within2)
    one_reading one two (exact.PastEnd half start c same past) (exact.Read half2 start2 c2 same2 within2 replays2) = absurd (not_past half half2 start start2 c c2 past within2)
    one_reading one two (exact.Unread half start error c same within replays) (exact.Unbegun none2) = absurd (not_unbegun bytes half start c none2)
    one_reading one two (exact.Unread half start error c same within replays) (exact.NoStart at2 byte2 damage2) = absurd (current_whole bytes half start c at2 byte2 damage2)
    one_reading one two (exact.Unread half start error c same within replays) (exact.New half2 start2 c2 new2) = absurd (not_first half2 half start2 start c2 c new2 same)
    one_reading one two (exact.Unread half start error c same within replays) (exact.Other half2 start2 c2 old2 other2) = absurd (not_other half2 half start2 start c2 c other2 same)
    one_reading one two (exact.Unread half start error c same within replays) (exact.PastEnd half2 start2 c2 same2 past2) = absurd (not_past half2 half start2 start c2 c past2 within)
    one_reading one two (exact.Unread half start error c same within replays) (exact.Unread half2 start2 error2 c2 same2 within2 replays2) =
        opened m n error error2 (all_agree half half2 start start2 c c2 m n (Err error) (Err error2) replays replays2)
    one_reading one two (exact.Unread half start error c same within replays) (exact.Read half2 start2 c2 same2 within2 replays2) =
        absurd (not_ok error (all_agree half half2 start start2 c c2 m n (Err error) (Ok tt) replays replays2).answers)
    one_reading one two (exact.Read half start c same within replays) (exact.Unbegun none2) = absurd (not_unbegun bytes half start c none2)
    one_reading one two (exact.Read half start c same within replays) (exact.NoStart at2 byte2 damage2) = absurd (current_whole bytes half start c at2 byte2 damage2)
    one_reading one two (exact.Read half start c same within replays) (exact.New half2 start2 c2 new2) = absurd (not_first half2 half start2 start c2 c new2 same)
    one_reading one two (exact.Read half start c same within replays) (exact.Other half2 start2 c2 old2 other2) = absurd (not_other half2 half start2 start c2 c other2 same)
    one_reading one two (exact.Read half start c same within replays) (exact.PastEnd half2 start2 c2 same2 past2) = absurd (not_past half2 half start2 start c2 c past2 within)
    one_reading one two (exact.Read half start c same within replays) (exact.Unread half2 start2 error2 c2 same2 within2 replays2) =
        absurd (not_ok error2 (sym (all_agree half half2 start start2 c c2 m n (Ok tt) (Err error2) replays replays2).answers))
    one_reading one two (exact.Read half start c same within replays) (exact.Read half2 start2 c2 same2 within2 replays2) =
        loaded m n (all_agree half half2 start start2 c c2 m n (Ok tt) (Ok tt) replays replays2)

-- ---- a migration

some_none : (full : FullRoom) (o : Option FullRoom) → o ≡ Some full → o ≡ None → ⊥
some_none full o some none = let never : Some full ≡ None = sym some ∙ none in cc

some_one : (a b : FullRoom) (o : Option FullRoom) → o ≡ Some a → o ≡ Some b → a ≡ b
some_one a b o one two = let same : Some a ≡ Some b = sym one ∙ two in cc

-- of two numbers one is the lesser, or they are one
ordered : (a b : ℕ) → (a < b) ⊎ (b < a) ⊎ (a ≡ b)
ordered a b = elim (cases_lt a b) [
  | inl less ↦ inl less
  | inr least ↦ elim (cases_lt b a) [
    | inl more ↦ inr (inl more)
    | inr neither ↦ inr (inr (omega (arith, least, neither)))
  ]
]

-- one user is the first that keeps too much, and it has one first room
module _ (rooms : UserRooms) (m : Memory) (user user2 : UserId) (full full2 : FullRoom) (one : IsFirstPassed rooms m user full) (two : IsFirstPassed rooms m user2 full2) where
  pub one_user : user ≡ user2
  one_user = elim (ordered user.0 user2.0) [
    | inl less ↦ absurd (some_none full (passed_in rooms m user) one.here (two.before user less))
    | inr (inl more) ↦ absurd (some_none full2 (passed_in rooms m user2) two.here (one.before user2 more))
    | inr (inr same) ↦ ap (λ (n : ℕ). record { 0 = n }) same
  ]

  pub one_room : full ≡ full2
  one_room = some_one full full2 (passed_in rooms m user) one.here (ap (passed_in rooms m) one_user ∙ two.here)

abbrev a_number : ℕ → Result ℕ MigrateErr
a_number n = Ok n

abbrev refused : MigrateErr → Result (Unit {0}) MigrateErr
refused e = Err e

refusal_of : (e f : MigrateErr) → refused e ≡ refused f → e ≡ f
refusal_of e f same = cc

not_read : (e : MigrateErr) → refused e ≡ Ok tt → ⊥
not_read e same = cc

module _ (shape : Shape) (cloud : CloudNo) (rooms : UserRooms) (image : Image) where
  one_of : (m n : Memory) (one two : Result (Unit {0}) MigrateErr) → ReadsOld shape cloud image m one → ReadsOld shape cloud image n two → IsOne m n one two
  one_of m n one two r r2 = one_reading shape cloud image m n one two r r2

  same_memory : (m n : Memory) → ReadsOld shape cloud image m (Ok tt) → ReadsOld shape cloud image n (Ok tt) → n ≡ m
  same_memory m n r r2 = sym (one_of m n (Ok tt) (Ok tt) r r2).memories

  pub one_migration : (one two : Result ℕ MigrateErr) → Migrates shape cloud rooms image one → Migrates shape cloud rooms image two → one ≡ two
  one_migration one two (exact.Unread m e r) (exact.Unread n f r2) = ap (λ (x : MigrateErr). Err x) (refusal_of e f (one_of m n (Err e) (Err f) r r2).answers)
  one_migration one two (exact.Unread m e r) (exact.Large n user full r2 is) = absurd (not_read e (one_of m n (Err e) (Ok tt) r r2).answers)
  one_migration one two (exact.Unread m e r) (exact.Moves n r2 none) = absurd (not_read e (one_of m n (Err e) (Ok tt) r r2).answers)
  one_migration one two (exact.Large m user full r is) (exact.Unread n f r2) = absurd (not_read f (sym (one_of m n (Ok tt) (Err f) r r2).answers))
  one_migration one two (exact.Large m user full r is) (exact.Large n user2 full2 r2 is2) =
      let here : IsFirstPassed rooms m user2 full2 = subst (λ (x : Memory). IsFirstPassed rooms x user2 full2) (same_memory m n r r2) is2 in
      let user_is = one_user rooms m user user2 full full2 is here in let room_is = one_room rooms m user user2 full full2 is here in
      λ i. Err (why.TooLarge (user_is i) (room_is i).room (room_is i).used (room_is i).limit)
  one_migration one two (exact.Large m user full r is) (exact.Moves n r2 none) =
      absurd (some_none full (passed_in rooms m user) is.here (subst (λ (x : Memory). IsNonePassed rooms x) (same_memory m n r r2) none user))
  one_migration one two (exact.Moves m r none) (exact.Unread n f r2) = absurd (not_read f (sym (one_of m n (Ok tt) (Err f) r r2).answers))
  one_migration one two (exact.Moves m r none) (exact.Large n user full r2 is) =
      absurd (some_none full (passed_in rooms n user) is.here (subst (λ (x : Memory). IsNonePassed rooms x) (sym (same_memory m n r r2)) none user))
  one_migration one two (exact.Moves m r none) (exact.Moves n r2 none2) = ap (λ (x : Memory). a_number (commands_in x)) (sym (same_memory m n r r2))
