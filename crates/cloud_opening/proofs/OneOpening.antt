-- One answer alone comes of a journal, whatever its bytes are.
use Rattle.std.proofs.Common.{◌≡◌, ℕ, ◌+◌, ◌*◌, Bool, true, false, List, length, take, drop, nat_lt, Option, Some, Result, Ok, Err, OnOk, refl, sym, ◌∙◌, ap, subst, arith}
use Rattle.cloud_disk.specs.CdEdges.area.Area.TheVariants.{Journal, Recipes}
use Rattle.cloud_disk.specs.CdEdges.Disk.{Image}
use Rattle.cloud_disk.specs.JournalHalves.Frames.{IsRecordAhead}
use Rattle.cloud_disk.proofs.JournalHalves.Headed.{one_record}
use Rattle.cloud_disk.proofs.JournalHalves.Unique.{undamaged}
use Rattle.cloud_disk.proofs.CommitJournal.Opening.{not_unbegun}
use Rattle.record_laws.specs.FileIndex.key.Entry.{Entry}
use Rattle.cloud_disk.specs.RecordBody.Reading.{body_at}
use Rattle.cloud_disk.specs.RecordBody.Spelling.{Body}
use Rattle.cloud_disk.specs.RecordBody.body.BodyErr.{BodyErr}
use Rattle.cloud_disk.specs.CdBase.place.Place.{Place}
use Rattle.cloud_disk.specs.JournalStart.start.Header.{Header}
use Rattle.cloud_disk.specs.JournalStart.start.Start.{Start}
use Rattle.cloud_disk.specs.JournalStart.Spelling.{records_of}
use Rattle.cloud_disk.specs.JournalHalves.Halves.{half_len}
use Rattle.cloud_disk.specs.CommitJournal.errors.OpenErr.{OpenErr}
use Rattle.cloud_disk.specs.CommitJournal.errors.OpenErr.TheVariants.{Damaged, OtherStore}
use Rattle.record_laws.specs.RecordChecks.CloudMemory.Memory.{Memory}
use Rattle.record_laws.specs.RecordChecks.damage.Damage.{Damage}
use Rattle.record_laws.specs.RecordChecks.ground.Ground.{Ground}
use Rattle.record_laws.specs.RecordChecks.taking.Taking.{Taking}
use Rattle.record_laws.specs.RecordChecks.Checks.{NamesRecipePlace, ByCommit, ByDelete, AsksFor}
use Rattle.record_laws.specs.RecordChecks.Judging.{Judges}
use Rattle.record_laws.specs.RecordChecks.Judging as judging
use Rattle.record_laws.specs.RecordChecks.Noting.{IsNoted}
use Rattle.record_laws.proofs.RecordChecks.OneAnswer.{one_answer}
use Rattle.cloud_opening.specs.Exact.{ReadsFor, Recipe, Nothing, Closes, Within, SharesPast, RecipesPast, Replays, Ended, Early, Taken, Refused, Broken, ReplaysAll, Opens, Unbegun, NoStart, Other, New, Read, IsSame}
use Rattle.cloud_opening.proofs.Current.{same_half, same_start}
use Rattle.cloud_opening.proofs.Opened.{not_open, not_broken}
use Rattle.cloud_opening.proofs.OneStart.{one_damage, one_found, unbegun_whole, current_whole}

-- ---- what is read for a record

pub body_of : (b b2 : Body) (r : Result Body BodyErr) → r ≡ Ok b → r ≡ Ok b2 → b ≡ b2
body_of b b2 r x y = let same : Ok b ≡ Ok b2 = sym x ∙ y in cc

pub entry_of : (e e2 : Entry) (o : Option Entry) → o ≡ Some e → o ≡ Some e2 → e ≡ e2
entry_of e e2 o x y = let same : Some e ≡ Some e2 = sym x ∙ y in cc

pub one_asked : (g : Ground) (inside : Bool) (m : Memory) (b : Body) (p q : Place) → NamesRecipePlace g inside m b p → NamesRecipePlace g inside m b q → p ≡ q
one_asked g inside m b p q (ByCommit c lies none) (ByCommit c2 lies2 none2) = refl
one_asked g inside m b p q (ByDelete d e is few) (ByDelete d2 e2 is2 few2) = ap (λ (x : Entry). record { at = x.at; len = x.len }) (entry_of e e2 _ is is2)

pub one_place : (g : Ground) (inside : Bool) (m : Memory) (body : List ℕ) (p q : Place) → AsksFor g inside m body p → AsksFor g inside m body q → p ≡ q
one_place g inside m body p q a b = one_asked g inside m a.0 p q a.2 (subst (λ (x : Body). NamesRecipePlace g inside m x q) (sym (body_of a.0 b.0 (body_at body) a.1 b.1)) b.2)

pub one_read : (g : Ground) (inside : Bool) (m : Memory) (body recipes one two : List ℕ) → ReadsFor g inside m body recipes one → ReadsFor g inside m body recipes two → one ≡ two
one_read g inside m body recipes one two (Recipe p asks) (Recipe q asks2) = ap (λ (x : Place). take x.len (drop x.at recipes)) (one_place g inside m body p q asks asks2)
one_read g inside m body recipes one two (Recipe p asks) (Nothing none) = absurd (none p asks)
one_read g inside m body recipes one two (Nothing none) (Recipe p asks) = absurd (none p asks)
one_read g inside m body recipes one two (Nothing none) (Nothing none2) = refl

-- ---- a record

-- what was read of a body that was taken
taken_body : (g : Ground) (inside : Bool) (read : List ℕ) (marks : List Bool) (old : Memory) (at : ℕ) (body : List ℕ) (answer : Result Memory Damage) → Judges g inside read marks old at body answer
    → OnOk answer ((b : Body) × (body_at body ≡ Ok b))
taken_body g inside read marks old at body answer (judging.Outside behind kind) = tt
taken_body g inside read marks old at body answer (judging.Unread e not is) = tt
taken_body g inside read marks old at body answer (judging.Damaged b place not is judged) = tt
taken_body g inside read marks old at body answer (judging.Taken b m not is judged) = (b, is)

one_noted : (at : ℕ) (body : List ℕ) (m : Memory) (t u v : Taking) → (b : Body) × (body_at body ≡ Ok b) → IsNoted at body m t u → IsNoted at body m t v → u ≡ v
one_noted at body m t u v b one two = one b.0 b.1 ∙ sym (two b.0 b.1)

abbrev the_answer : Memory → Result Memory Damage
the_answer m = Ok m

abbrev the_damage : Damage → Result Memory Damage
the_damage d = Err d

memory_of_ok : (m n : Memory) → the_answer m ≡ the_answer n → m ≡ n
memory_of_ok m n e = cc

never_both : (m : Memory) (d : Damage) → the_answer m ≡ Err d → ⊥
never_both m d e = cc

damage_of : (d e : Damage) → the_damage d ≡ the_damage e → d ≡ e
damage_of d e same = cc

always_ok : (r : Result ℕ OpenErr) (P : Type 0) → P → OnOk r P
always_ok (Ok value) P holds = holds
always_ok (Err e) P holds = tt

-- ---- the last check

one_field : (a b : Damage) (o : Option Damage) → o ≡ Some a → o ≡ Some b → a ≡ b
one_field a b o x y = let same : Some a ≡ Some b = sym x ∙ y in cc

one_close : (g : Ground) (m : Memory) (t : Taking) (number : ℕ) (one two : Result ℕ OpenErr) → Closes g m t number one → Closes g m t number two → one ≡ two
one_close g m t number one two (Within s r) (Within s2 r2) = refl
one_close g m t number one two (Within s r) (SharesPast f past is) = absurd (omega (arith, s, past))
one_close g m t number one two (Within s r) (RecipesPast f fit past is) = absurd (omega (arith, r, past))
one_close g m t number one two (SharesPast f past is) (Within s r) = absurd (omega (arith, s, past))
one_close g m t number one two (SharesPast f past is) (SharesPast f2 past2 is2) = ap (λ (d : Damage). Err (Damaged d.at d.byte)) (one_field f f2 t.shares_field is is2)
one_close g m t number one two (SharesPast f past is) (RecipesPast f2 fit past2 is2) = absurd (omega (arith, past, fit))
one_close g m t number one two (RecipesPast f fit past is) (Within s r) = absurd (omega (arith, r, past))
one_close g m t number one two (RecipesPast f fit past is) (SharesPast f2 past2 is2) = absurd (omega (arith, past2, fit))
one_close g m t number one two (RecipesPast f fit past is) (RecipesPast f2 fit2 past2 is2) = ap (λ (d : Damage). Err (Damaged d.at d.byte)) (one_field f f2 t.recipes_field is is2)

-- ---- the records

module _ (g : Ground) (half : ℕ) (start : Start) (recipes : List ℕ) where
  abbrev inside_at : ℕ → Bool
  inside_at records = nat_lt records (records_of start.checkpoint)

  -- the answers to what stands at one gate
  judged_alike : (rest body body2 read read2 : List ℕ) (gate records : ℕ) (old : Memory) (t : Taking) (x y : Result Memory Damage) → IsRecordAhead rest body → IsRecordAhead rest body2
      → ReadsFor g (inside_at records) old body recipes read → ReadsFor g (inside_at records) old body2 recipes read2
      → Judges g (inside_at records) read t.spent old (gate + 5) body x → Judges g (inside_at records) read2 t.spent old (gate + 5) body2 y → x ≡ y
  judged_alike rest body body2 read read2 gate records old t x y r r2 reads reads2 j j2 =
      let same : body2 ≡ body = one_record rest body2 body r2 r in
      let reads_here = subst (λ (l : List ℕ). ReadsFor g (inside_at records) old l recipes read2) same reads2 in
      let bytes : read2 ≡ read = one_read g (inside_at records) old body recipes read2 read reads_here reads in
      one_answer g (inside_at records) read t.spent old (gate + 5) body x y j
      (subst (λ (l : List ℕ). Judges g (inside_at records) l t.spent old (gate + 5) body y) bytes (subst (λ (l : List ℕ). Judges g (inside_at records) read2 t.spent old (gate + 5) l y) same j2))

  closed_same : (m n : Memory) (one two : Result ℕ OpenErr) → one ≡ two → m ≡ n → IsSame m n one two
  closed_same m n one two same memory = record { answers = same; memories = always_ok one (m ≡ n) memory }

  failed_same : (m n : Memory) (e f : OpenErr) → e ≡ f → IsSame m n (Err e) (Err f)
  failed_same m n e f same = record { answers = ap (λ (x : OpenErr). Err x) same; memories = tt }

  pub replays_agree : (m n : Memory) (rest : List ℕ) (gate records : ℕ) (old : Memory) (t : Taking) (one two : Result ℕ OpenErr) → Replays g half start recipes m rest gate records old t one
      → Replays g half start recipes n rest gate records old t two → IsSame m n one two
  replays_agree m n rest gate records old t one two (Ended l k r u a c full closes) (Ended l2 k2 r2 u2 a2 c2 full2 closes2) = closed_same m n one two (one_close g m t _ one two closes closes2) refl
  replays_agree m n rest gate records old t one two (Ended l k r u a c full closes) (Early l2 k2 r2 o2 u2 c2 few) = absurd (omega (arith, full, few))
  replays_agree m n rest gate records old t one two (Ended l k r u a c full closes) (Taken l2 body read k2 r2 o2 mid u2 v a2 is reads j noted more) = absurd (not_open rest body c is)
  replays_agree m n rest gate records old t one two (Ended l k r u a c full closes) (Refused l2 body read k2 r2 o2 u2 d is reads j) = absurd (not_open rest body c is)
  replays_agree m n rest gate records old t one two (Ended l k r u a c full closes) (Broken l2 k2 r2 at byte o2 u2 damage) = absurd (not_broken rest gate at byte c damage)
  replays_agree m n rest gate records old t one two (Early l k r o u c few) (Ended l2 k2 r2 u2 a2 c2 full closes) = absurd (omega (arith, full, few))
  replays_agree m n rest gate records old t one two (Early l k r o u c few) (Early l2 k2 r2 o2 u2 c2 few2) = failed_same m n _ _ refl
  replays_agree m n rest gate records old t one two (Early l k r o u c few) (Taken l2 body read k2 r2 o2 mid u2 v a2 is reads j noted more) = absurd (not_open rest body c is)
  replays_agree m n rest gate records old t one two (Early l k r o u c few) (Refused l2 body read k2 r2 o2 u2 d is reads j) = absurd (not_open rest body c is)
  replays_agree m n rest gate records old t one two (Early l k r o u c few) (Broken l2 k2 r2 at byte o2 u2 damage) = absurd (not_broken rest gate at byte c damage)
  replays_agree m n rest gate records old t one two (Taken l body read k r o mid u v a is reads j noted more) (Ended l2 k2 r2 u2 a2 c full closes) = absurd (not_open rest body c is)
  replays_agree m n rest gate records old t one two (Taken l body read k r o mid u v a is reads j noted more) (Early l2 k2 r2 o2 u2 c few) = absurd (not_open rest body c is)
  replays_agree m n rest gate records old t one two (Taken l body read k r o mid u v a is reads j noted more) (Taken l2 body2 read2 k2 r2 o2 mid2 u2 v2 a2 is2 reads2 j2 noted2 more2) =
      let same : body2 ≡ body = one_record rest body2 body is2 is in
      let memory : mid2 ≡ mid = sym (memory_of_ok mid mid2 (judged_alike rest body body2 read read2 gate records old t (Ok mid) (Ok mid2) is is2 reads reads2 j j2)) in
      let here : IsNoted (gate + 5) body old t v2 = subst (λ (l : List ℕ). IsNoted (gate + 5) l old t v2) same noted2 in
      let after : v2 ≡ v = one_noted (gate + 5) body old t v2 v (taken_body g (inside_at records) read t.spent old (gate + 5) body (Ok mid) j) here noted in
      replays_agree m n (drop (5 + length body) rest) (gate + 5 + length body) (records + 1) mid v one two more
      (subst (λ (w : Taking). Replays g half start recipes n (drop (5 + length body) rest) (gate + 5 + length body) (records + 1) mid w two) after
      (subst (λ (w : Memory). Replays g half start recipes n (drop (5 + length body) rest) (gate + 5 + length body) (records + 1) w v2 two) memory
      (subst (λ (w : List ℕ). Replays g half start recipes n (drop (5 + length w) rest) (gate + 5 + length w) (records + 1) mid2 v2 two) same more2)))
  replays_agree m n rest gate records old t one two (Taken l body read k r o mid u v a is reads j noted more) (Refused l2 body2 read2 k2 r2 o2 u2 d is2 reads2 j2) =
      absurd (never_both mid d (judged_alike rest body body2 read read2 gate records old t (Ok mid) (Err d) is is2 reads reads2 j j2))
  replays_agree m n rest gate records old t one two (Taken l body read k r o mid u v a is reads j noted more) (Broken l2 k2 r2 at byte o2 u2 damage) = absurd (undamaged rest body gate at byte is damage)
  replays_agree m n rest gate records old t one two (Refused l body read k r o u d is reads j) (Ended l2 k2 r2 u2 a2 c full closes) = absurd (not_open rest body c is)
  replays_agree m n rest gate records old t one two (Refused l body read k r o u d is reads j) (Early l2 k2 r2 o2 u2 c few) = absurd (not_open rest body c is)
  replays_agree m n rest gate records old t one two (Refused l body read k r o u d is reads j) (Taken l2 body2 read2 k2 r2 o2 mid u2 v a2 is2 reads2 j2 noted more) =
      absurd (never_both mid d (sym (judged_alike rest body body2 read read2 gate records old t (Err d) (Ok mid) is is2 reads reads2 j j2)))
  replays_agree m n rest gate records old t one two (Refused l body read k r o u d is reads j) (Refused l2 body2 read2 k2 r2 o2 u2 d2 is2 reads2 j2) =
      failed_same m n _ _ (ap (λ (x : Damage). Damaged x.at x.byte) (damage_of d d2 (judged_alike rest body body2 read read2 gate records old t (Err d) (Err d2) is is2 reads reads2 j j2)))
  replays_agree m n rest gate records old t one two (Refused l body read k r o u d is reads j) (Broken l2 k2 r2 at byte o2 u2 damage) = absurd (undamaged rest body gate at byte is damage)
  replays_agree m n rest gate records old t one two (Broken l k r at byte o u damage) (Ended l2 k2 r2 u2 a2 c full closes) = absurd (not_broken rest gate at byte c damage)
  replays_agree m n rest gate records old t one two (Broken l k r at byte o u damage) (Early l2 k2 r2 o2 u2 c few) = absurd (not_broken rest gate at byte c damage)
  replays_agree m n rest gate records old t one two (Broken l k r at byte o u damage) (Taken l2 body read k2 r2 o2 mid u2 v a2 is reads j noted more) = absurd (undamaged rest body gate at byte is damage)
  replays_agree m n rest gate records old t one two (Broken l k r at byte o u damage) (Refused l2 body read k2 r2 o2 u2 d is reads j) = absurd (undamaged rest body gate at byte is damage)
  replays_agree m n rest gate records old t one two (Broken l k r at byte o u damage) (Broken l2 k2 r2 at2 byte2 o2 u2 damage2) =
      let same = one_damage rest gate at byte at2 byte2 damage damage2 in failed_same m n _ _ (λ i. Damaged (same.places i) (same.bytes i))

-- ---- an opening

both_ways : (b : Bool) → b ≡ false → b ≡ true → ⊥
both_ways b off on = cc

module _ (header : Header) (begin : Bool) (image : Image) (m n : Memory) where
  abbrev bytes : List ℕ
  bytes = image Journal

  same_err : (e f : OpenErr) → e ≡ f → IsSame m n (Err e) (Err f)
  same_err e f same = record { answers = ap (λ (x : OpenErr). Err x) same; memories = tt }

  pub one_opening : (one two : Result ℕ OpenErr) → Opens header begin image m one → Opens header begin image n two → IsSame m n one two
  one_opening one two (Unbegun none not) (Unbegun none2 not2) = same_err _ _ refl
  one_opening one two (Unbegun none not) (NoStart at byte damage) = absurd (unbegun_whole bytes at byte none damage)
  one_opening one two (Unbegun none not) (Other half start c other) = absurd (not_unbegun bytes half start c none)
  one_opening one two (Unbegun none not) (New none2 is memory) = absurd (both_ways begin not is)
  one_opening one two (Unbegun none not) (Read half start a c same replays) = absurd (not_unbegun bytes half start c none)
  one_opening one two (NoStart at byte damage) (Unbegun none not) = absurd (unbegun_whole bytes at byte none damage)
  one_opening one two (NoStart at byte damage) (NoStart at2 byte2 damage2) =
      let same = one_found bytes at byte at2 byte2 damage damage2 in same_err _ _ (λ i. Damaged (same.places i) (same.bytes i))
  one_opening one two (NoStart at byte damage) (Other half start c other) = absurd (current_whole bytes half start c at byte damage)
  one_opening one two (NoStart at byte damage) (New none is memory) = absurd (unbegun_whole bytes at byte none damage)
  one_opening one two (NoStart at byte damage) (Read half start a c same replays) = absurd (current_whole bytes half start c at byte damage)
  one_opening one two (Other half start c other) (Unbegun none not) = absurd (not_unbegun bytes half start c none)
  one_opening one two (Other half start c other) (NoStart at byte damage) = absurd (current_whole bytes half start c at byte damage)
  one_opening one two (Other half start c other) (Other half2 start2 c2 other2) =
      let h = same_half bytes half half2 start start2 c c2 in let s = same_start bytes half half2 start start2 c c2 in
      same_err _ _ (λ i. OtherStore (s i).header header (h i * half_len + 5))
  one_opening one two (Other half start c other) (New none is memory) = absurd (not_unbegun bytes half start c none)
  one_opening one two (Other half start c other) (Read half2 start2 a c2 same replays) = absurd (other (ap (λ (s : Start). s.header) (same_start bytes half half2 start start2 c c2) ∙ same))
  one_opening one two (New none is memory) (Unbegun none2 not) = absurd (both_ways begin not is)
  one_opening one two (New none is memory) (NoStart at byte damage) = absurd (unbegun_whole bytes at byte none damage)
  one_opening one two (New none is memory) (Other half start c other) = absurd (not_unbegun bytes half start c none)
  one_opening one two (New none is memory) (New none2 is2 memory2) = record { answers = refl; memories = memory ∙ sym memory2 }
  one_opening one two (New none is memory) (Read half start a c same replays) = absurd (not_unbegun bytes half start c none)
  one_opening one two (Read half start a c same replays) (Unbegun none not) = absurd (not_unbegun bytes half start c none)
  one_opening one two (Read half start a c same replays) (NoStart at byte damage) = absurd (current_whole bytes half start c at byte damage)
  one_opening one two (Read half start a c same replays) (Other half2 start2 c2 other) = absurd (other (ap (λ (s : Start). s.header) (same_start bytes half2 half start2 start c2 c) ∙ same))
  one_opening one two (Read half start a c same replays) (New none is memory) = absurd (not_unbegun bytes half start c none)
  one_opening one two (Read half start a c same replays) (Read half2 start2 a2 c2 same2 replays2) =
      let h = same_half bytes half2 half start2 start c2 c in let s = same_start bytes half2 half start2 start c2 c in
      replays_agree _ half start (image Recipes) m n _ _ 0 _ _ one two replays
      (subst (λ (x : Start). ReplaysAll header half x image n two) s (subst (λ (x : ℕ). ReplaysAll header x start2 image n two) h replays2))
