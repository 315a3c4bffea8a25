-- What a beginning leaves.
use Rattle.std.proofs.Common.{◌≡◌, ◌≢◌, inl, inr, ℕ, ◌+◌, ◌-◌, ◌≤◌, Bool, true, false, cond, eqb, Option, Some, None, Result, Ok, Err, OnOk, List, [], ◌∷◌, ◌++◌, length, take, drop, get_or, refl, sym, ap, ◌∙◌, subst, arith, append_assoc, append-nil, length-append, eqb-true}
use Rattle.std.proofs.Math.Seq.{take-add, take-length, take-append-add}
use Rattle.std.proofs.lemmas.Bool.{false≢true}
use Rattle.std.specs.Int.{w32, to_be_bytes}
use Rattle.std.proofs.lemmas.List.{length-take, length-drop, drop_at}
use Rattle.commit_journal.specs.CdEdges.area.Area.{Area}
use Rattle.commit_journal.specs.CdEdges.area.Area.TheVariants.{Journal, Shares, Recipes}
use Rattle.commit_journal.specs.CdEdges.Disk.{Store, Areas, Cloud, Image, MayLeave, IsImage, LeavesOnly, IsAtArea, overwritten, reads}
use Rattle.commit_journal.specs.CdEdges.Shelf.{Stays, wrote, stable}
use Rattle.commit_journal.proofs.CdEdges.Moments.{joined, weaker, stayed, started, at_end}
use Rattle.commit_journal.proofs.CdEdges.Torn.{only}
use Rattle.commit_journal.specs.JournalHalves.Records.{IsJournal, IsDamage, LastGate, BadLength, chain}
use Rattle.commit_journal.proofs.JournalHalves.Chain.{overwritten_within}
use Rattle.commit_journal.proofs.JournalHalves.Unique.{first_of}
use Rattle.commit_journal.specs.JournalStart.start.Header.{Header}
use Rattle.commit_journal.specs.JournalStart.start.Start.{Start}
use Rattle.commit_journal.specs.JournalStart.Spelling.{start_bytes}
use Rattle.commit_journal.specs.JournalHalves.Beginnings.{IsUnbegun, new_of}
use Rattle.commit_journal.specs.JournalHalves.Halves.{half_len, half_of, is_half_begun, HasStart, IsCurrent}
use Rattle.commit_journal.specs.JournalHalves.Findings.{part_of, IsFoundDamage, InFirst, InSecond, Epochs}
use Rattle.commit_journal.specs.JournalHalves.Journals.{Where, HasChain, IsEither, all_bodies, with_body}
use Rattle.commit_journal.specs.JournalHalves.Outcomes as steps
use Rattle.commit_journal.specs.JournalHalves.errors.RecordErr.TheVariants as jerrors
use Rattle.commit_journal.proofs.JournalHalves.Current.{one_start, begun_half, one_chain}
use Rattle.commit_journal.specs.declared.errors.OpenErr.{OpenErr}
use Rattle.commit_journal.specs.declared.errors.OpenErr.TheVariants as opens
use Rattle.commit_journal.specs.Openings.{MayBeBegun, OpensIs, IsOpened}
use Rattle.commit_journal.specs.declared.journal.Stage.{Stage}
use Rattle.commit_journal.specs.declared.journal.Stage.TheVariants.{AtEnd, Shut}
use Rattle.commit_journal.specs.Outcomes.{NextIs, IsDamaged}
use Rattle.commit_journal.specs.States.{IsJournalReading, IsJournalEnded}
use Rattle.commit_journal.specs.States as half
use Rattle.grammar.specs.CdBase.shape.Shape.{Shape}
use Rattle.upload_job.specs.Upload.{FileVersion}
use Rattle.upload_spool.specs.Spools.{HasOpenJob, IsBegunOr, spool_header, job_bytes}
use Rattle.upload_spool.proofs.Chains.{used}
use Rattle.upload_spool.proofs.Lanes.{no_lanes}
use Rattle.upload_spool.specs.States.{chosen, first_filled, IsWrittenSoFar, IsJournalKept, HasFile, NoOpenJob, HasNoOpenJob, IsNewSpool, IsNewRead, IsNewJobOr, HasJob, IsSpoolOkOrFault, spool_error, SpoolState, IsOf, IsSpool}
use Rattle.upload_spool.proofs.Notes.{both, shares≢journal, still_alone}

-- ---- which area isn't empty

pub counted : (c0 c1 c2 : Cloud) (a b c : ℕ) → Stays c0 c1 → Stays c1 c2 → a ≡ length (c0.now Journal).read → b ≡ length (c1.now Shares).read → c ≡ length (c2.now Recipes).read
    → chosen a b c ≡ first_filled (reads c0.now)
counted c0 c1 c2 a b c one two j s r =
    let s0 = s ∙ ap (λ (x : Areas). length (x Shares).read) one.now in
    let r0 = r ∙ ap (λ (x : Areas). length (x Recipes).read) (two.now ∙ one.now) in
    λ i. chosen (j i) (s0 i) (r0 i)

nothing : (xs : List ℕ) → length xs ≡ 0 → xs ≡ []
nothing [] e = refl
nothing (x ∷ xs) e = absurd (omega arith)

-- where no area is filled they are empty
none_chosen : (a b c : ℕ) → (d e : Bool) → eqb a 0 ≡ d → eqb b 0 ≡ e → cond {A = Option (Area × ℕ)} d (cond {A = Option (Area × ℕ)} e (cond {A = Option (Area × ℕ)} (eqb c 0) None (Some (Recipes, c))) (Some (Shares, b))) (Some (Journal, a)) ≡ None → (a ≡ 0) × (b ≡ 0)
none_chosen a b c true true x y h = (eqb-true a 0 x, eqb-true b 0 y)
none_chosen a b c true false x y h = absurd cc
none_chosen a b c false e x y h = absurd cc

pub empty_of : (image : Image) → first_filled image ≡ None → (image Journal ≡ []) × (image Shares ≡ [])
empty_of image e =
    let two = none_chosen (length (image Journal)) (length (image Shares)) (length (image Recipes)) (eqb (length (image Journal)) 0) (eqb (length (image Shares)) 0) refl refl e in
    (nothing (image Journal) two.0, nothing (image Shares) two.1)

pub unbegun_empty : (bytes : List ℕ) → bytes ≡ [] → IsUnbegun bytes
unbegun_empty bytes e = subst IsUnbegun (sym e) (record { first = refl; second = refl })

-- ---- the file

pub journal≢shares : Journal ≢ Shares
journal≢shares e = cc

drop_past : (n : ℕ) (xs : List ℕ) → length xs ≤ n → drop n xs ≡ []
drop_past n xs le = nothing (drop n xs) (omega (arith, length-drop n xs))

take_past : (n : ℕ) (xs : List ℕ) → n ≡ length xs → take n xs ≡ xs
take_past n xs e = ap (λ (k : ℕ). take k xs) e ∙ take-length xs

appended : (old piece : List ℕ) (at : ℕ) → at ≡ length old → overwritten old at piece ≡ old ++ piece
appended old piece at e =
    overwritten_within old at piece (omega (arith, e)) ∙ ap (λ (l : List ℕ). l ++ piece ++ drop (at + length piece) old) (take_past at old e)
    ∙ ap (λ (l : List ℕ). old ++ piece ++ l) (drop_past (at + length piece) old (omega (arith, e))) ∙ append-nil (old ++ piece)

pub begun_along : (c : Cloud) (file : List ℕ) → IsWrittenSoFar c c 0 file
begun_along c file = record {
  leaves = started c _ (λ image now. now Journal);
  others = λ other ne. refl;
  held = λ empty. (empty, inl refl);
}

kept_on : (start old new : Cloud) (Q : List ℕ → Type 0) → IsJournalKept start old → old.now Journal ≡ start.now Journal → LeavesOnly old new (IsAtArea old.now Shares Q) → IsJournalKept start new
kept_on start old new Q run same next = joined start old new _ run (weaker old new _ _ next (λ image at.
    subst (λ (s : Store). MayLeave s (image Journal)) same (at.others Journal journal≢shares)))

pub one_piece : (start old new : Cloud) (at : ℕ) (file piece : List ℕ) → IsWrittenSoFar start old at file → LeavesOnly old new (IsAtArea old.now Shares (MayLeave (wrote (old.now Shares) at piece))) → IsJournalKept start new
one_piece start old new at file piece along run = kept_on start old new _ along.leaves (along.others Journal journal≢shares) run

pub further : (start old new : Cloud) (at : ℕ) (file piece : List ℕ) (count : ℕ) → at ≤ length file → IsWrittenSoFar start old at file → piece ≡ take count (drop at file)
    → LeavesOnly old new (IsAtArea old.now Shares (MayLeave (wrote (old.now Shares) at piece))) → new.now Shares ≡ stable (overwritten (old.now Shares).read at piece)
    → ((other : Area) → other ≢ Shares → new.now other ≡ old.now other) → IsWrittenSoFar start new (at + count) file
further start old new at file piece count within along is run written others = record {
  leaves = one_piece start old new at file piece along run;
  others = λ other ne. others other ne ∙ along.others other ne;
  held = λ empty.
      let held = along.held empty in
      let long : at ≡ length (take at file) = omega (arith, length-take at file, within) in
      let whole : overwritten (old.now Shares).read at piece ≡ take (at + count) file =
      ap (λ (l : List ℕ). overwritten l at piece) held.0 ∙ appended (take at file) piece at long ∙ ap (λ (l : List ℕ). take at file ++ l) is ∙ sym (take-add at count file) in
      let store : new.now Shares ≡ stable (take (at + count) file) = written ∙ ap stable whole in
      (ap (λ (s : Store). s.read) store, inr store);
}

pub file_written : (start now : Cloud) (at : ℕ) (file : List ℕ) → IsWrittenSoFar start now at file → at ≡ length file → (start.now Shares).read ≡ [] → HasFile file (now.now Shares)
file_written start now at file along all empty = λ image left.
    elim (along.held empty).1 [
      | inl none ↦ let no : length file ≡ 0 = sym all ∙ none in subst (λ (l : List ℕ). take (length l) image ≡ l) (sym (nothing file no)) refl
      | inr store ↦
          let whole : take at file ≡ file = take_past at file all in
          let same : image ≡ file = only (take at file) image (subst (λ (s : Store). MayLeave s image) store left) ∙ whole in
          ap (take (length file)) same ∙ take-length file
    ]

-- ---- no job is open

pub current_begun : (journal : List ℕ) (half : ℕ) (start : Start) → IsCurrent journal half start → IsUnbegun journal → ⊥
current_begun journal half start c none = elim c.is_half [
  | inl zero_is ↦ false≢true (sym none.first ∙ begun_half journal 0 start (subst (λ (h : ℕ). HasStart journal h start) zero_is c.begun))
  | inr one_is ↦ false≢true (sym none.second ∙ begun_half journal 1 start (subst (λ (h : ℕ). HasStart journal h start) one_is c.begun))
]

pub unbegun_none : (journal : List ℕ) → IsUnbegun journal → ¬ (HasOpenJob journal)
unbegun_none journal none job = current_begun journal job.w.half job.w.start job.has.current none

pub new_none : (journal : List ℕ) (header : Header) → HasChain journal (new_of header) → ¬ (HasOpenJob journal)
new_none journal header has job =
    let same = ap (λ (w : Where). length w.bodies) (one_chain journal job.w (new_of header) job.has has) in
    let lt = job.there.1 in
    omega (arith, same, lt)

become_none : (old : Areas) (header : Header) → NoOpenJob (old Journal) → (image : Image) → MayBeBegun old header true image → HasNoOpenJob old image
become_none old header nojob image (inl left) = record { none = nojob (image Journal) (left Journal); shares = left Shares }
become_none old header nojob image (inr new) = record {
  none = elim new.2.area [ inl unbegun ↦ unbegun_none (image Journal) unbegun | inr has ↦ new_none (image Journal) header has ];
  shares = new.2.others Shares shares≢journal;
}

pub reopened_none : (c0 c1 : Cloud) (header : Header) → NoOpenJob (c0.now Journal) → LeavesOnly c0 c1 (MayBeBegun c0.now header true) → LeavesOnly c0 c1 (HasNoOpenJob c0.now)
reopened_none c0 c1 header nojob run = weaker c0 c1 _ _ run (become_none c0.now header nojob)

pub still_none : (c0 c1 c2 : Cloud) (P : Image → Type 0) → LeavesOnly c0 c1 P → Stays c1 c2 → LeavesOnly c0 c2 P
still_none c0 c1 c2 P run stays = joined c0 c1 c2 P run (stayed c1 c2 P stays (λ image now. at_end c0 c1 P run image now))

-- ---- a journal that isn't begun is opened with no other error

found_none : (journal : List ℕ) (at byte : ℕ) → IsFoundDamage journal at byte → IsUnbegun journal → ⊥
found_none journal at byte (InFirst begun damage) none = false≢true (sym none.first ∙ begun)
found_none journal at byte (InSecond place sound begun damage is) none = false≢true (sym none.second ∙ begun)
found_none journal at byte (Epochs equal) none = false≢true (sym none.first ∙ begun_half journal 0 equal.first equal.has_first)

pub opens_well : (T : Type 0) (journal : List ℕ) (header : Header) (e : OpenErr) → IsUnbegun journal → OpensIs journal header true (Err e) → IsSpoolOkOrFault {T = T} (Err (spool_error e))
opens_well T journal header opens.Fault none is = tt
opens_well T journal header (opens.NotBegun len) none is = false≢true (sym is.1)
opens_well T journal header (opens.Damaged at byte) none is = found_none journal at byte is none
opens_well T journal header (opens.OtherStore found asked at) none is = current_begun journal is.0 is.1.start is.1.is_current none

-- ---- the start of a journal with no record, and what is behind it

opened_new : (read : List ℕ) (header : Header) (w : Where) → IsCurrent read w.half w.start → w.bodies ≡ [] → HasChain read (new_of header) → is_half_begun 1 read ≡ false → w ≡ new_of header
opened_new read header w c none has alone = elim c.is_half [
  | inl zero_is ↦
      let start = one_start read 0 w.start (new_of header).start (subst (λ (h : ℕ). HasStart read h w.start) zero_is c.begun) has.current.begun in
      λ i. record { half = zero_is i; start = start i; bodies = none i }
  | inr one_is ↦ absurd (false≢true (sym alone ∙ begun_half read 1 w.start (subst (λ (h : ℕ). HasStart read h w.start) one_is c.begun)))
]

pub new_read : (state : half.JournalState) (cloud : Cloud) (header : Header) → IsOpened state (cloud.now Journal) header → HasChain (cloud.now Journal).read (new_of header) → is_half_begun 1 (cloud.now Journal).read ≡ false
    → IsNewRead state header cloud
new_read state cloud header is has alone =
    let same = opened_new (cloud.now Journal).read header is.w is.reading.is_current is.none has alone in
    record { reading = subst (IsJournalReading state (cloud.now Journal)) same is.reading; has = has; alone = alone }

-- the chain within its half
part_chain : (bodies : List (List ℕ)) (bytes : List ℕ) (j : IsJournal bodies bytes) → length (chain bodies) + 1 ≤ half_len → (late : List ℕ) × (take half_len bytes ≡ chain bodies ++ j.gate ∷ late)
part_chain bodies bytes j within =
    let front = chain bodies ++ j.gate ∷ [] in
    let long : length front ≡ length (chain bodies) + 1 = omega (arith, length-append (chain bodies) (j.gate ∷ [])) in
    let m = half_len - length front in
    let sum : half_len ≡ length front + m = omega (arith, long, within) in
    let whole : bytes ≡ front ++ j.behind = j.spelled ∙ sym (append_assoc (chain bodies) (j.gate ∷ []) j.behind) in
    (take m j.behind, ap (take half_len) whole ∙ ap (λ (n : ℕ). take n (front ++ j.behind)) sum ∙ take-append-add front j.behind m ∙ append_assoc (chain bodies) (j.gate ∷ []) (take m j.behind))

new_len : (header : Header) (read : List ℕ) → HasChain read (new_of header) → length (chain (all_bodies (new_of header))) ≤ 65541
new_len header read has =
    let few = has.chain_is.sizes.0.few in
    omega (arith, few, length-append (to_be_bytes w32 (length (start_bytes (new_of header).start)) ++ start_bytes (new_of header).start) [], length-append (to_be_bytes w32 (length (start_bytes (new_of header).start))) (start_bytes (new_of header).start))

no_more : (state : half.JournalState) (store : Store) (header : Header) (body : List ℕ) → HasChain store.read (new_of header) → IsJournalReading state store (with_body (new_of header) body) → ⊥
no_more state store header body has reading =
    let one = all_bodies (with_body (new_of header) body) in let two = all_bodies (new_of header) in
    let part = part_chain two (half_of 0 store.read) has.chain_is (omega (arith, new_len header store.read has)) in
    let here : part_of 0 store.read ≡ chain one ++ reading.read.rest = subst (λ (h : ℕ). part_of h store.read ≡ chain one ++ reading.read.rest) reading.half reading.read.spelled in
    let more = first_of one two reading.read.sizes has.chain_is.sizes reading.read.rest has.chain_is.gate part.0 has.chain_is.shut (sym here ∙ part.1) in
    omega (arith, ap (λ (l : List (List ℕ)). length l) more.1, length-append one more.0)

gate_wrong : (rest : List ℕ) (gate at byte h : ℕ) (late : List ℕ) → h ≢ 1 → rest ≡ h ∷ late → IsDamage rest gate at byte → ⊥
gate_wrong rest gate at byte h late shut is (LastGate last a b) = shut (ap (λ (l : List ℕ). get_or l 0 0) (sym is ∙ last))
gate_wrong rest gate at byte h late shut is (BadLength tail opened none a) = shut (ap (λ (l : List ℕ). get_or l 0 0) (sym is ∙ opened))

no_damage : (state : half.JournalState) (store : Store) (header : Header) (at byte : ℕ) → HasChain store.read (new_of header) → IsJournalReading state store (new_of header) → IsDamaged state store at byte → ⊥
no_damage state store header at byte has reading (inl damage) =
    let two = all_bodies (new_of header) in
    let part = part_chain two (half_of 0 store.read) has.chain_is (omega (arith, new_len header store.read has)) in
    let rest : steps.rest_of state.current store ≡ has.chain_is.gate ∷ part.0 =
    ap (λ (h : ℕ). drop state.current.gate (part_of h store.read)) reading.half ∙ ap (drop state.current.gate) part.1
    ∙ ap (λ (n : ℕ). drop n (chain two ++ has.chain_is.gate ∷ part.0)) reading.read.gate ∙ drop_at (chain two) (has.chain_is.gate ∷ part.0) (length (chain two)) refl in
    gate_wrong (steps.rest_of state.current store) (steps.gate_at state.current) at byte has.chain_is.gate part.0 has.chain_is.shut rest damage
no_damage state store header at byte has reading (inr early) = let more = early.1.more in omega (arith, more, reading.left)

-- what the gate behind the start says
pub next_new : (before after : half.JournalState) (cloud last : Cloud) (header : Header) (more : Bool) → IsNewRead before header cloud → last.now ≡ cloud.now → NextIs before after (cloud.now Journal) (new_of header) (Ok more)
    → (more ≡ false) × IsNewSpool after header last
next_new before after cloud last header true is same next = absurd (no_more after (cloud.now Journal) header after.current.body is.has next)
next_new before after cloud last header false is same next = (
  refl,
  record { ended = subst (λ (a : Areas). IsJournalEnded after (a Journal) (new_of header)) (sym same) next; alone = subst (λ (a : Areas). is_half_begun 1 (a Journal).read ≡ false) (sym same) is.alone },
)

pub next_wrong : (before after : half.JournalState) (cloud : Cloud) (header : Header) (at byte : ℕ) → IsNewRead before header cloud → NextIs before after (cloud.now Journal) (new_of header) (Err (jerrors.Damaged at byte)) → ⊥
next_wrong before after cloud header at byte is next = no_damage before (cloud.now Journal) header at byte is.has is.reading next

-- ---- all of it

pub first_step : (c0 c1 : Cloud) (header : Header) (file body : List ℕ) → NoOpenJob (c0.now Journal) → IsJournalKept c0 c1 → LeavesOnly c0 c1 (IsNewJobOr header file body)
first_step c0 c1 header file body nojob run = weaker c0 c1 _ _ run (λ image left. inl (nojob (image Journal) left))

pub second_step : (c0 c1 c2 : Cloud) (header : Header) (file body : List ℕ) → NoOpenJob (c0.now Journal) → IsJournalKept c0 c1 → LeavesOnly c1 c2 (HasNoOpenJob c1.now) → LeavesOnly c0 c2 (IsNewJobOr header file body)
second_step c0 c1 c2 header file body nojob run next = joined c0 c1 c2 _ (first_step c0 c1 header file body nojob run) (weaker c1 c2 _ _ next (λ image at. inl at.none))

pub third_step : (c0 c2 c3 : Cloud) (header : Header) (file body : List ℕ) → LeavesOnly c0 c2 (IsNewJobOr header file body) → is_half_begun 1 (c2.now Journal).read ≡ false → HasFile file (c2.now Shares)
    → LeavesOnly c2 c3 (IsAtArea c2.now Journal (IsEither (new_of header) (with_body (new_of header) body))) → LeavesOnly c2 c3 (λ image. part_of 1 (image Journal) ≡ part_of 1 (c2.now Journal).read)
    → LeavesOnly c0 c3 (IsNewJobOr header file body)
third_step c0 c2 c3 header file body run alone has either other = joined c0 c2 c3 _ run (weaker c2 c3 _ _ (both c2 c3 _ _ either other) (λ image at. elim at.0.area [
  | inl old ↦ inl (new_none (image Journal) header old)
  | inr new ↦ inr (record { alone = still_alone (image Journal) (c2.now Journal).read at.1 alone; has = new; file_is = has (image Shares) (at.0.others Shares shares≢journal) })
]))

pub job_kept : (state : half.JournalState) (c2 c3 : Cloud) (header : Header) (file body : List ℕ) → is_half_begun 1 (c2.now Journal).read ≡ false → HasFile file (c2.now Shares) → IsJournalEnded state (c3.now Journal) (with_body (new_of header) body)
    → LeavesOnly c2 c3 (λ image. part_of 1 (image Journal) ≡ part_of 1 (c2.now Journal).read) → IsImage c3.now (reads c3.now) → ((area : Area) → area ≢ Journal → c3.now area ≡ c2.now area) → HasJob state header file body c3
job_kept state c2 c3 header file body alone has ended other now others = record {
  ended = ended;
  alone = still_alone (c3.now Journal).read (c2.now Journal).read (at_end c2 c3 _ other (reads c3.now) now) alone;
  file_is = subst (HasFile file) (sym (others Shares shares≢journal)) has;
}

pub on_all : {T E : Type 0} (r : Result T E) (P : Type 0) → P → OnOk r P
on_all (Ok x) P p = p
on_all (Err x) P p = tt

pub not_at_end : (stage : Stage) → stage ≡ Shut → stage ≡ AtEnd → ⊥
not_at_end stage shut at = let e : Shut ≡ AtEnd = sym shut ∙ at in absurd cc

-- ---- a spool

pub begun_or : (shape : Shape) (v : FileVersion) (header : Header) (body : List ℕ) (image : Image) → header ≡ spool_header shape → body ≡ job_bytes v → length v.path ≤ 1024 → IsNewJobOr header v.file body image
    → IsBegunOr shape v image
begun_or shape v header body image head job short (inl none) = inl none
begun_or shape v header body image head job short (inr new) = inr (record {
  alone = new.alone;
  has = subst (λ (l : List ℕ). HasChain (image Journal) (with_body (new_of (spool_header shape)) l)) job (subst (λ (h : Header). HasChain (image Journal) (with_body (new_of h) body)) head new.has);
  within = omega (arith, used shape v [], short);
  apart = no_lanes shape;
  file = new.file_is;
})

pub none_kept : (c0 c1 : Cloud) (shape : Shape) (v : FileVersion) → Stays c0 c1 → NoOpenJob (c0.now Journal) → LeavesOnly c0 c1 (IsBegunOr shape v)
none_kept c0 c1 shape v stays nojob = stayed c0 c1 _ stays (λ image now. inl (nojob (image Journal) (now Journal)))

pub begun_kept : (c0 c1 c2 : Cloud) (shape : Shape) (v : FileVersion) (header : Header) (body : List ℕ) → Stays c0 c1 → NoOpenJob (c0.now Journal) → header ≡ spool_header shape → body ≡ job_bytes v → length v.path ≤ 1024
    → first_filled (reads c0.now) ≡ None → (first_filled (reads c1.now) ≡ None → NoOpenJob (c1.now Journal) → LeavesOnly c1 c2 (IsNewJobOr header v.file body)) → LeavesOnly c0 c2 (IsBegunOr shape v)
begun_kept c0 c1 c2 shape v header body stays nojob head job short none run = joined c0 c1 c2 _ (none_kept c0 c1 shape v stays nojob) (weaker c1 c2 _ _
    (run (subst (λ (a : Areas). first_filled (reads a) ≡ None) (sym stays.now) none) (subst (λ (a : Areas). NoOpenJob (a Journal)) (sym stays.now) nojob))
    (λ image is. begun_or shape v header body image head job short is))

pub spool_begun : (state : SpoolState) (shape : Shape) (v : FileVersion) (header : Header) (body : List ℕ) (cloud : Cloud) → HasJob state.journal header v.file body cloud → state.shape ≡ shape → header ≡ spool_header shape → body ≡ job_bytes v
    → IsOf state v → state.noted ≡ [] → length v.path ≤ 1024 → IsSpool state v [] cloud
spool_begun state shape v header body cloud has same head job of none short =
    let whole : header ≡ spool_header state.shape = head ∙ ap spool_header (sym same) in
    record {
      of = of;
      noted = none;
      apart = no_lanes state.shape;
      ended = subst (λ (l : List ℕ). IsJournalEnded state.journal (cloud.now Journal) (with_body (new_of (spool_header state.shape)) l)) job
          (subst (λ (h : Header). IsJournalEnded state.journal (cloud.now Journal) (with_body (new_of h) body)) whole has.ended);
      within = omega (arith, used state.shape v [], short);
      alone = has.alone;
      file = has.file_is;
    }

pub none_on : (c0 c1 : Cloud) → Stays c0 c1 → first_filled (reads c0.now) ≡ None → first_filled (reads c1.now) ≡ None
none_on c0 c1 stays none = subst (λ (a : Areas). first_filled (reads a) ≡ None) (sym stays.now) none
