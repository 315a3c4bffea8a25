-- What a crash leaves in each call, and what stands after it.
use Rattle.std.proofs.Common.{◌≡◌, ◌≢◌, inl, inr, ℕ, ◌+◌, ◌-◌, ◌*◌, ◌<◌, ◌≤◌, max, List, [], ◌∷◌, ◌++◌, length, get_or, Result, Ok, Err, OnOk, refl, sym, ◌∙◌, ap, subst, arith, length-append}
use Rattle.journal_halves.specs.CdEdges.area.Area.{Area}
use Rattle.journal_halves.specs.CdEdges.area.Area.TheVariants.{Journal}
use Rattle.journal_halves.specs.CdEdges.Disk.{Store, Areas, Cloud, MayLeave, IsImage, LeavesOnly, IsAtArea, overwritten, reads}
use Rattle.journal_halves.specs.CdEdges.Shelf.{Stays, Writes, wrote, stable}
use Rattle.journal_halves.proofs.CdEdges.Moments.{started, stayed, weaker, joined}
use Rattle.journal_halves.proofs.CdEdges.Overwritten.{length-overwritten, overwritten_inside}
use Rattle.journal_halves.proofs.CdEdges.Runs.{begin, writes}
use Rattle.journal_halves.proofs.CdEdges.Torn.{only}
use Rattle.journal_halves.specs.Records.{IsJournalBody, sized}
use Rattle.journal_halves.specs.JournalStart.start.Start.{Start}
use Rattle.journal_halves.specs.JournalStart.Spelling.{start_bytes, records_of}
use Rattle.journal_halves.specs.Halves.{half_len}
use Rattle.journal_halves.specs.Journals.{Where, with_body, used_by, HasChain, IsEither, Stands, MayFollow, IsClosedAt, IsOpenAt, IsCheckpointLaid, IsLaidWhole}
use Rattle.journal_halves.proofs.Laying.{laying_stands}
use Rattle.journal_halves.proofs.Settling.{settles}
use Rattle.journal_halves.proofs.Turning.{turning_stands}
use Rattle.journal_halves.proofs.Adding.{read_left}
use Rattle.commit_journal.specs.Turning.{WriterState, begun_with, IsWriterLaying}
use Rattle.commit_journal.proofs.Turns.{begun, with_record, apart_wrote, written_out, whole, used_is, settled}

-- what follows where a call was Ok
pub on_ok : {T E : Type 0} (r : Result T E) (A B : Type 0) → OnOk r A → (A → B) → OnOk r B
on_ok (Ok v) A B a f = f a
on_ok (Err e) A B a f = tt

-- ---- the first gate is closed

stands_image : (store : Store) (w : Where) (image : List ℕ) → Stands store w → MayLeave store image → HasChain image w
stands_image store w image is left = subst (λ (l : List ℕ). HasChain l w) (sym (only store.read image (subst (λ (s : Store). MayLeave s image) is.synced left))) is.chain_there

-- a call that changes nothing
pub unmoved : (c0 c1 : Cloud) (w : Where) → Stands (c0.now Journal) w → Stays c0 c1 → LeavesOnly c0 c1 (IsAtArea c0.now Journal (λ image. HasChain image w))
unmoved c0 c1 w is stays = stayed c0 c1 _ stays (λ image now. record { area = stands_image (c0.now Journal) w (image Journal) is (now Journal); others = λ other ne. now other })

pub closing : (c0 c1 c2 : Cloud) (w : Where) (half : ℕ) → Stands (c0.now Journal) w → half ≡ 1 - w.half → IsOpenAt (c0.now Journal).read half → Stays c0 c1
    → LeavesOnly c1 c2 (IsAtArea c1.now Journal (MayLeave (wrote (c1.now Journal) (half * half_len) (0 ∷ [])))) → LeavesOnly c0 c2 (IsAtArea c0.now Journal (λ image. HasChain image w))
closing c0 c1 c2 w half is other open_at stays run =
    joined c0 c1 c2 _ (unmoved c0 c1 w is stays) (weaker c1 c2 _ _ run (λ image at. record {
      area = turning_stands (c0.now Journal) w half other is open_at (image Journal)
          (subst (λ (s : Store). MayLeave (wrote s (half * half_len) (0 ∷ [])) (image Journal)) (ap (λ (a : Areas). a Journal) stays.now) at.area);
      others = λ other ne. subst (λ (s : Store). MayLeave s (image other)) (ap (λ (a : Areas). a other) stays.now) (at.others other ne);
    }))

pub closed_now : (store last : Store) (w : Where) (half : ℕ) → Stands store w → half ≡ 1 - w.half → IsOpenAt store.read half → last ≡ stable (overwritten store.read (half * half_len) (0 ∷ []))
    → MayLeave (wrote store (half * half_len) (0 ∷ [])) last.read → Stands last w × IsClosedAt last.read half
closed_now store last w half is other open_at is_last left =
    let b = half * half_len in
    let read : last.read ≡ overwritten store.read b (0 ∷ []) = ap (λ (s : Store). s.read) is_last in
    let zero_there : get_or last.read b 0 ≡ 0 = ap (λ (l : List ℕ). get_or l b 0) read ∙ ap (λ (n : ℕ). get_or (overwritten store.read b (0 ∷ [])) n 0) (omega arith) ∙ overwritten_inside store.read b (0 ∷ []) 0 (omega arith) in (
      record { synced = is_last ∙ ap stable (sym read); chain_there = turning_stands store w half other is open_at last.read left; sizes = is.sizes; within = is.within },
      record { inside = omega (arith, ap length read, length-overwritten store.read b (0 ∷ [])); closed = λ one. omega (arith, one, zero_there) },
    )

-- ---- a checkpoint is begun, and a record comes to it

pub begun_laying : (state : WriterState) (store : Store) (w : Where) (half : ℕ) (start : Start) → state ≡ record { half = half; written = 0; waiting = sized (start_bytes start); left = records_of start.checkpoint }
    → Stands store w → IsClosedAt store.read half → MayFollow w half start → IsWriterLaying state store w (begun_with half start)
begun_laying state store w half start is stands closed follows =
    subst (λ (s : WriterState). IsWriterLaying s store w (begun_with half start)) (sym is)
    (record { half = refl; bytes = []; count = refl; laid = begun store w half start stands closed follows; left = omega arith })

pub one_more : (old new : WriterState) (store : Store) (w next : Where) (body : List ℕ) → IsWriterLaying old store w next → IsJournalBody body → 1 ≤ old.left → new ≡ record old { waiting = old.waiting ++ 1 ∷ sized body; left = old.left - 1 }
    → IsWriterLaying new store w (with_body next body)
one_more old new store w next body is one some same =
    subst (λ (s : WriterState). IsWriterLaying s store w (with_body next body)) (sym same)
    (record {
      half = is.half;
      bytes = is.bytes;
      count = is.count;
      laid = with_record store w next is.bytes old.waiting body is.laid one;
      left = omega (arith, is.left, some, length-append next.bodies (body ∷ []));
    })

-- ---- what waits is written

at_place : (state : WriterState) (store : Store) (w next : Where) (at : ℕ) → IsWriterLaying state store w next → at ≡ state.half * half_len + 1 + state.written → (is : IsWriterLaying state store w next) → at ≡ next.half * half_len + 1 + length is.bytes
at_place state store w next at laying place is = place ∙ ap (λ (h : ℕ). h * half_len + 1 + state.written) is.half ∙ ap (λ (n : ℕ). next.half * half_len + 1 + n) is.count

module _ (state : WriterState) (c0 c1 : Cloud) (w next : Where) (at : ℕ) (is : IsWriterLaying state (c0.now Journal) w next) (place : at ≡ state.half * half_len + 1 + state.written) (within : state.written + length state.waiting + 2 ≤ half_len) where
  there : at ≡ next.half * half_len + 1 + length is.bytes
  there = at_place state (c0.now Journal) w next at is place is

  pub flushing : {T E : Type 0} (r : Result T E) → Writes c0 c1 Journal at state.waiting r → LeavesOnly c0 c1 (IsAtArea c0.now Journal (λ image. HasChain image w))
  flushing r call =
      let apart = apart_wrote (c0.now Journal) w next.half at state.waiting is.laid.apart (omega (arith, there)) (omega (arith, there, within, is.count)) in
      (writes Journal (λ image. HasChain image w) r c0 c0 c1 at state.waiting
      (begin Journal (λ image. HasChain image w) c0 (λ image left. laying_stands (c0.now Journal) w next.half is.laid.apart image left)) call
      (λ image left. laying_stands (wrote (c0.now Journal) at state.waiting) w next.half apart image left)).leaves

  pub unflushed : LeavesOnly c0 c0 (IsAtArea c0.now Journal (λ image. HasChain image w))
  unflushed = started c0 _ (λ image now. record { area = laying_stands (c0.now Journal) w next.half is.laid.apart (image Journal) (now Journal); others = λ other ne. now other })

  pub flushed : (new : WriterState) → IsImage c0.now (reads c0.now) → c1.now Journal ≡ wrote (c0.now Journal) at state.waiting → new ≡ record state { written = state.written + length state.waiting; waiting = [] } → IsWriterLaying new (c1.now Journal) w next
  flushed new image store same =
      subst (λ (s : WriterState). IsWriterLaying s (c1.now Journal) w next) (sym same) (subst (λ (s : Store). IsWriterLaying (record state { written = state.written + length state.waiting; waiting = [] }) s w next) (sym store)
      (record {
        half = is.half;
        bytes = is.bytes ++ state.waiting;
        count = omega (arith, is.count, length-append is.bytes state.waiting);
        laid = written_out (c0.now Journal) w next is.bytes state.waiting is.laid (image Journal) at there (omega (arith, within, is.count));
        left = is.left;
      }))

  -- ---- the checkpoint is settled

  pub first_part : LeavesOnly c0 c1 (IsAtArea c0.now Journal (MayLeave (wrote (c0.now Journal) at (state.waiting ++ 0 ∷ [])))) → LeavesOnly c0 c1 (IsAtArea c0.now Journal (IsEither w next))
  first_part run =
      let apart = apart_wrote (c0.now Journal) w next.half at (state.waiting ++ 0 ∷ []) is.laid.apart (omega (arith, there)) (omega (arith, there, within, is.count, length-append state.waiting (0 ∷ []))) in
      weaker c0 c1 _ _ run (λ image left. record { area = inl (laying_stands (wrote (c0.now Journal) at (state.waiting ++ 0 ∷ [])) w next.half apart (image Journal) left.area); others = left.others })

  pub laid_whole : LeavesOnly c0 c1 (IsAtArea c0.now Journal (MayLeave (wrote (c0.now Journal) at (state.waiting ++ 0 ∷ [])))) → IsImage c0.now (reads c0.now) → IsImage c1.now (reads c1.now)
      → c1.now Journal ≡ stable (overwritten (c0.now Journal).read at (state.waiting ++ 0 ∷ [])) → IsLaidWhole (c1.now Journal) w next
  laid_whole run image0 image1 written =
      whole (c0.now Journal) w next is.bytes state.waiting is.laid (image0 Journal) at there (c1.now Journal) written (read_left c0 c1 _ run image1) (omega (arith, within, is.count))

  pub second_part : (c2 : Cloud) → LeavesOnly c0 c1 (IsAtArea c0.now Journal (MayLeave (wrote (c0.now Journal) at (state.waiting ++ 0 ∷ [])))) → IsLaidWhole (c1.now Journal) w next → ((other : Area) → other ≢ Journal → c1.now other ≡ c0.now other)
      → LeavesOnly c1 c2 (IsAtArea c1.now Journal (MayLeave (wrote (c1.now Journal) (state.half * half_len) (1 ∷ [])))) → LeavesOnly c0 c2 (IsAtArea c0.now Journal (IsEither w next))
  second_part c2 first laid others run =
      joined c0 c1 c2 _ (first_part first) (weaker c1 c2 _ _ run (λ image left. record {
        area = settles (c1.now Journal) w next laid (image Journal) (subst (λ (h : ℕ). MayLeave (wrote (c1.now Journal) (h * half_len) (1 ∷ [])) (image Journal)) is.half left.area);
        others = λ other ne. subst (λ (s : Store). MayLeave s (image other)) (others other ne) (left.others other ne);
      }))

  pub stands_then : (c2 : Cloud) → IsLaidWhole (c1.now Journal) w next → LeavesOnly c1 c2 (IsAtArea c1.now Journal (MayLeave (wrote (c1.now Journal) (state.half * half_len) (1 ∷ [])))) → IsImage c2.now (reads c2.now)
      → c2.now Journal ≡ stable (overwritten (c1.now Journal).read (state.half * half_len) (1 ∷ [])) → Stands (c2.now Journal) next
  stands_then c2 laid run image written =
      settled (c1.now Journal) (c2.now Journal) w next laid
      (subst (λ (h : ℕ). MayLeave (wrote (c1.now Journal) (h * half_len) (1 ∷ [])) (c2.now Journal).read) is.half (read_left c1 c2 _ run image))
      (written ∙ ap (λ (h : ℕ). stable (overwritten (c1.now Journal).read (h * half_len) (1 ∷ []))) is.half)
      (omega (arith, used_is (c0.now Journal) w next is.bytes state.waiting is.laid, is.count, within))
