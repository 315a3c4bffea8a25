-- What an opening finds and leaves.
use Rattle.std.proofs.Common.{◌≡◌, inl, inr, ℕ, ◌≤◌, Bool, true, false, Some, None, Result, Ok, Err, List, [], ◌∷◌, ◌++◌, length, map, take, refl, sym, ap, ◌∙◌, subst, append_assoc, append-nil}
use Rattle.std.specs.Prelude.{IsTrue}
use Rattle.sha2.specs.Sha256.{sha256 as sha256_of}
use Rattle.grammar.specs.CdBase.ids.CloudNo.{CloudNo}
use Rattle.grammar.specs.CdBase.ids.Fp.{Fp}
use Rattle.grammar.specs.CdBase.shape.Shape.{Shape}
use Rattle.commit_journal.specs.CdEdges.area.Area.TheVariants.{Journal, Shares}
use Rattle.commit_journal.specs.CdEdges.Disk.{Store, Areas, Cloud, Image, MayLeave, IsImage, LeavesOnly, reads}
use Rattle.commit_journal.specs.CdEdges.Shelf.{Stays, Syncs, Changes, stable}
use Rattle.commit_journal.proofs.CdEdges.Moments.{started, joined, weaker, at_end}
use Rattle.commit_journal.proofs.CdEdges.Shrinks.{sync_goes_on}
use Rattle.commit_journal.proofs.CdEdges.Torn.{only}
use Rattle.commit_journal.specs.JournalHalves.Halves.{is_half_begun}
use Rattle.commit_journal.specs.JournalHalves.Journals.{Where, HasChain, used_by}
use Rattle.commit_journal.proofs.JournalHalves.Current.{one_chain}
use Rattle.commit_journal.specs.States.{IsJournalEnded}
use Rattle.commit_journal.specs.States as half
use Rattle.upload_job.specs.Lanes.{LaneView, lanes_resumed}
use Rattle.upload_job.specs.Upload.{FileVersion}
use Rattle.upload_spool.specs.Opens.{Notes, Say, HasAllNotes, OpensSpoolIs, IsOpenedSpool, answer_of, kept_file, rising, first_notes, more_notes}
use Rattle.upload_spool.specs.Reading.{JobFields, fields_for, is_lane, lane_at, lane_in, wrong_at}
use Rattle.upload_spool.specs.Spools.{AreJobLanes, FitsFileVersion, SpoolFor, spool_chain, spool_limit, lane_bytes, job_bytes}
use Rattle.upload_spool.specs.States.{IsOf, IsSpool, state_of}
use Rattle.upload_spool.specs.Steps.{AreRecordsKept, FoundIs, HasSpoolEnded, IsSpoolBrought, BringsIs, notes_in, fields_kept}
use Rattle.upload_spool.specs.declared.error.SpoolErr.{SpoolErr}
use Rattle.upload_spool.specs.declared.error.SpoolErr.TheVariants.{NotEmpty, Fault, Damaged, OtherStore, Rotten, NoMemory}
use Rattle.upload_spool.specs.declared.opening.Records.{Records}
use Rattle.upload_spool.specs.declared.records.RecordFault.{RecordFault}
use Rattle.upload_spool.specs.declared.spool.Spool.{Spool}
use Rattle.upload_spool.proofs.Begins.{journal≢shares}
use Rattle.upload_spool.proofs.Readings.{job_read, lane_read}
use Rattle.upload_spool.proofs.Steps.{all_chain}

-- ---- what is found

-- Shares was synced, and Journal stayed.
pub record IsSyncedShares (c0 c1 : Cloud) : Type 0 where
  pub shares : c1.now Shares ≡ stable (c0.now Shares).read
  pub journal : c1.now Journal ≡ c0.now Journal

pub synced_shares : (c0 c1 : Cloud) → Changes c0 c1 Shares (stable (c0.now Shares).read) → IsSyncedShares c0 c1
synced_shares c0 c1 ch = record { shares = ch.area; journal = ch.others Journal journal≢shares }

journal_read : (c0 c1 : Cloud) → IsSyncedShares c0 c1 → (c1.now Journal).read ≡ (c0.now Journal).read
journal_read c0 c1 s = ap (λ (x : Store). x.read) s.journal

shares_read : (c0 c1 : Cloud) → IsSyncedShares c0 c1 → (c1.now Shares).read ≡ (c0.now Shares).read
shares_read c0 c1 s = ap (λ (x : Store). x.read) s.shares

pub none_opens : (shape : Shape) (c0 c1 : Cloud) → IsSyncedShares c0 c1 → FoundIs shape (c1.now Journal).read (Ok None) → OpensSpoolIs shape (reads c0.now) (Ok None)
none_opens shape c0 c1 s is = subst (λ (l : List ℕ). FoundIs shape l (Ok None)) (journal_read c0 c1 s) is

err_opens_at : (shape : Shape) (image : Image) (e : SpoolErr) → FoundIs shape (image Journal) (Err e) → OpensSpoolIs shape image (Err e)
err_opens_at shape image (Damaged at byte) is = is
err_opens_at shape image (OtherStore found asked) is = is
err_opens_at shape image Fault is = tt
err_opens_at shape image NoMemory is = tt
err_opens_at shape image (NotEmpty area len) is = is
err_opens_at shape image (Rotten named found) is = absurd is

pub err_opens : (shape : Shape) (c0 c1 : Cloud) (e : SpoolErr) → IsSyncedShares c0 c1 → FoundIs shape (c1.now Journal).read (Err e) → OpensSpoolIs shape (reads c0.now) (Err e)
err_opens shape c0 c1 e s is = err_opens_at shape (reads c0.now) e (subst (λ (l : List ℕ). FoundIs shape l (Err e)) (journal_read c0 c1 s) is)

-- the records' notes
abbrev pub notes_by : Records → Notes
notes_by records = record { job = fields_kept records.job; lanes = records.noted.items }

ok_opens_at : (shape : Shape) (image : Image) (records : Records) (state : half.JournalState) (bytes : List ℕ) (x : Spool × List LaneView) → HasAllNotes shape (image Journal) (notes_in (Some records)) → IsSpoolBrought shape records state bytes x
    → bytes ≡ kept_file image (notes_by records) → OpensSpoolIs shape image (answer_of (Ok (Some x)))
ok_opens_at shape image records state bytes x has b same = (
  notes_by records,
  has,
  ap (λ (l : List ℕ). length l) (sym same) ∙ b.len,
  ap sha256_of (sym same) ∙ b.digest,
  b.shape_is,
  b.noted,
  subst (λ (l : List ℕ). IsOf (state_of x.0) (record { user = records.job.user; path = records.job.path; number = records.job.version; file = l })) same b.of,
  b.job_is ∙ ap (λ (l : List ℕ). lanes_resumed shape (record { user = records.job.user; path = records.job.path; number = records.job.version; file = l }) (rising shape records.noted.items)) same,
)

-- the bytes are those that Shares had at first
same_bytes : (c0 c1 c2 : Cloud) (records : Records) (bytes : List ℕ) → IsSyncedShares c0 c1 → c2.now Shares ≡ c1.now Shares → bytes ≡ take records.job.len (c2.now Shares).read → bytes ≡ kept_file (reads c0.now) (notes_by records)
same_bytes c0 c1 c2 records bytes s shares is = is ∙ ap (λ (x : Store). take records.job.len x.read) shares ∙ ap (take records.job.len) (shares_read c0 c1 s)

pub ok_opens : (shape : Shape) (c0 c1 c2 : Cloud) (records : Records) (state : half.JournalState) (x : Spool × List LaneView) → IsSyncedShares c0 c1 → FoundIs shape (c1.now Journal).read (Ok (Some records)) → HasSpoolEnded shape state c1 c2 records
    → IsTrue c2.told → BringsIs shape records state c2 (Ok x) → OpensSpoolIs shape (reads c0.now) (answer_of (Ok (Some x)))
ok_opens shape c0 c1 c2 records state x s found ended told b =
    ok_opens_at shape (reads c0.now) records state b.0 x (subst (λ (l : List ℕ). HasAllNotes shape l (notes_in (Some records))) (journal_read c0 c1 s) found) b.1 (same_bytes c0 c1 c2 records b.0 s ended.shares (b.2 told))

pub unbrought_opens : (shape : Shape) (c0 c1 c2 : Cloud) (records : Records) (state : half.JournalState) (e : SpoolErr) → IsSyncedShares c0 c1 → FoundIs shape (c1.now Journal).read (Ok (Some records)) → HasSpoolEnded shape state c1 c2 records
    → IsTrue c2.told → BringsIs shape records state c2 (Err e) → OpensSpoolIs shape (reads c0.now) (Err e)
unbrought_opens shape c0 c1 c2 records state (Rotten named found) s has ended told b =
    let same = same_bytes c0 c1 c2 records b.0 s ended.shares (b.2 told) in
    let r = b.1 in (
      notes_by records,
      subst (λ (l : List ℕ). HasAllNotes shape l (notes_in (Some records))) (journal_read c0 c1 s) has,
      ap (λ (f : Fp). f.0) r.named_is,
      r.found_is ∙ ap sha256_of same,
      elim r.other [ inl short ↦ inl (λ is. short (ap (λ (l : List ℕ). length l) same ∙ is)) | inr differs ↦ inr differs ],
    )
unbrought_opens shape c0 c1 c2 records state Fault s has ended told b = tt
unbrought_opens shape c0 c1 c2 records state NoMemory s has ended told b = tt
unbrought_opens shape c0 c1 c2 records state (Damaged at byte) s has ended told b = absurd b
unbrought_opens shape c0 c1 c2 records state (OtherStore found asked) s has ended told b = absurd b
unbrought_opens shape c0 c1 c2 records state (NotEmpty area len) s has ended told b = b

pub opened_spool : (shape : Shape) (records : Records) (state : half.JournalState) (cloud : Cloud) (x : Spool × List LaneView) → AreRecordsKept shape 62 state records → BringsIs shape records state cloud (Ok x) → IsOpenedSpool shape x
opened_spool shape records state cloud x kept b =
    let is = b.1 in
    record {
      shape_is = is.shape_is;
      stage = ap (λ (s : half.JournalState). s.stage) is.journal ∙ kept.stage;
      v = record { user = records.job.user; path = records.job.path; number = records.job.version; file = b.0 };
      path = kept.path;
      few = subst (λ (n : ℕ). n ≤ 67108864) (sym is.len) kept.few;
      of = is.of;
      job_is = is.job_is ∙ ap (λ (l : List CloudNo). lanes_resumed shape (record { user = records.job.user; path = records.job.path; number = records.job.version; file = b.0 }) (rising shape l)) (sym is.noted);
    }

-- ---- what a crash leaves

pub sync_spares : {T E : Type 0} (r : Result T E) (c0 c1 : Cloud) → IsImage c0.now (reads c0.now) → Syncs c0 c1 Shares r → LeavesOnly c0 c1 (IsImage c0.now)
sync_spares r c0 c1 now syncs = sync_goes_on r c0 c0 c1 Shares (started c0 _ (λ image is. is)) (λ image is. is) (now Shares) syncs

pub then_spares : (c0 c1 c2 : Cloud) → LeavesOnly c0 c1 (IsImage c0.now) → LeavesOnly c1 c2 (IsImage c1.now) → LeavesOnly c0 c2 (IsImage c0.now)
then_spares c0 c1 c2 first second = joined c0 c1 c2 (IsImage c0.now) first (weaker c1 c2 _ _ second (λ image is. at_end c0 c1 _ first image is))

-- ---- the spool of a version

lane_bad : (shape : Shape) (noted : List CloudNo) (lane : CloudNo) → is_lane shape noted lane.0 ≡ false → lane_in shape noted (lane_bytes lane) ≡ Err (wrong_at (lane_bytes lane) 1)
unfolding lane_at
lane_bad shape noted lane is = rw (is) refl

abbrev pub good : Notes → Result Notes RecordFault
good notes = Ok notes

pub same_good : (a b : Notes) → good a ≡ good b → a ≡ b
same_good a b e = cc

lane_said : (shape : Shape) (notes more : Notes) (lane : CloudNo) (b : Bool) → is_lane shape notes.lanes lane.0 ≡ b → more_notes notes (lane_in shape notes.lanes (lane_bytes lane)) ≡ Ok more
    → more ≡ record { job = notes.job; lanes = notes.lanes ++ lane ∷ [] }
lane_said shape notes more lane true is e = sym (same_good (record { job = notes.job; lanes = notes.lanes ++ lane ∷ [] }) more (ap (more_notes notes) (sym (lane_read shape notes.lanes lane is)) ∙ e))
lane_said shape notes more lane false is e = let no = ap (more_notes notes) (sym (lane_bad shape notes.lanes lane is)) ∙ e in absurd cc

lanes_said : (shape : Shape) (lanes : List CloudNo) (notes last : Notes) → Say shape (Some notes) (map lane_bytes lanes) (Some last) → last ≡ record { job = notes.job; lanes = notes.lanes ++ lanes }
lanes_said shape [] notes last say = let same : notes ≡ last = cc in sym same ∙ ap (λ (l : List CloudNo). record { job = notes.job; lanes = l }) (sym (append-nil notes.lanes))
lanes_said shape (lane ∷ lanes) notes last say =
    let one = lane_said shape notes say.0 lane (is_lane shape notes.lanes lane.0) refl say.1 in
    let more = lanes_said shape lanes say.0 last say.2 in
    more ∙ ap (λ (n : Notes). record { job = n.job; lanes = n.lanes ++ lanes }) one ∙ ap (λ (l : List CloudNo). record { job = notes.job; lanes = l }) (append_assoc notes.lanes (lane ∷ []) lanes)

pub all_said : (shape : Shape) (v : FileVersion) (lanes : List CloudNo) (last : Notes) → FitsFileVersion v → Say shape None (job_bytes v ∷ map lane_bytes lanes) (Some last) → last ≡ record { job = fields_for v; lanes = lanes }
all_said shape v lanes last fits say =
    let first : say.0 ≡ record { job = fields_for v; lanes = [] } = sym (same_good (record { job = fields_for v; lanes = [] }) say.0 (ap first_notes (sym (job_read v fits)) ∙ say.1)) in
    lanes_said shape lanes say.0 last say.2 ∙ ap (λ (n : Notes). record { job = n.job; lanes = n.lanes ++ lanes }) first

pub spool_opened : (shape : Shape) (c0 c1 c2 c3 : Cloud) (records : Records) (state : half.JournalState) (x : Spool × List LaneView) → IsSyncedShares c0 c1 → HasSpoolEnded shape state c1 c2 records → Stays c2 c3
    → BringsIs shape records state c2 (Ok x) → (v : FileVersion) (lanes : List CloudNo) → FitsFileVersion v → SpoolFor (reads c0.now) shape v lanes → IsSpool (state_of x.0) v lanes c3
spool_opened shape c0 c1 c2 c3 records state x s ended stays b v lanes fits spool =
    let is = b.1 in
    let all = ended.all in
    let same : (c2.now Journal).read ≡ (c0.now Journal).read = ended.journal ∙ journal_read c0 c1 s in
    let has : HasChain (c0.now Journal).read all.w = subst (λ (l : List ℕ). HasChain l all.w) same (all_chain shape state (c2.now Journal) (notes_in (Some records)) all) in
    let chain : all.w ≡ spool_chain shape v lanes = one_chain (c0.now Journal).read all.w (spool_chain shape v lanes) has spool.has in
    let say = subst (λ (w : Where). Say shape None w.bodies (notes_in (Some records))) chain all.say in
    let notes = all_said shape v lanes (notes_by records) fits say in
    let job : fields_kept records.job ≡ fields_for v = ap (λ (n : Notes). n.job) notes in
    let noted : records.noted.items ≡ lanes = ap (λ (n : Notes). n.lanes) notes in
    let user : records.job.user ≡ v.user = λ i. record { 0 = (job i).user } in
    let number : records.job.version ≡ v.number = λ i. record { 0 = (job i).number } in
    let shape_is = sym is.shape_is in
    let ended3 : IsJournalEnded state (c3.now Journal) (spool_chain shape v lanes) = subst (λ (a : Areas). IsJournalEnded state (a Journal) (spool_chain shape v lanes)) (sym stays.now) (subst (IsJournalEnded state (c2.now Journal)) chain all.ended) in
    let shares : c3.now Shares ≡ stable (c0.now Shares).read = ap (λ (a : Areas). a Shares) stays.now ∙ ended.shares ∙ s.shares in
    record {
      of = record {
        user = is.of.user ∙ user;
        number = is.of.number ∙ number;
        path = is.of.path ∙ ap (λ (f : JobFields). f.path) job;
        len = is.of.len ∙ is.len ∙ ap (λ (f : JobFields). f.len) job;
        digest = is.of.digest ∙ is.digest ∙ ap (λ (f : JobFields). f.digest) job;
      };
      noted = is.noted ∙ noted;
      apart = subst (λ (h : Shape). AreJobLanes h lanes) shape_is spool.apart;
      ended = subst (λ (t : half.JournalState). IsJournalEnded t (c3.now Journal) (spool_chain x.0.shape v lanes)) (sym is.journal) (subst (λ (h : Shape). IsJournalEnded state (c3.now Journal) (spool_chain h v lanes)) shape_is ended3);
      within = subst (λ (h : Shape). used_by (spool_chain h v lanes) ≤ spool_limit) shape_is spool.within;
      alone = subst (λ (l : List ℕ). is_half_begun 1 l ≡ false) (sym (ap (λ (a : Areas). (a Journal).read) stays.now ∙ same)) spool.alone;
      file = λ image left. ap (take (length v.file)) (only (c0.now Shares).read image (subst (λ (t : Store). MayLeave t image) shares left)) ∙ spool.file;
    }
