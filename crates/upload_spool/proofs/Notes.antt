-- What a note leaves.
use Rattle.std.proofs.Common.{◌≡◌, ◌≢◌, inl, ℕ, ◌+◌, ◌*◌, ◌<◌, ◌≤◌, false, if◌then◌else◌, Result, Ok, Err, OnOk, List, [], ◌∷◌, ◌++◌, length, drop, refl, sym, ap, ◌∙◌, subst, arith, length-append}
use Rattle.std.specs.Prelude.{All, is_ok, is_err}
use Rattle.std.proofs.lemmas.Bool.{false≢true}
use Rattle.std.proofs.lemmas.List.{drop_at, length-map}
use Rattle.grammar.specs.CdBase.Numbers.{numbers_of}
use Rattle.grammar.specs.CdBase.ids.CloudNo.{CloudNo}
use Rattle.commit_journal.specs.CdEdges.area.Area.{Area}
use Rattle.commit_journal.specs.CdEdges.area.Area.TheVariants.{Journal, Shares}
use Rattle.commit_journal.specs.CdEdges.Disk.{Store, Areas, Cloud, Image, MayLeave, IsImage, SomeLeaves, LeavesOnly, IsAtArea, reads}
use Rattle.commit_journal.specs.CdEdges.Shelf.{stable}
use Rattle.commit_journal.proofs.CdEdges.Moments.{weaker, started, at_end}
use Rattle.commit_journal.proofs.CdEdges.Torn.{only}
use Rattle.commit_journal.specs.JournalHalves.Records.{IsJournal, is_begun}
use Rattle.commit_journal.specs.JournalHalves.Findings.{part_of}
use Rattle.commit_journal.specs.JournalHalves.Halves.{half_of, is_half_begun}
use Rattle.commit_journal.specs.JournalHalves.Journals.{HasChain, IsEither, all_bodies, with_body, used_by}
use Rattle.commit_journal.proofs.JournalHalves.Looks.{begun_part}
use Rattle.commit_journal.specs.declared.journal.Stage.{Stage}
use Rattle.commit_journal.specs.declared.journal.Stage.TheVariants.{AtEnd, Shut}
use Rattle.commit_journal.specs.Outcomes.{stage_after}
use Rattle.commit_journal.specs.States.{IsJournalEnded}
use Rattle.commit_journal.specs.States as half
use Rattle.upload_job.specs.Upload.{FileVersion}
use Rattle.upload_spool.specs.Spools.{AreJobLanes, SpoolFor, IsNotedOr, spool_chain, lane_bytes}
use Rattle.upload_spool.specs.States.{SpoolState, IsOf, IsSpool, HasFile}
use Rattle.upload_spool.specs.declared.spool.Spool.{Spool}
use Rattle.upload_spool.proofs.Lanes.{few_lanes, lanes_more}
use Rattle.upload_spool.proofs.Chains.{used, noted, noted_chain}

-- ---- runs of calls

-- two facts of each image since
pub both : (c0 c1 : Cloud) (P Q : Image → Type 0) → LeavesOnly c0 c1 P → LeavesOnly c0 c1 Q → LeavesOnly c0 c1 (λ image. P image × Q image)
both c0 c1 P Q a b =
    let same : a.since ≡ b.since = sym (drop_at c0.past a.since (length c0.past) refl) ∙ ap (drop (length c0.past)) (sym a.past ∙ b.past)
    ∙ drop_at c0.past b.since (length c0.past) refl in
    record {
      since = a.since;
      past = a.past;
      each = λ image left. (a.each image left, b.each image (subst (λ (l : List Areas). SomeLeaves (l ++ c1.now ∷ []) image) same left));
    }

pub shares≢journal : Shares ≢ Journal
shares≢journal e = cc

-- ---- a spool's images

pub one_image : (store : Store) (image : List ℕ) → store ≡ stable store.read → MayLeave store image → image ≡ store.read
one_image store image synced left = only store.read image (subst (λ (s : Store). MayLeave s image) synced left)

pub spool_image : (state : SpoolState) (v : FileVersion) (lanes : List CloudNo) (cloud : Cloud) → IsSpool state v lanes cloud → (image : Image) → IsImage cloud.now image → SpoolFor image state.shape v lanes
spool_image state v lanes cloud is image left =
    let store = cloud.now Journal in
    let same : image Journal ≡ store.read = one_image store (image Journal) is.ended.read.synced (left Journal) in
    let w = spool_chain state.shape v lanes in
    record {
      alone = subst (λ (l : List ℕ). is_half_begun 1 l ≡ false) (sym same) is.alone;
      has = subst (λ (l : List ℕ). HasChain l w) (sym same) (record {
        current = is.ended.is_current;
        chain_is = subst (λ (h : ℕ). IsJournal (all_bodies w) (half_of h store.read)) is.ended.half is.ended.read.chain_is;
      });
      within = is.within;
      apart = is.apart;
      file = is.file (image Shares) (left Shares);
    }

-- memory ran out before the first call
pub not_noted : (state : SpoolState) (v : FileVersion) (lanes : List CloudNo) (lane : CloudNo) (cloud : Cloud) → IsSpool state v lanes cloud → LeavesOnly cloud cloud (IsNotedOr state.shape v lanes lane)
not_noted state v lanes lane cloud is = started cloud _ (λ image now. inl (spool_image state v lanes cloud is image now))

-- ---- one note

-- there is room for one note more, where the gate isn't far
pub room_for : (state : SpoolState) (v : FileVersion) (lanes : List CloudNo) (lane : CloudNo) (cloud : Cloud) → IsSpool state v lanes cloud → state.journal.current.gate ≤ 1258
    → used_by (spool_chain state.shape v (lanes ++ lane ∷ [])) ≤ 65536
room_for state v lanes lane cloud is near =
    omega (
      arith,
      near,
      is.ended.read.gate,
      used state.shape v lanes,
      used state.shape v (lanes ++ lane ∷ []),
      length-append lanes (lane ∷ []),
    )

pub still_alone : (bytes old : List ℕ) → part_of 1 bytes ≡ part_of 1 old → is_half_begun 1 old ≡ false → is_half_begun 1 bytes ≡ false
still_alone bytes old same none = sym (begun_part 1 bytes) ∙ ap is_begun same ∙ begun_part 1 old ∙ none

pub noted_images : (state : SpoolState) (v : FileVersion) (lanes : List CloudNo) (lane : CloudNo) (c0 c1 : Cloud) → IsSpool state v lanes c0 → lane.0 < state.shape.n → All (λ noted. noted.0 ≢ lane.0) state.noted
    → state.journal.current.gate ≤ 1258
    → LeavesOnly c0 c1 (IsAtArea c0.now Journal (IsEither (spool_chain state.shape v lanes) (with_body (spool_chain state.shape v lanes) (lane_bytes lane))))
    → LeavesOnly c0 c1 (λ image. part_of 1 (image Journal) ≡ part_of 1 (c0.now Journal).read) → LeavesOnly c0 c1 (IsNotedOr state.shape v lanes lane)
noted_images state v lanes lane c0 c1 is below new near either other =
    weaker c0 c1 _ _ (both c0 c1 _ _ either other) (λ image at.
    noted state.shape v lanes lane image is.apart below (subst (All (λ noted. noted.0 ≢ lane.0)) is.noted new) (room_for state v lanes lane c0 is near) at.0.area (still_alone (image Journal) (c0.now Journal).read at.1 is.alone)
    (is.file (image Shares) (at.0.others Shares shares≢journal)))

pub noted_spool : (before after : SpoolState) (v : FileVersion) (lanes : List CloudNo) (lane : CloudNo) (c0 c1 : Cloud) → IsSpool before v lanes c0 → lane.0 < before.shape.n → All (λ noted. noted.0 ≢ lane.0) before.noted
    → before.journal.current.gate ≤ 1258
    → IsJournalEnded after.journal (c1.now Journal) (with_body (spool_chain before.shape v lanes) (lane_bytes lane)) → after.shape ≡ before.shape → (IsOf before v → IsOf after v) → after.noted ≡ before.noted ++ lane ∷ []
    → LeavesOnly c0 c1 (λ image. part_of 1 (image Journal) ≡ part_of 1 (c0.now Journal).read) → IsImage c1.now (reads c1.now)
    → ((area : Area) → area ≢ Journal → c1.now area ≡ c0.now area) → IsSpool after v (lanes ++ lane ∷ []) c1
noted_spool before after v lanes lane c0 c1 is below new near ended shape of more other now others =
    let chain : with_body (spool_chain before.shape v lanes) (lane_bytes lane) ≡ spool_chain after.shape v (lanes ++ lane ∷ [])
    = noted_chain before.shape v lanes lane ∙ ap (λ s. spool_chain s v (lanes ++ lane ∷ [])) (sym shape) in
    record {
      of = of is.of;
      noted = more ∙ ap (λ (l : List CloudNo). l ++ lane ∷ []) is.noted;
      apart = subst (λ s. AreJobLanes s (lanes ++ lane ∷ [])) (sym shape) (lanes_more before.shape lanes lane is.apart below (subst (All (λ noted. noted.0 ≢ lane.0)) is.noted new));
      ended = subst (IsJournalEnded after.journal (c1.now Journal)) chain ended;
      within = subst (λ s. used_by (spool_chain s v (lanes ++ lane ∷ [])) ≤ 65536) (sym shape) (room_for before v lanes lane c0 is near);
      alone = still_alone (c1.now Journal).read (c0.now Journal).read (at_end c0 c1 _ other (reads c1.now) now) is.alone;
      file = subst (HasFile v.file) (sym (others Shares shares≢journal)) is.file;
    }

-- ---- what a spool's call knows of itself

pub near : (s : Spool) → (half.state_of s.journal).stage ≡ AtEnd → (half.state_of s.journal).current.gate ≤ 1258
near s at =
    let few = few_lanes (numbers_of s.noted.items) s.shape.n s.distinct s.below in
    let most = s.shape.few in
    omega (arith, s.room at, few, most, length-map s.noted.items (λ (cloud : CloudNo). cloud.0))

pub pushed : {T E : Type 0} (r : Result T E) (new a b : List CloudNo) → is_err r ≡ false → new ≡ (if is_ok r then a else b) → new ≡ a
pushed (Ok x) new a b e h = h
pushed (Err x) new a b e h = absurd (false≢true (sym e))

pub room_after : {T E : Type 0} (result : Result T E) (stage : Stage) (gate before : ℕ) (old new : List CloudNo) (lane : CloudNo) → stage ≡ stage_after AtEnd result → OnOk result (gate ≡ before + 5 + 2)
    → before ≤ 1146 + 7 * length old → new ≡ old ++ lane ∷ [] → stage ≡ AtEnd → gate ≤ 1146 + 7 * length new
room_after (Ok x) stage gate before old new lane is moved near more at = omega (arith, moved, near, ap length more, length-append old (lane ∷ []))
room_after (Err x) stage gate before old new lane is moved near more at = let e : Shut ≡ AtEnd = sym is ∙ at in absurd cc
