-- The chain of a spool, how long it is, and what an image with it stands for.
use Rattle.std.proofs.Common.{◌≡◌, ◌≢◌, ℕ, ◌+◌, ◌*◌, ◌<◌, ◌≤◌, false, List, [], ◌∷◌, ◌++◌, length, map, take, refl, sym, ap, ◌∙◌, subst, arith, inl, inr}
use Rattle.std.specs.Prelude.{All}
use Rattle.std.specs.Int.{w32, to_be_bytes}
use Rattle.std.proofs.lemmas.List.{length-append, map-append}
use Rattle.grammar.specs.CdBase.ids.CloudNo.{CloudNo}
use Rattle.grammar.specs.CdBase.shape.Shape.{Shape}
use Rattle.commit_journal.specs.CdEdges.area.Area.TheVariants.{Journal, Shares}
use Rattle.commit_journal.specs.CdEdges.Disk.{Image}
use Rattle.commit_journal.specs.JournalHalves.Records.{chain, sized}
use Rattle.commit_journal.specs.JournalStart.Spelling.{start_bytes}
use Rattle.commit_journal.specs.JournalHalves.Halves.{is_half_begun}
use Rattle.commit_journal.specs.JournalHalves.Journals.{Where, HasChain, IsEither, used_by, with_body}
use Rattle.upload_job.specs.Upload.{FileVersion}
use Rattle.upload_spool.specs.Spools.{FitsFileVersion, AreJobLanes, SpoolFor, HasOpenJob, IsNotedOr, spool_chain, spool_start, lane_bytes, job_bytes}
use Rattle.upload_spool.proofs.Bodies.{SameFields, same_job, job_len, same_lane}
use Rattle.upload_spool.proofs.Lanes.{lanes_more}

-- ---- lengths

sized_len : (body : List ℕ) → length (sized body) ≡ 4 + length body
sized_len body = omega (arith, length-append (to_be_bytes w32 (length body)) body)

pub one_more : (body : List ℕ) (bodies : List (List ℕ)) → length (chain (body ∷ bodies)) ≡ 5 + length body + length (chain bodies)
one_more body bodies = omega (arith, length-append (sized body) (chain bodies), sized_len body)

start_len : (shape : Shape) → length (start_bytes (spool_start shape)) ≡ 36
start_len shape = refl

lanes_len : (lanes : List CloudNo) → length (chain (map lane_bytes lanes)) ≡ 7 * length lanes
lanes_len [] = refl
lanes_len (lane ∷ lanes) = omega (arith, one_more (lane_bytes lane) (map lane_bytes lanes), lanes_len lanes)

pub used : (shape : Shape) (v : FileVersion) (lanes : List CloudNo) → used_by (spool_chain shape v lanes) ≡ 102 + length v.path + 7 * length lanes
used shape v lanes =
    omega (
      arith,
      one_more (start_bytes (spool_start shape)) (job_bytes v ∷ map lane_bytes lanes),
      one_more (job_bytes v) (map lane_bytes lanes),
      start_len shape,
      job_len v,
      lanes_len lanes,
    )

pub within : (shape : Shape) (v : FileVersion) (lanes : List CloudNo) → FitsFileVersion v → length lanes ≤ 16 → used_by (spool_chain shape v lanes) ≤ 1238
within shape v lanes fits few = let short = fits.path.few in omega (arith, used shape v lanes, short)

-- ---- a note

pub noted_chain : (shape : Shape) (v : FileVersion) (lanes : List CloudNo) (lane : CloudNo) → with_body (spool_chain shape v lanes) (lane_bytes lane) ≡ spool_chain shape v (lanes ++ lane ∷ [])
noted_chain shape v lanes lane =
    ap (λ (bodies : List (List ℕ)). record { half = 0; start = spool_start shape; bodies = job_bytes v ∷ bodies }) (sym (map-append lane_bytes lanes (lane ∷ [])))

pub noted : (shape : Shape) (v : FileVersion) (lanes : List CloudNo) (lane : CloudNo) (image : Image) → AreJobLanes shape lanes → lane.0 < shape.n → All (λ noted. noted.0 ≢ lane.0) lanes
    → used_by (spool_chain shape v (lanes ++ lane ∷ [])) ≤ 65536
    → IsEither (spool_chain shape v lanes) (with_body (spool_chain shape v lanes) (lane_bytes lane)) (image Journal)
    → is_half_begun 1 (image Journal) ≡ false → take (length v.file) (image Shares) ≡ v.file
    → IsNotedOr shape v lanes lane image
noted shape v lanes lane image are below new room either alone file =
    elim either [
      | inl old ↦
          let more = used shape v (lanes ++ lane ∷ []) in
          let fewer = used shape v lanes in
          let long = length-append lanes (lane ∷ []) in
          inl (record { alone = alone; has = old; within = omega (arith, room, more, fewer, long); apart = are; file = file })
      | inr longer ↦ inr (record { alone = alone; has = subst (HasChain (image Journal)) (noted_chain shape v lanes lane) longer; within = room; apart = lanes_more shape lanes lane are below new; file = file })
    ]

-- ---- one job

same_lanes : (a b : List CloudNo) → map lane_bytes a ≡ map lane_bytes b → a ≡ b
same_lanes [] [] e = refl
same_lanes [] (y ∷ ys) e = absurd cc
same_lanes (x ∷ xs) [] e = absurd cc
same_lanes (x ∷ xs) (y ∷ ys) e =
    let first : lane_bytes x ≡ lane_bytes y = cc in
    let more : map lane_bytes xs ≡ map lane_bytes ys = cc in
    let one = same_lane x y first in
    let all = same_lanes xs ys more in
    cc (one, all)

same_kept : (v u : FileVersion) → SameFields v u → v.file ≡ u.file → v ≡ u
same_kept v u same file = λ i. record {
  user = record { 0 = same.user i };
  path = same.path i;
  number = record { 0 = same.number i };
  file = file i;
}

pub one_spool : ((journal : List ℕ) (w u : Where) → HasChain journal w → HasChain journal u → w ≡ u)
    → (image : Image) (shape other : Shape) (v u : FileVersion) (lanes notes : List CloudNo) → FitsFileVersion v → FitsFileVersion u
    → SpoolFor image shape v lanes → SpoolFor image other u notes → (v ≡ u) × (lanes ≡ notes)
one_spool one_chain image shape other v u lanes notes f g s t =
    let bodies : job_bytes v ∷ map lane_bytes lanes ≡ job_bytes u ∷ map lane_bytes notes
    = ap (λ (w : Where). w.bodies) (one_chain (image Journal) (spool_chain shape v lanes) (spool_chain other u notes) s.has t.has) in
    let job : job_bytes v ≡ job_bytes u = cc in
    let noted : map lane_bytes lanes ≡ map lane_bytes notes = cc in
    let same = same_job v u f g job in
    let file : v.file ≡ u.file = sym s.file ∙ ap (λ (n : ℕ). take n (image Shares)) same.len ∙ t.file in
    (same_kept v u same file, same_lanes lanes notes noted)

pub open_job : (image : Image) (shape : Shape) (v : FileVersion) (lanes : List CloudNo) → SpoolFor image shape v lanes → HasOpenJob (image Journal)
open_job image shape v lanes s = record {
  w = spool_chain shape v lanes;
  has = s.has;
  body = job_bytes v;
  there = (0, omega arith, refl);
  kind = refl;
}
