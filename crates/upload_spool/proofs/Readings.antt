-- A job's body is read as it is spelled, and so is a lane's.
use Rattle.std.proofs.Common.{◌≡◌, ◌≢◌, ℕ, ◌<◌, ◌≤◌, ◌^◌, Bool, true, false, eqb, leb, List, [], ◌∷◌, ◌++◌, length, Ok, refl, sym, ap, ◌∙◌, arith, append-nil, eqb-true}
use Rattle.std.specs.Prelude.{All, ◌&&◌, not}
use Rattle.std.specs.Int.{w16, w64, to_be_bytes}
use Rattle.std.proofs.lemmas.Bool.{leb-true, le-leb}
use Rattle.std.proofs.lemmas.List.Elements.{All-head, All-tail}
use Rattle.sha2.specs.Sha256.{sha256 as sha256_of}
use Rattle.sha2.proofs.Facts256.{length-sha256}
use Rattle.grammar.specs.CdBase.ids.CloudNo.{CloudNo}
use Rattle.grammar.specs.CdBase.shape.Shape.{Shape}
use Rattle.grammar.proofs.FieldLaws.{lawful_bytes, lawful_checked, wide16, wide64}
use Rattle.upload_job.proofs.MessageFields.PartLaws.{lawful_kept, lawful_u32, lawful_u64}
use Rattle.upload_job.specs.Upload.{FileVersion}
use Rattle.upload_spool.specs.Spools.{FitsFileVersion, job_fields, job_bytes, lane_bytes}
use Rattle.upload_spool.specs.Reading.{fields_for, is_path_len, has_no_zero, is_file_len, is_lane, path_at, job_at, lane_at, judged, job_in, lane_in}

not_zero : (x : ℕ) → x ≢ 0 → (b : Bool) → eqb x 0 ≡ b → not (eqb x 0) ≡ true
not_zero x ne true e = absurd (ne (eqb-true x 0 e))
not_zero x ne false e = ap not e

no_zeros : (path : List ℕ) → All (λ byte. byte ≢ 0) path → has_no_zero path ≡ true
no_zeros [] all = refl
no_zeros (x ∷ path) all = rw (not_zero x (All-head (λ byte. byte ≢ 0) x path all) (eqb x 0) refl) (no_zeros path (All-tail (λ byte. byte ≢ 0) x path all))

path_few : (n : ℕ) → is_path_len n ≡ true → n < 2 ^ 16
path_few n e = omega (arith, leb-true n 1024 (right (leb 1 n) (leb n 1024) e))
  where
    right : (a b : Bool) → (a && b) ≡ true → b ≡ true
    right true b h = h
    right false b h = absurd cc

file_few : (n : ℕ) → is_file_len n ≡ true → n < 2 ^ 64
file_few n e = let le = leb-true n 67108864 e in omega (arith, le)

path_again : (path rest : List ℕ) → 1 ≤ length path → length path ≤ 1024 → All (λ byte. byte ≢ 0) path → path_at (to_be_bytes w16 (length path) ++ (path ++ rest)) ≡ Ok (path, rest)
unfolding path_at
path_again path rest some few all =
    let is : is_path_len (length path) ≡ true = rw (le-leb 1 (length path) some, le-leb (length path) 1024 few) refl in
    let len = (lawful_checked is_path_len wide16 path_few).again (length path) (path ++ rest) is tt in
    let bytes = (lawful_kept has_no_zero (lawful_bytes (length path))).again path rest (refl, no_zeros path all) tt in
    rw (len, bytes) refl

-- the body with these bytes in the place of the SHA-256
abbrev ends_in : FileVersion → List ℕ → List ℕ
ends_in v digest = job_fields v.user v.number v.path (length v.file) digest

job_again : (v : FileVersion) → FitsFileVersion v → job_at (ends_in v (sha256_of v.file ++ [])) ≡ Ok (fields_for v, [])
unfolding job_at
job_again v fits =
    let digest = sha256_of v.file in
    let e = (lawful_bytes 32).again digest [] (length-sha256 v.file) tt in
    let few = fits.few in
    let d = (lawful_checked is_file_len wide64 file_few).again (length v.file) (digest ++ []) (le-leb (length v.file) 67108864 few) tt in
    let c = path_again v.path (to_be_bytes w64 (length v.file) ++ (digest ++ [])) fits.path.some fits.path.few fits.path.no_zero in
    let b = lawful_u64.again v.number.0 (to_be_bytes w16 (length v.path) ++ (v.path ++ (to_be_bytes w64 (length v.file) ++ (digest ++ [])))) fits.number tt in
    let a = lawful_u32.again v.user.0 (to_be_bytes w64 v.number.0 ++ (to_be_bytes w16 (length v.path) ++ (v.path ++ (to_be_bytes w64 (length v.file) ++ (digest ++ []))))) fits.user tt in
    rw (a, b, c, d, e) refl

pub job_read : (v : FileVersion) → FitsFileVersion v → job_in (job_bytes v) ≡ Ok (fields_for v)
job_read v fits = ap (judged (job_bytes v)) (ap (λ (digest : List ℕ). job_at (ends_in v digest)) (sym (append-nil (sha256_of v.file))) ∙ job_again v fits)

pub lane_read : (shape : Shape) (noted : List CloudNo) (lane : CloudNo) → is_lane shape noted lane.0 ≡ true → lane_in shape noted (lane_bytes lane) ≡ Ok lane.0
unfolding lane_at
lane_read shape noted lane is = rw (is) refl
