-- The body of a job's record says which job it is.
use Rattle.std.proofs.Common.{◌≡◌, ℕ, ◌+◌, ◌<◌, ◌^◌, List, ◌∷◌, ◌++◌, length, take, drop, get_or, refl, sym, ap, ◌∙◌, arith}
use Rattle.std.specs.Int.{w16, w32, w64, to_be_bytes, from_be_bytes}
use Rattle.std.proofs.lemmas.List.{take_at, drop_at, length-append}
use Rattle.std.proofs.lemmas.Nat.{from_be_bytes-to_be_bytes_2, from_be_bytes-to_be_bytes_4, from_be_bytes-to_be_bytes_8}
use Rattle.sha2.specs.Sha256.{sha256 as sha256_of}
use Rattle.sha2.proofs.Facts256.{length-sha256}
use Rattle.grammar.specs.CdBase.ids.CloudNo.{CloudNo}
use Rattle.upload_job.specs.Upload.{FileVersion}
use Rattle.upload_spool.specs.Spools.{FitsFileVersion, job_bytes, lane_bytes}

-- fronts of one length are one, and so is what is behind them
pub fronts : {A : Type 0} (a b x y : List A) → length a ≡ length b → a ++ x ≡ b ++ y → (a ≡ b) × (x ≡ y)
fronts a b x y same e = (
  sym (take_at a x (length a) refl) ∙ ap (take (length a)) e ∙ take_at b y (length a) (sym same),
  sym (drop_at a x (length a) refl) ∙ ap (drop (length a)) e ∙ drop_at b y (length a) (sym same),
)

tails : (a b : ℕ) (x y : List ℕ) → a ∷ x ≡ b ∷ y → x ≡ y
tails a b x y e = ap (drop 1) e

-- the fields behind the kind
abbrev behind_path : FileVersion → List ℕ
behind_path v = to_be_bytes w64 (length v.file) ++ sha256_of v.file

abbrev behind_version : FileVersion → List ℕ
behind_version v = to_be_bytes w16 (length v.path) ++ (v.path ++ behind_path v)

pub record SameFields (v u : FileVersion) : Type 0 where
  pub user : v.user.0 ≡ u.user.0
  pub number : v.number.0 ≡ u.number.0
  pub path : v.path ≡ u.path
  pub len : length v.file ≡ length u.file
  pub hash : sha256_of v.file ≡ sha256_of u.file

number_2 : (m n : ℕ) → m < 2 ^ 16 → n < 2 ^ 16 → to_be_bytes w16 m ≡ to_be_bytes w16 n → m ≡ n
number_2 m n p q e = sym (from_be_bytes-to_be_bytes_2 m p) ∙ ap (from_be_bytes w16) e ∙ from_be_bytes-to_be_bytes_2 n q

number_4 : (m n : ℕ) → m < 2 ^ 32 → n < 2 ^ 32 → to_be_bytes w32 m ≡ to_be_bytes w32 n → m ≡ n
number_4 m n p q e = sym (from_be_bytes-to_be_bytes_4 m p) ∙ ap (from_be_bytes w32) e ∙ from_be_bytes-to_be_bytes_4 n q

number_8 : (m n : ℕ) → m < 2 ^ 64 → n < 2 ^ 64 → to_be_bytes w64 m ≡ to_be_bytes w64 n → m ≡ n
number_8 m n p q e = sym (from_be_bytes-to_be_bytes_8 m p) ∙ ap (from_be_bytes w64) e ∙ from_be_bytes-to_be_bytes_8 n q

pub same_job : (v u : FileVersion) → FitsFileVersion v → FitsFileVersion u → job_bytes v ≡ job_bytes u → SameFields v u
same_job v u f g e =
    let behind = tails 1 1 _ _ e in
    let a = fronts (to_be_bytes w32 v.user.0) (to_be_bytes w32 u.user.0) (to_be_bytes w64 v.number.0 ++ behind_version v) (to_be_bytes w64 u.number.0 ++ behind_version u) refl behind in
    let b = fronts (to_be_bytes w64 v.number.0) (to_be_bytes w64 u.number.0) (behind_version v) (behind_version u) refl a.1 in
    let c = fronts (to_be_bytes w16 (length v.path)) (to_be_bytes w16 (length u.path)) (v.path ++ behind_path v) (u.path ++ behind_path u) refl b.1 in
    let v-short = f.path.few in
    let u-short = g.path.few in
    let v-few = f.few in
    let u-few = g.few in
    let long : length v.path ≡ length u.path = number_2 (length v.path) (length u.path) (omega (arith, v-short)) (omega (arith, u-short)) c.0 in
    let d = fronts v.path u.path (behind_path v) (behind_path u) long c.1 in
    let h = fronts (to_be_bytes w64 (length v.file)) (to_be_bytes w64 (length u.file)) (sha256_of v.file) (sha256_of u.file) refl d.1 in
    record {
      user = number_4 v.user.0 u.user.0 f.user g.user a.0;
      number = number_8 v.number.0 u.number.0 f.number g.number b.0;
      path = d.0;
      len = number_8 (length v.file) (length u.file) (omega (arith, v-few)) (omega (arith, u-few)) h.0;
      hash = h.1;
    }

-- so many bytes
pub job_len : (v : FileVersion) → length (job_bytes v) ≡ 55 + length v.path
job_len v =
    omega (
      arith,
      length-append (to_be_bytes w32 v.user.0) (to_be_bytes w64 v.number.0 ++ behind_version v),
      length-append (to_be_bytes w64 v.number.0) (behind_version v),
      length-append (to_be_bytes w16 (length v.path)) (v.path ++ behind_path v),
      length-append v.path (behind_path v),
      length-append (to_be_bytes w64 (length v.file)) (sha256_of v.file),
      length-sha256 v.file,
    )

pub same_lane : (a b : CloudNo) → lane_bytes a ≡ lane_bytes b → a ≡ b
same_lane a b e = let number : a.0 ≡ b.0 = ap (λ (bytes : List ℕ). get_or bytes 1 0) e in λ i. record { 0 = number i }
