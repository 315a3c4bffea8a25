-- Packages and their shares.
use Rattle.std.proofs.Common.{◌≡◌, ℕ, ◌+◌, ◌-◌, ◌*◌, ◌/◌, ◌<◌, List, ◌++◌, length, take, replicate, sym, ap, ◌∙◌, arith}
use Rattle.std.proofs.lemmas.List.{take_at}
use Rattle.reed_solomon.specs.CdBase.shape.Shape.{Shape}
use Rattle.reed_solomon.specs.CdBase.Lengths.{share_len_of}
use Rattle.sha2.specs.Sha256.{sha256}
use Rattle.aes256.specs.Cipher.{added}
use Rattle.reed_solomon.specs.Dispersal.{row, share_of}
use Rattle.reed_solomon.proofs.Recovery.{whole_rows}
use Rattle.caont_rs.specs.Package.{masked, padded, pad_len, package_of, share}

-- what is written is the package
pub sealed : (s : Shape) (secret text body tail : List ℕ) (room : ℕ) → room ≡ s.k * share_len_of s.k (length secret) - 32
    → text ≡ secret ++ replicate (room - length secret) 0 → body ≡ masked (sha256 text) text → tail ≡ added (sha256 text) (sha256 body)
    → body ++ tail ≡ package_of s secret
unfolding package_of padded
sealed s secret text body tail room er et eb el =
    let pad : room - length secret ≡ pad_len s.k (length secret) = omega arith in
    let whole : text ≡ padded s secret = et ∙ ap (λ (n : ℕ). secret ++ replicate n 0) pad in
    let first : body ≡ masked (sha256 (padded s secret)) (padded s secret) = eb ∙ ap (λ (x : List ℕ). masked (sha256 x) x) whole in
    let last : tail ≡ added (sha256 (padded s secret)) (sha256 (masked (sha256 (padded s secret)) (padded s secret))) =
    el ∙ (λ t. added (sha256 (whole t)) (sha256 (first t))) in
    λ t. first t ++ last t

-- the rows of what is encoded are the shares
pub rows_shared : (s : Shape) (secret sealed shares : List ℕ) (w : ℕ) → sealed ≡ package_of s secret → length sealed ≡ s.k * w → length shares ≡ s.n * w
    → ((j : ℕ) → j < s.n → row (length sealed / s.k) j shares ≡ share_of s sealed j)
    → (j : ℕ) → j < s.n → row w j (take (s.n * w) (shares ++ sealed)) ≡ share s j secret
unfolding share
rows_shared s secret sealed shares w e ls ln h j l =
    let ew : length sealed / s.k ≡ w = (whole_rows s.k w (length sealed) (omega (arith, s.several)) ls).0 in
    ap (row w j) (take_at shares sealed (s.n * w) ln)
    ∙ ap (λ (v : ℕ). row v j shares) (sym ew) ∙ h j l ∙ ap (λ (p : List ℕ). share_of s p j) e

-- what lies behind n widths of n + k
pub behind : (n n' k w now back buffer : ℕ) → n' ≡ n → back + n' * w ≡ buffer → buffer ≡ n * w + k * w → now ≡ back → now ≡ k * w
behind n n' k w now back buffer en eb er e = let h : n' * w ≡ n * w = ap (λ (v : ℕ). v * w) en in omega arith
