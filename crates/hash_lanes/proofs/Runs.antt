-- One lane of four, block by block.
use Rattle.std.proofs.Common.{◌≡◌, ◌≢◌, ℕ, ◌+◌, ◌*◌, ◌/◌, ◌<◌, ◌≤◌, List, length, take, drop, sym, ap, ◌∙◌, inl, inr, arith}
use Rattle.std.proofs.lemmas.Bool.{cases_lt}
use Rattle.sha2.specs.Sha256.{compress, digest_bytes, hash_after, initial_hash_256, padded_message, sha256}
use Rattle.sha2.proofs.Absorbing256.{hash_after_next}
use Rattle.hash_lanes.specs.Lanes.{IsTail}

-- after t blocks the lane has the hash value h, and once the message is over the digest is its own
pub record LaneAt (message : List ℕ) (blocks t : ℕ) (h digest : List ℕ) : Type 0 where
  pub running : t ≤ blocks → h ≡ hash_after initial_hash_256 (padded_message message) t
  pub ended : blocks ≤ t → digest ≡ sha256 message

pub lane_begun : (m tail h d : List ℕ) (blocks : ℕ) → IsTail m tail blocks → h ≡ initial_hash_256 → LaneAt m blocks 0 h d
unfolding hash_after
lane_begun m tail h d blocks is eh = record { running = λ le. eh; ended = λ le. absurd (omega (arith, is.more)) }

digest_of_all : (m tail h : List ℕ) (blocks : ℕ) → IsTail m tail blocks → h ≡ hash_after initial_hash_256 (padded_message m) blocks → digest_bytes h 8 ≡ sha256 m
unfolding sha256
digest_of_all m tail h blocks is eh =
    let count : blocks ≡ length (padded_message m) / 64 = omega (arith, is.count) in
    ap (λ (x : List ℕ). digest_bytes x 8) (eh ∙ ap (hash_after initial_hash_256 (padded_message m)) count)

pub lane_on : (m tail block h next d e : List ℕ) (blocks t : ℕ) → IsTail m tail blocks → LaneAt m blocks t h d
    → (t < blocks → block ≡ take 64 (drop (t * 64) (padded_message m))) → next ≡ compress h block
    → (t + 1 ≡ blocks → e ≡ digest_bytes next 8) → (t + 1 ≢ blocks → e ≡ d) → LaneAt m blocks (t + 1) next e
lane_on m tail block h next d e blocks t is held eb en end keep =
    let more : t + 1 ≤ blocks → next ≡ hash_after initial_hash_256 (padded_message m) (t + 1) = λ le.
    en ∙ (λ i. compress (held.running (omega arith) i) (eb (omega arith) i)) ∙ sym (hash_after_next initial_hash_256 (padded_message m) t) in
    record {
      running = more;
      ended = λ le. elim (cases_lt t blocks) [
        | inl lt ↦
            let last : t + 1 ≡ blocks = omega arith in
            end last ∙ digest_of_all m tail next blocks is (more (omega arith) ∙ ap (hash_after initial_hash_256 (padded_message m)) last)
        | inr past ↦ keep (λ same. omega arith) ∙ held.ended past
      ];
    }
