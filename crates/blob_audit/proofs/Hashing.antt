-- Bytes that are hashed a window at a time.
use Rattle.std.proofs.Common.{◌≡◌, ℕ, ◌+◌, ◌*◌, ◌<◌, ◌-◌, min, List, ◌++◌, length, take, drop, sym, ap, ◌∙◌, subst, arith, length-append}
use Rattle.std.proofs.lemmas.List.{drop-drop}
use Rattle.std.proofs.Math.Seq.{take-add}
use Rattle.sha2.specs.Hashers.{Holds256}
use Rattle.sha2.specs.declared.Sha256.{Sha256}
use Rattle.audit_base.specs.Whole.{stored_at}
use Rattle.blob_audit.specs.Steps.{IsTaken}

-- these bytes, so many of them, were hashed since the hasher was new
pub record Hashed (bytes : List ℕ) (count : ℕ) (hasher : Sha256) : Type 0 where
  pub len : count ≡ length bytes
  pub holds : Holds256 hasher bytes

-- a piece more
pub hashed_more : (area : List ℕ) (at done more upto count taken : ℕ) (old new : Sha256) → upto ≡ done + more → Hashed (take done (drop at area)) count old → IsTaken (stored_at area (at + done) more) taken old new → Hashed (take upto (drop at area)) (count + taken) new
hashed_more area at done more upto count taken old new sum before piece =
    let here : stored_at area (at + done) more ≡ take more (drop done (drop at area)) = ap (take more) (sym (drop-drop done at area)) in
    let both : take done (drop at area) ++ stored_at area (at + done) more ≡ take upto (drop at area)
    = ap (λ (xs : List ℕ). take done (drop at area) ++ xs) here ∙ sym (take-add done more (drop at area)) ∙ ap (λ (n : ℕ). take n (drop at area)) (sym sum) in
    let long = length-append (take done (drop at area)) (stored_at area (at + done) more) in
    subst (λ (xs : List ℕ). Hashed xs (count + taken) new) both (record {
      len = omega (arith, long, before.len, piece.len);
      holds = piece.holds (take done (drop at area)) before.holds;
    })

-- the next piece of a window's bytes
pub window_more : (area : List ℕ) (at len number long count taken : ℕ) (old new : Sha256) → number * 4194304 < len → long ≡ min 4194304 (len - number * 4194304)
    → Hashed (take (min (number * 4194304) len) (drop at area)) count old → IsTaken (stored_at area (at + number * 4194304) long) taken old new
    → Hashed (take (min ((number + 1) * 4194304) len) (drop at area)) (count + taken) new
window_more area at len number long count taken old new less is before piece =
    let all : min (number * 4194304) len ≡ number * 4194304 = omega arith in
    hashed_more area at (number * 4194304) long (min ((number + 1) * 4194304) len) count taken old new (omega arith)
    (subst (λ (n : ℕ). Hashed (take n (drop at area)) count old) all before) piece
