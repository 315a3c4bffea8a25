-- Records that are counted and measured, one after another.
use Rattle.std.proofs.Common.{◌≡◌, ℕ, ◌+◌, ◌<◌, ◌≤◌, ◌*◌, min, List, [], length, refl, sym, ap, subst, arith}
use Rattle.std.specs.Prelude.{All}
use Rattle.std.proofs.lemmas.List.Elements.{All-cons, All-nil}
use Rattle.cloud_memory.specs.RecordBody.Spelling.{Body, FitsBody}
use Rattle.checkpoints.specs.Laying.{records_len, IsNextInBuffer}
use Rattle.checkpoints.proofs.Along.{next_len, next_count}

-- So many were counted, with so many bytes behind the start, as far as 32 and 64 bits reach. They fit, if the others do.
pub record Counted (all rest : List Body) (count len : ℕ) : Type 0 where
  pub done : ℕ
  pub size : ℕ
  pub number : length all ≡ done + length rest
  pub long : 63 + records_len all ≡ size + records_len rest
  pub few : 5 * done + 63 ≤ size
  pub count_is : count ≡ min done 4294967295
  pub len_is : len ≡ min size 18446744073709551615
  pub fit : All FitsBody rest → All FitsBody all

pub none_counted : (all : List Body) → Counted all all 0 63
none_counted all = record { done = 0; size = 63; number = omega arith; long = refl; few = omega arith; count_is = refl; len_is = refl; fit = λ f. f }

pub one_counted : (all rest left : List Body) (bytes : List ℕ) (count len : ℕ) → Counted all rest count len → IsNextInBuffer rest left bytes
    → Counted all left (min (count + 1) 4294967295) (min (len + (length bytes + 5)) 18446744073709551615)
one_counted all rest left bytes count len c n = record {
  done = c.done + 1;
  size = c.size + (length bytes + 5);
  number = omega (arith, c.number, next_count rest left bytes n);
  long = omega (arith, c.long, next_len rest left bytes n);
  few = omega (arith, c.few);
  count_is = omega (arith, c.count_is);
  len_is = omega (arith, c.len_is);
  fit = λ f. c.fit (subst (All FitsBody) (sym n.front) (All-cons FitsBody n.body left n.is_body.fits f));
}

module _ (all rest : List Body) (count len : ℕ) (c : Counted all rest count len) (none : rest ≡ []) where
  pub all_fit : All FitsBody all
  all_fit = c.fit (subst (All FitsBody) (sym none) (All-nil FitsBody))

  pub all_within : (limit : ℕ) → limit < 4294967296 → len ≤ limit → (count ≡ length all) × (63 + records_len all ≤ limit)
  all_within limit few within =
      let left = ap (λ (r : List Body). length r) none in let bytes = ap records_len none in
      (omega (arith, few, within, left, c.number, c.count_is, c.few, c.len_is), omega (arith, few, within, bytes, c.long, c.len_is))

  pub too_long : (limit : ℕ) → limit < 4294967296 → limit < len → limit < 63 + records_len all
  too_long limit few beyond = let bytes = ap records_len none in omega (arith, beyond, bytes, c.long, c.len_is)
