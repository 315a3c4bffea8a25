use Rattle.std.proofs.Common.{rules, refl, ℕ, ◌≡◌, ◌<◌, ◌≢◌, ◌+◌, ◌-◌, ◌*◌, ◌∙◌, sym, ap, subst, List, bit_xor, length, arith, inl, inr, get_or-set_other, get_or-set_same}
use Rattle.std.proofs.lemmas.Bool.{cases_lt}
use Rattle.std.proofs.lemmas.Simd.{get_or-replicate}
use Rattle.std.specs.Prelude.{slice_index_or, slice_set}
use Rattle.aes256.specs.Cipher.{round_key}
use Rattle.aes256.specs.Planes.{AreRoundKeyPlanes, IsRoundKey, no_planes}
use Rattle.aes256.proofs.Keys.{round_key-length, round_key-at, length-key_words, loaded}
use Rattle.aes256.proofs.schedule.round_keys.Goals as goal

pub rounds-init : goal.rounds-init
rounds-init c =
    let words : List ℕ = c.expand-words.result in
    let long : length words ≡ 240 = ap length c.expand-words.ensures ∙ length-key_words c.args.key.now 52 c.told-key in (
      refl,
      λ k lt. record {
        long = round_key-length words 0 long (omega arith);
        same = λ p below. c.spread-first.ensures k p lt below ∙ loaded words 0 16 p refl below ∙ sym (round_key-at words 0 p below);
      },
      λ r k pos lt _. absurd (omega arith),
    )

pub rounds-preserved : goal.rounds-preserved
rounds-preserved c =
    let words : List ℕ = c.expand-words.result in
    let i : ℕ = c.rounds.r in
    let long : length words ≡ 240 = ap length c.expand-words.ensures ∙ length-key_words c.args.key.now 52 c.told-key in
    let room : i < length c.rounds.rounds = omega (arith, c.rounds.invariant.0) in (
      search rules,
      λ k lt. let ne : 0 ≢ i = omega arith in rw get_or-set_other (c.rounds.invariant.1 k lt),
      λ r k pos lt small. elim (cases_lt r i) [
        | inl a ↦ let ne : r ≢ i = omega arith in rw get_or-set_other (c.rounds.invariant.2 r k pos a small)
        | inr b ↦
            let e : i ≡ r = omega arith in
            subst (λ (j : ℕ). IsRoundKey (slice_index_or (slice_set c.rounds.rounds i c.spread.result) j no_planes) k (round_key words j)) e
            (rw get_or-set_same (record {
              long = round_key-length words i long c.rounds-test.true;
              same = λ p below. c.spread.ensures k p small below ∙ c.xor-raised.ensures p below
                  ∙ (λ t. bit_xor ((loaded words (16 * i) (16 * i + 16 - 16 * i) p (omega arith) below ∙ sym (round_key-at words i p below)) t) (get_or-replicate 16 p 0x63 0 below t));
            }))
      ],
    )

pub returns : goal.returns
returns c =
    let done : c.rounds.r ≡ 15 = omega (arith, c.rounds.auto.r-end (omega arith)) in
    subst (AreRoundKeyPlanes c.rounds.rounds) c.expand-words.ensures (record {
      first = c.rounds.invariant.1;
      others = λ r k pos lt small. c.rounds.invariant.2 r k pos (omega arith) small;
    })
