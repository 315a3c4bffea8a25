use Rattle.std.proofs.Common.{ℕ, ◌≡◌, ◌+◌, List, sym, subst, arith}
use Rattle.aes256.specs.Cipher.{rounds, cipher_with, round_key}
use Rattle.aes256.specs.Planes.{IsBlock}
use Rattle.aes256.proofs.Keys.{add_right, rounds-next}
use Rattle.aes256.proofs.cipher.encrypt.Goals as goal

pub rounds-init : goal.rounds-init
unfolding rounds
rounds-init c = λ k text words lt block key.
    add_right c.args.s _ c.add-state.result k text (round_key words 0) block (key.first k lt) (λ p below. c.add-state.ensures k p below)

pub rounds-preserved : goal.rounds-preserved
rounds-preserved c = λ k text words lt block key.
    subst (λ (s : List ℕ). IsBlock c.round-state.result k s) (sym (rounds-next words text c.rounds.r))
    (c.round-state.ensures k (rounds words text c.rounds.r) (round_key words (c.rounds.r + 1)) lt (c.rounds.invariant k text words lt block key)
    (key.others (c.rounds.r + 1) k (omega arith) (omega arith) lt))

pub returns : goal.returns
unfolding cipher_with
returns c = λ k text words lt block key.
    let done : c.rounds.r ≡ 13 = omega arith in
    c.last_round.ensures k (rounds words text 13) (round_key words 14) lt
    (subst (λ (r : ℕ). IsBlock c.rounds.state k (rounds words text r)) done (c.rounds.invariant k text words lt block key))
    (key.others 14 k (omega arith) (omega arith) lt)
