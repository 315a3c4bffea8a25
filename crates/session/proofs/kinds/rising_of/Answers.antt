use Rattle.std.proofs.Common.{ℕ, ap, ◌∙◌, arith, ◌≡◌, ◌-◌, take, drop, ◌+◌}
use Rattle.std.specs.List.{position_or_len}
use Rattle.journal_start.specs.Grammar.Numerals.{number}
use Rattle.session.specs.Reading.{is_comma}
use Rattle.session.proofs.CloudTexts.{any_number, starts_rising, front, no_number_by, no_rise_by, last_number_by, next_number_by}
use Rattle.session.proofs.kinds.rising_of.Goals as goal

pub texts-init : goal.texts-init
texts-init c = rw c.new-out.ensures (record { rising = λ k lt. absurd (omega arith); so_far = starts_rising c.args.shape c.args.word.now })

pub returns-in_default : goal.returns-in_default
returns-in_default c =
    let at : c.before-in-texts.result.now ≡ front c.texts.rest.now = c.before-in-texts.ensures ∙ ap (λ (i : ℕ). take i c.texts.rest.now) c.len_to-end.ensures.value in
    no_number_by any_number c.args.shape c.texts.out c.texts.rest.now _ (c.in_default.ensures.value ∙ ap (number 0 (c.args.shape.n - 1)) at) c.texts.invariant.so_far

pub returns-then-not-can_push : goal.returns-then-not-can_push
returns-then-not-can_push c =
    let at : c.before-in-texts.result.now ≡ front c.texts.rest.now = c.before-in-texts.ensures ∙ ap (λ (i : ℕ). take i c.texts.rest.now) c.len_to-end.ensures.value in
    no_rise_by any_number c.args.shape c.texts.out c.texts.rest.now c.in-Some.number _ (c.in-Some.ensures.value ∙ ap (number 0 (c.args.shape.n - 1)) at)
    (λ rises. absurd (let e = c.if-not-can_push.ensures.1 rises in cc)) c.texts.invariant.so_far

pub returns-then-end-rest : goal.returns-then-end-rest
returns-then-end-rest c =
    let at : c.before-in-texts.result.now ≡ front c.texts.rest.now = c.before-in-texts.ensures ∙ ap (λ (i : ℕ). take i c.texts.rest.now) c.len_to-end.ensures.value in
    rw c.in_ok-push.ensures.ok
    (last_number_by any_number c.args.shape c.texts.out c.texts.rest.now c.in-Some.number _ (c.in-Some.ensures.value ∙ ap (number 0 (c.args.shape.n - 1)) at)
    (c.can_push.ensures.0 c.if-not-can_push.false) (omega (arith, c.len_to-end.ensures.value, c.if-end-rest.true)) c.texts.invariant.so_far)

pub texts-preserved : goal.texts-preserved
texts-preserved c =
    let at : c.before-in-texts.result.now ≡ front c.texts.rest.now = c.before-in-texts.ensures ∙ ap (λ (i : ℕ). take i c.texts.rest.now) c.len_to-end.ensures.value in
    let more : c.after-rest.result.now ≡ drop (position_or_len is_comma c.texts.rest.now + 1) c.texts.rest.now = c.after-rest.ensures ∙ ap (λ (i : ℕ). drop (i + 1) c.texts.rest.now) c.len_to-end.ensures.value in
    rw (c.in_ok-push.ensures.ok, more) (record {
      rising = c.can_push.ensures.0 c.if-not-can_push.false;
      so_far = next_number_by any_number c.args.shape c.texts.out c.texts.rest.now c.in-Some.number _ (c.in-Some.ensures.value ∙ ap (number 0 (c.args.shape.n - 1)) at)
          (omega (arith, c.len_to-end.ensures.value, c.len_to-end.ensures.within, c.if-end-rest.false)) c.texts.invariant.so_far;
    })
