use Rattle.std.proofs.Common.{◌≡◌, ℕ, ◌+◌, ◌-◌, take, drop, ap, ◌∙◌, arith}
use Rattle.std.specs.List.{position_or_len}
use Rattle.session.specs.Grammar.Numerals.{number}
use Rattle.session.specs.Reading.{is_comma}
use Rattle.session.proofs.CloudTexts.{front}
use Rattle.command_words.proofs.Judged.{begins, no_number_left, falls_short, ends, goes_further}
use Rattle.command_words.proofs.fields.are_clouds.Goals as goal

pub texts-init : goal.texts-init
texts-init c = begins c.args.shape c.args.word.now

pub returns-in_default : goal.returns-in_default
returns-in_default c =
    let at : c.before-in-texts.result.now ≡ front c.texts.rest.now = c.before-in-texts.ensures
    ∙ ap (λ (i : ℕ). take i c.texts.rest.now) c.len_to-end.ensures.value in
    no_number_left c.args.shape c.args.word.now c.texts.rest.now c.texts.count c.texts.least c.texts.invariant
    (c.in_default.ensures.value ∙ ap (number 0 (c.args.shape.n - 1)) at)

pub returns-then-number-least : goal.returns-then-number-least
returns-then-number-least c =
    let at : c.before-in-texts.result.now ≡ front c.texts.rest.now = c.before-in-texts.ensures
    ∙ ap (λ (i : ℕ). take i c.texts.rest.now) c.len_to-end.ensures.value in
    falls_short c.args.shape c.args.word.now c.texts.rest.now c.texts.count c.texts.least c.in-Some.number
    c.texts.invariant (c.in-Some.ensures.value ∙ ap (number 0 (c.args.shape.n - 1)) at) c.if-number-least.true

pub returns-then-end-rest : goal.returns-then-end-rest
returns-then-end-rest c =
    let at : c.before-in-texts.result.now ≡ front c.texts.rest.now = c.before-in-texts.ensures
    ∙ ap (λ (i : ℕ). take i c.texts.rest.now) c.len_to-end.ensures.value in
    ends c.args.shape c.args.word.now c.texts.rest.now c.texts.count c.texts.least c.in-Some.number c.texts.invariant
    (c.in-Some.ensures.value ∙ ap (number 0 (c.args.shape.n - 1)) at)
    c.if-number-least.false (omega (arith, c.len_to-end.ensures.value, c.if-end-rest.true))

pub texts-preserved : goal.texts-preserved
texts-preserved c =
    let at : c.before-in-texts.result.now ≡ front c.texts.rest.now = c.before-in-texts.ensures
    ∙ ap (λ (i : ℕ). take i c.texts.rest.now) c.len_to-end.ensures.value in
    let more : c.after-rest.result.now ≡ drop (position_or_len is_comma c.texts.rest.now + 1) c.texts.rest.now =
    c.after-rest.ensures ∙ ap (λ (i : ℕ). drop (i + 1) c.texts.rest.now) c.len_to-end.ensures.value in
    let a = c.args.shape.several in let b = c.args.shape.spare in
    rw more (goes_further c.args.shape c.args.word.now c.texts.rest.now c.texts.count c.texts.least c.in-Some.number
    c.texts.invariant (c.in-Some.ensures.value ∙ ap (number 0 (c.args.shape.n - 1)) at)
    c.if-number-least.false (omega (arith, c.in-Some.ensures.range))
    (omega (arith, c.len_to-end.ensures.value, c.len_to-end.ensures.within, c.if-end-rest.false)))
