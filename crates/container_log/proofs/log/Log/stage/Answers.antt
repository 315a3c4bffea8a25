use Rattle.std.proofs.Common.{◌+◌, ℕ, [], ◌∷◌, ◌++◌, length, sym, ◌∙◌, ap, subst, arith, length-take}
use Rattle.std.proofs.lemmas.List.{take_all}
use Rattle.container_log.specs.Places.{place_of}
use Rattle.container_log.specs.States.{State, HasStaged, with_blob}
use Rattle.container_log.proofs.Staged.{long_put, staged_end_of, staged_more, put_more}
use Rattle.container_log.proofs.log.Log.stage.Goals as goal

pub returns-clause-place : goal.returns-clause-place
returns-clause-place c blobs has =
    let inside = c.self.inside in
    c.gap_behind-gap.ensures.place
    ∙ ap (λ (n : ℕ). place_of n (length c.args.blob.now))
    (omega (arith, staged_end_of c.args.self.now blobs has, ap (λ (s : State). s.end) c.self.view_is, ap (λ (s : State). length s.staged) c.self.view_is, length-take inside.used inside.buffer.items, c.self.invariant.0, c.self.invariant.1))

pub returns-clause-staged : goal.returns-clause-staged
returns-clause-staged c blobs has =
    let inside = c.self.inside in let blob = c.args.blob.now in
    let all = c.put_behind.ensures.items in
    let long = long_put inside.buffer.items blob c.put_behind.new.buffer.items inside.used c.gap_behind-gap.result (omega (arith, c.self.invariant.0)) all in
    let put = take_all (inside.used + c.gap_behind-gap.result + length blob) c.put_behind.new.buffer.items (omega (arith, long)) ∙ all in
    let is = put_more inside.area inside.limit inside.end inside.used c.gap_behind-gap.result inside.cache.keep inside.cache.kept inside.buffer.items c.put_behind.new.buffer.items blob (omega (arith, c.self.invariant.0)) c.gap_behind-gap.ensures.place put in
    subst (λ (s : State). HasStaged s (blobs ++ blob ∷ [])) (ap (λ (s : State). with_blob s blob) (sym c.self.view_is) ∙ is) (staged_more c.args.self.now blobs blob has c.requires.room)
