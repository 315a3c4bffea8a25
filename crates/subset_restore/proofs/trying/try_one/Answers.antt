use Rattle.std.proofs.Common.{◌≡◌, ◌++◌, ◌∷◌, [], ℕ, List, ap, subst, ◌∙◌}
use Rattle.transcript.specs.CdBase.Numbers.{numbers_of}
use Rattle.subset_restore.specs.Going.{Seeks}
use Rattle.subset_restore.proofs.Going.{goes_passed, goes_unasked}
use Rattle.subset_restore.proofs.trying.try_one.Goals as goal

pub returns-then-hold-clause-goes : goal.returns-then-hold-clause-goes
returns-then-hold-clause-goes g c =
    goes_passed g.L.Link.tells g.L.Link.talk c.args.wanted.now.shape c.args.wanted.now.user c.args.wanted.now.path.now c.args.wanted.now.version c.args.link.now c.args.out.now (numbers_of c.args.clouds.now) c.args.refusals.now c.if-hold.ensures

pub returns-in-Ok-clause-goes : goal.returns-in-Ok-clause-goes
returns-in-Ok-clause-goes g c =
    let same : c.push_all.new.named ≡ numbers_of c.args.clouds.now = c.in-Ok.ensures ∙ ap (λ (l : List ℕ). l ++ numbers_of c.args.clouds.now) c.clear.ensures in
    subst (λ (l : List ℕ). Seeks g.L.Link.tells g.L.Link.talk c.args.wanted.now.shape c.args.wanted.now.user c.args.wanted.now.path.now c.args.wanted.now.version c.args.link.now c.restore_from.new.link c.args.out.now c.restore_from.new.out l (l ∷ []) c.args.refusals.now c.restore_from.new.refusals c.restore_from.result)
    same c.restore_from.ensures.goes

pub returns-in-Err-clause-goes : goal.returns-in-Err-clause-goes
returns-in-Err-clause-goes g c =
    goes_unasked g.L.Link.tells g.L.Link.talk c.args.wanted.now.shape c.args.wanted.now.user c.args.wanted.now.path.now c.args.wanted.now.version c.args.link.now c.args.out.now (numbers_of c.args.clouds.now) (numbers_of c.args.clouds.now ∷ []) c.args.refusals.now c.args.refusals.now
