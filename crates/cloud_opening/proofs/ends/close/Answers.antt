use Rattle.std.proofs.Common.{◌≡◌, ◌∙◌, true, false, rules}
use Rattle.record_laws.specs.RecordChecks.CloudMemory.Rooms.{memory_of}
use Rattle.cloud_opening.specs.Exact.{Within}
use Rattle.cloud_opening.proofs.Bounds.{unfit, shares_past, recipes_past}
use Rattle.cloud_opening.proofs.ends.close.Goals as goal

pub returns-then-not-shares_fit : goal.returns-then-not-shares_fit
returns-then-not-shares_fit c =
    let off : c.shares_fit.result ≡ false = search rules in
    record {
      closes = shares_past c.args.ground.now (memory_of c.args.memory.now) c.args.taking.now c.requires c.args.number c.damaged.result
          (λ field is. c.damaged.ensures field (c.shares_field.ensures ∙ is)) (unfit c.shares_fit.result _ off c.shares_fit.ensures);
    }

pub returns-then-not-recipes_fit : goal.returns-then-not-recipes_fit
returns-then-not-recipes_fit c =
    let on : c.shares_fit.result ≡ true = search rules in
    let off : c.recipes_fit.result ≡ false = search rules in
    record {
      closes = recipes_past c.args.ground.now (memory_of c.args.memory.now) c.args.taking.now c.requires c.args.number c.damaged-then-not-recipes_fit.result
          (λ field is. c.damaged-then-not-recipes_fit.ensures field (c.recipes_field.ensures ∙ is)) (c.shares_fit.ensures.0 on) (unfit c.recipes_fit.result _ off c.recipes_fit.ensures);
    }

pub returns : goal.returns
returns c =
    let on : c.shares_fit.result ≡ true = search rules in
    let also : c.recipes_fit.result ≡ true = search rules in
    record { closes = Within (c.shares_fit.ensures.0 on) (c.recipes_fit.ensures.0 also) }
