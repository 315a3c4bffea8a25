use Rattle.std.proofs.Common.{List, ℕ, OnOk, sym, subst}
use Rattle.session_model.specs.Session.event.Event.{Event}
use Rattle.session_model.specs.Session.event.Event.TheVariants as events
use Rattle.script_lines.specs.Does.{CarriesOut}
use Rattle.script_lines.proofs.Lines.{for_ok, on_ok}
use Rattle.script_lines.proofs.carry.carry_out.Goals as goal

pub returns-in-Upload-clause-does : goal.returns-in-Upload-clause-does
returns-in-Upload-clause-does g c =
    let Is : Event → Type 0 = λ e. OnOk c.upload_line.result (CarriesOut g.V.Shelf.cloud_at e c.args.link.now c.args.jobs.now c.args.link.now c.upload_line.new.jobs c.args.text.now c.upload_line.new.text) in
    for_ok c.upload_line.result c.for_memory.result _ c.for_memory.ensures.same (subst Is (sym c.in-Upload.is)
    (subst (λ (path : List ℕ). Is (events.Upload c.in-Upload.user path c.in-Upload.version c.in-Upload.bytes)) c.as_slice.ensures
    (subst (λ (bytes : List ℕ). Is (events.Upload c.in-Upload.user c.as_slice.result.now c.in-Upload.version bytes)) c.as_slice-in-Upload.ensures c.upload_line.ensures.does)))

pub returns-in-Get-clause-does : goal.returns-in-Get-clause-does
returns-in-Get-clause-does g c =
    let Is : Event → Type 0 = λ e. OnOk c.get_line.result (CarriesOut g.V.Shelf.cloud_at e c.args.link.now c.args.jobs.now c.get_line.new.link c.args.jobs.now c.args.text.now c.get_line.new.text) in
    for_ok c.get_line.result c.for_memory-in-Get.result _ c.for_memory-in-Get.ensures.same
    (subst Is (sym c.in-Get.is) (subst (λ (path : List ℕ). Is (events.Get c.in-Get.user path c.in-Get.version c.in-Get.clouds)) c.as_slice-in-Get.ensures c.get_line.ensures.does))

pub returns-in-Step-clause-does : goal.returns-in-Step-clause-does
returns-in-Step-clause-does g c =
    for_ok c.step_line.result c.for_memory-in-Step.result _ c.for_memory-in-Step.ensures.same
    (subst (λ (e : Event). OnOk c.step_line.result (CarriesOut g.V.Shelf.cloud_at e c.args.link.now c.args.jobs.now c.step_line.new.link c.step_line.new.jobs c.args.text.now c.step_line.new.text)) (sym c.in-Step.is) c.step_line.ensures.does)

pub returns-in-Lose-clause-does : goal.returns-in-Lose-clause-does
returns-in-Lose-clause-does g c =
    for_ok c.lose_line.result c.for_memory-in-Lose.result _ c.for_memory-in-Lose.ensures.same
    (subst (λ (e : Event). OnOk c.lose_line.result (CarriesOut g.V.Shelf.cloud_at e c.args.link.now c.args.jobs.now c.lose_line.new.link c.lose_line.new.jobs c.args.text.now c.lose_line.new.text)) (sym c.in-Lose.is) c.lose_line.ensures.does)

pub returns-in-Drop-clause-does : goal.returns-in-Drop-clause-does
returns-in-Drop-clause-does g c =
    for_ok c.drop_line.result c.for_memory-in-Drop.result _ c.for_memory-in-Drop.ensures.same
    (subst (λ (e : Event). OnOk c.drop_line.result (CarriesOut g.V.Shelf.cloud_at e c.args.link.now c.args.jobs.now c.drop_line.new.link c.drop_line.new.jobs c.args.text.now c.drop_line.new.text)) (sym c.in-Drop.is) c.drop_line.ensures.does)

pub returns-in-Finish-clause-does : goal.returns-in-Finish-clause-does
returns-in-Finish-clause-does g c =
    for_ok c.finish_line.result c.for_memory-in-Finish.result _ c.for_memory-in-Finish.ensures.same
    (subst (λ (e : Event). OnOk c.finish_line.result (CarriesOut g.V.Shelf.cloud_at e c.args.link.now c.args.jobs.now c.finish_line.new.link c.finish_line.new.jobs c.args.text.now c.finish_line.new.text)) (sym c.in-Finish.is) c.finish_line.ensures.does)

pub returns-in-Arm-clause-does : goal.returns-in-Arm-clause-does
returns-in-Arm-clause-does g c =
    for_ok c.arm_line.result c.for_memory-in-Arm.result _ c.for_memory-in-Arm.ensures.same
    (subst (λ (e : Event). OnOk c.arm_line.result (CarriesOut g.V.Shelf.cloud_at e c.args.link.now c.args.jobs.now c.arm_line.new.link c.args.jobs.now c.args.text.now c.arm_line.new.text)) (sym c.in-Arm.is) c.arm_line.ensures.does)

pub returns-in-Restart-clause-does : goal.returns-in-Restart-clause-does
returns-in-Restart-clause-does g c =
    for_ok c.restart_line.result c.for_memory-in-Restart.result _ c.for_memory-in-Restart.ensures.same
    (subst (λ (e : Event). OnOk c.restart_line.result (CarriesOut g.V.Shelf.cloud_at e c.args.link.now c.args.jobs.now c.restart_line.new.link c.args.jobs.now c.args.text.now c.restart_line.new.text)) (sym c.in-Restart.is) c.restart_line.ensures.does)

pub returns-in-List-clause-does : goal.returns-in-List-clause-does
returns-in-List-clause-does g c =
    for_ok c.list_line.result c.for_memory-in-List.result _ c.for_memory-in-List.ensures.same
    (subst (λ (e : Event). OnOk c.list_line.result (CarriesOut g.V.Shelf.cloud_at e c.args.link.now c.args.jobs.now c.list_line.new.link c.args.jobs.now c.args.text.now c.list_line.new.text)) (sym c.in-List.is) c.list_line.ensures.does)

pub returns-in-Replace-clause-does : goal.returns-in-Replace-clause-does
returns-in-Replace-clause-does g c =
    subst (λ (e : Event). OnOk c.replace_line.result (CarriesOut g.V.Shelf.cloud_at e c.args.link.now c.args.jobs.now c.replace_line.new.link c.args.jobs.now c.args.text.now c.replace_line.new.text)) (sym c.in-Replace.is) c.replace_line.ensures.does

pub returns-in-Rebuild-clause-does : goal.returns-in-Rebuild-clause-does
returns-in-Rebuild-clause-does g c =
    for_ok c.rebuild_line.result c.for_memory-in-Rebuild.result _ c.for_memory-in-Rebuild.ensures.same
    (subst (λ (e : Event). OnOk c.rebuild_line.result (CarriesOut g.V.Shelf.cloud_at e c.args.link.now c.args.jobs.now c.rebuild_line.new.link c.args.jobs.now c.args.text.now c.rebuild_line.new.text)) (sym c.in-Rebuild.is) c.rebuild_line.ensures.does)

pub returns-in-Delete-clause-does : goal.returns-in-Delete-clause-does
returns-in-Delete-clause-does g c =
    let Is : Event → Type 0 = λ e. OnOk c.delete_line.result (CarriesOut g.V.Shelf.cloud_at e c.args.link.now c.args.jobs.now c.delete_line.new.link c.args.jobs.now c.args.text.now c.delete_line.new.text) in
    for_ok c.delete_line.result c.for_memory-in-Delete.result _ c.for_memory-in-Delete.ensures.same
    (subst Is (sym c.in-Delete.is) (subst (λ (path : List ℕ). Is (events.Delete c.in-Delete.user path c.in-Delete.version c.in-Delete.cloud)) c.as_slice-in-Delete.ensures
    (on_ok c.delete_line.result _ _ (λ each. each c.args.jobs.now) c.delete_line.ensures.does)))
