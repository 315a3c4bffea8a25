use Rattle.std.proofs.Common.{◌≡◌, ◌∷◌, [], ℕ, List, Ok, Err, refl, sym, subst}
use Rattle.lane_steps.specs.Messages.Requests.{IsRequest}
use Rattle.lane_steps.specs.Messages.request.Request.TheVariants as requests
use Rattle.lane_steps.specs.UserDedup.Link.{Asks}
use Rattle.kept_files.specs.RestoreJob.Refusals.{Names}
use Rattle.kept_files.specs.RestoreJob.error.RestoreErr.{RestoreErr}
use Rattle.kept_files.specs.RestoreJob.error.RestoreErr.TheVariants as errors
use Rattle.kept_files.proofs.RestoreJob.Leading.{leads_none, one_step}
use Rattle.kept_files.proofs.RestoreJob.Held.{error_is}
use Rattle.rebuild.proofs.Listed.{from_names, page_moves, page_leads, lost_page}
use Rattle.rebuild.proofs.listing.fetch_page.Goals as goal

pub returns-in-Err-clause-told : goal.returns-in-Err-clause-told
returns-in-Err-clause-told g c = leads_none g.L.Link.tells (c.args.cloud.0 ∷ []) c.args.link.now _ _ (λ a. tt) (λ a. tt)

pub returns-in-Ok-ask-clause-told : goal.returns-in-Ok-ask-clause-told
returns-in-Ok-ask-clause-told g c =
    let t = g.L.Link.tells in
    let asks = subst (λ (l : List ℕ). IsRequest l (requests.List c.args.user c.args.after)) (sym c.as_slice.ensures) c.in-Ok.ensures.asks in
    page_leads t c.args.shape c.args.user c.args.cloud c.args.after c.args.link.now c.ask.new.link c.page_from.result (from_names c.args.cloud _ c.page_from.result c.page_from.ensures.from)
    (one_step t c.args.cloud.0 c.args.link.now c.ask.new.link _ _ c.requires.reached c.in-Ok-ask.ensures.others
    (page_moves t c.args.shape c.args.user c.args.after c.args.cloud c.args.link.now c.ask.new.link c.content.result.now c.page_from.result c.requires.shape c.page_from.ensures.bytes
    (subst (λ (l : List ℕ). Asks {E = RestoreErr} t c.args.cloud.0 c.args.link.now (requests.List c.args.user c.args.after) l (Ok tt) c.ask.new.link) (sym c.content.ensures.value)
    (c.in-Ok-ask.ensures.exec (requests.List c.args.user c.args.after) (record { asked = asks; recipe = tt })))
    c.page_from.ensures.from))

pub returns-clause-told : goal.returns-clause-told
returns-clause-told g c =
    let t = g.L.Link.tells in
    let e = c.in-Err-ask.e in
    let lost : e ≡ errors.Lost c.args.cloud = error_is e (errors.Lost c.args.cloud) c.in-Err-ask.ensures.lost in
    let asks = subst (λ (l : List ℕ). IsRequest l (requests.List c.args.user c.args.after)) (sym c.as_slice.ensures) c.in-Ok.ensures.asks in
    page_leads t c.args.shape c.args.user c.args.cloud c.args.after c.args.link.now c.ask.new.link (Err e) (subst (Names (λ x. x ≡ c.args.cloud.0)) (sym lost) refl)
    (one_step t c.args.cloud.0 c.args.link.now c.ask.new.link _ _ c.requires.reached c.in-Err-ask.ensures.others
    (lost_page t c.args.shape c.args.user c.args.cloud c.args.after c.args.link.now c.ask.new.link c.ask.new.reply e lost (c.in-Err-ask.ensures.exec (requests.List c.args.user c.args.after) (record { asked = asks; recipe = tt }))))
