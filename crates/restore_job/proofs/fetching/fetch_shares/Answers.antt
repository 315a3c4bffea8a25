use Rattle.std.proofs.Common.{◌≡◌, ◌+◌, ◌≤◌, ℕ, List, [], ◌∷◌, length, Result, Ok, Err, refl, sym, subst, arith}
use Rattle.std.specs.Prelude.{IfErr}
use Rattle.user_dedup.specs.CdBase.Reading.{AreBytes}
use Rattle.user_dedup.specs.CdBase.ids.CloudNo.{CloudNo}
use Rattle.user_dedup.specs.CdBase.shape.Shape.{Shape}
use Rattle.user_dedup.specs.Messages.ReplyReading.{reply_at}
use Rattle.user_dedup.specs.Messages.request.Request.TheVariants as requests
use Rattle.user_dedup.specs.Messages.Requests.{IsRequest}
use Rattle.user_dedup.specs.Recipe.items.Item.{Item}
use Rattle.user_dedup.specs.Link.{Asks}
use Rattle.user_dedup.specs.Owning.{fps_in}
use Rattle.restore_job.specs.Refusals.{Names}
use Rattle.restore_job.specs.Steps.{NoShares, Takes, SharesFrom, NamesKind}
use Rattle.restore_job.proofs.Speaking.{unlost}
use Rattle.restore_job.specs.declared.error.RestoreErr.{RestoreErr}
use Rattle.restore_job.specs.declared.error.RestoreErr.TheVariants as errors
use Rattle.restore_job.proofs.Bringing.{taken_came}
use Rattle.restore_job.proofs.Causing.{shares_names, takes_names}
use Rattle.restore_job.proofs.Held.{error_is}
use Rattle.restore_job.proofs.Sharing.{part, shares_taken, shares_unread, shares_lost, shares_unasked}
use Rattle.restore_job.specs.Exchanges.{CloudExchange}
use Rattle.restore_job.proofs.Beside.{lost_spoken}
use Rattle.restore_job.proofs.Readable.{none_asked_to, readable_lost, readable_refusal, readable_shares}
use Rattle.restore_job.proofs.fetching.fetch_shares.Goals as goal

abbrev bad : RestoreErr → Result (Unit {0}) RestoreErr
bad e = Err e

pub returns-in-Err-clause-told : goal.returns-in-Err-clause-told
returns-in-Err-clause-told g c tag version = shares_unasked g.L.Link.tells c.args.batch.now.shape c.args.batch.now.user (tag, version) c.args.cloud c.args.batch.now.firsts.now c.args.recipe.now c.args.batch.now.place c.args.batch.now.count c.args.link.now c.args.rooms.now c.args.rooms.now

pub returns-in-Ok-shares_from-clause-told : goal.returns-in-Ok-shares_from-clause-told
returns-in-Ok-shares_from-clause-told g c tag version =
    let t = g.L.Link.tells in let place = c.args.batch.now.place in let n = c.args.batch.now.count in let items = c.args.recipe.now.items in
    let asked : IsRequest c.as_slice.result.now (requests.GetShares c.args.batch.now.user (fps_in (part place n items))) =
    subst (λ (l : List ℕ). IsRequest l (requests.GetShares c.args.batch.now.user (fps_in (part place n items)))) (sym c.as_slice.ensures)
    (subst (λ (l : List Item). IsRequest c.in-Ok.request (requests.GetShares c.args.batch.now.user (fps_in (part place n l)))) c.as_slice-items.ensures c.in-Ok.ensures.asks) in
    let fits : place + n ≤ length items = (let a = c.requires.firsts in let b = c.requires.same in omega arith) in
    let asks = subst (λ (l : List ℕ). Asks {E = RestoreErr} t c.args.cloud.0 c.args.link.now (requests.GetShares c.args.batch.now.user (fps_in (part place n items))) l (Ok tt) c.ask.new.link) (sym c.content.ensures.value)
    (c.in-Ok-ask.ensures.exec (requests.GetShares c.args.batch.now.user (fps_in (part place n items))) (record { asked = asked; recipe = tt })) in
    let takes = subst (λ (l : List Item). Takes c.args.batch.now.shape c.args.cloud c.args.batch.now.firsts.now l place n c.in-Ok-shares_from.shares c.args.rooms.now c.take_shares.new.rooms c.take_shares.result) c.as_slice-items.ensures c.take_shares.ensures.takes in
    shares_taken t c.args.batch.now.shape c.args.batch.now.user (tag, version) c.args.cloud c.args.batch.now.firsts.now c.args.recipe.now place n c.args.link.now c.ask.new.link c.content.result.now c.in-Ok-shares_from.shares c.args.rooms.now c.take_shares.new.rooms c.take_shares.result
    c.requires.shape (g.met.L.Link.sound c.args.link.now) c.requires.reached c.in-Ok-ask.ensures.others c.in-Ok-shares_from.ensures.bytes fits asks c.in-Ok-shares_from.ensures.from.0 takes

pub returns-in-Ok-ask-clause-told : goal.returns-in-Ok-ask-clause-told
returns-in-Ok-ask-clause-told g c tag version =
    let t = g.L.Link.tells in let place = c.args.batch.now.place in let n = c.args.batch.now.count in let items = c.args.recipe.now.items in
    let asked : IsRequest c.as_slice.result.now (requests.GetShares c.args.batch.now.user (fps_in (part place n items))) =
    subst (λ (l : List ℕ). IsRequest l (requests.GetShares c.args.batch.now.user (fps_in (part place n items)))) (sym c.as_slice.ensures)
    (subst (λ (l : List Item). IsRequest c.in-Ok.request (requests.GetShares c.args.batch.now.user (fps_in (part place n l)))) c.as_slice-items.ensures c.in-Ok.ensures.asks) in
    let fits : place + n ≤ length items = (let a = c.requires.firsts in let b = c.requires.same in omega arith) in
    let asks = subst (λ (l : List ℕ). Asks {E = RestoreErr} t c.args.cloud.0 c.args.link.now (requests.GetShares c.args.batch.now.user (fps_in (part place n items))) l (Ok tt) c.ask.new.link) (sym c.content.ensures.value)
    (c.in-Ok-ask.ensures.exec (requests.GetShares c.args.batch.now.user (fps_in (part place n items))) (record { asked = asked; recipe = tt })) in
    shares_unread t c.args.batch.now.shape c.args.batch.now.user (tag, version) c.args.cloud c.args.batch.now.firsts.now c.args.recipe.now place n c.args.link.now c.ask.new.link c.content.result.now c.args.rooms.now c.args.rooms.now c.in-Err-shares_from.e
    c.requires.shape (g.met.L.Link.sound c.args.link.now) c.requires.reached c.in-Ok-ask.ensures.others c.in-Err-shares_from.ensures.bytes fits asks c.in-Err-shares_from.ensures.from

pub returns-clause-told : goal.returns-clause-told
returns-clause-told g c tag version =
    let t = g.L.Link.tells in let place = c.args.batch.now.place in let n = c.args.batch.now.count in let items = c.args.recipe.now.items in
    let asked : IsRequest c.as_slice.result.now (requests.GetShares c.args.batch.now.user (fps_in (part place n items))) =
    subst (λ (l : List ℕ). IsRequest l (requests.GetShares c.args.batch.now.user (fps_in (part place n items)))) (sym c.as_slice.ensures)
    (subst (λ (l : List Item). IsRequest c.in-Ok.request (requests.GetShares c.args.batch.now.user (fps_in (part place n l)))) c.as_slice-items.ensures c.in-Ok.ensures.asks) in
    let fits : place + n ≤ length items = (let a = c.requires.firsts in let b = c.requires.same in omega arith) in
    shares_lost t c.args.batch.now.shape c.args.batch.now.user (tag, version) c.args.cloud c.args.batch.now.firsts.now c.args.recipe.now place n c.args.link.now c.ask.new.link c.ask.new.reply c.args.rooms.now c.args.rooms.now c.in-Err-ask.e
    c.requires.reached c.in-Err-ask.ensures.others fits
    (c.in-Err-ask.ensures.exec (requests.GetShares c.args.batch.now.user (fps_in (part place n items))) (record { asked = asked; recipe = tt })) c.in-Err-ask.ensures.lost

taken_names : (shape : Shape) (cloud : CloudNo) (firsts items : List Item) (place n : ℕ) (shares rooms filled : List (List ℕ)) (res : Result (Unit {0}) RestoreErr) → Takes shape cloud firsts items place n shares rooms filled res
    → IfErr res (Names (λ x. x ≡ cloud.0))
taken_names shape cloud firsts items place n shares rooms filled (Ok u) takes = tt
taken_names shape cloud firsts items place n shares rooms filled (Err e) takes = takes_names shape cloud firsts items place n shares rooms filled e takes

pub returns-in-Ok-shares_from-clause-named : goal.returns-in-Ok-shares_from-clause-named
returns-in-Ok-shares_from-clause-named g c =
    taken_names c.args.batch.now.shape c.args.cloud c.args.batch.now.firsts.now c.as_slice-items.result.now c.args.batch.now.place c.args.batch.now.count c.in-Ok-shares_from.shares c.args.rooms.now c.take_shares.new.rooms c.take_shares.result c.take_shares.ensures.takes

pub returns-in-Ok-ask-clause-named : goal.returns-in-Ok-ask-clause-named
returns-in-Ok-ask-clause-named g c = shares_names c.args.cloud (reply_at c.content.result.now) (NoShares c.args.batch.now.count) c.in-Err-shares_from.e c.in-Err-shares_from.ensures.from

pub returns-clause-named : goal.returns-clause-named
returns-clause-named g c = subst (Names (λ x. x ≡ c.args.cloud.0)) (sym (error_is c.in-Err-ask.e (errors.Lost c.args.cloud) c.in-Err-ask.ensures.lost)) refl

pub returns-in-Ok-shares_from-clause-came : goal.returns-in-Ok-shares_from-clause-came
returns-in-Ok-shares_from-clause-came g c =
    taken_came c.args.batch.now.shape c.args.cloud c.args.batch.now.firsts.now c.as_slice-items.result.now c.args.recipe.now c.args.batch.now.place c.args.batch.now.count c.in-Ok-shares_from.shares c.args.rooms.now c.take_shares.new.rooms c.take_shares.result c.as_slice-items.ensures c.take_shares.ensures.takes

pub returns-in-Ok-shares_from-clause-said : goal.returns-in-Ok-shares_from-clause-said
returns-in-Ok-shares_from-clause-said g c =
    let place = c.args.batch.now.place in let n = c.args.batch.now.count in let items = c.args.recipe.now.items in
    let asked : IsRequest c.as_slice.result.now (requests.GetShares c.args.batch.now.user (fps_in (part place n items))) =
    subst (λ (l : List ℕ). IsRequest l (requests.GetShares c.args.batch.now.user (fps_in (part place n items)))) (sym c.as_slice.ensures)
    (subst (λ (l : List Item). IsRequest c.in-Ok.request (requests.GetShares c.args.batch.now.user (fps_in (part place n l)))) c.as_slice-items.ensures c.in-Ok.ensures.asks) in
    unlost c.take_shares.result _ (
      record { cloud = c.args.cloud.0; request = c.as_slice.result.now; reply = c.ask.new.reply },
      c.in-Ok-ask.ensures.spoken,
      record {
        cloud_is = refl;
        asked = asked;
        brought = Ok c.in-Ok-shares_from.shares;
        came = subst (λ (l : List ℕ). SharesFrom c.args.cloud n (reply_at l) (Ok c.in-Ok-shares_from.shares)) c.content.ensures.value c.in-Ok-shares_from.ensures.from;
        kind = tt;
        bytes = subst AreBytes c.content.ensures.value c.in-Ok-shares_from.ensures.bytes;
        taken = subst (λ (l : List Item). Takes c.args.batch.now.shape c.args.cloud c.args.batch.now.firsts.now l place n c.in-Ok-shares_from.shares c.args.rooms.now c.take_shares.new.rooms c.take_shares.result) c.as_slice-items.ensures c.take_shares.ensures.takes;
      },
    )

pub returns-in-Ok-ask-clause-said : goal.returns-in-Ok-ask-clause-said
returns-in-Ok-ask-clause-said g c =
    let place = c.args.batch.now.place in let n = c.args.batch.now.count in let items = c.args.recipe.now.items in
    let asked : IsRequest c.as_slice.result.now (requests.GetShares c.args.batch.now.user (fps_in (part place n items))) =
    subst (λ (l : List ℕ). IsRequest l (requests.GetShares c.args.batch.now.user (fps_in (part place n items)))) (sym c.as_slice.ensures)
    (subst (λ (l : List Item). IsRequest c.in-Ok.request (requests.GetShares c.args.batch.now.user (fps_in (part place n l)))) c.as_slice-items.ensures c.in-Ok.ensures.asks) in
    unlost (bad c.in-Err-shares_from.e) _ (
      record { cloud = c.args.cloud.0; request = c.as_slice.result.now; reply = c.ask.new.reply },
      c.in-Ok-ask.ensures.spoken,
      record {
        cloud_is = refl;
        asked = asked;
        brought = Err c.in-Err-shares_from.e;
        came = subst (λ (l : List ℕ). SharesFrom c.args.cloud n (reply_at l) (Err c.in-Err-shares_from.e)) c.content.ensures.value c.in-Err-shares_from.ensures.from;
        kind = subst (λ (l : List ℕ). NamesKind {A = List (List ℕ)} l (Err c.in-Err-shares_from.e)) c.content.ensures.value c.in-Err-shares_from.ensures.kind;
        bytes = subst AreBytes c.content.ensures.value c.in-Err-shares_from.ensures.bytes;
        taken = refl;
      },
    )

pub returns-in-Ok-shares_from-clause-beside : goal.returns-in-Ok-shares_from-clause-beside
returns-in-Ok-shares_from-clause-beside g c =
    let x : CloudExchange = record { cloud = c.args.cloud.0; request = c.as_slice.result.now; reply = c.ask.new.reply } in
    lost_spoken g.L.Link.talk c.args.link.now c.ask.new.link (x ∷ []) c.take_shares.result c.in-Ok-ask.ensures.spoken.0

pub returns-in-Ok-ask-clause-beside : goal.returns-in-Ok-ask-clause-beside
returns-in-Ok-ask-clause-beside g c =
    let x : CloudExchange = record { cloud = c.args.cloud.0; request = c.as_slice.result.now; reply = c.ask.new.reply } in
    lost_spoken g.L.Link.talk c.args.link.now c.ask.new.link (x ∷ []) (bad c.in-Err-shares_from.e)
    c.in-Ok-ask.ensures.spoken.0

pub returns-in-Err-clause-readable : goal.returns-in-Err-clause-readable
returns-in-Err-clause-readable g c = none_asked_to g.L.Link.tells c.args.link.now errors.NoMemory

pub returns-in-Ok-shares_from-clause-readable : goal.returns-in-Ok-shares_from-clause-readable
returns-in-Ok-shares_from-clause-readable g c =
    readable_shares g.L.Link.tells c.args.link.now c.ask.new.link c.args.cloud c.as_slice.result.now c.ask.new.reply
    c.args.batch.now.count c.in-Ok-shares_from.shares c.take_shares.result
    (subst (λ (l : List ℕ). SharesFrom c.args.cloud c.args.batch.now.count (reply_at l) (Ok c.in-Ok-shares_from.shares))
    c.content.ensures.value c.in-Ok-shares_from.ensures.from) c.in-Ok-ask.ensures.passes

pub returns-in-Ok-ask-clause-readable : goal.returns-in-Ok-ask-clause-readable
returns-in-Ok-ask-clause-readable g c =
    readable_refusal g.L.Link.tells c.args.link.now c.ask.new.link c.args.cloud c.as_slice.result.now c.ask.new.reply
    c.args.batch.now.count c.in-Err-shares_from.e
    (subst (λ (l : List ℕ). SharesFrom c.args.cloud c.args.batch.now.count (reply_at l) (Err c.in-Err-shares_from.e))
    c.content.ensures.value c.in-Err-shares_from.ensures.from) c.in-Ok-ask.ensures.passes

pub returns-clause-readable : goal.returns-clause-readable
returns-clause-readable g c =
    readable_lost g.L.Link.tells c.args.link.now c.ask.new.link c.args.cloud c.as_slice.result.now [] c.in-Err-ask.e
    (error_is c.in-Err-ask.e (errors.Lost c.args.cloud) c.in-Err-ask.ensures.lost) c.in-Err-ask.ensures.passes
