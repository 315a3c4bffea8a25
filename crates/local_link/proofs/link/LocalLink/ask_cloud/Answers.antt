use Rattle.std.proofs.Common.{refl, sym, subst, arith, inl, inr}
use Rattle.std.proofs.lemmas.Bool.{ltb-true}
use Rattle.share_server.specs.UserDedup.Link.{LeavesOthers, serves}
use Rattle.share_server.specs.CloudAreas.Peers.{MayBecome}
use Rattle.local_link.specs.Tells.{server_at, rooms_at, header_at, telling, LeavesRest}
use Rattle.local_link.proofs.Standing.{rest_by, others_by, rooms_same, here_now, images_now}
use Rattle.local_link.proofs.Executing.{goes_on, refused_clouds, clouds_counted, refuses, refused_reply, images_since, images_stay, peer_counted, images_counted, replied_here, uncounted_here, called_here, closed_here, none_called, calls_counted, replied_counted, closed_counted, total_counted, opened_here, found_here, opened_counted, found_counted, rooms_counted, behind_here, behind_counted, grown_here, grown_counted, enters_here, enters_counted, first_here, first_counted}
use Rattle.local_link.proofs.link.LocalLink.ask_cloud.Goals as goal

pub returns-in-Deliver-clause-executed : goal.returns-in-Deliver-clause-executed
returns-in-Deliver-clause-executed g c = λ ne r asked p is.
    let e = c.execute.ensures in
    let x = goes_on c.args.self.now.servers c.execute.new.self c.args.cloud.0 e.0 e.1 e.2 (ltb-true c.args.cloud.0 c.args.self.now.servers.shape.n c.requires.reached)
    (g.V.Shelf.cloud_at c.args.self.now.shelf.now) (g.V.Shelf.cloud_at c.execute.new.shelf) _ _ c.args.request.now c.execute.new.reply e.3 p r (λ i. omega (arith, c.type_inv.request i)) is asked in
    (x.peer, x.answer, x.stands, x.exec)

pub returns-in-Deliver-clause-exec : goal.returns-in-Deliver-clause-exec
returns-in-Deliver-clause-exec g c = λ r asked p is.
    let e = c.execute.ensures in
    let x = goes_on c.args.self.now.servers c.execute.new.self c.args.cloud.0 e.0 e.1 e.2 (ltb-true c.args.cloud.0 c.args.self.now.servers.shape.n c.requires.reached)
    (g.V.Shelf.cloud_at c.args.self.now.shelf.now) (g.V.Shelf.cloud_at c.execute.new.shelf) _ _ c.args.request.now c.execute.new.reply e.3 p r (λ i. omega (arith, c.type_inv.request i)) is asked in
    (x.peer, x.stands, (x.answer, x.is, x.exec))

pub returns-in-Deliver-clause-malformed : goal.returns-in-Deliver-clause-malformed
returns-in-Deliver-clause-malformed g c = λ at asked p is.
    let e = c.execute.ensures in
    let lt = ltb-true c.args.cloud.0 c.args.self.now.servers.shape.n c.requires.reached in (
      refuses c.args.self.now.servers c.execute.new.self c.args.cloud.0 e.0 e.1 e.2 lt (g.V.Shelf.cloud_at c.args.self.now.shelf.now) (g.V.Shelf.cloud_at c.execute.new.shelf) _ _ c.args.request.now c.execute.new.reply e.3 at asked p is,
      refused_reply c.args.self.now.servers c.execute.new.self c.args.cloud.0 e.0 e.1 e.2 lt (g.V.Shelf.cloud_at c.args.self.now.shelf.now) (g.V.Shelf.cloud_at c.execute.new.shelf) _ _ c.args.request.now c.execute.new.reply e.3 at
          (λ i. omega (arith, c.type_inv.request i)) c.requires.framed asked,
    )

pub returns-in-Deliver-clause-rest : goal.returns-in-Deliver-clause-rest
returns-in-Deliver-clause-rest g c = let e = c.execute.ensures in rest_by g.V.Shelf.cloud_at c.args.cloud.0 c.args.self.now _ e.0 e.1 _ _ e.2 e.3.call

pub returns-in-Deliver-clause-others : goal.returns-in-Deliver-clause-others
returns-in-Deliver-clause-others g c =
    let e = c.execute.ensures in
    let lt = ltb-true c.args.cloud.0 c.args.self.now.servers.shape.n c.requires.reached in
    others_by g.V.Shelf.cloud_at c.args.cloud.0 c.args.self.now _ (rest_by g.V.Shelf.cloud_at c.args.cloud.0 c.args.self.now _ e.0 e.1 _ _ e.2 e.3.call)
    (rooms_same _ _ e.0 e.1 e.2.here (here_now c.args.self.now.servers c.execute.new.self c.args.cloud.0 e.0 e.1 e.2 lt) e.3.same)

pub returns-in-Deliver-clause-images : goal.returns-in-Deliver-clause-images
returns-in-Deliver-clause-images g c = λ p r told is asked.
    let e = c.execute.ensures in
    images_since c.args.self.now.servers c.execute.new.self c.args.cloud.0 e.0 e.1 e.2 (ltb-true c.args.cloud.0 c.args.self.now.servers.shape.n c.requires.reached)
    (g.V.Shelf.cloud_at c.args.self.now.shelf.now) (g.V.Shelf.cloud_at c.execute.new.shelf) _ _ c.args.request.now c.execute.new.reply e.3 p r told is asked

pub returns-in-LoseRequest-clause-exec : goal.returns-in-LoseRequest-clause-exec
returns-in-LoseRequest-clause-exec g c = λ r asked p is. (
  p,
  peer_counted g.V.Shelf.cloud_at _ c.lose.new.self c.args.cloud.0 p c.lose.ensures.counted is,
  inl (record { list = refl; pending = refl }, record { faults = omega arith; armings = refl }),
)

pub returns-in-LoseRequest-clause-images : goal.returns-in-LoseRequest-clause-images
returns-in-LoseRequest-clause-images g c = λ p r told is asked.
    images_counted g.V.Shelf.cloud_at _ c.lose.new.self c.args.cloud.0 (g.V.Shelf.cloud_at c.args.self.now.shelf.now c.args.cloud.0) (header_at c.args.self.now.servers c.args.cloud.0)
    (MayBecome (serves (telling g.V.Shelf.cloud_at) c.args.self.now c.args.cloud.0) p r) c.lose.ensures.counted
    (images_stay (header_at c.args.self.now.servers c.args.cloud.0) (serves (telling g.V.Shelf.cloud_at) c.args.self.now c.args.cloud.0) (g.V.Shelf.cloud_at c.args.self.now.shelf.now c.args.cloud.0) p r
    (images_now c.args.self.now.servers c.args.cloud.0 (g.V.Shelf.cloud_at c.args.self.now.shelf.now c.args.cloud.0) p (ltb-true c.args.cloud.0 c.args.self.now.servers.shape.n c.requires.reached) told is))

pub returns-in-LoseReply-clause-executed : goal.returns-in-LoseReply-clause-executed
returns-in-LoseReply-clause-executed g c = λ ne r asked p is.
    let e = c.execute-in-LoseReply.ensures in
    let x = goes_on c.args.self.now.servers c.execute-in-LoseReply.new.self c.args.cloud.0 e.0 e.1 e.2 (ltb-true c.args.cloud.0 c.args.self.now.servers.shape.n c.requires.reached)
    (g.V.Shelf.cloud_at c.args.self.now.shelf.now) (g.V.Shelf.cloud_at c.execute-in-LoseReply.new.shelf) _ _ c.args.request.now c.execute-in-LoseReply.new.reply e.3 p r (λ i. omega (arith, c.type_inv.request i)) is asked in
    (x.peer, x.answer, peer_counted g.V.Shelf.cloud_at _ c.lose-in-LoseReply.new.self c.args.cloud.0 x.peer c.lose-in-LoseReply.ensures.counted x.stands, x.exec)

pub returns-in-LoseReply-clause-exec : goal.returns-in-LoseReply-clause-exec
returns-in-LoseReply-clause-exec g c = λ r asked p is.
    let e = c.execute-in-LoseReply.ensures in
    let x = goes_on c.args.self.now.servers c.execute-in-LoseReply.new.self c.args.cloud.0 e.0 e.1 e.2 (ltb-true c.args.cloud.0 c.args.self.now.servers.shape.n c.requires.reached)
    (g.V.Shelf.cloud_at c.args.self.now.shelf.now) (g.V.Shelf.cloud_at c.execute-in-LoseReply.new.shelf) _ _ c.args.request.now c.execute-in-LoseReply.new.reply e.3 p r (λ i. omega (arith, c.type_inv.request i)) is asked in
    (x.peer, peer_counted g.V.Shelf.cloud_at _ c.lose-in-LoseReply.new.self c.args.cloud.0 x.peer c.lose-in-LoseReply.ensures.counted x.stands, inr (x.answer, x.exec))

pub returns-in-LoseReply-clause-malformed : goal.returns-in-LoseReply-clause-malformed
returns-in-LoseReply-clause-malformed g c = λ at asked p is.
    let e = c.execute-in-LoseReply.ensures in
    let lt = ltb-true c.args.cloud.0 c.args.self.now.servers.shape.n c.requires.reached in (
      peer_counted g.V.Shelf.cloud_at _ c.lose-in-LoseReply.new.self c.args.cloud.0 p c.lose-in-LoseReply.ensures.counted
          (refuses c.args.self.now.servers c.execute-in-LoseReply.new.self c.args.cloud.0 e.0 e.1 e.2 lt (g.V.Shelf.cloud_at c.args.self.now.shelf.now) (g.V.Shelf.cloud_at c.execute-in-LoseReply.new.shelf) _ _ c.args.request.now c.execute-in-LoseReply.new.reply e.3 at asked p is),
      tt,
    )

pub returns-in-LoseReply-clause-rest : goal.returns-in-LoseReply-clause-rest
returns-in-LoseReply-clause-rest g c =
    let e = c.execute-in-LoseReply.ensures in
    subst (LeavesRest g.V.Shelf.cloud_at c.args.cloud.0 c.args.self.now) (sym c.lose-in-LoseReply.ensures.counted) (rest_by g.V.Shelf.cloud_at c.args.cloud.0 c.args.self.now _ e.0 e.1 _ _ e.2 e.3.call)

pub returns-in-LoseReply-clause-others : goal.returns-in-LoseReply-clause-others
returns-in-LoseReply-clause-others g c =
    let e = c.execute-in-LoseReply.ensures in
    let lt = ltb-true c.args.cloud.0 c.args.self.now.servers.shape.n c.requires.reached in
    subst (LeavesOthers (telling g.V.Shelf.cloud_at) c.args.cloud.0 c.args.self.now) (sym c.lose-in-LoseReply.ensures.counted)
    (others_by g.V.Shelf.cloud_at c.args.cloud.0 c.args.self.now _ (rest_by g.V.Shelf.cloud_at c.args.cloud.0 c.args.self.now _ e.0 e.1 _ _ e.2 e.3.call)
    (rooms_same _ _ e.0 e.1 e.2.here (here_now c.args.self.now.servers c.execute-in-LoseReply.new.self c.args.cloud.0 e.0 e.1 e.2 lt) e.3.same))

pub returns-in-LoseReply-clause-images : goal.returns-in-LoseReply-clause-images
returns-in-LoseReply-clause-images g c = λ p r told is asked.
    let e = c.execute-in-LoseReply.ensures in
    images_counted g.V.Shelf.cloud_at _ c.lose-in-LoseReply.new.self c.args.cloud.0 (g.V.Shelf.cloud_at c.args.self.now.shelf.now c.args.cloud.0) (header_at c.args.self.now.servers c.args.cloud.0)
    (MayBecome (serves (telling g.V.Shelf.cloud_at) c.args.self.now c.args.cloud.0) p r) c.lose-in-LoseReply.ensures.counted
    (images_since c.args.self.now.servers c.execute-in-LoseReply.new.self c.args.cloud.0 e.0 e.1 e.2 (ltb-true c.args.cloud.0 c.args.self.now.servers.shape.n c.requires.reached)
    (g.V.Shelf.cloud_at c.args.self.now.shelf.now) (g.V.Shelf.cloud_at c.execute-in-LoseReply.new.shelf) _ _ c.args.request.now c.execute-in-LoseReply.new.reply e.3 p r told is asked)

pub returns-in-Deliver-clause-refused : goal.returns-in-Deliver-clause-refused
returns-in-Deliver-clause-refused g c = λ at asked.
    let e = c.execute.ensures in
    refused_clouds c.args.self.now.servers c.execute.new.self c.args.cloud.0 e.0 e.1 e.2 (ltb-true c.args.cloud.0 c.args.self.now.servers.shape.n c.requires.reached)
    (g.V.Shelf.cloud_at c.args.self.now.shelf.now) (g.V.Shelf.cloud_at c.execute.new.shelf) _ _ c.args.request.now c.execute.new.reply e.3 at asked

pub returns-in-LoseReply-clause-refused : goal.returns-in-LoseReply-clause-refused
returns-in-LoseReply-clause-refused g c = λ at asked.
    let e = c.execute-in-LoseReply.ensures in
    clouds_counted g.V.Shelf.cloud_at _ c.lose-in-LoseReply.new.self (g.V.Shelf.cloud_at c.args.self.now.shelf.now) c.lose-in-LoseReply.ensures.counted
    (refused_clouds c.args.self.now.servers c.execute-in-LoseReply.new.self c.args.cloud.0 e.0 e.1 e.2 (ltb-true c.args.cloud.0 c.args.self.now.servers.shape.n c.requires.reached)
    (g.V.Shelf.cloud_at c.args.self.now.shelf.now) (g.V.Shelf.cloud_at c.execute-in-LoseReply.new.shelf) _ _ c.args.request.now c.execute-in-LoseReply.new.reply e.3 at asked)

pub returns-in-Deliver-clause-uncounted : goal.returns-in-Deliver-clause-uncounted
returns-in-Deliver-clause-uncounted g c = λ at asked.
    let e = c.execute.ensures in
    uncounted_here c.args.self.now.servers c.execute.new.self c.args.cloud.0 e.0 e.1 e.2 (ltb-true c.args.cloud.0 c.args.self.now.servers.shape.n c.requires.reached)
    (g.V.Shelf.cloud_at c.args.self.now.shelf.now) (g.V.Shelf.cloud_at c.execute.new.shelf) _ _ c.args.request.now c.execute.new.reply e.3 at asked

pub returns-in-Deliver-clause-call : goal.returns-in-Deliver-clause-call
returns-in-Deliver-clause-call g c =
    let e = c.execute.ensures in
    called_here c.args.self.now.servers c.execute.new.self c.args.cloud.0 e.0 e.1 e.2 (ltb-true c.args.cloud.0 c.args.self.now.servers.shape.n c.requires.reached)
    (g.V.Shelf.cloud_at c.args.self.now.shelf.now) (g.V.Shelf.cloud_at c.execute.new.shelf) _ _ c.args.request.now c.execute.new.reply e.3

pub returns-in-Deliver-clause-answered : goal.returns-in-Deliver-clause-answered
returns-in-Deliver-clause-answered g c = λ ne r asked.
    let e = c.execute.ensures in (
      c.execute.new.reply,
      refl,
      replied_here c.args.self.now.servers c.execute.new.self c.args.cloud.0 e.0 e.1 e.2 (ltb-true c.args.cloud.0 c.args.self.now.servers.shape.n c.requires.reached)
          (g.V.Shelf.cloud_at c.args.self.now.shelf.now) (g.V.Shelf.cloud_at c.execute.new.shelf) _ _ c.args.request.now c.execute.new.reply e.3 r asked,
    )

pub returns-in-Deliver-clause-closed : goal.returns-in-Deliver-clause-closed
returns-in-Deliver-clause-closed g c = λ ne r told asked.
    let e = c.execute.ensures in (
      c.execute.new.reply,
      refl,
      closed_here c.args.self.now.servers c.execute.new.self c.args.cloud.0 e.0 e.1 e.2 (ltb-true c.args.cloud.0 c.args.self.now.servers.shape.n c.requires.reached)
          (g.V.Shelf.cloud_at c.args.self.now.shelf.now) (g.V.Shelf.cloud_at c.execute.new.shelf) _ _ c.args.request.now c.execute.new.reply e.3 r told asked,
    )

pub returns-in-LoseRequest-clause-call : goal.returns-in-LoseRequest-clause-call
returns-in-LoseRequest-clause-call g c =
    calls_counted g.V.Shelf.cloud_at g.V.Shelf.faults _ c.lose.new.self c.args.cloud.0 (g.V.Shelf.cloud_at c.args.self.now.shelf.now) (g.V.Shelf.faults c.args.self.now.shelf.now) c.lose.ensures.counted
    (none_called (g.V.Shelf.cloud_at c.args.self.now.shelf.now) c.args.cloud.0 (g.V.Shelf.faults c.args.self.now.shelf.now))

pub returns-in-LoseReply-clause-uncounted : goal.returns-in-LoseReply-clause-uncounted
returns-in-LoseReply-clause-uncounted g c = λ at asked.
    let e = c.execute-in-LoseReply.ensures in
    total_counted g.V.Shelf.faults _ c.lose-in-LoseReply.new.self (g.V.Shelf.faults c.args.self.now.shelf.now) c.lose-in-LoseReply.ensures.counted
    (uncounted_here c.args.self.now.servers c.execute-in-LoseReply.new.self c.args.cloud.0 e.0 e.1 e.2 (ltb-true c.args.cloud.0 c.args.self.now.servers.shape.n c.requires.reached)
    (g.V.Shelf.cloud_at c.args.self.now.shelf.now) (g.V.Shelf.cloud_at c.execute-in-LoseReply.new.shelf) _ _ c.args.request.now c.execute-in-LoseReply.new.reply e.3 at asked)

pub returns-in-LoseReply-clause-call : goal.returns-in-LoseReply-clause-call
returns-in-LoseReply-clause-call g c =
    let e = c.execute-in-LoseReply.ensures in
    calls_counted g.V.Shelf.cloud_at g.V.Shelf.faults _ c.lose-in-LoseReply.new.self c.args.cloud.0 (g.V.Shelf.cloud_at c.args.self.now.shelf.now) (g.V.Shelf.faults c.args.self.now.shelf.now) c.lose-in-LoseReply.ensures.counted
    (called_here c.args.self.now.servers c.execute-in-LoseReply.new.self c.args.cloud.0 e.0 e.1 e.2 (ltb-true c.args.cloud.0 c.args.self.now.servers.shape.n c.requires.reached)
    (g.V.Shelf.cloud_at c.args.self.now.shelf.now) (g.V.Shelf.cloud_at c.execute-in-LoseReply.new.shelf) _ _ c.args.request.now c.execute-in-LoseReply.new.reply e.3)

pub returns-in-LoseReply-clause-answered : goal.returns-in-LoseReply-clause-answered
returns-in-LoseReply-clause-answered g c = λ ne r asked.
    let e = c.execute-in-LoseReply.ensures in (
      c.execute-in-LoseReply.new.reply,
      tt,
      replied_counted g.V.Shelf.cloud_at g.V.Shelf.faults _ c.lose-in-LoseReply.new.self c.args.cloud.0 _ (g.V.Shelf.cloud_at c.args.self.now.shelf.now c.args.cloud.0) (g.V.Shelf.faults c.args.self.now.shelf.now) r _ c.lose-in-LoseReply.ensures.counted
          (replied_here c.args.self.now.servers c.execute-in-LoseReply.new.self c.args.cloud.0 e.0 e.1 e.2 (ltb-true c.args.cloud.0 c.args.self.now.servers.shape.n c.requires.reached)
          (g.V.Shelf.cloud_at c.args.self.now.shelf.now) (g.V.Shelf.cloud_at c.execute-in-LoseReply.new.shelf) _ _ c.args.request.now c.execute-in-LoseReply.new.reply e.3 r asked),
    )

pub returns-in-LoseReply-clause-closed : goal.returns-in-LoseReply-clause-closed
returns-in-LoseReply-clause-closed g c = λ ne r told asked.
    let e = c.execute-in-LoseReply.ensures in (
      c.execute-in-LoseReply.new.reply,
      tt,
      closed_counted g.V.Shelf.cloud_at _ c.lose-in-LoseReply.new.self c.args.cloud.0 (server_at c.args.self.now.servers c.args.cloud.0) (g.V.Shelf.cloud_at c.args.self.now.shelf.now c.args.cloud.0) _ c.lose-in-LoseReply.ensures.counted
          (closed_here c.args.self.now.servers c.execute-in-LoseReply.new.self c.args.cloud.0 e.0 e.1 e.2 (ltb-true c.args.cloud.0 c.args.self.now.servers.shape.n c.requires.reached)
          (g.V.Shelf.cloud_at c.args.self.now.shelf.now) (g.V.Shelf.cloud_at c.execute-in-LoseReply.new.shelf) _ _ c.args.request.now c.execute-in-LoseReply.new.reply e.3 r told asked),
    )

pub returns-in-Deliver-clause-opened : goal.returns-in-Deliver-clause-opened
returns-in-Deliver-clause-opened g c = λ ne r asked.
    let e = c.execute.ensures in (
      c.execute.new.reply,
      refl,
      opened_here c.args.self.now.servers c.execute.new.self c.args.cloud.0 e.0 e.1 e.2 (ltb-true c.args.cloud.0 c.args.self.now.servers.shape.n c.requires.reached)
          (g.V.Shelf.cloud_at c.args.self.now.shelf.now) (g.V.Shelf.cloud_at c.execute.new.shelf) _ _ c.args.request.now c.execute.new.reply e.3 r asked,
    )

pub returns-in-Deliver-clause-found : goal.returns-in-Deliver-clause-found
returns-in-Deliver-clause-found g c = λ ne r asked.
    let e = c.execute.ensures in (
      c.execute.new.reply,
      refl,
      found_here c.args.self.now.servers c.execute.new.self c.args.cloud.0 e.0 e.1 e.2 (ltb-true c.args.cloud.0 c.args.self.now.servers.shape.n c.requires.reached)
          (g.V.Shelf.cloud_at c.args.self.now.shelf.now) (g.V.Shelf.cloud_at c.execute.new.shelf) _ _ c.args.request.now c.execute.new.reply e.3 r asked,
    )

pub returns-in-LoseReply-clause-opened : goal.returns-in-LoseReply-clause-opened
returns-in-LoseReply-clause-opened g c = λ ne r asked.
    let e = c.execute-in-LoseReply.ensures in (
      c.execute-in-LoseReply.new.reply,
      tt,
      opened_counted g.V.Shelf.cloud_at g.V.Shelf.faults _ c.lose-in-LoseReply.new.self (server_at c.args.self.now.servers c.args.cloud.0) (g.V.Shelf.cloud_at c.args.self.now.shelf.now)
          (g.V.Shelf.faults c.args.self.now.shelf.now) r _ c.lose-in-LoseReply.ensures.counted
          (opened_here c.args.self.now.servers c.execute-in-LoseReply.new.self c.args.cloud.0 e.0 e.1 e.2 (ltb-true c.args.cloud.0 c.args.self.now.servers.shape.n c.requires.reached)
          (g.V.Shelf.cloud_at c.args.self.now.shelf.now) (g.V.Shelf.cloud_at c.execute-in-LoseReply.new.shelf) _ _ c.args.request.now c.execute-in-LoseReply.new.reply e.3 r asked),
    )

pub returns-in-LoseReply-clause-found : goal.returns-in-LoseReply-clause-found
returns-in-LoseReply-clause-found g c = λ ne r asked.
    let e = c.execute-in-LoseReply.ensures in (
      c.execute-in-LoseReply.new.reply,
      tt,
      found_counted g.V.Shelf.cloud_at _ c.lose-in-LoseReply.new.self c.args.cloud.0 r _ c.lose-in-LoseReply.ensures.counted
          (found_here c.args.self.now.servers c.execute-in-LoseReply.new.self c.args.cloud.0 e.0 e.1 e.2 (ltb-true c.args.cloud.0 c.args.self.now.servers.shape.n c.requires.reached)
          (g.V.Shelf.cloud_at c.args.self.now.shelf.now) (g.V.Shelf.cloud_at c.execute-in-LoseReply.new.shelf) _ _ c.args.request.now c.execute-in-LoseReply.new.reply e.3 r asked),
    )

pub returns-in-Deliver-clause-rooms : goal.returns-in-Deliver-clause-rooms
returns-in-Deliver-clause-rooms g c =
    let e = c.execute.ensures in
    rooms_same _ _ e.0 e.1 e.2.here (here_now c.args.self.now.servers c.execute.new.self c.args.cloud.0 e.0 e.1 e.2 (ltb-true c.args.cloud.0 c.args.self.now.servers.shape.n c.requires.reached)) e.3.same

pub returns-in-LoseRequest-clause-rooms : goal.returns-in-LoseRequest-clause-rooms
returns-in-LoseRequest-clause-rooms g c =
    rooms_counted _ c.lose.new.self c.args.cloud.0 (rooms_at c.args.self.now.servers c.args.cloud.0) c.lose.ensures.counted refl

pub returns-in-LoseReply-clause-rooms : goal.returns-in-LoseReply-clause-rooms
returns-in-LoseReply-clause-rooms g c =
    let e = c.execute-in-LoseReply.ensures in
    rooms_counted _ c.lose-in-LoseReply.new.self c.args.cloud.0 (rooms_at c.args.self.now.servers c.args.cloud.0) c.lose-in-LoseReply.ensures.counted
    (rooms_same _ _ e.0 e.1 e.2.here (here_now c.args.self.now.servers c.execute-in-LoseReply.new.self c.args.cloud.0 e.0 e.1 e.2 (ltb-true c.args.cloud.0 c.args.self.now.servers.shape.n c.requires.reached)) e.3.same)

pub returns-in-Deliver-clause-behind : goal.returns-in-Deliver-clause-behind
returns-in-Deliver-clause-behind g c = λ ne r asked.
    let e = c.execute.ensures in
    behind_here c.args.self.now.servers c.execute.new.self c.args.cloud.0 e.0 e.1 e.2 (ltb-true c.args.cloud.0 c.args.self.now.servers.shape.n c.requires.reached)
    (g.V.Shelf.cloud_at c.args.self.now.shelf.now) (g.V.Shelf.cloud_at c.execute.new.shelf) _ _ c.args.request.now c.execute.new.reply e.3 r asked

pub returns-in-LoseReply-clause-behind : goal.returns-in-LoseReply-clause-behind
returns-in-LoseReply-clause-behind g c = λ ne r asked.
    let e = c.execute-in-LoseReply.ensures in
    behind_counted g.V.Shelf.cloud_at _ c.lose-in-LoseReply.new.self c.args.cloud.0 (server_at c.args.self.now.servers c.args.cloud.0) (g.V.Shelf.cloud_at c.args.self.now.shelf.now c.args.cloud.0) r c.lose-in-LoseReply.ensures.counted
    (behind_here c.args.self.now.servers c.execute-in-LoseReply.new.self c.args.cloud.0 e.0 e.1 e.2 (ltb-true c.args.cloud.0 c.args.self.now.servers.shape.n c.requires.reached)
    (g.V.Shelf.cloud_at c.args.self.now.shelf.now) (g.V.Shelf.cloud_at c.execute-in-LoseReply.new.shelf) _ _ c.args.request.now c.execute-in-LoseReply.new.reply e.3 r asked)

pub returns-in-Deliver-clause-grown : goal.returns-in-Deliver-clause-grown
returns-in-Deliver-clause-grown g c = λ ne r asked.
    let e = c.execute.ensures in (
      c.execute.new.reply,
      refl,
      grown_here c.args.self.now.servers c.execute.new.self c.args.cloud.0 e.0 e.1 e.2 (ltb-true c.args.cloud.0 c.args.self.now.servers.shape.n c.requires.reached)
          (g.V.Shelf.cloud_at c.args.self.now.shelf.now) (g.V.Shelf.cloud_at c.execute.new.shelf) _ _ c.args.request.now c.execute.new.reply e.3 r asked,
    )

pub returns-in-LoseReply-clause-grown : goal.returns-in-LoseReply-clause-grown
returns-in-LoseReply-clause-grown g c = λ ne r asked.
    let e = c.execute-in-LoseReply.ensures in (
      c.execute-in-LoseReply.new.reply,
      tt,
      grown_counted g.V.Shelf.cloud_at _ c.lose-in-LoseReply.new.self c.args.cloud.0 (server_at c.args.self.now.servers c.args.cloud.0) (g.V.Shelf.cloud_at c.args.self.now.shelf.now c.args.cloud.0) r _ c.lose-in-LoseReply.ensures.counted
          (grown_here c.args.self.now.servers c.execute-in-LoseReply.new.self c.args.cloud.0 e.0 e.1 e.2 (ltb-true c.args.cloud.0 c.args.self.now.servers.shape.n c.requires.reached)
          (g.V.Shelf.cloud_at c.args.self.now.shelf.now) (g.V.Shelf.cloud_at c.execute-in-LoseReply.new.shelf) _ _ c.args.request.now c.execute-in-LoseReply.new.reply e.3 r asked),
    )

pub returns-in-Deliver-clause-enters : goal.returns-in-Deliver-clause-enters
returns-in-Deliver-clause-enters g c = λ ne r asked.
    let e = c.execute.ensures in (
      c.execute.new.reply,
      refl,
      enters_here c.args.self.now.servers c.execute.new.self c.args.cloud.0 e.0 e.1 e.2 (ltb-true c.args.cloud.0 c.args.self.now.servers.shape.n c.requires.reached)
          (g.V.Shelf.cloud_at c.args.self.now.shelf.now) (g.V.Shelf.cloud_at c.execute.new.shelf) _ _ c.args.request.now c.execute.new.reply e.3 r asked,
    )

pub returns-in-LoseReply-clause-enters : goal.returns-in-LoseReply-clause-enters
returns-in-LoseReply-clause-enters g c = λ ne r asked.
    let e = c.execute-in-LoseReply.ensures in (
      c.execute-in-LoseReply.new.reply,
      tt,
      enters_counted _ c.lose-in-LoseReply.new.self c.args.cloud.0 (server_at c.args.self.now.servers c.args.cloud.0) r _ c.lose-in-LoseReply.ensures.counted
          (enters_here c.args.self.now.servers c.execute-in-LoseReply.new.self c.args.cloud.0 e.0 e.1 e.2 (ltb-true c.args.cloud.0 c.args.self.now.servers.shape.n c.requires.reached)
          (g.V.Shelf.cloud_at c.args.self.now.shelf.now) (g.V.Shelf.cloud_at c.execute-in-LoseReply.new.shelf) _ _ c.args.request.now c.execute-in-LoseReply.new.reply e.3 r asked),
    )

pub returns-in-Deliver-clause-first : goal.returns-in-Deliver-clause-first
returns-in-Deliver-clause-first g c = λ ne r told asked.
    let e = c.execute.ensures in (
      c.execute.new.reply,
      refl,
      first_here c.args.self.now.servers c.execute.new.self c.args.cloud.0 e.0 e.1 e.2 (ltb-true c.args.cloud.0 c.args.self.now.servers.shape.n c.requires.reached)
          (g.V.Shelf.cloud_at c.args.self.now.shelf.now) (g.V.Shelf.cloud_at c.execute.new.shelf) _ _ c.args.request.now c.execute.new.reply e.3 r told asked,
    )

pub returns-in-LoseReply-clause-first : goal.returns-in-LoseReply-clause-first
returns-in-LoseReply-clause-first g c = λ ne r told asked.
    let e = c.execute-in-LoseReply.ensures in (
      c.execute-in-LoseReply.new.reply,
      tt,
      first_counted g.V.Shelf.cloud_at _ c.lose-in-LoseReply.new.self c.args.cloud.0 (server_at c.args.self.now.servers c.args.cloud.0) (g.V.Shelf.cloud_at c.args.self.now.shelf.now c.args.cloud.0) r _ c.lose-in-LoseReply.ensures.counted
          (first_here c.args.self.now.servers c.execute-in-LoseReply.new.self c.args.cloud.0 e.0 e.1 e.2 (ltb-true c.args.cloud.0 c.args.self.now.servers.shape.n c.requires.reached)
          (g.V.Shelf.cloud_at c.args.self.now.shelf.now) (g.V.Shelf.cloud_at c.execute-in-LoseReply.new.shelf) _ _ c.args.request.now c.execute-in-LoseReply.new.reply e.3 r told asked),
    )
