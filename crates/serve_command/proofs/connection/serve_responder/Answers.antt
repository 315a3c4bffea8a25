use Rattle.serve_command.specs.declared.responder.CloudResponder.{CloudResponder}
use Rattle.serve_command.specs.Serving.{place_of}
use Rattle.serve_command.proofs.Rows.{first_same, second_same, was_called, was_replied, was_served}
use Rattle.serve_command.proofs.connection.serve_responder.Goals as goal

pub returns-clause-server : goal.returns-clause-server
returns-clause-server g c = first_same _ _ _ _ c.serve_frames.ensures.loans

pub returns-clause-shelf : goal.returns-clause-shelf
returns-clause-shelf g c = second_same _ _ _ _ c.serve_frames.ensures.loans

pub returns-clause-served : goal.returns-clause-served
returns-clause-served g c = λ told p serving.
    was_served (λ (r : CloudResponder g.row.V.Denot). place_of r.server.now (g.V.Shelf.cloud_at r.shelf.now) (g.V.Shelf.faults r.shelf.now))
    _ _ c.args.port _ _ _ c.serve_frames.ensures.serves p told serving

pub returns-clause-replied : goal.returns-clause-replied
returns-clause-replied g c =
    was_replied (λ (r : CloudResponder g.row.V.Denot). place_of r.server.now (g.V.Shelf.cloud_at r.shelf.now) (g.V.Shelf.faults r.shelf.now))
    _ _ c.args.port _ _ _ c.serve_frames.ensures.serves

pub returns-clause-same : goal.returns-clause-same
returns-clause-same g c =
    (was_called (λ (r : CloudResponder g.row.V.Denot). place_of r.server.now (g.V.Shelf.cloud_at r.shelf.now) (g.V.Shelf.faults r.shelf.now))
    _ _ c.args.port _ _ _ c.serve_frames.ensures.serves).same

pub returns-clause-call : goal.returns-clause-call
returns-clause-call g c =
    (was_called (λ (r : CloudResponder g.row.V.Denot). place_of r.server.now (g.V.Shelf.cloud_at r.shelf.now) (g.V.Shelf.faults r.shelf.now))
    _ _ c.args.port _ _ _ c.serve_frames.ensures.serves).call
