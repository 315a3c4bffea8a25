use Rattle.std.proofs.Common.{[]}
use Rattle.share_server.specs.CdEdges.Disk.{reads}
use Rattle.script_lines.specs.LocalLink.Tells.{rooms_at, header_at}
use Rattle.replay_core.proofs.Clouds.{empty_stands, ends_opening, failed_by}
use Rattle.replay_core.proofs.Links.{prepares_opened, opened_peer, may_fail_only}
use Rattle.replay_core.proofs.opening.open_cloud.Goals as goal

pub returns-in-Ok-clause-opens : goal.returns-in-Ok-clause-opens
returns-in-Ok-clause-opens g c =
    let law = empty_stands c.law_of_no_commands.ensures.unbegun c.law_of_no_commands.ensures.stands in
    opened_peer c.reopen.new.self.servers.shape c.args.cloud.0 (g.V.Shelf.cloud_at c.args.link.now.shelf.now c.args.cloud.0) (g.V.Shelf.cloud_at c.reopen.new.self.shelf.now c.args.cloud.0) _
    c.reopen.ensures.call.told c.in-Ok.ensures.counts.cloud c.reopen.ensures.call.armings
    (λ told. (c.in-Ok.ensures.loaded told [] (law (reads (g.V.Shelf.cloud_at c.args.link.now.shelf.now c.args.cloud.0).now) (header_at c.args.link.now.servers c.args.cloud.0) (c.requires.empty told))
    (c.law_of_no_commands.ensures.within c.args.link.now.servers.shape (rooms_at c.args.link.now.servers c.args.cloud.0))).1)

pub returns-in-Ok-clause-prepares : goal.returns-in-Ok-clause-prepares
returns-in-Ok-clause-prepares g c =
    prepares_opened (empty_stands c.law_of_no_commands.ensures.unbegun c.law_of_no_commands.ensures.stands) (header_at c.args.link.now.servers c.args.cloud.0)
    (g.V.Shelf.cloud_at c.args.link.now.shelf.now) (g.V.Shelf.cloud_at c.reopen.new.self.shelf.now) c.args.cloud.0 _ _ c.reopen.ensures.call c.reopen.ensures.images

pub returns-in-Err-clause-prepares : goal.returns-in-Err-clause-prepares
returns-in-Err-clause-prepares g c =
    prepares_opened (empty_stands c.law_of_no_commands.ensures.unbegun c.law_of_no_commands.ensures.stands) (header_at c.args.link.now.servers c.args.cloud.0)
    (g.V.Shelf.cloud_at c.args.link.now.shelf.now) (g.V.Shelf.cloud_at c.reopen.new.self.shelf.now) c.args.cloud.0 _ _ c.reopen.ensures.call c.reopen.ensures.images

pub returns-in-Err-clause-end : goal.returns-in-Err-clause-end
returns-in-Err-clause-end g c =
    ends_opening c.args.cloud (g.V.Shelf.cloud_at c.args.link.now.shelf.now c.args.cloud.0) (g.V.Shelf.cloud_at c.reopen.new.self.shelf.now c.args.cloud.0) _ _
    c.in-Err.error c.end_of.result c.end_of.ensures c.in-Err.ensures.counts
    (may_fail_only (empty_stands c.law_of_no_commands.ensures.unbegun c.law_of_no_commands.ensures.stands) c.law_of_no_commands.ensures.within
    (header_at c.args.link.now.servers c.args.cloud.0) c.args.link.now.servers.shape (rooms_at c.args.link.now.servers c.args.cloud.0)
    (g.V.Shelf.cloud_at c.args.link.now.shelf.now c.args.cloud.0) (failed_by c.in-Err.error) c.requires.empty c.in-Err.ensures.whole)
