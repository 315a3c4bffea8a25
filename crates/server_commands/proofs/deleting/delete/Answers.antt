use Rattle.std.proofs.Common.{◌≡◌, refl, sym, ◌∙◌}
use Rattle.server_reads.specs.Messages.reply.Reply.TheVariants as replies
use Rattle.server_commands.proofs.Deleted.{missing}
use Rattle.server_commands.proofs.deleting.delete.Goals as goal

pub returns-in-None-clause-does : goal.returns-in-None-clause-does
returns-in-None-clause-does g c =
    missing c.args.user c.args.tag.now c.args.version (c.args.shelf.now ≡ c.args.shelf.now) c.args.store.now (g.V.Shelf.cloud_at c.args.shelf.now) (g.V.Shelf.faults c.args.shelf.now) c.write_missing.new.out refl
    c.requires.ready (sym c.entry.ensures.kept ∙ c.in-None.is) c.write_missing.ensures

pub returns-in-None-clause-enters : goal.returns-in-None-clause-enters
returns-in-None-clause-enters g c = record { reply = replies.Missing; is = c.write_missing.ensures; said = (sym c.entry.ensures.kept ∙ c.in-None.is, refl) }
