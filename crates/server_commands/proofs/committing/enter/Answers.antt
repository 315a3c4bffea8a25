use Rattle.std.proofs.Common.{◌≡◌, ap, ◌∙◌, arith}
use Rattle.server_reads.specs.CloudMemory.Rooms.{memory_of}
use Rattle.cloud_store.specs.declared.store.CloudStore.{CloudStore}
use Rattle.server_commands.specs.Steps.{staging}
use Rattle.server_commands.proofs.Commits.{few_bytes}
use Rattle.server_commands.proofs.Enterings.{staged_commits}
use Rattle.server_commands.proofs.Entered.{entered}
use Rattle.server_commands.proofs.committing.enter.Goals as goal

pub overflow_cast-len : goal.overflow_cast-len
overflow_cast-len g c = omega (arith, few_bytes c.args.store.now.header.shape c.args.recipe.now c.bytes-bytes.result.now c.requires.recipe c.bytes-bytes.ensures)

pub stage-requires-clause-few : goal.stage-requires-clause-few
stage-requires-clause-few g c = few_bytes c.args.store.now.header.shape c.args.recipe.now c.bytes-bytes.result.now c.requires.recipe c.bytes-bytes.ensures

pub returns-clause-does : goal.returns-clause-does
returns-clause-does g c =
    let old = c.args.store.now in let at = g.V.Shelf.cloud_at in let faults = g.V.Shelf.faults in let e = c.add_staged.ensures in
    entered c.args.key.user c.args.key.tag c.args.key.version c.add_staged.result (c.add_staged.new.shelf ≡ c.args.shelf.now) old c.stage.new.store c.add_staged.new.store
    (at c.args.shelf.now) (at c.add_staged.new.shelf) (faults c.args.shelf.now) (faults c.add_staged.new.shelf) c.args.recipe.now c.add_staged.new.reply
    (c.stage.ensures.staged ∙ ap (staging old) c.bytes-bytes.ensures)
    c.requires.ready c.requires.recipe c.requires.new c.requires.lacks c.stage.ensures.serves
    (record { leaves = e.leaves; does = e.does; behind = e.behind; goes = e.goes; some = e.some; full = e.full; calls = e.calls })

pub returns-clause-enters : goal.returns-clause-enters
returns-clause-enters g c =
    let old = c.args.store.now in
    let same = c.stage.ensures.staged in
    staged_commits c.add_staged.result old c.stage.new.store (memory_of c.add_staged.new.store.memory) c.args.key.user c.args.key.tag c.args.key.version c.args.recipe.now c.add_staged.new.reply c.requires.recipe
    (ap (λ (s : CloudStore). s.header) same) (ap (λ (s : CloudStore). memory_of s.memory) same) c.add_staged.ensures.commits
