use Rattle.std.proofs.Common.{refl}
use Rattle.cloud_disk.specs.CdEdges.area.Area.TheVariants.{Recipes}
use Rattle.cloud_opening.specs.declared.window.Window.{Window}
use Rattle.cloud_opening.proofs.Looking.{found, read_there, shows_read, shows_none, shows_taken}
use Rattle.cloud_opening.proofs.window.Window.look.Goals as goal

pub returns-in-Some-clause-bytes : goal.returns-in-Some-clause-bytes
returns-in-Some-clause-bytes g c told =
    let held = ((g.V.Shelf.cloud_at c.args.shelf.now c.args.cloud.0).now Recipes).read in
    let window = c.args.self.now in let place = c.args.place.now in
    found c.args.buffer.now held window.at window.len c.in-Some.from place.len place.at (c.requires.shows.bytes told) c.in-Some.ensures.0 c.in-Some.ensures.1

pub returns-in-Some-clause-shows : goal.returns-in-Some-clause-shows
returns-in-Some-clause-shows g c =
    shows_taken (g.V.Shelf.cloud_at c.args.shelf.now c.args.cloud.0) c.args.self.now c.args.buffer.now c.saturating_add-self.result c.requires.shows

pub returns-in-Ok-clause-bytes : goal.returns-in-Ok-clause-bytes
returns-in-Ok-clause-bytes g c told =
    let held = ((g.V.Shelf.cloud_at c.args.shelf.now c.args.cloud.0).now Recipes).read in
    let place = c.args.place.now in
    read_there held c.fetch.new.buffer place.at c.ahead-len.result c.in-Ok.count place.len c.min.result (c.in-Ok.ensures.bytes told) c.ahead-len.ensures.0 c.min.ensures

pub returns-in-Ok-clause-shows : goal.returns-in-Ok-clause-shows
returns-in-Ok-clause-shows g c =
    let number = c.args.cloud.0 in
    let window : Window = record { at = c.args.place.now.at; len = c.in-Ok.count; taken = c.args.place.now.len } in
    shows_read (g.V.Shelf.cloud_at c.args.shelf.now number) (g.V.Shelf.cloud_at c.fetch.new.shelf number) window c.fetch.new.buffer c.ahead-len.result
    c.in-Ok.ensures.stays c.in-Ok.ensures.call.told c.in-Ok.ensures.bound c.in-Ok.ensures.bytes

pub returns-in-Err-clause-shows : goal.returns-in-Err-clause-shows
returns-in-Err-clause-shows g c =
    let window : Window = record { at = c.args.self.now.at; len = 0; taken = c.args.self.now.taken } in
    shows_none (g.V.Shelf.cloud_at c.fetch.new.shelf c.args.cloud.0) window c.fetch.new.buffer refl
