use Rattle.std.proofs.Common.{◌≡◌, ℕ, List, refl, sym, ap, ◌∙◌, subst}
use Rattle.server_reads.specs.Messages.request.Request.TheVariants as requests
use Rattle.server_reads.specs.UserDedup.Cloud.{user_view}
use Rattle.server_reads.specs.UserDedup.Owning.{first_lacking}
use Rattle.server_reads.specs.UserDedup.Requests.{fps_of}
use Rattle.std.specs.Prelude.{OnOk}
use Rattle.server_reads.specs.CloudMemory.Rooms.{memory_of}
use Rattle.server_reads.specs.Allowed.{Replies}
use Rattle.server_commands.specs.Entering.{Enters}
use Rattle.server_commands.specs.Executing.{Executes}
use Rattle.server_commands.proofs.Commits.{fps_spelled}
use Rattle.server_commands.proofs.Enterings.{owned_spelled, lacking_commits}
use Rattle.server_commands.proofs.Repeats.{lacking}
use Rattle.server_commands.proofs.committing.commit.Goals as goal

pub returns-in-Some-clause-does : goal.returns-in-Some-clause-does
returns-in-Some-clause-does g c =
    lacking c.args.user c.args.tag.now c.args.version (c.args.shelf.now ≡ c.args.shelf.now) c.args.store.now (g.V.Shelf.cloud_at c.args.shelf.now) (g.V.Shelf.faults c.args.shelf.now) c.args.recipe.now
    c.write_lacking.new.out c.in-Some.place refl c.requires.ready c.requires.recipe c.in-Some.ensures.within
    (λ list remembers. sym (c.first_unowned.ensures.value c.args.store.now.header.shape list remembers) ∙ c.in-Some.is) c.write_lacking.ensures

pub repeat-requires-clause-owned : goal.repeat-requires-clause-owned
repeat-requires-clause-owned g c = λ list remembers.
    let shape = c.args.store.now.header.shape in
    ap (λ (bytes : List ℕ). first_lacking (user_view shape list c.args.user).own (fps_of shape bytes)) c.bytes.ensures
    ∙ ap (first_lacking (user_view shape list c.args.user).own) (fps_spelled shape c.args.recipe.now c.requires.recipe)
    ∙ sym (c.first_unowned.ensures.value shape list remembers) ∙ c.in-None.is

pub returns-in-Some-entry-clause-does : goal.returns-in-Some-entry-clause-does
returns-in-Some-entry-clause-does g c =
    subst (λ (bytes : List ℕ). Executes (c.repeat.new.shelf ≡ c.args.shelf.now) c.args.store.now c.repeat.new.store (g.V.Shelf.cloud_at c.args.shelf.now) (g.V.Shelf.cloud_at c.repeat.new.shelf)
    (g.V.Shelf.faults c.args.shelf.now) (g.V.Shelf.faults c.repeat.new.shelf) (requests.Commit c.args.user c.args.tag.now c.args.version bytes) c.repeat.new.reply c.repeat.result)
    c.bytes.ensures c.repeat.ensures.does

pub returns-in-Some-clause-enters : goal.returns-in-Some-clause-enters
returns-in-Some-clause-enters g c =
    let old = c.args.store.now in
    lacking_commits old.header.rooms old.header.shape (memory_of old.memory) c.args.user c.args.tag.now c.args.version c.args.recipe.now c.write_lacking.new.out c.in-Some.place c.requires.recipe
    c.in-Some.ensures.kept c.write_lacking.ensures

pub repeat-requires-clause-owns : goal.repeat-requires-clause-owns
repeat-requires-clause-owns g c =
    let old = c.args.store.now in
    owned_spelled old.header.shape (memory_of old.memory) c.args.user c.args.recipe.now c.bytes.result.now c.requires.recipe c.bytes.ensures c.in-None.ensures.kept

pub returns-in-Some-entry-clause-enters : goal.returns-in-Some-entry-clause-enters
returns-in-Some-entry-clause-enters g c =
    let old = c.args.store.now in
    subst (λ (bytes : List ℕ). OnOk c.repeat.result (Replies c.repeat.new.reply (Enters old.header (memory_of old.memory) (memory_of c.repeat.new.store.memory) (requests.Commit c.args.user c.args.tag.now c.args.version bytes))))
    c.bytes.ensures c.repeat.ensures.enters
