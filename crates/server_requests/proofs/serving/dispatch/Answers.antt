use Rattle.std.proofs.Common.{◌≡◌, [], refl, sym, ap, subst}
use Rattle.std.specs.Prelude.{OnOk}
use Rattle.server_commands.specs.Messages.request.Request.{Request}
use Rattle.server_commands.specs.Messages.request.Request.TheVariants as requests
use Rattle.server_commands.specs.ServerReads.CloudMemory.Rooms.{memory_of}
use Rattle.server_commands.specs.ServerReads.Allowed.{Replies}
use Rattle.server_commands.proofs.ServerReads.Plain.{known_plain, entries_plain}
use Rattle.server_commands.specs.FileIndex.Files.{key_of}
use Rattle.server_commands.specs.Entering.{Enters, KnownBy, RecipeBy, SharesBy}
use Rattle.server_commands.specs.Executing.{Executes}
use Rattle.server_commands.proofs.Calls.{ok_result}
use Rattle.server_requests.specs.Asking.{request_of}
use Rattle.server_requests.proofs.Alone.{was_told}
use Rattle.server_requests.proofs.Contents.{enters_by, enters_by_on, gives_plain, greets, known_by, says}
use Rattle.server_requests.proofs.serving.dispatch.Goals as goal

-- ---- by the memory alone

pub returns-in-Hello-clause-does : goal.returns-in-Hello-clause-does
returns-in-Hello-clause-does g c =
    let s = c.args.store.now in let at = g.V.Shelf.cloud_at c.args.shelf.now in let faults = g.V.Shelf.faults c.args.shelf.now in
    let same = c.args.shelf.now ≡ c.args.shelf.now in
    subst (λ (r : Request). Executes same s s at at faults faults r c.hello.new.reply ok_result) (ap request_of (sym c.in-Hello.is))
    (was_told same s at faults requests.Hello c.hello.new.reply refl c.requires.ready (λ list. refl) (λ list remembers. c.hello.ensures list) (λ named found. tt)
    (greets s.header c.hello.new.reply c.requires.ready.settled.header (c.hello.ensures []))
    (λ answer adds. adds))

pub returns-in-Query-clause-does : goal.returns-in-Query-clause-does
returns-in-Query-clause-does g c =
    let s = c.args.store.now in let at = g.V.Shelf.cloud_at c.args.shelf.now in let faults = g.V.Shelf.faults c.args.shelf.now in
    let same = c.args.shelf.now ≡ c.args.shelf.now in let user = c.in-Query.user in let fps = c.in-Query.fps in
    subst (λ (r : Request). Executes same s s at at faults faults r c.known.new.reply ok_result) (ap request_of (sym c.in-Query.is))
    (was_told same s at faults (requests.Query user fps) c.known.new.reply refl c.requires.ready (λ list. refl)
    (λ list remembers. c.known.ensures.value s.header.shape s.header.cloud.0 list remembers) (λ named found. tt)
    (gives_plain s.header.shape (requests.Query user fps) c.known.new.reply _ c.known.ensures.kind (known_plain user fps))
    (λ answer adds. adds))

pub returns-in-List-clause-does : goal.returns-in-List-clause-does
returns-in-List-clause-does g c =
    let s = c.args.store.now in let at = g.V.Shelf.cloud_at c.args.shelf.now in let faults = g.V.Shelf.faults c.args.shelf.now in
    let same = c.args.shelf.now ≡ c.args.shelf.now in let user = c.in-List.user in let after = c.in-List.after in
    subst (λ (r : Request). Executes same s s at at faults faults r c.entries.new.reply ok_result) (ap request_of (sym c.in-List.is))
    (was_told same s at faults (requests.List user after) c.entries.new.reply refl c.requires.ready (λ list. refl)
    (λ list remembers. c.entries.ensures.value s.header.shape s.header.cloud.0 list remembers) (λ named found. tt)
    (gives_plain s.header.shape (requests.List user after) c.entries.new.reply _ c.entries.ensures.kind (entries_plain user after))
    (λ answer adds. adds))

-- ---- a recipe in its spelling

pub returns-in-Commit-clause-does : goal.returns-in-Commit-clause-does
returns-in-Commit-clause-does g c =
    let s = c.args.store.now in let at = g.V.Shelf.cloud_at in let faults = g.V.Shelf.faults in let new = c.commit.new in
    subst (λ (r : Request). Executes (new.shelf ≡ c.args.shelf.now) s new.store (at c.args.shelf.now) (at new.shelf) (faults c.args.shelf.now) (faults new.shelf) r new.reply c.commit.result)
    (ap request_of (sym c.in-Commit.is)) c.commit.ensures.does

-- ---- what the replies say of the memory

pub returns-in-Hello-clause-enters : goal.returns-in-Hello-clause-enters
returns-in-Hello-clause-enters g c =
    let s = c.args.store.now in let m = memory_of s.memory in let content = c.hello.new.reply in
    subst (λ (r : Request). Replies content (Enters s.header m m r)) (ap request_of (sym c.in-Hello.is))
    (says s.header.shape requests.Hello content (Enters s.header m m requests.Hello) (greets s.header content c.requires.ready.settled.header (c.hello.ensures [])) (λ reply. refl))

pub returns-in-Query-clause-enters : goal.returns-in-Query-clause-enters
returns-in-Query-clause-enters g c =
    let s = c.args.store.now in let m = memory_of s.memory in let content = c.known.new.reply in
    let user = c.in-Query.user in let fps = c.in-Query.fps in
    subst (λ (r : Request). Replies content (Enters s.header m m r)) (ap request_of (sym c.in-Query.is))
    (enters_by (KnownBy m user fps) content m m refl (known_by m user fps content c.known.ensures.kept c.known.ensures.kind))

pub returns-in-List-clause-enters : goal.returns-in-List-clause-enters
returns-in-List-clause-enters g c =
    let s = c.args.store.now in let m = memory_of s.memory in let content = c.entries.new.reply in
    let user = c.in-List.user in let after = c.in-List.after in let request = requests.List user after in
    subst (λ (r : Request). Replies content (Enters s.header m m r)) (ap request_of (sym c.in-List.is))
    (says s.header.shape request content (Enters s.header m m request) (gives_plain s.header.shape request content _ c.entries.ensures.kind (entries_plain user after)) (λ reply. refl))

pub returns-in-GetRecipe-clause-enters : goal.returns-in-GetRecipe-clause-enters
returns-in-GetRecipe-clause-enters g c =
    let s = c.args.store.now in let new = c.send_recipe.new in let d = c.send_recipe.ensures.does in let m = memory_of s.memory in
    let user = c.in-GetRecipe.user in let tag = c.in-GetRecipe.tag in let version = c.in-GetRecipe.version in
    let E : Request → Type 0 = λ r. OnOk c.send_recipe.result (Replies new.reply (Enters s.header m (memory_of new.store.memory) r)) in
    subst E (ap request_of (sym c.in-GetRecipe.is))
    (enters_by_on c.send_recipe.result (RecipeBy m (key_of user.0 tag.0 version.0)) new.reply m (memory_of new.store.memory) (ap memory_of (d.steady tt).memory) c.send_recipe.ensures.says)

pub returns-in-GetShares-clause-enters : goal.returns-in-GetShares-clause-enters
returns-in-GetShares-clause-enters g c =
    let s = c.args.store.now in let new = c.send_shares.new in let d = c.send_shares.ensures.does in let m = memory_of s.memory in
    let user = c.in-GetShares.user in let fps = c.in-GetShares.fps in
    let E : Request → Type 0 = λ r. OnOk c.send_shares.result (Replies new.reply (Enters s.header m (memory_of new.store.memory) r)) in
    subst E (ap request_of (sym c.in-GetShares.is))
    (enters_by_on c.send_shares.result (SharesBy m user fps) new.reply m (memory_of new.store.memory) (ap memory_of (d.steady tt).memory) c.send_shares.ensures.says)

pub returns-in-Commit-clause-enters : goal.returns-in-Commit-clause-enters
returns-in-Commit-clause-enters g c =
    let s = c.args.store.now in let new = c.commit.new in
    let E : Request → Type 0 = λ r. OnOk c.commit.result (Replies new.reply (Enters s.header (memory_of s.memory) (memory_of new.store.memory) r)) in
    subst E (ap request_of (sym c.in-Commit.is)) c.commit.ensures.enters

pub returns-in-Put-clause-enters : goal.returns-in-Put-clause-enters
returns-in-Put-clause-enters g c =
    let s = c.args.store.now in let new = c.put.new in
    let E : Request → Type 0 = λ r. OnOk c.put.result (Replies new.reply (Enters s.header (memory_of s.memory) (memory_of new.store.memory) r)) in
    subst E (ap request_of (sym c.in-Put.is)) c.put.ensures.enters
