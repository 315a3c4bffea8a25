use Rattle.std.proofs.Common.{rules, ◌≡◌, ℕ, List, Some, None, Err, refl, sym, ap, subst, arith}
use Rattle.server_reads.specs.CdEdges.Shelf.{Stays}
use Rattle.server_reads.specs.Messages.Requests.{FitsRequest}
use Rattle.server_reads.specs.Messages.request.Request.TheVariants as requests
use Rattle.server_reads.specs.Messages.reply.Reply.TheVariants as replies
use Rattle.server_reads.specs.Recipe.Spelling.{spelling}
use Rattle.server_reads.specs.UserDedup.command.Command.TheVariants as commands
use Rattle.server_reads.specs.UserDedup.Spending.{full_for}
use Rattle.server_reads.specs.CloudMemory.News.{seen}
use Rattle.cloud_store.specs.declared.store.CloudStore.{CloudStore}
use Rattle.cloud_store.specs.declared.store.Unadded.{Unadded}
use Rattle.cloud_store.specs.CloudAreas.Standing.{Chain}
use Rattle.server_reads.specs.CdEdges.Disk.{Cloud}
use Rattle.server_reads.specs.UserDedup.command.Command.{Command}
use Rattle.cloud_store.specs.Store.{Serves}
use Rattle.server_reads.specs.UserDedup.Owning.{fps_in}
use Rattle.server_reads.specs.CloudMemory.Rooms.{memory_of, full_commit}
use Rattle.cloud_store.specs.Adding.{NotLong, MatchFull, WhenLong, Unmoved, unstaged}
use Rattle.server_commands.proofs.Calls.{ok_result, failed_result, stays_still}
use Rattle.server_commands.proofs.Commits.{few_bytes, only_journal}
use Rattle.server_commands.proofs.Doing.{adds_does, stays_does, served_added, served_full, full_reply}
use Rattle.server_commands.proofs.Enterings.{new_commits, full_commits, long_commits}
use Rattle.server_commands.proofs.Contents.{one_kind}
use Rattle.server_commands.proofs.Grown.{read_added, read_full}
use Rattle.server_commands.proofs.Entered.{is_commit, record_as}
use Rattle.server_commands.specs.Growing.{commit_record}
use Rattle.cloud_store.specs.Adding.{IsGrownFrom, KeepsOrGrows}
use Rattle.cloud_store.specs.RecordBody.Spelling.{body_bytes}
use Rattle.server_commands.proofs.committing.add_staged.Goals as goal

pub add_commit-requires-clause-short : goal.add_commit-requires-clause-short
add_commit-requires-clause-short g c =
    let few = few_bytes c.args.store.now.header.shape c.args.recipe.now (spelling c.args.recipe.now) c.requires.recipe refl in
    let len = c.requires.len in
    omega (arith, few, len)

pub returns-in-Ok-clause-does : goal.returns-in-Ok-clause-does
returns-in-Ok-clause-does g c = λ list chain serves answered.
    let old = c.args.store.now in let user = c.args.key.user in let tag = c.args.key.tag in let version = c.args.key.version in let recipe = spelling c.args.recipe.now in
    let before = g.V.Shelf.cloud_at c.args.shelf.now old.header.cloud.0 in let after = g.V.Shelf.cloud_at c.add_commit.new.shelf old.header.cloud.0 in
    let fits : FitsRequest (requests.Commit user tag version recipe) = search rules in
    let is = is_commit old list chain before user tag version c.args.fp c.args.len c.args.recipe.now serves fits answered c.requires.recipe c.requires.fp c.requires.len c.requires.staged in
    adds_does old _ before after list (requests.Commit user tag version recipe) replies.Committed (commands.Commit user tag version recipe)
    (served_added (full_for old.header.shape old.header.rooms list) _ replies.Committed (commands.Commit user tag version recipe) answered.answer (c.in-Ok.ensures.full_list list chain recipe is))
    c.write_committed.new.out ok_result c.write_committed.ensures.spelled (c.add_commit.ensures.any_moment list chain recipe is)
    (record { c = _; serves = c.in-Ok.ensures.added list chain recipe is })

pub returns-in-Err-Full-clause-does : goal.returns-in-Err-Full-clause-does
returns-in-Err-Full-clause-does g c = λ list chain serves answered.
    let old = c.args.store.now in let user = c.args.key.user in let tag = c.args.key.tag in let version = c.args.key.version in let recipe = spelling c.args.recipe.now in
    let before = g.V.Shelf.cloud_at c.args.shelf.now old.header.cloud.0 in let after = g.V.Shelf.cloud_at c.add_commit.new.shelf old.header.cloud.0 in
    let fits : FitsRequest (requests.Commit user tag version recipe) = search rules in
    let is = is_commit old list chain before user tag version c.args.fp c.args.len c.args.recipe.now serves fits answered c.requires.recipe c.requires.fp c.requires.len c.requires.staged in
    let room = full_for old.header.shape old.header.rooms list (commands.Commit user tag version recipe) in
    let full : room ≡ Some (seen c.in-Err-Full.full) =
    subst (λ (why : Unadded). MatchFull (Err why) (room ≡ None) (λ f. room ≡ Some (seen f))) c.in-Err-Full.field-0-is (c.in-Err-Full.ensures.full_list list chain recipe is) in
    let un = subst (λ (why : Unadded). MatchFull (Err why) (Unit {0}) (λ f. (c.add_commit.new.self ≡ unstaged old) × (c.add_commit.new.shelf ≡ c.args.shelf.now))) c.in-Err-Full.field-0-is c.in-Err-Full.ensures.unadded in
    let still = subst (λ (why : Unadded). MatchFull (Err why) (Unit {0}) (λ f. (l : List Command) (ch : Chain) (cloud : Cloud) → Serves l ch old cloud → Serves l ch c.add_commit.new.self cloud)) c.in-Err-Full.field-0-is c.in-Err-Full.ensures.serves_still in
    stays_does old c.add_commit.new.self before after list (requests.Commit user tag version recipe) c.write_full.new.out (full_reply (seen c.in-Err-Full.full)) ok_result
    (served_full (full_for old.header.shape old.header.rooms list) _ replies.Committed (commands.Commit user tag version recipe) (seen c.in-Err-Full.full) answered.answer full)
    c.write_full.ensures.spelled
    (record { c = chain; serves = serves })
    (record {
      cloud = subst (λ s. Stays before (g.V.Shelf.cloud_at s old.header.cloud.0)) (sym un.1) (stays_still before);
      memory = ap (λ (s : CloudStore). s.memory) un.0;
    })
    (record { c = chain; serves = subst (λ s. Serves list chain c.add_commit.new.self (g.V.Shelf.cloud_at s old.header.cloud.0)) (sym un.1) (still list chain before serves) })

pub returns-in-Err-Long-clause-does : goal.returns-in-Err-Long-clause-does
returns-in-Err-Long-clause-does g c = λ list chain serves answered.
    absurd (subst (λ (why : Unadded). NotLong (Err why)) c.in-Err-Long.field-0-is c.in-Err-Long.ensures.never_long)

pub returns-in-Err-Long-clause-full : goal.returns-in-Err-Long-clause-full
returns-in-Err-Long-clause-full g c = λ room used need limit other is. absurd (other (only_journal c.refuse_long.new.reply _ _ _ room used need limit c.refuse_long.ensures is))

pub returns-in-Err-Failed-clause-does : goal.returns-in-Err-Failed-clause-does
returns-in-Err-Failed-clause-does g c = λ list chain serves answered.
    let old = c.args.store.now in let user = c.args.key.user in let tag = c.args.key.tag in let version = c.args.key.version in let recipe = spelling c.args.recipe.now in
    let before = g.V.Shelf.cloud_at c.args.shelf.now old.header.cloud.0 in let after = g.V.Shelf.cloud_at c.add_commit.new.shelf old.header.cloud.0 in
    let fits : FitsRequest (requests.Commit user tag version recipe) = search rules in
    let is = is_commit old list chain before user tag version c.args.fp c.args.len c.args.recipe.now serves fits answered c.requires.recipe c.requires.fp c.requires.len c.requires.staged in
    let room = full_for old.header.shape old.header.rooms list (commands.Commit user tag version recipe) in
    let none : room ≡ None = subst (λ (why : Unadded). MatchFull (Err why) (room ≡ None) (λ f. room ≡ Some (seen f))) c.in-Err-Failed.field-0-is (c.in-Err-Failed.ensures.full_list list chain recipe is) in
    adds_does old _ before after list (requests.Commit user tag version recipe) replies.Committed (commands.Commit user tag version recipe)
    (served_added (full_for old.header.shape old.header.rooms list) _ replies.Committed (commands.Commit user tag version recipe) answered.answer none)
    c.args.reply.now failed_result tt (c.add_commit.ensures.any_moment list chain recipe is) tt

pub returns-in-Ok-clause-commits : goal.returns-in-Ok-clause-commits
returns-in-Ok-clause-commits g c =
    let old = c.args.store.now in
    new_commits old.header.rooms (memory_of old.memory) (memory_of c.add_commit.new.self.memory) c.args.key.user c.args.key.tag c.args.key.version (fps_in c.args.recipe.now.items) (spelling c.args.recipe.now)
    c.args.fp c.args.len c.requires.fp c.requires.len c.requires.new c.requires.owned c.write_committed.new.out c.in-Ok.ensures.taken c.in-Ok.ensures.full c.write_committed.ensures

pub returns-in-Err-Full-clause-commits : goal.returns-in-Err-Full-clause-commits
returns-in-Err-Full-clause-commits g c =
    let old = c.args.store.now in let new = c.add_commit.new.self in
    let un = subst (λ (why : Unadded). MatchFull (Err why) (Unit {0}) (λ f. (new ≡ unstaged old) × (c.add_commit.new.shelf ≡ c.args.shelf.now))) c.in-Err-Full.field-0-is c.in-Err-Full.ensures.unadded in
    let room = full_commit old.header.rooms c.args.key.user (memory_of old.memory) c.args.len in
    let full : room ≡ Some (seen c.in-Err-Full.full) =
    subst (λ (why : Unadded). MatchFull (Err why) (room ≡ None) (λ f. room ≡ Some (seen f))) c.in-Err-Full.field-0-is c.in-Err-Full.ensures.full in
    full_commits old.header.rooms (memory_of old.memory) (memory_of new.memory) c.args.key.user c.args.key.tag c.args.key.version (fps_in c.args.recipe.now.items) (spelling c.args.recipe.now)
    c.args.fp c.args.len c.requires.fp c.requires.len c.requires.new c.requires.owned c.write_full.new.out (seen c.in-Err-Full.full) (ap (λ (s : CloudStore). memory_of s.memory) un.0) full c.write_full.ensures

pub returns-in-Err-Long-clause-commits : goal.returns-in-Err-Long-clause-commits
returns-in-Err-Long-clause-commits g c =
    let old = c.args.store.now in let new = c.add_commit.new.self in
    let u = subst (λ (why : Unadded). WhenLong (Err why) (Unmoved old new)) c.in-Err-Long.field-0-is c.in-Err-Long.ensures.unmoved in
    long_commits old.header.rooms (memory_of old.memory) (memory_of new.memory) c.args.key.user c.args.key.tag c.args.key.version (fps_in c.args.recipe.now.items) (spelling c.args.recipe.now)
    c.args.fp c.args.len c.requires.fp c.requires.len c.requires.new c.requires.owned c.refuse_long.new.reply _ _ _ (ap memory_of u.memory) c.refuse_long.ensures

pub returns-in-Ok-clause-behind : goal.returns-in-Ok-clause-behind
returns-in-Ok-clause-behind g c =
    let old = c.args.store.now in let key = c.args.key in let number = old.header.cloud.0 in
    record_as old key.user key.tag key.version (spelling c.args.recipe.now) c.args.fp c.args.len
    (λ (b : List ℕ). KeepsOrGrows old b (g.V.Shelf.cloud_at c.args.shelf.now number) (g.V.Shelf.cloud_at c.add_commit.new.shelf number)) c.requires.fp c.requires.len c.add_commit.ensures.chain

pub returns-in-Err-Full-clause-behind : goal.returns-in-Err-Full-clause-behind
returns-in-Err-Full-clause-behind g c =
    let old = c.args.store.now in let key = c.args.key in let number = old.header.cloud.0 in
    record_as old key.user key.tag key.version (spelling c.args.recipe.now) c.args.fp c.args.len
    (λ (b : List ℕ). KeepsOrGrows old b (g.V.Shelf.cloud_at c.args.shelf.now number) (g.V.Shelf.cloud_at c.add_commit.new.shelf number)) c.requires.fp c.requires.len c.add_commit.ensures.chain

pub returns-in-Err-Long-clause-behind : goal.returns-in-Err-Long-clause-behind
returns-in-Err-Long-clause-behind g c =
    let old = c.args.store.now in let key = c.args.key in let number = old.header.cloud.0 in
    record_as old key.user key.tag key.version (spelling c.args.recipe.now) c.args.fp c.args.len
    (λ (b : List ℕ). KeepsOrGrows old b (g.V.Shelf.cloud_at c.args.shelf.now number) (g.V.Shelf.cloud_at c.add_commit.new.shelf number)) c.requires.fp c.requires.len c.add_commit.ensures.chain

pub returns-in-Err-Failed-clause-behind : goal.returns-in-Err-Failed-clause-behind
returns-in-Err-Failed-clause-behind g c =
    let old = c.args.store.now in let key = c.args.key in let number = old.header.cloud.0 in
    record_as old key.user key.tag key.version (spelling c.args.recipe.now) c.args.fp c.args.len
    (λ (b : List ℕ). KeepsOrGrows old b (g.V.Shelf.cloud_at c.args.shelf.now number) (g.V.Shelf.cloud_at c.add_commit.new.shelf number)) c.requires.fp c.requires.len c.add_commit.ensures.chain

pub returns-in-Ok-clause-goes : goal.returns-in-Ok-clause-goes
returns-in-Ok-clause-goes g c told w ended =
    let old = c.args.store.now in let key = c.args.key in let number = old.header.cloud.0 in let recipe = spelling c.args.recipe.now in
    let c0 = g.V.Shelf.cloud_at c.args.shelf.now number in let c1 = g.V.Shelf.cloud_at c.add_commit.new.shelf number in
    read_added w old c.add_commit.new.self (body_bytes (commit_record old key.user key.tag key.version recipe)) c0 c1 _
    (record_as old key.user key.tag key.version recipe c.args.fp c.args.len (λ (b : List ℕ). IsGrownFrom w old c.add_commit.new.self b c0 c1) c.requires.fp c.requires.len
    (c.in-Ok.ensures.grown told w ended))

pub returns-in-Err-Full-clause-goes : goal.returns-in-Err-Full-clause-goes
returns-in-Err-Full-clause-goes g c told w ended =
    let old = c.args.store.now in let key = c.args.key in let number = old.header.cloud.0 in
    let un = subst (λ (why : Unadded). MatchFull (Err why) (Unit {0}) (λ f. (c.add_commit.new.self ≡ unstaged old) × (c.add_commit.new.shelf ≡ c.args.shelf.now))) c.in-Err-Full.field-0-is c.in-Err-Full.ensures.unadded in
    read_full w old c.add_commit.new.self (body_bytes (commit_record old key.user key.tag key.version (spelling c.args.recipe.now))) (g.V.Shelf.cloud_at c.args.shelf.now number) (g.V.Shelf.cloud_at c.add_commit.new.shelf number)
    _ (ap (λ (s : CloudStore). s.disk.journal) un.0) (ap (λ s. g.V.Shelf.cloud_at s number) un.1)
    (λ said. omega (arith, one_kind c.write_full.new.out 140 132 _ _ c.write_full.ensures.spelled said.spelled)) ended

pub returns-in-Err-Long-clause-goes : goal.returns-in-Err-Long-clause-goes
returns-in-Err-Long-clause-goes g c told w ended = absurd (subst (λ (why : Unadded). NotLong (Err why)) c.in-Err-Long.field-0-is c.in-Err-Long.ensures.never_long)
