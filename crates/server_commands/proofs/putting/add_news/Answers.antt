use Rattle.std.proofs.Common.{◌≡◌, ℕ, List, Some, None, Err, length, refl, sym, ap, ◌∙◌, subst, arith}
use Rattle.server_reads.specs.CdEdges.Shelf.{Stays}
use Rattle.server_reads.specs.Messages.request.Request.TheVariants as requests
use Rattle.server_reads.specs.Messages.reply.Reply.TheVariants as replies
use Rattle.server_reads.specs.UserDedup.command.Command.{Command}
use Rattle.server_reads.specs.UserDedup.command.Command.TheVariants as commands
use Rattle.server_reads.specs.UserDedup.Spending.{full_for}
use Rattle.cloud_store.specs.CloudAreas.Standing.{Chain}
use Rattle.server_reads.specs.CdEdges.Disk.{Cloud}
use Rattle.server_reads.specs.CloudMemory.News.{seen}
use Rattle.cloud_store.specs.declared.store.CloudStore.{CloudStore}
use Rattle.cloud_store.specs.declared.store.Unadded.{Unadded}
use Rattle.cloud_store.specs.Store.{Serves}
use Rattle.cloud_store.proofs.Fields.{are_long}
use Rattle.server_reads.specs.CloudMemory.Rooms.{memory_of, full_news}
use Rattle.cloud_store.specs.CommitJournal.journal.Stage.TheVariants.{AtEnd}
use Rattle.cloud_store.specs.Adding.{NotLong, MatchFull, WhenLong, Unmoved, stage_after, unstaged}
use Rattle.server_reads.specs.UserDedup.Dedup.{answer_over}
use Rattle.server_commands.proofs.Calls.{ok_result, failed_result, stays_still}
use Rattle.server_commands.proofs.Commits.{only_journal}
use Rattle.server_commands.proofs.Doing.{adding, adds_does, stays_does, served_added, served_full, full_reply}
use Rattle.server_commands.proofs.Contents.{one_kind}
use Rattle.server_commands.proofs.Grown.{read_added, read_full}
use Rattle.cloud_store.specs.Adding.{put_record}
use Rattle.cloud_store.specs.RecordBody.Spelling.{body_bytes}
use Rattle.server_commands.proofs.Puts.{answers_put, leaves_added, unstaged_meets, unmoved_meets, long_stores}
use Rattle.server_commands.proofs.Storing.{as_many, news_met, stored_is}
use Rattle.server_commands.proofs.putting.add_news.Goals as goal

pub returns-in-Ok-clause-does : goal.returns-in-Ok-clause-does
returns-in-Ok-clause-does g c = λ list chain sent strings put new.
    let old = c.args.store.now in let user = c.args.user in let news = c.args.news.now in
    let before = g.V.Shelf.cloud_at c.args.shelf.now old.header.cloud.0 in let after = g.V.Shelf.cloud_at c.add_put.new.shelf old.header.cloud.0 in
    let many = as_many news strings put.are_of in
    let answer : answer_over old.header.shape old.header.cloud.0 list (requests.Put user sent) ≡ adding (replies.Stored (length news)) (commands.Put user strings) =
    answers_put old.header.shape old.header.cloud.0 list user sent strings new (omega (arith, many, c.requires.some)) ∙ ap (λ (n : ℕ). adding (replies.Stored n) (commands.Put user strings)) (sym many) in
    adds_does old _ before after list (requests.Put user sent) (replies.Stored (length news)) (commands.Put user strings)
    (served_added (full_for old.header.shape old.header.rooms list) _ (replies.Stored (length news)) (commands.Put user strings) answer (c.in-Ok.ensures.full_list list chain strings put))
    c.write_stored.new.out ok_result c.write_stored.ensures.spelled (c.add_put.ensures.any_moment list chain strings put)
    (record { c = _; serves = c.in-Ok.ensures.added list chain strings put })

pub returns-in-Err-Full-clause-does : goal.returns-in-Err-Full-clause-does
returns-in-Err-Full-clause-does g c = λ list chain sent strings put new.
    let old = c.args.store.now in let user = c.args.user in let news = c.args.news.now in
    let before = g.V.Shelf.cloud_at c.args.shelf.now old.header.cloud.0 in let after = g.V.Shelf.cloud_at c.add_put.new.shelf old.header.cloud.0 in
    let many = as_many news strings put.are_of in
    let answer = answers_put old.header.shape old.header.cloud.0 list user sent strings new (omega (arith, many, c.requires.some)) in
    let room = full_for old.header.shape old.header.rooms list (commands.Put user strings) in
    let full : room ≡ Some (seen c.in-Err-Full.full) =
    subst (λ (why : Unadded). MatchFull (Err why) (room ≡ None) (λ f. room ≡ Some (seen f))) c.in-Err-Full.field-0-is (c.in-Err-Full.ensures.full_list list chain strings put) in
    let un = subst (λ (why : Unadded). MatchFull (Err why) (Unit {0}) (λ f. (c.add_put.new.self ≡ unstaged old) × (c.add_put.new.shelf ≡ c.args.shelf.now))) c.in-Err-Full.field-0-is c.in-Err-Full.ensures.unadded in
    let still = subst (λ (why : Unadded). MatchFull (Err why) (Unit {0}) (λ f. (l : List Command) (ch : Chain) (cloud : Cloud) → Serves l ch old cloud → Serves l ch c.add_put.new.self cloud)) c.in-Err-Full.field-0-is c.in-Err-Full.ensures.serves_still in
    stays_does old c.add_put.new.self before after list (requests.Put user sent) c.write_full.new.out (full_reply (seen c.in-Err-Full.full)) ok_result
    (served_full (full_for old.header.shape old.header.rooms list) _ (replies.Stored (length strings)) (commands.Put user strings) (seen c.in-Err-Full.full) answer full)
    c.write_full.ensures.spelled
    (record { c = chain; serves = put.serves })
    (record {
      cloud = subst (λ s. Stays before (g.V.Shelf.cloud_at s old.header.cloud.0)) (sym un.1) (stays_still before);
      memory = ap (λ (s : CloudStore). s.memory) un.0;
    })
    (record { c = chain; serves = subst (λ s. Serves list chain c.add_put.new.self (g.V.Shelf.cloud_at s old.header.cloud.0)) (sym un.1) (still list chain before put.serves) })

pub returns-in-Err-Long-clause-does : goal.returns-in-Err-Long-clause-does
returns-in-Err-Long-clause-does g c = λ list chain sent strings put new.
    absurd (subst (λ (why : Unadded). NotLong (Err why)) c.in-Err-Long.field-0-is (c.in-Err-Long.ensures.never_long (are_long c.args.news.now strings put.are_of)))

pub returns-in-Err-Long-clause-full : goal.returns-in-Err-Long-clause-full
returns-in-Err-Long-clause-full g c = λ room used need limit other is. absurd (other (only_journal c.refuse_long.new.reply _ _ _ room used need limit c.refuse_long.ensures is))

pub returns-in-Err-Failed-clause-does : goal.returns-in-Err-Failed-clause-does
returns-in-Err-Failed-clause-does g c = λ list chain sent strings put new.
    let old = c.args.store.now in let user = c.args.user in let news = c.args.news.now in
    let before = g.V.Shelf.cloud_at c.args.shelf.now old.header.cloud.0 in let after = g.V.Shelf.cloud_at c.add_put.new.shelf old.header.cloud.0 in
    let many = as_many news strings put.are_of in
    let answer = answers_put old.header.shape old.header.cloud.0 list user sent strings new (omega (arith, many, c.requires.some)) in
    let room = full_for old.header.shape old.header.rooms list (commands.Put user strings) in
    let none : room ≡ None = subst (λ (why : Unadded). MatchFull (Err why) (room ≡ None) (λ f. room ≡ Some (seen f))) c.in-Err-Failed.field-0-is (c.in-Err-Failed.ensures.full_list list chain strings put) in
    adds_does old _ before after list (requests.Put user sent) (replies.Stored (length strings)) (commands.Put user strings)
    (served_added (full_for old.header.shape old.header.rooms list) _ (replies.Stored (length strings)) (commands.Put user strings) answer none)
    c.args.reply.now failed_result tt (c.add_put.ensures.any_moment list chain strings put) tt

pub returns-in-Ok-clause-leaves : goal.returns-in-Ok-clause-leaves
returns-in-Ok-clause-leaves g c =
    let old = c.args.store.now in let e = c.add_put.ensures in
    leaves_added old c.add_put.new.self e.settled e.none e.header c.in-Ok.ensures.stage
    (news_met old c.add_put.new.self c.args.user c.args.news.now c.requires.staged c.requires.new c.in-Ok.ensures.ends c.in-Ok.ensures.taken)

pub returns-in-Err-Full-clause-leaves : goal.returns-in-Err-Full-clause-leaves
returns-in-Err-Full-clause-leaves g c =
    let old = c.args.store.now in let e = c.add_put.ensures in let new = c.add_put.new.self in
    let un = subst (λ (why : Unadded). MatchFull (Err why) (Unit {0}) (λ f. (new ≡ unstaged old) × (c.add_put.new.shelf ≡ c.args.shelf.now))) c.in-Err-Full.field-0-is c.in-Err-Full.ensures.unadded in
    let at_end : new.disk.journal.stage ≡ AtEnd = subst (λ (why : Unadded). new.disk.journal.stage ≡ stage_after (Err why)) c.in-Err-Full.field-0-is c.in-Err-Full.ensures.stage in
    leaves_added old new e.settled e.none e.header at_end (unstaged_meets old new c.requires.staged.meet un.0)

pub returns-in-Err-Long-clause-leaves : goal.returns-in-Err-Long-clause-leaves
returns-in-Err-Long-clause-leaves g c =
    let old = c.args.store.now in let e = c.add_put.ensures in let new = c.add_put.new.self in
    let u = subst (λ (why : Unadded). WhenLong (Err why) (Unmoved old new)) c.in-Err-Long.field-0-is c.in-Err-Long.ensures.unmoved in
    let at_end : new.disk.journal.stage ≡ AtEnd = subst (λ (why : Unadded). new.disk.journal.stage ≡ stage_after (Err why)) c.in-Err-Long.field-0-is c.in-Err-Long.ensures.stage in
    leaves_added old new e.settled e.none e.header at_end (unmoved_meets old new c.requires.staged.meet u)

pub returns-in-Ok-clause-stores : goal.returns-in-Ok-clause-stores
returns-in-Ok-clause-stores g c =
    let old = c.args.store.now in let news = c.args.news.now in
    record {
      reply = replies.Stored (length news);
      is = c.write_stored.ensures;
      said = (refl, c.in-Ok.ensures.taken ∙ stored_is (memory_of old.memory) c.args.user news c.requires.some, λ some. c.in-Ok.ensures.full);
    }

pub returns-in-Err-Full-clause-stores : goal.returns-in-Err-Full-clause-stores
returns-in-Err-Full-clause-stores g c =
    let old = c.args.store.now in let news = c.args.news.now in let new = c.add_put.new.self in
    let un = subst (λ (why : Unadded). MatchFull (Err why) (Unit {0}) (λ f. (new ≡ unstaged old) × (c.add_put.new.shelf ≡ c.args.shelf.now))) c.in-Err-Full.field-0-is c.in-Err-Full.ensures.unadded in
    let room = full_news old.header.rooms c.args.user (memory_of old.memory) news in
    let full : room ≡ Some (seen c.in-Err-Full.full) =
    subst (λ (why : Unadded). MatchFull (Err why) (room ≡ None) (λ f. room ≡ Some (seen f))) c.in-Err-Full.field-0-is c.in-Err-Full.ensures.full in
    record {
      reply = full_reply (seen c.in-Err-Full.full);
      is = c.write_full.ensures;
      said = (c.requires.some, ap (λ (s : CloudStore). memory_of s.memory) un.0, λ other. full);
    }

pub returns-in-Err-Long-clause-stores : goal.returns-in-Err-Long-clause-stores
returns-in-Err-Long-clause-stores g c =
    let old = c.args.store.now in let new = c.add_put.new.self in
    let u = subst (λ (why : Unadded). WhenLong (Err why) (Unmoved old new)) c.in-Err-Long.field-0-is c.in-Err-Long.ensures.unmoved in
    long_stores old.header.rooms (memory_of old.memory) (memory_of new.memory) c.args.user c.args.news.now c.refuse_long.new.reply _ _ _ c.requires.some (ap memory_of u.memory) c.refuse_long.ensures

pub returns-in-Ok-clause-goes : goal.returns-in-Ok-clause-goes
returns-in-Ok-clause-goes g c told w ended =
    let old = c.args.store.now in let number = old.header.cloud.0 in
    read_added w old c.add_put.new.self (body_bytes (put_record old c.args.user c.args.news.now)) (g.V.Shelf.cloud_at c.args.shelf.now number) (g.V.Shelf.cloud_at c.add_put.new.shelf number)
    _ (c.in-Ok.ensures.grown told w ended)

pub returns-in-Err-Full-clause-goes : goal.returns-in-Err-Full-clause-goes
returns-in-Err-Full-clause-goes g c told w ended =
    let old = c.args.store.now in let number = old.header.cloud.0 in
    let un = subst (λ (why : Unadded). MatchFull (Err why) (Unit {0}) (λ f. (c.add_put.new.self ≡ unstaged old) × (c.add_put.new.shelf ≡ c.args.shelf.now))) c.in-Err-Full.field-0-is c.in-Err-Full.ensures.unadded in
    read_full w old c.add_put.new.self (body_bytes (put_record old c.args.user c.args.news.now)) (g.V.Shelf.cloud_at c.args.shelf.now number) (g.V.Shelf.cloud_at c.add_put.new.shelf number)
    _ (ap (λ (s : CloudStore). s.disk.journal) un.0) (ap (λ s. g.V.Shelf.cloud_at s number) un.1)
    (λ said. omega (arith, one_kind c.write_full.new.out 140 131 _ _ c.write_full.ensures.spelled said.1.spelled)) ended

pub returns-in-Err-Long-clause-goes : goal.returns-in-Err-Long-clause-goes
returns-in-Err-Long-clause-goes g c told w ended =
    let staged = c.requires.staged in
    absurd (subst (λ (why : Unadded). NotLong (Err why)) c.in-Err-Long.field-0-is (c.in-Err-Long.ensures.never_long (are_long c.args.news.now staged.strings staged.are_of)))
