use Rattle.std.proofs.Common.{◌≡◌, ℕ, List, ◌≤◌, length, take, refl, sym, ap, ◌∙◌, subst, arith, length-take}
use Rattle.std.specs.Prelude.{All}
use Rattle.server_reads.specs.CloudMemory.rooms.New.{New}
use Rattle.server_reads.specs.CloudMemory.Memory.{Memory}
use Rattle.server_reads.specs.CloudMemory.News.{AreNewTo}
use Rattle.server_reads.specs.CloudMemory.Rooms.{memory_of}
use Rattle.cloud_store.specs.declared.store.CloudStore.{CloudStore}
use Rattle.cloud_store.specs.Adding.{IsShareNew}
use Rattle.server_commands.specs.Picked.{Picked}
use Rattle.server_commands.specs.Steps.{HasNewsStaged}
use Rattle.server_commands.proofs.Puts.{none_new, none_stores, news_staged, added, some_store}
use Rattle.server_commands.proofs.Storing.{share_lens}
use Rattle.server_commands.proofs.putting.put.Goals as goal

pub returns-then-count-eq0-clause-does : goal.returns-then-count-eq0-clause-does
returns-then-count-eq0-clause-does g c =
    let few : length (take c.collect-count.result c.collect-count.new.news) ≡ 0 = ap (λ (n : ℕ). length (take n c.collect-count.new.news)) c.if-count-eq0.true in
    none_new (c.args.shelf.now ≡ c.args.shelf.now) c.args.store.now c.collect-count.new.store (g.V.Shelf.cloud_at c.args.shelf.now) (g.V.Shelf.faults c.args.shelf.now) c.args.user c.args.shares.now _ c.write_stored.new.out
    refl c.requires.ready c.collect-count.ensures.picked few c.write_stored.ensures

pub add_news-requires-clause-staged : goal.add_news-requires-clause-staged
add_news-requires-clause-staged g c =
    let e = c.collect-count.ensures in
    subst (HasNewsStaged c.collect-count.new.store) (sym c.split_at.ensures.front)
    (news_staged c.args.store.now c.collect-count.new.store c.args.user c.args.shares.now _ c.requires.ready e.picked e.settled e.meet)

pub add_news-requires-clause-some : goal.add_news-requires-clause-some
add_news-requires-clause-some g c = let e = ap length c.split_at.ensures.front in omega (arith, e, length-take c.collect-count.result c.collect-count.new.news)

pub add_news-requires-clause-few : goal.add_news-requires-clause-few
add_news-requires-clause-few g c = let e = ap length c.split_at.ensures.front in omega (arith, e, length-take c.collect-count.result c.collect-count.new.news)

pub add_news-requires-clause-lens : goal.add_news-requires-clause-lens
add_news-requires-clause-lens g c =
    let p = c.collect-count.ensures.picked in
    subst (All IsShareNew) (sym (c.split_at.ensures.front ∙ p.lens)) (share_lens p.strings p.range)

pub add_news-requires-clause-new : goal.add_news-requires-clause-new
add_news-requires-clause-new g c =
    let p = c.collect-count.ensures.picked in
    subst (AreNewTo (memory_of c.collect-count.new.store.memory) c.args.user) (sym c.split_at.ensures.front)
    (subst (λ (m : Memory). AreNewTo m c.args.user (take c.collect-count.result c.collect-count.new.news)) (sym (ap (λ (s : CloudStore). memory_of s.memory) p.same)) p.fresh)

pub returns-clause-does : goal.returns-clause-does
returns-clause-does g c =
    let old = c.args.store.now in let mid = c.collect-count.new.store in let at = g.V.Shelf.cloud_at in let faults = g.V.Shelf.faults in let e = c.add_news.ensures in
    let front = c.split_at.result.0.now in
    let long = ap length c.split_at.ensures.front in
    let some : 1 ≤ length front = omega (arith, long, length-take c.collect-count.result c.collect-count.new.news) in
    added c.args.user c.args.shares.now front c.add_news.result (c.add_news.new.shelf ≡ c.args.shelf.now) old mid c.add_news.new.store (at c.args.shelf.now) (at c.add_news.new.shelf)
    (faults c.args.shelf.now) (faults c.add_news.new.shelf) c.add_news.new.reply c.requires.ready c.requires.batch (omega arith)
    (subst (λ (l : List New). Picked old mid c.args.user c.args.shares.now l) (sym c.split_at.ensures.front) c.collect-count.ensures.picked) some
    (record { leaves = e.leaves; does = λ list chain strings put new. e.does list chain c.args.shares.now strings put new; behind = e.behind; goes = e.goes; stores = e.stores; full = e.full; calls = e.calls })

pub returns-then-count-eq0-clause-enters : goal.returns-then-count-eq0-clause-enters
returns-then-count-eq0-clause-enters g c =
    let few : length (take c.collect-count.result c.collect-count.new.news) ≡ 0 = ap (λ (n : ℕ). length (take n c.collect-count.new.news)) c.if-count-eq0.true in
    none_stores c.args.store.now.header.rooms c.args.store.now c.collect-count.new.store c.args.user c.args.shares.now _ c.write_stored.new.out c.requires.ready.none c.collect-count.ensures.picked few c.write_stored.ensures

pub returns-clause-enters : goal.returns-clause-enters
returns-clause-enters g c =
    let old = c.args.store.now in let mid = c.collect-count.new.store in
    some_store c.add_news.result old mid (memory_of c.add_news.new.store.memory) c.args.user c.args.shares.now c.split_at.result.0.now c.add_news.new.reply
    (subst (λ (l : List New). Picked old mid c.args.user c.args.shares.now l) (sym c.split_at.ensures.front) c.collect-count.ensures.picked) c.add_news.ensures.stores
