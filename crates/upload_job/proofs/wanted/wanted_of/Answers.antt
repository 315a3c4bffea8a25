use Rattle.std.proofs.Common.{◌≡◌, ℕ, ◌+◌, ◌<◌, ◌≤◌, [], length, get_or, refl, ap, arith}
use Rattle.std.proofs.lemmas.List.{get_or_default}
use Rattle.user_dedup.specs.CdBase.Lengths.{share_len_of}
use Rattle.user_dedup.specs.Recipe.items.Item.{Item}
use Rattle.upload_job.proofs.Wanting.{next_named, along_more, some_of}
use Rattle.upload_job.proofs.wanted.wanted_of.Goals as goal

pub loop-item-preserved : goal.loop-item-preserved
loop-item-preserved c =
    let none : Item = record { fp = record { 0 = [] }; secret_len = 0 } in
    let item : Item = get_or c.args.items.now c.loop-item.item-index none in
    let lt : c.loop-item.item-index < length c.args.items.now = c.loop-item-test.true in
    let named = next_named c.args.shape.k c.args.items.now c.args.shares.now c.loop-item.item-index c.loop-item.start c.loop-item.seen c.loop-item.wanted.items none c.loop-item.invariant lt in
    let len : c.share_len.result ≡ share_len_of c.args.shape.k item.secret_len = c.share_len.ensures.value in
    let least : c.share_len.result ≤ 8208 = c.share_len.ensures.least 8208 (omega (arith, named.few, c.args.shape.several)) in
    let some : 1 ≤ c.share_len.result = some_of c.args.shape.k c.share_len.result (item.secret_len + 32) (omega arith) c.share_len.ensures.enough in
    along_more c.args.shape.k c.args.items.now c.args.shares.now c.loop-item.item-index c.loop-item.start c.loop-item.seen c.note.new.seen c.loop-item.wanted.items c.note.new.wanted.items
    (record { fp = item.fp; start = c.loop-item.start; end = c.loop-item.start + c.share_len.result })
    c.loop-item.invariant
    (record { item = item; lt = lt; at = get_or_default c.args.items.now c.loop-item.item-index none item lt; fp = refl; begins = refl; ends = ap (λ (n : ℕ). c.loop-item.start + n) len; some = omega (arith, len); short = omega (arith, len) })
    c.in_ok-note.ensures.list c.in_ok-note.ensures.keys
