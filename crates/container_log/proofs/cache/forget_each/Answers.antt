use Rattle.std.proofs.Common.{ℕ, List, ap, ◌∙◌, arith, refl}
use Rattle.std.specs.List.{filter}
use Rattle.lru.specs.LruCache.{lru_cache}
use Rattle.container_log.specs.Caches.{Kept, is_left}
use Rattle.container_log.proofs.Turning.{turns_none, turns_more, turns_all}
use Rattle.container_log.proofs.cache.forget_each.Goals as goal

pub loop-init : goal.loop-init
loop-init c = (turns_none (is_left c.args.first c.args.last) c.args.kept.now.entries, refl, c.len-end.ensures.len)

pub loop-preserved : goal.loop-preserved
loop-preserved c = (
  turns_more (is_left c.args.first c.args.last) c.args.kept.now.entries c.loop.kept.entries c.turn.new.kept.entries c.loop.counter (omega (arith, c.loop.invariant.2)) c.loop.invariant.0 c.turn.ensures.entries,
  c.turn.ensures.cap ∙ c.loop.invariant.1,
  c.loop.invariant.2,
)

pub returns : goal.returns
returns c =
    let all = turns_all (is_left c.args.first c.args.last) c.args.kept.now.entries c.loop.kept.entries c.loop.counter (omega (arith, c.loop.invariant.2)) c.loop.invariant.0 in
    ap (λ (es : List Kept). lru_cache es c.loop.kept.cap) all ∙ ap (λ (n : ℕ). lru_cache (filter (is_left c.args.first c.args.last) c.args.kept.now.entries) n) c.loop.invariant.1
