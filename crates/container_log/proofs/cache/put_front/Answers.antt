use Rattle.std.proofs.Common.{◌-◌, ◌∷◌, ℕ, List, take, Option, inr, ap, ◌∙◌}
use Rattle.std.specs.Prelude.{nat_eq}
use Rattle.std.specs.Map.{remove_entry}
use Rattle.std.specs.Option.{option_map_or}
use Rattle.lru.specs.LruCache.{lru_cache}
use Rattle.container_log.specs.Caches.{Kept}
use Rattle.container_log.proofs.Turning.{none_entered}
use Rattle.container_log.proofs.cache.put_front.Goals as goal

pub returns-in-Ok : goal.returns-in-Ok
returns-in-Ok c =
    let es : List Kept = c.args.kept.now.entries in let n : ℕ = c.args.number in let bytes : List ℕ = c.args.container in
    inr (c.in-Ok.ensures.entries
    ∙ ap (λ (o : Option Kept). lru_cache (option_map_or (λ (e : Kept). (e.0, bytes) ∷ remove_entry (nat_eq n) es) o ((n, bytes) ∷ take (c.args.kept.now.cap - 1) es)) c.args.kept.now.cap) (none_entered n es c.requires))
