-- What was said with one cloud, of what was said with all.
use Rattle.std.specs.Prelude.{◌≡◌, ℕ, zero, suc, ◌==◌, length, List, [], ◌∷◌, ◌++◌, map, drop}
use Rattle.std.specs.List.{filter}
use Rattle.ports_link.specs.UserDedup.Link.{Talk, first_reply, later_replies}
use Rattle.subset_restore.specs.RestoreJob.Exchanges.{CloudExchange}

-- the exchanges with this cloud, in order
abbrev pub with_cloud : List CloudExchange → ℕ → List CloudExchange
with_cloud log cloud = filter (λ (x : CloudExchange). x.cloud == cloud) log

-- the requests that were sent to this cloud, in order
abbrev pub sent_in : List CloudExchange → ℕ → List (List ℕ)
sent_in log cloud = map (λ (x : CloudExchange). x.request) (with_cloud log cloud)

-- the replies that were received from this cloud, in order
abbrev pub received_in : List CloudExchange → ℕ → List (List ℕ)
received_in log cloud = map (λ (x : CloudExchange). x.reply) (with_cloud log cloud)

-- the first so many replies that are to come, empty ones where none is
abbrev pub first_replies : ℕ → List (List ℕ) → List (List ℕ)
first_replies zero coming = []
first_replies (suc n) coming = first_reply coming ∷ first_replies n (later_replies coming)

-- These requests were sent to a cloud, and these replies taken, which were the next to come: an empty one for each that
-- was not to come.
pub record HasHeard (before after : Talk) (sent received : List (List ℕ)) : Type 0 where
  pub asked : after.asked ≡ before.asked ++ sent
  pub heard : received ≡ first_replies (length sent) before.coming
  pub left : after.coming ≡ drop (length sent) before.coming
