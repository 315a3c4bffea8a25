use Rattle.std.proofs.Common.{◌≡◌, ℕ, ◌-◌, ◌^◌}
use Rattle.session_model.specs.UserDedup.Exec.{Peer}
use Rattle.session_model.specs.Vault.{Setting}
use Rattle.script_lines.specs.At.{LinkAt, KeepsOtherClouds}
use Rattle.script_lines.proofs.Paged.{HasListed}
use Rattle.script_lines.proofs.listing.list_pages.Given as goal

abbrev pub invariant-pages : goal.invariant-pages
invariant-pages g l = record {
  listed : (s : Setting) (peers : ℕ → Peer) → LinkAt g.V.Shelf.cloud_at s l.fn.link peers
      → HasListed g.V.Shelf.cloud_at s l.user l.cloud.0 l.fn.link l.link peers l.listing;
  leaves : KeepsOtherClouds g.V.Shelf.cloud_at l.fn.link l.link;
  same_reference : l.link.shelf.ghost_name ≡ l.fn.link.shelf.ghost_name;
}

abbrev pub decreases-pages : goal.decreases-pages
decreases-pages g l = 2 ^ 32 - l.listing.count
