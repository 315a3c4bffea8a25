use Rattle.std.proofs.Common.{◌∙◌, ap, sym}
use Rattle.std.specs.Prelude.{option_map}
use Rattle.std.specs.FinMap.{get}
use Rattle.pool_map.specs.Shown.{get-shown}
use Rattle.share_index.specs.Shares.{Shares}
use Rattle.share_index.specs.Indexed.{place_in}
use Rattle.share_index.proofs.ShareIndex.is_owned.Goals as goal

pub unplaced_owners-requires : goal.unplaced_owners-requires
unplaced_owners-requires c =
    sym (ap (option_map place_in) (sym c.in-None.is ∙ c.get.ensures) ∙ sym (get-shown place_in c.self.inside.places.kept c.args.fp.now.0) ∙ ap (λ (s : Shares). get s.places c.args.fp.now.0) c.self.view_is)
