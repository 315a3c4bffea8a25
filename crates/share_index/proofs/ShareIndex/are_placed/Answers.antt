use Rattle.std.proofs.Common.{eq-eqb}
use Rattle.std.proofs.lemmas.Bool.{eqb-true}
use Rattle.share_index.proofs.Holders.{placed-at_none, none-at_placed}
use Rattle.share_index.proofs.ShareIndex.are_placed.Goals as goal

pub returns : goal.returns
returns c =
    rw (← c.self.view_is) (
      (λ t. placed-at_none c.self.inside.places c.self.inside.owners c.self.inside.unplaced c.self.invariant (eqb-true c.self.inside.unplaced 0 t)),
      (λ all. eq-eqb c.self.inside.unplaced 0 (none-at_placed c.self.inside.places c.self.inside.owners c.self.inside.unplaced c.self.invariant all)),
    )
