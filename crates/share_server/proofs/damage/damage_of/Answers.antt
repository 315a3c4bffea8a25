use Rattle.std.proofs.Common.{sym, subst, arith}
use Rattle.server_requests.specs.CommitJournal.errors.OpenErr.{OpenErr}
use Rattle.share_server.specs.Refusals.{IsNamedDamage}
use Rattle.share_server.proofs.damage.damage_of.Goals as goal

pub returns-in-OtherStore : goal.returns-in-OtherStore
returns-in-OtherStore c =
    let d = c.first_place-place in let sum = c.saturating_add.ensures in
    subst (λ (e : OpenErr). IsNamedDamage e c.saturating_add.result d.result.1) (sym c.in-OtherStore.is) (d.result.0, (λ within. omega (arith, within, sum)), d.ensures)
