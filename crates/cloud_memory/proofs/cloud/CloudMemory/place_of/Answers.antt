use Rattle.std.proofs.Common.{◌≡◌, Option, sym, subst, map, length, ◌∙◌}
use Rattle.std.specs.Prelude.{◌↔◌, IsSome}
use Rattle.std.specs.List.{Contains}
use Rattle.spent_table.specs.CdBase.place.Place.{Place}
use Rattle.cloud_areas.specs.UserDedup.Cloud.{fingerprint}
use Rattle.cloud_areas.specs.UserDedup.Cloud.{strings_in, held_bytes}
use Rattle.cloud_memory.proofs.Answering.{if_some}
use Rattle.cloud_memory.proofs.cloud.CloudMemory.place_of.Goals as goal

pub returns-clause-meaning : goal.returns-clause-meaning
returns-clause-meaning c = λ shape list r.
    subst (λ (o : Option Place). IsSome o ↔ Contains (map fingerprint (strings_in list)) c.args.fp.now) (sym c.place_of.ensures) (r.placed c.args.fp.now)

pub returns-clause-len : goal.returns-clause-len
returns-clause-len c = λ shape list r.
    if_some (λ (place : Place). place.len ≡ length (held_bytes list c.args.fp.now)) c.place_of.result (λ place is. r.lens c.args.fp.now place (sym c.place_of.ensures ∙ is))
