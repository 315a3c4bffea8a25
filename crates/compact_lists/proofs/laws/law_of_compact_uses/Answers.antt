use Rattle.std.specs.Prelude.{bytes_eq}
use Rattle.user_dedup.specs.CdBase.ids.Fp.{Fp}
use Rattle.compact_lists.proofs.Spent.{uses_kept}
use Rattle.compact_lists.proofs.laws.law_of_compact_uses.Goals as goal

pub returns : goal.returns
returns c = λ shape cloud list user fp sound. uses_kept shape cloud list sound user (λ (named : Fp). bytes_eq named.0 fp.0)
