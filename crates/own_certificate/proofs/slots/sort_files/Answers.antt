use Rattle.std.proofs.Common.{rules, subst}
use Rattle.std.specs.List.Sorted.{IsPermutation}
use Rattle.std.proofs.lemmas.Fn.{always_returns_same}
use Rattle.own_certificate.specs.Inner.{file_at}
use Rattle.own_certificate.proofs.Listed.{files_listed}
use Rattle.own_certificate.proofs.slots.sort_files.Goals as goal

pub returns : goal.returns
returns c =
    files_listed c.args.memory.now.files c.file_in-known.ensures.each c.sort_unstable_by_key.new.self
    (subst (λ s. IsPermutation s c.sort_unstable_by_key.new.self) c.requires c.sort_unstable_by_key.ensures.permutation)
    (c.sort_unstable_by_key.ensures.sorted (λ s. (file_at c.args.memory.now.files s).0) (always_returns_same _ _ _ (λ a r f h. search rules)))
