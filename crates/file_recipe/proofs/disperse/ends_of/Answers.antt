use Rattle.std.proofs.Common.{◌≡◌, ◌∙◌, ◌++◌, [], List, ℕ, ap, length}
use Rattle.rabin_chunker.specs.Cuts.{ends, ends_after, last_end}
use Rattle.file_recipe.proofs.disperse.ends_of.Goals as goal

pub returns : goal.returns
unfolding ends
returns c =
    let file : List ℕ = c.args.file.now in
    let fed = c.in_ok-feed.ensures.read [] c.new-chunker.ensures in
    let some : c.feed.new.cuts ≡ ends_after file 0 (length file) = c.in_ok-feed.ensures.appended [] c.new-chunker.ensures ∙ ap (λ (xs : List ℕ). xs ++ ends_after file 0 (length file)) c.new-cuts.ensures in
    c.in_ok-finish.ensures.appended file fed ∙ ap (λ (xs : List ℕ). xs ++ last_end file) some
