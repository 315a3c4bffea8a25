use Rattle.std.proofs.Common.{◌≡◌, ◌++◌, ◌∷◌, [], ℕ, List, subst, sym, rules}
use Rattle.cd_fakes.specs.declared.cloud.MemCloud.{MemCloud}
use Rattle.cd_fakes.specs.Clouds.{HasSpare}
use Rattle.cd_fakes.specs.Shelves.{At, AllSpare, IsNew}
use Rattle.cd_fakes.proofs.CloudsAt.{at_pushed}
use Rattle.cd_fakes.proofs.shelf.MemShelf.of.Goals as goal

pub loop-number-preserved : goal.loop-number-preserved
loop-number-preserved c =
    let old = c.loop-number.list.items in let m = c.in_ok-cloud.cloud in
    let pushed : c.push.new.self.items ≡ old ++ m ∷ [] = search rules in
    record {
      len = search rules;
      new = subst (λ (l : List MemCloud). (number : ℕ) → At l number (IsNew c.args.clouds c.args.room number)) (sym pushed)
          (at_pushed old m (λ number. IsNew c.args.clouds c.args.room number) c.loop-number.invariant.new
          (subst (λ (n : ℕ). IsNew c.args.clouds c.args.room n m) (sym c.loop-number.invariant.len) c.in_ok-cloud.ensures.new));
      spare = subst (λ (l : List MemCloud). AllSpare c.args.calls l) (sym pushed)
          (at_pushed old m (λ number. HasSpare c.args.calls) c.loop-number.invariant.spare c.in_ok-cloud.ensures.spare);
    }
