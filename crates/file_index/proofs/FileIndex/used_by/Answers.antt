use Rattle.std.proofs.Common.{◌≡◌, ◌∙◌, ap, sym, arith}
use Rattle.pool_map.specs.Accounts.{limit_for}
use Rattle.file_index.specs.Files.{Files, used_by}
use Rattle.file_index.proofs.Keeping.{charges, limits_are, unused}
use Rattle.file_index.proofs.FileIndex.used_by.Goals as goal

pub returns-in-Some : goal.returns-in-Some
returns-in-Some c =
    let table = c.self.inside.table in
    let accounts = c.self.inside.accounts in
    let left = c.spare.ensures in
    let used = charges table accounts c.self.invariant c.args.user.0 c.in-Some.account c.in-Some.ensures.account in
    let limit = limits_are table accounts c.self.invariant c.args.user.0 c.in-Some.account c.in-Some.ensures.account c.in-Some.ensures.known in
    let most : c.limit_in.result ≡ limit_for accounts c.args.user.0 = c.limit_in.ensures c.args.user.0 c.in-Some.ensures.known in
    omega (arith, left, used, limit, most) ∙ ap (λ (f : Files). used_by f c.args.user.0) c.self.view_is

pub returns-in-None : goal.returns-in-None
returns-in-None c =
    sym (unused c.self.inside.table c.self.inside.accounts c.self.invariant c.args.user.0 c.in-None.ensures.apart)
    ∙ ap (λ (f : Files). used_by f c.args.user.0) c.self.view_is
