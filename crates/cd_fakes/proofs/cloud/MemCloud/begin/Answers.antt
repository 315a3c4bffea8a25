use Rattle.std.proofs.Common.{◌≡◌, ℕ, true, rules, ap, sym, ◌∙◌}
use Rattle.std.proofs.lemmas.Bool.{false≢true}
use Rattle.cd_fakes.specs.Counts.{counted_up, is_named}
use Rattle.cd_fakes.specs.Clouds.{Absent, Named}
use Rattle.cd_fakes.proofs.cloud.MemCloud.begin.Goals as goal

pub returns-else-not-self-clause-refused : goal.returns-else-not-self-clause-refused
returns-else-not-self-clause-refused c =
    let named : c.names.result ≡ is_named c.args.fails.now c.args.number.0 (counted_up c.args.self.now.calls) = c.names.ensures ∙ ap (λ (n : ℕ). is_named c.args.fails.now c.args.number.0 n) (search rules) in
    let there : c.args.self.now.is_there ≡ true = search rules in
    (λ is. Named (sym named ∙ is), λ refused. elim refused [ Absent gone ↦ absurd (false≢true (sym gone ∙ there)) | Named is ↦ named ∙ is ])
