use Rattle.std.proofs.Common.{◌<◌, ◌^◌, subst, sym, rules}
use Rattle.std.proofs.lemmas.Result.{IfOk-weaker}
use Rattle.lane_steps.specs.Reached.{IsReached, Begun}
use Rattle.backup_command.proofs.carrying.job_of.Goals as goal

pub returns-clause-reached : goal.returns-clause-reached
returns-clause-reached c =
    let user : c.args.user.0 < 2 ^ 32 = search rules in
    let version : c.args.version.0 < 2 ^ 64 = search rules in
    IfOk-weaker c.of_bytes.result _ _ (λ job e. subst (IsReached c.args.shape) (sym e)
    (Begun (record {
      user = c.args.user;
      path = c.args.path.now;
      number = c.args.version;
      file = c.args.file;
    })
    c.requires.path c.requires.few user
    version))
    c.of_bytes.ensures
