use Rattle.std.proofs.Common.{refl, arith}
use Rattle.journal_halves.proofs.choice.later.Goals as goal

pub returns-else-two-one : goal.returns-else-two-one
returns-else-two-one c = record {
  one = c.args.first;
  first_is = refl;
  second_is = refl;
  not_first = λ e. omega (arith, e, c.epoch-one.ensures, c.epoch-two.ensures);
  not_second = λ e. omega (arith, e, c.epoch-one.ensures, c.epoch-two.ensures);
}
