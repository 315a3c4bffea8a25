use Rattle.std.proofs.Common.{rules, refl, arith}
use Rattle.std.proofs.lemmas.Slice.{overwrites}
use Rattle.aes256.proofs.Keys.{first_words, key_more}
use Rattle.aes256.proofs.schedule.expand.Goals as goal

pub words-init : goal.words-init
words-init c = first_words _ _ _ c.copy_from_slice.ensures.after c.told-key refl

pub words-preserved : goal.words-preserved
words-preserved c = (
  search (rules, overwrites),
  key_more c.words.words _ c.args.key.now c.step_of-step.result c.words.n _ c.words.invariant.1 (omega arith)
      c.step_of-step.ensures c.copy_from_slice-in-words.ensures.after,
)
