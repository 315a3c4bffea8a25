use Rattle.std.proofs.Common.{ℕ, ◌+◌, min, sym, ap, ◌∙◌, subst}
use Rattle.compact_memories.specs.Checkpoints.Records.{coming}
use Rattle.compact_memories.proofs.Checkpoints.Counted.{Counted, none_counted, one_counted}
use Rattle.fresh_checkpoints.proofs.laying.fresh_count.Goals as goal

pub each-init : goal.each-init
each-init c =
    record { ready = c.requires.ready; counted = none_counted (coming c.args.records.now.shares.now c.args.records.now.files.now c.args.records.now.spent.now c.args.records.now.at) }

pub each-preserved : goal.each-preserved
each-preserved c =
    let first = c.args.records.now in let old = c.each.records in let new = c.write_one.new.self in
    let all = coming first.shares.now first.files.now first.spent.now first.at in
    let rest = coming old.shares.now old.files.now old.spent.now old.at in
    let left = coming new.shares.now new.files.now new.spent.now new.at in
    let bytes = c.write_one.new.buffer in
    let long = c.saturating_add-len.ensures ∙ ap (λ (n : ℕ). min (c.each.len + (n + 5)) 18446744073709551615) c.len.ensures.value in
    record {
      ready = c.write_one.ensures.ready;
      counted =
          subst (λ (n : ℕ). Counted all left n c.saturating_add-len.result) (sym c.saturating_add-count.ensures)
          (subst (λ (n : ℕ). Counted all left (min (c.each.count + 1) 4294967295) n) (sym long)
          (one_counted all rest left bytes c.each.count c.each.len c.each.invariant.counted c.each-test.ensures.step));
    }
