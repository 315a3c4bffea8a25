use Rattle.std.proofs.Common.{◌≡◌, ◌-◌, take}
use Rattle.std.specs.Prelude.{bytes_eq}
use Rattle.std.specs.List.{list_any}
use Rattle.cloud_memory.specs.RecordBody.body.PutItem.{PutItem}
use Rattle.record_checks.specs.Steps.{names_fp}
use Rattle.record_checks.proofs.items.is_named.Given as goal

abbrev pub invariant-loop-i : goal.invariant-loop-i
invariant-loop-i l = names_fp l.fn.items.items l.fn.count l.fn.fp ≡ list_any (λ (item : PutItem). bytes_eq item.fp.0 l.fn.fp.0) (take (l.fn.count - l._i) l.walk.items)
