use Rattle.std.proofs.Common.{◌≡◌, ◌-◌, take}
use Rattle.std.specs.Prelude.{bytes_eq}
use Rattle.std.specs.List.{list_any}
use Rattle.cloud_memory.specs.RecordBody.body.KeptItem.{KeptItem}
use Rattle.record_checks.specs.Steps.{keeps_fp}
use Rattle.record_checks.proofs.kepts.is_kept.Given as goal

abbrev pub invariant-loop-i : goal.invariant-loop-i
invariant-loop-i l = keeps_fp l.fn.items.items l.fn.count l.fn.fp ≡ list_any (λ (item : KeptItem). bytes_eq item.fp.0 l.fn.fp.0) (take (l.fn.count - l._i) l.walk.items)
