use Rattle.std.proofs.Common.{◌-◌, ⊎_elim, inl, inr, ℕ, List, subst, arith}
use Rattle.cd_edges.specs.Shelf.{ReadsFrom}
use Rattle.mem_disk.proofs.Reading.{reads_low, reads_second}
use Rattle.mem_disk.proofs.area.MemArea.read.Goals as goal

pub returns-then-reads_first-clause-bytes : goal.returns-then-reads_first-clause-bytes
returns-then-reads_first-clause-bytes c =
    let a = c.args.self.now in
    reads_low a.bytes.items a.second a.high.items c.args.at c.copy_from.result c.copy_from.new.out
    (⊎_elim (λ none. inl (omega (arith, none, a.high.ok.0))) (λ within. inr (omega (arith, within, a.bytes.ok.0, c.copy_from.ensures.len))) (c.reads_first.ensures.on c.if-reads_first.true))
    (omega (arith, a.apart, a.bytes.ok.0))
    (subst (λ (l : List ℕ). ReadsFrom l c.args.at c.copy_from.result c.copy_from.new.out) c.deref.ensures.value c.copy_from.ensures.bytes)

pub returns-then-self-at-clause-bytes : goal.returns-then-self-at-clause-bytes
returns-then-self-at-clause-bytes c =
    let a = c.args.self.now in let copied = c.copy_from-then-self-at in
    reads_second a.bytes.items a.second a.high.items c.args.at copied.result copied.new.out
    (omega (arith, a.apart, a.bytes.ok.0)) (omega (arith, a.high.ok.0, c.reads_first.ensures.off c.if-reads_first.false)) c.if-self-at.true
    (subst (λ (l : List ℕ). ReadsFrom l (c.args.at - a.second) copied.result copied.new.out) c.deref-then-self-at.ensures.value copied.ensures.bytes)
