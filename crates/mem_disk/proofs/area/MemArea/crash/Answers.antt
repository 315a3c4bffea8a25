use Rattle.std.proofs.Common.{◌≡◌, ◌∙◌, ⊎_elim, inl, inr, Bool, cond, ℕ, List, [], length, take, ap, sym, arith}
use Rattle.mem_disk.specs.Areas.{held}
use Rattle.mem_disk.specs.Crashed.{filled_from, ranges_in}
use Rattle.mem_disk.proofs.Filled.{length-filled, filled_held}
use Rattle.mem_disk.proofs.area.MemArea.crash.Goals as goal

pub cut-requires : goal.cut-requires
cut-requires c =
    let old = c.args.self.now in let new = c.fill_since.new.self in let ranges = ranges_in c.args.area [] c.args.notes.now in
    ⊎_elim
    (λ below. inl (omega (arith, below, new.bytes.ok.0, old.bytes.ok.0, ap length c.fill_since.ensures.first, length-filled 0 c.args.fill ranges old.bytes.items)))
    (λ above. inr (omega (arith, above, c.fill_since.ensures.second)))
    c.requires.cut

pub returns-then-not-whole-clause-held : goal.returns-then-not-whole-clause-held
returns-then-not-whole-clause-held c =
    let old = c.args.self.now in let new = c.fill_since.new.self in let ranges = ranges_in c.args.area [] c.args.notes.now in
    let all : List ℕ = filled_from 0 c.args.fill ranges (held old) in
    let is : held new ≡ all = filled_held old new c.args.fill ranges c.fill_since.ensures.first c.fill_since.ensures.second c.fill_since.ensures.high c.requires.covered in
    c.cut.ensures.held ∙ ap (λ (l : List ℕ). take c.args.synced l) is ∙ sym (ap (λ (b : Bool). cond b all (take c.args.synced all)) c.if-not-whole.true)

pub returns-else-not-whole-clause-held : goal.returns-else-not-whole-clause-held
returns-else-not-whole-clause-held c =
    let old = c.args.self.now in let new = c.fill_since.new.self in let ranges = ranges_in c.args.area [] c.args.notes.now in
    let all : List ℕ = filled_from 0 c.args.fill ranges (held old) in
    let is : held new ≡ all = filled_held old new c.args.fill ranges c.fill_since.ensures.first c.fill_since.ensures.second c.fill_since.ensures.high c.requires.covered in
    is ∙ sym (ap (λ (b : Bool). cond b all (take c.args.synced all)) c.if-not-whole.false)
