use Rattle.std.proofs.Common.{◌≡◌, ◌+◌, ◌-◌, ◌/◌, ◌≤◌, List, ℕ, length, sym, ap, ◌∙◌, subst, arith, rules, length-take}
use Rattle.std.specs.List.{filter}
use Rattle.std.specs.Prelude.{All}
use Rattle.cd_edges.specs.Disk.{Store, overwritten}
use Rattle.cd_edges.specs.Shelf.{stable}
use Rattle.cd_edges.proofs.Moments.{started}
use Rattle.cd_edges.proofs.Since.{image_of_wrote}
use Rattle.container_log.specs.Laying.{laid, placed, IsAt}
use Rattle.container_log.specs.States.{State}
use Rattle.container_log.proofs.Blobs.{laid_at, later_at, none_at}
use Rattle.container_log.specs.Caches.{Cache, is_left}
use Rattle.container_log.proofs.Agreeing.{agrees_flushed, kept_flushed}
use Rattle.container_log.proofs.Staged.{staged_end_of, some_used, long_staged, flushed}
use Rattle.container_log.proofs.log.Log.flush.Goals as goal

pub returns-then-self-eq0-clause-torn : goal.returns-then-self-eq0-clause-torn
returns-then-self-eq0-clause-torn g c told =
    let self = c.args.self.now in let c0 = g.V.Shelf.cloud_at c.args.shelf.now c.args.cloud.0 in
    started c0 _ (λ image now. record { area = image_of_wrote (c0.now self.area) self.end self.staged (image self.area) (now self.area); others = λ other ne. now other })

pub returns-then-self-eq0-clause-end : goal.returns-then-self-eq0-clause-end
returns-then-self-eq0-clause-end g c blobs has =
    let inside = c.self.inside in
    omega (arith, staged_end_of c.args.self.now blobs has, ap (λ (s : State). length s.staged) c.self.view_is, length-take inside.used inside.buffer.items, c.if-self-eq0.true)

pub returns-then-self-eq0-clause-placed : goal.returns-then-self-eq0-clause-placed
returns-then-self-eq0-clause-placed g c told blobs has =
    let self = c.args.self.now in let inside = c.self.inside in
    let none : length (laid self.end blobs) ≡ 0 = omega (arith, ap length has.bytes, ap (λ (s : State). length s.staged) c.self.view_is, length-take inside.used inside.buffer.items, c.if-self-eq0.true) in
    none_at ((g.V.Shelf.cloud_at c.args.shelf.now c.args.cloud.0).now self.area).read self.end blobs none

pub returns-in-Ok-clause-placed : goal.returns-in-Ok-clause-placed
returns-in-Ok-clause-placed g c told blobs has =
    let self = c.args.self.now in
    let c0 = g.V.Shelf.cloud_at c.args.shelf.now c.args.cloud.0 in let c1 = g.V.Shelf.cloud_at c.write_synced.new.shelf c.args.cloud.0 in
    let old = (c0.now self.area).read in
    let is : c1.now self.area ≡ stable (overwritten old self.end self.staged) = search rules in
    subst (λ (s : Store). All (IsAt s.read) (placed self.end blobs)) (sym is) (subst (λ (l : List ℕ). All (IsAt (overwritten old self.end l)) (placed self.end blobs)) (sym has.bytes) (laid_at old self.end blobs))

pub returns-in-Ok-clause-kept : goal.returns-in-Ok-clause-kept
returns-in-Ok-clause-kept g c told b below at =
    let self = c.args.self.now in
    let c0 = g.V.Shelf.cloud_at c.args.shelf.now c.args.cloud.0 in let c1 = g.V.Shelf.cloud_at c.write_synced.new.shelf c.args.cloud.0 in
    let old = (c0.now self.area).read in
    let is : c1.now self.area ≡ stable (overwritten old self.end self.staged) = search rules in
    subst (λ (s : Store). IsAt s.read b) (sym is) (later_at old self.end self.staged b below at)

pub returns-in-Ok-clause-end : goal.returns-in-Ok-clause-end
returns-in-Ok-clause-end g c blobs has =
    let inside = c.self.inside in
    omega (arith, staged_end_of c.args.self.now blobs has, ap (λ (s : State). s.end) c.self.view_is, ap (λ (s : State). length s.staged) c.self.view_is, length-take inside.used inside.buffer.items, c.self.invariant.0, c.self.invariant.1)

pub returns-in-Ok-clause-agrees : goal.returns-in-Ok-clause-agrees
returns-in-Ok-clause-agrees g c told all =
    let self = c.args.self.now in let inside = c.self.inside in let used = c.take-used.result in
    let within : inside.used ≤ length inside.buffer.items = omega (arith, c.self.invariant.0) in
    let c0 = g.V.Shelf.cloud_at c.args.shelf.now c.args.cloud.0 in let c1 = g.V.Shelf.cloud_at c.write_synced.new.shelf c.args.cloud.0 in
    let old = (c0.now self.area).read in
    let is : c1.now self.area ≡ stable (overwritten old self.end self.staged) = search rules in
    let is_used : used ≡ inside.used = search rules in
    agrees_flushed old (c1.now inside.area).read self.end used self.staged self.kept c.forget_changed.new.self.kept
    (some_used used inside.used is_used c.if-self-eq0.false)
    (long_staged inside.used used self.staged inside.buffer.items is_used (ap (λ (s : State). s.staged) c.self.view_is) within)
    (ap (λ (x : Cache). x.kept) c.forget_changed.ensures ∙ ap (λ (s : State). filter (is_left (s.end / 4194304) ((s.end + (used - 1)) / 4194304)) s.kept) c.self.view_is)
    (ap (λ (s : State). (c1.now s.area).read) c.self.view_is ∙ ap (λ (s : Store). s.read) is) all

pub returns-in-Ok-clause-log : goal.returns-in-Ok-clause-log
returns-in-Ok-clause-log g c =
    let self = c.args.self.now in let inside = c.self.inside in let used = c.take-used.result in
    let within : inside.used ≤ length inside.buffer.items = omega (arith, c.self.invariant.0) in
    let is_used : used ≡ inside.used = search rules in
    let long = long_staged inside.used used self.staged inside.buffer.items is_used (ap (λ (s : State). s.staged) c.self.view_is) within in
    let none : c.take-used.new.dest ≡ 0 = search rules in
    flushed self inside.area inside.limit (inside.end + used) c.take-used.new.dest inside.buffer.items c.forget_changed.new.self
    (ap (λ (s : State). s.area) c.self.view_is) (ap (λ (s : State). s.limit) c.self.view_is)
    (ap (λ (n : ℕ). inside.end + n) long ∙ ap (λ (s : State). s.end + length self.staged) c.self.view_is) none
    (ap (λ (x : Cache). x.keep) c.forget_changed.ensures ∙ ap (λ (s : State). s.keep) c.self.view_is)
    (kept_flushed self.end used self.staged self.kept c.forget_changed.new.self.kept
    (some_used used inside.used is_used c.if-self-eq0.false) long
    (ap (λ (x : Cache). x.kept) c.forget_changed.ensures ∙ ap (λ (s : State). filter (is_left (s.end / 4194304) ((s.end + (used - 1)) / 4194304)) s.kept) c.self.view_is))
