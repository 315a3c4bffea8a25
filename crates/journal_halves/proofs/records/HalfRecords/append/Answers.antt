use Rattle.std.proofs.Common.{◌≡◌, ◌+◌, ◌*◌, ℕ, List, [], ◌∷◌, length, take, ◌∙◌, ap, subst, arith, length-append}
use Rattle.cd_edges.specs.declared.area.Area.TheVariants.{Journal}
use Rattle.cd_edges.specs.Disk.{LeavesOnly, IsAtArea, MayLeave, overwritten}
use Rattle.cd_edges.specs.Shelf.{wrote, stable}
use Rattle.cd_edges.proofs.Moments.{told_on}
use Rattle.journal_halves.specs.Records.{IsJournalBody, framed}
use Rattle.journal_halves.specs.Halves.{half_len}
use Rattle.journal_halves.specs.States.{HalfState, state_of}
use Rattle.journal_halves.proofs.Adding.{either, read_left, after_first, staged, after_second, added}
use Rattle.journal_halves.proofs.records.HalfRecords.append.Goals as goal

pub returns-in_err-write_synced-clause-any_moment : goal.returns-in_err-write_synced-clause-any_moment
returns-in_err-write_synced-clause-any_moment g c told bodies ended =
    let number = c.args.cloud.0 in let body = c.args.body.now in let self = c.args.self.now in let old = state_of self in
    let one : IsJournalBody body = record { some = c.requires.some; few = c.requires.few } in let half = either self.half self.is_half in
    let c0 = g.V.Shelf.cloud_at c.args.shelf.now number in let c1 = g.V.Shelf.cloud_at c.write_synced.new.shelf number in
    let place : c.gate_at-place.result ≡ old.half * half_len + old.gate =
    c.gate_at-place.ensures.value ∙ ap (λ (h : ℕ). h * half_len + c.fill.new.self.gate) c.fill.ensures.rest.0 ∙ ap (λ (n : ℕ). old.half * half_len + n) c.fill.ensures.rest.1 in
    let bytes : take (length body + 5) c.deref.result.now ≡ framed body = ap (λ (l : List ℕ). take (length body + 5) l) c.deref.ensures.value ∙ c.fill.ensures.framed in
    let run = subst (λ (n : ℕ). LeavesOnly c0 c1 (IsAtArea c0.now Journal (MayLeave (wrote (c0.now Journal) (n + 1) (framed body))))) place
    (subst (λ (l : List ℕ). LeavesOnly c0 c1 (IsAtArea c0.now Journal (MayLeave (wrote (c0.now Journal) (c.gate_at-place.result + 1) l)))) bytes (c.write_synced.ensures.any_moment told)) in
    after_first old bodies body one half c.requires.room c0 c1 ended run

pub returns-in_err-write_synced-2-clause-any_moment : goal.returns-in_err-write_synced-2-clause-any_moment
returns-in_err-write_synced-2-clause-any_moment g c told bodies ended =
    let number = c.args.cloud.0 in let body = c.args.body.now in let self = c.args.self.now in let old = state_of self in
    let one : IsJournalBody body = record { some = c.requires.some; few = c.requires.few } in let half = either self.half self.is_half in
    let c0 = g.V.Shelf.cloud_at c.args.shelf.now number in let c1 = g.V.Shelf.cloud_at c.write_synced.new.shelf number in
    let place : c.gate_at-place.result ≡ old.half * half_len + old.gate =
    c.gate_at-place.ensures.value ∙ ap (λ (h : ℕ). h * half_len + c.fill.new.self.gate) c.fill.ensures.rest.0 ∙ ap (λ (n : ℕ). old.half * half_len + n) c.fill.ensures.rest.1 in
    let bytes : take (length body + 5) c.deref.result.now ≡ framed body = ap (λ (l : List ℕ). take (length body + 5) l) c.deref.ensures.value ∙ c.fill.ensures.framed in
    let run = subst (λ (n : ℕ). LeavesOnly c0 c1 (IsAtArea c0.now Journal (MayLeave (wrote (c0.now Journal) (n + 1) (framed body))))) place
    (subst (λ (l : List ℕ). LeavesOnly c0 c1 (IsAtArea c0.now Journal (MayLeave (wrote (c0.now Journal) (c.gate_at-place.result + 1) l)))) bytes (c.write_synced.ensures.any_moment told)) in
    let first = after_first old bodies body one half c.requires.room c0 c1 ended run in
    let told1 = told_on c0 c1 c.write_synced.ensures.call.told told in
    let image1 = g.met.V.Shelf.reads_image c.write_synced.new.shelf number told1 in
    let written : c1.now Journal ≡ stable (overwritten (c0.now Journal).read (old.half * half_len + old.gate + 1) (framed body)) =
    c.in_ok-write_synced.ensures.written told ∙ ap (λ (l : List ℕ). stable (overwritten (c0.now Journal).read (c.gate_at-place.result + 1) l)) bytes
    ∙ ap (λ (n : ℕ). stable (overwritten (c0.now Journal).read (n + 1) (framed body))) place in
    let s = staged old bodies body one half c.requires.room (c0.now Journal) (c1.now Journal) ended written (read_left c0 c1 _ run image1) in
    let c2 = g.V.Shelf.cloud_at c.write_synced-2.new.shelf number in
    let run2 = subst (λ (n : ℕ). LeavesOnly c1 c2 (IsAtArea c1.now Journal (MayLeave (wrote (c1.now Journal) n (1 ∷ []))))) place (c.write_synced-2.ensures.any_moment told1) in
    after_second old bodies body one half c.requires.room c0 c1 c2 ended first s (c.in_ok-write_synced.ensures.others told) run2

pub returns-clause-any_moment : goal.returns-clause-any_moment
returns-clause-any_moment g c told bodies ended =
    let number = c.args.cloud.0 in let body = c.args.body.now in let self = c.args.self.now in let old = state_of self in
    let one : IsJournalBody body = record { some = c.requires.some; few = c.requires.few } in let half = either self.half self.is_half in
    let c0 = g.V.Shelf.cloud_at c.args.shelf.now number in let c1 = g.V.Shelf.cloud_at c.write_synced.new.shelf number in
    let place : c.gate_at-place.result ≡ old.half * half_len + old.gate =
    c.gate_at-place.ensures.value ∙ ap (λ (h : ℕ). h * half_len + c.fill.new.self.gate) c.fill.ensures.rest.0 ∙ ap (λ (n : ℕ). old.half * half_len + n) c.fill.ensures.rest.1 in
    let bytes : take (length body + 5) c.deref.result.now ≡ framed body = ap (λ (l : List ℕ). take (length body + 5) l) c.deref.ensures.value ∙ c.fill.ensures.framed in
    let run = subst (λ (n : ℕ). LeavesOnly c0 c1 (IsAtArea c0.now Journal (MayLeave (wrote (c0.now Journal) (n + 1) (framed body))))) place
    (subst (λ (l : List ℕ). LeavesOnly c0 c1 (IsAtArea c0.now Journal (MayLeave (wrote (c0.now Journal) (c.gate_at-place.result + 1) l)))) bytes (c.write_synced.ensures.any_moment told)) in
    let first = after_first old bodies body one half c.requires.room c0 c1 ended run in
    let told1 = told_on c0 c1 c.write_synced.ensures.call.told told in
    let image1 = g.met.V.Shelf.reads_image c.write_synced.new.shelf number told1 in
    let written : c1.now Journal ≡ stable (overwritten (c0.now Journal).read (old.half * half_len + old.gate + 1) (framed body)) =
    c.in_ok-write_synced.ensures.written told ∙ ap (λ (l : List ℕ). stable (overwritten (c0.now Journal).read (c.gate_at-place.result + 1) l)) bytes
    ∙ ap (λ (n : ℕ). stable (overwritten (c0.now Journal).read (n + 1) (framed body))) place in
    let s = staged old bodies body one half c.requires.room (c0.now Journal) (c1.now Journal) ended written (read_left c0 c1 _ run image1) in
    let c2 = g.V.Shelf.cloud_at c.write_synced-2.new.shelf number in
    let run2 = subst (λ (n : ℕ). LeavesOnly c1 c2 (IsAtArea c1.now Journal (MayLeave (wrote (c1.now Journal) n (1 ∷ []))))) place (c.write_synced-2.ensures.any_moment told1) in
    after_second old bodies body one half c.requires.room c0 c1 c2 ended first s (c.in_ok-write_synced.ensures.others told) run2

pub returns-clause-added : goal.returns-clause-added
returns-clause-added g c told bodies ended =
    let number = c.args.cloud.0 in let body = c.args.body.now in let self = c.args.self.now in let old = state_of self in
    let one : IsJournalBody body = record { some = c.requires.some; few = c.requires.few } in let half = either self.half self.is_half in
    let c0 = g.V.Shelf.cloud_at c.args.shelf.now number in let c1 = g.V.Shelf.cloud_at c.write_synced.new.shelf number in
    let place : c.gate_at-place.result ≡ old.half * half_len + old.gate =
    c.gate_at-place.ensures.value ∙ ap (λ (h : ℕ). h * half_len + c.fill.new.self.gate) c.fill.ensures.rest.0 ∙ ap (λ (n : ℕ). old.half * half_len + n) c.fill.ensures.rest.1 in
    let bytes : take (length body + 5) c.deref.result.now ≡ framed body = ap (λ (l : List ℕ). take (length body + 5) l) c.deref.ensures.value ∙ c.fill.ensures.framed in
    let run = subst (λ (n : ℕ). LeavesOnly c0 c1 (IsAtArea c0.now Journal (MayLeave (wrote (c0.now Journal) (n + 1) (framed body))))) place
    (subst (λ (l : List ℕ). LeavesOnly c0 c1 (IsAtArea c0.now Journal (MayLeave (wrote (c0.now Journal) (c.gate_at-place.result + 1) l)))) bytes (c.write_synced.ensures.any_moment told)) in
    let told1 = told_on c0 c1 c.write_synced.ensures.call.told told in
    let image1 = g.met.V.Shelf.reads_image c.write_synced.new.shelf number told1 in
    let written : c1.now Journal ≡ stable (overwritten (c0.now Journal).read (old.half * half_len + old.gate + 1) (framed body)) =
    c.in_ok-write_synced.ensures.written told ∙ ap (λ (l : List ℕ). stable (overwritten (c0.now Journal).read (c.gate_at-place.result + 1) l)) bytes
    ∙ ap (λ (n : ℕ). stable (overwritten (c0.now Journal).read (n + 1) (framed body))) place in
    let s = staged old bodies body one half c.requires.room (c0.now Journal) (c1.now Journal) ended written (read_left c0 c1 _ run image1) in
    let c2 = g.V.Shelf.cloud_at c.write_synced-2.new.shelf number in
    let run2 = subst (λ (n : ℕ). LeavesOnly c1 c2 (IsAtArea c1.now Journal (MayLeave (wrote (c1.now Journal) n (1 ∷ []))))) place (c.write_synced-2.ensures.any_moment told1) in
    let told2 = told_on c1 c2 c.write_synced-2.ensures.call.told told1 in
    let image2 = g.met.V.Shelf.reads_image c.write_synced-2.new.shelf number told2 in
    let last : c2.now Journal ≡ stable (overwritten (c1.now Journal).read (old.half * half_len + old.gate) (1 ∷ [])) =
    c.in_ok-write_synced-2.ensures.written told1 ∙ ap (λ (n : ℕ). stable (overwritten (c1.now Journal).read n (1 ∷ []))) place in
    let new : HalfState = record (state_of c.fill.new.self) { gate = c.fill.new.self.gate + (length body + 5) } in
    added old bodies body one half c.requires.room new (c0.now Journal) (c1.now Journal) (c2.now Journal) ended s last (read_left c1 c2 _ run2 image2) c.fill.ensures.rest.0 (omega (arith, c.fill.ensures.rest.1, length-append body (0 ∷ [])))
