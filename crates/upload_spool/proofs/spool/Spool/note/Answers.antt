use Rattle.std.proofs.Common.{◌≡◌, ℕ, ◌<◌, nat_eq, List, [], ◌∷◌, ◌++◌, refl, sym, ◌∙◌, subst, arith}
use Rattle.std.specs.Prelude.{All}
use Rattle.std.specs.List.{IsDistinct}
use Rattle.grammar.specs.CdBase.ids.CloudNo.{CloudNo}
use Rattle.grammar.specs.CdBase.Numbers.{numbers_of}
use Rattle.commit_journal.proofs.CdEdges.Moments.{told_on}
use Rattle.commit_journal.specs.States as half
use Rattle.upload_spool.specs.States.{SpoolState, state_of}
use Rattle.upload_spool.specs.Spools.{spool_chain}
use Rattle.upload_spool.proofs.Lanes.{distinct_more, below_more}
use Rattle.upload_spool.proofs.Notes.{near, pushed, room_after, not_noted, noted_images, noted_spool}
use Rattle.upload_spool.proofs.spool.Spool.note.Goals as goal

pub append-requires-clause-fits : goal.append-requires-clause-fits
append-requires-clause-fits g c = omega (arith, near c.args.self.now c.requires.open, c.args.self.now.limited)

pub invariant_of-self-2 : goal.invariant_of-self-2
invariant_of-self-2 g c =
    let s = c.args.self.now in let lane = c.args.lane in let more = s.noted.items ++ lane ∷ [] in
    let items : c.push.new.self.items ≡ more = pushed c.push.result c.push.new.self.items more s.noted.items (sym c.is_err.ensures.value ∙ c.if-is_err.false) c.push.ensures.items in
    record {
      limited = c.append.ensures.limit ∙ s.limited;
      room = room_after c.append.result c.append.new.self.stage c.append.new.self.records.gate s.journal.records.gate s.noted.items c.push.new.self.items lane
          c.append.ensures.stage c.append.ensures.gate (s.room c.requires.open) items;
      distinct = subst (λ (l : List CloudNo). IsDistinct nat_eq (numbers_of l)) (sym items) (distinct_more s.noted.items lane s.distinct c.requires.new);
      below = subst (λ (l : List CloudNo). All (λ (x : ℕ). x < s.shape.n) (numbers_of l)) (sym items) (below_more s.noted.items lane s.shape.n s.below c.requires.below);
    }

pub returns-then-is_err-clause-any_moment : goal.returns-then-is_err-clause-any_moment
returns-then-is_err-clause-any_moment g c told v lanes is = not_noted (state_of c.args.self.now) v lanes c.args.lane (g.V.Shelf.cloud_at c.args.shelf.now 0) is

pub returns-in-Ok-clause-any_moment : goal.returns-in-Ok-clause-any_moment
returns-in-Ok-clause-any_moment g c told v lanes is =
    let before = state_of c.args.self.now in let w = spool_chain before.shape v lanes in
    noted_images before v lanes c.args.lane (g.V.Shelf.cloud_at c.args.shelf.now 0) (g.V.Shelf.cloud_at c.append.new.shelf 0) is c.requires.below c.requires.new (near c.args.self.now c.requires.open)
    (c.append.ensures.any_moment told w is.ended) (c.append.ensures.other told w is.ended)

pub returns-in-Err-clause-any_moment : goal.returns-in-Err-clause-any_moment
returns-in-Err-clause-any_moment g c told v lanes is =
    let before = state_of c.args.self.now in let w = spool_chain before.shape v lanes in
    noted_images before v lanes c.args.lane (g.V.Shelf.cloud_at c.args.shelf.now 0) (g.V.Shelf.cloud_at c.append.new.shelf 0) is c.requires.below c.requires.new (near c.args.self.now c.requires.open)
    (c.append.ensures.any_moment told w is.ended) (c.append.ensures.other told w is.ended)

pub returns-in-Ok-clause-noted : goal.returns-in-Ok-clause-noted
returns-in-Ok-clause-noted g c told v lanes is =
    let s = c.args.self.now in let before = state_of s in let lane = c.args.lane in let more = s.noted.items ++ lane ∷ [] in
    let c0 = g.V.Shelf.cloud_at c.args.shelf.now 0 in let c1 = g.V.Shelf.cloud_at c.append.new.shelf 0 in
    let items : c.push.new.self.items ≡ more = pushed c.push.result c.push.new.self.items more s.noted.items (sym c.is_err.ensures.value ∙ c.if-is_err.false) c.push.ensures.items in
    let w = spool_chain before.shape v lanes in
    let after : SpoolState = record before { noted = c.push.new.self.items; journal = half.state_of c.append.new.self } in
    noted_spool before after v lanes lane c0 c1 is c.requires.below c.requires.new (near s c.requires.open) (c.in-Ok.ensures.added told w is.ended) refl
    (λ of. record { user = of.user; number = of.number; path = of.path; len = of.len; digest = of.digest }) items
    (c.append.ensures.other told w is.ended) (g.met.V.Shelf.reads_image c.append.new.shelf 0 (told_on c0 c1 c.append.ensures.call.told told)) (c.in-Ok.ensures.others told)
