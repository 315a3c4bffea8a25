use Rattle.std.proofs.Common.{◌≡◌, ℕ, List, [], ◌∷◌, ◌+◌, ◌<◌, ◌≤◌, true, false, length, drop, slice_index_or, sym, ap, ◌∙◌, subst, arith}
use Rattle.std.proofs.lemmas.List.{get_or-drop, drop-drop}
use Rattle.sha2.specs.Sha256.{sha256}
use Rattle.server_commands.proofs.Picking.{Picking, begun, opened, room_for, more_new, more_old, moved, ended}
use Rattle.server_commands.proofs.news.collect.Goals as goal
use Rattle.server_commands.proofs.news.collect.Goals.{then-is_new, else-is_new}

pub loop-place-init : goal.loop-place-init
loop-place-init c = (
  subst (λ (l : List (List ℕ)). Picking c.args.store.now c.args.store.now c.args.user c.args.shares.now 0 0 l c.args.news.now) (sym c.copied-rest.ensures)
      (begun c.args.store.now c.args.user c.args.shares.now c.args.news.now c.requires.ready),
  c.copied-rest.ensures,
)

-- the next share is the one at the place, and those behind it are behind that
next_at : (sent rest others : List (List ℕ)) (place : ℕ) (share : List ℕ) → rest ≡ drop place sent → rest ≡ share ∷ others
    → (slice_index_or sent place [] ≡ share) × (others ≡ drop (place + 1) sent)
next_at sent rest others place share at next = (
  ap (λ (k : ℕ). slice_index_or sent k []) (omega arith) ∙ sym (get_or-drop place sent 0 []) ∙ ap (λ (l : List (List ℕ)). slice_index_or l 0 []) (sym at ∙ next),
  ap (drop 1) (sym next ∙ at) ∙ drop-drop 1 place sent,
)

pub pick-is_new-requires-clause-fp : goal.pick-is_new-requires-clause-fp
pick-is_new-requires-clause-fp c =
    let at = next_at c.args.shares.now c.loop-place.rest c.next_share-others.result.1 c.loop-place.place c.next_share-others.result.0.now c.loop-place.invariant.1 c.next_share-others.ensures.value in
    ap (λ (d : List ℕ). record { 0 = d }) (c.digests_of-digests.ensures c.loop-place.place (omega (arith, c.len-place-end.ensures)) ∙ ap sha256 at.0)

pub stage_one-requires-clause-open : goal.stage_one-requires-clause-open
stage_one-requires-clause-open c = opened c.args.store.now c.loop-place.store c.requires.ready c.loop-place.invariant.0.same

pub stage_one-requires-clause-room : goal.stage_one-requires-clause-room
stage_one-requires-clause-room c =
    let batch : length c.args.shares.now ≤ 256 = c.requires.batch.0.1 in
    room_for c.args.store.now c.loop-place.store c.args.user c.args.shares.now c.loop-place.place c.loop-place.count c.loop-place.rest c.loop-place.news c.next_share-others.result.0.now c.next_share-others.result.1
    c.next_share-others.ensures.value c.loop-place.invariant.0 c.next_share-others.ensures.range batch

pub loop-place-preserved : goal.loop-place-preserved
loop-place-preserved c =
    let old = c.args.store.now in let store = c.loop-place.store in let user = c.args.user in let sent = c.args.shares.now in
    let place = c.loop-place.place in let count = c.loop-place.count in let rest = c.loop-place.rest in let news = c.loop-place.news in
    let share = c.next_share-others.result.0.now in let others = c.next_share-others.result.1 in
    let p = c.loop-place.invariant.0 in
    let batch : length sent ≤ 256 = c.requires.batch.0.1 in
    let in_news : count < length news = omega (arith, p.few) in
    let test = c.pick-is_new.ensures in
    let at = next_at sent rest others place share c.loop-place.invariant.1 c.next_share-others.ensures.value in (
      elim c.if-is_new.branch [
        | then-is_new w ↦
            moved old w.stage_one.new.store c.if-is_new.store user sent (place + 1) (count + 1) c.if-is_new.count others c.pick-is_new.new.news w.store-is w.count-is
            (more_new old store user sent place count rest news share others c.next_share-others.ensures.value p c.pick-is_new.new.news w.stage_one.new.store in_news c.next_share-others.ensures.range
            (record { fresh = λ is. test.fresh w.if-is_new.true; other = λ is. test.other w.if-is_new.true; by_memory = sym w.if-is_new.true ∙ test.by_memory })
            (test.put w.if-is_new.true) w.stage_one.ensures.staged w.stage_one.ensures.same w.stage_one.ensures.settled w.stage_one.ensures.meet)
        | else-is_new w ↦
            moved old store c.if-is_new.store user sent (place + 1) count c.if-is_new.count others c.pick-is_new.new.news w.store-is w.count-is
            (more_old old store user sent place count rest news share others c.next_share-others.ensures.value p c.pick-is_new.new.news
            (record {
              fresh = λ is. absurd (let no : false ≡ true = is in cc);
              other = λ is. absurd (let no : false ≡ true = is in cc);
              by_memory = sym w.if-is_new.false ∙ test.by_memory;
            })
            (test.left w.if-is_new.false))
      ],
      at.1,
    )

pub returns-clause-picked : goal.returns-clause-picked
returns-clause-picked c =
    ended c.args.store.now c.loop-place.store c.args.user c.args.shares.now c.loop-place.place c.loop-place.count c.loop-place.rest c.loop-place.news (omega arith) (omega arith) c.loop-place.invariant.0
