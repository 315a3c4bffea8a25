use Rattle.std.proofs.Common.{◌≡◌, length, true, false, rules, refl, sym, ap, ◌∙◌, subst, arith, inl}
use Rattle.std.proofs.lemmas.Bool.{false≢true}
use Rattle.fresh_checkpoints.specs.CdEdges.area.Area.TheVariants.{Journal}
use Rattle.fresh_checkpoints.proofs.CdEdges.Moments.{weaker}
use Rattle.cloud_store.specs.CommitJournal.States as journals
use Rattle.fresh_checkpoints.specs.CloudAreas.Standing.{StandsFor}
use Rattle.fresh_checkpoints.specs.CloudDisk.Disk.{IsRead}
use Rattle.fresh_checkpoints.specs.Checkpoints.Laying.{KeepsOrSettles}
use Rattle.fresh_checkpoints.specs.Checkpoints.Records.{records_of}
use Rattle.fresh_checkpoints.proofs.Checkpoints.InPlace.{ended_still}
use Rattle.blob_copy.proofs.Serving.{as_it_was}
use Rattle.blob_copy.proofs.Settled.{left_shut, left_open, shut_at_once, shut_only, failed_only}
use Rattle.blob_copy.proofs.switching.settle.Goals as goal

pub is_roomy-requires : goal.is_roomy-requires
is_roomy-requires g c = c.requires.rooms.users

pub lay_fresh-laid-requires : goal.lay_fresh-laid-requires
lay_fresh-laid-requires g c =
    let m = c.requires in
    let journal = c.journal_mut.ensures.value in
    record {
      at_end = ap (λ (j : journals.JournalState). j.stage) journal ∙ m.at_end;
      limit = ap (λ (j : journals.JournalState). j.limit) journal ∙ m.disk.limit;
      header = m.header;
      format = m.format;
      region = c.requires.other_is;
      fit = m.fit;
      users = (let users = m.rooms.users in let few = m.header.rooms.few in omega (arith, users, few));
      slots = (let slots = m.rooms.slots in let few = m.header.rooms.owners in omega (arith, slots, few));
    }

-- ---- where there is no room

pub returns-then-not-is_roomy-clause-any_moment : goal.returns-then-not-is_roomy-clause-any_moment
returns-then-not-is_roomy-clause-any_moment g c list other chain read n =
    let store = c.args.store.now in let cloud = g.V.Shelf.cloud_at c.args.shelf.now store.header.cloud.0 in
    weaker cloud cloud (λ image. StandsFor image store.header list) _ (as_it_was store.header list chain store.disk.journal cloud read) (λ image stands. inl stands)

pub returns-then-not-is_roomy-clause-long : goal.returns-then-not-is_roomy-clause-long
returns-then-not-is_roomy-clause-long g c =
    let off : c.is_roomy.result ≡ false = search rules in (λ roomy. false≢true (sym off ∙ c.is_roomy.ensures.1 roomy))

pub returns-then-not-is_roomy-clause-settled : goal.returns-then-not-is_roomy-clause-settled
returns-then-not-is_roomy-clause-settled g c = shut_at_once c.args.next.region c.args.store.now c.shut.new.self c.requires c.shut.ensures

-- ---- behind the checkpoint

pub returns-in-Ok-clause-any_moment : goal.returns-in-Ok-clause-any_moment
returns-in-Ok-clause-any_moment g c list other chain read n =
    let store = c.args.store.now in let cloud = g.V.Shelf.cloud_at c.args.shelf.now store.header.cloud.0 in
    c.lay_fresh-laid.ensures.any_moment store.header list other chain (subst (λ (j : journals.JournalState). IsRead store.header list chain j cloud) (sym c.journal_mut.ensures.value) read) n

pub returns-in-Err-clause-any_moment : goal.returns-in-Err-clause-any_moment
returns-in-Err-clause-any_moment g c list other chain read n =
    let store = c.args.store.now in let cloud = g.V.Shelf.cloud_at c.args.shelf.now store.header.cloud.0 in
    c.lay_fresh-laid.ensures.any_moment store.header list other chain (subst (λ (j : journals.JournalState). IsRead store.header list chain j cloud) (sym c.journal_mut.ensures.value) read) n

pub returns-in-Ok-clause-read : goal.returns-in-Ok-clause-read
returns-in-Ok-clause-read g c list other chain read n =
    let store = c.args.store.now in let cloud = g.V.Shelf.cloud_at c.args.shelf.now store.header.cloud.0 in
    c.in-Ok.ensures.settled store.header list other chain (subst (λ (j : journals.JournalState). IsRead store.header list chain j cloud) (sym c.journal_mut.ensures.value) read) n

pub returns-in-Ok-clause-settled : goal.returns-in-Ok-clause-settled
returns-in-Ok-clause-settled g c =
    let on : c.is_roomy.result ≡ true = search rules in
    left_open c.args.next.region c.args.store.now _ c.requires refl refl
    (c.lay_fresh-laid.ensures.limit ∙ ap (λ (j : journals.JournalState). j.limit) c.journal_mut.ensures.value) refl refl refl c.requires.other_is (c.is_roomy.ensures.0 on)

pub returns-in-Err-clause-settled : goal.returns-in-Err-clause-settled
returns-in-Err-clause-settled g c =
    let after = journals.state_of c.lay_fresh-laid.new.journal in
    left_shut c.args.next.region c.args.store.now _ c.requires refl refl
    (c.lay_fresh-laid.ensures.limit ∙ ap (λ (j : journals.JournalState). j.limit) c.journal_mut.ensures.value) refl refl refl
    (shut_only c.lay_fresh-laid.result _ after.stage c.in-Err.is (c.lay_fresh-laid.ensures.never_long c.requires.rooms) c.lay_fresh-laid.ensures.stage)

-- ---- whatever the chain says

pub returns-then-not-is_roomy-clause-chain : goal.returns-then-not-is_roomy-clause-chain
returns-then-not-is_roomy-clause-chain g c told w ended =
    let store = c.args.store.now in ended_still store.disk.journal (g.V.Shelf.cloud_at c.args.shelf.now store.header.cloud.0) w _ ended

pub returns-in-Ok-clause-chain : goal.returns-in-Ok-clause-chain
returns-in-Ok-clause-chain g c =
    let store = c.args.store.now in
    let c0 = g.V.Shelf.cloud_at c.args.shelf.now store.header.cloud.0 in let c1 = g.V.Shelf.cloud_at c.lay_fresh-laid.new.shelf store.header.cloud.0 in
    subst (λ (j : journals.JournalState). KeepsOrSettles j store.header c.args.next.commands (length (records_of store.memory)) c.args.next.region (records_of store.memory) c0 c1)
    c.journal_mut.ensures.value c.lay_fresh-laid.ensures.chain

pub returns-in-Err-clause-chain : goal.returns-in-Err-clause-chain
returns-in-Err-clause-chain g c =
    let store = c.args.store.now in
    let c0 = g.V.Shelf.cloud_at c.args.shelf.now store.header.cloud.0 in let c1 = g.V.Shelf.cloud_at c.lay_fresh-laid.new.shelf store.header.cloud.0 in
    subst (λ (j : journals.JournalState). KeepsOrSettles j store.header c.args.next.commands (length (records_of store.memory)) c.args.next.region (records_of store.memory) c0 c1)
    c.journal_mut.ensures.value c.lay_fresh-laid.ensures.chain

pub returns-in-Ok-clause-taken : goal.returns-in-Ok-clause-taken
returns-in-Ok-clause-taken g c told w ended =
    let store = c.args.store.now in
    let c0 = g.V.Shelf.cloud_at c.args.shelf.now store.header.cloud.0 in
    c.in-Ok.ensures.taken told w (subst (λ (j : journals.JournalState). journals.IsJournalEnded j (c0.now Journal) w) (sym c.journal_mut.ensures.value) ended)

-- ---- a device failed

pub returns-in-Err-clause-shut : goal.returns-in-Err-clause-shut
returns-in-Err-clause-shut g c =
    shut_only c.lay_fresh-laid.result _ (journals.state_of c.lay_fresh-laid.new.journal).stage c.in-Err.is (c.lay_fresh-laid.ensures.never_long c.requires.rooms) c.lay_fresh-laid.ensures.stage

pub returns-in-Err-clause-counts : goal.returns-in-Err-clause-counts
returns-in-Err-clause-counts g c =
    failed_only c.lay_fresh-laid.result _ _ c.in-Err.is (c.lay_fresh-laid.ensures.never_long c.requires.rooms) c.lay_fresh-laid.ensures.failed
