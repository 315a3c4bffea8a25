use Rattle.std.proofs.Common.{◌≡◌, ℕ, None, inl, inr, ap, ◌∙◌, subst}
use Rattle.server_requests.specs.CdEdges.Disk.{Cloud}
use Rattle.server_requests.specs.CdEdges.Shelf.{Stays}
use Rattle.server_requests.specs.JournalStart.start.Header.{Header}
use Rattle.server_requests.specs.UserDedup.Exec.{Peer}
use Rattle.blob_copy.specs.CloudAreas.Peers.{ImagesSince, MayBecome}
use Rattle.blob_copy.specs.CloudOpening.CloudMemory.Rooms.{memory_of}
use Rattle.server_requests.specs.CloudStore.store.CloudStore.{CloudStore}
use Rattle.server_requests.specs.CloudStore.Store.{ServesSome}
use Rattle.server_requests.specs.ServerCommands.Leaving.{IsFound}
use Rattle.server_requests.specs.ServerCommands.Serving.{serves}
use Rattle.server_requests.specs.Asking.{request_of}
use Rattle.share_server.specs.Serving.{ServesAs, IsAnsweredContent, ChangesBehind, EntersBy, GrowsOn, RottenLeaves}
use Rattle.share_server.specs.Steps.{HasDoneRequest}
use Rattle.share_server.proofs.Executed.{opened_executes, opened_images, shut_images, refused_executes}
use Rattle.share_server.proofs.Refusing.{not_rotten, refused_answered, answered_behind, refused_hashed}
use Rattle.server_requests.proofs.CdEdges.Moments.{told_on}
use Rattle.share_server.proofs.serving.answer.Goals as goal

pub returns-in-Ok-clause-exec : goal.returns-in-Ok-clause-exec
returns-in-Ok-clause-exec g c p told serving =
    let old = c.args.store.now in let number = old.header.cloud.0 in let d = c.in-Ok.ensures in
    let mid = c.ensure_open.new.store in let at = g.V.Shelf.cloud_at in
    let between = c.ensure_open.new.shelf in let after = c.serve.new.shelf in let new = c.serve.new.store in let r = request_of c.args.asked.now in let content = c.serve.new.reply in
    let q = d.peer p told serving in
    opened_executes old mid new (at between number) (at after number) p q.0 r content d.header q.2.0 q.2.1 q.2.2
    (subst (λ (h : Header). (x : Peer) → ServesAs mid (at between h.cloud.0) x → HasDoneRequest mid new (at after h.cloud.0) x r content) d.header c.serve.ensures.does q.0 q.1)

pub returns-in-Ok-clause-images : goal.returns-in-Ok-clause-images
returns-in-Ok-clause-images g c p told serving =
    let old = c.args.store.now in let number = old.header.cloud.0 in let d = c.in-Ok.ensures in
    let mid = c.ensure_open.new.store in let at = g.V.Shelf.cloud_at in
    let between = c.ensure_open.new.shelf in let after = c.serve.new.shelf in let r = request_of c.args.asked.now in
    let q = d.peer p told serving in
    opened_images old mid c.serve.new.store (at between number) (at after number) p q.0 r c.serve.new.reply d.header q.2.0 (at c.args.shelf.now number) (d.images p told serving)
    (subst (λ (h : Header). (x : Peer) → ServesAs mid (at between h.cloud.0) x → ImagesSince (at between h.cloud.0) (at after h.cloud.0) mid.header (MayBecome (serves mid) x r)) d.header c.serve.ensures.images q.0 q.1)

pub returns-in-Err-clause-exec : goal.returns-in-Err-clause-exec
returns-in-Err-clause-exec g c p told serving =
    let old = c.args.store.now in let number = old.header.cloud.0 in let d = c.in-Err.ensures in
    let at = g.V.Shelf.cloud_at in
    let q = d.peer p told serving in
    refused_executes c.in-Err.error old c.ensure_open.new.store (at c.args.shelf.now number) (at c.ensure_open.new.shelf number) p q.0 (request_of c.args.asked.now) c.put_refusal.new.reply serving
    d.call.later q.1 q.2 c.put_refusal.ensures

pub returns-in-Err-clause-images : goal.returns-in-Err-clause-images
returns-in-Err-clause-images g c p told serving =
    let old = c.args.store.now in let number = old.header.cloud.0 in
    let at = g.V.Shelf.cloud_at in
    shut_images (at c.args.shelf.now number) (at c.ensure_open.new.shelf number) old.header (serves old) p (request_of c.args.asked.now) (c.in-Err.ensures.images p told serving)

pub returns-in-Err-clause-answered : goal.returns-in-Err-clause-answered
returns-in-Err-clause-answered g c =
    let old = c.args.store.now in let number = old.header.cloud.0 in let d = c.in-Err.ensures in
    let at = g.V.Shelf.cloud_at in
    refused_answered old.header.shape (request_of c.args.asked.now) c.in-Err.error c.ensure_open.new.store (at c.args.shelf.now number) (at c.ensure_open.new.shelf number)
    (g.V.Shelf.faults c.args.shelf.now) (g.V.Shelf.faults c.ensure_open.new.shelf) c.put_refusal.new.reply d.error.0 d.shut d.counts c.put_refusal.ensures

pub returns-in-Ok-clause-answered : goal.returns-in-Ok-clause-answered
returns-in-Ok-clause-answered g c =
    let old = c.args.store.now in let number = old.header.cloud.0 in let d = c.in-Ok.ensures in
    let at = g.V.Shelf.cloud_at in let faults = g.V.Shelf.faults in
    let between = c.ensure_open.new.shelf in let after = c.serve.new.shelf in let new = c.serve.new.store in let r = request_of c.args.asked.now in
    answered_behind old.header.shape r new (at c.args.shelf.now number) (at between number) (at after number) (faults c.args.shelf.now) (faults between) (faults after) c.serve.new.reply d.counts
    (subst (λ (h : Header). IsAnsweredContent h.shape r new (at between h.cloud.0) (at after h.cloud.0) (faults between) (faults after) c.serve.new.reply) d.header c.serve.ensures.answered)

pub returns-in-Ok-clause-found : goal.returns-in-Ok-clause-found
returns-in-Ok-clause-found g c named found rotten =
    let after = c.serve.new.shelf in let new = c.serve.new.store in let r = request_of c.args.asked.now in
    subst (λ (h : Header). IsFound (g.V.Shelf.cloud_at after h.cloud.0) (memory_of new.memory) r named found) c.in-Ok.ensures.header (c.serve.ensures.found named found rotten)

pub returns-in-Err-clause-found : goal.returns-in-Err-clause-found
returns-in-Err-clause-found g c named found rotten = absurd (not_rotten c.in-Err.error c.put_refusal.new.reply named found c.put_refusal.ensures rotten)

pub returns-in-Ok-clause-rotten : goal.returns-in-Ok-clause-rotten
returns-in-Ok-clause-rotten g c named found is_open rotten =
    let alone = c.in-Ok.ensures.alone is_open in
    let old = c.args.store.now in let at = g.V.Shelf.cloud_at in let r = request_of c.args.asked.now in
    let P : CloudStore → (ℕ → Cloud) → Type 0 = λ s k. IsFound (k s.header.cloud.0) (memory_of s.memory) r named found in
    subst (P old) (ap at alone.2) (subst (λ (s : CloudStore). P s (at c.ensure_open.new.shelf)) alone.1 (c.serve.ensures.rotten named found rotten))

pub returns-in-Ok-clause-untouched : goal.returns-in-Ok-clause-untouched
returns-in-Ok-clause-untouched g c answer is_open leaves is =
    let alone = c.in-Ok.ensures.alone is_open in
    let u = c.serve.ensures.untouched answer leaves is in
    (u.0 ∙ alone.2, u.1 ∙ alone.1)

pub returns-in-Ok-clause-no_call : goal.returns-in-Ok-clause-no_call
returns-in-Ok-clause-no_call g c is_open by_memory =
    let alone = c.in-Ok.ensures.alone is_open in
    let u = c.serve.ensures.no_call by_memory in
    (u.0 ∙ alone.2, u.1 ∙ alone.1)

pub returns-in-Ok-clause-stays : goal.returns-in-Ok-clause-stays
returns-in-Ok-clause-stays g c list is_open serving none =
    let alone = c.in-Ok.ensures.alone is_open in
    let old = c.args.store.now in let at = g.V.Shelf.cloud_at in let new = c.serve.new.store in let after = c.serve.new.shelf in let r = request_of c.args.asked.now in
    let Q : CloudStore → (ℕ → Cloud) → Type 0 = λ s k. ServesSome list s (k s.header.cloud.0) → (serves s list r).adds ≡ None
    → Stays (k s.header.cloud.0) (at after s.header.cloud.0) × (new.memory ≡ s.memory) in
    subst (Q old) (ap at alone.2) (subst (λ (s : CloudStore). Q s (at c.ensure_open.new.shelf)) alone.1 (c.serve.ensures.stays list)) serving none

pub returns-in-Ok-clause-behind : goal.returns-in-Ok-clause-behind
returns-in-Ok-clause-behind g c is_open =
    let alone = c.in-Ok.ensures.alone is_open in
    let old = c.args.store.now in let at = g.V.Shelf.cloud_at in let new = c.serve.new.store in let after = c.serve.new.shelf in let r = request_of c.args.asked.now in
    let Q : CloudStore → (ℕ → Cloud) → Type 0 = λ s k. ChangesBehind s new (k s.header.cloud.0) (at after s.header.cloud.0) r in
    subst (Q old) (ap at alone.2) (subst (λ (s : CloudStore). Q s (at c.ensure_open.new.shelf)) alone.1 c.serve.ensures.behind)

pub returns-in-Ok-clause-grown : goal.returns-in-Ok-clause-grown
returns-in-Ok-clause-grown g c is_open =
    let alone = c.in-Ok.ensures.alone is_open in
    let old = c.args.store.now in let at = g.V.Shelf.cloud_at in let new = c.serve.new.store in let after = c.serve.new.shelf in let r = request_of c.args.asked.now in
    let Q : CloudStore → (ℕ → Cloud) → Type 0 = λ s k. GrowsOn s new (k s.header.cloud.0) (at after s.header.cloud.0) r c.serve.new.reply in
    subst (Q old) (ap at alone.2) (subst (λ (s : CloudStore). Q s (at c.ensure_open.new.shelf)) alone.1 c.serve.ensures.grown)

pub returns-in-Ok-clause-enters : goal.returns-in-Ok-clause-enters
returns-in-Ok-clause-enters g c is_open =
    let alone = c.in-Ok.ensures.alone is_open in
    subst (λ (s : CloudStore). EntersBy s c.serve.new.store (request_of c.args.asked.now) c.serve.new.reply) alone.1 c.serve.ensures.enters

pub returns-in-Ok-clause-closed : goal.returns-in-Ok-clause-closed
returns-in-Ok-clause-closed g c told shut = (let h = c.in-Ok.ensures.opened told shut in inl (h.commands, (memory_of c.ensure_open.new.store.memory, h.exact)))

pub returns-in-Ok-clause-first : goal.returns-in-Ok-clause-first
returns-in-Ok-clause-first g c told shut =
    let old = c.args.store.now in let number = old.header.cloud.0 in let d = c.in-Ok.ensures in
    let mid = c.ensure_open.new.store in let at = g.V.Shelf.cloud_at in
    let between = c.ensure_open.new.shelf in let after = c.serve.new.shelf in let new = c.serve.new.store in let r = request_of c.args.asked.now in
    let h = d.opened told shut in
    inl (record {
      opened = mid;
      between = at between number;
      commands = h.commands;
      header = d.header;
      at_end = d.«open»;
      exact = h.exact;
      spares = h.spares;
      w = h.w;
      ended = h.ended;
      grown = subst (λ (x : Header). GrowsOn mid new (at between x.cloud.0) (at after x.cloud.0) r c.serve.new.reply) d.header c.serve.ensures.grown
          (told_on (at c.args.shelf.now number) (at between number) d.call.told told) h.w h.ended;
      changes = subst (λ (x : Header). ChangesBehind mid new (at between x.cloud.0) (at after x.cloud.0) r) d.header c.serve.ensures.behind;
      enters = c.serve.ensures.enters;
      rotten_leaves = subst (λ (x : Header). RottenLeaves mid new (at between x.cloud.0) (at after x.cloud.0) c.serve.new.reply) d.header c.serve.ensures.rotten_leaves;
    })

pub returns-in-Err-clause-refusals : goal.returns-in-Err-clause-refusals
returns-in-Err-clause-refusals g c = inr (inr (record { error = c.in-Err.error; unopened = c.in-Err.ensures.error.1; refuses = c.put_refusal.ensures }))

pub returns-in-Err-clause-closed : goal.returns-in-Err-clause-closed
returns-in-Err-clause-closed g c told shut = inr (record { error = c.in-Err.error; unopened = c.in-Err.ensures.error.1; refuses = c.put_refusal.ensures })

pub returns-in-Err-clause-first : goal.returns-in-Err-clause-first
returns-in-Err-clause-first g c told shut = inr (record { error = c.in-Err.error; unopened = c.in-Err.ensures.error.1; refuses = c.put_refusal.ensures })

pub returns-in-Ok-clause-rotten_leaves : goal.returns-in-Ok-clause-rotten_leaves
returns-in-Ok-clause-rotten_leaves g c is_open =
    let alone = c.in-Ok.ensures.alone is_open in
    let old = c.args.store.now in let at = g.V.Shelf.cloud_at in let new = c.serve.new.store in let after = c.serve.new.shelf in
    let Q : CloudStore → (ℕ → Cloud) → Type 0 = λ s k. RottenLeaves s new (k s.header.cloud.0) (at after s.header.cloud.0) c.serve.new.reply in
    subst (Q old) (ap at alone.2) (subst (λ (s : CloudStore). Q s (at c.ensure_open.new.shelf)) alone.1 c.serve.ensures.rotten_leaves)

pub returns-in-Err-clause-rotten_leaves : goal.returns-in-Err-clause-rotten_leaves
returns-in-Err-clause-rotten_leaves g c is_open named found rotten =
    absurd (not_rotten c.in-Err.error c.put_refusal.new.reply named found c.put_refusal.ensures rotten)

pub returns-in-Err-clause-hashed : goal.returns-in-Err-clause-hashed
returns-in-Err-clause-hashed g c answer is =
    refused_hashed (memory_of c.ensure_open.new.store.memory) (request_of c.args.asked.now) c.in-Err.error c.put_refusal.new.reply answer c.put_refusal.ensures is

pub returns-in-Ok-clause-damaged : goal.returns-in-Ok-clause-damaged
returns-in-Ok-clause-damaged g c at byte damaged = absurd (c.serve.ensures.undamaged at byte damaged)

pub returns-in-Err-clause-damaged : goal.returns-in-Err-clause-damaged
returns-in-Err-clause-damaged g c at byte damaged = c.in-Err.ensures.shut
