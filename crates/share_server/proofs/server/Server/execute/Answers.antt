use Rattle.std.proofs.Common.{◌≡◌, ◌⊎◌, ℕ, Ok, Result, sym, ◌∙◌, subst}
use Rattle.server_requests.specs.Messages.request.Request.{Request}
use Rattle.server_requests.specs.Asking.{request_of}
use Rattle.server_requests.specs.Hashed.{IsHashed}
use Rattle.blob_copy.specs.CloudOpening.CloudMemory.Rooms.{memory_of}
use Rattle.share_server.specs.Serving.{ExecutesAs, ChangesBehind, EntersBy, GrowsOn, OpensFirst, IsUnopenedReply}
use Rattle.share_server.proofs.server.Server.execute.Goals as goal

asks : Request → Result Request ℕ
asks r = Ok r

same_asked : (a b : Request) → asks a ≡ asks b → a ≡ b
unfolding asks
same_asked a b e = cc

pub returns-in-Ok-clause-exec : goal.returns-in-Ok-clause-exec
unfolding asks
returns-in-Ok-clause-exec g c p r told serving asked =
    let old = c.args.self.now.store in let after = g.V.Shelf.cloud_at c.answer.new.shelf old.header.cloud.0 in
    subst (λ (x : Request). ExecutesAs old c.answer.new.store after p x c.answer.new.reply) (same_asked (request_of c.in-Ok.asked) r (sym c.in-Ok.ensures.reads ∙ asked)) (c.answer.ensures.exec p told serving)

pub returns-in-Ok-clause-behind : goal.returns-in-Ok-clause-behind
unfolding asks
returns-in-Ok-clause-behind g c r opened asked =
    let old = c.args.self.now.store in let at = g.V.Shelf.cloud_at in let number = old.header.cloud.0 in
    subst (λ (x : Request). ChangesBehind old c.answer.new.store (at c.args.shelf.now number) (at c.answer.new.shelf number) x) (same_asked (request_of c.in-Ok.asked) r (sym c.in-Ok.ensures.reads ∙ asked))
    (c.answer.ensures.behind opened)

pub returns-in-Ok-clause-grown : goal.returns-in-Ok-clause-grown
unfolding asks
returns-in-Ok-clause-grown g c r opened asked =
    let old = c.args.self.now.store in let at = g.V.Shelf.cloud_at in let number = old.header.cloud.0 in
    subst (λ (x : Request). GrowsOn old c.answer.new.store (at c.args.shelf.now number) (at c.answer.new.shelf number) x c.answer.new.reply) (same_asked (request_of c.in-Ok.asked) r (sym c.in-Ok.ensures.reads ∙ asked))
    (c.answer.ensures.grown opened)

pub returns-in-Ok-clause-closed : goal.returns-in-Ok-clause-closed
returns-in-Ok-clause-closed g c r told shut asked = c.answer.ensures.closed told shut

pub returns-in-Ok-clause-first : goal.returns-in-Ok-clause-first
unfolding asks
returns-in-Ok-clause-first g c r told shut asked =
    let old = c.args.self.now.store in let at = g.V.Shelf.cloud_at in let number = old.header.cloud.0 in let before = at c.args.shelf.now number in let after = at c.answer.new.shelf number in
    subst (λ (x : Request). OpensFirst old c.answer.new.store before after x c.answer.new.reply ⊎ IsUnopenedReply old before after c.answer.new.reply) (same_asked (request_of c.in-Ok.asked) r (sym c.in-Ok.ensures.reads ∙ asked))
    (c.answer.ensures.first told shut)

pub returns-in-Ok-clause-enters : goal.returns-in-Ok-clause-enters
unfolding asks
returns-in-Ok-clause-enters g c r opened asked =
    let old = c.args.self.now.store in
    subst (λ (x : Request). EntersBy old c.answer.new.store x c.answer.new.reply) (same_asked (request_of c.in-Ok.asked) r (sym c.in-Ok.ensures.reads ∙ asked)) (c.answer.ensures.enters opened)

pub returns-in-Ok-clause-rotten_leaves : goal.returns-in-Ok-clause-rotten_leaves
returns-in-Ok-clause-rotten_leaves g c r opened asked = c.answer.ensures.rotten_leaves opened

pub returns-in-Ok-clause-hashed : goal.returns-in-Ok-clause-hashed
unfolding asks
returns-in-Ok-clause-hashed g c r answer asked is =
    subst (λ (x : Request). IsHashed (memory_of c.answer.new.store.memory) x answer) (same_asked (request_of c.in-Ok.asked) r (sym c.in-Ok.ensures.reads ∙ asked)) (c.answer.ensures.hashed answer is)

pub returns-in-Ok-clause-damaged : goal.returns-in-Ok-clause-damaged
returns-in-Ok-clause-damaged g c r at byte asked damaged = c.answer.ensures.damaged at byte damaged
