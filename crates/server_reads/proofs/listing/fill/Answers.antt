use Rattle.std.proofs.Common.{◌≡◌, ℕ, ◌<◌, List, Some, length, take, sym, ap, ◌∙◌, subst, arith, length-take}
use Rattle.std.proofs.lemmas.List.{take_more_set}
use Rattle.cloud_memory.specs.CdBase.ids.Tag.{Tag}
use Rattle.cloud_memory.specs.CdBase.ids.Version.{Version}
use Rattle.messages.specs.MessageFields.Keys.{AreKeys}
use Rattle.cloud_memory.specs.Rooms.{memory_of}
use Rattle.server_reads.proofs.Keys.{Risen, none_risen, risen_more, risen_keys, risen_end, risen_full}
use Rattle.server_reads.proofs.listing.fill.Goals as goal

pub loop-i-init : goal.loop-i-init
loop-i-init c = none_risen (memory_of c.args.memory.now) c.args.user c.args.after

pub loop-i-preserved : goal.loop-i-preserved
loop-i-preserved c =
    let key = c.in-Some.key in
    let within : c.loop-i.i < length c.loop-i.keys = omega arith in
    subst (λ (l : List (Tag × Version)). Risen (memory_of c.args.memory.now) c.args.user c.args.after (Some key) l) (sym (take_more_set c.loop-i.keys c.loop-i.i key within))
    (risen_more (memory_of c.args.memory.now) c.args.user c.args.after c.loop-i.last (take c.loop-i.i c.loop-i.keys) key c.loop-i.invariant
    (λ shape list is. sym c.in-Some.is ∙ c.next_key.ensures.value shape list is) c.in-Some.ensures.above c.in-Some.ensures.range)

pub returns-in-None-clause-rising : goal.returns-in-None-clause-rising
returns-in-None-clause-rising c = risen_keys (memory_of c.args.memory.now) c.args.user c.args.after c.loop-i.last (take c.loop-i.i c.loop-i.keys) c.loop-i.invariant

pub returns-in-None-clause-value : goal.returns-in-None-clause-value
returns-in-None-clause-value c =
    risen_end (memory_of c.args.memory.now) c.args.user c.args.after c.loop-i.last (take c.loop-i.i c.loop-i.keys) (length c.args.keys.now) c.loop-i.invariant
    (λ shape list is. sym c.in-None.is ∙ c.next_key.ensures.value shape list is) (omega (arith, length-take c.loop-i.i c.loop-i.keys))

pub returns-clause-rising : goal.returns-clause-rising
returns-clause-rising c =
    let same : c.loop-i.i ≡ length c.loop-i.keys = omega arith in
    subst (λ (n : ℕ). AreKeys c.args.after (take n c.loop-i.keys)) same
    (risen_keys (memory_of c.args.memory.now) c.args.user c.args.after c.loop-i.last (take c.loop-i.i c.loop-i.keys) c.loop-i.invariant)

pub returns-clause-value : goal.returns-clause-value
returns-clause-value c = λ shape list is.
    let same : c.loop-i.i ≡ length c.loop-i.keys = omega arith in
    ap (λ (n : ℕ). take n c.loop-i.keys) (sym same)
    ∙ risen_full (memory_of c.args.memory.now) c.args.user c.args.after c.loop-i.last (take c.loop-i.i c.loop-i.keys) (length c.args.keys.now) c.loop-i.invariant
    (omega (arith, length-take c.loop-i.i c.loop-i.keys)) shape list is
