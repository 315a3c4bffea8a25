use Rattle.std.proofs.Common.{◌≡◌, ◌++◌, ◌∷◌, [], ℕ, List, Ok, Err, length, refl, subst, sym, ◌∙◌, ap, arith, append-nil}
use Rattle.std.proofs.lemmas.List.{length_push}
use Rattle.ports_link.specs.declared.judging.Greeting.{Greeting}
use Rattle.ports_link.specs.declared.meeting.MeetErr.TheVariants as errors
use Rattle.ports_link.specs.Meeting.{IsMet, Meets, Through}
use Rattle.ports_link.proofs.Chains.{Follows, follows_none, follows_on, lacks_behind}
use Rattle.ports_link.specs.Hellos.{hello}
use Rattle.ports_link.proofs.Sending.{sends_none, sends_twice}
use Rattle.ports_link.proofs.meeting.meet_each.Goals as goal

pub returns-in_default-clause-meets : goal.returns-in_default-clause-meets
returns-in_default-clause-meets g c =
    let t0 = g.P.Ports.tells c.args.ports.now in
    let t = g.P.Ports.tells c.addresses.ports in
    let items = c.addresses.greetings.items in
    let done = c.addresses.dialled.items in
    let n = length c.args.addresses.now in
    let all : length items ≡ n = omega (arith, c.addresses.invariant.long, ap length c.in_default.ensures) in
    subst (λ (l : List ℕ). Meets c.args.asked n [] t0 l (Ok items) t) (append-nil done)
    (c.addresses.invariant.follows (Ok items) [] t (Through items t all))

pub returns-in-Err-push-clause-meets : goal.returns-in-Err-push-clause-meets
returns-in-Err-push-clause-meets g c =
    let t = g.P.Ports.tells c.addresses.ports in
    let u = g.P.Ports.tells c.meet_next.new.ports in
    let items = c.addresses.greetings.items in
    let n = length c.args.addresses.now in
    let port = c.in-Ok.met.0 in
    let met : IsMet c.args.asked n items t port c.in-Ok.met.1 u =
    subst (λ (l : List Greeting). IsMet c.args.asked n l t port c.in-Ok.met.1 u) c.as_slice.ensures.value
    c.in-Ok.ensures.meets in (
      c.addresses.dialled.items ++ port ∷ [],
      c.addresses.invariant.follows (Err errors.NoMemory) (port ∷ []) u
          (lacks_behind c.args.asked n items t u port c.in-Ok.met.1 met),
    )

pub returns-in-Err-push-2-clause-meets : goal.returns-in-Err-push-2-clause-meets
returns-in-Err-push-2-clause-meets g c =
    let t = g.P.Ports.tells c.addresses.ports in
    let u = g.P.Ports.tells c.meet_next.new.ports in
    let items = c.addresses.greetings.items in
    let n = length c.args.addresses.now in
    let port = c.in-Ok.met.0 in
    let met : IsMet c.args.asked n items t port c.in-Ok.met.1 u =
    subst (λ (l : List Greeting). IsMet c.args.asked n l t port c.in-Ok.met.1 u) c.as_slice.ensures.value
    c.in-Ok.ensures.meets in (
      c.addresses.dialled.items ++ port ∷ [],
      c.addresses.invariant.follows (Err errors.NoMemory) (port ∷ []) u
          (lacks_behind c.args.asked n items t u port c.in-Ok.met.1 met),
    )

pub addresses-preserved : goal.addresses-preserved
addresses-preserved g c =
    let t0 = g.P.Ports.tells c.args.ports.now in
    let t = g.P.Ports.tells c.addresses.ports in
    let u = g.P.Ports.tells c.meet_next.new.ports in
    let items = c.addresses.greetings.items in
    let done = c.addresses.dialled.items in
    let n = length c.args.addresses.now in
    let port = c.in-Ok.met.0 in
    let greeting = c.in-Ok.met.1 in
    let replies : c.push.new.self.items ≡ items ++ greeting ∷ [] = c.in-Ok-push.ensures.items in
    let dialled : c.push-in-addresses.new.self.items ≡ done ++ port ∷ [] = c.in-Ok-push-2.ensures.items in
    let met : IsMet c.args.asked n items t port greeting u =
    subst (λ (l : List Greeting). IsMet c.args.asked n l t port greeting u) c.as_slice.ensures.value
    c.in-Ok.ensures.meets in
    record {
      long = omega (
        arith,
        c.addresses.invariant.long,
        c.in-Some.ensures,
        ap length replies,
        length_push items greeting,
      );
      follows = subst (λ (l : List ℕ). Follows c.args.asked n t0 l c.push.new.self.items u) (sym dialled)
          (subst (λ (l : List Greeting). Follows c.args.asked n t0 (done ++ port ∷ []) l u) (sym replies)
          (follows_on c.args.asked n t0 done items t u port greeting c.addresses.invariant.follows met));
      sends = λ told. sends_twice (λ content. content ≡ hello) t0 t u (c.addresses.invariant.sends told) (c.meet_next.ensures.sends (rw c.addresses.invariant.told told));
      told = c.in-Ok.ensures.told ∙ c.addresses.invariant.told;
      still = c.in-Ok.ensures.cause ∙ c.addresses.invariant.still;
    }

pub returns-in-Err-clause-sends : goal.returns-in-Err-clause-sends
returns-in-Err-clause-sends g c = λ told.
    sends_twice (λ content. content ≡ hello) (g.P.Ports.tells c.args.ports.now) (g.P.Ports.tells c.addresses.ports) (g.P.Ports.tells c.meet_next.new.ports)
    (c.addresses.invariant.sends told) (c.meet_next.ensures.sends (rw c.addresses.invariant.told told))

pub returns-in-Err-push-clause-sends : goal.returns-in-Err-push-clause-sends
returns-in-Err-push-clause-sends g c = λ told.
    sends_twice (λ content. content ≡ hello) (g.P.Ports.tells c.args.ports.now) (g.P.Ports.tells c.addresses.ports) (g.P.Ports.tells c.meet_next.new.ports)
    (c.addresses.invariant.sends told) (c.meet_next.ensures.sends (rw c.addresses.invariant.told told))

pub returns-in-Err-push-2-clause-sends : goal.returns-in-Err-push-2-clause-sends
returns-in-Err-push-2-clause-sends g c = λ told.
    sends_twice (λ content. content ≡ hello) (g.P.Ports.tells c.args.ports.now) (g.P.Ports.tells c.addresses.ports) (g.P.Ports.tells c.meet_next.new.ports)
    (c.addresses.invariant.sends told) (c.meet_next.ensures.sends (rw c.addresses.invariant.told told))

pub addresses-init : goal.addresses-init
addresses-init g c =
    let n = length c.args.addresses.now in
    let t0 = g.P.Ports.tells c.args.ports.now in
    record {
      long = omega (arith, ap length c.new-greetings.ensures.items);
      follows = subst (λ (l : List ℕ). Follows c.args.asked n t0 l c.new-greetings.result.items t0) (sym c.new-dialled.ensures.items)
          (subst (λ (l : List Greeting). Follows c.args.asked n t0 [] l t0) (sym c.new-greetings.ensures.items) (follows_none c.args.asked n t0));
      sends = λ told. sends_none (λ content. content ≡ hello) t0;
      told = refl;
      still = refl;
    }
