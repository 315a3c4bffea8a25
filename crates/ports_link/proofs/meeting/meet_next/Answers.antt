use Rattle.std.proofs.Common.{◌≡◌, ◌∷◌, [], ℕ, List, Err, subst, sym, ◌∙◌}
use Rattle.transcript.specs.CdEdges.Ports.{Telling}
use Rattle.ports_link.specs.declared.meeting.MeetErr.TheVariants as errors
use Rattle.ports_link.specs.Greetings.{IsGreetingRefused}
use Rattle.ports_link.specs.Meeting.{Meets, Refuses, Loses, Undials}
use Rattle.ports_link.specs.Hellos.{hello}
use Rattle.ports_link.specs.Sending.{SendsOnly}
use Rattle.ports_link.proofs.Sending.{sends_none, sends_opened, sends_twice}
use Rattle.ports_link.proofs.meeting.meet_next.Goals as goal

pub returns-in-Err-clause-meets : goal.returns-in-Err-clause-meets
returns-in-Err-clause-meets g c =
    let t = g.P.Ports.tells c.args.ports.now in
    let before = c.args.before.now in (
      [],
      subst (λ (u : Telling). Meets c.args.asked c.args.count before t [] (Err errors.Undialled) u)
          (sym c.in-Err.ensures.failed) (Undials before t c.requires.some),
    )

pub returns-in-Err-ask_hello-clause-meets : goal.returns-in-Err-ask_hello-clause-meets
returns-in-Err-ask_hello-clause-meets g c =
    let t = g.P.Ports.tells c.args.ports.now in
    let u = g.P.Ports.tells c.ask_hello.new.ports in (
      c.in-Ok.port ∷ [],
      Loses c.args.before.now t u c.in-Ok.port (record {
        some = c.requires.some;
        opened = g.P.Ports.tells c.dial.new.self;
        opens = c.in-Ok.ensures.opens;
        others = λ told. c.in-Err-ask_hello.ensures.others (rw c.in-Ok.ensures.told told);
        none = λ told. c.in-Err-ask_hello.ensures.opened (rw c.in-Ok.ensures.told told);
        told = c.in-Err-ask_hello.ensures.told ∙ c.in-Ok.ensures.told;
      }),
    )

pub returns-in-Err-judge-clause-meets : goal.returns-in-Err-judge-clause-meets
returns-in-Err-judge-clause-meets g c =
    let t = g.P.Ports.tells c.args.ports.now in
    let u = g.P.Ports.tells c.ask_hello.new.ports in
    let before = c.args.before.now in
    let why = c.in-Err-judge.why in (
      c.in-Ok.port ∷ [],
      Refuses before t u c.in-Ok.port why (record {
        some = c.requires.some;
        opened = g.P.Ports.tells c.dial.new.self;
        opens = c.in-Ok.ensures.opens;
        content = c.ask_hello.new.reply;
        hears = λ told. c.in-Ok-ask_hello.ensures.hears (rw c.in-Ok.ensures.told told);
        told = c.in-Ok-ask_hello.ensures.told ∙ c.in-Ok.ensures.told;
        refused = subst (λ (l : List ℕ). IsGreetingRefused c.args.asked c.args.count before l why) c.content.ensures.value
            c.in-Err-judge.ensures.refused;
      }),
    )

pub returns-in-Err-clause-sends : goal.returns-in-Err-clause-sends
returns-in-Err-clause-sends g c = λ told.
    let t = g.P.Ports.tells c.args.ports.now in
    subst (λ (u : Telling). SendsOnly (λ content. content ≡ hello) t u) (sym c.in-Err.ensures.failed) (sends_none (λ content. content ≡ hello) t)

pub returns-in-Err-ask_hello-clause-sends : goal.returns-in-Err-ask_hello-clause-sends
returns-in-Err-ask_hello-clause-sends g c = λ told.
    sends_twice (λ content. content ≡ hello) (g.P.Ports.tells c.args.ports.now) (g.P.Ports.tells c.dial.new.self) (g.P.Ports.tells c.ask_hello.new.ports)
    (sends_opened (λ content. content ≡ hello) (g.P.Ports.tells c.args.ports.now) (g.P.Ports.tells c.dial.new.self) c.in-Ok.port (c.in-Ok.ensures.opens told))
    (c.ask_hello.ensures.sends (rw c.in-Ok.ensures.told told))

pub returns-in-Ok-judge-clause-sends : goal.returns-in-Ok-judge-clause-sends
returns-in-Ok-judge-clause-sends g c = λ told.
    sends_twice (λ content. content ≡ hello) (g.P.Ports.tells c.args.ports.now) (g.P.Ports.tells c.dial.new.self) (g.P.Ports.tells c.ask_hello.new.ports)
    (sends_opened (λ content. content ≡ hello) (g.P.Ports.tells c.args.ports.now) (g.P.Ports.tells c.dial.new.self) c.in-Ok.port (c.in-Ok.ensures.opens told))
    (c.ask_hello.ensures.sends (rw c.in-Ok.ensures.told told))

pub returns-in-Err-judge-clause-sends : goal.returns-in-Err-judge-clause-sends
returns-in-Err-judge-clause-sends g c = λ told.
    sends_twice (λ content. content ≡ hello) (g.P.Ports.tells c.args.ports.now) (g.P.Ports.tells c.dial.new.self) (g.P.Ports.tells c.ask_hello.new.ports)
    (sends_opened (λ content. content ≡ hello) (g.P.Ports.tells c.args.ports.now) (g.P.Ports.tells c.dial.new.self) c.in-Ok.port (c.in-Ok.ensures.opens told))
    (c.ask_hello.ensures.sends (rw c.in-Ok.ensures.told told))
