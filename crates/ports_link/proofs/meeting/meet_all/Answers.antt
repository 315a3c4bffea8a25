use Rattle.std.proofs.Common.{[], ℕ, List, Ok, Err, length, subst, sym, ◌∙◌, ap}
use Rattle.ports_link.specs.declared.judging.Greeting.{Greeting}
use Rattle.ports_link.specs.Dialled.{AreDialled}
use Rattle.ports_link.specs.Greetings.{AreAsAsked}
use Rattle.ports_link.specs.Hellos.{AreGreeted}
use Rattle.ports_link.specs.Meeting.{Lacks}
use Rattle.ports_link.proofs.Chains.{are_dialled, said_hello, told_stays}
use Rattle.ports_link.proofs.CloudLists.{through, are_reached, have_talks}
use Rattle.ports_link.proofs.Opening.{next_apart}
use Rattle.ports_link.proofs.meeting.meet_all.Goals as goal

pub returns-in-Err-clause-others : goal.returns-in-Err-clause-others
returns-in-Err-clause-others g c = λ told. (
  c.in-Err.ensures.meets.0,
  are_dialled c.args.asked (length c.args.addresses.now) [] (g.P.Ports.tells c.args.ports.now)
      (g.P.Ports.tells c.meet_each.new.ports) c.in-Err.ensures.meets.0 (Err c.in-Err.e) c.in-Err.ensures.meets.1
      told,
)

pub together-requires-clause-long : goal.together-requires-clause-long
together-requires-clause-long g c =
    let whole = through c.args.asked (length c.args.addresses.now) (g.P.Ports.tells c.args.ports.now)
    (g.P.Ports.tells c.meet_each.new.ports) c.in-Ok.replies.dialled.items c.in-Ok.replies.greetings.items
    c.in-Ok.ensures.meets in
    ap length c.as_slice.ensures.value ∙ whole.long ∙ sym (ap length c.as_slice-2.ensures.value)

pub together-requires-clause-asked : goal.together-requires-clause-asked
together-requires-clause-asked g c =
    let whole = through c.args.asked (length c.args.addresses.now) (g.P.Ports.tells c.args.ports.now)
    (g.P.Ports.tells c.meet_each.new.ports) c.in-Ok.replies.dialled.items c.in-Ok.replies.greetings.items
    c.in-Ok.ensures.meets in
    subst (λ (l : List ℕ). AreAsAsked c.args.asked (length l) [] c.as_slice.result.now)
    (sym c.as_slice-2.ensures.value)
    (subst (λ (l : List Greeting). AreAsAsked c.args.asked (length c.in-Ok.replies.dialled.items) [] l)
    (sym c.as_slice.ensures.value) whole.as_asked)

pub returns-in-Ok-together-clause-talks : goal.returns-in-Ok-together-clause-talks
returns-in-Ok-together-clause-talks g c = λ told.
    let t = g.P.Ports.tells c.args.ports.now in
    let u = g.P.Ports.tells c.meet_each.new.ports in
    let n = length c.args.addresses.now in
    let ports = c.in-Ok.replies.dialled.items in
    let items = c.in-Ok.replies.greetings.items in
    let meets = c.in-Ok.ensures.meets in
    let whole = through c.args.asked n t u ports items meets in
    let are : AreGreeted c.args.asked ports items c.in-Ok-together.greeted =
    subst (λ (l : List ℕ). AreGreeted c.args.asked l items c.in-Ok-together.greeted) c.as_slice-2.ensures.value
    (subst (λ (l : List Greeting). AreGreeted c.args.asked c.as_slice-2.result.now l c.in-Ok-together.greeted)
    c.as_slice.ensures.value c.in-Ok-together.ensures) in
    have_talks c.args.asked ports items c.in-Ok-together.greeted u whole.long whole.as_asked are
    (rw (told_stays c.args.asked n [] t u ports (Ok items) meets) told)
    (next_apart t.opened ports (are_dialled c.args.asked n [] t u ports (Ok items) meets told).next)
    (said_hello c.args.asked n [] t u ports (Ok items) meets told)

pub returns-in-Ok-together-clause-reaches : goal.returns-in-Ok-together-clause-reaches
returns-in-Ok-together-clause-reaches g c =
    let t = g.P.Ports.tells c.args.ports.now in
    let u = g.P.Ports.tells c.meet_each.new.ports in
    let n = length c.args.addresses.now in
    let ports = c.in-Ok.replies.dialled.items in
    let items = c.in-Ok.replies.greetings.items in
    let whole = through c.args.asked n t u ports items c.in-Ok.ensures.meets in
    let are : AreGreeted c.args.asked ports items c.in-Ok-together.greeted =
    subst (λ (l : List ℕ). AreGreeted c.args.asked l items c.in-Ok-together.greeted) c.as_slice-2.ensures.value
    (subst (λ (l : List Greeting). AreGreeted c.args.asked c.as_slice-2.result.now l c.in-Ok-together.greeted)
    c.as_slice.ensures.value c.in-Ok-together.ensures) in
    are_reached c.args.asked ports items c.in-Ok-together.greeted whole.long whole.as_asked are

pub returns-in-Ok-together-clause-dialled : goal.returns-in-Ok-together-clause-dialled
returns-in-Ok-together-clause-dialled g c = λ told.
    let t = g.P.Ports.tells c.args.ports.now in
    let u = g.P.Ports.tells c.meet_each.new.ports in
    let ports = c.in-Ok.replies.dialled.items in
    let items = c.in-Ok.replies.greetings.items in
    let are : AreGreeted c.args.asked ports items c.in-Ok-together.greeted =
    subst (λ (l : List ℕ). AreGreeted c.args.asked l items c.in-Ok-together.greeted) c.as_slice-2.ensures.value
    (subst (λ (l : List Greeting). AreGreeted c.args.asked c.as_slice-2.result.now l c.in-Ok-together.greeted)
    c.as_slice.ensures.value c.in-Ok-together.ensures) in
    subst (λ (l : List ℕ). AreDialled t u l) (sym are.ports)
    (are_dialled c.args.asked (length c.args.addresses.now) [] t u ports (Ok items) c.in-Ok.ensures.meets told)

pub returns-clause-meets : goal.returns-clause-meets
returns-clause-meets g c =
    let t = g.P.Ports.tells c.args.ports.now in
    let u = g.P.Ports.tells c.meet_each.new.ports in
    let ports = c.in-Ok.replies.dialled.items in (
      ports,
      Lacks [] t u ports (are_dialled c.args.asked (length c.args.addresses.now) [] t u ports
          (Ok c.in-Ok.replies.greetings.items) c.in-Ok.ensures.meets) c.meet_each.ensures.told,
    )

pub returns-clause-others : goal.returns-clause-others
returns-clause-others g c = λ told.
    let t = g.P.Ports.tells c.args.ports.now in
    let u = g.P.Ports.tells c.meet_each.new.ports in
    let ports = c.in-Ok.replies.dialled.items in (
      ports,
      are_dialled c.args.asked (length c.args.addresses.now) [] t u ports (Ok c.in-Ok.replies.greetings.items)
          c.in-Ok.ensures.meets told,
    )
