use Rattle.std.proofs.Common.{◌≡◌, ◌<◌, List, Some, rules, length, refl, sym, ap, subst, ◌∙◌}
use Rattle.user_dedup.specs.Link.{first_reply, said}
use Rattle.ports_link.specs.declared.lines.CloudLine.{CloudLine}
use Rattle.ports_link.specs.Lines.{AsksOn, line_of}
use Rattle.ports_link.specs.Tells.{HasTalk}
use Rattle.ports_link.proofs.Talks.{line_other, passed, passed_lost, port_kept, says, said_else, still_said}
use Rattle.ports_link.proofs.link.PortsLinkLink.ask.Goals as goal

pub returns-in-Ok-clause-says : goal.returns-in-Ok-clause-says
returns-in-Ok-clause-says g c = λ before has.
    let lines = c.args.self.now.lines.items.items in
    let within : c.args.cloud.0 < length lines = search rules in
    let there : (line_of lines c.args.cloud.0).port ≡ Some c.in-Some.port = sym (ap (λ (l : CloudLine). l.port) c.get-line.ensures) ∙ c.in-Some.is in
    subst (λ (l : List CloudLine). (c.ask_on.new.reply ≡ first_reply before.coming) × HasTalk (g.P.Ports.tells c.ask_on.new.ports) l c.args.cloud.0 (said before c.args.request.now)) (sym c.set.ensures)
    (says (g.P.Ports.tells c.args.self.now.ports.now) (g.P.Ports.tells c.ask_on.new.ports) lines c.args.cloud.0 c.in-Some.port within there c.in-Ok.ensures.told
    c.in-Ok.after c.args.request.now c.ask_on.new.reply before (c.requires.some, c.requires.framed)
    (c.in-Ok.ensures.port ∙ ap (λ (l : CloudLine). l.port) c.get-line.ensures)
    (λ told. subst (λ (l : CloudLine). AsksOn (g.P.Ports.tells c.args.self.now.ports.now) (g.P.Ports.tells c.ask_on.new.ports) c.in-Some.port l c.in-Ok.after c.args.request.now c.ask_on.new.reply) c.get-line.ensures (c.in-Ok.ensures.asks told)) has)

pub returns-in-Ok-clause-says_else : goal.returns-in-Ok-clause-says_else
returns-in-Ok-clause-says_else g c = λ other before apart has.
    let lines = c.args.self.now.lines.items.items in
    let within : c.args.cloud.0 < length lines = search rules in
    let there : (line_of lines c.args.cloud.0).port ≡ Some c.in-Some.port = sym (ap (λ (l : CloudLine). l.port) c.get-line.ensures) ∙ c.in-Some.is in
    subst (λ (l : List CloudLine). HasTalk (g.P.Ports.tells c.ask_on.new.ports) l other before) (sym c.set.ensures)
    (said_else (g.P.Ports.tells c.args.self.now.ports.now) (g.P.Ports.tells c.ask_on.new.ports) lines c.args.cloud.0 c.in-Some.port within there c.in-Ok.ensures.told
    c.in-Ok.after (c.in-Ok.ensures.port ∙ ap (λ (l : CloudLine). l.port) c.get-line.ensures) c.in-Ok.ensures.others other before apart has)

pub returns-in-Err-clause-says_else : goal.returns-in-Err-clause-says_else
returns-in-Err-clause-says_else g c = λ other before apart has.
    let lines = c.args.self.now.lines.items.items in
    let within : c.args.cloud.0 < length lines = search rules in
    let there : (line_of lines c.args.cloud.0).port ≡ Some c.in-Some.port = sym (ap (λ (l : CloudLine). l.port) c.get-line.ensures) ∙ c.in-Some.is in
    still_said (g.P.Ports.tells c.args.self.now.ports.now) (g.P.Ports.tells c.ask_on.new.ports) lines c.args.cloud.0 c.in-Some.port within there c.in-Err.ensures.told
    c.in-Err.ensures.others other before apart has

pub returns-in-Ok-clause-passes : goal.returns-in-Ok-clause-passes
returns-in-Ok-clause-passes g c =
    let lines = c.args.self.now.lines.items.items in
    let within : c.args.cloud.0 < length lines = search rules in
    let there : (line_of lines c.args.cloud.0).port ≡ Some c.in-Some.port = sym (ap (λ (l : CloudLine). l.port) c.get-line.ensures) ∙ c.in-Some.is in
    record {
      same_reference = refl;
      told = c.in-Ok.ensures.told;
      later = c.ask_on.ensures.cause.later;
      sends = c.ask_on.ensures.sends;
      lines = λ cloud. ap (λ (l : List CloudLine). (line_of l cloud).port) c.set.ensures
          ∙ port_kept lines c.args.cloud.0 c.in-Ok.after within (c.in-Ok.ensures.port ∙ ap (λ (l : CloudLine). l.port) c.get-line.ensures) cloud;
      apart = λ cloud ne. ap (λ (l : List CloudLine). line_of l cloud) c.set.ensures
          ∙ line_other lines c.args.cloud.0 cloud c.in-Ok.after ne;
      bytes = λ told. passed (g.P.Ports.tells c.args.self.now.ports.now) (g.P.Ports.tells c.ask_on.new.ports) lines c.args.cloud.0 c.in-Some.port within there
          (c.in-Ok.ensures.others told) _ c.in-Ok.after c.args.request.now c.ask_on.new.reply c.set.ensures
          (subst (λ (l : CloudLine). AsksOn (g.P.Ports.tells c.args.self.now.ports.now) (g.P.Ports.tells c.ask_on.new.ports) c.in-Some.port l c.in-Ok.after c.args.request.now c.ask_on.new.reply) c.get-line.ensures (c.in-Ok.ensures.asks told));
    }

pub returns-in-Err-clause-passes : goal.returns-in-Err-clause-passes
returns-in-Err-clause-passes g c =
    let lines = c.args.self.now.lines.items.items in
    let within : c.args.cloud.0 < length lines = search rules in
    let there : (line_of lines c.args.cloud.0).port ≡ Some c.in-Some.port = sym (ap (λ (l : CloudLine). l.port) c.get-line.ensures) ∙ c.in-Some.is in
    record {
      same_reference = refl;
      told = c.in-Err.ensures.told;
      later = c.ask_on.ensures.cause.later;
      sends = c.ask_on.ensures.sends;
      lines = λ cloud. refl;
      apart = λ cloud ne. refl;
      bytes = λ told. passed_lost (g.P.Ports.tells c.args.self.now.ports.now) (g.P.Ports.tells c.ask_on.new.ports) lines c.args.cloud.0 c.in-Some.port within there
          (c.in-Err.ensures.others told) lines c.args.request.now;
    }
