use Rattle.std.proofs.Common.{◌≡◌, ℕ, Bool, true, List, Ok, Err, sym, ◌∙◌, IsTrue, subst}
use Rattle.std.specs.Prelude.{Result}
use Rattle.std.specs.List.{Contains}
use Rattle.deletions.specs.CdBase.ids.CloudNo.{CloudNo}
use Rattle.ports_link.specs.Hellos.{ports_of}
use Rattle.delete_command.specs.declared.asking.AskHalt.{AskHalt}
use Rattle.delete_command.specs.Steps.{Went, both}
use Rattle.delete_command.proofs.Going.{went_none, went_stopped, went_more}
use Rattle.ports_link.proofs.Sending.{sends_none, sends_twice}
use Rattle.ports_link.proofs.CloudLists.{not_first, not_later}
use Rattle.delete_command.proofs.asking.+ask_each.Goals as goal

pub returns-in_default-clause-went : goal.returns-in_default-clause-went
returns-in_default-clause-went g t c =
    let here = g.P.Ports.tells c.args.ports.now in
    subst (λ (ls : List (CloudNo × ℕ)). Went c.args.request.now here ls (Ok true) c.args.text.now c.args.text.now here)
    (sym c.in_default.ensures) (went_none c.args.request.now here c.args.text.now)

pub returns-in-Err-clause-went : goal.returns-in-Err-clause-went
returns-in-Err-clause-went g t c =
    let tells = g.P.Ports.tells in
    let line : CloudNo × ℕ = c.in-Some.line in
    subst (λ (ls : List (CloudNo × ℕ)). Went c.args.request.now (tells c.args.ports.now) ls (Err c.in-Err.halt)
    c.args.text.now c.ask_one.new.text (tells c.ask_one.new.ports)) (sym c.in-Some.ensures)
    (went_stopped c.args.request.now (tells c.args.ports.now) (tells c.ask_one.new.ports) line c.in-Some.more.now
    c.in-Err.halt c.args.text.now c.ask_one.new.text c.in-Err.ensures.went)

pub returns-clause-went : goal.returns-clause-went
returns-clause-went g t c =
    let tells = g.P.Ports.tells in
    let old = tells c.args.ports.now in
    let new = tells c.ask_each.new.ports in
    let line : CloudNo × ℕ = c.in-Some.line in
    subst (λ (r : Result Bool AskHalt). Went c.args.request.now old c.args.lines.now r c.args.text.now c.ask_each.new.text new)
    (sym c.both.ensures)
    (subst (λ (ls : List (CloudNo × ℕ)). Went c.args.request.now old ls (both c.in-Ok.first c.ask_each.result) c.args.text.now c.ask_each.new.text new)
    (sym c.in-Some.ensures)
    (went_more c.args.request.now old (tells c.ask_one.new.ports) new line c.in-Some.more.now c.in-Ok.first
    c.ask_each.result c.args.text.now c.ask_one.new.text c.ask_each.new.text c.in-Ok.ensures.went
    c.ask_each.ensures.went))

pub returns-clause-others : goal.returns-clause-others
returns-clause-others g t c = λ told port none.
    let tells = g.P.Ports.tells in
    let line : CloudNo × ℕ = c.in-Some.line in
    let rest = c.in-Some.more.now in
    let away = subst (λ (ls : List (CloudNo × ℕ)). ¬ Contains (ports_of ls) port) c.in-Some.ensures none in
    c.ask_each.ensures.others (subst IsTrue (sym c.in-Ok.ensures.told) told) port (not_later line rest port away)
    ∙ c.in-Ok.ensures.others told port (not_first line rest port away)

pub returns-in_default-clause-sends : goal.returns-in_default-clause-sends
returns-in_default-clause-sends g t c = λ told. sends_none (λ content. content ≡ c.args.request.now) (g.P.Ports.tells c.args.ports.now)

pub returns-clause-sends : goal.returns-clause-sends
returns-clause-sends g t c = λ told.
    let tells = g.P.Ports.tells in
    sends_twice (λ content. content ≡ c.args.request.now) (tells c.args.ports.now) (tells c.ask_one.new.ports) (tells c.ask_each.new.ports) (c.ask_one.ensures.sends told)
    (c.ask_each.ensures.sends (subst IsTrue (sym c.ask_one.ensures.told) told))
