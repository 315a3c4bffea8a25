use Rattle.std.proofs.Common.{◌≡◌, ℕ, Bool, List, IsTrue, length, sym, ◌∙◌, subst, inl, inr}
use Rattle.std.specs.Prelude.{Result}
use Rattle.deletions.specs.CdBase.ids.CloudNo.{CloudNo}
use Rattle.ports_link.specs.CdEdges.Causes.{Rose}
use Rattle.delete_command.specs.declared.carrying.DeleteErr.{DeleteErr}
use Rattle.delete_command.specs.Deleted.{DeleteCall, IsAskToDelete, delete_bytes}
use Rattle.ports_link.specs.Hellos.{hello}
use Rattle.ports_link.proofs.Sending.{sends_none, sends_twice, sends_weaker}
use Rattle.delete_command.specs.Steps.{CarriesDeletion, IfAskLost, Went}
use Rattle.delete_command.proofs.Ending.{carried}
use Rattle.delete_command.proofs.carrying.carry.Goals as goal

pub returns-clause-carries : goal.returns-clause-carries
returns-clause-carries g c =
    let tells = g.P.Ports.tells in
    let faults = g.P.Ports.faults in
    let greeted = c.in-Ok-meet_all.greeted in
    let behind = tells c.meet_all.new.ports in
    let came = c.ask_each-came.result in
    let text = c.ask_each-came.new.text in
    let call : DeleteCall = record {
      user = c.args.user;
      path = c.args.path.now;
      version = c.args.version;
      addresses = length c.args.addresses.now;
      before = tells c.args.ports.now;
      after = tells c.ask_each-came.new.ports;
      faults_before = faults c.args.ports.now;
      faults_after = faults c.ask_each-came.new.ports;
    } in
    let request : c.as_slice.result.now ≡ delete_bytes call greeted.shape =
    c.as_slice.ensures ∙ c.in-Ok-delete_request.ensures.asks.spelled in
    let went : Went (delete_bytes call greeted.shape) behind greeted.lines.items came c.args.text.now text call.after =
    subst (λ (r : List ℕ). Went r behind greeted.lines.items came c.args.text.now text call.after) request
    (subst (λ (ls : List (CloudNo × ℕ)). Went c.as_slice.result.now behind ls came c.args.text.now text call.after)
    c.as_slice-lines.ensures.value c.ask_each-came.ensures.went) in
    subst (λ (r : Result Bool DeleteErr). CarriesDeletion call r text) (sym c.behind_hellos.ensures)
    (carried call greeted behind came c.args.text.now text c.in-Ok-meet_all.ensures.meets c.in-Ok-meet_all.ensures.told
    c.requires.empty went
    (subst (λ (n : ℕ). IfAskLost came (Rose n (faults c.ask_each-came.new.ports))) c.in-Ok-meet_all.ensures.cause
    c.ask_each-came.ensures.lost))

pub returns-in-Err-clause-sends : goal.returns-in-Err-clause-sends
returns-in-Err-clause-sends g c = λ told. sends_none (IsAskToDelete c.args.user c.args.path.now c.args.version) (g.P.Ports.tells c.args.ports.now)

pub returns-in-Err-Undialled-clause-sends : goal.returns-in-Err-Undialled-clause-sends
returns-in-Err-Undialled-clause-sends g c = λ told.
    sends_weaker (λ content. content ≡ hello) (IsAskToDelete c.args.user c.args.path.now c.args.version) (λ content is. inl is)
    (g.P.Ports.tells c.args.ports.now) (g.P.Ports.tells c.meet_all.new.ports) (c.meet_all.ensures.sends told)

pub returns-in-Err-Refused-clause-sends : goal.returns-in-Err-Refused-clause-sends
returns-in-Err-Refused-clause-sends g c = λ told.
    sends_weaker (λ content. content ≡ hello) (IsAskToDelete c.args.user c.args.path.now c.args.version) (λ content is. inl is)
    (g.P.Ports.tells c.args.ports.now) (g.P.Ports.tells c.meet_all.new.ports) (c.meet_all.ensures.sends told)

pub returns-in-Err-Lost-clause-sends : goal.returns-in-Err-Lost-clause-sends
returns-in-Err-Lost-clause-sends g c = λ told.
    sends_weaker (λ content. content ≡ hello) (IsAskToDelete c.args.user c.args.path.now c.args.version) (λ content is. inl is)
    (g.P.Ports.tells c.args.ports.now) (g.P.Ports.tells c.meet_all.new.ports) (c.meet_all.ensures.sends told)

pub returns-in-Err-NoMemory-clause-sends : goal.returns-in-Err-NoMemory-clause-sends
returns-in-Err-NoMemory-clause-sends g c = λ told.
    sends_weaker (λ content. content ≡ hello) (IsAskToDelete c.args.user c.args.path.now c.args.version) (λ content is. inl is)
    (g.P.Ports.tells c.args.ports.now) (g.P.Ports.tells c.meet_all.new.ports) (c.meet_all.ensures.sends told)

pub returns-in-Err-delete_request-clause-sends : goal.returns-in-Err-delete_request-clause-sends
returns-in-Err-delete_request-clause-sends g c = λ told.
    sends_weaker (λ content. content ≡ hello) (IsAskToDelete c.args.user c.args.path.now c.args.version) (λ content is. inl is)
    (g.P.Ports.tells c.args.ports.now) (g.P.Ports.tells c.meet_all.new.ports) (c.meet_all.ensures.sends told)

pub returns-clause-sends : goal.returns-clause-sends
returns-clause-sends g c = λ told.
    let tells = g.P.Ports.tells in
    let Is = IsAskToDelete c.args.user c.args.path.now c.args.version in
    let behind = tells c.meet_all.new.ports in
    let after = tells c.ask_each-came.new.ports in
    sends_twice Is (tells c.args.ports.now) behind after
    (sends_weaker (λ content. content ≡ hello) Is (λ content is. inl is) (tells c.args.ports.now) behind (c.meet_all.ensures.sends told))
    (sends_weaker (λ content. content ≡ c.as_slice.result.now) Is
    (λ content is. inr (c.in-Ok-meet_all.greeted.shape, is ∙ c.as_slice.ensures ∙ c.in-Ok-delete_request.ensures.asks.spelled))
    behind after (c.ask_each-came.ensures.sends (subst IsTrue (sym c.meet_all.ensures.told) told)))
