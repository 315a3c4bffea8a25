use Rattle.std.proofs.Common.{List, ℕ, IsTrue, All, subst}
use Rattle.std.proofs.lemmas.List.Elements.{All-contains}
use Rattle.ports_link.specs.Lines.{has_port}
use Rattle.ports_link.proofs.link.PortsLink.reaches_all.Goals as goal

pub returns : goal.returns
returns g c = λ yes cloud within.
    All-contains (λ (n : ℕ). IsTrue (has_port c.args.self.now.lines.items.items n)) c.args.clouds.now cloud
    (subst (λ (l : List ℕ). All (λ (n : ℕ). IsTrue (has_port c.args.self.now.lines.items.items n)) l) c.as_slice.ensures (c.have_ports.ensures yes)) within
