-- Ports that are dialled one after another.
use Rattle.std.proofs.Common.{◌≡◌, ◌≢◌, ℕ, suc, ◌≤◌, List, [], ◌∷◌, refl, sym, ◌∙◌, subst, arith}
use Rattle.std.specs.Prelude.{All}
use Rattle.std.specs.List.{Contains}
use Rattle.std.proofs.lemmas.List.Elements.{All-nil, All-cons, All-weaker}
use Rattle.user_dedup.proofs.Owned.{contains_here, contains_later}
use Rattle.transcript.specs.CdEdges.Ports.{Telling, HasOpenedPort, OthersStay}
use Rattle.ports_link.specs.Dialled.{AreNext, ArePortsApart, AreDialled}

none_below : (n : ℕ) (ports : List ℕ) → AreNext n ports → All (λ p. n ≤ p) ports
none_below n [] a = All-nil _
none_below n (port ∷ ports) a =
    All-cons (λ p. n ≤ p) port ports (omega (arith, a.0))
    (All-weaker (λ p. suc n ≤ p) (λ p. n ≤ p) (λ p l. omega (arith, l)) ports (none_below (suc n) ports a.1))

-- a port is none of those that are opened behind it
pub not_behind : (n port : ℕ) (ports : List ℕ) → AreNext (suc n) ports → port ≡ n → ¬ Contains ports port
not_behind n port ports a e c = let above = none_below (suc n) ports a c.0 port c.1 in omega (arith, above, c.2, e)

pub next_apart : (n : ℕ) (ports : List ℕ) → AreNext n ports → ArePortsApart ports
next_apart n [] a = tt
next_apart n (port ∷ ports) a = (
  All-weaker (λ p. suc n ≤ p) (λ other. other ≢ port) (λ p l e. omega (arith, l, e, a.0)) ports
      (none_below (suc n) ports a.1),
  next_apart (suc n) ports a.1,
)

not_here : (port other : ℕ) (rest : List ℕ) → ¬ Contains (port ∷ rest) other → other ≢ port
not_here port other rest none e = none (subst (λ (n : ℕ). Contains (port ∷ rest) n) (sym e) (contains_here port rest))

pub none_dialled : (t : Telling) → AreDialled t t []
none_dialled t = record { next = tt; others = λ port none. refl }

pub one_dialled : (t opened u : Telling) (port : ℕ) → HasOpenedPort t opened port → OthersStay opened u port
    → AreDialled t u (port ∷ [])
one_dialled t opened u port opens stays = record {
  next = (opens.next, tt);
  others = λ other none.
      let apart = not_here port other [] none in stays other apart ∙ opens.others other apart;
}

pub more_dialled : (t opened mid u : Telling) (port : ℕ) (ports : List ℕ) → HasOpenedPort t opened port
    → OthersStay opened mid port → mid.opened ≡ opened.opened → AreDialled mid u ports
    → AreDialled t u (port ∷ ports)
more_dialled t opened mid u port ports opens stays same d = record {
  next = (opens.next, subst (λ (n : ℕ). AreNext n ports) (same ∙ opens.opened) d.next);
  others = λ other none.
      let apart = not_here port other ports none in
      d.others other (λ c. none (contains_later port ports other c)) ∙ stays other apart ∙ opens.others other apart;
}
