-- Asks over a link to ports, one after another.
use Rattle.std.proofs.Common.{◌≡◌, ◌≢◌, ◌⊎◌, ℕ, true, false, List, [], ◌∷◌, Option, Some, Ok, inl, inr, sym, ◌∙◌, ap, subst}
use Rattle.std.specs.Prelude.{IsTrue}
use Rattle.std.specs.List.{Contains}
use Rattle.std.proofs.lemmas.Bool.{cases_eq}
use Rattle.ports_link.specs.CdEdges.Ports.{Telling}
use Rattle.ports_link.specs.Messages.ReplyReading.{reply_at, reply_left}
use Rattle.ports_link.specs.Messages.reply.Reply.{Reply}
use Rattle.ports_link.specs.UserDedup.Link.{Exchange, IsReading, Passes, ReadsOneOf}
use Rattle.ports_link.specs.declared.link.PortsLink.{PortsLink}
use Rattle.ports_link.specs.declared.lines.CloudLine.{CloudLine}
use Rattle.ports_link.specs.Lines.{AsksOn, Hears, Ends, Deaf, line_of}
use Rattle.ports_link.specs.Tells.{IsHeard, telling}
use Rattle.ports_link.proofs.Sending.{sends_none, sends_twice, sends_weaker}
use Rattle.subset_restore.specs.RestoreJob.Asking.{IsReplyReadable}
use Rattle.restore_command.specs.Calls.{OnlyReads}

-- each of these clouds is reached on one of these ports
abbrev pub AreOn : List CloudLine → List ℕ → List ℕ → Type 0
AreOn lines named ports = (cloud : ℕ) → Contains named cloud
    → (port : ℕ) × ((line_of lines cloud).port ≡ Some port) × Contains ports port

-- no reply is empty
pub not_empty : (r : Reply) → reply_at [] ≡ Ok r → ⊥
unfolding reply_at reply_left
not_empty r e = cc

-- a line on which a reply came that can be read goes on as it was
still_open : (old new : Telling) (port : ℕ) (before after : CloudLine) (request reply : List ℕ) (answer : Reply)
    → AsksOn old new port before after request reply → reply_at reply ≡ Ok answer → before.ended ≡ false
    → after.ended ≡ false
still_open old new port before after request reply answer (Hears live same replied) is open_so =
    ap (λ (l : CloudLine). l.ended) same ∙ open_so
still_open old new port before after request reply answer (Ends live now none broke) is open_so =
    absurd (not_empty answer (subst (λ (l : List ℕ). reply_at l ≡ Ok answer) none is))
still_open old new port before after request reply answer (Deaf dead same none sent) is open_so =
    absurd (let f : true ≡ false = sym dead ∙ open_so in cc)

module _ {P : Type 0} (tells : P → Telling) (faults : P → ℕ) where
  -- the same ports, and for each cloud the same one of them
  pub record KeepsPorts (old new : PortsLink P) : Type 0 where
    pub same_reference : new.ports.ghost_name ≡ old.ports.ghost_name
    pub told : (tells new.ports.now).told ≡ (tells old.ports.now).told
    pub lines : (cloud : ℕ)
        → (line_of new.lines.items.items cloud).port ≡ (line_of old.lines.items.items cloud).port

  pub kept : (named : List ℕ) (es : List Exchange) (old new : PortsLink P)
      → Passes (telling tells faults) (ReadsOneOf named) old es new → KeepsPorts old new
  kept named [] old new same = record {
    same_reference = ap (λ (l : PortsLink P). l.ports.ghost_name) same;
    told = ap (λ (l : PortsLink P). (tells l.ports.now).told) same;
    lines = λ cloud. ap (λ (l : PortsLink P). (line_of l.lines.items.items cloud).port) same;
  }
  kept named (e ∷ es) old new chain =
      let mid = chain.1.0 in
      let one = chain.1.1 in
      let more = kept named es mid new chain.1.2 in
      record {
        same_reference = more.same_reference ∙ one.same_reference;
        told = more.told ∙ one.told;
        lines = λ cloud. more.lines cloud ∙ one.lines cloud;
      }

  -- every port but those of the named clouds is as it was
  pub others : (named ports : List ℕ) (es : List Exchange) (old new : PortsLink P)
      → Passes (telling tells faults) (ReadsOneOf named) old es new → IsTrue (tells old.ports.now).told
      → AreOn old.lines.items.items named ports → (port : ℕ) → (Contains ports port → ⊥)
      → (tells new.ports.now).port port ≡ (tells old.ports.now).port port
  others named ports [] old new same told on port not = ap (λ (l : PortsLink P). (tells l.ports.now).port port) same
  others named ports (e ∷ es) old new chain told on port not =
      let mid = chain.1.0 in
      let one = chain.1.1 in
      let o = on e.cloud chain.0.0 in
      let apart : port ≢ o.0 = λ same. not (subst (Contains ports) (sym same) o.2) in
      others named ports es mid new chain.1.2 (subst IsTrue (sym one.told) told)
      (λ cloud has. let p = on cloud has in (p.0, one.lines cloud ∙ p.1, p.2)) port not
      ∙ (one.bytes told o.0 o.1).others port apart

  -- nothing was sent but what adds nothing
  pub sends_along : (named : List ℕ) (es : List Exchange) (old new : PortsLink P)
      → Passes (telling tells faults) (ReadsOneOf named) old es new → IsTrue (tells old.ports.now).told
      → OnlyReads (tells old.ports.now) (tells new.ports.now)
  sends_along named [] old new same told =
      subst (λ (l : PortsLink P). OnlyReads (tells old.ports.now) (tells l.ports.now)) (sym same)
      (sends_none IsReading (tells old.ports.now))
  sends_along named (e ∷ es) old new chain told =
      let mid = chain.1.0 in
      let one = chain.1.1 in
      sends_twice IsReading (tells old.ports.now) (tells mid.ports.now) (tells new.ports.now)
      (sends_weaker (λ content. content ≡ e.content) IsReading (λ content is. subst IsReading (sym is) chain.0.1)
      (tells old.ports.now) (tells mid.ports.now) (one.sends told))
      (sends_along named es mid new chain.1.2 (subst IsTrue (sym one.told) told))

  -- a line goes on as it was where each reply of its cloud can be read
  pub open_on : (Unread : ℕ → Type 0) (es : List Exchange) (old new : PortsLink P)
      → Passes (telling tells faults) (λ e. Unread e.cloud ⊎ IsReplyReadable e) old es new
      → IsTrue (tells old.ports.now).told → (cloud port : ℕ) → (line_of old.lines.items.items cloud).port ≡ Some port
      → (Unread cloud → ⊥) → (line_of old.lines.items.items cloud).ended ≡ false
      → (line_of new.lines.items.items cloud).ended ≡ false
  open_on Unread [] old new same told cloud port on not open_so =
      ap (λ (l : PortsLink P). (line_of l.lines.items.items cloud).ended) same ∙ open_so
  open_on Unread (e ∷ es) old new chain told cloud port on not open_so =
      let mid = chain.1.0 in
      let one = chain.1.1 in
      open_on Unread es mid new chain.1.2 (subst IsTrue (sym one.told) told) cloud port (one.lines cloud ∙ on) not
      (by_cloud (cases_eq cloud e.cloud))
    where
      here : (n : ℕ) → e.cloud ≡ n → (line_of old.lines.items.items n).port ≡ Some port
          → (line_of old.lines.items.items n).ended ≡ false → (Unread n → ⊥)
          → (line_of chain.1.0.lines.items.items n).ended ≡ false
      here n same there live unless =
          let heard = (chain.1.1.bytes told port
          (subst (λ (m : ℕ). (line_of old.lines.items.items m).port ≡ Some port) (sym same) there)).heard in
          let came = by_reply chain.0 (λ is. unless (subst Unread same is)) in
          subst (λ (m : ℕ). (line_of chain.1.0.lines.items.items m).ended ≡ false) same
          (still_open (tells old.ports.now) (tells chain.1.0.ports.now) port (line_of old.lines.items.items e.cloud)
          (line_of chain.1.0.lines.items.items e.cloud) e.content came.0 came.1
          (subst (λ (r : Option (List ℕ)). IsHeard (tells old.ports.now) (tells chain.1.0.ports.now) port
          (line_of old.lines.items.items e.cloud) (line_of chain.1.0.lines.items.items e.cloud) e.content r) came.2 heard)
          came.3 (subst (λ (m : ℕ). (line_of old.lines.items.items m).ended ≡ false) (sym same) live))
        where
          by_reply : Unread e.cloud ⊎ IsReplyReadable e → (Unread e.cloud → ⊥) → IsReplyReadable e
          by_reply (inl unread) none = absurd (none unread)
          by_reply (inr is) none = is

      by_cloud : (cloud ≡ e.cloud) ⊎ (cloud ≡ e.cloud → ⊥) → (line_of chain.1.0.lines.items.items cloud).ended ≡ false
      by_cloud (inl same) = here cloud (sym same) on open_so not
      by_cloud (inr ne) = ap (λ (l : CloudLine). l.ended) (chain.1.1.apart cloud ne) ∙ open_so
