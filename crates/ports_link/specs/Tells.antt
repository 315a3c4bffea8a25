-- What a link over ports tells: which clouds it reaches, and what was said with them.
use Rattle.std.specs.Prelude.{◌≡◌, ◌≢◌, ◌≤◌, ℕ, Bool, true, false, List, [], ◌++◌, Option, Some, None, IsTrue}
use Rattle.user_dedup.specs.Link.{Exchange, LinkTelling, Talk}
use Rattle.user_dedup.specs.Frames.Frames.{AreContents, stream}
use Rattle.transcript.specs.CdEdges.Ports.{Telling, OthersStay}
use Rattle.ports_link.specs.declared.lines.CloudLine.{CloudLine}
use Rattle.ports_link.specs.declared.link.PortsLink.{PortsLink}
use Rattle.ports_link.specs.Exchange.{NoFrame}
use Rattle.ports_link.specs.Lines.{AsksOn, has_port, line_of}
use Rattle.ports_link.specs.Sending.{SendsOnly}

-- the frames of these contents are the bytes
pub record HasAsked (bytes : List ℕ) (contents : List (List ℕ)) : Type 0 where
  pub lawful : AreContents contents
  pub spelled : bytes ≡ stream contents

-- the frames of these contents begin the bytes, and behind them no frame stands
pub record BringsReplies (bytes : List ℕ) (contents : List (List ℕ)) : Type 0 where
  pub lawful : AreContents contents
  pub rest : List ℕ
  pub spelled : bytes ≡ stream contents ++ rest
  pub none : NoFrame rest

-- the replies that are still to come on a line, none where it has ended
abbrev pub HasComing : Bool → List ℕ → List (List ℕ) → Type 0
HasComing true bytes contents = contents ≡ []
HasComing false bytes contents = BringsReplies bytes contents

-- What was said with a cloud, where the ports tell their bytes and no two clouds have one port.
pub record HasTalk (t : Telling) (lines : List CloudLine) (cloud : ℕ) (talk : Talk) : Type 0 where
  pub told : IsTrue t.told
  pub apart : (a b port : ℕ) → (line_of lines a).port ≡ Some port → (line_of lines b).port ≡ Some port → a ≡ b
  pub port : ℕ
  pub reached : (line_of lines cloud).port ≡ Some port
  pub asked : HasAsked (t.port port).sent talk.asked
  pub coming : HasComing (line_of lines cloud).ended (t.port port).to_come talk.coming

-- what the reply says of an ask on a line; nothing where it was lost
abbrev pub IsHeard : Telling → Telling → ℕ → CloudLine → CloudLine → List ℕ → Option (List ℕ) → Type 0
IsHeard old new port before after request None = Unit {0}
IsHeard old new port before after request (Some reply) = AsksOn old new port before after request reply

-- An ask on a cloud's port changed no other port. Where it wasn't lost, the request's frame was sent there, and the reply is the content of
-- the first frame to come, just which was taken, or an empty one where none was to come.
pub record HasPassedOnPort (old new : Telling) (before after : CloudLine) (port : ℕ) (request : List ℕ) (reply : Option (List ℕ)) : Type 0 where
  pub others : OthersStay old new port
  pub heard : IsHeard old new port before after request reply

-- What an ask leaves: the same ports, which tell as much as before and have failed as often or more, of each cloud the port that it had, and
-- the other clouds' lines. Ports that tell their bytes say this of it: lost or not, nothing but the request's frame was sent, or a front of it.
pub record PassesOver {P : Type 0} (tells : P → Telling) (faults : P → ℕ) (old : PortsLink P) (e : Exchange) (new : PortsLink P) : Type 0 where
  pub same_reference : new.ports.ghost_name ≡ old.ports.ghost_name
  pub told : (tells new.ports.now).told ≡ (tells old.ports.now).told
  pub later : faults old.ports.now ≤ faults new.ports.now
  pub lines : (cloud : ℕ) → (line_of new.lines.items.items cloud).port ≡ (line_of old.lines.items.items cloud).port
  pub apart : (cloud : ℕ) → cloud ≢ e.cloud → line_of new.lines.items.items cloud ≡ line_of old.lines.items.items cloud
  pub sends : IsTrue (tells old.ports.now).told → SendsOnly (λ content. content ≡ e.content) (tells old.ports.now) (tells new.ports.now)
  pub bytes : IsTrue (tells old.ports.now).told → (port : ℕ) → (line_of old.lines.items.items e.cloud).port ≡ Some port
      → HasPassedOnPort (tells old.ports.now) (tells new.ports.now)
      (line_of old.lines.items.items e.cloud) (line_of new.lines.items.items e.cloud) port e.content e.reply

-- It reaches the clouds that have a port, and tells of no cloud what it stands for. What was lost are the ports' faults.
abbrev pub telling : {P : Type 0} → (P → Telling) → (P → ℕ) → LinkTelling (PortsLink P)
telling {P} tells faults = record {
  reaches = λ (link : PortsLink P) cloud. has_port link.lines.items.items cloud;
  shape = λ link. link.shape;
  told = λ link cloud. false;
  stands = λ link cloud p. ⊥;
  full = λ link cloud list command. None;
  losses = λ link. faults link.ports.now;
  lossless = λ link. false;
  passes = PassesOver tells faults;
}
