-- A link over ports that keeps what each cloud replied to one request, and gives it where this is asked for again.
use Rattle.std.specs.Prelude.{◌≡◌, ◌≢◌, ℕ, ◌<◌, ◌&&◌, false, IsTrue, List, [], length, Some, None, nat_lt, slice_index_or, slice_set}
use Rattle.ports_link.specs.CdEdges.Ports.{Telling}
use Rattle.ports_link.specs.Frames.Frames.{IsContent}
use Rattle.ports_link.specs.Lines.{has_port}
use Rattle.ports_link.specs.Tells.{PassesOver}
use Rattle.ports_link.specs.UserDedup.Link.{Exchange, LinkTelling}
use Rattle.restore_command.specs.declared.recalling.RecallingLink.{RecallingLink}

-- the reply that is kept of a cloud, an empty one where none is
abbrev pub kept_of : List (List ℕ) → ℕ → List ℕ
kept_of kept cloud = slice_index_or kept cloud []

-- An ask went on to the ports, as of a link over them, and which request is kept stays.
pub record WentOut {P : Type 0} (tells : P → Telling) (faults : P → ℕ) (old : RecallingLink P) (e : Exchange)
    (new : RecallingLink P) : Type 0
  where
    pub over : PassesOver tells faults old.link e new.link
    pub lawful : IsContent e.content
    pub reached : IsTrue (has_port old.link.lines.items.items e.cloud)
    pub wanted : new.wanted ≡ old.wanted

-- What an ask leaves of a link that keeps each cloud's reply to the request `wanted`. Where one is kept it is the reply, and
-- all stays as it is: nothing goes out. Where this is asked for and none is kept, it goes out, and the reply is kept. All
-- else goes out, and what is kept stays; so it does of an ask that was lost.
pub data RecallsOver {P : Type 0} (tells : P → Telling) (faults : P → ℕ) (old : RecallingLink P) (e : Exchange)
    (new : RecallingLink P) : Type 0
  where
    Recalls : e.content ≡ old.wanted → kept_of old.kept e.cloud ≢ [] → e.reply ≡ Some (kept_of old.kept e.cloud)
        → new ≡ old → RecallsOver tells faults old e new
    Keeps : (reply : List ℕ) → e.content ≡ old.wanted → kept_of old.kept e.cloud ≡ [] → e.reply ≡ Some reply
        → WentOut tells faults old e new → e.cloud < length old.kept → new.kept ≡ slice_set old.kept e.cloud reply
        → RecallsOver tells faults old e new
    LeavesKept : (e.content ≡ old.wanted → (kept_of old.kept e.cloud ≡ []) × (e.reply ≡ None))
        → WentOut tells faults old e new → new.kept ≡ old.kept → RecallsOver tells faults old e new

-- It reaches the clouds that have a port and of which a reply can be kept, and tells of no cloud what it stands for. What was
-- lost are the ports' faults.
abbrev pub recalling : {P : Type 0} → (P → Telling) → (P → ℕ) → LinkTelling (RecallingLink P)
recalling {P} tells faults = record {
  reaches = λ (link : RecallingLink P) cloud. has_port link.link.lines.items.items cloud
      && nat_lt cloud (length link.kept);
  shape = λ link. link.link.shape;
  told = λ link cloud. false;
  stands = λ link cloud p. ⊥;
  full = λ link cloud list command. None;
  losses = λ link. faults link.link.ports.now;
  lossless = λ link. false;
  passes = RecallsOver tells faults;
}
