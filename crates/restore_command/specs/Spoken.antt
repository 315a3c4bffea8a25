-- What was said on ports, behind what had been said there.
use Rattle.std.specs.Prelude.{◌≡◌, ◌≢◌, ℕ, Bool, false, All, List, [], ◌∷◌, ◌++◌, length, drop}
use Rattle.std.specs.List.{Contains}
use Rattle.ports_link.specs.CdBase.ids.CloudNo.{CloudNo}
use Rattle.ports_link.specs.Frames.Frames.{AreContents, stream}
use Rattle.ports_link.specs.CdEdges.Ports.{Telling}
use Rattle.ports_link.specs.Tells.{HasComing}
use Rattle.restore_command.specs.Talks.{first_replies}
use Rattle.restore_command.specs.Calls.{ports_of}
use Rattle.ports_link.specs.Hellos.{clouds_of}

-- The frames of these requests were sent on a port, in order, behind what had been sent there, and nothing else was.
-- The replies are the contents of the frames that were to come there, in order, an empty one for each that was not to
-- come; the others of these are still to come, or the line has ended. Where it had ended before, none was to come.
pub record HasTalked (before after : Telling) (port : ℕ) (had_ended : Bool) (sent received : List (List ℕ)) : Type 0
  where
    pub lawful : AreContents sent
    pub went : (after.port port).sent ≡ (before.port port).sent ++ stream sent
    pub coming : List (List ℕ)
    pub brings : HasComing had_ended (before.port port).to_come coming
    pub heard : received ≡ first_replies (length sent) coming
    pub ended : Bool
    pub left : HasComing ended (after.port port).to_come (drop (length sent) coming)

-- ---- replies that are kept

-- A cloud was asked this, in order, and these are its replies; of these some went out and came on a port. The reply to the
-- request `wanted` is kept once it came: where this is asked for again, the kept reply is the reply, and nothing goes out.
-- Everything else goes out. `kept` is the reply that is kept before, and `after` that behind it, an empty one where none is.
pub data AreRecalled (wanted : List ℕ) : (kept : List ℕ) (sent received went came : List (List ℕ)) (after : List ℕ)
    → Type 0
  where
    NothingAsked : (kept : List ℕ) → AreRecalled wanted kept [] [] [] [] kept
    IsKept : (kept after : List ℕ) (sent received went came : List (List ℕ)) → kept ≢ []
        → AreRecalled wanted kept sent received went came after
        → AreRecalled wanted kept (wanted ∷ sent) (kept ∷ received) went came after
    IsFirst : (reply after : List ℕ) (sent received went came : List (List ℕ))
        → AreRecalled wanted reply sent received went came after
        → AreRecalled wanted [] (wanted ∷ sent) (reply ∷ received) (wanted ∷ went) (reply ∷ came) after
    IsOther : (request reply kept after : List ℕ) (sent received went came : List (List ℕ)) → request ≢ wanted
        → AreRecalled wanted kept sent received went came after
        → AreRecalled wanted kept (request ∷ sent) (reply ∷ received) (request ∷ went) (reply ∷ came) after

-- A cloud was asked this, and these are its replies, on its port but for those that were kept.
pub record HasSaid (before after : Telling) (port : ℕ) (had_ended : Bool) (wanted kept kept_after : List ℕ)
    (sent received : List (List ℕ)) : Type 0
  where
    pub went : List (List ℕ)
    pub came : List (List ℕ)
    pub recalled : AreRecalled wanted kept sent received went came kept_after
    pub talked : HasTalked before after port had_ended went came

-- the reply that is kept of each cloud, an empty one where none is
abbrev pub KeptReply : Type 0
KeptReply = ℕ → List ℕ

-- none is kept
abbrev pub none_kept : KeptReply
none_kept cloud = []

-- So it was with each of these clouds, on its port. Every other port is as it was, and of every other cloud the same reply is
-- kept.
pub record HaveTalked (before after : Telling) (lines : List (CloudNo × ℕ)) (had_ended : ℕ → Bool) (wanted : List ℕ)
    (kept kept_after : KeptReply) (sent received : ℕ → List (List ℕ)) : Type 0
  where
    pub each : All (λ (line : CloudNo × ℕ).
        HasSaid before after line.1 (had_ended line.0.0) wanted (kept line.0.0) (kept_after line.0.0) (sent line.0.0)
        (received line.0.0)) lines
    pub others : (port : ℕ) → ¬ Contains (ports_of lines) port → after.port port ≡ before.port port
    pub rest : (cloud : ℕ) → ¬ Contains (clouds_of lines) cloud → kept_after cloud ≡ kept cloud

-- no line had ended
abbrev pub none_ended : ℕ → Bool
none_ended cloud = false
