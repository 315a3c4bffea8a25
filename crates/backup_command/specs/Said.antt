-- What was said with a cloud on its port, behind its Hello.
use Rattle.std.specs.Prelude.{◌≡◌, ℕ, Bool, List, [], ◌∷◌}
use Rattle.transcript.specs.CdEdges.Ports.{Telling}
use Rattle.ports_link.specs.Messages.request.Request.{Request}
use Rattle.ports_link.specs.Messages.Requests.{request_bytes}
use Rattle.ports_link.specs.UserDedup.Link.{Talk, first_reply, said}
use Rattle.lane_steps.specs.Runs.{LaneTurn}
use Rattle.lane_steps.specs.Steps.{TalksBy}
use Rattle.ports_link.specs.Tells.{HasAsked, BringsReplies, HasComing}
use Rattle.ports_link.specs.Hellos.{hello}

-- Hello was asked, and these replies are to come
abbrev pub greeted : List (List ℕ) → Talk
greeted coming = record { asked = hello ∷ []; coming = coming }

-- What was said on a port, behind a Hello: `coming` are the contents of all frames that were to come there then. The
-- bytes that were sent there are the frames of Hello and of the requests, and nothing else. The replies that are left
-- are those still to come, or the line has ended.
pub record SaidOn (behind now : Telling) (port : ℕ) (Says : Talk → Talk → Type 0) : Type 0 where
  pub coming : List (List ℕ)
  pub brings : BringsReplies (behind.port port).to_come coming
  pub after : Talk
  pub says : Says (greeted coming) after
  pub sent : HasAsked (now.port port).sent after.asked
  pub ended : Bool
  pub left : HasComing ended (now.port port).to_come after.coming

-- nothing was said
abbrev pub SaysNothing : Talk → Talk → Type 0
SaysNothing before after = after ≡ before

-- These turns, and then one more request, to which this came, or an empty content where no frame was to come.
abbrev pub SaysBehind : {S : Type 0} → List (LaneTurn S) → Request → List ℕ → Talk → Talk → Type 0
SaysBehind turns request content before after =
    (mid : Talk) × TalksBy turns before mid × (content ≡ first_reply mid.coming)
    × (after ≡ said mid (request_bytes request))
