-- Hello, asked of a port, and the clouds that replied.
use Rattle.std.specs.Prelude.{◌≡◌, ◌⊎◌, ℕ, ◌<◌, ◌≤◌, IsTrue, List, [], ◌∷◌, length, map, All, Option, Some, None}
use Rattle.std.specs.List.{Contains}
use Rattle.std.specs.List.Sorted.{IsStrictlyIncreasing}
use Rattle.user_dedup.specs.CdBase.ids.CloudNo.{CloudNo}
use Rattle.transcript.specs.CdEdges.Ports.{Telling}
use Rattle.user_dedup.specs.Messages.request.Request.TheVariants as requests
use Rattle.user_dedup.specs.Messages.Requests.{request_bytes}
use Rattle.ports_link.specs.Exchange.{HasRepliedOnPort, Broke}
use Rattle.ports_link.specs.Lines.{has_port, lines_for}
use Rattle.ports_link.specs.Tells.{HasTalk}
use Rattle.ports_link.specs.declared.judging.AskedClouds.{AskedClouds}
use Rattle.ports_link.specs.declared.judging.AskedClouds.TheVariants as asked
use Rattle.ports_link.specs.declared.judging.Greeting.{Greeting}
use Rattle.ports_link.specs.declared.greeting.Greeted.{Greeted}

-- the content of the request
abbrev pub hello : List ℕ
hello = request_bytes requests.Hello

-- The frame of Hello was sent on a port, and this is the content of the first frame that was to come there, just which
-- came, or an empty one where none was to come.
abbrev pub Hears : Telling → Telling → ℕ → List ℕ → Type 0
Hears old new port content = HasRepliedOnPort old new port hello content ⊎ (Broke old new port hello × (content ≡ []))

-- the ports of some lines
abbrev pub ports_of : List (CloudNo × ℕ) → List ℕ
ports_of lines = map (λ (line : CloudNo × ℕ). line.1) lines

-- a cloud and its port
abbrev pub lines_by : List Greeting → List ℕ → List (CloudNo × ℕ)
lines_by [] ports = []
lines_by (g ∷ gs) [] = []
lines_by (g ∷ gs) (port ∷ ports) = (record { 0 = g.cloud }, port) ∷ lines_by gs ports

-- the first of two lists, and what is left of both; none where one is empty
abbrev pub NextGreeted : List Greeting → List ℕ → Option (ℕ × ℕ × List Greeting × List ℕ) → Type 0
NextGreeted greetings ports None = lines_by greetings ports ≡ []
NextGreeted greetings ports (Some x) = (g : Greeting) × (g.cloud ≡ x.0) × (greetings ≡ g ∷ x.2) × (ports ≡ x.1 ∷ x.3)

-- the clouds of some lines, by their numbers
abbrev pub clouds_of : List (CloudNo × ℕ) → List ℕ
clouds_of lines = map (λ (line : CloudNo × ℕ). line.0.0) lines

-- A backup has a line for each cloud of the shape; a restore one for each of k clouds or more, which rise.
abbrev pub HasClouds : AskedClouds → Greeted → Type 0
HasClouds asked.Backup greeted =
    (length greeted.lines.items ≡ greeted.shape.n)
    × ((cloud : ℕ) → cloud < greeted.shape.n → Contains (clouds_of greeted.lines.items) cloud)
HasClouds asked.Restore greeted =
    (greeted.shape.k ≤ length greeted.lines.items)
    × IsStrictlyIncreasing (clouds_of greeted.lines.items)
    × All (λ cloud. cloud < greeted.shape.n) (clouds_of greeted.lines.items)

-- The clouds that were greeted, each with its port, in the order of the ports, and their shape.
pub record AreGreeted (asked : AskedClouds) (dialled : List ℕ) (greetings : List Greeting)
    (greeted : Greeted) : Type 0 where
  pub lines : greeted.lines.items ≡ lines_by greetings dialled
  pub ports : ports_of greeted.lines.items ≡ dialled
  pub shape : All (λ (g : Greeting). (g.n ≡ greeted.shape.n) × (g.k ≡ greeted.shape.k)) greetings
  pub clouds : HasClouds asked greeted

-- With each of these clouds Hello was said, and nothing else.
abbrev pub HaveTalks : Telling → List (CloudNo × ℕ) → Type 0
HaveTalks t lines = (cloud : ℕ) → Contains (clouds_of lines) cloud
    → (coming : List (List ℕ)) × HasTalk t (lines_for lines) cloud (record { asked = hello ∷ []; coming = coming })

-- a link over these lines reaches each of these clouds
abbrev pub AreCloudsReached : List (CloudNo × ℕ) → Type 0
AreCloudsReached lines = (cloud : ℕ) → Contains (clouds_of lines) cloud → IsTrue (has_port (lines_for lines) cloud)
