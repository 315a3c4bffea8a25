-- One connection that is served: request frames come, and the frames of the replies go out.
use Rattle.std.specs.Prelude.{◌≡◌, ◌≢◌, ◌⊎◌, ℕ, ◌^◌, ◌<◌, List, [], ◌∷◌, ◌++◌, length, IsTrue}
use Rattle.share_server.specs.CdEdges.Causes.{Rose}
use Rattle.ports_link.specs.Frames.Frames.{IsContent, NoneWithin, IsFrame, IsRefused, frame, stream, length_in}
use Rattle.share_server.specs.CdEdges.Ports.{Telling, OthersStay}
use Rattle.serve_command.specs.declared.served.Served.{Served}
use Rattle.serve_command.specs.declared.served.Served.TheVariants as ends

-- What a responder did with these requests, in order, and what it replied.
pub data Responds {S : Type 0} (step : S → List ℕ → List ℕ → S → Type 0) (first : S) : List (List ℕ) → List (List ℕ) → S → Type 0 where
  None : Responds step first [] [] first
  More : (requests replies : List (List ℕ)) (before : S) (request reply : List ℕ) (after : S) → Responds step first requests replies before
      → IsContent request → IsContent reply → step before request reply after
      → Responds step first (requests ++ request ∷ []) (replies ++ reply ∷ []) after

-- These bytes came on a port, and these were sent there. No other port changes.
pub record HasPassedBytes (old new : Telling) (number : ℕ) (came went : List ℕ) : Type 0 where
  pub came_is : (old.port number).to_come ≡ came ++ (new.port number).to_come
  pub went_is : (new.port number).sent ≡ (old.port number).sent ++ went
  pub opened : new.opened ≡ old.opened
  pub others : OthersStay old new number

-- no frame begins these bytes
abbrev pub IsUnframed : List ℕ → Type 0
IsUnframed bytes = NoneWithin bytes × (IsFrame bytes → ⊥)

-- the greatest number of bytes that a connection may bring
abbrev pub greatest : ℕ
greatest = 2 ^ 40

-- The frames of these replies were sent, the last of them whole or in part.
pub record SentInPart (replies : List (List ℕ)) (went : List ℕ) : Type 0 where
  pub front : List (List ℕ)
  pub last : List ℕ
  pub part : List ℕ
  pub rest : List ℕ
  pub replies_are : replies ≡ front ++ last ∷ []
  pub parted : frame last ≡ part ++ rest
  pub went_is : went ≡ stream front ++ part

abbrev pub SentFront : List (List ℕ) → List ℕ → Type 0
SentFront replies went = (went ≡ stream replies) ⊎ SentInPart replies went

-- What the bytes that came, the requests among them, their replies and the bytes that were sent say of the end of a connection. `to_come`
-- is what is still to come on its port.
abbrev pub EndsConnection : Served → List ℕ → List (List ℕ) → List (List ℕ) → List ℕ → List ℕ → Type 0
EndsConnection ends.End came requests replies went to_come = (came ≡ stream requests) × (went ≡ stream replies) × (to_come ≡ []) × (length came < greatest)
EndsConnection (ends.Cut got) came requests replies went to_come =
    (rest : List ℕ) × (came ≡ stream requests ++ rest) × (went ≡ stream replies) × (to_come ≡ []) × (length came < greatest)
    × (got ≡ length rest) × (got ≢ 0) × IsUnframed rest × (IsRefused rest → ⊥)
EndsConnection (ends.BadLength found) came requests replies went to_come =
    (rest : List ℕ) × (came ≡ stream requests ++ rest) × (went ≡ stream replies) × IsRefused rest × (found ≡ length_in rest)
EndsConnection ends.Spent came requests replies went to_come =
    (rest : List ℕ) × (came ≡ stream requests ++ rest) × (went ≡ stream replies) × (length came ≡ greatest) × IsUnframed rest × (IsRefused rest → ⊥)
EndsConnection ends.Failed came requests replies went to_come =
    (rest : List ℕ) × (came ≡ stream requests ++ rest) × SentFront replies went

-- the bytes that came and went on a port
pub record HasBytes (old new : Telling) (port : ℕ) (requests replies : List (List ℕ)) (result : Served) : Type 0 where
  pub came : List ℕ
  pub went : List ℕ
  pub passed : HasPassedBytes old new port came went
  pub ends : EndsConnection result came requests replies went (new.port port).to_come

-- A connection on a port, served from one state of a responder to another. Where the ports tell their bytes, they are as its end says.
pub record ServesConnection {S : Type 0} (step : S → List ℕ → List ℕ → S → Type 0) (old new : Telling) (port : ℕ) (first last : S) (result : Served) : Type 0 where
  pub requests : List (List ℕ)
  pub replies : List (List ℕ)
  pub responds : Responds step first requests replies last
  pub bytes : IsTrue old.told → HasBytes old new port requests replies result

-- The count of faults rose where it ended so, and else it stayed.
abbrev pub EndsWithCause : Served → ℕ → ℕ → Type 0
EndsWithCause ends.Failed before now = Rose before now
EndsWithCause ends.End before now = now ≡ before
EndsWithCause (ends.Cut got) before now = now ≡ before
EndsWithCause (ends.BadLength found) before now = now ≡ before
EndsWithCause ends.Spent before now = now ≡ before
