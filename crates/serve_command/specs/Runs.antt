-- Connections that are served one after another.
use Rattle.std.specs.Prelude.{◌≡◌, ◌⊎◌, ℕ, ◌+◌, ◌<◌, ◌≤◌, List, [], ◌∷◌, ◌++◌, length, map, IsTrue}
use Rattle.share_server.specs.CdEdges.Ports.{Port, Telling}
use Rattle.serve_command.specs.declared.served.Served.{Served}
use Rattle.serve_command.specs.Connection.{Responds, EndsConnection, EndsWithCause}

-- a connection: how it ended, the contents that were answered, and their replies
pub record Connection : Type 0 where
  pub ended : Served
  pub requests : List (List ℕ)
  pub replies : List (List ℕ)

-- The first connection begins with a state, and each later one with the state that the one before left; so it is with
-- the ports' count of faults too. It rises in a connection that failed, and in no other.
pub data Runs {S : Type 0} (step : S → List ℕ → List ℕ → S → Type 0) (first : S) (before : ℕ) : List Connection → S → ℕ
    → Type 0 where
  None : Runs step first before [] first before
  More : (connections : List Connection) (state : S) (count : ℕ) (connection : Connection) (last : S) (after : ℕ)
      → Runs step first before connections state count
      → Responds step state connection.requests connection.replies last
      → EndsWithCause connection.ended count after
      → Runs step first before (connections ++ connection ∷ []) last after

-- These bytes came on a connection's port: they are the first of what was to come there before it was open, and the
-- rest is still to come. Those that were sent there are what is told as sent. They are as its end says of its requests
-- and replies.
pub record HasConnectionBytes (old now : Port) (connection : Connection) : Type 0 where
  pub came : List ℕ
  pub came_is : old.to_come ≡ came ++ now.to_come
  pub ends : EndsConnection connection.ended came connection.requests connection.replies now.sent now.to_come

-- The connections have the ports from this number on.
abbrev pub HaveBytes : Telling → Telling → ℕ → List Connection → Type 0
HaveBytes old now number [] = Unit {0}
HaveBytes old now number (connection ∷ more) =
    HasConnectionBytes (old.port number) (now.port number) connection × HaveBytes old now (number + 1) more

-- What the ports tell in the end: the next ports were opened, one for each connection in order, with its bytes. Each
-- other port is as it was.
pub record HavePassed (old new : Telling) (connections : List Connection) : Type 0 where
  pub opened : new.opened ≡ old.opened + length connections
  pub bytes : HaveBytes old new old.opened connections
  pub others : (number : ℕ) → (number < old.opened) ⊎ (new.opened ≤ number) → new.port number ≡ old.port number

-- Connections that ended so were served, from a state to a state and from a count of the ports' faults to a count.
pub record ServeRun {S : Type 0} (step : S → List ℕ → List ℕ → S → Type 0) (old new : Telling) (first : S) (before : ℕ)
    (all : List Served)
    (last : S) (after : ℕ) : Type 0 where
  pub connections : List Connection
  pub ended : map (λ connection. connection.ended) connections ≡ all
  pub runs : Runs step first before connections last after
  pub bytes : IsTrue old.told → HavePassed old new connections
