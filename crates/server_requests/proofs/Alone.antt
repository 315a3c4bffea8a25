-- Requests that an open store answers by its memory alone.
use Rattle.std.proofs.Common.{◌≡◌, ℕ, List, refl}
use Rattle.server_commands.specs.CdBase.ids.Fp.{Fp}
use Rattle.server_commands.specs.CdEdges.Disk.{Cloud}
use Rattle.server_commands.specs.Messages.request.Request.{Request}
use Rattle.server_commands.specs.Messages.reply.Reply.{Reply}
use Rattle.server_commands.specs.Messages.Replies.{reply_bytes}
use Rattle.server_commands.specs.UserDedup.command.Command.{Command}
use Rattle.server_commands.specs.UserDedup.Dedup.{only}
use Rattle.server_commands.specs.ServerReads.CloudMemory.Memory.{Remembers}
use Rattle.server_commands.specs.ServerReads.CloudMemory.Rooms.{memory_of}
use Rattle.server_commands.specs.CloudStore.store.CloudStore.{CloudStore}
use Rattle.server_commands.specs.Executing.{IsStoreReady, Executes}
use Rattle.server_commands.specs.Growing.{SaysAdded}
use Rattle.server_commands.specs.Leaving.{IsFound}
use Rattle.server_commands.specs.Serving.{serves, GivesReply}
use Rattle.server_commands.proofs.Calls.{ok_result, no_calls, stays_still}
use Rattle.server_commands.proofs.Doing.{served_still, stays_executes}
use Rattle.server_requests.proofs.Readings.{answer_of}

pub was_told : (Same : Type 0) (s : CloudStore) (a : ℕ → Cloud) (f : ℕ) (request : Request) (content : List ℕ) → Same → IsStoreReady s
    → ((list : List Command) → serves s list request ≡ only (answer_of s list request))
    → ((list : List Command) → Remembers s.header.shape list (memory_of s.memory) → content ≡ reply_bytes (answer_of s list request))
    → ((named found : Fp) → IsFound (a s.header.cloud.0) (memory_of s.memory) request named found)
    → GivesReply s.header.shape request content → ((answer : Reply) → SaysAdded (memory_of s.memory) request answer → ⊥) → Executes Same s s a a f f request content ok_result
was_told Same s a f request content same ready alone value found kind asks =
    let n = s.header.cloud.0 in
    stays_executes ok_result Same s s a a f f request content
    (record { ready = ready; settled = ready.settled; none = ready.none; shut = tt; header = refl })
    (record { cloud = stays_still (a n); memory = refl })
    (no_calls a n f)
    (λ list some. served_still s s (a n) list request content (answer_of s list request) (alone list) (value list some.serves.known.remembers) some)
    (λ named other is. found named other)
    (λ answer leaves is. (same, refl))
    kind refl (λ answer adds other. asks answer adds)
