-- A lane comes to its end: what is left falls at each reply that doesn't stop it.
use Rattle.std.proofs.Common.{◌≡◌, ℕ, ◌+◌, ◌*◌, ◌<◌, ◌≤◌, Bool, true, false, cond, List, [], ◌∷◌, length, Some, None, refl, arith}
use Rattle.std.specs.List.{list_all}
use Rattle.std.specs.Prelude.{◌==◌}
use Rattle.upload_job.specs.Messages.request.Request.{Request}
use Rattle.upload_job.specs.Messages.reply.Reply.{Reply}
use Rattle.upload_job.specs.Messages.reply.Reply.TheVariants as replies
use Rattle.upload_job.specs.Upload.{Work}
use Rattle.upload_job.specs.Lane.{LaneState, Asking, Sending, Committing, Done, Refused, onward, beginning, lane_request, lane_after}
use Rattle.lane_steps.specs.Runs.{Progress, request_of, progress_after, is_lacking, stops_at, steps_left, left_of}

onward_left : (batches : List (List (List ℕ))) → steps_left (onward batches) ≡ 2 * length batches + 1
onward_left [] = refl
onward_left (batch ∷ rest) = omega arith

past_left : (b : Bool) (batch : List (List ℕ)) (flags : List ℕ) (rest : List (List (List ℕ))) → steps_left (cond b (onward rest) (Sending batch flags rest)) ≤ 2 * length rest + 2
past_left true batch flags rest = let e = onward_left rest in omega arith
past_left false batch flags rest = omega arith

-- a lane that has a request has one to come
some_left : (w : Work) (state : LaneState) (request : Request) → lane_request w state ≡ Some request → 0 < steps_left state
some_left w (Asking batch rest) request e = omega arith
some_left w (Sending batch flags rest) request e = omega arith
some_left w Committing request e = omega arith
some_left w Done request e = absurd (let f : None ≡ Some request = e in cc)
some_left w Refused request e = absurd (let f : None ≡ Some request = e in cc)

-- a reply that neither stops the lane nor is lacking
state_falls : (w : Work) (state : LaneState) (request : Request) (reply : Reply) (lacked : Bool) → lane_request w state ≡ Some request → stops_at lacked reply ≡ false → is_lacking reply ≡ false
    → steps_left (lane_after w state reply) < steps_left state
state_falls w state request replies.Fault lacked some goes none = absurd cc
state_falls w state request replies.NoMemory lacked some goes none = absurd cc
state_falls w state request (replies.Lacking place) lacked some goes none = absurd cc
state_falls w (Asking batch rest) request (replies.Known flags) lacked some goes none = let le = past_left (list_all (λ flag. flag == 1) flags) batch flags rest in omega arith
state_falls w (Sending batch flags rest) request (replies.Known known) lacked some goes none = omega arith
state_falls w Committing request (replies.Known flags) lacked some goes none = omega arith
state_falls w Done request (replies.Known flags) lacked some goes none = some_left w Done request some
state_falls w Refused request (replies.Known flags) lacked some goes none = some_left w Refused request some
state_falls w (Asking batch rest) request (replies.Stored new) lacked some goes none = omega arith
state_falls w (Sending batch flags rest) request (replies.Stored new) lacked some goes none = let e = onward_left rest in omega arith
state_falls w Committing request (replies.Stored new) lacked some goes none = omega arith
state_falls w Done request (replies.Stored new) lacked some goes none = some_left w Done request some
state_falls w Refused request (replies.Stored new) lacked some goes none = some_left w Refused request some
state_falls w (Asking batch rest) request replies.Committed lacked some goes none = omega arith
state_falls w (Sending batch flags rest) request replies.Committed lacked some goes none = omega arith
state_falls w Committing request replies.Committed lacked some goes none = omega arith
state_falls w Done request replies.Committed lacked some goes none = some_left w Done request some
state_falls w Refused request replies.Committed lacked some goes none = some_left w Refused request some
state_falls w state request (replies.Hello n k cloud format) lacked some goes none = some_left w state request some
state_falls w state request replies.Exists lacked some goes none = some_left w state request some
state_falls w state request (replies.Recipe bytes) lacked some goes none = some_left w state request some
state_falls w state request replies.Missing lacked some goes none = some_left w state request some
state_falls w state request (replies.Shares shares) lacked some goes none = some_left w state request some
state_falls w state request (replies.NotYours place) lacked some goes none = some_left w state request some
state_falls w state request (replies.Entries entries) lacked some goes none = some_left w state request some
state_falls w state request replies.Deleted lacked some goes none = some_left w state request some
state_falls w state request (replies.Full room used need limit) lacked some goes none = some_left w state request some
state_falls w state request (replies.Damaged at byte) lacked some goes none = some_left w state request some
state_falls w state request (replies.Rotten named found) lacked some goes none = some_left w state request some
state_falls w state request (replies.Malformed at) lacked some goes none = some_left w state request some

-- what the cloud lacks sends the lane back to its beginning at most
lacking_left : (w : Work) (state : LaneState) (place : ℕ) → steps_left (lane_after w state (replies.Lacking place)) ≤ steps_left (beginning w)
lacking_left w (Asking batch rest) place = omega arith
lacking_left w (Sending batch flags rest) place = omega arith
lacking_left w Committing place = omega arith
lacking_left w Done place = omega arith
lacking_left w Refused place = omega arith

falls_by : (p : Progress) (lacked : Bool) (request : Request) (reply : Reply) → p.lacked ≡ lacked → request_of p.lane ≡ Some request → stops_at lacked reply ≡ false
    → left_of (progress_after (record { lane = p.lane; lacked = lacked; stopped = p.stopped }) reply) < steps_left p.lane.state + cond lacked 0 (1 + steps_left (beginning p.lane.work))
falls_by p true request (replies.Lacking place) e some goes = absurd cc
falls_by p false request (replies.Lacking place) e some goes = let le = lacking_left p.lane.work p.lane.state place in omega arith
falls_by p true request reply e some goes = let lt = state_falls p.lane.work p.lane.state request reply true some goes refl in omega arith
falls_by p false request reply e some goes = let lt = state_falls p.lane.work p.lane.state request reply false some goes refl in omega arith

-- less is left behind a reply that doesn't stop the lane
pub falls : (p : Progress) (request : Request) (reply : Reply) → request_of p.lane ≡ Some request → stops_at p.lacked reply ≡ false → left_of (progress_after p reply) < left_of p
falls p request reply some goes = falls_by p p.lacked request reply refl some goes
