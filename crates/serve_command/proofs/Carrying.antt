-- A responder's run as a run of what its states stand for.
use Rattle.std.proofs.Common.{ℕ, List}
use Rattle.ports_link.specs.Frames.Frames.{IsContent}
use Rattle.serve_command.specs.Connection.{Responds, None, More}

module _ {S T : Type 0} (step : S → List ℕ → List ℕ → S → Type 0) (does : T → List ℕ → List ℕ → T → Type 0) (Stands : S → T → Type 0)
    (carries : (before : S) (request reply : List ℕ) (after : S) (t : T) → IsContent request → step before request reply after → Stands before t → (u : T) × Stands after u × does t request reply u) where
  -- what the state after it stands for, and the same requests and replies
  pub record Carried (t : T) (requests replies : List (List ℕ)) (last : S) : Type 0 where
    pub left : T
    pub stands : Stands last left
    pub run : Responds does t requests replies left

  pub carried : (first last : S) (requests replies : List (List ℕ)) (t : T) → Stands first t → Responds step first requests replies last → Carried t requests replies last
  carried first last requests replies t stands None = record { left = t; stands = stands; run = None }
  carried first last requests replies t stands (More rs answers before request reply after so_far lawful whole one) =
      let front = carried first before rs answers t stands so_far in
      let next = carries before request reply after front.left lawful one front.stands in
      record { left = next.0; stands = next.1; run = More rs answers front.left request reply next.0 front.run lawful whole next.2 }

module _ {S T : Type 0} (step : S → List ℕ → List ℕ → S → Type 0) (does : T → List ℕ → List ℕ → T → Type 0) (f : S → T) (Holds : S → Type 0)
    (carries : (before : S) (request reply : List ℕ) (after : S) → IsContent request → step before request reply after → Holds before → Holds after × does (f before) request reply (f after)) where
  -- what a function makes of the states, and the same requests and replies
  pub mapped : (first last : S) (requests replies : List (List ℕ)) → Holds first → Responds step first requests replies last → Holds last × Responds does (f first) requests replies (f last)
  mapped first last requests replies holds None = (holds, None)
  mapped first last requests replies holds (More rs answers before request reply after so_far lawful whole one) =
      let front = mapped first before rs answers holds so_far in
      let next = carries before request reply after lawful one front.0 in
      (next.0, More rs answers (f before) request reply (f after) front.1 lawful whole next.1)
