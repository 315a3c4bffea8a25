-- What passed on a port, step by step.
use Rattle.std.proofs.Common.{◌≡◌, ℕ, ◌-◌, List, take, drop, take-append-drop, [], ◌∷◌, ◌++◌, length, refl, sym, ◌∙◌, ap, subst, append_assoc, append-nil, arith, inl, inr, IsTrue}
use Rattle.std.proofs.lemmas.List.Concat.{flat_map-append}
use Rattle.std.proofs.Math.Seq.{take-length}
use Rattle.ports_link.specs.Frames.Frames.{IsContent, IsFrameOf, IsFrame, IsRefused, frame, stream, length_in}
use Rattle.ports_link.specs.Frames.Steps.{Took, Dropped, TakesPiece, RefusesLength}
use Rattle.ports_link.proofs.Frames.FrameLaws.{length_in-append}
use Rattle.ports_link.proofs.Frames.StreamLaws.{all_shown}
use Rattle.share_server.specs.CdEdges.Ports.{Telling, Sent, SentPart, Received}
use Rattle.serve_command.specs.Connection.{More, HasPassedBytes}
use Rattle.serve_command.specs.Framing.{IsAlongFrames, Broken, IsLengthRefused}

pub passed_none : (t : Telling) (number : ℕ) → HasPassedBytes t t number [] []
passed_none t number = record {
  came_is = refl;
  went_is = sym (append-nil (t.port number).sent);
  opened = refl;
  others = λ other apart. refl;
}

pub then_sent : (a b c : Telling) (number : ℕ) (came went bytes : List ℕ) → HasPassedBytes a b number came went → Sent b c number bytes → HasPassedBytes a c number came (went ++ bytes)
then_sent a b c number came went bytes one two = record {
  came_is = one.came_is ∙ ap (λ (l : List ℕ). came ++ l) (sym two.to_come);
  went_is = two.went ∙ ap (λ (l : List ℕ). l ++ bytes) one.went_is ∙ append_assoc (a.port number).sent went bytes;
  opened = two.opened ∙ one.opened;
  others = λ other apart. two.others other apart ∙ one.others other apart;
}

pub then_received : (a b c : Telling) (number : ℕ) (came went bytes : List ℕ) → HasPassedBytes a b number came went → Received b c number bytes → HasPassedBytes a c number (came ++ bytes) went
then_received a b c number came went bytes one two = record {
  came_is = one.came_is ∙ ap (λ (l : List ℕ). came ++ l) two.came ∙ sym (append_assoc came bytes (c.port number).to_come);
  went_is = two.sent ∙ one.went_is;
  opened = two.opened ∙ one.opened;
  others = λ other apart. two.others other apart ∙ one.others other apart;
}

stream-snoc : (contents : List (List ℕ)) (content : List ℕ) → stream (contents ++ content ∷ []) ≡ stream contents ++ frame content
stream-snoc contents content = flat_map-append frame contents (content ∷ []) ∙ ap (λ (l : List ℕ). stream contents ++ l) (append-nil (frame content))

-- a whole frame was answered, and dropped
pub answered : {S : Type 0} (step : S → List ℕ → List ℕ → S → Type 0) (start a b : Telling) (port : ℕ) (first before after : S) (standing pending request reply : List ℕ) (received : ℕ)
    → a.told ≡ start.told → IsFrameOf request standing → step before request reply after → IsContent reply → (IsTrue a.told → Sent a b port (frame reply))
    → IsAlongFrames step start a port first before standing pending received → IsAlongFrames step start b port first after [] pending received
answered step start a b port first before after standing pending request reply received told is does lawful sent along = record {
  requests = along.requests ++ request ∷ [];
  replies = along.replies ++ reply ∷ [];
  taken = along.taken;
  run = Dropped along.taken along.requests standing request along.run is;
  responds = More along.requests along.replies before request reply after along.responds is.lawful lawful does;
  count = along.count;
  passed = λ tells. subst (λ (l : List ℕ). HasPassedBytes start b port (along.taken ++ pending) l) (sym (stream-snoc along.replies reply))
      (then_sent start a b port (along.taken ++ pending) (stream along.replies) (frame reply) (along.passed tells) (sent (rw told tells)));
}

-- a whole frame was answered, and the ports failed
pub broken : {S : Type 0} (step : S → List ℕ → List ℕ → S → Type 0) (start a b : Telling) (port : ℕ) (first before after : S) (standing pending request reply : List ℕ) (received : ℕ)
    → a.told ≡ start.told → IsFrameOf request standing → step before request reply after → IsContent reply → (IsTrue a.told → SentPart a b port (frame reply))
    → IsAlongFrames step start a port first before standing pending received → Broken step start b port first after
broken step start a b port first before after standing pending request reply received told is does lawful sent along = record {
  requests = along.requests ++ request ∷ [];
  replies = along.replies ++ reply ∷ [];
  responds = More along.requests along.replies before request reply after along.responds is.lawful lawful does;
  bytes = λ tells.
      let part = sent (rw told tells) in
      let taken : along.taken ≡ stream (along.requests ++ request ∷ []) =
      (all_shown along.taken along.requests standing along.run).1 ∙ ap (λ (l : List ℕ). stream along.requests ++ l) is.spelled ∙ sym (stream-snoc along.requests request) in
      record {
        rest = pending;
        went = stream along.replies ++ part.part;
        passed = subst (λ (l : List ℕ). HasPassedBytes start b port (l ++ pending) (stream along.replies ++ part.part)) taken
            (then_sent start a b port (along.taken ++ pending) (stream along.replies) part.part (along.passed tells) part.sent);
        sent = inr (record {
          front = along.replies;
          last = reply;
          part = part.part;
          rest = part.rest;
          replies_are = refl;
          parted = part.parted;
          went_is = refl;
        });
      };
}

-- ---- pieces

-- bytes were pushed into the framer
pub took : {S : Type 0} (step : S → List ℕ → List ℕ → S → Type 0) (start now : Telling) (port : ℕ) (first last : S) (old piece : List ℕ) (count : ℕ) (new : List ℕ) (received : ℕ)
    → TakesPiece old piece count new → IsAlongFrames step start now port first last old piece received → IsAlongFrames step start now port first last new (drop count piece) received
took step start now port first last old piece count new received takes along = record {
  requests = along.requests;
  replies = along.replies;
  taken = along.taken ++ take count piece;
  run = Took along.taken along.requests old piece count new along.run takes;
  responds = along.responds;
  count = along.count ∙ ap length (sym (append_assoc along.taken (take count piece) (drop count piece) ∙ ap (λ (l : List ℕ). along.taken ++ l) (take-append-drop count piece)));
  passed = λ tells. subst (λ (l : List ℕ). HasPassedBytes start now port l (stream along.replies))
      (sym (append_assoc along.taken (take count piece) (drop count piece) ∙ ap (λ (l : List ℕ). along.taken ++ l) (take-append-drop count piece))) (along.passed tells);
}

-- some bytes are always pushed
pub some_taken : (old piece : List ℕ) (count : ℕ) (new : List ℕ) → (IsFrame old → ⊥) → (length piece ≡ 0 → ⊥) → TakesPiece old piece count new → count ≡ 0 → ⊥
some_taken old piece count new none some takes zero = elim takes.to_the_end [
  | inl all ↦ some (sym all ∙ zero)
  | inr framed ↦ none (subst IsFrame (takes.taken ∙ ap (λ (n : ℕ). old ++ take n piece) zero ∙ append-nil old) framed)
]

-- where no frame stands, all was pushed
pub all_taken : (old piece : List ℕ) (count : ℕ) (new : List ℕ) → (IsFrame new → ⊥) → TakesPiece old piece count new → new ≡ old ++ piece
all_taken old piece count new none takes = elim takes.to_the_end [
  | inl all ↦ takes.taken ∙ ap (λ (n : ℕ). old ++ take n piece) all ∙ ap (λ (l : List ℕ). old ++ l) (take-length piece)
  | inr framed ↦ absurd (none framed)
]

pub still_lawful : (old piece : List ℕ) (count : ℕ) (new : List ℕ) → (IsFrame new → ⊥) → TakesPiece old piece count new → IsRefused new → ⊥
still_lawful old piece count new none takes wrong = takes.lawful (subst IsRefused (all_taken old piece count new none takes) wrong)

pub none_refused : IsRefused [] → ⊥
none_refused wrong = omega (arith, wrong.known)

-- a length was refused
pub refused : {S : Type 0} (step : S → List ℕ → List ℕ → S → Type 0) (start now : Telling) (port : ℕ) (first last : S) (old piece : List ℕ) (found : ℕ) (new : List ℕ) (received : ℕ)
    → RefusesLength old piece found new → IsAlongFrames step start now port first last old piece received → IsLengthRefused step start now port first last found
refused step start now port first last old piece found new received refuses along =
    let n = 4 - length old in
    let whole : old ++ piece ≡ new ++ drop n piece =
    ap (λ (l : List ℕ). old ++ l) (sym (take-append-drop n piece)) ∙ sym (append_assoc old (take n piece) (drop n piece)) ∙ ap (λ (l : List ℕ). l ++ drop n piece) (sym refuses.taken) in
    let taken = (all_shown along.taken along.requests old along.run).1 in
    record {
      requests = along.requests;
      replies = along.replies;
      rest = old ++ piece;
      wrong = refuses.refused;
      found_is = refuses.number ∙ sym (ap length_in whole ∙ length_in-append new (drop n piece) refuses.stands.known);
      responds = along.responds;
      passed = λ tells. subst (λ (l : List ℕ). HasPassedBytes start now port l (stream along.replies))
          (ap (λ (l : List ℕ). l ++ piece) taken ∙ append_assoc (stream along.requests) old piece) (along.passed tells);
    }
