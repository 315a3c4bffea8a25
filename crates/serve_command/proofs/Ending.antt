-- How a connection begins, goes on and ends.
use Rattle.std.proofs.Common.{◌≡◌, ℕ, ◌+◌, ◌^◌, ◌<◌, ◌≤◌, List, [], ◌∷◌, ◌++◌, take, length, refl, sym, ◌∙◌, subst, append-nil, arith, inl, IsTrue, length-append, length-take}
use Rattle.ports_link.specs.Frames.Frames.{IsFrame, IsRefused, stream}
use Rattle.ports_link.specs.Frames.Steps.{Begun}
use Rattle.ports_link.proofs.Frames.StreamLaws.{all_shown}
use Rattle.share_server.specs.CdEdges.Ports.{Telling, Receives}
use Rattle.serve_command.specs.declared.served.ConnectionStop.{ConnectionStop}
use Rattle.serve_command.specs.declared.served.ConnectionStop.TheVariants as stops
use Rattle.serve_command.specs.declared.served.Served.TheVariants as ends
use Rattle.serve_command.specs.Connection.{None, HasPassedBytes, ServesConnection}
use Rattle.serve_command.specs.Framing.{IsAlongFrames, Broken, Stops, ended_with, stopped_by}
use Rattle.serve_command.proofs.PassingOn.{passed_none, then_received}

module _ {S : Type 0} (step : S → List ℕ → List ℕ → S → Type 0) where
  pub begun : (t : Telling) (port : ℕ) (first : S) → IsAlongFrames step t t port first first [] [] 0
  begun t port first = record {
    requests = [];
    replies = [];
    taken = [];
    run = Begun;
    responds = None;
    count = refl;
    passed = λ tells. passed_none t port;
  }

  -- bytes were received
  pub received_some : (start a b : Telling) (port : ℕ) (first last : S) (standing : List ℕ) (received count : ℕ) (out : List ℕ) → a.told ≡ start.told → count ≤ length out
      → (IsTrue a.told → Receives a b port count out) → IsAlongFrames step start a port first last standing [] received → IsAlongFrames step start b port first last standing (take count out) (received + count)
  received_some start a b port first last standing received count out told within receives along = record {
    requests = along.requests;
    replies = along.replies;
    taken = along.taken;
    run = along.run;
    responds = along.responds;
    count = omega (arith, within, along.count, length-append along.taken [], length-append along.taken (take count out), length-take count out);
    passed = λ tells. subst (λ (l : List ℕ). HasPassedBytes start b port (l ++ take count out) (stream along.replies)) (append-nil along.taken)
        (then_received start a b port (along.taken ++ []) (stream along.replies) (take count out) (along.passed tells) (receives (rw told tells)).received);
  }

  -- no bytes were received
  pub received_none : (start a b : Telling) (port : ℕ) (first last : S) (standing : List ℕ) (received : ℕ) (out : List ℕ) → a.told ≡ start.told
      → (IsTrue a.told → Receives a b port 0 out) → IsAlongFrames step start a port first last standing [] received → IsAlongFrames step start b port first last standing [] (received + 0)
  received_none start a b port first last standing received out told receives along = record {
    requests = along.requests;
    replies = along.replies;
    taken = along.taken;
    run = along.run;
    responds = along.responds;
    count = omega (arith, along.count);
    passed = λ tells. subst (λ (l : List ℕ). HasPassedBytes start b port l (stream along.replies)) (append-nil (along.taken ++ []))
        (then_received start a b port (along.taken ++ []) (stream along.replies) [] (along.passed tells) (receives (rw told tells)).received);
  }

  -- the bytes that came are the frames of the requests, and those that stand
  came_are : (start now : Telling) (port : ℕ) (first last : S) (standing : List ℕ) (received : ℕ) → (along : IsAlongFrames step start now port first last standing [] received)
      → along.taken ++ [] ≡ stream along.requests ++ standing
  came_are start now port first last standing received along = append-nil along.taken ∙ (all_shown along.taken along.requests standing along.run).1

  -- the ports failed when bytes were to be received
  pub broke_off : (start now : Telling) (port : ℕ) (first last : S) (standing : List ℕ) (received : ℕ) → IsAlongFrames step start now port first last standing [] received → Broken step start now port first last
  broke_off start now port first last standing received along = record {
    requests = along.requests;
    replies = along.replies;
    responds = along.responds;
    bytes = λ tells. record {
      rest = standing;
      went = stream along.replies;
      passed = subst (λ (l : List ℕ). HasPassedBytes start now port l (stream along.replies)) (came_are start now port first last standing received along) (along.passed tells);
      sent = inl refl;
    };
  }

  -- the stream ended
  pub ends_at_end : (start now : Telling) (port : ℕ) (first last : S) (standing : List ℕ) (received : ℕ) → received < 2 ^ 40 → (IsTrue start.told → (now.port port).to_come ≡ [])
      → (IsFrame standing → ⊥) → (IsRefused standing → ⊥) → IsAlongFrames step start now port first last standing [] received
      → ServesConnection step start now port first last (ended_with (length standing))
  ends_at_end start now port first last [] received few over ready lawful along = record {
    requests = along.requests;
    replies = along.replies;
    responds = along.responds;
    bytes = λ tells. record {
      came = along.taken ++ [];
      went = stream along.replies;
      passed = along.passed tells;
      ends = (came_are start now port first last [] received along ∙ append-nil (stream along.requests), refl, over tells, omega (arith, few, along.count));
    };
  }
  ends_at_end start now port first last (x ∷ xs) received few over ready lawful along = record {
    requests = along.requests;
    replies = along.replies;
    responds = along.responds;
    bytes = λ tells. record {
      came = along.taken ++ [];
      went = stream along.replies;
      passed = along.passed tells;
      ends = (
        x ∷ xs,
        came_are start now port first last (x ∷ xs) received along,
        refl,
        over tells,
        omega (arith, few, along.count),
        refl,
        (λ e. omega (arith, e)),
        ((all_shown along.taken along.requests (x ∷ xs) along.run).2, ready),
        lawful,
      );
    };
  }

  -- as many bytes came as may come
  pub ends_spent : (start now : Telling) (port : ℕ) (first last : S) (standing : List ℕ) (received : ℕ) → received ≡ 2 ^ 40
      → (IsFrame standing → ⊥) → (IsRefused standing → ⊥) → IsAlongFrames step start now port first last standing [] received → ServesConnection step start now port first last ends.Spent
  ends_spent start now port first last standing received all ready lawful along = record {
    requests = along.requests;
    replies = along.replies;
    responds = along.responds;
    bytes = λ tells. record {
      came = along.taken ++ [];
      went = stream along.replies;
      passed = along.passed tells;
      ends = (standing, came_are start now port first last standing received along, refl, sym along.count ∙ all, ((all_shown along.taken along.requests standing along.run).2, ready), lawful);
    };
  }

  -- it was stopped
  pub ends_by_stop : (start now : Telling) (port : ℕ) (first last : S) (stop : ConnectionStop) → Stops step start now port first last stop → ServesConnection step start now port first last (stopped_by stop)
  ends_by_stop start now port first last (stops.BadLength found) by = record {
    requests = by.requests;
    replies = by.replies;
    responds = by.responds;
    bytes = λ tells. record {
      came = stream by.requests ++ by.rest;
      went = stream by.replies;
      passed = by.passed tells;
      ends = (by.rest, refl, refl, by.wrong, by.found_is);
    };
  }
  ends_by_stop start now port first last stops.Failed by = record {
    requests = by.requests;
    replies = by.replies;
    responds = by.responds;
    bytes = λ tells.
        let b = by.bytes tells in
        record {
          came = stream by.requests ++ b.rest;
          went = b.went;
          passed = b.passed;
          ends = (b.rest, refl, b.sent);
        };
  }
