-- A run of connections, by one more.
use Rattle.std.proofs.Common.{◌≡◌, ℕ, ◌-◌, ◌^◌, ◌≤◌, min, List, [], ◌∷◌, ◌++◌, IsTrue, refl, ap, ◌∙◌, subst, arith}
use Rattle.std.proofs.lemmas.List.{map-append}
use Rattle.share_server.specs.CdEdges.Ports.{Telling}
use Rattle.share_server.proofs.CdEdges.Calls.{called_twice}
use Rattle.share_server.specs.JournalStart.start.Header.{Header}
use Rattle.serve_command.specs.Serving.{RepliesOne, ServesOne, standing}
use Rattle.serve_command.specs.declared.served.Served.{Served}
use Rattle.serve_command.specs.declared.served.Served.TheVariants as ends
use Rattle.serve_command.specs.Connection.{EndsWithCause}
use Rattle.serve_command.specs.Runs.{Connection, Runs, None, More, ServeRun}
use Rattle.serve_command.specs.Steps.{ServingMoment, OneServed, HasServedConnection, HasServedConnections, held_at}
use Rattle.serve_command.proofs.Passing.{passed_none, passed_more}

module _ {S : Type 0} (step : S → List ℕ → List ℕ → S → Type 0) where
  pub run_none : (old : Telling) (first : S) (before : ℕ) → ServeRun step old old first before [] first before
  run_none old first before = record { connections = []; ended = refl; runs = None; bytes = λ told. passed_none old }

  pub run_more : (old mid new : Telling) (first state last : S) (before count after : ℕ) (all : List Served)
      (ended : Served)
      → ServeRun step old mid first before all state count → mid.told ≡ old.told
      → OneServed step mid new state last ended
      → EndsWithCause ended count after → ServeRun step old new first before (all ++ ended ∷ []) last after
  run_more old mid new first state last before count after all ended run told one cause =
      let next : Connection = record { ended = ended; requests = one.requests; replies = one.replies } in record {
        connections = run.connections ++ next ∷ [];
        ended = map-append (λ (c : Connection). c.ended) run.connections (next ∷ [])
            ∙ ap (λ (l : List Served). l ++ ended ∷ []) run.ended;
        runs = More run.connections state count next last after run.runs one.responds cause;
        bytes = λ tells. passed_more old mid new run.connections next (run.bytes tells) (one.bytes (rw told tells));
      }

-- ---- the ports' count doesn't fall, but from beyond the last value of a u64

later_by : (ended : Served) (before count now : ℕ) → min before (2 ^ 64 - 1) ≤ count → EndsWithCause ended count now
    → min before (2 ^ 64 - 1) ≤ now
later_by ends.End before count now late cause = omega (arith, late, cause)
later_by (ends.Cut got) before count now late cause = omega (arith, late, cause)
later_by (ends.BadLength found) before count now late cause = omega (arith, late, cause)
later_by ends.Spent before count now late cause = omega (arith, late, cause)
later_by ends.Failed before count now late cause = omega (arith, late, cause)

runs_later : {S : Type 0} (step : S → List ℕ → List ℕ → S → Type 0) (first : S) (before : ℕ) (all : List Connection)
    (last : S) (after : ℕ)
    → Runs step first before all last after → min before (2 ^ 64 - 1) ≤ after
runs_later step first before _ _ _ None = omega arith
runs_later step first before _ _ _ (More all state count next last after runs responds cause) =
    later_by next.ended before count after (runs_later step first before all state count runs) cause

pub run_later : {S : Type 0} (step : S → List ℕ → List ℕ → S → Type 0) (old new : Telling) (first last : S)
    (before after : ℕ) (all : List Served)
    → ServeRun step old new first before all last after → min before (2 ^ 64 - 1) ≤ after
run_later step old new first last before after all run = runs_later step first before run.connections last after
    run.runs

-- ---- a server over its cloud

pub went_none : (header : Header) (old : ServingMoment) (before : ℕ)
    → HasServedConnections header old old before [] before
went_none header old before = record {
  same = refl;
  call = record {
    others = λ other apart. refl;
    told = refl;
    armings = refl;
    later = omega arith;
    total_later = omega arith;
  };
  told = refl;
  replied = run_none RepliesOne old.tells (held_at header old) before;
  served = λ told p serving. (
    p,
    serving,
    run_none (ServesOne header) old.tells (standing p (old.clouds header.cloud.0)) before,
  );
}

module _ (header : Header) (old mid new : ServingMoment) (before count after : ℕ) (all : List Served)
    (ended : Served)
    (went : HasServedConnections header old mid before all count) (cause : EndsWithCause ended count after) where
  by_same : HasServedConnection header mid new ended → HasServedConnections header old new before (all ++ ended ∷ []) after
  by_same goes = record {
    same = goes.same ∙ went.same;
    call = called_twice old.clouds mid.clouds new.clouds header.cloud.0 old.total mid.total new.total went.call
        goes.call;
    told = goes.told ∙ went.told;
    replied = run_more RepliesOne old.tells mid.tells new.tells (held_at header old) (held_at header mid)
        (held_at header new) before count after all ended went.replied went.told goes.replied cause;
    served = λ told p serving.
        let so_far = went.served told p serving in
        let told_mid : IsTrue (mid.clouds header.cloud.0).told = rw went.call.told told in
        let more = goes.served told_mid so_far.0 so_far.1 in (
          more.0,
          more.1,
          run_more (ServesOne header) old.tells mid.tells new.tells
              (standing p (old.clouds header.cloud.0)) (standing so_far.0 (mid.clouds header.cloud.0))
              (standing more.0 (new.clouds header.cloud.0)) before count after all ended
              so_far.2 went.told more.2 cause,
        );
  }

  -- the next connection
  pub went_more : old.server.store.header ≡ header → HasServedConnection mid.server.store.header mid new ended
      → HasServedConnections header old new before (all ++ ended ∷ []) after
  went_more header_is goes = by_same (subst (λ (h : Header). HasServedConnection h mid new ended) (went.same ∙ header_is) goes)
