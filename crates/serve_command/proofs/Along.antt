-- Connections and their lines so far, and how the serving ends behind them.
use Rattle.std.proofs.Common.{◌≡◌, ◌⊎◌, inl, inr, ℕ, ◌+◌, ◌<◌, ◌≤◌, List, [], ◌∷◌, ◌++◌, length, Option, Err, refl, sym}
use Rattle.std.proofs.Common.{ap, subst, arith, length-append}
use Rattle.share_server.specs.CdEdges.Causes.{Rose}
use Rattle.share_server.specs.CdEdges.Disk.{Cloud}
use Rattle.share_server.specs.CdEdges.Ports.{Telling}
use Rattle.share_server.specs.JournalStart.start.Header.{Header}
use Rattle.serve_command.specs.declared.served.Served.{Served}
use Rattle.serve_command.specs.Connection.{EndsWithCause}
use Rattle.serve_command.specs.Lines.{ready_text, connection_text, serving_text}
use Rattle.serve_command.specs.Served.{ServeOutput, output_of, IsTextWhole, IsSinkCut, IsLeftOut}
use Rattle.serve_command.specs.Steps.{ServingMoment, HasServedConnection, HasServedConnections, WritesLine, ServesAll, moment_of, status_by}
use Rattle.share_server.specs.declared.server.Server.{Server}
use Rattle.serve_command.specs.declared.stop.ServingStop.{ServingStop}
use Rattle.serve_command.specs.declared.stop.ServingStop.TheVariants as stops
use Rattle.serve_command.proofs.Running.{went_none, went_more}
use Rattle.serve_command.proofs.Texts.{whole_more, cut_more, left_more, serving_none, serving_more}

-- So many connections were served, and all lines are written.
pub record Along (header : Header) (old now : ServingMoment) (address : List ℕ) (out : ServeOutput)
    (before count number : ℕ)
    : Type 0 where
  pub all : List Served
  pub many : length all ≡ number
  pub went : HasServedConnections header old now before all count
  pub whole : IsTextWhole out (serving_text address all)

-- behind a call that changes nothing that is told
pub went_listened : (header : Header) (server : Server) (clouds : ℕ → Cloud) (shelf_faults : ℕ)
    (tells heard : Telling) (before count : ℕ)
    → heard ≡ tells → count ≡ before
    → HasServedConnections header (moment_of server clouds shelf_faults tells) (moment_of server clouds shelf_faults heard)
    before [] count
went_listened header server clouds shelf_faults tells heard before count same still =
    subst (λ (t : Telling). HasServedConnections header (moment_of server clouds shelf_faults tells)
    (moment_of server clouds shelf_faults t) before [] count) (sym same)
    (subst (λ (n : ℕ). HasServedConnections header (moment_of server clouds shelf_faults tells)
    (moment_of server clouds shelf_faults tells) before [] n) (sym still)
    (went_none header (moment_of server clouds shelf_faults tells) before))

-- a line that isn't written whole
stopped_in : (stop : ServingStop) (a b c : Option (List ℕ)) (m n o : ℕ) (front line : List ℕ)
    → IsTextWhole (output_of a b m n) front
    → WritesLine line (output_of b c n o) (Err stop)
    → IsSinkCut (status_by (Err stop)) (output_of a c m o) front line ⊎ IsLeftOut (status_by (Err stop))
    (output_of a c m o) front
stopped_in stops.SinkFault a b c m n o front line whole writes = inl (cut_more a b c m n o front line whole writes)
stopped_in stops.NoMemory a b c m n o front line whole writes = inr (left_more a b c m n o front line whole writes)
stopped_in stops.PortsFault a b c m n o front line whole writes = absurd writes

module _ (header : Header) (old now : ServingMoment) (address : List ℕ) (total before : ℕ) where
  -- ---- before the first connection

  -- no connection can be listened for
  pub unlistened : (out : ServeOutput) (faults : ℕ) → 0 < total → HasServedConnections header old now before [] before
      → IsTextWhole out [] → Rose before faults
      → ServesAll 9 header old now address total out before faults
  unlistened out faults some went whole rose = record {
    all = [];
    after = before;
    went = went;
    ends = inr (inr (record { status_is = refl; few = some; whole = inr (refl, whole); ports = rose }));
  }

  -- the first line is written
  pub begun : (out : ServeOutput) (count : ℕ) → HasServedConnections header old now before [] count → IsTextWhole out (ready_text address)
      → Along header old now address out before count 0
  begun out count went whole = record {
    all = [];
    many = refl;
    went = went;
    whole = subst (λ (l : List ℕ). IsTextWhole out l) (sym (serving_none address)) whole;
  }

  -- the first line isn't written
  pub unready : (stop : ServingStop) (a b c : Option (List ℕ)) (m n o count : ℕ) → HasServedConnections header old now before [] count
      → IsTextWhole (output_of a b m n) [] → WritesLine (ready_text address) (output_of b c n o) (Err stop)
      → ServesAll (status_by (Err stop)) header old now address total (output_of a c m o) before count
  unready stop a b c m n o count went whole writes = record {
    all = [];
    after = count;
    went = went;
    ends = inr (inl (record {
      few = omega arith;
      front = [];
      line = ready_text address;
      last = inl (refl, refl, refl);
      ends = stopped_in stop a b c m n o [] (ready_text address) whole writes;
      ports = refl;
    }));
  }

  -- ---- the next connection

  module _ (a b c : Option (List ℕ)) (m n o : ℕ) (count after number : ℕ) (ended : Served) (new : ServingMoment)
      (along : Along header old now address (output_of a b m n) before count number)
      (header_is : old.server.store.header ≡ header)
      (goes : HasServedConnection now.server.store.header now new ended)
      (cause : EndsWithCause ended count after) where
    went : HasServedConnections header old new before (along.all ++ ended ∷ []) after
    went = went_more header old now new before count after along.all ended along.went cause header_is goes

    many : length (along.all ++ ended ∷ []) ≡ number + 1
    many = let one = length-append along.all (ended ∷ []) in omega (arith, one, along.many)

    line_is : connection_text (number + 1) ended ≡ connection_text (length along.all + 1) ended
    line_is = ap (λ (k : ℕ). connection_text (k + 1) ended) (sym along.many)

    -- its line is written
    pub along_more : IsTextWhole (output_of b c n o) (connection_text (number + 1) ended)
        → Along header old new address (output_of a c m o) before after (number + 1)
    along_more whole = record {
      all = along.all ++ ended ∷ [];
      many = many;
      went = went;
      whole = subst (λ (l : List ℕ). IsTextWhole (output_of a c m o) l) (sym (serving_more address along.all ended))
          (subst (λ (l : List ℕ). IsTextWhole (output_of a c m o) (serving_text address along.all ++ l)) line_is
          (whole_more a b c m n o (serving_text address along.all) (connection_text (number + 1) ended) along.whole
          whole));
    }

    -- its line isn't
    pub unwritten : (stop : ServingStop) → number < total
        → WritesLine (connection_text (number + 1) ended) (output_of b c n o) (Err stop)
        → ServesAll (status_by (Err stop)) header old new address total (output_of a c m o) before after
    unwritten stop few writes =
        let within : length (along.all ++ ended ∷ []) ≤ total = omega (arith, many) in record {
          all = along.all ++ ended ∷ [];
          after = after;
          went = went;
          ends = inr (inl (record {
            few = within;
            front = serving_text address along.all;
            line = connection_text (number + 1) ended;
            last = inr (along.all, ended, refl, refl, ap (λ (k : ℕ). connection_text k ended) (sym many));
            ends = stopped_in stop a b c m n o (serving_text address along.all) (connection_text (number + 1) ended)
                along.whole writes;
            ports = refl;
          }));
        }
