-- Lanes over ports, one after another.
use Rattle.std.proofs.Common.{◌≡◌, ◌≢◌, ℕ, List, [], ◌∷◌, ◌++◌, map, refl, sym, ap, ◌∙◌, subst, append_assoc}
use Rattle.std.proofs.Common.{append-nil}
use Rattle.std.proofs.Common.{IsTrue, Ok, Err}
use Rattle.std.specs.Prelude.{Result, All}
use Rattle.std.specs.List.{Contains}
use Rattle.std.proofs.lemmas.List.Elements.{All-nil, All-cons, All-head, All-tail}
use Rattle.std.proofs.lemmas.List.Concat.{flat_map-append}
use Rattle.transcript.specs.CdBase.ids.CloudNo.{CloudNo}
use Rattle.transcript.specs.CdEdges.Ports.{Telling, Port}
use Rattle.ports_link.specs.UserDedup.Link.{Talk, SaysNothingElse}
use Rattle.lane_steps.specs.UploadJob.Lanes.{LaneView}
use Rattle.lane_steps.specs.Runs.{lane_at}
use Rattle.lane_steps.specs.declared.error.StepErr.{StepErr}
use Rattle.lane_steps.specs.declared.error.StepErr.TheVariants as errors
use Rattle.transcript.specs.declared.line.Line.{Line}
use Rattle.transcript.specs.Transcript.{line_text}
use Rattle.ports_link.specs.declared.link.PortsLink.{PortsLink}
use Rattle.ports_link.specs.Tells.{HasAsked, HasComing}
use Rattle.ports_link.specs.Dialled.{ArePortsApart}
use Rattle.ports_link.specs.Hellos.{clouds_of}
use Rattle.lane_steps.specs.UploadJob.news.LaneNews.{LaneNews}
use Rattle.lane_steps.specs.UploadJob.Lane.{LaneState}
use Rattle.backup_command.specs.declared.halt.Halt.{Halt}
use Rattle.backup_command.specs.declared.halt.Halt.TheVariants as halts
use Rattle.backup_command.specs.Texts.{text_of, step_line, lane_lines}
use Rattle.backup_command.specs.Said.{SaidOn, SaysNothing, greeted}
use Rattle.backup_command.specs.Lanes.{LaneCame, LanesGoOnPorts, AllEnded, OneEnded, OneLost, NoMemory, Tells}
use Rattle.backup_command.specs.Steps.{KeepsOtherPorts, Talked, IsCloudReady, AreReady, LaneGoesOnPort, LanesWent, Wrote, ports_of}
use Rattle.backup_command.proofs.Walking.{said_from}

-- ---- a port that stays

-- what was said on a port that stays is still what was said there
pub still_said : (behind mid new : Telling) (port : ℕ) (Spoken : Talk → Talk → Type 0) → new.port port ≡ mid.port port
    → SaidOn behind mid port Spoken → SaidOn behind new port Spoken
still_said behind mid new port Spoken same said = record {
  coming = said.coming;
  brings = said.brings;
  after = said.after;
  says = said.says;
  sent = subst (λ (p : Port). HasAsked p.sent said.after.asked) (sym same) said.sent;
  ended = said.ended;
  left = subst (λ (p : Port). HasComing said.ended p.to_come said.after.coming) (sym same) said.left;
}

tells_on : (behind mid new : Telling) (port : ℕ) (Spoken : Talk → Talk → Type 0)
    → (IsTrue behind.told → new.port port ≡ mid.port port) → Tells behind mid port Spoken → Tells behind new port Spoken
tells_on behind mid new port Spoken same said told = still_said behind mid new port Spoken (same told) (said told)

pub came_on : (behind mid new : Telling) (port : ℕ) (lane : LaneView) (came : Result (Unit {0}) StepErr)
    (news : List LaneNews) (state : LaneState) → (IsTrue behind.told → new.port port ≡ mid.port port)
    → LaneCame (Tells behind mid port) lane came news state → LaneCame (Tells behind new port) lane came news state
came_on behind mid new port lane (Ok u) news state same ends = record {
  turns = ends.turns;
  last = ends.last;
  run = ends.run;
  tell = ends.tell;
  state_is = ends.state_is;
  spoken = tells_on behind mid new port _ same ends.spoken;
}
came_on behind mid new port lane (Err (errors.Strange kind)) news state same s = record {
  turns = s.turns;
  at = s.at;
  along = s.along;
  tell = s.tell;
  on = s.on;
  request = s.request;
  asks = s.asks;
  content = s.content;
  none = s.none;
  first = s.first;
  state_is = s.state_is;
  spoken = tells_on behind mid new port _ same s.spoken;
}
came_on behind mid new port lane (Err errors.Lost) news state same came = absurd came
came_on behind mid new port lane (Err errors.NoMemory) news state same came = absurd came

-- ---- clouds that are ready

module _ {P : Type 0} (tells : P → Telling) (behind : Telling) where
  -- the others stay ready while one is asked
  pub rest_ready : (old mid : PortsLink P) (line : CloudNo × ℕ) (rest : List (CloudNo × ℕ))
      → AreReady behind tells old (line ∷ rest) → KeepsOtherPorts tells line.0.0 old mid
      → SaysNothingElse (Talked tells) line.0.0 old mid → AreReady behind tells mid rest
  rest_ready old mid line rest ready leaves talks = record {
    told = leaves.told ∙ ready.told;
    clouds = ready.clouds.1;
    ports = λ told. (ready.ports told).1;
    each = kept rest ready.clouds.0 (All-tail (IsCloudReady behind tells old) line rest ready.each);
  }
    where
      one : (other : CloudNo × ℕ) → other.0.0 ≢ line.0.0 → IsCloudReady behind tells old other
          → IsCloudReady behind tells mid other
      one other apart is = record {
        port = leaves.lines other.0.0 ∙ is.port;
        talk = λ told. let t = is.talk told in (t.0, t.1, talks other.0.0 (greeted t.0) apart t.2);
      }

      kept : (others : List (CloudNo × ℕ)) → All (λ cloud. cloud ≢ line.0.0) (clouds_of others)
          → All (IsCloudReady behind tells old) others → All (IsCloudReady behind tells mid) others
      kept [] apart is = All-nil (IsCloudReady behind tells mid)
      kept (other ∷ others) apart is = All-cons (IsCloudReady behind tells mid) other others
          (one other (All-head (λ cloud. cloud ≢ line.0.0) other.0.0 (clouds_of others) apart)
          (All-head (IsCloudReady behind tells old) other others is))
          (kept others (All-tail (λ cloud. cloud ≢ line.0.0) other.0.0 (clouds_of others) apart)
          (All-tail (IsCloudReady behind tells old) other others is))

  -- nothing was asked of the clouds behind one in which the ports failed
  pub rest_silent : (old new : PortsLink P) (line : CloudNo × ℕ) (rest : List (CloudNo × ℕ))
      → AreReady behind tells old (line ∷ rest) → KeepsOtherPorts tells line.0.0 old new
      → All (λ (other : CloudNo × ℕ). Tells behind (tells new.ports.now) other.1 SaysNothing) rest
  rest_silent old new line rest ready leaves = kept rest (λ told. (ready.ports told).0)
      (All-tail (IsCloudReady behind tells old) line rest ready.each)
    where
      first : IsCloudReady behind tells old line
      first = All-head (IsCloudReady behind tells old) line rest ready.each

      one : (other : CloudNo × ℕ) → (IsTrue behind.told → other.1 ≢ line.1) → IsCloudReady behind tells old other
          → Tells behind (tells new.ports.now) other.1 SaysNothing
      one other apart is told =
          let t = is.talk told in
          still_said behind (tells old.ports.now) (tells new.ports.now) other.1 SaysNothing
          (leaves.others (subst IsTrue (sym ready.told) told) line.1 first.port other.1 (apart told))
          (said_from tells (λ p. 0) behind other old t.0 (greeted t.0) SaysNothing is.port t.1 refl t.2)

      kept : (others : List (CloudNo × ℕ)) → (IsTrue behind.told → All (λ port. port ≢ line.1) (ports_of others))
          → All (IsCloudReady behind tells old) others
          → All (λ (other : CloudNo × ℕ). Tells behind (tells new.ports.now) other.1 SaysNothing) others
      kept [] apart is = All-nil _
      kept (other ∷ others) apart is =
          All-cons (λ (other : CloudNo × ℕ). Tells behind (tells new.ports.now) other.1 SaysNothing) other others
          (one other (λ told. All-head (λ port. port ≢ line.1) other.1 (ports_of others) (apart told))
          (All-head (IsCloudReady behind tells old) other others is))
          (kept others (λ told. All-tail (λ port. port ≢ line.1) other.1 (ports_of others) (apart told))
          (All-tail (IsCloudReady behind tells old) other others is))

-- ---- one lane more

pub joined : (before mid text : List ℕ) (one more : List Line) → mid ≡ before ++ text_of one
    → text ≡ mid ++ text_of more
    → text ≡ before ++ text_of (one ++ more)
joined before mid text one more a b =
    b ∙ ap (λ (l : List ℕ). l ++ text_of more) a ∙ append_assoc before (text_of one) (text_of more)
    ∙ ap (λ (l : List ℕ). before ++ l) (sym (flat_map-append line_text one more))

wrote_more : (result : Result (Unit {0}) Halt) (before mid text : List ℕ) (one more : List Line)
    → mid ≡ before ++ text_of one → Wrote result mid text more → Wrote result before text (one ++ more)
wrote_more (Ok u) before mid text one more a b = joined before mid text one more a b
wrote_more (Err halts.Lost) before mid text one more a b = joined before mid text one more a b
wrote_more (Err halts.NoMemory) before mid text one more a b = tt

-- no lane
pub went_none : (behind now : Telling) (views : List LaneView) (text : List ℕ)
    → LanesWent behind now [] views (Ok tt) views text text
went_none behind now views text = record { answers = []; go = AllEnded views; wrote = sym (append-nil text) }

-- a lane that came to its end, and the lanes behind it
pub went_more : (behind mid new : Telling) (line : CloudNo × ℕ) (rest : List (CloudNo × ℕ))
    (views between after : List LaneView) (result : Result (Unit {0}) Halt) (before text now : List ℕ)
    → (IsTrue behind.told → new.port line.1 ≡ mid.port line.1)
    → LaneGoesOnPort behind mid line views (Ok tt) between before text
    → LanesWent behind new rest between result after text now
    → LanesWent behind new (line ∷ rest) views result after before now
went_more behind mid new line rest views between after result before text now same one rests = record {
  answers = lane_lines line.0.0 one.0 one.1 ++ rests.answers;
  go = OneEnded line rest views after one.0 one.1 one.2 result rests.answers
      (came_on behind mid new line.1 (lane_at views line.0.0) one.0 one.1 one.2 same one.3)
      (subst (λ (l : List LaneView). LanesGoOnPorts behind new rest l result rests.answers after) one.4 rests.go);
  wrote = wrote_more result before text now (lane_lines line.0.0 one.0 one.1) rests.answers one.5 rests.wrote;
}

-- a lane in which it stopped
pub went_stopped : {P : Type 0} (tells : P → Telling) (behind : Telling) (old new : PortsLink P) (line : CloudNo × ℕ)
    (rest : List (CloudNo × ℕ)) (views after : List LaneView) (halt : Halt) (before text : List ℕ)
    → AreReady behind tells old (line ∷ rest) → KeepsOtherPorts tells line.0.0 old new
    → LaneGoesOnPort behind (tells new.ports.now) line views (Err halt) after before text
    → LanesWent behind (tells new.ports.now) (line ∷ rest) views (Err halt) after before text
went_stopped tells behind old new line rest views after halts.Lost before text ready leaves one = record {
  answers = map (step_line line.0.0) one.0;
  go = subst (λ (l : List LaneView). LanesGoOnPorts behind (tells new.ports.now) (line ∷ rest) views (Err halts.Lost)
      (map (step_line line.0.0) one.0) l) (sym one.2)
      (OneLost line rest views one.0 one.1 (rest_silent tells behind old new line rest ready leaves));
  wrote = one.3;
}
went_stopped tells behind old new line rest views after halts.NoMemory before text ready leaves one = record {
  answers = [];
  go = NoMemory (line ∷ rest) views after [];
  wrote = tt;
}

pub not_here : (line : CloudNo × ℕ) (rest : List (CloudNo × ℕ)) → ArePortsApart (ports_of (line ∷ rest))
    → ¬ Contains (ports_of rest) line.1
not_here line rest apart c = apart.0 c.0 line.1 c.1 c.2
