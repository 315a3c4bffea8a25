-- Asks over a link that keeps replies, one after another.
use Rattle.std.proofs.Common.{◌≡◌, ◌≢◌, ◌⊎◌, ℕ, zero, suc, ◌<◌, Bool, true, false, cond, List, [], ◌∷◌, ◌++◌, length, map, Option, Some, None, Result, Ok, Err, refl, sym, ◌∙◌, ap, subst, append-nil, inl, inr}
use Rattle.std.specs.Prelude.{◌==◌, IsTrue, is_some, slice_set}
use Rattle.std.specs.List.{Contains}
use Rattle.std.proofs.lemmas.Bool.{cases_eq, eqb-true, eqb-false}
use Rattle.std.proofs.lemmas.List.{get_or-set_same, get_or-set_other}
use Rattle.ports_link.specs.CdEdges.Ports.{Telling, Port}
use Rattle.ports_link.specs.Frames.Frames.{IsContent}
use Rattle.ports_link.specs.UserDedup.Link.{Exchange, LinkTelling, Passes, ReadsOneOf, Talk, exchange_of, first_reply, said}
use Rattle.ports_link.specs.declared.lines.CloudLine.{CloudLine}
use Rattle.ports_link.specs.declared.link.PortsLink.{PortsLink}
use Rattle.ports_link.specs.Lines.{has_port, line_of}
use Rattle.ports_link.specs.Tells.{HasAsked, HasComing, HasTalk, IsHeard, PassesOver, telling}
use Rattle.ports_link.proofs.Talks.{left}
use Rattle.subset_restore.specs.RestoreJob.Asking.{IsReplyReadable}
use Rattle.subset_restore.specs.RestoreJob.Exchanges.{CloudExchange, passed_on}
use Rattle.restore_command.specs.declared.recalling.RecallingLink.{RecallingLink}
use Rattle.restore_command.specs.Recalling.{Keeps, LeavesKept, Recalls, RecallsOver, kept_of, recalling}
use Rattle.restore_command.specs.Spoken.{AreRecalled, IsFirst, IsKept, IsOther, NothingAsked}
use Rattle.restore_command.specs.Talks.{HasHeard, received_in, sent_in, with_cloud}
use Rattle.restore_command.proofs.Talks.{heard_more}

-- ---- what was said with one cloud, of some asks

-- these requests were put to the cloud, and each brought its reply
pub data SaidWith (cloud : ℕ) : List Exchange → List (List ℕ) → List (List ℕ) → Type 0 where
  NoneSaid : SaidWith cloud [] [] []
  SaidHere : (e : Exchange) (es : List Exchange) (reply : List ℕ) (sent received : List (List ℕ)) → e.cloud ≡ cloud
      → e.reply ≡ Some reply → SaidWith cloud es sent received → SaidWith cloud (e ∷ es) (e.content ∷ sent) (reply ∷ received)
  SaidElse : (e : Exchange) (es : List Exchange) (sent received : List (List ℕ)) → e.cloud ≢ cloud
      → SaidWith cloud es sent received → SaidWith cloud (e ∷ es) sent received

said_cases : (cloud : ℕ) (x : CloudExchange) (log : List CloudExchange) (b : Bool) → (x.cloud == cloud) ≡ b
    → SaidWith cloud (map passed_on log) (sent_in log cloud) (received_in log cloud)
    → SaidWith cloud (passed_on x ∷ map passed_on log)
    (map (λ (y : CloudExchange). y.request) (cond b (x ∷ with_cloud log cloud) (with_cloud log cloud)))
    (map (λ (y : CloudExchange). y.reply) (cond b (x ∷ with_cloud log cloud) (with_cloud log cloud)))
said_cases cloud x log true e rest =
    SaidHere (passed_on x) (map passed_on log) x.reply (sent_in log cloud) (received_in log cloud) (eqb-true x.cloud cloud e)
    refl rest
said_cases cloud x log false e rest =
    SaidElse (passed_on x) (map passed_on log) (sent_in log cloud) (received_in log cloud) (eqb-false x.cloud cloud e) rest

pub said_in_log : (cloud : ℕ) (log : List CloudExchange)
    → SaidWith cloud (map passed_on log) (sent_in log cloud) (received_in log cloud)
said_in_log cloud [] = NoneSaid
said_in_log cloud (x ∷ log) = said_cases cloud x log (x.cloud == cloud) refl (said_in_log cloud log)

-- where each reply of the cloud can be read
pub record Said (cloud : ℕ) (es : List Exchange) : Type 0 where
  pub sent : List (List ℕ)
  pub received : List (List ℕ)
  pub are : SaidWith cloud es sent received

said_more : (Unread : ℕ → Type 0) (cloud : ℕ) → (Unread cloud → ⊥) → (e : Exchange) (es : List Exchange)
    → Unread e.cloud ⊎ IsReplyReadable e → (e.cloud ≡ cloud) ⊎ (e.cloud ≡ cloud → ⊥) → Said cloud es
    → Said cloud (e ∷ es)
said_more Unread cloud not e es (inl unread) (inl same) more = absurd (not (subst Unread same unread))
said_more Unread cloud not e es (inr came) (inl same) more = record {
  sent = e.content ∷ more.sent;
  received = came.0 ∷ more.received;
  are = SaidHere e es came.0 more.sent more.received same came.2 more.are;
}
said_more Unread cloud not e es can (inr apart) more = record {
  sent = more.sent;
  received = more.received;
  are = SaidElse e es more.sent more.received apart more.are;
}

pub said_readable : {L : Type 0} (t : LinkTelling L) (Unread : ℕ → Type 0) (es : List Exchange) (old new : L)
    → Passes t (λ e. Unread e.cloud ⊎ IsReplyReadable e) old es new → (cloud : ℕ) → (Unread cloud → ⊥) → Said cloud es
said_readable t Unread [] old new same cloud not = record { sent = []; received = []; are = NoneSaid }
said_readable t Unread (e ∷ es) old new chain cloud not =
    said_more Unread cloud not e es chain.0 (cases_eq e.cloud cloud)
    (said_readable t Unread es chain.1.0 new chain.1.2 cloud not)

-- ---- what is kept

-- one more cloud of which nothing is kept
pub none_more : (kept : List (List ℕ)) (reply : List ℕ) → ((cloud : ℕ) → kept_of kept cloud ≡ []) → reply ≡ []
    → (cloud : ℕ) → kept_of (kept ++ reply ∷ []) cloud ≡ []
none_more [] reply none is zero = is
none_more [] reply none is (suc cloud) = refl
none_more (first ∷ kept) reply none is zero = none zero
none_more (first ∷ kept) reply none is (suc cloud) = none_more kept reply (λ c. none (suc c)) is cloud

-- ---- one ask that went out

some_of : (o : Option ℕ) → IsTrue (is_some o) → (port : ℕ) × (o ≡ Some port)
some_of (Some port) is = (port, refl)
some_of None is = absurd (let f : false ≡ true = is in cc)

some_list : (a b : List ℕ) → Some a ≡ Some b → a ≡ b
some_list a b e = cc

module _ {P : Type 0} (tells : P → Telling) (faults : P → ℕ) where
  abbrev TalkOn : PortsLink P → ℕ → Talk → Type 0
  TalkOn l cloud before = HasTalk (tells l.ports.now) l.lines.items.items cloud before

  -- on its cloud's line
  over_here : (old new : PortsLink P) (e : Exchange) → PassesOver tells faults old e new → IsContent e.content
      → (reply : List ℕ) → e.reply ≡ Some reply → (before : Talk) → TalkOn old e.cloud before
      → (reply ≡ first_reply before.coming) × TalkOn new e.cloud (said before e.content)
  over_here old new e over lawful reply came before has =
      let one = over.bytes has.told has.port has.reached in
      let asks = subst (λ (r : Option (List ℕ)). IsHeard (tells old.ports.now) (tells new.ports.now) has.port
      (line_of old.lines.items.items e.cloud) (line_of new.lines.items.items e.cloud) e.content r) came one.heard in
      let l = left (tells old.ports.now) (tells new.ports.now) has.port (line_of old.lines.items.items e.cloud)
      (line_of new.lines.items.items e.cloud) e.content reply before lawful has.asked has.coming asks in (
        l.reply_is,
        record {
          told = subst IsTrue (sym over.told) has.told;
          apart = λ a b p at_a at_b. has.apart a b p (sym (over.lines a) ∙ at_a) (sym (over.lines b) ∙ at_b);
          port = has.port;
          reached = over.lines e.cloud ∙ has.reached;
          asked = l.asked;
          coming = l.coming;
        },
      )

  -- on every other line
  over_else : (old new : PortsLink P) (e : Exchange) → PassesOver tells faults old e new
      → (at : (port : ℕ) × ((line_of old.lines.items.items e.cloud).port ≡ Some port)) → (cloud : ℕ) → cloud ≢ e.cloud
      → (before : Talk) → TalkOn old cloud before → TalkOn new cloud before
  over_else old new e over at cloud apart before has =
      let one = over.bytes has.told at.0 at.1 in
      let same : (tells new.ports.now).port has.port ≡ (tells old.ports.now).port has.port =
      one.others has.port (λ is. apart (has.apart cloud e.cloud has.port has.reached (at.1 ∙ ap (λ (p : ℕ). Some p) (sym is)))) in
      record {
        told = subst IsTrue (sym over.told) has.told;
        apart = λ a b p at_a at_b. has.apart a b p (sym (over.lines a) ∙ at_a) (sym (over.lines b) ∙ at_b);
        port = has.port;
        reached = over.lines cloud ∙ has.reached;
        asked = subst (λ (p : Port). HasAsked p.sent before.asked) (sym same) has.asked;
        coming = subst (λ (l : CloudLine). HasComing l.ended ((tells new.ports.now).port has.port).to_come before.coming)
            (sym (over.apart cloud apart))
            (subst (λ (p : Port). HasComing (line_of old.lines.items.items cloud).ended p.to_come before.coming) (sym same)
            has.coming);
      }

  -- ---- over the link that keeps replies

  abbrev rt : LinkTelling (RecallingLink P)
  rt = recalling tells faults

  abbrev t : LinkTelling (PortsLink P)
  t = telling tells faults

  -- the asks that went out, over the link below
  pub record Inner (Is : Exchange → Type 0) (old new : PortsLink P) : Type 0 where
    pub went : List Exchange
    pub passed : Passes t Is old went new

  inner_step : (Is : Exchange → Type 0) (e : Exchange) (old mid new : RecallingLink P) → Is e
      → RecallsOver tells faults old e mid → Inner Is mid.link new.link → Inner Is old.link new.link
  inner_step Is e old mid new is (Recalls content has reply same) more =
      subst (λ (l : RecallingLink P). Inner Is l.link new.link) same more
  inner_step Is e old mid new is (Keeps reply content none came out within set) more =
      record { went = e ∷ more.went; passed = (is, (mid.link, out.over, more.passed)) }
  inner_step Is e old mid new is (LeavesKept unless out set) more =
      record { went = e ∷ more.went; passed = (is, (mid.link, out.over, more.passed)) }

  pub inner : (Is : Exchange → Type 0) (es : List Exchange) (old new : RecallingLink P) → Passes rt Is old es new
      → Inner Is old.link new.link
  inner Is [] old new same = record { went = []; passed = ap (λ (l : RecallingLink P). l.link) same }
  inner Is (e ∷ es) old new chain =
      inner_step Is e old chain.1.0 new chain.0 chain.1.1 (inner Is es chain.1.0 new chain.1.2)

  -- which request is kept stays
  wanted_step : (e : Exchange) (old new : RecallingLink P) → RecallsOver tells faults old e new → new.wanted ≡ old.wanted
  wanted_step e old new (Recalls content has reply same) = ap (λ (l : RecallingLink P). l.wanted) same
  wanted_step e old new (Keeps reply content none came out within set) = out.wanted
  wanted_step e old new (LeavesKept unless out set) = out.wanted

  pub wanted_stays : (Is : Exchange → Type 0) (es : List Exchange) (old new : RecallingLink P) → Passes rt Is old es new
      → new.wanted ≡ old.wanted
  wanted_stays Is [] old new same = ap (λ (l : RecallingLink P). l.wanted) same
  wanted_stays Is (e ∷ es) old new chain =
      wanted_stays Is es chain.1.0 new chain.1.2 ∙ wanted_step e old chain.1.0 chain.1.1

  -- of a cloud that isn't asked the same reply is kept
  kept_step : (e : Exchange) (old new : RecallingLink P) → RecallsOver tells faults old e new → (cloud : ℕ)
      → cloud ≢ e.cloud → kept_of new.kept cloud ≡ kept_of old.kept cloud
  kept_step e old new (Recalls content has reply same) cloud apart =
      ap (λ (l : RecallingLink P). kept_of l.kept cloud) same
  kept_step e old new (Keeps reply content none came out within set) cloud apart =
      ap (λ (k : List (List ℕ)). kept_of k cloud) set ∙ get_or-set_other old.kept e.cloud cloud reply [] apart
  kept_step e old new (LeavesKept unless out set) cloud apart = ap (λ (k : List (List ℕ)). kept_of k cloud) set

  pub kept_stays : (named : List ℕ) (es : List Exchange) (old new : RecallingLink P)
      → Passes rt (ReadsOneOf named) old es new → (cloud : ℕ) → (Contains named cloud → ⊥)
      → kept_of new.kept cloud ≡ kept_of old.kept cloud
  kept_stays named [] old new same cloud not = ap (λ (l : RecallingLink P). kept_of l.kept cloud) same
  kept_stays named (e ∷ es) old new chain cloud not =
      kept_stays named es chain.1.0 new chain.1.2 cloud not
      ∙ kept_step e old chain.1.0 chain.1.1 cloud (λ same. not (subst (Contains named) (sym same) chain.0.0))

  -- ---- one cloud

  -- What was said with a cloud: of its requests some went out and were heard, and what is told of its line goes on.
  pub record OnLine (old new : RecallingLink P) (cloud : ℕ) (before : Talk) (sent received : List (List ℕ)) : Type 0 where
    pub went : List (List ℕ)
    pub came : List (List ℕ)
    pub after : Talk
    pub recalled : AreRecalled old.wanted (kept_of old.kept cloud) sent received went came (kept_of new.kept cloud)
    pub has : TalkOn new.link cloud after
    pub heard : HasHeard before after went came

  -- what holds from here on
  abbrev Goes : RecallingLink P → RecallingLink P → ℕ → List (List ℕ) → List (List ℕ) → Type 0
  Goes old new cloud sent received =
      (before : Talk) → TalkOn old.link cloud before → OnLine old new cloud before sent received

  goes_none : (link : RecallingLink P) (cloud : ℕ) → Goes link link cloud [] []
  goes_none link cloud before has = record {
    went = [];
    came = [];
    after = before;
    recalled = NothingAsked (kept_of link.kept cloud);
    has = has;
    heard = record { asked = sym (append-nil before.asked); heard = refl; left = refl };
  }

  -- an exchange with this cloud
  goes_here : (e : Exchange) (old mid new : RecallingLink P) → RecallsOver tells faults old e mid → (reply : List ℕ)
      → e.reply ≡ Some reply → (sent received : List (List ℕ)) → Goes mid new e.cloud sent received
      → Goes old new e.cloud (e.content ∷ sent) (reply ∷ received)
  goes_here e old mid new (Recalls content has_one given same) reply came sent received more before has =
      let l = subst (λ (k : RecallingLink P). Goes k new e.cloud sent received) same more before has in
      let is : kept_of old.kept e.cloud ≡ reply = some_list _ _ (sym given ∙ came) in
      record {
        went = l.went;
        came = l.came;
        after = l.after;
        recalled = subst (λ (c : List ℕ). AreRecalled old.wanted (kept_of old.kept e.cloud) (c ∷ sent) (reply ∷ received) l.went
            l.came (kept_of new.kept e.cloud)) (sym content)
            (subst (λ (r : List ℕ). AreRecalled old.wanted (kept_of old.kept e.cloud) (old.wanted ∷ sent) (r ∷ received) l.went
            l.came (kept_of new.kept e.cloud)) is
            (IsKept (kept_of old.kept e.cloud) (kept_of new.kept e.cloud) sent received l.went l.came has_one l.recalled));
        has = l.has;
        heard = l.heard;
      }
  goes_here e old mid new (Keeps r content none given out within set) reply came sent received more before has =
      let is : r ≡ reply = some_list _ _ (sym given ∙ came) in
      let step = over_here old.link mid.link e out.over out.lawful reply came before has in
      let l = more (said before e.content) step.1 in
      let now : kept_of mid.kept e.cloud ≡ reply = ap (λ (k : List (List ℕ)). kept_of k e.cloud) set
      ∙ get_or-set_same old.kept e.cloud r [] within ∙ is in
      record {
        went = e.content ∷ l.went;
        came = reply ∷ l.came;
        after = l.after;
        recalled = subst (λ (c : List ℕ). AreRecalled old.wanted (kept_of old.kept e.cloud) (c ∷ sent) (reply ∷ received)
            (c ∷ l.went) (reply ∷ l.came) (kept_of new.kept e.cloud)) (sym content)
            (subst (λ (k : List ℕ). AreRecalled old.wanted k (old.wanted ∷ sent) (reply ∷ received) (old.wanted ∷ l.went)
            (reply ∷ l.came) (kept_of new.kept e.cloud)) (sym none)
            (IsFirst reply (kept_of new.kept e.cloud) sent received l.went l.came
            (subst (λ (k : List ℕ). AreRecalled old.wanted k sent received l.went l.came (kept_of new.kept e.cloud)) now
            (subst (λ (w : List ℕ). AreRecalled w (kept_of mid.kept e.cloud) sent received l.went l.came
            (kept_of new.kept e.cloud)) out.wanted l.recalled))));
        has = l.has;
        heard = heard_more e.content reply before l.after l.went l.came step.0 l.heard;
      }
  goes_here e old mid new (LeavesKept unless out set) reply came sent received more before has =
      let step = over_here old.link mid.link e out.over out.lawful reply came before has in
      let l = more (said before e.content) step.1 in
      let other : e.content ≢ old.wanted = λ same. (let f : Some reply ≡ None = sym came ∙ (unless same).1 in cc) in
      record {
        went = e.content ∷ l.went;
        came = reply ∷ l.came;
        after = l.after;
        recalled = IsOther e.content reply (kept_of old.kept e.cloud) (kept_of new.kept e.cloud) sent received l.went l.came
            other
            (subst (λ (k : List (List ℕ)). AreRecalled old.wanted (kept_of k e.cloud) sent received l.went l.came
            (kept_of new.kept e.cloud)) set
            (subst (λ (w : List ℕ). AreRecalled w (kept_of mid.kept e.cloud) sent received l.went l.came
            (kept_of new.kept e.cloud)) out.wanted l.recalled));
        has = l.has;
        heard = heard_more e.content reply before l.after l.went l.came step.0 l.heard;
      }

  -- what is told on this line goes on, since the request kept and the reply kept of its cloud stay
  goes_past : (old mid new : RecallingLink P) (cloud : ℕ) (before : Talk) (sent received : List (List ℕ))
      → mid.wanted ≡ old.wanted → kept_of mid.kept cloud ≡ kept_of old.kept cloud
      → OnLine mid new cloud before sent received → OnLine old new cloud before sent received
  goes_past old mid new cloud before sent received wanted kept l = record {
    went = l.went;
    came = l.came;
    after = l.after;
    recalled = subst (λ (k : List ℕ). AreRecalled old.wanted k sent received l.went l.came (kept_of new.kept cloud)) kept
        (subst (λ (w : List ℕ). AreRecalled w (kept_of mid.kept cloud) sent received l.went l.came
        (kept_of new.kept cloud)) wanted l.recalled);
    has = l.has;
    heard = l.heard;
  }

  -- an exchange with another cloud
  goes_else : (e : Exchange) (old mid new : RecallingLink P) (cloud : ℕ) → RecallsOver tells faults old e mid
      → cloud ≢ e.cloud → (sent received : List (List ℕ)) → Goes mid new cloud sent received
      → Goes old new cloud sent received
  goes_else e old mid new cloud (Recalls content has_one given same) apart sent received more before has =
      subst (λ (k : RecallingLink P). Goes k new cloud sent received) same more before has
  goes_else e old mid new cloud (Keeps r content none given out within set) apart sent received more before has =
      goes_past old mid new cloud before sent received out.wanted
      (kept_step e old mid (Keeps r content none given out within set) cloud apart)
      (more before (over_else old.link mid.link e out.over
      (some_of (line_of old.link.lines.items.items e.cloud).port out.reached) cloud apart before has))
  goes_else e old mid new cloud (LeavesKept unless out set) apart sent received more before has =
      goes_past old mid new cloud before sent received out.wanted
      (kept_step e old mid (LeavesKept unless out set) cloud apart)
      (more before (over_else old.link mid.link e out.over
      (some_of (line_of old.link.lines.items.items e.cloud).port out.reached) cloud apart before has))

  pub on_line : (Is : Exchange → Type 0) (cloud : ℕ) (es : List Exchange) (sent received : List (List ℕ))
      → SaidWith cloud es sent received → (old new : RecallingLink P) → Passes rt Is old es new
      → Goes old new cloud sent received
  on_line Is cloud es sent received NoneSaid old new chain before has =
      subst (λ (l : RecallingLink P). OnLine old l cloud before [] []) (sym chain) (goes_none old cloud before has)
  on_line Is cloud es all replies (SaidHere e more reply sent received is came rest) old new chain before has =
      subst (λ (c : ℕ). Goes chain.1.0 new c sent received → Goes old new c (e.content ∷ sent) (reply ∷ received)) is
      (goes_here e old chain.1.0 new chain.1.1 reply came sent received)
      (on_line Is cloud more sent received rest chain.1.0 new chain.1.2) before has
  on_line Is cloud es sent received (SaidElse e more some replies apart rest) old new chain before has =
      goes_else e old chain.1.0 new cloud chain.1.1 (λ same. apart (sym same)) some replies
      (on_line Is cloud more some replies rest chain.1.0 new chain.1.2) before has

-- ---- what an ask leaves

module _ {P : Type 0} (tells : P → Telling) (faults : P → ℕ) (old new : RecallingLink P) (cloud : ℕ) (content : List ℕ)
    (same : new.wanted ≡ old.wanted) where
  -- it went out
  module _ (lawful : IsContent content) (reached : IsTrue (has_port old.link.lines.items.items cloud)) where
    -- another request did
    pub other_went : {E : Type 0} (result : Result (Unit {0}) E) (reply : List ℕ) → content ≢ old.wanted
        → new.kept ≡ old.kept → PassesOver tells faults old.link (exchange_of cloud content result reply) new.link
        → RecallsOver tells faults old (exchange_of cloud content result reply) new
    other_went (Ok u) reply other set over =
        LeavesKept (λ is. absurd (other is)) (record { over = over; lawful = lawful; reached = reached; wanted = same }) set
    other_went (Err e) reply other set over =
        LeavesKept (λ is. absurd (other is)) (record { over = over; lawful = lawful; reached = reached; wanted = same }) set

    -- the request that is kept did, and its reply came
    pub first_came : (reply : List ℕ) → content ≡ old.wanted → kept_of old.kept cloud ≡ []
        → cloud < length old.kept → new.kept ≡ slice_set old.kept cloud reply
        → PassesOver tells faults old.link (record { cloud = cloud; content = content; reply = Some reply }) new.link
        → RecallsOver tells faults old (record { cloud = cloud; content = content; reply = Some reply }) new
    first_came reply is none within set over =
        Keeps reply is none refl (record { over = over; lawful = lawful; reached = reached; wanted = same }) within set

    -- it was lost
    pub first_lost : kept_of old.kept cloud ≡ [] → new.kept ≡ old.kept
        → PassesOver tells faults old.link (record { cloud = cloud; content = content; reply = None }) new.link
        → RecallsOver tells faults old (record { cloud = cloud; content = content; reply = None }) new
    first_lost none set over =
        LeavesKept (λ is. (none, refl)) (record { over = over; lawful = lawful; reached = reached; wanted = same }) set
