-- Restores from one choice after another, on the ports of a link.
use Rattle.std.proofs.Common.{◌≡◌, ◌≢◌, ◌⊎◌, ℕ, false, List, [], ◌∷◌, ◌++◌, map, Some, Result, Ok, Err, refl, sym, ◌∙◌, ap, subst}
use Rattle.std.specs.Prelude.{IsTrue}
use Rattle.std.specs.List.{Contains}
use Rattle.std.specs.List.Sorted.{IsStrictlyIncreasing}
use Rattle.ports_link.specs.CdBase.ids.CloudNo.{CloudNo}
use Rattle.ports_link.specs.CdEdges.Ports.{Telling}
use Rattle.ports_link.specs.UserDedup.Link.{IsReading, LinkTelling, ReadsOneOf, Talk}
use Rattle.ports_link.specs.declared.lines.CloudLine.{CloudLine}
use Rattle.ports_link.specs.Lines.{line_of, lines_for}
use Rattle.ports_link.specs.Tells.{HasTalk}
use Rattle.subset_restore.proofs.RestoreJob.Speaking.{unlost_as}
use Rattle.subset_restore.specs.RestoreJob.Asking.{IsReplyReadable, IsUnread, Readable}
use Rattle.subset_restore.specs.RestoreJob.Exchanges.{RestorePassed, passed_on}
use Rattle.subset_restore.specs.RestoreJob.error.RestoreErr.{RestoreErr}
use Rattle.subset_restore.specs.RestoreJob.error.RestoreErr.TheVariants as errors
use Rattle.ports_link.specs.Hellos.{HaveTalks, clouds_of, hello}
use Rattle.ports_link.specs.declared.greeting.Greeted.{Greeted}
use Rattle.ports_link.proofs.CloudLists.{line_on}
use Rattle.subset_restore.specs.Subsets.{IsSubset, subsets}
use Rattle.subset_restore.specs.Tries.{Try, GoneThrough, NoneYet, Passed, Refused, HasRefused, HoldsRefuser, refuser}
use Rattle.subset_restore.specs.Ends.{Sought, AllRefused, OneRestore, WasLost}
use Rattle.subset_restore.proofs.Choices.{each_is_subset, subset_among}
use Rattle.subset_restore.proofs.Elements.{contains_end, contains_front, of_all}
use Rattle.restore_command.specs.Calls.{RestoreCall, ports_of, tag_in}
use Rattle.restore_command.specs.declared.recalling.RecallingLink.{RecallingLink}
use Rattle.restore_command.specs.Recalling.{kept_of, recalling}
use Rattle.restore_command.specs.Spoken.{KeptReply, none_kept}
use Rattle.restore_command.specs.Talks.{received_in, sent_in}
use Rattle.restore_command.specs.Tried.{AreRefused, HaveSaidBeside, IsFetch, IsRestoreRefused, IsStop, IfHeard, IfLost, recipe_request}
use Rattle.restore_command.proofs.Choosing.{Chosen, choose, cloud_of, line_at, port_of}
use Rattle.restore_command.proofs.Lines.{AreReachedBy}
use Rattle.restore_command.proofs.Passing.{AreOn, KeepsPorts, kept, open_on, others}
use Rattle.restore_command.proofs.Recalled.{Inner, inner, kept_stays, on_line, said_in_log, said_readable, wanted_stays}
use Rattle.restore_command.proofs.Saying.{fetch_of, has_said, kept_in, stop_of}

-- ---- refusals, one after another

refused_on : (call : RestoreCall) (greeted : Greeted) (a b c : Telling) (ka kb kc : KeptReply) (tries : List Try)
    (x : Try) → AreRefused call greeted a ka tries b kb → IsRestoreRefused call greeted b kb x c kc
    → AreRefused call greeted a ka (tries ++ x ∷ []) c kc
refused_on call greeted a b c ka kb kc [] x all one = (
  c,
  kc,
  subst (λ (t : Telling). IsRestoreRefused call greeted t ka x c kc) all.0
      (subst (λ (k : KeptReply). IsRestoreRefused call greeted b k x c kc) (λ i cloud. all.1 cloud i) one),
  (refl, λ cloud. refl),
)
refused_on call greeted a b c ka kb kc (y ∷ tries) x all one =
    (all.0, all.1, all.2, refused_on call greeted all.0 b c all.1 kb kc tries x all.3 one)

-- the last of them
pub record Last {L : Type 0} (t : LinkTelling L) (talk : L → ℕ → Talk → Type 0) (s : Sought) (bytes : List ℕ)
    (start end : L) (tries : List Try) (x : Try) : Type 0 where
  pub mid : L
  pub before : AllRefused t talk s bytes start tries mid
  pub one : OneRestore t talk s x.subset bytes bytes mid (Err x.refusal) end

last_of : {L : Type 0} (t : LinkTelling L) (talk : L → ℕ → Talk → Type 0) (s : Sought) (bytes : List ℕ)
    (start end : L) (tries : List Try) (x : Try) → AllRefused t talk s bytes start (tries ++ x ∷ []) end
    → Last t talk s bytes start end tries x
last_of {L} t talk s bytes start end [] x all = record {
  mid = start;
  before = refl;
  one = subst (λ (l : L). OneRestore t talk s x.subset bytes bytes start (Err x.refusal) l) (sym all.2) all.1;
}
last_of t talk s bytes start end (y ∷ tries) x all =
    let l = last_of t talk s bytes all.0 end tries x all.2 in
    record { mid = l.mid; before = (all.0, all.1, l.before); one = l.one }

lost_more : (tries : List Try) (x : Try) (cloud : ℕ) → WasLost tries cloud → WasLost (tries ++ x ∷ []) cloud
lost_more tries x cloud lost = (lost.0, contains_front tries (x ∷ []) lost.0 lost.1, lost.2)

-- a cloud of which an ask was lost refused
lost_refuses : (tries : List Try) (subset : List ℕ) (cloud : ℕ) → Contains subset cloud → WasLost tries cloud
    → HoldsRefuser tries subset
lost_refuses tries subset cloud has lost = (cloud, has, (lost.0, lost.1, ap refuser lost.2))

refused_more : (tries : List Try) (x : Try) (cloud : ℕ) → HasRefused tries cloud → HasRefused (tries ++ x ∷ []) cloud
refused_more tries x cloud has = (has.0, contains_front tries (x ∷ []) has.0 has.1, has.2)

-- a cloud whose reply couldn't be read refused
unread_refuses : (e : RestoreErr) (cloud : ℕ) → e ≢ errors.NoMemory → IsUnread e cloud → refuser e ≡ Some cloud
unread_refuses (errors.Missing c) cloud plain is = absurd is
unread_refuses (errors.Lost c) cloud plain is = ap (λ (n : ℕ). Some n) (sym is)
unread_refuses (errors.CloudFault c) cloud plain is = absurd is
unread_refuses (errors.CloudDamaged c at byte) cloud plain is = absurd is
unread_refuses (errors.CloudRotten c named found) cloud plain is = absurd is
unread_refuses (errors.CloudNoMemory c) cloud plain is = absurd is
unread_refuses (errors.Strange c kind) cloud plain is = ap (λ (n : ℕ). Some n) (sym is)
unread_refuses (errors.RecipesDiffer a b place) cloud plain is = absurd is
unread_refuses (errors.ShareLength c secret found wanted) cloud plain is = absurd is
unread_refuses (errors.BadShare c secret named found) cloud plain is = absurd is
unread_refuses (errors.BadSecret secret named found) cloud plain is = absurd is
unread_refuses (errors.BadPad secret at byte) cloud plain is = absurd is
unread_refuses errors.NoMemory cloud plain is = absurd (plain refl)

-- what follows of a refusal: of what was said, or of the ask that was lost
by_loss : (P Q : Type 0) (e : RestoreErr) → e ≢ errors.NoMemory → IfHeard e P → (P → Q)
    → ((c : CloudNo) → e ≡ errors.Lost c → Q) → Q
by_loss P Q (errors.Missing c) plain heard of lost = of heard
by_loss P Q (errors.Lost c) plain heard of lost = lost c refl
by_loss P Q (errors.CloudFault c) plain heard of lost = of heard
by_loss P Q (errors.CloudDamaged c at byte) plain heard of lost = of heard
by_loss P Q (errors.CloudRotten c named found) plain heard of lost = of heard
by_loss P Q (errors.CloudNoMemory c) plain heard of lost = of heard
by_loss P Q (errors.Strange c kind) plain heard of lost = of heard
by_loss P Q (errors.RecipesDiffer a b place) plain heard of lost = of heard
by_loss P Q (errors.ShareLength c secret found wanted) plain heard of lost = of heard
by_loss P Q (errors.BadShare c secret named found) plain heard of lost = of heard
by_loss P Q (errors.BadSecret secret named found) plain heard of lost = of heard
by_loss P Q (errors.BadPad secret at byte) plain heard of lost = of heard
by_loss P Q errors.NoMemory plain heard of lost = absurd (plain refl)

-- where an ask was lost
if_lost : (P : ℕ → Type 0) (e : RestoreErr) → ((c : CloudNo) → e ≡ errors.Lost c → P c.0) → IfLost e P
if_lost P (errors.Missing c) lost = tt
if_lost P (errors.Lost c) lost = lost c refl
if_lost P (errors.CloudFault c) lost = tt
if_lost P (errors.CloudDamaged c at byte) lost = tt
if_lost P (errors.CloudRotten c named found) lost = tt
if_lost P (errors.CloudNoMemory c) lost = tt
if_lost P (errors.Strange c kind) lost = tt
if_lost P (errors.RecipesDiffer a b place) lost = tt
if_lost P (errors.ShareLength c secret found wanted) lost = tt
if_lost P (errors.BadShare c secret named found) lost = tt
if_lost P (errors.BadSecret secret named found) lost = tt
if_lost P (errors.BadPad secret at byte) lost = tt
if_lost P errors.NoMemory lost = tt

-- ---- over a link to ports

module _ {P : Type 0} (tells : P → Telling) (faults : P → ℕ) (talk : RecallingLink P → ℕ → Talk → Type 0)
    (start : RecallingLink P) (greeted : Greeted) (call : RestoreCall) (bytes : List ℕ)
    (first : start.link.lines.items.items ≡ lines_for greeted.lines.items)
    (wanted_first : start.wanted ≡ recipe_request call greeted.shape)
    (none_first : (cloud : ℕ) → kept_of start.kept cloud ≡ [])
    (reach : AreReachedBy (lines_for greeted.lines.items) greeted.lines.items)
    (rises : IsStrictlyIncreasing (clouds_of greeted.lines.items)) where
  abbrev items : List (CloudNo × ℕ)
  items = greeted.lines.items

  abbrev t : LinkTelling (RecallingLink P)
  t = recalling tells faults

  abbrev pub wanted : Sought
  wanted = record {
    shape = greeted.shape;
    user = call.user;
    tag = tag_in greeted.shape call.path;
    version = call.version;
    clouds = clouds_of items;
  }

  abbrev choices : List (List ℕ)
  choices = subsets greeted.shape.k (clouds_of items)

  pub choice_rises : (subset : List ℕ) → Contains choices subset → IsStrictlyIncreasing subset
  choice_rises subset has =
      let is : IsSubset greeted.shape.k (clouds_of items) subset =
      of_all (IsSubset greeted.shape.k (clouds_of items)) choices subset
      (each_is_subset greeted.shape.k (clouds_of items) rises) has in
      is.rises

  -- the line of each cloud is on its port from the start on
  on_port : (l : RecallingLink P) → KeepsPorts tells faults start.link l.link → (line : CloudNo × ℕ)
      → Contains items line → (line_of l.link.lines.items.items line.0.0).port ≡ Some line.1
  on_port l k line has =
      k.lines line.0.0 ∙ ap (λ (all : List CloudLine). (line_of all line.0.0).port) first
      ∙ ap (λ (x : CloudLine). x.port)
      (of_all (λ (x : CloudNo × ℕ). line_of (lines_for items) x.0.0 ≡ line_on x.1) items line reach has)

  open_line : (line : CloudNo × ℕ) → Contains items line → (line_of start.link.lines.items.items line.0.0).ended ≡ false
  open_line line has =
      ap (λ (all : List CloudLine). (line_of all line.0.0).ended) first
      ∙ ap (λ (x : CloudLine). x.ended)
      (of_all (λ (x : CloudNo × ℕ). line_of (lines_for items) x.0.0 ≡ line_on x.1) items line reach has)

  are_on : (l : RecallingLink P) → KeepsPorts tells faults start.link l.link → (subset : List ℕ)
      (chosen : Chosen items subset) → AreOn l.link.lines.items.items subset (ports_of chosen.lines)
  are_on l k subset chosen cloud has =
      let at = line_at chosen.lines cloud (subst (λ (c : List ℕ). Contains c cloud) (sym chosen.clouds) has) in (
        at.line.1,
        ap (λ (n : ℕ). (line_of l.link.lines.items.items n).port) (sym at.is)
            ∙ on_port l k at.line (of_all (Contains items) chosen.lines at.line chosen.among at.has),
        port_of chosen.lines at.line at.has,
      )

  -- so far: the ports are kept, and what is to come of each cloud is told but of those of which an ask was lost; and the line
  -- of each that hasn't refused has not ended
  pub record Walked (tries : List Try) (l : RecallingLink P) : Type 0 where
    pub keeps : KeepsPorts tells faults start.link l.link
    pub recalls : l.wanted ≡ recipe_request call greeted.shape
    pub speaks : (cloud : ℕ) → Contains (clouds_of items) cloud → (WasLost tries cloud → ⊥)
        → (before : Talk) × HasTalk (tells l.link.ports.now) l.link.lines.items.items cloud before
    pub unended : (cloud : ℕ) → Contains (clouds_of items) cloud → (HasRefused tries cloud → ⊥)
        → (line_of l.link.lines.items.items cloud).ended ≡ false
    pub refused : AreRefused call greeted (tells start.link.ports.now) none_kept tries (tells l.link.ports.now) (kept_in l)

  module _ (told : IsTrue (tells start.link.ports.now).told) (talks : HaveTalks (tells start.link.ports.now) items) where
    pub walked_none : Walked [] start
    walked_none = record {
      keeps = record { same_reference = refl; told = refl; lines = λ cloud. refl };
      recalls = wanted_first;
      speaks = λ cloud has not.
          let there = talks cloud has in (
            record { asked = hello ∷ []; coming = there.0 },
            subst (λ (all : List CloudLine). HasTalk (tells start.link.ports.now) all cloud
                (record { asked = hello ∷ []; coming = there.0 })) (sym first) there.1,
          );
      unended = λ cloud has not.
          let at = line_at items cloud has in
          subst (λ (n : ℕ). (line_of start.link.lines.items.items n).ended ≡ false) at.is (open_line at.line at.has);
      refused = (refl, none_first);
    }

    -- one restore, behind some
    module _ (tries : List Try) (l new : RecallingLink P) (w : Walked tries l) (subset : List ℕ)
        (chosen : Chosen items subset) (free : HoldsRefuser tries subset → ⊥) (result : Result (Unit {0}) RestoreErr)
        (file : List ℕ) (one : OneRestore t talk wanted subset bytes file l result new) where
      asks_in : Inner tells faults (ReadsOneOf subset) l.link new.link
      asks_in = inner tells faults (ReadsOneOf subset) one.asked.asks l new one.asked.passed

      here : KeepsPorts tells faults l.link new.link
      here = kept tells faults subset asks_in.went l.link new.link asks_in.passed

      keeps_on : KeepsPorts tells faults start.link new.link
      keeps_on = record {
        same_reference = here.same_reference ∙ w.keeps.same_reference;
        told = here.told ∙ w.keeps.told;
        lines = λ cloud. here.lines cloud ∙ w.keeps.lines cloud;
      }

      told_here : IsTrue (tells l.link.ports.now).told
      told_here = subst IsTrue (sym w.keeps.told) told

      others_on : (port : ℕ) → (Contains (ports_of chosen.lines) port → ⊥)
          → (tells new.link.ports.now).port port ≡ (tells l.link.ports.now).port port
      others_on port not = others tells faults subset (ports_of chosen.lines) asks_in.went l.link new.link asks_in.passed
          told_here (are_on l w.keeps subset chosen) port not

      rest_on : (cloud : ℕ) → (Contains subset cloud → ⊥) → kept_of new.kept cloud ≡ kept_of l.kept cloud
      rest_on cloud not = kept_stays tells faults subset one.asked.asks l new one.asked.passed cloud not

      rest_of : (cloud : ℕ) → (Contains (clouds_of chosen.lines) cloud → ⊥)
          → kept_of new.kept cloud ≡ kept_of l.kept cloud
      rest_of cloud not = rest_on cloud (λ has. not (subst (λ (c : List ℕ). Contains c cloud) (sym chosen.clouds) has))

      reach_on : (line : CloudNo × ℕ) → Contains chosen.lines line
          → (line_of l.link.lines.items.items line.0.0).port ≡ Some line.1
      reach_on line has = on_port l w.keeps line (of_all (Contains items) chosen.lines line chosen.among has)

      -- no line of these had ended, since none of them had refused
      live_on : (line : CloudNo × ℕ) → Contains chosen.lines line
          → (line_of l.link.lines.items.items line.0.0).ended ≡ false
      live_on line has =
          let within : Contains subset line.0.0 = subst (λ (c : List ℕ). Contains c line.0.0) chosen.clouds
          (cloud_of chosen.lines line has) in
          w.unended line.0.0 (cloud_of items line (of_all (Contains items) chosen.lines line chosen.among has))
          (λ refused. free (line.0.0, within, refused))

      module _ (among : (cloud : ℕ) → Contains subset cloud → Contains (clouds_of items) cloud)
          (rising : IsStrictlyIncreasing subset) where
        talks_on : (cloud : ℕ) → Contains (clouds_of chosen.lines) cloud
            → (before : Talk) × HasTalk (tells l.link.ports.now) l.link.lines.items.items cloud before
        talks_on cloud has =
            let within = subst (λ (c : List ℕ). Contains c cloud) chosen.clouds has in
            w.speaks cloud (among cloud within) (λ lost. free (lost_refuses tries subset cloud within lost))

        abbrev RanTo : Result (Unit {0}) RestoreErr → List ℕ → Type 0
        RanTo r clouds = RestorePassed t talk l new greeted.shape call.user (tag_in greeted.shape call.path) call.version
            clouds bytes file r

        pub stop_on : (e : RestoreErr) → RanTo (Err e) subset
            → IsStop call greeted.shape chosen.lines (kept_in l) (tells l.link.ports.now) (tells new.link.ports.now)
            (kept_in new) e
        stop_on e ran =
            stop_of tells faults l new chosen.lines reach_on live_on here.lines talks_on others_on rest_of
            (recipe_request call greeted.shape) w.recalls call greeted.shape refl
            (subst IsStrictlyIncreasing (sym chosen.clouds) rising) bytes file talk e
            (subst (λ (c : List ℕ). RanTo (Err e) c) (sym chosen.clouds) ran)

        pub fetch_on : bytes ≡ [] → RanTo (Ok tt) subset
            → IsFetch call greeted.shape chosen.lines (kept_in l) (tells l.link.ports.now) (tells new.link.ports.now) file
        fetch_on none ran =
            fetch_of tells faults l new chosen.lines reach_on live_on here.lines talks_on others_on rest_of
            (recipe_request call greeted.shape) w.recalls call greeted.shape refl
            (subst IsStrictlyIncreasing (sym chosen.clouds) rising) bytes file talk none
            (subst (λ (c : List ℕ). RanTo (Ok tt) c) (sym chosen.clouds) ran)

        -- where an ask was lost, what was said with each other cloud
        beside_on : (c : CloudNo) → result ≡ Err (errors.Lost c)
            → HaveSaidBeside call greeted.shape chosen.lines (kept_in l) (tells l.link.ports.now)
            (tells new.link.ports.now) (kept_in new) c.0
        beside_on c is line has apart =
            let chain = subst (λ (r : Result (Unit {0}) RestoreErr). Readable t l new r) is one.readable in
            let unless : line.0.0 ≡ c.0 → ⊥ = apart in
            let s = said_readable t (λ n. n ≡ c.0) chain.0 l new chain.1 line.0.0 unless in (
              s.sent,
              s.received,
              has_said tells faults l new chosen.lines reach_on live_on here.lines talks_on others_on rest_of
                  (recipe_request call greeted.shape) w.recalls (λ e. (e.cloud ≡ c.0) ⊎ IsReplyReadable e) chain.0 chain.1
                  line has s.sent s.received s.are,
            )

    -- what is told of a cloud goes on, unless its ask was lost
    speaks_on : (l new : RecallingLink P) (subset : List ℕ) (e : RestoreErr) → e ≢ errors.NoMemory
        → OneRestore t talk wanted subset bytes bytes l (Err e) new → (cloud : ℕ)
        → e ≢ errors.Lost (record { 0 = cloud }) → (before : Talk)
        → HasTalk (tells l.link.ports.now) l.link.lines.items.items cloud before
        → (after : Talk) × HasTalk (tells new.link.ports.now) new.link.lines.items.items cloud after
    speaks_on l new subset e plain one cloud apart before has =
        by_loss (RestorePassed t talk l new greeted.shape call.user (tag_in greeted.shape call.path) call.version subset
        bytes bytes (Err e)) _ e plain one.passed
        (λ ran.
        let o = on_line tells faults (λ x. IsReading x.content) cloud (map passed_on ran.said.log)
        (sent_in ran.said.log cloud) (received_in ran.said.log cloud) (said_in_log cloud ran.said.log) l new ran.passed
        before has in
        (o.after, o.has))
        (λ c is.
        let chain = subst (λ (f : RestoreErr). Readable t l new (let r : Result (Unit {0}) RestoreErr = Err f in r)) is
        one.readable in
        let unless : cloud ≡ c.0 → ⊥ = λ same. apart (is ∙ ap (λ (n : ℕ). errors.Lost (record { 0 = n })) (sym same)) in
        let s = said_readable t (λ n. n ≡ c.0) chain.0 l new chain.1 cloud unless in
        let o = on_line tells faults (λ x. (x.cloud ≡ c.0) ⊎ IsReplyReadable x) cloud chain.0 s.sent s.received s.are l new
        chain.1 before has in
        (o.after, o.has))

    walked_on : (tries : List Try) (l new : RecallingLink P) (subset : List ℕ) (e : RestoreErr) → Walked tries l
        → Contains choices subset → (HoldsRefuser tries subset → ⊥) → e ≢ errors.NoMemory
        → OneRestore t talk wanted subset bytes bytes l (Err e) new
        → Walked (tries ++ record { subset = subset; refusal = e } ∷ []) new
    walked_on tries l new subset e w is free plain one =
        let x : Try = record { subset = subset; refusal = e } in
        let among = subset_among greeted.shape.k (clouds_of items) subset is in
        let chosen = choose items subset among in
        let rising = choice_rises subset is in
        record {
          keeps = keeps_on tries l new w subset chosen free (Err e) bytes one;
          recalls = wanted_stays tells faults (ReadsOneOf subset) one.asked.asks l new one.asked.passed ∙ w.recalls;
          speaks = λ cloud has not.
              let before = w.speaks cloud has (λ lost. not (lost_more tries x cloud lost)) in
              speaks_on l new subset e plain one cloud (λ same. not (x, contains_end tries x, same)) before.0 before.1;
          unended = λ cloud has not.
              let at = line_at items cloud has in
              let on = subst (λ (n : ℕ). (line_of l.link.lines.items.items n).port ≡ Some at.line.1) at.is
              (on_port l w.keeps at.line at.has) in
              let asks = inner tells faults (λ a. IsUnread e a.cloud ⊎ IsReplyReadable a) one.readable.0 l new
              one.readable.1 in
              open_on tells faults (IsUnread e) asks.went l.link new.link asks.passed
              (subst IsTrue (sym w.keeps.told) told)
              cloud at.line.1 on (λ is. not (x, contains_end tries x, unread_refuses e cloud plain is))
              (w.unended cloud has (λ refused. not (refused_more tries x cloud refused)));
          refused = refused_on call greeted (tells start.link.ports.now) (tells l.link.ports.now)
              (tells new.link.ports.now) none_kept (kept_in l) (kept_in new) tries x
              w.refused (record {
                lines = chosen.lines;
                clouds = chosen.clouds;
                among = chosen.among;
                stopped = unlost_as (Unit {0}) (Unit {0}) e _ _
                    (λ ran. stop_on tries l new w subset chosen free (Err e) bytes one among rising e ran) one.passed;
                beside = if_lost (HaveSaidBeside call greeted.shape chosen.lines (kept_in l) (tells l.link.ports.now)
                    (tells new.link.ports.now) (kept_in new)) e
                    (λ c lost. beside_on tries l new w subset chosen free (Err e) bytes one among rising c
                    (ap (λ (f : RestoreErr). Err f) lost));
                others = others_on tries l new w subset chosen free (Err e) bytes one;
                rest = rest_on tries l new w subset chosen free (Err e) bytes one;
              });
        }

    pub walk : (done : List (List ℕ)) (tries : List Try) → GoneThrough done tries
        → ((x : List ℕ) → Contains done x → Contains choices x) → (end : RecallingLink P)
        → AllRefused t talk wanted bytes start tries end → Walked tries end
    walk done tries NoneYet within end all = subst (Walked []) (sym all) walked_none
    walk done tries (Passed front some subset gone holds) within end all =
        walk front some gone (λ x has. within x (contains_front front (subset ∷ []) x has)) end all
    walk done tries (Refused front some subset e gone free plain) within end all =
        let l = last_of t talk wanted bytes start end some (record { subset = subset; refusal = e }) all in
        walked_on some l.mid end subset e
        (walk front some gone (λ x has. within x (contains_front front (subset ∷ []) x has)) l.mid l.before)
        (within subset (contains_end front subset)) free plain l.one
