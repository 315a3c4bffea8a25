-- What was said with the clouds of a link to ports, on their ports.
use Rattle.std.proofs.Common.{◌≡◌, ℕ, Bool, false, List, [], ◌∷◌, ◌++◌, length, drop, map, Some, Result, Ok, Err, sym, ◌∙◌, ap, subst}
use Rattle.std.specs.List.{Contains}
use Rattle.std.specs.List.Sorted.{IsStrictlyIncreasing}
use Rattle.std.proofs.lemmas.List.Concat.{flat_map-append}
use Rattle.ports_link.specs.CdBase.Numbers.{numbers_of}
use Rattle.ports_link.specs.CdBase.ids.CloudNo.{CloudNo}
use Rattle.ports_link.specs.CdBase.ids.UserId.{UserId}
use Rattle.ports_link.specs.CdBase.ids.Version.{Version}
use Rattle.ports_link.specs.CdBase.shape.Shape.{Shape}
use Rattle.ports_link.specs.Frames.Frames.{AreContents, frame, stream}
use Rattle.ports_link.specs.CdEdges.Ports.{Telling}
use Rattle.ports_link.proofs.Talks.{some_same}
use Rattle.ports_link.specs.UserDedup.Link.{Exchange, IsReading, Passes, Talk}
use Rattle.ports_link.specs.declared.lines.CloudLine.{CloudLine}
use Rattle.ports_link.specs.Lines.{line_of}
use Rattle.ports_link.specs.Tells.{HasComing, HasTalk}
use Rattle.subset_restore.specs.RestoreJob.Exchanges.{CloudExchange, PassesAll, RestorePassed, passed_on}
use Rattle.subset_restore.specs.RestoreJob.error.RestoreErr.{RestoreErr}
use Rattle.ports_link.specs.Hellos.{clouds_of}
use Rattle.restore_command.specs.Fetched.{Fetched}
use Rattle.restore_command.specs.Stopped.{Stopped}
use Rattle.restore_command.specs.Talks.{HasHeard, received_in, sent_in}
use Rattle.restore_command.proofs.Recalled.{SaidWith, on_line, said_in_log}
use Rattle.restore_command.proofs.Whole.{fetched_file, stopped_fetch}
use Rattle.subset_restore.proofs.Elements.{all_of}
use Rattle.restore_command.specs.Calls.{RestoreCall, named_in, ports_of, tag_in}
use Rattle.restore_command.specs.declared.recalling.RecallingLink.{RecallingLink}
use Rattle.restore_command.specs.Recalling.{kept_of, recalling}
use Rattle.restore_command.specs.Spoken.{AreRecalled, HasSaid, HasTalked, HaveTalked, KeptReply, none_ended}
use Rattle.restore_command.specs.Tried.{IsFetch, IsStop, recipe_request}
use Rattle.restore_command.proofs.Choosing.{cloud_of}
use Rattle.restore_command.proofs.Lines.{numbers_in, same_clouds}

-- ---- one cloud

contents_behind : (one two : List (List ℕ)) → AreContents (one ++ two) → AreContents two
contents_behind [] two are = are
contents_behind (a ∷ one) two are = contents_behind one two are.1

talked : (t u : Telling) (first last : List CloudLine) (line : CloudNo × ℕ) (before after : Talk)
    (sent received : List (List ℕ))
    → (line_of first line.0.0).port ≡ Some line.1 → (line_of last line.0.0).port ≡ (line_of first line.0.0).port
    → HasTalk t first line.0.0 before → HasTalk u last line.0.0 after → HasHeard before after sent received
    → HasTalked t u line.1 (line_of first line.0.0).ended sent received
talked t u first last line before after sent received is kept had has h =
    let here : had.port ≡ line.1 = some_same had.port line.1 (sym had.reached ∙ is) in
    let there : has.port ≡ line.1 = some_same has.port line.1 (sym has.reached ∙ kept ∙ is) in
    record {
      lawful = contents_behind before.asked sent (subst AreContents h.asked has.asked.lawful);
      went = ap (λ (p : ℕ). (u.port p).sent) (sym there) ∙ has.asked.spelled ∙ ap stream h.asked
          ∙ flat_map-append frame before.asked sent ∙ ap (λ (l : List ℕ). l ++ stream sent) (sym had.asked.spelled)
          ∙ ap (λ (p : ℕ). (t.port p).sent ++ stream sent) here;
      coming = before.coming;
      brings = subst (λ (p : ℕ). HasComing (line_of first line.0.0).ended (t.port p).to_come before.coming) here
          had.coming;
      heard = h.heard;
      ended = (line_of last line.0.0).ended;
      left = subst (λ (p : ℕ). HasComing (line_of last line.0.0).ended (u.port p).to_come
          (drop (length sent) before.coming)) there
          (subst (λ (l : List (List ℕ)). HasComing (line_of last line.0.0).ended (u.port has.port).to_come l) h.left
          has.coming);
    }

-- ---- all clouds

-- what is kept of each cloud
abbrev pub kept_in : {P : Type 0} → RecallingLink P → KeptReply
kept_in l cloud = kept_of l.kept cloud

module _ {P : Type 0} (tells : P → Telling) (faults : P → ℕ) (old new : RecallingLink P) (named : List (CloudNo × ℕ))
    (reach : (line : CloudNo × ℕ) → Contains named line → (line_of old.link.lines.items.items line.0.0).port ≡ Some line.1)
    (live : (line : CloudNo × ℕ) → Contains named line → (line_of old.link.lines.items.items line.0.0).ended ≡ false)
    (still : (cloud : ℕ) → (line_of new.link.lines.items.items cloud).port ≡ (line_of old.link.lines.items.items cloud).port)
    (talks : (cloud : ℕ) → Contains (clouds_of named) cloud
    → (before : Talk) × HasTalk (tells old.link.ports.now) old.link.lines.items.items cloud before)
    (others : (port : ℕ) → (Contains (ports_of named) port → ⊥)
    → (tells new.link.ports.now).port port ≡ (tells old.link.ports.now).port port)
    (rest : (cloud : ℕ) → (Contains (clouds_of named) cloud → ⊥) → kept_of new.kept cloud ≡ kept_of old.kept cloud)
    (wanted : List ℕ) (wanted_is : old.wanted ≡ wanted) where
  abbrev before_it : Telling
  before_it = tells old.link.ports.now

  abbrev behind_it : Telling
  behind_it = tells new.link.ports.now

  -- what was said with one of these clouds, by some asks of all
  pub has_said : (Is : Exchange → Type 0) (es : List Exchange) → Passes (recalling tells faults) Is old es new
      → (line : CloudNo × ℕ) → Contains named line → (sent received : List (List ℕ)) → SaidWith line.0.0 es sent received
      → HasSaid before_it behind_it line.1 false wanted (kept_of old.kept line.0.0) (kept_of new.kept line.0.0) sent received
  has_said Is es chain line has sent received said =
      let there = talks line.0.0 (cloud_of named line has) in
      let l = on_line tells faults Is line.0.0 es sent received said old new chain there.0 there.1 in
      record {
        went = l.went;
        came = l.came;
        recalled = subst (λ (w : List ℕ). AreRecalled w (kept_of old.kept line.0.0) sent received l.went l.came
            (kept_of new.kept line.0.0)) wanted_is l.recalled;
        talked = subst (λ (b : Bool). HasTalked before_it behind_it line.1 b l.went l.came) (live line has)
            (talked before_it behind_it old.link.lines.items.items new.link.lines.items.items line there.0 l.after l.went
            l.came (reach line has) (still line.0.0) there.1 l.has l.heard);
      }

  have_talked : (log : List CloudExchange) → PassesAll (recalling tells faults) old new log
      → HaveTalked before_it behind_it named none_ended wanted (kept_in old) (kept_in new) (sent_in log) (received_in log)
  have_talked log chain = record {
    each = all_of (λ (line : CloudNo × ℕ). HasSaid before_it behind_it line.1 false wanted (kept_of old.kept line.0.0)
        (kept_of new.kept line.0.0) (sent_in log line.0.0) (received_in log line.0.0)) named (λ line has.
        has_said (λ e. IsReading e.content) (map passed_on log) chain line has (sent_in log line.0.0)
        (received_in log line.0.0) (said_in_log line.0.0 log));
    others = others;
    rest = rest;
  }

  -- ---- by the result

  module _ (call : RestoreCall) (shape : Shape) (asked : wanted ≡ recipe_request call shape)
      (rises : IsStrictlyIncreasing (clouds_of named)) (bytes file : List ℕ)
      (talk : RecallingLink P → ℕ → Talk → Type 0) where
    -- the clouds that were chosen are those of the lines
    chosen_in : (chosen : List CloudNo) → numbers_of chosen ≡ clouds_of named → chosen ≡ named_in named
    chosen_in chosen e = same_clouds chosen (named_in named) (e ∙ sym (numbers_in named))

    rise : (chosen : List CloudNo) → numbers_of chosen ≡ clouds_of named → IsStrictlyIncreasing (numbers_of chosen)
    rise chosen are = subst IsStrictlyIncreasing (sym are) rises

    abbrev RanTo : Result (Unit {0}) RestoreErr → Type 0
    RanTo result = RestorePassed (recalling tells faults) talk old new shape call.user (tag_in shape call.path) call.version
        (clouds_of named) bytes file result

    -- what was said, with the request of the call
    talked_so : (log : List CloudExchange) → PassesAll (recalling tells faults) old new log
        → HaveTalked before_it behind_it named none_ended (recipe_request call shape) (kept_in old) (kept_in new)
        (sent_in log) (received_in log)
    talked_so log chain = subst (λ (w : List ℕ). HaveTalked before_it behind_it named none_ended w (kept_in old) (kept_in new)
        (sent_in log) (received_in log)) asked (have_talked log chain)

    pub stop_of : (e : RestoreErr) → RanTo (Err e)
        → IsStop call shape named (kept_in old) before_it behind_it (kept_in new) e
    stop_of e ran =
        let said = ran.said in
        record {
          sent = sent_in said.log;
          received = received_in said.log;
          talked = talked_so said.log ran.passed;
          stopped = subst (λ (clouds : List CloudNo). Stopped shape call.user (tag_in shape call.path) call.version clouds
              (sent_in said.log) (received_in said.log) e)
              (chosen_in said.chosen said.chosen_are)
              (stopped_fetch shape call.user (tag_in shape call.path) call.version said.chosen said.log bytes said.left e
              (rise said.chosen said.chosen_are) said.run);
        }

    pub fetch_of : bytes ≡ [] → RanTo (Ok tt) → IsFetch call shape named (kept_in old) before_it behind_it file
    fetch_of none ran =
        let said = ran.said in
        let came = fetched_file shape call.user (tag_in shape call.path) call.version said.chosen said.log bytes said.left
        (rise said.chosen said.chosen_are) said.run in
        record {
          sent = sent_in said.log;
          received = received_in said.log;
          kept_after = kept_in new;
          talked = talked_so said.log ran.passed;
          fetched = subst (λ (clouds : List CloudNo). Fetched shape call.user (tag_in shape call.path)
              call.version clouds (sent_in said.log) (received_in said.log) file)
              (chosen_in said.chosen said.chosen_are)
              (subst (λ (l : List ℕ). Fetched shape call.user (tag_in shape call.path) call.version said.chosen
              (sent_in said.log) (received_in said.log) l)
              (sym (said.stands ∙ came.1 ∙ ap (λ (l : List ℕ). l ++ came.0) none)) came.2);
        }

-- what holds of what was asked for holds of the call
pub at_call : (Q : UserId → List ℕ → Version → Type 0) (call : RestoreCall) (user : UserId) (path : List ℕ) (version : Version)
    → call.user ≡ user → call.path ≡ path → call.version ≡ version → Q user path version
    → Q call.user call.path call.version
at_call Q call user path version e f h q =
    subst (λ (u : UserId). Q u call.path call.version) (sym e)
    (subst (λ (p : List ℕ). Q user p call.version) (sym f) (subst (λ (v : Version). Q user path v) (sym h) q))
