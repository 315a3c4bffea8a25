-- What one ask leaves of what was said.
use Rattle.std.proofs.Common.{◌≡◌, ◌≢◌, ℕ, ◌<◌, Bool, true, false, List, [], ◌∷◌, ◌++◌, length, Some, set, inl, inr, ◌⊎◌, refl, sym, ◌∙◌, ap, subst, append_assoc, append-nil, IsTrue, ◌≤◌, zero, suc, take, drop, bytes_eq, None, take_at, drop_at, arith, length-append}
use Rattle.std.proofs.lemmas.List.{get_or-set_same, get_or-set_other}
use Rattle.std.proofs.lemmas.Bool.{cases_eq, cases_lt}
use Rattle.std.proofs.lemmas.List.Concat.{flat_map-append}
use Rattle.user_dedup.specs.Link.{Talk, first_reply, later_replies, said}
use Rattle.user_dedup.specs.Frames.Frames.{IsContent, frame, stream, length_in}
use Rattle.std.proofs.lemmas.Slice.Eq.{bytes_eq-Decides}
use Rattle.user_dedup.proofs.Frames.FrameLaws.{one_frame, length_in-frame, length-frame}
use Rattle.user_dedup.proofs.Frames.StreamLaws.{AreContents-append}
use Rattle.transcript.specs.CdEdges.Ports.{Telling, Port, OthersStay, Sent}
use Rattle.ports_link.specs.declared.lines.CloudLine.{CloudLine}
use Rattle.ports_link.specs.Exchange.{NoFrame}
use Rattle.ports_link.specs.Lines.{AsksOn, Hears, Ends, Deaf, line_of, no_line}
use Rattle.ports_link.specs.Tells.{HasAsked, BringsReplies, HasComing, HasTalk, HasPassedOnPort}

-- ---- requests

asked_more : (bytes : List ℕ) (contents : List (List ℕ)) (request : List ℕ) → IsContent request → HasAsked bytes contents → HasAsked (bytes ++ frame request) (contents ++ request ∷ [])
asked_more bytes contents request lawful asked = record {
  lawful = AreContents-append contents (request ∷ []) asked.lawful (lawful, tt);
  spelled = ap (λ (l : List ℕ). l ++ frame request) asked.spelled ∙ ap (λ (l : List ℕ). stream contents ++ l) (sym (append-nil (frame request))) ∙ sym (flat_map-append frame contents (request ∷ []));
}

asked_on : (old new : Telling) (port : ℕ) (contents : List (List ℕ)) (request : List ℕ) → IsContent request → Sent old new port (frame request) → HasAsked (old.port port).sent contents → HasAsked (new.port port).sent (contents ++ request ∷ [])
asked_on old new port contents request lawful sent asked = subst (λ (l : List ℕ). HasAsked l (contents ++ request ∷ [])) (sym sent.went) (asked_more (old.port port).sent contents request lawful asked)

-- ---- replies

-- the first frame is the first of the replies
heard : (bytes reply left : List ℕ) (coming : List (List ℕ)) → IsContent reply → bytes ≡ frame reply ++ left → BringsReplies bytes coming → (reply ≡ first_reply coming) × BringsReplies left (later_replies coming)
heard bytes reply left [] lawful e brings = absurd (brings.none reply left lawful (sym brings.spelled ∙ e))
heard bytes reply left (r ∷ more) lawful e brings =
    let same : frame reply ++ left ≡ frame r ++ (stream more ++ brings.rest) = sym e ∙ brings.spelled ∙ append_assoc (frame r) (stream more) brings.rest in
    let both = one_frame reply r left (stream more ++ brings.rest) lawful brings.lawful.0 same in (
      both.0,
      record { lawful = brings.lawful.1; rest = brings.rest; spelled = both.1; none = brings.none },
    )

-- where no frame is to come there is no reply
silent : (bytes : List ℕ) (coming : List (List ℕ)) → NoFrame bytes → BringsReplies bytes coming → coming ≡ []
silent bytes [] none brings = refl
silent bytes (r ∷ more) none brings = absurd (none r (stream more ++ brings.rest) brings.lawful.0 (brings.spelled ∙ append_assoc (frame r) (stream more) brings.rest))

-- ---- an ask

-- what an ask leaves of the talk on its own line
pub record Left (new : Telling) (port : ℕ) (after : CloudLine) (reply : List ℕ) (request : List ℕ) (talk : Talk) : Type 0 where
  pub reply_is : reply ≡ first_reply talk.coming
  pub asked : HasAsked (new.port port).sent (talk.asked ++ request ∷ [])
  pub coming : HasComing after.ended (new.port port).to_come (later_replies talk.coming)

ended_coming : (bytes : List ℕ) (coming : List (List ℕ)) (is_ended : Bool) → is_ended ≡ true → HasComing is_ended bytes coming → coming ≡ []
ended_coming bytes coming true e has = has
ended_coming bytes coming false e has = absurd (let f : false ≡ true = e in cc)

open_coming : (bytes : List ℕ) (coming : List (List ℕ)) (is_ended : Bool) → is_ended ≡ false → HasComing is_ended bytes coming → BringsReplies bytes coming
open_coming bytes coming false e has = has
open_coming bytes coming true e has = absurd (let f : true ≡ false = e in cc)

pub left : (old new : Telling) (port : ℕ) (before after : CloudLine) (request reply : List ℕ) (talk : Talk) → IsContent request
    → HasAsked (old.port port).sent talk.asked → HasComing before.ended (old.port port).to_come talk.coming
    → AsksOn old new port before after request reply → Left new port after reply request talk
left old new port before after request reply talk lawful asked coming (Hears live same replied) =
    let bytes = open_coming (old.port port).to_come talk.coming before.ended live coming in
    let both = heard (old.port port).to_come reply (new.port port).to_come talk.coming replied.lawful (sym replied.sent.to_come ∙ replied.received.came) bytes in
    record {
      reply_is = both.0;
      asked = subst (λ (l : List ℕ). HasAsked l (talk.asked ++ request ∷ [])) (sym replied.received.sent) (asked_on old replied.between port talk.asked request lawful replied.sent asked);
      coming = subst (λ (b : Bool). HasComing b (new.port port).to_come (later_replies talk.coming)) (sym (ap (λ (l : CloudLine). l.ended) same ∙ live)) both.1;
    }
left old new port before after request reply talk lawful asked coming (Ends live now is broke) =
    let none = silent (old.port port).to_come talk.coming broke.none (open_coming (old.port port).to_come talk.coming before.ended live coming) in
    record {
      reply_is = is ∙ sym (ap first_reply none);
      asked = subst (λ (l : List ℕ). HasAsked l (talk.asked ++ request ∷ [])) (sym broke.received.sent) (asked_on old broke.between port talk.asked request lawful broke.sent asked);
      coming = subst (λ (b : Bool). HasComing b (new.port port).to_come (later_replies talk.coming)) (sym (ap (λ (l : CloudLine). l.ended) now)) (ap later_replies none);
    }
left old new port before after request reply talk lawful asked coming (Deaf dead same is sent) =
    let none = ended_coming (old.port port).to_come talk.coming before.ended dead coming in
    record {
      reply_is = is ∙ sym (ap first_reply none);
      asked = asked_on old new port talk.asked request lawful sent asked;
      coming = subst (λ (b : Bool). HasComing b (new.port port).to_come (later_replies talk.coming)) (sym (ap (λ (l : CloudLine). l.ended) same ∙ dead)) (ap later_replies none);
    }

-- ---- lines

pub some_same : (a b : ℕ) → Some a ≡ Some b → a ≡ b
some_same a b e = cc

nat_cases : (a b : ℕ) → (a ≡ b) ⊎ (a ≢ b)
nat_cases a b = elim (cases_eq a b) [
  | inl e ↦ inl e
  | inr n ↦ inr n
]

line_set : (lines : List CloudLine) (cloud : ℕ) (line : CloudLine) → cloud < length lines → line_of (set lines cloud line) cloud ≡ line
line_set lines cloud line within = get_or-set_same lines cloud line no_line within

pub line_other : (lines : List CloudLine) (cloud other : ℕ) (line : CloudLine) → other ≢ cloud → line_of (set lines cloud line) other ≡ line_of lines other
line_other lines cloud other line apart = get_or-set_other lines cloud other line no_line apart

-- a line that keeps its port leaves every cloud's port
pub port_kept : (lines : List CloudLine) (cloud : ℕ) (line : CloudLine) → cloud < length lines → line.port ≡ (line_of lines cloud).port → (a : ℕ) → (line_of (set lines cloud line) a).port ≡ (line_of lines a).port
port_kept lines cloud line within same a = elim (nat_cases a cloud) [
  | inl here ↦ subst (λ (n : ℕ). (line_of (set lines cloud line) n).port ≡ (line_of lines n).port) (sym here) (ap (λ (l : CloudLine). l.port) (line_set lines cloud line within) ∙ same)
  | inr apart ↦ ap (λ (l : CloudLine). l.port) (line_other lines cloud a line apart)
]

-- ---- the link's talk

module _ (old new : Telling) (lines : List CloudLine) (cloud port : ℕ) (within : cloud < length lines) (there : (line_of lines cloud).port ≡ Some port) (told : new.told ≡ old.told) where
  pub says : (after : CloudLine) (request reply : List ℕ) (talk : Talk) → IsContent request → after.port ≡ (line_of lines cloud).port
      → (IsTrue old.told → AsksOn old new port (line_of lines cloud) after request reply)
      → HasTalk old lines cloud talk → (reply ≡ first_reply talk.coming) × HasTalk new (set lines cloud after) cloud (said talk request)
  says after request reply talk lawful kept asks has =
      let same : has.port ≡ port = some_same has.port port (sym has.reached ∙ there) in
      let l = left old new port (line_of lines cloud) after request reply talk lawful
      (subst (λ (p : ℕ). HasAsked (old.port p).sent talk.asked) same has.asked)
      (subst (λ (p : ℕ). HasComing (line_of lines cloud).ended (old.port p).to_come talk.coming) same has.coming)
      (asks has.told) in (
        l.reply_is,
        record {
          told = rw told has.told;
          apart = λ a b p at_a at_b. has.apart a b p (sym (port_kept lines cloud after within kept a) ∙ at_a) (sym (port_kept lines cloud after within kept b) ∙ at_b);
          port = port;
          reached = port_kept lines cloud after within kept cloud ∙ there;
          asked = l.asked;
          coming = subst (λ (b : Bool). HasComing b (new.port port).to_come (later_replies talk.coming)) (sym (ap (λ (x : CloudLine). x.ended) (line_set lines cloud after within))) l.coming;
        },
      )

  -- another cloud's port is as it was
  other_port : (others : IsTrue old.told → OthersStay old new port) (other : ℕ) (talk : Talk) → other ≢ cloud → (has : HasTalk old lines other talk) → new.port has.port ≡ old.port has.port
  other_port others other talk apart has = others has.told has.port (λ e. apart (has.apart other cloud port (has.reached ∙ ap (λ (p : ℕ). Some p) e) there))

  pub still_said : (others : IsTrue old.told → OthersStay old new port) (other : ℕ) (talk : Talk) → other ≢ cloud → HasTalk old lines other talk → HasTalk new lines other talk
  still_said others other talk apart has =
      let same = other_port others other talk apart has in
      record {
        told = rw told has.told;
        apart = has.apart;
        port = has.port;
        reached = has.reached;
        asked = subst (λ (p : Port). HasAsked p.sent talk.asked) (sym same) has.asked;
        coming = subst (λ (p : Port). HasComing (line_of lines other).ended p.to_come talk.coming) (sym same) has.coming;
      }

  pub said_else : (after : CloudLine) → after.port ≡ (line_of lines cloud).port → (others : IsTrue old.told → OthersStay old new port) (other : ℕ) (talk : Talk) → other ≢ cloud → HasTalk old lines other talk → HasTalk new (set lines cloud after) other talk
  said_else after kept others other talk apart has =
      let now = still_said others other talk apart has in
      record {
        told = now.told;
        apart = λ a b p at_a at_b. now.apart a b p (sym (port_kept lines cloud after within kept a) ∙ at_a) (sym (port_kept lines cloud after within kept b) ∙ at_b);
        port = now.port;
        reached = port_kept lines cloud after within kept other ∙ now.reached;
        asked = now.asked;
        coming = subst (λ (l : CloudLine). HasComing l.ended (new.port now.port).to_come talk.coming) (sym (line_other lines cloud other after apart)) now.coming;
      }

-- ---- what an ask says of the ports

module _ (old new : Telling) (lines : List CloudLine) (cloud port : ℕ) (within : cloud < length lines) (there : (line_of lines cloud).port ≡ Some port) (others : OthersStay old new port) (now : List CloudLine) where
  -- it was answered
  pub passed : (after : CloudLine) (request reply : List ℕ) → now ≡ set lines cloud after → AsksOn old new port (line_of lines cloud) after request reply
      → (p : ℕ) → (line_of lines cloud).port ≡ Some p → HasPassedOnPort old new (line_of lines cloud) (line_of now cloud) p request (Some reply)
  passed after request reply set_so asks p here =
      let same : port ≡ p = some_same port p (sym there ∙ here) in
      let line : line_of now cloud ≡ after = ap (λ (l : List CloudLine). line_of l cloud) set_so ∙ line_set lines cloud after within in
      record {
        others = subst (λ (n : ℕ). OthersStay old new n) same others;
        heard = subst (λ (l : CloudLine). AsksOn old new p (line_of lines cloud) l request reply) (sym line)
            (subst (λ (n : ℕ). AsksOn old new n (line_of lines cloud) after request reply) same asks);
      }

  -- it was lost
  pub passed_lost : (request : List ℕ) (p : ℕ) → (line_of lines cloud).port ≡ Some p → HasPassedOnPort old new (line_of lines cloud) (line_of now cloud) p request None
  passed_lost request p here = record { others = subst (λ (n : ℕ). OthersStay old new n) (some_same port p (sym there ∙ here)) others; heard = tt }

-- ---- replies that are to come

-- the first frame of some bytes, as far as their first number says
abbrev first_content : List ℕ → List ℕ
first_content bytes = take (length_in bytes) (drop 4 bytes)

abbrev behind_first : List ℕ → List ℕ
behind_first bytes = drop (length_in bytes) (drop 4 bytes)

-- a frame in front is the one that its first number says
first_frame : (bytes content behind : List ℕ) → IsContent content → bytes ≡ frame content ++ behind → (first_content bytes ≡ content) × (behind_first bytes ≡ behind)
first_frame bytes content behind lawful e =
    let n : length_in bytes ≡ length content = ap length_in e ∙ length_in-frame content behind lawful in (
      ap (λ (l : List ℕ). take (length_in bytes) (drop 4 l)) e ∙ ap (λ (m : ℕ). take m (content ++ behind)) n ∙ take_at content behind (length content) refl,
      ap (λ (l : List ℕ). drop (length_in bytes) (drop 4 l)) e ∙ ap (λ (m : ℕ). drop m (content ++ behind)) n ∙ drop_at content behind (length content) refl,
    )

-- whether a frame stands in front
pub record Front (bytes : List ℕ) : Type 0 where
  pub content : List ℕ
  pub behind : List ℕ
  pub lawful : IsContent content
  pub is : bytes ≡ frame content ++ behind

frame_or_none : (bytes : List ℕ) → Front bytes ⊎ NoFrame bytes
frame_or_none bytes = elim (cases_lt 0 (length content)) [
  | inr empty ↦ inr (λ c behind lawful e. omega (arith, empty, lawful.0, ap length (first_frame bytes c behind lawful e).0))
  | inl some ↦ elim (cases_lt 4194304 (length content)) [
    | inl many ↦ inr (λ c behind lawful e. omega (arith, many, lawful.1, ap length (first_frame bytes c behind lawful e).0))
    | inr few ↦ by_test some few (bytes_eq bytes whole) refl
  ]
]
  where
    content : List ℕ
    content = first_content bytes

    whole : List ℕ
    whole = frame content ++ behind_first bytes

    same : (c behind : List ℕ) → IsContent c → bytes ≡ frame c ++ behind → bytes ≡ whole
    same c behind lawful e =
        let is = first_frame bytes c behind lawful e in
        e ∙ ap (λ (l : List ℕ). frame l ++ behind) (sym is.0) ∙ ap (λ (l : List ℕ). frame content ++ l) (sym is.1)

    by_test : 0 < length content → length content ≤ 4194304 → (b : Bool) → bytes_eq bytes whole ≡ b → Front bytes ⊎ NoFrame bytes
    by_test some few true e = inl (record { content = content; behind = behind_first bytes; lawful = (some, few); is = (bytes_eq-Decides bytes whole).0 e })
    by_test some few false e = inr (λ c behind lawful f. let g : true ≡ false = sym ((bytes_eq-Decides bytes whole).1 (same c behind lawful f)) ∙ e in cc)

-- the replies that are to come
pub record Brings (bytes : List ℕ) : Type 0 where
  pub contents : List (List ℕ)
  pub is : BringsReplies bytes contents

-- some replies are to come, whatever the bytes
pub brings : (bytes : List ℕ) → Brings bytes
brings bytes = go (length bytes) bytes (omega arith)
  where
    go : (fuel : ℕ) (bytes : List ℕ) → length bytes ≤ fuel → Brings bytes
    go zero bytes few = record { contents = []; is = record { lawful = tt; rest = bytes; spelled = refl; none = λ content behind lawful e. omega (arith, few, ap length e, length-append (frame content) behind, length-frame content) } }
    go (suc fuel) bytes few = elim (frame_or_none bytes) [
      | inr none ↦ record { contents = []; is = record { lawful = tt; rest = bytes; spelled = refl; none = none } }
      | inl some ↦
          let more = go fuel some.behind (omega (arith, few, ap length some.is, length-append (frame some.content) some.behind, length-frame some.content)) in
          record {
            contents = some.content ∷ more.contents;
            is = record {
              lawful = (some.lawful, more.is.lawful);
              rest = more.is.rest;
              spelled = some.is ∙ ap (λ (l : List ℕ). frame some.content ++ l) more.is.spelled ∙ sym (append_assoc (frame some.content) (stream more.contents) more.is.rest);
              none = more.is.none;
            };
          }
    ]
