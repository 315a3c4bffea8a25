-- Clouds that were greeted, in the order of their numbers.
use Rattle.std.proofs.Common.{◌≡◌, ◌≢◌, ℕ, suc, ◌+◌, ◌<◌, ◌≤◌, Bool, true, false, List, [], ◌∷◌, ◌++◌, length, refl}
use Rattle.std.proofs.Common.{sym, ap, ◌∙◌, subst, arith}
use Rattle.std.proofs.Common.{IsTrue, set, replicate, length-set}
use Rattle.std.specs.Prelude.{All}
use Rattle.std.specs.List.{Contains}
use Rattle.std.proofs.lemmas.List.{get_or-set_same, get_or-set_other, length-replicate, length_push}
use Rattle.std.proofs.lemmas.List.Elements.{All-nil, All-cons, All-head, All-tail}
use Rattle.ports_link.proofs.UserDedup.Owned.{contains_here, contains_later}
use Rattle.ports_link.proofs.CloudLists.{line_on}
use Rattle.ports_link.proofs.Talks.{some_same}
use Rattle.transcript.specs.CdBase.ids.CloudNo.{CloudNo}
use Rattle.transcript.specs.CdEdges.Ports.{Telling}
use Rattle.ports_link.specs.declared.lines.CloudLine.{CloudLine}
use Rattle.ports_link.specs.declared.link.PortsLink.{PortsLink}
use Rattle.ports_link.specs.Lines.{no_line, line_of, with_ports, lines_for, has_port}
use Rattle.ports_link.specs.Tells.{BringsReplies, HasComing, HasTalk}
use Rattle.ports_link.specs.declared.judging.AskedClouds.TheVariants.{Backup}
use Rattle.ports_link.specs.declared.judging.Greeting.{Greeting}
use Rattle.ports_link.specs.Dialled.{ArePortsApart}
use Rattle.ports_link.specs.Greetings.{AreAsAsked}
use Rattle.ports_link.specs.Hellos.{HaveTalks, clouds_of, lines_by}
use Rattle.backup_command.specs.Said.{greeted}
use Rattle.backup_command.specs.Lanes.{numbered}
use Rattle.backup_command.specs.Steps.{AreGreetedOn, AreReady, IsCloudReady, ports_of}

-- ---- numbers in order

pub numbered_by : (count : ℕ) (before gs : List Greeting) (ports : List ℕ) → AreAsAsked Backup count before gs
    → length gs ≡ length ports → lines_by gs ports ≡ numbered (length before) ports
numbered_by count before [] [] as_asked long = refl
numbered_by count before [] (port ∷ ports) as_asked long = absurd (omega (arith, long))
numbered_by count before (g ∷ gs) [] as_asked long = absurd (omega (arith, long))
numbered_by count before (g ∷ gs) (port ∷ ports) as_asked long =
    ap (λ (n : ℕ). let cloud : CloudNo = record { 0 = n } in (cloud, port) ∷ lines_by gs ports) as_asked.0.place.1
    ∙ ap (λ (l : List (CloudNo × ℕ)). let cloud : CloudNo = record { 0 = length before } in (cloud, port) ∷ l)
    (numbered_by count (before ++ g ∷ []) gs ports as_asked.1 (omega (arith, long))
    ∙ ap (λ (n : ℕ). numbered n ports) (length_push before g))

pub ports_numbered : (cloud : ℕ) (ports : List ℕ) → ports_of (numbered cloud ports) ≡ ports
ports_numbered cloud [] = refl
ports_numbered cloud (port ∷ ports) = ap (λ (l : List ℕ). port ∷ l) (ports_numbered (cloud + 1) ports)

pub long_numbered : (cloud : ℕ) (ports : List ℕ) → length (numbered cloud ports) ≡ length ports
long_numbered cloud [] = refl
long_numbered cloud (port ∷ ports) = ap suc (long_numbered (cloud + 1) ports)

other_clouds : (first cloud : ℕ) (ports : List ℕ) → first < cloud
    → All (λ other. other ≢ first) (clouds_of (numbered cloud ports))
other_clouds first cloud [] less = All-nil _
other_clouds first cloud (port ∷ ports) less =
    All-cons (λ other. other ≢ first) cloud (clouds_of (numbered (cloud + 1) ports)) (λ e. omega (arith, less, e))
    (other_clouds first (cloud + 1) ports (omega (arith, less)))

pub numbered_apart : (cloud : ℕ) (ports : List ℕ) → ArePortsApart (clouds_of (numbered cloud ports))
numbered_apart cloud [] = tt
numbered_apart cloud (port ∷ ports) =
    (other_clouds cloud (cloud + 1) ports (omega arith), numbered_apart (cloud + 1) ports)

pub numbered_below : (cloud n : ℕ) (ports : List ℕ) → cloud + length ports ≤ n
    → All (λ (line : CloudNo × ℕ). line.0.0 < n) (numbered cloud ports)
numbered_below cloud n [] le = All-nil _
numbered_below cloud n (port ∷ ports) le =
    All-cons (λ (line : CloudNo × ℕ). line.0.0 < n) (record { 0 = cloud }, port) (numbered (cloud + 1) ports)
    (omega (arith, le)) (numbered_below (cloud + 1) n ports (omega (arith, le)))

-- lists that are numbered alike are one
pub few_dialled : (dialled other : List ℕ) (n : ℕ) → numbered 0 dialled ≡ numbered 0 other → length other ≡ n → n ≤ 16
    → length dialled ≤ 256
few_dialled dialled other n same long few =
    let one : dialled ≡ other = sym (ports_numbered 0 dialled) ∙ ap ports_of same ∙ ports_numbered 0 other in
    subst (λ (l : List ℕ). length l ≤ 256) (sym one) (omega (arith, long, few))

-- ---- a link over their lines

kept_line : (base : List CloudLine) (lines : List (CloudNo × ℕ)) (cloud : ℕ)
    → All (λ other. other ≢ cloud) (clouds_of lines) → line_of (with_ports base lines) cloud ≡ line_of base cloud
kept_line base [] cloud apart = refl
kept_line base (line ∷ lines) cloud apart =
    kept_line (set base line.0.0 (line_on line.1)) lines cloud
    (All-tail (λ other. other ≢ cloud) line.0.0 (clouds_of lines) apart)
    ∙ get_or-set_other base line.0.0 cloud (line_on line.1) no_line
    (λ e. All-head (λ other. other ≢ cloud) line.0.0 (clouds_of lines) apart (sym e))

reached_by : (base : List CloudLine) (lines : List (CloudNo × ℕ)) → length base ≡ 256
    → All (λ (line : CloudNo × ℕ). line.0.0 < 256) lines → ArePortsApart (clouds_of lines)
    → All (λ (line : CloudNo × ℕ). line_of (with_ports base lines) line.0.0 ≡ line_on line.1) lines
reached_by base [] long few apart = All-nil _
reached_by base (line ∷ lines) long few apart =
    All-cons (λ (l : CloudNo × ℕ). line_of (with_ports next lines) l.0.0 ≡ line_on l.1) line lines
    (kept_line next lines line.0.0 apart.0
    ∙ get_or-set_same base line.0.0 (line_on line.1) no_line
    (omega (arith, long, All-head (λ (l : CloudNo × ℕ). l.0.0 < 256) line lines few)))
    (reached_by next lines (length-set base line.0.0 (line_on line.1) ∙ long)
    (All-tail (λ (l : CloudNo × ℕ). l.0.0 < 256) line lines few) apart.1)
  where
    next : List CloudLine
    next = set base line.0.0 (line_on line.1)

pub lines_reach : (dialled : List ℕ) → length dialled ≤ 256
    → All (λ (line : CloudNo × ℕ). line_of (lines_for (numbered 0 dialled)) line.0.0 ≡ line_on line.1)
    (numbered 0 dialled)
lines_reach dialled few = reached_by (replicate 256 no_line) (numbered 0 dialled) (length-replicate 256 no_line)
    (numbered_below 0 256 dialled (omega (arith, few))) (numbered_apart 0 dialled)

-- each of these clouds has a port
pub have_ports : (lines : List CloudLine) (part : List (CloudNo × ℕ))
    → All (λ (line : CloudNo × ℕ). line_of lines line.0.0 ≡ line_on line.1) part
    → All (λ (line : CloudNo × ℕ). IsTrue (has_port lines line.0.0)) part
have_ports lines [] reach = All-nil _
have_ports lines (line ∷ part) reach =
    let Is : CloudNo × ℕ → Type 0 = λ l. line_of lines l.0.0 ≡ line_on l.1 in
    All-cons (λ (l : CloudNo × ℕ). IsTrue (has_port lines l.0.0)) line part (has (All-head Is line part reach))
    (have_ports lines part (All-tail Is line part reach))
  where
    has : line_of lines line.0.0 ≡ line_on line.1 → IsTrue (has_port lines line.0.0)
    has e = rw e refl

pub open_coming : (is_ended : Bool) (bytes : List ℕ) (coming : List (List ℕ)) → is_ended ≡ false
    → HasComing is_ended bytes coming → BringsReplies bytes coming
open_coming false bytes coming e has = has
open_coming true bytes coming e has = absurd (let f : true ≡ false = e in cc)

-- ---- ready

module _ {P : Type 0} (tells : P → Telling) (link : PortsLink P) (behind : Telling) (dialled : List ℕ) where
  abbrev all : List (CloudNo × ℕ)
  all = numbered 0 dialled

  one_ready : (line : CloudNo × ℕ) → tells link.ports.now ≡ behind → link.lines.items.items ≡ lines_for all
      → line_of (lines_for all) line.0.0 ≡ line_on line.1 → (IsTrue behind.told → HaveTalks behind all)
      → Contains (clouds_of all) line.0.0 → IsCloudReady behind tells link line
  one_ready line here lines reach talks has = record {
    port = ap (λ (l : List CloudLine). (line_of l line.0.0).port) lines ∙ ap (λ (l : CloudLine). l.port) reach;
    talk = λ told.
        let t = talks told line.0.0 has in
        let same : t.1.port ≡ line.1 = some_same t.1.port line.1 (sym t.1.reached
        ∙ ap (λ (l : CloudLine). l.port) reach) in (
          t.0,
          subst (λ (n : ℕ). BringsReplies (behind.port n).to_come t.0) same
              (open_coming (line_of (lines_for all) line.0.0).ended (behind.port t.1.port).to_come t.0
              (ap (λ (l : CloudLine). l.ended) reach) t.1.coming),
          subst (λ (x : Telling). HasTalk x link.lines.items.items line.0.0 (greeted t.0)) (sym here)
              (subst (λ (l : List CloudLine). HasTalk behind l line.0.0 (greeted t.0)) (sym lines) t.1),
        );
  }

  each_ready : (part : List (CloudNo × ℕ)) → tells link.ports.now ≡ behind → link.lines.items.items ≡ lines_for all
      → All (λ (line : CloudNo × ℕ). line_of (lines_for all) line.0.0 ≡ line_on line.1) part
      → (IsTrue behind.told → HaveTalks behind all)
      → ((cloud : ℕ) → Contains (clouds_of part) cloud → Contains (clouds_of all) cloud)
      → All (IsCloudReady behind tells link) part
  each_ready [] here lines reach talks within = All-nil _
  each_ready (line ∷ part) here lines reach talks within =
      let Is : CloudNo × ℕ → Type 0 = λ l. line_of (lines_for all) l.0.0 ≡ line_on l.1 in
      All-cons (IsCloudReady behind tells link) line part
      (one_ready line here lines (All-head Is line part reach) talks
      (within line.0.0 (contains_here line.0.0 (clouds_of part))))
      (each_ready part here lines (All-tail Is line part reach) talks
      (λ cloud c. within cloud (contains_later line.0.0 (clouds_of part) cloud c)))

  pub are_ready : tells link.ports.now ≡ behind → link.lines.items.items ≡ lines_for all → length dialled ≤ 256
      → AreGreetedOn behind dialled all → AreReady behind tells link all
  are_ready here lines few on = record {
    told = ap (λ (t : Telling). t.told) here;
    clouds = numbered_apart 0 dialled;
    ports = λ told. subst ArePortsApart (sym (ports_numbered 0 dialled)) (on.apart told);
    each = each_ready all here lines (lines_reach dialled few) on.talks (λ cloud c. c);
  }
