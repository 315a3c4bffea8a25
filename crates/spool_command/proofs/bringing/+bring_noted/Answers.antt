use Rattle.std.proofs.Common.{◌≡◌, ◌<◌, ℕ, Bool, List, ◌∷◌, length, Ok, Err, IsTrue, sym, ap, ◌∙◌, subst, arith}
use Rattle.std.specs.Prelude.{All}
use Rattle.std.proofs.lemmas.List.Elements.{All-head, All-tail}
use Rattle.std.specs.List.{Contains}
use Rattle.upload_spool.specs.CdBase.ids.CloudNo.{CloudNo}
use Rattle.upload_spool.specs.CdBase.shape.Shape.{Shape}
use Rattle.backup_command.specs.LaneSteps.Reached.{IsReached}
use Rattle.upload_spool.specs.States.{state_of, IsJobOf}
use Rattle.backup_command.specs.PortsLink.Tells.{telling}
use Rattle.backup_command.specs.Steps.{AreReady, IsCloudReady, ports_of}
use Rattle.backup_command.proofs.Joining.{rest_ready, not_here}
use Rattle.backup_command.specs.Sends.{IsAskOn, SendsOn}
use Rattle.backup_command.proofs.Pieces.{first_line, later_lines, on_none, on_twice}
use Rattle.backup_command.proofs.LaneSteps.Reaching.{reached_len}
use Rattle.backup_command.proofs.PortsLinkLaws.CloudLists.{not_first, not_later}
use Rattle.spool_command.specs.declared.interruption.Interruption.{Interruption}
use Rattle.spool_command.specs.Noted.{NotedWent}
use Rattle.spool_command.proofs.Joining.{went_none, went_more, went_stopped, went_unnoted}
use Rattle.spool_command.proofs.bringing.+bring_noted.Goals as goal

pub returns-in_default-clause-went : goal.returns-in_default-clause-went
returns-in_default-clause-went g t c = λ behind ready.
    let cloud = g.V.Shelf.cloud_at c.args.shelf.now 0 in
    let state = state_of c.args.spool.now in
    subst (λ (ls : List (CloudNo × ℕ)). NotedWent behind (g.P.Ports.tells c.args.link.now.ports.now) ls c.args.job.now (Ok tt) c.args.job.now c.args.text.now c.args.text.now state state cloud cloud) (sym c.in_default.ensures)
    (went_none behind (g.P.Ports.tells c.args.link.now.ports.now) c.args.job.now c.args.text.now state cloud)

pub returns-in-Err-clause-went : goal.returns-in-Err-clause-went
returns-in-Err-clause-went g t c = λ behind ready.
    let tells = g.P.Ports.tells in
    let cloud = g.V.Shelf.cloud_at c.args.shelf.now 0 in
    let state = state_of c.args.spool.now in
    let old = c.args.link.now in
    let new = c.bring_one.new.link in
    let line : CloudNo × ℕ = c.in-Some.line in
    let rest = c.in-Some.more.now in
    let e = c.in-Some.ensures in
    let r = subst (AreReady behind tells old) e ready in
    subst (λ (ls : List (CloudNo × ℕ)). NotedWent behind (tells new.ports.now) ls c.args.job.now (Err c.interruption.result) c.bring_one.new.job c.args.text.now c.bring_one.new.text state state cloud cloud) (sym e)
    (subst (λ (w : Interruption). NotedWent behind (tells new.ports.now) (line ∷ rest) c.args.job.now (Err w) c.bring_one.new.job c.args.text.now c.bring_one.new.text state state cloud cloud) (sym c.interruption.ensures)
    (went_stopped tells behind old new line rest c.args.job.now c.bring_one.new.job c.in-Err.halt c.args.text.now c.bring_one.new.text state cloud r c.in-Err.ensures.leaves
    (c.in-Err.ensures.goes behind line.1 r.told (All-head (IsCloudReady behind tells old) line rest r.each))))

pub returns-in-Err-clause-others : goal.returns-in-Err-clause-others
returns-in-Err-clause-others g t c = λ behind ready told port none.
    let tells = g.P.Ports.tells in
    let old = c.args.link.now in
    let line : CloudNo × ℕ = c.in-Some.line in
    let rest = c.in-Some.more.now in
    let e = c.in-Some.ensures in
    let r = subst (AreReady behind tells old) e ready in
    let first = All-head (IsCloudReady behind tells old) line rest r.each in
    c.in-Err.ensures.leaves.others (subst IsTrue (sym r.told) told) line.1 first.port port
    (not_first line rest port (subst (λ (ls : List (CloudNo × ℕ)). ¬ Contains (ports_of ls) port) e none))

pub returns-in-Err-note_lane-clause-went : goal.returns-in-Err-note_lane-clause-went
returns-in-Err-note_lane-clause-went g t c = λ behind ready.
    let tells = g.P.Ports.tells in
    let cloud = g.V.Shelf.cloud_at c.args.shelf.now 0 in
    let left = g.V.Shelf.cloud_at c.note_lane.new.shelf 0 in
    let before = state_of c.args.spool.now in
    let after = state_of c.note_lane.new.spool in
    let old = c.args.link.now in
    let new = c.bring_one.new.link in
    let line : CloudNo × ℕ = c.in-Some.line in
    let rest = c.in-Some.more.now in
    let e = c.in-Some.ensures in
    let r = subst (AreReady behind tells old) e ready in
    let first = All-head (λ (l : CloudNo × ℕ). l.0.0 < c.args.link.now.shape.n) line rest (subst (λ (ls : List (CloudNo × ℕ)). All (λ (l : CloudNo × ℕ). l.0.0 < c.args.link.now.shape.n) ls) e c.requires.below) in
    let lt = subst (λ (n : ℕ). line.0.0 < n) (sym (reached_len c.args.link.now.shape c.args.job.now c.requires.reached)) first in
    subst (λ (ls : List (CloudNo × ℕ)). NotedWent behind (tells new.ports.now) ls c.args.job.now (Err c.in-Err-note_lane.why) c.bring_one.new.job c.args.text.now c.bring_one.new.text before after cloud left) (sym e)
    (went_unnoted tells behind old new line rest c.args.job.now c.bring_one.new.job c.in-Err-note_lane.why c.args.text.now c.bring_one.new.text before after cloud left lt r c.in-Ok.ensures.leaves
    (c.in-Ok.ensures.goes behind line.1 r.told (All-head (IsCloudReady behind tells old) line rest r.each))
    c.in-Err-note_lane.ensures.notes c.in-Err-note_lane.ensures.kept c.in-Err-note_lane.ensures.shape)

pub returns-in-Err-note_lane-clause-others : goal.returns-in-Err-note_lane-clause-others
returns-in-Err-note_lane-clause-others g t c = λ behind ready told port none.
    let tells = g.P.Ports.tells in
    let old = c.args.link.now in
    let line : CloudNo × ℕ = c.in-Some.line in
    let rest = c.in-Some.more.now in
    let e = c.in-Some.ensures in
    let r = subst (AreReady behind tells old) e ready in
    let first = All-head (IsCloudReady behind tells old) line rest r.each in
    c.in-Ok.ensures.leaves.others (subst IsTrue (sym r.told) told) line.1 first.port port
    (not_first line rest port (subst (λ (ls : List (CloudNo × ℕ)). ¬ Contains (ports_of ls) port) e none))

pub returns-clause-went : goal.returns-clause-went
returns-clause-went g t c = λ behind ready.
    let tells = g.P.Ports.tells in
    let at = g.V.Shelf.cloud_at in
    let old = c.args.link.now in
    let mid = c.bring_one.new.link in
    let new = c.bring_noted.new.link in
    let line : CloudNo × ℕ = c.in-Some.line in
    let rest = c.in-Some.more.now in
    let e = c.in-Some.ensures in
    let r = subst (AreReady behind tells old) e ready in
    let next = rest_ready tells behind old mid line rest r c.in-Ok.ensures.leaves c.in-Ok.ensures.talks in
    let first = All-head (λ (l : CloudNo × ℕ). l.0.0 < c.args.link.now.shape.n) line rest (subst (λ (ls : List (CloudNo × ℕ)). All (λ (l : CloudNo × ℕ). l.0.0 < c.args.link.now.shape.n) ls) e c.requires.below) in
    let lt = subst (λ (n : ℕ). line.0.0 < n) (sym (reached_len c.args.link.now.shape c.args.job.now c.requires.reached)) first in
    subst (λ (ls : List (CloudNo × ℕ)). NotedWent behind (tells new.ports.now) ls c.args.job.now c.bring_noted.result c.bring_noted.new.job c.args.text.now c.bring_noted.new.text (state_of c.args.spool.now) (state_of c.bring_noted.new.spool)
    (at c.args.shelf.now 0) (at c.bring_noted.new.shelf 0)) (sym e)
    (went_more behind (tells mid.ports.now) (tells new.ports.now) line rest c.args.job.now c.bring_one.new.job c.bring_noted.new.job c.bring_noted.result c.args.text.now c.bring_one.new.text c.bring_noted.new.text
    (state_of c.args.spool.now) (state_of c.note_lane.new.spool) (state_of c.bring_noted.new.spool) (at c.args.shelf.now 0) (at c.note_lane.new.shelf 0) (at c.bring_noted.new.shelf 0) lt
    (λ told. c.bring_noted.ensures.others behind next told line.1 (not_here line rest (r.ports told)))
    (c.in-Ok.ensures.goes behind line.1 r.told (All-head (IsCloudReady behind tells old) line rest r.each))
    c.in-Ok-note_lane.ensures.notes c.in-Ok-note_lane.ensures.kept c.in-Ok-note_lane.ensures.shape c.in-Ok-note_lane.ensures.call.told
    (c.bring_noted.ensures.went behind next))

pub returns-clause-others : goal.returns-clause-others
returns-clause-others g t c = λ behind ready told port none.
    let tells = g.P.Ports.tells in
    let old = c.args.link.now in
    let mid = c.bring_one.new.link in
    let line : CloudNo × ℕ = c.in-Some.line in
    let rest = c.in-Some.more.now in
    let e = c.in-Some.ensures in
    let r = subst (AreReady behind tells old) e ready in
    let next = rest_ready tells behind old mid line rest r c.in-Ok.ensures.leaves c.in-Ok.ensures.talks in
    let first = All-head (IsCloudReady behind tells old) line rest r.each in
    let away = subst (λ (ls : List (CloudNo × ℕ)). ¬ Contains (ports_of ls) port) e none in
    c.bring_noted.ensures.others behind next told port (not_later line rest port away)
    ∙ c.in-Ok.ensures.leaves.others (subst IsTrue (sym r.told) told) line.1 first.port port
    (not_first line rest port away)

pub note_lane-requires-clause-long : goal.note_lane-requires-clause-long
note_lane-requires-clause-long g t c =
    let line : CloudNo × ℕ = c.in-Some.line in
    let rest = c.in-Some.more.now in
    let shape = c.args.link.now.shape in
    let first = All-head (λ (l : CloudNo × ℕ). l.0.0 < shape.n) line rest (subst (λ (ls : List (CloudNo × ℕ)). All (λ (l : CloudNo × ℕ). l.0.0 < shape.n) ls) c.in-Some.ensures c.requires.below) in
    subst (λ (n : ℕ). line.0.0 < n) (sym (reached_len shape c.bring_one.new.job c.in-Ok.ensures.reached)) first

pub bring_noted-requires : goal.bring_noted-requires
bring_noted-requires g t c κs within =
    let rest = c.in-Some.more.now in
    let line : CloudNo × ℕ = c.in-Some.line in
    let e = c.in-Some.ensures in
    let long : length c.args.lines.now ≡ length (line ∷ rest) = ap length e in
    let shape = c.in-Ok.ensures.shape in
    let old_shape = c.args.link.now.shape in
    let below = All-tail (λ (l : CloudNo × ℕ). l.0.0 < old_shape.n) line rest
    (subst (λ (ls : List (CloudNo × ℕ)). All (λ (l : CloudNo × ℕ). l.0.0 < old_shape.n) ls) e c.requires.below) in
    let reaches = (telling g.P.Ports.tells g.P.Ports.faults).reaches in
    let reached = All-tail (λ (l : CloudNo × ℕ). IsTrue (reaches c.args.link.now l.0.0)) line rest
    (subst (λ (ls : List (CloudNo × ℕ)). All (λ (l : CloudNo × ℕ). IsTrue (reaches c.args.link.now l.0.0)) ls) e
    c.requires.reaches) in
    let own = c.requires.own in
    let noted = c.in-Ok-note_lane.ensures.shape in (
      omega (arith, long, c.decreases),
      (
        within.0,
        (
          within.1,
          (
            subst (λ (s : Shape). All (λ (l : CloudNo × ℕ). l.0.0 < s.n) rest) (sym shape) below,
            (
              subst (λ (f : ℕ → Bool). All (λ (l : CloudNo × ℕ). IsTrue (f l.0.0)) rest) (sym c.in-Ok.ensures.reaches) reached,
              (
                subst (λ (s : Shape). IsReached s c.bring_one.new.job) (sym shape) c.in-Ok.ensures.reached,
                (
                  c.in-Ok-note_lane.ensures.stage,
                  (
                    (own.0, c.in-Ok-note_lane.ensures.of own.0 own.1, subst (λ (s : Shape). IsJobOf s own.0 c.bring_one.new.job) (sym noted) (c.in-Ok.ensures.works ∙ own.2)),
                    noted ∙ c.requires.same ∙ sym shape,
                  ),
                ),
              ),
            ),
          ),
        ),
      ),
    )

pub returns-in_default-clause-sends : goal.returns-in_default-clause-sends
returns-in_default-clause-sends g t c = λ behind ready told. on_none (IsAskOn c.args.lines.now c.args.job.now) (g.P.Ports.tells c.args.link.now.ports.now)

pub returns-in-Err-clause-sends : goal.returns-in-Err-clause-sends
returns-in-Err-clause-sends g t c = λ behind ready told.
    let tells = g.P.Ports.tells in
    let old = c.args.link.now in
    let new = c.bring_one.new.link in
    let line : CloudNo × ℕ = c.in-Some.line in
    let rest = c.in-Some.more.now in
    let e = c.in-Some.ensures in
    let r = subst (AreReady behind tells old) e ready in
    let first = All-head (IsCloudReady behind tells old) line rest r.each in
    subst (λ (ls : List (CloudNo × ℕ)). SendsOn (IsAskOn ls c.args.job.now) (tells old.ports.now) (tells new.ports.now)) (sym e)
    (first_line line rest c.args.job.now (tells old.ports.now) (tells new.ports.now)
    (c.in-Err.ensures.sends (subst IsTrue (sym r.told) told) line.1 first.port))

pub returns-in-Err-note_lane-clause-sends : goal.returns-in-Err-note_lane-clause-sends
returns-in-Err-note_lane-clause-sends g t c = λ behind ready told.
    let tells = g.P.Ports.tells in
    let old = c.args.link.now in
    let new = c.bring_one.new.link in
    let line : CloudNo × ℕ = c.in-Some.line in
    let rest = c.in-Some.more.now in
    let e = c.in-Some.ensures in
    let r = subst (AreReady behind tells old) e ready in
    let first = All-head (IsCloudReady behind tells old) line rest r.each in
    subst (λ (ls : List (CloudNo × ℕ)). SendsOn (IsAskOn ls c.args.job.now) (tells old.ports.now) (tells new.ports.now)) (sym e)
    (first_line line rest c.args.job.now (tells old.ports.now) (tells new.ports.now)
    (c.in-Ok.ensures.sends (subst IsTrue (sym r.told) told) line.1 first.port))

pub returns-clause-sends : goal.returns-clause-sends
returns-clause-sends g t c = λ behind ready told.
    let tells = g.P.Ports.tells in
    let old = c.args.link.now in
    let mid = c.bring_one.new.link in
    let new = c.bring_noted.new.link in
    let line : CloudNo × ℕ = c.in-Some.line in
    let rest = c.in-Some.more.now in
    let e = c.in-Some.ensures in
    let r = subst (AreReady behind tells old) e ready in
    let next = rest_ready tells behind old mid line rest r c.in-Ok.ensures.leaves c.in-Ok.ensures.talks in
    let first = All-head (IsCloudReady behind tells old) line rest r.each in
    subst (λ (ls : List (CloudNo × ℕ)). SendsOn (IsAskOn ls c.args.job.now) (tells old.ports.now) (tells new.ports.now)) (sym e)
    (on_twice (IsAskOn (line ∷ rest) c.args.job.now) (tells old.ports.now) (tells mid.ports.now) (tells new.ports.now)
    (first_line line rest c.args.job.now (tells old.ports.now) (tells mid.ports.now)
    (c.in-Ok.ensures.sends (subst IsTrue (sym r.told) told) line.1 first.port))
    (later_lines line rest c.args.job.now c.bring_one.new.job (tells mid.ports.now) (tells new.ports.now) c.in-Ok.ensures.works
    (c.bring_noted.ensures.sends behind next told)))
