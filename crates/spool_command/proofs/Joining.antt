-- Lanes of a kept job, one after another.
use Rattle.std.proofs.Common.{◌≡◌, inl, inr, ℕ, ◌<◌, IsTrue, List, [], ◌∷◌, ◌++◌, map, length, append-nil, append_assoc, Ok, Err, refl, sym, ap, ◌∙◌, subst}
use Rattle.std.specs.Prelude.{Result}
use Rattle.upload_spool.specs.CdBase.ids.CloudNo.{CloudNo}
use Rattle.upload_spool.specs.CdBase.shape.Shape.{Shape}
use Rattle.upload_spool.specs.CdEdges.Disk.{Cloud, Image}
use Rattle.upload_spool.specs.CdEdges.Ports.{Telling}
use Rattle.upload_spool.proofs.CdEdges.Moments.{weaker, joined as images_joined}
use Rattle.upload_spool.specs.UploadJob.Lane.{LaneState}
use Rattle.upload_spool.specs.UploadJob.Lanes.{LaneView, with_state}
use Rattle.upload_spool.specs.UploadJob.Upload.{FileVersion}
use Rattle.backup_command.specs.LaneSteps.Runs.{lane_at}
use Rattle.backup_command.proofs.LaneSteps.Views.{lane_with}
use Rattle.backup_command.specs.Transcript.line.Line.{Line}
use Rattle.backup_command.specs.PortsLink.link.PortsLink.{PortsLink}
use Rattle.upload_spool.specs.Spools.{SpoolFor}
use Rattle.upload_spool.specs.States.{SpoolState}
use Rattle.backup_command.specs.declared.halt.Halt.{Halt}
use Rattle.backup_command.specs.declared.halt.Halt.TheVariants as halts
use Rattle.backup_command.specs.Texts.{text_of, step_line, lane_lines}
use Rattle.backup_command.specs.Steps.{KeepsOtherPorts, AreReady, LaneGoesOnPort}
use Rattle.backup_command.proofs.Joining.{came_on, joined, rest_silent}
use Rattle.spool_command.specs.declared.interruption.Interruption.{Interruption}
use Rattle.spool_command.specs.declared.interruption.Interruption.TheVariants.{Ports, Shelf, Memory}
use Rattle.spool_command.specs.Noted.{NotesLane, NoteIs, IsAlong, KeepsAll, KeepsNote, LanesNoted, AllNoted, OneNoted, PortsFailed, ShelfFailed, MemoryLacked, WroteLaneLines, NotedWent, halted_as}
use Rattle.spool_command.proofs.Notes.{kept_same, lost_same, lacked_same}

-- no lane
pub went_none : (behind now : Telling) (views : List LaneView) (text : List ℕ) (state : SpoolState) (cloud : Cloud)
    → NotedWent behind now [] views (Ok tt) views text text state state cloud cloud
went_none behind now views text state cloud = record {
  answers = [];
  all = state.noted;
  go = AllNoted views state.noted;
  wrote = sym (append-nil text);
  grows = ([], sym (append-nil state.noted));
  shape = refl;
  keeps = kept_same state state cloud refl;
}

wrote_more : (result : Result (Unit {0}) Interruption) (before mid text : List ℕ) (one more : List Line) → mid ≡ before ++ text_of one → WroteLaneLines result mid text more → WroteLaneLines result before text (one ++ more)
wrote_more (Ok u) before mid text one more a b = joined before mid text one more a b
wrote_more (Err Ports) before mid text one more a b = joined before mid text one more a b
wrote_more (Err Shelf) before mid text one more a b = joined before mid text one more a b
wrote_more (Err Memory) before mid text one more a b = tt

grown : (noted mid : List CloudNo) (lane : CloudNo) (state : LaneState) → NotesLane noted lane state mid → (more : List CloudNo) × (mid ≡ noted ++ more)
grown noted mid lane state notes = elim notes [
  | inl new ↦ (lane ∷ [], new.2)
  | inr old ↦ ([], old.1 ∙ sym (append-nil noted))
]

-- ---- images of one lane more

module _ (v : FileVersion) (shape : Shape) (noted mid all : List CloudNo) where
  before_more : (more : List CloudNo) → all ≡ mid ++ more → (image : Image) → IsAlong shape v noted mid image → IsAlong shape v noted all image
  before_more more e image at = record {
    more = at.more;
    later = at.later ++ more;
    all_is =
        e ∙ ap (λ (l : List CloudNo). l ++ more) at.all_is ∙ append_assoc noted (at.more ++ at.later) more
        ∙ ap (λ (l : List CloudNo). noted ++ l) (append_assoc at.more at.later more);
    spool = at.spool;
  }

  behind_one : (other : Shape) (one : List CloudNo) → other ≡ shape → mid ≡ noted ++ one → (image : Image) → IsAlong other v mid all image → IsAlong shape v noted all image
  behind_one other one same e image at =
      let here : mid ++ at.more ≡ noted ++ (one ++ at.more) = ap (λ (l : List CloudNo). l ++ at.more) e ∙ append_assoc noted one at.more in
      record {
        more = one ++ at.more;
        later = at.later;
        all_is =
            at.all_is ∙ ap (λ (l : List CloudNo). l ++ (at.more ++ at.later)) e ∙ append_assoc noted one (at.more ++ at.later)
            ∙ ap (λ (l : List CloudNo). noted ++ l) (sym (append_assoc one at.more at.later));
        spool = subst (λ (s : Shape). SpoolFor image s v (noted ++ (one ++ at.more))) same (subst (SpoolFor image other v) here at.spool);
      }

keeps_more : (s0 s1 s2 : SpoolState) (all : List CloudNo) (c0 c1 c2 : Cloud) (result : Result (Unit {0}) Interruption) (one more : List CloudNo) → s1.noted ≡ s0.noted ++ one → all ≡ s1.noted ++ more
    → s1.shape ≡ s0.shape → c1.told ≡ c0.told → KeepsAll {T = Unit {0}} s0 s1 s1.noted c0 c1 (Ok tt) → KeepsAll s1 s2 all c1 c2 result → KeepsAll s0 s2 all c0 c2 result
keeps_more s0 s1 s2 all c0 c1 c2 result one more e f shape same first second told v is =
    let a = first told v is in
    let b = second (subst IsTrue (sym same) told) v a.now in
    record {
      any_moment = images_joined c0 c1 c2 (IsAlong s0.shape v s0.noted all)
          (weaker c0 c1 _ _ a.any_moment (before_more v s0.shape s0.noted s1.noted all more f))
          (weaker c1 c2 _ _ b.any_moment (behind_one v s0.shape s0.noted s1.noted all s1.shape one shape e));
      now = b.now;
    }

-- ---- one lane more

-- how the lane stands
stands : (views between : List LaneView) (cloud : ℕ) (state : LaneState) → cloud < length views → between ≡ with_state views cloud state → (lane_at between cloud).state ≡ state
stands views between cloud state lt e = ap (λ (l : List LaneView). (lane_at l cloud).state) e ∙ ap (λ (l : LaneView). l.state) (lane_with views cloud state lt)

-- a lane that came to its end, and the lanes behind it
pub went_more : (behind mid new : Telling) (line : CloudNo × ℕ) (rest : List (CloudNo × ℕ)) (views between after : List LaneView) (result : Result (Unit {0}) Interruption) (before text now : List ℕ)
    (s0 s1 s2 : SpoolState) (c0 c1 c2 : Cloud) → line.0.0 < length views → (IsTrue behind.told → new.port line.1 ≡ mid.port line.1) → LaneGoesOnPort behind mid line views (Ok tt) between before text
    → NoteIs s0 s1 line.0 (lane_at between line.0.0).state (Ok tt) → KeepsNote s0 s1 line.0 c0 c1 (Ok tt) → s1.shape ≡ s0.shape → c1.told ≡ c0.told
    → NotedWent behind new rest between result after text now s1 s2 c1 c2 → NotedWent behind new (line ∷ rest) views result after before now s0 s2 c0 c2
went_more behind mid new line rest views between after result before text now s0 s1 s2 c0 c1 c2 lt same one note kept shape told rests =
    let notes = subst (λ (s : LaneState). NotesLane s0.noted line.0 s s1.noted) (stands views between line.0.0 one.2 lt one.4) note in
    let g = grown s0.noted s1.noted line.0 one.2 notes in
    record {
      answers = lane_lines line.0.0 one.0 one.1 ++ rests.answers;
      all = rests.all;
      go = OneNoted line rest views after s0.noted s1.noted rests.all one.0 one.1 one.2 result rests.answers
          (came_on behind mid new line.1 (lane_at views line.0.0) one.0 one.1 one.2 same one.3) notes
          (subst (λ (l : List LaneView). LanesNoted behind new rest l s1.noted result rests.answers after rests.all) one.4 rests.go);
      wrote = wrote_more result before text now (lane_lines line.0.0 one.0 one.1) rests.answers one.5 rests.wrote;
      grows = (
        g.0 ++ rests.grows.0,
        rests.grows.1 ∙ ap (λ (l : List CloudNo). l ++ rests.grows.0) g.1 ∙ append_assoc s0.noted g.0 rests.grows.0,
      );
      shape = rests.shape ∙ shape;
      keeps = keeps_more s0 s1 s2 rests.all c0 c1 c2 result g.0 rests.grows.0 g.1 rests.grows.1 shape told kept rests.keeps;
    }

-- a lane in which the ports failed, or memory ran out
pub went_stopped : {P : Type 0} (tells : P → Telling) (behind : Telling) (old new : PortsLink P) (line : CloudNo × ℕ) (rest : List (CloudNo × ℕ)) (views after : List LaneView) (halt : Halt)
    (before text : List ℕ) (state : SpoolState) (cloud : Cloud) → AreReady behind tells old (line ∷ rest) → KeepsOtherPorts tells line.0.0 old new
    → LaneGoesOnPort behind (tells new.ports.now) line views (Err halt) after before text
    → NotedWent behind (tells new.ports.now) (line ∷ rest) views (Err (halted_as halt)) after before text state state cloud cloud
went_stopped tells behind old new line rest views after halts.Lost before text state cloud ready leaves one = record {
  answers = map (step_line line.0.0) one.0;
  all = state.noted;
  go = subst (λ (l : List LaneView). LanesNoted behind (tells new.ports.now) (line ∷ rest) views state.noted (Err Ports) (map (step_line line.0.0) one.0) l state.noted) (sym one.2)
      (PortsFailed line rest views state.noted one.0 one.1 (rest_silent tells behind old new line rest ready leaves));
  wrote = one.3;
  grows = ([], sym (append-nil state.noted));
  shape = refl;
  keeps = lost_same state cloud;
}
went_stopped tells behind old new line rest views after halts.NoMemory before text state cloud ready leaves one = record {
  answers = [];
  all = state.noted;
  go = MemoryLacked (line ∷ rest) views after state.noted (rest_silent tells behind old new line rest ready leaves);
  wrote = tt;
  grows = ([], sym (append-nil state.noted));
  shape = refl;
  keeps = lacked_same state state cloud refl;
}

-- a lane whose note failed
pub went_unnoted : {P : Type 0} (tells : P → Telling) (behind : Telling) (old new : PortsLink P) (line : CloudNo × ℕ) (rest : List (CloudNo × ℕ)) (views between : List LaneView) (why : Interruption)
    (before text : List ℕ) (s0 s1 : SpoolState) (c0 c1 : Cloud) → line.0.0 < length views → AreReady behind tells old (line ∷ rest) → KeepsOtherPorts tells line.0.0 old new
    → LaneGoesOnPort behind (tells new.ports.now) line views (Ok tt) between before text
    → NoteIs s0 s1 line.0 (lane_at between line.0.0).state (Err why) → KeepsNote s0 s1 line.0 c0 c1 (Err why) → s1.shape ≡ s0.shape
    → NotedWent behind (tells new.ports.now) (line ∷ rest) views (Err why) between before text s0 s1 c0 c1
went_unnoted tells behind old new line rest views between Ports before text s0 s1 c0 c1 lt ready leaves one note kept shape = absurd note
went_unnoted tells behind old new line rest views between Shelf before text s0 s1 c0 c1 lt ready leaves one note kept shape = record {
  answers = lane_lines line.0.0 one.0 one.1;
  all = s0.noted ++ line.0 ∷ [];
  go = subst (λ (l : List LaneView). LanesNoted behind (tells new.ports.now) (line ∷ rest) views s0.noted (Err Shelf) (lane_lines line.0.0 one.0 one.1) l (s0.noted ++ line.0 ∷ [])) (sym one.4)
      (ShelfFailed line rest views s0.noted one.0 one.1 one.2 one.3 (sym (stands views between line.0.0 one.2 lt one.4) ∙ note.0) note.1
      (rest_silent tells behind old new line rest ready leaves));
  wrote = one.5;
  grows = (line.0 ∷ [], refl);
  shape = shape;
  keeps = kept;
}
went_unnoted tells behind old new line rest views between Memory before text s0 s1 c0 c1 lt ready leaves one note kept shape = record {
  answers = [];
  all = s0.noted;
  go = MemoryLacked (line ∷ rest) views between s0.noted (rest_silent tells behind old new line rest ready leaves);
  wrote = tt;
  grows = ([], sym (append-nil s0.noted));
  shape = shape;
  keeps = subst (λ (l : List CloudNo). KeepsAll {T = Unit {0}} s0 s1 l c0 c1 (Err Memory)) note kept;
}
