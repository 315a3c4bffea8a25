-- How a session goes on by a line, or by a part of one.
use Rattle.std.proofs.Common.{◌≡◌, ℕ, ◌+◌, ◌<◌, ◌≤◌, List, [], ◌∷◌, ◌++◌, length, refl, sym, ap, ◌∙◌, subst, arith, append-nil, append_assoc}
use Rattle.std.specs.Prelude.{Option, Some, None, IfSome, IsTrue, MatchOption}
use Rattle.std.specs.Io.KnownBytes.{Appends}
use Rattle.std.proofs.lemmas.List.Concat.{flat_map-append}
use Rattle.share_server.specs.CdBase.shape.Shape.{Shape}
use Rattle.share_server.specs.CdEdges.Disk.{Cloud}
use Rattle.share_server.proofs.CdEdges.Moments.{joined, weaker}
use Rattle.share_server.specs.CloudAreas.Peers.{StandsForSome, ImagesNow, ImagesSince}
use Rattle.share_server.specs.UserDedup.command.Command.{Command}
use Rattle.share_server.specs.UserDedup.Exec.{Peer, MaySettleAs}
use Rattle.two_worlds.specs.UploadJob.Lanes.{LaneView}
use Rattle.script_lines.specs.LocalLink.link.LocalLink.{LocalLink}
use Rattle.two_worlds.specs.Session.Lines.{ReaderState}
use Rattle.two_worlds.specs.Session.Spelling.{FitsEvent, IsTyped}
use Rattle.two_worlds.specs.Session.event.Event.{Event}
use Rattle.two_worlds.specs.Transcript.line.Line.{Line}
use Rattle.two_worlds.specs.Transcript.line.Line.TheVariants as lines
use Rattle.two_worlds.specs.Transcript.Transcript.{line_text}
use Rattle.two_worlds.specs.Session.Scripts.{jobs_after, jobs_of, AreLines, ScriptPlace, Says, LeadsThrough, Reaches}
use Rattle.two_worlds.specs.Session.Texts.{text_of}
use Rattle.script_lines.specs.SessionModel.Vault.{Setting, Vault, opening}
use Rattle.script_lines.specs.SessionModel.Steps.{Moment, VStep}
use Rattle.script_lines.specs.SessionModel.Run.{Answered, Turns, script_of, moments_of, answers_of, IsListIn}
use Rattle.script_lines.specs.SessionModel.Headline.{Begun, IsPartOf, event_of, moments_begun}
use Rattle.script_lines.specs.At.{header_in, KeepsOtherClouds}
use Rattle.script_lines.specs.Does.{Goes, IsLineCut}
use Rattle.script_lines.proofs.Going.{left_at}
use Rattle.replay_core.specs.Replayed.{BeginsEmpty}
use Rattle.replay_core.specs.Opening.{AreEmptyBelow, IsThere}
use Rattle.replay_core.specs.Going.{ReplayStart, HasCome, SaysNext, CanBe}

-- ---- of a script that is told

pub map_told : (o : Option (List ℕ)) (P Q : List ℕ → Type 0) → ((bytes : List ℕ) → P bytes → Q bytes) → IfSome o P → IfSome o Q
map_told None P Q f p = tt
map_told (Some bytes) P Q f p = f bytes p

-- ---- one more at the end of a list

abbrev pub answered : Vault → Event → List Line → List Moment → Vault → Answered
answered before event answers moments after = record { before = before; event = event; answers = answers; moments = moments; after = after }

pub turns_more : (s : Setting) (old mid new : Vault) (history : List Answered) (event : Event) (answers : List Line) (moments : List Moment) → Turns s old history mid
    → VStep s mid event answers moments new → Turns s old (history ++ answered mid event answers moments new ∷ []) new
turns_more s old mid new [] event answers moments same step = (same, subst (λ (v : Vault). VStep s v event answers moments new) same step, refl)
turns_more s old mid new (a ∷ history) event answers moments turns step = (turns.0, turns.1, turns_more s a.after mid new history event answers moments turns.2 step)

pub lines_more : (shape : Shape) (jobs : ℕ) (script : List Event) (event : Event) → AreLines shape jobs script → FitsEvent shape (jobs_of jobs script) event → IsTyped event
    → AreLines shape jobs (script ++ event ∷ [])
lines_more shape jobs [] event are fits typed = (fits, typed, tt)
lines_more shape jobs (e ∷ script) event are fits typed = (are.0, are.1, lines_more shape (jobs_after jobs e) script event are.2 fits typed)

pub jobs_more : (jobs : ℕ) (script : List Event) (event : Event) → jobs_of jobs (script ++ event ∷ []) ≡ jobs_after (jobs_of jobs script) event
jobs_more jobs [] event = refl
jobs_more jobs (e ∷ script) event = jobs_more (jobs_after jobs e) script event

leads_more : (shape : Shape) (place : ScriptPlace) (script : List Event) (mid next : ScriptPlace) (event : Event) → LeadsThrough shape place script mid → Says shape mid event next
    → LeadsThrough shape place (script ++ event ∷ []) next
leads_more shape place [] mid next event same says = (next, subst (λ (p : ScriptPlace). Says shape p event next) same says, refl)
leads_more shape place (e ∷ script) mid next event leads says = (leads.0, leads.1, leads_more shape leads.0 script mid next event leads.2 says)

pub count_more : (history : List Answered) (a : Answered) → length (history ++ a ∷ []) ≡ length history + 1
count_more [] a = refl
count_more (b ∷ history) a = let e = count_more history a in omega arith

pub script_more : (history : List Answered) (a : Answered) → script_of (history ++ a ∷ []) ≡ script_of history ++ a.event ∷ []
script_more [] a = refl
script_more (b ∷ history) a = ap (λ (l : List Event). b.event ∷ l) (script_more history a)

moments_more : (history : List Answered) (a : Answered) → moments_of (history ++ a ∷ []) ≡ moments_of history ++ a.moments
moments_more history a =
    flat_map-append (λ (b : Answered). b.moments) history (a ∷ []) ∙ ap (λ (l : List Moment). moments_of history ++ l) (append-nil a.moments)

pub answers_more : (history : List Answered) (a : Answered) → answers_of (history ++ a ∷ []) ≡ answers_of history ++ a.answers
answers_more history a =
    flat_map-append (λ (b : Answered). b.answers) history (a ∷ []) ∙ ap (λ (l : List Line). answers_of history ++ l) (append-nil a.answers)

-- the text of all lines, and of one more
pub text_more : (first : Line) (history : List Answered) (a : Answered)
    → text_of (first ∷ answers_of (history ++ a ∷ [])) ≡ text_of (first ∷ answers_of history) ++ text_of a.answers
text_more first history a =
    ap (λ (l : List Line). text_of (first ∷ l)) (answers_more history a) ∙ flat_map-append line_text (first ∷ answers_of history) a.answers

pub appends_on : (old mid new : Option (List ℕ)) (xs ys : List ℕ) → Appends old mid xs → Appends mid new ys → Appends old new (xs ++ ys)
appends_on None mid new xs ys first second = tt
appends_on (Some a) None new xs ys first second = absurd first
appends_on (Some a) (Some b) None xs ys first second = absurd second
appends_on (Some a) (Some b) (Some c) xs ys first second = second ∙ ap (λ (l : List ℕ). l ++ ys) first ∙ append_assoc a xs ys

pub appends_none : (old new : Option (List ℕ)) → new ≡ old → Appends old new []
appends_none None new same = tt
appends_none (Some a) new same = subst (λ (o : Option (List ℕ)). Appends (Some a) o []) (sym same) (sym (append-nil a))

-- what would be written
abbrev pub grown : Option (List ℕ) → List ℕ → Option (List ℕ)
grown None bytes = None
grown (Some a) bytes = Some (a ++ bytes)

pub appends_grown : (old : Option (List ℕ)) (bytes : List ℕ) → Appends old (grown old bytes) bytes
appends_grown None bytes = tt
appends_grown (Some a) bytes = refl

-- ---- what holds of a session behind its openings

pub record Holds (start : ReplayStart) (s : Setting) (new : ℕ → Cloud) (history : List Answered) (at : Vault) (begun : Option Begun) (last : ℕ → Peer) : Type 0 where
  pub told : (cloud : ℕ) → s.told cloud ≡ (start.old cloud).told
  pub began : AreEmptyBelow start.old s.shape.n
  pub turns : Turns s (opening start.old) history at
  pub are_lines : AreLines s.shape 0 (script_of history ++ event_of begun)
  pub begun_is : MatchOption begun (last ≡ at.peers) (λ b. IsPartOf s at b last)
  pub faults : (cloud : ℕ) → cloud < s.shape.n → (last cloud).faults ≤ (new cloud).faults
  pub armings : (cloud : ℕ) → cloud < s.shape.n → (last cloud).armings ≡ (new cloud).armings
  pub now : (cloud : ℕ) → cloud < s.shape.n → IsTrue (s.told cloud) → ImagesNow (new cloud) (header_in s cloud) (MaySettleAs (last cloud))
  pub images : BeginsEmpty start.old → (cloud : ℕ) → cloud < s.shape.n → IsTrue (s.told cloud)
      → ImagesSince (start.old cloud) (new cloud) (header_in s cloud) (IsListIn s cloud (moments_of history ++ moments_begun begun) last)
  pub others : (cloud : ℕ) → s.shape.n ≤ cloud → new cloud ≡ start.old cloud
  pub read : IfSome start.script (λ script. (place : ScriptPlace) × Reaches script s.shape s.rooms (script_of history ++ event_of begun) place)

-- the laws of moments
abbrev pub Later : Type 0
Later = (s : Setting) (cloud : ℕ) (before : List Moment) (old : Vault) (event : Event) (answers : List Line)
    (moments : List Moment) (new : Vault) → VStep s old event answers moments new
    → (list : List Command) → IsListIn s cloud before old.peers list → IsListIn s cloud (before ++ moments) new.peers list

abbrev pub Here : Type 0
Here = (s : Setting) (cloud : ℕ) (before moments : List Moment) (last : ℕ → Peer) (list : List Command)
    → IsListIn s cloud moments last list → IsListIn s cloud (before ++ moments) last list

abbrev pub Part : Type 0
Part = (s : Setting) (cloud : ℕ) (before : List Moment) (old : Vault) (begun : Begun) (last : ℕ → Peer)
    → IsPartOf s old begun last → (list : List Command) → IsListIn s cloud before old.peers list
    → IsListIn s cloud (before ++ begun.moments) last list

module _ {V : Type 0} (clouds : V → ℕ → Cloud) (start : ReplayStart) (s : Setting) (link : LocalLink V) (jobs : List (List LaneView)) (reader : ReaderState) (left : Option (List ℕ))
    (source : ℕ) (written : Option (List ℕ)) (sink : ℕ) (events : ℕ) (come : HasCome clouds start s link jobs reader left source written sink events) where
  -- between two lines
  pub holds_between : Holds start s (clouds link.shelf.now) come.history come.at None come.at.peers
  holds_between =
      let l = left_at clouds s link come.at.peers come.is_at.link_at in
      record {
        told = come.told;
        began = come.began;
        turns = come.turns;
        are_lines = subst (AreLines s.shape 0) (sym (append-nil (script_of come.history))) come.are_lines;
        begun_is = refl;
        faults = l.faults;
        armings = l.armings;
        now = l.images;
        images = λ empty cloud lt told.
            subst (λ (m : List Moment). ImagesSince (start.old cloud) (clouds link.shelf.now cloud) (header_in s cloud) (IsListIn s cloud m come.at.peers))
            (sym (append-nil (moments_of come.history))) (come.images empty cloud lt told);
        others = come.others;
        read = subst (λ (l : List Event). IfSome start.script (λ script. (place : ScriptPlace) × Reaches script s.shape s.rooms l place)) (sym (append-nil (script_of come.history)))
            (map_told start.script (λ (script : List ℕ). (place : ScriptPlace) × Reaches script s.shape s.rooms (script_of come.history) place × IsThere reader left (length jobs) place)
            (λ (script : List ℕ). (place : ScriptPlace) × Reaches script s.shape s.rooms (script_of come.history) place) (λ script x. (x.0, x.1)) come.read);
      }

  module _ (new : LocalLink V) (event : Event) (reader_now : ReaderState) (left_now : Option (List ℕ)) (can : CanBe s.shape (length jobs) event)
      (says : SaysNext s.shape (length jobs) reader left (Some event) reader_now left_now) (leaves : KeepsOtherClouds clouds link new) where
    pub lines_on : AreLines s.shape 0 (script_of come.history ++ event ∷ [])
    lines_on = lines_more s.shape 0 (script_of come.history) event come.are_lines (subst (λ (n : ℕ). FitsEvent s.shape n event) (sym come.uploads) can.fits) can.typed

    pub read_on : IfSome start.script (λ script. (place : ScriptPlace) × Reaches script s.shape s.rooms (script_of come.history ++ event ∷ []) place × IsThere reader_now left_now (jobs_after (length jobs) event) place)
    read_on = map_told start.script (λ (script : List ℕ). (place : ScriptPlace) × Reaches script s.shape s.rooms (script_of come.history) place × IsThere reader left (length jobs) place)
        (λ (script : List ℕ). (place : ScriptPlace) × Reaches script s.shape s.rooms (script_of come.history ++ event ∷ []) place × IsThere reader_now left_now (jobs_after (length jobs) event) place)
        (λ script x. let n = says x.0 x.2 in
        (n.0, (x.1.0, x.1.1, leads_more s.shape x.1.0 (script_of come.history) x.0 n.0 event x.1.2 n.1), n.2)) come.read

    pub others_on : (cloud : ℕ) → s.shape.n ≤ cloud → clouds new.shelf.now cloud ≡ start.old cloud
    others_on cloud le = leaves.others cloud (subst (λ (sh : Shape). sh.n ≤ cloud) (sym come.is_at.link_at.shape) le) ∙ come.others cloud le

    -- a line that was cut
    pub holds_cut : Part → Here → (cut : IsLineCut clouds s event link new come.at)
        → Holds start s (clouds new.shelf.now) come.history come.at (Some (record { event = event; moments = cut.moments })) cut.last
    holds_cut part here cut = record {
      told = come.told;
      began = come.began;
      turns = come.turns;
      are_lines = lines_on;
      begun_is = cut.part;
      faults = cut.left.faults;
      armings = cut.left.armings;
      now = cut.left.images;
      images = λ empty cloud lt told.
          joined (start.old cloud) (clouds link.shelf.now cloud) (clouds new.shelf.now cloud) (StandsForSome (header_in s cloud) (IsListIn s cloud (moments_of come.history ++ cut.moments) cut.last))
          (weaker (start.old cloud) (clouds link.shelf.now cloud) (StandsForSome (header_in s cloud) (IsListIn s cloud (moments_of come.history) come.at.peers))
          (StandsForSome (header_in s cloud) (IsListIn s cloud (moments_of come.history ++ cut.moments) cut.last)) (come.images empty cloud lt told)
          (λ image x. (x.0, part s cloud (moments_of come.history) come.at (record { event = event; moments = cut.moments }) cut.last cut.part x.0 x.1, x.2)))
          (weaker (clouds link.shelf.now cloud) (clouds new.shelf.now cloud) (StandsForSome (header_in s cloud) (IsListIn s cloud cut.moments cut.last))
          (StandsForSome (header_in s cloud) (IsListIn s cloud (moments_of come.history ++ cut.moments) cut.last)) (cut.images cloud lt told)
          (λ image x. (x.0, here s cloud (moments_of come.history) cut.moments cut.last x.0 x.1, x.2)));
      others = others_on;
      read = map_told start.script
          (λ (script : List ℕ). (place : ScriptPlace) × Reaches script s.shape s.rooms (script_of come.history ++ event ∷ []) place × IsThere reader_now left_now (jobs_after (length jobs) event) place)
          (λ (script : List ℕ). (place : ScriptPlace) × Reaches script s.shape s.rooms (script_of come.history ++ event ∷ []) place) (λ script x. (x.0, x.1)) read_on;
    }

    module _ (later : Later) (here : Here) (jobs_now : List (List LaneView)) (answers : List Line) (goes : Goes clouds s event link new jobs_now come.at answers) where
      abbrev pub one : Answered
      one = answered come.at event answers goes.moments goes.after

      pub images_on : BeginsEmpty start.old → (cloud : ℕ) → cloud < s.shape.n → IsTrue (s.told cloud)
          → ImagesSince (start.old cloud) (clouds new.shelf.now cloud) (header_in s cloud) (IsListIn s cloud (moments_of (come.history ++ one ∷ [])) goes.after.peers)
      images_on empty cloud lt told =
          subst (λ (m : List Moment). ImagesSince (start.old cloud) (clouds new.shelf.now cloud) (header_in s cloud) (IsListIn s cloud m goes.after.peers)) (sym (moments_more come.history one))
          (joined (start.old cloud) (clouds link.shelf.now cloud) (clouds new.shelf.now cloud) (StandsForSome (header_in s cloud) (IsListIn s cloud (moments_of come.history ++ goes.moments) goes.after.peers))
          (weaker (start.old cloud) (clouds link.shelf.now cloud) (StandsForSome (header_in s cloud) (IsListIn s cloud (moments_of come.history) come.at.peers))
          (StandsForSome (header_in s cloud) (IsListIn s cloud (moments_of come.history ++ goes.moments) goes.after.peers)) (come.images empty cloud lt told)
          (λ image x. (x.0, later s cloud (moments_of come.history) come.at event answers goes.moments goes.after goes.step x.0 x.1, x.2)))
          (weaker (clouds link.shelf.now cloud) (clouds new.shelf.now cloud) (StandsForSome (header_in s cloud) (IsListIn s cloud goes.moments goes.after.peers))
          (StandsForSome (header_in s cloud) (IsListIn s cloud (moments_of come.history ++ goes.moments) goes.after.peers)) (goes.images cloud lt told)
          (λ image x. (x.0, here s cloud (moments_of come.history) goes.moments goes.after.peers x.0 x.1, x.2))))

      -- a line that was answered, so far as it was written
      abbrev pub come_on : (source_now : ℕ) (written_now : Option (List ℕ)) (sink_now : ℕ) → source_now ≡ source → sink_now ≡ sink → Appends written written_now (text_of answers)
          → length jobs_now ≡ jobs_after (length jobs) event
          → HasCome clouds start s new jobs_now reader_now left_now source_now written_now sink_now (events + 1)
      come_on source_now written_now sink_now same_source same_sink wrote count = record {
        history = come.history ++ one ∷ [];
        at = goes.after;
        told = come.told;
        began = come.began;
        count = count_more come.history one ∙ ap (λ (n : ℕ). n + 1) come.count;
        is_at = goes.is_at;
        turns = turns_more s (opening start.old) come.at goes.after come.history event answers goes.moments come.turns goes.step;
        are_lines = subst (AreLines s.shape 0) (sym (script_more come.history one)) lines_on;
        uploads = ap (jobs_of 0) (script_more come.history one) ∙ jobs_more 0 (script_of come.history) event ∙ ap (λ (n : ℕ). jobs_after n event) come.uploads ∙ sym count;
        images = images_on;
        others = others_on;
        read = subst (λ (n : ℕ). IfSome start.script (λ script. (place : ScriptPlace) × Reaches script s.shape s.rooms (script_of (come.history ++ one ∷ [])) place × IsThere reader_now left_now n place)) (sym count)
            (subst (λ (l : List Event). IfSome start.script (λ script. (place : ScriptPlace) × Reaches script s.shape s.rooms l place × IsThere reader_now left_now (jobs_after (length jobs) event) place)) (sym (script_more come.history one)) read_on);
        printed = subst (Appends start.written written_now) (sym (text_more (lines.Opened s.shape) come.history one))
            (appends_on start.written written written_now (text_of (lines.Opened s.shape ∷ answers_of come.history)) (text_of answers) come.printed wrote);
        source_is = same_source ∙ come.source_is;
        sink_is = same_sink ∙ come.sink_is;
      }

      pub holds_answered : Holds start s (clouds new.shelf.now) (come.history ++ one ∷ []) goes.after None goes.after.peers
      holds_answered =
          let l = left_at clouds s new goes.after.peers goes.is_at.link_at in
          record {
            told = come.told;
            began = come.began;
            turns = turns_more s (opening start.old) come.at goes.after come.history event answers goes.moments come.turns goes.step;
            are_lines = subst (AreLines s.shape 0) (sym (append-nil (script_of (come.history ++ one ∷ [])) ∙ script_more come.history one)) lines_on;
            begun_is = refl;
            faults = l.faults;
            armings = l.armings;
            now = l.images;
            images = λ empty cloud lt told.
                subst (λ (m : List Moment). ImagesSince (start.old cloud) (clouds new.shelf.now cloud) (header_in s cloud) (IsListIn s cloud m goes.after.peers))
                (sym (append-nil (moments_of (come.history ++ one ∷ [])))) (images_on empty cloud lt told);
            others = others_on;
            read = subst (λ (l : List Event). IfSome start.script (λ script. (place : ScriptPlace) × Reaches script s.shape s.rooms l place)) (sym (append-nil (script_of (come.history ++ one ∷ [])) ∙ script_more come.history one))
                (map_told start.script
                (λ (script : List ℕ). (place : ScriptPlace) × Reaches script s.shape s.rooms (script_of come.history ++ event ∷ []) place × IsThere reader_now left_now (jobs_after (length jobs) event) place)
                (λ (script : List ℕ). (place : ScriptPlace) × Reaches script s.shape s.rooms (script_of come.history ++ event ∷ []) place) (λ script x. (x.0, x.1)) read_on);
          }
