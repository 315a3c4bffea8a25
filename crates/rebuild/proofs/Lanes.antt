-- What a lane that was run at a told cloud leaves there.
use Rattle.std.proofs.Common.{◌≡◌, ◌≢◌, ℕ, Bool, true, false, cond, List, [], ◌∷◌, ◌++◌, map, Option, Some, None, refl, sym, ap, ◌∙◌, subst, inl, inr, ◌⊎◌, append-nil, eq-eqb, ◌==◌}
use Rattle.std.specs.Prelude.{find, bytes_eq, option_to_list, Decides}
use Rattle.std.specs.List.{list_all}
use Rattle.std.specs.Option.{option_or}
use Rattle.std.proofs.lemmas.Bool.{and_from}
use Rattle.std.proofs.lemmas.List.Folds.{find-append}
use Rattle.std.proofs.lemmas.Option.{same_Some}
use Rattle.std.proofs.lemmas.Slice.Eq.{bytes_eq-Decides}
use Rattle.lane_steps.specs.CdBase.ids.Tag.{Tag}
use Rattle.lane_steps.specs.CdBase.ids.UserId.{UserId}
use Rattle.lane_steps.specs.CdBase.ids.Version.{Version}
use Rattle.lane_steps.specs.CdBase.shape.Shape.{Shape}
use Rattle.lane_steps.specs.Messages.request.Request.{Request}
use Rattle.lane_steps.specs.Messages.request.Request.TheVariants as requests
use Rattle.lane_steps.specs.Messages.reply.Reply.{Reply}
use Rattle.lane_steps.specs.Messages.reply.Reply.TheVariants as replies
use Rattle.lane_steps.specs.UserDedup.command.Command.{Command}
use Rattle.lane_steps.specs.UserDedup.command.Command.TheVariants as commands
use Rattle.lane_steps.specs.UserDedup.file_list.FileEntry.{FileEntry}
use Rattle.lane_steps.specs.UserDedup.view.View.{View}
use Rattle.lane_steps.specs.UserDedup.Cloud.{fingerprint, user_view}
use Rattle.lane_steps.specs.UserDedup.Owning.{first_lacking, new_strings}
use Rattle.lane_steps.specs.UserDedup.Pages.{is_at, entry_at}
use Rattle.lane_steps.specs.UserDedup.Requests.{fps_of}
use Rattle.lane_steps.specs.UserDedup.Dedup.{Outcome, FullRoom, TakesVersionOut, put_outcome, commit_outcome, by_room, unless_full}
use Rattle.lane_steps.specs.UserDedup.Exec.{Peer, Exec, ExecTold, served}
use Rattle.lane_steps.proofs.UserDedup.Growing.{Each, GrowsBy, IfCommand, grows_same, grows_then, exec_grows, answered_quiet, version_more, AsksNoDelete, IsNoDelete, adds_no_delete, ends_none}
use Rattle.lane_steps.proofs.UserDedup.Views.{own_adds}
use Rattle.lane_steps.specs.UploadJob.Upload.{Work}
use Rattle.lane_steps.specs.UploadJob.Lane.{LaneState, Asking, Sending, Committing, Done, Refused, onward, lane_request, past_known, unflagged}
use Rattle.rebuild.specs.Standing.{entry_in, HasEntryWith, HasOther}
use Rattle.lane_steps.specs.UploadJob.Lane.{lane_after}
use Rattle.lane_steps.specs.UploadJob.Lanes.{begun}
use Rattle.lane_steps.specs.Runs.{LaneTurn, Progress, starting, progress_after, LaneRun}
use Rattle.rebuild.specs.Rebuilding.{last_said}

-- ---- lists grow by commands that are no Deletes

-- what is pending is no Delete
abbrev pub IsQuiet : Peer → Type 0
IsQuiet p = IfCommand IsNoDelete p.pending

-- from where nothing pending is a Delete the list grew by none, and none is pending then
abbrev pub Later : Peer → Peer → Type 0
Later old new = IsQuiet old → GrowsBy IsNoDelete old.list new.list × IsQuiet new

pub later_same : (old new : Peer) → new ≡ old → Later old new
later_same old new e = λ quiet. (grows_same IsNoDelete old.list new.list (ap (λ (p : Peer). p.list) e), subst IsQuiet (sym e) quiet)

pub later_then : (a b c : Peer) → Later a b → Later b c → Later a c
later_then a b c p q = λ quiet.
    let one = p quiet in
    let two = q one.1 in
    (grows_then IsNoDelete a.list b.list c.list one.0 two.0, two.1)

-- a lane asks no Delete
pub lane_asks_no_delete : (w : Work) (state : LaneState) (request : Request) → lane_request w state ≡ Some request → AsksNoDelete request
lane_asks_no_delete w (Asking batch rest) request e = subst AsksNoDelete (same_Some (requests.Query w.user (map fingerprint batch)) request e) tt
lane_asks_no_delete w (Sending batch flags rest) request e = subst AsksNoDelete (same_Some (requests.Put w.user (unflagged batch flags)) request e) tt
lane_asks_no_delete w Committing request e = subst AsksNoDelete (same_Some (requests.Commit w.user w.tag w.version w.recipe) request e) tt
lane_asks_no_delete w Done request e = absurd cc
lane_asks_no_delete w Refused request e = absurd cc

module _ (shape : Shape) (cloud : ℕ) (full : List Command → Command → Option FullRoom) where
  pub run_later : (p last : Progress) (old new : Peer) (turns : List (LaneTurn Peer)) → LaneRun (Exec shape true (served shape cloud full)) p old turns last new → Later old new
  run_later p last old new [] run = later_same old new run.2
  run_later p last old new (t ∷ turns) run =
      let mid : Peer = run.3.0 in
      let asks = lane_asks_no_delete p.lane.work p.lane.state t.request run.2 in
      later_then old mid new (λ quiet. exec_grows IsNoDelete shape (served shape cloud full) old mid t.request t.reply (adds_no_delete shape cloud full t.request asks) quiet run.3.1)
      (run_later (progress_after p t.reply) last mid new turns run.3.2)

-- ---- what a Commit leaves

no_ends : (user : UserId) (key : Tag × Version) (more : List Command) → Each IsNoDelete more → Each (λ c. ¬ (TakesVersionOut user key c)) more
no_ends user key [] each = tt
no_ends user key (c ∷ more) each = (ends_none user key c each.0, no_ends user key more each.1)

entry_later : (shape : Shape) (old new : List Command) (user : UserId) (key : Tag × Version) (entry : FileEntry) → GrowsBy IsNoDelete old new → entry_in shape old user key ≡ Some entry → entry_in shape new user key ≡ Some entry
entry_later shape old new user key entry grew h =
    subst (λ (l : List Command). entry_in shape l user key ≡ Some entry) (sym grew.1) (version_more shape old grew.0 user key entry (no_ends user key grew.0 grew.2) h)

pub has_later : (shape : Shape) (old new : List Command) (user : UserId) (key : Tag × Version) (recipe : List ℕ) → GrowsBy IsNoDelete old new → HasEntryWith shape old user key recipe → HasEntryWith shape new user key recipe
has_later shape old new user key recipe grew h = (h.0, entry_later shape old new user key h.0 grew h.1, h.2)

pub other_later : (shape : Shape) (old new : List Command) (user : UserId) (key : Tag × Version) (recipe : List ℕ) → GrowsBy IsNoDelete old new → HasOther shape old user key recipe → HasOther shape new user key recipe
other_later shape old new user key recipe grew h = (h.0, entry_later shape old new user key h.0 grew h.1, h.2)

abbrev with_recipe : Tag → Version → List ℕ → FileEntry
with_recipe tag version recipe = record { tag = tag; version = version; recipe = recipe }

at_own : (tag : Tag) (version : Version) (recipe : List ℕ) → is_at (tag, version) (with_recipe tag version recipe) ≡ true
at_own tag version recipe = and_from (bytes_eq tag.0 tag.0) (version.0 == version.0) ((bytes_eq-Decides tag.0 tag.0).1 refl) (eq-eqb version.0 version.0 refl)

entry_added : (shape : Shape) (list : List Command) (user : UserId) (tag : Tag) (version : Version) (recipe : List ℕ) → entry_in shape list user (tag, version) ≡ None
    → entry_in shape (list ++ commands.Commit user tag version recipe ∷ []) user (tag, version) ≡ Some (with_recipe tag version recipe)
entry_added shape list user tag version recipe none =
    let files : List FileEntry = (user_view shape list user).files in
    let one : FileEntry = with_recipe tag version recipe in
    ap (λ (v : View). entry_at v.files (tag, version)) (own_adds shape list (commands.Commit user tag version recipe) user refl)
    ∙ find-append (is_at (tag, version)) files (one ∷ [])
    ∙ ap (λ (o : Option FileEntry). option_or o (find (is_at (tag, version)) (one ∷ []))) none
    ∙ ap (λ (b : Bool). cond b (Some one) None) (at_own tag version recipe)

abbrev commit_by : (Command → Option FullRoom) → Option ℕ → Option FileEntry → UserId → Tag → Version → List ℕ → Outcome
commit_by full lack entry user tag version recipe = unless_full full (commit_outcome lack entry (commands.Commit user tag version recipe) recipe)

same_by : (b : Bool) (entry : FileEntry) (recipe : List ℕ) → Decides b (entry.recipe ≡ recipe) → cond b replies.Committed replies.Exists ≡ replies.Committed → entry.recipe ≡ recipe
same_by true entry recipe d e = d.0 refl
same_by false entry recipe d e = absurd cc

other_by : (b : Bool) (entry : FileEntry) (recipe : List ℕ) → Decides b (entry.recipe ≡ recipe) → cond b replies.Committed replies.Exists ≡ replies.Exists → entry.recipe ≢ recipe
other_by true entry recipe d e = absurd cc
other_by false entry recipe d e = λ same. let t = d.1 same in cc

added_by : (shape : Shape) (list : List Command) (user : UserId) (tag : Tag) (version : Version) (recipe : List ℕ) (room : Option FullRoom) → entry_in shape list user (tag, version) ≡ None
    → (by_room (record { reply = replies.Committed; adds = Some (commands.Commit user tag version recipe) }) room).reply ≡ replies.Committed
    → HasEntryWith shape (list ++ option_to_list (by_room (record { reply = replies.Committed; adds = Some (commands.Commit user tag version recipe) }) room).adds) user (tag, version) recipe
added_by shape list user tag version recipe None none e = (with_recipe tag version recipe, entry_added shape list user tag version recipe none, refl)
added_by shape list user tag version recipe (Some full) none e = absurd cc

committed_by : (shape : Shape) (list : List Command) (full : Command → Option FullRoom) (lack : Option ℕ) (entry : Option FileEntry) (user : UserId) (tag : Tag) (version : Version) (recipe : List ℕ)
    → entry_in shape list user (tag, version) ≡ entry → (commit_by full lack entry user tag version recipe).reply ≡ replies.Committed
    → HasEntryWith shape (list ++ option_to_list (commit_by full lack entry user tag version recipe).adds) user (tag, version) recipe
committed_by shape list full (Some place) entry user tag version recipe stands e = absurd cc
committed_by shape list full None (Some entry) user tag version recipe stands e = (
  entry,
  subst (λ (l : List Command). entry_in shape l user (tag, version) ≡ Some entry) (sym (append-nil list)) stands,
  same_by (bytes_eq entry.recipe recipe) entry recipe (bytes_eq-Decides entry.recipe recipe) e,
)
committed_by shape list full None None user tag version recipe stands e = added_by shape list user tag version recipe (full (commands.Commit user tag version recipe)) stands e

not_exists : (command : Command) (room : Option FullRoom) → (by_room (record { reply = replies.Committed; adds = Some command }) room).reply ≡ replies.Exists → ⊥
not_exists command None e = cc
not_exists command (Some full) e = cc

exists_by : (shape : Shape) (list : List Command) (full : Command → Option FullRoom) (lack : Option ℕ) (entry : Option FileEntry) (user : UserId) (tag : Tag) (version : Version) (recipe : List ℕ)
    → entry_in shape list user (tag, version) ≡ entry → (commit_by full lack entry user tag version recipe).reply ≡ replies.Exists
    → HasOther shape (list ++ option_to_list (commit_by full lack entry user tag version recipe).adds) user (tag, version) recipe
exists_by shape list full (Some place) entry user tag version recipe stands e = absurd cc
exists_by shape list full None (Some entry) user tag version recipe stands e = (
  entry,
  subst (λ (l : List Command). entry_in shape l user (tag, version) ≡ Some entry) (sym (append-nil list)) stands,
  other_by (bytes_eq entry.recipe recipe) entry recipe (bytes_eq-Decides entry.recipe recipe) e,
)
exists_by shape list full None None user tag version recipe stands e = absurd (not_exists (commands.Commit user tag version recipe) (full (commands.Commit user tag version recipe)) e)

-- what a told cloud serves
module _ (shape : Shape) (cloud : ℕ) (full : List Command → Command → Option FullRoom) where
  committed_leaves : (old new : Peer) (user : UserId) (tag : Tag) (version : Version) (recipe : List ℕ)
      → Exec shape true (served shape cloud full) old (requests.Commit user tag version recipe) replies.Committed new → HasEntryWith shape new.list user (tag, version) recipe
  committed_leaves old new user tag version recipe x =
      let does : ExecTold (served shape cloud full) old (requests.Commit user tag version recipe) replies.Committed new = x.does in
      elim does [
        | inl a ↦
            let v : View = user_view shape a.before user in
            subst (λ (l : List Command). HasEntryWith shape l user (tag, version) recipe) (sym a.list)
            (committed_by shape a.before (full a.before) (first_lacking v.own (fps_of shape recipe)) (entry_at v.files (tag, version)) user tag version recipe refl (sym a.served))
        | inr f ↦ absurd (let e = f.reply_is in cc)
      ]

  exists_leaves : (old new : Peer) (user : UserId) (tag : Tag) (version : Version) (recipe : List ℕ)
      → Exec shape true (served shape cloud full) old (requests.Commit user tag version recipe) replies.Exists new → HasOther shape new.list user (tag, version) recipe
  exists_leaves old new user tag version recipe x =
      let does : ExecTold (served shape cloud full) old (requests.Commit user tag version recipe) replies.Exists new = x.does in
      elim does [
        | inl a ↦
            let v : View = user_view shape a.before user in
            subst (λ (l : List Command). HasOther shape l user (tag, version) recipe) (sym a.list)
            (exists_by shape a.before (full a.before) (first_lacking v.own (fps_of shape recipe)) (entry_at v.files (tag, version)) user tag version recipe refl (sym a.served))
        | inr f ↦ absurd (let e = f.reply_is in cc)
      ]

  -- neither a Query nor a Put is answered Exists
  query_not_exists : (old new : Peer) (user : UserId) (fps : _) → Exec shape true (served shape cloud full) old (requests.Query user fps) replies.Exists new → ⊥
  query_not_exists old new user fps x =
      let does : ExecTold (served shape cloud full) old (requests.Query user fps) replies.Exists new = x.does in
      elim does [
        | inl a ↦ let e = a.served in cc
        | inr f ↦ let e = f.reply_is in cc
      ]

put_room : (command : Command) (n : ℕ) (room : Option FullRoom) → (by_room (record { reply = replies.Stored n; adds = Some command }) room).reply ≡ replies.Exists → ⊥
put_room command n None e = cc
put_room command n (Some full) e = cc

put_by : (full : Command → Option FullRoom) (user : UserId) (new : List (List ℕ)) → (unless_full full (put_outcome user new)).reply ≡ replies.Exists → ⊥
put_by full user [] e = cc
put_by full user (s ∷ ss) e = put_room (commands.Put user (s ∷ ss)) _ (full (commands.Put user (s ∷ ss))) e

-- ---- the end of a lane

pub goes_on : (batches : List (List (List ℕ))) → onward batches ≡ Done → ⊥
goes_on [] e = cc
goes_on (batch ∷ rest) e = cc

pub past_by : (b : Bool) (batch : List (List ℕ)) (flags : List ℕ) (rest : List (List (List ℕ))) → cond b (onward rest) (Sending batch flags rest) ≡ Done → ⊥
past_by true batch flags rest e = goes_on rest e
past_by false batch flags rest e = cc

pub past_goes_on : (batch : List (List ℕ)) (flags : List ℕ) (rest : List (List (List ℕ))) → past_known batch flags rest ≡ Done → ⊥
past_goes_on batch flags rest e = past_by (list_all (λ flag. flag == 1) flags) batch flags rest e

-- a lane that had a request comes to its end by a Commit that is answered so
pub done_by : (w : Work) (lane : LaneState) (said : Reply) (request : Request) → lane_request w lane ≡ Some request → lane_after w lane said ≡ Done → (lane ≡ Done) ⊎ ((lane ≡ Committing) × (said ≡ replies.Committed))
done_by w (Asking batch rest) (replies.Hello n k cloud format) request asked e = absurd cc
done_by w (Asking batch rest) (replies.Known flags) request asked e = absurd (past_goes_on batch flags rest e)
done_by w (Asking batch rest) (replies.Stored new) request asked e = absurd cc
done_by w (Asking batch rest) replies.Committed request asked e = absurd cc
done_by w (Asking batch rest) replies.Exists request asked e = absurd cc
done_by w (Asking batch rest) (replies.Lacking place) request asked e = absurd cc
done_by w (Asking batch rest) (replies.Recipe bytes) request asked e = absurd cc
done_by w (Asking batch rest) replies.Missing request asked e = absurd cc
done_by w (Asking batch rest) (replies.Shares shares) request asked e = absurd cc
done_by w (Asking batch rest) (replies.NotYours place) request asked e = absurd cc
done_by w (Asking batch rest) (replies.Entries entries) request asked e = absurd cc
done_by w (Asking batch rest) replies.Deleted request asked e = absurd cc
done_by w (Asking batch rest) (replies.Full room used need limit) request asked e = absurd cc
done_by w (Asking batch rest) replies.Fault request asked e = absurd cc
done_by w (Asking batch rest) (replies.Damaged at byte) request asked e = absurd cc
done_by w (Asking batch rest) (replies.Rotten named found) request asked e = absurd cc
done_by w (Asking batch rest) (replies.Malformed at) request asked e = absurd cc
done_by w (Asking batch rest) replies.NoMemory request asked e = absurd cc
done_by w (Sending batch flags rest) (replies.Hello n k cloud format) request asked e = absurd cc
done_by w (Sending batch flags rest) (replies.Known marks) request asked e = absurd cc
done_by w (Sending batch flags rest) (replies.Stored new) request asked e = absurd (goes_on rest e)
done_by w (Sending batch flags rest) replies.Committed request asked e = absurd cc
done_by w (Sending batch flags rest) replies.Exists request asked e = absurd cc
done_by w (Sending batch flags rest) (replies.Lacking place) request asked e = absurd cc
done_by w (Sending batch flags rest) (replies.Recipe bytes) request asked e = absurd cc
done_by w (Sending batch flags rest) replies.Missing request asked e = absurd cc
done_by w (Sending batch flags rest) (replies.Shares shares) request asked e = absurd cc
done_by w (Sending batch flags rest) (replies.NotYours place) request asked e = absurd cc
done_by w (Sending batch flags rest) (replies.Entries entries) request asked e = absurd cc
done_by w (Sending batch flags rest) replies.Deleted request asked e = absurd cc
done_by w (Sending batch flags rest) (replies.Full room used need limit) request asked e = absurd cc
done_by w (Sending batch flags rest) replies.Fault request asked e = absurd cc
done_by w (Sending batch flags rest) (replies.Damaged at byte) request asked e = absurd cc
done_by w (Sending batch flags rest) (replies.Rotten named found) request asked e = absurd cc
done_by w (Sending batch flags rest) (replies.Malformed at) request asked e = absurd cc
done_by w (Sending batch flags rest) replies.NoMemory request asked e = absurd cc
done_by w Committing (replies.Hello n k cloud format) request asked e = absurd cc
done_by w Committing (replies.Known flags) request asked e = absurd cc
done_by w Committing (replies.Stored new) request asked e = absurd cc
done_by w Committing replies.Committed request asked e = inr (refl, refl)
done_by w Committing replies.Exists request asked e = absurd cc
done_by w Committing (replies.Lacking place) request asked e = absurd (goes_on w.batches e)
done_by w Committing (replies.Recipe bytes) request asked e = absurd cc
done_by w Committing replies.Missing request asked e = absurd cc
done_by w Committing (replies.Shares shares) request asked e = absurd cc
done_by w Committing (replies.NotYours place) request asked e = absurd cc
done_by w Committing (replies.Entries entries) request asked e = absurd cc
done_by w Committing replies.Deleted request asked e = absurd cc
done_by w Committing (replies.Full room used need limit) request asked e = absurd cc
done_by w Committing replies.Fault request asked e = absurd cc
done_by w Committing (replies.Damaged at byte) request asked e = absurd cc
done_by w Committing (replies.Rotten named found) request asked e = absurd cc
done_by w Committing (replies.Malformed at) request asked e = absurd cc
done_by w Committing replies.NoMemory request asked e = absurd cc
done_by w Done said request asked e = absurd cc
done_by w Refused said request asked e = absurd cc

module _ (shape : Shape) (cloud : ℕ) (full : List Command → Command → Option FullRoom) where
  put_not_exists : (old new : Peer) (user : UserId) (shares : List (List ℕ)) → Exec shape true (served shape cloud full) old (requests.Put user shares) replies.Exists new → ⊥
  put_not_exists old new user shares x =
      let does : ExecTold (served shape cloud full) old (requests.Put user shares) replies.Exists new = x.does in
      elim does [
        | inl a ↦ put_by (full a.before) user (new_strings (user_view shape a.before user).own shares) (sym a.served)
        | inr f ↦ let e = f.reply_is in cc
      ]

  -- a lane's request that is answered Exists is its Commit, and another version stands
  exists_ended : (w : Work) (lane : LaneState) (request : Request) (old new : Peer) → lane_request w lane ≡ Some request → Exec shape true (served shape cloud full) old request replies.Exists new
      → HasOther shape new.list w.user (w.tag, w.version) w.recipe
  exists_ended w (Asking batch rest) request old new asked x =
      absurd (query_not_exists shape cloud full old new w.user _ (subst (λ (r : Request). Exec shape true (served shape cloud full) old r replies.Exists new) (sym (same_Some _ request asked)) x))
  exists_ended w (Sending batch flags rest) request old new asked x =
      absurd (put_not_exists old new w.user _ (subst (λ (r : Request). Exec shape true (served shape cloud full) old r replies.Exists new) (sym (same_Some _ request asked)) x))
  exists_ended w Committing request old new asked x =
      exists_leaves shape cloud full old new w.user w.tag w.version w.recipe (subst (λ (r : Request). Exec shape true (served shape cloud full) old r replies.Exists new) (sym (same_Some _ request asked)) x)
  exists_ended w Done request old new asked x = absurd cc
  exists_ended w Refused request old new asked x = absurd cc

  -- a Commit that is answered Committed leaves the entry
  committed_ended : (w : Work) (lane : LaneState) (said : Reply) (request : Request) (old new : Peer) → lane_request w lane ≡ Some request → lane ≡ Committing → said ≡ replies.Committed
      → Exec shape true (served shape cloud full) old request said new → HasEntryWith shape new.list w.user (w.tag, w.version) w.recipe
  committed_ended w lane said request old new asked at heard does =
      let commit : Some (requests.Commit w.user w.tag w.version w.recipe) ≡ Some request = sym (ap (lane_request w) at) ∙ asked in
      let x : Exec shape true (served shape cloud full) old request replies.Committed new = subst (λ (o : Reply). Exec shape true (served shape cloud full) old request o new) heard does in
      committed_leaves shape cloud full old new w.user w.tag w.version w.recipe (subst (λ (r : Request). Exec shape true (served shape cloud full) old r replies.Committed new) (sym (same_Some _ request commit)) x)

  -- A reply that brings a lane to its end, or finds another version, is an answer: nothing is pending behind it.
  answered_mid : (old mid : Peer) (request : Request) (said reply : Reply) → said ≡ reply → reply ≢ replies.Fault → Exec shape true (served shape cloud full) old request said mid → IsQuiet mid
  answered_mid old mid request said reply same answers x =
      subst (IfCommand IsNoDelete) (sym (answered_quiet shape (served shape cloud full) old mid request said (λ e. answers (sym same ∙ e)) x)) tt

  -- a lane that is run to Done leaves its entry, and nothing pending that is a Delete, unless it was there from the start
  pub run_done : (p last : Progress) (old new : Peer) (turns : List (LaneTurn Peer)) → LaneRun (Exec shape true (served shape cloud full)) p old turns last new → last.lane.state ≡ Done
      → (p.lane.state ≡ Done) ⊎ (HasEntryWith shape new.list p.lane.work.user (p.lane.work.tag, p.lane.work.version) p.lane.work.recipe × IsQuiet new)
  run_done p last old new [] run done = inl (sym (ap (λ (q : Progress). q.lane.state) run.1) ∙ done)
  run_done p last old new (t ∷ turns) run done =
      let mid : Peer = run.3.0 in
      let w : Work = p.lane.work in
      let later = run_later shape cloud full (progress_after p t.reply) last mid new turns run.3.2 in
      elim (run_done (progress_after p t.reply) last mid new turns run.3.2 done) [
        | inr has ↦ inr has
        | inl heard ↦ elim (done_by w p.lane.state t.reply t.request run.2 heard) [
          | inl was ↦ inl was
          | inr c ↦ inr (
              let grew = later (answered_mid old mid t.request t.reply replies.Committed c.1 (λ e. let f : replies.Committed ≡ replies.Fault = e in cc) run.3.1) in
              (has_later shape mid.list new.list w.user (w.tag, w.version) w.recipe grew.0 (committed_ended w p.lane.state t.reply t.request old mid run.2 c.0 c.1 run.3.1), grew.1)
              )
        ]
      ]

  -- a lane whose last reply is Exists found another version
  pub run_exists : (p last : Progress) (old new : Peer) (turns : List (LaneTurn Peer)) → LaneRun (Exec shape true (served shape cloud full)) p old turns last new → last_said turns ≡ Some replies.Exists
      → HasOther shape new.list p.lane.work.user (p.lane.work.tag, p.lane.work.version) p.lane.work.recipe × IsQuiet new
  run_exists p last old new [] run said = absurd cc
  run_exists p last old new (t ∷ []) run said =
      let mid : Peer = run.3.0 in
      let w : Work = p.lane.work in
      let x : Exec shape true (served shape cloud full) old t.request replies.Exists mid = subst (λ (o : Reply). Exec shape true (served shape cloud full) old t.request o mid) (same_Some _ replies.Exists said) run.3.1 in
      subst (λ (q : Peer). HasOther shape q.list w.user (w.tag, w.version) w.recipe × IsQuiet q) (sym run.3.2.2)
      (exists_ended w p.lane.state t.request old mid run.2 x, answered_mid old mid t.request replies.Exists replies.Exists refl (λ e. let f : replies.Exists ≡ replies.Fault = e in cc) x)
  run_exists p last old new (t ∷ u ∷ turns) run said = run_exists (progress_after p t.reply) last run.3.0 new (u ∷ turns) run.3.2 said

begun_not_done : (w : Work) → onward w.batches ≡ Done → ⊥
begun_not_done w e = goes_on w.batches e

module _ (shape : Shape) (cloud : ℕ) (full : List Command → Command → Option FullRoom) where
  pub lane_done : (w : Work) (last : Progress) (old new : Peer) (turns : List (LaneTurn Peer)) → LaneRun (Exec shape true (served shape cloud full)) (starting (begun w)) old turns last new → last.lane.state ≡ Done
      → HasEntryWith shape new.list w.user (w.tag, w.version) w.recipe × IsQuiet new
  lane_done w last old new turns run done =
      elim (run_done shape cloud full (starting (begun w)) last old new turns run done) [
        | inl was ↦ absurd (begun_not_done w was)
        | inr has ↦ has
      ]
