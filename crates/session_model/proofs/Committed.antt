-- A line that says that a cloud committed a job's version leaves lists that keep it.
use Rattle.std.proofs.Common.{◌≡◌, ℕ, ◌≤◌, List, [], ◌∷◌, ◌++◌, length, map, Option, Some, None, refl, sym, ap, ◌∙◌, subst, inl, inr}
use Rattle.std.specs.Prelude.{IsSomeAnd, option_to_list}
use Rattle.std.specs.List.{Contains}
use Rattle.std.proofs.lemmas.List.Elements.{Contains-append_left}
use Rattle.std.proofs.lemmas.Grind.{flat_map-append}
use Rattle.session.specs.CdBase.Limits.{IsPath}
use Rattle.session.specs.CdBase.shape.Shape.{Shape}
use Rattle.subset_restore.specs.CaontRs.Package.{share}
use Rattle.rebuild.specs.FileRecipe.FileRecipe.{secrets}
use Rattle.rebuild.specs.Messages.request.Request.{Request}
use Rattle.rebuild.specs.Messages.request.Request.TheVariants as requests
use Rattle.rebuild.specs.Messages.reply.Reply.{Reply}
use Rattle.rebuild.specs.Messages.reply.Reply.TheVariants as replies
use Rattle.subset_restore.specs.UserDedup.command.Command.{Command}
use Rattle.subset_restore.specs.UserDedup.Cloud.{fingerprint, strings_of}
use Rattle.subset_restore.specs.UserDedup.Dedup.{Outcome, FullRoom, put_outcome, answer_over, room_for, by_room}
use Rattle.subset_restore.specs.UserDedup.Exec.{Peer, MaySettleAs, ExecTold, served}
use Rattle.subset_restore.specs.UserDedup.Cloud.{strings_in}
use Rattle.rebuild.specs.UploadJob.news.LaneNews.TheVariants as lane_news
use Rattle.rebuild.specs.UploadJob.Upload.{FileVersion, Work, work_of}
use Rattle.rebuild.specs.UploadJob.Lane.{LaneState, Asking, Sending, Committing, Done, Refused, unflagged, lane_request, news_of}
use Rattle.rebuild.specs.UploadJob.Lanes.{LaneView}
use Rattle.rebuild.specs.KeptFiles.Kept.{Keeps}
use Rattle.rebuild.proofs.KeptFiles.Keeping.{committed_keeps}

-- ---- which reply tells of a Commit

not_fault : (state : LaneState) → news_of state replies.Fault ≡ Some lane_news.Committed → ⊥
not_fault (Asking batch rest) e = cc
not_fault (Sending batch flags rest) e = cc
not_fault Committing e = cc
not_fault Done e = cc
not_fault Refused e = cc

is_committed : (r : Reply) → news_of Committing r ≡ Some lane_news.Committed → r ≡ replies.Committed
is_committed (replies.Hello n k cloud format) e = cc
is_committed (replies.Known flags) e = cc
is_committed (replies.Stored new) e = cc
is_committed replies.Committed e = refl
is_committed replies.Exists e = cc
is_committed (replies.Lacking place) e = cc
is_committed (replies.Recipe bytes) e = cc
is_committed replies.Missing e = cc
is_committed (replies.Shares shares) e = cc
is_committed (replies.NotYours place) e = cc
is_committed (replies.Entries entries) e = cc
is_committed replies.Deleted e = cc
is_committed (replies.Full room used need limit) e = cc
is_committed replies.Fault e = cc
is_committed (replies.Damaged at byte) e = cc
is_committed (replies.Rotten named found) e = cc
is_committed (replies.Malformed at) e = cc
is_committed replies.NoMemory e = cc

module _ (shape : Shape) (cloud : ℕ) (full : List Command → Command → Option FullRoom) where
  not_query : (batch : List (List ℕ)) (rest : List (List (List ℕ))) (before : List Command) (user : _) (fps : _) → news_of (Asking batch rest) (served shape cloud full before (requests.Query user fps)).reply ≡ Some lane_news.Committed → ⊥
  not_query batch rest before user fps e = cc

  not_put_by : (batch : List (List ℕ)) (flags : List ℕ) (rest : List (List (List ℕ))) (user : _) (new : List (List ℕ)) (room : Option FullRoom) → news_of (Sending batch flags rest) (by_room (put_outcome user new) room).reply ≡ Some lane_news.Committed → ⊥
  not_put_by batch flags rest user [] None e = cc
  not_put_by batch flags rest user [] (Some f) e = cc
  not_put_by batch flags rest user (x ∷ new) None e = cc
  not_put_by batch flags rest user (x ∷ new) (Some f) e = cc

-- where the room isn't full, the Commit's own outcome
by_room_committed : (o : Outcome) (room : Option FullRoom) → news_of Committing (by_room o room).reply ≡ Some lane_news.Committed → (o.reply ≡ replies.Committed) × ((by_room o room).adds ≡ o.adds)
by_room_committed o None e = (is_committed o.reply e, refl)
by_room_committed o (Some f) e = absurd (let g : Some (lane_news.Full f.room f.used f.need f.limit) ≡ Some lane_news.Committed = e in cc)

-- ---- what a cloud executes

-- the version is one that may be uploaded
pub record IsUpload (v : FileVersion) : Type 0 where
  pub path : IsPath v.path
  pub few : length v.file ≤ 67108864

module _ (shape : Shape) (cloud : ℕ) (full : List Command → Command → Option FullRoom) (v : FileVersion) (good : IsUpload v) (Ok : List ℕ → Type 0)
    (apart : (string secret : List ℕ) → Ok string → Contains (secrets v.file) secret → fingerprint string ≡ fingerprint (share shape cloud secret) → string ≡ share shape cloud secret) where
  strings_left : (before more : List Command) (string : List ℕ) → Contains (strings_in before) string → Contains (strings_in (before ++ more)) string
  strings_left before more string has = subst (λ (l : List (List ℕ)). Contains l string) (sym (flat_map-append strings_of before more)) (Contains-append_left (strings_in before) (strings_in more) string has)

  nothing_pending : (p : Peer) (list : List Command) → p.pending ≡ None → MaySettleAs p list → list ≡ p.list
  nothing_pending p list is (inl same) = same
  nothing_pending p list is (inr some) = absurd (subst (λ (o : Option Command). IsSomeAnd o (λ command. list ≡ p.list ++ command ∷ [])) is some)

  by_state : (lane : LaneView) (request : Request) (before : List Command) (q : List Command) → lane.work ≡ work_of shape v cloud → lane_request lane.work lane.state ≡ Some request
      → news_of lane.state (served shape cloud full before request).reply ≡ Some lane_news.Committed
      → q ≡ before ++ option_to_list (served shape cloud full before request).adds → ((string : List ℕ) → Contains (strings_in q) string → Ok string) → Keeps shape cloud q v.user v.path v.number v.file
  by_state lane request before q work asks news list ok = of_state lane.state asks news
    where
      committing : (r : Request) → r ≡ requests.Commit v.user (work_of shape v cloud).tag v.number (work_of shape v cloud).recipe → news_of Committing (served shape cloud full before r).reply ≡ Some lane_news.Committed
          → q ≡ before ++ option_to_list (served shape cloud full before r).adds → Keeps shape cloud q v.user v.path v.number v.file
      committing r e news list =
          let P : Request → Type 0 = λ x. news_of Committing (served shape cloud full before x).reply ≡ Some lane_news.Committed → q ≡ before ++ option_to_list (served shape cloud full before x).adds → Keeps shape cloud q v.user v.path v.number v.file in
          subst P (sym e) entered news list
        where
          commit : Request
          commit = requests.Commit v.user (work_of shape v cloud).tag v.number (work_of shape v cloud).recipe

          entered : news_of Committing (served shape cloud full before commit).reply ≡ Some lane_news.Committed → q ≡ before ++ option_to_list (served shape cloud full before commit).adds → Keeps shape cloud q v.user v.path v.number v.file
          entered news list =
              let o = answer_over shape cloud before commit in
              let x = by_room_committed o (room_for (full before) o.adds) news in
              let kept = committed_keeps shape cloud before v.user v.path v.number v.file good.path good.few
              (λ string secret put among same. apart string secret (ok string (subst (λ (l : List Command). Contains (strings_in l) string) (sym list) (strings_left before _ string put))) among same) x.0 in
              subst (λ (l : List Command). Keeps shape cloud l v.user v.path v.number v.file) (sym (list ∙ ap (λ (a : Option Command). before ++ option_to_list a) x.1)) kept

      of_state : (state : LaneState) → lane_request lane.work state ≡ Some request → news_of state (served shape cloud full before request).reply ≡ Some lane_news.Committed → Keeps shape cloud q v.user v.path v.number v.file
      of_state (Asking batch rest) asks news =
          let same : requests.Query lane.work.user (map fingerprint batch) ≡ request = cc in
          absurd (not_query shape cloud full batch rest before lane.work.user (map fingerprint batch) (subst (λ (r : Request). news_of (Asking batch rest) (served shape cloud full before r).reply ≡ Some lane_news.Committed) (sym same) news))
      of_state (Sending batch flags rest) asks news =
          let same : requests.Put lane.work.user (unflagged batch flags) ≡ request = cc in
          absurd (not_put_by shape cloud full batch flags rest lane.work.user _ _ (subst (λ (r : Request). news_of (Sending batch flags rest) (served shape cloud full before r).reply ≡ Some lane_news.Committed) (sym same) news))
      of_state Committing asks news =
          let same : requests.Commit lane.work.user lane.work.tag lane.work.version lane.work.recipe ≡ request = cc in
          committing request (sym same ∙ ap (λ (w : Work). requests.Commit w.user w.tag w.version w.recipe) work) news list
      of_state Done asks news = absurd (let f : None ≡ Some request = asks in cc)
      of_state Refused asks news = absurd (let f : None ≡ Some request = asks in cc)

  pub executed_keeps : (lane : LaneView) (request : Request) (p q : Peer) (reply : Reply) → lane.work ≡ work_of shape v cloud → lane_request lane.work lane.state ≡ Some request
      → ExecTold (served shape cloud full) p request reply q → news_of lane.state reply ≡ Some lane_news.Committed → ((string : List ℕ) → Contains (strings_in q.list) string → Ok string)
      → (list : List Command) → MaySettleAs q list → Keeps shape cloud list v.user v.path v.number v.file
  executed_keeps lane request p q reply work asks (inl a) news ok list settles =
      subst (λ (l : List Command). Keeps shape cloud l v.user v.path v.number v.file) (sym (nothing_pending q list a.pending settles))
      (by_state lane request a.before q.list work asks (subst (λ (r : Reply). news_of lane.state r ≡ Some lane_news.Committed) a.served news) a.list ok)
  executed_keeps lane request p q reply work asks (inr f) news ok list settles =
      absurd (not_fault lane.state (subst (λ (r : Reply). news_of lane.state r ≡ Some lane_news.Committed) f.reply_is news))
