-- A told target is never lacking a share of the version that a lane brings: when the Commit comes, the user owns each share there.
use Rattle.std.proofs.Common.{◌≡◌, ◌⊎◌, ℕ, ◌≤◌, Bool, true, false, cond, List, [], ◌∷◌, ◌++◌, length, map, Option, Some, None, refl, sym, ap, ◌∙◌, subst, inl, inr, append-nil, append_assoc}
use Rattle.std.specs.Prelude.{◌==◌, ◌&&◌, All, bytes_eq, option_to_list}
use Rattle.std.specs.List.{Contains, flat_map, list_all}
use Rattle.std.proofs.lemmas.List.Elements.{All-nil, All-cons, Contains-append_left, Contains-append_right, Contains-append_cases}
use Rattle.std.proofs.lemmas.Option.{same_Some}
use Rattle.lane_steps.specs.CdBase.Limits.{IsPath}
use Rattle.lane_steps.specs.CdBase.ids.Fp.{Fp}
use Rattle.lane_steps.specs.CdBase.shape.Shape.{Shape}
use Rattle.lane_steps.specs.Messages.request.Request.{Request}
use Rattle.lane_steps.specs.Messages.request.Request.TheVariants as requests
use Rattle.lane_steps.specs.Messages.reply.Reply.{Reply}
use Rattle.lane_steps.specs.Messages.reply.Reply.TheVariants as replies
use Rattle.lane_steps.specs.UserDedup.command.Command.{Command}
use Rattle.lane_steps.specs.UserDedup.command.Command.TheVariants as commands
use Rattle.lane_steps.specs.UserDedup.file_list.FileEntry.{FileEntry}
use Rattle.lane_steps.specs.UserDedup.view.View.{View}
use Rattle.lane_steps.specs.UserDedup.Cloud.{fingerprint, user_view}
use Rattle.lane_steps.specs.UserDedup.Owning.{is_among, flags, first_lacking, new_strings}
use Rattle.lane_steps.specs.UserDedup.Pages.{entry_at}
use Rattle.lane_steps.specs.UserDedup.Requests.{fps_of}
use Rattle.lane_steps.specs.UserDedup.Dedup.{FullRoom, by_room, commit_outcome, put_outcome, unless_full}
use Rattle.lane_steps.specs.UserDedup.Exec.{Peer, Exec, ExecTold, Answers, MaySettleAs, served}
use Rattle.lane_steps.proofs.UserDedup.Owned.{among_contains, contains_here, contains_later, contains_nothing, contains_cases}
use Rattle.lane_steps.proofs.UserDedup.Views.{IsSent, own_adds}
use Rattle.lane_steps.specs.UploadJob.Upload.{FileVersion, Work, in_batches, shares_for, wanted_for, work_of}
use Rattle.lane_steps.specs.UploadJob.Lane.{LaneState, Asking, Sending, Committing, Done, Refused, lane_after, lane_request, onward, unflagged}
use Rattle.lane_steps.proofs.UploadJob.Batches.{batches_joined}
use Rattle.lane_steps.proofs.UploadJob.Naming.{fps_named}
use Rattle.lane_steps.specs.Runs.{LaneTurn, Progress, progress_after, stops_at, LaneAlong}
use Rattle.kept_files.proofs.RestoreJob.Held.{none_lacking}
use Rattle.kept_files.proofs.RestoreJob.Leading.{no_pending}
use Rattle.rebuild.specs.Rebuilding.{last_said, lane_of}
use Rattle.rebuild.proofs.Turning.{Answered, expected}

-- ---- what a lane has brought so far

abbrev OwnsAll : List Fp → List (List ℕ) → Type 0
OwnsAll own strings = (s : List ℕ) → Contains strings s → Contains own (fingerprint s)

abbrev pub InBatch : List (List (List ℕ)) → List ℕ → Type 0
InBatch batches s = (batch : List (List ℕ)) × Contains batches batch × Contains batch s

-- each string of the batches is owned, or in those that are left
abbrev pub Past : List (List (List ℕ)) → List (List (List ℕ)) → List Fp → Type 0
Past batches left own = (s : List ℕ) → InBatch batches s → Contains own (fingerprint s) ⊎ InBatch left s

-- each string of this batch is owned, or is to be sent
abbrev pub IsMarked : List (List ℕ) → List ℕ → List Fp → Type 0
IsMarked batch marks own = (s : List ℕ) → Contains batch s → Contains own (fingerprint s) ⊎ Contains (unflagged batch marks) s

abbrev pub IsBrought : List (List (List ℕ)) → LaneState → List Fp → Type 0
IsBrought batches (Asking batch rest) own = Past batches (batch ∷ rest) own
IsBrought batches (Sending batch marks rest) own = Past batches (batch ∷ rest) own × IsMarked batch marks own
IsBrought batches Committing own = Past batches [] own
IsBrought batches Done own = Unit {0}
IsBrought batches Refused own = Unit {0}

pub onward_brought : (batches left : List (List (List ℕ))) (own : List Fp) → Past batches left own → IsBrought batches (onward left) own
onward_brought batches [] own past = past
onward_brought batches (batch ∷ rest) own past = past

pub past_all : (batches : List (List (List ℕ))) (own : List Fp) → Past batches batches own
past_all batches own s there = inr there

past_batch : (batches rest : List (List (List ℕ))) (batch : List (List ℕ)) (own : List Fp) → Past batches (batch ∷ rest) own → OwnsAll own batch → Past batches rest own
past_batch batches rest batch own past owns s there =
    elim (past s there) [
      | inl owned ↦ inl owned
      | inr left ↦ elim (contains_cases batch rest left.0 left.1) [
        | inl same ↦ inl (owns s (subst (λ (b : List (List ℕ)). Contains b s) (sym same) left.2))
        | inr later ↦ inr (left.0, later, left.2)
      ]
    ]

past_more : (batches left : List (List (List ℕ))) (own more : List Fp) → Past batches left own → ((fp : Fp) → Contains own fp → Contains more fp) → Past batches left more
past_more batches left own more past grows s there =
    elim (past s there) [
      | inl owned ↦ inl (grows (fingerprint s) owned)
      | inr later ↦ inr later
    ]

-- ---- a Query

-- where all are known all are owned
all_known : (own : List Fp) (batch : List (List ℕ)) → list_all (λ (flag : ℕ). flag == 1) (flags own (map fingerprint batch)) ≡ true → OwnsAll own batch
all_known own [] e s has = absurd (contains_nothing s has)
all_known own (x ∷ batch) e s has = by_test (is_among own (fingerprint x)) refl (λ known later. all_known own batch known s later) e
  where
    by_test : (b : Bool) → is_among own (fingerprint x) ≡ b → (list_all (λ (flag : ℕ). flag == 1) (flags own (map fingerprint batch)) ≡ true → Contains batch s → Contains own (fingerprint s))
        → ((cond b 1 0 == 1) && list_all (λ (flag : ℕ). flag == 1) (flags own (map fingerprint batch))) ≡ true → Contains own (fingerprint s)
    by_test true among all rest =
        elim (contains_cases x batch s has) [
          | inl same ↦ subst (λ (y : List ℕ). Contains own (fingerprint y)) same (among_contains own (fingerprint x) among)
          | inr later ↦ all rest later
        ]
    by_test false among all rest = absurd cc

-- what isn't known is to be sent
marked : (own : List Fp) (batch : List (List ℕ)) → IsMarked batch (flags own (map fingerprint batch)) own
marked own [] s has = absurd (contains_nothing s has)
marked own (x ∷ batch) s has = by_test (is_among own (fingerprint x)) refl (marked own batch s)
  where
    rest : List (List ℕ)
    rest = unflagged batch (flags own (map fingerprint batch))

    by_test : (b : Bool) → is_among own (fingerprint x) ≡ b → (Contains batch s → Contains own (fingerprint s) ⊎ Contains rest s) → Contains own (fingerprint s) ⊎ Contains (cond (cond b 1 0 == 0) (x ∷ []) [] ++ rest) s
    by_test true among mark =
        elim (contains_cases x batch s has) [
          | inl same ↦ inl (subst (λ (y : List ℕ). Contains own (fingerprint y)) same (among_contains own (fingerprint x) among))
          | inr later ↦ mark later
        ]
    by_test false among mark =
        elim (contains_cases x batch s has) [
          | inl same ↦ inr (subst (Contains (x ∷ rest)) same (contains_here x rest))
          | inr later ↦ elim (mark later) [
            | inl owned ↦ inl owned
            | inr sent ↦ inr (contains_later x rest s sent)
          ]
        ]

-- ---- a Put

-- all that was sent is owned with what is new
sent_owned : (own : List Fp) (sent : List (List ℕ)) → OwnsAll (own ++ map fingerprint (new_strings own sent)) sent
sent_owned own [] s has = absurd (contains_nothing s has)
sent_owned own (x ∷ sent) s has = by_test (is_among own (fingerprint x)) refl (sent_owned own sent s) (sent_owned (own ++ fingerprint x ∷ []) sent s)
  where
    grown : List Fp
    grown = own ++ fingerprint x ∷ []

    by_test : (b : Bool) → is_among own (fingerprint x) ≡ b → (Contains sent s → Contains (own ++ map fingerprint (new_strings own sent)) (fingerprint s))
        → (Contains sent s → Contains (grown ++ map fingerprint (new_strings grown sent)) (fingerprint s)) → Contains (own ++ map fingerprint (cond b (new_strings own sent) (x ∷ new_strings grown sent))) (fingerprint s)
    by_test true among had new =
        elim (contains_cases x sent s has) [
          | inl same ↦ Contains-append_left own (map fingerprint (new_strings own sent)) (fingerprint s) (subst (λ (y : List ℕ). Contains own (fingerprint y)) same (among_contains own (fingerprint x) among))
          | inr later ↦ had later
        ]
    by_test false among had new =
        let more = map fingerprint (new_strings grown sent) in
        elim (contains_cases x sent s has) [
          | inl same ↦ Contains-append_right own (fingerprint x ∷ more) (fingerprint s) (subst (λ (y : List ℕ). Contains (fingerprint x ∷ more) (fingerprint y)) same (contains_here (fingerprint x) more))
          | inr later ↦ subst (λ (l : List Fp). Contains l (fingerprint s)) (append_assoc own (fingerprint x ∷ []) more) (new later)
        ]

module _ (shape : Shape) (w : Work) where
  abbrev pub owned_at : List Command → List Fp
  owned_at list = (user_view shape list w.user).own

  nothing_added : (batches : List (List (List ℕ))) (state : LaneState) (list : List Command) → IsBrought batches state (owned_at list) → IsBrought batches state (owned_at (list ++ []))
  nothing_added batches state list brought = subst (λ (l : List Command). IsBrought batches state (owned_at l)) (sym (append-nil list)) brought

  put_brings : (full : Command → Option FullRoom) (list : List Command) (batch : List (List ℕ)) (marks : List ℕ) (rest : List (List (List ℕ))) (new : List (List ℕ)) → Past w.batches (batch ∷ rest) (owned_at list) → OwnsAll (owned_at list ++ map fingerprint new) batch
      → IsBrought w.batches (lane_after w (Sending batch marks rest) (unless_full full (put_outcome w.user new)).reply) (owned_at (list ++ option_to_list (unless_full full (put_outcome w.user new)).adds))
  put_brings full list batch marks rest [] past owns =
      nothing_added w.batches (onward rest) list
      (onward_brought w.batches rest (owned_at list) (past_batch w.batches rest batch (owned_at list) past (subst (λ (l : List Fp). OwnsAll l batch) (append-nil (owned_at list)) owns)))
  put_brings full list batch marks rest (x ∷ new) past owns = by_full (full (commands.Put w.user (x ∷ new)))
    where
      grown : owned_at (list ++ commands.Put w.user (x ∷ new) ∷ []) ≡ owned_at list ++ map fingerprint (x ∷ new)
      grown = ap (λ (v : View). v.own) (own_adds shape list (commands.Put w.user (x ∷ new)) w.user refl)

      by_full : (room : Option FullRoom)
          → IsBrought w.batches (lane_after w (Sending batch marks rest) (by_room (record { reply = replies.Stored (length (x ∷ new)); adds = Some (commands.Put w.user (x ∷ new)) }) room).reply)
          (owned_at (list ++ option_to_list (by_room (record { reply = replies.Stored (length (x ∷ new)); adds = Some (commands.Put w.user (x ∷ new)) }) room).adds))
      by_full None =
          subst (IsBrought w.batches (onward rest)) (sym grown)
          (onward_brought w.batches rest (owned_at list ++ map fingerprint (x ∷ new)) (past_batch w.batches rest batch (owned_at list ++ map fingerprint (x ∷ new))
          (past_more w.batches (batch ∷ rest) (owned_at list) (owned_at list ++ map fingerprint (x ∷ new)) past (λ fp has. Contains-append_left (owned_at list) (map fingerprint (x ∷ new)) fp has)) owns))
      by_full (Some room) = tt

  -- behind a Commit the lane is done, refused, or at its first batch
  commit_brings : (full : Command → Option FullRoom) (lack : Option ℕ) (entry : Option FileEntry) (command : Command) (recipe : List ℕ) (own : List Fp)
      → IsBrought w.batches (lane_after w Committing (unless_full full (commit_outcome lack entry command recipe)).reply) own
  commit_brings full (Some place) entry command recipe own = onward_brought w.batches w.batches own (past_all w.batches own)
  commit_brings full None (Some entry) command recipe own = by_same (bytes_eq entry.recipe recipe)
    where
      by_same : (b : Bool) → IsBrought w.batches (lane_after w Committing (cond b replies.Committed replies.Exists)) own
      by_same true = tt
      by_same false = tt
  commit_brings full None None command recipe own = by_full (full command)
    where
      by_full : (room : Option FullRoom) → IsBrought w.batches (lane_after w Committing (by_room (record { reply = replies.Committed; adds = Some command }) room).reply) own
      by_full None = tt
      by_full (Some room) = tt

  query_brings : (batch : List (List ℕ)) (rest : List (List (List ℕ))) (own : List Fp) → Past w.batches (batch ∷ rest) own → IsBrought w.batches (lane_after w (Asking batch rest) (replies.Known (flags own (map fingerprint batch)))) own
  query_brings batch rest own past = by_test (list_all (λ (flag : ℕ). flag == 1) (flags own (map fingerprint batch))) refl
    where
      by_test : (b : Bool) → list_all (λ (flag : ℕ). flag == 1) (flags own (map fingerprint batch)) ≡ b → IsBrought w.batches (cond b (onward rest) (Sending batch (flags own (map fingerprint batch)) rest)) own
      by_test true e = onward_brought w.batches rest own (past_batch w.batches rest batch own past (all_known own batch e))
      by_test false e = (past, marked own batch)

  module _ (cloud : ℕ) (full : List Command → Command → Option FullRoom) where
    abbrev Serves : List Command → LaneState → Request → Type 0
    Serves list state request =
        IsBrought w.batches (lane_after w state (served shape cloud full list request).reply) (owned_at (list ++ option_to_list (served shape cloud full list request).adds))

    -- what a told cloud serves brings the lane on
    serves_brings : (list : List Command) (state : LaneState) (request : Request) → lane_request w state ≡ Some request → IsBrought w.batches state (owned_at list) → Serves list state request
    serves_brings list (Asking batch rest) request asks brought =
        subst (Serves list (Asking batch rest)) (same_Some (requests.Query w.user (map fingerprint batch)) request asks)
        (nothing_added w.batches (lane_after w (Asking batch rest) (replies.Known (flags (owned_at list) (map fingerprint batch)))) list (query_brings batch rest (owned_at list) brought))
    serves_brings list (Sending batch marks rest) request asks brought =
        let sent = unflagged batch marks in
        let new = new_strings (owned_at list) sent in
        subst (Serves list (Sending batch marks rest)) (same_Some (requests.Put w.user sent) request asks)
        (put_brings (full list) list batch marks rest new brought.0 (λ s has. elim (brought.1 s has) [
          | inl owned ↦ Contains-append_left (owned_at list) (map fingerprint new) (fingerprint s) owned
          | inr sends ↦ sent_owned (owned_at list) sent s sends
        ]))
    serves_brings list Committing request asks brought =
        subst (Serves list Committing) (same_Some (requests.Commit w.user w.tag w.version w.recipe) request asks)
        (commit_brings (full list) (first_lacking (owned_at list) (fps_of shape w.recipe)) (entry_at (user_view shape list w.user).files (w.tag, w.version)) (commands.Commit w.user w.tag w.version w.recipe) w.recipe
        (owned_at (list ++ option_to_list (served shape cloud full list (requests.Commit w.user w.tag w.version w.recipe)).adds)))
    serves_brings list Done request asks brought = absurd cc
    serves_brings list Refused request asks brought = absurd cc

    -- whatever list it settles as
    abbrev pub Stands : LaneState → Peer → Type 0
    Stands state p = (list : List Command) → MaySettleAs p list → IsBrought w.batches state (owned_at list)

    pub turn_stands : (state : LaneState) (p q : Peer) (request : Request) (reply : Reply) → lane_request w state ≡ Some request → Stands state p → Answers (served shape cloud full) p request reply q → Stands (lane_after w state reply) q
    turn_stands state p q request reply asks stands a list may =
        subst (λ (l : List Command). IsBrought w.batches (lane_after w state reply) (owned_at l)) (sym (no_pending q list a.pending may ∙ a.list))
        (subst (λ (r : Reply). IsBrought w.batches (lane_after w state r) (owned_at (a.before ++ option_to_list (served shape cloud full a.before request).adds))) (sym a.served)
        (serves_brings a.before state request asks (stands a.before a.settled)))

-- ---- the Commit

-- each fingerprint that the recipe names is that of a string in the batches
abbrev pub Covers : Shape → Work → Type 0
Covers shape w = (fp : Fp) → Contains (fps_of shape w.recipe) fp → (s : List ℕ) × InBatch w.batches s × (fingerprint s ≡ fp)

mapped_from : (strings : List (List ℕ)) (fp : Fp) → Contains (map fingerprint strings) fp → IsSent strings fp
mapped_from [] fp has = absurd (contains_nothing fp has)
mapped_from (x ∷ strings) fp has =
    elim (contains_cases (fingerprint x) (map fingerprint strings) fp has) [
      | inl same ↦ (x, contains_here x strings, same)
      | inr later ↦ (let r = mapped_from strings fp later in (r.0, contains_later x strings r.0 r.1, r.2))
    ]

in_some_batch : (batches : List (List (List ℕ))) (s : List ℕ) → Contains (flat_map (λ (batch : List (List ℕ)). batch) batches) s → InBatch batches s
in_some_batch [] s has = absurd (contains_nothing s has)
in_some_batch (batch ∷ batches) s has =
    elim (Contains-append_cases batch (flat_map (λ (b : List (List ℕ)). b) batches) s has) [
      | inl here ↦ (batch, contains_here batch batches, here)
      | inr later ↦ (let r = in_some_batch batches s later in (r.0, contains_later batch batches r.0 r.1, r.2))
    ]

pub covered : (shape : Shape) (v : FileVersion) (cloud : ℕ) → IsPath v.path → length v.file ≤ 67108864 → Covers shape (work_of shape v cloud)
covered shape v cloud named few fp has =
    let strings = shares_for shape cloud v.file in
    let wanted = wanted_for shape cloud v.file in
    let at = mapped_from strings fp (subst (λ (l : List Fp). Contains l fp) (fps_named shape cloud v.path v.file named few) has) in
    let is = mapped_from wanted (fingerprint at.0) (sent_owned [] strings at.0 at.1) in
    (is.0, in_some_batch (in_batches wanted) is.0 (subst (λ (l : List (List ℕ)). Contains l is.0) (sym (batches_joined wanted)) is.1), is.2 ∙ at.2)

all_from : {A : Type 0} (P : A → Type 0) (xs : List A) → ((x : A) → Contains xs x → P x) → All P xs
all_from P [] each = All-nil P
all_from P (x ∷ xs) each = All-cons P x xs (each x (contains_here x xs)) (all_from P xs (λ y has. each y (contains_later x xs y has)))

not_lacking : (full : Command → Option FullRoom) (lack : Option ℕ) (entry : Option FileEntry) (command : Command) (recipe : List ℕ) (place : ℕ) → lack ≡ None
    → (unless_full full (commit_outcome lack entry command recipe)).reply ≡ replies.Lacking place → ⊥
not_lacking full (Some at) entry command recipe place none e = cc
not_lacking full None (Some entry) command recipe place none e = by_same (bytes_eq entry.recipe recipe) e
  where
    by_same : (b : Bool) → cond b replies.Committed replies.Exists ≡ replies.Lacking place → ⊥
    by_same true e = cc
    by_same false e = cc
not_lacking full None None command recipe place none e = by_full (full command) e
  where
    by_full : (room : Option FullRoom) → (by_room (record { reply = replies.Committed; adds = Some command }) room).reply ≡ replies.Lacking place → ⊥
    by_full None e = cc
    by_full (Some room) e = cc

-- ---- a lane

module _ (shape : Shape) (cloud : ℕ) (full : List Command → Command → Option FullRoom) where
  commit_whole : (w : Work) → Covers shape w → (p q : Peer) (request : Request) (reply : Reply) (place : ℕ) → lane_request w Committing ≡ Some request → Stands shape w cloud full Committing p
      → Answers (served shape cloud full) p request reply q → reply ≡ replies.Lacking place → ⊥
  commit_whole w covers p q request reply place asks stands a is =
      let v : View = user_view shape a.before w.user in
      let past = stands a.before a.settled in
      let owned = all_from (Contains v.own) (fps_of shape w.recipe) (λ fp has. (let c = covers fp has in elim (past c.0 c.1) [
        | inl own ↦ subst (Contains v.own) c.2 own
        | inr none ↦ absurd (contains_nothing none.0 none.1)
      ])) in
      let commit = requests.Commit w.user w.tag w.version w.recipe in
      not_lacking (full a.before) (first_lacking v.own (fps_of shape w.recipe)) (entry_at v.files (w.tag, w.version)) (commands.Commit w.user w.tag w.version w.recipe) w.recipe place (none_lacking v.own (fps_of shape w.recipe) owned)
      (ap (λ (r : Request). (served shape cloud full a.before r).reply) (same_Some commit request asks) ∙ sym a.served ∙ is)

  -- a turn that is answered Lacking is a Commit's
  pub turn_whole : (w : Work) → Covers shape w → (state : LaneState) (p q : Peer) (request : Request) (reply : Reply) (place : ℕ) → lane_request w state ≡ Some request → Stands shape w cloud full state p
      → Exec shape true (served shape cloud full) p request reply q → reply ≡ replies.Lacking place → ⊥
  turn_whole w covers state p q request reply place asks stands x is =
      let does : ExecTold (served shape cloud full) p request reply q = x.does in
      elim does [
        | inl a ↦ elim (expected shape cloud full w state request reply p q asks x) [
          | inl answered ↦ by_state state asks stands a (subst (Answered state) is answered)
          | inr fault ↦ (let e : replies.Lacking place ≡ replies.Fault = sym is ∙ fault in cc)
        ]
        | inr f ↦ (let e : replies.Lacking place ≡ replies.Fault = sym is ∙ f.reply_is in cc)
      ]
    where
      by_state : (at : LaneState) → lane_request w at ≡ Some request → Stands shape w cloud full at p → Answers (served shape cloud full) p request reply q → Answered at (replies.Lacking place) → ⊥
      by_state (Asking batch rest) asks stands a answered = answered
      by_state (Sending batch marks rest) asks stands a answered = answered
      by_state Committing asks stands a answered = commit_whole w covers p q request reply place asks stands a is
      by_state Done asks stands a answered = answered
      by_state Refused asks stands a answered = answered

  along_whole : (p last : Progress) (old new : Peer) (turns : List (LaneTurn Peer)) (place : ℕ) → Covers shape p.lane.work → Stands shape p.lane.work cloud full p.lane.state old
      → LaneAlong (Exec shape true (served shape cloud full)) p old turns last new → last_said turns ≡ Some (replies.Lacking place) → ⊥
  along_whole p last old new [] place covers stands along said = cc
  along_whole p last old new (t ∷ []) place covers stands along said =
      turn_whole p.lane.work covers p.lane.state old along.3.0 t.request t.reply place along.2 stands along.3.1 (same_Some t.reply (replies.Lacking place) said)
  along_whole p last old new (t ∷ u ∷ turns) place covers stands along said =
      let does : ExecTold (served shape cloud full) old t.request t.reply along.3.0 = along.3.1.does in
      elim does [
        | inl a ↦ along_whole (progress_after p t.reply) last along.3.0 new (u ∷ turns) place covers (turn_stands shape p.lane.work cloud full p.lane.state old along.3.0 t.request t.reply along.2 stands a) along.3.2 said
        | inr f ↦ (let e : false ≡ true = sym along.3.2.0 ∙ ap (stops_at p.lacked) f.reply_is in cc)
      ]

  -- No reply to a told lane that brings this version is that a share is lacking.
  pub never_lacking : (v : FileVersion) (last : Progress) (old new : Peer) (turns : List (LaneTurn Peer)) (place : ℕ) → IsPath v.path → length v.file ≤ 67108864
      → LaneAlong (Exec shape true (served shape cloud full)) (lane_of shape cloud v) old turns last new → last_said turns ≡ Some (replies.Lacking place) → ⊥
  never_lacking v last old new turns place named few along said =
      let w : Work = work_of shape v cloud in
      along_whole (lane_of shape cloud v) last old new turns place (covered shape v cloud named few)
      (λ list may. onward_brought w.batches w.batches (owned_at shape w list) (past_all w.batches (owned_at shape w list))) along said
