-- What all commands have in common by which a told cloud's list grows.
use Rattle.std.proofs.Common.{◌≡◌, ◌≢◌, ℕ, true, List, [], ◌∷◌, ◌++◌, Option, Some, None, refl, sym, ap, ◌∙◌, subst, inl, inr, append-nil, append_assoc}
use Rattle.std.specs.Prelude.{IsSomeAnd, option_to_list}
use Rattle.journal_start.specs.CdBase.ids.Tag.{Tag}
use Rattle.journal_start.specs.CdBase.ids.UserId.{UserId}
use Rattle.journal_start.specs.CdBase.ids.Version.{Version}
use Rattle.journal_start.specs.CdBase.shape.Shape.{Shape}
use Rattle.messages.specs.declared.request.Request.{Request}
use Rattle.messages.specs.declared.request.Request.TheVariants as requests
use Rattle.messages.specs.declared.reply.Reply.{Reply}
use Rattle.messages.specs.declared.reply.Reply.TheVariants as replies
use Rattle.user_dedup.specs.declared.command.Command.{Command}
use Rattle.user_dedup.specs.declared.command.Command.TheVariants as commands
use Rattle.user_dedup.specs.declared.file_list.FileEntry.{FileEntry}
use Rattle.user_dedup.specs.Cloud.{user_view}
use Rattle.user_dedup.specs.Owning.{first_lacking, new_strings}
use Rattle.user_dedup.specs.Pages.{entry_at}
use Rattle.user_dedup.specs.Requests.{fps_of}
use Rattle.user_dedup.specs.Dedup.{Outcome, FullRoom, TakesVersionOut, answer_over, room_for, by_room}
use Rattle.user_dedup.specs.Exec.{Peer, MaySettleAs, Exec, ExecTold, served}
use Rattle.user_dedup.proofs.Deleting.{version_stays}
use Rattle.user_dedup.proofs.Sound.{put_adds, commit_adds}

-- each of the commands has the property
abbrev pub Each : (Command → Type 0) → List Command → Type 0
Each P [] = Unit {0}
Each P (c ∷ cs) = P c × Each P cs

-- the list grew by such commands alone
abbrev pub GrowsBy : (Command → Type 0) → List Command → List Command → Type 0
GrowsBy P old new = (more : List Command) × (new ≡ old ++ more) × Each P more

-- the command is such a one, if there is one
abbrev pub IfCommand : (Command → Type 0) → Option Command → Type 0
IfCommand P None = Unit {0}
IfCommand P (Some c) = P c

-- the request adds such commands alone
abbrev pub AddsBy : (Command → Type 0) → (List Command → Request → Outcome) → Request → Type 0
AddsBy P serve request = (list : List Command) → IfCommand P (serve list request).adds

module _ (P : Command → Type 0) where
  each_append : (a b : List Command) → Each P a → Each P b → Each P (a ++ b)
  each_append [] b x y = y
  each_append (c ∷ a) b x y = (x.0, each_append a b x.1 y)

  each_option : (o : Option Command) → IfCommand P o → Each P (option_to_list o)
  each_option None x = tt
  each_option (Some c) x = (x, tt)

  pub grows_same : (old new : List Command) → new ≡ old → GrowsBy P old new
  grows_same old new e = ([], e ∙ sym (append-nil old), tt)

  pub grows_then : (a b c : List Command) → GrowsBy P a b → GrowsBy P b c → GrowsBy P a c
  grows_then a b c p q = (p.0 ++ q.0, q.1 ∙ ap (λ (l : List Command). l ++ q.0) p.1 ∙ append_assoc a p.0 q.0, each_append p.0 q.0 p.2 q.2)

  by_pending : (pending : Option Command) (old new : List Command) → IfCommand P pending → IsSomeAnd pending (λ command. new ≡ old ++ command ∷ []) → GrowsBy P old new
  by_pending None old new quiet h = absurd h
  by_pending (Some command) old new quiet h = (command ∷ [], h, (quiet, tt))

  settled_grows : (p : Peer) (list : List Command) → IfCommand P p.pending → MaySettleAs p list → GrowsBy P p.list list
  settled_grows p list quiet may =
      elim may [
        | inl e ↦ grows_same p.list list e
        | inr h ↦ by_pending p.pending p.list list quiet h
      ]

  -- If what is pending and what the request adds are such, the list grows by such alone, and what is pending then is such.
  pub exec_grows : (shape : Shape) (serve : List Command → Request → Outcome) (old new : Peer) (request : Request) (reply : Reply) → AddsBy P serve request → IfCommand P old.pending
      → Exec shape true serve old request reply new → GrowsBy P old.list new.list × IfCommand P new.pending
  exec_grows shape serve old new request reply adds quiet x =
      let does : ExecTold serve old request reply new = x.does in
      elim does [
        | inl a ↦ (
          grows_then old.list a.before new.list (settled_grows old a.before quiet a.settled)
              (option_to_list (serve a.before request).adds, a.list, each_option (serve a.before request).adds (adds a.before)),
          subst (IfCommand P) (sym a.pending) tt,
        )
        | inr f ↦ elim f.left [
          | inl stays ↦ (grows_same old.list new.list stays.list, subst (IfCommand P) (sym stays.pending) quiet)
          | inr cut ↦ (settled_grows old new.list quiet cut.list, subst (IfCommand P) (sym cut.pending) (adds new.list))
        ]
      ]

-- after an answer nothing is pending, whatever was
pub answered_quiet : (shape : Shape) (serve : List Command → Request → Outcome) (old new : Peer) (request : Request) (reply : Reply) → reply ≢ replies.Fault
    → Exec shape true serve old request reply new → new.pending ≡ None
answered_quiet shape serve old new request reply answers x =
    let does : ExecTold serve old request reply new = x.does in
    elim does [
      | inl a ↦ a.pending
      | inr f ↦ absurd (answers f.reply_is)
    ]

-- ---- versions

-- a version stays where none of the commands ends it
pub version_more : (shape : Shape) (list more : List Command) (user : UserId) (key : Tag × Version) (entry : FileEntry) → Each (λ c. ¬ (TakesVersionOut user key c)) more
    → entry_at (user_view shape list user).files key ≡ Some entry → entry_at (user_view shape (list ++ more) user).files key ≡ Some entry
version_more shape list [] user key entry all h = subst (λ (l : List Command). entry_at (user_view shape l user).files key ≡ Some entry) (sym (append-nil list)) h
version_more shape list (c ∷ more) user key entry all h =
    subst (λ (l : List Command). entry_at (user_view shape l user).files key ≡ Some entry) (append_assoc list (c ∷ []) more)
    (version_more shape (list ++ c ∷ []) more user key entry all.1 (version_stays shape list c user key entry all.0 h))

-- ---- requests other than a Delete

abbrev pub IsDelete : Command → Type 0
IsDelete (commands.Put user shares) = ⊥
IsDelete (commands.Commit user tag version recipe) = ⊥
IsDelete (commands.Delete user tag version) = Unit {0}

abbrev pub AsksNoDelete : Request → Type 0
AsksNoDelete requests.Hello = Unit {0}
AsksNoDelete (requests.Query user fps) = Unit {0}
AsksNoDelete (requests.Put user shares) = Unit {0}
AsksNoDelete (requests.Commit user tag version recipe) = Unit {0}
AsksNoDelete (requests.GetRecipe user tag version) = Unit {0}
AsksNoDelete (requests.GetShares user fps) = Unit {0}
AsksNoDelete (requests.List user after) = Unit {0}
AsksNoDelete (requests.Delete user tag version) = ⊥

abbrev pub IsNoDelete : Command → Type 0
IsNoDelete c = ¬ (IsDelete c)

no_put : (user : UserId) (ss : List (List ℕ)) (c : Command) → c ≡ commands.Put user ss → IsNoDelete c
no_put user ss c e = subst IsNoDelete (sym e) (λ no. no)

no_commit : (user : UserId) (tag : Tag) (version : Version) (recipe : List ℕ) (c : Command) → c ≡ commands.Commit user tag version recipe → IsNoDelete c
no_commit user tag version recipe c e = subst IsNoDelete (sym e) (λ no. no)

by_all : (o : Option Command) → ((c : Command) → o ≡ Some c → IsNoDelete c) → IfCommand IsNoDelete o
by_all None each = tt
by_all (Some c) each = each c refl

answered_none : (shape : Shape) (cloud : ℕ) (list : List Command) (request : Request) (c : Command) → AsksNoDelete request → (answer_over shape cloud list request).adds ≡ Some c → IsNoDelete c
answered_none shape cloud list requests.Hello c asks e = absurd (let f : None ≡ Some c = e in cc)
answered_none shape cloud list (requests.Query user fps) c asks e = absurd (let f : None ≡ Some c = e in cc)
answered_none shape cloud list (requests.Put user shares) c asks e = no_put user (new_strings (user_view shape list user).own shares) c (put_adds user (new_strings (user_view shape list user).own shares) c e)
answered_none shape cloud list (requests.Commit user tag version recipe) c asks e =
    no_commit user tag version recipe c
    (commit_adds (first_lacking (user_view shape list user).own (fps_of shape recipe)) (entry_at (user_view shape list user).files (tag, version)) (commands.Commit user tag version recipe) recipe c e).2
answered_none shape cloud list (requests.GetRecipe user tag version) c asks e = absurd (let f : None ≡ Some c = e in cc)
answered_none shape cloud list (requests.GetShares user fps) c asks e = absurd (let f : None ≡ Some c = e in cc)
answered_none shape cloud list (requests.List user after) c asks e = absurd (let f : None ≡ Some c = e in cc)
answered_none shape cloud list (requests.Delete user tag version) c asks e = absurd asks

roomed : (outcome : Outcome) (r : Option FullRoom) → IfCommand IsNoDelete outcome.adds → IfCommand IsNoDelete (by_room outcome r).adds
roomed outcome None x = x
roomed outcome (Some full) x = tt

-- Such a request adds no Delete.
pub adds_no_delete : (shape : Shape) (cloud : ℕ) (full : List Command → Command → Option FullRoom) (request : Request) → AsksNoDelete request
    → AddsBy (λ c. ¬ (IsDelete c)) (served shape cloud full) request
adds_no_delete shape cloud full request asks list =
    let outcome = answer_over shape cloud list request in
    roomed outcome (room_for (full list) outcome.adds) (by_all outcome.adds (λ c e. answered_none shape cloud list request c asks e))

-- a command that is no Delete ends no version
pub ends_none : (user : UserId) (key : Tag × Version) (c : Command) → ¬ (IsDelete c) → ¬ (TakesVersionOut user key c)
ends_none user key (commands.Put sender shares) isnt ends = ends
ends_none user key (commands.Commit sender tag version recipe) isnt ends = ends
ends_none user key (commands.Delete sender tag version) isnt ends = isnt tt
