-- Each list of a told cloud is within the session's rooms.
use Rattle.std.proofs.Common.{◌≡◌, ℕ, Bool, true, List, [], ◌∷◌, ◌++◌, Option, Some, None, Result, Ok, Err, refl, sym, ap, ◌∙◌, subst, inl, inr, ◌⊎◌, append-nil}
use Rattle.std.specs.Prelude.{IsTrue, IsSomeAnd, option_to_list}
use Rattle.std.specs.Bool.{MatchBool}
use Rattle.session.specs.CdEdges.Disk.{Cloud}
use Rattle.local_link.specs.CommitJournal.errors.OpenErr.{OpenErr}
use Rattle.local_link.specs.CommitJournal.errors.OpenErr.TheVariants as errors
use Rattle.rebuild.specs.Messages.request.Request.{Request}
use Rattle.rebuild.specs.Messages.reply.Reply.{Reply}
use Rattle.subset_restore.specs.UserDedup.command.Command.{Command}
use Rattle.subset_restore.specs.UserDedup.Dedup.{answer_over}
use Rattle.subset_restore.specs.UserDedup.Exec.{Peer, Answers, Exec, ExecTold, ExecUntold, FailsTold, IsCut, MaySettleAs, KeepsPeer, Settles}
use Rattle.subset_restore.specs.UserDedup.Spending.{IsWithin, full_for}
use Rattle.subset_restore.proofs.UserDedup.Spending.{none_within}
use Rattle.subset_restore.proofs.UserDedup.Within.{next_within}
use Rattle.subset_restore.proofs.UserDedup.Served.{has_room}
use Rattle.local_link.specs.ShareServer.Serving.{ReopensAs}
use Rattle.subset_restore.specs.RestoreJob.Asking.{MayRead}
use Rattle.session.specs.declared.event.Event.{Event}
use Rattle.session.specs.Transcript.line.Line.{Line}
use Rattle.session_model.specs.Vault.{Setting, served_at, opening}
use Rattle.session_model.specs.Steps.{ReopensUntold, RestartStep, ReplaceStep}
use Rattle.session_model.specs.Headline.{Session, IsRun}
use Rattle.session_model.proofs.Lasting.{Lasting, lasts_over}
use Rattle.session_model.proofs.Settled.{only_list}

-- ---- a cloud

module _ (s : Setting) where
  -- whatever list it settles as
  abbrev IsRoomy : Peer → Type 0
  IsRoomy p = (list : List Command) → MaySettleAs p list → IsWithin s.shape s.rooms list

  abbrev KeepsRoomy : Peer → Peer → Type 0
  KeepsRoomy p q = IsRoomy p → IsRoomy q

  same_roomy : (p q : Peer) → q ≡ p → KeepsRoomy p q
  same_roomy p q same roomy = subst IsRoomy (sym same) roomy

  -- with nothing pending it has one list
  one_roomy : (q : Peer) → q.pending ≡ None → IsWithin s.shape s.rooms q.list → IsRoomy q
  one_roomy q none within list may = subst (IsWithin s.shape s.rooms) (sym (only_list q list none may)) within

  stays_roomy : (p q : Peer) → KeepsPeer p q → KeepsRoomy p q
  stays_roomy p q stays roomy list (inl same) = roomy list (inl (same ∙ stays.list))
  stays_roomy p q stays roomy list (inr some) =
      roomy list (inr (subst (λ (o : Option Command). IsSomeAnd o (λ command. list ≡ p.list ++ command ∷ [])) stays.pending
      (subst (λ (l : List Command). IsSomeAnd q.pending (λ command. list ≡ l ++ command ∷ [])) stays.list some)))

  settles_roomy : (p q : Peer) → Settles p q → KeepsRoomy p q
  settles_roomy p q settles roomy = one_roomy q settles.pending (roomy q.list settles.list)

  read_roomy : (p q : Peer) → MayRead p q → KeepsRoomy p q
  read_roomy p q x roomy = by_case x.0
    where
      by_case : KeepsPeer p q ⊎ Settles p q → IsRoomy q
      by_case (inl stays) = stays_roomy p q stays roomy
      by_case (inr settles) = settles_roomy p q settles roomy

  reopened : (p q : Peer) (result : Result ℕ OpenErr) → ReopensAs true p q result → KeepsRoomy p q
  reopened p q (Ok commands) r = settles_roomy p q r.0
  reopened p q (Err errors.Fault) r = stays_roomy p q r.0
  reopened p q (Err (errors.NotBegun len)) r = same_roomy p q r.0
  reopened p q (Err (errors.OtherStore found asked at)) r = absurd r
  reopened p q (Err (errors.Damaged at byte)) r = absurd r

  module _ (c : ℕ) where
    -- what is served adds a command for which there is room, or none
    adds_within : (list : List Command) (request : Request) (command : Command) → IsWithin s.shape s.rooms list → (served_at s c list request).adds ≡ Some command → IsWithin s.shape s.rooms (list ++ command ∷ [])
    adds_within list request command within adds =
        next_within s.shape s.rooms list command within (has_room (full_for s.shape s.rooms list) (answer_over s.shape c list request) command adds)

    served_within : (list : List Command) (request : Request) → IsWithin s.shape s.rooms list → IsWithin s.shape s.rooms (list ++ option_to_list (served_at s c list request).adds)
    served_within list request within = by_adds (served_at s c list request).adds refl
      where
        by_adds : (o : Option Command) → (served_at s c list request).adds ≡ o → IsWithin s.shape s.rooms (list ++ option_to_list o)
        by_adds None e = subst (IsWithin s.shape s.rooms) (sym (append-nil list)) within
        by_adds (Some command) e = adds_within list request command within e

    answered : (p q : Peer) (request : Request) (reply : Reply) → Answers (served_at s c) p request reply q → KeepsRoomy p q
    answered p q request reply a roomy = one_roomy q a.pending (subst (IsWithin s.shape s.rooms) (sym a.list) (served_within a.before request (roomy a.before a.settled)))

    cut : (p q : Peer) (request : Request) → IsCut (served_at s c) p request q → KeepsRoomy p q
    cut p q request x roomy list (inl same) = subst (IsWithin s.shape s.rooms) (sym same) (roomy q.list x.list)
    cut p q request x roomy list (inr some) = by_adds (served_at s c q.list request).adds refl (subst (λ (o : Option Command). IsSomeAnd o (λ command. list ≡ q.list ++ command ∷ [])) x.pending some)
      where
        by_adds : (o : Option Command) → (served_at s c q.list request).adds ≡ o → IsSomeAnd o (λ command. list ≡ q.list ++ command ∷ []) → IsWithin s.shape s.rooms list
        by_adds None e h = absurd h
        by_adds (Some command) e h = subst (IsWithin s.shape s.rooms) (sym h) (adds_within q.list request command (roomy q.list x.list) e)

    told_roomy : (p q : Peer) (request : Request) (reply : Reply) → ExecTold (served_at s c) p request reply q → KeepsRoomy p q
    told_roomy p q request reply (inl a) = answered p q request reply a
    told_roomy p q request reply (inr f) = by_left f.left
      where
        by_left : KeepsPeer p q ⊎ IsCut (served_at s c) p request q → KeepsRoomy p q
        by_left (inl stays) = stays_roomy p q stays
        by_left (inr x) = cut p q request x

    roomy_lasts : IsTrue (s.told c) → Lasting s c KeepsRoomy (λ (event : Event). Unit {0})
    roomy_lasts told = record {
      same = same_roomy;
      on = λ p m q first second roomy. second (first roomy);
      executes = λ p q request reply x. told_roomy p q request reply
          (subst (λ (b : Bool). MatchBool b (ExecTold (served_at s c) p request reply q) (ExecUntold s.shape p request reply q)) told x.does);
      reads = read_roomy;
      restarts = λ line p q r. reopened p q r.0 (subst (λ (b : Bool). MatchBool b (ReopensAs true p q r.0) (ReopensUntold r.0 p q)) told r.2);
      replaces = λ line p q x roomy. one_roomy q x.pending (subst (IsWithin s.shape s.rooms) (sym x.list) (none_within s.shape s.rooms));
      arms = λ calls keep p q may armed. stays_roomy p q armed.stays;
    }

pub rooms_kept : (clouds : ℕ → Cloud) (run : Session) (cloud : ℕ) (list : List Command) → IsRun clouds run → IsTrue (run.setting.told cloud) → MaySettleAs (run.last cloud) list
    → IsWithin run.setting.shape run.setting.rooms list
rooms_kept clouds run cloud list is told may =
    lasts_over run cloud (KeepsRoomy run.setting) (λ (event : Event). Unit {0}) (roomy_lasts run.setting cloud told) clouds is (λ event has. tt)
    (one_roomy run.setting ((opening clouds).peers cloud) refl (none_within run.setting.shape run.setting.rooms)) list may
