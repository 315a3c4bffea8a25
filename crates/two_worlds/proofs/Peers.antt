-- One request that a told cloud executes whose count doesn't rise; and what a user's own session sees of it.
use Rattle.std.proofs.Common.{◌≡◌, ◌≢◌, ℕ, ◌≤◌, Bool, true, List, ◌++◌, Option, Some, None, refl, sym, ap, ◌∙◌, subst, inl, inr, ◌⊎◌, arith, append-nil}
use Rattle.std.specs.Prelude.{option_to_list, IsSomeAnd}
use Rattle.std.specs.Bool.{MatchBool}
use Rattle.std.proofs.lemmas.Bool.{cases_eq}
use Rattle.recipe.specs.CdBase.ids.UserId.{UserId}
use Rattle.recipe.specs.CdBase.shape.Shape.{Shape}
use Rattle.session_model.specs.CdEdges.Causes.{Rose}
use Rattle.session_model.specs.CdEdges.Disk.{Cloud}
use Rattle.session_model.specs.Messages.request.Request.{Request}
use Rattle.session_model.specs.Messages.reply.Reply.{Reply}
use Rattle.session_model.specs.UserDedup.command.Command.{Command}
use Rattle.session_model.specs.UserDedup.Cloud.{user_of, commands_of, user_view}
use Rattle.session_model.specs.UserDedup.Requests.{asker}
use Rattle.session_model.specs.UserDedup.Dedup.{Outcome}
use Rattle.session_model.specs.UserDedup.Exec.{Peer, MaySettleAs, Settles, KeepsPeer, CountsOn, Exec, ExecTold, ExecUntold}
use Rattle.session_model.proofs.UserDedup.Sound.{by_asker}
use Rattle.two_worlds.proofs.Rules.{EntriesOwned, owned_more}
use Rattle.session_model.specs.RestoreJob.Asking.{Reads, MayRead}
use Rattle.session_model.specs.Vault.{Setting, served_at}
use Rattle.two_worlds.proofs.Alone.{Apart, Among, served_alike, served_adds, own_behind, other_behind}

-- ---- peers

pub same_peer : (p q : Peer) → q.list ≡ p.list → q.pending ≡ p.pending → q.faults ≡ p.faults → q.armings ≡ p.armings → q ≡ p
same_peer p q a b c d = λ i. record { list = a i; pending = b i; faults = c i; armings = d i }

pub not_pending : (o : Option Command) (P : Command → Type 0) → o ≡ None → IsSomeAnd o P → ⊥
not_pending None P e x = x
not_pending (Some c) P e x = let no : Some c ≡ None = e in cc

pub settled_as : (p : Peer) (list : List Command) → p.pending ≡ None → MaySettleAs p list → list ≡ p.list
settled_as p list none (inl same) = same
settled_as p list none (inr more) = absurd (not_pending p.pending _ none more)

pub no_rise : (before after : ℕ) → before ≤ after → (Rose before after → ⊥) → after ≡ before
no_rise before after up still = elim (cases_eq after before) [
  | inl same ↦ same
  | inr ne ↦ absurd (still (omega (arith, up, ne)))
]

-- what a cloud is behind a request
abbrev pub peer_after : (List Command → Request → Outcome) → Peer → Request → Peer
peer_after serve p request = record { list = p.list ++ option_to_list (serve p.list request).adds; pending = None; faults = p.faults; armings = p.armings }

pub record Plain (serve : List Command → Request → Outcome) (p : Peer) (request : Request) (reply : Reply) (q : Peer) : Type 0 where
  pub reply_is : reply ≡ (serve p.list request).reply
  pub after : q ≡ peer_after serve p request

plain_told : (serve : List Command → Request → Outcome) (p : Peer) (request : Request) (reply : Reply) (q : Peer) → p.pending ≡ None → (Rose p.faults q.faults → ⊥)
    → CountsOn p q → ExecTold serve p request reply q → Plain serve p request reply q
plain_told serve p request reply q none still counts (inr fails) = absurd (still fails.rose)
plain_told serve p request reply q none still counts (inl a) =
    let before : a.before ≡ p.list = settled_as p a.before none a.settled in
    record {
      reply_is = a.served ∙ ap (λ (l : List Command). (serve l request).reply) before;
      after = same_peer (peer_after serve p request) q (a.list ∙ ap (λ (l : List Command). l ++ option_to_list (serve l request).adds) before) a.pending
          (no_rise p.faults q.faults counts.faults still) counts.armings;
    }

pub plain : (shape : Shape) (serve : List Command → Request → Outcome) (p : Peer) (request : Request) (reply : Reply) (q : Peer) → p.pending ≡ None → (Rose p.faults q.faults → ⊥)
    → Exec shape true serve p request reply q → Plain serve p request reply q
plain shape serve p request reply q none still exec = plain_told serve p request reply q none still exec.counts exec.does

pub exec_told : (shape : Shape) (told : Bool) (serve : List Command → Request → Outcome) (p : Peer) (request : Request) (reply : Reply) (q : Peer) → told ≡ true
    → Exec shape told serve p request reply q → Exec shape true serve p request reply q
exec_told shape told serve p request reply q is exec = subst (λ (b : Bool). Exec shape b serve p request reply q) is exec

-- ---- a user's own

-- what a cloud is in the user's own session, where it began with these counts
abbrev pub own_peer : UserId → Cloud → Peer → Peer
own_peer u k p = record { list = commands_of u p.list; pending = None; faults = k.faults; armings = k.armings }

-- nothing is pending, and the user's entries name what the user owns
pub record IsCalmPeer (shape : Shape) (u : UserId) (p : Peer) : Type 0 where
  pub pending : p.pending ≡ None
  pub owned : EntriesOwned shape (user_view shape p.list u)

module _ (s : Setting) (u : UserId) (k : Cloud) (cloud : ℕ) where
  user_same : (v : UserId) → v ≡ u → v.0 ≡ u.0
  user_same v e = ap (λ (w : UserId). w.0) e

  -- the owner of what is added
  adds_by : (list : List Command) (request : Request) (command : Command) → (served_at s cloud list request).adds ≡ Some command → user_of command ≡ asker request
  adds_by list request command e = by_asker s.shape cloud list request command (served_adds s.shape s.rooms cloud u list request command e)

  owned_behind : (list : List Command) (request : Request) (o : Option Command) → (served_at s cloud list request).adds ≡ o → EntriesOwned s.shape (user_view s.shape list u)
      → EntriesOwned s.shape (user_view s.shape (list ++ option_to_list o) u)
  owned_behind list request None e owned = subst (λ (l : List Command). EntriesOwned s.shape (user_view s.shape l u)) (sym (append-nil list)) owned
  owned_behind list request (Some command) e owned =
      owned_more s.shape cloud list request command u (served_adds s.shape s.rooms cloud u list request command e) owned

  -- a calm cloud stays so
  pub calm_exec : (p : Peer) (request : Request) (reply : Reply) (q : Peer) → Plain (served_at s cloud) p request reply q → IsCalmPeer s.shape u p → IsCalmPeer s.shape u q
  calm_exec p request reply q x calm = subst (IsCalmPeer s.shape u) (sym x.after) (record {
    pending = refl;
    owned = owned_behind p.list request (served_at s cloud p.list request).adds refl calm.owned;
  })

  -- another user's request is nothing to the user's own session
  pub other_exec : (p : Peer) (request : Request) (reply : Reply) (q : Peer) → Plain (served_at s cloud) p request reply q → (asker request).0 ≢ u.0 → own_peer u k q ≡ own_peer u k p
  other_exec p request reply q x other =
      ap (own_peer u k) x.after
      ∙ ap (λ (l : List Command). record { list = l; pending = None; faults = k.faults; armings = k.armings })
      (other_behind u p.list (served_at s cloud p.list request).adds
      (λ command e same. other (sym (ap (λ (w : UserId). w.0) (adds_by p.list request command e)) ∙ same)))

  -- the user's own request does the same there
  pub own_exec : (p : Peer) (request : Request) (reply : Reply) (q : Peer) → Plain (served_at s cloud) p request reply q → asker request ≡ u → Apart (Among p.list request)
      → Plain (served_at s cloud) (own_peer u k p) request reply (own_peer u k q)
  own_exec p request reply q x same apart =
      let o = served_alike s.shape s.rooms cloud u p.list request same apart in
      record {
        reply_is = x.reply_is ∙ ap (λ (r : Outcome). r.reply) (sym o);
        after = ap (own_peer u k) x.after
            ∙ ap (λ (l : List Command). record { list = l; pending = None; faults = k.faults; armings = k.armings })
            (own_behind u p.list (served_at s cloud p.list request).adds (λ command e. ap (λ (w : UserId). w.0) (adds_by p.list request command e) ∙ user_same (asker request) same)
            ∙ ap (λ (r : Outcome). commands_of u p.list ++ option_to_list r.adds) (sym o));
      }

  pub as_exec : (p : Peer) (request : Request) (reply : Reply) (q : Peer) → s.told cloud ≡ true → Plain (served_at s cloud) p request reply q
      → p.pending ≡ None → Exec s.shape (s.told cloud) (served_at s cloud) p request reply q
  as_exec p request reply q told x none = record {
    counts = record { faults = subst (λ (r : Peer). p.faults ≤ r.faults) (sym x.after) (let e : p.faults ≤ p.faults = omega arith in e); armings = ap (λ (r : Peer). r.armings) x.after };
    does = subst (λ (b : Bool). MatchBool b (ExecTold (served_at s cloud) p request reply q) (ExecUntold s.shape p request reply q)) (sym told)
        (inl (record {
          before = p.list;
          settled = inl refl;
          served = x.reply_is;
          list = ap (λ (r : Peer). r.list) x.after;
          pending = ap (λ (r : Peer). r.pending) x.after;
        }));
  }

-- ---- reading

pub read_same : (p q : Peer) → p.pending ≡ None → (Rose p.faults q.faults → ⊥) → MayRead p q → q ≡ p
read_same p q none still x = same_peer p q (lists x.0) (pendings x.0) (no_rise p.faults q.faults x.1.faults still) x.1.armings
  where
    lists : KeepsPeer p q ⊎ Settles p q → q.list ≡ p.list
    lists (inl stays) = stays.list
    lists (inr settles) = settled_as p q.list none settles.list

    pendings : KeepsPeer p q ⊎ Settles p q → q.pending ≡ p.pending
    pendings (inl stays) = stays.pending
    pendings (inr settles) = settles.pending ∙ sym none

-- a cloud as it was, with nothing pending, was read
pub reads_still : (p : Peer) → p.pending ≡ None → Reads p p
reads_still p none = (record { list = inl refl; pending = none }, record { faults = omega arith; armings = refl })

pub may_read_still : (p : Peer) → MayRead p p
may_read_still p = (inl (record { list = refl; pending = refl }), record { faults = omega arith; armings = refl })
