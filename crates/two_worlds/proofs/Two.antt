-- A user's own session exists, and answers the user's lines as the session of all users does.
use Rattle.std.proofs.Common.{◌≡◌, ℕ, ◌<◌, ◌≤◌, ◌+◌, ◌-◌, ◌^◌, Bool, true, false, List, [], ◌++◌, Option, Some, None, refl, sym, ap, ◌∙◌, subst, inl, inr, arith, append-nil}
use Rattle.std.specs.Prelude.{IfSome, IsSomeAnd, MatchOption, min, bytes_eq}
use Rattle.std.specs.List.{Contains}
use Rattle.std.proofs.lemmas.Slice.Eq.{bytes_eq-Decides}
use Rattle.std.proofs.lemmas.List.Elements.{Contains-append_left}
use Rattle.recipe.specs.CdBase.ids.UserId.{UserId}
use Rattle.recipe.specs.CdBase.shape.Shape.{Shape}
use Rattle.session_model.specs.CdEdges.Causes.{Rose}
use Rattle.session_model.specs.CdEdges.Disk.{Cloud}
use Rattle.session_model.specs.UserDedup.Exec.{Peer}
use Rattle.two_worlds.proofs.Rules.{none_owned}
use Rattle.session_model.specs.Session.Scripts.{AreLines}
use Rattle.session_model.specs.Vault.{opening}
use Rattle.session_model.specs.Steps.{Execution}
use Rattle.session_model.specs.Run.{Turns, script_of, moments_of}
use Rattle.session_model.specs.Headline.{Session, Begun, IsRun, IsPartOf, event_of, moments_begun, script_in, moments_in}
use Rattle.two_worlds.specs.Worlds.{mine, answers_from, answers_to, IsAskedFor, ClashAsked, RanCalmly, MayStand, IsCalm, IsOwnSession, HasOwnWorld, TwoWorlds, Alike, sent_strings}
use Rattle.two_worlds.proofs.Alone.{Apart}
use Rattle.two_worlds.proofs.Own.{own_peers, own_vault, Known, Premises, CalmPeers}
use Rattle.two_worlds.proofs.OnceLines.{turns_once}
use Rattle.two_worlds.proofs.Told.{turns_in}
use Rattle.session_model.proofs.Counts.{keeps_turns}
use Rattle.two_worlds.proofs.Turns.{own_history, own_script, own_ranges, same_replys, AllStill, own_turns, one_still, all_still}

pub apart_unless : (run : Session) → ¬ ClashAsked run → (c : ℕ) → c < run.setting.shape.n → Apart (IsAskedFor run c)
apart_unless run clash c below one other a b same = by_test (bytes_eq one other) refl
  where
    by_test : (t : Bool) → bytes_eq one other ≡ t → one ≡ other
    by_test true e = (bytes_eq-Decides one other).0 e
    by_test false e = absurd (clash (record {
      cloud = c;
      below = below;
      one = one;
      other = other;
      first = a;
      second = b;
      different = λ e2. let t = (bytes_eq-Decides one other).1 e2 in let no : true ≡ false = sym t ∙ e in cc;
      same = same;
    }))

pub known_moments : (run : Session) → Known (IsAskedFor run) (moments_of run.history)
known_moments run m has = record { lists = λ c x held. inl (inr (inl (m, there, held))); sent = by_event m.event refl }
  where
    there : Contains (moments_in run) m
    there = Contains-append_left (moments_of run.history) (moments_begun run.begun) m has

    by_event : (o : Option Execution) → m.event ≡ o → IfSome o (λ e. (x : List ℕ) → Contains (sent_strings e.request) x → IsAskedFor run e.cloud x)
    by_event None is = tt
    by_event (Some e) is = λ x sent. inr (m, there, subst (λ (o : Option Execution). IsSomeAnd o (λ f. (f.cloud ≡ e.cloud) × Contains (sent_strings f.request) x)) (sym is) (refl, sent))

module _ (clouds : ℕ → Cloud) (run : Session) (ran : RanCalmly clouds run) where
  last_is : run.last ≡ run.between.peers
  last_is = subst (λ (o : Option Begun). MatchOption o (run.last ≡ run.between.peers) (λ b. IsPartOf run.setting run.between b run.last)) ran.whole ran.is.begun

  pub script_is : script_in run ≡ script_of run.history
  script_is = ap (λ (o : Option Begun). script_of run.history ++ event_of o) ran.whole ∙ append-nil (script_of run.history)

  least_first : (n : ℕ) → min n (2 ^ 64 - 1) ≤ n
  least_first n = omega arith

  pub lines_still : AllStill run.setting.shape.n run.history
  lines_still = all_still run.setting.shape.n run.history (λ c below.
      one_still run.setting c (clouds c).faults run.history (opening clouds) run.between ran.is.answered (least_first (clouds c).faults)
      (λ rose. ran.still c below (subst (λ (peers : ℕ → Peer). Rose (clouds c).faults (peers c).faults) (sym last_is) rose)))

  pub between_last : run.last ≡ run.between.peers
  between_last = last_is

module _ (clouds : ℕ → Cloud) (run : Session) (calm : IsCalm clouds run) (u : UserId) (k : ℕ → Cloud) (fresh : MayStand run.setting.shape k) where
  abbrev pub the_own : Session
  the_own = record {
    setting = run.setting;
    opened = run.opened;
    history = own_history u k [] run.history;
    between = own_vault u k run.between;
    begun = None;
    last = own_peers u k run.last;
  }

  prem : Premises run.setting u k (IsAskedFor run)
  prem = record { told = calm.ran.told; apart = apart_unless run calm.clash }

  begins : CalmPeers run.setting u k (IsAskedFor run) (opening clouds).peers
  begins = record { each = λ c. record { pending = refl; owned = none_owned run.setting.shape }; beyond = λ c over. refl }

  ranges : AreLines run.setting.shape 0 (script_of run.history)
  ranges = subst (AreLines run.setting.shape 0) (script_is clouds run calm.ran) calm.ran.is.lines

  turns : Turns run.setting (opening k) (own_history u k [] run.history) (own_vault u k run.between)
  turns = own_turns run.setting u k (IsAskedFor run) prem [] run.history (opening clouds) run.between calm.ran.is.answered begins (record { are = tt; those = refl })
      ranges (lines_still clouds run calm.ran) (known_moments run)
      (λ event has. calm.arms event (Contains-append_left (script_of run.history) (event_of run.begun) event has))

  own_is : IsRun k the_own
  own_is = record {
    unopened = λ shut. (ap (own_history u k []) (calm.ran.is.unopened shut).0, refl);
    lines = subst (AreLines run.setting.shape 0) (sym (own_script u k [] run.history) ∙ sym (append-nil (script_of (own_history u k [] run.history)))) (own_ranges u k run.setting.shape [] (script_of run.history) ranges);
    answered = turns;
    begun = ap (own_peers u k) (between_last clouds run calm.ran);
  }

  pub own_session : IsOwnSession u k run the_own
  own_session = record {
    ran = record { is = own_is; whole = refl; told = calm.ran.told; still = fresh };
    shape = refl;
    rooms = refl;
    opened = refl;
    script = append-nil (script_of (own_history u k [] run.history)) ∙ own_script u k [] run.history ∙ ap (mine u) (sym (script_is clouds run calm.ran));
  }

  pub own_answers_same : answers_to u the_own ≡ answers_to u run
  own_answers_same = same_replys u k [] run.history

-- ---- there is just one

pub one_session : (clouds : ℕ → Cloud) (run one two : Session) (u : UserId) → IsOwnSession u clouds run one → IsOwnSession u clouds run two → two.history ≡ one.history
one_session clouds run one two u x y =
    let shapes = x.shape ∙ sym y.shape in
    let rooms = x.rooms ∙ sym y.rooms in
    let scripts = sym (script_is clouds two y.ran) ∙ y.script ∙ sym x.script ∙ script_is clouds one x.ran in
    (turns_once two.setting y.ran.told 0 (opening clouds) two.history one.history two.between one.between (λ c. refl)
    (subst (AreLines two.setting.shape 0) (script_is clouds two y.ran) y.ran.is.lines)
    (lines_still clouds two y.ran)
    (subst (λ (h : Shape). AllStill h.n one.history) shapes (lines_still clouds one x.ran))
    scripts y.ran.is.answered
    (turns_in one.setting two.setting shapes rooms x.ran.told y.ran.told one.history
    (subst (AreLines one.setting.shape 0) (script_is clouds one x.ran) x.ran.is.lines) (opening clouds) one.between x.ran.is.answered)).0

-- where no count rose, none stood at its last value
may_stand : (clouds : ℕ → Cloud) (run : Session) → RanCalmly clouds run → MayStand run.setting.shape clouds
may_stand clouds run ran c below rose =
    ran.still c below (subst (λ (peers : ℕ → Peer). Rose (clouds c).faults (peers c).faults) (sym (between_last clouds run ran))
    (keeps_turns (min ((clouds c).faults + 1) (2 ^ 64 - 1)) (small_next (clouds c).faults) run.setting c run.history (opening clouds) run.between ran.is.answered rose))
  where
    small_next : (first : ℕ) → min (first + 1) (2 ^ 64 - 1) < 2 ^ 64
    small_next first = omega arith

own_world : (clouds : ℕ → Cloud) (run : Session) → IsCalm clouds run → (u : UserId) (k : ℕ → Cloud) → MayStand run.setting.shape k → HasOwnWorld u k run
own_world clouds run calm u k fresh = record {
  own = the_own clouds run calm u k fresh;
  is = own_session clouds run calm u k fresh;
  one = λ other is. one_session k run (the_own clouds run calm u k fresh) other u (own_session clouds run calm u k fresh) is;
  answers = own_answers_same clouds run calm u k fresh;
}

pub two_worlds : (clouds : ℕ → Cloud) (run : Session) → TwoWorlds clouds run
two_worlds clouds run calm u = (own_world clouds run calm u clouds (may_stand clouds run calm.ran), λ others fresh. own_world clouds run calm u others fresh)

-- two sessions in which the user has the same lines have the same own session
pub alike : (clouds_one : ℕ → Cloud) (one : Session) (clouds_two : ℕ → Cloud) (two : Session) → Alike clouds_one one clouds_two two
alike clouds_one one clouds_two two calm1 calm2 shapes rooms opened u same =
    let w2 = own_world clouds_two two calm2 u clouds_two (may_stand clouds_two two calm2.ran) in
    let w1 = own_world clouds_one one calm1 u clouds_two (subst (λ (h : Shape). MayStand h clouds_two) (sym shapes) (may_stand clouds_two two calm2.ran)) in
    let moved : IsOwnSession u clouds_two one w2.own = record {
      ran = w2.is.ran;
      shape = w2.is.shape ∙ sym shapes;
      rooms = w2.is.rooms ∙ sym rooms;
      opened = w2.is.opened ∙ sym opened;
      script = w2.is.script ∙ sym same;
    } in
    sym w1.answers ∙ ap (answers_from u []) (sym (w1.one w2.own moved)) ∙ w2.answers
