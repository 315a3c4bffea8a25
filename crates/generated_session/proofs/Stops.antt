-- Sessions that stopped within some lines, and lines behind them.
use Rattle.std.proofs.Common.{◌≡◌, ℕ, List, [], ◌∷◌, ◌++◌, refl, sym, ap, ◌∙◌, subst, inl, inr, ◌⊎◌, append_assoc}
use Rattle.lane_steps.specs.CdEdges.Disk.{Cloud}
use Rattle.replay_core.specs.LocalLink.link.LocalLink.{LocalLink}
use Rattle.replay_core.specs.Session.event.Event.{Event}
use Rattle.replay_core.specs.SessionModel.Vault.{Setting}
use Rattle.replay_core.specs.SessionModel.Run.{script_of}
use Rattle.generated_session.specs.Progress.{IsStopped}

pub stopped_more : {V : Type 0} (clouds : V → ℕ → Cloud) (begun : ℕ → Cloud) (s : Setting) (link : LocalLink V) (script rest all : List Event) → IsStopped clouds begun s link script → script ++ rest ≡ all
    → IsStopped clouds begun s link all
stopped_more clouds begun s link script rest all (inl p) e = inl (record {
  jobs = p.jobs;
  lines = p.lines;
  come = p.come;
  rest = p.rest ++ rest;
  script_is = sym (append_assoc (script_of p.come.history) p.rest rest) ∙ ap (λ (l : List Event). l ++ rest) p.script_is ∙ e;
})
stopped_more clouds begun s link script rest all (inr b) e = inr (record {
  before = b.before;
  jobs = b.jobs;
  lines = b.lines;
  come = b.come;
  event = b.event;
  rest = b.rest ++ rest;
  script_is = sym (append_assoc (script_of b.come.history) (b.event ∷ b.rest) rest) ∙ ap (λ (l : List Event). l ++ rest) b.script_is ∙ e;
  can = b.can;
  leaves = b.leaves;
  cut = b.cut;
})

-- behind a script, the lines that are a front of others
pub front_on : (script a b rest all : List Event) → a ++ b ++ rest ≡ all → script ++ a ++ b ++ rest ≡ script ++ all
front_on script a b rest all e =
    ap (λ (l : List Event). l ++ rest) (append_assoc script a b) ∙ append_assoc script (a ++ b) rest ∙ ap (λ (l : List Event). script ++ l) e
