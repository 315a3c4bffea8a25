-- Restores one after another that were refused: how often the link had lost an ask, and what the refusals name.
use Rattle.std.proofs.Common.{ℕ, List, [], ◌∷◌, inl, inr, ap, subst}
use Rattle.std.specs.List.{Contains}
use Rattle.ports_link.proofs.UserDedup.Owned.{contains_cases, contains_nothing}
use Rattle.ports_link.specs.UserDedup.Link.{LinkTelling, Talk}
use Rattle.subset_restore.specs.Ends.{Sought, AllRefused}
use Rattle.subset_restore.specs.Tries.{Try}
use Rattle.subset_restore.specs.RestoreJob.Refusals.{Names}
use Rattle.subset_restore.proofs.Elements.{all_of}
use Rattle.restore_command.specs.Tried.{AreCounted, AreTriesNamed}

pub counted_over : {L : Type 0} (t : LinkTelling L) (talk : L → ℕ → Talk → Type 0) (s : Sought) (bytes : List ℕ)
    (start end : L) (tries : List Try) → AllRefused t talk s bytes start tries end
    → AreCounted (t.losses start) tries (t.losses end)
counted_over t talk s bytes start end [] all = ap t.losses all
counted_over t talk s bytes start end (x ∷ tries) all = (
  t.losses all.0,
  all.1.asked.later,
  all.1.asked.lost,
  counted_over t talk s bytes all.0 end tries all.2,
)

each_named : {L : Type 0} (t : LinkTelling L) (talk : L → ℕ → Talk → Type 0) (s : Sought) (bytes : List ℕ)
    (start end : L) (tries : List Try) → AllRefused t talk s bytes start tries end
    → (x : Try) → Contains tries x → Names (Contains x.subset) x.refusal
each_named t talk s bytes start end [] all x has = absurd (contains_nothing x has)
each_named t talk s bytes start end (y ∷ tries) all x has = elim (contains_cases y tries x has) [
  | inl same ↦ subst (λ (z : Try). Names (Contains z.subset) z.refusal) same all.1.named
  | inr later ↦ each_named t talk s bytes all.0 end tries all.2 x later
]

pub named_over : {L : Type 0} (t : LinkTelling L) (talk : L → ℕ → Talk → Type 0) (s : Sought) (bytes : List ℕ)
    (start end : L) (tries : List Try) → AllRefused t talk s bytes start tries end → AreTriesNamed tries
named_over t talk s bytes start end tries all =
    all_of (λ (x : Try). Names (Contains x.subset) x.refusal) tries
    (each_named t talk s bytes start end tries all)
