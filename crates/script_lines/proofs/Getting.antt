-- A restore from any k of some clouds is a get of the session.
use Rattle.std.proofs.Common.{◌≡◌, ℕ, ◌⊎◌, Bool, true, false, List, [], ◌∷◌, ◌++◌, All, Result, Ok, Err, refl, sym, ap, ◌∙◌, subst, inl, inr}
use Rattle.std.specs.Prelude.{IsTrue, OnErr}
use Rattle.std.specs.List.{Contains}
use Rattle.session_model.specs.UserDedup.Exec.{Peer}
use Rattle.session_model.specs.UserDedup.Link.{LinkTelling, Talk}
use Rattle.session_model.proofs.UserDedup.Owned.{contains_cases, contains_nothing, contains_here}
use Rattle.session_model.specs.RestoreJob.Asking.{Leads, is_loss}
use Rattle.session_model.specs.RestoreJob.Reading.{Ends}
use Rattle.session_model.specs.RestoreJob.Refusals.{Caused, Causes}
use Rattle.session_model.specs.RestoreJob.error.RestoreErr.{RestoreErr}
use Rattle.session_model.specs.RestoreJob.error.RestoreErr.TheVariants as errors
use Rattle.session_model.proofs.RestoreJob.Leading.{leads_to}
use Rattle.session_model.specs.SubsetRestore.Subsets.{subsets}
use Rattle.session_model.specs.SubsetRestore.Tries.{Try}
use Rattle.session_model.specs.SubsetRestore.Ends.{Sought, outcome_of, any_outcome, GivesNone, IsNone, AllRefused, AllCaused, CameTold, NoneTold, NoneCame, OnlyLeads, NoneBy, AnyEnds}
use Rattle.session_model.proofs.SubsetRestore.Choices.{subset_among}
use Rattle.session_model.proofs.SubsetRestore.Elements.{contains_front, all_of, of_all}
use Rattle.session_model.proofs.SubsetRestore.Going.{any_at, any_none}
use Rattle.session_model.proofs.SubsetRestore.Standing.{ends_among}
use Rattle.session_model.specs.Steps.{NoneFrom, ComesFrom, ComesFromNone, ComesBy, NoneRose, Gets}

-- what is said over told clouds, but of want of memory
abbrev pub GetsIf : Sought → Result (Unit {0}) RestoreErr → List ℕ → (ℕ → Peer) → (ℕ → Peer) → Type 0
GetsIf s result file before after = (result ≡ Err errors.NoMemory → ⊥) → Gets s result file before after

-- ---- where no count rose

module _ (s : Sought) (a b : ℕ → Peer) where
  gives_none : (subset : List ℕ) → Contains (subsets s.shape.k s.clouds) subset → NoneRose s.clouds a b → NoneFrom s a b subset → GivesNone s b subset
  gives_none subset has none (inl gives) = gives
  gives_none subset has none (inr (cloud, holds, rose)) = absurd (none cloud (subset_among s.shape.k s.clouds subset has cloud holds) rose)

  exact_came : (file : List ℕ) → ComesFrom s file a b → NoneRose s.clouds a b → Ends (any_outcome s b) s.clouds (Ok tt) [] file a b
  exact_came file c none = (
    file,
    refl,
    any_at s b c.front c.subset c.rest file c.split (λ x has. gives_none x (within x has) none (of_all (NoneFrom s a b) c.front x c.front_none has)) c.gives,
  )
    where
      within : (x : List ℕ) → Contains c.front x → Contains (subsets s.shape.k s.clouds) x
      within x has = subst (λ (l : List (List ℕ)). Contains l x) (sym c.split) (contains_front c.front (c.subset ∷ c.rest) x has)

  exact_none : (e : RestoreErr) → ComesFromNone s e a b → NoneRose s.clouds a b → Ends (any_outcome s b) s.clouds (Err e) [] [] a b
  exact_none e c none =
      let here : Contains (subsets s.shape.k s.clouds) c.first = subst (λ (l : List (List ℕ)). Contains l c.first) (sym c.first_is) (contains_here c.first c.rest) in
      ends_among (outcome_of s b c.first) (any_outcome s b) c.first s.clouds e [] a b
      (any_none s b c.first c.rest c.first_is (λ x has. gives_none x has none (of_all (NoneFrom s a b) (subsets s.shape.k s.clouds) x c.none has)))
      (subset_among s.shape.k s.clouds c.first here) c.ends

-- ---- over a link that loses nothing

module _ {L : Type 0} (t : LinkTelling L) (talk : L → ℕ → Talk → Type 0) (s : Sought) where
  unlost : (bytes : List ℕ) (tries : List Try) (start end : L) → AllRefused t talk s bytes start tries end → IsTrue (t.lossless start) → (x : Try) → Contains tries x → is_loss x.refusal ≡ false
  unlost bytes [] start end all sure x has = absurd (contains_nothing x has)
  unlost bytes (y ∷ tries) start end all sure x has = elim (contains_cases y tries x has) [
    | inl same ↦ subst (λ (z : Try). is_loss z.refusal ≡ false) same (all.1.asked.lossless sure).0
    | inr later ↦ unlost bytes tries all.0 end all.2 (all.1.asked.lossless sure).1 x later
  ]

  none_from : (tries : List Try) → ((x : Try) → Contains tries x → is_loss x.refusal ≡ false) → (a b : ℕ → Peer) (subset : List ℕ) → IsNone s tries a b subset → NoneFrom s a b subset
  none_from tries sure a b subset (inl gives) = inl gives
  none_from tries sure a b subset (inr (cloud, holds, inl rose)) = inr (cloud, holds, rose)
  none_from tries sure a b subset (inr (cloud, holds, inr (x, has, is))) = absurd (let f : true ≡ false = sym (ap is_loss is) ∙ sure x has in cc)

  all_none : (tries : List Try) → ((x : Try) → Contains tries x → is_loss x.refusal ≡ false) → (a b : ℕ → Peer) (all : List (List ℕ)) → All (IsNone s tries a b) all → All (NoneFrom s a b) all
  all_none tries sure a b all none = all_of (NoneFrom s a b) all (λ x has. none_from tries sure a b x (of_all (IsNone s tries a b) all x none has))

  gets_came : (tries : List Try) (front : List (List ℕ)) (subset : List ℕ) (rest : List (List ℕ)) (before after : ℕ) (file : List ℕ) (a b : ℕ → Peer) → ((x : Try) → Contains tries x → is_loss x.refusal ≡ false)
      → subsets s.shape.k s.clouds ≡ front ++ subset ∷ rest → CameTold s tries front subset before after [] file a b → Gets s (Ok tt) file a b
  gets_came tries front subset rest before after file a b sure split c =
      let comes : ComesFrom s file a b = record {
        front = front;
        subset = subset;
        rest = rest;
        split = split;
        gives = c.ends.2 ∙ ap (λ (l : List ℕ). let r : Result (List ℕ) _ = Ok l in r) (sym c.ends.1);
        read = c.read;
        front_none = all_none tries sure a b front c.front_none;
      } in
      record { comes = comes; exact = exact_came s a b file comes; just = c.just }

  gets_none : (tries : List Try) (first : List ℕ) (rest : List (List ℕ)) (before after : ℕ) (e : RestoreErr) (a b : ℕ → Peer) → ((x : Try) → Contains tries x → is_loss x.refusal ≡ false)
      → subsets s.shape.k s.clouds ≡ first ∷ rest → NoneTold s tries first before after e [] a b → Gets s (Err e) [] a b
  gets_none tries first rest before after e a b sure split n =
      let comes : ComesFromNone s e a b = record { first = first; rest = rest; first_is = split; ends = n.ends; none = all_none tries sure a b (subsets s.shape.k s.clouds) n.none } in
      record { comes = comes; exact = exact_none s a b e comes; just = n.just }

  came_or : (start end : L) (bytes : List ℕ) (e : RestoreErr) → NoneBy t talk s start end bytes e → NoneCame t talk s start end bytes e ⊎ ((e ≡ errors.NoMemory) × OnlyLeads t s.clouds start end)
  came_or start end bytes (errors.Missing n) by = inl by
  came_or start end bytes (errors.Lost n) by = inl by
  came_or start end bytes (errors.CloudFault n) by = inl by
  came_or start end bytes (errors.CloudDamaged n at byte) by = inl by
  came_or start end bytes (errors.CloudRotten n named found) by = inl by
  came_or start end bytes (errors.CloudNoMemory n) by = inl by
  came_or start end bytes (errors.Strange n kind) by = inl by
  came_or start end bytes (errors.RecipesDiffer x y place) by = inl by
  came_or start end bytes (errors.ShareLength n secret found wanted) by = inl by
  came_or start end bytes (errors.BadShare n secret named found) by = inl by
  came_or start end bytes (errors.BadSecret secret named found) by = inl by
  came_or start end bytes (errors.BadPad secret at byte) by = inl by
  came_or start end bytes errors.NoMemory by = inr (refl, by)

  none_came : (start end : L) (e : RestoreErr) → IsTrue (t.lossless start) → NoneCame t talk s start end [] e
      → Leads t s.clouds start end (Causes t start s.shape s.user (s.tag, s.version) (Err e)) (GetsIf s (Err e) [])
  none_came start end e sure n =
      let y : Try = record { subset = n.first; refusal = e } in
      let has : Contains n.tries y = subst (λ (l : List Try). Contains l y) (sym n.tries_are) (contains_here y n.more) in
      leads_to t s.clouds s.clouds start end _ _ _ _ n.leads (λ x h. h)
      (λ a b only all known. of_all (λ (x : Try). Caused t start s.shape s.user (s.tag, s.version) x.refusal a b) n.tries y all has)
      (λ a b only told plain. gets_none n.tries n.first n.rest (t.losses start) (t.losses end) e a b (unlost [] n.tries start end n.refused sure) n.first_is told)

  pub got_by : (start end : L) (file : List ℕ) (result : Result (Unit {0}) RestoreErr) → IsTrue (t.lossless start) → AnyEnds t talk s start end [] file result → OnErr result (file ≡ [])
      → Leads t s.clouds start end (Causes t start s.shape s.user (s.tag, s.version) result) (GetsIf s result file)
  got_by start end file (Ok u) sure c kept = leads_to t s.clouds s.clouds start end _ _ _ _ c.leads (λ x h. h) (λ a b only all known. tt)
      (λ a b only told plain. gets_came c.tries c.front c.subset c.rest (t.losses start) (t.losses end) file a b (unlost [] c.tries start c.mid c.refused sure) c.split told)
  got_by start end file (Err e) sure by kept =
      subst (λ (l : List ℕ). Leads t s.clouds start end (Causes t start s.shape s.user (s.tag, s.version) (Err e)) (GetsIf s (Err e) l)) (sym kept) (elim (came_or start end [] e by) [
        | inl n ↦ none_came start end e sure n
        | inr want ↦ subst (λ (r : RestoreErr). Leads t s.clouds start end (Causes t start s.shape s.user (s.tag, s.version) (Err r)) (GetsIf s (Err r) [])) (sym want.0)
            (leads_to t s.clouds s.clouds start end _ _ _ _ want.1 (λ x h. h) (λ a b only all known. tt) (λ a b only told plain. absurd (plain refl)))
      ])
