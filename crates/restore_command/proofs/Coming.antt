-- What a restore from any k of the clouds came to, on the ports of its link.
use Rattle.std.proofs.Common.{◌≡◌, ◌≤◌, ℕ, List, [], ◌∷◌, ◌++◌, length, Result, Ok, Err, refl, sym, ◌∙◌, ap, subst, arith, length-append}
use Rattle.std.specs.Prelude.{IsTrue}
use Rattle.std.specs.List.{Contains}
use Rattle.std.specs.List.Sorted.{IsStrictlyIncreasing}
use Rattle.std.proofs.lemmas.List.{length-map}
use Rattle.ports_link.specs.CdBase.ids.CloudNo.{CloudNo}
use Rattle.ports_link.specs.CdEdges.Ports.{Telling}
use Rattle.ports_link.proofs.UserDedup.Owned.{contains_here, contains_nothing}
use Rattle.ports_link.specs.UserDedup.Link.{LinkTelling, Talk}
use Rattle.ports_link.specs.Lines.{lines_for}
use Rattle.subset_restore.proofs.RestoreJob.Speaking.{unlost_as}
use Rattle.subset_restore.specs.RestoreJob.Brought.{Brought}
use Rattle.subset_restore.specs.RestoreJob.error.RestoreErr.{RestoreErr}
use Rattle.subset_restore.specs.RestoreJob.error.RestoreErr.TheVariants as errors
use Rattle.ports_link.specs.Hellos.{HaveTalks, clouds_of}
use Rattle.ports_link.specs.declared.greeting.Greeted.{Greeted}
use Rattle.subset_restore.specs.Subsets.{subsets}
use Rattle.subset_restore.specs.Tries.{Try, GoneThrough, NoneYet, Passed, Refused, HoldsRefuser}
use Rattle.subset_restore.specs.Ends.{AllRefused, AnyEnds, HasFileCome, NoneCame, OneRestore, Sought}
use Rattle.subset_restore.proofs.Calling.{none_by}
use Rattle.subset_restore.proofs.Choices.{only_choice, subset_among}
use Rattle.subset_restore.proofs.Elements.{all_of, contains_back, contains_front}
use Rattle.restore_command.proofs.Lists.{Apart, apart}
use Rattle.restore_command.specs.Calls.{RestoreCall, named_in}
use Rattle.restore_command.specs.declared.recalling.RecallingLink.{RecallingLink}
use Rattle.restore_command.specs.Recalling.{kept_of, recalling}
use Rattle.restore_command.specs.Spoken.{KeptReply, none_kept}
use Rattle.restore_command.specs.Tried.{AreCounted, AreRefused, CameBy, FileFrom, IsFetch, IsStop, NotFrom, recipe_request}
use Rattle.restore_command.proofs.Choosing.{Chosen, choose, same_lines}
use Rattle.restore_command.proofs.Counting.{counted_over, named_over}
use Rattle.restore_command.proofs.Lines.{AreReachedBy, numbers_in}
use Rattle.restore_command.proofs.Saying.{kept_in}
use Rattle.restore_command.proofs.Walking.{Walked, wanted, walk, walked_none, stop_on, fetch_on, choice_rises}

-- ---- where there is one choice

no_middle : {A : Type 0} (front : List A) (x : A) (rest : List A) → [] ≡ front ++ x ∷ rest → ⊥
no_middle [] x rest e = cc
no_middle (y ∷ front) x rest e = cc

sole : {A : Type 0} (y : A) (front : List A) (x : A) (rest : List A) → y ∷ [] ≡ front ++ x ∷ rest
    → (front ≡ []) × (x ≡ y)
sole y [] x rest e = (refl, cc)
sole y (z ∷ front) x rest e = absurd (no_middle front x rest (let f : y ∷ [] ≡ z ∷ (front ++ x ∷ rest) = e in cc))

no_end : {A : Type 0} (xs : List A) (x : A) → xs ++ x ∷ [] ≡ [] → ⊥
no_end [] x e = cc
no_end (y ∷ xs) x e = cc

-- where nothing was gone through nothing was tried
none_tried : (done : List (List ℕ)) (tries : List Try) → GoneThrough done tries → done ≡ [] → tries ≡ []
none_tried done tries NoneYet e = refl
none_tried done tries (Passed front some subset gone holds) e = absurd (no_end front subset e)
none_tried done tries (Refused front some subset refusal gone free plain) e = absurd (no_end front subset e)

-- there are no more tries than choices
few_tries : (done : List (List ℕ)) (tries : List Try) → GoneThrough done tries → length tries ≤ length done
few_tries done tries NoneYet = omega arith
few_tries done tries (Passed front some subset gone holds) =
    omega (arith, few_tries front some gone, length-append front (subset ∷ []))
few_tries done tries (Refused front some subset refusal gone free plain) =
    omega (
      arith,
      few_tries front some gone,
      length-append front (subset ∷ []),
      length-append some (record { subset = subset; refusal = refusal } ∷ []),
    )

no_more : (more : List Try) → length more ≤ 0 → more ≡ []
no_more [] few = refl
no_more (x ∷ more) few = absurd (omega arith)

-- ---- by the result

-- an error of which no choice gave the file
came_not : (call : RestoreCall) (greeted : Greeted) (behind : Telling) (file : List ℕ) (e : RestoreErr)
    → NotFrom call greeted behind e
    → (let r : Result (Unit {0}) RestoreErr = Err e in CameBy call greeted behind r file)
came_not call greeted behind file (errors.Missing c) is = is
came_not call greeted behind file (errors.Lost c) is = is
came_not call greeted behind file (errors.CloudFault c) is = is
came_not call greeted behind file (errors.CloudDamaged c at byte) is = is
came_not call greeted behind file (errors.CloudRotten c named found) is = is
came_not call greeted behind file (errors.CloudNoMemory c) is = is
came_not call greeted behind file (errors.Strange c kind) is = is
came_not call greeted behind file (errors.RecipesDiffer a b place) is = is
came_not call greeted behind file (errors.ShareLength c secret found wanted) is = is
came_not call greeted behind file (errors.BadShare c secret named found) is = is
came_not call greeted behind file (errors.BadSecret secret named found) is = is
came_not call greeted behind file (errors.BadPad secret at byte) is = is
came_not call greeted behind file errors.NoMemory is = tt

module _ {P : Type 0} (tells : P → Telling) (faults : P → ℕ) (talk : RecallingLink P → ℕ → Talk → Type 0)
    (start : RecallingLink P) (greeted : Greeted) (call : RestoreCall) (bytes : List ℕ) (none : bytes ≡ [])
    (first : start.link.lines.items.items ≡ lines_for greeted.lines.items)
    (recalls : start.wanted ≡ recipe_request call greeted.shape)
    (empty : (cloud : ℕ) → kept_of start.kept cloud ≡ [])
    (reach : AreReachedBy (lines_for greeted.lines.items) greeted.lines.items)
    (rises : IsStrictlyIncreasing (clouds_of greeted.lines.items))
    (speak : IsTrue call.before.told
    → IsTrue (tells start.link.ports.now).told × HaveTalks (tells start.link.ports.now) greeted.lines.items)
    (end : RecallingLink P) (last : tells end.link.ports.now ≡ call.after)
    (since : faults start.link.ports.now ≡ call.faults_before)
    (until : faults end.link.ports.now ≡ call.faults_after) where
  abbrev items : List (CloudNo × ℕ)
  items = greeted.lines.items

  abbrev behind : Telling
  behind = tells start.link.ports.now

  abbrev t : LinkTelling (RecallingLink P)
  t = recalling tells faults

  abbrev choices : List (List ℕ)
  choices = subsets greeted.shape.k (clouds_of items)

  abbrev sought_here : Sought
  sought_here = wanted tells faults talk start greeted call bytes first recalls empty reach rises

  none_at : kept_in start ≡ none_kept
  none_at = λ i cloud. empty cloud i

  walk_to : IsTrue call.before.told → (done : List (List ℕ)) (tries : List Try) → GoneThrough done tries
      → ((x : List ℕ) → Contains done x → Contains choices x) → (mid : RecallingLink P)
      → AllRefused t talk sought_here bytes start tries mid
      → Walked tells faults talk start greeted call bytes first recalls empty reach rises tries mid
  walk_to told done tries gone within mid all =
      let s = speak told in
      walk tells faults talk start greeted call bytes first recalls empty reach rises s.0 s.1 done tries gone within mid all

  -- just k clouds
  one_only : length items ≡ greeted.shape.k → choices ≡ clouds_of items ∷ []
  one_only few = only_choice greeted.shape.k (clouds_of items) (length-map items (λ (line : CloudNo × ℕ). line.0.0) ∙ few)

  differ : Apart (named_in items)
  differ = apart (named_in items) (subst IsStrictlyIncreasing (sym (numbers_in items)) rises)

  all_lines : (chosen : Chosen items (clouds_of items)) → chosen.lines ≡ items
  all_lines chosen = same_lines items chosen.lines items differ chosen.among (all_of (Contains items) items (λ x has. has))
      chosen.clouds

  file_from : (file : List ℕ) → HasFileCome t talk sought_here start end bytes file → FileFrom call greeted behind file
  file_from file came =
      let within : (x : List ℕ) → Contains came.front x → Contains choices x = λ x has.
      subst (λ (l : List (List ℕ)). Contains l x) (sym came.split)
      (contains_front came.front (came.subset ∷ came.rest) x has) in
      let is : Contains choices came.subset = subst (λ (l : List (List ℕ)). Contains l came.subset) (sym came.split)
      (contains_back came.front (came.subset ∷ came.rest) came.subset (contains_here came.subset came.rest)) in
      let among = subset_among greeted.shape.k (clouds_of items) came.subset is in
      let chosen = choose items came.subset among in
      let fetched : IsTrue call.before.told
      → IsFetch call greeted.shape chosen.lines (kept_in came.mid) (tells came.mid.link.ports.now) call.after file = λ told.
      let s = speak told in
      let w = walk_to told came.front came.tries came.gone within came.mid came.refused in
      subst (λ (u : Telling). IsFetch call greeted.shape chosen.lines (kept_in came.mid) (tells came.mid.link.ports.now) u
      file) last
      (fetch_on tells faults talk start greeted call bytes first recalls empty reach rises s.0 s.1 came.tries came.mid end w
      came.subset chosen came.free (Ok tt) file came.restored among
      (choice_rises tells faults talk start greeted call bytes first recalls empty reach rises came.subset is) none
      came.restored.passed) in
      record {
        tries = came.tries;
        front = came.front;
        chosen = chosen.lines;
        rest = came.rest;
        in_order = came.split ∙ ap (λ (c : List ℕ). came.front ++ c ∷ came.rest) (sym chosen.clouds);
        among = chosen.among;
        gone = came.gone;
        free = λ holds. came.free (subst (HoldsRefuser came.tries) chosen.clouds holds);
        brought = subst (λ (c : List ℕ). Brought greeted.shape c [] file) (sym chosen.clouds)
            (subst (λ (b : List ℕ). Brought greeted.shape came.subset b file) none came.brought);
        from = tells came.mid.link.ports.now;
        kept = kept_in came.mid;
        count = faults came.mid.link.ports.now;
        named = named_over t talk sought_here bytes start came.mid came.tries came.refused;
        counted = subst (λ (n : ℕ). AreCounted n came.tries (faults came.mid.link.ports.now)) since
            (counted_over t talk sought_here bytes start came.mid came.tries came.refused);
        later = subst (λ (n : ℕ). faults came.mid.link.ports.now ≤ n) until came.restored.asked.later;
        refused = λ told. (walk_to told came.front came.tries came.gone within came.mid came.refused).refused;
        fetched = fetched;
        exact = λ told few.
            let one = sole (clouds_of items) came.front came.subset came.rest (sym (one_only few) ∙ came.split) in
            let tried = none_tried came.front came.tries came.gone one.0 in
            let at_start : came.mid ≡ start =
            subst (λ (l : List Try). AllRefused t talk sought_here bytes start l came.mid) tried came.refused in
            let lines : chosen.lines ≡ items =
            all_lines (record { lines = chosen.lines; clouds = chosen.clouds ∙ one.1; among = chosen.among }) in
            subst (λ (l : List (CloudNo × ℕ)). IsFetch call greeted.shape l none_kept behind call.after file) lines
            (subst (λ (k : KeptReply). IsFetch call greeted.shape chosen.lines k behind call.after file) none_at
            (subst (λ (l : RecallingLink P). IsFetch call greeted.shape chosen.lines (kept_in l) (tells l.link.ports.now)
            call.after file) at_start (fetched told)));
      }

  not_from : (e : RestoreErr) → NoneCame t talk sought_here start end bytes e → NotFrom call greeted behind e
  not_from e came = record {
    tries = came.tries;
    first = came.first;
    more = came.more;
    rest = came.rest;
    tries_are = came.tries_are;
    first_is = came.first_is;
    gone = came.gone;
    each = came.each;
    named = named_over t talk sought_here bytes start end came.tries came.refused;
    counted = subst (λ (n : ℕ). AreCounted call.faults_before came.tries n) until
        (subst (λ (n : ℕ). AreCounted n came.tries (faults end.link.ports.now)) since
        (counted_over t talk sought_here bytes start end came.tries came.refused));
    kept = kept_in end;
    refused = λ told.
        subst (λ (u : Telling). AreRefused call greeted behind none_kept came.tries u (kept_in end)) last
        (walk_to told choices came.tries came.gone (λ x has. has) end came.refused).refused;
    exact = λ told few.
        let s = speak told in
        let only = one_only few in
        let here : came.first ≡ clouds_of items = (sole (clouds_of items) [] came.first came.rest (sym only ∙ came.first_is)).1 in
        let x : Try = record { subset = came.first; refusal = e } in
        let count : length came.tries ≤ 1 = few_tries (clouds_of items ∷ []) came.tries
        (subst (λ (l : List (List ℕ)). GoneThrough l came.tries) only came.gone) in
        let rest : came.more ≡ [] = no_more came.more (omega (arith, count, ap length came.tries_are)) in
        let all = subst (λ (l : List Try). AllRefused t talk sought_here
        bytes start l end) (came.tries_are ∙ ap (λ (l : List Try). x ∷ l) rest) came.refused in
        let is : Contains choices came.first = subst (λ (l : List (List ℕ)). Contains l came.first) (sym came.first_is)
        (contains_here came.first came.rest) in
        let among = subset_among greeted.shape.k (clouds_of items) came.first is in
        let chosen = choose items came.first among in
        let lines : chosen.lines ≡ items =
        all_lines (record { lines = chosen.lines; clouds = chosen.clouds ∙ here; among = chosen.among }) in
        let free : HoldsRefuser [] came.first → ⊥ = λ holds. contains_nothing holds.2.0 holds.2.1 in
        let one : OneRestore t talk sought_here came.first bytes bytes start (Err e) end =
        subst (λ (l : RecallingLink P). OneRestore t talk sought_here came.first bytes bytes start (Err e) l) (sym all.2)
        all.1 in
        unlost_as (Unit {0}) (Unit {0}) e _ _
        (λ ran.
        subst (λ (l : List (CloudNo × ℕ)). IsStop call greeted.shape l none_kept behind call.after (kept_in end) e) lines
        (subst (λ (u : Telling). IsStop call greeted.shape chosen.lines none_kept behind u (kept_in end) e) last
        (subst (λ (k : KeptReply). IsStop call greeted.shape chosen.lines k behind (tells end.link.ports.now) (kept_in end) e)
        none_at
        (stop_on tells faults talk start greeted call bytes first recalls empty reach rises s.0 s.1 [] start end
        (walked_none tells faults talk start greeted call bytes first recalls empty reach rises s.0 s.1) came.first chosen
        free (Err e) bytes one among
        (choice_rises tells faults talk start greeted call bytes first recalls empty reach rises came.first is) e ran))))
        one.passed;
  }

  pub came_by : (r : Result (Unit {0}) RestoreErr) (file : List ℕ)
      → AnyEnds t talk sought_here start end bytes file r → CameBy call greeted behind r file
  came_by (Ok u) file came = file_from file came
  came_by (Err e) file came =
      none_by t talk sought_here bytes start end
      (λ x. let r : Result (Unit {0}) RestoreErr = Err x in CameBy call greeted behind r file) tt
      (λ x is. came_not call greeted behind file x (not_from x is)) e came
