-- One cloud of many.
use Rattle.std.proofs.Common.{◌≤◌, Ok, Err, OnOk, OnErr, IfOk, ◌++◌, ◌≡◌, ◌≢◌, ℕ, zero, suc, ◌<◌, List, [], ◌∷◌, length, get_or, set, Some, None, Result, refl, sym, ◌∙◌, ap, subst, arith}
use Rattle.std.specs.Prelude.{slice_get}
use Rattle.std.proofs.lemmas.Option.{slice_get_read}
use Rattle.mem_disk.specs.CdEdges.Causes.{HasCause, Rose}
use Rattle.mem_disk.specs.CdEdges.Disk.{Cloud}
use Rattle.mem_disk.specs.CdEdges.Shelf.{IsCall, HasFailed, KeepsCounts}
use Rattle.cd_fakes.specs.declared.cloud.MemCloud.{MemCloud}
use Rattle.cd_fakes.specs.Clouds.{cloud_of}
use Rattle.cd_fakes.specs.Shelves.{clouds_of, At, AtBoth}

clouds_at : (ms : List MemCloud) (number : ℕ) (m : MemCloud) → number < length ms → m ≡ get_or ms number m → clouds_of ms number ≡ cloud_of m
clouds_at [] number m within is = absurd (omega arith)
clouds_at (n ∷ ms) zero m within is = ap cloud_of (sym is)
clouds_at (n ∷ ms) (suc number) m within is = clouds_at ms number m (omega arith) is

set_here : (ms : List MemCloud) (number : ℕ) (m : MemCloud) → number < length ms → clouds_of (set ms number m) number ≡ cloud_of m
set_here [] number m within = absurd (omega arith)
set_here (n ∷ ms) zero m within = refl
set_here (n ∷ ms) (suc number) m within = set_here ms number m (omega arith)

set_there : (ms : List MemCloud) (number : ℕ) (m : MemCloud) (other : ℕ) → other ≢ number → clouds_of (set ms number m) other ≡ clouds_of ms other
set_there [] number m other ne = refl
set_there (n ∷ ms) zero m zero ne = absurd (ne refl)
set_there (n ∷ ms) zero m (suc other) ne = refl
set_there (n ∷ ms) (suc number) m zero ne = refl
set_there (n ∷ ms) (suc number) m (suc other) ne = set_there ms number m other (λ e. ne (ap suc e))

get_here : (ms : List MemCloud) (number : ℕ) (m : MemCloud) → number < length ms → slice_get (set ms number m) number ≡ Some m
get_here [] number m within = absurd (omega arith)
get_here (n ∷ ms) zero m within = refl
get_here (n ∷ ms) (suc number) m within = get_here ms number m (omega arith)

get_there : (ms : List MemCloud) (number : ℕ) (m : MemCloud) (other : ℕ) → other ≢ number → slice_get (set ms number m) other ≡ slice_get ms other
get_there [] number m other ne = refl
get_there (n ∷ ms) zero m zero ne = absurd (ne refl)
get_there (n ∷ ms) zero m (suc other) ne = refl
get_there (n ∷ ms) (suc number) m zero ne = refl
get_there (n ∷ ms) (suc number) m (suc other) ne = get_there ms number m other (λ e. ne (ap suc e))

-- One cloud of the many has changed.
pub record Step (ms ms' : List MemCloud) (number : ℕ) (m m' : MemCloud) : Type 0 where
  pub within : number < length ms
  pub is : m ≡ get_or ms number m
  pub changed : ms' ≡ set ms number m'

module _ (ms ms' : List MemCloud) (number : ℕ) (m m' : MemCloud) (step : Step ms ms' number m m') where
  here_before : clouds_of ms number ≡ cloud_of m
  here_before = clouds_at ms number m step.within step.is

  here_after : clouds_of ms' number ≡ cloud_of m'
  here_after = ap (λ (l : List MemCloud). clouds_of l number) step.changed ∙ set_here ms number m' step.within

  pub found_before : slice_get ms number ≡ Some m
  found_before = slice_get_read ms (length ms) number m refl step.within step.is

  found_after : slice_get ms' number ≡ Some m'
  found_after = ap (λ (l : List MemCloud). slice_get l number) step.changed ∙ get_here ms number m' step.within

  -- what holds of the cloud holds of it by its number
  pub between : (P : Cloud → Cloud → Type 0) → P (cloud_of m) (cloud_of m') → P (clouds_of ms number) (clouds_of ms' number)
  between P holds = subst (λ (x : Cloud). P x (clouds_of ms' number)) (sym here_before) (subst (λ (x : Cloud). P (cloud_of m) x) (sym here_after) holds)

  pub at : (P : MemCloud → Type 0) → P m → At ms number P
  at P holds x found = let same : m ≡ x = cc (found_before, found) in subst P same holds

  pub at_both : (P : MemCloud → MemCloud → Type 0) → P m m' → AtBoth ms ms' number P
  at_both P holds x y before after =
      let one : m ≡ x = cc (found_before, before) in let two : m' ≡ y = cc (found_after, after) in
      subst (λ (z : MemCloud). P x z) two (subst (λ (z : MemCloud). P z m') one holds)

  pub clouds_stay : (other : ℕ) → other ≢ number → clouds_of ms' other ≡ clouds_of ms other
  clouds_stay other ne = ap (λ (l : List MemCloud). clouds_of l other) step.changed ∙ set_there ms number m' other ne

  pub others_stay : (other : ℕ) → other ≢ number → slice_get ms' other ≡ slice_get ms other
  others_stay other ne = ap (λ (l : List MemCloud). slice_get l other) step.changed ∙ get_there ms number m' other ne

  pub called : {T E : Type 0} (r : Result T E) (before now : ℕ) → m'.disk.told ≡ m.disk.told → m'.armings ≡ m.armings → HasCause m.faults m'.faults r → before ≤ now → IsCall (clouds_of ms) (clouds_of ms') number before now
  called r before now told armings cause total = record {
    others = clouds_stay;
    told = between (λ (x y : Cloud). y.told ≡ x.told) told;
    armings = between (λ (x y : Cloud). y.armings ≡ x.armings) armings;
    later = between (λ (x y : Cloud). x.faults ≤ y.faults) cause.later;
    total_later = total;
  }

  pub failed : {T E : Type 0} (r s : Result T E) (before now : ℕ) → s ≡ r → HasCause m.faults m'.faults r → HasCause before now s → OnErr s (HasFailed (clouds_of ms number) (clouds_of ms' number) before now)
  failed {T} {E} r (Ok x) before now same cause total = tt
  failed {T} {E} r (Err e) before now same cause total = record {
    cloud = between (λ (x y : Cloud). Rose x.faults y.faults) (subst (λ (q : Result T E). OnErr q (Rose m.faults m'.faults)) (sym same) cause.failed);
    total = total.failed;
  }

  pub uncounted : {T E : Type 0} (r s : Result T E) (before now : ℕ) → s ≡ r → HasCause m.faults m'.faults r → HasCause before now s → OnOk s (KeepsCounts (clouds_of ms number) (clouds_of ms' number) before now)
  uncounted {T} {E} r (Ok x) before now same cause total = record {
    cloud = between (λ (x y : Cloud). y.faults ≡ x.faults) (subst (λ (q : Result T E). OnOk q (m'.faults ≡ m.faults)) (sym same) cause.still);
    total = total.still;
  }
  uncounted {T} {E} r (Err e) before now same cause total = tt

-- what an answer that was handed on says
pub on_ok : {T E : Type 0} (r s : Result T E) (P Q : Type 0) → s ≡ r → (P → Q) → OnOk r P → OnOk s Q
on_ok {T} {E} r (Ok x) P Q same more holds = more (subst (λ (q : Result T E). OnOk q P) (sym same) holds)
on_ok r (Err e) P Q same more holds = tt

pub on_err : {T E : Type 0} (r s : Result T E) (P Q : Type 0) → s ≡ r → (P → Q) → OnErr r P → OnErr s Q
on_err r (Ok x) P Q same more holds = tt
on_err {T} {E} r (Err e) P Q same more holds = more (subst (λ (q : Result T E). OnErr q P) (sym same) holds)

pub if_ok : {T E : Type 0} (r s : Result T E) (P Q : T → Type 0) → s ≡ r → ((x : T) → P x → Q x) → IfOk r P → IfOk s Q
if_ok {T} {E} r (Ok x) P Q same more holds = more x (subst (λ (q : Result T E). IfOk q P) (sym same) holds)
if_ok r (Err e) P Q same more holds = tt

same_some : {X : Type 0} (a b : X) → Some a ≡ Some b → a ≡ b
same_some a b e = cc

none_some : {X : Type 0} (b : X) → None ≡ Some b → ⊥
none_some b e = cc

-- one more behind the others
pub at_pushed : {X : Type 0} (xs : List X) (y : X) (P : ℕ → X → Type 0) → ((number : ℕ) (x : X) → slice_get xs number ≡ Some x → P number x) → P (length xs) y → (number : ℕ) (x : X) → slice_get (xs ++ y ∷ []) number ≡ Some x → P number x
at_pushed [] y P old here zero x found = subst (P 0) (same_some y x found) here
at_pushed [] y P old here (suc number) x found = absurd (none_some x found)
at_pushed (n ∷ xs) y P old here zero x found = old zero x found
at_pushed (n ∷ xs) y P old here (suc number) x found = at_pushed xs y (λ k. P (suc k)) (λ k. old (suc k)) here number x found
