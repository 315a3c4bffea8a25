-- What k clouds have under a key, as the code finds it.
use Rattle.std.proofs.Common.{◌≡◌, ◌⊎◌, ℕ, zero, suc, ◌+◌, ◌≤◌, Bool, true, false, cond, List, [], ◌∷◌, ◌++◌, length, map, Option, Some, None, Result, Ok, Err, refl, sym, ap, ◌∙◌, subst, inl, inr, arith, ◌==◌, length-append}
use Rattle.std.specs.Prelude.{All, IfErr, option_map}
use Rattle.std.specs.List.{Contains, flat_map}
use Rattle.std.proofs.lemmas.List.Sums.{sum_by-cons}
use Rattle.std.proofs.lemmas.List.Concat.{flat_map-cons}
use Rattle.std.proofs.lemmas.List.Elements.{All-head}
use Rattle.std.proofs.lemmas.Bool.{cases_eq, leb-true, eq-eqb}
use Rattle.lane_steps.specs.CdBase.ids.Tag.{Tag}
use Rattle.lane_steps.specs.CdBase.ids.UserId.{UserId}
use Rattle.lane_steps.specs.CdBase.ids.Version.{Version}
use Rattle.lane_steps.specs.CdBase.shape.Shape.{Shape}
use Rattle.lane_steps.specs.CaontRs.Opening.{opened}
use Rattle.lane_steps.specs.Recipe.Spelling.{Fits, total, file_limit}
use Rattle.lane_steps.specs.Recipe.items.Item.{Item}
use Rattle.lane_steps.specs.Recipe.recipe.Recipe.{Recipe}
use Rattle.lane_steps.specs.UserDedup.Exec.{Peer}
use Rattle.lane_steps.specs.UserDedup.Link.{LinkTelling}
use Rattle.lane_steps.proofs.UserDedup.Owned.{contains_here, contains_later, contains_cases, contains_nothing}
use Rattle.lane_steps.specs.UploadJob.Upload.{FileVersion}
use Rattle.kept_files.specs.RestoreJob.Asking.{MayRead, Reads, AreRead, StoppedAt}
use Rattle.kept_files.specs.RestoreJob.Brought.{AreSecrets, AppendsSecrets, first_items}
use Rattle.kept_files.specs.RestoreJob.Reading.{Ends}
use Rattle.kept_files.specs.RestoreJob.Refusals.{Names, Caused}
use Rattle.kept_files.proofs.RestoreJob.Causing.{names_to}
use Rattle.kept_files.specs.RestoreJob.Restored
use Rattle.kept_files.specs.RestoreJob.Restored.{Unrestored, Given, item_of, given_by, missing, differing, agreed, restored_file}
use Rattle.kept_files.specs.RestoreJob.Steps.{RecipesTold, recipes_in, givens}
use Rattle.kept_files.specs.RestoreJob.error.RestoreErr.{RestoreErr}
use Rattle.kept_files.specs.RestoreJob.error.RestoreErr.TheVariants as errors
use Rattle.kept_files.proofs.RestoreJob.Asks.{recipes_stay}
use Rattle.kept_files.proofs.RestoreJob.Batches.{givens_stay}
use Rattle.kept_files.proofs.RestoreJob.Ending.{clouds_given, recipes_given, givens_by, none_missing, file_over}
use Rattle.kept_files.proofs.RestoreJob.Leading.{rose_on, settled_same, reads_on}
use Rattle.rebuild.specs.declared.error.SkipWhy.{SkipWhy}
use Rattle.rebuild.specs.declared.error.SkipWhy.TheVariants as whys
use Rattle.rebuild.specs.declared.versions.FoundVersion.{FoundVersion as FoundThere}
use Rattle.rebuild.specs.declared.versions.FoundVersion.TheVariants as founds
use Rattle.rebuild.specs.Found.{skip_of, name_opened, name_judged, version_named, version_with, unless_skipped, recipes_differ, version_under}
use Rattle.rebuild.specs.Over.{ReadCaused}
use Rattle.rebuild.specs.Rebuilding.{up_to}
use Rattle.rebuild.specs.declared.naming.NameErr.{NameErr}
use Rattle.rebuild.specs.Steps.{NameIs, UnnamedAs, ReadCauses, ReadEnds, RefusedAs, VersionEnds, OpensTold, FindsTold, found_of, judged_by, skip_as, unless_differs}
use Rattle.rebuild.proofs.Names.{opened_most, name_share}

-- ---- how long a file is

-- the lengths of the first so many secrets
up_to_item : List Item → ℕ → ℕ
up_to_item items zero = 0
up_to_item items (suc n) = up_to_item items n + (item_of items n).secret_len

up_to_cons : (i : Item) (items : List Item) (n : ℕ) → up_to_item (i ∷ items) (suc n) ≡ i.secret_len + up_to_item items n
unfolding up_to_item
up_to_cons i items zero = omega arith
up_to_cons i items (suc n) = let e = up_to_cons i items n in omega arith

up_to_all : (items : List Item) (n : ℕ) → n ≤ length items → up_to_item items n ≤ total items
unfolding up_to_item
up_to_all items zero le = omega arith
up_to_all [] (suc n) le = absurd (omega arith)
up_to_all (i ∷ items) (suc n) le = let e = up_to_cons i items n in let rest = up_to_all items n (omega arith) in let all : total (i ∷ items) ≡ i.secret_len + total items = sum_by-cons (λ (x : Item). x.secret_len) i items in omega arith

secrets_most : (shape : Shape) (clouds : List ℕ) (firsts : List Item) (recipes : List Recipe) (n : ℕ) (bytes : List ℕ) → AreSecrets shape clouds firsts recipes n bytes → length bytes ≤ up_to_item firsts n
unfolding up_to_item
secrets_most shape clouds firsts recipes zero bytes are = omega (arith, ap length are)
secrets_most shape clouds firsts recipes (suc n) bytes are =
    let front = secrets_most shape clouds firsts recipes n are.0 are.3 in
    let one = opened_most shape (item_of firsts n).secret_len clouds _ are.1 are.4.opens in
    omega (arith, ap length are.2, length-append are.0 are.1)

first_fits : (shape : Shape) (recipes : List Recipe) → All (Fits shape) recipes → total (first_items recipes) ≤ file_limit
first_fits shape [] fits = omega arith
first_fits shape (r ∷ recipes) fits = let f = All-head (Fits shape) r recipes fits in let le = leb-true r.file_len 67108864 f.file_len in omega (arith, f.whole)

pub file_fits : (shape : Shape) (clouds : List ℕ) (recipes : List Recipe) (new : List ℕ) → All (Fits shape) recipes → AppendsSecrets shape clouds recipes [] new → length new ≤ file_limit
file_fits shape clouds recipes new fits appends =
    let most = secrets_most shape clouds (first_items recipes) recipes (length (first_items recipes)) appends.0 appends.2 in
    let all = up_to_all (first_items recipes) (length (first_items recipes)) (omega arith) in
    omega (arith, ap length appends.1, first_fits shape recipes fits)

-- ---- a restore's error

module _ (user : UserId) (key : Tag × Version) (clouds : List ℕ) where
  none_some : (o : Option SkipWhy) (why : SkipWhy) → o ≡ Some why → o ≡ None → ⊥
  none_some o why e f = let g : Some why ≡ None = sym e ∙ f in cc

  some_is : (a b : SkipWhy) → Some a ≡ Some b → a ≡ b
  some_is a b e = cc

  abbrev error : SkipWhy → Result FileVersion SkipWhy
  error why = Err why

  found_skip : (path : List ℕ) (due : Result (List ℕ) Unrestored) (w : Unrestored) (e : RestoreErr) (r : Result FoundThere RestoreErr) (a b : ℕ → Peer) → due ≡ Err w → skip_as e ≡ Some (skip_of w) → RefusedAs e r
      → VersionEnds user key clouds (version_named user key (Ok path) due) r a b
  found_skip path due w e (Ok (founds.Version p file)) a b is skips refused = absurd refused
  found_skip path due w e (Ok (founds.Skipped why)) a b is skips refused =
      ap (version_with user key path) is ∙ ap error (some_is (skip_of w) why (sym skips ∙ refused))
  found_skip path due w e (Err f) a b is skips refused = absurd (none_some (skip_as e) (skip_of w) skips refused.1)

  found_stop : (due : Result FileVersion SkipWhy) (e : RestoreErr) (r : Result FoundThere RestoreErr) (a b : ℕ → Peer) → skip_as e ≡ None → ReadEnds clouds e a b → RefusedAs e r → VersionEnds user key clouds due r a b
  found_stop due e (Ok (founds.Version p file)) a b none ends refused = absurd refused
  found_stop due e (Ok (founds.Skipped why)) a b none ends refused = absurd (none_some (skip_as e) why refused none)
  found_stop due e (Err f) a b none ends refused = subst (λ (x : RestoreErr). ReadEnds clouds x a b) (sym refused.0) ends

  pub ends_found : (path : List ℕ) (due : Result (List ℕ) Unrestored) (e : RestoreErr) (r : Result FoundThere RestoreErr) (old new : List ℕ) (a b : ℕ → Peer) → RefusedAs e r → Ends due clouds (Err e) old new a b
      → VersionEnds user key clouds (version_named user key (Ok path) due) r a b
  ends_found path due (errors.Missing c) r old new a b refused ends = found_skip path due (Restored.Missing c.0) (errors.Missing c) r a b ends refl refused
  ends_found path due (errors.RecipesDiffer x y place) r old new a b refused ends = found_skip path due (Restored.RecipesDiffer x.0 y.0 place) (errors.RecipesDiffer x y place) r a b ends refl refused
  ends_found path due (errors.ShareLength c secret found wanted) r old new a b refused ends = found_skip path due (Restored.ShareLength c.0 secret found wanted) (errors.ShareLength c secret found wanted) r a b ends refl refused
  ends_found path due (errors.BadSecret secret named found) r old new a b refused ends = found_skip path due _ (errors.BadSecret secret named found) r a b ends refl refused
  ends_found path due (errors.BadPad secret at byte) r old new a b refused ends = found_skip path due _ (errors.BadPad secret at byte) r a b ends refl refused
  ends_found path due (errors.CloudFault c) r old new a b refused ends = found_stop _ (errors.CloudFault c) r a b refl ends refused
  ends_found path due (errors.Lost c) r old new a b refused ends = found_stop _ (errors.Lost c) r a b refl ends refused
  ends_found path due errors.NoMemory r old new a b refused ends = found_stop _ errors.NoMemory r a b refl tt refused
  ends_found path due (errors.CloudDamaged c at byte) r old new a b refused ends = absurd ends
  ends_found path due (errors.CloudRotten c named found) r old new a b refused ends = absurd ends
  ends_found path due (errors.CloudNoMemory c) r old new a b refused ends = absurd ends
  ends_found path due (errors.Strange c kind) r old new a b refused ends = absurd ends
  ends_found path due (errors.BadShare c secret named found) r old new a b refused ends = absurd ends

-- its cause
caused_read : {L : Type 0} (t : LinkTelling L) (link : L) (shape : Shape) (user : UserId) (key : Tag × Version) (e : RestoreErr) (a b : ℕ → Peer) → Caused t link shape user key e a b → ReadCaused t link e a b
caused_read t link shape user key (errors.Missing c) a b caused = tt
caused_read t link shape user key (errors.RecipesDiffer x y place) a b caused = tt
caused_read t link shape user key (errors.ShareLength c secret found wanted) a b caused = tt
caused_read t link shape user key (errors.BadSecret secret named found) a b caused = tt
caused_read t link shape user key (errors.BadPad secret at byte) a b caused = tt
caused_read t link shape user key (errors.CloudFault c) a b caused = caused
caused_read t link shape user key (errors.Lost c) a b caused = tt
caused_read t link shape user key errors.NoMemory a b caused = tt
caused_read t link shape user key (errors.CloudDamaged c at byte) a b caused = caused
caused_read t link shape user key (errors.CloudRotten c named found) a b caused = caused
caused_read t link shape user key (errors.CloudNoMemory c) a b caused = caused
caused_read t link shape user key (errors.Strange c kind) a b caused = caused
caused_read t link shape user key (errors.BadShare c secret named found) a b caused = caused

pub refused_caused : {L : Type 0} (t : LinkTelling L) (link : L) (shape : Shape) (user : UserId) (key : Tag × Version) (e : RestoreErr) (r : Result FoundThere RestoreErr) (a b : ℕ → Peer) → RefusedAs e r → Caused t link shape user key e a b → ReadCauses t link r a b
refused_caused t link shape user key e (Ok f) a b refused caused = tt
refused_caused t link shape user key e (Err f) a b refused caused = subst (λ (x : RestoreErr). ReadCaused t link x a b) (sym refused.0) (caused_read t link shape user key e a b caused)

-- ---- the recipes came

abbrev recipe_of : Given → Recipe
recipe_of given = given.recipe

shares_given : (all : List Given) → flat_map (λ (given : Given). given.recipe.name_share) all ≡ flat_map name_share (map recipe_of all)
shares_given [] = refl
shares_given (g ∷ all) =
    let more = shares_given all in
    flat_map-cons (λ (given : Given). given.recipe.name_share) g all ∙ ap (λ (l : List ℕ). g.recipe.name_share ++ l) more ∙ sym (flat_map-cons name_share g.recipe (map recipe_of all))

unless_named : (user : UserId) (key : Tag × Version) (o : Option Unrestored) (judged : Result (List ℕ) SkipWhy) (file : Result (List ℕ) Unrestored)
    → unless_skipped o (version_named user key judged file) ≡ version_named user key (unless_differs o judged) file
unless_named user key None judged file = refl
unless_named user key (Some why) judged file = refl

-- what is under the key of which these are the clouds' recipes
version_by : (shape : Shape) (user : UserId) (key : Tag × Version) (clouds : List ℕ) (recipes : List Recipe) (p : ℕ → Peer) → length clouds ≡ length recipes → 1 ≤ length clouds → recipes_in shape user key p clouds ≡ map Some recipes
    → version_under shape (λ cloud. (p cloud).list) clouds user key ≡ version_named user key (judged_by shape key clouds recipes) (agreed shape (givens p clouds recipes))
unfolding version_under
version_by shape user key [] recipes p pairs some are = absurd (omega arith)
version_by shape user key (c ∷ clouds) [] p pairs some are = absurd (omega arith)
version_by shape user key (c ∷ clouds) (r ∷ recipes) p pairs some are =
    let lists : ℕ → _ = λ (cloud : ℕ). (p cloud).list in
    let all : List Given = map (given_by shape lists user key) (c ∷ clouds) in
    let given : List Given = givens p (c ∷ clouds) (r ∷ recipes) in
    let others : List Given = givens p clouds recipes in
    let file = restored_file shape lists user key (c ∷ clouds) in
    let same : all ≡ given = givens_by shape user key (c ∷ clouds) (r ∷ recipes) p are in
    let cs = clouds_given clouds recipes p (omega arith) in
    let rs = recipes_given clouds recipes p (omega arith) in
    let names : name_opened shape given ≡ opened shape r.name_len (c ∷ clouds) (flat_map name_share (r ∷ recipes)) =
    (λ i. opened shape r.name_len (c ∷ cs i) (shares_given given i)) ∙ (λ i. opened shape r.name_len (c ∷ clouds) (flat_map name_share (r ∷ rs i))) in
    ap (λ (o : Option ℕ). unless_skipped (option_map Restored.Missing o) (unless_skipped (recipes_differ all) (version_named user key (name_judged shape key (name_opened shape all)) file))) (none_missing shape user key (c ∷ clouds) (r ∷ recipes) p are)
    ∙ ap (λ (l : List Given). unless_skipped (recipes_differ l) (version_named user key (name_judged shape key (name_opened shape l)) file)) same
    ∙ (λ i. unless_skipped (differing c r (cs i) (rs i)) (version_named user key (name_judged shape key (names i)) file))
    ∙ unless_named user key (differing c r clouds recipes) (name_judged shape key (opened shape r.name_len (c ∷ clouds) (flat_map name_share (r ∷ recipes)))) file
    ∙ ap (version_named user key (judged_by shape key (c ∷ clouds) (r ∷ recipes))) (file_over shape user key (c ∷ clouds) (r ∷ recipes) p are)

ends_from : (clouds : List ℕ) (e : RestoreErr) (a b d : ℕ → Peer) → ((x : ℕ) → MayRead (a x) (b x)) → ReadEnds clouds e b d → ReadEnds clouds e a d
ends_from clouds (errors.CloudFault c) a b d may ends = (ends.0, rose_on (a c.0).faults (b c.0).faults (d c.0).faults (may c.0).1.faults ends.1)
ends_from clouds (errors.Lost c) a b d may ends = ends
ends_from clouds errors.NoMemory a b d may ends = tt
ends_from clouds (errors.Missing c) a b d may ends = absurd ends
ends_from clouds (errors.RecipesDiffer x y place) a b d may ends = absurd ends
ends_from clouds (errors.ShareLength c secret found wanted) a b d may ends = absurd ends
ends_from clouds (errors.BadSecret secret named found) a b d may ends = absurd ends
ends_from clouds (errors.BadPad secret at byte) a b d may ends = absurd ends
ends_from clouds (errors.CloudDamaged c at byte) a b d may ends = absurd ends
ends_from clouds (errors.CloudRotten c named found) a b d may ends = absurd ends
ends_from clouds (errors.CloudNoMemory c) a b d may ends = absurd ends
ends_from clouds (errors.Strange c kind) a b d may ends = absurd ends
ends_from clouds (errors.BadShare c secret named found) a b d may ends = absurd ends

pub found_then : (shape : Shape) (user : UserId) (key : Tag × Version) (clouds : List ℕ) (recipes : List Recipe) (r : Result FoundThere RestoreErr) (a b d : ℕ → Peer) → length clouds ≡ length recipes → 1 ≤ length clouds
    → AreRead clouds a b → recipes_in shape user key b clouds ≡ map Some recipes → ((x : ℕ) → MayRead (a x) (b x)) → ((x : ℕ) → MayRead (b x) (d x))
    → OpensTold shape user key clouds recipes (judged_by shape key clouds recipes) r b d → FindsTold shape user key clouds r a d
found_then shape user key clouds recipes r a b d pairs some read are first may told = go r (told (record { recipes_are = are; settled = settled }))
  where
    settled : (x : ℕ) → Contains clouds x → (b x).pending ≡ None
    settled x has = (read x has).0.pending

    go : (r : Result FoundThere RestoreErr) → VersionEnds user key clouds (version_named user key (judged_by shape key clouds recipes) (agreed shape (givens b clouds recipes))) r b d → FindsTold shape user key clouds r a d
    go (Ok f) ends = inr (
      version_by shape user key clouds recipes d pairs some (recipes_stay shape user key clouds b d settled may ∙ are)
          ∙ ap (λ (l : List Given). version_named user key (judged_by shape key clouds recipes) (agreed shape l)) (givens_stay clouds recipes b d (λ x has. (settled_same (b x) (d x) (settled x has) (may x)).list))
          ∙ ends,
      λ x has. reads_on (a x) (b x) (d x) (read x has) (may x),
    )
    go (Err e) ends = ends_from clouds e a b d first ends

-- ---- the recipes didn't come

stops : (shape : Shape) (user : UserId) (key : Tag × Version) (clouds : List ℕ) (e : RestoreErr) (r : Result FoundThere RestoreErr) (a b : ℕ → Peer) → skip_as e ≡ None → ReadEnds clouds e a b → RefusedAs e r → FindsTold shape user key clouds r a b
stops shape user key clouds e (Ok (founds.Version p file)) a b none ends refused = absurd refused
stops shape user key clouds e (Ok (founds.Skipped why)) a b none ends refused = absurd (none_some user key clouds (skip_as e) why refused none)
stops shape user key clouds e (Err f) a b none ends refused = subst (λ (x : RestoreErr). ReadEnds clouds x a b) (sym refused.0) ends

in_middle : (front : List ℕ) (x : ℕ) (rest : List ℕ) → Contains (front ++ x ∷ rest) x
in_middle [] x rest = contains_here x rest
in_middle (y ∷ front) x rest = contains_later y (front ++ x ∷ rest) x (in_middle front x rest)

up_to_front : (at : ℕ) (front rest : List ℕ) (x : ℕ) → Contains (up_to at (front ++ at ∷ rest)) x → (x ≡ at) ⊎ Contains front x
up_to_front at [] rest x has = by_test (at == at) (eq-eqb at at refl) has
  where
    by_test : (b : Bool) → b ≡ true → Contains (cond b (at ∷ []) (at ∷ up_to at rest)) x → (x ≡ at) ⊎ Contains [] x
    by_test true e has = elim (contains_cases at [] x has) [ inl same ↦ inl (sym same) | inr none ↦ inr none ]
    by_test false e has = absurd (let f : false ≡ true = e in cc)
up_to_front at (y ∷ front) rest x has = by_test (y == at) has (up_to_front at front rest x)
  where
    here : y ≡ x → Contains (y ∷ front) x
    here same = subst (λ (z : ℕ). Contains (y ∷ front) z) same (contains_here y front)

    by_test : (b : Bool) → Contains (cond b (y ∷ []) (y ∷ up_to at (front ++ at ∷ rest))) x → (Contains (up_to at (front ++ at ∷ rest)) x → (x ≡ at) ⊎ Contains front x) → (x ≡ at) ⊎ Contains (y ∷ front) x
    by_test true has more = elim (contains_cases y [] x has) [ inl same ↦ inr (here same) | inr none ↦ absurd (contains_nothing x none) ]
    by_test false has more =
        elim (contains_cases y (up_to at (front ++ at ∷ rest)) x has) [
          | inl same ↦ inr (here same)
          | inr later ↦ elim (more later) [ inl same ↦ inl same | inr before ↦ inr (contains_later y front x before) ]
        ]

-- those up to the one that stopped it were read
stopped_read : (at : ℕ) (clouds : List ℕ) (a b : ℕ → Peer) → StoppedAt at Reads clouds a b → AreRead (up_to at clouds) a b
stopped_read at clouds a b stopped x has = by_place (cases_eq x at)
  where
    by_place : (x ≡ at) ⊎ (x ≡ at → ⊥) → Reads (a x) (b x)
    by_place (inl same) = subst (λ (y : ℕ). Reads (a y) (b y)) (sym same) stopped.stops
    by_place (inr other) =
        elim (up_to_front at stopped.front stopped.rest x (subst (λ (l : List ℕ). Contains (up_to at l) x) stopped.split has)) [
          | inl same ↦ absurd (other same)
          | inr before ↦ stopped.read x before other
        ]

pub found_refused : (shape : Shape) (user : UserId) (key : Tag × Version) (clouds : List ℕ) (e : RestoreErr) (r : Result FoundThere RestoreErr) (a b : ℕ → Peer) → RefusedAs e r → RecipesTold shape user key clouds (Err e) a b
    → FindsTold shape user key clouds r a b
found_refused shape user key clouds (errors.Missing c) (Ok (founds.Version p file)) a b refused told = absurd refused
found_refused shape user key clouds (errors.Missing c) (Ok (founds.Skipped why)) a b refused told =
    inl (c.0, ap (error user key clouds) (some_is user key clouds why (whys.Missing c) (sym refused)), told.0, stopped_read c.0 clouds a b told.1)
found_refused shape user key clouds (errors.Missing c) (Err f) a b refused told = absurd (none_some user key clouds (Some (whys.Missing c)) (whys.Missing c) refl refused.1)
found_refused shape user key clouds (errors.CloudFault c) r a b refused told =
    stops shape user key clouds (errors.CloudFault c) r a b refl (subst (λ (l : List ℕ). Contains l c.0) (sym told.split) (in_middle told.front c.0 told.rest), told.stops.0) refused
found_refused shape user key clouds (errors.Lost c) r a b refused told = stops shape user key clouds (errors.Lost c) r a b refl told refused
found_refused shape user key clouds errors.NoMemory r a b refused told = stops shape user key clouds errors.NoMemory r a b refl tt refused
found_refused shape user key clouds (errors.RecipesDiffer x y place) r a b refused told = absurd told
found_refused shape user key clouds (errors.ShareLength c secret found wanted) r a b refused told = absurd told
found_refused shape user key clouds (errors.BadSecret secret named found) r a b refused told = absurd told
found_refused shape user key clouds (errors.BadPad secret at byte) r a b refused told = absurd told
found_refused shape user key clouds (errors.CloudDamaged c at byte) r a b refused told = absurd told
found_refused shape user key clouds (errors.CloudRotten c named found) r a b refused told = absurd told
found_refused shape user key clouds (errors.CloudNoMemory c) r a b refused told = absurd told
found_refused shape user key clouds (errors.Strange c kind) r a b refused told = absurd told
found_refused shape user key clouds (errors.BadShare c secret named found) r a b refused told = absurd told

-- the file came
pub file_is : (user : UserId) (key : Tag × Version) (clouds path : List ℕ) (due : Result (List ℕ) Unrestored) (new : List ℕ) (a b : ℕ → Peer) → Ends due clouds (Ok tt) [] new a b
    → version_named user key (Ok path) due ≡ found_of user key (founds.Version path new)
file_is user key clouds path due new a b ends =
    ap (version_with user key path) ends.2 ∙ ap (λ (l : List ℕ). good user key path l) (sym ends.1)
  where
    good : UserId → Tag × Version → List ℕ → List ℕ → Result FileVersion SkipWhy
    good user key path l = Ok (record { user = user; path = path; number = key.1; file = l })

-- a cause that stands behind more reading
pub causes_from : {L A : Type 0} (t : LinkTelling L) (old mid : L) (r : Result A RestoreErr) (a b d : ℕ → Peer) → t.told mid ≡ t.told old → ((x : ℕ) → MayRead (a x) (b x)) → ReadCauses t mid r b d → ReadCauses t old r a d
causes_from t old mid (Ok x) a b d same may k = tt
causes_from t old mid (Err (errors.Missing c)) a b d same may k = tt
causes_from t old mid (Err (errors.RecipesDiffer x y place)) a b d same may k = tt
causes_from t old mid (Err (errors.ShareLength c secret found wanted)) a b d same may k = tt
causes_from t old mid (Err (errors.BadSecret secret named found)) a b d same may k = tt
causes_from t old mid (Err (errors.BadPad secret at byte)) a b d same may k = tt
causes_from t old mid (Err (errors.CloudFault c)) a b d same may k = rose_on (a c.0).faults (b c.0).faults (d c.0).faults (may c.0).1.faults k
causes_from t old mid (Err (errors.Lost c)) a b d same may k = tt
causes_from t old mid (Err errors.NoMemory) a b d same may k = tt
causes_from t old mid (Err (errors.CloudDamaged c at byte)) a b d same may k = ap (λ (f : ℕ → Bool). f c.0) (sym same) ∙ k
causes_from t old mid (Err (errors.CloudRotten c named found)) a b d same may k = ap (λ (f : ℕ → Bool). f c.0) (sym same) ∙ k
causes_from t old mid (Err (errors.CloudNoMemory c)) a b d same may k = ap (λ (f : ℕ → Bool). f c.0) (sym same) ∙ k
causes_from t old mid (Err (errors.Strange c kind)) a b d same may k = ap (λ (f : ℕ → Bool). f c.0) (sym same) ∙ k
causes_from t old mid (Err (errors.BadShare c secret named found)) a b d same may k = ap (λ (f : ℕ → Bool). f c.0) (sym same) ∙ k

-- there is no path
pub unnamed_told : (shape : Shape) (user : UserId) (key : Tag × Version) (clouds : List ℕ) (recipes : List Recipe) (judged : Result (List ℕ) SkipWhy) (e : NameErr) (r : Result FoundThere RestoreErr) (a b : ℕ → Peer) → NameIs {A = List ℕ} judged (Err e) → UnnamedAs e r
    → OpensTold shape user key clouds recipes judged r a b
unnamed_told shape user key clouds recipes judged e (Ok (founds.Version path file)) a b judges is ready = absurd is
unnamed_told shape user key clouds recipes judged e (Ok (founds.Skipped why)) a b judges is ready =
    ap (λ (j : Result (List ℕ) SkipWhy). version_named user key j (agreed shape (givens a clouds recipes))) (subst (λ (x : NameErr). NameIs {A = List ℕ} judged (Err x)) is judges)
unnamed_told shape user key clouds recipes judged e (Err f) a b judges is ready = subst (λ (x : RestoreErr). ReadEnds clouds x a b) (sym is.1) tt

pub unnamed_caused : {L : Type 0} (t : LinkTelling L) (link : L) (e : NameErr) (r : Result FoundThere RestoreErr) (a b : ℕ → Peer) → UnnamedAs e r → ReadCauses t link r a b
unnamed_caused t link e (Ok f) a b is = tt
unnamed_caused t link e (Err f) a b is = subst (λ (x : RestoreErr). ReadCaused t link x a b) (sym is.1) tt

-- a refusal that names no cloud names none but these
pub names_none : {A : Type 0} (r : Result A RestoreErr) (Is : ℕ → Type 0) → IfErr r (Names (λ c. ⊥)) → IfErr r (Names Is)
names_none (Ok x) Is alone = tt
names_none (Err e) Is alone = names_to (λ c. ⊥) Is e (λ c none. absurd none) alone
