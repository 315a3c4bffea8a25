-- The lanes of a new job.
use Rattle.std.proofs.Common.{◌≡◌, ℕ, zero, suc, ◌+◌, ◌<◌, ◌≤◌, ◌≢◌, ◌⊎◌, Bool, true, false, cond, eqb, List, [], ◌∷◌, ◌++◌, length, map, take, drop, get_or, refl, sym, ap, ◌∙◌, subst, arith, inl, inr}
use Rattle.std.specs.List.{flat_map}
use Rattle.std.proofs.Math.Seq.{take-append_seam, drop-append_seam, get_or-append_seam}
use Rattle.std.proofs.lemmas.Bool.{cases_lt, cases_eq, eq-eqb, eqb-true}
use Rattle.std.proofs.lemmas.List.{length-map, length-append, get_or_default, get_or_append_left}
use Rattle.std.proofs.lemmas.List.FromFn.{fill_by_all, get_or-map-range_with_len, length-map-range_with_len}
use Rattle.std.proofs.lemmas.List.Elements.{All-nil}
use Rattle.sha2.specs.Sha256.{sha256}
use Rattle.user_dedup.specs.CdBase.ids.Tag.{Tag}
use Rattle.user_dedup.specs.CdBase.ids.Fp.{Fp}
use Rattle.user_dedup.specs.CdBase.shape.Shape.{Shape}
use Rattle.user_dedup.specs.CdBase.Lengths.{share_len_of}
use Rattle.file_recipe.specs.CaontRs.Package.{share, tag}
use Rattle.file_recipe.proofs.CaontRs.Opened.{length-share}
use Rattle.file_recipe.specs.declared.cloud_file.CloudFile.{CloudFile}
use Rattle.file_recipe.specs.FileRecipe.{secrets, shares_at, item_of}
use Rattle.file_recipe.specs.Clouds.{cloud_file, dispersed}
use Rattle.file_recipe.proofs.Secrets.{IsSecret, secret_at, secrets_few}
use Rattle.user_dedup.specs.Owning.{new_strings}
use Rattle.upload_job.specs.declared.lane.VersionKey.{VersionKey}
use Rattle.upload_job.specs.declared.lane.Lane.{Lane}
use Rattle.upload_job.specs.declared.lane.LaneStage.{LaneStage}
use Rattle.upload_job.specs.Upload.{FileVersion, work_of, wanted_for, in_batches}
use Rattle.upload_job.specs.Lanes.{LaneView, begun, idle, lanes_begun, lane_begun}
use Rattle.upload_job.specs.Index.{IsInShares, AreIn, AreNamed, HasRecalledShares, IsLane, AreLanes, IsBegun, IsIdle, IsAlone, EachNamed, EachBegun, pieces, shares_in, lane_in, lanes_in}
use Rattle.upload_job.proofs.Laning.{length-lanes_in}

-- ---- one lane after the other

pub begun_more : (k : ℕ) (files : List CloudFile) (lanes new : List Lane) (n : ℕ) (f : CloudFile) (lane : Lane) → length lanes ≡ n → n < length files → f ≡ get_or files n f → IsBegun k f lane → new ≡ lanes ++ lane ∷ [] → EachBegun k files lanes → EachBegun k files new
begun_more k files lanes new n f lane len lt at is e each = λ i g l below.
    let size : length new ≡ length lanes + 1 = ap (λ (xs : List Lane). length xs) e ∙ length-append lanes (lane ∷ []) in
    subst (λ (xs : List Lane). IsBegun k (get_or files i g) (get_or xs i l)) (sym e)
    (elim (cases_lt i (length lanes)) [
      | inl lower ↦ subst (λ (m : Lane). IsBegun k (get_or files i g) m) (sym (get_or_append_left lanes (lane ∷ []) l i lower)) (each i g l lower)
      | inr upper ↦
          let same : n ≡ i = omega arith in
          let last : i ≡ length lanes = omega arith in
          let here : get_or (lanes ++ lane ∷ []) i l ≡ lane = ap (λ (m : ℕ). get_or (lanes ++ lane ∷ []) m l) last ∙ get_or-append_seam lanes lane [] l in
          let file : f ≡ get_or files i g = subst (λ (m : ℕ). f ≡ get_or files m g) same (at ∙ get_or_default files n f g lt) in
          subst (λ (m : Lane). IsBegun k (get_or files i g) m) (sym here) (subst (λ (h : CloudFile). IsBegun k h lane) file is)
    ])

-- ---- the shares and what names them

tail_secrets : (x : List ℕ) (xs : List (List ℕ)) → ((i : ℕ) → i < length (x ∷ xs) → IsSecret (get_or (x ∷ xs) i [])) → (i : ℕ) → i < length xs → IsSecret (get_or xs i [])
tail_secrets x xs h i lt = h (suc i) (omega arith)

named_all : (s : Shape) (j : ℕ) (xs : List (List ℕ)) → ((i : ℕ) → i < length xs → IsSecret (get_or xs i [])) → AreNamed s.k (map (item_of s j) xs) (flat_map (share s j) xs)
named_all s j [] h = tt
named_all s j (x ∷ xs) h =
    let len : length (share s j x) ≡ share_len_of s.k (length x) = length-share s j x in
    let rest : List ℕ = flat_map (share s j) xs in
    let front : take (share_len_of s.k (length x)) (share s j x ++ rest) ≡ share s j x = ap (λ (n : ℕ). take n (share s j x ++ rest)) (sym len) ∙ take-append_seam (share s j x) rest in
    let back : drop (share_len_of s.k (length x)) (share s j x ++ rest) ≡ rest = ap (λ (n : ℕ). drop n (share s j x ++ rest)) (sym len) ∙ drop-append_seam (share s j x) rest in
    let is = h 0 (omega arith) in
    let both = length-append (share s j x) rest in (
      record {
        some = is.some;
        few = is.few;
        room = omega arith;
        named = ap (λ (b : List ℕ). let f : Fp = record { 0 = sha256 b } in f) (sym front);
      },
      subst (AreNamed s.k (map (item_of s j) xs)) (sym back) (named_all s j xs (tail_secrets x xs h)),
    )

pieces_all : (s : Shape) (j : ℕ) (xs : List (List ℕ)) → pieces s.k (map (item_of s j) xs) (flat_map (share s j) xs) ≡ map (share s j) xs
pieces_all s j [] = refl
pieces_all s j (x ∷ xs) =
    let len : length (share s j x) ≡ share_len_of s.k (length x) = length-share s j x in
    let rest : List ℕ = flat_map (share s j) xs in
    let front : take (share_len_of s.k (length x)) (share s j x ++ rest) ≡ share s j x = ap (λ (n : ℕ). take n (share s j x ++ rest)) (sym len) ∙ take-append_seam (share s j x) rest in
    let back : drop (share_len_of s.k (length x)) (share s j x ++ rest) ≡ rest = ap (λ (n : ℕ). drop n (share s j x ++ rest)) (sym len) ∙ drop-append_seam (share s j x) rest in
    ap (λ (p : List ℕ). p ∷ pieces s.k (map (item_of s j) xs) (drop (share_len_of s.k (length x)) (share s j x ++ rest))) front
    ∙ ap (λ (ys : List ℕ). share s j x ∷ pieces s.k (map (item_of s j) xs) ys) back
    ∙ ap (λ (ps : List (List ℕ)). share s j x ∷ ps) (pieces_all s j xs)

-- ---- the clouds' files

pub file_at : (s : Shape) (path file : List ℕ) (files : List CloudFile) (j : ℕ) (d : CloudFile) → files ≡ dispersed s path file → j < s.n → get_or files j d ≡ cloud_file s j path file
unfolding dispersed
file_at s path file files j d e lt = ap (λ (xs : List CloudFile). get_or xs j d) e ∙ get_or-map-range_with_len (λ (i : ℕ). cloud_file s i path file) 0 s.n j j d lt (omega arith)

pub length-dispersed : (s : Shape) (path file : List ℕ) → length (dispersed s path file) ≡ s.n
unfolding dispersed
length-dispersed s path file = length-map-range_with_len (λ (i : ℕ). cloud_file s i path file) 0 s.n

pub one_named : (s : Shape) (j : ℕ) (path file : List ℕ) (f : CloudFile) → f ≡ cloud_file s j path file → length file ≤ 67108864 → (length f.recipe.items ≤ 32768) × AreNamed s.k f.recipe.items f.shares
unfolding shares_at
one_named s j path file f is few =
    let count = secrets_few file few in
    let items = length-map (secrets file) (item_of s j) in
    subst (λ (g : CloudFile). (length g.recipe.items ≤ 32768) × AreNamed s.k g.recipe.items g.shares) (sym is) (omega arith, named_all s j (secrets file) (secret_at file))

pub each_named : (s : Shape) (path file : List ℕ) (files : List CloudFile) → files ≡ dispersed s path file → length file ≤ 67108864 → EachNamed s.k files
each_named s path file files e few = λ i f lt.
    let size : length files ≡ s.n = ap (λ (xs : List CloudFile). length xs) e ∙ length-dispersed s path file in
    one_named s i path file (get_or files i f) (file_at s path file files i f e (omega arith)) few

-- ---- the lanes as contracts see them

begun_in : (s : Shape) (v : FileVersion) (key : VersionKey) (j : ℕ) (lane : Lane) → key.user ≡ v.user → key.tag.0 ≡ tag s v.path → key.version ≡ v.number → IsBegun s.k (cloud_file s j v.path v.file) lane
    → lane_in key lane ≡ begun (work_of s v j)
unfolding shares_at
begun_in s v key j lane user tagged number is =
    let mark : key.tag ≡ record { 0 = tag s v.path } = ap (λ (b : List ℕ). let t : Tag = record { 0 = b } in t) tagged in
    let items : lane.items ≡ length (secrets v.file) = is.items ∙ length-map (secrets v.file) (item_of s j) in
    let wanted : shares_in (shares_at s j v.file) lane.wanted.items ≡ wanted_for s j v.file = is.wanted ∙ ap (new_strings []) (pieces_all s j (secrets v.file)) in
    rw (is.recipe, items, is.recalled, wanted, is.stage, mark, user, number) refl

get-lanes_in : (key : VersionKey) (lanes : List Lane) (i : ℕ) (d : LaneView) (l : Lane) → i < length lanes → get_or (lanes_in key lanes) i d ≡ lane_in key (get_or lanes i l)
get-lanes_in key [] i d l lt = absurd (omega arith)
get-lanes_in key (m ∷ lanes) zero d l lt = refl
get-lanes_in key (m ∷ lanes) (suc i) d l lt = get-lanes_in key lanes i d l (omega arith)

are_from : (lanes : List Lane) → ((i : ℕ) (l : Lane) → i < length lanes → IsLane (get_or lanes i l)) → AreLanes lanes
are_from [] each = tt
are_from (l ∷ lanes) each = (each 0 l (omega arith), are_from lanes (λ i m lt. each (suc i) m (omega arith)))

begun_inside : (k : ℕ) (f : CloudFile) (lane : Lane) → IsBegun k f lane → IsLane lane
begun_inside k f lane is =
    let has : lane.shares ≡ lane.recalled.bytes = is.shares ∙ sym is.recalled in (
      subst (λ (xs : List ℕ). AreIn xs lane.wanted.items) (sym is.recalled) is.inside,
      subst (λ (s : LaneStage). HasRecalledShares s lane.shares lane.recalled.bytes) (sym is.stage) has,
    )

-- an element of a list that has one
some_of : {A : Type 0} (xs : List A) → 0 < length xs → A
some_of [] lt = absurd (omega arith)
some_of (x ∷ xs) lt = x

pub are_lanes : (k : ℕ) (files : List CloudFile) (lanes : List Lane) → length lanes ≡ length files → EachBegun k files lanes → AreLanes lanes
are_lanes k files lanes e each = are_from lanes (λ i l lt. begun_inside k (get_or files i (some_of files (omega arith))) (get_or lanes i l) (each i (some_of files (omega arith)) l lt))

pub all_begun : (s : Shape) (v : FileVersion) (key : VersionKey) (files : List CloudFile) (lanes : List Lane) → key.user ≡ v.user → key.tag.0 ≡ tag s v.path → key.version ≡ v.number
    → files ≡ dispersed s v.path v.file → length lanes ≡ length files → EachBegun s.k files lanes → lanes_in key lanes ≡ lanes_begun s v
all_begun s v key files lanes user tagged number e len each =
    let size : length files ≡ s.n = ap (λ (xs : List CloudFile). length xs) e ∙ length-dispersed s v.path v.file in
    let d : LaneView = begun (work_of s v 0) in
    fill_by_all (λ (j : ℕ). begun (work_of s v j)) (lanes_in key lanes) s.n d (length-lanes_in key lanes ∙ len ∙ size)
    (λ j lt.
    let l : Lane = some_of lanes (omega arith) in
    let f : CloudFile = some_of files (omega arith) in
    let is : get_or files j f ≡ cloud_file s j v.path v.file = file_at s v.path v.file files j f e lt in
    get-lanes_in key lanes j d l (omega arith)
    ∙ begun_in s v key j (get_or lanes j l) user tagged number (subst (λ (g : CloudFile). IsBegun s.k g (get_or lanes j l)) is (each j f l (omega arith))))

-- ---- one lane alone

idle_in : (s : Shape) (v : FileVersion) (key : VersionKey) (lane : Lane) → key.user ≡ v.user → key.tag.0 ≡ tag s v.path → key.version ≡ v.number → IsIdle lane → lane_in key lane ≡ idle s v
unfolding in_batches
idle_in s v key lane user tagged number is =
    let mark : key.tag ≡ record { 0 = tag s v.path } = ap (λ (b : List ℕ). let t : Tag = record { 0 = b } in t) tagged in
    rw (is.recipe, is.items, is.wanted, is.stage, mark, user, number) refl

idle_inside : (lane : Lane) → IsIdle lane → IsLane lane
idle_inside lane is = (
  subst (AreIn lane.recalled.bytes) (sym is.wanted) (All-nil (IsInShares lane.recalled.bytes)),
  subst (λ (s : LaneStage). HasRecalledShares s lane.shares lane.recalled.bytes) (sym is.stage) tt,
)

not_same : (a b : ℕ) (t : Bool) → eqb a b ≡ t → a ≢ b → eqb a b ≡ false
not_same a b true e ne = absurd (ne (eqb-true a b e))
not_same a b false e ne = e

-- the lane at a place is at its beginning, or has nothing to bring
alone_at : (s : Shape) (c : ℕ) (f : CloudFile) (lanes : List Lane) (i : ℕ) (l : Lane) → IsAlone s c f lanes → i < s.n → ((i ≡ c) × IsBegun s.k f (get_or lanes i l)) ⊎ ((i ≢ c) × IsIdle (get_or lanes i l))
alone_at s c f lanes i l is lt = elim (cases_eq i c) [
  | inl same ↦ inl (same, subst (λ (m : ℕ). IsBegun s.k f (get_or lanes m l)) (sym same) (is.here l))
  | inr ne ↦ inr (ne, is.others i l lt ne)
]

pub are_alone : (s : Shape) (c : ℕ) (f : CloudFile) (lanes : List Lane) → IsAlone s c f lanes → AreLanes lanes
are_alone s c f lanes is = are_from lanes (λ i l lt. elim (alone_at s c f lanes i l is (let len = is.len in omega arith)) [
  | inl b ↦ begun_inside s.k f (get_or lanes i l) b.1
  | inr b ↦ idle_inside (get_or lanes i l) b.1
])

pub one_begun : (s : Shape) (v : FileVersion) (key : VersionKey) (c : ℕ) (f : CloudFile) (lanes : List Lane) → key.user ≡ v.user → key.tag.0 ≡ tag s v.path → key.version ≡ v.number
    → f ≡ cloud_file s c v.path v.file → IsAlone s c f lanes → lanes_in key lanes ≡ lane_begun s v c
one_begun s v key c f lanes user tagged number e is =
    let d : LaneView = idle s v in
    let len = is.len in
    fill_by_all (λ (j : ℕ). cond (eqb j c) (begun (work_of s v j)) (idle s v)) (lanes_in key lanes) s.n d (length-lanes_in key lanes ∙ len)
    (λ j lt.
    let l : Lane = some_of lanes (omega arith) in
    get-lanes_in key lanes j d l (omega arith)
    ∙ elim (alone_at s c f lanes j l is lt) [
      | inl b ↦
          begun_in s v key j (get_or lanes j l) user tagged number (subst (λ (g : CloudFile). IsBegun s.k g (get_or lanes j l)) (e ∙ ap (λ (m : ℕ). cloud_file s m v.path v.file) (sym b.0)) b.1)
          ∙ ap (λ (t : Bool). cond t (begun (work_of s v j)) (idle s v)) (sym (eq-eqb j c b.0))
      | inr b ↦ idle_in s v key (get_or lanes j l) user tagged number b.1 ∙ ap (λ (t : Bool). cond t (begun (work_of s v j)) (idle s v)) (sym (not_same j c (eqb j c) refl b.0))
    ])
