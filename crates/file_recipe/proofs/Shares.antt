-- Shares that are given to the clouds one secret after the other.
use Rattle.std.proofs.Common.{◌≡◌, ℕ, zero, suc, ◌+◌, ◌-◌, ◌*◌, ◌<◌, ◌≤◌, List, [], ◌∷◌, ◌++◌, length, map, take, drop, get_or, set, slice_range, refl, sym, ap, ◌∙◌, subst, arith, append_assoc, drop-cons, add-one, inl, inr}
use Rattle.std.specs.List.{flat_map, range_with_len}
use Rattle.std.proofs.Math.Nat.{mul-le-mul_right}
use Rattle.std.proofs.lemmas.Bool.{cases_lt}
use Rattle.std.proofs.lemmas.List.{ext_get_or, append-nil, drop_all, take_at, take-append-drop, get_or_default, map-append, flat_map_more, get_or-set_same, get_or-set_other}
use Rattle.std.proofs.lemmas.List.FromFn.{get_or-map-range_with_len, map-range_with_len_more, length-map-range_with_len}
use Rattle.rabin_chunker.specs.CdBase.shape.Shape.{Shape}
use Rattle.caont_rs.specs.Package.{share}
use Rattle.caont_rs.specs.ReedSolomon.Dispersal.{row}
use Rattle.recipe.specs.declared.items.Item.{Item}
use Rattle.file_recipe.specs.FileRecipe.{secrets, item_of, shares_at}
use Rattle.file_recipe.specs.Clouds.{cloud_file, files_from}
use Rattle.file_recipe.specs.Progress.{AreEndsOfParts, parts_behind, unshared, with_share, with_secrets, EachWithShare, EachWithSecrets}
use Rattle.file_recipe.specs.declared.cloud_file.CloudFile.{CloudFile}

-- ---- one secret's shares, cloud after cloud

-- those below place c have theirs
pub record GivenBelow (first len width : ℕ) (shares : List ℕ) (c : ℕ) (before now : List CloudFile) : Type 0 where
  pub given : (j : ℕ) (d : CloudFile) → j < c → get_or now j d ≡ with_share (get_or before j d) len (row width (first + j) shares)
  pub left : (j : ℕ) (d : CloudFile) → c ≤ j → get_or now j d ≡ get_or before j d

pub given_none : (first len width : ℕ) (shares : List ℕ) (before : List CloudFile) → GivenBelow first len width shares 0 before before
given_none first len width shares before = record { given = λ j d lt. absurd (omega arith); left = λ j d le. refl }

pub given_more : (first len width : ℕ) (shares bytes : List ℕ) (c : ℕ) (before now : List CloudFile) (x new : CloudFile) → GivenBelow first len width shares c before now → c < length now → x ≡ get_or now c x → bytes ≡ row width (first + c) shares → new ≡ with_share x len bytes
    → GivenBelow first len width shares (c + 1) before (set now c new)
given_more first len width shares bytes c before now x new h lt at is e = record {
  given = λ j d below. elim (cases_lt j c) [
    | inl l ↦ get_or-set_other now c j new d (λ k. omega arith) ∙ h.given j d l
    | inr le ↦
        let same : j ≡ c = omega arith in
        let one : get_or (set now c new) c d ≡ with_share (get_or before c d) len (row width (first + c) shares) =
        get_or-set_same now c new d lt ∙ e ∙ ap (λ (b : List ℕ). with_share x len b) is
        ∙ ap (λ (f : CloudFile). with_share f len (row width (first + c) shares)) (at ∙ get_or_default now c x d lt ∙ h.left c d (omega arith)) in
        subst (λ (i : ℕ). get_or (set now c new) i d ≡ with_share (get_or before i d) len (row width (first + i) shares)) (sym same) one
  ];
  left = λ j d le. get_or-set_other now c j new d (λ k. omega arith) ∙ h.left j d (omega arith);
}

pub given_all : (first len width : ℕ) (shares : List ℕ) (c : ℕ) (before now : List CloudFile) → length before ≤ c → GivenBelow first len width shares c before now → EachWithShare first len width shares before now
given_all first len width shares c before now le h j d lt = h.given j d (omega arith)

pub row_within : (width c n total : ℕ) → c < n → total ≡ n * width → c * width + width ≤ total
row_within width c n total lt e = let le : (c + 1) * width ≤ n * width = mul-le-mul_right width (omega arith) in let next : (c + 1) * width ≡ c * width + width = grind arith in omega arith

pub row_is : (width c : ℕ) (shares : List ℕ) → take (c * width + width - c * width) (drop (c * width) shares) ≡ row width c shares
row_is width c shares = ap (λ (m : ℕ). take m (drop (c * width) shares)) (omega arith)

-- ---- secret after secret

one_secret : (s : Shape) (j : ℕ) (f : CloudFile) (ts : List (List ℕ)) (secret : List ℕ) → with_share (with_secrets s j f ts) (length secret) (share s j secret) ≡ with_secrets s j f (ts ++ secret ∷ [])
one_secret s j f ts secret =
    let items : (f.recipe.items ++ map (item_of s j) ts) ++ item_of s j secret ∷ [] ≡ f.recipe.items ++ map (item_of s j) (ts ++ secret ∷ []) =
    append_assoc f.recipe.items (map (item_of s j) ts) (item_of s j secret ∷ []) ∙ ap (λ (is : List Item). f.recipe.items ++ is) (sym (map-append (item_of s j) ts (secret ∷ []))) in
    let shares : (f.shares ++ flat_map (share s j) ts) ++ share s j secret ≡ f.shares ++ flat_map (share s j) (ts ++ secret ∷ []) = flat_map_more (share s j) f.shares ts secret in
    rw (items, shares) refl

no_secrets : (s : Shape) (j : ℕ) (f : CloudFile) → with_secrets s j f [] ≡ f
no_secrets s j f = rw (append-nil f.recipe.items, append-nil f.shares) refl

-- where the reader is: the secrets before are given, and those from here on are the rest
pub record Along (s : Shape) (first base : ℕ) (part es : List ℕ) (i start : ℕ) (before now : List CloudFile) : Type 0 where
  pub ends : AreEndsOfParts (base + length part) start (drop i es)
  pub after : base ≤ start
  pub rest : drop i (parts_behind base part base es) ≡ parts_behind base part start (drop i es)
  pub each : EachWithSecrets s first (take i (parts_behind base part base es)) before now

pub along_none : (s : Shape) (first base : ℕ) (part es : List ℕ) (before : List CloudFile) → AreEndsOfParts (base + length part) base es → Along s first base part es 0 base before before
along_none s first base part es before ends = record {
  ends = ends;
  after = omega arith;
  rest = refl;
  each = λ j d lt. sym (no_secrets s (first + j) (get_or before j d));
}

pub here : (es : List ℕ) (i : ℕ) → i < length es → drop i es ≡ get_or es i 0 ∷ drop (i + 1) es
here es i lt = rw (add-one, drop-cons es i 0 lt) refl

-- the next end, and those behind it
record IsNextEnd (base : ℕ) (part es : List ℕ) (i start : ℕ) : Type 0 where
  pub base_first : base ≤ start
  pub after : start < get_or es i 0
  pub few : get_or es i 0 ≤ start + 16384
  pub within : get_or es i 0 ≤ base + length part
  pub more : AreEndsOfParts (base + length part) (get_or es i 0) (drop (i + 1) es)

next_end : (s : Shape) (first base : ℕ) (part es : List ℕ) (i start : ℕ) (before now : List CloudFile) → Along s first base part es i start before now → i < length es → IsNextEnd base part es i start
next_end s first base part es i start before now h lt =
    let all = subst (λ (xs : List ℕ). AreEndsOfParts (base + length part) start xs) (here es i lt) h.ends in
    record { base_first = h.after; after = all.0; few = all.1; within = all.2; more = all.3 }

first_is : {A : Type 0} (x y : A) (xs ys : List A) → x ∷ xs ≡ y ∷ ys → x ≡ y
first_is x y xs ys e = cc

taken : (xs ys : List (List ℕ)) (i : ℕ) (y : List ℕ) → drop i xs ≡ y ∷ ys → (take (suc i) xs ≡ take i xs ++ y ∷ []) × (drop (suc i) xs ≡ ys)
taken [] ys zero y e = absurd cc
taken [] ys (suc i) y e = absurd cc
taken (x ∷ xs) ys zero y e = (ap (λ (z : List ℕ). z ∷ []) (first_is x y xs ys e), cc)
taken (x ∷ xs) ys (suc i) y e = let t = taken xs ys i y e in (ap (λ (zs : List (List ℕ)). x ∷ zs) t.0, t.1)

one_taken : (xs ys : List (List ℕ)) (i : ℕ) (y : List ℕ) → drop i xs ≡ y ∷ ys → (take (i + 1) xs ≡ take i xs ++ y ∷ []) × (drop (i + 1) xs ≡ ys)
one_taken xs ys i y e = let next : suc i ≡ i + 1 = omega arith in subst (λ (m : ℕ). (take m xs ≡ take i xs ++ y ∷ []) × (drop m xs ≡ ys)) next (taken xs ys i y e)

pub along_more : (s : Shape) (first base : ℕ) (part es : List ℕ) (i start len width : ℕ) (shares : List ℕ) (before mid now : List CloudFile) → Along s first base part es i start before mid → i < length es → length mid ≡ length before → first + length before ≤ s.n
    → len ≡ length (slice_range part (start - base) (get_or es i 0 - base)) → ((j : ℕ) → j < s.n → row width j shares ≡ share s j (slice_range part (start - base) (get_or es i 0 - base)))
    → EachWithShare first len width shares mid now → Along s first base part es (i + 1) (get_or es i 0) before now
along_more s first base part es i start len width shares before mid now h lt clouds within is rows step =
    let all : List (List ℕ) = parts_behind base part base es in
    let secret : List ℕ = slice_range part (start - base) (get_or es i 0 - base) in
    let next = next_end s first base part es i start before mid h lt in
    let t = one_taken all (parts_behind base part (get_or es i 0) (drop (i + 1) es)) i secret (h.rest ∙ ap (parts_behind base part start) (here es i lt)) in
    record {
      ends = next.more;
      after = omega (arith, next.base_first, next.after);
      rest = t.1;
      each = λ j d below.
          let f : CloudFile = get_or before j d in
          step j d (omega arith)
          ∙ ap (λ (g : CloudFile). with_share g len (row width (first + j) shares)) (h.each j d below)
          ∙ ap (λ (n : ℕ). with_share (with_secrets s (first + j) f (take i all)) n (row width (first + j) shares)) is
          ∙ ap (λ (b : List ℕ). with_share (with_secrets s (first + j) f (take i all)) (length secret) b) (rows (first + j) (omega arith))
          ∙ one_secret s (first + j) f (take i all) secret
          ∙ ap (with_secrets s (first + j) f) (sym t.0);
    }

pub along_all : (s : Shape) (first base : ℕ) (part es : List ℕ) (i start : ℕ) (before now : List CloudFile) → Along s first base part es i start before now → length es ≤ i → EachWithSecrets s first (parts_behind base part base es) before now
along_all s first base part es i start before now h le =
    let all : List (List ℕ) = parts_behind base part base es in
    let none : drop i all ≡ [] = h.rest ∙ ap (parts_behind base part start) (drop_all i es le) in
    let taken_all : take i all ≡ all = sym (append-nil (take i all)) ∙ ap (λ (xs : List (List ℕ)). take i all ++ xs) (sym none) ∙ take-append-drop i all in
    subst (λ (ts : List (List ℕ)). EachWithSecrets s first ts before now) taken_all h.each

-- ---- the clouds from the first one on

pub length-unshared : (s : Shape) (path file : List ℕ) (first clouds : ℕ) → length (map (λ j. unshared s j path file) (range_with_len first clouds)) ≡ clouds
length-unshared s path file first clouds = length-map-range_with_len (λ (j : ℕ). unshared s j path file) first clouds

pub all_dispersed : (s : Shape) (path file : List ℕ) (first clouds : ℕ) (before now : List CloudFile) → before ≡ map (λ j. unshared s j path file) (range_with_len first clouds) → length now ≡ clouds → EachWithSecrets s first (secrets file) before now
    → now ≡ files_from s first clouds path file
unfolding shares_at
all_dispersed s path file first clouds before now e len each =
    let d : CloudFile = unshared s 0 path file in
    let size : length before ≡ clouds = ap (λ (xs : List CloudFile). length xs) e ∙ length-unshared s path file first clouds in
    ext_get_or d now (files_from s first clouds path file) (len ∙ sym (length-map-range_with_len (λ (j : ℕ). cloud_file s j path file) first clouds)) (λ j lt.
    each j d (let below : j < clouds = omega arith in omega arith)
    ∙ ap (λ (f : CloudFile). with_secrets s (first + j) f (secrets file)) (ap (λ (xs : List CloudFile). get_or xs j d) e ∙ get_or-map-range_with_len (λ (i : ℕ). unshared s i path file) first clouds j (first + j) d (omega arith) (omega arith))
    ∙ sym (get_or-map-range_with_len (λ (i : ℕ). cloud_file s i path file) first clouds j (first + j) d (omega arith) (omega arith)))

-- ---- what stands there before the first secret

pub one_unshared : (s : Shape) (path file : List ℕ) (first c : ℕ) (before : List CloudFile) (new : CloudFile) → before ≡ map (λ j. unshared s j path file) (range_with_len first c) → new ≡ unshared s (first + c) path file
    → before ++ new ∷ [] ≡ map (λ j. unshared s j path file) (range_with_len first (c + 1))
one_unshared s path file first c before new e made =
    ap (λ (xs : List CloudFile). xs ++ new ∷ []) e ∙ ap (λ (x : CloudFile). map (λ j. unshared s j path file) (range_with_len first c) ++ x ∷ []) made
    ∙ sym (map-range_with_len_more (λ (j : ℕ). unshared s j path file) first c (first + c) (omega arith))

-- what a list holds that was lent whole
pub written_back : (new old : List CloudFile) (len : ℕ) → length new ≡ len → take len (new ++ drop (length new) old) ≡ new
written_back new old len e = take_at new (drop (length new) old) len e
