-- The path that name shares give.
use Rattle.std.proofs.Common.{◌≡◌, ◌≢◌, ℕ, suc, ◌+◌, ◌-◌, ◌*◌, ◌≤◌, Bool, true, false, cond, not, ◌==◌, nat_lt, List, [], ◌∷◌, length, take, drop, position, Option, Some, None, Result, Ok, Err, refl, sym, ap, ◌∙◌, subst, arith, length-append, length-drop, nat_eq}
use Rattle.std.specs.Prelude.{All, OnOk}
use Rattle.std.specs.List.{flat_map, position_or_len}
use Rattle.std.specs.Cmp.Lexicographic.{pointwise}
use Rattle.std.proofs.lemmas.Bool.{ltb-false, eqb-true, eq-eqb}
use Rattle.std.proofs.lemmas.List.{length-take}
use Rattle.std.proofs.lemmas.List.Concat.{flat_map-cons}
use Rattle.std.proofs.lemmas.List.Elements.{All-head, All-tail, All-cons, All-weaker}
use Rattle.std.proofs.lemmas.List.Sums.{prefix_len_passes}
use Rattle.std.proofs.lemmas.Simd.{length-zip2}
use Rattle.lane_steps.specs.CdBase.Lengths.{share_len_of}
use Rattle.lane_steps.specs.CdBase.shape.Shape.{Shape}
use Rattle.sha2.specs.Sha256.{sha256}
use Rattle.sha2.proofs.Facts256.{length-sha256}
use Rattle.aes256.specs.Mask.{mask}
use Rattle.aes256.proofs.MaskLaws.{length-mask}
use Rattle.lane_steps.specs.CaontRs.Opening.{package_at, body_in, key_in, text_in, fp, without_pad, opened_package, opened}
use Rattle.lane_steps.specs.CaontRs.opening.RecoverErr.{RecoverErr}
use Rattle.lane_steps.specs.CaontRs.opening.RecoverErr.TheVariants.{BadSecret}
use Rattle.lane_steps.proofs.CaontRs.Opened.{pad_fits}
use Rattle.lane_steps.proofs.CaontRs.Openings.{length-package_at}
use Rattle.lane_steps.specs.Recipe.Spelling.{Fits}
use Rattle.lane_steps.specs.Recipe.recipe.Recipe.{Recipe}
use Rattle.lane_steps.specs.CdBase.ids.Tag.{Tag}
use Rattle.lane_steps.specs.CdBase.ids.Version.{Version}
use Rattle.kept_files.specs.RestoreJob.Restored.{Unrestored, difference, differing}
use Rattle.rebuild.specs.Found.{name_judged}
use Rattle.rebuild.specs.Steps.{judged_by, unless_differs}
use Rattle.kept_files.proofs.RestoreJob.Bringing.{none_differs}

-- ---- no zero

no_more : (n m : ℕ) → cond (nat_lt n m) (Some n) None ≡ None → m ≤ n
no_more n m e = by_test (nat_lt n m) refl e
  where
    by_test : (b : Bool) → nat_lt n m ≡ b → cond b (Some n) None ≡ None → m ≤ n
    by_test true is e = absurd (let f : Some n ≡ None = e in cc)
    by_test false is e = ltb-false n m is

pub no_zero_in : (path : List ℕ) → position (λ byte. byte == 0) path ≡ None → All (λ byte. byte ≢ 0) path
no_zero_in path none k d lt =
    let le : length path ≤ position_or_len (λ byte. byte == 0) path = no_more (position_or_len (λ byte. byte == 0) path) (length path) none in
    let passes = prefix_len_passes (λ (byte : ℕ). not (byte == 0)) path k d (omega arith) in
    λ zero. zero_passes _ zero passes
  where
    zero_passes : (x : ℕ) → x ≡ 0 → not (x == 0) ≡ true → ⊥
    zero_passes x is e = let f : not (0 == 0) ≡ true = subst (λ (y : ℕ). not (y == 0) ≡ true) is e in cc

-- ---- the length of what is opened

length-body : (p : List ℕ) → length (body_in p) ≡ length p - 32
length-body p = length-take (length p - 32) p ∙ omega arith

length-key : (p : List ℕ) → 32 ≤ length p → length (key_in p) ≡ 32
length-key p long =
    let tail : length (drop (length p - 32) p) ≡ 32 = length-drop (length p - 32) p ∙ omega arith in
    length-zip2 _ (drop (length p - 32) p) (sha256 (body_in p)) (tail ∙ sym (length-sha256 (body_in p))) ∙ tail

length-text : (p : List ℕ) → 32 ≤ length p → length (text_in p) ≡ length p - 32
length-text p long = length-zip2 _ (body_in p) (mask (key_in p) (length (body_in p))) (sym (length-mask (key_in p) (length (body_in p)) (length-key p long))) ∙ length-body p

abbrev good : List ℕ → Result (List ℕ) RecoverErr
good text = Ok text

ok_text : (a b : List ℕ) → good a ≡ good b → a ≡ b
ok_text a b e = cc

pad_left : (len : ℕ) (text bytes : List ℕ) (o : Option ℕ) → without_pad len text o ≡ Ok bytes → bytes ≡ take len text
pad_left len text bytes None e = sym (ok_text (take len text) bytes e)
pad_left len text bytes (Some i) e = absurd cc

by_hash : (len : ℕ) (h text bytes : List ℕ) (b : Bool)
    → cond b (without_pad len text (position (λ byte. not (byte == 0)) (drop len text))) (Err (BadSecret (fp h) (fp (sha256 text)))) ≡ Ok bytes → bytes ≡ take len text
by_hash len h text bytes true e = pad_left len text bytes (position (λ byte. not (byte == 0)) (drop len text)) e
by_hash len h text bytes false e = absurd cc

package_text : (len : ℕ) (p bytes : List ℕ) → opened_package len p ≡ Ok bytes → bytes ≡ take len (text_in p)
unfolding opened_package
package_text len p bytes e = by_hash len (key_in p) (text_in p) bytes (pointwise nat_eq (key_in p) (sha256 (text_in p))) e

opened_is : (shape : Shape) (len : ℕ) (points shares bytes : List ℕ) → opened shape len points shares ≡ Ok bytes → bytes ≡ take len (text_in (package_at shape points shares))
unfolding opened
opened_is shape len points shares bytes e = package_text len (package_at shape points shares) bytes e

-- no more than was named
pub opened_most : (shape : Shape) (len : ℕ) (points shares bytes : List ℕ) → opened shape len points shares ≡ Ok bytes → length bytes ≤ len
opened_most shape len points shares bytes e =
    let is = ap length (opened_is shape len points shares bytes e) in
    omega (arith, length-take len (text_in (package_at shape points shares)))

-- and so many of whole shares
pub opened_long : (shape : Shape) (len : ℕ) (points shares bytes : List ℕ) → length shares ≡ shape.k * share_len_of shape.k len → opened shape len points shares ≡ Ok bytes → length bytes ≡ len
opened_long shape len points shares bytes whole e =
    let p : List ℕ = package_at shape points shares in
    let room = pad_fits shape.k len (omega (arith, shape.several)) in
    let size : length p ≡ length shares = length-package_at shape points shares in
    let text = length-text p (omega arith) in
    ap length (opened_is shape len points shares bytes e) ∙ length-take len (text_in p) ∙ omega arith

-- ---- the shares of a name

abbrev pub name_share : Recipe → List ℕ
name_share r = r.name_share

name_lens : (b : Bool) (rest : Option ℕ) → cond (not b) (Some 0) rest ≡ None → b ≡ true
name_lens true rest e = refl
name_lens false rest e = absurd (let f : Some 0 ≡ None = e in cc)

-- recipes that don't differ name paths of one length
same_name : (a b : Recipe) → difference a b ≡ None → (a.name_len == b.name_len) ≡ true
same_name a b e = name_lens (a.name_len == b.name_len) _ e

shares_long : (shape : Shape) (len : ℕ) (recipes : List Recipe) → All (Fits shape) recipes → All (λ (r : Recipe). (len == r.name_len) ≡ true) recipes
    → length (flat_map name_share recipes) ≡ length recipes * share_len_of shape.k len
shares_long shape len [] fits same = omega arith
shares_long shape len (r ∷ recipes) fits same =
    let rest = shares_long shape len recipes (All-tail (Fits shape) r recipes fits) (All-tail (λ (x : Recipe). (len == x.name_len) ≡ true) r recipes same) in
    let here : length r.name_share ≡ share_len_of shape.k r.name_len = (All-head (Fits shape) r recipes fits).name_share in
    let eq : len ≡ r.name_len = eqb-true len r.name_len (All-head (λ (x : Recipe). (len == x.name_len) ≡ true) r recipes same) in
    let w : length r.name_share ≡ share_len_of shape.k len = here ∙ ap (share_len_of shape.k) (sym eq) in
    let next : suc (length recipes) * share_len_of shape.k len ≡ share_len_of shape.k len + length recipes * share_len_of shape.k len = omega arith in
    ap length (flat_map-cons name_share r recipes) ∙ length-append r.name_share (flat_map name_share recipes) ∙ omega arith

-- of recipes that agree with the first one
pub names_whole : (shape : Shape) (cloud : ℕ) (r : Recipe) (clouds : List ℕ) (recipes : List Recipe) → All (Fits shape) (r ∷ recipes) → length clouds ≡ length recipes → suc (length recipes) ≡ shape.k → differing cloud r clouds recipes ≡ None
    → length (flat_map name_share (r ∷ recipes)) ≡ shape.k * share_len_of shape.k r.name_len
names_whole shape cloud r clouds recipes fits pairs count agree =
    let others = none_differs cloud r clouds recipes pairs agree in
    let same = All-weaker (λ (x : Recipe). difference r x ≡ None) (λ (x : Recipe). (r.name_len == x.name_len) ≡ true) (λ x e. same_name r x e) recipes others in
    shares_long shape r.name_len (r ∷ recipes) fits (All-cons (λ (x : Recipe). (r.name_len == x.name_len) ≡ true) r recipes (eq-eqb r.name_len r.name_len refl) same)
    ∙ ap (λ (n : ℕ). n * share_len_of shape.k r.name_len) count

pub on_any : {A E P : Type 0} (r : Result A E) → P → OnOk r P
on_any (Ok x) p = p
on_any (Err e) p = tt

-- recipes that agree with the first one name what their shares give
pub judged_is : (shape : Shape) (key : Tag × Version) (clouds cs : List ℕ) (c : ℕ) (recipes rs : List Recipe) (r : Recipe) → clouds ≡ c ∷ cs → recipes ≡ r ∷ rs → differing c r cs rs ≡ None
    → judged_by shape key clouds recipes ≡ name_judged shape key (opened shape r.name_len clouds (flat_map name_share recipes))
judged_is shape key clouds cs c recipes rs r cl re agree =
    ap (λ (l : List ℕ). judged_by shape key l recipes) cl ∙ ap (λ (l : List Recipe). judged_by shape key (c ∷ cs) l) re
    ∙ ap (λ (o : Option Unrestored). unless_differs o (name_judged shape key (opened shape r.name_len (c ∷ cs) (flat_map name_share (r ∷ rs))))) agree
    ∙ (λ i. name_judged shape key (opened shape r.name_len (sym cl i) (flat_map name_share (sym re i))))
