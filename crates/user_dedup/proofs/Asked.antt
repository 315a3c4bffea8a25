-- Content asks what reading it gives.
use Rattle.std.proofs.Common.{◌≡◌, ℕ, ◌+◌, List, ◌∷◌, ◌++◌, length, get_or, Result, Ok, Err, refl, sym, ap, ◌∙◌, subst, arith, ◌-◌, ◌≤◌}
use Rattle.std.specs.Int.{w32, to_be_bytes}
use Rattle.journal_start.specs.CdBase.Reading.{AreBytes}
use Rattle.journal_start.specs.CdBase.shape.Shape.{Shape}
use Rattle.std.proofs.lemmas.List.{drop_at, get_or-drop}
use Rattle.journal_start.specs.MessageFields.Keys.{key_bytes}
use Rattle.recipe.specs.declared.recipe.Recipe.{Recipe}
use Rattle.recipe.specs.Reading.{recipe_at, recipe_left, placed as recipe_placed}
use Rattle.recipe.proofs.Recipes.{recipe_law}
use Rattle.messages.specs.declared.request.Request.{Request}
use Rattle.messages.specs.declared.request.Request.TheVariants as requests
use Rattle.messages.specs.Requests.{request_bytes}
use Rattle.messages.specs.RequestReading.{request_at, request_left}
use Rattle.messages.proofs.RequestLaws.{request_law}
use Rattle.messages.specs.Parts.{placed}
use Rattle.user_dedup.specs.Requests.{HasRecipe, AsksOfStore, recipe_read, whole_read, asked_at}

abbrev read : Request → Result Request ℕ
read r = Ok r

ok_same : (a b : Request) → read a ≡ read b → a ≡ b
ok_same a b e = cc

-- the end of bytes is bytes
end_bytes : (content front rest : List ℕ) → content ≡ front ++ rest → AreBytes content → AreBytes rest
end_bytes content front rest e known i =
    let at : get_or rest i 0 ≡ get_or content (length front + i) 0 =
    ap (λ (l : List ℕ). get_or l i 0) (sym (drop_at front rest (length front) refl)) ∙ get_or-drop (length front) (front ++ rest) i 0 ∙ ap (λ (l : List ℕ). get_or l (length front + i) 0) (sym e) in
    rw at (known (length front + i))

-- the bytes of a Commit's recipe are bytes
abbrev RecipeBytes : Request → Type 0
RecipeBytes requests.Hello = Unit {0}
RecipeBytes (requests.Query user fps) = Unit {0}
RecipeBytes (requests.Put user shares) = Unit {0}
RecipeBytes (requests.Commit user tag version recipe) = AreBytes recipe
RecipeBytes (requests.GetRecipe user tag version) = Unit {0}
RecipeBytes (requests.GetShares user fps) = Unit {0}
RecipeBytes (requests.List user after) = Unit {0}
RecipeBytes (requests.Delete user tag version) = Unit {0}

recipe_bytes : (content : List ℕ) (r : Request) → AreBytes content → content ≡ request_bytes r → RecipeBytes r
recipe_bytes content requests.Hello known e = tt
recipe_bytes content (requests.Query user fps) known e = tt
recipe_bytes content (requests.Put user shares) known e = tt
recipe_bytes content (requests.Commit user tag version recipe) known e = end_bytes content (4 ∷ (to_be_bytes w32 user.0 ++ key_bytes (tag, version))) recipe e known
recipe_bytes content (requests.GetRecipe user tag version) known e = tt
recipe_bytes content (requests.GetShares user fps) known e = tt
recipe_bytes content (requests.List user after) known e = tt
recipe_bytes content (requests.Delete user tag version) known e = tt

commit_read : (request r : Request) (found : Result Recipe ℕ) → recipe_read request found ≡ Ok r → (request ≡ r) × ((recipe : Recipe) × (found ≡ Ok recipe))
commit_read request r (Ok recipe) e = (ok_same request r e, (recipe, refl))
commit_read request r (Err at) e = absurd (let f : Err (45 + at) ≡ read r = e in cc)

whole_from : (shape : Shape) (q r : Request) → RecipeBytes q → whole_read shape (Ok q) ≡ Ok r → (q ≡ r) × HasRecipe shape q
whole_from shape requests.Hello r known e = (ok_same requests.Hello r e, tt)
whole_from shape (requests.Query user fps) r known e = (ok_same (requests.Query user fps) r e, tt)
whole_from shape (requests.Put user shares) r known e = (ok_same (requests.Put user shares) r e, tt)
whole_from shape (requests.Commit user tag version recipe) r known e =
    let c = commit_read (requests.Commit user tag version recipe) r (recipe_at shape recipe) e in
    (c.0, (c.1.0, (recipe_law shape recipe c.1.0 known).0 c.1.1))
whole_from shape (requests.GetRecipe user tag version) r known e = (ok_same (requests.GetRecipe user tag version) r e, tt)
whole_from shape (requests.GetShares user fps) r known e = (ok_same (requests.GetShares user fps) r e, tt)
whole_from shape (requests.List user after) r known e = (ok_same (requests.List user after) r e, tt)
whole_from shape (requests.Delete user tag version) r known e = (ok_same (requests.Delete user tag version) r e, tt)

whole_has : (shape : Shape) (q : Request) → RecipeBytes q → HasRecipe shape q → whole_read shape (Ok q) ≡ Ok q
whole_has shape requests.Hello known has = refl
whole_has shape (requests.Query user fps) known has = refl
whole_has shape (requests.Put user shares) known has = refl
whole_has shape (requests.Commit user tag version recipe) known has =
    ap (recipe_read (requests.Commit user tag version recipe)) ((recipe_law shape recipe has.0 known).1 has.1)
whole_has shape (requests.GetRecipe user tag version) known has = refl
whole_has shape (requests.GetShares user fps) known has = refl
whole_has shape (requests.List user after) known has = refl
whole_has shape (requests.Delete user tag version) known has = refl

asked_from : (shape : Shape) (content : List ℕ) (r : Request) (found : Result Request ℕ) → request_at content ≡ found → AreBytes content → whole_read shape found ≡ Ok r → AsksOfStore shape content r
asked_from shape content r (Err at) is known e = absurd (let f : Err at ≡ read r = e in cc)
asked_from shape content r (Ok q) is known e =
    let asked = (request_law content q known).0 is in
    let w = whole_from shape q r (recipe_bytes content q known asked.spelled) e in
    subst (AsksOfStore shape content) w.0 (record { asked = asked; recipe = w.1 })

pub asked_law : (shape : Shape) (content : List ℕ) (r : Request) → AreBytes content → (asked_at shape content ≡ Ok r → AsksOfStore shape content r) × (AsksOfStore shape content r → asked_at shape content ≡ Ok r)
asked_law shape content r known = (
  asked_from shape content r (request_at content) refl known,
  λ is. ap (whole_read shape) ((request_law content r known).1 is.asked) ∙ whole_has shape r (recipe_bytes content r known is.asked.spelled) is.recipe,
)

-- ---- where bytes that are no request end

abbrev pub bad : {A : Type 0} → ℕ → Result A ℕ
bad at = Err at

pub recipe_within : (shape : Shape) (bytes : List ℕ) (at : ℕ) → recipe_at shape bytes ≡ Err at → at ≤ length bytes
unfolding recipe_at
recipe_within shape bytes at e = go (recipe_left shape bytes) e
  where
    go : (r : Result Recipe ℕ) → recipe_placed bytes r ≡ Err at → at ≤ length bytes
    go (Ok recipe) e = absurd (let f : Ok recipe ≡ bad at = e in cc)
    go (Err left) e = let f : bad {A = Recipe} (length bytes - left) ≡ bad at = e in let same : length bytes - left ≡ at = cc in omega arith

pub request_within : (bytes : List ℕ) (at : ℕ) → request_at bytes ≡ Err at → at ≤ length bytes
unfolding request_at
request_within bytes at e = go (request_left bytes) e
  where
    go : (r : Result Request ℕ) → placed bytes r ≡ Err at → at ≤ length bytes
    go (Ok request) e = absurd (let f : Ok request ≡ bad at = e in cc)
    go (Err left) e = let f : bad {A = Request} (length bytes - left) ≡ bad at = e in let same : length bytes - left ≡ at = cc in omega arith

pub read_err : (request : Request) (found : Result Recipe ℕ) (at : ℕ) → recipe_read request found ≡ Err at → (p : ℕ) × (found ≡ Err p) × (at ≡ 45 + p)
read_err request (Ok recipe) at e = absurd (let f : Ok request ≡ bad at = e in cc)
read_err request (Err p) at e = (p, refl, let f : bad {A = Request} (45 + p) ≡ bad at = e in let same : 45 + p ≡ at = cc in sym same)
