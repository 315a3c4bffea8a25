-- Bodies of format 1 are read as they are spelled, and no other bytes are read.
use Rattle.std.proofs.Common.{◌≡◌, ℕ, zero, suc, ◌-◌, ◌^◌, ◌<◌, ◌≤◌, eqb, cond, true, List, [], ◌∷◌, ◌++◌, length, Result, Ok, Err, IsTrue, refl, sym, ap, subst, ◌∙◌, arith, inl, inr, eqb-true}
use Rattle.std.specs.Prelude.{All}
use Rattle.std.specs.Int.{w32, w64, to_be_bytes}
use Rattle.std.proofs.lemmas.Bool.{leb-true, le-leb}
use Rattle.std.proofs.lemmas.List.{append-nil, length-append}
use Rattle.std.proofs.lemmas.List.Elements.{All-head, All-tail}
use Rattle.message_fields.specs.Grammar.Readers.{◌>>=◌, ◌▷◌}
use Rattle.message_fields.specs.Grammar.Fields.{number_at, bytes_at, checked}
use Rattle.message_fields.proofs.Grammar.Laws.{bind_ok, ok_is, err_is, lawful_then}
use Rattle.message_fields.proofs.Grammar.FieldLaws.{IsBytes, Anything, LawfulBytes, lawful_bytes}
use Rattle.message_fields.specs.Parts.{made}
use Rattle.message_fields.proofs.PartLaws.{bytes_tail, lawful_kept, lawful_u32, lawful_u64, picked}
use Rattle.record_body.specs.declared.body.PutItem.{PutItem}
use Rattle.record_body.specs.declared.body.CommitBody.{CommitBody}
use Rattle.record_body.specs.declared.body.BodyErr.{BodyErr}
use Rattle.record_body.specs.declared.body.BodyErr.TheVariants as errors
use Rattle.record_body.specs.FirstSpelling.{FirstBody, Put, Commit, body_bytes, FitsFirstBody, FitsCommit, IsFirstBody}
use Rattle.record_body.specs.FirstReading.{items_at, put_at, is_recipe_len, make_commit, commit_at, fields_at, front_at, judged, body_at}
use Rattle.record_body.proofs.FirstItemLaws.{lawful_items, items_bytes, AreItems}

-- each of them is below 256, so they are bytes
pub all_bytes : (bytes : List ℕ) → All (λ (x : ℕ). x < 256) bytes → IsBytes bytes
all_bytes [] all i = omega arith
all_bytes (b ∷ bytes) all zero = All-head (λ (x : ℕ). x < 256) b bytes all
all_bytes (b ∷ bytes) all (suc i) = all_bytes bytes (All-tail (λ (x : ℕ). x < 256) b bytes all) i

-- ---- the fields of each kind

abbrev Took : ℕ → List ℕ → FirstBody → List ℕ → Type 0
Took kind bytes b rest = FitsFirstBody b × (kind ∷ bytes ≡ body_bytes b ++ rest)

-- bytes that a kind's reader takes are its body
kind_takes : {A : Type 0} {f : List ℕ → Result (A × List ℕ) ℕ} {spell : A → List ℕ} {Fits : A → Type 0} → LawfulBytes f spell Fits
    → (make : A → FirstBody) (number kind : ℕ) → ((x : A) → Fits x → FitsFirstBody (make x) × (number ∷ spell x ≡ body_bytes (make x)))
    → (bytes : List ℕ) (b : FirstBody) (rest : List ℕ) → IsBytes bytes → eqb kind number ≡ true → made make f bytes ≡ Ok (b, rest) → Took kind bytes b rest
kind_takes {A} {f} {spell} laws make number kind there bytes b rest known is e =
    let a = bind_ok (f bytes) (λ x. Ok (make x.0, x.1)) (b, rest) e in
    let t = laws.takes bytes a.0.0 a.0.1 known a.1 in
    let h = there a.0.0 t.1 in
    let spelled : kind ∷ bytes ≡ body_bytes (make a.0.0) ++ a.0.1 =
    ap (λ (k : ℕ). k ∷ bytes) (eqb-true kind number is) ∙ ap (λ (x : List ℕ). number ∷ x) t.0.parts ∙ ap (λ (x : List ℕ). x ++ a.0.1) h.1 in
    let one : FirstBody × List ℕ = (make a.0.0, a.0.1) in
    subst (λ (p : FirstBody × List ℕ). Took kind bytes p.0 p.1) (ok_is one (b, rest) a.2) (h.0, spelled)

abbrev pub make_put : ℕ × List PutItem → FirstBody
make_put x = Put (record { 0 = x.0 }) x.1

put_laws : LawfulBytes (number_at w32 ▷ items_at) (λ x. to_be_bytes w32 x.0 ++ items_bytes x.1) (λ x. (x.0 < 2 ^ 32) × AreItems x.1)
put_laws = lawful_then IsBytes Anything lawful_u32 lawful_items

abbrev pub CommitFields : Type 0
CommitFields = ℕ × (List ℕ × (ℕ × (ℕ × (ℕ × List ℕ))))

abbrev pub spell_commit : CommitFields → List ℕ
spell_commit x = to_be_bytes w32 x.0 ++ (x.1.0 ++ (to_be_bytes w64 x.1.1.0 ++ (to_be_bytes w64 x.1.1.1.0 ++ (to_be_bytes w32 x.1.1.1.1.0 ++ x.1.1.1.1.1))))

abbrev pub FitsFields : CommitFields → Type 0
FitsFields x = (x.0 < 2 ^ 32) × ((length x.1.0 ≡ 32) × ((x.1.1.0 < 2 ^ 64) × ((x.1.1.1.0 < 2 ^ 64) × (((x.1.1.1.1.0 < 2 ^ 32) × IsTrue (is_recipe_len x.1.1.1.1.0)) × (length x.1.1.1.1.1 ≡ 32)))))

abbrev pub read_commit : List ℕ → Result (CommitFields × List ℕ) ℕ
read_commit = number_at w32 ▷ (bytes_at 32 ▷ (number_at w64 ▷ (number_at w64 ▷ (checked is_recipe_len (number_at w32) ▷ bytes_at 32))))

commit_laws : LawfulBytes read_commit spell_commit FitsFields
commit_laws =
    lawful_then IsBytes Anything lawful_u32 (lawful_then IsBytes Anything (lawful_bytes 32) (lawful_then IsBytes Anything lawful_u64 (lawful_then IsBytes Anything lawful_u64
    (lawful_then IsBytes Anything (lawful_kept is_recipe_len lawful_u32) (lawful_bytes 32)))))

abbrev pub commit_of : CommitFields → FirstBody
commit_of x = Commit (make_commit x)

commit_there : (x : CommitFields) → FitsFields x → FitsFirstBody (commit_of x) × (2 ∷ spell_commit x ≡ body_bytes (commit_of x))
commit_there x fits =
    let some : 1 ≤ x.1.1.1.1.0 = leb-true 1 x.1.1.1.1.0 fits.1.1.1.1.0.1 in
    (record { user = fits.0; tag = fits.1.0; version = fits.1.1.0; from = fits.1.1.1.0; some = some; few = fits.1.1.1.1.0.0; fp = fits.1.1.1.1.1 }, refl)

abbrev pub fields_of : CommitBody → CommitFields
fields_of c = (c.user.0, (c.tag.0, (c.version.0, (c.at, (c.len, c.fp.0)))))

pub commit_back : (c : CommitBody) → FitsCommit c → FitsFields (fields_of c)
commit_back c fits = (fits.user, (fits.tag, (fits.version, (fits.from, ((fits.few, le-leb 1 c.len fits.some), fits.fp)))))

-- ---- a body, and what follows it

fields_take : (kind : ℕ) (bytes : List ℕ) (b : FirstBody) (rest : List ℕ) → IsBytes bytes → fields_at kind bytes ≡ Ok (b, rest) → Took kind bytes b rest
unfolding fields_at put_at commit_at
fields_take kind bytes b rest known e =
    elim (picked (eqb kind 1) (put_at bytes) (cond (eqb kind 2) (commit_at bytes) (Err (suc (length bytes)))) (Ok (b, rest)) e) [
      | inl h ↦ kind_takes put_laws make_put 1 kind (λ x fits. (fits, refl)) bytes b rest known h.0 h.1
      | inr t ↦
          elim (picked (eqb kind 2) (commit_at bytes) (Err (suc (length bytes))) (Ok (b, rest)) t.1) [
            | inl h ↦ kind_takes commit_laws commit_of 2 kind commit_there bytes b rest known h.0 h.1
            | inr h ↦ absurd (let k = h.1 in cc)
          ]
    ]

pub front_takes : (bytes : List ℕ) (b : FirstBody) (rest : List ℕ) → IsBytes bytes → front_at bytes ≡ Ok (b, rest) → FitsFirstBody b × (bytes ≡ body_bytes b ++ rest)
unfolding front_at
front_takes [] b rest known e = absurd cc
front_takes (kind ∷ bytes) b rest known e = fields_take kind bytes b rest (bytes_tail kind bytes known) e

-- what is made of a reading
abbrev pub made_of : {A : Type 0} → (A → FirstBody) → Result (A × List ℕ) ℕ → Result (FirstBody × List ℕ) ℕ
made_of make r = r >>= λ x. Ok (make x.0, x.1)

pub front_again : (b : FirstBody) (rest : List ℕ) → FitsFirstBody b → front_at (body_bytes b ++ rest) ≡ Ok (b, rest)
unfolding front_at fields_at put_at commit_at
front_again (Put user items) rest fits = ap (made_of make_put) (put_laws.again (user.0, items) rest fits tt)
front_again (Commit c) rest fits = ap (made_of commit_of) (commit_laws.again (fields_of c) rest (commit_back c fits) tt)

-- ---- all the bytes

judged_ok : (len : ℕ) (r : Result (FirstBody × List ℕ) ℕ) (b : FirstBody) → judged len r ≡ Ok b → r ≡ Ok (b, [])
judged_ok len (Ok (c, [])) b e = let same : c ≡ b = cc in ap (λ (x : FirstBody). Ok (x, [])) same
judged_ok len (Ok (c, x ∷ rest)) b e = absurd cc
judged_ok len (Err zero) b e = absurd cc
judged_ok len (Err (suc left)) b e = absurd cc

pub again : (b : FirstBody) → FitsFirstBody b → body_at (body_bytes b) ≡ Ok b
unfolding body_at
again b fits = ap (judged (length (body_bytes b))) (ap front_at (sym (append-nil (body_bytes b))) ∙ front_again b [] fits)

abbrev read_body : FirstBody → Result FirstBody BodyErr
read_body b = Ok b

same_body : (a b : FirstBody) → read_body a ≡ read_body b → a ≡ b
same_body a b e = cc

pub one : (a b : FirstBody) → FitsFirstBody a → FitsFirstBody b → body_bytes a ≡ body_bytes b → a ≡ b
one a b fits fits2 e = same_body a b (sym (again a fits) ∙ ap body_at e ∙ again b fits2)

pub extra : (b : FirstBody) (x : ℕ) (rest : List ℕ) → FitsFirstBody b → body_at (body_bytes b ++ x ∷ rest) ≡ Err (errors.Extra (length (body_bytes b)))
unfolding body_at
extra b x rest fits =
    let place : length (body_bytes b ++ x ∷ rest) - length (x ∷ rest) ≡ length (body_bytes b) = omega (arith, length-append (body_bytes b) (x ∷ rest)) in
    ap (judged (length (body_bytes b ++ x ∷ rest))) (front_again b (x ∷ rest) fits) ∙ ap (λ (n : ℕ). Err (errors.Extra n)) place

-- bytes are a body exactly where they are its spelling
pub body_law : (bytes : List ℕ) (b : FirstBody) → IsBytes bytes → (body_at bytes ≡ Ok b → IsFirstBody bytes b) × (IsFirstBody bytes b → body_at bytes ≡ Ok b)
unfolding body_at
body_law bytes b known = (
  λ e.
      let t = front_takes bytes b [] known (judged_ok (length bytes) (front_at bytes) b e) in
      record { fits = t.0; spelled = t.1 ∙ append-nil (body_bytes b) },
  λ h. ap body_at h.spelled ∙ again b h.fits,
)

-- ---- the place of an error

-- where a body is read there are bytes
pub some_read : (bytes : List ℕ) (x : FirstBody × List ℕ) → front_at bytes ≡ Ok x → 1 ≤ length bytes
unfolding front_at
some_read [] x e = absurd cc
some_read (b ∷ bytes) x e = omega arith

-- and where a field is wrong
pub some_wrong : (bytes : List ℕ) (left : ℕ) → 1 ≤ left → front_at bytes ≡ Err left → 1 ≤ length bytes
unfolding front_at
some_wrong [] left wrong e = absurd (let none : left ≡ 0 = err_is {A = FirstBody × List ℕ} left 0 e in omega arith)
some_wrong (b ∷ bytes) left wrong e = omega arith
