-- Bodies are read as they are spelled, and no other bytes are read.
use Rattle.std.proofs.Common.{◌≡◌, ℕ, zero, suc, ◌-◌, ◌^◌, ◌<◌, ◌≤◌, Bool, eqb, cond, true, false, List, [], ◌∷◌, ◌++◌, length, Result, Ok, Err, refl, sym, ap, subst, ◌∙◌, arith, inl, inr, eqb-true}
use Rattle.std.specs.Int.{w32, w64, to_be_bytes}
use Rattle.std.proofs.lemmas.List.{append-nil, length-append}
use Rattle.message_fields.specs.Grammar.Readers.{◌>>=◌, ◌▷◌}
use Rattle.message_fields.specs.Grammar.Fields.{number_at, bytes_at}
use Rattle.message_fields.proofs.Grammar.Laws.{bind_ok, ok_is, err_is, lawful_then}
use Rattle.message_fields.proofs.Grammar.FieldLaws.{IsBytes, Anything, LawfulBytes, lawful_bytes}
use Rattle.message_fields.specs.Parts.{made}
use Rattle.message_fields.proofs.PartLaws.{bytes_tail, lawful_u32, lawful_u64, picked}
use Rattle.record_body.specs.declared.body.BodyErr.{BodyErr}
use Rattle.record_body.specs.declared.body.BodyErr.TheVariants as errors
use Rattle.record_body.specs.FirstReading as first_reading
use Rattle.record_body.specs.FirstSpelling as first
use Rattle.record_body.proofs.FirstBodyLaws as first_laws
use Rattle.record_body.specs.declared.body.DeleteBody.{DeleteBody}
use Rattle.record_body.specs.declared.body.SpentBody.{SpentBody}
use Rattle.record_body.specs.Spelling.{Body, Put, Commit, Delete, Kept, Spent, lifted, body_bytes, FitsDelete, FitsSpent, FitsBody, IsBody}
use Rattle.record_body.specs.Reading.{make_delete, make_spent, delete_at, kept_at, spent_at, fields_at, front_at, judged, is_later, lifted_answer, body_at}
use Rattle.record_body.proofs.ItemLaws.{lawful_items}

-- ---- the fields of each kind

abbrev Took : ℕ → List ℕ → Body → List ℕ → Type 0
Took kind bytes b rest = FitsBody b × (kind ∷ bytes ≡ body_bytes b ++ rest)

-- bytes that a kind's reader takes are its body
kind_takes : {A : Type 0} {f : List ℕ → Result (A × List ℕ) ℕ} {spell : A → List ℕ} {Fits : A → Type 0} → LawfulBytes f spell Fits
    → (make : A → Body) (number kind : ℕ) → ((x : A) → Fits x → FitsBody (make x) × (number ∷ spell x ≡ body_bytes (make x)))
    → (bytes : List ℕ) (b : Body) (rest : List ℕ) → IsBytes bytes → eqb kind number ≡ true → made make f bytes ≡ Ok (b, rest) → Took kind bytes b rest
kind_takes {A} {f} {spell} laws make number kind there bytes b rest known is e =
    let a = bind_ok (f bytes) (λ x. Ok (make x.0, x.1)) (b, rest) e in
    let t = laws.takes bytes a.0.0 a.0.1 known a.1 in
    let h = there a.0.0 t.1 in
    let spelled : kind ∷ bytes ≡ body_bytes (make a.0.0) ++ a.0.1 =
    ap (λ (k : ℕ). k ∷ bytes) (eqb-true kind number is) ∙ ap (λ (x : List ℕ). number ∷ x) t.0.parts ∙ ap (λ (x : List ℕ). x ++ a.0.1) h.1 in
    let one : Body × List ℕ = (make a.0.0, a.0.1) in
    subst (λ (p : Body × List ℕ). Took kind bytes p.0 p.1) (ok_is one (b, rest) a.2) (h.0, spelled)

-- a Delete
abbrev pub DeleteFields : Type 0
DeleteFields = ℕ × (List ℕ × ℕ)

abbrev pub read_delete : List ℕ → Result (DeleteFields × List ℕ) ℕ
read_delete = number_at w32 ▷ (bytes_at 32 ▷ number_at w64)

abbrev pub spell_delete : DeleteFields → List ℕ
spell_delete x = to_be_bytes w32 x.0 ++ (x.1.0 ++ to_be_bytes w64 x.1.1)

abbrev pub FitsDeleteFields : DeleteFields → Type 0
FitsDeleteFields x = (x.0 < 2 ^ 32) × ((length x.1.0 ≡ 32) × (x.1.1 < 2 ^ 64))

delete_laws : LawfulBytes read_delete spell_delete FitsDeleteFields
delete_laws = lawful_then IsBytes Anything lawful_u32 (lawful_then IsBytes Anything (lawful_bytes 32) lawful_u64)

abbrev pub delete_of : DeleteFields → Body
delete_of x = Delete (make_delete x)

abbrev pub delete_parts : DeleteBody → DeleteFields
delete_parts d = (d.user.0, (d.tag.0, d.version.0))

pub delete_back : (d : DeleteBody) → FitsDelete d → FitsDeleteFields (delete_parts d)
delete_back d fits = (fits.user, (fits.tag, fits.version))

delete_there : (x : DeleteFields) → FitsDeleteFields x → FitsBody (delete_of x) × (3 ∷ spell_delete x ≡ body_bytes (delete_of x))
delete_there x fits = (record { user = fits.0; tag = fits.1.0; version = fits.1.1 }, refl)

-- a Spent
abbrev pub SpentFields : Type 0
SpentFields = ℕ × (ℕ × (ℕ × ℕ))

abbrev pub read_spent : List ℕ → Result (SpentFields × List ℕ) ℕ
read_spent = number_at w32 ▷ (number_at w32 ▷ (number_at w64 ▷ number_at w64))

abbrev pub spell_spent : SpentFields → List ℕ
spell_spent x = to_be_bytes w32 x.0 ++ (to_be_bytes w32 x.1.0 ++ (to_be_bytes w64 x.1.1.0 ++ to_be_bytes w64 x.1.1.1))

abbrev pub FitsSpentFields : SpentFields → Type 0
FitsSpentFields x = (x.0 < 2 ^ 32) × ((x.1.0 < 2 ^ 32) × ((x.1.1.0 < 2 ^ 64) × (x.1.1.1 < 2 ^ 64)))

spent_laws : LawfulBytes read_spent spell_spent FitsSpentFields
spent_laws = lawful_then IsBytes Anything lawful_u32 (lawful_then IsBytes Anything lawful_u32 (lawful_then IsBytes Anything lawful_u64 lawful_u64))

abbrev pub spent_of : SpentFields → Body
spent_of x = Spent (make_spent x)

abbrev pub spent_parts : SpentBody → SpentFields
spent_parts s = (s.user.0, (s.owners, (s.shares, s.recipes)))

pub spent_back : (s : SpentBody) → FitsSpent s → FitsSpentFields (spent_parts s)
spent_back s fits = (fits.user, (fits.owners, (fits.shares, fits.recipes)))

spent_there : (x : SpentFields) → FitsSpentFields x → FitsBody (spent_of x) × (5 ∷ spell_spent x ≡ body_bytes (spent_of x))
spent_there x fits = (record { user = fits.0; owners = fits.1.0; shares = fits.1.1.0; recipes = fits.1.1.1 }, refl)

-- ---- a Delete, a Kept or a Spent, and what follows it

fields_take : (kind : ℕ) (bytes : List ℕ) (b : Body) (rest : List ℕ) → IsBytes bytes → fields_at kind bytes ≡ Ok (b, rest) → Took kind bytes b rest
unfolding fields_at delete_at kept_at spent_at
fields_take kind bytes b rest known e =
    elim (picked (eqb kind 3) (delete_at bytes) (cond (eqb kind 4) (kept_at bytes) (cond (eqb kind 5) (spent_at bytes) (Err (suc (length bytes))))) (Ok (b, rest)) e) [
      | inl h ↦ kind_takes delete_laws delete_of 3 kind delete_there bytes b rest known h.0 h.1
      | inr t ↦
          elim (picked (eqb kind 4) (kept_at bytes) (cond (eqb kind 5) (spent_at bytes) (Err (suc (length bytes)))) (Ok (b, rest)) t.1) [
            | inl h ↦ kind_takes lawful_items Kept 4 kind (λ x fits. (fits, refl)) bytes b rest known h.0 h.1
            | inr u ↦
                elim (picked (eqb kind 5) (spent_at bytes) (Err (suc (length bytes))) (Ok (b, rest)) u.1) [
                  | inl h ↦ kind_takes spent_laws spent_of 5 kind spent_there bytes b rest known h.0 h.1
                  | inr h ↦ absurd (let k = h.1 in cc)
                ]
          ]
    ]

front_takes : (bytes : List ℕ) (b : Body) (rest : List ℕ) → IsBytes bytes → front_at bytes ≡ Ok (b, rest) → FitsBody b × (bytes ≡ body_bytes b ++ rest)
unfolding front_at
front_takes [] b rest known e = absurd cc
front_takes (kind ∷ bytes) b rest known e = fields_take kind bytes b rest (bytes_tail kind bytes known) e

-- what is made of a reading
abbrev pub made_of : {A : Type 0} → (A → Body) → Result (A × List ℕ) ℕ → Result (Body × List ℕ) ℕ
made_of make r = r >>= λ x. Ok (make x.0, x.1)

-- a body of one of these kinds
abbrev pub IsLater : Body → Type 0
IsLater (Put user items) = ⊥
IsLater (Commit commit) = ⊥
IsLater (Delete delete) = Unit {0}
IsLater (Kept items) = Unit {0}
IsLater (Spent spent) = Unit {0}

front_again : (b : Body) (rest : List ℕ) → IsLater b → FitsBody b → front_at (body_bytes b ++ rest) ≡ Ok (b, rest)
unfolding front_at fields_at delete_at kept_at spent_at
front_again (Put user items) rest later fits = absurd later
front_again (Commit c) rest later fits = absurd later
front_again (Delete d) rest later fits = ap (made_of delete_of) (delete_laws.again (delete_parts d) rest (delete_back d fits) tt)
front_again (Kept items) rest later fits = ap (made_of Kept) (lawful_items.again items rest fits tt)
front_again (Spent s) rest later fits = ap (made_of spent_of) (spent_laws.again (spent_parts s) rest (spent_back s fits) tt)

-- ---- all the bytes

judged_ok : (len : ℕ) (r : Result (Body × List ℕ) ℕ) (b : Body) → judged len r ≡ Ok b → r ≡ Ok (b, [])
judged_ok len (Ok (c, [])) b e = let same : c ≡ b = cc in ap (λ (x : Body). Ok (x, [])) same
judged_ok len (Ok (c, x ∷ rest)) b e = absurd cc
judged_ok len (Err zero) b e = absurd cc
judged_ok len (Err (suc left)) b e = absurd cc

-- bytes of these kinds are judged by their fields
pub later_at : (bytes : List ℕ) → is_later bytes ≡ true → body_at bytes ≡ judged (length bytes) (front_at bytes)
unfolding body_at
later_at bytes is = ap (λ (b : Bool). cond b (judged (length bytes) (front_at bytes)) (lifted_answer (first_reading.body_at bytes))) is

-- and all others as a Put or a Commit
pub first_at : (bytes : List ℕ) → is_later bytes ≡ false → body_at bytes ≡ lifted_answer (first_reading.body_at bytes)
unfolding body_at
first_at bytes is = ap (λ (b : Bool). cond b (judged (length bytes) (front_at bytes)) (lifted_answer (first_reading.body_at bytes))) is

-- each body of these kinds begins so
later_bytes : (b : Body) (rest : List ℕ) → IsLater b → is_later (body_bytes b ++ rest) ≡ true
later_bytes (Put user items) rest later = absurd later
later_bytes (Commit c) rest later = absurd later
later_bytes (Delete d) rest later = refl
later_bytes (Kept items) rest later = refl
later_bytes (Spent s) rest later = refl

later_again : (b : Body) → IsLater b → FitsBody b → body_at (body_bytes b) ≡ Ok b
later_again b later fits =
    let whole = append-nil (body_bytes b) in
    later_at (body_bytes b) (ap is_later (sym whole) ∙ later_bytes b [] later)
    ∙ ap (judged (length (body_bytes b))) (ap front_at (sym whole) ∙ front_again b [] later fits)

pub again : (b : Body) → FitsBody b → body_at (body_bytes b) ≡ Ok b
again (Put user items) fits =
    first_at (body_bytes (Put user items)) refl ∙ ap lifted_answer (first_laws.again (first.Put user items) fits)
again (Commit c) fits = first_at (body_bytes (Commit c)) refl ∙ ap lifted_answer (first_laws.again (first.Commit c) fits)
again (Delete d) fits = later_again (Delete d) tt fits
again (Kept items) fits = later_again (Kept items) tt fits
again (Spent s) fits = later_again (Spent s) tt fits

abbrev read_body : Body → Result Body BodyErr
read_body b = Ok b

same_body : (a b : Body) → read_body a ≡ read_body b → a ≡ b
same_body a b e = cc

pub one : (a b : Body) → FitsBody a → FitsBody b → body_bytes a ≡ body_bytes b → a ≡ b
one a b fits fits2 e = same_body a b (sym (again a fits) ∙ ap body_at e ∙ again b fits2)

later_extra : (b : Body) (x : ℕ) (rest : List ℕ) → IsLater b → FitsBody b → body_at (body_bytes b ++ x ∷ rest) ≡ Err (errors.Extra (length (body_bytes b)))
later_extra b x rest later fits =
    let place : length (body_bytes b ++ x ∷ rest) - length (x ∷ rest) ≡ length (body_bytes b) = omega (arith, length-append (body_bytes b) (x ∷ rest)) in
    later_at (body_bytes b ++ x ∷ rest) (later_bytes b (x ∷ rest) later)
    ∙ ap (judged (length (body_bytes b ++ x ∷ rest))) (front_again b (x ∷ rest) later fits) ∙ ap (λ (n : ℕ). Err (errors.Extra n)) place

pub extra : (b : Body) (x : ℕ) (rest : List ℕ) → FitsBody b → body_at (body_bytes b ++ x ∷ rest) ≡ Err (errors.Extra (length (body_bytes b)))
extra (Put user items) x rest fits =
    first_at (body_bytes (Put user items) ++ x ∷ rest) refl ∙ ap lifted_answer (first_laws.extra (first.Put user items) x rest fits)
extra (Commit c) x rest fits = first_at (body_bytes (Commit c) ++ x ∷ rest) refl ∙ ap lifted_answer (first_laws.extra (first.Commit c) x rest fits)
extra (Delete d) x rest fits = later_extra (Delete d) x rest tt fits
extra (Kept items) x rest fits = later_extra (Kept items) x rest tt fits
extra (Spent s) x rest fits = later_extra (Spent s) x rest tt fits

-- what is said of a Put and of a Commit where there are no other kinds
lifted_is : (bytes : List ℕ) (b : first.FirstBody) → first.IsFirstBody bytes b → IsBody bytes (lifted b)
lifted_is bytes (first.Put user items) is = record { fits = is.fits; spelled = is.spelled }
lifted_is bytes (first.Commit c) is = record { fits = is.fits; spelled = is.spelled }

lifted_ok : (r : Result first.FirstBody BodyErr) (b : Body) → lifted_answer r ≡ Ok b → (o : first.FirstBody) × (r ≡ Ok o) × (lifted o ≡ b)
lifted_ok (Ok o) b e = (o, refl, same_body (lifted o) b e)
lifted_ok (Err e) b is = absurd cc

takes_first : (bytes : List ℕ) (b : Body) → IsBytes bytes → lifted_answer (first_reading.body_at bytes) ≡ Ok b → IsBody bytes b
takes_first bytes b known e =
    let x = lifted_ok (first_reading.body_at bytes) b e in
    subst (IsBody bytes) x.2 (lifted_is bytes x.0 ((first_laws.body_law bytes x.0 known).0 x.1))

takes_later : (bytes : List ℕ) (b : Body) → IsBytes bytes → judged (length bytes) (front_at bytes) ≡ Ok b → IsBody bytes b
takes_later bytes b known e =
    let t = front_takes bytes b [] known (judged_ok (length bytes) (front_at bytes) b e) in
    record { fits = t.0; spelled = t.1 ∙ append-nil (body_bytes b) }

-- bytes are a body exactly where they are its spelling
pub body_law : (bytes : List ℕ) (b : Body) → IsBytes bytes → (body_at bytes ≡ Ok b → IsBody bytes b) × (IsBody bytes b → body_at bytes ≡ Ok b)
unfolding body_at
body_law bytes b known = (
  λ e.
      elim (picked (is_later bytes) (judged (length bytes) (front_at bytes)) (lifted_answer (first_reading.body_at bytes)) (Ok b) e) [
        | inl h ↦ takes_later bytes b known h.1
        | inr h ↦ takes_first bytes b known h.1
      ],
  λ h. ap body_at h.spelled ∙ again b h.fits,
)

-- ---- a Put or a Commit

first_bytes : (b : first.FirstBody) → is_later (first.body_bytes b) ≡ false
first_bytes (first.Put user items) = refl
first_bytes (first.Commit c) = refl

pub as_before : (bytes : List ℕ) (b : first.FirstBody) → IsBytes bytes → first_reading.body_at bytes ≡ Ok b → body_at bytes ≡ Ok (lifted b)
as_before bytes b known e =
    let is = (first_laws.body_law bytes b known).0 e in
    first_at bytes (ap is_later is.spelled ∙ first_bytes b) ∙ ap lifted_answer e

-- ---- the place of an error

-- where a body is read there are bytes
pub some_read : (bytes : List ℕ) (x : Body × List ℕ) → front_at bytes ≡ Ok x → 1 ≤ length bytes
unfolding front_at
some_read [] x e = absurd cc
some_read (b ∷ bytes) x e = omega arith

-- and where a field is wrong
pub some_wrong : (bytes : List ℕ) (left : ℕ) → 1 ≤ left → front_at bytes ≡ Err left → 1 ≤ length bytes
unfolding front_at
some_wrong [] left wrong e = absurd (let none : left ≡ 0 = err_is {A = Body × List ℕ} left 0 e in omega arith)
some_wrong (b ∷ bytes) left wrong e = omega arith
