-- Whether two keys of a map are one.
use Rattle.std.proofs.Common.{◌≡◌, ℕ, Bool, true, false, cond, List, Some, None, refl, sym, ap, ◌∙◌, eq-eqb}
use Rattle.std.specs.Prelude.{◌&&◌, ◌==◌, bytes_eq}
use Rattle.std.specs.FinMap.{FinMap, get, insert, remove, get-insert, get-remove}
use Rattle.std.specs.Ordering.{eq_by_cmp, is_eq}
use Rattle.std.specs.declared.cmp.Ordering.{Ordering}
use Rattle.std.specs.declared.cmp.Ordering.TheVariants.{Less, Equal, Greater}
use Rattle.std.proofs.lemmas.Bool.{and_parts, eqb-true}
use Rattle.std.proofs.lemmas.Cmp.{tied_itself}
use Rattle.std.proofs.lemmas.Slice.Eq.{bytes_eq-Decides}
use Rattle.file_index.specs.declared.key.Entry.{Entry}
use Rattle.file_index.specs.declared.key.FileKey.{FileKey}
use Rattle.file_index.specs.Files.{key_of}
use Rattle.file_index.specs.Order.{key_cmp, key_exact}
use Rattle.file_index.proofs.Order.{key_total}
use Rattle.share_index.specs.declared.key.Owner.{Owner}
use Rattle.spent_table.specs.CdBase.place.Place.{Place}
use Rattle.share_index.specs.Order.{owner_cmp, owner_of, owner_exact}
use Rattle.spent_table.specs.CdBase.Order.{fp_cmp, fp_exact}
use Rattle.share_index.proofs.Owning.{owner_total}
use Rattle.share_index.proofs.Placing.{fp_total}

pub is_eq-at : (r : Ordering) → is_eq r ≡ true → r ≡ Equal
is_eq-at Less e = cc
is_eq-at Equal e = refl
is_eq-at Greater e = cc

and_both : (a b : Bool) → a ≡ true → b ≡ true → (a && b) ≡ true
and_both true b p q = q
and_both false b p q = cc

pub both_ways : (a b : Bool) → (a ≡ true → b ≡ true) → (b ≡ true → a ≡ true) → a ≡ b
both_ways true b f g = sym (f refl)
both_ways false true f g = g refl
both_ways false false f g = refl

owner_test : (q : ℕ) (f : List ℕ) (user : ℕ) (fp : List ℕ) → eq_by_cmp owner_cmp (owner_of q f) (owner_of user fp) ≡ ((user == q) && bytes_eq fp f)
owner_test q f user fp = both_ways (eq_by_cmp owner_cmp (owner_of q f) (owner_of user fp)) ((user == q) && bytes_eq fp f) forth back
  where
    forth : eq_by_cmp owner_cmp (owner_of q f) (owner_of user fp) ≡ true → ((user == q) && bytes_eq fp f) ≡ true
    forth e =
        let same = owner_exact (owner_of q f) (owner_of user fp) (is_eq-at (owner_cmp (owner_of q f) (owner_of user fp)) e) in
        let fps : fp ≡ f = ap (λ (k : Owner). k.fp) (sym same) in
        and_both (user == q) (bytes_eq fp f) (eq-eqb user q (ap (λ (k : Owner). k.user) (sym same))) ((bytes_eq-Decides fp f).1 fps)

    back : ((user == q) && bytes_eq fp f) ≡ true → eq_by_cmp owner_cmp (owner_of q f) (owner_of user fp) ≡ true
    back e =
        let p = and_parts (user == q) (bytes_eq fp f) e in
        let users : user ≡ q = eqb-true user q p.0 in
        let fps : fp ≡ f = (bytes_eq-Decides fp f).0 p.1 in
        let same : owner_of user fp ≡ owner_of q f = λ i. owner_of (users i) (fps i) in
        ap (λ k. is_eq (owner_cmp (owner_of q f) k)) same ∙ ap is_eq (tied_itself owner_total (owner_of q f))

same_test : (q fp : List ℕ) → eq_by_cmp fp_cmp q fp ≡ bytes_eq fp q
same_test q fp = both_ways (eq_by_cmp fp_cmp q fp) (bytes_eq fp q)
    (λ e. (bytes_eq-Decides fp q).1 (sym (fp_exact q fp (is_eq-at (fp_cmp q fp) e))))
    (λ e. ap (λ k. is_eq (fp_cmp q k)) ((bytes_eq-Decides fp q).0 e) ∙ ap is_eq (tied_itself fp_total q))

-- what maps have with one key more or less
pub owner_in : (m : FinMap owner_cmp ℕ) (user : ℕ) (fp : List ℕ) (x : ℕ) (q : ℕ) (f : List ℕ)
    → get (insert m (owner_of user fp) x) (owner_of q f) ≡ cond ((user == q) && bytes_eq fp f) (Some x) (get m (owner_of q f))
owner_in m user fp x q f =
    get-insert owner_total m (owner_of user fp) x (owner_of q f) ∙ ap (λ (t : Bool). cond t (Some x) (get m (owner_of q f))) (owner_test q f user fp)

pub owner_out : (m : FinMap owner_cmp ℕ) (user : ℕ) (fp : List ℕ) (q : ℕ) (f : List ℕ)
    → get (remove m (owner_of user fp)) (owner_of q f) ≡ cond ((user == q) && bytes_eq fp f) None (get m (owner_of q f))
owner_out m user fp q f =
    get-remove owner_total m (owner_of user fp) (owner_of q f) ∙ ap (λ (t : Bool). cond t None (get m (owner_of q f))) (owner_test q f user fp)

pub place_in : (m : FinMap fp_cmp Place) (fp : List ℕ) (x : Place) (f : List ℕ) → get (insert m fp x) f ≡ cond (bytes_eq fp f) (Some x) (get m f)
place_in m fp x f = get-insert fp_total m fp x f ∙ ap (λ (t : Bool). cond t (Some x) (get m f)) (same_test f fp)

-- ---- files

abbrev file_test : ℕ → List ℕ → ℕ → ℕ → List ℕ → ℕ → Bool
file_test user tag version q t v = (user == q) && (bytes_eq tag t && (version == v))

key_test : (q : ℕ) (t : List ℕ) (v user : ℕ) (tag : List ℕ) (version : ℕ) → eq_by_cmp key_cmp (key_of q t v) (key_of user tag version) ≡ file_test user tag version q t v
key_test q t v user tag version = both_ways (eq_by_cmp key_cmp (key_of q t v) (key_of user tag version)) (file_test user tag version q t v) forth back
  where
    forth : eq_by_cmp key_cmp (key_of q t v) (key_of user tag version) ≡ true → file_test user tag version q t v ≡ true
    forth e =
        let same = key_exact (key_of q t v) (key_of user tag version) (is_eq-at (key_cmp (key_of q t v) (key_of user tag version)) e) in
        let tags : tag ≡ t = ap (λ (k : FileKey). k.tag) (sym same) in
        and_both (user == q) (bytes_eq tag t && (version == v)) (eq-eqb user q (ap (λ (k : FileKey). k.user) (sym same)))
        (and_both (bytes_eq tag t) (version == v) ((bytes_eq-Decides tag t).1 tags) (eq-eqb version v (ap (λ (k : FileKey). k.version) (sym same))))

    back : file_test user tag version q t v ≡ true → eq_by_cmp key_cmp (key_of q t v) (key_of user tag version) ≡ true
    back e =
        let p = and_parts (user == q) (bytes_eq tag t && (version == v)) e in
        let r = and_parts (bytes_eq tag t) (version == v) p.1 in
        let users : user ≡ q = eqb-true user q p.0 in
        let tags : tag ≡ t = (bytes_eq-Decides tag t).0 r.0 in
        let versions : version ≡ v = eqb-true version v r.1 in
        let same : key_of user tag version ≡ key_of q t v = λ i. key_of (users i) (tags i) (versions i) in
        ap (λ k. is_eq (key_cmp (key_of q t v) k)) same ∙ ap is_eq (tied_itself key_total (key_of q t v))

pub entry_in : (m : FinMap key_cmp Entry) (user : ℕ) (tag : List ℕ) (version : ℕ) (x : Entry) (q : ℕ) (t : List ℕ) (v : ℕ)
    → get (insert m (key_of user tag version) x) (key_of q t v) ≡ cond ((user == q) && (bytes_eq tag t && (version == v))) (Some x) (get m (key_of q t v))
entry_in m user tag version x q t v =
    get-insert key_total m (key_of user tag version) x (key_of q t v) ∙ ap (λ (b : Bool). cond b (Some x) (get m (key_of q t v))) (key_test q t v user tag version)

pub entry_out : (m : FinMap key_cmp Entry) (user : ℕ) (tag : List ℕ) (version : ℕ) (q : ℕ) (t : List ℕ) (v : ℕ)
    → get (remove m (key_of user tag version)) (key_of q t v) ≡ cond ((user == q) && (bytes_eq tag t && (version == v))) None (get m (key_of q t v))
entry_out m user tag version q t v =
    get-remove key_total m (key_of user tag version) (key_of q t v) ∙ ap (λ (b : Bool). cond b None (get m (key_of q t v))) (key_test q t v user tag version)
