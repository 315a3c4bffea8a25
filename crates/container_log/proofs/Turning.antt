-- The last container of those that are kept, put in front or forgotten, time after time.
use Rattle.std.proofs.Common.{◌≡◌, ℕ, zero, suc, ◌+◌, ◌-◌, ◌<◌, ◌≤◌, Bool, true, false, cond, List, [], ◌∷◌, ◌++◌, length, take, Option, Some, None, refl, sym, ap, ◌∙◌, subst, arith, append-nil, append_assoc, length-append}
use Rattle.std.specs.Prelude.{slice_get, option_map, nat_eq}
use Rattle.std.proofs.lemmas.Option.{slice_get_within}
use Rattle.std.specs.Cmp.{nat_eq_equiv}
use Rattle.std.specs.List.{filter, IsDistinct, AllByRecursion}
use Rattle.std.specs.Map.{keys_of, lookup, lookup_entry, remove_entry}
use Rattle.std.proofs.Math.Seq.{take-append_seam}
use Rattle.std.proofs.lemmas.List.{nil_from_length}
use Rattle.std.proofs.lemmas.Map.Keys.{IsDistinct-head, IsDistinct-tail}
use Rattle.lru.specs.LruCache.{promoted}
use Rattle.container_log.specs.Caches.{Kept, turned, turned_by}

record LastOf (xs : List Kept) : Type 0 where
  before : List Kept
  last : Kept
  is : xs ≡ before ++ last ∷ []

last_of : (xs : List Kept) → 1 ≤ length xs → LastOf xs
last_of [] some = absurd (omega (arith, some))
last_of (x ∷ []) some = record { before = []; last = x; is = refl }
last_of (x ∷ (y ∷ ys)) some =
    let l = last_of (y ∷ ys) (omega arith) in
    record { before = x ∷ l.before; last = l.last; is = ap (λ (zs : List Kept). x ∷ zs) l.is }

last_at : (xs : List Kept) (x : Kept) → slice_get (xs ++ x ∷ []) (length xs) ≡ Some x
last_at [] x = refl
last_at (y ∷ ys) x = last_at ys x

length-last : (xs : List Kept) (x : Kept) → length (xs ++ x ∷ []) - 1 ≡ length xs
length-last xs x = omega (arith, length-append xs (x ∷ []))

turned_last : (p : Kept → Bool) (xs : List Kept) (x : Kept) → turned p (xs ++ x ∷ []) ≡ cond (p x) (x ∷ xs) xs
turned_last p xs x =
    ap (λ (n : ℕ). turned_by p (slice_get (xs ++ x ∷ []) n) (take n (xs ++ x ∷ []))) (length-last xs x)
    ∙ ap (λ (o : Option Kept). turned_by p o (take (length xs) (xs ++ x ∷ []))) (last_at xs x)
    ∙ ap (λ (l : List Kept). cond (p x) (x ∷ l) l) (take-append_seam xs (x ∷ []))

-- ---- the last one promoted

last_key : (P : ℕ → Type 0) (xs : List Kept) (x : Kept) → AllByRecursion P (keys_of (xs ++ x ∷ [])) → P x.0
last_key P [] x all = all.0
last_key P (y ∷ ys) x all = last_key P ys x all.1

found_last : (xs : List Kept) (x : Kept) → IsDistinct nat_eq (keys_of (xs ++ x ∷ []))
    → (lookup_entry (nat_eq x.0) (xs ++ x ∷ []) ≡ Some x) × (remove_entry (nat_eq x.0) (xs ++ x ∷ []) ≡ xs)
found_last [] x apart =
    let same = nat_eq_equiv.refl x.0 in
    (ap (λ (t : Bool). cond t (Some x) None) same, ap (λ (t : Bool). cond t [] (x ∷ [])) same)
found_last (y ∷ ys) x apart =
    let other : nat_eq x.0 y.0 ≡ false = nat_eq_equiv.symm x.0 y.0 ∙ last_key (λ (n : ℕ). nat_eq y.0 n ≡ false) ys x (IsDistinct-head nat_eq y.0 (keys_of (ys ++ x ∷ [])) apart) in
    let rest = found_last ys x (IsDistinct-tail nat_eq y.0 (keys_of (ys ++ x ∷ [])) apart) in (
      ap (λ (t : Bool). cond t (Some y) (lookup_entry (nat_eq x.0) (ys ++ x ∷ []))) other ∙ rest.0,
      ap (λ (t : Bool). cond t (ys ++ x ∷ []) (y ∷ remove_entry (nat_eq x.0) (ys ++ x ∷ []))) other ∙ ap (λ (l : List Kept). y ∷ l) rest.1,
    )

front_again : (xs es : List Kept) (x k : Kept) → es ≡ xs ++ x ∷ [] → IsDistinct nat_eq (keys_of es) → slice_get es (length es - 1) ≡ Some k
    → (promoted (nat_eq k.0) es ≡ k ∷ xs) × (take (length es - 1) es ≡ xs)
front_again xs es x k is apart get =
    let at : slice_get es (length es - 1) ≡ Some x = ap (λ (l : List Kept). slice_get l (length l - 1)) is ∙ ap (slice_get (xs ++ x ∷ [])) (length-last xs x) ∙ last_at xs x in
    let some : Some k ≡ Some x = sym get ∙ at in
    let same : k ≡ x = cc in
    let found = found_last xs x (subst (λ (l : List Kept). IsDistinct nat_eq (keys_of l)) is apart) in (
      ap (λ (l : List Kept). promoted (nat_eq k.0) l) is
          ∙ ap (λ (e : Kept). promoted (nat_eq e.0) (xs ++ x ∷ [])) same
          ∙ rw found.0 (rw found.1 (ap (λ (e : Kept). e ∷ xs) (sym same))),
      ap (λ (l : List Kept). take (length l - 1) l) is ∙ ap (λ (n : ℕ). take n (xs ++ x ∷ [])) (length-last xs x) ∙ take-append_seam xs (x ∷ []),
    )

pub promoted_last : (es : List Kept) (k : Kept) → IsDistinct nat_eq (keys_of es) → 1 ≤ length es → slice_get es (length es - 1) ≡ Some k
    → promoted (nat_eq k.0) es ≡ k ∷ take (length es - 1) es
promoted_last es k apart some get =
    let l = last_of es some in
    let both = front_again l.before es l.last k l.is apart get in
    both.0 ∙ ap (λ (xs : List Kept). k ∷ xs) (sym both.1)

-- ---- a loop over all of them

-- So many were turned: those in front of them are as they were, and of these those are left that pass.
pub record Turns (p : Kept → Bool) (old now : List Kept) (done : ℕ) : Type 0 where
  pub front : List Kept
  pub back : List Kept
  pub whole : old ≡ front ++ back
  pub long : length back ≡ done
  pub is : now ≡ filter p back ++ front

pub turns_none : (p : Kept → Bool) (old : List Kept) → Turns p old old 0
turns_none p old = record { front = old; back = []; whole = sym (append-nil old); long = refl; is = refl }

by_test : (t : Bool) (x : Kept) (b f : List Kept) → cond t (x ∷ (b ++ f)) (b ++ f) ≡ cond t (x ∷ b) b ++ f
by_test true x b f = refl
by_test false x b f = refl

pub turns_more : (p : Kept → Bool) (old now new : List Kept) (done : ℕ) → done < length old → Turns p old now done → new ≡ turned p now → Turns p old new (done + 1)
turns_more p old now new done less t e =
    let l = last_of t.front (omega (arith, less, ap length t.whole, length-append t.front t.back, t.long)) in
    let is : now ≡ (filter p t.back ++ l.before) ++ l.last ∷ [] =
    t.is ∙ ap (λ (f : List Kept). filter p t.back ++ f) l.is ∙ sym (append_assoc (filter p t.back) l.before (l.last ∷ [])) in
    record {
      front = l.before;
      back = l.last ∷ t.back;
      whole = t.whole ∙ ap (λ (f : List Kept). f ++ t.back) l.is ∙ append_assoc l.before (l.last ∷ []) t.back;
      long = omega (arith, t.long);
      is = e ∙ ap (turned p) is ∙ turned_last p (filter p t.back ++ l.before) l.last ∙ by_test (p l.last) l.last (filter p t.back) l.before;
    }

pub turns_all : (p : Kept → Bool) (old now : List Kept) (done : ℕ) → length old ≤ done → Turns p old now done → now ≡ filter p old
turns_all p old now done past t =
    let none : t.front ≡ [] = nil_from_length t.front (omega (arith, past, ap length t.whole, length-append t.front t.back, t.long)) in
    t.is ∙ ap (λ (f : List Kept). filter p t.back ++ f) none ∙ append-nil (filter p t.back)
    ∙ ap (filter p) (sym (t.whole ∙ ap (λ (f : List Kept). f ++ t.back) none))

-- ---- what is looked up

entered_by : (t : Bool) (e : Kept) (l : Option (List ℕ)) (o : Option Kept) → (l ≡ None → o ≡ None) → cond t (Some e.1) l ≡ None → cond t (Some e) o ≡ None
entered_by true e l o rest gone = absurd (let same : Some e.1 ≡ None = gone in cc)
entered_by false e l o rest gone = rest gone

pub none_entered : (n : ℕ) (es : List Kept) → lookup (nat_eq n) es ≡ None → lookup_entry (nat_eq n) es ≡ None
none_entered n [] none = refl
none_entered n (e ∷ es) none = entered_by (nat_eq n e.0) e (lookup (nat_eq n) es) (lookup_entry (nat_eq n) es) (none_entered n es) none

-- what isn't there isn't among the first of them
none_by : (b : Bool) (e : Kept) (l m : Option (List ℕ)) → (l ≡ None → m ≡ None) → cond b (Some e.1) l ≡ None → cond b (Some e.1) m ≡ None
none_by true e l m rest gone = gone
none_by false e l m rest gone = rest gone

pub none_first : (n count : ℕ) (es : List Kept) → lookup (nat_eq n) es ≡ None → lookup (nat_eq n) (take count es) ≡ None
none_first n zero es none = refl
none_first n (suc count) [] none = refl
none_first n (suc count) (e ∷ es) none = none_by (nat_eq n e.0) e (lookup (nat_eq n) es) (lookup (nat_eq n) (take count es)) (none_first n count es) none

-- ---- a turn

-- what is looked at of a container
abbrev pub Seen : (Kept → Bool) → Kept → ℕ × Bool
Seen p k = (k.0, p k)

abbrev number_of : Option (ℕ × Bool) → ℕ
number_of None = 0
number_of (Some seen) = seen.0

abbrev passes_of : Option (ℕ × Bool) → Bool
passes_of None = false
passes_of (Some seen) = seen.1

true_by : (p : Kept → Bool) (es : List Kept) (number : ℕ) (o : Option Kept) → slice_get es (length es - 1) ≡ o → option_map (Seen p) o ≡ Some (number, true) → IsDistinct nat_eq (keys_of es)
    → promoted (nat_eq number) es ≡ turned_by p o (take (length es - 1) es)
true_by p es number None get f apart = absurd (let no : None ≡ Some (number, true) = f in cc)
true_by p es number (Some k) get f apart =
    let key : k.0 ≡ number = ap number_of f in
    let passes : p k ≡ true = ap passes_of f in
    let some : 1 ≤ length es = within_some (length es) (slice_get_within es (length es - 1) k get) in
    ap (λ (n : ℕ). promoted (nat_eq n) es) (sym key)
    ∙ promoted_last es k apart some get
    ∙ sym (ap (λ (t : Bool). cond t (k ∷ take (length es - 1) es) (take (length es - 1) es)) passes)
  where
    within_some : (n : ℕ) → n - 1 < n → 1 ≤ n
    within_some n lt = omega (arith, lt)

pub turned_true : (p : Kept → Bool) (es : List Kept) (number : ℕ) → option_map (Seen p) (slice_get es (length es - 1)) ≡ Some (number, true) → IsDistinct nat_eq (keys_of es)
    → promoted (nat_eq number) es ≡ turned p es
turned_true p es number e apart = true_by p es number (slice_get es (length es - 1)) refl e apart

pub turned_none : (p : Kept → Bool) (es : List Kept) → 1 ≤ length es → option_map (Seen p) (slice_get es (length es - 1)) ≡ None → es ≡ turned p es
turned_none p es some e =
    let l = last_of es some in
    let at : slice_get es (length es - 1) ≡ Some l.last =
    ap (λ (xs : List Kept). slice_get xs (length xs - 1)) l.is ∙ ap (slice_get (l.before ++ l.last ∷ [])) (length-last l.before l.last) ∙ last_at l.before l.last in
    let no : Some (Seen p l.last) ≡ None = sym (ap (option_map (Seen p)) at) ∙ e in
    cc
