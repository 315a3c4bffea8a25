-- What a recipe's items do to uses: a Commit raises them as often as it names a fingerprint, and what a Delete leaves by uses is what it
-- leaves by the recipes that are left.
use Rattle.std.proofs.Common.{◌≡◌, ℕ, nat_lt, lt-ltb, zero, suc, ◌+◌, ◌-◌, ◌≤◌, ◌^◌, Bool, true, false, cond, List, [], ◌∷◌, ◌++◌, Option, Some, None, refl, sym, ap, ◌∙◌, arith}
use Rattle.std.specs.Prelude.{◌&&◌, ◌||◌, ◌==◌, not, bytes_eq, fold, unwrap_or}
use Rattle.std.specs.FinMap.{FinMap, get}
use Rattle.std.proofs.lemmas.Bool.{eqb-true}
use Rattle.std.proofs.lemmas.List.Sums.{sum_by-cons}
use Rattle.std.proofs.lemmas.Slice.Eq.{bytes_eq-Decides}
use Rattle.spent_table.specs.CdBase.ids.Fp.{Fp}
use Rattle.spent_table.specs.CdBase.ids.UserId.{UserId}
use Rattle.share_index.specs.Order.{owner_cmp, owner_of}
use Rattle.share_index.specs.Shares.{uses_at}
use Rattle.cloud_areas.specs.UserDedup.Owning.{is_among}
use Rattle.cloud_areas.specs.UserDedup.Cloud.{still_owned}
use Rattle.cloud_memory.specs.Memory.{times}
use Rattle.cloud_memory.specs.Steps.{raised, with_use, less_one, without_use}
use Rattle.cloud_memory.proofs.Keys.{owner_in, owner_out}

-- ---- counting names

pub times-cons : (name : Fp) (names : List Fp) (fp : Fp) → times (name ∷ names) fp ≡ cond (bytes_eq name.0 fp.0) 1 0 + times names fp
times-cons name names fp = sum_by-cons (λ (y : Fp). cond (bytes_eq y.0 fp.0) 1 0) name names

pub times-append : (one two : List Fp) (fp : Fp) → times (one ++ two) fp ≡ times one fp + times two fp
times-append [] two fp = let none : times [] fp ≡ 0 = refl in omega (arith, none)
times-append (name ∷ one) two fp =
    let a = times-cons name (one ++ two) fp in
    let b = times-cons name one fp in
    let c = times-append one two fp in
    omega (arith, a, b, c)

pub among_times : (names : List Fp) (fp : Fp) (n : ℕ) → times names fp ≡ n → is_among names fp ≡ (nat_lt 0 n)
among_times [] fp n is = ap (λ (m : ℕ). nat_lt 0 m) is
among_times (name ∷ names) fp n is =
    by_test (bytes_eq name.0 fp.0) (sym (times-cons name names fp) ∙ is) (among_times names fp (times names fp) refl)
  where
    by_test : (b : Bool) → cond b 1 0 + times names fp ≡ n → is_among names fp ≡ (nat_lt 0 (times names fp)) → (b || is_among names fp) ≡ (nat_lt 0 n)
    by_test true e rest = sym (ap (λ (m : ℕ). nat_lt 0 m) (sym e) ∙ some (times names fp))
      where
        some : (m : ℕ) → (nat_lt 0 (1 + m)) ≡ true
        some m = lt-ltb 0 (1 + m) (omega arith)
    by_test false e rest = rest ∙ ap (λ (m : ℕ). nat_lt 0 m) (zero_more (times names fp) ∙ e)
      where
        zero_more : (m : ℕ) → m ≡ 0 + m
        zero_more m = omega arith

-- ---- one step, for any user's fingerprint

abbrev pub one_more : Option ℕ → Option ℕ
one_more o = Some (raised (unwrap_or o 0))

-- one use less
abbrev pub one_less : Option ℕ → Option ℕ
one_less None = None
one_less (Some zero) = Some zero
one_less (Some (suc zero)) = None
one_less (Some (suc (suc n))) = Some (suc n)

module _ (user : UserId) (owners : FinMap owner_cmp ℕ) (name : Fp) (q : UserId) (fp : Fp) where
  abbrev here : Bool
  here = (user.0 == q.0) && bytes_eq name.0 fp.0

  -- what stands under the name, where it is the key
  alike : here ≡ true → get owners (owner_of q.0 fp.0) ≡ get owners (owner_of user.0 name.0)
  alike same = by_test (user.0 == q.0) refl (bytes_eq name.0 fp.0) refl same
    where
      by_test : (u : Bool) → (user.0 == q.0) ≡ u → (b : Bool) → bytes_eq name.0 fp.0 ≡ b → (u && b) ≡ true → get owners (owner_of q.0 fp.0) ≡ get owners (owner_of user.0 name.0)
      by_test true us true bs e =
          let users : user.0 ≡ q.0 = eqb-true user.0 q.0 us in
          let fps : name.0 ≡ fp.0 = (bytes_eq-Decides name.0 fp.0).0 bs in
          λ i. get owners (owner_of (sym users i) (sym fps i))
      by_test true us false bs e = cc
      by_test false us b bs e = cc

  pub raised_here : get (with_use user owners name) (owner_of q.0 fp.0) ≡ cond here (one_more (get owners (owner_of q.0 fp.0))) (get owners (owner_of q.0 fp.0))
  raised_here =
      owner_in owners user.0 name.0 (raised (uses_at owners (owner_of user.0 name.0))) q.0 fp.0 ∙ by_test here refl
    where
      by_test : (b : Bool) → here ≡ b → cond b (one_more (get owners (owner_of user.0 name.0))) (get owners (owner_of q.0 fp.0)) ≡ cond b (one_more (get owners (owner_of q.0 fp.0))) (get owners (owner_of q.0 fp.0))
      by_test true e = sym (ap one_more (alike e))
      by_test false e = refl

  stepped : (o : Option ℕ) → get owners (owner_of user.0 name.0) ≡ o → (b : Bool) → here ≡ b
      → get (less_one user owners name (unwrap_or o 0)) (owner_of q.0 fp.0) ≡ cond b (one_less (get owners (owner_of q.0 fp.0))) (get owners (owner_of q.0 fp.0))
  stepped None is true e = (alike e ∙ is) ∙ sym (ap one_less (alike e ∙ is))
  stepped None is false e = refl
  stepped (Some zero) is true e = (alike e ∙ is) ∙ sym (ap one_less (alike e ∙ is))
  stepped (Some zero) is false e = refl
  stepped (Some (suc zero)) is b e =
      owner_out owners user.0 name.0 q.0 fp.0 ∙ ap (λ (t : Bool). cond t None (get owners (owner_of q.0 fp.0))) e ∙ by_test b e
    where
      by_test : (b : Bool) → here ≡ b → cond b None (get owners (owner_of q.0 fp.0)) ≡ cond b (one_less (get owners (owner_of q.0 fp.0))) (get owners (owner_of q.0 fp.0))
      by_test true e = sym (ap one_less (alike e ∙ is))
      by_test false e = refl
  stepped (Some (suc (suc n))) is b e =
      owner_in owners user.0 name.0 (suc n) q.0 fp.0 ∙ ap (λ (t : Bool). cond t (Some (suc n)) (get owners (owner_of q.0 fp.0))) e ∙ by_test b e
    where
      by_test : (b : Bool) → here ≡ b → cond b (Some (suc n)) (get owners (owner_of q.0 fp.0)) ≡ cond b (one_less (get owners (owner_of q.0 fp.0))) (get owners (owner_of q.0 fp.0))
      by_test true e = sym (ap one_less (alike e ∙ is))
      by_test false e = refl

  lowered_here : get (without_use user owners name) (owner_of q.0 fp.0) ≡ cond here (one_less (get owners (owner_of q.0 fp.0))) (get owners (owner_of q.0 fp.0))
  lowered_here = stepped (get owners (owner_of user.0 name.0)) refl here refl

-- ---- all steps: as often as it is named

abbrev pub repeated : (Option ℕ → Option ℕ) → ℕ → Option ℕ → Option ℕ
repeated step zero o = o
repeated step (suc n) o = repeated step n (step o)

module _ (user : UserId) (by : FinMap owner_cmp ℕ → Fp → FinMap owner_cmp ℕ) (step : Option ℕ → Option ℕ)
    (one : (owners : FinMap owner_cmp ℕ) (name : Fp) (q : UserId) (fp : Fp)
    → get (by owners name) (owner_of q.0 fp.0) ≡ cond ((user.0 == q.0) && bytes_eq name.0 fp.0) (step (get owners (owner_of q.0 fp.0))) (get owners (owner_of q.0 fp.0))) where
  all_steps : (names : List Fp) (owners : FinMap owner_cmp ℕ) (q : UserId) (fp : Fp)
      → get (fold by owners names) (owner_of q.0 fp.0) ≡ cond (user.0 == q.0) (repeated step (times names fp) (get owners (owner_of q.0 fp.0))) (get owners (owner_of q.0 fp.0))
  all_steps [] owners q fp = by_test (user.0 == q.0)
    where
      by_test : (u : Bool) → get owners (owner_of q.0 fp.0) ≡ cond u (get owners (owner_of q.0 fp.0)) (get owners (owner_of q.0 fp.0))
      by_test true = refl
      by_test false = refl
  all_steps (name ∷ names) owners q fp =
      all_steps names (by owners name) q fp
      ∙ ap (λ (o : Option ℕ). cond (user.0 == q.0) (repeated step (times names fp) o) o) (one owners name q fp)
      ∙ by_test (user.0 == q.0) (bytes_eq name.0 fp.0) (get owners (owner_of q.0 fp.0))
      ∙ sym (ap (λ (n : ℕ). cond (user.0 == q.0) (repeated step n (get owners (owner_of q.0 fp.0))) (get owners (owner_of q.0 fp.0))) (times-cons name names fp))
    where
      one_up : (n : ℕ) → suc n ≡ 1 + n
      one_up n = omega arith

      none_up : (n : ℕ) → n ≡ 0 + n
      none_up n = omega arith

      by_test : (u b : Bool) (o : Option ℕ) → cond u (repeated step (times names fp) (cond (u && b) (step o) o)) (cond (u && b) (step o) o) ≡ cond u (repeated step (cond b 1 0 + times names fp) o) o
      by_test true true o = ap (λ (n : ℕ). repeated step n o) (one_up (times names fp))
      by_test true false o = ap (λ (n : ℕ). repeated step n o) (none_up (times names fp))
      by_test false b o = refl

pub all_raised : (user : UserId) (names : List Fp) (owners : FinMap owner_cmp ℕ) (q : UserId) (fp : Fp)
    → get (fold (with_use user) owners names) (owner_of q.0 fp.0) ≡ cond (user.0 == q.0) (repeated one_more (times names fp) (get owners (owner_of q.0 fp.0))) (get owners (owner_of q.0 fp.0))
all_raised user = all_steps user (with_use user) one_more (raised_here user)

pub all_lowered : (user : UserId) (names : List Fp) (owners : FinMap owner_cmp ℕ) (q : UserId) (fp : Fp)
    → get (fold (without_use user) owners names) (owner_of q.0 fp.0) ≡ cond (user.0 == q.0) (repeated one_less (times names fp) (get owners (owner_of q.0 fp.0))) (get owners (owner_of q.0 fp.0))
all_lowered user = all_steps user (without_use user) one_less (lowered_here user)

-- ---- raised

-- where 32 bits reach
some_more : (n r : ℕ) → n + r ≤ 2 ^ 32 - 1 → repeated one_more n (Some r) ≡ Some (n + r)
some_more zero r fits = ap Some (omega arith)
some_more (suc n) r fits =
    let up : raised r ≡ suc r = omega (arith, fits) in
    ap (λ (k : ℕ). repeated one_more n (Some k)) up ∙ some_more n (suc r) (omega (arith, fits)) ∙ ap Some (omega arith)

-- The user owns what is named. Then a fingerprint that it owns has the uses that the names add.
pub committed_as_viewed : (user : UserId) (names : List Fp) (owners : FinMap owner_cmp ℕ) (fp : Fp) (owned : Bool) (before : ℕ)
    → get owners (owner_of user.0 fp.0) ≡ cond owned (Some before) None → (owned ≡ false → times names fp ≡ 0) → times names fp + before ≤ 2 ^ 32 - 1
    → repeated one_more (times names fp) (get owners (owner_of user.0 fp.0)) ≡ cond owned (Some (times names fp + before)) None
committed_as_viewed user names owners fp true before had none fits = ap (repeated one_more (times names fp)) had ∙ some_more (times names fp) before fits
committed_as_viewed user names owners fp false before had none fits = ap (repeated one_more (times names fp)) had ∙ ap (λ (n : ℕ). repeated one_more n None) (none refl)

-- ---- lowered

nothing_left : (n : ℕ) → repeated one_less n None ≡ None
nothing_left zero = refl
nothing_left (suc n) = nothing_left n

some_left : (n r : ℕ) → repeated one_less n (Some (n + suc r)) ≡ Some (suc r)
some_left zero r = ap Some (omega arith)
some_left (suc n) r = ap (λ (m : ℕ). repeated one_less n (one_less (Some m))) (more n r) ∙ ap (λ (m : ℕ). repeated one_less n (Some m)) (one n r) ∙ some_left n r
  where
    more : (n r : ℕ) → suc n + suc r ≡ suc (suc (n + r))
    more n r = omega arith

    one : (n r : ℕ) → suc (n + r) ≡ n + suc r
    one n r = omega arith

all_gone : (n : ℕ) → repeated one_less (suc n) (Some (suc n)) ≡ None
all_gone zero = refl
all_gone (suc n) = all_gone n

still_among : (gone left own : List Fp) (fp : Fp) → is_among (still_owned gone left own) fp ≡ (is_among own fp && (not (is_among gone fp) || is_among left fp))
still_among gone left [] fp = refl
still_among gone left (o ∷ own) fp =
    by_test (bytes_eq o.0 fp.0) (not (is_among gone o) || is_among left o) refl
    (λ e. ap (λ (x : Fp). not (is_among gone x) || is_among left x) (same e)) (still_among gone left own fp)
  where
    same : bytes_eq o.0 fp.0 ≡ true → o ≡ fp
    same e = let f : o.0 ≡ fp.0 = (bytes_eq-Decides o.0 fp.0).0 e in λ i. record { 0 = f i }

    meet : (a : Bool) → (a && false) ≡ false
    meet true = refl
    meet false = refl

    found : (b x : Bool) → b ≡ true → (b || x) ≡ true
    found true x e = refl
    found false x e = cc

    lost : (b x : Bool) → b ≡ false → (b || x) ≡ x
    lost true x e = cc
    lost false x e = refl

    by_test : (b t : Bool) → bytes_eq o.0 fp.0 ≡ b → (bytes_eq o.0 fp.0 ≡ true → t ≡ (not (is_among gone fp) || is_among left fp))
        → is_among (still_owned gone left own) fp ≡ (is_among own fp && (not (is_among gone fp) || is_among left fp))
        → is_among (cond t (o ∷ still_owned gone left own) (still_owned gone left own)) fp ≡ ((bytes_eq o.0 fp.0 || is_among own fp) && (not (is_among gone fp) || is_among left fp))
    by_test true true e f rest =
        found (bytes_eq o.0 fp.0) (is_among (still_owned gone left own) fp) e ∙ f e
        ∙ sym (ap (λ (x : Bool). x && (not (is_among gone fp) || is_among left fp)) (found (bytes_eq o.0 fp.0) (is_among own fp) e))
    by_test true false e f rest =
        rest ∙ ap (λ (x : Bool). is_among own fp && x) (sym (f e)) ∙ meet (is_among own fp) ∙ f e
        ∙ sym (ap (λ (x : Bool). x && (not (is_among gone fp) || is_among left fp)) (found (bytes_eq o.0 fp.0) (is_among own fp) e))
    by_test false true e f rest =
        lost (bytes_eq o.0 fp.0) (is_among (still_owned gone left own) fp) e ∙ rest
        ∙ sym (ap (λ (x : Bool). x && (not (is_among gone fp) || is_among left fp)) (lost (bytes_eq o.0 fp.0) (is_among own fp) e))
    by_test false false e f rest =
        rest ∙ sym (ap (λ (x : Bool). x && (not (is_among gone fp) || is_among left fp)) (lost (bytes_eq o.0 fp.0) (is_among own fp) e))

-- Where the memory has a user's fingerprints with their uses, and the entry that goes names these and what is left names those, the uses that a
-- deletion drops leave just the fingerprints that the view has then, with the uses that are left.
pub deleted_as_viewed : (user : UserId) (names left own : List Fp) (owners : FinMap owner_cmp ℕ) (fp : Fp)
    → get owners (owner_of user.0 fp.0) ≡ cond (is_among own fp) (Some (times names fp + times left fp)) None
    → repeated one_less (times names fp) (get owners (owner_of user.0 fp.0)) ≡ cond (is_among (still_owned names left own) fp) (Some (times left fp)) None
deleted_as_viewed user names left own owners fp had =
    ap (repeated one_less (times names fp)) had
    ∙ by_counts (is_among own fp) (times names fp) (times left fp) (is_among names fp) (among_times names fp (times names fp) refl) (is_among left fp) (among_times left fp (times left fp) refl)
    ∙ sym (ap (λ (b : Bool). cond b (Some (times left fp)) None) (still_among names left own fp))
  where
    by_counts : (o : Bool) (n r : ℕ) (g : Bool) → g ≡ nat_lt 0 n → (l : Bool) → l ≡ nat_lt 0 r
        → repeated one_less n (cond o (Some (n + r)) None) ≡ cond (o && (not g || l)) (Some r) None
    by_counts false n r g eg l el = nothing_left n
    by_counts true zero r g eg l el = ap Some (omega arith) ∙ sym (ap (λ (b : Bool). cond (not b || l) (Some r) None) eg)
    by_counts true (suc n) zero g eg l el =
        ap (λ (m : ℕ). repeated one_less (suc n) (Some m)) (none n) ∙ all_gone n
        ∙ sym (ap (λ (b : Bool). cond (not b || l) (Some 0) None) (eg ∙ lt-ltb 0 (suc n) (omega arith)) ∙ ap (λ (b : Bool). cond b (Some 0) None) el)
      where
        none : (n : ℕ) → suc n + 0 ≡ suc n
        none n = omega arith
    by_counts true (suc n) (suc r) g eg l el =
        some_left (suc n) r
        ∙ sym (ap (λ (b : Bool). cond (not b || l) (Some (suc r)) None) (eg ∙ lt-ltb 0 (suc n) (omega arith)) ∙ ap (λ (b : Bool). cond b (Some (suc r)) None) (el ∙ lt-ltb 0 (suc r) (omega arith)))
