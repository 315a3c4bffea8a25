-- What the order of keys says of users.
use Rattle.std.proofs.Common.{rules, ◌≡◌, ◌≢◌, ℕ, ◌<◌, ◌≤◌, List, [], ◌∷◌, length, replicate, sym, ap, ◌∙◌, subst, arith, inl, inr}
use Rattle.std.proofs.lemmas.Bool.{cases_lt, cases_eq}
use Rattle.std.specs.declared.cmp.Ordering.{Ordering}
use Rattle.std.specs.declared.cmp.Ordering.TheVariants.{Less, Equal, Greater}
use Rattle.std.specs.Ordering.{nat_cmp, ordering_then}
use Rattle.std.specs.Cmp.{IsTotalOrder, nat_cmp_is}
use Rattle.std.specs.Cmp.Rules.{comparing}
use Rattle.std.specs.Cmp.Lexicographic.{slice_cmp}
use Rattle.file_index.specs.declared.key.FileKey.{FileKey}
use Rattle.file_index.specs.Order.{key_cmp}
use Rattle.file_index.specs.Files.{key_of}

pub key_total : IsTotalOrder key_cmp
key_total = search (comparing, rules)

-- a key of a later user is greater
pub user-greater : (a b : FileKey) → b.user < a.user → key_cmp a b ≡ Greater
user-greater a b l = ap (λ r. ordering_then r (ordering_then (slice_cmp nat_cmp a.tag b.tag) (nat_cmp a.version b.version))) (sym (nat_cmp_is a.user b.user Greater l))

-- the user of a key that isn't greater isn't later
pub user-le : (a b : FileKey) → key_cmp a b ≢ Greater → a.user ≤ b.user
user-le a b n = elim (cases_lt b.user a.user) [ inl l ↦ absurd (n (user-greater a b l)) | inr g ↦ g ]

zero-not-greater : (n : ℕ) → nat_cmp 0 n ≢ Greater
zero-not-greater n e =
    elim (cases_eq n 0) [
      | inl z ↦ let no : Equal ≡ Greater = nat_cmp_is 0 n Equal (sym z) ∙ e in cc
      | inr p ↦ let no : Less ≡ Greater = nat_cmp_is 0 n Less (omega arith) ∙ e in cc
    ]

then-not-greater : (r s : Ordering) → r ≢ Greater → s ≢ Greater → ordering_then r s ≢ Greater
then-not-greater Less s n m e = n e
then-not-greater Equal s n m e = m e
then-not-greater Greater s n m e = n e

zeros-not-greater : (xs : List ℕ) → slice_cmp nat_cmp (replicate (length xs) 0) xs ≢ Greater
zeros-not-greater [] e = let no : Equal ≡ Greater = e in cc
zeros-not-greater (x ∷ xs) e = then-not-greater (nat_cmp 0 x) _ (zero-not-greater x) (zeros-not-greater xs) e

-- no key of the user's is below the one of zeros
pub least-key : (k : FileKey) (user : ℕ) → k.user ≡ user → length k.tag ≡ 32 → key_cmp (key_of user (replicate 32 0) 0) k ≢ Greater
least-key k user same long =
    then-not-greater (nat_cmp user k.user) _ (λ e. let no : Equal ≡ Greater = nat_cmp_is user k.user Equal (sym same) ∙ e in cc)
    (then-not-greater (slice_cmp nat_cmp (replicate 32 0) k.tag) _ (subst (λ n. slice_cmp nat_cmp (replicate n 0) k.tag ≢ Greater) long (zeros-not-greater k.tag)) (zero-not-greater k.version))
