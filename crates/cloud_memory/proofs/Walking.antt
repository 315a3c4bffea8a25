-- What a walk over a recipe's items does to uses.
use Rattle.std.proofs.Common.{◌≡◌, ℕ, zero, suc, ◌+◌, ◌<◌, ◌≤◌, ◌^◌, Bool, true, false, cond, List, [], ◌∷◌, ◌++◌, length, take, fold, Option, Some, None, refl, sym, ap, ◌∙◌, subst, arith}
use Rattle.std.specs.Prelude.{◌&&◌, ◌==◌, bytes_eq, unwrap_or, slice_get, is_some, IsSome}
use Rattle.std.specs.FinMap.{FinMap, get, insert}
use Rattle.std.proofs.lemmas.Grind.{fold-append}
use Rattle.std.proofs.lemmas.List.Elements.{All-weaker}
use Rattle.spent_table.specs.CdBase.ids.Fp.{Fp}
use Rattle.spent_table.specs.CdBase.ids.UserId.{UserId}
use Rattle.file_index.specs.PoolMap.MapSums.{insert-same}
use Rattle.share_index.specs.Order.{owner_cmp, owner_of, owner_exact}
use Rattle.share_index.specs.Shares.{Shares, uses_at, with_fewer_uses, released}
use Rattle.share_index.proofs.Owning.{owner_total}
use Rattle.cloud_memory.specs.Sharing.{AreOwned, KeepsPlaces}
use Rattle.cloud_memory.specs.Steps.{raised, with_use, less_one, without_use}
use Rattle.cloud_memory.proofs.Naming.{one_more, raised_here}

keeps_on : (a b c : Shares) → KeepsPlaces a b → KeepsPlaces b c → KeepsPlaces a c
keeps_on a b c one two = record { places = two.places ∙ one.places; fps = two.fps ∙ one.fps; accounts = two.accounts ∙ one.accounts; slots = two.slots ∙ one.slots; owned = two.owned ∙ one.owned }

-- So far these names were taken.
pub record Walked (by : FinMap owner_cmp ℕ → Fp → FinMap owner_cmp ℕ) (start now : Shares) (names : List Fp) (place : ℕ) : Type 0 where
  pub owners : now.owners ≡ fold by start.owners (take place names)
  pub kept : KeepsPlaces start now

pub take_next : (names : List Fp) (place : ℕ) (fp : Fp) → slice_get names place ≡ Some fp → take (suc place) names ≡ take place names ++ fp ∷ []
take_next [] place fp e = absurd (let never : None ≡ Some fp = e in cc)
take_next (name ∷ names) zero fp e = let same : Some name ≡ Some fp = e in let here : name ≡ fp = cc in λ i. here i ∷ []
take_next (name ∷ names) (suc place) fp e = ap (λ (l : List Fp). name ∷ l) (take_next names place fp e)

pub take_whole : (names : List Fp) (place : ℕ) → length names ≤ place → take place names ≡ names
take_whole [] zero past = refl
take_whole [] (suc place) past = refl
take_whole (name ∷ names) zero past = absurd (omega (arith, past))
take_whole (name ∷ names) (suc place) past = ap (λ (l : List Fp). name ∷ l) (take_whole names place (omega (arith, past)))

pub walked_none : (by : FinMap owner_cmp ℕ → Fp → FinMap owner_cmp ℕ) (start : Shares) (names : List Fp) → Walked by start start names 0
walked_none by start names = record { owners = refl; kept = record { places = refl; fps = refl; accounts = refl; slots = refl; owned = refl } }

pub walked_more : (by : FinMap owner_cmp ℕ → Fp → FinMap owner_cmp ℕ) (start now next : Shares) (names : List Fp) (place : ℕ) (fp : Fp) → slice_get names place ≡ Some fp
    → Walked by start now names place → next.owners ≡ by now.owners fp → KeepsPlaces now next → Walked by start next names (place + 1)
walked_more by start now next names place fp at walked step kept =
    let next_place : suc place ≡ place + 1 = omega arith in
    record {
      owners =
          step ∙ ap (λ (m : FinMap owner_cmp ℕ). by m fp) walked.owners
          ∙ sym (fold-append by start.owners (take place names) (fp ∷ []))
          ∙ ap (fold by start.owners) (sym (take_next names place fp at) ∙ ap (λ (k : ℕ). take k names) next_place);
      kept = keeps_on start now next walked.kept kept;
    }

pub walked_all : (by : FinMap owner_cmp ℕ → Fp → FinMap owner_cmp ℕ) (start now : Shares) (names : List Fp) (place : ℕ) → length names ≤ place → Walked by start now names place
    → now.owners ≡ fold by start.owners names
walked_all by start now names place past walked = walked.owners ∙ ap (fold by start.owners) (take_whole names place past)

-- what is owned stays owned
pub still_owned_by : (owners : FinMap owner_cmp ℕ) (user : UserId) (name : Fp) (names : List Fp) → AreOwned owners user names → AreOwned (with_use user owners name) user names
still_owned_by owners user name names all =
    All-weaker (λ (fp : Fp). IsSome (get owners (owner_of user.0 fp.0))) (λ (fp : Fp). IsSome (get (with_use user owners name) (owner_of user.0 fp.0))) (λ fp had.
    subst (λ (o : Option ℕ). is_some o ≡ true) (sym (raised_here user owners name user fp)) (by_test fp had ((user.0 == user.0) && bytes_eq name.0 fp.0))) names all
  where
    by_test : (fp : Fp) → is_some (get owners (owner_of user.0 fp.0)) ≡ true → (b : Bool)
        → is_some (cond b (one_more (get owners (owner_of user.0 fp.0))) (get owners (owner_of user.0 fp.0))) ≡ true
    by_test fp had true = refl
    by_test fp had false = had

-- as far as 32 bits reach
pub raised_whole : (m : FinMap owner_cmp ℕ) (user : UserId) (fp : Fp) (uses : ℕ) → get m (owner_of user.0 fp.0) ≡ Some uses → 4294967295 ≤ uses → uses < 2 ^ 32 → m ≡ with_use user m fp
raised_whole m user fp uses is most small =
    let at : uses_at m (owner_of user.0 fp.0) ≡ uses = ap (λ (o : Option ℕ). unwrap_or o 0) is in
    let top : raised uses ≡ uses = omega (arith, most, small) in
    sym (ap (insert m (owner_of user.0 fp.0)) (ap raised at ∙ top) ∙ insert-same owner_total owner_exact m (owner_of user.0 fp.0) uses is)

-- a use fewer, as the index of shares says it
pub released_is : (owners : FinMap owner_cmp ℕ) (user : UserId) (fp : Fp) → released owners (owner_of user.0 fp.0) ≡ without_use user owners fp
released_is owners user fp = by_uses (uses_at owners (owner_of user.0 fp.0))
  where
    by_uses : (uses : ℕ) → with_fewer_uses owners (owner_of user.0 fp.0) uses ≡ less_one user owners fp uses
    by_uses zero = refl
    by_uses (suc zero) = refl
    by_uses (suc (suc uses)) = refl
