-- Where a record of a chain stands: in its checkpoint, or behind it as the next command's.
use Rattle.std.proofs.Common.{◌≡◌, ◌⊎◌, inl, inr, ℕ, ◌<◌, ◌≤◌, List, [], ◌∷◌, ◌++◌, length, refl, sym, ap, ◌∙◌, subst, arith, append_assoc, length-append}
use Rattle.std.specs.Prelude.{All}
use Rattle.std.proofs.lemmas.List.Elements.{All-contains, Contains-append_left}
use Rattle.cd_edges.specs.CdBase.shape.Shape.{Shape}
use Rattle.record_checks.specs.ContainerLog.Laying.{Placed, IsAt}
use Rattle.record_checks.specs.JournalStart.rooms.UserRooms.{UserRooms}
use Rattle.record_checks.specs.RecordBody.Spelling.{Body}
use Rattle.record_checks.specs.UserDedup.command.Command.{Command}
use Rattle.record_checks.specs.UserDedup.Dedup.{IsSound}
use Rattle.record_checks.specs.UserDedup.Spending.{IsWithin}
use Rattle.record_checks.proofs.UserDedup.Sound.{last_same, sound_before, contained}
use Rattle.record_checks.proofs.UserDedup.Spending.{front_within}
use Rattle.record_checks.specs.CloudAreas.Chains.{IsRecord, AreRecordsOfList, Summed, Then, AreLong}
use Rattle.record_checks.specs.CloudAreas.Checkpoints.{IsCheckpointOfList}
use Rattle.record_checks.specs.CloudAreas.Placing.{shares_in}
use Rattle.record_laws.proofs.Chain.{long_before, checkpoint_within}

-- ---- lists from their ends

-- a list is empty, or it has a last element
pub record HasLast {X : Type 0} (xs : List X) : Type 0 where
  pub front : List X
  pub last : X
  pub is : xs ≡ front ++ last ∷ []

pub from_end : {X : Type 0} (xs : List X) → (xs ≡ []) ⊎ HasLast xs
from_end [] = inl refl
from_end (x ∷ xs) = inr (elim (from_end xs) [
  | inl none ↦ record { front = []; last = x; is = ap (λ l. x ∷ l) none }
  | inr some ↦ record { front = x ∷ some.front; last = some.last; is = ap (λ l. x ∷ l) some.is }
])

-- ---- a record

-- what is so of the list that the records up to one have come to
pub record IsFine (shape : Shape) (cloud : ℕ) (rooms : UserRooms) (area : List ℕ) (list : List Command) (records : List Body) (recipes : List Placed) : Type 0 where
  pub sound : IsSound shape cloud list
  pub within : IsWithin shape rooms list
  pub long : AreLong list (shares_in records)
  pub lie : All (IsAt area) recipes

module _ (format : ℕ) (shape : Shape) (cloud : ℕ) (rooms : UserRooms) (region count commands : ℕ) (area : List ℕ) where
  -- the record is one of a checkpoint's
  pub record IsInside (before : List Body) (body : Body) : Type 0 where
    pub list : List Command
    pub records : List Body
    pub recipes : List Placed
    pub after : List Body
    pub is : IsCheckpointOfList format shape list records recipes
    pub whole : records ≡ before ++ body ∷ after
    pub len : length records ≡ count
    pub fine : IsFine shape cloud rooms area list records recipes

  -- it is the record of a command
  pub record IsBehind (before : List Body) (body : Body) : Type 0 where
    pub list : List Command
    pub command : Command
    pub laid : List Placed
    pub more : List Placed
    pub says : AreRecordsOfList format shape region count commands before list laid
    pub is : IsRecord region before list command body more
    pub fine : IsFine shape cloud rooms area (list ++ command ∷ []) (before ++ body ∷ []) (laid ++ more)

  pub stands_in : (bodies : List Body) (list : List Command) (recipes : List Placed) → AreRecordsOfList format shape region count commands bodies list recipes
      → IsFine shape cloud rooms area list bodies recipes → (before : List Body) (body : Body) (after : List Body) → bodies ≡ before ++ body ∷ after
      → IsInside before body ⊎ IsBehind before body
  stands_in _ _ _ (Summed bodies list recipes is len number) fine before body after whole =
      inl (record { list = list; records = bodies; recipes = recipes; after = after; is = is; whole = whole; len = len; fine = fine })
  stands_in _ _ _ (Then b old laid last command more says is) fine before body after whole = elim (from_end after) [
    | inl none ↦
        let same = last_same b before last body (whole ∙ ap (λ l. before ++ body ∷ l) none) in
        inr (subst (λ (x : List Body × Body). IsBehind x.0 x.1) (λ i. (same.0 i, same.1 i))
        (record { list = old; command = command; laid = laid; more = more; says = says; is = is; fine = fine }))
    | inr some ↦
        let split : b ++ last ∷ [] ≡ (before ++ body ∷ some.front) ++ some.last ∷ [] =
        whole ∙ ap (λ l. before ++ body ∷ l) some.is ∙ sym (append_assoc before (body ∷ some.front) (some.last ∷ [])) in
        let same = last_same b (before ++ body ∷ some.front) last some.last split in
        stands_in b old laid says (record {
          sound = (sound_before shape cloud old command fine.sound).sound;
          within = front_within shape rooms old (command ∷ []) fine.within;
          long = long_before format shape region count commands b old laid command last says fine.long;
          lie = contained (IsAt area) laid (λ x c. All-contains (IsAt area) (laid ++ more) x fine.lie (Contains-append_left laid more x c));
        }) before body some.front same.0
  ]

  -- of which of the two it is, the number of records before it says
  pub inside_before : (before : List Body) (body : Body) → IsInside before body → length before < count
  inside_before before body inside =
      let all = ap length inside.whole in
      let parts = length-append before (body ∷ inside.after) in
      let len = inside.len in
      omega (arith, all, parts, len)

  pub behind_before : (before : List Body) (body : Body) → IsBehind before body → count ≤ length before
  behind_before before body behind = checkpoint_within format shape region count commands before behind.list behind.laid behind.says
