-- What the records of a chain leave.
use Rattle.std.proofs.Common.{◌≡◌, ℕ, ◌≤◌, true, false, List, [], ◌∷◌, ◌++◌, length, refl, sym, ap, ◌∙◌, subst, arith, length-append}
use Rattle.std.specs.Prelude.{◌==◌, All, take, drop}
use Rattle.std.specs.List.{Contains}
use Rattle.std.proofs.lemmas.List.{take-append-le, drop-append-le}
use Rattle.std.proofs.lemmas.List.Elements.{All-contains, Contains-append_left, Contains-append_right}
use Rattle.std.proofs.lemmas.List.Sums.{fold-append}
use Rattle.cd_edges.specs.CdBase.ids.Fp.{Fp}
use Rattle.cd_edges.specs.CdBase.shape.Shape.{Shape}
use Rattle.cd_edges.specs.declared.area.Area.TheVariants.{Shares, Recipes}
use Rattle.cd_edges.specs.Disk.{Image}
use Rattle.record_checks.specs.ContainerLog.Laying.{Placed, IsAt}
use Rattle.record_checks.specs.JournalStart.rooms.UserRooms.{UserRooms}
use Rattle.record_checks.specs.JournalStart.Ranges.{AreRooms}
use Rattle.record_checks.specs.JournalStart.start.Header.{Header}
use Rattle.record_checks.specs.RecordBody.Spelling.{Body}
use Rattle.cd_edges.specs.CdBase.place.Place.{Place}
use Rattle.record_checks.specs.UserDedup.command.Command.{Command}
use Rattle.record_checks.specs.UserDedup.Dedup.{IsSound}
use Rattle.record_checks.specs.UserDedup.Cloud.{held_bytes}
use Rattle.record_checks.specs.UserDedup.Spending.{IsWithin}
use Rattle.record_checks.proofs.UserDedup.Sound.{sound_before, contained}
use Rattle.record_checks.proofs.UserDedup.Spending.{front_within}
use Rattle.record_checks.specs.CloudAreas.Chains.{AreRecordsOfList, Summed, Then, AreLong, BothHaveRoom}
use Rattle.record_checks.specs.CloudAreas.Placing.{shares_placed, shares_in}
use Rattle.record_checks.specs.CloudAreas.Standing.{Chain, region_in, Holds}
use Rattle.record_checks.proofs.CloudAreas.Entries.{share_lies}
use Rattle.record_checks.proofs.CloudAreas.Placed.{shares_more, placed_is_sent, held_stays}
use Rattle.record_checks.specs.CloudMemory.Memory.{Memory, HasEnds, Stand}
use Rattle.record_checks.specs.CloudMemory.Steps.{begun}
use Rattle.record_laws.specs.Leaving.{record_left, left_by, chain_left, IsLeft, EndsWithinRows}
use Rattle.record_laws.proofs.Checkpoint.{checkpoint_left}
use Rattle.record_laws.proofs.Known.{few_files, known_spent, known_user}
use Rattle.record_laws.proofs.Next.{next_left}
use Rattle.record_laws.proofs.Sums.{shares_in_rows, recipes_in_rows}

take_all : {X : Type 0} (n : ℕ) (xs : List X) → length xs ≡ n → take n xs ≡ xs
take_all {X} n xs len = subst (λ k. take k xs ≡ xs) len (all xs)
  where
    all : (l : List X) → take (length l) l ≡ l
    all [] = refl
    all (x ∷ l) = ap (λ k. x ∷ k) (all l)

drop_all : {X : Type 0} (n : ℕ) (xs : List X) → length xs ≡ n → drop n xs ≡ []
drop_all {X} n xs len = subst (λ k. drop k xs ≡ []) len (none xs)
  where
    none : (l : List X) → drop (length l) l ≡ []
    none [] = refl
    none (x ∷ l) = none l

-- a chain has the records of its checkpoint
pub checkpoint_within : (format : ℕ) (shape : Shape) (region count commands : ℕ) (bodies : List Body) (list : List Command) (recipes : List Placed)
    → AreRecordsOfList format shape region count commands bodies list recipes → count ≤ length bodies
checkpoint_within format shape region count commands _ _ _ (Summed bodies list recipes is len number) = omega (arith, len)
checkpoint_within format shape region count commands _ _ _ (Then before old laid body command more says is) =
    let rest = checkpoint_within format shape region count commands before old laid says in
    let more_len = length-append before (body ∷ []) in
    omega (arith, rest, more_len)

-- the places of the records before are as long as they were
pub long_before : (format : ℕ) (shape : Shape) (region count commands : ℕ) (before : List Body) (old : List Command) (laid : List Placed) (command : Command) (body : Body)
    → AreRecordsOfList format shape region count commands before old laid → AreLong (old ++ command ∷ []) (shares_in (before ++ body ∷ [])) → AreLong old (shares_in before)
long_before format shape region count commands before old laid command body says long =
    contained (λ (x : Fp × Place). x.1.len ≡ length (held_bytes old x.0)) (shares_in before) (λ x c.
    All-contains (λ (y : Fp × Place). y.1.len ≡ length (held_bytes (old ++ command ∷ []) y.0)) (shares_in (before ++ body ∷ [])) x long
    (subst (λ (l : List (Fp × Place)). Contains l x) (sym (shares_more before body)) (Contains-append_left (shares_in before) (shares_placed body) x c))
    ∙ ap (λ (l : List ℕ). length l) (held_stays old command x.0 (placed_is_sent format shape region count commands before old laid says x c)))

-- one record more, behind the checkpoint's
pub chain_more : (shape : Shape) (area : List ℕ) (users region count : ℕ) (before : List Body) (body : Body) → count ≤ length before
    → chain_left shape area users region count (before ++ body ∷ []) ≡ record_left shape area false (chain_left shape area users region count before) body
chain_more shape area users region count before body le =
    let start = left_by shape area true (begun users region) in
    ap (λ l. left_by shape area false (start l) (drop count (before ++ body ∷ []))) (take-append-le count before (body ∷ []) le)
    ∙ ap (left_by shape area false (start (take count before))) (drop-append-le count before (body ∷ []) le)
    ∙ fold-append (record_left shape area false) (start (take count before)) (drop count before) (body ∷ [])

module _ (format : ℕ) (shape : Shape) (cloud : ℕ) (rooms : UserRooms) (region count commands : ℕ) (area : List ℕ) (later : (format == 1) ≡ false) (are : AreRooms rooms) where
  pub all_left : (bodies : List Body) (list : List Command) (recipes : List Placed) → AreRecordsOfList format shape region count commands bodies list recipes
      → IsSound shape cloud list → IsWithin shape rooms list → AreLong list (shares_in bodies) → All (IsAt area) recipes
      → IsLeft shape area rooms.users region list bodies (chain_left shape area rooms.users region count bodies)
  all_left _ _ _ (Summed bodies list recipes is len number) sound within long lie =
      let whole : chain_left shape area rooms.users region count bodies ≡ left_by shape area true (begun rooms.users region) bodies =
      ap (left_by shape area false (left_by shape area true (begun rooms.users region) (take count bodies))) (drop_all count bodies len)
      ∙ ap (left_by shape area true (begun rooms.users region)) (take_all count bodies len) in
      subst (IsLeft shape area rooms.users region list bodies) (sym whole)
      (checkpoint_left format shape cloud list bodies recipes rooms.users region area later sound is long lie (known_spent shape rooms list within) (few_files shape rooms list within are))
  all_left _ _ _ (Then before old laid body command more says is) sound within long lie =
      let old_sound = (sound_before shape cloud old command sound).sound in
      let old_within = front_within shape rooms old (command ∷ []) within in
      let so_far = all_left before old laid says old_sound old_within (long_before format shape region count commands before old laid command body says long)
      (contained (IsAt area) laid (λ b c. All-contains (IsAt area) (laid ++ more) b lie (Contains-append_left laid more b c))) in
      subst (IsLeft shape area rooms.users region (old ++ command ∷ []) (before ++ body ∷ []))
      (sym (chain_more shape area rooms.users region count before body (checkpoint_within format shape region count commands before old laid says)))
      (next_left shape area rooms.users region old before (chain_left shape area rooms.users region count before) so_far cloud command body more is sound
      (known_user shape rooms cloud old command sound within) (few_files shape rooms old old_within are)
      (contained (IsAt area) more (λ b c. All-contains (IsAt area) (laid ++ more) b lie (Contains-append_right laid more b c))))

-- a memory that ends where the records do has the ends
pub left_ends : (shape : Shape) (area : List ℕ) (users region : ℕ) (list : List Command) (records : List Body) (m : Memory)
    → IsLeft shape area users region list records m → BothHaveRoom region list records → HasEnds region list records m
left_ends shape area users region list records m left room = record {
  shares = (let e = left.shares in omega (arith, e));
  shares_bound = (let e = left.shares in let b = room.shares.bound in omega (arith, e, b));
  recipes = (let e = left.recipes in omega (arith, e));
  recipes_bound = (let e = left.recipes in let b = room.recipes.bound in omega (arith, e, b));
}

pub left_stands : (header : Header) (image : Image) (list : List Command) (c : Chain) → Holds header image list c → (m : Memory)
    → IsLeft header.shape (image Recipes) header.rooms.users (region_in c) list c.records m → Stand header.shape (image Shares) (image Recipes) list m
left_stands header image list c h m left = record {
  strings = λ fp place is. (share_lies header image list c h fp place ((left.placed.shares fp place).0 is)).lies;
  entries = λ user key e entry is at. left.lie user key.0 key.1 e entry is at;
}

pub left_bounds : (header : Header) (image : Image) (list : List Command) (c : Chain) → IsWithin header.shape header.rooms list → Holds header image list c → (m : Memory)
    → IsLeft header.shape (image Recipes) header.rooms.users (region_in c) list c.records m → EndsWithinRows (region_in c) m
left_bounds header image list c within h m left =
    let ends = left_ends header.shape (image Recipes) header.rooms.users (region_in c) list c.records m left h.rooms in
    record {
      shares = (
          let bound = ends.shares_bound in
          let rows = shares_in_rows header.shape header.rooms list within m left.remembers left.users_are in
          omega (arith, bound, rows)
          );
      recipes = (
          let bound = ends.recipes_bound in
          let rows = recipes_in_rows header.shape header.rooms list within m left.remembers left.users_are in
          omega (arith, bound, rows)
          );
    }
