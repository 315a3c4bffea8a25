-- Where a record places, and where a chain's blobs end.
use Rattle.std.proofs.Common.{◌≡◌, ℕ, ◌+◌, ◌*◌, ◌≤◌, List, [], ◌∷◌, ◌++◌, length, map, refl, sym, ap, ◌∙◌, subst, arith}
use Rattle.std.specs.List.{Contains}
use Rattle.std.proofs.lemmas.List.{map-append}
use Rattle.std.proofs.lemmas.List.Elements.{All-contains}
use Rattle.user_dedup.specs.CdBase.ids.Fp.{Fp}
use Rattle.user_dedup.specs.CdBase.shape.Shape.{Shape}
use Rattle.journal_halves.specs.CdEdges.Disk.{Image}
use Rattle.container_log.specs.Laying.{Placed}
use Rattle.journal_halves.specs.JournalStart.start.Header.{Header}
use Rattle.journal_halves.specs.JournalStart.Spelling.{commands_of, records_of}
use Rattle.record_body.specs.declared.body.CommitBody.{CommitBody}
use Rattle.record_body.specs.Spelling.{Body}
use Rattle.user_dedup.specs.CdBase.place.Place.{Place}
use Rattle.user_dedup.specs.declared.command.Command.{Command}
use Rattle.user_dedup.specs.declared.command.Command.TheVariants as commands
use Rattle.user_dedup.specs.Cloud.{held_bytes}
use Rattle.user_dedup.specs.Spending.{spent_by_all}
use Rattle.cloud_areas.specs.Placing.{shares_in, shares_placed, recipes_placed, recipes_in, region_start, greatest_end, AreBehind, places_of, shares_end, recipes_end}
use Rattle.cloud_areas.specs.Checkpoints.{AreEntries}
use Rattle.cloud_areas.specs.Chains.{IsRecord, AreRecordsOfList, Summed, Then, laid_shares, BothHaveRoom, HaveRoom, least_shares, least_recipes}
use Rattle.cloud_areas.specs.Standing.{Chain, region_in, Holds}
use Rattle.cloud_areas.specs.Adding.{HasRoomFor}
use Rattle.cloud_areas.specs.Laid.{place_by}
use Rattle.cloud_areas.proofs.Lists.{in_map, from_map, flat_more}
use Rattle.cloud_areas.proofs.Ends.{end_grows, end_each, room_more}
use Rattle.cloud_areas.proofs.Placed.{shares_more}
use Rattle.cloud_areas.proofs.Summing.{place_of_commit, recipes_by_commits, checkpoint_commits}

pub recipes_more : (records : List Body) (body : Body) → recipes_in (records ++ body ∷ []) ≡ recipes_in records ++ recipes_placed body
recipes_more records body = flat_more recipes_placed records body

pub places_more : (records : List Body) (body : Body) → places_of (shares_in (records ++ body ∷ [])) ≡ places_of (shares_in records) ++ places_of (shares_placed body)
places_more records body = ap places_of (shares_more records body) ∙ map-append (λ (x : Fp × Place). x.1) (shares_in records) (shares_placed body)

-- ---- ends only grow

pub shares_grow : (region : ℕ) (records : List Body) (body : Body) → shares_end region records ≤ shares_end region (records ++ body ∷ [])
shares_grow region records body =
    let more = end_grows (region_start region) (places_of (shares_in records)) (places_of (shares_placed body)) in
    subst (λ (l : List Place). shares_end region records ≤ greatest_end (region_start region) l) (sym (places_more records body)) more

pub recipes_grow : (region : ℕ) (records : List Body) (body : Body) → recipes_end region records ≤ recipes_end region (records ++ body ∷ [])
recipes_grow region records body =
    let more = end_grows (region_start region) (recipes_in records) (recipes_placed body) in
    subst (λ (l : List Place). recipes_end region records ≤ greatest_end (region_start region) l) (sym (recipes_more records body)) more

-- ---- a record's places lie behind those before

shares_behind : (region : ℕ) (before : List Body) (list : List Command) (command : Command) (body : Body) (laid : List Placed) → IsRecord region before list command body laid
    → AreBehind (shares_end region before) (places_of (shares_placed body))
shares_behind region before list (commands.Put user shares) body laid is =
    subst (λ (b : Body). AreBehind (shares_end region before) (places_of (shares_placed b))) (sym is.0.body_is) is.0.behind
shares_behind region before list (commands.Commit user tag version recipe) body laid is =
    subst (λ (b : Body). AreBehind (shares_end region before) (places_of (shares_placed b))) (sym is.body_is) tt
shares_behind region before list (commands.Delete user tag version) body laid is =
    subst (λ (b : Body). AreBehind (shares_end region before) (places_of (shares_placed b))) (sym is.0) tt

recipes_behind : (region : ℕ) (before : List Body) (list : List Command) (command : Command) (body : Body) (laid : List Placed) → IsRecord region before list command body laid
    → AreBehind (recipes_end region before) (recipes_placed body)
recipes_behind region before list (commands.Put user shares) body laid is =
    subst (λ (b : Body). AreBehind (recipes_end region before) (recipes_placed b)) (sym is.0.body_is) tt
recipes_behind region before list (commands.Commit user tag version recipe) body laid is =
    subst (λ (b : Body). AreBehind (recipes_end region before) (recipes_placed b)) (sym is.body_is) (is.behind, tt)
recipes_behind region before list (commands.Delete user tag version) body laid is =
    subst (λ (b : Body). AreBehind (recipes_end region before) (recipes_placed b)) (sym is.0) tt

pub rooms_more : (region : ℕ) (records : List Body) (list : List Command) (command : Command) (body : Body) (laid : List Placed) → IsRecord region records list command body laid
    → BothHaveRoom region list records → HasRoomFor region (list ++ command ∷ []) records body → BothHaveRoom region (list ++ command ∷ []) (records ++ body ∷ [])
rooms_more region records list command body laid is rooms more =
    let longer = list ++ command ∷ [] in
    record {
      shares =
          subst (HaveRoom region least_shares (spent_by_all longer).shares) (sym (places_more records body))
          (room_more region least_shares (spent_by_all list).shares (spent_by_all longer).shares (places_of (shares_in records)) (places_of (shares_placed body)) rooms.shares more.shares
          (shares_behind region records list command body laid is)
          (subst (λ (l : List Place). greatest_end (region_start region) l ≤ region_start region + least_shares + 2 * (spent_by_all longer).shares) (places_more records body) more.shares_bound));
      recipes =
          subst (HaveRoom region least_recipes (spent_by_all longer).recipes) (sym (recipes_more records body))
          (room_more region least_recipes (spent_by_all list).recipes (spent_by_all longer).recipes (recipes_in records) (recipes_placed body) rooms.recipes more.recipes
          (recipes_behind region records list command body laid is)
          (subst (λ (l : List Place). greatest_end (region_start region) l ≤ region_start region + least_recipes + 2 * (spent_by_all longer).recipes) (recipes_more records body) more.recipes_bound));
    }

-- ---- the recipes of a chain lie where its records place them

entries_place : (shape : Shape) (list : List Command) (commits : List CommitBody) (recipes : List Placed) → AreEntries shape list commits recipes
    → map place_by recipes ≡ map place_of_commit commits
entries_place shape list [] [] are = refl
entries_place shape list [] (b ∷ recipes) are = absurd are
entries_place shape list (c ∷ commits) [] are = absurd are
entries_place shape list (c ∷ commits) (b ∷ recipes) are =
    let at : b.place ≡ c.at = are.0.place in
    let len : length b.blob ≡ c.len = ap (λ (l : List ℕ). length l) are.0.bytes ∙ sym are.0.len in
    λ i. record { at = at i; len = len i } ∷ entries_place shape list commits recipes are.1 i

record_place : (region : ℕ) (before : List Body) (list : List Command) (command : Command) (body : Body) (laid : List Placed) → IsRecord region before list command body laid
    → map place_by laid ≡ recipes_placed body
record_place region before list (commands.Put user shares) body laid is = λ i. (ap (map place_by) is.1 ∙ ap recipes_placed (sym is.0.body_is)) i
record_place region before list (commands.Commit user tag version recipe) body laid is = ap (map place_by) is.laid_is ∙ ap recipes_placed (sym is.body_is)
record_place region before list (commands.Delete user tag version) body laid is = ap (map place_by) is.1 ∙ ap recipes_placed (sym is.0)

pub recipes_placed_by : (format : ℕ) (shape : Shape) (region records commands : ℕ) (bodies : List Body) (list : List Command) (recipes : List Placed)
    → AreRecordsOfList format shape region records commands bodies list recipes → map place_by recipes ≡ recipes_in bodies
recipes_placed_by format shape region records commands _ _ _ (Summed bodies list recipes is count number) =
    entries_place shape list is.commits recipes is.laid
    ∙ ap (map place_of_commit) (sym (checkpoint_commits format shape list bodies recipes is))
    ∙ sym (recipes_by_commits bodies)
recipes_placed_by format shape region records commands _ _ _ (Then before old laid body command more says is) =
    map-append place_by laid more
    ∙ (λ i. recipes_placed_by format shape region records commands before old laid says i ++ record_place region before old command body more is i)
    ∙ sym (recipes_more before body)

-- ---- where blobs end

pub share_within : (header : Header) (image : Image) (list : List Command) (c : Chain) → Holds header image list c
    → (b : Placed) → Contains (laid_shares list (shares_in c.records)) b → b.place + length b.blob ≤ shares_end (region_in c) c.records
share_within header image list c h b here =
    let x = from_map (λ (x : Fp × Place). record { place = x.1.at; blob = held_bytes list x.0 }) (shares_in c.records) b here in
    let long = All-contains (λ (y : Fp × Place). y.1.len ≡ length (held_bytes list y.0)) (shares_in c.records) x.0 h.long x.1 in
    let end = end_each (region_start (region_in c)) (places_of (shares_in c.records)) x.0.1 (in_map (λ (y : Fp × Place). y.1) (shares_in c.records) x.0 x.1) in
    subst (λ (p : Placed). p.place + length p.blob ≤ shares_end (region_in c) c.records) x.2 (omega (arith, long, end))

pub recipe_within : (header : Header) (image : Image) (list : List Command) (c : Chain) → Holds header image list c
    → (b : Placed) → Contains c.recipes b → b.place + length b.blob ≤ recipes_end (region_in c) c.records
recipe_within header image list c h b here =
    let places =
    recipes_placed_by header.format header.shape (region_in c) (records_of c.start.checkpoint) (commands_of c.start.checkpoint) c.records list c.recipes h.says in
    end_each (region_start (region_in c)) (recipes_in c.records) (place_by b) (subst (λ (l : List Place). Contains l (place_by b)) places (in_map place_by c.recipes b here))
