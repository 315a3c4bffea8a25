-- Where what a chain places ends.
use Rattle.std.proofs.Common.{◌≡◌, ℕ, ◌≤◌, List, [], ◌∷◌, ◌++◌, length, map, refl, sym, ap, ◌∙◌, arith, append-nil}
use Rattle.std.specs.Prelude.{All}
use Rattle.std.proofs.lemmas.Grind.{flat_map-append}
use Rattle.std.proofs.lemmas.List.{map-append}
use Rattle.std.proofs.lemmas.List.Elements.{All-nil, All-cons, All-head, All-tail}
use Rattle.commit_journal.specs.CdBase.ids.Fp.{Fp}
use Rattle.commit_journal.specs.CdBase.shape.Shape.{Shape}
use Rattle.cloud_areas.specs.ContainerLog.Laying.{Placed}
use Rattle.commit_journal.specs.CdBase.place.Place.{Place}
use Rattle.cloud_areas.specs.RecordBody.body.CommitBody.{CommitBody}
use Rattle.cloud_areas.specs.RecordBody.body.KeptItem.{KeptItem}
use Rattle.cloud_areas.specs.RecordBody.body.SpentBody.{SpentBody}
use Rattle.cloud_areas.specs.RecordBody.Spelling as bodies
use Rattle.cloud_areas.specs.RecordBody.Spelling.{Body}
use Rattle.cloud_areas.specs.UserDedup.command.Command.{Command}
use Rattle.cloud_areas.specs.UserDedup.command.Command.TheVariants as commands
use Rattle.cloud_areas.specs.UserDedup.Cloud.{held_bytes}
use Rattle.cloud_areas.specs.Placing.{recipes_placed, recipes_in, end_of, greatest_end, places_of}
use Rattle.cloud_areas.specs.Checkpoints.{PutRecord, put_body, AreEntries, IsCheckpointOfList}
use Rattle.cloud_areas.specs.Chains.{IsRecord, AreRecordsOfList, Summed, Then, laid_shares, AreLong}
use Rattle.cloud_disk.specs.Held.{IsBelow, AreBelow}

-- ---- places

abbrev pub EndsBefore : ℕ → Place → Type 0
EndsBefore end p = end_of p ≤ end

-- the greatest end is no less than the least one
pub greatest_least : (least : ℕ) (ps : List Place) → least ≤ greatest_end least ps
greatest_least least [] = omega arith
greatest_least least (p ∷ ps) = omega (arith, greatest_least least ps)

-- each place ends no further on, and then all of them
pub end_all : (least end : ℕ) (ps : List Place) → least ≤ end → All (EndsBefore end) ps → greatest_end least ps ≤ end
end_all least end [] le all = le
end_all least end (p ∷ ps) le all = omega (arith, All-head (EndsBefore end) p ps all, end_all least end ps le (All-tail (EndsBefore end) p ps all))

pub end_both : (least end : ℕ) (ps qs : List Place) → greatest_end least ps ≤ end → All (EndsBefore end) qs → greatest_end least (ps ++ qs) ≤ end
end_both least end [] qs le all = end_all least end qs le all
end_both least end (p ∷ ps) qs le all = let rest : greatest_end least ps ≤ end = omega (arith, le) in omega (arith, le, end_both least end ps qs rest all)

-- ---- shares

abbrev pub IsLong : List Command → Fp × Place → Type 0
IsLong list x = x.1.len ≡ length (held_bytes list x.0)

-- a share that is placed, with its string
abbrev placed_share : List Command → Fp × Place → Placed
placed_share list x = record { place = x.1.at; blob = held_bytes list x.0 }

pub shares_below : (list : List Command) (least end : ℕ) (xs : List (Fp × Place)) → AreLong list xs → greatest_end least (places_of xs) ≤ end → AreBelow end (laid_shares list xs)
shares_below list least end [] long le = All-nil (IsBelow end)
shares_below list least end (x ∷ xs) long le =
    let first : IsLong list x = All-head (IsLong list) x xs long in
    let rest : greatest_end least (places_of xs) ≤ end = omega (arith, le) in
    All-cons (IsBelow end) (placed_share list x) (laid_shares list xs) (omega (arith, le, first)) (shares_below list least end xs (All-tail (IsLong list) x xs long) rest)

pub shares_end : (list : List Command) (end : ℕ) (xs : List (Fp × Place)) → AreLong list xs → AreBelow end (laid_shares list xs) → All (EndsBefore end) (places_of xs)
shares_end list end [] long below = All-nil (EndsBefore end)
shares_end list end (x ∷ xs) long below =
    let first : IsLong list x = All-head (IsLong list) x xs long in
    let under : IsBelow end (placed_share list x) = All-head (IsBelow end) (placed_share list x) (laid_shares list xs) below in
    All-cons (EndsBefore end) x.1 (places_of xs) (omega (arith, first, under))
    (shares_end list end xs (All-tail (IsLong list) x xs long) (All-tail (IsBelow end) (placed_share list x) (laid_shares list xs) below))

-- ---- recipes

-- where a recipe lies
abbrev pub place_at : Placed → Place
place_at b = record { at = b.place; len = length b.blob }

pub recipes_below : (least end : ℕ) (bs : List Placed) → greatest_end least (map place_at bs) ≤ end → AreBelow end bs
recipes_below least end [] le = All-nil (IsBelow end)
recipes_below least end (b ∷ bs) le =
    let rest : greatest_end least (map place_at bs) ≤ end = omega (arith, le) in
    All-cons (IsBelow end) b bs (omega (arith, le)) (recipes_below least end bs rest)

pub recipes_end : (end : ℕ) (bs : List Placed) → AreBelow end bs → All (EndsBefore end) (map place_at bs)
recipes_end end [] below = All-nil (EndsBefore end)
recipes_end end (b ∷ bs) below =
    All-cons (EndsBefore end) (place_at b) (map place_at bs) (All-head (IsBelow end) b bs below) (recipes_end end bs (All-tail (IsBelow end) b bs below))

-- the recipe of a command's record
record_recipe : (region : ℕ) (before : List Body) (list : List Command) (command : Command) (body : Body) (laid : List Placed) → IsRecord region before list command body laid
    → recipes_placed body ≡ map place_at laid
record_recipe region before list (commands.Put user shares) body laid is = ap recipes_placed is.0.body_is ∙ sym (ap (map place_at) is.1)
record_recipe region before list (commands.Commit user tag version recipe) body laid is = ap recipes_placed is.body_is ∙ sym (ap (map place_at) is.laid_is)
record_recipe region before list (commands.Delete user tag version) body laid is = ap recipes_placed is.0 ∙ sym (ap (map place_at) is.1)

-- those of a checkpoint
no_puts : (puts : List PutRecord) → recipes_in (map put_body puts) ≡ []
no_puts [] = refl
no_puts (p ∷ puts) = no_puts puts

no_kept : (kept : List (List KeptItem)) → recipes_in (map bodies.Kept kept) ≡ []
no_kept [] = refl
no_kept (items ∷ kept) = no_kept kept

no_spent : (spents : List SpentBody) → recipes_in (map bodies.Spent spents) ≡ []
no_spent [] = refl
no_spent (s ∷ spents) = no_spent spents

entry_recipes : (shape : Shape) (list : List Command) (commits : List CommitBody) (recipes : List Placed) (more : List Body) → AreEntries shape list commits recipes → recipes_in more ≡ []
    → recipes_in (map bodies.Commit commits ++ more) ≡ map place_at recipes
entry_recipes shape list [] [] more are none = none
entry_recipes shape list [] (recipe ∷ recipes) more are none = absurd are
entry_recipes shape list (commit ∷ commits) [] more are none = absurd are
entry_recipes shape list (commit ∷ commits) (recipe ∷ recipes) more are none =
    let here : record { at = commit.at; len = commit.len } ≡ place_at recipe = λ i. record { at = sym are.0.place i; len = (are.0.len ∙ sym (ap (λ (l : List ℕ). length l) are.0.bytes)) i } in
    λ i. here i ∷ entry_recipes shape list commits recipes more are.1 none i

checkpoint_recipes : (format : ℕ) (shape : Shape) (list : List Command) (records : List Body) (recipes : List Placed) → IsCheckpointOfList format shape list records recipes → recipes_in records ≡ map place_at recipes
checkpoint_recipes format shape list records recipes k =
    let entries = map bodies.Commit k.commits ++ map bodies.Spent k.spents in
    ap recipes_in k.whole
    ∙ flat_map-append recipes_placed (map put_body k.puts) (map bodies.Kept k.kept ++ entries)
    ∙ ap (λ (l : List Place). l ++ recipes_in (map bodies.Kept k.kept ++ entries)) (no_puts k.puts)
    ∙ flat_map-append recipes_placed (map bodies.Kept k.kept) entries
    ∙ ap (λ (l : List Place). l ++ recipes_in entries) (no_kept k.kept)
    ∙ entry_recipes shape list k.commits recipes (map bodies.Spent k.spents) k.laid (no_spent k.spents)

-- The recipes that a chain places are where its records say.
pub recipes_said : (format : ℕ) (shape : Shape) (region records commands : ℕ) (bodies : List Body) (list : List Command) (recipes : List Placed)
    → AreRecordsOfList format shape region records commands bodies list recipes → recipes_in bodies ≡ map place_at recipes
recipes_said format shape region records commands _ _ _ (Summed bodies list recipes k few counted) = checkpoint_recipes format shape list bodies recipes k
recipes_said format shape region records commands _ _ _ (Then bodies list recipes body command laid before is) =
    flat_map-append recipes_placed bodies (body ∷ [])
    ∙ ap (λ (l : List Place). recipes_in bodies ++ l) (append-nil (recipes_placed body))
    ∙ (λ i. recipes_said format shape region records commands bodies list recipes before i ++ record_recipe region bodies list command body laid is i)
    ∙ sym (map-append place_at recipes laid)
