-- All lists that areas stand for are said by one chain.
use Rattle.std.proofs.Common.{◌≡◌, ℕ, List, [], ◌∷◌, length, map, take, drop, refl, sym, ap, ◌∙◌, subst}
use Rattle.std.specs.Prelude.{All}
use Rattle.std.proofs.lemmas.List.Elements.{All-head, All-tail}
use Rattle.journal_halves.specs.CdEdges.area.Area.TheVariants.{Journal, Recipes}
use Rattle.journal_halves.specs.CdEdges.Disk.{Image}
use Rattle.container_log.specs.Laying.{Placed, IsAt}
use Rattle.journal_halves.specs.Halves.{half_limit}
use Rattle.journal_halves.specs.Journals.{Where}
use Rattle.journal_halves.specs.JournalStart.start.Header.{Header}
use Rattle.journal_halves.specs.JournalStart.Spelling.{commands_of, records_of}
use Rattle.journal_halves.proofs.Current.{tail_same}
use Rattle.record_body.specs.Spelling.{Body, body_bytes, FitsBody}
use Rattle.record_body.proofs.BodyLaws as laws
use Rattle.user_dedup.specs.CdBase.place.Place.{Place}
use Rattle.user_dedup.specs.declared.command.Command.{Command}
use Rattle.cloud_areas.specs.Placing.{recipes_in}
use Rattle.cloud_areas.specs.Standing.{Chain, where_of, region_in, IsChain, Holds, StandsFor}
use Rattle.cloud_areas.specs.Laid.{place_by}
use Rattle.cloud_areas.proofs.Behind.{recipes_placed_by}
use Rattle.cloud_areas.proofs.Numbers.{has_by_chain}

pub head_same : (x y : List ℕ) (xs ys : List (List ℕ)) → x ∷ xs ≡ y ∷ ys → x ≡ y
head_same x y xs ys e = cc

-- records are known by their bytes
pub same_records : (a b : List Body) → All FitsBody a → All FitsBody b → map body_bytes a ≡ map body_bytes b → a ≡ b
same_records [] [] fa fb e = refl
same_records [] (y ∷ b) fa fb e = absurd (let no : [] ≡ body_bytes y ∷ map body_bytes b = e in cc)
same_records (x ∷ a) [] fa fb e = absurd (let no : body_bytes x ∷ map body_bytes a ≡ [] = e in cc)
same_records (x ∷ a) (y ∷ b) fa fb e =
    let one = laws.one x y (All-head FitsBody x a fa) (All-head FitsBody y b fb) (head_same (body_bytes x) (body_bytes y) (map body_bytes a) (map body_bytes b) e) in
    let rest = same_records a b (All-tail FitsBody x a fa) (All-tail FitsBody y b fb) (tail_same (body_bytes x) (body_bytes y) (map body_bytes a) (map body_bytes b) e) in
    λ i. one i ∷ rest i

-- and the recipes that they place by what lies there
abbrev pub blob_in : List ℕ → Place → Placed
blob_in bytes p = record { place = p.at; blob = take p.len (drop p.at bytes) }

pub by_places : (bytes : List ℕ) (recipes : List Placed) → All (IsAt bytes) recipes → map (blob_in bytes) (map place_by recipes) ≡ recipes
by_places bytes [] all = refl
by_places bytes (b ∷ recipes) all =
    let here : take (length b.blob) (drop b.place bytes) ≡ b.blob = All-head (IsAt bytes) b recipes all in
    λ i. record { place = b.place; blob = here i } ∷ by_places bytes recipes (All-tail (IsAt bytes) b recipes all) i

recipes_by_image : (header : Header) (image : Image) (list : List Command) (c : Chain) → Holds header image list c → map (blob_in (image Recipes)) (recipes_in c.records) ≡ c.recipes
recipes_by_image header image list c h =
    ap (map (blob_in (image Recipes)))
    (sym (recipes_placed_by header.format header.shape (region_in c) (records_of c.start.checkpoint) (commands_of c.start.checkpoint) c.records list c.recipes h.says))
    ∙ by_places (image Recipes) c.recipes h.recipes

pub by_one : (image : Image) (header : Header) (one two : List Command) (c : Chain) → IsChain header (half_limit header.rooms) (image Journal) c → Holds header image one c
    → StandsFor image header two → Holds header image two c
by_one image header one two c is h stands =
    let has = has_by_chain image header two (where_of c) stands is.there in
    let d = has.0.chain_of in
    let half : d.half ≡ c.half = ap (λ (w : Where). w.half) has.1 in
    let start : d.start ≡ c.start = ap (λ (w : Where). w.start) has.1 in
    let records : d.records ≡ c.records = same_records d.records c.records has.0.is_chain.fit is.fit (ap (λ (w : Where). w.bodies) has.1) in
    let recipes : d.recipes ≡ c.recipes =
    sym (recipes_by_image header image two d has.0.holds) ∙ ap (λ (l : List Body). map (blob_in (image Recipes)) (recipes_in l)) records ∙ recipes_by_image header image one c h in
    let same : d ≡ c = λ i. record { half = half i; start = start i; records = records i; recipes = recipes i } in
    subst (Holds header image two) same has.0.holds
