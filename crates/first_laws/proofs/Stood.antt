-- All lists that areas of format 1 stand for are said by one chain.
use Rattle.std.proofs.Common.{◌≡◌, inl, inr, List, [], map, sym, ap, ◌∙◌, subst}
use Rattle.journal_halves.specs.CdEdges.area.Area.TheVariants.{Journal, Recipes}
use Rattle.journal_halves.specs.CdEdges.Disk.{Image}
use Rattle.journal_halves.specs.Beginnings.{IsUnbegun}
use Rattle.journal_halves.specs.Halves.{half_len}
use Rattle.journal_halves.specs.Journals.{Where, HasChain}
use Rattle.journal_halves.proofs.Current.{one_chain}
use Rattle.journal_halves.specs.JournalStart.start.Header.{Header}
use Rattle.journal_halves.specs.JournalStart.Spelling.{commands_of, records_of}
use Rattle.first_records.specs.RecordBody.Spelling.{Body}
use Rattle.compact_memories.specs.UserDedup.command.Command.{Command}
use Rattle.compact_memories.specs.UserDedup.Dedup.{IsSound}
use Rattle.compact_memories.specs.CloudAreas.FormatOne.{Lays, StandsForOne}
use Rattle.compact_memories.specs.CloudAreas.Placing.{recipes_in}
use Rattle.compact_memories.specs.CloudAreas.Standing.{Chain, where_of, IsChain}
use Rattle.compact_memories.proofs.CloudAreas.Behind.{recipes_placed_by}
use Rattle.compact_memories.proofs.CloudAreas.Numbers.{not_unbegun}
use Rattle.compact_memories.proofs.CloudAreas.OneChain.{same_records, blob_in, by_places}
use Rattle.first_laws.specs.Standing.{HasChainOne}

pub is_sound : (image : Image) (header : Header) (list : List Command) → StandsForOne image header list → IsSound header.shape header.cloud.0 list
unfolding StandsForOne
is_sound image header list stands = stands.0

pub none_unbegun : (image : Image) (header : Header) (list : List Command) → StandsForOne image header list → IsUnbegun (image Journal) → list ≡ []
unfolding StandsForOne
none_unbegun image header list stands none = elim stands.1 [
  | inl its ↦ absurd (not_unbegun (image Journal) (where_of its.chain_of) its.is_chain.there none)
  | inr empty ↦ empty.1
]

pub by_chain : (image : Image) (header : Header) (list : List Command) (w : Where) → StandsForOne image header list → HasChain (image Journal) w → HasChainOne image header list w
unfolding StandsForOne
by_chain image header list w stands has = elim stands.1 [
  | inl its ↦ record {
    chain_of = its.chain_of;
    bytes = one_chain (image Journal) (where_of its.chain_of) w its.is_chain.there has;
    is_chain = its.is_chain;
    lays = its.lays;
  }
  | inr none ↦ absurd (not_unbegun (image Journal) w has none.0)
]

pub header_of : (image : Image) (header : Header) (list : List Command) (w : Where) → StandsForOne image header list → HasChain (image Journal) w → w.start.header ≡ header
header_of image header list w stands has =
    let its = by_chain image header list w stands has in
    ap (λ (v : Where). v.start.header) (sym its.bytes) ∙ its.is_chain.header_is

-- ---- one chain for all lists

recipes_by_image : (header : Header) (image : Image) (list : List Command) (c : Chain) → Lays header image list c → map (blob_in (image Recipes)) (recipes_in c.records) ≡ c.recipes
recipes_by_image header image list c lays =
    ap (map (blob_in (image Recipes)))
    (sym (recipes_placed_by header.format header.shape 0 (records_of c.start.checkpoint) (commands_of c.start.checkpoint) c.records list c.recipes lays.says))
    ∙ by_places (image Recipes) c.recipes lays.recipes

pub by_one : (image : Image) (header : Header) (one two : List Command) (c : Chain) → IsChain header half_len (image Journal) c → Lays header image one c
    → StandsForOne image header two → Lays header image two c
by_one image header one two c is lays stands =
    let has = by_chain image header two (where_of c) stands is.there in
    let d = has.chain_of in
    let half : d.half ≡ c.half = ap (λ (w : Where). w.half) has.bytes in
    let start : d.start ≡ c.start = ap (λ (w : Where). w.start) has.bytes in
    let records : d.records ≡ c.records = same_records d.records c.records has.is_chain.fit is.fit (ap (λ (w : Where). w.bodies) has.bytes) in
    let recipes : d.recipes ≡ c.recipes =
    sym (recipes_by_image header image two d has.lays) ∙ ap (λ (l : List Body). map (blob_in (image Recipes)) (recipes_in l)) records ∙ recipes_by_image header image one c lays in
    let same : d ≡ c = λ i. record { half = half i; start = start i; records = records i; recipes = recipes i } in
    subst (Lays header image two) same has.lays
