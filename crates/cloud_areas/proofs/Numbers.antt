-- How many commands the lists have that areas stand for.
use Rattle.std.proofs.Common.{◌≡◌, inl, inr, ℕ, ◌+◌, ◌-◌, ◌^◌, ◌≤◌, min, true, List, [], ◌∷◌, length, map, refl, sym, ap, ◌∙◌, subst, arith, length-append}
use Rattle.std.proofs.lemmas.Bool.{false≢true}
use Rattle.user_dedup.specs.CdBase.shape.Shape.{Shape}
use Rattle.journal_halves.specs.CdEdges.area.Area.TheVariants.{Journal}
use Rattle.journal_halves.specs.CdEdges.Disk.{Image}
use Rattle.container_log.specs.Laying.{Placed}
use Rattle.journal_halves.specs.Beginnings.{IsUnbegun}
use Rattle.journal_halves.specs.Beginnings.{new_of}
use Rattle.journal_halves.specs.Halves.{is_half_begun}
use Rattle.journal_halves.specs.Journals.{Where, HasChain}
use Rattle.journal_halves.proofs.Current.{one_chain, begun_half}
use Rattle.journal_halves.specs.JournalStart.start.Header.{Header}
use Rattle.journal_halves.specs.JournalStart.Spelling.{commands_of, records_of}
use Rattle.record_body.specs.Spelling.{Body, body_bytes}
use Rattle.user_dedup.specs.declared.command.Command.{Command}
use Rattle.user_dedup.specs.Cloud.{counted}
use Rattle.cloud_areas.specs.Chains.{AreRecordsOfList, Summed, Then}
use Rattle.cloud_areas.specs.Standing.{Chain, where_of, Holds, HasList, HasChainOf, StandsFor, number_at}

length_map : {X Y : Type 0} (f : X → Y) (xs : List X) → length (map f xs) ≡ length xs
length_map f [] = refl
length_map f (x ∷ xs) = omega (arith, length_map f xs)

-- the number that the start says and one for each later record, as far as 64 bits reach
counted_on : (format : ℕ) (shape : Shape) (region records commands : ℕ) (bodies : List Body) (list : List Command) (recipes : List Placed)
    → AreRecordsOfList format shape region records commands bodies list recipes → (records ≤ length bodies) × (counted list ≡ min (commands + (length bodies - records)) (2 ^ 64 - 1))
counted_on format shape region records commands _ _ _ (Summed bodies list recipes is count number) =
    (omega (arith, count), omega (arith, count, number))
counted_on format shape region records commands _ _ _ (Then before old laid body command more says is) =
    let r = counted_on format shape region records commands before old laid says in
    (omega (arith, r.0, length-append before (body ∷ [])), omega (arith, r.0, r.1, length-append before (body ∷ []), length-append old (command ∷ [])))

-- a journal with a chain has a half that is begun
pub not_unbegun : (journal : List ℕ) (w : Where) → HasChain journal w → IsUnbegun journal → ⊥
not_unbegun journal w has none =
    let begun = begun_half journal w.half w.start has.current.begun in
    elim has.current.is_half [
      | inl first ↦ false≢true (sym none.first ∙ subst (λ (h : ℕ). is_half_begun h journal ≡ true) first begun)
      | inr second ↦ false≢true (sym none.second ∙ subst (λ (h : ℕ). is_half_begun h journal ≡ true) second begun)
    ]

pub number_of_chain : (header : Header) (image : Image) (list : List Command) (c : Chain) → Holds header image list c → counted list ≡ number_at (where_of c)
number_of_chain header image list c h =
    (counted_on header.format header.shape _ (records_of c.start.checkpoint) (commands_of c.start.checkpoint) c.records list c.recipes h.says).1
    ∙ ap (λ (n : ℕ). min (commands_of c.start.checkpoint + (n - records_of c.start.checkpoint)) (2 ^ 64 - 1)) (sym (length_map body_bytes c.records))

-- where the areas stand for a list and their journal has a chain, they have the list by that chain
pub has_by_chain : (image : Image) (header : Header) (list : List Command) (w : Where) → StandsFor image header list → HasChain (image Journal) w
    → (has : HasList image header list) × (where_of has.chain_of ≡ w)
unfolding StandsFor
has_by_chain image header list w stands has = elim stands.1 [
  | inl its ↦ (its, one_chain (image Journal) (where_of its.chain_of) w its.is_chain.there has)
  | inr none ↦ absurd (not_unbegun (image Journal) w has none.0)
]

pub number_is : (image : Image) (header : Header) (list : List Command) (w : Where) → StandsFor image header list → HasChain (image Journal) w
    → counted list ≡ number_at w
number_is image header list w stands has =
    let h = has_by_chain image header list w stands has in
    number_of_chain header image list h.0.chain_of h.0.holds ∙ ap number_at h.1

-- and where no half of it is begun, it has no commands
pub none_unbegun : (image : Image) (header : Header) (list : List Command) → StandsFor image header list → IsUnbegun (image Journal) → list ≡ []
unfolding StandsFor
none_unbegun image header list stands none = elim stands.1 [
  | inl its ↦ absurd (not_unbegun (image Journal) (where_of its.chain_of) its.is_chain.there none)
  | inr empty ↦ empty.1
]

pub same_number : (image : Image) (header : Header) (one two : List Command) → StandsFor image header one → StandsFor image header two → counted one ≡ counted two
unfolding StandsFor
same_number image header one two s t = elim s.1 [
  | inl its ↦ number_of_chain header image one its.chain_of its.holds ∙ sym (number_is image header two (where_of its.chain_of) t its.is_chain.there)
  | inr none ↦ ap counted (none.1 ∙ sym (none_unbegun image header two t none.0))
]

pub by_chain : (image : Image) (header : Header) (list : List Command) (w : Where) → StandsFor image header list → HasChain (image Journal) w → HasChainOf image header list w
by_chain image header list w stands has =
    let h = has_by_chain image header list w stands has in
    record { chain_of = h.0.chain_of; bytes = h.1; is_chain = h.0.is_chain; holds = h.0.holds }

-- where it has a start alone, they have no commands either
none_counted : (list : List Command) → counted list ≡ 0 → list ≡ []
none_counted [] e = refl
none_counted (c ∷ list) e = absurd (omega (arith, e))

pub none_started : (image : Image) (header : Header) (list : List Command) → StandsFor image header list → HasChain (image Journal) (new_of header) → list ≡ []
none_started image header list stands has = none_counted list (number_is image header list (new_of header) stands has)
