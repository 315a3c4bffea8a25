-- One record more says one command more, over areas that keep what was placed.
use Rattle.std.proofs.Common.{◌≡◌, ℕ, ◌≤◌, List, [], ◌∷◌, ◌++◌, length, sym, ap, ◌∙◌, subst}
use Rattle.std.specs.Prelude.{All}
use Rattle.std.specs.List.{Contains}
use Rattle.std.proofs.lemmas.List.{map-append}
use Rattle.std.proofs.lemmas.List.Elements.{All-append, All-push}
use Rattle.user_dedup.specs.CdBase.ids.Fp.{Fp}
use Rattle.journal_halves.specs.CdEdges.area.Area.TheVariants.{Shares, Recipes}
use Rattle.journal_halves.specs.CdEdges.Disk.{Image}
use Rattle.container_log.specs.Laying.{Placed, IsAt}
use Rattle.journal_halves.specs.Journals.{HasChain, with_body, used_by}
use Rattle.journal_halves.specs.JournalStart.start.Header.{Header}
use Rattle.journal_halves.specs.JournalStart.Spelling.{commands_of, records_of}
use Rattle.record_body.specs.Spelling.{Body, body_bytes, FitsBody}
use Rattle.user_dedup.specs.CdBase.place.Place.{Place}
use Rattle.user_dedup.specs.declared.command.Command.{Command}
use Rattle.user_dedup.specs.Cloud.{held_bytes}
use Rattle.cloud_areas.specs.Placing.{shares_in, shares_placed}
use Rattle.cloud_areas.specs.Chains.{Then, laid_shares, AreLong}
use Rattle.cloud_areas.specs.Standing.{Chain, where_of, region_in, IsChain, Holds}
use Rattle.cloud_areas.specs.Adding.{with_record, Adds, KeepsBlobs}
use Rattle.cloud_areas.proofs.Lists.{step_all, map_same}
use Rattle.cloud_areas.proofs.Placed.{placed_is_sent, held_stays, shares_more, record_is_long}

-- ---- the journal

pub where_more : (c : Chain) (body : Body) (laid : List Placed) → where_of (with_record c body laid) ≡ with_body (where_of c) (body_bytes body)
where_more c body laid = ap (λ (l : List (List ℕ)). record { half = c.half; start = c.start; bodies = l }) (map-append body_bytes c.records (body ∷ []))

pub chain_more : (header : Header) (limit : ℕ) (old new : List ℕ) (c : Chain) (body : Body) (laid : List Placed) → IsChain header limit old c → FitsBody body
    → HasChain new (with_body (where_of c) (body_bytes body)) → used_by (with_body (where_of c) (body_bytes body)) ≤ limit
    → IsChain header limit new (with_record c body laid)
chain_more header limit old new c body laid is fits there within = record {
  there = subst (HasChain new) (sym (where_more c body laid)) there;
  header_is = is.header_is;
  within = subst (λ w. used_by w ≤ limit) (sym (where_more c body laid)) within;
  fit = All-push FitsBody c.records body is.fit fits;
}

-- ---- what is placed

module _ (header : Header) (image : Image) (list : List Command) (c : Chain) (h : Holds header image list c) where
  stays : (command : Command) (x : Fp × Place) → Contains (shares_in c.records) x → held_bytes (list ++ command ∷ []) x.0 ≡ held_bytes list x.0
  stays command x in_c =
      held_stays list command x.0
      (placed_is_sent header.format header.shape (region_in c) (records_of c.start.checkpoint) (commands_of c.start.checkpoint) c.records list c.recipes h.says x in_c)

  -- what was placed is held in the longer list as it was
  pub laid_as_before : (command : Command) → laid_shares (list ++ command ∷ []) (shares_in c.records) ≡ laid_shares list (shares_in c.records)
  laid_as_before command =
      map_same (λ (x : Fp × Place). record { place = x.1.at; blob = held_bytes (list ++ command ∷ []) x.0 })
      (λ (x : Fp × Place). record { place = x.1.at; blob = held_bytes list x.0 })
      (shares_in c.records) (λ x in_c. ap (λ (l : List ℕ). record { place = x.1.at; blob = l }) (stays command x in_c))

  long_as_before : (command : Command) → AreLong (list ++ command ∷ []) (shares_in c.records)
  long_as_before command =
      step_all (λ (x : Fp × Place). x.1.len ≡ length (held_bytes list x.0)) (λ (x : Fp × Place). x.1.len ≡ length (held_bytes (list ++ command ∷ []) x.0))
      (shares_in c.records) (λ x in_c long. long ∙ ap (λ (l : List ℕ). length l) (sym (stays command x in_c))) h.long

  pub holds_more : (command : Command) (body : Body) (laid : List Placed) → Adds header image list c command body laid
      → Holds header image (list ++ command ∷ []) (with_record c body laid)
  holds_more command body laid a = record {
    says = Then c.records list c.recipes body command laid h.says a.is_record;
    long = subst (AreLong (list ++ command ∷ [])) (sym (shares_more c.records body))
        (All-append (λ (x : Fp × Place). x.1.len ≡ length (held_bytes (list ++ command ∷ []) x.0)) (shares_in c.records) (shares_placed body)
        (long_as_before command) (record_is_long (region_in c) c.records list command body laid a.is_record));
    shares = subst (All (IsAt (image Shares))) (sym laid_is)
        (All-append (IsAt (image Shares)) (laid_shares list (shares_in c.records)) (laid_shares (list ++ command ∷ []) (shares_placed body)) h.shares a.shares);
    recipes = All-append (IsAt (image Recipes)) c.recipes laid h.recipes a.recipes;
    rooms = a.rooms;
  }
    where
      laid_is : laid_shares (list ++ command ∷ []) (shares_in (c.records ++ body ∷ [])) ≡ laid_shares list (shares_in c.records) ++ laid_shares (list ++ command ∷ []) (shares_placed body)
      laid_is =
          ap (laid_shares (list ++ command ∷ [])) (shares_more c.records body)
          ∙ map-append (λ (x : Fp × Place). record { place = x.1.at; blob = held_bytes (list ++ command ∷ []) x.0 }) (shares_in c.records) (shares_placed body)
          ∙ ap (λ (l : List Placed). l ++ laid_shares (list ++ command ∷ []) (shares_placed body)) (laid_as_before command)

  pub holds_still : (other : Image) → KeepsBlobs image other list c → Holds header other list c
  holds_still other keeps = record {
    says = h.says;
    long = h.long;
    shares = step_all (IsAt (image Shares)) (IsAt (other Shares)) (laid_shares list (shares_in c.records)) keeps.shares h.shares;
    recipes = step_all (IsAt (image Recipes)) (IsAt (other Recipes)) c.recipes keeps.recipes h.recipes;
    rooms = h.rooms;
  }
