-- What the records of a memory place is what its maps have.
use Rattle.std.proofs.Common.{◌≡◌, inl, inr, ℕ, zero, suc, ◌+◌, Bool, true, false, cond, List, [], ◌∷◌, ◌++◌, length, map, Option, Some, None, refl, sym, ap, ◌∙◌, subst}
use Rattle.std.specs.Prelude.{All}
use Rattle.std.specs.FinMap.{FinMap, get}
use Rattle.std.specs.List.{Contains}
use Rattle.std.proofs.lemmas.List.Elements.{All-nil, All-cons, All-append, All-contains, Contains-append_left, Contains-append_right, Contains-append_cases}
use Rattle.cloud_memory.specs.CdBase.ids.Fp.{Fp}
use Rattle.cloud_memory.specs.FileIndex.key.Entry.{Entry}
use Rattle.cloud_memory.specs.FileIndex.key.FileKey.{FileKey}
use Rattle.cloud_memory.specs.RecordBody.body.KeptItem.{KeptItem}
use Rattle.cloud_memory.specs.RecordBody.body.SpentBody.{SpentBody}
use Rattle.cloud_memory.specs.RecordBody.Spelling as bodies
use Rattle.cloud_memory.specs.RecordBody.Spelling.{Body}
use Rattle.cloud_memory.specs.RecordBody.body.CommitBody.{CommitBody}
use Rattle.cloud_memory.specs.RecordBody.body.PutItem.{PutItem}
use Rattle.cloud_memory.specs.CdBase.place.Place.{Place}
use Rattle.cloud_memory.specs.CdBase.Order.{fp_cmp}
use Rattle.cloud_memory.specs.UserDedup.Owning.{is_among}
use Rattle.cloud_memory.proofs.UserDedup.Owned.{contains_here, contains_later, contains_nothing, contains_cases}
use Rattle.cloud_memory.proofs.UserDedup.Filtered.{in_flat, from_flat}
use Rattle.cloud_disk.specs.CloudAreas.Checkpoints.{PutRecord, put_body, items_in}
use Rattle.cloud_disk.specs.CloudAreas.Placing.{places_given, places_kept, shares_placed, recipes_placed, shares_in, recipes_in}
use Rattle.cloud_disk.proofs.CloudAreas.Lists.{in_map, from_map}
use Rattle.cloud_memory.specs.declared.cloud.CloudMemory.{CloudMemory}
use Rattle.cloud_memory.specs.ShareIndex.Shares.{Shares}
use Rattle.checkpoints.specs.Picking.{picked, batches}
use Rattle.checkpoints.specs.Records.{owned_in, item_of, items_of, items_from, puts_from, listed, kept_at, kept_from, commit_in, commit_at, commits_from, spents_from, records_of}
use Rattle.checkpoints.specs.Known.{AreListed}
use Rattle.checkpoints.proofs.Sought.{from_picked, in_picked}
use Rattle.checkpoints.proofs.FullBatches.{flat_batched}
use Rattle.checkpoints.proofs.Owns.{items_together}
use Rattle.checkpoints.proofs.KeptLaw.{kept_gives, item_in}

-- ---- items of Puts

-- A place that the item gives is the map's.
abbrev IsGiven : FinMap fp_cmp Place → PutItem → Type 0
IsGiven places item = (place : Place) → item.place ≡ Some place → get places item.fp.0 ≡ Some place

given_by : (b : Bool) (o : Option Place) (place : Place) → cond b None o ≡ Some place → o ≡ Some place
given_by true o place e = absurd (let no : ◌≡◌ {A = Option Place} None (Some place) = e in cc)
given_by false o place e = e

items_given : (places : FinMap fp_cmp Place) (before fps : List Fp) → All (IsGiven places) (items_of places before fps)
items_given places before [] = All-nil (IsGiven places)
items_given places before (fp ∷ fps) =
    All-cons (IsGiven places) (item_of places before fp) (items_of places (before ++ fp ∷ []) fps) (λ place e. given_by (is_among before fp) (get places fp.0) place e) (items_given places (before ++ fp ∷ []) fps)

puts_given : (shares : Shares) (left u : ℕ) → All (IsGiven shares.places) (items_in (puts_from shares left u 0))
puts_given shares zero u = All-nil (IsGiven shares.places)
puts_given shares (suc left) u =
    let others = puts_from shares left (u + 1) 0 in
    subst (All (IsGiven shares.places)) (sym (items_together shares u others))
    (All-append (IsGiven shares.places) (items_from shares u 0) (items_in others) (items_given shares.places (listed shares.owner_slots u 0) (owned_in u shares.owner_slots)) (puts_given shares left (u + 1)))

-- an item that gives a place
record Gives (items : List PutItem) (x : Fp × Place) : Type 0 where
  item : PutItem
  here : Contains items item
  fp_is : item.fp ≡ x.0
  place_is : item.place ≡ Some x.1

gives_later : (i : PutItem) (items : List PutItem) (x : Fp × Place) → Gives items x → Gives (i ∷ items) x
gives_later i items x g = record { item = g.item; here = contains_later i items g.item g.here; fp_is = g.fp_is; place_is = g.place_is }

-- by the place of the first item
by_first : (fp : Fp) (o : Option Place) (items : List PutItem) (x : Fp × Place) → (Contains (places_given items) x → Gives items x)
    → Contains (places_given (record { fp = fp; place = o } ∷ items)) x → Gives (record { fp = fp; place = o } ∷ items) x
by_first fp None items x rest c = gives_later (record { fp = fp; place = None }) items x (rest c)
by_first fp (Some place) items x rest c =
    let first : PutItem = record { fp = fp; place = Some place } in
    elim (contains_cases {A = Fp × Place} (fp, place) (places_given items) x c) [
      | inl same ↦ record { item = first; here = contains_here first items; fp_is = ap (λ (y : Fp × Place). y.0) same; place_is = ap (λ (y : Fp × Place). Some y.1) same }
      | inr more ↦ gives_later first items x (rest more)
    ]

from_given : (items : List PutItem) (x : Fp × Place) → Contains (places_given items) x → Gives items x
from_given [] x c = absurd (contains_nothing x c)
from_given (i ∷ items) x c = by_first i.fp i.place items x (from_given items x) c

module _ (memory : CloudMemory) (l : AreListed memory) where
  abbrev Puts : List Body
  Puts = map put_body (puts_from memory.shares (length memory.spent) 0 0)

  abbrev Kepts : List Body
  Kepts = map bodies.Kept (batches (kept_from memory.shares 0))

  abbrev Commits : List Body
  Commits = map bodies.Commit (commits_from memory.files 0)

  abbrev Spents : List Body
  Spents = map bodies.Spent (spents_from memory.spent 0)

  -- A record stands in one of the four parts.
  data Part (body : Body) : Type 0 where
    Of_put : (p : PutRecord) → Contains (puts_from memory.shares (length memory.spent) 0 0) p → put_body p ≡ body → Part body
    Of_kept : (items : List KeptItem) → Contains (batches (kept_from memory.shares 0)) items → bodies.Kept items ≡ body → Part body
    Of_commit : (c : CommitBody) → Contains (commits_from memory.files 0) c → bodies.Commit c ≡ body → Part body
    Of_spent : (s : SpentBody) → Contains (spents_from memory.spent 0) s → bodies.Spent s ≡ body → Part body

  part_of : (body : Body) → Contains (records_of memory) body → Part body
  part_of body c = elim (Contains-append_cases Puts (Kepts ++ (Commits ++ Spents)) body c) [
    | inl p ↦ let m = from_map put_body (puts_from memory.shares (length memory.spent) 0 0) body p in Of_put m.0 m.1 m.2
    | inr more ↦ elim (Contains-append_cases Kepts (Commits ++ Spents) body more) [
      | inl k ↦ let m = from_map bodies.Kept (batches (kept_from memory.shares 0)) body k in Of_kept m.0 m.1 m.2
      | inr most ↦ elim (Contains-append_cases Commits Spents body most) [
        | inl d ↦ let m = from_map bodies.Commit (commits_from memory.files 0) body d in Of_commit m.0 m.1 m.2
        | inr s ↦ let m = from_map bodies.Spent (spents_from memory.spent 0) body s in Of_spent m.0 m.1 m.2
      ]
    ]
  ]

  -- ---- shares

  put_gives : (p : PutRecord) → Contains (puts_from memory.shares (length memory.spent) 0 0) p → (x : Fp × Place) → Contains (places_given p.items) x → get memory.shares.places x.0.0 ≡ Some x.1
  put_gives p c x in_p =
      let g = from_given p.items x in_p in
      let puts = puts_from memory.shares (length memory.spent) 0 0 in
      let all = All-contains (IsGiven memory.shares.places) (items_in puts) g.item (puts_given memory.shares (length memory.spent) 0)
      (in_flat (λ (q : PutRecord). q.items) puts p g.item c g.here) in
      ap (λ (fp : Fp). get memory.shares.places fp.0) (sym g.fp_is) ∙ all x.1 g.place_is

  kept_gives_place : (items : List KeptItem) → Contains (batches (kept_from memory.shares 0)) items → (x : Fp × Place) → Contains (places_kept items) x → get memory.shares.places x.0.0 ≡ Some x.1
  kept_gives_place items c x in_items =
      let item = from_map (λ (i : KeptItem). (i.fp, i.place)) items x in_items in
      let kept = picked (kept_at memory.shares.owners) memory.shares.place_slots in
      let in_kept = subst (λ (xs : List KeptItem). Contains xs item.0) (flat_batched [] kept) (in_flat (λ (xs : List KeptItem). xs) (batches kept) items item.0 c item.1) in
      let s = from_picked (kept_at memory.shares.owners) refl memory.shares.place_slots item.0 in_kept in
      let same : item_in s.entry ≡ item.0 = (kept_gives memory.shares.owners s.entry item.0 s.picks).1 in
      ap (λ (y : Fp × Place). get memory.shares.places y.0.0) (sym item.2)
      ∙ ap (λ (i : KeptItem). get memory.shares.places i.fp.0) (sym same)
      ∙ l.places.listed s.slot s.entry.0 s.entry.1 s.here
      ∙ ap (λ (i : KeptItem). Some i.place) same
      ∙ ap (λ (y : Fp × Place). Some y.1) item.2

  pub shares_given : (x : Fp × Place) → Contains (shares_in (records_of memory)) x → get memory.shares.places x.0.0 ≡ Some x.1
  shares_given x c = let b = from_flat shares_placed (records_of memory) x c in by_part b.0 b.2 (part_of b.0 b.1)
    where
      by_part : (body : Body) → Contains (shares_placed body) x → Part body → get memory.shares.places x.0.0 ≡ Some x.1
      by_part body in_body (Of_put p there is) = put_gives p there x (subst (λ (b : Body). Contains (shares_placed b) x) (sym is) in_body)
      by_part body in_body (Of_kept items there is) = kept_gives_place items there x (subst (λ (b : Body). Contains (shares_placed b) x) (sym is) in_body)
      by_part body in_body (Of_commit d there is) = absurd (contains_nothing x (subst (λ (b : Body). Contains (shares_placed b) x) (sym is) in_body))
      by_part body in_body (Of_spent s there is) = absurd (contains_nothing x (subst (λ (b : Body). Contains (shares_placed b) x) (sym is) in_body))

  -- ---- entries

  -- A Commit names an entry of the map.
  pub record Names (commit : CommitBody) : Type 0 where
    pub key : FileKey
    pub entry : Entry
    pub at : get memory.files.files key ≡ Some entry
    pub is : commit_in key entry ≡ commit

  abbrev commit_or : CommitBody → Option CommitBody → CommitBody
  commit_or other None = other
  commit_or other (Some c) = c

  pub names_of : (c : CommitBody) → Contains (commits_from memory.files 0) c → Names c
  names_of c there =
      let s = from_picked commit_at refl memory.files.slots c there in
      record { key = s.entry.0; entry = s.entry.1; at = l.entries.listed s.slot s.entry.0 s.entry.1 s.here; is = ap (commit_or c) s.picks }

  abbrev commit_else : CommitBody → Body → CommitBody
  commit_else other (bodies.Put user items) = other
  commit_else other (bodies.Commit c) = c
  commit_else other (bodies.Delete d) = other
  commit_else other (bodies.Kept items) = other
  commit_else other (bodies.Spent s) = other

  abbrev is_commit : Body → Bool
  is_commit (bodies.Put user items) = false
  is_commit (bodies.Commit c) = true
  is_commit (bodies.Delete d) = false
  is_commit (bodies.Kept items) = false
  is_commit (bodies.Spent s) = false

  not_commit : (body : Body) (c : CommitBody) → is_commit body ≡ false → body ≡ bodies.Commit c → ⊥
  not_commit body c isnt is = let bad : true ≡ false = sym (ap is_commit is) ∙ isnt in cc

  pub commit_given : (c : CommitBody) → Contains (records_of memory) (bodies.Commit c) → Names c
  commit_given c there = by_part (part_of (bodies.Commit c) there)
    where
      by_part : Part (bodies.Commit c) → Names c
      by_part (Of_put p there is) = absurd (not_commit (put_body p) c refl is)
      by_part (Of_kept items there is) = absurd (not_commit (bodies.Kept items) c refl is)
      by_part (Of_commit d there is) = subst Names (ap (commit_else c) is) (names_of d there)
      by_part (Of_spent s there is) = absurd (not_commit (bodies.Spent s) c refl is)

  pub commit_there : (key : FileKey) (e : Entry) → get memory.files.files key ≡ Some e → Contains (records_of memory) (bodies.Commit (commit_in key e))
  commit_there key e at =
      let s = l.entries.stands key e at in
      Contains-append_right Puts (Kepts ++ (Commits ++ Spents)) (bodies.Commit (commit_in key e))
      (Contains-append_right Kepts (Commits ++ Spents) (bodies.Commit (commit_in key e))
      (Contains-append_left Commits Spents (bodies.Commit (commit_in key e))
      (in_map bodies.Commit (commits_from memory.files 0) (commit_in key e) (in_picked commit_at refl memory.files.slots s.0 (key, e) (commit_in key e) s.2 refl))))

  -- a recipe's place is that of a Commit
  pub recipe_given : (p : Place) → Contains (recipes_in (records_of memory)) p → (c : CommitBody) × Contains (records_of memory) (bodies.Commit c) × Contains (recipes_placed (bodies.Commit c)) p
  recipe_given p c = let b = from_flat recipes_placed (records_of memory) p c in by_part b.0 b.1 b.2 (part_of b.0 b.1)
    where
      by_part : (body : Body) → Contains (records_of memory) body → Contains (recipes_placed body) p → Part body → (c : CommitBody) × Contains (records_of memory) (bodies.Commit c) × Contains (recipes_placed (bodies.Commit c)) p
      by_part body in_all in_body (Of_put q there is) = absurd (contains_nothing p (subst (λ (b : Body). Contains (recipes_placed b) p) (sym is) in_body))
      by_part body in_all in_body (Of_kept items there is) = absurd (contains_nothing p (subst (λ (b : Body). Contains (recipes_placed b) p) (sym is) in_body))
      by_part body in_all in_body (Of_commit d there is) = (d, subst (Contains (records_of memory)) (sym is) in_all, subst (λ (b : Body). Contains (recipes_placed b) p) (sym is) in_body)
      by_part body in_all in_body (Of_spent s there is) = absurd (contains_nothing p (subst (λ (b : Body). Contains (recipes_placed b) p) (sym is) in_body))
