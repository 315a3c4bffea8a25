-- Where the blobs of a chain of format 1 lie.
use Rattle.std.proofs.Common.{◌≡◌, ◌≢◌, inl, inr, ℕ, zero, suc, ◌≤◌, List, [], ◌∷◌, ◌++◌, length, Some, refl, sym, ap, ◌∙◌, subst, arith}
use Rattle.std.specs.Prelude.{take}
use Rattle.std.specs.List.{Contains, flat_map}
use Rattle.std.specs.FinMap.{get}
use Rattle.std.proofs.lemmas.List.{take-append-le}
use Rattle.journal_halves.specs.CdBase.ids.Fp.{Fp}
use Rattle.journal_halves.specs.CdBase.place.Place.{Place}
use Rattle.journal_halves.specs.CdBase.shape.Shape.{Shape}
use Rattle.journal_halves.specs.CdEdges.area.Area.TheVariants.{Recipes}
use Rattle.journal_halves.specs.CdEdges.Disk.{Image}
use Rattle.record_laws.specs.ContainerLog.Laying.{Placed}
use Rattle.record_laws.specs.ContainerLog.Places.{LiesInOne}
use Rattle.compact_memories.specs.FileIndex.key.Entry.{Entry}
use Rattle.compact_memories.specs.FileIndex.key.FileKey.{FileKey}
use Rattle.journal_halves.specs.JournalStart.start.Header.{Header}
use Rattle.journal_halves.specs.JournalStart.Spelling.{commands_of, records_of, recipes_end_of}
use Rattle.first_records.specs.RecordBody.body.CommitBody.{CommitBody}
use Rattle.first_records.specs.RecordBody.Spelling as bodies
use Rattle.first_records.specs.RecordBody.Spelling.{Body}
use Rattle.compact_memories.specs.UserDedup.command.Command.{Command}
use Rattle.compact_memories.specs.UserDedup.command.Command.TheVariants as commands
use Rattle.compact_memories.specs.UserDedup.Cloud.{fingerprint, recipes_of}
use Rattle.compact_memories.proofs.UserDedup.Filtered.{in_flat}
use Rattle.compact_memories.proofs.UserDedup.Owned.{contains_here, contains_nothing, contains_cases}
use Rattle.compact_memories.specs.CloudAreas.Chains.{IsRecord, AreRecordsOfList, Summed, Then, DontOverlap}
use Rattle.compact_memories.specs.CloudAreas.FormatOne.{laid_strings, strings_end, laid_end, Lays}
use Rattle.compact_memories.specs.CloudAreas.Laid.{place_by}
use Rattle.compact_memories.specs.CloudAreas.Placing.{shares_in, recipes_placed, recipes_in, places_of, end_of, greatest_end, AreBehind, shares_end, recipes_end}
use Rattle.compact_memories.specs.CloudAreas.Standing.{Chain}
use Rattle.compact_memories.proofs.CloudAreas.Apart.{contains_get}
use Rattle.compact_memories.proofs.CloudAreas.Behind.{recipes_more, recipes_placed_by}
use Rattle.compact_memories.proofs.CloudAreas.Ends.{end_bound, apart_more}
use Rattle.compact_memories.proofs.CloudAreas.Lists.{from_map}
use Rattle.compact_memories.specs.CloudMemory.Memory.{Memory, commit_of}
use Rattle.compact_memories.specs.Moved.{PlacesApart, entry_place, PlacesLie}
use Rattle.record_laws.proofs.Chain.{checkpoint_within}
use Rattle.first_laws.specs.Holding.{MayHoldOne}
use Rattle.first_laws.specs.Leaving.{IsLeftOne}
use Rattle.first_laws.proofs.Chained.{says_one}
use Rattle.first_laws.proofs.Laid.{AllFit, each_laid, two_laid}
use Rattle.first_laws.proofs.Recipes.{end_more, laid_recipe, laid_sized}
use Rattle.first_laws.proofs.Strings.{laid_string, laid_share}
use Rattle.first_laws.proofs.CheckpointTaken.{same_commit}

-- ---- recipes that don't overlap

abbrev EachApart : List Place → Type 0
EachApart [] = Unit {0}
EachApart (p ∷ ps) = ((q : Place) → Contains ps q → PlacesApart p q) × EachApart ps

each_apart : (ps : List Place) → DontOverlap ps → EachApart ps
each_apart [] apart = tt
each_apart (p ∷ ps) apart = (
  λ q c.
      let k = contains_get ps q c in
      elim (apart zero (suc k.0) p q refl k.1) [
        | inl same ↦ absurd (omega (arith, same))
        | inr other ↦ other
      ],
  each_apart ps (λ i j a b at_i at_j. elim (apart (suc i) (suc j) a b at_i at_j) [
    | inl same ↦ inl (omega (arith, same))
    | inr other ↦ inr other
  ]),
)

rest_apart : (ps qs : List Place) → EachApart (ps ++ qs) → EachApart qs
rest_apart [] qs apart = apart
rest_apart (p ∷ ps) qs apart = rest_apart ps qs apart.1

abbrev place_at : CommitBody → Place
place_at c = record { at = c.at; len = c.len }

two_commits : (records : List Body) (c d : CommitBody) → EachApart (recipes_in records) → Contains records (bodies.Commit c) → Contains records (bodies.Commit d) → (c ≡ d → ⊥)
    → PlacesApart (place_at c) (place_at d)
two_commits [] c d apart in_c in_d other = absurd (contains_nothing (bodies.Commit c) in_c)
two_commits (body ∷ records) c d apart in_c in_d other = elim (contains_cases body records (bodies.Commit c) in_c) [
  | inl c_here ↦ elim (contains_cases body records (bodies.Commit d) in_d) [
    | inl d_here ↦ absurd (other (same_commit c d (sym c_here ∙ d_here)))
    | inr d_later ↦
        (subst (λ (b : Body). EachApart (recipes_in (b ∷ records))) c_here apart).0 (place_at d)
        (in_flat recipes_placed records (bodies.Commit d) (place_at d) d_later (contains_here (place_at d) []))
  ]
  | inr c_later ↦ elim (contains_cases body records (bodies.Commit d) in_d) [
    | inl d_here ↦ elim ((subst (λ (b : Body). EachApart (recipes_in (b ∷ records))) d_here apart).0 (place_at c)
        (in_flat recipes_placed records (bodies.Commit c) (place_at c) c_later (contains_here (place_at c) []))) [
          | inl before ↦ inr before
          | inr after ↦ inl after
        ]
    | inr d_later ↦ two_commits records c d (rest_apart (recipes_placed body) (recipes_in records) apart) c_later d_later other
  ]
]

record_behind : (before : List Body) (list : List Command) (command : Command) (body : Body) (laid : List Placed) → IsRecord 0 before list command body laid
    → AreBehind (greatest_end 0 (recipes_in before)) (recipes_placed body)
record_behind before list (commands.Put user shares) body laid is =
    subst (λ (b : Body). AreBehind (greatest_end 0 (recipes_in before)) (recipes_placed b)) (sym is.0.body_is) tt
record_behind before list (commands.Commit user tag version recipe) body laid is =
    subst (λ (b : Body). AreBehind (greatest_end 0 (recipes_in before)) (recipes_placed b)) (sym is.body_is) (is.behind, tt)
record_behind before list (commands.Delete user tag version) body laid is =
    subst (λ (b : Body). AreBehind (greatest_end 0 (recipes_in before)) (recipes_placed b)) (sym is.0) tt

take_all : {X : Type 0} (n : ℕ) (xs : List X) → length xs ≡ n → take n xs ≡ xs
take_all {X} n xs len = subst (λ (k : ℕ). take k xs ≡ xs) len (all xs)
  where
    all : (l : List X) → take (length l) l ≡ l
    all [] = refl
    all (x ∷ l) = ap (λ k. x ∷ k) (all l)

all_apart : (shape : Shape) (count commands : ℕ) (bodies : List Body) (list : List Command) (recipes : List Placed) → AreRecordsOfList 1 shape 0 count commands bodies list recipes
    → DontOverlap (recipes_in (take count bodies)) → DontOverlap (recipes_in bodies)
all_apart shape count commands _ _ _ (Summed bodies list recipes is len number) apart =
    subst (λ (l : List Body). DontOverlap (recipes_in l)) (take_all count bodies len) apart
all_apart shape count commands _ _ _ (Then before old laid body command more says is) apart =
    let within = checkpoint_within 1 shape 0 count commands before old laid says in
    let rest = all_apart shape count commands before old laid says (subst (λ (l : List Body). DontOverlap (recipes_in l)) (take-append-le count before (body ∷ []) within) apart) in
    subst DontOverlap (sym (recipes_more before body)) (apart_more 0 (recipes_in before) (recipes_placed body) rest (record_behind before old command body more is))

-- ---- a chain

module _ (header : Header) (image : Image) (list : List Command) (c : Chain) (may : MayHoldOne header list) (lays : Lays header image list c) where
  strings_fit : AllFit (laid_strings list)
  strings_fit s there = let share = laid_share header.shape header.cloud.0 list may.sound s there in let few = share.1 in omega (arith, few)

  recipes_fit : AllFit (flat_map recipes_of list)
  recipes_fit r there = let size = laid_sized header.shape header.cloud.0 list may.sound r there in let few = size.few in omega (arith, few)

  -- in one container, up to here
  abbrev LiesTo : ℕ → Place → Type 0
  LiesTo last p = LiesInOne p.at p.len × (end_of p ≤ last)

  pub share_to : (fp : Fp) (p : Place) → Contains (shares_in c.records) (fp, p) → LiesTo (strings_end list) p
  share_to fp p there =
      let s = laid_string list fp p (lays.places fp p there) in
      let b = each_laid 0 (laid_strings list) strings_fit s.blob s.there in
      subst (LiesTo (strings_end list)) s.named (b.in_one, b.within)

  shares_apart : (one two : Fp) (p q : Place) → Contains (shares_in c.records) (one, p) → Contains (shares_in c.records) (two, q) → one ≢ two → PlacesApart p q
  shares_apart one two p q in_p in_q other =
      let s = laid_string list one p (lays.places one p in_p) in
      let t = laid_string list two q (lays.places two q in_q) in
      elim (two_laid 0 (laid_strings list) strings_fit s.blob t.blob s.there t.there) [
        | inl same ↦ absurd (other (sym s.fp_is ∙ ap (λ (b : Placed). fingerprint b.blob) same ∙ t.fp_is))
        | inr apart ↦ subst (λ (x : Place × Place). PlacesApart x.0 x.1) (λ i. (s.named i, t.named i)) apart
      ]

  pub recipe_to : (p : Place) → Contains (recipes_in c.records) p → LiesTo (laid_end list) p
  recipe_to p there =
      let places = recipes_placed_by 1 header.shape 0 (records_of c.start.checkpoint) (commands_of c.start.checkpoint) c.records list c.recipes (says_one header image list c may lays) in
      let r = from_map place_by c.recipes p (subst (λ (l : List Place). Contains l p) (sym places) there) in
      let b = each_laid 0 (flat_map recipes_of list) recipes_fit r.0 (laid_recipe lays.before lays.after list lays.list_is r.0 (lays.recipes_laid r.0 r.1)) in
      subst (LiesTo (laid_end list)) r.2 (b.in_one, b.within)

  -- the start's end is one of the list's
  pub start_to : recipes_end_of c.start.checkpoint ≤ laid_end list
  start_to =
      subst (λ (n : ℕ). n ≤ laid_end list) (sym lays.end_is) (subst (λ (l : List Command). laid_end lays.before ≤ laid_end l) (sym lays.list_is) (end_more lays.before lays.after))

  -- what some of the records place ends where the list does
  pub shares_to : (records : List Body) → ((x : Fp × Place) → Contains (shares_in records) x → Contains (shares_in c.records) x) → shares_end 0 records ≤ strings_end list
  shares_to records among =
      end_bound 0 (strings_end list) (places_of (shares_in records)) (omega arith) (λ p there.
      let x = from_map (λ (y : Fp × Place). y.1) (shares_in records) p there in
      subst (λ (q : Place). end_of q ≤ strings_end list) x.2 (share_to x.0.0 x.0.1 (among x.0 x.1)).1)

  pub recipes_to : (records : List Body) → ((p : Place) → Contains (recipes_in records) p → Contains (recipes_in c.records) p) → recipes_end 0 records ≤ laid_end list
  recipes_to records among = end_bound 0 (laid_end list) (recipes_in records) (omega arith) (λ p there. (recipe_to p (among p there)).1)

  module _ (m : Memory) (one : IsLeftOne header.shape (image Recipes) (recipes_end_of c.start.checkpoint) list c.records m) where
    pub shares_bound : m.shares_end ≤ 8589934592
    shares_bound =
        let is : m.shares_end ≡ shares_end 0 c.records = one.left.shares in
        let to = shares_to c.records (λ x there. there) in
        let most = may.within.shares in
        omega (arith, is, to, most)

    pub recipes_bound : m.recipes_end ≤ 1073741824
    recipes_bound =
        let is = one.recipes in
        let to = recipes_to c.records (λ p there. there) in
        let start = start_to in
        let most = may.within.recipes in
        omega (arith, is, to, start, most)

    entry_there : (key : FileKey) (e : Entry) → get m.files key ≡ Some e
        → Contains c.records (bodies.Commit (commit_of (record { 0 = key.user }) (record { 0 = key.tag }) (record { 0 = key.version }) e))
    entry_there key e got = one.left.placed.recipes (record { 0 = key.user }) (record { 0 = key.tag }) (record { 0 = key.version }) e got

    pub places_lie : PlacesLie 0 8589934592 1073741824 m
    places_lie = record {
      shares = λ fp p got.
          let to = share_to fp p ((one.left.placed.shares fp p).0 got) in
          let end = to.1 in
          let most = may.within.shares in
          ((omega arith, to.0), omega (arith, end, most));
      shares_apart = λ a b p q got_p got_q other. shares_apart a b p q ((one.left.placed.shares a p).0 got_p) ((one.left.placed.shares b q).0 got_q) other;
      recipes = λ key e got.
          let there = in_flat recipes_placed c.records (bodies.Commit (commit_of (record { 0 = key.user }) (record { 0 = key.tag }) (record { 0 = key.version }) e)) (entry_place e)
          (entry_there key e got) (contains_here (entry_place e) []) in
          let to = recipe_to (entry_place e) there in
          let end = to.1 in
          let most = may.within.recipes in
          ((omega arith, to.0), omega (arith, end, most));
      recipes_apart = λ a b d e got_d got_e other.
          two_commits c.records (commit_of (record { 0 = a.user }) (record { 0 = a.tag }) (record { 0 = a.version }) d)
          (commit_of (record { 0 = b.user }) (record { 0 = b.tag }) (record { 0 = b.version }) e)
          (each_apart (recipes_in c.records) (all_apart header.shape (records_of c.start.checkpoint) (commands_of c.start.checkpoint) c.records list c.recipes
          (says_one header image list c may lays) lays.apart))
          (entry_there a d got_d) (entry_there b e got_e)
          (λ same. other (λ i. record { user = (same i).user.0; tag = (same i).tag.0; version = (same i).version.0 }));
    }
