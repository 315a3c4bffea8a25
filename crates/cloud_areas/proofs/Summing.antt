-- A checkpoint in its place says the same list.
use Rattle.std.proofs.Common.{◌≡◌, ℕ, List, [], ◌∷◌, ◌++◌, length, map, refl, sym, ap, ◌∙◌, subst, arith, inl, inr, append-nil}
use Rattle.std.specs.List.{Contains, flat_map}
use Rattle.std.proofs.lemmas.List.Elements.{All-contains}
use Rattle.std.proofs.lemmas.Grind.{flat_map-append}
use Rattle.user_dedup.specs.CdBase.ids.Fp.{Fp}
use Rattle.user_dedup.specs.CdBase.shape.Shape.{Shape}
use Rattle.journal_halves.specs.CdEdges.area.Area.TheVariants.{Journal, Shares}
use Rattle.journal_halves.specs.CdEdges.Disk.{Image}
use Rattle.container_log.specs.Laying.{Placed, IsAt}
use Rattle.journal_halves.specs.Halves.{half_limit}
use Rattle.journal_halves.specs.JournalStart.start.Header.{Header}
use Rattle.record_body.specs.declared.body.CommitBody.{CommitBody}
use Rattle.record_body.specs.declared.body.KeptItem.{KeptItem}
use Rattle.record_body.specs.declared.body.SpentBody.{SpentBody}
use Rattle.record_body.specs.Spelling as bodies
use Rattle.record_body.specs.Spelling.{Body}
use Rattle.user_dedup.specs.CdBase.place.Place.{Place}
use Rattle.user_dedup.proofs.Owned.{contains_here, contains_nothing, contains_cases}
use Rattle.user_dedup.specs.declared.command.Command.{Command}
use Rattle.user_dedup.specs.Dedup.{IsSound}
use Rattle.user_dedup.specs.Cloud.{held_bytes}
use Rattle.user_dedup.specs.Spending.{spent_by_all}
use Rattle.user_dedup.proofs.Filtered.{in_flat, from_flat}
use Rattle.user_dedup.proofs.Sound.{contained}
use Rattle.cloud_areas.specs.Placing.{shares_in, recipes_in, region_start, greatest_end, places_of}
use Rattle.cloud_areas.specs.Checkpoints.{PutRecord, put_body, key_of, IsCheckpointOfList}
use Rattle.cloud_areas.specs.Chains.{Summed, laid_shares, LiesIn, HaveRoom, BothHaveRoom, least_shares, least_recipes}
use Rattle.cloud_areas.specs.Standing.{Chain, region_in, IsChain, Holds, StandsFor}
use Rattle.cloud_areas.specs.Summaries.{SumsUp}
use Rattle.cloud_areas.proofs.Begun.{has_stands}
use Rattle.cloud_areas.proofs.Lists.{in_map, from_map}
use Rattle.cloud_areas.proofs.Apart.{Apart, apart_from, apart_by}
use Rattle.cloud_areas.proofs.Ends.{end_least, end_each, end_bound, apart_within}
use Rattle.cloud_areas.proofs.Once.{checkpoint_once}

-- ---- commits

abbrev pub commit_in : Body → List CommitBody
commit_in (bodies.Put user items) = []
commit_in (bodies.Commit c) = c ∷ []
commit_in (bodies.Delete d) = []
commit_in (bodies.Kept items) = []
commit_in (bodies.Spent s) = []

abbrev pub commits_in : List Body → List CommitBody
commits_in records = flat_map commit_in records

abbrev pub place_of_commit : CommitBody → Place
place_of_commit c = record { at = c.at; len = c.len }

pub recipes_by_commits : (records : List Body) → recipes_in records ≡ map place_of_commit (commits_in records)
recipes_by_commits [] = refl
recipes_by_commits (bodies.Put user items ∷ records) = recipes_by_commits records
recipes_by_commits (bodies.Commit c ∷ records) = ap (λ l. record { at = c.at; len = c.len } ∷ l) (recipes_by_commits records)
recipes_by_commits (bodies.Delete d ∷ records) = recipes_by_commits records
recipes_by_commits (bodies.Kept items ∷ records) = recipes_by_commits records
recipes_by_commits (bodies.Spent s ∷ records) = recipes_by_commits records

in_commits : (records : List Body) (c : CommitBody) → Contains records (bodies.Commit c) → Contains (commits_in records) c
in_commits records c here = in_flat commit_in records (bodies.Commit c) c here (contains_here c [])

-- a Commit among the records
pub from_commits : (records : List Body) (c : CommitBody) → Contains (commits_in records) c → Contains records (bodies.Commit c)
from_commits records c here = let f = from_flat commit_in records c here in by_kind f.0 f.1 f.2
  where
    by_kind : (body : Body) → Contains records body → Contains (commit_in body) c → Contains records (bodies.Commit c)
    by_kind (bodies.Put user items) there none = absurd (contains_nothing c none)
    by_kind (bodies.Commit d) there one = elim (contains_cases d [] c one) [
      | inl same ↦ subst (λ (e : CommitBody). Contains records (bodies.Commit e)) same there
      | inr none ↦ absurd (contains_nothing c none)
    ]
    by_kind (bodies.Delete d) there none = absurd (contains_nothing c none)
    by_kind (bodies.Kept items) there none = absurd (contains_nothing c none)
    by_kind (bodies.Spent s) there none = absurd (contains_nothing c none)

-- a checkpoint's
puts_none : (puts : List PutRecord) → commits_in (map put_body puts) ≡ []
puts_none [] = refl
puts_none (p ∷ puts) = puts_none puts

kept_none : (kept : List (List KeptItem)) → commits_in (map bodies.Kept kept) ≡ []
kept_none [] = refl
kept_none (k ∷ kept) = kept_none kept

spents_none : (spents : List SpentBody) → commits_in (map bodies.Spent spents) ≡ []
spents_none [] = refl
spents_none (s ∷ spents) = spents_none spents

commits_all : (commits : List CommitBody) → commits_in (map bodies.Commit commits) ≡ commits
commits_all [] = refl
commits_all (c ∷ commits) = ap (λ l. c ∷ l) (commits_all commits)

commits_more : (a b : List Body) → commits_in (a ++ b) ≡ commits_in a ++ commits_in b
commits_more a b = flat_map-append commit_in a b

pub checkpoint_commits : (format : ℕ) (shape : Shape) (list : List Command) (records : List Body) (recipes : List Placed) (is : IsCheckpointOfList format shape list records recipes)
    → commits_in records ≡ is.commits
checkpoint_commits format shape list records recipes is =
    let puts = map put_body is.puts in
    let kept = map bodies.Kept is.kept in
    let commits = map bodies.Commit is.commits in
    let spents = map bodies.Spent is.spents in
    ap commits_in is.whole
    ∙ commits_more puts (kept ++ (commits ++ spents))
    ∙ (λ i. puts_none is.puts i ++ commits_in (kept ++ (commits ++ spents)))
    ∙ commits_more kept (commits ++ spents)
    ∙ (λ i. kept_none is.kept i ++ commits_in (commits ++ spents))
    ∙ commits_more commits spents
    ∙ (λ i. commits_all is.commits i ++ spents_none is.spents i)
    ∙ append-nil is.commits

-- ---- fewer places in a room

-- some of the things that an area has, none of them twice, have room where all of them have
room_within : {X : Type 0} (f : X → Place) (region least spent : ℕ) (news olds : List X) → Apart news → ((x : X) → Contains news x → Contains olds x)
    → HaveRoom region least spent (map f olds) → HaveRoom region least spent (map f news)
room_within f region least spent news olds once among room = record {
  each = contained (LiesIn region) (map f news) (λ p c. All-contains (LiesIn region) (map f olds) p room.each (old_place p c));
  apart = apart_within f news olds once among room.apart;
  bound = (
      let no_further = end_bound (region_start region) (greatest_end (region_start region) (map f olds)) (map f news) (end_least (region_start region) (map f olds))
      (λ p c. end_each (region_start region) (map f olds) p (old_place p c)) in
      omega (arith, no_further, room.bound)
      );
}
  where
    old_place : (p : Place) → Contains (map f news) p → Contains (map f olds) p
    old_place p c =
        let x = from_map f news p c in
        subst (Contains (map f olds)) x.2 (in_map f olds x.0 (among x.0 x.1))

-- ---- the law

abbrev laid_at : List Command → Fp × Place → Placed
laid_at list x = record { place = x.1.at; blob = held_bytes list x.0 }

module _ (header : Header) (image : Image) (list : List Command) (old c : Chain) (h : Holds header image list old) (s : SumsUp header image list old c) where
  shares_room : HaveRoom (region_in old) least_shares (spent_by_all list).shares (places_of (shares_in c.records))
  shares_room =
      room_within (λ (x : Fp × Place). x.1) (region_in old) least_shares (spent_by_all list).shares (shares_in c.records) (shares_in old.records)
      (apart_by (λ (x : Fp × Place). x.0) (shares_in c.records) (checkpoint_once header.format header.shape list c.records c.recipes s.is_checkpoint))
      s.shares h.rooms.shares

  recipes_room : HaveRoom (region_in old) least_recipes (spent_by_all list).recipes (recipes_in c.records)
  recipes_room =
      subst (HaveRoom (region_in old) least_recipes (spent_by_all list).recipes) (sym (recipes_by_commits c.records))
      (room_within place_of_commit (region_in old) least_recipes (spent_by_all list).recipes (commits_in c.records) (commits_in old.records)
      (subst Apart (sym (checkpoint_commits header.format header.shape list c.records c.recipes s.is_checkpoint))
      (apart_by key_of s.is_checkpoint.commits (apart_from (map key_of s.is_checkpoint.commits) s.is_checkpoint.entries.once)))
      (λ commit here. in_commits old.records commit (s.commits commit (from_commits c.records commit here)))
      (subst (HaveRoom (region_in old) least_recipes (spent_by_all list).recipes) (recipes_by_commits old.records) h.rooms.recipes))

  rooms : BothHaveRoom (region_in c) list c.records
  rooms = subst (λ (region : ℕ). BothHaveRoom region list c.records) (sym s.region) (record { shares = shares_room; recipes = recipes_room })

  pub sums_up : Holds header image list c
  sums_up = record {
    says = Summed c.records list c.recipes s.is_checkpoint s.records s.commands;
    long = contained (λ (x : Fp × Place). x.1.len ≡ length (held_bytes list x.0)) (shares_in c.records)
        (λ x here. All-contains (λ (y : Fp × Place). y.1.len ≡ length (held_bytes list y.0)) (shares_in old.records) x h.long (s.shares x here));
    shares = contained (IsAt (image Shares)) (laid_shares list (shares_in c.records)) (λ b here.
        let x = from_map (laid_at list) (shares_in c.records) b here in
        All-contains (IsAt (image Shares)) (laid_shares list (shares_in old.records)) b h.shares
        (subst (Contains (laid_shares list (shares_in old.records))) x.2 (in_map (laid_at list) (shares_in old.records) x.0 (s.shares x.0 x.1))));
    recipes = s.recipes;
    rooms = rooms;
  }

pub summed_stands : (header : Header) (image : Image) (list : List Command) (old c : Chain) → IsSound header.shape header.cloud.0 list → Holds header image list old
    → SumsUp header image list old c → IsChain header (half_limit header.rooms) (image Journal) c → StandsFor image header list
summed_stands header image list old c sound h s is = has_stands image header list c sound is (sums_up header image list old c h s)
