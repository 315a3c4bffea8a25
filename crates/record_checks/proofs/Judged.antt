-- The ways out of a record's checks.
use Rattle.std.proofs.Common.{◌≡◌, ℕ, ◌+◌, Bool, true, false, List, length, Ok, Err, inl, inr, refl, sym, ap, ◌∙◌, subst, arith}
use Rattle.std.specs.Prelude.{◌⊎◌, ◌↔◌, IsTrue, Result, max, sum_by, OnOk, MatchResult, if◌then◌else◌}
use Rattle.std.specs.FinMap.{get}
use Rattle.cloud_memory.specs.CdBase.ids.Fp.{Fp}
use Rattle.cloud_memory.specs.CdBase.ids.UserId.{UserId}
use Rattle.cloud_memory.specs.FileIndex.key.FileKey.{FileKey}
use Rattle.cloud_memory.specs.FileIndex.Files.{used_by as files_used}
use Rattle.cloud_memory.specs.PoolMap.accounts.Accounts.{Accounts}
use Rattle.cloud_memory.specs.PoolMap.Accounts.{use_for, limit_for, keys_of}
use Rattle.cloud_memory.specs.JournalStart.rooms.UserRooms.{UserRooms}
use Rattle.cloud_memory.specs.UserDedup.Spending.{files_limit}
use Rattle.cloud_memory.specs.RecordBody.body.KeptItem.{KeptItem}
use Rattle.cloud_memory.specs.RecordBody.Spelling.{Put, Commit, Kept}
use Rattle.cloud_memory.specs.RecordBody.body.CommitBody.{CommitBody}
use Rattle.cloud_memory.specs.RecordBody.body.PutItem.{PutItem}
use Rattle.cloud_memory.specs.SpentTable.Spent.{Spent}
use Rattle.cloud_memory.specs.SpentTable.Spending.{of_shares, of_recipe}
use Rattle.cloud_memory.specs.UserDedup.Requests.{fps_of}
use Rattle.cloud_memory.specs.declared.cloud.CloudMemory.{CloudMemory}
use Rattle.cloud_memory.specs.Memory.{Memory}
use Rattle.cloud_memory.specs.Rooms.{memory_of, HasRooms}
use Rattle.cloud_memory.specs.Steps.{with_items, with_kepts, with_entry, placed_len, spends, spent_on}
use Rattle.cloud_memory.specs.Sharing.{AreOwned}
use Rattle.record_checks.specs.declared.ground.Ground.{Ground}
use Rattle.record_checks.specs.Checks.{first_field, kept_items, AreRight, AreRightKepts, KeptsFault, CommitFits, RecipeLies, IsNamed, IsWhole, recipe_fp_at, spends_behind}
use Rattle.record_checks.specs.Noting.{EndsGrow}
use Rattle.record_checks.specs.Judging.{JudgesBody, PutPast, PutTaken, Unplaced, Entered, NotWhole, CommitPast, CommitTaken, KeptDamaged, KeptPast, KeptTaken}
use Rattle.record_checks.specs.Steps.{JudgedAs, HasRoomForItems, HasKeptRoom, SpendsShares, IsRightCommit, CommitFault, PlaceFails, TagFails}
use Rattle.record_checks.proofs.Rooming.{own_after, placed_after}
use Rattle.record_checks.proofs.KeptWalking.{placed_after as kepts_placed}

not_inside : {A : Type 0} (inside : Bool) → inside ≡ false → IsTrue inside ⊎ A → A
not_inside inside e (inl t) = absurd (let wrong : true ≡ false = sym t ∙ e in cc)
not_inside inside e (inr a) = a

module _ (g : Ground) (inside : Bool) (read : List ℕ) (marks : List Bool) where
  -- a Put for which there is no room
  pub put_refused : (cloud : CloudMemory) (user : UserId) (items : List PutItem) → HasRooms g.rooms cloud → ¬ (HasRoomForItems g.rooms cloud user items)
      → AreRight g inside user (memory_of cloud) items → JudgesBody g inside read marks (memory_of cloud) (Put user items) (Err first_field)
  put_refused cloud user items rooms lacks right = PutPast user items right (λ fits. lacks (record {
    rooms_are = rooms;
    owners = let own = fits.own in let more = own_after g inside user (memory_of cloud) items right in omega (arith, own, more);
    fps = let placed = fits.placed in let more = placed_after g inside user (memory_of cloud) items right in omega (arith, placed, more);
  }))

  -- a Put of the checkpoint
  pub put_inside : (cloud : CloudMemory) (new : Memory) (user : UserId) (items : List PutItem) → inside ≡ true → HasRoomForItems g.rooms cloud user items
      → AreRight g inside user (memory_of cloud) items → new ≡ with_items user (memory_of cloud) items → JudgesBody g inside read marks (memory_of cloud) (Put user items) (Ok new)
  put_inside cloud new user items is room right taken =
      let filled = with_items user (memory_of cloud) items in
      subst (λ (m : Memory). JudgesBody g inside read marks (memory_of cloud) (Put user items) (Ok m))
      (ap (λ (b : Bool). if b then filled else spends user (spent_on filled items) filled) is ∙ sym taken)
      (PutTaken user items right (record {
        own = let own = room.owners in let more = own_after g inside user (memory_of cloud) items right in omega (arith, own, more);
        placed = let placed = room.fps in let more = placed_after g inside user (memory_of cloud) items right in omega (arith, placed, more);
        owners = inl is;
        shares = inl is;
      }))

  -- a Put behind it
  pub put_behind : (cloud : CloudMemory) (mid new : Memory) (user : UserId) (items : List PutItem) (owners held : ℕ) (result : Result Unit ℕ) → inside ≡ false
      → HasRoomForItems g.rooms cloud user items → AreRight g inside user (memory_of cloud) items → mid ≡ with_items user (memory_of cloud) items → owners ≡ length items
      → held ≡ sum_by (λ (item : PutItem). placed_len (get mid.places item.fp.0)) items → SpendsShares g.rooms mid user owners held result new
      → JudgedAs g inside read marks (memory_of cloud) (Put user items) result new
  put_behind cloud mid new user items owners held result behind room right taken count sum spends_so =
      ends result (subst (λ (m : Memory). SpendsShares g.rooms m user owners held result new) taken spends_so)
      (sum ∙ ap (λ (m : Memory). sum_by (λ (item : PutItem). placed_len (get m.places item.fp.0)) items) taken)
    where
      filled : Memory
      filled = with_items user (memory_of cloud) items

      ends : (result : Result Unit ℕ) → SpendsShares g.rooms filled user owners held result new → held ≡ (spent_on filled items).shares
          → JudgedAs g inside read marks (memory_of cloud) (Put user items) result new
      ends (Ok u) so sum =
          subst (λ (m : Memory). JudgesBody g inside read marks (memory_of cloud) (Put user items) (Ok m))
          (ap (λ (b : Bool). if b then filled else spends user (spent_on filled items) filled) behind
          ∙ (λ i. spends user (of_shares (sym count i) (sym sum i)) filled) ∙ sym so.1)
          (PutTaken user items right (record {
            own = let own = room.owners in let more = own_after g inside user (memory_of cloud) items right in omega (arith, own, more);
            placed = let placed = room.fps in let more = placed_after g inside user (memory_of cloud) items right in omega (arith, placed, more);
            owners = inr (let may = so.0.0 in omega (arith, may, count));
            shares = inr (let may = so.0.1 in omega (arith, may, sum));
          }))
      ends (Err place) so sum =
          subst (λ (n : ℕ). JudgesBody g inside read marks (memory_of cloud) (Put user items) (Err n)) (sym so.1)
          (PutPast user items right (λ fits. so.0
          (let a = not_inside inside behind fits.owners in omega (arith, a, count), let b = not_inside inside behind fits.shares in omega (arith, b, sum))))

  -- a Kept for which there is no room
  pub kept_refused : (cloud : CloudMemory) (items : List KeptItem) → HasRooms g.rooms cloud → ¬ (HasKeptRoom g.rooms cloud items)
      → AreRightKepts g inside (memory_of cloud) items → JudgesBody g inside read marks (memory_of cloud) (Kept items) (Err first_field)
  kept_refused cloud items rooms lacks right =
      KeptPast items right (λ fits. lacks (record { rooms_are = rooms; fps = let more = kepts_placed g inside (memory_of cloud) items right in omega (arith, fits, more) }))

  -- a Kept for which there is room
  pub kept_ends : (cloud : CloudMemory) (new : Memory) (items : List KeptItem) (result : Result Unit ℕ) → HasKeptRoom g.rooms cloud items
      → MatchResult result (λ u. AreRightKepts g inside (memory_of cloud) items) (λ place. KeptsFault g inside (memory_of cloud) kept_items items place)
      → MatchResult result (λ u. new ≡ with_kepts (memory_of cloud) items) (λ place. Unit {0})
      → JudgedAs g inside read marks (memory_of cloud) (Kept items) result new
  kept_ends cloud new items (Ok u) room right taken =
      subst (λ (m : Memory). JudgesBody g inside read marks (memory_of cloud) (Kept items) (Ok m)) (sym taken)
      (KeptTaken items right (let fps = room.fps in let more = kepts_placed g inside (memory_of cloud) items right in omega (arith, fps, more)))
  kept_ends cloud new items (Err place) room fault taken = KeptDamaged items place fault

  -- a fault of a Commit's place or tag
  pub commit_faulty : (old : Memory) (c : CommitBody) (place : ℕ) → CommitFault g inside old c place → JudgesBody g inside read marks old (Commit c) (Err place)
  commit_faulty old c place (PlaceFails lies) = Unplaced c lies
  commit_faulty old c place (TagFails lies has) = Entered c lies has

  -- what lies there isn't the recipe, or names what the user doesn't own
  pub commit_not_whole : (old : Memory) (c : CommitBody) → IsRightCommit g inside old c
      → ¬ (IsNamed g.shape c.fp read × AreOwned old.owners c.user (fps_of g.shape read)) → JudgesBody g inside read marks old (Commit c) (Err recipe_fp_at)
  commit_not_whole old c right lacks = NotWhole c right.lies right.new lacks

  -- the user would pass a limit
  pub commit_past : (old : Memory) (c : CommitBody) → IsRightCommit g inside old c → IsWhole g old c read → ¬ (CommitFits g inside c old)
      → JudgesBody g inside read marks old (Commit c) (Err first_field)
  commit_past old c right is lacks = CommitPast c right.lies right.new is lacks

  pub commit_taken : (old mid new : Memory) (c : CommitBody) (names : List Fp) → IsRightCommit g inside old c → IsWhole g old c read → CommitFits g inside c old
      → fps_of g.shape read ≡ names → mid ≡ with_entry names c old → new ≡ spends_behind inside c.user (of_recipe c.len) mid
      → JudgesBody g inside read marks old (Commit c) (Ok new)
  commit_taken old mid new c names right is fits same entered spent =
      subst (λ (m : Memory). JudgesBody g inside read marks old (Commit c) (Ok m))
      (sym (spent ∙ ap (spends_behind inside c.user (of_recipe c.len)) (entered ∙ ap (λ (l : List Fp). with_entry l c old) (sym same))))
      (CommitTaken c right.lies right.new is fits)

-- a Commit's recipe lies within its area, so the ends only grow
pub commit_grows : (g : Ground) (inside : Bool) (old new : Memory) (c : CommitBody) → RecipeLies g inside old c → new.shares_end ≡ old.shares_end
    → new.recipes_end ≡ max old.recipes_end (c.at + c.len) → EndsGrow g old new
commit_grows g inside old new c lies shares recipes =
    let within = lies.1.within in
    record { shares = omega (arith, shares); shares_within = omega (arith, shares); recipes = omega (arith, recipes); recipes_within = omega (arith, recipes, within) }

-- what is spent behind the checkpoint moves no end
pub ends_kept : (inside : Bool) (user : UserId) (more : Spent) (m : Memory)
    → ((spends_behind inside user more m).shares_end ≡ m.shares_end) × ((spends_behind inside user more m).recipes_end ≡ m.recipes_end)
ends_kept true user more m = (refl, refl)
ends_kept false user more m = (refl, refl)

-- what is said of an Ok alone
pub ok_or_none : {A E : Type 0} (P : Type 0) (r : Result A E) → OnOk r P → MatchResult r (λ u. P) (λ e. Unit {0})
ok_or_none P (Ok u) p = p
ok_or_none P (Err e) p = tt

-- the user has as many entries as it may, by the index and by the rooms
pub full_of_files : (rooms : UserRooms) (cloud : CloudMemory) (user : UserId) → HasRooms rooms cloud
    → (files_used cloud.files user.0 ≡ limit_for cloud.files.accounts user.0) ↔ (keys_of (λ (k : FileKey). k.user) cloud.files.files user.0 ≡ files_limit rooms user)
full_of_files rooms cloud user has = (
  λ full. subst (λ (a : Accounts). use_for (λ (k : FileKey). k.user) a cloud.files.files user.0 ≡ limit_for a user.0) has.files full,
  λ full. subst (λ (a : Accounts). use_for (λ (k : FileKey). k.user) a cloud.files.files user.0 ≡ limit_for a user.0) (sym has.files) full,
)
