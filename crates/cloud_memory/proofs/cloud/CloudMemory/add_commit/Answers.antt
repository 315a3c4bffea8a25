use Rattle.std.proofs.Common.{◌≡◌, ◌+◌, ◌<◌, ◌^◌, ◌∙◌, ℕ, List, [], ◌∷◌, ◌++◌, refl, sym, ap, subst, length, arith}
use Rattle.std.specs.Prelude.{option_map, slice_set, max}
use Rattle.spent_table.specs.CdBase.ids.Fp.{Fp}
use Rattle.std.specs.FinMap.{FinMap}
use Rattle.cloud_areas.specs.UserDedup.command.Command.TheVariants as commands
use Rattle.cloud_areas.specs.RecordBody.body.CommitBody.{CommitBody}
use Rattle.cloud_areas.specs.RecordBody.Spelling as bodies
use Rattle.share_index.specs.Order.{owner_cmp}
use Rattle.spent_table.specs.declared.Spent.{Spent}
use Rattle.spent_table.specs.Spending.{spent_by, both, of_recipe}
use Rattle.cloud_areas.specs.UserDedup.Owning.{fps_in}
use Rattle.cloud_areas.specs.UserDedup.Requests.{fps_of}
use Rattle.cloud_areas.specs.Chains.{commit_of}
use Rattle.cloud_memory.specs.Memory.{Memory, Remembers}
use Rattle.cloud_memory.specs.News.{seen}
use Rattle.cloud_memory.specs.Rooms.{memory_of, full_commit}
use Rattle.cloud_memory.specs.Sharing.{AreOwned}
use Rattle.cloud_memory.specs.Steps.{with_commit}
use Rattle.cloud_memory.proofs.CommitLaw.{commit_remembered}
use Rattle.cloud_memory.proofs.FullRooms.{full_commit_is}
use Rattle.cloud_memory.proofs.Entering.{has_room, commit_taken, roomy, few_files}
use Rattle.cloud_memory.proofs.Taking.{recipes_small, rows_long}
use Rattle.cloud_memory.proofs.cloud.CloudMemory.add_commit.Goals as goal

pub returns-in-Some-clause-full : goal.returns-in-Some-clause-full
returns-in-Some-clause-full c = sym c.full_for_commit.ensures ∙ ap (option_map seen) c.in-Some.is

pub returns-in-None-clause-full : goal.returns-in-None-clause-full
returns-in-None-clause-full c = sym c.full_for_commit.ensures ∙ ap (option_map seen) c.in-None.is

pub enter_roomy-requires-clause-room : goal.enter_roomy-requires-clause-room
enter_roomy-requires-clause-room c =
    has_room c.args.rooms.now c.args.self.now c.requires.rooms c.args.user c.args.len (sym c.full_for_commit.ensures ∙ ap (option_map seen) c.in-None.is)

pub raise_all-requires : goal.raise_all-requires
raise_all-requires c =
    subst (λ (m : FinMap owner_cmp ℕ). AreOwned m c.args.user (fps_in c.args.recipe.now.items)) (sym (ap (λ (m : Memory). m.owners) c.enter_roomy.ensures.memory)) c.requires.owned

pub add_recipe-requires-clause-place : goal.add_recipe-requires-clause-place
add_recipe-requires-clause-place c =
    let room = roomy c.args.rooms.now c.args.self.now c.args.user c.args.len c.requires.some (sym c.full_for_commit.ensures ∙ ap (option_map seen) c.in-None.is) in
    subst (λ (n : ℕ). c.args.user.0 < n) (sym (ap (λ (m : Memory). length m.spent) c.enter_roomy.ensures.memory ∙ c.requires.rooms.users)) room.place

pub add_recipe-requires-clause-bytes : goal.add_recipe-requires-clause-bytes
add_recipe-requires-clause-bytes c =
    let room = roomy c.args.rooms.now c.args.self.now c.args.user c.args.len c.requires.some (sym c.full_for_commit.ensures ∙ ap (option_map seen) c.in-None.is) in
    let recipes = room.recipes in
    let small = recipes_small c.args.rooms.now c.requires.allowed in
    let more = c.from-more.ensures in
    subst (λ (l : List Spent). (spent_by l c.args.user).recipes + c.from-more.result < 2 ^ 64) (sym (ap (λ (m : Memory). m.spent) c.enter_roomy.ensures.memory))
    (omega (arith, recipes, small, more))

pub returns-in-None-clause-taken : goal.returns-in-None-clause-taken
returns-in-None-clause-taken c =
    let entered = c.enter_roomy.ensures in
    let mid = c.enter_roomy.new.self in
    let body : CommitBody = record { user = c.args.user; tag = c.args.tag; version = c.args.version; at = c.place_behind-at.result; len = c.args.len; fp = c.args.fp } in
    let rows = c.add_recipe.ensures ∙ ap (λ (n : ℕ). slice_set mid.spent c.args.user.0 (both (spent_by mid.spent c.args.user) (of_recipe n))) c.from-more.ensures in
    let end = c.farther-self.ensures ∙ ap (λ (n : ℕ). max mid.recipes_end (c.place_behind-at.result + n)) c.from-more.ensures in
    (λ i. record {
      places = c.raise_all.ensures.others.places i;
      owners = c.raise_all.new.shares.owners;
      files = mid.files.files;
      spent = c.add_recipe.new.self;
      shares_end = mid.shares_end;
      recipes_end = c.farther-self.result;
    })
    ∙ commit_taken c.args.self.now mid body (fps_in c.args.recipe.now.items) c.raise_all.new.shares.owners c.add_recipe.new.self c.farther-self.result entered.memory c.raise_all.ensures.owners rows end

pub returns-in-None-clause-remembers : goal.returns-in-None-clause-remembers
returns-in-None-clause-remembers c = λ shape list bytes r within fp len names_are.
    let room = roomy c.args.rooms.now c.args.self.now c.args.user c.args.len c.requires.some (sym c.full_for_commit.ensures ∙ ap (option_map seen) c.in-None.is) in
    let m = memory_of c.args.self.now in
    let at = c.place_behind-at.result in
    let body : CommitBody = record { user = c.args.user; tag = c.args.tag; version = c.args.version; at = at; len = c.args.len; fp = c.args.fp } in
    let same : with_commit (fps_of shape bytes) (commit_of c.args.user c.args.tag c.args.version bytes at) m ≡ with_commit (fps_in c.args.recipe.now.items) body m =
    λ i. with_commit (names_are i) (record { user = c.args.user; tag = c.args.tag; version = c.args.version; at = at; len = len i; fp = fp i }) m in
    subst (Remembers shape (list ++ commands.Commit c.args.user c.args.tag c.args.version bytes ∷ [])) (same ∙ sym (returns-in-None-clause-taken c))
    (commit_remembered shape list c.args.user c.args.tag c.args.version bytes at m r c.requires.new
    (subst (λ (l : List Fp). AreOwned c.args.self.now.shares.owners c.args.user l) (sym names_are) c.requires.owned)
    (few_files shape c.args.rooms.now list c.args.user c.requires.allowed within)
    (subst (λ (n : ℕ). c.args.user.0 < n) (sym c.requires.rooms.users) room.place))

pub returns-in-None-clause-rooms : goal.returns-in-None-clause-rooms
returns-in-None-clause-rooms c =
    let entered = c.enter_roomy.ensures in
    let mid = c.enter_roomy.new.self in
    record {
      fps = c.raise_all.ensures.others.fps ∙ entered.limits.fps ∙ c.requires.rooms.fps;
      owners = c.raise_all.ensures.others.accounts ∙ entered.limits.owners ∙ c.requires.rooms.owners;
      files = entered.limits.files ∙ c.requires.rooms.files;
      slots = c.raise_all.ensures.others.slots ∙ entered.limits.slots ∙ c.requires.rooms.slots;
      owned = c.raise_all.ensures.others.owned ∙ entered.limits.owned ∙ c.requires.rooms.owned;
      entries = entered.limits.entries ∙ c.requires.rooms.entries;
      users =
          ap (λ (l : List Spent). length l) c.add_recipe.ensures ∙ rows_long mid.spent c.args.user (both (spent_by mid.spent c.args.user) (of_recipe c.from-more.result))
          ∙ ap (λ (m : Memory). length m.spent) entered.memory ∙ c.requires.rooms.users;
    }

-- ---- by the list

pub returns-in-Some-clause-full_list : goal.returns-in-Some-clause-full_list
returns-in-Some-clause-full_list c = λ shape cloud list bytes sound r within long.
    let m = memory_of c.args.self.now in
    sym (full_commit_is shape cloud c.args.rooms.now list c.args.user m sound r within c.args.tag c.args.version bytes)
    ∙ ap (full_commit c.args.rooms.now c.args.user m) long ∙ returns-in-Some-clause-full c

pub returns-in-None-clause-full_list : goal.returns-in-None-clause-full_list
returns-in-None-clause-full_list c = λ shape cloud list bytes sound r within long.
    let m = memory_of c.args.self.now in
    sym (full_commit_is shape cloud c.args.rooms.now list c.args.user m sound r within c.args.tag c.args.version bytes)
    ∙ ap (full_commit c.args.rooms.now c.args.user m) long ∙ returns-in-None-clause-full c

pub returns-in-None-clause-is_record : goal.returns-in-None-clause-is_record
returns-in-None-clause-is_record c = λ list bytes region records ends fp long.
    let behind = c.place_behind-at.ensures.behind in
    let had = ends.recipes in
    record {
      at = c.place_behind-at.result;
      body_is =
          λ i. bodies.Commit (record { user = c.args.user; tag = c.args.tag; version = c.args.version; at = c.place_behind-at.result; len = sym long i; fp = sym fp i });
      behind = omega (arith, behind, had);
      laid_is = refl;
    }
