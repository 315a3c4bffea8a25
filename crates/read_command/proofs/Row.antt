-- Rising clouds opened in order.
use Rattle.std.proofs.Common.{◌≡◌, ℕ, ◌<◌, List, [], ◌∷◌, ◌++◌, length, refl, sym, ap, ◌∙◌, subst, inl, inr, arith, append_assoc, append-nil, length-append}
use Rattle.std.specs.Prelude.{◌≢◌, IsTrue, Option, Result, Ok, Err, All}
use Rattle.std.specs.List.{Contains}
use Rattle.std.specs.List.Sorted.{IsStrictlyIncreasing}
use Rattle.std.proofs.lemmas.Bool.{cases_eq}
use Rattle.std.proofs.lemmas.List.Kept.{AllPairs-from_increasing}
use Rattle.std.proofs.lemmas.List.{get_or_append_left, get_or_at}
use Rattle.std.proofs.lemmas.List.Elements.{Contains-append_left, Contains-append_right, Contains-push_cases}
use Rattle.commit_journal.specs.CdBase.shape.Shape.{Shape}
use Rattle.commit_journal.specs.CdEdges.area.Area.TheVariants.{Journal}
use Rattle.commit_journal.specs.CdEdges.Disk.{Cloud, IsImage, reads}
use Rattle.commit_journal.specs.JournalStart.rooms.UserRooms.{UserRooms}
use Rattle.local_link.specs.ShareServer.Names.{header_of}
use Rattle.commit_journal.specs.CdEdges.Shelf.{HasFailed}
use Rattle.commit_journal.specs.declared.errors.OpenErr.{OpenErr}
use Rattle.commit_journal.specs.declared.errors.OpenErr.TheVariants as errors
use Rattle.cloud_areas.specs.UserDedup.command.Command.{Command}
use Rattle.cloud_areas.proofs.UserDedup.Owned.{contains_here, contains_nothing}
use Rattle.local_link.specs.ShareServer.server.Server.{Server}
use Rattle.local_link.specs.ShareServer.Serving.{settled_with}
use Rattle.local_link.specs.declared.link.LocalLink.{LocalLink}
use Rattle.commit_journal.specs.JournalStart.start.Header.{Header}
use Rattle.local_link.specs.Tells.{server_at, rooms_of, IsPeer, IsRemembered, LeavesRest}
use Rattle.read_command.specs.declared.end.ReadEnd.{ReadEnd}
use Rattle.read_command.specs.declared.end.ReadEnd.TheVariants as ends
use Rattle.read_command.specs.Disks.{AreReadable, InItsRooms, IsSpared, IsStoppedAtCloud, KeepsDisks, NamesRooms, OpensWith, StaysShut}
use Rattle.read_command.proofs.Disks.{images_by, opening_from, spared_still}
use Rattle.read_command.specs.Opening.{Opening, BecomesOpen, AreOpened, EndsByError, EndsOpening, IsRememberedAt, IsFailedOrNoMemory}

-- ---- rising clouds

below_first : (front : List ℕ) (x : ℕ) (rest : List ℕ) (c : ℕ) → IsStrictlyIncreasing (front ++ x ∷ rest) → Contains front c → c < x
below_first front x rest c rising has =
    let l = has.1 in
    let long = length-append front (x ∷ rest) in
    let less = AllPairs-from_increasing (front ++ x ∷ rest) rising has.0 (length front) c (omega arith) (omega arith) in
    let one = get_or_append_left front (x ∷ rest) c has.0 has.1 ∙ has.2 in
    let two = get_or_at front x rest c (length front) refl in
    omega arith

-- what is said of all is said of one
pub of_one : (P : ℕ → Type 0) (xs : List ℕ) (x : ℕ) → All P xs → Contains xs x → P x
of_one P xs x all has = subst P has.2 (all has.0 x has.1)

-- ---- all that calls leave, whatever they came to

module _ {V : Type 0} (clouds : V → ℕ → Cloud) where
  -- each cloud is spared and none is armed; what is told stays
  pub record Leaves (old new : LocalLink V) : Type 0 where
    pub spared : (cloud : ℕ) → IsTrue (clouds old.shelf.now cloud).told → IsSpared (clouds old.shelf.now cloud) (clouds new.shelf.now cloud)
    pub armings : (cloud : ℕ) → (clouds new.shelf.now cloud).armings ≡ (clouds old.shelf.now cloud).armings
    pub shape : new.servers.shape ≡ old.servers.shape
    pub told : (cloud : ℕ) → (clouds new.shelf.now cloud).told ≡ (clouds old.shelf.now cloud).told

  -- Those in front were opened, and those from here on are as they were.
  pub record SoFar (named rest : List ℕ) (before now : ℕ) (old mid : LocalLink V) : Type 0 where
    pub front : List ℕ
    pub place : named ≡ front ++ rest
    pub each : (cloud : ℕ) → Contains front cloud → BecomesOpen clouds old mid cloud
    pub others : (cloud : ℕ) → (Contains front cloud → ⊥) → clouds mid.shelf.now cloud ≡ clouds old.shelf.now cloud
    pub leaves : Leaves old mid
    pub fate : mid.fate ≡ old.fate
    pub total : now ≡ before
    pub same_reference : mid.shelf.ghost_name ≡ old.shelf.ghost_name

-- ---- an end of one opening, among those of all

ends_map : (S T : ℕ → OpenErr → Type 0) (F G : ℕ → Type 0) → ((c : ℕ) (e : OpenErr) → S c e → T c e) → ((c : ℕ) → S c errors.Fault → F c → G c)
    → (end : ReadEnd) → EndsByError S F end → EndsByError T G end
ends_map S T F G f g (ends.NotBegun cloud len) x = f cloud.0 (errors.NotBegun len) x
ends_map S T F G f g (ends.Damaged cloud at byte) x = f cloud.0 (errors.Damaged at byte) x
ends_map S T F G f g (ends.Other cloud found) x = (x.0, x.1, f cloud.0 (errors.OtherStore found x.0 x.1) x.2)
ends_map S T F G f g (ends.ShelfFault cloud) x = (f cloud.0 errors.Fault x.0, g cloud.0 x.0 x.1)
ends_map S T F G f g ends.NoMemory x = tt
ends_map S T F G f g ends.Done x = absurd x
ends_map S T F G f g ends.Refused x = absurd x
ends_map S T F G f g ends.SinkFault x = absurd x

stands_later : (number : ℕ) (s t : Shape) (k l : Cloud) (o p : Option Server) (list : List Command) → t ≡ s → l ≡ k → p ≡ o
    → IsPeer s number k o (settled_with list k) → IsPeer t number l p (settled_with list l)
stands_later number s t k l o p list ts lk po is =
    subst (λ (x : Shape). IsPeer x number l p (settled_with list l)) (sym ts)
    (subst (λ (x : Cloud). IsPeer s number x p (settled_with list x)) (sym lk)
    (subst (λ (x : Option Server). IsPeer s number k x (settled_with list k)) (sym po) is))

-- a server that stays has its memory still
later_memory : {V : Type 0} (clouds : V → ℕ → Cloud) (shape : Shape) (number : ℕ) (cloud : Cloud) (mid new : LocalLink V) → new.servers.shape ≡ mid.servers.shape
    → clouds new.shelf.now number ≡ clouds mid.shelf.now number → server_at new.servers number ≡ server_at mid.servers number
    → InItsRooms shape number cloud (λ (h : Header). OpensWith h cloud (IsRememberedAt clouds mid number h))
    → InItsRooms shape number cloud (λ (h : Header). OpensWith h cloud (IsRememberedAt clouds new number h))
later_memory clouds shape number cloud mid new shapes same server is = (
  is.0,
  is.1,
  record {
    memory = is.2.memory;
    commands = is.2.commands;
    opens = is.2.opens;
    has = (
      (λ i. header_of (shapes i) (rooms_of (server i)) number) ∙ is.2.has.0,
      subst (λ (c : Cloud). IsRemembered (header_of shape is.0 number) c (server_at new.servers number) is.2.memory) (sym same)
          (subst (λ (o : Option Server). IsRemembered (header_of shape is.0 number) (clouds mid.shelf.now number) o is.2.memory) (sym server) is.2.has.1),
    );
  },
)

module _ {V : Type 0} (clouds : V → ℕ → Cloud) where
  becomes_later : (old mid new : LocalLink V) (number : ℕ) → new.servers.shape ≡ mid.servers.shape → clouds new.shelf.now number ≡ clouds mid.shelf.now number
      → server_at new.servers number ≡ server_at mid.servers number → BecomesOpen clouds old mid number → BecomesOpen clouds old new number
  becomes_later old mid new number shape cloud server is = record {
    opened = is.opened;
    rooms = λ told. subst (λ (o : Option Server). NamesRooms (reads (clouds old.shelf.now number).now Journal) (rooms_of o)) (sym server) (is.rooms told);
    memory = λ told. later_memory clouds old.servers.shape number (clouds old.shelf.now number) mid new shape cloud server (is.memory told);
    same = λ told. ap (λ (k : Cloud). reads k.now) cloud ∙ is.same told;
    loaded = λ told rooms list stands within. stands_later number mid.servers.shape new.servers.shape (clouds mid.shelf.now number) (clouds new.shelf.now number)
        (server_at mid.servers number) (server_at new.servers number) list shape cloud server (is.loaded told rooms list stands within);
    faults = ap (λ (k : Cloud). k.faults) cloud ∙ is.faults;
    armings = ap (λ (k : Cloud). k.armings) cloud ∙ is.armings;
  }

  -- before the first
  pub none_yet : (named : List ℕ) (total : ℕ) (old : LocalLink V)
      → ((cloud : ℕ) → IsTrue (clouds old.shelf.now cloud).told → IsImage (clouds old.shelf.now cloud).now (reads (clouds old.shelf.now cloud).now))
      → SoFar clouds named named total total old old
  none_yet named total old reads_image = record {
    front = [];
    place = refl;
    each = λ cloud has. absurd (contains_nothing cloud has);
    others = λ cloud not. refl;
    leaves = record {
      spared = λ cloud told. spared_still (clouds old.shelf.now cloud) (clouds old.shelf.now cloud) (record { armed = refl; past = refl; now = refl }) (reads_image cloud told);
      armings = λ cloud. refl;
      shape = refl;
      told = λ cloud. refl;
    };
    fate = refl;
    total = refl;
    same_reference = refl;
  }

  -- behind the last
  pub all_opened : (named : List ℕ) (before now : ℕ) (old mid : LocalLink V) → SoFar clouds named [] before now old mid → AreOpened clouds before now old mid named
  all_opened named before now old mid so = record {
    each = λ cloud has. so.each cloud (subst (λ (l : List ℕ). Contains l cloud) (so.place ∙ append-nil so.front) has);
    shape = so.leaves.shape;
    fate = so.fate;
    told = so.leaves.told;
    armings = so.leaves.armings;
    total = so.total;
  }

  pub all_kept : (named : List ℕ) (before now : ℕ) (old mid : LocalLink V) → SoFar clouds named [] before now old mid
      → KeepsDisks old.servers.shape named (clouds old.shelf.now) (clouds mid.shelf.now)
  all_kept named before now old mid so = record {
    chosen = λ cloud rooms lists has told within images.
        images_by (header_of old.servers.shape rooms cloud) lists (clouds old.shelf.now cloud) (clouds mid.shelf.now cloud) (so.leaves.spared cloud told) images;
    others = λ cloud not. so.others cloud (λ has. not (subst (λ (l : List ℕ). Contains l cloud) (sym (so.place ∙ append-nil so.front)) has));
  }

  module _ (named : List ℕ) (number : ℕ) (more : List ℕ) (before between : ℕ) (old mid : LocalLink V)
      (so : SoFar clouds named (number ∷ more) before between old mid) where
    pub is_named : Contains named number
    is_named = subst (λ (l : List ℕ). Contains l number) (sym so.place) (Contains-append_right so.front (number ∷ more) number (contains_here number more))

    pub is_below : (n : ℕ) → All (λ c. c < n) named → number < n
    is_below n all = of_one (λ c. c < n) named number all is_named

  module _ (named : List ℕ) (number : ℕ) (more : List ℕ) (before between now : ℕ) (old mid new : LocalLink V) (rising : IsStrictlyIncreasing named)
      (so : SoFar clouds named (number ∷ more) before between old mid) (result : Result (Unit {0}) ReadEnd)
      (opens : Opening clouds mid.servers.shape (clouds mid.shelf.now number) between new now number result) (rest : LeavesRest clouds number mid new) where
    below : (cloud : ℕ) → Contains so.front cloud → cloud < number
    below cloud has = below_first so.front number more cloud (subst IsStrictlyIncreasing so.place rising) has

    not_yet : Contains so.front number → ⊥
    not_yet has = let l = below number has in omega arith

    here : Opening clouds old.servers.shape (clouds old.shelf.now number) before new now number result
    here = opening_from clouds mid.servers.shape old.servers.shape (clouds mid.shelf.now number) (clouds old.shelf.now number) between before new now number result
        so.leaves.shape (so.others number not_yet) so.total opens

    pub leaves_next : Leaves clouds old new
    leaves_next = record {
      spared = λ cloud told. elim (cases_eq cloud number) [
        | inl e ↦ subst (λ (c : ℕ). IsTrue (clouds old.shelf.now c).told → IsSpared (clouds old.shelf.now c) (clouds new.shelf.now c)) (sym e) here.spared told
        | inr ne ↦ subst (λ (k : Cloud). IsSpared (clouds old.shelf.now cloud) k) (sym (rest.clouds_stay cloud ne)) (so.leaves.spared cloud told)
      ];
      armings = λ cloud. elim (cases_eq cloud number) [
        | inl e ↦ subst (λ (c : ℕ). (clouds new.shelf.now c).armings ≡ (clouds old.shelf.now c).armings) (sym e) here.armings
        | inr ne ↦ ap (λ (k : Cloud). k.armings) (rest.clouds_stay cloud ne) ∙ so.leaves.armings cloud
      ];
      shape = rest.shape_stays ∙ so.leaves.shape;
      told = λ cloud. rest.told_stays cloud ∙ so.leaves.told cloud;
    }

    others_next : (cloud : ℕ) → cloud ≢ number → (Contains so.front cloud → ⊥) → clouds new.shelf.now cloud ≡ clouds old.shelf.now cloud
    others_next cloud ne not = rest.clouds_stay cloud ne ∙ so.others cloud not

    pub kept_next : KeepsDisks old.servers.shape named (clouds old.shelf.now) (clouds new.shelf.now)
    kept_next = record {
      chosen = λ cloud rooms lists has told within images.
          images_by (header_of old.servers.shape rooms cloud) lists (clouds old.shelf.now cloud) (clouds new.shelf.now cloud) (leaves_next.spared cloud told) images;
      others = λ cloud not. others_next cloud (λ e. not (subst (Contains named) (sym e) (is_named named number more before between old mid so)))
          (λ has. not (subst (λ (l : List ℕ). Contains l cloud) (sym so.place) (Contains-append_left so.front (number ∷ more) cloud has)));
    }

    -- it opened
    pub one_more : (u : Unit {0}) → result ≡ Ok u → new.fate ≡ mid.fate → new.shelf.ghost_name ≡ mid.shelf.ghost_name → SoFar clouds named more before now old new
    one_more u ok fate same =
        let h = subst (Opening clouds old.servers.shape (clouds old.shelf.now number) before new now number) ok here in
        let becomes : BecomesOpen clouds old new number = record { opened = h.opened; rooms = h.rooms; memory = h.memory; same = h.same; loaded = h.loaded; faults = h.counts.cloud; armings = h.armings } in
        record {
          front = so.front ++ number ∷ [];
          place = so.place ∙ sym (append_assoc so.front (number ∷ []) more);
          each = λ cloud has. elim (Contains-push_cases so.front number cloud has) [
            | inl front ↦ let ne : cloud ≢ number = (λ e. let l = below cloud front in omega arith) in
                becomes_later old mid new cloud rest.shape_stays (rest.clouds_stay cloud ne) (rest.servers_stay cloud ne) (so.each cloud front)
            | inr e ↦ subst (BecomesOpen clouds old new) e becomes
          ];
          others = λ cloud not. others_next cloud (λ e. not (subst (Contains (so.front ++ number ∷ [])) (sym e) (Contains-append_right so.front (number ∷ []) number (contains_here number []))))
              (λ has. not (Contains-append_left so.front (number ∷ []) cloud has));
          leaves = leaves_next;
          fate = fate ∙ so.fate;
          total = h.counts.total;
          same_reference = same ∙ so.same_reference;
        }

    -- it didn't
    pub stops_here : (end : ReadEnd) → result ≡ Err end → EndsOpening old.servers.shape named (clouds old.shelf.now) (clouds new.shelf.now) before now end
    stops_here end err =
        let h = subst (Opening clouds old.servers.shape (clouds old.shelf.now number) before new now number) err here in
        ends_map
        (λ c e. (c ≡ number) × (IsTrue (clouds old.shelf.now number).told → StaysShut old.servers.shape number (clouds old.shelf.now number) (clouds new.shelf.now number) e))
        (IsStoppedAtCloud old.servers.shape named (clouds old.shelf.now) (clouds new.shelf.now))
        (λ c. HasFailed (clouds old.shelf.now number) (clouds new.shelf.now number) before now)
        (λ c. HasFailed (clouds old.shelf.now c) (clouds new.shelf.now c) before now)
        (λ c e x. subst (λ (m : ℕ). IsStoppedAtCloud old.servers.shape named (clouds old.shelf.now) (clouds new.shelf.now) m e) (sym x.0) (record {
          front = so.front;
          rest = more;
          place = so.place;
          opened = λ cloud has told. (so.each cloud has).opened told;
          stops = x.1;
        }))
        (λ c x failed. subst (λ (m : ℕ). HasFailed (clouds old.shelf.now m) (clouds new.shelf.now m) before now) (sym x.0) failed)
        end h.end

    pub free_here : (end : ReadEnd) (rooms : ℕ → UserRooms) (lists : ℕ → List Command) → result ≡ Err end → AreReadable old.servers.shape named (clouds old.shelf.now) rooms lists → IsFailedOrNoMemory end
    free_here end rooms lists err are =
        let h = subst (Opening clouds old.servers.shape (clouds old.shelf.now number) before new now number) err here in
        h.readable (rooms number) (lists number) (are number (is_named named number more before between old mid so))
