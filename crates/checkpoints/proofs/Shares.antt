-- A user's shares, listed one after another.
use Rattle.std.proofs.Common.{◌≡◌, ℕ, zero, suc, ◌+◌, ◌-◌, ◌<◌, ◌≤◌, Bool, List, [], ◌∷◌, ◌++◌, length, take, drop, map, set, refl, sym, ap, ◌∙◌, subst, arith, append-nil, append_assoc, add-one}
use Rattle.std.specs.Prelude.{All}
use Rattle.std.proofs.lemmas.List.{take_more_set, length-take-le, take-append-drop}
use Rattle.std.proofs.Common.{length-set}
use Rattle.std.proofs.lemmas.List.Elements.{All-append, All-cons, All-nil}
use Rattle.cloud_memory.specs.CdBase.ids.Fp.{Fp}
use Rattle.cloud_memory.specs.RecordBody.body.PutItem.{PutItem}
use Rattle.cloud_memory.specs.RecordBody.FirstSpelling.{FitsItem}
use Rattle.cloud_memory.specs.RecordBody.Spelling.{Put, body_bytes}
use Rattle.cloud_memory.specs.ShareIndex.Shares.{Shares}
use Rattle.cloud_disk.specs.CloudAreas.Checkpoints.{put_body}
use Rattle.checkpoints.specs.Laying.{IsNextInBuffer}
use Rattle.checkpoints.specs.Picking.{IsPicked, batched, batches, with_batch}
use Rattle.checkpoints.specs.Records.{owned_at, owned_in, listed_below, listed, item_of, items_of, put_of, items_from, puts_from}
use Rattle.checkpoints.specs.Ready.{AreMarked, IsAtPuts}
use Rattle.checkpoints.specs.Steps.{AreListedNext, KeepsAllButPuts}
use Rattle.checkpoints.specs.declared.position.Position.{Position}
use Rattle.checkpoints.proofs.Picks.{picked-append}
use Rattle.checkpoints.proofs.Batching.{one_more, at_end, at_full}

-- ---- a batch

module _ (shares : Shares) (user : ℕ) where
  listed_more : (at behind : ℕ) (fp : Fp) → IsPicked (owned_at user) shares.owner_slots at fp behind → listed shares.owner_slots user behind ≡ listed shares.owner_slots user at ++ fp ∷ []
  listed_more at behind fp p =
      ap (λ fps. listed_below shares.owner_slots user ++ fps) p.before
      ∙ sym (append_assoc (listed_below shares.owner_slots user) (owned_in user (take at shares.owner_slots)) (fp ∷ []))

  items_more : (at behind : ℕ) (fp : Fp) → IsPicked (owned_at user) shares.owner_slots at fp behind
      → items_from shares user at ≡ item_of shares.places (listed shares.owner_slots user at) fp ∷ items_from shares user behind
  items_more at behind fp p =
      let before = listed shares.owner_slots user at in
      ap (items_of shares.places before) p.rest
      ∙ ap (λ fps. item_of shares.places before fp ∷ items_of shares.places fps (owned_in user (drop behind shares.owner_slots))) (sym (listed_more at behind fp p))

  -- So many shares of the batch are listed.
  pub record Listing (from : ℕ) (marks : List Bool) (items : List PutItem) (at count : ℕ) : Type 0 where
    pub next : batches (items_from shares user from) ≡ batched (take count items) (items_from shares user at)
    pub fit : All FitsItem (take count items)
    pub listing : AreMarked shares marks (listed shares.owner_slots user at)
    pub room : length items ≡ 256

  pub none_listed : (from : ℕ) (marks : List Bool) (items : List PutItem) → AreMarked shares marks (listed shares.owner_slots user from) → length items ≡ 256 → Listing from marks items from 0
  none_listed from marks items m room = record { next = refl; fit = All-nil FitsItem; listing = m; room = room }

  module _ (from : ℕ) (marks : List Bool) (items : List PutItem) (at count : ℕ) (l : Listing from marks items at count) where
    pub one_listed : (after : List Bool) (new : List PutItem) (fp : Fp) (behind : ℕ) (item : PutItem) → IsPicked (owned_at user) shares.owner_slots at fp behind
        → item ≡ item_of shares.places (listed shares.owner_slots user at) fp → AreMarked shares after (listed shares.owner_slots user at ++ fp ∷ []) → FitsItem item
        → count < 256 → new ≡ set items count item → Listing from after new behind (count + 1)
    one_listed after new fp behind item p is m fits few set_is =
        let taken : take (count + 1) new ≡ take count items ++ item ∷ [] = ap (take (count + 1)) set_is ∙ take_more_set items count item (omega (arith, few, l.room)) in
        record {
          next =
              l.next
              ∙ ap (batched (take count items)) (items_more at behind fp p ∙ ap (λ (i : PutItem). i ∷ items_from shares user behind) (sym is))
              ∙ one_more (take count items) item (items_from shares user behind) (omega (arith, few, length-take-le count items (omega (arith, few, l.room))))
              ∙ ap (λ (xs : List PutItem). batched xs (items_from shares user behind)) (sym taken);
          fit = subst (All FitsItem) (sym taken) (All-append FitsItem (take count items) (item ∷ []) l.fit (All-cons FitsItem item [] fits (All-nil FitsItem)));
          listing = subst (AreMarked shares after) (sym (listed_more at behind fp p)) m;
          room = ap (λ (xs : List PutItem). length xs) set_is ∙ length-set items count item ∙ l.room;
        }

    pub ended : count ≤ 256 → owned_in user (drop at shares.owner_slots) ≡ [] → AreListedNext shares user from (take count items) at
    ended few none =
        let left : items_from shares user at ≡ [] = ap (items_of shares.places (listed shares.owner_slots user at)) none in
        record {
          next = l.next ∙ ap (batched (take count items)) left ∙ at_end (take count items) ∙ ap (λ (xs : List PutItem). with_batch (take count items) (batches xs)) (sym left);
          ends = λ _. none;
          fit = l.fit;
          few = omega (arith, few, length-take-le count items (omega (arith, few, l.room)));
        }

    pub filled : count ≡ 256 → AreListedNext shares user from (take count items) at
    filled full =
        let long : length (take count items) ≡ 256 = length-take-le count items (omega (arith, full, l.room)) ∙ full in
        record {
          next = l.next ∙ at_full (take count items) (items_from shares user at) long;
          ends = λ none. absurd (let no : 0 ≡ 256 = ap (λ (xs : List PutItem). length xs) (sym none) ∙ long in omega (arith, no));
          fit = l.fit;
          few = omega (arith, long);
        }

-- ---- user by user

-- So far the Puts come to: those that came first are still to come, and all else stands.
pub record PutsAlong (shares : Shares) (marks : List Bool) (first now : Position) (items : List PutItem) : Type 0 where
  pub ready : IsAtPuts shares marks now.left now.user now.owner
  pub same : puts_from shares first.left first.user first.owner ≡ puts_from shares now.left now.user now.owner
  pub others : KeepsAllButPuts first now
  pub room : length items ≡ 256

pub puts_begin : (shares : Shares) (marks : List Bool) (p : Position) (items : List PutItem) → IsAtPuts shares marks p.left p.user p.owner → length items ≡ 256 → PutsAlong shares marks p p items
puts_begin shares marks p items ready room = record { ready = ready; same = refl; others = record { place = refl; file = refl; row = refl }; room = room }

-- those of the user, and then of the others
pub puts_some : (shares : Shares) (left user at : ℕ) → 0 < left
    → puts_from shares left user at ≡ map (put_of user) (batches (items_from shares user at)) ++ puts_from shares (left - 1) (user + 1) 0
puts_some shares zero user at l = absurd (omega arith)
puts_some shares (suc left) user at l = ap (λ n. map (put_of user) (batches (items_from shares user at)) ++ puts_from shares n (user + 1) 0) (omega arith)

-- once a user's fingerprints are listed the next user's are
listed_next : (shares : Shares) (user behind : ℕ) → owned_in user (drop behind shares.owner_slots) ≡ []
    → listed shares.owner_slots (user + 1) 0 ≡ listed shares.owner_slots user behind
listed_next shares user behind none =
    ap (λ n. listed shares.owner_slots n 0) (add-one user)
    ∙ append-nil (listed_below shares.owner_slots user ++ owned_in user shares.owner_slots)
    ∙ ap (λ fps. listed_below shares.owner_slots user ++ fps)
    (ap (owned_in user) (sym (take-append-drop behind shares.owner_slots))
    ∙ picked-append (owned_at user) (take behind shares.owner_slots) (drop behind shares.owner_slots)
    ∙ ap (λ fps. owned_in user (take behind shares.owner_slots) ++ fps) none
    ∙ append-nil (owned_in user (take behind shares.owner_slots)))

module _ (shares : Shares) (marks after : List Bool) (first now : Position) (array new : List PutItem) (p : PutsAlong shares marks first now array) (more : 0 < now.left)
    (items : List PutItem) (behind : ℕ) (b : AreListedNext shares now.user now.owner items behind) (m : AreMarked shares after (listed shares.owner_slots now.user behind))
    (room : length new ≡ 256) where
  -- the user has no more
  pub next_user : items ≡ [] → PutsAlong shares after first (record now { left = now.left - 1; user = now.user + 1; owner = 0 }) new
  next_user none =
      let ended = b.ends none in
      let left : items_from shares now.user behind ≡ [] = ap (items_of shares.places (listed shares.owner_slots now.user behind)) ended in
      let batch : batches (items_from shares now.user now.owner) ≡ [] =
      b.next ∙ ap (λ (xs : List PutItem). with_batch xs (batches (items_from shares now.user behind))) none ∙ ap (λ (xs : List PutItem). batches xs) left in
      record {
        ready = record {
          fit = p.ready.fit;
          stand = p.ready.stand;
          listing = subst (AreMarked shares after) (sym (listed_next shares now.user behind ended)) m;
          few = omega (arith, p.ready.few, more);
        };
        same = p.same ∙ puts_some shares now.left now.user now.owner more ∙ ap (λ (xs : List (List PutItem)). map (put_of now.user) xs ++ puts_from shares (now.left - 1) (now.user + 1) 0) batch;
        others = record { place = p.others.place; file = p.others.file; row = p.others.row };
        room = room;
      }

  -- the batch is the next Put
  pub put_ready : IsAtPuts shares after now.left now.user behind
  put_ready = record { fit = p.ready.fit; stand = p.ready.stand; listing = m; few = p.ready.few }

  pub put_next : (bytes : List ℕ) → 0 < length items → bytes ≡ body_bytes (Put (record { 0 = now.user }) items)
      → IsNextInBuffer (map put_body (puts_from shares first.left first.user first.owner)) (map put_body (puts_from shares now.left now.user behind)) bytes
  put_next bytes some is =
      let user = now.user in
      let others = puts_from shares (now.left - 1) (user + 1) 0 in
      let later = batches (items_from shares user behind) in
      record {
        body = Put (record { 0 = user }) items;
        front =
            ap (map put_body)
            (p.same
            ∙ puts_some shares now.left user now.owner more
            ∙ ap (λ (xs : List (List PutItem)). map (put_of user) xs ++ others) (b.next ∙ some_batch items later some)
            ∙ ap (λ xs. put_of user items ∷ xs) (sym (puts_some shares now.left user behind more)));
        is_body = record { fits = (omega (arith, p.ready.few), ((omega (arith, some), b.few), b.fit)); spelled = is };
      }
    where
      some_batch : (xs : List PutItem) (more : List (List PutItem)) → 0 < length xs → with_batch xs more ≡ xs ∷ more
      some_batch [] more l = absurd (omega arith)
      some_batch (x ∷ xs) more l = refl
