-- What a request adds to a told cloud, whatever its records say.
use Rattle.std.proofs.Common.{◌≡◌, ◌⊎◌, inl, inr, ℕ, ◌+◌, ◌≤◌, List, [], ◌∷◌, ◌++◌, length, map, Some, Result, Ok, Err, refl, sym, ap, ◌∙◌, subst, arith, length-append}
use Rattle.std.specs.Prelude.{All, OnOk, replicate, ◌-◌}
use Rattle.std.proofs.lemmas.List.Elements.{All-head}
use Rattle.server_reads.specs.CdEdges.area.Area.TheVariants.{Journal, Shares, Recipes}
use Rattle.server_reads.specs.CdEdges.Disk.{Store, Cloud, Areas}
use Rattle.server_reads.specs.CdEdges.Shelf.{stable, Stays}
use Rattle.server_reads.specs.ContainerLog.Laying.{placed, laid}
use Rattle.server_reads.specs.ContainerLog.Places.{place_of, end_after}
use Rattle.server_reads.specs.ContainerLog.States.{State, HasStaged}
use Rattle.server_reads.specs.Messages.request.Request.{Request}
use Rattle.server_reads.specs.Messages.reply.Reply.{Reply}
use Rattle.server_reads.specs.Messages.reply.Reply.TheVariants as replies
use Rattle.server_reads.specs.Messages.Replies.{IsReply}
use Rattle.server_reads.specs.CloudMemory.Rooms.{memory_of}
use Rattle.cloud_store.specs.CloudAreas.Placing.{shares_placed}
use Rattle.cloud_store.specs.CloudDisk.Held.{with_written, IsFlushed}
use Rattle.cloud_store.specs.CommitJournal.States as journals
use Rattle.cloud_store.specs.JournalHalves.Journals.{Where, with_body}
use Rattle.cloud_store.specs.RecordBody.Spelling.{Body, body_bytes}
use Rattle.cloud_store.specs.declared.store.CloudStore.{CloudStore}
use Rattle.cloud_store.specs.Store.{EndsMeet}
use Rattle.cloud_store.specs.Adding.{IsGrownFrom, share_at, summed, unplaced}
use Rattle.server_commands.specs.Growing.{SaysAdded, StoresSome, record_of, new_to, recipe_of, shares_of, recipes_of, IsSyncedForBlobs, Gains, HasCommandAdded, JournalGoesOn}
use Rattle.server_commands.specs.Steps.{LeavesRead}

-- ---- areas

abbrev pub IsFilled : List ℕ → Type 0
IsFilled blob = 1 ≤ length blob

not_empty : (gap s rest : List ℕ) → 1 ≤ length s → gap ++ s ++ rest ≡ [] → ⊥
not_empty gap s rest filled e = let none = ap length e in omega (arith, none, filled, length-append (gap ++ s) rest, length-append gap s)

-- where something is staged all of the area is on the disk
synced : (log : State) (blobs : List (List ℕ)) (before after : Store) → log.staged ≡ laid log.end blobs → All IsFilled blobs → after ≡ with_written before log.end log.staged
    → IsSyncedForBlobs (placed log.end blobs) before after
synced log [] before after staged some is = is ∙ ap (with_written before log.end) staged
synced log (s ∷ ss) before after staged some is = by_bytes log.staged refl
  where
    by_bytes : (bytes : List ℕ) → log.staged ≡ bytes → after ≡ stable after.read
    by_bytes [] e =
        absurd (not_empty (replicate (place_of log.end (length s) - log.end) 0) s (laid (end_after log.end (length s)) ss) (All-head IsFilled s ss some) (sym staged ∙ e))
    by_bytes (b ∷ bs) e =
        let here = is ∙ ap (with_written before log.end) e in
        here ∙ ap (λ (x : Store). stable x.read) (sym here)

pub gains : (log : State) (blobs : List (List ℕ)) (before after : Store) (end : ℕ) → log.end ≡ end → HasStaged log blobs → All IsFilled blobs → IsFlushed log before after
    → Gains log.end (placed end blobs) before after
gains log blobs before after end end_is has some f =
    subst (λ (n : ℕ). Gains log.end (placed n blobs) before after) end_is
    (record { lie = f.laid blobs has; on_disk = synced log blobs before after has.bytes some f.is; kept = f.kept })

-- ---- the journal

pub read_added : (w : Where) (old new : CloudStore) (body : List ℕ) (a c : Cloud) (Acknowledged : Type 0) → IsGrownFrom w old new body a c → LeavesRead w old new body a c Acknowledged
read_added w old new body a c Acknowledged g = by_chain g.chain
  where
    by_chain : journals.IsJournalEnded new.disk.journal (c.now Journal) (with_body w body) ⊎ journals.IsJournalEnded new.disk.journal (c.now Journal) (with_body (summed old w) body)
        → LeavesRead w old new body a c Acknowledged
    by_chain (inl ended) = record { next = with_body w body; ended = ended; grown = λ said. g }
    by_chain (inr ended) = record { next = with_body (summed old w) body; ended = ended; grown = λ said. g }

-- nothing has changed
pub still_ended : (w : Where) (old new : CloudStore) (a c : Cloud) → new.disk.journal ≡ old.disk.journal → c.now ≡ a.now → journals.IsJournalEnded old.disk.journal (a.now Journal) w
    → journals.IsJournalEnded new.disk.journal (c.now Journal) w
still_ended w old new a c journal same ended =
    subst (λ (j : journals.JournalState). journals.IsJournalEnded j (c.now Journal) w) (sym journal) (subst (λ (x : Areas). journals.IsJournalEnded old.disk.journal (x Journal) w) (sym same) ended)

pub read_full : (w : Where) (old new : CloudStore) (body : List ℕ) (a c : Cloud) (Acknowledged : Type 0) → new.disk.journal ≡ old.disk.journal → c ≡ a → (Acknowledged → ⊥)
    → journals.IsJournalEnded old.disk.journal (a.now Journal) w → LeavesRead w old new body a c Acknowledged
read_full w old new body a c Acknowledged journal same never ended =
    record { next = w; ended = still_ended w old new a c journal (ap (λ (x : Cloud). x.now) same) ended; grown = λ said. absurd (never said) }

-- a request that adds nothing
pub goes_still : {T E : Type 0} (r : Result T E) (w : Where) (old new : CloudStore) (a c : Cloud) (request : Request) (content : List ℕ) → OnOk r (new.disk.journal ≡ old.disk.journal) → Stays a c
    → ((answer : Reply) → SaysAdded (memory_of old.memory) request answer → OnOk r (IsReply content answer → ⊥)) → journals.IsJournalEnded old.disk.journal (a.now Journal) w
    → OnOk r (JournalGoesOn w old new a c request content)
goes_still (Err e) w old new a c request content journal stays never ended = tt
goes_still (Ok v) w old new a c request content journal stays never ended =
    record { next = w; ended = still_ended w old new a c journal stays.now ended; added = λ answer adds is. absurd (never answer adds is) }

-- one that adds its command
pub goes_on : {T E : Type 0} (r : Result T E) (w : Where) (x old new : CloudStore) (a b c : Cloud) (request : Request) (content body : List ℕ) (Acknowledged : Type 0)
    → ((answer : Reply) → SaysAdded (memory_of old.memory) request answer → IsReply content answer → Acknowledged)
    → (IsGrownFrom w x new body b c → HasCommandAdded w old new a c request)
    → OnOk r (LeavesRead w x new body b c Acknowledged) → OnOk r (JournalGoesOn w old new a c request content)
goes_on (Err e) w x old new a b c request content body Acknowledged ack add l = tt
goes_on (Ok v) w x old new a b c request content body Acknowledged ack add l = record { next = l.next; ended = l.ended; added = λ answer adds is. add (l.grown (ack answer adds is)) }

-- the record and the blobs, by what was staged in both logs
pub is_added : (w : Where) (old new : CloudStore) (a c : Cloud) (request : Request) (body : Body) (shares recipes : State) → record_of old request ≡ Some body → EndsMeet old
    → shares.end ≡ old.disk.shares.end → recipes.end ≡ old.disk.recipes.end
    → HasStaged shares (unplaced (memory_of old.memory).places (new_to (memory_of old.memory) request)) → HasStaged recipes (recipe_of request)
    → All IsFilled (unplaced (memory_of old.memory).places (new_to (memory_of old.memory) request)) → All IsFilled (recipe_of request)
    → map (share_at (new_to (memory_of old.memory) request)) (shares_placed body) ≡ shares_of (memory_of old.memory) request
    → (journals.IsJournalEnded new.disk.journal (c.now Journal) (with_body w (body_bytes body)) ⊎ journals.IsJournalEnded new.disk.journal (c.now Journal) (with_body (summed old w) (body_bytes body)))
    → IsFlushed shares (a.now Shares) (c.now Shares) → IsFlushed recipes (a.now Recipes) (c.now Recipes) → HasCommandAdded w old new a c request
is_added w old new a c request body shares recipes is meet shares_end recipes_end in_shares in_recipes some_shares some_recipes places chain flushed also = record {
  body = body;
  is = is;
  chain = chain;
  places = places;
  shares = subst (λ (n : ℕ). Gains n (shares_of (memory_of old.memory) request) (a.now Shares) (c.now Shares)) shares_end
      (gains shares (unplaced (memory_of old.memory).places (new_to (memory_of old.memory) request)) (a.now Shares) (c.now Shares) (memory_of old.memory).shares_end (shares_end ∙ meet.shares) in_shares some_shares flushed);
  recipes = subst (λ (n : ℕ). Gains n (recipes_of (memory_of old.memory) request) (a.now Recipes) (c.now Recipes)) recipes_end
      (gains recipes (recipe_of request) (a.now Recipes) (c.now Recipes) (memory_of old.memory).recipes_end (recipes_end ∙ meet.recipes) in_recipes some_recipes also);
}

-- ---- replies

pub put_said : (content : List ℕ) (answer : Reply) → StoresSome answer → IsReply content answer → (count : ℕ) × IsReply content (replies.Stored count)
put_said content (replies.Stored count) some is = (count, is)
put_said content answer some is = elim some [ ]
