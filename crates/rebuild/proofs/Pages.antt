-- Page after page of the first cloud's keys, as one rebuild.
use Rattle.std.proofs.Common.{◌≡◌, ◌≢◌, ◌⊎◌, ℕ, suc, ◌<◌, ◌≤◌, ◌-◌, Bool, false, List, [], ◌∷◌, ◌++◌, drop, length, Option, Some, None, Result, Ok, Err, refl, sym, ap, ◌∙◌, subst, inl, inr, append_assoc, slice_index_or, arith}
use Rattle.std.specs.List.{Contains}
use Rattle.std.proofs.lemmas.List.{take-append-drop}
use Rattle.lane_steps.specs.CdBase.ids.CloudNo.{CloudNo}
use Rattle.lane_steps.specs.CdBase.ids.UserId.{UserId}
use Rattle.lane_steps.specs.CdBase.shape.Shape.{Shape}
use Rattle.lane_steps.specs.Messages.request.Request.{Request}
use Rattle.lane_steps.specs.UserDedup.command.Command.{Command}
use Rattle.lane_steps.specs.UserDedup.file_list.FileEntry.{FileEntry}
use Rattle.lane_steps.specs.UserDedup.Cloud.{user_view}
use Rattle.lane_steps.specs.UserDedup.Dedup.{Outcome}
use Rattle.lane_steps.specs.UserDedup.Exec.{Peer, CountsOn}
use Rattle.lane_steps.specs.UserDedup.Link.{LinkTelling, Talk, serves}
use Rattle.lane_steps.specs.UserDedup.Pages.{page_of}
use Rattle.lane_steps.proofs.UserDedup.Owned.{contains_nothing}
use Rattle.lane_steps.proofs.UserDedup.Pages.{Key}
use Rattle.lane_steps.specs.Runs.{LaneTurn}
use Rattle.kept_files.specs.RestoreJob.Asking.{MayRead, AreOnlyAsked, Reads}
use Rattle.kept_files.specs.RestoreJob.Asking.{HasAskedClouds as ReadAsked, Leads as ReadLeads}
use Rattle.kept_files.specs.RestoreJob.error.RestoreErr.{RestoreErr}
use Rattle.kept_files.specs.RestoreJob.error.RestoreErr.TheVariants as refusals
use Rattle.kept_files.proofs.RestoreJob.Asks.{may_reads}
use Rattle.kept_files.proofs.RestoreJob.Leading.{asked_at, reads_on, settled_same}
use Rattle.rebuild.specs.declared.error.RebuildErr.{RebuildErr}
use Rattle.rebuild.specs.declared.error.RebuildErr.TheVariants as errors
use Rattle.rebuild.specs.declared.skips.Rebuilt.{Rebuilt}
use Rattle.rebuild.specs.Entering.{stopped_as}
use Rattle.rebuild.specs.Found.{first_of, keys_above, keys_in}
use Rattle.rebuild.specs.Over.{HasAskedToRebuild, BringsOwn, HandsOn, HasRebuildCause, LeadsWithTarget, is_lost}
use Rattle.rebuild.specs.Rebuilding.{IsFrontOfList, LeavesBut, Progressed, RunsTo, nothing_yet}
use Rattle.rebuild.specs.Several.{KeysBrought, KeysCut, KeysTold, progress_of, whole}
use Rattle.rebuild.specs.Steps.{PageTold, ReadCauses, ReadEnds}
use Rattle.rebuild.proofs.Bringing.{first_in}
use Rattle.rebuild.proofs.Going.{KeysLeads, holds_before, holds_on, cut_none, faults_grow, leads_then, not_begun, leads_still, keys_none}
use Rattle.rebuild.proofs.Joined.{along_counts, only_cloud, page_then, pages_step}
use Rattle.rebuild.proofs.Joining.{Between, ByTurns, read_stops, serves_same, stopped_holds, then_stopped}
use Rattle.rebuild.proofs.Paging.{from_start, last_page, next_page}
use Rattle.rebuild.proofs.Passing.{asked_as, asked_none, asked_on, asked_reads, own_none, own_on, own_reads}
use Rattle.rebuild.proofs.Telling.{lanes_none}
use Rattle.rebuild.proofs.Whole.{ReadBy, told_runs}

abbrev pub ended : Result (Unit {0}) RebuildErr
ended = Ok (tt {0})

abbrev pub stopped : RebuildErr → Result (Unit {0}) RebuildErr
stopped e = Err e

abbrev files_in : Shape → UserId → List Command → List FileEntry
files_in shape user list = (user_view shape list user).files

-- the last of some keys, and those in front of it
pub last_split : (xs : List Key) (other : Key) → 1 ≤ length xs → (front : List Key) × (xs ≡ front ++ slice_index_or xs (length xs - 1) other ∷ [])
last_split [] other some = absurd (omega arith)
last_split (x ∷ []) other some = ([], refl)
last_split (x ∷ y ∷ xs) other some =
    let rest = last_split (y ∷ xs) other (omega arith) in
    let at : length (x ∷ y ∷ xs) - 1 ≡ suc (length (y ∷ xs) - 1) = omega arith in
    (x ∷ rest.0, ap (λ (l : List Key). x ∷ l) rest.1 ∙ ap (λ (i : ℕ). x ∷ (rest.0 ++ slice_index_or (x ∷ y ∷ xs) i other ∷ [])) (sym at))

-- ---- more keys than were brought

front_wider : {A : Type 0} (front all more : List A) → IsFrontOfList front all → IsFrontOfList front (all ++ more)
front_wider {A} front all more f = record { rest = f.rest ++ more; split = ap (λ (l : List A). l ++ more) f.split ∙ append_assoc front f.rest more }

module _ (shape : Shape) (user : UserId) (target : ℕ) (serve : List Command → Request → Outcome) (from : List ℕ) where
  brought_wider : (keys more : List Key) (r last : Progressed) (turns : List (LaneTurn Peer)) (a b : ℕ → Peer) → KeysBrought shape user target serve from keys r last turns a b → KeysBrought shape user target serve from (keys ++ more) r last turns a b
  brought_wider keys more r last turns a b x = record { found = x.found; front = front_wider _ keys more x.front; each = x.each; brings = x.brings }

  cut_wider : (keys more : List Key) (r : Progressed) (turns : List (LaneTurn Peer)) (a : ℕ → Peer) (at : Peer) (b : ℕ → Peer) → KeysCut shape user target serve from keys r turns a at b → KeysCut shape user target serve from (keys ++ more) r turns a at b
  cut_wider keys more r turns a at b x = record {
    found = x.found;
    ahead = x.ahead;
    front = front_wider _ keys more x.front;
    each = x.each;
    last = x.last;
    mid = x.mid;
    turns_before = x.turns_before;
    turns_behind = x.turns_behind;
    split = x.split;
    brings = x.brings;
    none = x.none;
    goes = x.goes;
  }

  told_wider : (keys more : List Key) (r next : Progressed) (e : RebuildErr) (turns : List (LaneTurn Peer)) (a : ℕ → Peer) (at : Peer) (b : ℕ → Peer) → KeysTold shape user target serve from keys r next (Err e) turns a at b
      → KeysTold shape user target serve from (keys ++ more) r next (Err e) turns a at b
  told_wider keys more r next (errors.FromRestore e) turns a at b x = (x.0, brought_wider keys more r x.0 turns a b x.1, x.2, x.3)
  told_wider keys more r next errors.TargetLost turns a at b x = cut_wider keys more r turns a at b x
  told_wider keys more r next errors.TargetFault turns a at b x = (x.0, x.1, brought_wider keys more r x.0 turns a b x.2, x.3, x.4)
  told_wider keys more r next (errors.TargetDamaged place byte) turns a at b x = (x.0, x.1, brought_wider keys more r x.0 turns a b x.2, x.3, x.4)
  told_wider keys more r next (errors.TargetRotten named hash) turns a at b x = (x.0, x.1, brought_wider keys more r x.0 turns a b x.2, x.3, x.4)
  told_wider keys more r next (errors.TargetFull room used need limit) turns a at b x = (x.0, x.1, brought_wider keys more r x.0 turns a b x.2, x.3, x.4)
  told_wider keys more r next (errors.TargetLacking place) turns a at b x = (x.0, x.1, brought_wider keys more r x.0 turns a b x.2, x.3, x.4)
  told_wider keys more r next errors.TargetNoMemory turns a at b x = (x.0, x.1, brought_wider keys more r x.0 turns a b x.2, x.3, x.4)
  told_wider keys more r next (errors.TargetStrange kind) turns a at b x = (x.0, x.1, brought_wider keys more r x.0 turns a b x.2, x.3, x.4)
  told_wider keys more r next errors.NoMemory turns a at b x = cut_wider keys more r turns a at b x

-- ---- how far the pages have come over told clouds

-- What was found under the first keys was brought or skipped: those of the first cloud up to the one above which the next page begins.
pub record PagesTold (shape : Shape) (user : UserId) (target : ℕ) (serve : List Command → Request → Outcome) (from : List ℕ) (first : ℕ) (above : Option Key) (r : Progressed) (turns : List (LaneTurn Peer)) (a : ℕ → Peer) (at : Peer) (b : ℕ → Peer) : Type 0 where
  pub keys : List Key
  pub told : KeysTold shape user target serve from keys nothing_yet r (Ok (tt {0})) turns a at b
  pub so_far : ((keys ≡ []) × (above ≡ None)) ⊎ (Reads (a first) (b first) × (keys_in shape (b first).list user ≡ keys ++ keys_above (user_view shape (b first).list user).files above))

-- the keys of one page
pub record PageKeys (shape : Shape) (user : UserId) (target : ℕ) (serve : List Command → Request → Outcome) (from : List ℕ) (first : ℕ) (above : Option Key) (page : List Key) (r next : Progressed) (result : Result (Unit {0}) RebuildErr) (turns : List (LaneTurn Peer)) (a : ℕ → Peer) (at : Peer) (b : ℕ → Peer) : Type 0 where
  pub are : page ≡ page_of (user_view shape (b first).list user).files above
  pub read : Reads (a first) (b first)
  pub told : KeysTold shape user target serve from page r next result turns a at b

-- no page came
pub record NoPage (target : ℕ) (from : List ℕ) (e : RestoreErr) (turns : List (LaneTurn Peer)) (a : ℕ → Peer) (at : Peer) (b : ℕ → Peer) : Type 0 where
  pub none : turns ≡ []
  pub at_is : at ≡ a target
  pub same : b target ≡ a target
  pub ends : ReadEnds from e a b

-- all keys of the first cloud
pub record AllTold (shape : Shape) (user : UserId) (target : ℕ) (serve : List Command → Request → Outcome) (from : List ℕ) (first : ℕ) (next : Progressed) (result : Result (Unit {0}) RebuildErr) (turns : List (LaneTurn Peer)) (a : ℕ → Peer) (at : Peer) (b : ℕ → Peer) : Type 0 where
  pub keys : List Key
  pub are : keys_in shape (b first).list user ≡ keys
  pub read : ReadBy result (Reads (a first) (b first))
  pub told : KeysTold shape user target serve from keys nothing_yet next result turns a at b

read_early : (e : RestoreErr) (R : Type 0) → ReadBy (Err (stopped_as e)) R
read_early (refusals.Missing x) R = tt
read_early (refusals.Lost x) R = tt
read_early (refusals.CloudFault x) R = tt
read_early (refusals.CloudDamaged x place byte) R = tt
read_early (refusals.CloudRotten x named hash) R = tt
read_early (refusals.CloudNoMemory x) R = tt
read_early (refusals.Strange x kind) R = tt
read_early (refusals.RecipesDiffer one other place) R = tt
read_early (refusals.ShareLength x secret size wanted) R = tt
read_early (refusals.BadShare x secret named hash) R = tt
read_early (refusals.BadSecret secret named hash) R = tt
read_early (refusals.BadPad secret place byte) R = tt
read_early refusals.NoMemory R = tt

read_by : (result : Result (Unit {0}) RebuildErr) (R : Type 0) → R → ReadBy result R
read_by (Ok u) R x = x
read_by (Err (errors.FromRestore e)) R x = tt
read_by (Err errors.TargetLost) R x = x
read_by (Err errors.TargetFault) R x = x
read_by (Err (errors.TargetDamaged place byte)) R x = x
read_by (Err (errors.TargetRotten named hash)) R x = x
read_by (Err (errors.TargetFull room used need limit)) R x = x
read_by (Err (errors.TargetLacking place)) R x = x
read_by (Err errors.TargetNoMemory) R x = x
read_by (Err (errors.TargetStrange kind)) R x = x
read_by (Err errors.NoMemory) R x = tt

module _ (shape : Shape) (user : UserId) (target : ℕ) (serve : List Command → Request → Outcome) (from : List ℕ) (apart : Contains from target → ⊥) (first : ℕ) (here : Contains from first) where
  abbrev Told : List Key → Progressed → Progressed → Result (Unit {0}) RebuildErr → List (LaneTurn Peer) → (ℕ → Peer) → Peer → (ℕ → Peer) → Type 0
  Told keys r next result turns a at b = KeysTold shape user target serve from keys r next result turns a at b

  abbrev SoFar : Option Key → Progressed → List (LaneTurn Peer) → (ℕ → Peer) → Peer → (ℕ → Peer) → Type 0
  SoFar above r turns a at b = PagesTold shape user target serve from first above r turns a at b

  abbrev Page : Option Key → List Key → Progressed → Progressed → Result (Unit {0}) RebuildErr → List (LaneTurn Peer) → (ℕ → Peer) → Peer → (ℕ → Peer) → Type 0
  Page above page r next result turns a at b = PageKeys shape user target serve from first above page r next result turns a at b

  abbrev All : Progressed → Result (Unit {0}) RebuildErr → List (LaneTurn Peer) → (ℕ → Peer) → Peer → (ℕ → Peer) → Type 0
  All next result turns a at b = AllTold shape user target serve from first next result turns a at b

  first_apart : first ≢ target
  first_apart same = apart (subst (λ (x : ℕ). Contains from x) same here)

  pub pages_none : (a : ℕ → Peer) → SoFar None nothing_yet [] a (a target) a
  pages_none a = record { keys = []; told = keys_none shape user target serve from apart nothing_yet a; so_far = inl (refl, refl) }

  read_leaves : (a b : ℕ → Peer) → AreOnlyAsked (first ∷ []) a b → LeavesBut from target a b
  read_leaves a b only = record {
    read = λ c ne. only.read c;
    others = λ c ne out. only.others c (λ has. out (only_cloud first from c here has));
    counts = (only.read target).1;
  }

  -- the keys of a page that was read first
  pub page_keys : (cloud : CloudNo) (above : Option Key) (page : List Key) (r next : Progressed) (result : Result (Unit {0}) RebuildErr) (turns : List (LaneTurn Peer)) (a b : ℕ → Peer) (at : Peer) (c : ℕ → Peer) → cloud.0 ≡ first → r.stop ≡ None
      → AreOnlyAsked (first ∷ []) a b → LeavesBut from target b c → PageTold shape user cloud above (Ok page) a b → Told page r next result turns b at c → Page above page r next result turns a at c
  page_keys cloud above page r next result turns a b at c is none only leaves x y =
      let read : Reads (a first) (b first) = subst (λ (z : ℕ). Reads (a z) (b z)) is x.0 in
      let came : page ≡ page_of (files_in shape user (b first).list) above = subst (λ (z : ℕ). page ≡ page_of (files_in shape user (b z).list) above) is x.1 in
      let same = settled_same (b first) (c first) read.0.pending (leaves.read first first_apart) in
      let still : b target ≡ a target = only.others target (λ has. apart (only_cloud first from target here has)) in
      record {
        are = came ∙ ap (λ (l : List Command). page_of (files_in shape user l) above) (sym same.list);
        read = reads_on (a first) (b first) (c first) read (leaves.read first first_apart);
        told = pages_step shape user target serve from apart [] page r r next result [] turns a b at c none (read_leaves a b only) leaves (
          record {
            found = [];
            front = record { rest = []; split = refl };
            each = λ f has. absurd (contains_nothing f has);
            brings = (refl, refl, still);
          },
          refl,
        )
            y;
      }

  -- the keys of the first cloud, where the next page was read
  behind : (above : Option Key) (r : Progressed) (turns : List (LaneTurn Peer)) (a b c : ℕ → Peer) (at : Peer) (x : SoFar above r turns a at b) → MayRead (b first) (c first)
      → keys_in shape (c first).list user ≡ x.keys ++ keys_above (files_in shape user (c first).list) above
  behind above r turns a b c at x may = by_way x.so_far
    where
      by_way : ((x.keys ≡ []) × (above ≡ None)) ⊎ (Reads (a first) (b first) × (keys_in shape (b first).list user ≡ x.keys ++ keys_above (files_in shape user (b first).list) above))
          → keys_in shape (c first).list user ≡ x.keys ++ keys_above (files_in shape user (c first).list) above
      by_way (inl none) = sym (from_start (files_in shape user (c first).list)) ∙ (λ i. (sym none.0) i ++ keys_above (files_in shape user (c first).list) ((sym none.1) i))
      by_way (inr read) =
          let same = settled_same (b first) (c first) read.0.0.pending may in
          subst (λ (l : List Command). keys_in shape l user ≡ x.keys ++ keys_above (files_in shape user l) above) (sym same.list) read.1

  both_told : (above : Option Key) (page : List Key) (r next : Progressed) (result : Result (Unit {0}) RebuildErr) (one two : List (LaneTurn Peer)) (a b : ℕ → Peer) (at : Peer) (c : ℕ → Peer) → r.stop ≡ None → LeavesBut from target a b → LeavesBut from target b c
      → (x : SoFar above r one a (b target) b) → Page above page r next result two b at c → Told (x.keys ++ page) nothing_yet next result (one ++ two) a at c
  both_told above page r next result one two a b at c none left leaves x y =
      pages_step shape user target serve from apart x.keys page nothing_yet r next result one two a b at c none left leaves x.told y.told

  both_read : (above : Option Key) (page : List Key) (r next : Progressed) (result : Result (Unit {0}) RebuildErr) (two : List (LaneTurn Peer)) (a b : ℕ → Peer) (at : Peer) (c : ℕ → Peer) → LeavesBut from target a b → Page above page r next result two b at c → Reads (a first) (c first)
  both_read above page r next result two a b at c left y = may_reads (a first) (b first) (c first) (left.read first first_apart) y.read

  -- another page comes
  pub pages_more : (above : Option Key) (page front : List Key) (last : Key) (r next : Progressed) (one two : List (LaneTurn Peer)) (a b : ℕ → Peer) (at : Peer) (c : ℕ → Peer) → r.stop ≡ None → page ≡ front ++ last ∷ []
      → LeavesBut from target a b → LeavesBut from target b c → SoFar above r one a (b target) b → Page above page r next ended two b at c → SoFar (Some last) next (one ++ two) a at c
  pages_more above page front last r next one two a b at c none ends left leaves x y = record {
    keys = x.keys ++ page;
    told = both_told above page r next ended one two a b at c none left leaves x y;
    so_far = inr (
      both_read above page r next ended two a b at c left y,
      behind above r one a b c (b target) x (leaves.read first first_apart) ∙ ap (λ (l : List Key). x.keys ++ l) pages
          ∙ sym (append_assoc x.keys page (keys_above (files_in shape user (c first).list) (Some last))),
    );
  }
    where
      pages : keys_above (files_in shape user (c first).list) above ≡ page ++ keys_above (files_in shape user (c first).list) (Some last)
      pages =
          next_page (files_in shape user (c first).list) above front last (sym y.are ∙ ends)
          ∙ ap (λ (l : List Key). l ++ keys_above (files_in shape user (c first).list) (Some last)) (sym y.are)

  -- this page was the last one
  pub pages_done : (above : Option Key) (page : List Key) (r next : Progressed) (one two : List (LaneTurn Peer)) (a b : ℕ → Peer) (at : Peer) (c : ℕ → Peer) → r.stop ≡ None → length page < 256
      → LeavesBut from target a b → LeavesBut from target b c → SoFar above r one a (b target) b → Page above page r next ended two b at c → All next ended (one ++ two) a at c
  pages_done above page r next one two a b at c none few left leaves x y = record {
    keys = x.keys ++ page;
    are = behind above r one a b c (b target) x (leaves.read first first_apart)
        ∙ ap (λ (l : List Key). x.keys ++ l) (last_page (files_in shape user (c first).list) above (subst (λ (l : List Key). length l < 256) y.are few) ∙ sym y.are);
    read = both_read above page r next ended two a b at c left y;
    told = both_told above page r next ended one two a b at c none left leaves x y;
  }

  -- an entry of it stopped the rebuild
  pub pages_stopped : (above : Option Key) (page : List Key) (r next : Progressed) (e : RebuildErr) (one two : List (LaneTurn Peer)) (a b : ℕ → Peer) (at : Peer) (c : ℕ → Peer) → r.stop ≡ None
      → LeavesBut from target a b → LeavesBut from target b c → SoFar above r one a (b target) b → Page above page r next (stopped e) two b at c → All next (stopped e) (one ++ two) a at c
  pages_stopped above page r next e one two a b at c none left leaves x y = record {
    keys = (x.keys ++ page) ++ rest;
    are = behind above r one a b c (b target) x (leaves.read first first_apart) ∙ ap (λ (l : List Key). x.keys ++ l) pages ∙ sym (append_assoc x.keys page rest);
    read = read_by (stopped e) (Reads (a first) (c first)) (both_read above page r next (stopped e) two a b at c left y);
    told = told_wider shape user target serve from (x.keys ++ page) rest nothing_yet next e (one ++ two) a at c (both_told above page r next (stopped e) one two a b at c none left leaves x y);
  }
    where
      all : List Key
      all = keys_above (files_in shape user (c first).list) above

      rest : List Key
      rest = drop 256 all

      pages : all ≡ page ++ rest
      pages = sym (take-append-drop 256 all) ∙ ap (λ (l : List Key). l ++ rest) (sym y.are)

  -- ---- no page came

  unread_keys : (e : RestoreErr) (keys : List Key) (r : Progressed) (turns : List (LaneTurn Peer)) (a : ℕ → Peer) (at : Peer) (b : ℕ → Peer) → r.stop ≡ None → NoPage target from e turns a at b → Told keys r r (Err (stopped_as e)) turns a at b
  unread_keys (refusals.Missing x) keys r turns a at b none y = (r, not_begun shape user target serve from apart keys r turns a b y.none y.same, none, y.ends)
  unread_keys (refusals.Lost x) keys r turns a at b none y = (r, not_begun shape user target serve from apart keys r turns a b y.none y.same, none, y.ends)
  unread_keys (refusals.CloudFault x) keys r turns a at b none y = (r, not_begun shape user target serve from apart keys r turns a b y.none y.same, none, y.ends)
  unread_keys (refusals.CloudDamaged x place byte) keys r turns a at b none y = (r, not_begun shape user target serve from apart keys r turns a b y.none y.same, none, y.ends)
  unread_keys (refusals.CloudRotten x named hash) keys r turns a at b none y = (r, not_begun shape user target serve from apart keys r turns a b y.none y.same, none, y.ends)
  unread_keys (refusals.CloudNoMemory x) keys r turns a at b none y = (r, not_begun shape user target serve from apart keys r turns a b y.none y.same, none, y.ends)
  unread_keys (refusals.Strange x kind) keys r turns a at b none y = (r, not_begun shape user target serve from apart keys r turns a b y.none y.same, none, y.ends)
  unread_keys (refusals.RecipesDiffer one other place) keys r turns a at b none y = (r, not_begun shape user target serve from apart keys r turns a b y.none y.same, none, y.ends)
  unread_keys (refusals.ShareLength x secret size wanted) keys r turns a at b none y = (r, not_begun shape user target serve from apart keys r turns a b y.none y.same, none, y.ends)
  unread_keys (refusals.BadShare x secret named hash) keys r turns a at b none y = (r, not_begun shape user target serve from apart keys r turns a b y.none y.same, none, y.ends)
  unread_keys (refusals.BadSecret secret named hash) keys r turns a at b none y = (r, not_begun shape user target serve from apart keys r turns a b y.none y.same, none, y.ends)
  unread_keys (refusals.BadPad secret place byte) keys r turns a at b none y = (r, not_begun shape user target serve from apart keys r turns a b y.none y.same, none, y.ends)
  unread_keys refusals.NoMemory keys r turns a at b none y = cut_none shape user target serve from apart keys r turns a at b none y.none y.at_is

  pub pages_unread : (above : Option Key) (e : RestoreErr) (r : Progressed) (one two : List (LaneTurn Peer)) (a b : ℕ → Peer) (at : Peer) (c : ℕ → Peer) → r.stop ≡ None
      → LeavesBut from target a b → LeavesBut from target b c → SoFar above r one a (b target) b → NoPage target from e two b at c → All r (Err (stopped_as e)) (one ++ two) a at c
  pages_unread above e r one two a b at c none left leaves x y =
      let rest : List Key = keys_above (files_in shape user (c first).list) above in
      record {
        keys = x.keys ++ rest;
        are = behind above r one a b c (b target) x (leaves.read first first_apart);
        read = read_early e (Reads (a first) (c first));
        told = pages_step shape user target serve from apart x.keys rest nothing_yet r r (Err (stopped_as e)) one two a b at c none left leaves x.told (unread_keys e rest r two b at c none y);
      }

  -- ---- all pages are a rebuild

  pub all_runs : (rebuilt : Rebuilt) (result : Result (Unit {0}) RebuildErr) (turns : List (LaneTurn Peer)) (a : ℕ → Peer) (at : Peer) (b : ℕ → Peer) → first ≡ first_of from → LeavesBut from target a b → CountsOn (a target) at → HandsOn from result
      → All (progress_of rebuilt) result turns a at b → RunsTo shape user target serve from (whole rebuilt result) turns a at b
  all_runs rebuilt result turns a at b is leaves counts hands x =
      told_runs shape user target serve from rebuilt result x.keys turns a at b (subst (λ (c : ℕ). Contains from c) is here) apart leaves counts
      (subst (λ (c : ℕ). ReadBy result (Reads (a c) (b c))) is x.read) (subst (λ (c : ℕ). keys_in shape (b c).list user ≡ x.keys) is x.are) hands x.told

-- ---- over a link

-- asks of one of the clouds that are read
read_wider : {L : Type 0} (t : LinkTelling L) (cloud : ℕ) (from : List ℕ) (old new : L) (A R : Between) → Contains from cloud → ReadLeads t (cloud ∷ []) old new A R → ReadLeads t from old new A R
read_wider t cloud from old new A R here leads these all before peers =
    let x = leads these (λ c has. all c (only_cloud cloud from c here has)) before peers in (
      x.0,
      x.1,
      record { read = x.2.read; others = λ c out. x.2.others c (λ has. out (only_cloud cloud from c here has)) },
      x.3,
      λ told. x.4 (λ c has. told c (only_cloud cloud from c here has)),
    )

ends_wider : (cloud : ℕ) (from : List ℕ) (e : RestoreErr) (a b : ℕ → Peer) → Contains from cloud → ReadEnds (cloud ∷ []) e a b → ReadEnds from e a b
ends_wider cloud from (refusals.Missing x) a b here y = y
ends_wider cloud from (refusals.Lost x) a b here y = only_cloud cloud from x.0 here y
ends_wider cloud from (refusals.CloudFault x) a b here y = (only_cloud cloud from x.0 here y.0, y.1)
ends_wider cloud from (refusals.CloudDamaged x place byte) a b here y = y
ends_wider cloud from (refusals.CloudRotten x named hash) a b here y = y
ends_wider cloud from (refusals.CloudNoMemory x) a b here y = y
ends_wider cloud from (refusals.Strange x kind) a b here y = y
ends_wider cloud from (refusals.RecipesDiffer one other place) a b here y = y
ends_wider cloud from (refusals.ShareLength x secret size wanted) a b here y = y
ends_wider cloud from (refusals.BadShare x secret named hash) a b here y = y
ends_wider cloud from (refusals.BadSecret secret named hash) a b here y = y
ends_wider cloud from (refusals.BadPad secret place byte) a b here y = y
ends_wider cloud from refusals.NoMemory a b here y = y

-- The pages so far over a link, and the key above which the next one begins.
pub record Paged {L : Type 0} (t : LinkTelling L) (talk : L → ℕ → Talk → Type 0) (target : ℕ) (from : List ℕ) (shape : Shape) (user : UserId) (first : ℕ) (old link : L) (above : Option Key) (r : Progressed) : Type 0 where
  pub leads : LeadsWithTarget t talk target from old link (Ok (tt {0})) (HasRebuildCause {A = Unit {0}} t old shape user target (Ok (tt {0}))) (PagesTold shape user target (serves t old target) from first above r)
  pub asked : HasAskedToRebuild t target from old link false
  pub lanes : BringsOwn t shape user target from old link

pub first_here : (shape : Shape) (from : List ℕ) (first : ℕ) → length from ≡ shape.k → first ≡ first_of from → Contains from first
first_here shape from first count is = subst (λ (x : ℕ). Contains from x) (sym is) (first_in shape from count)

module _ {L : Type 0} (t : LinkTelling L) (talk : L → ℕ → Talk → Type 0) (target : ℕ) (from : List ℕ) (shape : Shape) (user : UserId) (apart : Contains from target → ⊥) (cloud : CloudNo) (here : Contains from cloud.0) where
  abbrev So : L → L → Option Key → Progressed → Type 0
  So old link above r = Paged t talk target from shape user cloud.0 old link above r

  pub paged_none : (link : L) → So link link None nothing_yet
  paged_none link = record {
    leads = leads_still t talk target from link (tt {0}) _ _ (λ a. record { caused = tt {0}; said = tt {0}; ended = tt {0}; own = lanes_none shape user target }) (λ a. pages_none shape user target (serves t link target) from apart cloud.0 here a);
    asked = asked_none t target from link;
    lanes = own_none t shape user target from link;
  }

  abbrev pub AllLeads : L → L → Progressed → Result (Unit {0}) RebuildErr → Type 0
  AllLeads old new next result = LeadsWithTarget t talk target from old new result (HasRebuildCause t old shape user target result) (AllTold shape user target (serves t old target) from cloud.0 next result)

  page_asked : (mid new : L) (loss : Bool) → ReadAsked t (cloud.0 ∷ []) mid new loss → ReadAsked t from mid new loss
  page_asked mid new loss asked = asked_at t cloud.0 from mid new loss here asked

  -- no page came
  pub paged_unread : (old mid new : L) (above : Option Key) (r : Progressed) (e : RestoreErr) (loss : Bool) → r.stop ≡ None → So old mid above r → ReadAsked t (cloud.0 ∷ []) mid new loss
      → ReadLeads t (cloud.0 ∷ []) mid new (ReadCauses {A = List Key} t mid (Err e)) (PageTold shape user cloud above (Err e)) → AllLeads old new r (Err (stopped_as e))
  paged_unread old mid new above r e loss none paged asked leads =
      let wide = page_asked mid new loss asked in
      leads_then t talk target from old mid new (tt {0}) (stopped (stopped_as e)) _ (HasRebuildCause t mid shape user target (stopped (stopped_as e))) (HasRebuildCause t old shape user target (stopped (stopped_as e)))
      _ (NoPage target from e) (AllTold shape user target (serves t old target) from cloud.0 r (stopped (stopped_as e))) paged.leads paged.asked.told
      (read_stops t talk target from mid new (stopped (stopped_as e)) (ReadCauses {A = List Key} t mid (Err e)) (HasRebuildCause t mid shape user target (stopped (stopped_as e))) (PageTold shape user cloud above (Err e)) (NoPage target from e) apart (wide.asks, wide.passed)
      (read_wider t cloud.0 from mid new (ReadCauses {A = List Key} t mid (Err e)) (PageTold shape user cloud above (Err e)) here leads) (λ p q same. then_stopped (Unit {0}) t target new p q e same)
      (λ a b one x. stopped_holds (Unit {0}) t mid shape user target e a b x)
      (λ a b one x. record { none = refl; at_is = refl; same = one.others target apart; ends = ends_wider cloud.0 from e a b here x }))
      (λ us vs a b c one two x y. holds_on t old mid shape user target (tt {0}) (stopped (stopped_as e)) us vs a b c paged.asked.told (faults_grow from target a b one) x y)
      (λ us vs a b at c one two x y. pages_unread shape user target (serves t old target) from apart cloud.0 here above e r us vs a b at c none one two x y)

  pub unread_asked : (old mid new : L) (above : Option Key) (r : Progressed) (e : RestoreErr) (loss : Bool) → loss ≡ is_lost (stopped (stopped_as e)) → So old mid above r → ReadAsked t (cloud.0 ∷ []) mid new loss
      → HasAskedToRebuild t target from old new (is_lost (stopped (stopped_as e)))
  unread_asked old mid new above r e loss is paged asked =
      asked_on t target from old mid new _ paged.asked (asked_as t target from mid new loss _ is (asked_reads t target from mid new loss (page_asked mid new loss asked)))

  -- a page came, and this became of its keys
  page_leads : (old mid read new : L) (above : Option Key) (page : List Key) (r next : Progressed) (result : Result (Unit {0}) RebuildErr) (T : ByTurns) → r.stop ≡ None → So old mid above r → ReadAsked t (cloud.0 ∷ []) mid read false
      → ReadLeads t (cloud.0 ∷ []) mid read (ReadCauses {A = List Key} t mid (Ok page)) (PageTold shape user cloud above (Ok page)) → KeysLeads t talk target from shape user apart (serves t read target) read new page r next result
      → ((us vs : List (LaneTurn Peer)) (a b : ℕ → Peer) (at : Peer) (c : ℕ → Peer) → LeavesBut from target a b → LeavesBut from target b c → PagesTold shape user target (serves t old target) from cloud.0 above r us a (b target) b
      → PageKeys shape user target (serves t old target) from cloud.0 above page r next result vs b at c → T (us ++ vs) a at c)
      → LeadsWithTarget t talk target from old new result (HasRebuildCause t old shape user target result) T
  page_leads old mid read new above page r next result T none paged asked leads keys both =
      let wide = page_asked mid read false asked in
      let serve : List Command → Request → Outcome = serves t old target in
      let same = serves_same t target mid read asked.shape asked.full ∙ serves_same t target old mid paged.asked.shape paged.asked.full in
      leads_then t talk target from old mid new (tt {0}) result _ (HasRebuildCause t mid shape user target result) (HasRebuildCause t old shape user target result) _ (PageKeys shape user target serve from cloud.0 above page r next result) T paged.leads paged.asked.told
      (page_then t talk target from cloud.0 mid read new result _ (HasRebuildCause t read shape user target result) (HasRebuildCause t mid shape user target result) _ (KeysTold shape user target serve from page r next result)
      (PageKeys shape user target serve from cloud.0 above page r next result) apart here (wide.asks, wide.passed) asked.told leads
      (subst (λ (s : List Command → Request → Outcome). KeysLeads t talk target from shape user apart s read new page r next result) same keys)
      (λ vs a b c one two x y. holds_before t mid read shape user target result vs a b c asked.told (λ c. (one.read c).1.faults) y)
      (λ vs a b at c one two x y. page_keys shape user target serve from apart cloud.0 here cloud above page r next result vs a b at c refl none one two x y))
      (λ us vs a b c one two x y. holds_on t old mid shape user target (tt {0}) result us vs a b c paged.asked.told (faults_grow from target a b one) x y)
      both

  pub paged_stopped : (old mid read new : L) (above : Option Key) (page : List Key) (r next : Progressed) (e : RebuildErr) → r.stop ≡ None → So old mid above r → ReadAsked t (cloud.0 ∷ []) mid read false
      → ReadLeads t (cloud.0 ∷ []) mid read (ReadCauses {A = List Key} t mid (Ok page)) (PageTold shape user cloud above (Ok page)) → KeysLeads t talk target from shape user apart (serves t read target) read new page r next (stopped e)
      → AllLeads old new next (stopped e)
  paged_stopped old mid read new above page r next e none paged asked leads keys =
      page_leads old mid read new above page r next (stopped e) (AllTold shape user target (serves t old target) from cloud.0 next (stopped e)) none paged asked leads keys
      (λ us vs a b at c one two x y. pages_stopped shape user target (serves t old target) from apart cloud.0 here above page r next e us vs a b at c none one two x y)

  pub paged_done : (old mid read new : L) (above : Option Key) (page : List Key) (r next : Progressed) → r.stop ≡ None → length page < 256 → So old mid above r → ReadAsked t (cloud.0 ∷ []) mid read false
      → ReadLeads t (cloud.0 ∷ []) mid read (ReadCauses {A = List Key} t mid (Ok page)) (PageTold shape user cloud above (Ok page)) → KeysLeads t talk target from shape user apart (serves t read target) read new page r next ended
      → AllLeads old new next ended
  paged_done old mid read new above page r next none few paged asked leads keys =
      page_leads old mid read new above page r next ended (AllTold shape user target (serves t old target) from cloud.0 next ended) none paged asked leads keys
      (λ us vs a b at c one two x y. pages_done shape user target (serves t old target) from apart cloud.0 here above page r next us vs a b at c none few one two x y)

  pub paged_asked : (old mid read new : L) (above : Option Key) (r : Progressed) (loss : Bool) → So old mid above r → ReadAsked t (cloud.0 ∷ []) mid read false → HasAskedToRebuild t target from read new loss → HasAskedToRebuild t target from old new loss
  paged_asked old mid read new above r loss paged asked keys =
      asked_on t target from old mid new loss paged.asked (asked_on t target from mid read new loss (asked_reads t target from mid read false (page_asked mid read false asked)) keys)

  pub unread_lanes : (old mid new : L) (above : Option Key) (r : Progressed) (loss : Bool) → So old mid above r → ReadAsked t (cloud.0 ∷ []) mid new loss → BringsOwn t shape user target from old new
  unread_lanes old mid new above r loss paged asked = own_on t shape user target from old mid new paged.lanes (own_reads t shape user target from mid new loss (page_asked mid new loss asked))

  pub paged_lanes : (old mid read new : L) (above : Option Key) (r : Progressed) → So old mid above r → ReadAsked t (cloud.0 ∷ []) mid read false → BringsOwn t shape user target from read new → BringsOwn t shape user target from old new
  paged_lanes old mid read new above r paged asked keys = own_on t shape user target from old read new (unread_lanes old mid read above r false paged asked) keys

  pub paged_more : (old mid read new : L) (above : Option Key) (page front : List Key) (last : Key) (r next : Progressed) → r.stop ≡ None → page ≡ front ++ last ∷ [] → So old mid above r → ReadAsked t (cloud.0 ∷ []) mid read false
      → ReadLeads t (cloud.0 ∷ []) mid read (ReadCauses {A = List Key} t mid (Ok page)) (PageTold shape user cloud above (Ok page)) → KeysLeads t talk target from shape user apart (serves t read target) read new page r next ended
      → HasAskedToRebuild t target from read new false → BringsOwn t shape user target from read new → So old new (Some last) next
  paged_more old mid read new above page front last r next none ends paged asked leads keys keys_asked keys_lanes = record {
    leads = page_leads old mid read new above page r next ended (PagesTold shape user target (serves t old target) from cloud.0 (Some last) next) none paged asked leads keys
        (λ us vs a b at c one two x y. pages_more shape user target (serves t old target) from apart cloud.0 here above page front last r next us vs a b at c none ends one two x y);
    asked = paged_asked old mid read new above r false paged asked keys_asked;
    lanes = paged_lanes old mid read new above r paged asked keys_lanes;
  }

  -- the whole rebuild
  pub all_leads : (old new : L) (rebuilt : Rebuilt) (result : Result (Unit {0}) RebuildErr) → cloud.0 ≡ first_of from → HandsOn from result → AllLeads old new (progress_of rebuilt) result
      → LeadsWithTarget t talk target from old new result (HasRebuildCause t old shape user target result) (λ turns a at b. RunsTo shape user target (serves t old target) from (whole rebuilt result) turns a at b)
  all_leads old new rebuilt result is hands leads these all before peers =
      let x = leads these all before peers in (
        x.0,
        x.1,
        x.2,
        x.3,
        x.4,
        x.5,
        x.6,
        x.7,
        x.8,
        λ told. all_runs shape user target (serves t old target) from apart cloud.0 here rebuilt result x.1 before x.3 x.0 is x.5 (along_counts t talk target from old (before target) x.1 x.2 x.3 x.6) hands (x.9 told),
      )
