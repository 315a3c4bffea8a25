-- What the clouds that were opened said in a restore, by the memories that their openings read.
use Rattle.std.proofs.Common.{◌≡◌, ℕ, ◌≤◌, ◌⊎◌, Bool, false, List, [], ◌∷◌, map, arith, refl, sym, ap, ◌∙◌, subst, inl, inr}
use Rattle.std.specs.Prelude.{◌≢◌, IsTrue, Some, None, Result, Ok, Err}
use Rattle.std.specs.List.{Contains}
use Rattle.commit_journal.specs.CdBase.ids.CloudNo.{CloudNo}
use Rattle.commit_journal.specs.CdBase.ids.Fp.{Fp}
use Rattle.commit_journal.specs.CdBase.ids.Tag.{Tag}
use Rattle.commit_journal.specs.CdBase.ids.UserId.{UserId}
use Rattle.commit_journal.specs.CdBase.ids.Version.{Version}
use Rattle.commit_journal.specs.CdBase.shape.Shape.{Shape}
use Rattle.commit_journal.specs.CdEdges.Causes.{Rose}
use Rattle.commit_journal.specs.CdEdges.Disk.{Cloud, Image, IsImage, LeavesOnly, reads}
use Rattle.commit_journal.proofs.CdEdges.Moments.{joined, weaker}
use Rattle.commit_journal.specs.JournalStart.start.Header.{Header}
use Rattle.cloud_areas.specs.UserDedup.Link.{AddsNothing, IsReading, Passes, ReadsOneOf, Talk}
use Rattle.cloud_areas.specs.UserDedup.Link.{Exchange as Asked_one}
use Rattle.cloud_areas.proofs.UserDedup.Owned.{contains_here}
use Rattle.local_link.specs.CloudMemory.Memory.{Memory}
use Rattle.local_link.specs.CdBase.Reading.{AreBytes}
use Rattle.local_link.specs.Messages.ReplyReading.{reply_at}
use Rattle.local_link.specs.Messages.Replies.{IsReply}
use Rattle.local_link.specs.Messages.Requests.{IsRequest}
use Rattle.local_link.specs.Messages.reply.Reply.{Reply}
use Rattle.local_link.specs.Messages.reply.Reply.TheVariants as replies
use Rattle.local_link.specs.Messages.request.Request.{Request}
use Rattle.local_link.specs.Messages.request.Request.TheVariants as requests
use Rattle.local_link.specs.ServerCommands.Entering.{ReadsBy}
use Rattle.local_link.specs.ServerCommands.Leaving.{IsFound}
use Rattle.local_link.specs.declared.link.LocalLink.{LocalLink}
use Rattle.local_link.specs.Tells.{IsRemembered, IsSaidBy, header_at, server_at, telling}
use Rattle.local_link.proofs.ByMemory.{found_is, said_is, said_there}
use Rattle.local_link.proofs.Passing.{fault_alone}
use Rattle.messages.proofs.ReplyLaws.{reply_law}
use Rattle.subset_restore.specs.RestoreJob.Asking.{is_lost}
use Rattle.subset_restore.specs.RestoreJob.Exchanges.{CloudExchange, PassesAll, RestorePassed, RestoreRun, Unlost, passed_on}
use Rattle.subset_restore.specs.RestoreJob.Refusals.{Names}
use Rattle.subset_restore.specs.RestoreJob.error.RestoreErr.{RestoreErr}
use Rattle.subset_restore.specs.RestoreJob.error.RestoreErr.TheVariants as errors
use Rattle.subset_restore.specs.Ends.{Sought, AllRefused, HasFileCome, NoneCame}
use Rattle.subset_restore.specs.Refusals.{refusal_of}
use Rattle.subset_restore.specs.Subsets.{subsets}
use Rattle.subset_restore.specs.Transcript.refusal.Refusal.{Refusal}
use Rattle.subset_restore.specs.Transcript.refusal.Refusal.TheVariants as refusals
use Rattle.subset_restore.specs.Tries.{Try}
use Rattle.subset_restore.proofs.Elements.{contains_back, contains_mapped}
use Rattle.read_command.specs.Disks.{InItsRooms, IsSpared, OpensWith}
use Rattle.read_command.specs.Ends.{Outside, ByMemory, CameOf, IsSaid, SaysOf}
use Rattle.read_command.specs.Opening.{AreOpened, IsRememberedAt}
use Rattle.read_command.proofs.Refusing.{HasHeard, of_damaged, of_missing, of_rotten, restore_heard}
use Rattle.read_command.proofs.Restoring.{named_or_not, reading_chain}

rose_within : (a b c d : ℕ) → a ≤ b → Rose b c → c ≤ d → Rose a d
rose_within a b c d first rose last = omega (arith, rose)

-- what a refusal has whose ask wasn't lost, and for which there was memory
unlost : (e : RestoreErr) (P : Type 0) (why : Refusal) → (let r : Result (Unit {0}) RestoreErr = Err e in is_lost r ≡ false) → refusal_of e ≡ Some why
    → (let r : Result (Unit {0}) RestoreErr = Err e in Unlost r P) → P
unlost (errors.Missing cloud) P why found is p = p
unlost (errors.RecipesDiffer a b place) P why found is p = p
unlost (errors.ShareLength cloud secret wrong expected) P why found is p = p
unlost (errors.BadSecret secret name wrong) P why found is p = p
unlost (errors.BadPad secret at byte) P why found is p = p
unlost (errors.CloudFault cloud) P why found is p = p
unlost (errors.Lost cloud) P why found is p = absurd (let never = found in cc)
unlost errors.NoMemory P why found is p = absurd (let never : None ≡ Some why = is in cc)
unlost (errors.CloudDamaged cloud at byte) P why found is p = p
unlost (errors.CloudRotten cloud name wrong) P why found is p = p
unlost (errors.CloudNoMemory cloud) P why found is p = p
unlost (errors.Strange cloud kind) P why found is p = p
unlost (errors.BadShare cloud secret name wrong) P why found is p = p

-- what is said of a memory says more
by_more : (c : Outside) (shape : Shape) (cloud : ℕ) (P Q : Memory → Type 0) → ((m : Memory) → P m → Q m) → ByMemory c shape cloud P → ByMemory c shape cloud Q
by_more c shape cloud P Q more is told =
    let o = is told in
    (o.0, o.1, record { memory = o.2.memory; commands = o.2.commands; opens = o.2.opens; has = more o.2.memory o.2.has })

-- what came that reads as another reply isn't Fault
not_fault : {Risen Says : Type 0} (content : List ℕ) (answer : Reply) → AreBytes content → (let is : Result Reply ℕ = Ok answer in reply_at content ≡ is) → answer ≢ replies.Fault
    → (IsReply content replies.Fault × Risen) ⊎ Says → Says
not_fault content answer are read other (inr says) = says
not_fault content answer are read other (inl fault) = absurd (other (fault_alone content answer ((reply_law content answer are).0 read) fault.0))

module _ {V : Type 0} (clouds : V → ℕ → Cloud) where
  -- what the cloud of this number reads opens to the memory
  abbrev pub Reads : LocalLink V → ℕ → Memory → Type 0
  Reads a cloud m = IsRemembered (header_at a.servers cloud) (clouds a.shelf.now cloud) (server_at a.servers cloud) m

  -- it does so still, and reads as it did
  abbrev pub ReadsOn : LocalLink V → LocalLink V → ℕ → Memory → Type 0
  ReadsOn a b cloud m = Reads b cloud m × LeavesOnly (clouds a.shelf.now cloud) (clouds b.shelf.now cloud) (λ (image : Image). image ≡ reads (clouds a.shelf.now cloud).now)
      × (reads (clouds b.shelf.now cloud).now ≡ reads (clouds a.shelf.now cloud).now)

  abbrev pub Chain : LocalLink V → List Asked_one → LocalLink V → Type 0
  Chain a asks b = Passes (telling clouds) (λ e. IsReading e.content) a asks b

-- What is known of asks that add nothing.
pub record Readings {V : Type 0} (clouds : V → ℕ → Cloud) : Type 0 where
  pub later : (asks : List Asked_one) (a b : LocalLink V) (cloud : ℕ) → Chain clouds a asks b → (clouds a.shelf.now cloud).faults ≤ (clouds b.shelf.now cloud).faults
  pub fault : (asks : List Asked_one) (a b : LocalLink V) (ask : Asked_one) (content : List ℕ) → Chain clouds a asks b → Contains asks ask → ask.reply ≡ Some content
      → IsReply content replies.Fault → Rose (clouds a.shelf.now ask.cloud).faults (clouds b.shelf.now ask.cloud).faults
  pub reading : (asks : List Asked_one) (a b : LocalLink V) (cloud : ℕ) (m : Memory) → Chain clouds a asks b → IsTrue (clouds a.shelf.now cloud).told → Reads clouds a cloud m
      → ReadsOn clouds a b cloud m
  pub recalled : (asks : List Asked_one) (a b : LocalLink V) (ask : Asked_one) (content : List ℕ) (m : Memory) (r : Request) → Chain clouds a asks b
      → Contains asks ask → ask.reply ≡ Some content → IsRequest ask.content r → AddsNothing r → IsTrue (clouds a.shelf.now ask.cloud).told → Reads clouds a ask.cloud m
      → IsReply content replies.Fault ⊎ IsSaidBy (clouds a.shelf.now ask.cloud) m r content

module _ {V : Type 0} (clouds : V → ℕ → Cloud) (named : List ℕ) (shape : Shape) (total_before between total_after : ℕ) (old mid new : LocalLink V)
    (same : old.servers.shape ≡ shape) (opened : AreOpened clouds total_before between old mid named) (user : UserId) (tag : Tag) (version : Version)
    (talk : LocalLink V → ℕ → Talk → Type 0) (was : List ℕ) (none : was ≡ []) (law : Readings clouds) where
  abbrev around : Outside
  around = record { total_before = total_before; total_after = total_after; old = clouds old.shelf.now; new = clouds new.shelf.now }

  abbrev wanted : Sought
  wanted = record { shape = shape; user = user; tag = tag; version = version; clouds = named }

  -- ---- from try to try

  abbrev Tried : LocalLink V → List Try → LocalLink V → Type 0
  Tried a tries b = AllRefused (telling clouds) talk wanted was a tries b

  later_all : (tries : List Try) (a b : LocalLink V) → Tried a tries b → (cloud : ℕ) → (clouds a.shelf.now cloud).faults ≤ (clouds b.shelf.now cloud).faults
  later_all [] a b at_once cloud = subst (λ (l : LocalLink V). (clouds a.shelf.now cloud).faults ≤ (clouds l.shelf.now cloud).faults) (sym at_once) (omega arith)
  later_all (x ∷ tries) a b all cloud =
      let first = law.later all.1.asked.asks a all.0 cloud (reading_chain clouds x.subset all.1.asked.asks a all.0 all.1.asked.passed) in
      let rest = later_all tries all.0 b all.2 cloud in
      omega arith

  told_all : (tries : List Try) (a b : LocalLink V) → Tried a tries b → (cloud : ℕ) → (clouds b.shelf.now cloud).told ≡ (clouds a.shelf.now cloud).told
  told_all [] a b at_once cloud = ap (λ (l : LocalLink V). (clouds l.shelf.now cloud).told) at_once
  told_all (x ∷ tries) a b all cloud = told_all tries all.0 b all.2 cloud ∙ (λ i. all.1.asked.told i cloud)

  -- what its areas read opens to the memory still
  reading_all : (tries : List Try) (a b : LocalLink V) (cloud : ℕ) (m : Memory) → Tried a tries b → IsTrue (clouds a.shelf.now cloud).told → Reads clouds a cloud m
      → Reads clouds b cloud m × (reads (clouds b.shelf.now cloud).now ≡ reads (clouds a.shelf.now cloud).now)
  reading_all [] a b cloud m at_once told is =
      subst (λ (l : LocalLink V). Reads clouds l cloud m × (reads (clouds l.shelf.now cloud).now ≡ reads (clouds a.shelf.now cloud).now)) (sym at_once) (is, refl)
  reading_all (x ∷ tries) a b cloud m all told is =
      let first = law.reading all.1.asked.asks a all.0 cloud m (reading_chain clouds x.subset all.1.asked.asks a all.0 all.1.asked.passed) told is in
      let more = reading_all tries all.0 b cloud m all.2 (subst (λ (t : Bool). IsTrue t) (sym (λ i. all.1.asked.told i cloud)) told) first.0 in
      (more.0, more.1 ∙ first.2)

  -- ---- what was said in one restore behind some tries

  module _ (tries : List Try) (at to : LocalLink V) (all : Tried mid tries at) (log : List CloudExchange) (chain : PassesAll (telling clouds) at to log)
      (rest : (cloud : ℕ) → (clouds to.shelf.now cloud).faults ≤ (clouds new.shelf.now cloud).faults) (x : CloudExchange) (has : Contains log x) (is_named : Contains named x.cloud)
      (told : IsTrue (clouds old.shelf.now x.cloud).told) (m : Memory) (is : Reads clouds mid x.cloud m) (r : Request) (asks : IsRequest x.request r) (adds : AddsNothing r) where
    told_mid : IsTrue (clouds mid.shelf.now x.cloud).told
    told_mid = subst (λ (t : Bool). IsTrue t) (sym (opened.told x.cloud)) told

    told_at : IsTrue (clouds at.shelf.now x.cloud).told
    told_at = subst (λ (t : Bool). IsTrue t) (sym (told_all tries mid at all x.cloud)) told_mid

    so_far : Reads clouds at x.cloud m × (reads (clouds at.shelf.now x.cloud).now ≡ reads (clouds mid.shelf.now x.cloud).now)
    so_far = reading_all tries mid at x.cloud m all told_mid is

    risen : Rose (clouds at.shelf.now x.cloud).faults (clouds to.shelf.now x.cloud).faults → Rose (clouds old.shelf.now x.cloud).faults (clouds new.shelf.now x.cloud).faults
    risen rose =
        let a = (opened.each x.cloud is_named).faults in let b = later_all tries mid at all x.cloud in
        rose_within (clouds old.shelf.now x.cloud).faults (clouds at.shelf.now x.cloud).faults (clouds to.shelf.now x.cloud).faults (clouds new.shelf.now x.cloud).faults
        (omega arith) rose (rest x.cloud)

    said_here : (IsReply x.reply replies.Fault × Rose (clouds old.shelf.now x.cloud).faults (clouds new.shelf.now x.cloud).faults) ⊎ IsSaidBy (clouds old.shelf.now x.cloud) m r x.reply
    said_here = by_reply (law.recalled (map passed_on log) at to (passed_on x) x.reply m r chain (contains_mapped passed_on log x has) refl asks adds told_at so_far.0)
      where
        by_reply : IsReply x.reply replies.Fault ⊎ IsSaidBy (clouds at.shelf.now x.cloud) m r x.reply
            → (IsReply x.reply replies.Fault × Rose (clouds old.shelf.now x.cloud).faults (clouds new.shelf.now x.cloud).faults) ⊎ IsSaidBy (clouds old.shelf.now x.cloud) m r x.reply
        by_reply (inl fault) = inl (fault, risen (law.fault (map passed_on log) at to (passed_on x) x.reply chain (contains_mapped passed_on log x has) refl fault))
        by_reply (inr says) =
            inr (said_there (clouds at.shelf.now x.cloud) (clouds old.shelf.now x.cloud) m (sym (told_all tries mid at all x.cloud ∙ opened.told x.cloud))
            (sym (so_far.1 ∙ (opened.each x.cloud is_named).same told)) r x.reply says)

  said_in : (tries : List Try) (at to : LocalLink V) → Tried mid tries at → (log : List CloudExchange) → PassesAll (telling clouds) at to log
      → ((cloud : ℕ) → (clouds to.shelf.now cloud).faults ≤ (clouds new.shelf.now cloud).faults) → (x : CloudExchange) → Contains log x → Contains named x.cloud → IsSaid around shape x
  said_in tries at to all log chain rest x has is_named told =
      let o = subst
      (λ (s : Shape). InItsRooms s x.cloud (clouds old.shelf.now x.cloud) (λ (h : Header). OpensWith h (clouds old.shelf.now x.cloud) (IsRememberedAt clouds mid x.cloud h)))
      same ((opened.each x.cloud is_named).memory told) in
      let is = subst (λ (h : Header). IsRemembered h (clouds mid.shelf.now x.cloud) (server_at mid.servers x.cloud) o.2.memory) (sym o.2.has.0) o.2.has.1 in (
        o.0,
        o.1,
        record {
          memory = o.2.memory;
          commands = o.2.commands;
          opens = o.2.opens;
          has = λ r asks adds. said_here tries at to all log chain rest x has is_named told o.2.memory is r asks adds;
        },
      )

  -- ---- how it ended

  pub came_ok : (file : List ℕ) → HasFileCome (telling clouds) talk wanted mid new was file → CameOf around shape user (tag, version) named (Ok tt) file
  came_ok file came =
      let p = came.restored.passed in
      record {
        chosen = p.said.chosen;
        in_order = subst (Contains (subsets shape.k named)) (sym p.said.chosen_are)
            (subst (λ (l : List (List ℕ)). Contains l came.subset) (sym came.split) (contains_back came.front (came.subset ∷ came.rest) came.subset (contains_here came.subset came.rest)));
        log = p.said.log;
        left = p.said.left;
        run = subst (λ (l : List ℕ). RestoreRun shape user tag version p.said.chosen p.said.log l p.said.left (Ok tt)) none p.said.run;
        stands = p.said.stands;
        said = said_in came.tries came.mid new came.refused p.said.log p.passed (λ cloud. omega arith);
      }

  pub came_err : (e : RestoreErr) (why : Refusal) → (let r : Result (Unit {0}) RestoreErr = Err e in is_lost r ≡ false) → refusal_of e ≡ Some why
      → NoneCame (telling clouds) talk wanted mid new was e → CameOf around shape user (tag, version) named (Err e) []
  came_err e why found is came =
      let all = subst (λ (l : List Try). Tried mid l new) came.tries_are came.refused in
      let p = unlost e (RestorePassed (telling clouds) talk mid all.0 shape user tag version came.first was was (Err e)) why found is all.1.passed in
      record {
        chosen = p.said.chosen;
        in_order = subst (Contains (subsets shape.k named)) (sym p.said.chosen_are)
            (subst (λ (l : List (List ℕ)). Contains l came.first) (sym came.first_is) (contains_here came.first came.rest));
        log = p.said.log;
        left = p.said.left;
        run = subst (λ (l : List ℕ). RestoreRun shape user tag version p.said.chosen p.said.log l p.said.left (Err e)) none p.said.run;
        stands = tt;
        said = said_in [] mid all.0 refl p.said.log p.passed (λ cloud. later_all came.more all.0 new all.2 cloud);
      }

  -- ---- what a refusal says

  abbrev key : Tag × Version
  key = (tag, version)

  -- what is said of an exchange
  abbrev Says : CloudExchange → Memory → Type 0
  Says x m = (r : Request) → IsRequest x.request r → AddsNothing r
      → (IsReply x.reply replies.Fault × Rose (clouds old.shelf.now x.cloud).faults (clouds new.shelf.now x.cloud).faults) ⊎ IsSaidBy (clouds old.shelf.now x.cloud) m r x.reply

  abbrev of_recipe : Request
  of_recipe = requests.GetRecipe user tag version

  missing_said : (cloud : CloudNo) → Contains named cloud.0 → CameOf around shape user key named (Err (errors.Missing cloud)) [] → SaysOf around shape user key (errors.Missing cloud)
  missing_said cloud is_named came =
      let w = restore_heard shape user tag version (errors.Missing cloud) cloud replies.Missing (of_missing cloud) came.chosen came.log [] came.left _ came.run refl in
      subst (λ (n : ℕ). ByMemory around shape n (λ m. ReadsBy m of_recipe replies.Missing)) w.cloud_is
      (by_more around shape w.x.cloud _ (λ m. ReadsBy m of_recipe replies.Missing)
      (λ m says. by_asked w m says w.asked) (came.said w.x w.has (subst (Contains named) (sym w.cloud_is) is_named)))
    where
      by_asked : (w : HasHeard user tag version came.log cloud replies.Missing) (m : Memory)
          → Says w.x m
          → IsRequest w.x.request of_recipe ⊎ ((fps : List Fp) × IsRequest w.x.request (requests.GetShares user fps)) → ReadsBy m of_recipe replies.Missing
      by_asked w m says (inl asks) = said_is (clouds old.shelf.now w.x.cloud) m of_recipe w.x.reply replies.Missing w.bytes w.read (not_fault w.x.reply replies.Missing w.bytes w.read (λ e. let never : replies.Missing ≡ replies.Fault = e in cc) (says of_recipe asks tt))
      by_asked w m says (inr some) =
          let r = requests.GetShares user some.0 in
          absurd (said_is (clouds old.shelf.now w.x.cloud) m r w.x.reply replies.Missing w.bytes w.read (not_fault w.x.reply replies.Missing w.bytes w.read (λ e. let never : replies.Missing ≡ replies.Fault = e in cc) (says r some.1 tt)))

  damaged_said : (cloud : CloudNo) (at byte : ℕ) → Contains named cloud.0 → CameOf around shape user key named (Err (errors.CloudDamaged cloud at byte)) []
      → SaysOf around shape user key (errors.CloudDamaged cloud at byte)
  damaged_said cloud at byte is_named came =
      let answer = replies.Damaged at byte in
      let w = restore_heard shape user tag version (errors.CloudDamaged cloud at byte) cloud answer (of_damaged cloud at byte) came.chosen came.log [] came.left _ came.run refl in
      subst (λ (n : ℕ). ByMemory around shape n (λ m. ⊥)) w.cloud_is
      (by_more around shape w.x.cloud _ (λ m. ⊥) (λ m says. by_asked w m says w.asked) (came.said w.x w.has (subst (Contains named) (sym w.cloud_is) is_named)))
    where
      by_asked : (w : HasHeard user tag version came.log cloud (replies.Damaged at byte)) (m : Memory)
          → Says w.x m
          → IsRequest w.x.request of_recipe ⊎ ((fps : List Fp) × IsRequest w.x.request (requests.GetShares user fps)) → ⊥
      by_asked w m says (inl asks) = said_is (clouds old.shelf.now w.x.cloud) m of_recipe w.x.reply (replies.Damaged at byte) w.bytes w.read (not_fault w.x.reply (replies.Damaged at byte) w.bytes w.read (λ e. let never : replies.Damaged at byte ≡ replies.Fault = e in cc) (says of_recipe asks tt))
      by_asked w m says (inr some) =
          let r = requests.GetShares user some.0 in
          said_is (clouds old.shelf.now w.x.cloud) m r w.x.reply (replies.Damaged at byte) w.bytes w.read (not_fault w.x.reply (replies.Damaged at byte) w.bytes w.read (λ e. let never : replies.Damaged at byte ≡ replies.Fault = e in cc) (says r some.1 tt))

  -- what lies at a place of the entry or of a share
  abbrev Found : Fp → Fp → ℕ → Memory → Type 0
  Found name found n m = IsFound (clouds old.shelf.now n) m of_recipe name found ⊎ ((fps : List Fp) × IsFound (clouds old.shelf.now n) m (requests.GetShares user fps) name found)

  rotten_said : (cloud : CloudNo) (name found : Fp) → Contains named cloud.0 → CameOf around shape user key named (Err (errors.CloudRotten cloud name found)) []
      → SaysOf around shape user key (errors.CloudRotten cloud name found)
  rotten_said cloud name found is_named came =
      let w = restore_heard shape user tag version (errors.CloudRotten cloud name found) cloud (replies.Rotten name found) (of_rotten cloud name found) came.chosen came.log [] came.left _ came.run refl in
      subst (λ (n : ℕ). ByMemory around shape n (Found name found n)) w.cloud_is
      (by_more around shape w.x.cloud _ (Found name found w.x.cloud) (λ m says. by_asked w m says w.asked) (came.said w.x w.has (subst (Contains named) (sym w.cloud_is) is_named)))
    where
      by_asked : (w : HasHeard user tag version came.log cloud (replies.Rotten name found)) (m : Memory)
          → Says w.x m
          → IsRequest w.x.request of_recipe ⊎ ((fps : List Fp) × IsRequest w.x.request (requests.GetShares user fps)) → Found name found w.x.cloud m
      by_asked w m says (inl asks) = inl (found_is (clouds old.shelf.now w.x.cloud) m of_recipe w.x.reply name found w.bytes w.read (not_fault w.x.reply (replies.Rotten name found) w.bytes w.read (λ e. let never : replies.Rotten name found ≡ replies.Fault = e in cc) (says of_recipe asks tt)))
      by_asked w m says (inr some) =
          let r = requests.GetShares user some.0 in
          inr (some.0, found_is (clouds old.shelf.now w.x.cloud) m r w.x.reply name found w.bytes w.read (not_fault w.x.reply (replies.Rotten name found) w.bytes w.read (λ e. let never : replies.Rotten name found ≡ replies.Fault = e in cc) (says r some.1 tt)))

  pub says_of : (e : RestoreErr) → NoneCame (telling clouds) talk wanted mid new was e → Names (Contains named) e → SaysOf around shape user key e
  says_of (errors.Missing cloud) came names = missing_said cloud names (came_err (errors.Missing cloud) (refusals.Missing cloud) refl refl came)
  says_of (errors.CloudDamaged cloud at byte) came names = damaged_said cloud at byte names (came_err (errors.CloudDamaged cloud at byte) (refusals.Damaged cloud at byte) refl refl came)
  says_of (errors.CloudRotten cloud name found) came names = rotten_said cloud name found names (came_err (errors.CloudRotten cloud name found) (refusals.Rotten cloud name found) refl refl came)
  says_of (errors.RecipesDiffer a b place) came names = tt
  says_of (errors.ShareLength cloud secret wrong expected) came names = tt
  says_of (errors.BadSecret secret name wrong) came names = tt
  says_of (errors.BadPad secret at byte) came names = tt
  says_of (errors.CloudFault cloud) came names = tt
  says_of (errors.Lost cloud) came names = tt
  says_of errors.NoMemory came names = tt
  says_of (errors.CloudNoMemory cloud) came names = tt
  says_of (errors.Strange cloud kind) came names = tt
  says_of (errors.BadShare cloud secret name wrong) came names = tt

-- ---- what the asks leave of the areas

-- each told cloud is spared by them, as by the openings
pub spared_on : {V : Type 0} (clouds : V → ℕ → Cloud) (named : List ℕ) (before between : ℕ) (old mid new : LocalLink V) → AreOpened clouds before between old mid named → (asks : List Asked_one)
    → Passes (telling clouds) (ReadsOneOf named) mid asks new → Readings clouds → ((cloud : ℕ) → (Contains named cloud → ⊥) → clouds new.shelf.now cloud ≡ clouds mid.shelf.now cloud)
    → ((cloud : ℕ) → IsTrue (clouds old.shelf.now cloud).told → IsSpared (clouds old.shelf.now cloud) (clouds mid.shelf.now cloud))
    → (cloud : ℕ) → IsTrue (clouds old.shelf.now cloud).told → IsSpared (clouds old.shelf.now cloud) (clouds new.shelf.now cloud)
spared_on clouds named before between old mid new opened asks passed law others spared cloud told = by_name (named_or_not named cloud)
  where
    one : Cloud
    one = clouds old.shelf.now cloud

    two : Cloud
    two = clouds mid.shelf.now cloud

    three : Cloud
    three = clouds new.shelf.now cloud

    first : IsSpared one two
    first = spared cloud told

    by_name : Contains named cloud ⊎ (Contains named cloud → ⊥) → IsSpared one three
    by_name (inr not) = subst (λ (c : Cloud). IsSpared one c) (sym (others cloud not)) first
    by_name (inl has) =
        let o = (opened.each cloud has).memory told in
        let is = subst (λ (h : Header). IsRemembered h two (server_at mid.servers cloud) o.2.memory) (sym o.2.has.0) o.2.has.1 in
        let r = law.reading asks mid new cloud o.2.memory (reading_chain clouds named asks mid new passed) (subst (λ (t : Bool). IsTrue t) (sym (opened.told cloud)) told) is in
        record {
          any_moment = joined one two three (λ (image : Image). IsImage one.now image) first.any_moment
              (weaker two three (λ (image : Image). image ≡ reads two.now) (λ (image : Image). IsImage one.now image) r.1
              (λ image same. subst (λ (i : Image). IsImage one.now i) (sym same) first.still_read));
          still_read = subst (λ (i : Image). IsImage one.now i) (sym r.2) first.still_read;
        }
