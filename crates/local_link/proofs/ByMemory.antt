-- What an open server replies to what adds nothing, by its memory.
use Rattle.std.proofs.Common.{◌≡◌, ℕ, ◌≤◌, Bool, List, [], ◌∷◌, Option, Some, None, Result, Ok, Err, refl, sym, ap, ◌∙◌, subst, inl, inr, ◌⊎◌}
use Rattle.std.specs.Prelude.{◌≢◌, IsOk, IsTrue, OnOk, IsSomeAnd}
use Rattle.std.specs.List.{Contains}
use Rattle.std.proofs.lemmas.Bool.{cases_eq}
use Rattle.share_server.specs.CdBase.Reading.{AreBytes}
use Rattle.share_server.specs.CdBase.ids.Fp.{Fp}
use Rattle.share_server.specs.CdBase.shape.Shape.{Shape}
use Rattle.share_server.specs.CdEdges.Causes.{Rose}
use Rattle.share_server.specs.CdEdges.Disk.{Cloud, Image, reads}
use Rattle.share_server.specs.CdEdges.Shelf.{Stays}
use Rattle.share_server.specs.CdEdges.area.Area.TheVariants.{Shares, Recipes}
use Rattle.share_server.specs.CloudMemory.Memory.{Memory}
use Rattle.share_server.specs.CloudMemory.Rooms.{memory_of}
use Rattle.share_server.specs.JournalStart.start.Header.{Header}
use Rattle.share_server.specs.Messages.request.Request.{Request}
use Rattle.share_server.specs.Messages.request.Request.TheVariants as requests
use Rattle.share_server.specs.Messages.Requests.{IsRequest}
use Rattle.share_server.specs.Messages.reply.Reply.{Reply}
use Rattle.share_server.specs.Messages.reply.Reply.TheVariants as replies
use Rattle.share_server.specs.Messages.Replies.{IsReply}
use Rattle.messages.specs.ReplyReading.{reply_at}
use Rattle.messages.proofs.ReplyLaws.{reply_law}
use Rattle.share_server.specs.CloudStore.Store.{IsOpen}
use Rattle.share_server.specs.CloudStore.store.CloudStore.{CloudStore}
use Rattle.share_server.specs.ServerCommands.Entering.{Enters, ReadsBy}
use Rattle.share_server.specs.ServerCommands.Leaving.{IsFound, IsSteady}
use Rattle.share_server.specs.ServerCommands.ServerReads.Found.{IsFoundRecipe, IsFoundShare, IsOther}
use Rattle.share_server.specs.Serving.{ChangesBehind, EntersBy}
use Rattle.share_server.specs.UserDedup.Link.{Exchange, IsReading, AddsNothing, Passes, exchange_of}
use Rattle.share_server.specs.declared.server.Server.{Server}
use Rattle.share_server.proofs.UserDedup.Asked.{asked_law}
use Rattle.share_server.proofs.UserDedup.Owned.{contains_cases, contains_nothing}
use Rattle.local_link.specs.declared.link.LocalLink.{LocalLink}
use Rattle.local_link.specs.Steps.{Replied}
use Rattle.local_link.specs.declared.fate.Fate.{Fate}
use Rattle.local_link.specs.declared.fate.Fate.TheVariants.{Deliver, LoseReply, LoseRequest}
use Rattle.local_link.specs.Tells.{server_at, IsOpenWith, IsSaidBy, LeavesRest, ReadsOpen, PassesOn, telling}
use Rattle.local_link.proofs.Passing.{fault_alone, has_recipe, one_answer, one_reply, read_later, rose_before, rose_behind}

-- ---- one request

pub is_steady : (m : Memory) (r : Request) → AddsNothing r → IsSteady m r
is_steady m requests.Hello none = tt
is_steady m (requests.Query user fps) none = tt
is_steady m (requests.Put user shares) none = absurd none
is_steady m (requests.Commit user tag version recipe) none = absurd none
is_steady m (requests.GetRecipe user tag version) none = tt
is_steady m (requests.GetShares user fps) none = tt
is_steady m (requests.List user after) none = tt
is_steady m (requests.Delete user tag version) none = absurd none

reads_of : (header : Header) (m new : Memory) (r : Request) (reply : Reply) → AddsNothing r → Enters header m new r reply → ReadsBy m r reply
reads_of header m new requests.Hello reply none e = tt
reads_of header m new (requests.Query user fps) reply none e = e.1
reads_of header m new (requests.Put user shares) reply none e = absurd none
reads_of header m new (requests.Commit user tag version recipe) reply none e = absurd none
reads_of header m new (requests.GetRecipe user tag version) reply none e = e.1
reads_of header m new (requests.GetShares user fps) reply none e = e.1
reads_of header m new (requests.List user after) reply none e = tt
reads_of header m new (requests.Delete user tag version) reply none e = absurd none

is_fault : (a : Reply) → (a ≡ replies.Fault) ⊎ (a ≢ replies.Fault)
is_fault replies.Fault = inl refl
is_fault reply = inr (λ e. let never : reply ≡ replies.Fault = e in cc)

-- ---- what lies there still

module _ (one two : Cloud) (m : Memory) (told : two.told ≡ one.told) (same : reads two.now ≡ reads one.now) where
  recipe_on : (key : _) (named what : Fp) → IsFoundRecipe one m key named what → IsFoundRecipe two m key named what
  recipe_on key named what x = record {
    entry = x.entry;
    kept = x.kept;
    named_is = x.named_is;
    lies = λ is some few. subst (λ (image : Image). IsOther (image Recipes) x.entry.at x.entry.len named what) (sym same) (x.lies (subst (λ (b : Bool). IsTrue b) told is) some few);
    unfit = x.unfit;
  }

  share_on : (named what : Fp) → IsFoundShare one m named what → IsFoundShare two m named what
  share_on named what x = record {
    lies = λ is place there some few.
        subst (λ (image : Image). IsOther (image Shares) place.at place.len named what) (sym same) (x.lies (subst (λ (b : Bool). IsTrue b) told is) place there some few);
    none = x.none;
    unfit = x.unfit;
  }

  -- what was found on a cloud is found where its areas read the same
  found_on : (r : Request) (named what : Fp) → IsFound one m r named what → IsFound two m r named what
  found_on requests.Hello named what x = tt
  found_on (requests.Query user fps) named what x = tt
  found_on (requests.Put user shares) named what x = absurd x
  found_on (requests.Commit user tag version recipe) named what x = recipe_on _ named what x
  found_on (requests.GetRecipe user tag version) named what x = recipe_on _ named what x
  found_on (requests.GetShares user fps) named what x = (x.0, share_on named what x.1)
  found_on (requests.List user after) named what x = tt
  found_on (requests.Delete user tag version) named what x = recipe_on _ named what x

  pub said_there : (r : Request) (content : List ℕ) → IsSaidBy one m r content → IsSaidBy two m r content
  said_there r content x = record { answer = x.answer; is = x.is; by = x.by; found = λ named what rotten. found_on r named what (x.found named what rotten) }

-- ---- an open server

-- It has this memory behind what adds nothing, and is open, or the count rose.
by_open : (before after : Option Server) (old new : Cloud) (m : Memory) (r : Request) → AddsNothing r
    → IsSomeAnd before (λ (b : Server). IsOpen b.store × (memory_of b.store.memory ≡ m))
    → IsSomeAnd before (λ (b : Server). IsOpen b.store → IsSomeAnd after (λ (a : Server). ChangesBehind b.store a.store old new r))
    → Stays old new × (Rose old.faults new.faults ⊎ IsSomeAnd after (λ (a : Server). IsOpen a.store × (memory_of a.store.memory ≡ m)))
    × IsSomeAnd after (λ (a : Server). memory_of a.store.memory ≡ m)
by_open None after old new m r none is behind = absurd is
by_open (Some b) None old new m r none is behind = absurd (behind is.0)
by_open (Some b) (Some a) old new m r none is behind =
    let x = behind is.0 in
    let left = x.steady (is_steady (memory_of b.store.memory) r none) in
    let same : memory_of a.store.memory ≡ m = ap memory_of left.memory ∙ is.1 in
    (left.cloud, by_end same x.stays_open, same)
  where
    by_end : memory_of a.store.memory ≡ m → Rose old.faults new.faults ⊎ IsOpen a.store → Rose old.faults new.faults ⊎ (IsOpen a.store × (memory_of a.store.memory ≡ m))
    by_end same (inl rose) = inl rose
    by_end same (inr at_end) = inr (at_end, same)

-- What it replies is by its memory, or Fault.
pub by_stores : (before after : CloudStore) (old new : Cloud) (m : Memory) (r : Request) (content : List ℕ) → AddsNothing r
    → memory_of before.memory ≡ m → memory_of after.memory ≡ m → reads new.now ≡ reads old.now → new.told ≡ old.told → EntersBy before after r content
    → ((named what : Fp) → IsReply content (replies.Rotten named what) → IsFound new (memory_of after.memory) r named what)
    → IsReply content replies.Fault ⊎ IsSaidBy old m r content
by_stores before after old new m r content none has keeps same told enters found = by_answer enters.0 enters.1 enters.2 (is_fault enters.0)
  where
    by_answer : (answer : Reply) → IsReply content answer
        → (answer ≢ replies.Fault → Enters before.header (memory_of before.memory) (memory_of after.memory) r answer)
        → (answer ≡ replies.Fault) ⊎ (answer ≢ replies.Fault) → IsReply content replies.Fault ⊎ IsSaidBy old m r content
    by_answer answer reply says (inl is_one) = inl (subst (IsReply content) is_one reply)
    by_answer answer reply says (inr other) =
        inr (said_there new old m (sym told) (sym same) r content (record {
          answer = answer;
          is = reply;
          by = subst (λ (n : Memory). ReadsBy n r answer) has (reads_of before.header (memory_of before.memory) (memory_of after.memory) r answer none (says other));
          found = λ named what rotten. subst (λ (n : Memory). IsFound new n r named what) keeps (found named what rotten);
        }))

-- What it replies is by its memory, or the count rose.
by_says : (before after : Option Server) (old new : Cloud) (m : Memory) (r : Request) (content : List ℕ) → AddsNothing r
    → IsSomeAnd before (λ (b : Server). IsOpen b.store × (memory_of b.store.memory ≡ m)) → IsSomeAnd after (λ (a : Server). memory_of a.store.memory ≡ m)
    → Stays old new → new.told ≡ old.told
    → IsSomeAnd before (λ (b : Server). IsOpen b.store → IsSomeAnd after (λ (a : Server). EntersBy b.store a.store r content))
    → IsSomeAnd after (λ (a : Server). (named what : Fp) → IsReply content (replies.Rotten named what) → IsFound new (memory_of a.store.memory) r named what)
    → (IsReply content replies.Fault → Rose old.faults new.faults) → Rose old.faults new.faults ⊎ IsSaidBy old m r content
by_says None after old new m r content none is keeps stays told enters found fault = absurd is
by_says (Some b) None old new m r content none is keeps stays told enters found fault = absurd keeps
by_says (Some b) (Some a) old new m r content none is keeps stays told enters found fault =
    by_content (by_stores b.store a.store old new m r content none is.1 keeps (ap reads stays.now) told (enters is.0) found)
  where
    by_content : IsReply content replies.Fault ⊎ IsSaidBy old m r content → Rose old.faults new.faults ⊎ IsSaidBy old m r content
    by_content (inl is_one) = inl (fault is_one)
    by_content (inr says) = inr says

-- ---- one ask

fault_rose : (shape : Shape) (old new : Cloud) (before now : ℕ) (r : Request) (content : List ℕ) → Replied shape old new before now r content → IsReply content replies.Fault
    → Rose old.faults new.faults
fault_rose shape old new before now r content x fault =
    (x.fault (fault_alone content x.answer x.is fault)).cloud

pub lost_there : (f : Fate) → (f ≡ LoseRequest) ⊎ (f ≢ LoseRequest)
lost_there Deliver = inr (λ e. let never : Deliver ≡ LoseRequest = e in cc)
lost_there LoseRequest = inl refl
lost_there LoseReply = inr (λ e. let never : LoseReply ≡ LoseRequest = e in cc)

module _ {V : Type 0} (clouds : V → ℕ → Cloud) (old new : LocalLink V) (cloud : ℕ) (m : Memory) (r : Request) (none : AddsNothing r) (is : IsOpenWith old.servers cloud m)
    (rest : LeavesRest clouds cloud old new) (unheard : old.fate ≡ LoseRequest → (new.servers ≡ old.servers) × (new.shelf ≡ old.shelf))
    (behind : old.fate ≢ LoseRequest → IsSomeAnd (server_at old.servers cloud) (λ (b : Server). IsOpen b.store
    → IsSomeAnd (server_at new.servers cloud) (λ (a : Server). ChangesBehind b.store a.store (clouds old.shelf.now cloud) (clouds new.shelf.now cloud) r))) where
  -- the areas, and how the server ends
  left_by : (old.fate ≡ LoseRequest) ⊎ (old.fate ≢ LoseRequest)
      → Stays (clouds old.shelf.now cloud) (clouds new.shelf.now cloud) × (Rose (clouds old.shelf.now cloud).faults (clouds new.shelf.now cloud).faults ⊎ IsOpenWith new.servers cloud m)
  left_by (inl lost) =
      let same = unheard lost in
      let here : clouds new.shelf.now cloud ≡ clouds old.shelf.now cloud = λ i. clouds (same.1 i).now cloud in (
        record { armed = ap (λ (c : Cloud). c.armed) here; past = ap (λ (c : Cloud). c.past) here; now = ap (λ (c : Cloud). c.now) here },
        inr (subst (λ servers. IsOpenWith servers cloud m) (sym same.0) is),
      )
  left_by (inr arrives) =
      let x = by_open (server_at old.servers cloud) (server_at new.servers cloud) (clouds old.shelf.now cloud) (clouds new.shelf.now cloud) m r none is (behind arrives) in (x.0, x.1)

  pub reads_by : {E : Type 0} (content reply : List ℕ) (before now : ℕ) (result : Result (Unit {0}) E) → (IsOk result → old.fate ≢ LoseRequest)
      → (old.fate ≢ LoseRequest → (heard : List ℕ) × OnOk result (reply ≡ heard) × IsSomeAnd (server_at old.servers cloud) (λ (b : Server). IsOpen b.store
      → IsSomeAnd (server_at new.servers cloud) (λ (a : Server). EntersBy b.store a.store r heard)))
      → (old.fate ≢ LoseRequest → (heard : List ℕ) × OnOk result (reply ≡ heard) × IsSomeAnd (server_at new.servers cloud) (λ (a : Server). (named what : Fp)
      → IsReply heard (replies.Rotten named what) → IsFound (clouds new.shelf.now cloud) (memory_of a.store.memory) r named what))
      → (old.fate ≢ LoseRequest → (heard : List ℕ) × OnOk result (reply ≡ heard)
      × Replied old.servers.shape (clouds old.shelf.now cloud) (clouds new.shelf.now cloud) before now r heard)
      → ReadsOpen (clouds old.shelf.now cloud) (clouds new.shelf.now cloud) new.servers (exchange_of cloud content result reply) m r
  reads_by content reply before now (Err e) delivered enters found replied =
      let x = left_by (lost_there old.fate) in
      record { stays = x.0; at_end = x.1; says = λ heard came. absurd (let never : None ≡ Some heard = came in cc) }
  reads_by content reply before now (Ok u) delivered enters found replied =
      let x = left_by (lost_there old.fate) in
      let arrives = delivered refl in
      let b = server_at old.servers cloud in let a = server_at new.servers cloud in
      let one = clouds old.shelf.now cloud in let two = clouds new.shelf.now cloud in
      let keeps = (by_open b a one two m r none is (behind arrives)).2 in
      let e = enters arrives in let f = found arrives in let p = replied arrives in
      let says : Rose one.faults two.faults ⊎ IsSaidBy one m r reply =
      by_says b a one two m r reply none is keeps x.0 (rest.told_stays cloud)
      (subst (λ (l : List ℕ). IsSomeAnd b (λ (s : Server). IsOpen s.store → IsSomeAnd a (λ (t : Server). EntersBy s.store t.store r l))) (sym e.1) e.2)
      (subst (λ (l : List ℕ). IsSomeAnd a (λ (t : Server). (named what : Fp) → IsReply l (replies.Rotten named what) → IsFound two (memory_of t.store.memory) r named what)) (sym f.1) f.2)
      (fault_rose old.servers.shape one two before now r reply (subst (Replied old.servers.shape one two before now r) (sym p.1) p.2)) in
      record {
        stays = x.0;
        at_end = x.1;
        says = λ heard came. subst (λ (l : List ℕ). Rose one.faults two.faults ⊎ IsSaidBy one m r l) (one_reply reply heard came) says;
      }

-- what a content that reads as a reply says
pub said_is : (cloud : Cloud) (m : Memory) (r : Request) (content : List ℕ) (answer : Reply) → AreBytes content → reply_at content ≡ Ok answer → IsSaidBy cloud m r content
    → ReadsBy m r answer
said_is cloud m r content answer are read x = subst (ReadsBy m r) (one_answer x.answer answer (sym ((reply_law content x.answer are).1 x.is) ∙ read)) x.by

pub found_is : (cloud : Cloud) (m : Memory) (r : Request) (content : List ℕ) (named what : Fp) → AreBytes content → reply_at content ≡ Ok (replies.Rotten named what)
    → IsSaidBy cloud m r content → IsFound cloud m r named what
found_is cloud m r content named what are read x = x.found named what ((reply_law content (replies.Rotten named what) are).0 read)

-- ---- the chain

pub stays_here : (c : Cloud) → Stays c c
stays_here c = record { armed = refl; past = refl; now = refl }

stays_twice : (a b c : Cloud) → Stays a b → Stays b c → Stays a c
stays_twice a b c one two = record { armed = two.armed ∙ one.armed; past = two.past ∙ one.past; now = two.now ∙ one.now }

module _ {V : Type 0} (clouds : V → ℕ → Cloud) where
  -- the cloud of this number has this memory and its areas still, or its count rose
  abbrev GoesOpen : LocalLink V → LocalLink V → ℕ → Memory → Type 0
  GoesOpen a b cloud m = Rose (clouds a.shelf.now cloud).faults (clouds b.shelf.now cloud).faults
      ⊎ (IsOpenWith b.servers cloud m × Stays (clouds a.shelf.now cloud) (clouds b.shelf.now cloud))

  -- one ask of this cloud
  one_read : (e : Exchange) (a b : LocalLink V) (m : Memory) (r : Request) → IsRequest e.content r → AddsNothing r → PassesOn clouds a e b
      → IsOpenWith a.servers e.cloud m → ReadsOpen (clouds a.shelf.now e.cloud) (clouds b.shelf.now e.cloud) b.servers e m r
  one_read e a b m r asks none step is =
      step.reads m r ((asked_law a.servers.shape e.content r step.bytes).1 (record { asked = asks; recipe = has_recipe a.servers.shape r none })) none is

  one_open : (e : Exchange) (a b : LocalLink V) (cloud : ℕ) (m : Memory) → IsReading e.content → PassesOn clouds a e b → IsOpenWith a.servers cloud m → GoesOpen a b cloud m
  one_open e a b cloud m reading step is = by_cloud (cases_eq cloud e.cloud)
    where
      by_end : Stays (clouds a.shelf.now e.cloud) (clouds b.shelf.now e.cloud)
          → Rose (clouds a.shelf.now e.cloud).faults (clouds b.shelf.now e.cloud).faults ⊎ IsOpenWith b.servers e.cloud m → GoesOpen a b e.cloud m
      by_end stays (inl rose) = inl rose
      by_end stays (inr at_end) = inr (at_end, stays)

      at_asked : IsOpenWith a.servers e.cloud m → GoesOpen a b e.cloud m
      at_asked open_there = (let x = one_read e a b m reading.0 reading.1 reading.2 step open_there in by_end x.stays x.at_end)

      by_cloud : (cloud ≡ e.cloud) ⊎ (cloud ≢ e.cloud) → GoesOpen a b cloud m
      by_cloud (inl same) = subst (λ (n : ℕ). IsOpenWith a.servers n m → GoesOpen a b n m) (sym same) at_asked is
      by_cloud (inr ne) = inr (
        subst (λ (o : Option Server). IsSomeAnd o (λ (s : Server). IsOpen s.store × (memory_of s.store.memory ≡ m))) (sym (step.rest.servers_stay cloud ne)) is,
        subst (λ (c : Cloud). Stays (clouds a.shelf.now cloud) c) (sym (step.rest.clouds_stay cloud ne)) (stays_here (clouds a.shelf.now cloud)),
      )

  module _ (a b c : LocalLink V) (cloud : ℕ) (first : (clouds a.shelf.now cloud).faults ≤ (clouds b.shelf.now cloud).faults)
      (rest : (clouds b.shelf.now cloud).faults ≤ (clouds c.shelf.now cloud).faults) where
    -- the count rose in one of two parts
    behind_it : Rose (clouds b.shelf.now cloud).faults (clouds c.shelf.now cloud).faults → Rose (clouds a.shelf.now cloud).faults (clouds c.shelf.now cloud).faults
    behind_it = rose_behind (clouds a.shelf.now cloud).faults (clouds b.shelf.now cloud).faults (clouds c.shelf.now cloud).faults first

    before_it : Rose (clouds a.shelf.now cloud).faults (clouds b.shelf.now cloud).faults → Rose (clouds a.shelf.now cloud).faults (clouds c.shelf.now cloud).faults
    before_it rose = rose_before (clouds a.shelf.now cloud).faults (clouds b.shelf.now cloud).faults (clouds c.shelf.now cloud).faults rose rest

    goes_twice : (m : Memory) → GoesOpen a b cloud m → (IsOpenWith b.servers cloud m → GoesOpen b c cloud m) → GoesOpen a c cloud m
    goes_twice m (inl rose) more = inl (before_it rose)
    goes_twice m (inr x) more = further (more x.0)
      where
        further : GoesOpen b c cloud m → GoesOpen a c cloud m
        further (inl rose) = inl (behind_it rose)
        further (inr y) = inr (y.0, stays_twice (clouds a.shelf.now cloud) (clouds b.shelf.now cloud) (clouds c.shelf.now cloud) x.1 y.1)

  -- so many asks that add nothing, one of them first
  abbrev Chain : LocalLink V → List Exchange → LocalLink V → Type 0
  Chain a es b = Passes (telling clouds) (λ e. IsReading e.content) a es b

  first_later : (e : Exchange) (es : List Exchange) (a b : LocalLink V) (cloud : ℕ) (chain : Chain a (e ∷ es) b)
      → (clouds a.shelf.now cloud).faults ≤ (clouds chain.1.0.shelf.now cloud).faults
  first_later e es a b cloud chain = read_later clouds (e ∷ []) a chain.1.0 cloud (chain.0, (chain.1.0, chain.1.1, refl))

  rest_later : (e : Exchange) (es : List Exchange) (a b : LocalLink V) (cloud : ℕ) (chain : Chain a (e ∷ es) b)
      → (clouds chain.1.0.shelf.now cloud).faults ≤ (clouds b.shelf.now cloud).faults
  rest_later e es a b cloud chain = read_later clouds es chain.1.0 b cloud chain.1.2

  -- an open server's memory stays, and the areas, unless the count rose
  pub open_on : (es : List Exchange) (a b : LocalLink V) (cloud : ℕ) (m : Memory) → Chain a es b → IsOpenWith a.servers cloud m → GoesOpen a b cloud m
  open_on [] a b cloud m same is = subst (λ (l : LocalLink V). GoesOpen a l cloud m) (sym same) (inr (is, stays_here (clouds a.shelf.now cloud)))
  open_on (e ∷ es) a b cloud m chain is =
      goes_twice a chain.1.0 b cloud (first_later e es a b cloud chain) (rest_later e es a b cloud chain) m (one_open e a chain.1.0 cloud m chain.0 chain.1.1 is)
      (λ further. open_on es chain.1.0 b cloud m chain.1.2 further)

  -- and each reply is by it
  pub said_on : (es : List Exchange) (a b : LocalLink V) (e : Exchange) (content : List ℕ) (m : Memory) (r : Request) → Chain a es b → Contains es e
      → e.reply ≡ Some content → IsRequest e.content r → AddsNothing r → IsOpenWith a.servers e.cloud m
      → Rose (clouds a.shelf.now e.cloud).faults (clouds b.shelf.now e.cloud).faults ⊎ IsSaidBy (clouds a.shelf.now e.cloud) m r content
  said_on [] a b e content m r chain has came asks none is = absurd (contains_nothing e has)
  said_on (x ∷ es) a b e content m r chain has came asks none is = elim (contains_cases x es e has) [
    | inl same ↦ subst
        (λ (y : Exchange). y.reply ≡ Some content → IsRequest y.content r → IsOpenWith a.servers y.cloud m
        → Rose (clouds a.shelf.now y.cloud).faults (clouds b.shelf.now y.cloud).faults ⊎ IsSaidBy (clouds a.shelf.now y.cloud) m r content)
        same here came asks is
    | inr more ↦ later (λ at_end. said_on es chain.1.0 b e content m r chain.1.2 more came asks none at_end) (one_open x a chain.1.0 e.cloud m chain.0 chain.1.1 is)
  ]
    where
      mid : LocalLink V
      mid = chain.1.0

      here : x.reply ≡ Some content → IsRequest x.content r → IsOpenWith a.servers x.cloud m
          → Rose (clouds a.shelf.now x.cloud).faults (clouds b.shelf.now x.cloud).faults ⊎ IsSaidBy (clouds a.shelf.now x.cloud) m r content
      here came_here asks_here is_here = by_reply ((one_read x a mid m r asks_here none chain.1.1 is_here).says content came_here)
        where
          by_reply : Rose (clouds a.shelf.now x.cloud).faults (clouds mid.shelf.now x.cloud).faults ⊎ IsSaidBy (clouds a.shelf.now x.cloud) m r content
              → Rose (clouds a.shelf.now x.cloud).faults (clouds b.shelf.now x.cloud).faults ⊎ IsSaidBy (clouds a.shelf.now x.cloud) m r content
          by_reply (inl rose) = inl (before_it a mid b x.cloud (first_later x es a b x.cloud chain) (rest_later x es a b x.cloud chain) rose)
          by_reply (inr says) = inr says

      later : (IsOpenWith mid.servers e.cloud m → Rose (clouds mid.shelf.now e.cloud).faults (clouds b.shelf.now e.cloud).faults ⊎ IsSaidBy (clouds mid.shelf.now e.cloud) m r content)
          → GoesOpen a mid e.cloud m → Rose (clouds a.shelf.now e.cloud).faults (clouds b.shelf.now e.cloud).faults ⊎ IsSaidBy (clouds a.shelf.now e.cloud) m r content
      later rest (inl rose) = inl (before_it a mid b e.cloud (first_later x es a b e.cloud chain) (rest_later x es a b e.cloud chain) rose)
      later rest (inr y) = further (rest y.0)
        where
          further : Rose (clouds mid.shelf.now e.cloud).faults (clouds b.shelf.now e.cloud).faults ⊎ IsSaidBy (clouds mid.shelf.now e.cloud) m r content
              → Rose (clouds a.shelf.now e.cloud).faults (clouds b.shelf.now e.cloud).faults ⊎ IsSaidBy (clouds a.shelf.now e.cloud) m r content
          further (inl rose) = inl (behind_it a mid b e.cloud (first_later x es a b e.cloud chain) (rest_later x es a b e.cloud chain) rose)
          further (inr says) =
              inr (said_there (clouds mid.shelf.now e.cloud) (clouds a.shelf.now e.cloud) m (sym (chain.1.1.rest.told_stays e.cloud)) (sym (ap reads y.1.now)) r content says)
