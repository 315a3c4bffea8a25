-- Asks that add nothing, one after another.
use Rattle.std.proofs.Common.{◌≡◌, ℕ, zero, suc, ◌<◌, ◌≤◌, arith, Bool, List, [], ◌∷◌, ◌++◌, Option, Some, None, Result, Ok, Err, refl, sym, ap, ◌∙◌, subst, inl, inr, ◌⊎◌, append-nil}
use Rattle.std.specs.Prelude.{◌≢◌, true, false, IsOk, IfSome, IsTrue, OnOk, IsSomeAnd, option_to_list}
use Rattle.std.specs.Bool.{MatchBool}
use Rattle.std.specs.List.{Contains}
use Rattle.std.proofs.lemmas.Bool.{cases_eq}
use Rattle.share_server.specs.CdBase.shape.Shape.{Shape}
use Rattle.share_server.specs.CdEdges.Disk.{Cloud}
use Rattle.share_server.proofs.CdEdges.Moments.{started, joined, weaker, left_alone}
use Rattle.share_server.specs.JournalStart.start.Header.{Header}
use Rattle.share_server.specs.Messages.request.Request.{Request}
use Rattle.share_server.specs.Messages.request.Request.TheVariants as requests
use Rattle.share_server.specs.Messages.reply.Reply.{Reply}
use Rattle.share_server.specs.Messages.reply.Reply.TheVariants as replies
use Rattle.share_server.specs.Messages.Answering.{IsReplyTo}
use Rattle.share_server.specs.Messages.Replies.{IsReply, reply_bytes}
use Rattle.messages.proofs.ReplyLaws.{reply_law}
use Rattle.share_server.specs.CdEdges.Causes.{Rose}
use Rattle.share_server.proofs.UserDedup.Owned.{contains_cases, contains_nothing}
use Rattle.share_server.specs.UserDedup.command.Command.{Command}
use Rattle.share_server.specs.UserDedup.Dedup.{FullRoom}
use Rattle.share_server.specs.UserDedup.Requests.{asked_at, HasRecipe}
use Rattle.share_server.specs.UserDedup.Exec.{Peer, MaySettleAs, KeepsPeer, CountsOn, Exec, ExecTold, ExecUntold, IsCut, items_of, served}
use Rattle.share_server.proofs.UserDedup.Asked.{asked_law}
use Rattle.share_server.specs.CloudMemory.Memory.{Memory}
use Rattle.share_server.specs.CloudStore.Store.{IsOpen}
use Rattle.share_server.specs.CloudStore.store.CloudStore.{CloudStore}
use Rattle.share_server.specs.declared.server.Server.{Server}
use Rattle.share_server.specs.Serving.{GrowsOn, OpensFirst, IsUnopenedReply}
use Rattle.share_server.specs.CloudAreas.Peers.{StandsForSome, ImagesSince, MayBecome}
use Rattle.local_link.specs.declared.link.LocalLink.{LocalLink}
use Rattle.local_link.specs.Tells.{server_at, header_at, rooms_at, full_at, is_delivered, IsPeer, LeavesRest, serving_at, StandsAt, IsOpenWith, IsRemembered, ReadsOpen, ReadsTold, PassesOn, OpensOrShuts, telling}
use Rattle.share_server.specs.UserDedup.Link.{Exchange, IsReading, exchange_of, AddsNothing, Passes, ReadsOneOf, Asks, serves}
use Rattle.share_server.specs.CdBase.Reading.{AreBytes}
use Rattle.local_link.specs.declared.fate.Fate.{Fate}
use Rattle.local_link.specs.declared.fate.Fate.TheVariants.{Deliver, LoseReply, LoseRequest}
use Rattle.local_link.specs.Steps.{Replied}
use Rattle.local_link.proofs.Standing.{images_now, header_stays, peer_moves}

-- ---- what adds nothing

pub adds_none : (shape : Shape) (cloud : ℕ) (full : List Command → Command → Option FullRoom) (list : List Command) (r : Request) → AddsNothing r → (served shape cloud full list r).adds ≡ None
adds_none shape cloud full list requests.Hello none = refl
adds_none shape cloud full list (requests.Query user fps) none = refl
adds_none shape cloud full list (requests.Put user shares) none = absurd none
adds_none shape cloud full list (requests.Commit user tag version recipe) none = absurd none
adds_none shape cloud full list (requests.GetRecipe user tag version) none = refl
adds_none shape cloud full list (requests.GetShares user fps) none = refl
adds_none shape cloud full list (requests.List user after) none = refl
adds_none shape cloud full list (requests.Delete user tag version) none = absurd none

pub has_recipe : (shape : Shape) (r : Request) → AddsNothing r → HasRecipe shape r
has_recipe shape requests.Hello none = tt
has_recipe shape (requests.Query user fps) none = tt
has_recipe shape (requests.Put user shares) none = absurd none
has_recipe shape (requests.Commit user tag version recipe) none = absurd none
has_recipe shape (requests.GetRecipe user tag version) none = tt
has_recipe shape (requests.GetShares user fps) none = tt
has_recipe shape (requests.List user after) none = tt
has_recipe shape (requests.Delete user tag version) none = absurd none

module _ (shape : Shape) (cloud : ℕ) (full : List Command → Command → Option FullRoom) (r : Request) (none : AddsNothing r) where
  becomes : (p : Peer) (list : List Command) → MayBecome (served shape cloud full) p r list → MaySettleAs p list
  becomes p list (inl settles) = settles
  becomes p list (inr x) = absurd (let f : None ≡ Some x.1 = sym (adds_none shape cloud full x.0 r none) ∙ x.3 in cc)

  nothing_pending : (p : Peer) (list : List Command) → p.pending ≡ None → MaySettleAs p list → list ≡ p.list
  nothing_pending p list is (inl same) = same
  nothing_pending p list is (inr some) = absurd (subst (λ (o : Option Command). IsSomeAnd o (λ command. list ≡ p.list ++ command ∷ [])) is some)

  stays_in : (p q : Peer) → KeepsPeer p q → (list : List Command) → MaySettleAs q list → MaySettleAs p list
  stays_in p q stays list (inl same) = inl (same ∙ stays.list)
  stays_in p q stays list (inr some) =
      inr (subst (λ (l : List Command). IsSomeAnd p.pending (λ command. list ≡ l ++ command ∷ [])) stays.list
      (subst (λ (o : Option Command). IsSomeAnd o (λ command. list ≡ q.list ++ command ∷ [])) stays.pending some))

  executed_in : (p q : Peer) (answer : Reply) → ExecTold (served shape cloud full) p r answer q → (list : List Command) → MaySettleAs q list → MaySettleAs p list
  executed_in p q answer (inl a) list settles =
      let is = nothing_pending q list a.pending settles in
      let same : q.list ≡ a.before = a.list ∙ ap (λ (o : Option Command). a.before ++ option_to_list o) (adds_none shape cloud full a.before r none) ∙ append-nil a.before in
      subst (MaySettleAs p) (sym (is ∙ same)) a.settled
  executed_in p q answer (inr f) list settles = failed f.left
    where
      failed : KeepsPeer p q ⊎ IsCut (served shape cloud full) p r q → MaySettleAs p list
      failed (inl stays) = stays_in p q stays list settles
      failed (inr cut) = subst (MaySettleAs p) (sym (nothing_pending q list (cut.pending ∙ adds_none shape cloud full q.list r none) settles)) cut.list

-- ---- the chain

pub rose_behind : (a b c : ℕ) → a ≤ b → Rose b c → Rose a c
rose_behind a b c le rose = omega (arith, rose)

pub rose_before : (a b c : ℕ) → Rose a b → b ≤ c → Rose a c
rose_before a b c rose le = omega (arith, rose)

pub fault_bytes : AreBytes (reply_bytes replies.Fault)
fault_bytes zero = omega arith
fault_bytes (suc i) = omega arith

pub one_answer : (a b : Reply) → (let r : Result Reply ℕ = Ok a in let s : Result Reply ℕ = Ok b in r ≡ s) → a ≡ b
one_answer a b e = cc

-- a content that is Fault is no other reply
pub fault_alone : (content : List ℕ) (answer : Reply) → IsReply content answer → IsReply content replies.Fault → answer ≡ replies.Fault
fault_alone content answer is fault =
    let are : AreBytes content = subst AreBytes (sym fault.spelled) fault_bytes in
    one_answer answer replies.Fault (sym ((reply_law content answer are).1 is) ∙ (reply_law content replies.Fault are).1 fault)

-- a server that isn't opened is closed behind Fault
pub shut_behind : (before after : CloudStore) (old new : Cloud) (r : Request) (content : List ℕ) (answer : Reply) → IsReply content answer → (answer ≡ replies.Fault → ¬ (IsOpen after))
    → OpensFirst before after old new r content ⊎ IsUnopenedReply before old new content → OpensOrShuts before after old new r content
shut_behind before after old new r content answer is shut (inl x) = inl x
shut_behind before after old new r content answer is shut (inr x) = inr (x, λ fault. shut (fault_alone content answer is fault))

module _ {V : Type 0} (clouds : V → ℕ → Cloud) where
  -- one ask, and what follows
  read_step : (named : List ℕ) (e : Exchange) (old mid new : LocalLink V) (cloud : ℕ) (p : Peer) → ReadsOneOf named e → PassesOn clouds old e mid → cloud < old.servers.shape.n
      → IsTrue (clouds old.shelf.now cloud).told → StandsAt clouds old cloud p
      → ((q : Peer) → cloud < mid.servers.shape.n → IsTrue (clouds mid.shelf.now cloud).told → StandsAt clouds mid cloud q
      → ImagesSince (clouds mid.shelf.now cloud) (clouds new.shelf.now cloud) (header_at mid.servers cloud) (MaySettleAs q))
      → ImagesSince (clouds old.shelf.now cloud) (clouds new.shelf.now cloud) (header_at old.servers cloud) (MaySettleAs p)
  read_step named e old mid new cloud p reads step lt told is more = by_cloud (cases_eq cloud e.cloud)
    where
      header : Header
      header = header_at old.servers cloud

      r : Request
      r = reads.1.0

      none : AddsNothing r
      none = reads.1.2

      asked : asked_at old.servers.shape e.content ≡ Ok r
      asked = (asked_law old.servers.shape e.content r step.bytes).1 (record { asked = reads.1.1; recipe = has_recipe old.servers.shape r none })

      goes_on : (q : Peer) → StandsAt clouds mid cloud q → ((list : List Command) → MaySettleAs q list → MaySettleAs p list)
          → ImagesSince (clouds old.shelf.now cloud) (clouds mid.shelf.now cloud) header (MaySettleAs p)
          → ImagesSince (clouds old.shelf.now cloud) (clouds new.shelf.now cloud) header (MaySettleAs p)
      goes_on q stands fewer first =
          let rest = more q (subst (λ (s : Shape). cloud < s.n) (sym step.rest.shape_stays) lt) (subst (λ (b : Bool). IsTrue b) (sym (step.rest.told_stays cloud)) told) stands in
          let rest_here =
          subst (λ (h : Header). ImagesSince (clouds mid.shelf.now cloud) (clouds new.shelf.now cloud) h (MaySettleAs q)) (header_stays clouds e.cloud cloud old mid step.rest step.rooms) rest in
          joined (clouds old.shelf.now cloud) (clouds mid.shelf.now cloud) (clouds new.shelf.now cloud) (StandsForSome header (MaySettleAs p)) first
          (weaker (clouds mid.shelf.now cloud) (clouds new.shelf.now cloud) (StandsForSome header (MaySettleAs q)) (StandsForSome header (MaySettleAs p)) rest_here (λ image some. (some.0, fewer some.0 some.1, some.2)))

      fewer : (q : Peer) → IsTrue (clouds old.shelf.now e.cloud).told → (KeepsPeer p q × CountsOn p q × (e.reply ≡ None))
          ⊎ ((answer : Reply) × IfSome e.reply (λ (content : List ℕ). IsReply content answer) × Exec old.servers.shape (clouds old.shelf.now e.cloud).told (serving_at old e.cloud) p r answer q)
          → (list : List Command) → MaySettleAs q list → MaySettleAs p list
      fewer q t (inl x) = stays_in old.servers.shape e.cloud (full_at old.servers e.cloud) r none p q x.0
      fewer q t (inr x) =
          executed_in old.servers.shape e.cloud (full_at old.servers e.cloud) r none p q x.0
          (subst (λ (b : Bool). MatchBool b (ExecTold (serving_at old e.cloud) p r x.0 q) (ExecUntold old.servers.shape p r x.0 q)) t x.2.does)

      at_asked : StandsAt clouds old e.cloud p → IsTrue (clouds old.shelf.now e.cloud).told → (q : Peer) × StandsAt clouds mid e.cloud q × ((list : List Command) → MaySettleAs q list → MaySettleAs p list)
          × ImagesSince (clouds old.shelf.now e.cloud) (clouds mid.shelf.now e.cloud) (header_at old.servers e.cloud) (MaySettleAs p)
      at_asked stands t =
          let x = step.goes p r asked stands in (
            x.0,
            x.1,
            fewer x.0 t x.2,
            weaker (clouds old.shelf.now e.cloud) (clouds mid.shelf.now e.cloud) _ (StandsForSome (header_at old.servers e.cloud) (MaySettleAs p)) (step.images p r t stands asked)
                (λ image some. (some.0, becomes old.servers.shape e.cloud (full_at old.servers e.cloud) r none p some.0 some.1, some.2)),
          )

      asked_cloud : cloud ≡ e.cloud → ImagesSince (clouds old.shelf.now cloud) (clouds new.shelf.now cloud) header (MaySettleAs p)
      asked_cloud same =
          let P : ℕ → Type 0 = λ n. StandsAt clouds old n p → IsTrue (clouds old.shelf.now n).told → (q : Peer) × StandsAt clouds mid n q × ((list : List Command) → MaySettleAs q list → MaySettleAs p list)
          × ImagesSince (clouds old.shelf.now n) (clouds mid.shelf.now n) (header_at old.servers n) (MaySettleAs p) in
          let x = subst P (sym same) at_asked is told in
          goes_on x.0 x.1 x.2 x.3

      by_cloud : (cloud ≡ e.cloud) ⊎ (cloud ≢ e.cloud) → ImagesSince (clouds old.shelf.now cloud) (clouds new.shelf.now cloud) header (MaySettleAs p)
      by_cloud (inl same) = asked_cloud same
      by_cloud (inr ne) =
          goes_on p
          (subst (λ (s : Shape). IsPeer s cloud (clouds mid.shelf.now cloud) (server_at mid.servers cloud) p) (sym step.rest.shape_stays)
          (peer_moves old.servers.shape cloud (clouds old.shelf.now cloud) (clouds mid.shelf.now cloud) (server_at old.servers cloud) (server_at mid.servers cloud) p (step.rest.clouds_stay cloud ne) (step.rest.servers_stay cloud ne) is))
          (λ list settles. settles)
          (left_alone (clouds old.shelf.now cloud) (clouds mid.shelf.now cloud) (StandsForSome header (MaySettleAs p)) (step.rest.clouds_stay cloud ne) (images_now old.servers cloud (clouds old.shelf.now cloud) p lt told is))

  -- each image since then stands for a list that the cloud might have settled as
  pub read_images : (named : List ℕ) (es : List Exchange) (old new : LocalLink V) (cloud : ℕ) (p : Peer) → Passes (telling clouds) (ReadsOneOf named) old es new → cloud < old.servers.shape.n
      → IsTrue (clouds old.shelf.now cloud).told → StandsAt clouds old cloud p
      → ImagesSince (clouds old.shelf.now cloud) (clouds new.shelf.now cloud) (header_at old.servers cloud) (MaySettleAs p)
  read_images named [] old new cloud p same lt told is =
      subst (λ (l : LocalLink V). ImagesSince (clouds old.shelf.now cloud) (clouds l.shelf.now cloud) (header_at old.servers cloud) (MaySettleAs p)) (sym same)
      (started (clouds old.shelf.now cloud) (StandsForSome (header_at old.servers cloud) (MaySettleAs p)) (images_now old.servers cloud (clouds old.shelf.now cloud) p lt told is))
  read_images named (e ∷ es) old new cloud p chain lt told is =
      read_step named e old chain.1.0 new cloud p chain.0 chain.1.1 lt told is (λ q below t stands. read_images named es chain.1.0 new cloud q chain.1.2 below t stands)

  -- the clouds that aren't named are as they were
  pub read_others : (named : List ℕ) (es : List Exchange) (old new : LocalLink V) (cloud : ℕ) → Passes (telling clouds) (ReadsOneOf named) old es new → (Contains named cloud → ⊥) → clouds new.shelf.now cloud ≡ clouds old.shelf.now cloud
  read_others named [] old new cloud same not = ap (λ (l : LocalLink V). clouds l.shelf.now cloud) same
  read_others named (e ∷ es) old new cloud chain not =
      read_others named es chain.1.0 new cloud chain.1.2 not ∙ chain.1.1.rest.clouds_stay cloud (λ same. not (subst (Contains named) (sym same) chain.0.0))

  -- it is the same shelf
  pub read_same : (named : List ℕ) (es : List Exchange) (old new : LocalLink V) → Passes (telling clouds) (ReadsOneOf named) old es new → new.shelf.ghost_name ≡ old.shelf.ghost_name
  read_same named [] old new same = ap (λ (l : LocalLink V). l.shelf.ghost_name) same
  read_same named (e ∷ es) old new chain = read_same named es chain.1.0 new chain.1.2 ∙ chain.1.1.same_reference

  -- no count of faults falls
  pub read_later : (es : List Exchange) (old new : LocalLink V) (cloud : ℕ) → Passes (telling clouds) (λ e. IsReading e.content) old es new
      → (clouds old.shelf.now cloud).faults ≤ (clouds new.shelf.now cloud).faults
  read_later [] old new cloud same = subst (λ (l : LocalLink V). (clouds old.shelf.now cloud).faults ≤ (clouds l.shelf.now cloud).faults) (sym same) (omega arith)
  read_later (e ∷ es) old new cloud chain =
      let first = one_later e old chain.1.0 cloud chain.1.1 (cases_eq cloud e.cloud) in
      let rest = read_later es chain.1.0 new cloud chain.1.2 in
      omega arith
    where
      one_later : (e : Exchange) (a b : LocalLink V) (cloud : ℕ) → PassesOn clouds a e b → (cloud ≡ e.cloud) ⊎ (cloud ≢ e.cloud) → (clouds a.shelf.now cloud).faults ≤ (clouds b.shelf.now cloud).faults
      one_later e a b cloud step (inl same) = subst (λ (n : ℕ). (clouds a.shelf.now n).faults ≤ (clouds b.shelf.now n).faults) (sym same) step.later
      one_later e a b cloud step (inr ne) = subst (λ (x : Cloud). (clouds a.shelf.now cloud).faults ≤ x.faults) (sym (step.rest.clouds_stay cloud ne)) (omega arith)

  -- no cloud is armed
  pub read_unarmed : (es : List Exchange) (old new : LocalLink V) (cloud : ℕ) → Passes (telling clouds) (λ e. IsReading e.content) old es new
      → (clouds new.shelf.now cloud).armings ≡ (clouds old.shelf.now cloud).armings
  read_unarmed [] old new cloud same = ap (λ (l : LocalLink V). (clouds l.shelf.now cloud).armings) same
  read_unarmed (e ∷ es) old new cloud chain = read_unarmed es chain.1.0 new cloud chain.1.2 ∙ one_unarmed e old chain.1.0 cloud chain.1.1 (cases_eq cloud e.cloud)
    where
      one_unarmed : (e : Exchange) (a b : LocalLink V) (cloud : ℕ) → PassesOn clouds a e b → (cloud ≡ e.cloud) ⊎ (cloud ≢ e.cloud)
          → (clouds b.shelf.now cloud).armings ≡ (clouds a.shelf.now cloud).armings
      one_unarmed e a b cloud step (inl same) = subst (λ (n : ℕ). (clouds b.shelf.now n).armings ≡ (clouds a.shelf.now n).armings) (sym same) step.armings
      one_unarmed e a b cloud step (inr ne) = ap (λ (x : Cloud). x.armings) (step.rest.clouds_stay cloud ne)

  -- a reply that's Fault came where the cloud's count rose
  pub read_fault : (es : List Exchange) (old new : LocalLink V) (e : Exchange) (content : List ℕ) → Passes (telling clouds) (λ e. IsReading e.content) old es new → Contains es e
      → e.reply ≡ Some content → IsReply content replies.Fault → Rose (clouds old.shelf.now e.cloud).faults (clouds new.shelf.now e.cloud).faults
  read_fault [] old new e content chain has came fault = absurd (contains_nothing e has)
  read_fault (x ∷ es) old new e content chain has came fault = elim (contains_cases x es e has) [
    | inl same ↦ subst (λ (y : Exchange). Rose (clouds old.shelf.now y.cloud).faults (clouds new.shelf.now y.cloud).faults) same
        (here (subst (λ (y : Exchange). y.reply ≡ Some content) (sym same) came))
    | inr more ↦
        let rest = read_fault es chain.1.0 new e content chain.1.2 more came fault in
        let first = read_later (x ∷ []) old chain.1.0 e.cloud (chain.0, (chain.1.0, chain.1.1, refl)) in
        rose_behind (clouds old.shelf.now e.cloud).faults (clouds chain.1.0.shelf.now e.cloud).faults (clouds new.shelf.now e.cloud).faults first rest
  ]
    where
      here : x.reply ≡ Some content → Rose (clouds old.shelf.now x.cloud).faults (clouds new.shelf.now x.cloud).faults
      here came =
          let reads = chain.0 in
          let step = chain.1.1 in
          let asked = (asked_law old.servers.shape x.content reads.0 step.bytes).1 (record { asked = reads.1; recipe = has_recipe old.servers.shape reads.0 reads.2 }) in
          let said = step.said reads.0 content asked came in
          let answer_is : said.0 ≡ replies.Fault = fault_alone content said.0 said.1 fault in
          let rest = read_later es chain.1.0 new x.cloud chain.1.2 in
          rose_before (clouds old.shelf.now x.cloud).faults (clouds chain.1.0.shelf.now x.cloud).faults (clouds new.shelf.now x.cloud).faults (said.4 answer_is) rest

-- ---- one ask

-- What came back from a cloud, whatever it has.
abbrev pub SaidBy : {V : Type 0} → (V → ℕ → Cloud) → LocalLink V → LocalLink V → ℕ → Request → List ℕ → Type 0
SaidBy clouds old new cloud r content = (answer : Reply) × IsReply content answer × IsReplyTo (items_of old.servers.shape r) r answer × (answer ≢ replies.NoMemory)
    × (answer ≡ replies.Fault → Rose (clouds old.shelf.now cloud).faults (clouds new.shelf.now cloud).faults)

pub heard : (fate : Fate) → IsTrue (is_delivered fate) → fate ≢ LoseRequest
heard Deliver is e = (let never : Deliver ≡ LoseRequest = e in cc)
heard LoseRequest is e = (let never : false ≡ true = is in cc)
heard LoseReply is e = (let never : LoseReply ≡ LoseRequest = e in cc)

pub said_by : {V E : Type 0} (clouds : V → ℕ → Cloud) (old new : LocalLink V) (cloud : ℕ) (r : Request) (reply : List ℕ) (before now : ℕ) (result : Result (Unit {0}) E)
    → (content : List ℕ) × OnOk result (reply ≡ content) × Replied old.servers.shape (clouds old.shelf.now cloud) (clouds new.shelf.now cloud) before now r content → IsOk result → SaidBy clouds old new cloud r reply
said_by clouds old new cloud r reply before now (Ok u) x ok =
    (x.2.answer, subst (λ (l : List ℕ). IsReply l x.2.answer) (sym x.1) x.2.is, x.2.kind, x.2.memory, λ fault. (x.2.fault fault).cloud)
said_by clouds old new cloud r reply before now (Err e) x ok = absurd (let never : false ≡ true = ok in cc)

pub one_reply : (reply heard : List ℕ) → Some reply ≡ Some heard → reply ≡ heard
one_reply reply heard e = cc

pub passes_by : {V E : Type 0} (clouds : V → ℕ → Cloud) (old new : LocalLink V) (cloud : ℕ) (content reply : List ℕ) (result : Result (Unit {0}) E) → cloud < old.servers.shape.n → AreBytes content
    → LeavesRest clouds cloud old new → rooms_at new.servers cloud ≡ rooms_at old.servers cloud → new.fate ≡ Deliver → new.shelf.ghost_name ≡ old.shelf.ghost_name
    → (clouds new.shelf.now cloud).armings ≡ (clouds old.shelf.now cloud).armings
    → (clouds old.shelf.now cloud).faults ≤ (clouds new.shelf.now cloud).faults
    → (IsOk result → (r : Request) → asked_at old.servers.shape content ≡ Ok r → SaidBy clouds old new cloud r reply)
    → ((m : Memory) (r : Request) → asked_at old.servers.shape content ≡ Ok r → AddsNothing r → IsOpenWith old.servers cloud m
    → ReadsOpen (clouds old.shelf.now cloud) (clouds new.shelf.now cloud) new.servers (exchange_of cloud content result reply) m r)
    → ((m : Memory) (r : Request) → IsTrue (clouds old.shelf.now cloud).told → asked_at old.servers.shape content ≡ Ok r → AddsNothing r
    → IsRemembered (header_at old.servers cloud) (clouds old.shelf.now cloud) (server_at old.servers cloud) m
    → ReadsTold (header_at old.servers cloud) (clouds old.shelf.now cloud) (clouds new.shelf.now cloud) (server_at new.servers cloud) (exchange_of cloud content result reply) m r)
    → (IsOk result → (r : Request) → asked_at old.servers.shape content ≡ Ok r → (given : List ℕ) × OnOk result (reply ≡ given)
    × IsSomeAnd (server_at old.servers cloud) (λ (before : Server). IsOpen before.store
    → IsSomeAnd (server_at new.servers cloud) (λ (after : Server). GrowsOn before.store after.store (clouds old.shelf.now cloud) (clouds new.shelf.now cloud) r given)))
    → (IsOk result → (r : Request) → IsTrue (clouds old.shelf.now cloud).told → asked_at old.servers.shape content ≡ Ok r → (given : List ℕ) × OnOk result (reply ≡ given)
    × IsSomeAnd (server_at old.servers cloud) (λ (before : Server). ¬ (IsOpen before.store)
    → IsSomeAnd (server_at new.servers cloud) (λ (after : Server). OpensOrShuts before.store after.store (clouds old.shelf.now cloud) (clouds new.shelf.now cloud) r given)))
    → ((r : Request) → asked_at old.servers.shape content ≡ Ok r → Asks (telling clouds) cloud old r reply result new)
    → ((p : Peer) (r : Request) → IsTrue (clouds old.shelf.now cloud).told → StandsAt clouds old cloud p → asked_at old.servers.shape content ≡ Ok r
    → ImagesSince (clouds old.shelf.now cloud) (clouds new.shelf.now cloud) (header_at old.servers cloud) (MayBecome (serves (telling clouds) old cloud) p r))
    → PassesOn clouds old (exchange_of cloud content result reply) new
passes_by clouds old new cloud content reply (Ok u) lt bytes rest rooms fate same armings later said reads recalls grown first exec images = record {
  reached = lt;
  bytes = bytes;
  rest = rest;
  rooms = rooms;
  fate = fate;
  same_reference = same;
  armings = armings;
  later = later;
  said = λ r heard asked came. subst (SaidBy clouds old new cloud r) (one_reply reply heard came) (said refl r asked);
  reads = reads;
  recalls = recalls;
  grown = λ r heard asked came.
      let x = grown refl r asked in
      subst (λ (l : List ℕ). IsSomeAnd (server_at old.servers cloud) (λ (before : Server). IsOpen before.store
      → IsSomeAnd (server_at new.servers cloud) (λ (after : Server). GrowsOn before.store after.store (clouds old.shelf.now cloud) (clouds new.shelf.now cloud) r l))) (sym x.1 ∙ one_reply reply heard came) x.2;
  first = λ r heard told asked came.
      let x = first refl r told asked in
      subst (λ (l : List ℕ). IsSomeAnd (server_at old.servers cloud) (λ (before : Server). ¬ (IsOpen before.store)
      → IsSomeAnd (server_at new.servers cloud) (λ (after : Server). OpensOrShuts before.store after.store (clouds old.shelf.now cloud) (clouds new.shelf.now cloud) r l))) (sym x.1 ∙ one_reply reply heard came) x.2;
  goes = λ p r asked is. let x = exec r asked p is in (x.0, x.1, inr (x.2.0, x.2.1, x.2.2));
  images = images;
}
passes_by clouds old new cloud content reply (Err e) lt bytes rest rooms fate same armings later said reads recalls grown first exec images = record {
  reached = lt;
  bytes = bytes;
  rest = rest;
  rooms = rooms;
  fate = fate;
  same_reference = same;
  armings = armings;
  later = later;
  said = λ r heard asked came. absurd (let never : None ≡ Some heard = came in cc);
  reads = reads;
  recalls = recalls;
  grown = λ r heard asked came. absurd (let never : None ≡ Some heard = came in cc);
  first = λ r heard told asked came. absurd (let never : None ≡ Some heard = came in cc);
  goes = λ p r asked is. let x = exec r asked p is in (
    x.0,
    x.1,
    elim x.2 [
      | inl stays ↦ inl (stays.0, stays.1, refl)
      | inr went ↦ inr (went.0, tt, went.1)
    ],
  );
  images = images;
}
