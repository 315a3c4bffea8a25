-- What a restore from opened clouds comes to.
use Rattle.std.proofs.Common.{◌≡◌, ℕ, ◌<◌, ◌≤◌, ◌⊎◌, Bool, true, false, cond, nat_eq, List, [], ◌∷◌, ◌++◌, map, arith, refl, sym, ap, ◌∙◌, subst, inl, inr}
use Rattle.std.specs.Prelude.{IsTrue, Some, None, Result, Ok, Err, IfErr, All}
use Rattle.std.specs.List.{Contains}
use Rattle.std.proofs.lemmas.Bool.{cases_eq, eq-eqb, ne_eqb}
use Rattle.commit_journal.specs.CdBase.ids.CloudNo.{CloudNo}
use Rattle.commit_journal.specs.CdBase.ids.Tag.{Tag}
use Rattle.commit_journal.specs.CdBase.ids.UserId.{UserId}
use Rattle.commit_journal.specs.CdBase.ids.Version.{Version}
use Rattle.commit_journal.specs.CdBase.shape.Shape.{Shape}
use Rattle.commit_journal.specs.CdEdges.Causes.{Rose}
use Rattle.commit_journal.specs.CdEdges.Disk.{Cloud, IsImage, reads}
use Rattle.commit_journal.proofs.CdEdges.Moments.{joined, weaker}
use Rattle.subset_restore.specs.CaontRs.opening.RecoverErr.TheVariants as opening
use Rattle.cloud_areas.specs.UserDedup.command.Command.{Command}
use Rattle.cloud_areas.specs.UserDedup.Exec.{Peer, MaySettleAs}
use Rattle.cloud_areas.specs.UserDedup.Spending.{IsWithin}
use Rattle.commit_journal.specs.JournalStart.rooms.UserRooms.{UserRooms}
use Rattle.commit_journal.specs.JournalStart.start.Header.{Header}
use Rattle.cloud_areas.specs.UserDedup.Link.{IsReading, Passes, ReadsOneOf, Talk}
use Rattle.cloud_areas.specs.UserDedup.Link.{Exchange as Asked_one}
use Rattle.local_link.specs.Messages.Replies.{IsReply}
use Rattle.local_link.specs.Messages.reply.Reply.TheVariants as replies
use Rattle.subset_restore.specs.RestoreJob.Exchanges.{passed_on}
use Rattle.subset_restore.proofs.RestoreJob.Faulting.{restore_fault}
use Rattle.subset_restore.proofs.RestoreJob.Leading.{rose_off}
use Rattle.cloud_areas.proofs.UserDedup.Owned.{contains_here, contains_later, contains_cases, contains_nothing}
use Rattle.cloud_areas.specs.Peers.{StandsForSome, ImagesSince}
use Rattle.cloud_areas.specs.Standing.{StandsFor}
use Rattle.local_link.specs.ShareServer.Serving.{settled_with}
use Rattle.local_link.specs.declared.fate.Fate.TheVariants.{Deliver}
use Rattle.local_link.specs.declared.link.LocalLink.{LocalLink}
use Rattle.local_link.specs.Calls.{header_of}
use Rattle.local_link.specs.Tells.{header_at, rooms_at, is_delivered, telling, StandsAt}
use Rattle.subset_restore.specs.RestoreJob.Asking.{among as only_of}
use Rattle.subset_restore.specs.RestoreJob.Asking.{PeersOf, AreOnlyAsked, MayRead, HasAskedClouds, is_lost, TellsAll}
use Rattle.subset_restore.specs.RestoreJob.Brought.{Brought}
use Rattle.subset_restore.specs.RestoreJob.Reading.{Ends}
use Rattle.subset_restore.specs.RestoreJob.Refusals.{Names}
use Rattle.subset_restore.specs.RestoreJob.Restored
use Rattle.subset_restore.specs.RestoreJob.Restored.{Unrestored, restored_file}
use Rattle.subset_restore.specs.RestoreJob.error.RestoreErr.{RestoreErr}
use Rattle.subset_restore.specs.RestoreJob.error.RestoreErr.TheVariants as errors
use Rattle.subset_restore.specs.Transcript.refusal.Refusal.{Refusal}
use Rattle.subset_restore.specs.Transcript.refusal.Refusal.TheVariants as refusals
use Rattle.read_command.specs.Disks.{AreReadable, KeepsDisks}
use Rattle.read_command.specs.Opening.{AreOpened}
use Rattle.subset_restore.specs.Refusals.{refusal_of, refusal_text}
use Rattle.subset_restore.specs.Ends.{Sought, AllRefused, AnyEnds, GivesNone, HasFileCome, NoneBy, NoneCame, WasLost, any_outcome, outcome_of}
use Rattle.subset_restore.specs.Ends.{IsNone as AnyNone}
use Rattle.subset_restore.specs.Subsets.{subsets}
use Rattle.subset_restore.specs.Tries.{Try}
use Rattle.subset_restore.proofs.Calling.{among_chosen, none_by, none_lost}
use Rattle.subset_restore.proofs.Choices.{subset_among}
use Rattle.subset_restore.proofs.Elements.{all_of, contains_back, contains_front, contains_mapped, of_all}
use Rattle.subset_restore.proofs.Going.{any_at, any_none}
use Rattle.subset_restore.proofs.Files.{same_file}
use Rattle.subset_restore.proofs.RestoreJob.Wrong.{both_true}
use Rattle.read_command.specs.Ends.{Outside, RoseBy, Due, due_of, IsNoneGiven, HoldsFailed, IsFileDue, IsRefusalDue, IsReadRefused, GivesAnyway}
use Rattle.read_command.specs.Ends.{IsFaultLine, IsLineOf, CameTo, CameDue, CameOf, SaysOf}
use Rattle.read_command.proofs.Disks.{OneHeader, rooms_one}
use Rattle.read_command.proofs.Row.{of_one}

-- ---- which clouds are named, as a test

abbrev among : List ℕ → ℕ → Bool
among [] cloud = false
among (x ∷ xs) cloud = cond (nat_eq x cloud) true (among xs cloud)

has_among : (xs : List ℕ) (cloud : ℕ) → IsTrue (among xs cloud) → Contains xs cloud
has_among [] cloud is = absurd (let never : false ≡ true = is in cc)
has_among (x ∷ xs) cloud is = elim (cases_eq x cloud) [
  | inl e ↦ subst (λ (c : ℕ). Contains (x ∷ xs) c) e (contains_here x xs)
  | inr ne ↦ contains_later x xs cloud (has_among xs cloud (sym (ap (λ (b : Bool). cond b true (among xs cloud)) (ne_eqb x cloud ne)) ∙ is))
]

among_has : (xs : List ℕ) (cloud : ℕ) → Contains xs cloud → IsTrue (among xs cloud)
among_has [] cloud has = absurd (contains_nothing cloud has)
among_has (x ∷ xs) cloud has = elim (contains_cases x xs cloud has) [
  | inl e ↦ ap (λ (b : Bool). cond b true (among xs cloud)) (eq-eqb x cloud e)
  | inr more ↦ by_test (nat_eq x cloud) (among_has xs cloud more)
]
  where
    by_test : (b : Bool) → among xs cloud ≡ true → cond b true (among xs cloud) ≡ true
    by_test true e = refl
    by_test false e = e

pub named_or_not : (xs : List ℕ) (cloud : ℕ) → Contains xs cloud ⊎ (Contains xs cloud → ⊥)
named_or_not xs cloud = by_test (among xs cloud) refl
  where
    by_test : (b : Bool) → among xs cloud ≡ b → Contains xs cloud ⊎ (Contains xs cloud → ⊥)
    by_test true e = inl (has_among xs cloud e)
    by_test false e = inr (λ has. let never : false ≡ true = sym e ∙ among_has xs cloud has in cc)

-- ---- what is due

-- a settled cloud that may have been read has its list
same_list : (list : List Command) (cloud : Cloud) (after : Peer) → MayRead (settled_with list cloud) after → after.list ≡ list
same_list list cloud after (inl stays, counts) = stays.list
same_list list cloud after (inr settles, counts) = by_list settles.list
  where
    by_list : MaySettleAs (settled_with list cloud) after.list → after.list ≡ list
    by_list (inl e) = e
    by_list (inr x) = absurd x

only_list : (list : List Command) (cloud : Cloud) (other : List Command) → MaySettleAs (settled_with list cloud) other → other ≡ list
only_list list cloud other (inl e) = e
only_list list cloud other (inr x) = absurd x

-- the line of a refusal over told clouds is that of what they give, or of a failed device
line_due : (c : Outside) (clouds : List ℕ) (given : Result (List ℕ) Unrestored) (e : RestoreErr) (was left : List ℕ)
    (before after : ℕ → Peer)
    → (let came : Result (Unit {0}) RestoreErr = Err e in Ends given clouds came was left before after)
    → (let came : Result (Unit {0}) RestoreErr = Err e in is_lost came ≡ false) → RoseBy c e
    → (why : Refusal) → refusal_of e ≡ Some why
    → IsLineOf given (refusal_text why) ⊎ IsFaultLine c clouds (refusal_text why)
line_due c clouds given (errors.Missing cloud) was left before after ends found rose why is =
    inl (Restored.Missing cloud.0, why, ends, is, refl)
line_due c clouds given (errors.RecipesDiffer a b place) was left before after ends found rose why is =
    inl (Restored.RecipesDiffer a.0 b.0 place, why, ends, is, refl)
line_due c clouds given (errors.ShareLength cloud secret wrong wanted) was left before after ends found rose why is =
    inl (Restored.ShareLength cloud.0 secret wrong wanted, why, ends, is, refl)
line_due c clouds given (errors.BadSecret secret name wrong) was left before after ends found rose why is =
    inl (Restored.NotOpened secret (opening.BadSecret name wrong), why, ends, is, refl)
line_due c clouds given (errors.BadPad secret at byte) was left before after ends found rose why is =
    inl (Restored.NotOpened secret (opening.BadPad at byte), why, ends, is, refl)
line_due c clouds given (errors.CloudFault cloud) was left before after ends found rose why is =
    let same : Some (refusals.Fault cloud) ≡ Some why = is in
    let text : refusals.Fault cloud ≡ why = cc in
    inr (cloud.0, ends.0, ap refusal_text (sym text), rose)
line_due c clouds given (errors.Lost cloud) was left before after ends found rose why is =
    absurd (let never : true ≡ false = found in cc)
line_due c clouds given errors.NoMemory was left before after ends found rose why is =
    absurd (let never : None ≡ Some why = is in cc)
line_due c clouds given (errors.CloudDamaged cloud at byte) was left before after ends found rose why is = absurd ends
line_due c clouds given (errors.CloudRotten cloud name wrong) was left before after ends found rose why is = absurd ends
line_due c clouds given (errors.CloudNoMemory cloud) was left before after ends found rose why is = absurd ends
line_due c clouds given (errors.Strange cloud kind) was left before after ends found rose why is = absurd ends
line_due c clouds given (errors.BadShare cloud secret name wrong) was left before after ends found rose why is =
    absurd ends

-- counts of peers that are those of the clouds
record Counts (c : Outside) (named : List ℕ) (before after : ℕ → Peer) : Type 0 where
  olds : (cloud : ℕ) → Contains named cloud → (before cloud).faults ≡ (c.old cloud).faults
  news : (cloud : ℕ) → Contains named cloud → (after cloud).faults ≡ (c.new cloud).faults

rises_too : (c : Outside) (named : List ℕ) (before after : ℕ → Peer) → Counts c named before after → (cloud : ℕ)
    → Contains named cloud → Rose (before cloud).faults (after cloud).faults
    → Rose (c.old cloud).faults (c.new cloud).faults
rises_too c named before after counts cloud has rose =
    subst (λ (n : ℕ). Rose n (c.new cloud).faults) (counts.olds cloud has)
    (subst (λ (n : ℕ). Rose (before cloud).faults n) (counts.news cloud has) rose)

-- over told clouds of which no ask was lost
module _ (c : Outside) (s : Sought) (tries : List Try) (before after : ℕ → Peer)
    (counts : Counts c s.clouds before after) (unlost : (cloud : ℕ) → WasLost tries cloud → ⊥) where
  abbrev lists : ℕ → List Command
  lists cloud = (after cloud).list

  abbrev due : Due
  due = due_of s.shape s.user (s.tag, s.version) s.clouds lists

  abbrev Among : List ℕ → Type 0
  Among subset = (cloud : ℕ) → Contains subset cloud → Contains s.clouds cloud

  none_of : (subset : List ℕ) → Among subset → AnyNone s tries before after subset → IsNoneGiven c due subset
  none_of subset among (inl gives) = inl gives
  none_of subset among (inr (cloud, has, inl rose)) =
      inr (cloud, has, rises_too c s.clouds before after counts cloud (among cloud has) rose)
  none_of subset among (inr (cloud, has, inr lost)) = absurd (unlost cloud lost)

  gives_none : (HoldsFailed c s.clouds → ⊥) → (subset : List ℕ) → Among subset → IsNoneGiven c due subset
      → GivesNone s after subset
  gives_none free subset among (inl gives) = gives
  gives_none free subset among (inr (cloud, has, rose)) = absurd (free (cloud, among cloud has, rose))

  -- the choices in front of one
  front_among : (front rest : List (List ℕ)) (chosen : List ℕ) → subsets s.shape.k s.clouds ≡ front ++ chosen ∷ rest
      → (x : List ℕ) → Contains front x → Among x
  front_among front rest chosen split x has =
      subset_among s.shape.k s.clouds x (subst (λ (l : List (List ℕ)). Contains l x) (sym split)
      (contains_front front (chosen ∷ rest) x has))

  file_due : (front rest : List (List ℕ)) (chosen : List ℕ) (file : List ℕ)
      → subsets s.shape.k s.clouds ≡ front ++ chosen ∷ rest → outcome_of s after chosen ≡ Ok file
      → All (AnyNone s tries before after) front → IsFileDue c s.clouds due file
  file_due front rest chosen file split given none =
      let each : (x : List ℕ) → Contains front x → IsNoneGiven c due x = λ x has.
      none_of x (front_among front rest chosen split x has) (of_all (AnyNone s tries before after) front x none has) in
      record {
        front = front;
        chosen = chosen;
        rest = rest;
        in_order = split;
        given = given;
        before = all_of (IsNoneGiven c due) front each;
        exact = λ free. any_at s after front chosen rest file split
            (λ x has. gives_none free x (front_among front rest chosen split x has) (each x has)) given;
      }

  refusal_due : (first : List ℕ) (rest : List (List ℕ)) (e : RestoreErr) (was left : List ℕ)
      → subsets s.shape.k s.clouds ≡ first ∷ rest
      → (let came : Result (Unit {0}) RestoreErr = Err e in Ends (outcome_of s after first) first came was left before after)
      → All (AnyNone s tries before after) (subsets s.shape.k s.clouds)
      → (let came : Result (Unit {0}) RestoreErr = Err e in is_lost came ≡ false) → RoseBy c e
      → (why : Refusal) → refusal_of e ≡ Some why → IsRefusalDue c s.clouds due (refusal_text why)
  refusal_due first rest e was left split ends none found rose why is =
      let all = subsets s.shape.k s.clouds in
      let each : (x : List ℕ) → Contains all x → IsNoneGiven c due x = λ x has.
      none_of x (subset_among s.shape.k s.clouds x has) (of_all (AnyNone s tries before after) all x none has) in
      let line = line_due c first (outcome_of s after first) e was left before after ends found rose why is in
      record {
        first = first;
        rest = rest;
        in_order = split;
        none = all_of (IsNoneGiven c due) all each;
        line = line;
        exact = λ free. of_first free line
            (any_none s after first rest split
            (λ x has. gives_none free x (subset_among s.shape.k s.clouds x has) (each x has)));
      }
    where
      of_first : (HoldsFailed c s.clouds → ⊥) → IsLineOf (outcome_of s after first) (refusal_text why)
          ⊎ IsFaultLine c first (refusal_text why) → any_outcome s after ≡ outcome_of s after first
          → IsLineOf (any_outcome s after) (refusal_text why)
      of_first free (inl line) same = (line.0, line.1, same ∙ line.2, line.3, line.4)
      of_first free (inr fault) same =
          absurd (free (fault.0, among_chosen s.shape.k s.clouds first [] rest split fault.0 fault.1, fault.3))

-- These lists stand at the named clouds that are told, each within these rooms.
abbrev HaveLists : Outside → Shape → List ℕ → (ℕ → UserRooms) → (ℕ → List Command) → Type 0
HaveLists c shape named rooms lists = (cloud : ℕ) → Contains named cloud → IsTrue (c.old cloud).told
    → StandsFor (reads (c.old cloud).now) (header_of shape (rooms cloud) cloud) (lists cloud)
    × IsWithin shape (rooms cloud) (lists cloud)

-- asks of some clouds are asks that add nothing
pub reading_chain : {V : Type 0} (clouds : V → ℕ → Cloud) (subset : List ℕ) (es : List Asked_one) (a b : LocalLink V)
    → Passes (telling clouds) (ReadsOneOf subset) a es b → Passes (telling clouds) (λ e. IsReading e.content) a es b
reading_chain clouds subset [] a b chain = chain
reading_chain clouds subset (e ∷ es) a b chain = (chain.0.1, (chain.1.0, chain.1.1, reading_chain clouds subset es chain.1.0 b chain.1.2))

module _ {V : Type 0} (clouds : V → ℕ → Cloud) (named : List ℕ) (shape : Shape) (total_before between total_after : ℕ) (old mid new : LocalLink V)
    (same : old.servers.shape ≡ shape) (opened : AreOpened clouds total_before between old mid named) where
  abbrev pub around : Outside
  around = record { total_before = total_before; total_after = total_after; old = clouds old.shelf.now; new = clouds new.shelf.now }

  shape_mid : mid.servers.shape ≡ shape
  shape_mid = opened.shape ∙ same

  lists_old : (rooms : ℕ → UserRooms) (lists : ℕ → List Command) → HaveLists around shape named rooms lists → (cloud : ℕ) → Contains named cloud → IsTrue (clouds old.shelf.now cloud).told
      → StandsFor (reads (clouds old.shelf.now cloud).now) (header_of old.servers.shape (rooms cloud) cloud) (lists cloud) × IsWithin old.servers.shape (rooms cloud) (lists cloud)
  lists_old rooms lists have cloud has told =
      subst (λ (s : Shape). StandsFor (reads (clouds old.shelf.now cloud).now) (header_of s (rooms cloud) cloud) (lists cloud) × IsWithin s (rooms cloud) (lists cloud)) (sym same) (have cloud has told)

  told_back : (cloud : ℕ) → IsTrue (clouds mid.shelf.now cloud).told → IsTrue (clouds old.shelf.now cloud).told
  told_back cloud told = subst (λ (b : Bool). IsTrue b) (opened.told cloud) told

  told_on : (cloud : ℕ) → IsTrue (clouds old.shelf.now cloud).told → IsTrue (clouds mid.shelf.now cloud).told
  told_on cloud told = subst (λ (b : Bool). IsTrue b) (sym (opened.told cloud)) told

  abbrev peers : (ℕ → List Command) → ℕ → Peer
  peers lists cloud = settled_with (lists cloud) (clouds mid.shelf.now cloud)

  loaded : (rooms : ℕ → UserRooms) (lists : ℕ → List Command) → HaveLists around shape named rooms lists → (cloud : ℕ) → Contains named cloud → IsTrue (clouds mid.shelf.now cloud).told
      → StandsAt clouds mid cloud (settled_with (lists cloud) (clouds mid.shelf.now cloud))
  loaded rooms lists have cloud has told =
      let was = told_back cloud told in
      let list = lists_old rooms lists have cloud has was in
      (opened.each cloud has).loaded was (rooms cloud) (lists cloud) list.0 list.1

  stand : (rooms : ℕ → UserRooms) (lists : ℕ → List Command) → HaveLists around shape named rooms lists → PeersOf (telling clouds) mid (among named) (peers lists)
  stand rooms lists have cloud is =
      let has = has_among named cloud is in record {
        faults = refl;
        armings = refl;
        serving = λ told. (loaded rooms lists have cloud has told).serving told;
        sound = λ told. (loaded rooms lists have cloud has told).sound told;
      }

  module _ (user : UserId) (tag : Tag) (version : Version) (talk : LocalLink V → ℕ → Talk → Type 0)
      (result : Result (Unit {0}) RestoreErr) (was file : List ℕ) (none : was ≡ []) (fate : old.fate ≡ Deliver)
      (asked : HasAskedClouds (telling clouds) named mid new (is_lost result)) where
    abbrev pub wanted : Sought
    wanted = record { shape = shape; user = user; tag = tag; version = version; clouds = named }

    lossless : IsTrue ((telling clouds).lossless mid)
    lossless = ap is_delivered (opened.fate ∙ fate)

    found : is_lost result ≡ false
    found = (asked.lossless lossless).0

    module _ (names : IfErr result (Names (Contains named)))
        (restored : AnyEnds (telling clouds) talk wanted mid new was file result)
        (later : (asks : List Asked_one) (a b : LocalLink V) (cloud : ℕ) → Passes (telling clouds) (λ e. IsReading e.content) a asks b
        → (clouds a.shelf.now cloud).faults ≤ (clouds b.shelf.now cloud).faults)
        (fault : (asks : List Asked_one) (a b : LocalLink V) (ask : Asked_one) (content : List ℕ) → Passes (telling clouds) (λ e. IsReading e.content) a asks b → Contains asks ask
        → ask.reply ≡ Some content → IsReply content replies.Fault → Rose (clouds a.shelf.now ask.cloud).faults (clouds b.shelf.now ask.cloud).faults) where
      counts_of : (lists : ℕ → List Command) (after : ℕ → Peer) → PeersOf (telling clouds) new (among named) after
          → Counts around named (peers lists) after
      counts_of lists after stand_now = record {
        olds = λ cloud has. (opened.each cloud has).faults;
        news = λ cloud has. (stand_now cloud (among_has named cloud has)).faults;
      }

      -- one try after another: no count falls
      later_all : (tries : List Try) (a b : LocalLink V) → AllRefused (telling clouds) talk wanted was a tries b → (cloud : ℕ)
          → (clouds a.shelf.now cloud).faults ≤ (clouds b.shelf.now cloud).faults
      later_all [] a b same cloud = subst (λ (l : LocalLink V). (clouds a.shelf.now cloud).faults ≤ (clouds l.shelf.now cloud).faults) (sym same) (omega arith)
      later_all (x ∷ tries) a b all cloud =
          let first = later all.1.asked.asks a all.0 cloud (reading_chain clouds x.subset all.1.asked.asks a all.0 all.1.asked.passed) in
          let rest = later_all tries all.0 b all.2 cloud in
          omega arith

      -- the first try ended by this
      first_fault : (cloud : CloudNo) → Contains named cloud.0 → NoneCame (telling clouds) talk wanted mid new was (errors.CloudFault cloud)
          → Rose (clouds old.shelf.now cloud.0).faults (clouds new.shelf.now cloud.0).faults
      first_fault cloud has came =
          let all = subst (λ (l : List Try). AllRefused (telling clouds) talk wanted was mid l new) came.tries_are came.refused in
          let said = all.1.passed in
          let w = restore_fault shape user tag version said.said.chosen said.said.log was said.said.left _ cloud said.said.run refl in
          let rose = fault (map passed_on said.said.log) mid all.0 (passed_on w.x) w.x.reply said.passed (contains_mapped passed_on said.said.log w.x w.has) refl w.fault in
          let here = subst (λ (n : ℕ). Rose (clouds mid.shelf.now n).faults (clouds all.0.shelf.now n).faults) w.cloud_is rose in
          subst (λ (n : ℕ). Rose n (clouds new.shelf.now cloud.0).faults) (opened.each cloud.0 has).faults
          (rose_off (clouds mid.shelf.now cloud.0).faults (clouds all.0.shelf.now cloud.0).faults (clouds new.shelf.now cloud.0).faults here (later_all came.more all.0 new all.2 cloud.0))

      rose_in : (e : RestoreErr) → Names (Contains named) e → NoneCame (telling clouds) talk wanted mid new was e → RoseBy around e
      rose_in (errors.CloudFault cloud) names came = first_fault cloud names came
      rose_in (errors.Missing cloud) names came = tt
      rose_in (errors.RecipesDiffer a b place) names came = tt
      rose_in (errors.ShareLength cloud secret wrong expected) names came = tt
      rose_in (errors.BadSecret secret name wrong) names came = tt
      rose_in (errors.BadPad secret at byte) names came = tt
      rose_in (errors.Lost cloud) names came = tt
      rose_in errors.NoMemory names came = tt
      rose_in (errors.CloudDamaged cloud at byte) names came = tt
      rose_in (errors.CloudRotten cloud name wrong) names came = tt
      rose_in (errors.CloudNoMemory cloud) names came = tt
      rose_in (errors.Strange cloud kind) names came = tt
      rose_in (errors.BadShare cloud secret name wrong) names came = tt

      -- what is said of it by what the clouds said
      pub record BySaying : Type 0 where
        pub ok : HasFileCome (telling clouds) talk wanted mid new was file → CameOf around shape user (tag, version) named (Ok tt) file
        pub err : (e : RestoreErr) (why : Refusal) → (let r : Result (Unit {0}) RestoreErr = Err e in is_lost r ≡ false) → refusal_of e ≡ Some why
            → NoneCame (telling clouds) talk wanted mid new was e → CameOf around shape user (tag, version) named (Err e) []
        pub says : (e : RestoreErr) → NoneCame (telling clouds) talk wanted mid new was e → Names (Contains named) e → SaysOf around shape user (tag, version) e

      pub came_to : BySaying → CameTo around shape user (tag, version) named result file
      came_to by = by_result result names restored found
        where
          by_result : (r : Result (Unit {0}) RestoreErr) → IfErr r (Names (Contains named))
              → AnyEnds (telling clouds) talk wanted mid new was file r → is_lost r ≡ false
              → CameTo around shape user (tag, version) named r file
          by_result (Ok u) n came f = record {
            chosen = came.subset;
            in_order = subst (λ (l : List (List ℕ)). Contains l came.subset) (sym came.split)
                (contains_back came.front (came.subset ∷ came.rest) came.subset (contains_here came.subset came.rest));
            brought = subst (λ (l : List ℕ). Brought shape came.subset l file) none came.brought;
            came = by.ok came;
          }
          by_result (Err e) n came f = record {
            names = n;
            rose = none_by (telling clouds) talk wanted was mid new (λ x. Names (Contains named) x → RoseBy around x)
                (λ names. tt) (λ x is names. rose_in x names is) e came n;
            found = f;
            says = none_by (telling clouds) talk wanted was mid new (λ x. Names (Contains named) x → SaysOf around shape user (tag, version) x)
                (λ names. tt) (λ x is names. by.says x is names) e came n;
            came = none_by (telling clouds) talk wanted was mid new
                (λ x. (let r : Result (Unit {0}) RestoreErr = Err x in is_lost r ≡ false) → (why : Refusal) → refusal_of x ≡ Some why → CameOf around shape user (tag, version) named (Err x) [])
                (λ unlost why is. absurd (let never : None ≡ Some why = is in cc)) (λ x of unlost why is. by.err x why unlost is of) e came f;
          }

      pub is_due : (rooms : ℕ → UserRooms) (lists : ℕ → List Command) → AreReadable shape named (clouds old.shelf.now) rooms lists
          → CameDue around named (due_of shape user (tag, version) named lists) result file
      is_due rooms lists are = by_result result names restored found
        where
          have : HaveLists around shape named rooms lists
          have cloud has told = ((are cloud has).stands, (are cloud has).within)

          told : TellsAll (telling clouds) mid named
          told cloud has = told_on cloud (are cloud has).told

          same_lists : (after : ℕ → Peer) → AreOnlyAsked named (peers lists) after → (λ cloud. (after cloud).list) ≡ lists
          same_lists after read = λ i cloud. same_list (lists cloud) (clouds mid.shelf.now cloud) (after cloud) (read.read cloud) i

          by_error : (e : RestoreErr) → NoneCame (telling clouds) talk wanted mid new was e → Names (Contains named) e
              → (let r : Result (Unit {0}) RestoreErr = Err e in is_lost r ≡ false)
              → (let r : Result (Unit {0}) RestoreErr = Err e in
              CameDue around named (due_of shape user (tag, version) named lists) r file)
          by_error e came n f why is =
              let went = came.leads (among named) (λ cloud has. among_has named cloud has) (peers lists) (stand rooms lists have) in
              let counts = counts_of lists went.0 went.1 in
              let unlost = none_lost (telling clouds) talk wanted was mid new came.tries came.refused lossless in
              let known = went.4 told in
              subst (λ (g : ℕ → List Command). IsRefusalDue around named (due_of shape user (tag, version) named g)
              (refusal_text why)) (same_lists went.0 went.2)
              (refusal_due around wanted came.tries (peers lists) went.0 counts unlost came.first came.rest e was was
              came.first_is known.ends known.none f (rose_in e n came) why is)

          by_result : (r : Result (Unit {0}) RestoreErr) → IfErr r (Names (Contains named))
              → AnyEnds (telling clouds) talk wanted mid new was file r → is_lost r ≡ false
              → CameDue around named (due_of shape user (tag, version) named lists) r file
          by_result (Ok u) n came f =
              let went = came.leads (among named) (λ cloud has. among_has named cloud has) (peers lists) (stand rooms lists have) in
              let counts = counts_of lists went.0 went.1 in
              let unlost = none_lost (telling clouds) talk wanted was mid came.mid came.tries came.refused lossless in
              let known = went.4 told in
              let ends = subst (λ (l : List ℕ). (bytes : List ℕ) × (file ≡ l ++ bytes)
              × (outcome_of wanted went.0 came.subset ≡ Ok bytes)) none known.ends in
              subst (λ (g : ℕ → List Command). IsFileDue around named (due_of shape user (tag, version) named g) file)
              (same_lists went.0 went.2)
              (file_due around wanted came.tries (peers lists) went.0 counts unlost came.front came.rest came.subset file
              came.split (ends.2 ∙ ap Ok (sym ends.1)) known.front_none)
          by_result (Err e) n came f =
              none_by (telling clouds) talk wanted was mid new
              (λ x. Names (Contains named) x → (let r : Result (Unit {0}) RestoreErr = Err x in is_lost r ≡ false)
              → (let r : Result (Unit {0}) RestoreErr = Err x in
              CameDue around named (due_of shape user (tag, version) named lists) r file))
              (λ names unlost why is. absurd (let never : None ≡ Some why = is in cc))
              (λ x is names unlost. by_error x is names unlost) e came n f

      -- a choice of readable clouds whose lists give a file isn't refused
      module _ (rooms : ℕ → UserRooms) (lists : ℕ → List Command) (chosen bytes : List ℕ) (in_order : Contains (subsets shape.k named) chosen)
          (are : AreReadable shape chosen (clouds old.shelf.now) rooms lists) (given : restored_file shape lists user (tag, version) chosen ≡ Ok bytes)
          (free : HoldsFailed around chosen → ⊥) where
        is_named : (cloud : ℕ) → Contains chosen cloud → Contains named cloud
        is_named = subset_among shape.k named chosen in_order

        list_of : (cloud : ℕ) → Contains chosen cloud
            → StandsFor (reads (clouds old.shelf.now cloud).now) (header_of old.servers.shape (rooms cloud) cloud) (lists cloud) × IsWithin old.servers.shape (rooms cloud) (lists cloud)
        list_of cloud has =
            subst (λ (s : Shape). StandsFor (reads (clouds old.shelf.now cloud).now) (header_of s (rooms cloud) cloud) (lists cloud) × IsWithin s (rooms cloud) (lists cloud)) (sym same)
            ((are cloud has).stands, (are cloud has).within)

        stand_one : (cloud : ℕ) → Contains chosen cloud → StandsAt clouds mid cloud (peers lists cloud)
        stand_one cloud has = (opened.each cloud (is_named cloud has)).loaded (are cloud has).told (rooms cloud) (lists cloud) (list_of cloud has).0 (list_of cloud has).1

        both_ways : (why : Unrestored) → restored_file shape lists user (tag, version) chosen ≡ Err why → ⊥
        both_ways why e = (let never = sym given ∙ e in cc)

        never_none : (tries : List Try) (after : ℕ → Peer) → ((cloud : ℕ) → WasLost tries cloud → ⊥) → ((cloud : ℕ) → Contains chosen cloud → (after cloud).faults ≡ (clouds new.shelf.now cloud).faults)
            → AreOnlyAsked named (peers lists) after → AnyNone wanted tries (peers lists) after chosen → ⊥
        never_none tries after unlost news read (inl none) =
            both_ways none.0 (sym (same_file shape (λ cloud. (after cloud).list) lists user (tag, version) chosen
            (λ cloud has. same_list (lists cloud) (clouds mid.shelf.now cloud) (after cloud) (read.read cloud))) ∙ none.1)
        never_none tries after unlost news read (inr (cloud, has, inl rose)) =
            free (
              cloud,
              has,
              subst (λ (n : ℕ). Rose n (clouds new.shelf.now cloud).faults) (opened.each cloud (is_named cloud has)).faults
                  (subst (λ (n : ℕ). Rose (clouds mid.shelf.now cloud).faults n) (news cloud has) rose),
            )
        never_none tries after unlost news read (inr (cloud, has, inr lost)) = unlost cloud lost

        never_came : (e : RestoreErr) → NoneCame (telling clouds) talk wanted mid new was e → ⊥
        never_came e came =
            let these = among chosen in
            let went = came.alone these (λ cloud. true) (λ cloud has. refl) (peers lists) (λ cloud yes one. stand_one cloud (has_among chosen cloud one)) in
            let told : TellsAll (only_of these (telling clouds)) mid chosen = λ cloud has.
            both_true (these cloud) ((telling clouds).told mid cloud) (among_has chosen cloud has) (told_on cloud (are cloud has).told) in
            never_none came.tries went.0 (none_lost (telling clouds) talk wanted was mid new came.tries came.refused lossless)
            (λ cloud has. (went.1 cloud refl (among_has chosen cloud has)).faults) went.2
            (of_all (λ (x : List ℕ). TellsAll (only_of these (telling clouds)) mid x → AnyNone wanted came.tries (peers lists) went.0 x) (subsets shape.k named) chosen went.3.none in_order told)

        never_refused : (e : RestoreErr) (why : Refusal) → refusal_of e ≡ Some why → NoneBy (telling clouds) talk wanted mid new was e → ⊥
        never_refused e why is by =
            none_by (telling clouds) talk wanted was mid new (λ x. refusal_of x ≡ Some why → ⊥) (λ want. (let never : None ≡ Some why = want in cc)) (λ x came same. never_came x came) e by is

      pub given_anyway : GivesAnyway around shape user (tag, version) named (IsReadRefused result)
      given_anyway rooms lists chosen bytes in_order are given free refused =
          never_refused rooms lists chosen bytes in_order are given free refused.0 refused.1 refused.3
          (subst (λ (r : Result (Unit {0}) RestoreErr). AnyEnds (telling clouds) talk wanted mid new was file r) refused.2 restored)

  -- the images of all, and the clouds that weren't named
  pub kept_on : OneHeader → ((cloud : ℕ) (p : Peer) → cloud < mid.servers.shape.n → IsTrue (clouds mid.shelf.now cloud).told → StandsAt clouds mid cloud p
      → ImagesSince (clouds mid.shelf.now cloud) (clouds new.shelf.now cloud) (header_at mid.servers cloud) (MaySettleAs p))
      → ((cloud : ℕ) → ¬ Contains named cloud → clouds new.shelf.now cloud ≡ clouds mid.shelf.now cloud) → All (λ cloud. cloud < shape.n) named
      → ((cloud : ℕ) → IsTrue (clouds old.shelf.now cloud).told → IsImage (clouds old.shelf.now cloud).now (reads (clouds old.shelf.now cloud).now))
      → KeepsDisks old.servers.shape named (clouds old.shelf.now) (clouds mid.shelf.now) → KeepsDisks shape named (clouds old.shelf.now) (clouds new.shelf.now)
  kept_on one_header read_images read_others within reads_image kept = subst (λ (s : Shape). KeepsDisks s named (clouds old.shelf.now) (clouds new.shelf.now)) same (record {
    chosen = λ cloud rooms lists has told small images.
        let header = header_of old.servers.shape rooms cloud in
        let read = images (reads (clouds old.shelf.now cloud).now) (reads_image cloud told) in
        let may = MaySettleAs (settled_with read.0 (clouds mid.shelf.now cloud)) in
        let stands = (opened.each cloud has).loaded told rooms read.0 read.2 (small read.0 read.1) in
        joined (clouds old.shelf.now cloud) (clouds mid.shelf.now cloud) (clouds new.shelf.now cloud) (StandsForSome header (Contains lists))
        (kept.chosen cloud rooms lists has told small images)
        (weaker (clouds mid.shelf.now cloud) (clouds new.shelf.now cloud) (StandsForSome header may) (StandsForSome header (Contains lists))
        (subst (λ (h : Header). ImagesSince (clouds mid.shelf.now cloud) (clouds new.shelf.now cloud) h may) (header_mid cloud has told rooms read.0 read.2)
        (read_images cloud (settled_with read.0 (clouds mid.shelf.now cloud))
        (subst (λ (s : Shape). cloud < s.n) (sym shape_mid) (of_one (λ x. x < shape.n) named cloud within has)) (told_on cloud told) stands))
        (λ image x. (x.0, subst (Contains lists) (sym (only_list read.0 (clouds mid.shelf.now cloud) x.0 x.1)) read.1, x.2)));
    others = λ cloud not. read_others cloud not ∙ kept.others cloud not;
  })
    where
      header_mid : (cloud : ℕ) → Contains named cloud → IsTrue (clouds old.shelf.now cloud).told → (rooms : UserRooms) (list : List Command)
          → StandsFor (reads (clouds old.shelf.now cloud).now) (header_of old.servers.shape rooms cloud) list
          → header_at mid.servers cloud ≡ header_of old.servers.shape rooms cloud
      header_mid cloud has told rooms list stands =
          let is = opened.each cloud has in
          ap (λ (s : Shape). header_of s (rooms_at mid.servers cloud) cloud) opened.shape
          ∙ ap (λ (r : UserRooms). header_of old.servers.shape r cloud)
          (rooms_one one_header (reads (clouds old.shelf.now cloud).now) (header_of old.servers.shape rooms cloud) list (rooms_at mid.servers cloud) stands
          (is.opened told).2.begun (is.rooms told))
