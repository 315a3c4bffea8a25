-- What a rebuild brings and skips is what it promises.
use Rattle.std.proofs.Common.{◌≡◌, ℕ, List, [], ◌∷◌, ◌++◌, length, map, Option, Some, None, Result, Ok, Err, refl, sym, ap, ◌∙◌, subst, inl, inr, ◌⊎◌, arith}
use Rattle.std.specs.Prelude.{option_map, MatchOption}
use Rattle.std.specs.List.{Contains}
use Rattle.std.proofs.lemmas.List.Elements.{Contains-append_left, Contains-push, Contains-push_cases}
use Rattle.lane_steps.specs.CdBase.ids.Tag.{Tag}
use Rattle.lane_steps.specs.CdBase.ids.UserId.{UserId}
use Rattle.lane_steps.specs.CdBase.ids.Version.{Version}
use Rattle.lane_steps.specs.CdBase.shape.Shape.{Shape}
use Rattle.kept_files.specs.ReedSolomon.Dispersal.{AreChoice}
use Rattle.lane_steps.specs.Messages.reply.Reply.{Reply}
use Rattle.lane_steps.specs.Messages.reply.Reply.TheVariants as replies
use Rattle.lane_steps.specs.UserDedup.command.Command.{Command}
use Rattle.lane_steps.specs.UserDedup.file_list.FileEntry.{FileEntry}
use Rattle.lane_steps.specs.UserDedup.Cloud.{user_view}
use Rattle.lane_steps.specs.UserDedup.Pages.{entry_at, sorted_keys, key_of as key_of_entry}
use Rattle.lane_steps.specs.UserDedup.Dedup.{FullRoom}
use Rattle.lane_steps.specs.UserDedup.Exec.{Peer, served}
use Rattle.lane_steps.proofs.UserDedup.Owned.{contains_here, contains_later, contains_nothing, contains_cases}
use Rattle.lane_steps.proofs.UserDedup.Sound.{found_entry}
use Rattle.lane_steps.proofs.UserDedup.Pages.{sorted_has}
use Rattle.kept_files.specs.Kept.{key_of, Keeps}
use Rattle.lane_steps.specs.UploadJob.Upload.{FileVersion, work_of}
use Rattle.lane_steps.specs.UploadJob.Lane.{LaneState, Asking, Sending, Committing, Done, Refused}
use Rattle.rebuild.specs.declared.error.SkipWhy.{SkipWhy}
use Rattle.rebuild.specs.declared.error.SkipWhy.TheVariants as whys
use Rattle.rebuild.specs.declared.skips.Skip.{Skip}
use Rattle.rebuild.specs.declared.skips.Rebuilt.{Rebuilt}
use Rattle.rebuild.specs.Found.{Finding, finding_under, findings, first_of, keys_in, version_under}
use Rattle.lane_steps.specs.Runs.{LaneTurn, Progress}
use Rattle.rebuild.specs.Rebuilding.{Progressed, nothing_yet, lane_ended, BringsOne, BringsAll, Rebuilds}
use Rattle.rebuild.specs.Kept.{HasVersion, HasAnother, RefillsKept, SkipCaused, SkipsCaused}
use Rattle.rebuild.proofs.Finding.{kept_is_found}
use Rattle.rebuild.proofs.Lanes.{IsQuiet, Later, later_same, later_then, has_later, other_later, run_later, run_exists, lane_done}

abbrev pub skip_for : Tag × Version → SkipWhy → Skip
skip_for key why = record { tag = key.0; version = key.1; why = why }

-- a lane that didn't stop the rebuild was brought to its end, or found another version
ended_by : (key : Tag × Version) (lane : LaneState) (said : Reply) (r : Progressed) → (lane_ended key lane said r).stop ≡ None
    → ((lane ≡ Done) × ((lane_ended key lane said r).skips ≡ r.skips)) ⊎ ((said ≡ replies.Exists) × ((lane_ended key lane said r).skips ≡ r.skips ++ skip_for key whys.TargetExists ∷ []))
ended_by key (Asking batch rest) said r e = absurd cc
ended_by key (Sending batch flags rest) said r e = absurd cc
ended_by key Committing said r e = absurd cc
ended_by key Done said r e = inl (refl, refl)
ended_by key Refused (replies.Hello n k cloud format) r e = absurd cc
ended_by key Refused (replies.Known flags) r e = absurd cc
ended_by key Refused (replies.Stored new) r e = absurd cc
ended_by key Refused replies.Committed r e = absurd cc
ended_by key Refused replies.Exists r e = inr (refl, refl)
ended_by key Refused (replies.Lacking place) r e = absurd cc
ended_by key Refused (replies.Recipe bytes) r e = absurd cc
ended_by key Refused replies.Missing r e = absurd cc
ended_by key Refused (replies.Shares shares) r e = absurd cc
ended_by key Refused (replies.NotYours place) r e = absurd cc
ended_by key Refused (replies.Entries entries) r e = absurd cc
ended_by key Refused replies.Deleted r e = absurd cc
ended_by key Refused (replies.Full room used need limit) r e = absurd cc
ended_by key Refused replies.Fault r e = absurd cc
ended_by key Refused (replies.Damaged at byte) r e = absurd cc
ended_by key Refused (replies.Rotten named found) r e = absurd cc
ended_by key Refused (replies.Malformed at) r e = absurd cc
ended_by key Refused replies.NoMemory r e = absurd cc

module _ (shape : Shape) (target : ℕ) (full : List Command → Command → Option FullRoom) where
  -- what became of a finding
  abbrev pub Became : Tag × Version → Result FileVersion SkipWhy → List Skip → List Command → Type 0
  Became key (Ok v) skips list = HasVersion shape target list v ⊎ (HasAnother shape target list v × Contains skips (skip_for key whys.TargetExists))
  Became key (Err why) skips list = Contains skips (skip_for key why)

  -- a skip comes of a finding
  abbrev pub Comes : Tag × Version → Result FileVersion SkipWhy → Skip → List Command → Type 0
  Comes key (Ok v) skip list = (skip ≡ skip_for key whys.TargetExists) × HasAnother shape target list v
  Comes key (Err why) skip list = skip ≡ skip_for key why

  -- where a version was found
  abbrev WhereOk : Result FileVersion SkipWhy → Type 0 → Type 0
  WhereOk (Ok v) Fact = Fact
  WhereOk (Err why) Fact = Unit {0}

  became_later : (key : Tag × Version) (found : Result FileVersion SkipWhy) (a b : List Skip) (old new : Peer) → ((skip : Skip) → Contains a skip → Contains b skip) → WhereOk found (IsQuiet old) → Later old new
      → Became key found a old.list → Became key found b new.list
  became_later key (Ok v) a b old new more quiet later h =
      let grew = (later quiet).0 in
      elim h [
        | inl has ↦ inl (has_later shape old.list new.list v.user (key_of shape v.path v.number) _ grew has)
        | inr other ↦ inr (other_later shape old.list new.list v.user (key_of shape v.path v.number) _ grew other.0, more (skip_for key whys.TargetExists) other.1)
      ]
  became_later key (Err why) a b old new more quiet later h = more (skip_for key why) h

  comes_later : (key : Tag × Version) (found : Result FileVersion SkipWhy) (skip : Skip) (old new : Peer) → WhereOk found (IsQuiet old) → Later old new → Comes key found skip old.list → Comes key found skip new.list
  comes_later key (Ok v) skip old new quiet later h = (h.0, other_later shape old.list new.list v.user (key_of shape v.path v.number) _ (later quiet).0 h.1)
  comes_later key (Err why) skip old new quiet later h = h

  -- One finding. Behind a version that was found nothing that is pending is a Delete.
  record Brought (key : Tag × Version) (found : Result FileVersion SkipWhy) (before after : List Skip) (old new : Peer) : Type 0 where
    later : Later old new
    quiet : WhereOk found (IsQuiet new)
    kept : (skip : Skip) → Contains before skip → Contains after skip
    became : Became key found after new.list
    only : (skip : Skip) → Contains after skip → Contains before skip ⊎ Comes key found skip new.list

  skipped_more : (before after : List Skip) (one : Skip) → after ≡ before ++ one ∷ [] → (skip : Skip) → Contains before skip → Contains after skip
  skipped_more before after one e skip h = subst (λ (l : List Skip). Contains l skip) (sym e) (Contains-append_left before (one ∷ []) skip h)

  skipped_here : (before after : List Skip) (one : Skip) → after ≡ before ++ one ∷ [] → Contains after one
  skipped_here before after one e = subst (λ (l : List Skip). Contains l one) (sym e) (Contains-push before one)

  skipped_only : (before after : List Skip) (one : Skip) → after ≡ before ++ one ∷ [] → (skip : Skip) → Contains after skip → Contains before skip ⊎ (skip ≡ one)
  skipped_only before after one e skip h =
      elim (Contains-push_cases before one skip (subst (λ (l : List Skip). Contains l skip) e h)) [
        | inl old ↦ inl old
        | inr same ↦ inr (sym same)
      ]

  by_lane : (key : Tag × Version) (v : FileVersion) (last : Progress) (said : Reply) (r next : Progressed) (old mid : Peer)
      → next ≡ lane_ended key last.lane.state said r → next.stop ≡ None → Later old mid
      → (last.lane.state ≡ Done → HasVersion shape target mid.list v × IsQuiet mid) → (said ≡ replies.Exists → HasAnother shape target mid.list v × IsQuiet mid)
      → Brought key (Ok v) r.skips next.skips old mid
  by_lane key v last said r next old mid is goes later done other =
      let skips : next.skips ≡ (lane_ended key last.lane.state said r).skips = ap (λ (p : Progressed). p.skips) is in
      elim (ended_by key last.lane.state said r (sym (ap (λ (p : Progressed). p.stop) is) ∙ goes)) [
        | inl d ↦
            let same : next.skips ≡ r.skips = skips ∙ d.1 in
            record {
              later = later;
              quiet = (done d.0).1;
              kept = λ skip h. subst (λ (l : List Skip). Contains l skip) (sym same) h;
              became = inl (done d.0).0;
              only = λ skip h. inl (subst (λ (l : List Skip). Contains l skip) same h);
            }
        | inr x ↦
            let one : Skip = skip_for key whys.TargetExists in
            let more : next.skips ≡ r.skips ++ one ∷ [] = skips ∙ x.1 in
            record {
              later = later;
              quiet = (other x.0).1;
              kept = skipped_more r.skips next.skips one more;
              became = inr ((other x.0).0, skipped_here r.skips next.skips one more);
              only = λ skip h. elim (skipped_only r.skips next.skips one more skip h) [
                | inl was ↦ inl was
                | inr same ↦ inr (same, (other x.0).0)
              ];
            }
      ]

  brought_one : (key : Tag × Version) (found : Result FileVersion SkipWhy) (r next : Progressed) (old mid : Peer) (turns : List (LaneTurn Peer))
      → BringsOne shape target (served shape target full) key found r old turns next mid → next.stop ≡ None → Brought key found r.skips next.skips old mid
  brought_one key (Err why) r next old mid turns b goes =
      let one : Skip = skip_for key why in
      let more : next.skips ≡ r.skips ++ one ∷ [] = ap (λ (p : Progressed). p.skips) b.0 in
      record {
        later = later_same old mid b.2;
        quiet = tt;
        kept = skipped_more r.skips next.skips one more;
        became = skipped_here r.skips next.skips one more;
        only = skipped_only r.skips next.skips one more;
      }
  brought_one key (Ok v) r next old mid turns b goes =
      by_lane key v b.0 b.1 r next old mid b.4 goes
      (run_later shape target full _ b.0 old mid turns b.2)
      (lane_done shape target full (work_of shape v target) b.0 old mid turns b.2)
      (λ exists. run_exists shape target full _ b.0 old mid turns b.2 (b.3 ∙ ap (λ (x : Reply). Some x) exists))

  -- all of some findings
  pub record AllBrought (fs : List Finding) (before after : List Skip) (old new : Peer) : Type 0 where
    pub later : Later old new
    pub kept : (skip : Skip) → Contains before skip → Contains after skip
    pub each : (f : Finding) → Contains fs f → Became f.key f.found after new.list
    pub only : (skip : Skip) → Contains after skip → Contains before skip ⊎ ((f : Finding) × Contains fs f × Comes f.key f.found skip new.list)

  brought_then : (f : Finding) (fs : List Finding) (a b c : List Skip) (old mid new : Peer) → Brought f.key f.found a b old mid → AllBrought fs b c mid new → AllBrought (f ∷ fs) a c old new
  brought_then f fs a b c old mid new one rest = record {
    later = later_then old mid new one.later rest.later;
    kept = λ skip h. rest.kept skip (one.kept skip h);
    each = λ g h. elim (contains_cases f fs g h) [
      | inl same ↦ subst (λ (x : Finding). Became x.key x.found c new.list) same (became_later f.key f.found b c mid new rest.kept one.quiet rest.later one.became)
      | inr more ↦ rest.each g more
    ];
    only = λ skip h. elim (rest.only skip h) [
      | inl was ↦ elim (one.only skip was) [
        | inl before ↦ inl before
        | inr comes ↦ inr (f, contains_here f fs, comes_later f.key f.found skip mid new one.quiet rest.later comes)
      ]
      | inr later ↦ inr (later.0, contains_later f fs later.0 later.1, later.2)
    ];
  }

  stopped : (said : Reply) (next after : Progressed) → next.stop ≡ Some said → after ≡ next → after.stop ≡ None → ⊥
  stopped said next after e same goes = let k = sym (ap (λ (p : Progressed). p.stop) same ∙ e) ∙ goes in cc

  not_stopped : (fs : List Finding) (next after : Progressed) (mid new : Peer) (rest : List (LaneTurn Peer)) (o : Option Reply) → next.stop ≡ o → after.stop ≡ None
      → MatchOption o (BringsAll shape target (served shape target full) fs next mid rest after new) (λ said. (rest ≡ []) × (after ≡ next) × (new ≡ mid))
      → (o ≡ None) × BringsAll shape target (served shape target full) fs next mid rest after new
  not_stopped fs next after mid new rest None e goes m = (refl, m)
  not_stopped fs next after mid new rest (Some said) e goes m = absurd (stopped said next after e m.1 goes)

  pub brought_all : (fs : List Finding) (r after : Progressed) (old new : Peer) (turns : List (LaneTurn Peer)) → BringsAll shape target (served shape target full) fs r old turns after new → after.stop ≡ None
      → AllBrought fs r.skips after.skips old new
  brought_all [] r after old new turns b goes =
      let same : after.skips ≡ r.skips = ap (λ (p : Progressed). p.skips) b.0 in
      record {
        later = later_same old new b.2;
        kept = λ skip h. subst (λ (l : List Skip). Contains l skip) (sym same) h;
        each = λ f h. absurd (contains_nothing f h);
        only = λ skip h. inl (subst (λ (l : List Skip). Contains l skip) same h);
      }
  brought_all (f ∷ fs) r after old new turns b goes =
      let next : Progressed = b.0 in
      let mid : Peer = b.1 in
      let first : List (LaneTurn Peer) = b.2 in
      let rest : List (LaneTurn Peer) = b.3 in
      let m = not_stopped fs next after mid new rest next.stop refl goes b.6 in
      brought_then f fs r.skips next.skips after.skips old mid new (brought_one f.key f.found r next old mid first b.4 m.0) (brought_all fs next after mid new rest m.1 goes)

-- ---- from the keys of the first cloud

pub contains_map : {A B : Type 0} (g : A → B) (xs : List A) (x : A) → Contains xs x → Contains (map g xs) (g x)
contains_map g [] x h = absurd (contains_nothing x h)
contains_map {A} {B} g (y ∷ xs) x h =
    elim (contains_cases y xs x h) [
      | inl same ↦ subst (λ (z : A). Contains (map g (y ∷ xs)) (g z)) same (contains_here (g y) (map g xs))
      | inr later ↦ contains_later (g y) (map g xs) (g x) (contains_map g xs x later)
    ]

pub found_is : (shape : Shape) (lists : ℕ → List Command) (from : List ℕ) (user : UserId) (keys : List (Tag × Version)) (f : Finding) → Contains (map (finding_under shape lists from user) keys) f
    → f.found ≡ version_under shape lists from user f.key
found_is shape lists from user [] f h = absurd (contains_nothing f h)
found_is shape lists from user (key ∷ keys) f h =
    elim (contains_cases (finding_under shape lists from user key) (map (finding_under shape lists from user) keys) f h) [
      | inl same ↦ subst (λ (x : Finding). x.found ≡ version_under shape lists from user x.key) same refl
      | inr later ↦ found_is shape lists from user keys f later
    ]

pub some_entry : (o : Option FileEntry) (bytes : List ℕ) → option_map (λ entry. entry.recipe) o ≡ Some bytes → (entry : FileEntry) × (o ≡ Some entry)
some_entry None bytes e = absurd (let f : None ≡ Some bytes = e in cc)
some_entry (Some entry) bytes e = (entry, refl)

pub has_key : (shape : Shape) (cloud : ℕ) (list : List Command) (user : UserId) (path : List ℕ) (version : Version) (file : List ℕ) → Keeps shape cloud list user path version file
    → Contains (keys_in shape list user) (key_of shape path version)
has_key shape cloud list user path version file keeps =
    let files : List FileEntry = (user_view shape list user).files in
    let some = some_entry (entry_at files (key_of shape path version)) _ keeps.entry in
    let found = found_entry files (key_of shape path version) some.0 some.1 in
    subst (λ (k : Tag × Version). Contains (sorted_keys (map key_of_entry files)) k) found.0 (sorted_has (map key_of_entry files) (key_of_entry some.0) (contains_map key_of_entry files some.0 found.1))

pub first_in : (shape : Shape) (from : List ℕ) → length from ≡ shape.k → Contains from (first_of from)
first_in shape [] count = absurd (let a = shape.several in omega arith)
first_in shape (cloud ∷ from) count = contains_here cloud from

caused : (shape : Shape) (target : ℕ) (full : List Command → Command → Option FullRoom) (from : List ℕ) (user : UserId) (after : ℕ → Peer) (key : Tag × Version) (found : Result FileVersion SkipWhy) (skip : Skip)
    → found ≡ version_under shape (λ cloud. (after cloud).list) from user key → Comes shape target full key found skip (after target).list → SkipCaused shape target from user after skip
caused shape target full from user after key (Ok v) skip is comes = subst (λ (s : Skip). SkipCaused shape target from user after s) (sym comes.0) (inr (refl, (v, sym is, comes.1)))
caused shape target full from user after key (Err why) skip is comes = subst (λ (s : Skip). SkipCaused shape target from user after s) (sym comes) (inl (sym is))

-- what an answered rebuild over told clouds leaves
pub refills : (shape : Shape) (user : UserId) (target : ℕ) (full : List Command → Command → Option FullRoom) (from : List ℕ) (turns : List (LaneTurn Peer)) (rebuilt : Rebuilt) (before after : ℕ → Peer) → AreChoice shape from
    → Rebuilds shape user target (served shape target full) from turns (Ok rebuilt) before after
    → RefillsKept shape target from user after rebuilt × SkipsCaused shape target from user after rebuilt
refills shape user target full from turns rebuilt before after choice r = (
  λ v of_user named letters bytes few keeps.
      let key : Tag × Version = key_of shape v.path v.number in
      let first = first_in shape from choice.count in
      let here : Contains (keys_in shape (lists (first_of from)) user) key = has_key shape (first_of from) (lists (first_of from)) user v.path v.number v.file (keeps (first_of from) first) in
      let became = all.each (finding_under shape lists from user key) (contains_map (finding_under shape lists from user) (keys_in shape (lists (first_of from)) user) key here) in
      let found : version_under shape lists from user key ≡ Ok v =
      kept_is_found shape lists user v.path v.number v.file from named letters bytes few choice keeps
      ∙ ap (λ (u : UserId). version_ok (record { user = u; path = v.path; number = v.number; file = v.file })) (sym of_user) in
      subst (λ (o : Result FileVersion SkipWhy). Became shape target full key o rebuilt.skipped (after target).list) found became,
  λ skip h. elim (all.only skip h) [
    | inl none ↦ absurd (contains_nothing skip none)
    | inr c ↦ caused shape target full from user after c.0.key c.0.found skip (found_is shape lists from user (keys_in shape (lists (first_of from)) user) c.0 c.1) c.2
  ],
)
  where
    lists : ℕ → List Command
    lists cloud = (after cloud).list

    version_ok : FileVersion → Result FileVersion SkipWhy
    version_ok v = Ok v

    brought : AllBrought shape target full r.found [] r.last.skips (before target) (after target)
    brought = brought_all shape target full r.found nothing_yet r.last (before target) (after target) turns r.brings (ap (λ (p : Progressed). p.stop) r.ends.1)

    all : AllBrought shape target full (findings shape lists from user) [] rebuilt.skipped (before target) (after target)
    all =
        subst (λ (skips : List Skip). AllBrought shape target full (findings shape lists from user) [] skips (before target) (after target)) (ap (λ (p : Progressed). p.skips) r.ends.1)
        (subst (λ (fs : List Finding). AllBrought shape target full fs [] r.last.skips (before target) (after target)) r.ends.0 brought)
