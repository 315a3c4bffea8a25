-- What refusals say stands while other clouds are asked.
use Rattle.std.proofs.Common.{◌≡◌, ℕ, ◌<◌, ◌⊎◌, Bool, true, false, length, List, [], ◌∷◌, ◌++◌, Some, None, Result, Err, refl, sym, ◌∙◌, subst, inl, inr}
use Rattle.std.specs.Prelude.{IsTrue}
use Rattle.std.specs.List.{Contains}
use Rattle.transcript.specs.CdBase.ids.CloudNo.{CloudNo}
use Rattle.std.proofs.lemmas.Bool.{cases_eq}
use Rattle.restore_job.specs.UserDedup.command.Command.{Command}
use Rattle.restore_job.specs.UserDedup.Exec.{Peer, KeepsPeer, Settles, MaySettleAs}
use Rattle.restore_job.specs.UserDedup.Link.{LinkTelling}
use Rattle.restore_job.specs.Asking.{MayRead, Reads, AreOnlyAsked, StoppedAt, TellsAll, among}
use Rattle.restore_job.specs.Reading.{Ends, Restores}
use Rattle.restore_job.specs.Refusals.{Shown, ShownAmong}
use Rattle.restore_job.specs.Restored
use Rattle.restore_job.specs.Restored.{Unrestored, recipe_in, given_by, wrong_string}
use Rattle.restore_job.specs.declared.error.RestoreErr.{RestoreErr}
use Rattle.restore_job.specs.declared.error.RestoreErr.TheVariants as errors
use Rattle.restore_job.proofs.Leading.{and_both, rose_on, rose_off, settled_same, may_on, settle_along, no_pending}
use Rattle.subset_restore.specs.Ends.{Sought, outcome_of, IsNone}
use Rattle.subset_restore.specs.Going.{AreSettled, TryTold}
use Rattle.subset_restore.specs.Tries.{Try, refuser}
use Rattle.subset_restore.proofs.Elements.{contains_last}
use Rattle.subset_restore.proofs.Files.{same_file, same_missing, missing_lacks, lacking_refuses, length_is_wrong, wrong_is, wrong_refuses}

-- ---- over told clouds

abbrev lists_of : (ℕ → Peer) → ℕ → List Command
lists_of peers cloud = (peers cloud).list

settled_later : (clouds : List ℕ) (b c : ℕ → Peer) → AreSettled clouds b → ((x : ℕ) → MayRead (b x) (c x)) → AreSettled clouds c
settled_later clouds b c settled may x has = (settled_same (b x) (c x) (settled x has) (may x)).pending

lists_later : (clouds : List ℕ) (b c : ℕ → Peer) → AreSettled clouds b → ((x : ℕ) → MayRead (b x) (c x)) → (x : ℕ) → Contains clouds x → lists_of b x ≡ lists_of c x
lists_later clouds b c settled may x has = sym (settled_same (b x) (c x) (settled x has) (may x)).list

outcome_later : (s : Sought) (subset : List ℕ) (b c : ℕ → Peer) → AreSettled subset b → ((x : ℕ) → MayRead (b x) (c x)) → outcome_of s c subset ≡ outcome_of s b subset
outcome_later s subset b c settled may = sym (same_file s.shape (lists_of b) (lists_of c) s.user (s.tag, s.version) subset (lists_later subset b c settled may))

missing_later : (s : Sought) (subset front rest : List ℕ) (cloud : ℕ) (b c : ℕ → Peer) → subset ≡ front ++ cloud ∷ rest → AreSettled (front ++ cloud ∷ []) b → ((x : ℕ) → MayRead (b x) (c x))
    → outcome_of s b subset ≡ Err (Restored.Missing cloud) → outcome_of s c subset ≡ Err (Restored.Missing cloud)
missing_later s subset front rest cloud b c split settled may e =
    subst (λ (l : List ℕ). outcome_of s c l ≡ Err (Restored.Missing cloud)) (sym split)
    (same_missing s.shape (lists_of b) (lists_of c) s.user (s.tag, s.version) front rest cloud (lists_later (front ++ cloud ∷ []) b c settled may)
    (subst (λ (l : List ℕ). outcome_of s b l ≡ Err (Restored.Missing cloud)) split e))

-- a refusal stands while clouds are read
pub told_later : (s : Sought) (subset : List ℕ) (e : RestoreErr) (bytes : List ℕ) (a b c : ℕ → Peer) → TryTold s subset e bytes a b → ((x : ℕ) → MayRead (b x) (c x)) → TryTold s subset e bytes a c
told_later s subset (errors.Missing n) bytes a b c told may = record {
  ends = missing_later s subset told.rested.0 told.rested.1 n.0 b c told.rested.2 told.rested.3 may told.ends;
  rested = (told.rested.0, told.rested.1, told.rested.2, settled_later (told.rested.0 ++ n.0 ∷ []) b c told.rested.3 may);
}
told_later s subset (errors.Lost n) bytes a b c told may = record { ends = told.ends; rested = tt }
told_later s subset (errors.CloudFault n) bytes a b c told may =
    record { ends = (told.ends.0, rose_off (a n.0).faults (b n.0).faults (c n.0).faults told.ends.1 (may n.0).1.faults); rested = tt }
told_later s subset (errors.CloudDamaged n at byte) bytes a b c told may = absurd told.ends
told_later s subset (errors.CloudRotten n named found) bytes a b c told may = absurd told.ends
told_later s subset (errors.CloudNoMemory n) bytes a b c told may = absurd told.ends
told_later s subset (errors.Strange n kind) bytes a b c told may = absurd told.ends
told_later s subset (errors.RecipesDiffer x y place) bytes a b c told may =
    record { ends = outcome_later s subset b c told.rested may ∙ told.ends; rested = settled_later subset b c told.rested may }
told_later s subset (errors.ShareLength n secret found wanted) bytes a b c told may =
    record { ends = outcome_later s subset b c told.rested may ∙ told.ends; rested = settled_later subset b c told.rested may }
told_later s subset (errors.BadShare n secret named found) bytes a b c told may = absurd told.ends
told_later s subset (errors.BadSecret secret named found) bytes a b c told may =
    record { ends = outcome_later s subset b c told.rested may ∙ told.ends; rested = settled_later subset b c told.rested may }
told_later s subset (errors.BadPad secret at byte) bytes a b c told may =
    record { ends = outcome_later s subset b c told.rested may ∙ told.ends; rested = settled_later subset b c told.rested may }
told_later s subset errors.NoMemory bytes a b c told may = record { ends = tt; rested = tt }

stopped_settled : (cloud : ℕ) (subset : List ℕ) (b c : ℕ → Peer) (stop : StoppedAt cloud Reads subset b c) → AreSettled (stop.front ++ cloud ∷ []) c
stopped_settled cloud subset b c stop x has = elim (contains_last stop.front cloud x has) [
  | inl front ↦ elim (cases_eq x cloud) [
    | inl same ↦ subst (λ (y : ℕ). (c y).pending ≡ None) (sym same) stop.stops.0.pending
    | inr other ↦ (stop.read x front other).0.pending
  ]
  | inr same ↦ subst (λ (y : ℕ). (c y).pending ≡ None) same stop.stops.0.pending
]

-- a restore's refusal, from whatever the clouds stood for before
pub told_first : (s : Sought) (subset : List ℕ) (e : RestoreErr) (bytes : List ℕ) (a b c : ℕ → Peer) → ((x : ℕ) → MayRead (a x) (b x))
    → Restores s.shape s.user (s.tag, s.version) subset (Err e) bytes bytes b c → TryTold s subset e bytes a c
told_first s subset (errors.Missing n) bytes a b c may r = record { ends = r.ends; rested = (r.read.front, r.read.rest, r.read.split, stopped_settled n.0 subset b c r.read) }
told_first s subset (errors.Lost n) bytes a b c may r = record { ends = r.ends; rested = tt }
told_first s subset (errors.CloudFault n) bytes a b c may r =
    record { ends = (r.ends.0, rose_on (a n.0).faults (b n.0).faults (c n.0).faults (may n.0).1.faults r.ends.1); rested = tt }
told_first s subset (errors.CloudDamaged n at byte) bytes a b c may r = absurd r.ends
told_first s subset (errors.CloudRotten n named found) bytes a b c may r = absurd r.ends
told_first s subset (errors.CloudNoMemory n) bytes a b c may r = absurd r.ends
told_first s subset (errors.Strange n kind) bytes a b c may r = absurd r.ends
told_first s subset (errors.RecipesDiffer x y place) bytes a b c may r = record { ends = r.ends; rested = λ z has. (r.read z has).0.pending }
told_first s subset (errors.ShareLength n secret found wanted) bytes a b c may r = record { ends = r.ends; rested = λ z has. (r.read z has).0.pending }
told_first s subset (errors.BadShare n secret named found) bytes a b c may r = absurd r.ends
told_first s subset (errors.BadSecret secret named found) bytes a b c may r = record { ends = r.ends; rested = λ z has. (r.read z has).0.pending }
told_first s subset (errors.BadPad secret at byte) bytes a b c may r = record { ends = r.ends; rested = λ z has. (r.read z has).0.pending }
told_first s subset errors.NoMemory bytes a b c may r = record { ends = tt; rested = tt }

-- maybe read, and then read
pub may_reads : (a b c : Peer) → MayRead a b → Reads b c → Reads a c
may_reads a b c one two = (go one.0, (may_on a b c one (inr two.0, two.1)).1)
  where
    go : KeepsPeer a b ⊎ Settles a b → Settles a c
    go (inl stays) = record { list = settle_along a b c.list stays two.0.list; pending = two.0.pending }
    go (inr settles) = record { list = subst (MaySettleAs a) (sym (no_pending b c.list settles.pending two.0.list)) settles.list; pending = two.0.pending }

-- ---- told or not

-- what a refusal says stands while the cloud that refused isn't asked
pub caused_later : {L : Type 0} (t : LinkTelling L) (link : L) (s : Sought) (subset : List ℕ) (e : RestoreErr) (a b c : ℕ → Peer) → Shown t link s.shape s.user (s.tag, s.version) e a b
    → AreOnlyAsked subset b c → ((cloud : ℕ) → refuser e ≡ Some cloud → Contains subset cloud → ⊥) → Shown t link s.shape s.user (s.tag, s.version) e a c
caused_later t link s subset (errors.Missing n) a b c caused only free =
    λ told. subst (λ (p : Peer). recipe_in s.shape p.list s.user (s.tag, s.version) ≡ None) (sym (only.others n.0 (free n.0 refl))) (caused told)
caused_later t link s subset (errors.Lost n) a b c caused only free = tt
caused_later t link s subset (errors.CloudFault n) a b c caused only free = rose_off (a n.0).faults (b n.0).faults (c n.0).faults caused (only.read n.0).1.faults
caused_later t link s subset (errors.CloudDamaged n at byte) a b c caused only free = caused
caused_later t link s subset (errors.CloudRotten n named found) a b c caused only free = caused
caused_later t link s subset (errors.CloudNoMemory n) a b c caused only free = caused
caused_later t link s subset (errors.Strange n kind) a b c caused only free = caused
caused_later t link s subset (errors.RecipesDiffer x y place) a b c caused only free = tt
caused_later t link s subset (errors.ShareLength n secret found wanted) a b c caused only free =
    λ told. subst (λ (p : Peer). let given = given_by s.shape (λ x. p.list) s.user (s.tag, s.version) n.0 in
    (secret < length given.recipe.items) × (wrong_string s.shape given.recipe.items given secret ≡ Some (Restored.ShareLength n.0 secret found wanted)))
    (sym (only.others n.0 (free n.0 refl))) (caused told)
caused_later t link s subset (errors.BadShare n secret named found) a b c caused only free = caused
caused_later t link s subset (errors.BadSecret secret named found) a b c caused only free = tt
caused_later t link s subset (errors.BadPad secret at byte) a b c caused only free = tt
caused_later t link s subset errors.NoMemory a b c caused only free = tt

-- ---- choices from which nothing comes

some_cloud : (a b : ℕ) → Some a ≡ Some b → a ≡ b
some_cloud a b e = cc

none_cloud : (b : ℕ) → None ≡ Some b → ⊥
none_cloud b e = cc

-- one that was tried
pub tried_none : (s : Sought) (tries : List Try) (x : Try) (e : RestoreErr) (bytes : List ℕ) (a c : ℕ → Peer) → Contains tries x → x.refusal ≡ e → (e ≡ errors.NoMemory → ⊥)
    → TryTold s x.subset e bytes a c → IsNone s tries a c x.subset
tried_none s tries x (errors.Missing n) bytes a c has is plain told = inl (Restored.Missing n.0, told.ends)
tried_none s tries x (errors.Lost n) bytes a c has is plain told = inr (n.0, told.ends, inr (x, has, is))
tried_none s tries x (errors.CloudFault n) bytes a c has is plain told = inr (n.0, told.ends.0, inl told.ends.1)
tried_none s tries x (errors.CloudDamaged n at byte) bytes a c has is plain told = absurd told.ends
tried_none s tries x (errors.CloudRotten n named found) bytes a c has is plain told = absurd told.ends
tried_none s tries x (errors.CloudNoMemory n) bytes a c has is plain told = absurd told.ends
tried_none s tries x (errors.Strange n kind) bytes a c has is plain told = absurd told.ends
tried_none s tries x (errors.RecipesDiffer y z place) bytes a c has is plain told = inl (_, told.ends)
tried_none s tries x (errors.ShareLength n secret found wanted) bytes a c has is plain told = inl (_, told.ends)
tried_none s tries x (errors.BadShare n secret named found) bytes a c has is plain told = absurd told.ends
tried_none s tries x (errors.BadSecret secret named found) bytes a c has is plain told = inl (_, told.ends)
tried_none s tries x (errors.BadPad secret at byte) bytes a c has is plain told = inl (_, told.ends)
tried_none s tries x errors.NoMemory bytes a c has is plain told = absurd (plain refl)

-- one with a cloud that refused
pub held_none : (s : Sought) (tries : List Try) (x : Try) (e : RestoreErr) (bytes : List ℕ) (a c : ℕ → Peer) (subset : List ℕ) (cloud : ℕ) → Contains tries x → x.refusal ≡ e → TryTold s x.subset e bytes a c
    → refuser e ≡ Some cloud → Contains subset cloud → IsNone s tries a c subset
held_none s tries x (errors.Missing n) bytes a c subset cloud has is told refused holds =
    let here : Contains subset n.0 = subst (λ (y : ℕ). Contains subset y) (sym (some_cloud n.0 cloud refused)) holds in
    inl (lacking_refuses s.shape (lists_of c) s.user (s.tag, s.version) subset n.0 here (missing_lacks s.shape (lists_of c) s.user (s.tag, s.version) x.subset n.0 told.ends))
held_none s tries x (errors.Lost n) bytes a c subset cloud has is told refused holds =
    inr (n.0, subst (λ (y : ℕ). Contains subset y) (sym (some_cloud n.0 cloud refused)) holds, inr (x, has, is))
held_none s tries x (errors.CloudFault n) bytes a c subset cloud has is told refused holds =
    inr (n.0, subst (λ (y : ℕ). Contains subset y) (sym (some_cloud n.0 cloud refused)) holds, inl told.ends.1)
held_none s tries x (errors.CloudDamaged n at byte) bytes a c subset cloud has is told refused holds = absurd told.ends
held_none s tries x (errors.CloudRotten n named found) bytes a c subset cloud has is told refused holds = absurd told.ends
held_none s tries x (errors.CloudNoMemory n) bytes a c subset cloud has is told refused holds = absurd told.ends
held_none s tries x (errors.Strange n kind) bytes a c subset cloud has is told refused holds = absurd told.ends
held_none s tries x (errors.RecipesDiffer y z place) bytes a c subset cloud has is told refused holds = absurd (none_cloud cloud refused)
held_none s tries x (errors.ShareLength n secret found wanted) bytes a c subset cloud has is told refused holds =
    let here : Contains subset n.0 = subst (λ (y : ℕ). Contains subset y) (sym (some_cloud n.0 cloud refused)) holds in
    inl (wrong_refuses s.shape (lists_of c) s.user (s.tag, s.version) subset n.0 here (length_is_wrong s.shape (lists_of c) s.user (s.tag, s.version) x.subset n.0 secret found wanted told.ends))
held_none s tries x (errors.BadShare n secret named found) bytes a c subset cloud has is told refused holds = absurd told.ends
held_none s tries x (errors.BadSecret secret named found) bytes a c subset cloud has is told refused holds = absurd (none_cloud cloud refused)
held_none s tries x (errors.BadPad secret at byte) bytes a c subset cloud has is told refused holds = absurd (none_cloud cloud refused)
held_none s tries x errors.NoMemory bytes a c subset cloud has is told refused holds = absurd (none_cloud cloud refused)

never_told : (b : Bool) → b ≡ false → IsTrue b → ⊥
never_told b one other = (let f : false ≡ true = sym one ∙ other in cc)

-- one of told clouds alone, with a cloud that refused
pub held_alone : {L : Type 0} (t : LinkTelling L) (link : L) (s : Sought) (tries : List Try) (these : ℕ → Bool) (x : Try) (e : RestoreErr) (a c : ℕ → Peer) (subset : List ℕ) (cloud : ℕ) → Contains tries x → x.refusal ≡ e
    → ShownAmong t link s.shape s.user (s.tag, s.version) these e a c → TellsAll (among these t) link subset → refuser e ≡ Some cloud → Contains subset cloud → IsNone s tries a c subset
held_alone {L} t link s tries these x e a c subset cloud has is shown tells refused holds = go e is shown refused
  where
    here : (n : CloudNo) → Some n.0 ≡ Some cloud → Contains subset n.0
    here n same = subst (λ (y : ℕ). Contains subset y) (sym (some_cloud n.0 cloud same)) holds

    told : (n : CloudNo) → Some n.0 ≡ Some cloud → IsTrue (these n.0) × IsTrue (t.told link n.0)
    told n same = and_both (these n.0) (t.told link n.0) (tells n.0 (here n same))

    never : (n : CloudNo) → Some n.0 ≡ Some cloud → (IsTrue (these n.0) → t.told link n.0 ≡ false) → ⊥
    never n same said = never_told (t.told link n.0) (said (told n same).0) (told n same).1

    go : (e : RestoreErr) → x.refusal ≡ e → ShownAmong t link s.shape s.user (s.tag, s.version) these e a c → refuser e ≡ Some cloud → IsNone s tries a c subset
    go (errors.Missing n) is shown refused =
        inl (lacking_refuses s.shape (lists_of c) s.user (s.tag, s.version) subset n.0 (here n refused) (shown (told n refused).0 (told n refused).1))
    go (errors.Lost n) is shown refused = inr (n.0, here n refused, inr (x, has, is))
    go (errors.CloudFault n) is shown refused = inr (n.0, here n refused, inl (shown (told n refused).0))
    go (errors.CloudDamaged n at byte) is shown refused = absurd (never n refused shown)
    go (errors.CloudRotten n named found) is shown refused = absurd (never n refused shown)
    go (errors.CloudNoMemory n) is shown refused = absurd (never n refused shown)
    go (errors.Strange n kind) is shown refused = absurd (never n refused shown)
    go (errors.RecipesDiffer y z place) is shown refused = absurd (none_cloud cloud refused)
    go (errors.ShareLength n secret found wanted) is shown refused =
        let wrong = shown (told n refused).0 (told n refused).1 in
        inl (wrong_refuses s.shape (lists_of c) s.user (s.tag, s.version) subset n.0 (here n refused)
        (wrong_is s.shape (given_by s.shape (lists_of c) s.user (s.tag, s.version) n.0) secret (Restored.ShareLength n.0 secret found wanted) wrong.0 wrong.1))
    go (errors.BadShare n secret named found) is shown refused = absurd (never n refused shown)
    go (errors.BadSecret secret named found) is shown refused = absurd (none_cloud cloud refused)
    go (errors.BadPad secret at byte) is shown refused = absurd (none_cloud cloud refused)
    go errors.NoMemory is shown refused = absurd (none_cloud cloud refused)

-- the refusal of a choice is one of all clouds
pub ends_among : (outcome other : Result (List ℕ) Unrestored) (subset clouds : List ℕ) (e : RestoreErr) (bytes : List ℕ) (a c : ℕ → Peer) → other ≡ outcome → ((x : ℕ) → Contains subset x → Contains clouds x)
    → Ends outcome subset (Err e) bytes bytes a c → Ends other clouds (Err e) bytes bytes a c
ends_among outcome other subset clouds (errors.Missing n) bytes a c same among ends = same ∙ ends
ends_among outcome other subset clouds (errors.Lost n) bytes a c same among ends = among n.0 ends
ends_among outcome other subset clouds (errors.CloudFault n) bytes a c same among ends = (among n.0 ends.0, ends.1)
ends_among outcome other subset clouds (errors.CloudDamaged n at byte) bytes a c same among ends = absurd ends
ends_among outcome other subset clouds (errors.CloudRotten n named found) bytes a c same among ends = absurd ends
ends_among outcome other subset clouds (errors.CloudNoMemory n) bytes a c same among ends = absurd ends
ends_among outcome other subset clouds (errors.Strange n kind) bytes a c same among ends = absurd ends
ends_among outcome other subset clouds (errors.RecipesDiffer x y place) bytes a c same among ends = same ∙ ends
ends_among outcome other subset clouds (errors.ShareLength n secret found wanted) bytes a c same among ends = same ∙ ends
ends_among outcome other subset clouds (errors.BadShare n secret named found) bytes a c same among ends = absurd ends
ends_among outcome other subset clouds (errors.BadSecret secret named found) bytes a c same among ends = same ∙ ends
ends_among outcome other subset clouds (errors.BadPad secret at byte) bytes a c same among ends = same ∙ ends
ends_among outcome other subset clouds errors.NoMemory bytes a c same among ends = tt
