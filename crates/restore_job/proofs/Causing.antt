-- What refusals say of the clouds that they name.
use Rattle.std.proofs.Common.{◌≡◌, ℕ, ◌+◌, ◌≤◌, Bool, true, false, List, [], ◌∷◌, ◌++◌, length, Option, None, Some, Result, Ok, Err, refl, sym, ap, ◌∙◌, subst, arith, inl, inr}
use Rattle.std.specs.Prelude.{IsTrue, IfErr, option_map}
use Rattle.std.specs.List.{Contains}
use Rattle.user_dedup.specs.CdBase.ids.CloudNo.{CloudNo}
use Rattle.user_dedup.specs.CdBase.ids.Tag.{Tag}
use Rattle.user_dedup.specs.CdBase.ids.UserId.{UserId}
use Rattle.user_dedup.specs.CdBase.ids.Version.{Version}
use Rattle.user_dedup.specs.CdBase.shape.Shape.{Shape}
use Rattle.user_dedup.specs.CdEdges.Causes.{Rose}
use Rattle.user_dedup.specs.Messages.reply.Reply.{Reply}
use Rattle.user_dedup.specs.Messages.reply.Reply.TheVariants as replies
use Rattle.user_dedup.specs.Recipe.items.Item.{Item}
use Rattle.user_dedup.specs.Recipe.recipe.Recipe.{Recipe}
use Rattle.user_dedup.specs.declared.command.Command.{Command}
use Rattle.user_dedup.specs.Exec.{Peer}
use Rattle.user_dedup.specs.Link.{LinkTelling}
use Rattle.user_dedup.proofs.Owned.{contains_here, contains_later, contains_cases, contains_nothing}
use Rattle.restore_job.specs.Asking.{MayRead, TellsAll, Leads, is_loss}
use Rattle.restore_job.specs.Refusals.{Names, Shown, Shows, IsWrongAt}
use Rattle.restore_job.specs.Restored
use Rattle.restore_job.specs.Restored.{recipe_in, or_else, difference, differing, wrong_strings}
use Rattle.restore_job.specs.Steps.{RecipeFrom, Refuses, Takes, Compares, RecipeTold, SharesTold, ReadyAt, ReadyWhere, RecipeShown, SharesShown, given_of}
use Rattle.restore_job.specs.declared.error.RestoreErr.{RestoreErr}
use Rattle.restore_job.specs.declared.error.RestoreErr.TheVariants as errors
use Rattle.restore_job.proofs.Leading.{rose_on, settled_same, leads_to}
use Rattle.restore_job.proofs.Wrong.{wrong_own}

-- ---- names

pub names_to : (P Q : ℕ → Type 0) (e : RestoreErr) → ((c : ℕ) → P c → Q c) → Names P e → Names Q e
names_to P Q (errors.Missing c) to n = to c.0 n
names_to P Q (errors.Lost c) to n = to c.0 n
names_to P Q (errors.CloudFault c) to n = to c.0 n
names_to P Q (errors.CloudDamaged c at byte) to n = to c.0 n
names_to P Q (errors.CloudRotten c hash found) to n = to c.0 n
names_to P Q (errors.CloudNoMemory c) to n = to c.0 n
names_to P Q (errors.Strange c kind) to n = to c.0 n
names_to P Q (errors.RecipesDiffer x y at) to n = (to x.0 n.0, to y.0 n.1)
names_to P Q (errors.ShareLength c secret found wanted) to n = to c.0 n
names_to P Q (errors.BadShare c secret hash found) to n = to c.0 n
names_to P Q (errors.BadSecret secret hash found) to n = tt
names_to P Q (errors.BadPad secret at byte) to n = tt
names_to P Q errors.NoMemory to n = tt

-- a refusal that names no cloud says nothing of any
pub caused_by_none : {L : Type 0} (t : LinkTelling L) (link : L) (shape : Shape) (user : UserId) (key : Tag × Version) (e : RestoreErr) (a b : ℕ → Peer) → Names (λ c. ⊥) e → Shown t link shape user key e a b
caused_by_none t link shape user key (errors.Missing c) a b n = absurd n
caused_by_none t link shape user key (errors.Lost c) a b n = absurd n
caused_by_none t link shape user key (errors.CloudFault c) a b n = absurd n
caused_by_none t link shape user key (errors.CloudDamaged c at byte) a b n = absurd n
caused_by_none t link shape user key (errors.CloudRotten c hash found) a b n = absurd n
caused_by_none t link shape user key (errors.CloudNoMemory c) a b n = absurd n
caused_by_none t link shape user key (errors.Strange c kind) a b n = absurd n
caused_by_none t link shape user key (errors.RecipesDiffer x y at) a b n = absurd n.0
caused_by_none t link shape user key (errors.ShareLength c secret found wanted) a b n = absurd n
caused_by_none t link shape user key (errors.BadShare c secret hash found) a b n = absurd n
caused_by_none t link shape user key (errors.BadSecret secret hash found) a b n = tt
caused_by_none t link shape user key (errors.BadPad secret at byte) a b n = tt
caused_by_none t link shape user key errors.NoMemory a b n = tt

pub recipe_names : (shape : Shape) (cloud : CloudNo) (read : Result Reply ℕ) (e : RestoreErr) → RecipeFrom shape cloud read (Err e) → Names (λ c. c ≡ cloud.0) e
recipe_names shape cloud read (errors.Missing c) from = ap (λ (x : CloudNo). x.0) from.0
recipe_names shape cloud read (errors.Lost c) from = absurd from
recipe_names shape cloud read (errors.CloudFault c) from = ap (λ (x : CloudNo). x.0) from.0
recipe_names shape cloud read (errors.CloudDamaged c at byte) from = ap (λ (x : CloudNo). x.0) from.0
recipe_names shape cloud read (errors.CloudRotten c hash found) from = ap (λ (x : CloudNo). x.0) from.0
recipe_names shape cloud read (errors.CloudNoMemory c) from = ap (λ (x : CloudNo). x.0) from.0
recipe_names shape cloud read (errors.Strange c kind) from = ap (λ (x : CloudNo). x.0) from.0
recipe_names shape cloud read (errors.RecipesDiffer x y at) from = absurd from
recipe_names shape cloud read (errors.ShareLength c secret found wanted) from = absurd from
recipe_names shape cloud read (errors.BadShare c secret hash found) from = absurd from
recipe_names shape cloud read (errors.BadSecret secret hash found) from = absurd from
recipe_names shape cloud read (errors.BadPad secret at byte) from = absurd from
recipe_names shape cloud read errors.NoMemory from = tt

pub shares_names : (cloud : CloudNo) (read : Result Reply ℕ) (Odd : Reply → Type 0) (e : RestoreErr) → Refuses cloud read Odd e → Names (λ c. c ≡ cloud.0) e
shares_names cloud read Odd (errors.Missing c) from = absurd from
shares_names cloud read Odd (errors.Lost c) from = absurd from
shares_names cloud read Odd (errors.CloudFault c) from = ap (λ (x : CloudNo). x.0) from.0
shares_names cloud read Odd (errors.CloudDamaged c at byte) from = ap (λ (x : CloudNo). x.0) from.0
shares_names cloud read Odd (errors.CloudRotten c hash found) from = ap (λ (x : CloudNo). x.0) from.0
shares_names cloud read Odd (errors.CloudNoMemory c) from = ap (λ (x : CloudNo). x.0) from.0
shares_names cloud read Odd (errors.Strange c kind) from = ap (λ (x : CloudNo). x.0) from.0
shares_names cloud read Odd (errors.RecipesDiffer x y at) from = absurd from
shares_names cloud read Odd (errors.ShareLength c secret found wanted) from = absurd from
shares_names cloud read Odd (errors.BadShare c secret hash found) from = absurd from
shares_names cloud read Odd (errors.BadSecret secret hash found) from = absurd from
shares_names cloud read Odd (errors.BadPad secret at byte) from = absurd from
shares_names cloud read Odd errors.NoMemory from = tt

pub takes_names : (shape : Shape) (cloud : CloudNo) (firsts items : List Item) (place n : ℕ) (shares rooms filled : List (List ℕ)) (e : RestoreErr) → Takes shape cloud firsts items place n shares rooms filled (Err e) → Names (λ c. c ≡ cloud.0) e
takes_names shape cloud firsts items place n shares rooms filled (errors.Missing c) takes = absurd takes
takes_names shape cloud firsts items place n shares rooms filled (errors.Lost c) takes = absurd takes
takes_names shape cloud firsts items place n shares rooms filled (errors.CloudFault c) takes = absurd takes
takes_names shape cloud firsts items place n shares rooms filled (errors.CloudDamaged c at byte) takes = absurd takes
takes_names shape cloud firsts items place n shares rooms filled (errors.CloudRotten c hash found) takes = absurd takes
takes_names shape cloud firsts items place n shares rooms filled (errors.CloudNoMemory c) takes = absurd takes
takes_names shape cloud firsts items place n shares rooms filled (errors.Strange c kind) takes = absurd takes
takes_names shape cloud firsts items place n shares rooms filled (errors.RecipesDiffer x y at) takes = absurd takes
takes_names shape cloud firsts items place n shares rooms filled (errors.ShareLength c secret found wanted) takes = ap (λ (x : CloudNo). x.0) takes.0
takes_names shape cloud firsts items place n shares rooms filled (errors.BadShare c secret hash found) takes = ap (λ (x : CloudNo). x.0) takes.0
takes_names shape cloud firsts items place n shares rooms filled (errors.BadSecret secret hash found) takes = absurd takes
takes_names shape cloud firsts items place n shares rooms filled (errors.BadPad secret at byte) takes = absurd takes
takes_names shape cloud firsts items place n shares rooms filled errors.NoMemory takes = tt

-- ---- counts of failed devices

-- a fault that was answered is one more
abbrev pub FaultRose : {A : Type 0} → Result A RestoreErr → Peer → Peer → Type 0
FaultRose (Ok x) p q = Unit {0}
FaultRose (Err (errors.Missing c)) p q = Unit {0}
FaultRose (Err (errors.Lost c)) p q = Unit {0}
FaultRose (Err (errors.CloudFault c)) p q = Rose p.faults q.faults
FaultRose (Err (errors.CloudDamaged c at byte)) p q = Unit {0}
FaultRose (Err (errors.CloudRotten c hash found)) p q = Unit {0}
FaultRose (Err (errors.CloudNoMemory c)) p q = Unit {0}
FaultRose (Err (errors.Strange c kind)) p q = Unit {0}
FaultRose (Err (errors.RecipesDiffer x y at)) p q = Unit {0}
FaultRose (Err (errors.ShareLength c secret found wanted)) p q = Unit {0}
FaultRose (Err (errors.BadShare c secret hash found)) p q = Unit {0}
FaultRose (Err (errors.BadSecret secret hash found)) p q = Unit {0}
FaultRose (Err (errors.BadPad secret at byte)) p q = Unit {0}
FaultRose (Err errors.NoMemory) p q = Unit {0}

-- of any cloud something might stand so
fault_with : {A : Type 0} (res : Result A RestoreErr) (p q : Peer) → Rose p.faults q.faults → FaultRose res p q
fault_with (Ok x) p q rose = tt
fault_with (Err (errors.Missing c)) p q rose = tt
fault_with (Err (errors.Lost c)) p q rose = tt
fault_with (Err (errors.CloudFault c)) p q rose = rose
fault_with (Err (errors.CloudDamaged c at byte)) p q rose = tt
fault_with (Err (errors.CloudRotten c hash found)) p q rose = tt
fault_with (Err (errors.CloudNoMemory c)) p q rose = tt
fault_with (Err (errors.Strange c kind)) p q rose = tt
fault_with (Err (errors.RecipesDiffer x y at)) p q rose = tt
fault_with (Err (errors.ShareLength c secret found wanted)) p q rose = tt
fault_with (Err (errors.BadShare c secret hash found)) p q rose = tt
fault_with (Err (errors.BadSecret secret hash found)) p q rose = tt
fault_with (Err (errors.BadPad secret at byte)) p q rose = tt
fault_with (Err errors.NoMemory) p q rose = tt

pub fault_any : {A : Type 0} (res : Result A RestoreErr) (p : Peer) → (q : Peer) × MayRead p q × FaultRose res p q
fault_any res p =
    let q : Peer = record { list = p.list; pending = p.pending; faults = p.faults + 1; armings = p.armings } in
    (q, (inl (record { list = refl; pending = refl }), record { faults = omega arith; armings = refl }), fault_with res p q (omega arith))

pub recipe_rose : (shape : Shape) (cloud : CloudNo) (read : Result Reply ℕ) (res : Result Recipe RestoreErr) (p q : Peer) → RecipeFrom shape cloud read res → (read ≡ Ok replies.Fault → Rose p.faults q.faults) → FaultRose res p q
recipe_rose shape cloud read (Ok recipe) p q from rose = tt
recipe_rose shape cloud read (Err (errors.Missing c)) p q from rose = tt
recipe_rose shape cloud read (Err (errors.Lost c)) p q from rose = tt
recipe_rose shape cloud read (Err (errors.CloudFault c)) p q from rose = rose from.1
recipe_rose shape cloud read (Err (errors.CloudDamaged c at byte)) p q from rose = tt
recipe_rose shape cloud read (Err (errors.CloudRotten c hash found)) p q from rose = tt
recipe_rose shape cloud read (Err (errors.CloudNoMemory c)) p q from rose = tt
recipe_rose shape cloud read (Err (errors.Strange c kind)) p q from rose = tt
recipe_rose shape cloud read (Err (errors.RecipesDiffer x y at)) p q from rose = tt
recipe_rose shape cloud read (Err (errors.ShareLength c secret found wanted)) p q from rose = tt
recipe_rose shape cloud read (Err (errors.BadShare c secret hash found)) p q from rose = tt
recipe_rose shape cloud read (Err (errors.BadSecret secret hash found)) p q from rose = tt
recipe_rose shape cloud read (Err (errors.BadPad secret at byte)) p q from rose = tt
recipe_rose shape cloud read (Err errors.NoMemory) p q from rose = tt

pub shares_rose : (cloud : CloudNo) (read : Result Reply ℕ) (Odd : Reply → Type 0) (e : RestoreErr) (p q : Peer) → Refuses cloud read Odd e → (read ≡ Ok replies.Fault → Rose p.faults q.faults) → FaultRose {A = Unit {0}} (Err e) p q
shares_rose cloud read Odd (errors.Missing c) p q from rose = tt
shares_rose cloud read Odd (errors.Lost c) p q from rose = tt
shares_rose cloud read Odd (errors.CloudFault c) p q from rose = rose from.1
shares_rose cloud read Odd (errors.CloudDamaged c at byte) p q from rose = tt
shares_rose cloud read Odd (errors.CloudRotten c hash found) p q from rose = tt
shares_rose cloud read Odd (errors.CloudNoMemory c) p q from rose = tt
shares_rose cloud read Odd (errors.Strange c kind) p q from rose = tt
shares_rose cloud read Odd (errors.RecipesDiffer x y at) p q from rose = tt
shares_rose cloud read Odd (errors.ShareLength c secret found wanted) p q from rose = tt
shares_rose cloud read Odd (errors.BadShare c secret hash found) p q from rose = tt
shares_rose cloud read Odd (errors.BadSecret secret hash found) p q from rose = tt
shares_rose cloud read Odd (errors.BadPad secret at byte) p q from rose = tt
shares_rose cloud read Odd errors.NoMemory p q from rose = tt

pub takes_rose : (shape : Shape) (cloud : CloudNo) (firsts items : List Item) (place n : ℕ) (shares rooms filled : List (List ℕ)) (res : Result (Unit {0}) RestoreErr) (p q : Peer) → Takes shape cloud firsts items place n shares rooms filled res → FaultRose res p q
takes_rose shape cloud firsts items place n shares rooms filled (Ok u) p q takes = tt
takes_rose shape cloud firsts items place n shares rooms filled (Err (errors.Missing c)) p q takes = tt
takes_rose shape cloud firsts items place n shares rooms filled (Err (errors.Lost c)) p q takes = tt
takes_rose shape cloud firsts items place n shares rooms filled (Err (errors.CloudFault c)) p q takes = absurd takes
takes_rose shape cloud firsts items place n shares rooms filled (Err (errors.CloudDamaged c at byte)) p q takes = tt
takes_rose shape cloud firsts items place n shares rooms filled (Err (errors.CloudRotten c hash found)) p q takes = tt
takes_rose shape cloud firsts items place n shares rooms filled (Err (errors.CloudNoMemory c)) p q takes = tt
takes_rose shape cloud firsts items place n shares rooms filled (Err (errors.Strange c kind)) p q takes = tt
takes_rose shape cloud firsts items place n shares rooms filled (Err (errors.RecipesDiffer x y at)) p q takes = tt
takes_rose shape cloud firsts items place n shares rooms filled (Err (errors.ShareLength c secret found wanted)) p q takes = tt
takes_rose shape cloud firsts items place n shares rooms filled (Err (errors.BadShare c secret hash found)) p q takes = tt
takes_rose shape cloud firsts items place n shares rooms filled (Err (errors.BadSecret secret hash found)) p q takes = tt
takes_rose shape cloud firsts items place n shares rooms filled (Err (errors.BadPad secret at byte)) p q takes = tt
takes_rose shape cloud firsts items place n shares rooms filled (Err errors.NoMemory) p q takes = tt

-- ---- one cloud

pub untold : (b : Bool) → (IsTrue b → ⊥) → b ≡ false
untold true never = absurd (never refl)
untold false never = refl

pub only_told : {L : Type 0} (t : LinkTelling L) (link : L) (cloud : ℕ) → IsTrue (t.told link cloud) → TellsAll t link (cloud ∷ [])
only_told t link cloud told c has =
    elim (contains_cases cloud [] c has) [
      | inl same ↦ subst (λ (x : ℕ). IsTrue (t.told link x)) same told
      | inr none ↦ absurd (contains_nothing c none)
    ]

recipe_caused_at : {L : Type 0} (t : LinkTelling L) (link : L) (shape : Shape) (user : UserId) (key : Tag × Version) (cloud : CloudNo) (res : Result Recipe RestoreErr) (a b : ℕ → Peer) → IfErr res (Names (λ c. c ≡ cloud.0))
    → FaultRose res (a cloud.0) (b cloud.0) → (IsTrue (t.told link cloud.0) → RecipeTold shape user key cloud res (a cloud.0) (b cloud.0)) → RecipeShown t link shape user key cloud.0 res a b
recipe_caused_at t link shape user key cloud (Ok recipe) a b named rose told = λ yes. (let r = told yes in record { recipe_is = r.1; settled = r.0.0.pending })
recipe_caused_at t link shape user key cloud (Err (errors.Missing c)) a b named rose told = subst (λ (x : ℕ). IsTrue (t.told link x) → recipe_in shape (b x).list user key ≡ None) (sym named) (λ yes. (told yes).2)
recipe_caused_at t link shape user key cloud (Err (errors.Lost c)) a b named rose told = tt
recipe_caused_at t link shape user key cloud (Err (errors.CloudFault c)) a b named rose told = subst (λ (x : ℕ). Rose (a x).faults (b x).faults) (sym named) rose
recipe_caused_at t link shape user key cloud (Err (errors.CloudDamaged c at byte)) a b named rose told = subst (λ (x : ℕ). t.told link x ≡ false) (sym named) (untold (t.told link cloud.0) told)
recipe_caused_at t link shape user key cloud (Err (errors.CloudRotten c hash found)) a b named rose told = subst (λ (x : ℕ). t.told link x ≡ false) (sym named) (untold (t.told link cloud.0) told)
recipe_caused_at t link shape user key cloud (Err (errors.CloudNoMemory c)) a b named rose told = subst (λ (x : ℕ). t.told link x ≡ false) (sym named) (untold (t.told link cloud.0) told)
recipe_caused_at t link shape user key cloud (Err (errors.Strange c kind)) a b named rose told = subst (λ (x : ℕ). t.told link x ≡ false) (sym named) (untold (t.told link cloud.0) told)
recipe_caused_at t link shape user key cloud (Err (errors.RecipesDiffer x y at)) a b named rose told = tt
recipe_caused_at t link shape user key cloud (Err (errors.ShareLength c secret found wanted)) a b named rose told =
    subst (λ (x : ℕ). IsTrue (t.told link x) → IsWrongAt shape user key x secret found wanted b) (sym named) (λ yes. absurd (told yes))
recipe_caused_at t link shape user key cloud (Err (errors.BadShare c secret hash found)) a b named rose told = subst (λ (x : ℕ). t.told link x ≡ false) (sym named) (untold (t.told link cloud.0) told)
recipe_caused_at t link shape user key cloud (Err (errors.BadSecret secret hash found)) a b named rose told = tt
recipe_caused_at t link shape user key cloud (Err (errors.BadPad secret at byte)) a b named rose told = tt
recipe_caused_at t link shape user key cloud (Err errors.NoMemory) a b named rose told = tt

pub recipe_caused : {L : Type 0} (t : LinkTelling L) (shape : Shape) (user : UserId) (key : Tag × Version) (cloud : CloudNo) (old new : L) (res : Result Recipe RestoreErr) → IfErr res (Names (λ c. c ≡ cloud.0))
    → Leads t (cloud.0 ∷ []) old new (λ a b. FaultRose res (a cloud.0) (b cloud.0)) (λ a b. RecipeTold shape user key cloud res (a cloud.0) (b cloud.0))
    → Leads t (cloud.0 ∷ []) old new (RecipeShown t old shape user key cloud.0 res) (λ a b. RecipeTold shape user key cloud res (a cloud.0) (b cloud.0))
recipe_caused t shape user key cloud old new res named first =
    leads_to t (cloud.0 ∷ []) (cloud.0 ∷ []) old new _ _ _ _ first (λ x has. has)
    (λ a b one rose told. recipe_caused_at t old shape user key cloud res a b named rose (λ yes. told (only_told t old cloud.0 yes)))
    (λ a b one r. r)

shares_caused_at : {L : Type 0} (t : LinkTelling L) (link : L) (shape : Shape) (user : UserId) (key : Tag × Version) (cloud : CloudNo) (firsts : List Item) (recipe : Recipe) (place n : ℕ) (rooms filled : List (List ℕ)) (res : Result (Unit {0}) RestoreErr) (a b : ℕ → Peer)
    → IfErr res (Names (λ c. c ≡ cloud.0)) → FaultRose res (a cloud.0) (b cloud.0)
    → (IsTrue (t.told link cloud.0) → SharesTold shape cloud firsts (given_of (a cloud.0) cloud.0 recipe) place n res rooms filled (a cloud.0) (b cloud.0))
    → (IsTrue (t.told link cloud.0) → (secret found wanted : ℕ) → wrong_strings shape firsts (given_of (a cloud.0) cloud.0 recipe) place n ≡ Some (Restored.ShareLength cloud.0 secret found wanted) → IsWrongAt shape user key cloud.0 secret found wanted b)
    → Shows t link shape user key res a b
shares_caused_at t link shape user key cloud firsts recipe place n rooms filled (Ok u) a b named rose told owns = tt
shares_caused_at t link shape user key cloud firsts recipe place n rooms filled (Err (errors.Missing c)) a b named rose told owns = subst (λ (x : ℕ). IsTrue (t.told link x) → recipe_in shape (b x).list user key ≡ None) (sym named) (λ yes. absurd (told yes))
shares_caused_at t link shape user key cloud firsts recipe place n rooms filled (Err (errors.Lost c)) a b named rose told owns = tt
shares_caused_at t link shape user key cloud firsts recipe place n rooms filled (Err (errors.CloudFault c)) a b named rose told owns = subst (λ (x : ℕ). Rose (a x).faults (b x).faults) (sym named) rose
shares_caused_at t link shape user key cloud firsts recipe place n rooms filled (Err (errors.CloudDamaged c at byte)) a b named rose told owns = subst (λ (x : ℕ). t.told link x ≡ false) (sym named) (untold (t.told link cloud.0) told)
shares_caused_at t link shape user key cloud firsts recipe place n rooms filled (Err (errors.CloudRotten c hash found)) a b named rose told owns = subst (λ (x : ℕ). t.told link x ≡ false) (sym named) (untold (t.told link cloud.0) told)
shares_caused_at t link shape user key cloud firsts recipe place n rooms filled (Err (errors.CloudNoMemory c)) a b named rose told owns = subst (λ (x : ℕ). t.told link x ≡ false) (sym named) (untold (t.told link cloud.0) told)
shares_caused_at t link shape user key cloud firsts recipe place n rooms filled (Err (errors.Strange c kind)) a b named rose told owns = subst (λ (x : ℕ). t.told link x ≡ false) (sym named) (untold (t.told link cloud.0) told)
shares_caused_at t link shape user key cloud firsts recipe place n rooms filled (Err (errors.RecipesDiffer x y at)) a b named rose told owns = tt
shares_caused_at t link shape user key cloud firsts recipe place n rooms filled (Err (errors.ShareLength c secret found wanted)) a b named rose told owns =
    subst (λ (x : ℕ). IsTrue (t.told link x) → IsWrongAt shape user key x secret found wanted b) (sym named)
    (λ yes. owns yes secret found wanted (subst (λ (x : ℕ). wrong_strings shape firsts (given_of (a cloud.0) cloud.0 recipe) place n ≡ Some (Restored.ShareLength x secret found wanted)) named (told yes)))
shares_caused_at t link shape user key cloud firsts recipe place n rooms filled (Err (errors.BadShare c secret hash found)) a b named rose told owns = subst (λ (x : ℕ). t.told link x ≡ false) (sym named) (untold (t.told link cloud.0) told)
shares_caused_at t link shape user key cloud firsts recipe place n rooms filled (Err (errors.BadSecret secret hash found)) a b named rose told owns = tt
shares_caused_at t link shape user key cloud firsts recipe place n rooms filled (Err (errors.BadPad secret at byte)) a b named rose told owns = tt
shares_caused_at t link shape user key cloud firsts recipe place n rooms filled (Err errors.NoMemory) a b named rose told owns = tt

pub shares_caused : {L : Type 0} (t : LinkTelling L) (shape : Shape) (user : UserId) (key : Tag × Version) (cloud : CloudNo) (firsts : List Item) (recipe : Recipe) (place n : ℕ) (old new : L) (rooms filled : List (List ℕ)) (res : Result (Unit {0}) RestoreErr)
    → IfErr res (Names (λ c. c ≡ cloud.0)) → place + n ≤ length recipe.items
    → Leads t (cloud.0 ∷ []) old new (λ a b. FaultRose res (a cloud.0) (b cloud.0)) (λ a b. ReadyAt shape user key recipe (a cloud.0) → SharesTold shape cloud firsts (given_of (a cloud.0) cloud.0 recipe) place n res rooms filled (a cloud.0) (b cloud.0))
    → Leads t (cloud.0 ∷ []) old new (SharesShown t old shape user key cloud.0 firsts recipe res) (λ a b. ReadyAt shape user key recipe (a cloud.0) → SharesTold shape cloud firsts (given_of (a cloud.0) cloud.0 recipe) place n res rooms filled (a cloud.0) (b cloud.0))
shares_caused t shape user key cloud firsts recipe place n old new rooms filled res named fits first =
    leads_to t (cloud.0 ∷ []) (cloud.0 ∷ []) old new _ _ _ _ first (λ x has. has)
    (λ a b one rose told ready alike. shares_caused_at t old shape user key cloud firsts recipe place n rooms filled res a b named rose (λ yes. told (only_told t old cloud.0 yes) (ready yes))
    (λ yes secret found wanted e. wrong_own shape user key cloud.0 firsts recipe place n secret found wanted (a cloud.0) b (ready yes) (one.read cloud.0) alike fits e))
    (λ a b one r. r)

-- ---- one after another

pub caused_on : {L : Type 0} (t : LinkTelling L) (old mid : L) (shape : Shape) (user : UserId) (key : Tag × Version) (e : RestoreErr) (a b d : ℕ → Peer) → t.told mid ≡ t.told old → ((x : ℕ) → MayRead (a x) (b x))
    → Shown t mid shape user key e b d → Shown t old shape user key e a d
caused_on t old mid shape user key (errors.Missing c) a b d same may k = λ told. k (subst (λ (f : ℕ → Bool). IsTrue (f c.0)) (sym same) told)
caused_on t old mid shape user key (errors.Lost c) a b d same may k = tt
caused_on t old mid shape user key (errors.CloudFault c) a b d same may k = rose_on (a c.0).faults (b c.0).faults (d c.0).faults (may c.0).1.faults k
caused_on t old mid shape user key (errors.CloudDamaged c at byte) a b d same may k = ap (λ (f : ℕ → Bool). f c.0) (sym same) ∙ k
caused_on t old mid shape user key (errors.CloudRotten c hash found) a b d same may k = ap (λ (f : ℕ → Bool). f c.0) (sym same) ∙ k
caused_on t old mid shape user key (errors.CloudNoMemory c) a b d same may k = ap (λ (f : ℕ → Bool). f c.0) (sym same) ∙ k
caused_on t old mid shape user key (errors.Strange c kind) a b d same may k = ap (λ (f : ℕ → Bool). f c.0) (sym same) ∙ k
caused_on t old mid shape user key (errors.RecipesDiffer x y at) a b d same may k = tt
caused_on t old mid shape user key (errors.ShareLength c secret found wanted) a b d same may k = λ told. k (subst (λ (f : ℕ → Bool). IsTrue (f c.0)) (sym same) told)
caused_on t old mid shape user key (errors.BadShare c secret hash found) a b d same may k = ap (λ (f : ℕ → Bool). f c.0) (sym same) ∙ k
caused_on t old mid shape user key (errors.BadSecret secret hash found) a b d same may k = tt
caused_on t old mid shape user key (errors.BadPad secret at byte) a b d same may k = tt
caused_on t old mid shape user key errors.NoMemory a b d same may k = tt

pub causes_on : {L : Type 0} (t : LinkTelling L) (old mid : L) (shape : Shape) (user : UserId) (key : Tag × Version) (res : Result (Unit {0}) RestoreErr) (a b d : ℕ → Peer) → t.told mid ≡ t.told old → ((x : ℕ) → MayRead (a x) (b x))
    → Shows t mid shape user key res b d → Shows t old shape user key res a d
causes_on t old mid shape user key (Ok u) a b d same may k = tt
causes_on t old mid shape user key (Err e) a b d same may k = caused_on t old mid shape user key e a b d same may k

-- told clouds that stand settled keep their recipes
pub ready_on : {L : Type 0} (t : LinkTelling L) (old mid : L) (shape : Shape) (user : UserId) (key : Tag × Version) (clouds : List ℕ) (recipes : List Recipe) (a b : ℕ → Peer) → t.told mid ≡ t.told old → ((x : ℕ) → MayRead (a x) (b x))
    → ReadyWhere t old shape user key clouds recipes a → ReadyWhere t mid shape user key clouds recipes b
ready_on t old mid shape user key [] recipes a b same may ready = tt
ready_on t old mid shape user key (c ∷ clouds) [] a b same may ready = tt
ready_on t old mid shape user key (c ∷ clouds) (r ∷ recipes) a b same may ready = (
  λ told.
      let here = ready.0 (subst (λ (f : ℕ → Bool). IsTrue (f c)) same told) in
      let now = settled_same (a c) (b c) here.settled (may c) in
      record { recipe_is = ap (λ (l : List Command). recipe_in shape l user key) now.list ∙ here.recipe_is; settled = now.pending },
  ready_on t old mid shape user key clouds recipes a b same may ready.1,
)

pub ready_push : {L : Type 0} (t : LinkTelling L) (link : L) (shape : Shape) (user : UserId) (key : Tag × Version) (clouds : List ℕ) (recipes : List Recipe) (cloud : ℕ) (recipe : Recipe) (a : ℕ → Peer) → length recipes ≡ length clouds
    → ReadyWhere t link shape user key clouds recipes a → (IsTrue (t.told link cloud) → ReadyAt shape user key recipe (a cloud)) → ReadyWhere t link shape user key (clouds ++ cloud ∷ []) (recipes ++ recipe ∷ []) a
ready_push t link shape user key [] [] cloud recipe a long ready last = (last, tt)
ready_push t link shape user key [] (r ∷ recipes) cloud recipe a long ready last = absurd (omega arith)
ready_push t link shape user key (c ∷ clouds) [] cloud recipe a long ready last = absurd (omega arith)
ready_push t link shape user key (c ∷ clouds) (r ∷ recipes) cloud recipe a long ready last = (ready.0, ready_push t link shape user key clouds recipes cloud recipe a (omega arith) ready.1 last)

-- ---- comparing

pub compared_caused : {L : Type 0} (t : LinkTelling L) (link : L) (shape : Shape) (user : UserId) (key : Tag × Version) (cloud : ℕ) (recipe : Recipe) (clouds : List ℕ) (recipes : List Recipe) (e : RestoreErr) (a b : ℕ → Peer)
    → Compares cloud recipe clouds recipes (Err e) → Shown t link shape user key e a b
compared_caused t link shape user key cloud recipe clouds recipes (errors.Missing c) a b differs = absurd differs
compared_caused t link shape user key cloud recipe clouds recipes (errors.Lost c) a b differs = tt
compared_caused t link shape user key cloud recipe clouds recipes (errors.CloudFault c) a b differs = absurd differs
compared_caused t link shape user key cloud recipe clouds recipes (errors.CloudDamaged c at byte) a b differs = absurd differs
compared_caused t link shape user key cloud recipe clouds recipes (errors.CloudRotten c hash found) a b differs = absurd differs
compared_caused t link shape user key cloud recipe clouds recipes (errors.CloudNoMemory c) a b differs = absurd differs
compared_caused t link shape user key cloud recipe clouds recipes (errors.Strange c kind) a b differs = absurd differs
compared_caused t link shape user key cloud recipe clouds recipes (errors.RecipesDiffer x y at) a b differs = tt
compared_caused t link shape user key cloud recipe clouds recipes (errors.ShareLength c secret found wanted) a b differs = absurd differs
compared_caused t link shape user key cloud recipe clouds recipes (errors.BadShare c secret hash found) a b differs = absurd differs
compared_caused t link shape user key cloud recipe clouds recipes (errors.BadSecret secret hash found) a b differs = tt
compared_caused t link shape user key cloud recipe clouds recipes (errors.BadPad secret at byte) a b differs = tt
compared_caused t link shape user key cloud recipe clouds recipes errors.NoMemory a b differs = tt

-- the clouds whose recipes differ are two of them
pub differing_names : (cloud : ℕ) (recipe : Recipe) (clouds : List ℕ) (recipes : List Recipe) (x y place : ℕ) → differing cloud recipe clouds recipes ≡ Some (Restored.RecipesDiffer x y place)
    → Contains (cloud ∷ clouds) x × Contains (cloud ∷ clouds) y
differing_names cloud recipe [] recipes x y place e = absurd (let f : None ≡ Some (Restored.RecipesDiffer x y place) = e in cc)
differing_names cloud recipe (c ∷ clouds) [] x y place e = absurd (let f : None ≡ Some (Restored.RecipesDiffer x y place) = e in cc)
differing_names cloud recipe (c ∷ clouds) (r ∷ recipes) x y place e = go (difference recipe r) (λ f. differing_names cloud recipe clouds recipes x y place f) e
  where
    behind : (z : ℕ) → Contains (cloud ∷ clouds) z → Contains (cloud ∷ c ∷ clouds) z
    behind z has =
        elim (contains_cases cloud clouds z has) [
          | inl same ↦ subst (Contains (cloud ∷ c ∷ clouds)) same (contains_here cloud (c ∷ clouds))
          | inr later ↦ contains_later cloud (c ∷ clouds) z (contains_later c clouds z later)
        ]

    go : (o : Option ℕ) → (differing cloud recipe clouds recipes ≡ Some (Restored.RecipesDiffer x y place) → Contains (cloud ∷ clouds) x × Contains (cloud ∷ clouds) y)
        → or_else (option_map (Restored.RecipesDiffer cloud c) o) (differing cloud recipe clouds recipes) ≡ Some (Restored.RecipesDiffer x y place) → Contains (cloud ∷ c ∷ clouds) x × Contains (cloud ∷ c ∷ clouds) y
    go None more e = (behind x (more e).0, behind y (more e).1)
    go (Some at) more e =
        let f : Some (Restored.RecipesDiffer cloud c at) ≡ Some (Restored.RecipesDiffer x y place) = e in
        let a : cloud ≡ x = cc in
        let b : c ≡ y = cc in
        (subst (Contains (cloud ∷ c ∷ clouds)) a (contains_here cloud (c ∷ clouds)), subst (Contains (cloud ∷ c ∷ clouds)) b (contains_later cloud (c ∷ clouds) c (contains_here c clouds)))

pub compared_found : (cloud : ℕ) (recipe : Recipe) (clouds : List ℕ) (others : List Recipe) (e : RestoreErr) → Compares cloud recipe clouds others (Err e) → is_loss e ≡ false
compared_found cloud recipe clouds others (errors.RecipesDiffer a b place) x = refl
compared_found cloud recipe clouds others (errors.Missing c) x = absurd x
compared_found cloud recipe clouds others (errors.Lost c) x = absurd x
compared_found cloud recipe clouds others (errors.CloudFault c) x = absurd x
compared_found cloud recipe clouds others (errors.CloudDamaged c at byte) x = absurd x
compared_found cloud recipe clouds others (errors.CloudRotten c named found) x = absurd x
compared_found cloud recipe clouds others (errors.CloudNoMemory c) x = absurd x
compared_found cloud recipe clouds others (errors.Strange c kind) x = absurd x
compared_found cloud recipe clouds others (errors.ShareLength c secret found wanted) x = absurd x
compared_found cloud recipe clouds others (errors.BadShare c secret named found) x = absurd x
compared_found cloud recipe clouds others (errors.BadSecret secret named found) x = absurd x
compared_found cloud recipe clouds others (errors.BadPad secret at byte) x = absurd x
compared_found cloud recipe clouds others errors.NoMemory x = absurd x

pub compared_names : (cloud : ℕ) (recipe : Recipe) (clouds : List ℕ) (recipes : List Recipe) (e : RestoreErr) → Compares cloud recipe clouds recipes (Err e) → Names (Contains (cloud ∷ clouds)) e
compared_names cloud recipe clouds recipes (errors.Missing c) differs = absurd differs
compared_names cloud recipe clouds recipes (errors.Lost c) differs = absurd differs
compared_names cloud recipe clouds recipes (errors.CloudFault c) differs = absurd differs
compared_names cloud recipe clouds recipes (errors.CloudDamaged c at byte) differs = absurd differs
compared_names cloud recipe clouds recipes (errors.CloudRotten c hash found) differs = absurd differs
compared_names cloud recipe clouds recipes (errors.CloudNoMemory c) differs = absurd differs
compared_names cloud recipe clouds recipes (errors.Strange c kind) differs = absurd differs
compared_names cloud recipe clouds recipes (errors.RecipesDiffer x y at) differs = differing_names cloud recipe clouds recipes x.0 y.0 at differs
compared_names cloud recipe clouds recipes (errors.ShareLength c secret found wanted) differs = absurd differs
compared_names cloud recipe clouds recipes (errors.BadShare c secret hash found) differs = absurd differs
compared_names cloud recipe clouds recipes (errors.BadSecret secret hash found) differs = tt
compared_names cloud recipe clouds recipes (errors.BadPad secret at byte) differs = tt
compared_names cloud recipe clouds recipes errors.NoMemory differs = tt
