-- A rebuild that is cut is the front of one that would go on.
use Rattle.std.proofs.Common.{◌≡◌, ◌≢◌, ℕ, List, [], ◌∷◌, ◌++◌, Some, None, Result, Ok, Err, refl, sym, ap, ◌∙◌, subst, inl, inr, ◌⊎◌, append_assoc, append-nil}
use Rattle.std.specs.Prelude.{IfErr}
use Rattle.std.specs.List.{Contains, flat_map}
use Rattle.std.proofs.lemmas.Bool.{cases_eq}
use Rattle.std.proofs.lemmas.List.Concat.{flat_map-cons}
use Rattle.std.proofs.lemmas.List.Elements.{Contains-append_cases}
use Rattle.lane_steps.specs.CdBase.ids.UserId.{UserId}
use Rattle.lane_steps.specs.CdBase.shape.Shape.{Shape}
use Rattle.lane_steps.specs.Messages.request.Request.{Request}
use Rattle.lane_steps.specs.UserDedup.command.Command.{Command}
use Rattle.lane_steps.specs.Messages.reply.Reply.{Reply}
use Rattle.lane_steps.specs.UserDedup.Dedup.{Outcome}
use Rattle.lane_steps.specs.UserDedup.Exec.{Peer, CountsOn, KeepsPeer, Settles}
use Rattle.lane_steps.proofs.UserDedup.Owned.{contains_here, contains_later, contains_nothing, contains_cases}
use Rattle.lane_steps.specs.UploadJob.Upload.{FileVersion}
use Rattle.lane_steps.specs.Runs.{LaneTurn}
use Rattle.kept_files.specs.RestoreJob.Asking.{MayRead, Reads, AreRead}
use Rattle.kept_files.proofs.RestoreJob.Leading.{counts_on}
use Rattle.rebuild.specs.declared.error.SkipWhy.{SkipWhy}
use Rattle.rebuild.specs.declared.error.SkipWhy.TheVariants as whys
use Rattle.rebuild.specs.declared.error.RebuildErr.{RebuildErr}
use Rattle.rebuild.specs.declared.error.RebuildErr.TheVariants as errors
use Rattle.rebuild.specs.declared.skips.Rebuilt.{Rebuilt}
use Rattle.rebuild.specs.Found.{Finding, findings, first_of}
use Rattle.rebuild.specs.Rebuilding.{StopsAs, Progressed, nothing_yet, BringsAll, asked_under, asked_for, EndsAs, IsNoLack, LeavesBut, ComesBefore, IsRebuildCut}
use Rattle.rebuild.proofs.Stable.{findings_same}
use Rattle.rebuild.specs.Filling.{IsFilledFurther}
use Rattle.rebuild.proofs.Cutting.{brings_then}
use Rattle.rebuild.proofs.Joining.{up_to_in}

-- ---- which clouds

pub is_in : (clouds : List ℕ) (cloud : ℕ) → Contains clouds cloud ⊎ (Contains clouds cloud → ⊥)
is_in [] cloud = inr (λ has. contains_nothing cloud has)
is_in (c ∷ clouds) cloud =
    elim (cases_eq cloud c) [
      | inl same ↦ inl (subst (λ (x : ℕ). Contains (c ∷ clouds) x) (sym same) (contains_here c clouds))
      | inr other ↦ elim (is_in clouds cloud) [
        | inl has ↦ inl (contains_later c clouds cloud has)
        | inr none ↦ inr (λ has. elim (contains_cases c clouds cloud has) [
          | inl same ↦ other (sym same)
          | inr later ↦ none later
        ])
      ]
    ]

pub under_in : (from : List ℕ) (found : Result FileVersion SkipWhy) (cloud : ℕ) → Contains (asked_under from found) cloud → Contains from cloud
under_in from (Ok v) cloud has = has
under_in from (Err (whys.Missing c)) cloud has = up_to_in c.0 from cloud has
under_in from (Err (whys.RecipesDiffer a b place)) cloud has = has
under_in from (Err (whys.ShareLength c secret found wanted)) cloud has = has
under_in from (Err (whys.BadSecret secret named found)) cloud has = has
under_in from (Err (whys.BadPad secret at byte)) cloud has = has
under_in from (Err (whys.BadName named found)) cloud has = has
under_in from (Err (whys.BadNamePad at byte)) cloud has = has
under_in from (Err (whys.BadPath at)) cloud has = has
under_in from (Err whys.TargetExists) cloud has = has

abbrev under : List ℕ → Finding → List ℕ
under from f = asked_under from f.found

asked_all_in : (from : List ℕ) (found : List Finding) (cloud : ℕ) → Contains (flat_map (under from) found) cloud → Contains from cloud
asked_all_in from [] cloud has = absurd (contains_nothing cloud has)
asked_all_in from (f ∷ found) cloud has =
    elim (Contains-append_cases (under from f) (flat_map (under from) found) cloud (subst (λ (l : List ℕ). Contains l cloud) (flat_map-cons (under from) f found) has)) [
      | inl here ↦ under_in from f.found cloud here
      | inr later ↦ asked_all_in from found cloud later
    ]

pub asked_in : (from : List ℕ) (found : List Finding) (cloud : ℕ) → Contains from (first_of from) → Contains (asked_for from found) cloud → Contains from cloud
asked_in from found cloud first has =
    elim (contains_cases (first_of from) (flat_map (under from) found) cloud has) [
      | inl same ↦ subst (λ (x : ℕ). Contains from x) same first
      | inr later ↦ asked_all_in from found cloud later
    ]

-- ---- a cloud that settles as it stands

abbrev pub settled : Peer → Peer
settled p = record { list = p.list; pending = None; faults = p.faults; armings = p.armings }

settles : (old new : Peer) → MayRead old new → Reads old (settled new)
settles old new may = (by_way may.0, record { faults = may.1.faults; armings = may.1.armings })
  where
    by_way : KeepsPeer old new ⊎ Settles old new → Settles old (settled new)
    by_way (inl stays) = record { list = inl stays.list; pending = refl }
    by_way (inr set) = record { list = set.list; pending = refl }

reads_may : (old new : Peer) → Reads old new → MayRead old new
reads_may old new r = (inr r.0, r.1)

-- it is so already
settled_is : (p : Peer) → p.pending ≡ None → p ≡ settled p
settled_is p none = λ i. record { list = p.list; pending = none i; faults = p.faults; armings = p.armings }

-- a reply of the target that stops it
pub stops_end : (found all : List Finding) (last : Progressed) (from : List ℕ) (before after : ℕ → Peer) (said : Reply) (e : RebuildErr) → last.stop ≡ Some said → StopsAs said e → AreRead (asked_for from found) before after
    → EndsAs found all last from before after (Err e)
stops_end found all last from before after said errors.TargetFault stop stops read = (said, stop, stops, read)
stops_end found all last from before after said (errors.TargetDamaged at byte) stop stops read = (said, stop, stops, read)
stops_end found all last from before after said (errors.TargetRotten named hash) stop stops read = (said, stop, stops, read)
stops_end found all last from before after said (errors.TargetFull room used need limit) stop stops read = (said, stop, stops, read)
stops_end found all last from before after said (errors.TargetLacking place) stop stops read = (said, stop, stops, read)
stops_end found all last from before after said errors.TargetNoMemory stop stops read = (said, stop, stops, read)
stops_end found all last from before after said (errors.FromRestore e) stop stops read = absurd stops
stops_end found all last from before after said errors.TargetLost stop stops read = absurd stops
stops_end found all last from before after said (errors.TargetStrange kind) stop stops read = absurd stops
stops_end found all last from before after said errors.NoMemory stop stops read = absurd stops

-- ---- the cut

module _ (shape : Shape) (user : UserId) (target : ℕ) (serve : List Command → Request → Outcome) (from : List ℕ) where
  -- the clouds where the rebuild goes on to its end
  abbrev pick : (c : ℕ) → Peer → Peer → (c ≡ target) ⊎ (c ≡ target → ⊥) → Contains from c ⊎ (Contains from c → ⊥) → Peer
  pick c end p (inl same) has = end
  pick c end p (inr other) (inl has) = settled p
  pick c end p (inr other) (inr none) = p

  abbrev later_of : (ℕ → Peer) → Peer → ℕ → Peer
  later_of after end c = pick c end (after c) (cases_eq c target) (is_in from c)

  pick_target : (end p : Peer) (x : (target ≡ target) ⊎ (target ≡ target → ⊥)) (y : Contains from target ⊎ (Contains from target → ⊥)) → pick target end p x y ≡ end
  pick_target end p (inl same) y = refl
  pick_target end p (inr other) y = absurd (other refl)

  pick_list : (c : ℕ) (end p : Peer) (x : (c ≡ target) ⊎ (c ≡ target → ⊥)) (y : Contains from c ⊎ (Contains from c → ⊥)) → c ≢ target → (pick c end p x y).list ≡ p.list
  pick_list c end p (inl same) y ne = absurd (ne same)
  pick_list c end p (inr other) (inl has) ne = refl
  pick_list c end p (inr other) (inr none) ne = refl

  pick_reads : (c : ℕ) (end p old : Peer) (x : (c ≡ target) ⊎ (c ≡ target → ⊥)) (y : Contains from c ⊎ (Contains from c → ⊥)) → c ≢ target → Contains from c → MayRead old p → Reads old (pick c end p x y)
  pick_reads c end p old (inl same) y ne has may = absurd (ne same)
  pick_reads c end p old (inr other) (inl here) ne has may = settles old p may
  pick_reads c end p old (inr other) (inr none) ne has may = absurd (none has)

  pick_may : (c : ℕ) (end p old : Peer) (x : (c ≡ target) ⊎ (c ≡ target → ⊥)) (y : Contains from c ⊎ (Contains from c → ⊥)) → c ≢ target → MayRead old p → MayRead old (pick c end p x y)
  pick_may c end p old (inl same) y ne may = absurd (ne same)
  pick_may c end p old (inr other) (inl here) ne may = reads_may old (settled p) (settles old p may)
  pick_may c end p old (inr other) (inr none) ne may = may

  pick_other : (c : ℕ) (end p old : Peer) (x : (c ≡ target) ⊎ (c ≡ target → ⊥)) (y : Contains from c ⊎ (Contains from c → ⊥)) → c ≢ target → (Contains from c → ⊥) → p ≡ old → pick c end p x y ≡ old
  pick_other c end p old (inl same) y ne out e = absurd (ne same)
  pick_other c end p old (inr other) (inl here) ne out e = absurd (out here)
  pick_other c end p old (inr other) (inr none) ne out e = e

  pick_same : (c : ℕ) (end p : Peer) (x : (c ≡ target) ⊎ (c ≡ target → ⊥)) (y : Contains from c ⊎ (Contains from c → ⊥)) → c ≢ target → (Contains from c → p.pending ≡ None) → pick c end p x y ≡ p
  pick_same c end p (inl same) y ne set = absurd (ne same)
  pick_same c end p (inr other) (inl here) ne set = sym (settled_is p (set here))
  pick_same c end p (inr other) (inr none) ne set = refl

  pub cut_by : (before after : ℕ → Peer) (found rest : List Finding) (r : Progressed) (mid at : Peer) (us vs : List (LaneTurn Peer))
      → Contains from (first_of from) → (Contains from target → ⊥)
      → findings shape (λ cloud. (after cloud).list) from user ≡ found ++ rest
      → BringsAll shape target serve found nothing_yet (before target) us r mid → r.stop ≡ None → IsFilledFurther shape target serve rest r mid vs at
      → LeavesBut from target before after → CountsOn (before target) at
      → ((us ++ vs ≡ []) ⊎ ((cloud : ℕ) → Contains from cloud → (after cloud).pending ≡ None))
      → IsRebuildCut shape user target serve from (us ++ vs) before at after
  cut_by before after found rest r mid at us vs first apart are brought none goes leaves counts set = record {
    more = goes.more;
    would = would;
    later = later;
    goes_on = record {
      found = found ++ goes.front;
      front = record { rest = goes.left; split = findings_are ∙ ap (λ (l : List Finding). found ++ l) goes.split ∙ sym (append_assoc found goes.front goes.left) };
      last = goes.last;
      brings =
          subst (λ (p : Peer). BringsAll shape target serve (found ++ goes.front) nothing_yet (before target) ((us ++ vs) ++ goes.more) goes.last p) (sym at_target)
          (subst (λ (l : List (LaneTurn Peer)). BringsAll shape target serve (found ++ goes.front) nothing_yet (before target) l goes.last goes.end) (sym (append_assoc us vs goes.more))
          (brings_then shape target serve found goes.front nothing_yet r goes.last (before target) mid goes.end us (vs ++ goes.more) brought none goes.brings));
      ends = ends;
    };
    whole = whole_by goes.ends;
    leaves = record {
      read = λ c ne. pick_may c goes.end (after c) (before c) (cases_eq c target) (is_in from c) ne (leaves.read c ne);
      others = λ c ne out. pick_other c goes.end (after c) (before c) (cases_eq c target) (is_in from c) ne out (leaves.others c ne out);
      counts = subst (λ (p : Peer). CountsOn (before target) p) (sym at_target) (counts_on (before target) at goes.end counts goes.counts);
    };
    comes = subst (λ (p : Peer). ComesBefore goes.more p at) (sym at_target) goes.comes;
    others = elim set [
      | inl nothing ↦ inl nothing
      | inr all ↦ inr (λ c ne. pick_same c goes.end (after c) (cases_eq c target) (is_in from c) ne (all c))
    ];
  }
    where
      later : ℕ → Peer
      later = later_of after goes.end

      at_target : later target ≡ goes.end
      at_target = pick_target goes.end (after target) (cases_eq target target) (is_in from target)

      not_target : (c : ℕ) → Contains from c → c ≢ target
      not_target c has same = apart (subst (λ (x : ℕ). Contains from x) same has)

      findings_are : findings shape (λ cloud. (later cloud).list) from user ≡ found ++ rest
      findings_are =
          findings_same shape user (λ cloud. (after cloud).list) (λ cloud. (later cloud).list) from first
          (λ c has. pick_list c goes.end (after c) (cases_eq c target) (is_in from c) (not_target c has)) ∙ are

      are_read : (fs : List Finding) → AreRead (asked_for from fs) before later
      are_read fs c has =
          let here = asked_in from fs c first has in
          pick_reads c goes.end (after c) (before c) (cases_eq c target) (is_in from c) (not_target c here) here (leaves.read c (not_target c here))

      would_by : ((goes.left ≡ []) × (goes.last.stop ≡ None)) ⊎ ((said : Reply) × (e : RebuildErr) × (goes.last.stop ≡ Some said) × StopsAs said e × IsNoLack e) → Result Rebuilt RebuildErr
      would_by (inl all) = Ok (record { files = goes.last.files; skipped = goes.last.skips })
      would_by (inr stop) = Err stop.1

      would : Result Rebuilt RebuildErr
      would = would_by goes.ends

      whole_by : (e : ((goes.left ≡ []) × (goes.last.stop ≡ None)) ⊎ ((said : Reply) × (e : RebuildErr) × (goes.last.stop ≡ Some said) × StopsAs said e × IsNoLack e)) → IfErr (would_by e) IsNoLack
      whole_by (inl all) = tt
      whole_by (inr stop) = stop.4

      all_are : findings shape (λ cloud. (later cloud).list) from user ≡ (found ++ goes.front) ++ goes.left
      all_are = findings_are ∙ ap (λ (l : List Finding). found ++ l) goes.split ∙ sym (append_assoc found goes.front goes.left)

      stop_is : (last : Progressed) → last.stop ≡ None → last ≡ record { files = last.files; skips = last.skips; stop = None }
      stop_is last e = λ i. record { files = last.files; skips = last.skips; stop = e i }

      ends_by : (e : ((goes.left ≡ []) × (goes.last.stop ≡ None)) ⊎ ((said : Reply) × (e : RebuildErr) × (goes.last.stop ≡ Some said) × StopsAs said e × IsNoLack e))
          → EndsAs (found ++ goes.front) (findings shape (λ cloud. (later cloud).list) from user) goes.last from before later (would_by e)
      ends_by (inl all) = (sym (all_are ∙ ap (λ (l : List Finding). (found ++ goes.front) ++ l) all.0 ∙ append-nil (found ++ goes.front)), stop_is goes.last all.1, are_read (found ++ goes.front))
      ends_by (inr stop) = stops_end (found ++ goes.front) (findings shape (λ cloud. (later cloud).list) from user) goes.last from before later stop.0 stop.1 stop.2 stop.3 (are_read (found ++ goes.front))

      ends : EndsAs (found ++ goes.front) (findings shape (λ cloud. (later cloud).list) from user) goes.last from before later would
      ends = ends_by goes.ends
