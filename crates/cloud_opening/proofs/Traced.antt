-- The place fields that are noted: where none is, no blob has moved the end. And what is taken fits records.
use Rattle.std.specs.Prelude.{All}
use Rattle.std.proofs.Common.{◌≡◌, inr, ℕ, ◌+◌, Bool, true, false, List, [], ◌∷◌, length, max, Option, Some, None, Result, Ok, Err, refl, sym, ◌∙◌, ap, subst, arith, if◌then◌else◌, nat_lt}
use Rattle.cloud_disk.specs.CdBase.ids.Fp.{Fp}
use Rattle.cloud_disk.specs.CdBase.ids.UserId.{UserId}
use Rattle.cloud_disk.specs.RecordBody.body.KeptItem.{KeptItem}
use Rattle.cloud_disk.specs.RecordBody.Reading.{body_at}
use Rattle.cloud_disk.specs.RecordBody.Spelling.{Body, FitsBody}
use Rattle.cloud_disk.specs.RecordBody.body.CommitBody.{CommitBody}
use Rattle.cloud_disk.specs.RecordBody.body.PutItem.{PutItem}
use Rattle.cloud_disk.specs.RecordBody.FirstSpelling.{FitsItem, item_bytes}
use Rattle.cloud_disk.specs.CdBase.place.Place.{Place}
use Rattle.record_laws.specs.SpentTable.Spent.{Spent}
use Rattle.cloud_disk.specs.UserDedup.Requests.{fps_of}
use Rattle.cloud_disk.specs.CloudAreas.Placing.{end_of}
use Rattle.record_laws.specs.RecordChecks.CloudMemory.Memory.{Memory}
use Rattle.record_laws.specs.RecordChecks.CloudMemory.Steps.{end_with, with_entry, with_item, with_items, with_kept, with_kepts, spent_on}
use Rattle.record_laws.specs.RecordChecks.damage.Damage.{Damage}
use Rattle.record_laws.specs.RecordChecks.ground.Ground.{Ground}
use Rattle.record_laws.specs.RecordChecks.taking.Taking.{Taking}
use Rattle.record_laws.specs.RecordChecks.Checks.{damaged_at, put_items, kept_items, place_at, spends_behind, AreRight, PutFits, CommitFits}
use Rattle.record_laws.specs.RecordChecks.Judging.{put_left, JudgesBody, PutFault, PutPast, PutTaken, Unplaced, Entered, NotWhole, CommitPast, CommitTaken, NoEntry, NotNamed, Deleted, KeptDamaged, KeptPast, KeptTaken, SpentPast, SpentTaken, Judges, Outside, Unread, Damaged, Taken}
use Rattle.record_laws.specs.RecordChecks.Noting.{farther_field, put_field, kept_field, noted, IsNoted}
use Rattle.record_laws.proofs.RecordChecks.MemoryProofs.Fitting.{entry_fits, delete_fits, kepts_fit, spent_fits}
use Rattle.record_laws.proofs.Places.{kepts_spent}
use Rattle.cloud_opening.specs.Roomy.{SpendWithin}
use Rattle.cloud_opening.specs.Steps.{IsTraced}
use Rattle.cloud_opening.proofs.Fit.{behind_fits, items_fit}
use Rattle.cloud_opening.proofs.Roomy.{within_set, items_spent, behind_within}

-- where a place's field isn't noted, the place doesn't lie behind the end
some_none : {X : Type 0} (x : X) → Some x ≡ None → ⊥
some_none x e = cc

not_farther : (end far : ℕ) (field : Option Damage) (here : Damage) (b : Bool) → nat_lt end far ≡ b → (if b then Some here else field) ≡ None → (field ≡ None) × (max end far ≡ end)
not_farther end far field here true e none = absurd (some_none here none)
not_farther end far field here false e none = (none, grind (arith, e))

field_none : (end : ℕ) (field : Option Damage) (place : Option Place) (here : Damage) → farther_field end field place here ≡ None → (field ≡ None) × (end_with end place ≡ end)
field_none end field None here none = (none, refl)
field_none end field (Some place) here none = not_farther end (end_of place) field here (nat_lt end (end_of place)) refl none

put_none : (user : UserId) (at : ℕ) (body : List ℕ) (from : ℕ) (field : Option Damage) (m : Memory) (items : List PutItem) → put_field at body m.shares_end from field items ≡ None
    → (field ≡ None) × ((with_items user m items).shares_end ≡ m.shares_end)
put_none user at body from field m [] none = (none, refl)
put_none user at body from field m (item ∷ items) none =
    let here = damaged_at at body (from + 33) in
    let rest = put_none user at body (from + length (item_bytes item)) (farther_field m.shares_end field item.place here) (with_item user m item) items none in
    let first = field_none m.shares_end field item.place here rest.0 in
    (first.0, rest.1 ∙ first.1)

kept_none : (at : ℕ) (body : List ℕ) (from : ℕ) (field : Option Damage) (m : Memory) (items : List KeptItem) → kept_field at body m.shares_end from field items ≡ None
    → (field ≡ None) × ((with_kepts m items).shares_end ≡ m.shares_end)
kept_none at body from field m [] none = (none, refl)
kept_none at body from field m (item ∷ items) none =
    let here = damaged_at at body (from + 32) in
    let rest = kept_none at body (from + 44) (farther_field m.shares_end field (Some item.place) here) (with_kept m item) items none in
    let first = field_none m.shares_end field (Some item.place) here rest.0 in
    (first.0, rest.1 ∙ first.1)

-- what is spent moves no end
spends_shares : (inside : Bool) (user : UserId) (more : Spent) (m : Memory) → (spends_behind inside user more m).shares_end ≡ m.shares_end
spends_shares true user more m = refl
spends_shares false user more m = refl

spends_recipes : (inside : Bool) (user : UserId) (more : Spent) (m : Memory) → (spends_behind inside user more m).recipes_end ≡ m.recipes_end
spends_recipes true user more m = refl
spends_recipes false user more m = refl

put_recipes : (user : UserId) (m : Memory) (items : List PutItem) → (with_items user m items).recipes_end ≡ m.recipes_end
put_recipes user m [] = refl
put_recipes user m (item ∷ items) = put_recipes user (with_item user m item) items

kept_recipes : (m : Memory) (items : List KeptItem) → (with_kepts m items).recipes_end ≡ m.recipes_end
kept_recipes m [] = refl
kept_recipes m (item ∷ items) = kept_recipes (with_kept m item) items

-- the memory of an answer
abbrev memory_or : {E : Type 0} → Memory → Result Memory E → Memory
memory_or other (Ok m) = m
memory_or other (Err e) = other

-- an answer without its damage
abbrev bare : Result Memory Damage → Result Memory ℕ
bare (Ok m) = Ok m
bare (Err damage) = Err 0

no_ok : (place : ℕ) (m : Memory) → Err place ≡ Ok m → ⊥
no_ok place m e = cc

no_answer : (damage : Damage) (m : Memory) → Err damage ≡ Ok m → ⊥
no_answer damage m e = cc

module _ (g : Ground) (inside : Bool) (read : List ℕ) (marks : List Bool) (old : Memory) (at : ℕ) (body : List ℕ) (t : Taking) (traced : IsTraced g old t)
    (fits_body : (b : Body) → body_at body ≡ Ok b → FitsBody b) where
  put_traced : (user : UserId) (items : List PutItem) (more : Spent) → All FitsItem items → AreRight g inside user old items
      → SpendWithin g.rooms (spends_behind inside user more (with_items user old items)).spent → IsTraced g (spends_behind inside user more (with_items user old items))
      (record { spent = t.spent; shares_field = put_field at body old.shares_end put_items t.shares_field items; recipes_field = t.recipes_field })
  put_traced user items more all right within = record {
    shares = λ none. let f = put_none user at body put_items t.shares_field old items none in spends_shares inside user more (with_items user old items) ∙ f.1 ∙ traced.shares f.0;
    recipes = λ none. spends_recipes inside user more (with_items user old items) ∙ put_recipes user old items ∙ traced.recipes none;
    fit = behind_fits inside user more (with_items user old items) (items_fit g inside user items old all right traced.fit);
    spent = within;
  }

  put_within : (user : UserId) (items : List PutItem) → PutFits g inside user items (with_items user old items)
      → SpendWithin g.rooms (put_left inside user items old).spent
  put_within user items fits =
      let filled = with_items user old items in
      let within : SpendWithin g.rooms filled.spent = subst (SpendWithin g.rooms) (sym (items_spent user old items)) traced.spent in
      let recipes = within.recipes user in
      behind_within inside g.rooms user (spent_on filled items) filled within fits.owners fits.shares (inr (omega (arith, recipes)))

  commit_within : (c : CommitBody) (names : List Fp) → CommitFits g inside c old
      → SpendWithin g.rooms (spends_behind inside c.user (record { owners = 0; shares = 0; recipes = c.len }) (with_entry names c old)).spent
  commit_within c names fits =
      let owners = traced.spent.owners c.user in let shares = traced.spent.shares c.user in
      behind_within inside g.rooms c.user (record { owners = 0; shares = 0; recipes = c.len }) (with_entry names c old) traced.spent
      (inr (omega (arith, owners))) (inr (omega (arith, shares))) fits.recipes

  body_traced : (b : Body) → FitsBody b → (answer : Result Memory ℕ) → JudgesBody g inside read marks old b answer → (new : Memory) → answer ≡ Ok new → IsTraced g new (noted at body old t b)
  body_traced b said answer (PutFault user items place fault) new e = absurd (no_ok _ new e)
  body_traced b said answer (PutPast user items right past) new e = absurd (no_ok _ new e)
  body_traced b said answer (PutTaken user items right fits) new e = subst (λ (m : Memory). IsTraced g m (noted at body old t b)) (ap (memory_or old) e) (put_traced user items _ said.1.1 right (put_within user items fits))
  body_traced b said answer (Unplaced c none) new e = absurd (no_ok _ new e)
  body_traced b said answer (Entered c lies there) new e = absurd (no_ok _ new e)
  body_traced b said answer (NotWhole c lies none unlike) new e = absurd (no_ok _ new e)
  body_traced b said answer (CommitPast c lies none whole past) new e = absurd (no_ok _ new e)
  body_traced b said answer (CommitTaken c lies none whole fits) new e = subst (λ (m : Memory). IsTraced g m (noted at body old t b)) (ap (memory_or old) e) (record {
    shares = λ none. spends_shares inside c.user _ _ ∙ traced.shares none;
    recipes = λ none. let f = field_none old.recipes_end t.recipes_field (Some (record { at = c.at; len = c.len })) (damaged_at at body place_at) none in spends_recipes inside c.user _ _ ∙ f.1 ∙ traced.recipes f.0;
    fit = behind_fits inside c.user (record { owners = 0; shares = 0; recipes = c.len }) (with_entry (fps_of g.shape read) c old)
        (entry_fits (fps_of g.shape read) c old said.some lies.0 whole.1 traced.fit);
    spent = commit_within c (fps_of g.shape read) fits;
  })
  body_traced b said answer (NoEntry d none) new e = absurd (no_ok _ new e)
  body_traced b said answer (NotNamed d entry there unlike) new e = absurd (no_ok _ new e)
  body_traced b said answer (Deleted d entry there named) new e = subst (λ (m : Memory). IsTraced g m (noted at body old t b)) (ap (memory_or old) e) (record { shares = traced.shares; recipes = traced.recipes; fit = delete_fits (fps_of g.shape read) d.user _ old traced.fit; spent = traced.spent })
  body_traced b said answer (KeptDamaged items place fault) new e = absurd (no_ok _ new e)
  body_traced b said answer (KeptPast items right past) new e = absurd (no_ok _ new e)
  body_traced b said answer (KeptTaken items right fits) new e = subst (λ (m : Memory). IsTraced g m (noted at body old t b)) (ap (memory_or old) e) (record {
    shares = λ none. let f = kept_none at body kept_items t.shares_field old items none in f.1 ∙ traced.shares f.0;
    recipes = λ none. kept_recipes old items ∙ traced.recipes none;
    fit = kepts_fit items old said.1 traced.fit;
    spent = subst (SpendWithin g.rooms) (sym (kepts_spent old items)) traced.spent;
  })
  body_traced b said answer (SpentPast spent past) new e = absurd (no_ok _ new e)
  body_traced b said answer (SpentTaken spent may) new e = subst (λ (m : Memory). IsTraced g m (noted at body old t b)) (ap (memory_or old) e) (record { shares = traced.shares; recipes = traced.recipes; fit = spent_fits spent.user _ old traced.fit; spent = within_set g.rooms old.spent spent.user (record { owners = spent.owners; shares = spent.shares; recipes = spent.recipes }) traced.spent may.owners may.shares may.recipes })

  by_judging : (answer : Result Memory Damage) → Judges g inside read marks old at body answer → (new : Memory) → answer ≡ Ok new → (after : Taking) → IsNoted at body old t after → IsTraced g new after
  by_judging answer (Outside behind of) new e after is_noted = absurd (no_answer _ new e)
  by_judging answer (Unread err not is) new e after is_noted = absurd (no_answer _ new e)
  by_judging answer (Damaged b place not is judged) new e after is_noted = absurd (no_answer _ new e)
  by_judging answer (Taken b m not is judged) new e after is_noted =
      subst (λ (u : Taking). IsTraced g new u) (sym (is_noted b is)) (body_traced b (fits_body b is) (Ok m) judged new (ap bare e))

  pub traced_next : (new : Memory) (after : Taking) → Judges g inside read marks old at body (Ok new) → IsNoted at body old t after → IsTraced g new after
  traced_next new after judged is_noted = by_judging (Ok new) judged new refl after is_noted
