-- One answer alone fits.
use Rattle.std.proofs.Common.{◌≡◌, ℕ, ◌+◌, Bool, List, length, Option, Some, None, Ok, Err, refl, sym, ap, ◌∙◌, subst}
use Rattle.std.specs.Prelude.{IsSome, Result, is_some}
use Rattle.std.specs.FinMap.{get}
use Rattle.cloud_memory.specs.CdBase.ids.UserId.{UserId}
use Rattle.cloud_memory.specs.FileIndex.key.Entry.{Entry}
use Rattle.cloud_memory.specs.RecordBody.body.KeptItem.{KeptItem}
use Rattle.cloud_memory.specs.RecordBody.Reading.{body_at}
use Rattle.cloud_memory.specs.RecordBody.Spelling.{Body}
use Rattle.cloud_memory.specs.RecordBody.body.BodyErr.{BodyErr}
use Rattle.cloud_memory.specs.RecordBody.body.PutItem.{PutItem}
use Rattle.cloud_memory.specs.RecordBody.FirstSpelling.{item_bytes}
use Rattle.cloud_memory.specs.Memory.{Memory}
use Rattle.cloud_memory.specs.Steps.{with_item, with_kept}
use Rattle.record_checks.specs.declared.damage.Damage.{Damage}
use Rattle.record_checks.specs.declared.ground.Ground.{Ground}
use Rattle.record_checks.specs.Checks.{damaged_at, body_fault, IsRightItem, ItemFault, Owned, Flag, Misplaced, AreRight, ItemsFault, Here, Later, IsRightKept, KeptFault, PlacedTwice, KeptMisplaced, AreRightKepts, KeptsFault, KeptHere, KeptLater, IsNamed}
use Rattle.record_checks.specs.Judging.{JudgesBody, PutFault, PutPast, PutTaken, Unplaced, Entered, NotWhole, CommitPast, CommitTaken, NoEntry, NotNamed, Deleted, KeptDamaged, KeptPast, KeptTaken, SpentPast, SpentTaken, Judges, Outside, Unread, Damaged, Taken}

-- something and nothing
pub some_none : {A : Type 0} (o : Option A) → IsSome o → o ≡ None → ⊥
some_none o some none = let wrong = sym (ap is_some none) ∙ some in cc

pub some_one : {A : Type 0} (o : Option A) (x y : A) → o ≡ Some x → o ≡ Some y → x ≡ y
some_one o x y a b = let same : Some x ≡ Some y = sym a ∙ b in cc

-- what is read is one body, or one fault
pub read_once : (bytes : List ℕ) (a b : Body) → body_at bytes ≡ Ok a → body_at bytes ≡ Ok b → a ≡ b
read_once bytes a b one two = let same : Ok a ≡ Ok b = sym one ∙ two in cc

pub fault_once : (bytes : List ℕ) (a b : BodyErr) → body_at bytes ≡ Err a → body_at bytes ≡ Err b → a ≡ b
fault_once bytes a b one two = let same : Err a ≡ Err b = sym one ∙ two in cc

pub read_or_fault : (bytes : List ℕ) (a : Body) (b : BodyErr) → body_at bytes ≡ Ok a → body_at bytes ≡ Err b → ⊥
read_or_fault bytes a b one two = let wrong : Ok a ≡ Err b = sym one ∙ two in cc

module _ (g : Ground) (inside : Bool) where
  -- ---- the shares of a Put

  right_or_fault : (user : UserId) (m : Memory) (item : PutItem) (from place : ℕ) → IsRightItem g inside m user item → ItemFault g inside m user item from place → ⊥
  right_or_fault user m item from place right (Owned own) = right.new own
  right_or_fault user m item from place right (Flag new other) = other right.flagged
  right_or_fault user m item from place right (Misplaced new flagged other) = other right.lies

  one_fault : (user : UserId) (m : Memory) (item : PutItem) (from p q : ℕ) → ItemFault g inside m user item from p → ItemFault g inside m user item from q → p ≡ q
  one_fault user m item from p q (Owned own) (Owned own2) = refl
  one_fault user m item from p q (Owned own) (Flag new other) = absurd (new own)
  one_fault user m item from p q (Owned own) (Misplaced new flagged other) = absurd (new own)
  one_fault user m item from p q (Flag new other) (Owned own) = absurd (new own)
  one_fault user m item from p q (Flag new other) (Flag new2 other2) = refl
  one_fault user m item from p q (Flag new other) (Misplaced new2 flagged other2) = absurd (other flagged)
  one_fault user m item from p q (Misplaced new flagged other) (Owned own) = absurd (new own)
  one_fault user m item from p q (Misplaced new flagged other) (Flag new2 other2) = absurd (other2 flagged)
  one_fault user m item from p q (Misplaced new flagged other) (Misplaced new2 flagged2 other2) = refl

  pub rights_or_fault : (user : UserId) (m : Memory) (items : List PutItem) (from place : ℕ) → AreRight g inside user m items → ItemsFault g inside user m from items place → ⊥
  rights_or_fault user m items from place right (Here m1 from1 item rest p1 fault) = right_or_fault user m item from place right.0 fault
  rights_or_fault user m items from place right (Later m1 from1 item rest p1 one fault) =
      rights_or_fault user (with_item user m item) rest (from + length (item_bytes item)) place right.1 fault

  pub one_items_fault : (user : UserId) (m : Memory) (items : List PutItem) (from p q : ℕ) → ItemsFault g inside user m from items p → ItemsFault g inside user m from items q → p ≡ q
  one_items_fault user m items from p q (Here m1 from1 item rest p1 fault) (Here m2 from2 item2 rest2 q1 fault2) = one_fault user m item from p q fault fault2
  one_items_fault user m items from p q (Here m1 from1 item rest p1 fault) (Later m2 from2 item2 rest2 q1 right fault2) = absurd (right_or_fault user m item from p right fault)
  one_items_fault user m items from p q (Later m1 from1 item rest p1 right fault) (Here m2 from2 item2 rest2 q1 fault2) = absurd (right_or_fault user m item from q right fault2)
  one_items_fault user m items from p q (Later m1 from1 item rest p1 right fault) (Later m2 from2 item2 rest2 q1 right2 fault2) =
      one_items_fault user (with_item user m item) rest (from + length (item_bytes item)) p q fault fault2

  -- ---- the shares of a Kept

  right_or_kept : (m : Memory) (item : KeptItem) (from place : ℕ) → IsRightKept g inside m item → KeptFault g inside m item from place → ⊥
  right_or_kept m item from place right (PlacedTwice has) = some_none (get m.places item.fp.0) has right.new
  right_or_kept m item from place right (KeptMisplaced new other) = other right.lies

  one_kept : (m : Memory) (item : KeptItem) (from p q : ℕ) → KeptFault g inside m item from p → KeptFault g inside m item from q → p ≡ q
  one_kept m item from p q (PlacedTwice has) (PlacedTwice has2) = refl
  one_kept m item from p q (PlacedTwice has) (KeptMisplaced new other) = absurd (some_none (get m.places item.fp.0) has new)
  one_kept m item from p q (KeptMisplaced new other) (PlacedTwice has) = absurd (some_none (get m.places item.fp.0) has new)
  one_kept m item from p q (KeptMisplaced new other) (KeptMisplaced new2 other2) = refl

  pub rights_or_kept : (m : Memory) (items : List KeptItem) (from place : ℕ) → AreRightKepts g inside m items → KeptsFault g inside m from items place → ⊥
  rights_or_kept m items from place right (KeptHere m1 from1 item rest p1 fault) = right_or_kept m item from place right.0 fault
  rights_or_kept m items from place right (KeptLater m1 from1 item rest p1 one fault) = rights_or_kept (with_kept m item) rest (from + 44) place right.1 fault

  pub one_kepts : (m : Memory) (items : List KeptItem) (from p q : ℕ) → KeptsFault g inside m from items p → KeptsFault g inside m from items q → p ≡ q
  one_kepts m items from p q (KeptHere m1 from1 item rest p1 fault) (KeptHere m2 from2 item2 rest2 q1 fault2) = one_kept m item from p q fault fault2
  one_kepts m items from p q (KeptHere m1 from1 item rest p1 fault) (KeptLater m2 from2 item2 rest2 q1 right fault2) = absurd (right_or_kept m item from p right fault)
  one_kepts m items from p q (KeptLater m1 from1 item rest p1 right fault) (KeptHere m2 from2 item2 rest2 q1 fault2) = absurd (right_or_kept m item from q right fault2)
  one_kepts m items from p q (KeptLater m1 from1 item rest p1 right fault) (KeptLater m2 from2 item2 rest2 q1 right2 fault2) =
      one_kepts (with_kept m item) rest (from + 44) p q fault fault2

  -- ---- a record

  module _ (read : List ℕ) (marks : List Bool) (m : Memory) where
    one_of_body : (b : Body) (x y : Result Memory ℕ) → JudgesBody g inside read marks m b x → JudgesBody g inside read marks m b y → x ≡ y
    one_of_body b x y (PutFault user items p f) (PutFault user2 items2 q f2) = ap Err (one_items_fault user m items 7 p q f f2)
    one_of_body b x y (PutFault user items p f) (PutPast user2 items2 r2 n2) = absurd (rights_or_fault user m items 7 p r2 f)
    one_of_body b x y (PutFault user items p f) (PutTaken user2 items2 r2 n2) = absurd (rights_or_fault user m items 7 p r2 f)
    one_of_body b x y (PutPast user items r n) (PutFault user2 items2 q f2) = absurd (rights_or_fault user m items 7 q r f2)
    one_of_body b x y (PutPast user items r n) (PutPast user2 items2 r2 n2) = refl
    one_of_body b x y (PutPast user items r n) (PutTaken user2 items2 r2 n2) = absurd (n n2)
    one_of_body b x y (PutTaken user items r n) (PutFault user2 items2 q f2) = absurd (rights_or_fault user m items 7 q r f2)
    one_of_body b x y (PutTaken user items r n) (PutPast user2 items2 r2 n2) = absurd (n2 n)
    one_of_body b x y (PutTaken user items r n) (PutTaken user2 items2 r2 n2) = refl
    one_of_body b x y (Unplaced c l) (Unplaced c2 l2) = refl
    one_of_body b x y (Unplaced c l) (Entered c2 l2 s2) = absurd (l l2)
    one_of_body b x y (Unplaced c l) (NotWhole c2 l2 s2 w2) = absurd (l l2)
    one_of_body b x y (Unplaced c l) (CommitPast c2 l2 s2 w2 f2) = absurd (l l2)
    one_of_body b x y (Unplaced c l) (CommitTaken c2 l2 s2 w2 f2) = absurd (l l2)
    one_of_body b x y (Entered c l s) (Unplaced c2 l2) = absurd (l2 l)
    one_of_body b x y (Entered c l s) (Entered c2 l2 s2) = refl
    one_of_body b x y (Entered c l s) (NotWhole c2 l2 s2 w2) = absurd (some_none _ s s2)
    one_of_body b x y (Entered c l s) (CommitPast c2 l2 s2 w2 f2) = absurd (some_none _ s s2)
    one_of_body b x y (Entered c l s) (CommitTaken c2 l2 s2 w2 f2) = absurd (some_none _ s s2)
    one_of_body b x y (NotWhole c l s w) (Unplaced c2 l2) = absurd (l2 l)
    one_of_body b x y (NotWhole c l s w) (Entered c2 l2 s2) = absurd (some_none _ s2 s)
    one_of_body b x y (NotWhole c l s w) (NotWhole c2 l2 s2 w2) = refl
    one_of_body b x y (NotWhole c l s w) (CommitPast c2 l2 s2 w2 f2) = absurd (w w2)
    one_of_body b x y (NotWhole c l s w) (CommitTaken c2 l2 s2 w2 f2) = absurd (w w2)
    one_of_body b x y (CommitPast c l s w f) (Unplaced c2 l2) = absurd (l2 l)
    one_of_body b x y (CommitPast c l s w f) (Entered c2 l2 s2) = absurd (some_none _ s2 s)
    one_of_body b x y (CommitPast c l s w f) (NotWhole c2 l2 s2 w2) = absurd (w2 w)
    one_of_body b x y (CommitPast c l s w f) (CommitPast c2 l2 s2 w2 f2) = refl
    one_of_body b x y (CommitPast c l s w f) (CommitTaken c2 l2 s2 w2 f2) = absurd (f f2)
    one_of_body b x y (CommitTaken c l s w f) (Unplaced c2 l2) = absurd (l2 l)
    one_of_body b x y (CommitTaken c l s w f) (Entered c2 l2 s2) = absurd (some_none _ s2 s)
    one_of_body b x y (CommitTaken c l s w f) (NotWhole c2 l2 s2 w2) = absurd (w2 w)
    one_of_body b x y (CommitTaken c l s w f) (CommitPast c2 l2 s2 w2 f2) = absurd (f2 f)
    one_of_body b x y (CommitTaken c l s w f) (CommitTaken c2 l2 s2 w2 f2) = refl
    one_of_body b x y (NoEntry d n) (NoEntry d2 n2) = refl
    one_of_body b x y (NoEntry d n) (NotNamed d2 e2 n2 w2) = refl
    one_of_body b x y (NoEntry d n) (Deleted d2 e2 n2 w2) = absurd (let wrong : None ≡ Some e2 = sym n ∙ n2 in cc)
    one_of_body b x y (NotNamed d e n w) (NoEntry d2 n2) = refl
    one_of_body b x y (NotNamed d e n w) (NotNamed d2 e2 n2 w2) = refl
    one_of_body b x y (NotNamed d e n w) (Deleted d2 e2 n2 w2) = absurd (w (subst (λ (k : Entry). IsNamed g.shape k.fp read) (some_one _ e2 e n2 n) w2))
    one_of_body b x y (Deleted d e n w) (NoEntry d2 n2) = absurd (let wrong : None ≡ Some e = sym n2 ∙ n in cc)
    one_of_body b x y (Deleted d e n w) (NotNamed d2 e2 n2 w2) = absurd (w2 (subst (λ (k : Entry). IsNamed g.shape k.fp read) (some_one _ e e2 n n2) w))
    one_of_body b x y (Deleted d e n w) (Deleted d2 e2 n2 w2) = refl
    one_of_body b x y (KeptDamaged items p f) (KeptDamaged items2 q f2) = ap Err (one_kepts m items 3 p q f f2)
    one_of_body b x y (KeptDamaged items p f) (KeptPast items2 r2 n2) = absurd (rights_or_kept m items 3 p r2 f)
    one_of_body b x y (KeptDamaged items p f) (KeptTaken items2 r2 n2) = absurd (rights_or_kept m items 3 p r2 f)
    one_of_body b x y (KeptPast items r n) (KeptDamaged items2 q f2) = absurd (rights_or_kept m items 3 q r f2)
    one_of_body b x y (KeptPast items r n) (KeptPast items2 r2 n2) = refl
    one_of_body b x y (KeptPast items r n) (KeptTaken items2 r2 n2) = absurd (n n2)
    one_of_body b x y (KeptTaken items r n) (KeptDamaged items2 q f2) = absurd (rights_or_kept m items 3 q r f2)
    one_of_body b x y (KeptTaken items r n) (KeptPast items2 r2 n2) = absurd (n2 n)
    one_of_body b x y (KeptTaken items r n) (KeptTaken items2 r2 n2) = refl
    one_of_body b x y (SpentPast s n) (SpentPast s2 n2) = refl
    one_of_body b x y (SpentPast s n) (SpentTaken s2 n2) = absurd (n n2)
    one_of_body b x y (SpentTaken s n) (SpentPast s2 n2) = absurd (n2 n)
    one_of_body b x y (SpentTaken s n) (SpentTaken s2 n2) = refl

    place_once : (p q : ℕ) (x y : Result Memory ℕ) → x ≡ Err p → y ≡ Err q → x ≡ y → p ≡ q
    place_once p q x y a b e = let same : Err p ≡ Err q = sym a ∙ e ∙ b in cc

    memory_once : (p q : Memory) (x y : Result Memory ℕ) → x ≡ Ok p → y ≡ Ok q → x ≡ y → p ≡ q
    memory_once p q x y a b e = let same : Ok p ≡ Ok q = sym a ∙ e ∙ b in cc

    damage_or_taken : (p : ℕ) (q : Memory) (x y : Result Memory ℕ) → x ≡ Err p → y ≡ Ok q → x ≡ y → ⊥
    damage_or_taken p q x y a b e = let wrong : Err p ≡ Ok q = sym a ∙ e ∙ b in cc

    pub one_answer : (at : ℕ) (body : List ℕ) (x y : Result Memory Damage) → Judges g inside read marks m at body x → Judges g inside read marks m at body y → x ≡ y
    one_answer at body x y (Outside i k) (Outside i2 k2) = refl
    one_answer at body x y (Outside i k) (Unread e n r) = absurd (n (i, k))
    one_answer at body x y (Outside i k) (Damaged b p n r j) = absurd (n (i, k))
    one_answer at body x y (Outside i k) (Taken b a n r j) = absurd (n (i, k))
    one_answer at body x y (Unread e n r) (Outside i k) = absurd (n (i, k))
    one_answer at body x y (Unread e n r) (Unread e2 n2 r2) = ap (λ (f : BodyErr). Err (body_fault at body f)) (fault_once body e e2 r r2)
    one_answer at body x y (Unread e n r) (Damaged b p n2 r2 j) = absurd (read_or_fault body b e r2 r)
    one_answer at body x y (Unread e n r) (Taken b a n2 r2 j) = absurd (read_or_fault body b e r2 r)
    one_answer at body x y (Damaged b p n r j) (Outside i k) = absurd (n (i, k))
    one_answer at body x y (Damaged b p n r j) (Unread e n2 r2) = absurd (read_or_fault body b e r r2)
    one_answer at body x y (Damaged b p n r j) (Damaged b2 q n2 r2 j2) =
        let same = one_of_body b2 (Err p) (Err q) (subst (λ (z : Body). JudgesBody g inside read marks m z (Err p)) (read_once body b b2 r r2) j) j2 in
        ap (λ (k : ℕ). Err (damaged_at at body k)) (place_once p q (Err p) (Err q) refl refl same)
    one_answer at body x y (Damaged b p n r j) (Taken b2 a n2 r2 j2) =
        absurd (damage_or_taken p a (Err p) (Ok a) refl refl (one_of_body b2 (Err p) (Ok a) (subst (λ (z : Body). JudgesBody g inside read marks m z (Err p)) (read_once body b b2 r r2) j) j2))
    one_answer at body x y (Taken b a n r j) (Outside i k) = absurd (n (i, k))
    one_answer at body x y (Taken b a n r j) (Unread e n2 r2) = absurd (read_or_fault body b e r r2)
    one_answer at body x y (Taken b a n r j) (Damaged b2 p n2 r2 j2) =
        absurd (damage_or_taken p a (Err p) (Ok a) refl refl (sym (one_of_body b2 (Ok a) (Err p) (subst (λ (z : Body). JudgesBody g inside read marks m z (Ok a)) (read_once body b b2 r r2) j) j2)))
    one_answer at body x y (Taken b a n r j) (Taken b2 a2 n2 r2 j2) =
        let same = one_of_body b2 (Ok a) (Ok a2) (subst (λ (z : Body). JudgesBody g inside read marks m z (Ok a)) (read_once body b b2 r r2) j) j2 in
        ap Ok (memory_once a a2 (Ok a) (Ok a2) refl refl same)
