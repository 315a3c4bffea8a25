-- A record has one answer.
use Rattle.std.proofs.Common.{◌≡◌, ℕ, Bool, List, Option, Some, None, refl, sym, ap, ◌∙◌, subst}
use Rattle.std.specs.Prelude.{Result, Ok, Err}
use Rattle.message_fields.specs.CdBase.rooms.Room.{Room}
use Rattle.record_checks.specs.FileIndex.key.Entry.{Entry}
use Rattle.record_checks.specs.RecordBody.Reading.{body_at}
use Rattle.record_checks.specs.RecordBody.Spelling.{Body}
use Rattle.record_checks.specs.RecordBody.body.BodyErr.{BodyErr}
use Rattle.record_checks.specs.CloudMemory.Memory.{Memory}
use Rattle.record_checks.specs.declared.ground.Ground.{Ground}
use Rattle.record_checks.specs.Checks.{body_fault, IsNamed}
use Rattle.record_checks.proofs.OneAnswer.{some_none, some_one, rights_or_fault, one_items_fault, rights_or_kept, one_kepts, read_once, fault_once, read_or_fault}
use Rattle.first_records.specs.declared.errors.FirstErr.{FirstErr}
use Rattle.first_records.specs.declared.errors.FirstErr.TheVariants.{Damaged}
use Rattle.first_records.specs.declared.errors.Fault.{Fault}
use Rattle.first_records.specs.declared.errors.Fault.TheVariants.{Field, Passes}
use Rattle.first_records.specs.Limits.{crowded, overfull}
use Rattle.first_records.specs.Judging.{err_of, Faulty, PutFaulty, Unplaced, Entered, NotWhole, NoEntry, NotNamed, KeptFaulty, Leaves, PutLeaves, CommitLeaves, DeleteLeaves, KeptLeaves, JudgesSaid, Crowded, Fails, Overfull, Fits, JudgesFirst, Foreign, Unread, Refused, Taken}

one_none : {A : Type 0} (o : Option A) (x : A) → o ≡ Some x → o ≡ None → ⊥
one_none o x some none = let wrong : Some x ≡ None = sym some ∙ none in cc

module _ (g : Ground) (inside : Bool) where
  -- ---- a record by what it says

  module _ (read : List ℕ) (m : Memory) where
    faulty_once : (b : Body) (p q : ℕ) → Faulty g inside read m b p → Faulty g inside read m b q → p ≡ q
    faulty_once b p q (PutFaulty user items p1 f) (PutFaulty user2 items2 q1 f2) = one_items_fault g inside user m items 7 p q f f2
    faulty_once b p q (Unplaced c l) (Unplaced c2 l2) = refl
    faulty_once b p q (Unplaced c l) (Entered c2 l2 s2) = absurd (l l2)
    faulty_once b p q (Unplaced c l) (NotWhole c2 l2 s2 w2) = absurd (l l2)
    faulty_once b p q (Entered c l s) (Unplaced c2 l2) = absurd (l2 l)
    faulty_once b p q (Entered c l s) (Entered c2 l2 s2) = refl
    faulty_once b p q (Entered c l s) (NotWhole c2 l2 s2 w2) = absurd (some_none _ s s2)
    faulty_once b p q (NotWhole c l s w) (Unplaced c2 l2) = absurd (l2 l)
    faulty_once b p q (NotWhole c l s w) (Entered c2 l2 s2) = absurd (some_none _ s2 s)
    faulty_once b p q (NotWhole c l s w) (NotWhole c2 l2 s2 w2) = refl
    faulty_once b p q (NoEntry d n) (NoEntry d2 n2) = refl
    faulty_once b p q (NoEntry d n) (NotNamed d2 e2 n2 w2) = refl
    faulty_once b p q (NotNamed d e n w) (NoEntry d2 n2) = refl
    faulty_once b p q (NotNamed d e n w) (NotNamed d2 e2 n2 w2) = refl
    faulty_once b p q (KeptFaulty items p1 f) (KeptFaulty items2 q1 f2) = one_kepts g inside m items 3 p q f f2

    fault_or_left : (b : Body) (p : ℕ) (a : Memory) → Faulty g inside read m b p → Leaves g inside read m b a → ⊥
    fault_or_left b p a (PutFaulty user items p1 f) (PutLeaves user2 items2 r) = rights_or_fault g inside user m items 7 p r f
    fault_or_left b p a (Unplaced c l) (CommitLeaves c2 l2 n2 w2) = l l2
    fault_or_left b p a (Entered c l s) (CommitLeaves c2 l2 n2 w2) = some_none _ s n2
    fault_or_left b p a (NotWhole c l s w) (CommitLeaves c2 l2 n2 w2) = w w2
    fault_or_left b p a (NoEntry d n) (DeleteLeaves d2 e2 n2 w2) = one_none _ e2 n2 n
    fault_or_left b p a (NotNamed d e n w) (DeleteLeaves d2 e2 n2 w2) = w (subst (λ (k : Entry). IsNamed g.shape k.fp read) (some_one _ e2 e n2 n) w2)
    fault_or_left b p a (KeptFaulty items p1 f) (KeptLeaves items2 r) = rights_or_kept g inside m items 3 p r f

    left_once : (b : Body) (x y : Memory) → Leaves g inside read m b x → Leaves g inside read m b y → x ≡ y
    left_once b x y (PutLeaves user items r) (PutLeaves user2 items2 r2) = refl
    left_once b x y (CommitLeaves c l n w) (CommitLeaves c2 l2 n2 w2) = refl
    left_once b x y (DeleteLeaves d e n w) (DeleteLeaves d2 e2 n2 w2) = refl
    left_once b x y (KeptLeaves items r) (KeptLeaves items2 r2) = refl

    pub said_once : (b : Body) (x y : Result Memory Fault) → JudgesSaid g inside read m b x → JudgesSaid g inside read m b y → x ≡ y
    said_once b x y (Crowded r s) (Crowded r2 s2) = ap (λ (k : Room). Err (Passes k)) (some_one (crowded m b) r r2 s s2)
    said_once b x y (Crowded r s) (Fails p2 n2 f2) = absurd (one_none (crowded m b) r s n2)
    said_once b x y (Crowded r s) (Overfull a2 r2 n2 l2 o2) = absurd (one_none (crowded m b) r s n2)
    said_once b x y (Crowded r s) (Fits a2 n2 l2 o2) = absurd (one_none (crowded m b) r s n2)
    said_once b x y (Fails p n f) (Crowded r2 s2) = absurd (one_none (crowded m b) r2 s2 n)
    said_once b x y (Fails p n f) (Fails p2 n2 f2) = ap (λ (k : ℕ). Err (Field k)) (faulty_once b p p2 f f2)
    said_once b x y (Fails p n f) (Overfull a2 r2 n2 l2 o2) = absurd (fault_or_left b p a2 f l2)
    said_once b x y (Fails p n f) (Fits a2 n2 l2 o2) = absurd (fault_or_left b p a2 f l2)
    said_once b x y (Overfull a r n l o) (Crowded r2 s2) = absurd (one_none (crowded m b) r2 s2 n)
    said_once b x y (Overfull a r n l o) (Fails p2 n2 f2) = absurd (fault_or_left b p2 a f2 l)
    said_once b x y (Overfull a r n l o) (Overfull a2 r2 n2 l2 o2) =
        ap (λ (k : Room). Err (Passes k)) (some_one (overfull b a) r r2 o (ap (overfull b) (left_once b a a2 l l2) ∙ o2))
    said_once b x y (Overfull a r n l o) (Fits a2 n2 l2 o2) = absurd (one_none (overfull b a) r o (ap (overfull b) (left_once b a a2 l l2) ∙ o2))
    said_once b x y (Fits a n l o) (Crowded r2 s2) = absurd (one_none (crowded m b) r2 s2 n)
    said_once b x y (Fits a n l o) (Fails p2 n2 f2) = absurd (fault_or_left b p2 a f2 l)
    said_once b x y (Fits a n l o) (Overfull a2 r2 n2 l2 o2) = absurd (one_none (overfull b a2) r2 o2 (ap (overfull b) (left_once b a2 a l2 l) ∙ o))
    said_once b x y (Fits a n l o) (Fits a2 n2 l2 o2) = ap Ok (left_once b a a2 l l2)

    -- ---- a record by its bytes

    -- what two readings of the bytes make of them
    both_said : (bytes : List ℕ) (a b : Body) (x y : Result Memory Fault) → body_at bytes ≡ Ok a → body_at bytes ≡ Ok b → JudgesSaid g inside read m a x → JudgesSaid g inside read m b y
        → x ≡ y
    both_said bytes a b x y one two j k = said_once b x y (subst (λ (z : Body). JudgesSaid g inside read m z x) (read_once bytes a b one two) j) k

    -- the answer by what a record says
    abbrev answer : ℕ → List ℕ → Result Memory Fault → Result Memory FirstErr
    answer at body (Ok a) = Ok a
    answer at body (Err fault) = Err (err_of at body fault)

    pub one_answer : (at : ℕ) (body : List ℕ) (x y : Result Memory FirstErr) → JudgesFirst g inside read m at body x → JudgesFirst g inside read m at body y → x ≡ y
    one_answer at body x y (Foreign k) (Foreign k2) = refl
    one_answer at body x y (Foreign k) (Unread e n r) = absurd (n k)
    one_answer at body x y (Foreign k) (Refused b f n r j) = absurd (n k)
    one_answer at body x y (Foreign k) (Taken b a n r j) = absurd (n k)
    one_answer at body x y (Unread e n r) (Foreign k) = absurd (n k)
    one_answer at body x y (Unread e n r) (Unread e2 n2 r2) = ap (λ (f : BodyErr). Err (Damaged (body_fault at body f))) (fault_once body e e2 r r2)
    one_answer at body x y (Unread e n r) (Refused b f n2 r2 j) = absurd (read_or_fault body b e r2 r)
    one_answer at body x y (Unread e n r) (Taken b a n2 r2 j) = absurd (read_or_fault body b e r2 r)
    one_answer at body x y (Refused b f n r j) (Foreign k) = absurd (n k)
    one_answer at body x y (Refused b f n r j) (Unread e n2 r2) = absurd (read_or_fault body b e r r2)
    one_answer at body x y (Refused b f n r j) (Refused b2 f2 n2 r2 j2) = ap (answer at body) (both_said body b b2 (Err f) (Err f2) r r2 j j2)
    one_answer at body x y (Refused b f n r j) (Taken b2 a2 n2 r2 j2) = ap (answer at body) (both_said body b b2 (Err f) (Ok a2) r r2 j j2)
    one_answer at body x y (Taken b a n r j) (Foreign k) = absurd (n k)
    one_answer at body x y (Taken b a n r j) (Unread e n2 r2) = absurd (read_or_fault body b e r r2)
    one_answer at body x y (Taken b a n r j) (Refused b2 f2 n2 r2 j2) = ap (answer at body) (both_said body b b2 (Ok a) (Err f2) r r2 j j2)
    one_answer at body x y (Taken b a n r j) (Taken b2 a2 n2 r2 j2) = ap (answer at body) (both_said body b b2 (Ok a) (Ok a2) r r2 j j2)
