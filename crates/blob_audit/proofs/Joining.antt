-- One reading after another.
use Rattle.std.proofs.Common.{◌≡◌, ℕ, Bool, true, false, Result, Ok, Err, refl, arith, sym, ◌∙◌, subst}
use Rattle.audit_base.specs.CdEdges.Disk.{Areas, Cloud, Image, reads}
use Rattle.audit_base.specs.CdEdges.Shelf.{IsCall, KeepsCounts}
use Rattle.audit_base.proofs.CdEdges.Calls.{called_twice, failed_after}
use Rattle.audit_base.proofs.CdEdges.Moments.{told_on}
use Rattle.blob_audit.specs.declared.errors.ReadErr.{ReadErr}
use Rattle.blob_audit.specs.declared.errors.ReadErr.TheVariants.{Fault}
use Rattle.blob_audit.specs.Steps.{IsFault, has_fault, Counted, IsOnlyRead}

counted_twice : (f : Bool) (a b c : ℕ → Cloud) (number before mid now : ℕ) → IsCall a b number before mid → KeepsCounts (a number) (b number) before mid → Counted f (b number) (c number) mid now → Counted f (a number) (c number) before now
counted_twice true a b c number before mid now call kept more = failed_after a b c number before mid now call more
counted_twice false a b c number before mid now call kept more = record { cloud = more.cloud ∙ kept.cloud; total = more.total ∙ kept.total }

-- a reading that answers behind one that was Ok
pub joined : {A B C : Type 0} (P : Image → Result A ReadErr → Type 0) (Q : Image → Result B ReadErr → Type 0) (R : Image → Result C ReadErr → Type 0) (a b c : ℕ → Cloud) (number before mid now : ℕ) (x : A) (r : Result B ReadErr) (s : Result C ReadErr)
    → has_fault s ≡ has_fault r → ((image : Image) → P image (Ok x) → Q image r → R image s)
    → IsOnlyRead P a b number before mid (Ok x) → IsOnlyRead Q b c number mid now r → IsOnlyRead R a c number before now s
joined P Q R a b c number before mid now x r s same both first second = record {
  told = λ told.
      both (reads (a number).now) (first.told told)
      (subst (λ (areas : Areas). Q (reads areas) r) first.stays.now (second.told (told_on (a number) (b number) first.call.told told)));
  stays = record {
    armed = second.stays.armed ∙ first.stays.armed;
    past = second.stays.past ∙ first.stays.past;
    now = second.stays.now ∙ first.stays.now;
  };
  call = called_twice a b c number before mid now first.call second.call;
  counts = subst (λ (f : Bool). Counted f (a number) (c number) before now) (sym same) (counted_twice (has_fault r) a b c number before mid now first.call first.counts second.counts);
}

-- the same reading, told in other words
pub retold : {A B : Type 0} (P : Image → Result A ReadErr → Type 0) (Q : Image → Result B ReadErr → Type 0) (a b : ℕ → Cloud) (number before now : ℕ) (r : Result A ReadErr) (s : Result B ReadErr)
    → has_fault s ≡ has_fault r → ((image : Image) → P image r → Q image s) → IsOnlyRead P a b number before now r → IsOnlyRead Q a b number before now s
retold P Q a b number before now r s same both first = record {
  told = λ told. both (reads (a number).now) (first.told told);
  stays = first.stays;
  call = first.call;
  counts = subst (λ (f : Bool). Counted f (a number) (b number) before now) (sym same) first.counts;
}

-- before the first call
pub unread : {A : Type 0} (P : Image → Result A ReadErr → Type 0) (a : ℕ → Cloud) (number before : ℕ) (x : A) → ((image : Image) → P image (Ok x)) → IsOnlyRead P a a number before before (Ok x)
unread P a number before x none = record {
  told = λ told. none (reads (a number).now);
  stays = record { armed = refl; past = refl; now = refl };
  call = record { others = λ other ne. refl; told = refl; armings = refl; later = omega arith; total_later = omega arith };
  counts = record { cloud = refl; total = refl };
}

-- a reading that failed
pub failed : {A B : Type 0} (P : Image → Result A ReadErr → Type 0) (Q : Image → Result B ReadErr → Type 0) (a b : ℕ → Cloud) (number before now : ℕ) (error : ReadErr)
    → IsFault error → ((image : Image) → Q image (Err Fault)) → IsOnlyRead P a b number before now (Err error) → IsOnlyRead Q a b number before now (Err error)
failed {A} {B} P Q a b number before now error fault all first =
    retold P Q a b number before now (Err error) (Err error) refl (λ image told. subst (λ (e : ReadErr). Q image (Err e)) (sym fault) (all image)) first
