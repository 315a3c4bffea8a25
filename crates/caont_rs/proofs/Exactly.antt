-- What opens are the shares of what comes.
use Rattle.std.proofs.Common.{◌≡◌, ◌≢◌, ◌↔◌, ℕ, zero, suc, ◌+◌, ◌-◌, ◌*◌, ◌<◌, ◌≤◌, ◌==◌, not, Bool, true, false, cond, List, [], ◌∷◌, ◌++◌, length, take, drop, replicate, slice_index, position, Option, Some, None, Result, Ok, Err, refl, sym, ap, subst, ◌∙◌, arith, length-drop, nat_eq}
use Rattle.std.specs.Cmp.Lexicographic.{pointwise, bytes_decides}
use Rattle.std.proofs.lemmas.List.{length-take, take-append-drop}
use Rattle.reed_solomon.specs.CdBase.shape.Shape.{Shape}
use Rattle.reed_solomon.specs.CdBase.Lengths.{share_len_of}
use Rattle.reed_solomon.specs.CdBase.Reading.{AreBytes}
use Rattle.sha2.specs.Sha256.{sha256}
use Rattle.sha2.proofs.Facts256.{length-sha256}
use Rattle.aes256.specs.Cipher.{added}
use Rattle.aes256.specs.Mask.{mask}
use Rattle.aes256.proofs.MaskLaws.{length-mask, added_twice}
use Rattle.reed_solomon.specs.Dispersal.{AreChoice, row, share_of}
use Rattle.reed_solomon.proofs.Recovery.{whole_rows}
use Rattle.caont_rs.specs.declared.opening.RecoverErr.{RecoverErr}
use Rattle.caont_rs.specs.declared.opening.RecoverErr.TheVariants.{BadSecret}
use Rattle.caont_rs.specs.Package.{padded, pad_len, body_of, tail_of, package_of, share}
use Rattle.caont_rs.specs.Opening.{package_at, body_in, key_in, text_in, fp, without_pad, opened_package, opened_text, opened}
use Rattle.caont_rs.proofs.Openings.{package_at_shares, length-package_at}
use Rattle.caont_rs.proofs.Opened.{pad_fits, position_some, length-added, gives_back}

-- ---- a result that is Ok

abbrev as_ok : List ℕ → Result (List ℕ) RecoverErr
as_ok x = Ok x

abbrev as_err : RecoverErr → Result (List ℕ) RecoverErr
as_err e = Err e

ok_is : (x y : List ℕ) → as_ok x ≡ Ok y → x ≡ y
ok_is x y e = cc

never_ok : (x : List ℕ) (e : RecoverErr) → as_err e ≡ Ok x → ⊥
never_ok x e same = cc

-- ---- the pad

-- all are zero, or one is the first that isn't
pub data FirstOther (xs : List ℕ) : Type 0 where
  NoOther : ((k : ℕ) → slice_index xs k ≡ 0) → FirstOther xs
  OtherAt : (i : ℕ) → i < length xs → slice_index xs i ≢ 0 → ((k : ℕ) → k < i → slice_index xs k ≡ 0) → FirstOther xs

first_other : (xs : List ℕ) → FirstOther xs
first_other [] = NoOther (λ k. refl)
first_other (suc n ∷ xs) = OtherAt 0 (omega arith) (λ e. omega (arith, e)) (λ k l. absurd (omega arith))
first_other (zero ∷ xs) = more (first_other xs)
  where
    later : ((k : ℕ) → slice_index xs k ≡ 0) → (k : ℕ) → slice_index (zero ∷ xs) k ≡ 0
    later none zero = refl
    later none (suc k) = none k

    front : (i : ℕ) → ((k : ℕ) → k < i → slice_index xs k ≡ 0) → (k : ℕ) → k < suc i → slice_index (zero ∷ xs) k ≡ 0
    front i none zero l = refl
    front i none (suc k) l = none k (omega arith)

    more : FirstOther xs → FirstOther (zero ∷ xs)
    more (NoOther none) = NoOther (later none)
    more (OtherAt i l other none) = OtherAt (suc i) (omega arith) other (front i none)

are_zeros : (xs : List ℕ) → ((k : ℕ) → slice_index xs k ≡ 0) → xs ≡ replicate (length xs) 0
are_zeros [] none = refl
are_zeros (x ∷ xs) none = let more = are_zeros xs (λ k. none (suc k)) in λ i. none 0 i ∷ more i

-- ---- a text that opens

pub record Opens (len : ℕ) (h text whole : List ℕ) : Type 0 where
  pub hash : sha256 whole ≡ h
  pub zeros : drop len whole ≡ replicate (length (drop len whole)) 0
  pub text_is : text ≡ take len whole

opens_text : (len : ℕ) (h text whole : List ℕ) → opened_text len h whole ≡ Ok text → Opens len h text whole
opens_text len h text whole e = by_hash (pointwise nat_eq h (sha256 whole)) refl e
  where
    by_pad : sha256 whole ≡ h → FirstOther (drop len whole) → without_pad len whole (position (λ byte. not (byte == 0)) (drop len whole)) ≡ Ok text → Opens len h text whole
    by_pad hash (NoOther none) e = by_none (position (λ byte. not (byte == 0)) (drop len whole)) e
      where
        by_none : (o : Option ℕ) → without_pad len whole o ≡ Ok text → Opens len h text whole
        by_none None e = record { hash = hash; zeros = are_zeros (drop len whole) none; text_is = sym (ok_is (take len whole) text e) }
        by_none (Some i) e = absurd (never_ok text _ e)
    by_pad hash (OtherAt i l other none) e =
        absurd (never_ok text _ (subst (λ (o : Option ℕ). without_pad len whole o ≡ Ok text) (position_some (drop len whole) i l other none) e))

    by_hash : (b : Bool) → pointwise nat_eq h (sha256 whole) ≡ b
        → cond b (without_pad len whole (position (λ byte. not (byte == 0)) (drop len whole))) (Err (BadSecret (fp h) (fp (sha256 whole)))) ≡ Ok text → Opens len h text whole
    by_hash true same e = by_pad (sym ((bytes_decides h (sha256 whole)).0 same)) (first_other (drop len whole)) e
    by_hash false same e = absurd (never_ok text _ e)

-- ---- the package that gives a text is the text's own

pub record IsPackage (s : Shape) (text p : List ℕ) (len : ℕ) : Type 0 where
  pub long : length text ≡ len
  pub is : package_of s text ≡ p

is_package : (s : Shape) (len : ℕ) (text p : List ℕ) → length p ≡ s.k * share_len_of s.k len → opened_package len p ≡ Ok text → IsPackage s text p len
unfolding opened_package package_of padded
is_package s len text p long e =
    let o : Opens len (key_in p) text (text_in p) = opens_text len (key_in p) text (text_in p) e in
    let fits : len + 32 ≤ s.k * share_len_of s.k len = pad_fits s.k len (omega (arith, s.several)) in
    let n : ℕ = length p - 32 in
    let y : List ℕ = body_in p in
    let t : List ℕ = drop n p in
    let h : List ℕ = key_in p in
    let x : List ℕ = text_in p in
    let long_y : length y ≡ n = omega (arith, length-take n p) in
    let long_t : length t ≡ 32 = omega (arith, length-drop n p) in
    let long_h : length h ≡ 32 = ap length (sym o.hash) ∙ length-sha256 x in
    let long_m : length (mask h (length y)) ≡ length y = length-mask h (length y) long_h in
    let long_x : length x ≡ length y = length-added y (mask h (length y)) (sym long_m) in
    let long_text : length text ≡ len = ap length o.text_is ∙ omega (arith, length-take len x) in
    let rest : length (drop len x) ≡ pad_len s.k (length text) = omega (arith, length-drop len x, ap (λ (v : ℕ). pad_len s.k v) long_text) in
    let whole : text ++ replicate (pad_len s.k (length text)) 0 ≡ x =
    (λ i. o.text_is i ++ replicate (sym rest i) 0) ∙ ap (λ (v : List ℕ). take len x ++ v) (sym o.zeros) ∙ take-append-drop len x in
    let body : body_of x ≡ y =
    (λ i. added x (mask (o.hash i) (long_x i))) ∙ added_twice y (mask h (length y)) (sym long_m) in
    let tail : tail_of x ≡ t =
    (λ i. added (o.hash i) (sha256 (body i))) ∙ added_twice t (sha256 y) (long_t ∙ sym (length-sha256 y)) in
    record {
      long = long_text;
      is = ap (λ (v : List ℕ). body_of v ++ tail_of v) whole ∙ (λ i. body i ++ tail i) ∙ take-append-drop n p;
    }

-- the rows are shares of a text of so many bytes
pub record AreSharesOf (s : Shape) (len : ℕ) (points given text : List ℕ) : Type 0 where
  pub long : length text ≡ len
  pub rows : (t : ℕ) → t < s.k → row (share_len_of s.k len) t given ≡ share s (slice_index points t) text

pub only_shares : (s : Shape) (len : ℕ) (text points given : List ℕ) → AreChoice s points → AreBytes given → length given ≡ s.k * share_len_of s.k len
    → opened s len points given ≡ Ok text → AreSharesOf s len points given text
unfolding opened share
only_shares s len text points given choice bytes long e =
    let p : List ℕ = package_at s points given in
    let whole = whole_rows s.k (share_len_of s.k len) (length given) (omega (arith, s.several)) long in
    let own : IsPackage s text p len = is_package s len text p (length-package_at s points given ∙ long) e in
    record {
      long = own.long;
      rows = λ t l. sym (ap (λ (v : List ℕ). share_of s v (slice_index points t)) own.is
          ∙ package_at_shares s points given choice whole.1 bytes t l ∙ ap (λ (v : ℕ). row v t given) whole.0);
    }

pub exactly : (s : Shape) (len : ℕ) (text points given : List ℕ) → AreChoice s points → AreBytes text → AreBytes given → length given ≡ s.k * share_len_of s.k len
    → (opened s len points given ≡ Ok text) ↔ ((length text ≡ len) × ((t : ℕ) → t < s.k → row (share_len_of s.k len) t given ≡ share s (slice_index points t) text))
exactly s len text points given choice bt bg long = (
  λ e. let o = only_shares s len text points given choice bg long e in (o.long, o.rows),
  λ are. subst (λ (v : ℕ). opened s v points given ≡ Ok text) are.0
      (gives_back s text points given choice bt bg (subst (λ (v : ℕ). length given ≡ s.k * share_len_of s.k v) (sym are.0) long)
      (λ t l. subst (λ (v : ℕ). row (share_len_of s.k v) t given ≡ share s (slice_index points t) text) (sym are.0) (are.1 t l))),
)
