-- The own certificate's lines, by their places.
use Rattle.std.proofs.Common.{◌≡◌, ℕ, zero, suc, ◌+◌, ◌-◌, ◌<◌, ◌≤◌, ◌^◌, List, [], ◌∷◌, ◌++◌, length, map, slice_get, slice_index_or, Option, Some, None, refl, sym, ap, ◌∙◌, subst, arith, append_assoc}
use Rattle.std.specs.FinMap.{entries}
use Rattle.audit_base.specs.Certificate.line.Heading.{Heading}
use Rattle.audit_base.specs.Certificate.line.ShareLine.{ShareLine}
use Rattle.audit_base.specs.Certificate.line.FileLine.{FileLine}
use Rattle.audit_base.specs.Certificate.line.CertificateLine.{CertificateLine}
use Rattle.audit_base.specs.Certificate.line.CertificateLine.TheVariants as lines
use Rattle.audit_base.specs.Certificate.Lines.{certificate_lines}
use Rattle.audit_base.specs.CloudMemory.cloud.CloudMemory.{CloudMemory}
use Rattle.audit_base.specs.Own.{share_line, file_line, live_shares}
use Rattle.audit_base.specs.Whole.{tables_of}
use Rattle.own_certificate.specs.Own.{own_by}
use Rattle.own_certificate.specs.Inner.{AreLinesOf, share_at, file_at}

-- ---- a list of one kind in front of more

module _ {A B C D : Type 0} (f : C → D) (g : B → C) (a : A → B) where
  abbrev all : List A → List D
  all xs = map f (map g (map a xs))

  length-all : (xs : List A) → length (all xs) ≡ length xs
  length-all [] = refl
  length-all (x ∷ xs) = ap suc (length-all xs)

  in_front : (xs : List A) (more : List D) (i : ℕ) (d : A) → i < length xs → slice_get (all xs ++ more) i ≡ Some (f (g (a (slice_index_or xs i d))))
  in_front [] more i d low = absurd (omega (arith, low))
  in_front (x ∷ xs) more zero d low = refl
  in_front (x ∷ xs) more (suc i) d low = in_front xs more i d (omega (arith, low))

  behind : (xs : List A) (more : List D) (i : ℕ) → length xs ≤ i → slice_get (all xs ++ more) i ≡ slice_get more (i - length xs)
  behind [] more i high = ap (slice_get more) (omega arith)
  behind (x ∷ xs) more zero high = absurd (omega (arith, high))
  behind (x ∷ xs) more (suc i) high =
      behind xs more i (omega (arith, high))
      ∙ ap (slice_get more) (let e : i - length xs ≡ suc i - suc (length xs) = omega arith in e)

length-mapped : {X Y : Type 0} (h : X → Y) (xs : List X) → length (map h xs) ≡ length xs
length-mapped h [] = refl
length-mapped h (x ∷ xs) = ap suc (length-mapped h xs)

length-append : {X : Type 0} (xs ys : List X) → length (xs ++ ys) ≡ length xs + length ys
length-append [] ys = omega arith
length-append (x ∷ xs) ys = let e = length-append xs ys in omega (arith, e)

-- ---- the own lines

pub own_count : (memory : CloudMemory) (shares files : List ℕ) (count : ℕ) → AreLinesOf shares files count memory → count ≡ length (live_shares (tables_of memory)) + length (entries memory.files.files)
own_count memory shares files count of =
    let s : length (live_shares (tables_of memory)) ≡ length shares = ap length (sym of.in_shares) ∙ length-mapped (share_at memory.shares) shares in
    let f : length (entries memory.files.files) ≡ length files = ap length (sym of.in_files) ∙ length-mapped (file_at memory.files) files in
    let both = of.all in
    omega (arith, s, f, both)

module _ (heading : Heading) (memory : CloudMemory) (shares files : List ℕ) (count : ℕ) (of : AreLinesOf shares files count memory) where
  abbrev own_lines : List CertificateLine
  own_lines = certificate_lines (own_by heading.shape heading.cloud memory)

  abbrev share_part : List CertificateLine
  share_part = all (λ (s : ShareLine). lines.Share s) share_line (share_at memory.shares) shares

  abbrev file_part : List CertificateLine
  file_part = all (λ (f : FileLine). lines.File f) file_line (file_at memory.files) files

  -- the lines by their slots
  own_parts : own_lines ≡ lines.Heading heading ∷ (share_part ++ (file_part ++ lines.End count ∷ []))
  own_parts =
      ap (λ rest. lines.Heading heading ∷ rest)
      (append_assoc (map (λ (s : ShareLine). lines.Share s) (map share_line (live_shares (tables_of memory))))
      (map (λ (f : FileLine). lines.File f) (map file_line (entries memory.files.files)))
      (lines.End (length (live_shares (tables_of memory)) + length (entries memory.files.files)) ∷ [])
      ∙ ap (λ xs. map (λ (s : ShareLine). lines.Share s) (map share_line xs)
      ++ (map (λ (f : FileLine). lines.File f) (map file_line (entries memory.files.files))
      ++ lines.End (length (live_shares (tables_of memory)) + length (entries memory.files.files)) ∷ [])) (sym of.in_shares)
      ∙ ap (λ xs. share_part
      ++ (map (λ (f : FileLine). lines.File f) (map file_line xs)
      ++ lines.End (length (live_shares (tables_of memory)) + length (entries memory.files.files)) ∷ [])) (sym of.in_files)
      ∙ ap (λ n. share_part ++ (file_part ++ lines.End n ∷ [])) (sym (own_count memory shares files count of)))

  pub length-own : length own_lines ≡ count + 2
  length-own =
      let whole = ap length own_parts in
      let front = length-append share_part (file_part ++ lines.End count ∷ []) in
      let back = length-append file_part (lines.End count ∷ []) in
      let s = length-all (λ (s : ShareLine). lines.Share s) share_line (share_at memory.shares) shares in
      let f = length-all (λ (f : FileLine). lines.File f) file_line (file_at memory.files) files in
      let both = of.all in
      omega (arith, whole, front, back, s, f, both)

  behind_heading : (index : ℕ) → 0 < index → slice_get own_lines index ≡ slice_get (share_part ++ (file_part ++ lines.End count ∷ [])) (index - 1)
  behind_heading zero some = absurd (omega (arith, some))
  behind_heading (suc i) some = ap (λ xs. slice_get xs (suc i)) own_parts ∙ ap (slice_get (share_part ++ (file_part ++ lines.End count ∷ []))) (let e : i ≡ suc i - 1 = omega arith in e)

  pub at_heading : (index : ℕ) → index ≡ 0 → slice_get own_lines index ≡ Some (lines.Heading heading)
  at_heading index first = ap (slice_get own_lines) first

  pub at_share : (index slot : ℕ) → 0 < index → index - 1 < length shares → slot ≡ slice_index_or shares (index - 1) 0 → (r : ShareLine) → r ≡ share_line (share_at memory.shares slot)
      → slice_get own_lines index ≡ Some (lines.Share r)
  at_share index slot some low is r line =
      behind_heading index some
      ∙ in_front (λ (s : ShareLine). lines.Share s) share_line (share_at memory.shares) shares (file_part ++ lines.End count ∷ []) (index - 1) 0 low
      ∙ ap (λ s. Some (lines.Share (share_line (share_at memory.shares s)))) (sym is)
      ∙ ap (λ l. Some (lines.Share l)) (sym line)

  behind_shares : (index : ℕ) → 0 < index → length shares ≤ index - 1 → slice_get own_lines index ≡ slice_get (file_part ++ lines.End count ∷ []) (index - 1 - length shares)
  behind_shares index some high =
      behind_heading index some
      ∙ behind (λ (s : ShareLine). lines.Share s) share_line (share_at memory.shares) shares (file_part ++ lines.End count ∷ []) (index - 1) high

  pub at_file : (index slot : ℕ) → 0 < index → length shares ≤ index - 1 → index - 1 - length shares < length files → slot ≡ slice_index_or files (index - 1 - length shares) 0
      → (r : FileLine) → r ≡ file_line (file_at memory.files slot) → slice_get own_lines index ≡ Some (lines.File r)
  at_file index slot some high low is r line =
      behind_shares index some high
      ∙ in_front (λ (f : FileLine). lines.File f) file_line (file_at memory.files) files (lines.End count ∷ []) (index - 1 - length shares) 0 low
      ∙ ap (λ s. Some (lines.File (file_line (file_at memory.files s)))) (sym is)
      ∙ ap (λ l. Some (lines.File l)) (sym line)

  pub at_end : (index : ℕ) → 0 < index → length shares ≤ index - 1 → length files ≤ index - 1 - length shares → index < count + 2 → slice_get own_lines index ≡ Some (lines.End count)
  at_end index some high higher low =
      let both = of.all in
      let last : index - 1 - length shares - length files ≡ 0 = omega (arith, some, high, higher, low, both) in
      behind_shares index some high
      ∙ behind (λ (f : FileLine). lines.File f) file_line (file_at memory.files) files (lines.End count ∷ []) (index - 1 - length shares) higher
      ∙ ap (slice_get (lines.End count ∷ [])) last
