-- The lines of the session as lists, and the files that they upload.
use Rattle.std.proofs.Common.{◌≡◌, ℕ, zero, suc, ◌+◌, ◌-◌, ◌*◌, ◌<◌, ◌≤◌, List, [], ◌∷◌, ◌++◌, map, length, refl, sym, ap, ◌∙◌, subst, inl, inr, ◌⊎◌, arith, append-nil, append_assoc}
use Rattle.std.specs.List.{flat_map, range_with_len, Contains}
use Rattle.std.proofs.lemmas.List.{map-append, length-append, length-map}
use Rattle.std.proofs.lemmas.List.Concat.{flat_map-append}
use Rattle.std.proofs.lemmas.List.Elements.{Contains-append_left, Contains-append_right, Contains-append_cases}
use Rattle.std.proofs.lemmas.List.FromFn.{length-range_with_len}
use Rattle.subset_restore.proofs.UserDedup.Owned.{contains_here}
use Rattle.lane_steps.specs.CdBase.ids.Version.{Version}
use Rattle.lane_steps.specs.UploadJob.Upload.{FileVersion}
use Rattle.replay_core.specs.Session.event.Event.{Event}
use Rattle.replay_core.specs.SessionModel.Steps.{version_of}
use Rattle.replay_core.specs.SessionModel.Kept.{upload_of, uploads}
use Rattle.replay_core.proofs.ScriptLines.Bringing.{range_split}
use Rattle.generated_session.specs.Drawn.{file_of}
use Rattle.generated_session.specs.Lines.{user_at, version_at, file_path, upload_lines, get_line, generated_lines}
use Rattle.generated_session.specs.Progress.{IsFileOf}
use Rattle.generated_session.proofs.Ranges.{range_more}

-- ---- one file more

pub uploads_so_far : (seed pieces n : ℕ) → flat_map (upload_lines seed pieces) (range_with_len 1 (n + 1))
    ≡ flat_map (upload_lines seed pieces) (range_with_len 1 n) ++ upload_lines seed pieces (n + 1)
uploads_so_far seed pieces n =
    let e : 1 + n ≡ n + 1 = omega arith in
    ap (flat_map (upload_lines seed pieces)) (range_more 1 n ∙ ap (λ (k : ℕ). range_with_len 1 n ++ k ∷ []) e)
    ∙ flat_map-append (upload_lines seed pieces) (range_with_len 1 n) ((n + 1) ∷ [])
    ∙ ap (λ (l : List Event). flat_map (upload_lines seed pieces) (range_with_len 1 n) ++ l) (append-nil (upload_lines seed pieces (n + 1)))

pub gets_so_far : (n : ℕ) → map get_line (range_with_len 1 (n + 1)) ≡ map get_line (range_with_len 1 n) ++ get_line (n + 1) ∷ []
gets_so_far n =
    let e : 1 + n ≡ n + 1 = omega arith in
    ap (map get_line) (range_more 1 n ∙ ap (λ (k : ℕ). range_with_len 1 n ++ k ∷ []) e) ∙ map-append get_line (range_with_len 1 n) ((n + 1) ∷ [])

-- the numbers from 1 to n, those so far first
range_at : (i n : ℕ) → i < n → (k : ℕ) × (range_with_len 1 n ≡ range_with_len 1 i ++ (i + 1) ∷ range_with_len (i + 2) k)
range_at i n lt =
    let k = n - (i + 1) in
    let e : n ≡ i + suc k = omega arith in
    let f : 1 + i ≡ i + 1 = omega arith in
    let g : i + 1 + 1 ≡ i + 2 = omega arith in
    (k, ap (range_with_len 1) e ∙ range_split 1 i k ∙ ap (λ (b : ℕ). range_with_len 1 i ++ b ∷ range_with_len (b + 1) k) f ∙ ap (λ (b : ℕ). range_with_len 1 i ++ (i + 1) ∷ range_with_len b k) g)

-- those of which i + 1 is the next are a front of all
pub uploads_front : (seed pieces i n : ℕ) → i < n → (rest : List Event)
    × (flat_map (upload_lines seed pieces) (range_with_len 1 i) ++ upload_lines seed pieces (i + 1) ++ rest ≡ flat_map (upload_lines seed pieces) (range_with_len 1 n))
uploads_front seed pieces i n lt =
    let r = range_at i n lt in
    let f = upload_lines seed pieces in (
      flat_map f (range_with_len (i + 2) r.0),
      sym (ap (flat_map f) r.1 ∙ flat_map-append f (range_with_len 1 i) ((i + 1) ∷ range_with_len (i + 2) r.0)
          ∙ sym (append_assoc (flat_map f (range_with_len 1 i)) (f (i + 1)) (flat_map f (range_with_len (i + 2) r.0)))),
    )

pub gets_front : (i n : ℕ) → i < n → (rest : List Event) × (map get_line (range_with_len 1 i) ++ get_line (i + 1) ∷ [] ++ rest ≡ map get_line (range_with_len 1 n))
gets_front i n lt =
    let r = range_at i n lt in (
      map get_line (range_with_len (i + 2) r.0),
      sym (ap (map get_line) r.1 ∙ map-append get_line (range_with_len 1 i) ((i + 1) ∷ range_with_len (i + 2) r.0)
          ∙ sym (append_assoc (map get_line (range_with_len 1 i)) (get_line (i + 1) ∷ []) (map get_line (range_with_len (i + 2) r.0)))),
    )

-- ---- how many lines there are

uploads_len : (seed pieces a n : ℕ) → length (flat_map (upload_lines seed pieces) (range_with_len a n)) ≡ 2 * n
uploads_len seed pieces a zero = refl
uploads_len seed pieces a (suc n) = let e = uploads_len seed pieces (a + 1) n in omega arith

pub lines_len : (seed files pieces : ℕ) → length (generated_lines seed files pieces) ≡ 3 * files
lines_len seed files pieces =
    omega (
      arith,
      length-append (flat_map (upload_lines seed pieces) (range_with_len 1 files)) (map get_line (range_with_len 1 files)),
      uploads_len seed pieces 1 files,
      length-map (range_with_len 1 files) get_line,
      length-range_with_len 1 files,
    )

-- ---- which files they upload

-- the version of a number
abbrev pub file_at : ℕ → ℕ → ℕ → FileVersion
file_at seed pieces number = version_of (user_at number) file_path (version_at number) (file_of seed pieces (version_at number).0)

abbrev IsMade : ℕ → ℕ → FileVersion → Type 0
IsMade seed pieces v = v.file ≡ file_of seed pieces v.number.0

none_in : (seed pieces : ℕ) (v : FileVersion) → Contains {X = FileVersion} [] v → IsMade seed pieces v
none_in seed pieces v has = let lt : has.0 < 0 = has.1 in absurd (omega arith)

one_in : (seed pieces : ℕ) (w v : FileVersion) → w ≡ v → IsMade seed pieces w → IsMade seed pieces v
one_in seed pieces w v e made = subst (IsMade seed pieces) e made

uploads_app : (xs ys : List Event) → uploads (xs ++ ys) ≡ uploads xs ++ uploads ys
uploads_app xs ys = flat_map-append upload_of xs ys

one_item : (w x : FileVersion) → Contains (w ∷ []) x → w ≡ x
one_item w x (zero, lt, e) = e
one_item w x (suc k, lt, e) = absurd (let l : suc k < 1 = lt in omega arith)

made_by : (seed pieces a : ℕ) (v : FileVersion) (rest : List FileVersion) → Contains (uploads (upload_lines seed pieces a)) v ⊎ Contains rest v → (Contains rest v → IsMade seed pieces v) → IsMade seed pieces v
made_by seed pieces a v rest (inl here) again = one_in seed pieces (file_at seed pieces a) v (one_item (file_at seed pieces a) v here) refl
made_by seed pieces a v rest (inr later) again = again later

made_from : (seed pieces a n : ℕ) (v : FileVersion) → Contains (uploads (flat_map (upload_lines seed pieces) (range_with_len a n))) v → IsMade seed pieces v
made_from seed pieces a zero v has = none_in seed pieces v has
made_from seed pieces a (suc n) v has =
    let rest = flat_map (upload_lines seed pieces) (range_with_len (a + 1) n) in
    made_by seed pieces a v (uploads rest) (Contains-append_cases (uploads (upload_lines seed pieces a)) (uploads rest) v
    (subst (λ (l : List FileVersion). Contains l v) (uploads_app (upload_lines seed pieces a) rest) has)) (made_from seed pieces (a + 1) n v)

gets_none : (numbers : List ℕ) → uploads (map get_line numbers) ≡ []
gets_none [] = refl
gets_none (n ∷ numbers) = gets_none numbers

uploads_are : (seed files pieces : ℕ) → uploads (generated_lines seed files pieces) ≡ uploads (flat_map (upload_lines seed pieces) (range_with_len 1 files))
uploads_are seed files pieces =
    uploads_app (flat_map (upload_lines seed pieces) (range_with_len 1 files)) (map get_line (range_with_len 1 files))
    ∙ ap (λ (l : List FileVersion). uploads (flat_map (upload_lines seed pieces) (range_with_len 1 files)) ++ l) (gets_none (range_with_len 1 files))
    ∙ append-nil (uploads (flat_map (upload_lines seed pieces) (range_with_len 1 files)))

here_in : (seed pieces a n i : ℕ) → i < n → Contains (uploads (flat_map (upload_lines seed pieces) (range_with_len a n))) (file_at seed pieces (a + i))
here_in seed pieces a zero i lt = absurd (let l : i < 0 = lt in omega arith)
here_in seed pieces a (suc n) zero lt =
    let rest = flat_map (upload_lines seed pieces) (range_with_len (a + 1) n) in
    let e : a ≡ a + 0 = omega arith in
    subst (λ (k : ℕ). Contains (uploads (upload_lines seed pieces a ++ rest)) (file_at seed pieces k)) e
    (subst (λ (l : List FileVersion). Contains l (file_at seed pieces a)) (sym (uploads_app (upload_lines seed pieces a) rest))
    (Contains-append_left (uploads (upload_lines seed pieces a)) (uploads rest) (file_at seed pieces a) (contains_here (file_at seed pieces a) [])))
here_in seed pieces a (suc n) (suc i) lt =
    let rest = flat_map (upload_lines seed pieces) (range_with_len (a + 1) n) in
    let e : a + 1 + i ≡ a + suc i = omega arith in
    let less : i < n = omega arith in
    subst (λ (k : ℕ). Contains (uploads (upload_lines seed pieces a ++ rest)) (file_at seed pieces k)) e
    (subst (λ (l : List FileVersion). Contains l (file_at seed pieces (a + 1 + i))) (sym (uploads_app (upload_lines seed pieces a) rest))
    (Contains-append_right (uploads (upload_lines seed pieces a)) (uploads rest) (file_at seed pieces (a + 1 + i)) (here_in seed pieces (a + 1) n i less)))

pub file_known : (seed files pieces i : ℕ) → i < files → IsFileOf (uploads (generated_lines seed files pieces)) (file_at seed pieces (i + 1))
file_known seed files pieces i lt =
    let e : 1 + i ≡ i + 1 = omega arith in
    subst (λ (l : List FileVersion). IsFileOf l (file_at seed pieces (i + 1))) (sym (uploads_are seed files pieces)) (record {
      here = subst (λ (k : ℕ). Contains (uploads (flat_map (upload_lines seed pieces) (range_with_len 1 files))) (file_at seed pieces k)) e (here_in seed pieces 1 files i lt);
      same = λ other has number. made_from seed pieces 1 files other has ∙ ap (λ (k : Version). file_of seed pieces k.0) number;
    })
