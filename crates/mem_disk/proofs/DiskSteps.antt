-- What one call does to the areas in memory and to their notes.
use Rattle.std.proofs.Common.{◌≡◌, ◌≢◌, ◌⊎◌, inl, inr, ⊎_elim, ℕ, ◌+◌, ◌≤◌, ◌<◌, Bool, true, false, cond, IsTrue, List, [], ◌∷◌, ◌++◌, length, take, drop, refl, sym, ◌∙◌, ap, subst, arith, length-append, length-take, length-drop}
use Rattle.std.specs.Prelude.{vec_len, nat_le, nat_lt}
use Rattle.std.proofs.lemmas.Bool.{false≢true}
use Rattle.std.proofs.lemmas.Bool.Decides.{nat_tests}
use Rattle.cd_edges.specs.declared.area.Area.{Area}
use Rattle.cd_edges.specs.declared.area.Area.TheVariants.{Journal, Shares, Recipes}
use Rattle.cd_edges.specs.Disk.{Store, Areas, Image, overwritten}
use Rattle.cd_edges.specs.Shelf.{wrote, stable}
use Rattle.mem_disk.specs.declared.note.Note.{Note}
use Rattle.mem_disk.specs.declared.note.Note.TheVariants.{Wrote, Synced, Emptied, Crashed}
use Rattle.mem_disk.specs.declared.area.MemArea.{MemArea}
use Rattle.mem_disk.specs.declared.areas.MemAreas.{MemAreas}
use Rattle.mem_disk.specs.declared.numbers.PerArea.{PerArea}
use Rattle.mem_disk.specs.Areas.{joined, held, area_of, held_of, log_of}
use Rattle.mem_disk.specs.Crashed.{is_in, filled_from, crashed, same_area, with_note, ranges_in}
use Rattle.mem_disk.specs.History.{DiskStep, Write, Sync, meaning, history, all_lie, lies, nothing, after, now_of}
use Rattle.mem_disk.specs.Numbers.{number_of}
use Rattle.mem_disk.specs.Tracks.{IsTracked, is_end, is_apart}
use Rattle.mem_disk.proofs.Joined.{joined_long}
use Rattle.mem_disk.proofs.Noted.{Grows, all_lie_more, history_grows, last_put, one_log, lies_within, both_true, within_lies, one_area, all_areas}

-- a note of which nothing but the logs' growth matters
module _ (logs later : Image) (notes more : List Note) (note : Note) (lie : IsTrue (all_lie logs notes)) (grows : Grows logs later) (here : IsTrue (lies later note)) (noted : more ≡ notes ++ note ∷ []) where
  pub noted_lie : IsTrue (all_lie later more)
  noted_lie = subst (λ (l : List Note). IsTrue (all_lie later l)) (sym noted) (all_lie_more logs later notes note grows lie here)

  pub noted_history : history later more ≡ history logs notes ++ meaning later note ∷ []
  noted_history = ap (λ (l : List Note). history later l) noted ∙ history_grows logs later notes note grows lie

-- tests and what they say
pub of_end : (area : MemArea) (place : ℕ) → IsTrue (is_end area place) → (place ≤ vec_len area.bytes) ⊎ (area.second < place)
of_end area place is = cases (nat_le place (vec_len area.bytes)) refl is
  where
    cases : (b : Bool) → nat_le place (vec_len area.bytes) ≡ b → IsTrue (cond b true (nat_lt area.second place)) → (place ≤ vec_len area.bytes) ⊎ (area.second < place)
    cases true one test = inl (grind (arith, nat_tests, one))
    cases false one test = inr (grind (arith, nat_tests, test))

to_end : (area : MemArea) (place : ℕ) → (place ≤ vec_len area.bytes) ⊎ (area.second < place) → IsTrue (is_end area place)
to_end area place (inl below) = grind (arith, nat_tests, below)
to_end area place (inr above) = cases (nat_le place (vec_len area.bytes))
  where
    cases : (b : Bool) → IsTrue (cond b true (nat_lt area.second place))
    cases true = refl
    cases false = grind (arith, nat_tests, above)

pub of_apart : (area : MemArea) (place : ℕ) → IsTrue (is_apart area place) → (place < vec_len area.bytes) ⊎ (area.second ≤ place)
of_apart area place is = cases (nat_lt place (vec_len area.bytes)) refl is
  where
    cases : (b : Bool) → nat_lt place (vec_len area.bytes) ≡ b → IsTrue (cond b true (nat_le area.second place)) → (place < vec_len area.bytes) ⊎ (area.second ≤ place)
    cases true one test = inl (grind (arith, nat_tests, one))
    cases false one test = inr (grind (arith, nat_tests, test))

to_apart : (area : MemArea) (place : ℕ) → (place < vec_len area.bytes) ⊎ (area.second ≤ place) → IsTrue (is_apart area place)
to_apart area place (inl below) = grind (arith, nat_tests, below)
to_apart area place (inr above) = cases (nat_lt place (vec_len area.bytes))
  where
    cases : (b : Bool) → IsTrue (cond b true (nat_le area.second place))
    cases true = refl
    cases false = grind (arith, nat_tests, above)

-- where an area ends
ends : (first : List ℕ) (second : ℕ) (high : List ℕ) → length first ≤ second → (length (joined first second high) ≤ length first) ⊎ (second < length (joined first second high))
ends first second [] apart = inl (omega arith)
ends first second (x ∷ xs) apart = inr (omega (arith, joined_long first second apart (x ∷ xs) (omega arith)))

-- an area that a crash leaves as it is
pub tracked_stable : (area : MemArea) (mark : ℕ) (bytes : List ℕ) → held area ≡ bytes → mark ≡ length (held area) → IsTracked area mark (stable bytes)
tracked_stable area mark bytes has is = record {
  read = has;
  synced = is ∙ ap length has;
  ends = subst (λ (n : ℕ). IsTrue (is_end area n)) (sym is) (to_end area (length (held area))
      (⊎_elim (λ below. inl (omega (arith, below, area.bytes.ok.0))) (λ above. inr above) (ends area.bytes.items area.second area.high.items (omega (arith, area.apart, area.bytes.ok.0)))));
  covered = λ k inside. absurd (false≢true inside);
}

in_range : (first end k : ℕ) (ranges : List (ℕ × ℕ)) → IsTrue (is_in ((first, end) ∷ ranges) k) → ((first ≤ k) × (k < end)) ⊎ IsTrue (is_in ranges k)
in_range first end k ranges inside = cases (nat_le first k) (nat_lt k end) refl refl inside
  where
    cases : (a b : Bool) → nat_le first k ≡ a → nat_lt k end ≡ b → IsTrue (cond (cond a b false) true (is_in ranges k)) → ((first ≤ k) × (k < end)) ⊎ IsTrue (is_in ranges k)
    cases true true one two test = inl (grind (arith, nat_tests, one), grind (arith, nat_tests, two))
    cases true false one two test = inr test
    cases false b one two test = inr test

-- an area that was written to
pub tracked_wrote : (old new : MemArea) (mark : ℕ) (store : Store) (place : ℕ) (bytes : List ℕ) → held new ≡ overwritten (held old) place bytes → new.second ≡ old.second → vec_len old.bytes ≤ vec_len new.bytes
    → (place + length bytes ≤ vec_len new.bytes) ⊎ (old.second ≤ place) → IsTracked old mark store → IsTracked new mark (wrote store place bytes)
tracked_wrote old new mark store place bytes has same grows covers was = record {
  read = has ∙ ap (λ (l : List ℕ). overwritten l place bytes) was.read;
  synced = was.synced;
  ends = to_end new mark (⊎_elim (λ below. inl (omega (arith, below, grows))) (λ above. inr (omega (arith, above, same))) (of_end old mark was.ends));
  covered = λ k inside. to_apart new k (⊎_elim
      (λ here. ⊎_elim (λ below. inl (omega (arith, here.1, below))) (λ above. inr (omega (arith, here.0, above, same))) covers)
      (λ there. ⊎_elim (λ below. inl (omega (arith, below, grows))) (λ above. inr (omega (arith, above, same))) (of_apart old k (was.covered k there)))
      (in_range place (place + length bytes) k store.written inside));
}

-- what is known of each area
abbrev pub Tracks : MemAreas → PerArea → List DiskStep → Type 0
Tracks areas synced steps = (area : Area) → IsTracked (area_of areas area) (number_of synced area) (now_of nothing steps area)

module _ (old new : MemAreas) (notes more : List Note) (lie : IsTrue (all_lie (log_of old) notes)) (area : Area) (place start len : ℕ) (bytes : List ℕ) (starts : start ≡ length (log_of old area)) (long : len ≡ length bytes) (log : log_of new area ≡ log_of old area ++ bytes) (others : (other : Area) → other ≢ area → area_of new other ≡ area_of old other) (noted : more ≡ notes ++ Wrote area place start len ∷ []) where
  grown : Grows (log_of old) (log_of new)
  grown = one_log (log_of old) (log_of new) area bytes log (λ other ne. ap (λ (a : MemArea). a.log.items) (others other ne))

  here_lies : IsTrue (lies (log_of new) (Wrote area place start len))
  here_lies = within_lies (log_of new) area place start len (omega (arith, starts, long, ap length log, length-append (log_of old area) bytes))

  pub wrote_lie : IsTrue (all_lie (log_of new) more)
  wrote_lie = noted_lie (log_of old) (log_of new) notes more (Wrote area place start len) lie grown here_lies noted

  the_bytes : take len (drop start (log_of new area)) ≡ bytes
  the_bytes = ap (λ (n : ℕ). take n (drop start (log_of new area))) long ∙ ap (λ (n : ℕ). take (length bytes) (drop n (log_of new area))) starts ∙ last_put (log_of old area) (log_of new area) bytes log

  pub wrote_history : history (log_of new) more ≡ history (log_of old) notes ++ Write area place bytes ∷ []
  wrote_history = noted_history (log_of old) (log_of new) notes more (Wrote area place start len) lie grown here_lies noted
      ∙ ap (λ (l : List ℕ). history (log_of old) notes ++ Write area place l ∷ []) the_bytes

  pub wrote_tracks : (synced : PerArea) → held_of new area ≡ overwritten (held_of old area) place bytes → (area_of new area).second ≡ (area_of old area).second → vec_len (area_of old area).bytes ≤ vec_len (area_of new area).bytes
      → (place + length bytes ≤ vec_len (area_of new area).bytes) ⊎ ((area_of old area).second ≤ place) → Tracks old synced (history (log_of old) notes) → Tracks new synced (history (log_of new) more)
  wrote_tracks synced has same grows covers before = one_area
      (λ a s. IsTracked (area_of old a) (number_of synced a) s) (λ a s. IsTracked (area_of new a) (number_of synced a) s)
      (history (log_of old) notes) (history (log_of new) more) (Write area place bytes) area (wrote (now_of nothing (history (log_of old) notes) area) place bytes) wrote_history refl before
      (tracked_wrote (area_of old area) (area_of new area) (number_of synced area) (now_of nothing (history (log_of old) notes) area) place bytes has same grows covers)
      (λ other ne was. subst (λ (a : MemArea). IsTracked a (number_of synced other) (now_of nothing (history (log_of old) notes) other)) (sym (others other ne)) was)

pub synced_tracks : (areas : MemAreas) (synced later : PerArea) (steps more : List DiskStep) (area : Area) → more ≡ steps ++ Sync area ∷ [] → number_of later area ≡ length (held_of areas area) → ((other : Area) → other ≢ area → number_of later other ≡ number_of synced other) → Tracks areas synced steps → Tracks areas later more
synced_tracks areas synced later steps more area is here others before = one_area
    (λ a s. IsTracked (area_of areas a) (number_of synced a) s) (λ a s. IsTracked (area_of areas a) (number_of later a) s)
    steps more (Sync area) area (stable (now_of nothing steps area).read) is refl before
    (λ was. tracked_stable (area_of areas area) (number_of later area) (now_of nothing steps area).read was.read here)
    (λ other ne was. subst (λ (n : ℕ). IsTracked (area_of areas other) n (now_of nothing steps other)) (sym (others other ne)) was)

-- all areas are as a crash leaves them
pub stable_tracks : (areas : MemAreas) (synced : PerArea) (steps more : List DiskStep) (step : DiskStep) (left : Image) → more ≡ steps ++ step ∷ [] → ((area : Area) → after (now_of nothing steps) step area ≡ stable (left area))
    → ((area : Area) → held_of areas area ≡ left area) → ((area : Area) → number_of synced area ≡ length (held_of areas area)) → Tracks areas synced more
stable_tracks areas synced steps more step left is leads has lens = all_areas (λ a s. IsTracked (area_of areas a) (number_of synced a) s) steps more step is
    (λ area. subst (λ (s : Store). IsTracked (area_of areas area) (number_of synced area) s) (sym (leads area)) (tracked_stable (area_of areas area) (number_of synced area) (left area) (has area) (lens area)))

-- the ranges that the notes tell are those of the steps
written_here : (b : Bool) (x y : Store) (p q : List (ℕ × ℕ)) → x.written ≡ p → y.written ≡ q → (cond b x y).written ≡ cond b p q
written_here true x y p q one two = one
written_here false x y p q one two = two

written_after : (logs : Image) (areas : Areas) (note : Note) (area : Area) → IsTrue (lies logs note) → (after areas (meaning logs note) area).written ≡ with_note area (areas area).written note
written_after logs areas (Wrote changed place start len) area lie =
    written_cases (same_area changed area) (ranges_same changed area)
  where
    within : length (take len (drop start (logs changed))) ≡ len
    within = omega (arith, lies_within logs changed place start len lie, length-take len (drop start (logs changed)), length-drop start (logs changed))

    ranges_same : (one other : Area) → IsTrue (same_area one other) → (areas one).written ≡ (areas other).written
    ranges_same Journal Journal same = refl
    ranges_same Journal Shares same = absurd (false≢true same)
    ranges_same Journal Recipes same = absurd (false≢true same)
    ranges_same Shares Journal same = absurd (false≢true same)
    ranges_same Shares Shares same = refl
    ranges_same Shares Recipes same = absurd (false≢true same)
    ranges_same Recipes Journal same = absurd (false≢true same)
    ranges_same Recipes Shares same = absurd (false≢true same)
    ranges_same Recipes Recipes same = refl

    written_cases : (b : Bool) → (IsTrue b → (areas changed).written ≡ (areas area).written)
        → (cond b (wrote (areas changed) place (take len (drop start (logs changed)))) (areas area)).written ≡ cond b ((place, place + len) ∷ (areas area).written) (areas area).written
    written_cases true same = ap (λ (n : ℕ). (place, place + n) ∷ (areas changed).written) within ∙ ap (λ (l : List (ℕ × ℕ)). (place, place + len) ∷ l) (same refl)
    written_cases false same = refl
written_after logs areas (Synced changed) area lie = written_here (same_area changed area) (stable (areas changed).read) (areas area) [] (areas area).written refl refl
written_after logs areas Emptied area lie = refl
written_after logs areas (Crashed fill whole) area lie = refl

pub written_is : (logs : Image) (areas : Areas) (notes : List Note) (area : Area) → IsTrue (all_lie logs notes) → (now_of areas (history logs notes) area).written ≡ ranges_in area (areas area).written notes
written_is logs areas [] area lie = refl
written_is logs areas (note ∷ notes) area lie =
    let both = both_true (lies logs note) (all_lie logs notes) lie in
    written_is logs (after areas (meaning logs note)) notes area both.1
    ∙ ap (λ (l : List (ℕ × ℕ)). ranges_in area l notes) (written_after logs areas note area both.0)

-- the last note first
pub ranges_more : (area : Area) (ranges : List (ℕ × ℕ)) (notes : List Note) (note : Note) → ranges_in area ranges (notes ++ note ∷ []) ≡ with_note area (ranges_in area ranges notes) note
ranges_more area ranges [] note = refl
ranges_more area ranges (n ∷ notes) note = ranges_more area (with_note area ranges n) notes note

-- what a crash leaves, by what is known
pub crash_is : (fill : ℕ) (whole : Bool) (ranges : List (ℕ × ℕ)) (bytes : List ℕ) (mark : ℕ) (store : Store) → store.written ≡ ranges → bytes ≡ store.read → mark ≡ length store.synced
    → cond whole (filled_from 0 fill ranges bytes) (take mark (filled_from 0 fill ranges bytes)) ≡ crashed fill whole store
crash_is fill whole ranges bytes mark store written read synced =
    ap (λ (n : ℕ). cond whole (filled_from 0 fill ranges bytes) (take n (filled_from 0 fill ranges bytes))) synced
    ∙ ap (λ (l : List ℕ). cond whole l (take (length store.synced) l)) (ap (λ (r : List (ℕ × ℕ)). filled_from 0 fill r bytes) (sym written) ∙ ap (λ (l : List ℕ). filled_from 0 fill store.written l) read)

pub no_lengths : (area : Area) → number_of (record { journal = 0; shares = 0; recipes = 0 }) area ≡ 0
no_lengths Journal = refl
no_lengths Shares = refl
no_lengths Recipes = refl
