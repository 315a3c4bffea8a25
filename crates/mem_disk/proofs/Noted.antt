-- One note more, and longer logs.
use Rattle.std.proofs.Common.{◌≡◌, ◌≢◌, inl, inr, ℕ, ◌+◌, ◌≤◌, Bool, true, false, cond, IsTrue, List, [], ◌∷◌, ◌++◌, length, take, drop, refl, sym, ◌∙◌, ap, subst, arith, length-append, length-drop}
use Rattle.std.proofs.lemmas.List.{drop-append-le, take-append-le, append-nil, drop_at}
use Rattle.std.proofs.Math.Seq.{take-length}
use Rattle.std.proofs.lemmas.Bool.Decides.{nat_tests}
use Rattle.std.proofs.lemmas.Bool.{false≢true}
use Rattle.cd_edges.specs.declared.area.Area.{Area}
use Rattle.cd_edges.specs.declared.area.Area.TheVariants.{Journal, Shares, Recipes}
use Rattle.cd_edges.specs.Disk.{Store, Areas, Image}
use Rattle.cd_edges.proofs.Shrinks.{area_cases}
use Rattle.mem_disk.specs.declared.note.Note.{Note}
use Rattle.mem_disk.specs.declared.note.Note.TheVariants.{Wrote, Synced, Emptied, Crashed}
use Rattle.mem_disk.specs.History.{DiskStep, Write, meaning, history, lies, all_lie, with_area, nothing, after, now_of, past_of}

-- every log has grown, or not
abbrev pub Grows : Image → Image → Type 0
Grows logs later = (area : Area) → (more : List ℕ) × (later area ≡ logs area ++ more)

pub lies_within : (logs : Image) (area : Area) (place start len : ℕ) → IsTrue (lies logs (Wrote area place start len)) → start + len ≤ length (logs area)
lies_within logs area place start len lie = grind (arith, nat_tests)

pub within_lies : (logs : Image) (area : Area) (place start len : ℕ) → start + len ≤ length (logs area) → IsTrue (lies logs (Wrote area place start len))
within_lies logs area place start len within = grind (arith, nat_tests)

bytes_stay : (log more : List ℕ) (start len : ℕ) → start + len ≤ length log → take len (drop start (log ++ more)) ≡ take len (drop start log)
bytes_stay log more start len within =
    ap (λ (l : List ℕ). take len l) (drop-append-le start log more (omega (arith, within))) ∙ take-append-le len (drop start log) more (omega (arith, within, length-drop start log))

meaning_stays : (logs later : Image) (note : Note) → Grows logs later → IsTrue (lies logs note) → meaning later note ≡ meaning logs note
meaning_stays logs later (Wrote area place start len) grows lie =
    let g = grows area in
    ap (λ (l : List ℕ). Write area place l) (ap (λ (l : List ℕ). take len (drop start l)) g.1 ∙ bytes_stay (logs area) g.0 start len (lies_within logs area place start len lie))
meaning_stays logs later (Synced area) grows lie = refl
meaning_stays logs later Emptied grows lie = refl
meaning_stays logs later (Crashed fill whole) grows lie = refl

lies_still : (logs later : Image) (note : Note) → Grows logs later → IsTrue (lies logs note) → IsTrue (lies later note)
lies_still logs later (Wrote area place start len) grows lie =
    let g = grows area in
    within_lies later area place start len (omega (arith, lies_within logs area place start len lie, ap length g.1, length-append (logs area) g.0))
lies_still logs later (Synced area) grows lie = lie
lies_still logs later Emptied grows lie = lie
lies_still logs later (Crashed fill whole) grows lie = lie

pub both_true : (a b : Bool) → IsTrue (cond a b false) → IsTrue a × IsTrue b
both_true true b both = (refl, both)
both_true false b both = absurd (false≢true both)

and_true : (a b : Bool) → IsTrue a → IsTrue b → IsTrue (cond a b false)
and_true true b one two = two
and_true false b one two = one

pub history_stays : (logs later : Image) (notes : List Note) → Grows logs later → IsTrue (all_lie logs notes) → history later notes ≡ history logs notes
history_stays logs later [] grows lie = refl
history_stays logs later (note ∷ notes) grows lie =
    let both = both_true (lies logs note) (all_lie logs notes) lie in
    ap (λ (s : DiskStep). s ∷ history later notes) (meaning_stays logs later note grows both.0) ∙ ap (λ (l : List DiskStep). meaning logs note ∷ l) (history_stays logs later notes grows both.1)

pub all_lie_more : (logs later : Image) (notes : List Note) (note : Note) → Grows logs later → IsTrue (all_lie logs notes) → IsTrue (lies later note) → IsTrue (all_lie later (notes ++ note ∷ []))
all_lie_more logs later [] note grows lie here = and_true (lies later note) true here refl
all_lie_more logs later (n ∷ notes) note grows lie here =
    let both = both_true (lies logs n) (all_lie logs notes) lie in
    and_true (lies later n) (all_lie later (notes ++ note ∷ [])) (lies_still logs later n grows both.0) (all_lie_more logs later notes note grows both.1 here)

history-more : (logs : Image) (notes : List Note) (note : Note) → history logs (notes ++ note ∷ []) ≡ history logs notes ++ meaning logs note ∷ []
history-more logs [] note = refl
history-more logs (n ∷ notes) note = ap (λ (l : List DiskStep). meaning logs n ∷ l) (history-more logs notes note)

pub history_grows : (logs later : Image) (notes : List Note) (note : Note) → Grows logs later → IsTrue (all_lie logs notes) → history later (notes ++ note ∷ []) ≡ history logs notes ++ meaning later note ∷ []
history_grows logs later notes note grows lie = history-more later notes note ∙ ap (λ (l : List DiskStep). l ++ meaning later note ∷ []) (history_stays logs later notes grows lie)

-- the note of what was just put at the end of the log
pub last_put : (log later bytes : List ℕ) → later ≡ log ++ bytes → take (length bytes) (drop (length log) later) ≡ bytes
last_put log later bytes is = ap (λ (l : List ℕ). take (length bytes) (drop (length log) l)) is ∙ ap (λ (l : List ℕ). take (length bytes) l) (drop_at log bytes (length log) refl) ∙ take-length bytes

pub same_logs : (logs later : Image) → ((area : Area) → later area ≡ logs area) → Grows logs later
same_logs logs later same area = ([], same area ∙ sym (append-nil (logs area)))

pub one_log : (logs later : Image) (changed : Area) (bytes : List ℕ) → later changed ≡ logs changed ++ bytes → ((other : Area) → other ≢ changed → later other ≡ logs other) → Grows logs later
one_log logs later changed bytes here others area = elim (area_cases changed area) [
  | inl same ↦ (bytes, subst (λ (a : Area). later a ≡ logs a ++ bytes) same here)
  | inr ne ↦ ([], others area ne ∙ sym (append-nil (logs area)))
]

pub now_more : (areas : Areas) (steps : List DiskStep) (step : DiskStep) → now_of areas (steps ++ step ∷ []) ≡ after (now_of areas steps) step
now_more areas [] step = refl
now_more areas (s ∷ steps) step = now_more (after areas s) steps step

pub past_more : (areas : Areas) (steps : List DiskStep) (step : DiskStep) → past_of areas (steps ++ step ∷ []) ≡ past_of areas steps ++ now_of areas steps ∷ []
past_more areas [] step = refl
past_more areas (s ∷ steps) step = ap (λ (l : List Areas). areas ∷ l) (past_more (after areas s) steps step)

pub with_area_here : (areas : Areas) (area : Area) (store : Store) → with_area areas area store area ≡ store
with_area_here areas Journal store = refl
with_area_here areas Shares store = refl
with_area_here areas Recipes store = refl

pub with_area_there : (areas : Areas) (area other : Area) (store : Store) → other ≢ area → with_area areas area store other ≡ areas other
with_area_there areas Journal Journal store ne = absurd (ne refl)
with_area_there areas Journal Shares store ne = refl
with_area_there areas Journal Recipes store ne = refl
with_area_there areas Shares Journal store ne = refl
with_area_there areas Shares Shares store ne = absurd (ne refl)
with_area_there areas Shares Recipes store ne = refl
with_area_there areas Recipes Journal store ne = refl
with_area_there areas Recipes Shares store ne = refl
with_area_there areas Recipes Recipes store ne = absurd (ne refl)

-- what holds of each area as the steps lead to it, one step of one area later
pub one_area : (P Q : Area → Store → Type 0) (steps more : List DiskStep) (step : DiskStep) (changed : Area) (store : Store) → more ≡ steps ++ step ∷ [] → after (now_of nothing steps) step ≡ with_area (now_of nothing steps) changed store
    → ((area : Area) → P area (now_of nothing steps area)) → (P changed (now_of nothing steps changed) → Q changed store) → ((other : Area) → other ≢ changed → P other (now_of nothing steps other) → Q other (now_of nothing steps other)) → (area : Area) → Q area (now_of nothing more area)
one_area P Q steps more step changed store is leads old here others area =
    let now : now_of nothing more ≡ with_area (now_of nothing steps) changed store = ap (λ (l : List DiskStep). now_of nothing l) is ∙ now_more nothing steps step ∙ leads in
    elim (area_cases changed area) [
      | inl same ↦ subst (λ (a : Area). Q a (now_of nothing more a)) same
          (subst (λ (s : Store). Q changed s) (sym (ap (λ (x : Areas). x changed) now ∙ with_area_here (now_of nothing steps) changed store)) (here (old changed)))
      | inr ne ↦ subst (λ (s : Store). Q area s) (sym (ap (λ (x : Areas). x area) now ∙ with_area_there (now_of nothing steps) changed area store ne)) (others area ne (old area))
    ]

-- one step of all areas later
pub all_areas : (Q : Area → Store → Type 0) (steps more : List DiskStep) (step : DiskStep) → more ≡ steps ++ step ∷ [] → ((area : Area) → Q area (after (now_of nothing steps) step area)) → (area : Area) → Q area (now_of nothing more area)
all_areas Q steps more step is here area = subst (λ (x : Areas). Q area (x area)) (sym (ap (λ (l : List DiskStep). now_of nothing l) is ∙ now_more nothing steps step)) (here area)
