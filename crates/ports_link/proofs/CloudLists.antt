-- Replies that are as asked, and the clouds and ports of a link over them.
use Rattle.std.proofs.Common.{◌≡◌, ◌≢◌, ℕ, zero, suc, ◌+◌, ◌<◌, ◌≤◌, false, List, [], ◌∷◌, ◌++◌, length, refl, sym, ◌∙◌}
use Rattle.std.proofs.Common.{ap, subst, arith, inl, inr, ◌⊎◌, IsTrue, Some, None, set, replicate, slice_index}
use Rattle.std.proofs.Common.{length-set, append-nil, Ok, lit≤}
use Rattle.std.specs.Prelude.{All, map, is_some}
use Rattle.std.specs.List.{Contains}
use Rattle.std.specs.List.Sorted.{IsStrictlyIncreasing}
use Rattle.std.proofs.lemmas.List.{get_or-set_same, get_or-set_other, get_or-replicate, length-replicate, length_push}
use Rattle.std.proofs.lemmas.List.{get_or_past}
use Rattle.std.proofs.lemmas.List.Elements.{All-nil, All-cons, All-head, All-tail, All-weaker}
use Rattle.std.proofs.lemmas.Bool.{cases_eq, cases_lt}
use Rattle.user_dedup.proofs.Owned.{contains_here, contains_later, contains_cases, contains_nothing}
use Rattle.user_dedup.specs.Frames.Frames.{frame}
use Rattle.user_dedup.specs.CdBase.ids.CloudNo.{CloudNo}
use Rattle.user_dedup.specs.CdBase.shape.Shape.{Shape}
use Rattle.transcript.specs.CdEdges.Ports.{Telling}
use Rattle.ports_link.specs.declared.lines.CloudLine.{CloudLine}
use Rattle.ports_link.specs.Lines.{no_line, line_of, with_ports, lines_for}
use Rattle.ports_link.specs.Tells.{HasComing}
use Rattle.ports_link.proofs.Talks.{brings}
use Rattle.ports_link.specs.declared.judging.AskedClouds.{AskedClouds}
use Rattle.ports_link.specs.declared.judging.AskedClouds.TheVariants.{Backup, Restore}
use Rattle.ports_link.specs.declared.judging.Greeting.{Greeting}
use Rattle.ports_link.specs.declared.greeting.Greeted.{Greeted}
use Rattle.ports_link.specs.Dialled.{ArePortsApart}
use Rattle.ports_link.specs.Greetings.{HasShape, HaveOneShape, IsOfFirst, IsAsAsked, AreAsAsked}
use Rattle.ports_link.specs.Hellos.{AreGreeted, HasClouds, clouds_of, lines_by, ports_of, AreCloudsReached, HaveTalks, hello}
use Rattle.ports_link.specs.Meeting.{Meets}
use Rattle.ports_link.proofs.Chains.{SaidHello, all_asked}

-- ---- what the replies say

pub all_shaped : (asked : AskedClouds) (count : ℕ) (before gs : List Greeting) → AreAsAsked asked count before gs
    → All HasShape gs
all_shaped asked count before [] as_asked = All-nil HasShape
all_shaped asked count before (g ∷ gs) as_asked = All-cons HasShape g gs as_asked.0.shaped (all_shaped asked count
    (before ++ g ∷ []) gs as_asked.1)

-- each is of the shape that one before it has
of_shape : (asked : AskedClouds) (count : ℕ) (n k : ℕ) (before gs : List Greeting) (f : Greeting) → Contains before f
    → n ≡ f.n → k ≡ f.k
    → AreAsAsked asked count before gs → All (λ (g : Greeting). (g.n ≡ n) × (g.k ≡ k)) gs
of_shape asked count n k before [] f within en ek as_asked = All-nil _
of_shape asked count n k before (g ∷ gs) f within en ek as_asked =
    let one : HaveOneShape f g = subst (λ (b : Greeting). HaveOneShape b g) within.2
    (as_asked.0.same within.0 f within.1) in
    All-cons (λ (g : Greeting). (g.n ≡ n) × (g.k ≡ k)) g gs (sym one.0 ∙ sym en, sym one.1 ∙ sym ek)
    (of_shape asked count n k (before ++ g ∷ []) gs f (more before within) en ek as_asked.1)
  where
    more : (bs : List Greeting) → Contains bs f → Contains (bs ++ g ∷ []) f
    more [] c = absurd (contains_nothing f c)
    more (b ∷ bs) c = elim (contains_cases b bs f c) [
      | inl e ↦ subst (λ (x : Greeting). Contains (b ∷ (bs ++ g ∷ [])) x) e (contains_here b (bs ++ g ∷ []))
      | inr l ↦ contains_later b (bs ++ g ∷ []) f (more bs l)
    ]

all_of_shape : (asked : AskedClouds) (count : ℕ) (gs : List Greeting) (shape : Shape) → IsOfFirst gs shape
    → AreAsAsked asked count [] gs
    → All (λ (g : Greeting). (g.n ≡ shape.n) × (g.k ≡ shape.k)) gs
all_of_shape asked count [] shape first as_asked = absurd first
all_of_shape asked count (g ∷ gs) shape first as_asked =
    All-cons (λ (g : Greeting). (g.n ≡ shape.n) × (g.k ≡ shape.k)) g gs (sym first.0, sym first.1)
    (of_shape asked count shape.n shape.k (g ∷ []) gs g (contains_here g []) first.0 first.1 as_asked.1)

-- ---- lines

clouds_are : (gs : List Greeting) (ports : List ℕ) → length gs ≡ length ports
    → clouds_of (lines_by gs ports) ≡ map (λ (g : Greeting). g.cloud) gs
clouds_are [] ports e = refl
clouds_are (g ∷ gs) [] e = absurd (omega (arith, e))
clouds_are (g ∷ gs) (port ∷ ports) e = ap (λ (l : List ℕ). g.cloud ∷ l) (clouds_are gs ports (omega (arith, e)))

ports_are : (gs : List Greeting) (ports : List ℕ) → length gs ≡ length ports → ports_of (lines_by gs ports) ≡ ports
ports_are [] [] e = refl
ports_are [] (port ∷ ports) e = absurd (omega (arith, e))
ports_are (g ∷ gs) [] e = absurd (omega (arith, e))
ports_are (g ∷ gs) (port ∷ ports) e = ap (λ (l : List ℕ). port ∷ l) (ports_are gs ports (omega (arith, e)))

long_are : (gs : List Greeting) (ports : List ℕ) → length gs ≡ length ports → length (lines_by gs ports) ≡ length ports
long_are [] [] e = refl
long_are [] (port ∷ ports) e = absurd (omega (arith, e))
long_are (g ∷ gs) [] e = absurd (omega (arith, e))
long_are (g ∷ gs) (port ∷ ports) e = ap suc (long_are gs ports (omega (arith, e)))

-- ---- the clouds of a backup

backup_has : (count : ℕ) (before gs : List Greeting) → AreAsAsked Backup count before gs
    → (cloud : ℕ) → length before ≤ cloud → cloud < length before + length gs
    → Contains (map (λ (g : Greeting). g.cloud) gs) cloud
backup_has count before [] as_asked cloud low high = absurd (omega (arith, low, high))
backup_has count before (g ∷ gs) as_asked cloud low high = elim (cases_eq cloud (length before)) [
  | inl e ↦ subst (λ (n : ℕ). Contains (g.cloud ∷ map (λ (g : Greeting). g.cloud) gs) n) (as_asked.0.place.1
      ∙ sym e) (contains_here g.cloud (map (λ (g : Greeting). g.cloud) gs))
  | inr n ↦ contains_later g.cloud (map (λ (g : Greeting). g.cloud) gs) cloud
      (backup_has count (before ++ g ∷ []) gs as_asked.1 cloud
      (omega (arith, low, n, length_push before g)) (omega (arith, high, length_push before g)))
]

backup_count : (count : ℕ) (gs : List Greeting) (shape : Shape) → IsOfFirst gs shape → AreAsAsked Backup count [] gs
    → count ≡ shape.n
backup_count count [] shape first as_asked = absurd first
backup_count count (g ∷ gs) shape first as_asked = sym as_asked.0.place.0 ∙ sym first.0

-- ---- the clouds of a restore

restore_count : (count : ℕ) (gs : List Greeting) (shape : Shape) → IsOfFirst gs shape
    → AreAsAsked Restore count [] gs → shape.k ≤ count
restore_count count [] shape first as_asked = absurd first
restore_count count (g ∷ gs) shape first as_asked = omega (arith, as_asked.0.place.0, first.1)

-- a number below all of a rising list, in front of it
rising_cons : (x : ℕ) (xs : List ℕ) → All (λ y. x < y) xs → IsStrictlyIncreasing xs → IsStrictlyIncreasing (x ∷ xs)
rising_cons x xs above rises zero within = above 0 0 (omega (arith, within))
rising_cons x xs above rises (suc k) within =
    let e : suc (k + 1) ≡ suc k + 1 = omega arith in
    subst (λ (n : ℕ). slice_index xs k < slice_index (x ∷ xs) n) e (rises k (omega (arith, within)))

-- each of those behind is above one that stands before them
above : (count : ℕ) (before gs : List Greeting) (f : Greeting) → Contains before f → AreAsAsked Restore count before gs
    → All (λ y. f.cloud < y) (map (λ (g : Greeting). g.cloud) gs)
above count before [] f within as_asked = All-nil _
above count before (g ∷ gs) f within as_asked =
    All-cons (λ y. f.cloud < y) g.cloud (map (λ (g : Greeting). g.cloud) gs)
    (subst (λ (b : Greeting). b.cloud < g.cloud) within.2 (as_asked.0.place.1 within.0 f within.1))
    (above count (before ++ g ∷ []) gs f (more before within) as_asked.1)
  where
    more : (bs : List Greeting) → Contains bs f → Contains (bs ++ g ∷ []) f
    more [] c = absurd (contains_nothing f c)
    more (b ∷ bs) c = elim (contains_cases b bs f c) [
      | inl e ↦ subst (λ (x : Greeting). Contains (b ∷ (bs ++ g ∷ [])) x) e (contains_here b (bs ++ g ∷ []))
      | inr l ↦ contains_later b (bs ++ g ∷ []) f (more bs l)
    ]

last_of : (before : List Greeting) (g : Greeting) → Contains (before ++ g ∷ []) g
last_of [] g = contains_here g []
last_of (b ∷ before) g = contains_later b (before ++ g ∷ []) g (last_of before g)

restore_rises : (count : ℕ) (before gs : List Greeting) → AreAsAsked Restore count before gs
    → IsStrictlyIncreasing (map (λ (g : Greeting). g.cloud) gs)
restore_rises count before [] as_asked k within = absurd (omega (arith, within))
restore_rises count before (g ∷ gs) as_asked k within =
    rising_cons g.cloud (map (λ (g : Greeting). g.cloud) gs) (above count (before ++ g ∷ []) gs g
    (last_of before g) as_asked.1)
    (restore_rises count (before ++ g ∷ []) gs as_asked.1) k within

restore_below : (count n : ℕ) (before gs : List Greeting) → All (λ (g : Greeting). g.n ≡ n) gs
    → AreAsAsked Restore count before gs
    → All (λ cloud. cloud < n) (map (λ (g : Greeting). g.cloud) gs)
restore_below count n before [] same as_asked = All-nil _
restore_below count n before (g ∷ gs) same as_asked =
    let here : g.n ≡ n = All-head (λ (g : Greeting). g.n ≡ n) g gs same in
    All-cons (λ cloud. cloud < n) g.cloud (map (λ (g : Greeting). g.cloud) gs)
    (subst (λ (m : ℕ). g.cloud < m) here as_asked.0.place.2)
    (restore_below count n (before ++ g ∷ []) gs (All-tail (λ (g : Greeting). g.n ≡ n) g gs same) as_asked.1)

-- ---- all of it

pub are_greeted : (asked : AskedClouds) (ports : List ℕ) (gs : List Greeting) (greeted : Greeted) → length gs ≡ length ports
    → AreAsAsked asked (length ports) [] gs → IsOfFirst gs greeted.shape → greeted.lines.items ≡ lines_by gs ports
    → AreGreeted asked ports gs greeted
are_greeted asked ports gs greeted long as_asked first lines = record {
  lines = lines;
  ports = ap ports_of lines ∙ ports_are gs ports long;
  shape = shapes;
  clouds = clouds asked as_asked;
}
  where
    shapes : All (λ (g : Greeting). (g.n ≡ greeted.shape.n) × (g.k ≡ greeted.shape.k)) gs
    shapes = all_of_shape asked (length ports) gs greeted.shape first as_asked

    count : length greeted.lines.items ≡ length ports
    count = ap length lines ∙ long_are gs ports long

    names : map (λ (g : Greeting). g.cloud) gs ≡ clouds_of greeted.lines.items
    names = sym (clouds_are gs ports long) ∙ ap clouds_of (sym lines)

    clouds : (a : AskedClouds) → AreAsAsked a (length ports) [] gs → HasClouds a greeted
    clouds Backup asks = (
      count ∙ backup_count (length ports) gs greeted.shape first asks,
      λ cloud less. subst (λ (l : List ℕ). Contains l cloud) names
          (backup_has (length ports) [] gs asks cloud (omega arith) (omega (
            arith,
            less,
            long,
            backup_count
                (length ports) gs greeted.shape first asks,
          ))),
    )
    clouds Restore asks = (
      (let few = restore_count (length ports) gs greeted.shape first asks in omega (arith, count, few)),
      subst IsStrictlyIncreasing names (restore_rises (length ports) [] gs asks),
      subst (λ (l : List ℕ). All (λ cloud. cloud < greeted.shape.n) l) names
          (restore_below (length ports) greeted.shape.n [] gs
          (All-weaker (λ (g : Greeting). (g.n ≡ greeted.shape.n)
          × (g.k ≡ greeted.shape.k)) (λ (g : Greeting). g.n ≡ greeted.shape.n) (λ g e. e.0) gs shapes) asks),
    )

-- ---- a link over these lines

-- the lines have this cloud on this port
abbrev HasLine : List (CloudNo × ℕ) → ℕ → ℕ → Type 0
HasLine [] cloud port = ⊥
HasLine (line ∷ lines) cloud port = ((line.0.0 ≡ cloud) × (line.1 ≡ port)) ⊎ HasLine lines cloud port

line_port : (P : ℕ → Type 0) (lines : List (CloudNo × ℕ)) (cloud port : ℕ) → HasLine lines cloud port
    → All P (ports_of lines) → P port
line_port P [] cloud port has all = absurd has
line_port P (line ∷ lines) cloud port (inl here) all = subst P here.1 (All-head P line.1 (ports_of lines) all)
line_port P (line ∷ lines) cloud port (inr later) all = line_port P lines cloud port later (All-tail P line.1
    (ports_of lines) all)

-- no two clouds have one port
lines_apart : (lines : List (CloudNo × ℕ)) (a b port : ℕ) → ArePortsApart (ports_of lines) → HasLine lines a port
    → HasLine lines b port → a ≡ b
lines_apart [] a b port apart one two = absurd one
lines_apart (line ∷ lines) a b port apart (inl one) (inl two) = sym one.0 ∙ two.0
lines_apart (line ∷ lines) a b port apart (inl one) (inr two) =
    absurd (line_port (λ other. other ≢ line.1) lines b port two apart.0 (sym one.1))
lines_apart (line ∷ lines) a b port apart (inr one) (inl two) =
    absurd (line_port (λ other. other ≢ line.1) lines a port one apart.0 (sym two.1))
lines_apart (line ∷ lines) a b port apart (inr one) (inr two) = lines_apart lines a b port apart.1 one two

abbrev pub line_on : ℕ → CloudLine
line_on port = record { port = Some port; ended = false }

-- how a cloud is reached behind some lines: as before, or by one of them
data Reached (base : List CloudLine) (lines : List (CloudNo × ℕ)) (cloud : ℕ) : Type 0 where
  AsBefore : line_of (with_ports base lines) cloud ≡ line_of base cloud → Reached base lines cloud
  ByLine : (port : ℕ) → HasLine lines cloud port → line_of (with_ports base lines) cloud ≡ line_on port
      → Reached base lines cloud

reached_by : (base : List CloudLine) (lines : List (CloudNo × ℕ)) → length base ≡ 256
    → All (λ cloud. cloud < 256) (clouds_of lines)
    → (cloud : ℕ) → Reached base lines cloud
reached_by base [] long few cloud = AsBefore refl
reached_by base (line ∷ lines) long few cloud =
    elim (reached_by next lines (length-set base line.0.0 (line_on line.1)
    ∙ long) (All-tail (λ cloud. cloud < 256) line.0.0 (clouds_of lines) few) cloud) [
      | ByLine port has is ↦ ByLine port (inr has) is
      | AsBefore is ↦ elim (cases_eq cloud line.0.0) [
        | inl here ↦ ByLine line.1 (inl (sym here, refl))
            (is ∙ ap (λ (n : ℕ). line_of next n) here ∙ get_or-set_same base line.0.0 (line_on line.1) no_line (omega
            (arith, long, All-head (λ cloud. cloud < 256) line.0.0 (clouds_of lines) few)))
        | inr apart ↦ AsBefore (is ∙ get_or-set_other base line.0.0 cloud (line_on line.1) no_line apart)
      ]
    ]
  where
    next : List CloudLine
    next = set base line.0.0 (line_on line.1)

-- a cloud that has a line is reached by one
reached : (base : List CloudLine) (lines : List (CloudNo × ℕ)) → length base ≡ 256
    → All (λ cloud. cloud < 256) (clouds_of lines)
    → (cloud : ℕ) → Contains (clouds_of lines) cloud → (port : ℕ) × HasLine lines cloud port
    × (line_of (with_ports base lines) cloud ≡ line_on port)
reached base [] long few cloud has = absurd (contains_nothing cloud has)
reached base (line ∷ lines) long few cloud has =
    elim (contains_cases line.0.0 (clouds_of lines) cloud has) [
      | inr later ↦
          let r = reached next lines (length-set base line.0.0 (line_on line.1)
          ∙ long) (All-tail (λ cloud. cloud < 256) line.0.0 (clouds_of lines) few) cloud later in
          (r.0, inr r.1, r.2)
      | inl here ↦ elim (reached_by next lines (length-set base line.0.0 (line_on line.1)
          ∙ long) (All-tail (λ cloud. cloud < 256) line.0.0 (clouds_of lines) few) cloud) [
            | ByLine port l is ↦ (port, inr l, is)
            | AsBefore is ↦ (
              line.1,
              inl (here, refl),
              is ∙ ap (λ (n : ℕ). line_of next n) (sym here) ∙ get_or-set_same base line.0.0 (line_on line.1) no_line
                  (omega (arith, long, All-head (λ cloud. cloud < 256) line.0.0 (clouds_of lines) few)),
            )
          ]
    ]
  where
    next : List CloudLine
    next = set base line.0.0 (line_on line.1)

-- no cloud is reached by no lines
none_reached : (cloud port : ℕ) → (line_of (replicate 256 no_line) cloud).port ≡ Some port → ⊥
none_reached cloud port e = elim (cases_lt cloud 256) [
  | inl within ↦ (let none : None ≡ Some port = sym (ap (λ (l : CloudLine). l.port)
      (get_or-replicate 256 cloud no_line no_line within)) ∙ e in cc)
  | inr past ↦ (let none : None ≡ Some port = sym (ap (λ (l : CloudLine). l.port) (get_or_past
      (replicate 256 no_line) cloud no_line (omega (arith, past, length-replicate 256 no_line)))) ∙ e in cc)
]

-- a cloud with a port has it by a line
has_line : (lines : List (CloudNo × ℕ)) → All (λ cloud. cloud < 256) (clouds_of lines) → (cloud port : ℕ)
    → (line_of (lines_for lines) cloud).port ≡ Some port → HasLine lines cloud port
has_line lines few cloud port e = elim (reached_by (replicate 256 no_line) lines
    (length-replicate 256 no_line) few cloud) [
      | AsBefore is ↦ absurd (none_reached cloud port (sym (ap (λ (l : CloudLine). l.port) is) ∙ e))
      | ByLine p has is ↦ subst (λ (n : ℕ). HasLine lines cloud n) (some_same p port (sym (ap (λ (l : CloudLine). l.port) is)
          ∙ e)) has
    ]
  where
    some_same : (a b : ℕ) → Some a ≡ Some b → a ≡ b
    some_same a b e = cc

-- the clouds of replies that are as asked
few_clouds : (asked : AskedClouds) (count : ℕ) (before gs : List Greeting) → AreAsAsked asked count before gs
    → length before + length gs ≡ count
    → All (λ cloud. cloud < 256) (map (λ (g : Greeting). g.cloud) gs)
few_clouds asked count before [] as_asked long = All-nil _
few_clouds asked count before (g ∷ gs) as_asked long =
    All-cons (λ cloud. cloud < 256) g.cloud (map (λ (g : Greeting). g.cloud) gs) (few asked as_asked.0)
    (few_clouds asked count (before ++ g ∷ []) gs as_asked.1 (omega (arith, long, length_push before g)))
  where
    few : (a : AskedClouds) → IsAsAsked a count before g → g.cloud < 256
    few Backup is = omega (arith, long, is.place.0, is.place.1, is.shaped.few)
    few Restore is = omega (arith, is.place.2, is.shaped.few)

greeted_few : (asked : AskedClouds) (ports : List ℕ) (gs : List Greeting) (greeted : Greeted) → length gs ≡ length ports
    → AreAsAsked asked (length ports) [] gs → AreGreeted asked ports gs greeted
    → All (λ cloud. cloud < 256) (clouds_of greeted.lines.items)
greeted_few asked ports gs greeted long as_asked are =
    subst (λ (l : List ℕ). All (λ cloud. cloud < 256) l) (sym (clouds_are gs ports long) ∙ ap clouds_of (sym are.lines))
    (few_clouds asked (length ports) [] gs as_asked (omega (arith, long)))

pub are_reached : (asked : AskedClouds) (ports : List ℕ) (gs : List Greeting) (greeted : Greeted) → length gs ≡ length ports
    → AreAsAsked asked (length ports) [] gs → AreGreeted asked ports gs greeted → AreCloudsReached greeted.lines.items
are_reached asked ports gs greeted long as_asked are cloud has =
    let r = reached (replicate 256 no_line) greeted.lines.items (length-replicate 256 no_line)
    (greeted_few asked ports gs greeted long as_asked are) cloud has in
    subst (λ (l : CloudLine). IsTrue (is_some l.port)) (sym r.2) refl

pub have_talks : (asked : AskedClouds) (ports : List ℕ) (gs : List Greeting) (greeted : Greeted) (u : Telling)
    → length gs ≡ length ports
    → AreAsAsked asked (length ports) [] gs → AreGreeted asked ports gs greeted → IsTrue u.told → ArePortsApart ports
    → All (SaidHello u) ports
    → HaveTalks u greeted.lines.items
have_talks asked ports gs greeted u long as_asked are told apart said cloud has =
    let few = greeted_few asked ports gs greeted long as_asked are in
    let r = reached (replicate 256 no_line) greeted.lines.items (length-replicate 256 no_line) few cloud has in
    let b = brings (u.port r.0).to_come in
    let sent : (u.port r.0).sent ≡ frame hello = line_port (SaidHello u) greeted.lines.items cloud r.0 r.1 (subst (λ
    (l : List ℕ). All (SaidHello u) l) (sym are.ports) said) in (
      b.contents,
      record {
        told = told;
        apart = λ a d port at_a at_d. lines_apart greeted.lines.items a d port (subst ArePortsApart (sym are.ports) apart)
            (has_line greeted.lines.items few a port at_a) (has_line greeted.lines.items few d port at_d);
        port = r.0;
        reached = ap (λ (l : CloudLine). l.port) r.2;
        asked = record { lawful = ((lit≤ tt, lit≤ tt), tt); spelled = sent ∙ sym (append-nil (frame hello)) };
        coming = subst (λ (l : CloudLine). HasComing l.ended (u.port r.0).to_come b.contents) (sym r.2) b.is;
      },
    )

-- where all were met, each reply is as asked, and there are as many as ports, and as addresses
pub record Whole (asked : AskedClouds) (count : ℕ) (ports : List ℕ) (all : List Greeting) : Type 0 where
  pub as_asked : AreAsAsked asked (length ports) [] all
  pub long : length all ≡ length ports
  pub many : length ports ≡ count

pub through : (asked : AskedClouds) (count : ℕ) (t u : Telling) (ports : List ℕ) (all : List Greeting)
    → Meets asked count [] t ports (Ok all) u → Whole asked count ports all
through asked count t u ports all meets =
    let a = all_asked asked count [] t u ports (Ok all) meets in
    let long : length all ≡ length ports = ap length a.is ∙ a.long in
    let many : length ports ≡ count = sym long ∙ a.many in
    record {
      as_asked = subst (λ (n : ℕ). AreAsAsked asked n [] all) (sym many)
          (subst (λ (l : List Greeting). AreAsAsked asked count [] l) (sym a.is) a.as_asked);
      long = long;
      many = many;
    }

-- ---- other ports

-- a port that isn't among these
pub not_first : (line : CloudNo × ℕ) (rest : List (CloudNo × ℕ)) (port : ℕ) → ¬ Contains (ports_of (line ∷ rest)) port
    → port ≢ line.1
not_first line rest port none e =
    none (subst (λ (n : ℕ). Contains (ports_of (line ∷ rest)) n) (sym e) (contains_here line.1 (ports_of rest)))

pub not_later : (line : CloudNo × ℕ) (rest : List (CloudNo × ℕ)) (port : ℕ) → ¬ Contains (ports_of (line ∷ rest)) port
    → ¬ Contains (ports_of rest) port
not_later line rest port none c = none (contains_later line.1 (ports_of rest) port c)
