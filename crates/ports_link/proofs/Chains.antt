-- Clouds that are met, one after another.
use Rattle.std.proofs.Common.{◌≡◌, ℕ, suc, List, [], ◌∷◌, ◌++◌, length, refl, sym, ◌∙◌, ap, subst, inl, inr}
use Rattle.std.proofs.Common.{IsTrue, append-nil, append_assoc, Result, Ok, Err, IfOk}
use Rattle.std.specs.Prelude.{All}
use Rattle.std.proofs.lemmas.List.Elements.{All-nil, All-cons}
use Rattle.user_dedup.specs.Frames.Frames.{frame}
use Rattle.transcript.specs.CdEdges.Ports.{Telling, Port, OthersStay}
use Rattle.ports_link.specs.declared.judging.AskedClouds.{AskedClouds}
use Rattle.ports_link.specs.declared.judging.Greeting.{Greeting}
use Rattle.ports_link.specs.declared.meeting.MeetErr.{MeetErr}
use Rattle.ports_link.specs.declared.meeting.MeetErr.TheVariants as errors
use Rattle.ports_link.specs.Dialled.{AreNext, AreDialled}
use Rattle.ports_link.specs.Greetings.{AreAsAsked}
use Rattle.ports_link.specs.Hellos.{Hears, hello}
use Rattle.ports_link.specs.Meeting.{IsMet, Meets, Through, Next, Refuses, Loses, Undials, Lacks}
use Rattle.ports_link.proofs.Opening.{none_dialled, one_dialled, more_dialled, not_behind}

-- what becomes of the rest is what becomes of all
abbrev pub Follows : AskedClouds → ℕ → Telling → List ℕ → List Greeting → Telling → Type 0
Follows asked count old done before t = (result : Result (List Greeting) MeetErr) (ports : List ℕ) (u : Telling)
    → Meets asked count before t ports result u → Meets asked count [] old (done ++ ports) result u

pub follows_none : (asked : AskedClouds) (count : ℕ) (old : Telling) → Follows asked count old [] [] old
follows_none asked count old result ports u x = x

pub follows_on : (asked : AskedClouds) (count : ℕ) (old : Telling) (done : List ℕ) (before : List Greeting)
    (t mid : Telling) (port : ℕ) (g : Greeting) → Follows asked count old done before t
    → IsMet asked count before t port g mid
    → Follows asked count old (done ++ port ∷ []) (before ++ g ∷ []) mid
follows_on asked count old done before t mid port g f met result ports u x =
    subst (λ (l : List ℕ). Meets asked count [] old l result u) (sym (append_assoc done (port ∷ []) ports))
    (f result (port ∷ ports) u (Next before t mid u port ports g result met x))

-- ---- what a Hello leaves

hears_others : (t u : Telling) (port : ℕ) (content : List ℕ) → Hears t u port content → OthersStay t u port
hears_others t u port content (inl r) other apart = r.received.others other apart ∙ r.sent.others other apart
hears_others t u port content (inr b) other apart = b.0.received.others other apart ∙ b.0.sent.others other apart

hears_opened : (t u : Telling) (port : ℕ) (content : List ℕ) → Hears t u port content → u.opened ≡ t.opened
hears_opened t u port content (inl r) = r.received.opened ∙ r.sent.opened
hears_opened t u port content (inr b) = b.0.received.opened ∙ b.0.sent.opened

hears_sent : (t u : Telling) (port : ℕ) (content : List ℕ) → Hears t u port content → (t.port port).sent ≡ []
    → (u.port port).sent ≡ frame hello
hears_sent t u port content (inl r) silent = r.received.sent ∙ r.sent.went
    ∙ ap (λ (l : List ℕ). l ++ frame hello) silent
hears_sent t u port content (inr b) silent = b.0.received.sent ∙ b.0.sent.went
    ∙ ap (λ (l : List ℕ). l ++ frame hello) silent

-- ---- what all of them leave

pub told_stays : (asked : AskedClouds) (count : ℕ) (before : List Greeting) (t u : Telling) (ports : List ℕ)
    (result : Result (List Greeting) MeetErr) → Meets asked count before t ports result u → u.told ≡ t.told
told_stays asked count before t u ports result (Through _ _ all) = refl
told_stays asked count before t u ports result (Next _ _ mid _ _ rest g _ met x) =
    told_stays asked count (before ++ g ∷ []) mid u rest result x ∙ met.told
told_stays asked count before t u ports result (Refuses _ _ _ _ _ unmet) = unmet.told
told_stays asked count before t u ports result (Loses _ _ _ _ unheard) = unheard.told
told_stays asked count before t u ports result (Undials _ _ some) = refl
told_stays asked count before t u ports result (Lacks _ _ _ _ dialled told) = told

pub are_dialled : (asked : AskedClouds) (count : ℕ) (before : List Greeting) (t u : Telling) (ports : List ℕ)
    (result : Result (List Greeting) MeetErr) → Meets asked count before t ports result u → IsTrue t.told
    → AreDialled t u ports
are_dialled asked count before t u ports result (Through _ _ all) told = none_dialled t
are_dialled asked count before t u ports result (Next _ _ mid _ port rest g _ met x) told =
    more_dialled t met.opened mid u port rest (met.opens told)
    (hears_others met.opened mid port met.content (met.hears told))
    (hears_opened met.opened mid port met.content (met.hears told))
    (are_dialled asked count (before ++ g ∷ []) mid u rest result x (rw met.told told))
are_dialled asked count before t u ports result (Refuses _ _ _ port _ unmet) told =
    one_dialled t unmet.opened u port (unmet.opens told)
    (hears_others unmet.opened u port unmet.content (unmet.hears told))
are_dialled asked count before t u ports result (Loses _ _ _ port unheard) told =
    one_dialled t unheard.opened u port (unheard.opens told) (unheard.others told)
are_dialled asked count before t u ports result (Undials _ _ some) told = none_dialled t
are_dialled asked count before t u ports result (Lacks _ _ _ _ dialled same) told = dialled told

-- ---- where each was as asked

pub record AllAsked (asked : AskedClouds) (count : ℕ) (before : List Greeting) (ports : List ℕ)
    (all : List Greeting) : Type 0 where
  pub more : List Greeting
  pub is : all ≡ before ++ more
  pub as_asked : AreAsAsked asked count before more
  pub long : length more ≡ length ports
  pub many : length all ≡ count

pub all_asked : (asked : AskedClouds) (count : ℕ) (before : List Greeting) (t u : Telling) (ports : List ℕ)
    (result : Result (List Greeting) MeetErr) → Meets asked count before t ports result u
    → IfOk result (AllAsked asked count before ports)
all_asked asked count before t u ports result (Through _ _ all) = record {
  more = [];
  is = sym (append-nil before);
  as_asked = tt;
  long = refl;
  many = all;
}
all_asked asked count before t u ports result (Next _ _ mid _ port rest g _ met x) =
    asked_more result (all_asked asked count (before ++ g ∷ []) mid u rest result x)
  where
    asked_more : (r : Result (List Greeting) MeetErr) → IfOk r (AllAsked asked count (before ++ g ∷ []) rest)
        → IfOk r (AllAsked asked count before (port ∷ rest))
    asked_more (Ok all) a = record {
      more = g ∷ a.more;
      is = a.is ∙ append_assoc before (g ∷ []) a.more;
      as_asked = (met.as_asked, a.as_asked);
      long = ap suc a.long;
      many = a.many;
    }
    asked_more (Err e) a = tt
all_asked asked count before t u ports result (Refuses _ _ _ _ _ unmet) = tt
all_asked asked count before t u ports result (Loses _ _ _ _ unheard) = tt
all_asked asked count before t u ports result (Undials _ _ some) = tt
all_asked asked count before t u ports result (Lacks _ _ _ _ dialled told) = tt

-- on each port just Hello was sent
abbrev pub SaidHello : Telling → ℕ → Type 0
SaidHello u port = (u.port port).sent ≡ frame hello

pub said_hello : (asked : AskedClouds) (count : ℕ) (before : List Greeting) (t u : Telling) (ports : List ℕ)
    (result : Result (List Greeting) MeetErr) → Meets asked count before t ports result u → IsTrue t.told
    → IfOk result (λ all. All (SaidHello u) ports)
said_hello asked count before t u ports result (Through _ _ all) told = All-nil (SaidHello u)
said_hello asked count before t u ports result (Next _ _ mid _ port rest g _ met x) told =
    both result (said_hello asked count (before ++ g ∷ []) mid u rest result x then_told)
  where
    then_told : IsTrue mid.told
    then_told = rw met.told told

    behind : AreDialled mid u rest
    behind = are_dialled asked count (before ++ g ∷ []) mid u rest result x then_told

    next : AreNext (suc t.opened) rest
    next = subst (λ (n : ℕ). AreNext n rest)
        (hears_opened met.opened mid port met.content (met.hears told) ∙ (met.opens told).opened) behind.next

    here : SaidHello u port
    here = ap (λ (p : Port). p.sent) (behind.others port (not_behind t.opened port rest next (met.opens told).next))
        ∙ hears_sent met.opened mid port met.content (met.hears told) (met.opens told).fresh

    both : (r : Result (List Greeting) MeetErr) → IfOk r (λ all. All (SaidHello u) rest)
        → IfOk r (λ all. All (SaidHello u) (port ∷ rest))
    both (Ok all) a = All-cons (SaidHello u) port rest here a
    both (Err e) a = tt
said_hello asked count before t u ports result (Refuses _ _ _ _ _ unmet) told = tt
said_hello asked count before t u ports result (Loses _ _ _ _ unheard) told = tt
said_hello asked count before t u ports result (Undials _ _ some) told = tt
said_hello asked count before t u ports result (Lacks _ _ _ _ dialled same) told = tt

-- where memory runs out behind a reply
pub lacks_behind : (asked : AskedClouds) (count : ℕ) (before : List Greeting) (t u : Telling) (port : ℕ) (g : Greeting)
    → IsMet asked count before t port g u
    → Meets asked count before t (port ∷ []) (Err errors.NoMemory) u
lacks_behind asked count before t u port g met =
    Lacks before t u (port ∷ []) (λ told. one_dialled t met.opened u port (met.opens told)
    (hears_others met.opened u port met.content (met.hears told))) met.told
