-- Clouds that are met one after another: each is dialled and asked Hello when the Hello of the one before came as asked.
use Rattle.std.specs.Prelude.{◌≡◌, ℕ, ◌<◌, IsTrue, List, [], ◌∷◌, ◌++◌, length, Result, Ok, Err}
use Rattle.transcript.specs.CdEdges.Causes.{Rose}
use Rattle.transcript.specs.CdEdges.Ports.{Telling, HasOpenedPort, OthersStay}
use Rattle.ports_link.specs.Dialled.{AreDialled}
use Rattle.ports_link.specs.Greetings.{IsHello, IsAsAsked, IsGreetingRefused}
use Rattle.ports_link.specs.Hellos.{AreGreeted, Hears}
use Rattle.ports_link.specs.declared.judging.AskedClouds.{AskedClouds}
use Rattle.ports_link.specs.declared.judging.Greeting.{Greeting}
use Rattle.ports_link.specs.declared.refused.Refused.{Refused}
use Rattle.ports_link.specs.declared.greeting.Greeted.{Greeted}
use Rattle.ports_link.specs.declared.meeting.MeetErr.{MeetErr}
use Rattle.ports_link.specs.declared.meeting.MeetErr.TheVariants as errors

-- The next of so many addresses was dialled, behind such replies, and asked Hello, and its reply is this one and as asked.
-- The ports say so where they tell their bytes.
pub record IsMet (asked : AskedClouds) (count : ℕ) (before : List Greeting) (t : Telling) (port : ℕ) (g : Greeting)
    (u : Telling) : Type 0 where
  pub some : length before < count
  pub opened : Telling
  pub opens : IsTrue t.told → HasOpenedPort t opened port
  pub content : List ℕ
  pub hears : IsTrue t.told → Hears opened u port content
  pub told : u.told ≡ t.told
  pub is : IsHello content g
  pub as_asked : IsAsAsked asked count before g

-- It was dialled and asked Hello, and its reply isn't as asked: the refusal says which, and what came.
pub record IsUnmet (asked : AskedClouds) (count : ℕ) (before : List Greeting) (t : Telling) (port : ℕ) (why : Refused)
    (u : Telling) : Type 0 where
  pub some : length before < count
  pub opened : Telling
  pub opens : IsTrue t.told → HasOpenedPort t opened port
  pub content : List ℕ
  pub hears : IsTrue t.told → Hears opened u port content
  pub told : u.told ≡ t.told
  pub refused : IsGreetingRefused asked count before content why

-- It was dialled, and the ports failed in its Hello: no other port changed, and none was opened.
pub record IsUnheard (count : ℕ) (before : List Greeting) (t : Telling) (port : ℕ) (u : Telling) : Type 0 where
  pub some : length before < count
  pub opened : Telling
  pub opens : IsTrue t.told → HasOpenedPort t opened port
  pub others : IsTrue t.told → OthersStay opened u port
  pub none : IsTrue t.told → u.opened ≡ opened.opened
  pub told : u.told ≡ t.told

-- What came of so many addresses, behind such replies, with the ports that were dialled, in order: the reply of each was
-- as asked, to the last; or a reply wasn't, or the ports failed in a Hello, and the cloud of this port is the last that
-- was dialled; or the next couldn't be dialled, and nothing more happened; or memory ran out.
pub data Meets (asked : AskedClouds) (count : ℕ) : List Greeting → Telling → List ℕ → Result (List Greeting) MeetErr
    → Telling → Type 0 where
  Through : (before : List Greeting) (t : Telling) → length before ≡ count
      → Meets asked count before t [] (Ok before) t
  Next : (before : List Greeting) (t mid u : Telling) (port : ℕ) (ports : List ℕ) (g : Greeting)
      (result : Result (List Greeting) MeetErr)
      → IsMet asked count before t port g mid → Meets asked count (before ++ g ∷ []) mid ports result u
      → Meets asked count before t (port ∷ ports) result u
  Refuses : (before : List Greeting) (t u : Telling) (port : ℕ) (why : Refused)
      → IsUnmet asked count before t port why u
      → Meets asked count before t (port ∷ []) (Err (errors.Refused why)) u
  Loses : (before : List Greeting) (t u : Telling) (port : ℕ) → IsUnheard count before t port u
      → Meets asked count before t (port ∷ []) (Err errors.Lost) u
  Undials : (before : List Greeting) (t : Telling) → length before < count
      → Meets asked count before t [] (Err errors.Undialled) t
  Lacks : (before : List Greeting) (t u : Telling) (ports : List ℕ) → (IsTrue t.told → AreDialled t u ports)
      → u.told ≡ t.told → Meets asked count before t ports (Err errors.NoMemory) u

-- What came of all of so many addresses.
abbrev pub MeetsAll : AskedClouds → ℕ → Telling → Telling → Result Greeted MeetErr → Type 0
MeetsAll asked count old new (Ok greeted) =
    (dialled : List ℕ) × (greetings : List Greeting) × Meets asked count [] old dialled (Ok greetings) new
    × AreGreeted asked dialled greetings greeted
MeetsAll asked count old new (Err e) = (dialled : List ℕ) × Meets asked count [] old dialled (Err e) new

-- The count of faults rose where a dial or a Hello failed, and else stands.
abbrev pub CountsMeeting : {A : Type 0} → ℕ → ℕ → Result A MeetErr → Type 0
CountsMeeting before now (Ok greeted) = now ≡ before
CountsMeeting before now (Err errors.Undialled) = Rose before now
CountsMeeting before now (Err (errors.Refused why)) = now ≡ before
CountsMeeting before now (Err errors.Lost) = Rose before now
CountsMeeting before now (Err errors.NoMemory) = now ≡ before
