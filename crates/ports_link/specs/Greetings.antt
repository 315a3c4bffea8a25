-- What the clouds have to be that are asked Hello.
use Rattle.std.specs.Prelude.{◌≡◌, ℕ, ◌<◌, ◌≤◌, List, [], ◌∷◌, ◌++◌, length, All}
use Rattle.user_dedup.specs.CdBase.shape.Shape.{Shape}
use Rattle.user_dedup.specs.Messages.reply.Reply.TheVariants as replies
use Rattle.user_dedup.specs.Messages.Replies.{IsReply}
use Rattle.ports_link.specs.declared.judging.AskedClouds.{AskedClouds}
use Rattle.ports_link.specs.declared.judging.AskedClouds.TheVariants as asked
use Rattle.ports_link.specs.declared.judging.Greeting.{Greeting}
use Rattle.ports_link.specs.declared.refused.Refused.{Refused}
use Rattle.ports_link.specs.declared.refused.Refused.TheVariants as refusals

-- the content is the reply to Hello with these numbers
abbrev pub IsHello : List ℕ → Greeting → Type 0
IsHello content g = IsReply content (replies.Hello g.n g.k g.cloud 1)

-- the content is no reply to Hello
abbrev pub NoHello : List ℕ → Type 0
NoHello content = (g : Greeting) → ¬ IsHello content g

-- the numbers are a shape's: 2 <= k < n <= 16
pub record HasShape (g : Greeting) : Type 0 where
  pub several : 2 ≤ g.k
  pub spare : g.k < g.n
  pub few : g.n ≤ 16

-- the two are of one shape
abbrev pub HaveOneShape : Greeting → Greeting → Type 0
HaveOneShape a b = (a.n ≡ b.n) × (a.k ≡ b.k)

-- the shape is that of the first
abbrev pub IsOfFirst : List Greeting → Shape → Type 0
IsOfFirst [] shape = ⊥
IsOfFirst (first ∷ more) shape = (shape.n ≡ first.n) × (shape.k ≡ first.k)

-- A backup asks all n clouds, each at the address of its number. A restore asks k of them or more, in order.
abbrev pub HasPlaceBehind : AskedClouds → ℕ → List Greeting → Greeting → Type 0
HasPlaceBehind asked.Backup count before g = (g.n ≡ count) × (g.cloud ≡ length before)
HasPlaceBehind asked.Restore count before g = (g.k ≤ count) × All (λ (b : Greeting). b.cloud < g.cloud) before
    × (g.cloud < g.n)

-- The reply of the next of so many addresses is as it has to be, behind these.
pub record IsAsAsked (asked : AskedClouds) (count : ℕ) (before : List Greeting) (g : Greeting) : Type 0 where
  pub shaped : HasShape g
  pub same : All (λ b. HaveOneShape b g) before
  pub place : HasPlaceBehind asked count before g

-- each is as it has to be behind those before it
abbrev pub AreAsAsked : AskedClouds → ℕ → List Greeting → List Greeting → Type 0
AreAsAsked asked count before [] = Unit {0}
AreAsAsked asked count before (g ∷ more) = IsAsAsked asked count before g
    × AreAsAsked asked count (before ++ g ∷ []) more

-- the first byte, 0 where there is none
abbrev pub first_byte : List ℕ → ℕ
first_byte [] = 0
first_byte (byte ∷ bytes) = byte

-- The content is not what the next of so many addresses has to reply, behind these, and the refusal has its numbers, or
-- its first byte.
abbrev pub IsGreetingRefused : AskedClouds → ℕ → List Greeting → List ℕ → Refused → Type 0
IsGreetingRefused asked count before content (refusals.Hello position n k cloud) =
    (position ≡ length before) × IsHello content (record { n = n; k = k; cloud = cloud })
    × ¬ IsAsAsked asked count before (record { n = n; k = k; cloud = cloud })
IsGreetingRefused asked count before content (refusals.Strange position kind) =
    (position ≡ length before) × NoHello content × (kind ≡ first_byte content)
