-- Areas that stand for a list, and are begun, have its header in their current half.
use Rattle.std.proofs.Common.{◌≡◌, inl, inr, ℕ, List, sym, ◌∙◌, ap}
use Rattle.journal_halves.specs.CdEdges.area.Area.TheVariants.{Journal}
use Rattle.journal_halves.specs.CdEdges.Disk.{Image}
use Rattle.journal_halves.specs.JournalStart.start.Header.{Header}
use Rattle.journal_halves.specs.JournalStart.start.Start.{Start}
use Rattle.journal_halves.specs.Beginnings.{IsUnbegun}
use Rattle.journal_halves.specs.Halves.{IsCurrent}
use Rattle.journal_halves.proofs.Current.{one_current}
use Rattle.user_dedup.specs.declared.command.Command.{Command}
use Rattle.cloud_areas.specs.Standing.{StandsFor}

pub one_header : (image : Image) (header : Header) (list : List Command) (half : ℕ) (start : Start) → StandsFor image header list
    → ¬ IsUnbegun (image Journal) → IsCurrent (image Journal) half start → start.header ≡ header
unfolding StandsFor
one_header image header list half start stands begun current =
    elim stands.1 [
      | inl has ↦ (let c = has.chain_of in
          let same : start ≡ c.start = one_current (image Journal) half c.half start c.start current has.is_chain.there.current in
          ap (λ (s : Start). s.header) same ∙ has.is_chain.header_is)
      | inr none ↦ absurd (begun none.0)
    ]
