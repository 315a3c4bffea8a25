-- What the records of a chain of format 1 leave.
use Rattle.std.proofs.Common.{◌≡◌, ℕ, ◌≤◌, true, List, [], ◌∷◌, ◌++◌, length, sym, ap, ◌∙◌, subst, append-nil, append_assoc}
use Rattle.std.specs.Prelude.{All}
use Rattle.std.proofs.lemmas.List.Elements.{All-contains, Contains-append_left, Contains-append_right}
use Rattle.std.proofs.lemmas.List.Sums.{fold-append}
use Rattle.journal_halves.specs.CdBase.ids.Fp.{Fp}
use Rattle.journal_halves.specs.CdBase.ids.UserId.{UserId}
use Rattle.journal_halves.specs.CdBase.place.Place.{Place}
use Rattle.journal_halves.specs.CdBase.shape.Shape.{Shape}
use Rattle.journal_halves.specs.CdEdges.area.Area.TheVariants.{Shares, Recipes}
use Rattle.journal_halves.specs.CdEdges.Disk.{Image}
use Rattle.record_laws.specs.ContainerLog.Laying.{Placed, IsAt}
use Rattle.journal_halves.specs.JournalStart.start.Header.{Header}
use Rattle.journal_halves.specs.JournalStart.Spelling.{commands_of, records_of, recipes_end_of}
use Rattle.first_records.specs.RecordBody.Spelling.{Body}
use Rattle.compact_memories.specs.UserDedup.command.Command.{Command}
use Rattle.compact_memories.specs.UserDedup.Cloud.{held_bytes}
use Rattle.compact_memories.specs.UserDedup.Dedup.{IsSound}
use Rattle.compact_memories.specs.UserDedup.Spending.{files_of}
use Rattle.compact_memories.proofs.UserDedup.Sound.{sound_before, contained}
use Rattle.compact_memories.specs.CloudAreas.Chains.{AreRecordsOfList, Summed, Then, AreLong, laid_shares}
use Rattle.compact_memories.specs.CloudAreas.FormatOne.{Lays}
use Rattle.compact_memories.specs.CloudAreas.Placing.{shares_in}
use Rattle.compact_memories.specs.CloudAreas.Standing.{Chain}
use Rattle.compact_memories.proofs.CloudAreas.Lists.{in_map}
use Rattle.compact_memories.specs.CloudMemory.Memory.{Memory, Stand}
use Rattle.record_laws.specs.Leaving.{record_left}
use Rattle.record_laws.proofs.Chain.{long_before}
use Rattle.first_laws.specs.Holding.{MayHoldOne, front_left_one}
use Rattle.first_laws.specs.Leaving.{begun_behind, first_left, first_left_by, IsLeftOne}
use Rattle.first_laws.proofs.Known.{front_few}
use Rattle.first_laws.proofs.Later.{later_left}
use Rattle.first_laws.proofs.Strings.{laid_string}
use Rattle.first_laws.proofs.Summed.{summed_left}

-- after each command few entries
abbrev pub HasFewFiles : Shape → List Command → Type 0
HasFewFiles shape list = (before after : List Command) → list ≡ before ++ after → (q : UserId) → files_of shape before q ≤ 16384

pub one_more : (shape : Shape) (area : List ℕ) (m : Memory) (before : List Body) (body : Body)
    → first_left_by shape area m (before ++ body ∷ []) ≡ first_left shape area (first_left_by shape area m before) body
one_more shape area m before body = fold-append (record_left shape area true) m before (body ∷ [])

module _ (shape : Shape) (cloud users end count commands : ℕ) (area : List ℕ) where
  pub all_left_one : (bodies : List Body) (list : List Command) (recipes : List Placed) → AreRecordsOfList 1 shape 0 count commands bodies list recipes → IsSound shape cloud list
      → HasFewFiles shape list → AreLong list (shares_in bodies) → All (IsAt area) recipes
      → IsLeftOne shape area end list bodies (first_left_by shape area (begun_behind users end) bodies)
  all_left_one _ _ _ (Summed bodies list recipes is len number) sound few long lie =
      summed_left shape cloud users end area list bodies recipes sound (few list [] (sym (append-nil list))) is long lie
  all_left_one _ _ _ (Then before old laid body command more says is) sound few long lie =
      let front : HasFewFiles shape old = λ a b same. few a (b ++ command ∷ []) (ap (λ (l : List Command). l ++ command ∷ []) same ∙ append_assoc a b (command ∷ [])) in
      let so_far = all_left_one before old laid says (sound_before shape cloud old command sound).sound front
      (long_before 1 shape 0 count commands before old laid command body says long)
      (contained (IsAt area) laid (λ b c. All-contains (IsAt area) (laid ++ more) b lie (Contains-append_left laid more b c))) in
      subst (IsLeftOne shape area end (old ++ command ∷ []) (before ++ body ∷ [])) (sym (one_more shape area (begun_behind users end) before body))
      (later_left shape cloud end area old before (first_left_by shape area (begun_behind users end) before) command body more sound (front old [] (sym (append-nil old))) so_far is
      (contained (IsAt area) more (λ b c. All-contains (IsAt area) (laid ++ more) b lie (Contains-append_right laid more b c))))

module _ (header : Header) (image : Image) (list : List Command) (c : Chain) (may : MayHoldOne header list) (lays : Lays header image list c) where
  pub says_one : AreRecordsOfList 1 header.shape 0 (records_of c.start.checkpoint) (commands_of c.start.checkpoint) c.records list c.recipes
  says_one =
      subst (λ (format : ℕ). AreRecordsOfList format header.shape 0 (records_of c.start.checkpoint) (commands_of c.start.checkpoint) c.records list c.recipes) may.format lays.says

  pub are_long : AreLong list (shares_in c.records)
  are_long = contained (λ (x : Fp × Place). x.1.len ≡ length (held_bytes list x.0)) (shares_in c.records) (λ x there.
      let s = laid_string list x.0 x.1 (lays.places x.0 x.1 there) in
      sym (ap (λ (p : Place). p.len) s.named) ∙ sym (ap (λ (b : List ℕ). length b) s.held))

  pub few_files : HasFewFiles header.shape list
  few_files = front_few header.shape list may.within

  pub chain_left_one : (users : ℕ) → IsLeftOne header.shape (image Recipes) (recipes_end_of c.start.checkpoint) list c.records (front_left_one header image users c c.records)
  chain_left_one users =
      all_left_one header.shape header.cloud.0 users (recipes_end_of c.start.checkpoint) (records_of c.start.checkpoint) (commands_of c.start.checkpoint) (image Recipes)
      c.records list c.recipes says_one may.sound few_files are_long lays.recipes

  -- each blob stands where the memory says
  pub chain_stands : (m : Memory) → IsLeftOne header.shape (image Recipes) (recipes_end_of c.start.checkpoint) list c.records m
      → Stand header.shape (image Shares) (image Recipes) list m
  chain_stands m one = record {
    strings = λ fp place is.
        All-contains (IsAt (image Shares)) (laid_shares list (shares_in c.records)) (record { place = place.at; blob = held_bytes list fp }) lays.shares
        (in_map (λ (x : Fp × Place). record { place = x.1.at; blob = held_bytes list x.0 }) (shares_in c.records) (fp, place) ((one.left.placed.shares fp place).0 is));
    entries = λ user key e entry is at. one.left.lie user key.0 key.1 e entry is at;
  }
