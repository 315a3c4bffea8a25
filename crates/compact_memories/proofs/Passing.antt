-- Rows of what each user keeps, slot by slot.
use Rattle.std.proofs.Common.{◌≡◌, ◌≢◌, ℕ, ◌+◌, ◌*◌, ◌<◌, ◌≤◌, cond, List, [], ◌∷◌, ◌++◌, length, take, set, Option, Some, None, get_or, refl, sym, ap, ◌∙◌, subst, arith, inl, inr, eq-eqb, append-nil, length-append, length-set, replicate}
use Rattle.std.specs.Prelude.{option_map}
use Rattle.std.specs.FinMap.{FinMap, get}
use Rattle.std.specs.List.{sum_by}
use Rattle.std.proofs.lemmas.Bool.{cases_eq, cases_lt, ne_eqb}
use Rattle.std.proofs.lemmas.List.{take_all, take_more, get_or-set_same, get_or-set_other, get_or_past, get_or-replicate, length-replicate}
use Rattle.std.proofs.lemmas.List.Sums.{sum_by-append}
use Rattle.compact_lists.specs.CdBase.ids.Fp.{Fp}
use Rattle.compact_lists.specs.CdBase.place.Place.{Place}
use Rattle.compact_lists.specs.CdBase.Order.{fp_cmp}
use Rattle.checkpoints.specs.FileIndex.key.Entry.{Entry}
use Rattle.checkpoints.specs.FileIndex.key.FileKey.{FileKey}
use Rattle.checkpoints.specs.FileIndex.Files.{Files}
use Rattle.checkpoints.specs.ShareIndex.key.Owner.{Owner}
use Rattle.checkpoints.specs.ShareIndex.Order.{owner_of}
use Rattle.checkpoints.specs.ShareIndex.Shares.{Shares}
use Rattle.checkpoints.specs.SpentTable.Spent.{Spent}
use Rattle.checkpoints.specs.SpentTable.Spending.{nothing, both, of_shares, of_recipe}
use Rattle.checkpoints.specs.CloudMemory.Steps.{placed_len}
use Rattle.checkpoints.specs.Picking.{onto, picked}
use Rattle.checkpoints.specs.Records.{owned_at, owned_in}
use Rattle.checkpoints.proofs.Picks.{picked-append}
use Rattle.compact_memories.specs.Passes.{row_of, owned_len, entry_at, entries_of, IsRow, AreRowsSmall, OwnedSoFar, KeptSoFar}

pub more : {S X : Type 0} (f : Option S → Option X) (slots : List (Option S)) (slot : ℕ) → slot < length slots
    → picked f (take (slot + 1) slots) ≡ picked f (take slot slots) ++ onto (f (get_or slots slot None)) []
more f slots slot below = ap (picked f) (take_more slots slot None below) ∙ picked-append f (take slot slots) (get_or slots slot None ∷ [])

pub more_none : {S X : Type 0} (f : Option S → Option X) (slots : List (Option S)) (slot : ℕ) → slot < length slots
    → f (get_or slots slot None) ≡ None → picked f (take (slot + 1) slots) ≡ picked f (take slot slots)
more_none f slots slot below none =
    more f slots slot below
    ∙ ap (λ o. picked f (take slot slots) ++ onto o []) none
    ∙ append-nil (picked f (take slot slots))

pub more_one : {S X : Type 0} (f : Option S → Option X) (slots : List (Option S)) (slot : ℕ) (x : X) → slot < length slots
    → f (get_or slots slot None) ≡ Some x → picked f (take (slot + 1) slots) ≡ picked f (take slot slots) ++ x ∷ []
more_one f slots slot x below one = more f slots slot below ∙ ap (λ o. picked f (take slot slots) ++ onto o []) one

-- ---- owners

-- the owner in a slot, whatever its uses are
pub owner_in : (o : Option (Owner × ℕ)) (k : Owner) → option_map (λ (p : Owner × ℕ). p.0) o ≡ Some k → (uses : ℕ) × (o ≡ Some (k, uses))
owner_in None k is = absurd (let no : ◌≡◌ {A = Option Owner} None (Some k) = is in cc)
owner_in (Some e) k is = let same : ◌≡◌ {A = Option Owner} (Some e.0) (Some k) = is in let key : e.0 ≡ k = cc in (e.1, ap (λ (q : Owner). Some (q, e.1)) key)

pub no_owner : (o : Option (Owner × ℕ)) → option_map (λ (p : Owner × ℕ). p.0) o ≡ None → o ≡ None
no_owner None is = refl
no_owner (Some e) is = absurd (let no : ◌≡◌ {A = Option Owner} (Some e.0) None = is in cc)

module _ (shares : Shares) (rows : List Spent) (slot : ℕ) (below : slot < length shares.owner_slots) (s : OwnedSoFar shares rows slot) where
  abbrev slots : List (Option (Owner × ℕ))
  slots = shares.owner_slots

  stays : (user : ℕ) (row : Spent) → owned_at user (get_or slots slot None) ≡ None → IsRow shares.places (take slot slots) [] user row → IsRow shares.places (take (slot + 1) slots) [] user row
  stays user row none is =
      let same = more_none (owned_at user) slots slot below none in
      record {
        owned = is.owned ∙ ap (λ (fps : List Fp). length fps) (sym same);
        shares = is.shares ∙ ap (sum_by (λ (fp : Fp). placed_len (get shares.places fp.0))) (sym same);
        recipes = is.recipes;
      }

  pub owned_none : option_map (λ (p : Owner × ℕ). p.0) (get_or slots slot None) ≡ None → OwnedSoFar shares rows (slot + 1)
  owned_none is = record {
    are_rows = λ user inside. stays user (row_of rows user) (ap (owned_at user) (no_owner (get_or slots slot None) is)) (s.are_rows user inside);
    few = λ user. let f = s.few user in omega (arith, f);
    small = λ user. let f = s.small user in omega (arith, f);
  }

  module _ (user : ℕ) (fp : Fp) (bytes : ℕ) (is : option_map (λ (p : Owner × ℕ). p.0) (get_or slots slot None) ≡ Some (owner_of user fp.0))
      (long : bytes ≡ placed_len (get shares.places fp.0)) (few_bytes : bytes < 4294967296) where
    abbrev row : Spent
    row = both (row_of rows user) (of_shares 1 bytes)

    abbrev rest : List Spent
    rest = set rows user row

    here : get_or slots slot None ≡ Some (owner_of user fp.0, (owner_in (get_or slots slot None) (owner_of user fp.0) is).0)
    here = (owner_in (get_or slots slot None) (owner_of user fp.0) is).1

    grows : IsRow shares.places (take slot slots) [] user (row_of rows user) → IsRow shares.places (take (slot + 1) slots) [] user row
    grows had =
        let one = more_one (owned_at user) slots slot fp below (ap (owned_at user) here ∙ ap (λ b. cond b (Some fp) None) (eq-eqb user user refl)) in
        let count = ap (λ (fps : List Fp). length fps) one ∙ length-append (owned_in user (take slot slots)) (fp ∷ []) in
        let sum = ap (sum_by (λ (f : Fp). placed_len (get shares.places f.0))) one ∙ sum_by-append (λ (f : Fp). placed_len (get shares.places f.0)) (owned_in user (take slot slots)) (fp ∷ []) in
        let owned = had.owned in let sent = had.shares in
        record {
          owned = omega (arith, owned, count);
          shares = omega (arith, sent, sum, long);
          recipes = let r = had.recipes in omega (arith, r);
        }

    other : (u : ℕ) → u ≢ user → owned_at u (get_or slots slot None) ≡ None
    other u ne = ap (owned_at u) here ∙ ap (λ b. cond b (Some fp) None) (ne_eqb user u (λ same. ne (sym same)))

    -- a row that was set, or one beside it
    abbrev Both : (Spent → Type 0) → ℕ → Type 0
    Both P u = ((u ≡ user) × (user < length rows) → P row) → ((u ≢ user) → P (row_of rows u)) → ((length rows ≤ u) → P nothing) → P (row_of rest u)

    both_rows : (P : Spent → Type 0) (u : ℕ) → Both P u
    both_rows P u set_here beside past =
        elim (cases_lt u (length rows)) [
          | inl inside ↦ elim (cases_eq u user) [
            | inl same ↦
                let within : user < length rows = subst (λ (n : ℕ). n < length rows) same inside in
                subst P (sym (ap (λ (n : ℕ). row_of rest n) same ∙ get_or-set_same rows user row nothing within)) (set_here (same, within))
            | inr ne ↦ subst P (sym (get_or-set_other rows user u row nothing ne)) (beside ne)
          ]
          | inr beyond ↦
              let long_rest = length-set rows user row in
              subst P (sym (get_or_past rest u nothing (omega (arith, beyond, long_rest)))) (past (omega (arith, beyond)))
        ]

    pub owned_one : OwnedSoFar shares rest (slot + 1)
    owned_one = record {
      are_rows = λ u inside.
          let within : u < length rows = let l = length-set rows user row in omega (arith, inside, l) in
          both_rows (λ (r : Spent). IsRow shares.places (take (slot + 1) slots) [] u r) u
          (λ same. subst (λ (n : ℕ). IsRow shares.places (take (slot + 1) slots) [] n row) (sym same.0) (grows (s.are_rows user same.1)))
          (λ ne. stays u (row_of rows u) (other u ne) (s.are_rows u within))
          (λ past. absurd (omega (arith, past, within)));
      few = λ u. both_rows (λ (r : Spent). r.owners ≤ slot + 1) u
          (λ same. let f = s.few user in omega (arith, f))
          (λ ne. let f = s.few u in omega (arith, f))
          (λ past. omega arith);
      small = λ u. both_rows (λ (r : Spent). r.shares ≤ (slot + 1) * 4294967295) u
          (λ same. let f = s.small user in omega (arith, f, few_bytes))
          (λ ne. let f = s.small u in omega (arith, f))
          (λ past. omega arith);
    }

-- ---- entries

module _ (shares : Shares) (index : Files) (rows : List Spent) (slot : ℕ) (below : slot < length index.slots) (s : KeptSoFar shares index rows slot) where
  abbrev files : List (Option (FileKey × Entry))
  files = index.slots

  abbrev places : FinMap fp_cmp Place
  places = shares.places

  abbrev owners : List (Option (Owner × ℕ))
  owners = shares.owner_slots

  keeps : (user : ℕ) (row : Spent) → entry_at user (get_or files slot None) ≡ None → IsRow places owners (take slot files) user row → IsRow places owners (take (slot + 1) files) user row
  keeps user row none is = record {
    owned = is.owned;
    shares = is.shares;
    recipes = is.recipes ∙ ap (sum_by (λ (e : FileKey × Entry). e.1.len)) (sym (more_none (entry_at user) files slot below none));
  }

  pub entry_none : get_or files slot None ≡ None → KeptSoFar shares index rows (slot + 1)
  entry_none is = record {
    are_rows = λ user inside. keeps user (row_of rows user) (ap (entry_at user) is) (s.are_rows user inside);
  }

  module _ (key : FileKey) (e : Entry) (is : get_or files slot None ≡ Some (key, e)) where
    abbrev entry_row : Spent
    entry_row = both (row_of rows key.user) (of_recipe e.len)

    abbrev entry_rest : List Spent
    entry_rest = set rows key.user entry_row

    entry_grows : IsRow places owners (take slot files) key.user (row_of rows key.user) → IsRow places owners (take (slot + 1) files) key.user entry_row
    entry_grows had =
        let one = more_one (entry_at key.user) files slot (key, e) below (ap (entry_at key.user) is ∙ ap (λ b. cond b (Some (key, e)) None) (eq-eqb key.user key.user refl)) in
        let sum = ap (sum_by (λ (x : FileKey × Entry). x.1.len)) one ∙ sum_by-append (λ (x : FileKey × Entry). x.1.len) (entries_of key.user (take slot files)) ((key, e) ∷ []) in
        let owned = had.owned in let sent = had.shares in let recipes = had.recipes in
        record {
          owned = omega (arith, owned);
          shares = omega (arith, sent);
          recipes = omega (arith, recipes, sum);
        }

    entry_other : (u : ℕ) → u ≢ key.user → entry_at u (get_or files slot None) ≡ None
    entry_other u ne = ap (entry_at u) is ∙ ap (λ b. cond b (Some (key, e)) None) (ne_eqb key.user u (λ same. ne (sym same)))

    entry_rows : (P : Spent → Type 0) (u : ℕ) → ((u ≡ key.user) × (key.user < length rows) → P entry_row) → ((u ≢ key.user) → P (row_of rows u)) → ((length rows ≤ u) → P nothing) → P (row_of entry_rest u)
    entry_rows P u set_here beside past =
        elim (cases_lt u (length rows)) [
          | inl inside ↦ elim (cases_eq u key.user) [
            | inl same ↦
                let within : key.user < length rows = subst (λ (n : ℕ). n < length rows) same inside in
                subst P (sym (ap (λ (n : ℕ). row_of entry_rest n) same ∙ get_or-set_same rows key.user entry_row nothing within)) (set_here (same, within))
            | inr ne ↦ subst P (sym (get_or-set_other rows key.user u entry_row nothing ne)) (beside ne)
          ]
          | inr beyond ↦
              let long_rest = length-set rows key.user entry_row in
              subst P (sym (get_or_past entry_rest u nothing (omega (arith, beyond, long_rest)))) (past (omega (arith, beyond)))
        ]

    pub entry_one : KeptSoFar shares index entry_rest (slot + 1)
    entry_one = record {
      are_rows = λ u inside.
          let within : u < length rows = let l = length-set rows key.user entry_row in omega (arith, inside, l) in
          entry_rows (λ (r : Spent). IsRow places owners (take (slot + 1) files) u r) u
          (λ same. subst (λ (n : ℕ). IsRow places owners (take (slot + 1) files) n entry_row) (sym same.0) (entry_grows (s.are_rows key.user same.1)))
          (λ ne. keeps u (row_of rows u) (entry_other u ne) (s.are_rows u within))
          (λ past. absurd (omega (arith, past, within)));
    }

-- ---- bytes of recipes

module _ (rows : List Spent) (user bytes slot : ℕ) (small : AreRowsSmall rows slot) (few : bytes < 4294967296) where
  abbrev longer : Spent
  longer = both (row_of rows user) (of_recipe bytes)

  abbrev with_longer : List Spent
  with_longer = set rows user longer

  -- a row with so many more bytes of a recipe leaves all rows small
  pub still_small : AreRowsSmall with_longer (slot + 1)
  still_small u = elim (cases_lt u (length rows)) [
    | inl inside ↦ elim (cases_eq u user) [
      | inl same ↦
          let within : user < length rows = subst (λ (n : ℕ). n < length rows) same inside in
          let is = ap (λ (n : ℕ). (row_of with_longer n).recipes) same ∙ ap (λ (r : Spent). r.recipes) (get_or-set_same rows user longer nothing within) in
          let f = small user in omega (arith, is, f, few)
      | inr ne ↦ let is = ap (λ (r : Spent). r.recipes) (get_or-set_other rows user u longer nothing ne) in let f = small u in omega (arith, is, f)
    ]
    | inr beyond ↦
        let long = length-set rows user longer in
        let is = ap (λ (r : Spent). r.recipes) (get_or_past with_longer u nothing (omega (arith, beyond, long))) in omega (arith, is)
  ]

-- ---- where a pass begins and ends

pub owned_begins : (shares : Shares) (rows : List Spent) → ((user : ℕ) → row_of rows user ≡ nothing) → OwnedSoFar shares rows 0
owned_begins shares rows none = record {
  are_rows = λ user inside. subst (IsRow shares.places [] [] user) (sym (none user)) (record { owned = refl; shares = refl; recipes = refl });
  few = λ user. let z = ap (λ (r : Spent). r.owners) (none user) in omega (arith, z);
  small = λ user. let z = ap (λ (r : Spent). r.shares) (none user) in omega (arith, z);
}

pub blank : (count user : ℕ) → row_of (replicate count nothing) user ≡ nothing
blank count user = elim (cases_lt user count) [
  | inl inside ↦ get_or-replicate count user nothing nothing inside
  | inr beyond ↦ let long = length-replicate count nothing in get_or_past (replicate count nothing) user nothing (omega (arith, beyond, long))
]

pub owned_ends : (shares : Shares) (files : Files) (rows : List Spent) (slot : ℕ) → length shares.owner_slots ≤ slot → OwnedSoFar shares rows slot → KeptSoFar shares files rows 0
owned_ends shares files rows slot past s = record {
  are_rows = λ user inside.
      let row = s.are_rows user inside in let all = take_all slot shares.owner_slots past in
      record {
        owned = row.owned ∙ ap (λ (slots : List (Option (Owner × ℕ))). length (owned_in user slots)) all;
        shares = row.shares ∙ ap (λ (slots : List (Option (Owner × ℕ))). owned_len shares.places slots user) all;
        recipes = row.recipes;
      };
}

pub kept_ends : (shares : Shares) (files : Files) (rows : List Spent) → KeptSoFar shares files rows (length files.slots) → (user : ℕ) → user < length rows
    → IsRow shares.places shares.owner_slots files.slots user (row_of rows user)
kept_ends shares files rows s user inside =
    subst (λ (slots : List (Option (FileKey × Entry))). IsRow shares.places shares.owner_slots slots user (row_of rows user)) (take_all (length files.slots) files.slots (omega arith)) (s.are_rows user inside)

pub owned_small : (shares : Shares) (rows : List Spent) (slot : ℕ) → OwnedSoFar shares rows slot → AreRowsSmall rows 0
owned_small shares rows slot s user = elim (cases_lt user (length rows)) [
  | inl inside ↦ let none = (s.are_rows user inside).recipes in omega (arith, none)
  | inr beyond ↦ let none = ap (λ (r : Spent). r.recipes) (get_or_past rows user nothing (omega (arith, beyond))) in omega (arith, none)
]

-- past the last slot there is nothing more
pub kept_past : (shares : Shares) (files : Files) (rows : List Spent) (slot : ℕ) → length files.slots ≤ slot → KeptSoFar shares files rows slot → KeptSoFar shares files rows (length files.slots)
kept_past shares files rows slot past s = record {
  are_rows = λ user inside.
      subst (λ (slots : List (Option (FileKey × Entry))). IsRow shares.places shares.owner_slots slots user (row_of rows user))
      (take_all slot files.slots past ∙ sym (take_all (length files.slots) files.slots (omega arith))) (s.are_rows user inside);
}
