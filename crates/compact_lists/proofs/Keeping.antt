-- What is kept is no more than was spent; and lists without deletions keep all that they brought.
use Rattle.std.proofs.Common.{◌≡◌, ℕ, ◌+◌, ◌≤◌, List, [], ◌∷◌, ◌++◌, length, map, refl, sym, ap, subst, ◌∙◌, arith, inl, inr, length-append}
use Rattle.std.specs.Prelude.{fold, unwrap_or, not, ◌||◌}
use Rattle.std.specs.List.{Contains, flat_map, sum_by}
use Rattle.std.proofs.lemmas.Grind.{flat_map-append}
use Rattle.std.proofs.lemmas.List.Sums.{sum_by-cons, sum_by-append}
use Rattle.std.proofs.lemmas.List.Elements.{Contains-append_left, Contains-append_right}
use Rattle.user_dedup.specs.CdBase.ids.Fp.{Fp}
use Rattle.user_dedup.specs.CdBase.ids.UserId.{UserId}
use Rattle.user_dedup.specs.CdBase.shape.Shape.{Shape}
use Rattle.user_dedup.specs.declared.file_list.FileEntry.{FileEntry}
use Rattle.user_dedup.specs.declared.view.View.{View}
use Rattle.user_dedup.specs.Strings.{fingerprint}
use Rattle.user_dedup.specs.Cloud.{no_view, commands_of, user_view, view_after, named_by, named_in, without_key, strings_of, strings_in, recipes_of, held_bytes}
use Rattle.user_dedup.specs.Owning.{is_among}
use Rattle.user_dedup.specs.Pages.{is_at, entry_at}
use Rattle.user_dedup.proofs.Owned.{contains_here, contains_later, contains_nothing, contains_cases}
use Rattle.user_dedup.specs.declared.command.Command.{Command}
use Rattle.user_dedup.specs.declared.command.Command.TheVariants as commands
use Rattle.user_dedup.specs.Spending.{spent_of}
use Rattle.user_dedup.proofs.Views.{sent_is_held, held_more, strings_among}
use Rattle.user_dedup.proofs.Spending.{commands_more}
use Rattle.compact_lists.specs.Live.{bytes_held, live_of}
use Rattle.compact_lists.proofs.Sums.{sum_alike, sum_ones, sum_filtered, sum_mapped}

-- ---- what is owned, and what was sent

module _ (shape : Shape) where
  -- a sum over what is owned is at most that over what was sent
  owned_sum : (g : Fp → ℕ) (cs : List Command) (v : View)
      → sum_by g (fold (view_after shape) v cs).own ≤ sum_by g v.own + sum_by (λ (s : List ℕ). g (fingerprint s)) (strings_in cs)
  owned_sum g [] v = omega arith
  owned_sum g (commands.Put user shares ∷ cs) v =
      let rest = owned_sum g cs (view_after shape v (commands.Put user shares)) in
      let here = sum_by-append g v.own (map fingerprint shares) in
      let sent = sum_mapped g fingerprint shares in
      let all = sum_by-append (λ (s : List ℕ). g (fingerprint s)) shares (strings_in cs) in
      omega (arith, rest, here, sent, all)
  owned_sum g (commands.Commit user tag version recipe ∷ cs) v = owned_sum g cs (view_after shape v (commands.Commit user tag version recipe))
  owned_sum g (commands.Delete user tag version ∷ cs) v =
      let rest = owned_sum g cs (view_after shape v (commands.Delete user tag version)) in
      let gone = named_by shape (entry_at v.files (tag, version)) in
      let left = named_in shape (without_key (tag, version) v.files) in
      let less = sum_filtered g (λ (fp : Fp). not (is_among gone fp) || is_among left fp) v.own in
      omega (arith, rest, less)

  entered_sum : (f : FileEntry → ℕ) (g : List ℕ → ℕ) → ((e : FileEntry) → f e ≡ g e.recipe) → (cs : List Command) (v : View)
      → sum_by f (fold (view_after shape) v cs).files ≤ sum_by f v.files + sum_by g (flat_map recipes_of cs)
  entered_sum f g same [] v = omega arith
  entered_sum f g same (commands.Put user shares ∷ cs) v = entered_sum f g same cs (view_after shape v (commands.Put user shares))
  entered_sum f g same (commands.Commit user tag version recipe ∷ cs) v =
      let e : FileEntry = record { tag = tag; version = version; recipe = recipe } in
      let rest = entered_sum f g same cs (view_after shape v (commands.Commit user tag version recipe)) in
      let here = sum_by-append f v.files (e ∷ []) in
      let one = sum_by-cons f e [] in
      let is = same e in
      let all = sum_by-cons g recipe (flat_map recipes_of cs) in
      omega (arith, rest, here, one, is, all)
  entered_sum f g same (commands.Delete user tag version ∷ cs) v =
      let rest = entered_sum f g same cs (view_after shape v (commands.Delete user tag version)) in
      let less = sum_filtered f (λ (e : FileEntry). not (is_at (tag, version) e)) v.files in
      omega (arith, rest, less)

  pub owners_less : (list : List Command) (user : UserId) → (live_of shape list user).owners ≤ (spent_of list user).owners
  owners_less list user =
      let all = owned_sum (λ (fp : Fp). 1) (commands_of user list) no_view in
      let own = sum_ones (user_view shape list user).own in
      let sent = sum_ones (strings_in (commands_of user list)) in
      omega (arith, all, own, sent)

  pub shares_less : (list : List Command) (user : UserId) → (live_of shape list user).shares ≤ (spent_of list user).shares
  shares_less list user = let all = owned_sum (bytes_held list) (commands_of user list) no_view in omega (arith, all)

  pub recipes_less : (list : List Command) (user : UserId) → (live_of shape list user).recipes ≤ (spent_of list user).recipes
  recipes_less list user =
      let all = entered_sum (λ (e : FileEntry). length e.recipe) (λ (recipe : List ℕ). length recipe) (λ e. refl) (commands_of user list) no_view in
      omega (arith, all)

-- ---- lists without deletions

abbrev pub IsKeeping : Command → Type 0
IsKeeping (commands.Put user shares) = Unit {0}
IsKeeping (commands.Commit user tag version recipe) = Unit {0}
IsKeeping (commands.Delete user tag version) = ⊥

-- none of them is a deletion
abbrev pub AreKeeping : List Command → Type 0
AreKeeping list = (c : Command) → Contains list c → IsKeeping c

module _ (shape : Shape) where
  files_step : (v : View) (c : Command) → IsKeeping c → length v.files ≤ length (view_after shape v c).files
  files_step v (commands.Put user shares) k = omega arith
  files_step v (commands.Commit user tag version recipe) k =
      let n = length-append v.files (record { tag = tag; version = version; recipe = recipe } ∷ []) in omega (arith, n)
  files_step v (commands.Delete user tag version) k = absurd k

  pub files_grow : (cs : List Command) (v : View) → AreKeeping cs → length v.files ≤ length (fold (view_after shape) v cs).files
  files_grow [] v keep = omega arith
  files_grow (c ∷ cs) v keep =
      let here = files_step v c (keep c (contains_here c cs)) in
      let rest = files_grow cs (view_after shape v c) (λ d e. keep d (contains_later c cs d e)) in
      omega (arith, here, rest)

  own_step : (v : View) (c : Command) (fp : Fp) → IsKeeping c → Contains v.own fp → Contains (view_after shape v c).own fp
  own_step v (commands.Put user shares) fp k o = Contains-append_left v.own (map fingerprint shares) fp o
  own_step v (commands.Commit user tag version recipe) fp k o = o
  own_step v (commands.Delete user tag version) fp k o = absurd k

  own_stays : (cs : List Command) (v : View) (fp : Fp) → AreKeeping cs → Contains v.own fp → Contains (fold (view_after shape) v cs).own fp
  own_stays [] v fp keep o = o
  own_stays (c ∷ cs) v fp keep o =
      own_stays cs (view_after shape v c) fp (λ d e. keep d (contains_later c cs d e)) (own_step v c fp (keep c (contains_here c cs)) o)

  in_prints : (ss : List (List ℕ)) (s : List ℕ) → Contains ss s → Contains (map fingerprint ss) (fingerprint s)
  in_prints [] s c = absurd (contains_nothing s c)
  in_prints (x ∷ ss) s c =
      elim (contains_cases x ss s c) [
        | inl same ↦ subst (λ (y : List ℕ). Contains (map fingerprint (x ∷ ss)) (fingerprint y)) same (contains_here (fingerprint x) (map fingerprint ss))
        | inr later ↦ contains_later (fingerprint x) (map fingerprint ss) (fingerprint s) (in_prints ss s later)
      ]

  brought : (v : View) (c : Command) (s : List ℕ) → Contains (strings_of c) s → Contains (view_after shape v c).own (fingerprint s)
  brought v (commands.Put user shares) s o = Contains-append_right v.own (map fingerprint shares) (fingerprint s) (in_prints shares s o)
  brought v (commands.Commit user tag version recipe) s o = absurd (contains_nothing s o)
  brought v (commands.Delete user tag version) s o = absurd (contains_nothing s o)

  -- what such commands bring is owned
  pub own_brought : (cs : List Command) (v : View) (c : Command) (s : List ℕ) → AreKeeping cs → Contains cs c → Contains (strings_of c) s
      → Contains (fold (view_after shape) v cs).own (fingerprint s)
  own_brought [] v c s keep d o = absurd (contains_nothing c d)
  own_brought (x ∷ cs) v c s keep d o =
      let later = λ (e : Command) (f : Contains cs e). keep e (contains_later x cs e f) in
      elim (contains_cases x cs c d) [
        | inl same ↦ own_stays cs (view_after shape v x) (fingerprint s) later (brought v x s (subst (λ (y : Command). Contains (strings_of y) s) (sym same) o))
        | inr there ↦ own_brought cs (view_after shape v x) c s later there o
      ]

-- ---- a front of a list

len_stays : (list more : List Command) (s : List ℕ) → Contains (strings_in list) s → bytes_held (list ++ more) (fingerprint s) ≡ bytes_held list (fingerprint s)
len_stays list more s c =
    let h = sent_is_held list (fingerprint s) (s, c, refl) in
    let here : held_bytes list (fingerprint s) ≡ h.0 = ap (λ o. unwrap_or o []) h.1 in
    let there : held_bytes (list ++ more) (fingerprint s) ≡ h.0 = ap (λ o. unwrap_or o []) (held_more list more (fingerprint s) h.0 h.1) in
    ap (λ (l : List ℕ). length l) (there ∙ sym here)

strings_cut : (user : UserId) (list more : List Command)
    → strings_in (commands_of user (list ++ more)) ≡ strings_in (commands_of user list) ++ strings_in (commands_of user more)
strings_cut user list more = ap strings_in (commands_more user list more) ∙ flat_map-append strings_of (commands_of user list) (commands_of user more)

recipes_cut : (user : UserId) (list more : List Command)
    → flat_map recipes_of (commands_of user (list ++ more)) ≡ flat_map recipes_of (commands_of user list) ++ flat_map recipes_of (commands_of user more)
recipes_cut user list more = ap (flat_map recipes_of) (commands_more user list more) ∙ flat_map-append recipes_of (commands_of user list) (commands_of user more)

pub owners_grow : (user : UserId) (list more : List Command) → (spent_of list user).owners ≤ (spent_of (list ++ more) user).owners
owners_grow user list more =
    let n = ap (λ (l : List (List ℕ)). length l) (strings_cut user list more) ∙ length-append (strings_in (commands_of user list)) (strings_in (commands_of user more)) in
    omega (arith, n)

pub shares_grow : (user : UserId) (list more : List Command) → (spent_of list user).shares ≤ (spent_of (list ++ more) user).shares
shares_grow user list more =
    let f = λ (l : List Command) (s : List ℕ). bytes_held l (fingerprint s) in
    let front = strings_in (commands_of user list) in
    let n = ap (sum_by (f (list ++ more))) (strings_cut user list more) ∙ sum_by-append (f (list ++ more)) front (strings_in (commands_of user more)) in
    let same = sum_alike (f (list ++ more)) (f list) front (λ s c. len_stays list more s (strings_among (Rattle.user_dedup.specs.Cloud.is_of user) list s c)) in
    omega (arith, n, same)

pub recipes_grow : (user : UserId) (list more : List Command) → (spent_of list user).recipes ≤ (spent_of (list ++ more) user).recipes
recipes_grow user list more =
    let f = λ (recipe : List ℕ). length recipe in
    let n = ap (sum_by f) (recipes_cut user list more) ∙ sum_by-append f (flat_map recipes_of (commands_of user list)) (flat_map recipes_of (commands_of user more)) in
    omega (arith, n)
