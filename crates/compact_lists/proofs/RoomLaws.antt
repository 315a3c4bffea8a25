-- Compact lists within rooms, and what their strings are.
use Rattle.std.proofs.Common.{◌≡◌, ℕ, ◌+◌, ◌≤◌, List, [], ◌∷◌, ◌++◌, length, map, Option, Some, None, refl, sym, ap, subst, ◌∙◌, arith, inl, inr, ◌⊎◌, append-nil}
use Rattle.std.specs.Prelude.{◌↔◌, fold}
use Rattle.std.specs.List.{Contains, flat_map}
use Rattle.std.proofs.lemmas.Grind.{fold-append}
use Rattle.std.proofs.lemmas.List.Elements.{Contains-append_cases, Contains-append_right}
use Rattle.user_dedup.specs.CdBase.ids.Fp.{Fp}
use Rattle.user_dedup.specs.CdBase.ids.UserId.{UserId}
use Rattle.user_dedup.specs.CdBase.shape.Shape.{Shape}
use Rattle.user_dedup.specs.JournalStart.rooms.UserRooms.{UserRooms}
use Rattle.user_dedup.specs.declared.file_list.FileEntry.{FileEntry}
use Rattle.user_dedup.specs.declared.view.View.{View}
use Rattle.user_dedup.specs.Strings.{fingerprint}
use Rattle.user_dedup.specs.Cloud.{no_view, user_of, is_of, commands_of, user_view, view_after, strings_of, strings_in, held_bytes}
use Rattle.user_dedup.specs.Pages.{key_of, entry_at, sorted_keys}
use Rattle.user_dedup.proofs.Owned.{contains_here, contains_later, contains_nothing, contains_cases}
use Rattle.user_dedup.specs.declared.command.Command.{Command}
use Rattle.user_dedup.specs.declared.command.Command.TheVariants as commands
use Rattle.user_dedup.specs.Dedup.{IsSound}
use Rattle.user_dedup.specs.Compact.{users_in, user_at, sorted_fps, in_parts, puts_for, commit_at, commits_for, compact}
use Rattle.user_dedup.specs.Spending.{SpentByUser, files_of, UsesWithin, IsWithin}
use Rattle.user_dedup.proofs.Compacting.{from_mapped, same_own, same_held}
use Rattle.user_dedup.proofs.Filtered.{from_filter, in_filter, from_flat}
use Rattle.user_dedup.proofs.Spending.{commands_more}
use Rattle.user_dedup.proofs.Views.{owned_is_held, held_is}
use Rattle.user_dedup.proofs.Pages.{Key}
use Rattle.compact_lists.specs.Live.{IsAlive}
use Rattle.compact_lists.proofs.Keeping.{IsKeeping, AreKeeping, files_grow, own_brought, owners_grow, shares_grow, recipes_grow, owners_less, shares_less, recipes_less}
use Rattle.compact_lists.proofs.Spent.{spent_kept, files_kept}
use Rattle.compact_lists.proofs.Parts.{from_print}

at_most : (a b limit : ℕ) → a ≤ b → b ≤ limit → a ≤ limit
at_most a b limit one two = omega (arith, one, two)

-- ---- no command of a compact list is a deletion

module _ (shape : Shape) (list : List Command) where
  keeps_commit : (user : UserId) (o : Option FileEntry) (c : Command) → Contains (commit_at user o) c → IsKeeping c
  keeps_commit user None c d = absurd (contains_nothing c d)
  keeps_commit user (Some e) c d =
      elim (contains_cases (commands.Commit user e.tag e.version e.recipe) [] c d) [
        | inl same ↦ subst IsKeeping same tt
        | inr later ↦ absurd (contains_nothing c later)
      ]

  pub keeps_all : AreKeeping (compact shape list)
  unfolding compact
  keeps_all c d =
      elim (Contains-append_cases (flat_map (puts_for shape list) (users_in list)) (flat_map (commits_for shape list) (users_in list)) c d) [
        | inl put ↦
            let g = from_flat (puts_for shape list) (users_in list) c put in
            let own = (user_view shape list (user_at g.0)).own in
            let m = from_mapped shape list (λ (fps : List Fp). commands.Put (user_at g.0) (map (held_bytes list) fps)) (in_parts (sorted_fps own)) c g.2 in
            subst IsKeeping m.2 tt
        | inr commit ↦
            let g = from_flat (commits_for shape list) (users_in list) c commit in
            let files = (user_view shape list (user_at g.0)).files in
            let k = from_flat (λ (key : Key). commit_at (user_at g.0) (entry_at files key)) (sorted_keys (map key_of files)) c g.2 in
            keeps_commit (user_at g.0) (entry_at files k.0) c k.2
      ]

keeping_of : (user : UserId) (list : List Command) → AreKeeping list → AreKeeping (commands_of user list)
keeping_of user list keep c d = keep c (from_filter (is_of user) list c d).0

-- ---- fronts

front_files : (shape : Shape) (before after : List Command) (user : UserId) → AreKeeping (before ++ after)
    → files_of shape before user ≤ files_of shape (before ++ after) user
front_files shape before after user keep =
    let mine = keeping_of user after (λ c d. keep c (Contains-append_right before after c d)) in
    let grow = files_grow shape (commands_of user after) (user_view shape before user) mine in
    let all = ap (λ (l : List Command). length (fold (view_after shape) no_view l).files) (commands_more user before after)
    ∙ ap (λ (w : View). length w.files) (fold-append (view_after shape) no_view (commands_of user before) (commands_of user after)) in
    omega (arith, grow, all)

front_within : (shape : Shape) (rooms : UserRooms) (before after : List Command) (user : UserId) → AreKeeping (before ++ after)
    → UsesWithin shape rooms (before ++ after) user → UsesWithin shape rooms before user
front_within shape rooms before after user keep u = record {
  owners = at_most _ _ _ (owners_grow user before after) u.owners;
  shares = at_most _ _ _ (shares_grow user before after) u.shares;
  recipes = at_most _ _ _ (recipes_grow user before after) u.recipes;
  files = at_most _ _ _ (front_files shape before after user keep) u.files;
}

pub by_end : (shape : Shape) (rooms : UserRooms) (list : List Command) → ((user : UserId) → UsesWithin shape rooms (compact shape list) user)
    → IsWithin shape rooms (compact shape list)
by_end shape rooms list each before after is user =
    front_within shape rooms before after user (subst AreKeeping is (keeps_all shape list)) (subst (λ (l : List Command). UsesWithin shape rooms l user) is (each user))

same_most : (a b limit : ℕ) → a ≡ b → b ≤ limit → a ≤ limit
same_most a b limit e le = omega (arith, e, le)

pub stays : (shape : Shape) (cloud : ℕ) (rooms : UserRooms) (list : List Command) → IsSound shape cloud list → IsWithin shape rooms list
    → IsWithin shape rooms (compact shape list)
stays shape cloud rooms list sound within =
    by_end shape rooms list (λ user.
    let u = within list [] (sym (append-nil list)) user in
    let kept = spent_kept shape cloud list sound user in
    record {
      owners = same_most _ _ _ (ap (λ (s : SpentByUser). s.owners) kept) (at_most _ _ _ (owners_less shape list user) u.owners);
      shares = same_most _ _ _ (ap (λ (s : SpentByUser). s.shares) kept) (at_most _ _ _ (shares_less shape list user) u.shares);
      recipes = same_most _ _ _ (ap (λ (s : SpentByUser). s.recipes) kept) (at_most _ _ _ (recipes_less shape list user) u.recipes);
      files = same_most _ _ _ (files_kept shape cloud list sound user) u.files;
    })

-- ---- strings

pub in_prints : (ss : List (List ℕ)) (s : List ℕ) → Contains ss s → Contains (map fingerprint ss) (fingerprint s)
in_prints [] s c = absurd (contains_nothing s c)
in_prints (x ∷ ss) s c =
    elim (contains_cases x ss s c) [
      | inl same ↦ subst (λ (y : List ℕ). Contains (map fingerprint (x ∷ ss)) (fingerprint y)) same (contains_here (fingerprint x) (map fingerprint ss))
      | inr later ↦ contains_later (fingerprint x) (map fingerprint ss) (fingerprint s) (in_prints ss s later)
    ]

module _ (shape : Shape) (list : List Command) where
  its_own : (c : Command) → is_of (user_of c) c ≡ Rattle.std.specs.Prelude.true
  its_own c = Rattle.std.proofs.Common.eq-eqb (user_of c).0 (user_of c).0 refl

  kept_from : (fp : Fp) → Contains (map fingerprint (strings_in (compact shape list))) fp → IsAlive shape list fp
  kept_from fp c =
      let s = from_print (strings_in (compact shape list)) fp c in
      let f = from_flat strings_of (compact shape list) s.0 s.1 in
      let user = user_of f.0 in
      let mine = in_filter (is_of user) (compact shape list) f.0 f.1 (its_own f.0) in
      let own = own_brought shape (commands_of user (compact shape list)) no_view f.0 s.0 (keeping_of user (compact shape list) (keeps_all shape list)) mine f.2 in
      (user, (same_own shape list user fp).0 (subst (Contains (user_view shape (compact shape list) user).own) s.2 own))

  in_kept : (fp : Fp) → IsAlive shape list fp → Contains (map fingerprint (strings_in (compact shape list))) fp
  in_kept fp kept =
      let h = owned_is_held shape list kept.0 fp kept.1 in
      let i = held_is (compact shape list) fp h.0 (same_held shape list kept.0 fp kept.1 ∙ h.1) in
      subst (Contains (map fingerprint (strings_in (compact shape list)))) i.0 (in_prints (strings_in (compact shape list)) h.0 i.1)

  pub strings_kept : (fp : Fp) → Contains (map fingerprint (strings_in (compact shape list))) fp ↔ IsAlive shape list fp
  strings_kept fp = (kept_from fp, in_kept fp)
