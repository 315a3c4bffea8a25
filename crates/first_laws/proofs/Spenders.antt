-- A checkpoint of format 1 with a Spent for each user that has spent anything is one of a later format.
use Rattle.std.proofs.Common.{◌≡◌, ◌≢◌, ℕ, Bool, true, false, cond, List, [], ◌∷◌, ◌++◌, map, refl, sym, ap, ◌∙◌, subst, arith, append_assoc, append-nil}
use Rattle.std.specs.Prelude.{◌==◌, ◌&&◌, not, filter}
use Rattle.std.proofs.lemmas.Bool.{and_parts, eqb-true}
use Rattle.journal_halves.specs.CdBase.ids.UserId.{UserId}
use Rattle.journal_halves.specs.CdBase.shape.Shape.{Shape}
use Rattle.record_laws.specs.ContainerLog.Laying.{Placed}
use Rattle.first_records.specs.RecordBody.body.SpentBody.{SpentBody}
use Rattle.first_records.specs.RecordBody.Spelling as bodies
use Rattle.first_records.specs.RecordBody.Spelling.{Body}
use Rattle.compact_memories.specs.UserDedup.command.Command.{Command}
use Rattle.compact_memories.specs.UserDedup.Compact.{users_in, user_at}
use Rattle.compact_memories.specs.UserDedup.Spending.{SpentByUser, nothing, spent_of}
use Rattle.compact_memories.proofs.UserDedup.Compacting.{users_rise}
use Rattle.compact_memories.proofs.UserDedup.Filtered.{in_filter, from_filter}
use Rattle.compact_memories.proofs.UserDedup.Sorting.{Rises}
use Rattle.compact_memories.specs.CloudAreas.Checkpoints.{put_body, spent_by, ListSpent, IsCheckpointOfList}
use Rattle.compact_memories.proofs.CloudAreas.Apart.{Apart, are_apart}
use Rattle.compact_memories.proofs.CloudAreas.Lists.{in_map, from_map}
use Rattle.first_laws.proofs.Known.{spender_known}

-- anything of it isn't 0
abbrev pub is_some_spent : SpentByUser → Bool
is_some_spent s = not ((s.owners == 0) && ((s.shares == 0) && (s.recipes == 0)))

none_spent : (s : SpentByUser) → is_some_spent s ≡ false → s ≡ nothing
none_spent s off =
    let all : ((s.owners == 0) && ((s.shares == 0) && (s.recipes == 0))) ≡ true = by_not ((s.owners == 0) && ((s.shares == 0) && (s.recipes == 0))) off in
    let one = and_parts (s.owners == 0) ((s.shares == 0) && (s.recipes == 0)) all in
    let two = and_parts (s.shares == 0) (s.recipes == 0) one.1 in
    let owners : s.owners ≡ 0 = eqb-true s.owners 0 one.0 in
    let shares : s.shares ≡ 0 = eqb-true s.shares 0 two.0 in
    let recipes : s.recipes ≡ 0 = eqb-true s.recipes 0 two.1 in
    λ i. record { owners = owners i; shares = shares i; recipes = recipes i }
  where
    by_not : (b : Bool) → not b ≡ false → b ≡ true
    by_not true e = refl
    by_not false e = absurd (let no : true ≡ false = e in cc)

some_spent : (s : SpentByUser) → is_some_spent s ≡ true → s ≢ nothing
some_spent s on none = let no : true ≡ false = sym on ∙ ap is_some_spent none in cc

module _ (list : List Command) where
  abbrev test : ℕ → Bool
  test n = is_some_spent (spent_of list (user_at n))

  abbrev body_for : ℕ → SpentBody
  body_for n =
      let s = spent_of list (user_at n) in
      record { user = user_at n; owners = s.owners; shares = s.shares; recipes = s.recipes }

  abbrev pub spents : List SpentBody
  spents = map body_for (filter test (users_in list))

  abbrev user_in : SpentBody → UserId
  user_in s = s.user

  once : (ns : List ℕ) → Rises ns → Apart (map user_in (map body_for (filter test ns)))
  once [] rise = tt
  once (n ∷ ns) rise = by_test (test n) (once ns rise.1)
    where
      by_test : (b : Bool) → Apart (map user_in (map body_for (filter test ns))) → Apart (map user_in (map body_for (cond b (n ∷ filter test ns) (filter test ns))))
      by_test false rest = rest
      by_test true rest = (
        λ c.
            let s = from_map user_in (map body_for (filter test ns)) (user_at n) c in
            let k = from_map body_for (filter test ns) s.0 s.1 in
            let above = rise.0 k.0 (from_filter test ns k.0 k.1).0 in
            let same : k.0 ≡ n = ap (λ (u : UserId). u.0) (ap user_in k.2 ∙ s.2) in
            absurd (omega (arith, above, same)),
        rest,
      )

  pub listed : ListSpent list spents
  listed = record {
    users = record {
      each = λ user. (
        λ c.
            let s = from_map user_in spents user c in
            let n = from_map body_for (filter test (users_in list)) s.0 s.1 in
            let same : user_at n.0 ≡ user = ap user_in n.2 ∙ s.2 in
            subst (λ (u : UserId). spent_of list u ≢ nothing) same (some_spent (spent_of list (user_at n.0)) (from_filter test (users_in list) n.0 n.1).1),
        λ some. in_map user_in spents (body_for user.0) (in_map body_for (filter test (users_in list)) user.0
            (in_filter test (users_in list) user.0 (spender_known list user some) (by_some user (test user.0) refl some))),
      );
      once = are_apart (map user_in spents) (once (users_in list) (users_rise list));
    };
    numbers = λ s c.
        let n = from_map body_for (filter test (users_in list)) s c in
        subst (λ (x : SpentBody). spent_by x ≡ spent_of list x.user) n.2 refl;
  }
    where
      by_some : (user : UserId) (b : Bool) → test user.0 ≡ b → spent_of list user ≢ nothing → test user.0 ≡ true
      by_some user true is some = is
      by_some user false is some = absurd (some (none_spent (spent_of list user) is))

  pub as_later : (shape : Shape) (records : List Body) (recipes : List Placed) → IsCheckpointOfList 1 shape list records recipes
      → IsCheckpointOfList 2 shape list (records ++ map bodies.Spent spents) recipes
  as_later shape records recipes is =
      let puts = map put_body is.puts in
      let kept = map bodies.Kept is.kept in
      let commits = map bodies.Commit is.commits in
      let none : is.spents ≡ [] = is.spent in
      let old : records ≡ puts ++ (kept ++ commits) = is.whole ∙ ap (λ l. puts ++ (kept ++ (commits ++ map bodies.Spent l))) none ∙ ap (λ l. puts ++ (kept ++ l)) (append-nil commits) in
      record {
        puts = is.puts;
        kept = is.kept;
        commits = is.commits;
        spents = spents;
        whole =
            ap (λ l. l ++ map bodies.Spent spents) old
            ∙ append_assoc puts (kept ++ commits) (map bodies.Spent spents)
            ∙ ap (λ l. puts ++ l) (append_assoc kept commits (map bodies.Spent spents));
        owners = is.owners;
        ownerless = is.ownerless;
        entries = is.entries;
        laid = is.laid;
        spent = listed;
      }
