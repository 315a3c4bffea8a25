-- Shares that are new to a user: what they leave in the memory, where what is staged of them ends, and that each of them is one that the
-- user doesn't own.
use Rattle.std.proofs.Common.{◌≡◌, ℕ, ◌+◌, ◌≤◌, max, Bool, true, false, cond, List, [], ◌∷◌, ◌++◌, length, map, Some, None, refl, sym, ap, ◌∙◌, arith}
use Rattle.std.specs.Prelude.{All, is_some, ◌||◌}
use Rattle.std.specs.FinMap.{FinMap, get}
use Rattle.std.proofs.lemmas.List.{length-map}
use Rattle.std.proofs.lemmas.List.Elements.{All-nil, All-cons, All-head, All-tail}
use Rattle.server_reads.specs.CdBase.ids.Fp.{Fp}
use Rattle.server_reads.specs.CdBase.ids.UserId.{UserId}
use Rattle.server_reads.specs.ContainerLog.Laying.{lengths}
use Rattle.server_reads.specs.ContainerLog.Places.{place_of, end_after, end_of_laid}
use Rattle.server_reads.proofs.ContainerLog.Least.{place_behind}
use Rattle.server_reads.proofs.ContainerLog.Staged.{staged_end_of}
use Rattle.server_reads.specs.MessageFields.Shares.{IsShare}
use Rattle.server_reads.specs.ShareIndex.Order.{owner_cmp, owner_of}
use Rattle.server_reads.specs.UserDedup.Cloud.{fingerprint}
use Rattle.server_reads.specs.UserDedup.Owning.{is_among}
use Rattle.server_reads.specs.CloudMemory.rooms.New.{New}
use Rattle.server_reads.specs.CloudMemory.Memory.{Memory}
use Rattle.server_reads.specs.CloudMemory.News.{AreOf, AreFingerprintsApart, AreNewTo}
use Rattle.server_reads.specs.CloudMemory.Rooms.{memory_of}
use Rattle.server_reads.specs.CloudMemory.Sharing.{AreOwned}
use Rattle.server_reads.specs.CloudMemory.Steps.{end_with, with_item, with_items, with_put, part_in, parts_of}
use Rattle.server_reads.proofs.MemoryProofs.Adding.{others, rest_apart}
use Rattle.cloud_store.specs.declared.store.CloudStore.{CloudStore}
use Rattle.cloud_store.specs.Store.{EndsMeet}
use Rattle.cloud_store.specs.Adding.{IsShareNew, EndBehind, unplaced}
use Rattle.cloud_store.proofs.Fields.{first_or}
use Rattle.cloud_store.proofs.Held.{rest_fps, first_len, rest_lens, same_rest}
use Rattle.server_commands.specs.Entering.{new_of, unowned_from, unowned, storing}
use Rattle.server_commands.specs.Steps.{HasNewsStaged}

-- ---- what isn't owned

none_unowned : (owners : FinMap owner_cmp ℕ) (user : UserId) (before : List Fp) (ss : List (List ℕ)) → AreOwned owners user (map fingerprint ss) → unowned_from owners user before ss ≡ []
none_unowned owners user before [] owned = refl
none_unowned owners user before (s ∷ ss) owned =
    let Owned : Fp → Type 0 = λ fp. is_some (get owners (owner_of user.0 fp.0)) ≡ true in
    let first : is_some (get owners (owner_of user.0 (fingerprint s).0)) ≡ true = All-head Owned (fingerprint s) (map fingerprint ss) owned in
    ap (λ (b : Bool). cond (b || is_among before (fingerprint s)) (unowned_from owners user before ss) (s ∷ unowned_from owners user (before ++ fingerprint s ∷ []) ss)) first
    ∙ none_unowned owners user before ss (All-tail Owned (fingerprint s) (map fingerprint ss) owned)

-- where a share is new, not all are owned
pub not_all_owned : (m : Memory) (user : UserId) (sent strings : List (List ℕ)) → strings ≡ unowned m user sent → 1 ≤ length strings → AreOwned m.owners user (map fingerprint sent) → ⊥
not_all_owned m user sent strings are some owned = let long = ap length (are ∙ none_unowned m.owners user [] sent owned) in omega (arith, long, some)

-- ---- lengths

pub share_lens : (strings : List (List ℕ)) → All IsShare strings → All IsShareNew (map new_of strings)
share_lens [] all = All-nil IsShareNew
share_lens (s ∷ ss) all = All-cons IsShareNew (new_of s) (map new_of ss) (All-head IsShare s ss all) (share_lens ss (All-tail IsShare s ss all))

pub as_many : (news : List New) (strings : List (List ℕ)) → AreOf news strings → length news ≡ length strings
as_many news strings of = sym (length-map news (λ (n : New). n.fp)) ∙ ap length of.fps ∙ length-map strings fingerprint

-- ---- where what is staged ends

one_end : (end len : ℕ) (s : List ℕ) (rest : List (List ℕ)) (b : Bool) → len ≡ length s
    → end_of_laid (end_with end (cond b None (Some (record { at = place_of end len; len = len })))) (lengths rest) ≡ end_of_laid end (lengths (cond b rest (s ∷ rest)))
one_end end len s rest true long = refl
one_end end len s rest false long =
    let behind = place_behind end len in
    let most : max end (place_of end len + len) ≡ place_of end len + len = omega (arith, behind) in
    ap (λ (e : ℕ). end_of_laid e (lengths rest)) (most ∙ ap (end_after end) long)

news_end : (user : UserId) (m : Memory) (news : List New) (strings : List (List ℕ)) → map (λ (k : New). k.fp) news ≡ map fingerprint strings → map (λ (k : New). k.len) news ≡ lengths strings → AreFingerprintsApart news
    → (with_items user m (parts_of user m news)).shares_end ≡ end_of_laid m.shares_end (lengths (unplaced m.places strings))
news_end user m [] [] fps lens apart = refl
news_end user m [] (s ∷ strings) fps lens apart = absurd (let no : [] ≡ fingerprint s ∷ map fingerprint strings = fps in cc)
news_end user m (n ∷ news) [] fps lens apart = absurd (let no : n.fp ∷ map (λ (k : New). k.fp) news ≡ [] = fps in cc)
news_end user m (n ∷ news) (s ∷ strings) fps lens apart =
    let fp_is : n.fp ≡ fingerprint s = ap (first_or n.fp) fps in
    let len_is : n.len ≡ length s = ap first_len lens in
    let mid = with_item user m (part_in m n) in
    let rest = unplaced m.places strings in
    news_end user mid news strings (ap rest_fps fps) (ap rest_lens lens) (rest_apart n news apart)
    ∙ ap (λ (l : List (List ℕ)). end_of_laid mid.shares_end (lengths l)) (same_rest m user n news strings (ap rest_fps fps) (others n news apart))
    ∙ one_end m.shares_end n.len s rest (is_some (get m.places n.fp.0)) len_is
    ∙ ap (λ (f : Fp). end_of_laid m.shares_end (lengths (cond (is_some (get m.places f.0)) rest (s ∷ rest)))) fp_is

recipes_stay : (user : UserId) (m : Memory) (news : List New) → (with_items user m (parts_of user m news)).recipes_end ≡ m.recipes_end
recipes_stay user m [] = refl
recipes_stay user m (n ∷ news) = recipes_stay user (with_item user m (part_in m n)) news

-- both logs end where the memory says, once the Put is there
pub news_met : (old new : CloudStore) (user : UserId) (news : List New) → HasNewsStaged old news → AreNewTo (memory_of old.memory) user news → EndBehind old new
    → memory_of new.memory ≡ with_put user (parts_of user (memory_of old.memory) news) (memory_of old.memory) → EndsMeet new
news_met old new user news has fresh ends taken =
    let m = memory_of old.memory in
    let blobs = unplaced m.places has.strings in
    record {
      shares =
          ends.shares ∙ staged_end_of old.disk.shares blobs has.shares ∙ ap (λ (e : ℕ). end_of_laid e (lengths blobs)) has.meet.shares
          ∙ sym (news_end user m news has.strings has.are_of.fps has.are_of.lens fresh.apart) ∙ sym (ap (λ (x : Memory). x.shares_end) taken);
      recipes =
          ends.recipes ∙ staged_end_of old.disk.recipes [] has.recipes ∙ has.meet.recipes
          ∙ sym (recipes_stay user m news) ∙ sym (ap (λ (x : Memory). x.recipes_end) taken);
    }

-- the memory with the Put
pub stored_is : (m : Memory) (user : UserId) (news : List New) → 1 ≤ length news → with_put user (parts_of user m news) m ≡ storing m user news
stored_is m user [] some = absurd (omega (arith, some))
stored_is m user (n ∷ news) some = refl
