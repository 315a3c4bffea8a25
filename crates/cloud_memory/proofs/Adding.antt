-- Shares that are added one behind another.
use Rattle.std.proofs.Common.{◌≡◌, ℕ, suc, ◌+◌, ◌<◌, ◌≤◌, ◌^◌, Bool, true, false, cond, List, [], ◌∷◌, ◌++◌, length, map, take, drop, get_or, set, Option, Some, None, refl, sym, ap, ◌∙◌, subst, arith, eq-eqb, lt-ltb}
use Rattle.std.specs.Prelude.{◌&&◌, ◌==◌, All, bytes_eq, is_some, slice_get, sum_by}
use Rattle.std.specs.Option.{option_or}
use Rattle.std.specs.FinMap.{FinMap, get, insert, len, len-insert}
use Rattle.std.proofs.lemmas.Bool.{false_from_ne_true}
use Rattle.std.proofs.lemmas.List.Elements.{All-nil, All-cons, All-head, All-tail}
use Rattle.std.proofs.lemmas.List.Sums.{sum_by-cons}
use Rattle.std.proofs.Math.Seq.{take-suc, take-suc-set, drop-cons}
use Rattle.spent_table.specs.CdBase.ids.Fp.{Fp}
use Rattle.spent_table.specs.CdBase.ids.UserId.{UserId}
use Rattle.file_index.specs.PoolMap.accounts.Accounts.{Accounts}
use Rattle.file_index.specs.PoolMap.Accounts.{limit_for, use_for, keys_of}
use Rattle.file_index.specs.PoolMap.MapSums.{sum_by-insert_new}
use Rattle.cloud_areas.specs.RecordBody.body.PutItem.{PutItem}
use Rattle.share_index.specs.declared.key.Owner.{Owner}
use Rattle.spent_table.specs.CdBase.place.Place.{Place}
use Rattle.share_index.specs.Order.{owner_cmp, owner_of}
use Rattle.spent_table.specs.CdBase.Order.{fp_cmp}
use Rattle.share_index.proofs.Owning.{owner_total}
use Rattle.share_index.proofs.Placing.{fp_total}
use Rattle.cloud_areas.proofs.UserDedup.Owned.{fp_same}
use Rattle.cloud_memory.specs.declared.cloud.CloudMemory.{CloudMemory}
use Rattle.cloud_memory.specs.declared.rooms.New.{New}
use Rattle.cloud_memory.specs.Memory.{Memory}
use Rattle.cloud_memory.specs.News.{AreFingerprintsApart}
use Rattle.cloud_memory.specs.Rooms.{memory_of}
use Rattle.cloud_memory.specs.Steps.{places_with, with_item, with_items, part_in, parts_of, placed_len, len_or, held_len}
use Rattle.cloud_memory.specs.Inner.{KeepsLimits, HasAddedShare, AddsAll, HasShareRoom, MayAdd}
use Rattle.cloud_memory.proofs.Keys.{owner_in}
use Rattle.cloud_memory.proofs.Puts.{place_for, placed_more}

-- ---- the others

-- none of the shares has the first one's fingerprint
abbrev pub Others : New → List New → Type 0
Others n [] = Unit {0}
Others n (m ∷ ms) = (bytes_eq n.fp.0 m.fp.0 ≡ false) × Others n ms

others_at : (n : New) (ns : List New) → ((j : ℕ) (fp : Fp) → slice_get (map (λ (m : New). m.fp) ns) j ≡ Some fp → bytes_eq n.fp.0 fp.0 ≡ false) → Others n ns
others_at n [] other = tt
others_at n (m ∷ ms) other = (other 0 m.fp refl, others_at n ms (λ j fp e. other (suc j) fp e))

pub others : (n : New) (ns : List New) → AreFingerprintsApart (n ∷ ns) → Others n ns
others n ns apart = others_at n ns (λ j fp e. false_from_ne_true _ (λ t.
    let same : n.fp ≡ fp = (fp_same n.fp fp).0 t in
    let wrong : 0 ≡ suc j = apart 0 (suc j) fp (ap (λ f. Some f) same) e in
    absurd (omega (arith, wrong))))

pub rest_apart : (n : New) (ns : List New) → AreFingerprintsApart (n ∷ ns) → AreFingerprintsApart ns
rest_apart n ns apart i j fp a b = let e = apart (suc i) (suc j) fp a b in omega (arith, e)

and_false : (a b : Bool) → b ≡ false → (a && b) ≡ false
and_false true b e = e
and_false false b e = refl

abbrev Lacks : FinMap owner_cmp ℕ → UserId → New → Type 0
Lacks m user n = get m (owner_of user.0 n.fp.0) ≡ None

lack_still : (m : FinMap owner_cmp ℕ) (user : UserId) (n : New) (ns : List New) → Others n ns → All (Lacks m user) ns → All (Lacks (insert m (owner_of user.0 n.fp.0) 0) user) ns
lack_still m user n [] o all = All-nil (Lacks (insert m (owner_of user.0 n.fp.0) 0) user)
lack_still m user n (x ∷ xs) o all =
    All-cons (Lacks (insert m (owner_of user.0 n.fp.0) 0) user) x xs
    (owner_in m user.0 n.fp.0 0 user.0 x.fp.0
    ∙ ap (λ (t : Bool). cond t (Some 0) (get m (owner_of user.0 x.fp.0))) (and_false (user.0 == user.0) (bytes_eq n.fp.0 x.fp.0) o.0)
    ∙ All-head (Lacks m user) x xs all)
    (lack_still m user n xs o.1 (All-tail (Lacks m user) x xs all))

-- ---- one share

pub keys_more : (m : FinMap owner_cmp ℕ) (user : UserId) (fp : List ℕ) → get m (owner_of user.0 fp) ≡ None
    → keys_of (λ (k : Owner). k.user) (insert m (owner_of user.0 fp) 0) user.0 ≡ 1 + keys_of (λ (k : Owner). k.user) m user.0
keys_more m user fp none =
    sum_by-insert_new owner_total (λ (e : Owner × ℕ). cond (e.0.user == user.0) 1 0) m (owner_of user.0 fp) 0 none
    ∙ ap (λ (b : Bool). cond b 1 0 + keys_of (λ (k : Owner). k.user) m user.0) (eq-eqb user.0 user.0 refl)

places_few : (places : FinMap fp_cmp Place) (fp : Fp) (o : Option Place) → len (places_with places fp o) ≤ len places + 1
places_few places fp None = omega arith
places_few places fp (Some p) = by_test (is_some (get places fp.0)) (len-insert fp_total places fp.0 p)
  where
    by_test : (b : Bool) → len (insert places fp.0 p) ≡ cond b (len places) (len places + 1) → len (insert places fp.0 p) ≤ len places + 1
    by_test true e = omega (arith, e)
    by_test false e = omega (arith, e)

pub first_room : (cloud : CloudMemory) (user : UserId) (n : New) (ns : List New) → MayAdd cloud user (n ∷ ns) → HasShareRoom cloud user n.fp
first_room cloud user n ns may = record {
  new = All-head (Lacks cloud.shares.owners user) n ns may.apart.new;
  owners =
      subst (λ (a : Accounts). use_for (λ (k : Owner). k.user) a cloud.shares.owners user.0 < limit_for a user.0) (sym may.accounts)
      (let m = may.owners in let known = lt-ltb user.0 may.users may.known in
      subst (λ (b : Bool). keys_of (λ (k : Owner). k.user) cloud.shares.owners user.0 < cond b may.limit 0) (sym known) (omega (arith, m)));
  fps = λ none. let m = may.fps in omega (arith, m);
}

pub first_end : (cloud : CloudMemory) (user : UserId) (news : List New) → MayAdd cloud user news → cloud.shares_end < 2 ^ 63
first_end cloud user news may = let m = may.end in omega (arith, m)

pub may_rest : (old mid : CloudMemory) (user : UserId) (n : New) (item : PutItem) (ns : List New) → HasAddedShare old mid user n item → MayAdd old user (n ∷ ns) → MayAdd mid user ns
may_rest old mid user n item ns adds may =
    let owners : mid.shares.owners ≡ insert old.shares.owners (owner_of user.0 n.fp.0) 0 =
    ap (λ (m : Memory). m.owners) adds.taken ∙ ap (λ (i : PutItem). insert old.shares.owners (owner_of user.0 i.fp.0) 0) adds.part in
    let places : mid.shares.places ≡ places_with old.shares.places item.fp item.place = ap (λ (m : Memory). m.places) adds.taken in
    record {
      apart = record {
        new =
            subst (λ (m : FinMap owner_cmp ℕ). All (Lacks m user) ns) (sym owners)
            (lack_still old.shares.owners user n ns (others n ns may.apart.apart) (All-tail (Lacks old.shares.owners user) n ns may.apart.new));
        apart = rest_apart n ns may.apart.apart;
      };
      users = may.users;
      limit = may.limit;
      accounts = adds.limits.owners ∙ may.accounts;
      known = may.known;
      owners =
          let more = ap (λ (m : FinMap owner_cmp ℕ). keys_of (λ (k : Owner). k.user) m user.0) owners ∙ keys_more old.shares.owners user n.fp.0 adds.lacks in
          let m = may.owners in omega (arith, more, m);
      fps =
          let more = ap (λ (m : FinMap fp_cmp Place). len m) places in
          let few = places_few old.shares.places item.fp item.place in
          let m = may.fps in let k = adds.limits.fps in omega (arith, more, few, m, k);
      end = let near = adds.near in let m = may.end in omega (arith, near, m);
    }

-- ---- all of them

more_added : (a b c : CloudMemory) (user : UserId) (ns : List New) (is : List PutItem) (n : New) (item : PutItem) → AddsAll a b user ns is → HasAddedShare b c user n item
    → AddsAll a c user (ns ++ n ∷ []) (is ++ item ∷ [])
more_added a b c user [] [] n item all one = (c, subst (λ (x : CloudMemory). HasAddedShare x c user n item) all one, refl)
more_added a b c user [] (i ∷ is) n item all one = absurd all
more_added a b c user (m ∷ ns) [] n item all one = absurd all
more_added a b c user (m ∷ ns) (i ∷ is) n item all one = (all.0, all.1, more_added all.0 b c user ns is n item all.2 one)

-- So far these are added, and there is room for the others.
pub record Adding (start now : CloudMemory) (user : UserId) (news : List New) (items : List PutItem) (place : ℕ) : Type 0 where
  pub done : AddsAll start now user (take place news) (take place items)
  pub room : MayAdd now user (drop place news)

pub adding_room : (start now : CloudMemory) (user : UserId) (news : List New) (items : List PutItem) (place : ℕ) (d : New) → place < length news → Adding start now user news items place
    → MayAdd now user (get_or news place d ∷ drop (suc place) news)
adding_room start now user news items place d lt adding = subst (λ (l : List New). MayAdd now user l) (drop-cons news place d lt) adding.room

pub adding_more : (start now next : CloudMemory) (user : UserId) (news : List New) (items : List PutItem) (place : ℕ) (d : New) (item : PutItem) → place < length news → length items ≡ length news
    → Adding start now user news items place → HasAddedShare now next user (get_or news place d) item → Adding start next user news (set items place item) (place + 1)
adding_more start now next user news items place d item lt same adding one =
    let below : place < length items = omega (arith, same, lt) in
    let next_place : suc place ≡ place + 1 = omega arith in
    subst (λ (p : ℕ). Adding start next user news (set items place item) p) next_place (record {
      done =
          subst (λ (is : List PutItem). AddsAll start next user (take (suc place) news) is) (sym (take-suc-set items place item below))
          (subst (λ (ns : List New). AddsAll start next user ns (take place items ++ item ∷ [])) (sym (take-suc news place d lt))
          (more_added start now next user (take place news) (take place items) (get_or news place d) item adding.done one));
      room = may_rest now next user (get_or news place d) item (drop (suc place) news) one (adding_room start now user news items place d lt adding);
    })

-- ---- what is left

pub limits_on : (old mid new : CloudMemory) → KeepsLimits old mid → KeepsLimits mid new → KeepsLimits old new
limits_on old mid new a b = record { fps = b.fps ∙ a.fps; owners = b.owners ∙ a.owners; files = b.files ∙ a.files; slots = b.slots ∙ a.slots; owned = b.owned ∙ a.owned; entries = b.entries ∙ a.entries }

pub record Added (old new : CloudMemory) (user : UserId) (news : List New) (items : List PutItem) : Type 0 where
  pub parts : items ≡ parts_of user (memory_of old) news
  pub taken : memory_of new ≡ with_items user (memory_of old) items
  pub limits : KeepsLimits old new

pub all_added : (old new : CloudMemory) (user : UserId) (news : List New) (items : List PutItem) → AddsAll old new user news items → Added old new user news items
all_added old new user [] [] all = record {
  parts = refl;
  taken = ap memory_of all;
  limits = record {
    fps = ap (λ (x : CloudMemory). x.shares.fps) all;
    owners = ap (λ (x : CloudMemory). x.shares.accounts) all;
    files = ap (λ (x : CloudMemory). x.files.accounts) all;
    slots = ap (λ (x : CloudMemory). length x.shares.place_slots) all;
    owned = ap (λ (x : CloudMemory). length x.shares.owner_slots) all;
    entries = ap (λ (x : CloudMemory). length x.files.slots) all;
  };
}
all_added old new user [] (i ∷ is) all = absurd all
all_added old new user (n ∷ ns) [] all = absurd all
all_added old new user (n ∷ ns) (i ∷ is) all =
    let mid = all.0 in
    let one = all.1 in
    let later = all_added mid new user ns is all.2 in
    let first = one.part in
    let rest : is ≡ parts_of user (with_item user (memory_of old) (part_in (memory_of old) n)) ns =
    later.parts ∙ ap (λ (m : Memory). parts_of user m ns) (one.taken ∙ ap (with_item user (memory_of old)) first) in
    record {
      parts = λ k. first k ∷ rest k;
      taken = later.taken ∙ ap (λ (m : Memory). with_items user m is) one.taken;
      limits = limits_on old mid new one.limits later.limits;
    }

-- ---- what is spent

-- what is placed stays placed
stays_placed : (m : Memory) (user : UserId) (ns : List New) (f : Fp) (p : Place) → get m.places f.0 ≡ Some p → get (with_items user m (parts_of user m ns)).places f.0 ≡ Some p
stays_placed m user [] f p is = is
stays_placed m user (n ∷ ns) f p is =
    stays_placed (with_item user m (part_in m n)) user ns f p
    (placed_more m user n f ∙ ap (λ (o : Option Place). option_or o (cond (bytes_eq n.fp.0 f.0) (Some (place_for m n)) None)) is)

-- where the share has a place afterwards, that has the length that is held
pub first_held : (m : Memory) (user : UserId) (n : New) (ns : List New) → placed_len (get (with_items user m (parts_of user m (n ∷ ns))).places n.fp.0) ≡ held_len m.places n
first_held m user n ns = by_place (get m.places n.fp.0) refl
  where
    mid : Memory
    mid = with_item user m (part_in m n)

    here : get mid.places n.fp.0 ≡ option_or (get m.places n.fp.0) (Some (place_for m n))
    here = placed_more m user n n.fp ∙ ap (λ (b : Bool). option_or (get m.places n.fp.0) (cond b (Some (place_for m n)) None)) ((fp_same n.fp n.fp).1 refl)

    by_place : (o : Option Place) → get m.places n.fp.0 ≡ o → placed_len (get (with_items user mid (parts_of user mid ns)).places n.fp.0) ≡ len_or (get m.places n.fp.0) n.len
    by_place None is =
        ap placed_len (stays_placed mid user ns n.fp (place_for m n) (here ∙ ap (λ (o : Option Place). option_or o (Some (place_for m n))) is)) ∙ sym (ap (λ (o : Option Place). len_or o n.len) is)
    by_place (Some p) is =
        ap placed_len (stays_placed mid user ns n.fp p (here ∙ ap (λ (o : Option Place). option_or o (Some (place_for m n))) is)) ∙ sym (ap (λ (o : Option Place). len_or o n.len) is)

-- what is read of the others' places stays
pub same_read : (f : Option Place → New → ℕ) (m : Memory) (user : UserId) (n : New) (ns : List New) → Others n ns
    → sum_by (λ (x : New). f (get (with_item user m (part_in m n)).places x.fp.0) x) ns ≡ sum_by (λ (x : New). f (get m.places x.fp.0) x) ns
same_read f m user n [] other = refl
same_read f m user n (x ∷ xs) other =
    let mid = with_item user m (part_in m n) in
    let one : f (get mid.places x.fp.0) x ≡ f (get m.places x.fp.0) x =
    ap (λ (o : Option Place). f o x)
    (placed_more m user n x.fp ∙ ap (λ (b : Bool). option_or (get m.places x.fp.0) (cond b (Some (place_for m n)) None)) other.0 ∙ or_none (get m.places x.fp.0)) in
    let rest = same_read f m user n xs other.1 in
    sum_by-cons (λ (x : New). f (get mid.places x.fp.0) x) x xs ∙ (λ i. one i + rest i) ∙ sym (sum_by-cons (λ (x : New). f (get m.places x.fp.0) x) x xs)
  where
    or_none : (o : Option Place) → option_or o None ≡ o
    or_none None = refl
    or_none (Some p) = refl

pub cost_held : (m : Memory) (user : UserId) (news : List New) → AreFingerprintsApart news
    → sum_by (λ (item : PutItem). placed_len (get (with_items user m (parts_of user m news)).places item.fp.0)) (parts_of user m news) ≡ sum_by (held_len m.places) news
cost_held m user [] apart = refl
cost_held m user (n ∷ ns) apart =
    let mid = with_item user m (part_in m n) in
    let last = (with_items user mid (parts_of user mid ns)).places in
    let one = first_held m user n ns in
    let rest = cost_held mid user ns (rest_apart n ns apart) ∙ same_read (λ (o : Option Place) (x : New). len_or o x.len) m user n ns (others n ns apart) in
    sum_by-cons (λ (item : PutItem). placed_len (get last item.fp.0)) (part_in m n) (parts_of user mid ns)
    ∙ (λ i. one i + rest i) ∙ sym (sum_by-cons (held_len m.places) n ns)

pub parts_count : (m : Memory) (user : UserId) (news : List New) → length (parts_of user m news) ≡ length news
parts_count m user [] = refl
parts_count m user (n ∷ ns) = ap suc (parts_count (with_item user m (part_in m n)) user ns)
