-- The first share of each fingerprint, of those that lie one after another.
use Rattle.std.proofs.Common.{◌≡◌, ℕ, zero, suc, ◌+◌, ◌-◌, ◌*◌, ◌<◌, ◌≤◌, Bool, true, false, cond, List, [], ◌∷◌, ◌++◌, length, map, take, drop, get_or, refl, sym, ap, ◌∙◌, subst, arith, append_assoc, drop-cons}
use Rattle.std.specs.Prelude.{◌||◌, bytes_eq}
use Rattle.std.specs.declared.cmp.Ordering.{Ordering}
use Rattle.std.specs.Ordering.{nat_cmp}
use Rattle.std.specs.Cmp.Lexicographic.{slice_cmp}
use Rattle.std.specs.BTreeSet.{BTreeSet, contains, Updates}
use Rattle.std.proofs.lemmas.Map.Text.{is_eq-slice_cmp}
use Rattle.std.proofs.lemmas.Slice.Eq.{bytes_eq-Decides}
use Rattle.std.proofs.lemmas.List.{map-append, length-drop}
use Rattle.std.proofs.lemmas.List.Elements.{All-nil, All-push}
use Rattle.std.proofs.lemmas.List.Folds.{list_any-append}
use Rattle.user_dedup.specs.CdBase.ids.Fp.{Fp}
use Rattle.user_dedup.specs.CdBase.Lengths.{share_len_of}
use Rattle.user_dedup.specs.Recipe.items.Item.{Item}
use Rattle.user_dedup.specs.Cloud.{fingerprint}
use Rattle.user_dedup.specs.Owning.{is_among, new_strings}
use Rattle.upload_job.specs.declared.wanted.WantedShare.{WantedShare}
use Rattle.upload_job.specs.Index.{IsInShares, AreIn, AreSharesNamed, AreNamed, share_in, shares_in, pieces, noted}
use Rattle.upload_job.proofs.Batches.{drop_sum}

abbrev pub cmp : List ℕ → List ℕ → Ordering
cmp = slice_cmp nat_cmp

-- up to item i, whose share begins at `start`
pub record Along (k : ℕ) (items : List Item) (shares : List ℕ) (i start : ℕ) (seen : BTreeSet (List ℕ)) (wanted : List WantedShare) : Type 0 where
  pub within : start ≤ length shares
  pub named : AreNamed k (drop i items) (drop start shares)
  pub inside : AreIn shares wanted
  pub keys : (q : List ℕ) → contains cmp seen q ≡ is_among (map (λ (w : WantedShare). w.fp) wanted) (record { 0 = q })
  pub rest : shares_in shares wanted ++ new_strings (map (λ (w : WantedShare). w.fp) wanted) (pieces k (drop i items) (drop start shares)) ≡ new_strings [] (pieces k items shares)

pub along_none : (k : ℕ) (items : List Item) (shares : List ℕ) (seen : BTreeSet (List ℕ)) (wanted : List WantedShare) → AreNamed k items shares → seen.keys ≡ [] → wanted ≡ [] → Along k items shares 0 0 seen wanted
along_none k items shares seen wanted named none empty =
    subst (λ (ws : List WantedShare). Along k items shares 0 0 seen ws) (sym empty)
    (record {
      within = omega arith;
      named = named;
      inside = All-nil (IsInShares shares);
      keys = λ q. ap (λ (ks : List (List ℕ)). contains cmp (record { keys = ks }) q) none;
      rest = refl;
    })

-- ---- the keys

or_key : (b c : Bool) → cond b true c ≡ (c || (b || false))
or_key true true = refl
or_key true false = refl
or_key false true = refl
or_key false false = refl

keys_new : (seen now : BTreeSet (List ℕ)) (own : List Fp) (fp : Fp) → Updates cmp seen now fp.0 true → ((q : List ℕ) → contains cmp seen q ≡ is_among own (record { 0 = q })) → (q : List ℕ) → contains cmp now q ≡ is_among (own ++ fp ∷ []) (record { 0 = q })
keys_new seen now own fp h keys q =
    h.0 q ∙ ap (λ (b : Bool). cond b true (contains cmp seen q)) (is_eq-slice_cmp fp.0 q) ∙ ap (λ (b : Bool). cond (bytes_eq fp.0 q) true b) (keys q)
    ∙ or_key (bytes_eq fp.0 q) (is_among own (record { 0 = q }))
    ∙ sym (list_any-append (λ (other : Fp). bytes_eq other.0 q) own (fp ∷ []))

same_key : (b c : Bool) → (b ≡ true → c ≡ true) → cond b true c ≡ c
same_key true c h = sym (h refl)
same_key false c h = refl

keys_old : (seen now : BTreeSet (List ℕ)) (own : List Fp) (fp : Fp) → Updates cmp seen now fp.0 true → ((q : List ℕ) → contains cmp seen q ≡ is_among own (record { 0 = q })) → contains cmp seen fp.0 ≡ true → (q : List ℕ) → contains cmp now q ≡ is_among own (record { 0 = q })
keys_old seen now own fp h keys has q =
    h.0 q ∙ ap (λ (b : Bool). cond b true (contains cmp seen q)) (is_eq-slice_cmp fp.0 q)
    ∙ same_key (bytes_eq fp.0 q) (contains cmp seen q) (λ e. ap (contains cmp seen) (sym ((bytes_eq-Decides fp.0 q).0 e)) ∙ has)
    ∙ keys q

-- ---- one more

-- the share of the next item
pub record IsNext (k : ℕ) (items : List Item) (shares : List ℕ) (i start : ℕ) (w : WantedShare) : Type 0 where
  pub item : Item
  pub lt : i < length items
  pub at : item ≡ get_or items i item
  pub fp : w.fp ≡ item.fp
  pub begins : w.start ≡ start
  pub ends : w.end ≡ start + share_len_of k item.secret_len
  pub some : 1 ≤ share_len_of k item.secret_len
  pub short : share_len_of k item.secret_len ≤ 8208

pub next_named : (k : ℕ) (items : List Item) (shares : List ℕ) (i start : ℕ) (seen : BTreeSet (List ℕ)) (wanted : List WantedShare) (d : Item) → Along k items shares i start seen wanted → i < length items → AreSharesNamed k (get_or items i d) (drop start shares)
next_named k items shares i start seen wanted d h lt = (subst (λ (xs : List Item). AreNamed k xs (drop start shares)) (drop-cons items i d lt) h.named).0

rest_old : (own : List Fp) (sent all : List (List ℕ)) (p : List ℕ) (ps : List (List ℕ)) → is_among own (fingerprint p) ≡ true → sent ++ new_strings own (p ∷ ps) ≡ all → sent ++ new_strings own ps ≡ all
rest_old own sent all p ps e h = ap (λ (b : Bool). sent ++ cond b (new_strings own ps) (p ∷ new_strings (own ++ fingerprint p ∷ []) ps)) (sym e) ∙ h

rest_new : (own : List Fp) (sent all : List (List ℕ)) (p : List ℕ) (ps : List (List ℕ)) → is_among own (fingerprint p) ≡ false → sent ++ new_strings own (p ∷ ps) ≡ all → (sent ++ p ∷ []) ++ new_strings (own ++ fingerprint p ∷ []) ps ≡ all
rest_new own sent all p ps e h =
    append_assoc sent (p ∷ []) (new_strings (own ++ fingerprint p ∷ []) ps)
    ∙ ap (λ (b : Bool). sent ++ cond b (new_strings own ps) (p ∷ new_strings (own ++ fingerprint p ∷ []) ps)) (sym e) ∙ h

-- what is known of the next share
pub record Next (k : ℕ) (items : List Item) (shares : List ℕ) (i : ℕ) (seen : BTreeSet (List ℕ)) (wanted : List WantedShare) (w : WantedShare) : Type 0 where
  pub piece : List ℕ
  pub lies : share_in shares w ≡ piece
  pub fp : w.fp ≡ fingerprint piece
  pub is_in : IsInShares shares w
  pub named : AreNamed k (drop (i + 1) items) (drop w.end shares)
  pub among : is_among (map (λ (x : WantedShare). x.fp) wanted) (fingerprint piece) ≡ contains cmp seen w.fp.0
  pub rest : shares_in shares wanted ++ new_strings (map (λ (x : WantedShare). x.fp) wanted) (piece ∷ pieces k (drop (i + 1) items) (drop w.end shares)) ≡ new_strings [] (pieces k items shares)

next_of : (k : ℕ) (items : List Item) (shares : List ℕ) (i start : ℕ) (seen : BTreeSet (List ℕ)) (wanted : List WantedShare) (w : WantedShare) → Along k items shares i start seen wanted → IsNext k items shares i start w → Next k items shares i seen wanted w
next_of k items shares i start seen wanted w h n =
    let it : Item = n.item in
    let len : ℕ = share_len_of k it.secret_len in
    let piece : List ℕ = take len (drop start shares) in
    let next : suc i ≡ i + 1 = omega arith in
    let cons : drop i items ≡ it ∷ drop (i + 1) items = drop-cons items i it n.lt ∙ ap (λ (x : Item). x ∷ drop (suc i) items) (sym n.at) ∙ ap (λ (m : ℕ). it ∷ drop m items) next in
    let named = subst (λ (xs : List Item). AreNamed k xs (drop start shares)) cons h.named in
    let after : drop len (drop start shares) ≡ drop w.end shares = sym (drop_sum start len shares) ∙ ap (λ (m : ℕ). drop m shares) (sym n.ends) in
    let size : w.end - start ≡ len = omega (arith, n.ends) in
    let lies : share_in shares w ≡ piece = ap (λ (m : ℕ). take (w.end - m) (drop m shares)) n.begins ∙ ap (λ (m : ℕ). take m (drop start shares)) size in
    let fp : w.fp ≡ fingerprint piece = n.fp ∙ named.0.named in
    let room = named.0.room in
    let left = length-drop start shares in
    record {
      piece = piece;
      lies = lies;
      fp = fp;
      is_in = record {
        some = omega (arith, n.begins, n.ends, n.some);
        within = omega (arith, n.ends, h.within);
        short = omega (arith, n.begins, n.ends, n.short);
        named = fp ∙ ap fingerprint (sym lies);
      };
      named = subst (AreNamed k (drop (i + 1) items)) after named.1;
      among = ap (is_among (map (λ (x : WantedShare). x.fp) wanted)) (sym fp) ∙ sym (h.keys w.fp.0);
      rest =
          let before = subst (λ (xs : List Item). shares_in shares wanted ++ new_strings (map (λ (x : WantedShare). x.fp) wanted) (pieces k xs (drop start shares)) ≡ new_strings [] (pieces k items shares)) cons h.rest in
          subst (λ (ys : List ℕ). shares_in shares wanted ++ new_strings (map (λ (x : WantedShare). x.fp) wanted) (piece ∷ pieces k (drop (i + 1) items) ys) ≡ new_strings [] (pieces k items shares)) after before;
    }

more_by : (k : ℕ) (items : List Item) (shares : List ℕ) (i start : ℕ) (seen now : BTreeSet (List ℕ)) (wanted : List WantedShare) (w : WantedShare) (b : Bool) → Along k items shares i start seen wanted → Next k items shares i seen wanted w
    → Updates cmp seen now w.fp.0 true → contains cmp seen w.fp.0 ≡ b → Along k items shares (i + 1) w.end now (noted b wanted w)
more_by k items shares i start seen now wanted w true h n up e = record {
  within = n.is_in.within;
  named = n.named;
  inside = h.inside;
  keys = keys_old seen now (map (λ (x : WantedShare). x.fp) wanted) w.fp up h.keys e;
  rest = rest_old (map (λ (x : WantedShare). x.fp) wanted) (shares_in shares wanted) (new_strings [] (pieces k items shares)) n.piece (pieces k (drop (i + 1) items) (drop w.end shares)) (n.among ∙ e) n.rest;
}
more_by k items shares i start seen now wanted w false h n up e =
    let own : List Fp = map (λ (x : WantedShare). x.fp) wanted in
    let later : List (List ℕ) = pieces k (drop (i + 1) items) (drop w.end shares) in
    let fps : map (λ (x : WantedShare). x.fp) (wanted ++ w ∷ []) ≡ own ++ w.fp ∷ [] = map-append (λ (x : WantedShare). x.fp) wanted (w ∷ []) in
    let sent : shares_in shares (wanted ++ w ∷ []) ≡ shares_in shares wanted ++ n.piece ∷ [] = map-append (share_in shares) wanted (w ∷ []) ∙ ap (λ (x : List ℕ). shares_in shares wanted ++ x ∷ []) n.lies in
    record {
      within = n.is_in.within;
      named = n.named;
      inside = All-push (IsInShares shares) wanted w h.inside n.is_in;
      keys = λ q. keys_new seen now own w.fp up h.keys q ∙ ap (λ (o : List Fp). is_among o (record { 0 = q })) (sym fps);
      rest =
          ap (λ (xs : List (List ℕ)). xs ++ new_strings (map (λ (x : WantedShare). x.fp) (wanted ++ w ∷ [])) later) sent
          ∙ ap (λ (o : List Fp). (shares_in shares wanted ++ n.piece ∷ []) ++ new_strings o later) fps
          ∙ ap (λ (f : Fp). (shares_in shares wanted ++ n.piece ∷ []) ++ new_strings (own ++ f ∷ []) later) n.fp
          ∙ rest_new own (shares_in shares wanted) (new_strings [] (pieces k items shares)) n.piece later (n.among ∙ e) n.rest;
    }

pub along_more : (k : ℕ) (items : List Item) (shares : List ℕ) (i start : ℕ) (seen now : BTreeSet (List ℕ)) (wanted new : List WantedShare) (w : WantedShare) → Along k items shares i start seen wanted → IsNext k items shares i start w
    → new ≡ noted (contains cmp seen w.fp.0) wanted w → Updates cmp seen now w.fp.0 true → Along k items shares (i + 1) w.end now new
along_more k items shares i start seen now wanted new w h n e up =
    subst (λ (xs : List WantedShare). Along k items shares (i + 1) w.end now xs) (sym e)
    (more_by k items shares i start seen now wanted w (contains cmp seen w.fp.0) h (next_of k items shares i start seen wanted w h n) up refl)

-- ---- how long a share is

pub some_of : (k r n : ℕ) → 1 ≤ n → n ≤ k * r → 1 ≤ r
some_of k zero n some le = absurd (let none : k * 0 ≡ 0 = omega arith in omega arith)
some_of k (suc r) n some le = omega arith
