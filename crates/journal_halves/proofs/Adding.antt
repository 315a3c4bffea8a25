-- What a crash leaves in each step of an append.
use Rattle.std.proofs.Common.{◌≡◌, ◌≢◌, ◌⊎◌, inl, inr, ℕ, zero, suc, ◌+◌, ◌-◌, ◌*◌, ◌≤◌, List, [], ◌∷◌, ◌++◌, length, drop, refl, sym, ◌∙◌, ap, subst, arith, length-append, length-drop}
use Rattle.cd_edges.specs.declared.area.Area.{Area}
use Rattle.cd_edges.specs.declared.area.Area.TheVariants.{Journal}
use Rattle.cd_edges.specs.Disk.{Store, MayLeave, IsImage, Cloud, LeavesOnly, IsAtArea, overwritten, reads}
use Rattle.cd_edges.specs.Shelf.{wrote, stable}
use Rattle.cd_edges.proofs.Moments.{joined, weaker, at_end}
use Rattle.cd_edges.proofs.Torn.{Torn, torn, only}
use Rattle.journal_halves.specs.Records.{IsJournalBody, framed, chain, AreBodies}
use Rattle.journal_halves.proofs.Chain.{behind_gate, at_gate, wrote_behind, wrote_gate, long_enough, bodies_more, length-chain-push}
use Rattle.journal_halves.specs.Halves.{half_len, half_of}
use Rattle.journal_halves.specs.Findings.{part_of}
use Rattle.journal_halves.specs.States.{HalfState, IsEnded, IsHalfKept, IsAdded}
use Rattle.journal_halves.proofs.Halving.{torn_drop, other_kept, overwritten_drop}

pub either : (half : ℕ) → half ≤ 1 → (half ≡ 0) ⊎ (half ≡ 1)
either zero le = inl refl
either (suc zero) le = inr refl
either (suc (suc half)) le = absurd (omega (arith, le))

-- what reads give is an image
pub read_left : (c0 c1 : Cloud) (P : List ℕ → Type 0) → LeavesOnly c0 c1 (IsAtArea c0.now Journal P) → IsImage c1.now (reads c1.now) → P (c1.now Journal).read
read_left c0 c1 P run image = (at_end c0 c1 _ run (reads c1.now) image).area

module _ (old : HalfState) (bodies : List (List ℕ)) (body : List ℕ) (one : IsJournalBody body) (is_half : (old.half ≡ 0) ⊎ (old.half ≡ 1)) (room : old.gate + length body + 6 ≤ half_len) where
  abbrev base : ℕ
  base = old.half * half_len

  -- the two places that are written
  abbrev place : ℕ
  place = base + old.gate

  pub unwritten : (store : Store) (image : List ℕ) → IsEnded old store bodies → MayLeave store image → IsHalfKept old.half store.read bodies image
  unwritten store image ended left =
      subst (λ (l : List ℕ). IsHalfKept old.half store.read bodies l) (sym (only _ image (subst (λ (s : Store). MayLeave s image) ended.synced left))) (record { chain_is = ended.chain_is; other = refl })

  there : (store : Store) → IsEnded old store bodies → place + 1 ≤ length store.read
  there store ended =
      let j = ended.chain_is in
      omega (arith, ap length j.spelled, length-drop base store.read, long_enough bodies j.sizes old.gate ended.gate j.gate j.behind)

  -- the first write leaves the old bodies
  first_write : (store : Store) (image : List ℕ) → IsEnded old store bodies → MayLeave (wrote store (place + 1) (framed body)) image → IsHalfKept old.half store.read bodies image
  first_write store image ended left =
      let j = ended.chain_is in let last = old.gate + 1 + length (framed body) in
      let t = torn store.read (place + 1) (framed body) image (there store ended) (subst (λ (s : Store). MayLeave (wrote s (place + 1) (framed body)) image) ended.synced left) in
      let inner = torn_drop base (old.gate + 1) last store.read image (place + 1) (place + 1 + length (framed body)) (omega arith) (omega arith) t in
      record {
        chain_is = behind_gate bodies j.sizes old.gate ended.gate j.gate j.behind last (half_of old.half image) j.shut (subst (λ (l : List ℕ). Torn l (old.gate + 1) last (half_of old.half image)) j.spelled inner);
        other = other_kept old.half store.read image (place + 1) (place + 1 + length (framed body)) is_half (omega arith) (omega (arith, room, length-append body (0 ∷ []))) t;
      }

  pub after_first : (c0 c1 : Cloud) → IsEnded old (c0.now Journal) bodies → LeavesOnly c0 c1 (IsAtArea c0.now Journal (MayLeave (wrote (c0.now Journal) (place + 1) (framed body))))
      → LeavesOnly c0 c1 (IsAtArea c0.now Journal (IsAdded old.half (c0.now Journal).read bodies body))
  after_first c0 c1 ended run = weaker c0 c1 _ _ run (λ image at. record { area = inl (first_write (c0.now Journal) (image Journal) ended at.area); others = at.others })

  -- and then the whole record stands behind the closed gate
  pub record Staged (before : List ℕ) (store : Store) : Type 0 where
    pub gate : ℕ
    pub behind : List ℕ
    pub synced : store ≡ stable store.read
    pub spelled : half_of old.half store.read ≡ chain bodies ++ gate ∷ (framed body ++ behind)
    pub other : part_of (1 - old.half) store.read ≡ part_of (1 - old.half) before

  pub staged : (store last : Store) → IsEnded old store bodies → last ≡ stable (overwritten store.read (place + 1) (framed body)) → MayLeave (wrote store (place + 1) (framed body)) last.read → Staged store.read last
  staged store last ended is_stable left =
      let j = ended.chain_is in
      let read : last.read ≡ overwritten store.read (place + 1) (framed body) = ap (λ (s : Store). s.read) is_stable in
      record {
        gate = j.gate;
        behind = drop (old.gate + 1 + length (framed body)) (chain bodies ++ j.gate ∷ j.behind);
        synced = is_stable ∙ ap stable (sym read);
        spelled = ap (half_of old.half) read ∙ overwritten_drop base (old.gate + 1) (place + 1) store.read (framed body) (omega arith) (there store ended)
            ∙ ap (λ (l : List ℕ). overwritten l (old.gate + 1) (framed body)) j.spelled ∙ wrote_behind bodies j.sizes old.gate ended.gate j.gate j.behind (framed body);
        other = (first_write store last.read ended left).other;
      }

  there_staged : (before : List ℕ) (store : Store) → old.gate ≡ length (chain bodies) → AreBodies bodies → Staged before store → place + 1 ≤ length store.read
  there_staged before store at sizes s = omega (arith, ap length s.spelled, length-drop base store.read, long_enough bodies sizes old.gate at s.gate (framed body ++ s.behind))

  -- the second write leaves them with the new body or without
  second_write : (before : List ℕ) (store : Store) (image : List ℕ) → AreBodies bodies → old.gate ≡ length (chain bodies) → Staged before store → MayLeave (wrote store place (1 ∷ [])) image → IsAdded old.half before bodies body image
  second_write before store image sizes at s left =
      let long = there_staged before store at sizes s in
      let t = torn store.read place (1 ∷ []) image (omega (arith, long)) (subst (λ (x : Store). MayLeave (wrote x place (1 ∷ [])) image) s.synced left) in
      let inner = torn_drop base old.gate (old.gate + 1) store.read image place (place + 1) (omega arith) (omega arith) t in
      let other = other_kept old.half store.read image place (place + 1) is_half (omega arith) (omega (arith, room)) t ∙ s.other in
      elim (at_gate bodies sizes old.gate at s.gate body s.behind (half_of old.half image) one (subst (λ (l : List ℕ). Torn l old.gate (old.gate + 1) (half_of old.half image)) s.spelled inner)) [
        | inl kept ↦ inl (record { chain_is = kept; other = other })
        | inr more ↦ inr (record { chain_is = more; other = other })
      ]

  pub after_second : (c0 c1 c2 : Cloud) → IsEnded old (c0.now Journal) bodies → LeavesOnly c0 c1 (IsAtArea c0.now Journal (IsAdded old.half (c0.now Journal).read bodies body)) → Staged (c0.now Journal).read (c1.now Journal)
      → ((other : Area) → other ≢ Journal → c1.now other ≡ c0.now other) → LeavesOnly c1 c2 (IsAtArea c1.now Journal (MayLeave (wrote (c1.now Journal) place (1 ∷ []))))
      → LeavesOnly c0 c2 (IsAtArea c0.now Journal (IsAdded old.half (c0.now Journal).read bodies body))
  after_second c0 c1 c2 ended first s others run =
      joined c0 c1 c2 _ first (weaker c1 c2 _ _ run (λ image at. record {
        area = second_write (c0.now Journal).read (c1.now Journal) (image Journal) ended.chain_is.sizes ended.gate s at.area;
        others = λ other ne. subst (λ (x : Store). MayLeave x (image other)) (others other ne) (at.others other ne);
      }))

  pub added : (new : HalfState) (store mid last : Store) → IsEnded old store bodies → Staged store.read mid → last ≡ stable (overwritten mid.read place (1 ∷ [])) → MayLeave (wrote mid place (1 ∷ [])) last.read
      → new.half ≡ old.half → new.gate ≡ old.gate + length (framed body) → IsEnded new last (bodies ++ body ∷ []) × (part_of (1 - old.half) last.read ≡ part_of (1 - old.half) store.read)
  added new store mid last ended s second left half gate =
      let at = ended.gate in let sizes = ended.chain_is.sizes in
      let long = there_staged store.read mid at sizes s in
      let read : last.read ≡ overwritten mid.read place (1 ∷ []) = ap (λ (x : Store). x.read) second in
      let more : half_of old.half last.read ≡ chain (bodies ++ body ∷ []) ++ 0 ∷ s.behind =
      ap (half_of old.half) read ∙ overwritten_drop base old.gate place mid.read (1 ∷ []) (omega arith) (omega (arith, long))
      ∙ ap (λ (l : List ℕ). overwritten l old.gate (1 ∷ [])) s.spelled ∙ wrote_gate bodies sizes old.gate at s.gate body s.behind in
      let t = torn mid.read place (1 ∷ []) last.read (omega (arith, long)) (subst (λ (x : Store). MayLeave (wrote x place (1 ∷ [])) last.read) s.synced left) in (
        record {
          synced = second ∙ ap stable (sym read);
          chain_is = record { gate = 0; behind = s.behind; sizes = bodies_more bodies body sizes one; shut = omega arith; spelled = ap (λ (h : ℕ). half_of h last.read) half ∙ more };
          gate = omega (arith, gate, at, length-chain-push bodies body, length-append body (0 ∷ []));
          within = omega (arith, gate, room, length-append body (0 ∷ []));
        },
        other_kept old.half mid.read last.read place (place + 1) is_half (omega arith) (omega (arith, room)) t ∙ s.other,
      )
