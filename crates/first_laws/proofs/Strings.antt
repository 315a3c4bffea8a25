-- Where the string with a fingerprint is laid, and that it is the one that is held.
use Rattle.std.proofs.Common.{◌≡◌, ℕ, Bool, true, false, cond, List, [], ◌∷◌, ◌++◌, length, Option, Some, None, refl, sym, ap, ◌∙◌}
use Rattle.std.specs.Prelude.{◌||◌, bytes_eq, find, option_map, unwrap_or}
use Rattle.std.specs.List.{Contains}
use Rattle.std.proofs.lemmas.List.Folds.{list_any-append}
use Rattle.journal_halves.specs.CdBase.ids.Fp.{Fp}
use Rattle.journal_halves.specs.CdBase.place.Place.{Place}
use Rattle.journal_halves.specs.CdBase.shape.Shape.{Shape}
use Rattle.record_laws.specs.ContainerLog.Laying.{Placed, placed}
use Rattle.record_laws.specs.ContainerLog.Places.{place_of, end_after}
use Rattle.record_laws.specs.MessageFields.Shares.{IsShare}
use Rattle.compact_memories.specs.UserDedup.command.Command.{Command}
use Rattle.compact_memories.specs.UserDedup.Cloud.{fingerprint, has_fingerprint, strings_of, strings_in, held_bytes}
use Rattle.compact_memories.specs.UserDedup.Dedup.{IsSound}
use Rattle.compact_memories.specs.UserDedup.Owning.{is_among, new_strings}
use Rattle.compact_memories.proofs.UserDedup.CompactSound.{all_fit, share_of}
use Rattle.compact_memories.proofs.UserDedup.Filtered.{from_flat}
use Rattle.compact_memories.proofs.UserDedup.New.{are_new}
use Rattle.compact_memories.proofs.UserDedup.Owned.{fp_same}
use Rattle.compact_memories.proofs.UserDedup.Views.{found_passes}
use Rattle.compact_memories.specs.CloudAreas.FormatOne.{laid_strings, place_named, place_in}

abbrev blob_of : Placed → List ℕ
blob_of b = b.blob

abbrev is_named : Fp → Placed → Bool
is_named fp b = has_fingerprint fp b.blob

find_blobs : (fp : Fp) (end : ℕ) (ss : List (List ℕ)) → option_map blob_of (find (is_named fp) (placed end ss)) ≡ find (has_fingerprint fp) ss
find_blobs fp end [] = refl
find_blobs fp end (s ∷ ss) = by_test (has_fingerprint fp s) (find_blobs fp (end_after end (length s)) ss)
  where
    by_test : (b : Bool) → option_map blob_of (find (is_named fp) (placed (end_after end (length s)) ss)) ≡ find (has_fingerprint fp) ss
        → option_map blob_of (cond b (Some (record { place = place_of end (length s); blob = s })) (find (is_named fp) (placed (end_after end (length s)) ss)))
        ≡ cond b (Some s) (find (has_fingerprint fp) ss)
    by_test true rest = refl
    by_test false rest = rest

-- of the strings the first with each fingerprint is the one that is found
pub find_new : (fp : Fp) (own : List Fp) (ss : List (List ℕ)) → is_among own fp ≡ false → find (has_fingerprint fp) (new_strings own ss) ≡ find (has_fingerprint fp) ss
find_new fp own [] off = refl
find_new fp own (s ∷ ss) off = by_tests (is_among own (fingerprint s)) refl (has_fingerprint fp s) refl (find_new fp own ss off) (find_new fp (own ++ fingerprint s ∷ []) ss)
  where
    by_tests : (a : Bool) → is_among own (fingerprint s) ≡ a → (b : Bool) → has_fingerprint fp s ≡ b
        → find (has_fingerprint fp) (new_strings own ss) ≡ find (has_fingerprint fp) ss
        → (is_among (own ++ fingerprint s ∷ []) fp ≡ false → find (has_fingerprint fp) (new_strings (own ++ fingerprint s ∷ []) ss) ≡ find (has_fingerprint fp) ss)
        → find (has_fingerprint fp) (cond a (new_strings own ss) (s ∷ new_strings (own ++ fingerprint s ∷ []) ss)) ≡ cond b (Some s) (find (has_fingerprint fp) ss)
    by_tests true ia true ib old new =
        absurd (let no : true ≡ false = sym ia ∙ ap (is_among own) ((fp_same (fingerprint s) fp).0 ib) ∙ off in cc)
    by_tests true ia false ib old new = old
    by_tests false ia true ib old new = ap (λ (t : Bool). cond t (Some s) (find (has_fingerprint fp) (new_strings (own ++ fingerprint s ∷ []) ss))) ib
    by_tests false ia false ib old new =
        ap (λ (t : Bool). cond t (Some s) (find (has_fingerprint fp) (new_strings (own ++ fingerprint s ∷ []) ss))) ib
        ∙ new
        (list_any-append (λ (other : Fp). bytes_eq other.0 fp.0) own (fingerprint s ∷ []) ∙ (λ i. off i || (ib i || false)))

-- The place is that of the string which is held under the fingerprint.
pub record IsLaidString (list : List Command) (fp : Fp) (place : Place) : Type 0 where
  pub blob : Placed
  pub there : Contains (placed 0 (laid_strings list)) blob
  pub named : place_named blob ≡ place
  pub held : held_bytes list fp ≡ blob.blob
  pub fp_is : fingerprint blob.blob ≡ fp

pub laid_string : (list : List Command) (fp : Fp) (place : Place) → place_in list fp ≡ Some place → IsLaidString list fp place
laid_string list fp place is = by_found (find (is_named fp) (placed 0 (laid_strings list))) refl is
  where
    by_found : (o : Option Placed) → find (is_named fp) (placed 0 (laid_strings list)) ≡ o → option_map place_named o ≡ Some place → IsLaidString list fp place
    by_found None at e = absurd (let no : None ≡ Some place = e in cc)
    by_found (Some b) at e =
        let passes = found_passes (is_named fp) (placed 0 (laid_strings list)) b at in
        record {
          blob = b;
          there = passes.1;
          named = (let same : Some (place_named b) ≡ Some place = e in cc);
          held =
              ap (λ (o : Option (List ℕ)). unwrap_or o [])
              (sym (find_new fp [] (strings_in list) refl) ∙ sym (find_blobs fp 0 (laid_strings list)) ∙ ap (option_map blob_of) at);
          fp_is = (fp_same (fingerprint b.blob) fp).0 passes.0;
        }

-- ---- how long strings are

pub laid_share : (shape : Shape) (cloud : ℕ) (list : List Command) → IsSound shape cloud list → (s : List ℕ) → Contains (laid_strings list) s → IsShare s
laid_share shape cloud list sound s c =
    let f = from_flat strings_of list s ((are_new [] (strings_in list)).among s c).0 in
    share_of shape f.0 s (all_fit shape cloud list sound f.0 f.1).1 f.2
