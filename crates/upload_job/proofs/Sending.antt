-- The shares that are sent, and the fingerprints that are asked for.
use Rattle.std.proofs.Common.{◌≡◌, ℕ, zero, suc, ◌+◌, ◌<◌, ◌≤◌, cond, eqb, List, [], ◌∷◌, ◌++◌, length, map, take, drop, min, get_or, refl, sym, ap, ◌∙◌, arith, append_assoc}
use Rattle.std.specs.List.{flat_map}
use Rattle.std.proofs.lemmas.Grind.{flat_map-append}
use Rattle.std.specs.Int.{w16, w32, to_be_bytes}
use Rattle.std.proofs.lemmas.List.{append-nil, take-map, drop-map, length-map}
use Rattle.std.proofs.lemmas.List.Folds.{flat_map-map}
use Rattle.user_dedup.specs.CdBase.ids.UserId.{UserId}
use Rattle.user_dedup.specs.Messages.Requests.{request_bytes}
use Rattle.user_dedup.specs.Messages.request.Request.TheVariants.{Query}
use Rattle.user_dedup.specs.CdBase.ids.Fp.{Fp}
use Rattle.user_dedup.specs.MessageFields.Shares.{share_bytes}
use Rattle.user_dedup.specs.Cloud.{fingerprint}
use Rattle.upload_job.specs.declared.wanted.WantedShare.{WantedShare}
use Rattle.upload_job.specs.Lane.{unflagged}
use Rattle.upload_job.specs.Index.{AreIn, share_in, shares_in}

unflagged_none : (ss : List (List ℕ)) → unflagged ss [] ≡ []
unflagged_none [] = refl
unflagged_none (s ∷ ss) = refl

unflagged_more : (ss : List (List ℕ)) (fs : List ℕ) (i : ℕ) → i < length ss → i < length fs
    → unflagged (take (i + 1) ss) (take (i + 1) fs) ≡ unflagged (take i ss) (take i fs) ++ cond (eqb (get_or fs i 0) 0) (get_or ss i [] ∷ []) []
unflagged_more [] fs i l m = absurd (omega arith)
unflagged_more (s ∷ ss) [] i l m = absurd (omega arith)
unflagged_more (s ∷ ss) (f ∷ fs) zero l m = append-nil (cond (eqb f 0) (s ∷ []) [])
unflagged_more (s ∷ ss) (f ∷ fs) (suc i) l m =
    let e : suc i + 1 ≡ suc (i + 1) = omega arith in
    ap (λ (n : ℕ). unflagged (take n (s ∷ ss)) (take n (f ∷ fs))) e
    ∙ ap (λ (r : List (List ℕ)). cond (eqb f 0) (s ∷ []) [] ++ r) (unflagged_more ss fs i (omega arith) (omega arith))
    ∙ sym (append_assoc (cond (eqb f 0) (s ∷ []) []) (unflagged (take i ss) (take i fs)) (cond (eqb (get_or fs i 0) 0) (get_or ss i [] ∷ []) []))

unflagged_all : (ss : List (List ℕ)) (fs : List ℕ) (i : ℕ) → min (length ss) (length fs) ≤ i → unflagged (take i ss) (take i fs) ≡ unflagged ss fs
unflagged_all [] fs zero l = refl
unflagged_all [] fs (suc i) l = refl
unflagged_all (s ∷ ss) [] zero l = refl
unflagged_all (s ∷ ss) [] (suc i) l = refl
unflagged_all (s ∷ ss) (f ∷ fs) zero l = absurd (omega arith)
unflagged_all (s ∷ ss) (f ∷ fs) (suc i) l = ap (λ (r : List (List ℕ)). cond (eqb f 0) (s ∷ []) [] ++ r) (unflagged_all ss fs i (omega arith))

pub sent_more : (old out now : List ℕ) (ss : List (List ℕ)) (fs : List ℕ) (i : ℕ) (s : List ℕ) (f : ℕ) → i < length ss → i < length fs → s ≡ get_or ss i [] → f ≡ get_or fs i 0
    → out ≡ old ++ flat_map share_bytes (unflagged (take i ss) (take i fs)) → now ≡ out ++ flat_map share_bytes (cond (eqb f 0) (s ∷ []) [])
    → now ≡ old ++ flat_map share_bytes (unflagged (take (i + 1) ss) (take (i + 1) fs))
sent_more old out now ss fs i s f l m at flag before step =
    let sent : List (List ℕ) = unflagged (take i ss) (take i fs) in
    step ∙ ap (λ (x : List ℕ). x ++ flat_map share_bytes (cond (eqb f 0) (s ∷ []) [])) before
    ∙ append_assoc old (flat_map share_bytes sent) (flat_map share_bytes (cond (eqb f 0) (s ∷ []) []))
    ∙ ap (λ (x : List ℕ). old ++ x) (sym (flat_map-append share_bytes sent (cond (eqb f 0) (s ∷ []) [])))
    ∙ ap (λ (x : List ℕ). old ++ flat_map share_bytes (sent ++ cond (eqb f 0) (x ∷ []) [])) at
    ∙ ap (λ (n : ℕ). old ++ flat_map share_bytes (sent ++ cond (eqb n 0) (get_or ss i [] ∷ []) [])) flag
    ∙ ap (λ (x : List (List ℕ)). old ++ flat_map share_bytes x) (sym (unflagged_more ss fs i l m))

pub sent_all : (old out : List ℕ) (ss : List (List ℕ)) (fs : List ℕ) (i : ℕ) → min (length ss) (length fs) ≤ i → out ≡ old ++ flat_map share_bytes (unflagged (take i ss) (take i fs)) → out ≡ old ++ flat_map share_bytes (unflagged ss fs)
sent_all old out ss fs i le h = h ∙ ap (λ (x : List (List ℕ)). old ++ flat_map share_bytes x) (unflagged_all ss fs i le)

-- ---- fingerprints

fps_named : (shares : List ℕ) (ws : List WantedShare) → AreIn shares ws → map (λ (w : WantedShare). w.fp) ws ≡ map fingerprint (shares_in shares ws)
fps_named shares [] h = refl
fps_named shares (w ∷ ws) h =
    ap (λ (f : Fp). f ∷ map (λ (w : WantedShare). w.fp) ws) (h 0 w (omega arith)).named
    ∙ ap (λ (fs : List Fp). fingerprint (share_in shares w) ∷ fs) (fps_named shares ws (λ k d lt. h (suc k) d (omega arith)))

pub batch_shares : (shares : List ℕ) (from : ℕ) (ws : List WantedShare) → shares_in shares (take 256 (drop from ws)) ≡ take 256 (drop from (shares_in shares ws))
batch_shares shares from ws = sym (take-map (share_in shares) 256 (drop from ws)) ∙ ap (take 256) (sym (drop-map (share_in shares) from ws))

pub batch_fps : (shares : List ℕ) (from : ℕ) (ws : List WantedShare) → AreIn shares (take 256 (drop from ws)) → map (λ (w : WantedShare). w.fp) (take 256 (drop from ws)) ≡ map fingerprint (take 256 (drop from (shares_in shares ws)))
batch_fps shares from ws h = fps_named shares (take 256 (drop from ws)) h ∙ ap (map fingerprint) (batch_shares shares from ws)

pub query_spelled : (out head : List ℕ) (user : UserId) (batch : List WantedShare) → head ≡ (out ++ 2 ∷ to_be_bytes w32 user.0) ++ to_be_bytes w16 (length batch)
    → head ++ flat_map (λ (w : WantedShare). w.fp.0) batch ≡ out ++ request_bytes (Query user (map (λ (w : WantedShare). w.fp) batch))
query_spelled out head user batch e =
    let len : length (map (λ (w : WantedShare). w.fp) batch) ≡ length batch = length-map batch (λ (w : WantedShare). w.fp) in
    let fps : flat_map (λ (fp : Fp). fp.0) (map (λ (w : WantedShare). w.fp) batch) ≡ flat_map (λ (w : WantedShare). w.fp.0) batch = flat_map-map (λ (fp : Fp). fp.0) (λ (w : WantedShare). w.fp) batch in
    ap (λ (x : List ℕ). x ++ flat_map (λ (w : WantedShare). w.fp.0) batch) e
    ∙ append_assoc (out ++ 2 ∷ to_be_bytes w32 user.0) (to_be_bytes w16 (length batch)) (flat_map (λ (w : WantedShare). w.fp.0) batch)
    ∙ append_assoc out (2 ∷ to_be_bytes w32 user.0) (to_be_bytes w16 (length batch) ++ flat_map (λ (w : WantedShare). w.fp.0) batch)
    ∙ ap (λ (n : ℕ). out ++ ((2 ∷ to_be_bytes w32 user.0) ++ (to_be_bytes w16 n ++ flat_map (λ (w : WantedShare). w.fp.0) batch))) (sym len)
    ∙ ap (λ (x : List ℕ). out ++ ((2 ∷ to_be_bytes w32 user.0) ++ (to_be_bytes w16 (length (map (λ (w : WantedShare). w.fp) batch)) ++ x))) (sym fps)

-- what is written into an empty list
pub into_none : (out now bytes : List ℕ) → out ≡ [] → now ≡ out ++ bytes → now ≡ bytes
into_none out now bytes e h = h ∙ ap (λ (x : List ℕ). x ++ bytes) e
