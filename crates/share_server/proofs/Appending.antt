-- A blob that was read behind a list of bytes.
use Rattle.std.proofs.Common.{◌≡◌, inl, inr, ℕ, ◌+◌, ◌-◌, ◌≤◌, ◌<◌, Bool, true, false, List, ◌++◌, length, take, drop, replicate, refl, sym, ap, ◌∙◌, subst, arith}
use Rattle.std.specs.Prelude.{◌==◌, min, if◌then◌else◌, Result, Ok, Err}
use Rattle.std.proofs.lemmas.Bool.{cases_lt, eqb-true, eqb-false}
use Rattle.std.proofs.lemmas.List.{take_at, take_all, take-take, take-append-drop, length-append, length-replicate, length-take, length-drop, drop-take, take_min}
use Rattle.server_requests.specs.CdBase.place.Place.{Place}
use Rattle.server_requests.specs.CdBase.Lending.{with_bytes}
use Rattle.server_requests.proofs.CdBase.Lent.{with_bytes_whole}
use Rattle.server_requests.specs.CdEdges.Shelf.{ReadsFrom}
use Rattle.share_server.specs.declared.blobs.BlobErr.{BlobErr}
use Rattle.share_server.specs.declared.blobs.BlobErr.TheVariants.{Short}
use Rattle.share_server.specs.Blobs.{blob_at, BlobIs, AppendsBlobBytes}

-- the bytes that were there, and so many of those behind them
cut_behind : (given : List ℕ) (n count : ℕ) → take (n + count) given ≡ take n given ++ take count (drop n given)
cut_behind given n count =
    sym (take-append-drop n (take (n + count) given))
    ∙ (λ i. take-take n (n + count) given (omega arith) i ++ drop-take n count given i)

-- what was read is appended
appended : (before given : List ℕ) (count : ℕ) → take (length before) given ≡ before
    → take (length before + count) given ≡ before ++ take count (drop (length before) given)
appended before given count kept = cut_behind given (length before) count ∙ ap (λ l. l ++ take count (drop (length before) given)) kept

-- the bytes in front of a list that was made longer
front_kept : (before : List ℕ) (whole more : ℕ) → length before ≤ whole
    → take (length before) (take whole before ++ replicate more 0) ≡ before
front_kept before whole more le =
    ap (λ l. take (length before) (l ++ replicate more 0)) (take_all whole before le)
    ∙ take_at before (replicate more 0) (length before) refl

-- what lies there, where so much of it was read
blob_read : (area out : List ℕ) (place : Place) (count : ℕ) → length out ≡ place.len → ReadsFrom area place.at count out
    → (take count out ≡ blob_at area place) × (length (blob_at area place) ≡ count)
blob_read area out place count long read =
    let rest : length (drop place.at area) ≡ length area - place.at = length-drop place.at area in
    let least : count ≡ min place.len (length (drop place.at area)) = read.lesser ∙ (λ i. min (long i) (sym rest i)) in (
      read.bytes ∙ ap (λ n. take n (drop place.at area)) least ∙ take_min place.len (drop place.at area),
      length-take place.len (drop place.at area) ∙ sym least,
    )

fewer : (count len : ℕ) → count ≤ len → (count == len) ≡ false → count < len
fewer count len few other = elim (cases_lt count len) [
  | inl lt ↦ lt
  | inr ge ↦ absurd (eqb-false count len other (omega (arith, few, ge)))
]

-- by the number of bytes that came
blob_is : (area before given : List ℕ) (place : Place) (count : ℕ) → take (length before) given ≡ before
    → length given ≡ length before + place.len → count ≤ place.len → ReadsFrom area place.at count (drop (length before) given)
    → BlobIs area place (if count == place.len then Ok tt else Err (Short count)) before (take (length before + count) given)
blob_is area before given place count kept long few read = by_test (count == place.len) refl
  where
    rest : length (drop (length before) given) ≡ place.len
    rest = let is = length-drop (length before) given in omega (arith, is, long)

    there : (take count (drop (length before) given) ≡ blob_at area place) × (length (blob_at area place) ≡ count)
    there = blob_read area (drop (length before) given) place count rest read

    now_is : take (length before + count) given ≡ before ++ blob_at area place
    now_is = appended before given count kept ∙ ap (λ l. before ++ l) there.0

    by_test : (b : Bool) → (count == place.len) ≡ b
        → BlobIs area place (if b then Ok tt else Err (Short count)) before (take (length before + count) given)
    by_test true is = (now_is, there.1 ∙ eqb-true count place.len is)
    by_test false is = (now_is, there.1, fewer count place.len few is)

appends_is : (before given : List ℕ) (len count : ℕ) → take (length before) given ≡ before
    → length given ≡ length before + len → count ≤ len
    → AppendsBlobBytes len (if count == len then Ok tt else Err (Short count)) before (take (length before + count) given)
appends_is before given len count kept long few = by_test (count == len) refl
  where
    more : List ℕ
    more = take count (drop (length before) given)

    more_long : length more ≡ count
    more_long =
        let rest = length-drop (length before) given in
        let taken = length-take count (drop (length before) given) in omega (arith, rest, taken, long, few)

    by_test : (b : Bool) → (count == len) ≡ b
        → AppendsBlobBytes len (if b then Ok tt else Err (Short count)) before (take (length before + count) given)
    by_test true is = (more, appended before given count kept, more_long ∙ eqb-true count len is)
    by_test false is = (more, appended before given count kept, more_long, fewer count len few is)

-- ---- a list that was made longer, lent for writing and cut

-- So many bytes came behind those that were there.
pub record Came (before given now : List ℕ) (len count : ℕ) : Type 0 where
  pub kept : take (length before) given ≡ before
  pub long : length given ≡ length before + len
  pub few : count ≤ len
  pub now_is : now ≡ take (length before + count) given

pub came : (before longer lent given now : List ℕ) (len count at whole : ℕ) → at ≡ length before → whole ≡ at + len
    → longer ≡ take whole before ++ replicate (whole - length before) 0 → lent ≡ longer → take at given ≡ take at lent → length given ≡ length lent
    → at + count ≤ length lent → now ≡ take (at + count) (with_bytes longer given) → Came before given now len count
came before longer lent given now len count at whole at_is whole_is longer_is lent_is kept same within cut =
    let past : length before ≤ whole = omega (arith, at_is, whole_is) in
    let size : length lent ≡ length before + len =
    omega (
      arith,
      ap length lent_is,
      ap length longer_is,
      length-append (take whole before) (replicate (whole - length before) 0),
      ap length (take_all whole before past),
      length-replicate {A = ℕ} (whole - length before) 0,
      at_is,
      whole_is,
    ) in
    record {
      kept =
          ap (λ (n : ℕ). take n given) (sym at_is)
          ∙ kept
          ∙ ap (take at) (lent_is ∙ longer_is)
          ∙ ap (λ (n : ℕ). take n (take whole before ++ replicate (whole - length before) 0)) at_is
          ∙ front_kept before whole (whole - length before) past;
      long = same ∙ size;
      few = omega (arith, within, size, at_is);
      now_is =
          cut
          ∙ ap (take (at + count)) (with_bytes_whole longer given (same ∙ ap length lent_is))
          ∙ ap (λ (n : ℕ). take (n + count) given) at_is;
    }

-- what it answers, by how many came
abbrev pub ended_by : ℕ → ℕ → Result (Unit {0}) BlobErr
ended_by count len = if count == len then Ok tt else Err (Short count)

pub blob_came : (area before given now : List ℕ) (place : Place) (count : ℕ) (result : Result (Unit {0}) BlobErr) → Came before given now place.len count
    → result ≡ ended_by count place.len → ReadsFrom area place.at count (drop (length before) given) → BlobIs area place result before now
blob_came area before given now place count result w is read =
    subst (λ (r : Result (Unit {0}) BlobErr). BlobIs area place r before now) (sym is)
    (subst (λ (l : List ℕ). BlobIs area place (ended_by count place.len) before l) (sym w.now_is) (blob_is area before given place count w.kept w.long w.few read))

pub appends_came : (before given now : List ℕ) (len count : ℕ) (result : Result (Unit {0}) BlobErr) → Came before given now len count
    → result ≡ ended_by count len → AppendsBlobBytes len result before now
appends_came before given now len count result w is =
    subst (λ (r : Result (Unit {0}) BlobErr). AppendsBlobBytes len r before now) (sym is)
    (subst (λ (l : List ℕ). AppendsBlobBytes len (ended_by count len) before l) (sym w.now_is) (appends_is before given len count w.kept w.long w.few))
