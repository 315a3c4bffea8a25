-- Bytes are a request exactly where they are its spelling.
use Rattle.std.proofs.Common.{◌≡◌, ℕ, ◌<◌, ◌≤◌, ◌^◌, eqb, List, [], ◌∷◌, ◌++◌, length, Option, Ok, refl, ap, ◌∙◌, inl, inr}
use Rattle.std.specs.Int.{w32, to_be_bytes}
use Rattle.std.specs.Prelude.{IfSome}
use Rattle.message_fields.specs.CdBase.ids.Fp.{Fp}
use Rattle.message_fields.specs.CdBase.ids.Tag.{Tag}
use Rattle.message_fields.specs.CdBase.ids.Version.{Version}
use Rattle.message_fields.specs.Fingerprints.{fps_bytes, AreFps}
use Rattle.message_fields.specs.Shares.{shares_bytes, AreShares}
use Rattle.message_fields.specs.Keys.{key_bytes, IsKey}
use Rattle.message_fields.specs.Grammar.Readers.{done_at}
use Rattle.message_fields.proofs.Grammar.Laws.{Whole, lawful_then, lawful_whole}
use Rattle.message_fields.proofs.Grammar.FieldLaws.{IsBytes, Anything}
use Rattle.message_fields.proofs.PartLaws.{bytes_tail, lawful_u32, picked}
use Rattle.message_fields.proofs.FpLaws.{lawful_fps}
use Rattle.message_fields.proofs.ShareLaws.{lawful_shares}
use Rattle.message_fields.proofs.KeyLaws.{lawful_key}
use Rattle.messages.specs.declared.request.Request.{Request}
use Rattle.messages.specs.declared.request.Request.TheVariants as requests
use Rattle.messages.specs.Requests.{request_bytes, FitsRequest, IsRequest}
use Rattle.messages.specs.RequestReading.{query_left, put_left, commit_left, get_recipe_left, get_shares_left, list_left, delete_left, fields_left, request_left, request_at}
use Rattle.messages.specs.Parts.{after_bytes, placed}
use Rattle.messages.proofs.ByKind.{lawful_after, whole_done, whole_rest, kind_takes, placed_ok}

abbrev Took : ℕ → List ℕ → Request → Type 0
Took kind fields r = FitsRequest r × (kind ∷ fields ≡ request_bytes r)

pub query_laws : Whole IsBytes {A = ℕ × List Fp} query_left (λ x. requests.Query (record { 0 = x.0 }) x.1) (λ x. to_be_bytes w32 x.0 ++ fps_bytes x.1) (λ x. (x.0 < 2 ^ 32) × AreFps x.1)
unfolding query_left
query_laws = lawful_whole IsBytes Anything tt (lawful_then IsBytes Anything lawful_u32 lawful_fps) (λ x. requests.Query (record { 0 = x.0 }) x.1)

pub put_laws : Whole IsBytes {A = ℕ × List (List ℕ)} put_left (λ x. requests.Put (record { 0 = x.0 }) x.1) (λ x. to_be_bytes w32 x.0 ++ shares_bytes x.1) (λ x. (x.0 < 2 ^ 32) × AreShares x.1)
unfolding put_left
put_laws = lawful_whole IsBytes Anything tt (lawful_then IsBytes Anything lawful_u32 lawful_shares) (λ x. requests.Put (record { 0 = x.0 }) x.1)

pub commit_laws : Whole IsBytes {A = (ℕ × (Tag × Version)) × List ℕ} commit_left (λ p. requests.Commit (record { 0 = p.0.0 }) p.0.1.0 p.0.1.1 p.1) (λ p. (to_be_bytes w32 p.0.0 ++ key_bytes p.0.1) ++ p.1) (λ p. ((p.0.0 < 2 ^ 32) × IsKey p.0.1) × (1 ≤ length p.1))
unfolding commit_left
commit_laws = whole_rest (lawful_then IsBytes Anything lawful_u32 lawful_key) (λ x. requests.Commit (record { 0 = x.0 }) x.1.0 x.1.1)

get_recipe_laws : Whole IsBytes {A = ℕ × (Tag × Version)} get_recipe_left (λ x. requests.GetRecipe (record { 0 = x.0 }) x.1.0 x.1.1) (λ x. to_be_bytes w32 x.0 ++ key_bytes x.1) (λ x. (x.0 < 2 ^ 32) × IsKey x.1)
unfolding get_recipe_left
get_recipe_laws = lawful_whole IsBytes Anything tt (lawful_then IsBytes Anything lawful_u32 lawful_key) (λ x. requests.GetRecipe (record { 0 = x.0 }) x.1.0 x.1.1)

get_shares_laws : Whole IsBytes {A = ℕ × List Fp} get_shares_left (λ x. requests.GetShares (record { 0 = x.0 }) x.1) (λ x. to_be_bytes w32 x.0 ++ fps_bytes x.1) (λ x. (x.0 < 2 ^ 32) × AreFps x.1)
unfolding get_shares_left
get_shares_laws = lawful_whole IsBytes Anything tt (lawful_then IsBytes Anything lawful_u32 lawful_fps) (λ x. requests.GetShares (record { 0 = x.0 }) x.1)

list_laws : Whole IsBytes {A = ℕ × Option (Tag × Version)} list_left (λ x. requests.List (record { 0 = x.0 }) x.1) (λ x. to_be_bytes w32 x.0 ++ after_bytes x.1) (λ x. (x.0 < 2 ^ 32) × IfSome x.1 IsKey)
unfolding list_left
list_laws = lawful_whole IsBytes Anything tt (lawful_then IsBytes Anything lawful_u32 lawful_after) (λ x. requests.List (record { 0 = x.0 }) x.1)

delete_laws : Whole IsBytes {A = ℕ × (Tag × Version)} delete_left (λ x. requests.Delete (record { 0 = x.0 }) x.1.0 x.1.1) (λ x. to_be_bytes w32 x.0 ++ key_bytes x.1) (λ x. (x.0 < 2 ^ 32) × IsKey x.1)
unfolding delete_left
delete_laws = lawful_whole IsBytes Anything tt (lawful_then IsBytes Anything lawful_u32 lawful_key) (λ x. requests.Delete (record { 0 = x.0 }) x.1.0 x.1.1)

fields_take : (kind : ℕ) (fields : List ℕ) (r : Request) → IsBytes fields → fields_left kind fields ≡ Ok r → Took kind fields r
unfolding fields_left
fields_take kind fields r known e =
    elim (picked (eqb kind 1) (done_at requests.Hello fields) _ (Ok r) e) [
      | inl h ↦ kind_takes (whole_done requests.Hello) FitsRequest request_bytes 1 kind (λ x fits. (tt, refl)) fields r known h.0 h.1
      | inr t1 ↦ elim (picked (eqb kind 2) (query_left fields) _ (Ok r) t1.1) [
        | inl h ↦ kind_takes query_laws FitsRequest request_bytes 2 kind (λ x fits. (fits, refl)) fields r known h.0 h.1
        | inr t2 ↦ elim (picked (eqb kind 3) (put_left fields) _ (Ok r) t2.1) [
          | inl h ↦ kind_takes put_laws FitsRequest request_bytes 3 kind (λ x fits. (fits, refl)) fields r known h.0 h.1
          | inr t3 ↦ elim (picked (eqb kind 4) (commit_left fields) _ (Ok r) t3.1) [
            | inl h ↦ kind_takes commit_laws FitsRequest request_bytes 4 kind (λ x fits. (fits, refl)) fields r known h.0 h.1
            | inr t4 ↦ elim (picked (eqb kind 5) (get_recipe_left fields) _ (Ok r) t4.1) [
              | inl h ↦ kind_takes get_recipe_laws FitsRequest request_bytes 5 kind (λ x fits. (fits, refl)) fields r known h.0 h.1
              | inr t5 ↦ elim (picked (eqb kind 6) (get_shares_left fields) _ (Ok r) t5.1) [
                | inl h ↦ kind_takes get_shares_laws FitsRequest request_bytes 6 kind (λ x fits. (fits, refl)) fields r known h.0 h.1
                | inr t6 ↦ elim (picked (eqb kind 7) (list_left fields) _ (Ok r) t6.1) [
                  | inl h ↦ kind_takes list_laws FitsRequest request_bytes 7 kind (λ x fits. (fits, refl)) fields r known h.0 h.1
                  | inr t7 ↦ elim (picked (eqb kind 8) (delete_left fields) _ (Ok r) t7.1) [
                    | inl h ↦ kind_takes delete_laws FitsRequest request_bytes 8 kind (λ x fits. (fits, refl)) fields r known h.0 h.1
                    | inr t8 ↦ absurd (let k = t8.1 in cc)
                  ]
                ]
              ]
            ]
          ]
        ]
      ]
    ]

takes : (bytes : List ℕ) (r : Request) → IsBytes bytes → request_left bytes ≡ Ok r → FitsRequest r × (bytes ≡ request_bytes r)
unfolding request_left
takes [] r known e = absurd cc
takes (kind ∷ fields) r known e = fields_take kind fields r (bytes_tail kind fields known) e

again : (r : Request) → FitsRequest r → request_left (request_bytes r) ≡ Ok r
unfolding request_left fields_left
again requests.Hello fits = refl
again (requests.Query user fps) fits = query_laws.again (user.0, fps) fits
again (requests.Put user shares) fits = put_laws.again (user.0, shares) fits
again (requests.Commit user tag version recipe) fits = commit_laws.again ((user.0, (tag, version)), recipe) fits
again (requests.GetRecipe user tag version) fits = get_recipe_laws.again (user.0, (tag, version)) fits
again (requests.GetShares user fps) fits = get_shares_laws.again (user.0, fps) fits
again (requests.List user after) fits = list_laws.again (user.0, after) fits
again (requests.Delete user tag version) fits = delete_laws.again (user.0, (tag, version)) fits

-- bytes are a request exactly where they are its spelling
pub request_law : (bytes : List ℕ) (r : Request) → IsBytes bytes → (request_at bytes ≡ Ok r → IsRequest bytes r) × (IsRequest bytes r → request_at bytes ≡ Ok r)
unfolding request_at
request_law bytes r known = (
  λ e. let t = takes bytes r known (placed_ok bytes (request_left bytes) r e) in record { fits = t.0; spelled = t.1 },
  λ h. ap (placed bytes) (ap request_left h.spelled ∙ again r h.fits),
)
