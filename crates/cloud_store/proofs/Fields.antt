-- The fields of a command that a sound list has are in their ranges.
use Rattle.std.proofs.Common.{◌≡◌, ℕ, ◌^◌, ◌<◌, ◌≤◌, List, [], ◌∷◌, ◌++◌, length, map, Some, None, sym, ap, ◌∙◌, subst, arith}
use Rattle.std.specs.Prelude.{All}
use Rattle.std.proofs.lemmas.List.Elements.{All-nil, All-cons}
use Rattle.recipe.specs.CdBase.ids.Fp.{Fp}
use Rattle.recipe.specs.CdBase.ids.Tag.{Tag}
use Rattle.recipe.specs.CdBase.ids.UserId.{UserId}
use Rattle.recipe.specs.CdBase.ids.Version.{Version}
use Rattle.recipe.specs.CdBase.shape.Shape.{Shape}
use Rattle.checkpoints.specs.ContainerLog.Places.{container_len, place_of}
use Rattle.checkpoints.specs.RecordBody.Spelling as bodies
use Rattle.checkpoints.specs.RecordBody.Spelling.{FitsBody}
use Rattle.sha2.proofs.Facts256.{length-sha256}
use Rattle.checkpoints.specs.UserDedup.Cloud.{fingerprint}
use Rattle.checkpoints.specs.UserDedup.Pages.{entry_at}
use Rattle.checkpoints.specs.UserDedup.command.Command.{Command}
use Rattle.checkpoints.specs.UserDedup.command.Command.TheVariants as asked
use Rattle.messages.specs.declared.request.Request.{Request}
use Rattle.messages.specs.declared.request.Request.TheVariants as requests
use Rattle.messages.specs.Requests.{FitsRequest}
use Rattle.checkpoints.specs.UserDedup.Owning.{first_lacking, new_strings}
use Rattle.checkpoints.specs.UserDedup.Requests.{fps_of}
use Rattle.checkpoints.specs.UserDedup.Dedup.{answer_over, IsSound}
use Rattle.checkpoints.specs.UserDedup.Cloud.{user_of, user_view}
use Rattle.checkpoints.proofs.UserDedup.CompactSound.{all_fit, FitsAll}
use Rattle.checkpoints.proofs.UserDedup.Sound.{sound_before, deletes_from, put_adds, commit_adds}
use Rattle.checkpoints.proofs.UserDedup.Owned.{contains_here}
use Rattle.checkpoints.proofs.MemoryProofs.EndsLaw.{place_near}
use Rattle.std.proofs.lemmas.List.Elements.{Contains-append_right}
use Rattle.checkpoints.specs.CloudMemory.rooms.New.{New}
use Rattle.checkpoints.specs.CloudMemory.News.{AreOf}
use Rattle.cloud_store.specs.Adding.{HasFp}

-- ---- what the last command of a sound list has

last_fits : (shape : Shape) (cloud : ℕ) (list : List Command) (command : Command) → IsSound shape cloud (list ++ command ∷ []) → FitsAll shape command
last_fits shape cloud list command sound =
    all_fit shape cloud (list ++ command ∷ []) sound command (Contains-append_right list (command ∷ []) command (contains_here command []))

pub user_fits : (shape : Shape) (cloud : ℕ) (list : List Command) (command : Command) → IsSound shape cloud (list ++ command ∷ []) → (user_of command).0 < 2 ^ 32
user_fits shape cloud list command sound = (last_fits shape cloud list command sound).0

pub commit_fits : (shape : Shape) (cloud : ℕ) (list : List Command) (user : UserId) (tag : Tag) (version : Version) (recipe : List ℕ) (fp : Fp) (len end : ℕ)
    → IsSound shape cloud (list ++ asked.Commit user tag version recipe ∷ []) → fingerprint recipe ≡ fp → 1 ≤ len → len ≤ container_len → end ≤ 68719476736
    → FitsBody (bodies.Commit (record { user = user; tag = tag; version = version; at = place_of end len; len = len; fp = fp }))
commit_fits shape cloud list user tag version recipe fp len end sound fp_is some few near =
    let f = last_fits shape cloud list (asked.Commit user tag version recipe) sound in
    let key = f.1.0.0.1 in
    let after = place_near end len in
    record {
      user = f.0;
      tag = key.0;
      version = key.1;
      from = omega (arith, after, few, near);
      some = some;
      few = omega (arith, few);
      fp = ap (λ (x : Fp). length x.0) (sym fp_is) ∙ length-sha256 recipe;
    }

abbrev key_or : UserId × Tag × Version → Command → UserId × Tag × Version
key_or other (asked.Put user shares) = other
key_or other (asked.Commit user tag version recipe) = other
key_or other (asked.Delete user tag version) = (user, tag, version)

pub delete_fits : (shape : Shape) (cloud : ℕ) (list : List Command) (user : UserId) (tag : Tag) (version : Version) → IsSound shape cloud (list ++ asked.Delete user tag version ∷ [])
    → FitsBody (bodies.Delete (record { user = user; tag = tag; version = version }))
delete_fits shape cloud list user tag version sound =
    let a = sound_before shape cloud list (asked.Delete user tag version) sound in by_request a.request a.fits a.adds
  where
    by_request : (request : Request) → FitsRequest request → (answer_over shape cloud list request).adds ≡ Some (asked.Delete user tag version)
        → FitsBody (bodies.Delete (record { user = user; tag = tag; version = version }))
    by_request requests.Hello f e = absurd (let no : None ≡ Some (asked.Delete user tag version) = e in cc)
    by_request (requests.Query u fps) f e = absurd (let no : None ≡ Some (asked.Delete user tag version) = e in cc)
    by_request (requests.Put u shares) f e =
        absurd (let no : asked.Delete user tag version ≡ asked.Put u (new_strings (user_view shape list u).own shares) = put_adds u (new_strings (user_view shape list u).own shares) (asked.Delete user tag version) e in cc)
    by_request (requests.Commit u t v recipe) f e =
        let c = commit_adds (first_lacking (user_view shape list u).own (fps_of shape recipe)) (entry_at (user_view shape list u).files (t, v)) (asked.Commit u t v recipe) recipe (asked.Delete user tag version) e in
        absurd (let no : asked.Delete user tag version ≡ asked.Commit u t v recipe = c.2 in cc)
    by_request (requests.GetRecipe u t v) f e = absurd (let no : None ≡ Some (asked.Delete user tag version) = e in cc)
    by_request (requests.GetShares u fps) f e = absurd (let no : None ≡ Some (asked.Delete user tag version) = e in cc)
    by_request (requests.List u after) f e = absurd (let no : None ≡ Some (asked.Delete user tag version) = e in cc)
    by_request (requests.Delete u t v) f e =
        let d = deletes_from (entry_at (user_view shape list u).files (t, v)) (asked.Delete u t v) (asked.Delete user tag version) e in
        let same : (user, tag, version) ≡ (u, t, v) = ap (key_or (user, tag, version)) d.1 in
        subst (λ (k : UserId × Tag × Version). FitsBody (bodies.Delete (record { user = k.0; tag = k.1; version = k.2 }))) (sym same)
        (record { user = f.0; tag = f.1.0; version = f.1.1 })

-- ---- the fingerprints of a Put's shares

abbrev pub first_or : Fp → List Fp → Fp
first_or other [] = other
first_or other (fp ∷ fps) = fp

abbrev rest_of : List Fp → List Fp
rest_of [] = []
rest_of (fp ∷ fps) = fps

fps_long : (news : List New) (strings : List (List ℕ)) → map (λ (n : New). n.fp) news ≡ map fingerprint strings → All HasFp news
fps_long [] strings e = All-nil HasFp
fps_long (n ∷ news) [] e = absurd (let no : n.fp ∷ map (λ (k : New). k.fp) news ≡ [] = e in cc)
fps_long (n ∷ news) (s ∷ strings) e =
    All-cons HasFp n news (ap (λ (l : List Fp). length (first_or n.fp l).0) e ∙ length-sha256 s) (fps_long news strings (ap rest_of e))

pub are_long : (news : List New) (strings : List (List ℕ)) → AreOf news strings → All HasFp news
are_long news strings of = fps_long news strings of.fps
