-- A reply depends on the asking user's view, and with GetShares on what is held for it.
use Rattle.std.proofs.Common.{◌≡◌, ◌≢◌, ℕ, List, [], ◌∷◌, ◌++◌, map, Option, Some, None, refl, sym, ap, ◌∙◌}
use Rattle.std.specs.Prelude.{unwrap_or}
use Rattle.std.specs.List.{Contains}
use Rattle.std.proofs.lemmas.List.Elements.{All-contains}
use Rattle.journal_start.specs.CdBase.ids.Fp.{Fp}
use Rattle.journal_start.specs.CdBase.ids.UserId.{UserId}
use Rattle.journal_start.specs.CdBase.shape.Shape.{Shape}
use Rattle.messages.specs.declared.request.Request.{Request}
use Rattle.messages.specs.declared.request.Request.TheVariants as requests
use Rattle.user_dedup.specs.declared.command.Command.{Command}
use Rattle.user_dedup.specs.declared.view.View.{View}
use Rattle.user_dedup.specs.Cloud.{user_of, user_view, held_string}
use Rattle.user_dedup.specs.Owning.{first_lacking, FindsLacking}
use Rattle.user_dedup.specs.Requests.{asker}
use Rattle.user_dedup.specs.Dedup.{only, shares_reply, answer_by_view, answer_over, HeldAlike}
use Rattle.user_dedup.proofs.Owned.{finds, contains_here, contains_later}
use Rattle.user_dedup.proofs.Views.{others_stay, owned_is_held, held_more}

same_map : (f g : Fp → List ℕ) (fps : List Fp) → ((fp : Fp) → Contains fps fp → f fp ≡ g fp) → map f fps ≡ map g fps
same_map f g [] same = refl
same_map f g (fp ∷ fps) same =
    ap (λ s. s ∷ map f fps) (same fp (contains_here fp fps)) ∙ ap (λ l. g fp ∷ l) (same_map f g fps (λ other c. same other (contains_later fp fps other c)))

-- strings count only where no fingerprint is lacking
same_shares : (own fps : List Fp) (f g : Fp → List ℕ) (found : Option ℕ) → FindsLacking own fps found
    → ((fp : Fp) → Contains fps fp → Contains own fp → f fp ≡ g fp) → shares_reply found (map f fps) ≡ shares_reply found (map g fps)
same_shares own fps f g (Some place) finds same = refl
same_shares own fps f g None finds same =
    ap (λ l. shares_reply None l) (same_map f g fps (λ fp c. same fp c (All-contains (Contains own) fps fp finds c)))

by_view : (shape : Shape) (cloud : ℕ) (v : View) (f g : Fp → Option (List ℕ)) (request : Request) → HeldAlike v f g request
    → answer_by_view shape cloud v f request ≡ answer_by_view shape cloud v g request
by_view shape cloud v f g requests.Hello h = refl
by_view shape cloud v f g (requests.Query user fps) h = refl
by_view shape cloud v f g (requests.Put user shares) h = refl
by_view shape cloud v f g (requests.Commit user tag version recipe) h = refl
by_view shape cloud v f g (requests.GetRecipe user tag version) h = refl
by_view shape cloud v f g (requests.GetShares user fps) h =
    ap only (same_shares v.own fps (λ fp. unwrap_or (f fp) []) (λ fp. unwrap_or (g fp) []) (first_lacking v.own fps) (finds v.own fps)
    (λ fp c o. ap (λ s. unwrap_or s []) (h fp c o)))
by_view shape cloud v f g (requests.List user after) h = refl
by_view shape cloud v f g (requests.Delete user tag version) h = refl

pub same_reply : (shape : Shape) (cloud : ℕ) (one two : List Command) (request : Request)
    → user_view shape two (asker request) ≡ user_view shape one (asker request)
    → HeldAlike (user_view shape one (asker request)) (held_string one) (held_string two) request
    → answer_over shape cloud two request ≡ answer_over shape cloud one request
same_reply shape cloud one two request same held =
    ap (λ v. answer_by_view shape cloud v (held_string two) request) same
    ∙ sym (by_view shape cloud (user_view shape one (asker request)) (held_string one) (held_string two) request held)

-- what is held of a view's fingerprints stays
held_alike : (shape : Shape) (list more : List Command) (user : UserId) (request : Request)
    → HeldAlike (user_view shape list user) (held_string list) (held_string (list ++ more)) request
held_alike shape list more user requests.Hello = tt
held_alike shape list more user (requests.Query u fps) = tt
held_alike shape list more user (requests.Put u shares) = tt
held_alike shape list more user (requests.Commit u tag version recipe) = tt
held_alike shape list more user (requests.GetRecipe u tag version) = tt
held_alike shape list more user (requests.GetShares u fps) = λ fp c o.
    let held = owned_is_held shape list user fp o in
    held.1 ∙ sym (held_more list more fp held.0 held.1)
held_alike shape list more user (requests.List u after) = tt
held_alike shape list more user (requests.Delete u tag version) = tt

pub isolated : (shape : Shape) (cloud : ℕ) (list : List Command) (command : Command) (request : Request) → (user_of command).0 ≢ (asker request).0
    → answer_over shape cloud (list ++ command ∷ []) request ≡ answer_over shape cloud list request
isolated shape cloud list command request other =
    same_reply shape cloud list (list ++ command ∷ []) request (others_stay shape list command (asker request) other)
    (held_alike shape list (command ∷ []) (asker request) request)
