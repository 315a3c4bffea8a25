-- Gets, lists and deletions of a session, as a user's own session has them.
use Rattle.std.proofs.Common.{◌≡◌, ◌≢◌, ℕ, zero, suc, get_or, ◌-◌, ◌<◌, List, [], ◌∷◌, ◌++◌, length, map, Option, None, Result, Ok, Err, refl, sym, ap, ◌∙◌, subst, inl, inr, arith}
use Rattle.std.specs.Prelude.{All, slice_get, IfErr}
use Rattle.std.specs.List.{Contains}
use Rattle.std.proofs.lemmas.Bool.{cases_lt}
use Rattle.std.proofs.lemmas.List.Elements.{All-contains, Contains-get_or, Contains-append_left, Contains-append_right, Contains-append_cases}
use Rattle.recipe.specs.CdBase.ids.Tag.{Tag}
use Rattle.recipe.specs.CdBase.ids.UserId.{UserId}
use Rattle.recipe.specs.CdBase.ids.Version.{Version}
use Rattle.session_model.specs.CdEdges.Causes.{Rose}
use Rattle.session_model.specs.CdEdges.Disk.{Cloud}
use Rattle.session_model.specs.Messages.request.Request.{Request}
use Rattle.session_model.specs.Messages.request.Request.TheVariants as requests
use Rattle.session_model.specs.Messages.reply.Reply.{Reply}
use Rattle.session_model.specs.Messages.reply.Reply.TheVariants as replies
use Rattle.session_model.specs.UserDedup.Cloud.{strings_in}
use Rattle.session_model.specs.UserDedup.Requests.{asker}
use Rattle.session_model.specs.UserDedup.Exec.{Peer}
use Rattle.session_model.proofs.UserDedup.Owned.{contains_here, contains_later, contains_nothing, contains_cases}
use Rattle.session_model.specs.LaneSteps.Runs.{LaneTurn}
use Rattle.session_model.specs.RestoreJob.error.RestoreErr.{RestoreErr}
use Rattle.session_model.specs.RestoreJob.error.RestoreErr.TheVariants as errors
use Rattle.session_model.specs.RestoreJob.Asking.{Reads, AreOnlyAsked, AreRead, StoppedAt}
use Rattle.session_model.specs.RestoreJob.Reading.{Ends, ReadsUpTo}
use Rattle.session_model.specs.RestoreJob.Refusals.{Names, Causes}
use Rattle.session_model.specs.RestoreJob.Restored.{Unrestored}
use Rattle.session_model.specs.SubsetRestore.Ends.{outcome_of, any_outcome}
use Rattle.session_model.specs.SubsetRestore.Going.{sought}
use Rattle.session_model.specs.SubsetRestore.Subsets.{subsets}
use Rattle.session_model.specs.KeptFiles.Kept.{key_of}
use Rattle.session_model.specs.Transcript.refusal.Refusal.{Refusal}
use Rattle.session_model.specs.Transcript.line.Line.{Line}
use Rattle.session_model.specs.Transcript.line.Line.TheVariants as lines
use Rattle.session_model.specs.UploadJob.Upload.{FileVersion}
use Rattle.session_model.specs.Vault.{Setting}
use Rattle.session_model.specs.Steps.{Moment, executed, moment_of, cloud_no, told_so, IsGetLine, NoneFrom, ComesBy, Gets, GetStep, ListRun, entry_line, list_lines, IsDeleteLine, DeleteStep}
use Rattle.two_worlds.specs.Worlds.{own_line}
use Rattle.two_worlds.proofs.Alone.{Apart}
use Rattle.two_worlds.proofs.Peers.{read_same, reads_still, may_read_still}
use Rattle.two_worlds.proofs.Restored.{restored_alike, any_alike, same_recipe}
use Rattle.two_worlds.proofs.Own.{own_peers, own_moment, own_turn, Up, Still, still_first, still_last, up_join, up_same, executes_up, Known, KnownAt, known_first, known_rest, Premises, CalmPeers, calm_executes, other_executes, own_executes, apart_lists}

from_mapped : (d : ℕ) (xs : List (List ℕ)) (choice : List ℕ) → Contains (map (λ (l : List ℕ). d ∷ l) xs) choice → (l : List ℕ) × Contains xs l × (d ∷ l ≡ choice)
from_mapped d [] choice c = absurd (contains_nothing choice c)
from_mapped d (x ∷ xs) choice c = elim (contains_cases (d ∷ x) (map (λ (l : List ℕ). d ∷ l) xs) choice c) [
  | inl same ↦ (x, contains_here x xs, same)
  | inr later ↦ let r = from_mapped d xs choice later in (r.0, contains_later x xs r.0 r.1, r.2)
]

-- the clouds of each choice are among those that it is made of
choice_among : (n : ℕ) (clouds choice : List ℕ) → Contains (subsets n clouds) choice → (c : ℕ) → Contains choice c → Contains clouds c
choice_among zero clouds choice has c inside = elim (contains_cases [] [] choice has) [
  | inl same ↦ absurd (contains_nothing c (subst (λ (l : List ℕ). Contains l c) (sym same) inside))
  | inr none ↦ absurd (contains_nothing choice none)
]
choice_among (suc n) [] choice has c inside = absurd (contains_nothing choice has)
choice_among (suc n) (d ∷ clouds) choice has c inside = elim (Contains-append_cases (map (λ (l : List ℕ). d ∷ l) (subsets n clouds)) (subsets (suc n) clouds) choice has) [
  | inl with_it ↦
      let m = from_mapped d (subsets n clouds) choice with_it in
      elim (contains_cases d m.0 c (subst (λ (l : List ℕ). Contains l c) (sym m.2) inside)) [
        | inl same ↦ subst (Contains (d ∷ clouds)) same (contains_here d clouds)
        | inr later ↦ contains_later d clouds c (choice_among n clouds m.0 m.1 c later)
      ]
  | inr without ↦ contains_later d clouds c (choice_among (suc n) clouds choice without c inside)
]

-- each of some elements is so, where it is so by what it is
all_with : {X : Type 0} (P Q : X → Type 0) (xs : List X) → ((x : X) → Contains xs x → P x → Q x) → All P xs → All Q xs
all_with P Q xs each all i d below = each (get_or xs i d) (Contains-get_or xs i d below) (all i d below)

module _ (s : Setting) (u : UserId) (k : ℕ → Cloud) (In : ℕ → List ℕ → Type 0) (prem : Premises s u k In) where
  -- clouds that were only read are as they were
  pub read_calm : (clouds : List ℕ) → All (λ cloud. cloud < s.shape.n) clouds → (old new : ℕ → Peer) → CalmPeers s u k In old → Still s.shape.n old new → AreOnlyAsked clouds old new → new ≡ old
  read_calm clouds within old new calm still read = λ i c. at c i
    where
      at : (c : ℕ) → new c ≡ old c
      at c = elim (cases_lt c s.shape.n) [
        | inl below ↦ read_same (old c) (new c) (calm.each c).pending (still c below) (read.read c)
        | inr over ↦ read.others c (λ has. let below = All-contains (λ cloud. cloud < s.shape.n) clouds c within has in omega (arith, below, over))
      ]

  pub get_same : (user : UserId) (path : List ℕ) (version : Version) (clouds : List ℕ) → All (λ cloud. cloud < s.shape.n) clouds → (old new : ℕ → Peer) (line : Line)
      → CalmPeers s u k In old → Still s.shape.n old new → GetStep s user path version clouds old line new → new ≡ old
  get_same user path version clouds within old new line calm still x = read_calm clouds within old new calm still x.read

  -- ---- a get of the user's

  module _ (path : List ℕ) (version : Version) (clouds : List ℕ) (peers : ℕ → Peer) (within : All (λ cloud. cloud < s.shape.n) clouds)
      (calm : CalmPeers s u k In peers) (none : (c : ℕ) → c < s.shape.n → Rose (peers c).faults (peers c).faults → ⊥) (known : KnownAt In (record { peers = peers; event = None })) where
    abbrev mine : ℕ → Peer
    mine = own_peers u k peers

    apart : (c : ℕ) → Apart (Contains (strings_in (peers c).list))
    apart = apart_lists s u k In prem (record { peers = peers; event = None }) calm known

    outcome_same : (choice : List ℕ) → outcome_of (sought s.shape u path version clouds) mine choice ≡ outcome_of (sought s.shape u path version clouds) peers choice
    outcome_same choice = restored_alike s.shape u (key_of s.shape path version) (λ c. (peers c).list) (λ c. (calm.each c).owned) apart choice

    any_same : any_outcome (sought s.shape u path version clouds) mine ≡ any_outcome (sought s.shape u path version clouds) peers
    any_same = any_alike s.shape u (key_of s.shape path version) (λ c. (peers c).list) (λ c. (calm.each c).owned) apart clouds

    inside : (c : ℕ) → Contains clouds c → c < s.shape.n
    inside c has = All-contains (λ cloud. cloud < s.shape.n) clouds c within has

    inside_choice : (choice : List ℕ) → Contains (subsets s.shape.k clouds) choice → (c : ℕ) → Contains choice c → c < s.shape.n
    inside_choice choice has c here = inside c (choice_among s.shape.k clouds choice has c here)

    -- no device failed, so how it ends speaks of the outcome alone
    ends_there : (o : Result (List ℕ) Unrestored) (choice : List ℕ) → ((c : ℕ) → Contains choice c → c < s.shape.n) → (r : Result (Unit {0}) RestoreErr) (a b : List ℕ)
        → Ends o choice r a b peers peers → Ends o choice r a b mine mine
    ends_there o choice there (Ok x) a b e = e
    ends_there o choice there (Err (errors.Missing cloud)) a b e = e
    ends_there o choice there (Err (errors.Lost cloud)) a b e = e
    ends_there o choice there (Err (errors.CloudFault cloud)) a b e = absurd (none cloud.0 (there cloud.0 e.0) e.1)
    ends_there o choice there (Err (errors.CloudDamaged cloud at byte)) a b e = e
    ends_there o choice there (Err (errors.CloudRotten cloud named found)) a b e = e
    ends_there o choice there (Err (errors.CloudNoMemory cloud)) a b e = e
    ends_there o choice there (Err (errors.Strange cloud kind)) a b e = e
    ends_there o choice there (Err (errors.RecipesDiffer one two place)) a b e = e
    ends_there o choice there (Err (errors.ShareLength cloud secret found wanted)) a b e = e
    ends_there o choice there (Err (errors.BadShare cloud secret named found)) a b e = e
    ends_there o choice there (Err (errors.BadSecret secret named found)) a b e = e
    ends_there o choice there (Err (errors.BadPad secret at byte)) a b e = e
    ends_there o choice there (Err errors.NoMemory) a b e = e

    read_there : (choice : List ℕ) → AreRead choice mine mine
    read_there choice = λ c has. reads_still (mine c) refl

    stopped_there : (at : ℕ) (choice : List ℕ) (front rest : List ℕ) → choice ≡ front ++ at ∷ rest → (Stops : Peer → Peer → Type 0) → Stops (mine at) (mine at) → StoppedAt at Stops choice mine mine
    stopped_there at choice front rest split Stops stops =
        record { front = front; rest = rest; split = split; read = λ c has ne. reads_still (mine c) refl; stops = stops; others = λ c no. refl }

    reads_there : (choice : List ℕ) → ((c : ℕ) → Contains choice c → c < s.shape.n) → (r : Result (Unit {0}) RestoreErr) → ReadsUpTo choice r peers peers → ReadsUpTo choice r mine mine
    reads_there choice there (Ok x) r = read_there choice
    reads_there choice there (Err (errors.Missing cloud)) r = stopped_there cloud.0 choice r.front r.rest r.split Reads (reads_still (mine cloud.0) refl)
    reads_there choice there (Err (errors.Lost cloud)) r = tt
    reads_there choice there (Err (errors.CloudFault cloud)) (inl r) =
        absurd (none cloud.0 (there cloud.0 (subst (λ (l : List ℕ). Contains l cloud.0) (sym r.split) (Contains-append_right r.front (cloud.0 ∷ r.rest) cloud.0 (contains_here cloud.0 r.rest)))) r.stops.0)
    reads_there choice there (Err (errors.CloudFault cloud)) (inr r) = absurd (none cloud.0 (there cloud.0 r.named) r.fails.0)
    reads_there choice there (Err (errors.CloudDamaged cloud at byte)) r = tt
    reads_there choice there (Err (errors.CloudRotten cloud named found)) r = tt
    reads_there choice there (Err (errors.CloudNoMemory cloud)) r = tt
    reads_there choice there (Err (errors.Strange cloud kind)) r = tt
    reads_there choice there (Err (errors.RecipesDiffer one two place)) r = read_there choice
    reads_there choice there (Err (errors.ShareLength cloud secret found wanted)) r = read_there choice
    reads_there choice there (Err (errors.BadShare cloud secret named found)) r = tt
    reads_there choice there (Err (errors.BadSecret secret named found)) r = read_there choice
    reads_there choice there (Err (errors.BadPad secret at byte)) r = read_there choice
    reads_there choice there (Err errors.NoMemory) r = tt

    none_there : (choice : List ℕ) → Contains (subsets s.shape.k clouds) choice → NoneFrom (sought s.shape u path version clouds) peers peers choice → NoneFrom (sought s.shape u path version clouds) mine mine choice
    none_there choice has (inl gives) = inl (gives.0, outcome_same choice ∙ gives.1)
    none_there choice has (inr rose) = absurd (none rose.0 (inside_choice choice has rose.0 rose.1) rose.2)

    comes_there : (r : Result (Unit {0}) RestoreErr) (file : List ℕ) → ComesBy (sought s.shape u path version clouds) r file peers peers → ComesBy (sought s.shape u path version clouds) r file mine mine
    comes_there (Ok x) file c = record {
      front = c.front;
      subset = c.subset;
      rest = c.rest;
      split = c.split;
      gives = outcome_same c.subset ∙ c.gives;
      read = read_there c.subset;
      front_none = all_with (NoneFrom (sought s.shape u path version clouds) peers peers) (NoneFrom (sought s.shape u path version clouds) mine mine) c.front
          (λ choice has. none_there choice (subst (λ (l : List (List ℕ)). Contains l choice) (sym c.split) (Contains-append_left c.front (c.subset ∷ c.rest) choice has))) c.front_none;
    }
    comes_there (Err e) file c = record {
      first = c.first;
      rest = c.rest;
      first_is = c.first_is;
      ends = subst (λ (o : Result (List ℕ) Unrestored). Ends o c.first (Err e) [] [] mine mine) (sym (outcome_same c.first))
          (ends_there (outcome_of (sought s.shape u path version clouds) peers c.first) c.first (inside_choice c.first (subst (λ (l : List (List ℕ)). Contains l c.first) (sym c.first_is) (contains_here c.first c.rest))) (Err e) [] [] c.ends);
      none = all_with (NoneFrom (sought s.shape u path version clouds) peers peers) (NoneFrom (sought s.shape u path version clouds) mine mine) (subsets s.shape.k clouds) none_there c.none;
    }

    gets_there : (r : Result (Unit {0}) RestoreErr) (file : List ℕ) → Gets (sought s.shape u path version clouds) r file peers peers → Gets (sought s.shape u path version clouds) r file mine mine
    gets_there r file g = record {
      comes = comes_there r file g.comes;
      exact = λ still. subst (λ (o : Result (List ℕ) Unrestored). Ends o clouds r [] file mine mine) (sym any_same)
          (ends_there (any_outcome (sought s.shape u path version clouds) peers) clouds inside r [] file (g.exact (λ c has. none c (inside c has))));
      just = λ count. let x = g.just count in record {
        ends = subst (λ (o : Result (List ℕ) Unrestored). Ends o clouds r [] file mine mine) (sym (outcome_same clouds))
            (ends_there (outcome_of (sought s.shape u path version clouds) peers clouds) clouds inside r [] file x.ends);
        read = reads_there clouds inside r x.read;
      };
    }

    caused_there : (r : Result (Unit {0}) RestoreErr) → IfErr r (Names (Contains clouds)) → Causes (told_so s.shape) s.told s.shape u (key_of s.shape path version) r peers peers
        → Causes (told_so s.shape) s.told s.shape u (key_of s.shape path version) r mine mine
    caused_there (Ok x) names c = c
    caused_there (Err (errors.Missing cloud)) names c = λ told. same_recipe s.shape u (key_of s.shape path version) (peers cloud.0).list ∙ c told
    caused_there (Err (errors.Lost cloud)) names c = c
    caused_there (Err (errors.CloudFault cloud)) names c = absurd (none cloud.0 (inside cloud.0 names) c)
    caused_there (Err (errors.CloudDamaged cloud at byte)) names c = c
    caused_there (Err (errors.CloudRotten cloud named found)) names c = c
    caused_there (Err (errors.CloudNoMemory cloud)) names c = c
    caused_there (Err (errors.Strange cloud kind)) names c = c
    caused_there (Err (errors.RecipesDiffer one two place)) names c = c
    caused_there (Err (errors.ShareLength cloud secret found wanted)) names c = c
    caused_there (Err (errors.BadShare cloud secret named found)) names c = c
    caused_there (Err (errors.BadSecret secret named found)) names c = c
    caused_there (Err (errors.BadPad secret at byte)) names c = c
    caused_there (Err errors.NoMemory) names c = c

    pub own_get_still : (line : Line) → GetStep s u path version clouds peers line peers → GetStep s u path version clouds mine line mine
    own_get_still line x = record {
      result = x.result;
      file = x.file;
      line_is = x.line_is;
      found = x.found;
      read = record { read = λ c. may_read_still (mine c); others = λ c no. refl };
      named = x.named;
      caused = caused_there x.result x.named x.caused;
      told = λ told. gets_there x.result x.file (x.told told);
    }

  pub own_get : (path : List ℕ) (version : Version) (clouds : List ℕ) → All (λ cloud. cloud < s.shape.n) clouds → (old new : ℕ → Peer) (line : Line)
      → CalmPeers s u k In old → Still s.shape.n old new → KnownAt In (record { peers = old; event = None })
      → GetStep s u path version clouds old line new → GetStep s u path version clouds (own_peers u k old) line (own_peers u k new)
  own_get path version clouds within old new line calm still known x =
      let same = get_same u path version clouds within old new line calm still x in
      subst (λ (q : ℕ → Peer). GetStep s u path version clouds (own_peers u k old) line (own_peers u k q)) (sym same)
      (own_get_still path version clouds old within calm
      (λ c below rose. still c below (subst (λ (q : ℕ → Peer). Rose (old c).faults (q c).faults) (sym same) rose)) known line (subst (λ (q : ℕ → Peer). GetStep s u path version clouds old line q) same x))

  -- ---- a list

  module _ (cloud : ℕ) (below : cloud < s.shape.n) where
    pub list_up : (user : UserId) (above : Option (Tag × Version)) (old : ℕ → Peer) (turns : List (LaneTurn (ℕ → Peer))) (listed : Result (List (Tag × Version)) Refusal) (new : ℕ → Peer)
        → ListRun s user cloud above old turns listed new → Up old new
    list_up user above old [] listed new run = absurd run
    list_up user above old (t ∷ turns) listed new run =
        let one = executes_up s cloud old run.2.0 t.request t.reply run.2.1 in
        elim run.2.2 [
          | inl x ↦ up_join old run.2.0 new one (up_same run.2.0 new x.2)
          | inr x ↦ up_join old run.2.0 new one (list_up user (slice_get x.0 (length x.0 - 1)) run.2.0 turns x.1 new x.5)
        ]

    pub calm_list : (user : UserId) (above : Option (Tag × Version)) (old : ℕ → Peer) (turns : List (LaneTurn (ℕ → Peer))) (listed : Result (List (Tag × Version)) Refusal) (new : ℕ → Peer)
        → ListRun s user cloud above old turns listed new → CalmPeers s u k In old → Still s.shape.n old new → CalmPeers s u k In new
    calm_list user above old [] listed new run calm still = absurd run
    calm_list user above old (t ∷ turns) listed new run calm still =
        let one = executes_up s cloud old run.2.0 t.request t.reply run.2.1 in
        elim run.2.2 [
          | inl x ↦ subst (CalmPeers s u k In) (sym x.2)
              (calm_executes s u k In prem cloud below old run.2.0 t.request t.reply calm (still_first s.shape.n old run.2.0 new (up_same run.2.0 new x.2) still) run.2.1)
          | inr x ↦
              let rest = list_up user (slice_get x.0 (length x.0 - 1)) run.2.0 turns x.1 new x.5 in
              calm_list user (slice_get x.0 (length x.0 - 1)) run.2.0 turns x.1 new x.5
              (calm_executes s u k In prem cloud below old run.2.0 t.request t.reply calm (still_first s.shape.n old run.2.0 new rest still) run.2.1)
              (still_last s.shape.n old run.2.0 new one still)
        ]

    list_asker : (user : UserId) (above : Option (Tag × Version)) (request : Request) → request ≡ requests.List user above → asker request ≡ user
    list_asker user above request e = ap asker e

    pub other_list : (user : UserId) → user.0 ≢ u.0 → (above : Option (Tag × Version)) (old : ℕ → Peer) (turns : List (LaneTurn (ℕ → Peer))) (listed : Result (List (Tag × Version)) Refusal) (new : ℕ → Peer)
        → ListRun s user cloud above old turns listed new → CalmPeers s u k In old → Still s.shape.n old new → own_peers u k new ≡ own_peers u k old
    other_list user other above old [] listed new run calm still = absurd run
    other_list user other above old (t ∷ turns) listed new run calm still =
        let one = executes_up s cloud old run.2.0 t.request t.reply run.2.1 in
        let ne = (λ (same : (asker t.request).0 ≡ u.0). other (sym (ap (λ (w : UserId). w.0) (list_asker user above t.request run.1)) ∙ same)) in
        elim run.2.2 [
          | inl x ↦ ap (own_peers u k) x.2
              ∙ other_executes s u k In prem cloud below old run.2.0 t.request t.reply calm (still_first s.shape.n old run.2.0 new (up_same run.2.0 new x.2) still) run.2.1 ne
          | inr x ↦
              let rest = list_up user (slice_get x.0 (length x.0 - 1)) run.2.0 turns x.1 new x.5 in
              let first = still_first s.shape.n old run.2.0 new rest still in
              other_list user other (slice_get x.0 (length x.0 - 1)) run.2.0 turns x.1 new x.5
              (calm_executes s u k In prem cloud below old run.2.0 t.request t.reply calm first run.2.1)
              (still_last s.shape.n old run.2.0 new one still)
              ∙ other_executes s u k In prem cloud below old run.2.0 t.request t.reply calm first run.2.1 ne
        ]

    pub own_list : (above : Option (Tag × Version)) (old : ℕ → Peer) (turns : List (LaneTurn (ℕ → Peer))) (listed : Result (List (Tag × Version)) Refusal) (new : ℕ → Peer)
        → ListRun s u cloud above old turns listed new → CalmPeers s u k In old → Still s.shape.n old new → Known In (map (moment_of cloud) turns)
        → ListRun s u cloud above (own_peers u k old) (map (own_turn u k) turns) listed (own_peers u k new)
    own_list above old [] listed new run calm still known = absurd run
    own_list above old (t ∷ turns) listed new run calm still known =
        let one = executes_up s cloud old run.2.0 t.request t.reply run.2.1 in
        let here = subst (λ (peers : ℕ → Peer). KnownAt In (executed peers cloud t.request t.reply)) run.0 (known_first In (moment_of cloud t) (map (moment_of cloud) turns) known) in
        elim run.2.2 [
          | inl x ↦
              let first = still_first s.shape.n old run.2.0 new (up_same run.2.0 new x.2) still in (
                ap (own_peers u k) run.0,
                run.1,
                (
                  own_peers u k run.2.0,
                  own_executes s u k In prem cloud below old run.2.0 t.request t.reply calm first run.2.1 (list_asker u above t.request run.1) here,
                  inl (x.0, ap (map (own_turn u k)) x.1, ap (own_peers u k) x.2),
                ),
              )
          | inr x ↦
              let rest = list_up u (slice_get x.0 (length x.0 - 1)) run.2.0 turns x.1 new x.5 in
              let first = still_first s.shape.n old run.2.0 new rest still in (
                ap (own_peers u k) run.0,
                run.1,
                (
                  own_peers u k run.2.0,
                  own_executes s u k In prem cloud below old run.2.0 t.request t.reply calm first run.2.1 (list_asker u above t.request run.1) here,
                  inr (
                    x.0,
                    x.1,
                    x.2,
                    x.3,
                    x.4,
                    own_list (slice_get x.0 (length x.0 - 1)) run.2.0 turns x.1 new x.5
                        (calm_executes s u k In prem cloud below old run.2.0 t.request t.reply calm first run.2.1)
                        (still_last s.shape.n old run.2.0 new one still) (known_rest In (moment_of cloud t) (map (moment_of cloud) turns) known),
                  ),
                ),
              )
        ]

    -- ---- a deletion

    pub delete_up : (user : UserId) (path : List ℕ) (version : Version) (old : ℕ → Peer) (answers : List Line) (moments : List Moment) (new : ℕ → Peer)
        → DeleteStep s user path version cloud old answers moments new → Up old new
    delete_up user path version old answers moments new x = executes_up s cloud old new (requests.Delete user (key_of s.shape path version).0 version) x.0 x.2

    pub calm_delete : (user : UserId) (path : List ℕ) (version : Version) (old : ℕ → Peer) (answers : List Line) (moments : List Moment) (new : ℕ → Peer)
        → DeleteStep s user path version cloud old answers moments new → CalmPeers s u k In old → Still s.shape.n old new → CalmPeers s u k In new
    calm_delete user path version old answers moments new x calm still =
        calm_executes s u k In prem cloud below old new (requests.Delete user (key_of s.shape path version).0 version) x.0 calm still x.2

    pub other_delete : (user : UserId) → user.0 ≢ u.0 → (path : List ℕ) (version : Version) (old : ℕ → Peer) (answers : List Line) (moments : List Moment) (new : ℕ → Peer)
        → DeleteStep s user path version cloud old answers moments new → CalmPeers s u k In old → Still s.shape.n old new → own_peers u k new ≡ own_peers u k old
    other_delete user other path version old answers moments new x calm still =
        other_executes s u k In prem cloud below old new (requests.Delete user (key_of s.shape path version).0 version) x.0 calm still x.2 other

    deleted_same : (vs : List FileVersion) (reply : Reply) (line : Line) → IsDeleteLine cloud reply line → own_line u vs line ≡ line
    deleted_same vs replies.Deleted line e = ap (own_line u vs) e ∙ sym e
    deleted_same vs replies.Missing line e = ap (own_line u vs) e ∙ sym e
    deleted_same vs (replies.Full room used need limit) line e = ap (own_line u vs) e ∙ sym e
    deleted_same vs replies.Fault line e = ap (own_line u vs) e ∙ sym e
    deleted_same vs (replies.Damaged at byte) line e = ap (own_line u vs) e ∙ sym e
    deleted_same vs (replies.Rotten named found) line e = ap (own_line u vs) e ∙ sym e
    deleted_same vs (replies.Hello n k c format) line e = absurd e
    deleted_same vs (replies.Known flags) line e = absurd e
    deleted_same vs (replies.Stored new) line e = absurd e
    deleted_same vs replies.Committed line e = absurd e
    deleted_same vs replies.Exists line e = absurd e
    deleted_same vs (replies.Lacking place) line e = absurd e
    deleted_same vs (replies.Recipe bytes) line e = absurd e
    deleted_same vs (replies.Shares shares) line e = absurd e
    deleted_same vs (replies.NotYours place) line e = absurd e
    deleted_same vs (replies.Entries entries) line e = absurd e
    deleted_same vs (replies.Malformed at) line e = absurd e
    deleted_same vs replies.NoMemory line e = absurd e

    pub own_delete : (vs : List FileVersion) (path : List ℕ) (version : Version) (old : ℕ → Peer) (answers : List Line) (moments : List Moment) (new : ℕ → Peer)
        → DeleteStep s u path version cloud old answers moments new → CalmPeers s u k In old → Still s.shape.n old new → Known In moments
        → DeleteStep s u path version cloud (own_peers u k old) (map (own_line u vs) answers) (map (own_moment u k) moments) (own_peers u k new)
    own_delete vs path version old answers moments new x calm still known =
        let request = requests.Delete u (key_of s.shape path version).0 version in (
          x.0,
          x.1,
          own_executes s u k In prem cloud below old new request x.0 calm still x.2 refl (known_first In (executed old cloud request x.0) [] (subst (Known In) x.5 known)),
          x.3,
          ap (map (own_line u vs)) x.4 ∙ ap (λ (l : Line). l ∷ []) (deleted_same vs x.0 x.1 x.3),
          ap (map (own_moment u k)) x.5,
        )

-- ---- answers that name no job

module _ (u : UserId) (vs : List FileVersion) where
  pub get_line_same : (r : Result (Unit {0}) RestoreErr) (file : List ℕ) (line : Line) → IsGetLine r file line → own_line u vs line ≡ line
  get_line_same (Ok x) file line e = ap (own_line u vs) e ∙ sym e
  get_line_same (Err e) file line is = ap (own_line u vs) is.2 ∙ sym is.2

  entries_same : (entries : List (Tag × Version)) → map (own_line u vs) (map entry_line entries) ≡ map entry_line entries
  entries_same [] = refl
  entries_same (entry ∷ entries) = ap (λ (l : List Line). entry_line entry ∷ l) (entries_same entries)

  pub list_lines_same : (user : UserId) (cloud : ℕ) (listed : Result (List (Tag × Version)) Refusal) → map (own_line u vs) (list_lines user cloud listed) ≡ list_lines user cloud listed
  list_lines_same user cloud (Ok entries) = ap (λ (l : List Line). lines.Entries user (cloud_no cloud) (length entries) ∷ l) (entries_same entries)
  list_lines_same user cloud (Err why) = refl
