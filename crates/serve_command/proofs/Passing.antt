-- The bytes of connections, one after another.
use Rattle.std.proofs.Common.{◌≡◌, ◌≢◌, ◌⊎◌, inl, inr, ℕ, ◌+◌, ◌<◌, ◌≤◌, List, [], ◌∷◌, ◌++◌, length, IsTrue, refl, sym}
use Rattle.std.proofs.Common.{ap, ◌∙◌, subst, arith, length-append}
use Rattle.share_server.specs.CdEdges.Ports.{Port, Telling, HasOpenedPort}
use Rattle.serve_command.specs.declared.served.Served.{Served}
use Rattle.serve_command.specs.Connection as connections
use Rattle.serve_command.specs.Connection.{EndsConnection, HasPassedBytes, ServesConnection}
use Rattle.serve_command.specs.Runs.{Connection, HasConnectionBytes, HaveBytes, HavePassed}
use Rattle.serve_command.specs.Steps.{OneServed, PassesNext}

-- ---- one connection

abbrev of_end : Served → List (List ℕ) → List (List ℕ) → Connection
of_end ended requests replies = record { ended = ended; requests = requests; replies = replies }

-- a port was opened, and bytes passed there
passes : (old mid new : Telling) (port : ℕ) (ended : Served) (requests replies : List (List ℕ)) → HasOpenedPort old mid port
    → connections.HasBytes mid new port requests replies ended → PassesNext old new (of_end ended requests replies)
passes old mid new port ended requests replies opens has =
    let p = has.passed in
    let went : (new.port port).sent ≡ has.went = p.went_is ∙ ap (λ (l : List ℕ). l ++ has.went) opens.fresh in
    let at_port : HasConnectionBytes (old.port port) (new.port port) (of_end ended requests replies) = record {
      came = has.came;
      came_is = sym opens.to_come ∙ p.came_is;
      ends = subst (λ (w : List ℕ). EndsConnection ended has.came requests replies w (new.port port).to_come) (sym went)
          has.ends;
    } in record {
      opened = omega (arith, p.opened, opens.opened);
      bytes = subst (λ (n : ℕ). HasConnectionBytes (old.port n) (new.port n) (of_end ended requests replies)) opens.next at_port;
      others = λ other apart.
          p.others other (λ same. apart (same ∙ opens.next)) ∙ opens.others other (λ same. apart (same ∙ opens.next));
    }

-- a port was opened, and its connection served
pub one_served : {S : Type 0} (step : S → List ℕ → List ℕ → S → Type 0) (old mid new : Telling) (port : ℕ)
    (first last : S) (ended : Served)
    → (IsTrue old.told → HasOpenedPort old mid port) → mid.told ≡ old.told → ServesConnection step mid new port first last ended
    → OneServed step old new first last ended
one_served step old mid new port first last ended opens told serves = record {
  requests = serves.requests;
  replies = serves.replies;
  responds = serves.responds;
  bytes = λ tells. passes old mid new port ended serves.requests serves.replies (opens tells)
      (serves.bytes (rw told tells));
}

-- ---- many

have_more : (old now : Telling) (number : ℕ) (all : List Connection) (last : Connection) → HaveBytes old now number all
    → HasConnectionBytes (old.port (number + length all)) (now.port (number + length all)) last
    → HaveBytes old now number (all ++ last ∷ [])
have_more old now number [] last have has =
    let same : number + 0 ≡ number = omega arith in
    (subst (λ (n : ℕ). HasConnectionBytes (old.port n) (now.port n) last) same has, tt)
have_more old now number (first ∷ all) last have has =
    let same : number + length (first ∷ all) ≡ number + 1 + length all = omega arith in (
      have.0,
      have_more old now (number + 1) all last have.1
          (subst (λ (n : ℕ). HasConnectionBytes (old.port n) (now.port n) last) same has),
    )

-- another port changed
have_still : (start old new : Telling) (number changed : ℕ) (all : List Connection) → number + length all ≤ changed
    → ((other : ℕ) → other ≢ changed → new.port other ≡ old.port other) → HaveBytes start old number all
    → HaveBytes start new number all
have_still start old new number changed [] within others have = tt
have_still start old new number changed (first ∷ all) within others have =
    let apart : number ≢ changed = omega arith in
    let more : number + 1 + length all ≤ changed = omega arith in (
      subst (λ (p : Port). HasConnectionBytes (start.port number) p first) (sym (others number apart)) have.0,
      have_still start old new (number + 1) changed
          all more others have.1,
    )

pub passed_none : (old : Telling) → HavePassed old old []
passed_none old = record { opened = omega arith; bytes = tt; others = λ number outside. refl }

module _ (old mid new : Telling) (all : List Connection) (last : Connection) (passed : HavePassed old mid all)
    (next : PassesNext mid new last) where
  others_more : (number : ℕ) → (number < old.opened) ⊎ (new.opened ≤ number) → new.port number ≡ old.port number
  others_more number (inl before) =
      let apart : number ≢ mid.opened = omega (arith, passed.opened) in next.others number apart
      ∙ passed.others number (inl before)
  others_more number (inr behind) =
      let apart : number ≢ mid.opened = omega (arith, next.opened) in
      let outside : mid.opened ≤ number = omega (arith, next.opened) in next.others number apart
      ∙ passed.others number (inr outside)

  pub passed_more : HavePassed old new (all ++ last ∷ [])
  passed_more =
      let within : old.opened + length all ≤ mid.opened = omega (arith, passed.opened) in
      let many : length (all ++ last ∷ []) ≡ length all + 1 = length-append all (last ∷ []) in
      let outside : mid.opened ≤ mid.opened = omega arith in
      let as_before : HasConnectionBytes (old.port mid.opened) (new.port mid.opened) last =
      subst (λ (p : Port). HasConnectionBytes p (new.port mid.opened) last) (passed.others mid.opened (inr outside))
      next.bytes in
      record {
        opened = omega (arith, next.opened, passed.opened, many);
        bytes = have_more old new old.opened all last
            (have_still old mid new old.opened mid.opened all within next.others passed.bytes)
            (subst (λ (n : ℕ). HasConnectionBytes (old.port n) (new.port n) last) passed.opened as_before);
        others = others_more;
      }
