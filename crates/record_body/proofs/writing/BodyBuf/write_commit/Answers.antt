use Rattle.std.proofs.Common.{◌∙◌, ◌++◌, ◌∷◌, [], List, ℕ, ap}
use Rattle.record_body.proofs.FirstSpelled.{commit_written}
use Rattle.record_body.proofs.writing.BodyBuf.write_commit.Goals as goal

pub returns : goal.returns
returns c =
    commit_written c.args.commit.now _ _ _ _ _ _ _ _ _ _ _ (c.put.ensures ∙ ap (λ (xs : List ℕ). xs ++ 2 ∷ []) c.clear.ensures) c.to_be_bytes.ensures c.put-2.ensures c.put-3.ensures
    c.to_be_bytes-2.ensures c.put-4.ensures c.to_be_bytes-3.ensures c.put-5.ensures c.to_be_bytes-4.ensures c.put-6.ensures c.put-7.ensures
