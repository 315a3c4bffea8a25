-- Logs that are read.
use Rattle.std.proofs.Common.{◌≡◌, IsTrue, refl, sym, ap, ◌∙◌, subst}
use Rattle.cd_edges.specs.Disk.{Cloud, Areas}
use Rattle.cd_edges.specs.Shelf.{Stays}
use Rattle.cloud_memory.specs.ContainerLog.States.{State, Agrees}
use Rattle.server_reads.specs.Found.{ReadsLog}

-- a log that a call leaves, over areas that stay
pub log_still : (old new : State) (before after : Cloud) → Stays before after → new ≡ old → ReadsLog old new before after
log_still old new before after stays same = subst (λ (s : State). ReadsLog old s before after) (sym same) (record {
  rest = refl;
  agrees = λ told agreed. subst (λ (a : Areas). Agrees old (a old.area).read) (sym stays.now) agreed;
})

-- one reading after another
pub log_twice : (old mid new : State) (before between after : Cloud) → between.told ≡ before.told → ReadsLog old mid before between → ReadsLog mid new between after
    → ReadsLog old new before after
log_twice old mid new before between after same first second = record {
  rest = second.rest ∙ ap (λ (s : State). let kept : State = record s { kept = new.kept } in kept) first.rest;
  agrees = λ told agreed. second.agrees (subst IsTrue (sym same) told) (first.agrees told agreed);
}
