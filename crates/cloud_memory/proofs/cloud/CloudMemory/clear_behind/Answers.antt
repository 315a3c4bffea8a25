use Rattle.cloud_memory.proofs.cloud.CloudMemory.clear_behind.Goals as goal

pub returns-clause-remembers : goal.returns-clause-remembers
returns-clause-remembers c = λ shape.
    let is = c.clear.ensures.remembers shape in record { placed = is.placed; lens = is.lens; owners = is.owners; files = is.files; spent = is.spent }
