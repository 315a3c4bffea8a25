use Rattle.local_link.proofs.ByMemory.{open_on, said_on}
use Rattle.local_link.proofs.Passing.{read_fault, read_images, read_later, read_others, read_same, read_unarmed}
use Rattle.local_link.proofs.Recalling.{reading_on, recalled_on}
use Rattle.local_link.proofs.link.law_of_readings.Goals as goal

pub returns-clause-images : goal.returns-clause-images
returns-clause-images g c = read_images g.V.Shelf.cloud_at

pub returns-clause-others : goal.returns-clause-others
returns-clause-others g c = read_others g.V.Shelf.cloud_at

pub returns-clause-same_reference : goal.returns-clause-same_reference
returns-clause-same_reference g c = read_same g.V.Shelf.cloud_at

pub returns-clause-armings : goal.returns-clause-armings
returns-clause-armings g c = read_unarmed g.V.Shelf.cloud_at

pub returns-clause-later : goal.returns-clause-later
returns-clause-later g c = read_later g.V.Shelf.cloud_at

pub returns-clause-fault : goal.returns-clause-fault
returns-clause-fault g c = read_fault g.V.Shelf.cloud_at

pub returns-clause-memory : goal.returns-clause-memory
returns-clause-memory g c = open_on g.V.Shelf.cloud_at

pub returns-clause-reading : goal.returns-clause-reading
returns-clause-reading g c = reading_on g.V.Shelf.cloud_at

pub returns-clause-recalled : goal.returns-clause-recalled
returns-clause-recalled g c = recalled_on g.V.Shelf.cloud_at

pub returns-clause-said : goal.returns-clause-said
returns-clause-said g c = said_on g.V.Shelf.cloud_at
