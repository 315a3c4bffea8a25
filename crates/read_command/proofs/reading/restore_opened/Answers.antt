use Rattle.std.proofs.Common.{ℕ, List, sym, ◌∙◌, subst}
use Rattle.commit_journal.specs.CdBase.ids.Tag.{Tag}
use Rattle.commit_journal.specs.CdBase.shape.Shape.{Shape}
use Rattle.commit_journal.specs.CdBase.Numbers.{numbers_of}
use Rattle.commit_journal.specs.JournalStart.start.Header.{Header}
use Rattle.subset_restore.specs.CaontRs.Package.{tag as tag_at}
use Rattle.read_command.specs.Disks.{AreReadable, InItsRooms, IsOpenedToRead, KeepsDisks}
use Rattle.read_command.specs.Opening.{AreOpened}
use Rattle.read_command.proofs.Restoring.{came_to, given_anyway, is_due, kept_on, reading_chain}
use Rattle.read_command.proofs.Saying.{Readings, came_err, came_ok, says_of, spared_on}
use Rattle.read_command.proofs.reading.restore_opened.Goals as goal

pub returns-in-Err-clause-free : goal.returns-in-Err-clause-free
returns-in-Err-clause-free g c = λ rooms lists are.
    let olds = g.V.Shelf.cloud_at c.args.link.now.shelf.now in
    c.in-Err.ensures.readable rooms lists
    (subst (λ (s : Shape). AreReadable s (numbers_of c.as_slice.result.now) olds rooms lists) (sym c.requires.shape)
    (subst (λ (l : List ℕ). AreReadable c.args.wanted.now.shape l olds rooms lists) (sym c.as_slice.ensures) are))

pub returns-clause-came : goal.returns-clause-came
returns-clause-came g c =
    let clouds = g.V.Shelf.cloud_at in
    let r = c.args.wanted.now in
    let named = r.clouds.now in
    let old = c.args.link.now in
    let mid = c.open_clouds.new.link in
    let new = c.restore_any.new.link in
    let before = g.V.Shelf.faults old.shelf.now in
    let between = g.V.Shelf.faults mid.shelf.now in
    let now = g.V.Shelf.faults new.shelf.now in
    let opened = subst (AreOpened clouds before between old mid) c.as_slice.ensures c.in-Ok.ensures.opened in
    let e = c.restore_any.ensures in
    let tag : Tag = record { 0 = tag_at r.shape r.path.now } in
    let law = c.law_of_readings.ensures in
    let readings : Readings clouds = record { later = law.later; fault = law.fault; reading = law.reading; recalled = law.recalled } in
    record {
      opened = λ cloud has told. subst (λ (s : Shape). InItsRooms s cloud (clouds old.shelf.now cloud) (λ (header : Header). IsOpenedToRead header (clouds old.shelf.now cloud))) c.requires.shape ((opened.each cloud has).opened told);
      came_to = came_to clouds named r.shape before between now old mid new c.requires.shape opened r.user tag r.version _
          c.restore_any.result c.args.file.now c.restore_any.new.out c.requires.empty c.requires.fate e.asked e.named e.restored c.law_of_readings.ensures.later c.law_of_readings.ensures.fault
          (record {
            ok = came_ok clouds named r.shape before between now old mid new c.requires.shape opened r.user tag r.version _ c.args.file.now c.requires.empty readings c.restore_any.new.out;
            err = came_err clouds named r.shape before between now old mid new c.requires.shape opened r.user tag r.version _ c.args.file.now c.requires.empty readings;
            says = says_of clouds named r.shape before between now old mid new c.requires.shape opened r.user tag r.version _ c.args.file.now c.requires.empty readings;
          });
      due = is_due clouds named r.shape before between now old mid new c.requires.shape opened r.user tag r.version _
          c.restore_any.result c.args.file.now c.restore_any.new.out c.requires.empty c.requires.fate e.asked e.named e.restored c.law_of_readings.ensures.later c.law_of_readings.ensures.fault;
      anyway = given_anyway clouds named r.shape before between now old mid new c.requires.shape opened r.user tag r.version _
          c.restore_any.result c.args.file.now c.restore_any.new.out c.requires.empty c.requires.fate e.asked e.named e.restored c.law_of_readings.ensures.later c.law_of_readings.ensures.fault;
    }

pub returns-clause-kept : goal.returns-clause-kept
returns-clause-kept g c =
    let clouds = g.V.Shelf.cloud_at in
    let r = c.args.wanted.now in
    let named = r.clouds.now in
    let old = c.args.link.now in
    let mid = c.open_clouds.new.link in
    let new = c.restore_any.new.link in
    let before = g.V.Shelf.faults old.shelf.now in
    let between = g.V.Shelf.faults mid.shelf.now in
    let now = g.V.Shelf.faults new.shelf.now in
    let opened = subst (AreOpened clouds before between old mid) c.as_slice.ensures c.in-Ok.ensures.opened in
    let went = c.restore_any.ensures.asked in
    let law = c.law_of_readings.ensures in
    kept_on clouds named r.shape before between now old mid new c.requires.shape opened c.law_of_headers.ensures (λ cloud p. law.images named went.asks mid new cloud p went.passed)
    (λ cloud. law.others named went.asks mid new cloud went.passed) c.requires.within
    (λ cloud told. g.met.V.Shelf.reads_image old.shelf.now cloud told)
    (subst (λ (l : List ℕ). KeepsDisks old.servers.shape l (clouds old.shelf.now) (clouds mid.shelf.now)) c.as_slice.ensures c.in-Ok.ensures.kept)

pub returns-clause-spared : goal.returns-clause-spared
returns-clause-spared g c =
    let clouds = g.V.Shelf.cloud_at in
    let named = c.args.wanted.now.clouds.now in
    let old = c.args.link.now in
    let mid = c.open_clouds.new.link in
    let new = c.restore_any.new.link in
    let before = g.V.Shelf.faults old.shelf.now in
    let between = g.V.Shelf.faults mid.shelf.now in
    let opened = subst (AreOpened clouds before between old mid) c.as_slice.ensures c.in-Ok.ensures.opened in
    let went = c.restore_any.ensures.asked in
    let law = c.law_of_readings.ensures in
    let readings : Readings clouds = record { later = law.later; fault = law.fault; reading = law.reading; recalled = law.recalled } in
    spared_on clouds named before between old mid new opened went.asks went.passed readings (λ cloud. law.others named went.asks mid new cloud went.passed) c.in-Ok.ensures.spared

pub returns-clause-armings : goal.returns-clause-armings
returns-clause-armings g c = λ cloud.
    let went = c.restore_any.ensures.asked in
    let mid = c.open_clouds.new.link in
    let new = c.restore_any.new.link in
    c.law_of_readings.ensures.armings went.asks mid new cloud (reading_chain g.V.Shelf.cloud_at c.args.wanted.now.clouds.now went.asks mid new went.passed)
    ∙ c.in-Ok.ensures.armings cloud

pub returns-clause-same_reference : goal.returns-clause-same_reference
returns-clause-same_reference g c =
    c.law_of_readings.ensures.same_reference c.args.wanted.now.clouds.now c.restore_any.ensures.asked.asks c.open_clouds.new.link c.restore_any.new.link c.restore_any.ensures.asked.passed
    ∙ c.in-Ok.ensures.same_reference
