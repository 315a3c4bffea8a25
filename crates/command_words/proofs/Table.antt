-- The table: what is read from words is the command that they spell, and each spelling is read.
use Rattle.std.proofs.Common.{◌≡◌, ℕ, ◌^◌, ◌*◌, ◌<◌, ◌≤◌, List, [], ◌∷◌, ◌++◌, length, Option, Some, None}
use Rattle.std.proofs.Common.{refl, sym, ap, subst, ◌∙◌, arith, leb}
use Rattle.std.specs.Prelude.{decimal, codes, Result, Ok, Err, IfOk, IfSome, IfNone, OnErr}
use Rattle.std.specs.Str.{bytes_eq}
use Rattle.std.proofs.lemmas.Slice.Eq.{bytes_eq-Decides}
use Rattle.std.proofs.lemmas.Bool.{and_from, and_parts, ltb-true, lt-ltb, leb-true, le-leb}
use Rattle.std.proofs.lemmas.Option.{same_Some}
use Rattle.session.specs.CdBase.Limits.{IsPath}
use Rattle.session.specs.CdBase.shape.Shape.{Shape}
use Rattle.session.specs.JournalStart.Ranges.{AreRooms}
use Rattle.session.specs.Grammar.Numerals.{number}
use Rattle.session.proofs.Grammar.WordLaws.{keep_some, keep_again}
use Rattle.session.proofs.Grammar.NumeralLaws.{number_reads}
use Rattle.session.proofs.Grammar.HexadecimalLaws.{chosen}
use Rattle.session.proofs.Transcript.Shapes.{shape_of_is}
use Rattle.session.specs.Spelling.{cloud_list, AreSources}
use Rattle.session.specs.Reading.{names_file, needed, shape_with, sources}
use Rattle.session.proofs.Shapes.{shape_with_some}
use Rattle.session.proofs.Texts.{names_file_true, names_file_from}
use Rattle.session.proofs.Events.{u32_reads, u64_reads, find_passes}
use Rattle.session.proofs.CloudTexts.{sources_reads}
use Rattle.command_words.specs.Asked.{AskedRead, AskedServe, AskedFile, AskedSpool, AskedResume, AskedCloud, AskedMigrate, AskedSession, Asked}
use Rattle.command_words.specs.Asked.{ForReplay, ForRead, ForServe, ForBackup, ForRestore, ForDelete, ForSpool, ForResume}
use Rattle.command_words.specs.Asked.{ForAudit, ForCheck, ForReclaim, ForMigrate, ForGenerate}
use Rattle.command_words.specs.Commands.{read_words, serve_words, file_words, spool_words, resume_words, cloud_words, session_words}
use Rattle.command_words.specs.Commands.{migrate_words, rooms_words}
use Rattle.command_words.specs.Commands.{FitsRead, FitsServe, FitsFile, FitsResume, FitsCloud, FitsMigrate, FitsSession, IsCommand}
use Rattle.command_words.specs.Reading.{◌>>=◌, ◌▷◌, ◌▷▷◌, GivesOrNone, word_at, any, user, version, path, shape_at}
use Rattle.command_words.specs.Reading.{replay_at, make_read, read_at, make_serve, has_cloud, serve_at, make_file}
use Rattle.command_words.specs.Reading.{has_addresses, file_at, make_spool, spool_at, make_resume, has_clouds, resume_at}
use Rattle.command_words.specs.Reading.{make_cloud, is_of_shape, cloud_at, rooms_at, make_migrate, is_placed, migrate_at}
use Rattle.command_words.specs.Reading.{make_session, is_small, session_at, name, all_rows}
use Rattle.command_words.specs.Reading.{named, read_as, row_at, command_at}
use Rattle.command_words.specs.declared.rows.Row.{Row}
use Rattle.command_words.specs.declared.rows.Row.TheVariants as rows
use Rattle.command_words.proofs.Readers.{Spells, spells_by, Lawful, bind_some, lawful_word, lawful_given, lawful_then}
use Rattle.command_words.proofs.Readers.{whole_takes, whole_again}
use Rattle.command_words.proofs.RoomWords.{lawful_rooms}

-- ---- words

any_spells : Spells any (λ word. word) (λ _. Unit {0})
any_spells = record { takes = λ word x e. (same_Some word x e, tt); again = λ x _. refl }

path_takes : (word x : List ℕ) → path word ≡ Some x → (word ≡ x) × IsPath x
unfolding path
path_takes word x e =
    let k = keep_some names_file (Some word) x e in
    (same_Some word x k.0, names_file_true x k.1)

path_again : (x : List ℕ) → IsPath x → path x ≡ Some x
unfolding path
path_again x h = keep_again names_file (Some x) x refl (names_file_from x h)

path_spells : Spells path (λ word. word) IsPath
path_spells = record { takes = path_takes; again = path_again }

-- a number of a byte
byte_spells : Spells (number 0 255) decimal (λ n. (0 ≤ n) × (n ≤ 255))
byte_spells = spells_by (number_reads 0 255 (omega arith))

needed_takes : (n : ℕ) (word : List ℕ) (s : Shape) → needed n word ≡ Some s → (n ≡ s.n) × (word ≡ decimal s.k)
unfolding needed
needed_takes n word s e =
    let v = shape_with_some n (number 0 255 word) s e in
    (v.0, (byte_spells.takes word s.k v.1).0)

needed_again : (s : Shape) → needed s.n (decimal s.k) ≡ Some s
unfolding needed
needed_again s =
    let a = s.spare in let b = s.few in
    ap (shape_with s.n) (byte_spells.again s.k (omega arith, omega arith)) ∙ shape_of_is s

needed_spells : (n : ℕ) → Spells (needed n) (λ s. decimal s.k) (λ s. n ≡ s.n)
needed_spells n = record {
  takes = λ word s e. let t = needed_takes n word s e in (t.1, t.0);
  again = λ s h. ap (λ (m : ℕ). needed m (decimal s.k)) h ∙ needed_again s;
}

abbrev shape_words : Shape → List (List ℕ)
shape_words s = decimal s.n ∷ decimal s.k ∷ []

shape_takes : (words : List (List ℕ)) (s : Shape) (rest : List (List ℕ)) → shape_at words ≡ Some (s, rest)
    → (words ≡ shape_words s ++ rest) × Unit {0}
unfolding shape_at
shape_takes words s rest e =
    let a = bind_some (word_at (number 0 255) words) (λ n. word_at (needed n.0) n.1) (s, rest) e in
    let t = (lawful_word byte_spells).takes words a.0.0 a.0.1 a.1 in
    let u = (lawful_word (needed_spells a.0.0)).takes a.0.1 s rest a.2 in
    (t.0 ∙ ap (λ (w : List (List ℕ)). decimal a.0.0 ∷ w) u.0 ∙ ap (λ (m : ℕ). decimal m ∷ decimal s.k ∷ rest) u.1, tt)

shape_again : (s : Shape) (rest : List (List ℕ)) → Unit {0} → shape_at (shape_words s ++ rest) ≡ Some (s, rest)
unfolding shape_at
shape_again s rest fits =
    let a = s.few in
    rw (
      (lawful_word byte_spells).again s.n (decimal s.k ∷ rest) (omega arith, omega arith),
      (lawful_word (needed_spells s.n)).again s rest refl,
    ) refl

lawful_shape : Lawful shape_at shape_words (λ _. Unit {0})
lawful_shape = record { takes = shape_takes; again = shape_again }

-- ---- `replay`

replay_takes : (words : List (List ℕ)) (d : List ℕ) → replay_at words ≡ Some d → words ≡ d ∷ []
unfolding replay_at
replay_takes words d e =
    let t = whole_takes (lawful_word any_spells) (λ directory. directory) words d e in
    t.1 ∙ ap (λ (w : List ℕ). w ∷ []) t.3

replay_again : (d : List ℕ) → replay_at (d ∷ []) ≡ Some d
unfolding replay_at
replay_again d = whole_again (lawful_word any_spells) (λ directory. directory) d tt

-- ---- `read`

read_laws : Lawful (word_at any ▷ (shape_at ▷▷ λ shape. word_at user ▷ word_at path ▷ word_at version ▷ word_at
    (sources shape)))
    (λ x. (x.0 ∷ []) ++ (shape_words x.1.0 ++ ((decimal x.1.1.0 ∷ []) ++
    ((x.1.1.1.0 ∷ []) ++ ((decimal x.1.1.1.1.0 ∷ []) ++ (cloud_list x.1.1.1.1.1 ∷ []))))))
    (λ x. Unit {0} × (Unit {0} × ((x.1.1.0 < 2 ^ 32) × (IsPath x.1.1.1.0
    × ((x.1.1.1.1.0 < 2 ^ 64) × AreSources x.1.0 x.1.1.1.1.1)))))
read_laws = lawful_then (lawful_word any_spells) (lawful_given lawful_shape (λ shape.
    lawful_then (lawful_word (spells_by u32_reads)) (lawful_then (lawful_word path_spells)
    (lawful_then (lawful_word (spells_by u64_reads)) (lawful_word (spells_by (sources_reads shape)))))))

read_takes : (words : List (List ℕ)) (r : AskedRead) → read_at words ≡ Some r → (words ≡ read_words r) × FitsRead r
unfolding read_at
read_takes words r e =
    let t = whole_takes read_laws make_read words r e in
    subst (λ (r : AskedRead). (words ≡ read_words r) × FitsRead r) t.3 (
      t.1,
      record {
        file = record { user_range = t.2.1.1.0; named = t.2.1.1.1.0; version_range = t.2.1.1.1.1.0 };
        chosen = t.2.1.1.1.1.1;
      },
    )

read_again : (r : AskedRead) → FitsRead r → read_at (read_words r) ≡ Some r
unfolding read_at
read_again r h = whole_again read_laws make_read (
  r.directory,
  (r.shape, (r.user.0, (r.path, (r.version.0, r.clouds)))),
) (
  tt,
  (tt, (h.file.user_range, (h.file.named, (h.file.version_range, h.chosen)))),
)

-- ---- `serve`

count_spells : Spells (number 1 4294967295) decimal (λ n. (1 ≤ n) × (n ≤ 4294967295))
count_spells = spells_by (number_reads 1 4294967295 (omega arith))

serve_laws : Lawful (word_at any ▷ word_at (number 0 255) ▷ shape_at ▷ word_at any ▷ word_at (number 1 4294967295))
    (λ x. (x.0 ∷ []) ++ ((decimal x.1.0 ∷ []) ++ (shape_words x.1.1.0 ++
    ((x.1.1.1.0 ∷ []) ++ (decimal x.1.1.1.1 ∷ [])))))
    (λ x. Unit {0} × (((0 ≤ x.1.0) × (x.1.0 ≤ 255)) × (Unit {0}
    × (Unit {0} × ((1 ≤ x.1.1.1.1) × (x.1.1.1.1 ≤ 4294967295))))))
serve_laws = lawful_then (lawful_word any_spells) (lawful_then (lawful_word byte_spells)
    (lawful_then lawful_shape (lawful_then (lawful_word any_spells) (lawful_word count_spells))))

serve_takes : (words : List (List ℕ)) (s : AskedServe) → serve_at words ≡ Some s → (words ≡ serve_words s) × FitsServe s
unfolding serve_at
serve_takes words s e =
    let k = keep_some has_cloud _ s e in
    let t = whole_takes serve_laws make_serve words s k.0 in
    let within = ltb-true s.cloud.0 s.shape.n k.1 in
    let some : 1 ≤ s.count = subst (λ (s : AskedServe). 1 ≤ s.count) t.3 t.2.1.1.1.1.0 in
    let few : s.count ≤ 4294967295 = subst (λ (s : AskedServe). s.count ≤ 4294967295) t.3 t.2.1.1.1.1.1 in (
      subst (λ (s : AskedServe). words ≡ serve_words s) t.3 t.1,
      record { cloud = within; some = some; few = omega arith },
    )

serve_again : (s : AskedServe) → FitsServe s → serve_at (serve_words s) ≡ Some s
unfolding serve_at
serve_again s h =
    let within = h.cloud in let most = s.shape.few in let count = h.few in
    keep_again has_cloud _ s
    (whole_again serve_laws make_serve (s.directory, (s.cloud.0, (s.shape, (s.address, s.count)))) (
      tt,
      ((omega arith, omega arith), (tt, (tt, (h.some, omega arith)))),
    ))
    (lt-ltb s.cloud.0 s.shape.n within)

-- ---- `backup` and `restore`

file_laws : Lawful (word_at user ▷ word_at path ▷ word_at version)
    (λ x. (decimal x.0 ∷ []) ++ ((x.1.0 ∷ []) ++ (decimal x.1.1 ∷ [])))
    (λ x. (x.0 < 2 ^ 32) × (IsPath x.1.0 × (x.1.1 < 2 ^ 64)))
file_laws = lawful_then (lawful_word (spells_by u32_reads))
    (lawful_then (lawful_word path_spells) (lawful_word (spells_by u64_reads)))

file_takes : (least : ℕ) (words : List (List ℕ)) (f : AskedFile) → file_at least words ≡ Some f
    → (words ≡ file_words f) × FitsFile least f
unfolding file_at
file_takes least words f e =
    let k = keep_some (has_addresses least) _ f e in
    let a = bind_some ((word_at user ▷ word_at path ▷ word_at version) words) (λ x. Some (make_file x.0 x.1)) f k.0 in
    let t = file_laws.takes words a.0.0 a.0.1 a.1 in
    let same = same_Some (make_file a.0.0 a.0.1) f a.2 in
    let p = and_parts (leb least (length f.addresses)) _ k.1 in
    let some = leb-true _ _ p.0 in
    let few = leb-true _ _ p.1 in
    let file = subst (λ (f : AskedFile). (words ≡ file_words f) × (f.user.0 < 2 ^ 32) × IsPath f.path
    × (f.version.0 < 2 ^ 64)) same (t.0, t.1.0, t.1.1.0, t.1.1.1) in (
      file.0,
      record {
        file = record { user_range = file.1; named = file.2; version_range = file.3 };
        some =
            some;
        few = few;
      },
    )

file_again : (least : ℕ) (f : AskedFile) → FitsFile least f → file_at least (file_words f) ≡ Some f
unfolding file_at
file_again least f h =
    keep_again (has_addresses least) _ f
    (rw (file_laws.again (f.user.0, (f.path, f.version.0)) f.addresses (
      h.file.user_range,
      (h.file.named, h.file.version_range),
    )) refl)
    (and_from _ _ (le-leb _ _ h.some) (le-leb _ _ h.few))

-- ---- `spool` and `resume`

as_some : {A B : Type 0} (make : A → B) (o : Option A) (y : B) → read_as make o ≡ Some y
    → (x : A) × (o ≡ Some x) × (make x ≡ y)
as_some make (Some x) y e = (x, refl, same_Some (make x) y e)
as_some make None y e = absurd cc

spool_takes : (words : List (List ℕ)) (s : AskedSpool) → spool_at words ≡ Some s
    → (words ≡ spool_words s) × FitsFile 3 s.file
unfolding spool_at
spool_takes words s e =
    let d = bind_some (word_at any words) (λ d. read_as (make_spool d.0) (file_at 3 d.1)) s e in
    let f = as_some (make_spool d.0.0) (file_at 3 d.0.1) s d.2 in
    let t = (lawful_word any_spells).takes words d.0.0 d.0.1 d.1 in
    let u = file_takes 3 d.0.1 f.0 f.1 in
    subst (λ (s : AskedSpool). (words ≡ spool_words s) × FitsFile 3 s.file) f.2
    (t.0 ∙ ap (λ (ws : List (List ℕ)). d.0.0 ∷ ws) u.0, u.1)

spool_again : (s : AskedSpool) → FitsFile 3 s.file → spool_at (spool_words s) ≡ Some s
unfolding spool_at
spool_again s h =
    rw ((lawful_word any_spells).again s.directory (file_words s.file) tt)
    (ap (read_as (make_spool s.directory)) (file_again 3 s.file h))

resume_takes : (words : List (List ℕ)) (r : AskedResume) → resume_at words ≡ Some r
    → (words ≡ resume_words r) × FitsResume r
unfolding resume_at
resume_takes words r e =
    let k = keep_some has_clouds _ r e in
    let d = bind_some (word_at any words) (λ d. Some (make_resume d.0 d.1)) r k.0 in
    let t = (lawful_word any_spells).takes words d.0.0 d.0.1 d.1 in
    let p = and_parts (leb 3 (length r.addresses)) _ k.1 in (
      subst (λ (r : AskedResume). words ≡ resume_words r) (same_Some (make_resume d.0.0 d.0.1) r d.2) t.0,
      record { some = leb-true _ _ p.0; few = leb-true _ _ p.1 },
    )

resume_again : (r : AskedResume) → FitsResume r → resume_at (resume_words r) ≡ Some r
unfolding resume_at word_at
resume_again r h =
    keep_again has_clouds (Some r) r refl (and_from _ _ (le-leb _ _ h.some) (le-leb _ _ h.few))

-- ---- `audit`, `check` and `reclaim`

cloud_laws : Lawful (word_at any ▷ word_at (number 0 255) ▷ shape_at)
    (λ x. (x.0 ∷ []) ++ ((decimal x.1.0 ∷ []) ++ shape_words x.1.1))
    (λ x. Unit {0} × (((0 ≤ x.1.0) × (x.1.0 ≤ 255)) × Unit {0}))
cloud_laws = lawful_then (lawful_word any_spells) (lawful_then (lawful_word byte_spells) lawful_shape)

cloud_takes : (words : List (List ℕ)) (c : AskedCloud) → cloud_at words ≡ Some c → (words ≡ cloud_words c) × FitsCloud c
unfolding cloud_at
cloud_takes words c e =
    let k = keep_some is_of_shape _ c e in
    let t = whole_takes cloud_laws make_cloud words c k.0 in
    (subst (λ (c : AskedCloud). words ≡ cloud_words c) t.3 t.1, ltb-true c.cloud.0 c.shape.n k.1)

cloud_again : (c : AskedCloud) → FitsCloud c → cloud_at (cloud_words c) ≡ Some c
unfolding cloud_at
cloud_again c within =
    let most = c.shape.few in
    keep_again is_of_shape _ c
    (whole_again cloud_laws make_cloud (c.directory, (c.cloud.0, c.shape)) (tt, ((omega arith, omega arith), tt)))
    (lt-ltb c.cloud.0 c.shape.n within)

-- ---- `migrate`

migrate_laws : Lawful (word_at any ▷ word_at (number 0 255) ▷ shape_at ▷ rooms_at)
    (λ x. (x.0 ∷ []) ++ ((decimal x.1.0 ∷ []) ++ (shape_words x.1.1.0 ++ rooms_words x.1.1.1)))
    (λ x. Unit {0} × (((0 ≤ x.1.0) × (x.1.0 ≤ 255)) × (Unit {0} × AreRooms x.1.1.1)))
migrate_laws = lawful_then (lawful_word any_spells)
    (lawful_then (lawful_word byte_spells) (lawful_then lawful_shape lawful_rooms))

migrate_takes : (words : List (List ℕ)) (m : AskedMigrate) → migrate_at words ≡ Some m
    → (words ≡ migrate_words m) × FitsMigrate m
unfolding migrate_at
migrate_takes words m e =
    let k = keep_some is_placed _ m e in
    let t = whole_takes migrate_laws make_migrate words m k.0 in
    let within = ltb-true m.place.cloud.0 m.place.shape.n k.1 in (
      subst (λ (m : AskedMigrate). words ≡ migrate_words m) t.3 t.1,
      record { cloud = within; rooms = subst (λ (m : AskedMigrate). AreRooms m.rooms) t.3 t.2.1.1.1 },
    )

migrate_again : (m : AskedMigrate) → FitsMigrate m → migrate_at (migrate_words m) ≡ Some m
unfolding migrate_at
migrate_again m h =
    let within = h.cloud in let most = m.place.shape.few in
    keep_again is_placed _ m
    (whole_again migrate_laws make_migrate (m.place.directory, (m.place.cloud.0, (m.place.shape, m.rooms))) (
      tt,
      ((omega arith, omega arith), (tt, h.rooms)),
    ))
    (lt-ltb m.place.cloud.0 m.place.shape.n within)

-- ---- `gen`

session_laws : Lawful (word_at (number 0 18446744073709551615) ▷ word_at (number 1 1000) ▷ word_at (number 1 8192) ▷
    word_at any)
    (λ x. (decimal x.0 ∷ []) ++ ((decimal x.1.0 ∷ []) ++ ((decimal x.1.1.0 ∷ []) ++ (x.1.1.1 ∷ []))))
    (λ x. (x.0 < 2 ^ 64) × (((1 ≤ x.1.0) × (x.1.0 ≤ 1000)) × (((1 ≤ x.1.1.0) × (x.1.1.0 ≤ 8192)) × Unit {0})))
session_laws = lawful_then (lawful_word (spells_by u64_reads))
    (lawful_then (lawful_word (spells_by (number_reads 1 1000 (omega arith))))
    (lawful_then (lawful_word (spells_by (number_reads 1 8192 (omega arith)))) (lawful_word any_spells)))

session_takes : (words : List (List ℕ)) (g : AskedSession) → session_at words ≡ Some g
    → (words ≡ session_words g) × FitsSession g
unfolding session_at
session_takes words g e =
    let k = keep_some is_small _ g e in
    let t = whole_takes session_laws make_session words g k.0 in
    let all = leb-true (g.files * g.pieces) 131072 k.1 in
    let r = subst (λ (g : AskedSession). (words ≡ session_words g) × (g.seed < 2 ^ 64) × (1 ≤ g.files)
    × (g.files ≤ 1000) × (1 ≤ g.pieces) × (g.pieces ≤ 8192)) t.3
    (t.1, t.2.0, t.2.1.0.0, t.2.1.0.1, t.2.1.1.0.0, t.2.1.1.0.1) in
    (r.0, record { seed = r.1; some_files = r.2; files = r.3; some_pieces = r.4; pieces = r.5; all = all })

session_again : (g : AskedSession) → FitsSession g → session_at (session_words g) ≡ Some g
unfolding session_at
session_again g h =
    keep_again is_small _ g
    (whole_again session_laws make_session (g.seed, (g.files, (g.pieces, g.directory))) (
      h.seed,
      ((h.some_files, h.files), ((h.some_pieces, h.pieces), tt)),
    ))
    (le-leb _ _ h.all)

-- ---- the name

named_again : (row : Row) → named (name row) ≡ Some row
named_again rows.Replay = refl
named_again rows.Read = refl
named_again rows.Serve = refl
named_again rows.Backup = refl
named_again rows.Restore = refl
named_again rows.Delete = refl
named_again rows.Spool = refl
named_again rows.Resume = refl
named_again rows.Audit = refl
named_again rows.Check = refl
named_again rows.Reclaim = refl
named_again rows.Migrate = refl
named_again rows.Generate = refl

row_spells : Spells named name (λ _. Unit {0})
row_spells = record {
  takes = λ word row e. (
    (bytes_eq-Decides word (name row)).0
        (find_passes (λ (r : Row). bytes_eq word (name r)) all_rows row e),
    tt,
  );
  again = λ row _. named_again row;
}

-- ---- the table

row_takes : (row : Row) (words : List (List ℕ)) (asked : Asked) → row_at row words ≡ Some asked
    → IsCommand (name row ∷ words) asked
row_takes rows.Replay words asked e =
    let a = as_some ForReplay (replay_at words) asked e in
    subst (IsCommand (name rows.Replay ∷ words)) a.2 (ap (λ (ws : List (List ℕ)). codes "replay" ∷ ws)
    (replay_takes words a.0 a.1))
row_takes rows.Read words asked e =
    let a = as_some ForRead (read_at words) asked e in
    let t = read_takes words a.0 a.1 in
    subst (IsCommand (name rows.Read ∷ words)) a.2 (ap (λ (ws : List (List ℕ)). codes "read" ∷ ws) t.0, t.1)
row_takes rows.Serve words asked e =
    let a = as_some ForServe (serve_at words) asked e in
    let t = serve_takes words a.0 a.1 in
    subst (IsCommand (name rows.Serve ∷ words)) a.2 (ap (λ (ws : List (List ℕ)). codes "serve" ∷ ws) t.0, t.1)
row_takes rows.Backup words asked e =
    let a = as_some ForBackup (file_at 3 words) asked e in
    let t = file_takes 3 words a.0 a.1 in
    subst (IsCommand (name rows.Backup ∷ words)) a.2 (ap (λ (ws : List (List ℕ)). codes "backup" ∷ ws) t.0, t.1)
row_takes rows.Restore words asked e =
    let a = as_some ForRestore (file_at 2 words) asked e in
    let t = file_takes 2 words a.0 a.1 in
    subst (IsCommand (name rows.Restore ∷ words)) a.2 (ap (λ (ws : List (List ℕ)). codes "restore" ∷ ws) t.0, t.1)
row_takes rows.Delete words asked e =
    let a = as_some ForDelete (file_at 3 words) asked e in
    let t = file_takes 3 words a.0 a.1 in
    subst (IsCommand (name rows.Delete ∷ words)) a.2 (ap (λ (ws : List (List ℕ)). codes "delete" ∷ ws) t.0, t.1)
row_takes rows.Spool words asked e =
    let a = as_some ForSpool (spool_at words) asked e in
    let t = spool_takes words a.0 a.1 in
    subst (IsCommand (name rows.Spool ∷ words)) a.2 (ap (λ (ws : List (List ℕ)). codes "spool" ∷ ws) t.0, t.1)
row_takes rows.Resume words asked e =
    let a = as_some ForResume (resume_at words) asked e in
    let t = resume_takes words a.0 a.1 in
    subst (IsCommand (name rows.Resume ∷ words)) a.2 (ap (λ (ws : List (List ℕ)). codes "resume" ∷ ws) t.0, t.1)
row_takes rows.Audit words asked e =
    let a = as_some ForAudit (cloud_at words) asked e in
    let t = cloud_takes words a.0 a.1 in
    subst (IsCommand (name rows.Audit ∷ words)) a.2 (ap (λ (ws : List (List ℕ)). codes "audit" ∷ ws) t.0, t.1)
row_takes rows.Check words asked e =
    let a = as_some ForCheck (cloud_at words) asked e in
    let t = cloud_takes words a.0 a.1 in
    subst (IsCommand (name rows.Check ∷ words)) a.2 (ap (λ (ws : List (List ℕ)). codes "check" ∷ ws) t.0, t.1)
row_takes rows.Reclaim words asked e =
    let a = as_some ForReclaim (cloud_at words) asked e in
    let t = cloud_takes words a.0 a.1 in
    subst (IsCommand (name rows.Reclaim ∷ words)) a.2 (ap (λ (ws : List (List ℕ)). codes "reclaim" ∷ ws) t.0, t.1)
row_takes rows.Migrate words asked e =
    let a = as_some ForMigrate (migrate_at words) asked e in
    let t = migrate_takes words a.0 a.1 in
    subst (IsCommand (name rows.Migrate ∷ words)) a.2 (ap (λ (ws : List (List ℕ)). codes "migrate" ∷ ws) t.0, t.1)
row_takes rows.Generate words asked e =
    let a = as_some ForGenerate (session_at words) asked e in
    let t = session_takes words a.0 a.1 in
    subst (IsCommand (name rows.Generate ∷ words)) a.2 (ap (λ (ws : List (List ℕ)). codes "gen" ∷ ws) t.0, t.1)

-- what was read is what the words ask for
pub command_takes : (words : List (List ℕ)) (asked : Asked) → command_at words ≡ Some asked → IsCommand words asked
unfolding command_at
command_takes words asked e =
    let a = bind_some (word_at named words) (λ row. row_at row.0 row.1) asked e in
    let t = (lawful_word row_spells).takes words a.0.0 a.0.1 a.1 in
    subst (λ (ws : List (List ℕ)). IsCommand ws asked) (sym t.0) (row_takes a.0.0 a.0.1 asked a.2)

by_row : (row : Row) (words : List (List ℕ)) (asked : Asked) → row_at row words ≡ Some asked
    → command_at (name row ∷ words) ≡ Some asked
unfolding command_at
by_row row words asked e = ap (λ o. o >>= λ r. row_at r.0 r.1) ((lawful_word row_spells).again row words tt) ∙ e

-- what words ask for is read
pub command_again : (words : List (List ℕ)) (asked : Asked) → IsCommand words asked → command_at words ≡ Some asked
command_again words (ForReplay d) h = ap command_at h ∙ by_row rows.Replay (d ∷ []) (ForReplay d)
    (ap (read_as ForReplay) (replay_again d))
command_again words (ForRead r) h = ap command_at h.0 ∙ by_row rows.Read (read_words r) (ForRead r)
    (ap (read_as ForRead) (read_again r h.1))
command_again words (ForServe s) h = ap command_at h.0
    ∙ by_row rows.Serve (serve_words s) (ForServe s) (ap (read_as ForServe) (serve_again s h.1))
command_again words (ForBackup f) h = ap command_at h.0
    ∙ by_row rows.Backup (file_words f) (ForBackup f) (ap (read_as ForBackup) (file_again 3 f h.1))
command_again words (ForRestore f) h = ap command_at h.0
    ∙ by_row rows.Restore (file_words f) (ForRestore f) (ap (read_as ForRestore) (file_again 2 f h.1))
command_again words (ForDelete f) h = ap command_at h.0
    ∙ by_row rows.Delete (file_words f) (ForDelete f) (ap (read_as ForDelete) (file_again 3 f h.1))
command_again words (ForSpool s) h = ap command_at h.0
    ∙ by_row rows.Spool (spool_words s) (ForSpool s) (ap (read_as ForSpool) (spool_again s h.1))
command_again words (ForResume r) h = ap command_at h.0
    ∙ by_row rows.Resume (resume_words r) (ForResume r) (ap (read_as ForResume) (resume_again r h.1))
command_again words (ForAudit c) h = ap command_at h.0
    ∙ by_row rows.Audit (cloud_words c) (ForAudit c) (ap (read_as ForAudit) (cloud_again c h.1))
command_again words (ForCheck c) h = ap command_at h.0
    ∙ by_row rows.Check (cloud_words c) (ForCheck c) (ap (read_as ForCheck) (cloud_again c h.1))
command_again words (ForReclaim c) h = ap command_at h.0
    ∙ by_row rows.Reclaim (cloud_words c) (ForReclaim c) (ap (read_as ForReclaim) (cloud_again c h.1))
command_again words (ForMigrate m) h = ap command_at h.0
    ∙ by_row rows.Migrate (migrate_words m) (ForMigrate m) (ap (read_as ForMigrate) (migrate_again m h.1))
command_again words (ForGenerate g) h = ap command_at h.0
    ∙ by_row rows.Generate (session_words g) (ForGenerate g) (ap (read_as ForGenerate) (session_again g h.1))

pub one_command : (words : List (List ℕ)) (a b : Asked) → IsCommand words a → IsCommand words b → a ≡ b
one_command words a b p q = same_Some a b (sym (command_again words a p) ∙ command_again words b q)

-- ---- what the functions answer

pub read_row : (row : Row) → row ≡ rows.Read → (words : List (List ℕ))
    → (asked : AskedRead) × (read_at words ≡ Some asked)
    → (asked : AskedRead) × (row_at row words ≡ Some (ForRead asked))
read_row row same words h = (h.0, rw same (ap (read_as ForRead) h.1))

by_first : (row : Row) (rest words : List (List ℕ)) (o : Option Asked) → word_at named words ≡ Some (row, rest)
    → row_at row rest ≡ o → command_at words ≡ o
unfolding command_at
by_first row rest words o first is = ap (λ r. r >>= λ row. row_at row.0 row.1) first ∙ is

pub none_first : (words : List (List ℕ)) → word_at named words ≡ None → (asked : Asked) → IsCommand words asked → ⊥
unfolding command_at
none_first words none asked h = let k : command_at words ≡ Some asked =
    command_again words asked h in let n : command_at words ≡ None =
    ap (λ r. r >>= λ row. row_at row.0 row.1) none in absurd (let e = sym n ∙ k in cc)

-- the answer for a row, seen by view
pub some_is : {C E : Type 0} (view : C → Asked) (row : Row) (rest words : List (List ℕ)) (r : Result (Option C) E)
    → word_at named words ≡ Some (row, rest) → IfOk r (λ o. GivesOrNone view o (row_at row rest))
    → IfOk r (λ o. IfSome o (λ c. IsCommand words (view c)))
some_is view row rest words (Ok (Some c)) first given =
    command_takes words (view c) (by_first row rest words (Some (view c)) first given)
some_is view row rest words (Ok None) first given = tt
some_is view row rest words (Err e) first given = tt

pub none_is : {C E : Type 0} (view : C → Asked) (row : Row) (rest words : List (List ℕ)) (r : Result (Option C) E)
    → word_at named words ≡ Some (row, rest) → IfOk r (λ o. GivesOrNone view o (row_at row rest))
    → IfOk r (λ o. IfNone o ((asked : Asked) → IsCommand words asked → ⊥))
none_is view row rest words (Ok (Some c)) first given = tt
none_is view row rest words (Ok None) first given = λ asked h. absurd (let e =
    sym (by_first row rest words None first given) ∙ command_again words asked h in cc)
none_is view row rest words (Err e) first given = tt

pub err_is : {C E : Type 0} (row : Row) (rest words : List (List ℕ)) (r : Result C E)
    → word_at named words ≡ Some (row, rest) → OnErr r ((asked : AskedRead) × (row_at row rest ≡ Some (ForRead asked)))
    → OnErr r ((asked : AskedRead) × IsCommand words (ForRead asked))
err_is row rest words (Ok x) first given = tt
err_is row rest words (Err e) first given = (
  given.0,
  command_takes words (ForRead given.0)
      (by_first row rest words (Some (ForRead given.0)) first given.1),
)
