-- The front of a long line, and what the whole line says.
use Rattle.std.proofs.Common.{◌≡◌, ℕ, ◌+◌, ◌-◌, ◌<◌, ◌≤◌, ◌^◌, Bool, false, List, [], ◌∷◌, ◌++◌, length, take, Some, Result, Ok, Err, zero, suc, refl, sym, ap, subst, ◌∙◌, append_assoc, arith}
use Rattle.std.specs.Prelude.{IfOk, IsTrue, codes, decimal}
use Rattle.std.specs.List.{position_or_len, slice_get}
use Rattle.std.specs.Str.{bytes_eq}
use Rattle.std.proofs.lemmas.List.{append-nil, append_cancel_right, length-append}
use Rattle.std.proofs.lemmas.List.Elements.{All-append, All-from_recursion}
use Rattle.journal_start.specs.CdBase.ids.UserId.{UserId}
use Rattle.journal_start.specs.CdBase.ids.Version.{Version}
use Rattle.journal_start.specs.CdBase.shape.Shape.{Shape}
use Rattle.journal_start.specs.Grammar.Words.{cut, word_at, is_blank}
use Rattle.journal_start.specs.Grammar.Hexadecimal.{hex, unhex}
use Rattle.journal_start.proofs.Grammar.HexadecimalLaws.{unhex_takes, hex_append}
use Rattle.transcript.specs.Words.{bytes_text}
use Rattle.session.specs.Front.{BeginsAsUpload, IsUploading, NamesUpload}
use Rattle.session.specs.Spelling.{AreLineBytes, FitsEvent, IsLine, spelling, file_limit}
use Rattle.session.specs.Reading.{ReadsScript, literal, header_left, header_at, placed, event_at}
use Rattle.session.specs.declared.event.Event.{Event}
use Rattle.session.specs.declared.event.Event.TheVariants as events
use Rattle.session.specs.declared.reading.ScriptErr.{ScriptErr}
use Rattle.session.proofs.Events.{event_law}

-- ---- the parts of a front

pub nothing : (head packed : List ℕ) → head ≡ [] → packed ≡ [] → head ++ hex packed ≡ []
unfolding hex
nothing head packed e f = rw (e, f) refl

pub none_packed : (head packed : List ℕ) → BeginsAsUpload head packed → head ≡ [] → packed ≡ []
none_packed [] packed begins e = begins
none_packed (b ∷ head) packed begins e = absurd cc

pub empty_front : (head packed : List ℕ) → BeginsAsUpload head packed → head ≡ [] → head ++ hex packed ≡ []
empty_front head packed begins e = nothing head packed e (none_packed head packed begins e)

pub uploading : (head packed : List ℕ) (b : Bool) → BeginsAsUpload head packed → (head ≡ [] → IsTrue b) → b ≡ false → IsUploading (head ++ hex packed)
uploading [] packed b begins h e = absurd (let t = h refl in cc)
uploading (x ∷ head) packed b begins h e = (head ++ hex packed, ap (λ (n : ℕ). n ∷ (head ++ hex packed)) begins)

-- the head was taken
pub head_taken : (head packed now new text : List ℕ) → head ++ hex packed ≡ now → BeginsAsUpload head packed → head ≡ [] → new ≡ text → new ++ hex packed ≡ now ++ text
unfolding hex
head_taken head packed now new text view begins e is =
    let p = none_packed head packed begins e in
    let n : now ≡ [] = sym view ∙ nothing head packed e p in
    rw (n, p, is) (append-nil text)

pub head_begins : (head packed new : List ℕ) → BeginsAsUpload head packed → head ≡ [] → BeginsAsUpload new [] → BeginsAsUpload new packed
head_begins head packed new begins e is = rw (none_packed head packed begins e) is

-- digits were taken
pub packed_taken : (head packed now new text : List ℕ) → head ++ hex packed ≡ now → hex new ≡ hex packed ++ text → head ++ hex new ≡ now ++ text
packed_taken head packed now new text view is =
    ap (λ (x : List ℕ). head ++ x) is ∙ sym (append_assoc head (hex packed) text) ∙ ap (λ (x : List ℕ). x ++ text) view

pub packed_begins : (head packed new : List ℕ) (b : Bool) → BeginsAsUpload head packed → (head ≡ [] → IsTrue b) → b ≡ false → BeginsAsUpload head new
packed_begins [] packed new b begins h e = absurd (let t = h refl in cc)
packed_begins (x ∷ head) packed new b begins h e = begins

pub packed_more : (old values new digits : List ℕ) → new ≡ old ++ values → Some values ≡ unhex digits → hex new ≡ hex old ++ digits
packed_more old values new digits e f =
    ap hex e ∙ hex_append old values ∙ ap (λ (x : List ℕ). hex old ++ x) (sym (unhex_takes digits values (sym f)).0)

are_bytes : (digits values : List ℕ) → Some values ≡ unhex digits → AreLineBytes values
are_bytes digits values f = All-from_recursion _ _ (unhex_takes digits values (sym f)).1

pub bytes_more : (old values new digits : List ℕ) → AreLineBytes old → new ≡ old ++ values → Some values ≡ unhex digits → AreLineBytes new
bytes_more old values new digits h e f = rw e (All-append (λ (b : ℕ). b < 256) old values h (are_bytes digits values f))

-- ---- the first line

not_named : (n : ℕ) (more : List ℕ) → bytes_eq (take n (117 ∷ more)) (codes "cdstore") ≡ false
not_named zero more = refl
not_named (suc n) more = refl

left_wrong : (more : List ℕ) → header_left (117 ∷ more) ≡ Err (length (117 ∷ more))
unfolding header_left word_at cut literal
left_wrong more = rw (not_named (position_or_len is_blank (117 ∷ more)) more) refl

first_place : (more : List ℕ) (n : ℕ) → n ≡ 0 → slice_get (117 ∷ more) n ≡ Some 117
first_place more n e = rw e refl

pub header_wrong : (text tail : List ℕ) → IsUploading text → header_at (text ++ tail) ≡ Err (record { at = 0; found = Some 117 })
unfolding header_at
header_wrong text tail is =
    let line : text ++ tail ≡ 117 ∷ (is.0 ++ tail) = ap (λ (x : List ℕ). x ++ tail) is.1 in
    let none : length (117 ∷ (is.0 ++ tail)) - length (117 ∷ (is.0 ++ tail)) ≡ 0 = omega arith in
    ap (λ (x : List ℕ). placed x (header_left x)) line ∙ ap (placed (117 ∷ (is.0 ++ tail))) (left_wrong (is.0 ++ tail)) ∙ rw none refl

-- ---- an upload

abbrev pub upload : UserId → List ℕ → Version → List ℕ → Event
upload user path version bytes = events.Upload user path version bytes

-- the text of an upload up to its last word
abbrev name_text : UserId → List ℕ → Version → List ℕ
name_text user path version = codes "upload" ++ (32 ∷ (decimal user.0 ++ (32 ∷ (hex path ++ (32 ∷ (decimal version.0 ++ (32 ∷ [])))))))

behind : (a x e : List ℕ) → a ++ (32 ∷ (x ++ e)) ≡ (a ++ (32 ∷ x)) ++ e
behind a x e = sym (append_assoc a (32 ∷ x) e)

behind_four : (a b c d e : List ℕ) → a ++ (32 ∷ (b ++ (32 ∷ (c ++ (32 ∷ (d ++ (32 ∷ e))))))) ≡ (a ++ (32 ∷ (b ++ (32 ∷ (c ++ (32 ∷ (d ++ (32 ∷ [])))))))) ++ e
behind_four a b c d e =
    ap (λ (t : List ℕ). a ++ (32 ∷ t)) (ap (λ (t : List ℕ). b ++ (32 ∷ t)) (ap (λ (t : List ℕ). c ++ (32 ∷ t)) (behind d [] e) ∙ behind c (d ++ (32 ∷ [])) e)
    ∙ behind b (c ++ (32 ∷ (d ++ (32 ∷ [])))) e) ∙ behind a (b ++ (32 ∷ (c ++ (32 ∷ (d ++ (32 ∷ [])))))) e

spelling_is : (user : UserId) (path : List ℕ) (version : Version) (bytes : List ℕ) → spelling (upload user path version bytes) ≡ name_text user path version ++ bytes_text bytes
spelling_is user path version bytes = behind_four (codes "upload") (decimal user.0) (hex path) (decimal version.0) (bytes_text bytes)

name_is : (shape : Shape) (jobs : ℕ) (head : List ℕ) (user : UserId) (path : List ℕ) (version : Version) → NamesUpload shape jobs head user path version → head ≡ name_text user path version
name_is shape jobs head user path version is = append_cancel_right head (name_text user path version) (45 ∷ []) (is.spelled ∙ spelling_is user path version [])

text_some : (bytes : List ℕ) → 0 < length bytes → bytes_text bytes ≡ hex bytes
text_some [] some = absurd (omega arith)
text_some (b ∷ bytes) some = refl

pub content_read : (shape : Shape) (jobs : ℕ) (head packed tail more : List ℕ) (user : UserId) (path : List ℕ) (version : Version) (bytes : List ℕ) → jobs < 2 ^ 64
    → NamesUpload shape jobs head user path version → AreLineBytes packed → Some more ≡ unhex tail → bytes ≡ packed ++ more → (0 < length packed + length more) × (length packed + length more ≤ file_limit)
    → event_at shape jobs ((head ++ hex packed) ++ tail) ≡ Ok (upload user path version bytes)
content_read shape jobs head packed tail more user path version bytes small named are f e len =
    let long : length bytes ≡ length packed + length more = ap length e ∙ length-append packed more in
    let some : 0 < length bytes = omega arith in
    let all : AreLineBytes bytes = bytes_more packed more bytes tail are e f in
    let text : hex bytes ≡ hex packed ++ tail = packed_more packed more bytes tail e f in
    let line : (head ++ hex packed) ++ tail ≡ spelling (upload user path version bytes) =
    append_assoc head (hex packed) tail ∙ ap (λ (x : List ℕ). head ++ x) (sym text) ∙ ap (λ (x : List ℕ). x ++ hex bytes) (name_is shape jobs head user path version named)
    ∙ ap (λ (x : List ℕ). name_text user path version ++ x) (sym (text_some bytes some)) ∙ sym (spelling_is user path version bytes) in
    let typed = named.typed in
    (event_law shape jobs small ((head ++ hex packed) ++ tail) (upload user path version bytes)).1 (record {
      fits = record { allowed = named.fits.allowed; named = named.fits.named; few = omega arith };
      typed = (typed.0, typed.1, typed.2, all);
      spelled = line;
    })

-- with a dash in place of the content
pub named_by : (shape : Shape) (jobs : ℕ) (head text : List ℕ) (user : UserId) (path : List ℕ) (version : Version) (bytes : List ℕ) → jobs < 2 ^ 64
    → text ≡ head ++ 45 ∷ [] → event_at shape jobs text ≡ Ok (upload user path version bytes) → bytes ≡ [] → NamesUpload shape jobs head user path version
named_by shape jobs head text user path version bytes small is reads none =
    subst (λ (x : List ℕ). IsLine shape jobs x (upload user path version [])) is
    (subst (λ (b : List ℕ). IsLine shape jobs text (upload user path version b)) none ((event_law shape jobs small text (upload user path version bytes)).0 reads))

-- what was read is in its ranges
pub fits_by : (shape : Shape) (jobs : ℕ) → jobs < 2 ^ 64 → (line : List ℕ) (r : Result Event ScriptErr) → ReadsScript r (event_at shape jobs line) → IfOk r (FitsEvent shape jobs)
fits_by shape jobs lt line (Ok event) reads = ((event_law shape jobs lt line event).0 reads).fits
fits_by shape jobs lt line (Err e) reads = tt
