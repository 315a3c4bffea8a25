-- Bytes are a reply exactly where they are its spelling.
use Rattle.std.proofs.Common.{◌≡◌, ℕ, ◌<◌, ◌≤◌, ◌^◌, true, eqb, List, [], ◌∷◌, ◌++◌, length, Option, Some, None, Ok, refl, sym, ap, ◌∙◌, inl, inr, arith, eqb-true}
use Rattle.std.proofs.lemmas.Bool.{leb-true, le-leb}
use Rattle.std.specs.Int.{w16, w32, w64, to_be_bytes}
use Rattle.message_fields.specs.CdBase.rooms.Room.{Room}
use Rattle.message_fields.specs.CdBase.rooms.Room.TheVariants as rooms
use Rattle.message_fields.specs.Grammar.Readers.{done_at}
use Rattle.message_fields.proofs.Grammar.Laws.{Whole, lawful_then, lawful_whole}
use Rattle.message_fields.proofs.Grammar.FieldLaws.{IsBytes, Anything, LawfulBytes, lawful_bytes, lawful_checked, wide16}
use Rattle.message_fields.specs.Parts.{byte_as}
use Rattle.message_fields.specs.Flags.{flags_bytes, AreFlags}
use Rattle.message_fields.specs.Shares.{shares_bytes, AreShares}
use Rattle.message_fields.specs.Keys.{entries_bytes, AreEntryKeys}
use Rattle.message_fields.proofs.PartLaws.{bytes_tail, lawful_byte, lawful_u16, lawful_u32, lawful_u64, picked}
use Rattle.message_fields.proofs.ShareLaws.{lawful_shares, lawful_flags}
use Rattle.message_fields.proofs.KeyLaws.{lawful_entries}
use Rattle.messages.specs.declared.reply.Reply.{Reply}
use Rattle.messages.specs.declared.reply.Reply.TheVariants as replies
use Rattle.messages.specs.Replies.{room_number, reply_bytes, FitsReply, IsReply}
use Rattle.messages.specs.ReplyReading.{format_of, room_of, is_new_count, hello_left, known_left, stored_left, lacking_left, recipe_left, shares_left, not_yours_left, entries_left, full_left, damaged_left, rotten_left, malformed_left, plain_left, reply_fields_left, reply_left, reply_at}
use Rattle.messages.specs.Parts.{placed}
use Rattle.messages.proofs.ByKind.{whole_done, whole_some, kind_takes, placed_ok}

-- ---- bytes with a meaning

some_is : {A : Type 0} (x y : A) → Some x ≡ Some y → x ≡ y
some_is x y e = cc

any_byte : LawfulBytes (byte_as Some) (λ x. x ∷ []) (λ x. x < 256)
any_byte = lawful_byte Some (λ x. x) (λ x. x < 256) (λ b x lt e. let same = some_is b x e in (sym same, omega arith)) (λ x lt. refl)

abbrev some_byte : ℕ → Option ℕ
some_byte b = Some b

format_cases : (b x : ℕ) → format_of b ≡ Some x → (x ≡ b) × (x ≡ 1)
format_cases b x e =
    elim (picked (eqb b 1) (some_byte b) None (some_byte x) e) [
      | inl h ↦ let same = some_is b x h.1 in let one = eqb-true b 1 h.0 in (sym same, omega arith)
      | inr h ↦ absurd (let k = h.1 in cc)
    ]

format_again : (x : ℕ) → x ≡ 1 → format_of x ≡ Some x
format_again x e = rw e refl

format_byte : LawfulBytes (byte_as format_of) (λ x. x ∷ []) (λ x. x ≡ 1)
format_byte = lawful_byte format_of (λ x. x) (λ x. x ≡ 1) (λ b x lt e. format_cases b x e) format_again

abbrev some_room : Room → Option Room
some_room r = Some r

room_is : (b n : ℕ) (r room : Room) → eqb b n ≡ true → Some r ≡ Some room → room_number r ≡ n → room_number room ≡ b
room_is b n r room t e number = ap room_number (sym (some_is r room e)) ∙ number ∙ sym (eqb-true b n t)

room_cases : (b : ℕ) (room : Room) → room_of b ≡ Some room → room_number room ≡ b
room_cases b room e =
    elim (picked (eqb b 1) (some_room rooms.Shares) _ (Some room) e) [
      | inl h ↦ room_is b 1 rooms.Shares room h.0 h.1 refl
      | inr t1 ↦ elim (picked (eqb b 2) (some_room rooms.Recipes) _ (Some room) t1.1) [
        | inl h ↦ room_is b 2 rooms.Recipes room h.0 h.1 refl
        | inr t2 ↦ elim (picked (eqb b 3) (some_room rooms.Journal) _ (Some room) t2.1) [
          | inl h ↦ room_is b 3 rooms.Journal room h.0 h.1 refl
          | inr t3 ↦ elim (picked (eqb b 4) (some_room rooms.Fps) _ (Some room) t3.1) [
            | inl h ↦ room_is b 4 rooms.Fps room h.0 h.1 refl
            | inr t4 ↦ elim (picked (eqb b 5) (some_room rooms.Owners) _ (Some room) t4.1) [
              | inl h ↦ room_is b 5 rooms.Owners room h.0 h.1 refl
              | inr t5 ↦ elim (picked (eqb b 6) (some_room rooms.Files) _ (Some room) t5.1) [
                | inl h ↦ room_is b 6 rooms.Files room h.0 h.1 refl
                | inr t6 ↦ absurd (let k = t6.1 in cc)
              ]
            ]
          ]
        ]
      ]
    ]

room_again : (room : Room) → room_of (room_number room) ≡ Some room
room_again rooms.Shares = refl
room_again rooms.Recipes = refl
room_again rooms.Journal = refl
room_again rooms.Fps = refl
room_again rooms.Owners = refl
room_again rooms.Files = refl

room_byte : LawfulBytes (byte_as room_of) (λ room. room_number room ∷ []) (λ _. Unit {0})
room_byte = lawful_byte room_of room_number (λ _. Unit {0}) (λ b room lt e. (room_cases b room e, tt)) (λ room fits. room_again room)

-- ---- the kinds

hello_laws : Whole IsBytes {A = ℕ × (ℕ × (ℕ × ℕ))} hello_left (λ x. replies.Hello x.0 x.1.0 x.1.1.0 x.1.1.1) (λ x. (x.0 ∷ []) ++ ((x.1.0 ∷ []) ++ ((x.1.1.0 ∷ []) ++ (x.1.1.1 ∷ [])))) (λ x. (x.0 < 256) × ((x.1.0 < 256) × ((x.1.1.0 < 256) × (x.1.1.1 ≡ 1))))
unfolding hello_left
hello_laws = lawful_whole IsBytes Anything tt (lawful_then IsBytes Anything any_byte (lawful_then IsBytes Anything any_byte (lawful_then IsBytes Anything any_byte format_byte))) (λ x. replies.Hello x.0 x.1.0 x.1.1.0 x.1.1.1)

known_laws : Whole IsBytes known_left replies.Known flags_bytes AreFlags
unfolding known_left
known_laws = lawful_whole IsBytes Anything tt lawful_flags replies.Known

small_new : (n : ℕ) → is_new_count n ≡ true → n < 2 ^ 16
small_new n e = let le = leb-true n 256 e in omega arith

stored_laws : Whole IsBytes {A = ℕ} stored_left replies.Stored (λ n. to_be_bytes w16 n) (λ n. is_new_count n ≡ true)
unfolding stored_left
stored_laws = lawful_whole IsBytes Anything tt (lawful_checked is_new_count wide16 small_new) replies.Stored

lacking_laws : Whole IsBytes {A = ℕ} lacking_left replies.Lacking (λ n. to_be_bytes w32 n) (λ n. n < 2 ^ 32)
unfolding lacking_left
lacking_laws = lawful_whole IsBytes Anything tt lawful_u32 replies.Lacking

recipe_laws : Whole IsBytes {A = List ℕ} recipe_left replies.Recipe (λ bytes. bytes) (λ bytes. 1 ≤ length bytes)
unfolding recipe_left
recipe_laws = whole_some replies.Recipe

shares_laws : Whole IsBytes shares_left replies.Shares shares_bytes AreShares
unfolding shares_left
shares_laws = lawful_whole IsBytes Anything tt lawful_shares replies.Shares

not_yours_laws : Whole IsBytes {A = ℕ} not_yours_left replies.NotYours (λ n. to_be_bytes w16 n) (λ n. n < 2 ^ 16)
unfolding not_yours_left
not_yours_laws = lawful_whole IsBytes Anything tt lawful_u16 replies.NotYours

entries_laws : Whole IsBytes entries_left replies.Entries entries_bytes AreEntryKeys
unfolding entries_left
entries_laws = lawful_whole IsBytes Anything tt lawful_entries replies.Entries

full_laws : Whole IsBytes {A = Room × (ℕ × (ℕ × ℕ))} full_left (λ x. replies.Full x.0 x.1.0 x.1.1.0 x.1.1.1) (λ x. (room_number x.0 ∷ []) ++ (to_be_bytes w64 x.1.0 ++ (to_be_bytes w64 x.1.1.0 ++ to_be_bytes w64 x.1.1.1))) (λ x. Unit {0} × ((x.1.0 < 2 ^ 64) × ((x.1.1.0 < 2 ^ 64) × (x.1.1.1 < 2 ^ 64))))
unfolding full_left
full_laws = lawful_whole IsBytes Anything tt (lawful_then IsBytes Anything room_byte (lawful_then IsBytes Anything lawful_u64 (lawful_then IsBytes Anything lawful_u64 lawful_u64))) (λ x. replies.Full x.0 x.1.0 x.1.1.0 x.1.1.1)

damaged_laws : Whole IsBytes {A = ℕ × ℕ} damaged_left (λ x. replies.Damaged x.0 x.1) (λ x. to_be_bytes w64 x.0 ++ x.1 ∷ []) (λ x. (x.0 < 2 ^ 64) × (x.1 < 256))
unfolding damaged_left
damaged_laws = lawful_whole IsBytes Anything tt (lawful_then IsBytes Anything lawful_u64 any_byte) (λ x. replies.Damaged x.0 x.1)

rotten_laws : Whole IsBytes {A = List ℕ × List ℕ} rotten_left (λ x. replies.Rotten (record { 0 = x.0 }) (record { 0 = x.1 })) (λ x. x.0 ++ x.1) (λ x. (length x.0 ≡ 32) × (length x.1 ≡ 32))
unfolding rotten_left
rotten_laws = lawful_whole IsBytes Anything tt (lawful_then IsBytes Anything (lawful_bytes 32) (lawful_bytes 32)) (λ x. replies.Rotten (record { 0 = x.0 }) (record { 0 = x.1 }))

malformed_laws : Whole IsBytes {A = ℕ} malformed_left replies.Malformed (λ n. to_be_bytes w32 n) (λ n. n < 2 ^ 32)
unfolding malformed_left
malformed_laws = lawful_whole IsBytes Anything tt lawful_u32 replies.Malformed

abbrev Took : ℕ → List ℕ → Reply → Type 0
Took kind fields r = FitsReply r × (kind ∷ fields ≡ reply_bytes r)

bare_takes : (number kind : ℕ) (reply : Reply) (fields : List ℕ) (r : Reply) → FitsReply reply → number ∷ [] ≡ reply_bytes reply → IsBytes fields → eqb kind number ≡ true → done_at reply fields ≡ Ok r → Took kind fields r
bare_takes number kind reply fields r fits spelled known is e = kind_takes (whole_done reply) FitsReply reply_bytes number kind (λ x f. (fits, spelled)) fields r known is e

plain_take : (kind : ℕ) (fields : List ℕ) (r : Reply) → IsBytes fields → plain_left kind fields ≡ Ok r → Took kind fields r
unfolding plain_left
plain_take kind fields r known e =
    elim (picked (eqb kind 0x81) (hello_left fields) _ (Ok r) e) [
      | inl h ↦ kind_takes hello_laws FitsReply reply_bytes 0x81 kind (λ x fits. (fits, refl)) fields r known h.0 h.1
      | inr t1 ↦ elim (picked (eqb kind 0x83) (stored_left fields) _ (Ok r) t1.1) [
        | inl h ↦ kind_takes stored_laws FitsReply reply_bytes 0x83 kind (λ x fits. (leb-true x 256 fits, refl)) fields r known h.0 h.1
        | inr t2 ↦ elim (picked (eqb kind 0x84) (done_at replies.Committed fields) _ (Ok r) t2.1) [
          | inl h ↦ bare_takes 0x84 kind replies.Committed fields r tt refl known h.0 h.1
          | inr t3 ↦ elim (picked (eqb kind 0x85) (done_at replies.Exists fields) _ (Ok r) t3.1) [
            | inl h ↦ bare_takes 0x85 kind replies.Exists fields r tt refl known h.0 h.1
            | inr t4 ↦ elim (picked (eqb kind 0x86) (lacking_left fields) _ (Ok r) t4.1) [
              | inl h ↦ kind_takes lacking_laws FitsReply reply_bytes 0x86 kind (λ x fits. (fits, refl)) fields r known h.0 h.1
              | inr t5 ↦ elim (picked (eqb kind 0x88) (done_at replies.Missing fields) _ (Ok r) t5.1) [
                | inl h ↦ bare_takes 0x88 kind replies.Missing fields r tt refl known h.0 h.1
                | inr t6 ↦ elim (picked (eqb kind 0x8A) (not_yours_left fields) _ (Ok r) t6.1) [
                  | inl h ↦ kind_takes not_yours_laws FitsReply reply_bytes 0x8A kind (λ x fits. (fits, refl)) fields r known h.0 h.1
                  | inr t7 ↦ elim (picked (eqb kind 0x8C) (full_left fields) _ (Ok r) t7.1) [
                    | inl h ↦ kind_takes full_laws FitsReply reply_bytes 0x8C kind (λ x fits. (fits, refl)) fields r known h.0 h.1
                    | inr t8 ↦ elim (picked (eqb kind 0x8D) (done_at replies.Fault fields) _ (Ok r) t8.1) [
                      | inl h ↦ bare_takes 0x8D kind replies.Fault fields r tt refl known h.0 h.1
                      | inr t9 ↦ elim (picked (eqb kind 0x8E) (damaged_left fields) _ (Ok r) t9.1) [
                        | inl h ↦ kind_takes damaged_laws FitsReply reply_bytes 0x8E kind (λ x fits. (fits, refl)) fields r known h.0 h.1
                        | inr t10 ↦ elim (picked (eqb kind 0x8F) (rotten_left fields) _ (Ok r) t10.1) [
                          | inl h ↦ kind_takes rotten_laws FitsReply reply_bytes 0x8F kind (λ x fits. (fits, refl)) fields r known h.0 h.1
                          | inr t11 ↦ elim (picked (eqb kind 0x90) (malformed_left fields) _ (Ok r) t11.1) [
                            | inl h ↦ kind_takes malformed_laws FitsReply reply_bytes 0x90 kind (λ x fits. (fits, refl)) fields r known h.0 h.1
                            | inr t12 ↦ elim (picked (eqb kind 0x91) (done_at replies.NoMemory fields) _ (Ok r) t12.1) [
                              | inl h ↦ bare_takes 0x91 kind replies.NoMemory fields r tt refl known h.0 h.1
                              | inr t13 ↦ elim (picked (eqb kind 0x92) (done_at replies.Deleted fields) _ (Ok r) t13.1) [
                                | inl h ↦ bare_takes 0x92 kind replies.Deleted fields r tt refl known h.0 h.1
                                | inr t14 ↦ absurd (let k = t14.1 in cc)
                              ]
                            ]
                          ]
                        ]
                      ]
                    ]
                  ]
                ]
              ]
            ]
          ]
        ]
      ]
    ]

fields_take : (kind : ℕ) (fields : List ℕ) (r : Reply) → IsBytes fields → reply_fields_left kind fields ≡ Ok r → Took kind fields r
unfolding reply_fields_left
fields_take kind fields r known e =
    elim (picked (eqb kind 0x82) (known_left fields) _ (Ok r) e) [
      | inl h ↦ kind_takes known_laws FitsReply reply_bytes 0x82 kind (λ x fits. (fits, refl)) fields r known h.0 h.1
      | inr t1 ↦ elim (picked (eqb kind 0x87) (recipe_left fields) _ (Ok r) t1.1) [
        | inl h ↦ kind_takes recipe_laws FitsReply reply_bytes 0x87 kind (λ x fits. (fits, refl)) fields r known h.0 h.1
        | inr t2 ↦ elim (picked (eqb kind 0x89) (shares_left fields) _ (Ok r) t2.1) [
          | inl h ↦ kind_takes shares_laws FitsReply reply_bytes 0x89 kind (λ x fits. (fits, refl)) fields r known h.0 h.1
          | inr t3 ↦ elim (picked (eqb kind 0x8B) (entries_left fields) _ (Ok r) t3.1) [
            | inl h ↦ kind_takes entries_laws FitsReply reply_bytes 0x8B kind (λ x fits. (fits, refl)) fields r known h.0 h.1
            | inr t4 ↦ plain_take kind fields r known t4.1
          ]
        ]
      ]
    ]

takes : (bytes : List ℕ) (r : Reply) → IsBytes bytes → reply_left bytes ≡ Ok r → FitsReply r × (bytes ≡ reply_bytes r)
unfolding reply_left
takes [] r known e = absurd cc
takes (kind ∷ fields) r known e = fields_take kind fields r (bytes_tail kind fields known) e

again : (r : Reply) → FitsReply r → reply_left (reply_bytes r) ≡ Ok r
unfolding reply_left reply_fields_left plain_left
again (replies.Hello n k cloud format) fits = hello_laws.again (n, (k, (cloud, format))) fits
again (replies.Known flags) fits = known_laws.again flags fits
again (replies.Stored new) fits = stored_laws.again new (le-leb new 256 fits)
again replies.Committed fits = refl
again replies.Exists fits = refl
again (replies.Lacking place) fits = lacking_laws.again place fits
again (replies.Recipe bytes) fits = recipe_laws.again bytes fits
again replies.Missing fits = refl
again (replies.Shares shares) fits = shares_laws.again shares fits
again (replies.NotYours place) fits = not_yours_laws.again place fits
again (replies.Entries entries) fits = entries_laws.again entries fits
again (replies.Full room used need limit) fits = full_laws.again (room, (used, (need, limit))) fits
again replies.Fault fits = refl
again (replies.Damaged at byte) fits = damaged_laws.again (at, byte) fits
again (replies.Rotten named found) fits = rotten_laws.again (named.0, found.0) fits
again (replies.Malformed at) fits = malformed_laws.again at fits
again replies.NoMemory fits = refl
again replies.Deleted fits = refl

-- bytes are a reply exactly where they are its spelling
pub reply_law : (bytes : List ℕ) (r : Reply) → IsBytes bytes → (reply_at bytes ≡ Ok r → IsReply bytes r) × (IsReply bytes r → reply_at bytes ≡ Ok r)
unfolding reply_at
reply_law bytes r known = (
  λ e. let t = takes bytes r known (placed_ok bytes (reply_left bytes) r e) in record { fits = t.0; spelled = t.1 },
  λ h. ap (placed bytes) (ap reply_left h.spelled ∙ again r h.fits),
)
