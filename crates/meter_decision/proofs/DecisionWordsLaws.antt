-- The checks of each control say document 01's words, so that a decision is a failure exactly where its words are the first that do not
-- hold, and the command is carried out exactly where every one holds.
use Rattle.std.specs.Prelude.{ℕ, ◌+◌, ◌*◌, ◌≤◌, ◌≡◌, List, [], ◌∷◌, Bool, false, ◌↔◌, length, take, eqb, Err, None, Ok, Option, Result, Some}
use Rattle.item.specs.declared.content.ContentError.{ContentError}
use Rattle.item.specs.declared.content.ContentError.TheVariants.{NotDecimal, NotWritable, OutOfRange, WrongLength}
use Rattle.item.specs.declared.table.Item.{Item}
use Rattle.std.proofs.Math.Path.{refl}
use Rattle.std.proofs.Common.{sym, ◌∙◌, ap, inl, inr, arith}
use Rattle.std.proofs.Math.Bool.{true, and-eq-true_iff}
use Rattle.std.proofs.lemmas.Bool.{false≢true}
use mathlib.Core.Logic.Iff
use borrow.Author.Tests.{leb-true, le-leb, eqb-true, eq-eqb}
use Rattle.laws.specs.Memory.{Bytes}
use Rattle.laws.specs.Words.{Every, FirstFails, Say}
use Rattle.laws.specs.WordsLaws.{passed-iff, failed-iff}
use Rattle.item_address.proofs.AddressLaws.{good, is_good_lem}
use Rattle.item_command.specs.declared.Command.{Command}
use Rattle.item_command.specs.declared.Command.TheVariants.{ReadData, ReadAddress, WriteData, WriteAddress, ChangePassword}
use Rattle.item_decimal.specs.Decimal.{Decimal}
use Rattle.item_decimal.proofs.DecimalLaws.{all-decimal, decimal-all}
use Rattle.item_identifier.specs.Identifier.{identifier_of}
use Rattle.item_identifier.proofs.IdentifierLaws.{identifier-iff}
use Rattle.item_same.specs.SameLaws.{same-equal, equal-same}
use Rattle.item_range.proofs.RangeLaws.{within-iff}
use Rattle.item.specs.Content.{content_is_allowed}
use Rattle.item.proofs.ContentLaws.{Range, content-allowed}
use Rattle.item.specs.Table.{item_of, has_length}
use Rattle.meter_decision.specs.Request.{item_asked, level_of, password_of, written_value, new_level_of}
use Rattle.meter_decision.specs.Decision.{Failure, error_byte, silence, is_listed, is_writable, has_content, authorised, names_password, checks_of, failing, accepted, decided}
use Rattle.meter_decision.specs.DecisionWords.{NamesItem, NamesPassword, RightPassword, words_of}
use Rattle.meter_decision.specs.declared.Decision.{Decision}
use Rattle.meter_decision.specs.declared.Decision.TheVariants as decision

-- A test of equal numbers.
eqb_iff : (a b : ℕ) → (eqb a b ≡ true) ↔ (a ≡ b)
eqb_iff a b = (eqb-true a b, eq-eqb a b)

-- The test of a content holds only of what is allowed.
allowed : (c : Result Unit ContentError) → content_is_allowed c ≡ true → c ≡ Ok tt
allowed (Ok tt) h = refl
allowed (Err NotWritable) h = absurd (false≢true h)
allowed (Err WrongLength) h = absurd (false≢true h)
allowed (Err (NotDecimal i)) h = absurd (false≢true h)
allowed (Err OutOfRange) h = absurd (false≢true h)

module _ (payload : List ℕ) where
  -- The identifier is in the table.
  names-item : (is_listed (item_asked payload) ≡ true) ↔ NamesItem payload
  unfolding item_asked
  names-item = (from-test (item_of (identifier_of payload)) refl, λ named. rw named.1)
    where
      from-test : (l : Option Item) → item_of (identifier_of payload) ≡ l → is_listed l ≡ true → NamesItem payload
      from-test (Some item) e h = (item, e)
      from-test None e h = absurd (false≢true h)

  -- What is asked of the item named.
  module _ (named : NamesItem payload) where
    is_writable_lem : (is_writable (item_asked payload) ≡ true) ↔ (named.0.writable ≡ true)
    unfolding item_asked
    is_writable_lem = rw named.1 Iff.rfl

    is_as_long : (has_length (item_asked payload) (length (written_value payload)) ≡ true) ↔ (length (written_value payload) ≡ named.0.length)
    unfolding item_asked
    is_as_long = rw named.1 (eqb_iff _ _)

    is_allowed_lem : named.0.writable ≡ true → length (written_value payload) ≡ named.0.length
        → (has_content (item_asked payload) (written_value payload) ≡ true) ↔ (Decimal (written_value payload) × Range named.0.kind (written_value payload))
    unfolding item_asked
    is_allowed_lem writable long = rw named.1 (
      λ h. let content = (content-allowed named.0 (written_value payload)).0 (allowed _ h) in (content.2, content.3),
      λ right. rw ((content-allowed named.0 (written_value payload)).1 (writable, long, right.0, right.1)),
    )

  -- The level and its password.
  pub right-password : (most : ℕ) (passwords : List ℕ)
      → (authorised most (level_of payload) (password_of payload) passwords ≡ true) ↔ RightPassword most payload passwords
  unfolding authorised
  right-password most passwords = (
    λ h. let both = (and-eq-true_iff _ _).0 h in (leb-true _ _ both.0, same-equal _ _ both.1),
    λ r. (and-eq-true_iff _ _).1 (le-leb _ _ r.0, equal-same _ _ r.1),
  )

  -- The bytes of a password's identifier.
  names-password : length payload ≡ 12 → Bytes payload
      → (names_password (identifier_of payload) (new_level_of payload) ≡ true) ↔ NamesPassword payload
  unfolding names_password
  names-password twelve bytes = (
    λ h. let both = (and-eq-true_iff _ _).0 h in
        let most : new_level_of payload ≤ 9 = leb-true _ _ both.0 in
        let same : identifier_of payload ≡ 0x04000C01 + new_level_of payload = eqb-true _ _ both.1 in
        (most, (bytes-iff most).0 (omega arith)),
    λ named. let same : identifier_of payload ≡ 0x04000C01 + new_level_of payload = omega (arith, (bytes-iff named.0).1 named.1) in
        (and-eq-true_iff _ _).1 (le-leb _ _ named.0, eq-eqb _ _ same),
  )
    where
      bytes-iff : new_level_of payload ≤ 9
          → (identifier_of payload ≡ 0x1000000 * 0x04 + 0x10000 * 0x00 + 0x100 * 0x0C + (new_level_of payload + 1))
          ↔ (take 4 payload ≡ (new_level_of payload + 1) ∷ 0x0C ∷ 0x00 ∷ 0x04 ∷ [])
      bytes-iff most = identifier-iff payload bytes (omega arith) (new_level_of payload + 1) 0x0C 0x00 0x04 (omega arith)

-- The checks of 14 say document 01's words, whatever the data are.
pub write_says : (payload : List ℕ) (key : Bool) (passwords : List ℕ)
    → Say (checks_of WriteData payload key passwords) (words_of WriteData payload key passwords)
unfolding checks_of
write_says payload key passwords = (
  within-iff 12 50 _,
  refl,
  λ _. (
    names-item payload,
    refl,
    λ named. (
      is_writable_lem payload named,
      refl,
      λ writable. (
        Iff.rfl,
        refl,
        λ _. (right-password payload 4 passwords, refl, λ _. (is_as_long payload named, refl, λ long. (is_allowed_lem payload named writable long, refl, λ _. tt))),
      ),
    ),
  ),
)

-- The checks of each control say document 01's words.
pub checks_say : (command : Command) (payload : List ℕ) (key : Bool) (passwords : List ℕ) → Bytes payload
    → Say (checks_of command payload key passwords) (words_of command payload key passwords)
unfolding checks_of
checks_say ReadData payload key passwords bytes = (eqb_iff _ _, refl, λ _. (names-item payload, refl, λ _. tt))
checks_say ReadAddress payload key passwords bytes = (eqb_iff _ _, refl, λ _. tt)
checks_say WriteAddress payload key passwords bytes =
    (eqb_iff _ _, refl, λ _. (Iff.rfl, refl, λ _. ((good payload, is_good_lem payload), refl, λ _. tt)))
checks_say WriteData payload key passwords bytes = write_says payload key passwords
checks_say ChangePassword payload key passwords bytes = (
  eqb_iff _ _,
  refl,
  λ twelve. (
    names-password payload twelve bytes,
    refl,
    λ _. (
      Iff.rfl,
      refl,
      λ _. (right-password payload (new_level_of payload) passwords, refl, λ _. ((all-decimal _, decimal-all _), refl, λ _. tt)),
    ),
  ),
)

-- A decision to carry out is no failure, and failures differ by what they are.
abbrev carries_out : Decision → Bool
carries_out (decision.Silent n) = false
carries_out (decision.Error e) = false
carries_out (decision.Read identifier) = true
carries_out decision.OwnAddress = true
carries_out (decision.Write identifier) = true
carries_out decision.NewAddress = true
carries_out (decision.NewPassword level) = true

accepted-apart : (command : Command) (payload : List ℕ) (f : Failure) → failing f ≡ accepted command payload → ⊥
accepted-apart command payload f e = false≢true (sym (failure f) ∙ ap carries_out e ∙ carried command)
  where
    failure : (f : Failure) → carries_out (failing f) ≡ false
    failure (error_byte e) = refl
    failure (silence n) = refl

    carried : (command : Command) → carries_out (accepted command payload) ≡ true
    carried ReadData = refl
    carried ReadAddress = refl
    carried WriteData = refl
    carried WriteAddress = refl
    carried ChangePassword = refl

failing-one : (f g : Failure) → failing f ≡ failing g → f ≡ g
failing-one (error_byte e) (error_byte f) h = cc
failing-one (error_byte e) (silence n) h = cc
failing-one (silence n) (error_byte e) h = cc
failing-one (silence n) (silence m) h = cc

-- Document 01: the first failing check answers; where every check holds, the command is carried out.
module _ (command : Command) (payload : List ℕ) (key : Bool) (passwords : List ℕ) (bytes : Bytes payload) where
  pub accepted-iff : (decided command payload key passwords ≡ accepted command payload) ↔ Every (words_of command payload key passwords)
  unfolding decided
  accepted-iff =
      passed-iff failing (accepted command payload) (accepted-apart command payload) failing-one _ _ (checks_say command payload key passwords bytes)

  pub fails-iff : (f : Failure) → (decided command payload key passwords ≡ failing f) ↔ FirstFails (words_of command payload key passwords) f
  unfolding decided
  fails-iff = failed-iff failing (accepted command payload) (accepted-apart command payload) failing-one _ _ (checks_say command payload key passwords bytes)

-- Where the key is off, or level or password wrong, a write of a writable item answers 04.
pub unauthorised_fails : (payload : List ℕ) (key : Bool) (passwords : List ℕ) → (12 ≤ length payload) × (length payload ≤ 50) → (named : NamesItem payload)
    → named.0.writable ≡ true → (key ≡ true → RightPassword 4 payload passwords → ⊥)
    → FirstFails (words_of WriteData payload key passwords) (error_byte 0x04)
unauthorised_fails payload true passwords lengths named writable missing = inr (lengths, inr (named, inr (writable, inr (refl, inl (missing refl, refl)))))
unauthorised_fails payload false passwords lengths named writable missing = inr (lengths, inr (named, inr (writable, inl (false≢true, refl))))
