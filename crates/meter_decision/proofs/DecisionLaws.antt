-- Laws of the decision: how the checks fail, and what those of 14 say.
use Rattle.std.specs.Prelude.{ℕ, ◌≤◌, ◌≡◌, refl, List, Bool, true, false, length, Some}
use Rattle.frame.specs.declared.refusal.Refusal.TheVariants.{SilentByRule}
use Rattle.laws.specs.ChecksLaws.{AllHold, EachFailure, pass_or_any}
use Rattle.laws.specs.Words.{Every}
use Rattle.laws.specs.WordsLaws.{all_every}
use Rattle.item_decimal.specs.Decimal.{Decimal}
use Rattle.item_identifier.specs.Identifier.{identifier_of}
use Rattle.item_command.specs.declared.Command.{Command}
use Rattle.item_command.specs.declared.Command.TheVariants.{ReadData, ReadAddress, WriteData, WriteAddress, ChangePassword}
use Rattle.item.proofs.ContentLaws.{Range}
use Rattle.item.specs.Table.{item_of}
use Rattle.item.specs.declared.table.Item.{Item}
use Rattle.meter_decision.specs.Request.{level_of, password_of, written_value, new_level_of}
use Rattle.meter_decision.specs.Decision.{Failure, error_byte, silence, password_at, checks_of, failing, accepted, decided}
use Rattle.meter_decision.specs.DecisionWords.{words_of}
use Rattle.meter_decision.proofs.DecisionWordsLaws.{write_says}
use Rattle.meter_decision.specs.declared.Decision.{Decision}
use Rattle.meter_decision.specs.declared.Decision.TheVariants.{Silent, Error, Read, OwnAddress, Write, NewAddress, NewPassword}

-- A failing 13 or 15 is silent by rule, any other command is answered with an error byte.
abbrev pub fails_silently : Command → Bool
fails_silently ReadData = false
fails_silently ReadAddress = true
fails_silently WriteData = false
fails_silently WriteAddress = true
fails_silently ChangePassword = false

abbrev pub FailsAs : Command → Failure → Type 0
FailsAs command (error_byte e) = fails_silently command ≡ false
FailsAs command (silence n) = (fails_silently command ≡ true) × (n ≡ SilentByRule)

pub checks-fail : (command : Command) (payload : List ℕ) (key : Bool) (passwords : List ℕ)
    → EachFailure (FailsAs command) (checks_of command payload key passwords)
unfolding checks_of
checks-fail ReadData payload key passwords = search
checks-fail ReadAddress payload key passwords = search
checks-fail WriteData payload key passwords = search depth 9
checks-fail WriteAddress payload key passwords = search
checks-fail ChangePassword payload key passwords = search depth 9

-- What a decision to carry out says: its command, what it names, and that every check holds.
abbrev pub Carries : Command → List ℕ → Bool → List ℕ → Decision → Type 0
Carries command payload key passwords (Silent n) = Unit
Carries command payload key passwords (Error e) = Unit
Carries command payload key passwords (Read identifier) =
    (command ≡ ReadData) × (identifier ≡ identifier_of payload) × AllHold (checks_of ReadData payload key passwords)
Carries command payload key passwords OwnAddress = (command ≡ ReadAddress) × AllHold (checks_of ReadAddress payload key passwords)
Carries command payload key passwords (Write identifier) =
    (command ≡ WriteData) × (identifier ≡ identifier_of payload) × AllHold (checks_of WriteData payload key passwords)
Carries command payload key passwords NewAddress = (command ≡ WriteAddress) × AllHold (checks_of WriteAddress payload key passwords)
Carries command payload key passwords (NewPassword level) =
    (command ≡ ChangePassword) × (level ≡ new_level_of payload) × AllHold (checks_of ChangePassword payload key passwords)

pub carries : (command : Command) (payload : List ℕ) (key : Bool) (passwords : List ℕ)
    → Carries command payload key passwords (decided command payload key passwords)
unfolding decided
carries command payload key passwords =
    pass_or_any failing (accepted command payload) (Carries command payload key passwords) (checks_of command payload key passwords) (pass command) fail
  where
    pass : (command : Command) → AllHold (checks_of command payload key passwords) → Carries command payload key passwords (accepted command payload)
    pass ReadData h = (refl, refl, h)
    pass ReadAddress h = (refl, h)
    pass WriteData h = (refl, refl, h)
    pass WriteAddress h = (refl, h)
    pass ChangePassword h = (refl, refl, h)

    fail : (f : Failure) → Carries command payload key passwords (failing f)
    fail (error_byte e) = tt
    fail (silence n) = tt

-- What the checks of 14 say.
pub record WriteHolds (payload : List ℕ) (key : Bool) (passwords : List ℕ) : Type 0 where
  pub least : 12 ≤ length payload
  pub most : length payload ≤ 50
  pub item : Item
  pub listed : item_of (identifier_of payload) ≡ Some item
  pub writable : item.writable ≡ true
  pub key_on_lem : key ≡ true
  pub level : level_of payload ≤ 4
  pub password : password_of payload ≡ password_at (level_of payload) passwords
  pub data_length : length (written_value payload) ≡ item.length
  pub decimal : Decimal (written_value payload)
  pub range : Range item.kind (written_value payload)

-- They are the row of 14 in document 01's words, each by its name.
module _ (payload : List ℕ) (key : Bool) (passwords : List ℕ) where
  abbrev pub write_row : Every (words_of WriteData payload key passwords) → WriteHolds payload key passwords
  write_row r =
      let item = r.1.0 in
      let authority = r.1.1.1.1 in
      record {
        least = r.0.0;
        most = r.0.1;
        item = item.0;
        listed = item.1;
        writable = r.1.1.0;
        key_on_lem = r.1.1.1.0;
        level = authority.0.0;
        password = authority.0.1;
        data_length = authority.1.0;
        decimal = authority.1.1.0.0;
        range = authority.1.1.0.1;
      }

  pub row_write : WriteHolds payload key passwords → Every (words_of WriteData payload key passwords)
  row_write w =
      ((w.least, w.most), ((w.item, w.listed), (w.writable, (w.key_on_lem, ((w.level, w.password), (w.data_length, ((w.decimal, w.range), tt)))))))

-- They hold exactly where every check of 14 does.
module _ (payload : List ℕ) (key : Bool) (passwords : List ℕ) where
  pub write_holds : AllHold (checks_of WriteData payload key passwords) → WriteHolds payload key passwords
  write_holds h =
      write_row payload key passwords
      ((all_every (checks_of WriteData payload key passwords) (words_of WriteData payload key passwords) (write_says payload key passwords)).0 h)
