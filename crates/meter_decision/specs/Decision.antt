-- Document 01, "How the meter treats a frame": the table of checks by control, and the decision that they lead to.
use Rattle.frame.specs.declared.refusal.Refusal.{Refusal}
use Rattle.std.specs.Prelude.{ℕ, ◌+◌, ◌*◌, List, [], ◌∷◌, Bool, true, false, ◌&&◌, length, leb, eqb, None, Option, Some}
use Rattle.frame.specs.declared.refusal.Refusal.TheVariants.{SilentByRule}
use Rattle.item.specs.declared.table.Item.{Item}
use Rattle.laws.specs.Part.{part}
use Rattle.laws.specs.Checks.{Check, check, first_failing}
use Rattle.item_address.specs.Address.{is_good}
use Rattle.item_command.specs.Reply.{other_error, no_such_data, not_authorised}
use Rattle.item_command.specs.declared.Command.{Command}
use Rattle.item_command.specs.declared.Command.TheVariants.{ReadData, ReadAddress, WriteData, WriteAddress, ChangePassword}
use Rattle.item_decimal.specs.Decimal.{all_decimal}
use Rattle.item_identifier.specs.Identifier.{identifier_of}
use Rattle.item_same.specs.Same.{same}
use Rattle.item_range.specs.Range.{within}
use Rattle.item.specs.Content.{content_of, content_is_allowed}
use Rattle.item.specs.Table.{has_length}
use Rattle.meter_decision.specs.Request.{item_asked, level_of, password_of, written_value, new_level_of, new_password_of}
use Rattle.meter_decision.specs.declared.Decision.{Decision}
use Rattle.meter_decision.specs.declared.Decision.TheVariants.{Silent, Error, Read, OwnAddress, Write, NewAddress, NewPassword}

-- What a failing check answers with: an error byte, or silence with the refusal.
pub data Failure : Type 0 where
  error_byte : ℕ → Failure
  silence : Refusal → Failure

-- The password of a level, three bytes of ten passwords.
unfoldable pub password_at : ℕ → List ℕ → List ℕ
password_at level passwords = part (3 * level) 3 passwords

-- Checks of what was looked up; of an identifier that is not listed none holds.
abbrev pub is_listed : Option Item → Bool
is_listed (Some item) = true
is_listed None = false

abbrev pub is_writable : Option Item → Bool
is_writable (Some item) = item.writable
is_writable None = false

abbrev pub has_content : Option Item → List ℕ → Bool
has_content (Some item) value = content_is_allowed (content_of item value)
has_content None value = false

-- The level is at most `most` and the password of that level is right: of 14 at most 04, of 18 at most the new level.
unfoldable pub authorised : ℕ → ℕ → List ℕ → List ℕ → Bool
authorised most level password passwords = leb level most && same password (password_at level passwords)

-- 04 00 0C n with n one more than the new level, 00..09.
unfoldable pub names_password : ℕ → ℕ → Bool
names_password identifier new = leb new 9 && eqb identifier (0x04000C01 + new)

-- Document 01's table of checks, by control; the first failing check answers.
unfoldable pub checks_of : Command → List ℕ → Bool → List ℕ → List (Check Failure)
checks_of ReadData payload key passwords =
    check (eqb (length payload) 4) (error_byte other_error)
    ∷ check (is_listed (item_asked payload)) (error_byte no_such_data)
    ∷ []
checks_of ReadAddress payload key passwords =
    check (eqb (length payload) 0) (silence SilentByRule)
    ∷ []
checks_of WriteAddress payload key passwords =
    check (eqb (length payload) 6) (silence SilentByRule)
    ∷ check key (silence SilentByRule)
    ∷ check (is_good payload) (silence SilentByRule)
    ∷ []
checks_of WriteData payload key passwords =
    check (within 12 50 (length payload)) (error_byte other_error)
    ∷ check (is_listed (item_asked payload)) (error_byte no_such_data)
    ∷ check (is_writable (item_asked payload)) (error_byte not_authorised)
    ∷ check key (error_byte not_authorised)
    ∷ check (authorised 4 (level_of payload) (password_of payload) passwords) (error_byte not_authorised)
    ∷ check (has_length (item_asked payload) (length (written_value payload))) (error_byte other_error)
    ∷ check (has_content (item_asked payload) (written_value payload)) (error_byte other_error)
    ∷ []
checks_of ChangePassword payload key passwords =
    check (eqb (length payload) 12) (error_byte other_error)
    ∷ check (names_password (identifier_of payload) (new_level_of payload)) (error_byte no_such_data)
    ∷ check key (error_byte not_authorised)
    ∷ check (authorised (new_level_of payload) (level_of payload) (password_of payload) passwords) (error_byte not_authorised)
    ∷ check (all_decimal (new_password_of payload)) (error_byte other_error)
    ∷ []

-- The decision where a check fails, and where every check holds.
abbrev pub failing : Failure → Decision
failing (error_byte e) = Error e
failing (silence n) = Silent n

abbrev pub accepted : Command → List ℕ → Decision
accepted ReadData payload = Read (identifier_of payload)
accepted ReadAddress payload = OwnAddress
accepted WriteData payload = Write (identifier_of payload)
accepted WriteAddress payload = NewAddress
accepted ChangePassword payload = NewPassword (new_level_of payload)

-- The decision on a command: the first failing check answers, else the command is carried out.
unfoldable pub decided : Command → List ℕ → Bool → List ℕ → Decision
decided command payload key passwords = first_failing failing (checks_of command payload key passwords) (accepted command payload)
