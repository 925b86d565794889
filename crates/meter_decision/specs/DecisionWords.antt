-- Document 01's table of checks by control, in its own words and figures, with the error bytes.
use Rattle.frame.specs.declared.refusal.Refusal.TheVariants.{SilentByRule}
use Rattle.std.specs.Prelude.{ℕ, ◌+◌, ◌≤◌, ◌≡◌, List, [], ◌∷◌, Bool, true, length, take, Some}
use Rattle.laws.specs.Words.{Words, done, says}
use Rattle.item_address.specs.Address.{Good}
use Rattle.item_command.specs.declared.Command.{Command}
use Rattle.item_command.specs.declared.Command.TheVariants.{ReadData, ReadAddress, WriteData, WriteAddress, ChangePassword}
use Rattle.item_decimal.specs.Decimal.{Decimal}
use Rattle.item_identifier.specs.Identifier.{identifier_of}
use Rattle.item.proofs.ContentLaws.{Range}
use Rattle.item.specs.Table.{item_of}
use Rattle.item.specs.declared.table.Item.{Item}
use Rattle.meter_decision.specs.Request.{level_of, password_of, written_value, new_level_of, new_password_of}
use Rattle.meter_decision.specs.Decision.{Failure, error_byte, silence, password_at}

-- The identifier at the front of the data is in the table, as this item.
abbrev pub NamesItem : List ℕ → Type 0
NamesItem payload = (item : Item) × (item_of (identifier_of payload) ≡ Some item)

-- The identifier at the front of the data is 04 00 0C n, DI3 first, with n one more than the new level, 00 to 09.
abbrev pub NamesPassword : List ℕ → Type 0
NamesPassword payload = (new_level_of payload ≤ 9) × (take 4 payload ≡ (new_level_of payload + 1) ∷ 0x0C ∷ 0x00 ∷ 0x04 ∷ [])

-- The level is at most so much, and the password of that level is right.
abbrev pub RightPassword : ℕ → List ℕ → List ℕ → Type 0
RightPassword most payload passwords = (level_of payload ≤ most) × (password_of payload ≡ password_at (level_of payload) passwords)

-- The table: what each check says, and the error byte, or the silence, where it is the first that does not hold.
abbrev pub words_of : Command → List ℕ → Bool → List ℕ → Words Failure
words_of ReadData payload key passwords =
    says (length payload ≡ 4) (error_byte 0x01)
    (λ _. says (NamesItem payload) (error_byte 0x02)
    (λ _. done))
words_of ReadAddress payload key passwords =
    says (length payload ≡ 0) (silence SilentByRule)
    (λ _. done)
words_of WriteAddress payload key passwords =
    says (length payload ≡ 6) (silence SilentByRule)
    (λ _. says (key ≡ true) (silence SilentByRule)
    (λ _. says (Good payload) (silence SilentByRule)
    (λ _. done)))
words_of WriteData payload key passwords =
    says ((12 ≤ length payload) × (length payload ≤ 50)) (error_byte 0x01)
    (λ _. says (NamesItem payload) (error_byte 0x02)
    (λ named. says (named.0.writable ≡ true) (error_byte 0x04)
    (λ _. says (key ≡ true) (error_byte 0x04)
    (λ _. says (RightPassword 4 payload passwords) (error_byte 0x04)
    (λ _. says (length (written_value payload) ≡ named.0.length) (error_byte 0x01)
    (λ _. says (Decimal (written_value payload) × Range named.0.kind (written_value payload)) (error_byte 0x01)
    (λ _. done)))))))
words_of ChangePassword payload key passwords =
    says (length payload ≡ 12) (error_byte 0x01)
    (λ _. says (NamesPassword payload) (error_byte 0x02)
    (λ _. says (key ≡ true) (error_byte 0x04)
    (λ _. says (RightPassword (new_level_of payload) payload passwords) (error_byte 0x04)
    (λ _. says (Decimal (new_password_of payload)) (error_byte 0x01)
    (λ _. done)))))
