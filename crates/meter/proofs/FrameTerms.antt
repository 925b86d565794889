-- Document 01, "How the meter treats a frame", in words: what holds of any bytes put to a meter.
use Rattle.frame.specs.declared.refusal.Refusal.TheVariants.{OutOfRange, ShortMemory, NotOneFrame, NotForThisMeter}
use Rattle.frame.specs.declared.refusal.Refusal.{Refusal}
use Rattle.std.specs.Prelude.{ℕ, ◌+◌, ◌≤◌, ◌<◌, ◌≡◌, List, [], ◌∷◌, ◌++◌, length, take, Ok, Some}
use Rattle.laws.specs.Memory.{outcome, over}
use Rattle.laws.specs.Words.{Every, FirstFails}
use Rattle.frame.specs.Frame.{Frame, address_of, control_of, data_of, frame_for}
use Rattle.item_command.specs.Addressee.{IsFor}
use Rattle.item_command.proofs.ControlWords.{IsControl, normal_figure, error_figure}
use Rattle.item_command.specs.declared.Command.{Command}
use Rattle.item_command.specs.declared.Command.TheVariants.{ReadData, ReadAddress, WriteData, WriteAddress, ChangePassword}
use Rattle.item_identifier.specs.Identifier.{identifier_of}
use Rattle.item.specs.Table.{item_of}
use Rattle.item.specs.declared.table.Item.{Item}
use Rattle.energy.specs.Energies.{Rows}
use Rattle.meter_decision.specs.Decision.{Failure, error_byte, silence, password_at}
use Rattle.meter_decision.specs.DecisionWords.{words_of}
use Rattle.meter_decision.specs.Request.{operator_of, written_value, new_level_of, new_password_of}
use Rattle.meter_holding.specs.Holding.{value_for}
use Rattle.meter.specs.Meter.{AllKept, value_held, untouched}
use Rattle.meter.proofs.Ranges.{InRanges}
use Rattle.meter.specs.Answer.{answered_with, refused, answered, Unmoved}
use Rattle.meter.specs.declared.Meter.{Meter}

module _ (bytes : List ℕ) (m : Meter) (forward reverse : Rows) (memory : List ℕ) where
  -- The checks before those of the table, for a command: not 16, 1 or 2, its control, and an address field that is for this meter.
  pub record PutTo (command : Command) : Type 0 where
    pub ranges : InRanges m forward reverse
    pub room : 212 ≤ length memory
    pub one-frame : Frame bytes
    pub control : IsControl command (control_of bytes)
    pub address : IsFor command (address_of bytes) m.address

  -- The checks of the table's row, in its words.
  abbrev pub Row : Command → Type 0
  Row command = Every (words_of command (data_of bytes) m.key m.passwords)

  -- Every listed check holds.
  pub record EveryCheckHolds (command : Command) : Type 0 where
    pub put_to : PutTo command
    pub row : Row command

  -- The check of the table's row that fails first.
  abbrev pub RowFails : Command → Failure → Type 0
  RowFails command failure = FirstFails (words_of command (data_of bytes) m.key m.passwords) failure

  -- The answer is a reply of a control code and data, from an address, by a meter that is then this one.
  abbrev pub RepliesWith : Meter → List ℕ → ℕ → List ℕ → Type 0
  RepliesWith after own control payload =
      answered bytes m forward reverse memory
      ≡ outcome (answered_with after (Ok (12 + length payload))) (over (frame_for own control payload) memory)

  -- An accepted 14: it is answered 94, the item holds the written bytes and the operator code is that of the request, every other listed
  -- item holds what it held, key and passwords are as they were, and a read of the item gives the written bytes.
  pub record ValueSet (item : Item) : Type 0 where
    pub after : Meter
    pub answer : RepliesWith after m.address 0x94 []
    pub held : value_held item after forward reverse ≡ written_value (data_of bytes)
    pub operator : after.operator ≡ operator_of (data_of bytes)
    pub others : (identifier : ℕ) (other : Item) → item_of identifier ≡ Some other → (identifier ≡ identifier_of (data_of bytes) → ⊥)
        → value_held other after forward reverse ≡ value_held other m forward reverse
    pub address : after.address ≡ m.address
    pub key : after.key ≡ m.key
    pub passwords : after.passwords ≡ m.passwords
    pub ranges : InRanges after forward reverse
    pub read_back : (again : List ℕ) → 212 ≤ length again
        → answered (frame_for m.address 0x11 (take 4 (data_of bytes))) after forward reverse again
        ≡ outcome (answered_with (untouched after) (Ok (16 + item.length)))
        (over (frame_for m.address 0x91 (take 4 (data_of bytes) ++ written_value (data_of bytes))) again)

  -- An accepted 15: it is answered 95 from the address in its data, which the meter then has, and nothing else is changed.
  pub record AddressSet : Type 0 where
    pub after : Meter
    pub answer : RepliesWith after (data_of bytes) 0x95 []
    pub address : after.address ≡ data_of bytes
    pub key : after.key ≡ m.key
    pub passwords : after.passwords ≡ m.passwords
    pub operator : after.operator ≡ m.operator
    pub registers : after.registers ≡ m.registers

  -- An accepted 18: it is answered 98 with new level and password, that level has the password, every other level's is as it was, and
  -- nothing else is changed.
  pub record PasswordSet : Type 0 where
    pub after : Meter
    pub answer : RepliesWith after m.address 0x98 (new_level_of (data_of bytes) ∷ new_password_of (data_of bytes))
    pub held : password_at (new_level_of (data_of bytes)) after.passwords ≡ new_password_of (data_of bytes)
    pub others : (level : ℕ) → level ≤ 9 → (level ≡ new_level_of (data_of bytes) → ⊥)
        → password_at level after.passwords ≡ password_at level m.passwords
    pub address : after.address ≡ m.address
    pub key : after.key ≡ m.key
    pub operator : after.operator ≡ m.operator
    pub registers : after.registers ≡ m.registers

  -- What a command changes is as it was.
  abbrev pub AsItWas : Command → Meter → Type 0
  AsItWas ReadData after = Unit
  AsItWas ReadAddress after = Unit
  AsItWas WriteData after = (after.registers ≡ m.registers) × (after.operator ≡ m.operator)
  AsItWas WriteAddress after = after.address ≡ m.address
  AsItWas ChangePassword after = after.passwords ≡ m.passwords

  -- A command was not accepted: no reply is its normal one, what it changes is as it was, and a frame with its control moved nothing.
  pub record NotAccepted (command : Command) : Type 0 where
    pub no_reply : (n : ℕ) → (answered bytes m forward reverse memory).answer.answer ≡ Ok n
        → control_of (answered bytes m forward reverse memory).memory ≡ normal_figure command → ⊥
    pub kept : AsItWas command (answered bytes m forward reverse memory).answer.meter
    pub unmoved : let a = (answered bytes m forward reverse memory).answer in IsControl command (control_of bytes) → Unmoved a.answer m a.meter

  -- What the bytes come to, in document 01's order.
  pub record FrameIsRight : Type 0 where
    -- 16, 1, 2; and 3 for a frame that no command makes one for this meter.
    pub out_of_range_lem : (InRanges m forward reverse → ⊥) → answered bytes m forward reverse memory ≡ refused OutOfRange m memory
    pub short-memory : InRanges m forward reverse → length memory < 212 → answered bytes m forward reverse memory ≡ refused ShortMemory m memory
    pub no_frame : InRanges m forward reverse → 212 ≤ length memory → (Frame bytes → ⊥) → answered bytes m forward reverse memory ≡ refused NotOneFrame m memory
    pub foreign : InRanges m forward reverse → 212 ≤ length memory → Frame bytes
        → ((command : Command) → IsControl command (control_of bytes) → IsFor command (address_of bytes) m.address → ⊥)
        → answered bytes m forward reverse memory ≡ refused NotForThisMeter m memory
    -- What is left untouched is as it was, field by field.
    pub untouched-kept : AllKept m (untouched m)
    -- The first failing check of the table's row answers: with its error byte, and the meter is left untouched; or with silence.
    pub error : (command : Command) → PutTo command → (e : ℕ) → RowFails command (error_byte e)
        → RepliesWith (untouched m) m.address (error_figure command) (e ∷ [])
    pub silent : (command : Command) → PutTo command → (n : Refusal) → RowFails command (silence n)
        → answered bytes m forward reverse memory ≡ refused n m memory
    -- Where every check holds: a read leaves the meter untouched and is answered with what it holds.
    pub read : EveryCheckHolds ReadData
        → RepliesWith (untouched m) m.address 0x91
        (take 4 (data_of bytes) ++ value_for (identifier_of (data_of bytes)) m.address m.registers forward reverse)
    pub read-address : EveryCheckHolds ReadAddress → RepliesWith (untouched m) m.address 0x93 m.address
    -- 14, 15 and 18 set what they name exactly then.
    pub value_set : (w : EveryCheckHolds WriteData) → ValueSet w.row.1.0.0
    pub address-set : EveryCheckHolds WriteAddress → AddressSet
    pub password-set : EveryCheckHolds ChangePassword → PasswordSet
    pub not-accepted : (command : Command) → (EveryCheckHolds command → ⊥) → NotAccepted command
