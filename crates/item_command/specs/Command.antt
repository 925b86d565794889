-- Commands: the controls of document 01.
use Rattle.std.specs.Prelude.{ℕ, eqb, None, Option, Some}
use Rattle.laws.specs.Test.{pick}
use Rattle.item_command.specs.declared.Command.{Command}
use Rattle.item_command.specs.declared.Command.TheVariants.{ReadData, ReadAddress, WriteData, WriteAddress, ChangePassword}

-- The controls that a meter knows.
unfoldable pub command_of : ℕ → Option Command
command_of control =
    pick (eqb control 0x11) (Some ReadData)
    (pick (eqb control 0x13) (Some ReadAddress)
    (pick (eqb control 0x14) (Some WriteData)
    (pick (eqb control 0x15) (Some WriteAddress)
    (pick (eqb control 0x18) (Some ChangePassword)
    None))))

-- The control code of a command.
abbrev pub control_for : Command → ℕ
control_for ReadData = 0x11
control_for ReadAddress = 0x13
control_for WriteData = 0x14
control_for WriteAddress = 0x15
control_for ChangePassword = 0x18
