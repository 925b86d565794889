-- Laws of commands: what a control code asks for.
use Rattle.std.specs.Prelude.{ℕ, ◌≡◌, refl, eqb, None, Option, Some}
use Rattle.std.proofs.Common.{eqb-true}
use Rattle.laws.specs.TestLaws.{pick_cases}
use Rattle.item_command.specs.Command.{command_of, control_for}
use Rattle.item_command.specs.declared.Command.{Command}
use Rattle.item_command.specs.declared.Command.TheVariants.{ReadData, ReadAddress, WriteData, WriteAddress, ChangePassword}

-- A command's control code is known as that command.
pub command-known : (command : Command) → command_of (control_for command) ≡ Some command
unfolding command_of
command-known ReadData = refl
command-known ReadAddress = refl
command-known WriteData = refl
command-known WriteAddress = refl
command-known ChangePassword = refl

-- What a control code asks for: a command of that code, or nothing known.
pub data Asks (control : ℕ) : Option Command → Type 0 where
  known : (command : Command) → control ≡ control_for command → Asks control (Some command)
  unknown : Asks control None

pub asks : (control : ℕ) → Asks control (command_of control)
unfolding command_of
asks control =
    pick_cases (Asks control) (eqb control 0x11) (λ e. known ReadData (eqb-true _ _ e))
    (λ _. pick_cases (Asks control) (eqb control 0x13) (λ e. known ReadAddress (eqb-true _ _ e))
    (λ _. pick_cases (Asks control) (eqb control 0x14) (λ e. known WriteData (eqb-true _ _ e))
    (λ _. pick_cases (Asks control) (eqb control 0x15) (λ e. known WriteAddress (eqb-true _ _ e))
    (λ _. pick_cases (Asks control) (eqb control 0x18) (λ e. known ChangePassword (eqb-true _ _ e)) (λ _. unknown)))))

-- Two commands of one control code are the same.
pub same-control : (command another : Command) → control_for command ≡ control_for another → command ≡ another
same-control command another e = cc (command-known command, command-known another)
