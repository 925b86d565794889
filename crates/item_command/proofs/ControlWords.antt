-- Document 01's control codes in its own figures: of the commands that a meter knows, of normal replies and of error replies.
use Rattle.std.specs.Prelude.{ℕ, ◌<◌, ◌≡◌, refl, Bool, true, false, ◌↔◌, Option, Some}
use Rattle.std.proofs.Common.{sym, ◌∙◌, arith}
use Rattle.item_command.specs.Command.{command_of, control_for}
use Rattle.item_command.proofs.CommandLaws.{command-known, asks, Asks, known, unknown, same-control}
use Rattle.item_command.specs.Reply.{control_code, reply_to}
use Rattle.item_command.specs.declared.Command.{Command}
use Rattle.item_command.specs.declared.Command.TheVariants.{ReadData, ReadAddress, WriteData, WriteAddress, ChangePassword}

-- 11, 13, 14, 15 and 18.
abbrev pub IsControl : Command → ℕ → Type 0
IsControl ReadData control = control ≡ 0x11
IsControl ReadAddress control = control ≡ 0x13
IsControl WriteData control = control ≡ 0x14
IsControl WriteAddress control = control ≡ 0x15
IsControl ChangePassword control = control ≡ 0x18

-- A normal reply to each: 91, 93, 94, 95 and 98.
abbrev pub normal_figure : Command → ℕ
normal_figure ReadData = 0x91
normal_figure ReadAddress = 0x93
normal_figure WriteData = 0x94
normal_figure WriteAddress = 0x95
normal_figure ChangePassword = 0x98

-- An error reply: D1, D4 and D8. To 13 and 15 there is none.
abbrev pub error_figure : Command → ℕ
error_figure ReadData = 0xD1
error_figure ReadAddress = 0xD3
error_figure WriteData = 0xD4
error_figure WriteAddress = 0xD5
error_figure ChangePassword = 0xD8

-- The control code of each command is document 01's, and it is known as that command exactly there.
pub control_figure : (command : Command) (control : ℕ) → (control ≡ control_for command) ↔ IsControl command control
control_figure ReadData control = (λ e. e, λ e. e)
control_figure ReadAddress control = (λ e. e, λ e. e)
control_figure WriteData control = (λ e. e, λ e. e)
control_figure WriteAddress control = (λ e. e, λ e. e)
control_figure ChangePassword control = (λ e. e, λ e. e)

pub known-iff : (control : ℕ) (command : Command) → (command_of control ≡ Some command) ↔ IsControl command control
known-iff control command = (
  λ h. (control_figure command control).0 (from-asked (asks control) h),
  λ e. rw ((control_figure command control).1 e) (command-known command),
)
  where
    from-asked : {asked : Option Command} → Asks control asked → asked ≡ Some command → control ≡ control_for command
    from-asked (known another e) h = let same : another ≡ command = cc in rw (← same) e
    from-asked unknown h = cc

-- The control codes of replies are document 01's.
pub normal_figure_lem : (command : Command) → reply_to (control_for command) false ≡ normal_figure command
unfolding reply_to control_code
normal_figure_lem ReadData = refl
normal_figure_lem ReadAddress = refl
normal_figure_lem WriteData = refl
normal_figure_lem WriteAddress = refl
normal_figure_lem ChangePassword = refl

pub error_figure_lem : (command : Command) → reply_to (control_for command) true ≡ error_figure command
unfolding reply_to control_code
error_figure_lem ReadData = refl
error_figure_lem ReadAddress = refl
error_figure_lem WriteData = refl
error_figure_lem WriteAddress = refl
error_figure_lem ChangePassword = refl

-- A reply with the control code of a normal reply to a command is one.
below : (command : Command) → control_for command < 32
below ReadData = omega arith
below ReadAddress = omega arith
below WriteData = omega arith
below WriteAddress = omega arith
below ChangePassword = omega arith

pub normal-only : (command another : Command) (abnormal : Bool) → reply_to (control_for command) abnormal ≡ normal_figure another
    → (command ≡ another) × (abnormal ≡ false)
unfolding reply_to control_code
normal-only command another true e = absurd (omega (arith, below command, below another, normal_figure_lem another))
normal-only command another false e =
    (same-control command another (omega (arith, below command, below another, e ∙ sym (normal_figure_lem another))), refl)
