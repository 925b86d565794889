-- Control codes of replies, made of their bits, and the error bytes of the standard's appendix C that document 01 uses.
use Rattle.std.specs.Prelude.{ℕ, ◌+◌, ◌*◌, ◌%◌, Bool, true, false}
use Rattle.laws.specs.Test.{pick}

-- Bit 7 set from the meter, 6 abnormal reply, 5 more to follow, 4 to 0 the function.
unfoldable pub control_code : Bool → Bool → Bool → ℕ → ℕ
control_code fromMeter abnormal more function =
    128 * pick fromMeter 1 0 + (64 * pick abnormal 1 0 + (32 * pick more 1 0 + function % 32))

-- The control code of a reply to a request with this one, nothing to follow.
unfoldable pub reply_to : ℕ → Bool → ℕ
reply_to control abnormal = control_code true abnormal false control

-- Error bits: other, no such data, password or right.
abbrev pub other_error : ℕ
other_error = 0x01

abbrev pub no_such_data : ℕ
no_such_data = 0x02

abbrev pub not_authorised : ℕ
not_authorised = 0x04
