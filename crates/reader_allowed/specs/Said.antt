-- What the papers say of why a request is not allowed: whatever the cause, it is 5.
use Rattle.std.specs.Prelude.{[], Err, Ok, Result}
use Rattle.frame.specs.Refusals.{number_of}
use Rattle.frame.specs.declared.refusal.Refusal.TheVariants.{NotAllowed}
use Rattle.laws.specs.Said.{Said, values, refusal}
use Rattle.reader_allowed.specs.declared.Cause.{Cause}
use Rattle.reader_allowed.specs.declared.Cause.TheVariants.{Address, NotListed, NotWritable, Level, Length, NotDecimal, OutOfRange}

abbrev pub cause_said : Cause → Said
cause_said Address = refusal (number_of NotAllowed)
cause_said NotListed = refusal (number_of NotAllowed)
cause_said NotWritable = refusal (number_of NotAllowed)
cause_said Level = refusal (number_of NotAllowed)
cause_said Length = refusal (number_of NotAllowed)
cause_said NotDecimal = refusal (number_of NotAllowed)
cause_said OutOfRange = refusal (number_of NotAllowed)

abbrev pub admission_said : Result Unit Cause → Said
admission_said (Ok tt) = values []
admission_said (Err cause) = cause_said cause
