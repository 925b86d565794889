-- What the papers say of a decision.
use Rattle.std.specs.Prelude.{[], ◌∷◌}
use Rattle.frame.specs.Refusals.{number_of}
use Rattle.laws.specs.Said.{Said, values, error_byte, refusal}
use Rattle.meter_decision.specs.declared.Decision.{Decision}
use Rattle.meter_decision.specs.declared.Decision.TheVariants.{Silent, Error, Read, OwnAddress, Write, NewAddress, NewPassword}

-- Silence by the number of its refusal, an error byte, or what is carried out.
abbrev pub decision_said : Decision → Said
decision_said (Silent n) = refusal (number_of n)
decision_said (Error byte) = error_byte byte
decision_said (Read identifier) = values (identifier ∷ [])
decision_said OwnAddress = values []
decision_said (Write identifier) = values (identifier ∷ [])
decision_said NewAddress = values []
decision_said (NewPassword level) = values (level ∷ [])
