-- What the papers say of a judgement.
use Rattle.std.specs.Prelude.{[], ◌∷◌, Err, Ok, Result}
use Rattle.frame.specs.Refusals.{number_of}
use Rattle.frame.specs.declared.refusal.Refusal.{Refusal}
use Rattle.reader_judgement.specs.declared.Reply.{Reply}
use Rattle.reader_judgement.specs.declared.Reply.TheVariants.{Error, Value}
use Rattle.laws.specs.Said.{Said, values, error_byte, refusal}

-- A value by its length, a good error reply by its byte, or a refusal.
abbrev pub judgement_said : Result Reply Refusal → Said
judgement_said (Ok (Value n)) = values (n ∷ [])
judgement_said (Ok (Error byte)) = error_byte byte
judgement_said (Err n) = refusal (number_of n)
