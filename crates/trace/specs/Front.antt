-- A good record that stands at the front, with how many bytes it has.
use Rattle.std.specs.Prelude.{ℕ, Option, Some, Result, Ok}
use Rattle.frame.specs.declared.refusal.Refusal.{Refusal}
use Rattle.trace.specs.declared.TraceRecord.{TraceRecord}
use Rattle.trace.specs.declared.RecordFound.{RecordFound}

abbrev pub found_record : TraceRecord → ℕ → Result (Option RecordFound) Refusal
found_record found length = Ok (Some (record { found = found; length = length }))
