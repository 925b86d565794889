-- What the papers say of a verdict: the refusals of a receiver's call.
use Rattle.std.specs.Prelude.{[]}
use Rattle.frame.specs.Refusals.{number_of}
use Rattle.frame.specs.declared.refusal.Refusal.TheVariants.{OutOfRange, ShortMemory}
use Rattle.laws.specs.Said.{Said, values, refusal}
use Rattle.line_verdict.specs.declared.Verdict.{Verdict}
use Rattle.line_verdict.specs.declared.Verdict.TheVariants.{Bad, Short, Skips, StillOpen, Whole, BeginsNone}

abbrev pub verdict_said : Verdict → Said
verdict_said Bad = refusal (number_of OutOfRange)
verdict_said Short = refusal (number_of ShortMemory)
verdict_said Skips = values []
verdict_said StillOpen = values []
verdict_said Whole = values []
verdict_said BeginsNone = values []
