-- What the replay program says beside its listing: a refused record, the counts at the end, and how it is called.
use Rattle.std.specs.Prelude.{ℕ, List, [], ◌∷◌, ◌++◌, length, leb, eqb, None, Option, Some}
use Prim.Native.Char.{code}
use Prim.Native.String.{String, [] as []ˢ, ◌∷◌ as ◌∷ˢ◌}
use Rattle.laws.specs.Memory.{Outcome, outcome, over}
use Rattle.laws.specs.Test.{pick}
use Rattle.frame.specs.Refusals.{number_of}
use Rattle.frame.specs.declared.refusal.Refusal.TheVariants as refusals
use Rattle.replay_text.specs.Decimal.{decimal}
use Rattle.replay_text.specs.declared.Message.{Message}
use Rattle.replay_text.specs.declared.Message.TheVariants.{BadRecord, Replayed, Usage}
use Rattle.replay_text.specs.declared.Reason.{Reason}
use Rattle.replay_text.specs.declared.Reason.TheVariants.{Asked, NotOneArgument, BadAddress}

-- The bytes of quoted characters.
abbrev pub quoted : String → List ℕ
quoted []ˢ = []
quoted (c ∷ˢ s) = code c ∷ quoted s

-- A label and a number behind it, in decimal.
unfoldable pub labelled : List ℕ → ℕ → List ℕ
labelled label n = label ++ decimal n

-- A text over the front of the memory; where the memory is shorter, nothing is written.
unfoldable pub writing : List ℕ → List ℕ → Outcome (Option ℕ)
writing text m = pick (leb (length text) (length m)) (outcome (Some (length text)) (over text m)) (outcome None m)

-- What a refusal of a record means, and the end of the line.
unfoldable pub meaning : ℕ → List ℕ
meaning refusal =
    pick (eqb refusal (number_of refusals.BadRecord)) (quoted ": an unknown kind of record, or a field out of its range\n")
    (pick (eqb refusal (number_of refusals.CutOff)) (quoted ": the trace ends inside the record\n") (quoted "\n"))

-- The line of a record, or a block, that is refused: the number, the place in the whole trace where the record begins that is not played, and what
-- the number means of a record.
unfoldable pub refused_text : ℕ → ℕ → List ℕ
refused_text refusal place = labelled (quoted "replay_trace: refused with ") refusal ++ labelled (quoted " at place ") place ++ meaning refusal

-- The line at the end: how many records were played, how many frames put to the meter, and how many replies it gave.
unfoldable pub counts_text : ℕ → ℕ → ℕ → List ℕ
counts_text records frames replies =
    labelled (quoted "replay_trace: records ") records ++ labelled (quoted ", frames put to the meter ") frames ++ labelled (quoted ", replies ") replies ++ quoted "\n"

-- How the program is called.
unfoldable pub usage : List ℕ
usage = quoted "usage: replay_trace ADDRESS < TRACE   plays a trace to a fresh meter of this address, twelve digits, and lists its replies\n"

-- Why it is said how the program is called: nothing where that was asked.
unfoldable pub reason_text : Reason → List ℕ
reason_text Asked = []
reason_text NotOneArgument = quoted "replay_trace: one argument is needed, the address of the meter\n"
reason_text BadAddress = quoted "replay_trace: the address has to be twelve digits, and not twelve nines\n"

unfoldable pub usage_text : Reason → List ℕ
usage_text reason = reason_text reason ++ usage

-- What is said, by what it is about.
unfoldable pub message_text : Message → List ℕ
message_text (BadRecord refusal place) = refused_text refusal place
message_text (Replayed records frames replies) = counts_text records frames replies
message_text (Usage reason) = usage_text reason
