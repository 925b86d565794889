-- How the replay program begins.
use Rattle.std.specs.Prelude.{ℕ, eqb, unwrap_or, Err, Ok, Result}
use Rattle.frame.specs.declared.refusal.Refusal.{Refusal}
use Rattle.replay_text.specs.declared.Message.{Message}
use mathlib.Core.List.{List, replicate}
use Rattle.laws.specs.Test.{pick}
use Rattle.replay_address.specs.Address.{address_read}
use Rattle.replay_block.specs.Block.{begun}
use Rattle.replay_text.specs.declared.Message.TheVariants.{Usage}
use Rattle.replay_text.specs.declared.Reason.TheVariants.{NotOneArgument, BadAddress}
use Rattle.replay_begin.specs.declared.Beginning.{Beginning}

-- Six bytes FF, which no meter has for its address.
abbrev pub no_meter : List ℕ
no_meter = replicate 6 255

-- The address that the second of two words spells; where there are not two, or it spells none, one that no meter has.
unfoldable pub address_given : ℕ → List ℕ → List ℕ
address_given words word = pick (eqb words 2) (unwrap_or (address_read word) no_meter) no_meter

-- By the answer to the beginning of a session, in a call of so many words.
abbrev pub opening_by : Result Unit Refusal → ℕ → Result Unit Message
opening_by (Ok tt) words = Ok tt
opening_by (Err n) words = Err (Usage (pick (eqb words 2) BadAddress NotOneArgument))

-- With a call of so many words, the program's name among them; the word behind it is this.
unfoldable pub beginning : ℕ → List ℕ → Beginning
beginning words word =
    let b = begun (address_given words word) in
    record { session = b.session; opening = opening_by b.answer words }
