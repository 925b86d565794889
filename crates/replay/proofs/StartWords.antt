-- Document 02's words on the start: "a fresh receiver and a fresh meter of a given address", and 8 for a bad one.
use Rattle.std.specs.Prelude.{ℕ, ◌≡◌, refl, List, replicate, Err, Ok}
use Rattle.frame.specs.declared.refusal.Refusal.TheVariants.{BadArgument}
use Rattle.item_address.specs.Address.{Good}
use Rattle.line.specs.Receiver.{fresh}
use Rattle.meter.specs.Host.{created}
use Rattle.meter.proofs.FreshMeter.{fresh_is_right}
use Rattle.replay.specs.Replay.{started}
use Rattle.replay.specs.declared.Started.{Started}

-- The receiver has heard nothing; the meter and its readings are those that `Meter::fresh` hands back, which are in words in `meter` (`fresh_is_right`);
-- the first record begins at place 0.
pub record StartWords (address : List ℕ) (s : Started) : Type 0 where
  pub kept : s.state.receiver.kept ≡ replicate 211 0
  pub count : s.state.receiver.count ≡ 0
  pub meter : s.state.meter ≡ (created address).meter
  pub energies : s.state.energies ≡ (created address).energies
  pub at_first : s.at ≡ 0
  pub made : Good address → s.answer ≡ Ok tt
  pub refused : (Good address → ⊥) → s.answer ≡ Err BadArgument

-- The start of any address.
pub start-words : (address : List ℕ) → StartWords address (started address)
unfolding started fresh
start-words address =
    let right = fresh_is_right address in
    record { kept = refl; count = refl; meter = refl; energies = refl; at_first = refl; made = right.made; refused = right.refused }
