-- What the papers say of the answers to the writing of a value, when it is refused, and that memory and registers are then as they were.
use Rattle.std.specs.Prelude.{ℕ, ◌≤◌, ◌≡◌, refl, List, [], ◌∷◌, Bool, true, false, length, leb, eqb, Err, None, Ok, Option, Result, Some}
use Rattle.frame.specs.Refusals.{number_of}
use Rattle.frame.specs.declared.refusal.Refusal.TheVariants.{ShortMemory}
use Rattle.meter_holding.specs.declared.HeldError.{HeldError}
use Rattle.meter_holding.specs.declared.HeldError.TheVariants.{NotListed, TooLittleMemory}
use Rattle.std.proofs.Common.{ap, arith, leb-true, leb-false, eqb-true}
use Rattle.laws.specs.Memory.{Outcome, LeftAlone}
use Rattle.laws.specs.Said.{Said, values, refusal, unnumbered, Refuses, refuses, answers}
use Rattle.laws.specs.Test.{pick}
use Rattle.laws.specs.TestLaws.{pick_cases}
use Rattle.item.specs.Table.{item_of, has_length}
use Rattle.item.specs.declared.table.Item.{Item}
use Rattle.energy.specs.Energies.{Rows}
use Rattle.meter_holding.specs.Holding.{location_of, registers_with, written_of, value_written, registers_of, registers_after}
use Rattle.meter_holding.specs.declared.location.Location.{Location}
use Rattle.meter_holding.specs.declared.location.Location.TheVariants.{Readings, OwnAddress, Register}

-- Too little memory is 1. An identifier that is not listed has no number here: the meter's checks answer it before, with an error byte.
abbrev pub held_said : Result ℕ HeldError → Said
held_said (Ok n) = values (n ∷ [])
held_said (Err NotListed) = unnumbered
held_said (Err TooLittleMemory) = refusal (number_of ShortMemory)

-- The identifier is listed, and there is room for its value.
abbrev pub HasRoom : ℕ → List ℕ → Type 0
HasRoom identifier m = (item : Item) × (item_of identifier ≡ Some item) × (item.length ≤ length m)

pub value-refuses : (identifier : ℕ) (address registers : List ℕ) (forward reverse : Rows) (m : List ℕ)
    → let o = value_written identifier address registers forward reverse m in Refuses (held_said o.answer) (HasRoom identifier m → ⊥) m o.memory
unfolding value_written
value-refuses identifier address registers forward reverse m = go (item_of identifier) refl
  where
    P : Outcome (Result ℕ HeldError) → Type 0
    P o = Refuses (held_said o.answer) (HasRoom identifier m → ⊥) m o.memory

    go : (l : Option Item) → item_of identifier ≡ l → P (written_of l address registers forward reverse m)
    go None e = refuses (λ h. let z : ◌≡◌ {A = ℕ} 0 1 = cc h.1 in omega arith) tt
    go (Some item) e =
        pick_cases P (leb item.length (length m)) (λ room. answers (λ r. r) (λ none. none (item, e, leb-true _ _ room)))
        (λ short. refuses (λ h. let same : item ≡ h.0 = cc h.1 in omega (arith, leb-false item.length (length m) short, ap (λ (i : Item). i.length) same, h.2)) tt)

-- Registers take a value only where the identifier is listed, its item is a register, and the value has its length.
pub registers_as_before : (identifier : ℕ) (value registers : List ℕ)
    → ((item : Item) (at : ℕ) → item_of identifier ≡ Some item → location_of item.kind ≡ Register at → length value ≡ item.length → ⊥)
    → LeftAlone registers (registers_after identifier value registers)
unfolding registers_after registers_with
registers_as_before identifier value registers none = of_item_lem (item_of identifier) refl
  where
    at_location : (item : Item) (location : Location) → item_of identifier ≡ Some item → location_of item.kind ≡ location → (t : Bool)
        → eqb (length value) item.length ≡ t → pick t (registers_with location value registers) registers ≡ registers
    at_location item (Readings direction rate rates row rows) listed e true h = refl
    at_location item OwnAddress listed e true h = refl
    at_location item (Register at) listed e true h = absurd (none item at listed e (eqb-true _ _ h))
    at_location item location listed e false h = refl

    of_item_lem : (l : Option Item) → item_of identifier ≡ l → pick (has_length l (length value)) (registers_of l value registers) registers ≡ registers
    of_item_lem None e = refl
    of_item_lem (Some item) e = at_location item (location_of item.kind) e refl (eqb (length value) item.length) refl
