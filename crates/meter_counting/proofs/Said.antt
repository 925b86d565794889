-- What the papers say of the answer to a host call, when it is refused, and that the readings are then as they were.
use Rattle.std.specs.Prelude.{ℕ, ◌≤◌, ◌≡◌, [], Bool, true, ◌&&◌, ◌↔◌, leb, eqb, Err, Ok, Result}
use Rattle.frame.specs.Refusals.{number_of}
use Rattle.frame.specs.declared.refusal.Refusal.{Refusal}
use Rattle.std.proofs.Common.{sym, ◌∙◌, leb-true, le-leb}
use Rattle.std.proofs.lemmas.Bool.{false≢true}
use Rattle.std.proofs.Math.Bool.{and-eq-true_iff}
use Rattle.laws.specs.Said.{Said, values, refusal, Refuses, refuses, answers}
use Rattle.laws.specs.TestLaws.{pick_cases}
use Rattle.item_range.proofs.RangeLaws.{within-iff}
use Rattle.energy.specs.Energies.{Rows}
use Rattle.meter_counting.specs.Counting.{energies_of, pulsed_by, settled_by}
use Rattle.meter_counting.specs.Rows.{is_rate}
use Rattle.meter_counting.specs.declared.CountedReadings.{CountedReadings}

abbrev pub host_said : Result Unit Refusal → Said
host_said (Ok tt) = values []
host_said (Err n) = refusal (number_of n)

-- A direction 0 or 1, and a rate 1 to 4.
abbrev pub Countable : ℕ → ℕ → Type 0
Countable direction rate = (direction ≤ 1) × (1 ≤ rate) × (rate ≤ 4)

pub countable_iff : (direction rate : ℕ) → ((leb direction 1 && is_rate rate) ≡ true) ↔ Countable direction rate
unfolding is_rate
countable_iff direction rate = (
  λ e. let both = (and-eq-true_iff _ _).0 e in let rates = (within-iff 1 4 rate).0 both.1 in (leb-true direction 1 both.0, rates.0, rates.1),
  λ c. (and-eq-true_iff _ _).1 (le-leb direction 1 c.0, (within-iff 1 4 rate).1 (c.1, c.2)),
)

pub pulse-refuses : (amount direction rate : ℕ) (within : Bool) (forward reverse : Rows)
    → let c = pulsed_by amount direction rate within forward reverse in
    Refuses (host_said c.answer) ((within ≡ true) × Countable direction rate → ⊥) (energies_of forward reverse) c.energies
unfolding pulsed_by
pulse-refuses amount direction rate within forward reverse =
    pick_cases P within
    (λ w. pick_cases P (leb direction 1 && is_rate rate)
    (λ c. let no : ((within ≡ true) × Countable direction rate → ⊥) → ⊥ = λ none. none (w, (countable_iff direction rate).0 c) in
    pick_cases P (eqb direction 0) (λ _. answers (λ r. r) no) (λ _. answers (λ r. r) no))
    (λ bad. refuses (λ both. false≢true (sym bad ∙ (countable_iff direction rate).1 both.1)) tt))
    (λ out. refuses (λ both. false≢true (sym out ∙ both.0)) tt)
  where
    P : CountedReadings → Type 0
    P c = Refuses (host_said c.answer) ((within ≡ true) × Countable direction rate → ⊥) (energies_of forward reverse) c.energies

pub settle-refuses : (within : Bool) (forward reverse : Rows)
    → let c = settled_by within forward reverse in Refuses (host_said c.answer) (within ≡ true → ⊥) (energies_of forward reverse) c.energies
unfolding settled_by
settle-refuses within forward reverse =
    pick_cases (λ (c : CountedReadings). Refuses (host_said c.answer) (within ≡ true → ⊥) (energies_of forward reverse) c.energies) within
    (λ w. answers (λ r. r) (λ none. none w))
    (λ out. refuses (λ w. false≢true (sym out ∙ w)) tt)
