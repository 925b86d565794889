-- Laws of the days of the first months of a year, by arithmetic.
use Rattle.std.specs.Prelude.{ℕ, ◌+◌, ◌-◌, ◌*◌, ◌/◌, ◌≤◌, ◌≡◌, Bool, true, false, ltb}
use Rattle.std.proofs.Common.{arith, add-one}
use Rattle.laws.specs.Test.{pick}
use Rattle.laws.specs.TestLaws.{pick_cases}
use Rattle.laws.specs.AllLaws.{all-below}
use Rattle.item_calendar.specs.Calendar.{has_thirty_days, month_length, days_of_months}

-- The days of one month more.
pub days_next : (leap : Bool) (months : ℕ) → days_of_months leap (months + 1) ≡ days_of_months leap months + month_length leap (months + 1)
unfolding days_of_months
days_next leap months = rw (add-one months)

-- The days of at most eleven months by arithmetic: with 30 days for February, and behind it one or two fewer.
abbrev pub by_arithmetic : Bool → ℕ → ℕ
by_arithmetic leap months = pick (ltb months 2) ((367 * months + 5) / 12) ((367 * months + 5) / 12 - pick leap 1 2)

pub days_figure : (leap : Bool) (months : ℕ) → months ≤ 11 → days_of_months leap months ≡ by_arithmetic leap months
unfolding days_of_months month_length has_thirty_days
days_figure true months h = all-below (λ (m : ℕ). days_of_months true m ≡ by_arithmetic true m) 12 (search depth 14) months (omega arith)
days_figure false months h = all-below (λ (m : ℕ). days_of_months false m ≡ by_arithmetic false m) 12 (search depth 14) months (omega arith)

pub days_most : (leap : Bool) (months : ℕ) → months ≤ 11 → days_of_months leap months ≤ 336
days_most leap months h =
    rw (days_figure leap months h) (pick_cases (λ (n : ℕ). n ≤ 336) (ltb months 2) (λ _. omega arith) (λ _. omega arith))
