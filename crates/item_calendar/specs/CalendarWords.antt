-- The calendar in words: document 01's ranges of month and day with document 02's W3, days that follow each other, and their weekdays.
use Rattle.std.specs.Prelude.{ℕ, ◌+◌, ◌%◌, ◌≤◌, ◌<◌, ◌≡◌, ◌⊎◌}
use Rattle.item_calendar.specs.Calendar.{on, is_leap, month_length}
use Rattle.item_calendar.specs.declared.Date.{Date}

-- April, June, September and November.
abbrev pub HasThirtyDays : ℕ → Type 0
HasThirtyDays month = (month ≡ 4) ⊎ ((month ≡ 6) ⊎ ((month ≡ 9) ⊎ (month ≡ 11)))

-- A date of the years 2000 to 2099: MM 01..12, DD 01..31, in four months 01..30, in February 01..28 and 29 where YY divides by four.
pub record IsDate (date : Date) : Type 0 where
  pub year : date.year ≤ 99
  pub month-least : 1 ≤ date.month
  pub month-most : date.month ≤ 12
  pub day-least : 1 ≤ date.day
  pub day-most : date.day ≤ 31
  pub thirty : HasThirtyDays date.month → date.day ≤ 30
  pub february : date.month ≡ 2 → date.day ≤ 29
  pub leap : date.month ≡ 2 → date.day ≡ 29 → date.year % 4 ≡ 0

-- Two days that follow each other: in one month; from the last day of a month to the first of the next; from 31 December to 1 January of the next
-- year. No day follows 2099-12-31.
pub data Follows : Date → Date → Type 0 where
  in_month : (year month day : ℕ) → IsDate (on year month day) → IsDate (on year month (day + 1)) → Follows (on year month day) (on year month (day + 1))
  new-month : (year month day : ℕ) → IsDate (on year month day) → (IsDate (on year month (day + 1)) → ⊥) → month < 12
      → Follows (on year month day) (on year (month + 1) 1)
  new-year : (year : ℕ) → year < 99 → Follows (on year 12 31) (on (year + 1) 1 1)

-- 2000-01-01 was a Saturday, 6; of two days that follow each other the second has the next weekday, and behind Saturday comes Sunday, 0.
pub data Weekday : Date → ℕ → Type 0 where
  first : Weekday (on 0 1 1) 6
  next : {today tomorrow : Date} {weekday : ℕ} → Follows today tomorrow → Weekday today weekday → Weekday tomorrow ((weekday + 1) % 7)

-- What the tests of a date ask of its numbers.
abbrev pub Tested : Date → Type 0
Tested date =
    (date.year ≤ 99) × (((1 ≤ date.month) × (date.month ≤ 12)) × ((1 ≤ date.day) × (date.day ≤ month_length (is_leap date.year) date.month)))
