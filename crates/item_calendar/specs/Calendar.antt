-- The calendar of the years 2000 to 2099: document 02, W3. Which numbers are a date, and the weekday of a date.
use Rattle.std.specs.Prelude.{ℕ, zero, suc, ◌+◌, ◌-◌, ◌*◌, ◌/◌, ◌%◌, Bool, ◌&&◌, ◌||◌, leb, eqb}
use Rattle.laws.specs.Test.{pick}
use Rattle.item_range.specs.Range.{within}
use Rattle.item_calendar.specs.declared.Date.{Date}

-- The date of a year by its two digits YY, a month and a day.
abbrev pub on : ℕ → ℕ → ℕ → Date
on year month day = record { year = year; month = month; day = day }

-- Leap when YY divides by four.
unfoldable pub is_leap : ℕ → Bool
is_leap year = eqb (year % 4) 0

-- April, June, September and November.
unfoldable pub has_thirty_days : ℕ → Bool
has_thirty_days month = eqb month 4 || (eqb month 6 || (eqb month 9 || eqb month 11))

-- How many days a month has, in a leap year or another.
unfoldable pub month_length : Bool → ℕ → ℕ
month_length leap month = pick (eqb month 2) (pick leap 29 28) (pick (has_thirty_days month) 30 31)

-- Whether numbers are a date of the years 2000 to 2099.
unfoldable pub is_date : Date → Bool
is_date date =
    leb date.year 99 && (within 1 12 date.month && within 1 (month_length (is_leap date.year) date.month) date.day)

-- How many days the first months of a year have, so many of them.
unfoldable pub days_of_months : Bool → ℕ → ℕ
days_of_months leap zero = 0
days_of_months leap (suc months) = days_of_months leap months + month_length leap (suc months)

-- How many days a date is after 2000-01-01: 365 for each year before it and one more for each that is leap, the months before it, the days before it.
unfoldable pub day_number : Date → ℕ
day_number date =
    365 * date.year + (date.year + 3) / 4 + days_of_months (is_leap date.year) (date.month - 1) + (date.day - 1)

-- 0 for Sunday to 6 for Saturday; 2000-01-01 was a Saturday.
unfoldable pub weekday_of : Date → ℕ
weekday_of date = (6 + day_number date) % 7

-- Whether a date falls on a weekday. What is no date falls on none.
unfoldable pub falls_on : Date → ℕ → Bool
falls_on date weekday = is_date date && eqb weekday (weekday_of date)
