-- Worked cases that the definitions compute.
use Rattle.std.specs.Prelude.{◌≡◌, refl, true, false, [], ◌∷◌, map}
use Rattle.item_range.specs.Range.{within}
use Rattle.item_calendar.specs.Calendar.{on, is_leap, has_thirty_days, month_length, is_date, days_of_months, day_number, weekday_of, falls_on}

-- The lengths of the twelve months in a year that is not leap.
lengths : map (month_length false) (1 ∷ 2 ∷ 3 ∷ 4 ∷ 5 ∷ 6 ∷ 7 ∷ 8 ∷ 9 ∷ 10 ∷ 11 ∷ 12 ∷ []) ≡ 31 ∷ 28 ∷ 31 ∷ 30 ∷ 31 ∷ 30 ∷ 31 ∷ 31 ∷ 30 ∷ 31 ∷ 30 ∷ 31 ∷ []
unfolding month_length has_thirty_days
lengths = refl

-- 2000-02-29 was a Tuesday; 2026 has no 29 February, and 2000 had no 31 February.
leap-day : falls_on (on 0 2 29) 2 ≡ true
unfolding falls_on is_date month_length is_leap has_thirty_days within weekday_of day_number days_of_months
leap-day = refl

no_leap_day : is_date (on 26 2 29) ≡ false
unfolding is_date month_length is_leap within
no_leap_day = refl

never : is_date (on 0 2 31) ≡ false
unfolding is_date month_length is_leap within
never = refl

-- 2099-12-31 is a Thursday and no Friday; behind it there are no dates.
last : falls_on (on 99 12 31) 4 ≡ true
unfolding falls_on is_date month_length is_leap has_thirty_days within weekday_of day_number days_of_months
last = refl

no_friday : falls_on (on 99 12 31) 5 ≡ false
unfolding falls_on is_date month_length is_leap has_thirty_days within weekday_of day_number days_of_months
no_friday = refl

behind : is_date (on 100 1 1) ≡ false
unfolding is_date
behind = refl
