-- The weekday of a date: the code's arithmetic gives what the words say. Every date has one weekday, and what is no date has none.
use Rattle.std.specs.Prelude.{ℕ, zero, suc, ◌+◌, ◌-◌, ◌/◌, ◌%◌, ◌≤◌, ◌≡◌, refl, Bool, true, false, ◌↔◌, ltb}
use Rattle.std.proofs.Common.{sym, ap, ◌∙◌, arith, add-one, lt-ltb, ltb-true, ltb-false, eqb-true, eq-eqb}
use Rattle.std.proofs.lemmas.Bool.{false≢true}
use Rattle.std.proofs.Math.Bool.{and-eq-true_iff}
use Rattle.laws.specs.Test.{pick}
use Rattle.laws.specs.TestLaws.{pick_cases, not_true}
use Rattle.item_calendar.specs.Calendar.{on, is_leap, has_thirty_days, month_length, is_date, days_of_months, day_number, weekday_of, falls_on}
use Rattle.item_calendar.specs.CalendarWords.{IsDate, Follows, in_month, new-month, new-year, Weekday, first, next}
use Rattle.item_calendar.proofs.CalendarLaws.{month_days, leap-iff, date-tests, date-words}
use Rattle.item_calendar.proofs.DaysLaws.{days_next}
use Rattle.item_calendar.specs.declared.Date.{Date}

-- A day within the length of its month is a date, and a date is within it.
module _ (year month : ℕ) where
  length-date : (day : ℕ) → year ≤ 99 → 1 ≤ month → month ≤ 12 → 1 ≤ day → day ≤ month_length (is_leap year) month → IsDate (on year month day)
  length-date day y m n d l = (date-words (on year month day)).0 ((date-tests (on year month day)).1 (y, ((m, n), (d, l))))

  date-length : (day : ℕ) → IsDate (on year month day) → day ≤ month_length (is_leap year) month
  date-length day d = ((date-tests (on year month day)).0 ((date-words (on year month day)).1 d)).1.1.1

  -- The last day of a month is as many as the month has days.
  last-day : (day : ℕ) → IsDate (on year month day) → (IsDate (on year month (day + 1)) → ⊥) → day ≡ month_length (is_leap year) month
  last-day day d none =
      let full : day + 1 ≤ month_length (is_leap year) month → ⊥ = λ l. none (length-date (day + 1) d.year d.month-least d.month-most (omega arith) l) in
      omega (arith, date-length day d)

  -- The days of the months to a month are those of the months before it and its own.
  months_next : 1 ≤ month → days_of_months (is_leap year) month ≡ days_of_months (is_leap year) (month - 1) + month_length (is_leap year) month
  months_next m =
      let back : month - 1 + 1 ≡ month = omega arith in
      rw back at (days_next (is_leap year) (month - 1))

-- A year has 365 days, and one more where it is leap.
year_days : (leap : Bool) → days_of_months leap 11 + month_length leap 12 ≡ 365 + pick leap 1 0
unfolding days_of_months month_length has_thirty_days
year_days true = refl
year_days false = refl

no_months : (leap : Bool) → days_of_months leap 0 ≡ 0
unfolding days_of_months
no_months leap = refl

december : (leap : Bool) → month_length leap 12 ≡ 31
unfolding month_length has_thirty_days
december leap = refl

leap_years : (year : ℕ) → (year + 1 + 3) / 4 ≡ (year + 3) / 4 + pick (is_leap year) 1 0
leap_years year =
    pick_cases (λ (n : ℕ). (year + 1 + 3) / 4 ≡ (year + 3) / 4 + n) (is_leap year) (λ l. omega (arith, (leap-iff year).0 l))
    (λ l. let other : year % 4 ≡ 0 → ⊥ = λ e. false≢true (sym l ∙ (leap-iff year).1 e) in omega arith)

-- Of two days that follow each other the second is one day further from 2000-01-01.
day-next : {today tomorrow : Date} → Follows today tomorrow → day_number tomorrow ≡ day_number today + 1
unfolding day_number
day-next (in_month year month day d e) = omega (arith, d.day-least)
day-next (new-month year month day d none m) =
    let back : month + 1 - 1 ≡ month = omega arith in
    rw back (omega (arith, months_next year month d.month-least, last-day year month day d none, d.day-least))
day-next (new-year year y) = omega (arith, leap_years year, year_days (is_leap year), december (is_leap year), no_months (is_leap (year + 1)))

weekday-next : {today tomorrow : Date} → Follows today tomorrow → weekday_of tomorrow ≡ (weekday_of today + 1) % 7
unfolding weekday_of
weekday-next {today} {tomorrow} f = rw (day-next f) (omega arith)

-- Both are dates: the first of a month is one, and so is its last day.
first-date : (year month : ℕ) → year ≤ 99 → 1 ≤ month → month ≤ 12 → IsDate (on year month 1)
first-date year month y m n = length-date year month 1 y m n (omega arith) (omega (arith, month_days (is_leap year) month))

last-date : (year month : ℕ) → year ≤ 99 → 1 ≤ month → month ≤ 12 → IsDate (on year month (month_length (is_leap year) month))
last-date year month y m n = length-date year month (month_length (is_leap year) month) y m n (omega (arith, month_days (is_leap year) month)) (omega arith)

today-date : {today tomorrow : Date} → Follows today tomorrow → IsDate today
today-date (in_month year month day d e) = d
today-date (new-month year month day d none m) = d
today-date (new-year year y) = rw (december (is_leap year)) at (last-date year 12 (omega arith) (omega arith) (omega arith))

tomorrow-date : {today tomorrow : Date} → Follows today tomorrow → IsDate tomorrow
tomorrow-date (in_month year month day d e) = e
tomorrow-date (new-month year month day d none m) = first-date year (month + 1) d.year (omega arith) (omega arith)
tomorrow-date (new-year year y) = first-date (year + 1) 1 (omega arith) (omega arith) (omega arith)

-- Every date is 2000-01-01 or follows another.
data Yesterday : Date → Type 0 where
  none : Yesterday (on 0 1 1)
  some : {today tomorrow : Date} → Follows today tomorrow → Yesterday tomorrow

yesterday : (year month day : ℕ) → IsDate (on year month day) → Yesterday (on year month day)
yesterday year month zero d = absurd (omega (arith, d.day-least))
yesterday year month (suc (suc day)) d =
    let today : IsDate (on year month (suc day)) = length-date year month (suc day) d.year d.month-least d.month-most (omega arith) (omega (arith, date-length year month (suc (suc day)) d)) in
    rw (← add-one (suc day)) (some (in_month year month (suc day) today (rw (add-one (suc day)) d)))
yesterday year zero (suc zero) d = absurd (omega (arith, d.month-least))
yesterday year (suc (suc month)) (suc zero) d =
    let today : IsDate (on year (suc month) (month_length (is_leap year) (suc month))) = last-date year (suc month) d.year (omega arith) (omega (arith, d.month-most)) in
    rw (← add-one (suc month))
    (some (new-month year (suc month) _ today (λ e. omega (arith, date-length year (suc month) _ e)) (omega (arith, d.month-most))))
yesterday (suc year) (suc zero) (suc zero) d = rw (← add-one year) (some (new-year year (omega (arith, d.year))))
yesterday zero (suc zero) (suc zero) d = none

-- The day after a date: the next of its month, or the first of the next month, or of the next year.
abbrev day_after : Date → Date
day_after today =
    pick (is_date (on today.year today.month (today.day + 1)))
    (on today.year today.month (today.day + 1))
    (pick (ltb today.month 12)
    (on today.year (today.month + 1) 1)
    (on (today.year + 1) 1 1))

-- Every date but 2099-12-31 has one day that follows it.
pub record OneTomorrow (today : Date) : Type 0 where
  pub tomorrow : Date
  pub follows : Follows today tomorrow
  pub only : (other : Date) → Follows today other → other ≡ tomorrow

after : {today tomorrow : Date} → Follows today tomorrow → tomorrow ≡ day_after today
after (in_month year month day d e) = rw ((date-words (on year month (day + 1))).1 e)
after (new-month year month day d final m) = rw (not_true (is_date (on year month (day + 1))) (λ h. final ((date-words (on year month (day + 1))).0 h)), lt-ltb month 12 m)
after (new-year year y) = rw (not_true (is_date (on year 12 32)) (λ h. omega (arith, ((date-words (on year 12 32)).0 h).day-most)))

not_last : {today tomorrow : Date} → Follows today tomorrow → today ≡ on 99 12 31 → ⊥
not_last (in_month year month day d e) h = omega (arith, e.day-most, ap (λ (x : Date). x.day) h)
not_last (new-month year month day d final m) h = omega (arith, ap (λ (x : Date). x.month) h)
not_last (new-year year y) h = omega (arith, ap (λ (x : Date). x.year) h)

follows-after : (year month day : ℕ) → IsDate (on year month day) → (on year month day ≡ on 99 12 31 → ⊥)
    → Follows (on year month day) (day_after (on year month day))
follows-after year month day d other =
    pick_cases (Follows (on year month day)) (is_date (on year month (day + 1)))
    (λ h. in_month year month day d ((date-words (on year month (day + 1))).0 h))
    (λ h. let final : IsDate (on year month (day + 1)) → ⊥ = λ e. false≢true (sym h ∙ (date-words (on year month (day + 1))).1 e) in
    pick_cases (Follows (on year month day)) (ltb month 12) (λ m. new-month year month day d final (ltb-true month 12 m)) (λ m. ends m final))
  where
    ends : ltb month 12 ≡ false → (IsDate (on year month (day + 1)) → ⊥) → Follows (on year month day) (on (year + 1) 1 1)
    ends m final =
        let last-month : month ≡ 12 = omega (arith, ltb-false month 12 m, d.month-most) in
        let last : day ≡ 31 = last-day year month day d final ∙ rw last-month (december (is_leap year)) in
        let before : year ≡ 99 → ⊥ = λ e. other (rw (e, last-month, last)) in
        rw (last-month, last) (new-year year (omega (arith, d.year)))

pub one-tomorrow : (today : Date) → (IsDate today × (today ≡ on 99 12 31 → ⊥)) ↔ OneTomorrow today
one-tomorrow today = (
  λ h. record {
    tomorrow = day_after today;
    follows = follows-after today.year today.month today.day h.0 h.1;
    only = λ other f. after f;
  },
  λ t. (today-date t.follows, not_last t.follows),
)

-- What has a weekday is a date, and its weekday is the one that is computed.
weekday_is : {date : Date} {weekday : ℕ} → Weekday date weekday → IsDate date × (weekday ≡ weekday_of date)
unfolding weekday_of day_number days_of_months
weekday_is first = (first-date 0 1 (omega arith) (omega arith) (omega arith), refl)
weekday_is (next f w) = (tomorrow-date f, rw (weekday_is w).1 (sym (weekday-next f)))

-- Every date has it: it is reached from 2000-01-01 in as many days as it is after that.
follow : {date : Date} → ((today : Date) → IsDate today → day_number today + 1 ≡ day_number date → Weekday today (weekday_of today)) → Yesterday date
    → Weekday date (weekday_of date)
follow before none = rw (sym (weekday_is first).1) first
follow before (some {today} f) = rw (weekday-next f) (next f (before today (today-date f) (sym (day-next f))))

reached : (n : ℕ) (date : Date) → day_number date ≡ n → IsDate date → Weekday date (weekday_of date)
reached zero date e d = follow (λ today t f. absurd (omega arith)) (yesterday date.year date.month date.day d)
reached (suc n) date e d = follow (λ today t f. reached n today (omega arith) t) (yesterday date.year date.month date.day d)

-- A date falls on a weekday exactly where this is its weekday in words.
pub weekday-words : (date : Date) (weekday : ℕ) → (falls_on date weekday ≡ true) ↔ Weekday date weekday
unfolding falls_on
weekday-words date weekday = (from, to)
  where
    from : falls_on date weekday ≡ true → Weekday date weekday
    from h =
        let both = simp and-eq-true_iff at h in
        rw (eqb-true weekday (weekday_of date) both.1) (reached (day_number date) date refl ((date-words date).0 both.0))

    to : Weekday date weekday → falls_on date weekday ≡ true
    to w = rw ((date-words date).1 (weekday_is w).0, eq-eqb weekday (weekday_of date) (weekday_is w).1)

pub weekday-date : {date : Date} {weekday : ℕ} → Weekday date weekday → IsDate date
weekday-date w = (weekday_is w).0

-- Every date has one weekday, 0 to 6.
pub record OneWeekday (date : Date) : Type 0 where
  pub weekday : ℕ
  pub falls : Weekday date weekday
  pub only : (other : ℕ) → Weekday date other → other ≡ weekday
  pub most : weekday ≤ 6

pub one-weekday : (date : Date) → IsDate date ↔ OneWeekday date
unfolding weekday_of
one-weekday date = (from, λ w. (weekday_is w.falls).0)
  where
    from : IsDate date → OneWeekday date
    from d =
        record {
          weekday = weekday_of date;
          falls = reached (day_number date) date refl d;
          only = λ other w. (weekday_is w).1;
          most = omega arith;
        }
