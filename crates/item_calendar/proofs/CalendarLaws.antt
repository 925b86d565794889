-- Which numbers are a date: the definition says what the words say.
use Rattle.std.specs.Prelude.{ℕ, ◌%◌, ◌≤◌, ◌≡◌, Bool, true, ◌↔◌, eqb}
use Rattle.std.proofs.Common.{sym, ◌∙◌, inl, inr, arith, eqb-true, eq-eqb}
use Rattle.std.proofs.lemmas.Bool.{false≢true, eqb-false}
use Rattle.std.proofs.Math.Bool.{and-eq-true_iff}
use Rattle.std.proofs.Math.Logic.{⊎_map}
use mathlib.Core.Logic.Iff
use Rattle.laws.specs.TestLaws.{pick_cases, either}
use Rattle.item_range.proofs.RangeLaws.{leb_iff, within-iff}
use Rattle.item_calendar.specs.Calendar.{on, is_leap, has_thirty_days, month_length, is_date}
use Rattle.item_calendar.specs.CalendarWords.{HasThirtyDays, IsDate, Tested}
use Rattle.item_calendar.specs.declared.Date.{Date}

-- Leap when YY divides by four.
pub leap-iff : (year : ℕ) → (is_leap year ≡ true) ↔ (year % 4 ≡ 0)
unfolding is_leap
leap-iff year = (eqb-true (year % 4) 0, eq-eqb (year % 4) 0)

-- Thirty days have April, June, September and November.
thirty-iff : (month : ℕ) → (has_thirty_days month ≡ true) ↔ HasThirtyDays month
unfolding has_thirty_days
thirty-iff month = (from, to)
  where
    from : has_thirty_days month ≡ true → HasThirtyDays month
    from h =
        ⊎_map (eqb-true month 4)
        (λ others. ⊎_map (eqb-true month 6) (λ last. ⊎_map (eqb-true month 9) (eqb-true month 11) (either _ _ last)) (either _ _ others))
        (either _ _ h)

    to : HasThirtyDays month → has_thirty_days month ≡ true
    to (inl e) = rw e
    to (inr (inl e)) = rw e
    to (inr (inr (inl e))) = rw e
    to (inr (inr (inr e))) = rw e

-- February, the four months of thirty days, and the others.
data LengthIs (year month : ℕ) : ℕ → Type 0 where
  leap-february : month ≡ 2 → year % 4 ≡ 0 → LengthIs year month 29
  february : month ≡ 2 → (year % 4 ≡ 0 → ⊥) → LengthIs year month 28
  thirty : (month ≡ 2 → ⊥) → HasThirtyDays month → LengthIs year month 30
  longest : (month ≡ 2 → ⊥) → (HasThirtyDays month → ⊥) → LengthIs year month 31

month-length : (year month : ℕ) → LengthIs year month (month_length (is_leap year) month)
unfolding month_length
month-length year month =
    pick_cases (LengthIs year month) (eqb month 2)
    (λ f. pick_cases (LengthIs year month) (is_leap year)
    (λ l. leap-february (eqb-true _ _ f) ((leap-iff year).0 l))
    (λ l. february (eqb-true _ _ f) (λ e. false≢true (sym l ∙ (leap-iff year).1 e))))
    (λ f. pick_cases (LengthIs year month) (has_thirty_days month)
    (λ t. thirty (eqb-false _ _ f) ((thirty-iff month).0 t))
    (λ t. longest (eqb-false _ _ f) (λ h. false≢true (sym t ∙ (thirty-iff month).1 h))))

-- A day within the length of its month, in words.
module _ {year month day : ℕ} where
  in_thirty : {n : ℕ} → LengthIs year month n → day ≤ n → HasThirtyDays month → day ≤ 30
  in_thirty (longest f t) b h = absurd (t h)
  in_thirty (thirty f t) b h = b
  in_thirty (february m l) b h = omega arith
  in_thirty (leap-february m l) b h = omega arith

  in_february : {n : ℕ} → LengthIs year month n → day ≤ n → month ≡ 2 → day ≤ 29
  in_february (longest f t) b e = absurd (f e)
  in_february (thirty f t) b e = absurd (f e)
  in_february (february m l) b e = omega arith
  in_february (leap-february m l) b e = b

  in_leap : {n : ℕ} → LengthIs year month n → day ≤ n → month ≡ 2 → day ≡ 29 → year % 4 ≡ 0
  in_leap (longest f t) b e d = absurd (f e)
  in_leap (thirty f t) b e d = absurd (f e)
  in_leap (february m l) b e d = omega arith
  in_leap (leap-february m l) b e d = l

  within-length : {n : ℕ} → LengthIs year month n → IsDate (on year month day) → day ≤ n
  within-length (longest f t) d = d.day-most
  within-length (thirty f t) d = d.thirty t
  within-length (february m l) d =
      let other : day ≡ 29 → ⊥ = λ e. l (d.leap m e) in
      omega (arith, d.february m)
  within-length (leap-february m l) d = d.february m

-- A month has 28 to 31 days.
pub month_days : (leap : Bool) (month : ℕ) → (28 ≤ month_length leap month) × (month_length leap month ≤ 31)
unfolding month_length
month_days leap month =
    pick_cases P (eqb month 2) (λ _. pick_cases P leap (λ _. omega arith) (λ _. omega arith))
    (λ _. pick_cases P (has_thirty_days month) (λ _. omega arith) (λ _. omega arith))
  where
    P : ℕ → Type 0
    P n = (28 ≤ n) × (n ≤ 31)

pub date-tests : (date : Date) → (is_date date ≡ true) ↔ Tested date
unfolding is_date
date-tests date = simp (and-eq-true_iff, leb_iff, within-iff) Iff.rfl

-- Numbers are a date exactly where document 01 and W3 say so.
pub date-words : (date : Date) → (is_date date ≡ true) ↔ IsDate date
date-words date = (λ h. from ((date-tests date).0 h), λ d. (date-tests date).1 (to d))
  where
    is : LengthIs date.year date.month (month_length (is_leap date.year) date.month)
    is = month-length date.year date.month

    from : Tested date → IsDate date
    from t =
        record {
          year = t.0;
          month-least = t.1.0.0;
          month-most = t.1.0.1;
          day-least = t.1.1.0;
          day-most = omega (arith, month_days (is_leap date.year) date.month);
          thirty = in_thirty is t.1.1.1;
          february = in_february is t.1.1.1;
          leap = in_leap is t.1.1.1;
        }

    to : IsDate date → Tested date
    to d = (d.year, ((d.month-least, d.month-most), (d.day-least, within-length is d)))
