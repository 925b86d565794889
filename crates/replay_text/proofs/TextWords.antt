-- What is said in words: a refused record or block and the end are each one line in which these numbers stand, in this order; how the program is
-- called, to the letter; worked lines; what a writing answers and leaves.
use Rattle.std.specs.Prelude.{ℕ, ◌+◌, ◌*◌, ◌<◌, ◌≡◌, refl, Bool, true, false, ◌&&◌, not, length, eqb}
use Rattle.std.proofs.Math.Path.{ap}
use Rattle.std.proofs.Common.{◌∙◌, not-suc-le-zero, arith, ne_eqb}
use mathlib.Core.List.{List, [], ◌∷◌, ◌++◌, append_assoc}
use Rattle.std.proofs.lemmas.Bool.{false≢true}
use Rattle.laws.specs.All.{all_of, AllOf}
use Rattle.laws.specs.Test.{pick}
use Rattle.laws.specs.TestLaws.{pick_cases}
use Rattle.frame.specs.Refusals.{number_of}
use Rattle.frame.specs.declared.refusal.Refusal.TheVariants as refusals
use Rattle.replay_address.specs.Digits.{is_digit, worth, spelled, spelled_from, IsDigit, digit-iff}
use Rattle.replay_text.specs.Decimal.{decimal, decimal_within}
use Rattle.replay_text.proofs.DecimalLaws.{decimal-digits, decimal-spelled}
use Rattle.replay_text.specs.Texts.{quoted, labelled, meaning, refused_text, counts_text, usage, reason_text, usage_text, message_text}
use Rattle.replay_text.specs.declared.Message.{Message}
use Rattle.replay_text.specs.declared.Message.TheVariants.{BadRecord, Replayed, Usage}
use Rattle.replay_text.specs.declared.Reason.{Reason}
use Rattle.replay_text.specs.declared.Reason.TheVariants.{Asked, NotOneArgument, BadAddress}

-- Where a reading of a text stands: outside of every number, or behind digits that spell a number.
data Reading : Type 0 where
  outside : Reading
  inside : ℕ → Reading

-- The numbers that stand in the rest of a text.
numbers_from : Reading → List ℕ → List ℕ
numbers_from outside [] = []
numbers_from (inside n) [] = n ∷ []
numbers_from outside (b ∷ bs) = pick (is_digit b) (numbers_from (inside (worth b)) bs) (numbers_from outside bs)
numbers_from (inside n) (b ∷ bs) = pick (is_digit b) (numbers_from (inside (10 * n + worth b)) bs) (n ∷ numbers_from outside bs)

-- The numbers that stand in a text, in their order.
pub numbers_in : List ℕ → List ℕ
numbers_in text = numbers_from outside text

-- A text is one line: its first newline is its last byte.
pub is_one_line : List ℕ → Bool
is_one_line [] = false
is_one_line (b ∷ bs) = pick (eqb b 10) (eqb (length bs) 0) (is_one_line bs)

-- Digits read on.
digits_on : (digits rest : List ℕ) (n : ℕ) → AllOf IsDigit digits → numbers_from (inside n) (digits ++ rest) ≡ numbers_from (inside (spelled_from n digits)) rest
unfolding numbers_from spelled_from
digits_on [] rest n h = refl
digits_on (b ∷ bs) rest n h = rw ((digit-iff b).1 h.0) (digits_on bs rest (10 * n + worth b) h.1)

-- Digits are read as the number that they spell.
digits-read : (digits rest : List ℕ) → AllOf IsDigit digits → 0 < length digits → numbers_from outside (digits ++ rest) ≡ numbers_from (inside (spelled digits)) rest
unfolding numbers_from spelled spelled_from
digits-read [] rest h some = absurd (not-suc-le-zero some)
digits-read (b ∷ bs) rest h some =
    let first : 10 * 0 + worth b ≡ worth b = omega arith in
    rw ((digit-iff b).1 h.0, first) (digits_on bs rest (worth b) h.1)

-- A number in decimal is read as the number.
number_read : (n : ℕ) (rest : List ℕ) → numbers_from outside (decimal n ++ rest) ≡ numbers_from (inside n) rest
number_read n rest =
    let text = decimal-digits n in
    digits-read (decimal n) rest text.all text.some ∙ rw (decimal-spelled n)

-- Digits end no line.
digits-line : (digits rest : List ℕ) → AllOf IsDigit digits → is_one_line (digits ++ rest) ≡ is_one_line rest
unfolding is_one_line
digits-line [] rest h = refl
digits-line (b ∷ bs) rest h =
    let other : b ≡ 10 → ⊥ = λ e. omega (arith, h.0) in
    rw (ne_eqb b 10 other) (digits-line bs rest h.1)

number-line : (n : ℕ) (rest : List ℕ) → is_one_line (decimal n ++ rest) ≡ is_one_line rest
number-line n rest = digits-line (decimal n) rest (decimal-digits n).all

-- A byte is no digit and no newline.
unfoldable is_plain : ℕ → Bool
is_plain b = not (is_digit b) && not (eqb b 10)

-- No byte of a label is a digit or a newline.
abbrev Plain : List ℕ → Type 0
Plain label = all_of is_plain label ≡ true

-- So its first byte is neither, and its rest is plain too.
record PlainFirst (b : ℕ) (bs : List ℕ) : Type 0 where
  no_digit : is_digit b ≡ false
  no_end : eqb b 10 ≡ false
  behind : Plain bs

plain_first : (b : ℕ) (bs : List ℕ) → Plain (b ∷ bs) → PlainFirst b bs
unfolding all_of is_plain
plain_first b bs h = by (is_digit b) (eqb b 10) refl refl h
  where
    by : (digit end : Bool) → is_digit b ≡ digit → eqb b 10 ≡ end → (not digit && not end && all_of is_plain bs) ≡ true → PlainFirst b bs
    by false false d e h = record { no_digit = d; no_end = e; behind = h }
    by false true d e h = absurd (false≢true h)
    by true end d e h = absurd (false≢true h)

-- What stands behind a label is read as if it stood alone; the label ends a number before it.
label_line : (label rest : List ℕ) → Plain label → is_one_line (label ++ rest) ≡ is_one_line rest
unfolding is_one_line
label_line [] rest h = refl
label_line (b ∷ bs) rest h = let first = plain_first b bs h in rw first.no_end (label_line bs rest first.behind)

label_read : (label rest : List ℕ) → Plain label → numbers_from outside (label ++ rest) ≡ numbers_from outside rest
unfolding numbers_from
label_read [] rest h = refl
label_read (b ∷ bs) rest h = let first = plain_first b bs h in rw first.no_digit (label_read bs rest first.behind)

label_ends : (label rest : List ℕ) (n : ℕ) → Plain label → 0 < length label → numbers_from (inside n) (label ++ rest) ≡ n ∷ numbers_from outside rest
unfolding numbers_from
label_ends [] rest n h some = absurd (not-suc-le-zero some)
label_ends (b ∷ bs) rest n h some =
    let first = plain_first b bs h in
    rw first.no_digit (ap (λ (l : List ℕ). n ∷ l) (label_read bs rest first.behind))

-- A text is one line, and these numbers stand in it.
pub record Line (text numbers : List ℕ) : Type 0 where
  pub one : is_one_line text ≡ true
  pub says : numbers_in text ≡ numbers

-- What stands behind a number in a line: it ends that number and the line, and these numbers stand in it.
record Behind (text numbers : List ℕ) : Type 0 where
  line : is_one_line text ≡ true
  says : (n : ℕ) → numbers_from (inside n) text ≡ n ∷ numbers

-- The newline; a label and the newline.
newline_behind : Behind (10 ∷ []) []
unfolding is_one_line numbers_from is_digit
newline_behind = record { line = refl; says = λ n. refl }

label_behind : (label : List ℕ) → Plain label → 0 < length label → Behind (label ++ (10 ∷ [])) []
unfolding is_one_line numbers_from is_digit
label_behind label plain some = record { line = label_line label (10 ∷ []) plain; says = λ n. label_ends label (10 ∷ []) n plain some }

-- A label and a number before what stands behind a number: behind another number, or at the front of the line.
module _ (label : List ℕ) (plain : Plain label) (n : ℕ) {rest numbers : List ℕ} (b : Behind rest numbers) where
  joined : labelled label n ++ rest ≡ label ++ (decimal n ++ rest)
  unfolding labelled
  joined = append_assoc label (decimal n) rest

  labelled-one : is_one_line (labelled label n ++ rest) ≡ true
  labelled-one = ap is_one_line joined ∙ label_line label (decimal n ++ rest) plain ∙ number-line n rest ∙ b.line

  labelled-behind : 0 < length label → Behind (labelled label n ++ rest) (n ∷ numbers)
  labelled-behind some =
      record {
        line = labelled-one;
        says = λ before.
            ap (numbers_from (inside before)) joined
            ∙ label_ends label (decimal n ++ rest) before plain some
            ∙ ap (λ (l : List ℕ). before ∷ l) (number_read n rest ∙ b.says n);
      }

  labelled-first : Line (labelled label n ++ rest) (n ∷ numbers)
  unfolding numbers_in
  labelled-first =
      record {
        one = labelled-one;
        says = ap (numbers_from outside) joined ∙ label_read label (decimal n ++ rest) plain ∙ number_read n rest ∙ b.says n;
      }

-- What a refusal means ends the line.
meaning-behind : (refusal : ℕ) → Behind (meaning refusal) []
unfolding meaning all_of is_plain is_digit
meaning-behind refusal =
    pick_cases P (eqb refusal (number_of refusals.BadRecord)) (λ unknown. label_behind (quoted ": an unknown kind of record, or a field out of its range") refl (omega arith))
    (λ other. pick_cases P (eqb refusal (number_of refusals.CutOff)) (λ cut. label_behind (quoted ": the trace ends inside the record") refl (omega arith)) (λ none. newline_behind))
  where
    P : List ℕ → Type 0
    P text = Behind text []

-- The line of a refused record says the refusal's number, and then the place.
refused-line : (refusal place : ℕ) → Line (refused_text refusal place) (refusal ∷ place ∷ [])
unfolding refused_text all_of is_plain is_digit
refused-line refusal place =
    let placed = labelled-behind (quoted " at place ") refl place (meaning-behind refusal) (omega arith) in
    rw append_assoc (labelled-first (quoted "replay_trace: refused with ") refl refusal placed)

-- The line at the end says the records, then the frames, then the replies.
counts_line : (records frames replies : ℕ) → Line (counts_text records frames replies) (records ∷ frames ∷ replies ∷ [])
unfolding counts_text all_of is_plain is_digit
counts_line records frames replies =
    let third = labelled-behind (quoted ", replies ") refl replies newline_behind (omega arith) in
    let second = labelled-behind (quoted ", frames put to the meter ") refl frames third (omega arith) in
    simp append_assoc (labelled-first (quoted "replay_trace: records ") refl records second)

-- How the program is called, behind why that is said.
abbrev pub usage_line : List ℕ
usage_line = quoted "usage: replay_trace ADDRESS < TRACE   plays a trace to a fresh meter of this address, twelve digits, and lists its replies\n"

abbrev pub SaysHow : Reason → List ℕ → Type 0
SaysHow Asked text = text ≡ usage_line
SaysHow NotOneArgument text = text ≡ quoted "replay_trace: one argument is needed, the address of the meter\n" ++ usage_line
SaysHow BadAddress text = text ≡ quoted "replay_trace: the address has to be twelve digits, and not twelve nines\n" ++ usage_line

-- What a message says: of a refused record the refusal's number and the place; at the end the records, the frames and the replies; else how the program is
-- called.
abbrev pub Says : Message → List ℕ → Type 0
Says (BadRecord refusal place) text = Line text (refusal ∷ place ∷ [])
Says (Replayed records frames replies) text = Line text (records ∷ frames ∷ replies ∷ [])
Says (Usage reason) text = SaysHow reason text

-- Every message.
pub message_says : (message : Message) → Says message (message_text message)
unfolding message_text usage_text reason_text usage
message_says (BadRecord refusal place) = refused-line refusal place
message_says (Replayed records frames replies) = counts_line records frames replies
message_says (Usage Asked) = refl
message_says (Usage NotOneArgument) = refl
message_says (Usage BadAddress) = refl

-- A record of an unknown kind at the beginning; a trace that ends inside a record; a number without a meaning here; the end of a replay.
first-refused : refused_text 9 0 ≡ quoted "replay_trace: refused with 9 at place 0: an unknown kind of record, or a field out of its range\n"
unfolding refused_text labelled meaning decimal decimal_within
first-refused = refl

cut_off_lem : refused_text 10 81920 ≡ quoted "replay_trace: refused with 10 at place 81920: the trace ends inside the record\n"
unfolding refused_text labelled meaning decimal decimal_within
cut_off_lem = refl

out_of_ranges : refused_text 16 0 ≡ quoted "replay_trace: refused with 16 at place 0\n"
unfolding refused_text labelled meaning decimal decimal_within
out_of_ranges = refl

three_counts : counts_text 110 7 0 ≡ quoted "replay_trace: records 110, frames put to the meter 7, replies 0\n"
unfolding counts_text labelled decimal decimal_within
three_counts = refl
