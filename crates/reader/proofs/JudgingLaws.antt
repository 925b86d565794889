-- Laws of the room that a reply's value has, and of the outcome of judging.
use Rattle.std.specs.Prelude.{ℕ, ◌≤◌, ◌≡◌, List, true, length, ◌↔◌, Err, Ok, Result}
use Rattle.frame.specs.declared.refusal.Refusal.{Refusal}
use Rattle.reader_judgement.specs.declared.Reply.{Reply}
use Rattle.reader_judgement.specs.declared.Reply.TheVariants.{Value}
use native.Mathlib.Omega.{arith}
use borrow.Author.Tests.{leb-true, eqb-true}
use Rattle.laws.specs.Memory.{outcome}
use Rattle.laws.specs.TestLaws.{pick_cases}
use Rattle.laws.specs.Checks.{first_failing}
use Rattle.laws.specs.ChecksLaws.{pass_or_any}
use Rattle.frame.specs.Frame.{data_of}
use Rattle.reader_judgement.specs.Judging.{is_error, error_checks, normal_checks, value_start, reply_value, data_judgement}
use Rattle.reader_judgement.specs.declared.Action.{Action}
use Rattle.reader_judgement.specs.declared.Action.TheVariants.{ReadData, ReadAddress, WriteData}
use Rattle.reader.specs.Allowed.{is_allowed, RequestSized}
use Rattle.reader.specs.Judging.{is_judged, judgement_of, written, Fits, judged}
use Rattle.reader.specs.declared.Request.{Request}
use Rattle.reader.proofs.AllowedWords.{AllowedInWords, allowed-words}

-- A reply is judged exactly if document 01 allows its request.
pub judged-words : (request : Request) → RequestSized request → (is_judged request ≡ true) ↔ AllowedInWords request.action request
unfolding is_judged
judged-words request sized = allowed-words request sized

-- A reply to an allowed request is judged.
pub allowed-judged : (request : Request) → is_allowed request ≡ true → is_judged request ≡ true
unfolding is_judged
allowed-judged request h = h

-- Of data that stand in a frame, what is behind the identifier fits into 196 bytes.
module _ (identifier : ℕ) (from payload m : List ℕ) (few : length payload ≤ 200) (room : 196 ≤ length m) where
  value-fits : (action : Action) (n : ℕ) → Fits (first_failing Err (normal_checks action identifier from payload) (Ok (Value n))) (value_start action) payload m
  unfolding normal_checks
  value-fits ReadData n = pass_or_any Err (Ok (Value n)) (λ j. Fits j 4 payload m) _ (λ all. (leb-true _ _ all.0, omega arith)) (λ refusal. tt)
  value-fits ReadAddress n =
      pass_or_any Err (Ok (Value n)) (λ j. Fits j 0 payload m) _ (λ all. (omega arith, omega (arith, eqb-true (length payload) 6 all.0))) (λ refusal. tt)
  value-fits WriteData n =
      pass_or_any Err (Ok (Value n)) (λ j. Fits j 0 payload m) _ (λ all. (omega arith, omega (arith, eqb-true (length payload) 0 all.0))) (λ refusal. tt)

  pub data_judgement_fits : (action : Action) (control : ℕ) → Fits (data_judgement action identifier control from payload) (value_start action) payload m
  unfolding data_judgement
  data_judgement_fits action control =
      pick_cases (λ j. Fits j (value_start action) payload m) (is_error action control)
      (λ e. pass_or_any Err _ (λ j. Fits j (value_start action) payload m) (error_checks payload) (λ all. tt) (λ refusal. tt))
      (λ e. value-fits action (length (reply_value action payload)))

-- The outcome by the judgement: a refusal leaves the memory as it was.
pub judged_by : (request : Request) (bytes m : List ℕ) {judgement : Result Reply Refusal} → judgement ≡ judgement_of request bytes m
    → outcome judgement (written judgement (reply_value request.action (data_of bytes)) m) ≡ judged request bytes m
unfolding judged
judged_by request bytes m e = rw (← e)
