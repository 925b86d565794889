-- What the papers say of an exchange's answer, and all that an exchange can answer: a refusal before anything is sent, and then all is as
-- before; the silence of a meter that the request is not for, which is 3; or what the reader made of the reply, which is never a refusal.
use Rattle.std.specs.Prelude.{ℕ, ◌≡◌, [], Bool, ◌↔◌, ◌⊎◌, Err, Ok, Result}
use Rattle.frame.specs.Refusals.{number_of}
use Rattle.frame.specs.declared.refusal.Refusal.{Refusal}
use Rattle.frame.specs.declared.refusal.Refusal.TheVariants.{NotAllowed, NotForThisMeter, OutOfRange, ShortMemory}
use Rattle.reader_judgement.specs.declared.Reply.{Reply}
use Rattle.reader_judgement.specs.declared.Reply.TheVariants.{Error, Value}
use Rattle.std.proofs.Math.Path.{refl}
use Rattle.std.proofs.Common.{sym, ap, subst, ◌∙◌, inl, inr, arith}
use Rattle.std.proofs.Math.Bool.{true, false, true≢false, and-eq-true_iff}
use borrow.Author.Tests.{leb-true, le-leb}
use Rattle.laws.specs.Memory.{LeftAlone}
use Rattle.laws.specs.Said.{Said, silence, refusal, IsRefusal, Refuses, refuses, answers}
use Rattle.laws.specs.TestLaws.{pick_cases, not_true}
use Rattle.item_command.specs.Addressee.{addressed}
use Rattle.item_command.proofs.AddresseeLaws.{for-iff}
use Rattle.item_command.specs.Reply.{not_authorised}
use Rattle.item_same.specs.SameLaws.{same-equal, equal-same}
use Rattle.energy.specs.Energies.{Rows}
use Rattle.meter.specs.Meter.{MeterSized, within_ranges}
use Rattle.meter.proofs.Ranges.{InRanges, within-ranges}
use Rattle.meter.specs.declared.Meter.{Meter}
use Rattle.meter_decision.specs.Decision.{authorised}
use Rattle.reader.specs.Allowed.{RequestSized, is_allowed}
use Rattle.reader.proofs.AllowedWords.{AllowedInWords, allowed-words}
use Rattle.reader.specs.Building.{sent_to}
use Rattle.reader.specs.declared.Request.{Request}
use Rattle.reader_judgement.specs.Judging.{command_for}
use Rattle.reader_judgement.specs.Said.{judgement_said}
use Rattle.reader_judgement.specs.declared.Action.{Action}
use Rattle.reader_judgement.specs.declared.Action.TheVariants.{ReadData, ReadAddress, WriteData}
use Rattle.exchange.specs.Exchange.{Memories, ExchangeOutcome, outcome_of, refused_with, enough, exchanged}
use Rattle.exchange.proofs.ExchangeLaws.{enough-memory, memory-enough}
use Rattle.exchange.specs.ExchangeTerms.{Typed, MeantFor, IsRead, EnoughMemory, comes_to, Authorised}
use Rattle.exchange.proofs.Foreign.{gets_silence}
use Rattle.exchange.proofs.ReadsAcross.{read_gives}
use Rattle.exchange.proofs.RequestFrameLaws.{address-six}
use Rattle.exchange.proofs.WritesAcross.{write_sets, write_fails}
use Rattle.exchange.specs.declared.ExchangeAnswer.{ExchangeAnswer}
use Rattle.exchange.specs.declared.ExchangeAnswer.TheVariants.{Refused, Silent, Judged}

-- A refusal; the meter's silence, by its number; or the judgement.
abbrev pub exchange_said : ExchangeAnswer → Said
exchange_said (Refused n) = refusal (number_of n)
exchange_said (Silent n) = silence (number_of n)
exchange_said (Judged judgement) = judgement_said judgement

-- A judgement that is no refusal.
abbrev IsGood : Result Reply Refusal → Type 0
IsGood (Ok (Value n)) = Unit
IsGood (Ok (Error byte)) = Unit
IsGood (Err n) = ⊥

-- The answer of an outcome; a judgement that is no refusal says none; and one answer is not another.
abbrev answer : ExchangeOutcome → ExchangeAnswer
answer o = o.returned.answer

good-says : (judgement : Result Reply Refusal) → IsGood judgement → IsRefusal (judgement_said judgement) → ⊥
good-says (Ok (Value n)) good r = r
good-says (Ok (Error byte)) good r = r
good-says (Err n) good r = good

abbrev kind_of : ExchangeAnswer → ℕ
kind_of (Refused n) = 0
kind_of (Silent n) = 1
kind_of (Judged judgement) = 2

module _ (request : Request) (m : Meter) (forward reverse : Rows) (lent : Memories) where
  -- Nothing is sent: the meter is outside its ranges, one of the four memories is too short, or the request is not allowed.
  abbrev pub NotSent : Type 0
  NotSent = (InRanges m forward reverse → ⊥) ⊎ ((EnoughMemory lent → ⊥) ⊎ (AllowedInWords request.action request → ⊥))

  -- The ways that an exchange ends.
  data Ends : Type 0 where
    stops : (n : Refusal) → NotSent → exchanged request m forward reverse lent ≡ outcome_of (refused_with n m) lent → Ends
    silent : (NotSent → ⊥) → exchanged request m forward reverse lent ≡ comes_to request m (Silent NotForThisMeter) [] [] lent → Ends
    judges : (judgement : Result Reply Refusal) → IsGood judgement → (NotSent → ⊥) → (exchanged request m forward reverse lent).returned.answer ≡ Judged judgement → Ends

  -- What is refused, before anything is sent: 16, then 1 for any of the four memories, then 5; all as before.
  pub record ExchangeRefuses : Type 0 where
    pub out_of_range_lem : (InRanges m forward reverse → ⊥) → exchanged request m forward reverse lent ≡ outcome_of (refused_with OutOfRange m) lent
    pub short-memory : InRanges m forward reverse → (EnoughMemory lent → ⊥) → exchanged request m forward reverse lent ≡ outcome_of (refused_with ShortMemory m) lent
    pub not-allowed : InRanges m forward reverse → EnoughMemory lent → (AllowedInWords request.action request → ⊥)
        → exchanged request m forward reverse lent ≡ outcome_of (refused_with NotAllowed m) lent

  pub exchange-refuses : RequestSized request → ExchangeRefuses
  unfolding exchanged
  exchange-refuses sized =
      record {
        out_of_range_lem = λ out. rw (not_true (within_ranges m forward reverse) (λ h. out ((within-ranges m forward reverse).0 h)));
        short-memory =
            λ ranges few. rw ((within-ranges m forward reverse).1 ranges, not_true (enough lent) (λ h. few (enough-memory lent h)));
        not-allowed =
            λ ranges room none. rw (
              (within-ranges m forward reverse).1 ranges,
              memory-enough lent room,
              not_true (is_allowed request) (λ h. none ((allowed-words request sized).0 h)),
            );
      }

  -- What an exchange answers and leaves.
  pub record ExchangeAnswers : Type 0 where
    pub refused : let o = exchanged request m forward reverse lent in
        Refuses {S = Meter × Memories} (exchange_said o.returned.answer) NotSent (m, lent) (o.returned.meter, o.lent)
    -- A silence is 3, and leaves the meter and the memory for reply and value as they were.
    pub silence_is_3 : let o = exchanged request m forward reverse lent in (n : Refusal) → o.returned.answer ≡ Silent n → n ≡ NotForThisMeter
    pub silence_leaves : let o = exchanged request m forward reverse lent in (n : Refusal) → o.returned.answer ≡ Silent n
        → LeftAlone m o.returned.meter × LeftAlone lent.reply o.lent.reply × LeftAlone lent.value o.lent.value
    -- No reply of a meter is refused by the judge.
    pub reply_is_good : (n : Refusal) → (exchanged request m forward reverse lent).returned.answer ≡ Judged (Err n) → ⊥

  module _ (typed : Typed request) (sized : MeterSized m) where
    -- An allowed request to a meter within its ranges, with memory enough.
    module _ (allowed : is_allowed request ≡ true) (ranges : InRanges m forward reverse) (room : EnoughMemory lent) where
      sent : NotSent → ⊥
      sent (inl out) = out ranges
      sent (inr (inl few)) = few room
      sent (inr (inr not)) = not ((allowed-words request typed.sized).0 allowed)

      -- A write is authorised, or it is not.
      write_ends : request.action ≡ WriteData → MeantFor request m → (t a : Bool) → m.key ≡ t
          → authorised 4 request.level request.password m.passwords ≡ a → Ends
      unfolding authorised
      write_ends writes for-meter true true k h =
          let both = (and-eq-true_iff _ _).0 h in
          let right : Authorised request m = record { key_on_lem = k; level = leb-true _ _ both.0; password = same-equal _ _ both.1 } in
          judges (Ok (Value 0)) tt sent (ap answer (write_sets request typed allowed m forward reverse sized ranges lent room writes for-meter right).outcome)
      write_ends writes for-meter true false k h =
          judges (Ok (Error not_authorised)) tt sent
          (ap answer (write_fails request typed allowed m forward reverse sized ranges lent room writes for-meter
          (λ right. true≢false (sym ((and-eq-true_iff _ _).1 (le-leb _ _ right.level, equal-same _ _ right.password)) ∙ h))))
      write_ends writes for-meter false a k h =
          judges (Ok (Error not_authorised)) tt sent
          (ap answer (write_fails request typed allowed m forward reverse sized ranges lent room writes for-meter (λ right. true≢false (sym right.key_on_lem ∙ k))))

      -- It is meant for this meter.
      meant_ends : (action : Action) → request.action ≡ action → MeantFor request m → Ends
      meant_ends ReadData e for-meter =
          judges (Ok (Value _)) tt sent
          (ap answer (read_gives request typed allowed m forward reverse sized ranges lent room (subst IsRead (sym e) tt) for-meter).outcome)
      meant_ends ReadAddress e for-meter =
          judges (Ok (Value _)) tt sent
          (ap answer (read_gives request typed allowed m forward reverse sized ranges lent room (subst IsRead (sym e) tt) for-meter).outcome)
      meant_ends WriteData e for-meter =
          write_ends e for-meter m.key (authorised 4 request.level request.password m.passwords) refl refl

      meant_iff : (addressed (command_for request.action) (sent_to request.action request.address) m.address ≡ true) ↔ MeantFor request m
      meant_iff =
          for-iff (sent_to request.action request.address) m.address (address-six request typed allowed) sized.address
          ranges.address.decimal (command_for request.action)

      sent-ends : (t : Bool) → addressed (command_for request.action) (sent_to request.action request.address) m.address ≡ t → Ends
      sent-ends true e = meant_ends request.action refl (meant_iff.0 e)
      sent-ends false e =
          silent sent (gets_silence request typed allowed m forward reverse sized ranges lent room (λ meant. true≢false (sym (meant_iff.1 meant) ∙ e)))

    ends : Ends
    unfolding exchanged
    ends =
        pick_cases P (within_ranges m forward reverse)
        (λ w. pick_cases P (enough lent)
        (λ r. pick_cases P (is_allowed request)
        (λ a e. sent-ends a ((within-ranges m forward reverse).0 w) (enough-memory lent r) _ refl)
        (λ not e. stops NotAllowed (inr (inr (λ words. true≢false (sym ((allowed-words request typed.sized).1 words) ∙ not)))) e))
        (λ few e. stops ShortMemory (inr (inl (λ room. true≢false (sym (memory-enough lent room) ∙ few)))) e))
        (λ out e. stops OutOfRange (inl (λ ranges. true≢false (sym ((within-ranges m forward reverse).1 ranges) ∙ out))) e)
        refl
      where
        P : ExchangeOutcome → Type 0
        P o = exchanged request m forward reverse lent ≡ o → Ends

    pub exchange-answers : ExchangeAnswers
    exchange-answers = go ends
      where
        go : Ends → ExchangeAnswers
        go (stops n none e) =
            record {
              refused = rw e (refuses none tt);
              silence_is_3 = rw e (λ k said. absurd (omega (arith, ap kind_of said)));
              silence_leaves = rw e (λ k said. absurd (omega (arith, ap kind_of said)));
              reply_is_good = rw e (λ k said. omega (arith, ap kind_of said));
            }
        go (silent sent e) =
            record {
              refused = rw e (answers (λ r. r) sent);
              silence_is_3 = rw e (λ k said. cc);
              silence_leaves = rw e (λ k said. (refl, refl, refl));
              reply_is_good = rw e (λ k said. omega (arith, ap kind_of said));
            }
        go (judges judgement good sent e) =
            record {
              refused = rw e (answers (good-says judgement good) sent);
              silence_is_3 = rw e (λ k said. absurd (omega (arith, ap kind_of said)));
              silence_leaves = rw e (λ k said. absurd (omega (arith, ap kind_of said)));
              reply_is_good = rw e (λ k said. let same : judgement ≡ Err k = cc in subst IsGood same good);
            }
