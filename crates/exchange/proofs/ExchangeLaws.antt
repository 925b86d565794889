-- Laws of the steps of an exchange: the request that is built, the frame that is heard, the reply within its memory, and all of them together.
use Rattle.std.specs.Prelude.{ℕ, ◌≤◌, ◌≡◌, refl, List, ◌∷◌, [], true, false, length, drop, Err, Ok, Result}
use Rattle.frame.specs.declared.refusal.Refusal.{Refusal}
use Rattle.std.proofs.Math.Path.{sym, ap, subst}
use Rattle.std.proofs.Common.{◌∙◌, arith, le-leb, leb-true}
use Rattle.std.proofs.Math.Bool.{and-eq-true_iff}
use Rattle.std.proofs.Math.ListN.{length-append}
use Rattle.frame.specs.Frame.{Frame, data_of}
use Rattle.frame.proofs.FrameLaws.{frame-for, frame-for-length}
use Rattle.laws.specs.Memory.{Outcome, outcome, over}
use Rattle.laws.specs.TestLaws.{pick_cases}
use Rattle.laws.specs.Puts.{Puts}
use Rattle.item_command.specs.Reply.{reply_to}
use Rattle.energy.specs.Energies.{Rows}
use Rattle.meter.specs.Meter as meter
use Rattle.item_command.specs.Command.{control_for}
use Rattle.meter.specs.Answer.{replies, reply_data, meter_after, delivered, answered, value_asked}
use Rattle.meter.proofs.MeterAfterLaws.{sized-after}
use Rattle.meter.proofs.AnswerLaws.{Answers, refuses, errs, carries, answers}
use Rattle.meter.specs.declared.Meter.{Meter}
use Rattle.meter.specs.declared.Answered.{Answered}
use Rattle.reader.specs.Allowed.{RequestSized, is_allowed}
use Rattle.reader.specs.Building.{request_frame, request_bytes, built}
use Rattle.reader.proofs.BuildingLaws.{request-length, sent-six}
use Rattle.reader.specs.declared.Request.{Request}
use Rattle.exchange.specs.Exchange.{Memories, memories, outcome_of, is_enough, enough, WakeUpFrame, WithinReply, concluded, carried}
use Rattle.exchange.specs.ExchangeTerms.{EnoughMemory}
use Rattle.exchange.specs.declared.Exchanged.{Exchanged}
use Rattle.meter.proofs.MeterLaws.{untouched-sized}

-- Memory of which the test holds has the asked sizes.
pub enough-memory : (lent : Memories) → enough lent ≡ true → EnoughMemory lent
unfolding is_enough
enough-memory lent h =
    let parts = simp and-eq-true_iff at h in
    record {
      sent = leb-true _ _ parts.0;
      heard = leb-true _ _ parts.1.0;
      reply = leb-true _ _ parts.1.1.0;
      value = leb-true _ _ parts.1.1.1;
    }

pub memory-enough : (lent : Memories) → EnoughMemory lent → enough lent ≡ true
unfolding is_enough
memory-enough lent room = rw (le-leb 66 _ room.sent, le-leb 212 _ room.heard, le-leb 212 _ room.reply, le-leb 196 _ room.value)

-- A length is no refusal.
no_refusal : {n : ℕ} {k : Refusal} → Ok n ≡ Err k → ⊥
no_refusal e = let z : ◌≡◌ {A = ℕ} 0 1 = cc in omega arith

-- What building leaves, where there is memory enough.
module _ (request : Request) {answer : Result ℕ Refusal} {m left : List ℕ} (room : 66 ≤ length m) (e : outcome answer left ≡ built request m) where
  -- With a length: the request is allowed, and its bytes are put there.
  pub built-puts : {n : ℕ} → answer ≡ Ok n → (is_allowed request ≡ true) × Puts (request_bytes request) n m left
  unfolding built
  built-puts {n} told =
      pick_cases (λ (o : Outcome (Result ℕ Refusal)). outcome answer left ≡ o → (is_allowed request ≡ true) × Puts (request_bytes request) n m left) (is_allowed request)
      (λ allowed f. let said : Ok n ≡ Ok (length (request_bytes request)) = sym told ∙ ap (λ (o : Outcome (Result ℕ Refusal)). o.answer) f in
      (allowed, record { count = cc said; memory = ap (λ (o : Outcome (Result ℕ Refusal)). o.memory) f }))
      (λ refused f. absurd (no_refusal (sym told ∙ ap (λ (o : Outcome (Result ℕ Refusal)). o.answer) f)))
      (rw (le-leb 66 (length m) room) at e)

  -- With a refusal: the request is not allowed, and the memory is as it was.
  pub built-refuses : {k : Refusal} → answer ≡ Err k → (is_allowed request ≡ false) × (left ≡ m)
  unfolding built
  built-refuses told =
      pick_cases (λ (o : Outcome (Result ℕ Refusal)). outcome answer left ≡ o → (is_allowed request ≡ false) × (left ≡ m)) (is_allowed request)
      (λ allowed f. absurd (no_refusal (sym (ap (λ (o : Outcome (Result ℕ Refusal)). o.answer) f) ∙ told)))
      (λ refused f. (refused, ap (λ (o : Outcome (Result ℕ Refusal)). o.memory) f))
      (rw (le-leb 66 (length m) room) at e)

-- The frame of an allowed request is one.
pub sent-frame : (request : Request) → RequestSized request → is_allowed request ≡ true → Frame (request_frame request)
unfolding request_frame
sent-frame request sized allowed =
    let few = request-length request sized allowed in
    frame-for _ _ _ (sent-six request.action request.address sized.address) (omega arith)

module _ (request : Request) {bytes : List ℕ} (same : bytes ≡ request_bytes request) where
  -- The bytes of an allowed request are four FE and that frame.
  pub request_shape : RequestSized request → is_allowed request ≡ true → WakeUpFrame bytes
  unfolding request_bytes
  request_shape sized allowed = rw same (record { waking = refl; frame = sent-frame request sized allowed })

  -- Where they are heard, it is the request's frame that is put into the receiver's memory.
  pub heard-puts : {n : ℕ} {m left : List ℕ} → outcome n left ≡ outcome (length (drop 4 bytes)) (over (drop 4 bytes) m)
      → Puts (request_frame request) n m left
  unfolding request_bytes
  heard-puts e =
      let f = rw same at e in
      record { count = ap (λ (o : Outcome ℕ). o.answer) f; memory = ap (λ (o : Outcome ℕ). o.memory) f }

-- A reply lies within the memory that it is answered with.
abbrev WithinMemory : Outcome Answered → Type 0
WithinMemory o = WithinReply o.answer.answer o.memory

module _ (bytes : List ℕ) (m : Meter) (forward reverse : Rows) (memory : List ℕ) {answer : Answered} {reply : List ℕ}
    (a : outcome answer reply ≡ answered bytes m forward reverse memory) where
  -- A frame that is delivered has the length that is answered.
  frame-within : (control : ℕ) (payload : List ℕ) (after : Meter) → length after.address ≡ 6
      → answered bytes m forward reverse memory ≡ delivered (replies control payload after) m memory → WithinReply answer.answer reply
  unfolding delivered
  frame-within control payload after six e =
      subst WithinMemory (sym (a ∙ e)) (rw length-append (omega (arith, frame-for-length after.address control payload six)))

  -- So does a meter's reply.
  pub reply-within : meter.MeterSized m → WithinReply answer.answer reply
  reply-within sized = go (answers bytes m forward reverse memory)
    where
      go : Answers bytes m forward reverse memory → WithinReply answer.answer reply
      go (refuses k small e) = subst WithinMemory (sym (a ∙ e)) tt
      go (errs command b w loud e) = frame-within (reply_to (control_for command) true) (b ∷ []) (meter.untouched m) (untouched-sized m sized).address e
      go (carries command w all e) =
          frame-within (reply_to (control_for command) false) (reply_data command (data_of bytes) m (value_asked (data_of bytes) m forward reverse))
          (meter_after command (data_of bytes) m) (sized-after command (data_of bytes) m sized all).address e

-- Each step done on what the one before it left is the exchange carried through.
pub carried-through : (request : Request) (m : Meter) (forward reverse : Rows) (lent : Memories) {sent heard reply value : List ℕ} {n : ℕ}
    {answer : Answered} {result : Exchanged}
    → sent ≡ over (request_bytes request) lent.sent → Puts (request_frame request) n lent.heard heard
    → outcome answer reply ≡ answered (request_frame request) m forward reverse lent.reply
    → outcome result value ≡ concluded request n answer reply lent.value
    → outcome_of result (memories sent heard reply value) ≡ carried request m forward reverse lent
unfolding carried
carried-through request m forward reverse lent p q r s = rw (p, q.memory, ← r, ← q.count, ← s)
