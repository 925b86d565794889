-- Every reply is one frame whose address is the meter's own; after 15 it is the new one.
use Prim.Native.Nat.{ℕ, ◌+◌, ◌≤◌}
use Rattle.std.specs.Prelude.{◌≡◌, true, false, Ok}
use Rattle.std.proofs.Common.{sym, ◌∙◌, true≢false, arith, take_at, drop_at}
use Rattle.std.proofs.Math.Path.{ap}
use mathlib.Core.List.{List, [], ◌∷◌, append-nil}
use Rattle.std.proofs.Math.ListN.{length, take, drop}
use Rattle.frame.specs.Frame.{Frame, address_of, control_of, data_of, frame_for}
use Rattle.frame.proofs.FrameLaws.{frame-for, frame-for-length, address-back}
use Rattle.item_command.specs.Reply.{reply_to}
use Rattle.energy.specs.Energies.{Rows}
use Rattle.meter.specs.Meter.{MeterSized, untouched}
use Rattle.item_command.specs.Command.{control_for}
use Rattle.meter.specs.Answer.{replies, reply_data, meter_after, delivered, answered, value_asked}
use Rattle.meter_decision.proofs.DecisionLaws.{fails_silently}
use Rattle.meter.proofs.MeterAfterLaws.{sized-after, address_kept, reply-fits}
use Rattle.meter.proofs.AnswerLaws.{not-replied, reaches-one, Answers, refuses, errs, carries, answers}
use Rattle.meter.specs.declared.Meter.{Meter}
use Rattle.item_command.specs.declared.Command.TheVariants.{WriteAddress}
use Rattle.meter.proofs.MeterLaws.{untouched-keeps, untouched-sized}

-- The first `n` bytes of the memory are one frame from the address that the meter then has; beyond it the memory is as it was.
pub record RepliesFromOwn (bytes : List ℕ) (m : Meter) (forward reverse : Rows) (memory : List ℕ) (n : ℕ) : Type 0 where
  pub whole : Frame (take n (answered bytes m forward reverse memory).memory)
  pub from : address_of (take n (answered bytes m forward reverse memory).memory) ≡ (answered bytes m forward reverse memory).answer.meter.address
  pub own : (control_of bytes ≡ 0x15 → ⊥) → (answered bytes m forward reverse memory).answer.meter.address ≡ m.address
  pub new : control_of bytes ≡ 0x15 → (answered bytes m forward reverse memory).answer.meter.address ≡ data_of bytes
  pub beyond : drop n (answered bytes m forward reverse memory).memory ≡ drop n memory

-- A reply of data that fit, from an address that the meter then has.
module _ (bytes : List ℕ) (m : Meter) (forward reverse : Rows) (memory : List ℕ) (n : ℕ)
    (h : (answered bytes m forward reverse memory).answer.answer ≡ Ok n) where
  delivers : (control : ℕ) (payload : List ℕ) (after : Meter) → length after.address ≡ 6 → length payload ≤ 200
      → ((control_of bytes ≡ 0x15 → ⊥) → after.address ≡ m.address) → (control_of bytes ≡ 0x15 → after.address ≡ data_of bytes)
      → answered bytes m forward reverse memory ≡ delivered (replies control payload after) m memory → RepliesFromOwn bytes m forward reverse memory n
  unfolding delivered
  delivers control payload after six most own new e =
      let f : List ℕ = frame_for after.address control payload in
      let said : Ok (12 + length payload) ≡ Ok n = rw e at h in
      let size : 12 + length payload ≡ n = cc in
      let long : length f ≡ n = frame-for-length after.address control payload six ∙ size in
      let front : take n (answered bytes m forward reverse memory).memory ≡ f = rw e (take_at f (drop (length f) memory) n long) in
      record {
        whole = rw front (frame-for after.address control payload six most);
        from = rw (front, e) (rw append-nil at (address-back after.address control payload [] six));
        own = rw e own;
        new = rw e new;
        beyond = rw e (drop_at f (drop (length f) memory) n long ∙ ap (λ (k : ℕ). drop k memory) long);
      }

pub reply-from-own : (bytes : List ℕ) (m : Meter) (forward reverse : Rows) (memory : List ℕ) (n : ℕ) → MeterSized m
    → (answered bytes m forward reverse memory).answer.answer ≡ Ok n → RepliesFromOwn bytes m forward reverse memory n
unfolding meter_after
reply-from-own bytes m forward reverse memory n sized h = go (answers bytes m forward reverse memory)
  where
    go : Answers bytes m forward reverse memory → RepliesFromOwn bytes m forward reverse memory n
    go (refuses k small e) = absurd (not-replied (rw e at h))
    go (errs command b w loud e) =
        delivers bytes m forward reverse memory n h (reply_to (control_for command) true) (b ∷ []) (untouched m) (untouched-sized m sized).address (omega arith) (λ _. (untouched-keeps m).address)
        (λ c. absurd (true≢false (ap fails_silently (sym (reaches-one w WriteAddress c)) ∙ loud)))
        e
    go (carries command w all e) =
        delivers bytes m forward reverse memory n h (reply_to (control_for command) false) (reply_data command (data_of bytes) m (value_asked (data_of bytes) m forward reverse))
        (meter_after command (data_of bytes) m)
        (sized-after command (data_of bytes) m sized all).address
        (omega (arith, reply-fits command (data_of bytes) m forward reverse sized all))
        (λ other. address_kept command (data_of bytes) m (λ c. other (w.control ∙ c)))
        (λ c. rw (reaches-one w WriteAddress c))
        e
