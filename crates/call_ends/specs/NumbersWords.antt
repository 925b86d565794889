-- The numbers that C is told, each as bench/ends.h has it.
use Rattle.frame.specs.declared.refusal.Refusal.{Refusal}
use Rattle.frame.specs.Refusals.{number_of}
use Rattle.std.specs.Prelude.{ℕ, ◌≡◌, refl, Err, Ok}
use Rattle.reader_judgement.specs.declared.Reply.{Reply}
use Rattle.reader_judgement.specs.declared.Reply.TheVariants.{Error, Value}
use Rattle.item_command.specs.Command.{control_for}
use Rattle.meter.specs.declared.Meter.{Meter}
use Rattle.reader_judgement.specs.Judging.{command_for}
use Rattle.reader_judgement.specs.declared.Action.{Action}
use Rattle.reader_judgement.specs.declared.Action.TheVariants.{ReadData, ReadAddress, WriteData}
use Rattle.call_ends.specs.Numbers.{refusal_of, meter_answer_by, request_built_of, numbered, reply_judged_of, action_of}

-- The control that a meter knows an action by asks for that action.
pub action_back : (action : Action) → action_of (control_for (command_for action)) ≡ action
unfolding action_of
action_back ReadData = refl
action_back ReadAddress = refl
action_back WriteData = refl

-- 0 for what was done, and document 01's number for a refusal.
pub host-numbers : (n : Refusal) → (refusal_of (Ok tt) ≡ 0) × (refusal_of (Err n) ≡ number_of n)
host-numbers n = (refl, refl)

pub frame-numbers : (m : Meter) (n : ℕ) (refusal : Refusal)
    → ((meter_answer_by m (Ok n)).refusal ≡ 0)
    × ((meter_answer_by m (Ok n)).length ≡ n)
    × ((meter_answer_by m (Err refusal)).refusal ≡ number_of refusal)
frame-numbers m n refusal = (refl, refl, refl)

pub build-numbers : (n : ℕ) (refusal : Refusal)
    → ((request_built_of (Ok n)).refusal ≡ 0)
    × ((request_built_of (Ok n)).length ≡ n)
    × ((request_built_of (Err refusal)).refusal ≡ number_of refusal)
build-numbers n refusal = (refl, refl, refl)

-- 0 with a value's length, 1 with an error byte, 2 with a refusal, by its number.
pub judge-numbers : (n : ℕ) (reply : Reply) (refusal : Refusal)
    → ((reply_judged_of (Ok (Value n))).which ≡ 0)
    × ((reply_judged_of (Ok (Value n))).number ≡ n)
    × ((reply_judged_of (Ok (Error n))).which ≡ 1)
    × ((reply_judged_of (Ok (Error n))).number ≡ n)
    × ((reply_judged_of (Err n)).which ≡ 2)
    × ((reply_judged_of (Err n)).number ≡ n)
    × (numbered (Ok reply) ≡ Ok reply)
    × (numbered (Err refusal) ≡ Err (number_of refusal))
judge-numbers n reply refusal = (refl, refl, refl, refl, refl, refl, refl, refl)
