-- Each arm replies what its decision comes to, and hands back the meter as its command leaves it.
use Prim.Native.Nat.{ℕ, ◌*◌, ◌≤◌}
use mathlib.Core.Path.{◌≡◌, ap, sym, ◌∙◌}
use mathlib.Core.List.{List, [], ◌∷◌}
use mathlib.Core.Bool.{true, false}
use native.Mathlib.Omega.{arith}
use lib.ListN.{length, take}
use borrow.Author.Tests.{eqb-true}
use mathlib.Core.Path.{subst}
use Rattle.laws.specs.Part.{part, with_part}
use Rattle.laws.specs.PartLaws.{part_length}
use Rattle.laws.specs.ChecksLaws.{AllHold}
use lib.Seq.{drop-cons}
use Rattle.item_command.specs.Command.{control_for}
use Rattle.item_command.specs.Reply.{reply_to}
use Rattle.item_command.specs.declared.Command.{Command}
use Rattle.item_command.specs.declared.Command.TheVariants.{ReadData, ReadAddress, WriteData, WriteAddress, ChangePassword}
use Rattle.meter_decision.specs.Request.{new_level_of, new_password_of}
use Rattle.meter_decision.specs.Decision.{checks_of}
use Rattle.meter_decision.proofs.ChecksLaws.{named-level}
use Rattle.meter_decision.proofs.DecisionLaws.{Carries, carries}
use Rattle.meter_decision.specs.declared.Decision.{Decision}
use Rattle.meter.specs.Meter.{with_passwords, untouched}
use Rattle.meter.specs.declared.Meter.{Meter}
use Rattle.meter.specs.Answer.{Treatment, replies, reply_data, meter_after, carried_out, delivered, value_asked}
use Rattle.meter.proofs.CarriedOutLaws.{normally, treated_as, carried-decided}
use Rattle.meter.proofs.answer.Answering.carry_out.Goals as goal
use Rattle.meter.proofs.answer.Answering.carry_out.Goals.{After-decide-decision, In-NewAddress, In-NewPassword, Start}

module _ (c : After-decide-decision) where
  abbrev start : Start
  start = (goal.at.After-decide-decision c).Start

  abbrev payload : List ℕ
  payload = start.args.payload.now

  -- the value held for the item asked for
  abbrev held : List ℕ
  held = let a = start.args in value_asked payload a.self.meter a.self.energies.now.forward a.self.energies.now.reverse

  -- the control code of the normal reply
  normal-control : c.reply_to-normal.result ≡ reply_to (control_for start.args.command) false
  normal-control = c.reply_to-normal.ensures ∙ ap (λ (n : ℕ). reply_to n false) c.from-control.ensures

  -- what the command comes to, and what a decision to carry it out says
  module _ (d : Decision) (e : c.decide-decision.result ≡ d) where
    comes : let a = start.args in
        delivered (treated_as a.command payload a.self.meter held d) a.self.meter a.out.now
        ≡ delivered (carried_out a.command payload a.self.meter held) a.self.meter a.out.now
    comes =
        let a = start.args in
        ap (λ (t : Treatment). delivered t a.self.meter a.out.now)
        (ap (treated_as a.command payload a.self.meter held) (sym e ∙ c.decide-decision.ensures)
        ∙ carried-decided a.command payload a.self.meter held)

    says : let a = start.args in Carries a.command payload a.self.meter.key a.self.meter.passwords d
    says =
        let a = start.args in
        subst (Carries a.command payload a.self.meter.key a.self.meter.passwords) (sym c.decide-decision.ensures ∙ e)
        (carries a.command payload a.self.meter.key a.self.meter.passwords)

  -- the normal reply to a command
  replied : (command : Command) → start.args.command ≡ command → let a = start.args in
      delivered
      (replies c.reply_to-normal.result (reply_data command payload a.self.meter held) (meter_after command payload a.self.meter))
      a.self.meter a.out.now
      ≡ delivered (normally a.command payload a.self.meter held) a.self.meter a.out.now
  replied command e =
      let a = start.args in
      ap
      (λ (n : ℕ). delivered (replies n (reply_data command payload a.self.meter held) (meter_after command payload a.self.meter)) a.self.meter a.out.now)
      normal-control
      ∙ ap
      (λ (k : Command). delivered
      (replies (reply_to (control_for a.command) false) (reply_data k payload a.self.meter held) (meter_after k payload a.self.meter)) a.self.meter
      a.out.now)
      (sym e)

-- the checks of 15 and of 18 that the parts need
new-address : (c : In-NewAddress) → let s = start (goal.at.In-NewAddress c).After-decide-decision in
    (s.args.command ≡ WriteAddress) × AllHold (checks_of WriteAddress (payload (goal.at.In-NewAddress c).After-decide-decision) s.args.self.meter.key s.args.self.meter.passwords)
new-address c = says (goal.at.In-NewAddress c).After-decide-decision _ c.in-NewAddress.is

address-six : (c : In-NewAddress) → length (payload (goal.at.In-NewAddress c).After-decide-decision) ≡ 6
unfolding checks_of
address-six c = eqb-true _ _ (new-address c).1.0

abbrev decide_of : In-NewPassword → After-decide-decision
decide_of c = (goal.at.In-NewPassword c).After-decide-decision

new-password : (c : In-NewPassword) → let s = start (decide_of c) in
    (s.args.command ≡ ChangePassword)
    × (c.in-NewPassword.level ≡ new_level_of (payload (decide_of c)))
    × AllHold (checks_of ChangePassword (payload (decide_of c)) s.args.self.meter.key s.args.self.meter.passwords)
new-password c = says (decide_of c) _ c.in-NewPassword.is

twelve : (c : In-NewPassword) → length (payload (decide_of c)) ≡ 12
unfolding checks_of
twelve c = eqb-true _ _ (new-password c).2.0

level : (c : In-NewPassword) → c.in-NewPassword.level ≤ 9
unfolding checks_of
level c = omega (arith, (new-password c).1, named-level _ _ (new-password c).2.1.0)

pub reply_value-requires : goal.reply_value-requires
reply_value-requires c =
    let d = (goal.at.reply_value-requires c).After-decide-decision in
    let carried = says d _ c.in-Read.is in
    record { identifier_value = (carried.1, c.requires); all_hold = carried.2 }

pub written-requires : goal.written-requires
written-requires c =
    let carried = says (goal.at.written-requires c).After-decide-decision _ c.in-Write.is in
    record { identifier_value = carried.1; all_hold = carried.2 }

pub readdressed-requires : goal.readdressed-requires
readdressed-requires c = address-six (goal.at.readdressed-requires c).In-NewAddress

pub slice_bounds-with_password-end : goal.slice_bounds-with_password-end
slice_bounds-with_password-end c = omega (arith, twelve (goal.at.slice_bounds-with_password-end c).In-NewPassword)

pub with_password-after-requires : goal.with_password-after-requires
with_password-after-requires c =
    let k = (goal.at.with_password-after-requires c).In-NewPassword in
    (level k, part_length 9 3 (payload (decide_of k)) (omega (arith, twelve k)))

pub reply-requires-in-NewPassword : goal.reply-requires-in-NewPassword
reply-requires-in-NewPassword c =
    let k = (goal.at.reply-requires-in-NewPassword c).In-NewPassword in
    (omega (arith, part_length 8 4 (payload (decide_of k)) (omega (arith, twelve k))), c.requires)

pub returns-in-Silent : goal.returns-in-Silent
unfolding delivered
returns-in-Silent c = rw c.refused.ensures (comes (goal.at.returns-in-Silent c).After-decide-decision _ c.in-Silent.is)

pub returns-in-Error : goal.returns-in-Error
unfolding delivered
returns-in-Error c =
    let a = c.args in
    let byte : ℕ = c.in-Error.byte in
    c.reply.ensures
    ∙ ap (λ (m : Meter). delivered (replies c.reply_to.result (byte ∷ []) m) a.self.meter a.out.now) c.untouched.ensures
    ∙ ap (λ (n : ℕ). delivered (replies n (byte ∷ []) (untouched a.self.meter)) a.self.meter a.out.now)
    (c.reply_to.ensures ∙ ap (λ (n : ℕ). reply_to n true) c.from-control.ensures)
    ∙ comes (goal.at.returns-in-Error c).After-decide-decision _ c.in-Error.is

pub returns-in-Read : goal.returns-in-Read
unfolding meter_after
returns-in-Read c =
    let d = (goal.at.returns-in-Read c).After-decide-decision in
    c.reply_value.ensures
    ∙ replied d ReadData (says d _ c.in-Read.is).0
    ∙ comes d _ c.in-Read.is

pub returns-in-OwnAddress : goal.returns-in-OwnAddress
unfolding delivered reply_data meter_after
returns-in-OwnAddress c =
    let d = (goal.at.returns-in-OwnAddress c).After-decide-decision in
    let a = c.args in
    c.reply-in-OwnAddress.ensures
    ∙ ap (λ (m : Meter). delivered (replies c.reply_to-normal.result a.self.meter.address m) a.self.meter a.out.now) c.untouched-in-OwnAddress.ensures
    ∙ replied d ReadAddress (says d _ c.in-OwnAddress.is).0
    ∙ comes d _ c.in-OwnAddress.is

pub returns-in-Write : goal.returns-in-Write
unfolding delivered reply_data
returns-in-Write c =
    let d = (goal.at.returns-in-Write c).After-decide-decision in
    let a = c.args in
    c.reply-in-Write.ensures
    ∙ ap (λ (m : Meter). delivered (replies c.reply_to-normal.result [] m) a.self.meter a.out.now) c.written.ensures
    ∙ replied d WriteData (says d _ c.in-Write.is).0
    ∙ comes d _ c.in-Write.is

pub returns-in-NewAddress : goal.returns-in-NewAddress
unfolding delivered reply_data meter_after
returns-in-NewAddress c =
    let d = (goal.at.returns-in-NewAddress c).After-decide-decision in
    let a = c.args in
    c.reply-in-NewAddress.ensures
    ∙ ap (λ (m : Meter). delivered (replies c.reply_to-normal.result [] m) a.self.meter a.out.now) c.readdressed.ensures
    ∙ replied d WriteAddress (says d _ c.in-NewAddress.is).0
    ∙ comes d _ c.in-NewAddress.is

pub returns-in-NewPassword : goal.returns-in-NewPassword
unfolding delivered reply_data meter_after new_level_of new_password_of
returns-in-NewPassword c =
    let k = (goal.at.returns-in-NewPassword c).In-NewPassword in
    let d = decide_of k in
    let a = c.args in
    let own : List ℕ = payload d in
    let after : c.with_password-after.result ≡ meter_after ChangePassword own a.self.meter =
    c.with_password-after.ensures ∙ ap (λ (n : ℕ). with_passwords (with_part (3 * n) (part 9 3 own) a.self.meter.passwords) a.self.meter) (new-password k).1 in
    let reply : part 8 4 own ≡ new_level_of own ∷ new_password_of own = ap (take 4) (drop-cons own 8 0 (omega (arith, twelve k))) in
    c.reply-in-NewPassword.ensures
    ∙ ap (λ (m : Meter). delivered (replies d.reply_to-normal.result (part 8 4 own) m) a.self.meter a.out.now) after
    ∙ ap (λ (l : List ℕ). delivered (replies d.reply_to-normal.result l (meter_after ChangePassword own a.self.meter)) a.self.meter a.out.now) reply
    ∙ replied d ChangePassword (new-password k).0
    ∙ comes d _ k.in-NewPassword.is
