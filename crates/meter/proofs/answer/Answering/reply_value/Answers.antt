-- The data are put at their place and the frame is written in place, which is the frame written; it fits, so the other way out is not taken.
use Prim.Native.Nat.{ℕ, ◌+◌, ◌≤◌}
use Rattle.std.specs.Prelude.{Ok, Result, ℕ}
use Rattle.meter_holding.specs.declared.HeldError.{HeldError}
use mathlib.Core.Path.{◌≡◌, ap, sym, ◌∙◌}
use mathlib.Core.List.{List}
use native.Mathlib.Omega.{arith}
use lib.ListN.{length, take, length-append}
use lib.Seq.{length-take-le}
use borrow.Author.Tests.{eqb-true}
use Rattle.laws.specs.Memory.{Outcome, outcome}
use Rattle.frame_parts.specs.Writing.{writing, writing_in_place}
use Rattle.frame_parts.specs.WritingLaws.{in_place_written}
use Rattle.meter_decision.specs.Decision.{checks_of}
use Rattle.item_command.specs.declared.Command.TheVariants.{ReadData}
use Rattle.meter.specs.Meter.{MeterSized, untouched}
use Rattle.meter.specs.declared.Meter.{Meter}
use Rattle.meter.specs.Answer.{reply_data, value_asked, answered_with}
use Rattle.meter.proofs.CarriedOutLaws.{reply-length, reply-delivered}
use Rattle.meter.proofs.MeterAfterLaws.{reply-fits}
use borrow.Author.Rules.{rules}
use Rattle.meter.proofs.answer.Answering.reply_value.Goals as goal
use Rattle.meter.proofs.answer.Answering.reply_value.Goals.{After-place_value, After-write_frame_in_place, In-Ok, In-Ok-write_frame_in_place, Start}

-- the array fields' lengths
sized : (s : Start) → MeterSized s.args.self.meter
sized s = search rules

module _ (s : Start) where
  -- the value and the data of the reply, which fit a frame
  abbrev value : List ℕ
  value = let a = s.args in value_asked a.payload.now a.self.meter a.self.energies.now.forward a.self.energies.now.reverse

  abbrev payload : List ℕ
  payload = reply_data ReadData s.args.payload.now s.args.self.meter value

  few : length payload ≤ 200
  few = let a = s.args in reply-fits ReadData a.payload.now a.self.meter a.self.energies.now.forward a.self.energies.now.reverse (sized s) s.requires.all_hold

  counted : 4 + length value ≡ length payload
  unfolding checks_of reply_data
  counted =
      let four : length s.args.payload.now ≡ 4 = eqb-true _ _ s.requires.all_hold.0 in
      sym (length-append (take 4 s.args.payload.now) value ∙ ap (λ (n : ℕ). n + length value) (length-take-le 4 s.args.payload.now (omega arith)))

-- the places back to the start
abbrev known_of : After-write_frame_in_place → In-Ok
known_of c = (goal.at.After-write_frame_in_place c).In-Ok

abbrev place_of : In-Ok → After-place_value
place_of c = (goal.at.In-Ok c).After-place_value

abbrev start_of : After-place_value → Start
start_of c = (goal.at.After-place_value c).Start

-- the value is always put
answer : (c : After-place_value) → c.place_value.result ≡ Ok (length (value (start_of c)))
answer c = ap (λ (o : Outcome (Result ℕ HeldError)). o.answer) c.place_value.ensures

many : (c : In-Ok) → 4 + c.in-Ok.length ≡ length (payload (start_of (place_of c)))
many c =
    let s = start_of (place_of c) in
    let same : Ok c.in-Ok.length ≡ Ok (length (value s)) = sym c.in-Ok.is ∙ answer (place_of c) in
    let equal : c.in-Ok.length ≡ length (value s) = cc in
    ap (λ (n : ℕ). 4 + n) equal ∙ counted s

module _ (c : After-write_frame_in_place) where
  abbrev start : Start
  start = start_of (place_of (known_of c))

  -- what is written in place is the frame written
  wrote : outcome c.write_frame_in_place.result c.write_frame_in_place.new.out
      ≡ writing (untouched start.args.self.meter).address start.args.control (payload start) start.args.out.now
  unfolding untouched
  wrote =
      let a = start.args in
      c.write_frame_in_place.ensures
      ∙ ap (λ (n : ℕ). writing_in_place a.self.meter.address a.control n (place_of (known_of c)).place_value.new.out) (many (known_of c))
      ∙ ap (λ (o : Outcome (Result ℕ HeldError)). writing_in_place a.self.meter.address a.control (length (payload start)) o.memory) (place_of (known_of c)).place_value.ensures
      ∙ in_place_written a.self.meter.address a.control (payload start) a.out.now (sized start).address (few start) (omega (arith, few start, start.requires.identifier_value.1))

pub returns-in_default : goal.returns-in_default
returns-in_default c =
    let p = (goal.at.returns-in_default c).After-place_value in
    absurd (c.in_default.not-Ok _ (answer p))

pub returns-in_default-write_frame_in_place : goal.returns-in_default-write_frame_in_place
returns-in_default-write_frame_in_place c =
    let w = (goal.at.returns-in_default-write_frame_in_place c).After-write_frame_in_place in
    let s = start w in
    let a = s.args in
    let n = reply-length (untouched a.self.meter) a.control (payload s) a.out.now (few s) s.requires.identifier_value.1 _ _ (wrote w) in
    absurd (c.in_default-write_frame_in_place.not-Ok _ n)

pub returns : goal.returns
returns c =
    let k = (goal.at.returns c).In-Ok-write_frame_in_place in
    let w = (goal.at.returns c).After-write_frame_in_place in
    let s = start w in
    let a = s.args in
    ap (λ (m : Meter). outcome (answered_with m (Ok k.in-Ok-write_frame_in_place.n)) w.write_frame_in_place.new.out) c.untouched.ensures
    ∙ reply-delivered (untouched a.self.meter) a.control (payload s) a.out.now (few s) s.requires.identifier_value.1 _ _ (wrote w) a.self.meter _ k.in-Ok-write_frame_in_place.is

pub overflow_add-length : goal.overflow_add-length
overflow_add-length c = omega (arith, many (goal.at.overflow_add-length c).In-Ok, few (start_of (place_of (goal.at.overflow_add-length c).In-Ok)))
