-- The tests say which case of `exchanged` holds. An allowed request is four FE and a frame; so the frame is heard and handed to the meter, and
-- what is concluded from the meter's answer is what the exchange comes to.
use Prim.Native.Nat.{ℕ}
use Rattle.std.specs.Prelude.{Ok}
use mathlib.Core.Path.{◌≡◌, sym, ◌∙◌}
use mathlib.Core.Bool.{true}
use borrow.Author.Rules.{rules}
use lib.ListN.{take}
use lib.Seq.{length-take-le}
use Rattle.laws.specs.Memory.{outcome}
use Rattle.meter.specs.Meter as meter
use Rattle.meter.specs.Answer.{answered}
use Rattle.reader.specs.Allowed.{is_allowed}
use Rattle.reader.specs.Building.{request_frame, request_bytes}
use Rattle.reader.specs.Allowed as reader
use Rattle.exchange.specs.Exchange.{Memories, memories, enough, exchanged}
use Rattle.exchange.specs.ExchangeTerms.{EnoughMemory}
use Rattle.exchange.proofs.ExchangeLaws.{enough-memory, built-puts, built-refuses, heard-puts, reply-within, carried-through, request_shape}
use Rattle.laws.specs.Puts.{Puts, front-within, front-put}
use Rattle.exchange.proofs.exchange.Goals as goal
use Rattle.exchange.proofs.exchange.Goals.{After-answer-answered, After-build, After-hear-delivered, Else-not-is_enough, Else-not-is_within_ranges, Start}

-- the memory as it is lent
abbrev lent : Start → Memories
lent s = memories s.args.sent.now s.args.heard.now s.args.reply.now s.args.value.now

-- the array fields' lengths
request-sized : (s : Start) → reader.RequestSized s.args.request
request-sized s = search rules

meter-sized : (s : Start) → meter.MeterSized s.args.meter
meter-sized s = search rules

-- the places where one step more is done, back to the start
abbrev start_of : Else-not-is_within_ranges → Start
start_of c = (goal.at.Else-not-is_within_ranges c).Start

abbrev ranges_of : Else-not-is_enough → Else-not-is_within_ranges
ranges_of c = (goal.at.Else-not-is_enough c).Else-not-is_within_ranges

abbrev room_of : After-build → Else-not-is_enough
room_of c = (goal.at.After-build c).Else-not-is_enough

abbrev built_of : After-hear-delivered → After-build
built_of c = (goal.at.After-hear-delivered c).After-build

abbrev heard_of : After-answer-answered → After-hear-delivered
heard_of c = (goal.at.After-answer-answered c).After-hear-delivered

abbrev entry : After-build → Start
entry c = start_of (ranges_of (room_of c))

-- the meter is within its ranges
ranges : (c : Else-not-is_within_ranges) → meter.within_ranges (start_of c).args.meter (start_of c).args.energies.forward (start_of c).args.energies.reverse ≡ true
ranges c = sym c.is_within_ranges.ensures ∙ c.if-not-is_within_ranges.false

-- there is memory enough
is_room : (c : Else-not-is_enough) → enough (lent (start_of (ranges_of c))) ≡ true
is_room c = sym c.is_enough.ensures ∙ c.if-not-is_enough.false

room : (c : Else-not-is_enough) → EnoughMemory (lent (start_of (ranges_of c)))
room c = enough-memory (lent (start_of (ranges_of c))) (is_room c)

module _ (c : After-build) (n : ℕ) (is : c.build.result ≡ Ok n) where
  -- the request is allowed, and its bytes are put into the memory for it
  sends : let s = entry c in (is_allowed s.args.request ≡ true) × Puts (request_bytes s.args.request) n s.args.sent.now c.build.new.out
  sends = built-puts _ (room (room_of c)).sent c.build.ensures is

  -- they are what the receiver is given
  given-bytes : take n c.build.new.out ≡ request_bytes (entry c).args.request
  given-bytes = front-put sends.1

-- their frame is put into the memory of the receiver
hears : (c : After-hear-delivered) → let s = entry (built_of c) in
    Puts (request_frame s.args.request) c.hear-delivered.result s.args.heard.now c.hear-delivered.new.heard
hears c = heard-puts _ (given-bytes (built_of c) _ c.in-Ok.is) c.hear-delivered.ensures

-- it is what the meter is given, and answers
answers : (c : After-answer-answered) → let s = entry (built_of (heard_of c)) in
    outcome c.answer-answered.result c.answer-answered.new.out
    ≡ answered (request_frame s.args.request) s.args.meter s.args.energies.forward s.args.energies.reverse s.args.reply.now
answers c = rw (front-put (hears (heard_of c))) at c.answer-answered.ensures

pub returns-then-not-is_within_ranges : goal.returns-then-not-is_within_ranges
unfolding exchanged
returns-then-not-is_within_ranges c = rw (sym c.is_within_ranges.ensures ∙ c.if-not-is_within_ranges.true, c.refused.ensures)

pub returns-then-not-is_enough : goal.returns-then-not-is_enough
unfolding exchanged
returns-then-not-is_enough c =
    rw (ranges (goal.at.returns-then-not-is_enough c).Else-not-is_within_ranges, sym c.is_enough.ensures ∙ c.if-not-is_enough.true, c.refused-then-not-is_enough.ensures)

pub returns-in_default : goal.returns-in_default
unfolding exchanged
returns-in_default c =
    let b = (goal.at.returns-in_default c).After-build in
    let refusal = built-refuses _ (room (room_of b)).sent b.build.ensures c.in_default.is in
    rw (ranges (ranges_of (room_of b)), is_room (room_of b), refusal.0, refusal.1, c.refused-in_default.ensures)

pub slice_bounds-hear-end : goal.slice_bounds-hear-end
slice_bounds-hear-end c = front-within (sends (goal.at.slice_bounds-hear-end c).After-build _ c.in-Ok.is).1

pub slice_bounds-hear-end-2 : goal.slice_bounds-hear-end-2
slice_bounds-hear-end-2 c = sym (length-take-le _ _ (front-within (sends (goal.at.slice_bounds-hear-end-2 c).After-build _ c.in-Ok.is).1))

pub hear-delivered-requires : goal.hear-delivered-requires
hear-delivered-requires c =
    let b = (goal.at.hear-delivered-requires c).After-build in
    record {
      wake_up_frame = request_shape _ (given-bytes b _ c.in-Ok.is) (request-sized (entry b)) (sends b _ c.in-Ok.is).0;
      most_frame_in_bounds = (room (room_of b)).heard;
    }

pub slice_bounds-answer-end : goal.slice_bounds-answer-end
slice_bounds-answer-end c = front-within (hears (goal.at.slice_bounds-answer-end c).After-hear-delivered)

pub slice_bounds-answer-end-2 : goal.slice_bounds-answer-end-2
slice_bounds-answer-end-2 c = sym (length-take-le _ _ (front-within (hears (goal.at.slice_bounds-answer-end-2 c).After-hear-delivered)))

pub conclude-requires : goal.conclude-requires
conclude-requires c =
    let a = (goal.at.conclude-requires c).After-answer-answered in
    reply-within _ _ _ _ _ (answers a) (meter-sized (entry (built_of (heard_of a))))

pub returns : goal.returns
unfolding exchanged
returns c =
    let a = (goal.at.returns c).After-answer-answered in
    let h = heard_of a in
    let b = built_of h in
    let s = entry b in
    let sent = sends b _ c.in-Ok.is in
    rw (ranges (ranges_of (room_of b)), is_room (room_of b), sent.0)
    (carried-through s.args.request s.args.meter s.args.energies.forward s.args.energies.reverse (lent s) sent.1.memory (hears h) (answers a)
    c.conclude.ensures)
