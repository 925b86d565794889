-- Where the memory has room, `receive_all` leaves the input heard, and the silence is one symbol more, which is never refused: what it
-- delivers is gathered behind the rest.
use Rattle.std.proofs.Common.{ℕ, ◌≡◌, ◌≤◌, ◌+◌, ap, ◌∙◌, refl, replicate, arith, length, take, length-take, length-take-le}
use Rattle.line_terms.specs.Line.{silence}
use Rattle.receive_line.proofs.WholeLineLaws.{never-refused, end-within, end_fits, line-received, too_short}
use Rattle.receive_line.proofs.receive_line.Goals as goal
use Rattle.receive_line.proofs.receive_line.Goals.{In-Ok}

-- what the silence delivers lies within its memory
within : (c : In-Ok) → c.in-Ok.delivered.bytes ≤ length c.silence.new.out
within c = end-within c.args.input.now (replicate 212 0) refl c.if-out-input.false c.receive_all-at.ensures c.silence.ensures c.in-Ok.is

long : (c : In-Ok) → length (take c.in-Ok.delivered.bytes c.silence.new.out) ≡ c.in-Ok.delivered.bytes
long c = length-take-le _ _ (within c)

pub returns-then-out-input : goal.returns-then-out-input
returns-then-out-input c = too_short c.args.input.now c.args.out.now c.if-out-input.true

pub slice_bounds-scratch-end : goal.slice_bounds-scratch-end
slice_bounds-scratch-end c = omega (arith, within (goal.at.slice_bounds-scratch-end c).In-Ok)

pub slice_bounds-gather-end : goal.slice_bounds-gather-end
slice_bounds-gather-end c = simp length-take (omega (arith, within (goal.at.slice_bounds-gather-end c).In-Ok))

-- there is room for it
pub gather-requires : goal.gather-requires
gather-requires c =
    let fits = end_fits c.args.input.now (replicate 212 0) refl c.if-out-input.false c.receive_all-at.ensures c.silence.ensures c.in-Ok.is in
    simp length-take (omega (arith, fits))

pub returns-in-Err : goal.returns-in-Err
returns-in-Err c =
    absurd (never-refused silence (replicate 212 0) c.receive_all-at.ensures.heard (omega arith) c.silence.ensures c.in-Err.is)

pub returns-in-Ok : goal.returns-in-Ok
returns-in-Ok c =
    line-received c.args.input.now (replicate 212 0) refl c.if-out-input.false c.receive_all-at.ensures c.silence.ensures c.in-Ok.is
    (c.gather.ensures.0 ∙ ap (λ (n : ℕ). c.receive_all-at.result.at + n) (long (goal.at.returns-in-Ok c).In-Ok)) c.gather.ensures.1
