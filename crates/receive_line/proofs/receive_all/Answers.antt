-- A call has memory enough, so it is never refused, and what it delivers fits, since the frames found have no more bytes than were passed.
use Rattle.std.proofs.Common.{ℕ, ◌≡◌, ◌≤◌, ◌+◌, ap, sym, ◌∙◌, refl, rules, length, take, length-take-le}
use Rattle.receive_line.proofs.WholeLineLaws.{turning_start, turn-refused, turn-within, turn-fits, turning_more, refused_or_not}
use Rattle.receive_line.proofs.receive_all.Goals as goal
use Rattle.receive_line.proofs.receive_all.Goals.{in-Ok, in_default, In-Ok}

-- what a call delivers lies within its memory
within : (c : In-Ok) → c.in-Ok.delivered.bytes ≤ length c.byte-received.new.out
within c = turn-within c.loop-b.invariant c.loop-b-test.true c.requires c.byte-received.ensures c.in-Ok.is

long : (c : In-Ok) → length (take c.in-Ok.delivered.bytes c.byte-received.new.out) ≡ c.in-Ok.delivered.bytes
long c = length-take-le _ _ (within c)

pub loop-b-init : goal.loop-b-init
loop-b-init c = turning_start _ _ _ refl c.new.ensures

pub slice_bounds-scratch-end : goal.slice_bounds-scratch-end
slice_bounds-scratch-end c = within (goal.at.slice_bounds-scratch-end c).In-Ok

pub slice_bounds-gather-end : goal.slice_bounds-gather-end
slice_bounds-gather-end c = sym (long (goal.at.slice_bounds-gather-end c).In-Ok)

-- there is room for it
pub gather-at-requires : goal.gather-at-requires
gather-at-requires c =
    rw (long (goal.at.gather-at-requires c).In-Ok)
    (turn-fits c.loop-b.invariant c.loop-b-test.true c.requires c.byte-received.ensures c.in-Ok.is)

pub loop-b-preserved : goal.loop-b-preserved
loop-b-preserved c =
    let t = c.loop-b.invariant in
    elim c.match-received.branch [
      | in_default w ↦ absurd (refused_or_not _ (λ n e. turn-refused t c.loop-b-test.true c.requires c.byte-received.ensures e) w.in_default.not-Ok)
      | in-Ok w ↦
          turning_more t c.loop-b-test.true c.requires c.byte-received.ensures w.in-Ok.is (search rules)
          (w.at-is ∙ w.gather-at.ensures.0 ∙ ap (λ (n : ℕ). c.loop-b.at + n) (length-take-le _ _ (turn-within t c.loop-b-test.true c.requires c.byte-received.ensures w.in-Ok.is)))
          (w.out-is ∙ w.gather-at.ensures.1)
    ]
