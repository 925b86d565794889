-- The laws of `same-walk` say what a turn of the loop and its end make of the bytes passed.
use Rattle.std.proofs.Common.{◌≡◌, ℕ, Bool, arith, sym, eq-eqb, ne_eqb}
use Rattle.laws.specs.Walk.{Walked, walked_start, walked_next, walked_stops, walked_end}
use Rattle.item_same.specs.SameLaws.{same-walk}
use Rattle.item_same.proofs.same_bytes.Goals as goal

-- No byte is passed before the first.
from_first : {size : ℕ} {from : ℕ → Bool} (i : ℕ) → i ≡ 0 → Walked size from i
from_first i first = rw first walked_start

pub loop-i-init : goal.loop-i-init
loop-i-init c = (from_first _ (omega arith), omega arith)

pub returns-then-a-i : goal.returns-then-a-i
returns-then-a-i c =
    sym (walked_stops (same-walk _ _ c.loop-i.invariant.1) c.loop-i.invariant.0 (omega arith) (ne_eqb _ _ c.if-a-i.true))

pub loop-i-preserved : goal.loop-i-preserved
loop-i-preserved c =
    (walked_next (same-walk _ _ c.loop-i.invariant.1) c.loop-i.invariant.0 (omega arith) (eq-eqb _ _ c.if-a-i.false), c.loop-i.invariant.1)

pub returns : goal.returns
returns c = sym (walked_end (same-walk _ _ c.loop-i.invariant.1) c.loop-i.invariant.0 (omega arith))
