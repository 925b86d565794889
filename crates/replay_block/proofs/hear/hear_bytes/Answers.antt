-- A turn hears a byte that stands whole at the place, and the loop is left where none stands.
use Rattle.std.proofs.Common.{◌+◌, ◌≤◌, length, sym, refl, ◌∙◌, true≢false, arith, rules}
use Rattle.replay_block.proofs.HearLaws.{heard_as, heard-none, stands-front, hears-byte}
use Rattle.replay_block.proofs.hear.hear_bytes.Goals as goal
use Rattle.replay_block.proofs.hear.hear_bytes.Goals.{Else-not-stands_at}

pub loop-going-init : goal.loop-going-init
loop-going-init c =
    (refl, rw c.unheard-received.ensures (heard_as (omega arith) (heard-none c.requires)), rw c.unheard-received.ensures refl)

pub returns-then-not-stands_at : goal.returns-then-not-stands_at
returns-then-not-stands_at c = (c.loop-going.invariant.1, λ _. sym c.stands_at.ensures ∙ c.if-not-stands_at.true)

-- Where a byte stands, it ends within the block.
inside : (c : Else-not-stands_at) → c.loop-going.at + 2 ≤ length c.args.block.now
inside c = (stands-front _ _ (omega arith) (sym c.stands_at.ensures ∙ c.if-not-stands_at.false)).0

pub bounds-block-at : goal.bounds-block-at
bounds-block-at c = omega (arith, inside (goal.at.bounds-block-at c).Else-not-stands_at)

pub loop-going-smaller : goal.loop-going-smaller
loop-going-smaller c = omega (arith, inside (goal.at.loop-going-smaller c).Else-not-stands_at)

pub loop-going-preserved : goal.loop-going-preserved
loop-going-preserved c =
    let so_far = c.loop-going.invariant.1 in
    let quiet = sym c.loop-going.invariant.2 ∙ c.loop-going-test.true in
    let there = sym c.stands_at.ensures ∙ c.if-not-stands_at.false in (
      search rules,
      heard_as (omega (arith, so_far.from)) (hears-byte so_far quiet there c.byte-received.ensures),
      c.is_quiet-going.ensures,
    )

pub returns : goal.returns
returns c = (c.loop-going.invariant.1, λ quiet. absurd (true≢false (sym quiet ∙ sym c.loop-going.invariant.2 ∙ c.loop-going-test.false)))
