-- A turn of the loop is one behind those before, and the loop is left where one plays nothing.
use Rattle.std.proofs.Common.{◌≡◌, ℕ, drop, sym, subst, arith}
use Rattle.replay_block.specs.Block.{Stops}
use Rattle.replay_block.proofs.RunLaws.{goes_nowhere, goes_then}
use Rattle.replay_block.proofs.run.run_on.Goals as goal

pub loop-run-init : goal.loop-run-init
loop-run-init c = goes_nowhere c.requires

pub returns-then-next-run : goal.returns-then-next-run
returns-then-next-run c =
    let turns = c.turn-next.ensures in
    let same : c.turn-next.result.at ≡ c.loop-run.run.at = c.if-next-run.true in
    record {
      goes = goes_then c.requires c.loop-run.invariant turns.goes;
      stops = subst (λ (k : ℕ). Stops (drop k c.args.block.now)) (sym same) (turns.stops same);
    }

pub loop-run-smaller : goal.loop-run-smaller
loop-run-smaller c = omega (arith, c.turn-next.ensures.goes.from, c.turn-next.ensures.goes.ready.reached, c.if-next-run.false)

pub loop-run-preserved : goal.loop-run-preserved
loop-run-preserved c = goes_then c.requires c.loop-run.invariant c.turn-next.ensures.goes
