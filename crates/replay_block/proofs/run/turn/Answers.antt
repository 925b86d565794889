-- What is heard where a byte or a silence stands is put to the meter.
use Rattle.std.proofs.Common.{ℕ, arith}
use Rattle.std.proofs.lemmas.List.{length-replicate}
use Rattle.replay.proofs.PlayLaws.{both-within}
use Rattle.replay_block.proofs.run.turn.Goals as goal

pub hear_on-heard-requires : goal.hear_on-heard-requires
hear_on-heard-requires c =
    record {
      in_range_lem = (both-within c.args.run.session.state c.requires.within).0;
      room = omega (arith, length-replicate {A = ℕ} 212 0);
      within_block = c.requires.reached;
    }
