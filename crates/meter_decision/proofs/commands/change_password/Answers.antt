-- The new level is one that has a password.
use Rattle.std.proofs.Common.{sym}
use Rattle.meter_decision.proofs.ChecksLaws.{check_true, named-level}
use Rattle.meter_decision.proofs.commands.change_password.Goals as goal

pub authority-requires : goal.authority-requires
authority-requires c = named-level _ _ (check_true _ (sym c.in-Holds.ensures))
