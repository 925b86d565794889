-- The length is from 12 to 50.
use Rattle.std.proofs.Common.{sym, arith}
use Rattle.item_range.proofs.RangeLaws.{within-iff}
use Rattle.meter_decision.proofs.request.write_request.Goals as goal

pub identifier_at-requires : goal.identifier_at-requires
identifier_at-requires c = omega (arith, (within-iff 12 50 _).0 (sym c.if-not-is_within.ensures))

pub bounds-payload-4 : goal.bounds-payload-4
bounds-payload-4 c = omega (arith, (within-iff 12 50 _).0 (sym c.if-not-is_within.ensures))
