-- The four bytes are those at the front.
use Rattle.std.proofs.Common.{◌∙◌}
use Rattle.item_identifier.proofs.IdentifierLaws.{identifier-front}
use Rattle.meter_decision.proofs.request.identifier_at.Goals as goal

pub returns : goal.returns
returns c = c.identifier_of.ensures ∙ identifier-front _
