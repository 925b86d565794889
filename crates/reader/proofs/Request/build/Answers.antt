-- The request is allowed, so its data are few enough, and what is written is what is built.
use Rattle.std.proofs.Common.{◌≡◌, sym, ◌∙◌, ap, true}
use Rattle.item_command.specs.Command.{control_for}
use Rattle.reader.specs.Allowed.{is_allowed}
use Rattle.reader.proofs.BuildingLaws.{allowed_counts, built-written}
use Rattle.reader.proofs.Request.build.Goals as goal
use Rattle.reader.proofs.Request.build.Goals.{Else-not-is_allowed}

allowed : (c : Else-not-is_allowed) → is_allowed c.args.self ≡ true
allowed c = sym c.is_allowed.ensures ∙ c.if-not-is_allowed.false

pub write_request-requires : goal.write_request-requires
write_request-requires c = (allowed_counts _ (allowed (goal.at.write_request-requires c).Else-not-is_allowed), c.if-out-lt-REQUEST_MEMORY.false)

pub returns : goal.returns
returns c =
    built-written c.args.self c.args.out.now c.if-out-lt-REQUEST_MEMORY.false (allowed (goal.at.returns c).Else-not-is_allowed) c.sent_to-address.ensures
    (c.from-control.ensures ∙ ap control_for c.from.ensures) c.write_request.ensures
