-- The data of a read are the four bytes of the identifier.
use Rattle.std.proofs.Common.{sym}
use Rattle.item_identifier.proofs.IdentifierLaws.{identifier-four}
use Rattle.reader.specs.Building.{sent_data}
use Rattle.reader.proofs.build.put_data.Goals as goal

pub returns-in-ReadData : goal.returns-in-ReadData
unfolding sent_data
returns-in-ReadData c = rw c.in-ReadData.is (record { count = sym (identifier-four c.args.request.identifier); memory = c.put_identifier.ensures })
