-- Behind the identifier the parts of the data are put one behind the other.
use Rattle.std.proofs.Common.{◌+◌, take, sym, arith, rules, length-take-le}
use Rattle.laws.specs.Puts.{Puts, puts_store, puts-part}
use Rattle.item_identifier.specs.Identifier.{identifier_bytes}
use Rattle.item_identifier.proofs.IdentifierLaws.{identifier-four}
use Rattle.reader.specs.Allowed.{RequestSized}
use Rattle.reader.proofs.BuildingLaws.{write_parts}
use Rattle.reader.proofs.build.put_write.Goals as goal

pub returns : goal.returns
returns c =
    let r = c.args.request in
    let sized : RequestSized r = search rules in
    let named : Puts (identifier_bytes r.identifier) 4 c.args.out.now c.put_identifier.new.out = record {
      count = sym (identifier-four r.identifier);
      memory = c.put_identifier.ensures;
    } in
    let level = puts_store named r.level (omega (arith, c.requires.1)) in
    let password = puts-part level r.password 8 (omega (arith, sized.password)) c.put_part.ensures in
    let operator = puts-part password r.operator 12 (omega (arith, sized.operator)) c.put_part-2.ensures in
    let long = length-take-le r.count r.value (omega (arith, sized.value, c.requires.0)) in
    rw (← write_parts r) (puts-part operator (take r.count r.value) (12 + r.count) (omega (arith, long)) c.put_part-3.ensures)
