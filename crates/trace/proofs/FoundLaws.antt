-- Records found that are the same are one record of one length.
use Rattle.std.specs.Prelude.{ℕ, ◌≡◌}
use Rattle.std.proofs.Common.{ap}
use Rattle.laws.specs.ResultLaws.{some_same, ok_same}
use Rattle.trace.specs.Front.{found_record}
use Rattle.trace.specs.declared.TraceRecord.{TraceRecord}
use Rattle.trace.specs.declared.RecordFound.{RecordFound}

pub found_same : {r x : TraceRecord} {n k : ℕ} → found_record r n ≡ found_record x k → (r ≡ x) × (n ≡ k)
found_same e =
    let same = some_same (ok_same e) in
    (ap (λ (f : RecordFound). f.found) same, ap (λ (f : RecordFound). f.length) same)
