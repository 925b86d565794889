-- Calls that hand on the same hand on as many bytes of as many frames.
use Rattle.std.specs.Prelude.{ℕ, ◌≡◌}
use Rattle.std.proofs.Common.{ap}
use Rattle.laws.specs.ResultLaws.{ok_same}
use Rattle.line.specs.Answer.{handed}
use Rattle.line.specs.declared.Delivered.{Delivered}

pub handed_same : {bytes frames count more : ℕ} → handed bytes frames ≡ handed count more → (bytes ≡ count) × (frames ≡ more)
handed_same e = (ap (λ (d : Delivered). d.bytes) (ok_same e), ap (λ (d : Delivered). d.frames) (ok_same e))
