-- What `position` says of the part between the places.
use Rattle.std.proofs.Common.{rules}
use Rattle.slice_bytes.proofs.Search.{place-found, found-nowhere}
use Rattle.slice_bytes.proofs.find.Goals as goal

pub returns-in-Some-clause-value : goal.returns-in-Some-clause-value
returns-in-Some-clause-value c = place-found _ _ _ _ c.requires.ordered _ (search rules) (λ k h. search rules) (search rules)

pub returns-in-None-clause-value : goal.returns-in-None-clause-value
returns-in-None-clause-value c = found-nowhere _ _ _ _ c.requires.ordered (search rules) (λ k h. search rules)
