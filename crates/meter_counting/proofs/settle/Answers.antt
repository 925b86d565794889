-- What each direction is left with and what is answered are the parts of `settled_by`.
use Rattle.meter_counting.proofs.CountingLaws.{settle-parts}
use Rattle.meter_counting.proofs.settle.Goals as goal

pub returns : goal.returns
returns c =
    let a = c.args in
    rw (c.settled_where.ensures, c.settled_where-2.ensures, c.answer_of.ensures) (settle-parts a.within a.energies.forward a.energies.reverse)
