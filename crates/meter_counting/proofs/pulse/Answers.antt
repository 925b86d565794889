-- What each direction is left with and what is answered are the parts of `pulsed_by`.
use Rattle.std.proofs.Common.{◌∙◌}
use Rattle.meter_counting.proofs.CountingLaws.{pulsed_where, pulse-parts}
use Rattle.meter_counting.proofs.pulse.Goals as goal

pub returns : goal.returns
returns c =
    let a = c.args in
    c.with_answer.ensures
    ∙ rw (c.pulsed.ensures, c.pulsed-2.ensures, c.rate_where-in_forward.ensures, c.rate_where-in_reverse.ensures, pulsed_where _ a.energies.forward a.amount a.rate, pulsed_where _ a.energies.reverse a.amount a.rate, c.answer_of.ensures, c.is_rate.ensures)
    (pulse-parts a.amount a.direction a.rate a.within a.energies.forward a.energies.reverse)
