-- The next frame's end where the bytes are too few for it, and at a place beyond them, by computation.
use Rattle.std.specs.Prelude.{◌≡◌, take, refl}
use Rattle.frame.specs.Frame.{length_of}
use Rattle.frame.specs.EndToEnd.{next_end}
use Rattle.frame.specs.CaseFrames.{case_a, case_c}

few-end : next_end (take 15 case_a) 0 ≡ 15
unfolding next_end length_of
few-end = refl

beyond-end : next_end case_c 100 ≡ 12
unfolding next_end length_of
beyond-end = refl
