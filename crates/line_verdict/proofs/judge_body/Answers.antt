-- Two kept bytes or more from the checksum on are too many.
use Rattle.std.proofs.Common.{refl, arith}
use Rattle.line_verdict.proofs.KeptLaws.{kept_too_many}
use Rattle.line_verdict.proofs.judge_body.Goals as goal

pub returns-in_default : goal.returns-in_default
returns-in_default c =
    kept_too_many _ _ c.requires.kept_len.1 _
    (record { first = c.requires.kept_value.0; eighth = c.requires.kept_value.1; most = c.if-data_length-gt200.false; end = refl })
    c.if-kept-end.false (omega (arith, c.in_default.len_at_least, c.split_at.ensures.back_len))
