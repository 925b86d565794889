-- Document 01's table of refusals, with those of document 02: the number of each, by computation.
use Rattle.std.specs.Prelude.{◌≡◌, refl}
use Rattle.frame.specs.Refusals.{number_of}
use Rattle.frame.specs.declared.refusal.Refusal.TheVariants.{ShortMemory, NotOneFrame, NotForThisMeter, SilentByRule, NotAllowed, NotAnAnswer, Malformed, BadArgument, BadRecord, CutOff, OutOfRange}

pub record RefusalsAreNumbered : Type 0 where
  pub short_memory : number_of ShortMemory ≡ 1
  pub not_one_frame : number_of NotOneFrame ≡ 2
  pub not_for_this_meter : number_of NotForThisMeter ≡ 3
  pub silent_by_rule : number_of SilentByRule ≡ 4
  pub not_allowed : number_of NotAllowed ≡ 5
  pub not_an_answer : number_of NotAnAnswer ≡ 6
  pub malformed : number_of Malformed ≡ 7
  pub bad_argument : number_of BadArgument ≡ 8
  pub bad_record : number_of BadRecord ≡ 9
  pub cut_off : number_of CutOff ≡ 10
  pub out_of_range : number_of OutOfRange ≡ 16

pub refusals_are_numbered : RefusalsAreNumbered
refusals_are_numbered =
    record {
      short_memory = refl;
      not_one_frame = refl;
      not_for_this_meter = refl;
      silent_by_rule = refl;
      not_allowed = refl;
      not_an_answer = refl;
      malformed = refl;
      bad_argument = refl;
      bad_record = refl;
      cut_off = refl;
      out_of_range = refl;
    }
