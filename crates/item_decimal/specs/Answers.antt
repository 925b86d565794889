-- The refusal of a number that has more digits than the memory takes.
use Rattle.item_decimal.specs.declared.TooLarge.{TooLarge}

abbrev pub too_large : TooLarge
too_large = record {}
