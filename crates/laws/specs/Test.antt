-- What a test picks of two.
use Rattle.std.specs.Prelude.{Bool, true, false}

-- The first of two where the test holds, and else the second.
abbrev pub pick : {A : Type 0} → Bool → A → A → A
pick true a b = a
pick false a b = b
