-- Document 02, W1: the walker holds the lent trace and its place in it.
use Rattle.std.specs.Prelude.{ℕ, List}
use Rattle.std.specs.Borrow.{Bor}
use Rattle.replay_walker.specs.declared.Walker.{Walker}

-- The walker of a trace, at its first record.
abbrev pub begun : Bor (List ℕ) → Walker
begun trace = record { trace = trace; at = 0 }

-- The walker of the same trace, at another place.
abbrev pub moved_to : Walker → ℕ → Walker
moved_to w at = record { trace = w.trace; at = at }
