-- Document 02, W1, of the walker: "The replies and the meter at the end are those of the calls made by hand." One theorem over every trace, every
-- good address and every list of a walker's steps from the start.
use Rattle.std.specs.Prelude.{ℕ, ◌≡◌, List, [], ◌∷◌, length}
use Rattle.std.proofs.Common.{subst}
use Rattle.std.specs.Borrow.{Bor}
use Rattle.laws.specs.Memory.{outcome, Bytes}
use Rattle.item_address.specs.Address.{Good}
use Rattle.replay.specs.Replay.{started, stepped}
use Rattle.replay.proofs.Replayed.{StepCall, place_by, Steps, Replays, replayed_by_hand}
use Rattle.replay.specs.declared.ReplayState.{ReplayState}
use Rattle.replay_walker.specs.declared.Walker.{Walker}
use Rattle.replay_walker.specs.Walker.{begun, moved_to}

-- A call of the walker's step: the walker given, and the memory lent, what it returned and that memory as it stood then.
pub record WalkerCall : Type 0 where
  pub walker : Walker
  pub step : StepCall

-- The calls as calls of the step on the trace itself.
abbrev pub steps_of : List WalkerCall → List StepCall
steps_of [] = []
steps_of (c ∷ cs) = c.step ∷ steps_of cs

-- Of each call what its `ensures` says. The first is given this walker and this state, each further one the walker moved to the place, and the
-- state, that the last one gave.
abbrev pub Walks : Walker → ReplayState → List WalkerCall → Type 0
Walks w s [] = Unit
Walks w s (c ∷ cs) =
    (c.walker ≡ w) × (outcome c.step.returned c.step.left ≡ stepped c.walker.trace.now c.walker.at s c.step.lent)
    × Walks (moved_to c.walker (place_by c.step.returned.answer c.walker.at)) c.step.returned.state cs

-- A walker's calls are the steps of its trace from its place on.
steps_on : (w : Walker) (s : ReplayState) (calls : List WalkerCall) → Walks w s calls → Steps w.trace.now w.at s (steps_of calls)
steps_on w s [] h = tt
steps_on w s (c ∷ cs) h =
    let more = steps_on (moved_to c.walker (place_by c.step.returned.answer c.walker.at)) c.step.returned.state cs h.2 in
    subst (λ (v : Walker). Steps v.trace.now v.at s (steps_of (c ∷ cs))) h.0 (h.1, more)

-- A walker made of a trace, and moved each time to the place that the step gave, makes the steps of a replay of that trace from place 0 on.
pub walker_steps : (trace : Bor (List ℕ)) (s : ReplayState) (calls : List WalkerCall) → Walks (begun trace) s calls →
    Steps trace.now 0 s (steps_of calls)
walker_steps trace s calls h = steps_on (begun trace) s calls h

-- The replies and the meter at the end of a walker's steps are those of the calls made by hand.
pub walked_by_hand : (address : List ℕ) (trace : Bor (List ℕ)) (calls : List WalkerCall) → length address ≡ 6 → Good address → Bytes trace.now →
    Walks (begun trace) (started address).state calls → Replays address trace.now (steps_of calls)
unfolding started
walked_by_hand address trace calls six good bytes h =
    replayed_by_hand address trace.now (steps_of calls) six good bytes (walker_steps trace (started address).state calls h)
