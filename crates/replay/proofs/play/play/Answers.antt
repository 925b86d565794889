-- By the record: a symbol is heard, and what the receiver delivers can be put to the meter; the others are calls of the host, to which nothing is replied.
use Rattle.std.proofs.Common.{inl, inr, sym, ◌≡◌, ℕ, ap, ◌∙◌, arith, replicate}
use Rattle.std.proofs.lemmas.List.{length-replicate}
use Rattle.laws.specs.Memory.{outcome}
use Rattle.line.specs.Receiver.{called}
use Rattle.line_terms.specs.Line.{Symbol, byte, silence}
use Rattle.replay.specs.Replay.{Play, played, heard_play}
use Rattle.replay.specs.Play.{played_outcome}
use Rattle.replay.proofs.PlayLaws.{both-within, heard-can-put, heard-delivered, quiet-outcome}
use Rattle.replay.proofs.play.play.Goals as goal
use Rattle.replay.proofs.play.play.Goals.{Joined-found, in-Byte, in-Silence}

-- the symbol that is heard
record IsHeard (c : Joined-found) : Type 0 where
  symbol : Symbol
  calls : outcome c.match-found.received c.match-found.frames ≡ called symbol c.args.state.receiver (replicate 212 0)
  plays : played c.args.found c.args.state ≡ heard_play symbol c.args.state

heard : (c : Joined-found) → IsHeard c
unfolding played
heard c =
    elim c.match-found.branch [
      | in-Byte w ↦ record { symbol = byte w.in-Byte.b; calls = cc (w.byte-received.ensures, w.received-is, w.frames-is); plays = rw w.in-Byte.is }
      | in-Silence w ↦ record { symbol = silence; calls = cc (w.silence-received.ensures, w.received-is, w.frames-is); plays = rw w.in-Silence.is }
    ]

pub returns-in-Pulse : goal.returns-in-Pulse
unfolding played
returns-in-Pulse c =
    elim c.in-Pulse.is [
      | inl is ↦ rw (c.quiet.ensures, c.host_call.ensures, is.3) (quiet-outcome _ _)
      | inr others ↦ elim others [
        | inl is ↦ rw (c.quiet.ensures, c.host_call.ensures, is.1) (quiet-outcome _ _)
        | inr is ↦ rw (c.quiet.ensures, c.host_call.ensures, is) (quiet-outcome _ _)
      ]
    ]

pub put_delivered-requires : goal.put_delivered-requires
put_delivered-requires c =
    let s = c.args.state in
    let within = both-within s c.requires.0 in
    let h = heard (goal.at.put_delivered-requires c).Joined-found in
    heard-can-put h.symbol s.receiver (replicate 212 0) within.0 (omega (arith, length-replicate {A = ℕ} 212 0)) h.calls s.meter s.energies _ within.1 c.requires.1

pub returns : goal.returns
returns c =
    let s = c.args.state in
    let h = heard (goal.at.returns c).Joined-found in
    c.put_delivered.ensures
    ∙ ap (λ (p : Play). played_outcome p c.args.out.now)
    (heard-delivered h.symbol s.receiver (replicate 212 0) (both-within s c.requires.0).0 (omega (arith, length-replicate {A = ℕ} 212 0)) h.calls s.meter s.energies ∙ sym h.plays)
