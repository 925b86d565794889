-- Each return is a case of `called`: out of range, too little memory, or the kept bytes given up.
use Rattle.std.proofs.Common.{◌≡◌, ◌≤◌, sym, arith, length, rules, take, length-take-le}
use Rattle.line_terms.specs.Line.{silence}
use Rattle.line.specs.Receiver.{kept_bytes}
use Rattle.line_verdict.specs.VerdictOnLaws.{within-most}
use Rattle.line.proofs.CallCases.{call-bad, call-short, call-silent}
use Rattle.line.proofs.RescanLaws.{silence_alone}
use Rattle.line.proofs.Receiver.silence.Goals as goal

pub returns-then-not-within_range : goal.returns-then-not-within_range
returns-then-not-within_range c = call-bad c.args.self silence c.args.out.now (sym c.if-not-within_range.ensures)

pub returns-then-out-lt-MOST_FRAME : goal.returns-then-out-lt-MOST_FRAME
returns-then-out-lt-MOST_FRAME c =
    call-short c.args.self silence c.args.out.now (sym c.if-not-within_range.ensures) c.if-out-lt-MOST_FRAME.true

pub shared_ref_as_front-drain_at_silence : goal.shared_ref_as_front-drain_at_silence
shared_ref_as_front-drain_at_silence c = within-most c.args.self.kept c.args.self.count (sym c.if-not-within_range.ensures)

pub drain_at_silence-d-requires : goal.drain_at_silence-d-requires
drain_at_silence-d-requires c =
    let r = c.args.self in
    let most : r.count ≤ 211 = within-most r.kept r.count (sym c.if-not-within_range.ensures) in
    let size : length r.kept ≡ 211 = search rules in
    let long : length (take r.count r.kept) ≡ r.count = length-take-le _ _ (omega arith) in
    omega arith

pub returns : goal.returns
unfolding kept_bytes
returns c =
    let d = c.drain_at_silence-d in
    call-silent c.args.self c.args.out.now d.new.out d.result (sym c.if-not-within_range.ensures) c.if-out-lt-MOST_FRAME.false (silence_alone _ c.args.self.kept d.ensures)
