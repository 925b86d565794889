-- Each arm of the match is a case of `called`: what `verdict_on` says of the verdict is what the law of that case asks.
use Rattle.std.proofs.Common.{ℕ, ◌≡◌, ◌+◌, ◌≤◌, sym, subst, arith, length, take, length-take-le, rules}
use Rattle.frame.proofs.RecognitionLaws.{open_most}
use Rattle.line.specs.Receiver.{kept_bytes}
use Rattle.line_verdict.specs.Verdict.{verdict_on}
use Rattle.line_verdict.specs.VerdictLaws.{with-length}
use Rattle.line_verdict.specs.VerdictOnLaws.{within-most, VerdictSays, verdict-says}
use Rattle.line.proofs.CallCases.{call-bad, call-short, call-skips, call_still_open, call-whole, call-begins-none}
use Rattle.line_terms.specs.Line.{byte}
use Rattle.line_verdict.specs.declared.Verdict.{Verdict}
use Rattle.line_verdict.specs.declared.Verdict.TheVariants.{Bad, Short, Skips, StillOpen, Whole, BeginsNone}
use Rattle.line.proofs.Receiver.byte.Goals as goal
use Rattle.line.proofs.Receiver.byte.Goals.{Start, In-StillOpen}

-- the array of kept bytes has its length
kept-size : (s : Start) → length s.args.self.kept ≡ 211
kept-size s = search rules

-- what a verdict says of the receiver, the byte and the memory that the call began with
abbrev Says : Start → Verdict → Type 0
Says s = VerdictSays s.args.self.kept s.args.self.count s.args.b (length s.args.out.now)

-- what the verdict says, in each arm
says : (s : Start) (v : Verdict) → v ≡ verdict_on s.args.self.kept s.args.self.count s.args.b (length s.args.out.now) → Says s v
says s v e = subst (Says s) (sym e) (verdict-says _ _ _ _ (kept-size s))

still_open : (c : In-StillOpen) → Says (goal.at.In-StillOpen c).Start StillOpen
still_open c = says (goal.at.In-StillOpen c).Start StillOpen c.in-StillOpen.ensures

-- where the kept bytes grow there is room for one more
room : (c : In-StillOpen) → c.args.self.count + 1 ≤ 211
unfolding kept_bytes
room c =
    let r = c.args.self in
    let size : length r.kept ≡ 211 = kept-size (goal.at.In-StillOpen c).Start in
    let most : r.count ≤ 211 = within-most r.kept r.count (still_open c).0 in
    subst (λ (n : ℕ). n ≤ 211) (with-length r.kept r.count c.args.b (omega arith)) (open_most _ (still_open c).2)

pub bounds-self-count : goal.bounds-self-count
bounds-self-count c = omega (arith, room (goal.at.bounds-self-count c).In-StillOpen)

pub overflow_add-self : goal.overflow_add-self
overflow_add-self c = omega (arith, room (goal.at.overflow_add-self c).In-StillOpen)

pub shared_ref_as_front-join : goal.shared_ref_as_front-join
shared_ref_as_front-join c =
    let w = says (goal.at.shared_ref_as_front-join c).Start Whole c.in-Whole.ensures in
    within-most c.args.self.kept c.args.self.count w.0

pub join-requires : goal.join-requires
join-requires c =
    let r = c.args.self in
    let s = (goal.at.join-requires c).Start in
    let w = says s Whole c.in-Whole.ensures in
    let most : r.count ≤ 211 = within-most r.kept r.count w.0 in
    let size : length r.kept ≡ 211 = kept-size s in
    let roomy : 212 ≤ length c.args.out.now = w.1 in
    let long : length (take r.count r.kept) ≡ r.count = length-take-le _ _ (omega arith) in
    omega arith

pub overflow_add-answer : goal.overflow_add-answer
overflow_add-answer c =
    let w = says (goal.at.overflow_add-answer c).Start Whole c.in-Whole.ensures in
    omega (arith, within-most c.args.self.kept c.args.self.count w.0)

pub rescan-s-requires : goal.rescan-s-requires
unfolding kept_bytes
rescan-s-requires c =
    let s = (goal.at.rescan-s-requires c).Start in
    let w = says s BeginsNone c.in-BeginsNone.ensures in
    record {
      kept_len = (kept-size s, within-most c.args.self.kept c.args.self.count w.0, w.1);
      b_value = w.2;
    }

pub returns-in-Bad : goal.returns-in-Bad
returns-in-Bad c =
    call-bad c.args.self (byte c.args.b) c.args.out.now (says (goal.at.returns-in-Bad c).Start Bad c.in-Bad.ensures)

pub returns-in-Short : goal.returns-in-Short
returns-in-Short c =
    let w = says (goal.at.returns-in-Short c).Start Short c.in-Short.ensures in
    call-short c.args.self (byte c.args.b) c.args.out.now w.0 w.1

pub returns-in-Skips : goal.returns-in-Skips
unfolding kept_bytes
returns-in-Skips c =
    let w = says (goal.at.returns-in-Skips c).Start Skips c.in-Skips.ensures in
    call-skips c.args.self c.args.b c.args.out.now w.0 w.1 w.3 w.2

pub returns-in-StillOpen : goal.returns-in-StillOpen
unfolding kept_bytes
returns-in-StillOpen c =
    let s = (goal.at.returns-in-StillOpen c).Start in
    let w = says s StillOpen c.in-StillOpen.ensures in
    call_still_open c.args.self c.args.b c.args.out.now w.0 w.1 (kept-size s) w.2

pub returns-in-Whole : goal.returns-in-Whole
unfolding kept_bytes
returns-in-Whole c =
    let s = (goal.at.returns-in-Whole c).Start in
    let w = says s Whole c.in-Whole.ensures in
    call-whole c.args.self c.args.b c.args.out.now w.0 w.1 (kept-size s) w.2 c.join.new.out c.join.ensures

pub returns-in-BeginsNone : goal.returns-in-BeginsNone
unfolding kept_bytes
returns-in-BeginsNone c =
    let w = says (goal.at.returns-in-BeginsNone c).Start BeginsNone c.in-BeginsNone.ensures in
    let r = c.rescan-s in
    call-begins-none c.args.self c.args.b c.args.out.now w.0 w.1 r.new.kept r.new.out r.result r.ensures
