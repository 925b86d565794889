-- A trace of good records, stepped with memory enough: as many steps as it has records play one each, and every step after them answers done.
use Rattle.trace.proofs.FoundLaws.{found_same}
use Rattle.std.specs.Prelude.{ℕ, ◌≤◌, ◌<◌, ◌≡◌, refl, List, [], ◌∷◌, ◌++◌, length, drop, None, Ok}
use Rattle.trace.specs.Front.{found_record}
use Rattle.std.proofs.Common.{arith, sym, subst, ◌∙◌, true≢false, drop_at, drop-drop}
use Rattle.std.proofs.Math.Path.{ap}
use Rattle.laws.specs.All.{AllOf}
use Rattle.laws.specs.AllLaws.{all_at, all-before}
use Rattle.laws.specs.Memory.{outcome}
use Rattle.line_terms.specs.Line.{Symbol}
use Rattle.item_address.specs.Address.{Good}
use Rattle.trace.specs.Trace.{front_of}
use Rattle.trace.specs.Records.{FieldsRight, record_bytes, written}
use Rattle.trace.specs.declared.TraceRecord.{TraceRecord}
use Rattle.trace.proofs.TraceLaws.{front-written}
use Rattle.replay.specs.Replay.{started, stepped, played, Unplayed}
use Rattle.replay.proofs.StateLaws.{Fit, fit-within, start-fit, played-fit}
use Rattle.replay.proofs.StepLaws.{Stepping, outside, ends, declines, bad, plays, stepping, good_no_end, bad_no_end}
use Rattle.replay.proofs.Replayed.{StepCall, place_by, Steps, place_after, state_after, steps_split}
use Rattle.replay.specs.declared.ReplayState.{ReplayState}
use Rattle.replay.specs.declared.Stepped.{Stepped}
use Rattle.replay.specs.declared.StepAnswer.TheVariants.{Done}

-- Memory enough for a step.
abbrev pub IsEnough : StepCall → Type 0
IsEnough c = 8192 ≤ length c.lent

-- The steps before the last record play one each, and those behind it are done.
pub record EndsWithTheRecords (records : List TraceRecord) (calls : List StepCall) : Type 0 where
  pub plays-one : (earlier : List StepCall) (c : StepCall) (later : List StepCall) → calls ≡ earlier ++ (c ∷ later) → length earlier < length records →
      Unplayed c.returned.answer → ⊥
  pub is_done : (earlier : List StepCall) (c : StepCall) (later : List StepCall) → calls ≡ earlier ++ (c ∷ later) → length records ≤ length earlier →
      c.returned.answer ≡ Done

-- What a step with memory enough comes to where these records are left of the trace.
record Advances (trace : List ℕ) (at : ℕ) (s : ReplayState) (c : StepCall) (r : TraceRecord) (rs : List TraceRecord) : Type 0 where
  plays : Unplayed c.returned.answer → ⊥
  left : drop (place_by c.returned.answer at) trace ≡ written rs
  state : c.returned.state ≡ (played r s).state

record Rests (trace : List ℕ) (at : ℕ) (s : ReplayState) (c : StepCall) : Type 0 where
  answer : c.returned.answer ≡ Done
  state : c.returned.state ≡ s

module _ {at : ℕ} {line : List Symbol} {s : ReplayState} (trace : List ℕ) (c : StepCall) (f : Fit line s) (enough : IsEnough c)
    (h : outcome c.returned c.left ≡ stepped trace at s c.lent) where
  advances : (r : TraceRecord) (rs : List TraceRecord) → FieldsRight r → drop at trace ≡ written (r ∷ rs) → Advances trace at s c r rs
  unfolding written
  advances r rs right there = go (stepping h)
    where
      good : front_of (drop at trace) ≡ found_record r (length (record_bytes r))
      good = ap front_of there ∙ front-written r (written rs) right

      go : Stepping trace at s c.lent c.returned c.left → Advances trace at s c r rs
      go (outside out a m) = absurd (true≢false (sym (fit-within f) ∙ out))
      go (ends w e a m) = absurd (good_no_end (sym good ∙ e))
      go (declines w e short a m) = absurd (omega (arith, enough))
      go (bad w e room a m) = absurd (let z : ◌≡◌ {A = ℕ} 0 1 = cc (good, e) in omega arith)
      go (plays {r = x} {n = n} w e room a m) =
          let found = found_same (sym e ∙ good) in
          let same : x ≡ r = found.0 in
          let size : n ≡ length (record_bytes r) = found.1 in
          record {
            plays = λ u. subst (λ (t : Stepped). Unplayed t.answer) a u;
            left = rw a (sym (drop-drop n at trace) ∙ ap (drop n) there ∙ drop_at (record_bytes r) (written rs) n (sym size));
            state = ap (λ (t : Stepped). t.state) a ∙ ap (λ (y : TraceRecord). (played y s).state) same;
          }

  rests : drop at trace ≡ [] → Rests trace at s c
  unfolding front_of
  rests there = go (stepping h)
    where
      end : front_of (drop at trace) ≡ Ok None
      end = ap front_of there

      go : Stepping trace at s c.lent c.returned c.left → Rests trace at s c
      go (outside out a m) = absurd (true≢false (sym (fit-within f) ∙ out))
      go (ends w e a m) = record { answer = ap (λ (t : Stepped). t.answer) a; state = ap (λ (t : Stepped). t.state) a }
      go (declines w e short a m) = absurd (e end)
      go (bad w e room a m) = absurd (bad_no_end (sym e ∙ end))
      go (plays w e room a m) = absurd (good_no_end (sym e ∙ end))

-- What is left of the trace, and of the records, after steps.
record Left (trace : List ℕ) (at : ℕ) (s : ReplayState) (rs : List TraceRecord) : Type 0 where
  there : drop at trace ≡ written rs
  line : List Symbol
  fit : Fit line s

-- One record fewer.
abbrev behind : List TraceRecord → List TraceRecord
behind [] = []
behind (r ∷ rs) = rs

step_left : {at : ℕ} {s : ReplayState} (trace : List ℕ) (rs : List TraceRecord) (c : StepCall) → AllOf FieldsRight rs → IsEnough c →
    outcome c.returned c.left ≡ stepped trace at s c.lent → Left trace at s rs →
    Left trace (place_by c.returned.answer at) c.returned.state (behind rs)
unfolding written
step_left trace [] c right enough h l =
    let r = rests trace c l.fit enough h l.there in
    record { there = rw r.answer l.there; line = l.line; fit = subst (Fit l.line) (sym r.state) l.fit }
step_left trace (r ∷ rs) c right enough h l =
    let a = advances trace c l.fit enough h r rs right.0 l.there in
    record { there = a.left; line = _; fit = subst (Fit _) (sym a.state) (played-fit l.fit r) }

behind-right : (rs : List TraceRecord) → AllOf FieldsRight rs → AllOf FieldsRight (behind rs)
behind-right [] right = tt
behind-right (r ∷ rs) right = right.1

-- So many records fewer.
abbrev left_of : List StepCall → List TraceRecord → List TraceRecord
left_of [] rs = rs
left_of (c ∷ cs) rs = left_of cs (behind rs)

left-right : (calls : List StepCall) (rs : List TraceRecord) → AllOf FieldsRight rs → AllOf FieldsRight (left_of calls rs)
left-right [] rs right = right
left-right (c ∷ cs) rs right = left-right cs (behind rs) (behind-right rs right)

left-some : (calls : List StepCall) (rs : List TraceRecord) → length calls < length rs → left_of calls rs ≡ [] → ⊥
left-some [] [] h e = omega arith
left-some [] (r ∷ rs) h e = let z : ◌≡◌ {A = ℕ} 0 1 = cc in omega arith
left-some (c ∷ cs) [] h e = omega arith
left-some (c ∷ cs) (r ∷ rs) h e = left-some cs rs (omega arith) e

left-none : (calls : List StepCall) (rs : List TraceRecord) → length rs ≤ length calls → left_of calls rs ≡ []
left-none [] [] h = refl
left-none [] (r ∷ rs) h = absurd (omega arith)
left-none (c ∷ cs) [] h = left-none cs [] (omega arith)
left-none (c ∷ cs) (r ∷ rs) h = left-none cs rs (omega arith)

steps_left : {at : ℕ} {s : ReplayState} (trace : List ℕ) (rs : List TraceRecord) (calls : List StepCall) → AllOf FieldsRight rs → AllOf IsEnough calls →
    Steps trace at s calls → Left trace at s rs → Left trace (place_after at calls) (state_after s calls) (left_of calls rs)
steps_left trace rs [] right enough h l = l
steps_left trace rs (c ∷ cs) right enough h l =
    steps_left trace (behind rs) cs (behind-right rs right) enough.1 h.1 (step_left trace rs c right enough.0 h.0 l)

-- Of every trace of good records, and every list of steps from the start.
pub steps_done : (address : List ℕ) (records : List TraceRecord) (calls : List StepCall) → length address ≡ 6 → Good address → AllOf FieldsRight records →
    AllOf IsEnough calls → Steps (written records) (started address).at (started address).state calls → EndsWithTheRecords records calls
unfolding started written front_of
steps_done address records calls six good right enough h =
    record {
      plays-one = λ earlier c later e few u. some earlier c later e (left_of earlier records) refl (left-some earlier records few) u;
      is_done = λ earlier c later e all. none earlier c later e (left-none earlier records all);
    }
  where
    trace : List ℕ
    trace = written records

    parts : (earlier : List StepCall) (c : StepCall) (later : List StepCall) → calls ≡ earlier ++ (c ∷ later) →
        Steps trace 0 (started address).state earlier × Steps trace (place_after 0 earlier) (state_after (started address).state earlier) (c ∷ later)
    parts earlier c later e = steps_split trace 0 (started address).state earlier (c ∷ later) (subst (Steps trace 0 (started address).state) e h)

    left : (earlier : List StepCall) (c : StepCall) (later : List StepCall) → calls ≡ earlier ++ (c ∷ later) →
        Left trace (place_after 0 earlier) (state_after (started address).state earlier) (left_of earlier records)
    left earlier c later e =
        steps_left trace records earlier right (all-before IsEnough earlier (c ∷ later) (subst (AllOf IsEnough) e enough)) (parts earlier c later e).0
        (record { there = refl; line = []; fit = start-fit address six good })

    room : (earlier : List StepCall) (c : StepCall) (later : List StepCall) → calls ≡ earlier ++ (c ∷ later) → IsEnough c
    room earlier c later e = all_at IsEnough earlier c later (subst (AllOf IsEnough) e enough)

    some : (earlier : List StepCall) (c : StepCall) (later : List StepCall) → calls ≡ earlier ++ (c ∷ later) → (rs : List TraceRecord) →
        left_of earlier records ≡ rs → (rs ≡ [] → ⊥) → Unplayed c.returned.answer → ⊥
    some earlier c later e [] same not u = not refl
    some earlier c later e (r ∷ rs) same not u =
        let l = left earlier c later e in
        (advances trace c l.fit (room earlier c later e) (parts earlier c later e).1.0 r rs
        (subst (AllOf FieldsRight) same (left-right earlier records right)).0 (l.there ∙ ap written same)).plays u

    none : (earlier : List StepCall) (c : StepCall) (later : List StepCall) → calls ≡ earlier ++ (c ∷ later) → left_of earlier records ≡ [] →
        c.returned.answer ≡ Done
    none earlier c later e same =
        let l = left earlier c later e in
        (rests trace c l.fit (room earlier c later e) (parts earlier c later e).1.0 (l.there ∙ ap written same)).answer
