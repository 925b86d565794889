-- A call over a block in words: where it is refused and with which number, which records it has read, where it stops, and what it leaves.
use Rattle.laws.specs.ResultLaws.{err_same}
use Rattle.frame.specs.Refusals.{number_of}
use Rattle.frame.specs.declared.refusal.Refusal.TheVariants.{BadRecord, CutOff, BadArgument}
use Rattle.std.specs.Prelude.{◌≡◌, ℕ, ◌+◌, ◌*◌, ◌<◌, ◌≤◌, true, false, ◌⊎◌, ◌↔◌, List, [], ◌∷◌, length, take, drop, ◌==◌, ◌≢◌, nat_le, refl, Err, None, Ok, Option, Result, Some}
use Rattle.frame.specs.declared.refusal.Refusal.{Refusal}
use Rattle.trace.specs.Front.{found_record}
use Rattle.trace.specs.declared.RecordFound.{RecordFound}
use Rattle.std.proofs.Common.{arith, sym, ap, subst, ◌∙◌, true≢false, inl, inr, length-append, leb-true, leb-false, eqb-true}
use Rattle.std.proofs.Math.Decide.{dec_lt}
use Rattle.std.proofs.lemmas.Bool.{false≢true, eqb-false}
use Rattle.std.proofs.Math.Seq.{take-append_seam, drop-append_seam}
use Rattle.laws.specs.Memory.{over}
use Rattle.laws.specs.Said.{Said, values, refusal, IsRefusal, Refuses, refuses, answers}
use Rattle.laws.specs.Test.{pick}
use Rattle.laws.specs.TestLaws.{pick_cases}
use Rattle.trace.specs.Trace.{front_of}
use Rattle.trace.specs.Records.{ReadsAs}
use Rattle.trace.proofs.FrontCases.{FrontCase, ended, no_kind, cut_off_lem, bad-field, case_front, front_case}
use Rattle.trace.specs.declared.TraceRecord.{TraceRecord}
use Rattle.item_address.specs.Address.{Good}
use Rattle.meter_counting.proofs.Said.{host_said}
use Rattle.replay.specs.Replay.{is_within, started}
use Rattle.replay.specs.ByHand.{hand_start}
use Rattle.replay.proofs.Said.{start-refused}
use Rattle.replay.proofs.StartWords.{start-words}
use Rattle.replay.proofs.StepWords.{InRanges, within-iff}
use Rattle.replay_block.specs.declared.Begun.{Begun}
use Rattle.replay_block.specs.Block.{begun, records_in, rest_in, is_stop, refusal_of, lines_in, BlockOutcome, block_outcome, block_played, block_replayed, Stops}
use Rattle.replay_block.proofs.ReadingLaws.{reads_all, rest-stops}
use Rattle.replay_block.proofs.BlockLaws.{rest-few}
use Rattle.replay_block.proofs.BlockCalls.{BlockCall, IsBlock, kept_by, Blocking, declines, stops, plays, blocking}
use Rattle.replay_block.specs.declared.Session.{Session}
use Rattle.replay_block.specs.declared.BlockPlayed.{BlockPlayed}
use Rattle.replay_block.specs.declared.BlockAnswer.{BlockAnswer}
use Rattle.replay_block.specs.declared.BlockAnswer.TheVariants.{Refused, Played, Stopped}

-- A refusal by its number; a block that is played says how many bytes of text and how many bytes are kept, and one that stops, which has played the records
-- before the refused one, how many bytes of text and the number of that refusal.
abbrev pub block_played_said : BlockAnswer → Said
block_played_said (Refused n) = refusal n
block_played_said (Played text kept) = values (text ∷ kept ∷ [])
block_played_said (Stopped n text) = values (text ∷ n ∷ [])

-- The buffer is shorter than the bytes kept and read, or the text memory has under 8,192 bytes and 18 for each of them.
abbrev pub TooShort : ℕ → ℕ → List ℕ → List ℕ → Type 0
TooShort kept read buffer text = (length buffer < kept + read) ⊎ (length text < 8192 + 18 * (kept + read))

-- The state is out of its ranges, or the buffer or the text memory is too short.
abbrev pub CannotPlay : ℕ → ℕ → Session → List ℕ → List ℕ → Type 0
CannotPlay kept read s buffer text = (InRanges s.state → ⊥) ⊎ TooShort kept read buffer text

-- Exactly there a call is refused, and then nothing changed.
pub play_refuses : (kept read : ℕ) (s : Session) (buffer text : List ℕ)
    → let o = block_replayed kept read s buffer text in
    Refuses {S = Session × List ℕ × List ℕ} (block_played_said o.answer.answer) (CannotPlay kept read s buffer text) (s, buffer, text)
    (o.answer.session, o.buffer, o.text)
unfolding block_replayed block_played
play_refuses kept read s buffer text =
    pick_cases P (is_within s.state)
    (λ w. pick_cases P (nat_le (kept + read) (length buffer))
    (λ b. pick_cases P (nat_le (8192 + 18 * (kept + read)) (length text))
    (λ t. pick_cases P (is_stop (front_of (rest_in (take (kept + read) buffer))) (read == 0))
    (λ _. answers (λ r. r) (can ((within-iff s.state).0 w) (leb-true _ _ b) (leb-true _ _ t)))
    (λ _. answers (λ r. r) (can ((within-iff s.state).0 w) (leb-true _ _ b) (leb-true _ _ t))))
    (λ t. refuses (inr (inr (leb-false _ _ t))) tt))
    (λ b. refuses (inr (inl (leb-false _ _ b))) tt))
    (λ w. refuses (inl (λ ranges. false≢true (sym w ∙ (within-iff s.state).1 ranges))) tt)
  where
    P : BlockOutcome → Type 0
    P o =
        Refuses {S = Session × List ℕ × List ℕ} (block_played_said o.answer.answer) (CannotPlay kept read s buffer text) (s, buffer, text)
        (o.answer.session, o.buffer, o.text)

    can : InRanges s.state → kept + read ≤ length buffer → 8192 + 18 * (kept + read) ≤ length text → CannotPlay kept read s buffer text → ⊥
    can w b t (inl out) = out w
    can w b t (inr (inl short)) = omega arith
    can w b t (inr (inr short)) = omega arith

-- With which number: 16 before anything else, then 1, and no other.
pub record BlockRefusals (kept read : ℕ) (s : Session) (buffer text : List ℕ) (answer : BlockAnswer) : Type 0 where
  pub sixteen : (answer ≡ Refused 16) ↔ (InRanges s.state → ⊥)
  pub one : (answer ≡ Refused 1) ↔ (InRanges s.state × TooShort kept read buffer text)
  pub others : (n : ℕ) → answer ≡ Refused n → (n ≡ 16) ⊎ (n ≡ 1)

-- An answer that is no refusal.
not_stopped : {A : Type 0} {n k text : ℕ} → Stopped k text ≡ Refused n → A
not_stopped e = let z : ◌≡◌ {A = ℕ} 0 1 = cc in absurd (omega arith)

not-played : {A : Type 0} {n text kept : ℕ} → Played text kept ≡ Refused n → A
not-played e = let z : ◌≡◌ {A = ℕ} 0 1 = cc in absurd (omega arith)

same_number : {n k : ℕ} → Refused n ≡ Refused k → n ≡ k
same_number e = cc

-- Every call.
pub block-refusals : (kept read : ℕ) (s : Session) (buffer text : List ℕ) →
    BlockRefusals kept read s buffer text (block_replayed kept read s buffer text).answer.answer
unfolding block_replayed block_played
block-refusals kept read s buffer text =
    pick_cases P (is_within s.state)
    (λ w. pick_cases P (nat_le (kept + read) (length buffer))
    (λ b. pick_cases P (nat_le (8192 + 18 * (kept + read)) (length text))
    (λ t. pick_cases P (is_stop (front_of (rest_in (take (kept + read) buffer))) (read == 0))
    (λ _. none not_stopped not_stopped (λ n. not_stopped) ((within-iff s.state).0 w) (leb-true _ _ b) (leb-true _ _ t))
    (λ _. none not-played not-played (λ n. not-played) ((within-iff s.state).0 w) (leb-true _ _ b) (leb-true _ _ t)))
    (λ t. short ((within-iff s.state).0 w) (inr (leb-false _ _ t))))
    (λ b. short ((within-iff s.state).0 w) (inl (leb-false _ _ b))))
    (λ w. out (λ ranges. false≢true (sym w ∙ (within-iff s.state).1 ranges)))
  where
    P : BlockOutcome → Type 0
    P o = BlockRefusals kept read s buffer text o.answer.answer

    none : {answer : BlockAnswer} → (answer ≢ Refused 16) → (answer ≢ Refused 1) → ((n : ℕ) → answer ≢ Refused n) →
        InRanges s.state → kept + read ≤ length buffer → 8192 + 18 * (kept + read) ≤ length text → BlockRefusals kept read s buffer text answer
    none a b c w fits room =
        record {
          sixteen = (λ e. absurd (a e), λ out. absurd (out w));
          one = (λ e. absurd (b e), λ (v, few). absurd (can few));
          others = λ n e. absurd (c n e);
        }
      where
        can : TooShort kept read buffer text → ⊥
        can (inl few) = omega arith
        can (inr few) = omega arith

    short : InRanges s.state → TooShort kept read buffer text → BlockRefusals kept read s buffer text (Refused 1)
    short w few =
        record {
          sixteen = (λ e. absurd (omega (arith, same_number e)), λ out. absurd (out w));
          one = (λ e. (w, few), λ _. refl);
          others = λ n e. inr (sym (same_number e));
        }

    out : (InRanges s.state → ⊥) → BlockRefusals kept read s buffer text (Refused 16)
    out none =
        record {
          sixteen = (λ e. none, λ _. refl);
          one = (λ e. absurd (omega (arith, same_number e)), λ (w, few). absurd (none w));
          others = λ n e. inl (sym (same_number e));
        }

-- An answer that is no refusal.
abbrev pub Unrefused : BlockAnswer → Type 0
Unrefused (Refused n) = ⊥
Unrefused (Played text kept) = Unit
Unrefused (Stopped n text) = Unit

-- What holds of a call that is not refused, where this rest is left behind the records that it played.
pub record BlockIsRight (rest : List ℕ) (c : BlockCall) : Type 0 where
  -- it stops with 9 exactly where an unknown kind or a field out of its range is left
  pub nine : ((text : ℕ) × (c.returned.answer ≡ Stopped 9 text)) ↔ (Unrefused c.returned.answer × (front_of rest ≡ Err BadRecord))
  -- with 10 exactly where a record that is cut off is left and the trace has ended, and with no other number
  pub ten : ((text : ℕ) × (c.returned.answer ≡ Stopped 10 text))
      ↔ (Unrefused c.returned.answer × (front_of rest ≡ Err CutOff) × (c.read ≡ 0))
  pub others : (n text : ℕ) → c.returned.answer ≡ Stopped n text → (n ≡ 9) ⊎ (n ≡ 10)
  -- else, exactly where nothing is left, or a record that is cut off before bytes to come, the block is played
  pub played : ((text : ℕ) × (kept : ℕ) × (c.returned.answer ≡ Played text kept))
      ↔ (Unrefused c.returned.answer × ((rest ≡ []) ⊎ ((front_of rest ≡ Err CutOff) × (0 < c.read))))
  -- a stop leaves the buffer; what is beyond its text, which lies within its memory, is as it was
  pub stopped_leaves : (n text : ℕ) → c.returned.answer ≡ Stopped n text →
      (c.left_buffer ≡ c.buffer) × (text ≤ length c.left) × (drop text c.left ≡ drop text c.lent)
  -- a block that is played keeps as many bytes as it says, at most 6, and these are what is left; what is beyond them and beyond its text is as it was
  pub played_leaves : (text kept : ℕ) → c.returned.answer ≡ Played text kept →
      (kept ≡ length rest) × (kept ≤ 6) × (drop kept c.left_buffer ≡ drop kept c.buffer)
      × (text ≤ length c.left) × (drop text c.left ≡ drop text c.lent)

-- What a call has read of the bytes kept and read, where it leaves this rest: good records, one by one from the left, as far as there are any.
pub record HasRead (rest : List ℕ) (c : BlockCall) : Type 0 where
  pub records : List TraceRecord
  pub reads : ReadsAs (take (c.kept + c.read) c.buffer) records rest
  pub no_more : Stops rest

-- What holds of a call in a session within its ranges, behind these bytes kept.
pub record CallIsRight (before : List ℕ) (s : Session) (c : BlockCall) : Type 0 where
  -- it is refused with 1 exactly where the buffer or the text memory is too short, and with no other number: never with 16
  pub one : (c.returned.answer ≡ Refused 1) ↔ TooShort c.kept c.read c.buffer c.lent
  pub others : (n : ℕ) → c.returned.answer ≡ Refused n → n ≡ 1
  -- refused, it has changed nothing
  pub refused : (n : ℕ) → c.returned.answer ≡ Refused n → (c.returned.session ≡ s) × (c.left_buffer ≡ c.buffer) × (c.left ≡ c.lent)
  -- else it has read every good record up to what is left, and stops or is played by that
  pub has_read : Unrefused c.returned.answer → HasRead (kept_by c.returned.answer before c) c
  pub right : BlockIsRight (kept_by c.returned.answer before c) c

-- Where it stops, and where it does not.
stop_at : (rest : List ℕ) (read : ℕ) (f : Result (Option RecordFound) Refusal) → front_of rest ≡ f → is_stop f (read == 0) ≡ true →
    (k : Refusal) × (front_of rest ≡ Err k) × (refusal_of f ≡ number_of k) × ((k ≡ BadRecord) ⊎ ((k ≡ CutOff) × (read ≡ 0)))
stop_at rest read (Ok None) e stop = absurd (false≢true stop)
stop_at rest read (Ok (Some f)) e stop = absurd (false≢true stop)
stop_at rest read (Err n) e stop = (n, e, refl, why (front_case e) stop)
  where
    why : {x : List ℕ} {k : Refusal} → FrontCase x (Err k) → pick (number_of k == 10) (read == 0) true ≡ true → (k ≡ BadRecord) ⊎ ((k ≡ CutOff) × (read ≡ 0))
    why (no_kind u) stop = inl refl
    why (bad-field b) stop = inl refl
    why (cut_off_lem c) stop = inr (refl, eqb-true read 0 stop)

some : {n : ℕ} → (n ≢ 0) → 0 < n
some {n} h = elim (dec_lt 0 n) [ yes l ↦ l | no l ↦ absurd (h (omega arith)) ]

goes_at : (rest : List ℕ) (read : ℕ) (f : Result (Option RecordFound) Refusal) → front_of rest ≡ f → Stops rest → is_stop f (read == 0) ≡ false →
    (rest ≡ []) ⊎ ((front_of rest ≡ Err CutOff) × (0 < read))
goes_at rest read (Ok None) e stop on = inl (empty (front_case e))
  where
    empty : {x : List ℕ} → FrontCase x (Ok None) → x ≡ []
    empty ended = refl
goes_at rest read (Ok (Some f)) e stop on = absurd (stop f.found f.length e)
goes_at rest read (Err n) e stop on = number (front_case e) refl on
  where
    number : {x : List ℕ} {k : Refusal} → FrontCase x (Err k) → k ≡ n → pick (number_of k == 10) (read == 0) true ≡ false →
        (rest ≡ []) ⊎ ((front_of rest ≡ Err CutOff) × (0 < read))
    number (no_kind u) same on = absurd (true≢false on)
    number (bad-field b) same on = absurd (true≢false on)
    number (cut_off_lem c) same on = inr (e ∙ ap Err (sym same), some (eqb-false read 0 on))

-- Answers that differ.
module _ {A : Type 0} {answer : BlockAnswer} where
  no_refused_stop : {n k text : ℕ} → answer ≡ Refused n → answer ≡ Stopped k text → A
  no_refused_stop a b = let z : ◌≡◌ {A = ℕ} 0 1 = cc in absurd (omega arith)

  no_refused_play : {n text kept : ℕ} → answer ≡ Refused n → answer ≡ Played text kept → A
  no_refused_play a b = let z : ◌≡◌ {A = ℕ} 0 1 = cc in absurd (omega arith)

  no_stop_play : {n used text kept : ℕ} → answer ≡ Stopped n used → answer ≡ Played text kept → A
  no_stop_play a b = let z : ◌≡◌ {A = ℕ} 0 1 = cc in absurd (omega arith)

-- Nothing left is no refusal.
no_end : {A : Type 0} {n : Refusal} {rest : List ℕ} → rest ≡ [] → front_of rest ≡ Err n → A
no_end e there = let end = case_front ended in let z : ◌≡◌ {A = ℕ} 0 1 = cc (ap front_of e, end, there) in absurd (omega arith)

-- A call that is refused, one that stops, and one that is played.
module _ {rest : List ℕ} {c : BlockCall} where
  refused-right : {n : ℕ} → c.returned.answer ≡ Refused n → BlockIsRight rest c
  refused-right a =
      record {
        nine = (λ (t, e). no_refused_stop a e, λ (u, e). absurd (subst Unrefused a u));
        ten = (λ (t, e). no_refused_stop a e, λ (u, e, z). absurd (subst Unrefused a u));
        others = λ n text e. no_refused_stop a e;
        played = (λ (t, k, e). no_refused_play a e, λ (u, e). absurd (subst Unrefused a u));
        stopped_leaves = λ n text e. no_refused_stop a e;
        played_leaves = λ text kept e. no_refused_play a e;
      }

  stop-right : {used n : ℕ} → c.returned.answer ≡ Stopped n used
      → ((k : Refusal) × (front_of rest ≡ Err k) × (n ≡ number_of k) × ((k ≡ BadRecord) ⊎ ((k ≡ CutOff) × (c.read ≡ 0)))) →
      c.left_buffer ≡ c.buffer → used ≤ length c.left → drop used c.left ≡ drop used c.lent → BlockIsRight rest c
  stop-right {used} {n} a (k, there, is, which) buffer room beyond =
      record {
        nine = (
          λ (t, e). let same : n ≡ 9 = cc (a, e) in (rw a tt, there ∙ ap Err (bad which same)),
          λ (u, e). let same : k ≡ BadRecord = err_same (sym there ∙ e) in (used, a ∙ ap (λ (m : ℕ). Stopped m used) (is ∙ ap number_of same)),
        );
        ten = (
          λ (t, e). let same : n ≡ 10 = cc (a, e) in (rw a tt, there ∙ ap Err (cut which same).0, (cut which same).1),
          λ (u, e, z). let same : k ≡ CutOff = err_same (sym there ∙ e) in (used, a ∙ ap (λ (m : ℕ). Stopped m used) (is ∙ ap number_of same)),
        );
        others = λ m text e. let same : n ≡ m = cc (a, e) in number which same;
        played = (λ (t, k, e). no_stop_play a e, λ (u, e). not_on e);
        stopped_leaves = λ m text e. let same : text ≡ used = cc (a, e) in rw same (buffer, room, beyond);
        played_leaves = λ text kept e. no_stop_play a e;
      }
    where
      bad : (k ≡ BadRecord) ⊎ ((k ≡ CutOff) × (c.read ≡ 0)) → n ≡ 9 → k ≡ BadRecord
      bad (inl e) same = e
      bad (inr (e, z)) same = absurd (omega (arith, is, ap number_of e))

      cut : (k ≡ BadRecord) ⊎ ((k ≡ CutOff) × (c.read ≡ 0)) → n ≡ 10 → (k ≡ CutOff) × (c.read ≡ 0)
      cut (inl e) same = absurd (omega (arith, is, ap number_of e))
      cut (inr p) same = p

      number : {m : ℕ} → (k ≡ BadRecord) ⊎ ((k ≡ CutOff) × (c.read ≡ 0)) → n ≡ m → (m ≡ 9) ⊎ (m ≡ 10)
      number (inl e) same = inl (omega (arith, is, ap number_of e))
      number (inr (e, z)) same = inr (omega (arith, is, ap number_of e))

      not_on : {A : Type 0} → (rest ≡ []) ⊎ ((front_of rest ≡ Err CutOff) × (0 < c.read)) → A
      not_on (inl e) = no_end e there
      not_on (inr (e, more)) =
          let ten : n ≡ 10 = is ∙ ap number_of (err_same (sym there ∙ e)) in
          absurd (omega (arith, (cut which ten).1))

  play_right : {used kept : ℕ} → c.returned.answer ≡ Played used kept → (rest ≡ []) ⊎ ((front_of rest ≡ Err CutOff) × (0 < c.read)) →
      (kept ≡ length rest) × (kept ≤ 6) × (drop kept c.left_buffer ≡ drop kept c.buffer) → used ≤ length c.left →
      drop used c.left ≡ drop used c.lent → BlockIsRight rest c
  play_right {used} {kept} a goes keeps room beyond =
      record {
        nine = (λ (t, e). no_stop_play e a, λ (u, e). absurd (not-nine goes e));
        ten = (λ (t, e). no_stop_play e a, λ (u, e, z). absurd (not-ten goes e z));
        others = λ n text e. no_stop_play e a;
        played = (λ (t, k, e). (rw a tt, goes), λ (u, e). (used, kept, a));
        stopped_leaves = λ n text e. no_stop_play e a;
        played_leaves = λ text k e.
            let same : text ≡ used = cc (a, e) in
            let few : k ≡ kept = cc (a, e) in
            rw (same, few) (keeps.0, keeps.1, keeps.2, room, beyond);
      }
    where
      not-nine : (rest ≡ []) ⊎ ((front_of rest ≡ Err CutOff) × (0 < c.read)) → front_of rest ≢ Err BadRecord
      not-nine (inl e) there = no_end e there
      not-nine (inr (e, more)) there = let z : ◌≡◌ {A = ℕ} 10 9 = ap number_of (err_same (sym e ∙ there)) in omega arith

      not-ten : (rest ≡ []) ⊎ ((front_of rest ≡ Err CutOff) × (0 < c.read)) → front_of rest ≡ Err CutOff → c.read ≢ 0
      not-ten (inl e) there z = no_end e there
      not-ten (inr (e, more)) there z = omega arith

-- The text of a block lies within what is left of its memory.
lines-within : (lines m : List ℕ) → length lines ≤ length (over lines m)
lines-within lines m = omega (arith, length-append lines (drop (length lines) m))

-- Every call.
pub block-right : (before : List ℕ) (s : Session) (c : BlockCall) → IsBlock s c → BlockIsRight (kept_by c.returned.answer before c) c
block-right before s c h = go (blocking h)
  where
    go : Blocking c.kept c.read s c.buffer c.lent c.returned c.left_buffer c.left →
        BlockIsRight (kept_by c.returned.answer before c) c
    go (declines n out a b l) = refused-right (ap (λ (r : BlockPlayed). r.answer) a)
    go (stops {block} is stop a b l) =
        let rest : kept_by c.returned.answer before c ≡ rest_in block = rw a (ap rest_in (sym is)) in
        subst (λ (x : List ℕ). BlockIsRight x c) (sym rest)
        (stop-right (ap (λ (r : BlockPlayed). r.answer) a) (stop_at (rest_in block) c.read (front_of (rest_in block)) refl stop) b
        (rw l (lines-within (lines_in block s) c.lent)) (rw l (drop-append_seam (lines_in block s) _)))
    go (plays {block} is on a b l) =
        let rest : kept_by c.returned.answer before c ≡ rest_in block = rw (a, b) (take-append_seam (rest_in block) _) in
        subst (λ (x : List ℕ). BlockIsRight x c) (sym rest)
        (play_right (ap (λ (r : BlockPlayed). r.answer) a) (goes_at (rest_in block) c.read (front_of (rest_in block)) refl (rest-stops block) on)
        (refl, rest-few (rest_in block) (c.read == 0) (rest-stops block) on, rw b (drop-append_seam (rest_in block) _))
        (rw l (lines-within (lines_in block s) c.lent)) (rw l (drop-append_seam (lines_in block s) _)))

-- The records that a call has read.
block_read : (before : List ℕ) (s : Session) (c : BlockCall) → IsBlock s c → Unrefused c.returned.answer →
    HasRead (kept_by c.returned.answer before c) c
block_read before s c h unrefused = go (blocking h)
  where
    all : {block : List ℕ} → block ≡ take (c.kept + c.read) c.buffer → HasRead (rest_in block) c
    all {block} is =
        record {
          records = records_in block;
          reads = subst (λ (l : List ℕ). ReadsAs l (records_in block) (rest_in block)) is (reads_all block);
          no_more = rest-stops block;
        }

    go : Blocking c.kept c.read s c.buffer c.lent c.returned c.left_buffer c.left → HasRead (kept_by c.returned.answer before c) c
    go (declines n out a b l) = absurd (subst Unrefused (ap (λ (r : BlockPlayed). r.answer) a) unrefused)
    go (stops {block} is stop a b l) =
        let rest : kept_by c.returned.answer before c ≡ rest_in block = rw a (ap rest_in (sym is)) in
        subst (λ (x : List ℕ). HasRead x c) (sym rest) (all is)
    go (plays {block} is on a b l) =
        let rest : kept_by c.returned.answer before c ≡ rest_in block = rw (a, b) (take-append_seam (rest_in block) _) in
        subst (λ (x : List ℕ). HasRead x c) (sym rest) (all is)

-- What a call that stopped left, and one that was played at the end of the trace.
pub stops_at : {rest : List ℕ} {c : BlockCall} {text n : ℕ} → BlockIsRight rest c → c.returned.answer ≡ Stopped n text →
    (k : Refusal) × (front_of rest ≡ Err k) × (number_of k ≡ n)
stops_at {rest} {c} {text} {n} right e = by (right.others n text e)
  where
    by : (n ≡ 9) ⊎ (n ≡ 10) → (k : Refusal) × (front_of rest ≡ Err k) × (number_of k ≡ n)
    by (inl same) = (BadRecord, (right.nine.0 (text, rw same at e)).1, sym same)
    by (inr same) = (CutOff, (right.ten.0 (text, rw same at e)).1, sym same)

pub ends_at : {rest : List ℕ} {c : BlockCall} {text kept : ℕ} → BlockIsRight rest c → c.returned.answer ≡ Played text kept → c.read ≡ 0 → rest ≡ []
ends_at {rest} {c} {text} {kept} right e end = by (right.played.0 (text, kept, e)).1
  where
    by : (rest ≡ []) ⊎ ((front_of rest ≡ Err CutOff) × (0 < c.read)) → rest ≡ []
    by (inl none) = none
    by (inr (cut, more)) = absurd (omega arith)

-- Every call in a session within its ranges.
pub call-right : (before : List ℕ) (s : Session) (c : BlockCall) → is_within s.state ≡ true → IsBlock s c → CallIsRight before s c
call-right before s c within h =
    record {
      one = (λ e. (words.one.0 e).1, λ short. words.one.1 (ranges, short));
      others = λ n e. number n e (words.others n e);
      refused = λ n e. unchanged (blocking h) e;
      has_read = block_read before s c h;
      right = block-right before s c h;
    }
  where
    ranges : InRanges s.state
    ranges = (within-iff s.state).0 within

    words : BlockRefusals c.kept c.read s c.buffer c.lent c.returned.answer
    words =
        subst (BlockRefusals c.kept c.read s c.buffer c.lent) (sym (ap (λ (o : BlockOutcome). o.answer.answer) h))
        (block-refusals c.kept c.read s c.buffer c.lent)

    number : (n : ℕ) → c.returned.answer ≡ Refused n → (n ≡ 16) ⊎ (n ≡ 1) → n ≡ 1
    number n e (inl same) = absurd (words.sixteen.0 (e ∙ ap Refused same) ranges)
    number n e (inr same) = same

    unchanged : {n : ℕ} → Blocking c.kept c.read s c.buffer c.lent c.returned c.left_buffer c.left →
        c.returned.answer ≡ Refused n → (c.returned.session ≡ s) × (c.left_buffer ≡ c.buffer) × (c.left ≡ c.lent)
    unchanged (declines n out a b l) e = (ap (λ (r : BlockPlayed). r.session) a, b, l)
    unchanged (stops is stop a b l) e = no_refused_stop e (ap (λ (r : BlockPlayed). r.answer) a)
    unchanged (plays is on a b l) e = no_refused_play e (ap (λ (r : BlockPlayed). r.answer) a)

-- The numbers of an answer: the text lies within its memory, and at most 6 bytes are kept.
abbrev pub AnswerWithin : BlockAnswer → List ℕ → Type 0
AnswerWithin (Refused n) text = Unit
AnswerWithin (Played used kept) text = (used ≤ length text) × (kept ≤ 6)
AnswerWithin (Stopped n used) text = used ≤ length text

pub answer-within : {left_buffer left : List ℕ} {returned : BlockPlayed} (kept read : ℕ) (s : Session) (buffer lent : List ℕ) →
    block_outcome returned.session returned.answer left_buffer left ≡ block_replayed kept read s buffer lent → AnswerWithin returned.answer left
answer-within {left_buffer} {left} {returned} kept read s buffer lent h = go (blocking h)
  where
    go : Blocking kept read s buffer lent returned left_buffer left → AnswerWithin returned.answer left
    go (declines n out a b l) = rw a tt
    go (stops {block} is stop a b l) = rw (a, l) (lines-within (lines_in block s) lent)
    go (plays {block} is on a b l) =
        rw (a, l) (lines-within (lines_in block s) lent, rest-few (rest_in block) (read == 0) (rest-stops block) on)

-- The beginning of a session: the start by hand, and nothing counted; 8 for a bad address.
pub record BeginWords (address : List ℕ) (b : Begun) : Type 0 where
  pub state : b.session.state ≡ hand_start address
  pub place : b.session.place ≡ 0
  pub records : b.session.records ≡ 0
  pub frames : b.session.frames ≡ 0
  pub replies : b.session.replies ≡ 0
  pub made : Good address → b.answer ≡ Ok tt
  pub refused : (Good address → ⊥) → b.answer ≡ Err BadArgument

pub begin_words : (address : List ℕ) → BeginWords address (begun address)
unfolding begun started
begin_words address =
    let start = start-words address in
    record { state = refl; place = refl; records = refl; frames = refl; replies = refl; made = start.made; refused = start.refused }

-- A beginning is refused exactly where the address is not good, and what then comes back is out of its ranges.
pub begin_refused : (address : List ℕ)
    → let b = begun address in
    (IsRefusal (host_said b.answer) ↔ (Good address → ⊥)) × (IsRefusal (host_said b.answer) → InRanges b.session.state → ⊥)
unfolding begun
begin_refused address = start-refused address
