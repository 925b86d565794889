-- The judge of a reply says what document 01 says in words; and a reading that it passes is one.
use Rattle.frame.specs.declared.refusal.Refusal.TheVariants.{ShortMemory, NotAllowed, NotOneFrame, NotAnAnswer}
use Rattle.std.specs.Prelude.{ℕ, ◌≤◌, ◌≡◌, List, [], ◌∷◌, ◌++◌, ◌↔◌, length, take, drop, Err, Ok, Result, Some}
use Rattle.frame.specs.declared.refusal.Refusal.{Refusal}
use Rattle.reader_judgement.specs.declared.Reply.{Reply}
use Rattle.reader_judgement.specs.declared.Reply.TheVariants.{Error, Value}
use Rattle.std.proofs.Math.Path.{refl}
use Rattle.std.proofs.Common.{sym, ap, subst, ◌∙◌, arith, take_at}
use borrow.Author.Tests.{leb-true, le-leb}
use Rattle.laws.specs.Memory.{over}
use Rattle.laws.specs.Words.{Words, done, says, Every, FirstFails, Say}
use Rattle.laws.specs.WordsThen.{answered-iff, failed-then-iff}
use Rattle.frame.specs.Frame.{Frame, address_of, control_of, data_of}
use Rattle.frame.proofs.FrameLaws.{address-six}
use Rattle.frame.proofs.RecognitionLaws.{one-frame, frame-one}
use Rattle.item_decimal.specs.Decimal.{Decimal, unpacked}
use Rattle.item_decimal.proofs.DecimalLaws.{unpacked-below}
use Rattle.item.specs.Table.{item_of, read_only}
use Rattle.item.specs.declared.table.Kind.TheVariants.{Energy}
use Rattle.item.proofs.TableWords as table
use Rattle.item.proofs.TableWords.{one, table-words}
use Rattle.item.specs.declared.table.Item.{Item}
use Rattle.reader_judgement.specs.Judging.{reply_value, data_judgement}
use Rattle.reader_judgement.specs.JudgingWords.{NormalControl, MayComeFrom, IsAnAnswer, normal, error, ItemLength, normal_words, data_words, value_of_reply}
use Rattle.reader_judgement.proofs.JudgingWordsLaws.{answers-words, value-words, refused-one, refused_no_value, refused_no_error, data_refused, data_value, data_error}
use Rattle.reader_judgement.specs.declared.Action.{Action}
use Rattle.reader_judgement.specs.declared.Action.TheVariants.{ReadData, ReadAddress, WriteData}
use Rattle.reader.specs.Allowed.{RequestSized}
use Rattle.reader.proofs.AllowedWords.{AllowedInWords}
use Rattle.reader.specs.Judging.{is_answer, call_checks, frame_checks, judgement_of, written, judged}
use Rattle.reader.proofs.JudgingLaws.{judged-words}
use Rattle.reader.proofs.JudgeWords.{judge_words, GoodRead, GoodValue, GoodError, Judges, OneReading, forward, reverse}
use Rattle.reader.specs.declared.Request.{Request}

-- The checks before those of the data, in words.
abbrev reply_words : Request → List ℕ → List ℕ → Words Refusal
reply_words request bytes m =
    says (196 ≤ length m) ShortMemory
    (λ _. says (AllowedInWords request.action request) NotAllowed
    (λ _. says (Frame bytes) NotOneFrame
    (λ _. says (IsAnAnswer request.action request.address (control_of bytes) (address_of bytes)) NotAnAnswer
    (λ _. done))))

-- An answer comes from where document 01 says.
comes-from : {action : Action} {address from : List ℕ} {control : ℕ} → IsAnAnswer action address control from → MayComeFrom action address from
comes-from (normal c f) = f
comes-from (error c f) = f

-- What holds of every good normal reply: the checks before those of the data, the control code, the checks of the data, the length.
abbrev Passes : Action → Request → List ℕ → List ℕ → ℕ → Type 0
Passes action request bytes m n =
    (196 ≤ length m)
    × AllowedInWords action request
    × Frame bytes
    × NormalControl action (control_of bytes)
    × MayComeFrom action request.address (address_of bytes)
    × Every (normal_words action request.identifier (address_of bytes) (data_of bytes))
    × (n ≡ length (value_of_reply action (data_of bytes)))

-- Data of length 0 are none.
no_data : (payload : List ℕ) → length payload ≡ 0 → payload ≡ []
no_data [] h = refl
no_data (x ∷ more) h = absurd (omega arith)

passes-good : (action : Action) (request : Request) (bytes m : List ℕ) (n : ℕ) → Passes action request bytes m n → GoodValue action request bytes m n
passes-good ReadData request bytes m n (room, allowed, frame, control, from, data-said, count) =
    let found = data-said.1.1.0 in
    record {
      room = room;
      allowed = allowed;
      one-frame = frame;
      control = control;
      from = from;
      least = data-said.0;
      identifier = data-said.1.0;
      item = found.item;
      listed = found.listed;
      as_long = found.as_long;
      decimal = data-said.1.1.1.0;
      count = count;
    }
passes-good ReadAddress request bytes m n (room, allowed, frame, control, from, data-said, count) =
    record {
      room = room;
      one-frame = frame;
      control = control;
      repeats = data-said.1.1.0;
      good = data-said.1.1.1.0;
      count = count ∙ data-said.0;
    }
passes-good WriteData request bytes m n (room, allowed, frame, control, from, data-said, count) =
    record {
      room = room;
      allowed = allowed;
      one-frame = frame;
      control = control;
      from = from;
      none = no_data (data_of bytes) data-said.0;
      count = count ∙ data-said.0;
    }

good-passes : (action : Action) (request : Request) (bytes m : List ℕ) (n : ℕ) → GoodValue action request bytes m n → Passes action request bytes m n
good-passes ReadData request bytes m n g =
    let found : ItemLength request.identifier (length (drop 4 (data_of bytes))) = record { item = g.item; listed = g.listed; as_long = g.as_long } in
    (g.room, g.allowed, g.one-frame, g.control, g.from, (g.least, (g.identifier, (found, (g.decimal, tt)))), g.count)
good-passes ReadAddress request bytes m n g =
    let six : length (data_of bytes) ≡ 6 = ap length g.repeats ∙ address-six g.one-frame in
    let decimal : Decimal (data_of bytes) = rw g.repeats g.good.decimal in
    (g.room, tt, g.one-frame, g.control, tt, (six, (decimal, (g.repeats, (g.good, tt)))), g.count ∙ sym six)
good-passes WriteData request bytes m n g =
    let none : length (data_of bytes) ≡ 0 = ap length g.none in
    (g.room, g.allowed, g.one-frame, g.control, g.from, (none, tt), g.count ∙ sym none)

module _ (request : Request) (bytes m : List ℕ) (sized : RequestSized request) where
  say_reply : Say (call_checks request m ++ frame_checks request bytes) (reply_words request bytes m)
  unfolding call_checks frame_checks is_answer
  say_reply = (
    (leb-true 196 _, le-leb 196 _),
    refl,
    λ _. (
      judged-words request sized,
      refl,
      λ _. (
        (one-frame bytes, frame-one bytes),
        refl,
        λ frame. (
          answers-words request.address (address_of bytes) sized.address (address-six frame) request.action (control_of bytes),
          refl,
          λ _. tt,
        ),
      ),
    ),
  )

  -- The judgement of the data.
  abbrev of_data : Result Reply Refusal
  of_data = data_judgement request.action request.identifier (control_of bytes) (address_of bytes) (data_of bytes)

  refused-said : (n : Refusal) → ((judged request bytes m).answer ≡ Err n) ↔ FirstFails (judge_words request bytes m) n
  unfolding judged judgement_of
  refused-said =
      failed-then-iff Err of_data _ _ say_reply refused-one (λ all. data_words request.identifier (data_of bytes) all.1.1.1.0)
      (λ all. data_refused request.action request.identifier (control_of bytes) (address_of bytes) (data_of bytes) all.1.1.1.0)

  -- An answer that is no refusal is that of the data, where every check before them holds.
  passed-said : (answer : Result Reply Refusal) → ((n : Refusal) → Err n ≡ answer → ⊥)
      → ((judged request bytes m).answer ≡ answer) ↔ (Every (reply_words request bytes m) × (of_data ≡ answer))
  unfolding judged judgement_of
  passed-said answer apart = answered-iff Err of_data _ _ say_reply answer apart

  error-said : (byte : ℕ) → ((judged request bytes m).answer ≡ Ok (Error byte)) ↔ GoodError request bytes m byte
  error-said byte = (to_words, to_answer)
    where
      iff : ((judged request bytes m).answer ≡ Ok (Error byte)) ↔ (Every (reply_words request bytes m) × (of_data ≡ Ok (Error byte)))
      iff = passed-said (Ok (Error byte)) (λ n. refused_no_error n byte)

      to_words : (judged request bytes m).answer ≡ Ok (Error byte) → GoodError request bytes m byte
      to_words e =
          let w = iff.0 e in
          let answer = w.0.1.1.1.0 in
          let said = (data_error request.action request.identifier (control_of bytes) (address_of bytes) (data_of bytes) answer byte).0 w.1 in
          record { room = w.0.0; allowed = w.0.1.0; one-frame = w.0.1.1.0; control = said.0; from = comes-from answer; one_byte = said.1 }

      to_answer : GoodError request bytes m byte → (judged request bytes m).answer ≡ Ok (Error byte)
      to_answer g =
          let answer = error g.control g.from in
          iff.1 (
            (g.room, (g.allowed, (g.one-frame, (answer, tt)))),
            (data_error request.action request.identifier (control_of bytes) (address_of bytes) (data_of bytes) answer byte).1 (g.control, g.one_byte),
          )

  value-said : (n : ℕ) → ((judged request bytes m).answer ≡ Ok (Value n)) ↔ GoodValue request.action request bytes m n
  value-said n = (to_words, to_answer)
    where
      iff : ((judged request bytes m).answer ≡ Ok (Value n)) ↔ (Every (reply_words request bytes m) × (of_data ≡ Ok (Value n)))
      iff = passed-said (Ok (Value n)) (λ k. refused_no_value k n)

      to_words : (judged request bytes m).answer ≡ Ok (Value n) → GoodValue request.action request bytes m n
      to_words e =
          let w = iff.0 e in
          let answer = w.0.1.1.1.0 in
          let said = (data_value request.action request.identifier (control_of bytes) (address_of bytes) (data_of bytes) answer n).0 w.1 in
          passes-good request.action request bytes m n (w.0.0, w.0.1.0, w.0.1.1.0, said.0, comes-from answer, said.1, said.2)

      to_answer : GoodValue request.action request bytes m n → (judged request bytes m).answer ≡ Ok (Value n)
      to_answer g =
          let (room, allowed, frame, control, from, data-said, count) = good-passes request.action request bytes m n g in
          let answer = normal control from in
          iff.1 (
            (room, (allowed, (frame, (answer, tt)))),
            (data_value request.action request.identifier (control_of bytes) (address_of bytes) (data_of bytes) answer n).1 (control, data-said, count),
          )

  -- Only a value is written.
  value_in_front : (n : ℕ) → (judged request bytes m).answer ≡ Ok (Value n)
      → (judged request bytes m).memory ≡ over (value_of_reply request.action (data_of bytes)) m
  unfolding judged
  value_in_front n e = rw (e, value-words request.action (data_of bytes))

  no_value_kept : ((n : ℕ) → (judged request bytes m).answer ≡ Ok (Value n) → ⊥) → (judged request bytes m).memory ≡ m
  unfolding judged
  no_value_kept = go (judgement_of request bytes m)
    where
      go : (j : Result Reply Refusal) → ((n : ℕ) → j ≡ Ok (Value n) → ⊥) → written j (reply_value request.action (data_of bytes)) m ≡ m
      go (Ok (Value n)) h = absurd (h n refl)
      go (Ok (Error byte)) h = refl
      go (Err n) h = refl

  -- The judge answers and leaves what document 01 says.
  pub judge-words : Judges request bytes m
  judge-words = record {
    refused = refused-said;
    error = error-said;
    value = value-said;
    in_front = value_in_front;
    else_as_before = no_value_kept;
  }

-- The table has one reading of four bytes for such an identifier.
reading-length : (identifier : ℕ) (item : Item) → OneReading identifier → item_of identifier ≡ Some item → item.length ≡ 4
reading-length identifier item (forward t s h k e) listed =
    cc ((table-words identifier (read_only (Energy 0 t 1 s 1) 4)).1 (table.forward (one t s h k e refl)))
reading-length identifier item (reverse t s h k e) listed =
    cc ((table-words identifier (read_only (Energy 1 t 1 s 1) 4)).1 (table.reverse (one t s h k e refl)))

-- Where the judge passes a reply to a read of one reading, its value has four bytes, and their number is one that a reading can have.
pub good-reading : (request : Request) (bytes m : List ℕ) → RequestSized request → request.action ≡ ReadData → OneReading request.identifier
    → (n : ℕ) → (judged request bytes m).answer ≡ Ok (Value n) → (n ≡ 4) × (unpacked (take 4 (judged request bytes m).memory) ≤ 99999999)
good-reading request bytes m sized read single n e =
    let good : GoodRead request bytes m n = subst (λ (a : Action). GoodValue a request bytes m n) read (((judge-words request bytes m sized).value n).0 e) in
    let four : length (drop 4 (data_of bytes)) ≡ 4 = good.as_long ∙ reading-length request.identifier good.item single good.listed in
    let front : (judged request bytes m).memory ≡ over (drop 4 (data_of bytes)) m =
    subst (λ (a : Action). (judged request bytes m).memory ≡ over (value_of_reply a (data_of bytes)) m) read ((judge-words request bytes m sized).in_front n e) in
    let value : take 4 (judged request bytes m).memory ≡ drop 4 (data_of bytes) = rw front (take_at (drop 4 (data_of bytes)) _ 4 four) in
    let below : unpacked (drop 4 (data_of bytes)) ≤ 99999999 = omega (arith, rw four at (unpacked-below (drop 4 (data_of bytes)) good.decimal)) in
    (good.count ∙ four, rw value below)
