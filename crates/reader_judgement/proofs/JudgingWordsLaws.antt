-- The tests and checks of a reply say what document 01 says in words.
use Rattle.laws.specs.ResultLaws.{err_same}
use Rattle.reader_judgement.specs.declared.Reply.{Reply}
use Rattle.frame.specs.declared.refusal.Refusal.{Refusal}
use Rattle.std.specs.Prelude.{ℕ, ◌≡◌, refl, List, [], ◌∷◌, Bool, false, ◌||◌, ◌↔◌, length, get_or, drop, Err, None, Ok, Option, Some, Result}
use Rattle.item.specs.declared.table.Item.{Item}
use Rattle.reader_judgement.specs.declared.Reply.TheVariants.{Error, Value}
use Rattle.std.proofs.Common.{sym, ap, ◌∙◌, arith, leb-true, le-leb, eqb-true, eq-eqb}
use Rattle.std.proofs.Math.Bool.{true, true≢false, and-eq-true_iff, or-true}
use Rattle.std.proofs.lemmas.Bool.{false≢true}
use Rattle.laws.specs.TestLaws.{pick_cases}
use Rattle.laws.specs.Checks.{first_failing}
use Rattle.laws.specs.Words.{Every, FirstFails, Say}
use Rattle.laws.specs.WordsLaws.{failed-iff}
use Rattle.laws.specs.WordsThen.{answered-iff}
use Rattle.item_same.specs.SameLaws.{same-equal, equal-same}
use Rattle.item_decimal.proofs.DecimalLaws.{all-decimal, decimal-all}
use Rattle.item_address.specs.Address.{is_good, is_short, short_matches}
use Rattle.item_address.proofs.AddressLaws.{good, is_good_lem, short-address, is_short_lem, short-for, for-short}
use Rattle.item_command.specs.Reply.{control_code, reply_to}
use Rattle.item.specs.Table.{item_of, has_length}
use Rattle.reader_judgement.specs.Judging.{is_normal, is_error, answers_from, answers, error_checks, normal_checks, reply_value, data_judgement}
use Rattle.reader_judgement.specs.JudgingWords.{NormalControl, ErrorControl, FromAsked, equal, short, MayComeFrom, IsAnAnswer, normal, error, ItemLength, error_words, normal_words, data_words, value_of_reply}
use Rattle.reader_judgement.specs.declared.Action.{Action}
use Rattle.reader_judgement.specs.declared.Action.TheVariants.{ReadData, ReadAddress, WriteData}

-- The control codes of normal replies are 91, 93 and 94, and those of error replies D1 and D4.
pub normal-control : (action : Action) (control : ℕ) → (is_normal action control ≡ true) ↔ NormalControl action control
unfolding is_normal reply_to control_code
normal-control ReadData control = (eqb-true control 0x91, eq-eqb control 0x91)
normal-control ReadAddress control = (eqb-true control 0x93, eq-eqb control 0x93)
normal-control WriteData control = (eqb-true control 0x94, eq-eqb control 0x94)

pub error-control : (action : Action) (control : ℕ) → (is_error action control ≡ true) ↔ ErrorControl action control
unfolding is_error reply_to control_code
error-control ReadData control = (eqb-true control 0xD1, eq-eqb control 0xD1)
error-control ReadAddress control = (λ h. false≢true h, λ w. absurd w)
error-control WriteData control = (eqb-true control 0xD4, eq-eqb control 0xD4)

-- No control code is both.
never_both : (action : Action) (control : ℕ) → NormalControl action control → ErrorControl action control → ⊥
never_both ReadData control n e = omega arith
never_both ReadAddress control n e = e
never_both WriteData control n e = omega arith

-- Addresses of six bytes: the test of where a reply comes from.
module _ (address from : List ℕ) (six : length address ≡ 6) (from-six : length from ≡ 6) where
  from-asked : answers_from ReadData address from ≡ true → FromAsked address from
  unfolding answers_from
  from-asked =
      pick_cases (λ t. t ≡ true → FromAsked address from) (is_short address)
      (λ s h. let both = (and-eq-true_iff (is_good from) (short_matches address from)).0 h in
      short (short-address address six s) (good from both.0) (short-for address from six both.1))
      (λ s h. equal (λ w. true≢false (sym (is_short_lem address six w) ∙ s)) (same-equal from address h))

  asked-from : FromAsked address from → answers_from ReadData address from ≡ true
  unfolding answers_from
  asked-from (equal full e) =
      pick_cases (λ t. t ≡ true) (is_short address) (λ s. absurd (full (short-address address six s))) (λ s. equal-same from address e)
  asked-from (short s g f) = rw (is_short_lem address six s, is_good_lem from g) (for-short address from six from-six g.decimal f)

  from-words : (action : Action) → (answers_from action address from ≡ true) ↔ MayComeFrom action address from
  unfolding answers_from
  from-words ReadData = (from-asked, asked-from)
  from-words ReadAddress = (λ h. tt, λ w. refl)
  from-words WriteData = (same-equal from address, equal-same from address)

  -- Control and address are an answer exactly where document 01 says so.
  pub answers-words : (action : Action) (control : ℕ) → (answers action address control from ≡ true) ↔ IsAnAnswer action address control from
  answers-words action control = (to_words, to_test)
    where
      by : (t : Bool) → is_normal action control ≡ t → (t || is_error action control) ≡ true → MayComeFrom action address from
          → IsAnAnswer action address control from
      by true e h f = normal ((normal-control action control).0 e) f
      by false e h f = error ((error-control action control).0 h) f

      to_words : answers action address control from ≡ true → IsAnAnswer action address control from
      to_words h =
          let both = (and-eq-true_iff (is_normal action control || is_error action control) (answers_from action address from)).0 h in
          by (is_normal action control) refl both.0 ((from-words action).0 both.1)

      to_test : IsAnAnswer action address control from → answers action address control from ≡ true
      to_test (normal c f) = rw ((normal-control action control).1 c) ((from-words action).1 f)
      to_test (error c f) = rw ((error-control action control).1 c, or-true (is_normal action control)) ((from-words action).1 f)

-- A value has the length of the item that is listed for the identifier.
item-length : (identifier n : ℕ) → (has_length (item_of identifier) n ≡ true) ↔ ItemLength identifier n
item-length identifier n = (go (item_of identifier) refl, λ w. rw w.listed (eq-eqb n _ w.as_long))
  where
    go : (found : Option Item) → item_of identifier ≡ found → has_length found n ≡ true → ItemLength identifier n
    go (Some item) e h = record { item = item; listed = e; as_long = eqb-true n _ h }
    go None e h = absurd (false≢true h)

-- The checks of an error reply's data, and those of a normal reply's, say these words.
pub say_error : (payload : List ℕ) → Say (error_checks payload) (error_words payload)
unfolding error_checks
say_error payload = ((eqb-true _ _, eq-eqb _ _), refl, λ _. tt)

pub say_normal : (action : Action) (identifier : ℕ) (from payload : List ℕ)
    → Say (normal_checks action identifier from payload) (normal_words action identifier from payload)
unfolding normal_checks
say_normal ReadData identifier from payload = (
  (leb-true 4 _, le-leb 4 _),
  refl,
  λ _. (
    (same-equal _ _, equal-same _ _),
    refl,
    λ _. (item-length identifier _, refl, λ _. ((all-decimal (drop 4 payload), decimal-all (drop 4 payload)), refl, λ _. tt)),
  ),
)
say_normal ReadAddress identifier from payload = (
  (eqb-true _ _, eq-eqb _ _),
  refl,
  λ _. (
    (all-decimal payload, decimal-all payload),
    refl,
    λ _. ((same-equal payload from, equal-same payload from), refl, λ _. ((good from, is_good_lem from), refl, λ _. tt)),
  ),
)
say_normal WriteData identifier from payload = ((eqb-true _ _, eq-eqb _ _), refl, λ _. tt)

-- The value of a reply is document 01's.
pub value-words : (action : Action) (payload : List ℕ) → reply_value action payload ≡ value_of_reply action payload
unfolding reply_value
value-words ReadData payload = refl
value-words ReadAddress payload = refl
value-words WriteData payload = refl

-- Refusals are neither values nor error bytes.
pub refused-one : (n k : Refusal) → ◌≡◌ {A = Result Reply Refusal} (Err n) (Err k) → n ≡ k
refused-one n k e = err_same e

pub refused_no_value : (n : Refusal) (k : ℕ) → Err n ≡ Ok (Value k) → ⊥
refused_no_value n k e = let z : ◌≡◌ {A = ℕ} 0 1 = cc in omega arith

pub refused_no_error : (n : Refusal) (k : ℕ) → Err n ≡ Ok (Error k) → ⊥
refused_no_error n k e = let z : ◌≡◌ {A = ℕ} 0 1 = cc in omega arith

value_no_error : (n k : ℕ) → ◌≡◌ {A = Result Reply Refusal} (Ok (Value n)) (Ok (Error k)) → ⊥
value_no_error n k e = let z : ◌≡◌ {A = ℕ} 0 1 = cc in omega arith

-- Data of length 1 that begin with this byte are this byte alone.
one_byte : (payload : List ℕ) (byte : ℕ) → ((length payload ≡ 1) × (get_or payload 0 0 ≡ byte)) ↔ (payload ≡ byte ∷ [])
one_byte payload byte = (go payload, λ e. (ap length e, ap (λ (l : List ℕ). get_or l 0 0) e))
  where
    go : (payload : List ℕ) → (length payload ≡ 1) × (get_or payload 0 0 ≡ byte) → payload ≡ byte ∷ []
    go [] h = absurd (omega arith)
    go (x ∷ []) h = cc
    go (x ∷ y ∷ more) h = absurd (omega arith)

-- The control code of a normal reply is not that of an error reply, so that each is judged by its own checks.
no_error : (action : Action) (control : ℕ) → NormalControl action control → is_error action control ≡ false
no_error action control c = by (is_error action control) refl
  where
    by : (t : Bool) → is_error action control ≡ t → t ≡ false
    by true e = absurd (never_both action control c ((error-control action control).0 e))
    by false e = refl

module _ (action : Action) (identifier control : ℕ) (from payload : List ℕ) where
  normal-judged : NormalControl action control
      → data_judgement action identifier control from payload
      ≡ first_failing Err (normal_checks action identifier from payload) (Ok (Value (length (value_of_reply action payload))))
  unfolding data_judgement
  normal-judged c = rw (no_error action control c, value-words action payload)

  error-judged : ErrorControl action control
      → data_judgement action identifier control from payload ≡ first_failing Err (error_checks payload) (Ok (Error (get_or payload 0 0)))
  unfolding data_judgement
  error-judged c = rw ((error-control action control).1 c)

  -- The judgement of the data of a reply whose control and address are an answer, in words.
  module _ {address : List ℕ} where
    pub data_refused : (answer : IsAnAnswer action address control from) (n : Refusal)
        → (data_judgement action identifier control from payload ≡ Err n) ↔ FirstFails (data_words identifier payload answer) n
    data_refused (normal c f) n =
        rw (normal-judged c)
        (failed-iff Err _ (λ k. refused_no_value k _) refused-one _ _ (say_normal action identifier from payload) n)
    data_refused (error c f) n =
        rw (error-judged c) (failed-iff Err _ (λ k. refused_no_error k _) refused-one _ _ (say_error payload) n)

    pub data_value : IsAnAnswer action address control from → (n : ℕ)
        → (data_judgement action identifier control from payload ≡ Ok (Value n))
        ↔ (NormalControl action control × Every (normal_words action identifier from payload) × (n ≡ length (value_of_reply action payload)))
    data_value (normal c f) n =
        let iff = answered-iff Err _ _ _ (say_normal action identifier from payload) (Ok (Value n)) (λ k. refused_no_value k n) in
        rw (normal-judged c) (λ e. let w = iff.0 e in (c, w.0, cc), λ w. iff.1 (w.1, cc))
    data_value (error c f) n =
        rw (error-judged c) (
          λ e. absurd (value_no_error n _ (sym ((answered-iff Err _ _ _ (say_error payload) (Ok (Value n)) (λ k. refused_no_value k n)).0 e).1)),
          λ w. absurd (never_both action control w.0 c),
        )

    pub data_error : IsAnAnswer action address control from → (byte : ℕ)
        → (data_judgement action identifier control from payload ≡ Ok (Error byte)) ↔ (ErrorControl action control × (payload ≡ byte ∷ []))
    data_error (normal c f) byte =
        rw (normal-judged c) (
          λ e. absurd (value_no_error _ byte ((answered-iff Err _ _ _ (say_normal action identifier from payload) (Ok (Error byte)) (λ k. refused_no_error k byte)).0 e).1),
          λ w. absurd (never_both action control c w.0),
        )
    data_error (error c f) byte =
        let iff = answered-iff Err _ _ _ (say_error payload) (Ok (Error byte)) (λ k. refused_no_error k byte) in
        rw (error-judged c) (
          λ e. let w = iff.0 e in (c, (one_byte payload byte).0 (w.0.0, cc)),
          λ w. let one = (one_byte payload byte).1 w.1 in iff.1 ((one.0, tt), ap (λ byte. Ok (Error byte)) one.1),
        )
