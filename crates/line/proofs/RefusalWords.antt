-- The receiver's refusals in document 01's words, for any receiver, symbol and memory.
use Rattle.line.specs.declared.Delivered.{Delivered}
use Rattle.laws.specs.ResultLaws.{err_same}
use Rattle.frame.specs.declared.refusal.Refusal.{Refusal}
use Rattle.std.specs.Prelude.{ℕ, ◌≤◌, ◌<◌, ◌≡◌, refl, ◌↔◌, ◌⊎◌, true, List, length, leb, Err, Result}
use Rattle.frame.specs.declared.refusal.Refusal.TheVariants.{OutOfRange, ShortMemory}
use Rattle.line.specs.Answer.{handed}
use Rattle.std.proofs.Common.{arith, sym, subst, ◌∙◌, inl, inr, leb-true, leb-false}
use Rattle.std.proofs.lemmas.Bool.{false≢true}
use Rattle.laws.specs.Memory.{Outcome, outcome, LeftAlone}
use Rattle.laws.specs.TestLaws.{pick_cases}
use Rattle.frame.specs.Frame.{ProperBeginning}
use Rattle.frame.proofs.RecognitionLaws.{open_completes, completes_open}
use Rattle.line_verdict.specs.VerdictLaws.{within_as}
use Rattle.line_verdict.specs.VerdictOnLaws.{within-most, within_open}
use Rattle.line_terms.specs.Line.{Symbol}
use Rattle.line.specs.Receiver.{kept_bytes, within_range, refused, delivered, called}
use Rattle.line.specs.declared.Receiver.{Receiver}
use Rattle.line.specs.declared.Received.{Received}

-- A receiver's kept bytes are a proper beginning of a frame, at most 211.
pub record InRange (r : Receiver) : Type 0 where
  pub most : r.count ≤ 211
  pub begins : ProperBeginning (kept_bytes r)

-- What a call refuses: with 16 exactly a receiver out of its range, then with 1 exactly memory of under 212 bytes; and a refusal changes
-- nothing.
pub record CallRefusals (r : Receiver) (lent : List ℕ) (returned : Received) (left : List ℕ) : Type 0 where
  pub sixteen : (returned.answer ≡ Err OutOfRange) ↔ (InRange r → ⊥)
  pub one : (returned.answer ≡ Err ShortMemory) ↔ (InRange r × (length lent < 212))
  pub others : (n : Refusal) → returned.answer ≡ Err n → (n ≡ OutOfRange) ⊎ (n ≡ ShortMemory)
  pub receiver : (n : Refusal) → returned.answer ≡ Err n → LeftAlone r returned.receiver
  pub memory : (n : Refusal) → returned.answer ≡ Err n → LeftAlone lent left

-- The receiver's test of its range tells exactly this.
pub in_range_iff : (r : Receiver) → (within_range r ≡ true) ↔ InRange r
unfolding kept_bytes
in_range_iff r = (
  λ e. record { most = within-most r.kept r.count e; begins = open_completes _ (within_open r.kept r.count e) },
  λ w. within_as r.kept r.count w.most (completes_open _ w.begins.more w.begins.some w.begins.whole),
)

-- A refusal is no other refusal, and no delivery.
same_number : {a b : Refusal} → ◌≡◌ {A = Result Delivered Refusal} (Err a) (Err b) → a ≡ b
same_number e = err_same e

short-apart : {A : Type 0} → ShortMemory ≡ OutOfRange → A
short-apart e = let z : ◌≡◌ {A = ℕ} 0 1 = cc in absurd (omega arith)

no_delivery : {A : Type 0} {a b : ℕ} {n : Refusal} → handed a b ≡ Err n → A
no_delivery e = let z : ◌≡◌ {A = ℕ} 0 1 = cc in absurd (omega arith)

-- Every call refuses so.
pub call-refusals : (s : Symbol) (r : Receiver) (lent : List ℕ) (returned : Received) (left : List ℕ) →
    outcome returned left ≡ called s r lent → CallRefusals r lent returned left
unfolding called refused delivered
call-refusals s r lent returned left e =
    subst Says (sym e)
    (pick_cases Says (within_range r)
    (λ good.
    let w : InRange r = (in_range_iff r).0 good in
    pick_cases Says (leb 212 (length lent))
    (λ l.
    record {
      sixteen = (λ a. no_delivery a, λ out. absurd (out w));
      one = (λ a. no_delivery a, λ p. absurd (omega (arith, p.1, leb-true 212 (length lent) l)));
      others = λ n a. no_delivery a;
      receiver = λ n a. no_delivery a;
      memory = λ n a. no_delivery a;
    })
    (λ l.
    record {
      sixteen = (λ a. short-apart (same_number a), λ out. absurd (out w));
      one = (λ a. (w, leb-false _ _ l), λ p. refl);
      others = λ n a. inr (sym (same_number a));
      receiver = λ n a. refl;
      memory = λ n a. refl;
    }))
    (λ bad.
    let out : InRange r → ⊥ = λ w. false≢true (sym bad ∙ (in_range_iff r).1 w) in
    record {
      sixteen = (λ a. out, λ w. refl);
      one = (λ a. short-apart (sym (same_number a)), λ p. absurd (out p.0));
      others = λ n a. inl (sym (same_number a));
      receiver = λ n a. refl;
      memory = λ n a. refl;
    }))
  where
    Says : Outcome Received → Type 0
    Says o = CallRefusals r lent o.answer o.memory
