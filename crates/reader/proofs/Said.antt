-- What the papers say of the answers of the reader's end, when each is a refusal, and that the memory is then as it was.
use Rattle.std.specs.Prelude.{ℕ, ◌≤◌, ◌<◌, ◌≡◌, refl, List, [], ◌∷◌, ◌↔◌, ◌⊎◌, length, leb, Err, Ok, Result}
use Rattle.frame.specs.Refusals.{number_of}
use Rattle.frame.specs.declared.refusal.Refusal.{Refusal}
use Rattle.reader_judgement.specs.declared.Reply.{Reply}
use Rattle.reader_judgement.specs.declared.Reply.TheVariants.{Error, Value}
use Rattle.std.proofs.Common.{sym, ◌∙◌, inl, inr, arith, leb-true, leb-false}
use Rattle.std.proofs.lemmas.Bool.{false≢true}
use Rattle.laws.specs.Memory.{Outcome}
use Rattle.laws.specs.Said.{Said, values, refusal, IsRefusal, Refuses, refuses, answers}
use Rattle.laws.specs.TestLaws.{pick_cases}
use Rattle.laws.specs.Words.{FirstFails}
use Rattle.reader_judgement.specs.Said.{judgement_said}
use Rattle.reader.specs.Allowed.{RequestSized, is_allowed}
use Rattle.reader.proofs.AllowedWords.{AllowedInWords, allowed-words}
use Rattle.reader.specs.Building.{built}
use Rattle.reader.specs.Judging.{judged}
use Rattle.reader.proofs.JudgeWords.{judge_words, Judges}
use Rattle.reader.proofs.JudgeWordsLaws.{judge-words}
use Rattle.reader.specs.declared.Request.{Request}

-- How many bytes the request has, or a refusal.
abbrev pub built_said : Result ℕ Refusal → Said
built_said (Ok n) = values (n ∷ [])
built_said (Err n) = refusal (number_of n)

-- Memory under 66 bytes, or a request that is not allowed.
abbrev pub CannotBuild : Request → List ℕ → Type 0
CannotBuild request m = (length m < 66) ⊎ (AllowedInWords request.action request → ⊥)

pub build-refuses : (request : Request) (m : List ℕ) → RequestSized request
    → let o = built request m in Refuses (built_said o.answer) (CannotBuild request m) m o.memory
unfolding built
build-refuses request m sized =
    pick_cases P (leb 66 (length m))
    (λ room. pick_cases P (is_allowed request) (λ allowed. answers (λ r. r) (can (leb-true 66 (length m) room) ((allowed-words request sized).0 allowed)))
    (λ not. refuses (inr (λ words. false≢true (sym not ∙ (allowed-words request sized).1 words))) tt))
    (λ short. refuses (inl (leb-false 66 (length m) short)) tt)
  where
    P : Outcome (Result ℕ Refusal) → Type 0
    P o = Refuses (built_said o.answer) (CannotBuild request m) m o.memory

    can : 66 ≤ length m → AllowedInWords request.action request → CannotBuild request m → ⊥
    can room words (inl short) = omega arith
    can room words (inr not) = not words

-- The judge refuses exactly where one of its checks, in words, is the first that fails.
pub judge-refuses : (request : Request) (bytes m : List ℕ) → RequestSized request
    → let o = judged request bytes m in
    Refuses (judgement_said o.answer) ((n : Refusal) × FirstFails (judge_words request bytes m) n) m o.memory
judge-refuses request bytes m sized = go (judged request bytes m).answer refl
  where
    words : Judges request bytes m
    words = judge-words request bytes m sized

    kept : (judgement : Result Reply Refusal) → (judged request bytes m).answer ≡ judgement → IsRefusal (judgement_said judgement) → (judged request bytes m).memory ≡ m
    kept (Ok (Value n)) e r = absurd r
    kept (Ok (Error byte)) e r = absurd r
    kept (Err n) e r = words.else_as_before (λ k f. let z : ◌≡◌ {A = ℕ} 0 1 = cc in omega arith)

    go : (judgement : Result Reply Refusal) → (judged request bytes m).answer ≡ judgement
        → let o = judged request bytes m in Refuses (judgement_said o.answer) ((n : Refusal) × FirstFails (judge_words request bytes m) n) m o.memory
    go judgement e =
        record {
          exactly = rw e (said judgement e);
          as_before = λ r. kept (judged request bytes m).answer refl r;
        }
      where
        said : (judgement : Result Reply Refusal) → (judged request bytes m).answer ≡ judgement
            → IsRefusal (judgement_said judgement) ↔ ((n : Refusal) × FirstFails (judge_words request bytes m) n)
        said (Ok (Value n)) e =
            (λ r. absurd r, λ f. absurd (let h = (words.refused f.0).1 f.1 in let z : ◌≡◌ {A = ℕ} 0 1 = cc in omega arith))
        said (Ok (Error byte)) e =
            (λ r. absurd r, λ f. absurd (let h = (words.refused f.0).1 f.1 in let z : ◌≡◌ {A = ℕ} 0 1 = cc in omega arith))
        said (Err n) e = (λ r. (n, (words.refused n).0 e), λ f. tt)
