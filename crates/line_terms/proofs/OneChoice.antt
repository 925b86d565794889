-- For every line exactly one choice of taken frames keeps the rule.
use Rattle.std.specs.Prelude.{ℕ, zero, suc, ◌<◌, ◌↔◌, List}
use Rattle.std.proofs.Common.{arith}
use mathlib.Core.Logic.Iff
use Rattle.line_terms.specs.Line.{Symbol, Stands, Choice, Covered, Keeps}

pub record OneChoice (line : List Symbol) : Type 1 where
  pub taken : Choice
  pub keeps : Keeps line taken
  pub only : (other : Choice) → Keeps line other → (place : ℕ) (frame : List ℕ) → taken place frame ↔ other place frame

-- By the rule a frame is to be taken, if these are the frames taken before it.
abbrev Due : List Symbol → Choice → Choice
Due line taken place frame = Stands line place frame × (Covered taken place → ⊥)

-- What is due depends only on what is taken at earlier places.
due_same : (line : List Symbol) (a b : Choice) (place : ℕ) (frame : List ℕ) →
    ((p : ℕ) (f : List ℕ) → p < place → a p f ↔ b p f) → Due line a place frame ↔ Due line b place frame
due_same line a b place frame same =
    (λ d. (d.0, λ c. d.1 (over b a (λ p f e. (same p f e).1) c)), λ d. (d.0, λ c. d.1 (over a b (λ p f e. (same p f e).0) c)))
  where
    over : (u v : Choice) → ((p : ℕ) (f : List ℕ) → p < place → u p f → v p f) → Covered u place → Covered v place
    over u v to c =
        record {
          start = c.start;
          frame = c.frame;
          chosen = to c.start c.frame c.earlier c.chosen;
          earlier = c.earlier;
          reaches = c.reaches;
        }

-- What is taken at the places below n; of later places it says nothing.
abbrev below : List Symbol → ℕ → Choice
below line zero place frame = ⊥
below line (suc n) place frame = Due line (below line n) place frame

-- Where each of a row of choices takes what is due after the one before it, they agree with `below` at the places below their number.
below-same : (line : List Symbol) (a : ℕ → Choice) → ((m p : ℕ) (f : List ℕ) → a (suc m) p f ↔ Due line (a m) p f) →
    (n m p : ℕ) (f : List ℕ) → p < n → p < m → below line n p f ↔ a m p f
below-same line a rule zero m p f h l = absurd (omega arith)
below-same line a rule (suc n) zero p f h l = absurd (omega arith)
below-same line a rule (suc n) (suc m) p f h l =
    Iff.trans
    (due_same line (below line n) (a m) p f (λ q g e. below-same line a rule n m q g (omega arith) (omega arith)))
    (Iff.symm (rule m p f))

-- At each place the choice takes what is due after the earlier ones.
pub one_choice : (line : List Symbol) → OneChoice line
one_choice line = record { taken = taken; keeps = keeps; only = only }
  where
    taken : Choice
    taken p f = below line (suc p) p f

    keeps : Keeps line taken
    keeps p f =
        due_same line (below line p) taken p f
        (λ q g e. below-same line (below line) (λ m r h. Iff.rfl) p (suc q) q g e (omega arith))

    only : (other : Choice) → Keeps line other → (p : ℕ) (f : List ℕ) → taken p f ↔ other p f
    only other rule p f = below-same line (λ m. other) (λ m. rule) (suc p) (suc p) p f (omega arith) (omega arith)
