-- Laws of what holds of every element of a list, or of every number below another.
use Rattle.std.specs.Prelude.{ℕ, zero, suc, ◌<◌, ◌≡◌, refl, Bool, true, ◌↔◌, take, drop, get_or, set, replicate}
use mathlib.Core.List.{List, [], ◌∷◌, ◌++◌, map}
use Rattle.std.proofs.Math.Bool.{and-eq-true_iff}
use mathlib.Core.Logic.Iff
use Rattle.std.proofs.Common.{arith, below_none, below_more}
use Rattle.laws.specs.All.{all_of, AllOf, AllBelow}

module _ {A : Type 0} (P : A → Type 0) where
  -- It holds of the first elements, of those behind them, and of elements joined.
  pub all_take : (n : ℕ) (xs : List A) → AllOf P xs → AllOf P (take n xs)
  all_take zero xs h = tt
  all_take (suc n) [] h = tt
  all_take (suc n) (x ∷ xs) h = (h.0, all_take n xs h.1)

  pub all_drop : (n : ℕ) (xs : List A) → AllOf P xs → AllOf P (drop n xs)
  all_drop zero xs h = h
  all_drop (suc n) [] h = tt
  all_drop (suc n) (x ∷ xs) h = all_drop n xs h.1

  pub all_append : (xs ys : List A) → AllOf P xs → AllOf P ys → AllOf P (xs ++ ys)
  all_append [] ys h k = k
  all_append (x ∷ xs) ys h k = (h.0, all_append xs ys h.1 k)

  -- It holds of each element, and of those before it.
  pub all_at : (before : List A) (x : A) (behind : List A) → AllOf P (before ++ (x ∷ behind)) → P x
  all_at [] x behind h = h.0
  all_at (y ∷ before) x behind h = all_at before x behind h.1

  pub all-before : (before behind : List A) → AllOf P (before ++ behind) → AllOf P before
  all-before [] behind h = tt
  all-before (y ∷ before) behind h = (h.0, all-before before behind h.1)

  -- Where it makes another property hold of what an element becomes, that holds of all that they become.
  pub all_mapped : {B : Type 0} (f : A → B) (Q : B → Type 0) → ((x : A) → P x → Q (f x)) → (xs : List A) → AllOf P xs → AllOf Q (map f xs)
  all_mapped f Q follows [] h = tt
  all_mapped f Q follows (x ∷ xs) h = (follows x h.0, all_mapped f Q follows xs h.1)

  pub all-follow : (Q : A → Type 0) → ((x : A) → P x → Q x) → (xs : List A) → AllOf P xs → AllOf Q xs
  all-follow Q follows [] h = tt
  all-follow Q follows (x ∷ xs) h = (follows x h.0, all-follow Q follows xs h.1)

  -- It holds of as many of one element, and where one is set of which it holds.
  pub all_replicate : (n : ℕ) (x : A) → P x → AllOf P (replicate n x)
  all_replicate zero x h = tt
  all_replicate (suc n) x h = (h, all_replicate n x h)

  pub all_set : (xs : List A) (i : ℕ) (x : A) → AllOf P xs → P x → AllOf P (set xs i x)
  all_set [] i x h p = tt
  all_set (y ∷ xs) zero x h p = (p, h.1)
  all_set (y ∷ xs) (suc i) x h p = (h.0, all_set xs i x h.1 p)

  -- It holds of the element at any place, where it holds of the one for places beyond.
  pub all_get : (xs : List A) (i : ℕ) (d : A) → AllOf P xs → P d → P (get_or xs i d)
  all_get [] i d h p = p
  all_get (x ∷ xs) zero d h p = h.0
  all_get (x ∷ xs) (suc i) d h p = all_get xs i d h.1 p

  -- A test that holds exactly where the property does, of every element.
  pub all-iff : (test : A → Bool) → ((x : A) → (test x ≡ true) ↔ P x) → (xs : List A) → (all_of test xs ≡ true) ↔ AllOf P xs
  unfolding all_of
  all-iff test each [] = (λ h. tt, λ u. refl)
  all-iff test each (x ∷ xs) = simp (and-eq-true_iff, each, all-iff test each xs) Iff.rfl

-- What holds of every number below another holds of each.
pub all-below : (P : ℕ → Type 0) (n : ℕ) → AllBelow P n → (k : ℕ) → k < n → P k
all-below P zero h k l = below_none P k l
all-below P (suc n) h k l = below_more P n (all-below P n h.1) h.0 k (omega arith)
