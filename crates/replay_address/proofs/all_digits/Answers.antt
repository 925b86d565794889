-- The call says whether every byte is a digit.
use Rattle.std.proofs.Common.{◌≡◌, Bool, List, [], ◌∷◌, ◌&&◌, refl, ap, ◌∙◌, rules, tests}
use Rattle.std.specs.List.{list_all}
use Rattle.std.proofs.lemmas.Iterator.{YieldsList-from_slice}
use Rattle.std.proofs.lemmas.Iterator.Search.{all_from_yields_List}
use Rattle.laws.specs.All.{all_of}
use Rattle.replay_address.specs.Digits.{is_digit}
use Rattle.replay_address.proofs.all_digits.Goals as goal

-- The library's word for a test of every element says the same.
listed_all : {A : Type 0} (test : A → Bool) (xs : List A) → list_all test xs ≡ all_of test xs
unfolding all_of
listed_all test [] = refl
listed_all test (x ∷ xs) = ap (λ rest. test x && rest) (listed_all test xs)

pub returns : goal.returns
returns c =
    all_from_yields_List is_digit _ _ _ c.all.ensures.ran (YieldsList-from_slice c.args.text.now cc) (λ x b q k. search (rules, tests))
    ∙ listed_all is_digit c.args.text.now
