-- The sum is gone on with byte by byte.
use Rattle.std.proofs.Common.{◌≡◌, ℕ, ◌+◌, ◌%◌, List, [], ◌∷◌, ◌++◌, ap, ◌∙◌, arith, rules}
use Rattle.std.proofs.lemmas.Fn.{fold_over, slice_gives, fronts}
use Rattle.frame.specs.Frame.{total}
use Rattle.frame.proofs.ChecksumLaws.{total-append}
use Rattle.frame.proofs.gone_on.Goals as goal

-- One byte more.
one_more : (sum next : ℕ) (passed : List ℕ) (b : ℕ) → sum ≡ (next + total passed) % 256 → (sum + b) % 256 ≡ (next + total (passed ++ (b ∷ []))) % 256
unfolding total
one_more sum next passed b e = let more = total-append passed (b ∷ []) in omega arith

pub returns : goal.returns
unfolding total
returns c =
    fold_over fronts (λ y. y.now) _ (λ passed sum. sum ≡ (c.args.sum + total passed) % 256) _
    (λ passed a x b f' j k. let more = one_more a c.args.sum passed x.now j in search rules)
    _ _ _ _ (slice_gives c.iter.result) (omega arith) c.fold.ensures.ran
    ∙ ap (λ (l : List ℕ). (c.args.sum + total l) % 256) c.iter.ensures.rest
