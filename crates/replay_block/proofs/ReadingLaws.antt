-- Laws of the records of a block: they are read one by one up to a rest at whose front no good record stands, and in one way only.
use Rattle.trace.proofs.FoundLaws.{found_same}
use Rattle.std.specs.Prelude.{◌≡◌, ℕ, zero, suc, ◌-◌, List, [], ◌∷◌, drop, ◌≢◌, refl, Err, None, Ok, Option, Result, Some}
use Rattle.frame.specs.declared.refusal.Refusal.{Refusal}
use Rattle.trace.specs.Front.{found_record}
use Rattle.trace.specs.declared.RecordFound.{RecordFound}
use Rattle.std.proofs.Common.{arith, sym, ap, subst, ◌∙◌}
use Rattle.trace.specs.Trace.{front_of}
use Rattle.trace.specs.Records.{ReadsAs, none, next}
use Rattle.trace.proofs.TraceLaws.{good-size, good-within}
use Rattle.trace.specs.declared.TraceRecord.{TraceRecord}
use Rattle.replay_block.specs.Block.{records_by, records_from, records_in, rest_by, rest_from, rest_in, Stops}

-- The bytes behind the first, as many fewer.
drop-behind : {r : TraceRecord} {n : ℕ} (b : ℕ) (block : List ℕ) → front_of (b ∷ block) ≡ found_record r n → drop n (b ∷ block) ≡ drop (n - 1) block
drop-behind {n = n} b block good =
    let one : suc (n - 1) ≡ n = omega (arith, good-size (b ∷ block) good) in
    ap (λ (k : ℕ). drop k (b ∷ block)) (sym one)

reads-from : (k : ℕ) (block : List ℕ) → ReadsAs (drop k block) (records_from k block) (rest_from k block)
unfolding records_from rest_from
reads-from zero [] = none
reads-from (suc k) [] = none
reads-from (suc k) (b ∷ block) = reads-from k block
reads-from zero (b ∷ block) = by (front_of (b ∷ block)) refl (λ n. reads-from (n - 1) block)
  where
    by : (f : Result (Option RecordFound) Refusal) → front_of (b ∷ block) ≡ f → ((n : ℕ) → ReadsAs (drop (n - 1) block) (records_from (n - 1) block) (rest_from (n - 1) block)) →
        ReadsAs (b ∷ block) (records_by f (λ n. records_from (n - 1) block)) (rest_by f (b ∷ block) (λ n. rest_from (n - 1) block))
    by (Ok None) e more = none
    by (Err n) e more = none
    by (Ok (Some f)) e more =
        next e (subst (λ (l : List ℕ). ReadsAs l (records_from (f.length - 1) block) (rest_from (f.length - 1) block)) (sym (drop-behind b block e)) (more f.length))

-- The records of a block, and then its rest.
pub reads_all : (block : List ℕ) → ReadsAs block (records_in block) (rest_in block)
reads_all block = reads-from 0 block

-- Nothing left is no good record.
end : {r : TraceRecord} {n : ℕ} → front_of [] ≢ found_record r n
end good = let size = good-within [] good in let some = good-size [] good in omega (arith, size, some)

from-stops : (k : ℕ) (block : List ℕ) → Stops (rest_from k block)
unfolding rest_from
from-stops zero [] = λ r n good. end good
from-stops (suc k) [] = λ r n good. end good
from-stops (suc k) (b ∷ block) = from-stops k block
from-stops zero (b ∷ block) = by (front_of (b ∷ block)) refl (λ n. from-stops (n - 1) block)
  where
    by : (f : Result (Option RecordFound) Refusal) → front_of (b ∷ block) ≡ f → ((n : ℕ) → Stops (rest_from (n - 1) block)) → Stops (rest_by f (b ∷ block) (λ n. rest_from (n - 1) block))
    by (Ok None) e more r n good = let z : ◌≡◌ {A = ℕ} 0 1 = cc (e, good) in omega arith
    by (Err k) e more r n good = let z : ◌≡◌ {A = ℕ} 0 1 = cc (e, good) in omega arith
    by (Ok (Some f)) e more r n good = more f.length r n good

pub rest-stops : (block : List ℕ) → Stops (rest_in block)
rest-stops block = from-stops 0 block

-- Two readings that both go as far as they can are the same.
pub one-reading : {a b c : List ℕ} {rs ss : List TraceRecord} → ReadsAs a rs b → Stops b → ReadsAs a ss c → Stops c → (rs ≡ ss) × (b ≡ c)
one-reading none stops none stops₂ = (refl, refl)
one-reading none stops (next e more) stops₂ = absurd (stops _ _ e)
one-reading (next e more) stops none stops₂ = absurd (stops₂ _ _ e)
one-reading {a} {c = c} (next {r = r} {rs = rs} {n = n} e more) stops (next {r = r₂} {rs = ss} {n = n₂} e₂ more₂) stops₂ =
    let found = found_same (sym e ∙ e₂) in
    let same : r ≡ r₂ = found.0 in
    let size : n₂ ≡ n = sym found.1 in
    let rest = one-reading more stops (subst (λ (k : ℕ). ReadsAs (drop k a) ss c) size more₂) stops₂ in
    ((λ i. same i ∷ rest.0 i), rest.1)

-- Where a trace is read to its end, what is left behind the first of its records is read to its end too.
pub reads_on : {a b : List ℕ} {rs ss : List TraceRecord} → ReadsAs a rs b → ReadsAs a ss [] → (ts : List TraceRecord) × ReadsAs b ts []
reads_on none whole = (_, whole)
reads_on (next e more) none = absurd (end e)
reads_on {a} (next {n = n} e more) (next {rs = ss} {n = n₂} e₂ more₂) =
    let size : n₂ ≡ n = sym (found_same (sym e ∙ e₂)).1 in reads_on more (subst (λ (k : ℕ). ReadsAs (drop k a) ss []) size more₂)

-- What is read to its end is not refused.
pub read_unrefused : {rest : List ℕ} {rs : List TraceRecord} {n : Refusal} → ReadsAs rest rs [] → front_of rest ≢ Err n
unfolding front_of
read_unrefused none there = let z : ◌≡◌ {A = ℕ} 0 1 = cc in omega arith
read_unrefused (next good more) there = let z : ◌≡◌ {A = ℕ} 0 1 = cc (good, there) in omega arith
