-- Laws of the stages of recognition, its tests one after another, and of bytes whose head is right.
use Rattle.std.specs.Prelude.{◌≡◌, ℕ, ◌+◌, ◌<◌, ◌≤◌, Bool, true, false, leb, List, [], ◌∷◌, ◌++◌, length, take, drop, ◌==◌, ◌≢◌, nat_le, slice_index, slice_index_or, refl}
use Rattle.std.proofs.Common.{arith, add-one, sym, ◌∙◌, length-append, length-take, length-drop, take-append-drop, drop-cons, take-suc, drop-drop, length-take-le, take_at, get_or-append-add, leb-true, leb-false, le-leb, eq-eqb, ne_eqb}
use Rattle.std.proofs.Math.Path.{ap}
use Rattle.std.proofs.Math.ListN.{get_or-append}
use Rattle.std.proofs.lemmas.List.{take-append-le}
use Rattle.std.proofs.Math.Seq.{get_or_at}
use Rattle.std.proofs.lemmas.Bool.{lt-leb}
use Rattle.laws.specs.Test.{pick}
use Rattle.frame.specs.Frame.{Frame, frame_of, summed, checksum_of, address_of, control_of, length_of}
use Rattle.frame.proofs.TakenApartLaws.{summed-length}
use Rattle.frame.specs.Recognition.{stage, recognised, recognised_body, recognised_end}
use Rattle.frame.specs.declared.Recognised.{Recognised}
use Rattle.frame.specs.declared.Recognised.TheVariants.{Whole, Open, Neither}

-- What holds of the three ways out of a stage holds of the stage.
pub stage_cases : (P : Recognised → Type 0) (x : List ℕ) (i : ℕ) (t : Bool) (next : Recognised) →
    (length x ≤ i → P Open) → (i < length x → t ≡ false → P Neither) → (i < length x → t ≡ true → P next) → P (stage x i t next)
stage_cases P x i t next short wrong passed = go (nat_le (length x) i) t refl refl
  where
    go : (b u : Bool) → nat_le (length x) i ≡ b → t ≡ u → P (pick b Open (pick u next Neither))
    go true u p q = short (leb-true _ _ p)
    go false true p q = passed (leb-false _ _ p) q
    go false false p q = wrong (leb-false _ _ p) q

-- A stage whose byte has not come is open.
pub stage_open : (x : List ℕ) (i : ℕ) (t : Bool) (next : Recognised) → length x ≤ i → stage x i t next ≡ Open
stage_open x i t next h = rw (le-leb (length x) i h)

-- A stage whose byte has come is what its test says.
pub stage-passed : (x : List ℕ) (i : ℕ) {t : Bool} (next : Recognised) → i < length x → t ≡ true → stage x i t next ≡ next
stage-passed x i next h e = rw (lt-leb (length x) i h, e)

pub stage-wrong : (x : List ℕ) (i : ℕ) {t : Bool} (next : Recognised) → i < length x → t ≡ false → stage x i t next ≡ Neither
stage-wrong x i next h e = rw (lt-leb (length x) i h, e)

-- A wrong last byte ends the place, whatever the checksum is.
pub last-wrong : (bytes : List ℕ) (n : ℕ) → n + 1 < length bytes → (slice_index bytes (n + 1) ≢ 0x16) → recognised_end bytes n ≡ Neither
unfolding recognised_end
last-wrong bytes n there wrong =
    simp (lt-leb (length bytes) n (omega arith), lt-leb _ _ there, ne_eqb _ _ wrong) (same (slice_index bytes n == checksum_of (take n bytes)))
  where
    same : (t : Bool) → pick t Neither Neither ≡ Neither
    same true = refl
    same false = refl

-- Bytes up to the data length whose head is right.
pub record Headed (x : List ℕ) : Type 0 where
  pub ten : 10 ≤ length x
  pub first : slice_index_or x 0 0 ≡ 0x68
  pub eighth : slice_index_or x 7 0 ≡ 0x68
  pub most : length_of x ≤ 200

-- What comes after ten bytes changes nothing in their head.
module _ (x more : List ℕ) (ten : 10 ≤ length x) where
  pub same_at : (i : ℕ) → i < 10 → slice_index (x ++ more) i ≡ slice_index x i
  same_at i h = get_or-append x more 0 i (omega arith)

  pub same_length : length_of (x ++ more) ≡ length_of x
  unfolding length_of
  same_length = same_at 9 (omega arith)

  pub headed_longer : Headed x → Headed (x ++ more)
  headed_longer h =
      record {
        ten = simp length-append (omega arith);
        first = same_at 0 (omega arith) ∙ h.first;
        eighth = same_at 7 (omega arith) ∙ h.eighth;
        most = rw same_length h.most;
      }

  pub headed_shorter : Headed (x ++ more) → Headed x
  headed_shorter h =
      record {
        ten = ten;
        first = sym (same_at 0 (omega arith)) ∙ h.first;
        eighth = sym (same_at 7 (omega arith)) ∙ h.eighth;
        most = rw same_length at h.most;
      }

-- The parts of headed bytes.
pub headed_parts : (x : List ℕ) → Headed x → x ≡ 0x68 ∷ (address_of x ++ (0x68 ∷ control_of x ∷ length_of x ∷ drop 10 x))
unfolding address_of control_of length_of
headed_parts x h =
    let t : drop 7 x ≡ 0x68 ∷ slice_index x 8 ∷ slice_index x 9 ∷ drop 10 x =
    cc (drop-cons x 7 0 (omega arith), drop-cons x 8 0 (omega arith), drop-cons x 9 0 (omega arith), h.eighth) in
    let a : drop 1 x ≡ take 6 (drop 1 x) ++ drop 7 x = sym (take-append-drop 6 (drop 1 x)) ∙ rw drop-drop in
    cc (drop-cons x 0 0 (omega arith), a, t, h.first)

-- Headed bytes up to the last data byte, then their checksum and 16, are a frame.
pub headed_closes : (x : List ℕ) → Headed x → length x ≡ 10 + length_of x → Frame (x ++ (checksum_of x ∷ 0x16 ∷ []))
unfolding summed frame_of address_of
headed_closes x h e =
    let l : length (drop 10 x) ≡ length_of x = simp length-drop (omega arith) in
    let parts : x ≡ summed (address_of x) (control_of x) (drop 10 x) = rw l (headed_parts x h) in
    record {
      address = address_of x;
      control = control_of x;
      field = drop 10 x;
      six = simp (length-take, length-drop) (omega arith);
      most = rw l h.most;
      made = ap (λ (s : List ℕ). s ++ (checksum_of s ∷ 0x16 ∷ [])) parts;
    }

-- The same of the front of headed bytes that go on.
pub front_closes : (x : List ℕ) → Headed x → 10 + length_of x ≤ length x →
    Frame (take (10 + length_of x) x ++ (checksum_of (take (10 + length_of x) x) ∷ 0x16 ∷ []))
front_closes x h l =
    let n : ℕ = 10 + length_of x in
    let e : length (take n x) ≡ n = length-take-le n x l in
    let s : take n x ++ drop n x ≡ x = take-append-drop n x in
    let ten : 10 ≤ length (take n x) = rw e (omega arith) in
    let w : Headed (take n x) = headed_shorter (take n x) (drop n x) ten (rw s h) in
    let k : length_of (take n x) ≡ length_of x = sym (same_length (take n x) (drop n x) ten) ∙ ap length_of s in
    headed_closes (take n x) w (rw (e, k))

-- More bytes change a stage only if it is open, if they change neither its test nor, unless that is open, what comes next.
pub stage-stays : (x more : List ℕ) (i : ℕ) (t t' : Bool) (next next' : Recognised) → (i < length x → t' ≡ t) →
    (i < length x → ¬ (next ≡ Open) → next' ≡ next) → ¬ (stage x i t next ≡ Open) → stage (x ++ more) i t' next' ≡ stage x i t next
stage-stays x more i t t' next next' same on =
    stage_cases (λ r. ¬ (r ≡ Open) → stage (x ++ more) i t' next' ≡ r) x i t next (λ h n. absurd (n refl))
    (λ h e n. stage-wrong (x ++ more) i next' (longer h) (same h ∙ e))
    (λ h e n. stage-passed (x ++ more) i next' (longer h) (same h ∙ e) ∙ on h n)
  where
    longer : i < length x → i < length (x ++ more)
    longer h = simp length-append (omega arith)

-- More bytes change only what is open: from the checksum on, and from the first byte on.
module _ (x more : List ℕ) where
  pub same_test : (b i : ℕ) → i < length x → (slice_index (x ++ more) i == b) ≡ (slice_index x i == b)
  same_test b i h = rw get_or-append

  pub same_sum : (n : ℕ) → n < length x →
      (slice_index (x ++ more) n == checksum_of (take n (x ++ more))) ≡ (slice_index x n == checksum_of (take n x))
  same_sum n h = let l : n ≤ length x = omega arith in rw (get_or-append, take-append-le)

  pub end_stays : (n : ℕ) → ¬ (recognised_end x n ≡ Open) → recognised_end (x ++ more) n ≡ recognised_end x n
  unfolding recognised_end
  end_stays n =
      stage-stays x more n _ _ _ _ (same_sum n) (λ h.
      stage-stays x more (n + 1) _ _ _ _ (same_test 0x16 (n + 1)) (λ l o. refl))

  pub body-stays : 10 ≤ length x → ¬ (recognised_end x (10 + length_of x) ≡ Open) →
      recognised_end (x ++ more) (10 + length_of (x ++ more)) ≡ recognised_end x (10 + length_of x)
  body-stays h = rw (same_length x more h) (end_stays (10 + length_of x))

  pub stays : ¬ (recognised x ≡ Open) → recognised (x ++ more) ≡ recognised x
  unfolding recognised recognised_body
  stays =
      stage-stays x more 0 _ _ _ _ (same_test 0x68 0) (λ h0.
      stage-stays x more 7 _ _ _ _ (same_test 0x68 7) (λ h7.
      stage-stays x more 9 _ _ _ _ (λ h. ap (λ (l : ℕ). leb l 200) (same_length x more h)) body-stays))

-- A frame's bytes up to the checksum: the data length that they say, and that they are headed.
module _ (address : List ℕ) (control : ℕ) (field : List ℕ) (six : length address ≡ 6) where
  pub summed-says : length_of (summed address control field) ≡ length field
  unfolding summed length_of
  summed-says = rw six at (get_or-append-add (0x68 ∷ address) (0x68 ∷ control ∷ length field ∷ field) 2 0)

  pub summed_headed : length field ≤ 200 → Headed (summed address control field)
  unfolding summed
  summed_headed h =
      record {
        ten = rw (summed-length address control field six) (omega arith);
        first = refl;
        eighth = get_or_at (0x68 ∷ address) 0x68 (control ∷ length field ∷ field) 0 7 (rw six);
        most = rw summed-says h;
      }

-- Headed bytes that pass the last two tests are whole.
pub headed_whole : (x : List ℕ) → Headed x → 10 + length_of x + 1 < length x →
    slice_index x (10 + length_of x) ≡ checksum_of (take (10 + length_of x) x) → slice_index x (10 + length_of x + 1) ≡ 0x16 →
    recognised x ≡ Whole (10 + length_of x + 2)
unfolding recognised recognised_body recognised_end
headed_whole x h l c e =
    stage-passed x 0 _ (omega arith) (eq-eqb _ _ h.first) ∙ stage-passed x 7 _ (omega arith) (eq-eqb _ _ h.eighth) ∙
    stage-passed x 9 _ (omega arith) (le-leb _ _ h.most) ∙ stage-passed x (10 + length_of x) _ (omega arith) (eq-eqb _ _ c) ∙
    stage-passed x (10 + length_of x + 1) _ l (eq-eqb _ _ e)

-- Headed bytes up to the last data byte, then their checksum and 16, are recognised.
pub closed-whole : (s : List ℕ) → Headed s → length s ≡ 10 + length_of s →
    recognised (s ++ (checksum_of s ∷ 0x16 ∷ [])) ≡ Whole (length (s ++ (checksum_of s ∷ 0x16 ∷ [])))
closed-whole s h e =
    let end : List ℕ = checksum_of s ∷ 0x16 ∷ [] in
    let n : length s ≡ 10 + length_of (s ++ end) = rw (same_length s end h.ten) e in
    let l : length (s ++ end) ≡ 10 + length_of (s ++ end) + 2 = rw length-append (omega arith) in
    let c : checksum_of s ≡ checksum_of (take (10 + length_of (s ++ end)) (s ++ end)) = ap checksum_of (sym (take_at s end _ n)) in
    headed_whole (s ++ end) (headed_longer s end h.ten h) (omega arith) (get_or_at s _ _ 0 _ n ∙ c)
    (rw n at (get_or-append-add s end 1 0)) ∙ ap Whole (sym l)

-- The bytes up to place n, and the one there.
pub take_next : (x : List ℕ) (n : ℕ) → n < length x → take (n + 1) x ≡ take n x ++ (slice_index x n ∷ [])
take_next x n h = rw add-one (take-suc x n 0 h)
