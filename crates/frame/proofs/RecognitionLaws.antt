-- What recognition means: whole exactly if a frame stands in front, open exactly if the bytes are a proper beginning of some frame, and
-- more bytes change only what is open. Callers cite these laws and never the text of `recognised`.
use Rattle.std.specs.Prelude.{◌≡◌, ℕ, ◌+◌, ◌-◌, ◌<◌, ◌≤◌, Bool, true, false, List, [], ◌∷◌, ◌++◌, map, length, take, drop, replicate, ◌≢◌, nat_le, slice_index, slice_index_or, refl}
use Rattle.std.proofs.Common.{arith, mod-lt, sym, ap, subst, ◌∙◌, append_assoc, append-nil, length-append, length-drop, take_all, get_or-append-add, get_or-drop, leb-true, leb-false, eqb-true, eq-eqb, ne_eqb}
use Rattle.std.proofs.lemmas.List.{length-replicate, length-map}
use Rattle.std.proofs.Math.ListN.{get_or-append}
use Rattle.frame.specs.Frame.{Frame, ProperBeginning, frame_of, summed, checksum_of, length_of, masked, frame_for}
use Rattle.laws.specs.AllLaws.{all_drop, all_append, all_replicate}
use Rattle.laws.specs.Memory.{IsByte, Bytes}
use Rattle.frame.proofs.TakenApartLaws.{summed-length, length_part}
use Rattle.frame.proofs.FrameLaws.{frame-length, frame-for}
use Rattle.frame.specs.Recognition.{stage, recognised, recognised_body, recognised_end, exactly_one, is_all}
use Rattle.frame.proofs.StageLaws.{stage_cases, stage-wrong, stays, Headed, headed_longer, headed_closes, front_closes, closed-whole, same_length, summed-says, summed_headed, take_next}
use Rattle.frame.specs.declared.Recognised.{Recognised}
use Rattle.frame.specs.declared.Recognised.TheVariants.{Whole, Open, Neither}

-- A frame has 12 to 212 bytes.
frame-size : {f : List ℕ} (w : Frame f) → length f ≡ 12 + length w.field
frame-size {f} w = rw w.made (frame-length w.address w.control w.field w.six)

-- A frame has as many bytes as its data length says.
pub frame-spans : {f : List ℕ} → Frame f → length f ≡ 12 + length_of f
frame-spans {f} w =
    let whole : frame_of w.address w.control w.field ++ [] ≡ f = append-nil (frame_of w.address w.control w.field) ∙ sym w.made in
    let says : length_of f ≡ length w.field = rw whole at (length_part w.address w.control w.field [] w.six) in
    rw says (frame-size w)

pub frame-least : {f : List ℕ} → Frame f → 12 ≤ length f
frame-least {f} w = omega (arith, frame-size w)

pub frame-most : {f : List ℕ} → Frame f → length f ≤ 212
frame-most {f} w = omega (arith, frame-size w)

-- More bytes change only what is open.
pub whole-stays : (x more : List ℕ) (n : ℕ) → recognised x ≡ Whole n → recognised (x ++ more) ≡ Whole n
whole-stays x more n e = stays x more (λ o. let z : ◌≡◌ {A = ℕ} 0 1 = cc in omega arith) ∙ e

pub neither-stays : (x more : List ℕ) → recognised x ≡ Neither → recognised (x ++ more) ≡ Neither
neither-stays x more e = stays x more (λ o. let z : ◌≡◌ {A = ℕ} 0 1 = cc in omega arith) ∙ e

-- A frame in front is recognised, whatever follows.
frame-alone : {f : List ℕ} → Frame f → recognised f ≡ Whole (length f)
unfolding frame_of
frame-alone {f} w =
    let s : List ℕ = summed w.address w.control w.field in
    let says : length_of s ≡ length w.field = summed-says w.address w.control w.field w.six in
    let size : length s ≡ 10 + length_of s = rw says (summed-length w.address w.control w.field w.six) in
    rw w.made (closed-whole s (summed_headed w.address w.control w.field w.six w.most) size)

pub frame-whole : (f more : List ℕ) → Frame f → recognised (f ++ more) ≡ Whole (length f)
frame-whole f more w = whole-stays f more (length f) (frame-alone w)

-- Bytes that begin with a frame of length n.
record Begins (x : List ℕ) (n : ℕ) : Type 0 where
  within : n ≤ length x
  frame : Frame (take n x)

-- What each answer means.
abbrev Meaning : List ℕ → Recognised → Type 0
Meaning x (Whole n) = Begins x n
Meaning x Open = ProperBeginning x
Meaning x Neither = Unit

-- A beginning padded up to the last data byte is completed by the checksum and 16.
padded : (x pad : List ℕ) → Bytes pad → Headed (x ++ pad) → length (x ++ pad) ≡ 10 + length_of (x ++ pad) → ProperBeginning x
unfolding checksum_of
padded x pad b h e =
    record {
      more = pad ++ (checksum_of (x ++ pad) ∷ 0x16 ∷ []);
      some = simp length-append (omega arith);
      bytes = all_append IsByte pad _ b (mod-lt _ (omega arith), (omega arith, tt));
      whole = rw append_assoc at (headed_closes (x ++ pad) h e);
    }

-- A beginning that ends among the data bytes: padded by zeros.
field-completes : (x : List ℕ) → Headed x → length x ≤ 10 + length_of x → ProperBeginning x
field-completes x h l =
    let missing : ℕ = 10 + length_of x - length x in
    let pad : List ℕ = replicate missing 0 in
    let size : length (x ++ pad) ≡ 10 + length_of x = simp (length-append, length-replicate) (omega arith) in
    padded x pad (all_replicate IsByte missing 0 (omega arith)) (headed_longer x pad h.ten h) (rw (same_length x pad h.ten) size)

-- Bytes followed by the rest of others have the others' byte at a place if they have it there or end before.
rest_at : (x t : List ℕ) (i : ℕ) → (i < length x → slice_index x i ≡ slice_index t i) → slice_index (x ++ drop (length x) t) i ≡ slice_index t i
rest_at x t i same = go (nat_le (length x) i) refl
  where
    go : (b : Bool) → nat_le (length x) i ≡ b → slice_index (x ++ drop (length x) t) i ≡ slice_index t i
    go true e =
        let l : length x ≤ i = leb-true _ _ e in
        let k : length x + (i - length x) ≡ i = omega arith in
        rw k at (get_or-append-add x (drop (length x) t) (i - length x) 0 ∙ get_or-drop (length x) t (i - length x) 0)
    go false e = get_or-append x _ 0 i (leb-false _ _ e) ∙ same (leb-false _ _ e)

-- A beginning that ends before the data length: padded by the head of a frame with no data.
head-completes : (x : List ℕ) → length x ≤ 9 → (0 < length x → slice_index x 0 ≡ 0x68) → (7 < length x → slice_index x 7 ≡ 0x68) → ProperBeginning x
unfolding length_of
head-completes x l first eighth =
    let head : List ℕ = 0x68 ∷ 0 ∷ 0 ∷ 0 ∷ 0 ∷ 0 ∷ 0 ∷ 0x68 ∷ 0 ∷ 0 ∷ [] in
    let pad : List ℕ = drop (length x) head in
    let none : length_of (x ++ pad) ≡ 0 = rest_at x head 9 (λ h. absurd (omega arith)) in
    let ten : length (x ++ pad) ≡ 10 = simp (length-append, length-drop) (omega arith) in
    padded x pad (all_drop IsByte (length x) head (omega arith))
    (record { ten = omega arith; first = rest_at x head 0 first; eighth = rest_at x head 7 eighth; most = omega arith })
    (omega arith)

-- Headed bytes that go on to the right checksum, and then 16, are a frame.
module _ (x : List ℕ) (h : Headed x) (l : 10 + length_of x < length x)
    (c : slice_index_or x (10 + length_of x) 0 ≡ checksum_of (take (10 + length_of x) x)) where
  sum_closes : Frame (take (10 + length_of x + 1) x ++ (0x16 ∷ []))
  sum_closes = rw (take_next x (10 + length_of x) l, c, append_assoc) (front_closes x h (omega arith))

  end-completes : length x ≤ 10 + length_of x + 1 → ProperBeginning x
  end-completes e =
      record { more = 0x16 ∷ []; some = omega arith; bytes = (omega arith, tt); whole = rw (take_all _ x e) at sum_closes }

  whole-begins : 10 + length_of x + 1 < length x → slice_index x (10 + length_of x + 1) ≡ 0x16 → Begins x (10 + length_of x + 2)
  whole-begins k e =
      let n : 10 + length_of x + 2 ≡ 10 + length_of x + 1 + 1 = omega arith in
      record { within = omega arith; frame = rw (n, take_next x (10 + length_of x + 1) k, e) sum_closes }

-- What recognition says is so.
means : (x : List ℕ) → Meaning x (recognised x)
unfolding recognised recognised_body recognised_end
means x =
    at 0 _ _ (λ h. head-completes x (omega arith) (λ k. omega arith) (λ k. omega arith)) (λ h0 e0.
    at 7 _ _ (λ h. head-completes x (omega arith) (λ k. eqb-true _ _ e0) (λ k. omega arith)) (λ h7 e7.
    at 9 _ _ (λ h. head-completes x h (λ k. eqb-true _ _ e0) (λ k. eqb-true _ _ e7)) (λ h9 e9.
    let w : Headed x = record { ten = h9; first = eqb-true _ _ e0; eighth = eqb-true _ _ e7; most = leb-true _ _ e9 } in
    at (10 + length_of x) _ _ (field-completes x w) (λ h e.
    at (10 + length_of x + 1) _ _ (end-completes x w h (eqb-true _ _ e)) (λ l d.
    whole-begins x w h (eqb-true _ _ e) l (eqb-true _ _ d))))))
  where
    at : (i : ℕ) (t : Bool) (next : Recognised) → (length x ≤ i → ProperBeginning x) → (i < length x → t ≡ true → Meaning x next) →
        Meaning x (stage x i t next)
    at i t next short passed = stage_cases (Meaning x) x i t next short (λ h e. tt) passed

-- Bytes recognised as whole begin with a frame of that length.
whole-means : (x : List ℕ) (n : ℕ) → recognised x ≡ Whole n → Begins x n
whole-means x n e = subst (Meaning x) e (means x)

pub whole-within : (x : List ℕ) (n : ℕ) → recognised x ≡ Whole n → n ≤ length x
whole-within x n e = (whole-means x n e).within

pub whole-frame : (x : List ℕ) (n : ℕ) → recognised x ≡ Whole n → Frame (take n x)
whole-frame x n e = (whole-means x n e).frame

-- Open bytes are a proper beginning of some frame, and a proper beginning of any frame is open.
pub open_completes : (x : List ℕ) → recognised x ≡ Open → ProperBeginning x
open_completes x e = subst (Meaning x) e (means x)

pub completes_open : (x more : List ℕ) → 0 < length more → Frame (x ++ more) → recognised x ≡ Open
completes_open x more h w = go (recognised x) refl
  where
    go : (r : Recognised) → recognised x ≡ r → r ≡ Open
    go (Whole n) e =
        let l : n ≡ length (x ++ more) = cc (whole-stays x more n e, frame-alone w) in
        absurd (omega (arith, whole-within x n e, simp length-append at l))
    go Open e = refl
    go Neither e = cc (neither-stays x more e, frame-alone w)

-- A beginning has at most 211 bytes.
pub open_most : (x : List ℕ) → recognised x ≡ Open → length x ≤ 211
open_most x e =
    let c : ProperBeginning x = open_completes x e in
    omega (arith, c.some, simp length-append at (frame-most c.whole))

-- Bytes that do not start with 68 begin no frame.
pub other-start : (x : List ℕ) → 0 < length x → (slice_index x 0 ≢ 0x68) → recognised x ≡ Neither
unfolding recognised
other-start x h n = stage-wrong x 0 _ h (ne_eqb _ _ n)

-- No bytes are a beginning.
pub empty_open : recognised [] ≡ Open
unfolding recognised
empty_open = refl

-- Exactly one frame exactly if the bytes are a frame.
pub one-frame : (x : List ℕ) → exactly_one x ≡ true → Frame x
unfolding exactly_one is_all
one-frame x = go (recognised x) refl
  where
    go : (r : Recognised) → recognised x ≡ r → is_all r (length x) ≡ true → Frame x
    go (Whole n) e t =
        let l : n ≡ length x = eqb-true _ _ t in
        rw (take_all n x (omega arith)) at (whole-frame x n e)
    go Open e t = let z : ◌≡◌ {A = ℕ} 0 1 = cc in absurd (omega arith)
    go Neither e t = let z : ◌≡◌ {A = ℕ} 0 1 = cc in absurd (omega arith)

pub frame-one : (x : List ℕ) → Frame x → exactly_one x ≡ true
unfolding exactly_one is_all
frame-one x w = rw (frame-alone w) (eq-eqb (length x) _ refl)

-- A written frame is recognised, whatever follows.
pub written-whole : (address : List ℕ) (control : ℕ) (payload more : List ℕ) → length address ≡ 6 → length payload ≤ 200 →
    recognised (frame_for address control payload ++ more) ≡ Whole (12 + length payload)
unfolding frame_for
written-whole address control payload more h k =
    frame-whole (frame_for address control payload) more (frame-for address control payload h k)
    ∙ ap Whole (frame-length address control (map masked payload) h ∙ ap (λ (n : ℕ). 12 + n) (length-map payload masked))
