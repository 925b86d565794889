-- Laws of lists of frames with the places where they stand.
use Rattle.std.specs.Prelude.{ℕ, ◌<◌, ◌≡◌, refl, length}
use Rattle.std.proofs.Common.{arith, sym, ap, ◌∙◌}
use mathlib.Core.List.Memᴰ
use mathlib.Core.List.{List, [], ◌∷◌, ◌++◌, append_assoc, map-append, flatten, Memᴰ}
use Rattle.std.proofs.lemmas.List.{length-map}
use Rattle.line_terms.specs.Places.{Found, AllAbove, Rising, joined, frames_of}

-- The bytes of frames joined are their bytes joined.
pub joined-append : (a b : List Found) → joined (a ++ b) ≡ joined a ++ joined b
unfolding joined
joined-append [] b = refl
joined-append (f ∷ a) b = rw (joined-append a b, append_assoc)

-- Frames joined, and counted, without their places.
pub joined-frames : (fs : List Found) → joined fs ≡ flatten (frames_of fs)
unfolding joined frames_of flatten
joined-frames [] = refl
joined-frames (f ∷ fs) = ap (λ (l : List ℕ). f.frame ++ l) (joined-frames fs)

pub count-frames : (fs : List Found) → length fs ≡ length (frames_of fs)
unfolding frames_of
count-frames fs = sym (length-map fs (λ (f : Found). f.frame))

pub joined_same : (a b : List Found) → frames_of a ≡ frames_of b → joined a ≡ joined b
joined_same a b e = joined-frames a ∙ ap flatten e ∙ sym (joined-frames b)

pub count_same : (a b : List Found) → frames_of a ≡ frames_of b → length a ≡ length b
count_same a b e = count-frames a ∙ ap length e ∙ sym (count-frames b)

pub frames-append : (a b : List Found) → frames_of (a ++ b) ≡ frames_of a ++ frames_of b
unfolding frames_of
frames-append a b = map-append (λ (f : Found). f.frame) a b

-- A frame of a list stands above what all its places are above, and of rising frames none stands twice.
above_member : {p : ℕ} {f : Found} {l : List Found} → Memᴰ f l → AllAbove p l → p < f.place
above_member (Memᴰ.head e) h = rw e h.0
above_member (Memᴰ.tail m) h = above_member m h.1

pub once : {f : Found} {a : List Found} (b : List Found) → Memᴰ f a → Rising (a ++ b) → Memᴰ f b → ⊥
once b (Memᴰ.head {xs = a} e) h m = omega (arith, ap (λ (f : Found). f.place) e, above_member (Memᴰ.append_right a m) h.0)
once b (Memᴰ.tail k) h m = once b k h.1 m

-- Rising frames are determined by their members: two rising lists, each with the members of the other, are the same.
module _ {x y : Found} {a b : List Found} (h : Rising (x ∷ a)) (k : Rising (y ∷ b)) where
  first-same : Memᴰ x (y ∷ b) → Memᴰ y (x ∷ a) → x ≡ y
  first-same (Memᴰ.head e) n = e
  first-same (Memᴰ.tail m) (Memᴰ.head e) = sym e
  first-same (Memᴰ.tail m) (Memᴰ.tail n) = absurd (omega (arith, above_member m k.0, above_member n h.0))

  rest_member : {f : Found} → x ≡ y → Memᴰ f a → Memᴰ f (y ∷ b) → Memᴰ f b
  rest_member e m (Memᴰ.head q) =
      absurd (omega (arith, above_member m h.0, ap (λ (g : Found). g.place) e, ap (λ (g : Found). g.place) q))
  rest_member e m (Memᴰ.tail n) = n

pub rising-same : (a b : List Found) → Rising a → Rising b → ((f : Found) → Memᴰ f a → Memᴰ f b)
    → ((f : Found) → Memᴰ f b → Memᴰ f a) → a ≡ b
rising-same [] [] h k to from = refl
rising-same [] (y ∷ b) h k to from = absurd (Memᴰ.not-nil (from y (Memᴰ.head refl)))
rising-same (x ∷ a) [] h k to from = absurd (Memᴰ.not-nil (to x (Memᴰ.head refl)))
rising-same (x ∷ a) (y ∷ b) h k to from =
    let e : x ≡ y = first-same h k (to x (Memᴰ.head refl)) (from y (Memᴰ.head refl)) in
    let rest : a ≡ b =
    rising-same a b h.1 k.1 (λ f m. rest_member h k e m (to f (Memᴰ.tail m)))
    (λ f m. rest_member k h (sym e) m (from f (Memᴰ.tail m))) in
    cc (e, rest)
