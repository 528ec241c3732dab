-- The bytes of a field by themselves: where the first wrong one stands, and which number the digits spell.
use Rattle.std.proofs.Common.{◌≡◌, ℕ, zero, suc, ◌+◌, ◌-◌, ◌*◌, ◌^◌, ◌<◌, ◌≤◌, Bool, true, false, cond, not, leb, length, get_or, take, drop, [], ◌∷◌, Some, Option, pow-suc, sym, refl, ap, ◌∙◌, arith}
use Rattle.std.specs.Prelude.{option_map, position}
use native.Mathlib.Nat.{pow-le-pow_right}
use Rattle.std.proofs.lemmas.Bool.{leb-true, and_parts}
use Rattle.std.proofs.lemmas.List.{at_drop_more, take_more, get_or-drop, length-drop}
use Rattle.std.proofs.lemmas.List.Sums.{fold-append}
use Rattle.records.specs.declared.layouts.Class.{Class}
use Rattle.records.specs.declared.layouts.Class.TheVariants.{Number}
use Rattle.records.specs.Layouts.{holds}
use Rattle.records.specs.Fields.{Bytes, byte_in, first_wrong_byte, number, judged_bytes, wrong_from, spelled}
use Rattle.records.proofs.Places.{from_place}

turned : {X : Type 0} (b : Bool) (x y : X) → cond (not b) x y ≡ cond b y x
turned true x y = refl
turned false x y = refl

-- n columns from col, cut out of a record
pub wrong_cut : (c : Class) (x : Bytes) (col n : ℕ) → 1 ≤ col → col + n ≤ length x + 1 → wrong_from c col (take n (drop (col - 1) x)) ≡ first_wrong_byte c x col n
unfolding first_wrong_byte
wrong_cut c x col zero low high = refl
wrong_cut c x col (suc n) low high =
    let e : col - 1 + 1 ≡ col + 1 - 1 = omega arith in
    at_drop_more (λ xs. wrong_from c col (take (suc n) xs)) x (col - 1) 0 (omega arith)
    ∙ turned (holds c (byte_in x col)) (Some col) (wrong_from c (col + 1) (take n (drop (col - 1 + 1) x)))
    ∙ ap (λ o. cond (holds c (byte_in x col)) o (Some col)) (ap (λ k. wrong_from c (col + 1) (take n (drop k x))) e ∙ wrong_cut c x (col + 1) n (omega arith) (omega arith))

pub number_cut : (x : Bytes) (col n : ℕ) → 1 ≤ col → col + n ≤ length x + 1 → spelled 0 (take n (drop (col - 1) x)) ≡ number x col n
unfolding number
number_cut x col zero low high = refl
number_cut x col (suc n) low high =
    let s : suc n ≡ n + 1 = omega arith in
    let e : col - 1 + n ≡ col + n - 1 = omega arith in
    let long : n < length (drop (col - 1) x) = rw (length-drop) (omega arith) in
    ap (λ k. spelled 0 (take k (drop (col - 1) x))) s
    ∙ ap (spelled 0) (take_more (drop (col - 1) x) n 0 long)
    ∙ fold-append (λ m b. m * 10 + (b - 48)) 0 (take n (drop (col - 1) x)) (get_or (drop (col - 1) x) n 0 ∷ [])
    ∙ ap (λ m. m * 10 + (get_or (drop (col - 1) x) n 0 - 48)) (number_cut x col n low (omega arith))
    ∙ ap (λ b. number x col n * 10 + (b - 48)) (get_or-drop (col - 1) x n 0 ∙ ap (λ k. get_or x k 0) e)

-- what is told of bytes by the place of their first wrong one, counted from 0
pub judged_from : {X : Type 0} (v : X) (c : Class) (col : ℕ) (bs : Bytes) (o : Option ℕ) → o ≡ position (λ b. not (holds c b)) bs → judged_bytes (option_map (λ i. i + col) o) v ≡ judged_bytes (wrong_from c col bs) v
judged_from v c col bs o is =
    ap (λ k. judged_bytes (option_map (λ i. i + col) k) v) is ∙ ap (λ k. judged_bytes k v) (sym (from_place (λ b. not (holds c b)) col bs))

-- a digit's byte
pub digit_byte : (b : ℕ) → holds Number b ≡ true → (48 ≤ b) × (b ≤ 57)
digit_byte b t = let p = and_parts (leb 48 b) (leb b 57) t in (leb-true 48 b p.0, leb-true b 57 p.1)

-- a number of at most m digits
pub below_power : (m n k : ℕ) → n < 10 ^ k → k ≤ m → n < 10 ^ m
below_power m n k h l =
    let some : 0 < 10 = omega arith in
    let high : 10 ^ k ≤ 10 ^ m = pow-le-pow_right some l in
    omega arith

pub next_power : (n k d : ℕ) → n < 10 ^ k → d ≤ 9 → n * 10 + d < 10 ^ (k + 1)
next_power n k d h l = let s : k + 1 ≡ suc k = omega arith in rw (s, pow-suc) (omega arith)
