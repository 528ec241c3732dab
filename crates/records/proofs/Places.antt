-- The place at which a test first passes, counted from 0 or from elsewhere.
use Rattle.std.proofs.Common.{◌≡◌, ℕ, ◌+◌, Bool, true, false, cond, List, [], ◌∷◌, Some, Option, sym, refl, ap, ◌∙◌, arith}
use Rattle.std.specs.Prelude.{option_map, position}
use Rattle.std.specs.List.{position_from}
use Rattle.std.proofs.lemmas.Iterator.Adapters.{position_from-zero}

module _ {X : Type 0} (p : X → Bool) where
  step : (b : Bool) (n m : ℕ) (o r : Option ℕ) → o ≡ option_map (λ i. i + n) r → cond b (Some (m + n)) o ≡ option_map (λ i. i + n) (cond b (Some m) r)
  step true n m o r e = refl
  step false n m o r e = e

  from_more : (n m : ℕ) (xs : List X) → position_from p (m + n) xs ≡ option_map (λ i. i + n) (position_from p m xs)
  from_more n m [] = refl
  from_more n m (x ∷ xs) = let e : m + n + 1 ≡ m + 1 + n = omega arith in step (p x) n m _ _ (ap (λ k. position_from p k xs) e ∙ from_more n (m + 1) xs)

  -- counted from n, it is n more than counted from 0
  pub from_place : (n : ℕ) (xs : List X) → position_from p n xs ≡ option_map (λ i. i + n) (position p xs)
  from_place n xs = let z : 0 + n ≡ n = omega arith in ap (λ k. position_from p k xs) (sym z) ∙ from_more n 0 xs ∙ ap (option_map (λ i. i + n)) (sym (position_from-zero p xs))
