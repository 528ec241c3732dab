-- Listing and striking in a register of at most 256 rows, for any sort of row that is known by some of its parts.
use Rattle.std.specs.Prelude.{ℕ, Bool, cond, List, [], ◌∷◌, ◌++◌, length, find, is_some, is_ok, Ok, Err, Result, nat_le}
use Rattle.denials.specs.declared.Denial.{Denial}
use Rattle.denials.specs.declared.Denial.TheVariants.{OutsideWidth, RegisterFull, AlreadyListed, NotListed}

-- the most rows that a register holds
abbrev pub row_limit : ℕ
row_limit = 256

-- the list without its first element that passes
abbrev pub without_first : {X : Type 0} → (X → Bool) → List X → List X
without_first p [] = []
without_first p (x ∷ xs) = cond (p x) xs (x ∷ without_first p xs)

-- a row that is known by the same parts is there
abbrev pub is_listed : {X : Type 0} → (X → X → Bool) → List X → X → Bool
is_listed same rs q = is_some (find (same q) rs)

module _ {X : Type 0} (same : X → X → Bool) (wide : X → Bool) where
  abbrev pub list_answer : List X → X → Result (Unit {0}) Denial
  list_answer rs q = cond (wide q) (cond (is_listed same rs q) (Err AlreadyListed) (cond (nat_le row_limit (length rs)) (Err RegisterFull) (Ok tt))) (Err OutsideWidth)

  -- the rows after listing: one more, if it was granted
  abbrev pub listed : List X → X → List X
  listed rs q = cond (is_ok (list_answer rs q)) (rs ++ q ∷ []) rs

  abbrev pub strike_answer : List X → X → Result (Unit {0}) Denial
  strike_answer rs q = cond (wide q) (cond (is_listed same rs q) (Ok tt) (Err NotListed)) (Err OutsideWidth)

  -- the rows after striking: without that row, if it was granted
  abbrev pub struck : List X → X → List X
  struck rs q = cond (is_ok (strike_answer rs q)) (without_first (same q) rs) rs
