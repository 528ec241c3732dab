-- A list with the first element that passes a test changed.
use Rattle.std.specs.Prelude.{Bool, cond, List, [], ◌∷◌}

abbrev pub at_first : {X : Type 0} → (X → Bool) → (X → X) → List X → List X
at_first p f [] = []
at_first p f (x ∷ xs) = cond (p x) (f x ∷ xs) (x ∷ at_first p f xs)
