-- The taken figures of a host with rows listed above it.
use Rattle.std.specs.Prelude.{ℕ}

-- the taken figures above whatever is listed are those below
abbrev pub figures_above : {X : Type 0} → X → (ℕ → ℕ) → ℕ → ℕ
figures_above listed below = below
