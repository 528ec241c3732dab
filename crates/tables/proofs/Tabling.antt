-- What the place that a search found tells of a table: whether a row is listed, and the rows without it.
use Rattle.std.proofs.Common.{◌≡◌, ℕ, suc, ◌+◌, Bool, true, false, not, cond, List, [], ◌∷◌, is_some, Some, None, Ok, Err, Option, refl, sym, ap, ◌∙◌, arith}
use Rattle.std.proofs.lemmas.Iterator.Adapters.{position_from-zero}
use Rattle.std.specs.List.{position_from, position_or_len, remove}
use Rattle.denials.specs.declared.Denial.TheVariants.{NotListed}
use Rattle.hosts.specs.FirstsLemmas.{place_found}
use Rattle.tables.specs.Tables.{is_listed, without_first, strike_answer, struck}

module _ {X : Type 0} (p : X → Bool) where
  -- the list without its first element that passes, by that element's place
  gone : (xs : List X) → remove xs (position_or_len p xs) ≡ without_first p xs
  gone [] = refl
  gone (x ∷ xs) = by (p x) (gone xs)
    where
      k : ℕ
      k = position_or_len p xs

      by : (b : Bool) → remove xs k ≡ without_first p xs → remove (x ∷ xs) (cond (not b) (1 + k) 0) ≡ cond b xs (x ∷ without_first p xs)
      by true h = refl
      by false h = let z : 1 + k ≡ suc k = omega arith in rw z (ap (λ (l : List X). x ∷ l) h)

  -- taking off the row at the place that was found
  removed_first : (xs : List X) (i : ℕ) → Some i ≡ position_from p 0 xs → remove xs i ≡ without_first p xs
  removed_first xs i e =
      let at = e ∙ sym (position_from-zero p xs) in
      let is : i ≡ position_or_len p xs = grind (arith, at) in
      ap (remove xs) is ∙ gone xs

module _ {X : Type 0} (same : X → X → Bool) (wide : X → Bool) (rs : List X) (q : X) where
  pub listed_there : (o : Option ℕ) → o ≡ position_from (same q) 0 rs → is_some o ≡ is_listed same rs q
  listed_there o e = ap is_some e ∙ place_found (same q) 0 rs

  pub strike_absent : true ≡ wide q → None ≡ position_from (same q) 0 rs → (Err NotListed ≡ strike_answer same wide rs q) × (rs ≡ struck same wide rs q)
  strike_absent w e = let f = listed_there None e in (rw (← w, ← f), rw (← w, ← f))

  pub strike_there : true ≡ wide q → (i : ℕ) → Some i ≡ position_from (same q) 0 rs → (Ok tt ≡ strike_answer same wide rs q) × (remove rs i ≡ struck same wide rs q)
  strike_there w i e = let f = listed_there (Some i) e in let g = removed_first (same q) rs i e in (rw (← w, ← f), rw (← w, ← f) g)
