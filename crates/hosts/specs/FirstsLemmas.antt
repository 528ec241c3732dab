-- The first element that passes a test: its place, and the list with it changed.
use Rattle.std.specs.Prelude.{◌≡◌, ℕ, suc, ◌+◌, ◌-◌, ◌<◌, ◌≤◌, Bool, true, false, cond, List, [], ◌∷◌, ◌++◌, length, take, drop, set, is_some, Some, None, sum_by, Option, slice_index_or, slice_set, refl}
use Rattle.std.proofs.Common.{sym, ap, subst, ◌∙◌, arith, inl, inr}
use Rattle.std.specs.Option.{option_map, option_map_or}
use Rattle.std.proofs.lemmas.List.{drop_more, drop_all, take_all, take_at, append-nil, take-append-drop, set-append_left, get_or-take, length-take, length-take-le}
use Rattle.std.proofs.lemmas.Bool.{cases_lt}
use Rattle.std.proofs.lemmas.List.Sums.{sum_by-cons}
use Rattle.std.specs.List.{find, position_from}
use Rattle.hosts.specs.Firsts.{at_first}

-- a loop over a list ys that is read as xs
module _ {X : Type 0} (p : X → Bool) (i : ℕ) (xs ys : List X) where
  pub here : xs ≡ ys → position_from p 0 ys ≡ position_from p i (drop i ys) → (d : X) → i < length xs → true ≡ p (slice_index_or xs i d) → Some i ≡ position_from p 0 ys
  here e inv d lt h = rw (inv, ← e, drop_more xs i d lt, ← h)

  pub on : xs ≡ ys → position_from p 0 ys ≡ position_from p i (drop i ys) → (d : X) → i < length xs → false ≡ p (slice_index_or xs i d) → position_from p 0 ys ≡ position_from p (i + 1) (drop (i + 1) ys)
  on e inv d lt h = rw (inv, ← e, drop_more xs i d lt, ← h)

  pub none : xs ≡ ys → position_from p 0 ys ≡ position_from p i (drop i ys) → length xs ≤ i → None ≡ position_from p 0 ys
  none e inv le = rw (inv, ← e, drop_all i xs le)

module _ {X : Type 0} (p : X → Bool) where
  found_true : (b : Bool) (y x : X) (o : Option X) → p y ≡ b → (o ≡ Some x → p x ≡ true) → cond b (Some y) o ≡ Some x → p x ≡ true
  found_true true y x o e k h = let z : y ≡ x = cc in cc
  found_true false y x o e k h = k h

  pub first_true : (xs : List X) (x : X) → find p xs ≡ Some x → p x ≡ true
  first_true [] x e = let z : ◌≡◌ {A = ℕ} 0 1 = cc in absurd (omega arith)
  first_true (y ∷ ys) x e = found_true (p y) y x (find p ys) refl (first_true ys x) e

module _ {X : Type 0} (p : X → Bool) (f : X → X) where
  abbrev pub Placed : X → ℕ → List X → Option X → List X → Option ℕ → Type 0
  Placed d n xs o ys None = (o ≡ None) × (ys ≡ xs)
  Placed d n xs o ys (Some i) = (n ≤ i) × (o ≡ Some (slice_index_or xs (i - n) d)) × (ys ≡ slice_set xs (i - n) (f (slice_index_or xs (i - n) d)))

  placed_more : (d x : X) (n : ℕ) (xs : List X) (o : Option X) (ys : List X) (b : Bool) (k : Option ℕ) → Placed d (n + 1) xs o ys k → Placed d n (x ∷ xs) (cond b (Some x) o) (cond b (f x ∷ xs) (x ∷ ys)) (cond b (Some n) k)
  placed_more d x n xs o ys true k h = let e : n - n ≡ 0 = omega arith in (omega arith, rw e, rw e)
  placed_more d x n xs o ys false None h = (h.0, ap (λ (l : List X). x ∷ l) h.1)
  placed_more d x n xs o ys false (Some i) h =
      let le = h.0 in
      let e : i - n ≡ suc (i - (n + 1)) = omega arith in
      (omega arith, rw e h.1, rw e (ap (λ (l : List X). x ∷ l) h.2))

  pub placed : (d : X) (n : ℕ) (xs : List X) → Placed d n xs (find p xs) (at_first p f xs) (position_from p n xs)
  placed d n [] = (refl, refl)
  placed d n (x ∷ xs) = placed_more d x n xs (find p xs) (at_first p f xs) (p x) (position_from p (n + 1) xs) (placed d (n + 1) xs)

  -- the place that a loop found
  pub at_some : (d : X) (xs : List X) (i : ℕ) → Some i ≡ position_from p 0 xs → (find p xs ≡ Some (slice_index_or xs i d)) × (at_first p f xs ≡ slice_set xs i (f (slice_index_or xs i d)))
  at_some d xs i e = let h : Placed d 0 xs (find p xs) (at_first p f xs) (Some i) = subst (λ (k : Option ℕ). Placed d 0 xs (find p xs) (at_first p f xs) k) (sym e) (placed d 0 xs) in let z : i - 0 ≡ i = omega arith in (rw z at h.1, rw z at h.2)

  pub at_none : (xs : List X) → None ≡ position_from p 0 xs → (d : X) → (find p xs ≡ None) × (at_first p f xs ≡ xs)
  at_none xs e d = let h : Placed d 0 xs (find p xs) (at_first p f xs) None = subst (λ (k : Option ℕ). Placed d 0 xs (find p xs) (at_first p f xs) k) (sym e) (placed d 0 xs) in h

  -- the element that was read there
  pub at_read : (xs : List X) (i : ℕ) (x : X) → Some i ≡ position_from p 0 xs → x ≡ slice_index_or xs i x → (find p xs ≡ Some x) × (at_first p f xs ≡ slice_set xs i (f x))
  at_read xs i x e r = let h = at_some x xs i e in (h.0 ∙ ap Some (sym r), h.1 ∙ ap (λ (y : X). set xs i (f y)) (sym r))

  -- the change keeps the test: it is the first element still
  same_more : ((x : X) → p (f x) ≡ p x) → (x : X) (xs ys : List X) (o : Option X) (b : Bool) → p x ≡ b → find p ys ≡ option_map f o → find p (cond b (f x ∷ xs) (x ∷ ys)) ≡ option_map f (cond b (Some x) o)
  same_more keeps x xs ys o true e h = rw (keeps x, e)
  same_more keeps x xs ys o false e h = rw (e, h)

  pub first_same : ((x : X) → p (f x) ≡ p x) → (xs : List X) → find p (at_first p f xs) ≡ option_map f (find p xs)
  first_same keeps [] = refl
  first_same keeps (x ∷ xs) = same_more keeps x xs (at_first p f xs) (find p xs) (p x) refl (first_same keeps xs)

  -- another test that the changed element fails before and after
  other_more : (q : X → Bool) → ((x : X) → p x ≡ true → (q x ≡ false) × (q (f x) ≡ false)) → (x : X) (xs ys : List X) (b : Bool) → p x ≡ b → find q ys ≡ find q xs → find q (cond b (f x ∷ xs) (x ∷ ys)) ≡ find q (x ∷ xs)
  other_more q apart x xs ys true e h = let u = (apart x e).0 in let v = (apart x e).1 in rw (u, v)
  other_more q apart x xs ys false e h = rw h

  pub first_other : (q : X → Bool) → ((x : X) → p x ≡ true → (q x ≡ false) × (q (f x) ≡ false)) → (xs : List X) → find q (at_first p f xs) ≡ find q xs
  first_other q apart [] = refl
  first_other q apart (x ∷ xs) = other_more q apart x xs (at_first p f xs) (p x) refl (first_other q apart xs)

  sum_more : (g : X → ℕ) (x : X) (xs ys : List X) (o : Option X) (b : Bool) → sum_by g ys + option_map_or g o 0 ≡ sum_by g xs + option_map_or (λ y. g (f y)) o 0 → sum_by g (cond b (f x ∷ xs) (x ∷ ys)) + option_map_or g (cond b (Some x) o) 0 ≡ sum_by g (x ∷ xs) + option_map_or (λ y. g (f y)) (cond b (Some x) o) 0
  sum_more g x xs ys o true h = omega (arith, sum_by-cons g (f x) xs, sum_by-cons g x xs)
  sum_more g x xs ys o false h = omega (arith, sum_by-cons g x ys, sum_by-cons g x xs)

  -- a sum over the list falls by the old part of the changed element and rises by its new part
  pub sum_first : (g : X → ℕ) (xs : List X) → sum_by g (at_first p f xs) + option_map_or g (find p xs) 0 ≡ sum_by g xs + option_map_or (λ x. g (f x)) (find p xs) 0
  sum_first g [] = refl
  sum_first g (x ∷ xs) = sum_more g x xs (at_first p f xs) (find p xs) (p x) (sum_first g xs)

  length_more : (x : X) (xs ys : List X) (b : Bool) → length ys ≡ length xs → length (cond b (f x ∷ xs) (x ∷ ys)) ≡ length (x ∷ xs)
  length_more x xs ys true h = refl
  length_more x xs ys false h = ap suc h

  pub length_at_first : (xs : List X) → length (at_first p f xs) ≡ length xs
  length_at_first [] = refl
  length_at_first (x ∷ xs) = length_more x xs (at_first p f xs) (p x) (length_at_first xs)

-- elements looked at one by one, up to the first that passes
module _ {X : Type 0} (p : X → Bool) (i : ℕ) (xs : List X) (inv : find p xs ≡ find p (drop i xs)) where
  pub stop : (d : X) → i < length xs → true ≡ p (slice_index_or xs i d) → true ≡ is_some (find p xs)
  stop d lt h = rw (inv, drop_more xs i d lt, ← h)

  pub next : (d : X) → i < length xs → false ≡ p (slice_index_or xs i d) → find p xs ≡ find p (drop (i + 1) xs)
  next d lt h = rw (inv, drop_more xs i d lt, ← h)

  pub end : length xs ≤ i → false ≡ is_some (find p xs)
  end le = rw (inv, drop_all i xs le)

-- the first n elements of a list, others after them
module _ {X : Type 0} (n : ℕ) (xs : List X) where
  -- a change that keeps the length of the first n
  pub take_front : (zs : List X) → length zs ≡ length (take n xs) → take n (zs ++ drop n xs) ≡ zs
  take_front zs e = elim (cases_lt (length xs) n) [
    | inl l ↦ let k : length xs ≤ n = omega arith in let a = ap length (take_all n xs k) in rw (drop_all n xs k, append-nil zs) (take_all n zs (omega arith))
    | inr g ↦ take_at zs (drop n xs) n (e ∙ length-take-le n xs g)
  ]

  pub set_front : (i : ℕ) (y : X) → i < length (take n xs) → slice_set xs i y ≡ slice_set (take n xs) i y ++ drop n xs
  set_front i y l = ap (λ (z : List X). set z i y) (sym (take-append-drop n xs)) ∙ set-append_left (take n xs) (drop n xs) i y l

  pub get_or_front : (i : ℕ) (d : X) → i < length (take n xs) → slice_index_or xs i d ≡ slice_index_or (take n xs) i d
  get_or_front i d l = sym (get_or-take n xs i d (omega (arith, length-take n xs)))

-- an element passes somewhere exactly if there is a first that passes
module _ {X : Type 0} (p : X → Bool) where
  found_more : (n : ℕ) (x : X) (k : Option ℕ) (o : Option X) (b : Bool) → is_some k ≡ is_some o → is_some (cond b (Some n) k) ≡ is_some (cond b (Some x) o)
  found_more n x k o true h = refl
  found_more n x k o false h = h

  pub place_found : (n : ℕ) (xs : List X) → is_some (position_from p n xs) ≡ is_some (find p xs)
  place_found n [] = refl
  place_found n (x ∷ xs) = found_more n x (position_from p (n + 1) xs) (find p xs) (p x) (place_found (n + 1) xs)
