-- Registers one above the other: the uppermost that objects, the walk that lowers ceilings, and what holds of any pile.
use Rattle.std.proofs.Common.{◌≡◌, ℕ, zero, suc, ◌+◌, ◌<◌, ◌≤◌, Bool, true, false, cond, List, [], ◌∷◌, ◌++◌, map, length, get_or, take, drop, set, Some, None, Option, unwrap_or, sym, refl, ap, ◌∙◌, subst, arith, MatchOption}
use Rattle.std.proofs.lemmas.List.{drop_more, drop_all, take_all, append-nil, append_assoc, map-append, take_more_set, drop-set-lt}
use Rattle.std.specs.Option.{option_map_or}
use Rattle.claims.specs.declared.terms.Terms.{Terms}
use Rattle.claims.specs.declared.codes.ResultCode.{ResultCode}
use Rattle.claims.specs.declared.codes.ResultCode.TheVariants.{Settled}
use Rattle.claims.specs.Codes.{settles}
use Rattle.registers.specs.declared.register.Register.{Register}
use Rattle.registers.specs.Listings.{Listing, listing, objects, fall}
use Rattle.registers.specs.Piles.{listings, objection, after, Silent, UppermostObjects, OrElseTheHost, StackedAsNested, Passed, Stopped}
use Rattle.registers.specs.Objections.{never_settles}
use Rattle.registers.specs.Layered.{stays}

-- The uppermost register that objects to a claim.
module _ (c : Terms) where
  abbrev here : List Register → ℕ → Register → Option ResultCode
  here rs k d = objects (listing (get_or rs k d)) c

  -- none of the registers objects
  pub nobody : (rs : List Register) → ((k : ℕ) (d : Register) → k < length rs → None ≡ here rs k d) → None ≡ objection (listings rs) c
  nobody [] none = refl
  nobody (x ∷ rs) none = rw (← none 0 x (omega arith)) (nobody rs (λ k d l. none (suc k) d (omega arith)))

  -- the register at place i objects, and none above it
  pub found : (rs : List Register) (i : ℕ) (y : ResultCode) → i < length rs → ((d : Register) → Some y ≡ here rs i d) → ((k : ℕ) (d : Register) → k < i → None ≡ here rs k d) → Some y ≡ objection (listings rs) c
  found [] i y l is none = absurd (omega arith)
  found (x ∷ rs) zero y l is none = rw (← is x) refl
  found (x ∷ rs) (suc i) y l is none = rw (← none 0 x (omega arith)) (found rs i y (omega arith) is (λ k d m. none (suc k) d (omega arith)))

-- The walk that changes each element x, known by f x, so that it is known by h (f x) after.
module _ {X Y : Type 0} (f : X → Y) (h : Y → Y) where
  abbrev pub partly : List X → ℕ → List Y
  partly l n = map f (take n l) ++ map h (map f (drop n l))

  module _ (xs : List X) (i : ℕ) (w : List Y) where
    pub one_changed : (x d : X) → i < length xs → f x ≡ h (f (get_or xs i d)) → partly xs i ≡ w → partly (set xs i x) (i + 1) ≡ w
    one_changed x d lt e inv =
        let tail = map h (map f (drop (i + 1) xs)) in
        let a : map f (take (i + 1) (set xs i x)) ≡ map f (take i xs) ++ (f x ∷ []) = ap (map f) (take_more_set xs i x lt) ∙ map-append f (take i xs) (x ∷ []) in
        let b : drop (i + 1) (set xs i x) ≡ drop (i + 1) xs = drop-set-lt (i + 1) xs i x (omega arith) in
        let g : map h (map f (drop i xs)) ≡ h (f (get_or xs i d)) ∷ tail = ap (λ (l : List X). map h (map f l)) (drop_more xs i d lt) in
        rw (a, b) (append_assoc (map f (take i xs)) (f x ∷ []) tail ∙ ap (λ (t : List Y). map f (take i xs) ++ t) (ap (λ (y : Y). y ∷ tail) e ∙ sym g) ∙ inv)

    pub all_changed : length xs ≤ i → partly xs i ≡ w → map f xs ≡ w
    all_changed le inv =
        let a : partly xs i ≡ map f xs ++ [] = ap (λ (l : List X). map f l ++ map h (map f (drop i xs))) (take_all i xs le) ∙ ap (λ (l : List X). map f xs ++ map h (map f l)) (drop_all i xs le) in
        sym (append-nil (map f xs)) ∙ sym a ∙ inv

-- A debit where no register objects: the registers are read as xs, the terms as t.
module _ (rs xs : List Register) (t c : Terms) (read : xs ≡ rs) (told : t ≡ c) where
  pub lowered_all : (ys : List Register) (v : ResultCode) → v ≡ Settled → listings ys ≡ map (fall t) (listings xs) → listings ys ≡ after c v (listings rs)
  lowered_all ys v e h = h ∙ ap (λ (l : List Register). map (fall t) (listings l)) read ∙ ap (λ (u : Terms). map (fall u) (listings rs)) told ∙ sym (ap (λ (k : ResultCode). after c k (listings rs)) e)

-- What holds of any pile.

silent_pile : (ls : List Listing) (c : Terms) → Silent ls c → objection ls c ≡ None
silent_pile [] c s = refl
silent_pile (l ∷ ls) c s = rw s.0 (silent_pile ls c s.1)

pub or_else_the_host : OrElseTheHost
or_else_the_host ls c v s = rw (silent_pile ls c s)

pub uppermost_objects : UppermostObjects
uppermost_objects [] l below c k v s o = rw o
uppermost_objects (x ∷ above) l below c k v s o = rw s.0 (uppermost_objects above l below c k v s.1 o)

-- a register and those below it fall together
after_one : (c : Terms) (b : Bool) (l : Listing) (ls : List Listing) → cond b (map (fall c) (l ∷ ls)) (l ∷ ls) ≡ cond b (fall c l) l ∷ cond b (map (fall c) ls) ls
after_one c true l ls = refl
after_one c false l ls = refl

verdict_nested : (o p : Option ResultCode) (v : ResultCode) → unwrap_or (option_map_or Some o p) v ≡ unwrap_or (option_map_or Some o None) (unwrap_or p v)
verdict_nested None p v = refl
verdict_nested (Some k) p v = refl

module _ {S : Type 0} (verdict : S → Terms → ResultCode) (debits : S → Terms → S → Type 0) where
  pub stopped : Stopped verdict debits
  stopped ls ls' s s' c k o d = let e = subst (λ (p : Option ResultCode). MatchOption p (debits s c s' × (ls' ≡ after c (verdict s c) ls)) (λ _. (ls' ≡ ls) × (s' ≡ s))) o d in (e.1, e.0)

  pub passed : Passed verdict debits
  passed ls ls' s s' c quiet d = subst (λ (p : Option ResultCode). MatchOption p (debits s c s' × (ls' ≡ after c (verdict s c) ls)) (λ _. (ls' ≡ ls) × (s' ≡ s))) (silent_pile ls c quiet) d

  module _ (l l' : Listing) (ls ls' : List Listing) (s s' : S) (c : Terms) where
    -- one debit of the stacked registers, by the objections of the uppermost and of the others
    abbrev StackedBy : Option ResultCode → Option ResultCode → Type 0
    StackedBy o p = MatchOption (option_map_or Some o p) (debits s c s' × (l' ∷ ls' ≡ after c (verdict s c) (l ∷ ls))) (λ _. (l' ∷ ls' ≡ l ∷ ls) × (s' ≡ s))

    -- and of the uppermost above the pile of the others
    abbrev NestedBy : Option ResultCode → Option ResultCode → Type 0
    NestedBy o p =
        MatchOption (option_map_or Some o None)
        (MatchOption p (debits s c s' × (ls' ≡ after c (verdict s c) ls)) (λ _. (ls' ≡ ls) × (s' ≡ s)) × (l' ∷ [] ≡ after c (unwrap_or p (verdict s c)) (l ∷ [])))
        (λ _. (l' ∷ [] ≡ l ∷ []) × (◌≡◌ {A = List Listing × S} (ls', s') (ls, s)))

    not_settled_there : (k : ResultCode) → objection ls c ≡ Some k → k ≡ Settled → ⊥
    not_settled_there k e is = never_settles ls c (e ∙ ap Some is)

    to_nested : (o p : Option ResultCode) → objection ls c ≡ p → StackedBy o p → NestedBy o p
    to_nested (Some k) p e d =
        let same = d.0 in
        let low = d.1 in
        let a : l' ≡ l = cc in
        let b : ls' ≡ ls = cc in
        (ap (λ (x : Listing). x ∷ []) a, ap (λ (x : List Listing). (x, s')) b ∙ ap (λ (x : S). (ls, x)) low)
    to_nested None (Some k) e d =
        let same = d.0 in
        let a : l' ≡ l = cc in
        let b : ls' ≡ ls = cc in
        ((b, d.1), ap (λ (x : Listing). x ∷ []) a ∙ sym (stays c k (l ∷ []) (not_settled_there k e)))
    to_nested None None e d =
        let fell = d.1 ∙ after_one c (settles (verdict s c)) l ls in
        let a : l' ≡ cond (settles (verdict s c)) (fall c l) l = cc in
        let b : ls' ≡ after c (verdict s c) ls = cc in
        let one = after_one c (settles (verdict s c)) l [] in
        let none : cond (settles (verdict s c)) (map (fall c) []) [] ≡ [] = none_fall (settles (verdict s c)) in
        ((d.0, b), ap (λ (x : Listing). x ∷ []) a ∙ ap (λ (x : List Listing). cond (settles (verdict s c)) (fall c l) l ∷ x) (sym none) ∙ sym one)
      where
        none_fall : (b : Bool) → cond b (map (fall c) []) [] ≡ []
        none_fall true = refl
        none_fall false = refl

    to_stacked : (o p : Option ResultCode) → objection ls c ≡ p → NestedBy o p → StackedBy o p
    to_stacked (Some k) p e d =
        let same = d.0 in
        let a : l' ≡ l = cc in
        (ap (λ (x : Listing). x ∷ ls') a ∙ ap (λ (q : List Listing × S). l ∷ q.0) d.1, ap (λ (q : List Listing × S). q.1) d.1)
    to_stacked None (Some k) e d =
        let fell = d.1 ∙ stays c k (l ∷ []) (not_settled_there k e) in
        let a : l' ≡ l = cc in
        (ap (λ (x : Listing). x ∷ ls') a ∙ ap (λ (x : List Listing). l ∷ x) d.0.0, d.0.1)
    to_stacked None None e d =
        let fell = d.1 ∙ after_one c (settles (verdict s c)) l [] in
        let a : l' ≡ cond (settles (verdict s c)) (fall c l) l = cc in
        (d.0.0, ap (λ (x : Listing). x ∷ ls') a ∙ ap (λ (x : List Listing). cond (settles (verdict s c)) (fall c l) l ∷ x) d.0.1 ∙ sym (after_one c (settles (verdict s c)) l ls))

  pub stacked_as_nested : StackedAsNested verdict debits
  stacked_as_nested = record {
    verdict_same = λ l ls s c. verdict_nested (objects l c) (objection ls c) (verdict s c);
    registers_same = λ l ls below. refl;
    debit_nested = λ l l' ls ls' s s' c d. to_nested l l' ls ls' s s' c (objects l c) (objection ls c) refl d;
    debit_stacked = λ l l' ls ls' s s' c d. to_stacked l l' ls ls' s s' c (objects l c) (objection ls c) refl d;
  }
