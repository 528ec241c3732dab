-- What the steps of the desk make of its registers and rows.
use Rattle.std.proofs.Common.{◌≡◌, ℕ, ◌<◌, Bool, true, false, cond, List, [], length, get_or, set, Some, None, Ok, Err, Option, Result, sym, refl, ap, ◌∙◌, subst, arith, MatchOption}
use Rattle.std.proofs.lemmas.List.{length-map, get_or-map, map-set}
use Rattle.std.specs.Option.{option_map_or}
use Rattle.denials.specs.declared.Denial.{Denial}
use Rattle.denials.specs.declared.Denial.TheVariants.{OutsideWidth}
use Rattle.claims.specs.declared.terms.Terms.{Terms}
use Rattle.claims.specs.declared.codes.ResultCode.{ResultCode}
use Rattle.claims.specs.Widths.{wide}
use Rattle.registers.specs.declared.register.Register.{Register}
use Rattle.registers.specs.Listings.{Listing, listing, holders}
use Rattle.registers.specs.Piles.{listings, objection, after}
use Rattle.books.specs.Books.{Rows, books_verdict, books_after}
use Rattle.afternoon.specs.Staff.{Changed, answer_of, afterwards}
use Rattle.afternoon.specs.Desk.{stands, place_of, register_at, registers_changed, change_answer, passed_down, debited}

pub both : (r q : Rows) (ls ks : List Listing) → r ≡ q → ls ≡ ks → stands r ls ≡ stands q ks
both r q ls ks e f = ap (λ (x : Rows). stands x ls) e ∙ ap (λ (x : List Listing). stands q x) f

-- A register changed in its place.
module _ (change : Listing → Changed) (number : ℕ) (rs : List Register) where
  placed : (o : Option ℕ) → o ≡ place_of (length rs) number → place_of (length (listings rs)) number ≡ o
  placed o e = ap (λ (n : ℕ). place_of n number) (length-map rs listing) ∙ sym e

  module _ (i : ℕ) (e : Some i ≡ place_of (length rs) number) (lt : i < length rs) (d : Register) where
    here : register_at (listings rs) i ≡ listing (get_or rs i d)
    here = get_or-map listing rs i d (holders []) lt

    pub changed : (y : Register) → listing y ≡ afterwards (listing (get_or rs i d)) (change (listing (get_or rs i d))) → listings (set rs i y) ≡ registers_changed change number (listings rs)
    changed y is =
        let p = placed (Some i) e in
        let h : set (listings rs) i (listing y) ≡ registers_changed change number (listings rs) = rw p (ap (λ (l : Listing). set (listings rs) i l) is ∙ ap (λ (l : Listing). set (listings rs) i (afterwards l (change l))) (sym here)) in
        map-set listing rs i y ∙ h

    pub answered : (r : Option (Result (Unit {0}) Denial)) → r ≡ answer_of (change (listing (get_or rs i d))) → r ≡ change_answer change number (listings rs)
    answered r is =
        let p = placed (Some i) e in
        let h : answer_of (change (listing (get_or rs i d))) ≡ change_answer change number (listings rs) = rw p (ap (λ (l : Listing). answer_of (change l)) (sym here)) in
        is ∙ h

-- A claim that was made, and a debit with it.
granted : (t c : Terms) (b : Bool) → ◌≡◌ {A = Result Terms Denial} (Ok t) (cond b (Ok c) (Err OutsideWidth)) → (b ≡ true) × (t ≡ c)
granted t c true e = let z : t ≡ c = cc in (refl, z)
granted t c false e = let z : ◌≡◌ {A = ℕ} 0 1 = cc in absurd (omega arith)

module _ (t c : Terms) (made : ◌≡◌ {A = Result Terms Denial} (Ok t) (cond (wide c) (Ok c) (Err OutsideWidth))) (q : Rows) (ls : List Listing) where
  one_debit : (o : Option ResultCode) (q' : Rows) (ls' : List Listing) → MatchOption o ((q' ≡ books_after q c) × (ls' ≡ after c (books_verdict q c) ls)) (λ _. (ls' ≡ ls) × (q' ≡ q)) → stands q' ls' ≡ option_map_or (λ _. stands q ls) o (passed_down c (stands q ls))
  one_debit None q' ls' d = both q' (books_after q c) ls' (after c (books_verdict q c) ls) d.0 d.1
  one_debit (Some k) q' ls' d = both q' q ls' ls d.1 d.0

  pub desk_debited : (q' : Rows) (ls' : List Listing) → MatchOption (objection ls t) ((q' ≡ books_after q t) × (ls' ≡ after t (books_verdict q t) ls)) (λ _. (ls' ≡ ls) × (q' ≡ q)) → stands q' ls' ≡ debited c (stands q ls)
  desk_debited q' ls' d =
      let g = granted t c (wide c) made in
      let w = g.0 in
      let e = subst (λ (x : Terms). MatchOption (objection ls x) ((q' ≡ books_after q x) × (ls' ≡ after x (books_verdict q x) ls)) (λ _. (ls' ≡ ls) × (q' ≡ q))) g.1 d in
      let h = one_debit (objection ls c) q' ls' e in
      rw w h

-- what the relation of a debit says of the host below, said of its rows
pub by_rows : {S : Type 0} (f : S → Rows) (o : Option ResultCode) (s s' : S) (D : Type 0) (ls ls' ks : List Listing) → MatchOption o (D × (ls' ≡ ks)) (λ _. (ls' ≡ ls) × (s' ≡ s)) → MatchOption o (D × (ls' ≡ ks)) (λ _. (ls' ≡ ls) × (f s' ≡ f s))
by_rows f None s s' D ls ls' ks d = d
by_rows f (Some k) s s' D ls ls' ks d = (d.0, ap f d.1)
