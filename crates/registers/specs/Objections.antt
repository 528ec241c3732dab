-- No register objects with the code of a settled claim.
use Rattle.std.proofs.Common.{◌≡◌, ℕ, Bool, true, false, cond, ltb, List, [], ◌∷◌, Some, None, Option, arith}
use Rattle.std.specs.Option.{option_map_or}
use Rattle.claims.specs.declared.terms.Terms.{Terms}
use Rattle.claims.specs.declared.codes.ResultCode.{ResultCode}
use Rattle.claims.specs.declared.codes.ResultCode.TheVariants.{Settled, StoppedByHolder, NoMandate, StoppedByBiller, Other}
use Rattle.claims.specs.Codes.{number_of}
use Rattle.tables.specs.Rows.{same_account, same_customer, account_row, customer_row}
use Rattle.tables.specs.Tables.{is_listed}
use Rattle.tables.specs.Ceilings.{left_to}
use Rattle.registers.specs.Listings.{Listing, holders, billers, mandates, ceilings, under, objects}
use Rattle.registers.specs.Piles.{objection}

-- a code, other than settled, or none
never_chosen : (k : ResultCode) (b : Bool) → (k ≡ Settled → ⊥) → cond b (Some k) None ≡ Some Settled → ⊥
never_chosen k true n e = n cc
never_chosen k false n e = let z : ◌≡◌ {A = ℕ} 0 1 = cc in omega arith

never_left_out : (k : ResultCode) (b : Bool) → (k ≡ Settled → ⊥) → cond b None (Some k) ≡ Some Settled → ⊥
never_left_out k true n e = let z : ◌≡◌ {A = ℕ} 0 1 = cc in omega arith
never_left_out k false n e = n cc

-- codes of different numbers are different
apart : (k : ResultCode) → (number_of k ≡ 0 → ⊥) → k ≡ Settled → ⊥
apart k n e = n cc

ceiling : (m : ℕ) (o : Option ℕ) → under m o ≡ Some Settled → ⊥
ceiling m None e = let z : ◌≡◌ {A = ℕ} 0 1 = cc in omega arith
ceiling m (Some left) e = never_chosen Other (ltb left m) (apart Other (λ z. omega (arith, z))) e

never_one : (l : Listing) (c : Terms) → objects l c ≡ Some Settled → ⊥
never_one (holders rs) c e = never_chosen StoppedByHolder (is_listed same_account rs (account_row c)) (apart StoppedByHolder (λ z. omega (arith, z))) e
never_one (billers rs) c e = never_chosen StoppedByBiller (is_listed same_customer rs (customer_row c)) (apart StoppedByBiller (λ z. omega (arith, z))) e
never_one (mandates rs) c e = never_left_out NoMandate (is_listed same_account rs (account_row c)) (apart NoMandate (λ z. omega (arith, z))) e
never_one (ceilings rs) c e = ceiling c.amount (left_to c.biller rs) e

never_more : (o p : Option ResultCode) → (o ≡ Some Settled → ⊥) → (p ≡ Some Settled → ⊥) → option_map_or Some o p ≡ Some Settled → ⊥
never_more None p n m e = m e
never_more (Some k) p n m e = n e

pub never_settles : (ls : List Listing) (c : Terms) → objection ls c ≡ Some Settled → ⊥
never_settles [] c e = let z : ◌≡◌ {A = ℕ} 0 1 = cc in omega arith
never_settles (l ∷ ls) c e = never_more (objects l c) (objection ls c) (never_one l c) (never_settles ls c) e
