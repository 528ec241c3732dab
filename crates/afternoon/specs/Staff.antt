-- Listing and striking in a register of any sort, by plain numbers: the answer with the register afterwards, or none where the numbers do not fit its sort.
use Rattle.std.specs.Prelude.{◌≡◌, ℕ, Bool, List, Some, None, Option, Result, option_and_then}
use Rattle.denials.specs.declared.Denial.{Denial}
use Rattle.tables.specs.declared.rows.AccountRow.{AccountRow}
use Rattle.tables.specs.declared.rows.CustomerRow.{CustomerRow}
use Rattle.tables.specs.declared.rows.CeilingRow.{CeilingRow}
use Rattle.tables.specs.Rows.{same_account, wide_account, same_customer, wide_customer, same_biller, wide_biller, wide_ceiling}
use Rattle.tables.specs.Tables.{list_answer, listed, strike_answer, struck}
use Rattle.registers.specs.declared.register.Register.{Register}
use Rattle.registers.specs.Listings.{Listing, listing, holders, billers, mandates, ceilings}
use Rattle.afternoon.specs.declared.staff.Entry.{Entry}
use Rattle.afternoon.specs.declared.staff.Entry.TheVariants.{One, Two, Three}

-- what a change of a register gives
abbrev pub Changed : Type 0
Changed = Option (Result (Unit {0}) Denial × Listing)

abbrev pub answer_of : Changed → Option (Result (Unit {0}) Denial)
answer_of None = None
answer_of (Some p) = Some p.0

-- the register afterwards: as it was, where the numbers do not fit
abbrev pub afterwards : Listing → Changed → Listing
afterwards l None = l
afterwards l (Some p) = p.1

-- a change that means this turned register x into y, and answered r
abbrev pub Means : (Listing → Changed) → Register → Option (Result (Unit {0}) Denial) → Register → Type 0
Means meaning x r y = (r ≡ answer_of (meaning (listing x))) × (listing y ≡ afterwards (listing x) (meaning (listing x)))

-- the rows that the numbers stand for
abbrev pub account : ℕ → ℕ → AccountRow
account b a = record { biller = b; account = a }

abbrev pub customer : ℕ → ℕ → ℕ → CustomerRow
customer b h l = record { biller = b; high = h; low = l }

abbrev pub ceiling : ℕ → ℕ → CeilingRow
ceiling b m = record { biller = b; left = m }

-- the rows in the numbers that are given, where they fit
abbrev pub account_in : Entry → Option AccountRow
account_in (One b) = None
account_in (Two b a) = Some (account b a)
account_in (Three b h l) = None

abbrev pub customer_in : Entry → Option CustomerRow
customer_in (One b) = None
customer_in (Two b a) = None
customer_in (Three b h l) = Some (customer b h l)

abbrev pub ceiling_in : Entry → Option CeilingRow
ceiling_in (One b) = None
ceiling_in (Two b m) = Some (ceiling b m)
ceiling_in (Three b h l) = None

-- a biller code alone strikes a ceiling off
abbrev pub ceiling_key_in : Entry → Option CeilingRow
ceiling_key_in (One b) = Some (ceiling b 0)
ceiling_key_in (Two b m) = None
ceiling_key_in (Three b h l) = None

abbrev pub listing_row : {X : Type 0} → (X → X → Bool) → (X → Bool) → (List X → Listing) → List X → X → Changed
listing_row same wide sort rs q = Some (list_answer same wide rs q, sort (listed same wide rs q))

abbrev pub striking_row : {X : Type 0} → (X → X → Bool) → (X → Bool) → (List X → Listing) → List X → X → Changed
striking_row same wide sort rs q = Some (strike_answer same wide rs q, sort (struck same wide rs q))

abbrev pub list_in : Listing → Entry → Changed
list_in (holders rs) e = option_and_then (listing_row same_account wide_account holders rs) (account_in e)
list_in (billers rs) e = option_and_then (listing_row same_customer wide_customer billers rs) (customer_in e)
list_in (mandates rs) e = option_and_then (listing_row same_account wide_account mandates rs) (account_in e)
list_in (ceilings rs) e = option_and_then (listing_row same_biller wide_ceiling ceilings rs) (ceiling_in e)

abbrev pub strike_in : Listing → Entry → Changed
strike_in (holders rs) e = option_and_then (striking_row same_account wide_account holders rs) (account_in e)
strike_in (billers rs) e = option_and_then (striking_row same_customer wide_customer billers rs) (customer_in e)
strike_in (mandates rs) e = option_and_then (striking_row same_account wide_account mandates rs) (account_in e)
strike_in (ceilings rs) e = option_and_then (striking_row same_biller wide_biller ceilings rs) (ceiling_key_in e)
