-- A register by what it lists: to which claims it objects and with which code, and how a ceiling falls.
use Rattle.std.specs.Prelude.{ℕ, cond, List, Some, None, vec_items, Option, nat_lt}
use Rattle.claims.specs.declared.terms.Terms.{Terms}
use Rattle.claims.specs.declared.codes.ResultCode.{ResultCode}
use Rattle.claims.specs.declared.codes.ResultCode.TheVariants.{StoppedByHolder, NoMandate, StoppedByBiller, Other}
use Rattle.hosts.specs.Firsts.{at_first}
use Rattle.tables.specs.declared.rows.AccountRow.{AccountRow}
use Rattle.tables.specs.declared.rows.CustomerRow.{CustomerRow}
use Rattle.tables.specs.declared.rows.CeilingRow.{CeilingRow}
use Rattle.registers.specs.declared.register.Register.{Register}
use Rattle.registers.specs.declared.register.Register.TheVariants.{HolderStop, BillerStop, Mandates, Ceiling}
use Rattle.tables.specs.Rows.{same_account, same_customer, account_row, customer_row}
use Rattle.tables.specs.Tables.{is_listed}
use Rattle.tables.specs.Ceilings.{of_biller, left_to, lowered}

pub data Listing : Type 0 where
  holders : List AccountRow → Listing
  billers : List CustomerRow → Listing
  mandates : List AccountRow → Listing
  ceilings : List CeilingRow → Listing

abbrev pub listing : Register → Listing
listing (HolderStop t) = holders (vec_items t.rows)
listing (BillerStop t) = billers (vec_items t.rows)
listing (Mandates t) = mandates (vec_items t.rows)
listing (Ceiling t) = ceilings (vec_items t.rows)

-- a ceiling objects if less is left than the amount; without one there is no objection
abbrev pub under : ℕ → Option ℕ → Option ResultCode
under m None = None
under m (Some left) = cond (nat_lt left m) (Some Other) None

-- what a register objects to a claim
abbrev pub objects : Listing → Terms → Option ResultCode
objects (holders rs) c = cond (is_listed same_account rs (account_row c)) (Some StoppedByHolder) None
objects (billers rs) c = cond (is_listed same_customer rs (customer_row c)) (Some StoppedByBiller) None
objects (mandates rs) c = cond (is_listed same_account rs (account_row c)) None (Some NoMandate)
objects (ceilings rs) c = under c.amount (left_to c.biller rs)

-- a register after a claim that was settled below it: a ceiling falls
abbrev pub fall : Terms → Listing → Listing
fall c (holders rs) = holders rs
fall c (billers rs) = billers rs
fall c (mandates rs) = mandates rs
fall c (ceilings rs) = ceilings (at_first (of_biller c.biller) (lowered c.amount) rs)
