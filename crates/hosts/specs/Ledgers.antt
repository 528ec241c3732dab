-- What a ledger of these rows says of a claim and of an account, and what a debit makes of it.
use Rattle.std.specs.Prelude.{ℕ, ◌+◌, ◌-◌, Bool, cond, List, find, ◌==◌, nat_lt}
use Rattle.claims.specs.declared.terms.Terms.{Terms}
use Rattle.claims.specs.declared.codes.ResultCode.{ResultCode}
use Rattle.claims.specs.declared.codes.ResultCode.TheVariants.{Settled, ShortOfFunds, NoAccount, Other}
use Rattle.claims.specs.Codes.{settles}
use Rattle.hosts.specs.declared.ledger.LedgerRow.{LedgerRow}
use Rattle.hosts.specs.Meaning.{figure_limit}
use Rattle.std.specs.Option.{option_map_or}
use Rattle.hosts.specs.Firsts.{at_first}

abbrev pub of_account : ℕ → LedgerRow → Bool
of_account a r = r.account == a

-- what a row says of an amount
abbrev pub row_verdict : ℕ → LedgerRow → ResultCode
row_verdict m r = cond (nat_lt r.balance m) ShortOfFunds (cond (nat_lt figure_limit (r.taken + m)) Other Settled)

-- the first row with the account counts
abbrev pub ledger_verdict : List LedgerRow → Terms → ResultCode
ledger_verdict rs c = option_map_or (row_verdict c.amount) (find (of_account c.account) rs) NoAccount

abbrev pub ledger_taken : List LedgerRow → ℕ → ℕ
ledger_taken rs a = option_map_or (λ r. r.taken) (find (of_account a) rs) 0

-- a row from which an amount was drawn
abbrev pub drawn : ℕ → LedgerRow → LedgerRow
drawn m r = record { account = r.account; balance = r.balance - m; taken = r.taken + m }

-- settling lowers the balance and raises the figure of the account's first row
abbrev pub ledger_after : List LedgerRow → Terms → List LedgerRow
ledger_after rs c = cond (settles (ledger_verdict rs c)) (at_first (of_account c.account) (drawn c.amount) rs) rs
