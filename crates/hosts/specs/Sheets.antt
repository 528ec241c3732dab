-- What a sheet of these rows says of a claim and of an account, and what a debit makes of it.
use Rattle.std.specs.Prelude.{ℕ, Bool, true, cond, not, ◌&&◌, List, ◌++◌, take, drop, sum_by, find, ◌==◌, nat_le}
use Rattle.std.specs.Option.{unwrap_or, option_map_or}
use Rattle.claims.specs.declared.terms.Terms.{Terms}
use Rattle.claims.specs.declared.codes.ResultCode.{ResultCode}
use Rattle.claims.specs.declared.codes.ResultCode.TheVariants.{Other}
use Rattle.claims.specs.Codes.{code_numbered, settles}
use Rattle.claims.specs.Widths.{ten_digits}
use Rattle.hosts.specs.declared.sheet.SheetRow.{SheetRow}
use Rattle.hosts.specs.Firsts.{at_first}

-- how many rows of a sheet count
abbrev pub rows_that_count : ℕ
rows_that_count = 100000

abbrev pub counted : List SheetRow → List SheetRow
counted rs = take rows_that_count rs

-- the code of a row; a number that is none of the seven stands for other
abbrev pub row_code : SheetRow → ResultCode
row_code r = unwrap_or (code_numbered r.code) Other

-- an unspent row equal to the claim in all parts
abbrev pub answers : Terms → SheetRow → Bool
answers c r = not r.spent && (r.terms.biller == c.biller && (r.terms.account == c.account && (r.terms.high == c.high && (r.terms.low == c.low && r.terms.amount == c.amount))))

-- what a row adds to the figure of an account
abbrev pub figure : ℕ → SheetRow → ℕ
figure a r = cond (r.spent && (r.terms.account == a && (r.code == 0 && (nat_le 1 r.terms.amount && nat_le r.terms.amount ten_digits)))) r.terms.amount 0

abbrev pub spend : SheetRow → SheetRow
spend r = record { terms = r.terms; code = r.code; spent = true }

-- the first unspent row equal to the claim answers
abbrev pub sheet_verdict : List SheetRow → Terms → ResultCode
sheet_verdict rs c = option_map_or row_code (find (answers c) (counted rs)) Other

abbrev pub sheet_taken : List SheetRow → ℕ → ℕ
sheet_taken rs a = sum_by (figure a) (counted rs)

-- settling marks the row that answered spent
abbrev pub sheet_after : List SheetRow → Terms → List SheetRow
sheet_after rs c = cond (settles (sheet_verdict rs c)) (at_first (answers c) spend (counted rs) ++ drop rows_that_count rs) rs
