-- The rows of a ledger and of a sheet, and which of the two is in use.
use Rattle.std.specs.Prelude.{ℕ, List, [], ◌∷◌, ◌++◌, vec_items}
use Rattle.claims.specs.declared.terms.Terms.{Terms}
use Rattle.claims.specs.declared.codes.ResultCode.{ResultCode}
use Rattle.hosts.specs.declared.ledger.LedgerRow.{LedgerRow}
use Rattle.hosts.specs.declared.sheet.SheetRow.{SheetRow}
use Rattle.hosts.specs.Ledgers.{ledger_verdict, ledger_taken, ledger_after}
use Rattle.hosts.specs.Sheets.{sheet_verdict, sheet_taken, sheet_after}
use Rattle.books.specs.declared.Bottom.{Bottom}
use Rattle.books.specs.declared.Bottom.TheVariants.{Ledger, Sheet}
use Rattle.books.specs.declared.Books.{Books}

pub record Rows : Type 0 where
  pub ledger : List LedgerRow
  pub sheet : List SheetRow
  pub in_use : Bottom

abbrev pub rows_of : Books → Rows
rows_of b = record { ledger = vec_items b.ledger.rows; sheet = vec_items b.sheet.rows; in_use = b.in_use }

abbrev pub no_rows : Rows
no_rows = record { ledger = []; sheet = []; in_use = Ledger }

abbrev pub with_ledger_row : LedgerRow → Rows → Rows
with_ledger_row r b = record { ledger = b.ledger ++ r ∷ []; sheet = b.sheet; in_use = b.in_use }

abbrev pub with_sheet_row : SheetRow → Rows → Rows
with_sheet_row r b = record { ledger = b.ledger; sheet = b.sheet ++ r ∷ []; in_use = b.in_use }

abbrev pub with_bottom : Bottom → Rows → Rows
with_bottom u b = record { ledger = b.ledger; sheet = b.sheet; in_use = u }

-- the one of two that belongs to the host in use
abbrev pub one_in_use : {X : Type 0} → Bottom → X → X → X
one_in_use Ledger x y = x
one_in_use Sheet x y = y

abbrev pub books_verdict : Rows → Terms → ResultCode
books_verdict b c = one_in_use b.in_use (ledger_verdict b.ledger c) (sheet_verdict b.sheet c)

abbrev pub books_taken : Rows → ℕ → ℕ
books_taken b a = one_in_use b.in_use (ledger_taken b.ledger a) (sheet_taken b.sheet a)

-- a debit goes to the host in use, and leaves the other as it is
abbrev pub books_after : Rows → Terms → Rows
books_after b c = record { ledger = one_in_use b.in_use (ledger_after b.ledger c) b.ledger; sheet = one_in_use b.in_use b.sheet (sheet_after b.sheet c); in_use = b.in_use }
