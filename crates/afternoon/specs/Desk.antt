-- What the program holds, and what each step makes of it: the rows of ledger and sheet, and the registers above, uppermost first.
use Rattle.std.specs.Prelude.{ℕ, ◌-◌, Bool, cond, ◌&&◌, List, [], ◌∷◌, length, Some, None, Ok, Err, vec_items, Option, Result, nat_le, slice_index_or, slice_set}
use Rattle.std.specs.Option.{option_map_or, option_and_then}
use Rattle.denials.specs.declared.Denial.{Denial}
use Rattle.denials.specs.declared.Denial.TheVariants.{OutsideWidth}
use Rattle.claims.specs.declared.terms.Terms.{Terms}
use Rattle.claims.specs.declared.codes.ResultCode.{ResultCode}
use Rattle.claims.specs.Widths.{wide}
use Rattle.hosts.specs.declared.ledger.LedgerRow.{LedgerRow}
use Rattle.hosts.specs.declared.sheet.SheetRow.{SheetRow}
use Rattle.registers.specs.Listings.{Listing, holders, billers, mandates, ceilings}
use Rattle.registers.specs.Piles.{listings, objection, verdict_above, after}
use Rattle.books.specs.declared.Bottom.{Bottom}
use Rattle.afternoon.specs.declared.commands.Sort.{Sort}
use Rattle.afternoon.specs.declared.commands.Sort.TheVariants.{Holder, Biller, Mandates, Ceiling}
use Rattle.afternoon.specs.declared.desk.Desk.{Desk}
use Rattle.books.specs.Books.{Rows, rows_of, no_rows, with_ledger_row, with_sheet_row, with_bottom, books_verdict, books_taken, books_after}
use Rattle.afternoon.specs.Staff.{Changed, answer_of, afterwards}

pub record Standing : Type 0 where
  pub rows : Rows
  pub registers : List Listing

abbrev pub stands : Rows → List Listing → Standing
stands r ls = record { rows = r; registers = ls }

abbrev pub standing : Desk → Standing
standing d = stands (rows_of d.pile.below) (listings (vec_items d.pile.layer))

abbrev pub empty_desk : Standing
empty_desk = stands no_rows []

abbrev pub added_to_ledger : LedgerRow → Standing → Standing
added_to_ledger row s = stands (with_ledger_row row s.rows) s.registers

abbrev pub added_to_sheet : SheetRow → Standing → Standing
added_to_sheet row s = stands (with_sheet_row row s.rows) s.registers

abbrev pub used_bottom : Bottom → Standing → Standing
used_bottom u s = stands (with_bottom u s.rows) s.registers

abbrev pub empty_of : Sort → Listing
empty_of Holder = holders []
empty_of Biller = billers []
empty_of Mandates = mandates []
empty_of Ceiling = ceilings []

abbrev pub put_on : Sort → Standing → Standing
put_on k s = stands s.rows (empty_of k ∷ s.registers)

abbrev pub without_uppermost : List Listing → List Listing
without_uppermost [] = []
without_uppermost (l ∷ ls) = ls

abbrev pub taken_off : Standing → Standing
taken_off s = stands s.rows (without_uppermost s.registers)

abbrev pub any_register : Standing → Bool
any_register s = nat_le 1 (length s.registers)

-- the place, uppermost first, of the register of a number, counted from 1 at the bottom
abbrev pub place_of : ℕ → ℕ → Option ℕ
place_of n number = cond (nat_le 1 number && nat_le number n) (Some (n - number)) None

-- the register at a place of the pile; the empty one is never read
abbrev pub register_at : List Listing → ℕ → Listing
register_at ls i = slice_index_or ls i (holders [])

-- the registers with that one changed
abbrev pub registers_changed : (Listing → Changed) → ℕ → List Listing → List Listing
registers_changed change number ls = option_map_or (λ i. slice_set ls i (afterwards (register_at ls i) (change (register_at ls i)))) (place_of (length ls) number) ls

abbrev pub changed_at : (Listing → Changed) → ℕ → Standing → Standing
changed_at change number s = stands s.rows (registers_changed change number s.registers)

-- none where there is no register of that number
abbrev pub change_answer : (Listing → Changed) → ℕ → List Listing → Option (Result (Unit {0}) Denial)
change_answer change number ls = option_and_then (λ i. answer_of (change (register_at ls i))) (place_of (length ls) number)

-- what the pile says of a claim with these terms, or that there can be no such claim
abbrev pub asked : Terms → Standing → Result ResultCode Denial
asked c s = cond (wide c) (Ok (verdict_above s.registers c (books_verdict s.rows c))) (Err OutsideWidth)

-- one debit of the pile, where no register objects
abbrev pub passed_down : Terms → Standing → Standing
passed_down c s = stands (books_after s.rows c) (after c (books_verdict s.rows c) s.registers)

abbrev pub debited : Terms → Standing → Standing
debited c s = cond (wide c) (option_map_or (λ _. s) (objection s.registers c) (passed_down c s)) s

abbrev pub figure_of : ℕ → Standing → ℕ
figure_of a s = books_taken s.rows a
