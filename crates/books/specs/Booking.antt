-- A ledger and a sheet side by side keep the laws of a host, whichever is in use.
use Rattle.std.specs.Prelude.{◌≡◌, ℕ, ◌+◌, ◌≤◌, List, [], ◌≢◌, refl}
use Rattle.std.proofs.Common.{ap, ◌∙◌}
use Rattle.claims.specs.declared.terms.Terms.{Terms}
use Rattle.claims.specs.declared.codes.ResultCode.TheVariants.{Settled}
use Rattle.claims.specs.Widths.{fifteen_digits, Wide}
use Rattle.hosts.specs.declared.ledger.LedgerRow.{LedgerRow}
use Rattle.hosts.specs.declared.sheet.SheetRow.{SheetRow}
use Rattle.hosts.specs.Meaning.{HostLaws, figure_limit, share}
use Rattle.hosts.specs.Ledgers.{ledger_verdict, ledger_taken, ledger_after}
use Rattle.hosts.specs.Sheets.{sheet_verdict, sheet_taken, sheet_after}
use Rattle.hosts.specs.LedgersLemmas.{ledger_laws}
use Rattle.hosts.specs.SheetsLemmas.{sheet_laws}
use Rattle.books.specs.declared.Bottom.{Bottom}
use Rattle.books.specs.declared.Bottom.TheVariants.{Ledger, Sheet}
use Rattle.books.specs.Books.{Rows, one_in_use, books_verdict, books_taken, books_after}

module _ (ls : List LedgerRow) (ss : List SheetRow) (c : Terms) (w : Wide c) where
  raised : (u : Bottom) → one_in_use u (ledger_verdict ls c) (sheet_verdict ss c) ≡ Settled → (a : ℕ) → a ≤ fifteen_digits
      → one_in_use u (ledger_taken (one_in_use u (ledger_after ls c) ls) a) (sheet_taken (one_in_use u ss (sheet_after ss c)) a) ≡ one_in_use u (ledger_taken ls a) (sheet_taken ss a) + share a c
  raised Ledger v a l = ledger_laws.raises ls (ledger_after ls c) c w refl v a l
  raised Sheet v a l = sheet_laws.raises ss (sheet_after ss c) c w refl v a l

  same_figure : (u : Bottom) → (one_in_use u (ledger_verdict ls c) (sheet_verdict ss c) ≢ Settled) → (a : ℕ) → a ≤ fifteen_digits
      → one_in_use u (ledger_taken (one_in_use u (ledger_after ls c) ls) a) (sheet_taken (one_in_use u ss (sheet_after ss c)) a) ≡ one_in_use u (ledger_taken ls a) (sheet_taken ss a)
  same_figure Ledger n a l = ledger_laws.figures ls (ledger_after ls c) c w refl n a l
  same_figure Sheet n a l = sheet_laws.figures ss (sheet_after ss c) c w refl n a l

  same_verdict : (u : Bottom) → (one_in_use u (ledger_verdict ls c) (sheet_verdict ss c) ≢ Settled) → (d : Terms) → Wide d
      → one_in_use u (ledger_verdict (one_in_use u (ledger_after ls c) ls) d) (sheet_verdict (one_in_use u ss (sheet_after ss c)) d) ≡ one_in_use u (ledger_verdict ls d) (sheet_verdict ss d)
  same_verdict Ledger n d wd = ledger_laws.verdicts ls (ledger_after ls c) c w refl n d wd
  same_verdict Sheet n d wd = sheet_laws.verdicts ss (sheet_after ss c) c w refl n d wd

  within : (u : Bottom) → one_in_use u (ledger_verdict ls c) (sheet_verdict ss c) ≡ Settled → one_in_use u (ledger_taken ls c.account) (sheet_taken ss c.account) + c.amount ≤ figure_limit
  within Ledger v = ledger_laws.limit ls c w v
  within Sheet v = sheet_laws.limit ss c w v

pub books_laws : HostLaws {S = Rows} books_verdict books_taken (λ s c t. t ≡ books_after s c) (λ _. []) books_verdict
books_laws = record {
  raises = λ s t c w d v a l. ap (λ (r : Rows). books_taken r a) d ∙ raised s.ledger s.sheet c w s.in_use v a l;
  figures = λ s t c w d n a l. ap (λ (r : Rows). books_taken r a) d ∙ same_figure s.ledger s.sheet c w s.in_use n a l;
  verdicts = λ s t c w d n x wx. ap (λ (r : Rows). books_verdict r x) d ∙ same_verdict s.ledger s.sheet c w s.in_use n x wx;
  limit = λ s c w v. within s.ledger s.sheet c w s.in_use v;
  uppermost = λ s c w. refl;
}
