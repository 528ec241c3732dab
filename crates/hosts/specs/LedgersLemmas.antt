-- What the row of a ledger that a search found says of a claim, and the laws of a host over the rows of a ledger.
use Rattle.std.specs.Prelude.{◌≡◌, ℕ, ◌+◌, ◌≤◌, Bool, true, false, cond, List, [], set, Some, None, Option, ◌==◌, ◌≢◌, slice_index_or, slice_set, refl}
use Rattle.std.proofs.Common.{sym, ap, ◌∙◌, arith}
use Rattle.std.proofs.lemmas.List.{set-get_or}
use Rattle.std.proofs.lemmas.Bool.{eqb-true, eqb-false, ne_eqb}
use Rattle.std.proofs.lemmas.Bool.Decides.{nat_tests}
use Rattle.claims.specs.declared.terms.Terms.{Terms}
use Rattle.claims.specs.declared.codes.ResultCode.TheVariants.{Settled, NoAccount}
use Rattle.claims.proofs.Settling.{not_settled}
use Rattle.hosts.specs.declared.ledger.LedgerRow.{LedgerRow}
use Rattle.std.specs.List.{find, position_from}
use Rattle.std.specs.Option.{option_map_or}
use Rattle.hosts.specs.Firsts.{at_first}
use Rattle.hosts.specs.Ledgers.{of_account, row_verdict, drawn, ledger_verdict, ledger_taken, ledger_after}
use Rattle.hosts.specs.FirstsLemmas.{at_read, at_none, first_same, first_other}
use Rattle.hosts.specs.Meaning.{HostLaws}

settled_rows : (rs : List LedgerRow) (c : Terms) → ledger_verdict rs c ≡ Settled → ledger_after rs c ≡ at_first (of_account c.account) (drawn c.amount) rs
settled_rows rs c v = rw v

same_rows : (rs : List LedgerRow) (c : Terms) → (ledger_verdict rs c ≢ Settled) → ledger_after rs c ≡ rs
same_rows rs c n = rw (not_settled (ledger_verdict rs c) n)

module _ (rs : List LedgerRow) (t c : Terms) (told : t ≡ c) where
  pub missing : None ≡ position_from (of_account t.account) 0 rs → (NoAccount ≡ ledger_verdict rs c) × (rs ≡ ledger_after rs c)
  missing e =
      let f = (at_none (of_account t.account) (drawn 0) rs e (record { account = 0; balance = 0; taken = 0 })).0 in
      let v : NoAccount ≡ ledger_verdict rs t = rw f in
      let d : rs ≡ ledger_after rs t = rw f in
      (v ∙ ap (ledger_verdict rs) told, d ∙ ap (ledger_after rs) told)

  module _ (i : ℕ) (r : LedgerRow) (e : Some i ≡ position_from (of_account t.account) 0 rs) (read : r ≡ slice_index_or rs i r) where
    pub says : row_verdict t.amount r ≡ ledger_verdict rs c
    says =
        let f = (at_read (of_account t.account) (drawn 0) rs i r e read).0 in
        let v : row_verdict t.amount r ≡ ledger_verdict rs t = rw f in
        v ∙ ap (ledger_verdict rs) told

    pub settled : row_verdict t.amount r ≡ Settled → slice_set rs i (drawn t.amount r) ≡ ledger_after rs c
    settled v =
        let f = (at_read (of_account t.account) (drawn t.amount) rs i r e read).1 in
        sym f ∙ ap (λ (x : Terms). at_first (of_account x.account) (drawn x.amount) rs) told ∙ sym (settled_rows rs c (sym says ∙ v))

    pub refused : (row_verdict t.amount r ≢ Settled) → slice_set rs i r ≡ ledger_after rs c
    refused n = ap (set rs i) read ∙ set-get_or rs i r ∙ sym (same_rows rs c (λ v. n (says ∙ v)))

pub no_figure : (rs : List LedgerRow) (a : ℕ) → None ≡ position_from (of_account a) 0 rs → 0 ≡ ledger_taken rs a
no_figure rs a e = let f = (at_none (of_account a) (drawn 0) rs e (record { account = 0; balance = 0; taken = 0 })).0 in rw f

pub figure : (rs : List LedgerRow) (a i : ℕ) (r : LedgerRow) → Some i ≡ position_from (of_account a) 0 rs → r ≡ slice_index_or rs i r → r.taken ≡ ledger_taken rs a
figure rs a i r e read = let f = (at_read (of_account a) (drawn 0) rs i r e read).0 in rw f

-- The laws of a host, over the rows.

-- the account's own figure, and another's
own : (rs : List LedgerRow) (b m : ℕ) (o : Option LedgerRow) → find (of_account b) rs ≡ o → option_map_or (row_verdict m) o NoAccount ≡ Settled → ledger_taken (at_first (of_account b) (drawn m) rs) b ≡ ledger_taken rs b + m
own rs b m None e v = let z : ◌≡◌ {A = ℕ} 0 1 = cc in absurd (omega arith)
own rs b m (Some r) e v = rw (first_same (of_account b) (drawn m) (λ _. refl) rs, e)

apart : (b a m : ℕ) → (b ≢ a) → (r : LedgerRow) → of_account b r ≡ true → (of_account a r ≡ false) × (of_account a (drawn m r) ≡ false)
apart b a m n r e =
    let k : r.account ≡ b = eqb-true _ _ e in
    let z : of_account a r ≡ false = ne_eqb _ _ (λ (h : r.account ≡ a). n (sym k ∙ h)) in
    (z, z)

risen : (rs : List LedgerRow) (c : Terms) (a : ℕ) (t : Bool) → (c.account == a) ≡ t → ledger_verdict rs c ≡ Settled → ledger_taken (at_first (of_account c.account) (drawn c.amount) rs) a ≡ ledger_taken rs a + cond t c.amount 0
risen rs c a true e v =
    let k : c.account ≡ a = eqb-true _ _ e in
    rw (← k) (own rs c.account c.amount (find (of_account c.account) rs) refl v)
risen rs c a false e v =
    rw (first_other (of_account c.account) (drawn c.amount) (of_account a) (apart c.account a c.amount (eqb-false _ _ e)) rs) (omega arith)

within : (b m : ℕ) (o : Option LedgerRow) → option_map_or (row_verdict m) o NoAccount ≡ Settled → option_map_or (λ r. r.taken) o 0 + m ≤ 999999999999999
within b m None v = let z : ◌≡◌ {A = ℕ} 0 1 = cc in absurd (omega arith)
within b m (Some r) v = grind (arith, nat_tests)

pub ledger_laws : HostLaws {S = List LedgerRow} ledger_verdict ledger_taken (λ s c t. t ≡ ledger_after s c) (λ _. []) ledger_verdict
ledger_laws = record {
  raises = λ s t c w d v a _. ap (λ (l : List LedgerRow). ledger_taken l a) (d ∙ settled_rows s c v) ∙ risen s c a (c.account == a) refl v;
  figures = λ s t c w d n a _. ap (λ (l : List LedgerRow). ledger_taken l a) (d ∙ same_rows s c n);
  verdicts = λ s t c w d n x _. ap (λ (l : List LedgerRow). ledger_verdict l x) (d ∙ same_rows s c n);
  limit = λ s c w v. within c.account c.amount (find (of_account c.account) s) v;
  uppermost = λ s c w. refl;
}
