-- What the row of a sheet that a search found says of a claim, and the laws of a host over the rows of a sheet.
use Rattle.std.specs.Prelude.{◌≡◌, ℕ, ◌+◌, ◌*◌, ◌<◌, ◌≤◌, min, true, false, List, [], ◌∷◌, ◌++◌, length, take, drop, set, Some, None, sum_by, Option, ◌≢◌, slice_index_or, slice_set, refl}
use Rattle.std.proofs.Common.{sym, ap, subst, ◌∙◌, inl, inr, arith}
use Rattle.std.proofs.lemmas.List.{set-get_or, length-take, take_all}
use Rattle.std.proofs.lemmas.List.Sums.{sum_by-cons, sum_by_more}
use Rattle.std.proofs.lemmas.Bool.{eq-eqb, cases_lt}
use Rattle.std.proofs.lemmas.Bool.Decides.{nat_tests}
use Rattle.hosts.specs.declared.sheet.SheetRow.{SheetRow}
use Rattle.claims.specs.declared.terms.Terms.{Terms}
use Rattle.claims.specs.declared.codes.ResultCode.TheVariants.{Settled, Other}
use Rattle.claims.specs.Widths.{Wide}
use Rattle.std.specs.List.{find, position_from}
use Rattle.std.specs.Option.{option_map_or}
use Rattle.hosts.specs.Firsts.{at_first}
use Rattle.hosts.specs.Sheets.{counted, answers, row_code, figure, spend, sheet_verdict, sheet_taken, sheet_after}
use Rattle.hosts.specs.Meaning.{HostLaws, share}
use Rattle.hosts.specs.FirstsLemmas.{at_read, at_none, sum_first, first_true, length_at_first, take_front, set_front, get_or_front}
use Rattle.claims.proofs.Settling.{not_settled}

settled_rows : (rs : List SheetRow) (c : Terms) → sheet_verdict rs c ≡ Settled → sheet_after rs c ≡ at_first (answers c) spend (counted rs) ++ drop 100000 rs
settled_rows rs c v = rw v

same_rows : (rs : List SheetRow) (c : Terms) → (sheet_verdict rs c ≢ Settled) → sheet_after rs c ≡ rs
same_rows rs c n = rw (not_settled (sheet_verdict rs c) n)

-- the code 0 alone is settled
zero_code : (r : SheetRow) → row_code r ≡ Settled → r.code ≡ 0
zero_code r e = grind (arith, nat_tests)

-- a row that answers a claim adds nothing, and once spent the claim's amount
unspent : (c : Terms) (r : SheetRow) (a : ℕ) → answers c r ≡ true → figure a r ≡ 0
unspent c r a e = grind (arith, nat_tests)

spent_now : (c : Terms) (r : SheetRow) (a : ℕ) → Wide c → r.code ≡ 0 → answers c r ≡ true → figure a (spend r) ≡ share a c
spent_now c r a w z e = grind (arith, nat_tests)

small_figure : (a : ℕ) (r : SheetRow) → figure a r ≤ 9999999999
small_figure a r = grind (arith, nat_tests)

sum_small : (a : ℕ) (rs : List SheetRow) → sum_by (figure a) rs ≤ length rs * 9999999999
sum_small a [] = omega arith
sum_small a (r ∷ rs) = omega (arith, sum_by-cons (figure a) r rs, small_figure a r, sum_small a rs)

pub few : (rs : List SheetRow) → length (counted rs) ≤ 100000
few rs = omega (arith, length-take 100000 rs)

pub capped : (m n : ℕ) (xs ys : List SheetRow) → ys ≡ xs → n ≡ min (length xs) m → take n ys ≡ take m xs
capped m n xs ys e h = elim (cases_lt (length xs) m) [
  | inl l ↦ let k : n ≡ length xs = omega arith in rw (e, k) (take_all (length xs) xs (omega arith) ∙ sym (take_all m xs (omega arith)))
  | inr g ↦ let k : n ≡ m = omega arith in rw (e, k)
]

-- so what the rows that count add to a figure is within fifteen digits
pub small_sum : (a : ℕ) (rs : List SheetRow) → sum_by (figure a) (counted rs) ≤ 999999999999999
small_sum a rs = omega (arith, sum_small a (counted rs), few rs)

-- a row that counts stands in the sheet, whose length is n
pub inside : (rs : List SheetRow) (i n : ℕ) → i < length (counted rs) → n ≡ length rs → i < n
inside rs i n l e = omega (arith, length-take 100000 rs)

-- a sum over rows of which one is spent on a claim rises by the claim's share
risen : (rs : List SheetRow) (c : Terms) (a : ℕ) (o : Option SheetRow) → Wide c → find (answers c) rs ≡ o → option_map_or row_code o Other ≡ Settled → sum_by (figure a) (at_first (answers c) spend rs) ≡ sum_by (figure a) rs + share a c
risen rs c a None w e v = let z : ◌≡◌ {A = ℕ} 0 1 = cc in absurd (omega arith)
risen rs c a (Some r) w e v =
    let t = first_true (answers c) rs r e in
    let s : sum_by (figure a) (at_first (answers c) spend rs) + figure a r ≡ sum_by (figure a) rs + figure a (spend r) = subst (λ (o : Option SheetRow). sum_by (figure a) (at_first (answers c) spend rs) + option_map_or (figure a) o 0 ≡ sum_by (figure a) rs + option_map_or (λ x. figure a (spend x)) o 0) e (sum_first (answers c) spend (figure a) rs) in
    omega (arith, unspent c r a t, spent_now c r a w (zero_code r v) t)

front : (rs : List SheetRow) (c : Terms) → take 100000 (at_first (answers c) spend (counted rs) ++ drop 100000 rs) ≡ at_first (answers c) spend (counted rs)
front rs c = take_front 100000 rs (at_first (answers c) spend (counted rs)) (length_at_first (answers c) spend (counted rs))

moved : (rs : List SheetRow) (c : Terms) (a : ℕ) → Wide c → sheet_verdict rs c ≡ Settled → sheet_taken (sheet_after rs c) a ≡ sheet_taken rs a + share a c
moved rs c a w v = ap (λ (l : List SheetRow). sheet_taken l a) (settled_rows rs c v) ∙ ap (sum_by (figure a)) (front rs c) ∙ risen (counted rs) c a (find (answers c) (counted rs)) w refl v

limited : (rs : List SheetRow) (c : Terms) → Wide c → sheet_verdict rs c ≡ Settled → sheet_taken rs c.account + c.amount ≤ 999999999999999
limited rs c w v =
    let b = c.account in
    let own : share b c ≡ c.amount = rw (eq-eqb b b refl) in
    omega (arith, own, risen (counted rs) c b (find (answers c) (counted rs)) w refl v, sum_small b (at_first (answers c) spend (counted rs)), length_at_first (answers c) spend (counted rs), length-take 100000 rs)

pub sheet_laws : HostLaws {S = List SheetRow} sheet_verdict sheet_taken (λ s c t. t ≡ sheet_after s c) (λ _. []) sheet_verdict
sheet_laws = record {
  raises = λ s t c w d v a _. ap (λ (l : List SheetRow). sheet_taken l a) d ∙ moved s c a w v;
  figures = λ s t c w d n a _. ap (λ (l : List SheetRow). sheet_taken l a) (d ∙ same_rows s c n);
  verdicts = λ s t c w d n x _. ap (λ (l : List SheetRow). sheet_verdict l x) (d ∙ same_rows s c n);
  limit = λ s c w v. limited s c w v;
  uppermost = λ s c w. refl;
}

module _ (rs : List SheetRow) (t c : Terms) (told : t ≡ c) where
  pub missing : None ≡ position_from (answers t) 0 (counted rs) → (Other ≡ sheet_verdict rs c) × (rs ≡ sheet_after rs c)
  missing e =
      let f = (at_none (answers t) spend (counted rs) e (record { terms = c; code = 0; spent = false })).0 in
      let v : Other ≡ sheet_verdict rs t = rw f in
      let d : rs ≡ sheet_after rs t = rw f in
      (v ∙ ap (sheet_verdict rs) told, d ∙ ap (sheet_after rs) told)

  module _ (i : ℕ) (r : SheetRow) (e : Some i ≡ position_from (answers t) 0 (counted rs)) (l : i < length (counted rs)) (read : r ≡ slice_index_or rs i r) where
    pub says : row_code r ≡ sheet_verdict rs c
    says =
        let f = (at_read (answers t) spend (counted rs) i r e (read ∙ get_or_front 100000 rs i r l)).0 in
        let v : row_code r ≡ sheet_verdict rs t = rw f in
        v ∙ ap (sheet_verdict rs) told

    pub settled : row_code r ≡ Settled → slice_set rs i (spend r) ≡ sheet_after rs c
    settled v =
        let f = (at_read (answers t) spend (counted rs) i r e (read ∙ get_or_front 100000 rs i r l)).1 in
        set_front 100000 rs i (spend r) l ∙ ap (λ (x : List SheetRow). x ++ drop 100000 rs) (sym f) ∙ ap (λ (x : Terms). at_first (answers x) spend (counted rs) ++ drop 100000 rs) told ∙ sym (settled_rows rs c (sym says ∙ v))

    pub refused : (row_code r ≢ Settled) → slice_set rs i r ≡ sheet_after rs c
    refused n = ap (set rs i) read ∙ set-get_or rs i r ∙ sym (same_rows rs c (λ v. n (says ∙ v)))

-- the figures of the rows ys, read as xs, summed row by row
module _ (a sum i : ℕ) (xs ys : List SheetRow) (e : xs ≡ ys) (inv : sum ≡ sum_by (figure a) (take i ys)) where
  pub again : (x : ℕ) (d : SheetRow) → sum ≤ i * 9999999999 → i < length xs → x ≡ figure a (slice_index_or xs i d) → (sum + x ≡ sum_by (figure a) (take (i + 1) ys)) × (sum + x ≤ (i + 1) * 9999999999)
  again x d le lt f =
      let n : i < length ys = omega (arith, ap length e) in
      let g : x ≡ figure a (slice_index_or ys i d) = f ∙ ap (λ (l : List SheetRow). figure a (slice_index_or l i d)) e in
      (omega (arith, sum_by_more (figure a) ys i d n), omega (arith, small_figure a (slice_index_or ys i d)))

  pub done : length xs ≤ i → sum ≡ sum_by (figure a) ys
  done le = inv ∙ ap (sum_by (figure a)) (take_all i ys (omega (arith, ap length e)))
