-- What a group asks for, found by its trailer.
use Rattle.std.proofs.Common.{◌≡◌, ℕ, ◌+◌, ◌-◌, ◌*◌, ◌/◌, ◌<◌, ◌≤◌, length, Some, None, Option, sym, refl, ap, ◌∙◌, subst, ⊎_elim, arith}
use Rattle.std.proofs.lemmas.Bool.{cases_lt}
use Rattle.records.specs.declared.layouts.Sort.{Sort}
use Rattle.records.specs.declared.layouts.Sort.TheVariants.{Header, Data, Trailer, End}
use Rattle.records.specs.Layouts.{biller_code, transfer_date, trailer_count, trailer_amount, sort_of}
use Rattle.records.specs.Fields.{Bytes, byte_in, number_in}
use Rattle.records.specs.Kept.{IsA}
use Rattle.records.proofs.Kept.{kept_read}
use Rattle.zengin.specs.declared.totals.Totals.{Totals}
use Rattle.zengin.specs.declared.groups.Group.{Group}
use Rattle.zengin.specs.Files.{record_at}
use Rattle.zengin.specs.Shown.{record_numbered}
use Rattle.zengin.specs.Judged.{totals, count_stated, amount_stated}
use Rattle.zengin.specs.Groups.{both_read, totals_of, totals_stated, head_of, head_stated, head, group, and_then, group_closed_by, group_asking, Closes}
use Rattle.zengin.specs.Lawful.{amounts, Groups, none, more, Lawful, Group as GroupAt}
use Rattle.zengin.proofs.Numbered.{number_record, numbered_there}

trailer_states : (x : Bytes) → IsA Trailer x → totals_stated x ≡ Some (totals (count_stated x) (amount_stated x))
trailer_states x is =
    let count = kept_read x trailer_count (is.fields 2 trailer_count refl) in
    let amount = kept_read x trailer_amount (is.fields 3 trailer_amount refl) in
    ap (totals_of x) is.sort ∙ (λ i. both_read totals (count i) (amount i))

header_states : (x : Bytes) → IsA Header x → head_stated x ≡ Some (number_in x biller_code, number_in x transfer_date)
header_states x is =
    let biller = kept_read x biller_code (is.fields 4 biller_code refl) in
    let date = kept_read x transfer_date (is.fields 6 transfer_date refl) in
    ap (head_of x) is.sort ∙ (λ i. both_read head (biller i) (date i))

-- the trailer tells where the header stands, and the header is there
pub group_asks : (b : Bytes) (r s n : ℕ) → GroupAt b s n → r ≡ s + 1 + n + 1 → r * 120 ≤ length b → group_closed_by b r ≡ Some (group_asking b s n)
group_asks b r s n g is few =
    let at : r - 1 ≡ s + 1 + n = omega arith in
    let back : r - 1 - n ≡ s + 1 = omega arith in
    let one : s + 1 - 1 ≡ s = omega arith in
    let trailer = number_record b r (λ z. omega arith) (omega arith) ∙ ap (λ j. Some (record_at b j)) at in
    let header = number_record b (s + 1) (λ z. omega arith) (omega arith) ∙ ap (λ j. Some (record_at b j)) one in
    let stated = trailer_states (record_at b (s + 1 + n)) g.trailer ∙ (λ i. Some (totals (g.count i) (g.amount i))) in
    let opened = header_states (record_at b s) g.opened.header in
    let headed = λ (t : Totals). λ (y : Bytes). and_then (head_stated y) (λ h. Some (group h.0 h.1 t)) in
    let counted = λ (t : Totals). and_then (record_numbered b (r - 1 - t.count)) (headed t) in
    ap (λ o. and_then o (λ x. and_then (totals_stated x) counted)) trailer
    ∙ ap (λ o. and_then o counted) stated
    ∙ ap (λ j. and_then (record_numbered b j) (headed (totals n (amounts b (s + 1) n)))) back
    ∙ ap (λ o. and_then o (headed (totals n (amounts b (s + 1) n)))) header
    ∙ ap (λ o. and_then o (λ h. Some (group h.0 h.1 (totals n (amounts b (s + 1) n))))) opened

-- In a lawful file only the trailer of a group closes one.

-- a group whose trailer is record i, counted from 0
record Closing (b : Bytes) (i : ℕ) : Type 0 where
  header : ℕ
  claims : ℕ
  group_there : GroupAt b header claims
  here : i ≡ header + 1 + claims

not_trailer : {P : Type 0} (x : Bytes) (k : Sort) → (k ≡ Trailer → ⊥) → IsA k x → sort_of (byte_in x 1) ≡ Some Trailer → P
not_trailer x k other is e = let same : k ≡ Trailer = cc is.sort in absurd (other same)

in_group_closing : (b : Bytes) (s n i : ℕ) → GroupAt b s n → s ≤ i → i < s + 1 + n + 1 → sort_of (byte_in (record_at b i) 1) ≡ Some Trailer → Closing b i
in_group_closing b s n i g low high e =
    ⊎_elim
    (λ l. let at : i ≡ s = omega arith in not_trailer (record_at b i) Header header_other (subst (λ j. IsA Header (record_at b j)) (sym at) g.opened.header) e)
    (λ l. ⊎_elim
    (λ m. let at : s + 1 + (i - (s + 1)) ≡ i = omega arith in not_trailer (record_at b i) Data data_other (subst (λ j. IsA Data (record_at b j)) at (g.opened.inner (i - (s + 1)) (omega arith))) e)
    (λ m. record { header = s; claims = n; group_there = g; here = omega arith })
    (cases_lt i (s + 1 + n)))
    (cases_lt i (s + 1))
  where
    header_other : Header ≡ Trailer → ⊥
    header_other q = let z : ◌≡◌ {A = ℕ} 0 1 = cc in omega arith

    data_other : Data ≡ Trailer → ⊥
    data_other q = let z : ◌≡◌ {A = ℕ} 0 1 = cc in omega arith

groups_closing : (b : Bytes) {g count amount r : ℕ} → Groups b g count amount r → (i : ℕ) → i < r → sort_of (byte_in (record_at b i) 1) ≡ Some Trailer → Closing b i
groups_closing b (none no_groups no_count no_amount start) i h e = absurd (omega arith)
groups_closing b (more {s = s} n before g one counted summed next) i h e =
    ⊎_elim (λ l. groups_closing b before i l e) (λ l. in_group_closing b s n i g l (omega arith) e) (cases_lt i s)

lawful_closing : (b : Bytes) → Lawful b → (i : ℕ) → i < length b / 120 → sort_of (byte_in (record_at b i) 1) ≡ Some Trailer → Closing b i
lawful_closing b lawful i h e =
    ⊎_elim
    (λ l. groups_closing b lawful.asking.groups i l e)
    (λ l. let at : lawful.asking.end ≡ i = omega (arith, lawful.asking.whole) in
    not_trailer (record_at b i) End end_other (subst (λ j. IsA End (record_at b j)) at lawful.asking.ended) e)
    (cases_lt i lawful.asking.end)
  where
    end_other : End ≡ Trailer → ⊥
    end_other q = let z : ◌≡◌ {A = ℕ} 0 1 = cc in omega arith

-- an answer has come through each step
record Through {X Y : Type 0} (o : Option X) (go : X → Option Y) (y : Y) : Type 0 where
  by : X
  first_is : o ≡ Some by
  then_is : go by ≡ Some y

through : {X Y : Type 0} (o : Option X) (go : X → Option Y) (y : Y) → and_then o go ≡ Some y → Through o go y
through None go y e = let z : ◌≡◌ {A = ℕ} 0 1 = cc in absurd (omega arith)
through (Some x) go y e = record { by = x; first_is = refl; then_is = e }

totals_trailer : (x : Bytes) (o : Option Sort) (t : Totals) → totals_of x o ≡ Some t → o ≡ Some Trailer
totals_trailer x None t e = let z : ◌≡◌ {A = ℕ} 0 1 = cc in absurd (omega arith)
totals_trailer x (Some Header) t e = let z : ◌≡◌ {A = ℕ} 0 1 = cc in absurd (omega arith)
totals_trailer x (Some Data) t e = let z : ◌≡◌ {A = ℕ} 0 1 = cc in absurd (omega arith)
totals_trailer x (Some Trailer) t e = refl
totals_trailer x (Some End) t e = let z : ◌≡◌ {A = ℕ} 0 1 = cc in absurd (omega arith)

pub group_only : (b : Bytes) (r : ℕ) (g : Group) → Lawful b → group_closed_by b r ≡ Some g → Closes b r g
group_only b r g lawful e =
    let one = through (record_numbered b r) _ g e in
    let there = numbered_there b r one.by (sym one.first_is) in
    let two = through (totals_stated one.by) _ g one.then_is in
    let sort = totals_trailer one.by (sort_of (byte_in one.by 1)) two.by two.first_is in
    let closing = lawful_closing b lawful (r - 1) (omega (arith, there.0, there.1)) (subst (λ y. sort_of (byte_in y 1) ≡ Some Trailer) (sym there.2) sort) in
    let number : r ≡ closing.header + 1 + closing.claims + 1 = omega (arith, there.0, closing.here) in
    let asked = group_asks b r closing.header closing.claims closing.group_there number (omega (arith, there.1)) in
    record { header = closing.header; claims = closing.claims; group_there = closing.group_there; number = number; asks = some_same (sym e ∙ asked) }
  where
    some_same : {g h : Group} → ◌≡◌ {A = Option Group} (Some g) (Some h) → g ≡ h
    some_same q = cc
