-- No byte of a lawful file is one of a line end: no class holds one, and the fields of a record are all of its 120 columns.
use Rattle.std.proofs.Common.{◌≡◌, ℕ, ◌+◌, ◌-◌, ◌*◌, ◌/◌, ◌%◌, ◌<◌, ◌≤◌, true, false, eqb, length, get_or, drop, sym, refl, ap, ◌∙◌, subst, ⊎_elim, arith}
use Rattle.std.proofs.ByRecursion.{All-from_get_or}
use Rattle.std.proofs.lemmas.List.{get_or-drop, get_or-take}
use Rattle.std.proofs.lemmas.Bool.{both_ways, cases_lt, cases_order, ne_eqb, or_from}
use Rattle.records.specs.declared.layouts.Class.{Class}
use Rattle.records.specs.declared.layouts.Class.TheVariants.{Number, Character, Filler}
use Rattle.records.specs.declared.layouts.Sort.{Sort}
use Rattle.records.specs.declared.layouts.Sort.TheVariants.{Header, Data, Trailer, End}
use Rattle.records.specs.Layouts.{holds}
use Rattle.records.specs.Fields.{Bytes, byte_in}
use Rattle.records.specs.Kept.{IsA}
use Rattle.records.proofs.Tiles.{column_classed}
use Rattle.zengin.specs.Files.{record_at}
use Rattle.zengin.specs.Lawful.{Group, Groups, none, more, Lawful}
use Rattle.carrier.specs.Carrier.{is_line_end, Plain}

-- no class holds a byte of a line end
none_held : (c : Class) → (holds c 13 ≡ false) × (holds c 10 ≡ false)
none_held Number = (refl, refl)
none_held Character = (refl, refl)
none_held Filler = (refl, refl)

class_plain : (c : Class) (x : ℕ) → holds c x ≡ true → is_line_end x ≡ false
class_plain c x held =
    or_from (eqb x 13) (eqb x 10)
    (ne_eqb x 13 (λ e. both_ways (holds c 13) (none_held c).0 (subst (λ y. holds c y ≡ true) e held)))
    (ne_eqb x 10 (λ e. both_ways (holds c 10) (none_held c).1 (subst (λ y. holds c y ≡ true) e held)))

record_plain : (k : Sort) (x : Bytes) → IsA k x → (col : ℕ) → 1 ≤ col → col ≤ 120 → is_line_end (byte_in x col) ≡ false
record_plain k x is col low high =
    let p = column_classed k x is col low high in
    class_plain p.class_of (byte_in x col) p.held

-- a record of one of the four sorts
record OfASort (x : Bytes) : Type 0 where
  sort : Sort
  is : IsA sort x

-- every record of a group, of some groups, and of a lawful file has a sort
group_sorts : (b : Bytes) (s n i : ℕ) → Group b s n → s ≤ i → i < s + 1 + n + 1 → OfASort (record_at b i)
group_sorts b s n i group low high = ⊎_elim at_header (λ h. ⊎_elim (λ l. absurd (omega arith)) past_header h) (cases_order i s)
  where
    at_header : i ≡ s → OfASort (record_at b i)
    at_header e = record { sort = Header; is = subst (λ j. IsA Header (record_at b j)) (sym e) group.opened.header }

    past_header : s < i → OfASort (record_at b i)
    past_header h = ⊎_elim inside at_trailer (cases_lt i (s + 1 + n))
      where
        inside : i < s + 1 + n → OfASort (record_at b i)
        inside l =
            let e : s + 1 + (i - (s + 1)) ≡ i = omega arith in
            record { sort = Data; is = subst (λ j. IsA Data (record_at b j)) e (group.opened.inner (i - (s + 1)) (omega arith)) }

        at_trailer : s + 1 + n ≤ i → OfASort (record_at b i)
        at_trailer l =
            let e : s + 1 + n ≡ i = omega arith in
            record { sort = Trailer; is = subst (λ j. IsA Trailer (record_at b j)) e group.trailer }

groups_sorts : (b : Bytes) (g count amount r : ℕ) → Groups b g count amount r → (i : ℕ) → i < r → OfASort (record_at b i)
groups_sorts b g count amount r (none no_groups no_count no_amount start) i h = absurd (omega arith)
groups_sorts b g count amount r (more {g' = g'} {count' = count'} {amount' = amount'} {s = s} n before group one counted summed next) i h =
    ⊎_elim (groups_sorts b g' count' amount' s before i) (λ l. group_sorts b s n i group l (omega arith)) (cases_lt i s)

lawful_sorts : (b : Bytes) → Lawful b → (i : ℕ) → i < length b / 120 → OfASort (record_at b i)
lawful_sorts b lawful i h = ⊎_elim (groups_sorts b _ _ _ lawful.asking.end lawful.asking.groups i) at_end (cases_lt i lawful.asking.end)
  where
    at_end : lawful.asking.end ≤ i → OfASort (record_at b i)
    at_end l =
        let e : lawful.asking.end ≡ i = omega (arith, lawful.asking.whole) in
        record { sort = End; is = subst (λ j. IsA End (record_at b j)) e lawful.asking.ended }

-- a byte of a file by its record and its column
byte_at : (b : Bytes) (k : ℕ) → byte_in (record_at b (k / 120)) (k % 120 + 1) ≡ get_or b k 0
byte_at b k =
    ap (λ j. get_or (record_at b (k / 120)) j 0) (omega arith) ∙ get_or-take 120 (drop (k / 120 * 120) b) (k % 120) 0 (omega arith)
    ∙ get_or-drop (k / 120 * 120) b (k % 120) 0 ∙ ap (λ j. get_or b j 0) (omega arith)

pub lawful_plain : (b : Bytes) → Lawful b → Plain b
lawful_plain b lawful =
    All-from_get_or (λ x. is_line_end x ≡ false) b 0 (λ k h.
    let whole = lawful.asking.whole in
    let here = lawful_sorts b lawful (k / 120) (omega arith) in
    subst (λ x. is_line_end x ≡ false) (byte_at b k) (record_plain here.sort (record_at b (k / 120)) here.is (k % 120 + 1) (omega arith) (omega arith)))
