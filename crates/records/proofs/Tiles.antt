-- The fields of a record tile its 120 columns, by one test that is computed over each table.
use Rattle.std.proofs.Common.{◌≡◌, ℕ, zero, suc, ◌+◌, ◌<◌, ◌≤◌, Bool, true, false, cond, eqb, leb, List, [], ◌∷◌, length, get_or, is_some, Some, refl, ap, ⊎_elim, arith}
use Rattle.std.proofs.lemmas.Bool.{and_parts, and_from, eqb-true, le-leb, cases_lt}
use Rattle.records.specs.declared.layouts.Class.{Class}
use Rattle.records.specs.declared.layouts.Class.TheVariants.{Number}
use Rattle.records.specs.declared.layouts.Rule.TheVariants.{Any}
use Rattle.records.specs.declared.layouts.Field.{Field}
use Rattle.records.specs.declared.layouts.Sort.{Sort}
use Rattle.records.specs.declared.layouts.Sort.TheVariants.{Header, Data, Trailer, End}
use Rattle.records.specs.Layouts.{field, first, last, class, holds, fields_of, covers, covered_by, tiles}
use Rattle.records.specs.Fields.{Bytes, byte_in}
use Rattle.records.specs.Kept.{IsA}
use Rattle.records.proofs.Rows.{row_numbered}

pub tables_tile : (k : Sort) → tiles 1 (fields_of k) ≡ true
tables_tile Header = refl
tables_tile Data = refl
tables_tile Trailer = refl
tables_tile End = refl

abbrev row : List Field → ℕ → Field
row fs i = get_or fs i (field 0 0 Number Any)

-- the row of the field that a column belongs to
record Covered (fs : List Field) (col : ℕ) : Type 0 where
  index : ℕ
  there : index < length fs
  begins : first (row fs index) ≤ col
  ends : col ≤ last (row fs index)

tile_covers : (fs : List Field) (from col : ℕ) → tiles from fs ≡ true → from ≤ col → col ≤ 120 → Covered fs col
tile_covers [] from col t low high = absurd (omega (arith, eqb-true from 121 t))
tile_covers (f ∷ fs) from col t low high =
    let parts = and_parts (eqb (first f) from) (tiles (last f + 1) fs) t in
    let start : first f ≡ from = eqb-true (first f) from parts.0 in
    ⊎_elim
    (λ h. let p = tile_covers fs (last f + 1) col parts.1 (omega arith) high in
    record { index = suc p.index; there = omega (arith, p.there); begins = p.begins; ends = p.ends })
    (λ h. record { index = 0; there = omega arith; begins = omega arith; ends = h })
    (cases_lt (last f) col)

-- the search for a column's field ends at the first row that covers it, or goes on
found_later : (t : Bool) (col n : ℕ) (fs : List Field) → is_some (covered_by col (n + 1) fs) ≡ true → is_some (cond t (Some n) (covered_by col (n + 1) fs)) ≡ true
found_later true col n fs later = refl
found_later false col n fs later = later

found : (fs : List Field) (col n i : ℕ) → i < length fs → covers (row fs i) col ≡ true → is_some (covered_by col n fs) ≡ true
found [] col n i h c = absurd (omega arith)
found (f ∷ fs) col n zero h c = ap (λ (t : Bool). is_some (cond t (Some n) (covered_by col (n + 1) fs))) c
found (f ∷ fs) col n (suc i) h c = found_later (covers f col) col n fs (found fs col (n + 1) i (omega arith) c)

pub column_covered : (k : Sort) (col : ℕ) → 1 ≤ col → col ≤ 120 → is_some (covered_by col 1 (fields_of k)) ≡ true
column_covered k col low high =
    let p = tile_covers (fields_of k) 1 col (tables_tile k) low high in
    found (fields_of k) col 1 p.index p.there
    (and_from (leb (first (row (fields_of k) p.index)) col) (leb col (last (row (fields_of k) p.index))) (le-leb _ _ p.begins) (le-leb _ _ p.ends))

-- each column of a record holds a byte of some class
pub record Classed (b : ℕ) : Type 0 where
  pub class_of : Class
  pub held : holds class_of b ≡ true

pub column_classed : (k : Sort) (x : Bytes) → IsA k x → (col : ℕ) → 1 ≤ col → col ≤ 120 → Classed (byte_in x col)
column_classed k x is col low high =
    let p = tile_covers (fields_of k) 1 col (tables_tile k) low high in
    let kept = is.fields (p.index + 1) (row (fields_of k) p.index) (row_numbered (fields_of k) p.index p.there) in
    record { class_of = class (row (fields_of k) p.index); held = kept.bytes col p.begins p.ends }
