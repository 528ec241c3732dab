-- Every row of the four layouts is sound, by one test that is computed over each table.
use Rattle.std.proofs.Common.{◌≡◌, ℕ, zero, suc, ◌+◌, ◌-◌, ◌<◌, ◌≤◌, Bool, true, false, cond, ◌&&◌, ◌||◌, eqb, ltb, leb, List, [], ◌∷◌, length, get_or, Some, None, Option, IfSome, sym, refl, ap, ◌∙◌, subst, arith}
use Rattle.std.proofs.lemmas.Bool.{and_parts, leb-true, le-ltb, ltb-false, ne_eqb, eqb-false}
use Rattle.records.specs.declared.layouts.Sort.{Sort}
use Rattle.records.specs.declared.layouts.Sort.TheVariants.{Header, Data, Trailer, End}
use Rattle.records.specs.declared.layouts.Class.TheVariants.{Number}
use Rattle.records.specs.declared.layouts.Rule.TheVariants.{Any}
use Rattle.records.specs.declared.layouts.Field.{Field}
use Rattle.records.specs.Layouts.{field, first, last, fields_of, numbered, numbered_in, Inside}
use Rattle.records.specs.Fields.{is_sound}

abbrev all_sound : List Field → Bool
all_sound [] = true
all_sound (f ∷ fs) = is_sound f && all_sound fs

tables_sound : (k : Sort) → all_sound (fields_of k) ≡ true
tables_sound Header = refl
tables_sound Data = refl
tables_sound Trailer = refl
tables_sound End = refl

each_sound : (fs : List Field) → all_sound fs ≡ true → (i : ℕ) (d : Field) → i < length fs → is_sound (get_or fs i d) ≡ true
each_sound [] e i d h = absurd (omega arith)
each_sound (f ∷ fs) e zero d h = (and_parts (is_sound f) (all_sound fs) e).0
each_sound (f ∷ fs) e (suc i) d h = each_sound fs (and_parts (is_sound f) (all_sound fs) e).1 i d (omega arith)

pub sound_inside : (f : Field) → is_sound f ≡ true → Inside f
sound_inside f e =
    let p = and_parts (leb 1 (first f)) _ e in
    let q = and_parts (leb (first f) (last f)) _ p.1 in
    let r = and_parts (leb (last f) 120) _ q.1 in
    record { begins = leb-true _ _ p.0; goes = leb-true _ _ q.0; ends = leb-true _ _ r.0 }

-- the row of that number, by the two tests
tested_row : (fs : List Field) (n : ℕ) (a b : Bool) → eqb n 0 ≡ a → ltb (length fs) n ≡ b → numbered_in fs n ≡ cond (a || b) None (Some (get_or fs (n - 1) (field 0 0 Number Any)))
tested_row fs n a b p q = λ i. cond (p i || q i) None (Some (get_or fs (n - 1) (field 0 0 Number Any)))

pub row_numbered : (fs : List Field) (i : ℕ) → i < length fs → numbered_in fs (i + 1) ≡ Some (get_or fs i (field 0 0 Number Any))
row_numbered fs i h =
    let e : i + 1 - 1 ≡ i = omega arith in
    tested_row fs (i + 1) false false (ne_eqb (i + 1) 0 (λ z. omega arith)) (le-ltb (length fs) (i + 1) (omega arith))
    ∙ ap (λ j. Some (get_or fs j (field 0 0 Number Any))) e

-- a numbered field is the row of that number
row_tested : (fs : List Field) (n : ℕ) (f : Field) (a b : Bool) → eqb n 0 ≡ a → ltb (length fs) n ≡ b → cond (a || b) None (Some (get_or fs (n - 1) (field 0 0 Number Any))) ≡ Some f → (1 ≤ n) × (n ≤ length fs) × (f ≡ get_or fs (n - 1) (field 0 0 Number Any))
row_tested fs n f true b p q e = let z : ◌≡◌ {A = ℕ} 0 1 = cc in absurd (omega arith)
row_tested fs n f false true p q e = let z : ◌≡◌ {A = ℕ} 0 1 = cc in absurd (omega arith)
row_tested fs n f false false p q e = (omega (arith, eqb-false n 0 p), omega (arith, ltb-false (length fs) n q), cc)

pub numbered_row : (fs : List Field) (n : ℕ) (f : Field) → numbered_in fs n ≡ Some f → (1 ≤ n) × (n ≤ length fs) × (f ≡ get_or fs (n - 1) (field 0 0 Number Any))
numbered_row fs n f e = row_tested fs n f (eqb n 0) (ltb (length fs) n) refl refl e

pub row_inside : (k : Sort) (i : ℕ) → i < length (fields_of k) → Inside (get_or (fields_of k) i (field 0 0 Number Any))
row_inside k i h = sound_inside (get_or (fields_of k) i (field 0 0 Number Any)) (each_sound (fields_of k) (tables_sound k) i (field 0 0 Number Any) h)

pub numbered_sound : (k : Sort) (n : ℕ) (f : Field) → numbered k n ≡ Some f → is_sound f ≡ true
numbered_sound k n f e =
    let p = numbered_row (fields_of k) n f e in
    subst (λ g. is_sound g ≡ true) (sym p.2) (each_sound (fields_of k) (tables_sound k) (n - 1) (field 0 0 Number Any) (omega (arith, p.0, p.1)))

pub numbered_inside : (k : Sort) (n : ℕ) (o : Option Field) → o ≡ numbered k n → IfSome o Inside
numbered_inside k n None e = tt
numbered_inside k n (Some f) e = sound_inside f (numbered_sound k n f (sym e))
