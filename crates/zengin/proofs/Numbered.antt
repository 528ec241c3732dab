-- Records and fields of a file by their numbers, which count from 1.
use Rattle.std.proofs.Common.{◌≡◌, ℕ, ◌+◌, ◌-◌, ◌*◌, ◌/◌, ◌%◌, ◌<◌, ◌≤◌, Bool, true, false, cond, not, ◌||◌, eqb, ltb, List, [], length, get_or, take, drop, Some, None, Option, MatchOption, unwrap_or, option_map, sym, refl, ap, ◌∙◌, arith}
use Rattle.std.proofs.lemmas.Bool.{ne_eqb, le-ltb, lt-ltb, eqb-false, ltb-false}
use Rattle.std.proofs.lemmas.List.{take-take, drop-take, drop-drop, get_or-take, get_or-drop}
use Rattle.records.specs.declared.layouts.Field.{Field}
use Rattle.records.specs.declared.layouts.Sort.{Sort}
use Rattle.records.specs.Layouts.{first, width, sort_of, numbered, Inside}
use Rattle.records.specs.Fields.{Bytes}
use Rattle.zengin.specs.Files.{records_of, record_at}
use Rattle.zengin.specs.Shown.{record_numbered, ShownField, cut, of_sort, field_shown}
use Rattle.zengin.proofs.Walks.{record_item}

pub number_record : (b : Bytes) (r : ℕ) → (r ≡ 0 → ⊥) → r ≤ length b / 120 → record_numbered b r ≡ Some (record_at b (r - 1))
number_record b r some few = λ i. cond (ne_eqb r 0 some i || le-ltb (length b / 120) r few i) None (Some (record_at b (r - 1)))

pub record_numbered_lem : (b : Bytes) (rs : List Bytes) (r : ℕ) → rs ≡ records_of b → (r ≡ 0 → ⊥) → r ≤ length b / 120 → Some (get_or rs (r - 1) []) ≡ record_numbered b r
record_numbered_lem b rs r e some few = ap Some (record_item b rs (r - 1) e (omega (arith, some))) ∙ sym (number_record b r some few)

number_past : (b : Bytes) (r : ℕ) → (r ≡ 0 → ⊥) → length b / 120 < r → record_numbered b r ≡ None
number_past b r some many = λ i. cond (ne_eqb r 0 some i || lt-ltb (length b / 120) r many i) None (Some (record_at b (r - 1)))

-- what a look at place i of the records gives
pub record_looked_up : {R : Type 0} (P : R → Type 0) (now : R → Bytes) (o : Option R) (b : Bytes) (rs : List Bytes) (r i : ℕ) → rs ≡ records_of b → length rs ≡ length b / 120 → (1 ≤ r) × (i ≡ r - 1)
    → MatchOption o (length rs ≤ i) (λ x. (i < length rs) × P x) → ((d : Bytes) → unwrap_or (option_map now o) d ≡ get_or rs i d) → option_map now o ≡ record_numbered b r
record_looked_up P now None b rs r i is long at past item = sym (number_past b r (λ z. omega (arith, at.0)) (omega (arith, at.0, at.1, past)))
record_looked_up P now (Some x) b rs r i is long at here item =
    ap Some (item [] ∙ ap (λ k. get_or rs k []) at.1) ∙ record_numbered_lem b rs r is (λ z. omega (arith, at.0)) (omega (arith, at.0, at.1, here.0))

there_tested : (b : Bytes) (r : ℕ) (x : Bytes) (p q : Bool) → eqb r 0 ≡ p → ltb (length b / 120) r ≡ q → cond (p || q) None (Some (record_at b (r - 1))) ≡ Some x → (1 ≤ r) × (r ≤ length b / 120) × (record_at b (r - 1) ≡ x)
there_tested b r x true q c d e = let z : ◌≡◌ {A = ℕ} 0 1 = cc in absurd (omega arith)
there_tested b r x false true c d e = let z : ◌≡◌ {A = ℕ} 0 1 = cc in absurd (omega arith)
there_tested b r x false false c d e = (omega (arith, eqb-false r 0 c), ltb-false (length b / 120) r d, cc)

pub numbered_there : (b : Bytes) (r : ℕ) (x : Bytes) → Some x ≡ record_numbered b r → (1 ≤ r) × (r ≤ length b / 120) × (record_at b (r - 1) ≡ x)
numbered_there b r x e = there_tested b r x (eqb r 0) (ltb (length b / 120) r) refl refl (sym e)

-- a part of a record is a part of its file
part_of_record : (b : Bytes) (k from n : ℕ) → from + n ≤ 120 → take n (drop from (take 120 (drop k b))) ≡ take n (drop (k + from) b)
part_of_record b k from n h =
    let e : 120 ≡ from + (120 - from) = omega arith in
    ap (λ m. take n (drop from (take m (drop k b)))) e
    ∙ ap (take n) (drop-take from (120 - from) (drop k b))
    ∙ take-take n (120 - from) (drop from (drop k b)) (omega arith)
    ∙ ap (take n) (drop-drop from k b)

module _ (b : Bytes) (r n : ℕ) (x : Bytes) (whole : length b % 120 ≡ 0) (there : Some x ≡ record_numbered b r) where
  first_byte : get_or x 0 0 ≡ get_or b ((r - 1) * 120) 0
  first_byte =
      let z : (r - 1) * 120 + 0 ≡ (r - 1) * 120 = omega arith in
      ap (λ (y : Bytes). get_or y 0 0) (sym (numbered_there b r x there).2)
      ∙ get_or-take 120 (drop ((r - 1) * 120) b) 0 0 (omega arith)
      ∙ get_or-drop ((r - 1) * 120) b 0 0
      ∙ ap (λ k. get_or b k 0) z

  -- a record that is there is shown by its sort
  pub shown_by_sort : field_shown b r n ≡ of_sort b r n (sort_of (get_or x 0 0))
  shown_by_sort =
      let p = numbered_there b r x there in
      let rest = of_sort b r n (sort_of (get_or b ((r - 1) * 120) 0)) in
      (λ i. cond (not (eqb (whole i) 0) || (ne_eqb r 0 (λ z. omega (arith, p.0)) i || le-ltb (length b / 120) r p.1 i)) None rest)
      ∙ ap (λ y. of_sort b r n (sort_of y)) (sym first_byte)

  -- the part of a record that begins and is as long as a field of its sort is that field shown
  pub shown_field_lem : (k : Sort) (f : Field) (from wide : ℕ) → Some k ≡ sort_of (get_or x 0 0) → Some f ≡ numbered k n → Inside f → from ≡ first f - 1 → wide ≡ width f → ◌≡◌ {A = Option ShownField} (Some (take wide (drop from x), r, first f)) (field_shown b r n)
  shown_field_lem k f from wide sort is inside begins goes =
      let p = numbered_there b r x there in
      (λ i. Some (take (goes i) (drop (begins i) (sym p.2 i)), r, first f))
      ∙ ap (λ (y : Bytes). Some (y, r, first f)) (part_of_record b ((r - 1) * 120) (first f - 1) (width f) (omega (arith, inside.begins, inside.goes, inside.ends)))
      ∙ ap (λ o. cut b r o) is
      ∙ ap (λ o. of_sort b r n o) sort
      ∙ sym shown_by_sort
