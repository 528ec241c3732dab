-- What a record states, field by field.
use Rattle.std.proofs.Common.{◌≡◌, ℕ, zero, suc, ◌+◌, ◌-◌, ◌^◌, ◌<◌, ◌≤◌, Bool, true, false, cond, eqb, length, Some, None, Ok, Err, Option, sym, refl, ap, ◌∙◌, arith}
use Rattle.denials.specs.declared.Fault.TheVariants.{WrongValue}
use Rattle.records.specs.declared.layouts.Field.{Field}
use Rattle.records.specs.declared.layouts.Sort.{Sort}
use Rattle.records.specs.declared.layouts.Sort.TheVariants.{Header, Data, Trailer, End}
use Rattle.records.specs.Layouts.{first, class, rule, width, keeps, fields_of, numbered}
use Rattle.records.specs.Fields.{Bytes, number, first_wrong_byte, value_in, judged_field, read_if_any}
use Rattle.zengin.specs.declared.totals.Totals.{Totals}
use Rattle.zengin.specs.Judged.{totals, stated, noted}

abbrev value_if_any : Bytes → Option Field → ℕ
value_if_any x (Some f) = value_in x f
value_if_any x None = 0

-- what the first n fields state
abbrev pub stated_to : Bytes → Sort → ℕ → Totals
stated_to x k zero = totals 0 0
stated_to x k (suc n) = noted k (suc n) (value_if_any x (numbered k (suc n))) (stated_to x k n)

-- all fields of a layout
pub stated_all : (x : Bytes) (k : Sort) → stated_to x k (length (fields_of k)) ≡ stated x k
stated_all x Header = refl
stated_all x Data = refl
stated_all x Trailer = refl
stated_all x End = refl

value_kept : (t : Bool) (v w : ℕ) (col : ℕ) → Ok v ≡ cond t (Ok w) (Err (WrongValue col)) → v ≡ w
value_kept true v w col e = cc
value_kept false v w col e = let z : ◌≡◌ {A = ℕ} 0 1 = cc in absurd (omega arith)

value_read : (x : Bytes) (f : Field) (o : Option ℕ) (v : ℕ) → Ok v ≡ judged_field x f o → v ≡ value_in x f
value_read x f (Some col) v e = let z : ◌≡◌ {A = ℕ} 0 1 = cc in absurd (omega arith)
value_read x f None v e = value_kept (keeps (rule f) (number x (first f) (width f))) v (value_in x f) (first f) e

value_is : (x : Bytes) (o : Option Field) (v : ℕ) → Ok v ≡ read_if_any x o → v ≡ value_if_any x o
value_is x None v e = cc
value_is x (Some f) v e = value_read x f (first_wrong_byte (class f) x (first f) (width f)) v e

-- one field more
pub stated_more : (x : Bytes) (k : Sort) (n v : ℕ) (t : Totals) → 1 ≤ n → Ok v ≡ read_if_any x (numbered k n) → t ≡ stated_to x k (n - 1) → noted k n v t ≡ stated_to x k (n + 1 - 1)
stated_more x k n v t h e is =
    let s : n ≡ suc (n - 1) = omega arith in
    let m : n + 1 - 1 ≡ n = omega arith in
    let p = value_is x (numbered k n) v e in
    (λ i. noted k n (p i) (is i)) ∙ ap (λ j. noted k j (value_if_any x (numbered k j)) (stated_to x k (n - 1))) s ∙ ap (stated_to x k) (sym s ∙ sym m)

-- what is stated stays within twelve digits
pub noted_below : (k : Sort) (n v : ℕ) (t : Totals) → v < 10 ^ 12 → t.amount < 10 ^ 12 → (noted k n v t).amount < 10 ^ 12
noted_below Header n v t h l = l
noted_below Data n v t h l = one (eqb n 10)
  where
    one : (b : Bool) → (cond b (totals t.count v) t).amount < 10 ^ 12
    one true = h
    one false = l
noted_below Trailer n v t h l = two (eqb n 2) (eqb n 3)
  where
    two : (a b : Bool) → (cond a (totals v t.amount) (cond b (totals t.count v) t)).amount < 10 ^ 12
    two true b = l
    two false true = h
    two false false = l
noted_below End n v t h l = l
