-- The fields of a record one by one, by their numbers.
use Rattle.std.proofs.Common.{◌≡◌, ℕ, ◌+◌, ◌-◌, ◌<◌, ◌≤◌, length, get_or, drop, Some, Ok, Err, Result, sym, ap, ◌∙◌, arith}
use Rattle.std.proofs.lemmas.List.{at_drop_more, at_drop_all}
use Rattle.denials.specs.declared.Fault.{Fault}
use Rattle.records.specs.declared.layouts.Class.TheVariants.{Number}
use Rattle.records.specs.declared.layouts.Rule.TheVariants.{Any}
use Rattle.records.specs.declared.layouts.Sort.{Sort}
use Rattle.records.specs.Layouts.{field, fields_of, numbered, sort_of}
use Rattle.records.specs.Fields.{Bytes, byte_in, read_if_any, unless_fault, test_fields, tested_as, test_record}
use Rattle.records.proofs.Rows.{row_numbered}

-- a field that the sort has
module _ (x : Bytes) (k : Sort) (n : ℕ) (from : 1 ≤ n) (to : n ≤ length (fields_of k)) where
  row : numbered k n ≡ Some (get_or (fields_of k) (n - 1) (field 0 0 Number Any))
  row =
      let e : n ≡ n - 1 + 1 = omega arith in
      ap (numbered k) e ∙ row_numbered (fields_of k) (n - 1) (omega arith)

  next : {r : Result ℕ Fault} → r ≡ read_if_any x (numbered k n) → test_fields x (drop (n - 1) (fields_of k)) ≡ unless_fault r (test_fields x (drop (n - 1 + 1) (fields_of k)))
  next e =
      at_drop_more (test_fields x) (fields_of k) (n - 1) (field 0 0 Number Any) (omega arith)
      ∙ ap (λ r. unless_fault r (test_fields x (drop (n - 1 + 1) (fields_of k)))) (sym (e ∙ ap (read_if_any x) row))

  pub field_right : {v : ℕ} → Ok v ≡ read_if_any x (numbered k n) → test_fields x (drop (n + 1 - 1) (fields_of k)) ≡ test_fields x (drop (n - 1) (fields_of k))
  field_right e =
      let s : n + 1 - 1 ≡ n - 1 + 1 = omega arith in
      ap (λ i. test_fields x (drop i (fields_of k))) s ∙ sym (next e)

  pub field_wrong : {f : Fault} → Err f ≡ read_if_any x (numbered k n) → test_fields x (drop (n - 1) (fields_of k)) ≡ Err f
  field_wrong e = next e

pub fields_end : (x : Bytes) (k : Sort) (n : ℕ) → length (fields_of k) < n → test_fields x (drop (n - 1) (fields_of k)) ≡ Ok tt
fields_end x k n h = at_drop_all (test_fields x) (fields_of k) (n - 1) (omega arith)

-- a record of a known sort is judged by its fields
pub record_is : (x : Bytes) (k : Sort) (r : Result (Unit {0}) Fault) → sort_of (byte_in x 1) ≡ Some k → test_fields x (fields_of k) ≡ r → test_record x ≡ unless_fault r (Ok k)
record_is x k r is e = ap (tested_as x) is ∙ ap (λ t. unless_fault t (Ok k)) e
