-- One field of one record, and one record by itself. A record is its 120 bytes; columns count from 1.
use Rattle.std.specs.Prelude.{ℕ, zero, suc, ◌+◌, ◌-◌, ◌*◌, Bool, true, false, cond, not, ◌&&◌, ◌||◌, List, [], ◌∷◌, Some, None, Ok, Err, Option, Result, nat_le, slice_index, fold}
use Rattle.std.specs.List.{position_from}
use Rattle.denials.specs.declared.Fault.{Fault}
use Rattle.denials.specs.declared.Fault.TheVariants.{OutOfOrder, WrongByte, WrongValue}
use Rattle.records.specs.declared.layouts.Sort.{Sort}
use Rattle.records.specs.declared.layouts.Class.{Class}
use Rattle.records.specs.declared.layouts.Class.TheVariants.{Number, Character, Filler}
use Rattle.records.specs.declared.layouts.Field.{Field}
use Rattle.records.specs.declared.layouts.Rule.{Rule}
use Rattle.records.specs.declared.layouts.Rule.TheVariants.{Any, Is, AtMost, NotZero, Date, BillerDeposit, PayerDeposit}
use Rattle.records.specs.Layouts.{first, last, class, rule, width, holds, keeps, sort_of, fields_of}

abbrev pub Bytes : Type 0
Bytes = List ℕ

-- the byte in a column
abbrev pub byte_in : Bytes → ℕ → ℕ
byte_in x col = slice_index x (col - 1)

-- the first of n columns from col whose byte is not of the class
unfoldable pub first_wrong_byte : Class → Bytes → ℕ → ℕ → Option ℕ
first_wrong_byte c x col zero = None
first_wrong_byte c x col (suc n) = cond (holds c (byte_in x col)) (first_wrong_byte c x (col + 1) n) (Some col)

-- the decimal number in n columns from col
unfoldable pub number : Bytes → ℕ → ℕ → ℕ
number x col zero = 0
number x col (suc n) = number x col n * 10 + (byte_in x (col + n) - 48)

-- the column of the first byte that is not of the class, where the first stands in column col
abbrev pub wrong_from : Class → ℕ → Bytes → Option ℕ
wrong_from c col bs = position_from (λ b. not (holds c b)) col bs

-- the number that digits spell after those of n
abbrev pub spelled : ℕ → Bytes → ℕ
spelled n bs = fold (λ m b. m * 10 + (b - 48)) n bs

-- the number in a field
abbrev pub number_in : Bytes → Field → ℕ
number_in x f = number x (first f) (width f)

abbrev pub is_number : Class → Bool
is_number Number = true
is_number Character = false
is_number Filler = false

-- a field that is read as one number: of digits, and not as long as a customer number
abbrev pub is_read : Field → Bool
is_read f = is_number (class f) && nat_le (width f) 12

-- a field whose rule is on its number
abbrev pub has_rule : Rule → Bool
has_rule Any = false
has_rule (Is k) = true
has_rule (AtMost k) = true
has_rule NotZero = true
has_rule Date = true
has_rule BillerDeposit = true
has_rule PayerDeposit = true

-- a row that a layout may have: its columns are a record's, and a field with a rule is read as one number
abbrev pub is_sound : Field → Bool
is_sound f = nat_le 1 (first f) && (nat_le (first f) (last f) && (nat_le (last f) 120 && (is_read f || not (has_rule (rule f)))))

-- the number in a field that is read as one
abbrev pub value_in : Bytes → Field → ℕ
value_in x f = cond (is_read f) (number_in x f) 0

-- a field's bytes come before its number
abbrev pub judged_bytes : {X : Type 0} → Option ℕ → X → Result X Fault
judged_bytes (Some col) v = Err (WrongByte col)
judged_bytes None v = Ok v

abbrev pub judged_field : Bytes → Field → Option ℕ → Result ℕ Fault
judged_field x f (Some col) = Err (WrongByte col)
judged_field x f None = cond (keeps (rule f) (number_in x f)) (Ok (value_in x f)) (Err (WrongValue (first f)))

-- the field's number, or its fault: a wrong byte before a wrong value
abbrev pub read_field : Bytes → Field → Result ℕ Fault
read_field x f = judged_field x f (first_wrong_byte (class f) x (first f) (width f))

-- the same of the field of that number; where there is none, there is nothing wrong
abbrev pub read_if_any : Bytes → Option Field → Result ℕ Fault
read_if_any x (Some f) = read_field x f
read_if_any x None = Ok 0

-- the second test, if the first finds nothing
abbrev pub unless_fault : {X Y : Type 0} → Result X Fault → Result Y Fault → Result Y Fault
unless_fault (Err f) r = Err f
unless_fault (Ok v) r = r

-- the first fault of some fields, from left to right
abbrev pub test_fields : Bytes → List Field → Result (Unit {0}) Fault
test_fields x [] = Ok tt
test_fields x (f ∷ fs) = unless_fault (read_field x f) (test_fields x fs)

-- the first fault of a record of that sort
abbrev pub tested_as : Bytes → Option Sort → Result Sort Fault
tested_as x None = Err OutOfOrder
tested_as x (Some k) = unless_fault (test_fields x (fields_of k)) (Ok k)

-- the sort of a record by itself, or its first fault
abbrev pub test_record : Bytes → Result Sort Fault
test_record x = tested_as x (sort_of (byte_in x 1))
