-- A record that keeps its rules, and the first of its fields that does not. A record is its 120 bytes; columns count from 1.
use Rattle.std.specs.Prelude.{◌≡◌, ℕ, ◌<◌, ◌≤◌, true, false, Some, None}
use Rattle.denials.specs.declared.Fault.{Fault}
use Rattle.denials.specs.declared.Fault.TheVariants.{OutOfOrder, WrongByte, WrongValue}
use Rattle.records.specs.declared.layouts.Field.{Field}
use Rattle.records.specs.declared.layouts.Sort.{Sort}
use Rattle.records.specs.Layouts.{first, last, class, rule, holds, keeps, sort_of, numbered}
use Rattle.records.specs.Fields.{Bytes, byte_in, number_in}

-- the field's columns before col hold bytes of its class
abbrev pub RightBefore : Bytes → Field → ℕ → Type 0
RightBefore x f col = (c : ℕ) → first f ≤ c → c < col → holds (class f) (byte_in x c) ≡ true

-- each column of the field holds a byte of its class
abbrev pub RightBytes : Bytes → Field → Type 0
RightBytes x f = (c : ℕ) → first f ≤ c → c ≤ last f → holds (class f) (byte_in x c) ≡ true

-- a field is kept: its bytes are right, and its number keeps its rule
pub record Kept (x : Bytes) (f : Field) : Type 0 where
  pub bytes : RightBytes x f
  pub value : keeps (rule f) (number_in x f) ≡ true

-- a record of that sort: its first byte tells the sort, and each of its fields is kept
pub record IsA (k : Sort) (x : Bytes) : Type 0 where
  pub sort : sort_of (byte_in x 1) ≡ Some k
  pub fields : (n : ℕ) (f : Field) → numbered k n ≡ Some f → Kept x f

-- the first fault of a field: a wrong byte, the columns before it right; or a wrong value, all its bytes right
pub data FieldFault (x : Bytes) (f : Field) : Fault → Type 0 where
  wrong_byte : (col : ℕ) → first f ≤ col → col ≤ last f → RightBefore x f col → holds (class f) (byte_in x col) ≡ false → FieldFault x f (WrongByte col)
  wrong_value : RightBytes x f → keeps (rule f) (number_in x f) ≡ false → FieldFault x f (WrongValue (first f))

-- the first fault among the fields of a record of that sort: it is in field n, and the fields before are kept
pub record FirstFieldFault (k : Sort) (x : Bytes) (fault : Fault) : Type 0 where
  pub number : ℕ
  pub field : Field
  pub is : numbered k number ≡ Some field
  pub before : (m : ℕ) (f : Field) → m < number → numbered k m ≡ Some f → Kept x f
  pub here : FieldFault x field fault

-- the first fault of a record by itself
pub data FirstFault (x : Bytes) : Fault → Type 0 where
  of_no_sort : sort_of (byte_in x 1) ≡ None → FirstFault x OutOfOrder
  in_field : {fault : Fault} (k : Sort) → sort_of (byte_in x 1) ≡ Some k → FirstFieldFault k x fault → FirstFault x fault
