-- The layouts of the four records: sorts, classes, rules, and one table of fields for each sort. Columns count from 1.
use Rattle.std.specs.Prelude.{ℕ, ◌+◌, ◌-◌, ◌/◌, ◌%◌, ◌≤◌, Bool, true, cond, ◌&&◌, ◌||◌, List, [], ◌∷◌, length, Some, None, Option, ◌==◌, nat_le, nat_lt, slice_index, slice_index_or}
use Rattle.std.specs.List.{position_from}
use Rattle.records.specs.declared.layouts.Sort.{Sort}
use Rattle.records.specs.declared.layouts.Sort.TheVariants.{Header, Data, Trailer, End}
use Rattle.records.specs.declared.layouts.Class.{Class}
use Rattle.records.specs.declared.layouts.Class.TheVariants.{Number, Character, Filler}
use Rattle.records.specs.declared.layouts.Rule.{Rule}
use Rattle.records.specs.declared.layouts.Rule.TheVariants.{Any, Is, AtMost, NotZero, Date, BillerDeposit, PayerDeposit}
use Rattle.records.specs.declared.layouts.Field.{Field}

-- the length of a record
abbrev pub record_bytes : ℕ
record_bytes = 120

-- the sort that a record's first byte tells: 1, 2, 8 or 9 in digits
abbrev pub sort_of : ℕ → Option Sort
sort_of x = cond (x == 49) (Some Header) (cond (x == 50) (Some Data) (cond (x == 56) (Some Trailer) (cond (x == 57) (Some End) None)))

-- a field from its first to its last column
abbrev pub field : ℕ → ℕ → Class → Rule → Field
field a z c r = record { 0 = a; 1 = z; 2 = c; 3 = r }

abbrev pub first : Field → ℕ
first f = f.0

abbrev pub last : Field → ℕ
last f = f.1

abbrev pub class : Field → Class
class f = f.2

abbrev pub rule : Field → Rule
rule f = f.3

abbrev pub width : Field → ℕ
width f = last f + 1 - first f

-- The fields that are read for what they state.

abbrev pub biller_code : Field
biller_code = field 5 14 Number Any

abbrev pub transfer_date : Field
transfer_date = field 55 58 Number Date

abbrev pub data_amount : Field
data_amount = field 81 90 Number NotZero

abbrev pub trailer_count : Field
trailer_count = field 2 7 Number Any

abbrev pub trailer_amount : Field
trailer_amount = field 8 19 Number Any

-- The layouts.

abbrev pub fields_of : Sort → List Field
fields_of Header =
    field 1 1 Number (Is 1) ∷
    field 2 3 Number (Is 91) ∷
    field 4 4 Number (Is 0) ∷
    biller_code ∷
    field 15 54 Character Any ∷
    transfer_date ∷
    field 59 62 Number Any ∷
    field 63 77 Character Any ∷
    field 78 80 Number Any ∷
    field 81 95 Character Any ∷
    field 96 96 Number BillerDeposit ∷
    field 97 103 Number Any ∷
    field 104 120 Filler Any ∷
    []
fields_of Data =
    field 1 1 Number (Is 2) ∷
    field 2 5 Number Any ∷
    field 6 20 Character Any ∷
    field 21 23 Number Any ∷
    field 24 38 Character Any ∷
    field 39 42 Filler Any ∷
    field 43 43 Number PayerDeposit ∷
    field 44 50 Number Any ∷
    field 51 80 Character Any ∷
    data_amount ∷
    field 91 91 Number (AtMost 2) ∷
    field 92 111 Number Any ∷
    field 112 112 Number (Is 0) ∷
    field 113 120 Filler Any ∷
    []
fields_of Trailer =
    field 1 1 Number (Is 8) ∷
    trailer_count ∷
    trailer_amount ∷
    field 20 25 Number (Is 0) ∷
    field 26 37 Number (Is 0) ∷
    field 38 43 Number (Is 0) ∷
    field 44 55 Number (Is 0) ∷
    field 56 120 Filler Any ∷
    []
fields_of End =
    field 1 1 Number (Is 9) ∷
    field 2 120 Filler Any ∷
    []

-- class N: a digit; class C: a digit, a capital, a kana or voicing mark, or one of five signs; class F: a space
abbrev pub holds : Class → ℕ → Bool
holds Number x = nat_le 48 x && nat_le x 57
holds Character x =
    (nat_le 48 x && nat_le x 57)
    || ((nat_le 65 x && nat_le x 90)
    || ((nat_le 177 x && nat_le x 221)
    || (x == 222
    || (x == 223
    || (x == 32
    || (x == 40
    || (x == 41
    || (x == 45
    || x == 46))))))))
holds Filler x = x == 32

-- the lengths of the twelve months; no year is known, so that February has 29 days
abbrev pub month_days : List ℕ
month_days = 31 ∷ 29 ∷ 31 ∷ 30 ∷ 31 ∷ 30 ∷ 31 ∷ 31 ∷ 30 ∷ 31 ∷ 30 ∷ 31 ∷ []

-- a month and a day of it
abbrev pub is_date : ℕ → ℕ → Bool
is_date month day = (nat_le 1 month && nat_le month 12) && (nat_le 1 day && nat_le day (slice_index month_days (month - 1)))

-- the number in a field keeps its rule
abbrev pub keeps : Rule → ℕ → Bool
keeps Any n = true
keeps (Is k) n = n == k
keeps (AtMost k) n = nat_le n k
keeps NotZero n = nat_lt 0 n
keeps Date n = is_date (n / 100) (n % 100)
keeps BillerDeposit n = n == 1 || (n == 2 || n == 9)
keeps PayerDeposit n = n == 1 || (n == 2 || (n == 3 || n == 9))

-- the field of that number, counted from 1
abbrev pub numbered_in : List Field → ℕ → Option Field
numbered_in fs n = cond (n == 0 || nat_lt (length fs) n) None (Some (slice_index_or fs (n - 1) (field 0 0 Number Any)))

abbrev pub numbered : Sort → ℕ → Option Field
numbered k n = numbered_in (fields_of k) n

-- a field's columns are columns of a record
pub record Inside (f : Field) : Type 0 where
  pub begins : 1 ≤ first f
  pub goes : first f ≤ last f
  pub ends : last f ≤ record_bytes

abbrev pub covers : Field → ℕ → Bool
covers f col = nat_le (first f) col && nat_le col (last f)

-- the number, from n on, of the field that covers a column
abbrev pub covered_by : ℕ → ℕ → List Field → Option ℕ
covered_by col n fs = position_from (λ f. covers f col) n fs

-- each field begins right after the one before, from that column on, and the last one ends at the last column
abbrev pub tiles : ℕ → List Field → Bool
tiles from [] = from == record_bytes + 1
tiles from (f ∷ fs) = first f == from && tiles (last f + 1) fs
