-- The first offending place of a file: the records before it are a lawful beginning, the earlier tests of its record hold, and this one fails.
-- Records are counted from 0 here, and columns from 1.
use Rattle.std.specs.Prelude.{◌≡◌, ℕ, ◌+◌, ◌*◌, ◌%◌, ◌<◌, ◌≤◌, ◌⊎◌, length, Some, None, ◌≢◌}
use Rattle.denials.specs.declared.Denial.{Denial}
use Rattle.denials.specs.declared.Denial.TheVariants.{BareLength, TooManyRecords, Faulty}
use Rattle.denials.specs.declared.Fault.{Fault}
use Rattle.denials.specs.declared.Fault.TheVariants.{OutOfOrder, WrongCount, WrongAmount}
use Rattle.denials.specs.declared.RecordFault.{RecordFault}
use Rattle.denials.specs.Denials.{told}
use Rattle.records.specs.declared.layouts.Sort.{Sort}
use Rattle.records.specs.declared.layouts.Sort.TheVariants.{Trailer, End}
use Rattle.records.specs.Layouts.{record_bytes, sort_of}
use Rattle.records.specs.Fields.{Bytes, byte_in}
use Rattle.records.specs.Kept.{IsA, FirstFieldFault}
use Rattle.zengin.specs.declared.order.Order.{Order}
use Rattle.zengin.specs.declared.order.Order.TheVariants.{Start, InGroup, AfterTrailer, Ended}
use Rattle.zengin.specs.Files.{least_records, most_records, record_at}
use Rattle.zengin.specs.Judged.{next_order, count_stated, amount_stated}
use Rattle.zengin.specs.Lawful.{amounts, Opened, Groups}

-- a beginning of a file: nothing yet, a group with its header at record s and n data records so far, whole groups, or all of a file
pub data Place : Type 0 where
  at_beginning : Place
  in_group : ℕ → ℕ → Place
  after_trailer : Place
  at_end : Place

abbrev pub order_at : Place → Order
order_at at_beginning = Start
order_at (in_group s n) = InGroup
order_at after_trailer = AfterTrailer
order_at at_end = Ended

-- whole groups before record r, at least one of them
pub record WholeGroups (b : Bytes) (r : ℕ) : Type 0 where
  pub groups : ℕ
  pub count : ℕ
  pub amount : ℕ
  pub some : 1 ≤ groups
  pub inner : Groups b groups count amount r

-- whole groups, and then a group that is open before record r
pub record OpenGroup (b : Bytes) (s n r : ℕ) : Type 0 where
  pub groups : ℕ
  pub count : ℕ
  pub amount : ℕ
  pub inner : Groups b groups count amount s
  pub opened : Opened b s n
  pub here : r ≡ s + 1 + n

-- whole groups, and then an end record right before record r
pub record EndedBefore (b : Bytes) (r : ℕ) : Type 0 where
  pub end : ℕ
  pub inner : WholeGroups b end
  pub ended : IsA End (record_at b end)
  pub here : r ≡ end + 1

-- the records before record r are a lawful beginning
abbrev pub Begun : Bytes → ℕ → Place → Type 0
Begun b r at_beginning = r ≡ 0
Begun b r (in_group s n) = OpenGroup b s n r
Begun b r after_trailer = WholeGroups b r
Begun b r at_end = EndedBefore b r

-- record r is there, and its sort may come here
pub record Admitted (b : Bytes) (r : ℕ) (p : Place) (k : Sort) : Type 0 where
  pub there : r * record_bytes < length b
  pub sort : sort_of (byte_in (record_at b r) 1) ≡ Some k
  pub next : Order
  pub follows : next_order (order_at p) k ≡ Some next

-- the first test that record r fails, after a beginning that stands at p
pub data Offence (b : Bytes) (r : ℕ) (p : Place) : Fault → Type 0 where
  -- the file ends before its end record
  missing : r * record_bytes ≡ length b → (order_at p ≢ Ended) → Offence b r p OutOfOrder
  -- its first byte is of no sort
  of_no_sort : r * record_bytes < length b → sort_of (byte_in (record_at b r) 1) ≡ None → Offence b r p OutOfOrder
  -- its sort may not come here
  out_of_place : r * record_bytes < length b → (k : Sort) → sort_of (byte_in (record_at b r) 1) ≡ Some k → next_order (order_at p) k ≡ None → Offence b r p OutOfOrder
  -- one of its fields is at fault, and the fields and columns before it are right
  in_field : {fault : Fault} (k : Sort) → Admitted b r p k → FirstFieldFault k (record_at b r) fault → Offence b r p fault
  -- a trailer whose fields are right states another count than its group's
  wrong_count : (s n : ℕ) → p ≡ in_group s n → r * record_bytes < length b → IsA Trailer (record_at b r)
      → (count_stated (record_at b r) ≢ n) → Offence b r p WrongCount
  -- it states the right count, and another amount than its group's
  wrong_amount : (s n : ℕ) → p ≡ in_group s n → r * record_bytes < length b → IsA Trailer (record_at b r)
      → count_stated (record_at b r) ≡ n → (amount_stated (record_at b r) ≢ amounts b (s + 1) n) → Offence b r p WrongAmount

-- a fault is the first of its file; its record is counted from 1
pub record FirstOffence (b : Bytes) (f : RecordFault) : Type 0 where
  pub index : ℕ
  pub number : f.«record» ≡ index + 1
  pub place : Place
  pub before : Begun b index place
  pub offence : Offence b index place f.fault

-- the length of a file that has 3 to 10,000 whole records
pub record RightLength (b : Bytes) : Type 0 where
  pub least : least_records * record_bytes ≤ length b
  pub most : length b ≤ most_records * record_bytes
  pub whole : length b % record_bytes ≡ 0

-- a denial names the first offence: the length comes before all records
pub data NamesFirst (b : Bytes) : Denial → Type 0 where
  -- too few bytes, or a part of a record at the end
  wrong_length : (length b < least_records * record_bytes) ⊎ (length b % record_bytes ≢ 0) → NamesFirst b BareLength
  -- too many records
  too_many : length b % record_bytes ≡ 0 → most_records * record_bytes < length b → NamesFirst b TooManyRecords
  -- a record at fault
  in_record : {f : RecordFault} → RightLength b → FirstOffence b f → NamesFirst b (Faulty f)

-- the place of a denial is a record of the largest file or one past it, and a column of a record
pub record Placed (d : Denial) : Type 0 where
  pub by_record : (told d).«record» ≤ most_records + 1
  pub by_column : (told d).column ≤ record_bytes
