-- Files that show the rules, as one list, each with the answer that the rules give it.
use Rattle.std.specs.Prelude.{◌≡◌, ℕ, ◌+◌, ◌-◌, List, [], ◌∷◌, ◌++◌, replicate, codes, slice_set}
use Rattle.std.specs.List.{AllByRecursion}
use Rattle.denials.specs.declared.Denial.{Denial}
use Rattle.denials.specs.declared.Layer.{Layer}
use Rattle.denials.specs.declared.Layer.TheVariants.{Carrier, Order, Record, Totals}
use Rattle.denials.specs.Denials.{told, tells}
use Rattle.records.specs.Fields.{Bytes}
use Rattle.zengin.specs.Lawful.{Lawful}
use Rattle.zengin.specs.Offences.{NamesFirst}

abbrev spaces : ℕ → Bytes
spaces n = replicate n 32

abbrev zeros : ℕ → Bytes
zeros n = replicate n 48

-- The records of a gas company's file: a header, two data records, their trailer and the end record.

abbrev header : Bytes
header = codes "1910" ++ codes "0000000123" ++ codes "GAS" ++ spaces 37 ++ codes "06270001" ++ spaces 15 ++ codes "001" ++ spaces 15 ++ codes "11234567" ++ spaces 17

abbrev data1 : Bytes
data1 = codes "20002" ++ spaces 15 ++ codes "003" ++ spaces 19 ++ codes "10000007" ++ codes "A B" ++ spaces 27 ++ codes "0000001500" ++ codes "0" ++ codes "00000000000000000041" ++ codes "0" ++ spaces 8

abbrev data2 : Bytes
data2 = codes "20002" ++ spaces 15 ++ codes "003" ++ spaces 19 ++ codes "10000008" ++ codes "A B" ++ spaces 27 ++ codes "0000000700" ++ codes "0" ++ codes "00000000000000000042" ++ codes "0" ++ spaces 8

abbrev trailer : Bytes
trailer = codes "8000002000000002200" ++ zeros 36 ++ spaces 65

abbrev end : Bytes
end = codes "9" ++ spaces 119

-- a trailer of a group without data records
abbrev zero_trailer : Bytes
zero_trailer = codes "8" ++ zeros 54 ++ spaces 65

-- a record with other bytes from a column on
abbrev with : Bytes → ℕ → Bytes → Bytes
with x col [] = x
with x col (v ∷ vs) = with (slice_set x (col - 1) v) (col + 1) vs

-- the gas company's file with its header, its first data record or its trailer exchanged
abbrev gas : Bytes → Bytes → Bytes → Bytes
gas h d t = h ++ d ++ data2 ++ t ++ end

-- what the rules answer to a file
pub data Answer : Type 0 where
  lawful : Answer
  denied : ℕ → Layer → ℕ → ℕ → Answer

pub record Marked : Type 0 where
  pub file : Bytes
  pub answer : Answer

abbrev is : Bytes → Answer → Marked
is b a = record { file = b; answer = a }

abbrev pub marked : List Marked
marked =
    is (gas header data1 trailer) lawful ∷
    is (gas header data1 (with trailer 8 (codes "000000002201"))) (denied 17 Totals 4 8) ∷
    is (header ++ zero_trailer ++ end) lawful ∷
    is (header ++ end) (denied 11 Carrier 0 0) ∷
    is (header ++ end ++ end) (denied 13 Order 2 1) ∷
    is (gas (with header 55 (codes "0229")) data1 trailer) lawful ∷
    is (gas (with header 55 (codes "0230")) data1 trailer) (denied 15 Record 1 55) ∷
    is (gas header (with data1 81 (codes "0000000001")) (with trailer 8 (codes "000000000701"))) lawful ∷
    is (gas header (with data1 81 (codes "0000000000")) (with trailer 8 (codes "000000000700"))) (denied 15 Record 2 81) ∷
    is (gas header (with data1 51 (177 ∷ [])) trailer) lawful ∷
    is (gas header (with data1 51 (166 ∷ [])) trailer) (denied 14 Record 2 51) ∷
    is (gas header (with data1 43 (codes "3")) trailer) lawful ∷
    is (gas (with header 96 (codes "3")) data1 trailer) (denied 15 Record 1 96) ∷
    []

-- the file has a first offence, whose denial tells just that
pub record DeniedFor (b : Bytes) (n : ℕ) (layer : Layer) (r col : ℕ) : Type 0 where
  pub denial : Denial
  pub first : NamesFirst b denial
  pub tells_so : told denial ≡ tells n layer r col

-- a file has an answer by the rules
abbrev pub Answered : Bytes → Answer → Type 0
Answered b lawful = Lawful b
Answered b (denied n layer r col) = DeniedFor b n layer r col

-- the rules give each marked file its answer
unfoldable pub MarkedAnswered : Type 0
MarkedAnswered = AllByRecursion (λ m. Answered m.file m.answer) marked
