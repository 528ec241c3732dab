-- A lawful file: groups of a header, data records and a trailer, and then one end record.
-- Records are counted from 0 here, and columns from 1.
use Rattle.std.specs.Prelude.{◌≡◌, ℕ, zero, suc, ◌+◌, ◌*◌, ◌<◌, ◌≤◌, length}
use Rattle.records.specs.declared.layouts.Sort.TheVariants.{Header, Data, Trailer, End}
use Rattle.records.specs.Layouts.{record_bytes}
use Rattle.records.specs.Fields.{Bytes}
use Rattle.records.specs.Kept.{IsA}
use Rattle.zengin.specs.declared.totals.Figures.{Figures}
use Rattle.zengin.specs.Files.{least_records, most_records, record_at}
use Rattle.zengin.specs.Judged.{amount_of, count_stated, amount_stated}

-- the sum of the amounts of n data records from record r on
abbrev pub amounts : Bytes → ℕ → ℕ → ℕ
amounts b r zero = 0
amounts b r (suc n) = amounts b r n + amount_of (record_at b (r + n))

-- a header at record s and n data records after it
pub record Opened (b : Bytes) (s n : ℕ) : Type 0 where
  pub header : IsA Header (record_at b s)
  pub inner : (i : ℕ) → i < n → IsA Data (record_at b (s + 1 + i))

-- a group: then comes a trailer, which states how many they are and what they sum up to
pub record Group (b : Bytes) (s n : ℕ) : Type 0 where
  pub opened : Opened b s n
  pub trailer : IsA Trailer (record_at b (s + 1 + n))
  pub count : count_stated (record_at b (s + 1 + n)) ≡ n
  pub amount : amount_stated (record_at b (s + 1 + n)) ≡ amounts b (s + 1) n

-- the records before record r are g whole groups, with count data records that sum up to amount
pub data Groups (b : Bytes) : ℕ → ℕ → ℕ → ℕ → Type 0 where
  none : {g count amount r : ℕ} → g ≡ 0 → count ≡ 0 → amount ≡ 0 → r ≡ 0 → Groups b g count amount r
  more : {g count amount r g' count' amount' s : ℕ} (n : ℕ)
      → Groups b g' count' amount' s → Group b s n
      → g ≡ g' + 1 → count ≡ count' + n → amount ≡ amount' + amounts b (s + 1) n → r ≡ s + 1 + n + 1
      → Groups b g count amount r

-- groups, at least one, and then the end record, which is the last of 3 to 10,000 records; the file asks for the sums over its groups
pub record LawfulAsking (b : Bytes) (figures : Figures) : Type 0 where
  pub end : ℕ
  pub whole : length b ≡ (end + 1) * record_bytes
  pub least : least_records ≤ end + 1
  pub most : end + 1 ≤ most_records
  pub some : 1 ≤ figures.groups
  pub groups : Groups b figures.groups figures.requested.count figures.requested.amount end
  pub ended : IsA End (record_at b end)

-- a lawful file
pub record Lawful (b : Bytes) : Type 0 where
  pub figures : Figures
  pub asking : LawfulAsking b figures
