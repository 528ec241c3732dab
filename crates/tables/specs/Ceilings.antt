-- Ceilings: what is left to a biller, and a row that falls.
use Rattle.std.specs.Prelude.{ℕ, ◌-◌, Bool, List, Option, ◌==◌, find}
use Rattle.std.specs.Option.{option_map}
use Rattle.tables.specs.declared.rows.CeilingRow.{CeilingRow}

abbrev pub of_biller : ℕ → CeilingRow → Bool
of_biller b r = b == r.biller

-- the amount left to a biller, if it has a row
abbrev pub left_to : ℕ → List CeilingRow → Option ℕ
left_to b rs = option_map (λ r. r.left) (find (of_biller b) rs)

abbrev pub lowered : ℕ → CeilingRow → CeilingRow
lowered m r = record { biller = r.biller; left = r.left - m }
