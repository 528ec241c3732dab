use Rattle.std.proofs.Common.{◌≡◌, ℕ, ◌-◌, List, slice_index_or, slice_set, Some, sym, ap, ◌∙◌}
use Rattle.std.specs.List.{position_from}
use Rattle.hosts.specs.Firsts.{at_first}
use Rattle.hosts.specs.FirstsLemmas.{at_read, at_none}
use Rattle.tables.specs.declared.rows.CeilingRow.{CeilingRow}
use Rattle.tables.specs.Ceilings.{of_biller, lowered}
use Rattle.tables.proofs.table.ceilings.Table+CeilingRow.lower.Goals as goal

-- the row at the place that was found falls
fallen : (rs : List CeilingRow) (b m i x : ℕ) (r : CeilingRow) → Some i ≡ position_from (of_biller b) 0 rs → r ≡ slice_index_or rs i r → x ≡ r.left - m → slice_set rs i (record { biller = r.biller; left = x }) ≡ at_first (of_biller b) (lowered m) rs
fallen rs b m i x r e read s = ap (λ (y : ℕ). slice_set rs i (record { biller = r.biller; left = y })) s ∙ sym (at_read (of_biller b) (lowered m) rs i r e read).1

pub returns-in-Some : goal.returns-in-Some
returns-in-Some c = fallen _ _ _ _ _ _ c.in-Some.ensures.value c.index_mut-row.ensures.value c.saturating_sub-row.ensures

pub returns-in_default : goal.returns-in_default
returns-in_default c = sym (at_none (of_biller c.args.biller) (lowered c.args.amount) _ c.in_default.ensures.value (record { biller = 0; left = 0 })).1
