use Rattle.std.proofs.Common.{◌≡◌, Err, refl, sym, ◌∙◌, rules}
use Rattle.denials.specs.declared.Denial.TheVariants.{NotListed}
use Rattle.tables.proofs.Tabling as tabling
use Rattle.tables.proofs.table.Table.strike.Goals as goal

pub returns-in_err-i : goal.returns-in_err-i
returns-in_err-i g c =
    let denied : c.from_residual.result ≡ Err NotListed = search rules in
    let h = tabling.strike_absent g.R.Row.same g.R.Row.wide_key _ _ c.if-not-is_wide_key.ensures (sym c.in_err-i.ensures.ok_part ∙ c.position.ensures.value) in
    record { answer = denied ∙ h.0; rows = h.1; taken = λ _. refl }

pub returns : goal.returns
returns g c =
    let h = tabling.strike_there g.R.Row.same g.R.Row.wide_key _ _ c.if-not-is_wide_key.ensures _ (sym c.in_ok-i.ensures.ok_part ∙ c.position.ensures.value) in
    record { answer = h.0; rows = c.remove.ensures.items ∙ h.1; taken = λ _. refl }
