use Rattle.std.proofs.Common.{set, vec_items, sym, ap, ◌∙◌}
use Rattle.claims.proofs.Settling.{same_code, other_code}
use Rattle.hosts.specs.SheetsLemmas as sheets
use Rattle.hosts.proofs.sheet.SheetHost.debit.Goals as goal

pub index_mut-row-requires : goal.index_mut-row-requires
index_mut-row-requires c = sheets.inside (vec_items c.args.self.now.rows) _ _ c.in-Some.ensures.within c.args.self.now.rows.ok.0

pub returns-in_default : goal.returns-in_default
returns-in_default c =
    let h = sheets.missing _ _ _ c.terms.ensures.value c.in_default.ensures.value in
    record { answer = h.0; once = h.1 }

pub returns-then-eq : goal.returns-then-eq
returns-then-eq c =
    record {
      answer = c.result-code.ensures ∙ sheets.says _ _ _ c.terms.ensures.value _ _ c.in-Some.ensures.value c.in-Some.ensures.within c.index_mut-row.ensures.value;
      once = ap (λ r. set (vec_items c.args.self.now.rows) c.in-Some.i r) c.spend.ensures ∙ sheets.settled _ _ _ c.terms.ensures.value _ _ c.in-Some.ensures.value c.in-Some.ensures.within c.index_mut-row.ensures.value (sym c.result-code.ensures ∙ same_code _ _ c.if-eq.ensures);
    }

pub returns-else-eq : goal.returns-else-eq
returns-else-eq c =
    record {
      answer = c.result-code.ensures ∙ sheets.says _ _ _ c.terms.ensures.value _ _ c.in-Some.ensures.value c.in-Some.ensures.within c.index_mut-row.ensures.value;
      once = sheets.refused _ _ _ c.terms.ensures.value _ _ c.in-Some.ensures.value c.in-Some.ensures.within c.index_mut-row.ensures.value (λ v. other_code _ c.if-eq.ensures (c.result-code.ensures ∙ v));
    }
