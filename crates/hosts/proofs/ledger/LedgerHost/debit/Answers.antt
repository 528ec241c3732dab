use Rattle.std.proofs.Common.{set, vec_items, sym, ap, ◌∙◌}
use Rattle.claims.proofs.Settling.{same_code, other_code}
use Rattle.hosts.specs.LedgersLemmas as ledgers
use Rattle.hosts.proofs.ledger.LedgerHost.debit.Goals as goal

pub returns-in_default : goal.returns-in_default
returns-in_default c =
    let h = ledgers.missing _ _ _ c.terms-terms.ensures.value c.in_default.ensures.value in
    record { answer = h.0; once = h.1 }

pub returns-then-eq : goal.returns-then-eq
returns-then-eq c =
    record {
      answer = c.verdict-code.ensures ∙ ledgers.says _ _ _ c.terms-terms.ensures.value _ _ c.in-Some.ensures.value c.index_mut-row.ensures.value;
      once = ap (λ r. set (vec_items c.args.self.now.rows) c.in-Some.i r) c.draw.ensures ∙ ledgers.settled _ _ _ c.terms-terms.ensures.value _ _ c.in-Some.ensures.value c.index_mut-row.ensures.value (sym c.verdict-code.ensures ∙ same_code _ _ c.if-eq.ensures);
    }

pub returns-else-eq : goal.returns-else-eq
returns-else-eq c =
    record {
      answer = c.verdict-code.ensures ∙ ledgers.says _ _ _ c.terms-terms.ensures.value _ _ c.in-Some.ensures.value c.index_mut-row.ensures.value;
      once = ledgers.refused _ _ _ c.terms-terms.ensures.value _ _ c.in-Some.ensures.value c.index_mut-row.ensures.value (λ v. other_code _ c.if-eq.ensures (c.verdict-code.ensures ∙ v));
    }
