-- A file that is made of groups and an end record passes the walk.
use Rattle.std.proofs.Common.{◌≡◌, ℕ, zero, suc, ◌+◌, ◌-◌, ◌/◌, ◌<◌, ◌≤◌, length, Some, Ok, sym, refl, ap, ◌∙◌, arith}
use Rattle.std.proofs.lemmas.Bool.{cond-true, eq-eqb}
use Rattle.records.specs.declared.layouts.Sort.{Sort}
use Rattle.records.specs.declared.layouts.Sort.TheVariants.{Header, Data, Trailer, End}
use Rattle.records.specs.Fields.{Bytes}
use Rattle.records.specs.Kept.{IsA}
use Rattle.records.proofs.Kept.{fields_if_kept}
use Rattle.zengin.specs.declared.order.Order.{Order}
use Rattle.zengin.specs.declared.order.Order.TheVariants.{Start, InGroup, AfterTrailer, Ended}
use Rattle.zengin.specs.declared.totals.Totals.{Totals}
use Rattle.zengin.specs.declared.totals.Figures.{Figures}
use Rattle.zengin.specs.declared.totals.Tally.{Tally}
use Rattle.zengin.specs.Files.{record_at}
use Rattle.zengin.specs.Judged.{next_order, amount_of, count_stated, amount_stated, totals, stated, tally, tallied, walk, at_start}
use Rattle.zengin.specs.Lawful.{amounts, Opened, Group, Groups, none, more, LawfulAsking}
use Rattle.zengin.proofs.Walks.{goes_on, at_end}

-- where the order stands after g groups
unfoldable pub order_after : ℕ → Order
order_after zero = Start
order_after (suc g) = AfterTrailer

pub header_follows : (g : ℕ) → next_order (order_after g) Header ≡ Some InGroup
unfolding order_after
header_follows zero = refl
header_follows (suc g) = refl

module _ (b : Bytes) (end : ℕ) where
  -- the walk goes on past a record of that sort
  pub past : (k : Sort) (r : ℕ) (o o' : Order) (t t' : Tally) → r < end → IsA k (record_at b r) → next_order o k ≡ Some o' → tallied k (stated (record_at b r) k) t ≡ Ok t' → walk b r (end - r) (o, t) ≡ walk b (r + 1) (end - (r + 1)) (o', t')
  past k r o o' t t' on is next told = goes_on b (record_at b r) r end o t on refl k is.sort o' next t' (fields_if_kept k (record_at b r) is.fields) told

  -- a group that is open, after i of its data records
  pub inside : (s n : ℕ) → Opened b s n → s + n < end → (g count amount : ℕ) (i : ℕ) → i ≤ n
      → walk b (s + 1) (end - (s + 1)) (InGroup, tally g (totals count amount) (totals 0 0))
      ≡ walk b (s + 1 + i) (end - (s + 1 + i)) (InGroup, tally g (totals (count + i) (amount + amounts b (s + 1) i)) (totals i (amounts b (s + 1) i)))
  inside s n opened on g count amount zero h =
      let z : s + 1 + 0 ≡ s + 1 = omega arith in
      let c : count + 0 ≡ count = omega arith in
      let a : amount + 0 ≡ amount = omega arith in
      rw (z, c, a)
  inside s n opened on g count amount (suc i) h =
      let one = past Data (s + 1 + i) InGroup InGroup (tally g (totals (count + i) (amount + amounts b (s + 1) i)) (totals i (amounts b (s + 1) i))) _ (omega arith) (opened.inner i (omega arith)) refl refl in
      let r : s + 1 + suc i ≡ s + 1 + i + 1 = omega arith in
      let c : count + suc i ≡ count + i + 1 = omega arith in
      let m : suc i ≡ i + 1 = omega arith in
      let a : amount + (amounts b (s + 1) i + amount_of (record_at b (s + 1 + i))) ≡ amount + amounts b (s + 1) i + amount_of (record_at b (s + 1 + i)) = omega arith in
      inside s n opened on g count amount i (omega arith) ∙ one
      ∙ (λ j. walk b (sym r j) (end - sym r j) (InGroup, tally g (totals (sym c j) (sym a j)) (totals (sym m j) (amounts b (s + 1) (suc i)))))

  -- the walk from the start comes to the end of g groups
  pub record Came (g count amount s : ℕ) : Type 0 where
    pub group : Totals
    pub by : walk b 0 (end - 0) at_start ≡ walk b s (end - s) (order_after g, tally g (totals count amount) group)

  whole_group : (g count amount s n : ℕ) (t : Totals) → Group b s n → s + n + 1 < end
      → walk b s (end - s) (order_after g, tally g (totals count amount) t)
      ≡ walk b (s + 1 + n + 1) (end - (s + 1 + n + 1)) (AfterTrailer, tally (g + 1) (totals (count + n) (amount + amounts b (s + 1) n)) (totals n (amounts b (s + 1) n)))
  whole_group g count amount s n t group on =
      let all = amounts b (s + 1) n in
      past Header s (order_after g) InGroup (tally g (totals count amount) t) (tally (g + 1) (totals count amount) (totals 0 0)) (omega arith) group.opened.header (header_follows g) refl
      ∙ inside s n group.opened (omega arith) (g + 1) count amount n (omega arith)
      ∙ past Trailer (s + 1 + n) InGroup AfterTrailer (tally (g + 1) (totals (count + n) (amount + amounts b (s + 1) n)) (totals n (amounts b (s + 1) n))) (tally (g + 1) (totals (count + n) (amount + amounts b (s + 1) n)) (totals n (amounts b (s + 1) n))) (omega arith) group.trailer refl
      (cond-true _ _ _ (eq-eqb (count_stated (record_at b (s + 1 + n))) n group.count) ∙ cond-true _ _ _ (eq-eqb (amount_stated (record_at b (s + 1 + n))) (amounts b (s + 1) n) group.amount))

  pub came : {g count amount s : ℕ} → Groups b g count amount s → s ≤ end → Came g count amount s
  unfolding order_after
  came {g} {count} {amount} {s} (none a c m z) on = record {
    group = totals 0 0;
    by = λ i. walk b (sym z i) (end - sym z i) (order_after (sym a i), tally (sym a i) (totals (sym c i) (sym m i)) (totals 0 0));
  }
  came {g} {count} {amount} {s} (more {g' = h} {count' = c} {amount' = m} {s = a} n before group is_g is_count is_amount is_s) on =
      let earlier = came before (omega arith) in
      let next = whole_group h c m a n earlier.group group (omega arith) in
      let one : suc h ≡ g = omega (arith, is_g) in
      record {
        group = totals n (amounts b (a + 1) n);
        by = earlier.by ∙ next ∙ (λ i. walk b (sym is_s i) (end - sym is_s i) (order_after (one i), tally (sym is_g i) (totals (sym is_count i) (sym is_amount i)) (totals n (amounts b (a + 1) n))));
      }

  -- after at least one group the end record may come
  pub end_follows : (g : ℕ) → 1 ≤ g → next_order (order_after g) End ≡ Some Ended
  unfolding order_after
  end_follows zero h = absurd (omega arith)
  end_follows (suc g) h = refl

pub lawful_walks : (b : Bytes) (figures : Figures) → LawfulAsking b figures → walk b 0 (length b / 120) at_start ≡ Ok figures
lawful_walks b figures l =
    let all = l.end + 1 in
    let long = l.whole in
    let n : length b / 120 ≡ l.end + 1 - 0 = omega arith in
    let earlier = came b (l.end + 1) l.groups (omega arith) in
    ap (λ m. walk b 0 m at_start) n ∙ earlier.by
    ∙ past b (l.end + 1) End l.end (order_after figures.groups) Ended (tally figures.groups figures.requested earlier.group) (tally figures.groups figures.requested earlier.group) (omega arith) l.ended (end_follows b (l.end + 1) figures.groups l.some) refl
    ∙ at_end b (l.end + 1) (l.end + 1) Ended (tally figures.groups figures.requested earlier.group) (omega arith)
