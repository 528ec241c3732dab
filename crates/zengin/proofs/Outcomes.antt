-- What a walk over a file tells: that the file is lawful and what it asks for, or its first offence.
use Rattle.std.proofs.Common.{◌≡◌, ℕ, zero, suc, ◌+◌, ◌*◌, ◌/◌, ◌%◌, ◌<◌, ◌≤◌, Bool, true, false, cond, eqb, ◌⊎◌, length, Some, None, Ok, Err, Option, Result, sym, refl, ap, ◌∙◌, subst, inl, inr, ⊎_elim, arith}
use Rattle.std.proofs.lemmas.Bool.{eqb-true, eqb-false, cases_lt}
use Rattle.denials.specs.declared.Denial.{Denial}
use Rattle.denials.specs.declared.Denial.TheVariants.{Faulty}
use Rattle.denials.specs.declared.Fault.{Fault}
use Rattle.denials.specs.declared.Fault.TheVariants.{OutOfOrder, WrongCount, WrongAmount}
use Rattle.denials.specs.declared.RecordFault.{RecordFault}
use Rattle.records.specs.declared.layouts.Sort.{Sort}
use Rattle.records.specs.declared.layouts.Sort.TheVariants.{Header, Data, Trailer, End}
use Rattle.records.specs.Layouts.{sort_of, fields_of}
use Rattle.records.specs.Fields.{Bytes, byte_in, test_fields, unless_fault}
use Rattle.records.specs.Kept.{IsA}
use Rattle.records.proofs.Kept.{fields_kept_if, fields_fault_if}
use Rattle.zengin.specs.declared.order.Order.{Order}
use Rattle.zengin.specs.declared.totals.Figures.{Figures}
use Rattle.zengin.specs.declared.totals.Tally.{Tally}
use Rattle.zengin.specs.Files.{record_at}
use Rattle.zengin.specs.Judged.{next_order, has_ended, amount_of, count_stated, amount_stated, totals, stated, with_claim, tally, tallied, paired, step_order, step_sort, fault_at, onward, walk}
use Rattle.zengin.specs.Lawful.{amounts, Opened, Groups, none, more}
use Rattle.zengin.specs.Offences.{Place, at_beginning, in_group, after_trailer, at_end, order_at, WholeGroups, Begun, Offence, missing, of_no_sort, out_of_place, in_field, wrong_count, wrong_amount, FirstOffence}

-- Where a walk stands: a lawful beginning, with a tally that tells its sums.

module _ (b : Bytes) where
  -- whole groups whose sums the file's figures tell
  pub record Summed (t : Tally) (r : ℕ) : Type 0 where
    pub some : 1 ≤ t.file.groups
    pub groups : Groups b t.file.groups t.file.requested.count t.file.requested.amount r

  -- a group that is open, with what came before it
  pub record Counted (t : Tally) (s n r : ℕ) : Type 0 where
    pub groups : ℕ
    pub count : ℕ
    pub amount : ℕ
    pub before : Groups b groups count amount s
    pub opened : Opened b s n
    pub here : r ≡ s + 1 + n
    pub group_count : t.group.count ≡ n
    pub group_amount : t.group.amount ≡ amounts b (s + 1) n
    pub file_groups : t.file.groups ≡ groups + 1
    pub file_count : t.file.requested.count ≡ count + n
    pub file_amount : t.file.requested.amount ≡ amount + amounts b (s + 1) n

  -- the end record is behind
  pub record Done (t : Tally) (r : ℕ) : Type 0 where
    pub end : ℕ
    pub groups : Summed t end
    pub ended : IsA End (record_at b end)
    pub here : r ≡ end + 1

  unfoldable pub Stands : Place → Tally → ℕ → Type 0
  Stands at_beginning t r = (r ≡ 0) × (t ≡ tally 0 (totals 0 0) (totals 0 0))
  Stands (in_group s n) t r = Counted t s n r
  Stands after_trailer t r = Summed t r
  Stands at_end t r = Done t r

  begun : (p : Place) (t : Tally) (r : ℕ) → Stands p t r → Begun b r p
  unfolding Stands
  begun at_beginning t r s = s.0
  begun (in_group a n) t r s = record { groups = s.groups; count = s.count; amount = s.amount; inner = s.before; opened = s.opened; here = s.here }
  begun after_trailer t r s = whole t r s
    where
      whole : (t : Tally) (r : ℕ) → Summed t r → WholeGroups b r
      whole t r s = record { groups = t.file.groups; count = t.file.requested.count; amount = t.file.requested.amount; some = s.some; inner = s.groups }
  begun at_end t r s =
      record {
        end = s.end;
        inner = record { groups = t.file.groups; count = t.file.requested.count; amount = t.file.requested.amount; some = s.groups.some; inner = s.groups.groups };
        ended = s.ended;
        here = s.here;
      }

  -- a place that goes with the next state of the order
  pub record Next (o : Order) (t : Tally) (r : ℕ) : Type 0 where
    pub place : Place
    pub is : order_at place ≡ o
    pub stands : Stands place t r

  -- a group opens
  opens : (t : Tally) (r g count amount : ℕ) → Groups b g count amount r → t.file.groups ≡ g → t.file.requested.count ≡ count → t.file.requested.amount ≡ amount
      → IsA Header (record_at b r) → Counted (tally (t.file.groups + 1) t.file.requested (totals 0 0)) r 0 (r + 1)
  opens t r g count amount before a z s is = record {
    groups = g;
    count = count;
    amount = amount;
    before = before;
    opened = record { header = is; inner = λ i h. absurd (omega arith) };
    here = omega arith;
    group_count = refl;
    group_amount = refl;
    file_groups = ap (λ n. n + 1) a;
    file_count = omega arith;
    file_amount = omega arith;
  }

  amounts_more : (r n : ℕ) → amounts b r (n + 1) ≡ amounts b r n + amount_of (record_at b (r + n))
  amounts_more r n = let e : n + 1 ≡ suc n = omega arith in rw e

  -- one data record more
  goes_in : (t : Tally) (s n r : ℕ) → Counted t s n r → IsA Data (record_at b r)
      → Counted (tally t.file.groups (with_claim t.file.requested (amount_of (record_at b r))) (with_claim t.group (amount_of (record_at b r)))) s (n + 1) (r + 1)
  goes_in t s n r c is =
      let here = c.here in
      let sum = amounts_more (s + 1) n in
      let this : amount_of (record_at b (s + 1 + n)) ≡ amount_of (record_at b r) = ap (λ i. amount_of (record_at b i)) (sym here) in
      record {
        groups = c.groups;
        count = c.count;
        amount = c.amount;
        before = c.before;
        opened = record {
          header = c.opened.header;
          inner = λ i h. ⊎_elim
              (λ l. c.opened.inner i l)
              (λ l. let e : s + 1 + i ≡ r = omega (arith, here) in subst (λ j. IsA Data (record_at b j)) (sym e) is)
              (cases_lt i n);
        };
        here = omega (arith, here);
        group_count = ap (λ m. m + 1) c.group_count;
        group_amount = omega (arith, c.group_amount, sum, this);
        file_groups = c.file_groups;
        file_count = omega (arith, c.file_count);
        file_amount = omega (arith, c.file_amount, sum, this);
      }

  -- the group's trailer, which states its totals
  closes : (t : Tally) (s n r : ℕ) → Counted t s n r → IsA Trailer (record_at b r) → count_stated (record_at b r) ≡ t.group.count → amount_stated (record_at b r) ≡ t.group.amount → Summed t (r + 1)
  closes t s n r c is count amount =
      let at = λ (P : ℕ → Type 0) (x : P r). subst P c.here x in
      record {
        some = omega (arith, c.file_groups);
        groups = more n c.before
            (record {
              opened = c.opened;
              trailer = at (λ j. IsA Trailer (record_at b j)) is;
              count = at (λ j. count_stated (record_at b j) ≡ n) (count ∙ c.group_count);
              amount = at (λ j. amount_stated (record_at b j) ≡ amounts b (s + 1) n) (amount ∙ c.group_amount);
            })
            c.file_groups c.file_count c.file_amount (ap (λ j. j + 1) c.here);
      }

  -- what a trailer's test tells
  TrailerTells : Bytes → Tally → Result Tally Fault → Type 0
  TrailerTells x t (Ok t') = (t ≡ t') × (count_stated x ≡ t.group.count) × (amount_stated x ≡ t.group.amount)
  TrailerTells x t (Err f) =
      ((f ≡ WrongCount) × (count_stated x ≡ t.group.count → ⊥))
      ⊎ ((f ≡ WrongAmount) × (count_stated x ≡ t.group.count) × (amount_stated x ≡ t.group.amount → ⊥))

  trailer_tested : (x : Bytes) (t : Tally) (p q : Bool) → eqb (count_stated x) t.group.count ≡ p → eqb (amount_stated x) t.group.amount ≡ q
      → TrailerTells x t (cond p (cond q (Ok t) (Err WrongAmount)) (Err WrongCount))
  unfolding TrailerTells
  trailer_tested x t true true c a = (refl, eqb-true _ _ c, eqb-true _ _ a)
  trailer_tested x t true false c a = inr (refl, eqb-true _ _ c, eqb-false _ _ a)
  trailer_tested x t false q c a = inl (refl, eqb-false _ _ c)

  trailer_tells : (x : Bytes) (t : Tally) (m : Result Tally Fault) → tallied Trailer (stated x Trailer) t ≡ m → TrailerTells x t m
  trailer_tells x t m e = subst (TrailerTells x t) e (trailer_tested x t (eqb (count_stated x) t.group.count) (eqb (amount_stated x) t.group.amount) refl refl)

  ok_is : {t u : Tally} → ◌≡◌ {A = Result Tally Fault} (Ok t) (Ok u) → t ≡ u
  ok_is e = cc

  some_is : {o u : Order} → ◌≡◌ {A = Option Order} (Some o) (Some u) → o ≡ u
  some_is e = cc

  never : {u : Order} {P : Type 0} → ◌≡◌ {A = Option Order} None (Some u) → P
  never e = let z : ◌≡◌ {A = ℕ} 0 1 = cc in absurd (omega arith)

  -- one record on
  turn : (p : Place) (k : Sort) (t : Tally) (r : ℕ) (o : Order) (t' : Tally) → next_order (order_at p) k ≡ Some o → IsA k (record_at b r) → tallied k (stated (record_at b r) k) t ≡ Ok t' → Stands p t r → Next o t' (r + 1)
  unfolding Stands TrailerTells
  turn at_beginning Header t r o t' next is e s =
      let g = opens t r 0 0 0 (none refl refl refl s.0) (ap (λ u. u.file.groups) s.1) (ap (λ u. u.file.requested.count) s.1) (ap (λ u. u.file.requested.amount) s.1) is in
      record { place = in_group r 0; is = some_is next; stands = subst (λ u. Counted u r 0 (r + 1)) (ok_is e) g }
  turn at_beginning Data t r o t' next is e s = never next
  turn at_beginning Trailer t r o t' next is e s = never next
  turn at_beginning End t r o t' next is e s = never next
  turn (in_group a n) Header t r o t' next is e s = never next
  turn (in_group a n) Data t r o t' next is e s =
      record { place = in_group a (n + 1); is = some_is next; stands = subst (λ u. Counted u a (n + 1) (r + 1)) (ok_is e) (goes_in t a n r s is) }
  turn (in_group a n) Trailer t r o t' next is e s =
      let told = trailer_tells (record_at b r) t (Ok t') e in
      record { place = after_trailer; is = some_is next; stands = subst (λ u. Summed u (r + 1)) told.0 (closes t a n r s is told.1 told.2) }
  turn (in_group a n) End t r o t' next is e s = never next
  turn after_trailer Header t r o t' next is e s =
      let g = opens t r t.file.groups t.file.requested.count t.file.requested.amount s.groups refl refl refl is in
      record { place = in_group r 0; is = some_is next; stands = subst (λ u. Counted u r 0 (r + 1)) (ok_is e) g }
  turn after_trailer Data t r o t' next is e s = never next
  turn after_trailer Trailer t r o t' next is e s = never next
  turn after_trailer End t r o t' next is e s =
      record { place = at_end; is = some_is next; stands = subst (λ u. Done u (r + 1)) (ok_is e) (record { end = r; groups = s; ended = is; here = refl }) }
  turn at_end k t r o t' next is e s = never next

  ok_err : {t : Tally} {f : Fault} {P : Type 0} → ◌≡◌ {A = Result Tally Fault} (Ok t) (Err f) → P
  ok_err e = let z : ◌≡◌ {A = ℕ} 0 1 = cc in absurd (omega arith)

  -- only a trailer's totals can be wrong, and only in a group
  untold : (p : Place) (k : Sort) (t : Tally) (r : ℕ) (o : Order) (f : Fault) → next_order (order_at p) k ≡ Some o → IsA k (record_at b r) → r * 120 < length b → tallied k (stated (record_at b r) k) t ≡ Err f → Stands p t r → Offence b r p f
  unfolding Stands TrailerTells
  untold p Header t r o f next is there e s = ok_err e
  untold p Data t r o f next is there e s = ok_err e
  untold p End t r o f next is there e s = ok_err e
  untold at_beginning Trailer t r o f next is there e s = never next
  untold (in_group a n) Trailer t r o f next is there e s =
      ⊎_elim
      (λ w. subst (Offence b r (in_group a n)) (sym w.0) (wrong_count a n refl there is (λ q. w.1 (q ∙ sym s.group_count))))
      (λ w. subst (Offence b r (in_group a n)) (sym w.0) (wrong_amount a n refl there is (w.1 ∙ s.group_count) (λ q. w.2 (q ∙ sym s.group_amount))))
      (trailer_tells (record_at b r) t (Err f) e)
  untold after_trailer Trailer t r o f next is there e s = never next
  untold at_end Trailer t r o f next is there e s = never next

  -- What is known after the walk.

  pub record Passed (figures : Figures) : Type 0 where
    pub tally_then : Tally
    pub is : tally_then.file ≡ figures
    pub done : Done tally_then (length b / 120)

  pub record Refused (d : Denial) : Type 0 where
    pub fault : RecordFault
    pub is : Faulty fault ≡ d
    pub first : FirstOffence b fault

  unfoldable pub Outcome : Result Figures Denial → Type 0
  Outcome (Ok figures) = Passed figures
  Outcome (Err d) = Refused d

  refused : (p : Place) (t : Tally) (r : ℕ) (f : Fault) → Stands p t r → Offence b r p f → Refused (fault_at r f)
  refused p t r f s o = record {
    fault = record { «record» = r + 1; fault = f };
    is = refl;
    first = record { index = r; number = refl; place = p; before = begun p t r s; offence = o };
  }

  walked : (p : Place) (t : Tally) (r : ℕ) → r ≡ length b / 120 → length b % 120 ≡ 0 → Stands p t r → Outcome (cond (has_ended (order_at p)) (Ok t.file) (Err (fault_at r OutOfOrder)))
  unfolding Outcome Stands
  walked at_beginning t r here whole s = refused at_beginning t r OutOfOrder s (missing (omega arith) (λ e. let z : ◌≡◌ {A = ℕ} 0 1 = cc in omega arith))
  walked (in_group a n) t r here whole s = refused (in_group a n) t r OutOfOrder s (missing (omega arith) (λ e. let z : ◌≡◌ {A = ℕ} 0 1 = cc in omega arith))
  walked after_trailer t r here whole s = refused after_trailer t r OutOfOrder s (missing (omega arith) (λ e. let z : ◌≡◌ {A = ℕ} 0 1 = cc in omega arith))
  walked at_end t r here whole s = record { tally_then = t; is = refl; done = subst (Done t) here s }

  -- one record, by each of its tests in turn, and what the later ones tell
  module _ (p : Place) (t : Tally) (r n : ℕ) (there : r * 120 < length b) (s : Stands p t r) (later : (q : Place) (u : Tally) → Stands q u (r + 1) → Outcome (walk b (r + 1) n (order_at q, u))) where
    by_tally : (k : Sort) (o : Order) → next_order (order_at p) k ≡ Some o → IsA k (record_at b r) → (m : Result Tally Fault) → tallied k (stated (record_at b r) k) t ≡ m → Outcome (onward r (paired o m) (walk b (r + 1) n))
    unfolding Outcome
    by_tally k o next is (Ok u) e =
        let then = turn p k t r o u next is e s in
        subst (λ w. Outcome (walk b (r + 1) n (w, u))) then.is (later then.place u then.stands)
    by_tally k o next is (Err f) e = refused p t r f s (untold p k t r o f next is there e s)

    by_fields : (k : Sort) (o : Order) → sort_of (byte_in (record_at b r) 1) ≡ Some k → next_order (order_at p) k ≡ Some o → (m : Result (Unit {0}) Fault) → test_fields (record_at b r) (fields_of k) ≡ m
        → Outcome (onward r (unless_fault m (paired o (tallied k (stated (record_at b r) k) t))) (walk b (r + 1) n))
    unfolding Outcome
    by_fields k o is next (Ok v) e = by_tally k o next (record { sort = is; fields = fields_kept_if k (record_at b r) e }) (tallied k (stated (record_at b r) k) t) refl
    by_fields k o is next (Err f) e =
        refused p t r f s (in_field k (record { there = there; sort = is; next = o; follows = next }) (fields_fault_if k (record_at b r) f e))

    by_order : (k : Sort) → sort_of (byte_in (record_at b r) 1) ≡ Some k → (m : Option Order) → next_order (order_at p) k ≡ m → Outcome (onward r (step_order (record_at b r) t k m) (walk b (r + 1) n))
    unfolding Outcome
    by_order k is None e = refused p t r OutOfOrder s (out_of_place there k is e)
    by_order k is (Some o) e = by_fields k o is e (test_fields (record_at b r) (fields_of k)) refl

    by_sort : (m : Option Sort) → sort_of (byte_in (record_at b r) 1) ≡ m → Outcome (onward r (step_sort (record_at b r) (order_at p, t) m) (walk b (r + 1) n))
    unfolding Outcome
    by_sort None e = refused p t r OutOfOrder s (of_no_sort there e)
    by_sort (Some k) e = by_order k e (next_order (order_at p) k) refl

  pub outcome : (n r : ℕ) (p : Place) (t : Tally) → r + n ≡ length b / 120 → length b % 120 ≡ 0 → Stands p t r → Outcome (walk b r n (order_at p, t))
  outcome zero r p t here whole s = walked p t r (omega arith) whole s
  outcome (suc n) r p t here whole s =
      by_sort p t r n (omega arith) s (λ q u later. outcome n (r + 1) q u (omega arith) whole later) (sort_of (byte_in (record_at b r) 1)) refl
