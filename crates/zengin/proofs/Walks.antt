-- One record on in a walk: the ways out, and the way on.
use Rattle.std.proofs.Common.{◌≡◌, ℕ, zero, suc, ◌+◌, ◌-◌, ◌*◌, ◌/◌, ◌^◌, ◌<◌, ◌≤◌, Bool, true, false, cond, eqb, List, [], length, get_or, take, drop, is_some, Some, None, Ok, Err, Option, Result, unwrap_or, ok_or, sym, refl, ap, ◌∙◌, subst, arith}
use Rattle.std.specs.Simd.{first_chunks}
use Rattle.std.proofs.lemmas.List.{drop-drop}
use Rattle.std.proofs.lemmas.Bool.{both_ways}
use Rattle.denials.specs.declared.Denial.{Denial}
use Rattle.denials.specs.declared.Fault.{Fault}
use Rattle.denials.specs.declared.Fault.TheVariants.{OutOfOrder, WrongCount, WrongAmount}
use Rattle.records.specs.declared.layouts.Sort.{Sort}
use Rattle.records.specs.declared.layouts.Sort.TheVariants.{Header, Data, Trailer, End}
use Rattle.records.specs.Layouts.{sort_of, fields_of}
use Rattle.records.specs.Fields.{Bytes, byte_in, test_fields, unless_fault}
use Rattle.zengin.specs.declared.order.Order.{Order}
use Rattle.zengin.specs.declared.order.Order.TheVariants.{Start, InGroup, AfterTrailer, Ended}
use Rattle.zengin.specs.declared.totals.Totals.{Totals}
use Rattle.zengin.specs.declared.totals.Figures.{Figures}
use Rattle.zengin.specs.declared.totals.Tally.{Tally}
use Rattle.zengin.specs.Files.{records_of, record_at}
use Rattle.zengin.specs.Judged.{next_order, has_ended, stated, tallied, Few, State, paired, step, step_sort, step_order, fault_at, onward, walk}

-- the records of a file, one by one
chunk_at : (n r : ℕ) (b : Bytes) → r < n → get_or (first_chunks 120 n b) r [] ≡ record_at b r
chunk_at zero r b h = absurd (omega arith)
chunk_at (suc n) zero b h = refl
chunk_at (suc n) (suc r) b h =
    let e : 120 + r * 120 ≡ suc r * 120 = omega arith in
    chunk_at n r (drop 120 b) (omega arith) ∙ ap (take 120) (drop-drop (r * 120) 120 b ∙ ap (λ m. drop m b) e)

pub record_item : (b : Bytes) (rs : List Bytes) (r : ℕ) → rs ≡ records_of b → r < length b / 120 → get_or rs r [] ≡ record_at b r
record_item b rs r e h = ap (λ l. get_or l r []) e ∙ chunk_at (length b / 120) r b h

-- the sort that a byte tells, or its fault
pub of_sort : {X E : Type 0} (o : Option X) (x : X) (e : E) → Ok x ≡ ok_or o e → o ≡ Some x
of_sort None x e is = let z : ◌≡◌ {A = ℕ} 0 1 = cc in absurd (omega arith)
of_sort (Some y) x e is = cc

pub of_no_sort : {X E : Type 0} (o : Option X) (f e : E) → Err f ≡ ok_or o e → o ≡ None
of_no_sort None f e is = refl
of_no_sort (Some y) f e is = let z : ◌≡◌ {A = ℕ} 0 1 = cc in absurd (omega arith)

pub no_sort_fault : {X E : Type 0} (o : Option X) (f e : E) → Err f ≡ ok_or o e → f ≡ e
no_sort_fault None f e is = cc
no_sort_fault (Some y) f e is = let z : ◌≡◌ {A = ℕ} 0 1 = cc in absurd (omega arith)

pub some_of : {X : Type 0} (o : Option X) (x d : X) → true ≡ is_some o → x ≡ unwrap_or o d → o ≡ Some x
some_of (Some y) x d e v = ap Some (sym v)
some_of None x d e v = absurd (both_ways true e refl)

pub none_of : {X : Type 0} (o : Option X) → false ≡ is_some o → o ≡ None
none_of (Some y) e = absurd (both_ways true (sym e) refl)
none_of None e = refl

module _ (b x : Bytes) (r end : ℕ) (o : Order) (t : Tally) (on : r < end) (item : x ≡ record_at b r) where
  -- what the rest of the walk makes of this record's step
  after : Result State Fault → Result Figures Denial
  after s = onward r s (walk b (r + 1) (end - (r + 1)))

  one_more : walk b r (end - r) (o, t) ≡ onward r (step x (o, t)) (walk b (r + 1) (end - (r + 1)))
  one_more =
      let e : end - r ≡ suc (end - (r + 1)) = omega arith in
      rw e (ap (λ y. onward r (step y (o, t)) (walk b (r + 1) (end - (r + 1)))) (sym item))

  pub unknown : sort_of (byte_in x 1) ≡ None → walk b r (end - r) (o, t) ≡ Err (fault_at r OutOfOrder)
  unfolding after
  unknown e = one_more ∙ ap (λ m. after (step_sort x (o, t) m)) e

  module _ (k : Sort) (is : sort_of (byte_in x 1) ≡ Some k) where
    pub not_here : next_order o k ≡ None → walk b r (end - r) (o, t) ≡ Err (fault_at r OutOfOrder)
    unfolding after
    not_here e = one_more ∙ ap (λ m. after (step_sort x (o, t) m)) is ∙ ap (λ m. after (step_order x t k m)) e

    module _ (o' : Order) (next : next_order o k ≡ Some o') where
      order_known : walk b r (end - r) (o, t) ≡ onward r (unless_fault (test_fields x (fields_of k)) (paired o' (tallied k (stated x k) t))) (walk b (r + 1) (end - (r + 1)))
      unfolding after
      order_known = one_more ∙ ap (λ m. after (step_sort x (o, t) m)) is ∙ ap (λ m. after (step_order x t k m)) next

      pub at_field : (f : Fault) → test_fields x (fields_of k) ≡ Err f → walk b r (end - r) (o, t) ≡ Err (fault_at r f)
      unfolding after
      at_field f e = order_known ∙ ap (λ m. after (unless_fault m (paired o' (tallied k (stated x k) t)))) e

      past_fields : test_fields x (fields_of k) ≡ Ok tt → (m : Result Tally Fault) → tallied k (stated x k) t ≡ m → walk b r (end - r) (o, t) ≡ onward r (paired o' m) (walk b (r + 1) (end - (r + 1)))
      unfolding after
      past_fields e m h = order_known ∙ ap (λ l. after (unless_fault l (paired o' (tallied k (stated x k) t)))) e ∙ ap (λ l. after (paired o' l)) h

      pub at_totals : (f : Fault) → test_fields x (fields_of k) ≡ Ok tt → tallied k (stated x k) t ≡ Err f → walk b r (end - r) (o, t) ≡ Err (fault_at r f)
      at_totals f e h = past_fields e (Err f) h

      pub goes_on : (t' : Tally) → test_fields x (fields_of k) ≡ Ok tt → tallied k (stated x k) t ≡ Ok t' → walk b r (end - r) (o, t) ≡ walk b (r + 1) (end - (r + 1)) (o', t')
      goes_on t' e h = past_fields e (Ok t') h

-- the end of a walk
pub at_end : (b : Bytes) (r end : ℕ) (o : Order) (t : Tally) → end ≤ r → walk b r (end - r) (o, t) ≡ cond (has_ended o) (Ok t.file) (Err (fault_at r OutOfOrder))
at_end b r end o t h = let e : end - r ≡ 0 = omega arith in rw e

pub not_ended : (o : Order) → (o ≡ Ended → ⊥) → has_ended o ≡ false
not_ended Start h = refl
not_ended InGroup h = refl
not_ended AfterTrailer h = refl
not_ended Ended h = absurd (h refl)

-- the tally stays small
few_of : (n : ℕ) (t t' : Tally) → ◌≡◌ {A = Result Tally Fault} (Ok t') (Ok t) → Few n t → Few n t'
few_of n t t' e h = let same : t ≡ t' = cc in subst (Few n) same h

few_wider : (r n : ℕ) (t : Tally) → r ≤ n → Few r t → Few n t
few_wider r n t l h = record {
  groups = omega (arith, h.groups);
  count = omega (arith, h.count);
  amount = omega (arith, h.amount);
  group_count = omega (arith, h.group_count);
  group_amount = omega (arith, h.group_amount);
}

few_checked : (p q : Bool) (r : ℕ) (t t' : Tally) → Ok t' ≡ cond p (cond q (Ok t) (Err WrongAmount)) (Err WrongCount) → Few r t → Few (r + 1) t'
few_checked true true r t t' e h = few_of (r + 1) t t' e (few_wider r (r + 1) t (omega arith) h)
few_checked true false r t t' e h = let z : ◌≡◌ {A = ℕ} 0 1 = cc in absurd (omega arith)
few_checked false q r t t' e h = let z : ◌≡◌ {A = ℕ} 0 1 = cc in absurd (omega arith)

pub few_more : (k : Sort) (s : Totals) (r : ℕ) (t t' : Tally) → Ok t' ≡ tallied k s t → s.amount < 10 ^ 12 → Few r t → Few (r + 1) t'
few_more Header s r t t' e l h =
    few_of (r + 1) _ t' e
    (record { groups = omega (arith, h.groups); count = omega (arith, h.count); amount = omega (arith, h.amount); group_count = omega arith; group_amount = omega arith })
few_more Data s r t t' e l h =
    few_of (r + 1) _ t' e
    (record {
      groups = omega (arith, h.groups);
      count = omega (arith, h.count);
      amount = omega (arith, h.amount);
      group_count = omega (arith, h.group_count);
      group_amount = omega (arith, h.group_amount);
    })
few_more Trailer s r t t' e l h = few_checked (eqb s.count t.group.count) (eqb s.amount t.group.amount) r t t' e h
few_more End s r t t' e l h = few_of (r + 1) t t' e (few_wider r (r + 1) t (omega arith) h)
