-- A layer that objects or passes down keeps the laws of a host, if what stands below keeps them.
use Rattle.std.specs.Prelude.{◌≡◌, ℕ, ◌≤◌, List, [], ◌∷◌, ◌++◌, Some, None, Option, MatchOption, ◌≢◌, refl}
use Rattle.std.proofs.Common.{sym, ap, ◌∙◌}
use Rattle.std.specs.Option.{unwrap_or, option_map_or}
use Rattle.claims.specs.declared.terms.Terms.{Terms}
use Rattle.claims.specs.declared.codes.ResultCode.{ResultCode}
use Rattle.claims.specs.declared.codes.ResultCode.TheVariants.{Settled}
use Rattle.claims.specs.Widths.{fifteen_digits, Wide}
use Rattle.hosts.specs.Meaning.{HostLaws, answered, uppermost}

passed_on : (o p q : Option ResultCode) → option_map_or Some o (option_map_or Some p q) ≡ option_map_or Some (option_map_or Some o p) q
passed_on None p q = refl
passed_on (Some k) p q = refl

-- the objection of registers above others
uppermost_above : (xs ys : List (Terms → Option ResultCode)) (c : Terms) → uppermost (xs ++ ys) c ≡ option_map_or Some (uppermost xs c) (uppermost ys c)
uppermost_above [] ys c = refl
uppermost_above (x ∷ xs) ys c = ap (λ (o : Option ResultCode). option_map_or Some (x c) o) (uppermost_above xs ys c) ∙ passed_on (x c) (uppermost xs c) (uppermost ys c)

answered_by : (o p : Option ResultCode) (g : ResultCode) → unwrap_or (option_map_or Some o p) g ≡ unwrap_or o (unwrap_or p g)
answered_by None p g = refl
answered_by (Some k) p g = refl

-- and their answer
answered_above : (xs ys : List (Terms → Option ResultCode)) (c : Terms) (g : ResultCode) → answered (xs ++ ys) c g ≡ unwrap_or (uppermost xs c) (answered ys c g)
answered_above xs ys c g = ap (λ (o : Option ResultCode). unwrap_or o g) (uppermost_above xs ys c) ∙ answered_by (uppermost xs c) (uppermost ys c) g

-- a host that means what is read from it keeps the laws, if what is read keeps them
pub read_laws : {S U : Type 0} {verdict : S → Terms → ResultCode} {taken : S → ℕ → ℕ} {debits : S → Terms → S → Type 0} {registers : S → List (Terms → Option ResultCode)} {bottom_verdict : S → Terms → ResultCode}
    → HostLaws verdict taken debits registers bottom_verdict → (read : U → S)
    → HostLaws (λ u. verdict (read u)) (λ u. taken (read u)) (λ u c v. debits (read u) c (read v)) (λ u. registers (read u)) (λ u. bottom_verdict (read u))
read_laws laws read = record {
  raises = λ u v. laws.raises (read u) (read v);
  figures = λ u v. laws.figures (read u) (read v);
  verdicts = λ u v. laws.verdicts (read u) (read v);
  limit = λ u. laws.limit (read u);
  uppermost = λ u. laws.uppermost (read u);
}

-- u stands above below u, and shows above u; kept: nothing changed; rest: what else a debit below comes with
module _ {S U : Type 0} (verdict : S → Terms → ResultCode) (taken : S → ℕ → ℕ) (debits : S → Terms → S → Type 0) (registers : S → List (Terms → Option ResultCode)) (bottom_verdict : S → Terms → ResultCode)
    (laws : HostLaws verdict taken debits registers bottom_verdict)
    (below : U → S) (above : U → List (Terms → Option ResultCode)) (rest kept : U → Terms → U → Type 0)
    (never : (u : U) (c : Terms) → uppermost (above u) c ≢ Some Settled)
    (stable : (u v : U) (c : Terms) → rest u c v → (verdict (below u) c ≢ Settled) → above v ≡ above u)
    (kept_above : (u v : U) (c : Terms) → kept u c v → above v ≡ above u)
    (kept_below : (u v : U) (c : Terms) → kept u c v → below v ≡ below u) where
  abbrev pub layer_verdict : U → Terms → ResultCode
  layer_verdict u c = unwrap_or (uppermost (above u) c) (verdict (below u) c)

  abbrev pub layer_debits : U → Terms → U → Type 0
  layer_debits u c v = MatchOption (uppermost (above u) c) (debits (below u) c (below v) × rest u c v) (λ _. kept u c v)

  -- a debit passes down if nothing above objects, and else leaves all as it is
  passed : (u v : U) (c : Terms) (o : Option ResultCode) → uppermost (above u) c ≡ o → MatchOption o (debits (below u) c (below v) × rest u c v) (λ _. kept u c v) → unwrap_or o (verdict (below u) c) ≡ Settled → debits (below u) c (below v) × (verdict (below u) c ≡ Settled)
  passed u v c None e d is = (d.0, is)
  passed u v c (Some k) e d is = absurd (never u c (e ∙ ap Some is))

  settled_below : (u : U) (c : Terms) (o : Option ResultCode) → uppermost (above u) c ≡ o → unwrap_or o (verdict (below u) c) ≡ Settled → verdict (below u) c ≡ Settled
  settled_below u c None e is = is
  settled_below u c (Some k) e is = absurd (never u c (e ∙ ap Some is))

  same_figure : (u v : U) (c : Terms) (o : Option ResultCode) → Wide c → MatchOption o (debits (below u) c (below v) × rest u c v) (λ _. kept u c v) → (unwrap_or o (verdict (below u) c) ≢ Settled) → (a : ℕ) → a ≤ fifteen_digits → taken (below v) a ≡ taken (below u) a
  same_figure u v c None w d n a l = laws.figures (below u) (below v) c w d.0 n a l
  same_figure u v c (Some k) w d n a l = ap (λ s. taken s a) (kept_below u v c d)

  same_verdict : (u v : U) (c : Terms) (o : Option ResultCode) → Wide c → MatchOption o (debits (below u) c (below v) × rest u c v) (λ _. kept u c v) → (unwrap_or o (verdict (below u) c) ≢ Settled) → (d : Terms) → Wide d → layer_verdict v d ≡ layer_verdict u d
  same_verdict u v c None w d n x wx = let high = stable u v c d.1 n in let low = laws.verdicts (below u) (below v) c w d.0 n x wx in cc
  same_verdict u v c (Some k) w d n x wx = let high = kept_above u v c d in let low = kept_below u v c d in cc

  pub layered : HostLaws layer_verdict (λ u. taken (below u)) layer_debits (λ u. above u ++ registers (below u)) (λ u. bottom_verdict (below u))
  layered = record {
    raises = λ u v c w d is a l. let p = passed u v c (uppermost (above u) c) refl d is in laws.raises (below u) (below v) c w p.0 p.1 a l;
    figures = λ u v c w d n a l. same_figure u v c (uppermost (above u) c) w d n a l;
    verdicts = λ u v c w d n x wx. same_verdict u v c (uppermost (above u) c) w d n x wx;
    limit = λ u c w is. laws.limit (below u) c w (settled_below u c (uppermost (above u) c) refl is);
    uppermost = λ u c w. ap (unwrap_or (uppermost (above u) c)) (laws.uppermost (below u) c w) ∙ sym (answered_above (above u) (registers (below u)) c (bottom_verdict (below u) c));
  }
